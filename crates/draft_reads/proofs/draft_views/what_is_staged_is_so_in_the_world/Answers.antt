use Rattle.draft_reads.proofs.Staged.{staged_ended, staged_with}
use Rattle.draft_reads.proofs.draft_views.what_is_staged_is_so_in_the_world.Goals as goal

pub returns : goal.returns
returns c = record { staged = staged_with; ended = staged_ended }
