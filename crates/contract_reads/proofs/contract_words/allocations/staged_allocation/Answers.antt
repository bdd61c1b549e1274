use Rattle.std.proofs.Common.{◌∙◌, ap, refl, sym}
use Rattle.host_world.specs.seats.Staging.{staged_at}
use Rattle.contract_reads.proofs.Allocated.{is_none_left, last_read, staged_read}
use Rattle.contract_reads.proofs.contract_words.allocations.staged_allocation.Goals as goal

pub unreachable-requires : goal.unreachable-requires
unreachable-requires c = is_none_left _ (sym (last_read c.seats.result.now.seats _ c.args.seat c.seats.ensures.seats c.requires.made) ∙ c.requires.«open») ((c.in-Err.ensures.exited).0 refl)

pub returns : goal.returns
returns c = c.in-Ok.ensures.ok ∙ ap (staged_at c.args.seat) c.seats.ensures.staging ∙ sym (staged_read c.args.seat _ _ c.requires.made)
