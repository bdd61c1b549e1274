use Rattle.std.proofs.Common.{ap, ◌∙◌}
use Rattle.row_records.specs.amount_math.Content.{of_entries}
use Rattle.told_rights.proofs.Kept.{listing-clone, some_alike}
use Rattle.told_rights.proofs.contents.Contents.copy.Goals as goal

pub invariant_of-result : goal.invariant_of-result
invariant_of-result c = some_alike c.self.inside.counts.entries c.in_ok-counts.counts.entries (listing-clone c.self.inside.counts.entries c.in_ok-counts.counts.entries c.in_ok-counts.ensures.cases) c.self.invariant

pub returns : goal.returns
returns c = ap of_entries (listing-clone c.self.inside.counts.entries c.in_ok-counts.counts.entries c.in_ok-counts.ensures.cases) ∙ c.self.view_is
