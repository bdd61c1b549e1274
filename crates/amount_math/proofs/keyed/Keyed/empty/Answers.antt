use Rattle.std.proofs.Common.{ap}
use Rattle.amount_math.specs.Content.{Content, of_entries-nil}
use Rattle.amount_math.proofs.keyed.Keyed.empty.Goals as goal

pub returns : goal.returns
returns c = ap (λ (x : Content). record { content = x; room = 0 }) of_entries-nil
