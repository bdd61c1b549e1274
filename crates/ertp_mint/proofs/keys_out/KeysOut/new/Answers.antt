use Rattle.std.proofs.Common.{ap, ◌∙◌}
use Rattle.amount_math.specs.Content.{of_entries-nil}
use Rattle.ertp_mint.specs.Places.{seen}
use Rattle.ertp_mint.proofs.keys_out.KeysOut.new.Goals as goal

pub returns : goal.returns
returns c = ap seen c.new.ensures.empty ∙ (λ i. record { out = of_entries-nil i; kept = of_entries-nil i })
