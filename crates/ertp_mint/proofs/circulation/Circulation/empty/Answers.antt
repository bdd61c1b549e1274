use Rattle.std.proofs.Common.{subst, sym}
use Rattle.ertp_mint.specs.Circulating.{Circulates}
use Rattle.ertp_mint.proofs.Circulated.{circulates_new, view_of}
use Rattle.ertp_mint.proofs.circulation.Circulation.empty.Goals as goal

pub invariant_of-result : goal.invariant_of-result
invariant_of-result c = subst (λ keys. Circulates (view_of c.args.kind keys 0 0)) (sym c.new.ensures) (circulates_new c.args.kind)
