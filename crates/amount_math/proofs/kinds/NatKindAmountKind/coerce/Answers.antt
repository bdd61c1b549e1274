use Rattle.std.proofs.Common.{◌≡◌, sym}
use Rattle.amount_math.specs.declared.Kind.TheVariants.{Nat}
use Rattle.amount_math.proofs.kinds.NatKindAmountKind.coerce.Goals as goal

pub returns-in-Nat-clause-value : goal.returns-in-Nat-clause-value
returns-in-Nat-clause-value c = let own : c.args.value.kind ≡ Nat = sym c.in-Nat.ensures.kind in λ _. (own, rw own at c.in-Nat.ensures.value)
