use Rattle.std.proofs.Common.{refl, ap, sym, arith}
use Rattle.amount_math.specs.declared.Kind.TheVariants.{Nat}
use Rattle.amount_math.specs.Content.{Content, sum-of_nat}
use Rattle.amount_math.proofs.Shapes.{sum_bounded}
use Rattle.amount_math.proofs.shape.Shape.put_back.Goals as goal
use Rattle.amount_math.proofs.shape.Shape.put_back.Goals.{in-Nat-Nat, in-Set-Set, in-Bag-Bag}

pub overflow_add-held : goal.overflow_add-held
overflow_add-held c = let goes = rw (c.in-Nat-Nat.is-0, c.in-Nat-Nat.is-1) at c.requires in omega (arith, sum_bounded c.in-Nat-Nat.held c.in-Nat-Nat.number goes.fits)

pub returns : goal.returns
returns c = elim c.match-self.branch [
  | in-Nat-Nat w ↦ rw (w.self-is, w.in-Nat-Nat.is-0, w.in-Nat-Nat.is-1) (ap (λ (x : Content). record { value = record { kind = Nat; content = x }; room = 0 }) (sym (sum-of_nat w.in-Nat-Nat.held w.in-Nat-Nat.number)))
  | in-Set-Set w ↦ rw (w.self-is, w.in-Set-Set.is-0, w.in-Set-Set.is-1, w.put_back.ensures) refl
  | in-Bag-Bag w ↦ rw (w.self-is, w.in-Bag-Bag.is-0, w.in-Bag-Bag.is-1, w.put_back-in-Bag-Bag.ensures) refl
]
