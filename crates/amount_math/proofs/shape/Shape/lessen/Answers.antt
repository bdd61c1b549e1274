use Rattle.std.proofs.Common.{refl, ap, sym}
use Rattle.amount_math.specs.declared.Kind.TheVariants.{Nat}
use Rattle.amount_math.specs.Content.{Content, difference-of_nat, le-Contains_of_nat}
use Rattle.amount_math.proofs.shape.Shape.lessen.Goals as goal
use Rattle.amount_math.proofs.shape.Shape.lessen.Goals.{in-Nat-Nat, in-Set-Set, in-Bag-Bag}

pub overflow_sub-held : goal.overflow_sub-held
overflow_sub-held c = le-Contains_of_nat c.in-Nat-Nat.held c.in-Nat-Nat.number (rw (c.in-Nat-Nat.is-0, c.in-Nat-Nat.is-1) at c.requires.enough)

pub returns-clause-less : goal.returns-clause-less
returns-clause-less c = elim c.match-self.branch [
  | in-Nat-Nat w ↦ rw (w.self-is, w.in-Nat-Nat.is-0, w.in-Nat-Nat.is-1) (ap (λ (x : Content). record { kind = Nat; content = x }) (sym (difference-of_nat w.in-Nat-Nat.held w.in-Nat-Nat.number)))
  | in-Set-Set w ↦ rw (w.self-is, w.in-Set-Set.is-0, w.in-Set-Set.is-1, w.lessen.ensures) refl
  | in-Bag-Bag w ↦ rw (w.self-is, w.in-Bag-Bag.is-0, w.in-Bag-Bag.is-1, w.lessen-in-Bag-Bag.ensures) refl
]

pub returns-clause-room : goal.returns-clause-room
returns-clause-room c = elim c.match-self.branch [
  | in-Nat-Nat w ↦ rw (w.self-is, w.in-Nat-Nat.is-0) refl
  | in-Set-Set w ↦ rw (w.self-is, w.in-Set-Set.is-0, w.lessen.ensures) refl
  | in-Bag-Bag w ↦ rw (w.self-is, w.in-Bag-Bag.is-0, w.lessen-in-Bag-Bag.ensures) refl
]
