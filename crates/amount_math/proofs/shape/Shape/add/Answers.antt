use Rattle.std.proofs.Common.{ap, sym, arith}
use Rattle.amount_math.specs.declared.Kind.TheVariants.{Nat, Set, Bag}
use Rattle.amount_math.specs.Content.{Content, of_nat_zero, sum-of_nat}
use Rattle.amount_math.proofs.Shapes.{sum_bounded}
use Rattle.std.proofs.lemmas.Result.{on_ok_weaker}
use Rattle.amount_math.proofs.shape.Shape.add.Goals as goal
use Rattle.amount_math.proofs.shape.Shape.add.Goals.{in-Nat-Nat, in-Set-Set, in-Bag-Bag}

pub overflow_add-held : goal.overflow_add-held
overflow_add-held c = let fits = rw (c.in-Nat-Nat.is-0, c.in-Nat-Nat.is-1) at c.requires.fits in omega (arith, sum_bounded c.in-Nat-Nat.held c.in-Nat-Nat.number fits)

pub returns-clause-ok : goal.returns-clause-ok
returns-clause-ok c = elim c.match-self.branch [
  | in-Nat-Nat w ↦ rw (w.result-is, w.self-is, w.in-Nat-Nat.is-0, w.in-Nat-Nat.is-1) (ap (λ (x : Content). record { kind = Nat; content = x }) (sym (sum-of_nat w.in-Nat-Nat.held w.in-Nat-Nat.number)))
  | in-Set-Set w ↦ rw (w.result-is, w.self-is, w.in-Set-Set.is-0, w.in-Set-Set.is-1) (on_ok_weaker _ (ap (λ (x : Content). record { kind = Set; content = x })) w.absorb.ensures.ok)
  | in-Bag-Bag w ↦ rw (w.result-is, w.self-is, w.in-Bag-Bag.is-0, w.in-Bag-Bag.is-1) (on_ok_weaker _ (ap (λ (x : Content). record { kind = Bag; content = x })) w.absorb-in-Bag-Bag.ensures.ok)
]

pub returns-clause-taken : goal.returns-clause-taken
returns-clause-taken c = elim c.match-self.branch [
  | in-Nat-Nat w ↦ rw (w.result-is, w.more-is, w.in-Nat-Nat.is-1) (ap (λ (x : Content). record { kind = Nat; content = x }) of_nat_zero)
  | in-Set-Set w ↦ rw (w.result-is, w.more-is, w.in-Set-Set.is-1) (on_ok_weaker _ (ap (λ (x : Content). record { kind = Set; content = x })) w.absorb.ensures.taken)
  | in-Bag-Bag w ↦ rw (w.result-is, w.more-is, w.in-Bag-Bag.is-1) (on_ok_weaker _ (ap (λ (x : Content). record { kind = Bag; content = x })) w.absorb-in-Bag-Bag.ensures.taken)
]
