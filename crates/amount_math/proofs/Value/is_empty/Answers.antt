use Rattle.std.proofs.Common.{◌≡◌, ap, arith}
use Rattle.std.proofs.lemmas.Bool.Decides.{nat_tests}
use Rattle.amount_math.specs.Content.{of_nat, of_nat_zero}
use Rattle.amount_math.proofs.Shapes.{nothing-of_nat}
use Rattle.amount_math.proofs.Value.is_empty.Goals as goal

pub returns-in-Nat : goal.returns-in-Nat
returns-in-Nat c =
    let content : of_nat c.in-Nat.number ≡ c.args.self.now.content = ap (λ w. w.content) (rw c.in-Nat.is at c.self.view_is) in (
      λ is. let zero : c.in-Nat.number ≡ 0 = grind (arith, nat_tests) in rw (← content, zero) of_nat_zero,
      λ e. let zero = nothing-of_nat c.in-Nat.number (rw content e) in grind (arith, nat_tests, zero),
    )
