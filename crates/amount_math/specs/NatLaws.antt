-- The content of a nat value is a value of its kind.
use Rattle.std.specs.Prelude.{ℕ, ◌≤◌, Bool, true, false, cond}
use Rattle.std.proofs.Common.{ap, sym, subst, arith}
use Rattle.std.specs.Ordering.{eq_by_cmp}
use Rattle.amount_math.specs.Content.{nothing, of_nat_zero, key_cmp, unit, of_nat, count-of_nat, count-of_nat_unit}
use Rattle.amount_math.specs.ValueView.{IsNat, nat_bound}

choose_most : (b : Bool) (n m : ℕ) → n ≤ m → cond b n 0 ≤ m
choose_most true n m h = h
choose_most false n m h = omega arith

pub IsNat-of_nat : (n : ℕ) → n ≤ nat_bound → IsNat (of_nat n)
IsNat-of_nat n h = record {
  only_units = ap of_nat (sym (count-of_nat_unit n));
  fits = record { each = λ k. subst (λ x. x ≤ nat_bound) (sym (count-of_nat n k)) (choose_most (eq_by_cmp key_cmp k unit) n nat_bound h) };
}

pub nothing_is_nat : IsNat nothing
nothing_is_nat = subst IsNat of_nat_zero (IsNat-of_nat 0 (omega arith))
