-- Numbers grow with each digit.
use Rattle.std.proofs.Common.{◌≡◌, ℕ, ◌+◌, ◌-◌, ◌*◌, ◌<◌, ◌≤◌, List, [], ◌∷◌, suc, arith}
use Rattle.std.proofs.lemmas.Bool.Decides.{nat_tests}
use Rattle.jessie_grammar.specs.Lex.{decimal_from, capped, limit}

grows : (n : ℕ) (bs : List ℕ) → n ≤ decimal_from n bs
unfolding decimal_from
grows n [] = omega arith
grows n (b ∷ bs) = omega (arith, grows (10 * n + (b - 48)) bs)

pub too_large : (n : ℕ) (bs : List ℕ) → limit < n → capped (decimal_from n bs) ≡ suc limit
too_large n bs h = let i : limit < decimal_from n bs = omega (arith, grows n bs) in grind (arith, nat_tests)
