-- Names of objects, told apart by their numbers.
use Rattle.std.specs.Prelude.{cond, nat_lt}
use Rattle.std.proofs.Common.{◌≡◌, ℕ, zero, suc, ◌+◌, ◌*◌, ◌/◌, ◌%◌, ◌==◌, ◌<◌, ◌≤◌, ◌^◌, Bool, true, false, List, [], ◌∷◌, ◌++◌, length, refl, sym, ap, subst, ◌∙◌, arith}
use Rattle.std.proofs.Math.Nat.{one-le-pow, pow-suc}
use Rattle.std.proofs.lemmas.Bool.{ltb-false, ltb-true, ne_eqb}
use Rattle.std.proofs.lemmas.Fmt.{decimal_is_IsNumeral_wide, length-decimal-le_wide}
use Rattle.std.proofs.lemmas.Nat.{le-div}
use Rattle.std.proofs.lemmas.Slice.Eq.{bytes_eq-Decides}
use Rattle.std.specs.Fmt.{decimal, digit_glyph, digits, digits_onto}
use Rattle.std.specs.Str.{bytes_eq}
use Rattle.std.specs.Str.Parse.{digits_value}
use Rattle.row_records.specs.fair_rows.ExitCauses.{name}
use Rattle.row_records.specs.turn_rows.Form.{objects_end}

-- ---- numbers in decimal

-- of a number past that many digits just so many are written
long : (k n : ℕ) (acc : List ℕ) → 10 ^ k ≤ n → length (digits_onto k 10 false n acc) ≡ k + length acc
long zero n acc le = omega arith
long (suc k) n acc le =
    let scaled : 10 ^ k * 10 ≤ n = subst (λ (p : ℕ). p ≤ n) (pow-suc 10 k) le in
    let low : 10 ^ k ≤ n / 10 = le-div (10 ^ k) n 10 (omega arith) scaled in
    let some : 1 ≤ 10 ^ k = one-le-pow k 10 (omega arith) in
    let digit = digit_glyph false (n % 10) in
    ap (λ b. length (cond b (digit ∷ acc) (digits_onto k 10 false (n / 10) (digit ∷ acc)))) (ne_eqb (n / 10) 0 (λ e. omega (arith, low, some, e)))
    ∙ long k (n / 10) (digit ∷ acc) low
    ∙ omega arith

decimal_long : (n : ℕ) → 10 ^ 64 ≤ n → length (decimal n) ≡ 64
unfolding digits
decimal_long n le = long 64 n [] le

-- where one of them has 128 bits
decimals_same : (k n : ℕ) → k < 2 ^ 128 → decimal k ≡ decimal n → k ≡ n
decimals_same k n wide e = by (nat_lt n (10 ^ 64)) refl
  where
    by : (b : Bool) → nat_lt n (10 ^ 64) ≡ b → k ≡ n
    by true low = sym (decimal_is_IsNumeral_wide k (omega (arith, wide))).1 ∙ ap (digits_value 10) e ∙ (decimal_is_IsNumeral_wide n (ltb-true n (10 ^ 64) low)).1
    by false high =
        let many = decimal_long n (ltb-false n (10 ^ 64) high) in
        let few = length-decimal-le_wide 39 k (omega arith) (omega (arith, wide)) (omega (arith, wide)) in
        absurd (omega (arith, many, few, ap length e))

-- ---- names

behind : (word xs ys : List ℕ) → word ++ xs ≡ word ++ ys → xs ≡ ys
behind [] xs ys h = h
behind (w ∷ word) xs ys h = behind word xs ys cc

same_number : (a b : ℕ) → (a == b) ≡ true → a ≡ b
same_number a b h = grind arith

other_number : (a b : ℕ) → a ≡ b → (a == b) ≡ true
other_number a b h = grind arith

pub name_test : (word : List ℕ) (a b : ℕ) → b < objects_end → bytes_eq (name word a) (name word b) ≡ (a == b)
name_test word a b below = by (bytes_eq (name word a) (name word b)) (a == b) refl refl
  where
    numbers : name word a ≡ name word b → a ≡ b
    numbers h = sym (decimals_same b a (omega (arith, below)) (sym (behind word (decimal a) (decimal b) h)))

    by : (p q : Bool) → bytes_eq (name word a) (name word b) ≡ p → (a == b) ≡ q → p ≡ q
    by true true h k = refl
    by false false h k = refl
    by true false h k = absurd (let yes : (a == b) ≡ true = other_number a b (numbers ((bytes_eq-Decides (name word a) (name word b)).0 h)) in cc)
    by false true h k = absurd (let yes : bytes_eq (name word a) (name word b) ≡ true = (bytes_eq-Decides (name word a) (name word b)).1 (ap (name word) (same_number a b k)) in cc)
