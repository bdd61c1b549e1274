-- Invitations of different numbers have different texts, each of which is a key.
use Rattle.std.proofs.Common.{◌≡◌, ℕ, zero, suc, ◌+◌, ◌-◌, ◌*◌, ◌/◌, ◌%◌, ◌<◌, ◌≤◌, ◌^◌, ◌==◌, nat_lt, Bool, true, false, cond, List, [], ◌∷◌, ◌++◌, length, replicate, codes, refl, sym, ap, subst, ◌∙◌, arith, if◌then◌else◌}
use Rattle.std.proofs.lemmas.Bool.{ltb-true}
use Rattle.std.proofs.lemmas.Fmt.{decimal_is_IsNumeral, length-decimal-le}
use Rattle.std.proofs.lemmas.List.{length-append, length-replicate, append_cancel_left}
use Rattle.std.specs.Fmt.{decimal, digits, digits_onto, digit_glyph}
use Rattle.std.specs.Ordering.{eq_by_cmp}
use Rattle.std.specs.Str.Parse.{digits_value}
use Rattle.world_state.specs.amount_math.Content.{count, count-nothing, count-one_of, counts, key_cmp, nothing, one_of}
use Rattle.world_state.specs.amount_math.Counted.{counted, counted-nothing}
use Rattle.world_state.specs.amount_math.Entries.{IsKey}
use Rattle.world_state.specs.amount_math.Totals.{total-put}
use Rattle.world_state.proofs.amount_math.Listed.{same_key}
use Rattle.world_state.specs.turn_stores.Elements.{element, ten_digits}

-- ---- how many digits a number has

grown : (k n : ℕ) (acc : List ℕ) → length acc ≤ length (digits_onto k 10 false n acc)
grown zero n acc = omega arith
grown (suc k) n acc = by_test (n / 10 == 0) (grown k (n / 10) (digit_glyph false (n % 10) ∷ acc))
  where
    by_test : (b : Bool) → suc (length acc) ≤ length (digits_onto k 10 false (n / 10) (digit_glyph false (n % 10) ∷ acc)) → length acc ≤ length (if b then digit_glyph false (n % 10) ∷ acc else digits_onto k 10 false (n / 10) (digit_glyph false (n % 10) ∷ acc))
    by_test true rest = omega arith
    by_test false rest = omega arith

-- 1 with so many zeros behind it
abbrev one_with : ℕ → ℕ
one_with zero = 1
one_with (suc j) = 10 * one_with j

long_digits : (j k n : ℕ) (acc : List ℕ) → j < k → one_with j ≤ n → j + 1 + length acc ≤ length (digits_onto k 10 false n acc)
long_digits j zero n acc less most = absurd (omega arith)
long_digits zero (suc k) n acc less most = by_test (n / 10 == 0)
  where
    by_test : (b : Bool) → 0 + 1 + length acc ≤ length (if b then digit_glyph false (n % 10) ∷ acc else digits_onto k 10 false (n / 10) (digit_glyph false (n % 10) ∷ acc))
    by_test true = omega arith
    by_test false = omega (arith, grown k (n / 10) (digit_glyph false (n % 10) ∷ acc))
long_digits (suc j) (suc k) n acc less most = by_test (n / 10 == 0) refl (long_digits j k (n / 10) (digit_glyph false (n % 10) ∷ acc) (omega arith))
  where
    rest : one_with j ≤ n / 10
    rest = omega arith

    positive : (i : ℕ) → 0 < one_with i
    positive zero = omega arith
    positive (suc i) = omega (arith, positive i)

    by_test : (b : Bool) → (n / 10 == 0) ≡ b → (one_with j ≤ n / 10 → j + 1 + suc (length acc) ≤ length (digits_onto k 10 false (n / 10) (digit_glyph false (n % 10) ∷ acc))) → suc j + 1 + length acc ≤ length (if b then digit_glyph false (n % 10) ∷ acc else digits_onto k 10 false (n / 10) (digit_glyph false (n % 10) ∷ acc))
    by_test true none later = let small : n / 10 ≡ 0 = grind arith in absurd (omega (arith, rest, positive j, small))
    by_test false some later = omega (arith, later rest)

long_decimal : (n : ℕ) → 10 ^ 10 ≤ n → 11 ≤ length (decimal n)
unfolding digits
long_decimal n most = long_digits 10 64 n [] (omega arith) most

-- ---- ten digits

value_behind_zeros : (z : ℕ) (ds : List ℕ) → digits_value 10 (replicate z 48 ++ ds) ≡ digits_value 10 ds
value_behind_zeros zero ds = refl
value_behind_zeros (suc z) ds = value_behind_zeros z ds

value-ten_digits : (n : ℕ) → n < 2 ^ 64 → digits_value 10 (ten_digits n) ≡ n
value-ten_digits n small = value_behind_zeros (10 - length (decimal n)) (decimal n) ∙ (decimal_is_IsNumeral n small).1

length-ten_digits : (n : ℕ) → n < 2 ^ 32 → length (ten_digits n) ≡ 10
length-ten_digits n small =
    let short : length (decimal n) ≤ 10 = length-decimal-le 10 n (omega arith) (omega arith) (omega arith) in
    length-append (replicate (10 - length (decimal n)) 48) (decimal n) ∙ omega (arith, length-replicate {A = ℕ} (10 - length (decimal n)) 48, short)

long-ten_digits : (n : ℕ) → 10 ^ 10 ≤ n → 11 ≤ length (ten_digits n)
long-ten_digits n most = omega (arith, length-append (replicate (10 - length (decimal n)) 48) (decimal n), long_decimal n most)

apart_by : (b : Bool) (m n : ℕ) → nat_lt m (10 ^ 10) ≡ b → n < 2 ^ 32 → n < m → ten_digits m ≡ ten_digits n → ⊥
apart_by true m n small few less same =
    let bounded : m < 10 ^ 10 = ltb-true m (10 ^ 10) small in
    omega (arith, sym (value-ten_digits m (omega arith)) ∙ (ap (digits_value 10) same ∙ value-ten_digits n (omega arith)))
apart_by false m n large few less same =
    let most : 10 ^ 10 ≤ m = grind arith in
    omega (arith, long-ten_digits m most, length-ten_digits n few, ap (λ (ds : List ℕ). length ds) same)

pub elements_apart : (m n : ℕ) → n < 2 ^ 32 → n < m → element m ≡ element n → ⊥
unfolding element
elements_apart m n few less same = apart_by (nat_lt m (10 ^ 10)) m n refl few less (append_cancel_left (codes "inv:") (ten_digits m) (ten_digits n) same)

-- ---- one invitation

element_is : (n : ℕ) → n < 2 ^ 32 → IsKey (element n)
unfolding element
element_is n few =
    let long : length (codes "inv:" ++ ten_digits n) ≡ 4 + length (ten_digits n) = length-append (codes "inv:") (ten_digits n) in
    record { filled = omega (arith, long); short = omega (arith, long, length-ten_digits n few) }

pub element_is_key : (k : List ℕ) (n : ℕ) → k ≡ element n → n < 2 ^ 32 → IsKey k
element_is_key k n is few = subst IsKey (sym is) (element_is n few)

abbrev by_count : List ℕ → ℕ → ℕ
by_count k n = n

pub counted-one_of : (k : List ℕ) → counted (one_of k) ≡ 1
unfolding one_of
counted-one_of k = omega (arith, total-put by_count counts (λ _. refl) nothing k 1, count-nothing k, counted-nothing)

-- another key isn't in the value of one
pub none_other : (k q : List ℕ) → (q ≡ k → ⊥) → count (one_of k) q ≡ 0
none_other k q other = count-one_of k q ∙ by_test (eq_by_cmp key_cmp q k) refl
  where
    by_test : (b : Bool) → eq_by_cmp key_cmp q k ≡ b → ◌≡◌ {A = ℕ} (cond b 1 0) 0
    by_test true same = absurd (other (same_key q k same))
    by_test false apart = refl
