-- Texts of as many digits: the same number is the same text, and the lesser one stands first.
use Rattle.std.proofs.Common.{◌≡◌, ℕ, ◌+◌, ◌*◌, ◌<◌, ◌==◌, nat_lt, List, [], ◌∷◌, Bool, true, false, length, refl, sym, ap, subst, ◌∙◌, arith}
use Rattle.std.proofs.lemmas.Str.Parse.{digit_from_value}
use Rattle.std.specs.Char.{digit_value}
use Rattle.std.specs.Cmp.Lexicographic.{slice_cmp}
use Rattle.std.specs.Ordering.{nat_cmp}
use Rattle.std.specs.Str.Parse.{AllDigits, digits_value_after}
use Rattle.std.specs.declared.cmp.Ordering.TheVariants.{Less}

pub digit_is : (c : ℕ) → digit_value c < 10 → c ≡ 48 + digit_value c
digit_is c h = let range = digit_from_value c h in grind (arith, range.0, range.1)

-- a greater number so far stays greater
above : (xs ys : List ℕ) (a b : ℕ) → AllDigits 10 xs → AllDigits 10 ys → length xs ≡ length ys → b < a → digits_value_after 10 b ys < digits_value_after 10 a xs
above [] [] a b p q l h = h
above [] (y ∷ ys) a b p q l h = absurd (omega (arith, l))
above (x ∷ xs) [] a b p q l h = absurd (omega (arith, l))
above (x ∷ xs) (y ∷ ys) a b p q l h = above xs ys (a * 10 + digit_value x) (b * 10 + digit_value y) p.1 q.1 (omega (arith, l)) (omega (arith, p.0, q.0))

same_after : (xs ys : List ℕ) (a b : ℕ) → AllDigits 10 xs → AllDigits 10 ys → length xs ≡ length ys → digits_value_after 10 a xs ≡ digits_value_after 10 b ys → (a ≡ b) × (xs ≡ ys)
same_after [] [] a b p q l e = (e, refl)
same_after [] (y ∷ ys) a b p q l e = absurd (omega (arith, l))
same_after (x ∷ xs) [] a b p q l e = absurd (omega (arith, l))
same_after (x ∷ xs) (y ∷ ys) a b p q l e =
    let rest = same_after xs ys (a * 10 + digit_value x) (b * 10 + digit_value y) p.1 q.1 (omega (arith, l)) e in
    let front : a ≡ b = omega (arith, rest.0, p.0, q.0) in
    let last : digit_value x ≡ digit_value y = omega (arith, rest.0, p.0, q.0) in
    let first : x ≡ y = digit_is x p.0 ∙ (ap (λ d. 48 + d) last ∙ sym (digit_is y q.0)) in
    (front, ap (λ c. c ∷ xs) first ∙ ap (λ (zs : List ℕ). y ∷ zs) rest.1)

pub same_digits : (xs ys : List ℕ) → AllDigits 10 xs → AllDigits 10 ys → length xs ≡ length ys → digits_value_after 10 0 xs ≡ digits_value_after 10 0 ys → xs ≡ ys
same_digits xs ys p q l e = (same_after xs ys 0 0 p q l e).1

ordered_by : (lt eq : Bool) (x y : ℕ) (xs ys : List ℕ) (a : ℕ) → AllDigits 10 (x ∷ xs) → AllDigits 10 (y ∷ ys) → length (x ∷ xs) ≡ length (y ∷ ys) → digits_value_after 10 a (x ∷ xs) < digits_value_after 10 a (y ∷ ys) → (digits_value_after 10 (a * 10 + digit_value x) xs < digits_value_after 10 (a * 10 + digit_value x) ys → slice_cmp nat_cmp xs ys ≡ Less) → nat_lt x y ≡ lt → x == y ≡ eq → slice_cmp nat_cmp (x ∷ xs) (y ∷ ys) ≡ Less
ordered_by true eq x y xs ys a p q l h others t u = rw t refl
ordered_by false true x y xs ys a p q l h others t u =
    let same : y ≡ x = grind arith in
    let less : digits_value_after 10 (a * 10 + digit_value x) xs < digits_value_after 10 (a * 10 + digit_value x) ys = subst (λ (z : ℕ). digits_value_after 10 (a * 10 + digit_value x) xs < digits_value_after 10 (a * 10 + digit_value z) ys) same h in
    rw (t, u) (others less)
ordered_by false false x y xs ys a p q l h others t u =
    let more : y < x = grind arith in
    let digits : digit_value y < digit_value x = omega (arith, more, digit_is x p.0, digit_is y q.0) in
    absurd (omega (arith, h, above xs ys (a * 10 + digit_value x) (a * 10 + digit_value y) p.1 q.1 (omega (arith, l)) (omega (arith, digits))))

pub ordered : (xs ys : List ℕ) (a : ℕ) → AllDigits 10 xs → AllDigits 10 ys → length xs ≡ length ys → digits_value_after 10 a xs < digits_value_after 10 a ys → slice_cmp nat_cmp xs ys ≡ Less
ordered [] [] a p q l h = absurd (omega (arith, h))
ordered [] (y ∷ ys) a p q l h = refl
ordered (x ∷ xs) [] a p q l h = absurd (omega (arith, l))
ordered (x ∷ xs) (y ∷ ys) a p q l h = ordered_by (nat_lt x y) (x == y) x y xs ys a p q l h (ordered xs ys (a * 10 + digit_value x) p.1 q.1 (omega (arith, l))) refl refl
