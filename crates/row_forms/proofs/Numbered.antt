-- A name is a word with a number behind it exactly where the test of its bytes says so.
use Rattle.std.specs.Prelude.{IfSome, IsNone, is_some}
use Rattle.std.proofs.Common.{Option, Some, None, ◌≡◌, ◌≤◌, ◌<◌, ◌^◌, ◌==◌, ◌&&◌, ◌||◌, ◌⊎◌, inl, inr, ℕ, List, [], ◌∷◌, ◌++◌, Bool, true, false, length, take, drop, nat_lt, refl, sym, ap, subst, ◌∙◌, arith}
use Rattle.std.proofs.lemmas.Slice.Eq.{bytes_eq-Decides}
use Rattle.std.specs.Bool.{Decides}
use Rattle.std.specs.Fmt.{decimal}
use Rattle.std.specs.List.{list_any}
use Rattle.std.specs.Str.{bytes_eq}
use Rattle.std.specs.Str.Parse.{digits_value}
use Rattle.turn_rows.specs.Form.{IsNumbered, IsNumberedBy}
use Rattle.row_forms.specs.Names.{has_number, is_number_below}
use Rattle.row_forms.proofs.Decimals.{value-decimal}

both_true : (a b : Bool) → (a && b) ≡ true → (a ≡ true) × (b ≡ true)
both_true true true h = (refl, refl)
both_true true false h = absurd (cc)
both_true false b h = absurd (cc)

are_both : (a b : Bool) → a ≡ true → b ≡ true → (a && b) ≡ true
are_both true b first second = second
are_both false b first second = absurd (cc)

below_yes : (m n : ℕ) → nat_lt m n ≡ true → m < n
below_yes m n h = grind arith

yes_below : (m n : ℕ) → m < n → nat_lt m n ≡ true
yes_below m n h = grind arith

taken : (word rest : List ℕ) → take (length word) (word ++ rest) ≡ word
taken [] rest = refl
taken (w ∷ word) rest = ap (λ (ws : List ℕ). w ∷ ws) (taken word rest)

left : (word rest : List ℕ) → drop (length word) (word ++ rest) ≡ rest
left [] rest = refl
left (w ∷ word) rest = left word rest

whole : (word s : List ℕ) → word ≡ take (length word) s → s ≡ word ++ drop (length word) s
whole [] s h = refl
whole (w ∷ word) [] h = absurd (cc)
whole (w ∷ word) (b ∷ s) h =
    let heads : w ≡ b = cc in
    let tails : word ≡ take (length word) s = cc in
    ap (λ c. c ∷ s) (sym heads) ∙ ap (λ (bs : List ℕ). w ∷ bs) (whole word s tails)

digits_yes : (end : ℕ) (ds : List ℕ) → is_number_below end ds ≡ true → (ds ≡ decimal (digits_value 10 ds)) × (digits_value 10 ds < end)
digits_yes end ds h =
    let tests = both_true (bytes_eq (decimal (digits_value 10 ds)) ds) (nat_lt (digits_value 10 ds) end) h in
    (sym ((bytes_eq-Decides (decimal (digits_value 10 ds)) ds).0 tests.0), below_yes (digits_value 10 ds) end tests.1)

yes_digits : (end n : ℕ) → end ≤ 2 ^ 128 → n < end → is_number_below end (decimal n) ≡ true
yes_digits end n few below =
    let value : digits_value 10 (decimal n) ≡ n = value-decimal n (omega (arith, few, below)) in
    rw value (are_both (bytes_eq (decimal n) (decimal n)) (nat_lt n end) ((bytes_eq-Decides (decimal n) (decimal n)).1 refl) (yes_below n end below))

pub number_decides : (end : ℕ) (s word : List ℕ) → end ≤ 2 ^ 128 → Decides (has_number end s word) (IsNumbered word end s)
number_decides end s word few = (there, back)
  where
    there : has_number end s word ≡ true → IsNumbered word end s
    there h =
        let tests = both_true (bytes_eq word (take (length word) s)) (is_number_below end (drop (length word) s)) h in
        let digits = digits_yes end (drop (length word) s) tests.1 in
        record {
          number = digits_value 10 (drop (length word) s);
          below = digits.1;
          is = whole word s ((bytes_eq-Decides word (take (length word) s)).0 tests.0) ∙ ap (λ (ds : List ℕ). word ++ ds) digits.0;
        }

    back : IsNumbered word end s → has_number end s word ≡ true
    back h =
        let front : word ≡ take (length word) s = sym (ap (take (length word)) h.is ∙ taken word (decimal h.number)) in
        let rest : drop (length word) s ≡ decimal h.number = ap (drop (length word)) h.is ∙ left word (decimal h.number) in
        are_both (bytes_eq word (take (length word) s)) (is_number_below end (drop (length word) s)) ((bytes_eq-Decides word (take (length word) s)).1 front) (rw rest (yes_digits end h.number few h.below))

-- ---- one of several words

either_true : (a b : Bool) → (a || b) ≡ true → (a ≡ true) ⊎ (b ≡ true)
either_true true b h = inl refl
either_true false b h = inr h

first_true : (a b : Bool) → a ≡ true → (a || b) ≡ true
first_true true b h = refl
first_true false b h = absurd (cc)

second_true : (a b : Bool) → b ≡ true → (a || b) ≡ true
second_true true b h = refl
second_true false b h = h

one_more : (end : ℕ) (s w : List ℕ) (words : List (List ℕ)) → end ≤ 2 ^ 128 → Decides (list_any (has_number end s) words) (IsNumberedBy words end s) → Decides (has_number end s w || list_any (has_number end s) words) (IsNumberedBy (w ∷ words) end s)
one_more end s w words few later = (λ h. there (either_true (has_number end s w) (list_any (has_number end s) words) h), λ h. back h (either_true (bytes_eq h.word w) (list_any (bytes_eq h.word) words) h.one_of))
  where
    there : (has_number end s w ≡ true) ⊎ (list_any (has_number end s) words ≡ true) → IsNumberedBy (w ∷ words) end s
    there (inl here) = record { word = w; one_of = first_true (bytes_eq w w) (list_any (bytes_eq w) words) ((bytes_eq-Decides w w).1 refl); numbered = (number_decides end s w few).0 here }
    there (inr behind) = let found = later.0 behind in record { word = found.word; one_of = second_true (bytes_eq found.word w) (list_any (bytes_eq found.word) words) found.one_of; numbered = found.numbered }

    back : (h : IsNumberedBy (w ∷ words) end s) → (bytes_eq h.word w ≡ true) ⊎ (list_any (bytes_eq h.word) words ≡ true) → (has_number end s w || list_any (has_number end s) words) ≡ true
    back h (inl here) = first_true (has_number end s w) (list_any (has_number end s) words) ((number_decides end s w few).1 (subst (λ v. IsNumbered v end s) ((bytes_eq-Decides h.word w).0 here) h.numbered))
    back h (inr behind) = second_true (has_number end s w) (list_any (has_number end s) words) (later.1 (record { word = h.word; one_of = behind; numbered = h.numbered }))

pub words_decide : (end : ℕ) (s : List ℕ) (words : List (List ℕ)) → end ≤ 2 ^ 128 → Decides (list_any (has_number end s) words) (IsNumberedBy words end s)
words_decide end s [] few = ((λ (h : false ≡ true). absurd (cc)), (λ (h : IsNumberedBy [] end s). absurd (cc (h.one_of))))
words_decide end s (w ∷ words) few = one_more end s w words few (words_decide end s words few)

-- ---- what was found tells whether there is one

pub found_decides : (end : ℕ) (s word : List ℕ) (found : Option ℕ) (b : Bool) → b ≡ is_some found
    → IfSome found (λ n. (n < end) × (s ≡ word ++ decimal n)) → (IsNone found → IsNumbered word end s → ⊥) → Decides b (IsNumbered word end s)
found_decides end s word (Some n) b is some none = ((λ h. record { number = n; below = some.0; is = some.1 }), (λ h. is))
found_decides end s word None b is some none = ((λ h. absurd (cc (sym is ∙ h))), (λ h. absurd (none refl h)))
