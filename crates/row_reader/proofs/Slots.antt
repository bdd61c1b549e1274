-- The names of slots, cut at their dot.
use Rattle.std.proofs.Common.{◌≡◌, ◌≢◌, ◌<◌, ◌^◌, ℕ, zero, suc, true, List, [], ◌∷◌, ◌++◌, length, get_or, Option, Some, None, MatchOption, Bor, refl, sym, ap, subst, ◌∙◌, arith}
use Rattle.std.proofs.lemmas.Fmt.{decimal_is_IsNumeral_wide}
use Rattle.std.proofs.lemmas.Str.Pattern.{IsSplitOnceResult, split_after, split_parts}
use Rattle.std.specs.Char.{is_ascii_digit}
use Rattle.std.specs.Fmt.{decimal}
use Rattle.std.specs.Prelude.{codes}
use Rattle.std.specs.Str.Parse.{AllDigits}
use Rattle.turn_rows.specs.Form.{HasHolderForm, IsNumbered, objects_end}
use Rattle.turn_rows.specs.host_text.Words.{is_keyword}
use Rattle.turn_rows.specs.Rows.{holder_name}
use Rattle.turn_rows.specs.rights_model.declared.Holder.{Holder}
use Rattle.turn_rows.specs.rights_model.declared.Holder.TheVariants as holders

digit_dot : (d : ℕ) → is_ascii_digit d ≡ true → d ≡ 46 → ⊥
digit_dot d h e = let dot : is_ascii_digit 46 ≡ true = subst (λ b. is_ascii_digit b ≡ true) e h in absurd (cc)

all_free : (ds : List ℕ) → AllDigits 10 ds → (i : ℕ) → i < length ds → get_or ds i 0 ≡ 46 → ⊥
all_free [] h i within e = absurd (omega (arith, within))
all_free (d ∷ ds) h zero within e = let first : is_ascii_digit d ≡ true = grind (arith, h.0) in digit_dot d first e
all_free (d ∷ ds) h (suc i) within e = all_free ds h.1 i (omega (arith, within)) e

no_dot : (n : ℕ) → n < 2 ^ 128 → (i : ℕ) → i < length (decimal n) → get_or (decimal n) i 0 ≡ 46 → ⊥
no_dot n h = all_free (decimal n) ((decimal_is_IsNumeral_wide n (omega (arith, h))).0.1)

-- the slot of these two texts
abbrev pub IsSlot : List ℕ → List ℕ → Holder → Type 0
IsSlot number word (holders.Slot seat keyword) = (number ≡ decimal seat) × (word ≡ keyword)
IsSlot number word _ = ⊥

found : (text : List ℕ) (r : Option (Bor (List ℕ) × Bor (List ℕ))) (seat : ℕ) (keyword : List ℕ) → MatchOption r ⊥ (λ x. (x.0.now ≡ decimal seat) × (x.1.now ≡ keyword)) → MatchOption r ⊥ (λ x. IsSlot x.0.now x.1.now (holders.Slot seat keyword))
found text None seat keyword h = h
found text (Some x) seat keyword h = h

apart : (m n : ℕ) (xs ys : List ℕ) → get_or xs 0 0 ≡ m → get_or ys 0 0 ≡ n → m < n → xs ≡ ys → ⊥
apart m n xs ys one other less same = let heads : get_or xs 0 0 ≡ get_or ys 0 0 = ap (λ (l : List ℕ). get_or l 0 0) same in absurd (omega (arith, one, other, less, heads))

cut_four : (a b c d : ℕ) (xs ys : List ℕ) → a ∷ b ∷ c ∷ d ∷ xs ≡ a ∷ b ∷ c ∷ d ∷ ys → xs ≡ ys
cut_four a b c d xs ys same = cc

pub slot_parts : (text : List ℕ) (r : Option (Bor (List ℕ) × Bor (List ℕ))) → IsSplitOnceResult 46 text r → (h : Holder) → HasHolderForm h → holder_name h ≡ codes "seat" ++ text
    → MatchOption r ⊥ (λ x. IsSlot x.0.now x.1.now h)
slot_parts text r cut (holders.Purse n) form same = absurd (apart 112 115 _ _ refl refl (omega arith) same)
slot_parts text r cut (holders.Payment n) form same = absurd (apart 112 115 _ _ refl refl (omega arith) same)
slot_parts text r cut (holders.Slot seat keyword) form same =
    let whole : decimal seat ++ 46 ∷ keyword ≡ text = cut_four 115 101 97 116 (decimal seat ++ 46 ∷ keyword) text same in
    found text r seat keyword (split_after 46 text (decimal seat) keyword r cut (omega arith) (sym whole) (no_dot seat (omega (arith, form.0))))
slot_parts text r cut holders.Hand form same = absurd (apart 104 115 _ _ refl refl (omega arith) same)
slot_parts text r cut holders.Outside form same = absurd (apart 111 115 _ _ refl refl (omega arith) same)

-- the text round the dot
pub slot_whole : (text : List ℕ) (x : Bor (List ℕ) × Bor (List ℕ)) → IsSplitOnceResult 46 text (Some x) → x.0.now ++ 46 ∷ x.1.now ≡ text
slot_whole text x cut = sym (split_parts 46 text (Some x) cut (omega arith)).0

pub no_seat : (a b : List ℕ) (h : Holder) → HasHolderForm h → IsSlot a b h → ((n : ℕ) → n < 2 ^ 32 → decimal n ≡ a → ⊥) → ⊥
no_seat a b (holders.Slot seat keyword) form is none = none seat form.0 (sym is.0)
no_seat a b (holders.Purse n) form is none = absurd is
no_seat a b (holders.Payment n) form is none = absurd is
no_seat a b holders.Hand form is none = absurd is
no_seat a b holders.Outside form is none = absurd is

pub no_word : (a b : List ℕ) (h : Holder) → HasHolderForm h → IsSlot a b h → ((k : List ℕ) → is_keyword k ≡ true → k ≡ b → ⊥) → ⊥
no_word a b (holders.Slot seat keyword) form is none = none keyword form.1 (sym is.1)
no_word a b (holders.Purse n) form is none = absurd is
no_word a b (holders.Payment n) form is none = absurd is
no_word a b holders.Hand form is none = absurd is
no_word a b holders.Outside form is none = absurd is

pub slot_text : (a b text : List ℕ) (n : ℕ) (k : List ℕ) → decimal n ≡ a → k ≡ b → a ++ 46 ∷ b ≡ text → codes "seat" ++ (decimal n ++ 46 ∷ k) ≡ codes "seat" ++ text
slot_text a b text n k first second whole = rw (first, second, whole) refl

-- ---- no name of a holder

pub no_holder : (name : List ℕ) → (codes "hand" ≡ name → ⊥) → (codes "outside" ≡ name → ⊥) → ((rest : List ℕ) → name ≡ codes "seat" ++ rest → ⊥) → ¬ IsNumbered (codes "purse") objects_end name
    → ¬ IsNumbered (codes "payment") objects_end name → (h : Holder) → HasHolderForm h → holder_name h ≡ name → ⊥
no_holder name hand outside seat purse payment (holders.Purse n) form same = purse (record { number = n; below = form; is = sym same })
no_holder name hand outside seat purse payment (holders.Payment n) form same = payment (record { number = n; below = form; is = sym same })
no_holder name hand outside seat purse payment (holders.Slot n keyword) form same = seat (decimal n ++ (codes "." ++ keyword)) (sym same)
no_holder name hand outside seat purse payment holders.Hand form same = hand same
no_holder name hand outside seat purse payment holders.Outside form same = outside same
