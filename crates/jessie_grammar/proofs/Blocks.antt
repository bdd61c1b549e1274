-- Blocks that are open, and the first name use with which something is wrong.
use Rattle.std.proofs.Common.{◌≡◌, ℕ, zero, suc, List, [], ◌∷◌, ◌++◌, reverse, Some, None, refl, sym, ap, subst, ◌∙◌}
use Rattle.std.proofs.lemmas.List.{append-nil, reverse-append, reverse-reverse}
use Rattle.jessie_grammar.specs.declared.jessie_scopes.name_use.NameUse.{NameUse}
use Rattle.jessie_grammar.specs.declared.jessie_scopes.name_use.NameUse.TheVariants as e
use Rattle.jessie_grammar.specs.declared.jessie_scopes.name_use.Binding.{Binding}
use Rattle.jessie_grammar.specs.declared.jessie_scopes.scopes.Entry.{Entry}
use Rattle.jessie_grammar.specs.declared.jessie_scopes.scopes.Entry.TheVariants as entry
use Rattle.jessie_grammar.specs.Scopes.{Global, Found, globals, fault, around, behind_opening, or_else, first, first_fault}
use Rattle.jessie_grammar.specs.OpenBlocks.{standing, open_in, OpenBlocksStand, backwards, IsToldOf, FirstIsTold}

-- ---- leaving blocks

left : ℕ → List Entry → List Entry
left zero es = es
left (suc d) es = left d (around es)

around_opening : (es : List Entry) → around (es ++ entry.Opening ∷ []) ≡ es
around_opening es = ap (λ z. reverse (behind_opening z)) (reverse-append es (entry.Opening ∷ [])) ∙ reverse-reverse es

around_name : (es : List Entry) (x : List ℕ) (b : Binding) → around (es ++ entry.Name x b ∷ []) ≡ around es
around_name es x b = ap (λ z. reverse (behind_opening z)) (reverse-append es (entry.Name x b ∷ []))

around_field : (es : List Entry) (x : List ℕ) → around (es ++ entry.Field x ∷ []) ≡ around es
around_field es x = ap (λ z. reverse (behind_opening z)) (reverse-append es (entry.Field x ∷ []))

left_none : (d : ℕ) → left d [] ≡ []
unfolding left
left_none zero = refl
left_none (suc d) = left_none d

left_is : (d : ℕ) (xs : List NameUse) → left d (standing xs) ≡ open_in d xs
unfolding left
left_is d [] = left_none d
left_is zero (e.Closes ∷ xs) = left_is (suc zero) xs
left_is (suc d) (e.Closes ∷ xs) = left_is (suc (suc d)) xs
left_is zero (e.Opens ∷ xs) = ap (λ z. z ++ entry.Opening ∷ []) (left_is zero xs)
left_is (suc d) (e.Opens ∷ xs) = ap (left d) (around_opening (standing xs)) ∙ left_is d xs
left_is zero (e.Defines at x b ∷ xs) = ap (λ z. z ++ entry.Name x b ∷ []) (left_is zero xs)
left_is (suc d) (e.Defines at x b ∷ xs) = ap (left d) (around_name (standing xs) x b) ∙ left_is (suc d) xs
left_is zero (e.Declares at x ∷ xs) = left_is zero xs ∙ sym (append-nil (open_in zero xs))
left_is (suc d) (e.Declares at x ∷ xs) = left_is (suc d) xs
left_is zero (e.Binds x b ∷ xs) = ap (λ z. z ++ entry.Name x b ∷ []) (left_is zero xs)
left_is (suc d) (e.Binds x b ∷ xs) = ap (left d) (around_name (standing xs) x b) ∙ left_is (suc d) xs
left_is zero (e.Uses at x ∷ xs) = left_is zero xs ∙ sym (append-nil (open_in zero xs))
left_is (suc d) (e.Uses at x ∷ xs) = left_is (suc d) xs
left_is zero (e.Calls at x ∷ xs) = left_is zero xs ∙ sym (append-nil (open_in zero xs))
left_is (suc d) (e.Calls at x ∷ xs) = left_is (suc d) xs
left_is zero (e.Assigns at x ∷ xs) = left_is zero xs ∙ sym (append-nil (open_in zero xs))
left_is (suc d) (e.Assigns at x ∷ xs) = left_is (suc d) xs
left_is zero (e.Field at x ∷ xs) = ap (λ z. z ++ entry.Field x ∷ []) (left_is zero xs)
left_is (suc d) (e.Field at x ∷ xs) = ap (left d) (around_field (standing xs) x) ∙ left_is (suc d) xs
left_is zero (e.Shorthand at x ∷ xs) = ap (λ z. z ++ entry.Field x ∷ []) (left_is zero xs)
left_is (suc d) (e.Shorthand at x ∷ xs) = ap (left d) (around_field (standing xs) x) ∙ left_is (suc d) xs

pub open_blocks_stand : OpenBlocksStand
unfolding left
open_blocks_stand xs = left_is zero xs

-- ---- the first of them

-- of the name uses from a place on, where those before it are these, the last first
abbrev Fits : List Global → List NameUse → List NameUse → Type 0
Fits gs before xs = (front : List NameUse) (x : NameUse) (later : List NameUse) → xs ≡ front ++ x ∷ later → fault gs (standing (backwards before front)) x ≡ None

abbrev Wrong : List Global → List NameUse → List NameUse → Found → Type 0
Wrong gs before xs found = (front : List NameUse) × (x : NameUse) × (later : List NameUse) × (xs ≡ front ++ x ∷ later) × (fault gs (standing (backwards before front)) x ≡ found) × Fits gs before front

abbrev Told : List Global → List NameUse → List NameUse → Found → Type 0
Told gs before xs None = Fits gs before xs
Told gs before xs (Some f) = Wrong gs before xs (Some f)

fits_none : (gs : List Global) (before : List NameUse) → Fits gs before []
fits_none gs before [] x later i = absurd (cc)
fits_none gs before (y ∷ front) x later i = absurd (cc)

fits_more : (gs : List Global) (before : List NameUse) (x : NameUse) (xs : List NameUse) → fault gs (standing before) x ≡ None → Fits gs (x ∷ before) xs → Fits gs before (x ∷ xs)
fits_more gs before x xs n h [] y later i = let same : x ≡ y = cc in subst (λ z. fault gs (standing before) z ≡ None) same n
fits_more gs before x xs n h (z ∷ front) y later i =
    let same : x ≡ z = cc in
    let rest : xs ≡ front ++ y ∷ later = cc in
    subst (λ z. fault gs (standing (backwards (z ∷ before) front)) y ≡ None) same (h front y later rest)

told_more : (gs : List Global) (before : List NameUse) (x : NameUse) (xs : List NameUse) (o : Found) → fault gs (standing before) x ≡ None → Told gs (x ∷ before) xs o → Told gs before (x ∷ xs) o
told_more gs before x xs None n h = fits_more gs before x xs n h
told_more gs before x xs (Some f) n h = (x ∷ h.0, h.1, h.2, ap (λ z. x ∷ z) h.3, h.4, fits_more gs before x h.0 n h.5)

told_by : (gs : List Global) (before : List NameUse) (x : NameUse) (xs : List NameUse) (f o : Found) → fault gs (standing before) x ≡ f → Told gs (x ∷ before) xs o → Told gs before (x ∷ xs) (or_else f o)
told_by gs before x xs None o n h = told_more gs before x xs o n h
told_by gs before x xs (Some f) o n h = ([], x, xs, refl, n, fits_none gs before)

told : (gs : List Global) (before xs : List NameUse) → Told gs before xs (first gs (standing before) xs)
unfolding first
told gs before [] = fits_none gs before
told gs before (x ∷ xs) = told_by gs before x xs (fault gs (standing before) x) (first gs (standing (x ∷ before)) xs) refl (told gs (x ∷ before) xs)

is_told : (xs : List NameUse) (o : Found) → Told (globals xs) [] xs o → IsToldOf xs o
is_told xs None h = h
is_told xs (Some f) h = h

pub first_is_told : FirstIsTold
first_is_told xs = is_told xs (first_fault xs) (told (globals xs) [] xs)
