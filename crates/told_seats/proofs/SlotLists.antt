-- Lists that are read from the front on.
use Rattle.std.proofs.Common.{◌≡◌, ◌<◌, ℕ, zero, suc, ◌==◌, ◌&&◌, true, false, List, [], ◌∷◌, Option, Some, None, length, map, drop, take, get_or, ◌≤◌, ◌+◌, subst, add-one, refl, sym, ap, ◌∙◌, arith}
use Rattle.std.specs.Prelude.{option_map, if◌then◌else◌}
use Rattle.std.specs.Borrow.{Bor}
use Rattle.std.specs.List.{AllByRecursion, slice_get}
use Rattle.std.specs.Str.{bytes_eq}
use Rattle.std.proofs.lemmas.Option.{slice_get-get_or, slice_get-map, slice_get_past, slice_get_read}
use Rattle.std.proofs.lemmas.Bool.Decides.{nat_tests}
use Rattle.std.specs.Slice.{IsItemAt}
use Rattle.row_records.specs.amount_math.Content.{Content, nothing}
use Rattle.row_records.specs.fair_rows.Amounts.{content_under}
use Rattle.row_records.specs.fair_rows.Seats.{SlotName}
use Rattle.told_seats.specs.SlotViews.{IsLastOf, slots_view}
use Rattle.told_seats.specs.declared.slots.SlotName.{SlotName as KeptName}

-- where two lists differ at a place, they differ
pub differ_at : {A B : Type 0} (f : A → B) (xs ys : List A) (i : ℕ) (d e : A) → i < length xs → i < length ys → (f (get_or xs i d) ≡ f (get_or ys i e) → ⊥) → map f xs ≡ map f ys → ⊥
differ_at f xs ys i d e in_xs in_ys differ same =
    let one : Some (f (get_or xs i d)) ≡ Some (f (get_or ys i e)) =
    ap (option_map f) (sym (slice_get-get_or xs i d in_xs)) ∙ sym (slice_get-map f xs i) ∙ ap (λ zs. slice_get zs i) same ∙ slice_get-map f ys i ∙ ap (option_map f) (slice_get-get_or ys i e in_ys) in
    differ (cc)

no_contents : (keyword : List ℕ) (brand : ℕ) (ss : List SlotName) → content_under keyword brand ss [] ≡ nothing
no_contents keyword brand [] = refl
no_contents keyword brand (s ∷ ss) = refl

-- a slot of another name is passed over
pub under_next : (keyword : List ℕ) (brand : ℕ) (i : ℕ) (ss : List KeptName) (cs : List Content) (d : KeptName) → i < length ss
    → (bytes_eq keyword (get_or ss i d).keyword && (brand == (get_or ss i d).brand)) ≡ false
    → content_under keyword brand (slots_view (drop i ss)) (drop i cs) ≡ content_under keyword brand (slots_view (drop (suc i) ss)) (drop (suc i) cs)
under_next keyword brand i [] cs d within other = absurd (omega (arith, within))
under_next keyword brand zero (s ∷ ss) (c ∷ cs) d within other = ap (λ b. if b then c else content_under keyword brand (slots_view ss) cs) other
under_next keyword brand zero (s ∷ ss) [] d within other = sym (no_contents keyword brand (slots_view ss))
under_next keyword brand (suc i) (s ∷ ss) (c ∷ cs) d within other = under_next keyword brand i ss cs d (omega (arith, within)) other
under_next keyword brand (suc i) (s ∷ ss) [] d within other = no_contents keyword brand (slots_view (drop i ss)) ∙ sym (no_contents keyword brand (slots_view (drop (suc i) ss)))

abbrev pub found_or_nothing : Option Content → Content
found_or_nothing (Some c) = c
found_or_nothing None = nothing

-- at a slot of the name stands what it had
pub under_here : (keyword : List ℕ) (brand : ℕ) (i : ℕ) (ss : List KeptName) (cs : List Content) (d : KeptName) → i < length ss
    → (bytes_eq keyword (get_or ss i d).keyword && (brand == (get_or ss i d).brand)) ≡ true
    → content_under keyword brand (slots_view (drop i ss)) (drop i cs) ≡ found_or_nothing (slice_get cs i)
under_here keyword brand i [] cs d within here = absurd (omega (arith, within))
under_here keyword brand zero (s ∷ ss) (c ∷ cs) d within here = ap (λ b. if b then c else content_under keyword brand (slots_view ss) cs) here
under_here keyword brand zero (s ∷ ss) [] d within here = refl
under_here keyword brand (suc i) (s ∷ ss) (c ∷ cs) d within here = under_here keyword brand i ss cs d (omega (arith, within)) here
under_here keyword brand (suc i) (s ∷ ss) [] d within here = no_contents keyword brand (slots_view (drop i ss))

-- what is lent at a place
pub last_item : (xs : List Content) (i : ℕ) (r : Option (Bor Content)) → IsItemAt xs i r → IsLastOf r (found_or_nothing (slice_get xs i))
last_item xs i (Some x) item =
    let within : i < length xs = grind (arith, nat_tests) in
    let at : slice_get xs i ≡ Some x.now = slice_get_read xs (length xs) i x.now refl within item.1 in ap found_or_nothing (sym at)
last_item xs i None item =
    let past : length xs ≤ i = grind (arith, nat_tests) in ap found_or_nothing (slice_get_past xs i past)

-- ---- what holds of each element

pub all_at : {A B : Type 0} (P : B → Type 0) (f : A → B) (xs : List A) (i : ℕ) (x : A) → i < length xs → x ≡ get_or xs i x → AllByRecursion P (map f xs) → P (f x)
all_at P f [] i x within is all = absurd (omega (arith, within))
all_at P f (y ∷ xs) zero x within is all = subst (λ z. P (f z)) (sym is) all.0
all_at P f (y ∷ xs) (suc i) x within is all = all_at P f xs i x (omega (arith, within)) is all.1

all_more_suc : {A B : Type 0} (P : B → Type 0) (f : A → B) (xs : List A) (i : ℕ) (x : A) → i < length xs → x ≡ get_or xs i x → AllByRecursion P (map f (take i xs)) → P (f x) → AllByRecursion P (map f (take (suc i) xs))
all_more_suc P f [] i x within is all here = absurd (omega (arith, within))
all_more_suc P f (y ∷ xs) zero x within is all here = (subst (λ z. P (f z)) is here, tt)
all_more_suc P f (y ∷ xs) (suc i) x within is all here = (all.0, all_more_suc P f xs i x (omega (arith, within)) is all.1 here)

pub all_more : {A B : Type 0} (P : B → Type 0) (f : A → B) (xs : List A) (i : ℕ) (x : A) → i < length xs → x ≡ get_or xs i x → AllByRecursion P (map f (take i xs)) → P (f x) → AllByRecursion P (map f (take (i + 1) xs))
all_more P f xs i x within is all here = rw add-one (all_more_suc P f xs i x within is all here)

pub all_end : {A B : Type 0} (P : B → Type 0) (f : A → B) (xs : List A) (i : ℕ) → length xs ≤ i → AllByRecursion P (map f (take i xs)) → AllByRecursion P (map f xs)
all_end P f [] i past all = tt
all_end P f (y ∷ xs) zero past all = absurd (omega (arith, past))
all_end P f (y ∷ xs) (suc i) past all = (all.0, all_end P f xs i (omega (arith, past)) all.1)
