-- An open row in form names each keyword once, so each of the seat's slots is of its amount's brand.
use Rattle.std.proofs.Common.{◌≡◌, ◌||◌, ℕ, Bool, true, false, cond, List, [], ◌∷◌, ◌++◌, Some, None, map, append_assoc, refl, sym, ◌∙◌, ap, subst}
use Rattle.std.specs.Prelude.{is_some}
use Rattle.std.specs.List.{AllByRecursion}
use Rattle.std.specs.List.Sorted.{IsStrictlySortedBy}
use Rattle.std.specs.Ordering.{is_eq}
use Rattle.std.specs.Str.{bytes_eq}
use Rattle.std.specs.declared.cmp.Ordering.TheVariants.{Less}
use Rattle.std.proofs.lemmas.List.{append-nil}
use Rattle.std.proofs.lemmas.Map.Text.{is_eq-slice_cmp}
use Rattle.std.proofs.lemmas.Slice.Eq.{bytes_eq-Decides}
use Rattle.row_records.specs.amount_math.Content.{key_cmp}
use Rattle.row_records.specs.fair_rows.Seats.{SlotName, brand_under, new_seat, with_amounts, with_slot}
use Rattle.row_records.specs.turn_rows.Form.{HasOpeningForm, has_keyword}
use Rattle.row_records.specs.turn_rows.Turns.{KeywordAmount, Opening}
use Rattle.row_records.specs.turn_rows.declared.editions.Edition.{Edition}

-- ---- names apart

abbrev amount_name : KeywordAmount → SlotName
amount_name a = record { keyword = a.keyword; brand = a.brand }

-- none stands twice
abbrev AreApartNames : List SlotName → Type 0
AreApartNames [] = Unit {0}
AreApartNames (n ∷ ns) = (brand_under n.keyword ns ≡ None) × AreApartNames ns

other_way : (k q : List ℕ) → bytes_eq k q ≡ false → bytes_eq q k ≡ false
other_way k q e = by (bytes_eq q k) refl
  where
    by : (b : Bool) → bytes_eq q k ≡ b → b ≡ false
    by false is = refl
    by true is = let clash : true ≡ false = sym ((bytes_eq-Decides k q).1 (sym ((bytes_eq-Decides q k).0 is))) ∙ e in clash

none_there : (k : List ℕ) (ds : List SlotName) (n : SlotName) (ns : List SlotName) → brand_under k (ds ++ n ∷ ns) ≡ None → bytes_eq k n.keyword ≡ false
none_there k [] n ns h = by (bytes_eq k n.keyword) h
  where
    by : (t : Bool) → cond t (Some n.brand) (brand_under k ns) ≡ None → t ≡ false
    by true h = absurd cc
    by false h = refl
none_there k (d ∷ ds) n ns h = by (bytes_eq k d.keyword) (none_there k ds n ns) h
  where
    by : (t : Bool) → (brand_under k (ds ++ n ∷ ns) ≡ None → bytes_eq k n.keyword ≡ false) → cond t (Some d.brand) (brand_under k (ds ++ n ∷ ns)) ≡ None → bytes_eq k n.keyword ≡ false
    by true later h = absurd cc
    by false later h = later h

-- one that stands behind others isn't one of them
apart_behind : (ds : List SlotName) (n : SlotName) (ns : List SlotName) → AreApartNames (ds ++ n ∷ ns) → brand_under n.keyword ds ≡ None
apart_behind [] n ns a = refl
apart_behind (d ∷ ds) n ns a =
    ap (λ t. cond t (Some d.brand) (brand_under n.keyword ds)) (other_way d.keyword n.keyword (none_there d.keyword ds n ns a.0)) ∙ apart_behind ds n ns a.1

found : (ds : List SlotName) (n : SlotName) (ns : List SlotName) → brand_under n.keyword ds ≡ None → brand_under n.keyword (ds ++ n ∷ ns) ≡ Some n.brand
found [] n ns none = ap (λ t. cond t (Some n.brand) (brand_under n.keyword ns)) ((bytes_eq-Decides n.keyword n.keyword).1 refl)
found (d ∷ ds) n ns none = by (bytes_eq n.keyword d.keyword) (found ds n ns) none
  where
    by : (t : Bool) → (brand_under n.keyword ds ≡ None → brand_under n.keyword (ds ++ n ∷ ns) ≡ Some n.brand) → cond t (Some d.brand) (brand_under n.keyword ds) ≡ None → cond t (Some d.brand) (brand_under n.keyword (ds ++ n ∷ ns)) ≡ Some n.brand
    by true later h = absurd cc
    by false later h = later h

-- ---- slots of amounts

with_all : (ds : List SlotName) (xs : List KeywordAmount) → AreApartNames (ds ++ map amount_name xs) → with_amounts xs ds ≡ ds ++ map amount_name xs
with_all ds [] a = sym (append-nil ds)
with_all ds (x ∷ xs) a =
    ap (λ t. with_amounts xs (cond t ds (ds ++ amount_name x ∷ []))) (ap is_some (apart_behind ds (amount_name x) (map amount_name xs) a))
    ∙ with_all (ds ++ amount_name x ∷ []) xs (subst AreApartNames (sym (append_assoc ds (amount_name x ∷ []) (map amount_name xs))) a)
    ∙ append_assoc ds (amount_name x ∷ []) (map amount_name xs)

with_both : (xs ys : List KeywordAmount) (ss : List SlotName) → with_amounts ys (with_amounts xs ss) ≡ with_amounts (xs ++ ys) ss
with_both [] ys ss = refl
with_both (x ∷ xs) ys ss = with_both xs ys (with_slot x.keyword x.brand ss)

abbrev HasItsBrand : List SlotName → KeywordAmount → Type 0
HasItsBrand ns a = brand_under a.keyword ns ≡ Some a.brand

own_brands : (ds : List SlotName) (xs : List KeywordAmount) → AreApartNames (ds ++ map amount_name xs) → AllByRecursion (HasItsBrand (ds ++ map amount_name xs)) xs
own_brands ds [] a = tt
own_brands ds (x ∷ xs) a =
    let assoc = append_assoc ds (amount_name x ∷ []) (map amount_name xs) in (
      found ds (amount_name x) (map amount_name xs) (apart_behind ds (amount_name x) (map amount_name xs) a),
      subst (λ ns. AllByRecursion (HasItsBrand ns) xs) assoc (own_brands (ds ++ amount_name x ∷ []) xs (subst AreApartNames (sym assoc) a)),
    )

-- ---- keywords of a row in form

absent : (k : List ℕ) (xs : List KeywordAmount) → has_keyword k xs ≡ false → brand_under k (map amount_name xs) ≡ None
absent k [] h = refl
absent k (x ∷ xs) h = by (bytes_eq k x.keyword) h (absent k xs)
  where
    by : (b : Bool) → (b || has_keyword k xs) ≡ false → (has_keyword k xs ≡ false → brand_under k (map amount_name xs) ≡ None) → cond b (Some x.brand) (brand_under k (map amount_name xs)) ≡ None
    by true e later = absurd (cc)
    by false e later = later e

absent_both : (k : List ℕ) (xs ys : List KeywordAmount) → brand_under k (map amount_name xs) ≡ None → brand_under k (map amount_name ys) ≡ None → brand_under k (map amount_name (xs ++ ys)) ≡ None
absent_both k [] ys first second = second
absent_both k (x ∷ xs) ys first second = by (bytes_eq k x.keyword) first (λ h. absent_both k xs ys h second)
  where
    by : (b : Bool) → cond b (Some x.brand) (brand_under k (map amount_name xs)) ≡ None → (brand_under k (map amount_name xs) ≡ None → brand_under k (map amount_name (xs ++ ys)) ≡ None)
        → cond b (Some x.brand) (brand_under k (map amount_name (xs ++ ys))) ≡ None
    by true e later = absurd (cc)
    by false e later = later e

above : (k : List ℕ) (xs : List KeywordAmount) → AllByRecursion (λ y. key_cmp k y ≡ Less) (map (λ (a : KeywordAmount). a.keyword) xs) → brand_under k (map amount_name xs) ≡ None
above k [] h = refl
above k (x ∷ xs) h = ap (λ b. cond b (Some x.brand) (brand_under k (map amount_name xs))) (sym (is_eq-slice_cmp k x.keyword) ∙ ap is_eq h.0) ∙ above k xs h.1

abbrev AreRising : List KeywordAmount → Type 0
AreRising xs = IsStrictlySortedBy key_cmp (map (λ (a : KeywordAmount). a.keyword) xs)

rising_apart : (xs : List KeywordAmount) → AreRising xs → AreApartNames (map amount_name xs)
unfolding IsStrictlySortedBy
rising_apart [] h = tt
rising_apart (x ∷ xs) h = (above x.keyword xs h.0, rising_apart xs h.1)

both_apart : (xs ys : List KeywordAmount) → AreRising xs → AreRising ys → ((k : List ℕ) → has_keyword k xs ≡ true → has_keyword k ys ≡ false) → AreApartNames (map amount_name (xs ++ ys))
unfolding IsStrictlySortedBy
both_apart [] ys first second apart = rising_apart ys second
both_apart (x ∷ xs) ys first second apart = (
  absent_both x.keyword xs ys (above x.keyword xs first.0) (absent x.keyword ys (apart x.keyword here)),
  both_apart xs ys first.1 second (λ k has. apart k (later k has)),
)
  where
    here : has_keyword x.keyword (x ∷ xs) ≡ true
    here = ap (λ b. b || has_keyword x.keyword xs) ((bytes_eq-Decides x.keyword x.keyword).1 refl)

    later : (k : List ℕ) → has_keyword k xs ≡ true → has_keyword k (x ∷ xs) ≡ true
    later k has = by (bytes_eq k x.keyword)
      where
        by : (b : Bool) → (b || has_keyword k xs) ≡ true
        by true = refl
        by false = has

-- each slot is of one brand
pub slots_of_brands : (e : Edition) (o : Opening) → HasOpeningForm e o → AllByRecursion (λ a. brand_under a.keyword (new_seat o).slots ≡ Some a.brand) (o.give ++ o.want)
slots_of_brands e o form =
    subst (λ ns. AllByRecursion (HasItsBrand ns) (o.give ++ o.want)) (sym (with_both o.give o.want [] ∙ with_all [] (o.give ++ o.want) apart)) (own_brands [] (o.give ++ o.want) apart)
  where
    apart : AreApartNames (map amount_name (o.give ++ o.want))
    apart = both_apart o.give o.want form.give.rising form.want.rising form.apart
