-- Values are printed in form, and alike in a row of their own and as data.
use Rattle.std.proofs.Common.{◌≡◌, ℕ, pos, ◌<◌, ◌^◌, ◌&&◌, List, [], ◌∷◌, map, length, true, false, Bool, nat_lt, Ordering, Less, Equal, Greater, refl, ap, sym, ◌∙◌, subst, inl, inr, arith}
use lib.Dec.{T}
use lib.ListN.{get_or}
use Rattle.std.proofs.lemmas.List.{length-map}
use Rattle.std.proofs.lemmas.List.Elements.{All-from_get_or, recursion_from_All}
use Rattle.std.specs.FinMap as fin
use Rattle.std.specs.FinMap.Entries.{below_all}
use Rattle.std.specs.FinMap.{is_sorted}
use Rattle.std.specs.List.{AllByRecursion}
use Rattle.std.specs.List.Sorted.{IsStrictlySortedBy}
use Rattle.std.specs.Ordering.{is_lt}
use Rattle.std.specs.Str.{IsUtf8}
use Rattle.turn_rows.specs.amount_math.Entries.{AreEntries, IsEntry, entry_at}
use Rattle.turn_rows.proofs.amount_math.Listed.{entries_are, listed_at}
use Rattle.turn_rows.specs.amount_math.ValueView.{IsBag, IsSet, IsValue}
use Rattle.turn_rows.specs.amount_math.Content.{count_listed, key_cmp}
use Rattle.turn_rows.specs.Form.{AreElements, HasElementForm, HasValueForm, is_key, key_of}
use Rattle.turn_rows.specs.Turns.{Element}
use Rattle.turn_records.specs.Values.{HasTexts}
use Rattle.turn_rows.specs.amount_math.Content.{Content, count, entries, unit}
use Rattle.turn_rows.specs.amount_math.ValueView.{ValueView}
use Rattle.turn_rows.specs.amount_math.declared.Kind.{Kind}
use Rattle.turn_rows.specs.amount_math.declared.Kind.TheVariants.{Nat, Set, Bag}
use Rattle.serde_json.specs.Data as json
use Rattle.refusals.specs.host_data.View.{items_of}
use Rattle.refusals.specs.host_data.Values.{content_tree, counted_tree, key_tree, value_tree}
use Rattle.turn_rows.specs.Rows.{elements_json, number_json, value_json}
use Rattle.turn_records.specs.PrintedData.{printed, printed_items, printed_number}
use Rattle.turn_records.specs.Values.{counted_element, key_element, printed_content, printed_value}
use Rattle.turn_rows.specs.Editions.{written}

number_alike : (n : ℕ) (b : Bool) → nat_lt n (2 ^ 63) ≡ b → number_json n ≡ printed_number (pos n)
number_alike n true low = rw low refl
number_alike n false low = rw low refl

keys_alike : (es : List (List ℕ × ℕ)) → elements_json (map key_element es) ≡ printed_items (items_of (map key_tree es))
keys_alike [] = refl
keys_alike (e ∷ es) = ap (json.item (json.string e.0)) (keys_alike es)

counted_alike : (es : List (List ℕ × ℕ)) → elements_json (map counted_element es) ≡ printed_items (items_of (map counted_tree es))
counted_alike [] = refl
counted_alike (e ∷ es) = rw (number_alike e.1 (nat_lt e.1 (2 ^ 63)) refl, counted_alike es) refl

content_alike : (kind : Kind) (c : Content) → value_json (printed_content kind c) ≡ printed (content_tree kind c)
content_alike Nat c = number_alike (count c unit) (nat_lt (count c unit) (2 ^ 63)) refl
content_alike Set c = ap json.array (keys_alike (entries c))
content_alike Bag c = ap json.array (counted_alike (entries c))

pub values_alike : (w : ValueView) → value_json (printed_value w) ≡ printed (value_tree w)
unfolding value_tree
values_alike w = content_alike w.kind w.content

-- ---- form

below : (r : Ordering) → T (is_lt r) → r ≡ Less
below Less h = refl
below Equal h = absurd h
below Greater h = absurd h

left : (a b : Bool) → T (a && b) → T a
left true b h = tt
left false b h = absurd h

right : (a b : Bool) → T (a && b) → T b
right true b h = h
right false b h = absurd h

module _ (element : List ℕ × ℕ → Element) (same : (e : List ℕ × ℕ) → key_of (element e) ≡ e.0) where
  names_after : (k : List ℕ) (es : List (List ℕ × ℕ)) → T (below_all key_cmp k es) → AllByRecursion (λ y. key_cmp k y ≡ Less) (map key_of (map element es))
  names_after k [] h = tt
  names_after k (e ∷ es) h = (ap (key_cmp k) (same e) ∙ below _ (left _ _ h), names_after k es (right _ _ h))

  names_rise : (es : List (List ℕ × ℕ)) → T (is_sorted key_cmp es) → IsStrictlySortedBy key_cmp (map key_of (map element es))
  unfolding IsStrictlySortedBy
  names_rise [] h = tt
  names_rise (e ∷ es) h = (subst (λ k. AllByRecursion (λ y. key_cmp k y ≡ Less) (map key_of (map element es))) (sym (same e)) (names_after e.0 es (left _ _ h)), names_rise es (right _ _ h))

  each_element : (P : Element → Type 0) → ((e : List ℕ × ℕ) → IsEntry e → IsUtf8 e.0 → P (element e)) → (es : List (List ℕ × ℕ))
      → AllByRecursion IsEntry es → AllByRecursion (λ e. IsUtf8 e.0) es → AllByRecursion P (map element es)
  each_element P is [] h k = tt
  each_element P is (e ∷ es) h k = (is e h.0 k.0, each_element P is es h.1 k.1)

texts : (c : Content) → AreEntries (entries c) → HasTexts c → AllByRecursion (λ e. IsUtf8 e.0) (entries c)
texts c are told = recursion_from_All (λ e. IsUtf8 e.0) (entries c) (All-from_get_or (λ e. IsUtf8 e.0) (entries c) ([], 0) text_at)
  where
    text_at : (i : ℕ) → i < length (entries c) → IsUtf8 (get_or (entries c) i ([], 0)).0
    text_at i lt =
        let e = entry_at (entries c) i in
        let is : IsEntry e = are.each i ([], 0) lt in
        told.each e.0 (λ z. omega (arith, z, is.some, count_listed c e.0, listed_at (entries c) i are.rising lt))

key_form : (e : List ℕ × ℕ) → IsEntry e → IsUtf8 e.0 → HasElementForm (key_element e)
key_form e is text = record { text = text; filled = is.key.filled; short = is.key.short }

counted_form : (e : List ℕ × ℕ) → IsEntry e → IsUtf8 e.0 → HasElementForm (counted_element e)
counted_form e is text = (record { text = text; filled = is.key.filled; short = is.key.short }, is.some, is.bounded)

set_form : (c : Content) → IsSet c → HasTexts c → AreElements (map key_element (entries c))
set_form c set told =
    let are = entries_are c set.keyed.keys (λ k. omega (arith, set.fits.each k)) in
    let each = recursion_from_All IsEntry (entries c) are.each in
    record {
      each = each_element key_element (λ e. refl) HasElementForm key_form (entries c) each (texts c are told);
      of_one_kind = inl (each_element key_element (λ e. refl) (λ e. is_key e ≡ true) (λ e is text. refl) (entries c) each (texts c are told));
      rising = names_rise key_element (λ e. refl) (entries c) are.rising;
      few = omega (arith, length-map (entries c) key_element, fin.len-entries c.held, set.keyed.few);
    }

bag_form : (c : Content) → IsBag c → HasTexts c → AreElements (map counted_element (entries c))
bag_form c bag told =
    let are = entries_are c bag.keyed.keys (λ k. omega (arith, bag.fits.each k)) in
    let each = recursion_from_All IsEntry (entries c) are.each in
    record {
      each = each_element counted_element (λ e. refl) HasElementForm counted_form (entries c) each (texts c are told);
      of_one_kind = inr (each_element counted_element (λ e. refl) (λ e. is_key e ≡ false) (λ e is text. refl) (entries c) each (texts c are told));
      rising = names_rise counted_element (λ e. refl) (entries c) are.rising;
      few = omega (arith, length-map (entries c) counted_element, fin.len-entries c.held, bag.keyed.few);
    }

content_form : (kind : Kind) (c : Content) → IsValue kind c → HasTexts c → HasValueForm written (printed_content kind c)
content_form Nat c is told = omega (arith, is.fits.each unit)
content_form Set c is told = set_form c is told
content_form Bag c is told = bag_form c is told

pub value_form : (w : ValueView) → IsValue w.kind w.content → HasTexts w.content → HasValueForm written (printed_value w)
value_form w is told = content_form w.kind w.content is told
