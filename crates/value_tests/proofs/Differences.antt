-- The entries of a difference, and the values that are made of them.
use Rattle.std.proofs.Common.{◌≡◌, ℕ, ◌-◌, ◌≤◌, ◌&&◌, true, false, cond, List, [], ◌∷◌, Some, refl, sym, ap, subst, ◌∙◌, arith}
use lib.Dec.{T}
use Rattle.std.specs.List.{All}
use Rattle.std.specs.List.Sorted.{IsPermutation}
use Rattle.std.specs.Option.{unwrap_or}
use Rattle.std.specs.Ordering.{eq_by_cmp, is_lt}
use Rattle.std.specs.FinMap as fin
use Rattle.std.specs.FinMap.{find, is_sorted}
use Rattle.std.specs.FinMap.Entries.{below_all}
use Rattle.std.specs.Prelude.{ℤ, map}
use Rattle.std.proofs.lemmas.List.Elements.{All-cons, All-head, All-nil, All-tail}
use Rattle.std.proofs.lemmas.List.Sorted.{IsPermutation-refl}
use Rattle.std.proofs.lemmas.Option.{same_Some}
use Rattle.refusals.proofs.amount_math.Listed.{entries-of_entries, entries_are, listed-tally, same_key}
use Rattle.refusals.proofs.amount_math.Lowered.{each_kept, rising_kept, tally_kept}
use Rattle.refusals.specs.amount_math.Content.{Content, Contains, count, count_listed, count-difference, count-of_entries, difference, entries, key_cmp, listed, of_entries, same_content}
use Rattle.refusals.specs.amount_math.Entries.{AreEntries, Entries, IsEntry, IsLowered, IsRising, most_of_key, tally}
use Rattle.refusals.specs.amount_math.KindData.{IsKeysOf, IsPairsOf, signed}
use Rattle.refusals.specs.amount_math.KindLaws.{value_of_part}
use Rattle.refusals.specs.amount_math.ValueView.{HasKeys, IsBag, IsSet, ValueView}
use Rattle.refusals.specs.amount_math.declared.Kind.TheVariants.{Bag, Set}
use Rattle.refusals.proofs.host_data.KeyedData.{bag_is, set_is}
use Rattle.value_tests.specs.Left.{left_of, less_by}

pub entries_rise : (c : Content) → IsRising (entries c)
entries_rise c = fin.entries_sorted c.held

-- ---- the entries of a difference

below_same : (others : Entries) (k : List ℕ) (es : Entries) → below_all key_cmp k (map (less_by others) es) ≡ below_all key_cmp k es
below_same others k [] = refl
below_same others k (e ∷ es) = ap (λ b. is_lt (key_cmp k e.0) && b) (below_same others k es)

rises_same : (others es : Entries) → is_sorted key_cmp (map (less_by others) es) ≡ is_sorted key_cmp es
rises_same others [] = refl
rises_same others (e ∷ es) =
    ap (λ b. b && is_sorted key_cmp (map (less_by others) es)) (below_same others e.0 es)
    ∙ ap (λ b. below_all key_cmp e.0 es && b) (rises_same others es)

each_less : (others es : Entries) → All IsEntry es → All IsLowered (map (less_by others) es)
each_less others [] all = All-nil IsLowered
each_less others (e ∷ es) all =
    let one = All-head IsEntry e es all in
    All-cons IsLowered (less_by others e) (map (less_by others) es)
    (record { key = one.key; bounded = omega (arith, one.bounded) })
    (each_less others es (All-tail IsEntry e es all))

listed_less : (others es : Entries) (k : List ℕ) → listed (map (less_by others) es) k ≡ listed es k - tally others k
listed_less others [] k = omega arith
listed_less others (e ∷ es) k =
    elim (eq_by_cmp key_cmp k e.0) as (λ b. eq_by_cmp key_cmp k e.0 ≡ b → unwrap_or (cond b (Some (e.1 - tally others e.0)) (find key_cmp k (map (less_by others) es))) 0 ≡ unwrap_or (cond b (Some e.1) (find key_cmp k es)) 0 - tally others k) [
      | true ↦ λ p. ap (λ q. e.1 - tally others q) (sym (same_key k e.0 p))
      | false ↦ λ p. listed_less others es k
    ] refl

module _ (a b : Content) (keys : HasKeys a) (bounded : (k : List ℕ) → count a k ≤ most_of_key) where
  left : Entries
  left = left_of (entries b) (entries a)

  are : AreEntries (entries a)
  are = entries_are a keys bounded

  lowered_rise : IsRising (map (less_by (entries b)) (entries a))
  lowered_rise = subst T (sym (rises_same (entries b) (entries a))) are.rising

  left_are : AreEntries (left_of (entries b) (entries a))
  left_are = record {
    rising = rising_kept (map (less_by (entries b)) (entries a)) lowered_rise;
    each = each_kept (map (less_by (entries b)) (entries a)) (each_less (entries b) (entries a) are.each);
  }

  count_left : (k : List ℕ) → count (of_entries (left_of (entries b) (entries a))) k ≡ count a k - count b k
  count_left k =
      let lowered = map (less_by (entries b)) (entries a) in
      count-of_entries (left_of (entries b) (entries a)) k
      ∙ listed-tally (left_of (entries b) (entries a)) k left_are.rising
      ∙ tally_kept lowered k
      ∙ sym (listed-tally lowered k lowered_rise)
      ∙ listed_less (entries b) (entries a) k
      ∙ ap (λ n. n - tally (entries b) k) (sym (count_listed a k))
      ∙ ap (λ n. count a k - n) (sym (listed-tally (entries b) k (entries_rise b)) ∙ sym (count_listed b k))

  pub entries_left : entries (difference a b) ≡ left_of (entries b) (entries a)
  entries_left =
      ap entries (same_content (difference a b) (of_entries (left_of (entries b) (entries a))) (λ k. count-difference a b k ∙ sym (count_left k)))
      ∙ entries-of_entries (left_of (entries b) (entries a)) left_are

part : (a b : Content) → Contains a (difference a b)
part a b = record { each = λ k. omega (arith, count-difference a b k) }

-- ---- sets

module _ (a b : Content) (set : IsSet a) (ks : List (List ℕ)) (are : ks ≡ map (λ e. e.0) (left_of (entries b) (entries a))) where
  set_keys : IsKeysOf ks (difference a b)
  set_keys =
      subst (λ (es : Entries). IsPermutation ks (map (λ e. e.0) es)) (sym (entries_left a b set.keyed.keys (λ k. omega (arith, set.fits.each k))))
      (subst (λ (qs : List (List ℕ)). IsPermutation ks qs) are (IsPermutation-refl ks))

  is_set : IsSet (difference a b)
  is_set = value_of_part Set a (difference a b) (part a b) set

  pub made_set : (w : ValueView) → w.kind ≡ Set → IsKeysOf ks w.content → IsSet w.content → w ≡ record { kind = Set; content = difference a b }
  made_set w kind keys value =
      let one = set_is ks w kind keys value in
      let other = set_is ks (record { kind = Set; content = difference a b }) refl set_keys is_set in
      same_Some _ _ (sym one ∙ other)

  pub makes_set : ((c : Content) → IsSet c → ¬ IsKeysOf ks c) → ⊥
  makes_set none = none (difference a b) is_set set_keys

-- ---- bags

module _ (a b : Content) (bag : IsBag a) (ps : List (List ℕ × ℤ)) (are : ps ≡ map signed (left_of (entries b) (entries a))) where
  bag_pairs : IsPairsOf ps (difference a b)
  bag_pairs =
      subst (λ (es : Entries). IsPermutation ps (map signed es)) (sym (entries_left a b bag.keyed.keys bag.fits.each))
      (subst (λ (qs : List (List ℕ × ℤ)). IsPermutation ps qs) are (IsPermutation-refl ps))

  is_bag : IsBag (difference a b)
  is_bag = value_of_part Bag a (difference a b) (part a b) bag

  pub made_bag : (w : ValueView) → w.kind ≡ Bag → IsPairsOf ps w.content → IsBag w.content → w ≡ record { kind = Bag; content = difference a b }
  made_bag w kind pairs value =
      let one = bag_is ps w kind pairs value in
      let other = bag_is ps (record { kind = Bag; content = difference a b }) refl bag_pairs is_bag in
      same_Some _ _ (sym one ∙ other)

  pub makes_bag : ((c : Content) → IsBag c → ¬ IsPairsOf ps c) → ⊥
  makes_bag none = none (difference a b) is_bag bag_pairs
