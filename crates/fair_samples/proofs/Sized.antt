-- What printed movements come to in all, by counting: totals of holders, what was minted and burned, and balance.
use Rattle.std.proofs.Common.{◌≡◌, ◌≤◌, ◌<◌, ◌≢◌, ◌+◌, ◌-◌, ℕ, Bool, true, false, cond, not, ◌&&◌, ◌||◌, ◌==◌, nat_le, nat_lt, List, [], ◌∷◌, ◌++◌, map, refl, sym, ap, subst, ◌∙◌, inl, inr, arith, leb-true, ltb-true, eqb-true, eq-eqb, ne_eqb}
use Rattle.std.proofs.lemmas.Bool.{and_parts, cases_eq, false_from_ne_true}
use Rattle.std.specs.List.{list_all}
use Rattle.fair_rows.specs.amount_math.Content.{Contains, Content, count, count-difference, count-nothing, count-sum, difference, entries, nothing, nothing-sum, of_entries, same_content, sum, sum-assoc}
use Rattle.fair_rows.specs.amount_math.Counted.{counted as size, counted-difference, counted-nothing, counted-of_nat, counted-sum}
use Rattle.fair_rows.specs.amount_math.Entries.{Entries}
use Rattle.fair_rows.specs.amount_math.Totals.{total, total-empty, total-put, weighed}
use Rattle.fair_rows.specs.amount_math.ValueView.{Fits, bound, minted_bound}
use Rattle.fair_rows.specs.amount_math.declared.Kind.{Kind}
use Rattle.fair_rows.specs.amount_math.declared.Kind.TheVariants.{Bag, Nat, Set}
use Rattle.fair_rows.proofs.amount_math.Listed.{entries-of_entries}
use Rattle.fair_rows.specs.rights_model.Place.{Place, place}
use Rattle.fair_rows.specs.rights_model.Supply.{burned, is_hand, is_outside, is_store, minted, moved_where, supply, total_of}
use Rattle.fair_rows.specs.rights_model.Table.{Table, given, holdings, holds, no_holdings, table_after, taken}
use Rattle.fair_rows.specs.rights_model.Totals.{held_over, is_payment, is_purse, is_slot, weight_of}
use Rattle.fair_rows.specs.rights_model.declared.Holder.{Holder}
use Rattle.fair_rows.specs.rights_model.declared.Holder.TheVariants.{Hand, Outside, Payment, Purse, Slot}
use Rattle.fair_rows.specs.rights_model.declared.Movement.{Movement}
use Rattle.fair_rows.specs.rights_model.declared.Sum.{Sum}
use Rattle.fair_rows.proofs.rights_model.SupplyLaws.{adds_up_after}
use Rattle.fair_rows.specs.turn_rows.Editions.{nat_end}
use Rattle.fair_rows.specs.turn_rows.declared.editions.Edition.{Edition}
use Rattle.fair_rows.specs.turn_rows.declared.editions.Edition.TheVariants.{First, Second}
use Rattle.fair_rows.specs.turn_rows.Turns.{elements, Move, number, Value}
use Rattle.fair_rows.specs.Movements.{movement_of}
use Rattle.fair_rows.specs.SoFar.{SoFar, sum_so_far}
use Rattle.fair_rows.specs.Turns.{IsWithin}
use Rattle.fair_rows.specs.Values.{content_of, entry_of}
use Rattle.fair_samples.specs.Sentences.{AddsUp}
use Rattle.fair_samples.proofs.Held.{all_held, all_moves, at_itself, at_same, can_move, can_move_all, counts_in, count-value, everywhere, held, held_is, is_at, moves, moves_of, table_is, table_of}
use Rattle.fair_samples.proofs.Printed.{are_entries, entries_are}

-- ---- how much a value is, all elements counted

abbrev all_of : Entries → ℕ
all_of [] = 0
all_of (e ∷ es) = e.1 + all_of es

abbrev pub size_of : Value → ℕ
size_of (number n) = n
size_of (elements es) = all_of (map entry_of es)

-- its elements stand in order, each once
abbrev pub is_sized : Value → Bool
is_sized (number n) = true
is_sized (elements es) = are_entries (map entry_of es)

weighed_is : (w : List ℕ → ℕ → ℕ) → ((k : List ℕ) (n : ℕ) → w k n ≡ n) → (es : Entries) → weighed w es ≡ all_of es
weighed_is w is [] = refl
weighed_is w is (e ∷ es) = omega (arith, is e.0 e.1, weighed_is w is es)

pub size_is : (v : Value) → is_sized v ≡ true → size (content_of v) ≡ size_of v
size_is (number n) test = counted-of_nat n
size_is (elements es) test = weighed_is _ (λ k n. refl) (entries (of_entries (map entry_of es))) ∙ ap all_of (entries-of_entries (map entry_of es) (entries_are (map entry_of es) test))

-- ---- totals of holders

module _ (who : Holder → Bool) (not_outside : who Outside ≡ false) (b : ℕ) where
  none : (p : Place) → weight_of who b p nothing ≡ 0
  none (h, e) = elim (who h && (e == b)) as (λ x. cond x (size nothing) 0 ≡ 0) [ true ↦ counted-nothing | false ↦ refl ]

  adds : (p : Place) (c d : Content) → weight_of who b p (sum c d) ≡ weight_of who b p c + weight_of who b p d
  adds (h, e) c d = elim (who h && (e == b)) as (λ x. cond x (size (sum c d)) 0 ≡ cond x (size c) 0 + cond x (size d) 0) [ true ↦ counted-sum c d | false ↦ refl ]

  takes : (p : Place) (c d : Content) → Contains c d → weight_of who b p (difference c d) + weight_of who b p d ≡ weight_of who b p c
  takes (h, e) c d has = elim (who h && (e == b)) as (λ x. cond x (size (difference c d)) 0 + cond x (size d) 0 ≡ cond x (size c) 0) [ true ↦ counted-difference c d has | false ↦ refl ]

  abbrev over : Table → ℕ
  over t = total (weight_of who b) holdings t

  outside_none : (e : ℕ) (c : Content) → weight_of who b (place Outside e) c ≡ 0
  outside_none e c = ap (λ x. cond (x && (e == b)) (size c) 0) not_outside

  over_given : (t : Table) (h : Holder) (e : ℕ) (c : Content) → over (given t h e c) ≡ over t + weight_of who b (place h e) c
  unfolding given
  over_given t Outside e c = omega (arith, outside_none e c)
  over_given t (Purse n) e c = omega (arith, total-put (weight_of who b) holdings none t (place (Purse n) e) (sum (holds t (Purse n) e) c), adds (place (Purse n) e) (holds t (Purse n) e) c)
  over_given t (Payment n) e c = omega (arith, total-put (weight_of who b) holdings none t (place (Payment n) e) (sum (holds t (Payment n) e) c), adds (place (Payment n) e) (holds t (Payment n) e) c)
  over_given t (Slot n w) e c = omega (arith, total-put (weight_of who b) holdings none t (place (Slot n w) e) (sum (holds t (Slot n w) e) c), adds (place (Slot n w) e) (holds t (Slot n w) e) c)
  over_given t Hand e c = omega (arith, total-put (weight_of who b) holdings none t (place Hand e) (sum (holds t Hand e) c), adds (place Hand e) (holds t Hand e) c)

  taken_held : (t : Table) (h : Holder) (e : ℕ) (c : Content) → h ≢ Outside → (h ≢ Outside → Contains (holds t h e) c) → Contains (holds t h e) c
  taken_held t h e c inside has = has inside

  over_taken : (t : Table) (h : Holder) (e : ℕ) (c : Content) → (h ≢ Outside → Contains (holds t h e) c) → over (taken t h e c) + weight_of who b (place h e) c ≡ over t
  unfolding taken
  over_taken t Outside e c has = omega (arith, outside_none e c)
  over_taken t (Purse n) e c has = let had : Contains (holds t (Purse n) e) c = has (λ is. cc) in omega (arith, total-put (weight_of who b) holdings none t (place (Purse n) e) (difference (holds t (Purse n) e) c), takes (place (Purse n) e) (holds t (Purse n) e) c had)
  over_taken t (Payment n) e c has = let had : Contains (holds t (Payment n) e) c = has (λ is. cc) in omega (arith, total-put (weight_of who b) holdings none t (place (Payment n) e) (difference (holds t (Payment n) e) c), takes (place (Payment n) e) (holds t (Payment n) e) c had)
  over_taken t (Slot n w) e c has = let had : Contains (holds t (Slot n w) e) c = has (λ is. cc) in omega (arith, total-put (weight_of who b) holdings none t (place (Slot n w) e) (difference (holds t (Slot n w) e) c), takes (place (Slot n w) e) (holds t (Slot n w) e) c had)
  over_taken t Hand e c has = let had : Contains (holds t Hand e) c = has (λ is. cc) in omega (arith, total-put (weight_of who b) holdings none t (place Hand e) (difference (holds t Hand e) c), takes (place Hand e) (holds t Hand e) c had)

  -- what a value counts at a holder
  abbrev weight : Holder → ℕ → Value → ℕ
  weight h e v = cond (who h && (e == b)) (size_of v) 0

  abbrev pub total_held : List Move → ℕ
  total_held [] = 0
  total_held (m ∷ ms) = (total_held ms + weight m.to m.brand m.value) - weight m.from m.brand m.value

  weight_is : (h : Holder) (e : ℕ) (v : Value) → is_sized v ≡ true → weight_of who b (place h e) (content_of v) ≡ weight h e v
  weight_is h e v sized = ap (λ n. cond (who h && (e == b)) n 0) (size_is v sized)

  total_is : (ms : List Move) → can_move_all ms ≡ true → list_all (λ (m : Move). is_sized m.value) ms ≡ true → over (table_of ms) ≡ total_held ms
  total_is [] can sized = total-empty (weight_of who b) holdings
  total_is (m ∷ ms) can sized =
      let c = content_of m.value in
      let s = and_parts (is_sized m.value) _ sized in
      let k = and_parts (can_move ms m) _ can in
      omega (
        arith,
        over_taken (table_of ms) m.from m.brand c (moves ms m k.0).has,
        over_given (taken (table_of ms) m.from m.brand c) m.to m.brand c,
        weight_is m.from m.brand m.value s.0,
        weight_is m.to m.brand m.value s.0,
        total_is ms k.1 s.1,
      )

  pub held_over_is : (ms : List Move) → can_move_all ms ≡ true → list_all (λ (m : Move). is_sized m.value) ms ≡ true → held_over who (table_of ms) b ≡ total_held ms
  unfolding held_over
  held_over_is ms can sized = total_is ms can sized

-- ---- what was minted and burned

moved_where-append : (end : Movement → Holder) (xs ys : List Movement) (b : ℕ) → moved_where end (xs ++ ys) b ≡ sum (moved_where end xs b) (moved_where end ys b)
moved_where-append end [] ys b = sym (nothing-sum (moved_where end ys b))
moved_where-append end (x ∷ xs) ys b = by (is_outside (end x) && (x.brand == b)) (moved_where-append end xs ys b)
  where
    by : (c : Bool) → moved_where end (xs ++ ys) b ≡ sum (moved_where end xs b) (moved_where end ys b)
        → cond c (sum x.value.content (moved_where end (xs ++ ys) b)) (moved_where end (xs ++ ys) b) ≡ sum (cond c (sum x.value.content (moved_where end xs b)) (moved_where end xs b)) (moved_where end ys b)
    by true rest = ap (sum x.value.content) rest ∙ sym (sum-assoc x.value.content (moved_where end xs b) (moved_where end ys b))
    by false rest = rest

module _ (end : Movement → Holder) (of_move : Move → Holder) (same : (m : Move) → end (movement_of m) ≡ of_move m) (b : ℕ) where
  abbrev pub size_where : List Move → ℕ
  size_where [] = 0
  size_where (m ∷ ms) = size_where ms + cond (is_outside (of_move m) && (m.brand == b)) (size_of m.value) 0

  one_size : (q : Bool) (v : Value) → is_sized v ≡ true → size (cond q (sum (content_of v) nothing) nothing) ≡ cond q (size_of v) 0
  one_size true v sized = omega (arith, counted-sum (content_of v) nothing, counted-nothing, size_is v sized)
  one_size false v sized = counted-nothing

  pub size_where_is : (ms : List Move) → list_all (λ (m : Move). is_sized m.value) ms ≡ true → size (moved_where end (moves_of ms) b) ≡ size_where ms
  size_where_is [] sized = counted-nothing
  size_where_is (m ∷ ms) sized =
      let s = and_parts (is_sized m.value) _ sized in
      ap size (moved_where-append end (moves_of ms) (movement_of m ∷ []) b)
      ∙ counted-sum (moved_where end (moves_of ms) b) (moved_where end (movement_of m ∷ []) b)
      ∙ omega (arith, size_where_is ms s.1, ap (λ h. size (cond (is_outside h && (m.brand == b)) (sum (content_of m.value) nothing) nothing)) (same m), one_size (is_outside (of_move m) && (m.brand == b)) m.value s.0)

  -- how many of an element
  abbrev pub count_where : List Move → List ℕ → ℕ
  count_where [] k = 0
  count_where (m ∷ ms) k = count_where ms k + cond (is_outside (of_move m) && (m.brand == b)) (counts_in m.value k) 0

  one_count : (q : Bool) (v : Value) (k : List ℕ) → count (cond q (sum (content_of v) nothing) nothing) k ≡ cond q (counts_in v k) 0
  one_count true v k = omega (arith, count-sum (content_of v) nothing k, count-nothing k, count-value v k)
  one_count false v k = count-nothing k

  pub count_where_is : (ms : List Move) (k : List ℕ) → count (moved_where end (moves_of ms) b) k ≡ count_where ms k
  count_where_is [] k = count-nothing k
  count_where_is (m ∷ ms) k =
      ap (λ c. count c k) (moved_where-append end (moves_of ms) (movement_of m ∷ []) b)
      ∙ count-sum (moved_where end (moves_of ms) b) (moved_where end (movement_of m ∷ []) b) k
      ∙ omega (arith, count_where_is ms k, ap (λ h. count (cond (is_outside h && (m.brand == b)) (sum (content_of m.value) nothing) nothing) k) (same m), one_count (is_outside (of_move m) && (m.brand == b)) m.value k)

abbrev pub minted_size : List Move → ℕ → ℕ
minted_size ms b = size_where (λ (m : Movement). m.from) (λ (m : Move). m.from) (λ m. refl) b ms

abbrev pub burned_size : List Move → ℕ → ℕ
burned_size ms b = size_where (λ (m : Movement). m.to) (λ (m : Move). m.to) (λ m. refl) b ms

-- no more was minted of a brand than may be
abbrev pub mints_few : List Move → ℕ → Bool
mints_few ms b = list_all (λ (m : Move). is_sized m.value) ms && nat_le (minted_size ms b) minted_bound

pub few_minted : (ms : List Move) (b : ℕ) → mints_few ms b ≡ true → size (minted (moves_of ms) b) ≤ minted_bound
few_minted ms b test =
    let parts = and_parts (list_all (λ (m : Move). is_sized m.value) ms) (nat_le (minted_size ms b) minted_bound) test in
    subst (λ n. n ≤ minted_bound) (sym (size_where_is (λ (m : Movement). m.from) (λ (m : Move). m.from) (λ m. refl) b ms parts.0)) (leb-true (minted_size ms b) minted_bound parts.1)

-- ---- sums

abbrev pub sum_in : List Move → ℕ → Sum
sum_in ms b = record {
  brand = b;
  minted = minted_size ms b;
  burned = burned_size ms b;
  purses = total_held is_purse refl b ms;
  payments = total_held is_payment refl b ms;
  slots = total_held is_slot refl b ms;
}

abbrev pub can_sum : List Move → Bool
can_sum ms = can_move_all ms && list_all (λ (m : Move). is_sized m.value) ms

pub sum_is : (s : SoFar) (ms : List Move) → s.table ≡ table_of ms → s.moves ≡ moves_of ms → can_sum ms ≡ true → (b : ℕ) → sum_in ms b ≡ sum_so_far s b
sum_is s ms table same_moves can b =
    let parts = and_parts (can_move_all ms) _ can in
    λ i. record {
      brand = b;
      minted = (sym (ap (λ x. size (minted x b)) same_moves ∙ size_where_is (λ (m : Movement). m.from) (λ (m : Move). m.from) (λ m. refl) b ms parts.1)) i;
      burned = (sym (ap (λ x. size (burned x b)) same_moves ∙ size_where_is (λ (m : Movement). m.to) (λ (m : Move). m.to) (λ m. refl) b ms parts.1)) i;
      purses = (sym (ap (λ t. held_over is_purse t b) table ∙ held_over_is is_purse refl b ms parts.0 parts.1)) i;
      payments = (sym (ap (λ t. held_over is_payment t b) table ∙ held_over_is is_payment refl b ms parts.0 parts.1)) i;
      slots = (sym (ap (λ t. held_over is_slot t b) table ∙ held_over_is is_slot refl b ms parts.0 parts.1)) i;
    }

-- ---- bounds: what was minted is as if it were given to one holder

abbrev pub mints : List Move → List Move
mints [] = []
mints (m ∷ ms) = let rest = mints ms in cond (is_outside m.from) (record { brand = m.brand; from = Outside; to = Hand; value = m.value } ∷ rest) rest

hand_at : (b e : ℕ) → is_at Hand b Hand e ≡ (e == b)
hand_at b e = elim (cases_eq e b) [
  | inl is ↦ subst (λ x. is_at Hand b Hand x ≡ true) (sym is) (at_itself Hand b refl) ∙ sym (eq-eqb e b is)
  | inr apart ↦ false_from_ne_true _ (λ same. apart (sym (ap (λ (p : Place). p.1) (at_same Hand b Hand e same)))) ∙ sym (ne_eqb e b apart)
]

minted_held : (ms : List Move) (b : ℕ) (k : List ℕ) → count_where (λ (m : Movement). m.from) (λ (m : Move). m.from) (λ m. refl) b ms k ≡ held (mints ms) Hand b k
minted_held [] b k = refl
minted_held (m ∷ ms) b k = by (is_outside m.from) (minted_held ms b k)
  where
    added : (q : Bool) (n c : ℕ) → n + cond q c 0 ≡ cond q (n + c) n
    added true n c = refl
    added false n c = omega arith

    by : (q : Bool) → count_where (λ (m : Movement). m.from) (λ (m : Move). m.from) (λ m. refl) b ms k ≡ held (mints ms) Hand b k
        → count_where (λ (m : Movement). m.from) (λ (m : Move). m.from) (λ m. refl) b ms k + cond (q && (m.brand == b)) (counts_in m.value k) 0 ≡ held (cond q (record { brand = m.brand; from = Outside; to = Hand; value = m.value } ∷ mints ms) (mints ms)) Hand b k
    by true rest = ap (λ n. n + cond (m.brand == b) (counts_in m.value k) 0) rest ∙ added (m.brand == b) (held (mints ms) Hand b k) (counts_in m.value k) ∙ ap (λ q. cond q (held (mints ms) Hand b k + counts_in m.value k) (held (mints ms) Hand b k)) (sym (hand_at b m.brand))
    by false rest = omega (arith, rest)

abbrev pub burned_count : List Move → ℕ → List ℕ → ℕ
burned_count ms b k = count_where (λ (m : Movement). m.to) (λ (m : Move). m.to) (λ m. refl) b ms k

abbrev pub are_bounded : (ℕ → Kind) → List Move → Bool
are_bounded kind_of ms = all_held (λ h b k n. nat_le (n - burned_count ms b k) (bound (kind_of b))) (mints ms)

pub bounded_is : (kind_of : ℕ → Kind) (ms : List Move) → are_bounded kind_of ms ≡ true → (b : ℕ) → Fits (kind_of b) (supply (moves_of ms) b)
bounded_is kind_of ms test b = record {
  each = λ k. omega (
    arith,
    count-difference (minted (moves_of ms) b) (burned (moves_of ms) b) k,
    count_where_is (λ (m : Movement). m.from) (λ (m : Move). m.from) (λ m. refl) b ms k,
    minted_held ms b k,
    count_where_is (λ (m : Movement). m.to) (λ (m : Move). m.to) (λ m. refl) b ms k,
    few k,
  );
}
  where
    few : (k : List ℕ) → held (mints ms) Hand b k - burned_count ms b k ≤ bound (kind_of b)
    few k = elim (everywhere (λ h e q n. nat_le (n - burned_count ms e q) (bound (kind_of e))) (mints ms) test Hand b k) [
      | inl passes ↦ leb-true _ _ passes
      | inr none ↦ omega (arith, none)
    ]

-- ---- bounds of an edition

abbrev pub within_test : Edition → Kind → ℕ → Bool
within_test d Nat n = nat_lt n (nat_end d)
within_test d _ n = true

abbrev pub are_within : Edition → (ℕ → Kind) → List Move → Bool
are_within d kind_of ms = all_held (λ h b k n. within_test d (kind_of b) (n - burned_count ms b k)) (mints ms)

some_end : (d : Edition) → 0 < nat_end d
some_end First = omega arith
some_end Second = omega arith

pub within_is : (d : Edition) (kind_of : ℕ → Kind) (ms : List Move) → are_within d kind_of ms ≡ true → (b : ℕ) → IsWithin d (kind_of b) (supply (moves_of ms) b)
within_is d kind_of ms test b = by (kind_of b) refl
  where
    counted : (k : List ℕ) → count (supply (moves_of ms) b) k ≡ held (mints ms) Hand b k - burned_count ms b k
    counted k = omega (
      arith,
      count-difference (minted (moves_of ms) b) (burned (moves_of ms) b) k,
      count_where_is (λ (m : Movement). m.from) (λ (m : Move). m.from) (λ m. refl) b ms k,
      minted_held ms b k,
      count_where_is (λ (m : Movement). m.to) (λ (m : Move). m.to) (λ m. refl) b ms k,
    )

    few : kind_of b ≡ Nat → (k : List ℕ) → held (mints ms) Hand b k - burned_count ms b k < nat_end d
    few nat k = elim (everywhere (λ h e q n. within_test d (kind_of e) (n - burned_count ms e q)) (mints ms) test Hand b k) [
      | inl passes ↦ ltb-true _ (nat_end d) (subst (λ x. within_test d x (held (mints ms) Hand b k - burned_count ms b k) ≡ true) nat passes)
      | inr none ↦ omega (arith, none, some_end d)
    ]

    by : (kind : Kind) → kind_of b ≡ kind → IsWithin d kind (supply (moves_of ms) b)
    by Nat nat = λ k. subst (λ n. n < nat_end d) (sym (counted k)) (few nat k)
    by Set other = tt
    by Bag other = tt

-- ---- an empty hand, and balance

abbrev pub is_hand_empty : List Move → Bool
is_hand_empty ms = all_held (λ h b k n. not (is_hand h) || n == 0) ms

pub hand_is_empty : (ms : List Move) → is_hand_empty ms ≡ true → (b : ℕ) → holds (table_of ms) Hand b ≡ nothing
hand_is_empty ms test b = same_content _ _ (λ k. held_is ms Hand b k ∙ none k ∙ sym (count-nothing k))
  where
    none : (k : List ℕ) → held ms Hand b k ≡ 0
    none k = elim (everywhere (λ h e q n. not (is_hand h) || n == 0) ms test Hand b k) [ inl passes ↦ eqb-true _ _ passes | inr gone ↦ gone ]

pub adds_up : (s : SoFar) (ms : List Move) → s.table ≡ table_of ms → s.moves ≡ moves_of ms → can_move_all ms ≡ true → is_hand_empty ms ≡ true → AddsUp s
adds_up s ms table same_moves can hand = record {
  stores = λ b k. ap (λ t. total_of is_store t b k) (table ∙ table_is ms) ∙ adds_up_after (moves_of ms) (all_moves ms can) empty b k ∙ ap (λ (xs : List Movement). count (supply xs b) k) (sym same_moves);
  hand_empty = λ b. ap (λ t. holds t Hand b) table ∙ hand_is_empty ms hand b;
}
  where
    empty : (b : ℕ) → holds (table_after no_holdings (moves_of ms)) Hand b ≡ nothing
    empty b = ap (λ t. holds t Hand b) (sym (table_is ms)) ∙ hand_is_empty ms hand b
