-- The entries in the order in which they are due: where a new one goes, and which is first.
use Rattle.std.proofs.Common.{◌≡◌, ℕ, ◌+◌, ◌<◌, ◌≤◌, zero, suc, List, [], ◌∷◌, ◌++◌, length, refl, sym, ap, ◌∙◌, arith, Bool, true, false, not, cond, get_or, rules}
use Rattle.std.specs.Prelude.{None, Some, nat_lt, slice_index_or}
use Rattle.std.specs.declared.cmp.Ordering.{Ordering}
use Rattle.std.specs.declared.cmp.Ordering.TheVariants.{Less, Equal, Greater}
use Rattle.std.specs.Ordering.{MatchOrdering, is_gt, is_le, match_ordering, nat_cmp, ordering_then}
use Rattle.std.specs.Cmp.{IsTotalOrder, nat_cmp_is, nat_cmp_total, on_total, ranked, then_total}
use Rattle.std.specs.List.{AllByRecursion}
use Rattle.std.specs.List.Sorted.{IsNonDecreasing, IsStrictlySortedBy}
use Rattle.std.specs.Map.{keys_of, remove_entry}
use Rattle.std.specs.FinMap.{nat_cmp-IsAntisymmetric}
use Rattle.std.specs.BTreeMap.{insert_entry, is_at}
use Rattle.std.proofs.lemmas.Bool.{ltb-true}
use Rattle.std.proofs.lemmas.Cmp.{eq_by_cmp_equiv, upto}
use Rattle.std.proofs.lemmas.Map.Keys.{Less-from_sorted, sorted_head, sorted_tail}
use Rattle.turn_stores.specs.declared.timer.DueKey.{DueKey}
use Rattle.turn_stores.specs.Schedules.{due_after, due_by, times_of}
use Rattle.turn_stores.specs.WaitingPlaces.{AreFrom, AreNumbered, due_cmp, due_key, waiting_of}

pub each_so : {X : Type 0} (P Q : X → Type 0) → ((x : X) → P x → Q x) → (xs : List X) → AllByRecursion P xs → AllByRecursion Q xs
each_so P Q so [] h = tt
each_so P Q so (x ∷ xs) h = (so x h.0, each_so P Q so xs h.1)

-- ---- the order

pub due_total : IsTotalOrder due_cmp
due_total = then_total (on_total (λ (k : DueKey). k.time) nat_cmp_total) (on_total (λ (k : DueKey). k.number) nat_cmp_total)

later_by : (c o : Ordering) (x y : ℕ) → MatchOrdering c (x < y) (x ≡ y) (y < x) → ordering_then c o ≡ Less → x ≤ y
later_by Less o x y h is = omega arith
later_by Equal o x y h is = omega arith
later_by Greater o x y h is = cc

pub later_time : (a b : DueKey) → due_cmp a b ≡ Less → a.time ≤ b.time
later_time a b h = later_by (nat_cmp a.time b.time) (nat_cmp a.number b.number) a.time b.time (ranked a.time b.time (nat_cmp a.time b.time) refl) h

not_before : (t x : ℕ) → nat_lt t x ≡ false → x ≤ t
not_before t x h = search (rules, arith)

behind_by : (c o : Ordering) (t x : ℕ) → MatchOrdering c (t < x) (t ≡ x) (x < t) → x ≤ t → o ≡ Greater → ordering_then c o ≡ Greater
behind_by Less o t x h le is = absurd (omega arith)
behind_by Equal o t x h le is = is
behind_by Greater o t x h le is = refl

-- a key with a number above all others goes behind those of its time
placed : (k x : DueKey) (b : Bool) → nat_lt k.time x.time ≡ b → x.number < k.number → due_cmp k x ≡ cond b Less Greater
placed k x true is above = rw is refl
placed k x false is above = behind_by (nat_cmp k.time x.time) (nat_cmp k.number x.number) k.time x.time (ranked k.time x.time (nat_cmp k.time x.time) refl) (not_before k.time x.time is) (sym (nat_cmp_is k.number x.number Greater above))

is_not_after : (c : Ordering) → is_le c ≡ true → is_gt c ≡ false
is_not_after Less h = refl
is_not_after Equal h = refl
is_not_after Greater h = sym h

is_upto : (c : Ordering) → is_gt c ≡ false → is_le c ≡ true
is_upto Less h = refl
is_upto Equal h = refl
is_upto Greater h = sym h

le_chain : (a b c : DueKey) → is_le (due_cmp a b) ≡ true → is_le (due_cmp b c) ≡ true → is_le (due_cmp a c) ≡ true
le_chain a b c h k = is_upto (due_cmp a c) (upto due_total a b c (is_not_after (due_cmp a b) h) (is_not_after (due_cmp b c) k))

zero_by : (c o : Ordering) (x : ℕ) → MatchOrdering c (0 < x) (0 ≡ x) (x < 0) → is_le o ≡ true → is_le (ordering_then c o) ≡ true
zero_by Less o x h le = refl
zero_by Equal o x h le = le
zero_by Greater o x h le = absurd (omega arith)

zero_first : (c : Ordering) (x : ℕ) → MatchOrdering c (0 < x) (0 ≡ x) (x < 0) → is_le c ≡ true
zero_first Less x h = refl
zero_first Equal x h = refl
zero_first Greater x h = absurd (omega arith)

first_below : (k : DueKey) → is_le (due_cmp (record { time = 0; number = 0 }) k) ≡ true
first_below k = zero_by (nat_cmp 0 k.time) (nat_cmp 0 k.number) k.time (ranked 0 k.time (nat_cmp 0 k.time) refl) (zero_first (nat_cmp 0 k.number) k.number (ranked 0 k.number (nat_cmp 0 k.number) refl))

both_equal : (c o : Ordering) → ordering_then c o ≡ Equal → (c ≡ Equal) × (o ≡ Equal)
both_equal Less o h = (h, cc)
both_equal Equal o h = (refl, h)
both_equal Greater o h = (h, cc)

pub due_exact : (x y : DueKey) → due_cmp x y ≡ Equal → x ≡ y
due_exact x y h =
    let both = both_equal (nat_cmp x.time y.time) (nat_cmp x.number y.number) h in
    let time = nat_cmp-IsAntisymmetric x.time y.time both.0 in
    let number = nat_cmp-IsAntisymmetric x.number y.number both.1 in
    λ i. record { time = time i; number = number i }

later_still : (t : ℕ) (x k : DueKey) → nat_lt t x.time ≡ true → due_cmp x k ≡ Less → nat_lt t k.time ≡ true
later_still t x k before less = let le : x.time ≤ k.time = later_time x k less in let lt : t < x.time = ltb-true t x.time before in search (rules, arith)

-- ---- where an entry goes

module _ {E : Type 0} where
  none_due : (t : ℕ) (es : List (DueKey × E)) → AllByRecursion (λ k. nat_lt t k.time ≡ true) (keys_of es) → due_by t (waiting_of es) ≡ []
  none_due t [] h = refl
  none_due t (x ∷ xs) h = rw h.0 (none_due t xs h.1)

  all_later : (t : ℕ) (es : List (DueKey × E)) → AllByRecursion (λ k. nat_lt t k.time ≡ true) (keys_of es) → due_after t (waiting_of es) ≡ waiting_of es
  all_later t [] h = refl
  all_later t (x ∷ xs) h = rw h.0 (ap (λ ws. (x.0.time, x.1) ∷ ws) (all_later t xs h.1))

  woken_step : (k : DueKey) (e : E) (x : DueKey × E) (xs ins : List (DueKey × E)) (b : Bool) (c : Ordering) → c ≡ cond b Less Greater → (b ≡ true → due_by k.time (waiting_of xs) ≡ []) → (b ≡ true → due_after k.time (waiting_of xs) ≡ waiting_of xs) → waiting_of ins ≡ due_by k.time (waiting_of xs) ++ (k.time, e) ∷ due_after k.time (waiting_of xs) → waiting_of (match_ordering c ((k, e) ∷ x ∷ xs) ((x.0, e) ∷ xs) (x ∷ ins)) ≡ cond (not b) ((x.0.time, x.1) ∷ due_by k.time (waiting_of xs)) (due_by k.time (waiting_of xs)) ++ (k.time, e) ∷ cond b ((x.0.time, x.1) ∷ due_after k.time (waiting_of xs)) (due_after k.time (waiting_of xs))
  woken_step k e x xs ins true c is none all rest = rw (is, none refl, all refl) refl
  woken_step k e x xs ins false c is none all rest = rw is (ap (λ ws. (x.0.time, x.1) ∷ ws) rest)

  pub woken : (k : DueKey) (e : E) (es : List (DueKey × E)) → IsStrictlySortedBy due_cmp (keys_of es) → AreNumbered k.number es → waiting_of (insert_entry due_cmp es k e) ≡ due_by k.time (waiting_of es) ++ (k.time, e) ∷ due_after k.time (waiting_of es)
  woken k e [] s numbered = refl
  woken k e (x ∷ xs) s numbered =
      let later : nat_lt k.time x.0.time ≡ true → AllByRecursion (λ y. nat_lt k.time y.time ≡ true) (keys_of xs) = λ before. each_so (λ y. due_cmp x.0 y ≡ Less) (λ y. nat_lt k.time y.time ≡ true) (λ y less. later_still k.time x.0 y before less) (keys_of xs) (sorted_head due_cmp x.0 (keys_of xs) s) in
      woken_step k e x xs (insert_entry due_cmp xs k e) (nat_lt k.time x.0.time) (due_cmp k x.0) (placed k x.0 (nat_lt k.time x.0.time) refl numbered.0)
      (λ before. none_due k.time xs (later before)) (λ before. all_later k.time xs (later before))
      (woken k e xs (sorted_tail due_cmp x.0 (keys_of xs) s) numbered.1)

  inserted_step : (P : DueKey → Type 0) (k : DueKey) (e : E) (x : DueKey × E) (xs ins : List (DueKey × E)) (c : Ordering) → P k → P x.0 → AllByRecursion P (keys_of xs) → AllByRecursion P (keys_of ins) → AllByRecursion P (keys_of (match_ordering c ((k, e) ∷ x ∷ xs) ((x.0, e) ∷ xs) (x ∷ ins)))
  inserted_step P k e x xs ins Less here at rest more = (here, (at, rest))
  inserted_step P k e x xs ins Equal here at rest more = (at, rest)
  inserted_step P k e x xs ins Greater here at rest more = (at, more)

  pub each_inserted : (P : DueKey → Type 0) (k : DueKey) (e : E) (es : List (DueKey × E)) → P k → AllByRecursion P (keys_of es) → AllByRecursion P (keys_of (insert_entry due_cmp es k e))
  each_inserted P k e [] here h = (here, tt)
  each_inserted P k e (x ∷ xs) here h = inserted_step P k e x xs (insert_entry due_cmp xs k e) (due_cmp k x.0) here h.0 h.1 (each_inserted P k e xs here h.1)

  -- ---- the least number that an entry can have, and where entries begin

  pub numbered_more : (made : ℕ) (es : List (DueKey × E)) → AreNumbered made es → AreNumbered (made + 1) es
  numbered_more made es = each_so (λ k. k.number < made) (λ k. k.number < made + 1) (λ k h. omega arith) (keys_of es)

  pub from_lower : (low from : DueKey) (es : List (DueKey × E)) → is_le (due_cmp low from) ≡ true → AreFrom from es → AreFrom low es
  from_lower low from es below = each_so (λ k. is_le (due_cmp from k) ≡ true) (λ k. is_le (due_cmp low k) ≡ true) (λ k h. le_chain low from k below h) (keys_of es)

  pub from_first : (es : List (DueKey × E)) → AreFrom (record { time = 0; number = 0 }) es
  from_first [] = tt
  from_first (x ∷ xs) = (first_below x.0, from_first xs)

  taken_step : (t made : ℕ) (key : DueKey) (x : DueKey × E) (xs : List (DueKey × E)) (b : Bool) → Some key ≡ cond b None (Some x.0) → AllByRecursion (λ y. due_cmp x.0 y ≡ Less) (keys_of xs) → AreNumbered made xs → AreNumbered made (remove_entry (is_at (due_cmp key)) (x ∷ xs)) × AreFrom key (remove_entry (is_at (due_cmp key)) (x ∷ xs))
  taken_step t made key x xs true is above numbered = cc
  taken_step t made key x xs false is above numbered =
      let same : key ≡ x.0 = cc in
      let here : is_at (due_cmp key) x.0 ≡ true = ap (λ k. is_at (due_cmp k) x.0) same ∙ (eq_by_cmp_equiv due_total).refl x.0 in
      rw here (numbered, each_so (λ y. due_cmp x.0 y ≡ Less) (λ y. is_le (due_cmp key y) ≡ true) (λ y less. ap (λ k. is_le (due_cmp k y)) same ∙ ap is_le less) (keys_of xs) above)

  -- what is left once the first entry is taken out
  pub taken : (t made : ℕ) (key : DueKey) (es : List (DueKey × E)) → Some key ≡ due_key t es → IsStrictlySortedBy due_cmp (keys_of es) → AreNumbered made es → AreNumbered made (remove_entry (is_at (due_cmp key)) es) × AreFrom key (remove_entry (is_at (due_cmp key)) es)
  taken t made key [] is s numbered = cc
  taken t made key (x ∷ xs) is s numbered = taken_step t made key x xs (nat_lt t x.0.time) is (sorted_head due_cmp x.0 (keys_of xs) s) numbered.1

  -- ---- the times don't fall

  time_at : (es : List (DueKey × E)) (i d : ℕ) (k : DueKey) → i < length es → slice_index_or (times_of (waiting_of es)) i d ≡ (get_or (keys_of es) i k).time
  time_at [] i d k lt = absurd (omega arith)
  time_at (x ∷ xs) zero d k lt = refl
  time_at (x ∷ xs) (suc i) d k lt = time_at xs i d k (omega arith)

  times_long : (es : List (DueKey × E)) → length (times_of (waiting_of es)) ≡ length es
  times_long [] = refl
  times_long (x ∷ xs) = ap suc (times_long xs)

  keys_long : (es : List (DueKey × E)) → length (keys_of es) ≡ length es
  keys_long [] = refl
  keys_long (x ∷ xs) = ap suc (keys_long xs)

  rise_at : (es : List (DueKey × E)) (i j d : ℕ) (c : Ordering) → MatchOrdering c (i < j) (i ≡ j) (j < i) → IsStrictlySortedBy due_cmp (keys_of es) → i ≤ j → j < length es → slice_index_or (times_of (waiting_of es)) i d ≤ slice_index_or (times_of (waiting_of es)) j d
  rise_at es i j d Less is s le lt =
      let k : DueKey = record { time = 0; number = 0 } in
      let within : i < length es = omega arith in
      let end : j < length (keys_of es) = omega (arith, keys_long es) in
      let less : due_cmp (get_or (keys_of es) i k) (get_or (keys_of es) j k) ≡ Less = Less-from_sorted due_cmp (keys_of es) i j k s is end in
      let rise : (get_or (keys_of es) i k).time ≤ (get_or (keys_of es) j k).time = later_time (get_or (keys_of es) i k) (get_or (keys_of es) j k) less in
      rw (time_at es i d k within, time_at es j d k lt) rise
  rise_at es i j d Equal is s le lt = rw is (omega arith)
  rise_at es i j d Greater is s le lt = absurd (omega arith)

  pub rising : (es : List (DueKey × E)) → IsStrictlySortedBy due_cmp (keys_of es) → IsNonDecreasing (times_of (waiting_of es))
  rising es s = λ i j d le lt. rise_at es i j d (nat_cmp i j) (ranked i j (nat_cmp i j) refl) s le (omega (arith, times_long es))
