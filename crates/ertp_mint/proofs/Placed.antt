-- What the places of a brand's keys have, before and after a change.
use Rattle.std.proofs.Common.{inl, inr, ◌⊎◌, ◌≡◌, ◌≢◌, ℕ, zero, suc, ◌+◌, ◌<◌, ◌≤◌, true, false, cond, Some, List, [], ◌∷◌, get_or, length, take, refl, sym, ap, subst, ◌∙◌, arith}
use Rattle.std.proofs.lemmas.Map.Text.{btree_map_updates_text, is_eq-slice_cmp}
use Rattle.std.specs.Prelude.{Err, Ok, OnErr, Option, Result, String, string_bytes}
use Rattle.std.specs.Option.{unwrap_or}
use Rattle.std.specs.BTreeMap as tree
use Rattle.std.specs.BTreeMap.{BTreeMap, get_by_text}
use Rattle.std.specs.Global.{Global}
use Rattle.std.specs.String.{string_cmp}
use Rattle.std.specs.Str.{bytes_eq}
use Rattle.std.specs.Ordering.{eq_by_cmp, is_eq, nat_cmp, ordering_reverse}
use Rattle.std.specs.declared.cmp.Ordering.{Ordering}
use Rattle.std.specs.declared.cmp.Ordering.TheVariants.{Less, Equal, Greater}
use Rattle.std.specs.Cmp.{tied_itself}
use Rattle.std.specs.FinMap as fin
use Rattle.std.proofs.lemmas.Bool.{cases_order}
use Rattle.std.specs.Cmp.Lexicographic.{slice_cmp}
use Rattle.amount_math.specs.Content.{Content, count, count-sum, count-difference, count-of_entries, count-of_nat, count-of_nat_unit, count_listed, counts, entries, key_cmp, listed, of_entries, of_entries-entries, of_nat, same_content, sum}
use Rattle.amount_math.specs.Entries.{Entries, IsRising, at_key, entry_at, tally}
use Rattle.amount_math.specs.Totals.{weighed}
use Rattle.amount_math.specs.ValueView.{Fits, IsFirstPast, IsCountRefusal, PassesBound, bound, nat_bound}
use Rattle.amount_math.specs.declared.Kind.TheVariants.{Nat, Set}
use Rattle.amount_math.specs.declared.PutFault.{PutFault}
use Rattle.amount_math.specs.declared.PutFault.TheVariants as put_fault
use Rattle.amount_math.specs.declared.Kind.{Kind}
use Rattle.amount_math.specs.declared.TooMuch.{TooMuch}
use Rattle.amount_math.proofs.Listed.{at_own_key, listed-tally, same_key}
use Rattle.amount_math.proofs.Searched.{rises, somewhere, tally_at, turned}
use Rattle.amount_math.proofs.Together.{weighed_more}
use Rattle.ertp_mint.specs.declared.place.Change.{Change}
use Rattle.ertp_mint.specs.declared.place.Change.TheVariants.{Issue, UndoIssue, Retire, UndoRetire, Forget}
use Rattle.ertp_mint.specs.declared.place.Place.{Place}
use Rattle.ertp_mint.specs.Places.{Allows, AllowsAll, AreChanged, OutAndKept, Placed, changed, counts_by, no_place, place_in, place_of, seen, with_change}

-- ---- what is seen of a key is its place

listed_by : (f : Place → ℕ) → f no_place ≡ 0 → (es : Placed) (k : List ℕ) → listed (counts_by f es) k ≡ f (place_in es k)
listed_by f none [] k = sym none
listed_by f none (e ∷ es) k = elim (eq_by_cmp key_cmp k (string_bytes e.0)) as (λ b. eq_by_cmp key_cmp k (string_bytes e.0) ≡ b → listed (counts_by f (e ∷ es)) k ≡ f (place_in (e ∷ es) k)) [
  | true ↦ λ t. rw t refl
  | false ↦ λ t. rw t (listed_by f none es k)
] refl

pub seen_place : (es : Placed) (k : List ℕ) → place_of (seen es) k ≡ place_in es k
seen_place es k =
    let out = count-of_entries (counts_by (λ p. p.out) es) k ∙ listed_by (λ p. p.out) refl es k in
    let kept = count-of_entries (counts_by (λ p. p.kept) es) k ∙ listed_by (λ p. p.kept) refl es k in
    λ i. record { out = out i; kept = kept i }

pub seen_is : (es : Placed) (s : OutAndKept) → ((k : List ℕ) → place_in es k ≡ place_of s k) → seen es ≡ s
seen_is es s is =
    let out = same_content (seen es).out s.out (λ k. ap (λ (p : Place). p.out) (seen_place es k ∙ is k)) in
    let kept = same_content (seen es).kept s.kept (λ k. ap (λ (p : Place). p.kept) (seen_place es k ∙ is k)) in
    λ i. record { out = out i; kept = kept i }

-- ---- a change of all keys is one of each

pub place-with_change : (change : Change) (c : Content) (s : OutAndKept) (k : List ℕ) → place_of (with_change change c s) k ≡ changed change (count c k) (place_of s k)
place-with_change Issue c s k = λ i. record { out = count-sum s.out c k i; kept = count s.kept k }
place-with_change UndoIssue c s k = λ i. record { out = count-difference s.out c k i; kept = count s.kept k }
place-with_change Retire c s k = λ i. record { out = count-difference s.out c k i; kept = count-sum s.kept c k i }
place-with_change UndoRetire c s k = λ i. record { out = count-sum s.out c k i; kept = count-difference s.kept c k i }
place-with_change Forget c s k = λ i. record { out = count s.out k; kept = count-difference s.kept c k i }

pub all_changed : (change : Change) (c : Content) (before after : Placed) → ((k : List ℕ) → place_in after k ≡ changed change (count c k) (place_in before k)) → seen after ≡ with_change change c (seen before)
all_changed change c before after each = seen_is after (with_change change c (seen before)) (λ k. each k ∙ ap (changed change (count c k)) (sym (seen_place before k)) ∙ sym (place-with_change change c (seen before) k))

pub none_changed : (before after : Placed) → ((k : List ℕ) → place_in after k ≡ place_in before k) → seen after ≡ seen before
none_changed before after each = seen_is after (seen before) (λ k. each k ∙ sym (seen_place before k))

-- ---- changes one after another

zero_out : (p : Place) (m n : ℕ) → m ≡ p.out → n ≡ p.kept → record { out = m; kept = n } ≡ p
zero_out p m n e f = λ i. record { out = e i; kept = f i }

pub unchanged : (change : Change) (p : Place) → changed change 0 p ≡ p
unchanged Issue p = zero_out p _ _ (omega arith) refl
unchanged UndoIssue p = zero_out p _ _ (omega arith) refl
unchanged Retire p = zero_out p _ _ (omega arith) (omega arith)
unchanged UndoRetire p = zero_out p _ _ (omega arith) (omega arith)
unchanged Forget p = zero_out p _ _ refl (omega arith)

both : (a b c d : ℕ) → a ≡ b → c ≡ d → ◌≡◌ {A = Place} (record { out = a; kept = c }) (record { out = b; kept = d })
both a b c d e f = λ i. record { out = e i; kept = f i }

pub changed_twice : (change : Change) (m n : ℕ) (p : Place) → changed change n (changed change m p) ≡ changed change (m + n) p
changed_twice Issue m n p = both _ _ _ _ (omega arith) refl
changed_twice UndoIssue m n p = both _ _ _ _ (omega arith) refl
changed_twice Retire m n p = both _ _ _ _ (omega arith) (omega arith)
changed_twice UndoRetire m n p = both _ _ _ _ (omega arith) (omega arith)
changed_twice Forget m n p = both _ _ _ _ refl (omega arith)

pub issue_undone : (n : ℕ) (p : Place) → changed UndoIssue n (changed Issue n p) ≡ p
issue_undone n p = zero_out p _ _ (omega arith) refl

-- what is allowed of more is allowed of the rest
pub allows_rest : (change : Change) (m n t : ℕ) (p : Place) → m + n ≤ t → Allows change t p → Allows change n (changed change m p)
allows_rest Issue m n t p le h = omega (arith, le, h)
allows_rest UndoIssue m n t p le h = omega (arith, le, h)
allows_rest Retire m n t p le h = (omega (arith, le, h.0), omega (arith, le, h.1))
allows_rest UndoRetire m n t p le h = (omega (arith, le, h.0), omega (arith, le, h.1))
allows_rest Forget m n t p le h = omega (arith, le, h)

-- where nothing is at a key, no change but an issue makes anything there
pub nothing_there : (change : Change) (n : ℕ) → change ≢ Issue → Allows change n no_place → n ≡ 0
nothing_there Issue n other h = absurd (other refl)
nothing_there UndoIssue n other h = omega (arith, h)
nothing_there Retire n other h = omega (arith, h.0)
nothing_there UndoRetire n other h = omega (arith, h.0)
nothing_there Forget n other h = omega (arith, h)

-- ---- one key's place is written or goes

abbrev pub at_text : Option Place → Place
at_text o = unwrap_or o no_place

reversed : (o p : Ordering) → p ≡ ordering_reverse o → is_eq p ≡ is_eq o
reversed Less p e = ap is_eq e
reversed Equal p e = ap is_eq e
reversed Greater p e = ap is_eq e

same_text : (bs q : List ℕ) → bytes_eq bs q ≡ eq_by_cmp key_cmp q bs
same_text bs q = sym (is_eq-slice_cmp bs q) ∙ reversed (key_cmp q bs) (key_cmp bs q) (counts.total.antisymm bs q)

module _ (bs : List ℕ) (m n : BTreeMap (String Global) Place) (w : Option Place) (updates : tree.UpdatesBy string_cmp (λ k. slice_cmp nat_cmp bs (string_bytes k)) m n w) where
  looks : (q : List ℕ) → place_in n.entries q ≡ at_text (cond (eq_by_cmp key_cmp q bs) w (get_by_text m q))
  looks q = ap at_text (btree_map_updates_text bs m n w updates q ∙ ap (λ b. cond b w (get_by_text m q)) (same_text bs q))

  -- what is written at a key is a change of it
  pub change_written : (change : Change) (number : ℕ) (p : Place) → get_by_text m bs ≡ Some p → at_text w ≡ changed change number p → (q : List ℕ) → place_in n.entries q ≡ changed change (at_key q bs number) (place_in m.entries q)
  change_written change number p there is q = looks q ∙ elim (eq_by_cmp key_cmp q bs) as (λ b. eq_by_cmp key_cmp q bs ≡ b → at_text (cond b w (get_by_text m q)) ≡ changed change (cond b number 0) (at_text (get_by_text m q))) [
    | true ↦ λ t. is ∙ ap (changed change number) (sym (ap at_text (ap (get_by_text m) (same_key q bs t) ∙ there)))
    | false ↦ λ t. sym (unchanged change (at_text (get_by_text m q)))
  ] refl

  -- a place that has nothing comes and goes unseen
  pub nothing_written : at_text w ≡ no_place → at_text (get_by_text m bs) ≡ no_place → (q : List ℕ) → place_in n.entries q ≡ place_in m.entries q
  nothing_written new old q = looks q ∙ elim (eq_by_cmp key_cmp q bs) as (λ b. eq_by_cmp key_cmp q bs ≡ b → at_text (cond b w (get_by_text m q)) ≡ at_text (get_by_text m q)) [
    | true ↦ λ t. new ∙ sym (ap at_text (ap (get_by_text m) (same_key q bs t)) ∙ old)
    | false ↦ λ t. refl
  ] refl

-- ---- entry by entry

weighed-take : (w : List ℕ → ℕ → ℕ) (i : ℕ) (es : Entries) → weighed w (take i es) ≤ weighed w es
weighed-take w zero es = omega arith
weighed-take w (suc i) [] = omega arith
weighed-take w (suc i) (e ∷ es) = omega (arith, weighed-take w i es)

pub take_whole : (i : ℕ) (es : Entries) → length es ≤ i → take i es ≡ es
take_whole zero [] le = refl
take_whole zero (e ∷ es) le = absurd (omega (arith, le))
take_whole (suc i) [] le = refl
take_whole (suc i) (e ∷ es) le = ap (λ xs. e ∷ xs) (take_whole i es (omega (arith, le)))

pub none_yet : (change : Change) (start : Placed) → AreChanged change [] start start
none_yet change start = λ k. sym (unchanged change (place_in start k))

module _ (change : Change) (es : Entries) (i : ℕ) (e : List ℕ × ℕ) (key : List ℕ) (n : ℕ) (start now : Placed) (lt : i < length es) (is : e ≡ get_or es i e) (is_key : key ≡ e.0) (is_count : n ≡ e.1) (so_far : AreChanged change (take i es) start now) where
  here : (k : List ℕ) → at_key k key n ≡ at_key k (get_or es i e).0 (get_or es i e).1
  here k = ap (λ (q : List ℕ). at_key k q n) is_key ∙ ap (at_key k e.0) is_count ∙ ap (λ (f : List ℕ × ℕ). at_key k f.0 f.1) is

  more : (k : List ℕ) → tally (take (i + 1) es) k ≡ tally (take i es) k + at_key k key n
  more k = weighed_more (at_key k) es i e lt ∙ ap (λ m. tally (take i es) k + m) (sym (here k))

  pub one_more : (after : Placed) → ((k : List ℕ) → place_in after k ≡ changed change (at_key k key n) (place_in now k)) → AreChanged change (take (i + 1) es) start after
  one_more after then = λ k.
      then k
      ∙ ap (changed change (at_key k key n)) (so_far k)
      ∙ changed_twice change (tally (take i es) k) (at_key k key n) (place_in start k)
      ∙ ap (λ m. changed change m (place_in start k)) (sym (more k))

  pub allows_one_more : ((k : List ℕ) → Allows change (tally es k) (place_in start k)) → Allows change n (place_in now key)
  allows_one_more all =
      let within : tally (take i es) key + n ≤ tally es key = omega (arith, more key, at_own_key key n, weighed-take (at_key key) (i + 1) es) in
      subst (Allows change n) (sym (so_far key)) (allows_rest change (tally (take i es) key) n (tally es key) (place_in start key) within (all key))

-- an issue that went so far is undone
pub undoes : (es : Entries) (start now after : Placed) → AreChanged Issue es start now → AreChanged UndoIssue es now after → (k : List ℕ) → place_in after k ≡ place_in start k
undoes es start now after then back k = back k ∙ ap (changed UndoIssue (tally es k)) (then k) ∙ issue_undone (tally es k) (place_in start k)

pub may_undo : (es : Entries) (start now : Placed) → AreChanged Issue es start now → (k : List ℕ) → Allows UndoIssue (tally es k) (place_in now k)
may_undo es start now then k = subst (Allows UndoIssue (tally es k)) (sym (then k)) (omega arith)

-- ---- a value's entries

pub tally-entries : (c : Content) (k : List ℕ) → tally (entries c) k ≡ count c k
tally-entries c k = sym (count_listed c k ∙ listed-tally (entries c) k (fin.entries_sorted c.held))

allows_each : (change : Change) (c : Content) (s : OutAndKept) (before : Placed) → seen before ≡ s → AllowsAll change c s → (k : List ℕ) → Allows change (count c k) (place_in before k)
allows_each change c s before view all k = subst (Allows change (count c k)) (seen_place before k) (subst (AllowsAll change c) (sym view) all k)

pub value_allows : (change : Change) (c : Content) (es : Entries) (s : OutAndKept) (before : Placed) → es ≡ entries c → seen before ≡ s → AllowsAll change c s → (k : List ℕ) → Allows change (tally es k) (place_in before k)
value_allows change c es s before is view all k = subst (λ n. Allows change n (place_in before k)) (sym (ap (λ fs. tally fs k) is ∙ tally-entries c k)) (allows_each change c s before view all k)

pub value_changed : (change : Change) (c : Content) (es : Entries) (s : OutAndKept) (before after : Placed) → es ≡ entries c → seen before ≡ s → AreChanged change es before after → seen after ≡ with_change change c s
value_changed change c es s before after is view each =
    all_changed change c before after (λ k. each k ∙ ap (λ n. changed change n (place_in before k)) (ap (λ fs. tally fs k) is ∙ tally-entries c k))
    ∙ ap (with_change change c) view

pub value_same : (s : OutAndKept) (before after : Placed) → seen before ≡ s → ((k : List ℕ) → place_in after k ≡ place_in before k) → seen after ≡ s
value_same s before after view each = none_changed before after each ∙ view

-- units are those of the empty key
pub units_allow : (change : Change) (c : Content) (n : ℕ) (s : OutAndKept) (before : Placed) → c ≡ of_nat n → seen before ≡ s → AllowsAll change c s → Allows change n (place_in before [])
units_allow change c n s before is view all = subst (λ m. Allows change m (place_in before [])) (ap (λ d. count d []) is ∙ count-of_nat_unit n) (allows_each change c s before view all [])

pub units_changed : (change : Change) (c : Content) (n : ℕ) (s : OutAndKept) (before after : Placed) → c ≡ of_nat n → seen before ≡ s → ((k : List ℕ) → place_in after k ≡ changed change (at_key k [] n) (place_in before k)) → seen after ≡ with_change change c s
units_changed change c n s before after is view each =
    all_changed change c before after (λ k. each k ∙ ap (λ m. changed change m (place_in before k)) (sym (ap (λ d. count d k) is ∙ count-of_nat n k)))
    ∙ ap (with_change change c) view

-- ---- answers

pub on_err : {A E : Type 0} (r : Result A E) (P Q : Type 0) → (P → Q) → OnErr r P → OnErr r Q
on_err (Ok x) P Q f h = tt
on_err (Err e) P Q f h = f h

-- ---- too many of a key

module _ (out : Content) (ms : Entries) (rising : IsRising ms) where
  count_of_sum : (q : List ℕ) → count (sum out (of_entries ms)) q ≡ count out q + tally ms q
  count_of_sum q = count-sum out (of_entries ms) q ∙ ap (λ n. count out q + n) (count-of_entries ms q ∙ listed-tally ms q rising)

  module _ (most : ℕ) (within : (k : List ℕ) → count out k ≤ most) where
    none_past_before : (i : ℕ) → ((j : ℕ) → j < i → count out (entry_at ms j).0 + (entry_at ms j).1 ≤ most) → (q : List ℕ) → ((j : ℕ) → (entry_at ms j).0 ≡ q → j < length ms → j < i) → count (sum out (of_entries ms)) q ≤ most
    none_past_before i each q before = elim (somewhere ms q) [
      | inl none ↦ omega (arith, none, count_of_sum q, within q)
      | inr at ↦
          let small = subst (λ k. count out k + tally ms k ≤ most) at.2 (omega (arith, tally_at ms at.0 rising at.1, each at.0 (before at.0 at.2 at.1))) in
          omega (arith, small, count_of_sum q)
    ]

    pub none_past : ((j : ℕ) → j < length ms → count out (entry_at ms j).0 + (entry_at ms j).1 ≤ most) → (k : List ℕ) → count (sum out (of_entries ms)) k ≤ most
    none_past each k = none_past_before (length ms) each k (λ j is lt. lt)

    pub first_is_past : (i : ℕ) → i < length ms → ((j : ℕ) → j < i → count out (entry_at ms j).0 + (entry_at ms j).1 ≤ most) → most < count out (entry_at ms i).0 + (entry_at ms i).1 → IsFirstPast most (sum out (of_entries ms)) (entry_at ms i).0
    first_is_past i lt each past = record {
      passes = omega (arith, past, count_of_sum (entry_at ms i).0, tally_at ms i rising lt);
      first = λ q over below. absurd (omega (arith, over, none_past_before i each q (λ j is within_ms. earlier q below j is within_ms)));
    }
      where
        not_less : (a b : List ℕ) → key_cmp a b ≡ Less → key_cmp a b ≢ Greater
        not_less a b e f = cc

        earlier : (q : List ℕ) → key_cmp q (entry_at ms i).0 ≡ Less → (j : ℕ) → (entry_at ms j).0 ≡ q → j < length ms → j < i
        earlier q below j is there = elim (cases_order j i) [
          | inl same ↦ absurd (self_less (entry_at ms i).0 (subst (λ n. key_cmp (entry_at ms n).0 (entry_at ms i).0 ≡ Less) same (subst (λ k. key_cmp k (entry_at ms i).0 ≡ Less) (sym is) below)))
          | inr (inl before) ↦ before
          | inr (inr after) ↦ absurd (not_less q (entry_at ms i).0 below (turned (entry_at ms i).0 q Less (subst (λ k. key_cmp (entry_at ms i).0 k ≡ Less) is (rises ms i j rising after there))))
        ]
          where
            self_less : (k : List ℕ) → key_cmp k k ≢ Less
            self_less k e = apart (sym (tied_itself counts.total k) ∙ e)
              where
                apart : Equal ≢ Less
                apart e = cc

    -- the sum that is shown with it
    pub passes_bound : (kind : Kind) (i : ℕ) (over : TooMuch) → bound kind ≡ most → i < length ms → IsFirstPast most (sum out (of_entries ms)) (entry_at ms i).0 → over.sum ≡ count out (entry_at ms i).0 + (entry_at ms i).1 → over.bound ≡ bound kind → PassesBound kind (sum out (of_entries ms)) over
    passes_bound kind i over is lt past counted bounded = record {
      element = (entry_at ms i).0;
      counted = omega (arith, counted, count_of_sum (entry_at ms i).0, tally_at ms i rising lt);
      bounded = bounded;
      passes = omega (arith, is, past.passes);
      first = λ k h. past.first k (omega (arith, is, h));
    }

-- no element is before the unit
unit_is_first : (k : List ℕ) → key_cmp k [] ≢ Less
unit_is_first [] = λ e. cc
unit_is_first (x ∷ k) = λ e. cc

pub held_at : (es : Placed) (k : List ℕ) → count (seen es).out k ≡ (place_in es k).out
held_at es k = ap (λ (p : Place). p.out) (seen_place es k)

module _ (es : Placed) (n : ℕ) where
  count_with_units : (k : List ℕ) → count (sum (seen es).out (of_nat n)) k ≡ count (seen es).out k + at_key k [] n
  count_with_units k = count-sum (seen es).out (of_nat n) k ∙ ap (λ m. count (seen es).out k + m) (count-of_nat n k)

  pub units_fit : Fits Nat (seen es).out → (place_in es []).out + n ≤ nat_bound → Fits Nat (sum (seen es).out (of_nat n))
  units_fit fits le = record { each = λ k. omega (arith, count_with_units k, each k) }
    where
      each : (k : List ℕ) → count (seen es).out k + at_key k [] n ≤ nat_bound
      each k = elim (eq_by_cmp key_cmp k []) as (λ b. eq_by_cmp key_cmp k [] ≡ b → count (seen es).out k + cond b n 0 ≤ nat_bound) [
        | true ↦ λ t. subst (λ q. count (seen es).out q + n ≤ nat_bound) (sym (same_key k [] t)) (omega (arith, held_at es [], le))
        | false ↦ λ t. omega (arith, fits.each k)
      ] refl

  pub units_past : (over : TooMuch) → over.sum ≡ (place_in es []).out + n → over.bound ≡ nat_bound → nat_bound < (place_in es []).out + n → PassesBound Nat (sum (seen es).out (of_nat n)) over
  units_past over is limit past = record {
    element = [];
    counted = omega (arith, is, held_at es [], count_with_units []);
    bounded = limit;
    passes = omega (arith, past, held_at es [], count_with_units []);
    first = λ k _. unit_is_first k;
  }

  pub units_do_not_fit : nat_bound < (place_in es []).out + n → ¬ Fits Nat (sum (seen es).out (of_nat n))
  units_do_not_fit past fits = omega (arith, past, held_at es [], count_with_units [], fits.each [])

module _ (kind : Kind) (es : Placed) (ms : Entries) (rising : IsRising ms) (most : ℕ) (is : most ≡ bound kind) (fits : Fits kind (seen es).out) where
  within : (k : List ℕ) → count (seen es).out k ≤ bound kind
  within k = fits.each k

  small : (j : ℕ) → (place_in es (entry_at ms j).0).out + (entry_at ms j).1 ≤ most → count (seen es).out (entry_at ms j).0 + (entry_at ms j).1 ≤ bound kind
  small j le = omega (arith, le, is, held_at es (entry_at ms j).0)

  pub keys_fit : ((j : ℕ) → j < length ms → (place_in es (entry_at ms j).0).out + (entry_at ms j).1 ≤ most) → Fits kind (sum (seen es).out (of_entries ms))
  keys_fit each = record { each = none_past (seen es).out ms rising (bound kind) within (λ j lt. small j (each j lt)) }

  pub key_is_past : (i : ℕ) → i < length ms → ((j : ℕ) → j < i → (place_in es (entry_at ms j).0).out + (entry_at ms j).1 ≤ most) → most < (place_in es (entry_at ms i).0).out + (entry_at ms i).1 → IsFirstPast (bound kind) (sum (seen es).out (of_entries ms)) (entry_at ms i).0
  key_is_past i lt before past = first_is_past (seen es).out ms rising (bound kind) within i lt (λ j less. small j (before j less)) (omega (arith, past, is, held_at es (entry_at ms i).0))

  pub shows_past : (i : ℕ) (over : TooMuch) → i < length ms → IsFirstPast (bound kind) (sum (seen es).out (of_entries ms)) (entry_at ms i).0 → over.sum ≡ (place_in es (entry_at ms i).0).out + (entry_at ms i).1 → over.bound ≡ most → PassesBound kind (sum (seen es).out (of_entries ms)) over
  shows_past i over lt past counted bounded = passes_bound (seen es).out ms rising (bound kind) within kind i over refl lt past (omega (arith, counted, held_at es (entry_at ms i).0)) (bounded ∙ is)

pub past_does_not_fit : (kind : Kind) (c : Content) (k : List ℕ) → IsFirstPast (bound kind) c k → ¬ Fits kind c
past_does_not_fit kind c k past fits = omega (arith, past.passes, fits.each k)

pub set_refused : (kind : Kind) (c : Content) (fault : PutFault) (key k : List ℕ) → kind ≡ Set → IsFirstPast (bound kind) c k → key ≡ k → (fault ≡ put_fault.Overlap key) ⊎ (fault ≡ put_fault.NoMemory) → IsCountRefusal kind c fault
set_refused kind c fault key k e past is h = elim h [
  | inl f ↦ subst (IsCountRefusal kind c) (sym f) (e, subst (λ q. IsFirstPast 1 c q) (sym is) (subst (λ b. IsFirstPast (bound b) c k) e past))
  | inr f ↦ subst (IsCountRefusal kind c) (sym f) tt
]

-- what is said of the places and the entries is said of what they are seen as
pub said_of_value : (P : Kind → Content → Type 0) (kind other : Kind) (s : OutAndKept) (es : Placed) (c : Content) (ms : Entries) → seen es ≡ s → ms ≡ entries c → other ≡ kind → P other (sum (seen es).out (of_entries ms)) → P kind (sum s.out c)
said_of_value P kind other s es c ms view is same h =
    let whole : sum (seen es).out (of_entries ms) ≡ sum s.out c = ap (λ (t : OutAndKept). sum t.out (of_entries ms)) view ∙ ap (sum s.out) (ap of_entries is ∙ of_entries-entries c) in
    subst (λ q. P q (sum s.out c)) same (subst (P other) whole h)

pub value_rises : (c : Content) (ms : Entries) → ms ≡ entries c → IsRising ms
value_rises c ms is = subst IsRising (sym is) (fin.entries_sorted c.held)
