-- Runs before and after one more number.
use Rattle.std.proofs.Common.{◌≡◌, ◌≢◌, ◌⊎◌, ℕ, suc, ◌+◌, ◌<◌, ◌≤◌, ◌^◌, ◌==◌, ◌||◌, Bool, true, false, cond, [], ◌∷◌, Option, Some, None, inl, inr, refl, sym, ap, subst, ◌∙◌, arith, leb}
use Rattle.std.specs.BTreeMap.{BTreeMap, Updates, UpdatesBy, is_at}
use Rattle.std.specs.Cmp.{eq_by_cmp_equiv, nat_cmp_total, ranked}
use Rattle.std.specs.List.{Contains}
use Rattle.std.specs.List.Sorted.{IsStrictlySortedBy}
use Rattle.std.specs.Map.{keys_of, lookup}
use Rattle.std.specs.Ordering.{is_eq, is_gt, is_lt, nat_cmp}
use Rattle.std.specs.declared.cmp.Ordering.{Ordering}
use Rattle.std.specs.declared.cmp.Ordering.TheVariants.{Less, Equal, Greater}
use Rattle.std.proofs.lemmas.Bool.{and_from, and_parts, cases_eq, cases_lt, cases_order, eq-eqb, eqb-true, false_from_ne_true, false≢true, le-leb, le-ltb, leb-true, lt-ltb, ne_eqb, or_cases, or_left, or_right, true≢false}
use Rattle.std.proofs.lemmas.Map.Keys.{IsDistinct-from_sorted}
use Rattle.std.proofs.lemmas.Map.Views.{lookup-from_Contains}
use Rattle.told_rights.specs.Runs.{AreApart, IsEnd, IsLastBefore, IsRun, IsStart, Runs, has_number, is_between}

-- ---- orders of numbers

equal_of : (r : Ordering) → is_eq r ≡ true → r ≡ Equal
equal_of Less e = absurd (false≢true e)
equal_of Equal e = refl
equal_of Greater e = absurd (false≢true e)

pub at_same : (a b : ℕ) → is_at (nat_cmp a) b ≡ true → a ≡ b
at_same a b e = ranked a b Equal (sym (equal_of (nat_cmp a b) e))

pub at_other : (a b : ℕ) → a ≢ b → is_at (nat_cmp a) b ≡ false
at_other a b apart = false_from_ne_true _ (λ e. apart (at_same a b e))

less : (a b : ℕ) → a < b → nat_cmp a b ≡ Less
less a b lt = ap (λ t. cond t Less (cond (a == b) Equal Greater)) (lt-ltb a b lt)

greater : (a b : ℕ) → b < a → nat_cmp a b ≡ Greater
greater a b lt =
    let not_less : b ≤ a = omega arith in
    let not_same : a ≡ b → ⊥ = λ e. absurd (omega (arith, e, lt)) in
    ap (λ t. cond t Less (cond (a == b) Equal Greater)) (le-ltb a b not_less) ∙ ap (λ t. cond t Equal Greater) (ne_eqb a b not_same)

pub le_of_gt : (a b : ℕ) → is_gt (nat_cmp a b) ≡ false → a ≤ b
le_of_gt a b h = elim (cases_lt b a) [
  | inl lt ↦ absurd (true≢false (ap is_gt (sym (greater a b lt)) ∙ h))
  | inr le ↦ le
]

pub gt_of_le : (a b : ℕ) → a ≤ b → is_gt (nat_cmp a b) ≡ false
gt_of_le a b le = elim (cases_lt a b) [
  | inl lt ↦ ap is_gt (less a b lt)
  | inr ge ↦ let same : a ≡ b = omega (arith, le, ge) in subst (λ n. is_gt (nat_cmp a n) ≡ false) same (tied a)
]
  where
    tied : (n : ℕ) → is_gt (nat_cmp n n) ≡ false
    tied n = ap (λ t. is_gt (cond t Less (cond (n == n) Equal Greater))) (le-ltb n n (omega arith)) ∙ ap (λ t. is_gt (cond t Equal Greater)) (eq-eqb n n refl)

pub le_of_lt : (a b : ℕ) → is_lt (nat_cmp a b) ≡ false → b ≤ a
le_of_lt a b h = elim (cases_lt a b) [
  | inl lt ↦ absurd (true≢false (ap is_lt (sym (less a b lt)) ∙ h))
  | inr le ↦ le
]

-- ---- numbers and runs

-- one run begins at a number
pub one_run : (runs : Runs) (first l m : ℕ) → IsRun runs first l → IsRun runs first m → l ≡ m
one_run runs first l m p q = same_some (sym p ∙ q)
  where
    same_some : ◌≡◌ {A = Option ℕ} (Some l) (Some m) → l ≡ m
    same_some e = cc

pub number_found : (runs : Runs) (first last q : ℕ) → IsRun runs first last → first ≤ q → q ≤ last → has_number runs q ≡ true
number_found [] first last q is from to = absurd (none is)
  where
    none : ◌≡◌ {A = Option ℕ} None (Some last) → ⊥
    none e = cc
number_found (r ∷ runs) first last q is from to =
    elim (is_at (nat_cmp first) r.0) as (λ b. is_at (nat_cmp first) r.0 ≡ b → cond b (Some r.1) (lookup (is_at (nat_cmp first)) runs) ≡ Some last → has_number (r ∷ runs) q ≡ true) [
      | true ↦ λ e here.
          let begins : first ≡ r.0 = at_same first r.0 e in
          let ends : r.1 ≡ last = same_some here in
          or_left (is_between q r) (has_number runs q) (and_from _ _ (le-leb r.0 q (omega (arith, begins, from))) (le-leb q r.1 (omega (arith, ends, to))))
      | false ↦ λ e there. or_right (is_between q r) (has_number runs q) (number_found runs first last q there from to)
    ] refl is
  where
    same_some : ◌≡◌ {A = Option ℕ} (Some r.1) (Some last) → r.1 ≡ last
    same_some e = cc

listed : (runs : Runs) (q : ℕ) → has_number runs q ≡ true → (r : ℕ × ℕ) × Contains runs r × (is_between q r ≡ true)
listed [] q h = absurd (false≢true h)
listed (r ∷ runs) q h = elim (or_cases (is_between q r) (has_number runs q) h) [
  | inl here ↦ (r, (0, omega arith, refl), here)
  | inr there ↦ let it = listed runs q there in (it.0, (suc it.1.0, omega (arith, it.1.1), it.1.2), it.2)
]

pub run_found : (runs : Runs) → AreApart runs → (q : ℕ) → has_number runs q ≡ true → (first : ℕ) × (last : ℕ) × IsRun runs first last × (first ≤ q) × (q ≤ last)
run_found runs are q h =
    let it = listed runs q h in
    let both = and_parts (leb it.0.0 q) (leb q it.0.1) it.2 in
    (it.0.0, it.0.1, lookup-from_Contains (eq_by_cmp_equiv nat_cmp_total) it.0.0 it.0.1 runs (IsDistinct-from_sorted nat_cmp (keys_of runs) are.sorted) it.1, leb-true _ _ both.0, leb-true _ _ both.1)

-- ---- the run before a number

pub same_test : (a b : Bool) → (a ≡ true → b ≡ true) → (b ≡ true → a ≡ true) → a ≡ b
same_test true true p q = refl
same_test true false p q = absurd (false≢true (p refl))
same_test false true p q = absurd (false≢true (q refl))
same_test false false p q = refl

pub in_last : (runs : Runs) → AreApart runs → (n : ℕ) (run : ℕ × ℕ) → IsLastBefore runs n run → leb n run.1 ≡ has_number runs n
in_last runs are n run is = same_test _ _
    (λ h. number_found runs run.0 run.1 n is.is is.before (leb-true n run.1 h))
    (λ h.
    let it = run_found runs are n h in
    let first : ℕ = it.0 in
    let last : ℕ = it.1 in
    let begins : first ≤ run.0 = is.last first last it.2 it.3 in
    le-leb n run.1 (elim (cases_lt first run.0) [
      | inl lt ↦ let past : last + 1 < run.0 = are.apart first last run.0 run.1 it.2 is.is lt in let before = is.before in let to : n ≤ last = it.4 in absurd (omega (arith, past, before, to))
      | inr ge ↦
          let same : first ≡ run.0 = omega (arith, begins, ge) in
          let ends : last ≡ run.1 = one_run runs run.0 last run.1 (subst (λ f. IsRun runs f last) same it.2) is.is in
          let to : n ≤ last = it.4 in
          omega (arith, ends, to)
    ]))

pub in_none : (runs : Runs) → AreApart runs → (n : ℕ) → ((first last : ℕ) → IsRun runs first last → n < first) → false ≡ has_number runs n
in_none runs are n none = sym (false_from_ne_true _ (λ h. let it = run_found runs are n h in let from : it.0 ≤ n = it.3 in absurd (omega (arith, none it.0 it.1 it.2, from))))

pub starts_alone : (runs : Runs) (n : ℕ) → AreApart runs → ((first last : ℕ) → IsRun runs first last → n < first) → IsStart runs n n
starts_alone runs n are none = record {
  within = omega arith;
  joined = λ lt. absurd (omega (arith, lt));
  alone = λ same first last is ends. absurd (omega (arith, none first last is, are.forward first last is, ends));
}

pub starts_there : (runs : Runs) (n : ℕ) (run : ℕ × ℕ) → AreApart runs → IsLastBefore runs n run → run.1 + 1 ≡ n → IsStart runs n run.0
starts_there runs n run are is ends = record {
  within = is.before;
  joined = λ lt. (run.1, is.is, ends);
  alone = λ same. absurd (omega (arith, same, are.forward run.0 run.1 is.is, ends));
}

pub starts_behind : (runs : Runs) (n : ℕ) (run : ℕ × ℕ) → AreApart runs → IsLastBefore runs n run → run.1 + 1 ≢ n → IsStart runs n n
starts_behind runs n run are is ends = record {
  within = omega arith;
  joined = λ lt. absurd (omega (arith, lt));
  alone = λ same first last found next.
      let before : first ≤ n = omega (arith, are.forward first last found, next) in
      let begins : first ≤ run.0 = is.last first last found before in
      elim (cases_lt first run.0) [
        | inl lt ↦ absurd (omega (arith, are.apart first last run.0 run.1 found is.is lt, is.before, next))
        | inr ge ↦
            let same : first ≡ run.0 = omega (arith, begins, ge) in
            let there : last ≡ run.1 = one_run runs run.0 last run.1 (subst (λ f. IsRun runs f last) same found) is.is in
            ends (omega (arith, there, next))
      ];
}

-- ---- one more number

-- a run goes from start to end in place of those that began at start and just behind the number
pub record AreJoined (old new : Runs) (n start end : ℕ) : Type 0 where
  pub here : IsRun new start end
  pub gone : (last : ℕ) → ¬ IsRun new (n + 1) last
  pub others : (first : ℕ) → first ≢ start → first ≢ n + 1 → lookup (is_at (nat_cmp first)) new ≡ lookup (is_at (nat_cmp first)) old

module _ (old new : Runs) (n start end : ℕ) (are : AreApart old) (out : has_number old n ≡ false) (small : n < 2 ^ 32) (s : IsStart old n start) (t : IsEnd old n end) (j : AreJoined old new n start end) where
  outside : (first last : ℕ) → IsRun old first last → first ≤ n → last < n
  outside first last is from = elim (cases_lt last n) [
    | inl lt ↦ lt
    | inr ge ↦ absurd (true≢false (sym (number_found old first last n is from ge) ∙ out))
  ]

  in_new : (first last : ℕ) → IsRun new first last → ((first ≡ start) × (last ≡ end)) ⊎ ((first ≢ start) × (first ≢ n + 1) × IsRun old first last)
  in_new first last is = elim (cases_eq first start) [
    | inl same ↦ inl (same, one_run new start last end (subst (λ f. IsRun new f last) same is) j.here)
    | inr other ↦ elim (cases_eq first (n + 1)) [
      | inl behind ↦ absurd (j.gone last (subst (λ f. IsRun new f last) behind is))
      | inr not_behind ↦ inr (other, not_behind, sym (j.others first other not_behind) ∙ is)
    ]
  ]

  ends_small : end < 2 ^ 32
  ends_small = elim (cases_lt n end) [
    | inl lt ↦ are.small (n + 1) end (t.joined lt)
    | inr ge ↦ omega (arith, t.within, ge, small)
  ]

  behind : (next last : ℕ) → next ≢ start → next ≢ n + 1 → IsRun old next last → start < next → end + 1 < next
  behind next last other not_behind is lt =
      let past : n < next = elim (cases_lt n next) [
        | inl past ↦ past
        | inr before ↦ elim (cases_lt start n) [
          | inl joined ↦ let it = s.joined joined in let ends : it.0 + 1 ≡ n = it.2 in omega (arith, are.apart start it.0 next last it.1 is lt, ends)
          | inr alone ↦ absurd (omega (arith, alone, before, lt))
        ]
      ] in
      elim (cases_lt n end) [
        | inl joined ↦ are.apart (n + 1) end next last (t.joined joined) is (let apart : n + 1 ≢ next = λ e. not_behind (sym e) in omega (arith, past, apart))
        | inr alone ↦ let same : end ≡ n = omega (arith, alone, t.within) in let apart : n + 1 ≢ next = λ e. not_behind (sym e) in omega (arith, past, apart, same)
      ]

  before : (first last : ℕ) → IsRun old first last → first < start → last + 1 < start
  before first last is lt = elim (cases_lt start n) [
    | inl joined ↦ let it = s.joined joined in are.apart first last start it.0 is it.1 lt
    | inr alone ↦
        let same : start ≡ n = omega (arith, alone, s.within) in
        let short : last < n = outside first last is (omega (arith, lt, s.within)) in
        let not_next : last + 1 ≢ n = s.alone same first last is in
        omega (arith, short, not_next, same)
  ]

  pub forward : (first last : ℕ) → IsRun new first last → first ≤ last
  forward first last is = elim (in_new first last is) [
    | inl both ↦ let begins : first ≡ start = both.0 in let ends : last ≡ end = both.1 in omega (arith, begins, ends, s.within, t.within)
    | inr it ↦ are.forward first last it.2
  ]

  pub stays_small : (first last : ℕ) → IsRun new first last → last < 2 ^ 32
  stays_small first last is = elim (in_new first last is) [
    | inl both ↦ subst (λ l. l < 2 ^ 32) (sym both.1) ends_small
    | inr it ↦ are.small first last it.2
  ]

  pub stays_apart : (first last next last_of_next : ℕ) → IsRun new first last → IsRun new next last_of_next → first < next → last + 1 < next
  stays_apart first last next last_of_next is is_next lt = elim (in_new first last is) [
    | inl both ↦ elim (in_new next last_of_next is_next) [
      | inl both_next ↦ let begins : first ≡ start = both.0 in let next_begins : next ≡ start = both_next.0 in absurd (omega (arith, begins, next_begins, lt))
      | inr it ↦ let begins : first ≡ start = both.0 in let ends : last ≡ end = both.1 in omega (arith, behind next last_of_next it.0 it.1 it.2 (omega (arith, begins, lt)), ends)
    ]
    | inr it ↦ elim (in_new next last_of_next is_next) [
      | inl both_next ↦ let next_begins : next ≡ start = both_next.0 in omega (arith, before first last it.2 (omega (arith, next_begins, lt)), next_begins)
      | inr it_next ↦ are.apart first last next last_of_next it.2 it_next.2 lt
    ]
  ]

  from_new : AreApart new → (q : ℕ) → has_number new q ≡ true → ((q == n) || has_number old q) ≡ true
  from_new are_new q h =
      let it = run_found new are_new q h in
      let first : ℕ = it.0 in
      let last : ℕ = it.1 in
      let from : first ≤ q = it.3 in
      let to : q ≤ last = it.4 in
      elim (in_new first last it.2) [
        | inl both ↦
            let begins : first ≡ start = both.0 in
            let ends : last ≡ end = both.1 in
            elim (cases_order q n) [
              | inl same ↦ or_left (q == n) (has_number old q) (eq-eqb q n same)
              | inr (inl lt) ↦ let run = s.joined (omega (arith, begins, from, lt)) in let ends_there : run.0 + 1 ≡ n = run.2 in or_right (q == n) (has_number old q) (number_found old start run.0 q run.1 (omega (arith, begins, from)) (omega (arith, ends_there, lt)))
              | inr (inr gt) ↦ or_right (q == n) (has_number old q) (number_found old (n + 1) end q (t.joined (omega (arith, ends, to, gt))) (omega (arith, gt)) (omega (arith, ends, to)))
            ]
        | inr run ↦ or_right (q == n) (has_number old q) (number_found old first last q run.2 from to)
      ]

  from_old : (q : ℕ) → ((q == n) || has_number old q) ≡ true → has_number new q ≡ true
  from_old q h = elim (or_cases (q == n) (has_number old q) h) [
    | inl same ↦ let is : q ≡ n = eqb-true q n same in number_found new start end q j.here (omega (arith, is, s.within)) (omega (arith, is, t.within))
    | inr has ↦
        let it = run_found old are q has in
        let first : ℕ = it.0 in
        let last : ℕ = it.1 in
        let from : first ≤ q = it.3 in
        let to : q ≤ last = it.4 in
        elim (cases_eq first start) [
          | inl begins ↦
              let short : last < n = outside first last it.2 (omega (arith, begins, s.within)) in
              number_found new start end q j.here (omega (arith, begins, from)) (omega (arith, to, short, t.within))
          | inr other ↦ elim (cases_eq first (n + 1)) [
            | inl next ↦
                elim (cases_lt n end) [
                  | inl joined ↦
                      let ends : last ≡ end = one_run old (n + 1) last end (subst (λ f. IsRun old f last) next it.2) (t.joined joined) in
                      number_found new start end q j.here (omega (arith, next, from, s.within)) (omega (arith, to, ends))
                  | inr alone ↦ absurd (t.alone (omega (arith, alone, t.within)) last (subst (λ f. IsRun old f last) next it.2))
                ]
            | inr not_next ↦ number_found new first last q (j.others first other not_next ∙ it.2) from to
          ]
        ]
  ]

  pub has_one_more : AreApart new → (q : ℕ) → has_number new q ≡ ((q == n) || has_number old q)
  has_one_more are_new q = same_test _ _ (from_new are_new q) (from_old q)

-- ---- as maps

none_some : (n : ℕ) → ◌≡◌ {A = Option ℕ} None (Some n) → ⊥
none_some n e = cc

module _ (old : Runs) (m mid : BTreeMap ℕ ℕ) (n start end : ℕ) (view : m.entries ≡ old) (inside : AreApart m.entries) (out : has_number old n ≡ false) (small : n < 2 ^ 32) (s : IsStart old n start) (t : IsEnd old n end) (ins : Updates nat_cmp m mid start (Some end)) where
  were : AreApart old
  were = subst AreApart view inside

  kept : (first : ℕ) → first ≢ start → lookup (is_at (nat_cmp first)) mid.entries ≡ lookup (is_at (nat_cmp first)) old
  kept first other = ins.2 first (at_other start first (λ e. other (sym e))) ∙ ap (lookup (is_at (nat_cmp first))) view

  behind_start : start ≢ n + 1
  behind_start e = absurd (omega (arith, e, s.within))

  module _ (new : BTreeMap ℕ ℕ) (rem : UpdatesBy nat_cmp (nat_cmp (n + 1)) mid new None) (sorted : IsStrictlySortedBy nat_cmp (keys_of new.entries)) where
    joined_two : AreJoined old new.entries n start end
    joined_two = record {
      here = rem.2 start (at_other (n + 1) start (λ e. behind_start (sym e))) ∙ ins.1;
      gone = λ last is. none_some last (sym rem.1 ∙ is);
      others = λ first other not_next. rem.2 first (at_other (n + 1) first (λ e. not_next (sym e))) ∙ kept first other;
    }

    pub apart_two : AreApart new.entries
    apart_two = record {
      sorted = sorted;
      small = stays_small old new.entries n start end were out small s t joined_two;
      forward = forward old new.entries n start end were out small s t joined_two;
      apart = stays_apart old new.entries n start end were out small s t joined_two;
    }

    pub more_two : (q : ℕ) → has_number new.entries q ≡ ((q == n) || has_number old q)
    more_two = has_one_more old new.entries n start end were out small s t joined_two apart_two

  module _ (alone : end ≡ n) (sorted : IsStrictlySortedBy nat_cmp (keys_of mid.entries)) where
    joined_one : AreJoined old mid.entries n start end
    joined_one = record {
      here = ins.1;
      gone = λ last is. t.alone alone last (sym (kept (n + 1) (λ e. behind_start (sym e))) ∙ is);
      others = λ first other not_next. kept first other;
    }

    pub apart_one : AreApart mid.entries
    apart_one = record {
      sorted = sorted;
      small = stays_small old mid.entries n start end were out small s t joined_one;
      forward = forward old mid.entries n start end were out small s t joined_one;
      apart = stays_apart old mid.entries n start end were out small s t joined_one;
    }

    pub more_one : (q : ℕ) → has_number mid.entries q ≡ ((q == n) || has_number old q)
    more_one = has_one_more old mid.entries n start end were out small s t joined_one apart_one
