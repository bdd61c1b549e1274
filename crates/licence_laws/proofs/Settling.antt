-- What settling a promise settles: all that leads to it, and nothing else; and who is told.
use Rattle.std.specs.Prelude.{cond, is_none, nat_lt, not, ◌==◌, ◌||◌, ◌&&◌, slice_set}
use Rattle.std.specs.List.{AllByRecursion, IsDistinct, filter, flat_map, list_any}
use Rattle.std.proofs.Common.{◌≡◌, ◌≢◌, ◌⊎◌, inl, inr, ℕ, zero, suc, ◌+◌, ◌<◌, ◌≤◌, Bool, true, false, eqb, List, [], ◌∷◌, ◌++◌, Option, Some, None, length, map, if◌then◌else◌, refl, sym, ◌∙◌, ap, subst, arith, append_assoc}
use Rattle.std.proofs.lemmas.Bool.{cases_eq, cases_lt, eq-eqb, eqb-true, ne_eqb, or_left, or_right}
use Rattle.std.proofs.lemmas.List.{append-nil}
use Rattle.std.proofs.lemmas.List.Elements.{filter-append}
use Rattle.std.proofs.lemmas.Map.Steps.{length-le_from_distinct_below}
use Rattle.std.proofs.lemmas.Map.Keys.{IsDistinct-cons}
use Rattle.fair_laws.proofs.world_laws.Cascades.{Has, IsAway, Paired, cascade_paired, has_first, has_second, resolving_asked, settled_on, steps_away, steps_settle}
use Rattle.fair_laws.proofs.world_laws.Followings.{away_from, cascade_unsettled, followers_led, led_made}
use Rattle.fair_laws.proofs.world_laws.Growing.{all_stepped_made, all_stepped_still}
use Rattle.fair_laws.proofs.world_laws.promise_store.Forest.{height, higher}
use Rattle.fair_laws.proofs.world_laws.Lists.{all_append, all_map}
use Rattle.fair_laws.proofs.world_laws.Owed.{promise_made}
use Rattle.fair_laws.proofs.lemmas.ListEdits.{length_set, read_other, read_set}
use Rattle.fair_laws.specs.world_state.promise_store.Linked.{IsForest, LeadsTo, followers, here, leader, through}
use Rattle.fair_laws.specs.world_state.promise_store.States.{SettlementView}
use Rattle.fair_laws.specs.world_state.promise_store.declared.links.Following.{Following}
use Rattle.fair_laws.specs.world_state.turn_records.Deliveries.{Delivery, Notice, notify}
use Rattle.fair_laws.specs.world_state.turn_records.Events as events
use Rattle.fair_laws.specs.world_state.turn_records.Events.{Event}
use Rattle.fair_laws.specs.world_state.Good.{AreAsked, AreFollowing, IsFollowing}
use Rattle.fair_laws.specs.world_state.Promises.{CascadeStep, Flow, IsPending, PromiseBook, WasSettled, all_stepped, no_promise, asks, cascade, flowing, notifies, settlement_at, settles, settling, stepped}
use Rattle.licence_laws.specs.TakenBack.{AreSettled, AreTold, IsOneOf, is_unsettled}

-- ---- one of several

pub one_first : (s : ℕ) (xs ys : List ℕ) → IsOneOf s xs → IsOneOf s (xs ++ ys)
one_first s [] ys is = absurd is
one_first s (x ∷ xs) ys (inl e) = inl e
one_first s (x ∷ xs) ys (inr is) = inr (one_first s xs ys is)

pub one_second : (s : ℕ) (xs ys : List ℕ) → IsOneOf s ys → IsOneOf s (xs ++ ys)
one_second s [] ys is = is
one_second s (x ∷ xs) ys is = inr (one_second s xs ys is)

some_same : (x y : ℕ) → Some x ≡ Some y → x ≡ y
some_same x y e = cc

-- who is led follows
led_follows : (fs : List Following) (n q : ℕ) → leader fs n ≡ Some q → IsOneOf n (followers fs q)
led_follows [] n q e = absurd (cc)
led_follows (f ∷ fs) n q e = by (f.promise == n) refl e (led_follows fs n q)
  where
    with_it : Bool → List ℕ
    with_it b = if b then followers fs q ++ f.promise ∷ [] else followers fs q

    more : (b : Bool) → IsOneOf n (followers fs q) → IsOneOf n (with_it b)
    more true is = one_first n (followers fs q) (f.promise ∷ []) is
    more false is = is

    by : (b : Bool) → (f.promise == n) ≡ b → cond b (Some f.target) (leader fs n) ≡ Some q → (leader fs n ≡ Some q → IsOneOf n (followers fs q)) → IsOneOf n (with_it (f.target == q))
    by true same is below =
        let at : (f.target == q) ≡ true = eq-eqb f.target q (some_same f.target q is) in
        subst (λ b. IsOneOf n (with_it b)) (sym at) (one_second n (followers fs q) (f.promise ∷ []) (inl (eqb-true f.promise n same)))
    by false other is below = more (f.target == q) (below is)

below_any : (n : ℕ) (ps : List ℕ) (q : ℕ) → AllByRecursion (λ x. x < n) ps → list_any (eqb q) ps ≡ true → q < n
below_any n [] q all is = absurd (let no : false ≡ true = is in grind arith)
below_any n (p ∷ ps) q all is = elim (cases_eq q p) [
  | inl same ↦ omega (arith, same, all.0)
  | inr other ↦ below_any n ps q all.1 (subst (λ t. (t || list_any (eqb q) ps) ≡ true) (ne_eqb q p other) is)
]

-- ---- a cascade reaches all that leads to its promise

module _ (fs : List Following) where
  in_flat : (n x : ℕ) (s : CascadeStep) (qs : List ℕ) → IsOneOf x qs → Has s (cascade n fs x) → Has s (flat_map (λ q. cascade n fs q) qs)
  in_flat n x s [] one has = absurd one
  in_flat n x s (q ∷ qs) (inl e) has = has_first s (cascade n fs q) (flat_map (λ k. cascade n fs k) qs) (subst (λ k. Has s (cascade n fs k)) (sym e) has)
  in_flat n x s (q ∷ qs) (inr one) has = has_second s (cascade n fs q) (flat_map (λ k. cascade n fs k) qs) (in_flat n x s qs one has)

  -- that of a follower is part of it
  below : (n p x : ℕ) (s : CascadeStep) → IsOneOf x (followers fs p) → Has s (cascade n fs x) → Has s (cascade (suc n) fs p)
  below n p x s one has = inr (has_first s (flat_map (λ q. cascade n fs q) (followers fs p)) (notifies p ∷ []) (in_flat n x s (followers fs p) one has))

  its_own : (n p : ℕ) → Has (settles p) (cascade n fs p)
  its_own zero p = inl refl
  its_own (suc n) p = inl refl

  -- one step of a list of parts stands in one of them
  record IsBelow (n : ℕ) (s : CascadeStep) (qs : List ℕ) : Type 0 where
    pub follower : ℕ
    pub one : IsOneOf follower qs
    pub has : Has s (cascade n fs follower)

  has_or : (s : CascadeStep) (xs ys : List CascadeStep) → Has s (xs ++ ys) → Has s xs ⊎ Has s ys
  has_or s [] ys has = inr has
  has_or s (x ∷ xs) ys (inl e) = inl (inl e)
  has_or s (x ∷ xs) ys (inr has) = elim (has_or s xs ys has) [
    | inl first ↦ inl (inr first)
    | inr second ↦ inr second
  ]

  flat_below : (n : ℕ) (s : CascadeStep) (qs : List ℕ) → Has s (flat_map (λ q. cascade n fs q) qs) → IsBelow n s qs
  flat_below n s [] has = absurd has
  flat_below n s (q ∷ qs) has = elim (has_or s (cascade n fs q) (flat_map (λ k. cascade n fs k) qs) has) [
    | inl first ↦ record { follower = q; one = inl refl; has = first }
    | inr second ↦ let it = flat_below n s qs second in record { follower = it.follower; one = inr it.one; has = it.has }
  ]

  same_settled : (p q : ℕ) → settles p ≡ settles q → p ≡ q
  same_settled p q e = cc

  never_settles : (p q : ℕ) → notifies p ≡ settles q → ⊥
  never_settles p q e = cc

  -- what it settles is its promise, or stands below it
  its_own_or : (n p q : ℕ) → Has (settles q) (cascade (suc n) fs p) → (p ≡ q) ⊎ IsBelow n (settles q) (followers fs p)
  its_own_or n p q (inl e) = inl (same_settled p q e)
  its_own_or n p q (inr has) = elim (has_or (settles q) (flat_map (λ k. cascade n fs k) (followers fs p)) (notifies p ∷ []) has) [
    | inl flat ↦ inr (flat_below n (settles q) (followers fs p) flat)
    | inr last ↦ absurd (at_last last)
  ]
    where
      at_last : Has (settles q) (notifies p ∷ []) → ⊥
      at_last (inl e) = never_settles p q e
      at_last (inr none) = none

  -- one step deeper
  deeper : (n p q x : ℕ) → IsOneOf x (followers fs q) → Has (settles q) (cascade n fs p) → Has (settles x) (cascade (suc n) fs p)
  deeper zero p q x one (inl e) = below zero p x (settles x) (subst (λ k. IsOneOf x (followers fs k)) (sym (same_settled p q e)) one) (its_own zero x)
  deeper zero p q x one (inr (inl e)) = absurd (never_settles p q e)
  deeper zero p q x one (inr (inr none)) = absurd none
  deeper (suc n) p q x one has = elim (its_own_or n p q has) [
    | inl same ↦ below (suc n) p x (settles x) (subst (λ k. IsOneOf x (followers fs k)) (sym same) one) (its_own (suc n) x)
    | inr it ↦ below (suc n) p it.follower (settles x) it.one (deeper n it.follower q x one it.has)
  ]

  further : (n p q : ℕ) → Has (settles q) (cascade n fs p) → Has (settles q) (cascade (suc n) fs p)
  further zero p q (inl e) = inl e
  further zero p q (inr (inl e)) = absurd (never_settles p q e)
  further zero p q (inr (inr none)) = absurd none
  further (suc n) p q has = elim (its_own_or n p q has) [
    | inl same ↦ inl (ap settles same)
    | inr it ↦ below (suc n) p it.follower (settles q) it.one (further n it.follower q it.has)
  ]

  as_far : (m n p q : ℕ) → m ≤ n → Has (settles q) (cascade m fs p) → Has (settles q) (cascade n fs p)
  as_far m zero p q le has = let none : m ≡ zero = omega (arith, le) in subst (λ k. Has (settles q) (cascade k fs p)) none has
  as_far m (suc n) p q le has = elim (cases_lt m (suc n)) [
    | inl less ↦ further n p q (as_far m n p q (omega (arith, less)) has)
    | inr more ↦ let same : m ≡ suc n = omega (arith, le, more) in subst (λ k. Has (settles q) (cascade k fs p)) same has
  ]

  -- the way from what leads to a promise, down to it: each promise on it was made, and none stands on it twice
  record IsWay (most p q : ℕ) : Type 0 where
    pub way : List ℕ
    pub has : Has (settles q) (cascade (length way) fs p)
    pub low : AllByRecursion (λ x. height fs x ≤ height fs q) way
    pub made : AllByRecursion (λ x. x < most) way
    pub apart : IsDistinct eqb way

  lower : (n q : ℕ) → height fs n ≡ height fs q + 1 → (x : ℕ) → height fs x ≤ height fs q → eqb n x ≡ false
  lower n q up x low = ne_eqb n x (λ e. absurd (omega (arith, up, low, ap (height fs) e)))

  way_of : (most p q : ℕ) → IsForest fs → AllByRecursion (IsFollowing most) fs → LeadsTo fs p q → IsWay most p q
  unfolding IsDistinct
  way_of most p _ forest are here = record { way = []; has = inl refl; low = tt; made = tt; apart = tt }
  way_of most p _ forest are (through n q e l) =
      let it = way_of most p q forest are l in
      let up = higher fs n q forest e in
      record {
        way = n ∷ it.way;
        has = deeper (length it.way) p q n (led_follows fs n q e) it.has;
        low = (omega arith, all_map (λ x. height fs x ≤ height fs q) (λ x. height fs x ≤ height fs n) (λ x low. omega (arith, up, low)) it.way it.low);
        made = ((led_made most fs n q are e).0, it.made);
        apart = IsDistinct-cons eqb n it.way (all_map (λ x. height fs x ≤ height fs q) (λ x. eqb n x ≡ false) (lower n q up) it.way it.low) it.apart;
      }

  -- all that leads to the promise is settled
  pub reaches : (most p q : ℕ) → IsForest fs → AllByRecursion (IsFollowing most) fs → LeadsTo fs p q → Has (settles q) (cascade most fs p)
  reaches most p q forest are leads =
      let it = way_of most p q forest are leads in
      as_far (length it.way) most p q (length-le_from_distinct_below it.way most it.apart (λ x. below_any most it.way x it.made)) it.has

  -- and nothing else is
  picked : (P : ℕ → Type 0) (x : ℕ) (xs : List ℕ) → AllByRecursion P xs → IsOneOf x xs → P x
  picked P x [] all one = absurd one
  picked P x (y ∷ ys) all (inl e) = subst P e all.0
  picked P x (y ∷ ys) all (inr one) = picked P x ys all.1 one

  leads_on : (p x q : ℕ) → LeadsTo fs p x → LeadsTo fs x q → LeadsTo fs p q
  leads_on p x _ first here = first
  leads_on p x _ first (through n q e l) = through n q e (leads_on p x q first l)

  pub only_leads : (n p q : ℕ) → IsForest fs → Has (settles q) (cascade n fs p) → LeadsTo fs p q
  only_leads zero p q forest (inl e) = subst (λ k. LeadsTo fs p k) (same_settled p q e) here
  only_leads zero p q forest (inr (inl e)) = absurd (never_settles p q e)
  only_leads zero p q forest (inr (inr none)) = absurd none
  only_leads (suc n) p q forest has = elim (its_own_or n p q has) [
    | inl same ↦ subst (λ k. LeadsTo fs p k) same here
    | inr it ↦
        let led = picked (λ x. leader fs x ≡ Some p) it.follower (followers fs p) (followers_led fs p forest) it.one in
        leads_on p it.follower q (through it.follower p led here) (only_leads n it.follower q forest it.has)
  ]

-- ---- what promises were settled with

module _ (v : SettlementView) where
  -- what the steps settle is settled with it
  stays_with : (q : ℕ) (ss : List CascadeStep) (f : Flow) → q < length f.settled → settlement_at f.settled q ≡ Some v → settlement_at (all_stepped v ss f).settled q ≡ Some v
  stays_with q [] f made is = is
  stays_with q (notifies p ∷ ss) f made is = stays_with q ss (stepped v (notifies p) f) made is
  stays_with q (settles p ∷ ss) f made is =
      stays_with q ss (stepped v (settles p) f) (omega (arith, made, length_set f.settled p (Some v)))
      (elim (cases_eq p q) [
        | inl same ↦ subst (λ k. settlement_at (slice_set f.settled k (Some v)) q ≡ Some v) (sym same) (read_set f.settled q (Some v) no_promise made)
        | inr other ↦ read_other f.settled p q (Some v) no_promise other ∙ is
      ])

  settled_with : (q : ℕ) (ss : List CascadeStep) (f : Flow) → q < length f.settled → Has (settles q) ss → settlement_at (all_stepped v ss f).settled q ≡ Some v
  settled_with q [] f made has = absurd has
  settled_with q (s ∷ ss) f made (inl e) =
      let at : settlement_at (stepped v s f).settled q ≡ Some v = subst (λ x. settlement_at (stepped v x f).settled q ≡ Some v) (sym e) (read_set f.settled q (Some v) no_promise made) in
      let many : q < length (stepped v s f).settled = subst (λ x. q < length (stepped v x f).settled) (sym e) (omega (arith, made, length_set f.settled q (Some v))) in
      stays_with q ss (stepped v s f) many at
  settled_with q (settles p ∷ ss) f made (inr has) = settled_with q ss (stepped v (settles p) f) (omega (arith, made, length_set f.settled p (Some v))) has
  settled_with q (notifies p ∷ ss) f made (inr has) = settled_with q ss (stepped v (notifies p) f) made has

-- what leads to a promise that isn't settled isn't
unsettled_led : (b : PromiseBook) (p q : ℕ) → AreFollowing b → settlement_at b.settled p ≡ None → LeadsTo b.follows p q → settlement_at b.settled q ≡ None
unsettled_led b p _ are none here = none
unsettled_led b p _ are none (through n q e l) = are.unsettled n q e (unsettled_led b p q are none l)

-- a promise is settled with it, and so is what leads there
pub record IsLed (b : PromiseBook) (p : ℕ) (v : SettlementView) (q : ℕ) (u : SettlementView) : Type 0 where
  pub leads : LeadsTo b.follows p q
  pub given : u ≡ v

module _ (b : PromiseBook) (p : ℕ) (v : SettlementView) (ds : List Delivery) (log : List Event) (are : AreFollowing b) (pends : IsPending b p) where
  abbrev steps : List CascadeStep
  steps = cascade (length b.settled) b.follows p

  abbrev later : PromiseBook
  later = (settling p v b ds log).promises

  pub settling_settles : AreSettled b later (IsLed b p v)
  settling_settles = record {
    settled = λ q u is.
        let none = unsettled_led b p q are pends.unsettled is.leads in
        settled_with v q steps (flowing b ds log) (promise_made b.settled q none) (reaches b.follows (length b.settled) p q are.forest are.made is.leads) ∙ ap Some (sym is.given);
    first = λ q u is. unsettled_led b p q are pends.unsettled is.leads;
    others = λ q none.
        steps_away v q steps (flowing b ds log) (away_from q steps (λ has. none v (record { leads = only_leads b.follows (length b.settled) p q are.forest has; given = refl })));
    made = all_stepped_made v steps (flowing b ds log);
    follows = refl;
  }

-- ---- filters

module _ {A : Type 0} where
  pub filter_twice : (f g h : A → Bool) → ((x : A) → cond (g x) (f x) false ≡ h x) → (xs : List A) → filter f (filter g xs) ≡ filter h xs
  filter_twice f g h same [] = refl
  filter_twice f g h same (x ∷ xs) = by (g x) (same x) (filter_twice f g h same xs)
    where
      by : (b : Bool) → cond b (f x) false ≡ h x → filter f (filter g xs) ≡ filter h xs → filter f (cond b (x ∷ filter g xs) (filter g xs)) ≡ cond (h x) (x ∷ filter h xs) (filter h xs)
      by true e rest = ap (λ ys. cond (f x) (x ∷ ys) ys) rest ∙ ap (λ b. cond b (x ∷ filter h xs) (filter h xs)) e
      by false e rest = rest ∙ ap (λ b. cond b (x ∷ filter h xs) (filter h xs)) e

  pub filter_never : (xs : List A) → filter (λ x. false) xs ≡ []
  filter_never [] = refl
  filter_never (x ∷ xs) = filter_never xs

  pub filter_same : (f g : A → Bool) (xs : List A) → AllByRecursion (λ x. f x ≡ g x) xs → filter f xs ≡ filter g xs
  filter_same f g [] all = refl
  filter_same f g (x ∷ xs) all =
      ap (λ ys. cond (f x) (x ∷ ys) ys) (filter_same f g xs all.1)
      ∙ ap (λ b. cond b (x ∷ filter g xs) (filter g xs)) all.0

-- the requests for one promise, of those for another, and of the others
asks_both : (p q : ℕ) → p ≢ q → (n : Notice) → cond (asks p n) (asks q n) false ≡ false
asks_both p q other n = by (n.promise == p) refl
  where
    by : (b : Bool) → (n.promise == p) ≡ b → cond b (asks q n) false ≡ false
    by true is = ne_eqb n.promise q (λ e. other (sym (eqb-true n.promise p is) ∙ e))
    by false is = refl

asks_left : (p q : ℕ) → p ≢ q → (n : Notice) → cond (not (asks p n)) (asks q n) false ≡ asks q n
asks_left p q other n = by (n.promise == p) refl
  where
    by : (b : Bool) → (n.promise == p) ≡ b → cond (not b) (asks q n) false ≡ asks q n
    by true is = sym (ne_eqb n.promise q (λ e. other (sym (eqb-true n.promise p is) ∙ e)))
    by false is = refl

asks_itself : (q : ℕ) (n : Notice) → cond (asks q n) (asks q n) false ≡ asks q n
asks_itself q n = by (asks q n)
  where
    by : (b : Bool) → cond b b false ≡ b
    by true = refl
    by false = refl

asks_never : (q : ℕ) (n : Notice) → cond (not (asks q n)) (asks q n) false ≡ false
asks_never q n = by (asks q n)
  where
    by : (b : Bool) → cond (not b) b false ≡ false
    by true = refl
    by false = refl

-- ---- who is told

-- whether steps tell those who asked for a promise
abbrev tells : List CascadeStep → ℕ → Bool
tells [] q = false
tells (settles p ∷ ss) q = tells ss q
tells (notifies p ∷ ss) q = (q == p) || tells ss q

abbrev others : ℕ → List Notice → List Notice
others p rs = filter (λ n. not (asks p n)) rs

abbrev told_by : List CascadeStep → List Notice → List Notice
told_by [] rs = []
told_by (settles p ∷ ss) rs = told_by ss rs
told_by (notifies p ∷ ss) rs = filter (asks p) rs ++ told_by ss (others p rs)

map_both : (xs ys : List Notice) → map notify (xs ++ ys) ≡ map notify xs ++ map notify ys
map_both [] ys = refl
map_both (x ∷ xs) ys = ap (λ ds. notify x ∷ ds) (map_both xs ys)

waits : (v : SettlementView) (ss : List CascadeStep) (f : Flow) → (all_stepped v ss f).waiting ≡ f.waiting ++ map notify (told_by ss f.requests)
waits v [] f = sym (append-nil f.waiting)
waits v (settles p ∷ ss) f = waits v ss (stepped v (settles p) f)
waits v (notifies p ∷ ss) f =
    waits v ss (stepped v (notifies p) f)
    ∙ (append_assoc f.waiting (map notify (filter (asks p) f.requests)) (map notify (told_by ss (others p f.requests)))
    ∙ ap (λ ds. f.waiting ++ ds) (sym (map_both (filter (asks p) f.requests) (told_by ss (others p f.requests)))))

-- either way nothing
gone_if : (b : Bool) (ns : List Notice) → ns ≡ [] → cond b ns [] ≡ []
gone_if true ns none = none
gone_if false ns none = refl

gone_else : (b : Bool) (ns : List Notice) → ns ≡ [] → cond b [] ns ≡ []
gone_else true ns none = refl
gone_else false ns none = none

told_for : (q : ℕ) (ss : List CascadeStep) (rs : List Notice) → filter (asks q) (told_by ss rs) ≡ cond (tells ss q) (filter (asks q) rs) []
told_for q [] rs = refl
told_for q (settles p ∷ ss) rs = told_for q ss rs
told_for q (notifies p ∷ ss) rs = filter-append (asks q) (filter (asks p) rs) (told_by ss (others p rs)) ∙ elim (cases_eq q p) [
  | inl same ↦
      let here : (q == p) ≡ true = eq-eqb q p same in
      let first : filter (asks q) (filter (asks p) rs) ≡ filter (asks q) rs =
      subst (λ k. filter (asks q) (filter (asks k) rs) ≡ filter (asks q) rs) same (filter_twice (asks q) (asks q) (asks q) (asks_itself q) rs) in
      let gone : filter (asks q) (others p rs) ≡ [] =
      subst (λ k. filter (asks q) (others k rs) ≡ []) same (filter_twice (asks q) (λ n. not (asks q n)) (λ n. false) (asks_never q) rs ∙ filter_never rs) in
      let rest : filter (asks q) (told_by ss (others p rs)) ≡ [] = told_for q ss (others p rs) ∙ gone_if (tells ss q) (filter (asks q) (others p rs)) gone in
      ap (λ xs. xs ++ filter (asks q) (told_by ss (others p rs))) first
      ∙ (ap (λ xs. filter (asks q) rs ++ xs) rest
      ∙ (append-nil (filter (asks q) rs)
      ∙ ap (λ b. cond (b || tells ss q) (filter (asks q) rs) []) (sym here)))
  | inr other ↦
      let apart : p ≢ q = λ e. other (sym e) in
      let here : (q == p) ≡ false = ne_eqb q p other in
      let first : filter (asks q) (filter (asks p) rs) ≡ [] = filter_twice (asks q) (asks p) (λ n. false) (asks_both p q apart) rs ∙ filter_never rs in
      let left : filter (asks q) (others p rs) ≡ filter (asks q) rs = filter_twice (asks q) (λ n. not (asks p n)) (asks q) (asks_left p q apart) rs in
      ap (λ xs. xs ++ filter (asks q) (told_by ss (others p rs))) first
      ∙ (told_for q ss (others p rs)
      ∙ (ap (λ xs. cond (tells ss q) xs []) left
      ∙ ap (λ b. cond (b || tells ss q) (filter (asks q) rs) []) (sym here)))
]

not_either : (a b : Bool) → cond (not a) (not b) false ≡ not (a || b)
not_either true b = refl
not_either false b = refl

asked_still : (v : SettlementView) (ss : List CascadeStep) (f : Flow) → (all_stepped v ss f).requests ≡ filter (λ n. not (tells ss n.promise)) f.requests
asked_still v [] f = sym (filter_all f.requests)
  where
    filter_all : (ns : List Notice) → filter (λ n. true) ns ≡ ns
    filter_all [] = refl
    filter_all (n ∷ ns) = ap (λ xs. n ∷ xs) (filter_all ns)
asked_still v (settles p ∷ ss) f = asked_still v ss (stepped v (settles p) f)
asked_still v (notifies p ∷ ss) f =
    asked_still v ss (stepped v (notifies p) f)
    ∙ filter_twice (λ n. not (tells ss n.promise)) (λ n. not (asks p n)) (λ n. not (tells (notifies p ∷ ss) n.promise)) (λ n. not_either (n.promise == p) (tells ss n.promise)) f.requests

-- steps tell those that they have a step for
tells_has : (q : ℕ) (ss : List CascadeStep) → tells ss q ≡ true → Has (notifies q) ss
tells_has q [] is = absurd (cc)
tells_has q (settles p ∷ ss) is = inr (tells_has q ss is)
tells_has q (notifies p ∷ ss) is = by (q == p) refl is (tells_has q ss)
  where
    by : (b : Bool) → (q == p) ≡ b → (b || tells ss q) ≡ true → (tells ss q ≡ true → Has (notifies q) ss) → Has (notifies q) (notifies p ∷ ss)
    by true e told rest = inl (ap notifies (sym (eqb-true q p e)))
    by false e told rest = inr (rest told)

same_told : (p q : ℕ) → notifies p ≡ notifies q → q ≡ p
same_told p q e = cc

never_tells : (p q : ℕ) → settles p ≡ notifies q → ⊥
never_tells p q e = cc

has_tells : (q : ℕ) (ss : List CascadeStep) → Has (notifies q) ss → tells ss q ≡ true
has_tells q [] has = absurd has
has_tells q (settles p ∷ ss) (inl e) = absurd (never_tells p q e)
has_tells q (settles p ∷ ss) (inr has) = has_tells q ss has
has_tells q (notifies p ∷ ss) (inl e) = or_left (q == p) (tells ss q) (eq-eqb q p (same_told p q e))
has_tells q (notifies p ∷ ss) (inr has) = or_right (q == p) (tells ss q) (has_tells q ss has)

paired_with : (s : CascadeStep) (xs ss : List CascadeStep) → AllByRecursion (Paired xs) ss → Has s ss → Paired xs s
paired_with s xs [] all has = absurd has
paired_with s xs (x ∷ ss) all (inl e) = subst (Paired xs) e all.0
paired_with s xs (x ∷ ss) all (inr has) = paired_with s xs ss all.1 has

never_true : false ≡ true → ⊥
never_true e = cc

some_is_settled : (o : Option SettlementView) → WasSettled o → is_none o ≡ false
some_is_settled None is = absurd (cc)
some_is_settled (Some u) is = refl

pub none_is_some : (u : SettlementView) → None ≡ Some u → ⊥
none_is_some u e = cc

-- none asks for what was settled
pub none_asked : (b : PromiseBook) (q : ℕ) (u : SettlementView) → AreAsked b → settlement_at b.settled q ≡ Some u → filter (asks q) b.requests ≡ []
none_asked b q u asked is =
    filter_same (asks q) (λ n. false) b.requests
    (all_map (λ n. settlement_at b.settled n.promise ≡ None) (λ n. asks q n ≡ false) (λ n none. ne_eqb n.promise q (λ e. none_is_some u (sym none ∙ (ap (settlement_at b.settled) e ∙ is)))) b.requests asked)
    ∙ filter_never b.requests

module _ (b : PromiseBook) (p : ℕ) (v : SettlementView) (ds : List Delivery) (log : List Event) (are : AreFollowing b) (pends : IsPending b p) (asked : AreAsked b) where
  abbrev its_steps : List CascadeStep
  its_steps = cascade (length b.settled) b.follows p

  abbrev next : PromiseBook
  next = (settling p v b ds log).promises

  its_pairs : AllByRecursion (Paired its_steps) its_steps
  its_pairs = cascade_paired (length b.settled) b.follows p

  -- of what was unsettled those are told whose promise is settled now
  told_where : (q : ℕ) → settlement_at b.settled q ≡ None → is_unsettled next q ≡ not (tells its_steps q)
  told_where q none = by (tells its_steps q) refl
    where
      by : (t : Bool) → tells its_steps q ≡ t → is_unsettled next q ≡ not t
      by true e =
          let has : Has (settles q) its_steps = paired_with (notifies q) its_steps its_steps its_pairs (tells_has q its_steps e) in
          some_is_settled (settlement_at next.settled q) (steps_settle v q its_steps (flowing b ds log) has)
      by false e =
          let away = away_from q its_steps (λ has. never_true (sym e ∙ has_tells q its_steps (paired_with (settles q) its_steps its_steps its_pairs has))) in
          ap is_none (steps_away v q its_steps (flowing b ds log) away ∙ none)

  pub settling_tells : (after : List Delivery) → after ≡ (settling p v b ds log).waiting → AreTold b next ds after
  settling_tells after e = record {
    told = told_by its_steps b.requests;
    waiting = e ∙ waits v its_steps (flowing b ds log);
    each = λ q. told_for q its_steps b.requests ∙ by q (settlement_at b.settled q) refl;
    left = asked_still v its_steps (flowing b ds log)
        ∙ filter_same (λ n. not (tells its_steps n.promise)) (λ n. is_unsettled next n.promise) b.requests
        (all_map (λ n. settlement_at b.settled n.promise ≡ None) (λ n. not (tells its_steps n.promise) ≡ is_unsettled next n.promise) (λ n none. sym (told_where n.promise none)) b.requests asked);
  }
    where
      turned : (t : Bool) (xs : List Notice) → cond t xs [] ≡ cond (not t) [] xs
      turned true xs = refl
      turned false xs = refl

      by : (q : ℕ) (o : Option SettlementView) → settlement_at b.settled q ≡ o → cond (tells its_steps q) (filter (asks q) b.requests) [] ≡ cond (is_unsettled next q) [] (filter (asks q) b.requests)
      by q None none = turned (tells its_steps q) (filter (asks q) b.requests) ∙ ap (λ t. cond t [] (filter (asks q) b.requests)) (sym (told_where q none))
      by q (Some u) is =
          let gone = none_asked b q u asked is in
          gone_if (tells its_steps q) (filter (asks q) b.requests) gone ∙ sym (gone_else (is_unsettled next q) (filter (asks q) b.requests) gone)
