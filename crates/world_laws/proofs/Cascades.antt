-- What a cascade settles it notifies, and the other way round; so who is to be told of a settled promise is told.
use Rattle.std.specs.Prelude.{cond, nat_lt, not, slice_set}
use Rattle.std.specs.List.{AllByRecursion, filter, flat_map}
use Rattle.std.proofs.Common.{◌≡◌, ◌≢◌, ◌⊎◌, inl, inr, ℕ, zero, suc, ◌<◌, ◌≤◌, Bool, true, false, List, [], ◌∷◌, ◌++◌, Some, None, Option, length, refl, sym, ◌∙◌, subst, arith}
use Rattle.std.proofs.lemmas.Bool.{eq-eqb, ltb-true}
use Rattle.world_state.proofs.lemmas.ListEdits.{read_before, read_other, read_past}
use Rattle.world_state.specs.actors.SeatPromises.{pair_at}
use Rattle.world_state.specs.host_data.Tree.{null}
use Rattle.world_state.specs.promise_store.Linked.{followers}
use Rattle.world_state.specs.promise_store.States.{SettlementView, ok}
use Rattle.world_state.specs.promise_store.declared.links.Following.{Following}
use Rattle.world_state.specs.turn_records.Deliveries.{Delivery, Notice}
use Rattle.world_state.specs.turn_records.Events.{Event}
use Rattle.world_state.specs.Promises.{CascadeStep, Flow, PromiseBook, WasSettled, all_stepped, asking, asks, cascade, flowing, following, no_promise, notifies, resolving, resolving_to, settlement_at, settles, settling, stepped, target_of, with_promise}
use Rattle.world_state.specs.Good.{AreAsked, IsGoodWorld}
use Rattle.world_state.specs.Known.{Keeps}
use Rattle.world_state.specs.Worlds.{Effect, State, after, leaving_events, payouts_tree, request_of, empty_seat, exit, offer, resolve, send, start, when}
use Rattle.world_laws.proofs.Growing.{all_stepped_made, all_stepped_still}
use Rattle.world_laws.proofs.Lists.{all_append, all_filter, all_map, all_push}

-- a step is one of the steps
abbrev pub Has : CascadeStep → List CascadeStep → Type 0
Has s [] = ⊥
Has s (x ∷ xs) = (x ≡ s) ⊎ Has s xs

-- what is settled is notified, and what is notified is settled
abbrev pub Paired : List CascadeStep → CascadeStep → Type 0
Paired ss (settles p) = Has (notifies p) ss
Paired ss (notifies p) = Has (settles p) ss

pub has_first : (s : CascadeStep) (xs ys : List CascadeStep) → Has s xs → Has s (xs ++ ys)
has_first s [] ys has = absurd has
has_first s (x ∷ xs) ys (inl e) = inl e
has_first s (x ∷ xs) ys (inr has) = inr (has_first s xs ys has)

pub has_second : (s : CascadeStep) (xs ys : List CascadeStep) → Has s ys → Has s (xs ++ ys)
has_second s [] ys has = has
has_second s (x ∷ xs) ys has = inr (has_second s xs ys has)

paired_by : (xs ys : List CascadeStep) → ((s : CascadeStep) → Has s xs → Has s ys) → (s : CascadeStep) → Paired xs s → Paired ys s
paired_by xs ys to (settles p) has = to (notifies p) has
paired_by xs ys to (notifies p) has = to (settles p) has

flat_paired : (steps : ℕ → List CascadeStep) → ((q : ℕ) → AllByRecursion (Paired (steps q)) (steps q)) → (qs : List ℕ) → AllByRecursion (Paired (flat_map steps qs)) (flat_map steps qs)
flat_paired steps each [] = tt
flat_paired steps each (q ∷ qs) =
    let rest = flat_map steps qs in
    let all = steps q ++ rest in
    all_append (Paired all) (steps q) rest
    (all_map (Paired (steps q)) (Paired all) (paired_by (steps q) all (λ s has. has_first s (steps q) rest has)) (steps q) (each q))
    (all_map (Paired rest) (Paired all) (paired_by rest all (λ s has. has_second s (steps q) rest has)) rest (flat_paired steps each qs))

pub cascade_paired : (n : ℕ) (fs : List Following) (p : ℕ) → AllByRecursion (Paired (cascade n fs p)) (cascade n fs p)
cascade_paired zero fs p = (inr (inl refl), (inl refl, tt))
cascade_paired (suc n) fs p =
    let flat = flat_map (λ q. cascade n fs q) (followers fs p) in
    let last = notifies p ∷ [] in
    let all = settles p ∷ flat ++ last in (
      inr (has_second (notifies p) flat last (inl refl)),
      all_append (Paired all) flat last
          (all_map (Paired flat) (Paired all) (paired_by flat all (λ s has. inr (has_first s flat last has))) flat (flat_paired (λ q. cascade n fs q) (λ q. cascade_paired n fs q) (followers fs p)))
          (inl refl, tt),
    )

-- ---- what is settled is so in the end

set_settled : (ss : List (Option SettlementView)) (p : ℕ) (v : SettlementView) → WasSettled (settlement_at (slice_set ss p (Some v)) p)
set_settled [] p v = refl
set_settled (s ∷ ss) zero v = refl
set_settled (s ∷ ss) (suc p) v = set_settled ss p v

pub settled_on : (ss ts : List (Option SettlementView)) (p : ℕ) → Keeps WasSettled no_promise ss ts → length ts ≡ length ss → WasSettled (settlement_at ss p) → WasSettled (settlement_at ts p)
settled_on ss ts p keeps as_many is = by (nat_lt p (length ss)) refl
  where
    by : (b : Bool) → nat_lt p (length ss) ≡ b → WasSettled (settlement_at ts p)
    by true e = keeps.each p (ltb-true p (length ss) e) is
    by false e =
        let le : length ss ≤ p = grind arith in
        subst WasSettled (sym (read_past ts no_promise p (omega (arith, le, as_many)))) refl

pub steps_settle : (v : SettlementView) (p : ℕ) (ss : List CascadeStep) (f : Flow) → Has (settles p) ss → WasSettled (settlement_at (all_stepped v ss f).settled p)
steps_settle v p [] f has = absurd has
steps_settle v p (s ∷ ss) f (inl is) =
    let g = stepped v s f in
    settled_on g.settled (all_stepped v ss g).settled p (all_stepped_still v ss g) (all_stepped_made v ss g)
    (subst (λ x. WasSettled (settlement_at (stepped v x f).settled p)) (sym is) (set_settled f.settled p v))
steps_settle v p (s ∷ ss) f (inr has) = steps_settle v p ss (stepped v s f) has

-- ---- who still is to be told

abbrev IsQuiet : Notice → CascadeStep → Type 0
IsQuiet n (settles p) = Unit {0}
IsQuiet n (notifies p) = asks p n ≡ false

-- of a promise that no step notifies
abbrev IsLeftOut : List CascadeStep → Notice → Type 0
IsLeftOut ss n = AllByRecursion (IsQuiet n) ss

not_asking : (p : ℕ) (ns : List Notice) → AllByRecursion (λ n. asks p n ≡ false) (filter (λ n. not (asks p n)) ns)
not_asking p [] = tt
not_asking p (n ∷ ns) = by (asks p n) refl (not_asking p ns)
  where
    by : (b : Bool) → asks p n ≡ b → AllByRecursion (λ m. asks p m ≡ false) (filter (λ m. not (asks p m)) ns) → AllByRecursion (λ m. asks p m ≡ false) (cond (not b) (n ∷ filter (λ m. not (asks p m)) ns) (filter (λ m. not (asks p m)) ns))
    by true e rest = rest
    by false e rest = (e, rest)

all_both : {A : Type 0} (P Q : A → Type 0) (xs : List A) → AllByRecursion P xs → AllByRecursion Q xs → AllByRecursion (λ x. P x × Q x) xs
all_both P Q [] p q = tt
all_both P Q (x ∷ xs) p q = ((p.0, q.0), all_both P Q xs p.1 q.1)

step_quiet : (v : SettlementView) (P : Notice → Type 0) (s : CascadeStep) (f : Flow) → AllByRecursion P f.requests → AllByRecursion (λ n. P n × IsQuiet n s) (stepped v s f).requests
step_quiet v P (settles p) f all = all_map P (λ n. P n × Unit {0}) (λ n is. (is, tt)) f.requests all
step_quiet v P (notifies p) f all = all_both P (λ n. asks p n ≡ false) (filter (λ n. not (asks p n)) f.requests) (all_filter P (λ n. not (asks p n)) f.requests all) (not_asking p f.requests)

steps_quiet : (v : SettlementView) (P : Notice → Type 0) (ss : List CascadeStep) (f : Flow) → AllByRecursion P f.requests → AllByRecursion (λ n. P n × IsLeftOut ss n) (all_stepped v ss f).requests
steps_quiet v P [] f all = all_map P (λ n. P n × Unit {0}) (λ n is. (is, tt)) f.requests all
steps_quiet v P (s ∷ ss) f all =
    let g = stepped v s f in
    all_map (λ n. (P n × IsQuiet n s) × IsLeftOut ss n) (λ n. P n × IsLeftOut (s ∷ ss) n) (λ n is. (is.0.0, (is.0.1, is.1))) (all_stepped v ss g).requests
    (steps_quiet v (λ n. P n × IsQuiet n s) ss g (step_quiet v P s f all))

-- what no step settles stays as it is
abbrev pub IsAway : ℕ → CascadeStep → Type 0
IsAway q (settles p) = p ≢ q
IsAway q (notifies p) = Unit {0}

pub steps_away : (v : SettlementView) (q : ℕ) (ss : List CascadeStep) (f : Flow) → AllByRecursion (IsAway q) ss → settlement_at (all_stepped v ss f).settled q ≡ settlement_at f.settled q
steps_away v q [] f away = refl
steps_away v q (settles p ∷ ss) f away = steps_away v q ss (stepped v (settles p) f) away.1 ∙ read_other f.settled p q (Some v) no_promise away.0
steps_away v q (notifies p ∷ ss) f away = steps_away v q ss (stepped v (notifies p) f) away.1

quiet_at : (n : Notice) (s : CascadeStep) (ss : List CascadeStep) → IsLeftOut ss n → Has s ss → IsQuiet n s
quiet_at n s [] out has = absurd has
quiet_at n s (x ∷ xs) out (inl e) = subst (IsQuiet n) e out.0
quiet_at n s (x ∷ xs) out (inr has) = quiet_at n s xs out.1 has

not_its : (n : Notice) (p : ℕ) → asks p n ≡ false → p ≢ n.promise
not_its n p quiet same = let clash : true ≡ false = sym (eq-eqb n.promise p (sym same)) ∙ quiet in cc

away_by : (n : Notice) (xs : List CascadeStep) → IsLeftOut xs n → (ss : List CascadeStep) → AllByRecursion (Paired xs) ss → AllByRecursion (IsAway n.promise) ss
away_by n xs out [] all = tt
away_by n xs out (settles p ∷ ss) all = (not_its n p (quiet_at n (notifies p) xs out all.0), away_by n xs out ss all.1)
away_by n xs out (notifies p ∷ ss) all = (tt, away_by n xs out ss all.1)

module _ (p : ℕ) (b : PromiseBook) (ds : List Delivery) (log : List Event) (are : AreAsked b) where
  settling_asked : (v : SettlementView) → AreAsked (settling p v b ds log).promises
  settling_asked v =
      let ss = cascade (length b.settled) b.follows p in
      let f = flowing b ds log in
      let end = all_stepped v ss f in
      all_map (λ n. (settlement_at b.settled n.promise ≡ None) × IsLeftOut ss n) (λ n. settlement_at end.settled n.promise ≡ None)
      (λ n is. steps_away v n.promise ss f (away_by n ss is.1 ss (cascade_paired (length b.settled) b.follows p)) ∙ is.0)
      end.requests (steps_quiet v (λ n. settlement_at b.settled n.promise ≡ None) ss f are)

  following_asked : (s : Option SettlementView) (q : ℕ) → AreAsked (following s p q b ds log).promises
  following_asked (Some v) q = settling_asked v
  following_asked None q = are

  resolving_to_asked : (t : Option ℕ) (v : SettlementView) → AreAsked (resolving_to t p v b ds log).promises
  resolving_to_asked None v = settling_asked v
  resolving_to_asked (Some q) v = following_asked (settlement_at b.settled q) q

  pub resolving_asked : (v : SettlementView) → AreAsked (resolving p v b ds log).promises
  resolving_asked v = resolving_to_asked (target_of v) v

-- ---- by effect

pub unsettled_made : (ss : List (Option SettlementView)) (p : ℕ) → settlement_at ss p ≡ None → p < length ss
unsettled_made [] p is = cc
unsettled_made (s ∷ ss) zero is = omega arith
unsettled_made (s ∷ ss) (suc p) is = let lt : p < length ss = unsettled_made ss p is in omega arith

still_none : (ss : List (Option SettlementView)) (s : Option SettlementView) (p : ℕ) → settlement_at ss p ≡ None → settlement_at (ss ++ s ∷ []) p ≡ None
still_none ss s p is = let lt = unsettled_made ss p is in read_before ss s no_promise p (λ (e : length ss ≡ p). absurd (omega (arith, e, lt))) ∙ is

more_asked : (b : PromiseBook) (s : Option SettlementView) → AreAsked b → AreAsked (with_promise s b)
more_asked b s are = all_map (λ (n : Notice). settlement_at b.settled n.promise ≡ None) (λ (n : Notice). settlement_at (b.settled ++ s ∷ []) n.promise ≡ None) (λ n is. still_none b.settled s n.promise is) b.requests are

asking_asked : (s : Option SettlementView) (n : Notice) (b : PromiseBook) → settlement_at b.settled n.promise ≡ s → AreAsked b → AreAsked (asking s n (with_promise None b))
asking_asked (Some v) n b e are = more_asked b None are
asking_asked None n b e are = all_push (λ (m : Notice). settlement_at (b.settled ++ None ∷ []) m.promise ≡ None) b.requests n (more_asked b None are) (still_none b.settled None n.promise e)

pub asked-after : (w : State) (e : Effect) → IsGoodWorld w → AreAsked (after w e).promises
asked-after w (offer o) good = more_asked (with_promise None w.promises) None (more_asked w.promises None good.asked)
asked-after w (empty_seat i rule) good = more_asked (with_promise (Some (ok null)) w.promises) None (more_asked w.promises (Some (ok null)) good.asked)
asked-after w (exit s cause) good = resolving_asked (pair_at w.pairs s).payouts w.promises w.waiting (w.log ++ leaving_events w s cause) good.asked (ok (payouts_tree w s))
asked-after w (resolve p v) good = resolving_asked p w.promises w.waiting w.log good.asked v
asked-after w (send i target method arguments) good = more_asked w.promises None good.asked
asked-after w (when i p function held) good = asking_asked (settlement_at w.promises.settled p) (request_of w i p function held) w.promises refl good.asked
asked-after w (start s) good = more_asked w.promises None good.asked
asked-after w _ good = good.asked
