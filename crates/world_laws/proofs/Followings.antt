-- What follows an unsettled promise isn't settled; so what a promise was settled with stays what it is.
use Rattle.std.specs.Prelude.{◌==◌}
use Rattle.std.specs.List.{AllByRecursion, flat_map}
use Rattle.std.proofs.Common.{◌≡◌, ◌⊎◌, inl, inr, ℕ, zero, suc, ◌<◌, Bool, true, false, cond, List, [], ◌∷◌, ◌++◌, Some, None, Option, length, refl, sym, ◌∙◌, ap, subst, arith, if◌then◌else◌}
use Rattle.std.proofs.lemmas.Bool.{eq-eqb, eqb-true}
use Rattle.world_state.proofs.lemmas.ListEdits.{length_push, read_before}
use Rattle.world_state.specs.actors.SeatPromises.{pair_at}
use Rattle.world_state.specs.host_data.Tree.{array, boolean, fields, function, null, number, object, text}
use Rattle.world_state.specs.host_data.declared.data.ObjKind.{ObjKind}
use Rattle.world_state.specs.host_data.declared.data.ObjKind.TheVariants as kinds
use Rattle.world_state.specs.promise_store.Linked.{IsForest, LeadsTo, followers, leader}
use Rattle.world_state.specs.promise_store.States.{SettlementView, broken, is_promise_kind, ok}
use Rattle.world_state.specs.promise_store.declared.links.Following.{Following}
use Rattle.world_state.specs.turn_records.Deliveries.{Delivery, Notice}
use Rattle.world_state.specs.turn_records.Events.{Event}
use Rattle.world_state.specs.Good.{AreFollowing, IsFollowing, IsGoodEffect, IsGoodWorld, IsSettling, one_if}
use Rattle.world_state.specs.Known.{made_as}
use Rattle.world_state.specs.Promises.{CascadeStep, IsPending, PromiseBook, WasSettled, all_stepped, asking, cascade, flowing, following, no_promise, notifies, resolving_to, settlement_at, settles, settling, target_of, with_promise}
use Rattle.world_state.specs.Rights.{slots_at}
use Rattle.world_state.specs.Worlds.{Effect, State, after, leaving_events, payouts_tree, promises_made, request_of, seat_at, empty_seat, exit, offer, resolve, send, start, when}
use Rattle.world_laws.proofs.Cascades.{Has, IsAway, has_first, has_second, steps_away, steps_settle}
use Rattle.world_laws.proofs.Growing.{all_stepped_made}
use Rattle.world_laws.proofs.Lists.{all_append, all_map}
use Rattle.world_laws.proofs.Owing.{payouts-left}

-- ---- who follows is led

led_new : (f : Following) (fs : List Following) → leader (f ∷ fs) f.promise ≡ Some f.target
led_new f fs = ap (λ b. cond b (Some f.target) (leader fs f.promise)) (eq-eqb f.promise f.promise refl)

led_before : (f : Following) (fs : List Following) (x p : ℕ) → leader fs f.promise ≡ None → leader fs x ≡ Some p → leader (f ∷ fs) x ≡ Some p
led_before f fs x p free e = by (f.promise == x) refl
  where
    by : (b : Bool) → (f.promise == x) ≡ b → cond b (Some f.target) (leader fs x) ≡ Some p
    by true same =
        let none : leader fs x ≡ None = subst (λ k. leader fs k ≡ None) (eqb-true f.promise x same) free in
        let clash : None ≡ Some p = sym none ∙ e in cc
    by false other = e

-- what follows a promise is led by it
pub followers_led : (fs : List Following) (p : ℕ) → IsForest fs → AllByRecursion (λ x. leader fs x ≡ Some p) (followers fs p)
followers_led [] p forest = tt
followers_led (f ∷ fs) p forest = by (f.target == p) refl (all_map (λ x. leader fs x ≡ Some p) (λ x. leader (f ∷ fs) x ≡ Some p) (λ x e. led_before f fs x p forest.0 e) (followers fs p) (followers_led fs p forest.2))
  where
    by : (b : Bool) → (f.target == p) ≡ b → AllByRecursion (λ x. leader (f ∷ fs) x ≡ Some p) (followers fs p) → AllByRecursion (λ x. leader (f ∷ fs) x ≡ Some p) (if b then followers fs p ++ f.promise ∷ [] else followers fs p)
    by true same all = all_append (λ x. leader (f ∷ fs) x ≡ Some p) (followers fs p) (f.promise ∷ []) all (led_new f fs ∙ ap Some (eqb-true f.target p same), tt)
    by false other all = all

pub led_made : (n : ℕ) (fs : List Following) (x q : ℕ) → AllByRecursion (IsFollowing n) fs → leader fs x ≡ Some q → (x < n) × (q < n)
led_made n [] x q all e = absurd (cc)
led_made n (f ∷ fs) x q all e = by (f.promise == x) refl e (led_made n fs x q all.1)
  where
    same_target : Some f.target ≡ Some q → f.target ≡ q
    same_target is = cc

    by : (b : Bool) → (f.promise == x) ≡ b → cond b (Some f.target) (leader fs x) ≡ Some q → (leader fs x ≡ Some q → (x < n) × (q < n)) → (x < n) × (q < n)
    by true same is to = (omega (arith, all.0.promise, eqb-true f.promise x same), omega (arith, all.0.target, same_target is))
    by false other is to = to is

-- ---- what is settled is led by what is settled

-- what a promise follows is settled too
record IsLedIn (fs : List Following) (ss : List CascadeStep) (x : ℕ) : Type 0 where
  pub target : ℕ
  pub leads : leader fs x ≡ Some target
  pub has : Has (settles target) ss

abbrev StepLed : List Following → List CascadeStep → ℕ → CascadeStep → Type 0
StepLed fs ss p (settles x) = (x ≡ p) ⊎ IsLedIn fs ss x
StepLed fs ss p (notifies x) = Unit {0}

module _ (fs : List Following) where
  led_by : (xs ys : List CascadeStep) (p q : ℕ) → leader fs q ≡ Some p → Has (settles p) ys → ((s : CascadeStep) → Has s xs → Has s ys) → (s : CascadeStep) → StepLed fs xs q s → StepLed fs ys p s
  led_by xs ys p q leads has to (settles x) (inl same) = inr (record { target = p; leads = subst (λ k. leader fs k ≡ Some p) (sym same) leads; has = has })
  led_by xs ys p q leads has to (settles x) (inr led) = inr (record { target = led.target; leads = led.leads; has = to (settles led.target) led.has })
  led_by xs ys p q leads has to (notifies x) is = tt

  flat_led : (steps : ℕ → List CascadeStep) (ys : List CascadeStep) (p : ℕ) → Has (settles p) ys → ((q : ℕ) → AllByRecursion (StepLed fs (steps q) q) (steps q)) → (qs : List ℕ) → AllByRecursion (λ q. leader fs q ≡ Some p) qs → ((s : CascadeStep) → Has s (flat_map steps qs) → Has s ys) → AllByRecursion (StepLed fs ys p) (flat_map steps qs)
  flat_led steps ys p has each [] led to = tt
  flat_led steps ys p has each (q ∷ qs) led to =
      let rest = flat_map steps qs in
      all_append (StepLed fs ys p) (steps q) rest
      (all_map (StepLed fs (steps q) q) (StepLed fs ys p) (led_by (steps q) ys p q led.0 has (λ s is. to s (has_first s (steps q) rest is))) (steps q) (each q))
      (flat_led steps ys p has each qs led.1 (λ s is. to s (has_second s (steps q) rest is)))

  cascade_led : IsForest fs → (n p : ℕ) → AllByRecursion (StepLed fs (cascade n fs p) p) (cascade n fs p)
  cascade_led forest zero p = (inl refl, (tt, tt))
  cascade_led forest (suc n) p =
      let flat = flat_map (λ q. cascade n fs q) (followers fs p) in
      let last = notifies p ∷ [] in
      let all = settles p ∷ flat ++ last in (
        inl refl,
        all_append (StepLed fs all p) flat last
            (flat_led (λ q. cascade n fs q) all p (inl refl) (λ q. cascade_led forest n q) (followers fs p) (followers_led fs p forest) (λ s is. inr (has_first s flat last is)))
            (tt, tt),
      )

pub away_from : (q : ℕ) (ss : List CascadeStep) → (Has (settles q) ss → ⊥) → AllByRecursion (IsAway q) ss
away_from q [] none = tt
away_from q (settles p ∷ ss) none = (λ e. none (inl (ap settles e)), away_from q ss (λ has. none (inr has)))
away_from q (notifies p ∷ ss) none = (tt, away_from q ss (λ has. none (inr has)))

-- ---- a cascade settles what was not settled

module _ (b : PromiseBook) (are : AreFollowing b) where
  abbrev WasUnsettled : CascadeStep → Type 0
  WasUnsettled (settles x) = settlement_at b.settled x ≡ None
  WasUnsettled (notifies x) = Unit {0}

  all_unsettled : (n : ℕ) (qs : List ℕ) → ((q : ℕ) → settlement_at b.settled q ≡ None → AllByRecursion WasUnsettled (cascade n b.follows q)) → AllByRecursion (λ q. settlement_at b.settled q ≡ None) qs → AllByRecursion WasUnsettled (flat_map (λ q. cascade n b.follows q) qs)
  all_unsettled n [] each all = tt
  all_unsettled n (q ∷ qs) each all = all_append WasUnsettled (cascade n b.follows q) (flat_map (λ x. cascade n b.follows x) qs) (each q all.0) (all_unsettled n qs each all.1)

  pub cascade_unsettled : (n p : ℕ) → settlement_at b.settled p ≡ None → AllByRecursion WasUnsettled (cascade n b.follows p)
  cascade_unsettled zero p none = (none, (tt, tt))
  cascade_unsettled (suc n) p none = (
    none,
    all_append WasUnsettled (flat_map (λ q. cascade n b.follows q) (followers b.follows p)) (notifies p ∷ [])
        (all_unsettled n (followers b.follows p) (λ q is. cascade_unsettled n q is) (all_map (λ x. leader b.follows x ≡ Some p) (λ x. settlement_at b.settled x ≡ None) (λ x e. are.unsettled x p e none) (followers b.follows p) (followers_led b.follows p are.forest)))
        (tt, tt),
  )

  settled_away : (x : ℕ) (v : SettlementView) → settlement_at b.settled x ≡ Some v → (ss : List CascadeStep) → AllByRecursion WasUnsettled ss → AllByRecursion (IsAway x) ss
  settled_away x v is [] all = tt
  settled_away x v is (settles p ∷ ss) all = (
    λ e. let clash : None ≡ Some v = sym (subst (λ k. settlement_at b.settled k ≡ None) e all.0) ∙ is in absurd (never clash),
    settled_away x v is ss all.1,
  )
    where
      never : None ≡ Some v → ⊥
      never e = cc
  settled_away x v is (notifies p ∷ ss) all = (tt, settled_away x v is ss all.1)

  module _ (p : ℕ) (pends : IsPending b p) (ds : List Delivery) (log : List Event) where
    abbrev steps : List CascadeStep
    steps = cascade (length b.settled) b.follows p

    abbrev settled_by : SettlementView → List (Option SettlementView)
    settled_by v = (all_stepped v steps (flowing b ds log)).settled

    -- what leads is in the steps where what follows it is
    not_led : (x q : ℕ) → leader b.follows x ≡ Some q → (Has (settles q) steps → ⊥) → (ss : List CascadeStep) → AllByRecursion (StepLed b.follows steps p) ss → AllByRecursion (IsAway x) ss
    not_led x q e none [] all = tt
    not_led x q e none (notifies y ∷ ss) all = (tt, not_led x q e none ss all.1)
    not_led x q e none (settles y ∷ ss) all = (λ same. by same all.0, not_led x q e none ss all.1)
      where
        alone : x ≡ p → ⊥
        alone is = let clash : None ≡ Some q = sym pends.alone ∙ subst (λ k. leader b.follows k ≡ Some q) is e in cc

        same_target : (t : ℕ) → Some t ≡ Some q → t ≡ q
        same_target t is = cc

        by : y ≡ x → (y ≡ p) ⊎ IsLedIn b.follows steps y → ⊥
        by same (inl first) = alone (sym same ∙ first)
        by same (inr led) =
            let is : led.target ≡ q = same_target led.target (sym led.leads ∙ subst (λ k. leader b.follows k ≡ Some q) (sym same) e) in
            none (subst (λ k. Has (settles k) steps) is led.has)

    still_unsettled : (v : SettlementView) (x q : ℕ) → leader b.follows x ≡ Some q → settlement_at (settled_by v) q ≡ None → settlement_at (settled_by v) x ≡ None
    still_unsettled v x q e none =
        let f = flowing b ds log in
        let not_settled : Has (settles q) steps → ⊥ = λ has. unsettled_never (settlement_at (settled_by v) q) none (steps_settle v q steps f has) in
        let was : settlement_at b.settled q ≡ None = sym (steps_away v q steps f (away_from q steps not_settled)) ∙ none in
        steps_away v x steps f (not_led x q e not_settled steps (cascade_led b.follows are.forest (length b.settled) p)) ∙ are.unsettled x q e was
      where
        unsettled_never : (o : Option SettlementView) → o ≡ None → WasSettled o → ⊥
        unsettled_never None e is = cc
        unsettled_never (Some s) e is = cc

    settling_following : (v : SettlementView) → AreFollowing (settling p v b ds log).promises
    settling_following v = record {
      forest = are.forest;
      made = all_map (IsFollowing (length b.settled)) (IsFollowing (length (settled_by v))) (λ f is. record { promise = omega (arith, is.promise, as_many v); target = omega (arith, is.target, as_many v) }) b.follows are.made;
      unsettled = still_unsettled v;
    }
      where
        as_many : (v : SettlementView) → length (settled_by v) ≡ length b.settled
        as_many v = all_stepped_made v steps (flowing b ds log)

    following_following : (s : Option SettlementView) (q : ℕ) → q < length b.settled → p < length b.settled → (LeadsTo b.follows p q → ⊥) → AreFollowing (following s p q b ds log).promises
    following_following (Some v) q made own straight = settling_following v
    following_following None q made own straight = record {
      forest = (pends.alone, straight, are.forest);
      made = (record { promise = own; target = made }, are.made);
      unsettled = λ x y e none. by x y (p == x) refl e none;
    }
      where
        by : (x y : ℕ) (t : Bool) → (p == x) ≡ t → cond t (Some q) (leader b.follows x) ≡ Some y → settlement_at b.settled y ≡ None → settlement_at b.settled x ≡ None
        by x y true same e none = subst (λ k. settlement_at b.settled k ≡ None) (eqb-true p x same) pends.unsettled
        by x y false other e none = are.unsettled x y e none

    resolving_to_following : (v : SettlementView) (t : Option ℕ) → p < length b.settled → ((q : ℕ) → t ≡ Some q → q < length b.settled) → ((q : ℕ) → t ≡ Some q → LeadsTo b.follows p q → ⊥) → AreFollowing (resolving_to t p v b ds log).promises
    resolving_to_following v None own made straight = settling_following v
    resolving_to_following v (Some q) own made straight = following_following (settlement_at b.settled q) q (made q refl) own (straight q refl)

    -- what was settled stays what it is
    settling_stays : (v : SettlementView) (x : ℕ) (u : SettlementView) → settlement_at b.settled x ≡ Some u → settlement_at (settled_by v) x ≡ Some u
    settling_stays v x u is = steps_away v x steps (flowing b ds log) (settled_away x u is steps (cascade_unsettled (length b.settled) p pends.unsettled)) ∙ is

    following_stays : (s : Option SettlementView) (q x : ℕ) (u : SettlementView) → settlement_at b.settled x ≡ Some u → settlement_at (following s p q b ds log).promises.settled x ≡ Some u
    following_stays (Some v) q x u is = settling_stays v x u is
    following_stays None q x u is = is

    resolving_to_stays : (v : SettlementView) (t : Option ℕ) (x : ℕ) (u : SettlementView) → settlement_at b.settled x ≡ Some u → settlement_at (resolving_to t p v b ds log).promises.settled x ≡ Some u
    resolving_to_stays v None x u is = settling_stays v x u is
    resolving_to_stays v (Some q) x u is = following_stays (settlement_at b.settled q) q x u is

  -- one more promise is made
  more_following : (s : Option SettlementView) → AreFollowing (with_promise s b)
  more_following s = record {
    forest = are.forest;
    made = all_map (IsFollowing (length b.settled)) (IsFollowing (length (b.settled ++ s ∷ []))) (λ f is. record { promise = omega (arith, is.promise, length_push b.settled s); target = omega (arith, is.target, length_push b.settled s) }) b.follows are.made;
    unsettled = λ x q e none.
        let made = led_made (length b.settled) b.follows x q are.made e in
        let was : settlement_at b.settled q ≡ None = sym (read_before b.settled s no_promise q (λ (f : length b.settled ≡ q). absurd (omega (arith, f, made.1)))) ∙ none in
        read_before b.settled s no_promise x (λ (f : length b.settled ≡ x). absurd (omega (arith, f, made.0))) ∙ are.unsettled x q e was;
  }

asking_following : (s : Option SettlementView) (n : Notice) (b : PromiseBook) → AreFollowing b → AreFollowing (asking s n b)
asking_following (Some v) n b are = are
asking_following None n b are = record { forest = are.forest; made = are.made; unsettled = are.unsettled }

-- ---- by effect

-- the payouts of an open seat are pending
pub pending_payouts : (w : State) (s : ℕ) → (seat_at w.seats s).last ≡ None → IsGoodWorld w → IsPending w.promises (pair_at w.pairs s).payouts
pending_payouts w s can good =
    let q = (pair_at w.pairs s).payouts in
    let one : one_if (q == q) ≡ 1 = ap one_if (eq-eqb q q refl) in
    good.owed.pending q (omega (arith, payouts-left w.seats w.pairs s (slots_at w.rights.slots s) q good.seats.paired can, one))

unsettled_below : (ss : List (Option SettlementView)) (p : ℕ) → settlement_at ss p ≡ None → p < length ss
unsettled_below [] p is = cc
unsettled_below (s ∷ ss) zero is = omega arith
unsettled_below (s ∷ ss) (suc p) is = let lt : p < length ss = unsettled_below ss p is in omega arith

-- a promise that a settlement names was made
named_made : (w : State) (k : ObjKind) (n q : ℕ) → made_as w k n → cond (is_promise_kind k) (Some n) None ≡ Some q → q < promises_made w
named_made w kinds.Promise n q made e = omega (arith, made, same e)
  where
    same : Some n ≡ Some q → n ≡ q
    same is = cc
named_made w _ n q made e = absurd (cc)

target_made : (w : State) (v : SettlementView) (q : ℕ) → IsSettling w v → target_of v ≡ Some q → q < promises_made w
target_made w (ok (object o)) q is e = named_made w o.kind o.number q is.objects e
target_made w (ok null) q is e = absurd (cc)
target_made w (ok (boolean b)) q is e = absurd (cc)
target_made w (ok (number z)) q is e = absurd (cc)
target_made w (ok (text t)) q is e = absurd (cc)
target_made w (ok (array ts)) q is e = absurd (cc)
target_made w (ok (fields fs)) q is e = absurd (cc)
target_made w (ok (function f)) q is e = absurd (cc)
target_made w (broken t) q is e = absurd (cc)

pub none_named : (q : ℕ) → None ≡ Some q → ⊥
none_named q e = cc

pub following-after : (w : State) (e : Effect) → IsGoodEffect w e → IsGoodWorld w → AreFollowing (after w e).promises
following-after w (offer o) can good = more_following (with_promise None w.promises) (more_following w.promises good.following None) None
following-after w (empty_seat i rule) can good = more_following (with_promise (Some (ok null)) w.promises) (more_following w.promises good.following (Some (ok null))) None
following-after w (exit s cause) can good =
    let pends = pending_payouts w s can good in
    resolving_to_following w.promises good.following (pair_at w.pairs s).payouts pends w.waiting (w.log ++ leaving_events w s cause) (ok (payouts_tree w s)) None
    (unsettled_below w.promises.settled (pair_at w.pairs s).payouts pends.unsettled) (λ q e. absurd (none_named q e)) (λ q e. absurd (none_named q e))
following-after w (resolve p v) can good =
    resolving_to_following w.promises good.following p can.pending w.waiting w.log v (target_of v)
    (unsettled_below w.promises.settled p can.pending.unsettled) (λ q e. target_made w v q can.handed e) can.straight
following-after w (send i target method arguments) can good = more_following w.promises good.following None
following-after w (when i p f held) can good = asking_following (settlement_at w.promises.settled p) (request_of w i p f held) (with_promise None w.promises) (more_following w.promises good.following None)
following-after w (start s) can good = more_following w.promises good.following None
following-after w _ can good = good.following

-- ---- what a promise was settled with stays

push_stays : (ss : List (Option SettlementView)) (s : Option SettlementView) (p : ℕ) (v : SettlementView) → p < length ss → settlement_at ss p ≡ Some v → settlement_at (ss ++ s ∷ []) p ≡ Some v
push_stays ss s p v lt is = read_before ss s no_promise p (λ (e : length ss ≡ p). absurd (omega (arith, e, lt))) ∙ is

asking_stays : (s : Option SettlementView) (n : Notice) (b : PromiseBook) (p : ℕ) (v : SettlementView) → settlement_at b.settled p ≡ Some v → settlement_at (asking s n b).settled p ≡ Some v
asking_stays (Some u) n b p v is = is
asking_stays None n b p v is = is

pub settled-after : (w : State) (e : Effect) (p : ℕ) (v : SettlementView) → IsGoodEffect w e → IsGoodWorld w → p < promises_made w → settlement_at w.promises.settled p ≡ Some v → settlement_at (after w e).promises.settled p ≡ Some v
settled-after w (offer o) p v can good lt is =
    let ss = w.promises.settled in
    push_stays (ss ++ None ∷ []) None p v (omega (arith, lt, length_push ss None)) (push_stays ss None p v lt is)
settled-after w (empty_seat i rule) p v can good lt is =
    let ss = w.promises.settled in
    push_stays (ss ++ Some (ok null) ∷ []) None p v (omega (arith, lt, length_push ss (Some (ok null)))) (push_stays ss (Some (ok null)) p v lt is)
settled-after w (exit s cause) p v can good lt is =
    resolving_to_stays w.promises good.following (pair_at w.pairs s).payouts (pending_payouts w s can good) w.waiting (w.log ++ leaving_events w s cause) (ok (payouts_tree w s)) None p v is
settled-after w (resolve q u) p v can good lt is = resolving_to_stays w.promises good.following q can.pending w.waiting w.log u (target_of u) p v is
settled-after w (send i target method arguments) p v can good lt is = push_stays w.promises.settled None p v lt is
settled-after w (when i q f held) p v can good lt is = asking_stays (settlement_at w.promises.settled q) (request_of w i q f held) (with_promise None w.promises) p v (push_stays w.promises.settled None p v lt is)
settled-after w (start s) p v can good lt is = push_stays w.promises.settled None p v lt is
settled-after w _ p v can good lt is = is
