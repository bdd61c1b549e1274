-- Reallocating has a good rule: the seats, each once and open, are settled with what is staged of them.
use Rattle.std.specs.Prelude.{find, filter, map, option_and_then, slice_index_or, unwrap_or, ◌==◌, ◌-◌}
use Rattle.std.specs.List.{AllByRecursion, count_by, list_all}
use Rattle.std.specs.Option.{option_map_or}
use Rattle.std.proofs.Common.{◌≡◌, ◌≢◌, ℕ, zero, suc, ◌+◌, ◌<◌, ◌≤◌, Bool, true, false, cond, List, [], ◌∷◌, length, Option, Some, None, Ok, IfOk, codes, refl, sym, ap, subst, ◌∙◌, arith}
use Rattle.std.proofs.lemmas.Bool.{eq-eqb, ltb-false, ne_eqb}
use Rattle.std.proofs.lemmas.List.Sums.{sum_by-cons}
use Rattle.rules.specs.call_arguments.Arguments.{arg}
use Rattle.rules.specs.call_arguments.Numbers.{AreApart, IsNoneOf}
use Rattle.world_laws.specs.host_data.Tree.{Tree, null}
use Rattle.world_laws.specs.host_data.declared.data.ObjKind.TheVariants as kinds
use Rattle.rules.proofs.rearrange.TestedConservation.{conserved_if}
use Rattle.rules.specs.rearrange.TestedPlans.{can_take_over, first_unkept, is_small, keeps, least_unsafe, staged_changes}
use Rattle.rules.specs.proposals.OfferSafety.{IsOfferSafe}
use Rattle.rules.specs.proposals.Leasts.{least, least_of}
use Rattle.rules.specs.proposals.Shares.{most_shares}
use Rattle.rules.specs.proposals.declared.allocations.Share.{Share}
use Rattle.rules.specs.proposals.declared.plans.SeatState.{SeatState}
use Rattle.rules.specs.proposals.declared.plans.Touched.{Touched}
use Rattle.rules.specs.rearrange.Seats as given
use Rattle.rules.specs.rearrange.Seats.{has_exited, is_repeated, least_such}
use Rattle.rules.specs.rearrange.Settled.{settled}
use Rattle.rules.specs.rearrange.Staged.{shares_staged, staged_plan, touched_with}
use Rattle.rules.specs.call_arguments.Lists.{each_object}
use Rattle.world_laws.proofs.refusals.Steps.{after_check, after_known, after_step, after_wanted, need_holds, none_is, ok_has}
use Rattle.rules.specs.Rearranging.{carried_out}
use Rattle.rules.specs.Zcf.{reallocate}
use Rattle.rules.specs.States.{all_states, allocation_of, has_room, seat_of, state_of, states_from, touched_seat}
use Rattle.rules.specs.Zseat.{shares_now}
use Rattle.world_laws.proofs.Lists.{all_map}
use Rattle.world_laws.specs.world_state.Good.{IsGoodWorld}
use Rattle.world_laws.specs.world_state.Known.{IsFormed, IsSeatOf}
use Rattle.world_laws.specs.world_state.Worlds.{IsOpen, Seat, State, staged_at}
use Rattle.rules.specs.Obligations.{IsGoodOutcome, IsRule}
use Rattle.rule_laws.specs.GoodContracts.{IsGoodCall, numbered}
use Rattle.rule_laws.proofs.GivenShares.{passed, seat_in, seat_slots}
use Rattle.rule_laws.proofs.Read.{of_caller}
use Rattle.rule_laws.proofs.Rearranging.{IsSettling, IsStateOf, rearranged, safe_each, small_each, stays_open, touch_of}
use Rattle.rule_laws.proofs.Staging.{now_are}

-- ---- states of seats

found_state : (w : State) (k : ℕ) (ss : List Seat) (n : ℕ) → n < length ss → find (λ s. s.seat == k + n) (states_from w k ss) ≡ Some (state_of w (k + n))
unfolding state_of
found_state w k [] n lt = absurd (omega (arith, lt))
found_state w k (s ∷ ss) zero lt =
    let e : k ≡ k + 0 = omega arith in
    ap (λ b. cond b (Some (state_of w k)) (find (λ s. s.seat == k + 0) (states_from w (suc k) ss))) (eq-eqb k (k + 0) e) ∙ ap (λ m. Some (state_of w m)) e
found_state w k (s ∷ ss) (suc n) lt =
    let e : suc k + n ≡ k + suc n = omega arith in
    let other : k ≢ k + suc n = λ same. absurd (omega (arith, same)) in
    ap (λ b. cond b (Some (state_of w k)) (find (λ s. s.seat == k + suc n) (states_from w (suc k) ss))) (ne_eqb k (k + suc n) other)
    ∙ subst (λ m. find (λ s. s.seat == m) (states_from w (suc k) ss) ≡ Some (state_of w m)) e (found_state w (suc k) ss n (omega (arith, lt)))

pub state_there : (w : State) (n : ℕ) → n < length w.seats → given.state_of (all_states w) n ≡ Some (state_of w n)
state_there w n made = let e : 0 + n ≡ n = omega arith in subst (λ m. find (λ s. s.seat == m) (all_states w) ≡ Some (state_of w m)) e (found_state w 0 w.seats n made)

pub state_is : (w : State) (n : ℕ) → n < length w.seats → IsStateOf w (all_states w) n
unfolding state_of
state_is w n made = record { state = state_of w n; there = state_there w n made; proposal = refl; allocation = refl; is_open = refl }

-- ---- tests over seats

not_some : (n : ℕ) (o : Option ℕ) → least_of (Some n) o ≡ None → ⊥
not_some n None is = cc
not_some n (Some m) is = cc

pub none_such_each : (test : ℕ → Bool) (ns : List ℕ) → least_such test ns ≡ None → AllByRecursion (λ n. test n ≡ false) ns
none_such_each test [] is = tt
none_such_each test (n ∷ ns) is = by (test n) refl (none_such_each test ns) is
  where
    by : (b : Bool) → test n ≡ b → (least_such test ns ≡ None → AllByRecursion (λ m. test m ≡ false) ns) → least (cond b (n ∷ filter test ns) (filter test ns)) ≡ None → AllByRecursion (λ m. test m ≡ false) (n ∷ ns)
    by true e later at = absurd (not_some n (least (filter test ns)) at)
    by false e later at = (e, later at)

abbrev one_where : Bool → ℕ
one_where b = cond b 1 0

none_counted : (n : ℕ) (ns : List ℕ) → count_by (λ s. s == n) ns ≡ 0 → IsNoneOf ns n
none_counted n [] is = tt
none_counted n (m ∷ ms) is = (λ same. absurd (omega (arith, is, cons, ap one_where (eq-eqb m n same))), none_counted n ms (omega (arith, is, cons)))
  where
    cons : count_by (λ s. s == n) (m ∷ ms) ≡ cond (m == n) 1 0 + count_by (λ s. s == n) ms
    cons = sum_by-cons (λ s. cond (s == n) 1 0) m ms

once_each : (all ns : List ℕ) → ((n : ℕ) → count_by (λ s. s == n) ns ≤ count_by (λ s. s == n) all) → AllByRecursion (λ n. is_repeated all n ≡ false) ns → AreApart ns
once_each all [] fewer each = tt
once_each all (n ∷ ns) fewer each = (
  none_counted n ns (omega (arith, fewer n, cons n, ap one_where (eq-eqb n n refl), most)),
  once_each all ns (λ m. omega (arith, fewer m, cons m)) each.1,
)
  where
    cons : (m : ℕ) → count_by (λ s. s == m) (n ∷ ns) ≡ cond (n == m) 1 0 + count_by (λ s. s == m) ns
    cons m = sum_by-cons (λ s. cond (s == m) 1 0) n ns

    most : count_by (λ s. s == n) all ≤ 1
    most = ltb-false 1 (count_by (λ s. s == n) all) each.0

pub none_repeated : (ns : List ℕ) → least_such (is_repeated ns) ns ≡ None → AreApart ns
none_repeated ns is = once_each ns ns (λ n. omega arith) (none_such_each (is_repeated ns) ns is)

-- ---- seats that are given

pub seats_given : (w : State) (i : ℕ) (place : ℕ) (ts : List Tree) → AllByRecursion (λ (t : Tree). IsFormed w (Some i) t) ts → IfOk (each_object kinds.Zseat place ts) (AllByRecursion (IsSeatOf w.seats i))
seats_given w i place [] formed = tt
seats_given w i place (t ∷ ts) formed = after_wanted _ _ _ _ (λ n at. after_step _ _ _ (λ ns rest.
    (seat_in w i t n formed.0.objects at, ok_has _ _ ns rest (seats_given w i (place + 1) ts formed.1))))

-- ---- plans

pub record IsPlan (w : State) (seats : List ℕ) (touched : List Touched) : Type 0 where
  pub plan : touched ≡ staged_plan (all_states w) seats
  pub apart : AreApart seats
  pub open_each : AllByRecursion (λ n. has_exited (all_states w) n ≡ false) seats
  pub unkept : first_unkept touched ≡ None
  pub safe : least_unsafe (all_states w) touched ≡ None
  pub small : list_all is_small touched ≡ true

pub kept_is : (states : List SeatState) (touched : List Touched) → keeps states touched ≡ Ok tt → (first_unkept touched ≡ None) × ((least_unsafe states touched ≡ None) × (list_all is_small touched ≡ true))
unfolding keeps
kept_is states touched is =
    let first = passed _ _ is in
    let second = passed _ _ first.1 in
    (none_is _ _ tt first.0, (none_is _ _ tt second.0, need_holds _ _ tt second.1))

taken_over : (i : ℕ) (states : List SeatState) (seats : List ℕ) → can_take_over i states seats ≡ Ok tt → AreApart seats × AllByRecursion (λ n. has_exited states n ≡ false) seats
unfolding can_take_over
taken_over i states seats is =
    let first = passed _ _ is in
    let second = passed _ _ first.1 in
    let third = passed _ _ second.1 in
    let fourth = passed _ _ third.1 in
    (none_repeated seats (none_is _ _ tt third.0), none_such_each (has_exited states) seats (none_is _ _ tt fourth.0))

pub plan_is : (w : State) (i : ℕ) (seats : List ℕ) → IfOk (staged_changes i (all_states w) seats) (IsPlan w seats)
unfolding staged_changes
plan_is w i seats = after_known _ _ _ (λ over. after_known _ _ _ (λ kept.
    let both = taken_over i (all_states w) seats over in
    let all = kept_is (all_states w) (staged_plan (all_states w) seats) kept in
    record { plan = refl; apart = both.0; open_each = both.1; unkept = all.0; safe = all.1.0; small = all.1.1 }))

-- ---- the touched seats

pub formed_each : (w : State) (h : Option ℕ) (args : List Tree) → ((k : ℕ) → IsFormed w h (slice_index_or args k null)) → AllByRecursion (λ (t : Tree). IsFormed w h t) args
formed_each w h [] each = tt
formed_each w h (t ∷ ts) each = (each 0, formed_each w h ts (λ k. each (suc k)))

module _ (w : State) (good : IsGoodWorld w) (i : ℕ) where
  states_are : (ns : List ℕ) → AllByRecursion (IsSeatOf w.seats i) ns → AllByRecursion (IsStateOf w (all_states w)) ns
  states_are ns own = all_map (IsSeatOf w.seats i) (IsStateOf w (all_states w)) (λ n is. state_is w n is.made) ns own

  as_touched : (n : ℕ) → IsSeatOf w.seats i n → IsOpen (seat_of w n) → touched_with (all_states w) n (shares_staged (all_states w) n) ≡ touch_of w (shares_now w) n
  unfolding state_of
  as_touched n own is_open =
      ap (λ (o : Option SeatState). touched_seat n (option_map_or (λ (s : SeatState). s.allocation) o []) (settled (option_map_or (λ (s : SeatState). s.allocation) o []) (unwrap_or (option_and_then (λ (s : SeatState). s.staged) o) (option_map_or (λ (s : SeatState). s.allocation) o [])))) (state_there w n own.made)
      ∙ ap (λ (o : Option (List Share)). touched_seat n (unwrap_or o (allocation_of w n)) (settled (unwrap_or o (allocation_of w n)) (unwrap_or (staged_at w.staging n) (unwrap_or o (allocation_of w n))))) is_open

  plan_touched : (ns : List ℕ) → AllByRecursion (IsSeatOf w.seats i) ns → AllByRecursion (λ n. IsOpen (seat_of w n)) ns → staged_plan (all_states w) ns ≡ map (touch_of w (shares_now w)) ns
  plan_touched [] own are = refl
  plan_touched (n ∷ ns) own are = ap (λ t. t ∷ staged_plan (all_states w) ns) (as_touched n own.0 are.0) ∙ ap (λ ts. touch_of w (shares_now w) n ∷ ts) (plan_touched ns own.1 are.1)

  seats_open : (ns : List ℕ) → AllByRecursion (IsSeatOf w.seats i) ns → AllByRecursion (λ n. has_exited (all_states w) n ≡ false) ns → AllByRecursion (λ n. IsOpen (seat_of w n)) ns
  seats_open [] own each = tt
  seats_open (n ∷ ns) own each = (stays_open w (all_states w) n (state_is w n own.0.made) each.0, seats_open ns own.1 each.1)

  settles : (ns : List ℕ) → AllByRecursion (IsSeatOf w.seats i) ns → AllByRecursion (λ n. IsOpen (seat_of w n)) ns → AllByRecursion (λ n. length (settled (allocation_of w n) (shares_now w n)) ≤ most_shares) ns → AllByRecursion (λ n. IsOfferSafe (seat_of w n).proposal (settled (allocation_of w n) (shares_now w n))) ns → AllByRecursion (IsSettling w i (shares_now w)) ns
  settles [] own are small safe = tt
  settles (n ∷ ns) own are small safe = (
    record { own = own.0; is_open = are.0; may = now_are w good n (seat_slots w good i n own.0); small = small.0; safe = safe.0 },
    settles ns own.1 are.1 small.1 safe.1,
  )

-- ---- the rule

module _ (w : State) (good : IsGoodWorld w) (i : ℕ) (args : List Tree) (arguments : (place : ℕ) → IsFormed w (Some i) (arg place args)) where
  argument_at : (k : ℕ) → IsFormed w (Some i) (slice_index_or args k null)
  argument_at k = let e : suc k - 1 ≡ k = omega arith in subst (λ j. IsFormed w (Some i) (slice_index_or args j null)) e (arguments (suc k))

  taken_over_is : IsGoodOutcome w (Some i) (numbered kinds.Zcf i) (codes "reallocate") args (reallocate w i args)
  unfolding reallocate
  taken_over_is = after_check _ _ _ (after_step _ _ _ (λ seats at. after_step _ _ _ (λ touched planned. after_known _ _ _ (λ room.
      let states = all_states w in
      let own : AllByRecursion (IsSeatOf w.seats i) seats = ok_has _ _ seats at (seats_given w i 1 args (formed_each w (Some i) args argument_at)) in
      let plan : IsPlan w seats touched = ok_has _ _ touched planned (plan_is w i seats) in
      let are = seats_open w good i seats own plan.open_each in
      let same : touched ≡ map (touch_of w (shares_now w)) seats = plan.plan ∙ plan_touched w good i seats own are in
      let small = small_each w (shares_now w) seats (subst (λ ts. list_all is_small ts ≡ true) same plan.small) in
      let safe = safe_each w states (shares_now w) seats (states_are w good i seats own) (subst (λ ts. least_unsafe states ts ≡ None) same plan.safe) in
      let conserved = conserved_if (map (touch_of w (shares_now w)) seats) (subst (λ ts. first_unkept ts ≡ None) same plan.unkept) in
      subst (λ ts. IsRule w (Some i) (numbered kinds.Zcf i) (codes "reallocate") args null (carried_out ts)) (sym same)
      (rearranged w good i (shares_now w) seats (settles w good i seats own are small safe) (codes "reallocate") args refl refl plan.apart conserved
      (subst (λ ts. has_room w ts 0 ≡ Ok tt) same room))))))

pub reallocate_is : IsGoodCall kinds.Zcf (codes "reallocate") reallocate
reallocate_is w i n args can = of_caller w i n (codes "reallocate") args (λ k. reallocate w k args) can.target (taken_over_is w can.good i args can.arguments)
