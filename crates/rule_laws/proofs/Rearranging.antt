-- The rule of a rearrangement of what seats of an instance have is good, whichever shares the seats are settled with,
-- where each may be.
use Rattle.std.specs.Prelude.{flat_map, is_none, map, not, sum_by, unwrap_or}
use Rattle.std.specs.List.{AllByRecursion, filter, list_all}
use Rattle.std.specs.Option.{option_map_or}
use Rattle.std.proofs.Common.{◌≡◌, ℕ, ◌+◌, ◌<◌, ◌≤◌, Bool, true, false, cond, List, [], ◌∷◌, ◌++◌, length, Option, Some, None, Ok, inl, inr, refl, sym, ap, subst, ◌∙◌, arith}
use Rattle.std.proofs.lemmas.Bool.{and_parts, false≢true, leb-true}
use Rattle.std.proofs.lemmas.List.Sums.{sum_by-cons}
use Rattle.rules.specs.call_arguments.Numbers.{AreApart}
use Rattle.world_laws.specs.ertp_mint.Stocks.{most_made}
use Rattle.world_laws.specs.host_data.Tree.{Tree, null}
use Rattle.world_laws.specs.host_data.declared.data.Obj.{Obj}
use Rattle.world_laws.specs.host_data.declared.data.ObjKind.TheVariants as kinds
use Rattle.rules.proofs.rearrange.Slots.{safe_if}
use Rattle.rules.specs.rearrange.Moves.{by_number, moves_of, opened_at, opened_by}
use Rattle.rules.specs.rearrange.TestedPlans.{is_safe_after, is_small, least_unsafe}
use Rattle.rules.specs.rearrange.Slots.{is_safe}
use Rattle.rules.specs.proposals.OfferSafety.{IsOfferSafe}
use Rattle.rules.specs.proposals.Leasts.{least, least_of}
use Rattle.rules.specs.proposals.Shares.{most_shares}
use Rattle.rules.specs.proposals.declared.allocations.Share.{Share}
use Rattle.rules.specs.proposals.declared.plans.SeatState.{SeatState}
use Rattle.rules.specs.proposals.declared.plans.Touched.{Touched}
use Rattle.rules.specs.rearrange.Seats as given
use Rattle.rules.specs.rearrange.Seats.{has_exited}
use Rattle.rules.specs.rearrange.Settled.{settled}
use Rattle.rules.specs.rearrange.Sums.{AreConserved}
use Rattle.world_laws.proofs.refusals.Steps.{need_holds}
use Rattle.world_laws.specs.rights_model.declared.Movement.{Movement}
use Rattle.rules.specs.Rearranging.{carried_out}
use Rattle.rules.specs.States.{allocation_of, changing, has_room, last_allocation, leaves_room, seat_of, touched_seat}
use Rattle.world_laws.proofs.Lists.{all_append, all_map}
use Rattle.world_laws.specs.world_state.Good.{AreGood, CanMoveTogether, IsGoodWorld, open_slots}
use Rattle.world_laws.specs.world_state.Known.{IsSeatOf}
use Rattle.world_laws.specs.world_state.Worlds.{IsOpen, State, after, staged_at}
use Rattle.rules.specs.Acts.{MayAct}
use Rattle.rules.specs.Licence.{IsContractMove, IsStored}
use Rattle.rules.specs.Obligations.{IsRule}
use Rattle.rules.specs.Traces.{calls_in, departures_by, departures_in, movements_in, openings_by, openings_in}
use Rattle.rule_laws.proofs.Forms.{null_formed}
use Rattle.rule_laws.specs.GoodContracts.{numbered}
use Rattle.rule_laws.proofs.Carried.{IsTouch, carried, carry_together, total_many}
use Rattle.rule_laws.proofs.Changed.{MaySettle}
use Rattle.rule_laws.proofs.GivenShares.{HasSlots, passed, seat_slots}
use Rattle.rule_laws.proofs.Rearranged.{after_of, before_of, in_move, ins, out_move, outs, seats_of}
use Rattle.rule_laws.proofs.Settling.{settled_can, settled_named}
use Rattle.rule_laws.proofs.Shares.{gained, had_settled, lost, new_many, settled_many}
use Rattle.rule_laws.proofs.Sorted.{all_by_number, all_unstaged, apart_by_number, changing_good, conserved_by_number, moves_are, sum_by_number, unstaged_all}

-- ---- seats by their states

-- the state of a seat is what the world has of it, its staging aside
pub record IsStateOf (w : State) (states : List SeatState) (n : ℕ) : Type 0 where
  pub state : SeatState
  pub there : given.state_of states n ≡ Some state
  pub proposal : state.proposal ≡ (seat_of w n).proposal
  pub allocation : state.allocation ≡ last_allocation w n
  pub is_open : state.is_open ≡ is_none (seat_of w n).last

open_by : (o : Option (List Share)) → not (is_none o) ≡ false → o ≡ None
open_by None is = refl
open_by (Some shares) is = absurd (false≢true (sym is))

module _ (w : State) (states : List SeatState) (n : ℕ) (state : IsStateOf w states n) where
  pub stays_open : has_exited states n ≡ false → IsOpen (seat_of w n)
  stays_open is =
      open_by (seat_of w n).last (subst (λ b. not b ≡ false) state.is_open
      (subst (λ o. option_map_or (λ (s : SeatState). not s.is_open) o false ≡ false) state.there is))

  pub slots_there : IsOpen (seat_of w n) → given.allocation_of states n ≡ allocation_of w n
  slots_there is =
      ap (λ o. option_map_or (λ (s : SeatState). s.allocation) o []) state.there
      ∙ state.allocation
      ∙ ap (λ o. unwrap_or o (allocation_of w n)) is

-- ---- seats that are settled

abbrev pub touch_of : State → (ℕ → List Share) → ℕ → Touched
touch_of w has n = touched_seat n (allocation_of w n) (settled (allocation_of w n) (has n))

-- an open seat of the instance may be settled with its shares, has few slots then, and is safe
pub record IsSettling (w : State) (i : ℕ) (has : ℕ → List Share) (n : ℕ) : Type 0 where
  pub own : IsSeatOf w.seats i n
  pub is_open : IsOpen (seat_of w n)
  pub may : MaySettle w (allocation_of w n) (has n)
  pub small : length (settled (allocation_of w n) (has n)) ≤ most_shares
  pub safe : IsOfferSafe (seat_of w n).proposal (settled (allocation_of w n) (has n))

-- what tests of a plan say of each seat
pub small_each : (w : State) (has : ℕ → List Share) (ns : List ℕ) → list_all is_small (map (touch_of w has) ns) ≡ true → AllByRecursion (λ n. length (settled (allocation_of w n) (has n)) ≤ most_shares) ns
small_each w has [] is = tt
small_each w has (n ∷ ns) is =
    let both = and_parts (is_small (touch_of w has n)) (list_all is_small (map (touch_of w has) ns)) is in
    (leb-true (length (settled (allocation_of w n) (has n))) most_shares both.0, small_each w has ns both.1)

not_some : (n : ℕ) (o : Option ℕ) → least_of (Some n) o ≡ None → ⊥
not_some n None is = cc
not_some n (Some m) is = cc

none_unsafe : (states : List SeatState) (ts : List Touched) → least (map (λ (t : Touched). t.seat) (filter (λ t. not (is_safe_after states t)) ts)) ≡ None → AllByRecursion (λ t. is_safe_after states t ≡ true) ts
none_unsafe states [] is = tt
none_unsafe states (t ∷ ts) is = by (is_safe_after states t) refl (none_unsafe states ts) is
  where
    others : List Touched
    others = filter (λ x. not (is_safe_after states x)) ts

    by : (b : Bool) → is_safe_after states t ≡ b → (least (map (λ (x : Touched). x.seat) others) ≡ None → AllByRecursion (λ x. is_safe_after states x ≡ true) ts) → least (map (λ (x : Touched). x.seat) (cond (not b) (t ∷ others) others)) ≡ None → AllByRecursion (λ x. is_safe_after states x ≡ true) (t ∷ ts)
    by true e later at = (e, later at)
    by false e later at = absurd (not_some t.seat (least (map (λ (x : Touched). x.seat) others)) at)

module _ (w : State) (states : List SeatState) (has : ℕ → List Share) where
  safe_one : (n : ℕ) → IsStateOf w states n → is_safe_after states (touch_of w has n) ≡ true → IsOfferSafe (seat_of w n).proposal (settled (allocation_of w n) (has n))
  safe_one n state is =
      safe_if (seat_of w n).proposal (settled (allocation_of w n) (has n))
      (subst (λ p. is_safe p (settled (allocation_of w n) (has n)) ≡ true) state.proposal
      (subst (λ o. option_map_or (λ (s : SeatState). is_safe s.proposal (settled (allocation_of w n) (has n))) o true ≡ true) state.there is))

  safe_all : (ns : List ℕ) → AllByRecursion (IsStateOf w states) ns → AllByRecursion (λ t. is_safe_after states t ≡ true) (map (touch_of w has) ns) → AllByRecursion (λ n. IsOfferSafe (seat_of w n).proposal (settled (allocation_of w n) (has n))) ns
  safe_all [] state all = tt
  safe_all (n ∷ ns) state all = (safe_one n state.0 all.0, safe_all ns state.1 all.1)

  pub safe_each : (ns : List ℕ) → AllByRecursion (IsStateOf w states) ns → least_unsafe states (map (touch_of w has) ns) ≡ None → AllByRecursion (λ n. IsOfferSafe (seat_of w n).proposal (settled (allocation_of w n) (has n))) ns
  unfolding least_unsafe
  safe_each ns state is = safe_all ns state (none_unsafe states (map (touch_of w has) ns) is)

-- ---- each is one that can be carried out

abbrev Few : Touched → Type 0
Few t = length (after_of t) ≤ length t.before + opened_at t

total_few : (ts : List Touched) → AllByRecursion Few ts → total_many after_of ts ≤ total_many before_of ts + sum_by opened_at ts
total_few [] all = omega arith
total_few (t ∷ ts) all = omega (arith, all.0, total_few ts all.1, sum_by-cons opened_at t ts)

module _ (w : State) (good : IsGoodWorld w) (i : ℕ) (has : ℕ → List Share) where
  slots_of : (n : ℕ) → IsSettling w i has n → HasSlots w (allocation_of w n)
  slots_of n is = seat_slots w good i n is.own

  touch_is : (staging : List (Option (List Share))) (n : ℕ) → IsSettling w i has n → staged_at staging n ≡ None → IsTouch w.rights w.seats staging (touch_of w has n)
  touch_is staging n is none =
      let slots = slots_of n is in
      let made : n < length w.rights.slots = omega (arith, is.own.made, good.seats.slotted) in
      record {
        made = made;
        before = refl;
        ready = record { kinds = slots.of_kinds; can = settled_can w (allocation_of w n) slots (has n) is.may is.small };
        had_all = λ b e. had_settled (allocation_of w n) (has n) b e slots.shares.apart;
        is_open = is.is_open;
        named = settled_named w (allocation_of w n) slots (has n) is.may;
        unstaged = none;
        safe = is.safe;
      }

  few_more : (n : ℕ) → IsSettling w i has n → Few (touch_of w has n)
  few_more n is =
      let slots = slots_of n is in
      let cur = allocation_of w n in
      let new = settled cur (has n) in
      omega (
        arith,
        new_many w.rights.out cur slots.of_kinds new (settled_can w cur slots (has n) is.may is.small),
        settled_many cur (has n) slots.shares.apart,
      )

  each_few : (ns : List ℕ) → AllByRecursion (IsSettling w i has) ns → AllByRecursion Few (map (touch_of w has) ns)
  each_few [] all = tt
  each_few (n ∷ ns) all = (few_more n all.0, each_few ns all.1)

  each_touch : (staging : List (Option (List Share))) (ns : List ℕ) → AllByRecursion (IsSettling w i has) ns → AllByRecursion (λ (t : Touched). staged_at staging t.seat ≡ None) (map (touch_of w has) ns) → AllByRecursion (IsTouch w.rights w.seats staging) (map (touch_of w has) ns)
  each_touch staging [] all none = tt
  each_touch staging (n ∷ ns) all none = (touch_is staging n all.0 none.0, each_touch staging ns all.1 none.1)

  each_made : (ns : List ℕ) → AllByRecursion (IsSettling w i has) ns → AllByRecursion (λ (t : Touched). t.seat < length w.staging) (map (touch_of w has) ns)
  each_made [] all = tt
  each_made (n ∷ ns) all =
      let made : n < length w.staging = omega (arith, all.0.own.made, good.seats.staged) in
      (made, each_made ns all.1)

  each_own : (ns : List ℕ) → AllByRecursion (IsSettling w i has) ns → AllByRecursion (λ (t : Touched). IsSeatOf w.seats i t.seat) (map (touch_of w has) ns)
  each_own [] all = tt
  each_own (n ∷ ns) all = (all.0.own, each_own ns all.1)

  seats_same : (ns : List ℕ) → seats_of (map (touch_of w has) ns) ≡ ns
  seats_same [] = refl
  seats_same (n ∷ ns) = ap (λ l. n ∷ l) (seats_same ns)

-- ---- what the effects leave behind

module _ (ms : List Movement) where
  left_by : (ns : List ℕ) → departures_in (changing ns ms) ≡ []
  left_by [] = refl
  left_by (n ∷ ns) = left_by ns

  opened_none : (ns : List ℕ) → openings_in (changing ns ms) ≡ 0
  opened_none [] = refl
  opened_none (n ∷ ns) = opened_none ns

  moved_by : (ns : List ℕ) → movements_in (changing ns ms) ≡ ms ++ []
  moved_by [] = refl
  moved_by (n ∷ ns) = moved_by ns

  called_by : (ns : List ℕ) → calls_in (changing ns ms) ≡ 0
  called_by [] = refl
  called_by (n ∷ ns) = called_by ns

  acts_by : (w : State) (i : ℕ) (o : Obj) (m : List ℕ) (ns : List ℕ) → AllByRecursion (IsSeatOf w.seats i) ns → AllByRecursion (MayAct w (Some i) o m) (changing ns ms)
  acts_by w i o m [] own = (tt, tt)
  acts_by w i o m (n ∷ ns) own = (own.0, acts_by w i o m ns own.1)

-- ---- what the movements are

module _ (w : State) (i : ℕ) (o : Obj) (m : List ℕ) (args : List Tree) where
  -- between slots of the instance and the hand
  abbrev IsInside : Movement → Type 0
  IsInside move = IsContractMove w i o m args move × IsStored move

  outs_inside : (s : ℕ) (shares : List Share) → IsSeatOf w.seats i s → AllByRecursion IsInside (map (out_move s) shares)
  outs_inside s [] own = tt
  outs_inside s (x ∷ xs) own = ((record { takes = own; gives = tt }, inl tt), outs_inside s xs own)

  ins_inside : (s : ℕ) (shares : List Share) → IsSeatOf w.seats i s → AllByRecursion IsInside (map (in_move s) shares)
  ins_inside s [] own = tt
  ins_inside s (x ∷ xs) own = ((record { takes = tt; gives = own }, inr tt), ins_inside s xs own)

  all_outs_inside : (ts : List Touched) → AllByRecursion (λ (t : Touched). IsSeatOf w.seats i t.seat) ts → AllByRecursion IsInside (flat_map outs ts)
  all_outs_inside [] own = tt
  all_outs_inside (t ∷ ts) own = all_append IsInside (outs t) (flat_map outs ts) (outs_inside t.seat (lost t.before t.after) own.0) (all_outs_inside ts own.1)

  all_ins_inside : (ts : List Touched) → AllByRecursion (λ (t : Touched). IsSeatOf w.seats i t.seat) ts → AllByRecursion IsInside (flat_map ins ts)
  all_ins_inside [] own = tt
  all_ins_inside (t ∷ ts) own = all_append IsInside (ins t) (flat_map ins ts) (ins_inside t.seat (gained t.before t.after) own.0) (all_ins_inside ts own.1)

  carried_inside : (ts : List Touched) → AllByRecursion (λ (t : Touched). IsSeatOf w.seats i t.seat) ts → AllByRecursion IsInside (carried ts)
  carried_inside ts own = all_append IsInside (flat_map outs ts) (flat_map ins ts) (all_outs_inside ts own) (all_ins_inside ts own)

-- ---- the rule

module _ (w : State) (good : IsGoodWorld w) (i : ℕ) (has : ℕ → List Share) (ns : List ℕ) (all : AllByRecursion (IsSettling w i has) ns) where
  abbrev touched : List Touched
  touched = map (touch_of w has) ns

  abbrev unstaged : List (Option (List Share))
  unstaged = unstaged_all (seats_of touched) w.staging

  room_left : has_room w touched 0 ≡ Ok tt → length w.rights.payments + open_slots w.seats w.rights.slots + opened_by touched ≤ most_made
  unfolding has_room leaves_room
  room_left is = let both = passed _ _ is in omega (arith, leb-true _ most_made (need_holds _ _ tt both.1))

  effects_good : AreApart ns → AreConserved touched → has_room w touched 0 ≡ Ok tt → AreGood w (carried_out touched)
  effects_good apart conserved room =
      changing_good (seats_of touched) w (moves_of touched)
      (subst (CanMoveTogether w.rights w.seats unstaged) (sym (moves_are touched))
      (carry_together w.rights w.seats unstaged (by_number touched)
      (all_by_number (IsTouch w.rights w.seats unstaged) touched (each_touch w good i has unstaged ns all (all_unstaged touched w.staging (each_made w good i has ns all))))
      (apart_by_number touched (subst AreApart (sym (seats_same w good i has ns)) apart))
      (conserved_by_number touched conserved)
      (omega (
        arith,
        room_left room,
        total_few (by_number touched) (all_by_number Few touched (each_few w good i has ns all)),
        sum_by_number opened_at touched,
      ))))

  module _ (m : List ℕ) (args : List Tree) where
    abbrev zcf : Obj
    zcf = numbered kinds.Zcf i

    inside : AllByRecursion (IsInside w i zcf m args) (moves_of touched ++ [])
    inside = all_append (IsInside w i zcf m args) (moves_of touched) []
        (subst (AllByRecursion (IsInside w i zcf m args)) (sym (moves_are touched))
        (carried_inside w i zcf m args (by_number touched) (all_by_number (λ (t : Touched). IsSeatOf w.seats i t.seat) touched (each_own w good i has ns all))))
        tt

    moves_inside : AllByRecursion (IsInside w i zcf m args) (movements_in (carried_out touched))
    moves_inside = subst (AllByRecursion (IsInside w i zcf m args)) (sym (moved_by (moves_of touched) (seats_of touched))) inside

    pub rearranged : departures_by w zcf m ≡ [] → openings_by zcf m ≡ 0 → AreApart ns → AreConserved touched → has_room w touched 0 ≡ Ok tt → IsRule w (Some i) zcf m args null (carried_out touched)
    rearranged leaves opens apart conserved room =
        let ms = moves_of touched in
        let seats = seats_of touched in
        let own : AllByRecursion (IsSeatOf w.seats i) seats = subst (AllByRecursion (IsSeatOf w.seats i)) (sym (seats_same w good i has ns)) (all_map (IsSettling w i has) (IsSeatOf w.seats i) (λ n is. is.own) ns all) in
        record {
          good = effects_good apart conserved room;
          known = null_formed _ (Some i);
          leaves = left_by ms seats ∙ sym leaves;
          opens = opened_none ms seats ∙ sym opens;
          acts = acts_by ms w i zcf m seats own;
          licensed = all_map (IsInside w i zcf m args) (IsContractMove w i zcf m args) (λ move is. is.0) (movements_in (carried_out touched)) moves_inside;
          stored = all_map (IsInside w i zcf m args) IsStored (λ move is. is.1) (movements_in (carried_out touched)) moves_inside;
          calls = subst (λ k. k ≤ 1) (sym (called_by ms seats)) (omega arith);
        }
