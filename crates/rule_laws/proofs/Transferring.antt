-- Rearranging by transfers has a good rule: each seat that is named is settled with what it has once they are worked.
use Rattle.std.specs.Prelude.{flat_map, map, ◌==◌}
use Rattle.std.specs.List.{AllByRecursion, fold, list_all, list_any}
use Rattle.std.proofs.Common.{◌≡◌, ◌≢◌, ℕ, Bool, true, false, cond, List, [], ◌∷◌, ◌++◌, length, ◌≤◌, Some, None, Ok, IfOk, codes, inl, inr, refl, sym, ap, subst, ◌∙◌}
use Rattle.std.proofs.lemmas.Bool.{eq-eqb, eqb-true, false≢true}
use Rattle.rules.specs.call_arguments.Arguments.{arg, list_at, object_in}
use Rattle.rules.specs.call_arguments.Numbers.{AreApart, IsNoneOf}
use Rattle.world_laws.specs.host_data.Amounts.{read_all}
use Rattle.world_laws.specs.host_text.Words.{is_keyword}
use Rattle.world_laws.specs.host_data.Tree.{Tree, list_of, null}
use Rattle.world_laws.specs.host_data.declared.data.ObjKind.TheVariants as kinds
use Rattle.rules.proofs.rearrange.TestedConservation.{Named, conserved_if}
use Rattle.rules.specs.rearrange.TestedPlans.{can_take_part, can_work, first_unkept, is_small, least_unsafe, transfer_changes}
use Rattle.rules.specs.proposals.OfferSafety.{IsOfferSafe}
use Rattle.rules.specs.proposals.Shares.{most_shares}
use Rattle.rules.specs.proposals.declared.allocations.Share.{Share}
use Rattle.rules.specs.proposals.declared.plans.SeatState.{SeatState}
use Rattle.rules.specs.proposals.declared.plans.Touched.{Touched}
use Rattle.rules.specs.proposals.declared.plans.Transfer.{Transfer}
use Rattle.rules.specs.rearrange.Seats as given
use Rattle.rules.specs.rearrange.Seats.{has_exited, seats_named}
use Rattle.rules.specs.rearrange.Settled.{settled}
use Rattle.rules.specs.rearrange.Staged.{touched_with}
use Rattle.rules.specs.rearrange.Transfers.{once, transfers_plan, with_seat, worked}
use Rattle.rules.specs.call_arguments.Lists.{objects_in}
use Rattle.world_laws.proofs.refusals.Steps.{after_check, after_known, after_none_such, after_step, after_wanted, none_is, ok_has, wanted_there}
use Rattle.rules.specs.Rearranging.{Parts, SeatShare, carried_out, shares_asked, seat_trees, states_for, transfers_in, transfers_of}
use Rattle.rules.specs.Zcf.{atomic_rearrange}
use Rattle.rules.specs.States.{allocation_of, has_room, seat_of, state_of, touched_seat, unstaged}
use Rattle.world_laws.proofs.Lists.{all_map}
use Rattle.world_laws.specs.world_state.Good.{IsGoodWorld}
use Rattle.world_laws.specs.world_state.Known.{IsFormed, IsSeatOf}
use Rattle.world_laws.specs.world_state.Worlds.{IsOpen, State}
use Rattle.rules.specs.Obligations.{IsGoodOutcome, IsRule}
use Rattle.rule_laws.proofs.SharesRead.{all_keywords}
use Rattle.rule_laws.specs.GoodContracts.{IsGoodCall, numbered}
use Rattle.rule_laws.proofs.Asked.{AreAsked, AreParts, AreValued, all_asked, all_seats_are, all_tags_are, all_valued, named_in, parts_read, seats_are_named, seats_own, transfers_read}
use Rattle.rule_laws.proofs.Changed.{MaySettle, slots_may}
use Rattle.rule_laws.proofs.GivenShares.{OfBrand, if_given, neither, passed, seat_slots}
use Rattle.rule_laws.proofs.Read.{of_caller}
use Rattle.rule_laws.proofs.Reallocating.{kept_is, none_such_each}
use Rattle.rule_laws.proofs.Rearranging.{IsSettling, IsStateOf, rearranged, safe_each, slots_there, small_each, stays_open, touch_of}
use Rattle.rule_laws.proofs.Tags.{AreAgreed, IsRight, Tag, all_from, all_tags, shares_agreed, shares_right}
use Rattle.rule_laws.proofs.Working.{IsReadTransfer, works}

-- ---- seats, each once

none_pushed : (ns : List ℕ) (n m : ℕ) → IsNoneOf ns n → m ≢ n → IsNoneOf (ns ++ m ∷ []) n
none_pushed [] n m none other = (other, tt)
none_pushed (k ∷ ks) n m none other = (none.0, none_pushed ks n m none.1 other)

unlike : (m n : ℕ) → (m == n) ≡ false → m ≢ n
unlike m n is same = absurd (false≢true (sym is ∙ eq-eqb m n same))

apart_pushed : (ns : List ℕ) (n : ℕ) → list_any (λ m. m == n) ns ≡ false → AreApart ns → AreApart (ns ++ n ∷ [])
apart_pushed [] n none apart = (tt, tt)
apart_pushed (m ∷ ms) n none apart =
    let both = neither (m == n) (list_any (λ k. k == n) ms) none in
    (none_pushed ms m n apart.0 (λ same. unlike m n both.0 (sym same)), apart_pushed ms n both.1 apart.1)

with_apart : (ns : List ℕ) (n : ℕ) → AreApart ns → AreApart (with_seat ns n)
with_apart ns n apart = by (list_any (λ m. m == n) ns) refl
  where
    by : (b : Bool) → list_any (λ m. m == n) ns ≡ b → AreApart (cond b ns (ns ++ n ∷ []))
    by true e = apart
    by false e = apart_pushed ns n e apart

folded_apart : (before ns : List ℕ) → AreApart before → AreApart (fold with_seat before ns)
folded_apart before [] apart = apart
folded_apart before (n ∷ ns) apart = folded_apart (with_seat before n) ns (with_apart before n apart)

pub once_apart : (ns : List ℕ) → AreApart (once ns)
once_apart ns = folded_apart [] ns tt

module _ (P : ℕ → Type 0) where
  all_pushed : (ns : List ℕ) (n : ℕ) → AllByRecursion P ns → P n → AllByRecursion P (ns ++ n ∷ [])
  all_pushed [] n all one = (one, tt)
  all_pushed (m ∷ ms) n all one = (all.0, all_pushed ms n all.1 one)

  with_all : (ns : List ℕ) (n : ℕ) → AllByRecursion P ns → P n → AllByRecursion P (with_seat ns n)
  with_all ns n all one = by (list_any (λ m. m == n) ns)
    where
      by : (b : Bool) → AllByRecursion P (cond b ns (ns ++ n ∷ []))
      by true = all
      by false = all_pushed ns n all one

  folded_all : (before ns : List ℕ) → AllByRecursion P before → AllByRecursion P ns → AllByRecursion P (fold with_seat before ns)
  folded_all before [] all more = all
  folded_all before (n ∷ ns) all more = folded_all (with_seat before n) ns (with_all before n all more.0) more.1

  pub once_all : (ns : List ℕ) → AllByRecursion P ns → AllByRecursion P (once ns)
  once_all ns all = folded_all [] ns tt all

-- ---- the states of the seats that are given

found_state : (w : State) (ns : List ℕ) (n : ℕ) → Named n ns → given.state_of (states_for w ns) n ≡ Some (unstaged (state_of w n))
unfolding state_of
found_state w [] n named = absurd named
found_state w (m ∷ ms) n named = by (m == n) refl named (found_state w ms n)
  where
    by : (b : Bool) → (m == n) ≡ b → Named n (m ∷ ms) → (Named n ms → given.state_of (states_for w ms) n ≡ Some (unstaged (state_of w n))) → cond b (Some (unstaged (state_of w m))) (given.state_of (states_for w ms) n) ≡ Some (unstaged (state_of w n))
    by true e there later = ap (λ k. Some (unstaged (state_of w k))) (eqb-true m n e)
    by false e (inl same) later = absurd (unlike m n e same)
    by false e (inr rest) later = later rest

state_given : (w : State) (ns : List ℕ) (n : ℕ) → Named n ns → IsStateOf w (states_for w ns) n
unfolding state_of
state_given w ns n named = record { state = unstaged (state_of w n); there = found_state w ns n named; proposal = refl; allocation = refl; is_open = refl }

each_named : (ns all : List ℕ) → ((n : ℕ) → Named n ns → Named n all) → AllByRecursion (λ n. Named n all) ns
each_named [] all to = tt
each_named (n ∷ ns) all to = (to n (inl refl), each_named ns all (λ m there. to m (inr there)))

states_given : (w : State) (ns : List ℕ) → AllByRecursion (IsStateOf w (states_for w ns)) ns
states_given w ns = all_map (λ n. Named n ns) (IsStateOf w (states_for w ns)) (state_given w ns) ns (each_named ns ns (λ n there. there))

-- ---- what was read

-- seats that take part: each of the instance, with its state, and open
record IsPartaker (w : State) (i : ℕ) (states : List SeatState) (n : ℕ) : Type 0 where
  own : IsSeatOf w.seats i n
  state : IsStateOf w states n
  is_open : IsOpen (seat_of w n)

partakers : (w : State) (i : ℕ) (states : List SeatState) (ns : List ℕ) → AllByRecursion (IsSeatOf w.seats i) ns → AllByRecursion (IsStateOf w states) ns → AllByRecursion (λ n. has_exited states n ≡ false) ns → AllByRecursion (IsPartaker w i states) ns
partakers w i states [] own state stay = tt
partakers w i states (n ∷ ns) own state stay = (
  record { own = own.0; state = state.0; is_open = stays_open w states n state.0 stay.0 },
  partakers w i states ns own.1 state.1 stay.1,
)

none_exited : (i : ℕ) (states : List SeatState) (ns : List ℕ) → can_take_part i states ns ≡ Ok tt → AllByRecursion (λ n. has_exited states n ≡ false) ns
unfolding can_take_part
none_exited i states ns is = none_such_each (has_exited states) ns (none_is _ _ tt (passed _ _ is).1)

-- transfers that are read: of which seats, and what their records are
record AreMovements (w : State) (parts : List Parts) (list : List Transfer) : Type 0 where
  named : seats_named list ≡ flat_map named_in parts
  read : AllByRecursion (IsReadTransfer w) list
  agreed : AreAgreed (all_tags list)
  right : AllByRecursion (IsRight w) (all_tags list)

transfers_are : (w : State) (i : ℕ) (parts : List Parts) → AllByRecursion (AreParts w i) parts → IfOk (transfers_in w i parts) (AreMovements w parts)
unfolding transfers_in
transfers_are w i parts are = after_wanted _ _ _ _ (λ read at. after_none_such _ _ _ _ (λ keyed. after_none_such _ _ _ _ (λ none.
    if_given (AreMovements w parts) (transfers_of read) (λ list is.
    let shares = flat_map shares_asked read in
    let asked : AreAsked w i parts read = all_asked w i parts read are at in
    let valued : AreValued read list = ok_has _ _ list is (all_valued read) in
    let tags = all_tags_are read list valued in
    let keys = all_from (λ (s : SeatShare). s.share.keyword) (λ k. is_keyword k ≡ true) shares (all_keywords (map (λ (s : SeatShare). s.share.keyword) shares) keyed) in
    let right = shares_right w i shares keys none in
    record {
      named = all_seats_are w i parts read list asked valued;
      read = transfers_read w i parts read list asked valued right;
      agreed = subst AreAgreed (sym tags) (shares_agreed w i shares none);
      right = subst (AllByRecursion (IsRight w)) (sym tags) right;
    }))))

-- ---- what each seat has once they are worked

own_tags : (w : State) (n : ℕ) (tags : List Tag) → AllByRecursion (IsRight w) tags → AllByRecursion (λ (t : Tag). t.seat ≡ n → OfBrand (allocation_of w n) t.keyword t.brand) tags
own_tags w n tags right = all_map (IsRight w) (λ (t : Tag). t.seat ≡ n → OfBrand (allocation_of w n) t.keyword t.brand) (λ t is same. subst (λ k. OfBrand (allocation_of w k) t.keyword t.brand) same is.of_slot) tags right

module _ (w : State) (good : IsGoodWorld w) (i : ℕ) (states : List SeatState) (parts : List Parts) (list : List Transfer) (are : AreMovements w parts list) (can : can_work (given.allocation_of states) list ≡ Ok tt) where
  abbrev has : ℕ → List Share
  has = worked (given.allocation_of states) list

  abbrev Agreeing : ℕ → List Share → Type 0
  Agreeing n shares = AllByRecursion (λ (t : Tag). t.seat ≡ n → OfBrand shares t.keyword t.brand) (all_tags list)

  seat_settles : (n : ℕ) → IsPartaker w i states n → length (settled (allocation_of w n) (has n)) ≤ most_shares → IsOfferSafe (seat_of w n).proposal (settled (allocation_of w n) (has n)) → IsSettling w i has n
  seat_settles n takes small safe =
      let same = slots_there w states n takes.state takes.is_open in
      let slots = seat_slots w good i n takes.own in
      record {
        own = takes.own;
        is_open = takes.is_open;
        may = works w good n list (given.allocation_of states) are.read are.agreed can
            (record {
              may = subst (MaySettle w (allocation_of w n)) (sym same) (slots_may w (allocation_of w n) slots);
              agrees = subst (Agreeing n) (sym same) (own_tags w n (all_tags list) are.right);
            });
        small = small;
        safe = safe;
      }

  seats_settle : (ns : List ℕ) → AllByRecursion (IsPartaker w i states) ns → AllByRecursion (λ n. length (settled (allocation_of w n) (has n)) ≤ most_shares) ns → AllByRecursion (λ n. IsOfferSafe (seat_of w n).proposal (settled (allocation_of w n) (has n))) ns → AllByRecursion (IsSettling w i has) ns
  seats_settle [] takes small safe = tt
  seats_settle (n ∷ ns) takes small safe = (seat_settles n takes.0 small.0 safe.0, seats_settle ns takes.1 small.1 safe.1)

  touched_same : (ns : List ℕ) → AllByRecursion (IsPartaker w i states) ns → map (λ n. touched_with states n (has n)) ns ≡ map (touch_of w has) ns
  touched_same [] takes = refl
  touched_same (n ∷ ns) takes =
      ap (λ slots. touched_seat n slots (settled slots (has n)) ∷ map (λ m. touched_with states m (has m)) ns) (slots_there w states n takes.0.state takes.0.is_open)
      ∙ ap (λ ts. touch_of w has n ∷ ts) (touched_same ns takes.1)

-- ---- the rule

record IsPlan (states : List SeatState) (list : List Transfer) (touched : List Touched) : Type 0 where
  plan : touched ≡ transfers_plan states list
  work : can_work (given.allocation_of states) list ≡ Ok tt
  unkept : first_unkept touched ≡ None
  safe : least_unsafe states touched ≡ None
  small : list_all is_small touched ≡ true

plan_is : (states : List SeatState) (list : List Transfer) → IfOk (transfer_changes states list) (IsPlan states list)
unfolding transfer_changes
plan_is states list = after_known _ _ _ (λ work. after_known _ _ _ (λ kept.
    let all = kept_is states (transfers_plan states list) kept in
    record { plan = refl; work = work; unkept = all.0; safe = all.1.0; small = all.1.1 }))

objects_are : (items : List Tree) (seats : List ℕ) → objects_in kinds.Zseat 1 items ≡ Ok seats → read_all (object_in kinds.Zseat) items ≡ Some seats
unfolding objects_in
objects_are items seats is = wanted_there (read_all (object_in kinds.Zseat) items) _ seats is

list_is : (args items : List Tree) → list_at 1 args ≡ Ok items → list_of (arg 1 args) ≡ Some items
unfolding list_at
list_is args items is = wanted_there (list_of (arg 1 args)) _ items is

module _ (w : State) (good : IsGoodWorld w) (i : ℕ) (args : List Tree) (formed : IsFormed w (Some i) (arg 1 args)) where
  worked_is : IsGoodOutcome w (Some i) (numbered kinds.Zcf i) (codes "atomicRearrange") args (atomic_rearrange w i args)
  unfolding atomic_rearrange
  worked_is = after_check _ _ _ (after_step _ _ _ (λ items listed. after_wanted _ _ _ _ (λ parts whole. after_step _ _ _ (λ seats at. after_known _ _ _ (λ part. after_step _ _ _ (λ list reads. after_step _ _ _ (λ touched planned. after_known _ _ _ (λ room.
      let states = states_for w seats in
      let are : AllByRecursion (AreParts w i) parts = parts_read w i (arg 1 args) items parts formed.objects formed.ordered (list_is args items listed) whole in
      let trees = objects_are (seat_trees parts) seats at in
      let transfers : AreMovements w parts list = ok_has _ _ list reads (transfers_are w i parts are) in
      let plan : IsPlan states list touched = ok_has _ _ touched planned (plan_is states list) in
      let named : seats ≡ seats_named list = sym (transfers.named ∙ seats_are_named parts seats trees) in
      let given_all = partakers w i states seats (seats_own w i parts seats are trees) (states_given w seats) (none_exited i states seats part) in
      let ns = once (seats_named list) in
      let takes : AllByRecursion (IsPartaker w i states) ns = once_all (IsPartaker w i states) (seats_named list) (subst (AllByRecursion (IsPartaker w i states)) named given_all) in
      let has = worked (given.allocation_of states) list in
      let same : touched ≡ map (touch_of w has) ns = plan.plan ∙ touched_same w good i states parts list transfers plan.work ns takes in
      let small = small_each w has ns (subst (λ ts. list_all is_small ts ≡ true) same plan.small) in
      let safe = safe_each w states has ns (all_map (IsPartaker w i states) (IsStateOf w states) (λ n is. is.state) ns takes) (subst (λ ts. least_unsafe states ts ≡ None) same plan.safe) in
      let conserved = conserved_if (map (touch_of w has) ns) (subst (λ ts. first_unkept ts ≡ None) same plan.unkept) in
      subst (λ ts. IsRule w (Some i) (numbered kinds.Zcf i) (codes "atomicRearrange") args null (carried_out ts)) (sym same)
      (rearranged w good i has ns (seats_settle w good i states parts list transfers plan.work ns takes small safe) (codes "atomicRearrange") args refl refl (once_apart (seats_named list)) conserved
      (subst (λ ts. has_room w ts 0 ≡ Ok tt) same room))))))))))

pub rearrange_is : IsGoodCall kinds.Zcf (codes "atomicRearrange") atomic_rearrange
rearrange_is w i n args can = of_caller w i n (codes "atomicRearrange") args (λ k. atomic_rearrange w k args) can.target (worked_is w can.good i args (can.arguments 1))
