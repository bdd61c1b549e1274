-- What the code plans passes the tests of a rearrangement: amounts agree, and no two touched seats are one.
use Rattle.std.specs.Prelude.{IfSome, flat_map, map, unwrap_or, ◌||◌, ◌^◌}
use Rattle.std.specs.List.{All, AllByRecursion, IsDistinct, list_any}
use Rattle.std.specs.Option.{option_map_or}
use Rattle.std.proofs.Common.{◌≡◌, ◌≢◌, ℕ, ◌<◌, ◌≤◌, Bool, true, false, eqb, List, [], ◌∷◌, ◌++◌, length, Option, Some, None, Ok, Err, Result, IfOk, inl, inr, refl, sym, ap, subst, ◌∙◌, arith}
use Rattle.std.proofs.lemmas.Bool.{eqb-true, false≢true, ne_eqb}
use Rattle.std.proofs.lemmas.List.Elements.{All-from_recursion, All-weaker}
use Rattle.std.proofs.lemmas.Map.Keys.{IsDistinct-cons}
use Rattle.std.proofs.lemmas.Map.Steps.{length-le_from_distinct_below}
use Rattle.refusals.specs.amount_math.Amount.{Meet}
use Rattle.rules.specs.call_arguments.Numbers.{AreApart, IsNoneOf}
use Rattle.share_transfers.proofs.rule_laws.SharesRead.{all_keywords}
use Rattle.share_transfers.proofs.rule_laws.Asked.{AreAsked, AreParts, AreValued, all_asked, all_seats_are, all_tags_are, all_valued, named_in, seats_are_named, seats_own, transfers_read}
use Rattle.share_transfers.proofs.rule_laws.Changed.{AreFitting}
use Rattle.share_transfers.proofs.rule_laws.GivenShares.{HasSlots, if_given, seat_slots}
use Rattle.share_transfers.proofs.rule_laws.Tags.{AreAgreed, IsRight, all_from, all_tags, shares_agreed, shares_right}
use Rattle.share_transfers.proofs.rule_laws.Transferring.{once_all, once_apart}
use Rattle.share_transfers.proofs.rule_laws.Working.{IsReadTransfer}
use Rattle.rules.specs.States.{allocation_of, seat_of, state_of}
use Rattle.refusals.specs.host_text.Words.{is_keyword}
use Rattle.rearrange.proofs.TestedConservation.{Named}
use Rattle.rearrange.specs.TestedPlans.{can_take_part}
use Rattle.rules.specs.proposals.Shares as shares
use Rattle.rules.specs.proposals.Shares.{most_shares}
use Rattle.rules.specs.proposals.declared.allocations.Share.{Share}
use Rattle.rules.specs.proposals.declared.plans.SeatState.{SeatState}
use Rattle.rules.specs.proposals.declared.plans.Touched.{Touched}
use Rattle.rules.specs.proposals.declared.plans.Transfer.{Transfer}
use Rattle.rearrange.specs.Seats as given
use Rattle.rearrange.specs.Seats.{seats_named}
use Rattle.rearrange.specs.Staged.{shares_of, touched_with}
use Rattle.rearrange.specs.Transfers.{HasOneBrand, amounts_for, gains_of, once, transfers_plan, worked}
use Rattle.rearrange_calls.specs.TransferStates.{AreStatesFor}
use Rattle.rearrange_calls.specs.Passed.{ArePassed}
use Rattle.rearrange_calls.specs.Met.{IsMet}
use Rattle.refusals.proofs.Steps.{after_none_such, after_wanted, ok_has}
use Rattle.rules.specs.Rearranging.{Parts, SeatShare, shares_asked, states_for, transfers_in, transfers_of}
use Rattle.share_transfers.specs.Views.{transfer_view, transfer_views}
use Rattle.share_transfers.specs.declared.values.ShareTransfer.{ShareTransfer}
use Rattle.rearrange_calls.proofs.Brands.{found_state, open_at, slots_at}
use Rattle.rearrange_calls.proofs.OneBrand.{agree_all, given_agree, given_read, one_brand}
use Rattle.rearrange_calls.proofs.Seated.{are_parts, seats_of}
use Rattle.rearrange_calls.proofs.SameStates.{one_brand_same, part_same, slots_same}
use Rattle.rearrange_calls.proofs.SettledShares.{settled_meet}
use Rattle.rearrange_calls.specs.Steps.{AreFromData}
use Rattle.share_transfers.proofs.world_laws.Lists.{all_map}
use Rattle.rules.specs.world_state.Good.{IsGoodWorld}
use Rattle.rules.specs.world_state.Known.{IsSeatOf}
use Rattle.rules.specs.world_state.Worlds.{State}

seats_same : (states : List SeatState) (has : ℕ → List Share) (ns : List ℕ) → map (λ (t : Touched). t.seat) (map (λ n. touched_with states n (has n)) ns) ≡ ns
seats_same states has [] = refl
seats_same states has (n ∷ ns) = ap (λ l. n ∷ l) (seats_same states has ns)

many_same : (states : List SeatState) (has : ℕ → List Share) (ns : List ℕ) → length (map (λ n. touched_with states n (has n)) ns) ≡ length ns
many_same states has [] = refl
many_same states has (n ∷ ns) = omega (arith, many_same states has ns)

met_all : (states : List SeatState) (has : ℕ → List Share) (ns : List ℕ) → AllByRecursion (λ n. IsMet (touched_with states n (has n))) ns → AllByRecursion IsMet (map (λ n. touched_with states n (has n)) ns)
met_all states has [] all = tt
met_all states has (n ∷ ns) all = (all.0, met_all states has ns all.1)

-- numbers below a bound, none of which stands twice, are no more than it
none_equal : (n : ℕ) (ns : List ℕ) → IsNoneOf ns n → AllByRecursion (λ m. eqb n m ≡ false) ns
none_equal n [] none = tt
none_equal n (m ∷ ms) none = (ne_eqb n m (λ same. none.0 (sym same)), none_equal n ms none.1)

distinct : (ns : List ℕ) → AreApart ns → IsDistinct eqb ns
unfolding IsDistinct
distinct [] apart = tt
distinct (n ∷ ns) apart = IsDistinct-cons eqb n ns (none_equal n ns apart.0) (distinct ns apart.1)

under : (bound : ℕ) (ns : List ℕ) → AllByRecursion (λ n. n < bound) ns → (q : ℕ) → list_any (eqb q) ns ≡ true → q < bound
under bound [] all q is = absurd (false≢true is)
under bound (n ∷ ns) all q is = by (eqb q n) refl is (under bound ns all.1 q)
  where
    by : (b : Bool) → eqb q n ≡ b → (b || list_any (eqb q) ns) ≡ true → (list_any (eqb q) ns ≡ true → q < bound) → q < bound
    by true e h later = subst (λ k. k < bound) (sym (eqb-true q n e)) all.0
    by false e h later = later h

below : (bound : ℕ) (ns : List ℕ) → AreApart ns → AllByRecursion (λ n. n < bound) ns → length ns ≤ bound
below bound ns apart all = length-le_from_distinct_below ns bound (distinct ns apart) (under bound ns all)

pub gains_apart : (w : State) (list : List ShareTransfer) → AllByRecursion (IsReadTransfer w) (transfer_views list) → All (λ (t : ShareTransfer). IfSome t.to (λ _. shares.AreApart (gains_of (transfer_view t)))) list
gains_apart w list all = All-from_recursion (λ (t : ShareTransfer). IfSome t.to (λ _. shares.AreApart (gains_of (transfer_view t)))) list (each list all)
  where
    one : (o : Option ℕ) (gains : List Share) → IfSome o (λ n. AreFitting w (allocation_of w n) gains) → IfSome o (λ _. shares.AreApart gains)
    one None gains is = tt
    one (Some n) gains is = is.apart

    each : (ts : List ShareTransfer) → AllByRecursion (IsReadTransfer w) (transfer_views ts) → AllByRecursion (λ (t : ShareTransfer). IfSome t.to (λ _. shares.AreApart (gains_of (transfer_view t)))) ts
    each [] all = tt
    each (t ∷ ts) all = (one t.to (gains_of (transfer_view t)) all.0.gains, each ts all.1)

pub passed_if : {E : Type 0} (r : Result (List Touched) E) (plan : List Touched) → IfOk r (λ p. p ≡ plan) → IfOk r (λ p. All (λ (t : Touched). length t.after ≤ most_shares) p) → ((p : List Touched) → p ≡ plan → All (λ (t : Touched). length t.after ≤ most_shares) p → ArePassed p) → IfOk r ArePassed
passed_if (Ok p) plan same small to = to p same small
passed_if (Err e) plan same small to = tt

-- ---- what was read

pub record AreMovements (w : State) (parts : List Parts) (list : List Transfer) : Type 0 where
  pub named : seats_named list ≡ flat_map named_in parts
  pub read : AllByRecursion (IsReadTransfer w) list
  pub agreed : AreAgreed (all_tags list)
  pub right : AllByRecursion (IsRight w) (all_tags list)

transfers_are : (w : State) (i k : ℕ) (parts : List Parts) → AllByRecursion (AreParts w k) parts → IfOk (transfers_in w i parts) (AreMovements w parts)
unfolding transfers_in
transfers_are w i k parts are = after_wanted _ _ _ _ (λ read at. after_none_such _ _ _ _ (λ keyed. after_none_such _ _ _ _ (λ none.
    if_given (AreMovements w parts) (transfers_of read) (λ list is.
    let shares = flat_map shares_asked read in
    let asked : AreAsked w k parts read = all_asked w k parts read are at in
    let valued : AreValued read list = ok_has _ _ list is (all_valued read) in
    let tags = all_tags_are read list valued in
    let keys = all_from (λ (s : SeatShare). s.share.keyword) (λ k. is_keyword k ≡ true) shares (all_keywords (map (λ (s : SeatShare). s.share.keyword) shares) keyed) in
    let right = shares_right w i shares keys none in
    record {
      named = all_seats_are w k parts read list asked valued;
      read = transfers_read w k parts read list asked valued right;
      agreed = subst AreAgreed (sym tags) (shares_agreed w i shares none);
      right = subst (AllByRecursion (IsRight w)) (sym tags) right;
    }))))

all_named : (ns all : List ℕ) → ((n : ℕ) → Named n ns → Named n all) → AllByRecursion (λ n. Named n all) ns
all_named [] all to = tt
all_named (n ∷ ns) all to = (to n (inl refl), all_named ns all (λ m there. to m (inr there)))

at_each : (P : ℕ → Type 0) (ns : List ℕ) (n : ℕ) → AllByRecursion P ns → Named n ns → P n
at_each P [] n all named = absurd named
at_each P (m ∷ ms) n all (inl same) = subst P same all.0
at_each P (m ∷ ms) n all (inr rest) = at_each P ms n all.1 rest

-- ---- one brand

module _ (w : State) (good : IsGoodWorld w) (i : ℕ) (states : List SeatState) (ns : List ℕ) (parts : List Parts) (input : AreFromData w parts) (named : seats_of parts ≡ Some ns) (are : AreStatesFor w ns states) (part : can_take_part i states ns ≡ Ok tt) (list : List Transfer) (reads : transfers_in w i parts ≡ Ok list) where
  own : AllByRecursion (IsSeatOf w.seats input.caller) ns
  own = seats_own w input.caller parts ns (are_parts w parts input) named

  part_at : can_take_part i (states_for w ns) ns ≡ Ok tt
  part_at = sym (part_same states (states_for w ns) are i ns) ∙ part

  transfers : AreMovements w parts list
  transfers = ok_has _ _ list reads (transfers_are w i input.caller parts (are_parts w parts input))

  names : seats_named list ≡ ns
  names = transfers.named ∙ seats_are_named parts ns named

  module _ (n : ℕ) (there : Named n ns) where
    own_seat : IsSeatOf w.seats input.caller n
    own_seat = at_each (IsSeatOf w.seats input.caller) ns n own there

    has : HasSlots w (allocation_of w n)
    has = seat_slots w good input.caller n own_seat

    abbrev held : List Share
    held = allocation_of w n ++ [] ++ (seat_of w n).proposal.want ++ (seat_of w n).proposal.give

    pool : option_map_or shares_of (given.state_of (states_for w ns) n) [] ≡ held
    unfolding state_of
    pool =
        ap (λ o. option_map_or shares_of o []) (found_state w ns n there)
        ∙ ap (λ o. unwrap_or o (allocation_of w n) ++ [] ++ (seat_of w n).proposal.want ++ (seat_of w n).proposal.give) (open_at w i ns part_at n there)

    one_at : HasOneBrand (states_for w ns) list n
    one_at =
        let slots = (good.proposed.each n own_seat.made).slots in
        let t = transfers in
        let all = one_brand w good (allocation_of w n) has (seat_of w n).proposal.want (seat_of w n).proposal.give (flat_map (amounts_for n) list) slots.want slots.give
        (given_read w n list t.read t.agreed t.right) (given_agree w n list t.read t.agreed t.right) in
        let shares = flat_map (amounts_for n) list in
        subst (λ l. All (λ r. All (λ x. x.keyword ≡ r.keyword → Meet x.amount r.amount) (l ++ shares)) (l ++ shares)) (sym pool) (agree_all (held ++ shares) (held ++ shares) all)

    slots_apart : shares.AreApart (given.allocation_of (states_for w ns) n)
    slots_apart = subst shares.AreApart (sym (slots_at w i ns part_at n there)) has.shares.apart

  pub one_brands : All (HasOneBrand states list) (seats_named list)
  one_brands =
      All-weaker (HasOneBrand (states_for w ns) list) (HasOneBrand states list) (one_brand_same states (states_for w ns) are list) (seats_named list)
      (subst (All (HasOneBrand (states_for w ns) list)) (sym names)
      (All-from_recursion (HasOneBrand (states_for w ns) list) ns
      (all_map (λ n. Named n ns) (HasOneBrand (states_for w ns) list) one_at ns (all_named ns ns (λ n there. there)))))

  pub read_each : AllByRecursion (IsReadTransfer w) list
  read_each = transfers.read

  made_each : AllByRecursion (λ n. n < length w.seats) (once (seats_named list))
  made_each = once_all (λ n. n < length w.seats) (seats_named list) (subst (AllByRecursion (λ n. n < length w.seats)) (sym names) (all_map (IsSeatOf w.seats input.caller) (λ n. n < length w.seats) (λ n is. is.made) ns own))

  met_each : AllByRecursion (λ n. IsMet (touched_with states n (worked (given.allocation_of states) list n))) (once (seats_named list))
  met_each =
      once_all (λ n. IsMet (touched_with states n (worked (given.allocation_of states) list n))) (seats_named list)
      (subst (AllByRecursion (λ n. IsMet (touched_with states n (worked (given.allocation_of states) list n)))) (sym names)
      (all_map (λ n. Named n ns) (λ n. IsMet (touched_with states n (worked (given.allocation_of states) list n)))
      (λ n there. settled_meet (given.allocation_of states n) (worked (given.allocation_of states) list n) (subst (λ (has : ℕ → List Share). shares.AreApart (has n)) (sym (slots_same states (states_for w ns) are)) (slots_apart n there)))
      ns (all_named ns ns (λ n there. there))))

  pub plan_passed : (touched : List Touched) (made : ℕ) → touched ≡ transfers_plan states list → All (λ t. length t.after ≤ most_shares) touched → made ≡ length w.seats → made < 2 ^ 32 → ArePassed touched
  plan_passed touched made plan small counted few =
      let all = once (seats_named list) in
      record {
        apart = subst AreApart (sym (ap (λ (ts : List Touched). map (λ (t : Touched). t.seat) ts) plan ∙ seats_same states (worked (given.allocation_of states) list) all)) (once_apart (seats_named list));
        met = subst (λ (ts : List Touched). All IsMet ts) (sym plan) (All-from_recursion IsMet (transfers_plan states list) (met_all states (worked (given.allocation_of states) list) all met_each));
        small = small;
        few = omega (arith, ap (λ (ts : List Touched). length ts) plan, many_same states (worked (given.allocation_of states) list) all, below (length w.seats) all (once_apart (seats_named list)) made_each, counted, few);
      }
