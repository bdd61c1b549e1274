-- A call of an instance's function shows what it does: its row shows the causes of the seats that it leaves, an empty
-- seat stands right behind it, and a facet that is made is named by it.
use Rattle.std.specs.Prelude.{◌⊎◌, decimal, ◌≡◌, ◌+◌, ◌-◌, ◌^◌, ◌<◌, ◌++◌, ◌&&◌, ◌||◌, ℕ, Bool, true, false, cond, List, [], ◌∷◌, Option, Some, Ok, Err, IfOk, codes, is_some, length, map, refl, unwrap_or}
use Rattle.std.specs.List.{AllByRecursion, slice_get}
use Rattle.std.specs.Str.{bytes_eq}
use Rattle.std.proofs.Common.{inl, inr, sym, ◌∙◌, ap, subst, arith}
use Rattle.delivery_laws.specs.call_arguments.Arguments.{arg}
use Rattle.delivery_laws.proofs.rule_laws.Forms.{null_formed}
use Rattle.delivery_laws.proofs.rule_laws.Next.{after_next_of}
use Rattle.delivery_laws.specs.rules.Acts.{MayAct}
use Rattle.delivery_laws.specs.rules.Licence.{IsStored}
use Rattle.delivery_laws.specs.rules.Obligations.{CanCall, IsRule}
use Rattle.delivery_laws.specs.rules.Outcomes.{Outcome}
use Rattle.delivery_laws.specs.rules.Traces.{Departure, all_halted, all_open, departure, departures_by, departures_in, movements_in, one_left, openings_by, openings_in}
use Rattle.delivery_laws.specs.rules.Words.{runs}
use Rattle.delivery_laws.proofs.rule_laws.OpenSeats.{all_own}
use Rattle.delivery_laws.specs.turn_records.Names.{object_name}
use Rattle.delivery_laws.specs.Works.{AreGoodHostCalls}
use Rattle.delivery_laws.proofs.Asking.{all_have}
use Rattle.delivery_laws.proofs.Logs.{all_good_untold}
use Rattle.delivery_laws.proofs.Replies.{call_is}
use Rattle.delivery_laws.specs.delivery_turns.HostCalls.{call_effects, told_call, told_effects}
use Rattle.delivery_laws.specs.rules.PromisesAndFacets.{far_rule, send_rule, when_rule}
use Rattle.delivery_laws.specs.ertp_mint.Stocks.{most_made}
use Rattle.delivery_laws.specs.call_arguments.Exits as exits
use Rattle.fair_laws.specs.Owed.{AreUncalled, HasCause, HaveCauses, IsNoUserSeat, IsUncalled, Owes, ShowsNothing, answered, cause_shown}
use Rattle.fair_laws.specs.Owed as owed
use Rattle.fair_laws.proofs.CauseCalls.{owes_called}
use Rattle.fair_laws.proofs.Others.{owes_nothing_more}
use Rattle.fair_laws.proofs.Owing.{causes, owes_none}
use Rattle.fair_laws.specs.Accounts.{AreStoredEffects}
use Rattle.fair_laws.specs.Places.{place_of, rows_of, seat_told, seats_told}
use Rattle.fair_laws.specs.ShownEffects.{AreShown}
use Rattle.fair_laws.proofs.Rows.{rows_append}
use Rattle.fair_rows.specs.Acts.{IsAnsweredCall}
use Rattle.fair_rows.specs.Strict.{IsShownByCalls}
use Rattle.fair_rows.specs.Seats as told
use Rattle.delivery_laws.specs.actors.Facets.{FacetView}
use Rattle.fair_rows.specs.ExitCauses.{Owners, calls, cause_by_calls, facets_at, name, while_open}
use Rattle.fair_rows.specs.Rows.{is_offer}
use Rattle.delivery_laws.specs.jessie_semantics.Keeping.{CallHas}
use Rattle.delivery_laws.specs.jessie_semantics.Play.{Call, call, far, send, when}
use Rattle.delivery_laws.specs.host_data.Tree as trees
use Rattle.delivery_laws.specs.host_data.Tree.{Tree}
use Rattle.delivery_laws.specs.host_data.declared.data.Obj.{Obj}
use Rattle.delivery_laws.specs.host_data.declared.data.ObjKind.{ObjKind}
use Rattle.delivery_laws.specs.host_data.declared.data.ObjKind.TheVariants as kinds
use Rattle.delivery_laws.specs.host_data.Values.{object_tree}
use Rattle.delivery_laws.specs.proposals.declared.offers.Exit.{Exit}
use Rattle.delivery_laws.specs.refusals.Codes.{limit}
use Rattle.delivery_laws.specs.refusals.declared.codes.Refusal.{Refusal}
use Rattle.delivery_laws.proofs.refusals.Steps.{after_check, after_need, after_step, ok_has}
use Rattle.serde_json.specs.Data as json
use Rattle.delivery_laws.specs.rules.Zcf.{make_empty_seat_kit}
use Rattle.delivery_laws.specs.rules.Methods as methods
use Rattle.delivery_laws.specs.rules.Methods.{serve_own}
use Rattle.delivery_laws.specs.turn_records.Events as events
use Rattle.delivery_laws.specs.turn_records.Printed.{named, object, printed_call}
use Rattle.fair_rows.specs.turn_rows.Causes as causes_of
use Rattle.fair_rows.specs.turn_rows.Kinds as hows
use Rattle.fair_rows.specs.turn_rows.Turns as rows
use Rattle.fair_rows.specs.turn_rows.Turns.{Turn}
use Rattle.delivery_laws.proofs.world_laws.Instances.{open_made}
use Rattle.delivery_laws.proofs.world_laws.Kept.{good-after}
use Rattle.delivery_laws.proofs.world_laws.Lists.{all_read, all_read_or}
use Rattle.delivery_laws.specs.world_state.Good.{AreGood, IsGoodWorld, IsPlaced}
use Rattle.delivery_laws.specs.world_state.Known.{IsKnownTo, IsSeatOf, known_as}
use Rattle.delivery_laws.specs.world_state.Rights.{slots_at}
use Rattle.delivery_laws.specs.world_state.Worlds as worlds
use Rattle.delivery_laws.specs.world_state.Worlds.{Effect, Seat, State, after, after_all, empty_seat, exit, make_facet, moves, no_seat, note_call, offer, promises_made, seat_at}
use Rattle.fair_laws.specs.Reads.{CallsRead, IsTold}
use Rattle.fair_laws.specs.Views.{IsCounted}
use Rattle.fair_laws.proofs.Counts.{counted_after}
use Rattle.fair_laws.proofs.Left.{left_after}
use Rattle.fair_laws.proofs.Holding.{AreFit, Holds, Shows, fit_all, holds_after}
use Rattle.fair_laws.proofs.Names.{same_bytes}
use Rattle.fair_laws.proofs.Owned.{FacetsTold, IsNoFacet, facets_called, facets_far}
use Rattle.fair_laws.proofs.EffectSeats.{seat_read}
use Rattle.fair_laws.proofs.Shown.{either_none}
use Rattle.fair_laws.proofs.Telling.{AllHaveCauses, HasItsCause, LeavesFor, causes_after, causes_called, none_shown, owes_after_it}

-- ---- lists

pub first_all : {A : Type 0} (P : A → Type 0) (xs ys : List A) → AllByRecursion P (xs ++ ys) → AllByRecursion P xs
first_all P [] ys all = tt
first_all P (x ∷ xs) ys all = (all.0, first_all P xs ys all.1)

pub second_all : {A : Type 0} (P : A → Type 0) (xs ys : List A) → AllByRecursion P (xs ++ ys) → AllByRecursion P ys
second_all P [] ys all = all
second_all P (x ∷ xs) ys all = second_all P xs ys all.1

-- ---- a row's effects

pub stored_of : (es : List Effect) → AllByRecursion IsStored (movements_in es) → AreStoredEffects es
stored_of [] all = tt
stored_of (moves ms ∷ es) all = (first_all IsStored ms (movements_in es) all, stored_of es (second_all IsStored ms (movements_in es) all))
stored_of (offer o ∷ es) all = (tt, stored_of es (second_all IsStored (worlds.burn_and_escrows o) (movements_in es) all))
stored_of (e ∷ es) all = (tt, stored_of es all)

module _ (w : State) (caller : Option ℕ) (o : Obj) (m : List ℕ) where
  pub act_uncalled : (e : Effect) → MayAct w caller o m e → IsUncalled e
  act_uncalled (note_call c) is = is
  act_uncalled e is = tt

  pub acts_uncalled : (es : List Effect) → AllByRecursion (MayAct w caller o m) es → AreUncalled es
  acts_uncalled [] all = tt
  acts_uncalled (e ∷ es) all = (act_uncalled e all.0, acts_uncalled es all.1)

  pub act_no_facet : (e : Effect) → MayAct w caller o m e → IsNoFacet e
  act_no_facet (make_facet f) is = is
  act_no_facet e is = tt

-- the turn's row of one that shows no cause
abbrev quiet : Turn
quiet = record { number = 0; kind = hows.tick; by = []; on = []; method = []; arguments = json.no_items; answer = rows.ok json.null; events = []; sums = [] }

by_calls : (v : State) (e : Effect) → HasCause [] quiet v e → LeavesFor none_shown v e
by_calls v (exit s cause) is = is
by_calls v e is = tt

-- ---- what stays with an instance has methods that it calls

abbrev IsOwn : ObjKind → Type 0
IsOwn kinds.Zcf = Unit {0}
IsOwn kinds.Zseat = Unit {0}
IsOwn kinds.Zmint = Unit {0}
IsOwn _ = ⊥

own_kind : (w : State) (kind : ObjKind) (n : ℕ) (m : List ℕ) (args : List Tree) (d : Tree × List Effect) → methods.of_own_kind w kind n m args ≡ Ok d → IsOwn kind
own_kind w kinds.Zcf n m args d is = tt
own_kind w kinds.Zseat n m args d is = tt
own_kind w kinds.Zmint n m args d is = tt
own_kind w kind n m args d is = cc

no_user_seat : (kind : ObjKind) → IsOwn kind → IsNoUserSeat kind
no_user_seat kinds.Seat own = own
no_user_seat kind own = tt

own_number : (w : State) (i : ℕ) (kind : ObjKind) (n : ℕ) → IsGoodWorld w → IsCounted w → i < length w.tables.instances → IsOwn kind → known_as i w kind n → n < 2 ^ 128
own_number w i kinds.Zcf n good counted made own is = omega (arith, is, made, counted.instances)
own_number w i kinds.Zseat n good counted made own is = omega (arith, is.made, counted.seats)
own_number w i kinds.Zmint n good counted made own is = omega (arith, is.made, good.brands.made_by, good.brands.few)
own_number w i kind n good counted made own is = absurd own

abbrev IsSeatIn : State → Departure → Type 0
IsSeatIn w d = d.seat < length w.seats

halts_made : (w : State) (i : ℕ) (ns : List ℕ) → AllByRecursion (IsSeatOf w.seats i) ns → AllByRecursion (IsSeatIn w) (map (λ seat. departure seat causes_of.halted) ns)
halts_made w i [] all = tt
halts_made w i (n ∷ ns) all = (all.0.made, halts_made w i ns all.1)

if_made : (w : State) (b : Bool) (ds es : List Departure) → AllByRecursion (IsSeatIn w) ds → AllByRecursion (IsSeatIn w) es → AllByRecursion (IsSeatIn w) (cond b ds es)
if_made w true ds es one two = one
if_made w false ds es one two = two

departures_made : (w : State) (i : ℕ) (kind : ObjKind) (n : ℕ) (m : List ℕ) → IsOwn kind → known_as i w kind n → AllByRecursion (IsSeatIn w) (departures_by w (object kind n) m)
departures_made w i kinds.Zcf n m own is = if_made w (bytes_eq m (codes "shutdown") || bytes_eq m (codes "shutdownWithFailure")) (all_halted w n) [] (halts_made w n (all_open w n) (all_own n w.seats)) tt
departures_made w i kinds.Zseat n m own is =
    if_made w (bytes_eq m (codes "exit")) (one_left n causes_of.exit) _ (is.made, tt)
    (if_made w (bytes_eq m (codes "fail")) (one_left n causes_of.fail) [] (is.made, tt) tt)
departures_made w i kinds.Zmint n m own is = tt
departures_made w i kind n m own is = absurd own

-- ---- empty seats

zcf_name : (n : ℕ) → bytes_eq (object_name (object kinds.Zcf n)) (name (codes "zcf") n) ≡ true
unfolding object_name
zcf_name n = same_bytes (codes "zcf" ++ decimal n)

-- an instance opens a seat of its own, and does nothing else
record IsKit (n : ℕ) (es : List Effect) : Type 0 where
  rule : Exit
  is : es ≡ empty_seat n rule ∷ []

kit_row : (w : State) (n : ℕ) (args : List Tree) → IfOk (make_empty_seat_kit w n args) (λ d. IsKit n d.1)
unfolding make_empty_seat_kit
kit_row w n args =
    after_check (λ d. IsKit n d.1) (runs w n) _
    (after_step (λ d. IsKit n d.1) (exits.exit (arg 1 args)) _ (λ rule is.
    after_next_of (λ d. IsKit n d.1) (length w.seats) most_made _ (λ few.
    after_need (λ d. IsKit n d.1) _ (limit most_made) _ (λ room. record { rule = rule; is = refl }))))

-- the method that opens one
record IsKitCall (kind : ObjKind) (n : ℕ) (m : List ℕ) (es : List Effect) : Type 0 where
  zcf : kind ≡ kinds.Zcf
  method : bytes_eq m (codes "makeEmptySeatKit") ≡ true
  kit : IsKit n es

-- either that, or none is opened
abbrev OpensAs : ObjKind → ℕ → List ℕ → List Effect → Type 0
OpensAs kind n m es = IsKitCall kind n m es ⊎ (openings_in es ≡ 0)

opens_as : (w : State) (kind : ObjKind) (n : ℕ) (m : List ℕ) (args : List Tree) (answer : Tree) (es : List Effect) → methods.of_own_kind w kind n m args ≡ Ok (answer, es) → openings_in es ≡ openings_by (object kind n) m → OpensAs kind n m es
opens_as w kinds.Zcf n m args answer es is opens = by (bytes_eq m (codes "makeEmptySeatKit")) refl
  where
    by : (b : Bool) → bytes_eq m (codes "makeEmptySeatKit") ≡ b → OpensAs kinds.Zcf n m es
    by true e =
        let row : make_empty_seat_kit w n args ≡ Ok (answer, es) = rw e at is in
        inl (record { zcf = refl; method = e; kit = ok_has (λ d. IsKit n d.1) (make_empty_seat_kit w n args) (answer, es) row (kit_row w n args) })
    by false e = inr (opens ∙ ap (λ b. cond b 1 0) e)
opens_as w kinds.Zseat n m args answer es is opens = inr opens
opens_as w kinds.Zmint n m args answer es is opens = inr opens
opens_as w kind n m args answer es is opens = cc

-- ---- a call's row

module _ (w : State) (good : IsGoodWorld w) where
  seat_is : (n : ℕ) → n < length w.seats → slice_get (seats_told w) n ≡ Some (seat_told n (seat_at w.seats n) (slots_at w.rights.slots n))
  seat_is n made =
      seat_read 0 n w.seats w.rights.slots no_seat made good.seats.slotted
      ∙ ap (λ m. Some (seat_told m (seat_at w.seats n) (slots_at w.rights.slots n))) (let e : 0 + n ≡ n = omega arith in e)

  -- seats that were left before it were so for calls
  left_shown : (es : List events.Event) → AllByRecursion (HasItsCause none_shown w) es → AllByRecursion (IsShownByCalls (seats_told w) (rows_of w.log)) (rows_of es)
  left_shown [] all = tt
  left_shown (events.exited x ∷ es) all = (
    λ s found.
        let same : s ≡ seat_told x.seat (seat_at w.seats x.seat) (slots_at w.rights.slots x.seat) = ap (λ o. unwrap_or o s) (sym found ∙ seat_is x.seat all.0.0) in
        ap (λ (u : told.Seat). is_some (cause_by_calls u.opening.instance x.seat (while_open x.seat (rows_of w.log)))) same
        ∙ ap is_some (sym (either_none (cause_shown w x.seat)) ∙ all.0.1),
    left_shown es all.1,
  )
  left_shown (events.called c ∷ es) all = (tt, left_shown es all.1)
  left_shown (events.opened o ∷ es) all = (tt, left_shown es all.1)
  left_shown (events.moved m ∷ es) all = (tt, left_shown es all.1)
  left_shown (events.settled p r ∷ es) all = (tt, left_shown es all.1)

  call_shown : AllHaveCauses none_shown w → (c : rows.Call) → IsTold w c → IsAnsweredCall (rows_of w.log) (place_of w) c
  call_shown have c is = record { read = is.read; told = is.told; shown = left_shown w.log have }

-- ---- what a call's effects show

module _ (owners : Owners) (t : Turn) where
  shown_of : (w : State) (i : ℕ) (o : Obj) (m : List ℕ) (v : State) (es : List Effect) → HaveCauses owners t v es → AllByRecursion IsStored (movements_in es) → AllByRecursion (MayAct w (Some i) o m) es → openings_in es ≡ 0 → AreShown owners t v es
  shown_of w i o m v [] have stored acts opens = tt
  shown_of w i o m v (moves ms ∷ es) have stored acts opens =
      (first_all IsStored ms (movements_in es) stored, shown_of w i o m (after v (moves ms)) es have.1 (second_all IsStored ms (movements_in es) stored) acts.1 opens)
  shown_of w i o m v (offer x ∷ es) have stored acts opens = cc
  shown_of w i o m v (empty_seat n rule ∷ es) have stored acts opens = absurd (omega (arith, opens))
  shown_of w i o m v (exit s cause ∷ es) have stored acts opens = (have.0, shown_of w i o m (after v (exit s cause)) es have.1 stored acts.1 opens)
  shown_of w i o m v (note_call c ∷ es) have stored acts opens = absurd acts.0
  shown_of w i o m v (e ∷ es) have stored acts opens = (tt, shown_of w i o m (after v e) es have.1 stored acts.1 opens)

  held_on : (w : State) (caller : Option ℕ) (o : Obj) (m : List ℕ) (i : Option (List ℕ)) (v : State) (es : List Effect) → Holds none_shown owners i v → AreGood v es → HaveCauses [] quiet v es → AllByRecursion (MayAct w caller o m) es → Holds none_shown owners i (after_all v es)
  held_on w caller o m i v [] is good have acts = is
  held_on w caller o m i v (e ∷ es) is good have acts =
      held_on w caller o m i (after v e) es
      (holds_after none_shown owners i v e (act_uncalled w caller o m e acts.0) (act_no_facet w caller o m e acts.0) good.0 (by_calls v e have.0) is)
      good.1 have.1 acts.1

  -- what holds behind a call's row
  held_called : (i : Option (List ℕ)) (w : State) (c : events.Call) → Holds none_shown owners i w → FacetsTold owners i (after w (note_call c)) → Holds none_shown owners i (after w (note_call c))
  held_called i w c is facets = record {
    good = good-after w (note_call c) tt is.good;
    causes = causes_called w c is.causes;
    facets = facets;
    steady = record { counted = counted_after w (note_call c) tt is.steady.counted; left = left_after w (note_call c) is.good tt is.steady.left };
  }

  -- a call of a method that is answered
  module _ (w : State) (i : ℕ) (o : Obj) (m : List ℕ) (args : List Tree) (answer : Tree) (es : List Effect) (is : Holds none_shown owners (Some (named kinds.Instance i)) w) (owes : Owes w []) (runs_none : is_offer t ≡ false) (can : CanCall w (Some i) o args) (served_so : serve_own w o m args ≡ Ok (answer, es)) (row : IsRule w (Some i) o m args answer es) (reads : IsTold w (printed_call (answered o m args answer))) where
    abbrev c : events.Call
    c = answered o m args answer

    abbrev behind : State
    behind = after w (note_call c)

    of_kind : methods.of_own_kind w o.kind o.number m args ≡ Ok (answer, es)
    unfolding serve_own
    of_kind = served_so

    own : IsOwn o.kind
    own = own_kind w o.kind o.number m args (answer, es) of_kind

    tells : owed.Tells w o m
    tells = record {
      on = no_user_seat o.kind own;
      number = own_number w i o.kind o.number is.good is.steady.counted can.hosted own can.target;
      seats = λ n opens. omega (arith, open_made w.seats n opens, is.steady.counted.seats);
      instances = λ n opens. let placed = all_read (IsPlaced w) w.seats n no_seat is.good.placed (open_made w.seats n opens) in omega (arith, placed, is.steady.counted.instances);
      made = departures_made w i o.kind o.number m own can.target;
    }

    owed_now : Owes behind (departures_in es)
    owed_now = subst (Owes behind) (sym row.leaves) (owes_called w o m args answer tells owes)

    good : AreGood behind es
    good = all_good_untold behind.log w es row.good

    un : AreUncalled es
    un = acts_uncalled w (Some i) o m es row.acts

    shown_behind : OpensAs o.kind o.number m es → AreShown owners t behind es
    shown_behind (inr opens) = shown_of w i o m behind es (causes owners t behind es good un owed_now) row.stored row.acts opens
    shown_behind (inl is_kit) = subst (AreShown owners t behind) (sym is_kit.kit.is) (
      (
        runs_none,
        record {
          more = rows_of w.log;
          call = printed_call c;
          last = rows_append w.log (events.called c ∷ []);
          made = kit_called is_kit.zcf is_kit.method;
          gives = refl;
          wants = refl;
        },
      ),
      tt,
    )
      where
        kit_called : o.kind ≡ kinds.Zcf → bytes_eq m (codes "makeEmptySeatKit") ≡ true → calls (name (codes "zcf") o.number) (codes "makeEmptySeatKit") (printed_call c) ≡ true
        kit_called zcf method = ap (λ b. b && bytes_eq m (codes "makeEmptySeatKit")) (ap (λ k. bytes_eq (object_name (object k o.number)) (name (codes "zcf") o.number)) zcf ∙ zcf_name o.number) ∙ method

    pub answered_shows : Shows owners t none_shown (Some (named kinds.Instance i)) w (note_call c ∷ es)
    answered_shows = record {
      shown = (call_shown w is.good is.causes (printed_call c) reads, shown_behind (opens_as w o.kind o.number m args answer es of_kind row.opens));
      stored = (tt, stored_of es row.stored);
      owes = owes_none behind es good un owed_now;
      holds = held_on w (Some i) o m (Some (named kinds.Instance i)) behind es
          (held_called (Some (named kinds.Instance i)) w c is (facets_called owners (Some (named kinds.Instance i)) w is.facets c refl))
          good (causes [] quiet behind es good un owed_now) row.acts;
    }

-- ---- a call that is refused

abbrev IsOtherCall : Call → Type 0
IsOtherCall (call o m args) = ⊥
IsOtherCall _ = Unit {0}

none_refused : (w : State) (c : Call) (r : Refusal) → IsTold w (printed_call (told_call c (events.refused r)))
none_refused w (call o m args) r = record { read = record { current = λ n is. cc; allocated = λ n is. cc }; told = record { current = λ n is. cc; allocated = λ n is. cc } }
none_refused w (send o m args) r = record { read = record { current = λ n is. cc; allocated = λ n is. cc }; told = record { current = λ n is. cc; allocated = λ n is. cc } }
none_refused w (when o f held) r = record { read = record { current = λ n is. cc; allocated = λ n is. cc }; told = record { current = λ n is. cc; allocated = λ n is. cc } }
none_refused w (far x ms held) r = record { read = record { current = λ n is. cc; allocated = λ n is. cc }; told = record { current = λ n is. cc; allocated = λ n is. cc } }

-- sends, requests and facets tell nothing of holdings
none_told : (w : State) (c : Call) (a : events.Answer) → IsOtherCall c → IsTold w (printed_call (told_call c a))
none_told w (call o m args) a other = absurd other
none_told w (send o m args) a other = record { read = record { current = λ n is. cc; allocated = λ n is. cc }; told = record { current = λ n is. cc; allocated = λ n is. cc } }
none_told w (when o f held) a other = record { read = record { current = λ n is. cc; allocated = λ n is. cc }; told = record { current = λ n is. cc; allocated = λ n is. cc } }
none_told w (far x ms held) a other = record { read = record { current = λ n is. cc; allocated = λ n is. cc }; told = record { current = λ n is. cc; allocated = λ n is. cc } }

refused_quiet : (c : Call) (r : Refusal) → ShowsNothing (told_call c (events.refused r)).how (events.refused r)
refused_quiet (call o m args) r = tt
refused_quiet (send o m args) r = tt
refused_quiet (when o f held) r = tt
refused_quiet (far x ms held) r = tt

refused_facets : (c : Call) (r : Refusal) → facets_at (rows.called (printed_call (told_call c (events.refused r)))) ≡ []
refused_facets (call o m args) r = refl
refused_facets (send o m args) r = refl
refused_facets (when o f held) r = refl
refused_facets (far x ms held) r = refl

told_refused : (c : Call) (r : Refusal) → (told_call c (events.refused r)).answer ≡ events.refused r
told_refused (call o m args) r = refl
told_refused (send o m args) r = refl
told_refused (when o f held) r = refl
told_refused (far x ms held) r = refl

module _ (owners : Owners) (t : Turn) (i : Option (List ℕ)) (w : State) (is : Holds none_shown owners i w) (owes : Owes w []) where
  pub refused_shows : (c : Call) (r : Refusal) → Shows owners t none_shown i w (note_call (told_call c (events.refused r)) ∷ [])
  refused_shows c r =
      let x = told_call c (events.refused r) in
      record {
        shown = (call_shown w is.good is.causes (printed_call x) (none_refused w c r), tt);
        stored = (tt, tt);
        owes = owes_nothing_more w x (subst (ShowsNothing x.how) (sym (told_refused c r)) (refused_quiet c r)) owes;
        holds = held_called owners t i w x is (facets_called owners i w is.facets x (refused_facets c r));
      }

  -- ---- sends, requests and facets

  module _ (x : events.Call) (none : IsTold w (printed_call x)) (silent : ShowsNothing x.how x.answer) (unfaceted : facets_at (rows.called (printed_call x)) ≡ []) where
    -- behind it, effects that need nothing to be shown
    pub plain_shows : (es : List Effect) → AreGood (after w (note_call x)) es → AreFit t none_shown (after w (note_call x)) es → Shows owners t none_shown i w (note_call x ∷ es)
    plain_shows es good fit =
        let behind = after w (note_call x) in
        let rest = fit_all owners t none_shown (λ j n cause e. cc) i behind es (held_called owners t i w x is (facets_called owners i w is.facets x unfaceted)) (owes_nothing_more w x silent owes) good fit in
        record { shown = (call_shown w is.good is.causes (printed_call x) none, rest.shown); stored = (tt, rest.stored); owes = rest.owes; holds = rest.holds }

  pub far_shows : (name : List ℕ) (ms : List (List ℕ × List ℕ)) (held : Tree) (n : ℕ) → n ≡ length w.facets → (j : ℕ) → i ≡ Some (named kinds.Instance j)
      → AreGood w (told_effects (far name ms held) (Ok (object_tree kinds.Facet n, make_facet (record { instance = j; methods = ms; held = held }) ∷ [])))
      → Shows owners t none_shown i w (told_effects (far name ms held) (Ok (object_tree kinds.Facet n, make_facet (record { instance = j; methods = ms; held = held }) ∷ [])))
  far_shows name ms held n same j of good =
      let x = told_call (far name ms held) (events.given (object_tree kinds.Facet n)) in
      let f : FacetView = record { instance = j; methods = ms; held = held } in
      let behind = after w (note_call x) in
      let owes_behind = owes_nothing_more w x tt owes in
      record {
        shown = (call_shown w is.good is.causes (printed_call x) (none_told w (far name ms held) (events.given (object_tree kinds.Facet n)) tt), (tt, tt));
        stored = (tt, (tt, tt));
        owes = owes_after_it behind (make_facet f) good.1.0 tt owes_behind;
        holds = record {
          good = good-after behind (make_facet f) good.1.0 (good-after w (note_call x) tt is.good);
          causes = causes_after none_shown behind (make_facet f) tt good.1.0 tt (causes_called w x is.causes);
          facets = facets_far owners i w is.facets x f (facet_named n ∙ ap (λ k. named kinds.Facet k ∷ []) same) of;
          steady = record {
            counted = counted_after behind (make_facet f) good.1.0 (counted_after w (note_call x) tt is.steady.counted);
            left = left_after behind (make_facet f) (good-after w (note_call x) tt is.good) good.1.0 (left_after w (note_call x) is.good tt is.steady.left);
          };
        };
      }
    where
      facet_named : (n : ℕ) → facets_at (rows.called (printed_call (told_call (far name ms held) (events.given (object_tree kinds.Facet n))))) ≡ named kinds.Facet n ∷ []
      facet_named n = refl

-- ---- any call

-- effects that are fit whatever the row shows
send_fit : (w : State) (i : ℕ) (target : Obj) (m : List ℕ) (args : List Tree) → IfOk (send_rule w i target m args) (λ d. (t : Turn) (v : State) → AreFit t none_shown v d.1)
unfolding send_rule
send_fit w i target m args = after_need (λ d. (t : Turn) (v : State) → AreFit t none_shown v d.1) _ _ _ (λ e. after_next_of (λ d. (t : Turn) (v : State) → AreFit t none_shown v d.1) (promises_made w) most_made _ (λ room t v. (tt, tt)))

when_fit : (w : State) (i : ℕ) (promise : Obj) (f : List ℕ) (held : Tree) → IfOk (when_rule w i promise f held) (λ d. (t : Turn) (v : State) → AreFit t none_shown v d.1)
unfolding when_rule
when_fit w i promise f held = after_next_of (λ d. (t : Turn) (v : State) → AreFit t none_shown v d.1) (promises_made w) most_made _ (λ room t v. (tt, tt))

-- a facet is made, with the next number
abbrev IsFar : State → ℕ → List (List ℕ × List ℕ) → Tree → Tree × List Effect → Type 0
IsFar w i ms held d = d ≡ (object_tree kinds.Facet (length w.facets), make_facet (record { instance = i; methods = ms; held = held }) ∷ [])

far_is : (w : State) (i : ℕ) (ms : List (List ℕ × List ℕ)) (held : Tree) → IfOk (far_rule w i ms held) (IsFar w i ms held)
unfolding far_rule
far_is w i ms held = after_next_of (IsFar w i ms held) (length w.facets) most_made _ (λ room. refl)

call_can : (w : State) (i : ℕ) (o : Obj) (m : List ℕ) (args : List Tree) → IsGoodWorld w → i < length w.tables.instances → CallHas (IsKnownTo w i) (call o m args) → CanCall w (Some i) o args
call_can w i o m args good made known = record {
  good = good;
  hosted = made;
  target = known.0.objects;
  arguments = λ place. all_read_or (IsKnownTo w i) args (place - 1) trees.null (all_have (IsKnownTo w i) args known.1) (null_formed w (Some i));
}

module _ (served : AreGoodHostCalls) (reads : CallsRead) (owners : Owners) (t : Turn) (runs_none : is_offer t ≡ false) (w : State) (i : ℕ) (made : i < length w.tables.instances) (is : Holds none_shown owners (Some (named kinds.Instance i)) w) (owes : Owes w []) where
  abbrev ours : Option (List ℕ)
  ours = Some (named kinds.Instance i)

  abbrev Showing : Call → Outcome → Type 0
  Showing c row = AreGood w (told_effects c row) → Shows owners t none_shown ours w (told_effects c row)

  called_row : (o : Obj) (m : List ℕ) (args : List Tree) → CanCall w (Some i) o args → (row : Outcome) → serve_own w o m args ≡ row → IfOk row (λ d. IsRule w (Some i) o m args d.0 d.1) → Showing (call o m args) row
  called_row o m args can (Err r) e so good = refused_shows owners t ours w is owes (call o m args) r
  called_row o m args can (Ok (answer, es)) e so good = answered_shows owners t w i o m args answer es is owes runs_none can e so (reads w i o m args answer es is.steady.counted can e)

  sent_row : (o : Obj) (m : List ℕ) (args : List Tree) (row : Outcome) → IfOk row (λ d. (t : Turn) (v : State) → AreFit t none_shown v d.1) → Showing (send o m args) row
  sent_row o m args (Err r) fit good = refused_shows owners t ours w is owes (send o m args) r
  sent_row o m args (Ok (answer, es)) fit good =
      let x = told_call (send o m args) (events.given answer) in
      plain_shows owners t ours w is owes x (none_told w (send o m args) (events.given answer) tt) tt refl es good.1 (fit t (after w (note_call x)))

  asked_row : (o : Obj) (f : List ℕ) (held : Tree) (row : Outcome) → IfOk row (λ d. (t : Turn) (v : State) → AreFit t none_shown v d.1) → Showing (when o f held) row
  asked_row o f held (Err r) fit good = refused_shows owners t ours w is owes (when o f held) r
  asked_row o f held (Ok (answer, es)) fit good =
      let x = told_call (when o f held) (events.given answer) in
      plain_shows owners t ours w is owes x (none_told w (when o f held) (events.given answer) tt) tt refl es good.1 (fit t (after w (note_call x)))

  made_row : (x : List ℕ) (ms : List (List ℕ × List ℕ)) (held : Tree) (row : Outcome) → IfOk row (IsFar w i ms held) → Showing (far x ms held) row
  made_row x ms held (Err r) so good = refused_shows owners t ours w is owes (far x ms held) r
  made_row x ms held (Ok d) so good =
      subst (λ e. Showing (far x ms held) (Ok e)) (sym so) (far_shows owners t ours w is owes x ms held (length w.facets) refl i refl) good

  pub call_shows : (c : Call) → CallHas (IsKnownTo w i) c → Shows owners t none_shown ours w (call_effects w i c)
  call_shows c known = by c known (call_is served w i is.good made c known).good
    where
      by : (c : Call) → CallHas (IsKnownTo w i) c → AreGood w (call_effects w i c) → Shows owners t none_shown ours w (call_effects w i c)
      by (call o m args) known good =
          let can = call_can w i o m args is.good made known in
          called_row o m args can (serve_own w o m args) refl (served w i o m args can) good
      by (send o m args) known good = sent_row o m args (send_rule w i o m args) (send_fit w i o m args) good
      by (when o f held) known good = asked_row o f held (when_rule w i o f held) (when_fit w i o f held) good
      by (far x ms held) known good = made_row x ms held (far_rule w i ms held) (far_is w i ms held) good
