-- What is done for each delivery is shown by the rows of its turn, and at the turn's end no seat is open of which the
-- turn's own row shows a cause.
use Rattle.std.specs.Prelude.{◌≡◌, ◌≢◌, ◌-◌, ◌+◌, ◌^◌, ◌<◌, ◌++◌, ◌&&◌, ◌⊎◌, ℕ, zero, suc, Bool, true, false, cond, List, [], ◌∷◌, Option, Some, None, Result, Ok, Err, IfOk, codes, is_none, length, nat_lt, refl}
use Rattle.std.specs.List.{AllByRecursion}
use Rattle.std.specs.Str.{bytes_eq}
use Rattle.std.proofs.Common.{inl, inr, sym, ◌∙◌, ap, subst, arith}
use Rattle.delivery_laws.proofs.rule_laws.Forms.{null_formed, object_formed}
use Rattle.delivery_laws.proofs.rule_laws.Shown.{handed_held}
use Rattle.delivery_laws.specs.rules.Acts.{MayAct}
use Rattle.delivery_laws.specs.rules.Licence.{IsStored}
use Rattle.delivery_laws.specs.rules.Obligations.{CanCall, IsRule}
use Rattle.delivery_laws.specs.rules.Outcomes.{Outcome}
use Rattle.delivery_laws.specs.rules.Traces.{Departure, all_open, departure, departures_as, departures_by, departures_in, movements_in, one_left, openings_as, openings_in}
use Rattle.delivery_laws.specs.rules.Words.{has_halted, standing_of}
use Rattle.delivery_laws.proofs.rule_laws.OpenSeats.{all_own}
use Rattle.delivery_laws.specs.turn_records.Names.{object_name}
use Rattle.delivery_laws.specs.Works.{AreGoodHostCalls, IsTurnWork}
use Rattle.delivery_laws.proofs.Asking.{evaluates, have_all}
use Rattle.delivery_laws.proofs.Ends.{ending_good}
use Rattle.delivery_laws.proofs.Runs.{after_both, all_grow, grows_itself}
use Rattle.delivery_laws.proofs.Reading.{IsAddressed, IsCalled, addressed_there, sent_there, weaker_ok}
use Rattle.delivery_laws.proofs.Works.{notice_handed, number_known, settlement_handed, work_is}
use Rattle.delivery_laws.specs.delivery_turns.Endings.{ending}
use Rattle.delivery_laws.specs.delivery_turns.Functions.{FunctionCall, Run, ended, function_run, module_play, ran_out, run}
use Rattle.delivery_laws.specs.delivery_turns.Tasks as tasks
use Rattle.delivery_laws.specs.delivery_turns.Messages.{Addressed, addressed, gift_of, sent_to}
use Rattle.delivery_laws.specs.delivery_turns.Tasks.{Beginning, Work, answer_of_ending, beginning, call_beginning, do_all, exit_if_open, facet_task, function_behind, gift_beginning, halt_with, handler_call, method_task, notice_call, refuse, outcome_work, run_task, run_work, serve, settlement_of, start_call, task_on, task_work, tick_task, wakeup_call}
use Rattle.fair_laws.specs.Owed.{Owes}
use Rattle.fair_laws.proofs.Others.{owes_at_start}
use Rattle.fair_laws.proofs.Shown.{either_none}
use Rattle.fair_laws.specs.Reads.{IsTurnTold}
use Rattle.fair_rows.specs.ExitCauses.{Owners, cause_by_row, cause_if, either, instance_of, is_of, name, owner_in, serves}
use Rattle.fair_rows.specs.Rows.{is_offer, is_service}
use Rattle.delivery_laws.specs.actors.Facets.{FacetView, facet_at, no_facet}
use Rattle.delivery_laws.specs.actors.Tables.{instance_at}
use Rattle.delivery_laws.specs.jessie_semantics.Keeping.{AllHave}
use Rattle.delivery_laws.specs.jessie_semantics.Play as plays
use Rattle.delivery_laws.specs.jessie_semantics.Play.{Ending}
use Rattle.delivery_laws.specs.jessie_grammar.Syntax.{variable_names}
use Rattle.delivery_laws.specs.host_data.Tree as trees
use Rattle.delivery_laws.specs.host_data.Tree.{Tree, is_local, null}
use Rattle.delivery_laws.specs.host_data.declared.data.Obj.{Obj}
use Rattle.delivery_laws.specs.host_data.declared.data.ObjKind.{ObjKind}
use Rattle.delivery_laws.specs.host_data.declared.data.ObjKind.TheVariants as kinds
use Rattle.delivery_laws.specs.turn_records.PrintedData as data_rows
use Rattle.delivery_laws.specs.refusals.Codes.{closed, code_of, local_only, no_method, refusal_tree, shown_by, shown_trees}
use Rattle.delivery_laws.specs.refusals.declared.codes.Refusal.{Refusal}
use Rattle.fair_rows.specs.rights_model.declared.Sum.{Sum}
use Rattle.serde_json.specs.Data as json
use Rattle.delivery_laws.specs.rule_laws.GoodServices.{AreGoodServices}
use Rattle.delivery_laws.specs.rules.Zoe.{TextReader}
use Rattle.delivery_laws.specs.turn_records.Deliveries as deliveries
use Rattle.delivery_laws.specs.turn_records.Deliveries.{Delivery, Offer, Reading, Start}
use Rattle.delivery_laws.specs.turn_records.Messages.{LineGift}
use Rattle.delivery_laws.specs.refusals.declared.codes.Refusal.TheVariants.{Backwards}
use Rattle.delivery_laws.specs.turn_records.Events as events
use Rattle.delivery_laws.specs.turn_records.Events.{Answer, Event, given, refused, spent, threw}
use Rattle.delivery_laws.specs.turn_records.Printed.{kind_of, kind_on, method_of, named, notice_tree, object, on_of, printed_trees, trees_of}
use Rattle.fair_rows.specs.turn_rows.Causes as causes
use Rattle.fair_rows.specs.turn_rows.Kinds as turn_kinds
use Rattle.fair_rows.specs.turn_rows.Kinds.{Kind}
use Rattle.fair_rows.specs.turn_rows.Rows.{instance_name}
use Rattle.fair_rows.specs.turn_rows.Turns as rows
use Rattle.fair_rows.specs.turn_rows.Turns.{Turn}
use Rattle.delivery_laws.proofs.world_laws.Fronts.{due_behind, good_behind}
use Rattle.delivery_laws.proofs.world_laws.Lists.{all_map, all_read, all_read_or}
use Rattle.delivery_laws.specs.world_state.Good.{AreGood, IsFacet, IsGoodWorld}
use Rattle.delivery_laws.specs.world_state.Known.{IsHanded, IsKnownTo, WasLeft, made_as, module_of}
use Rattle.delivery_laws.specs.world_state.Worlds.{Effect, IsOpen, Seat, State, after, after_all, bind_label, burn_and_escrows, set_time, empty_seat, exit, in_front, keep_state, make_facet, moves, note_call, offer, seat_at}
use Rattle.delivery_laws.specs.rules.Methods.{serve as serve_call}
use Rattle.fair_laws.specs.Reads.{CallsRead, ServicesRead}
use Rattle.fair_laws.specs.Views.{IsSteady, owners_from, owners_told}
use Rattle.fair_laws.proofs.RunCalls.{act_no_facet, act_uncalled, first_all, second_all}
use Rattle.fair_laws.proofs.Ends.{IsClosed, closed_if, deadline_same, halts_fit, handler_closed, if_fit, instance_same, none_open, one_closed, open_or_left, seat_same, second_good, spent_same, start_left, turn_with}
use Rattle.fair_laws.proofs.Holding.{AreFit, Holds, Shows, fit_all, row_of, shows_both}
use Rattle.fair_laws.proofs.Names.{and_first, and_second, numbers_same, same_bytes, seat_is}
use Rattle.fair_laws.proofs.Runs.{RunShows, holds_at_start, run_shows}
use Rattle.fair_laws.proofs.Telling.{HasItsCause, IsNoCalled, Showing, no_kit, none_shown, still_uncalled}

-- ---- what rows of turns show

-- a refused turn shows no cause, unless a deadline's
abbrev IsUndated : Kind → Type 0
IsUndated turn_kinds.deadline = ⊥
IsUndated _ = Unit {0}

none_by_refused : (kind : Kind) → IsUndated kind → (os : Owners) (t : Turn) (i n : ℕ) (code : List ℕ) (shown : json.Items) → cause_by_row kind (rows.refused code shown) os t i n ≡ None
none_by_refused turn_kinds.deadline un os t i n code shown = absurd un
none_by_refused kind un os t i n code shown = refl

-- the turn of a function of an instance
abbrev IsOfFunction : Kind → Type 0
IsOfFunction turn_kinds.start = Unit {0}
IsOfFunction turn_kinds.handler = Unit {0}
IsOfFunction turn_kinds.wake = Unit {0}
IsOfFunction turn_kinds.notify = Unit {0}
IsOfFunction turn_kinds.facet = Unit {0}
IsOfFunction _ = ⊥

none_by_given : (kind : Kind) → IsOfFunction kind → (os : Owners) (t : Turn) (i n : ℕ) (d : json.Data) → cause_by_row kind (rows.ok d) os t i n ≡ None
none_by_given turn_kinds.start of os t i n d = refl
none_by_given turn_kinds.handler of os t i n d = refl
none_by_given turn_kinds.wake of os t i n d = refl
none_by_given turn_kinds.notify of os t i n d = refl
none_by_given turn_kinds.facet of os t i n d = refl
none_by_given kind of os t i n d = absurd of

by_spent : (kind : Kind) → IsOfFunction kind → (os : Owners) (t : Turn) (i n m : ℕ) → cause_by_row kind (rows.spent m) os t i n ≡ cause_if (is_of (instance_of os t.kind t) i) causes.spent
by_spent turn_kinds.start of os t i n m = refl
by_spent turn_kinds.handler of os t i n m = refl
by_spent turn_kinds.wake of os t i n m = refl
by_spent turn_kinds.notify of os t i n m = refl
by_spent turn_kinds.facet of os t i n m = refl
by_spent kind of os t i n m = absurd of

no_offer : (t : Turn) → IsOfFunction t.kind → is_offer t ≡ false
no_offer t of = by t.kind of
  where
    by : (kind : Kind) → IsOfFunction kind → is_offer (record t { kind = kind }) ≡ false
    by turn_kinds.start of = refl
    by turn_kinds.handler of = refl
    by turn_kinds.wake of = refl
    by turn_kinds.notify of = refl
    by turn_kinds.facet of = refl
    by kind of = absurd of

-- ---- facets have the instances that made them

owner_found : (q n : ℕ) (fs : List FacetView) → n < length fs → q + length fs < 2 ^ 128 → owner_in (named kinds.Facet (q + n)) (owners_from q fs) ≡ Some (named kinds.Instance (facet_at fs n).instance)
unfolding object_name
owner_found q n [] lt few = absurd (omega (arith, lt))
owner_found q zero (f ∷ fs) lt few =
    ap (λ m. cond (bytes_eq (named kinds.Facet m) (named kinds.Facet q)) (Some (named kinds.Instance f.instance)) (owner_in (named kinds.Facet m) (owners_from (suc q) fs))) (let e : q + 0 ≡ q = omega arith in e)
    ∙ ap (λ b. cond b (Some (named kinds.Instance f.instance)) (owner_in (named kinds.Facet q) (owners_from (suc q) fs))) (same_bytes (named kinds.Facet q))
owner_found q (suc n) (f ∷ fs) lt few =
    ap (λ m. cond (bytes_eq (named kinds.Facet m) (named kinds.Facet q)) (Some (named kinds.Instance f.instance)) (owner_in (named kinds.Facet m) (owners_from (suc q) fs))) (let e : q + suc n ≡ suc q + n = omega arith in e)
    ∙ ap (λ b. cond b (Some (named kinds.Instance f.instance)) (owner_in (named kinds.Facet (suc q + n)) (owners_from (suc q) fs))) (apart (bytes_eq (named kinds.Facet (suc q + n)) (named kinds.Facet q)) refl)
    ∙ owner_found (suc q) n fs (omega (arith, lt)) (omega (arith, few))
  where
    same_number : bytes_eq (named kinds.Facet (suc q + n)) (named kinds.Facet q) ≡ true → suc q + n ≡ q
    same_number e = numbers_same (suc q + n) q (omega (arith, lt, few)) e

    apart : (b : Bool) → bytes_eq (named kinds.Facet (suc q + n)) (named kinds.Facet q) ≡ b → bytes_eq (named kinds.Facet (suc q + n)) (named kinds.Facet q) ≡ false
    apart false e = e
    apart true e = absurd (omega (arith, same_number e))

instance_there : (i j : ℕ) → i < 2 ^ 128 → bytes_eq (named kinds.Instance i) (instance_name j) ≡ true → i ≡ j
unfolding object_name
instance_there i j wide e = numbers_same i j wide e

-- ---- what calls show is shown

weaker_cause : (row : Showing) (v : State) (x : Event) → HasItsCause none_shown v x → HasItsCause row v x
weaker_cause row v (events.exited x) h = (h.0, ap (λ c. either c (row (seat_at v.seats x.seat).instance x.seat)) (sym (either_none _) ∙ h.1))
weaker_cause row v (events.called c) h = tt
weaker_cause row v (events.opened o) h = tt
weaker_cause row v (events.moved m) h = tt
weaker_cause row v (events.settled p s) h = tt

weaker_holds : (row : Showing) (os : Owners) (i : Option (List ℕ)) (v : State) → Holds none_shown os i v → Holds row os i v
weaker_holds row os i v is = record {
  good = is.good;
  causes = all_map (HasItsCause none_shown v) (HasItsCause row v) (weaker_cause row v) v.log is.causes;
  facets = is.facets;
  steady = is.steady;
}

weaker_shows : (os : Owners) (t : Turn) (row : Showing) (i : Option (List ℕ)) (w : State) (es : List Effect) → Shows os t none_shown i w es → Shows os t row i w es
weaker_shows os t row i w es is = record { shown = is.shown; stored = is.stored; owes = is.owes; holds = weaker_holds row os i (after_all w es) is.holds }

-- ---- rows of the host's own objects

-- such effects need no more than that the turn's row shows what they leave and open
row_fit : (t : Turn) (row : Showing) (w : State) (o : Obj) (m : List ℕ) (v : State) (es : List Effect) → AllByRecursion IsNoCalled v.log → AllByRecursion (MayAct w None o m) es → AllByRecursion IsStored (movements_in es) → (openings_in es ≡ 0) ⊎ (is_offer t ≡ true)
    → AllByRecursion (λ (d : Departure). (i : ℕ) → row i d.seat ≡ Some d.cause) (departures_in es) → AreFit t row v es
row_fit t row w o m v [] none acts stored opens exits = tt
row_fit t row w o m v (moves ms ∷ es) none acts stored opens exits = (
  first_all IsStored ms (movements_in es) stored,
  row_fit t row w o m (after v (moves ms)) es (still_uncalled v (moves ms) tt none) acts.1 (second_all IsStored ms (movements_in es) stored) opens exits,
)
row_fit t row w o m v (offer x ∷ es) none acts stored (inl opened) exits = cc
row_fit t row w o m v (offer x ∷ es) none acts stored (inr is) exits = (
  (is, no_kit v.log none),
  row_fit t row w o m (after v (offer x)) es (still_uncalled v (offer x) tt none) acts.1 (second_all IsStored (burn_and_escrows x) (movements_in es) stored) (inr is) exits,
)
row_fit t row w o m v (empty_seat i rule ∷ es) none acts stored opens exits = let nothing = acts.0 in cc
row_fit t row w o m v (exit s cause ∷ es) none acts stored opens exits = (exits.0 (seat_at v.seats s).instance, row_fit t row w o m (after v (exit s cause)) es (still_uncalled v (exit s cause) tt none) acts.1 stored opens exits.1)
row_fit t row w o m v (make_facet f ∷ es) none acts stored opens exits = absurd (act_no_facet w None o m (make_facet f) acts.0)
row_fit t row w o m v (note_call c ∷ es) none acts stored opens exits = absurd acts.0
row_fit t row w o m v (e ∷ es) none acts stored opens exits = (tt, row_fit t row w o m (after v e) es (still_uncalled v e (act_uncalled w None o m e acts.0) none) acts.1 stored opens exits)

zoe_name : (n : ℕ) → object_name (object kinds.Zoe n) ≡ codes "zoe"
unfolding object_name
zoe_name n = refl

-- a line's call, or one that was sent, of a method
record IsCalling (d : Delivery) (m : List ℕ) : Type 0 where
  kind : (o : Obj) (args : List Tree) → kind_of d (deliveries.target o args) ≡ kind_on o.kind
  on : (o : Obj) (args : List Tree) → on_of d (deliveries.target o args) ≡ object_name o
  method : method_of d ≡ m
  arguments : (o : Obj) (args : List Tree) → printed_trees (trees_of d (deliveries.target o args)) ≡ printed_trees args

-- no service
abbrev IsOther : Kind → Type 0
IsOther turn_kinds.service = ⊥
IsOther _ = Unit {0}

-- a function's answer
abbrev IsGivenOrThrown : Answer → Type 0
IsGivenOrThrown (given x) = Unit {0}
IsGivenOrThrown (threw x) = Unit {0}
IsGivenOrThrown _ = ⊥

function_answer : (e : Ending) → IsGivenOrThrown (answer_of_ending e)
function_answer (plays.returned v) = by (is_local v)
  where
    by : (b : Bool) → IsGivenOrThrown (cond b (threw (refusal_tree local_only)) (given v))
    by true = tt
    by false = tt
function_answer (plays.threw v) = by (is_local v)
  where
    by : (b : Bool) → IsGivenOrThrown (cond b (threw (refusal_tree local_only)) (threw v))
    by true = tt
    by false = tt

module _ (read : TextReader) (served : AreGoodServices (serve_call read)) (called : AreGoodHostCalls) (reads : CallsRead) (service_reads : ServicesRead read) (meter : ℕ) (w : State) (d : Delivery) (good : IsGoodWorld (in_front d w)) (steady : IsSteady w) (empty : w.log ≡ []) (k : ℕ) (l : List Event) (ss : List Sum) where
  abbrev turn : Reading → Answer → Turn
  turn r a = turn_with k l ss d r a

  abbrev os : Owners
  os = owners_told w

  abbrev row : Reading → Answer → Showing
  row r a = row_of os (turn r a)

  abbrev ours : Reading → Answer → Option (List ℕ)
  ours r a = instance_of os (turn r a).kind (turn r a)

  abbrev done : List Effect → State
  done es = after_all w es

  abbrev last : Answer → List Effect → State
  last a es = after_all (done es) (ending d a (done es))

  -- no seat is open at the end of which the row shows a cause
  abbrev Stays : Reading → Answer → List Effect → Type 0
  Stays r a es = (n : ℕ) → IsOpen (seat_at (last a es).seats n) → row r a (seat_at (last a es).seats n).instance n ≡ None

  pub record Turns (r : Reading) (a : Answer) (es : List Effect) : Type 0 where
    pub shows : Shows os (turn r a) (row r a) (ours r a) w es
    pub stays : Stays r a es
    -- what is refused does nothing; what is answered of holdings is held
    pub quiet : (e : Refusal) → a ≡ refused e → es ≡ []
    pub held : IsTurnTold w (turn r a)

  abbrev TurnsBy : Reading → Work → Type 0
  TurnsBy r work = Turns r work.answer work.effects

  abbrev whole : IsGoodWorld w
  whole = good_behind w d good

  starts : (by : Showing) (i : Option (List ℕ)) → Holds by os i w
  starts by i = holds_at_start by i w whole steady empty

  owes : Owes w []
  owes = owes_at_start w empty

  -- turns of other kinds read nothing
  unread : (r : Reading) (a : Answer) → ((turn r a).kind ≡ turn_kinds.service → ⊥) → IsTurnTold w (turn r a)
  unread r a bare = record {
    read = record { purse = λ n e is. absurd (bare e); payment = λ n e is. absurd (bare e); final = λ n e is. absurd (bare e) };
    told = record { purse = λ n e is. absurd (bare e); payment = λ n e is. absurd (bare e); final = λ n e is. absurd (bare e) };
  }

  fits : (r : Reading) (a : Answer) (es : List Effect) → AreGood w es → AreFit (turn r a) (row r a) w es → Shows os (turn r a) (row r a) (ours r a) w es
  fits r a es are fit = fit_all os (turn r a) (row r a) (λ i n c e. e) (ours r a) w es (starts (row r a) (ours r a)) owes are fit

  refused_turn : (r : Reading) (e : Refusal) → IsUndated (kind_of d r) → Turns r (refused e) []
  refused_turn r e un = record {
    shows = record { shown = tt; stored = tt; owes = owes; holds = starts (row r (refused e)) (ours r (refused e)) };
    stays = λ n opens. none_by_refused (kind_of d r) un os (turn r (refused e)) (seat_at (last (refused e) []).seats n).instance n (code_of e) (printed_trees (shown_trees (shown_by e)));
    quiet = λ f is. refl;
    held = record { read = record { purse = λ n e is. cc; payment = λ n e is. cc; final = λ n e is. cc }; told = record { purse = λ n e is. cc; payment = λ n e is. cc; final = λ n e is. cc } };
  }

  -- a seat that was left is so at the end
  not_open : (a : Answer) (es : List Effect) (n : ℕ) → IsClosed (done es) n → IsOpen (seat_at (last a es).seats n) → ⊥
  not_open a es n is opens = open_or_left (seat_at (last a es).seats n).last opens ((all_grow (done es) (ending d a (done es))).left.each n is.made is.left)

  -- ---- the host's own objects

  module _ (m : List ℕ) (calling : IsCalling d m) (o : Obj) (args : List Tree) (service : kind_on o.kind ≡ turn_kinds.service) (known : made_as w o.kind o.number) where
    abbrev at : Reading
    at = deliveries.target o args

    kind_is : (a : Answer) → (turn at a).kind ≡ turn_kinds.service
    kind_is a = calling.kind o args ∙ service

    -- an offer that is answered
    opens_by : (answer : Tree) (n : ℕ) (kind : ObjKind) → o.kind ≡ kind → made_as w kind o.number → n ≡ openings_as kind m → (n ≡ 0) ⊎ (is_offer (turn at (given answer)) ≡ true)
    opens_by answer n kinds.Zoe e made is = by (bytes_eq m (codes "offer")) refl
      where
        by : (b : Bool) → bytes_eq m (codes "offer") ≡ b → (n ≡ 0) ⊎ (is_offer (turn at (given answer)) ≡ true)
        by false bare = inl (is ∙ ap (λ b. cond b 1 0) bare)
        by true offered =
            let t = turn at (given answer) in
            inr (ap (λ x. is_service x && (bytes_eq t.on (codes "zoe") && bytes_eq t.method (codes "offer"))) (kind_is (given answer))
            ∙ ap (λ x. bytes_eq x (codes "zoe") && bytes_eq t.method (codes "offer")) (calling.on o args ∙ ap (λ x. object_name (object x o.number)) e ∙ zoe_name o.number)
            ∙ ap (λ x. bytes_eq x (codes "offer")) calling.method
            ∙ offered)
    opens_by answer n kinds.Zcf e made is = absurd made
    opens_by answer n kind e made is = inl is

    -- a seat that is asked to exit
    abbrev Asked : Tree → Departure → Type 0
    Asked answer x = (i : ℕ) → row at (given answer) i x.seat ≡ Some x.cause

    asked : (answer : Tree) (kind : ObjKind) → o.kind ≡ kind → made_as w kind o.number → AllByRecursion (Asked answer) (departures_as w kind o.number m)
    asked answer kinds.Seat e made = by (bytes_eq m (codes "tryExit")) refl
      where
        by : (b : Bool) → bytes_eq m (codes "tryExit") ≡ b → AllByRecursion (Asked answer) (cond b (one_left o.number causes.asked) [])
        by false bare = tt
        by true offered =
            let t = turn at (given answer) in (
              (λ i.
                  ap (λ x. cause_by_row x t.answer os t i o.number) (kind_is (given answer))
                  ∙ ap (λ x. cause_if (bytes_eq x (name (codes "seat") o.number) && bytes_eq t.method (codes "tryExit")) causes.asked) (calling.on o args ∙ ap (λ x. object_name (object x o.number)) e)
                  ∙ ap (λ x. cause_if (x && bytes_eq t.method (codes "tryExit")) causes.asked) (seat_same o.number)
                  ∙ ap (λ x. cause_if (bytes_eq x (codes "tryExit")) causes.asked) calling.method
                  ∙ ap (λ x. cause_if x causes.asked) offered),
              tt,
            )
    asked answer kinds.Zseat e made = absurd made
    asked answer kinds.Zcf e made = absurd made
    asked answer kind e made = tt

    abbrev answered : Tree → Turn
    answered answer = turn at (given answer)

    wide : o.kind ≡ kinds.Seat → o.number < 2 ^ 128
    wide e = let made : o.number < length w.seats = subst (λ x. made_as w x o.number) e known in omega (arith, made, steady.counted.seats)

    answered_turn : (answer : Tree) (es : List Effect) → CanCall w None o args → serve_call read w o m args ≡ Ok (answer, es) → IsRule w None o m args answer es → Turns at (given answer) es
    answered_turn answer es can so is = record {
      shows = fits at (given answer) es is.good (row_fit (turn at (given answer)) (row at (given answer)) w o m w es (subst (AllByRecursion IsNoCalled) (sym empty) tt) is.acts is.stored
          (opens_by answer (openings_in es) o.kind refl known is.opens)
          (subst (AllByRecursion (Asked answer)) (sym is.leaves) (asked answer o.kind refl known)));
      stays = λ n opens. ap (λ x. cause_by_row x (answered answer).answer os (answered answer) (seat_at (last (given answer) es).seats n).instance n) (kind_is (given answer)) ∙ by n opens (serves (name (codes "seat") n) (codes "tryExit") (answered answer)) refl;
      quiet = λ e is. cc;
      held = service_reads w o m args answer es (answered answer) steady can so (record { on = calling.on o args; method = calling.method; arguments = calling.arguments o args; answered = refl });
    }
      where
        by : (n : ℕ) → IsOpen (seat_at (last (given answer) es).seats n) → (b : Bool) → serves (name (codes "seat") n) (codes "tryExit") (answered answer) ≡ b → cause_if b causes.asked ≡ None
        by n opens false e = refl
        by n opens true e =
            let on = and_first (bytes_eq (answered answer).on (name (codes "seat") n)) (bytes_eq (answered answer).method (codes "tryExit")) e in
            let method = and_second (bytes_eq (answered answer).on (name (codes "seat") n)) (bytes_eq (answered answer).method (codes "tryExit")) e in
            let here : o ≡ object kinds.Seat n = seat_is n o wide (sym (ap (λ x. bytes_eq x (name (codes "seat") n)) (calling.on o args)) ∙ on) in
            let left : departures_in es ≡ departure n causes.asked ∷ [] = is.leaves ∙ ap (λ x. departures_by w x m) here ∙ ap (λ x. cond x (one_left n causes.asked) []) (sym (ap (λ x. bytes_eq x (codes "tryExit")) calling.method) ∙ method) in
            absurd (not_open (given answer) es n (one_closed w es n causes.asked is.good left) opens)

    undated : IsUndated (kind_of d at)
    undated = subst IsUndated (sym (kind_is (given null))) tt

    served_turn : (outcome : Outcome) → CanCall w None o args → serve_call read w o m args ≡ outcome → IfOk outcome (λ x. IsRule w None o m args x.0 x.1) → TurnsBy at (outcome_work outcome)
    served_turn (Err e) can so is = refused_turn at e undated
    served_turn (Ok (answer, es)) can so is = answered_turn answer es can so is

  -- ---- functions

  -- the turn is of a function of the instance
  record IsRunning (r : Reading) (i : ℕ) : Type 0 where
    of : IsOfFunction (kind_of d r)
    instance : (a : Answer) → ours r a ≡ Some (named kinds.Instance i)

  -- what a function threw leaves no seat open of which that shows a cause
  abbrev ThrewStays : Reading → Type 0
  ThrewStays r = (x : Tree) (es : List Effect) → AreGood (done es) (ending d (threw x) (done es)) → Stays r (threw x) es

  ended_stays : (r : Reading) (i : ℕ) → IsRunning r i → ThrewStays r → (a : Answer) → IsGivenOrThrown a → (es : List Effect) → AreGood (done es) (ending d a (done es)) → Stays r a es
  ended_stays r i running threw_so (given x) is es end = λ n opens. none_by_given (kind_of d r) running.of os (turn r (given x)) (seat_at (last (given x) es).seats n).instance n (data_rows.printed x)
  ended_stays r i running threw_so (threw x) is es end = threw_so x es end
  ended_stays r i running threw_so (refused x) is es end = absurd is
  ended_stays r i running threw_so (spent x) is es end = absurd is

  module _ (r : Reading) (i : ℕ) (made : i < length w.tables.instances) (running : IsRunning r i) (threw_so : ThrewStays r) where
    abbrev Ran : Run → Type 0
    Ran x = (a : Answer) → RunShows os (turn r a) i w x

    no_service : kind_of d r ≡ turn_kinds.service → ⊥
    no_service e = subst IsOfFunction e running.of

    ended_turn : (e : Ending) (values : List Tree) (es : List Effect) → Ran (ended e values es) → IsTurnWork w d (run_work meter w i (ended e values es)) → TurnsBy r (run_work meter w i (ended e values es))
    ended_turn e values es ran is =
        let a = answer_of_ending e in
        let kept : List Effect = keep_state i values ∷ [] in
        let all = es ++ kept in
        let j : Option (List ℕ) = Some (named kinds.Instance i) in
        let one = ran a in
        let two = fit_all os (turn r a) none_shown (λ x n c e. cc) j (done es) kept one.holds one.owes (second_good w es kept is.good) (tt, tt) in
        let both = shows_both os (turn r a) none_shown j w es kept (after_both w es kept) one two in
        record {
          shows = weaker_shows os (turn r a) (row r a) (ours r a) w all (subst (λ x. Shows os (turn r a) none_shown x w all) (sym (running.instance a)) both);
          stays = ended_stays r i running threw_so a (function_answer e) all (ending_good (done all) d a is.front is.out is.free);
          quiet = λ x is. absurd (subst IsGivenOrThrown is (function_answer e));
          held = unread r a no_service;
        }

    abbrev spends : Answer
    spends = spent meter

    abbrev halts : List Effect
    halts = halt_with causes.spent w i

    spent_shown : (n : ℕ) → row r spends i n ≡ Some causes.spent
    spent_shown n =
        by_spent (kind_of d r) running.of os (turn r spends) i n meter
        ∙ ap (λ x. cause_if (is_of x i) causes.spent) (running.instance spends)
        ∙ ap (λ b. cause_if b causes.spent) (instance_same i)

    spent_turn : IsTurnWork w d (run_work meter w i ran_out) → TurnsBy r (run_work meter w i ran_out)
    spent_turn is = record {
      shows = fits r spends halts is.good (halts_fit (turn r spends) (row r spends) i causes.spent spent_shown w (all_open w i) (all_own i w.seats));
      stays = λ n opens.
          by_spent (kind_of d r) running.of os (turn r spends) (seat_at (last spends halts).seats n).instance n meter
          ∙ ap (λ x. cause_if (is_of x (seat_at (last spends halts).seats n).instance) causes.spent) (running.instance spends)
          ∙ by n opens (bytes_eq (named kinds.Instance i) (instance_name (seat_at (last spends halts).seats n).instance)) refl;
      quiet = λ e is. cc;
      held = unread r spends no_service;
    }
      where
        same : (last spends halts).seats ≡ (done halts).seats
        same = spent_same d meter (done halts)

        none : (n : ℕ) → IsOpen (seat_at (last spends halts).seats n) → (seat_at (last spends halts).seats n).instance ≢ i
        none n = subst (λ (x : List Seat). IsOpen (seat_at x n) → (seat_at x n).instance ≢ i) (sym same) (none_open i causes.spent w (all_open w i) is.good n)

        by : (n : ℕ) → IsOpen (seat_at (last spends halts).seats n) → (b : Bool) → bytes_eq (named kinds.Instance i) (instance_name (seat_at (last spends halts).seats n).instance) ≡ b → cause_if b causes.spent ≡ None
        by n opens false e = refl
        by n opens true e = absurd (none n opens (sym (instance_there i (seat_at (last spends halts).seats n).instance (omega (arith, made, steady.counted.instances)) e)))

    ran_turn : (x : Run) → Ran x → IsTurnWork w d (run_work meter w i x) → TurnsBy r (run_work meter w i x)
    ran_turn (ended e values es) ran is = ended_turn e values es ran is
    ran_turn ran_out ran is = spent_turn is

  run_turn : (r : Reading) (c : FunctionCall) → c.instance < length w.tables.instances → AllHave (IsKnownTo w c.instance) c.arguments → IsRunning r c.instance → ThrewStays r
      → IsTurnWork w d (task_work read meter w (tasks.run c)) → TurnsBy r (task_work read meter w (tasks.run c))
  unfolding task_work function_run
  run_turn r c made known running threw_so is =
      let m = module_of w.tables c.instance in
      let values = (instance_at w.tables.instances c.instance).state in
      let kept : AllHave (IsKnownTo w c.instance) values = have_all (IsKnownTo w c.instance) values (whole.instances.each c.instance made).state in
      let p = module_play m c.function c.arguments values meter in
      let asks = evaluates w c.instance whole made c.function c.arguments values meter known kept in
      ran_turn r c.instance made running threw_so (run w c.instance p)
      (λ a. run_shows os (turn r a) c.instance called reads (no_offer (turn r a) running.of) w (length (variable_names m)) made p asks p [] w refl (starts none_shown (Some (named kinds.Instance c.instance))) owes (grows_itself w) tt)
      is

  -- an instance that has halted refuses
  task_turn : (r : Reading) (c : FunctionCall) → c.instance < length w.tables.instances → AllHave (IsKnownTo w c.instance) c.arguments → IsRunning r c.instance → ThrewStays r → IsUndated (kind_of d r)
      → IsTurnWork w d (task_work read meter w (run_task w c)) → TurnsBy r (task_work read meter w (run_task w c))
  unfolding task_work
  task_turn r c made known running threw_so un = by (has_halted (standing_of w c.instance))
    where
      by : (b : Bool) → IsTurnWork w d (task_work read meter w (cond b (refuse (closed c.instance)) (tasks.run c))) → TurnsBy r (task_work read meter w (cond b (refuse (closed c.instance)) (tasks.run c)))
      by true is = refused_turn r (closed c.instance) un
      by false is = run_turn r c made known running threw_so is

  -- ---- calls

  module _ (m : List ℕ) (calling : IsCalling d m) (o : Obj) (args : List Tree) (facet : o.kind ≡ kinds.Facet) (known : made_as w kinds.Facet o.number) (handed : AllByRecursion (IsHanded w) args) where
    abbrev there : Reading
    there = deliveries.target o args

    abbrev f : FacetView
    f = facet_at w.facets o.number

    facet_kind : (a : Answer) → (turn there a).kind ≡ turn_kinds.facet
    facet_kind a = calling.kind o args ∙ ap kind_on facet

    facet_runs : IsRunning there f.instance
    facet_runs = record {
      of = subst IsOfFunction (sym (facet_kind (given null))) tt;
      instance = λ a.
          ap (λ x. instance_of os x (turn there a)) (facet_kind a)
          ∙ ap (λ x. owner_in x os) (calling.on o args ∙ ap (λ x. object_name (object x o.number)) facet)
          ∙ ap (λ n. owner_in (named kinds.Facet n) os) (let e : o.number ≡ 0 + o.number = omega arith in e)
          ∙ owner_found 0 o.number w.facets known (omega (arith, steady.counted.facets));
    }

    facet_threw : ThrewStays there
    facet_threw x es end n opens = ap (λ y. cause_by_row y (turn there (threw x)).answer os (turn there (threw x)) (seat_at (last (threw x) es).seats n).instance n) (facet_kind (threw x))

    facet_undated : IsUndated (kind_of d there)
    facet_undated = subst IsUndated (sym (facet_kind (given null))) tt

    known_all : (ts : List Tree) → AllByRecursion (IsHanded w) ts → AllHave (IsKnownTo w f.instance) ts
    known_all [] h = tt
    known_all (t ∷ ts) h = (handed_held w (Some f.instance) t h.0, known_all ts h.1)

    is_facet : IsFacet w f
    is_facet = all_read (IsFacet w) w.facets o.number no_facet whole.facets known

    method_turn : (x : Option (List ℕ)) → IsTurnWork w d (task_work read meter w (method_task f m args x)) → TurnsBy there (task_work read meter w (method_task f m args x))
    unfolding task_work
    method_turn None is = refused_turn there (no_method m) facet_undated
    method_turn (Some g) is = run_turn there (record { instance = f.instance; function = g; arguments = f.held ∷ args }) is_facet.made (is_facet.held, known_all args handed) facet_runs facet_threw is

    facet_turn : IsTurnWork w d (task_work read meter w (facet_task w f m args)) → TurnsBy there (task_work read meter w (facet_task w f m args))
    unfolding task_work
    facet_turn = by (has_halted (standing_of w f.instance))
      where
        by : (b : Bool) → IsTurnWork w d (task_work read meter w (cond b (refuse (closed f.instance)) (method_task f m args (function_behind m f)))) → TurnsBy there (task_work read meter w (cond b (refuse (closed f.instance)) (method_task f m args (function_behind m f))))
        by true is = refused_turn there (closed f.instance) facet_undated
        by false is = method_turn (function_behind m f) is

  serve_turn : (m : List ℕ) → IsCalling d m → (o : Obj) (args : List Tree) → kind_on o.kind ≡ turn_kinds.service → IsHanded w (trees.object o) → AllByRecursion (IsHanded w) args → TurnsBy (deliveries.target o args) (task_work read meter w (serve o m args))
  unfolding task_work
  serve_turn m calling o args service target handed =
      let can : CanCall w None o args = record {
        good = whole;
        hosted = tt;
        target = target.objects;
        arguments = λ place. all_read_or (IsHanded w) args (place - 1) trees.null handed (null_formed w None);
      } in
      served_turn m calling o args service target.objects (serve_call read w o m args) can refl (served w o m args can)

  on_turn : (m : List ℕ) → IsCalling d m → (kind : ObjKind) (o : Obj) (args : List Tree) → o.kind ≡ kind → IsHanded w (trees.object o) → AllByRecursion (IsHanded w) args
      → IsTurnWork w d (task_work read meter w (task_on kind w o m args)) → TurnsBy (deliveries.target o args) (task_work read meter w (task_on kind w o m args))
  on_turn m calling kinds.Facet o args e target handed is = facet_turn m calling o args e (subst (λ x. made_as w x o.number) e target.objects) handed is
  on_turn m calling kind o args e target handed is = serve_turn m calling o args (ap kind_on e) target handed

  abbrev beginning_turn : Beginning → Type 0
  beginning_turn b = TurnsBy b.reading (task_work read meter w b.task)

  called_turn : (m : List ℕ) → IsCalling d m → IsUndated (kind_of d deliveries.nothing) → (res : Result Addressed Refusal) → IfOk res (IsAddressed w whole) → IsTurnWork w d (task_work read meter w (call_beginning w m res).task) → beginning_turn (call_beginning w m res)
  unfolding task_work
  called_turn m calling un (Ok a) known is = on_turn m calling a.target.kind a.target a.arguments refl known.target known.arguments is
  called_turn m calling un (Err e) known is = refused_turn deliveries.nothing e un

  -- ---- what else is delivered

  give_turn : (g : LineGift) → d ≡ deliveries.give g → (res : Result Tree Refusal) → IsTurnWork w d (task_work read meter w (gift_beginning g res).task) → beginning_turn (gift_beginning g res)
  unfolding task_work
  give_turn g e (Ok t) is = record {
    shows = fits (deliveries.gift t) (given null) (bind_label g.to g.label t ∷ []) is.good (tt, tt);
    stays = λ n opens. let es : List Effect = bind_label g.to g.label t ∷ [] in ap (λ y. cause_by_row (kind_of y (deliveries.gift t)) (rows.ok (data_rows.printed null)) os (turn (deliveries.gift t) (given null)) (seat_at (last (given null) es).seats n).instance n) e;
    quiet = λ e is. cc;
    held = unread (deliveries.gift t) (given null) (λ x. subst IsOther (sym (ap (λ y. kind_of y (deliveries.gift t)) e) ∙ x) tt);
  }
  give_turn g e (Err r) is = refused_turn deliveries.nothing r (subst (λ x. IsUndated (kind_of x deliveries.nothing)) (sym e) tt)

  tick_turn : (t : ℕ) → d ≡ deliveries.tick t → IsTurnWork w d (task_work read meter w (tick_task w.schedule.time t)) → TurnsBy deliveries.nothing (task_work read meter w (tick_task w.schedule.time t))
  unfolding task_work
  tick_turn t e = by (nat_lt t w.schedule.time)
    where
      by : (b : Bool) → IsTurnWork w d (task_work read meter w (cond b (refuse (Backwards w.schedule.time t)) (do_all (set_time t ∷ [])))) → TurnsBy deliveries.nothing (task_work read meter w (cond b (refuse (Backwards w.schedule.time t)) (do_all (set_time t ∷ []))))
      by true is = refused_turn deliveries.nothing (Backwards w.schedule.time t) (subst (λ x. IsUndated (kind_of x deliveries.nothing)) (sym e) tt)
      by false is = record {
        shows = fits deliveries.nothing (given null) (set_time t ∷ []) is.good (tt, tt);
        stays = λ n opens. let es : List Effect = set_time t ∷ [] in ap (λ y. cause_by_row (kind_of y deliveries.nothing) (rows.ok (data_rows.printed null)) os (turn deliveries.nothing (given null)) (seat_at (last (given null) es).seats n).instance n) e;
        quiet = λ e is. cc;
        held = unread deliveries.nothing (given null) (λ x. subst IsOther (sym (ap (λ y. kind_of y deliveries.nothing) e) ∙ x) tt);
      }

-- ---- each delivery

seat_there : (i j : ℕ) → i < 2 ^ 128 → bytes_eq (named kinds.Seat i) (name (codes "seat") j) ≡ true → i ≡ j
unfolding object_name
seat_there i j wide e = numbers_same i j wide e

zseat_there : (i j : ℕ) → i < 2 ^ 128 → bytes_eq (named kinds.Zseat i) (name (codes "zseat") j) ≡ true → i ≡ j
unfolding object_name
zseat_there i j wide e = numbers_same i j wide e

module _ (read : TextReader) (served : AreGoodServices (serve_call read)) (called : AreGoodHostCalls) (reads : CallsRead) (service_reads : ServicesRead read) (meter : ℕ) (w : State) (steady : IsSteady w) (empty : w.log ≡ []) (k : ℕ) (l : List Event) (ss : List Sum) where
  abbrev pub TurnsOf : (d : Delivery) → IsGoodWorld (in_front d w) → Type 0
  TurnsOf d good = beginning_turn read served called reads service_reads meter w d good steady empty k l ss (beginning w d)

  abbrev work_there : (d : Delivery) → IsGoodWorld (in_front d w) → IsTurnWork w d (task_work read meter w (beginning w d).task)
  work_there d good = work_is read served called meter w d good

  abbrev at_end : Delivery → Answer → List Effect → State
  at_end d a es = after_all (after_all w es) (ending d a (after_all w es))

  abbrev left_if : ℕ → List Effect
  left_if seat = exit_if_open w seat causes.deadline

  abbrev dated : ℕ → Turn
  dated seat = turn_with k l ss (deliveries.deadline seat) deliveries.nothing (given null)

  closed_then : (seat : ℕ) → WasLeft (seat_at (at_end (deliveries.deadline seat) (given null) (left_if seat)).seats seat)
  closed_then seat = subst (λ (x : List Seat). WasLeft (seat_at x seat)) (sym (deadline_same seat (after_all w (left_if seat)))) (closed_if w seat causes.deadline)

  -- the seat whose deadline has come is left
  deadline_turn : (seat : ℕ) (good : IsGoodWorld (in_front (deliveries.deadline seat) w)) → seat < length w.seats → IsTurnWork w (deliveries.deadline seat) (record { answer = given null; effects = left_if seat })
      → Turns read served called reads service_reads meter w (deliveries.deadline seat) good steady empty k l ss deliveries.nothing (given null) (left_if seat)
  deadline_turn seat good made is = record {
    shows = fits read served called reads service_reads meter w (deliveries.deadline seat) good steady empty k l ss deliveries.nothing (given null) (left_if seat) is.good
        (if_fit (dated seat) (row_of (owners_told w) (dated seat)) w (is_none (seat_at w.seats seat).last) (exit seat causes.deadline) (ap (λ b. cause_if b causes.deadline) (seat_same seat)));
    stays = λ n opens. by n opens (bytes_eq (named kinds.Seat seat) (name (codes "seat") n)) refl;
    quiet = λ e is. cc;
    held = record { read = record { purse = λ n e is. cc; payment = λ n e is. cc; final = λ n e is. cc }; told = record { purse = λ n e is. cc; payment = λ n e is. cc; final = λ n e is. cc } };
  }
    where
      by : (n : ℕ) → IsOpen (seat_at (at_end (deliveries.deadline seat) (given null) (left_if seat)).seats n) → (b : Bool) → bytes_eq (named kinds.Seat seat) (name (codes "seat") n) ≡ b → cause_if b causes.deadline ≡ None
      by n opens false e = refl
      by n opens true e =
          let end = at_end (deliveries.deadline seat) (given null) (left_if seat) in
          let here : seat ≡ n = seat_there seat n (omega (arith, made, steady.counted.seats)) e in
          absurd (open_or_left (seat_at end.seats n).last opens (subst (λ m. WasLeft (seat_at end.seats m)) here (closed_then seat)))

  start_turn : (s : Start) (good : IsGoodWorld (in_front (deliveries.start s) w)) → TurnsOf (deliveries.start s) good
  unfolding beginning
  start_turn s good =
      let due = due_behind w (deliveries.start s) good in
      task_turn read served called reads service_reads meter w (deliveries.start s) good steady empty k l ss deliveries.nothing (start_call s) due.made
      (object_formed w (Some s.instance) (record { kind = kinds.Zcf; number = s.instance }) refl, (handed_held w (Some s.instance) s.private_arguments due.arguments, tt))
      (record { of = tt; instance = λ a. refl })
      (λ x es end n opens. by due.made x es end n opens (bytes_eq (named kinds.Instance s.instance) (instance_name (seat_at (at_end (deliveries.start s) (threw x) es).seats n).instance)) refl)
      tt (work_there (deliveries.start s) good)
    where
      by : s.instance < length w.tables.instances → (x : Tree) (es : List Effect) → AreGood (after_all w es) (ending (deliveries.start s) (threw x) (after_all w es)) → (n : ℕ) → IsOpen (seat_at (at_end (deliveries.start s) (threw x) es).seats n)
          → (b : Bool) → bytes_eq (named kinds.Instance s.instance) (instance_name (seat_at (at_end (deliveries.start s) (threw x) es).seats n).instance) ≡ b → cause_if b causes.halted ≡ None
      by made x es end n opens false e = refl
      by made x es end n opens true e =
          absurd (start_left (after_all w es) s x end n opens (sym (instance_there s.instance (seat_at (at_end (deliveries.start s) (threw x) es).seats n).instance (omega (arith, made, steady.counted.instances)) e)))

  offer_turn : (o : Offer) (good : IsGoodWorld (in_front (deliveries.offer o) w)) → TurnsOf (deliveries.offer o) good
  unfolding beginning
  offer_turn o good =
      let due = due_behind w (deliveries.offer o) good in
      task_turn read served called reads service_reads meter w (deliveries.offer o) good steady empty k l ss deliveries.nothing (handler_call o) due.function.made
      (object_formed w (Some o.instance) (record { kind = kinds.Zseat; number = o.seat }) due.seat, (handed_held w (Some o.instance) o.offer_arguments due.arguments, (due.held, tt)))
      (record { of = tt; instance = λ a. refl })
      (λ x es end n opens. by due.seat.made x es n opens (bytes_eq (named kinds.Zseat o.seat) (name (codes "zseat") n)) refl)
      tt (work_there (deliveries.offer o) good)
    where
      by : o.seat < length w.seats → (x : Tree) (es : List Effect) (n : ℕ) → IsOpen (seat_at (at_end (deliveries.offer o) (threw x) es).seats n) → (b : Bool) → bytes_eq (named kinds.Zseat o.seat) (name (codes "zseat") n) ≡ b → cause_if b causes.threw ≡ None
      by made x es n opens false e = refl
      by made x es n opens true e =
          let end = at_end (deliveries.offer o) (threw x) es in
          let here : o.seat ≡ n = zseat_there o.seat n (omega (arith, made, steady.counted.seats)) e in
          absurd (open_or_left (seat_at end.seats n).last opens (subst (λ m. WasLeft (seat_at end.seats m)) here (handler_closed (after_all w es) o x)))

  bad_turn : (r : Refusal) (good : IsGoodWorld (in_front (deliveries.bad r) w)) → TurnsOf (deliveries.bad r) good
  unfolding beginning task_work
  bad_turn r good = refused_turn read served called reads service_reads meter w (deliveries.bad r) good steady empty k l ss deliveries.nothing r tt

  end_turn : (seat : ℕ) (good : IsGoodWorld (in_front (deliveries.deadline seat) w)) → TurnsOf (deliveries.deadline seat) good
  unfolding beginning task_work
  end_turn seat good = deadline_turn seat good (due_behind w (deliveries.deadline seat) good) (work_there (deliveries.deadline seat) good)

  pub turns_of : (d : Delivery) (good : IsGoodWorld (in_front d w)) → TurnsOf d good
  unfolding beginning
  turns_of (deliveries.call c) good =
      let d = deliveries.call c in
      called_turn read served called reads service_reads meter w d good steady empty k l ss c.method (record { kind = λ o args. refl; on = λ o args. refl; method = refl; arguments = λ o args. refl }) tt (addressed w c)
      (weaker_ok (IsCalled w (good_behind w d good) c) (IsAddressed w (good_behind w d good)) (addressed w c) (λ a is. is.addressed_to) (addressed_there w (good_behind w d good) c (due_behind w d good)))
      (work_there d good)
  turns_of (deliveries.send s) good =
      let d = deliveries.send s in
      called_turn read served called reads service_reads meter w d good steady empty k l ss s.method (record { kind = λ o args. refl; on = λ o args. refl; method = refl; arguments = λ o args. refl }) tt (sent_to w s)
      (sent_there w (good_behind w d good) s (due_behind w d good))
      (work_there d good)
  turns_of (deliveries.give g) good = give_turn read served called reads service_reads meter w (deliveries.give g) good steady empty k l ss g refl (gift_of w g) (work_there (deliveries.give g) good)
  turns_of (deliveries.tick t) good = tick_turn read served called reads service_reads meter w (deliveries.tick t) good steady empty k l ss t refl (work_there (deliveries.tick t) good)
  turns_of (deliveries.bad r) good = bad_turn r good
  turns_of (deliveries.start s) good = start_turn s good
  turns_of (deliveries.offer o) good = offer_turn o good
  turns_of (deliveries.wake x) good =
      let d = deliveries.wake x in
      let due = due_behind w d good in
      task_turn read served called reads service_reads meter w d good steady empty k l ss (deliveries.time w.schedule.time) (wakeup_call x w.schedule.time) due.function.made
      (due.held, (number_known read served called meter w d good x.instance w.schedule.time, tt))
      (record { of = tt; instance = λ a. refl }) (λ y es end n opens. refl) tt (work_there d good)
  turns_of (deliveries.notify n) good =
      let d = deliveries.notify n in
      let due = due_behind w d good in
      let s = settlement_of w n.promise in
      let told : IsHanded w (notice_tree s) = notice_handed read served called meter w d good s (settlement_handed w (good_behind w d good) n.promise due.notice.promise) in
      task_turn read served called reads service_reads meter w d good steady empty k l ss (deliveries.settlement s) (notice_call n s) due.notice.function.made
      (due.notice.held, (handed_held w (Some n.instance) (notice_tree s) told, tt))
      (record { of = tt; instance = λ a. refl }) (λ y es end m opens. refl) tt (work_there d good)
  turns_of (deliveries.deadline seat) good = end_turn seat good
