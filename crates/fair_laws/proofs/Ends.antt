-- How a turn ends: the seats that its end leaves are left for what the turn's own row shows, and then none is open of
-- which the row shows a cause.
use Rattle.std.specs.Prelude.{◌≡◌, ◌≢◌, ◌<◌, ◌++◌, ℕ, Bool, true, false, cond, List, [], ◌∷◌, Option, Some, None, IsSome, codes, decimal, is_none, length, refl}
use Rattle.std.specs.List.{AllByRecursion}
use Rattle.std.specs.Str.{bytes_eq}
use Rattle.std.proofs.Common.{sym, ◌∙◌, ap, subst, arith}
use Rattle.delivery_laws.specs.rules.Traces.{Departure, all_open, departure, departures_in}
use Rattle.delivery_laws.proofs.rule_laws.OpenSeats.{all_own}
use Rattle.delivery_laws.specs.turn_records.Names.{object_name}
use Rattle.delivery_laws.proofs.Ends.{open_there}
use Rattle.delivery_laws.proofs.Runs.{after_both, all_grow}
use Rattle.delivery_laws.specs.delivery_turns.Endings.{binds, binds_to, departs, ending, publishes, settles, without_cycle}
use Rattle.delivery_laws.specs.delivery_turns.Tasks.{exit_if_open, exits_with}
use Rattle.fair_rows.specs.ExitCauses.{Owners, cause_if, name}
use Rattle.delivery_laws.specs.host_data.Tree.{Tree, null}
use Rattle.delivery_laws.specs.host_data.declared.data.ObjKind.TheVariants as kinds
use Rattle.delivery_laws.proofs.lemmas.ListEdits.{read_set}
use Rattle.delivery_laws.specs.promise_store.States.{SettlementView}
use Rattle.delivery_laws.specs.promise_store.declared.links.Following.{Following}
use Rattle.delivery_laws.specs.proposals.declared.allocations.Share.{Share}
use Rattle.fair_rows.specs.rights_model.declared.Sum.{Sum}
use Rattle.delivery_laws.specs.turn_records.Settlements.{settled_after}
use Rattle.delivery_laws.specs.turn_records.Deliveries as deliveries
use Rattle.delivery_laws.specs.turn_records.Deliveries.{Delivery, Offer, Reading, Start, promise_of}
use Rattle.delivery_laws.specs.turn_records.Events.{Answer, Event, given, spent, threw}
use Rattle.delivery_laws.specs.turn_records.Printed.{named, printed}
use Rattle.fair_rows.specs.turn_rows.Causes as causes
use Rattle.fair_rows.specs.turn_rows.Causes.{Cause}
use Rattle.fair_rows.specs.turn_rows.Rows.{instance_name}
use Rattle.fair_rows.specs.turn_rows.Turns.{Turn}
use Rattle.delivery_laws.proofs.world_laws.Forms.{seat_grows}
use Rattle.delivery_laws.proofs.world_laws.Growing.{grows-after}
use Rattle.delivery_laws.proofs.world_laws.Instances.{open_made}
use Rattle.delivery_laws.proofs.world_laws.Lists.{all_map}
use Rattle.delivery_laws.specs.world_state.Good.{AreGood}
use Rattle.delivery_laws.specs.world_state.Known.{IsSeatOf, WasLeft}
use Rattle.delivery_laws.specs.world_state.Rights.{slots_at}
use Rattle.delivery_laws.specs.world_state.Worlds.{Effect, IsOpen, Seat, State, after, after_all, end_staging, exit, halt, left_seat, no_seat, resolve, seat_at}
use Rattle.fair_laws.proofs.Holding.{AreFit, IsFit, fit_both, row_of}
use Rattle.fair_laws.proofs.Names.{same_bytes}
use Rattle.fair_laws.proofs.Telling.{Showing}

-- ---- a turn's row

abbrev pub turn_with : ℕ → List Event → List Sum → Delivery → Reading → Answer → Turn
turn_with k l ss d r a = printed (record { number = k; delivery = d; reading = r; answer = a; events = l; sums = ss })

pub zseat_same : (n : ℕ) → bytes_eq (named kinds.Zseat n) (name (codes "zseat") n) ≡ true
unfolding object_name
zseat_same n = same_bytes (codes "zseat" ++ decimal n)

pub seat_same : (n : ℕ) → bytes_eq (named kinds.Seat n) (name (codes "seat") n) ≡ true
unfolding object_name
seat_same n = same_bytes (codes "seat" ++ decimal n)

pub instance_same : (i : ℕ) → bytes_eq (named kinds.Instance i) (instance_name i) ≡ true
unfolding object_name
instance_same i = same_bytes (codes "instance" ++ decimal i)

-- ---- parts of a turn's end that need nothing

module _ (t : Turn) (row : Showing) (v : State) where
  publishes_fit : (d : Delivery) (a : Answer) → AreFit t row v (publishes d a)
  publishes_fit (deliveries.start s) (given x) = (tt, tt)
  publishes_fit d a = tt

  settles_fit : (fs : List Following) (o : Option ℕ) (x : SettlementView) → AreFit t row v (settles fs o x)
  settles_fit fs None x = tt
  settles_fit fs (Some p) x = (tt, tt)

  label_fit : (party : List ℕ) (label : Option (List ℕ)) (x : Tree) → AreFit t row v (binds_to party label x)
  label_fit party None x = tt
  label_fit party (Some label) x = (tt, tt)

  binds_fit : (d : Delivery) (a : Answer) → AreFit t row v (binds d a)
  binds_fit (deliveries.call c) (given x) = label_fit c.by c.label x
  binds_fit d a = tt

  pub if_fit : (b : Bool) (e : Effect) → IsFit t row v e → AreFit t row v (cond b (e ∷ []) [])
  if_fit true e is = (is, tt)
  if_fit false e is = tt

same_published : (u : State) (d : Delivery) (a : Answer) → (after_all u (publishes d a)).seats ≡ u.seats
same_published u (deliveries.start s) (given x) = refl
same_published u d a = refl

same_settled : (u : State) (fs : List Following) (o : Option ℕ) (x : SettlementView) → (after_all u (settles fs o x)).seats ≡ u.seats
same_settled u fs None x = refl
same_settled u fs (Some p) x = refl

-- ---- seats that are left

-- all open seats of an instance, for a cause that the row shows of each
pub halts_fit : (t : Turn) (row : Showing) (i : ℕ) (cause : Cause) → ((n : ℕ) → row i n ≡ Some cause) → (v : State) (ns : List ℕ) → AllByRecursion (IsSeatOf v.seats i) ns → AreFit t row v (exits_with cause ns ++ halt i ∷ [])
halts_fit t row i cause shown v [] own = (tt, tt)
halts_fit t row i cause shown v (n ∷ ns) own =
    let next = after v (exit n cause) in (
      ap (λ j. row j n) own.0.own ∙ shown n,
      halts_fit t row i cause shown next ns (all_map (IsSeatOf v.seats i) (IsSeatOf next.seats i) (seat_grows v next (grows-after v (exit n cause)) i) ns own.1),
    )

module _ (k : ℕ) (l : List Event) (ss : List Sum) (owners : Owners) where
  abbrev row_with : Delivery → Reading → Answer → Showing
  row_with d r a = row_of owners (turn_with k l ss d r a)

  departs_fit : (d : Delivery) (r : Reading) (a : Answer) (u v : State) → v.seats ≡ u.seats → AreFit (turn_with k l ss d r a) (row_with d r a) v (departs d a u)
  departs_fit (deliveries.offer o) r (threw x) u v same =
      if_fit (turn_with k l ss (deliveries.offer o) r (threw x)) (row_with (deliveries.offer o) r (threw x)) v (is_none (seat_at u.seats o.seat).last) (exit o.seat causes.threw)
      (ap (λ b. cause_if b causes.threw) (zseat_same o.seat))
  departs_fit (deliveries.start s) r (threw x) u v same =
      halts_fit (turn_with k l ss (deliveries.start s) r (threw x)) (row_with (deliveries.start s) r (threw x)) s.instance causes.halted
      (λ n. ap (λ b. cause_if b causes.halted) (instance_same s.instance)) v (all_open u s.instance)
      (subst (λ (seats : List Seat). AllByRecursion (IsSeatOf seats s.instance) (all_open u s.instance)) (sym same) (all_own s.instance u.seats))
  departs_fit d r a u v same = tt

  pub ending_fit : (d : Delivery) (r : Reading) (a : Answer) (u : State) → AreFit (turn_with k l ss d r a) (row_with d r a) u (ending d a u)
  unfolding ending
  ending_fit d r a u =
      let t = turn_with k l ss d r a in
      let row = row_with d r a in
      let settled = settles u.promises.follows (promise_of d) (settled_after d a) in
      let v = after_all u (publishes d a) in
      let x = after_all v settled in
      let y = after_all x (departs d a u) in
      let same : x.seats ≡ u.seats = same_settled v u.promises.follows (promise_of d) (settled_after d a) ∙ same_published u d a in
      fit_both t row u (publishes d a) (settled ++ (departs d a u ++ (binds d a ++ end_staging ∷ []))) (publishes_fit t row u d a)
      (fit_both t row v settled (departs d a u ++ (binds d a ++ end_staging ∷ [])) (settles_fit t row v u.promises.follows (promise_of d) (settled_after d a))
      (fit_both t row x (departs d a u) (binds d a ++ end_staging ∷ []) (departs_fit d r a u x same)
      (fit_both t row y (binds d a) (end_staging ∷ []) (binds_fit t row y d a) (tt, tt))))

-- ---- seats that were left stay so

pub closes : (v : State) (s : ℕ) (cause : Cause) → IsOpen (seat_at v.seats s) → WasLeft (seat_at (after v (exit s cause)).seats s)
closes v s cause opens =
    let rows = slots_at v.rights.slots s in
    subst (λ (x : Seat). IsSome x.last) (sym (read_set v.seats s (left_seat (seat_at v.seats s) rows) no_seat (open_made v.seats s opens))) refl

pub open_or_left : (last : Option (List Share)) → last ≡ None → IsSome last → ⊥
open_or_left None e h = cc
open_or_left (Some rows) e h = cc

not_none : (last : Option (List Share)) → is_none last ≡ false → IsSome last
not_none None e = cc
not_none (Some rows) e = refl

-- a seat is left where it is still open
pub closed_if : (v : State) (s : ℕ) (cause : Cause) → WasLeft (seat_at (after_all v (exit_if_open v s cause)).seats s)
closed_if v s cause = by (is_none (seat_at v.seats s).last) refl
  where
    by : (b : Bool) → is_none (seat_at v.seats s).last ≡ b → WasLeft (seat_at (after_all v (cond b (exit s cause ∷ []) [])).seats s)
    by true e = closes v s cause (open_there (seat_at v.seats s).last e)
    by false e = not_none (seat_at v.seats s).last e

abbrev first_seat : List Departure → ℕ
first_seat [] = 0
first_seat (d ∷ ds) = d.seat

stays_left : (v : State) (es : List Effect) (n : ℕ) → n < length v.seats → WasLeft (seat_at v.seats n) → WasLeft (seat_at (after_all v es).seats n)
stays_left v es n lt was = (all_grow v es).left.each n lt was

-- effects that leave one seat leave it so
pub record IsClosed (v : State) (n : ℕ) : Type 0 where
  pub made : n < length v.seats
  pub left : WasLeft (seat_at v.seats n)

pub one_closed : (v : State) (es : List Effect) (n : ℕ) (cause : Cause) → AreGood v es → departures_in es ≡ departure n cause ∷ [] → IsClosed (after_all v es) n
one_closed v [] n cause good e = cc
one_closed v (exit s c ∷ es) n cause good e =
    let same : s ≡ n = ap first_seat e in
    let lt : s < length v.seats = open_made v.seats s good.0 in
    let more = (grows-after v (exit s c)).seats.more in
    let there : s < length (after v (exit s c)).seats = omega (arith, lt, more) in
    let later = (all_grow (after v (exit s c)) es).seats.more in
    subst (IsClosed (after_all v (exit s c ∷ es))) same (record { made = omega (arith, there, later); left = stays_left (after v (exit s c)) es s there (closes v s c good.0) })
one_closed v (x ∷ es) n cause good e = one_closed (after v x) es n cause good.1 e

-- ---- seats of an instance that halts

pub none_open : (i : ℕ) (cause : Cause) (v : State) (ns : List ℕ) → AreGood v (exits_with cause ns ++ halt i ∷ [])
    → (s : ℕ) → IsOpen (seat_at (after_all v (exits_with cause ns ++ halt i ∷ [])).seats s) → (seat_at (after_all v (exits_with cause ns ++ halt i ∷ [])).seats s).instance ≢ i
none_open i cause v [] good = good.0.left
none_open i cause v (n ∷ ns) good = none_open i cause (after v (exit n cause)) ns good.1

pub first_good : (v : State) (es fs : List Effect) → AreGood v (es ++ fs) → AreGood v es
first_good v [] fs good = tt
first_good v (e ∷ es) fs good = (good.0, first_good (after v e) es fs good.1)

pub second_good : (v : State) (es fs : List Effect) → AreGood v (es ++ fs) → AreGood (after_all v es) fs
second_good v [] fs good = good
second_good v (e ∷ es) fs good = second_good (after v e) es fs good.1

-- ---- what the ends of turns leave

module _ (u : State) (o : Offer) (x : Tree) where
  abbrev settled_there : State
  settled_there = after u (resolve o.promise (without_cycle u.promises.follows o.promise (settled_after (deliveries.offer o) (threw x))))

  pub handler_closed : WasLeft (seat_at (after_all u (ending (deliveries.offer o) (threw x) u)).seats o.seat)
  unfolding ending
  handler_closed = by (is_none (seat_at u.seats o.seat).last) refl
    where
      by : (b : Bool) → is_none (seat_at u.seats o.seat).last ≡ b → WasLeft (seat_at (after_all settled_there (cond b (exit o.seat causes.threw ∷ []) [] ++ end_staging ∷ [])).seats o.seat)
      by true e = closes settled_there o.seat causes.threw (open_there (seat_at u.seats o.seat).last e)
      by false e = not_none (seat_at u.seats o.seat).last e

-- no seat of an instance is open whose start threw
module _ (u : State) (s : Start) (x : Tree) where
  abbrev started_there : State
  started_there = after u (resolve s.promise (without_cycle u.promises.follows s.promise (settled_after (deliveries.start s) (threw x))))

  abbrev halted_there : List Effect
  halted_there = exits_with causes.halted (all_open u s.instance) ++ halt s.instance ∷ []

  pub start_left : AreGood u (ending (deliveries.start s) (threw x) u) → (n : ℕ) → IsOpen (seat_at (after_all u (ending (deliveries.start s) (threw x) u)).seats n)
      → (seat_at (after_all u (ending (deliveries.start s) (threw x) u)).seats n).instance ≢ s.instance
  unfolding ending
  start_left good n =
      subst (λ (y : State). IsOpen (seat_at y.seats n) → (seat_at y.seats n).instance ≢ s.instance) (sym (after_both started_there halted_there (end_staging ∷ [])))
      (none_open s.instance causes.halted started_there (all_open u s.instance) (first_good started_there halted_there (end_staging ∷ []) good.1) n)

-- seats at the end of a turn whose meter was spent, and of a deadline's
pub deadline_same : (s : ℕ) (u : State) → (after_all u (ending (deliveries.deadline s) (given null) u)).seats ≡ u.seats
unfolding ending
deadline_same s u = refl

pub spent_same : (d : Delivery) (m : ℕ) (u : State) → (after_all u (ending d (spent m) u)).seats ≡ u.seats
unfolding ending
spent_same (deliveries.call c) m u = refl
spent_same (deliveries.send s) m u = refl
spent_same (deliveries.give g) m u = refl
spent_same (deliveries.tick t) m u = refl
spent_same (deliveries.bad r) m u = refl
spent_same (deliveries.start s) m u = refl
spent_same (deliveries.offer o) m u = refl
spent_same (deliveries.wake x) m u = refl
spent_same (deliveries.notify n) m u = refl
spent_same (deliveries.deadline s) m u = refl
