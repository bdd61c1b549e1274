-- Each movement of a turn is by right: of its call, of the seat that is left, or of its delivery.
use Rattle.std.specs.Prelude.{◌≡◌, ◌⊎◌, ◌≤◌, ◌<◌, ◌+◌, ◌++◌, ◌==◌, ℕ, suc, Bool, true, false, cond, List, [], ◌∷◌, Option, Some, None, IsSomeAnd, IfOk, Ok, Err, codes, length, map, nat_lt, slice_set, refl}
use Rattle.std.specs.List.{AllByRecursion}
use Rattle.std.specs.Str.{bytes_eq}
use Rattle.std.proofs.Common.{inl, inr, sym, ◌∙◌, ap, subst, arith}
use Rattle.std.proofs.lemmas.Bool.{cases_lt, eq-eqb}
use Rattle.std.proofs.lemmas.Option.{same_Some}
use Rattle.std.proofs.lemmas.Slice.Eq.{bytes_eq-Decides}
use Rattle.fair_laws.specs.call_arguments.Arguments.{is_kind}
use Rattle.fair_laws.specs.rules.Acts.{IsInviting, MayAct}
use Rattle.fair_laws.specs.rules.Licence.{AreLicensed, ContractGives, ContractTakes, IsCall, IsLicensed, IsObject, ServiceTakes}
use Rattle.fair_laws.specs.rules.Methods.{serve_own}
use Rattle.fair_laws.specs.rules.Obligations.{IsRule}
use Rattle.fair_laws.specs.rules.Outcomes.{Outcome}
use Rattle.fair_laws.specs.rules.PromisesAndFacets.{far_rule, send_rule, when_rule}
use Rattle.fair_laws.specs.rules.Traces.{Departure, departure, departures_as, departures_in, movements_in}
use Rattle.fair_laws.specs.delivery_laws.Works.{AreGoodHostCalls}
use Rattle.fair_laws.proofs.delivery_laws.Runs.{after_both, all_grow, grows_on}
use Rattle.fair_laws.specs.delivery_turns.HostCalls.{call_effects, told_call, told_effects}
use Rattle.fair_laws.proofs.Ends.{first_good, second_good}
use Rattle.fair_laws.proofs.Moves.{to_made}
use Rattle.fair_laws.proofs.PaymentViews.{all_more}
use Rattle.fair_laws.specs.fair_rows.Movements.{is_payment_at}
use Rattle.fair_laws.specs.jessie_semantics.Keeping.{CallHas}
use Rattle.fair_laws.specs.jessie_semantics.Play as plays
use Rattle.fair_laws.proofs.lemmas.ListEdits.{length_push, length_set}
use Rattle.fair_laws.specs.vault_model.Lists.{amount_of}
use Rattle.fair_laws.specs.vault_model.Tables.{no_hand}
use Rattle.fair_laws.specs.world_state.amount_math.Content.{Content}
use Rattle.fair_laws.specs.world_state.holders.PaymentViews.{PaymentView, live_payment}
use Rattle.fair_laws.specs.world_state.host_data.Tree.{Tree}
use Rattle.fair_laws.specs.world_state.host_data.declared.data.Obj.{Obj}
use Rattle.fair_laws.specs.world_state.host_data.declared.data.ObjKind.{ObjKind}
use Rattle.fair_laws.specs.world_state.host_data.declared.data.ObjKind.TheVariants as kinds
use Rattle.fair_laws.specs.world_state.proposals.declared.allocations.Share.{Share}
use Rattle.fair_laws.specs.world_state.promise_store.States.{SettlementView}
use Rattle.fair_laws.specs.world_state.rights_model.Table.{movement}
use Rattle.fair_laws.specs.world_state.rights_model.declared.Holder.{Holder}
use Rattle.fair_laws.specs.world_state.rights_model.declared.Holder.TheVariants.{Hand, Outside, Payment, Purse, Slot}
use Rattle.fair_laws.specs.world_state.rights_model.declared.Movement.{Movement}
use Rattle.fair_laws.specs.world_state.turn_records.Deliveries as deliveries
use Rattle.fair_laws.specs.world_state.turn_records.Deliveries.{Delivery, Reading}
use Rattle.fair_laws.specs.world_state.turn_records.Events as events
use Rattle.fair_laws.specs.world_state.turn_records.Events.{Answer, Event, Leaving}
use Rattle.fair_laws.specs.world_state.turn_rows.Causes as causes
use Rattle.fair_laws.specs.world_state.turn_rows.Causes.{Cause}
use Rattle.fair_laws.specs.world_state.turn_stores.Details.{DetailsView}
use Rattle.fair_laws.proofs.world_laws.Forms.{seat_grows}
use Rattle.fair_laws.proofs.world_laws.Growing.{grows-after}
use Rattle.fair_laws.proofs.world_laws.Lists.{length_append, length_map}
use Rattle.fair_laws.specs.world_state.Good.{AreGood, IsGoodEffect, IsGoodWorld}
use Rattle.fair_laws.specs.world_state.Known.{Grows, IsKnownTo, IsMadeBy, IsSeatOf, made_as}
use Rattle.fair_laws.specs.world_state.Rights.{CanMoveAll, Rights, all_moved, all_spent, hand_after, moved, moved_together, paid, paid_payment, slots_at, spent_from, taken, with_slots}
use Rattle.fair_laws.specs.world_state.Worlds.{Effect, State, after, after_all, burn_and_escrows, empty_seat, empty_slots, exit, invitation_move, invitation_value, invite, leaving_events, moves, moves_out, note_call, of_instance, offer, paid_out, payout_moves, payouts_at, resolve}
use Rattle.licence_laws.specs.Came.{runs_in}
use Rattle.licence_laws.specs.Movements.{AreMovedBy, GivesByRight, IsByRight, IsMovedBy, IsOfExit, IsOfFunction, IsOfService, IsPayout, MayMove, RowsSoFar, TakesByRight, Told, payments_with, with_row}
use Rattle.licence_laws.proofs.Effects.{IsStill, first_all, second_all}
use Rattle.licence_laws.proofs.Rows.{AreStill, call_can, far_is_still, send_is_still, when_is_still}
use Rattle.licence_laws.proofs.Told.{all_told, exit_settles, resolve_settles, settlements, told_both, told_by}
use Rattle.licence_laws.proofs.Works.{MayBeLeft, Parts}

-- ---- rows one after another

abbrev pub after_rows : RowsSoFar → List Event → RowsSoFar
after_rows rows [] = rows
after_rows rows (e ∷ es) = after_rows (with_row rows e) es

rows_both : (rows : RowsSoFar) (xs ys : List Event) → after_rows rows (xs ++ ys) ≡ after_rows (after_rows rows xs) ys
rows_both rows [] ys = refl
rows_both rows (x ∷ xs) ys = rows_both (with_row rows x) xs ys

module _ (May : RowsSoFar → Movement → Type 0) where
  moved_both : (rows : RowsSoFar) (xs ys : List Event) → AreMovedBy May rows xs → AreMovedBy May (after_rows rows xs) ys → AreMovedBy May rows (xs ++ ys)
  moved_both rows [] ys one two = two
  moved_both rows (x ∷ xs) ys one two = (one.0, moved_both (with_row rows x) xs ys one.1 two)

  settlements_move : (rows : RowsSoFar) (ps : List (ℕ × SettlementView)) → AreMovedBy May rows (settlements ps)
  settlements_move rows [] = tt
  settlements_move rows (p ∷ ps) = (tt, settlements_move rows ps)

  -- what tells of no movement
  still_moves : (rows : RowsSoFar) (u : State) (e : Effect) → IsStill e → AreMovedBy May rows (told_by u e)
  still_moves rows u (moves ms) still = absurd still
  still_moves rows u (offer o) still = absurd still
  still_moves rows u (invite d) still = absurd still
  still_moves rows u (note_call c) still = absurd still
  still_moves rows u (exit seat cause) still = absurd still
  still_moves rows u (empty_seat i rule) still = (tt, (tt, tt))
  still_moves rows u (resolve p v) still = settlements_move rows (resolve_settles u p v).promises
  still_moves rows u e still = tt

-- what one may do, the other may
more_moves : (A B : RowsSoFar → Movement → Type 0) → ((rows : RowsSoFar) (m : Movement) → A rows m → B rows m) → (rows : RowsSoFar) (es : List Event) → AreMovedBy A rows es → AreMovedBy B rows es
more_moves A B more rows [] are = tt
more_moves A B more rows (e ∷ es) are = (one e are.0, more_moves A B more (with_row rows e) es are.1)
  where
    one : (e : Event) → IsMovedBy A rows e → IsMovedBy B rows e
    one (events.moved m) is = more rows m is
    one e is = tt

-- ---- how many payments there are

abbrev IsBelow : ℕ → Holder → Type 0
IsBelow n (Payment p) = p < n
IsBelow n _ = Unit {0}

abbrev TellsBelow : ℕ → Event → Type 0
TellsBelow n (events.moved m) = IsBelow n m.to
TellsBelow n _ = Unit {0}

few_with : (n : ℕ) (h : Holder) (payments : ℕ) → IsBelow n h → payments ≤ n → payments_with h payments ≤ n
few_with n (Payment p) payments below few = by (nat_lt p payments)
  where
    lt : p < n
    lt = below

    by : (b : Bool) → cond b payments (suc p) ≤ n
    by true = few
    by false = omega (arith, lt)
few_with n (Purse p) payments below few = few
few_with n (Slot s k) payments below few = few
few_with n Hand payments below few = few
few_with n Outside payments below few = few

few_row : (n : ℕ) (rows : RowsSoFar) (e : Event) → TellsBelow n e → rows.payments ≤ n → (with_row rows e).payments ≤ n
few_row n rows (events.moved m) below few = few_with n m.to rows.payments below few
few_row n rows (events.called c) below few = few
few_row n rows (events.opened o) below few = few
few_row n rows (events.exited x) below few = few
few_row n rows (events.settled p s) below few = few

few_rows : (n : ℕ) (rows : RowsSoFar) (es : List Event) → AllByRecursion (TellsBelow n) es → rows.payments ≤ n → (after_rows rows es).payments ≤ n
few_rows n rows [] below few = few
few_rows n rows (e ∷ es) below few = few_rows n (with_row rows e) es below.1 (few_row n rows e below.0 few)

below_both : (n : ℕ) (xs ys : List Event) → AllByRecursion (TellsBelow n) xs → AllByRecursion (TellsBelow n) ys → AllByRecursion (TellsBelow n) (xs ++ ys)
below_both n [] ys one two = two
below_both n (x ∷ xs) ys one two = (one.0, below_both n xs ys one.1 two)

below_settlements : (n : ℕ) (ps : List (ℕ × SettlementView)) → AllByRecursion (TellsBelow n) (settlements ps)
below_settlements n [] = tt
below_settlements n (p ∷ ps) = (tt, below_settlements n ps)

-- a payment that something goes to is there afterwards
past : (p n : ℕ) → (n ≤ p → (p == p) ≡ false) → p < n
past p n none = by (cases_lt p n)
  where
    by : (p < n) ⊎ (n ≤ p) → p < n
    by (inl lt) = lt
    by (inr le) = absurd (differs (none le))
      where
        differs : (p == p) ≡ false → ⊥
        differs e = let same : true ≡ false = sym (eq-eqb p p refl) ∙ e in cc

below_at : (n : ℕ) (h : Holder) → ((p : ℕ) → n ≤ p → is_payment_at p h ≡ false) → IsBelow n h
below_at n (Payment p) none = past p n (none p)
below_at n (Purse p) none = tt
below_at n (Slot s k) none = tt
below_at n Hand none = tt
below_at n Outside none = tt

further : (m n : ℕ) (h : Holder) → m ≤ n → IsBelow m h → IsBelow n h
further m n (Payment p) le below = let lt : p < m = below in let there : p < n = omega (arith, le, lt) in there
further m n (Purse p) le below = tt
further m n (Slot s k) le below = tt
further m n Hand le below = tt
further m n Outside le below = tt

below_moves : (n : ℕ) (r : Rights) (hand : ℕ → Content) (ms : List Movement) → CanMoveAll r hand ms → length (all_moved r ms).payments ≤ n → AllByRecursion (TellsBelow n) (map events.moved ms)
below_moves n r hand [] can few = tt
below_moves n r hand (m ∷ ms) can few =
    let next = moved r m in
    let here : IsBelow (length next.payments) m.to = below_at (length next.payments) m.to (to_made (taken r m.from m.brand m.value) m.to m.brand m.value can.0.to) in
    (further (length next.payments) n m.to (omega (arith, few, all_more next ms)) here, below_moves n next (hand_after hand m) ms can.1 few)

below_payouts : (n seat p : ℕ) (rs : List Share) → p + length rs ≤ n → AllByRecursion (TellsBelow n) (map events.moved (payout_moves seat p rs))
below_payouts n seat p [] few = tt
below_payouts n seat p (r ∷ rs) few =
    let all : p + suc (length rs) ≤ n = few in
    let here : p < n = omega (arith, all) in
    let rest : suc p + length rs ≤ n = omega (arith, all) in
    (here, below_payouts n seat (suc p) rs rest)

spent_as_many : (ms : List Movement) (ps : List PaymentView) → length (all_spent ms ps) ≡ length ps
spent_as_many [] ps = refl
spent_as_many (m ∷ ms) ps = spent_as_many ms (spent_from m.from ps) ∙ one m.from
  where
    one : (h : Holder) → length (spent_from h ps) ≡ length ps
    one (Payment n) = length_set ps n _
    one (Purse n) = refl
    one (Slot s k) = refl
    one Hand = refl
    one Outside = refl

below_together : (r : Rights) (ms : List Movement) → CanMoveAll r no_hand ms → AllByRecursion (TellsBelow (length (moved_together r ms).payments)) (map events.moved ms)
below_together r ms can =
    let few : length (all_moved r ms).payments ≤ length (all_spent ms (all_moved r ms).payments) = omega (arith, spent_as_many ms (all_moved r ms).payments) in
    below_moves (length (moved_together r ms).payments) r no_hand ms can few

invited_below : (u : State) → length u.rights.payments < length (moved_together u.rights (invitation_move u ∷ [])).payments
invited_below u =
    let a = amount_of 0 (invitation_value (length u.invitations)) in
    let ps = u.rights.payments in
    let paid_there : length (paid ps (length ps) a) ≡ length ps + 1 =
    subst (λ b. length (cond b (ps ++ live_payment a ∷ []) (slice_set ps (length ps) (paid_payment ps (length ps) a))) ≡ length ps + 1) (sym (eq-eqb (length ps) (length ps) refl)) (length_push ps (live_payment a)) in
    omega (arith, paid_there)

tells_below : (u : State) (e : Effect) → IsGoodEffect u e → AllByRecursion (TellsBelow (length (after u e).rights.payments)) (told_by u e)
tells_below u (moves ms) good = below_together u.rights ms good.can
tells_below u (offer o) good = (tt, below_together (with_slots u.rights (empty_slots o.proposal)) (burn_and_escrows o) good.moves.can)
tells_below u (empty_seat i rule) good = (tt, (tt, tt))
tells_below u (exit seat cause) good =
    let shares = slots_at u.rights.slots seat in
    let n = length (after u (exit seat cause)).rights.payments in
    below_both n (leaving_events u seat cause) (settlements (exit_settles u seat cause).promises)
    (tt, below_payouts n seat (length u.rights.payments) shares (omega (arith, length_append u.rights.payments (map paid_out shares), length_map paid_out shares)))
    (below_settlements n (exit_settles u seat cause).promises)
tells_below u (invite d) good = (invited_below u, tt)
tells_below u (resolve p v) good = below_settlements (length u.rights.payments) (resolve_settles u p v).promises
tells_below u (note_call c) good = (tt, tt)
tells_below u e good = tt

-- after good effects there are no more by the rows than there are
pub few_told : (u : State) (es : List Effect) → AreGood u es → (rows : RowsSoFar) → rows.payments ≤ length u.rights.payments → (after_rows rows (all_told u es)).payments ≤ length (after_all u es).rights.payments
few_told u [] good rows few = few
few_told u (e ∷ es) good rows few =
    let next = after u e in
    let here : (after_rows rows (told_by u e)).payments ≤ length next.rights.payments = few_rows (length next.rights.payments) rows (told_by u e) (tells_below u e good.0) (omega (arith, few, (grows-after u e).payments)) in
    subst (λ (x : RowsSoFar). x.payments ≤ length (after_all next es).rights.payments) (sym (rows_both rows (told_by u e) (all_told next es))) (few_told next es good.1 (after_rows rows (told_by u e)) here)

-- ---- what a seat's payouts are

module _ (May : RowsSoFar → Movement → Type 0) (Those : ℕ → Type 0) (may : (rows : RowsSoFar) (m : Movement) → IsOfExit Those rows m → May rows m) (seat : ℕ) (of_those : Those seat) where
  payouts_move : (first : ℕ) (rows : RowsSoFar) → rows.exit ≡ Some (record { what = seat; payments = first }) → (p : ℕ) → first ≤ p → (rs : List Share) → AreMovedBy May rows (map events.moved (payout_moves seat p rs))
  payouts_move first rows is p le [] = tt
  payouts_move first rows is p le (r ∷ rs) =
      let m = movement r.amount.brand (Slot seat r.keyword) (Payment p) r.amount.value in
      let left : Told ℕ = record { what = seat; payments = first } in
      let out : IsPayout left m = record { from_slot = refl; to_payment = le } in (
        may rows m (subst (λ (x : Option (Told ℕ)). IsSomeAnd x (λ l. Those l.what × IsPayout l m)) (sym is) (of_those, out)),
        payouts_move first (with_row rows (events.moved m)) is (suc p) (omega (arith, le)) rs,
      )

  pub exit_moves : (u : State) (cause : Cause) (rows : RowsSoFar) → rows.payments ≤ length u.rights.payments → AreMovedBy May rows (told_by u (exit seat cause))
  exit_moves u cause rows few =
      let out = map events.moved (moves_out u seat) in
      let left : Leaving = record { seat = seat; cause = cause; payouts = payouts_at u seat } in
      let after_exit = with_row rows (events.exited left) in
      moved_both May rows (leaving_events u seat cause) (settlements (exit_settles u seat cause).promises)
      (tt, payouts_move rows.payments after_exit refl (length u.rights.payments) few (slots_at u.rights.slots seat))
      (settlements_move May (after_rows after_exit out) (exit_settles u seat cause).promises)

-- ---- effects one after another

module _ (May : RowsSoFar → Movement → Type 0) where
  -- an effect, and those behind it
  effect_then : (u : State) (e : Effect) (es : List Effect) (rows : RowsSoFar) → AreMovedBy May rows (told_by u e) → AreMovedBy May (after_rows rows (told_by u e)) (all_told (after u e) es) → AreMovedBy May rows (all_told u (e ∷ es))
  effect_then u e es rows one two = moved_both May rows (told_by u e) (all_told (after u e) es) one two

  pub all_still_move : (u : State) (es : List Effect) (rows : RowsSoFar) → AllByRecursion IsStill es → AreMovedBy May rows (all_told u es)
  all_still_move u [] rows still = tt
  all_still_move u (e ∷ es) rows still = effect_then u e es rows (still_moves May rows u e still.0) (all_still_move (after u e) es (after_rows rows (told_by u e)) still.1)

few_then : (u : State) (e : Effect) → IsGoodEffect u e → (rows : RowsSoFar) → rows.payments ≤ length u.rights.payments → (after_rows rows (told_by u e)).payments ≤ length (after u e).rights.payments
few_then u e good rows few = few_rows (length (after u e).rights.payments) rows (told_by u e) (tells_below u e good) (omega (arith, few, (grows-after u e).payments))

-- ---- the last call stays the last

abbrev IsNoCall : Event → Type 0
IsNoCall (events.called c) = ⊥
IsNoCall _ = Unit {0}

call_stays : (rows : RowsSoFar) (es : List Event) → AllByRecursion IsNoCall es → (after_rows rows es).call ≡ rows.call
call_stays rows [] none = refl
call_stays rows (events.called c ∷ es) none = absurd none.0
call_stays rows (events.opened o ∷ es) none = call_stays rows es none.1
call_stays rows (events.moved m ∷ es) none = call_stays (with_row rows (events.moved m)) es none.1
call_stays rows (events.exited x ∷ es) none = call_stays (with_row rows (events.exited x)) es none.1
call_stays rows (events.settled p s ∷ es) none = call_stays rows es none.1

no_calls_both : (xs ys : List Event) → AllByRecursion IsNoCall xs → AllByRecursion IsNoCall ys → AllByRecursion IsNoCall (xs ++ ys)
no_calls_both [] ys one two = two
no_calls_both (x ∷ xs) ys one two = (one.0, no_calls_both xs ys one.1 two)

no_calls_moved : (ms : List Movement) → AllByRecursion IsNoCall (map events.moved ms)
no_calls_moved [] = tt
no_calls_moved (m ∷ ms) = (tt, no_calls_moved ms)

no_calls_settled : (ps : List (ℕ × SettlementView)) → AllByRecursion IsNoCall (settlements ps)
no_calls_settled [] = tt
no_calls_settled (p ∷ ps) = (tt, no_calls_settled ps)

abbrev IsNoNote : Effect → Type 0
IsNoNote (note_call c) = ⊥
IsNoNote _ = Unit {0}

tells_no_call : (u : State) (e : Effect) → IsNoNote e → AllByRecursion IsNoCall (told_by u e)
tells_no_call u (moves ms) none = no_calls_moved ms
tells_no_call u (offer o) none = (tt, no_calls_moved (burn_and_escrows o))
tells_no_call u (empty_seat i rule) none = (tt, (tt, tt))
tells_no_call u (exit seat cause) none =
    no_calls_both (leaving_events u seat cause) (settlements (exit_settles u seat cause).promises) (tt, no_calls_moved (moves_out u seat)) (no_calls_settled (exit_settles u seat cause).promises)
tells_no_call u (invite d) none = (tt, tt)
tells_no_call u (resolve p v) none = no_calls_settled (resolve_settles u p v).promises
tells_no_call u (note_call c) none = absurd none
tells_no_call u e none = tt

act_no_note : (w : State) (caller : Option ℕ) (o : Obj) (m : List ℕ) (e : Effect) → MayAct w caller o m e → IsNoNote e
act_no_note w caller o m (note_call c) may = absurd may
act_no_note w caller o m e may = tt

maker_grows : (v new : State) → Grows v new → (i b : ℕ) → IsMadeBy v.makers (of_instance i) b → IsMadeBy new.makers (of_instance i) b
maker_grows v new g i b is = record { made = omega (arith, is.made, g.makers.more); is = g.makers.same b is.made ∙ is.is }

-- ---- a call of an instance's function

module _ (new v : State) (i : ℕ) (o : Obj) (m : List ℕ) (args : List Tree) (answer : Tree) (payments : ℕ) (few_at : payments ≤ length v.rights.payments) (lasts : Grows v new) where
  abbrev call_told : Told events.Call
  call_told = record { what = told_call (plays.call o m args) (events.given answer); payments = payments }

  abbrev may : RowsSoFar → Movement → Type 0
  may rows x = IsOfFunction new i rows x

  takes_right : (b : ℕ) (h : Holder) → ContractTakes v i o m args b h → TakesByRight new i call_told.what b h
  takes_right b (Slot s k) is = seat_grows v new lasts i s is
  takes_right b Hand is = tt
  takes_right b (Payment n) is = is
  takes_right b Outside is = inl (record { made = maker_grows v new lasts i b is.0; asked = is.1 })
  takes_right b (Purse n) is = is

  gives_right : (b : ℕ) (h : Holder) → ContractGives v i o m b h → GivesByRight new i call_told b h
  gives_right b (Slot s k) is = seat_grows v new lasts i s is
  gives_right b Hand is = tt
  gives_right b (Payment n) is = let past : length v.rights.payments ≤ n = is in let made : payments ≤ n = omega (arith, few_at, past) in made
  gives_right b Outside is = record { made = maker_grows v new lasts i b is.0; asked = is.1 }
  gives_right b (Purse n) is = is

  of_call : (rows : RowsSoFar) (x : Movement) → rows.call ≡ Some call_told → IsByRight new i x call_told → may rows x
  of_call rows x is right = inl (subst (λ (c : Option (Told events.Call)). IsSomeAnd c (IsByRight new i x)) (sym is) right)

  licensed_moves : (ms : List Movement) (rows : RowsSoFar) → rows.call ≡ Some call_told → AreLicensed v (Some i) o m args ms → AreMovedBy may rows (map events.moved ms)
  licensed_moves [] rows is are = tt
  licensed_moves (x ∷ ms) rows is are = (
    of_call rows x is (record { of_method = refl; answered = tt; takes = takes_right x.brand x.from are.0.takes; gives = gives_right x.brand x.to are.0.gives }),
    licensed_moves ms (with_row rows (events.moved x)) is are.1,
  )

  invitation_moves : (u : State) (d : DetailsView) (rows : RowsSoFar) → rows.call ≡ Some call_told → Grows v u → IsInviting (Some i) o m d → may rows (invitation_move u)
  invitation_moves u d rows is grown inviting =
      let same : d.instance ≡ i = sym (same_Some i d.instance inviting.by) in
      let made : payments ≤ length u.rights.payments = omega (arith, few_at, grown.payments) in
      let asked : IsCall kinds.Zcf i (codes "makeInvitation") o m = record { target = subst (λ n. IsObject kinds.Zcf n o) same inviting.target; method_is = inviting.method } in
      of_call rows (invitation_move u) is (record {
        of_method = refl;
        answered = tt;
        takes = inr (record { brand_is = refl; asked = asked });
        gives = made;
      })

  -- what is licensed behind an effect
  licensed_after : (e : Effect) (es : List Effect) → AreLicensed v (Some i) o m args (movements_in (e ∷ es)) → AreLicensed v (Some i) o m args (movements_in es)
  licensed_after (moves ms) es are = second_all (IsLicensed v (Some i) o m args) ms (movements_in es) are
  licensed_after (offer x) es are = second_all (IsLicensed v (Some i) o m args) (burn_and_escrows x) (movements_in es) are
  licensed_after e es are = are

  effect_moves : (e : Effect) (es : List Effect) (u : State) (rows : RowsSoFar) → Grows v u → rows.call ≡ Some call_told → rows.payments ≤ length u.rights.payments
      → MayAct v (Some i) o m e → AreLicensed v (Some i) o m args (movements_in (e ∷ es)) → AreMovedBy may rows (told_by u e)
  effect_moves (moves ms) es u rows grown is few act are = licensed_moves ms rows is (first_all (IsLicensed v (Some i) o m args) ms (movements_in es) are)
  effect_moves (offer x) es u rows grown is few act are = let none = act in cc
  effect_moves (invite d) es u rows grown is few act are = (invitation_moves u d rows is grown act, tt)
  effect_moves (exit seat cause) es u rows grown is few act are = exit_moves may (IsSeatOf new.seats i) (λ rows m out. inr out) seat (seat_grows v new lasts i seat act) u cause rows few
  effect_moves (note_call c) es u rows grown is few act are = absurd act
  effect_moves (empty_seat j rule) es u rows grown is few act are = (tt, (tt, tt))
  effect_moves (resolve p s) es u rows grown is few act are = absurd act
  effect_moves e es u rows grown is few act are = tt

  effects_move : (es : List Effect) (u : State) (rows : RowsSoFar) → Grows v u → AreGood u es → rows.call ≡ Some call_told → rows.payments ≤ length u.rights.payments
      → AllByRecursion (MayAct v (Some i) o m) es → AreLicensed v (Some i) o m args (movements_in es) → AreMovedBy may rows (all_told u es)
  effects_move [] u rows grown good is few acts are = tt
  effects_move (e ∷ es) u rows grown good is few acts are =
      effect_then may u e es rows (effect_moves e es u rows grown is few acts.0 are)
      (effects_move es (after u e) (after_rows rows (told_by u e)) (grows_on v u (after u e) grown (grows-after u e)) good.1
      (call_stays rows (told_by u e) (tells_no_call u e (act_no_note v (Some i) o m e acts.0)) ∙ is)
      (few_then u e good.0 rows few) acts.1 (licensed_after e es are))

-- ---- any call

module _ (new v : State) (i : ℕ) where
  abbrev MovesFrom : List Effect → Type 0
  MovesFrom es = AreGood v es → Grows (after_all v es) new → (rows : RowsSoFar) → rows.payments ≤ length v.rights.payments → AreMovedBy (IsOfFunction new i) rows (all_told v es)

  still_call : (c : plays.Call) (row : Outcome) → IfOk row AreStill → MovesFrom (told_effects c row)
  still_call c (Ok (answer, es)) still good later rows few =
      effect_then (IsOfFunction new i) v (note_call (told_call c (events.given answer))) es rows (tt, tt) (all_still_move (IsOfFunction new i) (after v (note_call (told_call c (events.given answer)))) es (with_row rows (events.called (told_call c (events.given answer)))) still)
  still_call c (Err r) still good later rows few = (tt, tt)

  method_call : (o : Obj) (m : List ℕ) (args : List Tree) (row : Outcome) → IfOk row (λ d. IsRule v (Some i) o m args d.0 d.1) → MovesFrom (told_effects (plays.call o m args) row)
  method_call o m args (Err r) is good later rows few = (tt, tt)
  method_call o m args (Ok (answer, es)) is good later rows few =
      let c = told_call (plays.call o m args) (events.given answer) in
      let u = after v (note_call c) in
      let start = with_row rows (events.called c) in
      let lasts : Grows v new = grows_on v (after_all u es) new (grows_on v u (after_all u es) (grows-after v (note_call c)) (all_grow u es)) later in
      effect_then (IsOfFunction new i) v (note_call c) es rows (tt, tt)
      (effects_move new v i o m args answer rows.payments few lasts es u start (grows-after v (note_call c)) good.1 refl few is.acts is.licensed)

  pub call_moves : (served : AreGoodHostCalls) → IsGoodWorld v → i < length v.tables.instances → (c : plays.Call) → CallHas (IsKnownTo v i) c → MovesFrom (call_effects v i c)
  call_moves served good made (plays.call o m args) known = method_call o m args (serve_own v o m args) (served v i o m args (call_can v i o m args good made known))
  call_moves served good made (plays.send o m args) known = still_call (plays.send o m args) (send_rule v i o m args) (send_is_still v i o m args)
  call_moves served good made (plays.when o f held) known = still_call (plays.when o f held) (when_rule v i o f held) (when_is_still v i o f held)
  call_moves served good made (plays.far x ms held) known = still_call (plays.far x ms held) (far_rule v i ms held) (far_is_still v i ms held)

-- ---- a call of a service

-- a seat that it leaves is the one of which tryExit is asked
abbrev IsAskedLeft : Obj → List ℕ → Departure → Type 0
IsAskedLeft o m x = IsCall kinds.Seat x.seat (codes "tryExit") o m

module _ (w : State) (o : Obj) (m : List ℕ) (args : List Tree) where
  asked_left : (k : ObjKind) → o.kind ≡ k → made_as w k o.number → AllByRecursion (IsAskedLeft o m) (departures_as w k o.number m)
  asked_left kinds.Seat e made = by (bytes_eq m (codes "tryExit")) refl
    where
      by : (b : Bool) → bytes_eq m (codes "tryExit") ≡ b → AllByRecursion (IsAskedLeft o m) (cond b (departure o.number causes.asked ∷ []) [])
      by true is = (record { target = record { kind_is = ap (is_kind kinds.Seat) e; number_is = refl }; method_is = (bytes_eq-Decides m (codes "tryExit")).0 is }, tt)
      by false is = tt
  asked_left kinds.Zseat e made = absurd made
  asked_left kinds.Zcf e made = absurd made
  asked_left k e made = tt

  service_move : (rows : RowsSoFar) (x : Movement) → ServiceTakes o m args x.brand x.from → IsOfService o m args rows x
  service_move rows x takes = inl takes

  service_moves : (rows : RowsSoFar) (ms : List Movement) → AreLicensed w None o m args ms → AreMovedBy (IsOfService o m args) rows (map events.moved ms)
  service_moves rows [] are = tt
  service_moves rows (x ∷ ms) are = (inl are.0, service_moves (with_row rows (events.moved x)) ms are.1)

  serves_move : (es : List Effect) (u : State) (rows : RowsSoFar) → AreGood u es → rows.payments ≤ length u.rights.payments → AllByRecursion (MayAct w None o m) es
      → AreLicensed w None o m args (movements_in es) → AllByRecursion (IsAskedLeft o m) (departures_in es) → AreMovedBy (IsOfService o m args) rows (all_told u es)
  serves_move [] u rows good few acts are left = tt
  serves_move (moves ms ∷ es) u rows good few acts are left =
      effect_then (IsOfService o m args) u (moves ms) es rows (service_moves rows ms (first_all (IsLicensed w None o m args) ms (movements_in es) are))
      (serves_move es (after u (moves ms)) (after_rows rows (told_by u (moves ms))) good.1 (few_then u (moves ms) good.0 rows few) acts.1 (second_all (IsLicensed w None o m args) ms (movements_in es) are) left)
  serves_move (offer x ∷ es) u rows good few acts are left =
      effect_then (IsOfService o m args) u (offer x) es rows (tt, service_moves rows (burn_and_escrows x) (first_all (IsLicensed w None o m args) (burn_and_escrows x) (movements_in es) are))
      (serves_move es (after u (offer x)) (after_rows rows (told_by u (offer x))) good.1 (few_then u (offer x) good.0 rows few) acts.1 (second_all (IsLicensed w None o m args) (burn_and_escrows x) (movements_in es) are) left)
  serves_move (exit seat cause ∷ es) u rows good few acts are left =
      effect_then (IsOfService o m args) u (exit seat cause) es rows (exit_moves (IsOfService o m args) (λ s. IsCall kinds.Seat s (codes "tryExit") o m) (λ rows x out. inr out) seat left.0 u cause rows few)
      (serves_move es (after u (exit seat cause)) (after_rows rows (told_by u (exit seat cause))) good.1 (few_then u (exit seat cause) good.0 rows few) acts.1 are left.1)
  serves_move (invite d ∷ es) u rows good few acts are left = let none = acts.0.by in cc
  serves_move (empty_seat i rule ∷ es) u rows good few acts are left = let none = acts.0 in cc
  serves_move (resolve p v ∷ es) u rows good few acts are left = absurd acts.0
  serves_move (note_call c ∷ es) u rows good few acts are left = absurd acts.0
  serves_move (e ∷ es) u rows good few acts are left =
      effect_then (IsOfService o m args) u e es rows tt
      (serves_move es (after u e) (after_rows rows (told_by u e)) good.1 (few_then u e good.0 rows few) acts.1 are left)

-- ---- a turn

-- from good effects, to a world that comes later, by the rows before them
abbrev pub WorkMoves : State → State → Delivery → Reading → Answer → State → List Effect → Type 0
WorkMoves w new d r a v es =
    AreGood v es → Grows (after_all v es) new → (rows : RowsSoFar) → rows.payments ≤ length v.rights.payments → AreMovedBy (MayMove new (runs_in w d r) d r) rows (all_told v es)

left_moves : (w new : State) (d : Delivery) (r : Reading) (v : State) (seat : ℕ) (cause : Cause) → Grows v new → MayBeLeft w d r v seat → (rows : RowsSoFar) → rows.payments ≤ length v.rights.payments
    → AreMovedBy (MayMove new (runs_in w d r) d r) rows (told_by v (exit seat cause))
left_moves w new d r v seat cause lasts (inl (i, (runs, own))) rows few =
    subst (λ (x : Option ℕ). AreMovedBy (MayMove new x d r) rows (told_by v (exit seat cause))) (sym runs)
    (more_moves (IsOfFunction new i) (MayMove new (Some i) d r) (λ rows m is. is) rows (told_by v (exit seat cause))
    (exit_moves (IsOfFunction new i) (IsSeatOf new.seats i) (λ rows m out. inr out) seat (seat_grows v new lasts i seat own) v cause rows few))
left_moves w new d r v seat cause lasts (inr is) rows few =
    subst (λ (x : Delivery). AreMovedBy (MayMove new (runs_in w x r) x r) rows (told_by v (exit seat cause))) (sym is)
    (more_moves (IsOfExit (λ s. s ≡ seat)) (MayMove new (runs_in w (deliveries.deadline seat) r) (deliveries.deadline seat) r) (λ rows m is. is) rows (told_by v (exit seat cause))
    (exit_moves (IsOfExit (λ s. s ≡ seat)) (λ s. s ≡ seat) (λ rows m out. out) seat refl v cause rows few))

pub parts_move : (called : AreGoodHostCalls) (w new : State) (d : Delivery) → Parts w d (WorkMoves w new d)
parts_move called w new d = record {
  none = λ r a v good later rows few. tt;
  both = λ r a v es fs one two good later rows few.
      let first = first_good v es fs good in
      let then_later : Grows (after_all (after_all v es) fs) new = subst (λ (x : State). Grows x new) (after_both v es fs) later in
      let here : Grows (after_all v es) new = grows_on (after_all v es) (after_all (after_all v es) fs) new (all_grow (after_all v es) fs) then_later in
      subst (λ l. AreMovedBy (MayMove new (runs_in w d r) d r) rows l) (sym (told_both v es fs))
      (moved_both (MayMove new (runs_in w d r) d r) rows (all_told v es) (all_told (after_all v es) fs)
      (one first here rows few)
      (two (second_good v es fs good) then_later (after_rows rows (all_told v es)) (few_told v es first rows few)));
  still = λ r a v e still good later rows few. all_still_move (MayMove new (runs_in w d r) d r) v (e ∷ []) rows (still, tt);
  leaves = λ r a v seat cause grown may good later rows few.
      effect_then (MayMove new (runs_in w d r) d r) v (exit seat cause) [] rows (left_moves w new d r v seat cause (grows_on v (after v (exit seat cause)) new (grows-after v (exit seat cause)) later) may rows few) tt;
  calls = λ r a v i c runs good grown made known goods later rows few.
      subst (λ (x : Option ℕ). AreMovedBy (MayMove new x d r) rows (all_told v (call_effects v i c))) (sym runs)
      (more_moves (IsOfFunction new i) (MayMove new (Some i) d r) (λ rows m is. is) rows (all_told v (call_effects v i c)) (call_moves new v i called good made c known goods later rows few));
  serves = λ m calling o args answer es alone target handed is goods later rows few.
      let r = deliveries.target o args in
      subst (λ (x : Option ℕ). AreMovedBy (MayMove new x d r) rows (all_told w es)) (sym (calling.runs o args ∙ alone))
      (more_moves (IsOfService o m args) (MayMove new None d r) (calling.moves o args) rows (all_told w es)
      (serves_move w o m args es w rows goods few is.acts is.licensed (subst (AllByRecursion (IsAskedLeft o m)) (sym is.leaves) (asked_left w o m args o.kind refl target.objects))));
}
