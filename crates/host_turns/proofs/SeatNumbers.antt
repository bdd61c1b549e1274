-- What good effects tell names seats by their numbers, once they are opened; and the totals of a new host.
use Rattle.std.specs.List.{AllByRecursion}
use Rattle.std.proofs.Common.{◌≡◌, ℕ, zero, suc, ◌+◌, ◌<◌, List, [], ◌∷◌, ◌++◌, append_assoc, length, map, refl, sym, ◌∙◌, ap, subst, arith}
use Rattle.std.proofs.lemmas.List.{append-nil, length-append, map-append}
use Rattle.front_turns.specs.amount_math.declared.Kind.TheVariants.{Nat, Set}
use Rattle.front_turns.specs.ertp_mint.BrandSupply.{new_supply, supply_at}
use Rattle.front_turns.proofs.escrow.Tellings.{sums_started}
use Rattle.front_turns.specs.escrow.Told.{EscrowState, nothing_told}
use Rattle.run_laws.proofs.fair_laws.Accounted.{effects_accounted}
use Rattle.run_laws.proofs.fair_laws.Rows.{Settles, resolving_settles}
use Rattle.run_laws.specs.fair_laws.Accounts.{Accounts, AreStoredEffects}
use Rattle.front_turns.proofs.lemmas.ListEdits.{length_map, length_push}
use Rattle.front_turns.specs.promise_store.States.{SettlementView, ok}
use Rattle.front_turns.specs.proposals.declared.allocations.Share.{Share}
use Rattle.front_turns.specs.rights_model.declared.Holder.{Holder}
use Rattle.front_turns.specs.rights_model.declared.Holder.TheVariants.{Purse, Payment, Slot, Hand, Outside}
use Rattle.front_turns.specs.rights_model.declared.Movement.{Movement}
use Rattle.front_turns.specs.world_laws.Tables.{table_of}
use Rattle.front_turns.specs.host_data.Tree.{null}
use Rattle.front_turns.specs.turn_records.Events as events
use Rattle.front_turns.specs.turn_records.Events.{Event, called, exited, moved, moves_in, opened, settled}
use Rattle.front_turns.proofs.world_laws.Instances.{open_made}
use Rattle.front_turns.proofs.world_laws.Kept.{good-after_all}
use Rattle.front_turns.proofs.world_laws.Lists.{all_read_or}
use Rattle.front_turns.specs.world_laws.First.{first_world}
use Rattle.front_turns.specs.world_state.Good.{AreGood, IsAtOpen, IsGoodEffect, IsGoodMove, IsGoodWorld, IsMintedInBounds, seats_for}
use Rattle.front_turns.specs.world_state.Rights.{slots_at}
use Rattle.front_turns.specs.world_state.Worlds.{Effect, Offering, Seat, State, after, after_all, burn_and_escrows, empty_seat, exit, invitation_move, invite, leaving_events, left_seat, moves, moves_out, new_seat, note_call, of_own, offer, offer_events, offered_by, opening_of, payout_moves, payouts_tree, promises_made, resolve, seat_at, seats_left}
use Rattle.front_turns.specs.actors.SeatPromises.{pair_at}
use Rattle.std.specs.Prelude.{slice_set}
use Rattle.front_turns.specs.turn_rows.Causes.{Cause}
use Rattle.host_turns.specs.Totals.{AreBelow, AreSeated, IsBelow, IsTurn, Tells, TellsWorld, instances_in, instances_of}

-- ---- logs

seated_append : (us vs : List Event) (n m : ℕ) → m ≡ length (instances_in us) + n → AreSeated n us → AreSeated m vs → AreSeated n (us ++ vs)
seated_append [] vs n m e one rest = let same : m ≡ n = omega (arith, e) in subst (λ (k : ℕ). AreSeated k vs) same rest
seated_append (opened o ∷ us) vs n m e one rest = (one.0, seated_append us vs (suc n) m (omega (arith, e)) one.1 rest)
seated_append (moved x ∷ us) vs n m e one rest = (one.0, seated_append us vs n m e one.1 rest)
seated_append (called c ∷ us) vs n m e one rest = seated_append us vs n m e one rest
seated_append (exited x ∷ us) vs n m e one rest = seated_append us vs n m e one rest
seated_append (settled p v ∷ us) vs n m e one rest = seated_append us vs n m e one rest

instances_append : (us vs : List Event) → instances_in (us ++ vs) ≡ instances_in us ++ instances_in vs
instances_append [] vs = refl
instances_append (opened o ∷ us) vs = ap (λ l. o.instance ∷ l) (instances_append us vs)
instances_append (moved x ∷ us) vs = instances_append us vs
instances_append (called c ∷ us) vs = instances_append us vs
instances_append (exited x ∷ us) vs = instances_append us vs
instances_append (settled p v ∷ us) vs = instances_append us vs

moves_seated : (n : ℕ) (ms : List Movement) → AllByRecursion (AreBelow n) ms → AreSeated n (map moved ms)
moves_seated n [] below = tt
moves_seated n (m ∷ ms) below = (below.0, moves_seated n ms below.1)

none_in_moves : (ms : List Movement) → instances_in (map moved ms) ≡ []
none_in_moves [] = refl
none_in_moves (m ∷ ms) = none_in_moves ms

abbrev settlements : List (ℕ × SettlementView) → List Event
settlements ps = map (λ p. settled p.0 p.1) ps

settled_seated : (n : ℕ) (ps : List (ℕ × SettlementView)) → AreSeated n (settlements ps)
settled_seated n [] = tt
settled_seated n (p ∷ ps) = settled_seated n ps

none_in_settled : (ps : List (ℕ × SettlementView)) → instances_in (settlements ps) ≡ []
none_in_settled [] = refl
none_in_settled (p ∷ ps) = none_in_settled ps

-- ---- from one world to another

-- what was told names seats that were opened before, and the seats that it opens are those that there are more
record IsSeatedOn (w next : State) : Type 0 where
  events : List Event
  told : next.log ≡ w.log ++ events
  seated : AreSeated (length w.seats) events
  instances : instances_of next.seats ≡ instances_of w.seats ++ instances_in events

quiet : (w next : State) → next.log ≡ w.log → instances_of next.seats ≡ instances_of w.seats → IsSeatedOn w next
quiet w next log same = record { events = []; told = log ∙ sym (append-nil w.log); seated = tt; instances = same ∙ sym (append-nil (instances_of w.seats)) }

more_seats : (v w next : State) → IsSeatedOn v w → IsSeatedOn w next → IsSeatedOn v next
more_seats v w next one rest =
    let counted : length w.seats ≡ length (instances_in one.events) + length v.seats = omega (
      arith,
      ap (λ (l : List ℕ). length l) one.instances,
      length_map (λ (s : Seat). s.instance) w.seats,
      length_map (λ (s : Seat). s.instance) v.seats,
      length-append (instances_of v.seats) (instances_in one.events),
    ) in
    record {
      events = one.events ++ rest.events;
      told = rest.told ∙ ap (λ l. l ++ rest.events) one.told ∙ append_assoc v.log one.events rest.events;
      seated = seated_append one.events rest.events (length v.seats) (length w.seats) counted one.seated rest.seated;
      instances = rest.instances ∙ ap (λ l. l ++ instances_in rest.events) one.instances ∙ append_assoc (instances_of v.seats) (instances_in one.events) (instances_in rest.events) ∙ ap (λ l. instances_of v.seats ++ l) (sym (instances_append one.events rest.events));
    }

-- ---- by effect

at_open : (seats : List Seat) (h : Holder) → IsAtOpen seats h → IsBelow (length seats) h
at_open seats (Slot s k) is = open_made seats s is
at_open seats (Purse n) is = tt
at_open seats (Payment n) is = tt
at_open seats Hand is = tt
at_open seats Outside is = tt

good_below : (seats : List Seat) (ms : List Movement) → AllByRecursion (IsGoodMove seats) ms → AllByRecursion (AreBelow (length seats)) ms
good_below seats [] good = tt
good_below seats (m ∷ ms) good = (record { from = at_open seats m.from good.0.from; to = at_open seats m.to good.0.to }, good_below seats ms good.1)

payouts_below : (seats s n : ℕ) (rows : List Share) → s < seats → AllByRecursion (AreBelow seats) (payout_moves s n rows)
payouts_below seats s n [] lt = tt
payouts_below seats s n (r ∷ rs) lt = (record { from = lt; to = tt }, payouts_below seats s (suc n) rs lt)

left_same : (seats : List Seat) (n : ℕ) (rows : List Share) → instances_of (slice_set seats n (left_seat (seat_at seats n) rows)) ≡ instances_of seats
left_same [] n rows = refl
left_same (s ∷ ss) zero rows = refl
left_same (s ∷ ss) (suc n) rows = ap (λ l. s.instance ∷ l) (left_same ss n rows)

moves_on : (w next : State) (ms : List Movement) → next.log ≡ w.log ++ map moved ms → instances_of next.seats ≡ instances_of w.seats → AllByRecursion (AreBelow (length w.seats)) ms → IsSeatedOn w next
moves_on w next ms log same below = record {
  events = map moved ms;
  told = log;
  seated = moves_seated (length w.seats) ms below;
  instances = same ∙ sym (append-nil (instances_of w.seats)) ∙ ap (λ l. instances_of w.seats ++ l) (sym (none_in_moves ms));
}

settled_on : (w next : State) → instances_of next.seats ≡ instances_of w.seats → Settles w.log next.log → IsSeatedOn w next
settled_on w next same is = record {
  events = settlements is.promises;
  told = is.told;
  seated = settled_seated (length w.seats) is.promises;
  instances = same ∙ sym (append-nil (instances_of w.seats)) ∙ ap (λ l. instances_of w.seats ++ l) (sym (none_in_settled is.promises));
}

offer_on : (w : State) (o : Offering) → IsGoodEffect w (offer o) → IsSeatedOn w (after w (offer o))
offer_on w o can =
    let ms = burn_and_escrows o in
    let new = new_seat (offered_by w o).instance o.proposal in
    let longer : length (seats_for w o) ≡ suc (length w.seats) = omega (arith, length_push w.seats new) in
    record {
      events = offer_events w o;
      told = refl;
      seated = (refl, moves_seated (suc (length w.seats)) ms (subst (λ (n : ℕ). AllByRecursion (AreBelow n) ms) longer (good_below (seats_for w o) ms can.moves.good)));
      instances = map-append (λ (s : Seat). s.instance) w.seats (new ∷ []) ∙ ap (λ l. instances_of w.seats ++ new.instance ∷ l) (sym (none_in_moves ms));
    }

exit_on : (w : State) (s : ℕ) (cause : Cause) → IsGoodEffect w (exit s cause) → IsSeatedOn w (after w (exit s cause))
exit_on w s cause is_open =
    let ms = moves_out w s in
    let given = ok (payouts_tree w s) in
    let settles = resolving_settles (pair_at w.pairs s).payouts given w.promises w.waiting (w.log ++ leaving_events w s cause) in
    let left = leaving_events w s cause in
    record {
      events = left ++ settlements settles.promises;
      told = settles.told ∙ append_assoc w.log left (settlements settles.promises);
      seated = seated_append left (settlements settles.promises) (length w.seats) (length w.seats) (omega (arith, ap (λ (l : List ℕ). length l) (none_in_moves ms))) (moves_seated (length w.seats) ms (payouts_below (length w.seats) s (length w.rights.payments) (slots_at w.rights.slots s) (open_made w.seats s is_open))) (settled_seated (length w.seats) settles.promises);
      instances = left_same w.seats s (slots_at w.rights.slots s) ∙ sym (append-nil (instances_of w.seats)) ∙ ap (λ l. instances_of w.seats ++ l) (sym (instances_append left (settlements settles.promises) ∙ (λ i. none_in_moves ms i ++ none_in_settled settles.promises i)));
    }

effect_seated : (w : State) (e : Effect) → IsGoodEffect w e → IsSeatedOn w (after w e)
effect_seated w (moves ms) can = moves_on w (after w (moves ms)) ms refl refl (good_below w.seats ms can.good)
effect_seated w (offer o) can = offer_on w o can
effect_seated w (empty_seat i rule) can = record {
  events = opening_of w i (of_own rule) ∷ settled (promises_made w) (ok null) ∷ [];
  told = refl;
  seated = (refl, tt);
  instances = map-append (λ (s : Seat). s.instance) w.seats (new_seat i (of_own rule) ∷ []);
}
effect_seated w (exit s cause) can = exit_on w s cause can
effect_seated w (invite d) can = moves_on w (after w (invite d)) (invitation_move w ∷ []) refl refl (record { from = tt; to = tt }, tt)
effect_seated w (resolve p v) can = settled_on w (after w (resolve p v)) refl (resolving_settles p v w.promises w.waiting w.log)
effect_seated w (note_call c) can = record { events = called c ∷ []; told = refl; seated = tt; instances = sym (append-nil (instances_of w.seats)) }
effect_seated w e can = quiet w (after w e) refl refl

effects_seated : (w : State) (es : List Effect) → AreGood w es → IsSeatedOn w (after_all w es)
effects_seated w [] can = quiet w w refl refl
effects_seated w (e ∷ es) can = more_seats w (after w e) (after_all (after w e) es) (effect_seated w e can.0) (effects_seated (after w e) es can.1)

-- ---- a turn

pub log_told : (w : State) (es : List Effect) (e : EscrowState) → IsGoodWorld w → AreGood w es → AreStoredEffects es → w.log ≡ [] → TellsWorld w e
    → IsTurn w.rights (after_all w es).rights (instances_of w.seats) e (after_all w es).log
log_told w es e good can stored none tells =
    let next = after_all w es in
    let accounted = effects_accounted w es good can stored in
    let seats = effects_seated w es can in
    let long : length (instances_of w.seats) ≡ length w.seats = length_map (λ (s : Seat). s.instance) w.seats in
    record {
      told = tells;
      accounts = subst (λ (l : List Event). Accounts w.rights next.rights (moves_in l)) (sym (accounted.told ∙ ap (λ l. l ++ accounted.events) none)) accounted.accounts;
      seated = subst (λ (n : ℕ). AreSeated n next.log) (sym long) (subst (λ (l : List Event). AreSeated (length w.seats) l) (sym (seats.told ∙ ap (λ l. l ++ seats.events) none)) seats.seated);
      minted = λ b. all_read_or IsMintedInBounds next.rights.out b (new_supply Nat) (good-after_all w es can good).minted (omega arith);
    }

pub seats_told : (w : State) (es : List Effect) → AreGood w es → w.log ≡ [] → instances_of w.seats ++ instances_in (after_all w es).log ≡ instances_of (after_all w es).seats
seats_told w es can none =
    let seats = effects_seated w es can in
    ap (λ l. instances_of w.seats ++ instances_in l) (seats.told ∙ ap (λ l. l ++ seats.events) none) ∙ sym seats.instances

-- ---- a new host

none_minted : (b : ℕ) → 0 ≡ (supply_at (new_supply Set ∷ []) b).minted
none_minted zero = refl
none_minted (suc b) = refl

none_burned : (b : ℕ) → 0 ≡ (supply_at (new_supply Set ∷ []) b).burned
none_burned zero = refl
none_burned (suc b) = refl

pub first_told : TellsWorld first_world nothing_told
unfolding table_of
first_told = record { sums = sums_started; minted = none_minted; burned = none_burned; seats = refl }
