-- A turn that was refused tells settlements alone; one that spent its meter tells exits too, each with its payouts.
use Rattle.std.proofs.Common.{Bool, true, false, cond, IfSome, ◌≡◌, ℕ, suc, List, [], ◌∷◌, ◌++◌, map, refl, sym, ap, subst, ◌∙◌, append-nil, append_assoc}
use Rattle.std.specs.Prelude.{Ok, Err}
use Rattle.std.specs.List.{AllByRecursion, flat_map}
use Rattle.std.proofs.lemmas.Grind.{flat_map-append}
use Rattle.licence_laws.specs.rules.Outcomes.{Outcome}
use Rattle.licence_laws.specs.rules.Traces.{all_open}
use Rattle.licence_laws.specs.delivery_laws.Hosts.{IsGoodHost}
use Rattle.licence_laws.proofs.delivery_laws.Runs.{after_both}
use Rattle.licence_laws.specs.delivery_turns.Endings.{ending, without_cycle}
use Rattle.licence_laws.specs.delivery_turns.Functions.{Run, ended, function_run, ran_out}
use Rattle.licence_laws.specs.delivery_turns.HostCalls.{answer_of, effects_of}
use Rattle.licence_laws.specs.delivery_turns.Hosts.{HostState, step_from, step_of}
use Rattle.licence_laws.specs.delivery_turns.Tasks.{Task, answer_of_ending, beginning, do_all, exits_with, refuse, run, run_work, serve, task_work}
use Rattle.licence_laws.specs.delivery_turns.Turns.{delivery_turn}
use Rattle.licence_laws.specs.fair_laws.Places.{rows_of}
use Rattle.licence_laws.proofs.fair_laws.Rows.{Settles, move_rows, resolving_settles, rows_append, rows_of_moves}
use Rattle.licence_laws.proofs.fair_rows.Lists.{all_both}
use Rattle.licence_laws.specs.actors.SeatPromises.{pair_at}
use Rattle.licence_laws.specs.jessie_semantics.Play as plays
use Rattle.licence_laws.specs.jessie_semantics.Play.{Ending}
use Rattle.message_lines.specs.host_data.Tree.{Tree, is_local}
use Rattle.message_lines.specs.promise_store.States.{SettlementView, ok}
use Rattle.message_lines.specs.proposals.declared.allocations.Share.{Share}
use Rattle.message_lines.specs.refusals.Codes.{local_only, refusal_tree}
use Rattle.message_lines.specs.refusals.declared.codes.Refusal.{Refusal}
use Rattle.serde_json.specs.Data as json
use Rattle.licence_laws.specs.rules.Zoe.{TextReader}
use Rattle.message_lines.specs.turn_records.Settlements.{settled_after}
use Rattle.message_lines.specs.turn_records.Deliveries as deliveries
use Rattle.message_lines.specs.turn_records.Deliveries.{Delivery}
use Rattle.message_lines.specs.turn_records.Events as events
use Rattle.message_lines.specs.turn_records.Events.{Answer, Event, given, refused, spent, threw}
use Rattle.message_lines.specs.turn_records.Printed.{printed, printed_answer, printed_exit, printed_move, printed_settlement}
use Rattle.message_lines.specs.turn_rows.Causes as causes
use Rattle.message_lines.specs.turn_rows.Causes.{Cause}
use Rattle.message_lines.specs.turn_rows.Turns as rows
use Rattle.message_lines.specs.turn_rows.Turns.{Move}
use Rattle.licence_laws.specs.world_state.Worlds.{Effect, State, after, after_all, behind, exit, halt, leaving_events, moves_out, payout_moves, payouts_at, payouts_tree}
use Rattle.licence_laws.specs.world_state.Rights.{slots_at}
use Rattle.run_laws.specs.FairRuns.{IsOfSeat, IsPaidOut, IsSettlement, Piece, TellsLittle, TellsPieces, events_of, leaving, settlement}

-- ---- what was told later

-- pieces were told
record Later (before now : List Event) : Type 0 where
  pieces : List Piece
  told : rows_of now ≡ rows_of before ++ flat_map events_of pieces
  each : AllByRecursion IsPaidOut pieces

none_later : (log : List Event) → Later log log
none_later log = record { pieces = []; told = sym (append-nil (rows_of log)); each = tt }

later_then : (a b c : List Event) → Later a b → Later b c → Later a c
later_then a b c x y = record {
  pieces = x.pieces ++ y.pieces;
  told = y.told ∙ ap (λ l. l ++ flat_map events_of y.pieces) x.told
      ∙ append_assoc (rows_of a) (flat_map events_of x.pieces) (flat_map events_of y.pieces)
      ∙ ap (λ l. rows_of a ++ l) (sym (flat_map-append events_of x.pieces y.pieces));
  each = all_both IsPaidOut x.pieces y.pieces x.each y.each;
}

-- ---- settlements

abbrev settlement_pieces : List (ℕ × SettlementView) → List Piece
settlement_pieces [] = []
settlement_pieces (p ∷ ps) = settlement p.0 (printed_settlement p.1) ∷ settlement_pieces ps

settlements_told : (ps : List (ℕ × SettlementView)) → rows_of (map (λ p. events.settled p.0 p.1) ps) ≡ flat_map events_of (settlement_pieces ps)
settlements_told [] = refl
settlements_told (p ∷ ps) = ap (λ l. rows.settled p.0 (printed_settlement p.1) ∷ l) (settlements_told ps)

settlements_paid : (ps : List (ℕ × SettlementView)) → AllByRecursion IsPaidOut (settlement_pieces ps)
settlements_paid [] = tt
settlements_paid (p ∷ ps) = (tt, settlements_paid ps)

settled_later : (before now : List Event) → Settles before now → Later before now
settled_later before now s = record {
  pieces = settlement_pieces s.promises;
  told = ap rows_of s.told ∙ rows_append before (map (λ p. events.settled p.0 p.1) s.promises) ∙ ap (λ l. rows_of before ++ l) (settlements_told s.promises);
  each = settlements_paid s.promises;
}

-- ---- a seat that is left

paid_from : (seat n : ℕ) (rs : List Share) → AllByRecursion (IsOfSeat seat) (map printed_move (payout_moves seat n rs))
paid_from seat n [] = tt
paid_from seat n (r ∷ rs) = (record { keyword = r.keyword; from = refl }, paid_from seat (suc n) rs)

left_later : (w : State) (seat : ℕ) (cause : Cause) → Later w.log (w.log ++ leaving_events w seat cause)
left_later w seat cause =
    let ms = moves_out w seat in
    let x = printed_exit (record { seat = seat; cause = cause; payouts = payouts_at w seat }) in
    record {
      pieces = leaving x (map printed_move ms) ∷ [];
      told = rows_append w.log (leaving_events w seat cause)
          ∙ ap (λ l. rows_of w.log ++ rows.exited x ∷ l) (rows_of_moves ms ∙ sym (move_rows ms) ∙ sym (append-nil (map rows.moved (map printed_move ms))));
      each = (paid_from seat _ (slots_at w.rights.slots seat), tt);
    }

exit_later : (w : State) (seat : ℕ) (cause : Cause) → Later w.log (after w (exit seat cause)).log
exit_later w seat cause =
    let log = w.log ++ leaving_events w seat cause in
    later_then w.log log (after w (exit seat cause)).log (left_later w seat cause)
    (settled_later log (after w (exit seat cause)).log (resolving_settles (pair_at w.pairs seat).payouts (ok (payouts_tree w seat)) w.promises w.waiting log))

halts_later : (i : ℕ) (cause : Cause) (w : State) (seats : List ℕ) → Later w.log (after_all w (exits_with cause seats ++ halt i ∷ [])).log
halts_later i cause w [] = none_later w.log
halts_later i cause w (s ∷ seats) =
    later_then w.log (after w (exit s cause)).log (after_all w (exits_with cause (s ∷ seats) ++ halt i ∷ [])).log (exit_later w s cause) (halts_later i cause (after w (exit s cause)) seats)

-- ---- the turn's end

spent_end : (d : Delivery) (m : ℕ) (u : State) → Later u.log (after_all u (ending d (spent m) u)).log
unfolding ending
spent_end (deliveries.call c) m u = none_later u.log
spent_end (deliveries.give g) m u = none_later u.log
spent_end (deliveries.tick t) m u = none_later u.log
spent_end (deliveries.bad r) m u = none_later u.log
spent_end (deliveries.wake x) m u = none_later u.log
spent_end (deliveries.deadline s) m u = none_later u.log
spent_end (deliveries.send s) m u = settled_later _ _ (resolving_settles s.promise (without_cycle u.promises.follows s.promise (settled_after (deliveries.send s) (spent m))) u.promises u.waiting u.log)
spent_end (deliveries.start s) m u = settled_later _ _ (resolving_settles s.promise (without_cycle u.promises.follows s.promise (settled_after (deliveries.start s) (spent m))) u.promises u.waiting u.log)
spent_end (deliveries.offer o) m u = settled_later _ _ (resolving_settles o.promise (without_cycle u.promises.follows o.promise (settled_after (deliveries.offer o) (spent m))) u.promises u.waiting u.log)
spent_end (deliveries.notify n) m u = settled_later _ _ (resolving_settles n.answer (without_cycle u.promises.follows n.answer (settled_after (deliveries.notify n) (spent m))) u.promises u.waiting u.log)

-- ---- the turn

spent_is : (a : Answer) (m : ℕ) → printed_answer a ≡ rows.spent m → a ≡ spent m
spent_is (given t) m is = absurd (cc)
spent_is (refused r) m is = absurd (cc)
spent_is (threw t) m is = absurd (cc)
spent_is (spent k) m is = let same : k ≡ m = cc in ap spent same

not_spent_row : (row : Outcome) (m : ℕ) → answer_of row ≡ spent m → ⊥
not_spent_row (Ok (answer, effects)) m is = cc
not_spent_row (Err r) m is = cc

thrown_or : (b : Bool) (t : Tree) (a : Answer) (m : ℕ) → (a ≡ spent m → ⊥) → cond b (threw t) a ≡ spent m → ⊥
thrown_or true t a m unlike is = cc
thrown_or false t a m unlike is = unlike is

not_spent_ending : (e : Ending) (m : ℕ) → answer_of_ending e ≡ spent m → ⊥
not_spent_ending (plays.returned v) m is = thrown_or (is_local v) (refusal_tree local_only) (given v) m (λ e. cc) is
not_spent_ending (plays.threw v) m is = thrown_or (is_local v) (refusal_tree local_only) (threw v) m (λ e. cc) is

run_later : (meter : ℕ) (w : State) (i : ℕ) (r : Run) (m : ℕ) → (run_work meter w i r).answer ≡ spent m → Later w.log (after_all w (run_work meter w i r).effects).log
run_later meter w i (ended e values es) m is = absurd (not_spent_ending e m is)
run_later meter w i ran_out m is = halts_later i causes.spent w (all_open w i)

work_later : (read : TextReader) (meter : ℕ) (w : State) (t : Task) (m : ℕ) → (task_work read meter w t).answer ≡ spent m → Later w.log (after_all w (task_work read meter w t).effects).log
unfolding task_work
work_later read meter w (refuse r) m is = absurd (cc)
work_later read meter w (do_all es) m is = absurd (cc)
work_later read meter w (serve o method args) m is = absurd (not_spent_row _ m is)
work_later read meter w (run c) m is = run_later meter w c.instance (function_run meter w c) m is

turn_later : (read : TextReader) (meter : ℕ) (w : State) (d : Delivery) (m : ℕ) → (delivery_turn read meter w d).answer ≡ spent m
    → Later w.log (after_all w (delivery_turn read meter w d).effects).log
unfolding delivery_turn
turn_later read meter w d m is =
    let work = task_work read meter w (beginning w d).task in
    let u = after_all w work.effects in
    let ends = ending d work.answer u in
    let last : Later u.log (after_all u ends).log = subst (λ a. Later u.log (after_all u (ending d a u)).log) (sym is) (spent_end d m u) in
    subst (λ (x : State). Later w.log x.log) (sym (after_both w work.effects ends)) (later_then w.log u.log (after_all u ends).log (work_later read meter w (beginning w d).task m is) last)

pieces_told : (log : List Event) → Later [] log → TellsPieces (rows_of log)
pieces_told log later = record { pieces = later.pieces; told = later.told; each = later.each }

-- ---- a turn that was refused

unsettled : (log : List Event) → Settles log log
unsettled log = record { promises = []; told = sym (append-nil log) }

refused_end : (d : Delivery) (e : Refusal) (u : State) → Settles u.log (after_all u (ending d (refused e) u)).log
unfolding ending
refused_end (deliveries.call c) e u = unsettled u.log
refused_end (deliveries.give g) e u = unsettled u.log
refused_end (deliveries.tick t) e u = unsettled u.log
refused_end (deliveries.bad r) e u = unsettled u.log
refused_end (deliveries.wake x) e u = unsettled u.log
refused_end (deliveries.deadline s) e u = unsettled u.log
refused_end (deliveries.send s) e u = resolving_settles s.promise (without_cycle u.promises.follows s.promise (settled_after (deliveries.send s) (refused e))) u.promises u.waiting u.log
refused_end (deliveries.start s) e u = resolving_settles s.promise (without_cycle u.promises.follows s.promise (settled_after (deliveries.start s) (refused e))) u.promises u.waiting u.log
refused_end (deliveries.offer o) e u = resolving_settles o.promise (without_cycle u.promises.follows o.promise (settled_after (deliveries.offer o) (refused e))) u.promises u.waiting u.log
refused_end (deliveries.notify n) e u = resolving_settles n.answer (without_cycle u.promises.follows n.answer (settled_after (deliveries.notify n) (refused e))) u.promises u.waiting u.log

thrown_not_refused : (b : Bool) (t : Tree) (a : Answer) (e : Refusal) → (a ≡ refused e → ⊥) → cond b (threw t) a ≡ refused e → ⊥
thrown_not_refused true t a e unlike is = cc
thrown_not_refused false t a e unlike is = unlike is

ending_not_refused : (x : Ending) (e : Refusal) → answer_of_ending x ≡ refused e → ⊥
ending_not_refused (plays.returned v) e is = thrown_not_refused (is_local v) (refusal_tree local_only) (given v) e (λ i. cc) is
ending_not_refused (plays.threw v) e is = thrown_not_refused (is_local v) (refusal_tree local_only) (threw v) e (λ i. cc) is

row_quiet : (row : Outcome) (e : Refusal) → answer_of row ≡ refused e → effects_of row ≡ []
row_quiet (Ok (answer, effects)) e is = absurd (cc)
row_quiet (Err r) e is = refl

run_quiet : (meter : ℕ) (w : State) (i : ℕ) (r : Run) (e : Refusal) → (run_work meter w i r).answer ≡ refused e → (run_work meter w i r).effects ≡ []
run_quiet meter w i (ended x values es) e is = absurd (ending_not_refused x e is)
run_quiet meter w i ran_out e is = absurd (cc)

work_quiet : (read : TextReader) (meter : ℕ) (w : State) (t : Task) (e : Refusal) → (task_work read meter w t).answer ≡ refused e → (task_work read meter w t).effects ≡ []
unfolding task_work
work_quiet read meter w (refuse r) e is = refl
work_quiet read meter w (do_all es) e is = absurd (cc)
work_quiet read meter w (serve o method args) e is = row_quiet _ e is
work_quiet read meter w (run c) e is = run_quiet meter w c.instance (function_run meter w c) e is

turn_settles : (read : TextReader) (meter : ℕ) (w : State) (d : Delivery) (e : Refusal) → (delivery_turn read meter w d).answer ≡ refused e
    → Settles w.log (after_all w (delivery_turn read meter w d).effects).log
unfolding delivery_turn
turn_settles read meter w d e is =
    let work = task_work read meter w (beginning w d).task in
    let P : List Effect → Answer → Type 0 = λ es a. Settles w.log (after_all w (es ++ ending d a (after_all w es))).log in
    subst (λ a. P work.effects a) (sym is) (subst (λ es. P es (refused e)) (sym (work_quiet read meter w (beginning w d).task e is)) (refused_end d e w))

settlements_alone : (ps : List (ℕ × SettlementView)) → AllByRecursion IsSettlement (rows_of (map (λ p. events.settled p.0 p.1) ps))
settlements_alone [] = tt
settlements_alone (p ∷ ps) = (tt, settlements_alone ps)

refused_is : (a : Answer) (code : List ℕ) (shown : json.Items) → printed_answer a ≡ rows.refused code shown → (e : Refusal) × (a ≡ refused e)
refused_is (given t) code shown is = absurd (cc)
refused_is (refused e) code shown is = (e, refl)
refused_is (threw t) code shown is = absurd (cc)
refused_is (spent m) code shown is = absurd (cc)

refused_rows : (log : List Event) → Settles [] log → AllByRecursion IsSettlement (rows_of log)
refused_rows log s = subst (λ l. AllByRecursion IsSettlement (rows_of l)) (sym s.told) (settlements_alone s.promises)

-- ---- both

from_little : (read : TextReader) (s : HostState) (ws : List Delivery) → s.world.log ≡ [] → IfSome (step_from read s ws) (λ t. TellsLittle (printed t.turn))
from_little read s [] untold = tt
from_little read s (d ∷ ds) untold =
    let w = behind s.world in
    let turn = delivery_turn read s.meter w d in
    record {
      refused = λ code shown is.
          let (e, same) = refused_is turn.answer code shown is in
          refused_rows _ (subst (λ l. Settles l (after_all w turn.effects).log) untold (turn_settles read s.meter w d e same));
      spent = λ m is.
          pieces_told _ (subst (λ l. Later l (after_all w turn.effects).log) untold (turn_later read s.meter w d m (spent_is turn.answer m is)));
    }

-- the turn of a host's step
pub steps_tell_little : (read : TextReader) (s : HostState) → IsGoodHost s → IfSome (step_of read s) (λ t. TellsLittle (printed t.turn))
unfolding step_of
steps_tell_little read s good = from_little read s s.world.waiting good.untold
