-- Calls that show no cause, turns that begin, and causes that the turn's row shows.
use Rattle.std.specs.Prelude.{◌≡◌, ℕ, [], ◌∷◌, Some, None, length, refl}
use Rattle.std.specs.List.{AllByRecursion}
use Rattle.std.proofs.Common.{sym, ◌∙◌, ap, subst}
use Rattle.fair_laws.specs.Places.{rows_of}
use Rattle.fair_laws.proofs.Rows.{rows_append}
use Rattle.fair_rows.specs.ExitCauses.{Owners, cause_by_calls, cause_by_row, cause_of_call, either, while_open}
use Rattle.delivery_laws.specs.turn_records.Events as events
use Rattle.delivery_laws.specs.turn_records.Events.{Answer, Call, given, refused, spent, threw}
use Rattle.delivery_laws.specs.turn_records.Printed.{printed_call}
use Rattle.fair_rows.specs.turn_rows.Causes.{Cause}
use Rattle.fair_rows.specs.turn_rows.Kinds as hows
use Rattle.fair_rows.specs.turn_rows.Kinds.{How}
use Rattle.fair_rows.specs.turn_rows.Turns as rows
use Rattle.fair_rows.specs.turn_rows.Turns.{Turn}
use Rattle.delivery_laws.proofs.world_laws.Lists.{all_append}
use Rattle.delivery_laws.specs.world_state.Worlds.{IsOpen, State, after, exit, note_call, seat_at}
use Rattle.fair_laws.specs.Owed.{HasCause, IsLeft, OpensBelow, Owes, ShowsNothing}
use Rattle.fair_laws.proofs.Exited.{left_rows}
use Rattle.fair_laws.proofs.Shown.{either_none, shown_more}

none_of : (i n : ℕ) (how : How) (answer : Answer) (c : Call) → c.how ≡ how → c.answer ≡ answer → ShowsNothing how answer → cause_of_call i n (printed_call c) ≡ None
none_of i n how answer c how_is answer_is quiet = ap (λ h. cause_of_call i n (printed_call (record c { how = h }))) how_is ∙ ap (λ a. cause_of_call i n (printed_call (record c { how = how; answer = a }))) answer_is ∙ by how answer quiet
  where
    by : (how : How) (answer : Answer) → ShowsNothing how answer → cause_of_call i n (printed_call (record c { how = how; answer = answer })) ≡ None
    by hows.calls (given t) shown = absurd shown
    by hows.calls (refused r) shown = refl
    by hows.calls (threw t) shown = refl
    by hows.calls (spent k) shown = refl
    by hows.sends answer shown = refl
    by hows.when answer shown = refl
    by hows.far answer shown = refl

pub owes_nothing_more : (w : State) (c : Call) → ShowsNothing c.how c.answer → Owes w [] → Owes (after w (note_call c)) []
owes_nothing_more w c quiet owes = record {
  shown = λ n opens.
      let i = (seat_at w.seats n).instance in
      let row = rows.called (printed_call c) in
      ap (λ l. cause_by_calls i n (while_open n l)) (rows_append w.log (events.called c ∷ []))
      ∙ shown_more i n (rows_of w.log) (row ∷ []) refl (left_rows w.seats n opens w.log owes.left)
      ∙ ap (λ x. either x (cause_by_calls i n (row ∷ []))) (owes.shown n opens)
      ∙ either_none (cause_of_call i n (printed_call c))
      ∙ none_of i n c.how c.answer c refl refl quiet;
  made = tt;
  opened = all_append (OpensBelow (length w.seats)) w.log (events.called c ∷ []) owes.opened (tt, tt);
  left = all_append (IsLeft w.seats) w.log (events.called c ∷ []) owes.left (tt, tt);
}

pub owes_at_start : (w : State) → w.log ≡ [] → Owes w []
owes_at_start w none = record {
  shown = λ n opens. ap (λ l. cause_by_calls (seat_at w.seats n).instance n (while_open n (rows_of l))) none;
  made = tt;
  opened = subst (λ l. AllByRecursion (OpensBelow (length w.seats)) l) (sym none) tt;
  left = subst (AllByRecursion (IsLeft w.seats)) (sym none) tt;
}

pub by_the_turn : (owners : Owners) (t : Turn) (w : State) (s : ℕ) (cause : Cause) → IsOpen (seat_at w.seats s) → Owes w [] → cause_by_row t.kind t.answer owners t (seat_at w.seats s).instance s ≡ Some cause → HasCause owners t w (exit s cause)
by_the_turn owners t w s cause opens owes row =
    ap (λ x. either x (cause_by_row t.kind t.answer owners t (seat_at w.seats s).instance s)) (owes.shown s opens) ∙ row
