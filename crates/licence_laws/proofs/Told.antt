-- What a turn tells: each call that is told stands in its rows, and each movement's row is one of an effect's.
use Rattle.std.specs.Prelude.{◌≡◌, ◌++◌, ◌||◌, ℕ, suc, Bool, true, false, List, [], ◌∷◌, length, map, refl}
use Rattle.std.specs.List.{AllByRecursion, list_any}
use Rattle.std.proofs.Common.{append_assoc, sym, ◌∙◌, ap, subst}
use Rattle.std.proofs.lemmas.List.{append-nil}
use Rattle.fair_laws.proofs.Rows.{Settles, resolving_settles, rows_append}
use Rattle.fair_laws.specs.Places.{rows_of}
use Rattle.fair_laws.specs.actors.SeatPromises.{pair_at}
use Rattle.fair_laws.specs.world_state.host_data.Tree.{null}
use Rattle.fair_laws.specs.world_state.promise_store.States.{SettlementView, ok}
use Rattle.fair_laws.specs.world_state.proposals.declared.allocations.Share.{Share}
use Rattle.fair_laws.specs.world_state.rights_model.declared.Movement.{Movement}
use Rattle.fair_laws.specs.world_state.turn_records.Events as events
use Rattle.fair_laws.specs.world_state.turn_records.Events.{Event}
use Rattle.fair_laws.specs.world_state.turn_records.Printed.{printed_call}
use Rattle.fair_laws.specs.world_state.turn_rows.Causes.{Cause}
use Rattle.fair_laws.specs.world_state.Promises.{resolving}
use Rattle.fair_laws.specs.world_state.turn_rows.Turns as rows
use Rattle.fair_laws.specs.world_state.turn_rows.Turns.{Turn}
use Rattle.fair_laws.proofs.world_laws.Lists.{all_append}
use Rattle.fair_laws.specs.world_state.Rights.{slots_at}
use Rattle.fair_laws.specs.world_state.Worlds.{Effect, State, after, after_all, burn_and_escrows, empty_seat, exit, invitation_move, invite, leaving, leaving_events, moves, moves_out, note_call, of_own, offer, offer_events, opening_of, payout_moves, payouts_tree, promises_made, resolve}
use Rattle.licence_laws.proofs.Effects.{AllTakeAsShown, AreShown, IsShownRow, TakesAsShown}

-- ---- rows of movements

moves_shown : (t : Turn) (ms : List Movement) → AreShown t ms → AllByRecursion (IsShownRow t) (rows_of (map events.moved ms))
moves_shown t [] all = tt
moves_shown t (m ∷ ms) all = (all.0, moves_shown t ms all.1)

payouts_shown : (t : Turn) (seat n : ℕ) (rs : List Share) → AreShown t (payout_moves seat n rs)
payouts_shown t seat n [] = tt
payouts_shown t seat n (r ∷ rs) = ((tt, tt), payouts_shown t seat (suc n) rs)

both_shown : (t : Turn) (xs ys : List Event) → AllByRecursion (IsShownRow t) (rows_of xs) → AllByRecursion (IsShownRow t) (rows_of ys) → AllByRecursion (IsShownRow t) (rows_of (xs ++ ys))
both_shown t xs ys one two = subst (AllByRecursion (IsShownRow t)) (sym (rows_append xs ys)) (all_append (IsShownRow t) (rows_of xs) (rows_of ys) one two)

-- ---- what effects tell

abbrev pub settlements : List (ℕ × SettlementView) → List Event
settlements ps = map (λ p. events.settled p.0 p.1) ps

-- what settling the promise of a seat's payouts tells, and what resolving a promise does
pub exit_settles : (w : State) (seat : ℕ) (cause : Cause) → Settles (w.log ++ leaving_events w seat cause) (leaving w seat cause).log
exit_settles w seat cause = resolving_settles (pair_at w.pairs seat).payouts (ok (payouts_tree w seat)) w.promises w.waiting (w.log ++ leaving_events w seat cause)

pub resolve_settles : (w : State) (p : ℕ) (v : SettlementView) → Settles w.log (resolving p v w.promises w.waiting w.log).log
resolve_settles w p v = resolving_settles p v w.promises w.waiting w.log

abbrev pub told_by : State → Effect → List Event
told_by w (moves ms) = map events.moved ms
told_by w (offer o) = offer_events w o
told_by w (empty_seat i rule) = opening_of w i (of_own rule) ∷ events.settled (promises_made w) (ok null) ∷ []
told_by w (exit seat cause) = leaving_events w seat cause ++ settlements (exit_settles w seat cause).promises
told_by w (invite d) = events.moved (invitation_move w) ∷ []
told_by w (resolve p v) = settlements (resolve_settles w p v).promises
told_by w (note_call c) = events.called c ∷ []
told_by w _ = []

abbrev pub all_told : State → List Effect → List Event
all_told w [] = []
all_told w (x ∷ es) = told_by w x ++ all_told (after w x) es

tells : (w : State) (x : Effect) → (after w x).log ≡ w.log ++ told_by w x
tells w (moves ms) = refl
tells w (offer o) = refl
tells w (empty_seat i rule) = refl
tells w (exit seat cause) =
    (exit_settles w seat cause).told ∙ append_assoc w.log (leaving_events w seat cause) (settlements (exit_settles w seat cause).promises)
tells w (invite d) = refl
tells w (resolve p v) = (resolve_settles w p v).told
tells w (note_call c) = refl
tells w x = sym (append-nil w.log)

pub all_tell : (w : State) (es : List Effect) → (after_all w es).log ≡ w.log ++ all_told w es
all_tell w [] = sym (append-nil w.log)
all_tell w (x ∷ es) =
    all_tell (after w x) es ∙ ap (λ l. l ++ all_told (after w x) es) (tells w x) ∙ append_assoc w.log (told_by w x) (all_told (after w x) es)

-- of effects one list behind another
pub told_both : (w : State) (es fs : List Effect) → all_told w (es ++ fs) ≡ all_told w es ++ all_told (after_all w es) fs
told_both w [] fs = refl
told_both w (x ∷ es) fs =
    ap (λ l. told_by w x ++ l) (told_both (after w x) es fs) ∙ sym (append_assoc (told_by w x) (all_told (after w x) es) (all_told (after_all (after w x) es) fs))

-- ---- what is told is called for where the effects are

settlements_shown : (t : Turn) (ps : List (ℕ × SettlementView)) → AllByRecursion (IsShownRow t) (rows_of (settlements ps))
settlements_shown t [] = tt
settlements_shown t (p ∷ ps) = ((tt, tt), settlements_shown t ps)

shown_by : (t : Turn) (w : State) (x : Effect) → TakesAsShown t x → AllByRecursion (IsShownRow t) (rows_of (told_by w x))
shown_by t w (moves ms) so = moves_shown t ms so
shown_by t w (offer o) so = ((tt, tt), moves_shown t (burn_and_escrows o) so)
shown_by t w (empty_seat i rule) so = ((tt, tt), ((tt, tt), tt))
shown_by t w (exit seat cause) so =
    both_shown t (leaving_events w seat cause) (settlements (exit_settles w seat cause).promises)
    ((tt, tt), moves_shown t (moves_out w seat) (payouts_shown t seat (length w.rights.payments) (slots_at w.rights.slots seat)))
    (settlements_shown t (exit_settles w seat cause).promises)
shown_by t w (invite d) so = ((so, tt), tt)
shown_by t w (resolve p v) so = settlements_shown t (resolve_settles w p v).promises
shown_by t w (note_call c) so = ((tt, tt), tt)
shown_by t w x so = tt

pub all_shown : (t : Turn) (w : State) (es : List Effect) → AllTakeAsShown t es → AllByRecursion (IsShownRow t) (rows_of (all_told w es))
all_shown t w [] so = tt
all_shown t w (x ∷ es) so = both_shown t (told_by w x) (all_told (after w x) es) (shown_by t w x so.0) (all_shown t (after w x) es so.1)

-- ---- calls that are told stand in the rows

module _ {A : Type 0} (test : A → Bool) where
  any_first : (xs ys : List A) → list_any test xs ≡ true → list_any test (xs ++ ys) ≡ true
  any_first [] ys is = cc
  any_first (x ∷ xs) ys is = by (test x) (any_first xs ys) is
    where
      by : (b : Bool) → (list_any test xs ≡ true → list_any test (xs ++ ys) ≡ true) → (b || list_any test xs) ≡ true → (b || list_any test (xs ++ ys)) ≡ true
      by true rest is = refl
      by false rest is = rest is

  any_second : (xs ys : List A) → list_any test ys ≡ true → list_any test (xs ++ ys) ≡ true
  any_second [] ys is = is
  any_second (x ∷ xs) ys is = by (test x) (any_second xs ys is)
    where
      by : (b : Bool) → list_any test (xs ++ ys) ≡ true → (b || list_any test (xs ++ ys)) ≡ true
      by true rest = refl
      by false rest = rest

-- such a call stands among the turn's rows, whatever is looked for in them
abbrev pub IsToldIn : Turn → Effect → Type 0
IsToldIn t (note_call c) = (test : rows.Event → Bool) → test (rows.called (printed_call c)) ≡ true → list_any test t.events ≡ true
IsToldIn t _ = Unit {0}

module _ (t : Turn) where
  -- what was told still is after further effects
  still_told : (test : rows.Event → Bool) (w : State) (es : List Effect) → t.events ≡ rows_of (after_all w es).log → list_any test (rows_of w.log) ≡ true → list_any test t.events ≡ true
  still_told test w es is there =
      let more = all_told w es in
      let same : t.events ≡ rows_of w.log ++ rows_of more = is ∙ ap rows_of (all_tell w es) ∙ rows_append w.log more in
      subst (λ l. list_any test l ≡ true) (sym same) (any_first test (rows_of w.log) (rows_of more) there)

  is_told : (w : State) (x : Effect) (es : List Effect) → t.events ≡ rows_of (after_all (after w x) es).log → IsToldIn t x
  is_told w (note_call c) es is = λ test so.
      still_told test (after w (note_call c)) es is
      (subst (λ l. list_any test l ≡ true) (sym (rows_append w.log (events.called c ∷ [])))
      (any_second test (rows_of w.log) (rows.called (printed_call c) ∷ []) (ap (λ b. b || false) so)))
  is_told w x es is = tt

  pub are_told : (w : State) (es : List Effect) → t.events ≡ rows_of (after_all w es).log → AllByRecursion (IsToldIn t) es
  are_told w [] is = tt
  are_told w (x ∷ es) is = (is_told w x es is, are_told (after w x) es is)
