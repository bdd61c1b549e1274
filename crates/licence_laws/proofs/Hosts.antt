-- What the step of a good host mints, withdraws and spends is shown by its turn.
use Rattle.std.specs.Prelude.{◌≡◌, ◌+◌, ◌++◌, ℕ, List, [], ◌∷◌, IfSome, refl}
use Rattle.std.specs.List.{AllByRecursion}
use Rattle.std.proofs.Common.{sym, ◌∙◌, ap, subst}
use Rattle.fair_laws.proofs.rule_laws.Methods.{calls_are, services_are}
use Rattle.fair_laws.specs.delivery_laws.Hosts.{IsGoodHost}
use Rattle.fair_laws.specs.delivery_laws.Works.{AreGoodHostCalls}
use Rattle.fair_laws.specs.delivery_turns.Hosts.{HostState, Step, step_after, step_from, step_of, told_turn}
use Rattle.fair_laws.specs.delivery_turns.Turns.{delivery_turn}
use Rattle.fair_laws.specs.Places.{rows_of}
use Rattle.fair_laws.specs.rule_laws.GoodServices.{AreGoodServices}
use Rattle.fair_laws.specs.rules.Methods.{serve as serve_call}
use Rattle.fair_laws.specs.rules.Zoe.{ReadsModules, TextReader}
use Rattle.fair_laws.specs.world_state.turn_records.Deliveries.{Delivery}
use Rattle.fair_laws.specs.world_state.turn_records.Printed.{printed}
use Rattle.fair_laws.specs.world_state.turn_rows.Turns.{Event, Turn}
use Rattle.fair_laws.proofs.world_laws.Fronts.{begins}
use Rattle.fair_laws.specs.world_state.Good.{IsGoodWorld}
use Rattle.fair_laws.specs.world_state.Worlds.{State, after_all, behind, in_front}
use Rattle.licence_laws.specs.Minting.{IsCalledForRow, ShowsMinting, ShowsWithdrawal}
use Rattle.licence_laws.specs.Spending.{IsSpentByNameRow, ShowsSpending}
use Rattle.licence_laws.specs.Steps.{IsCalledFor, IsSpentByName}
use Rattle.licence_laws.proofs.Effects.{AllTakeAsShown, IsShownRow}
use Rattle.licence_laws.proofs.Levels.{out_count, out_shown, payment_count, payment_shown, purse_count, purse_shown, shown_then}
use Rattle.licence_laws.proofs.Taking.{WorkTakes, parts_take}
use Rattle.licence_laws.proofs.Told.{all_shown, all_tell, all_told, are_told}
use Rattle.licence_laws.proofs.Works.{turn_shows}

-- ---- any step

module _ (read : TextReader) (P : HostState → Step → Type 0) (each : (s : HostState) (d : Delivery) → IsGoodHost s → IsGoodWorld (in_front d (behind s.world)) → P s (step_after s d (delivery_turn read s.meter (behind s.world) d))) where
  from_each : (s : HostState) (ws : List Delivery) → s.world.waiting ≡ ws → IsGoodHost s → IfSome (step_from read s ws) (P s)
  from_each s [] front host = tt
  from_each s (d ∷ ds) front host = each s d host (subst IsGoodWorld (begins s.world d ds front) host.world)

  -- what holds of the turn of the delivery in front of a good host holds of its step
  pub each_step : (s : HostState) → IsGoodHost s → IfSome (step_of read s) (P s)
  unfolding step_of
  each_step s host = from_each s s.world.waiting refl host

-- ---- rows

-- each row is called for, and names what is spent
called_for_rows : (t : Turn) (es : List Event) → AllByRecursion (IsShownRow t) es → AllByRecursion (IsCalledForRow t) es
called_for_rows t [] shown = tt
called_for_rows t (e ∷ es) shown = (shown.0.0, called_for_rows t es shown.1)

naming_rows : (t : Turn) (es : List Event) → AllByRecursion (IsShownRow t) es → AllByRecursion (IsSpentByNameRow t) es
naming_rows t [] shown = tt
naming_rows t (e ∷ es) shown = (shown.0.1, naming_rows t es shown.1)

module _ (read : TextReader) (served : AreGoodServices (serve_call read)) (called : AreGoodHostCalls) where
  -- ---- a whole turn

  abbrev turn_of : ℕ → ℕ → State → Delivery → Turn
  turn_of k meter w d =
      let t = delivery_turn read meter w d in
      printed (told_turn k d t (after_all w t.effects))

  turn_takes : (k meter : ℕ) (w : State) (d : Delivery) → IsGoodWorld (in_front d w) → AllTakeAsShown (turn_of k meter w d) (delivery_turn read meter w d).effects
  turn_takes k meter w d good =
      let t = turn_of k meter w d in
      let es = (delivery_turn read meter w d).effects in
      turn_shows read served called meter w d good (WorkTakes t d) (parts_take t called w d)
      (record { kind = refl; on = refl; method = refl; arguments = refl; answer = refl }) (are_told t w es refl)

  -- ---- a step

  rows_shown : (s : HostState) (d : Delivery) → IsGoodHost s → IsGoodWorld (in_front d (behind s.world)) → let t = printed (step_after s d (delivery_turn read s.meter (behind s.world) d)).turn in AllByRecursion (IsShownRow t) t.events
  rows_shown s d host good =
      let w = behind s.world in
      let es = (delivery_turn read s.meter w d).effects in
      let t = printed (step_after s d (delivery_turn read s.meter w d)).turn in
      let rows : t.events ≡ rows_of (all_told w es) = ap rows_of (all_tell w es ∙ ap (λ l. l ++ all_told w es) host.untold) in
      subst (AllByRecursion (IsShownRow t)) (sym rows) (all_shown t w es (turn_takes (s.turns + 1) s.meter w d good))

  step_called_for : (s : HostState) (d : Delivery) → IsGoodHost s → IsGoodWorld (in_front d (behind s.world)) → IsCalledFor s (step_after s d (delivery_turn read s.meter (behind s.world) d))
  step_called_for s d host good =
      let w = behind s.world in
      let es = (delivery_turn read s.meter w d).effects in
      let step = step_after s d (delivery_turn read s.meter w d) in
      let t = printed step.turn in
      let takes : AllTakeAsShown t es = turn_takes (s.turns + 1) s.meter w d good in
      record {
        minted = λ b k more. shown_then (ShowsMinting t b) (out_count t b k step.next.world.rights) (out_count t b k s.world.rights) (out_shown t b k w es takes) more;
        withdrawn = λ n k less. shown_then (ShowsWithdrawal t n) (purse_count t n k s.world.rights) (purse_count t n k step.next.world.rights) (purse_shown t n k w es takes) less;
        moved = called_for_rows t t.events (rows_shown s d host good);
      }

  step_spends : (s : HostState) (d : Delivery) → IsGoodHost s → IsGoodWorld (in_front d (behind s.world)) → IsSpentByName s (step_after s d (delivery_turn read s.meter (behind s.world) d))
  step_spends s d host good =
      let w = behind s.world in
      let es = (delivery_turn read s.meter w d).effects in
      let step = step_after s d (delivery_turn read s.meter w d) in
      let t = printed step.turn in
      let takes : AllTakeAsShown t es = turn_takes (s.turns + 1) s.meter w d good in
      record {
        spent = λ n k less. shown_then (ShowsSpending t n) (payment_count t n k s.world.rights) (payment_count t n k step.next.world.rights) (payment_shown t n k w es takes) less;
        moved = naming_rows t t.events (rows_shown s d host good);
      }

-- ---- all calls are good rows

pub steps_mint : (read : TextReader) (s : HostState) → ReadsModules read → IsGoodHost s → IfSome (step_of read s) (IsCalledFor s)
steps_mint read s gives host = each_step read IsCalledFor (step_called_for read (services_are read gives) calls_are) s host

pub steps_spend : (read : TextReader) (s : HostState) → ReadsModules read → IsGoodHost s → IfSome (step_of read s) (IsSpentByName s)
steps_spend read s gives host = each_step read IsSpentByName (step_spends read (services_are read gives) calls_are) s host
