-- The step of a good host is licensed: what its function names was handed to it, and each movement is by right.
use Rattle.std.specs.Prelude.{◌≡◌, ◌++◌, ℕ, [], IfSome, Option, length, refl}
use Rattle.std.proofs.Common.{sym, ◌∙◌, ap, subst, arith}
use Rattle.fair_laws.proofs.rule_laws.Methods.{calls_are, services_are}
use Rattle.fair_laws.specs.rule_laws.GoodServices.{AreGoodServices}
use Rattle.fair_laws.specs.rules.Methods.{serve as serve_call}
use Rattle.fair_laws.specs.rules.Zoe.{ReadsModules, TextReader}
use Rattle.fair_laws.specs.delivery_laws.Hosts.{IsGoodHost}
use Rattle.fair_laws.specs.delivery_laws.Works.{AreGoodHostCalls}
use Rattle.fair_laws.proofs.delivery_laws.Logs.{log_grows}
use Rattle.fair_laws.proofs.delivery_laws.Works.{turn_good}
use Rattle.fair_laws.specs.delivery_turns.Hosts.{HostState, step_after, step_of}
use Rattle.fair_laws.specs.delivery_turns.Turns.{delivery_turn}
use Rattle.fair_laws.specs.world_state.host_data.declared.data.ObjKind.{ObjKind}
use Rattle.fair_laws.specs.world_state.host_data.declared.data.ObjKind.TheVariants as kinds
use Rattle.fair_laws.specs.world_state.turn_records.Deliveries as deliveries
use Rattle.fair_laws.specs.world_state.turn_records.Deliveries.{Delivery, Reading}
use Rattle.fair_laws.specs.world_state.Good.{IsGoodWorld}
use Rattle.fair_laws.specs.world_state.Worlds.{State, after_all, behind, in_front}
use Rattle.licence_laws.specs.Came.{instance_behind, instance_called, runs_in}
use Rattle.licence_laws.specs.Movements.{AreMovedBy, MayMove, no_rows}
use Rattle.licence_laws.specs.Steps.{IsLicensed, runner}
use Rattle.licence_laws.proofs.Hosts.{each_step}
use Rattle.licence_laws.proofs.Moves.{WorkMoves, parts_move}
use Rattle.licence_laws.proofs.Naming.{step_names}
use Rattle.licence_laws.proofs.Told.{all_tell, all_told}
use Rattle.licence_laws.proofs.Works.{turn_shows}

-- ---- whose function is run is so whether its delivery was taken or not

behind_kind : (w : State) (k : ObjKind) (n : ℕ) → instance_behind (behind w) k n ≡ instance_behind w k n
behind_kind w kinds.Facet n = refl
behind_kind w k n = refl

behind_called : (w : State) (r : Reading) → instance_called (behind w) r ≡ instance_called w r
behind_called w (deliveries.target o args) = behind_kind w o.kind o.number
behind_called w r = refl

runs_behind : (w : State) (d : Delivery) (r : Reading) → runs_in (behind w) d r ≡ runs_in w d r
runs_behind w (deliveries.call c) r = behind_called w r
runs_behind w (deliveries.send s) r = behind_called w r
runs_behind w d r = refl

module _ (read : TextReader) (served : AreGoodServices (serve_call read)) (called : AreGoodHostCalls) where
  step_licensed : (s : HostState) (d : Delivery) → IsGoodHost s → IsGoodWorld (in_front d (behind s.world)) → IsLicensed s (step_after s d (delivery_turn read s.meter (behind s.world) d))
  step_licensed s d host good =
      let w = behind s.world in
      let t = delivery_turn read s.meter w d in
      let step = step_after s d t in
      let new = step.next.world in
      let rows = no_rows (length s.world.rights.payments) in
      let told : step.turn.events ≡ all_told w t.effects = all_tell w t.effects ∙ ap (λ l. l ++ all_told w t.effects) host.untold in
      let moved : AreMovedBy (MayMove new (runs_in w d t.reading) d t.reading) rows (all_told w t.effects) =
      turn_shows read served called s.meter w d good (WorkMoves w new d) (parts_move called w new d)
      (turn_good read served called s.meter w d good) (log_grows [] (after_all w t.effects)) rows (omega arith) in
      record {
        names = step_names read served called s d host good;
        moves = subst (λ l. AreMovedBy (MayMove new (runner s step) d t.reading) rows l) (sym told)
            (subst (λ (o : Option ℕ). AreMovedBy (MayMove new o d t.reading) rows (all_told w t.effects)) (runs_behind s.world d t.reading) moved);
      }

pub steps_licensed : (read : TextReader) (s : HostState) → ReadsModules read → IsGoodHost s → IfSome (step_of read s) (IsLicensed s)
steps_licensed read s gives host = each_step read IsLicensed (step_licensed read (services_are read gives) calls_are) s host
