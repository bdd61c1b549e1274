-- The record of a turn that a good host's step makes can be printed.
use Rattle.std.specs.Prelude.{IfSome}
use Rattle.std.specs.List.{AllByRecursion}
use Rattle.std.proofs.Common.{◌≡◌, ℕ, ◌+◌, List, [], ◌∷◌, ◌++◌, None, refl, sym, subst}
use Rattle.rule_laws.specs.GoodServices.{AreGoodServices}
use Rattle.delivery_turns.specs.rules.Zoe.{TextReader}
use Rattle.delivery_turns.specs.turn_records.Ends.{CanTell, StandsIn}
use Rattle.delivery_turns.proofs.turn_records.Ending.{ends as fits_kind, tells as stands_in}
use Rattle.turn_writer.specs.Printing.{CanPrint, CanPrintAnswer, CanPrintEvent}
use Rattle.delivery_turns.specs.turn_records.Deliveries.{Delivery}
use Rattle.delivery_turns.specs.turn_records.Events.{Answer, given, refused, spent, threw}
use Rattle.delivery_turns.specs.world_state.Good.{IsGoodWorld}
use Rattle.delivery_turns.specs.world_state.Worlds.{Effect, State, after_all, behind, in_front, note_call}
use Rattle.rule_laws.proofs.world_laws.Fronts.{begins, good_behind}
use Rattle.rule_laws.proofs.world_laws.Lists.{all_append, all_map}
use Rattle.delivery_turns.specs.rules.Methods.{serve as serve_call}
use Rattle.delivery_turns.specs.Endings.{ending}
use Rattle.delivery_turns.specs.Hosts.{HostState, step_after, step_from, step_of, told_turn}
use Rattle.delivery_turns.specs.Tasks.{beginning, task_work}
use Rattle.delivery_turns.specs.Turns.{delivery_turn}
use Rattle.delivery_laws.specs.Hosts.{IsGoodHost}
use Rattle.delivery_laws.specs.Works.{AreGoodHostCalls, CanPrintNote, IsOut}
use Rattle.delivery_laws.proofs.Hosts.{IsQuiet, quiet_end}
use Rattle.delivery_laws.proofs.Printing.{formed_prints}
use Rattle.delivery_laws.proofs.Works.{turn_good, work_is}
use Rattle.delivery_laws.proofs.Growing.{TellsSo, effects_so}
use Rattle.delivery_laws.proofs.ReadingForms.{delivery_prints, reading_prints}
use Rattle.delivery_laws.proofs.Endings.{delivery_ends}
use Rattle.delivery_laws.proofs.Calls.{all_quiet_tell, delivery_tells}

answer_prints : (w : State) → IsGoodWorld w → (a : Answer) → IsOut w a → CanPrintAnswer a
answer_prints w good (given t) out = formed_prints w good None t out
answer_prints w good (threw t) out = formed_prints w good None t out
answer_prints w good (refused r) out = tt
answer_prints w good (spent meter) out = tt

note_prints : (e : Effect) → CanPrintNote e → TellsSo CanPrintEvent e
note_prints (note_call c) is = is
note_prints e is = tt

quiet_prints : (e : Effect) → IsQuiet e → TellsSo CanPrintEvent e
quiet_prints (note_call c) is = absurd is
quiet_prints e is = tt

module _ (read : TextReader) (served : AreGoodServices (serve_call read)) (called : AreGoodHostCalls) where
  pub turn_prints : (number meter : ℕ) (w : State) (d : Delivery) → w.log ≡ [] → IsGoodWorld (in_front d w)
      → let turn = delivery_turn read meter w d in CanPrint (told_turn number d turn (after_all w turn.effects))
  unfolding delivery_turn
  turn_prints number meter w d untold good =
      let b = beginning w d in
      let work = task_work read meter w b.task in
      let there = after_all w work.effects in
      let last = ending d work.answer there in
      let is = work_is read served called meter w d good in
      let whole = good_behind w d good in
      let quiet = quiet_end there d work.answer in
      let are = turn_good read served called meter w d good in
      let told = reading_prints w d good in
      let can_end = delivery_ends read meter w d in
      let prints : AllByRecursion (TellsSo CanPrintEvent) (work.effects ++ last) =
      all_append (TellsSo CanPrintEvent) work.effects last (all_map CanPrintNote (TellsSo CanPrintEvent) note_prints work.effects is.told) (all_map IsQuiet (TellsSo CanPrintEvent) quiet_prints last quiet) in
      let Q = CanTell d b.reading work.answer in
      let tells : AllByRecursion (TellsSo Q) (work.effects ++ last) =
      all_append (TellsSo Q) work.effects last (delivery_tells read served meter w d good) (all_quiet_tell d b.reading work.answer last quiet) in
      record {
        read = told.read;
        delivery = delivery_prints w d good;
        reading = told.reading;
        arguments = told.arguments;
        answered = fits_kind d b.reading work.answer can_end;
        answer = answer_prints there (good_behind there d is.front) work.answer is.out;
        events = effects_so CanPrintEvent (λ m. tt) (λ x. tt) (λ o h. h) (λ n s h. h) w (work.effects ++ last) whole are prints (subst (AllByRecursion CanPrintEvent) (sym untold) tt);
        calls = all_map Q (StandsIn d b.reading work.answer) (stands_in d b.reading work.answer) _
            (effects_so Q (λ m. tt) (λ x. tt) (λ o h. tt) (λ n s h. tt) w (work.effects ++ last) whole are tells (subst (AllByRecursion Q) (sym untold) tt));
      }

  step_prints : (s : HostState) (d : Delivery) (ds : List Delivery) → s.world.waiting ≡ d ∷ ds → IsGoodHost s → CanPrint (step_after s d (delivery_turn read s.meter (behind s.world) d)).turn
  step_prints s d ds front host =
      turn_prints (s.turns + 1) s.meter (behind s.world) d host.untold (subst IsGoodWorld (begins s.world d ds front) host.world)

  from_prints : (s : HostState) (ws : List Delivery) → s.world.waiting ≡ ws → IsGoodHost s → IfSome (step_from read s ws) (λ t. CanPrint t.turn)
  from_prints s [] front host = tt
  from_prints s (d ∷ ds) front host = step_prints s d ds front host

  pub steps_print : (s : HostState) → IsGoodHost s → IfSome (step_of read s) (λ t. CanPrint t.turn)
  unfolding step_of
  steps_print s host = from_prints s s.world.waiting refl host
