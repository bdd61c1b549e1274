-- The turns of a run are fair and strict and leave its host, and each can be printed.
use Rattle.std.proofs.Common.{ℕ, ◌≤◌, List, [], ◌∷◌, ◌++◌, Option, IfSome, refl, subst}
use Rattle.std.specs.List.{AllByRecursion}
use Rattle.licence_laws.proofs.rule_laws.Methods.{calls_are, services_are}
use Rattle.licence_laws.proofs.delivery_laws.Steps.{steps_print}
use Rattle.licence_laws.specs.delivery_turns.Hosts.{HostState, Step, with_line}
use Rattle.licence_laws.specs.fair_laws.Turns.{StaysFair, StaysStrict}
use Rattle.licence_laws.proofs.fair_laws.Fair.{leaves_nothing, stay_fair, stay_strict, steady_first}
use Rattle.licence_laws.proofs.fair_laws.Whole.{steps_are}
use Rattle.licence_laws.specs.fair_rows.SoFar.{nothing_so_far}
use Rattle.licence_laws.specs.fair_rows.Steps.{Leaves, so_far_after}
use Rattle.licence_laws.specs.fair_rows.Strict.{AreStrict}
use Rattle.licence_laws.specs.fair_rows.Turns.{AreFair, IsFairJournal}
use Rattle.licence_laws.specs.fair_laws.Views.{IsSteady, world_of}
use Rattle.run_laws.specs.GoodTurns.{IsGoodTurn}
use Rattle.run_laws.proofs.GoodRuns.{each_printed, each_turn, printed_kept_through}
use Rattle.run_laws.specs.Runs.{HostTurn, first_host, journal_of, left_of, most_meter, run_of, turns_of}
use Rattle.licence_laws.specs.rules.Zoe.{ReadsModules, TextReader}
use Rattle.licence_laws.proofs.fair_laws.HeldReads.{calls_read, services_read}
use Rattle.licence_laws.specs.turn_writer.Printing.{CanPrint}
use Rattle.message_lines.specs.turn_records.Deliveries.{Delivery}
use Rattle.message_lines.specs.turn_records.Printed.{printed}
use Rattle.message_lines.specs.turn_rows.Form.{AreInForm}
use Rattle.message_lines.specs.turn_rows.Turns.{Turn}
use Rattle.run_laws.specs.FairRuns.{CanBePrinted, TellsLittle}
use Rattle.run_laws.proofs.Little.{steps_tell_little}
use Rattle.message_lines.specs.turn_rows.Editions.{written}

-- ---- fair turns that lead to a host

record LeadsFairly (ts : List Turn) (s : HostState) : Type 0 where
  fair : AreFair written ts
  strict : AreStrict ts
  leaves : Leaves (so_far_after ts nothing_so_far) (world_of s)
  steady : IsSteady s.world

first_fair : (meter : ℕ) → LeadsFairly [] (first_host meter)
first_fair meter = record { fair = tt; strict = tt; leaves = leaves_nothing meter; steady = steady_first }

with_line_fair : (ts : List Turn) (s : HostState) (d : Delivery) → LeadsFairly ts s → LeadsFairly ts (with_line d s)
with_line_fair ts s d at = record {
  fair = at.fair;
  strict = at.strict;
  leaves = at.leaves;
  steady = record {
    counted = record { seats = at.steady.counted.seats; instances = at.steady.counted.instances; facets = at.steady.counted.facets; purses = at.steady.counted.purses };
    left = record { each = at.steady.left.each };
  };
}

module _ (read : TextReader) (gives : ReadsModules read) where
  step_fair : (ts : List Turn) (s : HostState) (t : Step) → IsGoodTurn read (record { before = s; step = t }) → LeadsFairly ts s → LeadsFairly (ts ++ printed t.turn ∷ []) t.next
  step_fair ts s t good at =
      let Fair : Option Step → Type 0 = λ o. IfSome o (StaysFair ts) in
      let Strict : Option Step → Type 0 = λ o. IfSome o (StaysStrict ts) in
      let is = steps_are read (services_are read gives) calls_are calls_read (services_read read) s good.good at.steady in
      let stays : StaysFair ts t = subst Fair good.made (stay_fair read s ts at.fair at.leaves is) in
      record { fair = stays.fair; strict = subst Strict good.made (stay_strict read s ts at.strict at.leaves is); leaves = stays.leaves; steady = stays.steady }

  -- ---- to the end of a run

  run_leads : (meter most : ℕ) (input : List ℕ) → meter ≤ most_meter → LeadsFairly (turns_of read meter most input) (run_of read meter most input).end
  run_leads meter most input few = printed_kept_through read gives LeadsFairly (λ ts s d line at. with_line_fair ts s d at) step_fair meter most input few (first_fair meter)

  pub run_fair : (meter most : ℕ) (input : List ℕ) → meter ≤ most_meter → AreFair written (turns_of read meter most input)
  run_fair meter most input few = (run_leads meter most input few).fair

  pub run_strict : (meter most : ℕ) (input : List ℕ) → meter ≤ most_meter → AreStrict (turns_of read meter most input)
  run_strict meter most input few = (run_leads meter most input few).strict

  pub run_leaves : (meter most : ℕ) (input : List ℕ) → meter ≤ most_meter → Leaves (so_far_after (turns_of read meter most input) nothing_so_far) (world_of (run_of read meter most input).end)
  run_leaves meter most input few = (run_leads meter most input few).leaves

  -- ---- each turn by itself

  turn_little : (t : HostTurn) → IsGoodTurn read t → TellsLittle (printed t.step.turn)
  turn_little t good = let P : Option Step → Type 0 = λ o. IfSome o (λ x. TellsLittle (printed x.turn)) in subst P good.made (steps_tell_little read t.before good.good)

  pub run_little : (meter most : ℕ) (input : List ℕ) → meter ≤ most_meter → AllByRecursion TellsLittle (turns_of read meter most input)
  run_little meter most input few = each_printed read TellsLittle turn_little meter most input gives few

  turn_prints : (t : HostTurn) → IsGoodTurn read t → CanBePrinted t
  turn_prints t good = let P : Option Step → Type 0 = λ o. IfSome o (λ x. CanPrint x.turn) in subst P good.made (steps_print read (services_are read gives) calls_are t.before good.good)

  pub run_prints : (meter most : ℕ) (input : List ℕ) → meter ≤ most_meter → AllByRecursion CanBePrinted (run_of read meter most input).turns
  run_prints meter most input few = each_turn read CanBePrinted turn_prints meter most input gives few

  -- ---- the journal

  pub run_journal : (meter most : ℕ) (input : List ℕ) → meter ≤ most_meter → AreInForm written (turns_of read meter most input) (left_of read meter most input)
      → IsFairJournal written (journal_of read meter most input) (turns_of read meter most input) (left_of read meter most input)
  unfolding journal_of
  run_journal meter most input few form = record { text = refl; form = form; fair = run_fair meter most input few }
