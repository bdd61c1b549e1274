-- What a step makes of the turns that a drain has still to run.
use Rattle.std.specs.Prelude.{String, string_bytes}
use Rattle.std.specs.declared.alloc.Global.{Global}
use Rattle.std.proofs.Common.{◌≡◌, ℕ, zero, suc, ◌≤◌, List, [], ◌∷◌, length, Option, Some, None, Ok, Err, refl, sym, ap, subst, ◌∙◌, arith, append-nil}
use Rattle.std.specs.Io.KnownBytes.{Appends}
use Rattle.std.specs.Option.{option_map_or}
use Rattle.host_turns.specs.contract_texts.Reader.{reader}
use Rattle.run_laws.specs.delivery_turns.Hosts.{HostState, Step, step_from, step_of}
use Rattle.host_io.specs.Fronts.{AppendsFront}
use Rattle.host_turns.specs.turn_records.Views.{turn_view}
use Rattle.run_laws.specs.turn_writer.Printing.{CanPrint}
use Rattle.run_laws.specs.turn_writer.ShortRows.{HasShortRows}
use Rattle.host_turns.specs.turn_rows.Form.{IsInForm}
use Rattle.host_turns.specs.turn_records.declared.turns.TurnRecord.{TurnRecord}
use Rattle.host_turns.specs.turn_records.Deliveries.{Delivery}
use Rattle.host_turns.specs.turn_records.Printed.{printed}
use Rattle.host_turns.specs.turn_rows.Texts.{turn_text, turns_text}
use Rattle.host_turns.specs.turn_rows.Turns.{Turn}
use Rattle.host_turns.specs.world_state.Rights.{most_turns}
use Rattle.run_laws.proofs.RunOrder.{step_count}
use Rattle.run_laws.specs.Machines.{drains, no_turn, turn_then}
use Rattle.run_laws.specs.Runs.{AppendsToLimit, Run, drained, left_in, turns_in}
use Rattle.top_call.specs.Faults.{run_fault}
use Rattle.host_turns.specs.HostSteps.{IsAtLimit, IsStep, IsTurn, NoneWaits}
use Rattle.top_call.specs.Texts.{IsNextText, IsTurnText}
use Rattle.host_turns.specs.declared.steps.StepFault.{StepFault}
use Rattle.host_turns.specs.declared.steps.StepFault.TheVariants as step
use Rattle.top_call.specs.declared.run.RunFault.{RunFault}
use Rattle.top_call.specs.declared.run.RunFault.TheVariants as fault
use Rattle.top_call.proofs.TurnTexts.{Written, failed_next, limit_left, written_all, written_more}
use Rattle.host_turns.specs.turn_rows.Editions.{written}

-- ---- the rows of the next turn

-- why no step is made, as a fault of the run
pub fault_text : (old new : HostState) (f : StepFault) (g : RunFault) → g ≡ run_fault f → IsStep old new (Err f) → IsNextText old new (Err g)
fault_text old new step.TurnLimit fault.TurnLimit e h = h
fault_text old new step.TurnLimit fault.NoMemory e h = tt
fault_text old new step.TurnLimit fault.Failed e h = absurd (cc)
fault_text old new step.NoMemory fault.TurnLimit e h = absurd (cc)
fault_text old new step.NoMemory fault.NoMemory e h = tt
fault_text old new step.NoMemory fault.Failed e h = absurd (cc)

stepped_some : (old new : HostState) (turn : TurnRecord) (stepped : Option TurnRecord) → stepped ≡ Some turn → IsStep old new (Ok stepped) → IsTurn old new turn
stepped_some old new turn stepped e h = let P : Option TurnRecord → Type 0 = λ o. IsStep old new (Ok o) in subst P e h

pub stepped_none : (old new : HostState) (stepped : Option TurnRecord) → stepped ≡ None → IsStep old new (Ok stepped) → NoneWaits old new
stepped_none old new stepped e h = let P : Option TurnRecord → Type 0 = λ o. IsStep old new (Ok o) in subst P e h

pub turn_text_of : (old new : HostState) (turn : TurnRecord) (stepped : Option TurnRecord) (text : List ℕ) → stepped ≡ Some turn → IsStep old new (Ok stepped) → text ≡ turn_text written old.turns (printed (turn_view turn))
    → (CanPrint (turn_view turn) → IsInForm written (printed (turn_view turn))) → HasShortRows written (printed (turn_view turn)) → IsTurnText old new text
turn_text_of old new turn stepped text e h is form short =
    let made = stepped_some old new turn stepped e h in
    record { turn = turn_view turn; step = made.step; early = made.early; text = is; form = form; short = short }

-- what a drain meets

pub text_some : (old new : HostState) (text : String Global) (next : Option (String Global)) → next ≡ Some text → IsNextText old new (Ok next) → IsTurnText old new (string_bytes text)
text_some old new text next e h = let P : Option (String Global) → Type 0 = λ o. IsNextText old new (Ok o) in subst P e h

pub text_none : (old new : HostState) (next : Option (String Global)) → next ≡ None → IsNextText old new (Ok next) → NoneWaits old new
text_none old new next e h = let P : Option (String Global) → Type 0 = λ o. IsNextText old new (Ok o) in subst P e h

pub text_limit : (old new : HostState) (f : RunFault) → f ≡ fault.TurnLimit → IsNextText old new (Err f) → IsAtLimit old new
text_limit old new f e h = let P : RunFault → Type 0 = λ g. IsNextText old new (Err g) in subst P e h

pub text_failed : (old new : HostState) (f : RunFault) → f ≡ fault.Failed → IsNextText old new (Err f) → ⊥
text_failed old new f e h = let P : RunFault → Type 0 = λ g. IsNextText old new (Err g) in subst P e h

-- ---- what is left to run

pub drained_more : (m : ℕ) (s : HostState) (t : Step) → step_of reader s ≡ Some t → drained reader (suc m) s ≡ turn_then s t (drained reader m t.next)
unfolding drains
drained_more m s t e = ap (λ o. option_map_or (λ (u : Step). turn_then s u (drained reader m u.next)) o (no_turn s)) e

pub drained_none : (k : ℕ) (s : HostState) → step_of reader s ≡ None → drained reader k s ≡ no_turn s
unfolding drains
drained_none zero s e = refl
drained_none (suc k) s e = ap (λ o. option_map_or (λ (u : Step). turn_then s u (drained reader k u.next)) o (no_turn s)) e

pub drained_zero : (s : HostState) → drained reader 0 s ≡ no_turn s
unfolding drains
drained_zero s = refl

-- what waits has a turn
waits_from : (k : ℕ) (s : HostState) (queue : List Delivery) → 1 ≤ length queue
    → 1 ≤ length (turns_in (option_map_or (λ (t : Step). turn_then s t (drained reader k t.next)) (step_from reader s queue) (no_turn s)))
waits_from k s [] h = absurd (omega arith)
waits_from k s (d ∷ rest) h = omega arith

drained_waits : (k : ℕ) (s : HostState) → 1 ≤ left_in s → 1 ≤ length (turns_in (drained reader (suc k) s))
unfolding drains step_of
drained_waits k s h = waits_from k s s.world.waiting h

-- ---- between two deliveries of a drain, of which k are still to be run

abbrev pub TurnsLeft : List Turn → ℕ → ℕ → HostState → Option (List ℕ) → Option (List ℕ) → Type 0
TurnsLeft all n k s old mid = Written all (turns_in (drained reader k s)) n s.turns old mid

module _ (all : List Turn) (n k : ℕ) (s : HostState) (old mid : Option (List ℕ)) (h : TurnsLeft all n k s old mid) where
  -- none is left, since nothing waits
  pub drain_empty : step_of reader s ≡ None → Appends old mid (turns_text written n all) × ((drained reader k s).end ≡ s)
  drain_empty e = let none = drained_none k s e in (written_all all n s.turns old mid (subst (λ (r : Run). Written all (turns_in r) n s.turns old mid) none h), ap (λ (r : Run). r.end) none)

  -- or since no more is asked for
  pub drain_over : k ≡ 0 → Appends old mid (turns_text written n all) × ((drained reader k s).end ≡ s)
  drain_over e = let none = ap (λ j. drained reader j s) e ∙ drained_zero s in (written_all all n s.turns old mid (subst (λ (r : Run). Written all (turns_in r) n s.turns old mid) none h), ap (λ (r : Run). r.end) none)

  module _ (m : ℕ) (left : k ≡ suc m) where
    pub drain_limit : s.turns ≤ most_turns → most_turns ≤ s.turns → 1 ≤ left_in s → AppendsToLimit old mid n all
    drain_limit few last waits = limit_left all (turns_in (drained reader k s)) n s.turns old mid h (omega (arith, few, last)) (subst (λ j. 1 ≤ length (turns_in (drained reader j s))) (sym left) (drained_waits m s waits))

    module _ (t : Step) (is : step_of reader s ≡ Some t) (new : Option (List ℕ)) where
      next : Written all (printed t.turn ∷ turns_in (drained reader m t.next)) n s.turns old mid
      next = subst (λ (r : Run). Written all (turns_in r) n s.turns old mid) (ap (λ j. drained reader j s) left ∙ drained_more m s t is) h

      pub drain_turn : HasShortRows written (printed t.turn) → Appends mid new (turn_text written s.turns (printed t.turn)) → TurnsLeft all n m t.next old new
      drain_turn short more = written_more all (printed t.turn ∷ []) (turns_in (drained reader m t.next)) n s.turns t.next.turns old mid new next (short, tt) (rw append-nil more) (step_count reader s t is)

      pub drain_failed : AppendsFront mid new (turn_text written s.turns (printed t.turn)) → AppendsFront old new (turns_text written n all)
      drain_failed f = failed_next all (printed t.turn ∷ []) (turns_in (drained reader m t.next)) n s.turns old mid new next (rw append-nil f)

pub end_turn : (k m : ℕ) (s : HostState) (t : Step) → k ≡ suc m → step_of reader s ≡ Some t → (drained reader k s).end ≡ (drained reader m t.next).end
end_turn k m s t left is = ap (λ j. (drained reader j s).end) left ∙ ap (λ (r : Run). r.end) (drained_more m s t is)
