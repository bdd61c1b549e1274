-- What a step of a host is, and what holds of each.
use Rattle.std.specs.Prelude.{IfSome}
use Rattle.std.proofs.Common.{◌≡◌, ◌+◌, List, [], ◌∷◌, length, Option, Some, None, refl, subst, arith}
use Rattle.run_laws.proofs.rule_laws.Methods.{calls_are, services_are}
use Rattle.front_turns.specs.contract_texts.Reader.{reader}
use Rattle.front_turns.proofs.contract_texts.Modules.{reads_modules}
use Rattle.run_laws.specs.delivery_turns.Hosts.{HostState, Step, step_from, step_of}
use Rattle.run_laws.specs.fair_laws.Turns.{IsTurnStep, StaysFair, StaysStrict}
use Rattle.run_laws.proofs.fair_laws.Fair.{stay_fair, stay_strict}
use Rattle.run_laws.proofs.fair_laws.Whole.{steps_are}
use Rattle.run_laws.specs.fair_rows.SoFar.{nothing_so_far}
use Rattle.run_laws.specs.fair_rows.Steps.{Leaves, so_far_after}
use Rattle.run_laws.specs.fair_rows.Strict.{AreStrict}
use Rattle.run_laws.specs.fair_rows.Turns.{AreFair}
use Rattle.run_laws.specs.fair_laws.Views.{world_of}
use Rattle.front_turns.specs.host_world.declared.Ledger.{Ledger}
use Rattle.run_laws.proofs.fair_laws.HeldReads.{calls_read, services_read}
use Rattle.run_laws.specs.licence_laws.Steps.{IsCalledFor, IsLicensed, IsSpentByName}
use Rattle.run_laws.specs.licence_laws.TakenBack.{SpentIsTakenBack}
use Rattle.run_laws.proofs.licence_laws.Hosts.{steps_mint, steps_spend}
use Rattle.run_laws.proofs.licence_laws.Licensed.{steps_licensed}
use Rattle.run_laws.proofs.licence_laws.TakenBack.{spent_is_taken_back}
use Rattle.front_turns.specs.turn_records.Views.{turn_view}
use Rattle.front_turns.specs.turn_records.declared.turns.TurnRecord.{TurnRecord}
use Rattle.front_turns.specs.turn_records.Deliveries.{Delivery}
use Rattle.front_turns.specs.turn_rows.Editions.{written}
use Rattle.front_turns.specs.turn_rows.Turns.{Turn}
use Rattle.host_turns.specs.HostStates.{HostParts, IsKept, host_of}
use Rattle.host_turns.specs.TurnSteps.{IsMade, IsTurned}

none_of : (s : HostState) (ds : List Delivery) → length ds ≡ 0 → step_from reader s ds ≡ None
none_of s [] is = refl
none_of s (d ∷ ds) is = absurd (omega (arith, is))

none_waits : (s : HostState) → length s.world.waiting ≡ 0 → step_of reader s ≡ None
unfolding step_of
none_waits s is = none_of s s.world.waiting is

-- of a host that is seen as this one
pub none_waits_in : (p q : HostParts) → p ≡ q → length (host_of p).world.waiting ≡ 0 → step_of reader (host_of q) ≡ None
none_waits_in p q seen is = subst (λ x. step_of reader (host_of x) ≡ None) seen (none_waits (host_of p) is)

-- ---- what holds of each step of a host between its calls

-- it holds of that of the turn that was made
abbrev pub TurnedSo : (HostState → Step → Type 0) → Type 0
TurnedSo IsSo = (p q : HostParts) → p ≡ q → (new : Option Ledger) (o : Option TurnRecord) (t : TurnRecord) → o ≡ Some t → IsTurned p.meter p.turns p.world new o → IsKept p
    → IsSo (host_of q) (record { next = host_of (record { meter = p.meter; world = new; turns = p.turns + 1 }); turn = turn_view t })

module _ (IsSo : HostState → Step → Type 0) (of_steps : (p : HostParts) → IsKept p → IfSome (step_of reader (host_of p)) (IsSo (host_of p))) where
  of_step : (p : HostParts) (x : Step) → IsKept p → step_of reader (host_of p) ≡ Some x → IsSo (host_of p) x
  of_step p x is made =
      let P : Option Step → Type 0 = λ o. IfSome o (IsSo (host_of p)) in
      subst P made (of_steps p is)

  turned_so : TurnedSo IsSo
  turned_so p q seen new o t is turned kept =
      let P : Option TurnRecord → Type 0 = λ x. IsTurned p.meter p.turns p.world new x in
      let made : IsMade p.meter p.turns p.world new t = subst P is turned in
      let after : Step = record { next = host_of (record { meter = p.meter; world = new; turns = p.turns + 1 }); turn = turn_view t } in
      subst (λ x. IsSo (host_of x) after) seen (of_step p after kept made.step)

-- ---- fairness

-- turns that are such and leave the host's world are so with the step's too
abbrev Keeps : (List Turn → Type 0) → (List Turn → Step → Type 0) → HostState → Step → Type 0
Keeps Are Stay s x = (ts : List Turn) → Are ts → Leaves (so_far_after ts nothing_so_far) (world_of s) → Stay ts x

keeps_some : (Are : List Turn → Type 0) (Stay : List Turn → Step → Type 0) (s : HostState) (o : Option Step) → ((ts : List Turn) → Are ts → Leaves (so_far_after ts nothing_so_far) (world_of s) → IfSome o (Stay ts)) → IfSome o (Keeps Are Stay s)
keeps_some Are Stay s None each = tt
keeps_some Are Stay s (Some x) each = each

turn_step : (p : HostParts) → IsKept p → IfSome (step_of reader (host_of p)) (IsTurnStep (host_of p))
turn_step p is = steps_are reader (services_are reader reads_modules) calls_are calls_read (services_read reader) (host_of p) is.good is.steady

pub turned_fair : TurnedSo (Keeps (AreFair written) StaysFair)
turned_fair = turned_so (Keeps (AreFair written) StaysFair) (λ p is. keeps_some (AreFair written) StaysFair (host_of p) (step_of reader (host_of p)) (λ ts fair leaves. stay_fair reader (host_of p) ts fair leaves (turn_step p is)))

pub turned_strict : TurnedSo (Keeps AreStrict StaysStrict)
turned_strict = turned_so (Keeps AreStrict StaysStrict) (λ p is. keeps_some AreStrict StaysStrict (host_of p) (step_of reader (host_of p)) (λ ts strict leaves. stay_strict reader (host_of p) ts strict leaves (turn_step p is)))

-- ---- what it names, mints, withdraws and spends

pub turned_called_for : TurnedSo IsCalledFor
turned_called_for = turned_so IsCalledFor (λ p is. steps_mint reader (host_of p) reads_modules is.good)

pub turned_spent_by_name : TurnedSo IsSpentByName
turned_spent_by_name = turned_so IsSpentByName (λ p is. steps_spend reader (host_of p) reads_modules is.good)

pub turned_licensed : TurnedSo IsLicensed
turned_licensed = turned_so IsLicensed (λ p is. steps_licensed reader (host_of p) reads_modules is.good)

-- ---- what a spent meter leaves

pub turned_spent : TurnedSo SpentIsTakenBack
turned_spent = turned_so SpentIsTakenBack (λ p is. spent_is_taken_back reader (host_of p) is.good)
