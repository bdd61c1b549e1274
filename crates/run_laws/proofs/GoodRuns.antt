-- What holds of a new host, and stays through lines and through steps of good hosts, holds through a run.
use Rattle.std.proofs.Common.{◌≡◌, ℕ, zero, suc, ◌≤◌, List, [], ◌∷◌, ◌++◌, map, Option, Some, None, IfSome, refl, sym, subst, append-nil, append_assoc}
use Rattle.std.specs.List.{AllByRecursion}
use Rattle.std.specs.Option.{option_map_or}
use Rattle.licence_laws.specs.delivery_laws.Hosts.{IsGoodHost}
use Rattle.licence_laws.proofs.rule_laws.Methods.{calls_are, services_are}
use Rattle.licence_laws.specs.delivery_laws.Works.{most_meter}
use Rattle.licence_laws.proofs.delivery_laws.Hosts.{steps_good}
use Rattle.licence_laws.specs.delivery_turns.Hosts.{HostState, Step, step_of, with_line}
use Rattle.message_lines.specs.InputLines.{lines_of}
use Rattle.message_lines.specs.Meanings.{Meaning, blank, delivered, meaning_of, run}
use Rattle.licence_laws.specs.rules.Zoe.{ReadsModules, TextReader}
use Rattle.message_lines.specs.turn_records.Deliveries.{Delivery}
use Rattle.std.proofs.lemmas.List.{map-append}
use Rattle.message_lines.specs.turn_records.Printed.{printed}
use Rattle.message_lines.specs.turn_rows.Turns.{Turn}
use Rattle.licence_laws.proofs.world_laws.First.{first_is_good}
use Rattle.licence_laws.proofs.world_laws.Kept.{good-after}
use Rattle.licence_laws.specs.world_state.Good.{IsLine}
use Rattle.licence_laws.specs.world_state.Worlds.{arrive}
use Rattle.run_laws.proofs.FormedLines.{IsLineMeaning, meaning_is_of_line}
use Rattle.run_laws.specs.GoodTurns.{IsGoodTurn}
use Rattle.run_laws.specs.Machines.{drains, no_turn, turn_then}
use Rattle.run_laws.specs.Runs.{HostTurn, drained, first_host, line_run, lines_run, meanings_of, run_of, turns_of}

-- ---- good hosts

first_host_is_good : (meter : ℕ) → meter ≤ most_meter → IsGoodHost (first_host meter)
first_host_is_good meter few = record { meter = few; world = first_is_good; untold = refl }

line_is_good : (s : HostState) (d : Delivery) → IsLine d → IsGoodHost s → IsGoodHost (with_line d s)
line_is_good s d is good = record { meter = good.meter; world = good-after s.world (arrive d) is good.world; untold = good.untold }

-- ---- what turns lead to

-- a good host, of which it holds
pub record At (Q : List HostTurn → HostState → Type 0) (ts : List HostTurn) (s : HostState) : Type 0 where
  pub good : IsGoodHost s
  pub holds : Q ts s

module _ (read : TextReader) (gives : ReadsModules read)
    (Q : List HostTurn → HostState → Type 0)
    (line_keeps : (ts : List HostTurn) (s : HostState) (d : Delivery) → IsLine d → Q ts s → Q ts (with_line d s))
    (step_keeps : (ts : List HostTurn) (s : HostState) (t : Step) → IsGoodTurn read (record { before = s; step = t }) → Q ts s → Q (ts ++ record { before = s; step = t } ∷ []) t.next) where
  some_good : (s : HostState) (t : Step) → step_of read s ≡ Some t → IsGoodHost s → IsGoodHost t.next
  some_good s t made good = let P : Option Step → Type 0 = λ o. IfSome o (λ x. IsGoodHost x.next) in subst P made (steps_good read (services_are read gives) calls_are s good)

  at_none : (done : List HostTurn) (s : HostState) → At Q done s → At Q (done ++ []) s
  at_none done s at = subst (λ ts. At Q ts s) (sym (append-nil done)) at

  at_step : (done : List HostTurn) (s : HostState) (t : Step) → At Q done s → step_of read s ≡ Some t → At Q (done ++ record { before = s; step = t } ∷ []) t.next
  at_step done s t at made = record {
    good = some_good s t made at.good;
    holds = step_keeps done s t (record { good = at.good; made = made }) at.holds;
  }

  at_drained : (n : ℕ) (s : HostState) (done : List HostTurn) → At Q done s → At Q (done ++ (drained read n s).turns) (drained read n s).end
  unfolding drains
  at_drained zero s done at = at_none done s at
  at_drained (suc n) s done at = from (λ end ts next. at_drained n end ts next) (step_of read s) refl
    where
      from : ((end : HostState) (ts : List HostTurn) → At Q ts end → At Q (ts ++ (drained read n end).turns) (drained read n end).end) → (next : Option Step) → step_of read s ≡ next
          → At Q (done ++ (option_map_or (λ (t : Step). turn_then s t (drained read n t.next)) next (no_turn s)).turns) (option_map_or (λ (t : Step). turn_then s t (drained read n t.next)) next (no_turn s)).end
      from more None e = at_none done s at
      from more (Some t) e =
          let one : HostTurn = record { before = s; step = t } in
          subst (λ ts. At Q ts (drained read n t.next).end) (append_assoc done (one ∷ []) (drained read n t.next).turns) (more t.next (done ++ one ∷ []) (at_step done s t at e))

  at_line : (m : Meaning) (s : HostState) (done : List HostTurn) → IsLineMeaning m → At Q done s → At Q (done ++ (line_run read s m).turns) (line_run read s m).end
  at_line blank s done is at = at_none done s at
  at_line (delivered d) s done is at = at_none done (with_line d s) (record { good = line_is_good s d is at.good; holds = line_keeps done s d is at.holds })
  at_line (run n) s done is at = at_drained n s done at

  at_lines : (ms : List Meaning) (s : HostState) (done : List HostTurn) → AllByRecursion IsLineMeaning ms → At Q done s → At Q (done ++ (lines_run read s ms).turns) (lines_run read s ms).end
  at_lines [] s done are at = at_none done s at
  at_lines (m ∷ ms) s done are at =
      let a = line_run read s m in
      let b = lines_run read a.end ms in
      subst (λ ts. At Q ts b.end) (append_assoc done a.turns b.turns) (at_lines ms a.end (done ++ a.turns) are.1 (at_line m s done are.0 at))

  are_of_lines : (most : ℕ) (ls : List (List ℕ)) → AllByRecursion IsLineMeaning (map meaning_of ls ++ run most ∷ [])
  are_of_lines most [] = (tt, tt)
  are_of_lines most (l ∷ ls) = (meaning_is_of_line l, are_of_lines most ls)

  -- what holds of a new host with no turn holds of a run's turns and the host at its end
  pub kept_through : (meter most : ℕ) (input : List ℕ) → meter ≤ most_meter → Q [] (first_host meter) → At Q (run_of read meter most input).turns (run_of read meter most input).end
  kept_through meter most input few start = at_lines (meanings_of most input) (first_host meter) [] (are_of_lines most (lines_of input)) (record { good = first_host_is_good meter few; holds = start })

-- ---- turns as they are printed

module _ (read : TextReader) (gives : ReadsModules read)
    (Q : List Turn → HostState → Type 0)
    (line_keeps : (ts : List Turn) (s : HostState) (d : Delivery) → IsLine d → Q ts s → Q ts (with_line d s))
    (step_keeps : (ts : List Turn) (s : HostState) (t : Step) → IsGoodTurn read (record { before = s; step = t }) → Q ts s → Q (ts ++ printed t.turn ∷ []) t.next) where
  abbrev of_hosts : List HostTurn → HostState → Type 0
  of_hosts ts s = Q (map (λ (t : HostTurn). printed t.step.turn) ts) s

  step_of_hosts : (ts : List HostTurn) (s : HostState) (t : Step) → IsGoodTurn read (record { before = s; step = t }) → of_hosts ts s → of_hosts (ts ++ record { before = s; step = t } ∷ []) t.next
  step_of_hosts ts s t good h =
      subst (λ us. Q us t.next) (sym (map-append (λ (u : HostTurn). printed u.step.turn) ts (record { before = s; step = t } ∷ [])))
      (step_keeps (map (λ (u : HostTurn). printed u.step.turn) ts) s t good h)

  -- the same of turns as they are printed
  pub printed_kept_through : (meter most : ℕ) (input : List ℕ) → meter ≤ most_meter → Q [] (first_host meter) → Q (turns_of read meter most input) (run_of read meter most input).end
  printed_kept_through meter most input few start =
      (kept_through read gives of_hosts (λ ts s d line h. line_keeps (map (λ (t : HostTurn). printed t.step.turn) ts) s d line h) step_of_hosts meter most input few start).holds

-- ---- each turn by itself

all_then : {X : Type 0} (P : X → Type 0) (xs : List X) (x : X) → AllByRecursion P xs → P x → AllByRecursion P (xs ++ x ∷ [])
all_then P [] x h p = (p, tt)
all_then P (y ∷ xs) x h p = (h.0, all_then P xs x h.1 p)

pub good_turns : (read : TextReader) (meter most : ℕ) (input : List ℕ) → ReadsModules read → meter ≤ most_meter → AllByRecursion (IsGoodTurn read) (run_of read meter most input).turns
good_turns read meter most input gives few =
    (kept_through read gives (λ ts s. AllByRecursion (IsGoodTurn read) ts) (λ ts s d line h. h)
    (λ ts s t good h. all_then (IsGoodTurn read) ts (record { before = s; step = t }) h good) meter most input few tt).holds

-- what holds of each step of a good host holds of each turn of a run
each_holds : (read : TextReader) (P : HostTurn → Type 0) → ((t : HostTurn) → IsGoodTurn read t → P t) → (ts : List HostTurn) → AllByRecursion (IsGoodTurn read) ts → AllByRecursion P ts
each_holds read P each [] h = tt
each_holds read P each (t ∷ ts) h = (each t h.0, each_holds read P each ts h.1)

pub each_turn : (read : TextReader) (P : HostTurn → Type 0) → ((t : HostTurn) → IsGoodTurn read t → P t)
    → (meter most : ℕ) (input : List ℕ) → ReadsModules read → meter ≤ most_meter → AllByRecursion P (run_of read meter most input).turns
each_turn read P each meter most input gives few = each_holds read P each (run_of read meter most input).turns (good_turns read meter most input gives few)

-- and of each turn as it is printed
all_printed : (P : Turn → Type 0) (ts : List HostTurn) → AllByRecursion (λ (t : HostTurn). P (printed t.step.turn)) ts → AllByRecursion P (map (λ (t : HostTurn). printed t.step.turn) ts)
all_printed P [] all = tt
all_printed P (t ∷ ts) all = (all.0, all_printed P ts all.1)

pub each_printed : (read : TextReader) (P : Turn → Type 0) → ((t : HostTurn) → IsGoodTurn read t → P (printed t.step.turn))
    → (meter most : ℕ) (input : List ℕ) → ReadsModules read → meter ≤ most_meter → AllByRecursion P (turns_of read meter most input)
each_printed read P each meter most input gives few =
    all_printed P (run_of read meter most input).turns (each_turn read (λ (t : HostTurn). P (printed t.step.turn)) each meter most input gives few)
