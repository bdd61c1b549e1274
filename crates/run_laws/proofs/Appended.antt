-- What waits when a turn begins stays where it is: effects append behind it.
use Rattle.std.proofs.Common.{◌≡◌, ◌+◌, List, [], ◌∷◌, ◌++◌, Some, drop, length, refl, sym, ap, subst, ◌∙◌}
use Rattle.licence_laws.specs.delivery_turns.Hosts.{HostState, Step, step_after, step_from, step_of}
use Rattle.licence_laws.specs.delivery_turns.Turns.{DeliveryTurn, delivery_turn}
use Rattle.licence_laws.specs.rules.Zoe.{TextReader}
use Rattle.message_lines.specs.turn_records.Deliveries.{Delivery}
use Rattle.licence_laws.specs.world_state.Worlds.{Effect, State, after_all, behind}
use Rattle.licence_laws.proofs.world_laws.FrontDeliveries.{effects_pass}
use Rattle.run_laws.specs.Machines.{brought_by}
use Rattle.run_laws.specs.Runs.{host_machine}

-- the world with this queue
abbrev queued : State → List Delivery → State
queued w q = record w { waiting = q }

-- what effects append, whatever waits
abbrev more_of : State → List Effect → List Delivery
more_of w es = (after_all (queued w []) es).waiting

effects_append : (w : State) (q : List Delivery) (es : List Effect) → (after_all (queued w q) es).waiting ≡ q ++ more_of w es
effects_append w [] es = refl
effects_append w (d ∷ q) es = ap (λ (v : State). v.waiting) (effects_pass d (queued w q) es) ∙ ap (λ ds. d ∷ ds) (effects_append w q es)

drop_past : {X : Type 0} (xs ys : List X) → drop (length xs) (xs ++ ys) ≡ ys
drop_past [] ys = refl
drop_past (x ∷ xs) ys = drop_past xs ys

split_past : {X : Type 0} (xs ys zs : List X) → zs ≡ xs ++ ys → zs ≡ xs ++ drop (length xs) zs
split_past xs ys zs is = is ∙ ap (λ rest. xs ++ rest) (sym (drop_past xs ys) ∙ ap (drop (length xs)) (sym is))

-- what a step brings: it stands behind all that waited behind its delivery
abbrev brings : HostState → Step → List Delivery
brings s step = drop (length (behind s.world).waiting) step.next.world.waiting

-- a step's queue is what waited behind the turn's delivery, and then what the turn brought
pub record Appends (s : HostState) (d : Delivery) (ds : List Delivery) (step : Step) : Type 0 where
  pub front : s.world.waiting ≡ d ∷ ds
  pub of : step.turn.delivery ≡ d
  pub turns : step.next.turns ≡ s.turns + 1
  pub queue : step.next.world.waiting ≡ ds ++ brings s step

step_appends : (s : HostState) (d : Delivery) (ds : List Delivery) (t : DeliveryTurn) → s.world.waiting ≡ d ∷ ds → Appends s d ds (step_after s d t)
step_appends s d ds t front =
    let w = behind s.world in
    let rest : w.waiting ≡ ds = ap (drop 1) front in
    record {
      front = front;
      of = refl;
      turns = refl;
      queue = split_past w.waiting (more_of w t.effects) (after_all w t.effects).waiting (effects_append w w.waiting t.effects) ∙ ap (λ q. q ++ brings s (step_after s d t)) rest;
    }

pub record Stepped (s : HostState) (step : Step) : Type 0 where
  pub d : Delivery
  pub ds : List Delivery
  pub appends : Appends s d ds step

pub stepped : (read : TextReader) (s : HostState) (step : Step) → step_of read s ≡ Some step → Stepped s step
unfolding step_of
stepped read s step is = from s.world.waiting refl is
  where
    from : (queue : List Delivery) → s.world.waiting ≡ queue → step_from read s queue ≡ Some step → Stepped s step
    from [] front h = absurd (cc)
    from (d ∷ ds) front h =
        let made = step_after s d (delivery_turn read s.meter (behind s.world) d) in
        let same : made ≡ step = cc in
        subst (λ (p : Step). Stepped s p) same (record { d = d; ds = ds; appends = step_appends s d ds (delivery_turn read s.meter (behind s.world) d) front })

pub appended : (read : TextReader) (s : HostState) (step : Step) → step_of read s ≡ Some step → step.next.world.waiting ≡ (behind s.world).waiting ++ brought_by (host_machine read) (record { before = s; step = step })
appended read s step is =
    let by = stepped read s step is in
    by.appends.queue ∙ ap (λ q. q ++ brings s step) (sym (ap (drop 1) by.appends.front))
