-- What a host keeps between its calls, the state that it stands for, and what holds of it.
use Rattle.std.specs.Prelude.{◌≡◌, ℕ, IsSomeAnd, Option, None, Some, refl}
use Rattle.std.specs.Coded.{Coded, code_by, coded×, coded_option, coded_ℕ}
use Rattle.run_laws.specs.delivery_laws.Hosts.{IsGoodHost}
use Rattle.run_laws.specs.delivery_turns.Hosts.{HostState}
use Rattle.run_laws.specs.fair_laws.Views.{IsSteady}
use Rattle.front_turns.specs.host_world.Turns.{IsBetween, arrived}
use Rattle.front_turns.specs.host_world.Worlds.{kept_state}
use Rattle.front_turns.specs.host_world.contracts.Ledger as a_world
use Rattle.front_turns.specs.host_world.declared.Ledger.{Ledger}
use Rattle.front_turns.specs.turn_records.Deliveries.{Delivery}
use Rattle.host_turns.specs.Totals.{TellsWorld}
use Rattle.front_turns.specs.world_laws.First.{first_world}
use Rattle.front_turns.specs.world_state.Worlds.{State}

-- the most that a function may cost, what lies between turns, and how many turns were run
pub record HostParts : Type 0 where
  pub meter : ℕ
  pub world : Option Ledger
  pub turns : ℕ

-- the numbers that stand for it, which a model needs
abbrev pub coded_parts : Coded HostParts
coded_parts =
    code_by (ℕ × (Option Ledger × ℕ))
    (coded× coded_ℕ (coded× (coded_option a_world.the_row.coded) coded_ℕ))
    (λ p. (p.meter, (p.world, p.turns)))
    (λ t. record { meter = t.0; world = t.1.0; turns = t.1.1 })
    (λ _. refl)

-- while a step is made there is none
abbrev pub world_kept : Option Ledger → State
world_kept (Some k) = kept_state k
world_kept None = first_world

abbrev pub host_of : HostParts → HostState
host_of p = record { meter = p.meter; world = world_kept p.world; turns = p.turns }

-- no turn is under way, and the running totals are those of the world
pub record IsRested (k : Ledger) : Type 0 where
  pub between : IsBetween k
  pub sums : TellsWorld (kept_state k) k.sums

-- the host is good and steady, and its world is there
pub record IsKept (p : HostParts) : Type 0 where
  pub good : IsGoodHost (host_of p)
  pub steady : IsSteady (host_of p).world
  pub rests : IsSomeAnd p.world IsRested

-- one more delivery waits, last
abbrev pub IsArrived : Delivery → Option Ledger → Option Ledger → Type 0
IsArrived d old new = world_kept new ≡ arrived d (world_kept old)
