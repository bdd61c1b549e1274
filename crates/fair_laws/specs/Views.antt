-- A host's world as the rows of a journal tell it: who holds what, what is out and what was ever minted and burned,
-- the payments, the seats, and the facets with their instances.
use Rattle.std.specs.Prelude.{◌≡◌, ◌<◌, ◌≤◌, ℕ, suc, List, [], ◌∷◌, Some, length, map}
use Rattle.delivery_laws.specs.ertp_mint.Stocks.{most_made}
use Rattle.delivery_laws.specs.delivery_turns.Hosts.{HostState}
use Rattle.fair_laws.specs.Accounts.{burned_of, is_taken, minted_of, out_of}
use Rattle.fair_laws.specs.Places.{seats_told, slot_name}
use Rattle.fair_rows.specs.ExitCauses.{Owners}
use Rattle.fair_rows.specs.Steps.{World}
use Rattle.delivery_laws.specs.actors.Facets.{FacetView}
use Rattle.delivery_laws.specs.host_data.declared.data.ObjKind.TheVariants.{Facet, Instance}
use Rattle.delivery_laws.specs.proposals.declared.allocations.Share.{Share}
use Rattle.delivery_laws.specs.world_laws.Tables.{table_of}
use Rattle.delivery_laws.specs.turn_records.Printed.{named}
use Rattle.delivery_laws.specs.world_state.Rights.{kind_at, slots_at}
use Rattle.delivery_laws.specs.world_state.Worlds.{State, seat_at}

-- facets by their names, numbered from n, each with the name of its instance
abbrev pub owners_from : ℕ → List FacetView → Owners
owners_from n [] = []
owners_from n (f ∷ fs) = (named Facet n, Some (named Instance f.instance)) ∷ owners_from (suc n) fs

abbrev pub owners_told : State → Owners
owners_told w = owners_from 0 w.facets

-- after so many turns
abbrev pub world_in : ℕ → State → World
world_in turns w = record {
  turns = turns;
  table = table_of w.rights;
  out = out_of w.rights;
  minted = minted_of w.rights;
  burned = burned_of w.rights;
  brands = length w.rights.out;
  kind_of = kind_at w.rights.out;
  payments = length w.rights.payments;
  is_taken = is_taken w.rights.payments;
  seats = seats_told w;
  owners = owners_told w;
}

abbrev pub world_of : HostState → World
world_of s = world_in s.turns s.world

-- seats, instances, facets and purses have numbers of 32 bits
pub record IsCounted (w : State) : Type 0 where
  pub seats : length w.seats ≤ most_made
  pub instances : length w.tables.instances ≤ most_made
  pub facets : length w.facets ≤ most_made
  pub purses : length w.rights.purses ≤ most_made

-- the slots of a seat that was left have the names that they had then
pub record LeftNamed (w : State) : Type 0 where
  pub each : (n : ℕ) (rows : List Share) → n < length w.seats → (seat_at w.seats n).last ≡ Some rows
      → map slot_name (slots_at w.rights.slots n) ≡ map slot_name rows

-- both hold of a host's world, whatever is delivered
pub record IsSteady (w : State) : Type 0 where
  pub counted : IsCounted w
  pub left : LeftNamed w
