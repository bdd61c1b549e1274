-- The world of a new host: the brand of invitations was made, and nothing else.
use Rattle.std.specs.Prelude.{[], ◌∷◌}
use Rattle.world_state.specs.amount_math.declared.Kind.TheVariants.{Set}
use Rattle.world_state.specs.brands.Brands.{started}
use Rattle.world_state.specs.ertp_mint.BrandSupply.{new_supply}
use Rattle.world_state.specs.Worlds.{State, of_host}

abbrev pub first_world : State
first_world = record {
  rights = record { purses = []; payments = []; slots = []; out = new_supply Set ∷ [] };
  seats = [];
  staging = [];
  brands = started.now;
  makers = of_host ∷ [];
  invitations = [];
  schedule = record { time = 0; made = 0; waiting = [] };
  promises = record { settled = []; follows = []; requests = [] };
  tables = record { installations = []; instances = [] };
  facets = [];
  pairs = [];
  labels = [];
  waiting = [];
  log = [];
}
