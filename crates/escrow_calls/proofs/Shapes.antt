-- Movements between slots and what is outside are transfers.
use Rattle.std.specs.Prelude.{map}
use Rattle.std.specs.List.{AllByRecursion}
use Rattle.std.proofs.Common.{ℕ, List, [], ◌∷◌}
use Rattle.rules.specs.world_state.Shapes.{AreMovements, IsGivenOnce, IsTakenOnce}
use Rattle.rules.specs.proposals.declared.allocations.Share.{Share}
use Rattle.rules.specs.rights_model.declared.Holder.TheVariants.{Outside}
use Rattle.rules.specs.rights_model.declared.Movement.{Movement}
use Rattle.rules.specs.Zmint.{gain, loss}
use Rattle.escrow_calls.proofs.Transfers.{slot_given, slot_taken}

outside_taken : (ms : List Movement) → AllByRecursion (IsTakenOnce Outside) ms
outside_taken [] = tt
outside_taken (m ∷ ms) = (tt, outside_taken ms)

outside_given : (ms : List Movement) → AllByRecursion (IsGivenOnce Outside) ms
outside_given [] = tt
outside_given (m ∷ ms) = (tt, outside_given ms)

pub losses_apart : (seat : ℕ) (shares : List Share) → AreMovements (map (loss seat) shares)
losses_apart seat [] = tt
losses_apart seat (r ∷ rs) = (
  record {
    from = tt;
    to = tt;
    taken = slot_taken seat r.keyword (map (loss seat) rs);
    given = outside_given (map (loss seat) rs);
  },
  losses_apart seat rs,
)

pub gains_apart : (seat : ℕ) (shares : List Share) → AreMovements (map (gain seat) shares)
gains_apart seat [] = tt
gains_apart seat (r ∷ rs) = (
  record {
    from = tt;
    to = tt;
    taken = outside_taken (map (gain seat) rs);
    given = slot_given seat r.keyword (map (gain seat) rs);
  },
  gains_apart seat rs,
)
