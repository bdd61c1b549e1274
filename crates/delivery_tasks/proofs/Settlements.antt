-- What a promise was settled with, by its state.
use Rattle.std.specs.Prelude.{unwrap_or}
use Rattle.std.proofs.Common.{◌≡◌, ℕ, Option, Some, None, refl}
use Rattle.host_data.specs.Tree.{null}
use Rattle.delivery_turns.specs.promise_store.States.{SettlementView, StateView, broken, follows, pending, settled}
use Rattle.delivery_turns.specs.world_state.Promises.{state_by}

-- one that isn't settled counts as broken with null
abbrev pub settlement_in : StateView → SettlementView
settlement_in (settled s) = s
settlement_in pending = broken null
settlement_in (follows q) = broken null

pub settlement_is : (s : Option SettlementView) (leads : Option ℕ) → unwrap_or s (broken null) ≡ settlement_in (state_by s leads)
settlement_is (Some s) leads = refl
settlement_is None (Some q) = refl
settlement_is None None = refl
