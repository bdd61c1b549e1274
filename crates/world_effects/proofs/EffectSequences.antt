-- Effects that are carried out one after another: those that are left are good, and come to what all of them come to.
use Rattle.std.proofs.Common.{◌≡◌, List, [], ◌∷◌, refl, sym, ◌∙◌, ap, subst}
use Rattle.register_effects.specs.call_outcomes.Views.{AreShaped, effect_view, effect_views}
use Rattle.register_effects.specs.call_outcomes.declared.effects.Effect.{Effect}
use Rattle.register_effects.specs.host_world.Worlds.{IsUndoable, world_now, world_of}
use Rattle.register_effects.specs.host_world.declared.World.{World}
use Rattle.world_laws.specs.world_state.Good.{AreGood}
use Rattle.world_laws.specs.world_state.Worlds.{State, after, after_all}
use Rattle.world_laws.specs.world_state.Worlds as worlds
use Rattle.world_effects.specs.CarriedEffects.{AreCarried, IsCarried, IsInTurn}
use Rattle.world_effects.proofs.JoinedStores.{back_on, goes_on, stays, world_on}

pub record IsCarrying (first mid : World) (all rest : List Effect) : Type 0 where
  pub turn : IsInTurn mid
  pub shaped : AreShaped rest
  pub good : AreGood (world_of mid) (effect_views rest)
  pub world : after_all (world_of mid) (effect_views rest) ≡ after_all (world_of first) (effect_views all)
  pub now : after_all (world_now mid) (effect_views rest) ≡ after_all (world_now first) (effect_views all)
  pub back : IsUndoable first mid

pub not_moved : (w : World) → IsInTurn w → IsUndoable w w
not_moved w turn = record { rights = stays w.draft turn.goes; registers = refl; sums = refl }

pub begins : (w : World) (all : List Effect) → IsInTurn w → AreShaped all → AreGood (world_of w) (effect_views all) → IsCarrying w w all all
begins w all turn shaped good = record { turn = turn; shaped = shaped; good = good; world = refl; now = refl; back = not_moved w turn }

pub carries_on : (first mid new : World) (all : List Effect) (e : Effect) (rest : List Effect) → IsCarrying first mid all (e ∷ rest)
    → IsCarried mid new (effect_view e) → IsUndoable mid new → IsCarrying first new all rest
carries_on first mid new all e rest is done back =
    let there : world_of new ≡ after (world_of mid) (effect_view e) = world_on mid new (effect_view e) is.turn done in
    record {
      turn = goes_on mid new (effect_view e) is.turn is.good.0 done back;
      shaped = is.shaped.1;
      good = subst (λ (w : State). AreGood w (effect_views rest)) (sym there) is.good.1;
      world = ap (λ (w : State). after_all w (effect_views rest)) there ∙ is.world;
      now = ap (λ (w : State). after_all w (effect_views rest)) done.now ∙ is.now;
      back = back_on first mid new is.back back;
    }

pub ends : (first new : World) (all : List Effect) → IsCarrying first new all [] → AreCarried first new (effect_views all)
ends first new all is = record { now = is.now; world = is.world; turn = is.turn }
