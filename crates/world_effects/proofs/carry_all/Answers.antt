use Rattle.std.proofs.Common.{◌≡◌, ◌∷◌, [], ◌∙◌, List, ap, length, subst, sym, arith, rules}
use Rattle.std.specs.Vec.Iter.{into_iter_items}
use Rattle.register_effects.specs.call_outcomes.Views.{effect_view}
use Rattle.register_effects.specs.call_outcomes.declared.effects.Effect.{Effect}
use Rattle.world_effects.proofs.EffectSequences.{IsCarrying, begins, carries_on, ends}
use Rattle.world_effects.proofs.JoinedStores.{back_on}
use Rattle.world_effects.proofs.carry_all.Goals as goal

pub loop-effect-preserved : goal.loop-effect-preserved
loop-effect-preserved c =
    let first = c.args.world.now in
    let all = c.args.effects.items in
    let steps : into_iter_items c.loop-effect.effect-iterator ≡ c.in-Some.effect ∷ into_iter_items c.next.new.self = c.in-Some.ensures.steps.0 in
    let is = subst (λ (es : List Effect). IsCarrying first c.loop-effect.world all es) steps c.loop-effect.invariant.carrying in
    record {
      can = tt;
      finite = tt;
      carrying = carries_on first c.loop-effect.world c.carry_one.new.world all c.in-Some.effect (into_iter_items c.next.new.self) is c.in_ok-carry_one.ensures.ok c.in_ok-carry_one.ensures.back;
      left = search rules;
    }
