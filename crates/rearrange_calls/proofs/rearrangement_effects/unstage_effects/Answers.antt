use Rattle.std.proofs.Common.{◌++◌, List, [], ◌∷◌, sym, ap, ◌∙◌}
use Rattle.rules.specs.world_state.Worlds as worlds
use Rattle.rules.specs.world_state.Worlds.{unstage}
use Rattle.rearrange_calls.proofs.Unstaged.{unstaged_next}
use Rattle.rearrange_calls.proofs.rearrangement_effects.unstage_effects.Goals as goal

pub loop-one-preserved : goal.loop-one-preserved
loop-one-preserved c = record {
  so_far =
      c.in_ok-push.ensures.view
      ∙ ap (λ (l : List worlds.Effect). l ++ unstage c.one-item.result.seat ∷ []) c.loop-one.invariant.so_far
      ∙ sym (unstaged_next c.args.touched.now c.loop-one.one-index c.one-item.result c.loop-one-test.true c.one-item.is);
  shaped = c.in_ok-push.ensures.shaped tt c.loop-one.invariant.shaped;
}
