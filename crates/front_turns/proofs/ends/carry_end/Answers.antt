use Rattle.std.proofs.Common.{◌∙◌, List, ap, subst, sym}
use Rattle.fair_laws.proofs.delivery_laws.Ends.{ending_good}
use Rattle.delivery_tasks.specs.delivery_turns.Endings.{ending}
use Rattle.contract_powers.specs.host_world.Worlds.{world_of}
use Rattle.contract_powers.specs.turn_records.Views.{answer_view}
use Rattle.contract_powers.specs.turn_records.Deliveries.{Delivery}
use Rattle.contract_powers.specs.world_state.Good.{AreGood}
use Rattle.contract_powers.specs.world_state.Worlds.{Effect}
use Rattle.front_turns.specs.FrontTurns.{front}
use Rattle.front_turns.proofs.ends.carry_end.Goals as goal

pub carry_out-requires-clause-good : goal.carry_out-requires-clause-good
carry_out-requires-clause-good c =
    let w = world_of c.args.world.now in
    let a = answer_view c.args.answer.now in
    subst (λ (es : List Effect). AreGood w es) (sym (c.in_ok-effects.ensures.effects ∙ ap (λ (d : Delivery). ending d a w) c.front.ensures))
    (ending_good w (front c.args.world.now) a c.requires.fronted c.requires.out c.requires.free)
