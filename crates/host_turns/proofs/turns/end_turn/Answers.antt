use Rattle.std.proofs.Common.{sym, subst}
use Rattle.host_turns.specs.Totals.{Tells, TurnOf}
use Rattle.host_turns.proofs.WholeTurns.{ending_is}
use Rattle.host_turns.proofs.turns.end_turn.Goals as goal

pub tell_turn-requires : goal.tell_turn-requires
tell_turn-requires c = subst (λ vs. TurnOf c.args.world.sums vs) (sym c.events.ensures) c.requires.told

pub returns-in_default : goal.returns-in_default
returns-in_default c = record {
  world = c.undo.ensures.world;
  between = c.undo.ensures.between;
  sums = λ r instances tells. subst (λ e. Tells r instances e) (sym c.undo.ensures.sums) (c.in_default.ensures.still r instances tells);
}

pub returns : goal.returns
returns c = ending_is c.args.number c.args.world c.args.delivered c.commit-kept.result.0 c.commit-kept.result.1 c.in-Ok.sums.items c.tell_turn.new.sums _ c.events.ensures c.in-Ok.ensures.sums c.in-Ok.ensures.ok c.commit-kept.ensures.world c.commit-kept.ensures.between c.commit-kept.ensures.turn c.commit-kept.ensures.sums
