use Rattle.std.proofs.Common.{◌∙◌, ap, subst}
use Rattle.draft_reads.specs.amount_math.Content.{sum}
use Rattle.draft_reads.specs.amount_math.ValueView.{ValueView, with_content}
use Rattle.draft_effects.specs.Sums.{IsAdding}
use Rattle.draft_effects.proofs.AddedValues.{adds_all, adds_next, next_left, none_left}
use Rattle.draft_effects.proofs.payment_combinations.whole_value.Goals as goal

pub loop-movement-preserved : goal.loop-movement-preserved
loop-movement-preserved c =
    adds_next c.loop-movement.whole c.add.new.whole c.args.moves.now c.movement-item.result _
    (subst (λ l. IsAdding c.loop-movement.whole c.args.moves.now l) (next_left c.in-Some.others.now c.loop-movement.movement-index c.movement-item.result c.loop-movement-test.true c.movement-item.is) c.loop-movement.invariant)
    (c.in_ok-add.ensures ∙ ap (λ (x : ValueView). with_content c.loop-movement.whole (sum c.loop-movement.whole.content x.content)) c.in_ok-part.ensures)

pub returns : goal.returns
returns c = adds_all c.loop-movement.whole c.args.moves.now c.requires (subst (λ l. IsAdding c.loop-movement.whole c.args.moves.now l) (none_left c.in-Some.others.now c.loop-movement.movement-index c.loop-movement-test.false) c.loop-movement.invariant)
