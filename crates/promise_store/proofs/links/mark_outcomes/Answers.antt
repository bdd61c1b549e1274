use Rattle.std.proofs.Common.{ℕ, List, [], ◌∷◌, get_or, take, sym, ap, ◌∙◌}
use Rattle.promise_store.specs.declared.links.Consequence.TheVariants.{Settled}
use Rattle.promise_store.specs.Cascade.{settled_in}
use Rattle.promise_store.specs.Nodes.{with_settlement}
use Rattle.promise_store.proofs.Changes.{settled_in_more, with_settlement_append}
use Rattle.promise_store.proofs.links.mark_outcomes.Goals as goal

pub loop-event-preserved : goal.loop-event-preserved
loop-event-preserved c =
    let es = c.args.events.now in
    let nodes = c.args.nodes.now.items in
    let k = c.args.settlement in
    let i = c.loop-event.event-index in
    let here = settled_in (get_or es i (Settled 0) ∷ []) in
    c.mark_outcome.ensures
    ∙ (ap (with_settlement k here) c.loop-event.invariant
    ∙ (sym (with_settlement_append k (settled_in (take i es)) here nodes)
    ∙ ap (λ (ps : List ℕ). with_settlement k ps nodes) (sym (settled_in_more es i (Settled 0) c.loop-event-test.true))))
