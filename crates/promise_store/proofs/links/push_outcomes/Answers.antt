use Rattle.std.proofs.Common.{[], ◌∷◌, ◌++◌, get_or, take, sym, ap, ◌∙◌, map}
use Rattle.std.proofs.lemmas.List.{append_assoc, map-append}
use Rattle.promise_store.specs.declared.links.Consequence.TheVariants.{Settled}
use Rattle.promise_store.specs.Cascade.{settled_in}
use Rattle.promise_store.specs.Linked.{outcome}
use Rattle.promise_store.proofs.Changes.{settled_in_more}
use Rattle.promise_store.proofs.links.push_outcomes.Goals as goal

pub loop-event-preserved : goal.loop-event-preserved
loop-event-preserved c =
    let es = c.args.events.now in
    let k = c.args.settlement in
    let i = c.loop-event.event-index in
    let before = settled_in (take i es) in
    let here = settled_in (get_or es i (Settled 0) ∷ []) in
    let old = c.args.outcomes.now.items in
    (c.in_ok-push_outcome.ensures).ok
    ∙ (ap (λ xs. xs ++ map (outcome k) here) c.loop-event.invariant
    ∙ (append_assoc old (map (outcome k) before) (map (outcome k) here)
    ∙ ap (λ xs. old ++ xs) (sym (map-append (outcome k) before here) ∙ ap (map (outcome k)) (sym (settled_in_more es i (Settled 0) c.loop-event-test.true)))))
