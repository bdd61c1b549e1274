use Rattle.std.proofs.Common.{◌≡◌, [], ◌∷◌, ◌++◌, reverse, refl, sym, ap, ◌∙◌, subst, arith}
use Rattle.std.proofs.lemmas.List.{append-nil, append_assoc, nil_from_length}
use Rattle.std.specs.List.{sum_by}
use Rattle.promise_store.specs.Cascade.{Settles}
use Rattle.promise_store.specs.Steps.{shown}
use Rattle.promise_store.proofs.Cascade.{Remains, step_weight, lighter_todo, taken}
use Rattle.promise_store.proofs.links.Links.hanging.Goals as goal

pub loop-step-smaller : goal.loop-step-smaller
loop-step-smaller c =
    let l = c.args.self.now.now in
    let weigh = sum_by (step_weight l.follows) in
    omega (arith, lighter_todo l c.in-Some.step c.pop.new.self.items c.valid.ensures.forest, ap weigh (c.in_ok-take_step.ensures).todo, ap weigh (c.in-Some.ensures).items)

pub loop-step-preserved : goal.loop-step-preserved
loop-step-preserved c = λ rest r.
    let l = c.args.self.now.now in
    let s = c.in-Some.step in
    let todo = c.pop.new.self.items in
    let after = taken l s todo rest (subst (λ steps. Remains l (reverse steps) rest) (c.in_ok-take_step.ensures).todo r) in
    let before = subst (λ steps. Remains l (reverse steps) (shown l s ++ rest)) (sym (c.in-Some.ensures).items) after in
    let events = c.loop-step.events.items in
    subst (λ es. Settles l (c.args.promise ∷ []) es)
    (sym (append_assoc events (shown l s) rest) ∙ ap (λ xs. xs ++ rest) (sym (c.in_ok-take_step.ensures).events))
    (c.loop-step.invariant (shown l s ++ rest) before)

pub returns : goal.returns
returns c =
    let l = c.args.self.now.now in
    let empty : c.loop-step.todo.items ≡ [] = nil_from_length _ (omega (arith, c.loop-step.todo.ok.0, (c.in_default.ensures).cases.0)) in
    subst (λ es. Settles l (c.args.promise ∷ []) es) (append-nil c.loop-step.events.items) (c.loop-step.invariant [] (subst (λ steps. Remains l (reverse steps) []) (sym empty) refl))
