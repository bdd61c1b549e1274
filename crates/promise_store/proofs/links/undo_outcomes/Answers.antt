use Rattle.std.proofs.Common.{◌≤◌, [], ◌∷◌, length, take, reverse, sym, ap, ◌∙◌, subst, arith}
use Rattle.std.proofs.lemmas.List.{length-set, reverse-append, take-append-le, length_push}
use Rattle.promise_store.specs.Kept.{AreNodes}
use Rattle.promise_store.proofs.Changes.{outcome_undone}
use Rattle.promise_store.proofs.links.undo_outcomes.Goals as goal

pub loop-outcomes-preserved-in-Some : goal.loop-outcomes-preserved-in-Some
loop-outcomes-preserved-in-Some c =
    let popped = (c.in-Some.ensures).items in (
      (λ fs asked a.
          let b = c.loop-outcomes.invariant.0 fs asked a in
          let last = ap reverse popped ∙ reverse-append c.pop.new.self.items (c.in-Some.outcome ∷ []) in
          rw c.set_settlement.ensures (outcome_undone _ _ _ _ _ (subst (λ os. AreNodes c.loop-outcomes.nodes.items fs asked os) last b))),
      rw c.set_settlement.ensures (length-set _ _ _ ∙ c.loop-outcomes.invariant.1),
      let l = ap length popped in
          let shorter : c.args.kept ≤ length c.pop.new.self.items = omega (arith, l, length_push c.pop.new.self.items c.in-Some.outcome, c.len.ensures, c.loop-outcomes-test.true) in
          sym (ap (take c.args.kept) popped ∙ take-append-le c.args.kept _ _ shorter) ∙ c.loop-outcomes.invariant.2,
    )
