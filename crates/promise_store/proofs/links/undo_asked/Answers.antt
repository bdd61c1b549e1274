use Rattle.std.proofs.Common.{◌≤◌, length, take, sym, ap, ◌∙◌, subst, arith}
use Rattle.std.proofs.lemmas.List.{length-set, take-append-le, length_push}
use Rattle.promise_store.specs.Kept.{AreNodes}
use Rattle.promise_store.proofs.Changes.{asked_undone}
use Rattle.promise_store.proofs.links.undo_asked.Goals as goal

pub loop-asked-preserved-in-Some : goal.loop-asked-preserved-in-Some
loop-asked-preserved-in-Some c =
    let popped = (c.in-Some.ensures).items in (
      (λ fs os a.
          let b = c.loop-asked.invariant.0 fs os a in
          rw c.drop_request.ensures (asked_undone _ _ _ _ _ (subst (λ ps. AreNodes c.loop-asked.nodes.items fs ps os) popped b))),
      rw c.drop_request.ensures (length-set _ _ _ ∙ c.loop-asked.invariant.1),
      let l = ap length popped in
          let shorter : c.args.kept ≤ length c.pop.new.self.items = omega (arith, l, length_push c.pop.new.self.items c.in-Some.promise, c.len.ensures, c.loop-asked-test.true) in
          sym (ap (take c.args.kept) popped ∙ take-append-le c.args.kept _ _ shorter) ∙ c.loop-asked.invariant.2,
    )
