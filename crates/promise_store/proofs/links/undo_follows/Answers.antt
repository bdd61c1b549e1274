use Rattle.std.proofs.Common.{◌≤◌, [], ◌∷◌, length, take, reverse, sym, ap, ◌∙◌, subst, arith}
use Rattle.std.proofs.lemmas.List.{length-set, reverse-append, take-append-le, length_push}
use Rattle.promise_store.specs.Kept.{AreNodes}
use Rattle.promise_store.proofs.Changes.{follow_undone}
use Rattle.promise_store.proofs.links.undo_follows.Goals as goal

pub loop-follows-preserved-in-Some : goal.loop-follows-preserved-in-Some
loop-follows-preserved-in-Some c =
    let popped = (c.in-Some.ensures).items in (
      (λ asked os a.
          let b = c.loop-follows.invariant.0 asked os a in
          let last = ap reverse popped ∙ reverse-append c.pop.new.self.items (c.in-Some.following ∷ []) in
          rw (c.drop_follower.ensures, c.drop_leader.ensures) (follow_undone _ _ _ _ _ (subst (λ fs. AreNodes c.loop-follows.nodes.items fs asked os) last b))),
      rw (c.drop_follower.ensures, c.drop_leader.ensures) (length-set _ _ _ ∙ (length-set _ _ _ ∙ c.loop-follows.invariant.1)),
      let l = ap length popped in
          let shorter : c.args.kept ≤ length c.pop.new.self.items = omega (arith, l, length_push c.pop.new.self.items c.in-Some.following, c.len.ensures, c.loop-follows-test.true) in
          sym (ap (take c.args.kept) popped ∙ take-append-le c.args.kept _ _ shorter) ∙ c.loop-follows.invariant.2,
    )
