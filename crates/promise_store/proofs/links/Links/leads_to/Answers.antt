use Rattle.std.proofs.Common.{arith, refl, sym, subst, ◌∙◌}
use Rattle.promise_store.specs.Linked.{LeadsTo, here, through}
use Rattle.promise_store.proofs.Forest.{higher, leads_through}
use Rattle.promise_store.proofs.links.Links.leads_to.Goals as goal

pub loop-at-smaller : goal.loop-at-smaller
loop-at-smaller c = omega (arith, higher _ _ _ c.valid.ensures.forest (sym c.leader.ensures ∙ c.in-Some.is))

pub loop-at-preserved : goal.loop-at-preserved
loop-at-preserved c =
    let e = sym c.leader.ensures ∙ c.in-Some.is in
    ((λ l. c.loop-at.invariant.0 (through _ _ e l)), (λ l. leads_through _ _ _ _ e c.loop-at-test.true (c.loop-at.invariant.1 l)))

pub returns : goal.returns
returns c = ((λ _. c.loop-at.invariant.0 (subst (λ x. LeadsTo c.args.self.now.now.follows c.args.promise x) (sym c.loop-at-test.false) here)), (λ _. refl))
