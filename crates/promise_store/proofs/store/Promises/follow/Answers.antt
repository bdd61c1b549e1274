use Rattle.std.proofs.Common.{◌≡◌, ℕ, ◌<◌, [], ◌∷◌, length, refl, sym, ◌∙◌, subst, arith, map, None, IsSome, IfErr}
use Rattle.promise_store.specs.declared.store.FollowFault.TheVariants as faults
use Rattle.promise_store.specs.Cascade.{settled_in}
use Rattle.promise_store.specs.Linked.{settlement_of}
use Rattle.promise_store.specs.States.{settlement_view}
use Rattle.promise_store.specs.Linked.{AreAlike, with_outcomes}
use Rattle.promise_store.specs.Cascade.{Settles}
use Rattle.promise_store.proofs.Alike.{alike_settled, if_ok, settled_as}
use Rattle.promise_store.proofs.Whole.{leads_settled, numbered_at, pending_is, whole_either}
use Rattle.promise_store.proofs.store.Promises.follow.Goals as goal

pub invariant_of-self : goal.invariant_of-self
invariant_of-self g c =
    let was = c.args.self.now in
    let there : c.in-Some.settlement < length was.settlements.items = numbered_at _ _ _ _ was.whole.numbered (sym c.settlement.ensures ∙ c.in-Some.is) in
    let l = was.links.now in
    let alike = if_ok (λ events. Settles l (c.args.promise ∷ []) events.items) (λ events. AreAlike l.follows (with_outcomes c.in-Some.settlement (settled_in events.items) l.outcomes)) c.follow_settled.result
    (λ events s. alike_settled l c.in-Some.settlement c.args.promise events.items c.valid.ensures.forest (pending_is _ _ _ c.requires.is_pending).1 was.whole.alike s) c.follow_settled.ensures.events in
    record { whole = whole_either (λ events. settled_in events.items) c.follow_settled.result was.links c.follow_settled.new.links was.entries.items was.settlements.items was.kept_entries was.kept_settlements c.in-Some.settlement c.follow_settled.ensures.ok c.follow_settled.ensures.err was.whole there alike }

pub returns-in-Some-clause-cycle : goal.returns-in-Some-clause-cycle
returns-in-Some-clause-cycle g c =
    let l = c.args.self.now.links.now in (
      (λ e. let two : faults.PromiseCycle c.args.promise ≡ faults.NoMemory = subst (λ r. IfErr r (λ f. f ≡ faults.NoMemory)) e c.follow_settled.ensures.fault in grind arith),
      (λ h.
          let there : IsSome (settlement_of l.outcomes c.args.promise) = leads_settled l.follows l.outcomes _ _ c.valid.ensures.order h (subst IsSome (sym (sym c.settlement.ensures ∙ c.in-Some.is)) refl) in
          let free = (pending_is _ _ _ c.requires.is_pending).0 in
          let bad : IsSome {T = ℕ} None = subst IsSome free there in
          grind arith),
    )

pub returns-in-Some-clause-settled : goal.returns-in-Some-clause-settled
returns-in-Some-clause-settled g c =
    let was = c.args.self.now in
    let there = sym c.settlement.ensures ∙ c.in-Some.is in
    λ _. settled_as (λ events. events.items) c.follow_settled.result was.links c.follow_settled.new.links was.entries.items (map settlement_view was.settlements.items) c.in-Some.settlement c.args.promise c.args.target c.valid.ensures.forest there c.follow_settled.ensures.events c.follow_settled.ensures.ok
