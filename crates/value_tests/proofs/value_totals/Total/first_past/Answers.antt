use Rattle.std.proofs.Common.{List, ℕ, map, ap, sym, ◌∙◌}
use Rattle.std.specs.Borrow.{Bor}
use Rattle.std.specs.List.{find}
use Rattle.std.specs.Prelude.{nat_lt}
use Rattle.std.specs.Map.Iter.{deref_pair}
use Rattle.std.proofs.lemmas.Map.Iter.{iter_turn}
use Rattle.refusals.specs.amount_math.Content.{count}
use Rattle.value_tests.specs.Listing.{listing}
use Rattle.value_tests.proofs.Kept.{listed_count, not_passing, not_past_here, past_here}
use Rattle.value_tests.proofs.value_totals.Total.first_past.Goals as goal

pub returns-then-passes-clause-counted : goal.returns-then-passes-clause-counted
returns-then-passes-clause-counted c =
    let turn = iter_turn deref_pair c.self.inside.counts.entries c.loop-element.yielded c.into_iter-element-iterator.result c.loop-element.element-iterator c.next.new.self c.next.result c.into_iter-element-iterator.ensures.into_iter_gives.0 c.loop-element.yielded_by (c.in-Some.element, c.in-Some.number) c.in-Some.is c.next.ensures.steps in
    let counted = listed_count c.self.inside.counts.entries c.args.self.now _ (c.in-Some.element.now, c.in-Some.number.now) c.self.invariant c.self.view_is turn.0 turn.1 in
    c.copy.ensures ∙ counted

pub returns-then-passes-clause-first : goal.returns-then-passes-clause-first
returns-then-passes-clause-first c =
    let turn = iter_turn deref_pair c.self.inside.counts.entries c.loop-element.yielded c.into_iter-element-iterator.result c.loop-element.element-iterator c.next.new.self c.next.result c.into_iter-element-iterator.ensures.into_iter_gives.0 c.loop-element.yielded_by (c.in-Some.element, c.in-Some.number) c.in-Some.is c.next.ensures.steps in
    let counted = listed_count c.self.inside.counts.entries c.args.self.now _ (c.in-Some.element.now, c.in-Some.number.now) c.self.invariant c.self.view_is turn.0 turn.1 in
    sym (past_here c.args.most c.args.self.now (map (λ e. e.0) (listing c.next.new.self)) c.in-Some.element.now.now c.in-Some.number.now counted (c.passes.ensures.0 c.if-passes.true))
    ∙ ap (λ (s : List (Bor (List ℕ) × ℕ)). find (λ k. nat_lt c.args.most (count c.args.self.now k)) (map (λ e. e.0) (listing s))) (sym c.in-Some.ensures.steps)
    ∙ c.loop-element.invariant.2

pub loop-element-preserved : goal.loop-element-preserved
loop-element-preserved c =
    let turn = iter_turn deref_pair c.self.inside.counts.entries c.loop-element.yielded c.into_iter-element-iterator.result c.loop-element.element-iterator c.next.new.self c.next.result c.into_iter-element-iterator.ensures.into_iter_gives.0 c.loop-element.yielded_by (c.in-Some.element, c.in-Some.number) c.in-Some.is c.next.ensures.steps in
    let counted = listed_count c.self.inside.counts.entries c.args.self.now _ (c.in-Some.element.now, c.in-Some.number.now) c.self.invariant c.self.view_is turn.0 turn.1 in (
      tt,
      tt,
      sym (not_past_here c.args.most c.args.self.now (map (λ e. e.0) (listing c.next.new.self)) c.in-Some.element.now.now c.in-Some.number.now counted (not_passing c.passes.result c.args.most c.in-Some.number.now c.passes.ensures c.if-passes.false))
          ∙ ap (λ (s : List (Bor (List ℕ) × ℕ)). find (λ k. nat_lt c.args.most (count c.args.self.now k)) (map (λ e. e.0) (listing s))) (sym c.in-Some.ensures.steps)
          ∙ c.loop-element.invariant.2,
    )
