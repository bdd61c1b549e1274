use Rattle.std.proofs.Common.{◌≡◌, List, ℕ, map, ap, sym, ◌∙◌, arith}
use Rattle.std.specs.Borrow.{Bor}
use Rattle.std.specs.List.{find}
use Rattle.std.specs.Prelude.{nat_lt}
use Rattle.std.specs.Map.Iter.{deref_pair}
use Rattle.std.proofs.lemmas.Map.Iter.{iter_turn}
use Rattle.refusals.specs.amount_math.Content.{Content, count, count-sum, sum}
use Rattle.transit.specs.Transit.{supply_in}
use Rattle.value_tests.specs.Listing.{listing}
use Rattle.value_tests.proofs.Kept.{listed_count, not_passing, not_past_here, past_here}
use Rattle.value_tests.proofs.Firsts.{first_in_part}
use Rattle.value_tests.proofs.value_totals.Total.first_past_beside.Goals as goal

pub with-together-requires : goal.with-together-requires
with-together-requires c =
    let turn = iter_turn deref_pair c.self.inside.counts.entries c.loop-element.yielded c.into_iter-element-iterator.result c.loop-element.element-iterator c.next.new.self c.next.result c.into_iter-element-iterator.ensures.into_iter_gives.0 c.loop-element.yielded_by (c.in-Some.element, c.in-Some.number) c.in-Some.is c.next.ensures.steps in
    let counted = listed_count c.self.inside.counts.entries c.args.self.now _ (c.in-Some.element.now, c.in-Some.number.now) c.self.invariant c.self.view_is turn.0 turn.1 in
    let k = c.in-Some.element.now.now in
    omega (arith, counted, c.self.invariant.small k, ap (λ (t : Content). count t k) c.self.view_is, c.count_out.ensures, c.requires.fits k)

pub returns-then-passes-clause-counted : goal.returns-then-passes-clause-counted
returns-then-passes-clause-counted c =
    let turn = iter_turn deref_pair c.self.inside.counts.entries c.loop-element.yielded c.into_iter-element-iterator.result c.loop-element.element-iterator c.next.new.self c.next.result c.into_iter-element-iterator.ensures.into_iter_gives.0 c.loop-element.yielded_by (c.in-Some.element, c.in-Some.number) c.in-Some.is c.next.ensures.steps in
    let counted = listed_count c.self.inside.counts.entries c.args.self.now _ (c.in-Some.element.now, c.in-Some.number.now) c.self.invariant c.self.view_is turn.0 turn.1 in
    let out = (supply_in c.args.supply.now c.args.brand).outstanding.content in
    let both = sum out c.args.self.now in
    let k = c.in-Some.element.now.now in
    let together : c.with-together.result ≡ count both k = omega (arith, counted, c.with-together.ensures, c.count_out.ensures, count-sum out c.args.self.now k) in
    together

pub returns-then-passes-clause-first : goal.returns-then-passes-clause-first
returns-then-passes-clause-first c =
    let turn = iter_turn deref_pair c.self.inside.counts.entries c.loop-element.yielded c.into_iter-element-iterator.result c.loop-element.element-iterator c.next.new.self c.next.result c.into_iter-element-iterator.ensures.into_iter_gives.0 c.loop-element.yielded_by (c.in-Some.element, c.in-Some.number) c.in-Some.is c.next.ensures.steps in
    let counted = listed_count c.self.inside.counts.entries c.args.self.now _ (c.in-Some.element.now, c.in-Some.number.now) c.self.invariant c.self.view_is turn.0 turn.1 in
    let out = (supply_in c.args.supply.now c.args.brand).outstanding.content in
    let both = sum out c.args.self.now in
    let k = c.in-Some.element.now.now in
    let together : c.with-together.result ≡ count both k = omega (arith, counted, c.with-together.ensures, c.count_out.ensures, count-sum out c.args.self.now k) in
    sym (past_here c.args.most both (map (λ e. e.0) (listing c.next.new.self)) k c.with-together.result together (c.passes.ensures.0 c.if-passes.true))
    ∙ ap (λ (s : List (Bor (List ℕ) × ℕ)). find (λ q. nat_lt c.args.most (count both q)) (map (λ e. e.0) (listing s))) (sym c.in-Some.ensures.steps)
    ∙ c.loop-element.invariant.2
    ∙ first_in_part c.args.most out c.args.self.now c.requires.fits

pub loop-element-preserved : goal.loop-element-preserved
loop-element-preserved c =
    let turn = iter_turn deref_pair c.self.inside.counts.entries c.loop-element.yielded c.into_iter-element-iterator.result c.loop-element.element-iterator c.next.new.self c.next.result c.into_iter-element-iterator.ensures.into_iter_gives.0 c.loop-element.yielded_by (c.in-Some.element, c.in-Some.number) c.in-Some.is c.next.ensures.steps in
    let counted = listed_count c.self.inside.counts.entries c.args.self.now _ (c.in-Some.element.now, c.in-Some.number.now) c.self.invariant c.self.view_is turn.0 turn.1 in
    let out = (supply_in c.args.supply.now c.args.brand).outstanding.content in
    let both = sum out c.args.self.now in
    let k = c.in-Some.element.now.now in
    let together : c.with-together.result ≡ count both k = omega (arith, counted, c.with-together.ensures, c.count_out.ensures, count-sum out c.args.self.now k) in (
      tt,
      tt,
      sym (not_past_here c.args.most both (map (λ e. e.0) (listing c.next.new.self)) k c.with-together.result together (not_passing c.passes.result c.args.most c.with-together.result c.passes.ensures c.if-passes.false))
          ∙ ap (λ (s : List (Bor (List ℕ) × ℕ)). find (λ q. nat_lt c.args.most (count both q)) (map (λ e. e.0) (listing s))) (sym c.in-Some.ensures.steps)
          ∙ c.loop-element.invariant.2,
    )

pub returns-clause-first : goal.returns-clause-first
returns-clause-first c =
    let out = (supply_in c.args.supply.now c.args.brand).outstanding.content in
    let both = sum out c.args.self.now in
    ap (λ (s : List (Bor (List ℕ) × ℕ)). find (λ q. nat_lt c.args.most (count both q)) (map (λ e. e.0) (listing s))) (sym c.in-None.ensures.steps.0)
    ∙ c.loop-element.invariant.2
    ∙ first_in_part c.args.most out c.args.self.now c.requires.fits
