use Rattle.std.proofs.Common.{◌+◌, map, drop, sym, ap, ◌∙◌}
use Rattle.refusals.specs.amount_math.Content.{nothing-sum, sum, sum-assoc, sum-nothing}
use Rattle.refusals.specs.amount_math.ValueView.{ValueView}
use Rattle.value_tests.specs.Totals.{total_of}
use Rattle.value_tests.proofs.SumParts.{can_add, total_ends, total_next}
use Rattle.value_tests.proofs.value_sums.sum_of.Goals as goal

pub loop-value-init : goal.loop-value-init
loop-value-init c = record {
  kind = ap (λ (w : ValueView). w.kind) c.empty-whole.ensures;
  content = ap (λ (w : ValueView). sum w.content (total_of (map (λ v. v.now) c.args.values.now))) c.empty-whole.ensures ∙ nothing-sum _;
}

pub add-requires-clause-can : goal.add-requires-clause-can
add-requires-clause-can c =
    let next = total_next c.args.values.now c.loop-value.value-index c.value-item.result c.loop-value-test.true c.value-item.is in
    can_add c.args.kind c.loop-value.whole c.value-item.result.now _ _ c.loop-value.invariant.kind (sym (ap (sum c.loop-value.whole.content) next) ∙ c.loop-value.invariant.content) c.requires.fits c.requires.few

pub loop-value-preserved : goal.loop-value-preserved
loop-value-preserved c =
    let next = total_next c.args.values.now c.loop-value.value-index c.value-item.result c.loop-value-test.true c.value-item.is in
    let rest = total_of (map (λ v. v.now) (drop (c.loop-value.value-index + 1) c.args.values.now)) in
    record {
      kind = ap (λ (w : ValueView). w.kind) c.in_ok-add.ensures ∙ c.loop-value.invariant.kind;
      content =
          ap (λ (w : ValueView). sum w.content rest) c.in_ok-add.ensures
          ∙ sum-assoc c.loop-value.whole.content c.value-item.result.now.content rest
          ∙ sym (ap (sum c.loop-value.whole.content) next)
          ∙ c.loop-value.invariant.content;
    }

pub returns : goal.returns
returns c =
    let ends = total_ends c.args.values.now c.loop-value.value-index c.loop-value-test.false in
    let content = sym (sum-nothing c.loop-value.whole.content) ∙ sym (ap (sum c.loop-value.whole.content) ends) ∙ c.loop-value.invariant.content in
    λ i. record { kind = c.loop-value.invariant.kind i; content = content i }
