use Rattle.std.proofs.Common.{ap, sym, ◌∙◌, arith}
use Rattle.refusals.specs.amount_math.Content.{count, count-of_nat, unit}
use Rattle.refusals.specs.amount_math.Entries.{Entries, at_key, tally}
use Rattle.refusals.specs.amount_math.ValueView.{ValueView}
use Rattle.value_tests.proofs.Kept.{ok_has, same_more, tally_entries, value_bounded}
use Rattle.value_tests.proofs.value_totals.Total.add_value.Goals as goal

pub add_entries-requires : goal.add_entries-requires
add_entries-requires c k = omega (arith, c.requires k, ap (λ (es : Entries). tally es k) c.in-Some-entries.ensures.entries, tally_entries c.args.value.now.content k, value_bounded _ _ c.kind-kind.ensures.value k)

pub returns-in-Some-clause-more : goal.returns-in-Some-clause-more
returns-in-Some-clause-more c = ok_has c.add.result (same_more (λ k. at_key k unit c.in-Some.number) (count c.args.value.now.content) c.args.self.now c.add.new.self (λ k. sym (ap (λ (w : ValueView). count w.content k) c.in-Some.ensures.number ∙ count-of_nat c.in-Some.number k))) c.add.ensures

pub returns-in-Some-entries-clause-more : goal.returns-in-Some-entries-clause-more
returns-in-Some-entries-clause-more c = ok_has c.add_entries.result (same_more (tally c.in-Some-entries.entries.now) (count c.args.value.now.content) c.args.self.now c.add_entries.new.self (λ k. ap (λ (es : Entries). tally es k) c.in-Some-entries.ensures.entries ∙ tally_entries c.args.value.now.content k)) c.add_entries.ensures

pub returns-in-Some-clause-bounded : goal.returns-in-Some-clause-bounded
returns-in-Some-clause-bounded c = value_bounded _ _ c.kind-kind.ensures.value

pub returns-in-Some-entries-clause-bounded : goal.returns-in-Some-entries-clause-bounded
returns-in-Some-entries-clause-bounded c = value_bounded _ _ c.kind-kind.ensures.value
