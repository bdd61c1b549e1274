use Rattle.std.proofs.Common.{◌≡◌, ◌≢◌, ◌⊎◌, ◌≤◌, ◌<◌, ◌+◌, ◌-◌, inr, ℕ, None, ap, arith, drop, length, refl, subst, sym, ◌∙◌}
use Rattle.std.specs.FinMap.{find}
use Rattle.row_records.specs.Views.{value_view}
use Rattle.row_records.specs.amount_math.Content.{Content, count, key_cmp}
use Rattle.told_rights.specs.Listing.{entries_of}
use Rattle.told_rights.proofs.ValueElements.{exceed_last, exceed_one, listed_in_form, listed_none, listed_some, stays_one}
use Rattle.told_rights.proofs.contents.Contents.exceed.Goals as goal

pub loop-index-init : goal.loop-index-init
loop-index-init c = record { listed = λ k some. inr some; rest = λ k none. refl }

pub loop-index-preserved : goal.loop-index-preserved
loop-index-preserved c =
    let v = value_view c.args.value.now in
    let k = c.element_at.result.0.now in
    let n = c.element_at.result.1 in
    let over = c.saturating_sub-over.result in
    let there : c.loop-index.index < length (entries_of v) = omega (arith, c.loop-index-test.true, c.number_of_elements-index-end.ensures) in
    let is : over ≡ count c.args.others.now k - c.args.most = c.saturating_sub-over.ensures ∙ ap (λ (m : ℕ). m - c.args.most) c.count.ensures in
    record {
      listed = λ q some. subst (λ (t : Content). (count t q ≡ count c.args.others.now q - c.args.most) ⊎ (find key_cmp q (drop (c.loop-index.index + 1) (entries_of v)) ≢ None)) (sym c.in_ok-put.ensures)
          (exceed_one (entries_of v) c.loop-index.index k n there c.element_at.ensures c.loop-index.self c.args.others.now c.args.most over is q (c.loop-index.invariant.listed q some));
      rest = λ q none.
          ap (λ (t : Content). count t q) c.in_ok-put.ensures
          ∙ stays_one (entries_of v) c.loop-index.index k n there c.element_at.ensures (listed_in_form c.requires.form.0 v c.requires.form.1).rising c.loop-index.self over q none
          ∙ c.loop-index.invariant.rest q none;
    }

pub returns-clause-listed : goal.returns-clause-listed
returns-clause-listed c =
    let v = value_view c.args.value.now in
    let past : length (entries_of v) ≤ c.loop-index.index = omega (arith, c.loop-index-test.false, c.number_of_elements-index-end.ensures) in
    λ k some. exceed_last (entries_of v) c.loop-index.index c.loop-index.self c.args.others.now c.args.most past k (c.loop-index.invariant.listed k (listed_some v k some))

pub returns-clause-others : goal.returns-clause-others
returns-clause-others c = λ k none. c.loop-index.invariant.rest k (listed_none c.requires.form.0 (value_view c.args.value.now) c.requires.form.1 k none)
