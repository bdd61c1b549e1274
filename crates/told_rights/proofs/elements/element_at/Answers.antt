use Rattle.std.proofs.Common.{◌≡◌, ℕ, List, ap, sym, ◌∙◌}
use Rattle.row_records.specs.Views.{element_view, value_view}
use Rattle.row_records.specs.fair_rows.Values.{entry_of}
use Rattle.told_rights.proofs.ValueElements.{read_at}
use Rattle.told_rights.proofs.elements.element_at.Goals as goal

pub returns-in-Key : goal.returns-in-Key
returns-in-Key c =
    let first : ◌≡◌ {A = List ℕ × ℕ} (c.as_str.result.now, 1) (c.in-Key.key, 1) = λ i. (c.as_str.ensures i, 1) in
    first ∙ ap (λ x. entry_of (element_view x)) (sym c.in-Key.is) ∙ read_at (value_view c.args.value.now) c.in-Elements.elements.items c.args.index c.index.result.now (ap value_view c.in-Elements.is) c.requires c.index.ensures

pub returns-in-Counted : goal.returns-in-Counted
returns-in-Counted c =
    let first : ◌≡◌ {A = List ℕ × ℕ} (c.as_str-in-Counted.result.now, c.from.result) (c.in-Counted.key, c.in-Counted.count) = λ i. (c.as_str-in-Counted.ensures i, c.from.ensures i) in
    first ∙ ap (λ x. entry_of (element_view x)) (sym c.in-Counted.is) ∙ read_at (value_view c.args.value.now) c.in-Elements.elements.items c.args.index c.index.result.now (ap value_view c.in-Elements.is) c.requires c.index.ensures
