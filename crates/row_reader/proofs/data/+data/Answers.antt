use Rattle.std.proofs.Common.{◌≡◌, ◌∷◌, [], ◌++◌, true, false, sym, ap, subst, ◌∙◌, append_assoc, append-nil, string_bytes, refl}
use Rattle.std.proofs.lemmas.List.{take_all}
use Rattle.serde_json.specs.View.{members_view, view}
use Rattle.turn_rows.specs.Form.{AreFields}
use Rattle.turn_rows.specs.host_text.Words.{is_field_name}
use Rattle.row_reader.proofs.DataForm.{Entry, more_data, more_fields, names_rise, no, no_by, no_data, no_fields, yes}
use Rattle.row_reader.proofs.data.+data.Goals as goal

pub are_data-returns-then-not-is_data : goal.are_data-returns-then-not-is_data
are_data-returns-then-not-is_data t c =
    no (no_data c.args.items.now _ c.item-item.result c.loop-item-test.true c.item-item.is
    (no_by c.is_data.result c.is_data.ensures c.if-not-is_data.true))

pub are_data-loop-item-preserved : goal.are_data-loop-item-preserved
are_data-loop-item-preserved t c =
    more_data _ c.loop-item.item-index _ c.item-item.result refl c.loop-item-test.true c.item-item.is c.loop-item.invariant
    (c.is_data.ensures.0 c.if-not-is_data.false)

pub are_data-returns : goal.are_data-returns
are_data-returns t c = yes (rw (take_all _ _ c.loop-item-test.false) at c.loop-item.invariant)

pub are_fields-returns-then-not-is_field_name : goal.are_fields-returns-then-not-is_field_name
are_fields-returns-then-not-is_field_name t c =
    let bad : is_field_name (string_bytes c.in-Some.name.now) ≡ false =
    rw c.as_bytes.ensures.value at (sym c.is_field_name.ensures ∙ c.if-not-is_field_name.true) in
    let done = c.loop-name.invariant.0 in
    let e : Entry = (c.in-Some.name.now, c.in-Some.value.now) in
    let all : c.args.members.now.entries ≡ done ++ e ∷ c.next.new.self = c.loop-name.invariant.1 ∙ ap (λ es. done ++ es) c.in-Some.ensures.steps in
    no (λ h. no_fields done e c.next.new.self (λ good one. let both : false ≡ true = sym bad ∙ good in absurd (cc))
    (subst (λ es. AreFields (members_view es)) all h.0))

pub are_fields-returns-then-not-is_data : goal.are_fields-returns-then-not-is_data
are_fields-returns-then-not-is_data t c =
    let done = c.loop-name.invariant.0 in
    let e : Entry = (c.in-Some.name.now, c.in-Some.value.now) in
    let all : c.args.members.now.entries ≡ done ++ e ∷ c.next.new.self = c.loop-name.invariant.1 ∙ ap (λ es. done ++ es) c.in-Some.ensures.steps in
    no (λ h. no_fields done e c.next.new.self (λ good. no_by c.is_data.result c.is_data.ensures c.if-not-is_data.true)
    (subst (λ es. AreFields (members_view es)) all h.0))

pub are_fields-loop-name-preserved : goal.are_fields-loop-name-preserved
are_fields-loop-name-preserved t c =
    let good : is_field_name (string_bytes c.in-Some.name.now) ≡ true =
    rw c.as_bytes.ensures.value at (sym c.is_field_name.ensures ∙ c.if-not-is_field_name.false) in
    let done = c.loop-name.invariant.0 in
    let e : Entry = (c.in-Some.name.now, c.in-Some.value.now) in
    let all : c.args.members.now.entries ≡ done ++ e ∷ c.next.new.self = c.loop-name.invariant.1 ∙ ap (λ es. done ++ es) c.in-Some.ensures.steps in (
      done ++ e ∷ [],
      all ∙ sym (append_assoc done (e ∷ []) c.next.new.self),
      more_fields done e c.loop-name.invariant.2 good (c.is_data.ensures.0 c.if-not-is_data.false),
    )

pub are_fields-returns : goal.are_fields-returns
are_fields-returns t c =
    let all : c.args.members.now.entries ≡ c.loop-name.invariant.0 = c.loop-name.invariant.1 ∙ ap (λ es. c.loop-name.invariant.0 ++ es) c.in-None.ensures.steps.0 ∙ append-nil c.loop-name.invariant.0 in
    yes (subst (λ es. AreFields (members_view es)) (sym all) c.loop-name.invariant.2, names_rise _ c.iter-name-items.ensures.ordered)
