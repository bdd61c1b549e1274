use Rattle.std.proofs.Common.{◌≡◌, ◌∷◌, [], ◌++◌, Some, None, true, false, map, sym, ap, ◌∙◌, append_assoc, append-nil, string_bytes}
use Rattle.std.proofs.lemmas.List.{take_all, map-append}
use Rattle.serde_json.specs.View.{view}
use Rattle.turn_records.specs.host_text.Words.{is_field_name}
use Rattle.message_lines.specs.Arguments.{part_in}
use Rattle.turn_records.specs.Views.{part_view}
use Rattle.message_lines.proofs.ReadParts.{Entry, entry_part, named_part, member_part, parts_in-all, parts_in-none, fields_in-all, fields_in-none}
use Rattle.message_lines.proofs.arguments.+read.Goals as goal

pub read_items-returns-in-None : goal.read_items-returns-in-None
read_items-returns-in-None t c =
    let none : part_in (view c.item-item.result) ≡ None = sym (rw c.in-None.is at c.in_ok-part.ensures) in
    sym (parts_in-none c.args.items.now.items _ c.item-item.result (rw c.deref-item-items.ensures.value at c.loop-item-test.true)
    (rw c.deref-item-items.ensures.value at c.item-item.is) none)

pub read_items-returns : goal.read_items-returns
read_items-returns t c =
    let all : map (λ v. part_in (view v)) c.args.items.now.items ≡ map (λ p. Some (part_view p)) c.loop-item.parts.items =
    rw c.deref-item-items.ensures.value at (rw (take_all _ _ c.loop-item-test.false) at c.loop-item.invariant) in
    sym (parts_in-all _ _ all)

pub read_fields-returns-then-not-is_field_name : goal.read_fields-returns-then-not-is_field_name
read_fields-returns-then-not-is_field_name t c =
    let bad : is_field_name (string_bytes c.in-Some.name.now) ≡ false = rw c.as_bytes.ensures.value at (sym c.is_field_name.ensures ∙ c.if-not-is_field_name.true) in
    let none : member_part (string_bytes c.in-Some.name.now) (view c.in-Some.value.now) ≡ None = rw bad in
    let done = c.loop-name.invariant.0 in
    let e : Entry = (c.in-Some.name.now, c.in-Some.value.now) in
    let all : c.args.members.now.entries ≡ done ++ e ∷ c.next.new.self = c.loop-name.invariant.1 ∙ ap (λ es. done ++ es) c.in-Some.ensures.steps in
    sym (rw all (fields_in-none done e c.next.new.self none))

pub read_fields-loop-name-preserved : goal.read_fields-loop-name-preserved
read_fields-loop-name-preserved t c =
    let good : is_field_name (string_bytes c.in-Some.name.now) ≡ true = rw c.as_bytes.ensures.value at (sym c.is_field_name.ensures ∙ c.if-not-is_field_name.false) in
    let done = c.loop-name.invariant.0 in
    let e : Entry = (c.in-Some.name.now, c.in-Some.value.now) in
    let all : c.args.members.now.entries ≡ done ++ e ∷ c.next.new.self = c.loop-name.invariant.1 ∙ ap (λ es. done ++ es) c.in-Some.ensures.steps in
    let name : c.in_ok-name-in-Some-2.name ≡ string_bytes c.in-Some.name.now = c.in_ok-name-in-Some-2.ensures ∙ c.as_str.ensures.value in
    let one : entry_part e ≡ named_part (c.in_ok-name-in-Some-2.name, c.in-Some-2.part) =
    let here : part_in (view c.in-Some.value.now) ≡ Some (part_view c.in-Some-2.part) = sym (rw c.in-Some-2.is at c.in_ok-part.ensures) in
    rw (name, good, here) in (
      done ++ e ∷ [],
      all ∙ sym (append_assoc done (e ∷ []) c.next.new.self),
      map-append entry_part done (e ∷ []) ∙ rw (c.loop-name.invariant.2, one, c.in_ok-push-in-Some-2.ensures.items) (sym (map-append named_part c.loop-name.fields.items _)),
    )

pub read_fields-returns-in-None-2 : goal.read_fields-returns-in-None-2
read_fields-returns-in-None-2 t c =
    let good : is_field_name (string_bytes c.in-Some.name.now) ≡ true = rw c.as_bytes.ensures.value at (sym c.is_field_name.ensures ∙ c.if-not-is_field_name.false) in
    let here : part_in (view c.in-Some.value.now) ≡ None = sym (rw c.in-None-2.is at c.in_ok-part.ensures) in
    let none : member_part (string_bytes c.in-Some.name.now) (view c.in-Some.value.now) ≡ None = rw (good, here) in
    let done = c.loop-name.invariant.0 in
    let e : Entry = (c.in-Some.name.now, c.in-Some.value.now) in
    let all : c.args.members.now.entries ≡ done ++ e ∷ c.next.new.self = c.loop-name.invariant.1 ∙ ap (λ es. done ++ es) c.in-Some.ensures.steps in
    sym (rw all (fields_in-none done e c.next.new.self none))

pub read_fields-returns : goal.read_fields-returns
read_fields-returns t c =
    let all : c.args.members.now.entries ≡ c.loop-name.invariant.0 = c.loop-name.invariant.1 ∙ ap (λ es. c.loop-name.invariant.0 ++ es) c.in-None.ensures.steps.0 ∙ append-nil c.loop-name.invariant.0 in
    sym (rw all (fields_in-all _ _ c.loop-name.invariant.2))
