use Rattle.std.proofs.Common.{◌<◌, ◌^◌, List, ℕ, String, string_bytes, refl, rules, subst, sym, ◌∙◌}
use Rattle.serde_json.specs.Data.{Data, Items, Members}
use Rattle.serde_json.specs.View.{items_view, members_view, view}
use Rattle.turn_rows.specs.Form.{AreData, IsAnswerOf, IsDelivered}
use Rattle.turn_rows.specs.Turns.{Turn}
use Rattle.std.proofs.Common.{[]}
use Rattle.row_records.specs.Views.{answer_view, kind_view}
use Rattle.row_reader.proofs.Clones.{items_copied}
use Rattle.row_reader.proofs.DataForm.{no_by}
use Rattle.row_reader.proofs.Named.{items_found, text_found, whole_found}
use Rattle.row_reader.proofs.TurnRows.{AreTurnParts, bad_answered, bad_delivered, turn_form, turn_is}
use Rattle.row_reader.proofs.turn_lines.turn_of.Goals as goal

pub returns-then-not-is_delivered : goal.returns-then-not-is_delivered
returns-then-not-is_delivered c =
    let ms : Members = members_view c.args.members.now.entries in
    let by : List ℕ = c.in-Some-text_at.by.now in
    let on : List ℕ = c.in-Some-text_at-2.on.now in
    let method : List ℕ = c.in-Some-text_at-3.method.now in
    let args : Items = items_view c.in-Some-items_at.arguments.now.items in
    let parts : AreTurnParts ms c.in-Some.word.now by on method args c.in-Some-whole_at.number (view c.in-Some-member.answer.now) = record {
      has_kind = text_found _ _ c.in-Some.ensures;
      has_by = text_found _ _ c.in-Some-text_at.ensures;
      has_on = text_found _ _ c.in-Some-text_at-2.ensures;
      has_method = text_found _ _ c.in-Some-text_at-3.ensures;
      has_arguments = items_found _ _ c.in-Some-items_at.ensures;
      has_number = whole_found _ _ c.in-Some-whole_at.ensures;
      has_answer = sym c.in-Some-member.ensures;
    } in
    bad_delivered ms c.in-Some.word.now by on method args c.in-Some-whole_at.number (view c.in-Some-member.answer.now) parts
    (kind_view c.in_ok-kind.kind) c.in_ok-kind.ensures.0
    (λ h. no_by c.is_delivered.result c.is_delivered.ensures c.if-not-is_delivered.true
    (subst (λ vs. IsDelivered (kind_view c.in_ok-kind.kind) by on method (items_view vs)) (sym c.as_slice.ensures.value) h))

pub returns-then-not-is_answer_of : goal.returns-then-not-is_answer_of
returns-then-not-is_answer_of c =
    let ms : Members = members_view c.args.members.now.entries in
    let by : List ℕ = c.in-Some-text_at.by.now in
    let on : List ℕ = c.in-Some-text_at-2.on.now in
    let method : List ℕ = c.in-Some-text_at-3.method.now in
    let args : Items = items_view c.in-Some-items_at.arguments.now.items in
    let parts : AreTurnParts ms c.in-Some.word.now by on method args c.in-Some-whole_at.number (view c.in-Some-member.answer.now) = record {
      has_kind = text_found _ _ c.in-Some.ensures;
      has_by = text_found _ _ c.in-Some-text_at.ensures;
      has_on = text_found _ _ c.in-Some-text_at-2.ensures;
      has_method = text_found _ _ c.in-Some-text_at-3.ensures;
      has_arguments = items_found _ _ c.in-Some-items_at.ensures;
      has_number = whole_found _ _ c.in-Some-whole_at.ensures;
      has_answer = sym c.in-Some-member.ensures;
    } in
    bad_answered ms c.in-Some.word.now by on method args c.in-Some-whole_at.number (view c.in-Some-member.answer.now) parts
    (kind_view c.in_ok-kind.kind) c.in_ok-kind.ensures.0 (answer_view c.in_ok-answer.answer) c.in_ok-answer.ensures.0
    (no_by c.is_answer_of.result c.is_answer_of.ensures c.if-not-is_answer_of.true)

pub returns : goal.returns
returns c =
    let ms : Members = members_view c.args.members.now.entries in
    let by : List ℕ = c.in-Some-text_at.by.now in
    let on : List ℕ = c.in-Some-text_at-2.on.now in
    let method : List ℕ = c.in-Some-text_at-3.method.now in
    let args : Items = items_view c.in-Some-items_at.arguments.now.items in
    let parts : AreTurnParts ms c.in-Some.word.now by on method args c.in-Some-whole_at.number (view c.in-Some-member.answer.now) = record {
      has_kind = text_found _ _ c.in-Some.ensures;
      has_by = text_found _ _ c.in-Some-text_at.ensures;
      has_on = text_found _ _ c.in-Some-text_at-2.ensures;
      has_method = text_found _ _ c.in-Some-text_at-3.ensures;
      has_arguments = items_found _ _ c.in-Some-items_at.ensures;
      has_number = whole_found _ _ c.in-Some-whole_at.ensures;
      has_answer = sym c.in-Some-member.ensures;
    } in
    let x : Turn = record {
      number = c.in-Some-whole_at.number;
      kind = kind_view c.in_ok-kind.kind;
      by = string_bytes c.in_ok-from_str.field-0;
      on = string_bytes c.in_ok-from_str-2.field-0;
      method = string_bytes c.in_ok-from_str-3.field-0;
      arguments = items_view c.in_ok-clone.field-0.items;
      answer = answer_view c.in_ok-answer.answer;
      events = [];
      sums = [];
    } in
    let small : c.in-Some-whole_at.number < 2 ^ 64 = search rules in
    let items = items_copied c.in-Some-items_at.arguments.now.items c.in_ok-clone.field-0.items c.in_ok-clone.ensures.cases.0 in
    let delivered : IsDelivered (kind_view c.in_ok-kind.kind) by on method args =
    subst (λ vs. IsDelivered (kind_view c.in_ok-kind.kind) by on method (items_view vs)) c.as_slice.ensures.value (c.is_delivered.ensures.0 c.if-not-is_delivered.false) in
    let all : AreData args = subst (λ vs. AreData (items_view vs)) c.as_slice-2.ensures.value (c.are_data.ensures.0 c.if-not-are_data.false) in (
      turn_is ms c.in-Some.word.now by on method args c.in-Some-whole_at.number (view c.in-Some-member.answer.now) parts (c.has_names.ensures.0 c.if-not-has_names.false) c.requires
          x c.in_ok-kind.ensures.0 c.in_ok-from_str.ensures.ok c.in_ok-from_str-2.ensures.ok c.in_ok-from_str-3.ensures.ok items refl c.in_ok-answer.ensures.0,
      turn_form x by on method args small c.in_ok-from_str.ensures.ok c.in_ok-from_str-2.ensures.ok c.in_ok-from_str-3.ensures.ok items delivered all
          (c.is_answer_of.ensures.0 c.if-not-is_answer_of.false) c.in_ok-answer.ensures.1 refl refl,
    )
