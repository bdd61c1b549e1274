use Rattle.std.proofs.Common.{List, ℕ, String, string_bytes, subst, sym, ◌∙◌}
use Rattle.serde_json.specs.Data.{Data, Items, Members}
use Rattle.serde_json.specs.View.{items_view, members_view, view}
use Rattle.turn_records.specs.Views.{how_view}
use Rattle.turn_rows.specs.Form.{AreData, IsCalled}
use Rattle.turn_rows.specs.Turns.{Call}
use Rattle.row_records.specs.Views.{answer_view}
use Rattle.row_reader.proofs.CallRows.{AreCallParts, call_form, call_is}
use Rattle.row_reader.proofs.Clones.{items_copied}
use Rattle.row_reader.proofs.Named.{items_found, text_found}
use Rattle.row_reader.proofs.calls.call_of.Goals as goal

pub returns : goal.returns
returns c =
    let ms : Members = members_view c.args.members.now.entries in
    let on : List ℕ = c.in-Some-text_at.on.now in
    let method : List ℕ = c.in-Some-text_at-2.method.now in
    let args : Items = items_view c.in-Some-items_at.arguments.now.items in
    let parts : AreCallParts ms c.in-Some.word.now on method args (view c.in-Some-member.answer.now) = record {
      has_how = text_found _ _ c.in-Some.ensures;
      has_on = text_found _ _ c.in-Some-text_at.ensures;
      has_method = text_found _ _ c.in-Some-text_at-2.ensures;
      has_arguments = items_found _ _ c.in-Some-items_at.ensures;
      has_answer = sym c.in-Some-member.ensures;
    } in
    let x : Call = record {
      how = how_view c.in_ok-how.how;
      on = string_bytes c.in_ok-from_str.field-0;
      method = string_bytes c.in_ok-from_str-2.field-0;
      arguments = items_view c.in_ok-clone.field-0.items;
      answer = answer_view c.in_ok-answer.answer;
    } in
    let items = items_copied c.in-Some-items_at.arguments.now.items c.in_ok-clone.field-0.items c.in_ok-clone.ensures.cases.0 in
    let called : IsCalled (how_view c.in_ok-how.how) on method args =
    subst (λ vs. IsCalled (how_view c.in_ok-how.how) on method (items_view vs)) c.as_slice.ensures.value (c.is_called.ensures.0 c.if-not-is_called.false) in
    let all : AreData args = subst (λ vs. AreData (items_view vs)) c.as_slice-2.ensures.value (c.are_data.ensures.0 c.if-not-are_data.false) in (
      call_is ms c.in-Some.word.now on method args (view c.in-Some-member.answer.now) parts (c.has_names.ensures.0 c.if-not-has_names.false) c.requires
          x c.in_ok-how.ensures.0 c.in_ok-from_str.ensures.ok c.in_ok-from_str-2.ensures.ok items c.in_ok-answer.ensures.0,
      call_form x on method args c.in_ok-from_str.ensures.ok c.in_ok-from_str-2.ensures.ok items called all
          (c.is_call_answer.ensures.0 c.if-not-is_call_answer.false) c.in_ok-answer.ensures.1,
    )
