use Rattle.std.proofs.Common.{◌≡◌, ◌<◌, ◌++◌, ◌^◌, ℕ, List, true, Some}
use Rattle.std.specs.Prelude.{codes}
use Rattle.std.specs.Fmt.{decimal}
use Rattle.turn_rows.specs.Form.{HasHolderForm}
use Rattle.turn_rows.specs.Rows.{holder_name}
use Rattle.turn_rows.specs.host_text.Words.{is_keyword}
use Rattle.row_reader.proofs.Faults.{passes}
use Rattle.row_reader.proofs.Slots.{no_seat, no_word, slot_parts, slot_text, slot_whole}
use Rattle.row_reader.proofs.amounts.slot_of.Goals as goal

pub returns-in_default : goal.returns-in_default
returns-in_default c = λ h form same. rw c.in_default.is at (slot_parts c.args.text.now c.split_once.result c.split_once.ensures.cases h form same)

pub returns-in_err-seat : goal.returns-in_err-seat
returns-in_err-seat c =
    passes holder_name HasHolderForm (λ h. h) (codes "seat" ++ c.args.text.now) c.from_residual.result c.in_err-seat.field-0.0 ((n : ℕ) → n < 2 ^ 32 → decimal n ≡ c.in-Some.seat.now → ⊥)
    c.from_residual.ensures.1 c.in_err-seat.ensures
    (λ none h form same. no_seat c.in-Some.seat.now c.in-Some.keyword.now h form (slot_parts c.args.text.now (Some (c.in-Some.seat, c.in-Some.keyword)) c.in-Some.ensures.cases h form same) none)

pub returns-in_err-keyword : goal.returns-in_err-keyword
returns-in_err-keyword c =
    passes holder_name HasHolderForm (λ h. h) (codes "seat" ++ c.args.text.now) c.from_residual-in_err-keyword.result c.in_err-keyword.field-0.0 ((k : List ℕ) → is_keyword k ≡ true → k ≡ c.in-Some.keyword.now → ⊥)
    c.from_residual-in_err-keyword.ensures.1 c.in_err-keyword.ensures
    (λ none h form same. no_word c.in-Some.seat.now c.in-Some.keyword.now h form (slot_parts c.args.text.now (Some (c.in-Some.seat, c.in-Some.keyword)) c.in-Some.ensures.cases h form same) none)

pub returns : goal.returns
returns c = (
  slot_text c.in-Some.seat.now c.in-Some.keyword.now c.args.text.now c.in_ok-seat.seat c.in_ok-keyword.keyword c.in_ok-seat.ensures.0 c.in_ok-keyword.ensures.0
      (slot_whole c.args.text.now (c.in-Some.seat, c.in-Some.keyword) c.in-Some.ensures.cases),
  (c.in_ok-seat.ensures.1, c.in_ok-keyword.ensures.1),
)
