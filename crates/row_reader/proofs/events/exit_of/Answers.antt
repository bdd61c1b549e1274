use Rattle.std.proofs.Common.{◌≡◌, ◌<◌, ◌^◌, ◌++◌, ℕ, List, Some, sym}
use Rattle.std.specs.Fmt.{decimal}
use Rattle.std.specs.Prelude.{codes}
use Rattle.serde_json.specs.Data as json
use Rattle.serde_json.specs.Find.{get_member}
use Rattle.serde_json.specs.View.{members_view, view}
use Rattle.row_reader.proofs.Faults.{passes}
use Rattle.row_reader.proofs.Named.{no_object, no_text}
use Rattle.row_reader.proofs.ValueParts.{no_names}
use Rattle.row_records.specs.Views.{exit_view}
use Rattle.turn_rows.specs.Causes.{Cause, cause_word}
use Rattle.turn_rows.specs.Form.{HasExitForm}
use Rattle.turn_rows.specs.Rows.{exit_row, payouts_json, whole}
use Rattle.turn_rows.specs.Turns.{Payout}
use Rattle.row_reader.proofs.EventParts.{exit_is, got, members_same, named, text_same}
use Rattle.row_reader.specs.Amounts.{ArePayouts}
use Rattle.row_reader.specs.Reads.{IsAny}
use Rattle.row_reader.proofs.events.exit_of.Goals as goal

pub returns-then-not-has_names : goal.returns-then-not-has_names
returns-then-not-has_names c = λ x form same. no_names c.has_names.result _ _ c.has_names.ensures.1 c.if-not-has_names.true (named _ _ same)

pub returns-in_default : goal.returns-in_default
returns-in_default c = λ x form same. no_text _ _ c.in_default.ensures (got (codes "cause") _ _ same)

pub returns-in_default-members_at : goal.returns-in_default-members_at
returns-in_default-members_at c = λ x form same. no_object _ _ c.in_default-members_at.ensures (got (codes "payouts") _ _ same)

pub returns-in_err-seat : goal.returns-in_err-seat
returns-in_err-seat c =
    passes exit_row HasExitForm exit_view (json.object (members_view c.args.members.now.entries)) c.from_residual.result c.in_err-seat.field-0.0
    ((n : ℕ) → n < 2 ^ 32 → Some (whole n) ≡ get_member (codes "seat") (members_view c.args.members.now.entries) → ⊥) c.from_residual.ensures.1 c.in_err-seat.ensures
    (λ none x form same. none x.seat form.seat (sym (got (codes "seat") _ _ same)))

pub returns-in_err-cause : goal.returns-in_err-cause
returns-in_err-cause c =
    passes exit_row HasExitForm exit_view (json.object (members_view c.args.members.now.entries)) c.from_residual-in_err-cause.result c.in_err-cause.field-0.0
    ((w : Cause) → IsAny w → cause_word w ≡ c.in-Some.cause.now → ⊥) c.from_residual-in_err-cause.ensures.1 c.in_err-cause.ensures
    (λ none x form same. none x.cause tt (text_same _ _ _ c.in-Some.ensures (got (codes "cause") _ _ same)))

pub returns-in_err-payouts : goal.returns-in_err-payouts
returns-in_err-payouts c =
    passes exit_row HasExitForm exit_view (json.object (members_view c.args.members.now.entries)) c.from_residual-in_err-payouts.result c.in_err-payouts.field-0.0
    ((ps : List Payout) → ArePayouts ps → payouts_json ps ≡ members_view c.in-Some-members_at.payouts.now.entries → ⊥) c.from_residual-in_err-payouts.ensures.1 c.in_err-payouts.ensures
    (λ none x form same. none x.payouts (record { keywords = form.keywords; payments = form.payments; rising = form.rising }) (members_same _ _ _ c.in-Some-members_at.ensures (got (codes "payouts") _ _ same)))

pub returns : goal.returns
returns c = (
  exit_is _ (members_view c.args.members.now.entries) c.in-Some.cause.now (members_view c.in-Some-members_at.payouts.now.entries) (c.has_names.ensures.0 c.if-not-has_names.false) c.requires c.in-Some.ensures c.in-Some-members_at.ensures
      c.in_ok-seat.ensures.0 c.in_ok-cause.ensures.0 c.in_ok-payouts.ensures.0,
  record { seat = c.in_ok-seat.ensures.1; keywords = c.in_ok-payouts.ensures.1.keywords; payments = c.in_ok-payouts.ensures.1.payments; rising = c.in_ok-payouts.ensures.1.rising },
)
