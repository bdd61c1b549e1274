use Rattle.std.proofs.Common.{◌≡◌, ◌<◌, ◌^◌, ◌++◌, ℕ, List, Some, map, sym}
use Rattle.std.specs.Fmt.{decimal}
use Rattle.std.specs.Prelude.{codes}
use Rattle.serde_json.specs.Data as json
use Rattle.serde_json.specs.Find.{get_member}
use Rattle.serde_json.specs.View.{members_view, view}
use Rattle.row_reader.proofs.Faults.{passes}
use Rattle.row_reader.proofs.Named.{no_object, no_text}
use Rattle.row_reader.proofs.ValueParts.{no_names}
use Rattle.row_records.specs.Views.{amount_view, open_view}
use Rattle.turn_records.specs.Printed.{printed_rule}
use Rattle.turn_rows.specs.Form.{AreAmounts, HasExitRuleForm, HasOpeningForm}
use Rattle.turn_rows.specs.Rows.{amounts_json, exit_rule_json, open_row, whole}
use Rattle.turn_rows.specs.Turns.{ExitRule, KeywordAmount}
use Rattle.row_reader.proofs.EventParts.{apart_back, apart_is, data_same, got, members_same, named, no_apart, no_found, open_is, text_same}
use Rattle.row_reader.proofs.events.open_of.Goals as goal

pub returns-then-not-has_names : goal.returns-then-not-has_names
returns-then-not-has_names c = λ x form same. no_names c.has_names.result _ _ c.has_names.ensures.1 c.if-not-has_names.true (named _ _ same)

pub returns-in_default : goal.returns-in_default
returns-in_default c = λ x form same. no_object _ _ c.in_default.ensures (got (codes "give") _ _ same)

pub returns-in_default-members_at : goal.returns-in_default-members_at
returns-in_default-members_at c = λ x form same. no_object _ _ c.in_default-members_at.ensures (got (codes "want") _ _ same)

pub returns-in_default-text_at : goal.returns-in_default-text_at
returns-in_default-text_at c = λ x form same. no_text _ _ c.in_default-text_at.ensures (got (codes "instance") _ _ same)

pub returns-in_default-member : goal.returns-in_default-member
returns-in_default-member c = λ x form same. no_found _ _ c.in_default-member.ensures (got (codes "exit") _ _ same)

pub returns-then-not-are_apart : goal.returns-then-not-are_apart
returns-then-not-are_apart c = λ x form same.
    no_apart c.are_apart.result _ c.are_apart.ensures.1 c.if-not-are_apart.true
    (apart_back x.give x.want _ _ (members_same _ _ _ c.in-Some.ensures (got (codes "give") _ _ same)) (members_same _ _ _ c.in-Some-members_at.ensures (got (codes "want") _ _ same)) form.apart)

pub returns-in_err-seat : goal.returns-in_err-seat
returns-in_err-seat c =
    passes open_row (HasOpeningForm c.args.edition) open_view (json.object (members_view c.args.members.now.entries)) c.from_residual.result c.in_err-seat.field-0.0
    ((n : ℕ) → n < 2 ^ 32 → Some (whole n) ≡ get_member (codes "seat") (members_view c.args.members.now.entries) → ⊥) c.from_residual.ensures.1 c.in_err-seat.ensures
    (λ none x form same. none x.seat form.seat (sym (got (codes "seat") _ _ same)))

pub returns-in_err-instance : goal.returns-in_err-instance
returns-in_err-instance c =
    passes open_row (HasOpeningForm c.args.edition) open_view (json.object (members_view c.args.members.now.entries)) c.from_residual-in_err-instance.result c.in_err-instance.field-0.0
    ((n : ℕ) → n < 2 ^ 32 → codes "instance" ++ decimal n ≡ c.in-Some-text_at.instance.now → ⊥) c.from_residual-in_err-instance.ensures.1 c.in_err-instance.ensures
    (λ none x form same. none x.instance form.instance (text_same _ _ _ c.in-Some-text_at.ensures (got (codes "instance") _ _ same)))

pub returns-in_err-exit : goal.returns-in_err-exit
returns-in_err-exit c =
    passes open_row (HasOpeningForm c.args.edition) open_view (json.object (members_view c.args.members.now.entries)) c.from_residual-in_err-exit.result c.in_err-exit.field-0.0
    ((r : ExitRule) → HasExitRuleForm r → exit_rule_json r ≡ view c.in-Some-member.exit.now → ⊥) c.from_residual-in_err-exit.ensures.1 c.in_err-exit.ensures
    (λ none x form same. none x.exit form.exit (data_same _ _ _ c.in-Some-member.ensures (got (codes "exit") _ _ same)))

pub returns-in_err-give : goal.returns-in_err-give
returns-in_err-give c =
    passes open_row (HasOpeningForm c.args.edition) open_view (json.object (members_view c.args.members.now.entries)) c.from_residual-in_err-give.result c.in_err-give.field-0.0
    ((rs : List KeywordAmount) → AreAmounts c.args.edition rs → amounts_json rs ≡ members_view c.in-Some.give.now.entries → ⊥) c.from_residual-in_err-give.ensures.1 c.in_err-give.ensures
    (λ none x form same. none x.give form.give (members_same _ _ _ c.in-Some.ensures (got (codes "give") _ _ same)))

pub returns-in_err-want : goal.returns-in_err-want
returns-in_err-want c =
    passes open_row (HasOpeningForm c.args.edition) open_view (json.object (members_view c.args.members.now.entries)) c.from_residual-in_err-want.result c.in_err-want.field-0.0
    ((rs : List KeywordAmount) → AreAmounts c.args.edition rs → amounts_json rs ≡ members_view c.in-Some-members_at.want.now.entries → ⊥) c.from_residual-in_err-want.ensures.1 c.in_err-want.ensures
    (λ none x form same. none x.want form.want (members_same _ _ _ c.in-Some-members_at.ensures (got (codes "want") _ _ same)))

pub returns : goal.returns
returns c = (
  open_is (record { seat = c.in_ok-seat.seat; instance = c.in_ok-instance.instance; give = map amount_view c.in_ok-give.give.items; want = map amount_view c.in_ok-want.want.items; exit = printed_rule c.in_ok-exit.exit }) (members_view c.args.members.now.entries) (view c.in-Some-member.exit.now) (members_view c.in-Some.give.now.entries) (members_view c.in-Some-members_at.want.now.entries) c.in-Some-text_at.instance.now
      (c.has_names.ensures.0 c.if-not-has_names.false) c.requires c.in-Some-member.ensures c.in-Some.ensures c.in-Some-text_at.ensures c.in_ok-seat.ensures.0 c.in-Some-members_at.ensures
      c.in_ok-exit.ensures.0 c.in_ok-give.ensures.0 c.in_ok-instance.ensures.0 c.in_ok-want.ensures.0,
  record {
    seat = c.in_ok-seat.ensures.1;
    instance = c.in_ok-instance.ensures.1;
    give = c.in_ok-give.ensures.1;
    want = c.in_ok-want.ensures.1;
    apart = apart_is (map amount_view c.in_ok-give.give.items) (map amount_view c.in_ok-want.want.items) _ _ c.in_ok-give.ensures.0 c.in_ok-want.ensures.0 (c.are_apart.ensures.0 c.if-not-are_apart.false);
    exit = c.in_ok-exit.ensures.1;
  },
)
