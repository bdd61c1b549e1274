use Rattle.std.proofs.Common.{◌≡◌, ◌<◌, ◌^◌, ℕ, List, true, None}
use Rattle.std.specs.Prelude.{codes}
use Rattle.serde_json.specs.Data as json
use Rattle.serde_json.specs.View.{members_view, view}
use Rattle.row_records.specs.Views.{amount_view, value_view}
use Rattle.turn_rows.specs.Form.{HasAmountForm, HasValueForm}
use Rattle.turn_rows.specs.Rows.{brand_name, only, value_json}
use Rattle.turn_rows.specs.Turns.{Value}
use Rattle.turn_rows.specs.host_text.Words.{is_keyword}
use Rattle.row_reader.specs.Amounts.{amount_pair}
use Rattle.row_reader.proofs.Faults.{passes}
use Rattle.row_reader.proofs.ValueParts.{amount_is, its_brand, its_names, its_value, its_word, member_same, no_member, no_names, no_object}
use Rattle.row_reader.proofs.amounts.amount_of.Goals as goal

pub returns-in_default : goal.returns-in_default
returns-in_default c = λ a form same. no_object a c.args.keyword.now (view c.args.value.now) same c.in_default.ensures

pub returns-then-not-has_names : goal.returns-then-not-has_names
returns-then-not-has_names c = λ a form same.
    no_names c.has_names.result _ _ c.has_names.ensures.1 c.if-not-has_names.true (its_names a c.args.keyword.now (view c.args.value.now) same (members_view c.in-Some.members.now.entries) c.in-Some.ensures)

pub returns-in_default-member : goal.returns-in_default-member
returns-in_default-member c = λ a form same.
    no_member a c.args.keyword.now (view c.args.value.now) same (members_view c.in-Some.members.now.entries) c.in-Some.ensures None (codes "brand") _
    (its_brand a c.args.keyword.now (view c.args.value.now) same (members_view c.in-Some.members.now.entries) c.in-Some.ensures) c.in_default-member.ensures

pub returns-in_default-member-2 : goal.returns-in_default-member-2
returns-in_default-member-2 c = λ a form same.
    no_member a c.args.keyword.now (view c.args.value.now) same (members_view c.in-Some.members.now.entries) c.in-Some.ensures None (codes "value") _
    (its_value a c.args.keyword.now (view c.args.value.now) same (members_view c.in-Some.members.now.entries) c.in-Some.ensures) c.in_default-member-2.ensures

pub returns-in_err-brand : goal.returns-in_err-brand
returns-in_err-brand c =
    passes amount_pair (HasAmountForm c.args.edition) amount_view (c.args.keyword.now, view c.args.value.now) c.from_residual.result c.in_err-brand.field-0.0
    ((n : ℕ) → n < 2 ^ 16 → only (codes "@") (json.string (brand_name n)) ≡ view c.in-Some-member.brand.now → ⊥) c.from_residual.ensures.1 c.in_err-brand.ensures
    (λ none a form same.
    none a.brand form.brand (member_same _ _ _ (its_brand a c.args.keyword.now (view c.args.value.now) same (members_view c.in-Some.members.now.entries) c.in-Some.ensures) c.in-Some-member.ensures))

pub returns-in_err-keyword : goal.returns-in_err-keyword
returns-in_err-keyword c =
    passes amount_pair (HasAmountForm c.args.edition) amount_view (c.args.keyword.now, view c.args.value.now) c.from_residual-in_err-keyword.result c.in_err-keyword.field-0.0
    ((k : List ℕ) → is_keyword k ≡ true → k ≡ c.args.keyword.now → ⊥) c.from_residual-in_err-keyword.ensures.1 c.in_err-keyword.ensures
    (λ none a form same. none a.keyword form.keyword (its_word a c.args.keyword.now (view c.args.value.now) same))

pub returns-in_err-value : goal.returns-in_err-value
returns-in_err-value c =
    passes amount_pair (HasAmountForm c.args.edition) amount_view (c.args.keyword.now, view c.args.value.now) c.from_residual-in_err-value.result c.in_err-value.field-0.0
    ((v : Value) → HasValueForm c.args.edition v → value_json v ≡ view c.in-Some-member-2.value.now → ⊥) c.from_residual-in_err-value.ensures.1 c.in_err-value.ensures
    (λ none a form same.
    none a.value form.value (member_same _ _ _ (its_value a c.args.keyword.now (view c.args.value.now) same (members_view c.in-Some.members.now.entries) c.in-Some.ensures) c.in-Some-member-2.ensures))

pub returns : goal.returns
returns c = (
  amount_is _ c.args.keyword.now _ (value_view c.in_ok-value.value) (view c.args.value.now) (members_view c.in-Some.members.now.entries) _ _ c.in_ok-keyword.ensures.0 c.in-Some.ensures (c.has_names.ensures.0 c.if-not-has_names.false)
      c.in-Some-member.ensures c.in-Some-member-2.ensures c.in_ok-brand.ensures.0 c.in_ok-value.ensures.0,
  record { keyword = c.in_ok-keyword.ensures.1; brand = c.in_ok-brand.ensures.1; value = c.in_ok-value.ensures.1 },
)
