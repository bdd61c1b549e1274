use Rattle.std.proofs.Common.{◌≡◌, ℕ, Bool, true, false, List, map, refl, sym, subst, ◌∙◌, inl, inr, ◌⊎◌}
use Rattle.std.specs.Prelude.{◌↔◌}
use Rattle.std.specs.List.{AllByRecursion}
use Rattle.std.proofs.lemmas.Result.{IfOk-weaker}
use Rattle.row_records.specs.Views.{amount_view}
use Rattle.row_records.specs.declared.rows.KeywordAmount.{KeywordAmount}
use Rattle.row_records.specs.fair_rows.Seats.{IsCovered}
use Rattle.row_records.specs.rights_model.Table.{Table}
use Rattle.row_records.specs.turn_rows.Form.{HasAmountForm}
use Rattle.row_records.specs.turn_rows.declared.editions.Edition.{Edition}
use Rattle.told_seats.proofs.covered.is_covered_by.Goals as goal

-- a test of amounts that are the same
moved_test : (e : Edition) (t : Table) (seat : ℕ) (b : Bool) (xs ys : List KeywordAmount) → xs ≡ ys
    → (AllByRecursion (HasAmountForm e) (map amount_view xs) → b ≡ true ↔ AllByRecursion (IsCovered t seat) (map amount_view xs))
    → AllByRecursion (HasAmountForm e) (map amount_view ys) → b ≡ true ↔ AllByRecursion (IsCovered t seat) (map amount_view ys)
moved_test e t seat b xs ys is =
    subst (λ (zs : List KeywordAmount). (AllByRecursion (HasAmountForm e) (map amount_view xs) → b ≡ true ↔ AllByRecursion (IsCovered t seat) (map amount_view xs)) → AllByRecursion (HasAmountForm e) (map amount_view zs) → b ≡ true ↔ AllByRecursion (IsCovered t seat) (map amount_view zs))
    is (λ h. h)

second : (W G : Type 0) (a b : Bool) → (a ≡ true ↔ W) → a ≡ false → (b ≡ true ↔ G) → b ≡ true ↔ W ⊎ G
second W G a b first away more = (
  λ h. inr (more.0 h),
  λ either. elim either [ inl w ↦ (let clash : false ≡ true = sym away ∙ first.1 w in absurd (cc)) | inr g ↦ more.1 g ],
)

pub returns-then-branch : goal.returns-then-branch
returns-then-branch c = λ e want give i t.
    (λ h. inl ((moved_test e i.now.table c.args.seat c.in_ok-are_covered.field-0 c.as_slice.result.now c.args.promised.now.want.items c.as_slice.ensures.value (λ form. c.in_ok-are_covered.ensures e form i t) want).0 c.if-branch.true), λ h. refl)

pub returns : goal.returns
returns c =
    IfOk-weaker c.are_covered-2.result _ _
    (λ is more e want give i t.
    second _ _ c.in_ok-are_covered.field-0 is
    (moved_test e i.now.table c.args.seat c.in_ok-are_covered.field-0 c.as_slice.result.now c.args.promised.now.want.items c.as_slice.ensures.value (λ form. c.in_ok-are_covered.ensures e form i t) want) c.if-branch.false
    (moved_test e i.now.table c.args.seat is c.as_slice-2.result.now c.args.promised.now.give.items c.as_slice-2.ensures.value (λ form. more e form i t) give))
    c.are_covered-2.ensures
