use Rattle.std.proofs.Common.{◌≡◌, true, false, sym, ◌∙◌}
use Rattle.std.proofs.lemmas.Bool.{true≢false}
use Rattle.row_records.specs.Views.{move_view}
use Rattle.told_rights.proofs.Counts.{if_ok}
use Rattle.told_rights.proofs.Told.{may_passed, may_there, passed_may}
use Rattle.told_rights.proofs.rights.Rights.may_move.Goals as goal

pub returns-then-passes : goal.returns-then-passes
returns-then-passes c =
    let k = c.args.self.now in
    let m = move_view c.args.row.now in
    if_ok c.is_there.result _ _
    (λ there h i t. (λ x. passed_may k i m t (c.passes.ensures.0 c.if-passes.true) (h.0 x), λ may. h.1 (may_there k i m t may)))
    (c.is_there.ensures c.requires.form.0 c.requires.form.1.3)

pub returns-else-passes : goal.returns-else-passes
returns-else-passes c = λ i t. (
  λ f. absurd (true≢false (sym f)),
  λ may. absurd (true≢false (sym (c.passes.ensures.1 (may_passed c.args.self.now i (move_view c.args.row.now) t may)) ∙ c.if-passes.false)),
)
