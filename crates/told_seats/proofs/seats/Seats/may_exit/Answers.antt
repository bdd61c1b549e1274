use Rattle.std.proofs.Common.{refl, sym, ◌∙◌}
use Rattle.std.proofs.lemmas.Result.{IfOk-weaker}
use Rattle.row_records.specs.Views.{exit_view}
use Rattle.told_seats.proofs.SeatTests.{exit_caused, exit_has, exit_placed, exit_tested, none_of}
use Rattle.told_seats.proofs.seats.Seats.may_exit.Goals as goal

pub returns-then-not-are_payouts : goal.returns-then-not-are_payouts
returns-then-not-are_payouts c = λ i t r caused. (
  λ h. absurd (cc),
  λ place. (c.if-not-are_payouts.ensures i t.seats r).1 (exit_has i (exit_view c.args.row.now) (exit_placed i.due i (exit_view c.args.row.now) place).1),
)

pub returns-then-not-caused : goal.returns-then-not-caused
returns-then-not-caused c = λ i t r caused. (
  λ h. absurd (cc),
  λ place.
      let fair = (exit_placed i.due i (exit_view c.args.row.now) place).1 in
      sym c.if-not-caused.true ∙ (caused fair.is_open).1 (exit_caused i (exit_view c.args.row.now) fair),
)

pub returns : goal.returns
returns c =
    IfOk-weaker c.is_safe.result _ _
    (λ may safe i t r caused.
    let has = (c.if-not-are_payouts.ensures i t.seats r).0 refl in
    exit_tested c.args.self.now i (exit_view c.args.row.now) may t (none_of i.due (c.if-is_due.ensures i t)) has ((caused has.is_open).0 c.if-not-caused.false) (safe i t.seats r))
    c.is_safe.ensures
