use Rattle.std.proofs.Common.{◌≡◌, ◌==◌, ℕ, if◌then◌else◌, refl, sym, ap, subst, ◌∙◌}
use Rattle.row_records.specs.Views.{move_view, value_view}
use Rattle.row_records.specs.amount_math.Counted.{counted as size}
use Rattle.row_records.specs.fair_rows.Movements.{movements_in}
use Rattle.row_records.specs.fair_rows.Rows.{InTurn}
use Rattle.row_records.specs.fair_rows.Values.{content_of}
use Rattle.told_rights.specs.Rights.{MayMove, TellsRights}
use Rattle.told_rights.specs.Runs.{has_number}
use Rattle.told_rights.specs.Sums.{AreRising, CanShift, shifted, sum_at}
use Rattle.told_rights.proofs.Placing.{brands_rise}
use Rattle.told_rights.proofs.Told.{can_give, can_issue, may_passed, moved_told}
use Rattle.told_rights.proofs.TotalsAfter.{can_shift}
use Rattle.told_rights.proofs.rights.Rights.moved.Goals as goal

pub carry-requires-clause-room : goal.carry-requires-clause-room
carry-requires-clause-room c = can_give c.args.self.now c.requires.may.0 (move_view c.args.row.now) c.requires.may.1 c.requires.may.2

pub supply-requires-clause-room : goal.supply-requires-clause-room
supply-requires-clause-room c = can_issue c.args.self.now c.requires.may.0 (move_view c.args.row.now) c.requires.may.1 c.requires.may.2

pub moved-requires-clause-can : goal.moved-requires-clause-can
moved-requires-clause-can c =
    let k = c.args.self.now in
    let row = c.args.row.now in
    let i = c.requires.may.0 in
    let t = c.requires.may.1 in
    subst (λ n. CanShift (sum_at k.sums.totals.entries row.brand) row.from row.to n) (sym c.size_of_value-count.ensures)
    (subst (λ s. CanShift s row.from row.to (size (content_of (value_view row.value)))) (sym (t.sums.totals row.brand)) (can_shift i (move_view row) t.rows c.requires.may.2.0))

pub moved-requires-clause-rising : goal.moved-requires-clause-rising
moved-requires-clause-rising c = subst AreRising (sym c.requires.may.1.sums.brands) (brands_rise (movements_in c.requires.may.0.here))

pub returns-clause-told : goal.returns-clause-told
returns-clause-told c = λ i t may.
    let k = c.args.self.now in
    let row = c.args.row.now in
    moved_told k _ i (move_view row) (record {
      edition = refl;
      supplied = c.in_ok-supply.ensures.edition;
      places = c.in_ok-carry.ensures;
      out = c.in_ok-supply.ensures.out;
      bounded = c.in_ok-supply.ensures.bounded;
      kinds = c.in_ok-add.ensures.ok (c.in_ok-add.ensures.fits.1 (may_passed k i (move_view row) t may).suits);
      totals = λ b. subst (λ n. sum_at c.moved.new.self.totals.entries b ≡ (if row.brand == b then shifted (sum_at k.sums.totals.entries b) row.from row.to n else sum_at k.sums.totals.entries b)) c.size_of_value-count.ensures (c.in_ok-moved.ensures.totals b);
      brands = c.in_ok-moved.ensures.brands;
      named = c.in_ok-moved-2.ensures.named;
      spent = λ p. ap (λ x. has_number x p) c.in_ok-moved-2.ensures.spent;
      taken = c.in_ok-moved-2.ensures.taken;
    }) t may
