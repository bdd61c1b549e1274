use Rattle.std.specs.Option.{IsSome}
use Rattle.std.proofs.Common.{refl, subst, sym}
use Rattle.told_rights.proofs.Joined.{gt_of_le, le_of_gt, le_of_lt}
use Rattle.told_rights.proofs.number_runs.NumberRuns.run_before.Goals as goal

pub returns-in-Some-clause-some : goal.returns-in-Some-clause-some
returns-in-Some-clause-some c =
    let range = c.range.ensures.in_range tt in
    let n = c.args.number in
    let steps = c.in-Some.ensures.steps in
    rw (← c.self.view_is) (record {
      is = (range.3 _ _ steps).1;
      before = le_of_gt _ _ (range.3 _ _ steps).0.1;
      last = λ first last is before. le_of_lt _ _ (range.4 _ _ steps first (tt, gt_of_le first n before) (subst IsSome (sym is) refl));
    })
