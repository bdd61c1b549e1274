use Rattle.value_tests.proofs.Exact.{value_passed}
use Rattle.value_tests.proofs.value_sums.whole_sum.Goals as goal

pub sum_of-requires-clause-fits : goal.sum_of-requires-clause-fits
sum_of-requires-clause-fits c = (value_passed c.args.kind _ c.in_ok-check_total.ensures.gives).0

pub sum_of-requires-clause-few : goal.sum_of-requires-clause-few
sum_of-requires-clause-few c = (value_passed c.args.kind _ c.in_ok-check_total.ensures.gives).1
