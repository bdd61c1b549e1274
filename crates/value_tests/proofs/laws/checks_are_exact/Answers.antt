use Rattle.value_tests.proofs.Contents.{has-true, true-has}
use Rattle.value_tests.proofs.Exact.{cause_counts, cause_out, cause_overlap, cause_value, counts_cause, counts_fits, out_cause, out_passed, overlap_cause, passes_out, passes_value, then_too_much, value_cause, value_passed}
use Rattle.value_tests.proofs.Sums.{counts_pass}
use Rattle.value_tests.proofs.laws.checks_are_exact.Goals as goal

pub returns-clause-counts : goal.returns-clause-counts
returns-clause-counts c = λ kind s. (counts_fits kind s, counts_pass kind s)

pub returns-clause-counts_refused : goal.returns-clause-counts_refused
returns-clause-counts_refused c = λ kind s r. (counts_cause kind s r, cause_counts kind s r)

pub returns-clause-has : goal.returns-clause-has
returns-clause-has c = λ a b. (has-true a b, true-has a b)

pub returns-clause-value : goal.returns-clause-value
returns-clause-value c = λ kind s. (value_passed kind s, passes_value kind s)

pub returns-clause-value_refused : goal.returns-clause-value_refused
returns-clause-value_refused c = λ kind s r. (value_cause kind s r, cause_value kind s r)

pub returns-clause-overlap_refused : goal.returns-clause-overlap_refused
returns-clause-overlap_refused c = λ kind s r. (overlap_cause kind s r, cause_overlap kind s r)

pub returns-clause-then_too_much : goal.returns-clause-then_too_much
returns-clause-then_too_much c = λ kind s free key. then_too_much kind s key free

pub returns-clause-out : goal.returns-clause-out
returns-clause-out c = λ s d. (out_passed s d, passes_out s d)

pub returns-clause-out_refused : goal.returns-clause-out_refused
returns-clause-out_refused c = λ s d r. (out_cause s d r, cause_out s d r)
