use Rattle.rearrange.proofs.TestedSeats.{staged_tests, transfers_tests}
use Rattle.rearrange.proofs.laws.seats_are_tested_as_plans_test_them.Goals as goal

pub returns-clause-staged : goal.returns-clause-staged
returns-clause-staged c = staged_tests

pub returns-clause-transfers : goal.returns-clause-transfers
returns-clause-transfers c = transfers_tests
