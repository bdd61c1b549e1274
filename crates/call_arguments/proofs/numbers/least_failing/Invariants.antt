use Rattle.std.proofs.Common.{◌≡◌, drop}
use Rattle.call_arguments.specs.Numbers.{least_failing, least_of}
use Rattle.call_arguments.proofs.numbers.least_failing.Given as goal

abbrev pub invariant-loop-number : goal.invariant-loop-number
invariant-loop-number g l = least_of l.least (least_failing (g.T.NumberTest.does_pass l.test) (drop l.number-index l.numbers)) ≡ least_failing (g.T.NumberTest.does_pass l.test) l.numbers
