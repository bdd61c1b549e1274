use Rattle.std.proofs.Common.{◌≡◌, drop}
use Rattle.call_arguments.specs.Numbers.{least, least_of}
use Rattle.call_arguments.proofs.numbers.least.Given as goal

abbrev pub invariant-loop-number : goal.invariant-loop-number
invariant-loop-number l = least_of l.least (least (drop l.number-index l.numbers)) ≡ least l.numbers
