use Rattle.std.proofs.Common.{◌≡◌, ◌-◌, ◌++◌, string_bytes}
use Rattle.sample_contracts.specs.Demo.{demo_text, lines_text, steps_from}
use Rattle.sample_contracts.proofs.demo.demo_lines.Given as goal

-- what was written, with what is left, is the whole text
abbrev pub invariant-loop-step : goal.invariant-loop-step
invariant-loop-step l = string_bytes l.text ++ lines_text (steps_from l.number l.step (l.size - l.step)) ≡ demo_text l.seed l.size
