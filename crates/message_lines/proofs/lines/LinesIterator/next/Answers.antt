use Rattle.std.proofs.Common.{sym, ◌∙◌, ap, length, arith, rules}
use Rattle.std.proofs.lemmas.List.{take_rest}
use Rattle.message_lines.specs.InputLines.{lines_left}
use Rattle.message_lines.proofs.Cuts.{lines_of-some, lines_of-none}
use Rattle.message_lines.proofs.lines.LinesIterator.next.Goals as goal

pub returns-in-Some-clause-steps : goal.returns-in-Some-clause-steps
returns-in-Some-clause-steps c = rw take_rest (sym c.self.view_is ∙ ap lines_left c.in_ok-rest.was ∙ lines_of-some _ _ (sym c.line_end.ensures ∙ c.in-Some.is))

pub returns-in-Some-clause-goes : goal.returns-in-Some-clause-goes
returns-in-Some-clause-goes c =
    let shorter = ap length (returns-in-Some-clause-steps c) in
    record { on = λ _. (tt, search rules, omega (arith, shorter)); keeps = tt; rests = λ _. tt }

pub returns-in-None-clause-steps : goal.returns-in-None-clause-steps
returns-in-None-clause-steps c = sym c.self.view_is ∙ ap lines_left c.in_ok-rest.was ∙ lines_of-none _ (sym c.line_end.ensures ∙ c.in-None.is)

pub returns-in-None-clause-goes : goal.returns-in-None-clause-goes
returns-in-None-clause-goes c =
    let shorter = ap length (returns-in-None-clause-steps c) in
    record { on = λ _. (tt, search rules, omega (arith, shorter)); keeps = tt; rests = λ _. tt }
