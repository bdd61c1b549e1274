use Rattle.std.proofs.Common.{◌≡◌, ◌∙◌, ◌+◌, ◌-◌, ◌<◌, ◌++◌, sym, ap, ℕ, List, string_bytes, arith}
use Rattle.sample_contracts.specs.Made.{draw_view}
use Rattle.sample_contracts.specs.Demo.{Draw, answering_lines, demo_text, drawn, lines_text, next_number, opening_lines, steps_from}
use Rattle.sample_contracts.proofs.Steps.{stepped}
use Rattle.sample_contracts.proofs.demo.demo_lines.Goals as goal

pub loop-step-preserved : goal.loop-step-preserved
loop-step-preserved c =
    let x = c.loop-step.number in
    let i = c.loop-step.step in
    let text = string_bytes c.loop-step.text in
    let opened = string_bytes c.push_opening.new.text in
    let answered = string_bytes c.push_answering.new.text in
    let next_is : c.next_number-number.result ≡ next_number x = c.next_number-number.ensures in
    let draw_is : draw_view c.amounts_drawn-draw.result ≡ drawn (next_number x) = c.amounts_drawn-draw.ensures ∙ ap drawn next_is in
    let more : i < c.args.size = c.loop-step-test.true in
    ap (λ (y : ℕ). answered ++ lines_text (steps_from y (i + 1) (c.args.size - (i + 1)))) next_is
    ∙ stepped text opened answered (demo_text c.args.seed c.args.size) x i c.args.size more c.loop-step.invariant
    (c.in_ok-push_opening.ensures ∙ ap (λ (d : Draw). text ++ lines_text (opening_lines i d)) draw_is)
    (c.in_ok-push_answering.ensures ∙ ap (λ (d : Draw). opened ++ lines_text (answering_lines i d)) draw_is)
