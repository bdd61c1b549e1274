use Rattle.std.proofs.Common.{sym, ◌∙◌}
use Rattle.message_lines.proofs.Paths.{is_path-dot, is_path-no_dot}
use Rattle.std.proofs.lemmas.List.{take_rest}
use Rattle.message_lines.proofs.arguments.is_path.Goals as goal

pub returns-then-is_label : goal.returns-then-is_label
returns-then-is_label c =
    let cut = is_path-dot c.args.bytes.now c.in-Some.dot (sym c.first_dot.ensures ∙ c.in-Some.is) in
    rw (cut, ← c.if-is_label.ensures) (rw take_rest at c.are_steps.ensures)

pub returns-else-is_label : goal.returns-else-is_label
returns-else-is_label c =
    let cut = is_path-dot c.args.bytes.now c.in-Some.dot (sym c.first_dot.ensures ∙ c.in-Some.is) in
    rw (cut, ← c.if-is_label.ensures) c.if-is_label.false

pub returns-in-None : goal.returns-in-None
returns-in-None c = rw (is_path-no_dot c.args.bytes.now (sym c.first_dot.ensures ∙ c.in-None.is)) c.is_label-in-None.ensures
