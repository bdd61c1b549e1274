use Rattle.std.proofs.Common.{sym, ◌∙◌, true≢false}
use Rattle.serde_json.specs.View.{view}
use Rattle.message_lines.proofs.JsonLines.{json_of-none, json_of-some}
use Rattle.message_lines.proofs.messages.read_json.Goals as goal

pub returns-else-is_memory : goal.returns-else-is_memory
returns-else-is_memory c =
    rw (json_of-none c.args.line.now (c.in-Err.ensures.err (λ m. true≢false (sym (c.is_memory.ensures.1 m) ∙ c.if-is_memory.false)))) c.bad_line.ensures

pub returns : goal.returns
returns c =
    rw (json_of-some c.args.line.now (view c.in-Ok.value) c.in-Ok.ensures.ok.0 c.in-Ok.ensures.ok.1) c.read_value.ensures
