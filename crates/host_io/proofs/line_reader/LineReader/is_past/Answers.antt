use Rattle.std.proofs.Common.{◌≤◌, length, arith}
use Rattle.host_io.specs.LineReads.{text_length}
use Rattle.host_io.proofs.LineReads.{line_behind, text_behind, text_within}
use Rattle.host_io.proofs.line_reader.LineReader.is_past.Goals as goal

pub overflow_add-text : goal.overflow_add-text
overflow_add-text c =
    let most : text_length c.rest-rest.result.now ≤ length c.rest-rest.result.now = text_within c.rest-rest.result.now in
    grind arith

pub overflow_add-begun : goal.overflow_add-begun
overflow_add-begun c =
    let most : text_length c.rest-rest.result.now ≤ length c.rest-rest.result.now = text_within c.rest-rest.result.now in
    grind arith

pub returns-then-begun-text : goal.returns-then-begun-text
returns-then-begun-text c =
    let text = text_behind c.self.inside.begun.items c.rest-rest.result.now c.self.invariant.0 in
    let line = line_behind c.self.inside.begun.items c.rest-rest.result.now c.self.invariant.0 in
    grind arith

pub returns-else-begun-text : goal.returns-else-begun-text
returns-else-begun-text c =
    let text = text_behind c.self.inside.begun.items c.rest-rest.result.now c.self.invariant.0 in
    let line = line_behind c.self.inside.begun.items c.rest-rest.result.now c.self.invariant.0 in
    grind arith
