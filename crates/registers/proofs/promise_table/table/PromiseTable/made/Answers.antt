use Rattle.std.proofs.Common.{sym, ◌∙◌}
use Rattle.world_state.specs.promise_store.Views.{now_of}
use Rattle.registers.specs.Books.{settled_with}
use Rattle.registers.proofs.Lists.{length_listed}
use Rattle.registers.proofs.promise_table.table.PromiseTable.made.Goals as goal

pub returns : goal.returns
returns c =
    let s = now_of c.args.self.now.promises in
    (c.made.ensures).made ∙ sym (length_listed (settled_with s.links.outcomes s.settlements) s.links.made)
