use Rattle.std.proofs.Common.{sym, ap, ◌∙◌}
use Rattle.world_state.specs.promise_store.Views.{now_of}
use Rattle.registers.specs.PromiseTables.{has_settled}
use Rattle.registers.proofs.Steps.{made_in, settled_is}
use Rattle.registers.proofs.promise_table.table.PromiseTable.is_settled.Goals as goal

pub state-requires : goal.state-requires
state-requires c = made_in (now_of c.args.self.now.promises) c.args.promise c.requires

pub returns-in-Settled : goal.returns-in-Settled
returns-in-Settled c =
    let s = now_of c.args.self.now.promises in
    ap has_settled (c.in-Settled.ensures).state ∙ sym (settled_is s c.args.promise (made_in s c.args.promise c.requires))

pub returns-in-Follows : goal.returns-in-Follows
returns-in-Follows c =
    let s = now_of c.args.self.now.promises in
    ap has_settled (c.in-Follows.ensures).state ∙ sym (settled_is s c.args.promise (made_in s c.args.promise c.requires))

pub returns-in-Pending : goal.returns-in-Pending
returns-in-Pending c =
    let s = now_of c.args.self.now.promises in
    ap has_settled (c.in-Pending.ensures).state ∙ sym (settled_is s c.args.promise (made_in s c.args.promise c.requires))
