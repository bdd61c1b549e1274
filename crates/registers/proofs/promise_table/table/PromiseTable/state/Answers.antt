use Rattle.std.proofs.Common.{◌<◌, ℕ, ◌∙◌, subst}
use Rattle.world_state.specs.promise_store.Views.{now_of}
use Rattle.registers.specs.Books.{settled_with}
use Rattle.registers.proofs.Lists.{length_listed}
use Rattle.registers.proofs.Steps.{state_is}
use Rattle.registers.proofs.promise_table.table.PromiseTable.state.Goals as goal

pub state-requires : goal.state-requires
state-requires c =
    let s = now_of c.args.self.now.promises in
    subst (λ (n : ℕ). c.args.promise < n) (length_listed (settled_with s.links.outcomes s.settlements) s.links.made) c.requires

pub returns : goal.returns
returns c =
    let s = now_of c.args.self.now.promises in
    let lt = subst (λ (n : ℕ). c.args.promise < n) (length_listed (settled_with s.links.outcomes s.settlements) s.links.made) c.requires in
    (c.state.ensures).state ∙ state_is s c.args.promise lt
