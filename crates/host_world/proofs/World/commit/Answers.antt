use Rattle.std.proofs.Common.{◌≡◌, ◌∙◌}
use Rattle.draft_reads.proofs.Staged.{staged_ended}
use Rattle.registers.specs.RegisterStates.{after_turn}
use Rattle.registers.specs.Stores.{registers_now}
use Rattle.host_world.specs.Worlds.{vault_state}
use Rattle.host_world.proofs.World.commit.Goals as goal

pub returns-clause-world : goal.returns-clause-world
returns-clause-world c =
    let d = c.args.self.draft in
    let now = after_turn (registers_now c.args.self.registers) in
    let kept : vault_state c.commit-vault.result (registers_now c.end_turn-turn.new.self) ≡ vault_state d.now now = λ i. vault_state (c.commit-vault.ensures.now i) (c.end_turn-turn.ensures.now i) in
    kept ∙ λ i. record (vault_state d.now now) { staging = staged_ended d.now.seats d.staging i }
