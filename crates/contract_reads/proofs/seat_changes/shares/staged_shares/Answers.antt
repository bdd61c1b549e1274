use Rattle.host_world.specs.Worlds.{world_of}
use Rattle.host_data.specs.View.{trees}
use Rattle.contract_reads.proofs.Fits.{staged_read}
use Rattle.contract_reads.proofs.seat_changes.shares.staged_shares.Goals as goal

pub returns-clause-fit : goal.returns-clause-fit
returns-clause-fit c = staged_read (λ v. v.items) c.shares_at.result (world_of c.args.world.now) c.args.seat (trees c.args.args.now) c.requires.call c.issuers-issuers.result.now c.args.slots.now c.args.staged.now c.requires.staged c.shares_at.ensures
