use Rattle.host_world.specs.Worlds.{world_of}
use Rattle.host_data.specs.View.{trees}
use Rattle.contract_reads.proofs.Fits.{mint_read}
use Rattle.contract_reads.proofs.seat_changes.shares.shares_of_mint.Goals as goal

pub returns-clause-fit : goal.returns-clause-fit
returns-clause-fit c = mint_read (λ v. v.items) c.shares_at.result (world_of c.args.world.now) c.args.seat (trees c.args.args.now) c.requires.call c.args.brand c.args.slots.now c.requires.slots c.shares_at.ensures
