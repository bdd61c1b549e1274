use Rattle.host_world.specs.Worlds.{world_of}
use Rattle.host_data.specs.View.{trees}
use Rattle.contract_reads.proofs.Fits.{fit_read, give_read, kinds_read, want_read}
use Rattle.contract_reads.proofs.seat_changes.shares.shares_for.Goals as goal

pub returns-clause-fit : goal.returns-clause-fit
returns-clause-fit c = fit_read (λ v. v.items) c.shares_at.result (world_of c.args.world.now) c.args.seat (trees c.args.args.now) c.requires.call c.issuers-issuers.result.now c.args.slots.now c.args.place c.requires.slots c.shares_at.ensures

pub returns-clause-want : goal.returns-clause-want
returns-clause-want c = want_read (λ v. v.items) c.shares_at.result (world_of c.args.world.now) c.args.seat (trees c.args.args.now) c.requires.call c.issuers-issuers.result.now c.args.slots.now c.args.place c.requires.slots c.shares_at.ensures

pub returns-clause-give : goal.returns-clause-give
returns-clause-give c = give_read (λ v. v.items) c.shares_at.result (world_of c.args.world.now) c.args.seat (trees c.args.args.now) c.requires.call c.issuers-issuers.result.now c.args.slots.now c.args.place c.requires.slots c.shares_at.ensures

pub returns-clause-kinds : goal.returns-clause-kinds
returns-clause-kinds c = kinds_read (λ v. v.items) c.shares_at.result (world_of c.args.world.now) c.args.seat (trees c.args.args.now) c.requires.call c.issuers-issuers.result.now c.args.slots.now c.args.place c.requires.slots c.shares_at.ensures
