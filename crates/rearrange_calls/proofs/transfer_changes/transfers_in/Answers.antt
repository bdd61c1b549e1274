use Rattle.std.proofs.Common.{List, sym, ap, ◌∙◌, subst}
use Rattle.rules.specs.brands.declared.issuer_record.Issuer.{Issuer}
use Rattle.world_reads.specs.host_world.Worlds.{world_of}
use Rattle.rearrange.specs.Seats.{allocation_of}
use Rattle.refusals.specs.Outcomes.{Gives}
use Rattle.share_transfers.specs.Reading.{transfers_at}
use Rattle.share_transfers.specs.Views.{parts_views, transfer_views}
use Rattle.rearrange_calls.proofs.Brands.{read_same}
use Rattle.rearrange_calls.proofs.Seated.{parts_seated}
use Rattle.rearrange_calls.proofs.transfer_changes.transfers_in.Goals as goal

pub transfers_at-requires : goal.transfers_at-requires
transfers_at-requires c = parts_seated (world_of c.args.world.now) (parts_views c.args.list.now) c.args.seats.now c.requires.source c.requires.named

pub returns : goal.returns
returns c =
    let parts = parts_views c.args.list.now in
    let is = read_same (world_of c.args.world.now) c.args.instance c.args.states.now c.args.seats.now parts c.requires.source c.requires.named c.requires.states c.requires.part in
    let issuers = ap (λ (l : List Issuer). transfers_at l (allocation_of c.args.states.now) parts) c.issuers_of.ensures in
    subst (Gives (λ list. transfer_views list.items) c.transfers_at.result) (issuers ∙ sym is) c.transfers_at.ensures
