use Rattle.std.proofs.Common.{All, sym, subst}
use Rattle.rules.specs.call_arguments.Arguments.{IsMade}
use Rattle.ertp_calls.specs.host_world.Worlds.{world_of}
use Rattle.host_data.specs.View.{tree, trees}
use Rattle.host_data.specs.declared.data.ObjKind.TheVariants as kinds
use Rattle.ertp_calls.proofs.HandedFields.{issuers_known}
use Rattle.zoe_calls.proofs.issuers.issuers_at.Goals as goal

pub issuers_of-requires-clause-known : goal.issuers_of-requires-clause-known
issuers_of-requires-clause-known c =
    let known = issuers_known (world_of c.args.world.now) c.args.place (trees c.args.args.now) c.in_ok-fields.fields.now c.requires.handed c.in_ok-fields.ensures in
    subst (λ made. All (λ f. IsMade kinds.Issuer made (tree f.1)) c.in_ok-fields.fields.now) (sym c.made.ensures.made) known
