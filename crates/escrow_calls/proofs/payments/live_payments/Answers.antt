use Rattle.std.specs.List.{All}
use Rattle.std.proofs.Common.{ℕ, sym, subst}
use Rattle.rules.specs.call_arguments.Arguments.{IsMade}
use Rattle.ertp_calls.specs.host_world.Worlds.{world_of}
use Rattle.host_data.specs.View.{tree, trees}
use Rattle.host_data.specs.declared.data.ObjKind.TheVariants as kinds
use Rattle.escrow_calls.proofs.KnownFields.{payments_known}
use Rattle.escrow_calls.proofs.payments.live_payments.Goals as goal

pub objects_under-requires : goal.objects_under-requires
objects_under-requires c =
    subst (λ (n : ℕ). All (λ f. IsMade kinds.Payment n (tree f.1)) c.args.given.now) (sym c.payments_made-made.ensures)
    (payments_known (world_of c.args.world.now) 3 (trees c.args.args.now) c.args.given.now c.requires.known c.requires.given)
