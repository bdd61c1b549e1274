use Rattle.std.proofs.Common.{All, sym, subst}
use Rattle.call_arguments.specs.Arguments.{IsMade}
use Rattle.refusals.specs.host_data.View.{tree}
use Rattle.refusals.specs.host_data.declared.data.ObjKind.TheVariants as kinds
use Rattle.offer_calls.proofs.payments.payments_under.Goals as goal

pub objects_under-requires : goal.objects_under-requires
objects_under-requires c = subst (λ made. All (λ f. IsMade kinds.Payment made (tree f.1)) c.args.given.now) (sym c.payments_made-made.ensures) c.requires.known
