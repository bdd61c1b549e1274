use Rattle.std.specs.List.{All}
use Rattle.std.proofs.Common.{ℕ, sym, subst}
use Rattle.rules.specs.call_arguments.Arguments.{IsMade}
use Rattle.world_reads.specs.host_world.Worlds.{world_of}
use Rattle.host_data.specs.View.{tree}
use Rattle.host_data.specs.declared.data.ObjKind.TheVariants as kinds
use Rattle.rearrange_calls.proofs.SeatsGiven.{args_made}
use Rattle.rearrange_calls.proofs.reallocation.seats_given.Goals as goal

pub each_object-requires-clause-known : goal.each_object-requires-clause-known
each_object-requires-clause-known c =
    subst (λ (n : ℕ). All (λ d. IsMade kinds.Zseat n (tree d)) c.args.args.now) (sym c.seats_made.ensures)
    (args_made (world_of c.args.world.now) c.args.args.now c.requires.known)
