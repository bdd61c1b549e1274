use Rattle.std.proofs.Common.{◌≡◌, take}
use Rattle.rules.specs.call_arguments.Keywords.{texts}
use Rattle.rules.specs.Zcf.{share_names}
use Rattle.escrow_calls.proofs.payments.names_of.Given as goal

abbrev pub invariant-loop-share : goal.invariant-loop-share
invariant-loop-share l = texts l.found.items ≡ share_names (take l.share-index l.shares)
