use Rattle.std.proofs.Common.{arith}
use Rattle.escrow.specs.rights_model.declared.Holder.TheVariants.{Purse}
use Rattle.store_tests.proofs.HoldingLaws.{holds_fewer}
use Rattle.store_tests.proofs.escrow_tests.goes_to_a_slot.Goals as goal

pub pass-requires-clause-has : goal.pass-requires-clause-has
pass-requires-clause-has g c = holds_fewer c.args.escrow.now (Purse 0) 100 30 (omega arith) c.requires.has
