use Rattle.std.proofs.Common.{refl}
use Rattle.draft_reads.proofs.Undoing.{clean_back}
use Rattle.draft_effects.proofs.seat_exits.pay_out.Goals as goal

pub returns-in_err-moves-clause-back : goal.returns-in_err-moves-clause-back
returns-in_err-moves-clause-back c = clean_back c.args.draft.now c.args.draft.now refl c.valid.ensures c.requires.clean
