use Rattle.std.proofs.lemmas.Result.{on_ok_weaker}
use Rattle.draft_effects.proofs.TransferEffects.{shown_can, moved_now}
use Rattle.draft_effects.proofs.movements.move_all.Goals as goal

pub move_each-requires-clause-can : goal.move_each-requires-clause-can
move_each-requires-clause-can c = shown_can c.args.draft.now c.valid.ensures c.requires.clean c.requires.can.0 c.args.moves.now c.requires.shape c.requires.can.1

pub returns-clause-ok : goal.returns-clause-ok
returns-clause-ok c = on_ok_weaker c.move_each.result (moved_now c.args.draft.now c.move_each.new.draft c.args.moves.now (shown_can c.args.draft.now c.valid.ensures c.requires.clean c.requires.can.0 c.args.moves.now c.requires.shape c.requires.can.1)) c.move_each.ensures.ok
