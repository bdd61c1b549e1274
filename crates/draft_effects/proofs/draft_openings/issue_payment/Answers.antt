use Rattle.std.proofs.Common.{◌∷◌, []}
use Rattle.std.proofs.lemmas.Result.{on_ok_weaker}
use Rattle.draft_effects.proofs.TransferEffects.{moved_now}
use Rattle.draft_effects.proofs.Openings.{issue_so}
use Rattle.draft_effects.proofs.draft_openings.issue_payment.Goals as goal

pub move_rights-requires-clause-can : goal.move_rights-requires-clause-can
move_rights-requires-clause-can c = issue_so c.args.draft.now c.args.movement.now c.valid.ensures c.requires.from c.requires.to c.requires.can c.requires.room

pub returns-clause-ok : goal.returns-clause-ok
returns-clause-ok c = on_ok_weaker c.move_rights.result (moved_now c.args.draft.now c.move_rights.new.draft (c.args.movement.now ∷ []) (issue_so c.args.draft.now c.args.movement.now c.valid.ensures c.requires.from c.requires.to c.requires.can c.requires.room, tt)) c.move_rights.ensures.ok
