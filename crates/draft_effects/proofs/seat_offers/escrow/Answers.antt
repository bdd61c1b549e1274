use Rattle.std.proofs.Common.{sym, subst, ◌∙◌}
use Rattle.std.proofs.lemmas.Result.{on_ok_weaker}
use Rattle.draft_reads.specs.vault_model.Lists.{Lists}
use Rattle.draft_effects.specs.Steps.{CanMoveEach}
use Rattle.draft_effects.proofs.EscrowedOffers.{one_and_all}
use Rattle.draft_effects.proofs.seat_offers.escrow.Goals as goal

pub move_each-requires-clause-can : goal.move_each-requires-clause-can
move_each-requires-clause-can c = subst (λ (s : Lists). CanMoveEach s c.args.escrows.now) (sym c.in_ok-move_rights.ensures.ok.now) c.requires.can.1

pub returns-clause-ok : goal.returns-clause-ok
returns-clause-ok c = on_ok_weaker c.move_each.result (one_and_all c.args.draft.now c.move_rights.new.draft c.move_each.new.draft c.args.burn.now c.args.escrows.now c.in_ok-move_rights.ensures.ok) c.move_each.ensures.ok

pub returns-clause-back : goal.returns-clause-back
returns-clause-back c = record { kept = c.move_each.ensures.back.kept ∙ c.in_ok-move_rights.ensures.back.kept; goes = c.move_each.ensures.back.goes }
