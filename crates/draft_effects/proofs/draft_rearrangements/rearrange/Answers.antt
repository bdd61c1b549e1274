use Rattle.std.proofs.Common.{subst, sym}
use Rattle.std.proofs.lemmas.Result.{on_ok_weaker}
use Rattle.draft_effects.specs.HandStore.{CanCarryAll, IsStoring, StoresAll, all_carried, hand_after_all}
use Rattle.draft_reads.specs.vault.Drafts.{DraftState, hand_now}
use Rattle.draft_effects.proofs.Rearrangements.{all_made, rearranged_now, stores_all}
use Rattle.draft_effects.proofs.draft_rearrangements.rearrange.Goals as goal

pub move_parts-requires-clause-stores : goal.move_parts-requires-clause-stores
move_parts-requires-clause-stores c = subst StoresAll (sym c.count_anew.ensures) (stores_all c.args.draft.now c.requires.can.0 c.args.moves.now c.valid.ensures c.requires.clean c.requires.shape c.requires.can.1)

pub move_parts-requires-clause-can : goal.move_parts-requires-clause-can
move_parts-requires-clause-can c = subst (λ (d : DraftState). CanCarryAll d.now (hand_now d) c.args.moves.now) (sym c.count_anew.ensures) (all_made c.args.draft.now c.requires.can.0 c.args.moves.now c.valid.ensures c.requires.clean c.requires.shape c.requires.can.1).can

pub returns-clause-ok : goal.returns-clause-ok
returns-clause-ok c = on_ok_weaker c.move_parts.result (λ is. rearranged_now c.args.draft.now c.requires.can.0 c.args.moves.now c.valid.ensures c.requires.clean c.requires.shape c.requires.can.1 c.move_parts.new.draft
    (subst (λ (d : DraftState). IsStoring d c.move_parts.new.draft (all_carried d.now c.args.moves.now) (hand_after_all (hand_now d) c.args.moves.now)) c.count_anew.ensures is)) c.move_parts.ensures.ok
