use Rattle.std.proofs.Common.{drop, map, subst, ◌+◌}
use Rattle.draft_reads.specs.vault_model.Lists.{amount_of}
use Rattle.draft_reads.specs.vault_model.Tables.{hand_minus}
use Rattle.draft_reads.specs.world_laws.Views.{put_to}
use Rattle.draft_effects.specs.HandStore.{IsCarrying, IsStoring, out_of_hand}
use Rattle.draft_effects.proofs.CarriedParts.{carry_goes_on, gained_so, left_of}
use Rattle.draft_reads.specs.vault.Drafts.{hand_now}
use Rattle.draft_effects.proofs.stored_parts.put_parts.Goals as goal

pub loop-movement-preserved : goal.loop-movement-preserved
loop-movement-preserved c =
    let d = c.loop-movement.draft in
    let m = c.movement-item.result in
    let left = map out_of_hand (drop (c.loop-movement.movement-index + 1) c.args.moves.now) in
    let inv = subst (λ l. IsCarrying c.args.draft.now d (map out_of_hand c.args.moves.now) l) (left_of out_of_hand c.args.moves.now c.loop-movement.movement-index m c.loop-movement-test.true c.movement-item.is) c.loop-movement.invariant in
    carry_goes_on c.args.draft.now d c.put_part.new.draft (map out_of_hand c.args.moves.now) left (out_of_hand m) inv
    (gained_so d c.put_part.new.draft (out_of_hand m) inv.can.0
    (subst (λ w. IsStoring d c.put_part.new.draft (put_to d.now m.to (amount_of m.brand w)) (hand_minus (hand_now d) m.brand w.content)) c.in_ok-part.ensures c.in_ok-put_part.ensures.ok))
