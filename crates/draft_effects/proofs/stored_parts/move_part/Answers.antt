use Rattle.std.proofs.Common.{subst}
use Rattle.std.proofs.lemmas.Result.{on_ok_weaker}
use Rattle.draft_reads.specs.vault_model.Lists.{amount_of}
use Rattle.draft_reads.specs.vault_model.Tables.{hand_minus}
use Rattle.draft_reads.specs.world_laws.Views.{put_to}
use Rattle.draft_reads.specs.vault.Drafts.{hand_now}
use Rattle.draft_effects.specs.HandStore.{CanCarryFrom, IsStoring}
use Rattle.draft_effects.proofs.CarriedParts.{gained_so, loses, lost_so}
use Rattle.draft_effects.proofs.stored_parts.move_part.Goals as goal

pub returns-in_ok-part-in-Hand-clause-ok : goal.returns-in_ok-part-in-Hand-clause-ok
returns-in_ok-part-in-Hand-clause-ok c =
    let d = c.args.draft.now in
    let m = c.args.movement.now in
    on_ok_weaker c.put_part.result (λ is. gained_so d c.put_part.new.draft m
    (subst (λ h. CanCarryFrom h d.now (hand_now d) m) c.in-Hand.is c.requires.can)
    (subst (λ w. IsStoring d c.put_part.new.draft (put_to d.now m.to (amount_of m.brand w)) (hand_minus (hand_now d) m.brand w.content)) c.in_ok-part-in-Hand.ensures is)) c.put_part.ensures.ok

pub returns-in_default : goal.returns-in_default
returns-in_default c =
    let d = c.args.draft.now in
    let m = c.args.movement.now in
    record {
      ok = on_ok_weaker c.store_part.result (λ is. lost_so d c.store_part.new.draft m (loses m.from d.now (hand_now d) m c.in_default.not-Hand c.requires.can) is) c.store_part.ensures.ok;
      back = c.store_part.ensures.back;
    }
