-- What movements make of a draft, in the world's words.
use Rattle.std.proofs.Common.{List, Option, length, ◌∙◌, ap, arith}
use Rattle.draft_reads.proofs.lemmas.ListEdits.{length_map}
use Rattle.draft_reads.specs.rights_model.declared.Movement.{Movement}
use Rattle.draft_reads.specs.vault_model.Tables.{IsSound, no_hand}
use Rattle.draft_reads.proofs.vault_model.Sound.{sound_alike}
use Rattle.draft_reads.specs.world_state.Shapes.{AreMovements}
use Rattle.draft_reads.specs.proposals.declared.allocations.Share.{Share}
use Rattle.draft_reads.specs.world_laws.Views.{all_by_hand, rights_of, seat_of, seats_of}
use Rattle.draft_reads.proofs.world_laws.Together.{all_together}
use Rattle.draft_reads.specs.vault.Drafts.{DraftState, IsClean, IsValid, hand_now}
use Rattle.draft_reads.specs.world_state.Good.{CanMoveTogether}
use Rattle.draft_reads.specs.world_state.Rights.{moved_together}
use Rattle.draft_reads.specs.Views.{HasNow, rights_in, seats_in, staged_from, staging_in}
use Rattle.draft_reads.proofs.Staged.{staged_long}
use Rattle.draft_effects.specs.Steps.{CanMoveEach, IsAfter}
use Rattle.draft_effects.proofs.TransferSequences.{all_by_hand_can, seats_all, together_each}

pub moved_now : (old new : DraftState) (ms : List Movement) → CanMoveEach old.now ms → IsAfter old new (all_by_hand old.now ms) → HasNow new (moved_together (rights_in old) ms) (seats_in old) (staging_in old)
moved_now old new ms can made = record {
  rights = ap rights_of made.now ∙ all_together old.now ms (all_by_hand_can old.now ms can);
  seated = ap seats_of made.now ∙ seats_all old.now ms;
  staged =
      (λ i. staged_from 0 (made.now i).seats (made.staging i))
      ∙ staged_long 0 (all_by_hand old.now ms).seats old.now.seats old.staging (omega (arith, ap length (seats_all old.now ms), length_map seat_of (all_by_hand old.now ms).seats, length_map seat_of old.now.seats));
  clean = made.clean;
}

-- all that is held adds up, where nothing is in the hand
pub sound_now : (d : DraftState) → IsValid d → IsClean d → IsSound d.now no_hand
sound_now d valid clean = sound_alike d.now (hand_now d) no_hand clean.hand valid.sound

pub shown_can : (d : DraftState) → IsValid d → IsClean d → (staging : List (Option (List Share))) (ms : List Movement) → AreMovements ms → CanMoveTogether (rights_in d) (seats_in d) staging ms → CanMoveEach d.now ms
shown_can d valid clean staging ms shape can = together_each d.now staging ms (sound_now d valid clean) shape can
