-- The movement of an invitation that is made is that of the world.
use Rattle.std.proofs.Common.{◌≡◌, ℕ, ◌∷◌, [], length, subst, sym, ◌∙◌}
use Rattle.register_effects.specs.draft_reads.Views.{HasNow, rights_in, seats_in, staging_in}
use Rattle.register_effects.specs.host_world.Worlds.{world_now, world_of}
use Rattle.register_effects.specs.host_world.declared.World.{World}
use Rattle.world_laws.specs.vault_model.Tables.{no_hand}
use Rattle.world_laws.specs.rights_model.Table.{movement}
use Rattle.world_laws.specs.rights_model.declared.Holder.TheVariants.{Outside, Payment}
use Rattle.world_laws.specs.rights_model.declared.Movement.{Movement}
use Rattle.register_effects.specs.vault.Drafts.{DraftState}
use Rattle.world_laws.proofs.Supplies.{can_invite}
use Rattle.world_laws.specs.world_state.Good.{CanInvite}
use Rattle.world_laws.specs.world_state.Rights.{CanMoveAll, moved_together}
use Rattle.world_laws.specs.world_state.Worlds.{invitation_move, invitation_value}
use Rattle.world_laws.specs.turn_stores.Details.{DetailsView}
use Rattle.world_effects.specs.CarriedEffects.{IsInTurn}

pub its_move : (w : World) (m : Movement) (invitation payment : ℕ) → m ≡ movement 0 Outside (Payment payment) (invitation_value invitation)
    → invitation ≡ length (world_of w).invitations → payment ≡ length (world_of w).rights.payments → m ≡ invitation_move (world_of w)
its_move w m invitation payment is number next = is ∙ (λ i. movement 0 Outside (Payment (next i)) (invitation_value (number i)))

pub can_issue : (w : World) (m : Movement) (d : DetailsView) → m ≡ invitation_move (world_of w) → IsInTurn w → CanInvite (world_of w) d → CanMoveAll (rights_in w.draft) no_hand (m ∷ [])
can_issue w m d is turn can = subst (λ (x : Movement). CanMoveAll (rights_in w.draft) no_hand (x ∷ [])) (sym is) (can_invite (world_of w) turn.good can.few)

pub invited_now : (w : World) (new : DraftState) (m : Movement) → m ≡ invitation_move (world_of w) → HasNow new (moved_together (rights_in w.draft) (m ∷ [])) (seats_in w.draft) (staging_in w.draft)
    → HasNow new (moved_together (rights_in w.draft) (invitation_move (world_now w) ∷ [])) (seats_in w.draft) (staging_in w.draft)
invited_now w new m is now = subst (λ (x : Movement). HasNow new (moved_together (rights_in w.draft) (x ∷ [])) (seats_in w.draft) (staging_in w.draft)) is now
