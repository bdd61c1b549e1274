-- Worked turns are called for, or not, by what they show.
use Rattle.std.specs.Prelude.{◌≡◌, ℕ, true, codes, refl}
use Rattle.std.specs.Fmt.{digits}
use Rattle.std.proofs.Common.{inl, inr}
use Rattle.fair_laws.specs.world_state.turn_rows.Turns.{Turn}
use Rattle.fair_laws.specs.fair_rows.ExitCauses.{name}
use Rattle.licence_laws.specs.Minting.{ShowsInviting, ShowsMinting, has_call, is_served}
use Rattle.licence_laws.specs.Worked.{AreNotShown, AreShown, call_turn, done, mint_turn, not_done, tick_turn}

-- no way of minting is shown
unminted : (t : Turn) (b : ℕ) → (is_served (name (codes "mint") b) (codes "mintPayment") t ≡ true → ⊥) → (has_call (name (codes "zmint") b) (codes "mintGains") t ≡ true → ⊥) → (b ≡ 0 → ShowsInviting t → ⊥) → ShowsMinting t b → ⊥
unminted t b payment gains inviting (inl is) = payment is
unminted t b payment gains inviting (inr (inl is)) = gains is
unminted t b payment gains inviting (inr (inr is)) = inviting is.0 is.1

pub are_shown : AreShown
unfolding digits
are_shown = record {
  payment = (inl refl, tt);
  gains = (tt, (inr (inl refl), tt));
  invitation = (tt, (inr (inr (refl, record { instance = 7; asked = refl })), tt));
  withdrawal = (refl, tt);
}

pub are_not_shown : AreNotShown
unfolding digits
are_not_shown = record {
  other_brand = λ is. unminted (mint_turn (codes "mintPayment") 2) 2 (λ e. cc) (λ e. cc) (λ e i. cc) is.0;
  other_method = λ is. unminted (mint_turn (codes "getIssuer") 1) 1 (λ e. cc) (λ e. cc) (λ e i. cc) is.0;
  other_mint = λ is. unminted (call_turn (codes "zmint2") (codes "mintGains") done 1) 1 (λ e. cc) (λ e. cc) (λ e i. cc) is.1.0;
  refused_call = λ is. unminted (call_turn (codes "zmint2") (codes "mintGains") not_done 2) 2 (λ e. cc) (λ e. cc) (λ e i. cc) is.1.0;
  not_invitations = λ is. unminted (call_turn (codes "zcf7") (codes "makeInvitation") done 1) 1 (λ e. cc) (λ e. cc) (λ e i. cc) is.1.0;
  other_purse = λ is. let e = is.0 in cc;
  deposit = λ is. let e = is.0 in cc;
  unasked = λ is. unminted tick_turn 1 (λ e. cc) (λ e. cc) (λ e i. cc) is.0;
}
