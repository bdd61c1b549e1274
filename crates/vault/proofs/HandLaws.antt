-- What the hand has after one movement more, and in a draft that was just begun.
use Rattle.std.proofs.Common.{◌≡◌, ℕ, ◌==◌, cond, List, [], ◌∷◌, length, refl, ap}
use Rattle.std.proofs.lemmas.List.{reverse-append}
use Rattle.vault_model.specs.amount_math.Content.{nothing}
use Rattle.vault_model.specs.Backwards.{from_hand, in_hand, to_hand}
use Rattle.vault_model.specs.Lists.{Lists}
use Rattle.vault_model.specs.rights_model.declared.Movement.{Movement}
use Rattle.vault.specs.Drafts.{DraftState, HandGoes, IsClean, IsValid, after, begun, given_at, hand_now}
use Rattle.vault.proofs.GivenUp.{read_nothing}
use Rattle.vault.proofs.Steps.{none_within}

-- of its brand the hand has what came and not what went, and of others what it had
pub hand_after : (d : DraftState) (m : Movement) (b : ℕ) → hand_now (after d m) b ≡ cond (m.brand == b) (to_hand m.to (from_hand m.from (hand_now d b) m.value.content) m.value.content) (hand_now d b)
hand_after d m b = ap (λ (l : List Movement). in_hand l b) (reverse-append d.movements (m ∷ []))

-- a draft that was just begun can be committed, and undone
pub begun_clean : (s : Lists) → IsClean (begun s)
begun_clean s = record { sound = refl; hand = λ b. refl }

pub begun_goes : (s : Lists) → HandGoes (begun s)
begun_goes s = record { each = λ b lt. read_nothing (length s.out) b }

-- where the hand has nothing of a brand, its own store has nothing of it
pub none_given_up : (d : DraftState) → IsValid d → (b : ℕ) → hand_now d b ≡ nothing → given_at d b ≡ nothing
none_given_up d valid b none = none_within (hand_now d b) (given_at d b) none (valid.given b)
