-- A draft with nothing in the hand can be undone; and how many payments are owed to open seats.
use Rattle.std.proofs.Common.{◌≡◌, ℕ, ◌+◌, List, [], ◌∷◌, length, map, refl, sym, ◌∙◌, ap, subst, arith}
use Rattle.world_laws.specs.amount_math.Content.{Content, Contains, count-nothing, nothing, same_content}
use Rattle.world_laws.specs.vault_model.Seats.{KeptSeat, owed_by, owed_by_all}
use Rattle.world_laws.specs.Views.{seat_of, slots_held}
use Rattle.vault.specs.Drafts.{DraftState, HandGoes, IsClean, IsValid, given_at, hand_now}
use Rattle.world_laws.specs.world_state.Good.{open_slots}
use Rattle.draft_reads.specs.Views.{CanGoBack}

pub only_nothing : (c : Content) → Contains nothing c → c ≡ nothing
only_nothing c has = same_content c nothing (λ k. omega (arith, has.each k, count-nothing k))

-- nothing was given up
pub none_given : (d : DraftState) → IsValid d → IsClean d → (b : ℕ) → given_at d b ≡ nothing
none_given d valid clean b = only_nothing (given_at d b) (subst (λ x. Contains x (given_at d b)) (clean.hand b) (valid.given b))

pub clean_goes : (d : DraftState) → IsValid d → IsClean d → HandGoes d
clean_goes d valid clean = record { each = λ b lt. none_given d valid clean b ∙ sym (clean.hand b) }

pub clean_back : (old new : DraftState) → new.kept ≡ old.kept → IsValid new → IsClean new → CanGoBack old new
clean_back old new kept valid clean = record { kept = kept; goes = clean_goes new valid clean }

-- what is owed to open seats, as the world counts it
pub owed_is : (ss : List KeptSeat) → open_slots (map seat_of ss) (map slots_held ss) ≡ owed_by_all ss
owed_is [] = refl
owed_is (s ∷ ss) = ap (λ n. owed_by s + n) (owed_is ss)
