-- Movements that are made together in a draft, and what the hand has of two drafts.
use Rattle.std.specs.Prelude.{◌≡◌, ℕ, ◌+◌, ◌==◌, if◌then◌else◌, List, [], ◌∷◌, length}
use Rattle.vault_model.specs.amount_math.Content.{Contains, Content, count, nothing}
use Rattle.vault_model.specs.rights_model.declared.Movement.{Movement}
use Rattle.vault_model.specs.Tables.{no_hand}
use Rattle.vault.specs.Drafts.{DraftState, after, given_at, hand_now}

-- what was given up is in the hand, as in each valid draft
pub record HandHoldsGiven (d : DraftState) : Type 0 where
  pub each : (b : ℕ) → Contains (hand_now d b) (given_at d b)

-- the draft after movements, each in its turn
abbrev pub after_all : DraftState → List Movement → DraftState
after_all d [] = d
after_all d (m ∷ ms) = after_all (after d m) ms

-- each brand has a place in the hand's own store
abbrev pub IsListed : DraftState → Type 0
IsListed d = length d.given_up ≡ length d.now.out

-- this of one brand, and nothing of another
abbrev pub only : ℕ → Content → ℕ → Content
only b c e = if b == e then c else nothing

-- a hand is made of two
pub record AreTogether (whole part rest : ℕ → Content) : Type 0 where
  pub each : (e : ℕ) (k : List ℕ) → count (whole e) k ≡ count (part e) k + count (rest e) k

-- of two drafts of one turn the first has this more in hand, where what was given up is put aside
pub record HasMore (first second : DraftState) (more : ℕ → Content) : Type 0 where
  pub kept : first.kept ≡ second.kept
  pub brands : length first.now.out ≡ length second.now.out
  pub hand : (e : ℕ) (k : List ℕ) → count (hand_now first e) k + count (given_at second e) k ≡ count (hand_now second e) k + count (given_at first e) k + count (more e) k

-- what was kept and the hand, less what was given up, are as they were
abbrev pub HandStays : DraftState → DraftState → Type 0
HandStays old new = HasMore old new no_hand
