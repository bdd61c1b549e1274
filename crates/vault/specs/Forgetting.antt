-- What movements retired is kept while they may be worked backwards, and is forgotten at a turn's end.
use Rattle.std.specs.Prelude.{◌≡◌, ℕ, ◌<◌, List, [], ◌∷◌, length}
use Rattle.vault_model.specs.amount_math.Content.{nothing}
use Rattle.vault_model.specs.Backwards.{retired_by}
use Rattle.vault_model.specs.rights_model.declared.Movement.{Movement}
use Rattle.vault.specs.Memory.{given_up_in, kept_of, lists_of, staged_of}
use Rattle.vault.specs.declared.stores.Stores.{Stores}

-- movements are of brands that were made
abbrev pub AreMade : ℕ → List Movement → Type 0
AreMade n [] = Unit {0}
AreMade n (m ∷ ms) = (m.brand < n) × AreMade n ms

-- movements that are left to be forgotten retired what is kept, and all else stays
pub record IsForgetting (p q : Stores) (ms : List Movement) : Type 0 where
  pub lists : lists_of q ≡ lists_of p
  pub staging : staged_of q ≡ staged_of p
  pub given_up : given_up_in q ≡ given_up_in p
  pub made : AreMade (length q.transit.out) ms
  pub kept : (b : ℕ) → kept_of q b ≡ retired_by ms b

-- what movements retired is kept no longer, and all else stays
pub record IsForgotten (p q : Stores) : Type 0 where
  pub lists : lists_of q ≡ lists_of p
  pub staging : staged_of q ≡ staged_of p
  pub given_up : given_up_in q ≡ given_up_in p
  pub kept : (b : ℕ) → kept_of q b ≡ nothing
