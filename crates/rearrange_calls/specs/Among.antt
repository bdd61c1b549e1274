-- Numbers of seats among others, and which seats a reallocation is planned from: the listed ones, and all of
-- which something is staged.
use Rattle.std.specs.Prelude.{◌≡◌, ℕ, ◌<◌, ◌⊎◌, List, [], ◌∷◌, length, All, IsSome}
use Rattle.rules.specs.world_state.Worlds.{State, staged_at}

abbrev pub IsAmong : ℕ → List ℕ → Type 0
IsAmong n [] = ⊥
IsAmong n (m ∷ ms) = (m ≡ n) ⊎ IsAmong n ms

-- seats that were made, among which are given ones, and all of which something is staged
pub record HaveAll (w : State) (seats ns : List ℕ) : Type 0 where
  pub made : All (λ n. n < length w.seats) ns
  pub listed : (n : ℕ) → IsAmong n seats → IsAmong n ns
  pub staged : (n : ℕ) → IsSome (staged_at w.staging n) → IsAmong n ns
