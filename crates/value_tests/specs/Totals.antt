-- What values have together.
use Rattle.std.specs.Prelude.{◌≡◌, ℕ, ◌+◌, List, [], ◌∷◌}
use Rattle.refusals.specs.amount_math.Content.{Content, count, nothing, sum}
use Rattle.refusals.specs.amount_math.ValueView.{ValueView}

-- the sum of the values' contents
abbrev pub total_of : List ValueView → Content
total_of [] = nothing
total_of (w ∷ ws) = sum w.content (total_of ws)

-- of each element there are as many more as f says
abbrev pub HasMore : (List ℕ → ℕ) → Content → Content → Type 0
HasMore f c d = (k : List ℕ) → count d k ≡ count c k + f k
