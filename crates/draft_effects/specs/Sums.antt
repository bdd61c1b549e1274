-- What movements move together, as one value.
use Rattle.std.specs.Prelude.{◌≡◌, List, [], ◌∷◌}
use Rattle.draft_reads.specs.amount_math.Content.{Content, nothing, sum}
use Rattle.draft_reads.specs.amount_math.ValueView.{IsValue, ValueView, with_content}
use Rattle.draft_reads.specs.amount_math.declared.Kind.TheVariants.{Nat}
use Rattle.draft_reads.specs.rights_model.declared.Movement.{Movement}

abbrev pub content_moved : List Movement → Content
content_moved [] = nothing
content_moved (m ∷ ms) = sum m.value.content (content_moved ms)

-- of the first's kind
abbrev pub whole_moved : List Movement → ValueView
whole_moved [] = record { kind = Nat; content = nothing }
whole_moved (m ∷ ms) = with_content m.value (content_moved (m ∷ ms))

-- what is moved can be added to a value, one after another: each sum is a value
abbrev pub AddUp : ValueView → List Movement → Type 0
AddUp w [] = Unit {0}
AddUp w (m ∷ ms) =
    ((w.kind ≡ m.value.kind) × IsValue w.kind (sum w.content m.value.content))
    × AddUp (with_content w (sum w.content m.value.content)) ms

abbrev pub HaveSum : List Movement → Type 0
HaveSum [] = ⊥
HaveSum (m ∷ ms) = AddUp m.value ms

-- what is left of adding: what was added so far is the beginning of all
pub record IsAdding (whole : ValueView) (all left : List Movement) : Type 0 where
  pub can : AddUp whole left
  pub kind : whole.kind ≡ (whole_moved all).kind
  pub content : sum whole.content (content_moved left) ≡ content_moved all
