-- The shares of a record that is added to slots, or taken from them.
use Rattle.std.specs.Prelude.{List, [], ◌∷◌, ◌⊎◌, filter, is_none}
use Rattle.proposals.specs.declared.allocations.Share.{Share}
use Rattle.proposals.specs.Shares.{amount_under}
use Rattle.proposals.specs.Slots.{in_byte_order}

-- the first share that doesn't pass shows it
abbrev pub FirstShows : (Share → Type 0) → (Share → Type 0) → List Share → Type 0
FirstShows Passes Shows [] = ⊥
FirstShows Passes Shows (r ∷ rs) = Shows r ⊎ (Passes r × FirstShows Passes Shows rs)

-- the shares of keywords that have no slot, in byte order of the keywords
abbrev pub further : List Share → List Share → List Share
further slots shares = filter (λ r. is_none (amount_under r.keyword slots)) (in_byte_order shares)
