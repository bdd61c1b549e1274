-- What a promise's own links are, and how one promise's change in the list of all.
use Rattle.std.specs.Prelude.{ℕ, ◌-◌, List, [], ◌∷◌, Option, None, Some, length, slice_index_or, slice_set, take}

pub record Noted : Type 0 where
  pub leader : Option ℕ
  pub followers : List ℕ
  pub requests : List ℕ
  pub settlement : Option ℕ

-- it follows none, nobody waits for it, and it isn't settled
abbrev pub bare : Noted
bare = record { leader = None; followers = []; requests = []; settlement = None }

-- where none was made, nothing is known
abbrev pub node_at : List Noted → ℕ → Noted
node_at nodes n = slice_index_or nodes n bare

-- without its last
abbrev pub shorter : List ℕ → List ℕ
shorter xs = take (length xs - 1) xs

-- the promise p has this settlement, or none
abbrev pub settlement_at : ℕ → Option ℕ → List Noted → List Noted
settlement_at p s nodes = slice_set nodes p (record (node_at nodes p) { settlement = s })

-- these promises have the settlement k
abbrev pub with_settlement : ℕ → List ℕ → List Noted → List Noted
with_settlement k [] nodes = nodes
with_settlement k (p ∷ ps) nodes = with_settlement k ps (settlement_at p (Some k) nodes)

-- the promise p follows none
abbrev pub without_leader : ℕ → List Noted → List Noted
without_leader p nodes = slice_set nodes p (record (node_at nodes p) { leader = None })

-- the last of the followers of t is gone
abbrev pub without_follower : ℕ → List Noted → List Noted
without_follower t nodes = slice_set nodes t (record (node_at nodes t) { followers = shorter (node_at nodes t).followers })

-- the last of the requests for p is gone
abbrev pub without_request : ℕ → List Noted → List Noted
without_request p nodes = slice_set nodes p (record (node_at nodes p) { requests = shorter (node_at nodes p).requests })
