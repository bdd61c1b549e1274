-- How the links are kept inside: by promise, beside the lists of what came, and how long these were at the turn's start.
use Rattle.std.specs.Prelude.{◌≡◌, ℕ, ◌≤◌, List, length, reverse, take}
use Rattle.promise_store.specs.declared.links.Following.{Following}
use Rattle.promise_store.specs.declared.links.Outcome.{Outcome}
use Rattle.promise_store.specs.declared.links.Lengths.{Lengths}
use Rattle.promise_store.specs.Nodes.{Noted, bare, node_at}
use Rattle.promise_store.specs.Linked.{Linked, LinkedTurn, most_made, noted_at, IsForest, IsInOrder}

-- each node has what the lists come to at its promise
pub record AreNodes (nodes : List Noted) (fs : List Following) (asked : List ℕ) (os : List Outcome) : Type 0 where
  pub each : (n : ℕ) → node_at nodes n ≡ noted_at fs asked os n
  pub forest : IsForest fs
  pub order : IsInOrder fs os

abbrev pub linked_now : List Noted → List Following → List ℕ → List Outcome → Linked
linked_now nodes fs asked os = record { made = length nodes; follows = reverse fs; asked = asked; outcomes = reverse os }

abbrev pub linked_start : Lengths → List Following → List ℕ → List Outcome → Linked
linked_start s fs asked os = record { made = s.made; follows = reverse (take s.follows fs); asked = take s.asked asked; outcomes = reverse (take s.outcomes os) }

abbrev pub linked_turn : Lengths → List Noted → List Following → List ℕ → List Outcome → LinkedTurn
linked_turn s nodes fs asked os = record { start = linked_start s fs asked os; now = linked_now nodes fs asked os }

-- The nodes are those of now, and nothing of the start names a promise that was made later.
pub record IsKept (s : Lengths) (nodes : List Noted) (fs : List Following) (asked : List ℕ) (os : List Outcome) : Type 0 where
  pub now : AreNodes nodes (reverse fs) asked (reverse os)
  pub start : (n : ℕ) → s.made ≤ n → noted_at (reverse (take s.follows fs)) (take s.asked asked) (reverse (take s.outcomes os)) n ≡ bare
  pub made_within : s.made ≤ length nodes
  pub follows_within : s.follows ≤ length fs
  pub asked_within : s.asked ≤ length asked
  pub outcomes_within : s.outcomes ≤ length os
  pub few : length nodes ≤ most_made
