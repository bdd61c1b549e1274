-- What is undone: the lists are shorter, and the nodes are those of the shorter lists.
use Rattle.std.specs.Prelude.{ℕ, List, reverse}
use Rattle.promise_store.specs.declared.links.Following.{Following}
use Rattle.promise_store.specs.declared.links.Outcome.{Outcome}
use Rattle.promise_store.specs.Nodes.{Noted}
use Rattle.promise_store.specs.Kept.{AreNodes}

abbrev pub UndoesOutcomes : List Noted → List Outcome → List Noted → List Outcome → Type 0
UndoesOutcomes old os new ends = (fs : List Following) (asked : List ℕ) → AreNodes old fs asked (reverse os) → AreNodes new fs asked (reverse ends)

abbrev pub UndoesAsked : List Noted → List ℕ → List Noted → List ℕ → Type 0
UndoesAsked old asked new ends = (fs : List Following) (os : List Outcome) → AreNodes old fs asked os → AreNodes new fs ends os

abbrev pub UndoesFollows : List Noted → List Following → List Noted → List Following → Type 0
UndoesFollows old fs new ends = (asked : List ℕ) (os : List Outcome) → AreNodes old (reverse fs) asked os → AreNodes new (reverse ends) asked os
