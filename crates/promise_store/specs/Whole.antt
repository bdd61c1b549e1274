-- How the store is kept inside, beside its links.
use Rattle.std.specs.Prelude.{◌≡◌, ℕ, ◌≤◌, Bool, true, List, length, map, nat_lt}
use Rattle.std.specs.List.{list_all}
use Rattle.promise_store.specs.declared.links.Outcome.{Outcome}
use Rattle.promise_store.specs.declared.settlement.Settlement.{Settlement}
use Rattle.promise_store.specs.Linked.{AreAlike, LinkedTurn}
use Rattle.promise_store.specs.States.{settlement_view, is_final}

-- each settlement is one of the first k
abbrev pub are_numbered : ℕ → List Outcome → Bool
are_numbered k os = list_all (λ o. nat_lt o.settlement k) os

-- Each request has what it holds, each settlement is there, and followers are settled as what they follow, at the start (e entries and k settlements) and now.
pub record IsWhole {R : Type 0} (l : LinkedTurn) (es : List R) (ss : List Settlement) (e k : ℕ) : Type 0 where
  pub entries : length es ≡ length l.now.asked
  pub numbered : are_numbered (length ss) l.now.outcomes ≡ true
  pub start_numbered : are_numbered k l.start.outcomes ≡ true
  pub start_entries : e ≡ length l.start.asked
  pub start_within : e ≤ length es
  pub settlements_within : k ≤ length ss
  pub final : list_all is_final (map settlement_view ss) ≡ true
  pub alike : AreAlike l.now.follows l.now.outcomes
  pub start_alike : AreAlike l.start.follows l.start.outcomes
