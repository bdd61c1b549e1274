-- All promises and requests, as contracts see them: at the turn's start, and now.
use Rattle.std.specs.Prelude.{◌≡◌, ℕ, List, [], ◌∷◌, ◌++◌, Option, None, Some, length}
use Rattle.promise_store.specs.declared.links.Consequence.{Consequence}
use Rattle.promise_store.specs.declared.settlement.Settlement.{Settlement}
use Rattle.promise_store.specs.Linked.{LeadsTo, Linked, none_made, leader, settlement_of, one_more, asking, following, settling}
use Rattle.promise_store.specs.Cascade.{Settles, notified, settled_in}
use Rattle.promise_store.specs.States.{SettlementView, StateView, settlement_view, state_of}

-- The links between the promises; what each request holds, by its number; and what promises were settled
-- with, by the number of the settlement.
pub record Store (R : Type 0) : Type 0 where
  pub links : Linked
  pub entries : List R
  pub settlements : List SettlementView

pub record Turn (R : Type 0) : Type 0 where
  pub start : Store R
  pub now : Store R

module _ {R : Type 0} where
  -- there are none
  abbrev pub none_yet : Store R
  none_yet = record { links = none_made; entries = []; settlements = [] }

  -- what the promise p is
  abbrev pub state_at : Store R → ℕ → StateView
  state_at s p = state_of s.settlements (settlement_of s.links.outcomes p) (leader s.links.follows p)

  -- how it was is forgotten, and how it is
  abbrev pub kept_at : Turn R → Turn R
  kept_at t = record { start = t.now; now = t.now }

  abbrev pub back_at : Turn R → Turn R
  back_at t = record { start = t.start; now = t.start }

  -- what is now is changed
  abbrev pub changed : (Store R → Store R) → Turn R → Turn R
  changed f t = record { start = t.start; now = f t.now }

  -- one more promise is made
  abbrev pub one_made : Store R → Store R
  one_made s = record s { links = one_more s.links }

  -- the promises of these events are settled, one after another, with one more settlement
  abbrev pub with_settled : List Consequence → Settlement → Store R → Store R
  with_settled es v s = record { links = settling (length s.settlements) (settled_in es) s.links; entries = s.entries; settlements = s.settlements ++ settlement_view v ∷ [] }

  -- one more request, that holds r, asks for p
  abbrev pub with_request : ℕ → R → Store R → Store R
  with_request p r s = record s { links = asking p s.links; entries = s.entries ++ r ∷ [] }

-- the links after p came to follow t, by the number of the settlement of t
abbrev pub links_following : Option ℕ → ℕ → ℕ → List Consequence → Linked → Linked
links_following None p t es l = following p t l
links_following (Some k) p t es l = settling k (settled_in es) l

-- the events of it, by the number of the settlement of t
abbrev pub EventsOfFollowing : Option ℕ → Linked → ℕ → List Consequence → Type 0
EventsOfFollowing None l p es = es ≡ []
EventsOfFollowing (Some k) l p es = Settles l (p ∷ []) es

-- the event of the request r for p, by the number of the settlement of p
abbrev pub answer_of : Option ℕ → ℕ → ℕ → Option Consequence
answer_of None p r = None
answer_of (Some k) p r = Some (notified p r)

-- where t is settled, the events are those of settling p; else there are none
abbrev pub ComesOfFollowing : Linked → ℕ → ℕ → List Consequence → Type 0
ComesOfFollowing l p t es = EventsOfFollowing (settlement_of l.outcomes t) l p es

-- what comes of one more request for p: where p is settled, the request is answered
abbrev pub answer_at_once : Linked → ℕ → Option Consequence
answer_at_once l p = answer_of (settlement_of l.outcomes p) p (length l.asked)

-- after p came to follow t with these events: it follows t, or it is settled at once, as t is
abbrev pub with_following : {R : Type 0} → ℕ → ℕ → List Consequence → Store R → Store R
with_following p t es s = record s { links = links_following (settlement_of s.links.outcomes t) p t es s.links }

-- every promise that leads to p is v then, and each other is what it was
pub record AreSettledWith {R : Type 0} (v : StateView) (p : ℕ) (old new : Store R) : Type 0 where
  pub leading : (n : ℕ) → LeadsTo old.links.follows p n → state_at new n ≡ v
  pub others : (n : ℕ) → (LeadsTo old.links.follows p n → ⊥) → state_at new n ≡ state_at old n
