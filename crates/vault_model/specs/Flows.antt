-- What movements bring to each place and take from it, and lists of movements that are made together: as they are written, and as they are done by way of the hand.
use Rattle.std.specs.Prelude.{◌≡◌, ◌≢◌, ℕ, ◌+◌, cond, List, [], ◌∷◌, ◌++◌}
use Rattle.std.specs.Ordering.{eq_by_cmp}
use Rattle.rights_model.specs.amount_math.Content.{Content, nothing, sum, count}
use Rattle.rights_model.specs.amount_math.ValueView.{ValueView}
use Rattle.rights_model.specs.amount_math.declared.Kind.{Kind}
use Rattle.rights_model.specs.declared.Holder.{Holder}
use Rattle.rights_model.specs.declared.Holder.TheVariants.{Purse, Payment, Slot, Hand, Outside}
use Rattle.rights_model.specs.declared.Movement.{Movement}
use Rattle.rights_model.specs.Place.{Place, place, place_cmp}
use Rattle.rights_model.specs.Table.{movement}

-- how many of an element come to a place, or leave it, by a movement whose end is there
abbrev pub share : Place → List ℕ → Holder → ℕ → Content → ℕ
share p k Outside b c = 0
share p k (Purse n) b c = cond (eq_by_cmp place_cmp p (place (Purse n) b)) (count c k) 0
share p k (Payment n) b c = cond (eq_by_cmp place_cmp p (place (Payment n) b)) (count c k) 0
share p k (Slot s w) b c = cond (eq_by_cmp place_cmp p (place (Slot s w) b)) (count c k) 0
share p k Hand b c = cond (eq_by_cmp place_cmp p (place Hand b)) (count c k) 0

abbrev pub came : Place → List ℕ → List Movement → ℕ
came p k [] = 0
came p k (m ∷ ms) = share p k m.to m.brand m.value.content + came p k ms

abbrev pub left : Place → List ℕ → List Movement → ℕ
left p k [] = 0
left p k (m ∷ ms) = share p k m.from m.brand m.value.content + left p k ms

-- two lists bring each place the same, less what they take from it
pub record SameFlows (ms ns : List Movement) : Type 0 where
  pub each : (p : Place) (k : List ℕ) → came p k ms + left p k ns ≡ came p k ns + left p k ms

-- a holder with a value: what goes from it, or what comes to it
abbrev pub Part : Type 0
Part = Holder × ValueView

-- each part goes from its holder to one, and each goes from one to its holder
abbrev pub gathered : ℕ → Holder → List Part → List Movement
gathered b to [] = []
gathered b to (p ∷ ps) = movement b p.0 to p.1 ∷ gathered b to ps

abbrev pub spread : ℕ → Holder → List Part → List Movement
spread b from [] = []
spread b from (p ∷ ps) = movement b from p.0 p.1 ∷ spread b from ps

-- the parts as one value
abbrev pub content_of : List Part → Content
content_of [] = nothing
content_of (p ∷ ps) = sum p.1.content (content_of ps)

abbrev pub whole_of : Kind → List Part → ValueView
whole_of kind ps = record { kind = kind; content = content_of ps }

-- as it is done for a combination: each part to the hand, and from there all of it at once
abbrev pub combined : ℕ → Kind → Holder → List Part → List Movement
combined b kind to ps = gathered b Hand ps ++ movement b Hand to (whole_of kind ps) ∷ []

-- as it is done for a split: all of it at once to the hand, and each part from there
abbrev pub split_up : ℕ → Kind → Holder → List Part → List Movement
split_up b kind from ps = movement b from Hand (whole_of kind ps) ∷ spread b Hand ps

-- the holder is no part's
abbrev pub IsApart : Holder → List Part → Type 0
IsApart h [] = Unit {0}
IsApart h (p ∷ ps) = (p.0 ≢ h) × IsApart h ps

-- each is inside
abbrev pub AreInside : List Part → Type 0
AreInside ps = IsApart Outside ps
