-- What was minted and burned of each brand, and when a table balances with it.
use Rattle.std.specs.Prelude.{◌≡◌, ◌==◌, ℕ, Bool, true, false, if◌then◌else◌, ◌&&◌, List, [], ◌∷◌}
use Rattle.amount_math.specs.declared.Kind.{Kind}
use Rattle.amount_math.specs.Content.{Content, nothing, count, sum, difference}
use Rattle.amount_math.specs.Totals.{total}
use Rattle.amount_math.specs.ValueView.{Fits}
use Rattle.rights_model.specs.declared.Holder.{Holder}
use Rattle.rights_model.specs.declared.Holder.TheVariants.{Purse, Payment, Slot, Hand, Outside}
use Rattle.rights_model.specs.declared.Movement.{Movement}
use Rattle.rights_model.specs.Place.{Place}
use Rattle.rights_model.specs.Table.{Table, holdings, holds}

abbrev pub is_outside : Holder → Bool
is_outside Outside = true
is_outside _ = false

-- a purse, a payment or a slot
abbrev pub is_store : Holder → Bool
is_store (Purse n) = true
is_store (Payment n) = true
is_store (Slot seat keyword) = true
is_store Hand = false
is_store Outside = false

abbrev pub is_hand : Holder → Bool
is_hand Hand = true
is_hand _ = false

abbrev pub is_inside : Holder → Bool
is_inside Outside = false
is_inside _ = true

-- the contents of the brand's movements whose holder passes, added up
abbrev pub moved_where : (Movement → Holder) → List Movement → ℕ → Content
moved_where end [] b = nothing
moved_where end (m ∷ ms) b = if is_outside (end m) && (m.brand == b) then sum m.value.content (moved_where end ms b) else moved_where end ms b

abbrev pub minted : List Movement → ℕ → Content
minted = moved_where (λ m. m.from)

abbrev pub burned : List Movement → ℕ → Content
burned = moved_where (λ m. m.to)

-- a brand's supply is what was minted less what was burned
abbrev pub supply : List Movement → ℕ → Content
supply ms b = difference (minted ms b) (burned ms b)

-- how many of an element of a brand a place counts, where its holder passes
abbrev pub share_of : (Holder → Bool) → ℕ → List ℕ → Place → Content → ℕ
share_of who b k (h, e) c = if who h && (e == b) then count c k else 0

-- how many of an element of a brand those holders have together
abbrev pub total_of : (Holder → Bool) → Table → ℕ → List ℕ → ℕ
total_of who t b k = total (share_of who b k) holdings t

-- for each brand and element, the counts over all purses, payments and slots add up to the supply's count, the hand is empty, and no supply's count passes the bound of the brand's kind
pub record Balanced (t : Table) (kind_of : ℕ → Kind) (supply : ℕ → Content) : Type 0 where
  pub adds_up : (b : ℕ) (k : List ℕ) → total_of is_store t b k ≡ count (supply b) k
  pub hand_empty : (b : ℕ) → holds t Hand b ≡ nothing
  pub bounded : (b : ℕ) → Fits (kind_of b) (supply b)
