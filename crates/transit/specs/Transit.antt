-- What is out of each brand, and what the hand's own store has of it, which is out too.
use Rattle.std.specs.Prelude.{◌≡◌, ℕ, ◌<◌, ◌≤◌, List, [], ◌∷◌, length, slice_index_or, slice_set, refl}
use Rattle.std.specs.Coded.{Coded, code_by, coded×, coded_list}
use Rattle.ertp_mint.specs.amount_math.Content.{Content, Contains, nothing, sum}
use Rattle.ertp_mint.specs.amount_math.Counted.{counted}
use Rattle.ertp_mint.specs.amount_math.Held.{Held, HasRoom, coded_held}
use Rattle.ertp_mint.specs.amount_math.ValueView.{ValueView, Fits, keys_of}
use Rattle.ertp_mint.specs.amount_math.declared.Amount.{Amount}
use Rattle.ertp_mint.specs.amount_math.declared.Kind.{Kind}
use Rattle.ertp_mint.specs.amount_math.declared.Kind.TheVariants.{Nat}
use Rattle.ertp_mint.specs.BrandSupply.{BrandSupply}
use Rattle.ertp_mint.specs.Circulating.{CirculationView, circulation_at, coded_circulation, with_unretired}

-- by brand: what is out, what the hand's store has being out too, and what that store has
pub record TransitView : Type 0 where
  pub out : List CirculationView
  pub hand : List Held

-- the numbers that stand for them, which a model needs
abbrev pub coded_transit : Coded TransitView
coded_transit = code_by (List CirculationView × List Held) (coded× (coded_list coded_circulation) (coded_list coded_held)) (λ t. (t.out, t.hand)) (λ p. record { out = p.0; hand = p.1 }) (λ _. refl)

-- a store of the hand that was just made, and what is read where none was
abbrev pub empty_hand : Kind → Held
empty_hand kind = record { value = record { kind = kind; content = nothing }; room = 0 }

abbrev pub held_at : List Held → ℕ → Held
held_at hand b = slice_index_or hand b (empty_hand Nat)

abbrev pub in_store : TransitView → ℕ → Content
in_store t b = (held_at t.hand b).value.content

abbrev pub supply_in : TransitView → ℕ → BrandSupply
supply_in t b = (circulation_at t.out b).supply

abbrev pub kind_in : TransitView → ℕ → Kind
kind_in t b = (supply_in t b).outstanding.kind

-- with another circulation of a brand, and with another store of the hand
abbrev pub with_out : TransitView → ℕ → CirculationView → TransitView
with_out t b x = record t { out = slice_set t.out b x }

abbrev pub with_hand : TransitView → ℕ → Held → TransitView
with_hand t b h = record t { hand = slice_set t.hand b h }

-- a parcel is on its way: beside what the hand's store has, it is out
pub record IsOnItsWay (t : TransitView) (a : Amount) : Type 0 where
  pub made : a.brand < length t.out
  pub kind : kind_in t a.brand ≡ a.value.kind
  pub has : Contains (supply_in t a.brand).outstanding.content (sum (in_store t a.brand) a.value.content)

-- and there is room for it in the hand's store
pub record CanHold (t : TransitView) (a : Amount) : Type 0 where
  pub way : IsOnItsWay t a
  pub room : HasRoom a.value.kind (keys_of (sum (in_store t a.brand) a.value.content)) (held_at t.hand a.brand).room

-- the hand's store has a value
pub record IsInStore (t : TransitView) (b : ℕ) (w : ValueView) : Type 0 where
  pub made : b < length t.out
  pub kind : kind_in t b ≡ w.kind
  pub has : Contains (in_store t b) w.content

-- ---- how it is kept: what the hand's store has is counted as retired meanwhile

-- what is out, where so much of it is in the hand's store, and what is kept beside that
abbrev pub whole_of : CirculationView → Content → CirculationView
whole_of x c = with_unretired x c

abbrev pub wholes : List CirculationView → List Held → List CirculationView
wholes [] hs = []
wholes (x ∷ xs) [] = x ∷ xs
wholes (x ∷ xs) (h ∷ hs) = whole_of x h.value.content ∷ wholes xs hs

pub record IsKept (x : CirculationView) (h : Held) : Type 0 where
  pub kind : x.supply.outstanding.kind ≡ h.value.kind
  pub burned : counted h.value.content ≤ x.supply.burned
  pub fits : Fits x.supply.outstanding.kind (sum x.supply.outstanding.content h.value.content)
  pub kept : Contains x.kept h.value.content

pub record AreKept (out : List CirculationView) (hand : List Held) : Type 0 where
  pub same : length out ≡ length hand
  pub each : (b : ℕ) → b < length out → IsKept (circulation_at out b) (held_at hand b)
