-- What each holder has of each brand, and what movements make of it (after the law of money of Miller, Morningstar and Frantz).
use Rattle.std.specs.Prelude.{◌≡◌, ◌≢◌, ℕ, Bool, List, [], ◌∷◌, refl}
use Rattle.std.proofs.Common.{sym, subst}
use lib.Dec.{T}
use Rattle.std.specs.FinMap as fin
use Rattle.std.specs.Coded.{Coded, code_by, coded×}
use Rattle.amount_math.specs.Sparse.{Setting, Sparse, same_held, code, at, put, empty}
use Rattle.amount_math.specs.Content.{Content, coded_content, nothing, sum, difference, Contains, is_zero, is_zero_is}
use Rattle.amount_math.specs.ValueView.{ValueView, coded_value_view}
use Rattle.rights_model.specs.declared.Holder.{Holder}
use Rattle.rights_model.specs.declared.Holder.TheVariants.{Outside}
use Rattle.rights_model.specs.declared.Movement.{Movement}
use Rattle.rights_model.specs.Place.{Place, place_cmp, place_total, place_same, coded_place}

-- has no element
abbrev pub is_nothing : Content → Bool
is_nothing c = is_zero (fin.len c.held)

is_nothing_is : (c : Content) → T (is_nothing c) → c ≡ nothing
unfolding empty
is_nothing_is c h = same_held c nothing (fin.empty_of_len c.held (is_zero_is _ h))

nothing_is : T (is_nothing nothing)
unfolding empty
nothing_is = subst (λ n. T (is_zero n)) (sym (fin.len-empty _ ℕ)) tt

pub holdings : Setting place_cmp is_nothing nothing
holdings = record { total = place_total; same = place_same; nothing_is = is_nothing_is; is_nothing_is = nothing_is }

-- a finite map from places to contents. A place that isn't listed holds nothing
abbrev pub Table : Type 0
Table = Sparse place_cmp is_nothing

abbrev pub coded_table : Coded Table
coded_table = code coded_place coded_content

abbrev pub no_holdings : Table
no_holdings = empty

-- what a holder has of a brand
abbrev pub holds : Table → Holder → ℕ → Content
holds t h b = at holdings t (h, b)

-- Outside gives without being lessened
unfoldable pub taken : Table → Holder → ℕ → Content → Table
taken t Outside b c = t
taken t h b c = put holdings t (h, b) (difference (holds t h b) c)

-- and takes without being raised
unfoldable pub given : Table → Holder → ℕ → Content → Table
given t Outside b c = t
given t h b c = put holdings t (h, b) (sum (holds t h b) c)

-- the table after a movement: the content is taken where it comes from and added where it goes
abbrev pub moved : Table → Movement → Table
moved t m = given (taken t m.from m.brand m.value.content) m.to m.brand m.value.content

-- a movement is defined where it comes from Outside or from a holder that has what is moved
pub record CanMove (t : Table) (m : Movement) : Type 0 where
  pub has : m.from ≢ Outside → Contains (holds t m.from m.brand) m.value.content

-- the table after movements, each applied in order
abbrev pub table_after : Table → List Movement → Table
table_after t [] = t
table_after t (m ∷ ms) = table_after (moved t m) ms

-- each is defined in its turn
abbrev pub CanMoveAll : Table → List Movement → Type 0
CanMoveAll t [] = Unit {0}
CanMoveAll t (m ∷ ms) = CanMove t m × CanMoveAll (moved t m) ms

abbrev pub movement : ℕ → Holder → Holder → ValueView → Movement
movement b from to w = record { brand = b; from = from; to = to; value = w }

-- the numbers that stand for a movement, which a model needs
abbrev pub coded_movement : Coded Movement
coded_movement = code_by (Place × (Place × ValueView)) (coded× coded_place (coded× coded_place coded_value_view)) (λ m. ((m.from, m.brand), ((m.to, m.brand), m.value))) (λ p. record { brand = p.0.1; from = p.0.0; to = p.1.0.0; value = p.1.1 }) (λ _. refl)
