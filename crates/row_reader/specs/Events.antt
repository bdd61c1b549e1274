-- Rows of events and sums, as their readers see them.
use Rattle.std.specs.Prelude.{◌≡◌, ◌<◌, ℕ, List, [], ◌∷◌, map, codes, decimal, Option, Some}
use Rattle.serde_json.specs.Data as json
use Rattle.serde_json.specs.Find.{get_member}
use Rattle.turn_rows.specs.Form.{HasHolderForm, HasSettlementForm, HasValueForm, brands_end, names_of, objects_end}
use Rattle.turn_rows.specs.Rows.{brand_name, settle_row}
use Rattle.turn_rows.specs.Turns.{Move, Settlement}
use Rattle.turn_rows.specs.declared.editions.Edition.{Edition}
use Rattle.turn_rows.specs.declared.editions.Edition.TheVariants.{First, Second}
use Rattle.turn_rows.specs.rights_model.declared.Sum.{Sum}
use Rattle.row_records.specs.Views.{settlement_view}
use Rattle.row_records.specs.declared.rows.Settlement.{Settlement as CodeSettlement}

abbrev pub HasMoveForm : Edition → Move → Type 0
HasMoveForm e m = (m.brand < brands_end) × HasHolderForm m.from × HasHolderForm m.to × HasValueForm e m.value

-- ---- settlements

abbrev pub settled_row : ℕ × Settlement → json.Data
settled_row p = settle_row p.0 p.1

abbrev pub HasSettledForm : ℕ × Settlement → Type 0
HasSettledForm p = (p.0 < objects_end) × HasSettlementForm p.1

abbrev pub settled_view : ℕ × CodeSettlement → ℕ × Settlement
settled_view p = (p.0, settlement_view p.1)

-- ---- sums

abbrev pub first_sum_names : List (List ℕ)
first_sum_names = codes "brand" ∷ codes "burned" ∷ codes "minted" ∷ codes "payments" ∷ codes "purses" ∷ codes "row" ∷ codes "slots" ∷ []

abbrev pub sum_names : Edition → List (List ℕ)
sum_names First = first_sum_names
sum_names Second = codes "brand" ∷ codes "burned" ∷ codes "minted" ∷ codes "payments" ∷ codes "purses" ∷ codes "row" ∷ codes "slots" ∷ codes "supply" ∷ []

abbrev pub HasSumNames : Edition → json.Members → Type 0
HasSumNames e ms = names_of ms ≡ sum_names e

-- the totals of a sum, as its row has them in this order
abbrev pub totals : Sum → List (Option json.Data)
totals s =
    Some (json.string (brand_name s.brand)) ∷ Some (json.string (decimal s.burned)) ∷ Some (json.string (decimal s.minted)) ∷ Some (json.string (decimal s.payments))
    ∷ Some (json.string (decimal s.purses)) ∷ Some (json.string (decimal s.slots)) ∷ []

abbrev pub totals_in : json.Members → List (Option json.Data)
totals_in ms =
    get_member (codes "brand") ms ∷ get_member (codes "burned") ms ∷ get_member (codes "minted") ms ∷ get_member (codes "payments") ms ∷ get_member (codes "purses") ms ∷ get_member (codes "slots") ms ∷ []
