-- Contents by keys, as a map lists them: what is at each key, and the table that contents at places make.
use Rattle.std.specs.Prelude.{◌≡◌, ◌≢◌, List, [], ◌∷◌, Some, if◌then◌else◌, unwrap_or}
use Rattle.std.specs.BTreeMap.{is_at}
use Rattle.std.specs.Map.{lookup}
use Rattle.std.specs.declared.cmp.Ordering.{Ordering}
use Rattle.row_records.specs.amount_math.Content.{Content, nothing}
use Rattle.row_records.specs.amount_math.Sparse.{put}
use Rattle.row_records.specs.rights_model.Place.{Place}
use Rattle.row_records.specs.rights_model.Table.{Table, holdings, no_holdings}

-- what is at a key; nothing where the key isn't listed
abbrev pub content_at : {K : Type 0} → (K → K → Ordering) → List (K × Content) → K → Content
content_at cmp rows k = unwrap_or (lookup (is_at (cmp k)) rows) nothing

-- at no key that is listed is nothing
pub record AreFilled {K : Type 0} (cmp : K → K → Ordering) (rows : List (K × Content)) : Type 0 where
  pub filled : (k : K) → lookup (is_at (cmp k)) rows ≢ Some nothing

-- contents were put at a key
pub record IsPut {K : Type 0} (cmp : K → K → Ordering) (old new : List (K × Content)) (k : K) (c : Content) : Type 0 where
  pub each : (q : K) → content_at cmp new q ≡ (if is_at (cmp k) q then c else content_at cmp old q)

-- the table that has that at those places
abbrev pub table_of : List (Place × Content) → Table
table_of [] = no_holdings
table_of (e ∷ es) = put holdings (table_of es) e.0 e.1
