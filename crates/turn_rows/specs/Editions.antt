-- In what the editions of a journal's text differ.
use Rattle.std.specs.Prelude.{ℕ, ◌^◌, ◌-◌, List, [], ◌∷◌, codes, decimal}
use Rattle.rights_model.specs.declared.Sum.{Sum}
use Rattle.serde_json.specs.Data as json
use Rattle.turn_rows.specs.declared.editions.Edition.{Edition}
use Rattle.turn_rows.specs.declared.editions.Edition.TheVariants.{First, Second}

-- the edition that a run writes
abbrev pub written : Edition
written = Second

-- nat values are below it
abbrev pub nat_end : Edition → ℕ
nat_end First = 2 ^ 63
nat_end Second = 2 ^ 120

-- `{"row":"version","version":2}`
abbrev pub version_row : json.Data
version_row =
    json.object (json.member (codes "row") (json.string (codes "version")) (json.member (codes "version") (json.number (json.unsigned 2)) json.no_members))

-- it is the first row of the second edition
abbrev pub version_rows : Edition → List json.Data
version_rows First = []
version_rows Second = version_row ∷ []

-- what a sum row has last: the supply, minted less burned
abbrev pub supply_members : Edition → Sum → json.Members
supply_members First s = json.no_members
supply_members Second s = json.member (codes "supply") (json.string (decimal (s.minted - s.burned))) json.no_members
