-- Lists of numbers by instance: the seats of each, in the order of their making.
use Rattle.std.specs.Prelude.{ℕ, List, [], unwrap_or}
use Rattle.std.specs.BTreeMap.{is_at}
use Rattle.std.specs.Coded.{Coded, coded×, coded_list, coded_ℕ}
use Rattle.std.specs.Map.{lookup}
use Rattle.std.specs.Ordering.{nat_cmp}

-- the numbers that stand for such lists, which a model needs
abbrev pub coded_lists : Coded (List (ℕ × List ℕ))
coded_lists = coded_list (coded× coded_ℕ (coded_list coded_ℕ))

-- the list of an instance: none stands for an empty one
abbrev pub list_at : List (ℕ × List ℕ) → ℕ → List ℕ
list_at lists instance = unwrap_or (lookup (is_at (nat_cmp instance)) lists) []
