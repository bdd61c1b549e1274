-- What is staged of seats: the shares of each, by the seat's number, in the order of the numbers (Zoe).
use Rattle.std.specs.Prelude.{ℕ, List, Option}
use Rattle.std.specs.BTreeMap.{insert_entry, is_at}
use Rattle.std.specs.Coded.{Coded, coded×, coded_list, coded_ℕ}
use Rattle.std.specs.Map.{lookup, remove_entry}
use Rattle.std.specs.Ordering.{nat_cmp}
use Rattle.proposals.specs.Shares.{coded_share}
use Rattle.proposals.specs.declared.allocations.Share.{Share}

-- the numbers that stand for what is staged, which a model needs
abbrev pub coded_staging : Coded (List (ℕ × List Share))
coded_staging = coded_list (coded× coded_ℕ (coded_list coded_share))

-- what is staged of a seat
abbrev pub staged_at : ℕ → List (ℕ × List Share) → Option (List Share)
staged_at seat staging = lookup (is_at (nat_cmp seat)) staging

-- with these shares staged of a seat, in place of what was
abbrev pub with_staged : ℕ → List Share → List (ℕ × List Share) → List (ℕ × List Share)
with_staged seat shares staging = insert_entry nat_cmp staging seat shares

-- without what is staged of a seat
abbrev pub without_staged : ℕ → List (ℕ × List Share) → List (ℕ × List Share)
without_staged seat staging = remove_entry (is_at (nat_cmp seat)) staging
