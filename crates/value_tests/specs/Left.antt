-- What entries have of each key more than others.
use Rattle.std.specs.Prelude.{ℕ, ◌-◌, nat_lt, Bool, List, filter, map}
use Rattle.refusals.specs.amount_math.Entries.{Entries, tally}

-- a key with how many more there are of it
abbrev pub less_by : Entries → List ℕ × ℕ → List ℕ × ℕ
less_by others e = (e.0, e.1 - tally others e.0)

abbrev pub has_some : List ℕ × ℕ → Bool
has_some e = nat_lt 0 e.1

-- the keys of which there are more
abbrev pub left_of : Entries → Entries → Entries
left_of others es = filter has_some (map (less_by others) es)
