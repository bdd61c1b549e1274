use Rattle.std.proofs.Common.{ℕ, ◌<◌, ◌≤◌, ◌+◌}
use Rattle.amount_math.specs.Entries.{entry_at}
use Rattle.ertp_mint.specs.Places.{place_in}
use Rattle.ertp_mint.proofs.places.first_past.Given as goal

abbrev pub invariant-loop-i : goal.invariant-loop-i
invariant-loop-i l = (j : ℕ) → j < l.i → (place_in l.places.entries (entry_at l.entries j).0).out + (entry_at l.entries j).1 ≤ l.most
