-- The rows of escrow as functions, and how one call changes them.
use Rattle.std.specs.Prelude.{ℕ, Bool, ◌==◌, ◌&&◌, if◌then◌else◌, List, unwrap_or}
use Rattle.std.specs.Ordering.{nat_cmp}
use Rattle.std.specs.BTreeMap.{is_at}
use Rattle.std.specs.Map.{lookup}
use Rattle.rights_model.specs.declared.Holder.{Holder}
use Rattle.escrow.specs.declared.totals.Totals.{Totals}
use Rattle.escrow.specs.Running.{zeros}
use Rattle.escrow.specs.Told.{pair_cmp}

abbrev pub totals_at : List (ℕ × Totals) → ℕ → Totals
totals_at rows b = unwrap_or (lookup (is_at (nat_cmp b)) rows) zeros

abbrev pub share_at : List ((ℕ × ℕ) × ℕ) → ℕ → ℕ → ℕ
share_at rows i b = unwrap_or (lookup (is_at (pair_cmp (i, b))) rows) 0

-- n of one brand at a holder, as another brand and other holders count it
abbrev pub part : (Holder → Bool) → Holder → ℕ → ℕ → ℕ → ℕ
part who h brand n b = if who h && (brand == b) then n else 0
