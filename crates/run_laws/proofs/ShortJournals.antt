-- A journal whose turns' rows and close row are not too long is none of which a row is.
use Rattle.std.proofs.Common.{ℕ, List, [], ◌∷◌, ◌++◌, length, sym, subst, arith, append_assoc}
use Rattle.std.specs.Fmt.{digits}
use Rattle.std.specs.List.{AllByRecursion, flat_map}
use Rattle.licence_laws.specs.turn_writer.ShortRows.{HasShortJournal, HasShortRows, IsShortRow}
use Rattle.json.specs.Print.{escape_byte}
use Rattle.message_lines.specs.turn_rows.Editions.{version_rows}
use Rattle.message_lines.specs.turn_rows.Rows.{close_row, rows_of}
use Rattle.message_lines.specs.turn_rows.Turns.{Turn}
use Rattle.message_lines.specs.turn_rows.declared.editions.Edition.{Edition}
use Rattle.message_lines.specs.turn_rows.declared.editions.Edition.TheVariants.{First, Second}

-- what holds of each of both holds of each of them together
pub both_each : {A : Type 0} (P : A → Type 0) (xs ys : List A) → AllByRecursion P xs → AllByRecursion P ys → AllByRecursion P (xs ++ ys)
both_each P [] ys h k = k
both_each P (x ∷ xs) ys h k = (h.0, both_each P xs ys h.1 k)

version_short : (e : Edition) → AllByRecursion IsShortRow (version_rows e)
unfolding digits escape_byte
version_short First = tt
version_short Second = (omega arith, tt)

rows_short : (e : Edition) (ts : List Turn) (left turns : ℕ) → AllByRecursion (HasShortRows e) ts → IsShortRow (close_row left turns) → AllByRecursion IsShortRow (flat_map (rows_of e) ts ++ close_row left turns ∷ [])
rows_short e [] left turns h close = (close, tt)
rows_short e (t ∷ ts) left turns h close =
    subst (AllByRecursion IsShortRow) (sym (append_assoc (rows_of e t) (flat_map (rows_of e) ts) (close_row left turns ∷ [])))
    (both_each IsShortRow (rows_of e t) (flat_map (rows_of e) ts ++ close_row left turns ∷ []) h.0 (rows_short e ts left turns h.1 close))

pub journal_short : (e : Edition) (ts : List Turn) (left : ℕ) → AllByRecursion (HasShortRows e) ts → IsShortRow (close_row left (length ts)) → HasShortJournal e ts left
journal_short e ts left h close =
    both_each IsShortRow (version_rows e) (flat_map (rows_of e) ts ++ close_row left (length ts) ∷ []) (version_short e) (rows_short e ts left (length ts) h close)
