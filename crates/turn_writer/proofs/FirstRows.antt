-- What stands before the first rows of a journal's text, and what sum rows hold.
use Rattle.std.proofs.Common.{◌≡◌, ℕ, List, false, refl, sym, ap, ◌∙◌}
use Rattle.std.specs.Fmt.{digits}
use Rattle.std.specs.List.{flat_map}
use Rattle.std.specs.Prelude.{codes}
use Rattle.json.specs.Print.{escape_byte}
use Rattle.serde_json.specs.Written.{has_float}
use Rattle.turn_rows.specs.Editions.{version_rows}
use Rattle.turn_rows.specs.Rows.{sum_row}
use Rattle.turn_rows.specs.Texts.{first_rows, row_text}
use Rattle.turn_rows.specs.declared.editions.Edition.{Edition}
use Rattle.turn_rows.specs.declared.editions.Edition.TheVariants.{First, Second}
use Rattle.turn_rows.specs.rights_model.declared.Sum.{Sum}

abbrev first_texts : Edition → ℕ → List ℕ
first_texts e n = flat_map row_text (first_rows e n)

version_text : codes "{\"row\":\"version\",\"version\":2}\n" ≡ first_texts Second 0
unfolding digits escape_byte row_text
version_text = refl

pub version : (e : Edition) (n : ℕ) → e ≡ Second → n ≡ 0 → codes "{\"row\":\"version\",\"version\":2}\n" ≡ first_texts e n
version e n is none = version_text ∙ ap (λ m. first_texts Second m) (sym none) ∙ ap (λ d. first_texts d n) (sym is)

pub flat_sum : (e : Edition) (s : Sum) → has_float (sum_row e s) ≡ false
flat_sum First s = refl
flat_sum Second s = refl
