-- What each step of reading a line says of the rows in form.
use Rattle.std.proofs.Common.{◌≡◌, ◌≤◌, ◌↔◌, ℕ, Bool, true, false, List, [], ◌∷◌, ◌++◌, Option, Some, None, Result, Ok, Err, IsTrue, IsUtf8, refl, sym, ap, subst, ◌∙◌}
use Rattle.std.specs.Prelude.{IsErrAnd}
use Rattle.serde_json.specs.Data.{Data, depth}
use Rattle.serde_json.specs.Read.{max_depth, read}
use Rattle.serde_json.specs.Written.{compact_text, has_float}
use Rattle.journal_rows.specs.Row.{HasRowForm, MayBeRow, Row, row_json, row_line}
use Rattle.turn_rows.specs.declared.editions.Edition.{Edition}
use Rattle.row_reader.proofs.RowTexts.{line_feed, line_of, line_text, row_floats, row_read, row_utf8}
use Rattle.row_reader.specs.Reads.{IsAny, WhenBad}
use Rattle.row_reader.specs.declared.fault.RowFault.{RowFault}
use Rattle.row_reader.specs.declared.fault.RowFault.TheVariants.{BadRow, NoMemory}

pub bad_of : (e : RowFault) {P : Type 0} → WhenBad e P → e ≡ BadRow → P
bad_of BadRow h is = h
bad_of NoMemory h is = absurd (cc)

pub fault_is : {T : Type 0} (r : Result T RowFault) (e : RowFault) → IsErrAnd r (λ x. x ≡ e) → r ≡ Err BadRow → e ≡ BadRow
fault_is (Ok x) e h is = absurd h
fault_is (Err x) e h is = let one : x ≡ BadRow = cc in sym h ∙ one

module _ (e : Edition) (r : Row) (line : List ℕ) (form : HasRowForm e r) (same : line ≡ row_line e r) where
  pub no_feed_bad : ((x : List ℕ) → IsAny x → x ++ 10 ∷ [] ≡ line → ⊥) → ⊥
  no_feed_bad none = none (compact_text (row_json e r)) tt (sym (same ∙ line_feed e r))

  -- the text before the line feed
  module _ (text : List ℕ) (is : text ++ 10 ∷ [] ≡ line) where
    its_text : text ≡ compact_text (row_json e r)
    its_text = line_text e r line text is same

    its_read : read text ≡ Some (row_json e r)
    its_read = ap read its_text ∙ row_read e r form

    pub no_json_bad : (IsUtf8 text → read text ≡ None) → ⊥
    no_json_bad none = let lost : Some (row_json e r) ≡ None = sym its_read ∙ none (subst IsUtf8 (sym its_text) (row_utf8 e r form)) in absurd (cc)

    its_json : (d : Data) → read text ≡ Some d → row_json e r ≡ d
    its_json d told = let two : Some (row_json e r) ≡ Some d = sym its_read ∙ told in cc

    pub no_row_bad : (d : Data) → read text ≡ Some d → ((x : Row) → MayBeRow e x → row_json e x ≡ d → ⊥) → ⊥
    no_row_bad d told none = none r form.row (its_json d told)

    pub not_written_bad : (d : Data) (b : Bool) → read text ≡ Some d → (has_float d ≡ false → IsTrue b ↔ (compact_text d ≡ text)) → b ≡ false → ⊥
    not_written_bad d b told written fails =
        let json : row_json e r ≡ d = its_json d told in
        let plain : has_float d ≡ false = sym (ap has_float json) ∙ row_floats e r form in
        let holds : b ≡ true = (written plain).1 (sym (its_text ∙ ap compact_text json)) in
        absurd (cc)

-- the row that was read
pub row_found : (e : Edition) (r : Row) (line text : List ℕ) (d : Data) (b : Bool) → text ++ 10 ∷ [] ≡ line → depth d ≤ max_depth → row_json e r ≡ d → MayBeRow e r
    → (has_float d ≡ false → IsTrue b ↔ (compact_text d ≡ text)) → b ≡ true → HasRowForm e r × (line ≡ row_line e r)
row_found e r line text d b is low json may written holds =
    let form : HasRowForm e r = record { row = may; nesting = subst (λ x. depth x ≤ max_depth) (sym json) low } in
    let plain : has_float d ≡ false = sym (ap has_float json) ∙ row_floats e r form in
    (form, line_of e r line text is (sym ((written plain).0 holds) ∙ ap compact_text (sym json)))
