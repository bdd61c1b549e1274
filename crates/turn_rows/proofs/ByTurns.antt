-- A journal's text is that of its turns, one after another, and of its close row.
use Rattle.std.proofs.Common.{◌≡◌, ℕ, suc, ◌+◌, List, [], ◌∷◌, ◌++◌, length, refl, sym, ap, ◌∙◌, arith, append_assoc}
use Rattle.std.proofs.lemmas.Grind.{flat_map-append}
use Rattle.std.specs.List.{flat_map}
use Rattle.turn_rows.specs.Editions.{version_rows}
use Rattle.turn_rows.specs.Rows.{close_row, rows_of}
use Rattle.turn_rows.specs.Texts.{TextByTurns, close_text, journal_text, row_text, turn_text, turns_text}
use Rattle.turn_rows.specs.Turns.{Turn}
use Rattle.turn_rows.specs.declared.editions.Edition.{Edition}

-- turns after some others
pub texts_then : (e : Edition) (n : ℕ) (ts us : List Turn) → turns_text e n (ts ++ us) ≡ turns_text e n ts ++ turns_text e (n + length ts) us
texts_then e n [] us = let same : n ≡ n + 0 = omega arith in ap (λ m. turns_text e m us) same
texts_then e n (t ∷ ts) us =
    let same : suc n + length ts ≡ n + suc (length ts) = omega arith in
    ap (λ bytes. turn_text e n t ++ bytes) (texts_then e (suc n) ts us)
    ∙ sym (append_assoc (turn_text e n t) (turns_text e (suc n) ts) (turns_text e (suc n + length ts) us))
    ∙ ap (λ m. (turn_text e n t ++ turns_text e (suc n) ts) ++ turns_text e m us) same

-- before turns that aren't the first stands nothing
later_text : (e : Edition) (n : ℕ) (ts : List Turn) → flat_map row_text (flat_map (rows_of e) ts) ≡ turns_text e (suc n) ts
later_text e n [] = refl
later_text e n (t ∷ ts) =
    flat_map-append row_text (rows_of e t) (flat_map (rows_of e) ts)
    ∙ ap (λ bytes. flat_map row_text (rows_of e t) ++ bytes) (later_text e (suc n) ts)

pub text_by_turns : TextByTurns
text_by_turns e [] left = refl
text_by_turns e (t ∷ ts) left =
    let close = close_row left (length (t ∷ ts)) ∷ [] in
    let first = version_rows e ++ rows_of e t in
    let later = flat_map (rows_of e) ts in
    let same : version_rows e ++ ((rows_of e t ++ later) ++ close) ≡ (first ++ later) ++ close = simp append_assoc in
    ap (λ rows. flat_map row_text rows) same
    ∙ flat_map-append row_text (first ++ later) close
    ∙ ap (λ bytes. bytes ++ flat_map row_text close) (flat_map-append row_text first later ∙ ap (λ bytes. flat_map row_text first ++ bytes) (later_text e 0 ts))
