-- The text of rows that are written one after another.
use Rattle.std.proofs.Common.{◌≡◌, ℕ, ◌+◌, ◌<◌, List, ◌++◌, length, get_or, take, map, sym, ap, ◌∙◌}
use Rattle.std.proofs.lemmas.List.{flat_map_more, take_more}
use Rattle.std.proofs.lemmas.List.Folds.{flat_map-map}
use Rattle.std.specs.List.{flat_map}
use Rattle.turn_rows.specs.Rows.{event_row, sum_row}
use Rattle.turn_rows.specs.Texts.{row_text}
use Rattle.turn_rows.specs.rights_model.declared.Sum.{Sum}
use Rattle.turn_records.specs.Printed.{printed_event}
use Rattle.turn_records.specs.Views.{event_view, event_views}
use Rattle.turn_records.specs.declared.events.Event.{Event}
use Rattle.turn_writer.specs.Texts.{event_text, events_text, sums_text}
use Rattle.turn_rows.specs.declared.editions.Edition.{Edition}

-- one text more
pub text_more : {A : Type 0} (text : A → List ℕ) (xs : List A) (i : ℕ) (d : A) (old mid new : List ℕ) → i < length xs → mid ≡ old ++ flat_map text (take i xs) → new ≡ mid ++ text (get_or xs i d) → new ≡ old ++ flat_map text (take (i + 1) xs)
text_more text xs i d old mid new lt before more =
    more ∙ ap (λ m. m ++ text (get_or xs i d)) before ∙ flat_map_more text old (take i xs) (get_or xs i d) ∙ ap (λ ys. old ++ flat_map text ys) (sym (take_more xs i d lt))

abbrev pub told_text : Event → List ℕ
told_text e = event_text (event_view e)

pub told_texts : (es : List Event) → flat_map told_text es ≡ events_text (event_views es)
told_texts es =
    sym (flat_map-map row_text event_row (map printed_event (event_views es))
    ∙ flat_map-map (λ r. row_text (event_row r)) printed_event (event_views es)
    ∙ flat_map-map (λ v. row_text (event_row (printed_event v))) event_view es)

abbrev pub sum_text : Edition → Sum → List ℕ
sum_text e s = row_text (sum_row e s)

pub sum_texts : (e : Edition) (sums : List Sum) → flat_map (sum_text e) sums ≡ sums_text e sums
sum_texts e sums = sym (flat_map-map row_text (sum_row e) sums)
