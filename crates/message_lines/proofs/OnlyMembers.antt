-- The text of the one member of an object.
use Rattle.std.proofs.Common.{◌≡◌, ℕ, List, [], ◌∷◌, length, refl, Some, None, option_and_then, string_bytes, if◌then◌else◌, arith}
use Rattle.std.specs.Ordering.{nat_cmp, match_ordering, is_eq}
use Rattle.std.specs.Cmp.Lexicographic.{slice_cmp}
use Rattle.std.specs.declared.cmp.Ordering.{Ordering}
use Rattle.std.specs.declared.cmp.Ordering.TheVariants.{Less, Equal, Greater}
use Rattle.std.proofs.lemmas.Map.Text.{is_eq-slice_cmp}
use Rattle.serde_json.specs.Data.{Data}
use Rattle.serde_json.specs.Find.{get_member, as_str}
use Rattle.serde_json.specs.View.{view, members_view}
use Rattle.message_lines.specs.Arguments.{only_text}
use Rattle.message_lines.proofs.ReadParts.{Entry}

pub only_text-other : (name : List ℕ) (es : List Entry) → (length es ≡ 1 → ⊥) → only_text name (members_view es) ≡ None
only_text-other name [] h = refl
only_text-other name (e ∷ []) h = absurd (h refl)
only_text-other name (e ∷ f ∷ es) h = refl

found : (o : Ordering) (d : Data) → (if is_eq o then as_str d else None) ≡ option_and_then as_str (match_ordering o None (Some d) None)
found Less d = refl
found Equal d = refl
found Greater d = refl

pub only_text-one : (name : List ℕ) (es : List Entry) → length es ≡ 1 → only_text name (members_view es) ≡ option_and_then as_str (get_member name (members_view es))
only_text-one name [] h = absurd (omega (arith, h))
only_text-one name (e ∷ []) h = rw (← is_eq-slice_cmp name (string_bytes e.0)) (found (slice_cmp nat_cmp name (string_bytes e.0)) (view e.1))
only_text-one name (e ∷ f ∷ es) h = absurd (omega (arith, h))
