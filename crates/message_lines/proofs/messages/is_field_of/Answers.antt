use Rattle.std.proofs.Common.{◌≡◌, ℕ, ◌||◌, List, [], ◌∷◌, refl, ap, ◌∙◌, rules}
use Rattle.std.specs.List.{list_any}
use Rattle.std.specs.Str.{bytes_eq}
use Rattle.std.proofs.lemmas.Iterator.{YieldsList-from_slice}
use Rattle.std.proofs.lemmas.Iterator.Search.{any_from_yields_List}
use Rattle.message_lines.specs.FormTables.{form_view}
use Rattle.message_lines.specs.Meanings.{is_field_of}
use Rattle.message_lines.specs.declared.messages.FormField.{FormField}
use Rattle.message_lines.proofs.messages.is_field_of.Goals as goal

is_field_of-view : (fs : List FormField) (name : List ℕ) → list_any (λ f. bytes_eq name f.name.now) fs ≡ is_field_of (form_view fs) name
is_field_of-view [] name = refl
is_field_of-view (f ∷ fs) name = ap (λ b. bytes_eq name f.name.now || b) (is_field_of-view fs name)

pub returns : goal.returns
returns c =
    any_from_yields_List (λ f. bytes_eq c.args.name.now f.name.now) _ _ c.any.result c.any.ensures.ran (YieldsList-from_slice c.args.form.now cc) (λ x b q k. search rules)
    ∙ is_field_of-view c.args.form.now c.args.name.now
