-- Copies of JSON are the same JSON.
use Rattle.std.proofs.Common.{◌≡◌, List, [], ◌∷◌, refl, ap, ◌∙◌}
use Rattle.std.specs.List.{AllZip}
use Rattle.serde_json.specs.Data.{Data, item}
use Rattle.serde_json.specs.View.{items_view, view}
use Rattle.serde_json.specs.declared.value.Value.{Value}

pub items_copied : (vs ws : List Value) → AllZip (λ v w. view w ≡ view v) vs ws → items_view ws ≡ items_view vs
items_copied [] [] h = refl
items_copied [] (w ∷ ws) h = absurd h
items_copied (v ∷ vs) [] h = absurd h
items_copied (v ∷ vs) (w ∷ ws) h = rw (h.0, items_copied vs ws h.1) refl
