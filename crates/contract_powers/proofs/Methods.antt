-- The methods of a facet as fields, each with its function.
use Rattle.std.proofs.Common.{◌≡◌, ℕ, List, [], ◌∷◌, ◌++◌, map, refl, ap}
use Rattle.delivery_laws.specs.delivery_turns.HostCalls.{method_fields}
use Rattle.refusals.proofs.host_data.Views.{tree-Function}
use Rattle.refusals.specs.host_data.Tree.{Tree, field, function}
use Rattle.refusals.specs.host_data.View.{fields_of, named_trees, tree}
use Rattle.refusals.specs.host_data.declared.data.Data.{Data}
use Rattle.refusals.specs.host_data.declared.data.Data.TheVariants.{Function}

abbrev pub named_functions : List (List ℕ × List ℕ) → List (List ℕ × Tree)
named_functions ms = map (λ m. (m.0, function m.1)) ms

pub fields_same : (ms : List (List ℕ × List ℕ)) → fields_of (named_functions ms) ≡ method_fields ms
fields_same [] = refl
fields_same (m ∷ ms) = ap (field m.0 (function m.1)) (fields_same ms)

-- one more field, last
pub pushed : (bs : List (List ℕ × Data)) (x f : List ℕ) → named_trees (bs ++ (x, Function f) ∷ []) ≡ named_trees bs ++ (x, function f) ∷ []
pushed [] x f = ap (λ t. (x, t) ∷ []) (tree-Function f)
pushed (b ∷ bs) x f = ap (λ fs. (b.0, tree b.1) ∷ fs) (pushed bs x f)
