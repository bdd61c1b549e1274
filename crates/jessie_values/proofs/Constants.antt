-- What each form of a constant stands for, by its parts.
use Rattle.std.proofs.Common.{◌≡◌, ℕ, List, [], ◌∷◌, map, refl, ap, ◌∙◌}
use Rattle.jessie_grammar.proofs.Views.{fixed-Array, fixed-Literal, fixed-Record}
use Rattle.jessie_grammar.specs.Syntax.{fixeds_view, named_fixeds_view}
use Rattle.jessie_grammar.specs.declared.syntax.Constant as C
use Rattle.jessie_grammar.specs.declared.syntax.Constant.{Constant}
use Rattle.jessie_grammar.specs.declared.syntax.Literal.{Literal}
use Rattle.host_data.specs.Tree.{Tree, array, fields, item}
use Rattle.host_data.specs.View.{items_of}
use Rattle.jessie_values.specs.Literals.{constant_tree, fixed_items, fixed_pairs, fixed_tree, literal_tree}
use Rattle.jessie_values.specs.Records.{record_of}

items_fixed : (cs : List Constant) → fixed_items (fixeds_view cs) ≡ items_of (map constant_tree cs)
items_fixed [] = refl
items_fixed (c ∷ cs) = ap (item (constant_tree c)) (items_fixed cs)

pairs_fixed : (cs : List (List ℕ × Constant)) → fixed_pairs (named_fixeds_view cs) ≡ map (λ c. (c.0, constant_tree c.1)) cs
pairs_fixed [] = refl
pairs_fixed (c ∷ cs) = ap (λ (ms : List (List ℕ × Tree)). (c.0, constant_tree c.1) ∷ ms) (pairs_fixed cs)

pub constant-Literal : (l : Literal) → constant_tree (C.Literal l) ≡ literal_tree l
constant-Literal l = ap fixed_tree (fixed-Literal l)

pub constant-Array : (cs : List Constant) → constant_tree (C.Array cs) ≡ array (items_of (map constant_tree cs))
constant-Array cs = ap fixed_tree (fixed-Array cs) ∙ ap array (items_fixed cs)

pub constant-Record : (cs : List (List ℕ × Constant)) → constant_tree (C.Record cs) ≡ fields (record_of (map (λ c. (c.0, constant_tree c.1)) cs))
constant-Record cs = ap fixed_tree (fixed-Record cs) ∙ ap (λ ms. fields (record_of ms)) (pairs_fixed cs)
