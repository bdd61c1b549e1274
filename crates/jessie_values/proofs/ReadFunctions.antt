-- The functions of a record, read field by field.
use Rattle.std.proofs.Common.{◌≡◌, ℕ, ◌+◌, ◌<◌, ◌≤◌, Option, Some, None, List, [], ◌∷◌, ◌++◌, length, drop, get_or, refl, sym, ap, ◌∙◌}
use Rattle.std.proofs.lemmas.List.{append-nil, append_assoc, drop_all, drop_more}
use Rattle.std.specs.Option.{option_and_then, option_map}
use Rattle.host_data.specs.Tree.{function_of}
use Rattle.host_data.specs.View.{named_trees, tree}
use Rattle.jessie_values.specs.Named.{Named}
use Rattle.jessie_values.specs.Requests.{functions_in}
use Rattle.jessie_values.proofs.NamedFields.{Entry}

abbrev pub Methods : Type 0
Methods = List (List ℕ × List ℕ)

-- what was read of the first i goes before what the others are read as
pub record AreRead (fs : Named) (i : ℕ) (done : Methods) : Type 0 where
  pub so_far : functions_in (named_trees fs) ≡ option_map (λ ms. done ++ ms) (functions_in (named_trees (drop i fs)))

joined : (o : Option Methods) (done : Methods) (m : List ℕ × List ℕ) → option_map (λ ms. done ++ ms) (option_map (λ ms. m ∷ ms) o) ≡ option_map (λ ms. (done ++ m ∷ []) ++ ms) o
joined None done m = refl
joined (Some ms) done m = ap Some (sym (append_assoc done (m ∷ []) ms))

unread : (o : Option Methods) → option_map (λ ms. [] ++ ms) o ≡ o
unread None = refl
unread (Some ms) = refl

pub read_none : (fs : Named) → AreRead fs 0 []
read_none fs = record { so_far = sym (unread (functions_in (named_trees fs))) }

module _ (fs : Named) (i : ℕ) (done : Methods) (is : AreRead fs i done) where
  abbrev rest : Option Methods
  rest = functions_in (named_trees (drop (i + 1) fs))

  next : (f : Entry) → i < length fs → f ≡ get_or fs i f → functions_in (named_trees (drop i fs)) ≡ option_and_then (λ g. option_map (λ ms. (f.0, g) ∷ ms) rest) (function_of (tree f.1))
  next f lt at = ap (λ gs. functions_in (named_trees gs)) (drop_more fs i f lt) ∙ ap (λ (g : Entry). option_and_then (λ h. option_map (λ ms. (g.0, h) ∷ ms) rest) (function_of (tree g.1))) (sym at)

  pub read_more : (f : Entry) (g : List ℕ) → i < length fs → f ≡ get_or fs i f → function_of (tree f.1) ≡ Some g → AreRead fs (i + 1) (done ++ (f.0, g) ∷ [])
  read_more f g lt at reads = record {
    so_far =
        is.so_far
        ∙ ap (option_map (λ ms. done ++ ms)) (next f lt at ∙ ap (option_and_then (λ h. option_map (λ ms. (f.0, h) ∷ ms) rest)) reads)
        ∙ joined rest done (f.0, g);
  }

  pub read_stops : (f : Entry) → i < length fs → f ≡ get_or fs i f → function_of (tree f.1) ≡ None → functions_in (named_trees fs) ≡ None
  read_stops f lt at reads = is.so_far ∙ ap (option_map (λ ms. done ++ ms)) (next f lt at ∙ ap (option_and_then (λ h. option_map (λ ms. (f.0, h) ∷ ms) rest)) reads)

  pub read_ends : length fs ≤ i → functions_in (named_trees fs) ≡ Some done
  read_ends past = is.so_far ∙ ap (λ gs. option_map (λ ms. done ++ ms) (functions_in (named_trees gs))) (drop_all i fs past) ∙ ap Some (append-nil done)
