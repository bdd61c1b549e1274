-- An index that is made from the last function to the first, and what is found by it.
use Rattle.std.proofs.Common.{◌≡◌, ℕ, suc, ◌+◌, ◌≤◌, List, [], ◌∷◌, Bool, true, false, cond, map, Option, Some, None, option_map, refl, ap, ◌∙◌, length, take, drop}
use Rattle.std.specs.Prelude.{String, slice_get, option_and_then, option_copied}
use Rattle.std.specs.Borrow.{Bor}
use Rattle.std.specs.Str.{bytes_eq}
use Rattle.std.specs.declared.alloc.Global.{Global}
use Rattle.std.specs.BTreeMap.{BTreeMap, get_by_text}
use Rattle.jessie_semantics.specs.jessie_grammar.declared.syntax.Function.{Function}
use Rattle.jessie_semantics.specs.jessie_grammar.Syntax.{routine}
use Rattle.jessie_semantics.specs.Rules.{find_routine}
use Rattle.jessie_index.specs.Index.{first_place}

-- the functions from a place on are in the index, and those before it are left
pub record IsIndexFrom (fs left : List Function) (places : BTreeMap (String Global) ℕ) : Type 0 where
  pub front : left ≡ take (length left) fs
  pub within : length left ≤ length fs
  pub finds : (x : List ℕ) → get_by_text places x ≡ option_map (λ i. length left + i) (first_place x (drop (length left) fs))

-- what is found at the place of a name is the first function of the name
head_found : (b : Bool) (f : Function) (fs : List Function) (o : Option ℕ)
    → option_map routine (option_and_then (slice_get (f ∷ fs)) (cond b (Some 0) (option_map suc o))) ≡ cond b (Some (routine f)) (option_map routine (option_and_then (slice_get fs) o))
head_found true f fs o = refl
head_found false f fs None = refl
head_found false f fs (Some i) = refl

pub found : (x : List ℕ) (fs : List Function) → option_map routine (option_and_then (slice_get fs) (first_place x fs)) ≡ find_routine x (map routine fs)
found x [] = refl
found x (f ∷ fs) = head_found (bytes_eq f.name x) f fs (first_place x fs) ∙ ap (cond (bytes_eq f.name x) (Some (routine f))) (found x fs)

copied : (r : Option (Bor Function)) → option_map (λ f. routine f.now) r ≡ option_map routine (option_copied r)
copied None = refl
copied (Some f) = refl

pub found_at : (x : List ℕ) (fs gs : List Function) (i : ℕ) (r : Option (Bor Function)) → Some i ≡ first_place x fs → gs ≡ fs → option_copied r ≡ slice_get gs i → option_map (λ f. routine f.now) r ≡ find_routine x (map routine fs)
found_at x fs gs i r here same got =
    copied r ∙ (ap (option_map routine) (got ∙ ap (λ fs. slice_get fs i) same)
    ∙ (ap (λ o. option_map routine (option_and_then (slice_get fs) o)) here ∙ found x fs))

pub not_found : (x : List ℕ) (fs : List Function) (r : Option (Bor Function)) → None ≡ first_place x fs → r ≡ None → option_map (λ f. routine f.now) r ≡ find_routine x (map routine fs)
not_found x fs r none is = ap (option_map (λ f. routine f.now)) is ∙ (ap (λ o. option_map routine (option_and_then (slice_get fs) o)) none ∙ found x fs)
