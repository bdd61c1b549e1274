-- The terms that an instance is started with.
use Rattle.std.specs.Prelude.{◌||◌, ◌&&◌, not}
use Rattle.std.specs.List.{list_all}
use Rattle.std.specs.Str.{bytes_eq}
use Rattle.std.proofs.Common.{◌≡◌, ℕ, Bool, true, false, cond, List, Some, None, codes, refl, arith}
use Rattle.std.proofs.lemmas.Bool.{false≢true}
use Rattle.world_laws.specs.host_data.Tree as trees
use Rattle.world_laws.specs.host_data.Tree.{Fields, Tree, get, paired}
use Rattle.world_laws.specs.world_state.Good.{AreTerms}
use Rattle.world_laws.specs.world_state.Known.{IsHanded}
use Rattle.world_laws.specs.world_state.Worlds.{State}
use Rattle.rules.specs.Zoe.{has_terms, is_kept_name, terms_in}

empty_handed : (w : State) → IsHanded w (trees.fields trees.no_fields)
empty_handed w = record { objects = (tt, tt); functions = (tt, tt); named = (tt, tt); ordered = (tt, tt); shallow = (omega arith, tt) }

pub terms_handed : (w : State) (t : Tree) → IsHanded w t → has_terms t ≡ true → IsHanded w (terms_in t)
terms_handed w trees.null is has = empty_handed w
terms_handed w _ is has = is

none_kept : (fs : Fields) → list_all (λ (f : List ℕ × Tree). not (is_kept_name f.0)) (paired fs) ≡ true → AreTerms (trees.fields fs)
none_kept trees.no_fields all = (refl, refl)
none_kept (trees.field name t fs) all = by (bytes_eq name (codes "issuers")) (bytes_eq name (codes "brands")) (list_all (λ (f : List ℕ × Tree). not (is_kept_name f.0)) (paired fs)) (none_kept fs) all
  where
    by : (i b rest : Bool) → (rest ≡ true → AreTerms (trees.fields fs)) → (not (i || b) && rest) ≡ true → (cond i (Some t) (get (codes "issuers") fs) ≡ None) × (cond b (Some t) (get (codes "brands") fs) ≡ None)
    by true b rest later e = absurd (false≢true e)
    by false true rest later e = absurd (false≢true e)
    by false false rest later e = later e

pub terms_bare : (t : Tree) → has_terms t ≡ true → AreTerms (terms_in t)
unfolding has_terms
terms_bare trees.null has = (refl, refl)
terms_bare (trees.fields fs) has = none_kept fs has
terms_bare _ has = absurd (false≢true has)
