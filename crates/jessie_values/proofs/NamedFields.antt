-- What stands at the first place of a name.
use Rattle.std.proofs.Common.{◌≡◌, ℕ, zero, suc, List, [], ◌∷◌, false, cond, Some, None, length, get_or, set, refl, ap, ◌∙◌, arith}
use Rattle.std.specs.Str.{bytes_eq}
use Rattle.host_data.specs.Tree.{Tree, Fields, field, get, listed}
use Rattle.host_data.specs.View.{tree, trees, items_of, named_trees, fields_of}
use Rattle.host_data.specs.declared.data.Data.{Data}
use Rattle.jessie_values.specs.BuiltIns.{changed}
use Rattle.jessie_values.specs.Named.{IsFirstNamed, Named, NotBefore}

abbrev pub Entry : Type 0
Entry = List ℕ × Data

abbrev all_fields : Named → Fields
all_fields fs = fields_of (named_trees fs)

-- the same in the rest of a list
later : (name : List ℕ) (f : Entry) (fs : Named) (i : ℕ) → NotBefore name (f ∷ fs) (suc i) → NotBefore name fs i
later name f fs i h = record { others = λ k d lt. h.others (suc k) d (omega arith) }

not_first : (name : List ℕ) (f : Entry) (fs : Named) (i : ℕ) → NotBefore name (f ∷ fs) (suc i) → bytes_eq f.0 name ≡ false
not_first name f fs i h = h.others 0 f (omega arith)

first_later : (name : List ℕ) (f : Entry) (fs : Named) (i : ℕ) → IsFirstNamed name (f ∷ fs) (suc i) → IsFirstNamed name fs i
first_later name f fs i h = record { within = omega (arith, h.within); before = later name f fs i h.before; here = h.here }

pub get_first : (name : List ℕ) (fs : Named) (i : ℕ) → IsFirstNamed name fs i → (d : Entry) → get name (all_fields fs) ≡ Some (tree (get_or fs i d).1)
get_first name [] i h d = absurd (omega (arith, h.within))
get_first name (f ∷ fs) zero h d = ap (λ b. cond b (Some (tree f.1)) (get name (all_fields fs))) (h.here d)
get_first name (f ∷ fs) (suc i) h d =
    ap (λ b. cond b (Some (tree f.1)) (get name (all_fields fs))) (not_first name f fs i h.before) ∙ get_first name fs i (first_later name f fs i h) d

pub get_none : (name : List ℕ) (fs : Named) → NotBefore name fs (length fs) → get name (all_fields fs) ≡ None
get_none name [] h = refl
get_none name (f ∷ fs) h =
    ap (λ b. cond b (Some (tree f.1)) (get name (all_fields fs))) (not_first name f fs (length fs) h) ∙ get_none name fs (later name f fs (length fs) h)

pub changed_first : (name : List ℕ) (w : Data) (fs : Named) (i : ℕ) → IsFirstNamed name fs i → (d : Entry) → changed name (tree w) (all_fields fs) ≡ all_fields (set fs i ((get_or fs i d).0, w))
changed_first name w [] i h d = absurd (omega (arith, h.within))
changed_first name w (f ∷ fs) zero h d =
    ap (λ b. cond b (field f.0 (tree w) (all_fields fs)) (field f.0 (tree f.1) (changed name (tree w) (all_fields fs)))) (h.here d)
changed_first name w (f ∷ fs) (suc i) h d =
    ap (λ b. cond b (field f.0 (tree w) (all_fields fs)) (field f.0 (tree f.1) (changed name (tree w) (all_fields fs)))) (not_first name f fs i h.before)
    ∙ ap (λ r. field f.0 (tree f.1) r) (changed_first name w fs i (first_later name f fs i h) d)

-- one of a list is changed, and how many they are
pub trees_set : (ds : List Data) (i : ℕ) (d : Data) → trees (set ds i d) ≡ set (trees ds) i (tree d)
trees_set [] i d = refl
trees_set (e ∷ ds) zero d = refl
trees_set (e ∷ ds) (suc i) d = ap (λ (ts : List Tree). tree e ∷ ts) (trees_set ds i d)

pub length_listed : (ds : List Data) → length (listed (items_of (trees ds))) ≡ length ds
length_listed [] = refl
length_listed (d ∷ ds) = ap suc (length_listed ds)

pub length_trees : (ds : List Data) → length (trees ds) ≡ length ds
length_trees [] = refl
length_trees (d ∷ ds) = ap suc (length_trees ds)
