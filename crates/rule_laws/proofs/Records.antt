-- Records that a rule reads: their fields, in order, and lists of what is read of each.
use Rattle.std.specs.Prelude.{find, not, option_and_then, option_map}
use Rattle.std.specs.Cmp.Lexicographic.{slice_cmp}
use Rattle.std.specs.List.{AllByRecursion}
use Rattle.std.specs.Ordering.{nat_cmp, ordering_reverse}
use Rattle.std.specs.Str.{bytes_eq}
use Rattle.std.specs.declared.cmp.Ordering.TheVariants.{Greater, Less}
use Rattle.std.proofs.Common.{◌≡◌, ℕ, Bool, true, false, cond, List, [], ◌∷◌, Option, Some, None, refl, sym, ap, subst, ◌∙◌}
use Rattle.std.proofs.lemmas.Cmp.{nat_list_cmp_total}
use Rattle.std.proofs.lemmas.Option.{same_Some}
use Rattle.std.proofs.lemmas.Slice.Eq.{bytes_eq-Decides}
use Rattle.world_laws.specs.host_data.Amounts.{read_all}
use Rattle.world_laws.specs.host_data.Nodes.{AreInOrder, EachField, EachNode, HasFieldsInOrder, NodeFact}
use Rattle.world_laws.specs.host_text.Words.{is_keyword}
use Rattle.world_laws.specs.host_data.Tree as trees
use Rattle.world_laws.specs.host_data.Tree.{Before, Fields, Tree, paired}
use Rattle.rules.specs.call_arguments.Records.{first_ill, names}
use Rattle.rules.specs.Words.{record_in}

-- ---- what is read of each

-- where each has P, and what is read of what has P has Q, all that is read has Q
pub all_so : {A B : Type 0} (P : A → Type 0) (Q : B → Type 0) (read : A → Option B) → ((x : A) (y : B) → P x → read x ≡ Some y → Q y) → (xs : List A) (ys : List B) → AllByRecursion P xs → read_all read xs ≡ Some ys → AllByRecursion Q ys
all_so {A} {B} P Q read to [] ys all is = subst (AllByRecursion Q) (same_Some [] ys is) tt
all_so {A} {B} P Q read to (x ∷ xs) ys all is = by (read x) (to x) (read_all read xs) (λ zs e. all_so P Q read to xs zs all.1 e) is
  where
    by : (o : Option B) → ((y : B) → P x → o ≡ Some y → Q y) → (r : Option (List B)) → ((zs : List B) → r ≡ Some zs → AllByRecursion Q zs) → option_and_then (λ y. option_map (λ zs. y ∷ zs) r) o ≡ Some ys → AllByRecursion Q ys
    by (Some y) one (Some zs) rest e = subst (AllByRecursion Q) (same_Some (y ∷ zs) ys e) (one y all.0 refl, rest zs refl)
    by (Some y) one None rest e = absurd (cc)
    by None one r rest e = absurd (cc)

-- ---- the fields of a record

-- the fields of data, which has none where it is no record
abbrev pub fields_in : Tree → Fields
fields_in (trees.fields fs) = fs
fields_in _ = trees.no_fields

pub record_is : (t : Tree) (given : List (List ℕ × Tree)) → record_in t ≡ Some given → paired (fields_in t) ≡ given
record_is trees.null given e = same_Some [] given e
record_is (trees.fields fs) given e = same_Some (paired fs) given e
record_is _ given e = absurd (cc)

pub fields_each : (F : NodeFact) (t : Tree) → EachNode F 0 t → EachField F 1 (fields_in t)
fields_each F (trees.fields fs) all = all.1
fields_each F _ all = tt

pub fields_ordered : (t : Tree) → EachNode HasFieldsInOrder 0 t → AreInOrder (fields_in t)
fields_ordered (trees.fields fs) all = all.0
fields_ordered _ all = tt

-- ---- their names

is_not : (b : Bool) → not b ≡ false → b ≡ true
is_not true e = refl
is_not false e = cc

passed_over : {X : Type 0} (b : Bool) (x : X) (o : Option X) → cond b (Some x) o ≡ None → (b ≡ false) × (o ≡ None)
passed_over true x o e = absurd (cc)
passed_over false x o e = (refl, e)

-- what holds of each field where none has a name that is no keyword
abbrev pub IsKeyed : NodeFact → List ℕ × Tree → Type 0
IsKeyed F f = (is_keyword f.0 ≡ true) × EachNode F 1 f.1

pub all_keyed : (F : NodeFact) (fs : Fields) → EachField F 1 fs → first_ill (names (paired fs)) ≡ None → AllByRecursion (IsKeyed F) (paired fs)
unfolding first_ill
all_keyed F trees.no_fields all none = tt
all_keyed F (trees.field name t fs) all none =
    let both = passed_over (not (is_keyword name)) name (find (λ k. not (is_keyword k)) (names (paired fs))) none in
    ((is_not (is_keyword name) both.0, all.0), all_keyed F fs all.1 both.1)

-- ---- their order

-- each field stands after a name
abbrev pub AllAfter : List ℕ → Fields → Type 0
AllAfter k trees.no_fields = Unit {0}
AllAfter k (trees.field name t fs) = (slice_cmp nat_cmp k name ≡ Less) × AllAfter k fs

further : (k l : List ℕ) (fs : Fields) → slice_cmp nat_cmp k l ≡ Less → AllAfter l fs → AllAfter k fs
further k l trees.no_fields less all = tt
further k l (trees.field name t fs) less all = (nat_list_cmp_total.trans k l name less all.0, further k l fs less all.1)

pub all_after : (name : List ℕ) (fs : Fields) → Before name fs → AreInOrder fs → AllAfter name fs
all_after name trees.no_fields before order = tt
all_after name (trees.field next t fs) before order = (before, further name next fs before (all_after next fs order.0 order.1))

pub names_differ : (k l : List ℕ) → slice_cmp nat_cmp k l ≡ Less → bytes_eq k l ≡ false
names_differ k l less = by (bytes_eq k l) refl
  where
    by : (b : Bool) → bytes_eq k l ≡ b → b ≡ false
    by false e = refl
    by true e =
        let same : k ≡ l = (bytes_eq-Decides k l).0 e in
        let self : slice_cmp nat_cmp k k ≡ Less = ap (slice_cmp nat_cmp k) same ∙ less in
        let clash : Less ≡ Greater = sym self ∙ nat_list_cmp_total.antisymm k k ∙ ap ordering_reverse self in
        cc
