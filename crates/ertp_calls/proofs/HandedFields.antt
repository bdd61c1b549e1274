-- Objects in the fields of a record that a call is given were made; and names of which none is ill are keywords.
use Rattle.std.specs.Prelude.{All, find, not}
use Rattle.std.proofs.Common.{◌≡◌, ℕ, Bool, true, false, List, [], ◌∷◌, length, map, Option, Some, None, Ok, refl, sym, ap, subst, ◌∙◌, if◌then◌else◌}
use Rattle.std.proofs.lemmas.List.Elements.{All-cons, All-nil}
use Rattle.std.proofs.lemmas.Option.{same_Some}
use Rattle.call_arguments.proofs.Made.{read_made}
use Rattle.call_arguments.specs.Arguments.{IsMade, arg}
use Rattle.world_reads.proofs.HandedObjects.{CountsMade, issuers_count, payments_count}
use Rattle.world_reads.specs.Handed.{AreHanded}
use Rattle.refusals.specs.host_data.Nodes.{EachField, ObjectIs}
use Rattle.refusals.specs.host_text.Words.{is_keyword}
use Rattle.refusals.specs.host_data.Tree as trees
use Rattle.refusals.specs.host_data.Tree.{Fields, Tree, paired}
use Rattle.refusals.specs.host_data.View.{named_trees, tree}
use Rattle.refusals.specs.host_data.declared.data.Data.{Data}
use Rattle.refusals.specs.host_data.declared.data.ObjKind.{ObjKind}
use Rattle.refusals.specs.host_data.declared.data.ObjKind.TheVariants as kinds
use Rattle.call_arguments.specs.Records.{first_ill, names}
use Rattle.refusals.specs.Codes.{bad_args}
use Rattle.refusals.specs.Outcomes.{wanted}
use Rattle.refusals.proofs.Steps.{wanted_there}
use Rattle.rules.specs.Words.{record_in}
use Rattle.rules.specs.world_state.Known.{IsHanded, IsMade as WasMade}
use Rattle.rules.specs.world_state.Worlds.{State}

abbrev Named : Type 0
Named = List ℕ × Tree

abbrev Given : Type 0
Given = List ℕ × Data

first_same : (x y : Named) (xs ys : List Named) → x ∷ xs ≡ y ∷ ys → x.1 ≡ y.1
first_same x y xs ys e = let same : x ≡ y = cc in ap (λ (f : Named). f.1) same

rest_same : (x y : Named) (xs ys : List Named) → x ∷ xs ≡ y ∷ ys → xs ≡ ys
rest_same x y xs ys e = cc

fields_made : (w : State) (kind : ObjKind) (made n : ℕ) → CountsMade w kind made → (fs : Fields) (given : List (List ℕ × Data)) → EachField (ObjectIs (WasMade w)) n fs → paired fs ≡ named_trees given → All (λ f. IsMade kind made (tree f.1)) given
fields_made w kind made n counts fs [] each same = All-nil (λ (f : Given). IsMade kind made (tree f.1))
fields_made w kind made n counts trees.no_fields (g ∷ gs) each same = absurd (cc)
fields_made w kind made n counts (trees.field name t fs) (g ∷ gs) each same =
    All-cons (λ (f : Given). IsMade kind made (tree f.1)) g gs
    (subst (IsMade kind made) (first_same (name, t) (g.0, tree g.1) (paired fs) (named_trees gs) same) (read_made (WasMade w) kind made counts.below n t each.0))
    (fields_made w kind made n counts fs gs each.1 (rest_same (name, t) (g.0, tree g.1) (paired fs) (named_trees gs) same))

pub record_made : (w : State) (kind : ObjKind) (made : ℕ) → CountsMade w kind made → (t : Tree) (given : List (List ℕ × Data)) → IsHanded w t → record_in t ≡ Some (named_trees given) → All (λ f. IsMade kind made (tree f.1)) given
record_made w kind made counts (trees.fields fs) given handed is = fields_made w kind made 1 counts fs given handed.objects.1 (same_Some _ _ is)
record_made w kind made counts trees.null [] handed is = All-nil (λ (f : Given). IsMade kind made (tree f.1))
record_made w kind made counts trees.null (g ∷ gs) handed is = absurd (cc)
record_made w kind made counts (trees.boolean b) given handed is = absurd (cc)
record_made w kind made counts (trees.number z) given handed is = absurd (cc)
record_made w kind made counts (trees.text s) given handed is = absurd (cc)
record_made w kind made counts (trees.array ts) given handed is = absurd (cc)
record_made w kind made counts (trees.object o) given handed is = absurd (cc)
record_made w kind made counts (trees.function name) given handed is = absurd (cc)

pub issuers_known : (w : State) (place : ℕ) (args : List Tree) (given : List (List ℕ × Data)) → AreHanded w args → wanted (record_in (arg place args)) (bad_args place) ≡ Ok (named_trees given) → All (λ f. IsMade kinds.Issuer (length w.brands) (tree f.1)) given
issuers_known w place args given handed is =
    record_made w kinds.Issuer (length w.brands) (issuers_count w) (arg place args) given (handed.each place) (wanted_there (record_in (arg place args)) (bad_args place) (named_trees given) is)

pub payments_known : (w : State) (place : ℕ) (args : List Tree) (given : List (List ℕ × Data)) → AreHanded w args → wanted (record_in (arg place args)) (bad_args place) ≡ Ok (named_trees given) → All (λ f. IsMade kinds.Payment (length w.rights.payments) (tree f.1)) given
payments_known w place args given handed is =
    record_made w kinds.Payment (length w.rights.payments) (payments_count w) (arg place args) given (handed.each place) (wanted_there (record_in (arg place args)) (bad_args place) (named_trees given) is)

pub names_known : (given : List (List ℕ × Data)) → first_ill (names (named_trees given)) ≡ None → All (λ f. is_keyword f.0 ≡ true) given
unfolding first_ill
names_known [] none = All-nil (λ (f : Given). is_keyword f.0 ≡ true)
names_known (g ∷ gs) none = by (is_keyword g.0) refl none (names_known gs)
  where
    by : (b : Bool) → is_keyword g.0 ≡ b → (if not b then Some g.0 else find (λ k. not (is_keyword k)) (names (named_trees gs))) ≡ None → (first_ill (names (named_trees gs)) ≡ None → All (λ f. is_keyword f.0 ≡ true) gs) → All (λ f. is_keyword f.0 ≡ true) (g ∷ gs)
    by true is rest more = All-cons (λ (f : Given). is_keyword f.0 ≡ true) g gs is (more rest)
    by false is rest more = absurd (cc)
