-- Payments in the fields of a record that a contract's call gives were made.
use Rattle.std.specs.Prelude.{All}
use Rattle.std.proofs.Common.{◌≡◌, ℕ, List, [], ◌∷◌, length, Some, Ok, ap, subst}
use Rattle.std.proofs.lemmas.List.Elements.{All-cons, All-nil}
use Rattle.std.proofs.lemmas.Option.{same_Some}
use Rattle.rules.proofs.call_arguments.Made.{read_made}
use Rattle.rules.specs.call_arguments.Arguments.{IsMade, arg, record_at}
use Rattle.contract_reads.proofs.KnownObjects.{CountsKnown, payments_count}
use Rattle.contract_reads.specs.Known.{AreKnown}
use Rattle.host_data.specs.Nodes.{EachField, ObjectIs}
use Rattle.host_data.specs.Tree as trees
use Rattle.host_data.specs.Tree.{Fields, Tree, paired, pairs_of}
use Rattle.host_data.specs.View.{named_trees, tree}
use Rattle.host_data.specs.declared.data.Data.{Data}
use Rattle.host_data.specs.declared.data.ObjKind.{ObjKind}
use Rattle.host_data.specs.declared.data.ObjKind.TheVariants as kinds
use Rattle.refusals.specs.Codes.{bad_args}
use Rattle.refusals.proofs.Steps.{wanted_there}
use Rattle.rules.specs.world_state.Known.{IsKnownTo, ObjectKnown}
use Rattle.rules.specs.world_state.Worlds.{State}

abbrev Named : Type 0
Named = List ℕ × Tree

abbrev Given : Type 0
Given = List ℕ × Data

first_same : (x y : Named) (xs ys : List Named) → x ∷ xs ≡ y ∷ ys → x.1 ≡ y.1
first_same x y xs ys e = let same : x ≡ y = cc in ap (λ (f : Named). f.1) same

rest_same : (x y : Named) (xs ys : List Named) → x ∷ xs ≡ y ∷ ys → xs ≡ ys
rest_same x y xs ys e = cc

fields_made : (w : State) (i : ℕ) (kind : ObjKind) (made n : ℕ) → CountsKnown w i kind made → (fs : Fields) (given : List Given) → EachField (ObjectIs (ObjectKnown (Some i) w)) n fs → paired fs ≡ named_trees given → All (λ f. IsMade kind made (tree f.1)) given
fields_made w i kind made n counts fs [] each same = All-nil (λ (f : Given). IsMade kind made (tree f.1))
fields_made w i kind made n counts trees.no_fields (g ∷ gs) each same = absurd (cc)
fields_made w i kind made n counts (trees.field name t fs) (g ∷ gs) each same =
    All-cons (λ (f : Given). IsMade kind made (tree f.1)) g gs
    (subst (IsMade kind made) (first_same (name, t) (g.0, tree g.1) (paired fs) (named_trees gs) same) (read_made (ObjectKnown (Some i) w) kind made counts.below n t each.0))
    (fields_made w i kind made n counts fs gs each.1 (rest_same (name, t) (g.0, tree g.1) (paired fs) (named_trees gs) same))

record_made : (w : State) (i : ℕ) (kind : ObjKind) (made : ℕ) → CountsKnown w i kind made → (t : Tree) (given : List Given) → IsKnownTo w i t → pairs_of t ≡ Some (named_trees given) → All (λ f. IsMade kind made (tree f.1)) given
record_made w i kind made counts (trees.fields fs) given known is = fields_made w i kind made 1 counts fs given known.objects.1 (same_Some _ _ is)
record_made w i kind made counts trees.null given known is = absurd (cc)
record_made w i kind made counts (trees.boolean b) given known is = absurd (cc)
record_made w i kind made counts (trees.number z) given known is = absurd (cc)
record_made w i kind made counts (trees.text s) given known is = absurd (cc)
record_made w i kind made counts (trees.array ts) given known is = absurd (cc)
record_made w i kind made counts (trees.object o) given known is = absurd (cc)
record_made w i kind made counts (trees.function name) given known is = absurd (cc)

pub payments_known : (w : State) (place : ℕ) (args : List Tree) (given : List Given) → AreKnown w args → record_at place args ≡ Ok (named_trees given) → All (λ f. IsMade kinds.Payment (length w.rights.payments) (tree f.1)) given
unfolding record_at
payments_known w place args given known is =
    record_made w known.caller kinds.Payment (length w.rights.payments) (payments_count w known.caller) (arg place args) given (known.each place) (wanted_there (pairs_of (arg place args)) (bad_args place) (named_trees given) is)
