-- Objects that the arguments of a call name were made.
use Rattle.std.specs.Prelude.{All}
use Rattle.std.proofs.Common.{◌≡◌, ℕ, ◌<◌, true, List, [], ◌∷◌, length, Some, None, Ok, map, ap, subst, sym, ◌∙◌}
use Rattle.std.proofs.lemmas.List.Elements.{All-cons, All-nil}
use Rattle.std.proofs.lemmas.Option.{same_Some}
use Rattle.std.proofs.lemmas.Bool.{false≢true}
use Rattle.rules.proofs.call_arguments.Made.{read_made}
use Rattle.rules.specs.call_arguments.Arguments.{IsMade, arg, is_kind, list_at, object_in}
use Rattle.world_reads.specs.Handed.{AreHanded}
use Rattle.refusals.specs.host_data.Nodes.{EachItem, ObjectIs}
use Rattle.refusals.specs.host_data.Tree as trees
use Rattle.refusals.specs.host_data.Tree.{Items, Tree, list_of, listed}
use Rattle.refusals.specs.host_data.View.{tree}
use Rattle.refusals.specs.host_data.declared.data.Data.{Data}
use Rattle.refusals.specs.host_data.declared.data.Obj.{Obj}
use Rattle.refusals.specs.host_data.declared.data.ObjKind.{ObjKind}
use Rattle.refusals.specs.host_data.declared.data.ObjKind.TheVariants as kinds
use Rattle.refusals.specs.Codes.{bad_args}
use Rattle.refusals.proofs.Steps.{wanted_there}
use Rattle.rules.specs.world_state.Known.{IsHanded, IsMade as WasMade, made_as}
use Rattle.rules.specs.world_state.Worlds.{State}

-- so many objects of a kind were made: those of its place that were made have lesser numbers
pub record CountsMade (w : State) (kind : ObjKind) (made : ℕ) : Type 0 where
  pub below : (o : Obj) → is_kind kind o.kind ≡ true → WasMade w o → o.number < made

pub handed_made : (w : State) (kind : ObjKind) (made : ℕ) (t : Tree) → CountsMade w kind made → IsHanded w t → IsMade kind made t
handed_made w kind made t counts handed = read_made (WasMade w) kind made counts.below 0 t handed.objects

payment_below : (w : State) (kind : ObjKind) (n : ℕ) → is_kind kinds.Payment kind ≡ true → made_as w kind n → n < length w.rights.payments
payment_below w kinds.Payment n is made = made
payment_below w _ n is made = absurd (false≢true is)

issuer_below : (w : State) (kind : ObjKind) (n : ℕ) → is_kind kinds.Issuer kind ≡ true → made_as w kind n → n < length w.brands
issuer_below w kinds.Issuer n is made = made
issuer_below w _ n is made = absurd (false≢true is)

installation_below : (w : State) (kind : ObjKind) (n : ℕ) → is_kind kinds.Installation kind ≡ true → made_as w kind n → n < length w.tables.installations
installation_below w kinds.Installation n is made = made
installation_below w _ n is made = absurd (false≢true is)

instance_below : (w : State) (kind : ObjKind) (n : ℕ) → is_kind kinds.Instance kind ≡ true → made_as w kind n → n < length w.tables.instances
instance_below w kinds.Instance n is made = made
instance_below w _ n is made = absurd (false≢true is)

pub payments_count : (w : State) → CountsMade w kinds.Payment (length w.rights.payments)
payments_count w = record { below = λ o is made. payment_below w o.kind o.number is made }

pub issuers_count : (w : State) → CountsMade w kinds.Issuer (length w.brands)
issuers_count w = record { below = λ o is made. issuer_below w o.kind o.number is made }

pub payment_known : (w : State) (place : ℕ) (args : List Tree) → AreHanded w args → IsMade kinds.Payment (length w.rights.payments) (arg place args)
payment_known w place args handed = handed_made w kinds.Payment (length w.rights.payments) (arg place args) (payments_count w) (handed.each place)

pub issuer_known : (w : State) (place : ℕ) (args : List Tree) → AreHanded w args → IsMade kinds.Issuer (length w.brands) (arg place args)
issuer_known w place args handed = handed_made w kinds.Issuer (length w.brands) (arg place args) (issuers_count w) (handed.each place)

pub installation_known : (w : State) (place : ℕ) (args : List Tree) → AreHanded w args → IsMade kinds.Installation (length w.tables.installations) (arg place args)
installation_known w place args handed = handed_made w kinds.Installation (length w.tables.installations) (arg place args) (record { below = λ o is made. installation_below w o.kind o.number is made }) (handed.each place)

pub instance_known : (w : State) (place : ℕ) (args : List Tree) → AreHanded w args → IsMade kinds.Instance (length w.tables.instances) (arg place args)
instance_known w place args handed = handed_made w kinds.Instance (length w.tables.instances) (arg place args) (record { below = λ o is made. instance_below w o.kind o.number is made }) (handed.each place)

-- ---- arrays

head_same : {A : Type 0} (x y : A) (xs ys : List A) → x ∷ xs ≡ y ∷ ys → x ≡ y
head_same x y xs ys e = cc

tail_same : {A : Type 0} (x y : A) (xs ys : List A) → x ∷ xs ≡ y ∷ ys → xs ≡ ys
tail_same x y xs ys e = cc

items_made : (w : State) (kind : ObjKind) (made n : ℕ) → CountsMade w kind made → (ts : Items) (items : List Data) → EachItem (ObjectIs (WasMade w)) n ts → listed ts ≡ map tree items → All (λ d. IsMade kind made (tree d)) items
items_made w kind made n counts ts [] each same = All-nil (λ (d : Data). IsMade kind made (tree d))
items_made w kind made n counts trees.no_items (d ∷ ds) each same = absurd (cc)
items_made w kind made n counts (trees.item t ts) (d ∷ ds) each same =
    All-cons (λ (x : Data). IsMade kind made (tree x)) d ds
    (subst (IsMade kind made) (head_same t (tree d) (listed ts) (map tree ds) same) (read_made (WasMade w) kind made counts.below n t each.0))
    (items_made w kind made n counts ts ds each.1 (tail_same t (tree d) (listed ts) (map tree ds) same))

list_made : (w : State) (kind : ObjKind) (made : ℕ) → CountsMade w kind made → (t : Tree) (items : List Data) → IsHanded w t → list_of t ≡ Some (map tree items) → All (λ d. IsMade kind made (tree d)) items
list_made w kind made counts (trees.array ts) items handed is = items_made w kind made 1 counts ts items handed.objects.1 (same_Some _ _ is)
list_made w kind made counts trees.null items handed is = absurd (cc)
list_made w kind made counts (trees.boolean b) items handed is = absurd (cc)
list_made w kind made counts (trees.number z) items handed is = absurd (cc)
list_made w kind made counts (trees.text s) items handed is = absurd (cc)
list_made w kind made counts (trees.fields fs) items handed is = absurd (cc)
list_made w kind made counts (trees.object o) items handed is = absurd (cc)
list_made w kind made counts (trees.function name) items handed is = absurd (cc)

pub payments_known : (w : State) (place : ℕ) (args : List Tree) (items : List Data) → AreHanded w args → list_at place args ≡ Ok (map tree items) → All (λ d. IsMade kinds.Payment (length w.rights.payments) (tree d)) items
unfolding list_at
payments_known w place args items handed is =
    list_made w kinds.Payment (length w.rights.payments) (payments_count w) (arg place args) items (handed.each place) (wanted_there (list_of (arg place args)) (bad_args place) (map tree items) is)
