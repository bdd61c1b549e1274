-- What readers of arguments give: a value that is read is one, and an object that is read was made, and is named.
use Rattle.std.proofs.Common.{◌≡◌, ℕ, zero, suc, ◌<◌, ◌-◌, Bool, true, false, List, [], ◌∷◌, length, Option, Some, None, Ok, IfOk, if◌then◌else◌, inl, inr, refl}
use Rattle.std.specs.Prelude.{slice_index_or}
use Rattle.std.proofs.lemmas.Bool.{false≢true}
use Rattle.std.proofs.lemmas.Option.{same_Some}
use Rattle.world_laws.specs.amount_math.ValueView.{ValueView}
use Rattle.world_laws.specs.amount_math.declared.Kind.{Kind}
use Rattle.rules.specs.call_arguments.Amounts.{amount_in}
use Rattle.rules.specs.call_arguments.Arguments.{arg, is_kind, number_of_kind, object_at, object_in}
use Rattle.rules.proofs.call_arguments.Made.{read_made}
use Rattle.world_laws.specs.host_data.Amounts.{IsValueOf, value_in}
use Rattle.world_laws.specs.host_data.Tree.{Tree, null, boolean, number, text, array, fields, object, function}
use Rattle.world_laws.specs.host_data.declared.data.Obj.{Obj}
use Rattle.world_laws.specs.host_data.declared.data.ObjKind.{ObjKind}
use Rattle.world_laws.specs.host_data.declared.data.ObjKind.TheVariants as kinds
use Rattle.world_laws.specs.refusals.Outcomes.{wanted}
use Rattle.world_laws.specs.refusals.declared.codes.Refusal.{Refusal}
use Rattle.world_laws.proofs.host_data.ValuesRead.{value_has}
use Rattle.world_laws.proofs.refusals.Steps.{after_need, after_step, wanted_there}
use Rattle.world_laws.specs.world_state.Known.{IsFormed, ObjectKnown, known_as, made_as}
use Rattle.world_laws.specs.world_state.Worlds.{State}
use Rattle.rules.specs.Licence.{IsObject, NamesPayment, SomeObject}

-- what is wanted has what it has where it is there
pub if_wanted : {A : Type 0} (P : A → Type 0) (o : Option A) (r : Refusal) → ((x : A) → o ≡ Some x → P x) → IfOk (wanted o r) P
unfolding wanted
if_wanted P (Some x) r h = h x refl
if_wanted P None r h = tt

-- ---- values

-- a value that was read is one of the kind
pub value_read : (kind : Kind) (t : Tree) (v : ValueView) → value_in kind t ≡ Some v → IsValueOf kind v
value_read kind t v is = rw is at (value_has kind t)

pub amount_is : (brand : ℕ) (kind : Kind) (place : ℕ) (t : Tree) → IfOk (amount_in brand kind place t) (IsValueOf kind)
unfolding amount_in
amount_is brand kind place t =
    after_step _ _ _ (λ parts is. after_need _ _ _ _ (λ same. if_wanted _ _ _ (λ v read. value_read kind parts.value v read)))

-- ---- objects

object_named : (kind : ObjKind) (o : Obj) (n : ℕ) → number_of_kind kind o ≡ Some n → IsObject kind n o
object_named kind o n e = by (is_kind kind o.kind) refl e
  where
    by : (b : Bool) → is_kind kind o.kind ≡ b → (if b then Some o.number else None) ≡ Some n → IsObject kind n o
    by true is at = record { kind_is = is; number_is = same_Some o.number n at }
    by false is at = absurd (cc)

pub data_names : (kind : ObjKind) (t : Tree) (n : ℕ) → object_in kind t ≡ Some n → SomeObject (IsObject kind n) t
unfolding object_in
data_names kind (object o) n e = object_named kind o n e
data_names kind null n e = absurd (cc)
data_names kind (boolean b) n e = absurd (cc)
data_names kind (number z) n e = absurd (cc)
data_names kind (text s) n e = absurd (cc)
data_names kind (array ts) n e = absurd (cc)
data_names kind (fields fs) n e = absurd (cc)
data_names kind (function name) n e = absurd (cc)

pub read_named : (args : List Tree) (k n : ℕ) → SomeObject (IsObject kinds.Payment n) (slice_index_or args k null) → NamesPayment args n
read_named [] k n some = absurd some
read_named (t ∷ ts) zero n some = inl some
read_named (t ∷ ts) (suc k) n some = inr (read_named ts k n some)

-- a payment at a place is named by the arguments
pub payment_named : (place : ℕ) (args : List Tree) (n : ℕ) → object_at kinds.Payment place args ≡ Ok n → NamesPayment args n
unfolding object_at
payment_named place args n is = read_named args (place - 1) n (data_names kinds.Payment (arg place args) n (wanted_there (object_in kinds.Payment (arg place args)) _ n is))

-- what is of the kind of payments was made
made_payment : (w : State) (k : ObjKind) (n : ℕ) → is_kind kinds.Payment k ≡ true → made_as w k n → n < length w.rights.payments
made_payment w kinds.Payment n is made = made
made_payment w _ n is made = absurd (false≢true is)

known_payment : (w : State) (i : ℕ) (k : ObjKind) (n : ℕ) → is_kind kinds.Payment k ≡ true → known_as i w k n → n < length w.rights.payments
known_payment w i kinds.Payment n is made = made
known_payment w i _ n is made = absurd (false≢true is)

pub payment_below : (w : State) (h : Option ℕ) (o : Obj) → is_kind kinds.Payment o.kind ≡ true → ObjectKnown h w o → o.number < length w.rights.payments
payment_below w None o is known = made_payment w o.kind o.number is known
payment_below w (Some i) o is known = known_payment w i o.kind o.number is known

-- and so was a payment at a place
pub payment_made : (w : State) (h : Option ℕ) (place : ℕ) (args : List Tree) (n : ℕ) → IsFormed w h (arg place args) → object_at kinds.Payment place args ≡ Ok n → n < length w.rights.payments
unfolding object_at
payment_made w h place args n formed is =
    read_made (ObjectKnown h w) kinds.Payment (length w.rights.payments) (payment_below w h) 0 (arg place args) formed.objects n
    (wanted_there (object_in kinds.Payment (arg place args)) _ n is)
