-- Where the movements of a call may take from and go to, by who calls, of what which method, and what the arguments
-- name. Who calls is none for a party's line and for a call that was sent, or the instance whose function calls.
use Rattle.std.specs.Prelude.{◌≡◌, ◌⊎◌, ℕ, ◌≤◌, List, [], ◌∷◌, length, Option, Some, None, codes, true}
use Rattle.std.specs.List.{AllByRecursion}
use Rattle.call_arguments.specs.Arguments.{is_kind}
use Rattle.call_arguments.specs.host_data.Tree.{Tree, Items, Fields, array, fields, object, no_items, item, no_fields, field}
use Rattle.call_arguments.specs.host_data.declared.data.Obj.{Obj}
use Rattle.call_arguments.specs.host_data.declared.data.ObjKind.{ObjKind}
use Rattle.call_arguments.specs.host_data.declared.data.ObjKind.TheVariants as kinds
use Rattle.rearrange.specs.rights_model.declared.Holder.{Holder}
use Rattle.rearrange.specs.rights_model.declared.Holder.TheVariants.{Purse, Payment, Slot, Hand, Outside}
use Rattle.rearrange.specs.rights_model.declared.Movement.{Movement}
use Rattle.world_state.specs.Known.{IsMadeBy, IsSeatOf}
use Rattle.world_state.specs.Worlds.{State, of_instance}

-- some object in data is so
abbrev mutual
  pub SomeObject : (Obj → Type 0) → Tree → Type 0
  SomeObject P (object o) = P o
  SomeObject P (array ts) = SomeItem P ts
  SomeObject P (fields fs) = SomeField P fs
  SomeObject P _ = ⊥

  pub SomeItem : (Obj → Type 0) → Items → Type 0
  SomeItem P no_items = ⊥
  SomeItem P (item t ts) = SomeObject P t ⊎ SomeItem P ts

  pub SomeField : (Obj → Type 0) → Fields → Type 0
  SomeField P no_fields = ⊥
  SomeField P (field name t fs) = SomeObject P t ⊎ SomeField P fs

-- an object is the one of this kind and number
pub record IsObject (kind : ObjKind) (n : ℕ) (o : Obj) : Type 0 where
  pub kind_is : is_kind kind o.kind ≡ true
  pub number_is : o.number ≡ n

-- the arguments name a payment, somewhere in their data
abbrev pub NamesPayment : List Tree → ℕ → Type 0
NamesPayment [] n = ⊥
NamesPayment (t ∷ ts) n = SomeObject (IsObject kinds.Payment n) t ⊎ NamesPayment ts n

-- the call is of a method of this object
pub record IsCall (kind : ObjKind) (n : ℕ) (method : List ℕ) (o : Obj) (m : List ℕ) : Type 0 where
  pub target : IsObject kind n o
  pub method_is : m ≡ method

-- ---- calls from outside instances

-- a movement takes from the purse of which is withdrawn, from a payment that the arguments name, or from outside
-- where the mint of its brand is asked for a payment
abbrev pub ServiceTakes : Obj → List ℕ → List Tree → ℕ → Holder → Type 0
ServiceTakes o m args b (Purse n) = IsCall kinds.Purse n (codes "withdraw") o m
ServiceTakes o m args b (Payment n) = NamesPayment args n
ServiceTakes o m args b Outside = IsCall kinds.Mint b (codes "mintPayment") o m
ServiceTakes o m args b (Slot s k) = ⊥
ServiceTakes o m args b Hand = ⊥

-- ---- calls of an instance's functions

-- from a slot of the instance, from the hand, from a payment that the arguments name, or from outside where the
-- mint of the brand, which the instance made, is asked for gains
abbrev pub ContractTakes : State → ℕ → Obj → List ℕ → List Tree → ℕ → Holder → Type 0
ContractTakes w i o m args b (Slot s k) = IsSeatOf w.seats i s
ContractTakes w i o m args b Hand = Unit {0}
ContractTakes w i o m args b (Payment n) = NamesPayment args n
ContractTakes w i o m args b Outside =
    IsMadeBy w.makers (of_instance i) b × IsCall kinds.Zmint b (codes "mintGains") o m
ContractTakes w i o m args b (Purse n) = ⊥

-- to a slot of the instance, to the hand, to a payment that the call makes, or to outside where losses are burned
-- on the mint of the brand, which the instance made
abbrev pub ContractGives : State → ℕ → Obj → List ℕ → ℕ → Holder → Type 0
ContractGives w i o m b (Slot s k) = IsSeatOf w.seats i s
ContractGives w i o m b Hand = Unit {0}
ContractGives w i o m b (Payment n) = length w.rights.payments ≤ n
ContractGives w i o m b Outside =
    IsMadeBy w.makers (of_instance i) b × IsCall kinds.Zmint b (codes "burnLosses") o m
ContractGives w i o m b (Purse n) = ⊥

pub record IsContractMove (w : State) (i : ℕ) (o : Obj) (m : List ℕ) (args : List Tree) (move : Movement) : Type 0 where
  pub takes : ContractTakes w i o m args move.brand move.from
  pub gives : ContractGives w i o m move.brand move.to

-- ---- where what moves is kept

-- purses, payments and slots
abbrev pub IsStore : Holder → Type 0
IsStore (Purse n) = Unit {0}
IsStore (Payment n) = Unit {0}
IsStore (Slot s k) = Unit {0}
IsStore Hand = ⊥
IsStore Outside = ⊥

-- a movement goes to one of them, or comes from one
abbrev pub IsStored : Movement → Type 0
IsStored m = IsStore m.from ⊎ IsStore m.to

-- ---- all movements of a call

abbrev pub IsLicensed : State → Option ℕ → Obj → List ℕ → List Tree → Movement → Type 0
IsLicensed w None o m args move = ServiceTakes o m args move.brand move.from
IsLicensed w (Some i) o m args move = IsContractMove w i o m args move

abbrev pub AreLicensed : State → Option ℕ → Obj → List ℕ → List Tree → List Movement → Type 0
AreLicensed w caller o m args ms = AllByRecursion (IsLicensed w caller o m args) ms
