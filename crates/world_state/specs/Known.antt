-- Which objects were made, which an instance may name, what data of theirs is formed, and what it
-- is that all that was made stays what it is.
use Rattle.std.specs.Prelude.{◌≡◌, ℕ, ◌<◌, ◌≤◌, ◌⊎◌, true, Option, Some, None, IsSome}
use Rattle.std.specs.Prelude.{List, [], ◌∷◌, length, slice_index_or}
use Rattle.std.specs.Str.{IsUtf8}
use Rattle.vault_model.specs.amount_math.declared.Kind.{Kind}
use Rattle.actors.specs.brands.Brands.{brand_at, no_brand}
use Rattle.actors.specs.brands.declared.Brand.{Brand}
use Rattle.vault_model.specs.host_data.Nodes.{NodeFact}
use Rattle.vault_model.specs.host_data.Nodes.{EachNode, FunctionIs, HasFieldsInOrder, IsShallow, ObjectIs}
use Rattle.turn_records.specs.Printable.{HaveFieldNames, IsNumber}
use Rattle.vault_model.specs.host_text.Words.{is_field_name}
use Rattle.actors.specs.Facets.{no_facet}
use Rattle.actors.specs.SeatPromises.{no_pair}
use Rattle.actors.specs.Tables.{InstanceView, Tables, instance_at, module_at}
use Rattle.actors.specs.Tables.{no_instance, no_module}
use Rattle.actors.specs.turn_stores.Details.{no_details}
use Rattle.actors.specs.jessie_grammar.Syntax.{Routine, routines}
use Rattle.vault_model.specs.host_data.Tree.{Tree, fields, function, number, object, text}
use Rattle.vault_model.specs.host_data.declared.data.Obj.{Obj}
use Rattle.vault_model.specs.host_data.declared.data.ObjKind.{ObjKind}
use Rattle.vault_model.specs.host_data.declared.data.ObjKind.TheVariants as kinds
use Rattle.actors.specs.jessie_grammar.declared.syntax.Module.{Module}
use Rattle.vault_model.specs.holders.PaymentViews.{PaymentView, spent_payment}
use Rattle.vault_model.specs.proposals.declared.offers.Proposal.{Proposal}
use Rattle.turn_records.specs.turn_rows.Form.{objects_end}
use Rattle.world_state.specs.Promises.{WasSettled, no_promise}
use Rattle.world_state.specs.Worlds.{Maker, Seat, State, maker_at, no_seat, seat_at}
use Rattle.world_state.specs.Worlds.{of_host, of_instance, of_kit}

-- a brand of a kind was made
pub record IsBrand (bs : List Brand) (kind : Kind) (b : ℕ) : Type 0 where
  pub made : b < length bs
  pub kind_is : (brand_at bs b).kind ≡ kind

-- a brand was made by one that has its mint
pub record IsMadeBy (ms : List Maker) (maker : Maker) (b : ℕ) : Type 0 where
  pub made : b < length ms
  pub is : maker_at ms b ≡ maker

-- a seat was opened for an instance
pub record IsSeatOf (seats : List Seat) (i n : ℕ) : Type 0 where
  pub made : n < length seats
  pub own : (seat_at seats n).instance ≡ i

-- an object that can be named outside instances was made: the services are there once, brand and
-- issuer go by one number, so do a purse and its deposit facet
abbrev pub made_as : State → ObjKind → ℕ → Type 0
made_as w kinds.Ertp n = n ≡ 0
made_as w kinds.Zoe n = n ≡ 0
made_as w kinds.Timer n = n ≡ 0
made_as w (kinds.Brand kind) n = IsBrand w.brands kind n
made_as w kinds.Issuer n = n < length w.brands
made_as w kinds.Mint n = IsMadeBy w.makers of_kit n
made_as w kinds.Purse n = n < length w.rights.purses
made_as w kinds.Deposit n = n < length w.rights.purses
made_as w kinds.Payment n = n < length w.rights.payments
made_as w kinds.Installation n = n < length w.tables.installations
made_as w kinds.Instance n = n < length w.tables.instances
made_as w kinds.Zcf n = ⊥
made_as w kinds.Seat n = n < length w.seats
made_as w kinds.Zseat n = ⊥
made_as w kinds.Zmint n = ⊥
made_as w kinds.Facet n = n < length w.facets
made_as w kinds.Promise n = n < length w.promises.settled

abbrev pub IsMade : State → Obj → Type 0
IsMade w o = made_as w o.kind o.number

-- an instance may name its own zcf, its own ZCF seats and mints, and all that can be named outside
abbrev pub known_as : ℕ → State → ObjKind → ℕ → Type 0
known_as i w kinds.Zcf n = n ≡ i
known_as i w kinds.Zseat n = IsSeatOf w.seats i n
known_as i w kinds.Zmint n = IsMadeBy w.makers (of_instance i) n
known_as i w kind n = made_as w kind n

-- one of the functions has the name
abbrev pub IsNamed : List ℕ → List Routine → Type 0
IsNamed f [] = ⊥
IsNamed f (r ∷ rs) = (r.name ≡ f) ⊎ IsNamed f rs

abbrev pub module_of : Tables → ℕ → Module
module_of t i = module_at t.installations (instance_at t.instances i).installation

-- an instance that was made, whose installation was made, has a function of the name
pub record HasFunction (t : Tables) (i : ℕ) (f : List ℕ) : Type 0 where
  pub made : i < length t.instances
  pub installed : (instance_at t.instances i).installation < length t.installations
  pub named : IsNamed f (routines (module_of t i))

-- who holds data: none in particular, so that it can be handed to anyone, or an instance
abbrev pub ObjectKnown : Option ℕ → State → Obj → Type 0
ObjectKnown None w o = made_as w o.kind o.number
ObjectKnown (Some i) w o = known_as i w o.kind o.number

abbrev pub FunctionKnown : Option ℕ → State → List ℕ → Type 0
FunctionKnown None w f = ⊥
FunctionKnown (Some i) w f = HasFunction w.tables i f

-- the fields of records and functions have names of the form that field names have
abbrev pub HasNames : NodeFact
HasNames n (fields fs) = HaveFieldNames fs
HasNames n (function name) = is_field_name name ≡ true
HasNames n _ = Unit {0}

-- numbers within 128 signed bits, texts of UTF-8, objects' numbers of 32 bits
abbrev pub HasWidth : NodeFact
HasWidth n (number z) = IsNumber z
HasWidth n (text s) = IsUtf8 s
HasWidth n (object o) = o.number < objects_end
HasWidth n _ = Unit {0}

-- all that the data names is known to its holder, fields and functions have names of their form,
-- the fields of its records stand in order, and it nests at most 32 deep
pub record IsFormed (w : State) (holder : Option ℕ) (t : Tree) : Type 0 where
  pub objects : EachNode (ObjectIs (ObjectKnown holder w)) 0 t
  pub functions : EachNode (FunctionIs (FunctionKnown holder w)) 0 t
  pub named : EachNode HasNames 0 t
  pub ordered : EachNode HasFieldsInOrder 0 t
  pub shallow : EachNode (IsShallow 32) 0 t

-- it can be handed to anyone
abbrev pub IsHanded : State → Tree → Type 0
IsHanded w t = IsFormed w None t

-- an instance may hold it
abbrev pub IsKnownTo : State → ℕ → Tree → Type 0
IsKnownTo w i t = IsFormed w (Some i) t

-- data that names nothing, as a text may write it
pub record IsPlain (t : Tree) : Type 0 where
  pub objects : EachNode (ObjectIs (λ o. ⊥)) 0 t
  pub functions : EachNode (FunctionIs (λ f. ⊥)) 0 t
  pub named : EachNode HasNames 0 t
  pub ordered : EachNode HasFieldsInOrder 0 t
  pub shallow : EachNode (IsShallow 32) 0 t
  pub sized : EachNode HasWidth 0 t

-- ---- what was made stays what it is

-- a list has all that the other has, in its place, as far as it is seen
pub record Extends {A B : Type 0} (seen : A → B) (none : A) (xs ys : List A) : Type 0 where
  pub more : length xs ≤ length ys
  pub same : (n : ℕ) → n < length xs
      → seen (slice_index_or ys n none) ≡ seen (slice_index_or xs n none)

-- what has a property in a list has it in the other
pub record Keeps {A : Type 0} (P : A → Type 0) (none : A) (xs ys : List A) : Type 0 where
  pub each : (n : ℕ) → n < length xs
      → P (slice_index_or xs n none) → P (slice_index_or ys n none)

abbrev pub whole : {A : Type 0} → A → A
whole x = x

-- whose a seat is and what it was opened for; the installation of an instance, and its terms
abbrev pub seat_origin : Seat → ℕ × Proposal
seat_origin s = (s.instance, s.proposal)

abbrev pub instance_origin : InstanceView → ℕ × Tree
instance_origin x = (x.installation, x.terms)

-- a seat was left, a payment was spent
abbrev pub WasLeft : Seat → Type 0
WasLeft seat = IsSome seat.last

abbrev pub WasSpent : PaymentView → Type 0
WasSpent p = p.held ≡ None

pub record Grows (old new : State) : Type 0 where
  pub brands : Extends whole no_brand old.brands new.brands
  pub makers : Extends whole of_host old.makers new.makers
  pub purses : length old.rights.purses ≤ length new.rights.purses
  pub payments : length old.rights.payments ≤ length new.rights.payments
  pub seats : Extends seat_origin no_seat old.seats new.seats
  pub pairs : Extends whole no_pair old.pairs new.pairs
  pub invitations : Extends whole no_details old.invitations new.invitations
  pub installations : Extends whole no_module old.tables.installations new.tables.installations
  pub instances : Extends instance_origin no_instance old.tables.instances new.tables.instances
  pub facets : Extends whole no_facet old.facets new.facets
  pub promises : length old.promises.settled ≤ length new.promises.settled
  pub settled : Keeps WasSettled no_promise old.promises.settled new.promises.settled
  pub left : Keeps WasLeft no_seat old.seats new.seats
  pub spent : Keeps WasSpent (spent_payment 0) old.rights.payments new.rights.payments
