-- Whether an instance may hold data, as tests that compute.
use Rattle.std.specs.Prelude.{ℕ, ◌==◌, nat_lt, nat_le, ◌&&◌, is_some, Bool, true, false, List, [], ◌∷◌, length}
use Rattle.std.specs.Cmp.Lexicographic.{slice_cmp}
use Rattle.std.specs.Ordering.{nat_cmp}
use Rattle.std.specs.declared.cmp.Ordering.{Ordering}
use Rattle.std.specs.declared.cmp.Ordering.TheVariants.{Less}
use Rattle.refusals.specs.amount_math.declared.Kind.{Kind}
use Rattle.refusals.specs.amount_math.declared.Kind.TheVariants.{Bag, Nat, Set}
use Rattle.rules.specs.brands.Brands.{brand_at}
use Rattle.rules.specs.brands.declared.Brand.{Brand}
use Rattle.refusals.specs.host_text.Words.{is_field_name}
use Rattle.rules.specs.jessie_semantics.Rules.{find_routine}
use Rattle.rules.specs.jessie_grammar.Syntax.{routines}
use Rattle.refusals.specs.host_data.Tree.{Fields, Items, Tree, array, field, fields, function, item, nesting, no_fields, no_items, object}
use Rattle.refusals.specs.host_data.declared.data.ObjKind.{ObjKind}
use Rattle.refusals.specs.host_data.declared.data.ObjKind.TheVariants as kinds
use Rattle.rules.specs.world_state.Known.{module_of}
use Rattle.rules.specs.world_state.Worlds.{Maker, Seat, State, maker_at, of_instance, of_kit, seat_at}

-- ---- objects

abbrev pub same_kind : Kind → Kind → Bool
same_kind Nat Nat = true
same_kind Set Set = true
same_kind Bag Bag = true
same_kind _ _ = false

abbrev pub is_brand : List Brand → Kind → ℕ → Bool
is_brand bs kind b = nat_lt b (length bs) && same_kind (brand_at bs b).kind kind

abbrev pub is_kit : Maker → Bool
is_kit of_kit = true
is_kit _ = false

abbrev pub is_instance : ℕ → Maker → Bool
is_instance i (of_instance n) = n == i
is_instance i _ = false

abbrev pub is_made_by_kit : List Maker → ℕ → Bool
is_made_by_kit ms b = nat_lt b (length ms) && is_kit (maker_at ms b)

abbrev pub is_made_by : List Maker → ℕ → ℕ → Bool
is_made_by ms i b = nat_lt b (length ms) && is_instance i (maker_at ms b)

abbrev pub is_seat_of : List Seat → ℕ → ℕ → Bool
is_seat_of seats i n = nat_lt n (length seats) && ((seat_at seats n).instance == i)

abbrev pub knows_object : State → ℕ → ObjKind → ℕ → Bool
knows_object w i kinds.Ertp n = n == 0
knows_object w i kinds.Zoe n = n == 0
knows_object w i kinds.Timer n = n == 0
knows_object w i (kinds.Brand kind) n = is_brand w.brands kind n
knows_object w i kinds.Issuer n = nat_lt n (length w.brands)
knows_object w i kinds.Mint n = is_made_by_kit w.makers n
knows_object w i kinds.Purse n = nat_lt n (length w.rights.purses)
knows_object w i kinds.Deposit n = nat_lt n (length w.rights.purses)
knows_object w i kinds.Payment n = nat_lt n (length w.rights.payments)
knows_object w i kinds.Installation n = nat_lt n (length w.tables.installations)
knows_object w i kinds.Instance n = nat_lt n (length w.tables.instances)
knows_object w i kinds.Zcf n = n == i
knows_object w i kinds.Seat n = nat_lt n (length w.seats)
knows_object w i kinds.Zseat n = is_seat_of w.seats i n
knows_object w i kinds.Zmint n = is_made_by w.makers i n
knows_object w i kinds.Facet n = nat_lt n (length w.facets)
knows_object w i kinds.Promise n = nat_lt n (length w.promises.settled)

-- ---- functions and records

abbrev pub names_function : State → ℕ → List ℕ → Bool
names_function w i f = is_some (find_routine f (routines (module_of w.tables i)))

abbrev pub is_less : Ordering → Bool
is_less Less = true
is_less _ = false

-- the name stands before that of the first field
abbrev pub before : List ℕ → Fields → Bool
before name no_fields = true
before name (field next t fs) = is_less (slice_cmp nat_cmp name next)

abbrev pub in_order : Fields → Bool
in_order no_fields = true
in_order (field name t fs) = before name fs && in_order fs

-- ---- data

abbrev mutual
  pub knows : State → ℕ → Tree → Bool
  knows w i (array ts) = knows_items w i ts
  knows w i (fields fs) = in_order fs && knows_fields w i fs
  knows w i (object o) = knows_object w i o.kind o.number
  knows w i (function f) = is_field_name f && names_function w i f
  knows w i _ = true

  pub knows_items : State → ℕ → Items → Bool
  knows_items w i no_items = true
  knows_items w i (item t ts) = knows w i t && knows_items w i ts

  pub knows_fields : State → ℕ → Fields → Bool
  knows_fields w i no_fields = true
  knows_fields w i (field name t fs) = (is_field_name name && knows w i t) && knows_fields w i fs

abbrev pub knows_record : State → ℕ → Fields → Bool
knows_record w i fs = in_order fs && knows_fields w i fs

-- arrays and records nest at most 32 deep, and each node is known
abbrev pub passes : State → ℕ → Tree → Bool
passes w i t = nat_le (nesting t) 32 && knows w i t

abbrev pub all_pass : State → ℕ → List Tree → Bool
all_pass w i [] = true
all_pass w i (t ∷ ts) = passes w i t && all_pass w i ts
