-- ERTP's service (ERTP).
use Rattle.std.specs.Prelude.{ℕ, List, [], ◌∷◌, length, Option, Some, None, option_and_then, Ok, if◌then◌else◌, codes}
use Rattle.std.specs.Str.{bytes_eq}
use Rattle.call_arguments.specs.Arguments.{arg, text_at}
use Rattle.call_arguments.specs.amount_math.declared.Kind.{Kind}
use Rattle.call_arguments.specs.amount_math.declared.Kind.TheVariants.{Bag, Nat, Set}
use Rattle.call_arguments.specs.host_data.Tree.{Tree, field, fields, is_null, no_fields, text_of}
use Rattle.call_arguments.specs.host_data.Values.{brand_tree, object_tree}
use Rattle.call_arguments.specs.host_data.declared.data.ObjKind.TheVariants as kinds
use Rattle.call_arguments.specs.refusals.Codes.{bad_args}
use Rattle.call_arguments.specs.refusals.Outcomes.{◌>>=◌, wanted}
use Rattle.world_state.specs.Worlds.{State, new_brand, of_kit}
use Rattle.world_state.specs.brands.Brands.{brand_of, most_brands}
use Rattle.rules.specs.Outcomes.{Outcome}
use Rattle.rules.specs.Words.{next_of, without_method}

-- ---- ertp.makeIssuerKit(name, kind)

abbrev pub kind_named : List ℕ → Option Kind
kind_named name =
    if bytes_eq name (codes "nat") then Some Nat
    else if bytes_eq name (codes "set") then Some Set
    else if bytes_eq name (codes "bag") then Some Bag
    else None

-- the kind that a text names; null stands for whole numbers
abbrev pub kind_in : Tree → Option Kind
kind_in t = if is_null t then Some Nat else option_and_then kind_named (text_of t)

-- a new brand with its issuer and its mint, which have its number
abbrev pub kit_tree : Kind → ℕ → Tree
kit_tree kind b = fields (
    field (codes "brand") (brand_tree kind b)
    (field (codes "issuer") (object_tree kinds.Issuer b)
    (field (codes "mint") (object_tree kinds.Mint b) no_fields)))

unfoldable pub make_issuer_kit : State → List Tree → Outcome
make_issuer_kit w args = do
  name ← text_at 1 64 1 args
  kind ← wanted (kind_in (arg 2 args)) (bad_args 2)
  brand ← next_of (length w.brands) most_brands
  Ok (kit_tree kind brand, new_brand (brand_of name kind) of_kit ∷ [])

-- ---- the table of methods

-- which rule a call of the service is
abbrev pub of_ertp : State → List ℕ → List Tree → Outcome
of_ertp w m args =
    if bytes_eq m (codes "makeIssuerKit") then make_issuer_kit w args
    else without_method m
