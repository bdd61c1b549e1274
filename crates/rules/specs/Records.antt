-- What the host keeps, as data: brands, allocations, terms and issuers of an instance, proposals, details of an
-- invitation.
use Rattle.std.specs.Prelude.{ℕ, List, [], ◌∷◌, codes}
use Rattle.call_arguments.specs.amount_math.declared.Kind.{Kind}
use Rattle.call_arguments.specs.amount_math.declared.Kind.TheVariants.{Bag, Nat, Set}
use Rattle.call_arguments.specs.host_data.Tree.{Fields, Tree, field, fields, no_fields, null, text}
use Rattle.call_arguments.specs.host_data.Values.{amount_tree, brand_tree, number_tree, object_tree}
use Rattle.call_arguments.specs.host_data.declared.data.ObjKind.TheVariants as kinds
use Rattle.call_arguments.specs.proposals.declared.allocations.Share.{Share}
use Rattle.call_arguments.specs.proposals.declared.offers.Exit.{Exit}
use Rattle.call_arguments.specs.proposals.declared.offers.Exit.TheVariants.{AfterDeadline, OnDemand, Waived}
use Rattle.call_arguments.specs.proposals.declared.offers.Proposal.{Proposal}
use Rattle.world_state.specs.Worlds.{State, placed_field}
use Rattle.world_state.specs.actors.Tables.{InstanceView}
use Rattle.world_state.specs.brands.Brands.{brand_at}
use Rattle.world_state.specs.brands.declared.issuer_record.Issuer.{Issuer}
use Rattle.world_state.specs.turn_stores.Details.{DetailsView}

-- ---- brands and issuers

abbrev pub brand_object : State → ℕ → Tree
brand_object w brand = brand_tree (brand_at w.brands brand).kind brand

-- the word for a kind
abbrev pub kind_word : Kind → List ℕ
kind_word Nat = codes "nat"
kind_word Set = codes "set"
kind_word Bag = codes "bag"

abbrev pub issuer_object : ℕ → Tree
issuer_object brand = object_tree kinds.Issuer brand

-- a brand with its issuer
abbrev pub issuer_record : State → ℕ → Tree
issuer_record w brand = fields (
    field (codes "brand") (brand_object w brand)
    (field (codes "issuer") (issuer_object brand) no_fields))

-- ---- allocations

-- the record from keyword to amount, in byte order of keywords
abbrev pub amount_fields : List Share → Fields
amount_fields [] = no_fields
amount_fields (r ∷ rs) = placed_field r.keyword (amount_tree r.amount) (amount_fields rs)

abbrev pub allocation_tree : List Share → Tree
allocation_tree shares = fields (amount_fields shares)

-- ---- issuer records and terms

-- an object for each brand of an issuer record, under its keyword, in byte order of keywords
abbrev pub object_fields : (ℕ → Tree) → List Issuer → Fields
object_fields seen [] = no_fields
object_fields seen (i ∷ is) = placed_field i.keyword (seen i.brand) (object_fields seen is)

abbrev pub issuers_tree : List Issuer → Tree
issuers_tree is = fields (object_fields (λ b. object_tree kinds.Issuer b) is)

abbrev pub brands_tree : State → List Issuer → Tree
brands_tree w is = fields (object_fields (λ b. brand_object w b) is)

-- a record with a field more, in byte order of names
abbrev pub with_field : List ℕ → Tree → Tree → Tree
with_field name t (fields fs) = fields (placed_field name t fs)
with_field name t other = other

-- the terms with what is in the issuer record now
abbrev pub terms_tree : State → InstanceView → Tree
terms_tree w x =
    with_field (codes "brands") (brands_tree w x.issuers)
    (with_field (codes "issuers") (issuers_tree x.issuers) x.terms)

-- ---- proposals, as they are offered

abbrev pub deadline_tree : ℕ → Tree
deadline_tree t = fields (
    field (codes "deadline") (number_tree t)
    (field (codes "timer") (object_tree kinds.Timer 0) no_fields))

abbrev pub exit_tree : Exit → Tree
exit_tree OnDemand = fields (field (codes "onDemand") null no_fields)
exit_tree Waived = fields (field (codes "waived") null no_fields)
exit_tree (AfterDeadline t) = fields (field (codes "afterDeadline") (deadline_tree t) no_fields)

abbrev pub proposal_tree : Proposal → Tree
proposal_tree p = fields (
    field (codes "exit") (exit_tree p.exit)
    (field (codes "give") (allocation_tree p.give)
    (field (codes "want") (allocation_tree p.want) no_fields)))

-- ---- invitations

abbrev pub details_tree : DetailsView → Tree
details_tree d = fields (
    field (codes "description") (text d.description)
    (field (codes "installation") (object_tree kinds.Installation d.installation)
    (field (codes "instance") (object_tree kinds.Instance d.instance) no_fields)))
