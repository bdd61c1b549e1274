-- Zoe's service: installing, starting, offers, and what it tells of invitations and instances (Zoe; the text of a
-- contract and Pending are our own).
use Rattle.std.specs.List.{list_all}
use Rattle.std.specs.Option.{option_map_or}
use Rattle.std.specs.Prelude.{◌≡◌, ℕ, zero, suc, ◌+◌, ◌==◌, ◌||◌, nat_le, not, List, [], ◌∷◌, length, Bool, false, Option, Some, None, option_and_then, option_map, unwrap_or, Result, Ok, Err, if◌then◌else◌, codes}
use Rattle.std.specs.Str.{bytes_eq}
use Rattle.call_arguments.specs.Arguments.{arg, object_at, object_in}
use Rattle.call_arguments.specs.Numbers.{first_repeated, least_failing}
use Rattle.call_arguments.specs.Records.{first_ill, names, objects_under}
use Rattle.call_arguments.specs.amount_math.Content.{entries}
use Rattle.call_arguments.specs.amount_math.ValueView.{ValueView}
use Rattle.call_arguments.specs.host_data.Amounts.{read_all}
use Rattle.call_arguments.specs.host_data.Tree.{Tree, fields, is_null, no_fields, null, text_of}
use Rattle.call_arguments.specs.host_data.Values.{object_tree}
use Rattle.call_arguments.specs.host_data.declared.data.ObjKind.TheVariants as kinds
use Rattle.call_arguments.specs.proposals.Shares.{most_shares}
use Rattle.call_arguments.specs.proposals.declared.allocations.Share.{Share}
use Rattle.call_arguments.specs.proposals.declared.offers.Proposal.{Proposal}
use Rattle.call_arguments.specs.refusals.Codes.{bad_args, bad_keyword, dead_payment, limit, not_invitation, pending, repeated_payment, wrong_amount, wrong_object}
use Rattle.call_arguments.specs.refusals.Outcomes.{◌>>=◌, ◌>>◌, need, none_such, reading, wanted}
use Rattle.call_arguments.specs.refusals.declared.codes.Refusal.{Refusal}
use Rattle.call_arguments.specs.refusals.declared.codes.Refusal.TheVariants.{TextRefused}
use Rattle.rearrange.specs.ertp_mint.Stocks.{most_made}
use Rattle.rearrange.specs.rights_model.Table.{movement}
use Rattle.rearrange.specs.rights_model.declared.Holder.TheVariants.{Outside, Payment}
use Rattle.world_state.specs.Good.{IsModule, open_slots}
use Rattle.world_state.specs.Worlds as worlds
use Rattle.world_state.specs.Worlds.{Offering, Starting, State, promises_made}
use Rattle.world_state.specs.actors.Tables.{InstanceView, instance_at}
use Rattle.world_state.specs.brands.IssuerRecords.{issuer_of, most_issuers}
use Rattle.world_state.specs.brands.declared.issuer_record.Issuer.{Issuer}
use Rattle.world_state.specs.jessie_grammar.declared.syntax.Module.{Module}
use Rattle.world_state.specs.turn_stores.Details.{details_at}
use Rattle.world_state.specs.turn_stores.Elements.{element}
use Rattle.rules.specs.GivenPayments.{escrows_of, first_wrong, held_by, is_live_in, payment_view_of}
use Rattle.rules.specs.Outcomes.{Outcome}
use Rattle.rules.specs.Proposals.{proposed}
use Rattle.rules.specs.Records.{details_tree, issuers_tree, terms_tree}
use Rattle.rules.specs.Words.{has_halted, is_offered_to, next_of, record_in, without_method}

-- ---- zoe.install(text)

-- what the text of a contract is read as: its module, or where and why it is refused. Rules are over any such
-- reader
abbrev pub TextReader : Type 0
TextReader = List ℕ → Result Module (ℕ × List ℕ)

-- what a reader reads are modules as they are to be
pub record ReadsModules (read : TextReader) : Type 0 where
  pub each : (bytes : List ℕ) (m : Module) → read bytes ≡ Ok m → IsModule m

-- a text that isn't read is refused
abbrev pub module_in : Result Module (ℕ × List ℕ) → Result Module Refusal
module_in (Ok m) = Ok m
module_in (Err f) = Err (TextRefused f.0 f.1)

unfoldable pub install : TextReader → State → List Tree → Outcome
install read w args = do
  bytes ← wanted (text_of (arg 1 args)) (bad_args 1)
  m ← module_in (read bytes)
  installation ← next_of (length w.tables.installations) most_made
  Ok (object_tree kinds.Installation installation, worlds.install m ∷ [])

-- ---- zoe.startInstance(installation, issuers, terms, privateArgs)

-- an issuer under a keyword
abbrev pub issuer_in : List ℕ × Tree → Option Issuer
issuer_in f = option_map (λ brand. issuer_of f.0 brand) (object_in kinds.Issuer f.1)

-- the names that terms get from the issuer record
abbrev pub is_kept_name : List ℕ → Bool
is_kept_name name = bytes_eq name (codes "issuers") || bytes_eq name (codes "brands")

-- terms are a record without those names
unfoldable pub has_terms : Tree → Bool
has_terms t = option_map_or (list_all (λ f. not (is_kept_name f.0))) (record_in t) false

abbrev pub terms_in : Tree → Tree
terms_in t = if is_null t then fields no_fields else t

-- issuers, each under a keyword
unfoldable pub issuers_at : ℕ → List Tree → Result (List Issuer) Refusal
issuers_at place args = do
  given ← wanted (record_in (arg place args)) (bad_args place)
  none_such (first_ill (names given)) bad_keyword
  wanted (read_all issuer_in given) (wrong_object place)

abbrev pub starting : ℕ → List Issuer → Tree → Tree → Starting
starting installation issuers terms arguments = record {
  installation = installation;
  issuers = issuers;
  terms = terms_in terms;
  private_arguments = arguments;
}

unfoldable pub start_instance : State → List Tree → Outcome
start_instance w args = do
  installation ← object_at kinds.Installation 1 args
  issuers ← issuers_at 2 args
  need (has_terms (arg 3 args)) (bad_args 3)
  need (nat_le (length issuers) most_issuers) (limit most_issuers)
  instance ← next_of (length w.tables.instances) most_made
  promise ← next_of (promises_made w) most_made
  Ok (object_tree kinds.Promise promise, worlds.start (starting installation issuers (arg 3 args) (arg 4 args)) ∷ [])

-- ---- the invitation of an offer

-- the payment of an invitation, and its number among all of them
pub record Invited : Type 0 where
  pub payment : ℕ
  pub invitation : ℕ

-- the invitation, of the first so many, that a key names
abbrev pub named_by : ℕ → List ℕ → Option ℕ
named_by zero key = None
named_by (suc n) key = if bytes_eq key (element n) then Some n else named_by n key

-- the key of what has just one
abbrev pub only_key : List (List ℕ × ℕ) → Option (List ℕ)
only_key (e ∷ []) = Some e.0
only_key _ = None

-- the invitation that a value of a brand is, where it is one
unfoldable pub invitation_in : State → ℕ → ValueView → Option ℕ
invitation_in w brand value =
    if brand == 0 then option_and_then (named_by (length w.invitations)) (only_key (entries value.content)) else None

-- the instance that an invitation was made by
abbrev pub inviting : State → ℕ → ℕ
inviting w invitation = (details_at w.invitations invitation).instance

-- a live payment of one invitation, of which the instance takes offers
unfoldable pub invited : State → List Tree → Result Invited Refusal
invited w args = do
  payment ← object_at kinds.Payment 1 args
  value ← wanted (payment_view_of w payment).held (dead_payment payment)
  invitation ← wanted (invitation_in w (payment_view_of w payment).brand value) (not_invitation payment)
  is_offered_to w (inviting w invitation)
  Ok (record { payment = payment; invitation = invitation })

-- ---- its payments, and room for its seat

-- payments in the order of the shares of give: live ones, none twice nor the invitation's, each of just what its share says
unfoldable pub paid : State → ℕ → List Share → List (List ℕ × Tree) → Result (List ℕ) Refusal
paid w invitation give given = do
  payments ← objects_under kinds.Payment 3 given
  none_such (least_failing (is_live_in w) payments) dead_payment
  none_such (first_repeated (invitation ∷ payments)) repeated_payment
  none_such (first_wrong w give payments) (λ v. wrong_amount v.0 v.1)
  Ok payments

abbrev pub keywords_of : Proposal → ℕ
keywords_of p = length p.give + length p.want

-- a seat can be opened for the proposal, as far as the limits go
unfoldable pub has_room : State → Proposal → Result (Unit {0}) Refusal
has_room w p = do
  need (nat_le (keywords_of p) most_shares) (limit most_shares)
  need (nat_le (length w.rights.payments + open_slots w.seats w.rights.slots + keywords_of p) most_made) (limit most_made)
  need (nat_le (length w.seats + 1) most_made) (limit most_made)
  need (nat_le (promises_made w + 2) most_made) (limit most_made)

-- ---- zoe.offer(invitation, proposal, payments, offerArgs)

-- the invitation is burned, then what is given goes to the new seat
abbrev pub offering : State → Invited → Proposal → List ℕ → Tree → Offering
offering w by p payments arguments = record {
  invitation = by.invitation;
  proposal = p;
  burn = movement 0 (Payment by.payment) Outside (held_by w by.payment);
  escrows = escrows_of (length w.seats) p.give payments;
  arguments = arguments;
}

-- zoe.offer(invitation, proposal, payments, offerArgs)
unfoldable pub offer : State → List Tree → Outcome
offer w args = do
  by ← invited w args
  read ← proposed (instance_at w.tables.instances (inviting w by.invitation)).issuers (arg 2 args) (arg 3 args)
  payments ← paid w by.payment read.proposal.give read.payments
  has_room w read.proposal
  Ok (object_tree kinds.Seat (length w.seats), worlds.offer (offering w by read.proposal payments (arg 4 args)) ∷ [])

-- ---- what Zoe tells

-- zoe.getInvitationIssuer(): that of the first brand
unfoldable pub get_invitation_issuer : Result Tree Refusal
get_invitation_issuer = Ok (object_tree kinds.Issuer 0)

-- zoe.getInvitationDetails(payment)
unfoldable pub get_invitation_details : State → List Tree → Result Tree Refusal
get_invitation_details w args = do
  payment ← object_at kinds.Payment 1 args
  value ← wanted (payment_view_of w payment).held (dead_payment payment)
  invitation ← wanted (invitation_in w (payment_view_of w payment).brand value) (not_invitation payment)
  Ok (details_tree (details_at w.invitations invitation))

abbrev pub instance_of : State → ℕ → InstanceView
instance_of w i = instance_at w.tables.instances i

-- what its start gave, once it was run; that of an instance that has halted counts as run
abbrev pub facet_of : InstanceView → Option Tree
facet_of x = if has_halted x.standing then Some (unwrap_or x.public_facet null) else x.public_facet

-- zoe.getPublicFacet(instance)
unfoldable pub get_public_facet : State → List Tree → Result Tree Refusal
get_public_facet w args = do
  i ← object_at kinds.Instance 1 args
  wanted (facet_of (instance_of w i)) pending

-- zoe.getTerms(instance)
unfoldable pub get_terms : State → List Tree → Result Tree Refusal
get_terms w args = do
  i ← object_at kinds.Instance 1 args
  Ok (terms_tree w (instance_of w i))

-- zoe.getIssuers(instance)
unfoldable pub get_issuers : State → List Tree → Result Tree Refusal
get_issuers w args = do
  i ← object_at kinds.Instance 1 args
  Ok (issuers_tree (instance_of w i).issuers)

-- ---- the table of methods

-- which rule a call of the service is
abbrev pub of_zoe : TextReader → State → List ℕ → List Tree → Outcome
of_zoe read w m args =
    if bytes_eq m (codes "getInvitationIssuer") then reading get_invitation_issuer
    else if bytes_eq m (codes "getInvitationDetails") then reading (get_invitation_details w args)
    else if bytes_eq m (codes "getPublicFacet") then reading (get_public_facet w args)
    else if bytes_eq m (codes "getTerms") then reading (get_terms w args)
    else if bytes_eq m (codes "getIssuers") then reading (get_issuers w args)
    else if bytes_eq m (codes "install") then install read w args
    else if bytes_eq m (codes "startInstance") then start_instance w args
    else if bytes_eq m (codes "offer") then offer w args
    else without_method m
