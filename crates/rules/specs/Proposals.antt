-- What is offered, as it is read of a call's data (Zoe; the order of the refusals is our own). Fields
-- are taken as they stand: in data that the host makes, in byte order of their names, each name once.
use Rattle.std.specs.List.{find, list_all, list_any}
use Rattle.std.specs.Option.{option_map_or}
use Rattle.std.specs.Prelude.{ℕ, ◌==◌, ◌||◌, not, List, [], ◌∷◌, map, filter, Bool, false, Option, Some, None, option_and_then, unwrap_or, Result, Ok, if◌then◌else◌, codes}
use Rattle.std.specs.Str.{bytes_eq}
use Rattle.call_arguments.specs.Exits.{exit_in}
use Rattle.call_arguments.specs.Numbers.{least, least_of}
use Rattle.call_arguments.specs.Records.{ShareData, first_ill, keywords, names, share_in, values_in}
use Rattle.call_arguments.specs.amount_math.ValueView.{ValueView}
use Rattle.call_arguments.specs.host_data.Amounts.{read_all}
use Rattle.call_arguments.specs.host_data.Tree.{Tree, field_of, null}
use Rattle.call_arguments.specs.proposals.Shares.{keyed_share}
use Rattle.call_arguments.specs.proposals.Slots.{is_upto}
use Rattle.call_arguments.specs.proposals.declared.allocations.Share.{Share}
use Rattle.call_arguments.specs.proposals.declared.offers.Proposal.{Proposal}
use Rattle.call_arguments.specs.refusals.Codes.{bad_args, bad_exit, bad_keyword, keyword_mismatch, wrong_brand}
use Rattle.call_arguments.specs.refusals.Outcomes.{◌>>=◌, ◌>>◌, need, none_such, wanted}
use Rattle.call_arguments.specs.refusals.declared.codes.Refusal.{Refusal}
use Rattle.world_state.specs.brands.declared.issuer_record.Issuer.{Issuer}
use Rattle.world_state.specs.vault_model.Lists.{amount_of}
use Rattle.rules.specs.Words.{record_in}

-- ---- the form of a proposal

-- the field of a name, null where it is missing
abbrev pub part : List ℕ → Tree → Tree
part name t = unwrap_or (field_of name t) null

abbrev pub is_part : List ℕ → Bool
is_part name = bytes_eq name (codes "give") || bytes_eq name (codes "want") || bytes_eq name (codes "exit")

-- a record with no field but give, want and exit
unfoldable pub has_parts : Tree → Bool
has_parts t = option_map_or (list_all (λ f. is_part f.0)) (record_in t) false

-- a record of amounts
unfoldable pub amounts_of : Tree → Option (List ShareData)
amounts_of t = option_and_then (read_all share_in) (record_in t)

-- ---- keywords

abbrev pub is_among : List (List ℕ) → List ℕ → Bool
is_among ks k = list_any (bytes_eq k) ks

-- the first of the one that stands in the other too
unfoldable pub first_shared : List (List ℕ) → List (List ℕ) → Option (List ℕ)
first_shared ks others = find (is_among others) ks

-- the first of the one that doesn't stand in the other
abbrev pub first_alone : List (List ℕ) → List (List ℕ) → Option (List ℕ)
first_alone ks others = find (λ k. not (is_among others k)) ks

abbrev pub lesser : Option (List ℕ) → Option (List ℕ) → Option (List ℕ)
lesser None other = other
lesser (Some k) None = Some k
lesser (Some k) (Some q) = Some (if is_upto k q then k else q)

-- the least that stands in one of the two and not in the other
unfoldable pub least_alone : List (List ℕ) → List (List ℕ) → Option (List ℕ)
least_alone ks others = lesser (first_alone ks others) (first_alone others ks)

-- ---- brands and values

abbrev pub is_known : List Issuer → ℕ → Bool
is_known issuers brand = list_any (λ i. i.brand == brand) issuers

abbrev pub brands_in : List ShareData → List ℕ
brands_in shares = map (λ r. r.amount.brand) shares

-- the least brand of shares that isn't in the issuer record
unfoldable pub least_strange : List Issuer → List ShareData → Option ℕ
least_strange issuers shares = least (filter (λ b. not (is_known issuers b)) (brands_in shares))

-- shares with the values that their data stands for
abbrev pub with_values : List ShareData → List ValueView → List Share
with_values [] vs = []
with_values (r ∷ rs) [] = []
with_values (r ∷ rs) (v ∷ vs) = keyed_share r.keyword (amount_of r.amount.brand v) ∷ with_values rs vs

unfoldable pub valued : List ShareData → Result (List Share) Refusal
valued shares = do
  values ← values_in shares
  Ok (with_values shares values)

-- ---- the proposal and the payments

-- a proposal, and the payments as they are given, each under a keyword of give
pub record Proposed : Type 0 where
  pub proposal : Proposal
  pub payments : List (List ℕ × Tree)

-- each test over all shares before the next, give before want
unfoldable pub proposed : List Issuer → Tree → Tree → Result Proposed Refusal
proposed issuers proposal payments = do
  need (has_parts proposal) (bad_args 2)
  give ← wanted (amounts_of (part (codes "give") proposal)) (bad_args 2)
  want ← wanted (amounts_of (part (codes "want") proposal)) (bad_args 2)
  given ← wanted (record_in payments) (bad_args 3)
  none_such (first_ill (keywords give)) bad_keyword
  none_such (first_ill (keywords want)) bad_keyword
  none_such (first_shared (keywords give) (keywords want)) keyword_mismatch
  none_such (least_of (least_strange issuers give) (least_strange issuers want)) wrong_brand
  gives ← valued give
  wants ← valued want
  exit ← wanted (exit_in (part (codes "exit") proposal)) bad_exit
  none_such (least_alone (keywords give) (names given)) keyword_mismatch
  Ok (record { proposal = record { give = gives; want = wants; exit = exit }; payments = given })
