-- What transfers are read as, by the brands that an instance keeps and by what seats have.
use Rattle.std.specs.Prelude.{◌≡◌, ℕ, false, List, [], flat_map, IfSome, IsSome, Result}
use Rattle.rules.specs.brands.declared.issuer_record.Issuer.{Issuer}
use Rattle.call_arguments.specs.Arguments.{object_in}
use Rattle.call_arguments.specs.Numbers.{least}
use Rattle.host_data.specs.Amounts.{read_all}
use Rattle.host_data.specs.Tree.{is_null}
use Rattle.host_data.specs.declared.data.ObjKind.TheVariants as kinds
use Rattle.call_arguments.specs.proposals.declared.allocations.Share.{Share}
use Rattle.call_arguments.specs.proposals.declared.plans.Transfer.{Transfer}
use Rattle.call_arguments.specs.Records.{are_keywords}
use Rattle.refusals.specs.Codes.{bad_args, wrong_brand}
use Rattle.refusals.specs.Outcomes.{◌>>=◌, ◌>>◌, none_such, wanted}
use Rattle.refusals.specs.declared.codes.Refusal.{Refusal}
use Rattle.rules.specs.Rearranging.{Asked, Parts, SeatShare, asked_in, shares_asked, transfers_of}
use Rattle.share_transfers.specs.Brands.{wrong_at}
use Rattle.share_transfers.specs.Views.{keywords_of}

-- a seat stands with each record
pub record IsSeated (p : Parts) : Type 0 where
  pub from : is_null p.from_amounts ≡ false → IsSome (object_in kinds.Zseat p.from)
  pub to : is_null p.to_amounts ≡ false → IsSome (object_in kinds.Zseat p.to)

pub record HasSeats (a : Asked) : Type 0 where
  pub from : IfSome a.losses (λ _. IsSome a.from)
  pub to : IfSome a.gains (λ _. IsSome a.to)

-- each share is under a keyword, then none is of a wrong brand
unfoldable pub share_tests : List Issuer → (ℕ → List Share) → List SeatShare → Result (Unit {0}) Refusal
share_tests issuers had shares = do
  are_keywords (keywords_of shares)
  none_such (least (wrong_at issuers had [] shares)) wrong_brand

unfoldable pub transfers_at : List Issuer → (ℕ → List Share) → List Parts → Result (List Transfer) Refusal
transfers_at issuers had list = do
  read ← wanted (read_all asked_in list) (bad_args 1)
  share_tests issuers had (flat_map shares_asked read)
  transfers_of read
