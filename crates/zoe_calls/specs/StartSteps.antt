-- What the start of an instance comes to once its installation and its issuers were read.
use Rattle.std.specs.Prelude.{ℕ, nat_le, List, [], ◌∷◌, length, Ok}
use Rattle.brands.specs.IssuerRecords.{most_issuers}
use Rattle.brands.specs.declared.issuer_record.Issuer.{Issuer}
use Rattle.rules.specs.call_arguments.Arguments.{arg}
use Rattle.host_data.specs.Values.{object_tree}
use Rattle.rules.specs.Outcomes.{Outcome}
use Rattle.rules.specs.Words.{next_of}
use Rattle.rules.specs.ertp_mint.Stocks.{most_made}
use Rattle.host_data.specs.Tree.{Tree}
use Rattle.host_data.specs.declared.data.ObjKind.TheVariants as kinds
use Rattle.refusals.specs.Codes.{bad_args, limit}
use Rattle.refusals.specs.Outcomes.{◌>>=◌, ◌>>◌, need}
use Rattle.rules.specs.Zoe.{has_terms, starting}
use Rattle.rules.specs.world_state.Worlds as worlds
use Rattle.rules.specs.world_state.Worlds.{State, promises_made}

-- the instance and the promise of its start get the next numbers
unfoldable pub numbered : State → ℕ → List Issuer → List Tree → Outcome
numbered w installation issuers args = do
  instance ← next_of (length w.tables.instances) most_made
  promise ← next_of (promises_made w) most_made
  Ok (object_tree kinds.Promise promise, worlds.start (starting installation issuers (arg 3 args) (arg 4 args)) ∷ [])

-- terms are such, and issuers aren't too many
unfoldable pub started : State → ℕ → List Issuer → List Tree → Outcome
started w installation issuers args = do
  need (has_terms (arg 3 args)) (bad_args 3)
  need (nat_le (length issuers) most_issuers) (limit most_issuers)
  numbered w installation issuers args
