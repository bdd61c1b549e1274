-- A keyword that an instance may keep an issuer under, and what is left of the rules of keeping one once it is read.
use Rattle.std.specs.Prelude.{ℕ, List, [], ◌∷◌, length, Result, Ok}
use Rattle.refusals.specs.amount_math.declared.Kind.{Kind}
use Rattle.rules.specs.brands.Brands.{brand_of, most_brands}
use Rattle.rules.specs.brands.IssuerRecords.{issuer_of}
use Rattle.host_data.specs.Values.{object_tree}
use Rattle.rules.specs.Outcomes.{Outcome}
use Rattle.rules.specs.Words.{keyword_at, next_of}
use Rattle.host_data.specs.Tree.{Tree}
use Rattle.host_data.specs.declared.data.ObjKind.TheVariants as kinds
use Rattle.refusals.specs.Outcomes.{◌>>=◌, ◌>>◌}
use Rattle.refusals.specs.declared.codes.Refusal.{Refusal}
use Rattle.rules.specs.Zcf.{is_free, keeps_more}
use Rattle.rules.specs.Records.{issuer_record}
use Rattle.rules.specs.world_state.Worlds.{State, add_issuer, new_brand, of_instance}

-- it stands at the place, and no issuer of the instance stands under it
unfoldable pub free_keyword : State → ℕ → ℕ → List Tree → Result (List ℕ) Refusal
free_keyword w i place args = do
  keyword ← keyword_at place args
  is_free w i keyword
  Ok keyword

-- a mint is made of the next brand
unfoldable pub minted : State → ℕ → List ℕ → Kind → Outcome
minted w i keyword kind = do
  keeps_more w i
  brand ← next_of (length w.brands) most_brands
  let made = new_brand (brand_of keyword kind) (of_instance i)
  Ok (object_tree kinds.Zmint brand, made ∷ add_issuer i (issuer_of keyword brand) ∷ [])

-- an issuer is kept
unfoldable pub saved : State → ℕ → List ℕ → ℕ → Outcome
saved w i keyword brand = do
  keeps_more w i
  Ok (issuer_record w brand, add_issuer i (issuer_of keyword brand) ∷ [])
