-- Brands (ERTP).
use Rattle.std.specs.Prelude.{ℕ, ◌==◌, List, Result, Ok, if◌then◌else◌, codes}
use Rattle.std.specs.Str.{bytes_eq}
use Rattle.call_arguments.specs.Arguments.{object_at}
use Rattle.call_arguments.specs.host_data.Tree.{Tree, boolean}
use Rattle.call_arguments.specs.host_data.declared.data.ObjKind.TheVariants as kinds
use Rattle.call_arguments.specs.refusals.Outcomes.{◌>>=◌, reading}
use Rattle.call_arguments.specs.refusals.declared.codes.Refusal.{Refusal}
use Rattle.world_state.specs.Worlds.{State}
use Rattle.rules.specs.Issuer.{get_alleged_name}
use Rattle.rules.specs.Outcomes.{Outcome}
use Rattle.rules.specs.Words.{without_method}

-- brand.isMyIssuer(issuer): it has the brand's number
unfoldable pub is_my_issuer : ℕ → List Tree → Result Tree Refusal
is_my_issuer brand args = do
  issuer ← object_at kinds.Issuer 1 args
  Ok (boolean (issuer == brand))

-- ---- the table of methods

-- which rule a call of a brand is; its name is what its issuer tells
abbrev pub of_brand : State → ℕ → List ℕ → List Tree → Outcome
of_brand w n m args =
    if bytes_eq m (codes "getAllegedName") then reading (get_alleged_name w n)
    else if bytes_eq m (codes "isMyIssuer") then reading (is_my_issuer n args)
    else without_method m
