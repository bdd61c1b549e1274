-- In a good world the brands of an instance's issuer record were made.
use Rattle.std.specs.Prelude.{All}
use Rattle.std.specs.List.{AllByRecursion}
use Rattle.std.proofs.Common.{ℕ, ◌<◌, List, [], ◌∷◌, length}
use Rattle.std.proofs.lemmas.List.Elements.{All-cons, All-nil}
use Rattle.rules.specs.brands.declared.issuer_record.Issuer.{Issuer}
use Rattle.rules.specs.actors.Tables.{instance_at}
use Rattle.rules.specs.world_state.Good.{IsGoodWorld, IsIssuer}
use Rattle.rules.specs.world_state.Worlds.{State}

each_made : (w : State) (is : List Issuer) → AllByRecursion (IsIssuer w) is → All (λ x. x.brand < length w.brands) is
each_made w [] each = All-nil (λ (x : Issuer). x.brand < length w.brands)
each_made w (i ∷ is) each = All-cons (λ (x : Issuer). x.brand < length w.brands) i is each.0.made (each_made w is each.1)

pub issuers_made : (w : State) → IsGoodWorld w → (i : ℕ) → i < length w.tables.instances → All (λ x. x.brand < length w.brands) (instance_at w.tables.instances i).issuers
issuers_made w good i made = each_made w (instance_at w.tables.instances i).issuers (good.instances.each i made).issuers
