-- The rules of brands are good.
use Rattle.std.proofs.Common.{ℕ, List, None, IfOk, codes, refl}
use Rattle.world_laws.specs.amount_math.declared.Kind.{Kind}
use Rattle.world_laws.specs.host_data.Tree.{Tree}
use Rattle.world_laws.specs.host_data.declared.data.ObjKind.TheVariants as kinds
use Rattle.world_laws.proofs.refusals.Steps.{after_step}
use Rattle.world_laws.specs.world_state.Known.{IsFormed}
use Rattle.world_laws.specs.world_state.Worlds.{State}
use Rattle.rules.specs.Obligations.{IsGoodOutcome}
use Rattle.rules.specs.Outcomes.{Outcome}
use Rattle.rule_laws.proofs.Forms.{boolean_formed}
use Rattle.rule_laws.proofs.Reading.{by_method, reads}
use Rattle.rule_laws.specs.GoodServices.{AreGoodRules, numbered}
use Rattle.rules.specs.Issuer.{get_alleged_name}
use Rattle.rules.specs.Brand.{is_my_issuer, of_brand}
use Rattle.rule_laws.proofs.Issuer.{name_formed}

mine_formed : (w : State) (n : ℕ) (args : List Tree) → IfOk (is_my_issuer n args) (IsFormed w None)
unfolding is_my_issuer
mine_formed w n args = after_step _ _ _ (λ i is. boolean_formed w None _)

pub brands_are : (kind : Kind) → AreGoodRules (kinds.Brand kind) of_brand
brands_are kind w n m args can =
    let P : List ℕ → Outcome → Type 0 = λ k rule. IsGoodOutcome w None (numbered (kinds.Brand kind) n) k args rule in
    by_method P m (codes "getAllegedName") _ _ (reads w None _ _ args (get_alleged_name w n) refl refl (name_formed w n))
    (by_method P m (codes "isMyIssuer") _ _ (reads w None _ _ args (is_my_issuer n args) refl refl (mine_formed w n args)) tt)
