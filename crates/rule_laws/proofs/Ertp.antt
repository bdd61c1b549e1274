-- The rule of ERTP's service is good.
use Rattle.std.proofs.Common.{ℕ, ◌<◌, List, length, None, codes, refl, sym, ap, arith}
use Rattle.world_laws.specs.amount_math.declared.Kind.{Kind}
use Rattle.world_laws.specs.brands.Brands.{brand_of, no_brand}
use Rattle.world_laws.specs.brands.declared.Brand.{Brand}
use Rattle.world_laws.specs.host_data.Tree.{Tree}
use Rattle.world_laws.specs.host_data.declared.data.ObjKind.TheVariants as kinds
use Rattle.world_laws.proofs.lemmas.ListEdits.{length_push, read_pushed}
use Rattle.world_laws.proofs.refusals.Steps.{after_step}
use Rattle.world_laws.specs.world_state.Known.{IsBrand, IsFormed, IsMadeBy}
use Rattle.world_laws.specs.world_state.Worlds.{State, after, new_brand, of_host, of_kit}
use Rattle.rules.specs.Obligations.{CanCall, IsGoodOutcome}
use Rattle.rules.specs.Outcomes.{Outcome}
use Rattle.rule_laws.proofs.Next.{after_next_of}
use Rattle.rule_laws.proofs.Reading.{by_method}
use Rattle.rules.specs.Ertp.{kit_tree, make_issuer_kit, of_ertp}
use Rattle.rule_laws.specs.GoodServices.{AreGoodRules, numbered}

kit_formed : (w : State) (kind : Kind) (n : ℕ) → IsBrand w.brands kind n → n < length w.brands → IsMadeBy w.makers of_kit n → IsFormed w None (kit_tree kind n)
kit_formed w kind n brand issuer mint = record {
  objects = (tt, (brand, (issuer, (mint, tt))));
  functions = (tt, (tt, (tt, (tt, tt))));
  named = ((refl, (refl, (refl, tt))), (tt, (tt, (tt, tt))));
  ordered = ((refl, (refl, (tt, tt))), (tt, (tt, (tt, tt))));
  shallow = (omega arith, (tt, (tt, (tt, tt))));
}

module _ (w : State) (n : ℕ) (args : List Tree) (can : CanCall w None (numbered kinds.Ertp n) args) where
  kit_is : IsGoodOutcome w None (numbered kinds.Ertp n) (codes "makeIssuerKit") args (make_issuer_kit w args)
  unfolding make_issuer_kit
  kit_is = after_step _ _ _ (λ name is. after_step _ _ _ (λ kind named. after_next_of _ _ _ _ (λ few.
      let new : Brand = brand_of name kind in
      let b = length w.brands in
      let more = length_push w.brands new in
      let makers = length_push w.makers of_kit in
      record {
        good = (record { few = few; made = tt }, tt);
        known = kit_formed (after w (new_brand new of_kit)) kind b
            (record { made = omega (arith, more); kind_is = ap (λ (x : Brand). x.kind) (read_pushed w.brands new no_brand b refl) })
            (omega (arith, more))
            (record { made = omega (arith, makers, can.good.brands.made_by); is = read_pushed w.makers of_kit of_host b (sym can.good.brands.made_by) });
        leaves = refl;
        opens = refl;
        licensed = tt;
        stored = tt;
        acts = (refl, tt);
        calls = omega arith;
      })))

pub ertp_is : AreGoodRules kinds.Ertp (λ w n m args. of_ertp w m args)
ertp_is w n m args can =
    let P : List ℕ → Outcome → Type 0 = λ k rule. IsGoodOutcome w None (numbered kinds.Ertp n) k args rule in
    by_method P m (codes "makeIssuerKit") _ _ (kit_is w n args can) tt
