-- That a seat was paid out is stable: the first of its payments stands in the record of them.
use Rattle.std.specs.Prelude.{cond, min, unwrap_or}
use Rattle.std.proofs.Common.{◌≡◌, ℕ, suc, Bool, true, false, List, [], ◌∷◌, Option, Some, None, refl, sym, ap, ◌∙◌, arith}
use Rattle.std.proofs.Math.Logic.{∥∥₁_elim}
use denote.Struct.Props.{props}
use Rattle.world_state.specs.host_data.Tree.{Fields, Tree, field, fields, no_fields, object}
use Rattle.world_state.specs.promise_store.States.{SettlementView, broken, ok}
use Rattle.world_state.specs.proposals.Slots.{is_upto}
use Rattle.world_state.specs.proposals.declared.allocations.Share.{Share}
use Rattle.world_state.specs.lemmas.Stable.{IsStable}
use Rattle.world_laws.proofs.TreeSets.{Tree-set}
use Rattle.world_state.specs.Worlds.{payments_tree, payout_fields, payouts_from, placed_field}

-- ---- the least number of an object in a record

abbrev number_in : Tree → ℕ
number_in (object o) = o.number
number_in _ = 0

abbrev lower : ℕ → Option ℕ → ℕ
lower n None = n
lower n (Some m) = min n m

abbrev least_in : Fields → Option ℕ
least_in no_fields = None
least_in (field x t fs) = Some (lower (number_in t) (least_in fs))

lower_turned : (m n : ℕ) (o : Option ℕ) → min m (lower n o) ≡ min n (lower m o)
lower_turned m n None = omega arith
lower_turned m n (Some l) = omega arith

least_placed : (x : List ℕ) (t : Tree) (fs : Fields) → least_in (placed_field x t fs) ≡ Some (lower (number_in t) (least_in fs))
least_placed x t no_fields = refl
least_placed x t (field y u fs) = by (is_upto x y) (least_placed x t fs)
  where
    by : (b : Bool) → least_in (placed_field x t fs) ≡ Some (lower (number_in t) (least_in fs))
        → least_in (cond b (field x t (field y u fs)) (field y u (placed_field x t fs))) ≡ Some (min (number_in t) (lower (number_in u) (least_in fs)))
    by true before = refl
    by false before = ap (λ o. Some (lower (number_in u) o)) before ∙ ap Some (lower_turned (number_in u) (number_in t) (least_in fs))

least_paid : (n : ℕ) (r : Share) (rs : List Share) → least_in (payout_fields (payouts_from n (r ∷ rs))) ≡ Some n
least_paid n r [] = refl
least_paid n r (s ∷ ss) =
    least_placed r.keyword _ (payout_fields (payouts_from (suc n) (s ∷ ss)))
    ∙ ap (λ o. Some (lower n o)) (least_paid (suc n) s ss)
    ∙ (let low : min n (suc n) ≡ n = omega arith in ap Some low)

-- ---- what a promise was settled with

abbrev first_in : Tree → ℕ
first_in (fields fs) = unwrap_or (least_in fs) 0
first_in _ = 0

abbrev first_of : Option SettlementView → ℕ
first_of (Some (ok t)) = first_in t
first_of (Some (broken t)) = 0
first_of None = 0

same_payments : (n : ℕ) (shares : List Share) → payments_tree (first_in (payments_tree n shares)) shares ≡ payments_tree n shares
same_payments n [] = refl
same_payments n (r ∷ rs) = ap (λ o. payments_tree (unwrap_or o 0) (r ∷ rs)) (least_paid n r rs)

Settled-set : IsSet (Option SettlementView)
Settled-set = hlevel (props, Tree-set)

pub paid_stable : (s : Option SettlementView) (shares : List Share) → IsStable ((first : ℕ) × (s ≡ Some (ok (payments_tree first shares))))
paid_stable s shares = record {
  told = λ t. (
    first_of s,
    ∥∥₁_elim t (Settled-set s _) (λ p.
        p.1 ∙ sym (ap (λ u. Some (ok u)) (same_payments p.0 shares)) ∙ ap (λ z. Some (ok (payments_tree (first_of z) shares))) (sym p.1)),
  );
}
