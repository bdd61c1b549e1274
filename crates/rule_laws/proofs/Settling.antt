-- What slots are settled with are shares that they can become.
use Rattle.std.specs.Prelude.{IfSome, map}
use Rattle.std.specs.List.{AllByRecursion}
use Rattle.std.specs.Option.{option_map_or}
use Rattle.std.proofs.Common.{◌≡◌, ℕ, ◌≤◌, List, [], ◌∷◌, length, Option, Some, None, refl, sym, ap, subst, ◌∙◌, arith}
use Rattle.rules.specs.proposals.ChangedShares.{further}
use Rattle.world_laws.specs.amount_math.Content.{Content, nothing}
use Rattle.world_laws.specs.amount_math.KindLaws.{nothing_is_value}
use Rattle.world_laws.specs.amount_math.ValueView.{IsValue}
use Rattle.world_laws.specs.amount_math.declared.Amount.{Amount}
use Rattle.world_laws.specs.amount_math.declared.Kind.{Kind}
use Rattle.rules.specs.proposals.Shares.{amount_under, content_under, most_shares}
use Rattle.rules.specs.proposals.declared.allocations.Share.{Share}
use Rattle.rules.proofs.rearrange.Agreeing.{AreApart-settled}
use Rattle.rules.specs.rearrange.Settled.{filled, has_some, opened, settled}
use Rattle.world_laws.proofs.Lists.{all_append, all_filter}
use Rattle.world_laws.proofs.Proposed.{under_own}
use Rattle.world_laws.specs.world_state.Good.{AreNamed, IsAmountValued, IsKeyword, IsOfKind, IsOfSlot}
use Rattle.world_laws.specs.world_state.Rights.{kind_at}
use Rattle.world_laws.specs.world_state.Worlds.{State}
use Rattle.rule_laws.proofs.Changed.{MaySettle, each_map, further_all, under_share}
use Rattle.rule_laws.proofs.GivenShares.{HasSlots, OfBrand}
use Rattle.rule_laws.proofs.Shares.{CanBecome, settled_many}

opened_all : (P : Share → Type 0) (slots shares : List Share) → AllByRecursion P shares → AllByRecursion P (opened slots shares)
opened_all P slots shares all = all_filter P has_some (further slots shares) (further_all P slots shares all)

module _ (w : State) (slots : List Share) (has : HasSlots w slots) (shares : List Share) (are : MaySettle w slots shares) where
  abbrev Staged : List ℕ → Amount → Type 0
  Staged k a = (IsOfKind w.rights.out a × IsAmountValued a) × OfBrand slots k a.brand

  staged_each : (rs : List Share) → AllByRecursion (λ (r : Share). IsOfKind w.rights.out r.amount) rs → AllByRecursion (λ (r : Share). IsAmountValued r.amount) rs → AllByRecursion (IsOfSlot slots) rs → AllByRecursion (λ (r : Share). Staged r.keyword r.amount) rs
  staged_each [] a b c = tt
  staged_each (r ∷ rs) a b c = (((a.0, b.0), c.0), staged_each rs a.1 b.1 c.1)

  abbrev content_in : Option Amount → Content
  content_in o = option_map_or (λ (a : Amount). a.value.content) o nothing

  filled_value : (r : Share) → amount_under r.keyword slots ≡ Some r.amount → IsOfKind w.rights.out r.amount → IsValue r.amount.value.kind (content_under r.keyword shares)
  filled_value r own kind = by (amount_under r.keyword shares) (under_share Staged r.keyword shares (staged_each shares are.of_kinds are.valued are.of_slots))
    where
      by : (o : Option Amount) → IfSome o (Staged r.keyword) → IsValue r.amount.value.kind (content_in o)
      by None staged = nothing_is_value r.amount.value.kind
      by (Some a) staged =
          let same : r.amount.brand ≡ a.brand = subst (λ o. IfSome o (λ (x : Amount). x.brand ≡ a.brand)) own staged.1 in
          let k : a.value.kind ≡ r.amount.value.kind = sym staged.0.0.kind ∙ ap (kind_at w.rights.out) (sym same) ∙ kind.kind in
          subst (λ (q : Kind). IsValue q a.value.content) k staged.0.1

  filled_values : (rs : List Share) → AllByRecursion (λ (r : Share). amount_under r.keyword slots ≡ Some r.amount) rs → AllByRecursion (λ (r : Share). IsOfKind w.rights.out r.amount) rs → AllByRecursion (λ (r : Share). IsValue r.amount.value.kind r.amount.value.content) (map (filled shares) rs)
  filled_values [] own kinds = tt
  filled_values (r ∷ rs) own kinds = (filled_value r own.0 kinds.0, filled_values rs own.1 kinds.1)

  own : AllByRecursion (λ (r : Share). amount_under r.keyword slots ≡ Some r.amount) slots
  own = under_own slots has.shares.apart

  pub settled_named : AreNamed (settled slots shares)
  settled_named = all_append (λ (r : Share). IsKeyword r.keyword) (map (filled shares) slots) (opened slots shares) (each_map (λ (r : Share). IsKeyword r.keyword) (λ (r : Share). IsKeyword r.keyword) (filled shares) (λ r h. h) slots has.named) (opened_all (λ (r : Share). IsKeyword r.keyword) slots shares are.named)

  pub settled_can : length (settled slots shares) ≤ most_shares → CanBecome w.rights.out slots (settled slots shares)
  settled_can small = record {
    apart = AreApart-settled slots shares has.shares.apart are.apart;
    of_kinds = all_append (λ (r : Share). IsOfKind w.rights.out r.amount) (map (filled shares) slots) (opened slots shares) (each_map (λ (r : Share). IsOfKind w.rights.out r.amount) (λ (r : Share). IsOfKind w.rights.out r.amount) (filled shares) (λ r h. record { made = h.made; kind = h.kind }) slots has.of_kinds) (opened_all (λ (r : Share). IsOfKind w.rights.out r.amount) slots shares are.of_kinds);
    valued = all_append (λ (r : Share). IsValue r.amount.value.kind r.amount.value.content) (map (filled shares) slots) (opened slots shares) (filled_values slots own has.of_kinds) (opened_all (λ (r : Share). IsAmountValued r.amount) slots shares are.valued);
    of_brands = all_append (λ (r : Share). OfBrand slots r.keyword r.amount.brand) (map (filled shares) slots) (opened slots shares) (each_map (λ (r : Share). amount_under r.keyword slots ≡ Some r.amount) (λ (r : Share). OfBrand slots r.keyword r.amount.brand) (filled shares) (λ r h. subst (λ o. IfSome o (λ (a : Amount). a.brand ≡ r.amount.brand)) (sym h) refl) slots own) (opened_all (IsOfSlot slots) slots shares are.of_slots);
    few = omega (arith, settled_many slots shares has.shares.apart, small);
  }
