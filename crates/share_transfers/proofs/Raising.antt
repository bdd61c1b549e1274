-- Slots can have what shares are that were tested.
use Rattle.std.specs.List.{All}
use Rattle.std.proofs.Common.{◌≡◌, List, [], ◌∷◌, Option, Some, None, Result, Ok, Err, refl, sym, subst}
use Rattle.std.specs.Option.{option_map_or}
use Rattle.std.proofs.lemmas.List.Elements.{All-cons, All-head, All-nil, All-tail}
use Rattle.call_arguments.proofs.proposals.Apart.{share_under}
use Rattle.call_arguments.specs.proposals.Gains.{CanGain}
use Rattle.refusals.specs.amount_math.Content.{Content, nothing, nothing-sum, sum}
use Rattle.refusals.specs.amount_math.KindLaws.{value_of_sum}
use Rattle.refusals.specs.amount_math.ValueView.{Fits, HasFew, IsValue}
use Rattle.refusals.specs.amount_math.declared.Amount.{Amount}
use Rattle.rearrange.specs.Slots.{can_give, each_passes, fits_slot, is_apart}
use Rattle.rearrange.specs.Bounds.{HasValue}
use Rattle.call_arguments.specs.proposals.OfferSafety.{MeetSlots, MeetsSlot}
use Rattle.call_arguments.specs.proposals.Shares.{amount_under, content_under}
use Rattle.call_arguments.specs.proposals.declared.allocations.Share.{Share}
use Rattle.refusals.specs.Outcomes.{bind, ◌>>◌}
use Rattle.refusals.specs.declared.codes.Refusal.{Refusal}
use Rattle.rearrange.proofs.value_tests.Exact.{value_passed}

passed : (r next : Result (Unit {0}) Refusal) → r >> next ≡ Ok tt → (r ≡ Ok tt) × (next ≡ Ok tt)
unfolding bind
passed (Ok x) next is = (refl, is)
passed (Err e) next is = absurd (cc)

module _ (slots : List Share) (values : All HasValue slots) where
  gain_one : (r : Share) → MeetsSlot slots r → HasValue r → fits_slot slots r ≡ Ok tt → CanGain slots r
  gain_one r meets value fits =
      let kind = r.amount.value.kind in
      let both = value_passed kind (sum (content_under r.keyword slots) r.amount.value.content) fits in
      by (amount_under r.keyword slots) refl both.0 both.1
    where
      has : Option Amount → Content
      has o = option_map_or (λ (a : Amount). a.value.content) o nothing

      by : (o : Option Amount) → amount_under r.keyword slots ≡ o → Fits r.amount.value.kind (sum (has o) r.amount.value.content) → HasFew r.amount.value.kind (sum (has o) r.amount.value.content) → IsValue r.amount.value.kind (sum (has o) r.amount.value.content)
      by None e fit few = subst (IsValue r.amount.value.kind) (sym (nothing-sum r.amount.value.content)) value
      by (Some a) e fit few =
          let own : IsValue a.value.kind a.value.content = share_under HasValue slots values r.keyword a e in
          value_of_sum r.amount.value.kind a.value.content r.amount.value.content (subst (λ k. IsValue k a.value.content) (meets a e).kind own) value fit few

  gain_each : (shares : List Share) → MeetSlots slots shares → All HasValue shares → each_passes (fits_slot slots) shares ≡ Ok tt → All (CanGain slots) shares
  gain_each [] meet value fits = All-nil (CanGain slots)
  gain_each (r ∷ rs) meet value fits =
      let both = passed (fits_slot slots r) (each_passes (fits_slot slots) rs) fits in
      All-cons (CanGain slots) r rs (gain_one r (All-head (MeetsSlot slots) r rs meet) (All-head HasValue r rs value) both.0)
      (gain_each rs (All-tail (MeetsSlot slots) r rs meet) (All-tail HasValue r rs value) both.1)

  pub can_gain : (shares : List Share) → MeetSlots slots shares → All HasValue shares → can_give slots shares ≡ Ok tt → All (CanGain slots) shares
  unfolding can_give
  can_gain shares meet value fits = gain_each shares meet value (passed (each_passes (is_apart slots) shares) (each_passes (fits_slot slots) shares) fits).1
