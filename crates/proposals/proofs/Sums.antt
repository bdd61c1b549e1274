-- Slots can have what each share of a record can add, and give what each can take.
use Rattle.std.proofs.Common.{◌≡◌, ◌<◌, ℕ, List, length, get_or, All, Option, Some, None, inl, inr, refl, sym, ap, subst, ◌∙◌, arith}
use Rattle.std.specs.Option.{option_map_or}
use Rattle.host_data.specs.amount_math.Amount.{Meet}
use Rattle.host_data.specs.amount_math.Content.{Content, Contains, nothing, sum}
use Rattle.host_data.specs.amount_math.ValueView.{IsPutRefusal, IsValue, PassesKeys, bound, fits_from_value, passes_not_fits, with_content}
use Rattle.host_data.specs.amount_math.declared.Amount.{Amount}
use Rattle.host_data.specs.amount_math.declared.Kind.{Kind}
use Rattle.host_data.specs.amount_math.declared.Kind.TheVariants.{Bag, Nat, Set}
use Rattle.host_data.specs.amount_math.declared.PutFault.TheVariants.{Overlap, TooMuch}
use Rattle.host_data.specs.amount_math.declared.TooMuch as over
use Rattle.proposals.specs.declared.allocations.Share.{Share}
use Rattle.proposals.specs.OfferSafety.{AreCovered, IsCovered, MeetSlots, MeetsSlot}
use Rattle.proposals.specs.Shares.{AreApart, amount_under, content_under}
use Rattle.proposals.specs.Gains.{CanGain, CanRaise}
use Rattle.proposals.specs.Losses.{CanLower}
use Rattle.proposals.proofs.Apart.{own_amount, share_under}

-- what is had under the keyword of a share is its content
pub own_content : (rs : List Share) → AreApart rs → (i : ℕ) (d : Share) → i < length rs → content_under (get_or rs i d).keyword rs ≡ (get_or rs i d).amount.value.content
own_content rs apart i d within = ap (λ (o : Option Amount). option_map_or (λ (a : Amount). a.value.content) o nothing) (own_amount rs apart i d within)

module _ (slots shares : List Share) (apart : AreApart slots) (meet : MeetSlots slots shares) where
  meets_own : (i : ℕ) (d : Share) → i < length slots → (a : Amount) → amount_under (get_or slots i d).keyword shares ≡ Some a → Meet (get_or slots i d).amount a
  meets_own i d within a there = share_under (MeetsSlot slots) shares meet (get_or slots i d).keyword a there (get_or slots i d).amount (own_amount slots apart i d within)

  pub can_raise : All (CanGain slots) shares → All (CanRaise shares) slots
  can_raise can = λ i d within a there.
      let meets = meets_own i d within a there in
      let value : IsValue a.value.kind (sum (content_under (get_or slots i d).keyword slots) a.value.content) = share_under (CanGain slots) shares can (get_or slots i d).keyword a there in
      record {
        meet = meets;
        value = subst (λ (k : Kind). IsValue k (sum (get_or slots i d).amount.value.content a.value.content)) (sym meets.kind) (subst (λ (c : Content). IsValue a.value.kind (sum c a.value.content)) (own_content slots apart i d within) value);
      }

  pub can_lower : AreCovered slots shares → All (CanLower shares) slots
  can_lower covered = λ i d within a there.
      let has : Contains (content_under (get_or slots i d).keyword slots) a.value.content = share_under (IsCovered slots) shares covered (get_or slots i d).keyword a there in
      record {
        meet = meets_own i d within a there;
        has = subst (λ (c : Content). Contains c a.value.content) (own_content slots apart i d within) has;
      }

-- a value isn't refused but for want of memory
pub not_overlapping : (kind : Kind) (c : Content) (key : List ℕ) → IsValue kind c → ¬ IsPutRefusal kind c (Overlap key)
not_overlapping kind c key value refused = omega (arith, (fits_from_value kind c value).each key, ap bound refused.0, refused.1.passes)

few_keys : (kind : Kind) (c : Content) (most : over.TooMuch) → IsValue kind c → (kind ≡ Nat → ⊥) → ¬ PassesKeys kind c most
few_keys Nat c most value keyed past = absurd (keyed refl)
few_keys Set c most value keyed past = omega (arith, value.keyed.few, past.passes)
few_keys Bag c most value keyed past = omega (arith, value.keyed.few, past.passes)

pub not_too_much : (kind : Kind) (c : Content) (most : over.TooMuch) → IsValue kind c → ¬ IsPutRefusal kind c (TooMuch most)
not_too_much kind c most value (inl past) = passes_not_fits kind c most past.1 (fits_from_value kind c value)
not_too_much kind c most value (inr past) = few_keys kind c most value past.0 past.1

-- ---- one slot

pub content_there : (keyword : List ℕ) (rs : List Share) (a : Amount) → amount_under keyword rs ≡ Some a → content_under keyword rs ≡ a.value.content
content_there keyword rs a there = ap (λ (o : Option Amount). option_map_or (λ (x : Amount). x.value.content) o nothing) there

pub content_none : (keyword : List ℕ) (rs : List Share) → amount_under keyword rs ≡ None → content_under keyword rs ≡ nothing
content_none keyword rs none = ap (λ (o : Option Amount). option_map_or (λ (x : Amount). x.value.content) o nothing) none

-- the content that an operation makes of what a slot has and of what a record has under its keyword
module _ (op : Content → Content → Content) (shares : List Share) (slot : Share) where
  abbrev pub changed : Content
  changed = op slot.amount.value.content (content_under slot.keyword shares)

  pub changed_there : (a : Amount) → amount_under slot.keyword shares ≡ Some a → with_content slot.amount.value (op slot.amount.value.content a.value.content) ≡ with_content slot.amount.value changed
  changed_there a there = ap (λ (c : Content). with_content slot.amount.value (op slot.amount.value.content c)) (sym (content_there slot.keyword shares a there))

  pub changed_none : ((c : Content) → op c nothing ≡ c) → amount_under slot.keyword shares ≡ None → slot.amount.value ≡ with_content slot.amount.value changed
  changed_none same none = ap (λ (c : Content). with_content slot.amount.value c) (sym (same slot.amount.value.content) ∙ ap (op slot.amount.value.content) (sym (content_none slot.keyword shares none)))
