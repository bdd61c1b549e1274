-- What was taken in the hand can be put or given up, and what was given up is what the hand has.
use Rattle.std.proofs.Common.{◌≡◌, ℕ, ◌<◌, ◌==◌, Bool, true, false, cond, List, length, refl, sym, ◌∙◌, ap, subst, arith}
use Rattle.std.specs.Prelude.{is_some, slice_index_or, slice_set}
use Rattle.std.proofs.lemmas.Bool.{eq-eqb}
use Rattle.vault_model.specs.amount_math.Content.{Content, Contains, count-sum, nothing, sum}
use Rattle.vault_model.specs.amount_math.ValueView.{ValueView}
use Rattle.vault_model.specs.amount_math.declared.Amount.{Amount}
use Rattle.vault_model.specs.ertp_mint.BrandSupply.{BrandSupply}
use Rattle.vault_model.proofs.lemmas.ListEdits.{read_other, read_set}
use Rattle.vault_model.specs.proposals.Shares.{amount_under}
use Rattle.vault_model.specs.Backwards.{from_hand, to_hand}
use Rattle.vault_model.specs.Lists.{Lists, given, taken, with_new_slot}
use Rattle.vault_model.specs.Seats.{kept_seat_at}
use Rattle.vault_model.proofs.Sound.{at_or_else}
use Rattle.vault_model.specs.rights_model.declared.Holder.{Holder}
use Rattle.vault_model.specs.rights_model.declared.Holder.TheVariants.{Purse, Payment, Slot, Hand, Outside}
use Rattle.vault_model.specs.rights_model.Table.{movement}
use Rattle.vault.specs.Drafts.{DraftState, HandGoes, HandKeeps, IsOfBrand, IsValid, MayPut, given_at, given_up_too, hand_now, slotted}
use Rattle.vault.proofs.HandLaws.{hand_after}
use Rattle.vault.specs.Asked.{IsSource, brand_of}
use Rattle.vault.specs.Taking.{part_of, with_part_taken}

-- a brand that was made stays, with its kind
still_of_brand : (s : Lists) (from : Holder) (w v : ValueView) (b e : ℕ) → IsSource s from v → IsOfBrand s e w → IsOfBrand (taken s from b v) e w
still_of_brand s (Purse n) w v b e source is = record { made = is.made; kind = is.kind }
still_of_brand s (Payment n) w v b e source is = record { made = is.made; kind = is.kind }
still_of_brand s (Slot n k) w v b e source is = record { made = is.made; kind = is.kind }
still_of_brand s Hand w v b e source is = absurd source
still_of_brand s Outside w v b e source is = absurd source

not_from_hand : (s : Lists) (from : Holder) (w : ValueView) (c d : Content) → IsSource s from w → from_hand from c d ≡ c
not_from_hand s (Purse n) w c d source = refl
not_from_hand s (Payment n) w c d source = refl
not_from_hand s (Slot n k) w c d source = refl
not_from_hand s Hand w c d source = absurd source
not_from_hand s Outside w c d source = absurd source

pub not_to_hand : (s : Lists) (to : Holder) (a : Amount) (c part : Content) → MayPut s to a → to_hand to c part ≡ c
not_to_hand s (Purse n) a c part target = refl
not_to_hand s (Payment n) a c part target = refl
not_to_hand s (Slot n k) a c part target = refl
not_to_hand s Hand a c part target = absurd target
not_to_hand s Outside a c part target = absurd target

-- what is out stays

out_taken : (s : Lists) (from : Holder) (w : ValueView) (b : ℕ) → IsSource s from w → (taken s from b w).out ≡ s.out
out_taken s (Purse n) w b source = refl
out_taken s (Payment n) w b source = refl
out_taken s (Slot n k) w b source = refl
out_taken s Hand w b source = absurd source
out_taken s Outside w b source = absurd source

pub out_given : (s : Lists) (to : Holder) (a : Amount) → MayPut s to a → (given (slotted s to a) to a.brand a.value).out ≡ s.out
out_given s (Purse n) a target = refl
out_given s (Payment n) a target = refl
out_given s (Slot n k) a target = either (is_some (amount_under k (kept_seat_at s.seats n).slots))
  where
    either : (t : Bool) → (cond t s (with_new_slot s n k a.brand a.value.kind)).out ≡ s.out
    either true = refl
    either false = refl
out_given s Hand a target = absurd target
out_given s Outside a target = absurd target

module _ (d : DraftState) (from : Holder) (w : ValueView) (source : IsSource d.now from w) where
  abbrev b : ℕ
  b = brand_of d.now from

  abbrev c : Content
  c = w.content

  pub hand_taken : (e : ℕ) → hand_now (with_part_taken d from w) e ≡ cond (b == e) (sum (hand_now d e) c) (hand_now d e)
  hand_taken e = hand_after d (movement b from Hand w) e ∙ ap (λ x. cond (b == e) (sum x c) (hand_now d e)) (not_from_hand d.now from w (hand_now d e) c source)

  module _ (brand : IsOfBrand d.now b w) (valid : IsValid d) where
    pub keeps_part : HandKeeps (with_part_taken d from w) (part_of d from w)
    keeps_part = record {
      brand = still_of_brand d.now from w w b b source brand;
      has = subst (λ x. Contains x (sum (given_at d b) c)) (sym (hand_taken b ∙ ap (λ t. cond t (sum (hand_now d b) c) (hand_now d b)) (eq-eqb b b refl)))
          (record { each = λ k. omega (arith, (valid.given b).each k, count-sum (hand_now d b) c k, count-sum (given_at d b) c k) });
    }

    -- what was taken and given up: what the hand has is given up
    pub goes_given_up : HandGoes d → HandGoes (given_up_too (with_part_taken d from w) (part_of d from w))
    goes_given_up goes = record {
      each = λ e lt. at_or_else (λ x t. x < length d.now.out → slice_index_or (slice_set d.given_up b (sum (given_at d b) c)) x nothing ≡ cond t (sum (hand_now d x) c) (hand_now d x)) b e
          (λ made. read_set d.given_up b (sum (given_at d b) c) nothing (omega (arith, made, valid.brands)) ∙ ap (λ x. sum x c) (goes.each b made))
          (λ apart made. read_other d.given_up b e (sum (given_at d b) c) nothing apart ∙ goes.each e made)
          (subst (λ (l : List BrandSupply). e < length l) (out_taken d.now from w b source) lt)
          ∙ sym (hand_taken e);
    }
