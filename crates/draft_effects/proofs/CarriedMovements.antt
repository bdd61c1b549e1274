-- What is taken to the hand of a clean draft, and what becomes of it there: it is put, or given up.
use Rattle.std.specs.Prelude.{cond, slice_index_or, slice_set}
use Rattle.std.proofs.Common.{◌≡◌, inl, inr, ℕ, ◌<◌, ◌==◌, Bool, true, false, length, refl, sym, ◌∙◌, ap, subst, arith}
use Rattle.std.proofs.lemmas.Bool.{eq-eqb}
use Rattle.draft_reads.specs.amount_math.Content.{Content, Contains, Contains-refl, count-difference, count-nothing, difference, nothing, nothing-sum, same_content, sum}
use Rattle.draft_reads.specs.amount_math.ValueView.{IsPutRefusal, IsValue, PassesKeys, ValueView, bound, fits_from_value, passes_not_fits}
use Rattle.draft_reads.specs.amount_math.declared.Amount.{Amount}
use Rattle.draft_reads.specs.amount_math.declared.Kind.{Kind}
use Rattle.draft_reads.specs.amount_math.declared.Kind.TheVariants.{Nat, Set, Bag}
use Rattle.draft_reads.specs.amount_math.declared.PutFault.{PutFault}
use Rattle.draft_reads.specs.amount_math.declared.PutFault.TheVariants.{NoMemory, Overlap, TooMuch}
use Rattle.draft_reads.specs.amount_math.declared.TooMuch.{TooMuch as Over}
use Rattle.draft_reads.specs.ertp_mint.BrandSupply.{BrandSupply, IsMintRefusal, MayIssue, out_with}
use Rattle.draft_reads.specs.vault.Together.{only}
use Rattle.draft_reads.proofs.lemmas.ListEdits.{read_other, read_set}
use Rattle.draft_reads.specs.rights_model.declared.Holder.{Holder}
use Rattle.draft_reads.specs.rights_model.declared.Holder.TheVariants.{Purse, Payment, Slot, Hand, Outside}
use Rattle.draft_reads.specs.rights_model.declared.Movement.{Movement}
use Rattle.draft_reads.specs.rights_model.Table.{movement}
use Rattle.draft_reads.specs.vault_model.Backwards.{from_hand, to_hand}
use Rattle.draft_reads.specs.vault_model.Lists.{Lists, amount_of, given, taken}
use Rattle.draft_reads.proofs.vault_model.Sound.{at_or_else}
use Rattle.draft_reads.specs.world_laws.Views.{put_to, with_slot_for}
use Rattle.draft_reads.specs.vault.Drafts.{DraftState, HandKeeps, IsClean, IsOfBrand, after, given_at, given_up_too, hand_now, opened, slotted}
use Rattle.draft_reads.proofs.vault.HandLaws.{hand_after}
use Rattle.draft_reads.specs.vault.Asked.{IsPutFault, IsSource}
use Rattle.draft_reads.specs.Views.{CanGoBack}
use Rattle.draft_reads.specs.world_state.Shapes.{IsNoHand}
use Rattle.draft_effects.specs.Steps.{HasInHand, IsAfter, IsCarrying, MayArrive, MayReach}

-- ---- what is refused for want of memory alone

few_keys : (kind : Kind) (c : Content) (most : Over) → IsValue kind c → (kind ≡ Nat → ⊥) → PassesKeys kind c most → ⊥
few_keys Nat c most value keyed past = keyed refl
few_keys Set c most value keyed past = omega (arith, value.keyed.few, past.passes)
few_keys Bag c most value keyed past = omega (arith, value.keyed.few, past.passes)

pub put_memory : (kind : Kind) (c : Content) (fault : PutFault) → IsValue kind c → IsPutRefusal kind c fault → fault ≡ NoMemory
put_memory kind c (Overlap key) value refused = absurd (omega (arith, (fits_from_value kind c value).each key, ap bound refused.0, refused.1.passes))
put_memory kind c (TooMuch most) value refused = absurd (elim refused [
  | inl past ↦ passes_not_fits kind c most past.1 (fits_from_value kind c value)
  | inr past ↦ few_keys kind c most value past.0 past.1
])
put_memory kind c NoMemory value refused = refl

pub issue_memory : (s : BrandSupply) (w : ValueView) (fault : PutFault) → MayIssue s w → IsMintRefusal s w fault → fault ≡ NoMemory
issue_memory s w (Overlap key) may refused = absurd (omega (arith, may.fits.each key, ap bound refused.0, refused.1.passes))
issue_memory s w (TooMuch over) may (inl refused) = absurd (passes_not_fits w.kind (out_with s w.content) over refused.1 may.fits)
issue_memory s w (TooMuch over) may (inr past) = absurd (omega (arith, past.passes, may.minted))
issue_memory s w NoMemory may refused = refl

pub reach_memory : (s : Lists) (to : Holder) (a : Amount) (fault : PutFault) → MayReach s to a → IsPutFault s to a fault → fault ≡ NoMemory
reach_memory s (Purse n) a fault may refused = put_memory _ _ fault may.value refused
reach_memory s (Payment n) a fault may refused = refused
reach_memory s (Slot n keyword) a fault may refused = put_memory _ _ fault may.value refused
reach_memory s Hand a fault may refused = refused
reach_memory s Outside a fault may refused = refused

-- ---- what is taken

none_left : (c : Content) → difference c c ≡ nothing
none_left c = same_content (difference c c) nothing (λ k. omega (arith, count-difference c c k, count-nothing k))

module _ (d : DraftState) (from : Holder) (b : ℕ) (w : ValueView) (comes : IsNoHand from) (clean : IsClean d) (free : (e : ℕ) → given_at d e ≡ nothing) where
  abbrev took : Movement
  took = movement b from Hand w

  not_from : (h : Holder) → IsNoHand h → (c part : Content) → from_hand h c part ≡ c
  not_from (Purse n) here c part = refl
  not_from (Payment n) here c part = refl
  not_from (Slot n keyword) here c part = refl
  not_from Hand here c part = absurd here
  not_from Outside here c part = refl

  now_hand : (e : ℕ) → hand_now (after d took) e ≡ only b w.content e
  now_hand e =
      hand_after d took e
      ∙ (λ i. cond (b == e) (sum (was i) w.content) (clean.hand e i))
      ∙ ap (λ x. cond (b == e) x nothing) (nothing-sum w.content)
    where
      was : from_hand from (hand_now d e) w.content ≡ nothing
      was = not_from from comes (hand_now d e) w.content ∙ clean.hand e

  pub carrying_after : IsCarrying d (after d took) (taken d.now from b w) (amount_of b w)
  carrying_after = record {
    now = refl;
    kept = refl;
    staging = refl;
    has = record { sound = clean.sound; hand = now_hand; free = free };
  }

-- ---- what is in the hand

module _ (d : DraftState) (a : Amount) (has : HasInHand d a) where
  abbrev c : Content
  c = a.value.content

  only_here : only a.brand c a.brand ≡ c
  only_here = ap (λ t. cond t c nothing) (eq-eqb a.brand a.brand refl)

  pub keeps_it : IsOfBrand d.now a.brand a.value → HandKeeps d a
  keeps_it brand = record {
    brand = brand;
    has = subst (λ x. Contains x (sum (given_at d a.brand) c)) (sym (has.hand a.brand ∙ only_here))
        (subst (λ x. Contains c x) (sym (ap (λ x. sum x c) (has.free a.brand) ∙ nothing-sum c)) (Contains-refl c));
  }

  pub up_back : length d.given_up ≡ length d.now.out → CanGoBack d (given_up_too d a)
  up_back long = record {
    kept = refl;
    goes = record {
      each = λ b lt.
          at_or_else (λ e t. e < length d.now.out → slice_index_or (slice_set d.given_up a.brand (sum (given_at d a.brand) c)) e nothing ≡ cond t c nothing) a.brand b
          (λ made. read_set d.given_up a.brand (sum (given_at d a.brand) c) nothing (omega (arith, made, long)) ∙ ap (λ x. sum x c) (has.free a.brand) ∙ nothing-sum c)
          (λ apart made. read_other d.given_up a.brand b (sum (given_at d a.brand) c) nothing apart ∙ has.free b)
          lt
          ∙ sym (has.hand b);
    };
  }

  module _ (to : Holder) (s : Lists) (goes : (x part : Content) → to_hand to x part ≡ x) where
    abbrev gave : Movement
    gave = movement a.brand Hand to a.value

    abbrev there : DraftState
    there = after (opened d s) gave

    hand_gone : (e : ℕ) → hand_now there e ≡ nothing
    hand_gone e =
        hand_after (opened d s) gave e
        ∙ ap (λ x. cond (a.brand == e) (to_hand to (difference x c) c) x) (has.hand e)
        ∙ by (a.brand == e)
      where
        by : (t : Bool) → cond t (to_hand to (difference (cond t c nothing) c) c) (cond t c nothing) ≡ nothing
        by true = goes (difference c c) c ∙ none_left c
        by false = refl

    pub put_after : IsAfter d there (given s to a.brand a.value)
    put_after = record { now = refl; kept = refl; staging = refl; clean = record { sound = has.sound; hand = hand_gone } }

    pub put_back : CanGoBack d there
    put_back = record { kept = refl; goes = record { each = λ b lt. has.free b ∙ sym (hand_gone b) } }

-- where it is put, which isn't the hand
pub not_to : (s : Lists) (to : Holder) (a : Amount) → MayArrive s to a → (x part : Content) → to_hand to x part ≡ x
not_to s (Purse n) a may x part = refl
not_to s (Payment n) a may x part = refl
not_to s (Slot n keyword) a may x part = refl
not_to s Hand a may x part = absurd may
not_to s Outside a may x part = refl

pub same_slot : (s : Lists) (to : Holder) (a : Amount) → slotted s to a ≡ with_slot_for s to a
same_slot s (Purse n) a = refl
same_slot s (Payment n) a = refl
same_slot s (Slot n keyword) a = refl
same_slot s Hand a = refl
same_slot s Outside a = refl

pub reach_to : (s : Lists) (to : Holder) (a : Amount) → MayReach s to a → (x part : Content) → to_hand to x part ≡ x
reach_to s (Purse n) a may x part = refl
reach_to s (Payment n) a may x part = refl
reach_to s (Slot n keyword) a may x part = refl
reach_to s Hand a may x part = absurd may.put
reach_to s Outside a may x part = absurd may.put

-- a parcel that was put
module _ (d : DraftState) (a : Amount) (has : HasInHand d a) (to : Holder) (may : MayReach d.now to a) where
  abbrev put_now : DraftState
  put_now = after (opened d (slotted d.now to a)) (movement a.brand Hand to a.value)

  pub put_so : IsAfter d put_now (put_to d.now to a)
  put_so = subst (λ (x : Lists). IsAfter d put_now (given x to a.brand a.value)) (same_slot d.now to a) (put_after d a has to (slotted d.now to a) (reach_to d.now to a may))

  pub put_so_back : CanGoBack d put_now
  put_so_back = put_back d a has to (slotted d.now to a) (reach_to d.now to a may)

-- and one that was retired
module _ (d : DraftState) (a : Amount) (has : HasInHand d a) where
  pub retired_so : IsAfter d (after d (movement a.brand Hand Outside a.value)) (put_to d.now Outside a)
  retired_so = put_after d a has Outside d.now (λ x part. refl)

  pub retired_so_back : CanGoBack d (after d (movement a.brand Hand Outside a.value))
  retired_so_back = put_back d a has Outside d.now (λ x part. refl)

-- what is asked of a holder isn't asked of the hand
pub source_comes : (s : Lists) (from : Holder) (w : ValueView) → IsSource s from w → IsNoHand from
source_comes s (Purse n) w source = tt
source_comes s (Payment n) w source = tt
source_comes s (Slot n keyword) w source = tt
source_comes s Hand w source = absurd source
source_comes s Outside w source = tt
