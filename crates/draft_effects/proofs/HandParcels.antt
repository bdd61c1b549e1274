-- What a draft has once a parcel of the hand is held in its own store, and once one that was let go from there is put, or given up.
use Rattle.std.proofs.Common.{◌≡◌, ℕ, ◌<◌, ◌==◌, cond, List, length, refl, sym, ◌∙◌, ap, subst, arith}
use Rattle.std.specs.Prelude.{slice_index_or, slice_set}
use Rattle.draft_reads.specs.amount_math.Content.{Contains, difference, nothing, sum, sum-difference}
use Rattle.draft_reads.specs.amount_math.ValueView.{ValueView}
use Rattle.draft_reads.specs.amount_math.declared.Amount.{Amount}
use Rattle.draft_reads.specs.amount_math.declared.PutFault.{PutFault}
use Rattle.draft_reads.specs.amount_math.declared.PutFault.TheVariants.{NoMemory}
use Rattle.draft_reads.specs.ertp_mint.BrandSupply.{BrandSupply}
use Rattle.draft_reads.proofs.lemmas.ListEdits.{length_set, read_other, read_set}
use Rattle.draft_reads.specs.vault_model.Lists.{Lists, amount_of, given, taken}
use Rattle.draft_reads.specs.vault_model.Tables.{hand_minus, hand_plus}
use Rattle.draft_reads.proofs.vault_model.Sound.{at_or_else}
use Rattle.draft_reads.specs.rights_model.declared.Holder.{Holder}
use Rattle.draft_reads.specs.rights_model.declared.Holder.TheVariants.{Hand}
use Rattle.draft_reads.specs.rights_model.Table.{movement}
use Rattle.draft_reads.specs.world_laws.Views.{put_to}
use Rattle.draft_reads.specs.Views.{CanGoBack}
use Rattle.draft_reads.specs.vault.Drafts.{DraftState, HandKeeps, IsOfBrand, IsStored, IsValid, after, given_at, given_up_too, hand_now, held_too, let_out, opened, slotted}
use Rattle.draft_reads.proofs.vault.HandLaws.{hand_after}
use Rattle.draft_reads.specs.vault.Asked.{IsPutFault, brand_of}
use Rattle.draft_reads.specs.vault.Taking.{part_of, with_part_taken}
use Rattle.draft_reads.proofs.vault.ByTheHand.{goes_given_up, hand_taken, keeps_part, not_to_hand, out_given}
use Rattle.draft_effects.specs.Steps.{MayReach}
use Rattle.draft_effects.proofs.CarriedMovements.{reach_memory, same_slot}
use Rattle.draft_effects.specs.HandStore.{CanStore, IsStoring, StoresAll}

-- ---- a part that is taken in

module _ (d : DraftState) (from : Holder) (w : ValueView) (stores : StoresAll d) (can : CanStore d.now from w) (valid : IsValid d) where
  pub keeps_it : HandKeeps (with_part_taken d from w) (part_of d from w)
  keeps_it = keeps_part d from w can.source can.brand valid

  pub stored : IsStoring d (held_too (with_part_taken d from w) (part_of d from w)) (taken d.now from (brand_of d.now from) w) (hand_plus (hand_now d) (brand_of d.now from) w.content)
  stored = record {
    now = refl;
    kept = refl;
    staging = refl;
    stores = record {
      sound = stores.sound;
      stored = record { each = (goes_given_up d from w can.source can.brand valid stores.stored).each };
    };
    hand = λ i e. hand_taken d from w can.source e i;
  }

-- ---- a part that is let go, and then put or given up

module _ (d : DraftState) (b : ℕ) (w : ValueView) (stores : StoresAll d) (brand : IsOfBrand d.now b w) (has : Contains (hand_now d b) w.content) (valid : IsValid d) where
  abbrev a : Amount
  a = amount_of b w

  abbrev free : DraftState
  free = let_out d b w

  pub is_stored : IsStored d b w
  is_stored = record { brand = brand; has = subst (λ x. Contains x w.content) (sym (stores.stored.each b brand.made)) has }

  in_list : b < length d.given_up
  in_list = omega (arith, brand.made, valid.brands)

  here : given_at free b ≡ difference (given_at d b) w.content
  here = read_set d.given_up b (difference (given_at d b) w.content) nothing in_list

  whole : sum (given_at free b) w.content ≡ given_at d b
  whole = ap (λ x. sum x w.content) here ∙ sum-difference (given_at d b) w.content is_stored.has

  pub keeps_free : HandKeeps free a
  keeps_free = record { brand = brand; has = subst (λ x. Contains (hand_now d b) x) (sym whole) (valid.given b) }

  pub back_free : CanGoBack d (given_up_too free a)
  back_free = record {
    kept = refl;
    goes = record {
      each = λ e lt. at_or_else (λ x t. x < length d.now.out → slice_index_or (slice_set free.given_up b (sum (given_at free b) w.content)) x nothing ≡ hand_now d x) b e
          (λ made. read_set free.given_up b (sum (given_at free b) w.content) nothing (omega (arith, in_list, length_set d.given_up b (difference (given_at d b) w.content))) ∙ whole ∙ stores.stored.each b made)
          (λ apart made. read_other free.given_up b e (sum (given_at free b) w.content) nothing apart ∙ read_other d.given_up b e (difference (given_at d b) w.content) nothing apart ∙ stores.stored.each e made)
          lt;
    };
  }

  -- it is refused for want of memory alone
  pub memory_alone : (to : Holder) (fault : PutFault) → MayReach d.now to a → IsPutFault free.now to a fault → fault ≡ NoMemory
  memory_alone to fault may refused = reach_memory d.now to a fault may refused

  module _ (to : Holder) (can : MayReach d.now to a) where
    abbrev put : DraftState
    put = after (opened free (slotted free.now to a)) (movement b Hand to w)

    hand_put : (e : ℕ) → hand_now put e ≡ hand_minus (hand_now d) b w.content e
    hand_put e =
        hand_after (opened free (slotted free.now to a)) (movement b Hand to w) e
        ∙ ap (λ x. cond (b == e) x (hand_now d e)) (not_to_hand d.now to a (difference (hand_now d e) w.content) w.content can.put)

    pub put_out : IsStoring d put (put_to d.now to a) (hand_minus (hand_now d) b w.content)
    put_out = record {
      now = ap (λ (s : Lists). given_there s) (same_slot d.now to a);
      kept = refl;
      staging = refl;
      stores = record {
        sound = stores.sound;
        stored = record {
          each = λ e lt. at_or_else (λ x t. x < length d.now.out → slice_index_or (slice_set d.given_up b (difference (given_at d b) w.content)) x nothing ≡ cond t (difference (hand_now d x) w.content) (hand_now d x)) b e
              (λ made. here ∙ ap (λ x. difference x w.content) (stores.stored.each b made))
              (λ apart made. read_other d.given_up b e (difference (given_at d b) w.content) nothing apart ∙ stores.stored.each e made)
              (subst (λ (l : List BrandSupply). e < length l) (out_given d.now to a can.put) lt)
              ∙ sym (hand_put e);
        };
      };
      hand = λ i e. hand_put e i;
    }
      where
        given_there : Lists → Lists
        given_there s = given s to b w
