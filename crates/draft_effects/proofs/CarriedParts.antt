-- A movement to the hand, or from it, and movements one after another.
use Rattle.std.proofs.Common.{◌≡◌, ◌≢◌, ℕ, suc, ◌+◌, ◌<◌, List, [], ◌∷◌, add-one, drop, drop-cons, get_or, length, map, refl, sym, ◌∙◌, ap, subst}
use Rattle.draft_reads.specs.amount_math.Content.{Content}
use Rattle.draft_reads.specs.amount_math.ValueView.{ValueView}
use Rattle.draft_reads.specs.amount_math.declared.Amount.{Amount}
use Rattle.draft_effects.specs.Steps.{moved_amount}
use Rattle.draft_reads.specs.Views.{CanGoBack}
use Rattle.draft_reads.specs.rights_model.declared.Holder.{Holder}
use Rattle.draft_reads.specs.rights_model.declared.Holder.TheVariants.{Purse, Payment, Slot, Hand, Outside}
use Rattle.draft_reads.specs.rights_model.declared.Movement.{Movement}
use Rattle.draft_reads.specs.rights_model.Table.{movement}
use Rattle.draft_reads.specs.vault_model.Lists.{Lists, taken}
use Rattle.draft_reads.specs.vault_model.Tables.{hand_minus, hand_plus}
use Rattle.draft_reads.specs.world_laws.Views.{put_to}
use Rattle.draft_reads.specs.vault.Drafts.{DraftState, MayPut, hand_now}
use Rattle.draft_reads.specs.vault.Asked.{IsSource, brand_of}
use Rattle.draft_reads.specs.world_state.Rights.{hand_after, hand_in, hand_out}
use Rattle.draft_effects.specs.HandStore.{CanCarryAll, CanCarryFrom, CanGain, CanLose, IsCarrying, IsStoring, StoresAll, all_carried, carried, hand_after_all}

storing_as : (old new : DraftState) (s t : Lists) (h g : ℕ → Content) → s ≡ t → h ≡ g → IsStoring old new s h → IsStoring old new t g
storing_as old new s t h g lists hands is = record { now = is.now ∙ lists; kept = is.kept; staging = is.staging; stores = is.stores; hand = is.hand ∙ hands }

-- ---- one that goes to the hand

pub loses : (from : Holder) (s : Lists) (h : ℕ → Content) (m : Movement) → from ≢ Hand → CanCarryFrom from s h m → CanLose s m
loses (Purse n) s h m apart can = can
loses (Payment n) s h m apart can = can
loses (Slot n k) s h m apart can = can
loses Hand s h m apart can = absurd (apart refl)
loses Outside s h m apart can = absurd can

not_out : (s : Lists) (from : Holder) (w : ValueView) (h : ℕ → Content) (b : ℕ) (c : Content) → IsSource s from w → h ≡ hand_out h from b c
not_out s (Purse n) w h b c source = refl
not_out s (Payment n) w h b c source = refl
not_out s (Slot n k) w h b c source = refl
not_out s Hand w h b c source = absurd source
not_out s Outside w h b c source = absurd source

module _ (s : Lists) (m : Movement) (can : CanLose s m) where
  lost_lists : taken s m.from (brand_of s m.from) m.value ≡ carried s m
  lost_lists = ap (λ b. taken s m.from b m.value) can.brand ∙ sym (ap (λ to. put_to (taken s m.from m.brand m.value) to (moved_amount m)) can.to)

  lost_hand : (h : ℕ → Content) → hand_plus h (brand_of s m.from) m.value.content ≡ hand_after h m
  lost_hand h =
      ap (λ b. hand_plus h b m.value.content) can.brand
      ∙ ap (λ g. hand_plus g m.brand m.value.content) (not_out s m.from m.value h m.brand m.value.content can.store.source)
      ∙ sym (ap (λ to. hand_in (hand_out h m.from m.brand m.value.content) to m.brand m.value.content) can.to)

pub lost_so : (old new : DraftState) (m : Movement) → CanLose old.now m → IsStoring old new (taken old.now m.from (brand_of old.now m.from) m.value) (hand_plus (hand_now old) (brand_of old.now m.from) m.value.content) → IsStoring old new (carried old.now m) (hand_after (hand_now old) m)
lost_so old new m can is = storing_as old new _ _ _ _ (lost_lists old.now m can) (lost_hand old.now m can (hand_now old)) is

-- ---- one that comes from there

not_in : (s : Lists) (to : Holder) (a : Amount) (h : ℕ → Content) (b : ℕ) (c : Content) → MayPut s to a → h ≡ hand_in h to b c
not_in s (Purse n) a h b c may = refl
not_in s (Payment n) a h b c may = refl
not_in s (Slot n k) a h b c may = refl
not_in s Hand a h b c may = absurd may
not_in s Outside a h b c may = absurd may

module _ (s : Lists) (h : ℕ → Content) (m : Movement) (can : CanGain s h m) where
  gained_lists : put_to s m.to (moved_amount m) ≡ carried s m
  gained_lists = sym (ap (λ from. put_to (taken s from m.brand m.value) m.to (moved_amount m)) can.from)

  gained_hand : hand_minus h m.brand m.value.content ≡ hand_after h m
  gained_hand =
      not_in s m.to (moved_amount m) (hand_minus h m.brand m.value.content) m.brand m.value.content can.reach.put
      ∙ sym (ap (λ from. hand_in (hand_out h from m.brand m.value.content) m.to m.brand m.value.content) can.from)

pub gained_so : (old new : DraftState) (m : Movement) → CanGain old.now (hand_now old) m → IsStoring old new (put_to old.now m.to (moved_amount m)) (hand_minus (hand_now old) m.brand m.value.content) → IsStoring old new (carried old.now m) (hand_after (hand_now old) m)
gained_so old new m can is = storing_as old new _ _ _ _ (gained_lists old.now (hand_now old) m can) (gained_hand old.now (hand_now old) m can) is

-- ---- movements one after another

pub still : (d : DraftState) → StoresAll d → CanGoBack d d
still d stores = record { kept = refl; goes = stores.stored }

pub carry_starts : (d : DraftState) (ms : List Movement) → StoresAll d → CanCarryAll d.now (hand_now d) ms → IsCarrying d d ms ms
carry_starts d ms stores can = record { can = can; done = refl; hand = refl; kept = refl; staging = refl; stores = stores }

pub carry_goes_on : (old d e : DraftState) (ms left : List Movement) (m : Movement) → IsCarrying old d ms (m ∷ left) → IsStoring d e (carried d.now m) (hand_after (hand_now d) m) → IsCarrying old e ms left
carry_goes_on old d e ms left m is next = record {
  can = subst (λ (s : Lists). CanCarryAll s (hand_now e) left) (sym next.now) (subst (λ (h : ℕ → Content). CanCarryAll (carried d.now m) h left) (sym next.hand) is.can.1);
  done = ap (λ (s : Lists). all_carried s left) next.now ∙ is.done;
  hand = ap (λ (h : ℕ → Content). hand_after_all h left) next.hand ∙ is.hand;
  kept = next.kept ∙ is.kept;
  staging = next.staging ∙ is.staging;
  stores = next.stores;
}

pub carry_ends : (old d : DraftState) (ms : List Movement) → IsCarrying old d ms [] → IsStoring old d (all_carried old.now ms) (hand_after_all (hand_now old) ms)
carry_ends old d ms is = record { now = is.done; kept = is.kept; staging = is.staging; stores = is.stores; hand = is.hand }

pub carry_back : (old d e : DraftState) (ms left : List Movement) → IsCarrying old d ms left → CanGoBack d e → CanGoBack old e
carry_back old d e ms left is back = record { kept = back.kept ∙ is.kept; goes = back.goes }

-- ---- halves of movements

pub goes_in : (from : Holder) (s : Lists) (h : ℕ → Content) (b : ℕ) (w : ValueView) → CanCarryFrom from s h (movement b from Hand w) → CanLose s (movement b from Hand w)
goes_in (Purse n) s h b w can = can
goes_in (Payment n) s h b w can = can
goes_in (Slot n k) s h b w can = can
goes_in Hand s h b w can = absurd can.reach.put
goes_in Outside s h b w can = absurd can

-- what is left of a list that a loop goes over
pub left_of : {X Y : Type 0} (f : X → Y) (xs : List X) (i : ℕ) (x : X) → i < length xs → x ≡ get_or xs i x → map f (drop i xs) ≡ f x ∷ map f (drop (i + 1) xs)
left_of f xs i x lt is = ap (map f) (drop-cons xs i x lt) ∙ ap (λ y. f y ∷ map f (drop (suc i) xs)) (sym is) ∙ ap (λ n. f x ∷ map f (drop n xs)) (sym (add-one i))
