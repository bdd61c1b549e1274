-- Movements of a rearrangement that can be made together in the world can be made one after another by way of the hand's own store, and make of the rights what they make together.
use Rattle.std.specs.Prelude.{is_some, unwrap_or}
use Rattle.std.specs.List.{AllByRecursion}
use Rattle.std.proofs.Common.{◌≡◌, ℕ, ◌≤◌, List, [], ◌∷◌, None, Option, Some, length, refl, sym, ◌∙◌, ap, subst, arith}
use Rattle.draft_reads.specs.amount_math.Content.{Content, Contains, Contains-trans, count-nothing, nothing, same_content}
use Rattle.draft_reads.specs.amount_math.ValueView.{ValueView}
use Rattle.draft_reads.specs.amount_math.declared.Amount.{Amount}
use Rattle.draft_effects.specs.Steps.{MayReach}
use Rattle.draft_effects.proofs.TransferSequences.{all_spent_long, arrives_can, arrives_give, seats_given, seats_slot_for, seats_taken, sound_target}
use Rattle.draft_effects.proofs.Measures.{all_grow, made_or_owed}
use Rattle.draft_reads.specs.Views.{HasNow, rights_in, seats_in, staged_from, staging_in}
use Rattle.draft_reads.proofs.Staged.{staged_long}
use Rattle.draft_reads.proofs.Undoing.{clean_goes}
use Rattle.draft_reads.specs.ertp_mint.BrandSupply.{supply_at}
use Rattle.draft_reads.specs.ertp_mint.Stocks.{most_made, no_amount}
use Rattle.draft_reads.proofs.lemmas.ListEdits.{length_map}
use Rattle.draft_reads.specs.world_state.Shapes.{GoesByHand, IsHalf, IsRearrangement}
use Rattle.draft_reads.specs.holders.PaymentViews.{PaymentView}
use Rattle.draft_reads.specs.proposals.Shares.{amount_under}
use Rattle.draft_reads.specs.proposals.declared.allocations.Share.{Share}
use Rattle.draft_reads.specs.rights_model.declared.Holder.{Holder}
use Rattle.draft_reads.specs.rights_model.declared.Holder.TheVariants.{Purse, Payment, Slot, Hand, Outside}
use Rattle.draft_reads.specs.rights_model.declared.Movement.{Movement}
use Rattle.draft_reads.specs.rights_model.Table.{movement}
use Rattle.draft_reads.specs.vault_model.Lists.{CanTake, Lists, amount_of, slot_of}
use Rattle.draft_reads.specs.vault_model.Seats.{kept_seat_at}
use Rattle.draft_reads.specs.vault_model.Tables.{IsSound, no_hand}
use Rattle.draft_reads.proofs.vault_model.Sound.{hand_is_out, sound_given, sound_taken}
use Rattle.draft_reads.specs.world_laws.Views.{rights_of, seat_of, seats_of, slots_held, with_slot_for}
use Rattle.draft_reads.proofs.world_laws.Together.{given_views, taken_views, with_payment_views}
use Rattle.draft_reads.proofs.world_laws.Views.{slots_read}
use Rattle.draft_effects.specs.HandStore.{CanCarry, CanCarryAll, IsStoring, StoresAll, all_carried, carried, hand_after_all}
use Rattle.draft_reads.specs.vault.Drafts.{DraftState, IsClean, IsOfBrand, IsValid, hand_now}
use Rattle.draft_reads.specs.world_state.Good.{CanMoveTogether, IsGoodMove}
use Rattle.draft_reads.specs.world_state.Rights.{CanMove, CanMoveAll, HasOrOpens, IsEmptyHand, IsNothing, SlotHas, all_moved, all_spent, hand_after, moved, moved_together, spent_from}
use Rattle.draft_reads.specs.world_state.Worlds.{Seat}

-- ---- a slot that something is taken from is there

slot_can : (s : Lists) (n : ℕ) (k : List ℕ) (b : ℕ) (w : ValueView) → SlotHas (rights_of s) n k b w → (IsNothing w.content → ⊥) → CanTake s (Slot n k) b w
slot_can s n k b w takes some = by (amount_under k shares) refl (subst (λ l. HasOrOpens (amount_under k l) l b w) (slots_read s.seats n) takes.has)
  where
    shares : List Share
    shares = (kept_seat_at s.seats n).slots

    by : (o : Option Amount) → amount_under k shares ≡ o → HasOrOpens o shares b w → CanTake s (Slot n k) b w
    by (Some a) found has = record {
      slot = record { made = omega (arith, takes.made, length_map slots_held s.seats); there = ap is_some found };
      brand = ap (λ (x : Amount). x.brand) at ∙ has.brand;
      kind = ap (λ (x : Amount). x.value.kind) at ∙ has.kind;
      has = subst (λ (x : Amount). Contains x.value.content w.content) (sym at) has.has;
    }
      where
        at : slot_of s n k ≡ a
        at = ap (λ o. unwrap_or o no_amount) found
    by None found has = absurd (some has.0)

-- ---- a movement

-- one can be made, all adds up then, and the world has it so
pub record IsMade (s : Lists) (h : ℕ → Content) (m : Movement) : Type 0 where
  pub can : CanCarry s h m
  pub sound : IsSound (carried s m) (hand_after h m)
  pub rights : rights_of (carried s m) ≡ moved (rights_of s) m
  pub seated : seats_of (carried s m) ≡ seats_of s

module _ (seats : List Seat) (s : Lists) (h : ℕ → Content) (seated : seats_of s ≡ seats) (sound : IsSound s h) (b : ℕ) (w : ValueView) (some : IsNothing w.content → ⊥) where
  of_brand : (from to : Holder) → CanMove (rights_of s) h (movement b from to w) → IsOfBrand s b w
  of_brand from to can = record { made = can.brand; kind = can.kind }

  lost : (n : ℕ) (k : List ℕ) → CanMove (rights_of s) h (movement b (Slot n k) Hand w) → IsMade s h (movement b (Slot n k) Hand w)
  lost n k can = record {
    can = record {
      to = refl;
      store = record {
        source = record { slot = take.slot; kind = take.kind };
        brand = subst (λ e. IsOfBrand s e w) (sym take.brand) (of_brand (Slot n k) Hand can);
        has = take.has;
      };
      brand = take.brand;
    };
    sound = sound_taken s h b w sound (Slot n k) take;
    rights = taken_views s (Slot n k) b w take;
    seated = seats_taken s (Slot n k) b w;
  }
    where
      take : CanTake s (Slot n k) b w
      take = slot_can s n k b w can.from some

  gained : (n : ℕ) (k : List ℕ) → CanMove (rights_of s) h (movement b Hand (Slot n k) w) → IsGoodMove seats (movement b Hand (Slot n k) w) → made_or_owed seats (moved (rights_of s) (movement b Hand (Slot n k) w)) ≤ most_made → IsMade s h (movement b Hand (Slot n k) w)
  gained n k can good room = record {
    can = record { from = refl; has = can.from.has; brand = brand; reach = reach };
    sound = sound_given (with_slot_for s (Slot n k) (amount_of b w)) h b w (sound_target s h (Slot n k) (amount_of b w) reach sound) (Slot n k) (arrives_give s (Slot n k) (amount_of b w) reach brand out) can.from.has;
    rights = given_views s (Slot n k) b w reach.put.made;
    seated = seats_given (with_slot_for s (Slot n k) (amount_of b w)) (Slot n k) b w ∙ seats_slot_for s (Slot n k) (amount_of b w);
  }
    where
      brand : IsOfBrand s b w
      brand = of_brand Hand (Slot n k) can

      reach : MayReach s (Slot n k) (amount_of b w)
      reach = arrives_can (rights_of s) s (record { rest = refl; long = refl }) seats h seated sound b w brand (Slot n k) tt can.to good.to room

      out : Contains (supply_at s.out b).outstanding.content w.content
      out = Contains-trans (supply_at s.out b).outstanding.content (h b) w.content (hand_is_out s h sound b) can.from.has

  half_made : (from to : Holder) → GoesByHand from to → CanMove (rights_of s) h (movement b from to w) → IsGoodMove seats (movement b from to w) → made_or_owed seats (moved (rights_of s) (movement b from to w)) ≤ most_made → IsMade s h (movement b from to w)
  half_made (Slot n k) Hand goes can good room = lost n k can
  half_made Hand (Slot n k) goes can good room = gained n k can good room
  half_made (Slot n k) (Purse e) goes can good room = absurd goes
  half_made (Slot n k) (Payment e) goes can good room = absurd goes
  half_made (Slot n k) (Slot e j) goes can good room = absurd goes
  half_made (Slot n k) Outside goes can good room = absurd goes
  half_made Hand (Purse e) goes can good room = absurd goes
  half_made Hand (Payment e) goes can good room = absurd goes
  half_made Hand Hand goes can good room = absurd goes
  half_made Hand Outside goes can good room = absurd goes
  half_made (Purse e) to goes can good room = absurd goes
  half_made (Payment e) to goes can good room = absurd goes
  half_made Outside to goes can good room = absurd goes

-- ---- movements

pub record AreMade (s : Lists) (h : ℕ → Content) (ms : List Movement) : Type 0 where
  pub can : CanCarryAll s h ms
  pub rights : rights_of (all_carried s ms) ≡ all_moved (rights_of s) ms
  pub seated : seats_of (all_carried s ms) ≡ seats_of s
  pub empty : IsEmptyHand (hand_after_all h ms)

both_made : (s : Lists) (h : ℕ → Content) (m : Movement) (ms : List Movement) → IsMade s h m → AreMade (carried s m) (hand_after h m) ms → AreMade s h (m ∷ ms)
both_made s h m ms first rest = record {
  can = (first.can, rest.can);
  rights = rest.rights ∙ ap (λ r. all_moved r ms) first.rights;
  seated = rest.seated ∙ first.seated;
  empty = rest.empty;
}

halves_made : (seats : List Seat) (s : Lists) (h : ℕ → Content) (ms : List Movement) → seats_of s ≡ seats → IsSound s h → AllByRecursion IsHalf ms → CanMoveAll (rights_of s) h ms → AllByRecursion (IsGoodMove seats) ms → made_or_owed seats (all_moved (rights_of s) ms) ≤ most_made → AreMade s h ms
halves_made seats s h [] seated sound halves can good room = record { can = tt; rights = refl; seated = refl; empty = can }
halves_made seats s h (m ∷ ms) seated sound halves can good room = both_made s h m ms first (halves_made seats (carried s m) (hand_after h m) ms (first.seated ∙ seated) first.sound halves.1
    (subst (λ r. CanMoveAll r (hand_after h m) ms) (sym first.rights) can.1)
    good.1
    (subst (λ r. made_or_owed seats (all_moved r ms) ≤ most_made) (sym first.rights) room))
  where
    first : IsMade s h m
    first = half_made seats s h seated sound m.brand m.value halves.0.some m.from m.to halves.0.by_hand can.0 good.0 (omega (arith, room, all_grow seats (moved (rights_of s) m) ms))

-- ---- no payment is spent

none_spent : (ms : List Movement) (ps : List PaymentView) → AllByRecursion IsHalf ms → all_spent ms ps ≡ ps
none_spent [] ps halves = refl
none_spent (m ∷ ms) ps halves = ap (all_spent ms) (from m.from m.to halves.0.by_hand) ∙ none_spent ms ps halves.1
  where
    from : (from to : Holder) → GoesByHand from to → spent_from from ps ≡ ps
    from (Slot n k) to goes = refl
    from Hand to goes = refl
    from (Purse n) to goes = refl
    from (Payment n) to goes = absurd goes
    from Outside to goes = refl

-- ---- a rearrangement of a draft

module _ (d : DraftState) (staging : List (Option (List Share))) (ms : List Movement) (valid : IsValid d) (clean : IsClean d) (shape : IsRearrangement ms) (can : CanMoveTogether (rights_in d) (seats_in d) staging ms) where
  empty_hand : no_hand ≡ hand_now d
  empty_hand = λ i b. sym (clean.hand b) i

  pub all_made : AreMade d.now (hand_now d) ms
  all_made = halves_made (seats_in d) d.now (hand_now d) ms refl valid.sound shape
      (subst (λ (h : ℕ → Content). CanMoveAll (rights_in d) h ms) empty_hand can.can)
      can.good
      (omega (arith, can.room.left, all_spent_long ms (all_moved (rights_in d) ms).payments))

  pub stores_all : StoresAll d
  stores_all = record { sound = clean.sound; stored = clean_goes d valid clean }

  pub rearranged_now : (new : DraftState) → IsStoring d new (all_carried d.now ms) (hand_after_all (hand_now d) ms) → HasNow new (moved_together (rights_in d) ms) (seats_in d) (staging_in d)
  rearranged_now new made = record {
    rights = ap rights_of made.now ∙ all_made.rights ∙ ap (with_payment_views (all_moved (rights_in d) ms)) (sym (none_spent ms (all_moved (rights_in d) ms).payments shape));
    seated = seated;
    staged =
        (λ i. staged_from 0 new.now.seats (made.staging i))
        ∙ staged_long 0 new.now.seats d.now.seats d.staging (omega (arith, ap length seated, length_map seat_of new.now.seats, length_map seat_of d.now.seats));
    clean = record {
      sound = made.stores.sound;
      hand = λ b. ap (λ (h : ℕ → Content). h b) made.hand ∙ same_content (hand_after_all (hand_now d) ms b) nothing (λ k. all_made.empty.each b k ∙ sym (count-nothing k));
    };
  }
    where
      seated : seats_of new.now ≡ seats_of d.now
      seated = ap seats_of made.now ∙ all_made.seated
