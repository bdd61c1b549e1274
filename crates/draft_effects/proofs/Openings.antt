-- What a draft opens, in the world's words.
use Rattle.std.specs.Prelude.{is_some, slice_index_or}
use Rattle.std.proofs.Common.{◌≡◌, inl, inr, ℕ, zero, suc, ◌+◌, ◌<◌, ◌≤◌, List, [], ◌∷◌, ◌++◌, None, Option, Some, length, map, refl, sym, ◌∙◌, ap, subst, arith}
use Rattle.draft_reads.specs.amount_math.Content.{Content, nothing}
use Rattle.draft_reads.specs.amount_math.ValueView.{ValueView}
use Rattle.draft_reads.specs.amount_math.declared.Kind.{Kind}
use Rattle.draft_reads.specs.ertp_mint.BrandSupply.{new_supply}
use Rattle.draft_reads.specs.ertp_mint.Stocks.{empty_amount, most_made}
use Rattle.draft_reads.proofs.lemmas.ListEdits.{length_map, map_push}
use Rattle.draft_reads.specs.proposals.Slots.{emptied, slots_of}
use Rattle.draft_reads.specs.proposals.declared.allocations.Share.{Share}
use Rattle.draft_reads.specs.proposals.declared.offers.Exit.{Exit}
use Rattle.draft_reads.specs.proposals.declared.offers.Proposal.{Proposal}
use Rattle.draft_reads.specs.rights_model.declared.Movement.{Movement}
use Rattle.draft_reads.specs.rights_model.Table.{movement}
use Rattle.draft_reads.specs.rights_model.declared.Holder.TheVariants.{Outside, Payment}
use Rattle.draft_reads.specs.vault_model.Lists.{Lists, taken, with_new_purse, with_new_seat}
use Rattle.draft_reads.specs.vault_model.Seats.{new_kept_seat}
use Rattle.draft_reads.specs.vault_model.Tables.{no_hand}
use Rattle.draft_reads.specs.world_laws.Views.{put_to, rights_of, seat_of, seats_of}
use Rattle.draft_reads.proofs.world_laws.Views.{payment_issued, seat_opened}
use Rattle.draft_reads.specs.seats.Seats.{SeatView}
use Rattle.draft_reads.specs.seats.Staging.{staged_at}
use Rattle.draft_reads.specs.seats.Store.{AreOpen}
use Rattle.draft_reads.specs.seats.declared.seats.OpenFault.{OpenFault}
use Rattle.draft_reads.specs.seats.declared.seats.OpenFault.TheVariants.{Limit, NoMemory}
use Rattle.draft_reads.specs.vault.Drafts.{DraftState, IsClean, IsOfBrand, IsValid, opened, with_brand}
use Rattle.draft_reads.specs.vault.Asked.{IsSeatTooMany}
use Rattle.draft_reads.specs.vault.Memory.{kept_seat}
use Rattle.draft_reads.specs.world_state.Good.{open_slots}
use Rattle.draft_reads.specs.world_state.Rights.{CanMove, CanMoveAll, Rights, with_payment, with_purse, with_slots, with_supply}
use Rattle.draft_reads.specs.world_state.Worlds.{Seat, empty_slots, new_seat, of_own}
use Rattle.draft_reads.specs.Views.{CanGoBack, HasNow, rights_in, seats_in, staged_from, staging_in}
use Rattle.draft_reads.proofs.Staged.{staged_push}
use Rattle.draft_reads.proofs.Undoing.{none_given, owed_is}
use Rattle.draft_effects.specs.Steps.{CanMoveByHand, IsAfter, IsCarrying, MayReach}
use Rattle.draft_effects.proofs.EmptySlots.{both_halves, issued_none}

-- what is owed to open seats is what the world counts
pub owed_now : (d : DraftState) → IsValid d → d.now.owed ≡ open_slots (seats_in d) (rights_in d).slots
owed_now d valid = valid.sound.owed ∙ sym (owed_is d.now.seats)

module _ (d : DraftState) (clean : IsClean d) where
  pub opened_back : IsValid d → (s : Lists) → CanGoBack d (opened d s)
  opened_back valid s = record { kept = refl; goes = record { each = λ b lt. none_given d valid clean b ∙ sym (clean.hand b) } }

  pub purse_now : (b : ℕ) (kind : Kind) → HasNow (opened d (with_new_purse d.now b kind)) (with_purse (rights_in d) (empty_amount b kind)) (seats_in d) (staging_in d)
  purse_now b kind = record { rights = refl; seated = refl; staged = refl; clean = record { sound = clean.sound; hand = clean.hand } }

  pub brand_now : (kind : Kind) → HasNow (with_brand d kind) (with_supply (rights_in d) (new_supply kind)) (seats_in d) (staging_in d)
  brand_now kind = record { rights = refl; seated = refl; staged = refl; clean = record { sound = clean.sound; hand = clean.hand } }

  none_more : (l : List Content) (n : ℕ) → slice_index_or (l ++ nothing ∷ []) n nothing ≡ slice_index_or l n nothing
  none_more [] zero = refl
  none_more [] (suc n) = refl
  none_more (x ∷ xs) zero = refl
  none_more (x ∷ xs) (suc n) = none_more xs n

  pub brand_back : IsValid d → (kind : Kind) → CanGoBack d (with_brand d kind)
  brand_back valid kind = record { kept = refl; goes = record { each = λ b lt. none_more d.given_up b ∙ none_given d valid clean b ∙ sym (clean.hand b) } }

  -- nothing is staged of the next seat
  module _ (seats : List SeatView) (listed : map kept_seat seats ≡ d.now.seats) (are : AreOpen seats d.staging) where
    next_free : staged_at (length d.now.seats) d.staging ≡ None
    next_free = by (staged_at (length d.now.seats) d.staging) refl
      where
        by : (o : Option (List Share)) → staged_at (length d.now.seats) d.staging ≡ o → o ≡ None
        by None is = refl
        by (Some x) is = absurd (omega (arith, are.made (length d.now.seats) (ap is_some is), ap length listed, length_map kept_seat seats))

    pub seat_now : (instance : ℕ) (p : Proposal) → HasNow (opened d (with_new_seat d.now instance p)) (with_slots (rights_in d) (empty_slots p)) (seats_in d ++ new_seat instance p ∷ []) (staging_in d ++ None ∷ [])
    seat_now instance p = record {
      rights = seat_opened d.now instance p;
      seated = map_push seat_of d.now.seats (new_kept_seat instance p);
      staged = staged_push d.now.seats (new_kept_seat instance p) d.staging next_free;
      clean = record { sound = clean.sound; hand = clean.hand };
    }

  -- there is room for it
  pub not_too_many : IsValid d → (p : Proposal) → length (seats_in d) < most_made → length (rights_in d).payments + open_slots (seats_in d) (rights_in d).slots + length (empty_slots p) ≤ most_made → IsSeatTooMany d.now p → ⊥
  not_too_many valid p few room many = elim many [
    | inl all ↦ omega (arith, few, all, length_map seat_of d.now.seats)
    | inr past ↦ omega (arith, past, room, owed_now d valid, length_map emptied (slots_of p))
  ]

  -- ---- a payment of nothing

  pub reach_next : IsValid d → (mid : DraftState) (b n : ℕ) (kind : Kind) → IsCarrying d mid (taken d.now Outside b (empty_amount b kind).value) (empty_amount b kind) → n ≡ length d.now.payments → length (rights_in d).payments + open_slots (seats_in d) (rights_in d).slots < most_made → MayReach mid.now (Payment n) (empty_amount b kind)
  reach_next valid mid b n kind issued next room = subst (λ (s : Lists). MayReach s (Payment n) (empty_amount b kind)) (sym (issued.now ∙ issued_none d.now b kind)) (record {
    put = record { next = next; left = omega (arith, room, owed_now d valid) };
    value = tt;
  })

  pub brand_then : (mid : DraftState) (b : ℕ) (kind : Kind) → IsCarrying d mid (taken d.now Outside b (empty_amount b kind).value) (empty_amount b kind) → IsOfBrand d.now b (empty_amount b kind).value → IsOfBrand mid.now b (empty_amount b kind).value
  brand_then mid b kind issued is = subst (λ (s : Lists). IsOfBrand s b (empty_amount b kind).value) (sym (issued.now ∙ issued_none d.now b kind)) is

  pub payment_now : (mid new : DraftState) (b n : ℕ) (kind : Kind) → IsCarrying d mid (taken d.now Outside b (empty_amount b kind).value) (empty_amount b kind) → n ≡ length d.now.payments → IsAfter mid new (put_to mid.now (Payment n) (empty_amount b kind)) → HasNow new (with_payment (rights_in d) (empty_amount b kind)) (seats_in d) (staging_in d)
  payment_now mid new b n kind issued next put =
      let made = both_halves d mid new (taken d.now Outside b (empty_amount b kind).value) (empty_amount b kind) (empty_amount b kind) (Payment n) issued refl put in
      record {
        rights = ap rights_of made.now ∙ payment_issued d.now b kind;
        seated = ap seats_of made.now;
        staged = λ i. staged_from 0 (made.now i).seats (made.staging i);
        clean = made.clean;
      }

-- a seat isn't opened for want of memory alone
pub seat_memory : (d : DraftState) (p : Proposal) (fault : OpenFault) → (IsSeatTooMany d.now p → ⊥) → (fault ≡ Limit → IsSeatTooMany d.now p) → fault ≡ NoMemory
seat_memory d p Limit few limit = absurd (few (limit refl))
seat_memory d p NoMemory few limit = refl

-- a seat without slots
pub no_slots : (rule : Exit) → empty_slots (of_own rule) ≡ []
unfolding slots_of
no_slots rule = refl

pub own_room : (d : DraftState) (rule : Exit) → IsValid d → length d.now.payments + d.now.owed ≤ most_made → length (rights_in d).payments + open_slots (seats_in d) (rights_in d).slots + length (empty_slots (of_own rule)) ≤ most_made
own_room d rule valid few = omega (arith, few, owed_now d valid, ap length (no_slots rule))

pub own_now : (new : DraftState) (r : Rights) (seats : List Seat) (staging : List (Option (List Share))) (rule : Exit) → HasNow new (with_slots r (empty_slots (of_own rule))) seats staging → HasNow new (with_slots r []) seats staging
own_now new r seats staging rule now = record { rights = now.rights ∙ ap (with_slots r) (no_slots rule); seated = now.seated; staged = now.staged; clean = now.clean }

-- ---- a payment of what is issued

pub issue_can : (d : DraftState) (b n : ℕ) (w : ValueView) → IsValid d → n ≡ length d.now.payments → CanMove (rights_in d) no_hand (movement b Outside (Payment n) w) → length (rights_in d).payments + open_slots (seats_in d) (rights_in d).slots < most_made → CanMoveByHand d.now (movement b Outside (Payment n) w)
issue_can d b n w valid next can room = record {
  brand = record { made = can.brand; kind = can.kind };
  leaves = tt;
  take = record { made = can.brand; kind = can.kind; fits = can.from.fits; minted = can.from.minted };
  arrives = record { put = record { next = next; left = omega (arith, room, owed_now d valid) }; value = tt };
}

pub issue_so : (d : DraftState) (m : Movement) → IsValid d → m.from ≡ Outside → m.to ≡ Payment (length (rights_in d).payments) → CanMoveAll (rights_in d) no_hand (m ∷ []) → length (rights_in d).payments + open_slots (seats_in d) (rights_in d).slots < most_made → CanMoveByHand d.now m
issue_so d m valid from to can room = subst (CanMoveByHand d.now) (sym is) (issue_can d m.brand (length d.now.payments) m.value valid refl (subst (CanMove (rights_in d) no_hand) is can.0) room)
  where
    is : m ≡ movement m.brand Outside (Payment (length d.now.payments)) m.value
    is = λ i. record { brand = m.brand; from = from i; to = to i; value = m.value }
