-- A draft after a seat was opened, after a further slot was, and after a seat was closed.
use Rattle.std.proofs.Common.{◌≡◌, ℕ, ◌+◌, ◌-◌, ◌<◌, ◌≤◌, Bool, false, List, [], ◌∷◌, ◌++◌, length, reverse, Result, Ok, Err, Some, None, Option, refl, sym, ◌∙◌, ap, subst, arith}
use Rattle.std.specs.Prelude.{OnErr, OnOk, IsNone, IsSome, is_some, slice_index_or, slice_set, unwrap_or}
use Rattle.vault_model.specs.amount_math.Content.{Contains, nothing, sum}
use Rattle.vault_model.specs.amount_math.Held.{HasRoom, keys_in, more_room}
use Rattle.vault_model.specs.amount_math.ValueView.{IsValue, keys_of}
use Rattle.vault_model.specs.amount_math.declared.Amount.{Amount}
use Rattle.vault_model.specs.amount_math.declared.Kind.{Kind}
use Rattle.vault_model.specs.ertp_mint.BrandSupply.{BrandSupply, supply_at}
use Rattle.vault_model.specs.ertp_mint.Stocks.{empty_amount, most_made, no_amount}
use Rattle.vault_model.proofs.lemmas.ListEdits.{length_map, length_push, length_set, read_pushed, read_set}
use Rattle.vault_model.specs.proposals.Shares.{amount_under, keyed_share}
use Rattle.vault_model.specs.proposals.Slots.{emptied, slots_of}
use Rattle.vault_model.specs.proposals.declared.allocations.Share.{Share}
use Rattle.vault_model.specs.proposals.declared.offers.Proposal.{Proposal}
use Rattle.vault_model.specs.declared.Undo.{Undo}
use Rattle.vault_model.specs.declared.Undo.TheVariants.{Moves, OpensSeat, OpensSlot, ClosesSeat}
use Rattle.vault_model.specs.Backwards.{CanAllBack, Rooms, all_back, in_hand}
use Rattle.vault_model.specs.Lists.{CanGive, Lists, kind_of, slot_of, with_closed_seat, with_new_seat, with_new_slot}
use Rattle.vault_model.specs.Seats.{HasShare, HasSlotOf, IsOpenSeat, KeptSeat, HasEmptyShare, amount_at, kept_seat_at, new_kept_seat, no_kept_seat, empty_share, with_slots}
use Rattle.vault_model.specs.Tables.{Agrees, IsSound, no_hand, table_of}
use Rattle.vault_model.proofs.Agreeing.{agrees_closed, agrees_new_seat, agrees_new_slot}
use Rattle.vault_model.proofs.SlotShares.{pushed_there}
use Rattle.vault_model.proofs.Sound.{owes_its_slots, sound_closed, sound_new_seat, sound_new_slot}
use Rattle.vault_model.proofs.Undone.{all_grows, reopened, unopened_slot, unseated}
use Rattle.vault_model.specs.rights_model.declared.Holder.TheVariants.{Hand, Slot}
use Rattle.vault_model.specs.rights_model.declared.Movement.{Movement}
use Rattle.vault_model.specs.rights_model.Table.{CanMoveAll, Table, movement, table_after}
use Rattle.seats.specs.Staging.{without_staged}
use Rattle.seats.specs.Store.{SeatsView}
use Rattle.vault.specs.Asked.{MayClose, MayOpenSlot, TakesIn}
use Rattle.vault.specs.Memory.{HasBecome, IsForward, IsGivenFurther, kept_of, lists_of, rooms_of, staged_of}
use Rattle.vault.specs.declared.stores.Stores.{Stores}
use Rattle.vault.specs.Drafts.{DraftState, HandKeeps, IsDraft, after, draft_of, given_list, opened, table_now, with_staging}
use Rattle.vault.proofs.Made.{put_after_so, put_keeps_so}
use Rattle.vault.proofs.Steps.{brands_there, given_long, last_first, same_given}

-- ---- any step that moves nothing

module _ (p q : Stores) (k : Undo) (s : Lists) (staged : List (ℕ × List Share)) (ks : List Undo) (ms : List Movement) (keys : ℕ) (spoiled : Bool) (is : IsDraft p ks ms keys spoiled) (become : IsForward p q s staged (kept_of p))
    (undone : all_back s (k ∷ reverse ks) (reverse ms) ≡ all_back (lists_of p) (reverse ks) (reverse ms)) where
  kept_after : all_back (lists_of q) (reverse (ks ++ k ∷ [])) (reverse ms) ≡ all_back (lists_of p) (reverse ks) (reverse ms)
  kept_after = ap (λ (r : List Undo). all_back (lists_of q) r (reverse ms)) (last_first ks k) ∙ ap (λ (l : Lists). all_back l (k ∷ reverse ks) (reverse ms)) become.lists ∙ undone

  same_list : s.out ≡ (lists_of p).out → given_list q ≡ given_list p
  same_list outs = same_given p q become.given_up (ap (λ (l : Lists). length l.out) become.lists ∙ ap length outs)

  pub stepped_after : s.out ≡ (lists_of p).out → draft_of q (ks ++ k ∷ []) ms spoiled ≡ with_staging (opened (draft_of p ks ms spoiled) s) staged
  stepped_after outs = λ i. record { kept = kept_after i; now = become.lists i; staging = become.staging i; movements = ms; given_up = same_list outs i; is_spoiled = spoiled }

  pub stepped_keeps : ((R : Rooms) → CanAllBack R (lists_of p) (reverse ks) (reverse ms) → CanAllBack R s (k ∷ reverse ks) (reverse ms)) → s.out ≡ (lists_of p).out → IsSound s (in_hand (reverse ms)) → ((t : Table) → Agrees (lists_of p) (in_hand (reverse ms)) t → Agrees s (in_hand (reverse ms)) t) → IsDraft q (ks ++ k ∷ []) ms keys spoiled
  stepped_keeps can outs sound agrees = record {
    can = subst (λ (r : List Undo). CanAllBack (rooms_of q) (lists_of q) r (reverse ms)) (sym (last_first ks k))
        (subst (λ (l : Lists). CanAllBack (rooms_of q) l (k ∷ reverse ks) (reverse ms)) (sym become.lists)
        (can (rooms_of q) (all_grows (rooms_of p) (rooms_of q) become.rooms (lists_of p) (reverse ks) (reverse ms) is.can)));
    bounded = λ b. subst (λ (l : List BrandSupply). keys_in (supply_at l b).outstanding.kind (in_hand (reverse ms) b) ≤ keys) (sym out_same) (is.bounded b);
    room = λ b lt. subst (λ (l : List BrandSupply). HasRoom (supply_at l b).outstanding.kind (keys_of (in_hand (reverse ms) b)) ((rooms_of q).hand b)) (sym out_same)
        (more_room (kind_of (lists_of p) b) (keys_of (in_hand (reverse ms) b)) ((rooms_of p).hand b) ((rooms_of q).hand b) (become.rooms.hand b) (is.room b (before b lt)));
    retired = λ b. become.kept b ∙ is.retired b;
    valid = record {
      sound = subst (λ (l : Lists). IsSound l (in_hand (reverse ms))) (sym become.lists) sound;
      agrees = subst (λ (l : Lists). Agrees (lists_of q) (in_hand (reverse ms)) (table_after (table_of l) ms)) (sym kept_after)
          (subst (λ (l : Lists). Agrees l (in_hand (reverse ms)) (table_now (draft_of p ks ms spoiled))) (sym become.lists) (agrees (table_now (draft_of p ks ms spoiled)) is.valid.agrees));
      moves = subst (λ (l : Lists). CanMoveAll (table_of l) ms) (sym kept_after) is.valid.moves;
      was_sound = subst (λ (l : Lists). IsSound l no_hand) (sym kept_after) is.valid.was_sound;
      brands = given_long q;
      given = λ b. subst (λ l. Contains (in_hand (reverse ms) b) (slice_index_or l b nothing)) (sym (same_list outs)) (is.valid.given b);
    };
  }
    where
      out_same : (lists_of q).out ≡ (lists_of p).out
      out_same = ap (λ (l : Lists). l.out) become.lists ∙ outs

      before : (b : ℕ) → b < length q.transit.out → b < length p.transit.out
      before b lt = omega (arith, lt, brands_there p, brands_there q, ap length out_same)

module _ (p q : Stores) (ks : List Undo) (ms : List Movement) (keys : ℕ) (spoiled : Bool) (is : IsDraft p ks ms keys spoiled) where
  -- ---- a seat

  module _ (instance : ℕ) (proposal : Proposal) (become : HasBecome p q (with_new_seat (lists_of p) instance proposal)) where
    seat_undone : all_back (with_new_seat (lists_of p) instance proposal) (OpensSeat ∷ reverse ks) (reverse ms) ≡ all_back (lists_of p) (reverse ks) (reverse ms)
    seat_undone = ap (λ (l : Lists). all_back l (reverse ks) (reverse ms)) (unseated (lists_of p) instance proposal)

    new_last : kept_seat_at ((lists_of p).seats ++ new_kept_seat instance proposal ∷ []) (length ((lists_of p).seats ++ new_kept_seat instance proposal ∷ []) - 1) ≡ new_kept_seat instance proposal
    new_last = read_pushed (lists_of p).seats (new_kept_seat instance proposal) no_kept_seat _ (omega (arith, length_push (lists_of p).seats (new_kept_seat instance proposal)))

    pub seat_after : draft_of q (ks ++ OpensSeat ∷ []) ms spoiled ≡ opened (draft_of p ks ms spoiled) (with_new_seat (lists_of p) instance proposal)
    seat_after = stepped_after p q OpensSeat (with_new_seat (lists_of p) instance proposal) (staged_of p) ks ms keys spoiled is become seat_undone refl

    pub seat_keeps : IsDraft q (ks ++ OpensSeat ∷ []) ms keys spoiled
    seat_keeps = stepped_keeps p q OpensSeat (with_new_seat (lists_of p) instance proposal) (staged_of p) ks ms keys spoiled is become seat_undone
        (λ R can. (
          record {
            some = omega (arith, length_push (lists_of p).seats (new_kept_seat instance proposal));
            new = (proposal, instance, new_last);
            owed = omega (arith, ap (λ (x : KeptSeat). length x.slots) new_last, length_map emptied (slots_of proposal));
          },
          subst (λ (l : Lists). CanAllBack R l (reverse ks) (reverse ms)) (sym (unseated (lists_of p) instance proposal)) can,
        ))
        refl
        (sound_new_seat (lists_of p) (in_hand (reverse ms)) instance proposal is.valid.sound)
        (λ t. agrees_new_seat (lists_of p) (in_hand (reverse ms)) t instance proposal)

  -- ---- a seat closed

  module _ (n : ℕ) (made : n < length (lists_of p).seats) (is_open : IsOpenSeat (kept_seat_at (lists_of p).seats n)) where
    pub may_close : MayClose (lists_of p) n
    may_close = record { made = made; is_open = is_open; owed = owes_its_slots (lists_of p) (in_hand (reverse ms)) is.valid.sound n made is_open }

    module _ (become : IsForward p q (with_closed_seat (lists_of p) n) (without_staged n (staged_of p)) (kept_of p)) where
      abbrev seat : KeptSeat
      seat = kept_seat_at (lists_of p).seats n

      abbrev shut : KeptSeat
      shut = record seat { last = Some seat.slots }

      close_undone : all_back (with_closed_seat (lists_of p) n) (ClosesSeat n ∷ reverse ks) (reverse ms) ≡ all_back (lists_of p) (reverse ks) (reverse ms)
      close_undone = ap (λ (l : Lists). all_back l (reverse ks) (reverse ms)) (reopened (lists_of p) n made is_open may_close.owed)

      shut_there : kept_seat_at (slice_set (lists_of p).seats n shut) n ≡ shut
      shut_there = read_set (lists_of p).seats n shut no_kept_seat made

      pub close_after : draft_of q (ks ++ ClosesSeat n ∷ []) ms spoiled ≡ with_staging (opened (draft_of p ks ms spoiled) (with_closed_seat (lists_of p) n)) (without_staged n (staged_of p))
      close_after = stepped_after p q (ClosesSeat n) (with_closed_seat (lists_of p) n) (without_staged n (staged_of p)) ks ms keys spoiled is become close_undone refl

      pub close_keeps : length (lists_of p).payments + (lists_of p).owed ≤ most_made → IsDraft q (ks ++ ClosesSeat n ∷ []) ms keys spoiled
      close_keeps few = stepped_keeps p q (ClosesSeat n) (with_closed_seat (lists_of p) n) (without_staged n (staged_of p)) ks ms keys spoiled is become close_undone
          (λ R can. (
            record {
              made = omega (arith, made, length_set (lists_of p).seats n shut);
              exited = subst (λ (x : KeptSeat). IsSome x.last) (sym shut_there) refl;
              left = omega (arith, few, may_close.owed, ap (λ (x : KeptSeat). length x.slots) shut_there);
            },
            subst (λ (l : Lists). CanAllBack R l (reverse ks) (reverse ms)) (sym (reopened (lists_of p) n made is_open may_close.owed)) can,
          ))
          refl
          (sound_closed (lists_of p) (in_hand (reverse ms)) n made is_open is.valid.sound)
          (λ t. agrees_closed (lists_of p) (in_hand (reverse ms)) t n)

-- ---- a further slot, and a parcel in it

module _ (s : Lists) (n : ℕ) (k : List ℕ) (b : ℕ) (kind : Kind) (may : MayOpenSlot s n k) where
  abbrev with_it : KeptSeat
  with_it = with_slots (kept_seat_at s.seats n) ((kept_seat_at s.seats n).slots ++ keyed_share k (empty_amount b kind) ∷ [])

  it_there : kept_seat_at (with_new_slot s n k b kind).seats n ≡ with_it
  it_there = read_set s.seats n with_it no_kept_seat may.made

  share_there : amount_under k with_it.slots ≡ Some (empty_amount b kind)
  share_there = pushed_there k (kept_seat_at s.seats n).slots (empty_amount b kind) may.free

  slot_now : HasSlotOf (with_new_slot s n k b kind).seats n k
  slot_now = record { made = omega (arith, may.made, length_set s.seats n with_it); there = subst (λ (x : KeptSeat). HasShare k x.slots) (sym it_there) (ap is_some share_there) }

  empty_now : slot_of (with_new_slot s n k b kind) n k ≡ empty_amount b kind
  empty_now = ap (λ (x : KeptSeat). amount_at k x.slots) it_there ∙ ap (λ o. unwrap_or o no_amount) share_there

  was_nothing : (slot_of s n k).value.content ≡ nothing
  was_nothing = by (amount_under k (kept_seat_at s.seats n).slots) may.free
    where
      by : (o : Option Amount) → IsNone o → (unwrap_or o no_amount).value.content ≡ nothing
      by None none = refl
      by (Some x) none = absurd cc

  pub new_slot_can : (R : Rooms) (ks : List Undo) (ms : List Movement) → CanAllBack R s ks ms → CanAllBack R (with_new_slot s n k b kind) (OpensSlot n ∷ ks) ms
  new_slot_can R ks ms can = (
    record {
      made = slot_now.made;
      empty = subst (λ (x : KeptSeat). HasEmptyShare x.slots) (sym it_there) (record {
        some = omega (arith, length_push (kept_seat_at s.seats n).slots (keyed_share k (empty_amount b kind)));
        empty = ap (λ (r : Share). r.amount.value.content) (read_pushed (kept_seat_at s.seats n).slots (keyed_share k (empty_amount b kind)) empty_share _ (omega (arith, length_push (kept_seat_at s.seats n).slots (keyed_share k (empty_amount b kind)))));
      });
      owed = omega arith;
    },
    subst (λ (l : Lists). CanAllBack R l ks ms) (sym (unopened_slot s n may.made k b kind)) can,
  )

  pub can_give_new : (w : Amount) → w.brand ≡ b → w.value.kind ≡ kind → TakesIn s (Slot n k) w → CanGive (with_new_slot s n k b kind) (Slot n k) w.brand w.value
  can_give_new w brand same value = record {
    slot = slot_now;
    meet = record { brand = ap (λ (x : Amount). x.brand) empty_now ∙ sym brand; kind = ap (λ (x : Amount). x.value.kind) empty_now ∙ sym same };
    value = subst (λ x. IsValue x (sum (slot_of (with_new_slot s n k b kind) n k).value.content w.value.content)) (same ∙ ap (λ (x : Amount). x.value.kind) (sym empty_now))
        (subst (λ x. IsValue w.value.kind (sum x w.value.content)) (was_nothing ∙ ap (λ (x : Amount). x.value.content) (sym empty_now)) value);
  }

module _ (p q : Stores) (ks ls : List Undo) (ms ns : List Movement) (keys : ℕ) (spoiled : Bool) (n : ℕ) (k : List ℕ) (a : Amount) (m : Movement) (sound : spoiled ≡ false) (is : IsDraft p ks ms keys spoiled) (keep : HandKeeps (draft_of p ks ms spoiled) a) (may : MayOpenSlot (lists_of p) n k) (gave : IsGivenFurther p q n k a) (value : TakesIn (lists_of p) (Slot n k) a)
    (steps : ls ≡ (ks ++ OpensSlot n ∷ []) ++ Moves ∷ []) (moves : ns ≡ ms ++ m ∷ []) (noted : m ≡ movement a.brand Hand (Slot n k) a.value) where
  abbrev wider : Lists
  wider = with_new_slot (lists_of p) n k a.brand a.value.kind

  abbrev r : Stores
  r = gave.between

  slot_undone : all_back wider (OpensSlot n ∷ reverse ks) (reverse ms) ≡ all_back (lists_of p) (reverse ks) (reverse ms)
  slot_undone = ap (λ (l : Lists). all_back l (reverse ks) (reverse ms)) (unopened_slot (lists_of p) n may.made k a.brand a.value.kind)

  between_after : draft_of r (ks ++ OpensSlot n ∷ []) ms spoiled ≡ opened (draft_of p ks ms spoiled) wider
  between_after = stepped_after p r (OpensSlot n) wider (staged_of p) ks ms keys spoiled is gave.slotted slot_undone refl

  between_keeps : IsDraft r (ks ++ OpensSlot n ∷ []) ms keys spoiled
  between_keeps = stepped_keeps p r (OpensSlot n) wider (staged_of p) ks ms keys spoiled is gave.slotted slot_undone
      (λ R can. new_slot_can (lists_of p) n k a.brand a.value.kind may R (reverse ks) (reverse ms) can)
      refl
      (sound_new_slot (lists_of p) (in_hand (reverse ms)) n k a.brand a.value.kind may.made may.is_open is.valid.sound)
      (λ t. agrees_new_slot (lists_of p) n k a.brand a.value.kind (in_hand (reverse ms)) t may.made)

  keep_then : HandKeeps (draft_of r (ks ++ OpensSlot n ∷ []) ms spoiled) a
  keep_then = subst (λ (d : DraftState). HandKeeps d a) (sym between_after) (record { brand = record { made = keep.brand.made; kind = keep.brand.kind }; has = keep.has })

  can_then : CanGive (lists_of r) (Slot n k) a.brand a.value
  can_then = subst (λ (l : Lists). CanGive l (Slot n k) a.brand a.value) (sym gave.slotted.lists) (can_give_new (lists_of p) n k a.brand a.value.kind may a refl refl value)

  pub further_keeps : IsDraft q ls ns keys spoiled
  further_keeps = put_keeps_so r q (ks ++ OpensSlot n ∷ []) ls ms ns keys spoiled (Slot n k) a m sound between_keeps keep_then gave.gave steps moves noted can_then

  pub further_after : draft_of q ls ns spoiled ≡ after (opened (draft_of p ks ms spoiled) wider) (movement a.brand Hand (Slot n k) a.value)
  further_after = put_after_so r q (ks ++ OpensSlot n ∷ []) ls ms ns keys spoiled (Slot n k) a m sound between_keeps keep_then gave.gave steps moves noted can_then ∙ ap (λ (d : DraftState). after d (movement a.brand Hand (Slot n k) a.value)) between_after

-- ---- staging alone

pub staged_keeps : (p : Stores) (ks : List Undo) (ms : List Movement) (keys : ℕ) (spoiled : Bool) (staged : List (ℕ × List Share)) (l : SeatsView) → IsDraft p ks ms keys spoiled → l ≡ record p.seats { staging = staged } → IsDraft (record p { seats = l }) ks ms keys spoiled
staged_keeps p ks ms keys spoiled staged l is new = subst (λ (v : SeatsView). IsDraft (record p { seats = v }) ks ms keys spoiled) (sym new) (record {
  can = is.can;
  bounded = is.bounded;
  room = is.room;
  retired = is.retired;
  valid = record {
    sound = is.valid.sound;
    agrees = is.valid.agrees;
    moves = is.valid.moves;
    was_sound = is.valid.was_sound;
    brands = is.valid.brands;
    given = is.valid.given;
  };
})

pub same_keeps : (p : Stores) (ks : List Undo) (ms : List Movement) (keys : ℕ) (spoiled : Bool) (l : SeatsView) → IsDraft p ks ms keys spoiled → l ≡ p.seats → IsDraft (record p { seats = l }) ks ms keys spoiled
same_keeps p ks ms keys spoiled l is new = subst (λ (v : SeatsView). IsDraft (record p { seats = v }) ks ms keys spoiled) (sym new) is

-- of what succeeded or failed
pub on_either : {A E P Q R : Type 0} (r : Result A E) → (P → R) → (Q → R) → OnOk r P → OnErr r Q → R
on_either (Ok x) f g p q = f p
on_either (Err e) f g p q = g q
