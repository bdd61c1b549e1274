-- A seat that is closed and paid out, slot by slot.
use Rattle.std.specs.Prelude.{cond, is_some, slice_set, unwrap_or}
use Rattle.std.specs.List.{AllByRecursion}
use Rattle.std.specs.Str.{bytes_eq}
use Rattle.std.proofs.Common.{◌≡◌, ℕ, suc, ◌<◌, Bool, true, false, List, [], ◌∷◌, ◌++◌, None, Some, length, map, refl, sym, ◌∙◌, ap, arith}
use Rattle.std.proofs.lemmas.List.{append_assoc, append-nil}
use Rattle.std.proofs.lemmas.Slice.Eq.{bytes_eq-Decides}
use Rattle.world_state.specs.amount_math.Amount.{holding}
use Rattle.world_state.specs.amount_math.Content.{Content, count-difference, count-nothing, difference, nothing, same_content}
use Rattle.world_state.specs.amount_math.declared.Amount.{Amount}
use Rattle.world_state.specs.ertp_mint.Stocks.{no_amount}
use Rattle.world_state.proofs.lemmas.ListEdits.{length_set, read_set, set_same, set_set}
use Rattle.world_state.specs.holders.PaymentViews.{PaymentView, live_payment}
use Rattle.world_state.specs.proposals.Shares.{AreApart, amount_under, keyed_share}
use Rattle.world_state.specs.proposals.Slots.{emptied}
use Rattle.world_state.specs.proposals.declared.allocations.Share.{Share}
use Rattle.world_state.specs.rights_model.declared.Holder.TheVariants.{Payment, Slot}
use Rattle.world_state.specs.vault_model.Lists.{Lists, amount_of, less, taken, with_closed_seat, with_new_slot}
use Rattle.world_state.specs.vault_model.Seats.{KeptSeat, amount_at, kept_seat_at, no_kept_seat, with_amount, with_slots}
use Rattle.world_laws.specs.Views.{all_by_hand, put_to, rights_of, slots_held}
use Rattle.world_laws.proofs.Views.{slots_closed, slots_read, slots_set}
use Rattle.world_state.specs.Rights.{Rights, slots_at}
use Rattle.world_state.specs.Worlds.{paid_out, payout_moves, rights_left}

-- ---- keywords that stand in no share

other_way : (k q : List ℕ) → bytes_eq k q ≡ false → bytes_eq q k ≡ false
other_way k q e = by (bytes_eq q k) refl
  where
    by : (b : Bool) → bytes_eq q k ≡ b → b ≡ false
    by false is = refl
    by true is = let clash : true ≡ false = sym ((bytes_eq-Decides k q).1 (sym ((bytes_eq-Decides q k).0 is))) ∙ e in clash

-- the share's keyword isn't one of these
abbrev pub IsFree : List Share → Share → Type 0
IsFree done q = amount_under q.keyword done ≡ None

abbrev pub AreFree : List Share → List Share → Type 0
AreFree done rest = AllByRecursion (IsFree done) rest

free_both : (k : List ℕ) (done : List Share) (r : Share) → amount_under k done ≡ None → bytes_eq k r.keyword ≡ false → amount_under k (done ++ emptied r ∷ []) ≡ None
free_both k [] r none e = ap (λ b. cond b (Some (emptied r).amount) None) e
free_both k (x ∷ xs) r none e = by (bytes_eq k x.keyword) (free_both k xs r) none
  where
    by : (b : Bool) → (amount_under k xs ≡ None → bytes_eq k r.keyword ≡ false → amount_under k (xs ++ emptied r ∷ []) ≡ None) → cond b (Some x.amount) (amount_under k xs) ≡ None → cond b (Some x.amount) (amount_under k (xs ++ emptied r ∷ [])) ≡ None
    by true later here = here
    by false later here = later here e

pub free_more : (done : List Share) (r : Share) (rs : List Share) → amount_under r.keyword rs ≡ None → AreFree done rs → AreFree (done ++ emptied r ∷ []) rs
free_more done r [] none all = tt
free_more done r (q ∷ qs) none all = by (bytes_eq r.keyword q.keyword) refl none (λ here. free_more done r qs here all.1)
  where
    by : (b : Bool) → bytes_eq r.keyword q.keyword ≡ b → cond b (Some q.amount) (amount_under r.keyword qs) ≡ None → (amount_under r.keyword qs ≡ None → AreFree (done ++ emptied r ∷ []) qs) → AreFree (done ++ emptied r ∷ []) (q ∷ qs)
    by true is here later = absurd cc
    by false is here later = (free_both q.keyword done r all.0 (other_way r.keyword q.keyword is), later here)

pub free_of_none : (rs : List Share) → AreFree [] rs
free_of_none [] = tt
free_of_none (r ∷ rs) = (refl, free_of_none rs)

-- ---- a share among shares is emptied

nothing_left : (c : Content) → difference c c ≡ nothing
nothing_left c = same_content (difference c c) nothing (λ k. omega (arith, count-difference c c k, count-nothing k))

less_all : (a : Amount) → less a a.value.content ≡ holding a nothing
less_all a = ap (holding a) (nothing_left a.value.content)

read_among : (done : List Share) (r : Share) (rs : List Share) → IsFree done r → amount_at r.keyword (done ++ r ∷ rs) ≡ r.amount
read_among [] r rs free = ap (λ b. unwrap_or (cond b (Some r.amount) (amount_under r.keyword rs)) no_amount) ((bytes_eq-Decides r.keyword r.keyword).1 refl)
read_among (x ∷ xs) r rs free = by (bytes_eq r.keyword x.keyword) free (read_among xs r rs)
  where
    by : (b : Bool) → cond b (Some x.amount) (amount_under r.keyword xs) ≡ None → (amount_under r.keyword xs ≡ None → amount_at r.keyword (xs ++ r ∷ rs) ≡ r.amount) → unwrap_or (cond b (Some x.amount) (amount_under r.keyword (xs ++ r ∷ rs))) no_amount ≡ r.amount
    by true here later = absurd cc
    by false here later = later here

pub found_among : (done : List Share) (r : Share) (rs : List Share) → IsFree done r → amount_under r.keyword (done ++ r ∷ rs) ≡ Some r.amount
found_among [] r rs free = ap (λ b. cond b (Some r.amount) (amount_under r.keyword rs)) ((bytes_eq-Decides r.keyword r.keyword).1 refl)
found_among (x ∷ xs) r rs free = by (bytes_eq r.keyword x.keyword) free (found_among xs r rs)
  where
    by : (b : Bool) → cond b (Some x.amount) (amount_under r.keyword xs) ≡ None → (amount_under r.keyword xs ≡ None → amount_under r.keyword (xs ++ r ∷ rs) ≡ Some r.amount) → cond b (Some x.amount) (amount_under r.keyword (xs ++ r ∷ rs)) ≡ Some r.amount
    by true here later = absurd cc
    by false here later = later here

written_among : (done : List Share) (r : Share) (rs : List Share) (a : Amount) → IsFree done r → with_amount r.keyword a (done ++ r ∷ rs) ≡ done ++ keyed_share r.keyword a ∷ rs
written_among [] r rs a free = ap (λ b. cond b (keyed_share r.keyword a ∷ rs) (r ∷ with_amount r.keyword a rs)) ((bytes_eq-Decides r.keyword r.keyword).1 refl)
written_among (x ∷ xs) r rs a free = by (bytes_eq r.keyword x.keyword) free (written_among xs r rs a)
  where
    by : (b : Bool) → cond b (Some x.amount) (amount_under r.keyword xs) ≡ None → (amount_under r.keyword xs ≡ None → with_amount r.keyword a (xs ++ r ∷ rs) ≡ xs ++ keyed_share r.keyword a ∷ rs) → cond b (keyed_share x.keyword a ∷ (xs ++ r ∷ rs)) (x ∷ with_amount r.keyword a (xs ++ r ∷ rs)) ≡ x ∷ (xs ++ keyed_share r.keyword a ∷ rs)
    by true here later = absurd cc
    by false here later = ap (λ l. x ∷ l) (later here)

pub emptied_among : (done : List Share) (r : Share) (rs : List Share) → IsFree done r → with_amount r.keyword (less (amount_at r.keyword (done ++ r ∷ rs)) r.amount.value.content) (done ++ r ∷ rs) ≡ (done ++ emptied r ∷ []) ++ rs
emptied_among done r rs free =
    ap (λ a. with_amount r.keyword (less a r.amount.value.content) (done ++ r ∷ rs)) (read_among done r rs free)
    ∙ ap (λ a. with_amount r.keyword a (done ++ r ∷ rs)) (less_all r.amount)
    ∙ written_among done r rs (holding r.amount nothing) free
    ∙ sym (append_assoc done (emptied r ∷ []) rs)

-- ---- slots are paid out, one after another

abbrev paid_to : Rights → ℕ → List PaymentView → List Share → Rights
paid_to r n views shares = record r { payments = views; slots = slice_set r.slots n shares }

paid_shares : (s : Lists) (n p : ℕ) (done rest : List Share) → n < length s.seats → (kept_seat_at s.seats n).slots ≡ done ++ rest → AreFree done rest → AreApart rest → rights_of (all_by_hand s (payout_moves n p rest)) ≡ paid_to (rights_of s) n (s.payments ++ map paid_out rest) (done ++ map emptied rest)
paid_shares s n p done [] made shares free apart = λ i. record {
  purses = s.purses;
  payments = sym (append-nil s.payments) i;
  slots = same i;
  out = s.out;
}
  where
    same : map slots_held s.seats ≡ slice_set (map slots_held s.seats) n (done ++ [])
    same = sym (set_same (map slots_held s.seats) n []) ∙ ap (slice_set (map slots_held s.seats) n) (slots_read s.seats n ∙ shares)
paid_shares s n p done (r ∷ rs) made shares free apart =
    ap (λ t. rights_of (all_by_hand (from_slot (cond t s wide)) (payout_moves n (suc p) rs))) there
    ∙ paid_shares next n (suc p) (done ++ emptied r ∷ []) rs
    (omega (arith, made, length_set s.seats n now))
    (ap slots_held (read_set s.seats n now no_kept_seat made) ∙ now_is)
    (free_more done r rs apart.0 free.1)
    apart.1
    ∙ (λ i. record {
      purses = s.purses;
      payments = append_assoc s.payments (live_payment r.amount ∷ []) (map paid_out rs) i;
      slots = slots i;
      out = s.out;
    })
  where
    wide : Lists
    wide = with_new_slot s n r.keyword r.amount.brand r.amount.value.kind

    from_slot : Lists → Lists
    from_slot x = put_to (taken x (Slot n r.keyword) r.amount.brand r.amount.value) (Payment p) (amount_of r.amount.brand r.amount.value)

    next : Lists
    next = from_slot s

    there : is_some (amount_under r.keyword (kept_seat_at s.seats n).slots) ≡ true
    there = ap (λ l. is_some (amount_under r.keyword l)) shares ∙ ap is_some (found_among done r rs free.0)

    now : KeptSeat
    now = with_slots (kept_seat_at s.seats n) (with_amount r.keyword (less (amount_at r.keyword (kept_seat_at s.seats n).slots) r.amount.value.content) (kept_seat_at s.seats n).slots)

    now_is : now.slots ≡ (done ++ emptied r ∷ []) ++ rs
    now_is = ap (λ l. with_amount r.keyword (less (amount_at r.keyword l) r.amount.value.content) l) shares ∙ emptied_among done r rs free.0

    slots : slice_set (map slots_held (slice_set s.seats n now)) n ((done ++ emptied r ∷ []) ++ map emptied rs) ≡ slice_set (map slots_held s.seats) n (done ++ emptied r ∷ map emptied rs)
    slots =
        ap (λ l. slice_set l n ((done ++ emptied r ∷ []) ++ map emptied rs)) (slots_set s.seats n now)
        ∙ set_set (map slots_held s.seats) n now.slots ((done ++ emptied r ∷ []) ++ map emptied rs)
        ∙ ap (slice_set (map slots_held s.seats) n) (append_assoc done (emptied r ∷ []) (map emptied rs))

pub left_paid : (s : Lists) (n : ℕ) → n < length s.seats → AreApart (slots_at (rights_of s).slots n) → rights_of (all_by_hand (with_closed_seat s n) (payout_moves n (length s.payments) (slots_at (rights_of s).slots n))) ≡ rights_left (rights_of s) n
left_paid s n made apart =
    paid_shares (with_closed_seat s n) n (length s.payments) [] shares
    (omega (arith, made, length_set s.seats n closed))
    (ap slots_held (read_set s.seats n closed no_kept_seat made) ∙ sym (slots_read s.seats n))
    (free_of_none shares)
    apart
    ∙ ap (λ x. paid_to x n (s.payments ++ map paid_out shares) (map emptied shares)) (slots_closed s n)
  where
    shares : List Share
    shares = slots_at (rights_of s).slots n

    closed : KeptSeat
    closed = record (kept_seat_at s.seats n) { last = Some (kept_seat_at s.seats n).slots }
