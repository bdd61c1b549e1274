-- Halves of a movement of the lists, as the world's rights have them.
use Rattle.std.specs.Prelude.{IsNone, IsSome, cond, slice_set, unwrap_or}
use Rattle.std.specs.Str.{bytes_eq}
use Rattle.std.proofs.Common.{◌≡◌, ℕ, ◌+◌, ◌<◌, Bool, true, false, List, [], ◌∷◌, ◌++◌, Some, length, map, refl, sym, ◌∙◌, ap, arith}
use Rattle.world_state.specs.amount_math.Content.{nothing, sum-nothing}
use Rattle.world_state.specs.amount_math.Counted.{counted, counted-nothing}
use Rattle.world_state.proofs.vault_model.SlotShares.{pushed_there}
use Rattle.std.proofs.lemmas.Slice.Eq.{bytes_eq-Decides}
use Rattle.world_state.specs.amount_math.ValueView.{with_content}
use Rattle.world_state.specs.amount_math.declared.Amount.{Amount}
use Rattle.world_state.specs.amount_math.declared.Kind.{Kind}
use Rattle.world_state.specs.amount_math.declared.Kind.TheVariants.{Nat}
use Rattle.world_state.specs.ertp_mint.BrandSupply.{BrandSupply, issued, new_supply, supply_at}
use Rattle.world_state.specs.ertp_mint.Stocks.{empty_amount, no_amount}
use Rattle.world_state.proofs.lemmas.ListEdits.{length_map, read_default, map_push, map_set, read_map, read_set, set_same, set_set}
use Rattle.world_state.specs.proposals.Shares.{amount_under, keyed_share}
use Rattle.world_state.specs.proposals.declared.allocations.Share.{Share}
use Rattle.world_state.specs.proposals.declared.offers.Proposal.{Proposal}
use Rattle.world_state.specs.vault_model.Lists.{Lists, slot_of, with_closed_seat, with_new_seat, with_new_slot, with_slot_of}
use Rattle.world_state.specs.vault_model.Seats.{HasShare, KeptSeat, amount_at, kept_seat_at, new_kept_seat, no_kept_seat, with_amount, with_slots}
use Rattle.world_state.specs.rights_model.Table.{movement}
use Rattle.world_state.specs.rights_model.declared.Holder.TheVariants.{Outside, Payment}
use Rattle.world_laws.specs.Views.{by_hand, rights_of, seat_of, seats_of, slots_held}
use Rattle.world_state.specs.Rights.{Rights, changed_share, shares_less, shares_more, shares_with, slots_at}
use Rattle.world_state.specs.Rights as world
use Rattle.world_state.specs.Worlds.{empty_slots, left_seat, no_seat, seats_left, seat_at}

-- ---- shares

-- a share that is there is changed alike
pub changed_there : (k : List ℕ) (f : Amount → Amount) (new : Amount) (shares : List Share) → HasShare k shares → with_amount k (f (amount_at k shares)) shares ≡ shares_with k f new shares
changed_there k f new [] h = absurd cc
changed_there k f new (r ∷ rs) h = by (bytes_eq k r.keyword) (changed_there k f new rs) h
  where
    by : (t : Bool) → (HasShare k rs → with_amount k (f (amount_at k rs)) rs ≡ shares_with k f new rs) → IsSome (cond t (Some r.amount) (amount_under k rs)) → cond t (keyed_share r.keyword (f (unwrap_or (cond t (Some r.amount) (amount_under k rs)) no_amount)) ∷ rs) (r ∷ with_amount k (f (unwrap_or (cond t (Some r.amount) (amount_under k rs)) no_amount)) rs) ≡ cond t (changed_share f r ∷ rs) (r ∷ shares_with k f new rs)
    by true later here = refl
    by false later here = ap (λ l. r ∷ l) (later here)

-- a share that isn't there is opened last
pub opened_last : (k : List ℕ) (f : Amount → Amount) (new : Amount) (shares : List Share) → IsNone (amount_under k shares) → shares_with k f new shares ≡ shares ++ keyed_share k new ∷ []
opened_last k f new [] none = refl
opened_last k f new (r ∷ rs) none = by (bytes_eq k r.keyword) (opened_last k f new rs) none
  where
    by : (t : Bool) → (IsNone (amount_under k rs) → shares_with k f new rs ≡ rs ++ keyed_share k new ∷ []) → IsNone (cond t (Some r.amount) (amount_under k rs)) → cond t (changed_share f r ∷ rs) (r ∷ shares_with k f new rs) ≡ r ∷ (rs ++ keyed_share k new ∷ [])
    by true later here = absurd cc
    by false later here = ap (λ l. r ∷ l) (later here)

-- ---- the slots of seats

module _ (seats : List KeptSeat) (n : ℕ) where
  pub slots_read : slots_at (map slots_held seats) n ≡ (kept_seat_at seats n).slots
  slots_read = read_map slots_held seats n no_kept_seat

  pub slots_set : (x : KeptSeat) → map slots_held (slice_set seats n x) ≡ slice_set (map slots_held seats) n x.slots
  slots_set x = map_set slots_held seats n x

abbrev with_world_slots : Rights → List (List Share) → Rights
with_world_slots r l = record r { slots = l }

pub slot_changed : (s : Lists) (n : ℕ) (k : List ℕ) (f : Amount → Amount) (new : Amount) → HasShare k (kept_seat_at s.seats n).slots → rights_of (with_slot_of s n k (f (slot_of s n k))) ≡ record (rights_of s) { slots = slice_set (rights_of s).slots n (shares_with k f new (slots_at (rights_of s).slots n)) }
slot_changed s n k f new has = ap (with_world_slots (rights_of s)) (
    slots_set s.seats n (with_slots (kept_seat_at s.seats n) (with_amount k (f (slot_of s n k)) (kept_seat_at s.seats n).slots))
    ∙ ap (slice_set (map slots_held s.seats) n) (
    changed_there k f new (kept_seat_at s.seats n).slots has
    ∙ ap (shares_with k f new) (sym (slots_read s.seats n))
    )
    )

-- a slot that is opened and written
pub slot_opened : (s : Lists) (n : ℕ) (k : List ℕ) (f : Amount → Amount) (new : Amount) (b : ℕ) (kind : Kind) → n < length s.seats → IsNone (amount_under k (kept_seat_at s.seats n).slots) → f (empty_amount b kind) ≡ new → rights_of (with_slot_of (with_new_slot s n k b kind) n k (f (slot_of (with_new_slot s n k b kind) n k))) ≡ record (rights_of s) { slots = slice_set (rights_of s).slots n (shares_with k f new (slots_at (rights_of s).slots n)) }
slot_opened s n k f new b kind made none is = ap (with_world_slots (rights_of s)) (
    ap (λ (x : KeptSeat). map slots_held (slice_set (slice_set s.seats n opened) n (with_slots x (with_amount k (f (amount_at k x.slots)) x.slots)))) (read_set s.seats n opened no_kept_seat made)
    ∙ ap (map slots_held) (set_set s.seats n opened _)
    ∙ slots_set s.seats n (with_slots opened (with_amount k (f (amount_at k shares)) shares))
    ∙ ap (slice_set (map slots_held s.seats) n) (
    written (kept_seat_at s.seats n).slots none
    ∙ sym (opened_last k f new (kept_seat_at s.seats n).slots none)
    ∙ ap (shares_with k f new) (sym (slots_read s.seats n))
    )
    )
  where
    shares : List Share
    shares = (kept_seat_at s.seats n).slots ++ keyed_share k (empty_amount b kind) ∷ []

    opened : KeptSeat
    opened = with_slots (kept_seat_at s.seats n) shares

    written : (rs : List Share) → IsNone (amount_under k rs) → with_amount k (f (amount_at k (rs ++ keyed_share k (empty_amount b kind) ∷ []))) (rs ++ keyed_share k (empty_amount b kind) ∷ []) ≡ rs ++ keyed_share k new ∷ []
    written rs = λ free. last rs (f (amount_at k (rs ++ keyed_share k (empty_amount b kind) ∷ []))) free ∙ ap (λ a. rs ++ keyed_share k a ∷ []) (ap (λ o. f (unwrap_or o no_amount)) (pushed_there k rs (empty_amount b kind) free) ∙ is)
      where
        last : (rs : List Share) (a : Amount) → IsNone (amount_under k rs) → with_amount k a (rs ++ keyed_share k (empty_amount b kind) ∷ []) ≡ rs ++ keyed_share k a ∷ []
        last [] a free = ap (λ t. cond t (keyed_share k a ∷ []) (keyed_share k (empty_amount b kind) ∷ [])) ((bytes_eq-Decides k k).1 refl)
        last (r ∷ rs) a free = by (bytes_eq k r.keyword) (last rs a) free
          where
            by : (t : Bool) → (IsNone (amount_under k rs) → with_amount k a (rs ++ keyed_share k (empty_amount b kind) ∷ []) ≡ rs ++ keyed_share k a ∷ []) → IsNone (cond t (Some r.amount) (amount_under k rs)) → cond t (keyed_share r.keyword a ∷ (rs ++ keyed_share k (empty_amount b kind) ∷ [])) (r ∷ with_amount k a (rs ++ keyed_share k (empty_amount b kind) ∷ [])) ≡ r ∷ (rs ++ keyed_share k a ∷ [])
            by true later here = absurd cc
            by false later here = ap (λ l. r ∷ l) (later here)

-- ---- seats that are opened and closed

pub seat_opened : (s : Lists) (instance : ℕ) (p : Proposal) → rights_of (with_new_seat s instance p) ≡ world.with_slots (rights_of s) (empty_slots p)
seat_opened s instance p = ap (with_world_slots (rights_of s)) (map_push slots_held s.seats (new_kept_seat instance p))

pub slots_closed : (s : Lists) (n : ℕ) → rights_of (with_closed_seat s n) ≡ rights_of s
slots_closed s n = ap (with_world_slots (rights_of s)) (
    slots_set s.seats n (record (kept_seat_at s.seats n) { last = Some (kept_seat_at s.seats n).slots })
    ∙ ap (slice_set (map slots_held s.seats) n) (sym (slots_read s.seats n))
    ∙ set_same (map slots_held s.seats) n []
    )

pub seat_closed : (s : Lists) (n : ℕ) → n < length s.seats → seats_of (with_closed_seat s n) ≡ seats_left (seats_of s) n (slots_at (rights_of s).slots n)
seat_closed s n made =
    map_set seat_of s.seats n (record (kept_seat_at s.seats n) { last = Some (kept_seat_at s.seats n).slots })
    ∙ ap (slice_set (map seat_of s.seats) n) (
    ap (λ shares. left_seat (seat_of (kept_seat_at s.seats n)) shares) (sym (slots_read s.seats n))
    ∙ ap (λ seat. left_seat seat (slots_at (map slots_held s.seats) n)) (sym (seat_read s.seats n made))
    )
  where
    seat_read : (seats : List KeptSeat) (n : ℕ) → n < length seats → seat_at (map seat_of seats) n ≡ seat_of (kept_seat_at seats n)
    seat_read seats n lt = read_default (map seat_of seats) n no_seat (seat_of no_kept_seat) (omega (arith, lt, length_map seat_of seats)) ∙ read_map seat_of seats n no_kept_seat

-- ---- what is issued

pub issued_nothing : (out : List BrandSupply) (b : ℕ) → slice_set out b (issued (supply_at out b) nothing) ≡ out
issued_nothing out b = ap (slice_set out b) (same (supply_at out b)) ∙ set_same out b (new_supply Nat)
  where
    same : (x : BrandSupply) → issued x nothing ≡ x
    same x = λ i. record {
      outstanding = with_content x.outstanding (sum-nothing x.outstanding.content i);
      minted = none i;
      burned = x.burned;
    }
      where
        none : x.minted + counted nothing ≡ x.minted
        none = omega (arith, counted-nothing)

pub payment_issued : (s : Lists) (b : ℕ) (kind : Kind) → rights_of (by_hand s (movement b Outside (Payment (length s.payments)) (empty_amount b kind).value)) ≡ world.with_payment (rights_of s) (empty_amount b kind)
payment_issued s b kind = ap (λ l. record (world.with_payment (rights_of s) (empty_amount b kind)) { out = l }) (issued_nothing s.out b)
