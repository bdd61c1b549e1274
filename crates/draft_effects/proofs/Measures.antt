-- How many payments are made or owed, which only grows while movements are made.
use Rattle.std.specs.Prelude.{IsNone, cond, is_none, slice_set}
use Rattle.std.specs.Str.{bytes_eq}
use Rattle.std.proofs.Common.{ℕ, zero, suc, ◌+◌, ◌<◌, ◌≤◌, ◌==◌, Bool, true, false, List, [], ◌∷◌, ◌++◌, Option, length, ap, arith}
use Rattle.draft_reads.specs.amount_math.Amount.{holding}
use Rattle.draft_reads.specs.amount_math.Content.{nothing}
use Rattle.draft_reads.specs.amount_math.ValueView.{ValueView}
use Rattle.draft_reads.specs.amount_math.declared.Amount.{Amount}
use Rattle.draft_reads.proofs.lemmas.ListEdits.{length_push, length_set}
use Rattle.draft_reads.specs.holders.PaymentViews.{PaymentView, live_payment, payment_view_at}
use Rattle.draft_reads.specs.proposals.Shares.{amount_under, keyed_share}
use Rattle.draft_reads.specs.proposals.declared.allocations.Share.{Share}
use Rattle.draft_reads.specs.rights_model.declared.Holder.{Holder}
use Rattle.draft_reads.specs.rights_model.declared.Holder.TheVariants.{Purse, Payment, Slot, Hand, Outside}
use Rattle.draft_reads.specs.rights_model.declared.Movement.{Movement}
use Rattle.draft_reads.specs.vault_model.Lists.{amount_of, less, more}
use Rattle.draft_reads.proofs.world_laws.Views.{opened_last}
use Rattle.draft_reads.specs.world_state.Good.{open_slots, slots_in}
use Rattle.draft_reads.specs.world_state.Rights.{Rights, all_moved, changed_share, given, moved, paid, lessened_payment, paid_payment, shares_less, shares_more, shares_with, slots_at, taken}
use Rattle.draft_reads.specs.world_state.Worlds.{IsOpen, Seat, seat_at}

-- ---- slots

shares_long : (k : List ℕ) (f : Amount → Amount) (new : Amount) (shares : List Share) → length shares ≤ length (shares_with k f new shares)
shares_long k f new [] = omega arith
shares_long k f new (r ∷ rs) = by (bytes_eq k r.keyword) (shares_long k f new rs)
  where
    by : (t : Bool) → length rs ≤ length (shares_with k f new rs) → length (r ∷ rs) ≤ length (cond t (changed_share f r ∷ rs) (r ∷ shares_with k f new rs))
    by true later = omega arith
    by false later = omega (arith, later)

pub shares_longer : (k : List ℕ) (f : Amount → Amount) (new : Amount) (shares : List Share) → IsNone (amount_under k shares) → length shares < length (shares_with k f new shares)
shares_longer k f new shares none = omega (arith, ap length (opened_last k f new shares none), length_push shares (keyed_share k new))

slots_more : (s : Seat) (shares new : List Share) → length shares ≤ length new → slots_in s shares ≤ slots_in s new
slots_more s shares new le = by (is_none s.last)
  where
    by : (t : Bool) → cond t (length shares) 0 ≤ cond t (length new) 0
    by true = le
    by false = omega arith

open_grows : (seats : List Seat) (slots : List (List Share)) (n : ℕ) (new : List Share) → length (slots_at slots n) ≤ length new → open_slots seats slots ≤ open_slots seats (slice_set slots n new)
open_grows [] slots n new le = omega arith
open_grows (s ∷ ss) [] n new le = omega arith
open_grows (s ∷ ss) (shares ∷ rest) zero new le = omega (arith, slots_more s shares new le)
open_grows (s ∷ ss) (shares ∷ rest) (suc n) new le = omega (arith, open_grows ss rest n new le)

pub open_grows_more : (seats : List Seat) (slots : List (List Share)) (n : ℕ) (new : List Share) → n < length seats → n < length slots → IsOpen (seat_at seats n) → length (slots_at slots n) < length new → open_slots seats slots < open_slots seats (slice_set slots n new)
open_grows_more [] slots n new made there is lt = absurd (omega (arith, made))
open_grows_more (s ∷ ss) [] n new made there is lt = absurd (omega (arith, there))
open_grows_more (s ∷ ss) (shares ∷ rest) zero new made there is lt = omega (arith, lt, ap (λ (o : Option (List Share)). cond (is_none o) (length shares) 0) is, ap (λ (o : Option (List Share)). cond (is_none o) (length new) 0) is)
open_grows_more (s ∷ ss) (shares ∷ rest) (suc n) new made there is lt = omega (arith, open_grows_more ss rest n new (omega (arith, made)) (omega (arith, there)) is lt)

-- ---- what is made or owed

abbrev pub made_or_owed : List Seat → Rights → ℕ
made_or_owed seats r = length r.payments + open_slots seats r.slots

pub taken_grows : (seats : List Seat) (r : Rights) (h : Holder) (b : ℕ) (w : ValueView) → made_or_owed seats r ≤ made_or_owed seats (taken r h b w)
taken_grows seats r (Purse n) b w = omega arith
taken_grows seats r (Payment n) b w = omega (arith, length_set r.payments n (lessened_payment (payment_view_at r.payments n) w.content))
taken_grows seats r (Slot n k) b w = omega (arith, open_grows seats r.slots n (shares_less k (amount_of b w) (slots_at r.slots n)) (shares_long k (λ had. less had w.content) (holding (amount_of b w) nothing) (slots_at r.slots n)))
taken_grows seats r Hand b w = omega arith
taken_grows seats r Outside b w = omega arith

paid_long : (ps : List PaymentView) (n : ℕ) (a : Amount) → length ps ≤ length (paid ps n a)
paid_long ps n a = by (n == length ps)
  where
    by : (t : Bool) → length ps ≤ length (cond t (ps ++ live_payment a ∷ []) (slice_set ps n (paid_payment ps n a)))
    by true = omega (arith, length_push ps (live_payment a))
    by false = omega (arith, length_set ps n (paid_payment ps n a))

pub given_grows : (seats : List Seat) (r : Rights) (h : Holder) (b : ℕ) (w : ValueView) → made_or_owed seats r ≤ made_or_owed seats (given r h b w)
given_grows seats r (Purse n) b w = omega arith
given_grows seats r (Payment n) b w = omega (arith, paid_long r.payments n (amount_of b w))
given_grows seats r (Slot n k) b w = omega (arith, open_grows seats r.slots n (shares_more k (amount_of b w) (slots_at r.slots n)) (shares_long k (λ had. more had w.content) (amount_of b w) (slots_at r.slots n)))
given_grows seats r Hand b w = omega arith
given_grows seats r Outside b w = omega arith

pub all_grow : (seats : List Seat) (r : Rights) (ms : List Movement) → made_or_owed seats r ≤ made_or_owed seats (all_moved r ms)
all_grow seats r [] = omega arith
all_grow seats r (m ∷ ms) = omega (
  arith,
  taken_grows seats r m.from m.brand m.value,
  given_grows seats (taken r m.from m.brand m.value) m.to m.brand m.value,
  all_grow seats (moved r m) ms,
)
