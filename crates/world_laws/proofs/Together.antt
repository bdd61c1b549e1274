-- Movements by way of the hand, one after another, make what they make together.
use Rattle.std.specs.Prelude.{cond, is_some, slice_set}
use Rattle.std.proofs.Common.{◌≡◌, ◌≢◌, ℕ, zero, suc, ◌<◌, ◌==◌, Bool, true, false, List, [], ◌∷◌, ◌++◌, None, Some, length, refl, sym, ◌∙◌, ap, arith}
use Rattle.std.proofs.lemmas.Bool.{eq-eqb}
use Rattle.world_state.specs.amount_math.Amount.{holding}
use Rattle.world_state.specs.amount_math.Content.{nothing, nothing-difference, nothing-sum}
use Rattle.world_state.specs.amount_math.ValueView.{ValueView, with_content}
use Rattle.world_state.specs.amount_math.declared.Amount.{Amount}
use Rattle.world_state.specs.ertp_mint.Stocks.{empty_amount}
use Rattle.world_state.proofs.lemmas.ListEdits.{length_push, length_set, read_before, read_other, read_set, set_set}
use Rattle.world_state.specs.holders.PaymentViews.{PaymentView, live_payment, payment_view_at, spent_payment}
use Rattle.world_state.specs.proposals.Shares.{amount_under, keyed_share}
use Rattle.world_state.specs.rights_model.declared.Holder.{Holder}
use Rattle.world_state.specs.rights_model.declared.Holder.TheVariants.{Purse, Payment, Slot, Hand, Outside}
use Rattle.world_state.specs.rights_model.declared.Movement.{Movement}
use Rattle.world_state.specs.vault_model.Lists.{CanTake, Lists, amount_of, less, more, slot_of}
use Rattle.world_state.specs.vault_model.Lists as lists
use Rattle.world_state.specs.vault_model.Seats.{kept_seat_at, with_slots}
use Rattle.world_laws.specs.Views.{CanAllByHand, CanByHand, MayPut, all_by_hand, by_hand, put_to, rights_of, source_of, taken_by_hand, with_slot_for}
use Rattle.world_laws.proofs.Views.{slot_changed, slot_opened}
use Rattle.world_state.specs.Rights.{Rights, all_moved, all_spent, given, moved, moved_together, paid, lessened_payment, raised_payment, paid_payment, spent_from, taken}

-- ---- lists of which two elements are written

set_apart : {X : Type 0} (xs : List X) (n k : ℕ) (x y : X) → n ≢ k → slice_set (slice_set xs n x) k y ≡ slice_set (slice_set xs k y) n x
set_apart [] n k x y apart = refl
set_apart (z ∷ zs) zero zero x y apart = absurd (apart refl)
set_apart (z ∷ zs) zero (suc k) x y apart = refl
set_apart (z ∷ zs) (suc n) zero x y apart = refl
set_apart (z ∷ zs) (suc n) (suc k) x y apart = ap (λ l. z ∷ l) (set_apart zs n k x y (λ e. apart (ap suc e)))

pub set_before : {X : Type 0} (xs : List X) (y x : X) (n : ℕ) → n < length xs → slice_set (xs ++ y ∷ []) n x ≡ slice_set xs n x ++ y ∷ []
set_before [] y x n lt = absurd (omega (arith, lt))
set_before (z ∷ zs) y x zero lt = refl
set_before (z ∷ zs) y x (suc n) lt = ap (λ l. z ∷ l) (set_before zs y x n (omega (arith, lt)))

-- ---- payments of which one is spent

-- it isn't that payment
abbrev pub Apart : ℕ → Holder → Type 0
Apart n (Payment k) = k ≢ n
Apart n (Purse k) = Unit {0}
Apart n (Slot k keyword) = Unit {0}
Apart n Hand = Unit {0}
Apart n Outside = Unit {0}

abbrev AllApart : ℕ → List Movement → Type 0
AllApart n [] = Unit {0}
AllApart n (m ∷ ms) = (Apart n m.from × Apart n m.to) × AllApart n ms

abbrev pub spent_at : List PaymentView → ℕ → List PaymentView
spent_at ps n = slice_set ps n (spent_payment (payment_view_at ps n).brand)

abbrev pub with_payment_views : Rights → List PaymentView → Rights
with_payment_views r l = record r { payments = l }

abbrev pub marked : Holder → Rights → Rights
marked h r = with_payment_views r (spent_from h r.payments)

written_apart : (ps : List PaymentView) (n k : ℕ) (f : PaymentView → PaymentView) → k ≢ n → slice_set (spent_at ps n) k (f (payment_view_at (spent_at ps n) k)) ≡ spent_at (slice_set ps k (f (payment_view_at ps k))) n
written_apart ps n k f apart =
    ap (λ p. slice_set (spent_at ps n) k (f p)) (read_other ps n k (spent_payment (payment_view_at ps n).brand) (spent_payment 0) (λ e. apart (sym e)))
    ∙ set_apart ps n k (spent_payment (payment_view_at ps n).brand) (f (payment_view_at ps k)) (λ e. apart (sym e))
    ∙ ap (λ (p : PaymentView). slice_set (slice_set ps k (f (payment_view_at ps k))) n (spent_payment p.brand)) (sym (read_other ps k n (f (payment_view_at ps k)) (spent_payment 0) apart))

pub pushed_apart : (ps : List PaymentView) (n : ℕ) (p : PaymentView) → n < length ps → spent_at ps n ++ p ∷ [] ≡ spent_at (ps ++ p ∷ []) n
pushed_apart ps n p lt =
    sym (set_before ps p (spent_payment (payment_view_at ps n).brand) n lt)
    ∙ ap (λ (x : PaymentView). slice_set (ps ++ p ∷ []) n (spent_payment x.brand)) (sym (read_before ps p (spent_payment 0) n (λ (e : length ps ≡ n). absurd (omega (arith, lt, e)))))

paid_apart : (ps : List PaymentView) (n k : ℕ) (a : Amount) → n < length ps → k ≢ n → paid (spent_at ps n) k a ≡ spent_at (paid ps k a) n
paid_apart ps n k a lt apart =
    ap (λ l. cond (k == l) (spent_at ps n ++ live_payment a ∷ []) (slice_set (spent_at ps n) k (paid_payment (spent_at ps n) k a))) (length_set ps n (spent_payment (payment_view_at ps n).brand))
    ∙ by (k == length ps)
  where
    by : (t : Bool) → cond t (spent_at ps n ++ live_payment a ∷ []) (slice_set (spent_at ps n) k (paid_payment (spent_at ps n) k a)) ≡ spent_at (cond t (ps ++ live_payment a ∷ []) (slice_set ps k (paid_payment ps k a))) n
    by true = pushed_apart ps n (live_payment a) lt
    by false = written_apart ps n k (λ p. raised_payment p a.value.content) apart

-- ---- what a movement makes of the other rights it makes of them where a payment is spent

pub taken_marked : (n : ℕ) (r : Rights) (h : Holder) (b : ℕ) (w : ValueView) → Apart n h → taken (marked (Payment n) r) h b w ≡ marked (Payment n) (taken r h b w)
taken_marked n r (Purse k) b w apart = refl
taken_marked n r (Payment k) b w apart = ap (with_payment_views r) (written_apart r.payments n k (λ p. lessened_payment p w.content) apart)
taken_marked n r (Slot k keyword) b w apart = refl
taken_marked n r Hand b w apart = refl
taken_marked n r Outside b w apart = refl

given_marked : (n : ℕ) (r : Rights) (h : Holder) (b : ℕ) (w : ValueView) → n < length r.payments → Apart n h → given (marked (Payment n) r) h b w ≡ marked (Payment n) (given r h b w)
given_marked n r (Purse k) b w lt apart = refl
given_marked n r (Payment k) b w lt apart = ap (with_payment_views r) (paid_apart r.payments n k (amount_of b w) lt apart)
given_marked n r (Slot k keyword) b w lt apart = refl
given_marked n r Hand b w lt apart = refl
given_marked n r Outside b w lt apart = refl

pub taken_made : (n : ℕ) (r : Rights) (h : Holder) (b : ℕ) (w : ValueView) → n < length r.payments → n < length (taken r h b w).payments
taken_made n r (Purse k) b w lt = lt
taken_made n r (Payment k) b w lt = omega (arith, lt, length_set r.payments k (lessened_payment (payment_view_at r.payments k) w.content))
taken_made n r (Slot k keyword) b w lt = lt
taken_made n r Hand b w lt = lt
taken_made n r Outside b w lt = lt

given_made : (n : ℕ) (r : Rights) (h : Holder) (b : ℕ) (w : ValueView) → n < length r.payments → n < length (given r h b w).payments
given_made n r (Purse k) b w lt = lt
given_made n r (Payment k) b w lt = by (k == length r.payments)
  where
    by : (t : Bool) → n < length (cond t (r.payments ++ live_payment (amount_of b w) ∷ []) (slice_set r.payments k (paid_payment r.payments k (amount_of b w))))
    by true = omega (arith, lt, length_push r.payments (live_payment (amount_of b w)))
    by false = omega (arith, lt, length_set r.payments k (paid_payment r.payments k (amount_of b w)))
given_made n r (Slot k keyword) b w lt = lt
given_made n r Hand b w lt = lt
given_made n r Outside b w lt = lt

moved_made : (n : ℕ) (r : Rights) (m : Movement) → n < length r.payments → n < length (moved r m).payments
moved_made n r m lt = given_made n (taken r m.from m.brand m.value) m.to m.brand m.value (taken_made n r m.from m.brand m.value lt)

moved_marked : (n : ℕ) (r : Rights) (m : Movement) → n < length r.payments → Apart n m.from → Apart n m.to → moved (marked (Payment n) r) m ≡ marked (Payment n) (moved r m)
moved_marked n r m lt from to =
    ap (λ x. given x m.to m.brand m.value) (taken_marked n r m.from m.brand m.value from)
    ∙ given_marked n (taken r m.from m.brand m.value) m.to m.brand m.value (taken_made n r m.from m.brand m.value lt) to

all_marked : (n : ℕ) (r : Rights) (ms : List Movement) → n < length r.payments → AllApart n ms → all_moved (marked (Payment n) r) ms ≡ marked (Payment n) (all_moved r ms)
all_marked n r [] lt apart = refl
all_marked n r (m ∷ ms) lt apart =
    ap (λ x. all_moved x ms) (moved_marked n r m lt apart.0.0 apart.0.1)
    ∙ all_marked n (moved r m) ms (moved_made n r m lt) apart.1

-- ---- the halves of a movement, as the lists have them

pub taken_views : (s : Lists) (h : Holder) (b : ℕ) (w : ValueView) → CanTake s h b w → rights_of (lists.taken s h b w) ≡ marked h (taken (rights_of s) h b w)
taken_views s (Purse n) b w can = refl
taken_views s (Payment n) b w can = ap (with_payment_views (rights_of s)) (sym (
    ap (λ (p : PaymentView). slice_set (slice_set s.payments n less_now) n (spent_payment p.brand)) (read_set s.payments n less_now (spent_payment 0) can.made)
    ∙ set_set s.payments n less_now (spent_payment (payment_view_at s.payments n).brand)
    ∙ ap (λ (p : PaymentView). slice_set s.payments n (spent_payment p.brand)) can.is
    ))
  where
    less_now : PaymentView
    less_now = lessened_payment (payment_view_at s.payments n) w.content
taken_views s (Slot n keyword) b w can = slot_changed s n keyword (λ had. less had w.content) (holding (amount_of b w) nothing) can.slot.there
taken_views s Hand b w can = absurd can
taken_views s Outside b w can = refl

pub given_views : (s : Lists) (h : Holder) (b : ℕ) (w : ValueView) → MayPut s h → rights_of (put_to s h (amount_of b w)) ≡ given (rights_of s) h b w
given_views s (Purse n) b w may = refl
given_views s (Payment n) b w may = ap (λ t. with_payment_views (rights_of s) (cond t (s.payments ++ live_payment (amount_of b w) ∷ []) (slice_set s.payments n (paid_payment s.payments n (amount_of b w))))) (sym (eq-eqb n (length s.payments) may))
given_views s (Slot n keyword) b w may = by (is_some (amount_under keyword (kept_seat_at s.seats n).slots)) refl
  where
    add : Amount → Amount
    add had = more had w.content

    first : add (empty_amount b w.kind) ≡ amount_of b w
    first = λ i. record { brand = b; value = with_content w (nothing-sum w.content i) }

    by : (t : Bool) → is_some (amount_under keyword (kept_seat_at s.seats n).slots) ≡ t → rights_of (lists.given (cond t s (lists.with_new_slot s n keyword b w.kind)) (Slot n keyword) b w) ≡ given (rights_of s) (Slot n keyword) b w
    by true is = slot_changed s n keyword add (amount_of b w) is
    by false is = slot_opened s n keyword add (amount_of b w) b w.kind may is first
given_views s Hand b w may = absurd may
given_views s Outside b w may = refl

-- ---- what is spent stays so, and is left alone

abbrev pub IsSpent : Lists → ℕ → Type 0
IsSpent s n = (n < length s.payments) × ((payment_view_at s.payments n).held ≡ None)

live_apart : (ps : List PaymentView) (n k : ℕ) (a : Amount) → (payment_view_at ps n).held ≡ None → payment_view_at ps k ≡ live_payment a → k ≢ n
live_apart ps n k a none live = λ e. (let clash : None ≡ Some a.value = sym none ∙ ap (λ q. (payment_view_at ps q).held) (sym e) ∙ ap (λ (p : PaymentView). p.held) live in absurd cc)

pub take_apart : (s : Lists) (n : ℕ) (h : Holder) (b : ℕ) (w : ValueView) → IsSpent s n → CanTake s h b w → Apart n h
take_apart s n (Purse k) b w spent can = tt
take_apart s n (Payment k) b w spent can = live_apart s.payments n k (amount_of b w) spent.1 can.is
take_apart s n (Slot k keyword) b w spent can = tt
take_apart s n Hand b w spent can = tt
take_apart s n Outside b w spent can = tt

put_apart : (s : Lists) (n : ℕ) (h : Holder) → n < length s.payments → MayPut s h → Apart n h
put_apart s n (Purse k) lt may = tt
put_apart s n (Payment k) lt may = λ e. absurd (omega (arith, lt, may, e))
put_apart s n (Slot k keyword) lt may = tt
put_apart s n Hand lt may = tt
put_apart s n Outside lt may = tt

pub take_spends : (s : Lists) (n : ℕ) (h : Holder) (b : ℕ) (w : ValueView) → IsSpent s n → CanTake s h b w → IsSpent (lists.taken s h b w) n
take_spends s n (Purse k) b w spent can = spent
take_spends s n (Payment k) b w spent can = (
  omega (arith, spent.0, length_set s.payments k (spent_payment b)),
  ap (λ (p : PaymentView). p.held) (read_other s.payments k n (spent_payment b) (spent_payment 0) (live_apart s.payments n k (amount_of b w) spent.1 can.is)) ∙ spent.1,
)
take_spends s n (Slot k keyword) b w spent can = spent
take_spends s n Hand b w spent can = spent
take_spends s n Outside b w spent can = spent

put_spends : (s : Lists) (n : ℕ) (h : Holder) (b : ℕ) (w : ValueView) → IsSpent s n → IsSpent (put_to s h (amount_of b w)) n
put_spends s n (Purse k) b w spent = spent
put_spends s n (Payment k) b w spent = (
  omega (arith, spent.0, length_push s.payments (live_payment (amount_of b w))),
  ap (λ (p : PaymentView). p.held) (read_before s.payments (live_payment (amount_of b w)) (spent_payment 0) n (λ (e : length s.payments ≡ n). absurd (omega (arith, spent.0, e)))) ∙ spent.1,
)
put_spends s n (Slot k keyword) b w spent = by (is_some (amount_under keyword (kept_seat_at s.seats k).slots))
  where
    by : (t : Bool) → IsSpent (lists.given (cond t s (lists.with_new_slot s k keyword b w.kind)) (Slot k keyword) b w) n
    by true = spent
    by false = spent
put_spends s n Hand b w spent = spent
put_spends s n Outside b w spent = spent

-- so it does where a slot is opened
source_spends : (s : Lists) (n : ℕ) (h : Holder) (a : Amount) → IsSpent s n → IsSpent (with_slot_for s h a) n
source_spends s n (Purse k) a spent = spent
source_spends s n (Payment k) a spent = spent
source_spends s n (Slot k keyword) a spent = by (is_some (amount_under keyword (kept_seat_at s.seats k).slots))
  where
    by : (t : Bool) → IsSpent (cond t s (lists.with_new_slot s k keyword a.brand a.value.kind)) n
    by true = spent
    by false = spent
source_spends s n Hand a spent = spent
source_spends s n Outside a spent = spent

left_alone : (s : Lists) (n : ℕ) (ms : List Movement) → IsSpent s n → CanAllByHand s ms → AllApart n ms
left_alone s n [] spent can = tt
left_alone s n (m ∷ ms) spent can =
    let from = source_spends s n m.from (amount_of m.brand m.value) spent in
    let t = take_spends (source_of s m) n m.from m.brand m.value from can.0.take in (
      (take_apart (source_of s m) n m.from m.brand m.value from can.0.take, put_apart (taken_by_hand s m) n m.to t.0 can.0.put),
      left_alone (by_hand s m) n ms (put_spends (taken_by_hand s m) n m.to m.brand m.value t) can.1,
    )

-- what was taken from is spent
pub spent_now : (s : Lists) (n b : ℕ) (w : ValueView) → CanTake s (Payment n) b w → IsSpent (lists.taken s (Payment n) b w) n
spent_now s n b w can = (
  omega (arith, can.made, length_set s.payments n (spent_payment b)),
  ap (λ (p : PaymentView). p.held) (read_set s.payments n (spent_payment b) (spent_payment 0) can.made),
)

-- ---- a movement, and movements

-- what is taken of a slot that wasn't there is taken of one that was opened with nothing
pub source_views : (s : Lists) (h : Holder) (b : ℕ) (w : ValueView) → CanTake (with_slot_for s h (amount_of b w)) h b w → rights_of (lists.taken (with_slot_for s h (amount_of b w)) h b w) ≡ marked h (taken (rights_of s) h b w)
source_views s (Purse n) b w can = taken_views s (Purse n) b w can
source_views s (Payment n) b w can = taken_views s (Payment n) b w can
source_views s (Slot n keyword) b w can = by (is_some (amount_under keyword (kept_seat_at s.seats n).slots)) refl can
  where
    first : less (empty_amount b w.kind) w.content ≡ holding (amount_of b w) nothing
    first = ap (λ c. holding (amount_of b w) c) (nothing-difference w.content)

    by : (t : Bool) → is_some (amount_under keyword (kept_seat_at s.seats n).slots) ≡ t → CanTake (cond t s (lists.with_new_slot s n keyword b w.kind)) (Slot n keyword) b w → rights_of (lists.taken (cond t s (lists.with_new_slot s n keyword b w.kind)) (Slot n keyword) b w) ≡ taken (rights_of s) (Slot n keyword) b w
    by true is may = taken_views s (Slot n keyword) b w may
    by false is may = slot_opened s n keyword (λ had. less had w.content) (holding (amount_of b w) nothing) b w.kind (omega (arith, may.slot.made, length_set s.seats n (with_slots (kept_seat_at s.seats n) ((kept_seat_at s.seats n).slots ++ keyed_share keyword (empty_amount b w.kind) ∷ [])))) is first
source_views s Hand b w can = absurd can
source_views s Outside b w can = taken_views s Outside b w can

put_marked : (s : Lists) (from to : Holder) (b : ℕ) (w : ValueView) → CanTake (with_slot_for s from (amount_of b w)) from b w → MayPut (lists.taken (with_slot_for s from (amount_of b w)) from b w) to → given (marked from (taken (rights_of s) from b w)) to b w ≡ marked from (given (taken (rights_of s) from b w) to b w)
put_marked s (Purse n) to b w can may = refl
put_marked s (Payment n) to b w can may =
    given_marked n (taken (rights_of s) (Payment n) b w) to b w
    (taken_made n (rights_of s) (Payment n) b w can.made)
    (put_apart (lists.taken s (Payment n) b w) n to (spent_now s n b w can).0 may)
put_marked s (Slot n keyword) to b w can may = refl
put_marked s Hand to b w can may = absurd can
put_marked s Outside to b w can may = refl

pub one_together : (s : Lists) (m : Movement) → CanByHand s m → rights_of (by_hand s m) ≡ marked m.from (moved (rights_of s) m)
one_together s m can =
    given_views (taken_by_hand s m) m.to m.brand m.value can.put
    ∙ ap (λ r. given r m.to m.brand m.value) (source_views s m.from m.brand m.value can.take)
    ∙ put_marked s m.from m.to m.brand m.value can.take can.put

-- those that come after leave alone what is spent
after_marked : (s : Lists) (r : Rights) (from to : Holder) (b : ℕ) (w : ValueView) (ms : List Movement) → let next = put_to (lists.taken (with_slot_for s from (amount_of b w)) from b w) to (amount_of b w) in length r.payments ≡ length next.payments → CanTake (with_slot_for s from (amount_of b w)) from b w → CanAllByHand next ms → all_moved (marked from r) ms ≡ marked from (all_moved r ms)
after_marked s r (Purse n) to b w ms same take can = refl
after_marked s r (Payment n) to b w ms same take can =
    let spent = put_spends (lists.taken s (Payment n) b w) n to b w (spent_now s n b w take) in
    all_marked n r ms (omega (arith, same, spent.0)) (left_alone (put_to (lists.taken s (Payment n) b w) to (amount_of b w)) n ms spent can)
after_marked s r (Slot n keyword) to b w ms same take can = refl
after_marked s r Hand to b w ms same take can = absurd take
after_marked s r Outside to b w ms same take can = refl

length_spent : (h : Holder) (ps : List PaymentView) → length (spent_from h ps) ≡ length ps
length_spent (Payment n) ps = length_set ps n (spent_payment (payment_view_at ps n).brand)
length_spent (Purse n) ps = refl
length_spent (Slot n keyword) ps = refl
length_spent Hand ps = refl
length_spent Outside ps = refl

pub all_together : (s : Lists) (ms : List Movement) → CanAllByHand s ms → rights_of (all_by_hand s ms) ≡ moved_together (rights_of s) ms
all_together s [] can = refl
all_together s (m ∷ ms) can =
    let one = one_together s m can.0 in
    let r = moved (rights_of s) m in
    let same : length r.payments ≡ length (by_hand s m).payments = sym (length_spent m.from r.payments) ∙ sym (ap (λ (x : Rights). length x.payments) one) in
    all_together (by_hand s m) ms can.1
    ∙ ap (λ x. moved_together x ms) one
    ∙ ap (λ (x : Rights). with_payment_views x (all_spent ms x.payments)) (after_marked s r m.from m.to m.brand m.value ms same can.0.take can.1)
