-- Which payments movements take from, and which they name.
use Rattle.std.specs.Prelude.{◌≡◌, ◌≢◌, ◌==◌, ◌||◌, ◌<◌, ◌≤◌, ℕ, zero, suc, Bool, true, false, cond, List, [], ◌∷◌, ◌++◌, Option, Some, None, IsSomeAnd, is_none, length, slice_set, refl}
use Rattle.std.specs.List.{AllByRecursion}
use Rattle.std.specs.Option.{option_map}
use Rattle.std.proofs.Common.{inl, inr, sym, ◌∙◌, ap, subst, arith}
use Rattle.std.proofs.lemmas.Bool.{cases_eq, eq-eqb, ne_eqb}
use Rattle.fair_rows.specs.amount_math.Content.{Content}
use Rattle.fair_rows.specs.amount_math.ValueView.{ValueView}
use Rattle.fair_rows.specs.amount_math.declared.Amount.{Amount}
use Rattle.delivery_laws.proofs.lemmas.ListEdits.{length_set}
use Rattle.delivery_laws.specs.holders.PaymentViews.{PaymentView, live_payment, payment_view_at, spent_payment}
use Rattle.fair_rows.specs.Movements.{is_payment_at, names, takes_from}
use Rattle.delivery_laws.specs.vault_model.Lists.{amount_of}
use Rattle.fair_rows.specs.rights_model.declared.Holder.{Holder}
use Rattle.fair_rows.specs.rights_model.declared.Holder.TheVariants.{Purse, Payment, Slot, Hand, Outside}
use Rattle.fair_rows.specs.rights_model.declared.Movement.{Movement}
use Rattle.delivery_laws.specs.world_state.Good.{IsFresh}
use Rattle.delivery_laws.specs.world_state.Rights.{CanMoveAll, CanTake, IsPaymentWith, Has, Rights, all_moved, all_spent, given, hand_after, moved, lessened_payment, paid_payment, spent_from, taken, value_less, value_more}
use Rattle.fair_laws.specs.Accounts.{is_taken}
use Rattle.fair_laws.proofs.Moves.{from_made, moved_more, to_made}

-- ---- movements leave payments taken, or not, as they were

set_alike : (ps : List PaymentView) (n p : ℕ) (x : PaymentView) → is_none x.held ≡ is_none (payment_view_at ps n).held → is_taken (slice_set ps n x) p ≡ is_taken ps p
set_alike [] n p x same = refl
set_alike (y ∷ ys) zero zero x same = same
set_alike (y ∷ ys) zero (suc p) x same = refl
set_alike (y ∷ ys) (suc n) zero x same = refl
set_alike (y ∷ ys) (suc n) (suc p) x same = set_alike ys n p x same

none_mapped : (f : ValueView → ValueView) (o : Option ValueView) → is_none (option_map f o) ≡ is_none o
none_mapped f None = refl
none_mapped f (Some w) = refl

pub push_alike : (ps : List PaymentView) (a : Amount) (p : ℕ) → is_taken (ps ++ live_payment a ∷ []) p ≡ is_taken ps p
push_alike [] a zero = refl
push_alike [] a (suc p) = refl
push_alike (x ∷ xs) a zero = refl
push_alike (x ∷ xs) a (suc p) = push_alike xs a p

taken_alike : (r : Rights) (h : Holder) (b : ℕ) (w : ValueView) (p : ℕ) → is_taken (taken r h b w).payments p ≡ is_taken r.payments p
taken_alike r (Payment n) b w p = set_alike r.payments n p (lessened_payment (payment_view_at r.payments n) w.content) (none_mapped (value_less w.content) (payment_view_at r.payments n).held)
taken_alike r (Purse n) b w p = refl
taken_alike r (Slot s k) b w p = refl
taken_alike r Hand b w p = refl
taken_alike r Outside b w p = refl

given_alike : (r : Rights) (h : Holder) (b : ℕ) (w : ValueView) (p : ℕ) → is_taken (given r h b w).payments p ≡ is_taken r.payments p
given_alike r (Payment n) b w p = by (n == length r.payments)
  where
    by : (t : Bool) → is_taken (cond t (r.payments ++ live_payment (amount_of b w) ∷ []) (slice_set r.payments n (paid_payment r.payments n (amount_of b w)))) p ≡ is_taken r.payments p
    by true = push_alike r.payments (amount_of b w) p
    by false = set_alike r.payments n p (paid_payment r.payments n (amount_of b w)) (none_mapped (value_more w.content) (payment_view_at r.payments n).held)
given_alike r (Purse n) b w p = refl
given_alike r (Slot s k) b w p = refl
given_alike r Hand b w p = refl
given_alike r Outside b w p = refl

moved_alike : (r : Rights) (m : Movement) (p : ℕ) → is_taken (moved r m).payments p ≡ is_taken r.payments p
moved_alike r m p = given_alike (taken r m.from m.brand m.value) m.to m.brand m.value p ∙ taken_alike r m.from m.brand m.value p

all_alike : (r : Rights) (ms : List Movement) (p : ℕ) → is_taken (all_moved r ms).payments p ≡ is_taken r.payments p
all_alike r [] p = refl
all_alike r (m ∷ ms) p = all_alike (moved r m) ms p ∙ moved_alike r m p

-- ---- those that were taken from are taken

spent_here : (ps : List PaymentView) (n b : ℕ) → n < length ps → is_taken (slice_set ps n (spent_payment b)) n ≡ true
spent_here [] n b lt = absurd (omega arith)
spent_here (x ∷ xs) zero b lt = refl
spent_here (x ∷ xs) (suc n) b lt = spent_here xs n b (omega arith)

spent_elsewhere : (ps : List PaymentView) (n p b : ℕ) → n ≢ p → is_taken (slice_set ps n (spent_payment b)) p ≡ is_taken ps p
spent_elsewhere [] n p b apart = refl
spent_elsewhere (x ∷ xs) zero zero b apart = absurd (apart refl)
spent_elsewhere (x ∷ xs) zero (suc p) b apart = refl
spent_elsewhere (x ∷ xs) (suc n) zero b apart = refl
spent_elsewhere (x ∷ xs) (suc n) (suc p) b apart = spent_elsewhere xs n p b (λ e. apart (ap suc e))

-- a payment among the first so many
abbrev IsMadeBefore : ℕ → Holder → Type 0
IsMadeBefore made (Payment n) = n < made
IsMadeBefore made (Purse n) = Unit {0}
IsMadeBefore made (Slot s k) = Unit {0}
IsMadeBefore made Hand = Unit {0}
IsMadeBefore made Outside = Unit {0}

one_spent : (h : Holder) (ps : List PaymentView) (p : ℕ) → IsMadeBefore (length ps) h → is_taken (spent_from h ps) p ≡ (is_payment_at p h || is_taken ps p)
one_spent (Payment n) ps p lt = elim (cases_eq n p) [
  | inl at ↦ ap (is_taken (slice_set ps n (spent_payment (payment_view_at ps n).brand))) (sym at) ∙ spent_here ps n (payment_view_at ps n).brand lt ∙ ap (λ t. t || is_taken ps p) (sym (eq-eqb n p at))
  | inr apart ↦ spent_elsewhere ps n p (payment_view_at ps n).brand apart ∙ ap (λ t. t || is_taken ps p) (sym (ne_eqb n p apart))
]
one_spent (Purse n) ps p lt = refl
one_spent (Slot s k) ps p lt = refl
one_spent Hand ps p lt = refl
one_spent Outside ps p lt = refl

either_way : (a b c : Bool) → (b || (a || c)) ≡ ((a || b) || c)
either_way true true c = refl
either_way true false c = refl
either_way false true c = refl
either_way false false c = refl

spent_before : (made : ℕ) (h g : Holder) (ps : List PaymentView) → length ps ≡ made → length (spent_from h ps) ≡ made
spent_before made (Payment n) g ps is = length_set ps n (spent_payment (payment_view_at ps n).brand) ∙ is
spent_before made (Purse n) g ps is = is
spent_before made (Slot s k) g ps is = is
spent_before made Hand g ps is = is
spent_before made Outside g ps is = is

all_taken : (made : ℕ) (ms : List Movement) (ps : List PaymentView) (p : ℕ) → length ps ≡ made → AllByRecursion (λ (m : Movement). IsMadeBefore made m.from) ms → is_taken (all_spent ms ps) p ≡ (takes_from p ms || is_taken ps p)
all_taken made [] ps p is all = refl
all_taken made (m ∷ ms) ps p is all =
    all_taken made ms (spent_from m.from ps) p (spent_before made m.from m.from ps is) all.1
    ∙ ap (λ t. takes_from p ms || t) (one_spent m.from ps p (subst (λ n. IsMadeBefore n m.from) (sym is) all.0))
    ∙ either_way (is_payment_at p m.from) (takes_from p ms) (is_taken ps p)

-- ---- payments that movements take from were made

before_more : (a b : ℕ) (h : Holder) → a ≤ b → IsMadeBefore a h → IsMadeBefore b h
before_more a b (Payment n) le is = omega (arith, is, le)
before_more a b (Purse n) le is = tt
before_more a b (Slot s k) le is = tt
before_more a b Hand le is = tt
before_more a b Outside le is = tt

from_before : (r : Rights) (hand : ℕ → Content) (h : Holder) (b : ℕ) (w : ValueView) → CanTake r hand h b w → IsMadeBefore (length r.payments) h
from_before r hand (Payment n) b w can = can.made
from_before r hand (Purse n) b w can = tt
from_before r hand (Slot s k) b w can = tt
from_before r hand Hand b w can = tt
from_before r hand Outside b w can = tt

pub all_more : (r : Rights) (ms : List Movement) → length r.payments ≤ length (all_moved r ms).payments
all_more r [] = omega arith
all_more r (m ∷ ms) = omega (arith, moved_more r m, all_more (moved r m) ms)

all_before : (r : Rights) (hand : ℕ → Content) (ms : List Movement) → CanMoveAll r hand ms → AllByRecursion (λ (m : Movement). IsMadeBefore (length (all_moved r ms).payments) m.from) ms
all_before r hand [] can = tt
all_before r hand (m ∷ ms) can = (
  before_more (length r.payments) (length (all_moved (moved r m) ms).payments) m.from (omega (arith, moved_more r m, all_more (moved r m) ms)) (from_before r hand m.from m.brand m.value can.0.from),
  all_before (moved r m) (hand_after hand m) ms can.1,
)

pub together_taken : (r : Rights) (hand : ℕ → Content) (ms : List Movement) (p : ℕ) → CanMoveAll r hand ms → is_taken (all_spent ms (all_moved r ms).payments) p ≡ (takes_from p ms || is_taken r.payments p)
together_taken r hand ms p can =
    all_taken (length (all_moved r ms).payments) ms (all_moved r ms).payments p refl (all_before r hand ms can)
    ∙ ap (λ t. takes_from p ms || t) (all_alike r ms p)

-- ---- payments that are named

names_more : (p : ℕ) (m : Movement) (ms : List Movement) → is_payment_at p m.from ≡ false → is_payment_at p m.to ≡ false → names p ms ≡ false → names p (m ∷ ms) ≡ false
names_more p m ms a b c = ap (λ t. (t || is_payment_at p m.to) || names p ms) a ∙ ap (λ t. t || names p ms) b ∙ c

pub all_named : (r : Rights) (hand : ℕ → Content) (ms : List Movement) (p : ℕ) → CanMoveAll r hand ms → length (all_moved r ms).payments ≤ p → names p ms ≡ false
all_named r hand [] p can le = refl
all_named r hand (m ∷ ms) p can le =
    names_more p m ms
    (from_made r hand m.from m.brand m.value can.0.from p (omega (arith, le, moved_more r m, all_more (moved r m) ms)))
    (to_made (taken r m.from m.brand m.value) m.to m.brand m.value can.0.to p (omega (arith, le, all_more (moved r m) ms)))
    (all_named (moved r m) (hand_after hand m) ms p can.1 le)

-- a taken payment was made, and isn't live
taken_made : (ps : List PaymentView) (p : ℕ) → is_taken ps p ≡ true → p < length ps
taken_made [] p is = absurd cc
taken_made (x ∷ xs) zero is = omega arith
taken_made (x ∷ xs) (suc p) is = let lt = taken_made xs p is in omega (arith, lt)

live_is : (ps : List PaymentView) (n : ℕ) → is_none (payment_view_at ps n).held ≡ false → is_taken ps n ≡ false
live_is [] n some = refl
live_is (x ∷ xs) zero some = some
live_is (x ∷ xs) (suc n) some = live_is xs n some

some_held : (p : PaymentView) (b : ℕ) (w : ValueView) → IsPaymentWith p (λ a. Has a b w) → is_none p.held ≡ false
some_held p b w has = by p.held has
  where
    by : (o : Option ValueView) → IsSomeAnd o (λ held. Has (amount_of p.brand held) b w) → is_none o ≡ false
    by None h = absurd h
    by (Some v) h = refl

from_other : (r : Rights) (hand : ℕ → Content) (h : Holder) (b : ℕ) (w : ValueView) (p : ℕ) → CanTake r hand h b w → is_taken r.payments p ≡ true → is_payment_at p h ≡ false
from_other r hand (Payment n) b w p can is = ne_eqb n p (λ at. let clash : true ≡ false = sym is ∙ ap (is_taken r.payments) (sym at) ∙ live_is r.payments n (some_held (payment_view_at r.payments n) b w can.has) in absurd cc)
from_other r hand (Purse n) b w p can is = refl
from_other r hand (Slot s k) b w p can is = refl
from_other r hand Hand b w p can is = refl
from_other r hand Outside b w p can is = refl

to_other : (made : ℕ) (h : Holder) (p : ℕ) → IsFresh made h → p < made → is_payment_at p h ≡ false
to_other made (Payment n) p fresh lt = ne_eqb n p (λ at. absurd (omega (arith, fresh, lt, at)))
to_other made (Purse n) p fresh lt = refl
to_other made (Slot s k) p fresh lt = refl
to_other made Hand p fresh lt = refl
to_other made Outside p fresh lt = refl

pub all_live : (made : ℕ) (r : Rights) (hand : ℕ → Content) (ms : List Movement) (p : ℕ) → CanMoveAll r hand ms → AllByRecursion (λ (m : Movement). IsFresh made m.to) ms → p < made → is_taken r.payments p ≡ true → names p ms ≡ false
all_live made r hand [] p can fresh lt is = refl
all_live made r hand (m ∷ ms) p can fresh lt is =
    names_more p m ms
    (from_other r hand m.from m.brand m.value p can.0.from is)
    (to_other made m.to p fresh.0 lt)
    (all_live made (moved r m) (hand_after hand m) ms p can.1 fresh.1 lt (moved_alike r m p ∙ is))

pub live_of_taken : (r : Rights) (hand : ℕ → Content) (ms : List Movement) (p : ℕ) → CanMoveAll r hand ms → AllByRecursion (λ (m : Movement). IsFresh (length r.payments) m.to) ms → is_taken r.payments p ≡ true → names p ms ≡ false
live_of_taken r hand ms p can fresh is = all_live (length r.payments) r hand ms p can fresh (taken_made r.payments p is) is

-- who is taken from is named
pub takes_named : (p : ℕ) (ms : List Movement) → names p ms ≡ false → takes_from p ms ≡ false
takes_named p [] none = refl
takes_named p (m ∷ ms) none = split (is_payment_at p m.from) (is_payment_at p m.to) none (takes_named p ms (later (is_payment_at p m.from) (is_payment_at p m.to) none))
  where
    later : (a b : Bool) → ((a || b) || names p ms) ≡ false → names p ms ≡ false
    later true b h = absurd cc
    later false true h = absurd cc
    later false false h = h

    split : (a b : Bool) → ((a || b) || names p ms) ≡ false → takes_from p ms ≡ false → (a || takes_from p ms) ≡ false
    split true b h k = absurd cc
    split false b h k = k

-- a spent payment holds nothing
pub taken_holds : (ps : List PaymentView) (p : ℕ) → is_taken ps p ≡ true → (payment_view_at ps p).held ≡ None
taken_holds [] p is = absurd cc
taken_holds (x ∷ xs) zero is = by x.held is
  where
    by : (o : Option ValueView) → is_none o ≡ true → o ≡ None
    by None h = refl
    by (Some w) h = absurd cc
taken_holds (x ∷ xs) (suc p) is = taken_holds xs p is
