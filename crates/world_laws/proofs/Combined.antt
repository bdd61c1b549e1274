-- Parts that are put as one payment, as movements that are made together.
use Rattle.std.specs.Prelude.{cond, slice_set}
use Rattle.std.proofs.Common.{◌≡◌, ℕ, zero, suc, ◌<◌, List, [], ◌∷◌, ◌++◌, length, refl, sym, ◌∙◌, ap, arith}
use Rattle.std.proofs.lemmas.Bool.{eq-eqb, ne_eqb}
use Rattle.world_state.specs.amount_math.Amount.{holding}
use Rattle.world_state.specs.amount_math.Content.{Content, sum, sum-assoc, sum-nothing}
use Rattle.world_state.specs.amount_math.ValueView.{ValueView}
use Rattle.world_state.specs.amount_math.declared.Amount.{Amount}
use Rattle.world_state.proofs.lemmas.ListEdits.{length_push, length_set, read_before, read_pushed}
use Rattle.world_state.specs.holders.PaymentViews.{PaymentView, live_payment, payment_view_at, spent_payment}
use Rattle.world_state.specs.rights_model.declared.Holder.{Holder}
use Rattle.world_state.specs.rights_model.declared.Holder.TheVariants.{Purse, Payment, Slot, Hand, Outside}
use Rattle.world_state.specs.vault_model.Flows.{Part, content_of, gathered, whole_of}
use Rattle.world_state.specs.vault_model.Lists.{CanTake, Lists, amount_of, more}
use Rattle.world_state.specs.vault_model.Lists as lists
use Rattle.world_laws.specs.Combinations.{CanTakeAll, all_taken, combined_by_hand}
use Rattle.world_laws.specs.Views.{rights_of}
use Rattle.world_laws.proofs.Together.{Apart, IsSpent, marked, pushed_apart, set_before, spent_now, take_apart, take_spends, taken_marked, taken_views, with_payment_views}
use Rattle.world_state.specs.Rights.{Rights, all_moved, all_spent, given, moved_together, lessened_payment, raised_payment, paid_payment, spent_from, taken, with_payment}

set_last : {X : Type 0} (xs : List X) (x y : X) (n : ℕ) → n ≡ length xs → slice_set (xs ++ x ∷ []) n y ≡ xs ++ y ∷ []
set_last [] x y zero e = refl
set_last [] x y (suc n) e = absurd (omega (arith, e))
set_last (z ∷ zs) x y zero e = absurd (omega (arith, e))
set_last (z ∷ zs) x y (suc n) e = ap (λ l. z ∷ l) (set_last zs x y n (omega (arith, e)))

-- ---- takes of the world's rights

abbrev world_taken : Rights → ℕ → List Part → Rights
world_taken r b [] = r
world_taken r b (p ∷ ps) = world_taken (taken r p.0 b p.1) b ps

length_taken : (r : Rights) (h : Holder) (b : ℕ) (w : ValueView) → length (taken r h b w).payments ≡ length r.payments
length_taken r (Purse k) b w = refl
length_taken r (Payment k) b w = length_set r.payments k (lessened_payment (payment_view_at r.payments k) w.content)
length_taken r (Slot k keyword) b w = refl
length_taken r Hand b w = refl
length_taken r Outside b w = refl

length_all : (r : Rights) (b : ℕ) (ps : List Part) → length (world_taken r b ps).payments ≡ length r.payments
length_all r b [] = refl
length_all r b (p ∷ ps) = length_all (taken r p.0 b p.1) b ps ∙ length_taken r p.0 b p.1

-- a payment before the last, or none
abbrev Before : ℕ → Holder → Type 0
Before n (Payment k) = k < n
Before n (Purse k) = Unit {0}
Before n (Slot k keyword) = Unit {0}
Before n Hand = Unit {0}
Before n Outside = Unit {0}

abbrev AllBefore : ℕ → List Part → Type 0
AllBefore n [] = Unit {0}
AllBefore n (p ∷ ps) = Before n p.0 × AllBefore n ps

-- ---- what goes to a payment that was just made

taken_pushed : (r : Rights) (a : Amount) (h : Holder) (b : ℕ) (w : ValueView) → Before (length r.payments) h → taken (with_payment r a) h b w ≡ with_payment (taken r h b w) a
taken_pushed r a (Purse k) b w lt = refl
taken_pushed r a (Payment k) b w lt = ap (with_payment_views r) (
    ap (λ p. slice_set (r.payments ++ live_payment a ∷ []) k (lessened_payment p w.content)) (read_before r.payments (live_payment a) (spent_payment 0) k (λ (e : length r.payments ≡ k). absurd (omega (arith, lt, e))))
    ∙ set_before r.payments (live_payment a) (lessened_payment (payment_view_at r.payments k) w.content) k lt
    )
taken_pushed r a (Slot k keyword) b w lt = refl
taken_pushed r a Hand b w lt = refl
taken_pushed r a Outside b w lt = refl

given_pushed : (r : Rights) (a : Amount) (n b : ℕ) (w : ValueView) → n ≡ length r.payments → given (with_payment r a) (Payment n) b w ≡ with_payment r (more a w.content)
given_pushed r a n b w e = ap (with_payment_views r) (
    ap (λ t. cond t (now ++ live_payment (amount_of b w) ∷ []) (slice_set now n (paid_payment now n (amount_of b w)))) (ne_eqb n (length now) (λ (f : n ≡ length now). absurd (omega (arith, e, f, length_push r.payments (live_payment a)))))
    ∙ ap (λ p. slice_set now n (raised_payment p w.content)) (read_pushed r.payments (live_payment a) (spent_payment 0) n e)
    ∙ set_last r.payments (live_payment a) (live_payment (more a w.content)) n e
    )
  where
    now : List PaymentView
    now = r.payments ++ live_payment a ∷ []

given_next : (r : Rights) (n b : ℕ) (w : ValueView) → n ≡ length r.payments → given r (Payment n) b w ≡ with_payment r (amount_of b w)
given_next r n b w e = ap (λ t. with_payment_views r (cond t (r.payments ++ live_payment (amount_of b w) ∷ []) (slice_set r.payments n (paid_payment r.payments n (amount_of b w))))) (eq-eqb n (length r.payments) e)

added : (a : Amount) (c d : Content) → holding (more a c) (sum (more a c).value.content d) ≡ holding a (sum a.value.content (sum c d))
added a c d = ap (holding a) (sum-assoc a.value.content c d)

all_pushed : (r : Rights) (a : Amount) (n b : ℕ) (ps : List Part) → n ≡ length r.payments → AllBefore n ps → all_moved (with_payment r a) (gathered b (Payment n) ps) ≡ with_payment (world_taken r b ps) (holding a (sum a.value.content (content_of ps)))
all_pushed r a n b [] e lt = ap (λ c. with_payment r (holding a c)) (sym (sum-nothing a.value.content))
all_pushed r a n b (p ∷ ps) e lt =
    ap (λ x. all_moved (given x (Payment n) b p.1) (gathered b (Payment n) ps)) (taken_pushed r a p.0 b p.1 (before_same p.0 e lt.0))
    ∙ ap (λ x. all_moved x (gathered b (Payment n) ps)) (given_pushed (taken r p.0 b p.1) a n b p.1 (e ∙ sym (length_taken r p.0 b p.1)))
    ∙ all_pushed (taken r p.0 b p.1) (more a p.1.content) n b ps (e ∙ sym (length_taken r p.0 b p.1)) lt.1
    ∙ ap (with_payment (world_taken (taken r p.0 b p.1) b ps)) (added a p.1.content (content_of ps))
  where
    before_same : {k m : ℕ} (h : Holder) → k ≡ m → Before k h → Before m h
    before_same (Payment j) e lt = omega (arith, e, lt)
    before_same (Purse j) e lt = tt
    before_same (Slot j keyword) e lt = tt
    before_same Hand e lt = tt
    before_same Outside e lt = tt

-- ---- the marks

spent_pushed : (h : Holder) (xs : List PaymentView) (y : PaymentView) → Before (length xs) h → spent_from h (xs ++ y ∷ []) ≡ spent_from h xs ++ y ∷ []
spent_pushed (Payment k) xs y lt = sym (pushed_apart xs k y lt)
spent_pushed (Purse k) xs y lt = refl
spent_pushed (Slot k keyword) xs y lt = refl
spent_pushed Hand xs y lt = refl
spent_pushed Outside xs y lt = refl

length_marked : (h : Holder) (xs : List PaymentView) → length (spent_from h xs) ≡ length xs
length_marked (Payment k) xs = length_set xs k (spent_payment (payment_view_at xs k).brand)
length_marked (Purse k) xs = refl
length_marked (Slot k keyword) xs = refl
length_marked Hand xs = refl
length_marked Outside xs = refl

before_at : (k m : ℕ) (h : Holder) → k ≡ m → Before k h → Before m h
before_at k m (Payment j) e lt = omega (arith, e, lt)
before_at k m (Purse j) e lt = tt
before_at k m (Slot j keyword) e lt = tt
before_at k m Hand e lt = tt
before_at k m Outside e lt = tt

all_spent_pushed : (b n m : ℕ) (ps : List Part) (xs : List PaymentView) (y : PaymentView) → n ≡ length xs → AllBefore n ps → all_spent (gathered b (Payment m) ps) (xs ++ y ∷ []) ≡ all_spent (gathered b (Payment m) ps) xs ++ y ∷ []
all_spent_pushed b n m [] xs y e lt = refl
all_spent_pushed b n m (p ∷ ps) xs y e lt =
    ap (all_spent (gathered b (Payment m) ps)) (spent_pushed p.0 xs y (before_at n (length xs) p.0 e lt.0))
    ∙ all_spent_pushed b n m ps (spent_from p.0 xs) y (e ∙ sym (length_marked p.0 xs)) lt.1

-- ---- takes of the lists

abbrev PartsApart : ℕ → List Part → Type 0
PartsApart n [] = Unit {0}
PartsApart n (p ∷ ps) = Apart n p.0 × PartsApart n ps

parts_apart : (s : Lists) (n b : ℕ) (ps : List Part) → IsSpent s n → CanTakeAll s b ps → PartsApart n ps
parts_apart s n b [] spent can = tt
parts_apart s n b (p ∷ ps) spent can = (take_apart s n p.0 b p.1 spent can.0, parts_apart (lists.taken s p.0 b p.1) n b ps (take_spends s n p.0 b p.1 spent can.0) can.1)

all_taken_marked : (n : ℕ) (r : Rights) (b : ℕ) (ps : List Part) → PartsApart n ps → world_taken (marked (Payment n) r) b ps ≡ marked (Payment n) (world_taken r b ps)
all_taken_marked n r b [] apart = refl
all_taken_marked n r b (p ∷ ps) apart = ap (λ x. world_taken x b ps) (taken_marked n r p.0 b p.1 apart.0) ∙ all_taken_marked n (taken r p.0 b p.1) b ps apart.1

after_take : (s : Lists) (r : Rights) (h : Holder) (b : ℕ) (w : ValueView) (ps : List Part) → CanTake s h b w → CanTakeAll (lists.taken s h b w) b ps → world_taken (marked h r) b ps ≡ marked h (world_taken r b ps)
after_take s r (Purse k) b w ps take can = refl
after_take s r (Payment k) b w ps take can = all_taken_marked k r b ps (parts_apart (lists.taken s (Payment k) b w) k b ps (spent_now s k b w take) can)
after_take s r (Slot k keyword) b w ps take can = refl
after_take s r Hand b w ps take can = absurd take
after_take s r Outside b w ps take can = refl

abbrev spent_all : ℕ → ℕ → List Part → Rights → Rights
spent_all b m ps r = with_payment_views r (all_spent (gathered b (Payment m) ps) r.payments)

taken_together : (s : Lists) (b m : ℕ) (ps : List Part) → CanTakeAll s b ps → rights_of (all_taken s b ps) ≡ spent_all b m ps (world_taken (rights_of s) b ps)
taken_together s b m [] can = refl
taken_together s b m (p ∷ ps) can =
    taken_together (lists.taken s p.0 b p.1) b m ps can.1
    ∙ ap (λ x. spent_all b m ps (world_taken x b ps)) (taken_views s p.0 b p.1 can.0)
    ∙ ap (spent_all b m ps) (after_take s (taken (rights_of s) p.0 b p.1) p.0 b p.1 ps can.0 can.1)

length_lists : (s : Lists) (h : Holder) (b : ℕ) (w : ValueView) → length (lists.taken s h b w).payments ≡ length s.payments
length_lists s (Purse k) b w = refl
length_lists s (Payment k) b w = length_set s.payments k (spent_payment b)
length_lists s (Slot k keyword) b w = refl
length_lists s Hand b w = refl
length_lists s Outside b w = refl

take_before : (s : Lists) (n : ℕ) (h : Holder) (b : ℕ) (w : ValueView) → n ≡ length s.payments → CanTake s h b w → Before n h
take_before s n (Purse k) b w e can = tt
take_before s n (Payment k) b w e can = omega (arith, e, can.made)
take_before s n (Slot k keyword) b w e can = tt
take_before s n Hand b w e can = tt
take_before s n Outside b w e can = tt

all_before : (s : Lists) (n b : ℕ) (ps : List Part) → n ≡ length s.payments → CanTakeAll s b ps → AllBefore n ps
all_before s n b [] e can = tt
all_before s n b (p ∷ ps) e can = (take_before s n p.0 b p.1 e can.0, all_before (lists.taken s p.0 b p.1) n b ps (e ∙ sym (length_lists s p.0 b p.1)) can.1)

-- ---- both

pub combined_together : (s : Lists) (b : ℕ) (p : Part) (ps : List Part) → CanTakeAll s b (p ∷ ps) → rights_of (combined_by_hand s b p ps) ≡ moved_together (rights_of s) (gathered b (Payment (length s.payments)) (p ∷ ps))
combined_together s b p ps can =
    ap (λ x. with_payment x whole) (taken_together s b n (p ∷ ps) can)
    ∙ ap (with_payment_views all) (sym (all_spent_pushed b n n (p ∷ ps) all.payments (live_payment whole) (sym (length_all (rights_of s) b (p ∷ ps))) before))
    ∙ ap (λ (x : Rights). spent_all b n (p ∷ ps) x) (sym moves)
  where
    n : ℕ
    n = length s.payments

    whole : Amount
    whole = amount_of b (whole_of p.1.kind (p ∷ ps))

    all : Rights
    all = world_taken (rights_of s) b (p ∷ ps)

    before : AllBefore n (p ∷ ps)
    before = all_before s n b (p ∷ ps) refl can

    moves : all_moved (rights_of s) (gathered b (Payment n) (p ∷ ps)) ≡ with_payment all whole
    moves =
        ap (λ x. all_moved x (gathered b (Payment n) ps)) (given_next (taken (rights_of s) p.0 b p.1) n b p.1 (sym (length_taken (rights_of s) p.0 b p.1)))
        ∙ all_pushed (taken (rights_of s) p.0 b p.1) (amount_of b p.1) n b ps (sym (length_taken (rights_of s) p.0 b p.1)) before.1
