-- The payments of the world's rights, and of a draft's lists, once parts of a payment went to payments of their own.
use Rattle.std.specs.Prelude.{slice_set}
use Rattle.std.proofs.Common.{◌≡◌, ℕ, zero, suc, ◌+◌, ◌<◌, List, [], ◌∷◌, ◌++◌, length, map, refl, sym, ◌∙◌, ap, arith, append_assoc}
use Rattle.draft_reads.specs.amount_math.ValueView.{ValueView}
use Rattle.draft_effects.proofs.MovedPayments.{paid_next}
use Rattle.draft_reads.proofs.lemmas.ListEdits.{length_push, length_set, read_before, read_set, set_same, set_set}
use Rattle.draft_reads.specs.world_state.Shapes.{parts_from}
use Rattle.draft_reads.specs.vault.Splits.{live_payments_of}
use Rattle.draft_reads.specs.holders.PaymentViews.{PaymentView, live_payment, payment_view_at, spent_payment}
use Rattle.draft_reads.specs.rights_model.declared.Holder.TheVariants.{Hand, Payment}
use Rattle.draft_reads.specs.rights_model.declared.Movement.{Movement}
use Rattle.draft_reads.specs.rights_model.Table.{movement}
use Rattle.draft_reads.specs.vault_model.Flows.{Part, spread}
use Rattle.draft_reads.specs.vault_model.Lists.{Lists, amount_of, with_payments}
use Rattle.draft_reads.proofs.world_laws.Together.{set_before, with_payment_views}
use Rattle.draft_effects.specs.HandStore.{all_carried, carried, out_of_hand}
use Rattle.draft_reads.specs.world_state.Rights.{Rights, all_moved, all_spent, moved, lessened_payment}

-- what goes out of the hand for each
pub out_each : (b : ℕ) (p : ℕ) (parts : List Part) → map out_of_hand (spread b (Payment p) parts) ≡ spread b Hand parts
out_each b p [] = refl
out_each b p (q ∷ qs) = ap (λ (l : List Movement). movement b Hand q.0 q.1 ∷ l) (out_each b p qs)

none_more : (l : List PaymentView) → l ≡ l ++ []
none_more [] = refl
none_more (p ∷ ps) = ap (λ (l : List PaymentView). p ∷ l) (none_more ps)

-- ---- the lists

pub lists_put : (s : Lists) (b m : ℕ) (ws : List ValueView) → all_carried s (spread b Hand (parts_from m ws)) ≡ with_payments s (s.payments ++ live_payments_of b ws)
lists_put s b m [] = ap (λ (l : List PaymentView). with_payments s l) (none_more s.payments)
lists_put s b m (w ∷ ws) =
    lists_put (carried s (movement b Hand (Payment m) w)) b (suc m) ws
    ∙ ap (λ (l : List PaymentView). with_payments s l) (append_assoc s.payments (live_payment (amount_of b w) ∷ []) (live_payments_of b ws))

-- ---- the world's rights

-- a payment once all parts were taken from it
abbrev pub less_all : PaymentView → List ValueView → PaymentView
less_all p [] = p
less_all p (w ∷ ws) = less_all (lessened_payment p w.content) ws

part_moved : (r : Rights) (b p m : ℕ) (w : ValueView) → m ≡ length r.payments → moved r (movement b (Payment p) (Payment m) w) ≡ with_payment_views r (slice_set r.payments p (lessened_payment (payment_view_at r.payments p) w.content) ++ live_payment (amount_of b w) ∷ [])
part_moved r b p m w next = ap (with_payment_views r) (paid_next out m (amount_of b w) (next ∙ sym (length_set r.payments p (lessened_payment (payment_view_at r.payments p) w.content))))
  where
    out : List PaymentView
    out = slice_set r.payments p (lessened_payment (payment_view_at r.payments p) w.content)

pub parts_moved : (r : Rights) (b p m : ℕ) (ws : List ValueView) → p < length r.payments → m ≡ length r.payments → all_moved r (spread b (Payment p) (parts_from m ws)) ≡ with_payment_views r (slice_set r.payments p (less_all (payment_view_at r.payments p) ws) ++ live_payments_of b ws)
parts_moved r b p m [] made next = ap (with_payment_views r) (none_changed r.payments p ∙ none_more (slice_set r.payments p (payment_view_at r.payments p)))
  where
    none_changed : (l : List PaymentView) (n : ℕ) → l ≡ slice_set l n (payment_view_at l n)
    none_changed l n = sym (set_same l n (spent_payment 0))
parts_moved r b p m (w ∷ ws) made next =
    ap (λ x. all_moved x (spread b (Payment p) (parts_from (suc m) ws))) one
    ∙ parts_moved then b p (suc m) ws (omega (arith, made, long)) (omega (arith, next, long))
    ∙ ap (with_payment_views r) (
    ap (λ q. slice_set then.payments p (less_all q ws) ++ live_payments_of b ws) read
    ∙ ap (λ l. l ++ live_payments_of b ws) (
    set_before out (live_payment (amount_of b w)) (less_all less ws) p (omega (arith, made, length_set r.payments p less))
    ∙ ap (λ (l : List PaymentView). l ++ live_payment (amount_of b w) ∷ []) (set_set r.payments p less (less_all less ws))
    )
    ∙ append_assoc (slice_set r.payments p (less_all less ws)) (live_payment (amount_of b w) ∷ []) (live_payments_of b ws)
    )
  where
    less : PaymentView
    less = lessened_payment (payment_view_at r.payments p) w.content

    out : List PaymentView
    out = slice_set r.payments p less

    then : Rights
    then = with_payment_views r (out ++ live_payment (amount_of b w) ∷ [])

    one : moved r (movement b (Payment p) (Payment m) w) ≡ then
    one = part_moved r b p m w next

    long : length then.payments ≡ length r.payments + 1
    long = length_push out (live_payment (amount_of b w)) ∙ ap (λ n. n + 1) (length_set r.payments p less)

    read : payment_view_at then.payments p ≡ less
    read = read_before out (live_payment (amount_of b w)) (spent_payment 0) p (λ same. absurd (omega (arith, made, same, length_set r.payments p less))) ∙ read_set r.payments p less (spent_payment 0) made

-- ---- the payment is spent

brand_stays : (q : PaymentView) (ws : List ValueView) → (less_all q ws).brand ≡ q.brand
brand_stays q [] = refl
brand_stays q (w ∷ ws) = brand_stays (lessened_payment q w.content) ws

abbrev spent_at : List PaymentView → ℕ → List PaymentView
spent_at l p = slice_set l p (spent_payment (payment_view_at l p).brand)

spent_twice : (l : List PaymentView) (p : ℕ) → p < length l → spent_at (spent_at l p) p ≡ spent_at l p
spent_twice l p made =
    ap (λ (q : PaymentView). slice_set (spent_at l p) p (spent_payment q.brand)) (read_set l p (spent_payment (payment_view_at l p).brand) (spent_payment 0) made)
    ∙ set_set l p (spent_payment (payment_view_at l p).brand) (spent_payment (payment_view_at l p).brand)

spent_more : (l : List PaymentView) (b p m : ℕ) (ws : List ValueView) → p < length l → all_spent (spread b (Payment p) (parts_from m ws)) (spent_at l p) ≡ spent_at l p
spent_more l b p m [] made = refl
spent_more l b p m (w ∷ ws) made = ap (all_spent (spread b (Payment p) (parts_from (suc m) ws))) (spent_twice l p made) ∙ spent_more l b p (suc m) ws made

set_in : (l : List PaymentView) (rest : List PaymentView) (p : ℕ) (x : PaymentView) → p < length l → slice_set (l ++ rest) p x ≡ slice_set l p x ++ rest
set_in [] rest p x made = absurd (omega (arith, made))
set_in (y ∷ ys) rest zero x made = refl
set_in (y ∷ ys) rest (suc p) x made = ap (λ (l : List PaymentView). y ∷ l) (set_in ys rest p x (omega (arith, made)))

read_in : (l : List PaymentView) (rest : List PaymentView) (p : ℕ) → p < length l → payment_view_at (l ++ rest) p ≡ payment_view_at l p
read_in [] rest p made = absurd (omega (arith, made))
read_in (y ∷ ys) rest zero made = refl
read_in (y ∷ ys) rest (suc p) made = read_in ys rest p (omega (arith, made))

-- all that moved, with the payment spent
pub parts_spent : (ps : List PaymentView) (b p m : ℕ) (w : ValueView) (ws : List ValueView) → p < length ps → all_spent (spread b (Payment p) (parts_from m (w ∷ ws))) (slice_set ps p (less_all (payment_view_at ps p) (w ∷ ws)) ++ live_payments_of b (w ∷ ws)) ≡ slice_set ps p (spent_payment (payment_view_at ps p).brand) ++ live_payments_of b (w ∷ ws)
parts_spent ps b p m w ws made =
    spent_more (now ++ more) b p (suc m) ws (made_in now more p there)
    ∙ ap (λ (q : PaymentView). slice_set (now ++ more) p (spent_payment q.brand)) (read_in now more p there)
    ∙ set_in now more p (spent_payment (payment_view_at now p).brand) there
    ∙ ap (λ (q : PaymentView). slice_set now p (spent_payment q.brand) ++ more) (read_set ps p (less_all (payment_view_at ps p) (w ∷ ws)) (spent_payment 0) made)
    ∙ ap (λ e. slice_set now p (spent_payment e) ++ more) (brand_stays (payment_view_at ps p) (w ∷ ws))
    ∙ ap (λ (l : List PaymentView). l ++ more) (set_set ps p (less_all (payment_view_at ps p) (w ∷ ws)) (spent_payment (payment_view_at ps p).brand))
  where
    now : List PaymentView
    now = slice_set ps p (less_all (payment_view_at ps p) (w ∷ ws))

    more : List PaymentView
    more = live_payments_of b (w ∷ ws)

    there : p < length now
    there = omega (arith, made, length_set ps p (less_all (payment_view_at ps p) (w ∷ ws)))

    made_in : (l rest : List PaymentView) (n : ℕ) → n < length l → n < length (l ++ rest)
    made_in [] rest n lt = absurd (omega (arith, lt))
    made_in (y ∷ ys) rest zero lt = omega arith
    made_in (y ∷ ys) rest (suc n) lt = omega (arith, made_in ys rest n (omega (arith, lt)))
