-- Payments that movements to one payment neither take from nor give to.
use Rattle.std.specs.Prelude.{cond, slice_set}
use Rattle.std.proofs.Common.{◌≡◌, ◌≢◌, ℕ, ◌+◌, ◌≤◌, ◌==◌, Bool, true, false, List, [], ◌∷◌, ◌++◌, length, map, refl, ◌∙◌, ap, arith}
use Rattle.std.proofs.lemmas.Bool.{eqb-true}
use Rattle.draft_reads.specs.amount_math.ValueView.{ValueView}
use Rattle.draft_reads.specs.amount_math.declared.Amount.{Amount}
use Rattle.draft_effects.proofs.MovedPayments.{pays_moved}
use Rattle.draft_reads.proofs.lemmas.ListEdits.{length_push, length_set, read_before, read_other}
use Rattle.draft_reads.specs.world_state.Shapes.{IsNotAmong, payment_part}
use Rattle.draft_reads.specs.holders.PaymentViews.{PaymentView, live_payment, payment_view_at, spent_payment}
use Rattle.draft_reads.specs.rights_model.declared.Holder.TheVariants.{Payment}
use Rattle.draft_reads.specs.rights_model.declared.Movement.{Movement}
use Rattle.draft_reads.specs.rights_model.Table.{movement}
use Rattle.draft_reads.specs.vault_model.Flows.{gathered}
use Rattle.draft_reads.specs.vault_model.Lists.{amount_of}
use Rattle.draft_reads.specs.world_state.Rights.{Rights, all_moved, moved, paid, lessened_payment, paid_payment}

-- each payment goes whole to one, as it is written
abbrev pub written : ℕ → ℕ → List (ℕ × ValueView) → List Movement
written b to ps = gathered b (Payment to) (map payment_part ps)

paid_read : (l : List PaymentView) (n : ℕ) (a : Amount) (q : ℕ) → n ≢ q → payment_view_at (paid l n a) q ≡ payment_view_at l q
paid_read l n a q apart = by (n == length l) refl
  where
    by : (t : Bool) → (n == length l) ≡ t → payment_view_at (cond t (l ++ live_payment a ∷ []) (slice_set l n (paid_payment l n a))) q ≡ payment_view_at l q
    by true is = read_before l (live_payment a) (spent_payment 0) q (λ (e : length l ≡ q). apart (eqb-true n (length l) is ∙ e))
    by false is = read_other l n q (paid_payment l n a) (spent_payment 0) apart

pub moved_read : (r : Rights) (b p to q : ℕ) (w : ValueView) → p ≢ q → to ≢ q → payment_view_at (moved r (movement b (Payment p) (Payment to) w)).payments q ≡ payment_view_at r.payments q
moved_read r b p to q w from goes =
    ap (λ l. payment_view_at l q) (pays_moved r (movement b (Payment p) (Payment to) w))
    ∙ paid_read (slice_set r.payments p (lessened_payment (payment_view_at r.payments p) w.content)) to (amount_of b w) q goes
    ∙ read_other r.payments p q (lessened_payment (payment_view_at r.payments p) w.content) (spent_payment 0) from

pub given_read : (r : Rights) (b p to : ℕ) (w : ValueView) → to ≢ p → payment_view_at (moved r (movement b (Payment p) (Payment to) w)).payments p ≡ payment_view_at (slice_set r.payments p (lessened_payment (payment_view_at r.payments p) w.content)) p
given_read r b p to w goes =
    ap (λ l. payment_view_at l p) (pays_moved r (movement b (Payment p) (Payment to) w))
    ∙ paid_read (slice_set r.payments p (lessened_payment (payment_view_at r.payments p) w.content)) to (amount_of b w) p goes

pub all_read : (r : Rights) (b to q : ℕ) (ps : List (ℕ × ValueView)) → IsNotAmong q ps → to ≢ q → payment_view_at (all_moved r (written b to ps)).payments q ≡ payment_view_at r.payments q
all_read r b to q [] from goes = refl
all_read r b to q (p ∷ ps) from goes = all_read (moved r (movement b (Payment p.0) (Payment to) p.1)) b to q ps from.1 goes ∙ moved_read r b p.0 to q p.1 from.0 goes

-- no more payments are made than the one
paid_long : (l : List PaymentView) (n : ℕ) (a : Amount) → length l ≤ n + 1 → length (paid l n a) ≤ n + 1
paid_long l n a le = by (n == length l) refl
  where
    by : (t : Bool) → (n == length l) ≡ t → length (cond t (l ++ live_payment a ∷ []) (slice_set l n (paid_payment l n a))) ≤ n + 1
    by true is = omega (arith, eqb-true n (length l) is, length_push l (live_payment a))
    by false is = omega (arith, le, length_set l n (paid_payment l n a))

pub moved_most : (r : Rights) (b p to : ℕ) (w : ValueView) → length r.payments ≤ to + 1 → length (moved r (movement b (Payment p) (Payment to) w)).payments ≤ to + 1
moved_most r b p to w le = omega (
  arith,
  ap (λ (l : List PaymentView). length l) (pays_moved r (movement b (Payment p) (Payment to) w)),
  paid_long (slice_set r.payments p (lessened_payment (payment_view_at r.payments p) w.content)) to (amount_of b w) (omega (arith, le, length_set r.payments p (lessened_payment (payment_view_at r.payments p) w.content))),
)
