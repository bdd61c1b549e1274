-- Payments of which one gives to another: how many there are then, and what each has.
use Rattle.std.specs.Prelude.{slice_set}
use Rattle.std.proofs.Common.{◌≡◌, ◌≢◌, ℕ, ◌+◌, ◌<◌, List, [], ◌∷◌, ◌++◌, length, sym, ap, ◌∙◌, arith, if◌then◌else◌}
use Rattle.std.proofs.lemmas.Bool.{eq-eqb, ne_eqb}
use Rattle.world_laws.specs.amount_math.Content.{Content}
use Rattle.world_laws.specs.amount_math.ValueView.{ValueView}
use Rattle.world_laws.specs.amount_math.declared.Amount.{Amount}
use Rattle.world_laws.specs.amount_math.declared.Kind.{Kind}
use Rattle.world_laws.proofs.lemmas.ListEdits.{length_push, length_set, read_before, read_other, read_pushed, read_set}
use Rattle.rules.specs.holders.PaymentViews.{PaymentView, live_payment, payment_view_at, spent_payment}
use Rattle.world_laws.specs.world_state.Rights.{paid, raised_payment, paid_payment}

abbrev pub value_with : Kind → Content → ValueView
value_with kind c = record { kind = kind; content = c }

-- ---- giving to the next payment, and to one that was made

paid_fresh : (ps : List PaymentView) (n : ℕ) (a : Amount) → n ≡ length ps → paid ps n a ≡ ps ++ live_payment a ∷ []
paid_fresh ps n a next = ap (λ t. if t then ps ++ live_payment a ∷ [] else slice_set ps n (paid_payment ps n a)) (eq-eqb n (length ps) next)

paid_more : (ps : List PaymentView) (n : ℕ) (a : Amount) → n < length ps → paid ps n a ≡ slice_set ps n (paid_payment ps n a)
paid_more ps n a made = ap (λ t. if t then ps ++ live_payment a ∷ [] else slice_set ps n (paid_payment ps n a)) (ne_eqb n (length ps) (λ (e : n ≡ length ps). absurd (omega (arith, e, made))))

-- what the payment p has becomes q, and the next payment, n, is made with a
module _ (ps : List PaymentView) (p n : ℕ) (q : PaymentView) (a : Amount) (next : n ≡ length ps) where
  pub fresh_length : length (paid (slice_set ps p q) n a) ≡ length ps + 1
  fresh_length =
      ap length (paid_fresh (slice_set ps p q) n a (next ∙ sym (length_set ps p q)))
      ∙ length_push (slice_set ps p q) (live_payment a)
      ∙ ap (λ k. k + 1) (length_set ps p q)

  pub fresh_from : p < length ps → payment_view_at (paid (slice_set ps p q) n a) p ≡ q
  fresh_from made =
      ap (λ qs. payment_view_at qs p) (paid_fresh (slice_set ps p q) n a (next ∙ sym (length_set ps p q)))
      ∙ read_before (slice_set ps p q) (live_payment a) (spent_payment 0) p (λ (e : length (slice_set ps p q) ≡ p). absurd (omega (arith, e, made, length_set ps p q)))
      ∙ read_set ps p q (spent_payment 0) made

  pub fresh_to : payment_view_at (paid (slice_set ps p q) n a) n ≡ live_payment a
  fresh_to =
      ap (λ qs. payment_view_at qs n) (paid_fresh (slice_set ps p q) n a (next ∙ sym (length_set ps p q)))
      ∙ read_pushed (slice_set ps p q) (live_payment a) (spent_payment 0) n (next ∙ sym (length_set ps p q))

  pub fresh_else : (o : ℕ) → o < length ps → p ≢ o → payment_view_at (paid (slice_set ps p q) n a) o ≡ payment_view_at ps o
  fresh_else o made other =
      ap (λ qs. payment_view_at qs o) (paid_fresh (slice_set ps p q) n a (next ∙ sym (length_set ps p q)))
      ∙ read_before (slice_set ps p q) (live_payment a) (spent_payment 0) o (λ (e : length (slice_set ps p q) ≡ o). absurd (omega (arith, e, made, length_set ps p q)))
      ∙ read_other ps p o q (spent_payment 0) other

-- what the payment p has becomes q, and one that was made, n, gets a more
module _ (ps : List PaymentView) (p n : ℕ) (q : PaymentView) (a : Amount) (made : n < length ps) where
  there : n < length (slice_set ps p q)
  there = omega (arith, made, length_set ps p q)

  pub more_length : length (paid (slice_set ps p q) n a) ≡ length ps
  more_length =
      ap length (paid_more (slice_set ps p q) n a there)
      ∙ length_set (slice_set ps p q) n (paid_payment (slice_set ps p q) n a)
      ∙ length_set ps p q

  pub more_from : p < length ps → n ≢ p → payment_view_at (paid (slice_set ps p q) n a) p ≡ q
  more_from from other =
      ap (λ qs. payment_view_at qs p) (paid_more (slice_set ps p q) n a there)
      ∙ read_other (slice_set ps p q) n p (paid_payment (slice_set ps p q) n a) (spent_payment 0) other
      ∙ read_set ps p q (spent_payment 0) from

  pub more_to : p ≢ n → payment_view_at (paid (slice_set ps p q) n a) n ≡ raised_payment (payment_view_at ps n) a.value.content
  more_to other =
      ap (λ qs. payment_view_at qs n) (paid_more (slice_set ps p q) n a there)
      ∙ read_set (slice_set ps p q) n (paid_payment (slice_set ps p q) n a) (spent_payment 0) there
      ∙ ap (λ (x : PaymentView). raised_payment x a.value.content) (read_other ps p n q (spent_payment 0) other)

  pub more_else : (o : ℕ) → p ≢ o → n ≢ o → payment_view_at (paid (slice_set ps p q) n a) o ≡ payment_view_at ps o
  more_else o other apart =
      ap (λ qs. payment_view_at qs o) (paid_more (slice_set ps p q) n a there)
      ∙ read_other (slice_set ps p q) n o (paid_payment (slice_set ps p q) n a) (spent_payment 0) apart
      ∙ read_other ps p o q (spent_payment 0) other
