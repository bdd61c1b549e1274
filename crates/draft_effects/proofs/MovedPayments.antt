-- Payments of the world's rights while movements are made, none of which is spent yet, beside those of lists.
use Rattle.std.specs.Prelude.{cond, slice_set}
use Rattle.std.specs.List.{AllByRecursion}
use Rattle.std.specs.Option.{option_map}
use Rattle.std.proofs.Common.{◌≡◌, ◌≢◌, inl, inr, ℕ, ◌<◌, List, [], ◌∷◌, ◌++◌, None, Option, Some, length, refl, sym, ◌∙◌, ap, subst, arith}
use Rattle.std.specs.Prelude.{IfSome, IsSomeAnd}
use Rattle.std.proofs.lemmas.Bool.{cases_eq, eq-eqb}
use Rattle.draft_reads.specs.amount_math.Content.{Content, count, count-difference, same_content}
use Rattle.draft_reads.specs.amount_math.ValueView.{ValueView}
use Rattle.draft_reads.specs.amount_math.declared.Amount.{Amount}
use Rattle.draft_reads.proofs.lemmas.ListEdits.{length_push, length_set, read_before, read_other, read_pushed}
use Rattle.draft_reads.specs.holders.PaymentViews.{PaymentView, live_payment, payment_view_at, spent_payment}
use Rattle.draft_reads.specs.rights_model.declared.Holder.{Holder}
use Rattle.draft_reads.specs.rights_model.declared.Holder.TheVariants.{Purse, Payment, Slot, Hand, Outside}
use Rattle.draft_reads.specs.rights_model.declared.Movement.{Movement}
use Rattle.draft_reads.specs.vault_model.Lists.{amount_of}
use Rattle.draft_reads.specs.world_state.Good.{HoldsNothing}
use Rattle.draft_reads.specs.world_state.Rights.{Has, IsPaymentWith, Rights, all_moved, given, moved, paid, lessened_payment, paid_payment, spent_from, taken, value_less}
use Rattle.draft_effects.proofs.MovementsApart.{GoesToHolder, StandAlone, made_with}

-- ---- the payments of a movement's halves

abbrev pub pay_out : List PaymentView → Holder → ValueView → List PaymentView
pay_out ps (Purse n) w = ps
pay_out ps (Payment n) w = slice_set ps n (lessened_payment (payment_view_at ps n) w.content)
pay_out ps (Slot n keyword) w = ps
pay_out ps Hand w = ps
pay_out ps Outside w = ps

abbrev pub pay_in : List PaymentView → Holder → Amount → List PaymentView
pay_in ps (Purse n) a = ps
pay_in ps (Payment n) a = paid ps n a
pay_in ps (Slot n keyword) a = ps
pay_in ps Hand a = ps
pay_in ps Outside a = ps

pub pays_taken : (r : Rights) (h : Holder) (b : ℕ) (w : ValueView) → (taken r h b w).payments ≡ pay_out r.payments h w
pays_taken r (Purse n) b w = refl
pays_taken r (Payment n) b w = refl
pays_taken r (Slot n keyword) b w = refl
pays_taken r Hand b w = refl
pays_taken r Outside b w = refl

pub pays_given : (r : Rights) (h : Holder) (b : ℕ) (w : ValueView) → (given r h b w).payments ≡ pay_in r.payments h (amount_of b w)
pays_given r (Purse n) b w = refl
pays_given r (Payment n) b w = refl
pays_given r (Slot n keyword) b w = refl
pays_given r Hand b w = refl
pays_given r Outside b w = refl

pub pays_moved : (r : Rights) (m : Movement) → (moved r m).payments ≡ pay_in (pay_out r.payments m.from m.value) m.to (amount_of m.brand m.value)
pays_moved r m = pays_given (taken r m.from m.brand m.value) m.to m.brand m.value ∙ ap (λ ps. pay_in ps m.to (amount_of m.brand m.value)) (pays_taken r m.from m.brand m.value)

-- it isn't that payment
abbrev pub NotAt : ℕ → Holder → Type 0
NotAt k h = h ≢ Payment k

other_number : (k n : ℕ) → NotAt k (Payment n) → n ≢ k
other_number k n apart same = apart (ap Payment same)

module _ (w : ValueView) where
  pub out_long : (ps : List PaymentView) (h : Holder) → length (pay_out ps h w) ≡ length ps
  out_long ps (Purse n) = refl
  out_long ps (Payment n) = length_set ps n (lessened_payment (payment_view_at ps n) w.content)
  out_long ps (Slot n keyword) = refl
  out_long ps Hand = refl
  out_long ps Outside = refl

  pub out_apart : (ps : List PaymentView) (h : Holder) (k : ℕ) → NotAt k h → payment_view_at (pay_out ps h w) k ≡ payment_view_at ps k
  out_apart ps (Purse n) k apart = refl
  out_apart ps (Payment n) k apart = read_other ps n k (lessened_payment (payment_view_at ps n) w.content) (spent_payment 0) (other_number k n apart)
  out_apart ps (Slot n keyword) k apart = refl
  out_apart ps Hand k apart = refl
  out_apart ps Outside k apart = refl

pub paid_next : (ps : List PaymentView) (n : ℕ) (a : Amount) → n ≡ length ps → paid ps n a ≡ ps ++ live_payment a ∷ []
paid_next ps n a next = ap (λ t. cond t (ps ++ live_payment a ∷ []) (slice_set ps n (paid_payment ps n a))) (eq-eqb n (length ps) next)

module _ (a : Amount) where
  pub in_long : (made : ℕ) (ps : List PaymentView) (h : Holder) → made ≡ length ps → GoesToHolder made h → length (pay_in ps h a) ≡ made_with made h
  in_long made ps (Purse n) is goes = sym is
  in_long made ps (Payment n) is goes = ap length (paid_next ps n a (goes ∙ is)) ∙ length_push ps (live_payment a) ∙ omega (arith, is)
  in_long made ps (Slot n keyword) is goes = sym is
  in_long made ps Hand is goes = absurd goes
  in_long made ps Outside is goes = sym is

  pub in_before : (made : ℕ) (ps : List PaymentView) (h : Holder) (k : ℕ) → made ≡ length ps → GoesToHolder made h → k < length ps → payment_view_at (pay_in ps h a) k ≡ payment_view_at ps k
  in_before made ps (Purse n) k is goes lt = refl
  in_before made ps (Payment n) k is goes lt = ap (λ l. payment_view_at l k) (paid_next ps n a (goes ∙ is)) ∙ read_before ps (live_payment a) (spent_payment 0) k (λ same. absurd (omega (arith, lt, same)))
  in_before made ps (Slot n keyword) k is goes lt = refl
  in_before made ps Hand k is goes lt = absurd goes
  in_before made ps Outside k is goes lt = refl

  -- what is alike in two lists of one length stays so
  pub in_alike : (made : ℕ) (ps qs : List PaymentView) (h : Holder) (k : ℕ) → made ≡ length ps → made ≡ length qs → GoesToHolder made h → payment_view_at ps k ≡ payment_view_at qs k → payment_view_at (pay_in ps h a) k ≡ payment_view_at (pay_in qs h a) k
  in_alike made ps qs (Purse n) k is was goes alike = alike
  in_alike made ps qs (Payment n) k is was goes alike = ap (λ l. payment_view_at l k) (paid_next ps n a (goes ∙ is)) ∙ elim (cases_eq made k) [
    | inl here ↦ read_pushed ps (live_payment a) (spent_payment 0) k (sym here ∙ is) ∙ sym (read_pushed qs (live_payment a) (spent_payment 0) k (sym here ∙ was))
    | inr apart ↦ read_before ps (live_payment a) (spent_payment 0) k (λ same. apart (is ∙ same)) ∙ alike ∙ sym (read_before qs (live_payment a) (spent_payment 0) k (λ same. apart (was ∙ same)))
  ] ∙ sym (ap (λ l. payment_view_at l k) (paid_next qs n a (goes ∙ was)))
  in_alike made ps qs (Slot n keyword) k is was goes alike = alike
  in_alike made ps qs Hand k is was goes alike = absurd goes
  in_alike made ps qs Outside k is was goes alike = alike

pub spent_apart : (ps : List PaymentView) (h : Holder) (k : ℕ) → NotAt k h → payment_view_at (spent_from h ps) k ≡ payment_view_at ps k
spent_apart ps (Purse n) k apart = refl
spent_apart ps (Payment n) k apart = read_other ps n k (spent_payment (payment_view_at ps n).brand) (spent_payment 0) (other_number k n apart)
spent_apart ps (Slot n keyword) k apart = refl
spent_apart ps Hand k apart = refl
spent_apart ps Outside k apart = refl

-- ---- movements

pub moved_long : (r : Rights) (m : Movement) → GoesToHolder (length r.payments) m.to → length (moved r m).payments ≡ made_with (length r.payments) m.to
moved_long r m goes = ap length (pays_moved r m) ∙ in_long (amount_of m.brand m.value) (length r.payments) (pay_out r.payments m.from m.value) m.to (sym (out_long m.value r.payments m.from)) goes

pub made_more : (made : ℕ) (h : Holder) (k : ℕ) → k < made → k < made_with made h
made_more made (Purse n) k lt = lt
made_more made (Payment n) k lt = omega (arith, lt)
made_more made (Slot n keyword) k lt = lt
made_more made Hand k lt = lt
made_more made Outside k lt = lt

-- a payment that was made and isn't taken from stays
pub stays_moved : (r : Rights) (m : Movement) (k : ℕ) → GoesToHolder (length r.payments) m.to → k < length r.payments → NotAt k m.from → payment_view_at (moved r m).payments k ≡ payment_view_at r.payments k
stays_moved r m k goes lt apart =
    ap (λ l. payment_view_at l k) (pays_moved r m)
    ∙ in_before (amount_of m.brand m.value) (length r.payments) (pay_out r.payments m.from m.value) m.to k (sym (out_long m.value r.payments m.from)) goes (omega (arith, lt, out_long m.value r.payments m.from))
    ∙ out_apart m.value r.payments m.from k apart

pub stays_all : (r : Rights) (ms : List Movement) (k : ℕ) → StandAlone (length r.payments) ms → k < length r.payments → AllByRecursion (λ (m : Movement). NotAt k m.from) ms → payment_view_at (all_moved r ms).payments k ≡ payment_view_at r.payments k
stays_all r [] k alone lt apart = refl
stays_all r (m ∷ ms) k alone lt apart =
    stays_all (moved r m) ms k
    (subst (λ n. StandAlone n ms) (sym (moved_long r m alone.0.to)) alone.1)
    (subst (λ n. k < n) (sym (moved_long r m alone.0.to)) (made_more (length r.payments) m.to k lt))
    apart.1
    ∙ stays_moved r m k alone.0.to lt apart.0

-- ---- a payment that was taken from once, and has nothing left, was taken from whole

abbrev LeftNothing : Option ValueView → Content → Type 0
LeftNothing held c = IfSome (option_map (value_less c) held) (λ (v : ValueView). (k : List ℕ) → count v.content k ≡ 0)

whole_of : (brand b : ℕ) (held : Option ValueView) (w : ValueView) → IsSomeAnd held (λ v. Has (amount_of brand v) b w) → LeftNothing held w.content → record { brand = brand; held = held } ≡ live_payment (amount_of b w)
whole_of brand b None w has gone = absurd has
whole_of brand b (Some v) w has gone = λ i. record { brand = has.brand i; held = Some (record { kind = has.kind i; content = same i }) }
  where
    same : v.content ≡ w.content
    same = same_content v.content w.content (λ k. omega (arith, has.has.each k, gone k, count-difference v.content w.content k))

pub payment_whole : (p : PaymentView) (b : ℕ) (w : ValueView) → IsPaymentWith p (λ a. Has a b w) → HoldsNothing (lessened_payment p w.content) → p ≡ live_payment (amount_of b w)
payment_whole p b w has gone = whole_of p.brand b p.held w has gone
