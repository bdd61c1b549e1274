-- A split of a payment that can be made in the world can be made in a draft, and makes of the rights what its movements make together.
use Rattle.std.specs.List.{slice_get}
use Rattle.std.specs.Prelude.{IsSomeAnd, cond, slice_set, unwrap_or}
use Rattle.std.proofs.Common.{◌≡◌, inl, inr, ℕ, ◌<◌, List, [], ◌∷◌, ◌++◌, None, Option, Some, length, map, refl, sym, ◌∙◌, ap, subst, arith}
use Rattle.std.proofs.lemmas.Bool.{cases_eq, eq-eqb, ne_eqb}
use Rattle.draft_reads.specs.amount_math.Content.{Content, count, count-nothing, nothing, nothing-sum, same_content, sum}
use Rattle.draft_reads.specs.amount_math.ValueView.{ValueView}
use Rattle.draft_effects.proofs.TransferSequences.{all_spent_long}
use Rattle.draft_reads.specs.Views.{HasNow, rights_in, seats_in, staged_from, staging_in}
use Rattle.draft_reads.proofs.Undoing.{clean_goes}
use Rattle.draft_reads.proofs.lemmas.ListEdits.{length_set}
use Rattle.draft_reads.specs.world_state.Shapes.{IsSplit, parts_from}
use Rattle.draft_reads.specs.vault.Combinations.{IsLive, brand_at, value_at, value_on}
use Rattle.draft_reads.specs.vault.Splits.{live_payments_of}
use Rattle.draft_reads.specs.holders.PaymentViews.{PaymentView, live_payment, payment_view_at, spent_payment}
use Rattle.draft_reads.specs.proposals.declared.allocations.Share.{Share}
use Rattle.draft_reads.specs.rights_model.declared.Holder.{Holder}
use Rattle.draft_reads.specs.rights_model.declared.Holder.TheVariants.{Purse, Payment, Slot, Hand, Outside}
use Rattle.draft_reads.specs.rights_model.declared.Movement.{Movement}
use Rattle.draft_reads.specs.vault_model.Flows.{spread}
use Rattle.draft_reads.specs.vault_model.Lists.{CanTake, Lists, amount_of, kind_of, taken}
use Rattle.draft_reads.specs.vault_model.Tables.{hand_plus}
use Rattle.draft_reads.proofs.vault_model.Sound.{sound_taken}
use Rattle.draft_reads.specs.world_laws.Views.{rights_of, seats_of}
use Rattle.draft_reads.proofs.world_laws.Together.{with_payment_views}
use Rattle.draft_effects.specs.HandStore.{CanCarryAll, IsStoring, StoresAll, all_carried, hand_after_all, out_of_hand}
use Rattle.draft_reads.specs.vault.Drafts.{DraftState, IsClean, IsValid, hand_now}
use Rattle.draft_reads.specs.world_state.Good.{CanMoveTogether, HoldsNothing}
use Rattle.draft_reads.specs.world_state.Rights.{Has, IsPaymentWith, PaymentHas, Rights, all_moved, all_spent, moved_together}
use Rattle.draft_effects.proofs.SplitPayments.{lists_put, out_each, parts_moved, parts_spent}
use Rattle.draft_effects.proofs.Parts.{ArePut, is_next, parts_put}

-- a payment that has something of a brand is live, and of the brand
pub record IsPayment (q : PaymentView) (b : ℕ) (w : ValueView) : Type 0 where
  pub is : q ≡ live_payment (amount_of b (value_on q))
  pub kind : (value_on q).kind ≡ w.kind

pub payment_live : (q : PaymentView) (b : ℕ) (w : ValueView) → IsPaymentWith q (λ a. Has a b w) → IsPayment q b w
payment_live q b w has = by q.brand q.held has
  where
    by : (e : ℕ) (held : Option ValueView) → IsSomeAnd held (λ v. Has (amount_of e v) b w) → IsPayment (record { brand = e; held = held }) b w
    by e None given = absurd given
    by e (Some v) given = record { is = λ i. record { brand = given.brand i; held = Some v }; kind = given.kind }

module _ (d : DraftState) (staging : List (Option (List Share))) (ms : List Movement) (valid : IsValid d) (clean : IsClean d) (shape : IsSplit ms) (together : CanMoveTogether (rights_in d) (seats_in d) staging ms) where
  abbrev b : ℕ
  b = shape.brand

  abbrev p : ℕ
  p = shape.from

  abbrev ws : List ValueView
  ws = shape.first ∷ shape.others

  abbrev written : List Movement
  written = spread b (Payment p) (parts_from shape.to ws)

  abbrev s : Lists
  s = d.now

  abbrev r : Rights
  r = rights_of d.now

  can : CanMoveTogether r (seats_in d) staging written
  can = subst (λ l. CanMoveTogether r (seats_in d) staging l) shape.is together

  has : PaymentHas r p b shape.first
  has = can.can.0.from

  payment_view : IsPayment (payment_view_at s.payments p) b shape.first
  payment_view = payment_live (payment_view_at s.payments p) b shape.first has.has

  abbrev whole : ValueView
  whole = value_at s p

  brand_is : brand_at s p ≡ b
  brand_is = ap (λ (q : PaymentView). q.brand) payment_view.is

  pub live : IsLive s (brand_at s p) p
  live = record {
    source = record { made = has.made; is = payment_view.is ∙ ap (λ e. live_payment (amount_of e whole)) (sym brand_is) };
    is_of = refl;
    brand = record {
      made = subst (λ e. e < length s.out) (sym brand_is) can.can.0.brand;
      kind = ap (λ e. kind_of s e) brand_is ∙ can.can.0.kind ∙ sym payment_view.kind;
    };
  }

  pub stores_all : StoresAll d
  stores_all = record { sound = clean.sound; stored = clean_goes d valid clean }

  -- the payment is taken whole
  abbrev out : Lists
  out = taken s (Payment p) b whole

  abbrev full : ℕ → Content
  full = hand_plus (hand_now d) b whole.content

  full_here : full b ≡ whole.content
  full_here = ap (λ t. cond t (sum (hand_now d b) whole.content) (hand_now d b)) (eq-eqb b b refl) ∙ ap (λ x. sum x whole.content) (clean.hand b) ∙ nothing-sum whole.content

  take : CanTake s (Payment p) b whole
  take = record { made = has.made; is = payment_view.is }

  put : ArePut out r full p b shape.to whole.kind ws
  put = parts_put (seats_in d) p b whole.kind out r full shape.to whole.content ws
      (record { rest = refl; long = sym (length_set s.payments p (spent_payment b)) })
      refl
      (sound_taken s (hand_now d) b whole valid.sound (Payment p) take)
      has.made
      payment_view.is
      full_here
      (is_next r p b shape.to shape.first can.can.0.to can.fresh.0)
      can.can
      (omega (arith, can.room.left, all_spent_long written (all_moved r written).payments))

  outs : map out_of_hand ms ≡ spread b Hand (parts_from shape.to ws)
  outs = ap (map out_of_hand) shape.is ∙ out_each b p (parts_from shape.to ws)

  module _ (then : DraftState) (took : IsStoring d then (taken s (Payment p) (brand_at s p) whole) (hand_plus (hand_now d) (brand_at s p) whole.content)) where
    now_out : then.now ≡ out
    now_out = took.now ∙ ap (λ e. taken s (Payment p) e whole) brand_is

    hand_full : hand_now then ≡ full
    hand_full = took.hand ∙ ap (λ e. hand_plus (hand_now d) e whole.content) brand_is

    pub can_put : CanCarryAll then.now (hand_now then) (map out_of_hand ms)
    can_put = subst (λ l. CanCarryAll then.now (hand_now then) l) (sym outs)
        (subst (λ (x : Lists). CanCarryAll x (hand_now then) (spread b Hand (parts_from shape.to ws))) (sym now_out)
        (subst (λ (h : ℕ → Content). CanCarryAll out h (spread b Hand (parts_from shape.to ws))) (sym hand_full) put.can))

    module _ (new : DraftState) (made : IsStoring then new (all_carried then.now (map out_of_hand ms)) (hand_after_all (hand_now then) (map out_of_hand ms))) where
      abbrev lists_then : Lists
      lists_then = all_carried out (spread b Hand (parts_from shape.to ws))

      now_then : new.now ≡ lists_then
      now_then = made.now ∙ (λ i. all_carried (now_out i) (outs i))

      hand_then : hand_now new ≡ hand_after_all full (spread b Hand (parts_from shape.to ws))
      hand_then = made.hand ∙ (λ i. hand_after_all (hand_full i) (outs i))

      abbrev payments_then : List PaymentView
      payments_then = slice_set s.payments p (spent_payment b) ++ live_payments_of b ws

      lists_are : new.now ≡ record out { payments = payments_then }
      lists_are = now_then ∙ lists_put out b shape.to ws

      together_are : moved_together r ms ≡ with_payment_views r payments_then
      together_are =
          ap (moved_together r) shape.is
          ∙ ap (λ (x : Rights). with_payment_views x (all_spent written x.payments)) (parts_moved r b p shape.to ws has.made (is_next r p b shape.to shape.first can.can.0.to can.fresh.0))
          ∙ ap (with_payment_views r) (
          parts_spent s.payments b p shape.to shape.first shape.others has.made
          ∙ ap (λ e. slice_set s.payments p (spent_payment e) ++ live_payments_of b ws) brand_is
          )

      none_left : (k : List ℕ) → count put.left k ≡ 0
      none_left = subst HoldsNothing put.payment_view can.emptied.0

      empty : (e : ℕ) → hand_now new e ≡ nothing
      empty e = ap (λ (h : ℕ → Content). h e) hand_then ∙ elim (cases_eq b e) [
        | inl same ↦ subst (λ q. hand_after_all full (spread b Hand (parts_from shape.to ws)) q ≡ nothing) same
            (put.hand ∙ same_content put.left nothing (λ k. none_left k ∙ sym (count-nothing k)))
        | inr apart ↦ put.others e apart ∙ ap (λ t. cond t (sum (hand_now d e) whole.content) (hand_now d e)) (ne_eqb b e apart) ∙ clean.hand e
      ]

      pub split_now : HasNow new (moved_together (rights_in d) ms) (seats_in d) (staging_in d)
      split_now = record {
        rights = ap rights_of lists_are ∙ sym together_are;
        seated = ap seats_of lists_are;
        staged = λ i. staged_from 0 (lists_are i).seats ((made.staging ∙ took.staging) i);
        clean = record { sound = made.stores.sound; hand = empty };
      }

-- ---- the payment is the one that the first movement comes from

abbrev number_of : Holder → ℕ
number_of (Payment n) = n
number_of (Purse n) = 0
number_of (Slot n k) = 0
number_of Hand = 0
number_of Outside = 0

pub payment_is : (ms : List Movement) (m : Movement) (n : ℕ) (shape : IsSplit ms) → Some m ≡ slice_get ms 0 → m.from ≡ Payment n → n ≡ shape.from
payment_is ms m n shape first from = ap number_of (sym from ∙ ap (λ (o : Option Movement). (unwrap_or o m).from) (subst (λ (l : List Movement). Some m ≡ slice_get l 0) shape.is first))

pub took_so : (d e then : DraftState) (p n : ℕ) → e ≡ d → n ≡ p → IsStoring e then (taken e.now (Payment n) (brand_at e.now n) (value_at e.now n)) (hand_plus (hand_now e) (brand_at e.now n) (value_at e.now n).content) → IsStoring d then (taken d.now (Payment p) (brand_at d.now p) (value_at d.now p)) (hand_plus (hand_now d) (brand_at d.now p) (value_at d.now p).content)
took_so d e then p n same number took = subst (λ q. IsStoring d then (taken d.now (Payment q) (brand_at d.now q) (value_at d.now q)) (hand_plus (hand_now d) (brand_at d.now q) (value_at d.now q).content)) number
    (subst (λ (x : DraftState). IsStoring x then (taken x.now (Payment n) (brand_at x.now n) (value_at x.now n)) (hand_plus (hand_now x) (brand_at x.now n) (value_at x.now n).content)) same took)
