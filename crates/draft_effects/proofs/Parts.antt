-- Parts of a payment that can go to payments of their own in the world can be put there from the hand, which has all that the payment had.
use Rattle.std.specs.Prelude.{cond, slice_set}
use Rattle.std.proofs.Common.{◌≡◌, ◌≢◌, ℕ, suc, ◌+◌, ◌<◌, ◌≤◌, ◌==◌, Bool, true, false, List, [], ◌∷◌, Some, length, refl, sym, ◌∙◌, ap, subst, arith}
use Rattle.std.specs.Prelude.{IsSomeAnd}
use Rattle.std.proofs.lemmas.Bool.{eq-eqb, eqb-true, ne_eqb}
use Rattle.draft_reads.specs.amount_math.Content.{Content, Contains, difference}
use Rattle.draft_reads.specs.amount_math.ValueView.{ValueView}
use Rattle.draft_reads.specs.amount_math.declared.Kind.{Kind}
use Rattle.draft_effects.specs.Steps.{MayReach}
use Rattle.draft_effects.proofs.TransferSequences.{IsBeside, arrives_can}
use Rattle.draft_effects.proofs.Measures.{all_grow, made_or_owed}
use Rattle.draft_effects.proofs.MovedPayments.{in_before, moved_long, out_long, pays_moved}
use Rattle.draft_reads.specs.ertp_mint.BrandSupply.{BrandSupply}
use Rattle.draft_reads.specs.ertp_mint.Stocks.{most_made}
use Rattle.draft_reads.proofs.lemmas.ListEdits.{length_push, length_set, read_set}
use Rattle.draft_reads.specs.world_state.Shapes.{parts_from}
use Rattle.draft_reads.specs.holders.PaymentViews.{PaymentView, live_payment, payment_view_at, spent_payment}
use Rattle.draft_reads.specs.rights_model.declared.Holder.TheVariants.{Hand, Payment}
use Rattle.draft_reads.specs.rights_model.declared.Movement.{Movement}
use Rattle.draft_reads.specs.rights_model.Table.{movement}
use Rattle.draft_reads.specs.vault_model.Flows.{spread}
use Rattle.draft_reads.specs.vault_model.Lists.{Lists, amount_of}
use Rattle.draft_reads.specs.vault_model.Tables.{IsSound, hand_minus, no_hand}
use Rattle.draft_reads.proofs.vault_model.Sound.{sound_given}
use Rattle.draft_reads.specs.world_laws.Views.{seats_of}
use Rattle.draft_reads.proofs.world_laws.Together.{with_payment_views}
use Rattle.draft_effects.specs.HandStore.{CanCarryAll, CanGain, carried, hand_after_all}
use Rattle.draft_reads.specs.vault.Drafts.{IsOfBrand}
use Rattle.draft_reads.specs.world_state.Rights.{CanGive, CanMoveAll, Has, IsNextOr, Rights, all_moved, kind_at, moved, lessened_payment, taken}
use Rattle.draft_reads.specs.world_state.Worlds.{Seat}

-- a payment of a brand with a value
abbrev pub payment_view_of : ℕ → Kind → Content → PaymentView
payment_view_of b kind c = record { brand = b; held = Some (record { kind = kind; content = c }) }

-- a payment that is given to, and wasn't made before, is the next
pub is_next : (r : Rights) (p b m : ℕ) (w : ValueView) → CanGive (taken r (Payment p) b w) (Payment m) b w → length r.payments ≤ m → m ≡ length r.payments
is_next r p b m w gives fresh = by (m == length out.payments) refl gives
  where
    out : Rights
    out = taken r (Payment p) b w

    by : (t : Bool) → (m == length out.payments) ≡ t → IsNextOr t out m b w → m ≡ length r.payments
    by true is next = eqb-true m (length out.payments) is ∙ out_long w r.payments (Payment p)
    by false is more = absurd (omega (arith, more.made, fresh, out_long w r.payments (Payment p)))

-- all can be put; the hand has then what the payment has left
pub record ArePut (s : Lists) (r : Rights) (h : ℕ → Content) (p b m : ℕ) (kind : Kind) (ws : List ValueView) : Type 0 where
  pub can : CanCarryAll s h (spread b Hand (parts_from m ws))
  pub left : Content
  pub payment_view : payment_view_at (all_moved r (spread b (Payment p) (parts_from m ws))).payments p ≡ payment_view_of b kind left
  pub hand : hand_after_all h (spread b Hand (parts_from m ws)) b ≡ left
  pub others : (e : ℕ) → b ≢ e → hand_after_all h (spread b Hand (parts_from m ws)) e ≡ h e

module _ (seats : List Seat) (p b : ℕ) (kind : Kind) where
  abbrev written : ℕ → ValueView → Movement
  written m w = movement b (Payment p) (Payment m) w

  abbrev done : ℕ → ValueView → Movement
  done m w = movement b Hand (Payment m) w

  both_put : (s : Lists) (r : Rights) (h : ℕ → Content) (m : ℕ) (w : ValueView) (ws : List ValueView) → CanGain s h (done m w) → ArePut (carried s (done m w)) (moved r (written m w)) (hand_minus h b w.content) p b (suc m) kind ws → ArePut s r h p b m kind (w ∷ ws)
  both_put s r h m w ws gain rest = record {
    can = (gain, rest.can);
    left = rest.left;
    payment_view = rest.payment_view;
    hand = rest.hand;
    others = λ e apart. rest.others e apart ∙ ap (λ t. cond t (difference (h e) w.content) (h e)) (ne_eqb b e apart);
  }

  add_one : (n : ℕ) → n + 1 ≡ suc n
  add_one n = omega arith

  pub parts_put : (s : Lists) (r : Rights) (h : ℕ → Content) (m : ℕ) (c : Content) (ws : List ValueView) → IsBeside r s → seats_of s ≡ seats → IsSound s h → p < length r.payments → payment_view_at r.payments p ≡ payment_view_of b kind c → h b ≡ c → m ≡ length r.payments
      → CanMoveAll r no_hand (spread b (Payment p) (parts_from m ws)) → made_or_owed seats (all_moved r (spread b (Payment p) (parts_from m ws))) ≤ most_made → ArePut s r h p b m kind ws
  parts_put s r h m c [] beside seated sound made payment_view hand next can room = record { can = tt; left = c; payment_view = payment_view; hand = hand; others = λ e apart. refl }
  parts_put s r h m c (w ∷ ws) beside seated sound made payment_view hand next can room = both_put s r h m w ws gain (parts_put after (moved r (written m w)) (hand_minus h b w.content) (suc m) (difference c w.content) ws
      (record {
        rest = ap (λ x. with_payment_views x after.payments) beside.rest;
        long = long_moved ∙ ap suc beside.long ∙ sym (length_push s.payments (live_payment (amount_of b w)) ∙ add_one (length s.payments));
      })
      seated
      (sound_given s h b w sound (Payment m) reach.put.next gain.has)
      (omega (arith, made, long_moved))
      payment_then
      (ap (λ t. cond t (difference (h b) w.content) (h b)) (eq-eqb b b refl) ∙ ap (λ x. difference x w.content) hand)
      (omega (arith, next, long_moved))
      can.1
      room)
    where
      out : Rights
      out = taken r (Payment p) b w

      less : PaymentView
      less = lessened_payment (payment_view_at r.payments p) w.content

      long_out : length out.payments ≡ length r.payments
      long_out = length_set r.payments p less

      beside_out : IsBeside out s
      beside_out = record { rest = beside.rest; long = long_out ∙ beside.long }

      has : Has (amount_of b (record { kind = kind; content = c })) b w
      has = subst (λ (q : PaymentView). IsSomeAnd q.held (λ held. Has (amount_of q.brand held) b w)) payment_view can.0.from.has

      brand : IsOfBrand s b w
      brand = record {
        made = subst (λ (l : List BrandSupply). b < length l) (ap (λ (x : Rights). x.out) beside.rest) can.0.brand;
        kind = subst (λ (l : List BrandSupply). kind_at l b ≡ w.kind) (ap (λ (x : Rights). x.out) beside.rest) can.0.kind;
      }

      reach : MayReach s (Payment m) (amount_of b w)
      reach = arrives_can out s beside_out seats h seated sound b w brand (Payment m) (next ∙ sym long_out) can.0.to tt
          (omega (arith, room, all_grow seats (moved r (written m w)) (spread b (Payment p) (parts_from (suc m) ws))))

      gain : CanGain s h (done m w)
      gain = record { from = refl; has = subst (λ x. Contains x w.content) (sym hand) has.has; brand = brand; reach = reach }

      after : Lists
      after = carried s (done m w)

      long_moved : length (moved r (written m w)).payments ≡ suc (length r.payments)
      long_moved = moved_long r (written m w) next

      payment_then : payment_view_at (moved r (written m w)).payments p ≡ payment_view_of b kind (difference c w.content)
      payment_then =
          ap (λ l. payment_view_at l p) (pays_moved r (written m w))
          ∙ in_before (amount_of b w) (length r.payments) (slice_set r.payments p less) (Payment m) p (sym long_out) next (omega (arith, made, long_out))
          ∙ read_set r.payments p less (spent_payment 0) made
          ∙ ap (λ q. lessened_payment q w.content) payment_view
