-- When a movement can be counted, and that what is kept running stays the sums from scratch.
use Rattle.std.specs.Prelude.{◌≡◌, ◌≢◌, ◌⊎◌, ◌≤◌, ◌<◌, ◌^◌, ◌==◌, ℕ, zero, suc, ◌+◌, Bool, true, false, cond, if◌then◌else◌, ◌&&◌, List, [], ◌∷◌, ◌++◌, length, slice_get, refl}
use Rattle.std.proofs.Common.{inl, inr, sym, ◌∙◌, ap, subst, arith, length-append}
use Rattle.std.proofs.lemmas.Bool.{cases_eq, eq-eqb}
use Rattle.std.specs.Option.{option_map_or}
use Rattle.rights_model.specs.amount_math.Content.{Content, nothing}
use Rattle.rights_model.specs.amount_math.Counted.{counted}
use Rattle.rights_model.specs.declared.Holder.{Holder}
use Rattle.rights_model.specs.declared.Holder.TheVariants.{Purse, Payment, Slot, Hand, Outside}
use Rattle.rights_model.specs.declared.Movement.{Movement}
use Rattle.rights_model.specs.Place.{Place, place}
use Rattle.rights_model.specs.Table.{Table, no_holdings, holds, taken, moved, CanMove}
use Rattle.rights_model.specs.Supply.{is_hand, is_inside, is_outside}
use Rattle.rights_model.specs.Totals.{held_over, is_payment, is_purse, is_slot, weight_of}
use Rattle.rights_model.proofs.TableLaws.{holds-given_other, holds-taken_other}
use Rattle.rights_model.specs.amount_math.Sparse.{at-empty}
use Rattle.rights_model.specs.Table.{holdings}
use Rattle.escrow.specs.declared.totals.Totals.{Totals}
use Rattle.escrow.specs.Running.{HasPortion, portion}
use Rattle.escrow.specs.Told.{AreCounted, AreOpened, CanTell, CanUntell, EscrowState, IsOpened, IsSame, IsSeated, IsTold, coming, is_slot_of, leaving, minted_with, nothing_told, share_of, totals_of}
use Rattle.escrow.specs.Sums.{AreSums, HasNoSlots}
use Rattle.escrow.proofs.TableSums.{held-empty, held-inside, held-moved, held-same, leaving_held, outside_or_inside, share_held}

-- ---- counting at the movement's own brand

at_brand : (who : Holder → Bool) (h : Holder) (b : ℕ) (c : Content) → weight_of who b (place h b) c ≡ portion who h (counted c)
at_brand who h b c = ap (λ x. cond (who h && x) (counted c) 0) (eq-eqb b b refl) ∙ by (who h)
  where
    by : (x : Bool) → cond (x && true) (counted c) 0 ≡ cond x (counted c) 0
    by true = refl
    by false = refl

whole_at : (h : Holder) (b : ℕ) (c : Content) → weight_of is_outside b (place h b) c + weight_of is_inside b (place h b) c ≡ counted c
whole_at h b c = outside_or_inside b h c ∙ ap (λ x. cond x (counted c) 0) (eq-eqb b b refl)

module _ (t : Table) (e : EscrowState) (m : Movement) (sums : AreSums t e) (can : CanMove t m) where
  has : HasPortion (totals_of e m.brand) m.from (counted m.value.content)
  has = record {
    purses = omega (arith, at_brand is_purse m.from m.brand m.value.content, leaving_held is_purse refl m.brand t m can, sums.purses m.brand);
    payments = omega (arith, at_brand is_payment m.from m.brand m.value.content, leaving_held is_payment refl m.brand t m can, sums.payments m.brand);
    slots = omega (arith, at_brand is_slot m.from m.brand m.value.content, leaving_held is_slot refl m.brand t m can, sums.slots m.brand);
  }

  inside_after : held_over is_inside (moved t m) m.brand + leaving is_inside m m.brand ≡ held_over is_inside t m.brand + coming is_inside m m.brand
  inside_after = held-moved is_inside refl m.brand t m can

  share_after : (i : ℕ) → held_over (is_slot_of e.instances i) (moved t m) m.brand + leaving (is_slot_of e.instances i) m m.brand ≡ held_over (is_slot_of e.instances i) t m.brand + coming (is_slot_of e.instances i) m m.brand
  share_after i = held-moved (is_slot_of e.instances i) refl m.brand t m can

  pub can_tell : minted_with e m < 2 ^ 128 → CanTell e m
  can_tell within = record {
    totals = record {
      has = has;
      hand = omega (arith, at_brand is_hand m.from m.brand m.value.content, leaving_held is_hand refl m.brand t m can, held-inside m.brand t, sums.purses m.brand, sums.payments m.brand, sums.slots m.brand, sums.whole m.brand);
      small = omega (arith, within, at_brand is_outside m.from m.brand m.value.content);
    };
    leaves = λ i. omega (arith, leaving_held (is_slot_of e.instances i) refl m.brand t m can, sums.shares i m.brand);
    comes = λ i. omega (arith, within, share_after i, sums.shares i m.brand, share_held m.brand e.instances i (moved t m), inside_after, sums.whole m.brand, whole_at m.from m.brand m.value.content, whole_at m.to m.brand m.value.content);
  }

-- ---- what a movement that was told makes of the sums

module _ (e f : EscrowState) (m : Movement) (told : IsTold e f m) where
  -- a seat of which nothing is held yet has no slot that the movement names
  module _ (t : Table) (opened : AreOpened e m) where
    apart_from : (seat : ℕ) (k : List ℕ) (b : ℕ) (h : Holder) → length e.instances ≤ seat → IsOpened e.instances h → place (Slot seat k) b ≢ place h m.brand
    apart_from seat k b h past told_of = λ is. let within : seat < length e.instances = subst (λ (p : Place). IsOpened e.instances p.0) (sym is) told_of in absurd (omega arith)

    no_slots : (seat : ℕ) → length e.instances ≤ seat → HasNoSlots t seat → HasNoSlots (moved t m) seat
    no_slots seat past none = λ k b.
        holds-given_other (taken t m.from m.brand m.value.content) m.brand m.value.content m.to (Slot seat k) b (apart_from seat k b m.to past opened.to)
        ∙ holds-taken_other t m.brand m.value.content m.from (Slot seat k) b (apart_from seat k b m.from past opened.from)
        ∙ none k b

    module _ (sums : AreSums t e) (can : CanMove t m) where
      outside_at : (b : ℕ) → coming is_outside m b + coming is_inside m b ≡ (if m.brand == b then counted m.value.content else 0)
      outside_at b = by m.to
        where
          by : (h : Holder) → weight_of is_outside b (place h m.brand) m.value.content + weight_of is_inside b (place h m.brand) m.value.content ≡ (if m.brand == b then counted m.value.content else 0)
          by Outside = omega arith
          by (Purse n) = omega arith
          by (Payment n) = omega arith
          by (Slot n w) = omega arith
          by Hand = omega arith

      outside_from : (b : ℕ) → leaving is_outside m b + leaving is_inside m b ≡ (if m.brand == b then counted m.value.content else 0)
      outside_from b = by m.from
        where
          by : (h : Holder) → weight_of is_outside b (place h m.brand) m.value.content + weight_of is_inside b (place h m.brand) m.value.content ≡ (if m.brand == b then counted m.value.content else 0)
          by Outside = omega arith
          by (Purse n) = omega arith
          by (Payment n) = omega arith
          by (Slot n w) = omega arith
          by Hand = omega arith

      pub sums_told : AreSums (moved t m) f
      sums_told = record {
        purses = λ b. omega (arith, (told.totals b).purses, sums.purses b, held-moved is_purse refl b t m can);
        payments = λ b. omega (arith, (told.totals b).payments, sums.payments b, held-moved is_payment refl b t m can);
        slots = λ b. omega (arith, (told.totals b).slots, sums.slots b, held-moved is_slot refl b t m can);
        shares = λ i b. rw told.instances (omega (arith, told.shares i b, sums.shares i b, held-moved (is_slot_of e.instances i) refl b t m can));
        whole = λ b. omega (arith, (told.totals b).minted, (told.totals b).burned, sums.whole b, held-moved is_inside refl b t m can, outside_at b, outside_from b);
        seats = λ seat past. no_slots seat (subst (λ is. length is ≤ seat) told.instances past) (sums.seats seat (subst (λ is. length is ≤ seat) told.instances past));
      }

-- ---- backwards

module _ (e f : EscrowState) (m : Movement) (t : Table) (sums : AreSums t e) (can : CanMove t m) (within : minted_with e m < 2 ^ 128) (told : IsTold e f m) where
  pub can_untell : CanUntell f m
  can_untell = record {
    totals = record {
      has = record {
        purses = omega (arith, at_brand is_purse m.to m.brand m.value.content, leaving_held is_purse refl m.brand t m can, sums.purses m.brand, (told.totals m.brand).purses);
        payments = omega (arith, at_brand is_payment m.to m.brand m.value.content, leaving_held is_payment refl m.brand t m can, sums.payments m.brand, (told.totals m.brand).payments);
        slots = omega (arith, at_brand is_slot m.to m.brand m.value.content, leaving_held is_slot refl m.brand t m can, sums.slots m.brand, (told.totals m.brand).slots);
      };
      burned = omega (arith, at_brand is_outside m.to m.brand m.value.content, (told.totals m.brand).burned);
      hand = omega (
        arith,
        at_brand is_hand m.to m.brand m.value.content,
        held-moved is_hand refl m.brand t m can,
        leaving_held is_hand refl m.brand t m can,
        held-inside m.brand t,
        held-inside m.brand (moved t m),
        held-moved is_inside refl m.brand t m can,
        held-moved is_purse refl m.brand t m can,
        held-moved is_payment refl m.brand t m can,
        held-moved is_slot refl m.brand t m can,
        sums.purses m.brand,
        sums.payments m.brand,
        sums.slots m.brand,
        sums.whole m.brand,
        (told.totals m.brand).purses,
        (told.totals m.brand).payments,
        (told.totals m.brand).slots,
        (told.totals m.brand).burned,
        (told.totals m.brand).minted,
        whole_at m.from m.brand m.value.content,
        whole_at m.to m.brand m.value.content,
      );
    };
    leaves = λ i. rw told.instances (omega (arith, told.shares i m.brand, leaving_held (is_slot_of e.instances i) refl m.brand t m can, sums.shares i m.brand));
    comes = λ i. rw told.instances (omega (arith, told.shares i m.brand, sums.shares i m.brand, share_held m.brand e.instances i t, sums.whole m.brand, within));
  }

-- a movement leads back to one state
module _ (e f g : EscrowState) (m : Movement) (there : IsTold e f m) (back : IsTold g f m) where
  same_totals : (a b c : Totals) (n : ℕ) → AreCounted a b m n → AreCounted c b m n → c ≡ a
  same_totals a b c n x y =
      let minted : c.minted ≡ a.minted = omega (arith, x.minted, y.minted) in
      let burned : c.burned ≡ a.burned = omega (arith, x.burned, y.burned) in
      let purses : c.purses ≡ a.purses = omega (arith, x.purses, y.purses) in
      let payments : c.payments ≡ a.payments = omega (arith, x.payments, y.payments) in
      let slots : c.slots ≡ a.slots = omega (arith, x.slots, y.slots) in
      λ i. record { minted = minted i; burned = burned i; purses = purses i; payments = payments i; slots = slots i }

  pub untold : IsSame e g
  untold =
      let instances : g.instances ≡ e.instances = sym back.instances ∙ there.instances in
      record {
        totals = λ b. same_totals (totals_of e b) (totals_of f b) (totals_of g b) b (there.totals b) (back.totals b);
        shares = λ i b. let one = there.shares i b in let other = subst (λ is. share_of f i b + leaving (is_slot_of is i) m b ≡ share_of g i b + coming (is_slot_of is i) m b) instances (back.shares i b) in omega (arith, one, other);
        instances = instances;
      }

-- ---- states that are read alike

pub sums_same : (t : Table) (e f : EscrowState) → IsSame e f → AreSums t e → AreSums t f
sums_same t e f same sums = record {
  purses = λ b. ap (λ (s : Totals). s.purses) (same.totals b) ∙ sums.purses b;
  payments = λ b. ap (λ (s : Totals). s.payments) (same.totals b) ∙ sums.payments b;
  slots = λ b. ap (λ (s : Totals). s.slots) (same.totals b) ∙ sums.slots b;
  shares = λ i b. same.shares i b ∙ sums.shares i b ∙ ap (λ is. held_over (is_slot_of is i) t b) (sym same.instances);
  whole = λ b. subst (λ (s : Totals). s.minted ≡ s.burned + held_over is_inside t b) (sym (same.totals b)) (sums.whole b);
  seats = λ seat past. sums.seats seat (subst (λ is. length is ≤ seat) same.instances past);
}

-- ---- seats

slot_before : (instances : List ℕ) (x i seat : ℕ) → seat ≢ length instances → option_map_or (λ y. y == i) (slice_get (instances ++ x ∷ []) seat) false ≡ option_map_or (λ y. y == i) (slice_get instances seat) false
slot_before [] x i zero other = absurd (other refl)
slot_before [] x i (suc seat) other = refl
slot_before (y ∷ instances) x i zero other = refl
slot_before (y ∷ instances) x i (suc seat) other = slot_before instances x i seat (λ is. other (ap suc is))

pub sums_seated : (t : Table) (e f : EscrowState) (x : ℕ) → IsSeated e f x → AreSums t e → AreSums t f
sums_seated t e f x seated sums = record {
  purses = λ b. rw seated.totals (sums.purses b);
  payments = λ b. rw seated.totals (sums.payments b);
  slots = λ b. rw seated.totals (sums.slots b);
  shares = λ i b. rw (seated.shares, seated.instances) (sums.shares i b ∙ sym (held-same (is_slot_of (e.instances ++ x ∷ []) i) (is_slot_of e.instances i) t b (alike i)));
  whole = λ b. rw seated.totals (sums.whole b);
  seats = λ seat past. sums.seats seat (let longer = ap length seated.instances ∙ length-append e.instances (x ∷ []) in omega (arith, longer, past));
}
  where
    alike : (i : ℕ) (h : Holder) (b : ℕ) → (holds t h b ≡ nothing) ⊎ (is_slot_of (e.instances ++ x ∷ []) i h ≡ is_slot_of e.instances i h)
    alike i (Purse n) b = inr refl
    alike i (Payment n) b = inr refl
    alike i (Slot seat k) b = elim (cases_eq seat (length e.instances)) [
      | inl is ↦ inl (sums.seats seat (omega (arith, is)) k b)
      | inr other ↦ inr (slot_before e.instances x i seat other)
    ]
    alike i Hand b = inr refl
    alike i Outside b = inr refl

-- ---- the start

pub sums_started : AreSums no_holdings nothing_told
sums_started = record {
  purses = λ b. sym (held-empty is_purse refl b);
  payments = λ b. sym (held-empty is_payment refl b);
  slots = λ b. sym (held-empty is_slot refl b);
  shares = λ i b. sym (held-empty (is_slot_of [] i) refl b);
  whole = λ b. omega (arith, held-empty is_inside refl b);
  seats = λ seat past k b. at-empty holdings (Slot seat k, b);
}
