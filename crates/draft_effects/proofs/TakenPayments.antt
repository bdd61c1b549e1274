-- Payments that can go whole to one in the world can be taken, one after another, from a draft's lists; and what they have can be added.
use Rattle.std.specs.Prelude.{IsSomeAnd, cond, slice_set}
use Rattle.std.specs.List.{AllByRecursion}
use Rattle.std.proofs.Common.{◌≡◌, ◌≢◌, ℕ, ◌+◌, ◌<◌, ◌≤◌, ◌==◌, Bool, true, false, List, [], ◌∷◌, ◌++◌, length, map, refl, sym, ◌∙◌, ap, subst, arith}
use Rattle.std.proofs.lemmas.Bool.{eq-eqb, eqb-true, ne_eqb}
use Rattle.draft_reads.specs.amount_math.Content.{Content, Contains, Contains-refl, sum, sum-assoc, sum-nothing}
use Rattle.draft_reads.specs.amount_math.ValueView.{IsValue, ValueView, with_content}
use Rattle.draft_effects.proofs.MovedPayments.{payment_whole, pays_moved}
use Rattle.draft_reads.specs.ertp_mint.BrandSupply.{BrandSupply}
use Rattle.draft_reads.proofs.lemmas.ListEdits.{length_push, length_set, read_other, read_pushed, read_set}
use Rattle.draft_reads.specs.world_state.Shapes.{AreOnce, IsNotAmong, payment_part}
use Rattle.draft_effects.specs.Sums.{AddUp}
use Rattle.draft_reads.specs.holders.PaymentViews.{PaymentView, live_payment, payment_view_at, spent_payment}
use Rattle.draft_reads.specs.rights_model.declared.Holder.TheVariants.{Hand, Payment}
use Rattle.draft_reads.specs.rights_model.declared.Movement.{Movement}
use Rattle.draft_reads.specs.rights_model.Table.{movement}
use Rattle.draft_reads.specs.vault_model.Flows.{content_of, gathered}
use Rattle.draft_reads.specs.vault_model.Lists.{CanTake, Lists, amount_of, taken}
use Rattle.draft_reads.specs.vault_model.Tables.{content_held, hand_plus, no_hand}
use Rattle.draft_reads.specs.world_laws.Combinations.{CanTakeAll, all_taken}
use Rattle.draft_effects.specs.HandStore.{CanCarryAll, all_carried, hand_after_all}
use Rattle.draft_reads.specs.vault.Drafts.{IsOfBrand}
use Rattle.draft_reads.specs.world_state.Good.{HasNothing, HoldsNothing}
use Rattle.draft_reads.specs.world_state.Rights.{CanMove, CanMoveAll, IsNextOr, PaymentHas, Rights, Takes, all_moved, kind_at, moved, lessened_payment, raised_payment, paid_payment}
use Rattle.draft_effects.proofs.CombinationsApart.{all_read, given_read, moved_most, moved_read, written}

abbrev Empties : Rights → List Movement → Type 0
Empties r ms = AllByRecursion (λ (m : Movement). HasNothing (all_moved r ms).payments m.from) ms

-- those that are left are as the lists have them
abbrev pub SameLeft : Lists → Rights → List (ℕ × ValueView) → Type 0
SameLeft s r [] = Unit {0}
SameLeft s r (p ∷ ps) = (payment_view_at s.payments p.0 ≡ payment_view_at r.payments p.0) × SameLeft s r ps

abbrev pub done : ℕ → List (ℕ × ValueView) → List Movement
done b ps = gathered b Hand (map payment_part ps)

pub record AreTaken (s : Lists) (h : ℕ → Content) (b : ℕ) (ps : List (ℕ × ValueView)) : Type 0 where
  pub can : CanCarryAll s h (done b ps)
  pub taken : CanTakeAll s b (map payment_part ps)

both_taken : (s : Lists) (h : ℕ → Content) (b : ℕ) (p : ℕ × ValueView) (ps : List (ℕ × ValueView)) → CanTake s (Payment p.0) b p.1 → IsOfBrand s b p.1 → AreTaken (taken s (Payment p.0) b p.1) (hand_plus h b p.1.content) b ps → AreTaken s h b (p ∷ ps)
both_taken s h b p ps take brand rest = record {
  can = (
    record {
      to = refl;
      store = record {
        source = record { made = take.made; is = take.is ∙ ap (λ e. live_payment (amount_of e p.1)) (sym at) };
        brand = subst (λ e. IsOfBrand s e p.1) (sym at) brand;
        has = subst (λ (q : PaymentView). Contains (content_held q.held) p.1.content) (sym take.is) (Contains-refl p.1.content);
      };
      brand = at;
    },
    rest.can,
  );
  taken = (take, rest.taken);
}
  where
    at : (payment_view_at s.payments p.0).brand ≡ b
    at = ap (λ (q : PaymentView). q.brand) take.is

still_same : (s : Lists) (r : Rights) (b to : ℕ) (p : ℕ × ValueView) (ps : List (ℕ × ValueView)) → IsNotAmong p.0 ps → IsNotAmong to ps → SameLeft s r ps → SameLeft (taken s (Payment p.0) b p.1) (moved r (movement b (Payment p.0) (Payment to) p.1)) ps
still_same s r b to p [] from goes same = tt
still_same s r b to p (q ∷ qs) from goes same = (
  read_other s.payments p.0 q.0 (spent_payment b) (spent_payment 0) (λ e. from.0 (sym e))
      ∙ same.0
      ∙ sym (moved_read r b p.0 to q.0 p.1 (λ e. from.0 (sym e)) (λ e. goes.0 (sym e))),
  still_same s r b to p qs from.1 goes.1 same.1,
)

pub payments_taken : (s : Lists) (h : ℕ → Content) (r : Rights) (b to : ℕ) (ps : List (ℕ × ValueView)) → s.out ≡ r.out → to ≡ length s.payments → length r.payments ≤ to + 1 → SameLeft s r ps → AreOnce ps → IsNotAmong to ps → CanMoveAll r no_hand (written b to ps) → Empties r (written b to ps) → AreTaken s h b ps
payments_taken s h r b to [] outs next most same once apart can empties = record { can = tt; taken = tt }
payments_taken s h r b to (p ∷ ps) outs next most same once apart can empties = both_taken s h b p ps take brand (payments_taken (taken s (Payment p.0) b p.1) (hand_plus h b p.1.content) (moved r first) b to ps
    outs
    (next ∙ sym (length_set s.payments p.0 (spent_payment b)))
    (moved_most r b p.0 to p.1 most)
    (still_same s r b to p ps once.0 apart.1 same.1)
    once.1 apart.1 can.1 empties.1)
  where
    first : Movement
    first = movement b (Payment p.0) (Payment to) p.1

    goes : to ≢ p.0
    goes e = apart.0 (sym e)

    has : PaymentHas r p.0 b p.1
    has = can.0.from

    less : PaymentView
    less = lessened_payment (payment_view_at r.payments p.0) p.1.content

    left : payment_view_at (all_moved (moved r first) (written b to ps)).payments p.0 ≡ less
    left =
        all_read (moved r first) b to p.0 ps once.0 goes
        ∙ given_read r b p.0 to p.1 goes
        ∙ read_set r.payments p.0 less (spent_payment 0) has.made

    brand : IsOfBrand s b p.1
    brand = record {
      made = subst (λ (l : List BrandSupply). b < length l) (sym outs) can.0.brand;
      kind = subst (λ (l : List BrandSupply). kind_at l b ≡ p.1.kind) (sym outs) can.0.kind;
    }

    take : CanTake s (Payment p.0) b p.1
    take = record {
      made = omega (arith, has.made, most, next, goes);
      is = same.0 ∙ payment_whole (payment_view_at r.payments p.0) b p.1 has.has (subst HoldsNothing left empties.0);
    }

pub same_at_start : (s : Lists) (r : Rights) (ps : List (ℕ × ValueView)) → s.payments ≡ r.payments → SameLeft s r ps
same_at_start s r [] same = tt
same_at_start s r (p ∷ ps) same = (ap (λ l. payment_view_at l p.0) same, same_at_start s r ps same)

-- ---- the lists and the hand then

pub carried_taken : (s : Lists) (b : ℕ) (ps : List (ℕ × ValueView)) → all_carried s (done b ps) ≡ all_taken s b (map payment_part ps)
carried_taken s b [] = refl
carried_taken s b (p ∷ ps) = carried_taken (taken s (Payment p.0) b p.1) b ps

-- of what is told of lists only the payments change
pub record KeepsAll (s t : Lists) : Type 0 where
  pub out : t.out ≡ s.out
  pub owed : t.owed ≡ s.owed
  pub seats : t.seats ≡ s.seats
  pub long : length t.payments ≡ length s.payments

pub taken_keeps : (s : Lists) (b : ℕ) (ps : List (ℕ × ValueView)) → KeepsAll s (all_taken s b (map payment_part ps))
taken_keeps s b [] = record { out = refl; owed = refl; seats = refl; long = refl }
taken_keeps s b (p ∷ ps) =
    let rest = taken_keeps (taken s (Payment p.0) b p.1) b ps in
    record { out = rest.out; owed = rest.owed; seats = rest.seats; long = rest.long ∙ length_set s.payments p.0 (spent_payment b) }

pub hand_here : (h : ℕ → Content) (b : ℕ) (ps : List (ℕ × ValueView)) → hand_after_all h (done b ps) b ≡ sum (h b) (content_of (map payment_part ps))
hand_here h b [] = sym (sum-nothing (h b))
hand_here h b (p ∷ ps) =
    hand_here (hand_plus h b p.1.content) b ps
    ∙ ap (λ t. sum (cond t (sum (h b) p.1.content) (h b)) (content_of (map payment_part ps))) (eq-eqb b b refl)
    ∙ sum-assoc (h b) p.1.content (content_of (map payment_part ps))

pub hand_there : (h : ℕ → Content) (b e : ℕ) (ps : List (ℕ × ValueView)) → b ≢ e → hand_after_all h (done b ps) e ≡ h e
hand_there h b e [] apart = refl
hand_there h b e (p ∷ ps) apart = hand_there (hand_plus h b p.1.content) b e ps apart ∙ ap (λ t. cond t (sum (h e) p.1.content) (h e)) (ne_eqb b e apart)

-- ---- what they have can be added: the new payment takes it

module _ (b to : ℕ) where
  takes_more : (r : Rights) (p : ℕ) (acc w : ValueView) → length r.payments ≡ to + 1 → to ≢ p → payment_view_at r.payments to ≡ live_payment (amount_of b acc) → CanMove r no_hand (movement b (Payment p) (Payment to) w) → Takes (amount_of b acc) b w
  takes_more r p acc w long apart payment_view can = by (to == length out) refl can.to
    where
      less : PaymentView
      less = lessened_payment (payment_view_at r.payments p) w.content

      out : List PaymentView
      out = slice_set r.payments p less

      there : payment_view_at out to ≡ live_payment (amount_of b acc)
      there = read_other r.payments p to less (spent_payment 0) (λ e. apart (sym e)) ∙ payment_view

      by : (t : Bool) → (to == length out) ≡ t → IsNextOr t (record r { payments = out }) to b w → Takes (amount_of b acc) b w
      by true is next = absurd (omega (arith, eqb-true to (length out) is, length_set r.payments p less, long))
      by false is more = subst (λ (q : PaymentView). IsSomeAnd q.held (λ held. Takes (amount_of q.brand held) b w)) there more.takes

  more_there : (r : Rights) (p : ℕ) (acc w : ValueView) → length r.payments ≡ to + 1 → to ≢ p → payment_view_at r.payments to ≡ live_payment (amount_of b acc) → let next = moved r (movement b (Payment p) (Payment to) w) in (length next.payments ≡ to + 1) × (payment_view_at next.payments to ≡ live_payment (amount_of b (with_content acc (sum acc.content w.content))))
  more_there r p acc w long apart payment_view = (
    ap (λ (l : List PaymentView). length l) now ∙ length_set out to (paid_payment out to (amount_of b w)) ∙ long_out,
    ap (λ l. payment_view_at l to) now ∙ read_set out to (paid_payment out to (amount_of b w)) (spent_payment 0) (omega (arith, long_out)) ∙ ap (λ q. raised_payment q w.content) there,
  )
    where
      less : PaymentView
      less = lessened_payment (payment_view_at r.payments p) w.content

      out : List PaymentView
      out = slice_set r.payments p less

      long_out : length out ≡ to + 1
      long_out = length_set r.payments p less ∙ long

      there : payment_view_at out to ≡ live_payment (amount_of b acc)
      there = read_other r.payments p to less (spent_payment 0) (λ e. apart (sym e)) ∙ payment_view

      now : (moved r (movement b (Payment p) (Payment to) w)).payments ≡ slice_set out to (paid_payment out to (amount_of b w))
      now =
          pays_moved r (movement b (Payment p) (Payment to) w)
          ∙ ap (λ t. cond t (out ++ live_payment (amount_of b w) ∷ []) (slice_set out to (paid_payment out to (amount_of b w)))) (ne_eqb to (length out) (λ e. absurd (omega (arith, e, long_out))))

  pub add_up : (r : Rights) (acc : ValueView) (ps : List (ℕ × ValueView)) → length r.payments ≡ to + 1 → IsNotAmong to ps → payment_view_at r.payments to ≡ live_payment (amount_of b acc) → CanMoveAll r no_hand (written b to ps) → AddUp acc (written b to ps)
  add_up r acc [] long apart payment_view can = tt
  add_up r acc (p ∷ ps) long apart payment_view can = (
    (takes.kind, subst (λ k. IsValue k (sum acc.content p.1.content)) (sym takes.kind) takes.value),
    add_up (moved r (movement b (Payment p.0) (Payment to) p.1)) (with_content acc (sum acc.content p.1.content)) ps then.0 apart.1 then.1 can.1,
  )
    where
      goes : to ≢ p.0
      goes e = apart.0 (sym e)

      takes : Takes (amount_of b acc) b p.1
      takes = takes_more r p.0 acc p.1 long goes payment_view can.0

      then : (length (moved r (movement b (Payment p.0) (Payment to) p.1)).payments ≡ to + 1) × (payment_view_at (moved r (movement b (Payment p.0) (Payment to) p.1)).payments to ≡ live_payment (amount_of b (with_content acc (sum acc.content p.1.content))))
      then = more_there r p.0 acc p.1 long goes payment_view

  -- the first makes it
  pub made_there : (r : Rights) (p : ℕ) (w : ValueView) → to ≡ length r.payments → let next = moved r (movement b (Payment p) (Payment to) w) in (length next.payments ≡ to + 1) × (payment_view_at next.payments to ≡ live_payment (amount_of b w))
  made_there r p w is = (
    ap (λ (l : List PaymentView). length l) now ∙ length_push out (live_payment (amount_of b w)) ∙ ap (λ n. n + 1) (length_set r.payments p less ∙ sym is),
    ap (λ l. payment_view_at l to) now ∙ read_pushed out (live_payment (amount_of b w)) (spent_payment 0) to (is ∙ sym (length_set r.payments p less)),
  )
    where
      less : PaymentView
      less = lessened_payment (payment_view_at r.payments p) w.content

      out : List PaymentView
      out = slice_set r.payments p less

      now : (moved r (movement b (Payment p) (Payment to) w)).payments ≡ out ++ live_payment (amount_of b w) ∷ []
      now =
          pays_moved r (movement b (Payment p) (Payment to) w)
          ∙ ap (λ t. cond t (out ++ live_payment (amount_of b w) ∷ []) (slice_set out to (paid_payment out to (amount_of b w)))) (eq-eqb to (length out) (is ∙ sym (length_set r.payments p less)))
