use Rattle.std.proofs.Common.{◌≡◌, ◌+◌, ◌<◌, ℕ, arith, ap, length, refl, sym, ◌∙◌, subst, Some, None}
use Rattle.std.specs.Prelude.{is_some, slice_get, slice_set}
use Rattle.ertp_mint.specs.amount_math.declared.Amount.{Amount}
use Rattle.slab.specs.Slab.{get}
use Rattle.holders.specs.PaymentViews.{PaymentView, live_payment, payment_view_at, spent_payment}
use Rattle.holders.specs.Kept.{AreKept, held_by, payment_views_from}
use Rattle.holders.proofs.Books.{held_kept, listed_of, none_held, number_is, payment_live, spent_kept, spent_payments}
use Rattle.holders.proofs.payments.Payments.spend.Goals as goal

pub returns-then-not-is_entry_of-clause-dead : goal.returns-then-not-is_entry_of-clause-dead
returns-then-not-is_entry_of-clause-dead c =
    let kept = rw (← c.self.view_is) at c.requires in
    let held = held_kept c.args.payment.number c.args.payment.key c.self.inside.live c.self.inside.listed.items kept in
    let none : (payment_view_at (payment_views_from 0 c.self.inside.live c.self.inside.listed.items) c.args.payment.number).held ≡ None = held ∙ none_held (held_by c.args.payment.number (get c.self.inside.live c.args.payment.key)) (sym c.is_entry_of.ensures ∙ c.if-not-is_entry_of.true) in
    rw (← c.self.view_is) (λ _. none, λ _. refl)

pub invariant_of-self : goal.invariant_of-self
invariant_of-self c =
    let n = c.args.payment.number in
    let key = c.args.payment.key in
    let live = c.self.inside.live in
    let after = c.remove-entry.new.self in
    let ls = c.self.inside.listed.items in
    let e = c.remove-entry.result in
    let kept = rw (← c.self.view_is) at c.requires in
    let is : get live key ≡ Some e = c.remove-entry.ensures.value in
    let number = number_is n (get live key) e is (sym c.is_entry_of.ensures ∙ c.if-not-is_entry_of.false) in
    let there : slice_get ls n ≡ Some (listed_of e key) = subst (λ (i : ℕ). slice_get ls i ≡ Some (listed_of e key)) number (c.self.invariant.kept.entries key e is) in
    let held : (payment_view_at (payment_views_from 0 live ls) n).held ≡ Some e.balance.amount.value = ap (λ (p : PaymentView). p.held) (payment_live live after ls n key e there is number) in
    let left : AreKept after ls = spent_kept live after ls n key e c.self.invariant.kept there is number c.remove-entry.ensures.updates c.remove-entry.ensures.len in
    record { kept = left; few = c.self.invariant.few }

pub returns-clause-ok : goal.returns-clause-ok
returns-clause-ok c =
    let n = c.args.payment.number in
    let key = c.args.payment.key in
    let live = c.self.inside.live in
    let after = c.remove-entry.new.self in
    let ls = c.self.inside.listed.items in
    let e = c.remove-entry.result in
    let kept = rw (← c.self.view_is) at c.requires in
    let is : get live key ≡ Some e = c.remove-entry.ensures.value in
    let number = number_is n (get live key) e is (sym c.is_entry_of.ensures ∙ c.if-not-is_entry_of.false) in
    let there : slice_get ls n ≡ Some (listed_of e key) = subst (λ (i : ℕ). slice_get ls i ≡ Some (listed_of e key)) number (c.self.invariant.kept.entries key e is) in
    let held : (payment_view_at (payment_views_from 0 live ls) n).held ≡ Some e.balance.amount.value = ap (λ (p : PaymentView). p.held) (payment_live live after ls n key e there is number) in
    let left : AreKept after ls = spent_kept live after ls n key e c.self.invariant.kept there is number c.remove-entry.ensures.updates c.remove-entry.ensures.len in
    rw (← c.self.view_is, c.into_parcel.ensures) (record {
      payment_view = payment_live live after ls n key e there is number;
      views = spent_payments live after ls n key e there is number c.remove-entry.ensures.updates;
      keys = refl;
      next_key = kept ∙ ap (λ k. Some k) (sym c.remove-entry.ensures.key_is_next);
      room = c.remove-entry.ensures.capacity;
      vacancy = (let room = c.remove-entry.ensures.room in let counted = left.counted in omega (arith, room, counted));
    })

pub returns-clause-dead : goal.returns-clause-dead
returns-clause-dead c =
    let n = c.args.payment.number in
    let key = c.args.payment.key in
    let live = c.self.inside.live in
    let after = c.remove-entry.new.self in
    let ls = c.self.inside.listed.items in
    let e = c.remove-entry.result in
    let kept = rw (← c.self.view_is) at c.requires in
    let is : get live key ≡ Some e = c.remove-entry.ensures.value in
    let number = number_is n (get live key) e is (sym c.is_entry_of.ensures ∙ c.if-not-is_entry_of.false) in
    let there : slice_get ls n ≡ Some (listed_of e key) = subst (λ (i : ℕ). slice_get ls i ≡ Some (listed_of e key)) number (c.self.invariant.kept.entries key e is) in
    let held : (payment_view_at (payment_views_from 0 live ls) n).held ≡ Some e.balance.amount.value = ap (λ (p : PaymentView). p.held) (payment_live live after ls n key e there is number) in
    let left : AreKept after ls = spent_kept live after ls n key e c.self.invariant.kept there is number c.remove-entry.ensures.updates c.remove-entry.ensures.len in
    rw (← c.self.view_is) (λ t. cc, λ none. cc)
