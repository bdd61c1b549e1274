use Rattle.std.proofs.Common.{◌≡◌, ◌∙◌, Some, None, ap, refl, sym}
use Rattle.slab.specs.Slab.{get}
use Rattle.ertp_mint.specs.amount_math.Held.{Held}
use Rattle.ertp_mint.specs.amount_math.ValueView.{ValueView}
use Rattle.holders.specs.PaymentViews.{payment_view_at}
use Rattle.holders.specs.Kept.{held_by, payment_views_from}
use Rattle.holders.proofs.Books.{contains_held, held_kept, held_own, none_held, number_is}
use Rattle.holders.proofs.payments.Payments.amount.Goals as goal

pub returns-then-not-is_entry_of-clause-dead : goal.returns-then-not-is_entry_of-clause-dead
returns-then-not-is_entry_of-clause-dead c =
    let kept = rw (← c.self.view_is) at c.requires in
    let held = held_kept c.args.payment.number c.args.payment.key c.self.inside.live c.self.inside.listed.items kept in
    let none : (payment_view_at (payment_views_from 0 c.self.inside.live c.self.inside.listed.items) c.args.payment.number).held ≡ None = held ∙ none_held (held_by c.args.payment.number (get c.self.inside.live c.args.payment.key)) (sym c.is_entry_of.ensures ∙ c.if-not-is_entry_of.true) in
    rw (← c.self.view_is) (λ _. none, λ _. refl)

pub index-requires : goal.index-requires
index-requires c = contains_held c.args.payment.number (get c.self.inside.live c.args.payment.key) (sym c.is_entry_of.ensures ∙ c.if-not-is_entry_of.false)

pub returns-clause-held : goal.returns-clause-held
returns-clause-held c =
    let n = c.args.payment.number in
    let e = c.index.result.now in
    let kept = rw (← c.self.view_is) at c.requires in
    let held = held_kept n c.args.payment.key c.self.inside.live c.self.inside.listed.items kept in
    let is : get c.self.inside.live c.args.payment.key ≡ Some e = c.index.ensures in
    let number = number_is n (get c.self.inside.live c.args.payment.key) e is (sym c.is_entry_of.ensures ∙ c.if-not-is_entry_of.false) in
    rw (← c.self.view_is) (held ∙ (ap (held_by n) is ∙ (held_own e n number ∙ ap (λ (h : Held). Some h.value) (sym c.holding.ensures.holding))))

pub returns-clause-dead : goal.returns-clause-dead
returns-clause-dead c =
    let n = c.args.payment.number in
    let e = c.index.result.now in
    let kept = rw (← c.self.view_is) at c.requires in
    let held = held_kept n c.args.payment.key c.self.inside.live c.self.inside.listed.items kept in
    let is : get c.self.inside.live c.args.payment.key ≡ Some e = c.index.ensures in
    let number = number_is n (get c.self.inside.live c.args.payment.key) e is (sym c.is_entry_of.ensures ∙ c.if-not-is_entry_of.false) in
    let some : (payment_view_at (payment_views_from 0 c.self.inside.live c.self.inside.listed.items) n).held ≡ Some e.balance.amount.value = held ∙ (ap (held_by n) is ∙ held_own e n number) in
    rw (← c.self.view_is) (λ t. cc, λ none. cc)
