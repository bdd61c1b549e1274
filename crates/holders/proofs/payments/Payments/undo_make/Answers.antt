use Rattle.std.proofs.Common.{◌≡◌, ◌-◌, ℕ, subst, true}
use Rattle.holders.specs.PaymentViews.{is_live, payment_view_at}
use Rattle.holders.specs.Kept.{payment_views_from}
use Rattle.holders.proofs.Books.{payment_views_long}
use Rattle.holders.proofs.payments.Payments.undo_make.Goals as goal

pub remove_last-requires-clause-last : goal.remove_last-requires-clause-last
remove_last-requires-clause-last c =
    let live = rw (← c.self.view_is) at c.requires.live in
    subst (λ (n : ℕ). is_live (payment_view_at (payment_views_from 0 c.self.inside.live c.self.inside.listed.items) (n - 1)) ≡ true) (payment_views_long 0 c.self.inside.live c.self.inside.listed.items) live
