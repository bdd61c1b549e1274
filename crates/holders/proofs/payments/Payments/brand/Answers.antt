use Rattle.std.proofs.Common.{◌≡◌, ◌<◌, ◌∙◌, Some, ap, length, sym}
use Rattle.std.specs.Prelude.{slice_get}
use Rattle.std.proofs.lemmas.Option.{slice_get-get_or}
use Rattle.holders.specs.PaymentViews.{PaymentView}
use Rattle.holders.proofs.Books.{index_kept, payment_listed}
use Rattle.holders.proofs.payments.Payments.brand.Goals as goal

pub returns : goal.returns
returns c =
    let ls = c.self.inside.listed.items in
    let n = c.args.payment.number in
    let kept = rw (← c.self.view_is) at c.requires in
    let within : n < length ls = index_kept ls n c.args.payment.key kept in
    let there : slice_get ls n ≡ Some c.index.result.now = slice_get-get_or ls n c.index.result.now within ∙ ap (λ l. Some l) (sym c.index.ensures) in
    rw (← c.self.view_is) (sym (ap (λ (p : PaymentView). p.brand) (payment_listed n c.self.inside.live ls c.index.result.now there)))
