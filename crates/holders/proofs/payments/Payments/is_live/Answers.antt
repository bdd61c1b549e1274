use Rattle.std.proofs.Common.{◌∙◌, ap, sym}
use Rattle.std.specs.Prelude.{is_some}
use Rattle.holders.proofs.Books.{held_kept}
use Rattle.holders.proofs.payments.Payments.is_live.Goals as goal

pub returns : goal.returns
returns c =
    rw (← c.self.view_is)
    (c.is_entry_of.ensures ∙ sym (ap is_some (held_kept c.args.payment.number c.args.payment.key c.self.inside.live c.self.inside.listed.items (rw (← c.self.view_is) at c.requires))))
