use Rattle.std.proofs.Common.{◌∙◌, ap, sym}
use Rattle.ertp_mint.specs.declared.place.Place.{Place}
use Rattle.ertp_mint.proofs.Placed.{held_at}
use Rattle.ertp_mint.proofs.keys_out.KeysOut.count_out.Goals as goal

pub returns : goal.returns
returns c = rw (← c.self.view_is) (ap (λ (p : Place). p.out) c.place_of-place.ensures ∙ sym (held_at c.self.inside.places.entries c.args.key.now))
