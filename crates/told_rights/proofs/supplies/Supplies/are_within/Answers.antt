use Rattle.std.proofs.Common.{◌≡◌, ap, length, subst, sym, ◌∙◌}
use Rattle.std.specs.Ordering.{nat_cmp}
use Rattle.told_rights.specs.Shelves.{AreFilled}
use Rattle.told_rights.specs.Supplies.{Supply}
use Rattle.told_rights.proofs.Noting.{none_if_within, within_if_none}
use Rattle.told_rights.proofs.supplies.Supplies.are_within.Goals as goal

pub returns : goal.returns
returns c =
    let s : Supply = c.args.self.now in
    let filled : AreFilled nat_cmp s.over = subst (λ (t : Supply). AreFilled nat_cmp t.over) c.self.view_is c.self.invariant in
    let len : length c.self.inside.over.entries ≡ length s.over = ap (λ (t : Supply). length t.over) c.self.view_is in
    λ kind_of bounded. (λ h. within_if_none s filled kind_of bounded (sym len ∙ c.is_empty.ensures.0 h), λ w. c.is_empty.ensures.1 (len ∙ none_if_within s filled kind_of bounded w))
