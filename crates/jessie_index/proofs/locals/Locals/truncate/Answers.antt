use Rattle.std.proofs.Common.{◌≡◌, sym, ap, subst, ◌∙◌, take}
use Rattle.jessie_index.specs.Places.{IsFront, names_of}
use Rattle.jessie_index.proofs.Indexed.{front_cut, names_take}
use Rattle.jessie_index.proofs.locals.Locals.truncate.Goals as goal

pub invariant_of-self : goal.invariant_of-self
invariant_of-self g c =
    let bs = c.self.inside.bindings.items in
    let names : take c.args.n (names_of bs) ≡ names_of c.truncate-2.new.self.items = sym (ap names_of c.truncate-2.ensures.items ∙ names_take c.args.n bs) in
    subst (λ f. IsFront f (names_of c.truncate-2.new.self.items)) (sym c.truncate.ensures)
    (subst (λ names. IsFront (take c.args.n c.self.inside.index) names) names (front_cut c.args.n c.self.inside.index (names_of bs) c.self.invariant))
