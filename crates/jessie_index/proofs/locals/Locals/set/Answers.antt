use Rattle.std.proofs.Common.{sym, ap, subst, length, arith}
use Rattle.jessie_index.specs.Places.{IsFront}
use Rattle.jessie_index.proofs.Indexed.{names_set}
use Rattle.jessie_index.proofs.locals.Locals.set.Goals as goal

pub invariant_of-self : goal.invariant_of-self
invariant_of-self g c =
    let bs = c.self.inside.bindings.items in
    subst (λ names. IsFront c.self.inside.index names) (sym (names_set bs c.args.place c.index_mut.result.now c.args.value (omega (arith, c.requires, ap length c.self.view_is)) c.index_mut.ensures.value)) c.self.invariant
