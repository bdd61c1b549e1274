use Rattle.std.proofs.Common.{refl, sym}
use Rattle.std.proofs.lemmas.List.{take-map}
use Rattle.promise_store.specs.States.{settlement_view}
use Rattle.promise_store.proofs.Changes.{take_twice}
use Rattle.promise_store.proofs.Whole.{whole_back}
use Rattle.promise_store.proofs.store.Promises.back.Goals as goal

pub invariant_of-self : goal.invariant_of-self
invariant_of-self g c = record { whole = whole_back c.args.self.now.links c.back.new.self _ _ _ _ _ _ c.back.ensures c.truncate.ensures.items c.truncate-2.ensures.items c.args.self.now.whole }

pub returns : goal.returns
returns g c =
    let k = c.args.self.now.kept_settlements in
    let ss = c.args.self.now.settlements.items in
    rw (c.back.ensures, c.truncate.ensures.items, c.truncate-2.ensures.items, take_twice) (rw (sym (take-map settlement_view k ss)) (rw take_twice refl))
