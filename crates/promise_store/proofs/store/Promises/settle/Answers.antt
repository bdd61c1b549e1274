use Rattle.std.proofs.Common.{◌≡◌, [], ◌∷◌, ◌++◌, length, refl, ◌∙◌, ap}
use Rattle.promise_store.specs.Cascade.{settled_in}
use Rattle.promise_store.proofs.Alike.{alike_settled, settled_with}
use Rattle.promise_store.proofs.Whole.{pending_is, whole_settled}
use Rattle.promise_store.proofs.store.Promises.settle.Goals as goal

pub invariant_of-self : goal.invariant_of-self
invariant_of-self g c =
    let was = c.args.self.now in
    let ss = was.settlements.items in
    let es = c.in-Ok.events.items in
    let alike = alike_settled was.links.now (length ss) c.args.promise es c.valid.ensures.forest (pending_is _ _ _ c.requires.is_pending).1 was.whole.alike (c.in-Ok.ensures).events in
    let pushed : c.push_reserved.new.self.items ≡ ss ++ c.args.settlement ∷ [] = c.push_reserved.ensures.items ∙ ap (λ xs. xs ++ c.args.settlement ∷ []) c.settle_with_next.ensures.items in
    record { whole = rw pushed (whole_settled was.links c.settle_with_next.new.links was.entries.items ss c.args.settlement (settled_in es) was.kept_entries was.kept_settlements (length ss) (c.in-Ok.ensures).ok was.whole refl c.requires.is_final alike) }

pub returns-in-Ok-clause-settled : goal.returns-in-Ok-clause-settled
returns-in-Ok-clause-settled g c =
    let was = c.args.self.now in
    let ss = was.settlements.items in
    let pushed : c.push_reserved.new.self.items ≡ ss ++ c.args.settlement ∷ [] = c.push_reserved.ensures.items ∙ ap (λ xs. xs ++ c.args.settlement ∷ []) c.settle_with_next.ensures.items in
    rw pushed (settled_with was.links c.settle_with_next.new.links was.entries.items ss c.args.settlement c.args.promise c.in-Ok.events.items c.valid.ensures.forest (c.in-Ok.ensures).events was.whole.numbered (c.in-Ok.ensures).ok)
