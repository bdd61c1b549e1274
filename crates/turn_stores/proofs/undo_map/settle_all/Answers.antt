use Rattle.std.proofs.Common.{◌≡◌, ◌<◌, ◌+◌, suc, ◌∷◌, ◌∙◌, arith, sym, ap, drop, length, add-one, drop-cons}
use Rattle.std.proofs.lemmas.List.{drop_all}
use Rattle.std.specs.BTreeMap.{get, is_at}
use Rattle.turn_stores.specs.UndoPlaces.{is_unsettled_at, is_listed}
use Rattle.turn_stores.proofs.Changes.{not_true, rest_listed}
use Rattle.turn_stores.proofs.undo_map.settle_all.Goals as goal

pub loop-key-preserved : goal.loop-key-preserved
loop-key-preserved g c =
    let key = c.key-item.result in
    let within : c.loop-key.key-index < length c.args.changed.now = c.loop-key-test.true in
    let next : drop c.loop-key.key-index c.args.changed.now ≡ c.key-item.result ∷ drop (c.loop-key.key-index + 1) c.args.changed.now =
    rw (add-one, drop-cons c.args.changed.now c.loop-key.key-index c.key-item.result) (ap (λ k. k ∷ drop (suc c.loop-key.key-index) c.args.changed.now) (sym c.key-item.is)) in
    record {
      ordered = c.settle.ensures.ordered;
      entries = c.settle.ensures.entries ∙ c.loop-key.invariant.entries;
      listed = λ q h. rest_listed (is_at (g.K.Ord.cmp key) q) (is_listed g.K.Ord.cmp q (drop (c.loop-key.key-index + 1) c.args.changed.now)) (get g.K.Ord.cmp c.loop-key.places q) (get g.K.Ord.cmp c.settle.new.places q) (c.settle.ensures.settled q) (c.settle.ensures.others q) (λ k. rw next at (c.loop-key.invariant.listed q k)) h;
      few = omega arith;
    }

pub returns-clause-settled : goal.returns-clause-settled
returns-clause-settled g c = λ q. not_true (is_unsettled_at (get g.K.Ord.cmp c.loop-key.places q)) (λ h. rw (drop_all c.loop-key.key-index c.args.changed.now c.loop-key-test.false) at (c.loop-key.invariant.listed q h))
