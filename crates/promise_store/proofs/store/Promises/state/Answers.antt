use Rattle.std.proofs.Common.{◌<◌, length, sym, ap, ◌∙◌, arith, map}
use Rattle.std.proofs.lemmas.List.{get_or-map, length-map}
use Rattle.promise_store.specs.Linked.{leader}
use Rattle.promise_store.specs.States.{settled, settlement_view, state_of, broken, is_final}
use Rattle.host_data.specs.Tree.{null}
use Rattle.promise_store.proofs.Whole.{final_at, numbered_at}
use Rattle.promise_store.proofs.store.Promises.state.Goals as goal

pub index-requires : goal.index-requires
index-requires g c =
    let was = c.args.self.now in
    omega (arith, was.settlements.ok.0, numbered_at (length was.settlements.items) _ _ _ was.whole.numbered (sym c.settlement.ensures ∙ c.in-Some.is))

pub returns-in-Some-clause-state : goal.returns-in-Some-clause-state
returns-in-Some-clause-state g c =
    let was = c.args.self.now in
    let ss = was.settlements.items in
    let k = c.in-Some.number in
    let is = sym c.settlement.ensures ∙ c.in-Some.is in
    let there : k < length ss = numbered_at (length ss) _ _ _ was.whole.numbered is in
    let same = get_or-map settlement_view ss k c.index.result.now (broken null) there ∙ ap settlement_view (sym c.index.ensures) in
    ap settled (sym same) ∙ ap (λ s. state_of (map settlement_view ss) s (leader was.links.now.follows c.args.promise)) (sym is)

pub returns-in-Some-clause-flat : goal.returns-in-Some-clause-flat
returns-in-Some-clause-flat g c =
    let was = c.args.self.now in
    let ss = was.settlements.items in
    let k = c.in-Some.number in
    let there : k < length ss = numbered_at (length ss) _ _ _ was.whole.numbered (sym c.settlement.ensures ∙ c.in-Some.is) in
    let same = get_or-map settlement_view ss k c.index.result.now (broken null) there ∙ ap settlement_view (sym c.index.ensures) in
    let within : k < length (map settlement_view ss) = omega (arith, there, length-map ss settlement_view) in
    sym (ap is_final same) ∙ final_at (map settlement_view ss) k (broken null) was.whole.final within
