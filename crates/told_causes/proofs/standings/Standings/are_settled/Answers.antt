use Rattle.std.proofs.Common.{◌≡◌, ◌∷◌, [], ◌++◌, ap, sym, ◌∙◌, append_assoc, append-nil}
use Rattle.std.specs.BTreeMap.{values}
use Rattle.told_causes.proofs.Ended.{settled_all, settled_more, settled_not}
use Rattle.told_causes.proofs.standings.Standings.are_settled.Goals as goal

pub returns-then-not-is_settled : goal.returns-then-not-is_settled
returns-then-not-is_settled c =
    let done = c.loop-standing.invariant.0 in
    let all : values c.args.self.now.standings ≡ done ++ c.in-Some.standing.now ∷ c.next.new.self = c.loop-standing.invariant.1 ∙ ap (λ ss. done ++ ss) c.in-Some.ensures.steps in
    settled_not c.args.self.now done c.in-Some.standing.now c.next.new.self all c.values-standing-items.ensures.ordered c.is_settled.result c.is_settled.ensures c.if-not-is_settled.true

pub loop-standing-preserved : goal.loop-standing-preserved
loop-standing-preserved c =
    let done = c.loop-standing.invariant.0 in
    let all : values c.args.self.now.standings ≡ done ++ c.in-Some.standing.now ∷ c.next.new.self = c.loop-standing.invariant.1 ∙ ap (λ ss. done ++ ss) c.in-Some.ensures.steps in (
      done ++ c.in-Some.standing.now ∷ [],
      all ∙ sym (append_assoc done (c.in-Some.standing.now ∷ []) c.next.new.self),
      settled_more done c.in-Some.standing.now c.loop-standing.invariant.2 (c.is_settled.ensures.0 c.if-not-is_settled.false),
    )

pub returns : goal.returns
returns c =
    let all : values c.args.self.now.standings ≡ c.loop-standing.invariant.0 = c.loop-standing.invariant.1 ∙ ap (λ ss. c.loop-standing.invariant.0 ++ ss) c.in-None.ensures.steps.0 ∙ append-nil c.loop-standing.invariant.0 in
    settled_all c.args.self.now c.loop-standing.invariant.0 all c.loop-standing.invariant.2
