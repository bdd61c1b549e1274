use Rattle.std.proofs.Common.{◌≡◌, Some, None, true, false, sym, subst, ◌∙◌}
use Rattle.std.proofs.lemmas.Result.{on_ok_weaker}
use Rattle.told_causes.specs.ToldCauses.{standing_at}
use Rattle.told_causes.specs.StandingSteps.{IsStopped}
use Rattle.told_causes.proofs.Ones.{gone_told, marked_told, stays_told, woken_told}
use Rattle.told_causes.proofs.standings.Standings.show.Goals as goal

pub returns-then-not-stop_waiting : goal.returns-then-not-stop_waiting
returns-then-not-stop_waiting c = λ i call shown told.
    let none : standing_at c.args.self.now c.args.seat ≡ None = sym c.standing.ensures ∙ c.in_default.is in
    let off : IsStopped c.args.self.now c.stop_waiting.new.self c.args.seat false = subst (IsStopped c.args.self.now c.stop_waiting.new.self c.args.seat) c.if-not-stop_waiting.true c.stop_waiting.ensures in
    gone_told c.args.self.now c.stop_waiting.new.self i c.args.seat c.args.cause call shown told none off

pub returns-in_default : goal.returns-in_default
returns-in_default c =
    let none : standing_at c.args.self.now c.args.seat ≡ None = sym c.standing.ensures ∙ c.in_default.is in
    let off : IsStopped c.args.self.now c.stop_waiting.new.self c.args.seat true = subst (IsStopped c.args.self.now c.stop_waiting.new.self c.args.seat) c.if-not-stop_waiting.false c.stop_waiting.ensures in
    on_ok_weaker c.put.result (λ put i call shown told. woken_told c.args.self.now c.stop_waiting.new.self c.put.new.self i c.args.seat c.args.cause call shown told none off put) c.put.ensures

pub returns-in-Some-shown : goal.returns-in-Some-shown
returns-in-Some-shown c = λ i call shown told. stays_told c.args.self.now i c.args.seat c.args.cause c.in-Some-shown.field-0 call c.in-Some.standing shown told (sym c.standing.ensures ∙ c.in-Some.is) c.in-Some-shown.is

pub returns-in-None : goal.returns-in-None
returns-in-None c =
    let was : standing_at c.args.self.now c.args.seat ≡ Some c.in-Some.standing = sym c.standing.ensures ∙ c.in-Some.is in
    on_ok_weaker c.put-in-None.result (λ put i call shown told. marked_told c.args.self.now c.put-in-None.new.self i c.args.seat c.args.cause call c.in-Some.standing shown told was c.in-None.is put) c.put-in-None.ensures
