use Rattle.std.specs.Prelude.{IsTrue}
use Rattle.std.proofs.Common.{◌≡◌, ◌↔◌, true, refl, subst, sym}
use Rattle.told_causes.specs.ToldCauses.{AreCaused}
use Rattle.told_causes.proofs.Ended.{before_told, ends_if, ends_not}
use Rattle.told_causes.proofs.standings.Standings.may_end.Goals as goal

pub returns-then-are_settled-clause-decides : goal.returns-then-are_settled-clause-decides
returns-then-are_settled-clause-decides c = λ i told by_row. ends_if c.args.self.now i c.args.shows told by_row (c.if-are_settled.ensures.0 refl) c.shows_waiting.result c.shows_waiting.ensures

pub returns-then-are_settled-clause-told : goal.returns-then-are_settled-clause-told
returns-then-are_settled-clause-told c = λ yes i told. before_told c.args.self.now i told (c.if-are_settled.ensures.0 refl)

pub returns-else-are_settled-clause-decides : goal.returns-else-are_settled-clause-decides
returns-else-are_settled-clause-decides c = λ i told by_row. subst (λ b. IsTrue b ↔ AreCaused i) (sym c.if-are_settled.false) (ends_not c.args.self.now i c.args.shows told by_row (λ h. let e : c.are_settled.result ≡ true = c.are_settled.ensures.1 h in let f = c.if-are_settled.false in cc))
