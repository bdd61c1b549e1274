use Rattle.std.proofs.Common.{◌≡◌, ◌≤◌, sym, subst}
use Rattle.std.proofs.lemmas.Result.{IfOk-weaker}
use Rattle.host_data.specs.Tree.{Tree, Ordered, nesting}
use Rattle.host_data.specs.View.{tree}
use Rattle.host_data.specs.Nodes.{EachNode}
use Rattle.refusals.specs.Codes.{refusal_tree}
use Rattle.refusals.specs.Plain.{IsPlain}
use Rattle.refusals.proofs.Plainly.{nests, ordered, plain}
use Rattle.refusals.proofs.codes.Refusal.data.Goals as goal

pub returns-clause-plain : goal.returns-clause-plain
returns-clause-plain c =
    IfOk-weaker c.record_of.result (λ made. tree made ≡ refusal_tree c.args.self.now) (λ made. EachNode IsPlain 0 (tree made))
    (λ made is. let P : Tree → Type 0 = EachNode IsPlain 0 in subst P (sym is) (plain c.args.self.now 0)) c.record_of.ensures

pub returns-clause-ordered : goal.returns-clause-ordered
returns-clause-ordered c =
    IfOk-weaker c.record_of.result (λ made. tree made ≡ refusal_tree c.args.self.now) (λ made. Ordered (tree made))
    (λ made is. let P : Tree → Type 0 = Ordered in subst P (sym is) (ordered c.args.self.now)) c.record_of.ensures

pub returns-clause-nests : goal.returns-clause-nests
returns-clause-nests c =
    IfOk-weaker c.record_of.result (λ made. tree made ≡ refusal_tree c.args.self.now) (λ made. nesting (tree made) ≤ 4)
    (λ made is. let P : Tree → Type 0 = λ t. nesting t ≤ 4 in subst P (sym is) (nests c.args.self.now)) c.record_of.ensures
