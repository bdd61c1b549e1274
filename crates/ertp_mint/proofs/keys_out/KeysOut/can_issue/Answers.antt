use Rattle.std.proofs.Common.{IfErr, IsOk}
use Rattle.amount_math.specs.Content.{Content}
use Rattle.amount_math.specs.ValueView.{Fits, IsCountRefusal}
use Rattle.amount_math.specs.declared.Kind.{Kind}
use Rattle.ertp_mint.proofs.Placed.{said_of_value, value_rises}
use Rattle.ertp_mint.proofs.keys_out.KeysOut.can_issue.Goals as goal

pub can_issue_keys-requires-clause-rising : goal.can_issue_keys-requires-clause-rising
can_issue_keys-requires-clause-rising c = value_rises c.args.value.now.content c.in-Some.entries.now c.in-Some.ensures.entries

pub returns-in-Some-clause-ok : goal.returns-in-Some-clause-ok
returns-in-Some-clause-ok c = said_of_value (λ (kind : Kind) (whole : Content). IsOk c.can_issue_keys.result → Fits kind whole) c.args.value.now.kind c.kind-kind.result c.args.self.now c.self.inside.places.entries c.args.value.now.content c.in-Some.entries.now c.self.view_is c.in-Some.ensures.entries c.kind-kind.ensures.kind c.can_issue_keys.ensures.ok

pub returns-in-Some-clause-sure : goal.returns-in-Some-clause-sure
returns-in-Some-clause-sure c = said_of_value (λ (kind : Kind) (whole : Content). Fits kind whole → IsOk c.can_issue_keys.result) c.args.value.now.kind c.kind-kind.result c.args.self.now c.self.inside.places.entries c.args.value.now.content c.in-Some.entries.now c.self.view_is c.in-Some.ensures.entries c.kind-kind.ensures.kind c.can_issue_keys.ensures.sure

pub returns-in-Some-clause-refused : goal.returns-in-Some-clause-refused
returns-in-Some-clause-refused c = said_of_value (λ (kind : Kind) (whole : Content). IfErr c.can_issue_keys.result (IsCountRefusal kind whole)) c.args.value.now.kind c.kind-kind.result c.args.self.now c.self.inside.places.entries c.args.value.now.content c.in-Some.entries.now c.self.view_is c.in-Some.ensures.entries c.kind-kind.ensures.kind c.can_issue_keys.ensures.refused
