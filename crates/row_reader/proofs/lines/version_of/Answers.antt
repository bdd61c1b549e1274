use Rattle.serde_json.specs.View.{members_view}
use Rattle.std.specs.Prelude.{codes}
use Rattle.row_reader.proofs.EventParts.{got, version_is, whole_same}
use Rattle.row_reader.proofs.lines.version_of.Goals as goal

pub returns-then-number-eq2 : goal.returns-then-number-eq2
returns-then-number-eq2 c = (version_is (members_view c.args.members.now.entries) _ (c.has_names.ensures.0 c.if-not-has_names.false) c.requires c.in-Some.ensures c.if-number-eq2.true, c.in-Second.is)

pub returns-else-number-eq2 : goal.returns-else-number-eq2
returns-else-number-eq2 c = λ x form same. c.if-number-eq2.false (whole_same _ _ 2 c.in-Some.ensures (got (codes "version") _ _ same))
