use Rattle.std.proofs.Common.{arith}
use Rattle.std.specs.Prelude.{codes}
use Rattle.serde_json.specs.View.{members_view}
use Rattle.row_reader.proofs.EventParts.{close_is, got, named}
use Rattle.row_reader.proofs.Named.{no_whole}
use Rattle.row_reader.proofs.ValueParts.{no_names}
use Rattle.row_reader.proofs.lines.close_of.Goals as goal

pub returns-then-not-has_names : goal.returns-then-not-has_names
returns-then-not-has_names c = λ x form same. no_names c.has_names.result _ _ c.has_names.ensures.1 c.if-not-has_names.true (named _ _ same)

pub returns-in_default : goal.returns-in_default
returns-in_default c = λ x form same. no_whole _ _ c.in_default.ensures (got (codes "left") _ _ same)

pub returns-in_default-whole_at : goal.returns-in_default-whole_at
returns-in_default-whole_at c = λ x form same. no_whole _ _ c.in_default-whole_at.ensures (got (codes "turns") _ _ same)

pub returns : goal.returns
returns c =
    (close_is _ _ (members_view c.args.members.now.entries) (c.has_names.ensures.0 c.if-not-has_names.false) c.requires c.in-Some.ensures c.in-Some-whole_at.ensures, (omega arith, omega arith))
