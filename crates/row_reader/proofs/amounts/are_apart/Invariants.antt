use Rattle.serde_json.specs.View.{members_view}
use Rattle.row_reader.specs.Amounts.{AreApart}
use Rattle.row_reader.proofs.amounts.are_apart.Given as goal

-- all are apart exactly where those that are left are
abbrev pub invariant-loop-keyword : goal.invariant-loop-keyword
invariant-loop-keyword l =
    (AreApart (members_view l.give.entries) (members_view l.want.entries) → AreApart (members_view l.keyword-iterator) (members_view l.want.entries))
    × (AreApart (members_view l.keyword-iterator) (members_view l.want.entries) → AreApart (members_view l.give.entries) (members_view l.want.entries))
