use Rattle.std.proofs.Common.{◌≡◌, ◌-◌, arith}
use Rattle.serde_json.specs.View.{members_view}
use Rattle.row_reader.proofs.EventParts.{sum_first, sum_second, supply_is}
use Rattle.row_reader.proofs.lines.sum_of.Goals as goal

pub returns-in-First : goal.returns-in-First
returns-in-First c = (sum_first c.args.edition c.in_ok-sum.sum (members_view c.args.members.now.entries) c.in-First.is (c.is_sum.ensures.0 c.if-not-is_sum.false) c.requires c.in_ok-sum.ensures.0, c.in_ok-sum.ensures.1)

pub returns-then-supply-saturating_sub : goal.returns-then-supply-saturating_sub
returns-then-supply-saturating_sub c =
    let one : c.in_ok-supply-in-Second.supply ≡ c.in_ok-sum.sum.minted - c.in_ok-sum.sum.burned = omega (arith, c.saturating_sub.ensures) in (
      sum_second c.args.edition c.in_ok-sum.sum (members_view c.args.members.now.entries) c.in-Second.is (c.is_sum.ensures.0 c.if-not-is_sum.false) c.requires c.in_ok-sum.ensures.0 c.in_ok-supply-in-Second.supply c.in_ok-supply-in-Second.ensures.0 one,
      c.in_ok-sum.ensures.1,
    )

pub returns-else-supply-saturating_sub : goal.returns-else-supply-saturating_sub
returns-else-supply-saturating_sub c = λ x form same.
    let one : c.in_ok-supply-in-Second.supply ≡ c.in_ok-sum.sum.minted - c.in_ok-sum.sum.burned =
    supply_is c.args.edition x c.in_ok-sum.sum (members_view c.args.members.now.entries) c.in_ok-supply-in-Second.supply c.in-Second.is form c.in_ok-sum.ensures.1 same c.in_ok-sum.ensures.0 c.in_ok-supply-in-Second.ensures.1 c.in_ok-supply-in-Second.ensures.0 in
    absurd (omega (arith, one, c.saturating_sub.ensures, c.if-supply-saturating_sub.false))
