use Rattle.std.proofs.Common.{◌≡◌, None, refl, sym, ap, subst, ◌∙◌, string_bytes}
use Rattle.serde_json.specs.Find.{get_member}
use Rattle.serde_json.specs.View.{members_view}
use Rattle.row_reader.specs.Amounts.{AreApart}
use Rattle.row_reader.proofs.Faults.{not_there, there}
use Rattle.row_reader.proofs.amounts.are_apart.Goals as goal

pub returns-then-is_some : goal.returns-then-is_some
returns-then-is_some c =
    let want = members_view c.args.want.now.entries in (
      λ no. absurd (cc),
      λ apart.
          let gone = (subst (λ es. AreApart (members_view es) want) c.in-Some.ensures.steps (c.loop-keyword.invariant.0 apart)).0 in
          absurd (there c.member.result c.is_some.result (c.member.ensures ∙ ap (λ n. get_member n want) c.as_str.ensures.value ∙ gone) c.is_some.ensures c.if-is_some.true),
    )

pub loop-keyword-preserved : goal.loop-keyword-preserved
loop-keyword-preserved c =
    let want = members_view c.args.want.now.entries in
    let none : get_member (string_bytes c.in-Some.keyword.now) want ≡ None =
    sym (ap (λ n. get_member n want) c.as_str.ensures.value) ∙ sym c.member.ensures ∙ not_there c.member.result c.is_some.result c.is_some.ensures c.if-is_some.false in (
      λ apart. (subst (λ es. AreApart (members_view es) want) c.in-Some.ensures.steps (c.loop-keyword.invariant.0 apart)).1,
      λ rest. c.loop-keyword.invariant.1 (subst (λ es. AreApart (members_view es) want) (sym c.in-Some.ensures.steps) (none, rest)),
    )

pub returns : goal.returns
returns c =
    let want = members_view c.args.want.now.entries in
    (λ yes. c.loop-keyword.invariant.1 (subst (λ es. AreApart (members_view es) want) (sym c.in-None.ensures.steps.0) tt), λ apart. refl)
