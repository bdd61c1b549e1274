use Rattle.std.proofs.Common.{◌≡◌, Some, None, ap, sym, ◌∙◌}
use Rattle.std.specs.Option.{option_map}
use Rattle.row_records.specs.Views.{call_view}
use Rattle.told_causes.specs.ToldFacets.{object_in}
use Rattle.told_causes.proofs.Owners.{facet_named, none_named, not_far}
use Rattle.told_causes.proofs.facets.facet_answered.Goals as goal

pub returns-then-not-is_far : goal.returns-then-not-is_far
returns-then-not-is_far c = not_far (call_view c.args.call.now) c.requires.form (sym c.is_far.ensures ∙ c.if-not-is_far.true)

pub returns-in-Some : goal.returns-in-Some
returns-in-Some c =
    let at : object_in (call_view c.args.call.now).answer ≡ Some c.in-Some.object.now = sym c.object_answered.ensures ∙ ap (option_map (λ s. s.now)) c.in-Some.is in
    facet_named (call_view c.args.call.now) c.requires.form c.in-Some.object.now c.number_in.result (sym c.is_far.ensures ∙ c.if-not-is_far.false) at c.number_in.ensures.tests

pub returns-in-None : goal.returns-in-None
returns-in-None c =
    let at : object_in (call_view c.args.call.now).answer ≡ None = sym c.object_answered.ensures ∙ ap (option_map (λ s. s.now)) c.in-None.is in
    none_named (call_view c.args.call.now) c.requires.form (sym c.is_far.ensures ∙ c.if-not-is_far.false) at
