use Rattle.std.proofs.Common.{rules, filter, ap, ◌∙◌}
use Rattle.std.specs.Option.{is_none}
use Rattle.std.proofs.lemmas.Fn.{filter_same}
use Rattle.proposals.specs.declared.allocations.Share.{Share}
use Rattle.proposals.specs.Shares.{amount_under}
use Rattle.proposals.proofs.slots.further.Goals as goal

pub returns : goal.returns
returns c = filter_same _ _ _ (λ x b f' k. search rules) _ _ c.retain.ensures.filtered ∙ ap (filter (λ (r : Share). is_none (amount_under r.keyword c.args.slots.now))) c.in_ok-more.ensures
