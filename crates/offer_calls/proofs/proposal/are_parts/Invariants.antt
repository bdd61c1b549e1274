use Rattle.std.specs.List.{list_all}
use Rattle.std.proofs.Common.{◌≡◌, drop}
use Rattle.refusals.specs.host_data.View.{named_trees}
use Rattle.rules.specs.Proposals.{is_part}
use Rattle.offer_calls.proofs.proposal.are_parts.Given as goal

abbrev pub invariant-loop-name : goal.invariant-loop-name
invariant-loop-name l = list_all (λ f. is_part f.0) (named_trees (drop l.name-index l.fields)) ≡ list_all (λ f. is_part f.0) (named_trees l.fields)
