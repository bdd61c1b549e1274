use Rattle.std.specs.Prelude.{not}
use Rattle.std.specs.List.{list_all}
use Rattle.std.proofs.Common.{◌≡◌, drop}
use Rattle.host_data.specs.View.{named_trees}
use Rattle.rules.specs.Zoe.{is_kept_name}
use Rattle.zoe_calls.proofs.start.are_bare.Given as goal

abbrev pub invariant-loop-name : goal.invariant-loop-name
invariant-loop-name l = list_all (λ f. not (is_kept_name f.0)) (named_trees (drop l.name-index l.fields)) ≡ list_all (λ f. not (is_kept_name f.0)) (named_trees l.fields)
