use Rattle.std.proofs.Common.{ℕ, List, ap}
use Rattle.std.specs.Borrow.{Bor}
use Rattle.std.specs.BTreeMap.{is_at}
use Rattle.std.specs.List.{list_any}
use Rattle.call_arguments.specs.Records.{has_name}
use Rattle.call_arguments.specs.Keywords.{by_text}
use Rattle.call_arguments.proofs.Found.{more_seen}
use Rattle.call_arguments.proofs.keyword_arguments.set_of.Goals as goal

pub loop-name-init : goal.loop-name-init
unfolding has_name
loop-name-init c = λ q. ap (λ (ks : List (Bor (List ℕ))). list_any (is_at (by_text q)) ks) c.new-set.ensures.empty

pub loop-name-preserved : goal.loop-name-preserved
loop-name-preserved c = λ q. more_seen c.args.names.now c.loop-name.name-index _ q _ _ c.loop-name-test.true (c.loop-name.invariant q) (c.in_ok-insert.ensures.updates.0 q)
