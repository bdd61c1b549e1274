use Rattle.std.proofs.Common.{◌≡◌, ℕ, List, take}
use Rattle.std.specs.Borrow.{Bor}
use Rattle.std.specs.BTreeSet.{contains}
use Rattle.call_arguments.specs.Records.{has_name}
use Rattle.call_arguments.specs.Keywords.{by_text, texts}
use Rattle.call_arguments.proofs.keyword_arguments.set_of.Given as goal

abbrev pub invariant-loop-name : goal.invariant-loop-name
invariant-loop-name l = (q : Bor (List ℕ)) → contains by_text l.set q ≡ has_name q.now (texts (take l.name-index l.names))
