-- What is left of a rule of staging, once the record is read.
use Rattle.std.proofs.Common.{◌≡◌, ℕ, List, Ok, sym, ap, ◌∙◌}
use Rattle.host_data.specs.Tree.{Tree}
use Rattle.rules.specs.proposals.declared.allocations.Share.{Share}
use Rattle.refusals.specs.Outcomes.{bind}
use Rattle.zseat_calls.specs.StagingParts.{adding, staged_less, staged_more, taking}
use Rattle.rules.specs.Given.{shares_at}
use Rattle.rules.specs.Zseat.{misfits_staged, shares_now}
use Rattle.rules.specs.world_state.Worlds.{State}

module _ (w : State) (seat : ℕ) (args : List Tree) (now shares : List Share) (read : shares_at (misfits_staged w seat) 1 args ≡ Ok shares) (is : now ≡ shares_now w seat) where
  pub adding_is : staged_more seat now shares ≡ adding w seat args
  unfolding bind adding
  adding_is = ap (λ ns. staged_more seat ns shares) is ∙ sym (ap (λ r. bind r (staged_more seat (shares_now w seat))) read)

  pub taking_is : staged_less seat now shares ≡ taking w seat args
  unfolding bind taking
  taking_is = ap (λ ns. staged_less seat ns shares) is ∙ sym (ap (λ r. bind r (staged_less seat (shares_now w seat))) read)
