-- The numbers that stand for a proposal, which a model needs.
use Rattle.std.specs.Prelude.{◌≡◌, ℕ, zero, suc, List, refl}
use Rattle.std.specs.Coded.{Coded, code_by, coded×, coded_list, coded_ℕ}
use Rattle.proposals.specs.Shares.{coded_share}
use Rattle.proposals.specs.declared.allocations.Share.{Share}
use Rattle.proposals.specs.declared.offers.Exit.{Exit}
use Rattle.proposals.specs.declared.offers.Exit.TheVariants.{AfterDeadline, OnDemand, Waived}
use Rattle.proposals.specs.declared.offers.Proposal.{Proposal}

abbrev pub exit_number : Exit → ℕ
exit_number OnDemand = 0
exit_number Waived = 1
exit_number (AfterDeadline time) = suc (suc time)

abbrev pub exit_of : ℕ → Exit
exit_of zero = OnDemand
exit_of (suc zero) = Waived
exit_of (suc (suc time)) = AfterDeadline time

pub exit_back : (e : Exit) → exit_of (exit_number e) ≡ e
exit_back OnDemand = refl
exit_back Waived = refl
exit_back (AfterDeadline time) = refl

abbrev pub coded_exit : Coded Exit
coded_exit = code_by ℕ coded_ℕ exit_number exit_of exit_back

abbrev pub coded_proposal : Coded Proposal
coded_proposal = code_by (List Share × (List Share × Exit)) (coded× (coded_list coded_share) (coded× (coded_list coded_share) coded_exit)) (λ p. (p.give, (p.want, p.exit))) (λ p. record { give = p.0; want = p.1.0; exit = p.1.1 }) (λ _. refl)
