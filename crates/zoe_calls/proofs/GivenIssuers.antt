-- Issuers that are read of a call's argument stand each under a keyword of its own.
use Rattle.std.proofs.Common.{◌≡◌, ℕ, ◌≤◌, List, length, Ok}
use Rattle.brands.specs.IssuerRecords.{AreApart, AreIssuers, most_issuers}
use Rattle.brands.specs.declared.issuer_record.Issuer.{Issuer}
use Rattle.ertp_calls.specs.world_reads.Handed.{AreHanded}
use Rattle.host_data.specs.Tree.{Tree}
use Rattle.refusals.proofs.Steps.{ok_has}
use Rattle.ertp_calls.proofs.rule_laws.StartIssuers.{AreGiven, issuers_are}
use Rattle.rules.specs.Zoe.{issuers_at}
use Rattle.rules.specs.world_state.Worlds.{State}

pub given_apart : (w : State) (place : ℕ) (args : List Tree) (is : List Issuer) → AreHanded w args → issuers_at place args ≡ Ok is → AreApart is
given_apart w place args is handed at =
    let given : AreGiven w is = ok_has _ _ is at (issuers_are w place args (handed.each place)) in
    given.apart

pub few_apart : (is : List Issuer) → AreApart is → length is ≤ most_issuers → AreIssuers is
few_apart is apart few = record { few = few; apart = apart }
