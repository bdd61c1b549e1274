use Rattle.std.proofs.Common.{◌≡◌, ◌≤◌, ◌++◌, ℕ, List, [], ◌∷◌, drop, length, arith, refl, sym, ap, ◌∙◌}
use Rattle.std.proofs.lemmas.List.{append-nil, drop_all}
use Rattle.rules.specs.proposals.declared.allocations.Share.{Share}
use Rattle.rules.specs.GivenPayments.{escrows_of}
use Rattle.escrow_calls.proofs.payments.escrows_of.Goals as goal

none_of : (seat : ℕ) (shares : List Share) → escrows_of seat shares [] ≡ []
none_of seat [] = refl
none_of seat (r ∷ rs) = refl

none_left : (seat : ℕ) (shares : List Share) (ps : List ℕ) (i : ℕ) → length ps ≤ i → escrows_of seat (drop i shares) (drop i ps) ≡ []
none_left seat shares ps i past = ap (escrows_of seat (drop i shares)) (drop_all i ps past) ∙ none_of seat (drop i shares)

pub returns-in_default : goal.returns-in_default
returns-in_default c =
    sym (append-nil c.loop-place.escrows.items)
    ∙ ap (λ l. c.loop-place.escrows.items ++ l) (sym (none_left c.args.seat c.args.shares.now c.args.payments.now c.loop-place.place (omega (arith, c.in_default.ensures.lookup))))
    ∙ c.loop-place.invariant
