use Rattle.std.proofs.Common.{◌≡◌, ◌≤◌, ℕ, List, [], ◌∷◌, None, drop, length, arith, refl, sym, ap, ◌∙◌}
use Rattle.std.proofs.lemmas.List.{drop_all}
use Rattle.refusals.specs.amount_math.ValueView.{ValueView}
use Rattle.ertp_calls.specs.host_world.Worlds.{world_of}
use Rattle.rules.specs.proposals.declared.allocations.Share.{Share}
use Rattle.refusals.specs.Codes.{wrong_amount}
use Rattle.refusals.specs.Outcomes.{none_such}
use Rattle.rules.specs.GivenPayments.{first_wrong}
use Rattle.rules.specs.world_state.Worlds.{State}
use Rattle.escrow_calls.proofs.payments.check_amounts.Goals as goal

none_of : (w : State) (shares : List Share) → first_wrong w shares [] ≡ None
none_of w [] = refl
none_of w (r ∷ rs) = refl

none_left : (w : State) (shares : List Share) (ps : List ℕ) (i : ℕ) → length ps ≤ i → first_wrong w (drop i shares) (drop i ps) ≡ None
none_left w shares ps i past = ap (first_wrong w (drop i shares)) (drop_all i ps past) ∙ none_of w (drop i shares)

pub returns-in_default : goal.returns-in_default
unfolding none_such
returns-in_default c =
    ap (λ o. none_such o (λ (v : ValueView × ValueView). wrong_amount v.0 v.1))
    (sym c.loop-place.invariant ∙ none_left (world_of c.args.world.now) c.args.shares.now c.args.payments.now c.loop-place.place (omega (arith, c.in_default.ensures.lookup)))
