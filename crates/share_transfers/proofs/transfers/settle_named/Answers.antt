use Rattle.std.proofs.Common.{ℕ, [], All, sym, ◌∙◌, subst}
use Rattle.std.proofs.lemmas.List.Elements.{All-nil}
use Rattle.rearrange.specs.Working.{CanSettle, shares_now}
use Rattle.rearrange.proofs.Worked.{All-once}
use Rattle.share_transfers.specs.Changed.{changed_seats}
use Rattle.share_transfers.proofs.transfers.settle_named.Goals as goal

pub settle_all-requires-clause-can : goal.settle_all-requires-clause-can
settle_all-requires-clause-can c =
    subst (All (λ (seat : ℕ). CanSettle c.args.states.now (shares_now c.args.states.now (changed_seats c.args.copy.now) seat) seat)) (sym (c.as_slice.ensures.value ∙ c.in_ok-seats.ensures))
    (All-once (λ (seat : ℕ). CanSettle c.args.states.now (shares_now c.args.states.now (changed_seats c.args.copy.now) seat) seat) [] c.args.named.now (All-nil (λ (seat : ℕ). CanSettle c.args.states.now (shares_now c.args.states.now (changed_seats c.args.copy.now) seat) seat)) c.requires.can)
