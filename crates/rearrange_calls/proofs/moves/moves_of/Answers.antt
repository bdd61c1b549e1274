use Rattle.std.specs.List.{All}
use Rattle.std.proofs.Common.{List, sym, subst}
use Rattle.std.specs.Borrow.{Bor}
use Rattle.rules.specs.proposals.declared.plans.Touched.{Touched}
use Rattle.rearrange_calls.specs.Met.{IsMet}
use Rattle.rearrange_calls.proofs.ByNumber.{met_by_number, met_each}
use Rattle.rearrange_calls.proofs.moves.moves_of.Goals as goal

pub moves_in-requires : goal.moves_in-requires
moves_in-requires c =
    subst (λ (ts : List (Bor Touched)). All (λ t. IsMet t.now) ts) (sym c.as_slice.ensures.value)
    (met_each c.in_ok-seats.seats.items (subst (λ (ts : List Touched). All IsMet ts) (sym c.in_ok-seats.ensures) (met_by_number c.args.touched.now c.requires.met)))
