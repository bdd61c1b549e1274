use Rattle.std.proofs.Common.{reverse, vec_len}
use Rattle.vault_model.specs.Backwards.{all_back}
use Rattle.vault.specs.Memory.{lists_of, rooms_of}
use Rattle.vault.specs.Working.{IsWorking}
use Rattle.vault.proofs.draft.Draft.undo.Given as goal

abbrev pub invariant-loop-step : goal.invariant-loop-step
invariant-loop-step l =
    IsWorking
    (rooms_of l.initial.stores)
    (all_back (lists_of l.initial.stores) (reverse l.initial.steps.items) (reverse l.initial.movements.items))
    l.stores
    (reverse l.steps.items)
    (reverse l.movements.items)

abbrev pub decreases-loop-step : goal.decreases-loop-step
decreases-loop-step l = vec_len l.steps
