use Rattle.std.proofs.Common.{◌<◌, ◌≤◌, ℕ, Result, Ok, Err, sym, ◌∙◌, arith}
use Rattle.std.proofs.lemmas.List.Sorted.{searched}
use Rattle.told_rights.proofs.Placing.{found_there, never_falls, placed_new}
use Rattle.told_rights.proofs.sums.place.Goals as goal

pub returns-in-Ok : goal.returns-in-Ok
returns-in-Ok c =
    let xs = c.args.brands.now.items in
    let at = rw c.deref.ensures.value at c.in-Ok.ensures.position in
    let r : Result ℕ ℕ = Ok c.in-Ok.field-0 in
    let found = searched xs c.args.brand r at (λ i j le lt. never_falls xs i j c.requires le lt) in
    sym (found_there c.args.brand xs c.in-Ok.field-0 c.requires found.0 found.1)

pub returns-in-Ok-insert : goal.returns-in-Ok-insert
returns-in-Ok-insert c =
    let xs = c.args.brands.now.items in
    let at = rw c.deref.ensures.value at c.in-Err.ensures.position in
    let r : Result ℕ ℕ = Err c.in-Err.at in
    let gap = searched xs c.args.brand r at (λ i j le lt. never_falls xs i j c.requires le lt) in
    c.in-Ok-insert.ensures.items ∙ sym (placed_new c.args.brand xs c.in-Err.at gap.1 gap.0 (λ lt. gap.2 c.in-Err.at (omega arith) lt))
