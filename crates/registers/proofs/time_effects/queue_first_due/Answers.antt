use Rattle.std.proofs.Common.{◌++◌, ℕ, List, sym, ap, ◌∙◌}
use Rattle.std.proofs.lemmas.List.{append-nil}
use Rattle.std.specs.Option.{option_copied}
use Rattle.registers.specs.PromiseTables.{waiting_of}
use Rattle.registers.specs.Timed.{entries_of}
use Rattle.registers.specs.declared.time_effects.Timed.{Timed}
use Rattle.registers.proofs.Due.{none_due}
use Rattle.registers.proofs.time_effects.queue_first_due.Goals as goal

pub returns-in_default-clause-none : goal.returns-in_default-clause-none
returns-in_default-clause-none c =
    let s = c.args.timer.now.now in
    let ds = waiting_of c.args.queue.now.now in
    let none = none_due s.time s.waiting (c.due.ensures).by_time (sym (c.due.ensures).first ∙ ap option_copied c.in_default.is) in
    ap (λ (ws : List (ℕ × Timed)). ds ++ entries_of ws) none.0 ∙ append-nil ds

pub returns-in_default-clause-rest : goal.returns-in_default-clause-rest
returns-in_default-clause-rest c =
    let s = c.args.timer.now.now in
    (none_due s.time s.waiting (c.due.ensures).by_time (sym (c.due.ensures).first ∙ ap option_copied c.in_default.is)).1
