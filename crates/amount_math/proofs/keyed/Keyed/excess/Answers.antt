use Rattle.std.proofs.Common.{◌+◌, ℕ, List, ap, sym, ◌∙◌, arith}
use Rattle.amount_math.specs.declared.TooMuch.{TooMuch}
use Rattle.amount_math.specs.Entries.{entry_at, tally}
use Rattle.amount_math.proofs.Listed.{read_entry}
use Rattle.amount_math.proofs.Shapes.{bag_is_no_set}
use Rattle.amount_math.proofs.Together.{passes_bound}
use Rattle.amount_math.proofs.keyed.Keyed.excess.Goals as goal

pub returns-clause-refused : goal.returns-clause-refused
returns-clause-refused c =
    let held = c.entries-held.ensures in
    let others = c.entries-others.ensures in
    let within = c.in-Some.ensures.found in
    let read = read_entry c.entries-others.result.now c.in-Some.at c.index-others-at.result within c.index-others-at.is in
    let counted = c.count_of.ensures ∙ ap (tally c.entries-held.result.now) (c.key.ensures ∙ ap (λ (e : List ℕ × ℕ). e.0) (sym read)) in
    let over : TooMuch = record { sum = c.from.result + c.from-2.result; bound = c.from-bound.result } in
    rw (← held.content, ← others.content) (
      bag_is_no_set,
      passes_bound c.entries-held.result.now c.entries-others.result.now held.entries others.entries c.in-Some.at over within c.in-Some.ensures.first
          (omega (arith, counted, ap (λ (e : List ℕ × ℕ). e.1) read, c.count.ensures, c.from.ensures, c.from-2.ensures)) c.from-bound.ensures,
    )

pub returns-clause-sure : goal.returns-clause-sure
returns-clause-sure c = rw (← c.entries-held.ensures.content, ← c.entries-others.ensures.content) (λ fits. absurd (omega (arith, c.in-Some.ensures.first.passes, fits.each (entry_at c.entries-others.result.now c.in-Some.at).0)))
