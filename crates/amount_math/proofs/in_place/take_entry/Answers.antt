use Rattle.std.proofs.Common.{◌≡◌, ℕ, List, ◌∙◌, ap, arith}
use Rattle.amount_math.specs.Entries.{at_key, entry_at, tally}
use Rattle.amount_math.proofs.Listed.{read_entry}
use Rattle.amount_math.proofs.Searched.{tally_at}
use Rattle.amount_math.proofs.in_place.take_entry.Goals as goal

pub returns-else-count-clause-counts : goal.returns-else-count-clause-counts
returns-else-count-clause-counts c = λ k.
    let es = c.args.entries.now.items in
    let part = c.args.part.now in
    let at = c.in-Ok.at in
    let found = rw c.deref.ensures.value at c.in-Ok.ensures.found in
    let key : (entry_at es at).0 ≡ part.0 = found.1 ∙ c.key.ensures in
    let read = read_entry es at c.index.result.now found.0 c.index.ensures in
    let count : (entry_at es at).1 ≡ part.1 = omega (
      arith,
      c.if-count.false,
      c.count.ensures,
      c.count-2.ensures,
      ap (λ (e : List ℕ × ℕ). e.1) read,
      c.requires.enough,
      ap (tally es) key,
      tally_at es at c.requires.entries.rising found.0,
    ) in
    omega (arith, c.remove.ensures.counts k, ap (λ q. at_key k q (entry_at es at).1) key, ap (at_key k part.0) count)
