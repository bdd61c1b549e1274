use Rattle.std.proofs.Common.{◌≡◌, ◌-◌, ℕ, List, set, refl, ap, sym, ◌∙◌, arith}
use Rattle.amount_math.specs.Entries.{entry_at, tally}
use Rattle.amount_math.proofs.Listed.{read_entry}
use Rattle.amount_math.proofs.Lowered.{enough_there, none_left, lowered_same, lowered_set, rising_set}
use Rattle.amount_math.proofs.merges.lower_all.Goals as goal
use Rattle.amount_math.proofs.merges.lower_all.Goals.{in-Some, in_default}

pub lower-requires : goal.lower-requires
lower-requires c =
    let old = c.args.entries.now in
    let part = c.args.part.now in
    let cur = c.loop-entry.entries in
    let i = c.loop-entry.entry-index in
    let at = c.in-Some.at in
    let read = read_entry part i c.entry-item.result c.loop-entry-test.true c.entry-item.is in
    let there = c.in-Some.ensures.found in
    let held = read_entry cur at c.index-entries-at.result there.0 c.index-entries-at.is in
    let is : (entry_at cur at).0 ≡ (entry_at part i).0 = there.1 ∙ c.key.ensures ∙ ap (λ (e : List ℕ × ℕ). e.0) (sym read) in
    let enough = enough_there old part c.requires.entries c.requires.part c.requires.enough cur i c.loop-entry.invariant.same c.loop-entry-test.true at c.loop-entry.invariant.rising there.0 is in
    omega (arith, enough, ap (λ (e : List ℕ × ℕ). e.1) read, ap (λ (e : List ℕ × ℕ). e.1) held, ap (λ (e : List ℕ × ℕ). e.1) c.index-entries-at.is, c.count.ensures)

pub loop-entry-preserved : goal.loop-entry-preserved
loop-entry-preserved c =
    let old = c.args.entries.now in
    let part = c.args.part.now in
    let cur = c.loop-entry.entries in
    let i = c.loop-entry.entry-index in
    let read = read_entry part i c.entry-item.result c.loop-entry-test.true c.entry-item.is in
    elim c.match-place_of.branch [
      | in-Some w ↦
          let at = w.in-Some.at in
          let there = w.in-Some.ensures.found in
          let held = read_entry cur at w.index-entries-at.result there.0 w.index-entries-at.is in
          let is : (entry_at cur at).0 ≡ (entry_at part i).0 = there.1 ∙ c.key.ensures ∙ ap (λ (e : List ℕ × ℕ). e.0) (sym read) in
          let counted = w.count.ensures ∙ ap (λ (e : List ℕ × ℕ). e.1) (sym read) in
          let whole = sym w.index-entries-at.is ∙ sym held in
          let new = w.entries-is ∙ ap (set cur at) (w.lower.ensures ∙ (λ j. ((whole j).0, (whole j).1 - counted j))) in
          rw new (record {
            rising = rising_set cur at _ c.loop-entry.invariant.rising;
            lowered = lowered_set cur at _ c.loop-entry.invariant.lowered there.0;
            same = lowered_same old part c.requires.entries c.requires.part c.requires.enough cur i c.loop-entry.invariant.same c.loop-entry-test.true at c.loop-entry.invariant.rising there.0 is;
          })
      | in_default w ↦
          let none = ap (λ (e : List ℕ × ℕ). tally cur e.0) read ∙ ap (tally cur) (sym c.key.ensures) ∙ w.in_default.ensures.absent refl in
          rw w.entries-is (record {
            rising = c.loop-entry.invariant.rising;
            lowered = c.loop-entry.invariant.lowered;
            same = none_left old part c.requires.entries c.requires.part c.requires.enough cur i c.loop-entry.invariant.same c.loop-entry-test.true none;
          })
    ]
