use Rattle.std.proofs.Common.{inl, inr, ℕ, List, ◌≤◌, ◌+◌, ◌∙◌, ap, arith, subst, sym}
use Rattle.std.proofs.lemmas.Bool.{cases_order}
use Rattle.amount_math.specs.Entries.{entry_at}
use Rattle.amount_math.proofs.Listed.{read_entry}
use Rattle.ertp_mint.specs.declared.place.Place.{Place}
use Rattle.ertp_mint.specs.Places.{place_in}
use Rattle.ertp_mint.proofs.places.first_past.Goals as goal

pub returns-then-held-from-clause-past : goal.returns-then-held-from-clause-past
returns-then-held-from-clause-past c =
    let read = read_entry c.args.entries.now c.loop-i.i c.index-entries-i.result c.loop-i-test.true c.index-entries-i.is in
    let key = c.as_str.ensures ∙ c.key.ensures ∙ ap (λ (e : List ℕ × ℕ). e.0) (sym read) in
    let held = ap (λ (p : Place). p.out) (c.place_of-held.ensures ∙ ap (place_in c.args.places.now.entries) key) in
    let number = c.from.ensures ∙ c.count.ensures ∙ ap (λ (e : List ℕ × ℕ). e.1) (sym read) in
    omega (arith, held, number, c.if-held-from.true, c.from-in-loop-i.ensures)

pub loop-i-preserved : goal.loop-i-preserved
loop-i-preserved c =
    let read = read_entry c.args.entries.now c.loop-i.i c.index-entries-i.result c.loop-i-test.true c.index-entries-i.is in
    let key = c.as_str.ensures ∙ c.key.ensures ∙ ap (λ (e : List ℕ × ℕ). e.0) (sym read) in
    let held = ap (λ (p : Place). p.out) (c.place_of-held.ensures ∙ ap (place_in c.args.places.now.entries) key) in
    let number = c.from.ensures ∙ c.count.ensures ∙ ap (λ (e : List ℕ × ℕ). e.1) (sym read) in
    let small : (place_in c.args.places.now.entries (entry_at c.args.entries.now c.loop-i.i).0).out + (entry_at c.args.entries.now c.loop-i.i).1 ≤ c.args.most = omega (arith, held, number, c.if-held-from.false, c.from-in-loop-i.ensures) in
    λ j lt. elim (cases_order j c.loop-i.i) [
      | inl same ↦ subst (λ n. (place_in c.args.places.now.entries (entry_at c.args.entries.now n).0).out + (entry_at c.args.entries.now n).1 ≤ c.args.most) (sym same) small
      | inr (inl before) ↦ c.loop-i.invariant j before
      | inr (inr after) ↦ absurd (omega (arith, lt, after))
    ]
