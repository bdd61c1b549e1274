use Rattle.std.proofs.Common.{ℕ, ◌++◌, ◌∷◌, [], List, Option, MatchOption, take, sym, ◌∙◌, subst}
use Rattle.std.proofs.lemmas.Bool.{false≢true}
use Rattle.proposals.specs.declared.plans.Touched.{Touched}
use Rattle.rearrange.specs.Safety.{AreSafe, IsLeastUnsafe}
use Rattle.rearrange.specs.Sums.{all_touched, touched_of}
use Rattle.rearrange.proofs.Touching.{safe_more, touched_more, unsafe_more}
use Rattle.rearrange.proofs.safety.least_unsafe.Goals as goal
use Rattle.rearrange.proofs.safety.least_unsafe.Goals.{then-not-is_safe, else-not-is_safe}

pub loop-seat-preserved : goal.loop-seat-preserved
loop-seat-preserved c =
    let states = c.args.states.now in
    let so_far = all_touched states (take c.loop-seat.seat-index c.args.list.now) in
    let t = touched_of states c.seat-item.result in
    let whole = touched_more states c.args.list.now c.loop-seat.seat-index c.seat-item.result c.loop-seat-test.true c.seat-item.is in
    let P : Option ℕ → List Touched → Type 0 = λ o ts. MatchOption o (AreSafe states ts) (IsLeastUnsafe states ts) in
    subst (P c.if-not-is_safe.least) (sym whole)
    (elim c.if-not-is_safe.branch [
      | then-not-is_safe w ↦ subst (λ (o : Option ℕ). P o (so_far ++ t ∷ [])) (sym w.least-is) (unsafe_more states so_far t c.loop-seat.least w.lesser.result (λ safe. false≢true (sym w.if-not-is_safe.true ∙ c.is_safe.ensures.1 safe)) w.lesser.ensures c.loop-seat.invariant)
      | else-not-is_safe w ↦ subst (λ (o : Option ℕ). P o (so_far ++ t ∷ [])) (sym w.least-is) (safe_more states so_far t c.loop-seat.least (c.is_safe.ensures.0 w.if-not-is_safe.false) c.loop-seat.invariant)
    ])
