use Rattle.std.proofs.Common.{◌≡◌, ◌<◌, ◌≤◌, ◌++◌, ◌∷◌, [], List, Any, All, length, rules, sym, ap, ◌∙◌, subst, append_assoc}
use Rattle.std.proofs.lemmas.List.Elements.{All-append, All-cons, All-nil, All-tail}
use Rattle.std.specs.Vec.Iter.{into_iter_items}
use Rattle.proposals.specs.Shares.{AreApart, most_shares}
use Rattle.proposals.specs.declared.plans.Touched.{Touched}
use Rattle.rearrange.specs.Sums.{all_touched, touched_of}
use Rattle.rearrange.specs.declared.sums.SeatShares.{SeatShares}
use Rattle.rearrange.proofs.Touching.{any_at}
use Rattle.rearrange.proofs.plans.all_touched.Goals as goal

pub loop-seat-preserved : goal.loop-seat-preserved
loop-seat-preserved c =
    let states = c.args.states.now in
    let done = c.loop-seat.all.items in
    let left = into_iter_items c.next.new.self in
    let steps : into_iter_items c.loop-seat.seat-iterator ≡ c.in-Some.seat ∷ left = c.in-Some.ensures.steps.0 in
    record {
      can = tt;
      finite = tt;
      whole =
          ap (λ (ts : List Touched). ts ++ all_touched states left) c.in_ok-keep-in-Ok.ensures.ok
          ∙ append_assoc done (c.in-Ok.one ∷ []) (all_touched states left)
          ∙ ap (λ (t : Touched). done ++ t ∷ all_touched states left) c.in-Ok.ensures.ok
          ∙ ap (λ (ss : List SeatShares). done ++ all_touched states ss) (sym steps)
          ∙ c.loop-seat.invariant.whole;
      few = subst (All (λ (t : Touched). length t.after ≤ most_shares)) (sym c.in_ok-keep-in-Ok.ensures.ok) (All-append (λ (t : Touched). length t.after ≤ most_shares) done (c.in-Ok.one ∷ []) c.loop-seat.invariant.few (All-cons (λ (t : Touched). length t.after ≤ most_shares) c.in-Ok.one [] c.in-Ok.ensures.few (All-nil (λ (t : Touched). length t.after ≤ most_shares))));
      apart = All-tail (λ (s : SeatShares). AreApart s.shares.items) c.in-Some.seat left (subst (All (λ (s : SeatShares). AreApart s.shares.items)) steps c.loop-seat.invariant.apart);
      left = search rules;
    }

pub returns-in-Err-clause-limit : goal.returns-in-Err-clause-limit
returns-in-Err-clause-limit c = λ is.
    let states = c.args.states.now in
    let done = c.loop-seat.all.items in
    let left = into_iter_items c.next.new.self in
    let steps : into_iter_items c.loop-seat.seat-iterator ≡ c.in-Some.seat ∷ left = c.in-Some.ensures.steps.0 in
    subst (Any (λ (t : Touched). most_shares < length t.after)) (ap (λ (ss : List SeatShares). done ++ all_touched states ss) (sym steps) ∙ c.loop-seat.invariant.whole)
    (any_at (λ (t : Touched). most_shares < length t.after) done (touched_of states c.in-Some.seat) (all_touched states left) (c.in-Err.ensures.limit is))
