-- Turns are of the entries of the queue, first in, first out, of any machine that keeps a queue.
use Rattle.std.proofs.Common.{◌≡◌, ◌+◌, ℕ, zero, suc, List, [], ◌∷◌, ◌++◌, length, map, Option, Some, None, refl, sym, ap, subst, ◌∙◌, arith, append-nil, append_assoc, length-append}
use Rattle.std.proofs.lemmas.Grind.{flat_map-append}
use Rattle.std.proofs.lemmas.List.{map-append}
use Rattle.std.specs.Option.{option_map_or}
use Rattle.message_lines.specs.Meanings.{Meaning, blank, delivered, run}
use Rattle.message_lines.specs.turn_records.Deliveries.{Delivery}
use Rattle.run_laws.specs.Machines.{Machine, MachineRun, all_brought, brought_by, by_line, by_lines, delivery_of, drains, no_turn, run_then, turn_then}
use Rattle.run_laws.specs.Order.{AreInOrder, Entry, IsFront, brought_in, deliveries_of, delivery_in, from_line, from_turn, line_in, of_lines, of_turns}

-- ---- entries

lines_then : (a b : List Entry) → of_lines (a ++ b) ≡ of_lines a ++ of_lines b
lines_then a b = flat_map-append line_in a b

turns_then : (a b : List Entry) → of_turns (a ++ b) ≡ of_turns a ++ of_turns b
turns_then a b = flat_map-append brought_in a b

-- what a turn brought is of no line
no_lines : (ds : List Delivery) → of_lines (map from_turn ds) ≡ []
no_lines [] = refl
no_lines (d ∷ ds) = no_lines ds

brought_are : (ds : List Delivery) → of_turns (map from_turn ds) ≡ ds
brought_are [] = refl
brought_are (d ∷ ds) = ap (λ rest. d ∷ rest) (brought_are ds)

deliveries_are : (ds : List Delivery) → map delivery_in (map from_turn ds) ≡ ds
deliveries_are [] = refl
deliveries_are (d ∷ ds) = ap (λ rest. d ∷ rest) (deliveries_are ds)

-- ---- machines that keep a queue

module _ {S T : Type 0} (m : Machine S T) where
  -- a step is of the delivery in front, and what it brings waits behind all others
  pub record TakesFront (s : S) (step : T) : Type 0 where
    pub d : Delivery
    pub ds : List Delivery
    pub front : m.waiting s ≡ d ∷ ds
    pub of : m.of step ≡ d
    pub queue : m.waiting (m.next step) ≡ ds ++ brought_by m (record { before = s; step = step })

  pub record KeepsQueue : Type 0 where
    pub arrives : (d : Delivery) (s : S) → m.waiting (m.arrive d s) ≡ m.waiting s ++ d ∷ []
    pub steps : (s : S) (step : T) → m.step s ≡ Some step → TakesFront s step

  -- of the entries that waited and of those that were appended the first were taken, by its turns, and the others wait
  pub record Took (q : List Entry) (came : List Delivery) (r : MachineRun S T) : Type 0 where
    pub taken : List Entry
    pub waiting : List Entry
    pub appended : List Entry
    pub line : q ++ appended ≡ taken ++ waiting
    pub said : of_lines appended ≡ came
    pub owed : of_turns appended ≡ all_brought m r.turns
    pub turns : map (delivery_of m) r.turns ≡ map delivery_in taken
    pub left : m.waiting r.end ≡ map delivery_in waiting

  took_none : (q : List Entry) (s : S) → m.waiting s ≡ map delivery_in q → Took q [] (no_turn s)
  took_none q s is = record { taken = []; waiting = q; appended = []; line = append-nil q; said = refl; owed = refl; turns = refl; left = is }

  module _ (q : List Entry) (a b : MachineRun S T) (came more : List Delivery) (x : Took q came a) (y : Took x.waiting more b) where
    one_line : q ++ (x.appended ++ y.appended) ≡ (x.taken ++ y.taken) ++ y.waiting
    one_line =
        sym (append_assoc q x.appended y.appended) ∙ ap (λ es. es ++ y.appended) x.line ∙ append_assoc x.taken x.waiting y.appended ∙ ap (λ es. x.taken ++ es) y.line
        ∙ sym (append_assoc x.taken y.taken y.waiting)

    took_then : Took q (came ++ more) (run_then a b)
    took_then = record {
      taken = x.taken ++ y.taken;
      waiting = y.waiting;
      appended = x.appended ++ y.appended;
      line = one_line;
      said = lines_then x.appended y.appended ∙ (λ i. x.said i ++ y.said i);
      owed = turns_then x.appended y.appended ∙ (λ i. x.owed i ++ y.owed i) ∙ sym (flat_map-append (brought_by m) a.turns b.turns);
      turns = map-append (delivery_of m) a.turns b.turns ∙ (λ i. x.turns i ++ y.turns i) ∙ sym (map-append delivery_in x.taken y.taken);
      left = y.left;
    }

  module _ (keeps : KeepsQueue) where
    took_line : (q : List Entry) (s : S) (d : Delivery) → m.waiting s ≡ map delivery_in q → Took q (d ∷ []) (no_turn (m.arrive d s))
    took_line q s d is = record {
      taken = [];
      waiting = q ++ from_line d ∷ [];
      appended = from_line d ∷ [];
      line = refl;
      said = refl;
      owed = refl;
      turns = refl;
      left = keeps.arrives d s ∙ ap (λ ds. ds ++ d ∷ []) is ∙ sym (map-append delivery_in q (from_line d ∷ []));
    }

    took_step : (q : List Entry) (s : S) (step : T) → m.waiting s ≡ map delivery_in q → m.step s ≡ Some step
        → Took q [] (record { turns = record { before = s; step = step } ∷ []; end = m.next step })
    took_step q s step is made = from q is (keeps.steps s step made)
      where
        from : (es : List Entry) → m.waiting s ≡ map delivery_in es → TakesFront s step → Took es [] (record { turns = record { before = s; step = step } ∷ []; end = m.next step })
        from [] is by = let none : by.d ∷ by.ds ≡ [] = sym by.front ∙ is in absurd (cc)
        from (e ∷ es) is by =
            let new = brought_by m (record { before = s; step = step }) in
            let both : by.d ∷ by.ds ≡ delivery_in e ∷ map delivery_in es = sym by.front ∙ is in
            let same : by.d ≡ delivery_in e = cc in
            let rest : by.ds ≡ map delivery_in es = cc in
            record {
              taken = e ∷ [];
              waiting = es ++ map from_turn new;
              appended = map from_turn new;
              line = refl;
              said = no_lines new;
              owed = brought_are new ∙ sym (append-nil new);
              turns = ap (λ d. d ∷ []) (by.of ∙ same);
              left = by.queue ∙ ap (λ ds. ds ++ new) rest ∙ ap (λ ds. map delivery_in es ++ ds) (sym (deliveries_are new)) ∙ sym (map-append delivery_in es (map from_turn new));
            }

    took_drained : (n : ℕ) (q : List Entry) (s : S) → m.waiting s ≡ map delivery_in q → Took q [] (drains m n s)
    unfolding drains
    took_drained zero q s is = took_none q s is
    took_drained (suc n) q s is = from (λ es end e. took_drained n es end e) (m.step s) refl
      where
        from : ((es : List Entry) (end : S) → m.waiting end ≡ map delivery_in es → Took es [] (drains m n end)) → (next : Option T) → m.step s ≡ next
            → Took q [] (option_map_or (λ (t : T). turn_then s t (drains m n (m.next t))) next (no_turn s))
        from more None e = took_none q s is
        from more (Some step) e =
            let x = took_step q s step is e in
            took_then q (record { turns = record { before = s; step = step } ∷ []; end = m.next step }) (drains m n (m.next step)) [] [] x (more x.waiting (m.next step) x.left)

    took_by_line : (l : Meaning) (q : List Entry) (s : S) → m.waiting s ≡ map delivery_in q → Took q (deliveries_of (l ∷ [])) (by_line m s l)
    took_by_line blank q s is = took_none q s is
    took_by_line (delivered d) q s is = took_line q s d is
    took_by_line (run n) q s is = took_drained n q s is

    said_then : (l : Meaning) (ls : List Meaning) → deliveries_of (l ∷ []) ++ deliveries_of ls ≡ deliveries_of (l ∷ ls)
    said_then blank ls = refl
    said_then (delivered d) ls = refl
    said_then (run n) ls = refl

    -- the same run, where what came is written otherwise
    recame : (q : List Entry) (r : MachineRun S T) (came more : List Delivery) → came ≡ more → Took q came r → Took q more r
    recame q r came more is x = record { taken = x.taken; waiting = x.waiting; appended = x.appended; line = x.line; said = x.said ∙ is; owed = x.owed; turns = x.turns; left = x.left }

    took_lines : (ls : List Meaning) (q : List Entry) (s : S) → m.waiting s ≡ map delivery_in q → Took q (deliveries_of ls) (by_lines m s ls)
    took_lines [] q s is = took_none q s is
    took_lines (l ∷ ls) q s is =
        let a = by_line m s l in
        let x = took_by_line l q s is in
        let b = by_lines m a.end ls in
        recame q (run_then a b) (deliveries_of (l ∷ []) ++ deliveries_of ls) (deliveries_of (l ∷ ls)) (said_then l ls)
        (took_then q a b (deliveries_of (l ∷ [])) (deliveries_of ls) x (took_lines ls x.waiting a.end x.left))

    -- ---- what was appended earlier

    -- what further lines append stands behind
    fronts_of : (first later : List Meaning) (q : List Entry) (s : S) (is : m.waiting s ≡ map delivery_in q)
        → (more : List Entry) × ((took_lines (first ++ later) q s is).appended ≡ (took_lines first q s is).appended ++ more)
    unfolding took_lines took_none took_then recame
    fronts_of [] later q s is = ((took_lines later q s is).appended, refl)
    fronts_of (l ∷ first) later q s is =
        let x = took_by_line l q s is in
        let end = (by_line m s l).end in
        let more = fronts_of first later x.waiting end x.left in
        (more.0, ap (λ es. x.appended ++ es) more.1 ∙ sym (append_assoc x.appended (took_lines first x.waiting end x.left).appended more.0))

    module _ (s : S) (none : m.waiting s ≡ []) where
      abbrev ordered : List Meaning → List Entry
      ordered ls = (took_lines ls [] s none).taken ++ (took_lines ls [] s none).waiting

      front_is : (first later : List Meaning) → IsFront m s first (ordered (first ++ later))
      front_is first later =
          let by = took_lines first [] s none in
          let more = fronts_of first later [] s none in
          record {
            so_far = by.appended;
            later = more.0;
            whole = sym (took_lines (first ++ later) [] s none).line ∙ more.1;
            said = by.said;
            owed = by.owed;
          }

      pub lines_in_order : (ls : List Meaning) → AreInOrder m s ls
      lines_in_order ls =
          let all = took_lines ls [] s none in
          record {
            taken = all.taken;
            waiting = all.waiting;
            said = ap of_lines (sym all.line) ∙ all.said;
            owed = ap of_turns (sym all.line) ∙ all.owed;
            turns = all.turns;
            left = all.left;
            fronts = λ first later is. subst (λ ms. IsFront m s first (ordered ms)) (sym is) (front_is first later);
          }

  -- ---- one step is counted for each

  module _ (number : S → ℕ) (arrives : (d : Delivery) (s : S) → number (m.arrive d s) ≡ number s) (steps : (s : S) (t : T) → m.step s ≡ Some t → number (m.next t) ≡ number s + 1) where
    drains_count : (n : ℕ) (s : S) → number (drains m n s).end ≡ number s + length (drains m n s).turns
    unfolding drains
    drains_count zero s = omega arith
    drains_count (suc n) s = from (λ end. drains_count n end) (m.step s) refl
      where
        from : ((end : S) → number (drains m n end).end ≡ number end + length (drains m n end).turns) → (next : Option T) → m.step s ≡ next
            → number (option_map_or (λ (t : T). turn_then s t (drains m n (m.next t))) next (no_turn s)).end ≡ number s + length (option_map_or (λ (t : T). turn_then s t (drains m n (m.next t))) next (no_turn s)).turns
        from more None e = omega arith
        from more (Some t) e = omega (arith, more (m.next t), steps s t e)

    pub line_counts : (l : Meaning) (s : S) → number (by_line m s l).end ≡ number s + length (by_line m s l).turns
    line_counts blank s = omega arith
    line_counts (delivered d) s = omega (arith, arrives d s)
    line_counts (run n) s = drains_count n s

    pub all_counts : (ls : List Meaning) (s : S) → number (by_lines m s ls).end ≡ number s + length (by_lines m s ls).turns
    all_counts [] s = omega arith
    all_counts (l ∷ ls) s =
        let a = by_line m s l in
        let b = by_lines m a.end ls in
        omega (arith, line_counts l s, all_counts ls a.end, length-append a.turns b.turns)
