use Rattle.std.proofs.Common.{◌≡◌, ℕ, ◌∷◌, [], ◌++◌, ◌∙◌, List, ap, append_assoc, length, refl, sym, arith, rules}
use Rattle.std.proofs.lemmas.List.{append-nil}
use Rattle.std.specs.Vec.Iter.{into_iter_items}
use Rattle.refusals.proofs.host_data.Views.{tree-Record}
use Rattle.refusals.specs.host_data.Tree.{Tree, fields, function}
use Rattle.refusals.specs.host_data.View.{fields_of, named_trees}
use Rattle.contract_powers.proofs.Methods.{fields_same, named_functions}
use Rattle.contract_powers.proofs.host_calls.told_calls.methods_data.Goals as goal

none_left : (ms : List (List ℕ × List ℕ)) → length ms ≡ 0 → ms ≡ []
none_left [] e = refl
none_left (m ∷ ms) e = absurd (omega (arith, e))

pub loop-method-preserved : goal.loop-method-preserved
loop-method-preserved c = record {
  can = tt;
  finite = tt;
  made = let steps : into_iter_items c.loop-method.method-iterator ≡ (c.in-Some.method, c.in-Some.function) ∷ into_iter_items c.next.new.self = c.in-Some.ensures.steps.0 in
      let rest = into_iter_items c.next.new.self in
      let before = named_trees c.loop-method.made.items in
      ap (λ (bs : List (List ℕ × Tree)). bs ++ named_functions rest) c.in_ok-push_method.ensures
      ∙ append_assoc before ((c.in-Some.method, function c.in-Some.function) ∷ []) (named_functions rest)
      ∙ sym (ap (λ (ms : List (List ℕ × List ℕ)). before ++ named_functions ms) steps)
      ∙ c.loop-method.invariant.made;
  left = search rules;
}

pub returns : goal.returns
returns c =
    let none = none_left (into_iter_items c.loop-method.method-iterator) (let no = c.in-None.ensures.steps.0 in omega (arith, no, c.loop-method.invariant.left)) in
    tree-Record c.loop-method.made
    ∙ ap (λ (ts : List (List ℕ × Tree)). fields (fields_of ts)) (sym (append-nil (named_trees c.loop-method.made.items)) ∙ sym (ap (λ (ms : List (List ℕ × List ℕ)). named_trees c.loop-method.made.items ++ named_functions ms) none) ∙ c.loop-method.invariant.made)
    ∙ ap fields (fields_same c.args.methods.items)
