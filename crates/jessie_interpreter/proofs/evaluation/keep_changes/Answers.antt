use Rattle.std.proofs.Common.{ap, sym, ◌∙◌, ◌++◌, length, arith, option_map}
use Rattle.std.specs.Option.{option_to_list}
use Rattle.std.specs.Vec.Iter.{into_iter_items}
use Rattle.jessie_machine.specs.host_data.View.{tree, trees}
use Rattle.jessie_machine.specs.Machine.{changes}
use Rattle.jessie_interpreter.specs.Outcomes.{kept}
use Rattle.jessie_interpreter.proofs.Parts.{no_items_left}
use Rattle.jessie_interpreter.proofs.Ends.{kept_from, kept_next, kept_all, kept_past}
use Rattle.jessie_interpreter.proofs.evaluation.keep_changes.Goals as goal

pub changes-init : goal.changes-init
changes-init c = record {
  is = ap (λ l. kept (trees c.args.values.now.items) (changes l)) c.into_iter-changed.ensures.rest;
  count = ap length c.into_iter-changed.ensures.rest ∙ omega (arith, c.into_iter-changed.ensures.len, c.args.changed.ok.0);
}

pub returns-then-place-len : goal.returns-then-place-len
returns-then-place-len c = sym (kept_past _ _ _ (omega (arith, c.changes.values.ok.0))) ∙ c.changes.invariant.is

pub changes-preserved : goal.changes-preserved
changes-preserved c =
    let next = c.next.ensures.items ∙ ap (λ o. option_to_list o ++ into_iter_items c.next.new.self) c.in-Some.is in
    record {
      is = kept_next _ _ _ _ _ _ (option_map tree c.in-Some.change) (omega arith) c.keep_change.ensures (ap (λ l. kept_from (trees c.changes.values.items) c.changes.place (changes l)) (sym next) ∙ c.changes.invariant.is);
      count = let step = c.in-Some.ensures.cases in omega (arith, ap length step.0, step.1, c.changes.invariant.count);
    }

pub returns : goal.returns
returns c =
    let none = c.in_default.ensures.cases in
    sym (kept_all _ c.changes.place) ∙ (ap (λ l. kept_from (trees c.changes.values.items) c.changes.place (changes l)) (sym (no_items_left _ (c.changes.invariant.count ∙ none.0))) ∙ c.changes.invariant.is)
