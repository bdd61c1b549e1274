use Rattle.std.proofs.Common.{◌≡◌, true, refl}
use Rattle.std.proofs.lemmas.Result.{err_from_is_err_and}
use Rattle.jessie_grammar.specs.Tokens.{kind, has}
use Rattle.jessie_grammar.specs.Words.{always, item_begins}
use Rattle.jessie_grammar.specs.Rules as p
use Rattle.jessie_grammar.proofs.Reading.{loop_goes, loop_ends, loop_fails, module_items_fall}
use Rattle.jessie_reader.proofs.module.items.Goals as goal

pub items-smaller : goal.items-smaller
items-smaller c = (module_items_fall c.args.room) _ c.items.rest.now c.in_ok-after.after.now _ refl c.in_ok-after.ensures

pub items-preserved : goal.items-preserved
items-preserved c =
    let h : has item_begins (kind c.items.rest.now) ≡ true = cc in
    loop_goes always item_begins (p.item c.args.room) (module_items_fall c.args.room) _ _ _ _ _ c.items.invariant refl h c.in_ok-after.ensures

pub returns-in_err-after : goal.returns-in_err-after
returns-in_err-after c =
    let e = err_from_is_err_and c.from_residual.result c.from_residual.ensures.1 in
    let h : has item_begins (kind c.items.rest.now) ≡ true = cc in
    rw (e.1, e.2) (loop_fails always item_begins (p.item c.args.room) (module_items_fall c.args.room) _ _ _ c.in_err-after.field-0.0 c.items.invariant refl h c.in_err-after.ensures)

pub returns : goal.returns
returns c = loop_ends always item_begins (p.item c.args.room) (module_items_fall c.args.room) _ _ _ c.items.invariant (λ _. cc)
