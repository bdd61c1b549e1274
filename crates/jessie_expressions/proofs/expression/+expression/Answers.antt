use Rattle.std.proofs.Common.{◌≡◌, ◌+◌, true, false, [], Err, ◌∙◌, ap, refl, sym}
use Rattle.std.proofs.lemmas.Result.{err_from_is_err_and}
use Rattle.jessie_grammar.specs.declared.jessie_lexer.token.Kind.TheVariants as k
use Rattle.jessie_grammar.specs.Tokens.{kind, has}
use Rattle.jessie_grammar.specs.declared.syntax.Expr.TheVariants as expr
use Rattle.jessie_grammar.specs.Words.{always, ongoing, access_begins}
use Rattle.jessie_grammar.specs.Parse.{and_then, pure}
use Rattle.jessie_grammar.specs.Levels.{level_at, operands}
use Rattle.jessie_grammar.specs.Rules as p
use Rattle.jessie_grammar.proofs.Reading.{loop_goes, loop_ends, loop_fails, flag_goes, flag_fails, after_fails, items_leave, fields_leave, accesses_fall, op_falls, inner_is}
use Rattle.jessie_expressions.proofs.expression.+expression.Goals.{operators-then-operators-test+else-is_operator, operators-else-operators-test}
use Rattle.jessie_expressions.proofs.Lists.{list_begins, list_goes, list_fails, list_ends, list_falls, bracketed_goes, gives_along, access_reads, access_fails}
use Rattle.jessie_expressions.proofs.expression.+expression.Goals as goal

pub items-returns-in_err-item : goal.items-returns-in_err-item
items-returns-in_err-item t c =
    let e = err_from_is_err_and c.from_residual.result c.from_residual.ensures.1 in
    rw (e.1, e.2) (list_fails c.args.close (p.inner c.args.room) _ _ _ c.items.rest.now c.in_err-item.field-0.0 c.items.invariant c.items-test.true (gives_along (λ x. x) (Err c.in_err-item.field-0.0) _ _ (inner_is c.args.room c.items.name_uses c.items.rest.now c.requires.room) c.in_err-item.ensures))

pub items-items-init : goal.items-items-init
items-items-init t c = list_begins c.args.close (p.inner c.args.room) c.args.name_uses.now _ c.args.tokens.now _ c.is-more.ensures c.requires.none

pub items-items-smaller : goal.items-items-smaller
items-items-smaller t c = list_falls c.args.close (p.inner c.args.room) (items_leave c.args.room c.requires.room) _ _ _ _ c.items.rest.now _ _ c.items-test.true (inner_is c.args.room c.items.name_uses c.items.rest.now c.requires.room ∙ c.in_ok-item.ensures) c.next_place-again.ensures

pub items-items-preserved : goal.items-items-preserved
items-items-preserved t c =
    list_goes c.args.close (p.inner c.args.room) (items_leave c.args.room c.requires.room) _ _ _ _ _ _ _ _ c.items.rest.now _ _ c.items.invariant c.items-test.true (inner_is c.args.room c.items.name_uses c.items.rest.now c.requires.room ∙ c.in_ok-item.ensures) c.in_ok-add_expression.ensures c.next_place-again.ensures

pub items-returns : goal.items-returns
items-returns t c = list_ends c.args.close (p.inner c.args.room) _ _ _ c.items.rest.now c.items.invariant c.items-test.false

pub fields-returns-in_err-key : goal.fields-returns-in_err-key
fields-returns-in_err-key t c =
    let e = err_from_is_err_and c.from_residual.result c.from_residual.ensures.1 in
    rw (e.1, e.2) (list_fails k.RightBrace (p.field (p.inner c.args.room)) _ _ _ c.fields.rest.now c.in_err-key.field-0.0 c.fields.invariant c.fields-test.true c.in_err-key.ensures)

pub fields-fields-init : goal.fields-fields-init
fields-fields-init t c = list_begins k.RightBrace (p.field (p.inner c.args.room)) c.args.name_uses.now _ c.args.tokens.now _ c.is-more.ensures c.requires.none

pub fields-fields-smaller : goal.fields-fields-smaller
fields-fields-smaller t c = list_falls k.RightBrace (p.field (p.inner c.args.room)) (fields_leave c.args.room c.requires.room) _ _ _ _ c.fields.rest.now _ _ c.fields-test.true c.in_ok-key.ensures c.next_place-again.ensures

pub fields-fields-preserved : goal.fields-fields-preserved
fields-fields-preserved t c =
    list_goes k.RightBrace (p.field (p.inner c.args.room)) (fields_leave c.args.room c.requires.room) _ _ _ _ _ _ _ _ c.fields.rest.now _ _ c.fields.invariant c.fields-test.true c.in_ok-key.ensures c.in_ok-add_field.ensures c.next_place-again.ensures

pub fields-returns : goal.fields-returns
fields-returns t c = list_ends k.RightBrace (p.field (p.inner c.args.room)) _ _ _ c.fields.rest.now c.fields.invariant c.fields-test.false

pub operators-returns-in_err-again : goal.operators-returns-in_err-again
operators-returns-in_err-again t c =
    let e = err_from_is_err_and c.from_residual.result c.from_residual.ensures.1 in
    let h : has (level_at c.args.level).0 (kind c.operators.rest.now) ≡ true = cc in
    rw (e.1, e.2) (λ first. after_fails c.in_err-again.field-0.0 _ (λ s. pure s.0) (flag_fails (level_at c.args.level).0 (p.op_step (level_at c.args.level) (operands c.args.room (c.args.level + 1))) (op_falls c.args.room c.args.level c.requires) _ _ _ _ c.in_err-again.field-0.0 (c.operators.invariant first) c.operators-test.true h (c.in_err-again.ensures first)))

pub operators-operators-smaller : goal.operators-operators-smaller
operators-operators-smaller t c = (op_falls c.args.room c.args.level c.requires) _ c.operators.rest.now c.in_ok-again.after.now _ refl (c.in_ok-again.ensures (expr.Name []))

pub operators-operators-preserved : goal.operators-operators-preserved
operators-operators-preserved t c =
    let h : has (level_at c.args.level).0 (kind c.operators.rest.now) ≡ true = cc in
    λ first. flag_goes (level_at c.args.level).0 (p.op_step (level_at c.args.level) (operands c.args.room (c.args.level + 1))) (op_falls c.args.room c.args.level c.requires) _ _ _ _ _ _ (c.operators.invariant first) c.operators-test.true h (c.in_ok-again.ensures first)

pub operators-returns : goal.operators-returns
operators-returns t c =
    let h : c.operators.more ≡ true → has (level_at c.args.level).0 (kind c.operators.rest.now) ≡ false = λ m. elim c.operators-test.branch [ operators-then-operators-test+else-is_operator w ↦ cc | operators-else-operators-test w ↦ absurd (let no : true ≡ false = sym m ∙ w.operators-test.false in cc) ] in
    λ first. ap (λ o. and_then o (λ s. pure s.0)) (loop_ends ongoing (level_at c.args.level).0 (p.op_step (level_at c.args.level) (operands c.args.room (c.args.level + 1))) (op_falls c.args.room c.args.level c.requires) _ _ _ (c.operators.invariant first) h)

pub accesses-returns-in_err-after : goal.accesses-returns-in_err-after
accesses-returns-in_err-after t c =
    let e = err_from_is_err_and c.from_residual.result c.from_residual.ensures.1 in
    let h : has access_begins (kind c.accesses.rest.now) ≡ true = cc in
    rw (e.1, e.2) (λ first. loop_fails always access_begins (p.access_on c.args.room (p.inner c.args.room)) (accesses_fall c.args.room) _ _ _ c.in_err-after.field-0.0 (c.accesses.invariant first) refl h (access_fails first _ c.accesses.name_uses _ _ c.in_err-after.ensures))

pub accesses-accesses-smaller : goal.accesses-accesses-smaller
accesses-accesses-smaller t c = (accesses_fall c.args.room) _ c.accesses.rest.now c.in_ok-after.after.now _ refl (access_reads (expr.Name []) _ _ c.accesses.name_uses _ _ _ c.in_ok-after.ensures)

pub accesses-accesses-preserved : goal.accesses-accesses-preserved
accesses-accesses-preserved t c =
    let h : has access_begins (kind c.accesses.rest.now) ≡ true = cc in
    λ first. loop_goes always access_begins (p.access_on c.args.room (p.inner c.args.room)) (accesses_fall c.args.room) _ _ _ _ _ (c.accesses.invariant first) refl h (access_reads first _ _ c.accesses.name_uses _ _ _ c.in_ok-after.ensures)

pub accesses-returns : goal.accesses-returns
accesses-returns t c =
    let h : has access_begins (kind c.accesses.rest.now) ≡ false = cc in
    λ first. loop_ends always access_begins (p.access_on c.args.room (p.inner c.args.room)) (accesses_fall c.args.room) _ _ _ (c.accesses.invariant first) (λ _. h)

pub group-returns : goal.group-returns
group-returns t c =
    gives_along _ _ _ _ (bracketed_goes c.args.room c.args.from c.args.to (p.inner c.args.room c.args.name_uses.now) _ _ _ _ c.in_ok-rest.ensures.reads (inner_is c.args.room c.args.name_uses.now c.in_ok-rest.rest.now c.in_ok-rest.ensures.room ∙ c.in_ok-tree.ensures)) (c.close_group.ensures _)
