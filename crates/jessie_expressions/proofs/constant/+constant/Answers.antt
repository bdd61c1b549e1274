use Rattle.std.proofs.Common.{Err, ◌∙◌}
use Rattle.std.proofs.lemmas.Result.{err_from_is_err_and}
use Rattle.jessie_grammar.specs.declared.jessie_lexer.token.Kind.TheVariants as k
use Rattle.jessie_grammar.specs.Rules as p
use Rattle.jessie_grammar.proofs.Reading.{inner_constant_is, constants_leave, constant_fields_leave}
use Rattle.jessie_expressions.proofs.Lists.{list_begins, list_goes, list_fails, list_ends, list_falls, gives_along}
use Rattle.jessie_expressions.proofs.constant.+constant.Goals as goal

pub items-returns-in_err-item : goal.items-returns-in_err-item
items-returns-in_err-item t c =
    let e = err_from_is_err_and c.from_residual.result c.from_residual.ensures.1 in
    rw (e.1, e.2) (list_fails k.RightBracket (p.inner_constant c.args.room) _ _ _ c.items.rest.now c.in_err-item.field-0.0 c.items.invariant c.items-test.true (gives_along (λ x. x) (Err c.in_err-item.field-0.0) _ _ (inner_constant_is c.args.room c.items.name_uses c.items.rest.now c.requires.room) c.in_err-item.ensures))

pub items-items-init : goal.items-items-init
items-items-init t c = list_begins k.RightBracket (p.inner_constant c.args.room) c.args.name_uses.now _ c.args.tokens.now _ c.is-more.ensures c.requires.none

pub items-items-smaller : goal.items-items-smaller
items-items-smaller t c = list_falls k.RightBracket (p.inner_constant c.args.room) (constants_leave c.args.room c.requires.room) _ _ _ _ c.items.rest.now _ _ c.items-test.true (inner_constant_is c.args.room c.items.name_uses c.items.rest.now c.requires.room ∙ c.in_ok-item.ensures) c.next_place-again.ensures

pub items-items-preserved : goal.items-items-preserved
items-items-preserved t c =
    list_goes k.RightBracket (p.inner_constant c.args.room) (constants_leave c.args.room c.requires.room) _ _ _ _ _ _ _ _ c.items.rest.now _ _ c.items.invariant c.items-test.true (inner_constant_is c.args.room c.items.name_uses c.items.rest.now c.requires.room ∙ c.in_ok-item.ensures) c.in_ok-add_constant.ensures c.next_place-again.ensures

pub items-returns : goal.items-returns
items-returns t c = list_ends k.RightBracket (p.inner_constant c.args.room) _ _ _ c.items.rest.now c.items.invariant c.items-test.false

pub fields-returns-in_err-key : goal.fields-returns-in_err-key
fields-returns-in_err-key t c =
    let e = err_from_is_err_and c.from_residual.result c.from_residual.ensures.1 in
    rw (e.1, e.2) (list_fails k.RightBrace (p.constant_field (p.inner_constant c.args.room)) _ _ _ c.fields.rest.now c.in_err-key.field-0.0 c.fields.invariant c.fields-test.true c.in_err-key.ensures)

pub fields-fields-init : goal.fields-fields-init
fields-fields-init t c = list_begins k.RightBrace (p.constant_field (p.inner_constant c.args.room)) c.args.name_uses.now _ c.args.tokens.now _ c.is-more.ensures c.requires.none

pub fields-fields-smaller : goal.fields-fields-smaller
fields-fields-smaller t c = list_falls k.RightBrace (p.constant_field (p.inner_constant c.args.room)) (constant_fields_leave c.args.room c.requires.room) _ _ _ _ c.fields.rest.now _ _ c.fields-test.true c.in_ok-key.ensures c.next_place-again.ensures

pub fields-fields-preserved : goal.fields-fields-preserved
fields-fields-preserved t c =
    list_goes k.RightBrace (p.constant_field (p.inner_constant c.args.room)) (constant_fields_leave c.args.room c.requires.room) _ _ _ _ _ _ _ _ c.fields.rest.now _ _ c.fields.invariant c.fields-test.true c.in_ok-key.ensures c.in_ok-add_constant_field.ensures c.next_place-again.ensures

pub fields-returns : goal.fields-returns
fields-returns t c = list_ends k.RightBrace (p.constant_field (p.inner_constant c.args.room)) _ _ _ c.fields.rest.now c.fields.invariant c.fields-test.false
