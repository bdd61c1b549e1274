use Rattle.std.proofs.Common.{◌≡◌, true, refl}
use Rattle.std.proofs.lemmas.Result.{err_from_is_err_and}
use Rattle.jessie_grammar.specs.Tokens.{kind, has}
use Rattle.jessie_grammar.specs.Words.{always, statement_begins}
use Rattle.jessie_grammar.specs.Rules as p
use Rattle.jessie_grammar.proofs.Reading.{loop_goes, loop_ends, loop_fails, turns_fall}
use Rattle.jessie_reader.proofs.block.+block.Goals as goal

pub turns-turns-smaller : goal.turns-turns-smaller
turns-turns-smaller t c = (turns_fall c.args.room) _ c.turns.rest.now c.in_ok-after.after.now _ refl c.in_ok-after.ensures

pub turns-turns-preserved : goal.turns-turns-preserved
turns-turns-preserved t c =
    let h : has statement_begins (kind c.turns.rest.now) ≡ true = cc in
    loop_goes always statement_begins (p.turn_from c.args.room (p.inner c.args.room) (p.block c.args.room)) (turns_fall c.args.room) _ _ _ _ _ c.turns.invariant refl h c.in_ok-after.ensures

pub turns-returns-in_err-after : goal.turns-returns-in_err-after
turns-returns-in_err-after t c =
    let e = err_from_is_err_and c.from_residual.result c.from_residual.ensures.1 in
    let h : has statement_begins (kind c.turns.rest.now) ≡ true = cc in
    rw (e.1, e.2) (loop_fails always statement_begins (p.turn_from c.args.room (p.inner c.args.room) (p.block c.args.room)) (turns_fall c.args.room) _ _ _ c.in_err-after.field-0.0 c.turns.invariant refl h c.in_err-after.ensures)

pub turns-returns : goal.turns-returns
turns-returns t c = loop_ends always statement_begins (p.turn_from c.args.room (p.inner c.args.room) (p.block c.args.room)) (turns_fall c.args.room) _ _ _ c.turns.invariant (λ _. cc)
