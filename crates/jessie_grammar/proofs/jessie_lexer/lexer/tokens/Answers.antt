use Rattle.std.proofs.Common.{◌≡◌, ◌-◌, ◌<◌, length, arith, ap, sym, ◌∙◌}
use Rattle.std.proofs.lemmas.Bool.{eqb-true}
use Rattle.std.proofs.lemmas.Bool.Decides.{nat_tests}
use Rattle.jessie_grammar.specs.Lex.{cut, cut_from, piece}
use Rattle.jessie_grammar.proofs.Cutting.{cut_over, cut_stops, cut_goes}
use Rattle.jessie_grammar.proofs.jessie_lexer.lexer.tokens.Goals as goal

pub turns-init : goal.turns-init
unfolding cut
turns-init c =
    let e : length c.args.bytes.now ≡ length c.args.bytes.now - 0 = omega arith in
    rw c.new-found.ensures.items (ap (λ m. cut_from m (length c.args.bytes.now) c.args.bytes.now) e)

pub returns-then-is_empty : goal.returns-then-is_empty
returns-then-is_empty c =
    let none : length c.skip-here.result.now ≡ 0 = eqb-true _ _ (sym c.is_empty.ensures ∙ c.if-is_empty.true) in
    sym (cut_stops (length c.args.bytes.now) c.turns._turn (length c.args.bytes.now) _ c.turns.found.items c.turns.rest.now c.skip-here.result.now c.turns-test.true c.turns.invariant c.skip-here.ensures none)

pub turns-preserved : goal.turns-preserved
turns-preserved c =
    let some : 0 < length c.skip-here.result.now = grind (arith, nat_tests, c.is_empty.ensures, c.if-is_empty.false) in
    rw c.in_ok-push.ensures.items
    (cut_goes (length c.args.bytes.now) c.turns._turn (length c.args.bytes.now) _ c.turns.found.items c.turns.rest.now c.skip-here.result.now c.in_ok-token.token c.in_ok-token.after.now c.turns-test.true c.turns.invariant c.skip-here.ensures some
    (ap (λ m. piece m c.skip-here.result.now) (sym c.saturating_sub-at.ensures) ∙ c.in_ok-token.ensures))

pub returns : goal.returns
returns c = sym (cut_over (length c.args.bytes.now) c.turns._turn (length c.args.bytes.now) _ c.turns.found.items c.turns.rest.now c.turns-test.false c.turns.invariant)
