use Rattle.std.proofs.Common.{◌≡◌, true, [], ◌∷◌, refl}
use Rattle.std.proofs.lemmas.Result.{err_from_is_err_and}
use Rattle.jessie_grammar.specs.declared.jessie_lexer.token.Kind.TheVariants as k
use Rattle.jessie_grammar.specs.Tokens.{kind, has}
use Rattle.jessie_grammar.specs.Words.{always}
use Rattle.jessie_grammar.specs.Rules as p
use Rattle.jessie_grammar.proofs.Reading.{loop_goes, loop_ends, loop_fails, params_fall}
use Rattle.jessie_reader.proofs.functions.more_params.Goals as goal

pub params-smaller : goal.params-smaller
params-smaller c = params_fall _ c.params.rest.now c.in_ok-after.after.now _ refl c.in_ok-after.ensures

pub params-preserved : goal.params-preserved
params-preserved c =
    let h : has (k.Comma ∷ []) (kind c.params.rest.now) ≡ true = cc in
    loop_goes always (k.Comma ∷ []) p.next_param params_fall _ _ _ _ _ c.params.invariant refl h c.in_ok-after.ensures

pub returns-in_err-after : goal.returns-in_err-after
returns-in_err-after c =
    let e = err_from_is_err_and c.from_residual.result c.from_residual.ensures.1 in
    let h : has (k.Comma ∷ []) (kind c.params.rest.now) ≡ true = cc in
    rw (e.1, e.2) (loop_fails always (k.Comma ∷ []) p.next_param params_fall _ _ _ c.in_err-after.field-0.0 c.params.invariant refl h c.in_err-after.ensures)

pub returns : goal.returns
returns c = loop_ends always (k.Comma ∷ []) p.next_param params_fall _ _ _ c.params.invariant (λ _. cc)
