use Rattle.std.proofs.Common.{◌≡◌, true, false, refl}
use Rattle.std.proofs.lemmas.Str.{is_utf8-from_IsUtf8}
use Rattle.std.specs.Str.{is_utf8}
use Rattle.jessie_grammar.proofs.Words.{no_utf8}
use Rattle.jessie_grammar.proofs.jessie_lexer.lexer.text_at.Goals as goal

pub returns-in_ok-word_token-in-Ok : goal.returns-in_ok-word_token-in-Ok
returns-in_ok-word_token-in-Ok c =
    let good : is_utf8 c.args.found.now ≡ true = is_utf8-from_IsUtf8 c.args.found.now c.in-Ok.ensures.cases.1 in
    rw (good, c.in_ok-word_token-in-Ok.ensures, c.in-Ok.ensures.cases.0) refl

pub returns-in-Err : goal.returns-in-Err
returns-in-Err c =
    let wrong : is_utf8 c.args.found.now ≡ false = no_utf8 c.args.found.now c.in-Err.ensures.cases.0 in
    rw wrong c.bad_token.ensures
