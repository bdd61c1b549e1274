use Rattle.std.proofs.Common.{map, refl, string_bytes}
use Rattle.clap.specs.Words.{app_of, kind_of}
use Rattle.command_words.proofs.Taken.{parsed_is_taken, parsed_rows, refused_is_not_taken}
use Rattle.command_words.proofs.words.words_matched.Goals as goal

pub returns-in_err-matches-clause-usage : goal.returns-in_err-matches-clause-usage
returns-in_err-matches-clause-usage c is_usage =
    refused_is_not_taken (app_of c.in_ok-commands.commands) (map (λ w. string_bytes w) c.args.words.now) (kind_of c.in_err-matches.field-0.0) c.in_ok-commands.ensures
    c.in_err-matches.ensures.passes ((rw is_usage at c.from_residual-in_err-matches.ensures.1) refl)

pub returns-clause-taken : goal.returns-clause-taken
returns-clause-taken c =
    parsed_is_taken (app_of c.in_ok-commands.commands) (map (λ w. string_bytes w) c.args.words.now) c.in_ok-commands.ensures c.in_ok-matches.ensures.kinds

pub returns-clause-rows : goal.returns-clause-rows
returns-clause-rows c =
    parsed_rows (app_of c.in_ok-commands.commands) (map (λ w. string_bytes w) c.args.words.now) c.in_ok-matches.matches c.in_ok-commands.ensures c.in_ok-matches.ensures.matches
