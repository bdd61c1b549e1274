-- The words that the program takes, as clap takes them, and what they ask for.
use Rattle.std.specs.Prelude.{ℕ, List, [], ◌∷◌, Bool, true, Some, pos, codes, option_map, unwrap_or}
use Rattle.std.specs.Option.{option_map_or}
use Rattle.std.specs.Str.Parse.{digits_value, without_leading_plus}
use Rattle.clap.specs.Walk.{Row, Rule, Text, one_of}
use Rattle.clap.specs.Simple.{App, Shape, new_app, new_rule, on_top, subcommand_of, with_rule, with_subcommand}
use Rattle.clap.specs.Takes.{takes}
use Rattle.clap.specs.declared.builder.value_parser.ValueParser.TheVariants as parser
use Rattle.command_words.specs.declared.words.Options.{Options}

-- the option `--name n`, for a whole number from `least` to `most`
abbrev pub number_option : Text → Text → ℕ → ℕ → Rule
number_option name default least most = record (new_rule name) {
  long = Some name;
  defaults = default ∷ [];
  parser = Some (parser.Signed (pos least) (pos most));
}

-- `run [--turns n] [--meter n]`
abbrev pub run_command : App
run_command = with_rule
    (with_rule (new_app (codes "run")) (number_option (codes "turns") (codes "10000") 0 4000000000))
    (number_option (codes "meter") (codes "1000000") 1 10000000)

-- the program's name and one of its subcommands, with no call for help
abbrev pub asks_for_subcommand : Shape → Shape
asks_for_subcommand s = record s {
  subcommand_required = true;
  disable_help_flag = true;
  disable_help_subcommand = true;
}

unfoldable pub command_set : App
command_set = on_top asks_for_subcommand (with_subcommand (new_app (codes "zoe_run")) run_command.top)

-- the command set takes the words, of which the first is the program's name
unfoldable pub takes_words : List Text → Bool
takes_words words = takes command_set words

-- what the words give the options of their subcommand, defaults too
abbrev pub rows_given : List Text → List Row
rows_given words = unwrap_or (option_map (λ p. p.1) (subcommand_of command_set words)) []

abbrev pub number_of_text : Text → ℕ
number_of_text text = digits_value 10 (without_leading_plus text)

-- the number that the words give the option, or its default
unfoldable pub number_given : Text → List Text → ℕ
number_given name words = option_map_or number_of_text (one_of name (rows_given words)) 0

-- what `run` is asked for
abbrev pub options_of : List Text → Options
options_of words = record {
  turns = number_given (codes "turns") words;
  meter = number_given (codes "meter") words;
}

-- the program's name and `run`, with no option
abbrev pub plain_run : Text → List Text
plain_run name = name ∷ codes "run" ∷ []

abbrev pub default_options : Options
default_options = record { turns = 10000; meter = 1000000 }
