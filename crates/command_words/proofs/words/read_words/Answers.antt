use Rattle.std.proofs.Common.{sym, Ok, Result, MatchResult, IsErrAnd, subst, refl, Err, ◌≡◌, ◌∙◌, ◌≤◌, ℕ, List, [], map, string_bytes, ap, ap₂, codes, is_some, unwrap_or, option_map, None, Some, true, Option, arith}
use Rattle.clap.specs.Words.{Row, Text, found_of, rows_of, subcommand_of}
use Rattle.command_words.specs.declared.words.Options.{Options}
use Rattle.command_words.specs.declared.words.WordsFault.{WordsFault}
use Rattle.command_words.specs.declared.words.WordsFault.TheVariants.{NoMemory, Usage}
use Rattle.command_words.specs.Words.{command_set, default_options, number_given, options_of, rows_given}
use Rattle.command_words.proofs.Taken.{plain_run_gives, plain_run_is_no_fault, meter_given, number_is_given, taken_has_subcommand, turns_given}
use Rattle.command_words.proofs.words.read_words.Goals as goal

-- the matches of the subcommand are what the words give its options
rows_are : (c : goal.Joined-matches) → rows_of (found_of c.in-Some.run'.now) ≡ rows_given (map (λ w. string_bytes w) c.args.words.now)
rows_are c = ap (λ (o : Option (List Row)). unwrap_or o []) (c.in-Some.ensures.rows ∙ ap (option_map (λ (p : Text × List Row). p.1)) c.in_ok-matches.ensures.rows)

-- the number of each option is the one that the words give, in its range
turns_is : (c : goal.Joined-matches)
    → (c.number_given.result ≡ number_given (codes "turns") (map (λ w. string_bytes w) c.args.words.now)) × (0 ≤ c.number_given.result) × (c.number_given.result ≤ 4000000000)
turns_is c =
    let words = map (λ w. string_bytes w) c.args.words.now in
    number_is_given (found_of c.in-Some.run'.now) words (codes "turns") 0 4000000000 c.number_given.result (turns_given words c.in_ok-matches.ensures.taken) (rows_are c) (omega arith) c.number_given.ensures

meter_is : (c : goal.Joined-matches)
    → (c.number_given-in-Some.result ≡ number_given (codes "meter") (map (λ w. string_bytes w) c.args.words.now)) × (1 ≤ c.number_given-in-Some.result) × (c.number_given-in-Some.result ≤ 10000000)
meter_is c =
    let words = map (λ w. string_bytes w) c.args.words.now in
    number_is_given (found_of c.in-Some.run'.now) words (codes "meter") 1 10000000 c.number_given-in-Some.result (meter_given words c.in_ok-matches.ensures.taken) (rows_are c) (omega arith) c.number_given-in-Some.ensures

pub returns-in-Some-clause-options : goal.returns-in-Some-clause-options
returns-in-Some-clause-options c =
    let join : ℕ → ℕ → Options = λ turns meter. record { turns = turns; meter = meter } in
    ap₂ join (turns_is c).0 (meter_is c).0

pub returns-in-Some-clause-turns : goal.returns-in-Some-clause-turns
returns-in-Some-clause-turns c = (turns_is c).2

pub returns-in-Some-clause-meter : goal.returns-in-Some-clause-meter
returns-in-Some-clause-meter c = ((meter_is c).1, (meter_is c).2)

-- where the command set takes the words, there is a subcommand
none_is_absurd : (c : goal.Joined-matches-2) → ⊥
none_is_absurd c =
    no_row (subcommand_of command_set (map (λ w. string_bytes w) c.args.words.now)) (taken_has_subcommand (map (λ w. string_bytes w) c.args.words.now) c.in_ok-matches.ensures.taken)
    (c.in-None.ensures.rows ∙ ap (option_map (λ (p : Text × List Row). p.1)) c.in_ok-matches.ensures.rows)
  where
    no_row : (o : Option (Text × List Row)) → is_some o ≡ true → None ≡ option_map (λ (p : Text × List Row). p.1) o → ⊥
    no_row None some none = cc
    no_row (Some p) some none = cc

pub returns-clause-usage : goal.returns-clause-usage
returns-clause-usage c e = absurd (none_is_absurd c)

pub returns-clause-plain : goal.returns-clause-plain
returns-clause-plain c name is = absurd (none_is_absurd c)

pub returns-in-Some-clause-plain : goal.returns-in-Some-clause-plain
returns-in-Some-clause-plain c name is = returns-in-Some-clause-options c ∙ (ap options_of is ∙ plain_run_gives name)

other_than_usage : (fault : WordsFault) → (fault ≡ Usage → ⊥) → fault ≡ NoMemory
other_than_usage Usage other = absurd (other refl)
other_than_usage NoMemory other = refl

passed_up : (r : Result Options WordsFault) (fault : WordsFault) (P : Options → Type 0) (Q : WordsFault → Type 0) → IsErrAnd r (λ e. e ≡ fault) → Q fault → MatchResult r P Q
passed_up (Ok x) fault P Q is q = absurd is
passed_up (Err e) fault P Q is q = subst Q (sym is) q

pub returns-in_err-matches-clause-plain : goal.returns-in_err-matches-clause-plain
returns-in_err-matches-clause-plain c name is =
    let words = map (λ w. string_bytes w) c.args.words.now in
    let fault = c.in_err-matches.field-0.0 in
    let usage = c.in_err-matches.ensures.usage in
    let is_memory = other_than_usage fault (λ e. plain_run_is_no_fault words name is (usage (ap Err e))) in
    passed_up c.from_residual.result fault (λ options. options ≡ default_options) (λ e. e ≡ NoMemory) c.from_residual.ensures.1 is_memory
