-- The command set: it is simple, and where it takes the words, they give each option of `run` a number
-- in its range.
use Rattle.std.proofs.Common.{true≢false, ◌≡◌, ◌∙◌, ◌||◌, ◌≤◌, ◌<◌, ◌^◌, ℕ, Bool, cond, true, false, not, refl, sym, ap, subst, arith, List, [], ◌∷◌, Option, Some, None, is_some, codes}
use Rattle.std.specs.Prelude.{find, option_map, pos, unwrap_or}
use Rattle.std.specs.List.{list_all, list_any}
use Rattle.clap.specs.Facts.{explicit_source}
use Rattle.std.specs.Option.{option_map_or}
use Rattle.std.specs.Str.Parse.{IsNumeral, without_leading_plus}
use Rattle.clap.specs.Matches.{one_text}
use Rattle.clap.specs.declared.parser.matches.Found.{Found}
use Rattle.clap.specs.Lexer.{without_minus}
use Rattle.clap.specs.Walk.{Names, Row, Text, answers_to, arg_by_id, finished, nothing_held, one_of, rows_after, rows_of, stop_after, walk, walk_from}
use Rattle.clap.specs.Simple.{App, Shape, argument_words, built, HasMatchesOf, entered, filled, is_simple, label_of, names_of, rows_at, subcommand_of, subcommand_rows_of}
use Rattle.clap.specs.Faults.{fault_of, is_simple_and_free}
use Rattle.clap.specs.Takes.{built_takes, default_passes, entered_passes, is_valid, level_passes, settle_passes, takes, walk_passes}
use Rattle.clap.specs.declared.builder.value_parser.ValueParser.TheVariants as parser
use Rattle.clap.specs.declared.error.kind.ErrorKind.{ErrorKind}
use Rattle.clap.specs.declared.error.kind.ErrorKind.TheVariants.{OutOfMemory}
use Rattle.clap.specs.declared.parser.matches.ArgMatches.{ArgMatches}
use Rattle.clap.proofs.ValueTestLemmas.{accepts-Accepts}
use Rattle.clap.proofs.WalkLemmas.{both, one_text-rows}
use Rattle.clap.proofs.OnLiterals.{clap_on_literals}
use Rattle.command_words.proofs.NoFault.{is_fit, no_fault_is_taken}
use Rattle.command_words.proofs.Numbers.{IsNumberIn, number_in_range}
use Rattle.command_words.proofs.RowsFit.{Each, IsOption, option_is_given}
use Rattle.command_words.specs.Words.{command_set, default_options, options_of, plain_run, number_given, number_of_text, number_option, rows_given, run_command, takes_words}

pub set_is_simple : is_simple command_set ≡ true
unfolding command_set
set_is_simple = refl

pub set_is_free : is_simple_and_free command_set ≡ true
unfolding command_set
set_is_free = refl

top_is_fit : is_fit (built command_set).top ≡ true
unfolding command_set
top_is_fit = refl

subs_are_fit : list_all is_fit (built command_set).subs ≡ true
unfolding command_set
subs_are_fit = refl

-- the words at which the command set has no fault are taken
pub no_fault_taken : (words : List Text) → fault_of command_set words ≡ [] → takes_words words ≡ true
unfolding takes_words
no_fault_taken words free = no_fault_is_taken command_set words set_is_simple top_is_fit subs_are_fit free

-- ---- the subcommand

-- what was entered is one of the subcommands, and takes the words that are left to it
pub record Enters (subs : List Shape) (entered : Option (Text × List Row)) : Type 0 where
  pub name : Text
  pub sub : Shape
  pub rest : List Text
  pub found : find (λ s. answers_to name (label_of s)) subs ≡ Some sub
  pub same : entered ≡ Some (sub.name, rows_after sub.rules [] rest)
  pub pass : level_passes sub [] nothing_held rest false ≡ true

enters : (a : App) (stop : Option (Text × List Text)) → entered_passes a stop ≡ true → is_some (entered a stop) ≡ true → Enters a.subs (entered a stop)
enters a None pass some = cc
enters a (Some p) pass some = go (find (λ s. answers_to p.0 (label_of s)) a.subs) refl pass some
  where
    go : (o : Option Shape) → find (λ s. answers_to p.0 (label_of s)) a.subs ≡ o → option_map_or (λ s. level_passes s [] nothing_held p.1 false) o true ≡ true
        → is_some (option_map (λ (s : Shape). rows_at s p.1) o) ≡ true → Enters a.subs (option_map (λ (s : Shape). rows_at s p.1) o)
    go None found pass some = cc
    go (Some s) found pass some = record { name = p.0; sub = s; rest = p.1; found = found; same = refl; pass = pass }

-- a level that wants a subcommand passes only where there is one
level_wants : (s : Shape) (names : Names) (words : List Text) (has : Bool) → s.subcommand_required ≡ true → level_passes s names nothing_held words has ≡ true → has ≡ true
level_wants s names words has wants pass =
    let end = (walk s.rules names nothing_held words).held in
    let walks = both (walk_passes s names (walk_from nothing_held) words) _ pass in
    let settles = both (settle_passes s.rules s.args_override_self end) _ walks.1 in
    let valid = both (list_all default_passes s.rules) (is_valid s (finished s.rules end) has) settles.1 in
    let asks = both (not s.arg_required_else_help || (has || list_any (λ (r : Row). explicit_source r.source) (finished s.rules end))) _ valid.1 in
    let needs = both (not s.subcommand_required || has) _ asks.1 in
    wanted s.subcommand_required has wants needs.0
  where
    wanted : (x y : Bool) → x ≡ true → (not x || y) ≡ true → y ≡ true
    wanted true y t e = e
    wanted false y t e = cc

-- a command that wants a subcommand enters one where it takes the words
taken_enters : (a : App) (words : List Text) → takes a words ≡ true → (built a).top.subcommand_required ≡ true → Enters (built a).subs (subcommand_of a words)
taken_enters a words taken wants = go (built a) (argument_words a words) wants (both (is_simple a) (built_takes (built a) nothing_held (argument_words a words)) taken).1
  where
    go : (b : App) (rest : List Text) → b.top.subcommand_required ≡ true → built_takes b nothing_held rest ≡ true
        → Enters b.subs (entered b (stop_after b.top.rules (names_of b) rest))
    go b rest wants pass =
        let stop = stop_after b.top.rules (names_of b) rest in
        let has = is_some (entered b stop) in
        let parts = both (entered_passes b stop) (level_passes b.top (names_of b) nothing_held rest has) pass in
        enters b stop parts.0 (level_wants b.top (names_of b) rest has wants parts.1)

found_only : {X : Type 0} (p : X → Bool) (x y : X) → find p (x ∷ []) ≡ Some y → x ≡ y
found_only p x y found = go (p x) found
  where
    go : (b : Bool) → cond b (Some x) None ≡ Some y → x ≡ y
    go true e = cc
    go false e = cc

-- ---- `run`

abbrev run_built : Shape
run_built = record run_command.top {
  rules = filled (number_option (codes "turns") (codes "10000") 0 4000000000) ∷ filled (number_option (codes "meter") (codes "1000000") 1 10000000) ∷ [];
  disable_help_flag = true;
  disable_help_subcommand = true;
  is_built = true;
}

only_run : (built command_set).subs ≡ run_built ∷ []
unfolding command_set
only_run = refl

wants_subcommand : (built command_set).top.subcommand_required ≡ true
unfolding command_set
wants_subcommand = refl

run_has_options : Each (IsOption run_built.rules) run_built.rules
run_has_options = (record { own = refl; set = refl; least = omega arith }, (record { own = refl; set = refl; least = omega arith }, tt))

-- the subcommand `run` was entered, and takes the words that are left to it
run_entered : (words : List Text) → takes_words words ≡ true → (rest : List Text) × (rows_given words ≡ rows_after run_built.rules [] rest) × (level_passes run_built [] nothing_held rest false ≡ true)
unfolding takes_words
run_entered words taken =
    let e = taken_enters command_set words taken wants_subcommand in
    let is_run : run_built ≡ e.sub = found_only (λ s. answers_to e.name (label_of s)) run_built e.sub (ap (find (λ s. answers_to e.name (label_of s))) (sym only_run) ∙ e.found) in (
      e.rest,
      ap (λ (o : Option (Text × List Row)). unwrap_or (option_map (λ p. p.1) o) []) e.same ∙ ap (λ (s : Shape). rows_after s.rules [] e.rest) (sym is_run),
      subst (λ (s : Shape). level_passes s [] nothing_held e.rest false ≡ true) (sym is_run) e.pass,
    )

-- the text that is read of an option is a number in its range
pub record GivesNumber (words : List Text) (name : Text) (least most : ℕ) : Type 0 where
  pub text : Text
  pub given : one_of name (rows_given words) ≡ Some text
  pub number : IsNumberIn least most text

option_gives : (words : List Text) (name default : Text) (least most : ℕ) → takes_words words ≡ true
    → arg_by_id run_built.rules name ≡ Some (filled (number_option name default least most)) → GivesNumber words name least most
option_gives words name default least most taken own =
    let run = run_entered words taken in
    let a = filled (number_option name default least most) in
    let read = option_is_given run_built run.0 a run_has_options run.2 own (omega arith) in
    record {
      text = without_minus read.0;
      given = ap (one_of name) run.1 ∙ read.1;
      number = number_in_range least most read.0 (accepts-Accepts false (parser.Signed (pos least) (pos most)) read.0 read.2);
    }

pub turns_given : (words : List Text) → takes_words words ≡ true → GivesNumber words (codes "turns") 0 4000000000
turns_given words taken = option_gives words (codes "turns") (codes "10000") 0 4000000000 taken refl

pub meter_given : (words : List Text) → takes_words words ≡ true → GivesNumber words (codes "meter") 1 10000000
meter_given words taken = option_gives words (codes "meter") (codes "1000000") 1 10000000 taken refl

pub given_is : (words : List Text) (name : Text) (least most : ℕ) → (g : GivesNumber words name least most) → number_given name words ≡ number_of_text g.text
unfolding number_given
given_is words name least most g = ap (λ (o : Option Text). option_map_or number_of_text o 0) g.given

-- ---- what a parse of the command set says of its words

pub parsed_is_taken : (a : App) (words : List Text) → a ≡ command_set → (is_simple_and_free a ≡ true → fault_of a words ≡ []) → takes_words words ≡ true
parsed_is_taken a words is free =
    no_fault_taken words (ap (λ (b : App). fault_of b words) (sym is) ∙ free (ap is_simple_and_free is ∙ set_is_free))

pub parsed_rows : (a : App) (words : List Text) (m : ArgMatches) → a ≡ command_set → HasMatchesOf a words m → subcommand_rows_of m ≡ subcommand_of command_set words
parsed_rows a words m is has = (has (ap is_simple is ∙ set_is_simple)).1 ∙ ap (λ (b : App). subcommand_of b words) is

pub refused_is_not_taken : (a : App) (words : List Text) (k : ErrorKind) → a ≡ command_set → (takes a words ≡ true → k ≡ OutOfMemory) → (k ≡ OutOfMemory → ⊥) → takes_words words ≡ false
unfolding takes_words
refused_is_not_taken a words k is passes other = go (takes command_set words) refl
  where
    go : (b : Bool) → takes command_set words ≡ b → b ≡ false
    go true e = absurd (other (passes (ap (λ (b : App). takes b words) is ∙ e)))
    go false e = refl

-- words that are taken enter a subcommand
pub taken_has_subcommand : (words : List Text) → takes_words words ≡ true → is_some (subcommand_of command_set words) ≡ true
unfolding takes_words
taken_has_subcommand words taken = ap is_some (taken_enters command_set words taken wants_subcommand).same

-- what is read of an option, among the rows of `run`, is the number that the words give it
pub number_is_given : (f : Found) (words : List Text) (name : Text) (least most : ℕ) (n : ℕ) → GivesNumber words name least most → rows_of f ≡ rows_given words → most < 2 ^ 32
    → ((text : List ℕ) → one_text f name ≡ Some text → IsNumeral 10 (without_leading_plus text) → number_of_text text < 2 ^ 32 → n ≡ number_of_text text)
    → (n ≡ number_given name words) × (least ≤ n) × (n ≤ most)
number_is_given f words name least most n g rows fits reads =
    let text_is : one_text f name ≡ Some g.text = one_text-rows f name ∙ (ap (one_of name) rows ∙ g.given) in
    let is = reads g.text text_is g.number.numeral (omega (arith, g.number.most)) in (
      is ∙ sym (given_is words name least most g),
      subst (λ (k : ℕ). least ≤ k) (sym is) g.number.least,
      subst (λ (k : ℕ). k ≤ most) (sym is) g.number.most,
    )

-- ---- a plain `run`

pub plain_run_is_taken : (name : Text) → takes_words (plain_run name) ≡ true
unfolding clap_on_literals takes_words command_set
plain_run_is_taken name = refl

pub plain_run_gives : (name : Text) → options_of (plain_run name) ≡ default_options
unfolding clap_on_literals number_given command_set
plain_run_gives name = refl

-- a plain `run` is no fault of usage
pub plain_run_is_no_fault : (words : List Text) (name : Text) → words ≡ plain_run name → takes_words words ≡ false → ⊥
plain_run_is_no_fault words name is refused = true≢false (sym (plain_run_is_taken name) ∙ (ap takes_words (sym is) ∙ refused))
