-- A simple command with no rule on its arguments takes the words at which it has no fault: the tests
-- of `takes` and the kinds of `fault_of` go through the same steps.
use Rattle.std.proofs.Common.{◌≡◌, ◌∙◌, ◌&&◌, ◌||◌, ℕ, Bool, cond, true, false, not, zero, suc, refl, sym, ap, ap₂, arith, List, [], ◌∷◌, length, nat_le, Option, Some, None, is_some}
use Rattle.std.specs.Prelude.{encode_utf8, slice_get, drop, find, codes}
use Rattle.std.specs.List.{list_all, list_any}
use Rattle.std.specs.Option.{option_map_or}
use Rattle.std.specs.Str.{bytes_eq, chars}
use Rattle.std.proofs.lemmas.Bool.Decides.{nat_tests}
use Rattle.clap.specs.Lexer.{long_of, short_of}
use Rattle.clap.specs.Facts.{explicit_source, parser_of_value, unwrap_or_range}
use Rattle.clap.specs.ValueTests.{accepts}
use Rattle.clap.specs.Values.{refused_kind}
use Rattle.clap.specs.Walk.{Held, Names, Row, Rule, Step, Text, Waiting, Walk, action_of, answers_to, arg_by_id, arg_by_index, arg_by_long, arg_by_short, attached_value, finished, has_row, is_pending, most_values, next, nothing_held, reacted, settled, subcommand, subcommand_met, takes_several, takes_values, trailing, value, values_or_missing, walk, walk_from, walked, word_met}
use Rattle.clap.specs.Simple.{App, Shape, argument_words, built, entered, is_simple, label_of, names_of}
use Rattle.clap.specs.Kinds.{Kinds, check_kinds, or_else, range_kinds, value_kinds, values_kinds}
use Rattle.clap.specs.Faults.{action_fault, bundle_fault, bundle_step_fault, built_fault, check_fault, count_fault, defaults_fault, entered_fault, fault_of, flag_word_fault, flags_fault, has_free_rules, level_fault, long_fault, option_fault, other_fault, positional_fault, react_fault, repeat_fault, set_fault, settle_fault, short_fault, step_fault, stray_fault, turn_fault, use_fault, values_fault, walk_fault, word_fault}
use Rattle.clap.specs.Takes.{action_passes, bundle_passes, bundle_step_passes, built_takes, count_passes, default_passes, entered_passes, flag_word_passes, flags_pass, is_given, is_valid, level_passes, long_passes, option_passes, other_passes, positional_passes, react_passes, set_passes, settle_passes, short_passes, step_passes, takes, turn_passes, use_passes, walk_passes, word_passes}
use Rattle.clap.specs.declared.builder.action.ArgAction.{ArgAction}
use Rattle.clap.specs.declared.builder.action.ArgAction.TheVariants.{Set, Append, SetTrue, SetFalse, Count, Help, HelpShort, HelpLong, Version}
use Rattle.clap.specs.declared.builder.value_parser.ValueParser.{ValueParser}
use Rattle.clap.specs.declared.error.kind.ErrorKind.{ErrorKind}
use Rattle.clap.specs.declared.error.kind.ErrorKind.TheVariants as kind
use Rattle.clap.proofs.WalkLemmas.{both}

abbrev none : Kinds → Bool
none [] = true
none (k ∷ ks) = false

-- ---- joins

none-or_else : (a b : Kinds) → none (or_else a b) ≡ (none a && none b)
none-or_else [] b = refl
none-or_else (k ∷ ks) b = refl

none-join : (a b : Kinds) (p q : Bool) → none a ≡ p → none b ≡ q → none (or_else a b) ≡ (p && q)
none-join a b p q d e = none-or_else a b ∙ ap₂ (λ (x : Bool) (y : Bool). x && y) d e

none-cond : (b : Bool) (x y : Kinds) (p q : Bool) → none x ≡ p → none y ≡ q → none (cond b x y) ≡ cond b p q
none-cond true x y p q d e = d
none-cond false x y p q d e = e

none-unless : (b : Bool) (y : Kinds) (q : Bool) → none y ≡ q → none (cond b [] y) ≡ (b || q)
none-unless true y q e = refl
none-unless false y q e = e

none-where : (b : Bool) (k : ErrorKind) (y : Kinds) (q : Bool) → none y ≡ q → none (cond b (k ∷ []) y) ≡ (not b && q)
none-where true k y q e = refl
none-where false k y q e = e

none-map_or : {X : Type 0} (f : X → Kinds) (g : X → Bool) (d : Kinds) (e : Bool) → ((x : X) → none (f x) ≡ g x) → none d ≡ e
    → (o : Option X) → none (option_map_or f o d) ≡ option_map_or g o e
none-map_or f g d e each other None = other
none-map_or f g d e each other (Some x) = each x

and_assoc : (a b c : Bool) → ((a && b) && c) ≡ (a && (b && c))
and_assoc true b c = refl
and_assoc false b c = refl

is_empty_of : (ks : Kinds) → none ks ≡ true → ks ≡ []
is_empty_of [] e = refl
is_empty_of (k ∷ ks) e = cc

-- ---- values

none-value : (i : Bool) (p : ValueParser) (t : Text) → none (value_kinds i p t) ≡ accepts i p t
none-value i p t = go (accepts i p t)
  where
    go : (b : Bool) → none (cond b [] (refused_kind p ∷ [])) ≡ b
    go true = refl
    go false = refl

none-values : (i : Bool) (p : ValueParser) (vs : List Text) → none (values_kinds i p vs) ≡ list_all (accepts i p) vs
none-values i p [] = refl
none-values i p (v ∷ vs) = none-join (value_kinds i p v) (values_kinds i p vs) _ _ (none-value i p v) (none-values i p vs)

-- the first kind stands in the place of no values where some are wanted
none-range : (least most n : ℕ) → none (range_kinds least most n) ≡ (nat_le least n && nat_le n most)
none-range least most n = grind (arith, nat_tests)

none-repeat : (again : Bool) (id : Text) (rows : List Row) → none (repeat_fault again id rows) ≡ (not (has_row id rows) || again)
none-repeat again id rows = go (has_row id rows) again
  where
    go : (has again : Bool) → none (cond (has && not again) (kind.ArgumentConflict ∷ []) []) ≡ (not has || again)
    go true true = refl
    go true false = refl
    go false again = refl

none-set : (again : Bool) (a : Rule) (vs : List Text) (rows : List Row) → none (set_fault again a vs rows) ≡ set_passes again a vs rows
none-set again a vs rows = none-join (repeat_fault again a.id rows) (values_fault a vs) _ _ (none-repeat again a.id rows) (none-values a.ignore_case (parser_of_value a.parser) vs)

none-count : (a : Rule) (vs : List Text) (rows : List Row) → none (count_fault a vs rows) ≡ count_passes a vs rows
none-count a [] rows = none-value a.ignore_case (parser_of_value a.parser) _
none-count a (v ∷ vs) rows = none-values a.ignore_case (parser_of_value a.parser) (v ∷ vs)

none-action : (x : ArgAction) (again : Bool) (a : Rule) (vs : List Text) (rows : List Row) → none (action_fault x again a vs rows) ≡ action_passes x again a vs rows
none-action Set again a vs rows = none-set again a vs rows
none-action SetTrue again a vs rows = none-set again a vs rows
none-action SetFalse again a vs rows = none-set again a vs rows
none-action Append again a vs rows = none-values a.ignore_case (parser_of_value a.parser) vs
none-action Count again a vs rows = none-count a vs rows
none-action Help again a vs rows = refl
none-action HelpShort again a vs rows = refl
none-action HelpLong again a vs rows = refl
none-action Version again a vs rows = refl

none-use : (again : Bool) (a : Rule) (vs : List Text) (rows : List Row) → none (use_fault again a vs rows) ≡ use_passes again a vs rows
none-use again a vs rows =
    none-join (range_kinds (unwrap_or_range a.range).start_inclusive (most_values a) (length vs)) (action_fault (action_of a) again a (values_or_missing a vs) rows) _ _
    (none-range (unwrap_or_range a.range).start_inclusive (most_values a) (length vs)) (none-action (action_of a) again a (values_or_missing a vs) rows)
    ∙ and_assoc (nat_le (unwrap_or_range a.range).start_inclusive (length vs)) (nat_le (length vs) (most_values a)) (action_passes (action_of a) again a (values_or_missing a vs) rows)

-- ---- the words

none-settle : (c : List Rule) (again : Bool) (h : Held) → none (settle_fault c again h) ≡ settle_passes c again h
none-settle c again h =
    none-map_or (λ (p : Text × List Text). option_map_or (λ (a : Rule). use_fault again a p.1 h.rows) (arg_by_id c p.0) [])
    (λ (p : Text × List Text). option_map_or (λ (a : Rule). use_passes again a p.1 h.rows) (arg_by_id c p.0) true) [] true
    (λ p. none-map_or (λ (a : Rule). use_fault again a p.1 h.rows) (λ (a : Rule). use_passes again a p.1 h.rows) [] true
    (λ a. none-use again a p.1 h.rows) refl (arg_by_id c p.0)) refl h.pending

none-react : (c : List Rule) (again : Bool) (a : Rule) (vs : List Text) (h : Held) → none (react_fault c again a vs h) ≡ react_passes c again a vs h
none-react c again a vs h = none-join (settle_fault c again h) (use_fault again a vs (settled c h).rows) _ _ (none-settle c again h) (none-use again a vs (settled c h).rows)

none-option : (c : List Rule) (again : Bool) (a : Rule) (v : Option Text) (h : Held) → none (option_fault c again a v h) ≡ option_passes c again a v h
none-option c again a (Some v) h = none-react c again a (v ∷ []) h
none-option c again a None h = none-settle c again h

none-long : (c : List Rule) (again : Bool) (o : Option Rule) (v : Option Text) (h : Held) → none (long_fault c again o v h) ≡ long_passes c again o v h
none-long c again None v h = refl
none-long c again (Some a) v h =
    none-cond (takes_values a) (option_fault c again a v h) (cond (is_some v) (kind.TooManyValues ∷ []) (react_fault c again a [] h)) _ _
    (none-option c again a v h) (none-where (is_some v) kind.TooManyValues (react_fault c again a [] h) _ (none-react c again a [] h))

none-short : (c : List Rule) (again : Bool) (o : Option Rule) (rest : Text) (h : Held) (f : Held → Kinds) (g : Held → Bool) → ((k : Held) → none (f k) ≡ g k)
    → none (short_fault c again o rest h f) ≡ short_passes c again o rest h g
none-short c again None rest h f g each = refl
none-short c again (Some a) rest h f g each =
    none-cond (takes_values a) (option_fault c again a (attached_value rest) h) (or_else (react_fault c again a [] h) (f (reacted c a [] h))) _ _
    (none-option c again a (attached_value rest) h)
    (none-join (react_fault c again a [] h) (f (reacted c a [] h)) _ _ (none-react c again a [] h) (each (reacted c a [] h)))

none-bundle_step : (c : List Rule) (again : Bool) (o : Option ℕ) (flags : Text) (skip : ℕ) (h : Held) (f : Text → ℕ → Held → Kinds) (g : Text → ℕ → Held → Bool)
    → ((t : Text) (n : ℕ) (k : Held) → none (f t n k) ≡ g t n k)
    → none (bundle_step_fault c again o flags skip h f) ≡ bundle_step_passes c again o flags skip h g
none-bundle_step c again None flags skip h f g each = refl
none-bundle_step c again (Some x) flags zero h f g each =
    none-short c again (arg_by_short c x) (drop (length (encode_utf8 x)) flags) h (f (drop (length (encode_utf8 x)) flags) 0) (g (drop (length (encode_utf8 x)) flags) 0)
    (each (drop (length (encode_utf8 x)) flags) 0)
none-bundle_step c again (Some x) flags (suc skip) h f g each = each (drop (length (encode_utf8 x)) flags) skip h

none-flags : (c : List Rule) (again : Bool) (k : ℕ) (flags : Text) (skip : ℕ) (h : Held) → none (flags_fault c again k flags skip h) ≡ flags_pass c again k flags skip h
unfolding flags_fault flags_pass
none-flags c again zero flags skip h = refl
none-flags c again (suc k) flags skip h =
    none-bundle_step c again (slice_get (chars flags) 0) flags skip h (flags_fault c again k) (flags_pass c again k) (none-flags c again k)

none-flag_word : (c : List Rule) (again : Bool) (o : Option (Text × Option Text)) (word : Text) (h : Held)
    → none (flag_word_fault c again o word h) ≡ flag_word_passes c again o word h
none-flag_word c again (Some p) word h = none-long c again (arg_by_long c p.0) p.1 h
none-flag_word c again None word h =
    none-map_or (λ (flags : Text). bundle_fault c again flags h) (λ (flags : Text). bundle_passes c again flags h) [] true
    (λ flags. none-flags c again (length flags) flags h.skip (record h { skip = 0 })) refl (short_of word)

none-other : (s : Shape) (o : Option Text) (word : Text) (h : Held) → none (other_fault s o word h) ≡ other_passes s o word h
none-other s (Some name) word h = go (bytes_eq name (codes "help")) s.disable_help_subcommand
  where
    go : (a d : Bool) → none (cond (a && not d) (kind.DisplayHelp ∷ kind.InvalidSubcommand ∷ []) []) ≡ (not a || d)
    go true true = refl
    go true false = refl
    go false d = refl
none-other s None word h =
    none-unless (bytes_eq word (45 ∷ 45 ∷ [])) (flag_word_fault s.rules s.args_override_self (long_of word) word h) _
    (none-flag_word s.rules s.args_override_self (long_of word) word h)

none-word : (s : Shape) (names : Names) (is_trailing : Bool) (waiting : Waiting) (word : Text) (h : Held)
    → none (word_fault s names is_trailing waiting word h) ≡ word_passes s names is_trailing waiting word h
none-word s names is_trailing waiting word h =
    none-unless is_trailing (other_fault s (subcommand_met names waiting word) word h) _ (none-other s (subcommand_met names waiting word) word h)

none-positional : (c : List Rule) (again : Bool) (a : Rule) (h : Held) → none (positional_fault c again a h) ≡ positional_passes c again a h
none-positional c again a h = none-unless (is_pending a h.pending && takes_several a) (settle_fault c again h) _ (none-settle c again h)

stray_is_fault : (s : Shape) → none (stray_fault s) ≡ false
stray_is_fault s = go s.is_leaf
  where
    go : (b : Bool) → none (cond b (kind.UnknownArgument ∷ []) (kind.UnknownArgument ∷ kind.InvalidSubcommand ∷ [])) ≡ false
    go true = refl
    go false = refl

none-step : (s : Shape) (position : ℕ) (h : Held) (step : Step) → none (step_fault s position h step) ≡ step_passes s position h step
none-step s position h value =
    none-map_or (λ (a : Rule). positional_fault s.rules s.args_override_self a h) (λ (a : Rule). positional_passes s.rules s.args_override_self a h) (stray_fault s) false
    (λ a. none-positional s.rules s.args_override_self a h) (stray_is_fault s) (arg_by_index s.rules position)
none-step s position h (next waiting) = refl
none-step s position h (trailing p) = refl
none-step s position h (subcommand name) = refl

none-turn : (s : Shape) (names : Names) (w : Walk) (word : Text) → none (turn_fault s names w word) ≡ turn_passes s names w word
none-turn s names w word =
    let met = word_met s.rules names w.is_trailing w.waiting w.position word w.held in
    none-unless (is_some w.stopped) (or_else (word_fault s names w.is_trailing w.waiting word w.held) (step_fault s w.position met.0 met.1)) _
    (none-join (word_fault s names w.is_trailing w.waiting word w.held) (step_fault s w.position met.0 met.1) _ _
    (none-word s names w.is_trailing w.waiting word w.held) (none-step s w.position met.0 met.1))

none-walk : (s : Shape) (names : Names) (w : Walk) (words : List Text) → none (walk_fault s names w words) ≡ walk_passes s names w words
unfolding walk_fault walk_passes
none-walk s names w [] = refl
none-walk s names w (word ∷ rest) =
    none-join (turn_fault s names w word) (walk_fault s names (walked s.rules names w word) rest) _ _
    (none-turn s names w word) (none-walk s names (walked s.rules names w word) rest)

-- ---- after the words

none-checks : (a b c : Bool) → none (check_kinds a b c) ≡ (not a && (not b && not c))
none-checks true b c = refl
none-checks false true c = refl
none-checks false false true = refl
none-checks false false false = refl

not_help : (has wants given : Bool) → not (not has && (wants && not given)) ≡ (not wants || (has || given))
not_help true true given = refl
not_help true false given = refl
not_help false true true = refl
not_help false true false = refl
not_help false false given = refl

not_wanted : (has wants : Bool) → not (not has && wants) ≡ (not wants || has)
not_wanted true true = refl
not_wanted true false = refl
not_wanted false true = refl
not_wanted false false = refl

not_and : (a b c : Bool) → not b ≡ c → not (not a && b) ≡ (a || c)
not_and true b c e = refl
not_and false b c e = e

all_given : (rows : List Row) (rules : List Rule)
    → not (list_any (λ a. a.required && not (is_given a.id rows)) rules) ≡ list_all (λ a. not a.required || is_given a.id rows) rules
all_given rows [] = refl
all_given rows (a ∷ rest) = go a.required (is_given a.id rows) _ _ (all_given rows rest)
  where
    go : (wanted given p q : Bool) → not p ≡ q → not ((wanted && not given) || p) ≡ ((not wanted || given) && q)
    go true true p q e = e
    go true false p q e = refl
    go false given p q e = e

none-check : (s : Shape) (rows : List Row) (has : Bool) → has_free_rules s ≡ true → none (check_fault s rows has) ≡ is_valid s rows has
none-check s rows has free =
    let wants = not (s.subcommand_negates_reqs && has) && list_any (λ (a : Rule). a.required && not (is_given a.id rows)) s.rules in
    let given = list_all (λ (a : Rule). not a.required || is_given a.id rows) s.rules in
    let help = not_help has s.arg_required_else_help (list_any (λ (r : Row). explicit_source r.source) rows) in
    let sub = not_wanted has s.subcommand_required in
    let required : not wants ≡ ((s.subcommand_negates_reqs && has) || given) = not_and (s.subcommand_negates_reqs && has) _ given (all_given rows s.rules) in
    none-checks _ _ wants ∙ ap₂ (λ (x : Bool) (y : Bool). x && y) help (ap₂ (λ (x : Bool) (y : Bool). x && y) sub
    (required ∙ ap (λ (f : Bool). f && ((s.subcommand_negates_reqs && has) || given)) (sym free)))

-- the defaults pass, and no argument has a rule on another
abbrev pub is_fit : Shape → Bool
is_fit s = list_all default_passes s.rules && has_free_rules s

-- a level with no fault passes, and so does the one below
no_level_fault : (s : Shape) (names : Names) (h : Held) (words : List Text) (has : Bool) (below : Kinds) → is_fit s ≡ true
    → none (level_fault s names h words has below) ≡ true → (none below ≡ true) × (level_passes s names h words has ≡ true)
no_level_fault s names h words has below fit free =
    let end = (walk s.rules names h words).held in
    let good = both (list_all default_passes s.rules) (has_free_rules s) fit in
    let walks = walk_fault s names (walk_from h) words in
    let settles = settle_fault s.rules s.args_override_self end in
    let defaults = defaults_fault (settled s.rules end).rows s.rules in
    let checks = check_fault s (finished s.rules end) has in
    let a = both _ _ (sym (none-or_else walks (or_else below (or_else settles (or_else defaults checks)))) ∙ free) in
    let b = both _ _ (sym (none-or_else below (or_else settles (or_else defaults checks))) ∙ a.1) in
    let d = both _ _ (sym (none-or_else settles (or_else defaults checks)) ∙ b.1) in
    let e = both _ _ (sym (none-or_else defaults checks) ∙ d.1) in
    let walk_is : walk_passes s names (walk_from h) words ≡ true = sym (none-walk s names (walk_from h) words) ∙ a.0 in
    let settle_is : settle_passes s.rules s.args_override_self end ≡ true = sym (none-settle s.rules s.args_override_self end) ∙ d.0 in
    let valid_is : is_valid s (finished s.rules end) has ≡ true = sym (none-check s (finished s.rules end) has good.1) ∙ e.1 in
    (b.0, all_true _ _ _ _ walk_is settle_is good.0 valid_is)
  where
    all_true : (a b c d : Bool) → a ≡ true → b ≡ true → c ≡ true → d ≡ true → (a && (b && (c && d))) ≡ true
    all_true a b c d p q r t = rw (p, q, r, t) refl

-- what is found passes what all pass
pub found_passes : {X : Type 0} (p q : X → Bool) (xs : List X) (x : X) → list_all q xs ≡ true → find p xs ≡ Some x → q x ≡ true
found_passes p q [] x all found = cc
found_passes p q (y ∷ ys) x all found = go (p y) (λ e. found_passes p q ys x (both (q y) (list_all q ys) all).1 e) found
  where
    go : (b : Bool) → (find p ys ≡ Some x → q x ≡ true) → cond b (Some y) (find p ys) ≡ Some x → q x ≡ true
    go true later e =
        let same : y ≡ x = cc in
        ap q (sym same) ∙ (both (q y) (list_all q ys) all).0
    go false later e = later e

no_entered_fault : (a : App) (stop : Option (Text × List Text)) → list_all is_fit a.subs ≡ true → none (entered_fault a stop) ≡ true → entered_passes a stop ≡ true
no_entered_fault a None fit free = refl
no_entered_fault a (Some p) fit free = go (find (λ s. answers_to p.0 (label_of s)) a.subs) refl free
  where
    go : (o : Option Shape) → find (λ s. answers_to p.0 (label_of s)) a.subs ≡ o → none (option_map_or (λ s. level_fault s [] nothing_held p.1 false []) o []) ≡ true
        → option_map_or (λ s. level_passes s [] nothing_held p.1 false) o true ≡ true
    go None found e = refl
    go (Some s) found e = (no_level_fault s [] nothing_held p.1 false [] (found_passes (λ s. answers_to p.0 (label_of s)) is_fit a.subs s fit found) e).1

-- the command takes the words at which it has no fault
pub no_fault_is_taken : (a : App) (words : List Text) → is_simple a ≡ true → is_fit (built a).top ≡ true → list_all is_fit (built a).subs ≡ true
    → fault_of a words ≡ [] → takes a words ≡ true
no_fault_is_taken a words simple top subs free = go (built a) (argument_words a words) top subs (ap none free)
  where
    go : (b : App) (rest : List Text) → is_fit b.top ≡ true → list_all is_fit b.subs ≡ true → none (built_fault b nothing_held rest) ≡ true
        → (is_simple a && built_takes b nothing_held rest) ≡ true
    go b rest top subs e =
        let stop = (walk b.top.rules (names_of b) nothing_held rest).stopped in
        let level = no_level_fault b.top (names_of b) nothing_held rest (is_some (entered b stop)) (entered_fault b stop) top e in
        let below : entered_passes b stop ≡ true = no_entered_fault b stop subs level.0 in
        rw (simple, below, level.1) refl
