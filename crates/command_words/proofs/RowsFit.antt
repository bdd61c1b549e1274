-- What a subcommand's options were given, where the command takes the words: each option with a
-- default has a row, and the values of each row pass the option's parser.
use Rattle.std.proofs.Common.{◌≡◌, ◌∙◌, ◌&&◌, ◌||◌, ◌≤◌, ◌<◌, ◌++◌, ℕ, Bool, cond, true, false, not, zero, suc, refl, sym, ap, subst, arith, List, [], ◌∷◌, length, length-append, nat_le, Option, Some, None, is_some}
use Rattle.std.specs.Prelude.{encode_utf8, slice_get, drop, find, fold, option_map, option_and_then}
use Rattle.std.specs.List.{list_all}
use Rattle.std.specs.Option.{option_map_or}
use Rattle.std.specs.Str.{bytes_eq, chars}
use Rattle.std.proofs.lemmas.Bool.{leb-true, ne_eqb}
use Rattle.std.proofs.lemmas.Slice.Eq.{bytes_eq-Decides}
use Rattle.clap.specs.Lexer.{long_of, short_of}
use Rattle.clap.specs.Facts.{unwrap_or_range}
use Rattle.clap.specs.Values.{is_request, read_as}
use Rattle.clap.specs.Walk.{default_rows, is_empty, row_text, Held, Names, Outcome, Row, Rule, Step, Text, Waiting, Walk, action_of, after_flag, after_step, arg_by_id, arg_by_index, arg_by_long, arg_by_short, attached_value, bundle, bundle_met, bundle_step, done, finished, flag_met, has_long, has_row, has_short, idle, is_pending, long_met, long_or_other, more_values, next, nothing_held, one_of, option, option_met, option_word, plain, plain_word, positional, positional_held, reacted, reading_by, refused, rows_after, settled, settled_rows, short_met, short_or_plain, subcommand, subcommand_met, subcommand_or_other, takes_several, takes_values, to_positional, trailing, used, used_as, used_by_id, value, waits, walk, walk_from, walked, walked_from, with_default, with_values, without, word_met}
use Rattle.clap.specs.Simple.{Shape}
use Rattle.clap.specs.Takes.{is_valid, action_passes, bundle_step_passes, default_passes, flag_word_passes, flags_pass, level_passes, long_passes, option_passes, other_passes, positional_passes, react_passes, settle_passes, short_passes, step_passes, turn_passes, use_passes, value_passes, values_pass, walk_passes, word_passes}
use Rattle.clap.specs.declared.builder.value_parser.Reading.{Reading}
use Rattle.clap.specs.declared.builder.action.ArgAction.{ArgAction}
use Rattle.clap.specs.declared.builder.action.ArgAction.TheVariants.{Set}
use Rattle.clap.specs.declared.parser.matches.ValueSource.{ValueSource}
use Rattle.clap.specs.declared.parser.matches.ValueSource.TheVariants.{CommandLine, DefaultValue}
use Rattle.clap.proofs.WalkLemmas.{both}

abbrev pub Each : {X : Type 0} → (X → Type 0) → List X → Type 0
Each P [] = Unit {0}
Each P (x ∷ xs) = P x × Each P xs

-- the row has values, which pass the argument's parser and are read as it says
pub record Holds (a : Rule) (r : Row) : Type 0 where
  pub filled : 0 < length r.values
  pub pass : values_pass a r.values ≡ true
  pub reading : r.reading ≡ reading_by a

abbrev pub Fits : List Rule → Row → Type 0
Fits c r = (a : Rule) → arg_by_id c r.id ≡ Some a → Holds a r

-- the first argument of its name, which takes a value and keeps it
pub record IsOption (c : List Rule) (a : Rule) : Type 0 where
  pub own : arg_by_id c a.id ≡ Some a
  pub set : action_of a ≡ Set
  pub least : 1 ≤ (unwrap_or_range a.range).start_inclusive

-- ---- lists

found_each : {X : Type 0} (P : X → Type 0) (p : X → Bool) (xs : List X) (x : X) → Each P xs → find p xs ≡ Some x → P x
found_each P p [] x all found = cc
found_each P p (y ∷ ys) x all found = go (p y) (λ e. found_each P p ys x all.1 e) found
  where
    go : (b : Bool) → (find p ys ≡ Some x → P x) → cond b (Some y) (find p ys) ≡ Some x → P x
    go true later e =
        let same : y ≡ x = cc in
        subst P same all.0
    go false later e = later e

all-append : {X : Type 0} (p : X → Bool) (xs ys : List X) → list_all p xs ≡ true → list_all p ys ≡ true → list_all p (xs ++ ys) ≡ true
all-append p [] ys d e = e
all-append p (x ∷ xs) ys d e =
    let parts = both (p x) (list_all p xs) d in
    rw (parts.0, all-append p xs ys parts.1 e) refl

some_values : (v : Text) (vs : List Text) → 0 < length (v ∷ vs)
some_values v vs = omega arith

same_rule : (a b : Rule) → Some a ≡ Some b → a ≡ b
same_rule a b e = cc

-- ---- rows

with_values_fit : (c : List Rule) (a : Rule) (s : ValueSource) (vs : List Text) → arg_by_id c a.id ≡ Some a → 0 < length vs → values_pass a vs ≡ true
    → (rows : List Row) → Each (Fits c) rows → Each (Fits c) (with_values a.id (reading_by a) s vs rows)
with_values_fit c a s vs own some pass [] fit = (λ b found. new b (same_rule a b (sym own ∙ found)), tt)
  where
    new : (b : Rule) → a ≡ b → Holds b (record { id = a.id; values = vs; count = None; source = Some s; reading = reading_by a })
    new b same =
        let here : Holds a (record { id = a.id; values = vs; count = None; source = Some s; reading = reading_by a }) = record { filled = some; pass = pass; reading = refl } in
        subst (λ (x : Rule). Holds x (record { id = a.id; values = vs; count = None; source = Some s; reading = reading_by a })) same here
with_values_fit c a s vs own some pass (r ∷ rs) fit = go (bytes_eq r.id a.id) refl (with_values_fit c a s vs own some pass rs fit.1)
  where
    more : r.id ≡ a.id → (b : Rule) → arg_by_id c r.id ≡ Some b → values_pass b vs ≡ true
    more same b found = ap (λ (x : Rule). values_pass x vs) (same_rule b a (sym found ∙ (ap (arg_by_id c) same ∙ own))) ∙ pass

    go : (t : Bool) → bytes_eq r.id a.id ≡ t → Each (Fits c) (with_values a.id (reading_by a) s vs rs)
        → Each (Fits c) (cond t (more_values s vs r ++ rs) (r ∷ with_values a.id (reading_by a) s vs rs))
    go true is later = (
      λ b found.
          let h = fit.0 b found in
          record {
            filled = omega (arith, length-append r.values vs, h.filled);
            pass = all-append (value_passes b) r.values vs h.pass (more ((bytes_eq-Decides r.id a.id).0 is) b found);
            reading = h.reading;
          },
      fit.1,
    )
    go false is later = (fit.0, later)

without_fit : (c : List Rule) (id : Text) (rows : List Row) → Each (Fits c) rows → Each (Fits c) (without id rows)
without_fit c id [] fit = tt
without_fit c id (r ∷ rs) fit = go (bytes_eq r.id id) (without_fit c id rs fit.1)
  where
    go : (t : Bool) → Each (Fits c) (without id rs) → Each (Fits c) (cond t ([] ++ rs) (r ∷ without id rs))
    go true later = fit.1
    go false later = (fit.0, later)

module _ (c : List Rule) (options : Each (IsOption c) c) (again : Bool) where
  used_fit : (a : Rule) → IsOption c a → (vs : List Text) (rows : List Row) → Each (Fits c) rows → use_passes again a vs rows ≡ true → Each (Fits c) (used a vs rows)
  used_fit a o [] rows fit e =
      let start = (unwrap_or_range a.range).start_inclusive in
      let few = leb-true start 0 (both (nat_le start 0) _ e).0 in
      absurd (omega (arith, few, o.least))
  used_fit a o (v ∷ vs) rows fit e =
      let parts = both _ _ (both (nat_le (unwrap_or_range a.range).start_inclusive (length (v ∷ vs))) _ e).1 in
      let acts : action_passes Set again a (v ∷ vs) rows ≡ true = ap (λ (x : ArgAction). action_passes x again a (v ∷ vs) rows) (sym o.set) ∙ parts.1 in
      let as_set : used_as Set a.id (reading_by a) (v ∷ vs) rows ≡ used a (v ∷ vs) rows = ap (λ (x : ArgAction). used_as x a.id (reading_by a) (v ∷ vs) rows) (sym o.set) in
      subst (Each (Fits c)) as_set (with_values_fit c a CommandLine (v ∷ vs) o.own (some_values v vs) (both (not (has_row a.id rows) || again) _ acts).1
      (without a.id rows) (without_fit c a.id rows fit))

  settled_fit : (p : Option (Text × List Text)) (rows : List Row) → Each (Fits c) rows
      → option_map_or (λ q. option_map_or (λ a. use_passes again a q.1 rows) (arg_by_id c q.0) true) p true ≡ true → Each (Fits c) (settled_rows c p rows)
  settled_fit None rows fit e = fit
  settled_fit (Some q) rows fit e = go (arg_by_id c q.0) refl e
    where
      go : (o : Option Rule) → arg_by_id c q.0 ≡ o → option_map_or (λ a. use_passes again a q.1 rows) o true ≡ true → Each (Fits c) (used_by_id o q.1 rows)
      go None found e = fit
      go (Some a) found e = used_fit a (found_each (IsOption c) (λ b. bytes_eq b.id q.0) c a options found) q.1 rows fit e

  reacted_fit : (a : Rule) → IsOption c a → (vs : List Text) (h : Held) → Each (Fits c) h.rows → react_passes c again a vs h ≡ true → Each (Fits c) (reacted c a vs h).rows
  reacted_fit a o vs h fit e =
      let parts = both (settle_passes c again h) (use_passes again a vs (settled c h).rows) e in
      used_fit a o vs (settled c h).rows (settled_fit h.pending h.rows fit parts.0) parts.1

  -- ---- a word

  option_fit : (a : Rule) → IsOption c a → (v : Option Text) (h : Held) → Each (Fits c) h.rows → option_passes c again a v h ≡ true → Each (Fits c) (option_met c a v h).0.rows
  option_fit a o (Some v) h fit e = reacted_fit a o (v ∷ []) h fit e
  option_fit a o None h fit e = settled_fit h.pending h.rows fit e

  long_fit : (found : Option Rule) → ((a : Rule) → found ≡ Some a → IsOption c a) → (v : Option Text) (h : Held) → Each (Fits c) h.rows
      → long_passes c again found v h ≡ true → Each (Fits c) (long_met c found v h).0.rows
  long_fit None own v h fit e = fit
  long_fit (Some a) own v h fit e = go (takes_values a) e
    where
      flag : (w : Option Text) → (not (is_some w) && react_passes c again a [] h) ≡ true → Each (Fits c) (flag_met c a w h).0.rows
      flag (Some w) e = fit
      flag None e = reacted_fit a (own a refl) [] h fit e

      go : (b : Bool) → cond b (option_passes c again a v h) (not (is_some v) && react_passes c again a [] h) ≡ true
          → Each (Fits c) (cond b (option_met c a v h) (flag_met c a v h)).0.rows
      go true e = option_fit a (own a refl) v h fit e
      go false e = flag v e

  short_fit : (found : Option Rule) → ((a : Rule) → found ≡ Some a → IsOption c a) → (rest : Text) (h : Held) (f : Held → Held × Outcome) (g : Held → Bool)
      → ((k : Held) → Each (Fits c) k.rows → g k ≡ true → Each (Fits c) (f k).0.rows) → Each (Fits c) h.rows
      → short_passes c again found rest h g ≡ true → Each (Fits c) (short_met c found rest h f).0.rows
  short_fit None own rest h f g each fit e = fit
  short_fit (Some a) own rest h f g each fit e = go (takes_values a) e
    where
      go : (b : Bool) → cond b (option_passes c again a (attached_value rest) h) (react_passes c again a [] h && g (reacted c a [] h)) ≡ true
          → Each (Fits c) (cond b (option_met c a (attached_value rest) h) (f (reacted c a [] h))).0.rows
      go true e = option_fit a (own a refl) (attached_value rest) h fit e
      go false e =
          let parts = both (react_passes c again a [] h) (g (reacted c a [] h)) e in
          each (reacted c a [] h) (reacted_fit a (own a refl) [] h fit parts.0) parts.1

  bundle_step_fit : (o : Option ℕ) (flags : Text) (skip : ℕ) (so_far : Outcome) (h : Held) (f : Text → ℕ → Outcome → Held → Held × Outcome) (g : Text → ℕ → Held → Bool)
      → ((t : Text) (n : ℕ) (s : Outcome) (k : Held) → Each (Fits c) k.rows → g t n k ≡ true → Each (Fits c) (f t n s k).0.rows) → Each (Fits c) h.rows
      → bundle_step_passes c again o flags skip h g ≡ true → Each (Fits c) (bundle_step c o flags skip so_far h f).0.rows
  bundle_step_fit None flags skip so_far h f g each fit e = fit
  bundle_step_fit (Some x) flags zero so_far h f g each fit e =
      let rest = drop (length (encode_utf8 x)) flags in
      short_fit (arg_by_short c x) (λ a found. found_each (IsOption c) (λ b. not (is_some b.index) && has_short b x) c a options found) rest h (f rest 0 done) (g rest 0)
      (each rest 0 done) fit e
  bundle_step_fit (Some x) flags (suc skip) so_far h f g each fit e = each (drop (length (encode_utf8 x)) flags) skip so_far h fit e

  flags_fit : (k : ℕ) (flags : Text) (skip : ℕ) (so_far : Outcome) (h : Held) → Each (Fits c) h.rows → flags_pass c again k flags skip h ≡ true
      → Each (Fits c) (bundle_met c k flags skip so_far h).0.rows
  unfolding bundle_met flags_pass
  flags_fit zero flags skip so_far h fit e = fit
  flags_fit (suc k) flags skip so_far h fit e =
      bundle_step_fit (slice_get (chars flags) 0) flags skip so_far h (bundle_met c k) (flags_pass c again k) (flags_fit k) fit e

  plain_fit : (waiting : Waiting) (word : Text) (h : Held) → Each (Fits c) h.rows → Each (Fits c) (plain_word c waiting word h).0.rows
  plain_fit idle word h fit = fit
  plain_fit positional word h fit = fit
  plain_fit (option id) word h fit = go (arg_by_id c id)
    where
      go : (o : Option Rule) → Each (Fits c) (option_word o id word h).0.rows
      go None = fit
      go (Some a) = fit

  after_flag_fit : (waiting : Waiting) (word : Text) (h : Held) (met : Outcome) → Each (Fits c) h.rows → Each (Fits c) (after_flag c waiting word h met).0.rows
  after_flag_fit waiting word h done fit = fit
  after_flag_fit waiting word h (waits id) fit = fit
  after_flag_fit waiting word h plain fit = plain_fit waiting word h fit
  after_flag_fit waiting word h refused fit = plain_fit waiting word h fit

  short_or_plain_fit : (waiting : Waiting) (word : Text) (o : Option Text) (h : Held) → Each (Fits c) h.rows
      → option_map_or (λ flags. flags_pass c again (length flags) flags h.skip (record h { skip = 0 })) o true ≡ true
      → Each (Fits c) (short_or_plain c waiting word o h).0.rows
  short_or_plain_fit waiting word None h fit e = plain_fit waiting word h fit
  short_or_plain_fit waiting word (Some flags) h fit e =
      after_flag_fit waiting word (bundle c flags h).0 (bundle c flags h).1 (flags_fit (length flags) flags h.skip plain (record h { skip = 0 }) fit e)

  flag_word_fit : (waiting : Waiting) (word : Text) (o : Option (Text × Option Text)) (h : Held) → Each (Fits c) h.rows → flag_word_passes c again o word h ≡ true
      → Each (Fits c) (long_or_other c waiting word o h).0.rows
  flag_word_fit waiting word (Some p) h fit e =
      after_flag_fit waiting word (long_met c (arg_by_long c p.0) p.1 h).0 (long_met c (arg_by_long c p.0) p.1 h).1
      (long_fit (arg_by_long c p.0) (λ a found. found_each (IsOption c) (λ b. not (is_some b.index) && has_long b p.0) c a options found) p.1 h fit e)
  flag_word_fit waiting word None h fit e = short_or_plain_fit waiting word (short_of word) h fit e

  positional_fit : (a : Rule) (word : Text) (h : Held) → Each (Fits c) h.rows → positional_passes c again a h ≡ true → Each (Fits c) (positional_held c a word h).rows
  positional_fit a word h fit e = go (is_pending a h.pending && takes_several a) e
    where
      go : (b : Bool) → (b || settle_passes c again h) ≡ true → Each (Fits c) (cond b h (settled c h)).rows
      go true e = fit
      go false e = settled_fit h.pending h.rows fit e

-- ---- the words

module _ (s : Shape) (options : Each (IsOption s.rules) s.rules) (names : Names) where
  other_fit : (o : Option Text) (waiting : Waiting) (position : ℕ) (word : Text) (h : Held) → Each (Fits s.rules) h.rows → other_passes s o word h ≡ true
      → Each (Fits s.rules) (subcommand_or_other s.rules o waiting position word h).0.rows
  other_fit (Some name) waiting position word h fit e = fit
  other_fit None waiting position word h fit e = go (bytes_eq word (45 ∷ 45 ∷ [])) e
    where
      go : (b : Bool) → (b || flag_word_passes s.rules s.args_override_self (long_of word) word h) ≡ true
          → Each (Fits s.rules) (cond b (h, trailing position) (long_or_other s.rules waiting word (long_of word) h)).0.rows
      go true e = fit
      go false e = flag_word_fit s.rules options s.args_override_self waiting word (long_of word) h fit e

  word_fit : (is_trailing : Bool) (waiting : Waiting) (position : ℕ) (word : Text) (h : Held) → Each (Fits s.rules) h.rows
      → word_passes s names is_trailing waiting word h ≡ true → Each (Fits s.rules) (word_met s.rules names is_trailing waiting position word h).0.rows
  word_fit true waiting position word h fit e = fit
  word_fit false waiting position word h fit e = other_fit (subcommand_met names waiting word) waiting position word h fit e

  step_fit : (w : Walk) (word : Text) (h : Held) (step : Step) → Each (Fits s.rules) h.rows → step_passes s w.position h step ≡ true
      → Each (Fits s.rules) (after_step s.rules word w h step).held.rows
  step_fit w word h (next waiting) fit e = fit
  step_fit w word h (trailing position) fit e = fit
  step_fit w word h (subcommand name) fit e = fit
  step_fit w word h value fit e = go (arg_by_index s.rules w.position) e
    where
      go : (o : Option Rule) → option_map_or (λ a. positional_passes s.rules s.args_override_self a h) o false ≡ true
          → Each (Fits s.rules) (to_positional s.rules o word w h).held.rows
      go None e = fit
      go (Some a) e = positional_fit s.rules options s.args_override_self a word h fit e

  turn_fit : (w : Walk) (word : Text) → Each (Fits s.rules) w.held.rows → turn_passes s names w word ≡ true → Each (Fits s.rules) (walked s.rules names w word).held.rows
  unfolding walked
  turn_fit w word fit e = go w.stopped e
    where
      go : (o : Option (Text × List Text)) → (is_some o || (word_passes s names w.is_trailing w.waiting word w.held
          && step_passes s w.position (word_met s.rules names w.is_trailing w.waiting w.position word w.held).0 (word_met s.rules names w.is_trailing w.waiting w.position word w.held).1)) ≡ true
          → Each (Fits s.rules) (walked_from s.rules names o w word).held.rows
      go (Some p) e = fit
      go None e =
          let met = word_met s.rules names w.is_trailing w.waiting w.position word w.held in
          let parts = both (word_passes s names w.is_trailing w.waiting word w.held) (step_passes s w.position met.0 met.1) e in
          step_fit w word met.0 met.1 (word_fit w.is_trailing w.waiting w.position word w.held fit parts.0) parts.1

  walk_fit : (w : Walk) (words : List Text) → Each (Fits s.rules) w.held.rows → walk_passes s names w words ≡ true
      → Each (Fits s.rules) (fold (walked s.rules names) w words).held.rows
  unfolding walk_passes
  walk_fit w [] fit e = fit
  walk_fit w (word ∷ rest) fit e =
      let parts = both (turn_passes s names w word) (walk_passes s names (walked s.rules names w word) rest) e in
      walk_fit (walked s.rules names w word) rest (turn_fit w word fit parts.0) parts.1

-- ---- defaults

default_fit : (c : List Rule) (a : Rule) (rows : List Row) → IsOption c a → default_passes a ≡ true → Each (Fits c) rows → Each (Fits c) (with_default rows a)
default_fit c a rows o pass fit = go (has_row a.id rows) a.defaults pass
  where
    go : (b : Bool) (vs : List Text) → (is_empty vs || (not (is_request (action_of a)) && values_pass a vs)) ≡ true
        → Each (Fits c) (cond b rows (default_rows a.id (reading_by a) vs rows))
    go true vs e = fit
    go false [] e = fit
    go false (v ∷ vs) e =
        let filled : is_empty (v ∷ vs) ≡ false = ne_eqb (length (v ∷ vs)) 0 (λ none. omega (arith, none)) in
        let given : (not (is_request (action_of a)) && values_pass a (v ∷ vs)) ≡ true = sym (ap (λ (t : Bool). t || (not (is_request (action_of a)) && values_pass a (v ∷ vs))) filled) ∙ e in
        with_values_fit c a DefaultValue (v ∷ vs) o.own (some_values v vs) (both (not (is_request (action_of a))) (values_pass a (v ∷ vs)) given).1 rows fit

defaults_fit : (c xs : List Rule) (rows : List Row) → Each (IsOption c) xs → list_all default_passes xs ≡ true → Each (Fits c) rows → Each (Fits c) (fold with_default rows xs)
defaults_fit c [] rows all pass fit = fit
defaults_fit c (a ∷ xs) rows all pass fit =
    let parts = both (default_passes a) (list_all default_passes xs) pass in
    defaults_fit c xs (with_default rows a) all.1 parts.1 (default_fit c a rows all.0 parts.0 fit)

weaker_or : (a b c : Bool) → (a || b) ≡ true → (b ≡ true → c ≡ true) → (a || c) ≡ true
weaker_or true b c e f = refl
weaker_or false b c e f = f e

-- a row stays
row_stays : (id own : Text) (how : Reading) (s : ValueSource) (vs : List Text) (rows : List Row) → has_row id rows ≡ true → has_row id (with_values own how s vs rows) ≡ true
row_stays id own how s vs [] has = cc
row_stays id own how s vs (r ∷ rs) has = go (bytes_eq r.id own) (λ e. row_stays id own how s vs rs e)
  where
    go : (t : Bool) → (has_row id rs ≡ true → has_row id (with_values own how s vs rs) ≡ true)
        → has_row id (cond t (more_values s vs r ++ rs) (r ∷ with_values own how s vs rs)) ≡ true
    go true later = has
    go false later = weaker_or (bytes_eq r.id id) (has_row id rs) (has_row id (with_values own how s vs rs)) has later

row_made : (id : Text) (how : Reading) (s : ValueSource) (vs : List Text) (rows : List Row) → has_row id (with_values id how s vs rows) ≡ true
row_made id how s vs [] = rw ((bytes_eq-Decides id id).1 refl) refl
row_made id how s vs (r ∷ rs) = go (bytes_eq r.id id) refl (row_made id how s vs rs)
  where
    go : (t : Bool) → bytes_eq r.id id ≡ t → has_row id (with_values id how s vs rs) ≡ true
        → has_row id (cond t (more_values s vs r ++ rs) (r ∷ with_values id how s vs rs)) ≡ true
    go true is later = rw is refl
    go false is later = rw is later

default_stays : (id : Text) (a : Rule) (rows : List Row) → has_row id rows ≡ true → has_row id (with_default rows a) ≡ true
default_stays id a rows has = go (has_row a.id rows) a.defaults
  where
    go : (b : Bool) (vs : List Text) → has_row id (cond b rows (default_rows a.id (reading_by a) vs rows)) ≡ true
    go true vs = has
    go false [] = has
    go false (v ∷ vs) = row_stays id a.id (reading_by a) DefaultValue (v ∷ vs) rows has

default_made : (a : Rule) (rows : List Row) → 0 < length a.defaults → has_row a.id (with_default rows a) ≡ true
default_made a rows some = go (has_row a.id rows) refl a.defaults some
  where
    go : (b : Bool) → has_row a.id rows ≡ b → (vs : List Text) → 0 < length vs → has_row a.id (cond b rows (default_rows a.id (reading_by a) vs rows)) ≡ true
    go true is vs some = is
    go false is [] some = absurd (omega arith)
    go false is (v ∷ vs) some = row_made a.id (reading_by a) DefaultValue (v ∷ vs) rows

defaults_stay : (id : Text) (xs : List Rule) (rows : List Row) → has_row id rows ≡ true → has_row id (fold with_default rows xs) ≡ true
defaults_stay id [] rows has = has
defaults_stay id (x ∷ xs) rows has = defaults_stay id xs (with_default rows x) (default_stays id x rows has)

-- an argument with a default gets a row
defaults_made : (p : Rule → Bool) (xs : List Rule) (a : Rule) (rows : List Row) → find p xs ≡ Some a → 0 < length a.defaults → has_row a.id (fold with_default rows xs) ≡ true
defaults_made p [] a rows found some = cc
defaults_made p (x ∷ xs) a rows found some = go (p x) (λ e. defaults_made p xs a (with_default rows x) e some) found
  where
    go : (b : Bool) → (find p xs ≡ Some a → has_row a.id (fold with_default (with_default rows x) xs) ≡ true) → cond b (Some x) (find p xs) ≡ Some a
        → has_row a.id (fold with_default (with_default rows x) xs) ≡ true
    go true later e =
        let same : a ≡ x = cc in
        defaults_stay a.id xs (with_default rows x) (subst (λ (y : Rule). has_row a.id (with_default rows y) ≡ true) same (default_made a rows some))
    go false later e = later e

-- ---- what is read of the rows

-- the text that a typed getter reads passed the argument's parser, before it was read as that says
abbrev pub ReadsPassed : Rule → Option Text → Type 0
ReadsPassed a o = (t : Text) × (o ≡ Some (read_as (reading_by a) t)) × (value_passes a t ≡ true)

first_passed : (a : Rule) (how : Reading) (vs : List Text) → 0 < length vs → values_pass a vs ≡ true → how ≡ reading_by a → ReadsPassed a (option_map (read_as how) (slice_get vs 0))
first_passed a how [] some pass is = absurd (omega arith)
first_passed a how (v ∷ vs) some pass is =
    (v, ap (λ (r : Reading). Some (read_as r v)) is, (both (value_passes a v) (values_pass a vs) pass).0)

one_passed : (c : List Rule) (a : Rule) (rows : List Row) → arg_by_id c a.id ≡ Some a → Each (Fits c) rows → has_row a.id rows ≡ true → ReadsPassed a (one_of a.id rows)
one_passed c a [] own fit has = cc
one_passed c a (r ∷ rs) own fit has = go (bytes_eq r.id a.id) refl has (λ e. one_passed c a rs own fit.1 e)
  where
    go : (t : Bool) → bytes_eq r.id a.id ≡ t → (t || has_row a.id rs) ≡ true → (has_row a.id rs ≡ true → ReadsPassed a (one_of a.id rs))
        → ReadsPassed a (option_and_then row_text (cond t (Some r) (find (λ x. bytes_eq x.id a.id) rs)))
    go true is has later =
        let held = fit.0 a (ap (arg_by_id c) ((bytes_eq-Decides r.id a.id).0 is) ∙ own) in
        first_passed a r.reading r.values held.filled held.pass held.reading
    go false is has later = later has

-- where a subcommand takes the words, each of its options with a default reads as a text that passed
pub option_is_given : (s : Shape) (words : List Text) (a : Rule) → Each (IsOption s.rules) s.rules → level_passes s [] nothing_held words false ≡ true
    → arg_by_id s.rules a.id ≡ Some a → 0 < length a.defaults → ReadsPassed a (one_of a.id (rows_after s.rules [] words))
option_is_given s words a options pass own some =
    let end = (walk s.rules [] nothing_held words).held in
    let walks = both (walk_passes s [] (walk_from nothing_held) words) _ pass in
    let settles = both (settle_passes s.rules s.args_override_self end) _ walks.1 in
    let defaults = both (list_all default_passes s.rules) (is_valid s (finished s.rules end) false) settles.1 in
    let walked_rows = walk_fit s options [] (walk_from nothing_held) words tt walks.0 in
    let settled_here = settled_fit s.rules options s.args_override_self end.pending end.rows walked_rows settles.0 in
    let rows = finished s.rules end in
    one_passed s.rules a rows own (defaults_fit s.rules s.rules (settled s.rules end).rows options defaults.0 settled_here)
    (defaults_made (λ b. bytes_eq b.id a.id) s.rules a (settled s.rules end).rows own some)
