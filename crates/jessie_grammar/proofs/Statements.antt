-- The rules read the grammar: statements.
use Rattle.std.proofs.Common.{◌≡◌, ℕ, zero, suc, ◌<◌, true, List, [], ◌∷◌, ◌++◌, refl, arith}
use Rattle.jessie_grammar.specs.declared.jessie_lexer.token.Kind.{Kind}
use Rattle.jessie_grammar.specs.declared.jessie_lexer.token.Kind.TheVariants as k
use Rattle.jessie_grammar.specs.declared.jessie_scopes.name_use.NameUse.{NameUse}
use Rattle.jessie_grammar.specs.declared.jessie_scopes.name_use.NameUse.TheVariants as name_use
use Rattle.jessie_grammar.specs.declared.syntax.Expr.{Expr}
use Rattle.jessie_grammar.specs.declared.syntax.Stmt.{Stmt}
use Rattle.jessie_grammar.specs.declared.syntax.Branch.{Branch}
use Rattle.jessie_grammar.specs.Refused.{Lang}
use Rattle.jessie_grammar.specs.Parse.{Parser, free}
use Rattle.jessie_grammar.specs.Words.{Found, spotted, binding_of, also, caught, long, words_after_if, leading_words, words, signs, bare_begins, always, inside, statement_begins}
use Rattle.jessie_grammar.specs.BlockTurns.{shut}
use Rattle.jessie_grammar.specs.BlockTurns as t
use Rattle.jessie_grammar.specs.Grammar as g
use Rattle.jessie_grammar.specs.Rules as p
use Rattle.jessie_grammar.proofs.ToldTurns.{turns_told, told_turns}
use Rattle.jessie_grammar.proofs.ToldNames.{led_told, told_led}
use Rattle.jessie_grammar.proofs.Sets.{apart, filled}
use Rattle.jessie_grammar.proofs.Good.{Good, Word, Steps, one_good, pure_good, symbol_good, then_good, then_word, or_good, made_good, closed_good, loop_good, bracketed_good, weaken, same_good}
use Rattle.jessie_grammar.proofs.Exprs.{Reads, In, begins, ends, prim_ends, name_good, call_tail_good, post_tail_good, bare_good, unary_good, after_good, full_good, in_with, expr_good}

abbrev pub state_ends : List Kind
state_ends = statement_begins ++ k.RightBrace ∷ []

abbrev pub Block : (List NameUse → Lang (Found (List Stmt))) → (List NameUse → Parser (Found (List Stmt))) → Type 0
Block l q = (e : List Kind) → Reads l q (k.LeftBrace ∷ []) e

pub initializer_good : {l : List NameUse → Lang (Found Expr)} {q : List NameUse → Parser (Found Expr)} (e : List Kind) → Reads l q begins ends → Reads (g.initializer l) (p.initializer q) (k.Equals ∷ []) e
unfolding g.initializer p.initializer
initializer_good e h es = then_good (symbol_good k.Equals begins) (λ _. then_good (h es) (λ t. closed_good k.Semicolon t e) refl) refl

declaration_good : {l : List NameUse → Lang (Found Expr)} {q : List NameUse → Parser (Found Expr)} (e : List Kind) → Reads l q begins ends → Reads (g.declaration l) (p.declaration q) (k.Const ∷ k.Let ∷ []) e
unfolding g.declaration p.declaration
declaration_good e h es =
    then_good (one_good (k.Const ∷ k.Let ∷ []) binding_of free words refl) (λ b. then_good (name_good (k.Equals ∷ [])) (λ x. made_good _ (initializer_good e h (also es (name_use.Declares x.0 x.1)))) refl) refl

led_good : {l : List NameUse → Lang (Found Expr)} {q : List NameUse → Parser (Found Expr)} (n : ℕ) (names : List Kind) (e : List Kind) → In n l q → filled names ≡ true → Reads (t.led n l names) (p.led n q names) names e
unfolding t.led p.led
led_good n names e h f es =
    then_good (one_good names spotted long (k.Equals ∷ k.LeftParen ∷ prim_ends) f)
    (λ x. or_good (made_good _ (initializer_good e (full_good n h) (also es (name_use.Assigns x.0 x.1))))
    (then_good (then_good (then_good (call_tail_good n es x h) (λ t. post_tail_good n t h) refl) (λ t. after_good n t h) refl) (λ t. closed_good k.Semicolon _ e) refl) refl) refl

bare_run_good : {l : List NameUse → Lang (Found Expr)} {q : List NameUse → Parser (Found Expr)} (n : ℕ) (e : List Kind) → In n l q → Reads (t.bare_run n l) (p.bare_run n q) (signs ++ bare_begins) e
unfolding t.bare_run p.bare_run
bare_run_good n e h es = then_good (then_good (unary_good n h (bare_good n prim_ends h) refl es) (λ t. after_good n t h) refl) (λ t. closed_good k.Semicolon _ e) refl

arm_good : {l : List NameUse → Lang (Found Expr)} {b : List NameUse → Lang (Found (List Stmt))} {q : List NameUse → Parser (Found Expr)} {c : List NameUse → Parser (Found (List Stmt))} (n : ℕ) (e : List Kind) → In n l q → Block b c → Reads (g.arm n l b) (p.arm n q c) (k.LeftParen ∷ []) e
unfolding g.arm p.arm
arm_good n e h v es = then_good (bracketed_good n k.LeftParen k.RightParen (k.LeftBrace ∷ []) (λ i. weaken begins (k.RightParen ∷ []) (h.0 i es) refl refl) (h.1 es)) (λ t. made_good _ (v e t.1)) refl

looping_good : {l : List NameUse → Lang (Found Expr)} {b : List NameUse → Lang (Found (List Stmt))} {q : List NameUse → Parser (Found Expr)} {c : List NameUse → Parser (Found (List Stmt))} (n : ℕ) (e : List Kind) → In n l q → Block b c → Reads (g.looping n l b) (p.looping n q c) (k.While ∷ []) e
unfolding g.looping p.looping
looping_good n e h v es = then_good (symbol_good k.While (k.LeftParen ∷ [])) (λ _. made_good _ (arm_good n e h v es)) refl

giving_good : {l : List NameUse → Lang (Found Expr)} {q : List NameUse → Parser (Found Expr)} (e : List Kind) → Reads l q begins ends → Reads (g.giving l) (p.giving q) (k.Return ∷ []) e
unfolding g.giving p.giving
giving_good e h es = then_good (symbol_good k.Return (k.Semicolon ∷ begins)) (λ _. or_good (closed_good k.Semicolon _ e) (then_good (h es) (λ t. closed_good k.Semicolon _ e) refl) refl) refl

throwing_good : {l : List NameUse → Lang (Found Expr)} {q : List NameUse → Parser (Found Expr)} (e : List Kind) → Reads l q begins ends → Reads (g.throwing l) (p.throwing q) (k.Throw ∷ []) e
unfolding g.throwing p.throwing
throwing_good e h es = then_good (symbol_good k.Throw begins) (λ _. then_good (h es) (λ t. closed_good k.Semicolon _ e) refl) refl

each_good : {l : List NameUse → Lang (Found Expr)} {q : List NameUse → Parser (Found Expr)} → Reads l q begins ends → Reads (g.each l) (p.each q) (k.Const ∷ []) (k.RightParen ∷ [])
unfolding g.each p.each
each_good h es =
    then_good (symbol_good k.Const words) (λ _. then_good (name_good (k.Of ∷ [])) (λ x. then_good (symbol_good k.Of begins) (λ _.
    made_good _ (weaken begins (k.RightParen ∷ []) (h (also (also es name_use.Opens) (name_use.Declares x.0 x.1))) refl refl)) refl) refl) refl

each_word : (l : List NameUse → Lang (Found Expr)) → ((es : List NameUse) → Word (l es)) → (es : List NameUse) → Word (g.each l es)
unfolding g.each
each_word l w es =
    then_word (symbol_good k.Const []).word (λ _. then_word (name_good []).word (λ x. then_word (symbol_good k.Of []).word (λ _. then_word (w (also (also es name_use.Opens) (name_use.Declares x.0 x.1))) (λ t. (pure_good _ []).word))))

walking_good : {l : List NameUse → Lang (Found Expr)} {b : List NameUse → Lang (Found (List Stmt))} {q : List NameUse → Parser (Found Expr)} {c : List NameUse → Parser (Found (List Stmt))} (n : ℕ) (e : List Kind) → In n l q → Block b c → Reads (g.walking n l b) (p.walking n q c) (k.For ∷ []) e
unfolding g.walking p.walking
walking_good {l = l} n e h v es =
    then_good (symbol_good k.For (k.LeftParen ∷ [])) (λ _. then_good (bracketed_good n k.LeftParen k.RightParen (k.LeftBrace ∷ []) (λ i. each_good (h.0 i) es) (each_word l h.1 es)) (λ t. made_good _ (v e t.1)) refl) refl

catching_good : {b : List NameUse → Lang (Found (List Stmt))} {c : List NameUse → Parser (Found (List Stmt))} (n : ℕ) (e : List Kind) → Block b c → Reads (g.catching n b) (p.catching n c) (k.Catch ∷ []) e
unfolding g.catching p.catching
catching_good n e v es =
    then_good (symbol_good k.Catch (k.LeftParen ∷ [])) (λ _. then_good (bracketed_good n k.LeftParen k.RightParen (k.LeftBrace ∷ []) (λ i. name_good (k.RightParen ∷ [])) (name_good []).word) (λ x. made_good _ (v e (caught es x))) refl) refl

trying_good : {b : List NameUse → Lang (Found (List Stmt))} {c : List NameUse → Parser (Found (List Stmt))} (n : ℕ) (e : List Kind) → Block b c → Reads (g.trying n b) (p.trying n c) (k.Try ∷ []) e
unfolding g.trying p.trying
trying_good n e v es = then_good (symbol_good k.Try (k.LeftBrace ∷ [])) (λ _. then_good (v (k.Catch ∷ []) es) (λ t. made_good _ (catching_good n e v t.1)) refl) refl

abbrev nameless_begins : List Kind
nameless_begins = k.Const ∷ k.Let ∷ k.While ∷ k.For ∷ k.Return ∷ k.Throw ∷ k.Try ∷ (signs ++ bare_begins)

nameless_good : {l : List NameUse → Lang (Found Expr)} {b : List NameUse → Lang (Found (List Stmt))} {q : List NameUse → Parser (Found Expr)} {c : List NameUse → Parser (Found (List Stmt))} (n : ℕ) (e : List Kind) → In n l q → Block b c → Reads (t.nameless n l b) (p.nameless n q c) nameless_begins e
unfolding t.nameless p.nameless
nameless_good n e h v es =
    or_good (declaration_good e (full_good n h) es) (or_good (looping_good n e h v es) (or_good (walking_good n e h v es)
    (or_good (giving_good e (full_good n h) es) (or_good (throwing_good e (full_good n h) es) (or_good (trying_good n e v es) (bare_run_good n e h es)
    refl) refl) refl) refl) refl) refl

simple_good : {l : List NameUse → Lang (Found Expr)} {b : List NameUse → Lang (Found (List Stmt))} {q : List NameUse → Parser (Found Expr)} {c : List NameUse → Parser (Found (List Stmt))} (n : ℕ) (names e : List Kind) → In n l q → Block b c → filled names ≡ true → apart nameless_begins names ≡ true → Reads (g.simple n l b names) (p.simple n q c names) (names ++ nameless_begins) e
unfolding p.simple
simple_good {l = l} {b = b} n names e h v f w es = same_good _ (or_good (led_good n names e h f es) (nameless_good n e h v es) w) (led_told n l b names es) (told_led n l b names es)

begun_good : {l : List NameUse → Lang (Found Expr)} {b : List NameUse → Lang (Found (List Stmt))} {q : List NameUse → Parser (Found Expr)} {c : List NameUse → Parser (Found (List Stmt))} (n : ℕ) (names : List Kind) (found : Found (List Stmt)) (e : List Kind) → In n l q → Block b c → filled names ≡ true → apart nameless_begins names ≡ true → apart (names ++ nameless_begins) (k.If ∷ []) ≡ true
    → Good (t.begun n l b names found) (p.begun n q c names found) (k.If ∷ (names ++ nameless_begins)) e
unfolding t.begun p.begun
begun_good n names found e h v f w x = or_good (then_good (symbol_good k.If (k.LeftParen ∷ [])) (λ _. made_good _ (arm_good n e h v found.1)) refl) (made_good _ (simple_good n names e h v f w found.1)) x

-- ---- `else`

going_on_good : {l : List NameUse → Lang (Found Expr)} {b : List NameUse → Lang (Found (List Stmt))} {q : List NameUse → Parser (Found Expr)} {c : List NameUse → Parser (Found (List Stmt))} (n : ℕ) (found : List Stmt) (arms : Found (List Branch)) (e : List Kind) → In n l q → Block b c → Good (t.going_on n l b found arms) (p.going_on n q c found arms) (k.Else ∷ []) e
unfolding t.going_on p.going_on
going_on_good n found arms e h v =
    then_good (symbol_good k.Else (k.If ∷ k.LeftBrace ∷ [])) (λ _. or_good (then_good (symbol_good k.If (k.LeftParen ∷ [])) (λ _. made_good _ (arm_good n e h v arms.1)) refl) (made_good _ (v e arms.1)) refl) refl

turn_good : {l : List NameUse → Lang (Found Expr)} {b : List NameUse → Lang (Found (List Stmt))} {q : List NameUse → Parser (Found Expr)} {c : List NameUse → Parser (Found (List Stmt))} (n : ℕ) (found : List Stmt) (arms : List Branch) (es : List NameUse) → In n l q → Block b c → Good (t.turn n l b found arms es) (p.turn n q c found arms es) statement_begins state_ends
unfolding t.turn p.turn
turn_good n found [] es h v = weaken statement_begins state_ends (begun_good n leading_words (found, es) state_ends h v refl refl refl) refl refl
turn_good n found (a ∷ arms) es h v =
    weaken statement_begins state_ends (or_good (going_on_good n found (a ∷ arms, es) state_ends h v) (begun_good n words_after_if (shut (found, (a ∷ arms, es))) state_ends h v refl refl refl) refl) refl refl

pub turns_good : {l : List NameUse → Lang (Found Expr)} {b : List NameUse → Lang (Found (List Stmt))} {q : List NameUse → Parser (Found Expr)} {c : List NameUse → Parser (Found (List Stmt))} (n : ℕ) → In n l q → Block b c → Steps always (t.turn_from n l b) (p.turn_from n q c) statement_begins (k.RightBrace ∷ [])
turns_good n h v = record { ends = state_ends; each = λ s _. turn_good n s.0 s.1.0 s.1.1 h v; on = refl; off = refl; some = refl }

by_turns_good : {l : List NameUse → Lang (Found Expr)} {b : List NameUse → Lang (Found (List Stmt))} {q : List NameUse → Parser (Found Expr)} {c : List NameUse → Parser (Found (List Stmt))} (n : ℕ) → In n l q → Block b c → Reads (t.statements n l b) (p.statements n q c) state_ends (k.RightBrace ∷ [])
unfolding t.statements p.statements
by_turns_good n h v es = made_good shut (loop_good ([], ([], es)) (turns_good n h v))

statements_good : {l : List NameUse → Lang (Found Expr)} {b : List NameUse → Lang (Found (List Stmt))} {q : List NameUse → Parser (Found Expr)} {c : List NameUse → Parser (Found (List Stmt))} (n : ℕ) → In n l q → Block b c → Reads (g.statements n l b) (p.statements n q c) state_ends (k.RightBrace ∷ [])
statements_good {l = l} {b = b} n h v es = same_good _ (by_turns_good n h v es) (turns_told n l b es) (told_turns n l b es)

-- ---- blocks, at any depth

braced_good : {l : List NameUse → Lang (Found (List Stmt))} {q : List NameUse → Parser (Found (List Stmt))} (n : ℕ) (e : List Kind) → (0 < n → Reads l q state_ends (k.RightBrace ∷ [])) → ((es : List NameUse) → Word (l es)) → Reads (g.braced n l) (p.braced n q) (k.LeftBrace ∷ []) e
unfolding g.braced p.braced
braced_good n e h w es = made_good _ (bracketed_good {b = state_ends} n k.LeftBrace k.RightBrace e (λ i. h i (also es name_use.Opens)) (w (also es name_use.Opens)))

block_with : (n room : ℕ) → room < suc n → ((r : ℕ) → r < n → Reads (g.body n r) (p.body r) state_ends (k.RightBrace ∷ [])) → Block (g.braced room (g.body n (inside room))) (p.block room)
unfolding g.body p.block p.inner_body
block_with zero zero h i e = braced_good 0 e (λ j es. absurd (omega arith)) (λ es. (pure_good ([], es) []).word)
block_with zero (suc r) h i e = absurd (omega arith)
block_with (suc n) zero h i e = braced_good 0 e (λ j es. absurd (omega arith)) (λ es. (i 0 (omega arith) es).word)
block_with (suc n) (suc r) h i e = let g = i r (omega arith) in braced_good (suc r) e (λ _. g) (λ es. (g es).word)

pub body_good : (n room : ℕ) → room < n → Reads (g.body n room) (p.body room) state_ends (k.RightBrace ∷ [])
unfolding g.body p.body p.inner p.block p.inner_body
body_good zero room h es = absurd (omega arith)
body_good (suc n) zero h es = statements_good 0 (in_with n 0 h (expr_good n)) (block_with n 0 h (body_good n)) es
body_good (suc n) (suc r) h es = statements_good (suc r) (in_with n (suc r) h (expr_good n)) (block_with n (suc r) h (body_good n)) es

pub block_good : (n room : ℕ) → room < suc n → Block (g.braced room (g.body n (inside room))) (p.block room)
block_good n room h = block_with n room h (body_good n)
