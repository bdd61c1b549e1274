-- The statements of a block turn by turn, as they are read.
use Rattle.std.specs.Prelude.{ℕ, List, [], ◌∷◌, ◌++◌}
use Rattle.jessie_grammar.specs.declared.jessie_lexer.token.Kind.{Kind}
use Rattle.jessie_grammar.specs.declared.jessie_lexer.token.Kind.TheVariants as k
use Rattle.jessie_grammar.specs.declared.jessie_scopes.name_use.NameUse.{NameUse}
use Rattle.jessie_grammar.specs.declared.jessie_scopes.name_use.NameUse.TheVariants as name_use
use Rattle.jessie_grammar.specs.declared.syntax.Expr.{Expr}
use Rattle.jessie_grammar.specs.declared.syntax.Stmt.{Stmt}
use Rattle.jessie_grammar.specs.declared.syntax.Stmt.TheVariants as stmt
use Rattle.jessie_grammar.specs.declared.syntax.Branch.{Branch}
use Rattle.jessie_grammar.specs.Refused.{Lang}
use Rattle.jessie_grammar.specs.Words.{Found, long, spotted, also, assign_of, run_of, words_after_if, leading_words, closing, always}
use Rattle.jessie_grammar.specs.Lang.{◌>>=◌, ◌>>◌, ◌or◌, pure, one, symbol, iterate}
use Rattle.jessie_grammar.specs.Grammar.{arm, simple, full, call_tail, post_tail, after, unary, bare, initializer, declaration, looping, walking, giving, throwing, trying}

-- what begins with a name: name "=" expr ";" | expr ";"
unfoldable pub led : ℕ → (List NameUse → Lang (Found Expr)) → List Kind → List NameUse → Lang (Found Stmt)
led room inner names es = do
  x ← one names spotted long
  (initializer (full room inner) (also es (name_use.Assigns x.0 x.1)) >>= λ t. pure (assign_of x t))
      or (((call_tail room inner es x >>= post_tail room inner) >>= after room inner) >>= λ t. (symbol k.Semicolon >> pure (run_of t)))

-- another expression that begins with no "{"
unfoldable pub bare_run : ℕ → (List NameUse → Lang (Found Expr)) → List NameUse → Lang (Found Stmt)
bare_run room inner es = (unary room inner (bare room inner) es >>= after room inner) >>= λ t. (symbol k.Semicolon >> pure (run_of t))

-- a statement that begins with no name, and isn't an `if`
unfoldable pub nameless : ℕ → (List NameUse → Lang (Found Expr)) → (List NameUse → Lang (Found (List Stmt))) → List NameUse → Lang (Found Stmt)
nameless room inner block es =
    declaration (full room inner) es
    or (looping room inner block es
    or (walking room inner block es
    or (giving (full room inner) es
    or (throwing (full room inner) es
    or (trying room block es
    or bare_run room inner es)))))

-- the statements that are found so far in a block; the branches of an `if` that stands at the end and may
-- go on, and what is done with names so far
abbrev pub Turned : Type 0
Turned = List Stmt × (List Branch × List NameUse)

abbrev pub shut : Turned → Found (List Stmt)
shut s = (s.0 ++ closing s.1.0, s.1.1)

abbrev pub ran : List Stmt → Found Stmt → Turned
ran found t = (found ++ t.0 ∷ [], ([], t.1))

abbrev pub armed : List Stmt → Found Branch → Turned
armed found a = (found, (a.0 ∷ [], a.1))

-- another branch, and the last block
abbrev pub armed_more : List Stmt → List Branch → Found Branch → Turned
armed_more found arms a = (found, (arms ++ a.0 ∷ [], a.1))

abbrev pub ended : List Stmt → List Branch → Found (List Stmt) → Turned
ended found arms b = (found ++ stmt.If arms b.0 ∷ [], ([], b.1))

-- a statement, after these that were found; an `if` may go on
unfoldable pub begun : ℕ → (List NameUse → Lang (Found Expr)) → (List NameUse → Lang (Found (List Stmt))) → List Kind → Found (List Stmt) → Lang Turned
begun room inner block names found = (symbol k.If >> (arm room inner block found.1 >>= λ a. pure (armed found.0 a))) or (simple room inner block names found.1 >>= λ t. pure (ran found.0 t))

-- "else" "if" "(" expr ")" block, or "else" block: the last part
unfoldable pub going_on : ℕ → (List NameUse → Lang (Found Expr)) → (List NameUse → Lang (Found (List Stmt))) → List Stmt → Found (List Branch) → Lang Turned
going_on room inner block found arms =
    symbol k.Else >> ((symbol k.If >> (arm room inner block arms.1 >>= λ a. pure (armed_more found arms.0 a))) or (block arms.1 >>= λ b. pure (ended found arms.0 b)))

-- after an `if` that may go on `else` goes on with it; elsewhere it's a name
unfoldable pub turn : ℕ → (List NameUse → Lang (Found Expr)) → (List NameUse → Lang (Found (List Stmt))) → List Stmt → List Branch → List NameUse → Lang Turned
turn room inner block found [] es = begun room inner block leading_words (found, es)
turn room inner block found (a ∷ arms) es = going_on room inner block found (a ∷ arms, es) or begun room inner block words_after_if (shut (found, (a ∷ arms, es)))

abbrev pub turn_from : ℕ → (List NameUse → Lang (Found Expr)) → (List NameUse → Lang (Found (List Stmt))) → Turned → Lang Turned
turn_from room inner block s = turn room inner block s.0 s.1.0 s.1.1

unfoldable pub statements : ℕ → (List NameUse → Lang (Found Expr)) → (List NameUse → Lang (Found (List Stmt))) → List NameUse → Lang (Found (List Stmt))
statements room inner block es = iterate always (turn_from room inner block) ([], ([], es)) >>= λ s. pure (shut s)
