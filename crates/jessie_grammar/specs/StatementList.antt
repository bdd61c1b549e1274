-- The statements of a block as one tells them: an `if` with all of its parts is one statement, and behind
-- one that could go on no statement begins with the name `else`.
use Rattle.std.specs.Prelude.{Bool, true, false, List, [], ◌∷◌, ◌++◌}
use Rattle.jessie_grammar.specs.declared.jessie_lexer.token.Kind.{Kind}
use Rattle.jessie_grammar.specs.declared.jessie_lexer.token.Kind.TheVariants as k
use Rattle.jessie_grammar.specs.declared.jessie_scopes.name_use.NameUse.{NameUse}
use Rattle.jessie_grammar.specs.declared.syntax.Stmt.{Stmt}
use Rattle.jessie_grammar.specs.declared.syntax.Stmt.TheVariants as stmt
use Rattle.jessie_grammar.specs.declared.syntax.Branch.{Branch}
use Rattle.jessie_grammar.specs.Refused.{Lang}
use Rattle.jessie_grammar.specs.Words.{Found, more, closing, words_after_if, leading_words, always}
use Rattle.jessie_grammar.specs.Lang.{◌>>=◌, ◌>>◌, ◌or◌, pure, symbol, iterate}

-- "else" "if" "(" expr ")" block
abbrev pub else_if : (List NameUse → Lang (Found Branch)) → Found (List Branch) → Lang (Found (List Branch))
else_if arm arms = symbol k.Else >> (symbol k.If >> (arm arms.1 >>= λ a. pure (more arms.0 a)))

-- an `if` with its last block
abbrev pub with_last : List Branch → Found (List Stmt) → Found (List Stmt)
with_last arms b = (stmt.If arms b.0 ∷ [], b.1)

-- [ "else" block ], and whether the `if` could go on
abbrev pub last : (List NameUse → Lang (Found (List Stmt))) → Found (List Branch) → Lang (Found (List Stmt) × Bool)
last block arms = (symbol k.Else >> (block arms.1 >>= λ b. pure (with_last arms.0 b, false))) or pure ((closing arms.0, arms.1), true)

-- "if" "(" expr ")" block { "else" "if" "(" expr ")" block } [ "else" block ]
abbrev pub whole_if : (List NameUse → Lang (Found Branch)) → (List NameUse → Lang (Found (List Stmt))) → List NameUse → Lang (Found (List Stmt) × Bool)
whole_if arm block es = symbol k.If >> (arm es >>= λ a. (iterate always (else_if arm) (more [] a) >>= last block))

abbrev pub names_after : Bool → List Kind
names_after true = words_after_if
names_after false = leading_words

-- one statement more, where the truth value says whether the one before it could go on
abbrev pub next : (List NameUse → Lang (Found Branch)) → (List NameUse → Lang (Found (List Stmt))) → (List Kind → List NameUse → Lang (Found Stmt)) → Found (List Stmt) × Bool → Lang (Found (List Stmt) × Bool)
next arm block simple s =
    (whole_if arm block s.0.1 >>= λ x. pure ((s.0.0 ++ x.0.0, x.0.1), x.1))
    or (simple (names_after s.1) s.0.1 >>= λ t. pure (more s.0.0 t, false))

abbrev pub in_order : (List NameUse → Lang (Found Branch)) → (List NameUse → Lang (Found (List Stmt))) → (List Kind → List NameUse → Lang (Found Stmt)) → List NameUse → Lang (Found (List Stmt))
in_order arm block simple es = iterate always (next arm block simple) (([], es), false) >>= λ s. pure s.0
