-- Reading operators from one level of the table on, and the places of a list.
use Rattle.std.specs.Prelude.{ℕ, ◌+◌, Bool, true, false, drop, List, [], ◌∷◌, ◌==◌, if◌then◌else◌}
use Rattle.jessie_grammar.specs.declared.jessie_lexer.token.Kind.{Kind}
use Rattle.jessie_grammar.specs.declared.jessie_lexer.token.Kind.TheVariants as k
use Rattle.jessie_grammar.specs.declared.jessie_scopes.name_use.NameUse.{NameUse}
use Rattle.jessie_grammar.specs.declared.syntax.Expr.{Expr}
use Rattle.jessie_grammar.specs.Words.{Found, Level, table, Chained, unchained, chained}
use Rattle.jessie_grammar.specs.Parse.{Parser, ◌>>=◌, ◌>>◌, pure, either, symbol}
use Rattle.jessie_grammar.specs.Rules as rules

abbrev pub level_at : ℕ → Level
level_at n =
    if n == 0 then (k.Or ∷ [], true) else if n == 1 then (k.And ∷ [], true) else if n == 2 then (k.Same ∷ k.Differs ∷ [], false)
    else if n == 3 then (k.Less ∷ k.AtMost ∷ k.Greater ∷ k.AtLeast ∷ [], false) else if n == 4 then (k.Plus ∷ k.Minus ∷ [], true) else (k.Times ∷ k.Over ∷ k.Remainder ∷ [], true)

abbrev pub operand : ℕ → List NameUse → Parser (Found Expr)
operand room es = rules.unary room (rules.inner room) (rules.prim room (rules.inner room)) es

abbrev pub level_tails : ℕ → ℕ → Found Expr → Parser (Found Expr)
level_tails room n t = rules.tails (drop n table) (operand room) t

-- an operand with what stands after it from level n on
abbrev pub operands : ℕ → ℕ → List NameUse → Parser (Found Expr)
operands room n es = operand room es >>= level_tails room n

-- the operators of level n, each with its operand
abbrev pub level_ops : ℕ → ℕ → Chained → Parser Chained
level_ops room n s = rules.ops (level_at n) (operands room (n + 1)) s

abbrev pub level_rest : ℕ → ℕ → Found Expr → Parser (Found Expr)
level_rest room n t = level_ops room n (unchained t) >>= λ s. pure (chained s)

-- behind an item of a list that ends so: the comma, where there is one, and whether an item more follows
abbrev pub next_place : Kind → Parser Bool
next_place close = either (k.Comma ∷ []) (symbol k.Comma >> either (k.Comma ∷ close ∷ []) (pure false) (pure true)) (pure false)
