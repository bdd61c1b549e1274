-- Tokens, and sets of their kinds.
use Rattle.std.specs.Prelude.{ℕ, Bool, false, ◌==◌, ◌||◌, List, [], ◌∷◌, Option, Some, None}
use Rattle.jessie_grammar.specs.declared.jessie_lexer.token.Kind.{Kind}
use Rattle.jessie_grammar.specs.declared.jessie_lexer.token.Kind.TheVariants as k
use Rattle.jessie_grammar.specs.declared.jessie_lexer.token.Token.{Token}

-- the kind's place among the kinds
abbrev pub number_of : Kind → ℕ
number_of k.End = 0
number_of k.Word = 1
number_of k.Export = 2
number_of k.Of = 3
number_of k.Catch = 4
number_of k.Else = 5
number_of k.Const = 6
number_of k.Let = 7
number_of k.If = 8
number_of k.While = 9
number_of k.For = 10
number_of k.Return = 11
number_of k.Throw = 12
number_of k.Try = 13
number_of k.Eventually = 14
number_of k.AmountMath = 15
number_of k.True = 16
number_of k.False = 17
number_of k.Null = 18
number_of k.Number = 19
number_of k.Quoted = 20
number_of k.LeftParen = 21
number_of k.RightParen = 22
number_of k.LeftBracket = 23
number_of k.RightBracket = 24
number_of k.LeftBrace = 25
number_of k.RightBrace = 26
number_of k.Comma = 27
number_of k.Semicolon = 28
number_of k.Colon = 29
number_of k.Dot = 30
number_of k.Equals = 31
number_of k.Arrow = 32
number_of k.Question = 33
number_of k.Or = 34
number_of k.And = 35
number_of k.Same = 36
number_of k.Differs = 37
number_of k.Less = 38
number_of k.AtMost = 39
number_of k.Greater = 40
number_of k.AtLeast = 41
number_of k.Plus = 42
number_of k.Minus = 43
number_of k.Times = 44
number_of k.Over = 45
number_of k.Remainder = 46
number_of k.Not = 47
number_of k.Bad = 48

-- the first token's kind
abbrev pub kind : List Token → Kind
kind [] = k.End
kind (t ∷ ts) = t.kind

abbrev pub first : {A : Type 0} → List A → Option A
first [] = None
first (t ∷ ts) = Some t

-- a set of kinds has this one
abbrev pub has : List Kind → Kind → Bool
has [] k = false
has (j ∷ js) k = number_of j == number_of k || has js k
