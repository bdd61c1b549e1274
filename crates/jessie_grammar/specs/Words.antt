-- What single tokens stand for, which limits they break, what is made of what was read, and which kinds
-- begin what. What is found in a text is a tree, with what the text does with names from its beginning up to
-- the tree's end.
use Rattle.std.specs.Prelude.{ℕ, zero, suc, Bool, true, false, nat_le, if◌then◌else◌, List, [], ◌∷◌, ◌++◌, length, codes, Option, Some, None, pos, neg_ℤ}
use Rattle.std.specs.Str.{bytes_eq}
use Rattle.jessie_grammar.specs.declared.jessie_lexer.token.Kind.{Kind}
use Rattle.jessie_grammar.specs.declared.jessie_lexer.token.Kind.TheVariants as k
use Rattle.jessie_grammar.specs.declared.jessie_lexer.token.Token.{Token}
use Rattle.jessie_grammar.specs.Lex.{limit}
use Rattle.jessie_grammar.specs.declared.jessie_scopes.name_use.Binding.{Binding}
use Rattle.jessie_grammar.specs.declared.jessie_scopes.name_use.Binding.TheVariants as binding
use Rattle.jessie_grammar.specs.declared.jessie_scopes.name_use.NameUse.{NameUse}
use Rattle.jessie_grammar.specs.declared.jessie_scopes.name_use.NameUse.TheVariants as name_use
use Rattle.jessie_grammar.specs.declared.syntax.Literal.{Literal}
use Rattle.jessie_grammar.specs.declared.syntax.Literal.TheVariants as literal
use Rattle.jessie_grammar.specs.declared.syntax.Constant.{Constant}
use Rattle.jessie_grammar.specs.declared.syntax.Constant.TheVariants as constant
use Rattle.jessie_grammar.specs.declared.syntax.BuiltIn.{BuiltIn}
use Rattle.jessie_grammar.specs.declared.syntax.BuiltIn.TheVariants as built
use Rattle.jessie_grammar.specs.declared.syntax.Unary.{Unary}
use Rattle.jessie_grammar.specs.declared.syntax.Unary.TheVariants as unary
use Rattle.jessie_grammar.specs.declared.syntax.Operator.{Operator}
use Rattle.jessie_grammar.specs.declared.syntax.Operator.TheVariants as operator
use Rattle.jessie_grammar.specs.declared.syntax.Expr.{Expr}
use Rattle.jessie_grammar.specs.declared.syntax.Expr.TheVariants as expr
use Rattle.jessie_grammar.specs.declared.syntax.Access.{Access}
use Rattle.jessie_grammar.specs.declared.syntax.Access.TheVariants as step
use Rattle.jessie_grammar.specs.declared.syntax.Stmt.{Stmt}
use Rattle.jessie_grammar.specs.declared.syntax.Stmt.TheVariants as stmt
use Rattle.jessie_grammar.specs.declared.syntax.Branch.{Branch}
use Rattle.jessie_grammar.specs.declared.syntax.Function.{Function}
use Rattle.jessie_grammar.specs.declared.syntax.Variable.{Variable}
use Rattle.jessie_grammar.specs.declared.syntax.Module.{Module}
use Rattle.jessie_grammar.specs.declared.jessie_language.fault.Limit.{Limit}
use Rattle.jessie_grammar.specs.declared.jessie_language.fault.Limit.TheVariants as breaks

abbrev pub Found : Type 0 → Type 0
Found A = A × List NameUse

-- a name and its place
abbrev pub Named : Type 0
Named = ℕ × List ℕ

-- ---- sets of kinds

-- the words that may be names where a statement begins: after an if that may go on, and elsewhere
abbrev pub words_after_if : List Kind
words_after_if = k.Word ∷ k.Export ∷ k.Of ∷ k.Catch ∷ []

abbrev pub leading_words : List Kind
leading_words = k.Else ∷ words_after_if

-- where an expression begins, and where only a name may stand
abbrev pub free_words : List Kind
free_words = leading_words ++ k.Const ∷ k.Let ∷ k.If ∷ k.While ∷ k.For ∷ k.Return ∷ k.Throw ∷ k.Try ∷ []

abbrev pub words : List Kind
words = free_words ++ k.Eventually ∷ k.AmountMath ∷ k.True ∷ k.False ∷ k.Null ∷ []

abbrev pub literals : List Kind
literals = k.True ∷ k.False ∷ k.Null ∷ k.Number ∷ k.Quoted ∷ []

abbrev pub signs : List Kind
signs = k.Not ∷ k.Minus ∷ []

-- operators from the loosest on, and whether more of one level may follow each other
abbrev pub Level : Type 0
Level = List Kind × Bool

abbrev pub table : List Level
table =
    (k.Or ∷ [], true) ∷ (k.And ∷ [], true) ∷ (k.Same ∷ k.Differs ∷ [], false) ∷ (k.Less ∷ k.AtMost ∷ k.Greater ∷ k.AtLeast ∷ [], false)
    ∷ (k.Plus ∷ k.Minus ∷ [], true) ∷ (k.Times ∷ k.Over ∷ k.Remainder ∷ [], true) ∷ []

-- what the steps behind an expression begin with
abbrev pub access_begins : List Kind
access_begins = k.Dot ∷ k.LeftBracket ∷ []

-- what an expression begins with that begins with no name and is no record
abbrev pub bare_begins : List Kind
bare_begins = literals ++ k.Eventually ∷ k.AmountMath ∷ k.LeftParen ∷ k.LeftBracket ∷ []

abbrev pub statement_begins : List Kind
statement_begins = (k.Const ∷ k.Let ∷ k.If ∷ k.While ∷ k.For ∷ k.Return ∷ k.Throw ∷ k.Try ∷ leading_words) ++ (signs ++ bare_begins)

abbrev pub item_begins : List Kind
item_begins = k.Let ∷ k.Export ∷ k.Const ∷ []

abbrev pub always : {S : Type 0} → S → Bool
always s = true

-- what is found, and whether more may follow
abbrev pub ongoing : {A : Type 0} → A × Bool → Bool
ongoing s = s.1

-- room inside one more bracket
abbrev pub inside : ℕ → ℕ
inside zero = zero
inside (suc n) = n

-- ---- limits

abbrev pub most_functions : ℕ
most_functions = 256

abbrev pub most_params : ℕ
most_params = 8

abbrev pub most_variables : ℕ
most_variables = 64

-- a name
abbrev pub long : Token → Option Limit
long t = if nat_le (length t.text) 64 then None else Some breaks.TooLong

-- a name that is declared, where one more may be
abbrev pub declared : Bool → Token → Option Limit
declared more t = if nat_le (length t.text) 64 then (if more then None else Some breaks.TooMany) else Some breaks.TooLong

-- a number
abbrev pub wide : Token → Option Limit
wide t = if nat_le t.number limit then None else Some breaks.Wide

-- ---- single tokens

abbrev pub spotted : Token → Named
spotted t = (t.at, t.text)

-- what is done so far, and then one thing more
abbrev pub also : List NameUse → NameUse → List NameUse
also es x = es ++ x ∷ []

-- a parameter's name
abbrev pub param_of : List NameUse → Named → Found (List ℕ)
param_of es x = (x.1, also (also es (name_use.Declares x.0 x.1)) (name_use.Binds x.1 binding.Variable))

-- a name of the module
abbrev pub defined : Binding → List NameUse → Named → List NameUse
defined b es x = also es (name_use.Defines x.0 x.1 b)

abbrev pub literal_by : Kind → Token → Literal
literal_by k.Number t = literal.Number (pos t.number)
literal_by k.Quoted t = literal.Text t.text
literal_by k.True t = literal.Bool true
literal_by k.False t = literal.Bool false
literal_by _ t = literal.Null

abbrev pub literal_of : Token → Literal
literal_of t = literal_by t.kind t

-- a literal that is read, and one that a state variable holds
abbrev pub literal_expr : List NameUse → Literal → Found Expr
literal_expr es c = (expr.Literal c, es)

abbrev pub literal_constant : List NameUse → Literal → Found Constant
literal_constant es c = (constant.Literal c, es)

abbrev pub negative_of : Token → Literal
negative_of t = literal.Number (neg_ℤ (pos t.number))

abbrev pub sign_by : Kind → Unary
sign_by k.Not = unary.Not
sign_by _ = unary.Negate

abbrev pub sign_of : Token → Unary
sign_of t = sign_by t.kind

abbrev pub operator_by : Kind → Operator
operator_by k.Or = operator.Or
operator_by k.And = operator.And
operator_by k.Same = operator.Equal
operator_by k.Differs = operator.Unequal
operator_by k.Less = operator.Less
operator_by k.AtMost = operator.AtMost
operator_by k.Greater = operator.Greater
operator_by k.AtLeast = operator.AtLeast
operator_by k.Plus = operator.Add
operator_by k.Minus = operator.Subtract
operator_by k.Times = operator.Multiply
operator_by k.Over = operator.Divide
operator_by _ = operator.Remainder

abbrev pub operator_of : Token → Operator
operator_of t = operator_by t.kind

abbrev pub binding_by : Kind → Binding
binding_by k.Let = binding.Variable
binding_by _ = binding.Constant

abbrev pub binding_of : Token → Binding
binding_of t = binding_by t.kind

-- ---- lists of what was found

-- with one more, and what is done up to its end
abbrev pub more : {A : Type 0} → List A → Found A → Found (List A)
more xs a = (xs ++ a.0 ∷ [], a.1)

-- ---- expressions

-- the functions of the language itself
abbrev pub built_in : List ℕ → Option BuiltIn
built_in x =
    if bytes_eq x (codes "when") then Some built.When else if bytes_eq x (codes "Far") then Some built.Far else if bytes_eq x (codes "harden") then Some built.Harden
    else if bytes_eq x (codes "keys") then Some built.Keys else if bytes_eq x (codes "len") then Some built.Len else if bytes_eq x (codes "push") then Some built.Push
    else if bytes_eq x (codes "put") then Some built.Put else None

abbrev pub called : Option BuiltIn → List ℕ → List Expr → Expr
called (Some b) x ts = expr.BuiltIn b ts
called None x ts = expr.Call x ts

abbrev pub call_of : Named → Found (List Expr) → Found Expr
call_of x ts = (called (built_in x.1) x.1 ts.0, ts.1)

-- a name that is read
abbrev pub used : List NameUse → Named → Found Expr
used es x = (expr.Name x.1, also es (name_use.Uses x.0 x.1))

-- a method's name with its arguments
abbrev pub Call : Type 0
Call = List ℕ × List Expr

abbrev pub call_with : Named → Found (List Expr) → Found Call
call_with x ts = ((x.1, ts.0), ts.1)

abbrev pub send_of : Expr → Found Call → Found Expr
send_of t m = (expr.Send t m.0.0 m.0.1, m.1)

abbrev pub amount_of : Found Call → Found Expr
amount_of m = (expr.AmountMath m.0.0 m.0.1, m.1)

abbrev pub array_of : Found (List Expr) → Found Expr
array_of ts = (expr.Array ts.0, ts.1)

-- a field with an expression of its own, and one that reads the name
abbrev pub field_of : Named → Found Expr → Found (List ℕ × Expr)
field_of x t = ((x.1, t.0), t.1)

abbrev pub shorthand_of : List NameUse → Named → Found (List ℕ × Expr)
shorthand_of es x = ((x.1, expr.Name x.1), also es (name_use.Shorthand x.0 x.1))

abbrev pub record_of : Found (List (List ℕ × Expr)) → Found Expr
record_of fs = (expr.Record fs.0, also fs.1 name_use.Closes)

abbrev pub method_of : Named → Found (List Expr) → Found Access
method_of x ts = (step.Method x.1 ts.0, ts.1)

abbrev pub field_access : List NameUse → Named → Found Access
field_access es x = (step.Field x.1, es)

abbrev pub index_of : Found Expr → Found Access
index_of t = (step.Index t.0, t.1)

-- an expression and the steps behind it so far; without a step it's what stands before them
abbrev pub Accessed : Type 0
Accessed = Found (Expr × List Access)

abbrev pub unaccessed : Found Expr → Accessed
unaccessed t = ((t.0, []), t.1)

abbrev pub access_more : Accessed → Found Access → Accessed
access_more s x = ((s.0.0, s.0.1 ++ x.0 ∷ []), x.1)

abbrev pub with_accesses : Expr → List Access → Expr
with_accesses t [] = t
with_accesses t (x ∷ xs) = expr.Accesses t (x ∷ xs)

abbrev pub accessed : Accessed → Found Expr
accessed s = (with_accesses s.0.0 s.0.1, s.1)

abbrev pub unary_of : Unary → Found Expr → Found Expr
unary_of o t = (expr.Unary o t.0, t.1)

-- an operand and the operators behind it so far, each with its operand
abbrev pub Chained : Type 0
Chained = Found (Expr × List (Operator × Expr))

abbrev pub unchained : Found Expr → Chained
unchained t = ((t.0, []), t.1)

abbrev pub chain_more : Chained → Operator → Found Expr → Chained
chain_more s o t = ((s.0.0, s.0.1 ++ (o, t.0) ∷ []), t.1)

abbrev pub with_operands : Expr → List (Operator × Expr) → Expr
with_operands t [] = t
with_operands t (x ∷ xs) = expr.Chain t (x ∷ xs)

abbrev pub chained : Chained → Found Expr
chained s = (with_operands s.0.0 s.0.1, s.1)

abbrev pub choice_of : Expr → Found (Expr × Expr) → Found Expr
choice_of t c = (expr.Choice t c.0.0 c.0.1, c.1)

-- ---- statements

abbrev pub declaring : Binding → List ℕ → Expr → Stmt
declaring binding.Variable x t = stmt.Let x t
declaring _ x t = stmt.Const x t

-- the name is known from the end of its declaration on
abbrev pub declaration_of : Binding → Named → Found Expr → Found Stmt
declaration_of b x t = (declaring b x.1 t.0, also t.1 (name_use.Binds x.1 b))

abbrev pub assign_of : Named → Found Expr → Found Stmt
assign_of x t = (stmt.Assign x.1 t.0, t.1)

abbrev pub run_of : Found Expr → Found Stmt
run_of t = (stmt.Run t.0, t.1)

abbrev pub return_of : Found Expr → Found Stmt
return_of t = (stmt.Return (Some t.0), t.1)

abbrev pub return_nothing : List NameUse → Found Stmt
return_nothing es = (stmt.Return None, es)

abbrev pub throw_of : Found Expr → Found Stmt
throw_of t = (stmt.Throw t.0, t.1)

abbrev pub block_of : Found (List Stmt) → Found (List Stmt)
block_of ss = (ss.0, also ss.1 name_use.Closes)

-- a condition with its block
abbrev pub branch_of : Expr → Found (List Stmt) → Found Branch
branch_of t b = (record { condition = t; body = b.0 }, b.1)

abbrev pub while_of : Found Branch → Found Stmt
while_of a = (stmt.While a.0.condition a.0.body, a.1)

-- a `for`'s name is outer to its block, and known in it
abbrev pub Header : Type 0
Header = List ℕ × Expr

abbrev pub header_of : Named → Found Expr → Found Header
header_of x t = ((x.1, t.0), also t.1 (name_use.Binds x.1 binding.Constant))

abbrev pub for_of : Header → Found (List Stmt) → Found Stmt
for_of h b = (stmt.ForOf h.0 h.1 b.0, also b.1 name_use.Closes)

-- a `catch`'s name is outer to its block
abbrev pub caught : List NameUse → Named → List NameUse
caught es x = also (also (also es name_use.Opens) (name_use.Declares x.0 x.1)) (name_use.Binds x.1 binding.Variable)

abbrev pub Handler : Type 0
Handler = List ℕ × List Stmt

abbrev pub handler_of : Named → Found (List Stmt) → Found Handler
handler_of x b = ((x.1, b.0), also b.1 name_use.Closes)

abbrev pub try_of : List Stmt → Found Handler → Found Stmt
try_of b h = (stmt.Try b h.0.0 h.0.1, h.1)

-- an `if` of these branches, if there are any, without a last block
abbrev pub closing : List Branch → List Stmt
closing [] = []
closing (a ∷ arms) = stmt.If (a ∷ arms) [] ∷ []

-- ---- the module

abbrev pub constant_field_of : Named → Found Constant → Found (List ℕ × Constant)
constant_field_of x t = ((x.1, t.0), t.1)

abbrev pub constant_array_of : Found (List Constant) → Found Constant
constant_array_of ts = (constant.Array ts.0, ts.1)

abbrev pub constant_record_of : Found (List (List ℕ × Constant)) → Found Constant
constant_record_of fs = (constant.Record fs.0, also fs.1 name_use.Closes)

-- parameters are outer to the block
abbrev pub function_of : List ℕ → List (List ℕ) → Found (List Stmt) → Found Function
function_of x xs b = (record { name = x; params = xs; body = b.0 }, also b.1 name_use.Closes)

abbrev pub variable_of : List ℕ → Found Constant → Found Variable
variable_of x t = (record { name = x; initial = t.0 }, t.1)

abbrev pub no_items : Found Module
no_items = (record { variables = []; functions = [] }, [])

abbrev pub add_function : Module → Found Function → Found Module
add_function m f = (record { variables = m.variables; functions = m.functions ++ f.0 ∷ [] }, f.1)

abbrev pub add_variable : Module → Found Variable → Found Module
add_variable m v = (record { variables = m.variables ++ v.0 ∷ []; functions = m.functions }, v.1)
