-- The grammar: which tokens stand for what, and which of them break which limit. Room is how many more
-- brackets may be open; an expression or a body with n nests at most n of them, whatever room there is.
-- Each reads on from what the text did with names before it, and tells all that it did then. This is the view
-- to be believed; Rules has the reader's, which the laws of Laws tie to it.
use Rattle.std.specs.Prelude.{ℕ, zero, suc, ◌+◌, nat_lt, Bool, true, false, List, [], ◌∷◌, length}
use Rattle.jessie_grammar.specs.declared.jessie_lexer.token.Kind.{Kind}
use Rattle.jessie_grammar.specs.declared.jessie_lexer.token.Kind.TheVariants as k
use Rattle.jessie_grammar.specs.declared.jessie_scopes.name_use.Binding.TheVariants as binding
use Rattle.jessie_grammar.specs.declared.jessie_scopes.name_use.NameUse.{NameUse}
use Rattle.jessie_grammar.specs.declared.jessie_scopes.name_use.NameUse.TheVariants as name_use
use Rattle.jessie_grammar.specs.declared.syntax.Constant.{Constant}
use Rattle.jessie_grammar.specs.declared.syntax.Expr.{Expr}
use Rattle.jessie_grammar.specs.declared.syntax.Access.{Access}
use Rattle.jessie_grammar.specs.declared.syntax.Stmt.{Stmt}
use Rattle.jessie_grammar.specs.declared.syntax.Branch.{Branch}
use Rattle.jessie_grammar.specs.declared.syntax.Module.{Module}
use Rattle.jessie_grammar.specs.Refused.{Lang}
use Rattle.jessie_grammar.specs.Parse.{free}
use Rattle.jessie_grammar.specs.Words.{Found, Named, long, declared, wide, free_words, words, literals, signs, Level, table, always, ongoing, inside, most_functions, most_params, most_variables, spotted, also, param_of, defined, literal_of, literal_expr, literal_constant, negative_of, sign_of, operator_of, binding_of, more, call_of, used, Call, call_with, send_of, amount_of, array_of, field_of, shorthand_of, record_of, method_of, field_access, index_of, Accessed, unaccessed, access_more, accessed, unary_of, Chained, unchained, chain_more, chained, choice_of, declaration_of, assign_of, run_of, return_of, return_nothing, throw_of, block_of, branch_of, while_of, Header, header_of, for_of, caught, Handler, handler_of, try_of, constant_field_of, constant_array_of, constant_record_of, function_of, variable_of, no_items, add_function, add_variable}
use Rattle.jessie_grammar.specs.StatementList.{in_order}
use Rattle.jessie_grammar.specs.Lang.{◌>>=◌, ◌>>◌, ◌or◌, pure, one, symbol, iterate, bracketed, any}

unfoldable pub name : Lang Named
name = one words spotted long

-- [ item { "," item } [","] ]
abbrev pub comma_step : {A : Type 0} → (List NameUse → Lang (Found A)) → Found (List A) × Bool → Lang (Found (List A) × Bool)
comma_step item s = symbol k.Comma >> (pure (s.0, false) or (item s.0.1 >>= λ a. pure (more s.0.0 a, true)))

abbrev pub listed : {A : Type 0} → (List NameUse → Lang (Found A)) → List NameUse → Lang (Found (List A))
listed item es = pure ([], es) or (item es >>= λ a. (iterate ongoing (comma_step item) (more [] a, true) >>= λ s. pure s.0))

-- args = "(" [ expr { "," expr } [","] ] ")"
unfoldable pub args : ℕ → (List NameUse → Lang (Found Expr)) → List NameUse → Lang (Found (List Expr))
args room expr es = bracketed room k.LeftParen k.RightParen (listed expr es)

-- field = name [ ":" expr ]
abbrev pub own_value : (List NameUse → Lang (Found Expr)) → List NameUse → Named → Lang (Found (List ℕ × Expr))
own_value expr es x = symbol k.Colon >> (expr (also es (name_use.Field x.0 x.1)) >>= λ t. pure (field_of x t))

unfoldable pub field : (List NameUse → Lang (Found Expr)) → List NameUse → Lang (Found (List ℕ × Expr))
field expr es = name >>= λ x. (own_value expr es x or pure (shorthand_of es x))

-- ---- what an expression begins with

-- name [ args ]
abbrev pub called_with : ℕ → (List NameUse → Lang (Found Expr)) → List NameUse → Named → Lang (Found Expr)
called_with room expr es x = args room expr (also es (name_use.Calls x.0 x.1)) >>= λ ts. pure (call_of x ts)

unfoldable pub call_tail : ℕ → (List NameUse → Lang (Found Expr)) → List NameUse → Named → Lang (Found Expr)
call_tail room expr es x = called_with room expr es x or pure (used es x)

unfoldable pub named : ℕ → (List NameUse → Lang (Found Expr)) → List NameUse → Lang (Found Expr)
named room expr es = one free_words spotted long >>= call_tail room expr es

-- "." name args
unfoldable pub method_call : ℕ → (List NameUse → Lang (Found Expr)) → List NameUse → Lang (Found Call)
method_call room expr es = do
  symbol k.Dot
  x ← name
  ts ← args room expr es
  pure (call_with x ts)

-- "E" "(" expr ")" "." name args
unfoldable pub eventually : ℕ → (List NameUse → Lang (Found Expr)) → List NameUse → Lang (Found Expr)
eventually room expr es = do
  symbol k.Eventually
  t ← bracketed room k.LeftParen k.RightParen (expr es)
  m ← method_call room expr t.1
  pure (send_of t.0 m)

-- "AmountMath" "." name args
unfoldable pub amount : ℕ → (List NameUse → Lang (Found Expr)) → List NameUse → Lang (Found Expr)
amount room expr es = symbol k.AmountMath >> (method_call room expr es >>= λ m. pure (amount_of m))

abbrev pub array : ℕ → (List NameUse → Lang (Found Expr)) → List NameUse → Lang (Found Expr)
array room expr es = bracketed room k.LeftBracket k.RightBracket (listed expr es) >>= λ ts. pure (array_of ts)

abbrev pub record_text : ℕ → (List NameUse → Lang (Found Expr)) → List NameUse → Lang (Found Expr)
record_text room expr es = bracketed room k.LeftBrace k.RightBrace (listed (field expr) (also es name_use.Opens)) >>= λ fs. pure (record_of fs)

-- what is neither a name nor a record
unfoldable pub bare : ℕ → (List NameUse → Lang (Found Expr)) → List NameUse → Lang (Found Expr)
bare room expr es =
    (one literals literal_of wide >>= λ c. pure (literal_expr es c))
    or (eventually room expr es
    or (amount room expr es
    or (bracketed room k.LeftParen k.RightParen (expr es)
    or array room expr es)))

unfoldable pub prim : ℕ → (List NameUse → Lang (Found Expr)) → List NameUse → Lang (Found Expr)
prim room expr es = named room expr es or (bare room expr es or record_text room expr es)

-- "." name [ args ] | "[" expr "]"
abbrev pub dot_access : ℕ → (List NameUse → Lang (Found Expr)) → List NameUse → Lang (Found Access)
dot_access room expr es = symbol k.Dot >> (name >>= λ x. ((args room expr es >>= λ ts. pure (method_of x ts)) or pure (field_access es x)))

unfoldable pub post_access : ℕ → (List NameUse → Lang (Found Expr)) → List NameUse → Lang (Found Access)
post_access room expr es = dot_access room expr es or (bracketed room k.LeftBracket k.RightBracket (expr es) >>= λ t. pure (index_of t))

abbrev pub access_on : ℕ → (List NameUse → Lang (Found Expr)) → Accessed → Lang Accessed
access_on room expr s = post_access room expr s.1 >>= λ x. pure (access_more s x)

abbrev pub accesses_from : ℕ → (List NameUse → Lang (Found Expr)) → Accessed → Lang Accessed
accesses_from room expr s = iterate always (access_on room expr) s

unfoldable pub post_tail : ℕ → (List NameUse → Lang (Found Expr)) → Found Expr → Lang (Found Expr)
post_tail room expr t = accesses_from room expr (unaccessed t) >>= λ s. pure (accessed s)

abbrev pub signed : ℕ → (List NameUse → Lang (Found Expr)) → List NameUse → Lang (Found Expr)
signed room expr es = one signs sign_of free >>= λ o. (prim room expr es >>= λ t. (post_tail room expr t >>= λ u. pure (unary_of o u)))

-- [ "!" | "-" ] first { post_access }
unfoldable pub unary : ℕ → (List NameUse → Lang (Found Expr)) → (List NameUse → Lang (Found Expr)) → List NameUse → Lang (Found Expr)
unary room expr first es = signed room expr es or (first es >>= post_tail room expr)

-- ---- operators

unfoldable pub op_step : Level → (List NameUse → Lang (Found Expr)) → Chained × Bool → Lang (Chained × Bool)
op_step v other s = one v.0 operator_of free >>= λ o. (other s.0.1 >>= λ u. pure (chain_more s.0 o u, v.1))

-- { operator operand }, or only one of them
abbrev pub ops : Level → (List NameUse → Lang (Found Expr)) → Chained → Lang Chained
ops v other s = iterate ongoing (op_step v other) (s, true) >>= λ z. pure z.0

-- what stands after an operand on these levels
unfoldable pub tails : List Level → (List NameUse → Lang (Found Expr)) → Found Expr → Lang (Found Expr)
tails [] other t = pure t
tails (v ∷ vs) other t = tails vs other t >>= λ u. (ops v (λ es. (other es >>= tails vs other)) (unchained u) >>= λ s. pure (chained s))

-- or ":" or
unfoldable pub branches : (List NameUse → Lang (Found Expr)) → List NameUse → Lang (Found (Expr × Expr))
branches other es = do
  u ← other es
  symbol k.Colon
  v ← other u.1
  pure ((u.0, v.0), v.1)

-- [ "?" or ":" or ]
abbrev pub chosen : (List NameUse → Lang (Found Expr)) → Found Expr → Lang (Found Expr)
chosen other t = symbol k.Question >> (branches other t.1 >>= λ c. pure (choice_of t.0 c))

unfoldable pub choice : (List NameUse → Lang (Found Expr)) → Found Expr → Lang (Found Expr)
choice other t = chosen other t or pure t

-- what stands after the first operand of an expression
unfoldable pub after : ℕ → (List NameUse → Lang (Found Expr)) → Found Expr → Lang (Found Expr)
after room expr t = let other = unary room expr (prim room expr) in tails table other t >>= choice (λ es. (other es >>= tails table other))

unfoldable pub full : ℕ → (List NameUse → Lang (Found Expr)) → List NameUse → Lang (Found Expr)
full room expr es = unary room expr (prim room expr) es >>= after room expr

unfoldable pub expr : ℕ → ℕ → List NameUse → Lang (Found Expr)
expr zero room es = one free_words spotted long >>= λ x. pure (used es x)
expr (suc n) room es = full room (expr n (inside room)) es

-- ---- statements

-- "=" expr ";"
unfoldable pub initializer : (List NameUse → Lang (Found Expr)) → List NameUse → Lang (Found Expr)
initializer expr es = do
  symbol k.Equals
  t ← expr es
  symbol k.Semicolon
  pure t

-- ("const" | "let") name "=" expr ";"
unfoldable pub declaration : (List NameUse → Lang (Found Expr)) → List NameUse → Lang (Found Stmt)
declaration expr es = do
  b ← one (k.Const ∷ k.Let ∷ []) binding_of free
  x ← name
  t ← initializer expr (also es (name_use.Declares x.0 x.1))
  pure (declaration_of b x t)

-- name "=" expr ";"
unfoldable pub assigning : ℕ → (List NameUse → Lang (Found Expr)) → List Kind → List NameUse → Lang (Found Stmt)
assigning room inner names es = one names spotted long >>= λ x. (initializer (full room inner) (also es (name_use.Assigns x.0 x.1)) >>= λ t. pure (assign_of x t))

-- expr ";" that begins with no "{", and with no name but these
unfoldable pub running : ℕ → (List NameUse → Lang (Found Expr)) → List Kind → List NameUse → Lang (Found Stmt)
running room inner names es = (unary room inner (λ es. ((one names spotted long >>= call_tail room inner es) or bare room inner es)) es >>= after room inner) >>= λ t. (symbol k.Semicolon >> pure (run_of t))

-- "(" expr ")" block
unfoldable pub arm : ℕ → (List NameUse → Lang (Found Expr)) → (List NameUse → Lang (Found (List Stmt))) → List NameUse → Lang (Found Branch)
arm room inner block es = bracketed room k.LeftParen k.RightParen (inner es) >>= λ t. (block t.1 >>= λ b. pure (branch_of t.0 b))

-- "while" "(" expr ")" block
unfoldable pub looping : ℕ → (List NameUse → Lang (Found Expr)) → (List NameUse → Lang (Found (List Stmt))) → List NameUse → Lang (Found Stmt)
looping room inner block es = symbol k.While >> (arm room inner block es >>= λ a. pure (while_of a))

-- "return" [ expr ] ";"
unfoldable pub giving : (List NameUse → Lang (Found Expr)) → List NameUse → Lang (Found Stmt)
giving expr es = symbol k.Return >> ((symbol k.Semicolon >> pure (return_nothing es)) or (expr es >>= λ t. (symbol k.Semicolon >> pure (return_of t))))

-- "throw" expr ";"
unfoldable pub throwing : (List NameUse → Lang (Found Expr)) → List NameUse → Lang (Found Stmt)
throwing expr es = symbol k.Throw >> (expr es >>= λ t. (symbol k.Semicolon >> pure (throw_of t)))

-- "const" name "of" expr
unfoldable pub each : (List NameUse → Lang (Found Expr)) → List NameUse → Lang (Found Header)
each inner es = do
  symbol k.Const
  x ← name
  symbol k.Of
  t ← inner (also (also es name_use.Opens) (name_use.Declares x.0 x.1))
  pure (header_of x t)

-- "for" "(" "const" name "of" expr ")" block
unfoldable pub walking : ℕ → (List NameUse → Lang (Found Expr)) → (List NameUse → Lang (Found (List Stmt))) → List NameUse → Lang (Found Stmt)
walking room inner block es = do
  symbol k.For
  h ← bracketed room k.LeftParen k.RightParen (each inner es)
  b ← block h.1
  pure (for_of h.0 b)

-- "catch" "(" name ")" block
unfoldable pub catching : ℕ → (List NameUse → Lang (Found (List Stmt))) → List NameUse → Lang (Found Handler)
catching room block es = do
  symbol k.Catch
  x ← bracketed room k.LeftParen k.RightParen name
  h ← block (caught es x)
  pure (handler_of x h)

-- "try" block "catch" "(" name ")" block
unfoldable pub trying : ℕ → (List NameUse → Lang (Found (List Stmt))) → List NameUse → Lang (Found Stmt)
trying room block es = do
  symbol k.Try
  b ← block es
  h ← catching room block b.1
  pure (try_of b.0 h)

-- a statement that isn't an `if`, and begins with none but these names
unfoldable pub simple : ℕ → (List NameUse → Lang (Found Expr)) → (List NameUse → Lang (Found (List Stmt))) → List Kind → List NameUse → Lang (Found Stmt)
simple room inner block names es =
    declaration (full room inner) es
    or (assigning room inner names es
    or (looping room inner block es
    or (walking room inner block es
    or (giving (full room inner) es
    or (throwing (full room inner) es
    or (trying room block es
    or running room inner names es))))))

-- what stands in a block's braces
unfoldable pub statements : ℕ → (List NameUse → Lang (Found Expr)) → (List NameUse → Lang (Found (List Stmt))) → List NameUse → Lang (Found (List Stmt))
statements room inner block es = in_order (arm room inner block) block (simple room inner block) es

-- "{" { stmt } "}"
unfoldable pub braced : ℕ → (List NameUse → Lang (Found (List Stmt))) → List NameUse → Lang (Found (List Stmt))
braced room inner es = bracketed room k.LeftBrace k.RightBrace (inner (also es name_use.Opens)) >>= λ ss. pure (block_of ss)

unfoldable pub body : ℕ → ℕ → List NameUse → Lang (Found (List Stmt))
body zero room es = pure ([], es)
body (suc n) room es = statements room (expr n (inside room)) (braced room (body n (inside room))) es

-- ---- modules

-- name ":" const
unfoldable pub constant_field : (List NameUse → Lang (Found Constant)) → List NameUse → Lang (Found (List ℕ × Constant))
constant_field inner es = do
  x ← name
  symbol k.Colon
  t ← inner (also es (name_use.Field x.0 x.1))
  pure (constant_field_of x t)

abbrev pub constant_array : ℕ → (List NameUse → Lang (Found Constant)) → List NameUse → Lang (Found Constant)
constant_array room inner es = bracketed room k.LeftBracket k.RightBracket (listed inner es) >>= λ ts. pure (constant_array_of ts)

abbrev pub constant_record : ℕ → (List NameUse → Lang (Found Constant)) → List NameUse → Lang (Found Constant)
constant_record room inner es = bracketed room k.LeftBrace k.RightBrace (listed (constant_field inner) (also es name_use.Opens)) >>= λ fs. pure (constant_record_of fs)

-- const = literal | "-" num | "[" [ const { "," const } [","] ] "]" | "{" [ name ":" const { "," name ":" const } [","] ] "}"
unfoldable pub constant_in : ℕ → (List NameUse → Lang (Found Constant)) → List NameUse → Lang (Found Constant)
constant_in room inner es =
    (one literals literal_of wide >>= λ c. pure (literal_constant es c))
    or ((symbol k.Minus >> (one (k.Number ∷ []) negative_of wide >>= λ c. pure (literal_constant es c)))
    or (constant_array room inner es or constant_record room inner es))

unfoldable pub constant : ℕ → ℕ → List NameUse → Lang (Found Constant)
constant zero room es = (one literals literal_of wide >>= λ c. pure (literal_constant es c))
constant (suc n) room es = constant_in room (constant n (inside room)) es

-- after so many parameters one more may stand or may not
unfoldable pub param : ℕ → List NameUse → Lang (Found (List ℕ))
param i es = one words spotted (declared (nat_lt i most_params)) >>= λ x. pure (param_of es x)

unfoldable pub next_param : Found (List (List ℕ)) → Lang (Found (List (List ℕ)))
next_param found = symbol k.Comma >> (param (length found.0) found.1 >>= λ x. pure (more found.0 x))

-- [ name { "," name } ]
unfoldable pub params : List NameUse → Lang (Found (List (List ℕ)))
params es = (param 0 es >>= λ x. iterate always next_param (more [] x)) or pure ([], es)

-- [ "export" ] "const" name "="
unfoldable pub heading : ℕ → Lang Named
heading count = do
  symbol k.Export or pure tt
  symbol k.Const
  x ← one words spotted (declared (nat_lt count most_functions))
  symbol k.Equals
  pure x

-- "=>" block ";"
unfoldable pub ending_block : (List NameUse → Lang (Found (List Stmt))) → List NameUse → Lang (Found (List Stmt))
ending_block block es = do
  symbol k.Arrow
  b ← block es
  symbol k.Semicolon
  pure b

-- [ "export" ] "const" name "=" "(" params ")" "=>" block ";"
unfoldable pub function : ℕ → ℕ → Found Module → Lang (Found Module)
function n room s = do
  x ← heading (length s.0.functions)
  xs ← bracketed room k.LeftParen k.RightParen (params (also (defined binding.Function s.1 x) name_use.Opens))
  b ← ending_block (braced room (body n (inside room))) xs.1
  pure (add_function s.0 (function_of x.1 xs.0 b))

-- "=" const ";"
unfoldable pub constant_value : (List NameUse → Lang (Found Constant)) → List NameUse → Lang (Found Constant)
constant_value inner es = do
  symbol k.Equals
  t ← inner es
  symbol k.Semicolon
  pure t

-- "let" name "=" const ";"
unfoldable pub variable : ℕ → ℕ → Found Module → Lang (Found Module)
variable n room s = do
  symbol k.Let
  x ← one words spotted (declared (nat_lt (length s.0.variables) most_variables))
  t ← constant_value (constant n room) (defined binding.Variable s.1 x)
  pure (add_variable s.0 (variable_of x.1 t))

unfoldable pub item : ℕ → ℕ → Found Module → Lang (Found Module)
item n room s = variable n room s or function n room s

unfoldable pub module_text : ℕ → ℕ → Lang (Found Module)
module_text n room = iterate always (item n room) no_items

-- a contract text, whatever its limits: however many brackets nest, each that stands in so many others
-- breaks a limit
unfoldable pub text : ℕ → Lang (Found Module)
text room = any (λ n. module_text (n + suc room) room)
