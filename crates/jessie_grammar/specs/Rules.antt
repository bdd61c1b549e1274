-- Reading by the grammar, from the front. This is the reader's view, where the next token decides each choice;
-- Grammar has the one to be believed, to which the laws of Laws tie it.
use Rattle.std.specs.Prelude.{ℕ, zero, suc, nat_lt, Bool, true, false, List, [], ◌∷◌, length}
use Rattle.jessie_grammar.specs.declared.jessie_lexer.token.Kind.{Kind}
use Rattle.jessie_grammar.specs.declared.jessie_lexer.token.Kind.TheVariants as k
use Rattle.jessie_grammar.specs.declared.jessie_scopes.name_use.Binding.TheVariants as binding
use Rattle.jessie_grammar.specs.declared.jessie_scopes.name_use.NameUse.{NameUse}
use Rattle.jessie_grammar.specs.declared.jessie_scopes.name_use.NameUse.TheVariants as name_use
use Rattle.jessie_grammar.specs.declared.syntax.Constant.{Constant}
use Rattle.jessie_grammar.specs.declared.syntax.Expr.{Expr}
use Rattle.jessie_grammar.specs.declared.syntax.Access.{Access}
use Rattle.jessie_grammar.specs.declared.syntax.Stmt.{Stmt}
use Rattle.jessie_grammar.specs.declared.syntax.Branch.{Branch}
use Rattle.jessie_grammar.specs.declared.syntax.Module.{Module}
use Rattle.jessie_grammar.specs.Parse.{Parser, ◌>>=◌, ◌>>◌, pure, refuse, one, free, symbol, either, loop, bracketed, whole}
use Rattle.jessie_grammar.specs.Words.{Found, Named, long, declared, wide, free_words, words, literals, signs, Level, table, always, ongoing, most_functions, most_params, most_variables, spotted, also, param_of, defined, literal_of, literal_expr, literal_constant, negative_of, sign_of, operator_of, binding_of, more, call_of, used, Call, call_with, send_of, amount_of, array_of, field_of, shorthand_of, record_of, method_of, field_access, index_of, Accessed, unaccessed, access_more, accessed, unary_of, Chained, unchained, chain_more, chained, choice_of, declaration_of, assign_of, run_of, return_of, return_nothing, throw_of, block_of, branch_of, while_of, Header, header_of, for_of, caught, Handler, handler_of, try_of, constant_field_of, constant_array_of, constant_record_of, function_of, variable_of, no_items, add_function, add_variable, words_after_if, leading_words, access_begins, bare_begins, statement_begins, item_begins}
use Rattle.jessie_grammar.specs.BlockTurns.{Turned, shut, ran, armed, armed_more, ended}

unfoldable pub name : Parser Named
name = one words spotted long

abbrev pub comma_step : {A : Type 0} → Kind → (List NameUse → Parser (Found A)) → Found (List A) × Bool → Parser (Found (List A) × Bool)
comma_step close item s = symbol k.Comma >> either (k.Comma ∷ close ∷ []) (pure (s.0, false)) (item s.0.1 >>= λ a. pure (more s.0.0 a, true))

abbrev pub listed : {A : Type 0} → Kind → (List NameUse → Parser (Found A)) → List NameUse → Parser (Found (List A))
listed close item es = either (close ∷ []) (pure ([], es)) (item es >>= λ a. (loop ongoing (k.Comma ∷ []) (comma_step close item) (more [] a, true) >>= λ s. pure s.0))

unfoldable pub args : ℕ → (List NameUse → Parser (Found Expr)) → List NameUse → Parser (Found (List Expr))
args room expr es = bracketed room k.LeftParen k.RightParen (listed k.RightParen expr es)

abbrev pub own_value : (List NameUse → Parser (Found Expr)) → List NameUse → Named → Parser (Found (List ℕ × Expr))
own_value expr es x = symbol k.Colon >> (expr (also es (name_use.Field x.0 x.1)) >>= λ t. pure (field_of x t))

unfoldable pub field : (List NameUse → Parser (Found Expr)) → List NameUse → Parser (Found (List ℕ × Expr))
field expr es = name >>= λ x. either (k.Colon ∷ []) (own_value expr es x) (pure (shorthand_of es x))

abbrev pub called_with : ℕ → (List NameUse → Parser (Found Expr)) → List NameUse → Named → Parser (Found Expr)
called_with room expr es x = args room expr (also es (name_use.Calls x.0 x.1)) >>= λ ts. pure (call_of x ts)

unfoldable pub call_tail : ℕ → (List NameUse → Parser (Found Expr)) → List NameUse → Named → Parser (Found Expr)
call_tail room expr es x = either (k.LeftParen ∷ []) (called_with room expr es x) (pure (used es x))

unfoldable pub named : ℕ → (List NameUse → Parser (Found Expr)) → List NameUse → Parser (Found Expr)
named room expr es = one free_words spotted long >>= call_tail room expr es

unfoldable pub method_call : ℕ → (List NameUse → Parser (Found Expr)) → List NameUse → Parser (Found Call)
method_call room expr es = do
  symbol k.Dot
  x ← name
  ts ← args room expr es
  pure (call_with x ts)

unfoldable pub eventually : ℕ → (List NameUse → Parser (Found Expr)) → List NameUse → Parser (Found Expr)
eventually room expr es = do
  symbol k.Eventually
  t ← bracketed room k.LeftParen k.RightParen (expr es)
  m ← method_call room expr t.1
  pure (send_of t.0 m)

unfoldable pub amount : ℕ → (List NameUse → Parser (Found Expr)) → List NameUse → Parser (Found Expr)
amount room expr es = symbol k.AmountMath >> (method_call room expr es >>= λ m. pure (amount_of m))

abbrev pub array : ℕ → (List NameUse → Parser (Found Expr)) → List NameUse → Parser (Found Expr)
array room expr es = bracketed room k.LeftBracket k.RightBracket (listed k.RightBracket expr es) >>= λ ts. pure (array_of ts)

abbrev pub record_text : ℕ → (List NameUse → Parser (Found Expr)) → List NameUse → Parser (Found Expr)
record_text room expr es = bracketed room k.LeftBrace k.RightBrace (listed k.RightBrace (field expr) (also es name_use.Opens)) >>= λ fs. pure (record_of fs)

unfoldable pub bare : ℕ → (List NameUse → Parser (Found Expr)) → List NameUse → Parser (Found Expr)
bare room expr es =
    either literals (one literals literal_of wide >>= λ c. pure (literal_expr es c))
    (either (k.Eventually ∷ []) (eventually room expr es)
    (either (k.AmountMath ∷ []) (amount room expr es)
    (either (k.LeftParen ∷ []) (bracketed room k.LeftParen k.RightParen (expr es)) (array room expr es))))

unfoldable pub prim : ℕ → (List NameUse → Parser (Found Expr)) → List NameUse → Parser (Found Expr)
prim room expr es = either free_words (named room expr es) (either bare_begins (bare room expr es) (record_text room expr es))

abbrev pub dot_access : ℕ → (List NameUse → Parser (Found Expr)) → List NameUse → Parser (Found Access)
dot_access room expr es = symbol k.Dot >> (name >>= λ x. either (k.LeftParen ∷ []) (args room expr es >>= λ ts. pure (method_of x ts)) (pure (field_access es x)))

unfoldable pub post_access : ℕ → (List NameUse → Parser (Found Expr)) → List NameUse → Parser (Found Access)
post_access room expr es = either (k.Dot ∷ []) (dot_access room expr es) (bracketed room k.LeftBracket k.RightBracket (expr es) >>= λ t. pure (index_of t))

abbrev pub access_on : ℕ → (List NameUse → Parser (Found Expr)) → Accessed → Parser Accessed
access_on room expr s = post_access room expr s.1 >>= λ x. pure (access_more s x)

abbrev pub accesses_from : ℕ → (List NameUse → Parser (Found Expr)) → Accessed → Parser Accessed
accesses_from room expr s = loop always access_begins (access_on room expr) s

unfoldable pub post_tail : ℕ → (List NameUse → Parser (Found Expr)) → Found Expr → Parser (Found Expr)
post_tail room expr t = accesses_from room expr (unaccessed t) >>= λ s. pure (accessed s)

abbrev pub signed : ℕ → (List NameUse → Parser (Found Expr)) → List NameUse → Parser (Found Expr)
signed room expr es = one signs sign_of free >>= λ o. (prim room expr es >>= λ t. (post_tail room expr t >>= λ u. pure (unary_of o u)))

unfoldable pub unary : ℕ → (List NameUse → Parser (Found Expr)) → (List NameUse → Parser (Found Expr)) → List NameUse → Parser (Found Expr)
unary room expr first es = either signs (signed room expr es) (first es >>= post_tail room expr)

unfoldable pub op_step : Level → (List NameUse → Parser (Found Expr)) → Chained × Bool → Parser (Chained × Bool)
op_step v other s = one v.0 operator_of free >>= λ o. (other s.0.1 >>= λ u. pure (chain_more s.0 o u, v.1))

abbrev pub ops : Level → (List NameUse → Parser (Found Expr)) → Chained → Parser Chained
ops v other s = loop ongoing v.0 (op_step v other) (s, true) >>= λ z. pure z.0

unfoldable pub tails : List Level → (List NameUse → Parser (Found Expr)) → Found Expr → Parser (Found Expr)
tails [] other t = pure t
tails (v ∷ vs) other t = tails vs other t >>= λ u. (ops v (λ es. (other es >>= tails vs other)) (unchained u) >>= λ s. pure (chained s))

unfoldable pub branches : (List NameUse → Parser (Found Expr)) → List NameUse → Parser (Found (Expr × Expr))
branches other es = do
  u ← other es
  symbol k.Colon
  v ← other u.1
  pure ((u.0, v.0), v.1)

abbrev pub chosen : (List NameUse → Parser (Found Expr)) → Found Expr → Parser (Found Expr)
chosen other t = symbol k.Question >> (branches other t.1 >>= λ c. pure (choice_of t.0 c))

unfoldable pub choice : (List NameUse → Parser (Found Expr)) → Found Expr → Parser (Found Expr)
choice other t = either (k.Question ∷ []) (chosen other t) (pure t)

unfoldable pub after : ℕ → (List NameUse → Parser (Found Expr)) → Found Expr → Parser (Found Expr)
after room expr t = let other = unary room expr (prim room expr) in tails table other t >>= choice (λ es. (other es >>= tails table other))

unfoldable pub full : ℕ → (List NameUse → Parser (Found Expr)) → List NameUse → Parser (Found Expr)
full room expr es = unary room expr (prim room expr) es >>= after room expr

-- where no bracket can be open nothing is read
abbrev pub refuse_all : {A : Type 0} → List NameUse → Parser A
refuse_all es = refuse

unfoldable pub expr : ℕ → List NameUse → Parser (Found Expr)
expr zero = full 0 refuse_all
expr (suc n) = full (suc n) (expr n)

-- an expression inside one more bracket
unfoldable pub inner : ℕ → List NameUse → Parser (Found Expr)
inner zero = refuse_all
inner (suc n) = expr n

-- ---- statements

unfoldable pub initializer : (List NameUse → Parser (Found Expr)) → List NameUse → Parser (Found Expr)
initializer expr es = do
  symbol k.Equals
  t ← expr es
  symbol k.Semicolon
  pure t

unfoldable pub declaration : (List NameUse → Parser (Found Expr)) → List NameUse → Parser (Found Stmt)
declaration expr es = do
  b ← one (k.Const ∷ k.Let ∷ []) binding_of free
  x ← name
  t ← initializer expr (also es (name_use.Declares x.0 x.1))
  pure (declaration_of b x t)

abbrev pub named_run : ℕ → (List NameUse → Parser (Found Expr)) → List NameUse → Named → Parser (Found Stmt)
named_run room inner es x = ((call_tail room inner es x >>= post_tail room inner) >>= after room inner) >>= λ t. (symbol k.Semicolon >> pure (run_of t))

abbrev pub assigned : ℕ → (List NameUse → Parser (Found Expr)) → List NameUse → Named → Parser (Found Stmt)
assigned room inner es x = initializer (full room inner) (also es (name_use.Assigns x.0 x.1)) >>= λ t. pure (assign_of x t)

unfoldable pub led : ℕ → (List NameUse → Parser (Found Expr)) → List Kind → List NameUse → Parser (Found Stmt)
led room inner names es = do
  x ← one names spotted long
  either (k.Equals ∷ []) (assigned room inner es x) (named_run room inner es x)

unfoldable pub bare_run : ℕ → (List NameUse → Parser (Found Expr)) → List NameUse → Parser (Found Stmt)
bare_run room inner es = (unary room inner (bare room inner) es >>= after room inner) >>= λ t. (symbol k.Semicolon >> pure (run_of t))

unfoldable pub arm : ℕ → (List NameUse → Parser (Found Expr)) → (List NameUse → Parser (Found (List Stmt))) → List NameUse → Parser (Found Branch)
arm room inner block es = bracketed room k.LeftParen k.RightParen (inner es) >>= λ t. (block t.1 >>= λ b. pure (branch_of t.0 b))

unfoldable pub looping : ℕ → (List NameUse → Parser (Found Expr)) → (List NameUse → Parser (Found (List Stmt))) → List NameUse → Parser (Found Stmt)
looping room inner block es = symbol k.While >> (arm room inner block es >>= λ a. pure (while_of a))

unfoldable pub giving : (List NameUse → Parser (Found Expr)) → List NameUse → Parser (Found Stmt)
giving expr es = symbol k.Return >> (either (k.Semicolon ∷ []) (symbol k.Semicolon >> pure (return_nothing es)) (expr es >>= λ t. (symbol k.Semicolon >> pure (return_of t))))

unfoldable pub throwing : (List NameUse → Parser (Found Expr)) → List NameUse → Parser (Found Stmt)
throwing expr es = symbol k.Throw >> (expr es >>= λ t. (symbol k.Semicolon >> pure (throw_of t)))

unfoldable pub each : (List NameUse → Parser (Found Expr)) → List NameUse → Parser (Found Header)
each inner es = do
  symbol k.Const
  x ← name
  symbol k.Of
  t ← inner (also (also es name_use.Opens) (name_use.Declares x.0 x.1))
  pure (header_of x t)

unfoldable pub walking : ℕ → (List NameUse → Parser (Found Expr)) → (List NameUse → Parser (Found (List Stmt))) → List NameUse → Parser (Found Stmt)
walking room inner block es = do
  symbol k.For
  h ← bracketed room k.LeftParen k.RightParen (each inner es)
  b ← block h.1
  pure (for_of h.0 b)

unfoldable pub catching : ℕ → (List NameUse → Parser (Found (List Stmt))) → List NameUse → Parser (Found Handler)
catching room block es = do
  symbol k.Catch
  x ← bracketed room k.LeftParen k.RightParen name
  h ← block (caught es x)
  pure (handler_of x h)

unfoldable pub trying : ℕ → (List NameUse → Parser (Found (List Stmt))) → List NameUse → Parser (Found Stmt)
trying room block es = do
  symbol k.Try
  b ← block es
  h ← catching room block b.1
  pure (try_of b.0 h)

unfoldable pub nameless : ℕ → (List NameUse → Parser (Found Expr)) → (List NameUse → Parser (Found (List Stmt))) → List NameUse → Parser (Found Stmt)
nameless room inner block es =
    either (k.Const ∷ k.Let ∷ []) (declaration (full room inner) es)
    (either (k.While ∷ []) (looping room inner block es)
    (either (k.For ∷ []) (walking room inner block es)
    (either (k.Return ∷ []) (giving (full room inner) es)
    (either (k.Throw ∷ []) (throwing (full room inner) es)
    (either (k.Try ∷ []) (trying room block es)
    (bare_run room inner es))))))

unfoldable pub simple : ℕ → (List NameUse → Parser (Found Expr)) → (List NameUse → Parser (Found (List Stmt))) → List Kind → List NameUse → Parser (Found Stmt)
simple room inner block names es = either names (led room inner names es) (nameless room inner block es)

unfoldable pub begun : ℕ → (List NameUse → Parser (Found Expr)) → (List NameUse → Parser (Found (List Stmt))) → List Kind → Found (List Stmt) → Parser Turned
begun room inner block names found =
    either (k.If ∷ []) (symbol k.If >> (arm room inner block found.1 >>= λ a. pure (armed found.0 a))) (simple room inner block names found.1 >>= λ t. pure (ran found.0 t))

unfoldable pub going_on : ℕ → (List NameUse → Parser (Found Expr)) → (List NameUse → Parser (Found (List Stmt))) → List Stmt → Found (List Branch) → Parser Turned
going_on room inner block found arms =
    symbol k.Else >> (either (k.If ∷ []) (symbol k.If >> (arm room inner block arms.1 >>= λ a. pure (armed_more found arms.0 a))) (block arms.1 >>= λ b. pure (ended found arms.0 b)))

unfoldable pub turn : ℕ → (List NameUse → Parser (Found Expr)) → (List NameUse → Parser (Found (List Stmt))) → List Stmt → List Branch → List NameUse → Parser Turned
turn room inner block found [] es = begun room inner block leading_words (found, es)
turn room inner block found (a ∷ arms) es =
    either (k.Else ∷ []) (going_on room inner block found (a ∷ arms, es)) (begun room inner block words_after_if (shut (found, (a ∷ arms, es))))

abbrev pub turn_from : ℕ → (List NameUse → Parser (Found Expr)) → (List NameUse → Parser (Found (List Stmt))) → Turned → Parser Turned
turn_from room inner block s = turn room inner block s.0 s.1.0 s.1.1

unfoldable pub statements : ℕ → (List NameUse → Parser (Found Expr)) → (List NameUse → Parser (Found (List Stmt))) → List NameUse → Parser (Found (List Stmt))
statements room inner block es = loop always statement_begins (turn_from room inner block) ([], ([], es)) >>= λ s. pure (shut s)

unfoldable pub braced : ℕ → (List NameUse → Parser (Found (List Stmt))) → List NameUse → Parser (Found (List Stmt))
braced room inner es = bracketed room k.LeftBrace k.RightBrace (inner (also es name_use.Opens)) >>= λ ss. pure (block_of ss)

unfoldable pub body : ℕ → List NameUse → Parser (Found (List Stmt))
body zero = statements 0 refuse_all (braced 0 refuse_all)
body (suc n) = statements (suc n) (expr n) (braced (suc n) (body n))

-- a body inside one more bracket
unfoldable pub inner_body : ℕ → List NameUse → Parser (Found (List Stmt))
inner_body zero = refuse_all
inner_body (suc n) = body n

unfoldable pub block : ℕ → List NameUse → Parser (Found (List Stmt))
block room es = braced room (inner_body room) es

-- ---- modules

unfoldable pub constant_field : (List NameUse → Parser (Found Constant)) → List NameUse → Parser (Found (List ℕ × Constant))
constant_field inner es = do
  x ← name
  symbol k.Colon
  t ← inner (also es (name_use.Field x.0 x.1))
  pure (constant_field_of x t)

abbrev pub constant_array : ℕ → (List NameUse → Parser (Found Constant)) → List NameUse → Parser (Found Constant)
constant_array room inner es = bracketed room k.LeftBracket k.RightBracket (listed k.RightBracket inner es) >>= λ ts. pure (constant_array_of ts)

abbrev pub constant_record : ℕ → (List NameUse → Parser (Found Constant)) → List NameUse → Parser (Found Constant)
constant_record room inner es = bracketed room k.LeftBrace k.RightBrace (listed k.RightBrace (constant_field inner) (also es name_use.Opens)) >>= λ fs. pure (constant_record_of fs)

unfoldable pub constant_in : ℕ → (List NameUse → Parser (Found Constant)) → List NameUse → Parser (Found Constant)
constant_in room inner es =
    either literals (one literals literal_of wide >>= λ c. pure (literal_constant es c))
    (either (k.Minus ∷ []) (symbol k.Minus >> (one (k.Number ∷ []) negative_of wide >>= λ c. pure (literal_constant es c)))
    (either (k.LeftBracket ∷ []) (constant_array room inner es) (constant_record room inner es)))

unfoldable pub constant : ℕ → List NameUse → Parser (Found Constant)
constant zero = constant_in 0 refuse_all
constant (suc n) = constant_in (suc n) (constant n)

-- a constant inside one more bracket
unfoldable pub inner_constant : ℕ → List NameUse → Parser (Found Constant)
inner_constant zero = refuse_all
inner_constant (suc n) = constant n

unfoldable pub param : ℕ → List NameUse → Parser (Found (List ℕ))
param i es = one words spotted (declared (nat_lt i most_params)) >>= λ x. pure (param_of es x)

unfoldable pub next_param : Found (List (List ℕ)) → Parser (Found (List (List ℕ)))
next_param found = symbol k.Comma >> (param (length found.0) found.1 >>= λ x. pure (more found.0 x))

unfoldable pub params : List NameUse → Parser (Found (List (List ℕ)))
params es = either words (param 0 es >>= λ x. loop always (k.Comma ∷ []) next_param (more [] x)) (pure ([], es))

unfoldable pub exported : Parser (Unit {0})
exported = either (k.Export ∷ []) (symbol k.Export) (pure tt)

unfoldable pub heading : ℕ → Parser Named
heading count = do
  exported
  symbol k.Const
  x ← one words spotted (declared (nat_lt count most_functions))
  symbol k.Equals
  pure x

unfoldable pub ending_block : (List NameUse → Parser (Found (List Stmt))) → List NameUse → Parser (Found (List Stmt))
ending_block block es = do
  symbol k.Arrow
  b ← block es
  symbol k.Semicolon
  pure b

unfoldable pub function : ℕ → Found Module → Parser (Found Module)
function room s = do
  x ← heading (length s.0.functions)
  xs ← bracketed room k.LeftParen k.RightParen (params (also (defined binding.Function s.1 x) name_use.Opens))
  b ← ending_block (block room) xs.1
  pure (add_function s.0 (function_of x.1 xs.0 b))

unfoldable pub constant_value : (List NameUse → Parser (Found Constant)) → List NameUse → Parser (Found Constant)
constant_value inner es = do
  symbol k.Equals
  t ← inner es
  symbol k.Semicolon
  pure t

unfoldable pub variable : ℕ → Found Module → Parser (Found Module)
variable room s = do
  symbol k.Let
  x ← one words spotted (declared (nat_lt (length s.0.variables) most_variables))
  t ← constant_value (constant room) (defined binding.Variable s.1 x)
  pure (add_variable s.0 (variable_of x.1 t))

unfoldable pub item : ℕ → Found Module → Parser (Found Module)
item room s = either (k.Let ∷ []) (variable room s) (function room s)

unfoldable pub front_text : ℕ → Parser (Found Module)
front_text room = loop always item_begins (item room) no_items

-- a contract text, where so many brackets may be open
unfoldable pub text : ℕ → Parser (Found Module)
text room = whole (front_text room)
