-- Syntax as definitions go down it: each form with its parts, and nothing of where they lie in memory.
use Rattle.std.specs.Prelude.{ℕ, List, [], ◌∷◌, map, Option, Some, None}
use Rattle.jessie_grammar.specs.declared.syntax.Literal.{Literal}
use Rattle.jessie_grammar.specs.declared.syntax.Constant.{Constant}
use Rattle.jessie_grammar.specs.declared.syntax.Constant.TheFolds.{fold-Constant}
use Rattle.jessie_grammar.specs.declared.syntax.Constant.TheOpen.{Constant-F}
use Rattle.jessie_grammar.specs.declared.syntax.BuiltIn.{BuiltIn}
use Rattle.jessie_grammar.specs.declared.syntax.Unary.{Unary}
use Rattle.jessie_grammar.specs.declared.syntax.Operator.{Operator}
use Rattle.jessie_grammar.specs.declared.syntax.Expr.{Expr}
use Rattle.jessie_grammar.specs.declared.syntax.Access.TheFolds.{fold-Expr, fold-Access}
use Rattle.jessie_grammar.specs.declared.syntax.Access.TheOpen.{Expr-F, Access-F}
use Rattle.jessie_grammar.specs.declared.syntax.Access.{Access}
use Rattle.jessie_grammar.specs.declared.syntax.Stmt.{Stmt}
use Rattle.jessie_grammar.specs.declared.syntax.Stmt.TheFolds.{fold-Stmt, fold-Branch}
use Rattle.jessie_grammar.specs.declared.syntax.Stmt.TheOpen.{Stmt-F, Branch-F}
use Rattle.jessie_grammar.specs.declared.syntax.Branch.{Branch}
use Rattle.jessie_grammar.specs.declared.syntax.Function.{Function}
use Rattle.jessie_grammar.specs.declared.syntax.Module.{Module}

-- ---- constants

mutual
  pub data Fixed : Type 0 where
    plain : Literal → Fixed
    row : Fixeds → Fixed
    fixed_record : NamedFixeds → Fixed

  pub data Fixeds : Type 0 where
    no_fixeds : Fixeds
    fixed : Fixed → Fixeds → Fixeds

  pub data NamedFixeds : Type 0 where
    no_named_fixeds : NamedFixeds
    named_fixed : List ℕ → Fixed → NamedFixeds → NamedFixeds

-- ---- expressions

-- a literal; a name; a call of a function of the module, of one of the language, of one of AmountMath; a
-- send; an array; a record; a term with the steps behind it; an operator before a term; a chain of
-- operators of one level; a choice of two
mutual
  pub data Term : Type 0 where
    literal : Literal → Term
    name : List ℕ → Term
    call : List ℕ → Terms → Term
    built_in : BuiltIn → Terms → Term
    amount_math : List ℕ → Terms → Term
    send : Term → List ℕ → Terms → Term
    listing : Terms → Term
    composed : NamedTerms → Term
    linked : Term → Links → Term
    unary : Unary → Term → Term
    chain : Term → Operands → Term
    choice : Term → Term → Term → Term

  pub data Terms : Type 0 where
    no_terms : Terms
    term : Term → Terms → Terms

  pub data NamedTerms : Type 0 where
    no_named : NamedTerms
    named_term : List ℕ → Term → NamedTerms → NamedTerms

  pub data Operands : Type 0 where
    no_operands : Operands
    operand : Operator → Term → Operands → Operands

  pub data Link : Type 0 where
    at_field : List ℕ → Link
    method : List ℕ → Terms → Link
    at_index : Term → Link

  pub data Links : Type 0 where
    no_links : Links
    link : Link → Links → Links

-- ---- statements

mutual
  pub data Statement : Type 0 where
    declare_const : List ℕ → Term → Statement
    declare_let : List ℕ → Term → Statement
    assign : List ℕ → Term → Statement
    choose : Branches → Block → Statement
    repeat : Term → Block → Statement
    each : List ℕ → Term → Block → Statement
    give : Term → Statement
    give_nothing : Statement
    raise : Term → Statement
    attempt : Block → List ℕ → Block → Statement
    run : Term → Statement

  pub data Branches : Type 0 where
    no_branches : Branches
    branch : Term → Block → Branches → Branches

  pub data Block : Type 0 where
    done : Block
    step : Statement → Block → Block

-- a function
pub record Routine : Type 0 where
  pub name : List ℕ
  pub params : List (List ℕ)
  pub body : Block

-- a branch with its parts as they are seen
pub record Way : Type 0 where
  pub condition : Term
  pub body : Block

abbrev pub fixeds_of : List Fixed → Fixeds
fixeds_of [] = no_fixeds
fixeds_of (c ∷ cs) = fixed c (fixeds_of cs)

abbrev pub named_fixeds_of : List (List ℕ × Fixed) → NamedFixeds
named_fixeds_of [] = no_named_fixeds
named_fixeds_of (c ∷ cs) = named_fixed c.0 c.1 (named_fixeds_of cs)

abbrev pub terms_of : List Term → Terms
terms_of [] = no_terms
terms_of (t ∷ ts) = term t (terms_of ts)

abbrev pub named_terms_of : List (List ℕ × Term) → NamedTerms
named_terms_of [] = no_named
named_terms_of (t ∷ ts) = named_term t.0 t.1 (named_terms_of ts)

abbrev pub operands_of : List (Operator × Term) → Operands
operands_of [] = no_operands
operands_of (t ∷ ts) = operand t.0 t.1 (operands_of ts)

abbrev pub links_of : List Link → Links
links_of [] = no_links
links_of (k ∷ ks) = link k (links_of ks)

abbrev pub branches_of : List Way → Branches
branches_of [] = no_branches
branches_of (w ∷ ws) = branch w.condition w.body (branches_of ws)

abbrev pub block_of : List Statement → Block
block_of [] = done
block_of (s ∷ ss) = step s (block_of ss)

-- ---- what the code's trees stand for

abbrev pub fixed_step : Constant-F Fixed → Fixed
fixed_step (Constant-F.Literal l) = plain l
fixed_step (Constant-F.Array cs) = row (fixeds_of cs)
fixed_step (Constant-F.Record cs) = fixed_record (named_fixeds_of cs)

abbrev pub fixed_view : Constant → Fixed
fixed_view = fold-Constant Fixed fixed_step

abbrev pub fixeds_view : List Constant → Fixeds
fixeds_view cs = fixeds_of (map fixed_view cs)

abbrev pub named_fixeds_view : List (List ℕ × Constant) → NamedFixeds
named_fixeds_view cs = named_fixeds_of (map (λ c. (c.0, fixed_view c.1)) cs)

abbrev pub term_step : Expr-F Link Term → Term
term_step (Expr-F.Literal c) = literal c
term_step (Expr-F.Name x) = name x
term_step (Expr-F.Call f ts) = call f (terms_of ts)
term_step (Expr-F.BuiltIn b ts) = built_in b (terms_of ts)
term_step (Expr-F.AmountMath x ts) = amount_math x (terms_of ts)
term_step (Expr-F.Send t x ts) = send t x (terms_of ts)
term_step (Expr-F.Array ts) = listing (terms_of ts)
term_step (Expr-F.Record fs) = composed (named_terms_of fs)
term_step (Expr-F.Accesses t ks) = linked t (links_of ks)
term_step (Expr-F.Unary u t) = unary u t
term_step (Expr-F.Chain t ts) = chain t (operands_of ts)
term_step (Expr-F.Choice c a b) = choice c a b

abbrev pub link_step : Access-F Link Term → Link
link_step (Access-F.Field x) = at_field x
link_step (Access-F.Method x ts) = method x (terms_of ts)
link_step (Access-F.Index t) = at_index t

abbrev pub term_view : Expr → Term
term_view = fold-Expr Link Term link_step term_step

abbrev pub link_view : Access → Link
link_view = fold-Access Link Term link_step term_step

abbrev pub terms_view : List Expr → Terms
terms_view es = terms_of (map term_view es)

abbrev pub named_terms_view : List (List ℕ × Expr) → NamedTerms
named_terms_view fs = named_terms_of (map (λ f. (f.0, term_view f.1)) fs)

abbrev pub operands_view : List (Operator × Expr) → Operands
operands_view es = operands_of (map (λ e. (e.0, term_view e.1)) es)

abbrev pub links_view : List Access → Links
links_view ks = links_of (map link_view ks)

abbrev pub return_view : Option Expr → Statement
return_view (Some e) = give (term_view e)
return_view None = give_nothing

abbrev pub statement_step : Stmt-F Statement Way → Statement
statement_step (Stmt-F.Const x e) = declare_const x (term_view e)
statement_step (Stmt-F.Let x e) = declare_let x (term_view e)
statement_step (Stmt-F.Assign x e) = assign x (term_view e)
statement_step (Stmt-F.If ws a) = choose (branches_of ws) (block_of a)
statement_step (Stmt-F.While e a) = repeat (term_view e) (block_of a)
statement_step (Stmt-F.ForOf x e a) = each x (term_view e) (block_of a)
statement_step (Stmt-F.Return e) = return_view e
statement_step (Stmt-F.Throw e) = raise (term_view e)
statement_step (Stmt-F.Try a x b) = attempt (block_of a) x (block_of b)
statement_step (Stmt-F.Run e) = run (term_view e)

abbrev pub way_step : Branch-F Statement Way → Way
way_step b = record { condition = term_view b.condition; body = block_of b.body }

abbrev pub statement_view : Stmt → Statement
statement_view = fold-Stmt Statement Way statement_step way_step

abbrev pub way_view : Branch → Way
way_view = fold-Branch Statement Way statement_step way_step

abbrev pub block_view : List Stmt → Block
block_view ss = block_of (map statement_view ss)

abbrev pub branches_view : List Branch → Branches
branches_view bs = branches_of (map way_view bs)

abbrev pub routine : Function → Routine
routine f = record { name = f.name; params = f.params; body = block_view f.body }

abbrev pub routines : Module → List Routine
routines m = map routine m.functions

-- the state variables, each with what it holds at first
abbrev pub variables_view : Module → List (List ℕ × Fixed)
variables_view m = map (λ v. (v.name, fixed_view v.initial)) m.variables

abbrev pub variable_names : Module → List (List ℕ)
variable_names m = map (λ v. v.name) m.variables
