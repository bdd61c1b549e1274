-- The names that a text gives to the fields of the records that it writes are names.
use Rattle.std.proofs.Common.{ℕ, zero, suc, Bool, true, false, List, [], ◌∷◌, ◌++◌, Option, None, Some, sym, subst}
use Rattle.std.specs.List.{AllByRecursion}
use Rattle.rules.specs.jessie_grammar.Grammar.{after, amount, args, arm, array, assigning, bare, body, braced, branches, call_tail, catching, choice, declaration, dot_access, each, eventually, expr, field, full, giving, initializer, looping, method_call, name, named, op_step, ops, own_value, post_access, post_tail, prim, record_text, running, signed, simple, statements, access_on, accesses_from, tails, throwing, trying, unary, walking}
use Rattle.rules.specs.jessie_grammar.Lang.{◌>>=◌, ◌or◌, one}
use Rattle.rules.specs.jessie_grammar.Refused.{Lang}
use Rattle.rules.specs.jessie_grammar.StatementList.{else_if, in_order, last, next, whole_if}
use Rattle.rules.specs.jessie_grammar.Words.{Call, Chained, Found, Handler, Header, Level, Named, Accessed, always, called, closing, declaring, free_words, inside, literal_of, literals, long, ongoing, spotted, table, wide, with_operands, with_accesses}
use Rattle.rules.specs.jessie_grammar.declared.jessie_lexer.token.Kind.{Kind}
use Rattle.rules.specs.jessie_grammar.declared.jessie_lexer.token.Kind.TheVariants as k
use Rattle.rules.specs.jessie_grammar.declared.jessie_scopes.name_use.Binding.{Binding}
use Rattle.rules.specs.jessie_grammar.declared.jessie_scopes.name_use.Binding.TheVariants as binding
use Rattle.rules.specs.jessie_grammar.declared.jessie_scopes.name_use.NameUse.{NameUse}
use Rattle.rules.specs.jessie_semantics.Naming.{BlockWrites, BranchesWrite, IsFieldName, LinkWrites, LinksWrite, NamedTermsWrite, OperandsWrite, StatementWrites, TermWrites, TermsWrite}
use Rattle.rules.proofs.jessie_grammar.Views.{link-Field, link-Index, link-Method, statement-Assign, statement-Const, statement-ForOf, statement-If, statement-Let, statement-Return, statement-Run, statement-Throw, statement-Try, statement-While, term-AmountMath, term-Array, term-BuiltIn, term-Call, term-Chain, term-Choice, term-Literal, term-Name, term-Record, term-Send, term-Accesses, term-Unary, way-of}
use Rattle.rules.specs.jessie_grammar.Syntax.{Way, block_view, branch, branches_view, link_view, links_view, named_terms_view, operands_view, statement_view, term_view, terms_view}
use Rattle.rules.specs.jessie_grammar.declared.syntax.Branch.{Branch}
use Rattle.rules.specs.jessie_grammar.declared.syntax.BuiltIn.{BuiltIn}
use Rattle.rules.specs.jessie_grammar.declared.syntax.Expr.{Expr}
use Rattle.rules.specs.jessie_grammar.declared.syntax.Expr as E
use Rattle.rules.specs.jessie_grammar.declared.syntax.Literal.{Literal}
use Rattle.rules.specs.jessie_grammar.declared.syntax.Operator.{Operator}
use Rattle.rules.specs.jessie_grammar.declared.syntax.Access.{Access}
use Rattle.rules.specs.jessie_grammar.declared.syntax.Access as P
use Rattle.rules.specs.jessie_grammar.declared.syntax.Stmt.{Stmt}
use Rattle.rules.specs.jessie_grammar.declared.syntax.Stmt as S
use Rattle.rules.specs.jessie_grammar.declared.syntax.Unary.{Unary}
use Rattle.contract_texts.proofs.Langs.{Any, Gives, after_gives, anything, bracketed_gives, iterate_gives, or_gives, pure_gives, then_gives}
use Rattle.contract_texts.proofs.Lists.{Holds, IsSpotted, listed_gives, name_gives, push}

-- ---- what is found writes names alone

abbrev pub IsExpr : Expr → Type 0
IsExpr e = TermWrites IsFieldName (term_view e)

abbrev pub IsAccess : Access → Type 0
IsAccess x = LinkWrites IsFieldName (link_view x)

abbrev pub IsStmt : Stmt → Type 0
IsStmt x = StatementWrites IsFieldName (statement_view x)

abbrev AreExprs : List Expr → Type 0
AreExprs es = AllByRecursion IsExpr es

abbrev pub AreStmts : List Stmt → Type 0
AreStmts ss = AllByRecursion IsStmt ss

abbrev IsPair : List ℕ × Expr → Type 0
IsPair f = IsFieldName f.0 × IsExpr f.1

abbrev IsOperand : Operator × Expr → Type 0
IsOperand o = IsExpr o.1

abbrev IsBranch : Branch → Type 0
IsBranch b = IsExpr b.condition × AreStmts b.body

terms_write : (es : List Expr) → AreExprs es → TermsWrite IsFieldName (terms_view es)
terms_write [] h = tt
terms_write (e ∷ es) h = (h.0, terms_write es h.1)

named_write : (fs : List (List ℕ × Expr)) → AllByRecursion IsPair fs → NamedTermsWrite IsFieldName (named_terms_view fs)
named_write [] h = tt
named_write (f ∷ fs) h = (h.0.0, h.0.1, named_write fs h.1)

operands_write : (os : List (Operator × Expr)) → AllByRecursion IsOperand os → OperandsWrite IsFieldName (operands_view os)
operands_write [] h = tt
operands_write (o ∷ os) h = (h.0, operands_write os h.1)

links_write : (xs : List Access) → AllByRecursion IsAccess xs → LinksWrite IsFieldName (links_view xs)
links_write [] h = tt
links_write (x ∷ xs) h = (h.0, links_write xs h.1)

pub block_writes : (ss : List Stmt) → AreStmts ss → BlockWrites IsFieldName (block_view ss)
block_writes [] h = tt
block_writes (s ∷ ss) h = (h.0, block_writes ss h.1)

branches_write : (bs : List Branch) → AllByRecursion IsBranch bs → BranchesWrite IsFieldName (branches_view bs)
branches_write [] h = tt
branches_write (b ∷ bs) h =
    let Q : Way → Type 0 = λ w. BranchesWrite IsFieldName (branch w.condition w.body (branches_view bs)) in
    subst Q (sym (way-of b)) (h.0.0, block_writes b.body h.0.1, branches_write bs h.1)

-- ---- expressions of their parts

literal_is : (c : Literal) → IsExpr (E.Literal c)
literal_is c = subst (TermWrites IsFieldName) (sym (term-Literal c)) tt

name_is : (x : List ℕ) → IsExpr (E.Name x)
name_is x = subst (TermWrites IsFieldName) (sym (term-Name x)) tt

called_is : (b : Option BuiltIn) (x : List ℕ) (es : List Expr) → AreExprs es → IsExpr (called b x es)
called_is None x es h = subst (TermWrites IsFieldName) (sym (term-Call x es)) (terms_write es h)
called_is (Some b) x es h = subst (TermWrites IsFieldName) (sym (term-BuiltIn b es)) (terms_write es h)

amount_is : (x : List ℕ) (es : List Expr) → AreExprs es → IsExpr (E.AmountMath x es)
amount_is x es h = subst (TermWrites IsFieldName) (sym (term-AmountMath x es)) (terms_write es h)

send_is : (e : Expr) (x : List ℕ) (es : List Expr) → IsExpr e → AreExprs es → IsExpr (E.Send e x es)
send_is e x es h i = subst (TermWrites IsFieldName) (sym (term-Send e x es)) (h, terms_write es i)

array_is : (es : List Expr) → AreExprs es → IsExpr (E.Array es)
array_is es h = subst (TermWrites IsFieldName) (sym (term-Array es)) (terms_write es h)

record_is : (fs : List (List ℕ × Expr)) → AllByRecursion IsPair fs → IsExpr (E.Record fs)
record_is fs h = subst (TermWrites IsFieldName) (sym (term-Record fs)) (named_write fs h)

accesses_are : (e : Expr) (xs : List Access) → IsExpr e → AllByRecursion IsAccess xs → IsExpr (with_accesses e xs)
accesses_are e [] h i = h
accesses_are e (x ∷ xs) h i = subst (TermWrites IsFieldName) (sym (term-Accesses e (x ∷ xs))) (h, links_write (x ∷ xs) i)

unary_is : (u : Unary) (e : Expr) → IsExpr e → IsExpr (E.Unary u e)
unary_is u e h = subst (TermWrites IsFieldName) (sym (term-Unary u e)) h

operands_are : (e : Expr) (os : List (Operator × Expr)) → IsExpr e → AllByRecursion IsOperand os → IsExpr (with_operands e os)
operands_are e [] h i = h
operands_are e (o ∷ os) h i = subst (TermWrites IsFieldName) (sym (term-Chain e (o ∷ os))) (h, operands_write (o ∷ os) i)

choice_is : (c a b : Expr) → IsExpr c → IsExpr a → IsExpr b → IsExpr (E.Choice c a b)
choice_is c a b h i j = subst (TermWrites IsFieldName) (sym (term-Choice c a b)) (h, i, j)

field_access_is : (x : List ℕ) → IsAccess (P.Field x)
field_access_is x = subst (LinkWrites IsFieldName) (sym (link-Field x)) tt

method_access_is : (x : List ℕ) (es : List Expr) → AreExprs es → IsAccess (P.Method x es)
method_access_is x es h = subst (LinkWrites IsFieldName) (sym (link-Method x es)) (terms_write es h)

index_access_is : (e : Expr) → IsExpr e → IsAccess (P.Index e)
index_access_is e h = subst (LinkWrites IsFieldName) (sym (link-Index e)) h

-- ---- statements of their parts

const_is : (x : List ℕ) (e : Expr) → IsExpr e → IsStmt (S.Const x e)
const_is x e h = subst (StatementWrites IsFieldName) (sym (statement-Const x e)) h

declaring_is : (b : Binding) (x : List ℕ) (e : Expr) → IsExpr e → IsStmt (declaring b x e)
declaring_is binding.Variable x e h = subst (StatementWrites IsFieldName) (sym (statement-Let x e)) h
declaring_is binding.Constant x e h = const_is x e h
declaring_is binding.Function x e h = const_is x e h

assign_is : (x : List ℕ) (e : Expr) → IsExpr e → IsStmt (S.Assign x e)
assign_is x e h = subst (StatementWrites IsFieldName) (sym (statement-Assign x e)) h

if_is : (bs : List Branch) (ss : List Stmt) → AllByRecursion IsBranch bs → AreStmts ss → IsStmt (S.If bs ss)
if_is bs ss h i = subst (StatementWrites IsFieldName) (sym (statement-If bs ss)) (branches_write bs h, block_writes ss i)

closing_are : (bs : List Branch) → AllByRecursion IsBranch bs → AreStmts (closing bs)
closing_are [] h = tt
closing_are (b ∷ bs) h = (if_is (b ∷ bs) [] h tt, tt)

while_is : (e : Expr) (ss : List Stmt) → IsExpr e → AreStmts ss → IsStmt (S.While e ss)
while_is e ss h i = subst (StatementWrites IsFieldName) (sym (statement-While e ss)) (h, block_writes ss i)

for_is : (x : List ℕ) (e : Expr) (ss : List Stmt) → IsExpr e → AreStmts ss → IsStmt (S.ForOf x e ss)
for_is x e ss h i = subst (StatementWrites IsFieldName) (sym (statement-ForOf x e ss)) (h, block_writes ss i)

return_is : (e : Expr) → IsExpr e → IsStmt (S.Return (Some e))
return_is e h = subst (StatementWrites IsFieldName) (sym (statement-Return (Some e))) h

return_nothing_is : IsStmt (S.Return None)
return_nothing_is = subst (StatementWrites IsFieldName) (sym (statement-Return None)) tt

throw_is : (e : Expr) → IsExpr e → IsStmt (S.Throw e)
throw_is e h = subst (StatementWrites IsFieldName) (sym (statement-Throw e)) h

try_is : (ss : List Stmt) (x : List ℕ) (ts : List Stmt) → AreStmts ss → AreStmts ts → IsStmt (S.Try ss x ts)
try_is ss x ts h i = subst (StatementWrites IsFieldName) (sym (statement-Try ss x ts)) (block_writes ss h, block_writes ts i)

run_is : (e : Expr) → IsExpr e → IsStmt (S.Run e)
run_is e h = subst (StatementWrites IsFieldName) (sym (statement-Run e)) h

-- ---- the grammar of expressions

abbrev GivesExprs : (List NameUse → Lang (Found Expr)) → Type 0
GivesExprs l = (es : List NameUse) → Gives (l es) (Holds IsExpr)

abbrev HoldExprs : Found (List Expr) → Type 0
HoldExprs x = AreExprs x.0

abbrev HoldsCall : Found Call → Type 0
HoldsCall m = AreExprs m.0.1

abbrev IsAccessed : Accessed → Type 0
IsAccessed s = IsExpr s.0.0 × AllByRecursion IsAccess s.0.1

abbrev IsChained : Chained → Type 0
IsChained s = IsExpr s.0.0 × AllByRecursion IsOperand s.0.1

module _ (room : ℕ) (inner : List NameUse → Lang (Found Expr)) (exprs : GivesExprs inner) where
  args_give : (es : List NameUse) → Gives (args room inner es) HoldExprs
  unfolding args
  args_give es = bracketed_gives room k.LeftParen k.RightParen _ HoldExprs (λ has. listed_gives IsExpr inner exprs es)

  own_gives : (es : List NameUse) (x : Named) → IsSpotted x → Gives (own_value inner es x) (Holds IsPair)
  own_gives es x is = after_gives _ _ (Holds IsPair) (then_gives _ _ (Holds IsExpr) (Holds IsPair) (exprs _) (λ t h. pure_gives (Holds IsPair) _ (is, h)))

  field_gives : (es : List NameUse) → Gives (field inner es) (Holds IsPair)
  unfolding field
  field_gives es = then_gives _ _ IsSpotted (Holds IsPair) name_gives (λ x is. or_gives (Holds IsPair) _ _ (own_gives es x is) (pure_gives (Holds IsPair) _ (is, name_is x.1)))

  tail_gives : (es : List NameUse) (x : Named) → Gives (call_tail room inner es x) (Holds IsExpr)
  unfolding call_tail
  tail_gives es x =
      or_gives (Holds IsExpr) _ _ (then_gives _ _ HoldExprs (Holds IsExpr) (args_give _) (λ ts h. pure_gives (Holds IsExpr) _ (called_is _ x.1 ts.0 h)))
      (pure_gives (Holds IsExpr) _ (name_is x.1))

  named_gives : (es : List NameUse) → Gives (named room inner es) (Holds IsExpr)
  unfolding named
  named_gives es = then_gives _ _ Any (Holds IsExpr) (anything (one free_words spotted long)) (λ x h. tail_gives es x)

  method_gives : (es : List NameUse) → Gives (method_call room inner es) HoldsCall
  unfolding method_call
  method_gives es =
      after_gives _ _ HoldsCall (then_gives _ _ Any HoldsCall (anything name) (λ x h. then_gives _ _ HoldExprs HoldsCall (args_give es) (λ ts i. pure_gives HoldsCall _ i)))

  eventually_gives : (es : List NameUse) → Gives (eventually room inner es) (Holds IsExpr)
  unfolding eventually
  eventually_gives es =
      after_gives _ _ (Holds IsExpr) (then_gives _ _ (Holds IsExpr) (Holds IsExpr) (bracketed_gives room k.LeftParen k.RightParen _ (Holds IsExpr) (λ has. exprs es))
      (λ t h. then_gives _ _ HoldsCall (Holds IsExpr) (method_gives t.1) (λ m i. pure_gives (Holds IsExpr) _ (send_is t.0 m.0.0 m.0.1 h i))))

  amount_gives : (es : List NameUse) → Gives (amount room inner es) (Holds IsExpr)
  unfolding amount
  amount_gives es = after_gives _ _ (Holds IsExpr) (then_gives _ _ HoldsCall (Holds IsExpr) (method_gives es) (λ m i. pure_gives (Holds IsExpr) _ (amount_is m.0.0 m.0.1 i)))

  array_gives : (es : List NameUse) → Gives (array room inner es) (Holds IsExpr)
  array_gives es =
      then_gives _ _ HoldExprs (Holds IsExpr) (bracketed_gives room k.LeftBracket k.RightBracket _ HoldExprs (λ has. listed_gives IsExpr inner exprs es)) (λ ts h. pure_gives (Holds IsExpr) _ (array_is ts.0 h))

  record_gives : (es : List NameUse) → Gives (record_text room inner es) (Holds IsExpr)
  record_gives es =
      then_gives _ _ (Holds (AllByRecursion IsPair)) (Holds IsExpr) (bracketed_gives room k.LeftBrace k.RightBrace _ (Holds (AllByRecursion IsPair)) (λ has. listed_gives IsPair (field inner) field_gives _))
      (λ fs h. pure_gives (Holds IsExpr) _ (record_is fs.0 h))

  bare_gives : (es : List NameUse) → Gives (bare room inner es) (Holds IsExpr)
  unfolding bare
  bare_gives es =
      or_gives (Holds IsExpr) _ _ (then_gives _ _ Any (Holds IsExpr) (anything (one literals literal_of wide)) (λ c h. pure_gives (Holds IsExpr) _ (literal_is c)))
      (or_gives (Holds IsExpr) _ _ (eventually_gives es) (or_gives (Holds IsExpr) _ _ (amount_gives es)
      (or_gives (Holds IsExpr) _ _ (bracketed_gives room k.LeftParen k.RightParen _ (Holds IsExpr) (λ has. exprs es)) (array_gives es))))

  prim_gives : (es : List NameUse) → Gives (prim room inner es) (Holds IsExpr)
  unfolding prim
  prim_gives es = or_gives (Holds IsExpr) _ _ (named_gives es) (or_gives (Holds IsExpr) _ _ (bare_gives es) (record_gives es))

  dot_gives : (es : List NameUse) → Gives (dot_access room inner es) (Holds IsAccess)
  dot_gives es =
      after_gives _ _ (Holds IsAccess) (then_gives _ _ Any (Holds IsAccess) (anything name)
      (λ x h. or_gives (Holds IsAccess) _ _ (then_gives _ _ HoldExprs (Holds IsAccess) (args_give es) (λ ts i. pure_gives (Holds IsAccess) _ (method_access_is x.1 ts.0 i))) (pure_gives (Holds IsAccess) _ (field_access_is x.1))))

  access_gives : (es : List NameUse) → Gives (post_access room inner es) (Holds IsAccess)
  unfolding post_access
  access_gives es =
      or_gives (Holds IsAccess) _ _ (dot_gives es)
      (then_gives _ _ (Holds IsExpr) (Holds IsAccess) (bracketed_gives room k.LeftBracket k.RightBracket _ (Holds IsExpr) (λ has. exprs es)) (λ t h. pure_gives (Holds IsAccess) _ (index_access_is t.0 h)))

  accesses_give : (s : Accessed) → IsAccessed s → Gives (accesses_from room inner s) IsAccessed
  accesses_give s is =
      iterate_gives IsAccessed always (access_on room inner) (λ t h. then_gives _ _ (Holds IsAccess) IsAccessed (access_gives t.1) (λ x i. pure_gives IsAccessed _ (h.0, push IsAccess t.0.1 x.0 h.1 i))) s is

  post_gives : (t : Found Expr) → Holds IsExpr t → Gives (post_tail room inner t) (Holds IsExpr)
  unfolding post_tail
  post_gives t is = then_gives _ _ IsAccessed (Holds IsExpr) (accesses_give ((t.0, []), t.1) (is, tt)) (λ s h. pure_gives (Holds IsExpr) _ (accesses_are s.0.0 s.0.1 h.0 h.1))

  signed_gives : (es : List NameUse) → Gives (signed room inner es) (Holds IsExpr)
  signed_gives es =
      then_gives _ _ Any (Holds IsExpr) (anything _) (λ o h. then_gives _ _ (Holds IsExpr) (Holds IsExpr) (prim_gives es)
      (λ t i. then_gives _ _ (Holds IsExpr) (Holds IsExpr) (post_gives t i) (λ u j. pure_gives (Holds IsExpr) _ (unary_is o u.0 j))))

  unary_gives : (first : List NameUse → Lang (Found Expr)) → GivesExprs first → GivesExprs (unary room inner first)
  unfolding unary
  unary_gives first firsts es = or_gives (Holds IsExpr) _ _ (signed_gives es) (then_gives _ _ (Holds IsExpr) (Holds IsExpr) (firsts es) (λ t h. post_gives t h))

-- ---- operators

abbrev IsTurn : Chained × Bool → Type 0
IsTurn z = IsChained z.0

module _ (other : List NameUse → Lang (Found Expr)) (others : GivesExprs other) where
  op_gives : (v : Level) (l : List NameUse → Lang (Found Expr)) → GivesExprs l → (s : Chained × Bool) → IsTurn s → Gives (op_step v l s) IsTurn
  unfolding op_step
  op_gives v l ls s is =
      then_gives _ _ Any IsTurn (anything _) (λ o h. then_gives _ _ (Holds IsExpr) IsTurn (ls _) (λ u i. pure_gives IsTurn _ (is.0, push IsOperand s.0.0.1 (o, u.0) is.1 i)))

  ops_give : (v : Level) (l : List NameUse → Lang (Found Expr)) → GivesExprs l → (s : Chained) → IsChained s → Gives (ops v l s) IsChained
  ops_give v l ls s is = then_gives _ _ IsTurn IsChained (iterate_gives IsTurn ongoing (op_step v l) (λ t h. op_gives v l ls t h) (s, true) is) (λ z h. pure_gives IsChained _ h)

  tails_give : (vs : List Level) (t : Found Expr) → Holds IsExpr t → Gives (tails vs other t) (Holds IsExpr)
  unfolding tails
  tails_give [] t is = pure_gives (Holds IsExpr) t is
  tails_give (v ∷ vs) t is =
      then_gives _ _ (Holds IsExpr) (Holds IsExpr) (tails_give vs t is)
      (λ u h. then_gives _ _ IsChained (Holds IsExpr)
      (ops_give v (λ es. (other es >>= tails vs other)) (λ es. then_gives _ _ (Holds IsExpr) (Holds IsExpr) (others es) (λ x i. tails_give vs x i)) ((u.0, []), u.1) (h, tt))
      (λ s i. pure_gives (Holds IsExpr) _ (operands_are s.0.0 s.0.1 i.0 i.1)))

abbrev IsTwo : Found (Expr × Expr) → Type 0
IsTwo c = IsExpr c.0.0 × IsExpr c.0.1

module _ (other : List NameUse → Lang (Found Expr)) (others : GivesExprs other) where
  branches_give : (es : List NameUse) → Gives (branches other es) IsTwo
  unfolding branches
  branches_give es =
      then_gives _ _ (Holds IsExpr) IsTwo (others es) (λ u h. after_gives _ _ IsTwo (then_gives _ _ (Holds IsExpr) IsTwo (others u.1) (λ v i. pure_gives IsTwo _ (h, i))))

  choice_gives : (t : Found Expr) → Holds IsExpr t → Gives (choice other t) (Holds IsExpr)
  unfolding choice
  choice_gives t is =
      or_gives (Holds IsExpr) _ _ (after_gives _ _ (Holds IsExpr) (then_gives _ _ IsTwo (Holds IsExpr) (branches_give t.1) (λ c h. pure_gives (Holds IsExpr) _ (choice_is t.0 c.0.0 c.0.1 is h.0 h.1))))
      (pure_gives (Holds IsExpr) t is)

module _ (room : ℕ) (inner : List NameUse → Lang (Found Expr)) (exprs : GivesExprs inner) where
  after_first : (t : Found Expr) → Holds IsExpr t → Gives (after room inner t) (Holds IsExpr)
  unfolding after
  after_first t is =
      let other : List NameUse → Lang (Found Expr) = unary room inner (prim room inner) in
      let others : GivesExprs other = unary_gives room inner exprs (prim room inner) (prim_gives room inner exprs) in
      then_gives _ _ (Holds IsExpr) (Holds IsExpr) (tails_give other others table t is)
      (λ u h. choice_gives (λ es. (other es >>= tails table other)) (λ es. then_gives _ _ (Holds IsExpr) (Holds IsExpr) (others es) (λ x i. tails_give other others table x i)) u h)

  full_gives : GivesExprs (full room inner)
  unfolding full
  full_gives es = then_gives _ _ (Holds IsExpr) (Holds IsExpr) (unary_gives room inner exprs (prim room inner) (prim_gives room inner exprs) es) (λ t h. after_first t h)

pub exprs_give : (n room : ℕ) → GivesExprs (expr n room)
unfolding expr
exprs_give zero room es = then_gives _ _ Any (Holds IsExpr) (anything _) (λ x h. pure_gives (Holds IsExpr) _ (name_is x.1))
exprs_give (suc n) room es = full_gives room (expr n (inside room)) (exprs_give n (inside room)) es

-- ---- the grammar of statements

abbrev GivesStmts : (List NameUse → Lang (Found (List Stmt))) → Type 0
GivesStmts l = (es : List NameUse) → Gives (l es) (Holds AreStmts)

initial_gives : (l : List NameUse → Lang (Found Expr)) → GivesExprs l → GivesExprs (initializer l)
unfolding initializer
initial_gives l ls es = after_gives _ _ (Holds IsExpr) (then_gives _ _ (Holds IsExpr) (Holds IsExpr) (ls es) (λ t h. after_gives _ _ (Holds IsExpr) (pure_gives (Holds IsExpr) t h)))

module _ (l : List NameUse → Lang (Found Expr)) (exprs : GivesExprs l) where
  declaration_gives : (es : List NameUse) → Gives (declaration l es) (Holds IsStmt)
  unfolding declaration
  declaration_gives es =
      then_gives _ _ Any (Holds IsStmt) (anything _) (λ b h. then_gives _ _ Any (Holds IsStmt) (anything name)
      (λ x i. then_gives _ _ (Holds IsExpr) (Holds IsStmt) (initial_gives l exprs _) (λ t j. pure_gives (Holds IsStmt) _ (declaring_is b x.1 t.0 j))))

  giving_gives : (es : List NameUse) → Gives (giving l es) (Holds IsStmt)
  unfolding giving
  giving_gives es =
      after_gives _ _ (Holds IsStmt) (or_gives (Holds IsStmt) _ _ (after_gives _ _ (Holds IsStmt) (pure_gives (Holds IsStmt) _ return_nothing_is))
      (then_gives _ _ (Holds IsExpr) (Holds IsStmt) (exprs es) (λ t h. after_gives _ _ (Holds IsStmt) (pure_gives (Holds IsStmt) _ (return_is t.0 h)))))

  throwing_gives : (es : List NameUse) → Gives (throwing l es) (Holds IsStmt)
  unfolding throwing
  throwing_gives es = after_gives _ _ (Holds IsStmt) (then_gives _ _ (Holds IsExpr) (Holds IsStmt) (exprs es) (λ t h. after_gives _ _ (Holds IsStmt) (pure_gives (Holds IsStmt) _ (throw_is t.0 h))))

abbrev IsHeader : Found Header → Type 0
IsHeader h = IsExpr h.0.1

abbrev IsHandler : Found Handler → Type 0
IsHandler h = AreStmts h.0.1

module _ (room : ℕ) (inner : List NameUse → Lang (Found Expr)) (exprs : GivesExprs inner) (block : List NameUse → Lang (Found (List Stmt))) (stmts : GivesStmts block) where
  assigning_gives : (names : List Kind) (es : List NameUse) → Gives (assigning room inner names es) (Holds IsStmt)
  unfolding assigning
  assigning_gives names es =
      then_gives _ _ Any (Holds IsStmt) (anything _) (λ x h. then_gives _ _ (Holds IsExpr) (Holds IsStmt) (initial_gives (full room inner) (full_gives room inner exprs) _) (λ t i. pure_gives (Holds IsStmt) _ (assign_is x.1 t.0 i)))

  running_gives : (names : List Kind) (es : List NameUse) → Gives (running room inner names es) (Holds IsStmt)
  unfolding running
  running_gives names es =
      let first : List NameUse → Lang (Found Expr) = λ es. ((one names spotted long >>= call_tail room inner es) or bare room inner es) in
      let firsts : GivesExprs first = λ es. or_gives (Holds IsExpr) _ _ (then_gives _ _ Any (Holds IsExpr) (anything (one names spotted long)) (λ x h. tail_gives room inner exprs es x)) (bare_gives room inner exprs es) in
      then_gives _ _ (Holds IsExpr) (Holds IsStmt) (then_gives _ _ (Holds IsExpr) (Holds IsExpr) (unary_gives room inner exprs first firsts es) (λ t h. after_first room inner exprs t h))
      (λ t h. after_gives _ _ (Holds IsStmt) (pure_gives (Holds IsStmt) _ (run_is t.0 h)))

  arm_gives : (es : List NameUse) → Gives (arm room inner block es) (Holds IsBranch)
  unfolding arm
  arm_gives es =
      then_gives _ _ (Holds IsExpr) (Holds IsBranch) (bracketed_gives room k.LeftParen k.RightParen _ (Holds IsExpr) (λ has. exprs es)) (λ t h. then_gives _ _ (Holds AreStmts) (Holds IsBranch) (stmts t.1) (λ b i. pure_gives (Holds IsBranch) _ (h, i)))

  looping_gives : (es : List NameUse) → Gives (looping room inner block es) (Holds IsStmt)
  unfolding looping
  looping_gives es = after_gives _ _ (Holds IsStmt) (then_gives _ _ (Holds IsBranch) (Holds IsStmt) (arm_gives es) (λ a h. pure_gives (Holds IsStmt) _ (while_is a.0.condition a.0.body h.0 h.1)))

  each_gives : (es : List NameUse) → Gives (each inner es) IsHeader
  unfolding each
  each_gives es =
      after_gives _ _ IsHeader (then_gives _ _ Any IsHeader (anything name) (λ x h. after_gives _ _ IsHeader (then_gives _ _ (Holds IsExpr) IsHeader (exprs _) (λ t i. pure_gives IsHeader _ i))))

  walking_gives : (es : List NameUse) → Gives (walking room inner block es) (Holds IsStmt)
  unfolding walking
  walking_gives es =
      after_gives _ _ (Holds IsStmt) (then_gives _ _ IsHeader (Holds IsStmt) (bracketed_gives room k.LeftParen k.RightParen _ IsHeader (λ has. each_gives es))
      (λ h is. then_gives _ _ (Holds AreStmts) (Holds IsStmt) (stmts h.1) (λ b i. pure_gives (Holds IsStmt) _ (for_is h.0.0 h.0.1 b.0 is i))))

  catching_gives : (es : List NameUse) → Gives (catching room block es) IsHandler
  unfolding catching
  catching_gives es =
      after_gives _ _ IsHandler (then_gives _ _ Any IsHandler (anything _) (λ x h. then_gives _ _ (Holds AreStmts) IsHandler (stmts _) (λ b i. pure_gives IsHandler _ i)))

  trying_gives : (es : List NameUse) → Gives (trying room block es) (Holds IsStmt)
  unfolding trying
  trying_gives es =
      after_gives _ _ (Holds IsStmt) (then_gives _ _ (Holds AreStmts) (Holds IsStmt) (stmts es)
      (λ b h. then_gives _ _ IsHandler (Holds IsStmt) (catching_gives b.1) (λ c i. pure_gives (Holds IsStmt) _ (try_is b.0 c.0.0 c.0.1 h i))))

  simple_gives : (names : List Kind) (es : List NameUse) → Gives (simple room inner block names es) (Holds IsStmt)
  unfolding simple
  simple_gives names es =
      or_gives (Holds IsStmt) _ _ (declaration_gives (full room inner) (full_gives room inner exprs) es)
      (or_gives (Holds IsStmt) _ _ (assigning_gives names es)
      (or_gives (Holds IsStmt) _ _ (looping_gives es)
      (or_gives (Holds IsStmt) _ _ (walking_gives es)
      (or_gives (Holds IsStmt) _ _ (giving_gives (full room inner) (full_gives room inner exprs) es)
      (or_gives (Holds IsStmt) _ _ (throwing_gives (full room inner) (full_gives room inner exprs) es)
      (or_gives (Holds IsStmt) _ _ (trying_gives es) (running_gives names es)))))))

-- ---- the statements of a block

append : (xs ys : List Stmt) → AreStmts xs → AreStmts ys → AreStmts (xs ++ ys)
append [] ys h i = i
append (x ∷ xs) ys h i = (h.0, append xs ys h.1 i)

abbrev IsGoing : Found (List Stmt) × Bool → Type 0
IsGoing s = AreStmts s.0.0

abbrev AreArms : Found (List Branch) → Type 0
AreArms a = AllByRecursion IsBranch a.0

module _ (armed : List NameUse → Lang (Found Branch)) (arms : (es : List NameUse) → Gives (armed es) (Holds IsBranch)) (block : List NameUse → Lang (Found (List Stmt))) (stmts : GivesStmts block) where
  else_gives : (a : Found (List Branch)) → AreArms a → Gives (else_if armed a) AreArms
  else_gives a is = after_gives _ _ AreArms (after_gives _ _ AreArms (then_gives _ _ (Holds IsBranch) AreArms (arms a.1) (λ b h. pure_gives AreArms _ (push IsBranch a.0 b.0 is h))))

  last_gives : (a : Found (List Branch)) → AreArms a → Gives (last block a) IsGoing
  last_gives a is =
      or_gives IsGoing _ _ (after_gives _ _ IsGoing (then_gives _ _ (Holds AreStmts) IsGoing (stmts a.1) (λ b h. pure_gives IsGoing _ (if_is a.0 b.0 is h, tt))))
      (pure_gives IsGoing _ (closing_are a.0 is))

  whole_gives : (es : List NameUse) → Gives (whole_if armed block es) IsGoing
  whole_gives es =
      after_gives _ _ IsGoing (then_gives _ _ (Holds IsBranch) IsGoing (arms es)
      (λ a h. then_gives _ _ AreArms IsGoing (iterate_gives AreArms always (else_if armed) else_gives _ (h, tt)) last_gives))

  next_gives : (simples : List Kind → List NameUse → Lang (Found Stmt)) → ((names : List Kind) (es : List NameUse) → Gives (simples names es) (Holds IsStmt)) → (s : Found (List Stmt) × Bool) → IsGoing s → Gives (next armed block simples s) IsGoing
  next_gives simples give s is =
      or_gives IsGoing _ _ (then_gives _ _ IsGoing IsGoing (whole_gives s.0.1) (λ x h. pure_gives IsGoing _ (append s.0.0 x.0.0 is h)))
      (then_gives _ _ (Holds IsStmt) IsGoing (give _ s.0.1) (λ t h. pure_gives IsGoing _ (push IsStmt s.0.0 t.0 is h)))

  ordered_gives : (simples : List Kind → List NameUse → Lang (Found Stmt)) → ((names : List Kind) (es : List NameUse) → Gives (simples names es) (Holds IsStmt)) → GivesStmts (in_order armed block simples)
  ordered_gives simples give es =
      then_gives _ _ IsGoing (Holds AreStmts) (iterate_gives IsGoing always (next armed block simples) (next_gives simples give) (([], es), false) tt) (λ s h. pure_gives (Holds AreStmts) _ h)

statements_give : (room : ℕ) (inner : List NameUse → Lang (Found Expr)) → GivesExprs inner → (block : List NameUse → Lang (Found (List Stmt))) → GivesStmts block → GivesStmts (statements room inner block)
unfolding statements
statements_give room inner exprs block stmts es =
    ordered_gives (arm room inner block) (arm_gives room inner exprs block stmts) block stmts (simple room inner block) (simple_gives room inner exprs block stmts) es

pub braced_gives : (room : ℕ) (l : List NameUse → Lang (Found (List Stmt))) → GivesStmts l → GivesStmts (braced room l)
unfolding braced
braced_gives room l ls es =
    then_gives _ _ (Holds AreStmts) (Holds AreStmts) (bracketed_gives room k.LeftBrace k.RightBrace _ (Holds AreStmts) (λ has. ls _)) (λ ss h. pure_gives (Holds AreStmts) _ h)

pub body_gives : (n room : ℕ) → GivesStmts (body n room)
unfolding body
body_gives zero room es = pure_gives (Holds AreStmts) ([], es) tt
body_gives (suc n) room es =
    statements_give room (expr n (inside room)) (exprs_give n (inside room)) (braced room (body n (inside room))) (braced_gives room (body n (inside room)) (body_gives n (inside room))) es
