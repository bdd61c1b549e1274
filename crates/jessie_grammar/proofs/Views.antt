-- What each form stands for, by its parts.
use Rattle.std.proofs.Common.{◌≡◌, ℕ, List, Option, rules}
use Rattle.jessie_grammar.specs.Syntax.{plain, row, fixed_record, fixed_view, fixeds_view, named_fixeds_view, literal, name, call, built_in, amount_math, send, listing, composed, linked, unary, chain, choice, term_view, terms_view, named_terms_view, operands_view, at_field, method, at_index, link_view, links_view, declare_const, declare_let, assign, choose, repeat, each, raise, attempt, run, return_view, statement_view, way_view, block_view, branches_view}
use Rattle.jessie_grammar.specs.declared.syntax.Literal.{Literal}
use Rattle.jessie_grammar.specs.declared.syntax.Constant.{Constant}
use Rattle.jessie_grammar.specs.declared.syntax.Constant as C
use Rattle.jessie_grammar.specs.declared.syntax.BuiltIn.{BuiltIn}
use Rattle.jessie_grammar.specs.declared.syntax.Unary.{Unary}
use Rattle.jessie_grammar.specs.declared.syntax.Operator.{Operator}
use Rattle.jessie_grammar.specs.declared.syntax.Expr.{Expr}
use Rattle.jessie_grammar.specs.declared.syntax.Expr as E
use Rattle.jessie_grammar.specs.declared.syntax.Access.{Access}
use Rattle.jessie_grammar.specs.declared.syntax.Access as P
use Rattle.jessie_grammar.specs.declared.syntax.Stmt.{Stmt}
use Rattle.jessie_grammar.specs.declared.syntax.Stmt as S
use Rattle.jessie_grammar.specs.declared.syntax.Branch.{Branch}
use Rattle.jessie_grammar.specs.declared.syntax.Branch as B

pub fixed-Literal : (l : Literal) → fixed_view (C.Literal l) ≡ plain l
fixed-Literal l = search (rules, C.the_lemmas)

pub fixed-Array : (cs : List Constant) → fixed_view (C.Array cs) ≡ row (fixeds_view cs)
fixed-Array cs = search (rules, C.the_lemmas)

pub fixed-Record : (cs : List (List ℕ × Constant)) → fixed_view (C.Record cs) ≡ fixed_record (named_fixeds_view cs)
fixed-Record cs = search (rules, C.the_lemmas)

pub term-Literal : (c : Literal) → term_view (E.Literal c) ≡ literal c
term-Literal c = search (rules, E.the_lemmas)

pub term-Name : (x : List ℕ) → term_view (E.Name x) ≡ name x
term-Name x = search (rules, E.the_lemmas)

pub term-Call : (f : List ℕ) (es : List Expr) → term_view (E.Call f es) ≡ call f (terms_view es)
term-Call f es = search (rules, E.the_lemmas)

pub term-BuiltIn : (b : BuiltIn) (es : List Expr) → term_view (E.BuiltIn b es) ≡ built_in b (terms_view es)
term-BuiltIn b es = search (rules, E.the_lemmas)

pub term-AmountMath : (x : List ℕ) (es : List Expr) → term_view (E.AmountMath x es) ≡ amount_math x (terms_view es)
term-AmountMath x es = search (rules, E.the_lemmas)

pub term-Send : (e : Expr) (x : List ℕ) (es : List Expr) → term_view (E.Send e x es) ≡ send (term_view e) x (terms_view es)
term-Send e x es = search (rules, E.the_lemmas)

pub term-Array : (es : List Expr) → term_view (E.Array es) ≡ listing (terms_view es)
term-Array es = search (rules, E.the_lemmas)

pub term-Record : (fs : List (List ℕ × Expr)) → term_view (E.Record fs) ≡ composed (named_terms_view fs)
term-Record fs = search (rules, E.the_lemmas)

pub term-Accesses : (e : Expr) (ks : List Access) → term_view (E.Accesses e ks) ≡ linked (term_view e) (links_view ks)
term-Accesses e ks = search (rules, E.the_lemmas)

pub term-Unary : (u : Unary) (e : Expr) → term_view (E.Unary u e) ≡ unary u (term_view e)
term-Unary u e = search (rules, E.the_lemmas)

pub term-Chain : (e : Expr) (es : List (Operator × Expr)) → term_view (E.Chain e es) ≡ chain (term_view e) (operands_view es)
term-Chain e es = search (rules, E.the_lemmas)

pub term-Choice : (c a b : Expr) → term_view (E.Choice c a b) ≡ choice (term_view c) (term_view a) (term_view b)
term-Choice c a b = search (rules, E.the_lemmas)

pub link-Field : (x : List ℕ) → link_view (P.Field x) ≡ at_field x
link-Field x = search (rules, P.the_lemmas)

pub link-Method : (x : List ℕ) (es : List Expr) → link_view (P.Method x es) ≡ method x (terms_view es)
link-Method x es = search (rules, P.the_lemmas)

pub link-Index : (e : Expr) → link_view (P.Index e) ≡ at_index (term_view e)
link-Index e = search (rules, P.the_lemmas)

pub statement-Const : (x : List ℕ) (e : Expr) → statement_view (S.Const x e) ≡ declare_const x (term_view e)
statement-Const x e = search (rules, S.the_lemmas)

pub statement-Let : (x : List ℕ) (e : Expr) → statement_view (S.Let x e) ≡ declare_let x (term_view e)
statement-Let x e = search (rules, S.the_lemmas)

pub statement-Assign : (x : List ℕ) (e : Expr) → statement_view (S.Assign x e) ≡ assign x (term_view e)
statement-Assign x e = search (rules, S.the_lemmas)

pub statement-If : (bs : List Branch) (a : List Stmt) → statement_view (S.If bs a) ≡ choose (branches_view bs) (block_view a)
statement-If bs a = search (rules, S.the_lemmas)

pub statement-While : (e : Expr) (a : List Stmt) → statement_view (S.While e a) ≡ repeat (term_view e) (block_view a)
statement-While e a = search (rules, S.the_lemmas)

pub statement-ForOf : (x : List ℕ) (e : Expr) (a : List Stmt) → statement_view (S.ForOf x e a) ≡ each x (term_view e) (block_view a)
statement-ForOf x e a = search (rules, S.the_lemmas)

pub statement-Return : (e : Option Expr) → statement_view (S.Return e) ≡ return_view e
statement-Return e = search (rules, S.the_lemmas)

pub statement-Throw : (e : Expr) → statement_view (S.Throw e) ≡ raise (term_view e)
statement-Throw e = search (rules, S.the_lemmas)

pub statement-Try : (a : List Stmt) (x : List ℕ) (b : List Stmt) → statement_view (S.Try a x b) ≡ attempt (block_view a) x (block_view b)
statement-Try a x b = search (rules, S.the_lemmas)

pub statement-Run : (e : Expr) → statement_view (S.Run e) ≡ run (term_view e)
statement-Run e = search (rules, S.the_lemmas)

pub way-of : (b : Branch) → way_view b ≡ record { condition = term_view b.condition; body = block_view b.body }
way-of b = search (rules, B.the_lemmas)
