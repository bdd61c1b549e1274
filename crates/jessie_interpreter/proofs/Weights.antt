-- How much there is of a form: each part has less than the whole, and each function less than them all.
use Rattle.std.proofs.Common.{◌≡◌, ℕ, zero, suc, ◌+◌, ◌*◌, ◌<◌, List, [], ◌∷◌, Option, Some, None, Bool, true, false, cond, length, get_or, arith, subst, sym, ap}
use Rattle.std.specs.Str.{bytes_eq}
use Rattle.std.proofs.Math.Nat.{suc-mul}
use Rattle.jessie_machine.specs.jessie_grammar.Syntax.{Term, literal, name, call, built_in, amount_math, send, listing, composed, linked, unary, chain, choice, Terms, no_terms, term, NamedTerms, no_named, named_term, Operands, no_operands, operand, Link, at_field, method, at_index, Links, no_links, link, Statement, declare_const, declare_let, assign, choose, repeat, each, give, give_nothing, raise, attempt, run, Branches, no_branches, branch, Block, done, step, Routine, Way, term_view, terms_view, named_terms_view, operands_view, link_view, links_view, statement_view, block_view, way_view, branches_view}
use Rattle.jessie_machine.specs.jessie_grammar.declared.syntax.Operator.{Operator}
use Rattle.jessie_machine.specs.jessie_grammar.declared.syntax.Expr.{Expr}
use Rattle.jessie_machine.specs.jessie_grammar.declared.syntax.Access.{Access}
use Rattle.jessie_machine.specs.jessie_grammar.declared.syntax.Stmt.{Stmt}
use Rattle.jessie_machine.specs.jessie_grammar.declared.syntax.Branch.{Branch}
use Rattle.jessie_machine.proofs.jessie_grammar.Views.{way-of}
use Rattle.jessie_machine.specs.jessie_semantics.Rules.{find_routine}

abbrev mutual
  pub weight : Term → ℕ
  weight (literal l) = 1
  weight (name x) = 1
  weight (call f ts) = terms_weight ts + 2
  weight (built_in b ts) = terms_weight ts + 2
  weight (amount_math x ts) = terms_weight ts + 2
  weight (send t x ts) = weight t + terms_weight ts + 2
  weight (listing ts) = terms_weight ts + 2
  weight (composed ts) = named_weight ts + 2
  weight (linked t ks) = weight t + links_weight ks + 2
  weight (unary u t) = weight t + 2
  weight (chain t ts) = weight t + operands_weight ts + 2
  weight (choice t x y) = weight t + weight x + weight y + 2

  pub terms_weight : Terms → ℕ
  terms_weight no_terms = 1
  terms_weight (term t ts) = weight t + terms_weight ts + 1

  pub named_weight : NamedTerms → ℕ
  named_weight no_named = 1
  named_weight (named_term x t ts) = weight t + named_weight ts + 1

  pub operands_weight : Operands → ℕ
  operands_weight no_operands = 1
  operands_weight (operand op t ts) = weight t + operands_weight ts + 2

  pub link_weight : Link → ℕ
  link_weight (at_field x) = 1
  link_weight (method x ts) = terms_weight ts + 2
  link_weight (at_index t) = weight t + 2

  pub links_weight : Links → ℕ
  links_weight no_links = 1
  links_weight (link k ks) = link_weight k + links_weight ks + 1

abbrev mutual
  pub statement_weight : Statement → ℕ
  statement_weight (declare_const x t) = weight t + 4
  statement_weight (declare_let x t) = weight t + 4
  statement_weight (assign x t) = weight t + 4
  statement_weight (choose bs a) = branches_weight bs + block_weight a + 4
  statement_weight (repeat t a) = weight t + block_weight a + 4
  statement_weight (each x t a) = weight t + block_weight a + 4
  statement_weight (give t) = weight t + 4
  statement_weight give_nothing = 4
  statement_weight (raise t) = weight t + 4
  statement_weight (attempt a x b) = block_weight a + block_weight b + 4
  statement_weight (run t) = weight t + 4

  pub branches_weight : Branches → ℕ
  branches_weight no_branches = 1
  branches_weight (branch t a bs) = weight t + block_weight a + branches_weight bs + 4

  pub block_weight : Block → ℕ
  block_weight done = 1
  block_weight (step a b) = statement_weight a + block_weight b + 3

abbrev pub routines_weight : List Routine → ℕ
routines_weight [] = 1
routines_weight (r ∷ rs) = block_weight r.body + routines_weight rs

pub part_falls : (xs : List Expr) (i : ℕ) (x : Expr) → i < length xs → x ≡ get_or xs i x → weight (term_view x) < terms_weight (terms_view xs)
part_falls [] i x h at = absurd (omega arith)
part_falls (y ∷ ys) zero x h at = subst (λ z. weight (term_view z) < weight (term_view y) + terms_weight (terms_view ys) + 1) (sym at) (omega arith)
part_falls (y ∷ ys) (suc i) x h at = let r = part_falls ys i x (omega arith) at in omega (arith, r)

pub named_falls : (xs : List (List ℕ × Expr)) (i : ℕ) (x : List ℕ × Expr) → i < length xs → x ≡ get_or xs i x → weight (term_view x.1) < named_weight (named_terms_view xs)
named_falls [] i x h at = absurd (omega arith)
named_falls (y ∷ ys) zero x h at = subst (λ z. weight (term_view z.1) < weight (term_view y.1) + named_weight (named_terms_view ys) + 1) (sym at) (omega arith)
named_falls (y ∷ ys) (suc i) x h at = let r = named_falls ys i x (omega arith) at in omega (arith, r)

pub operand_falls : (xs : List (Operator × Expr)) (i : ℕ) (x : Operator × Expr) → i < length xs → x ≡ get_or xs i x → weight (term_view x.1) + 1 < operands_weight (operands_view xs)
operand_falls [] i x h at = absurd (omega arith)
operand_falls (y ∷ ys) zero x h at = subst (λ z. weight (term_view z.1) + 1 < weight (term_view y.1) + operands_weight (operands_view ys) + 2) (sym at) (omega arith)
operand_falls (y ∷ ys) (suc i) x h at = let r = operand_falls ys i x (omega arith) at in omega (arith, r)

pub link_falls : (xs : List Access) (i : ℕ) (x : Access) → i < length xs → x ≡ get_or xs i x → link_weight (link_view x) < links_weight (links_view xs)
link_falls [] i x h at = absurd (omega arith)
link_falls (y ∷ ys) zero x h at = subst (λ z. link_weight (link_view z) < link_weight (link_view y) + links_weight (links_view ys) + 1) (sym at) (omega arith)
link_falls (y ∷ ys) (suc i) x h at = let r = link_falls ys i x (omega arith) at in omega (arith, r)

pub statement_falls : (xs : List Stmt) (i : ℕ) (x : Stmt) → i < length xs → x ≡ get_or xs i x → statement_weight (statement_view x) + 2 < block_weight (block_view xs)
statement_falls [] i x h at = absurd (omega arith)
statement_falls (y ∷ ys) zero x h at = subst (λ z. statement_weight (statement_view z) + 2 < statement_weight (statement_view y) + block_weight (block_view ys) + 3) (sym at) (omega arith)
statement_falls (y ∷ ys) (suc i) x h at = let r = statement_falls ys i x (omega arith) at in omega (arith, r)

-- a branch's condition and block
abbrev way_weight : Way → ℕ
way_weight w = weight w.condition + block_weight w.body

abbrev pub way_parts : Branch → ℕ
way_parts x = weight (term_view x.condition) + block_weight (block_view x.body)

way_same : (x : Branch) → way_weight (way_view x) ≡ way_parts x
way_same x = ap way_weight (way-of x)

way_less : (xs : List Branch) (i : ℕ) (x : Branch) → i < length xs → x ≡ get_or xs i x → way_weight (way_view x) + 3 < branches_weight (branches_view xs)
way_less [] i x h at = absurd (omega arith)
way_less (y ∷ ys) zero x h at = subst (λ z. way_weight (way_view z) + 3 < weight (way_view y).condition + block_weight (way_view y).body + branches_weight (branches_view ys) + 4) (sym at) (omega arith)
way_less (y ∷ ys) (suc i) x h at = let r = way_less ys i x (omega arith) at in omega (arith, r)

pub way_falls : (xs : List Branch) (i : ℕ) (x : Branch) → i < length xs → x ≡ get_or xs i x → way_parts x + 3 < branches_weight (branches_view xs)
way_falls xs i x h at = subst (λ n. n + 3 < branches_weight (branches_view xs)) (way_same x) (way_less xs i x h at)

some_same : (r x : Routine) → Some r ≡ Some x → block_weight r.body ≡ block_weight x.body
some_same r x e = cc

least : (rs : List Routine) → 0 < routines_weight rs
least [] = omega arith
least (r ∷ rs) = let h = least rs in omega (arith, h)

none_found : (r : Routine) → None ≡ Some r → ⊥
none_found r e = cc

found_here : (b : Bool) (x r : Routine) (rest : Option Routine) (n : ℕ) → 0 < n → cond b (Some x) rest ≡ Some r → (rest ≡ Some r → block_weight r.body < n) → block_weight r.body < block_weight x.body + n
found_here true x r rest n h e f = let q = some_same x r e in omega (arith, h, q)
found_here false x r rest n h e f = let q = f e in omega (arith, q)

pub routine_falls : (rs : List Routine) (f : List ℕ) (r : Routine) → find_routine f rs ≡ Some r → block_weight r.body < routines_weight rs
routine_falls [] f r e = absurd (none_found r e)
routine_falls (x ∷ rs) f r e = found_here (bytes_eq x.name f) x r (find_routine f rs) (routines_weight rs) (least rs) e (routine_falls rs f r)

-- one call less of room is worth more than any function's body
pub calls_fall : (m n w b : ℕ) → n ≡ suc m → b < w → m * w + b < n * w
calls_fall m n w b e h = subst (λ n. m * w + b < n * w) (sym e) (let q : suc m * w ≡ m * w + w = suc-mul m w in omega (arith, q))
