-- Any text writes names of some kind.
use Rattle.std.proofs.Common.{ℕ, List, [], ◌∷◌}
use Rattle.jessie_values.specs.jessie_grammar.Syntax.{Term, literal, name, call, built_in, amount_math, send, listing, composed, linked, unary, chain, choice, Terms, no_terms, term, NamedTerms, no_named, named_term, Operands, no_operands, operand, Link, at_field, method, at_index, Links, no_links, link, Statement, declare_const, declare_let, assign, choose, repeat, each, give, give_nothing, raise, attempt, run, Branches, no_branches, branch, Block, done, step, Routine}
use Rattle.jessie_semantics.specs.Naming.{BlockWrites, BranchesWrite, LinksWrite, LinkWrites, NamedTermsWrite, OperandsWrite, RoutinesWrite, StatementWrites, TermsWrite, TermWrites}

abbrev pub AnyName : List ℕ → Type 0
AnyName x = Unit {0}

mutual
  any_term : (t : Term) → TermWrites AnyName t
  any_term (literal l) = tt
  any_term (name x) = tt
  any_term (call f ts) = any_terms ts
  any_term (built_in f ts) = any_terms ts
  any_term (amount_math x ts) = any_terms ts
  any_term (send t x ts) = (any_term t, any_terms ts)
  any_term (listing ts) = any_terms ts
  any_term (composed ts) = any_named ts
  any_term (linked t ks) = (any_term t, any_links ks)
  any_term (unary u t) = any_term t
  any_term (chain t ts) = (any_term t, any_operands ts)
  any_term (choice t x y) = (any_term t, any_term x, any_term y)

  any_terms : (ts : Terms) → TermsWrite AnyName ts
  any_terms no_terms = tt
  any_terms (term t ts) = (any_term t, any_terms ts)

  any_named : (ts : NamedTerms) → NamedTermsWrite AnyName ts
  any_named no_named = tt
  any_named (named_term x t ts) = (tt, any_term t, any_named ts)

  any_links : (ks : Links) → LinksWrite AnyName ks
  any_links no_links = tt
  any_links (link k ks) = (any_link k, any_links ks)

  any_link : (k : Link) → LinkWrites AnyName k
  any_link (at_field x) = tt
  any_link (method x ts) = any_terms ts
  any_link (at_index t) = any_term t

  any_operands : (ts : Operands) → OperandsWrite AnyName ts
  any_operands no_operands = tt
  any_operands (operand op t ts) = (any_term t, any_operands ts)

mutual
  any_statement : (a : Statement) → StatementWrites AnyName a
  any_statement (declare_const x t) = any_term t
  any_statement (declare_let x t) = any_term t
  any_statement (assign x t) = any_term t
  any_statement (choose bs b) = (any_branches bs, any_block b)
  any_statement (repeat t b) = (any_term t, any_block b)
  any_statement (each x t b) = (any_term t, any_block b)
  any_statement (give t) = any_term t
  any_statement give_nothing = tt
  any_statement (raise t) = any_term t
  any_statement (attempt a x b) = (any_block a, any_block b)
  any_statement (run t) = any_term t

  any_branches : (bs : Branches) → BranchesWrite AnyName bs
  any_branches no_branches = tt
  any_branches (branch t b bs) = (any_term t, any_block b, any_branches bs)

  any_block : (b : Block) → BlockWrites AnyName b
  any_block done = tt
  any_block (step a b) = (any_statement a, any_block b)

pub any_names : (rs : List Routine) → RoutinesWrite AnyName rs
any_names [] = tt
any_names (r ∷ rs) = (any_block r.body, any_names rs)
