-- That a name is one of a module's functions is stable; what a text writes has one proof at most.
use Rattle.std.proofs.Common.{◌≡◌, ◌⊎◌, inl, inr, ℕ, Bool, true, false, List, [], ◌∷◌, refl, sym, ◌∙◌}
use Rattle.std.proofs.lemmas.Slice.Eq.{bytes_eq-Decides}
use Rattle.std.specs.Coded.{Coded-set, Unit-prop, coded_bool, ×_prop}
use Rattle.std.specs.Str.{bytes_eq}
use Rattle.world_state.specs.host_text.Words.{is_field_name}
use Rattle.world_state.specs.jessie_semantics.Naming.{BlockWrites, BranchesWrite, IsFieldName, LinkWrites, LinksWrite, NamedTermsWrite, OperandsWrite, RoutinesWrite, StatementWrites, TermWrites, TermsWrite}
use Rattle.world_state.specs.jessie_grammar.Syntax.{Term, literal, name, call, built_in, amount_math, send, listing, composed, linked, unary, chain, choice, Terms, no_terms, term, NamedTerms, no_named, named_term, Operands, no_operands, operand, Link, at_field, method, at_index, Links, no_links, link, Statement, declare_const, declare_let, assign, choose, repeat, each, give, give_nothing, raise, attempt, run, Branches, no_branches, branch, Block, done, step, Routine}
use Rattle.world_state.specs.lemmas.Stable.{IsStable}
use Rattle.world_state.proofs.lemmas.Parts.{stable_either, stable_prop}
use Rattle.world_state.specs.Known.{IsNamed}

never_prop : IsProp ⊥
never_prop x y = absurd x

text_tells : (a b : List ℕ) → (a ≡ b) ⊎ (a ≡ b → ⊥)
text_tells a b = by (bytes_eq a b) refl
  where
    by : (t : Bool) → bytes_eq a b ≡ t → (a ≡ b) ⊎ (a ≡ b → ⊥)
    by true e = inl ((bytes_eq-Decides a b).0 e)
    by false e = inr (λ same. let two : true ≡ false = sym ((bytes_eq-Decides a b).1 same) ∙ e in cc)

pub named_stable : (f : List ℕ) (rs : List Routine) → IsStable (IsNamed f rs)
named_stable f [] = stable_prop never_prop
named_stable f (r ∷ rs) = stable_either (text_tells r.name f) (named_stable f rs)

-- ---- what a text writes

module _ (X : List ℕ → Type 0) (x_prop : (x : List ℕ) → IsProp (X x)) where
  mutual
    term_prop : (t : Term) → IsProp (TermWrites X t)
    term_prop (literal l) = Unit-prop
    term_prop (name x) = Unit-prop
    term_prop (call f ts) = terms_prop ts
    term_prop (built_in f ts) = terms_prop ts
    term_prop (amount_math x ts) = terms_prop ts
    term_prop (send t x ts) = ×_prop (term_prop t) (terms_prop ts)
    term_prop (listing ts) = terms_prop ts
    term_prop (composed ts) = named_prop ts
    term_prop (linked t ks) = ×_prop (term_prop t) (links_prop ks)
    term_prop (unary u t) = term_prop t
    term_prop (chain t ts) = ×_prop (term_prop t) (operands_prop ts)
    term_prop (choice t x y) = hlevel (term_prop t, term_prop x, term_prop y)

    terms_prop : (ts : Terms) → IsProp (TermsWrite X ts)
    terms_prop no_terms = Unit-prop
    terms_prop (term t ts) = ×_prop (term_prop t) (terms_prop ts)

    named_prop : (ts : NamedTerms) → IsProp (NamedTermsWrite X ts)
    named_prop no_named = Unit-prop
    named_prop (named_term x t ts) = hlevel (x_prop x, term_prop t, named_prop ts)

    links_prop : (ks : Links) → IsProp (LinksWrite X ks)
    links_prop no_links = Unit-prop
    links_prop (link k ks) = ×_prop (link_prop k) (links_prop ks)

    link_prop : (k : Link) → IsProp (LinkWrites X k)
    link_prop (at_field x) = Unit-prop
    link_prop (method x ts) = terms_prop ts
    link_prop (at_index t) = term_prop t

    operands_prop : (ts : Operands) → IsProp (OperandsWrite X ts)
    operands_prop no_operands = Unit-prop
    operands_prop (operand op t ts) = ×_prop (term_prop t) (operands_prop ts)

  mutual
    statement_prop : (s : Statement) → IsProp (StatementWrites X s)
    statement_prop (declare_const x t) = term_prop t
    statement_prop (declare_let x t) = term_prop t
    statement_prop (assign x t) = term_prop t
    statement_prop (choose bs b) = ×_prop (branches_prop bs) (block_prop b)
    statement_prop (repeat t b) = ×_prop (term_prop t) (block_prop b)
    statement_prop (each x t b) = ×_prop (term_prop t) (block_prop b)
    statement_prop (give t) = term_prop t
    statement_prop give_nothing = Unit-prop
    statement_prop (raise t) = term_prop t
    statement_prop (attempt a x b) = ×_prop (block_prop a) (block_prop b)
    statement_prop (run t) = term_prop t

    branches_prop : (bs : Branches) → IsProp (BranchesWrite X bs)
    branches_prop no_branches = Unit-prop
    branches_prop (branch t b bs) = hlevel (term_prop t, block_prop b, branches_prop bs)

    block_prop : (b : Block) → IsProp (BlockWrites X b)
    block_prop done = Unit-prop
    block_prop (step a b) = ×_prop (statement_prop a) (block_prop b)

  routines_prop : (rs : List Routine) → IsProp (RoutinesWrite X rs)
  routines_prop [] = Unit-prop
  routines_prop (r ∷ rs) = ×_prop (block_prop r.body) (routines_prop rs)

name_prop : (x : List ℕ) → IsProp (IsFieldName x)
name_prop x = Coded-set coded_bool (is_field_name x) true

pub writes_prop : (rs : List Routine) → IsProp (RoutinesWrite IsFieldName rs)
writes_prop rs = routines_prop IsFieldName name_prop rs
