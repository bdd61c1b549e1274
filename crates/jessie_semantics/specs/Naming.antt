-- The names that a text gives to the fields of the records that it writes: all are of a kind.
use Rattle.std.specs.Prelude.{◌≡◌, ℕ, true, List, [], ◌∷◌}
use Rattle.host_data.specs.host_text.Words.{is_field_name}
use Rattle.host_data.specs.Tree.{Tree, null, boolean, number, text, array, fields, object, function, Items, no_items, item, Fields, no_fields, field}
use Rattle.jessie_values.specs.jessie_grammar.Syntax.{Term, literal, name, call, built_in, amount_math, send, listing, composed, linked, unary, chain, choice, Terms, no_terms, term, NamedTerms, no_named, named_term, Operands, no_operands, operand, Link, at_field, method, at_index, Links, no_links, link, Statement, declare_const, declare_let, assign, choose, repeat, each, give, give_nothing, raise, attempt, run, Branches, no_branches, branch, Block, done, step, Routine}

abbrev mutual
  pub TermWrites : (List ℕ → Type 0) → Term → Type 0
  TermWrites X (literal l) = Unit {0}
  TermWrites X (name x) = Unit {0}
  TermWrites X (call f ts) = TermsWrite X ts
  TermWrites X (built_in f ts) = TermsWrite X ts
  TermWrites X (amount_math x ts) = TermsWrite X ts
  TermWrites X (send t x ts) = TermWrites X t × TermsWrite X ts
  TermWrites X (listing ts) = TermsWrite X ts
  TermWrites X (composed ts) = NamedTermsWrite X ts
  TermWrites X (linked t ks) = TermWrites X t × LinksWrite X ks
  TermWrites X (unary u t) = TermWrites X t
  TermWrites X (chain t ts) = TermWrites X t × OperandsWrite X ts
  TermWrites X (choice t x y) = TermWrites X t × TermWrites X x × TermWrites X y

  pub TermsWrite : (List ℕ → Type 0) → Terms → Type 0
  TermsWrite X no_terms = Unit {0}
  TermsWrite X (term t ts) = TermWrites X t × TermsWrite X ts

  pub NamedTermsWrite : (List ℕ → Type 0) → NamedTerms → Type 0
  NamedTermsWrite X no_named = Unit {0}
  NamedTermsWrite X (named_term x t ts) = X x × TermWrites X t × NamedTermsWrite X ts

  pub LinksWrite : (List ℕ → Type 0) → Links → Type 0
  LinksWrite X no_links = Unit {0}
  LinksWrite X (link k ks) = LinkWrites X k × LinksWrite X ks

  pub LinkWrites : (List ℕ → Type 0) → Link → Type 0
  LinkWrites X (at_field x) = Unit {0}
  LinkWrites X (method x ts) = TermsWrite X ts
  LinkWrites X (at_index t) = TermWrites X t

  pub OperandsWrite : (List ℕ → Type 0) → Operands → Type 0
  OperandsWrite X no_operands = Unit {0}
  OperandsWrite X (operand op t ts) = TermWrites X t × OperandsWrite X ts

abbrev mutual
  pub StatementWrites : (List ℕ → Type 0) → Statement → Type 0
  StatementWrites X (declare_const x t) = TermWrites X t
  StatementWrites X (declare_let x t) = TermWrites X t
  StatementWrites X (assign x t) = TermWrites X t
  StatementWrites X (choose bs b) = BranchesWrite X bs × BlockWrites X b
  StatementWrites X (repeat t b) = TermWrites X t × BlockWrites X b
  StatementWrites X (each x t b) = TermWrites X t × BlockWrites X b
  StatementWrites X (give t) = TermWrites X t
  StatementWrites X give_nothing = Unit {0}
  StatementWrites X (raise t) = TermWrites X t
  StatementWrites X (attempt a x b) = BlockWrites X a × BlockWrites X b
  StatementWrites X (run t) = TermWrites X t

  pub BranchesWrite : (List ℕ → Type 0) → Branches → Type 0
  BranchesWrite X no_branches = Unit {0}
  BranchesWrite X (branch t b bs) = TermWrites X t × BlockWrites X b × BranchesWrite X bs

  pub BlockWrites : (List ℕ → Type 0) → Block → Type 0
  BlockWrites X done = Unit {0}
  BlockWrites X (step a b) = StatementWrites X a × BlockWrites X b

-- all functions of a module do
abbrev pub RoutinesWrite : (List ℕ → Type 0) → List Routine → Type 0
RoutinesWrite X [] = Unit {0}
RoutinesWrite X (r ∷ rs) = BlockWrites X r.body × RoutinesWrite X rs

-- the form of the names of fields
abbrev pub IsFieldName : List ℕ → Type 0
IsFieldName x = is_field_name x ≡ true

-- the names of functions
abbrev pub RoutinesNamed : (List ℕ → Type 0) → List Routine → Type 0
RoutinesNamed X [] = Unit {0}
RoutinesNamed X (r ∷ rs) = X r.name × RoutinesNamed X rs

-- all names of fields and functions in data are of a kind
abbrev mutual
  pub NamesAre : (List ℕ → Type 0) → Tree → Type 0
  NamesAre X null = Unit {0}
  NamesAre X (boolean b) = Unit {0}
  NamesAre X (number z) = Unit {0}
  NamesAre X (text t) = Unit {0}
  NamesAre X (array ts) = ItemNamesAre X ts
  NamesAre X (fields fs) = FieldNamesAre X fs
  NamesAre X (object o) = Unit {0}
  NamesAre X (function f) = X f

  pub ItemNamesAre : (List ℕ → Type 0) → Items → Type 0
  ItemNamesAre X no_items = Unit {0}
  ItemNamesAre X (item t ts) = NamesAre X t × ItemNamesAre X ts

  pub FieldNamesAre : (List ℕ → Type 0) → Fields → Type 0
  FieldNamesAre X no_fields = Unit {0}
  FieldNamesAre X (field x t fs) = X x × NamesAre X t × FieldNamesAre X fs

abbrev pub HasFieldNames : Tree → Type 0
HasFieldNames t = NamesAre IsFieldName t
