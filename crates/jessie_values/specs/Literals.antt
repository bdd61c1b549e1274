-- The data that a text writes: a literal, and what a state variable holds at first.
use Rattle.std.specs.Prelude.{ℕ, List, [], ◌∷◌}
use Rattle.host_data.specs.Tree.{Tree, null, boolean, number, text, array, fields}
use Rattle.host_data.specs.Tree.{Items, no_items, item}
use Rattle.jessie_grammar.specs.Syntax.{Fixed, plain, row, fixed_record, Fixeds, no_fixeds, fixed}
use Rattle.jessie_grammar.specs.Syntax.{NamedFixeds, no_named_fixeds, named_fixed, fixed_view}
use Rattle.jessie_grammar.specs.declared.syntax.Constant.{Constant}
use Rattle.jessie_grammar.specs.declared.syntax.Literal.{Literal}
use Rattle.jessie_grammar.specs.declared.syntax.Literal.TheVariants as l
use Rattle.jessie_values.specs.Records.{record_of}

abbrev pub literal_tree : Literal → Tree
literal_tree (l.Number z) = number z
literal_tree (l.Text t) = text t
literal_tree (l.Bool b) = boolean b
literal_tree l.Null = null

-- a record has its fields in byte order of their names, whatever the text's order is
abbrev mutual
  pub fixed_tree : Fixed → Tree
  fixed_tree (plain c) = literal_tree c
  fixed_tree (row cs) = array (fixed_items cs)
  fixed_tree (fixed_record ms) = fields (record_of (fixed_pairs ms))

  pub fixed_items : Fixeds → Items
  fixed_items no_fixeds = no_items
  fixed_items (fixed c cs) = item (fixed_tree c) (fixed_items cs)

  pub fixed_pairs : NamedFixeds → List (List ℕ × Tree)
  fixed_pairs no_named_fixeds = []
  fixed_pairs (named_fixed x c ms) = (x, fixed_tree c) ∷ fixed_pairs ms

abbrev pub constant_tree : Constant → Tree
constant_tree c = fixed_tree (fixed_view c)
