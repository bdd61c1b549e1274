-- Data in form: each record has its fields in byte order of their names, each name once, and nothing
-- nests over 32 deep.
use Rattle.std.specs.Prelude.{◌≤◌}
use Rattle.host_data.specs.Tree.{Tree, Ordered, nesting}

abbrev pub InForm : Tree → Type 0
InForm t = Ordered t × (nesting t ≤ 32)
