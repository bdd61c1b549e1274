use Rattle.std.proofs.Common.{drop}
use Rattle.row_reader.proofs.Wanted.{Agree}
use Rattle.row_reader.proofs.fields.has_names.Given as goal

-- the members have the names exactly where those that are left have the names that are left
abbrev pub invariant-loop-wanted : goal.invariant-loop-wanted
invariant-loop-wanted l =
    (Agree l.members.entries l.names → Agree l.entries (drop l.wanted-index l.names)) × (Agree l.entries (drop l.wanted-index l.names) → Agree l.members.entries l.names)
