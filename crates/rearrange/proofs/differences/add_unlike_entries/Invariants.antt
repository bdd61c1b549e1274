use Rattle.std.proofs.Common.{◌++◌, take}
use Rattle.rearrange.specs.Parts.{HaveEntries}
use Rattle.rearrange.proofs.differences.add_unlike_entries.Given as goal

abbrev pub invariant-loop-entry : goal.invariant-loop-entry
invariant-loop-entry l = HaveEntries l.brand (take l.entry-index l.before ++ l.rest) l.after l.initial.parts.items l.parts.items
