use Rattle.std.proofs.Common.{◌≡◌, drop}
use Rattle.std.specs.Map.{lookup}
use Rattle.std.specs.Str.{bytes_eq}
use Rattle.delivery_tasks.proofs.calls.function_behind.Given as goal

abbrev pub invariant-loop-name : goal.invariant-loop-name
invariant-loop-name l = lookup (bytes_eq l.method) l.methods ≡ lookup (bytes_eq l.method) (drop l.name-index l.methods)
