use Rattle.std.proofs.Common.{◌≡◌, ◌+◌, ◌-◌, ◌≤◌, [], length, max, true, cond}
use Rattle.std.specs.Io.KnownBytes.{IsAtEnd}
use Rattle.host_io.specs.LineReads.{Feeds, held_in, needs_nothing}
use Rattle.host_io.proofs.line_reader.LineReader.next_line.Given as goal

abbrev pub invariant-loop-self : goal.invariant-loop-self
invariant-loop-self g l = record {
  fed : Feeds (g.S.Source.left l.fn.source) (g.S.Source.left l.source) (held_in l.fn.self) [] (held_in l.self);
  given : l.self.given ≡ l.fn.self.given;
  quiet : g.S.Source.faults l.source ≡ g.S.Source.faults l.fn.source;
  at_end : l.self.ended ≡ true → IsAtEnd (g.S.Source.left l.source);
  idle : needs_nothing l.limit l.fn.self ≡ true → (l.source ≡ l.fn.source) × (l.self ≡ l.fn.self);
  holds : length (held_in l.self) ≤ max (length (held_in l.fn.self)) (l.limit + 65536);
}

abbrev pub decreases-loop-self : goal.decreases-loop-self
decreases-loop-self g l = (l.limit + 1 - length (held_in l.self)) + cond l.self.ended 0 1
