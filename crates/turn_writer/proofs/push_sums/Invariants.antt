use Rattle.std.proofs.Common.{◌≡◌, ◌++◌, take, string_bytes}
use Rattle.std.specs.List.{All, flat_map}
use Rattle.turn_rows.specs.Rows.{sum_row}
use Rattle.turn_writer.specs.ShortRows.{IsShortRow}
use Rattle.turn_writer.proofs.MoreRows.{sum_text}
use Rattle.turn_writer.proofs.push_sums.Given as goal

abbrev pub invariant-loop-sum : goal.invariant-loop-sum
invariant-loop-sum l = record {
  adds : string_bytes l.text ≡ string_bytes l.fn.text ++ flat_map (sum_text l.edition) (take l.sum-index l.sums);
  short : All (λ s. IsShortRow (sum_row l.edition s)) (take l.sum-index l.sums);
}
