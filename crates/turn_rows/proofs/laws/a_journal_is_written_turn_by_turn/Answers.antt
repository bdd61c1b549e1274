use Rattle.turn_rows.proofs.ByTurns.{text_by_turns}
use Rattle.turn_rows.proofs.laws.a_journal_is_written_turn_by_turn.Goals as goal

pub returns : goal.returns
returns c = text_by_turns
