use Rattle.std.proofs.Common.{subst, arith}
use Rattle.std.proofs.lemmas.List.{take_all}
use Rattle.std.proofs.lemmas.List.Elements.{All-more}
use Rattle.std.specs.Str.{IsUtf8}
use Rattle.turn_writer.proofs.turn_form.amounts.keys_are_texts.Goals as goal

pub loop-entry-preserved : goal.loop-entry-preserved
loop-entry-preserved c = All-more (λ e. IsUtf8 e.0) c.args.entries.now c.loop-entry.entry-index c.entry-item.result (omega arith) c.loop-entry.invariant (subst (λ e. IsUtf8 e.0) c.entry-item.is c.key_is_text.ensures)

pub returns : goal.returns
returns c = rw (take_all c.loop-entry.entry-index c.args.entries.now (omega arith)) at c.loop-entry.invariant
