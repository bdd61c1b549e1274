use Rattle.std.proofs.Common.{◌++◌, ap, ◌∙◌, arith, string_bytes}
use Rattle.std.proofs.lemmas.List.{take_all}
use Rattle.std.proofs.lemmas.List.Elements.{All-more}
use Rattle.turn_rows.specs.Rows.{sum_row}
use Rattle.turn_writer.specs.ShortRows.{IsShortRow}
use Rattle.turn_writer.proofs.MoreRows.{sum_text, sum_texts, text_more}
use Rattle.turn_writer.proofs.Told.{each_view}
use Rattle.turn_writer.proofs.push_sums.Goals as goal

pub loop-sum-preserved : goal.loop-sum-preserved
loop-sum-preserved c =
    let sums = c.args.sums.now in
    let i = c.loop-sum.sum-index in
    record {
      adds = text_more (sum_text c.args.edition) sums i _ _ _ _ (omega arith) c.loop-sum.invariant.adds c.in_ok-push_sum.ensures.adds;
      short = All-more (λ s. IsShortRow (sum_row c.args.edition s)) sums i _ (omega arith) c.loop-sum.invariant.short c.in_ok-push_sum.ensures.short;
    }

pub returns-clause-adds : goal.returns-clause-adds
returns-clause-adds c =
    let sums = c.args.sums.now in
    rw (take_all c.loop-sum.sum-index sums (omega arith)) at c.loop-sum.invariant.adds ∙ ap (λ t. string_bytes c.args.text.now ++ t) (sum_texts c.args.edition sums)

pub returns-clause-short : goal.returns-clause-short
returns-clause-short c =
    each_view IsShortRow (sum_row c.args.edition) c.args.sums.now (rw (take_all c.loop-sum.sum-index c.args.sums.now (omega arith)) at c.loop-sum.invariant.short)
