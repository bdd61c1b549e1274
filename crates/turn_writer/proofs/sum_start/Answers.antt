use Rattle.std.proofs.Common.{refl}
use Rattle.turn_writer.proofs.sum_start.Goals as goal

pub returns : goal.returns
returns c =
    c.string-6.ensures _ _ (c.text.ensures _ _ (c.string-5.ensures _ _ (c.string-4.ensures _ _ (c.string-3.ensures _ _
    (c.string-2.ensures _ _ (c.string.ensures _ _ c.new.ensures c.brand_text.ensures) c.decimal_text.ensures) c.decimal_text-2.ensures)
    c.decimal_text-3.ensures) c.decimal_text-4.ensures) refl) c.decimal_text-5.ensures
