use Rattle.std.proofs.Common.{[], ◌∷◌, refl}
use Rattle.std.specs.Prelude.{codes}
use Rattle.serde_json.specs.Data.{number, string, unsigned}
use Rattle.turn_writer.proofs.close_value.Goals as goal

pub returns : goal.returns
returns c =
    let fields = (codes "turns", number (unsigned c.args.turns)) ∷ (codes "row", string (codes "close")) ∷ (codes "left", number (unsigned c.args.left)) ∷ [] in
    c.finish.ensures fields (c.number.ensures _ (c.text.ensures _ _ (c.value.ensures _ _ c.new.ensures c.from.ensures) refl))
