use Rattle.std.proofs.Common.{refl}
use Rattle.told_rights.proofs.Told.{begun_told}
use Rattle.told_rights.proofs.rights.Rights.begin_turn.Goals as goal

pub returns-clause-told : goal.returns-clause-told
returns-clause-told c = λ i s turn t same. begun_told c.args.self.now _ i s turn (record {
  edition = refl;
  places = refl;
  supplies = refl;
  kinds = refl;
  totals = c.clear_brands.ensures.totals;
  brands = c.clear_brands.ensures.brands;
  named = c.in_ok-spend_taken.ensures.named;
  spent = c.in_ok-spend_taken.ensures.spent;
  taken = c.in_ok-spend_taken.ensures.taken;
}) t same
