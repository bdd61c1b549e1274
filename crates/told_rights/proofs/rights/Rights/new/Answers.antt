use Rattle.told_rights.proofs.Begins.{new_told}
use Rattle.told_rights.proofs.rights.Rights.new.Goals as goal

pub returns-clause-told : goal.returns-clause-told
returns-clause-told c = λ turn. new_told _ turn (record {
  edition = c.new-supplies.ensures.edition;
  places = c.new-places.ensures;
  out = c.new-supplies.ensures.out;
  bounded = c.new-supplies.ensures.bounded;
  kinds = c.new-kinds.ensures;
  totals = c.new-sums.ensures.totals;
  brands = c.new-sums.ensures.brands;
  named = c.new-payments.ensures.named;
  spent = c.new-payments.ensures.spent;
  taken = c.new-payments.ensures.taken;
})
