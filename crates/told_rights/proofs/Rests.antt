-- Rows that move nothing and open no seat leave what is told of rights as it was.
use Rattle.std.proofs.Common.{◌≡◌, ◌++◌, List, [], ◌∷◌, refl, sym, ap, ◌∙◌}
use Rattle.row_records.specs.fair_rows.Movements.{movements_in, takes_from}
use Rattle.row_records.specs.fair_rows.Rows.{InTurn, after_event}
use Rattle.row_records.specs.rights_model.Totals.{brands_of}
use Rattle.row_records.specs.turn_rows.Turns.{Event, called, exited, moved, opened, settled}
use Rattle.told_rights.specs.Rights.{IsOfRows, LeavesRights, TellsKinds, TellsPayments, TellsRights, TellsSums, TellsSupplies}
use Rattle.told_rights.specs.declared.rights.Rights.{Rights}
use Rattle.told_rights.proofs.Movements.{movements-push, nothing_behind}

none_more : (i : InTurn) (e : Event) → LeavesRights e → movements_in (i.here ++ e ∷ []) ≡ movements_in i.here
none_more i (called c) leaves = movements-push i.here (called c) ∙ nothing_behind (movements_in i.here)
none_more i (exited x) leaves = movements-push i.here (exited x) ∙ nothing_behind (movements_in i.here)
none_more i (settled p s) leaves = movements-push i.here (settled p s) ∙ nothing_behind (movements_in i.here)
none_more i (opened o) leaves = absurd leaves
none_more i (moved m) leaves = absurd leaves

pub rests : (k : Rights) (i : InTurn) (e : Event) → LeavesRights e → TellsRights k i → TellsRights k (after_event i e)
rests k i (called c) leaves t = let none = none_more i (called c) leaves in record {
  rows = record { all = t.rows.all ∙ ap (λ ms. i.before.moves ++ ms) (sym none); table = t.rows.table; defined = t.rows.defined; minted = t.rows.minted };
  edition = t.edition;
  places = t.places;
  kinds = record { allowed = t.kinds.allowed; only = t.kinds.only };
  supplies = record { out = t.supplies.out; bounded = t.supplies.bounded };
  sums = record { totals = t.sums.totals; brands = t.sums.brands ∙ ap brands_of (sym none) };
  payments = record { named = t.payments.named; spent = t.payments.spent; taken = λ p. t.payments.taken p ∙ ap (takes_from p) (sym none) };
}
rests k i (exited x) leaves t = let none = none_more i (exited x) leaves in record {
  rows = record { all = t.rows.all ∙ ap (λ ms. i.before.moves ++ ms) (sym none); table = t.rows.table; defined = t.rows.defined; minted = t.rows.minted };
  edition = t.edition;
  places = t.places;
  kinds = record { allowed = t.kinds.allowed; only = t.kinds.only };
  supplies = record { out = t.supplies.out; bounded = t.supplies.bounded };
  sums = record { totals = t.sums.totals; brands = t.sums.brands ∙ ap brands_of (sym none) };
  payments = record { named = t.payments.named; spent = t.payments.spent; taken = λ p. t.payments.taken p ∙ ap (takes_from p) (sym none) };
}
rests k i (settled n s) leaves t = let none = none_more i (settled n s) leaves in record {
  rows = record { all = t.rows.all ∙ ap (λ ms. i.before.moves ++ ms) (sym none); table = t.rows.table; defined = t.rows.defined; minted = t.rows.minted };
  edition = t.edition;
  places = t.places;
  kinds = record { allowed = t.kinds.allowed; only = t.kinds.only };
  supplies = record { out = t.supplies.out; bounded = t.supplies.bounded };
  sums = record { totals = t.sums.totals; brands = t.sums.brands ∙ ap brands_of (sym none) };
  payments = record { named = t.payments.named; spent = t.payments.spent; taken = λ p. t.payments.taken p ∙ ap (takes_from p) (sym none) };
}
rests k i (opened o) leaves t = absurd leaves
rests k i (moved m) leaves t = absurd leaves
