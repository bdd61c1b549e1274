use Rattle.std.proofs.Common.{◌<◌, ◌^◌, ◌+◌, subst, sym}
use Rattle.std.specs.Prelude.{List, ℕ}
use Rattle.rights_model.specs.Supply.{is_outside}
use Rattle.escrow.specs.declared.totals.Totals.{Totals}
use Rattle.escrow.specs.Told.{AreOpened, IsOpened, leaving, minted_with}
use Rattle.escrow.proofs.Tellings.{can_tell, sums_same, sums_told}
use Rattle.escrow.proofs.Escrow.moved.Goals as goal

pub tell-requires-clause-can : goal.tell-requires-clause-can
tell-requires-clause-can c =
    let same = c.make_rows.ensures.same in
    let m = c.args.movement.now in
    let within : minted_with c.make_rows.new.self m < 2 ^ 128 = subst (λ (s : Totals). s.minted + leaving is_outside m m.brand < 2 ^ 128) (sym (same.totals m.brand)) c.requires.minted in
    can_tell c.requires.defined.0 c.make_rows.new.self m (sums_same c.requires.defined.0 c.args.self.now c.make_rows.new.self same c.requires.defined.1) c.requires.defined.2 within

pub returns-clause-sums : goal.returns-clause-sums
returns-clause-sums c =
    let same = c.make_rows.ensures.same in
    let m = c.args.movement.now in
    let opened : AreOpened c.make_rows.new.self m = record {
      from = subst (λ (is : List ℕ). IsOpened is m.from) (sym same.instances) c.requires.opened.from;
      to = subst (λ (is : List ℕ). IsOpened is m.to) (sym same.instances) c.requires.opened.to;
    } in
    λ t sums can. sums_told c.make_rows.new.self c.tell.new.self m c.tell.ensures.ok t opened (sums_same t c.args.self.now c.make_rows.new.self same sums) can
