use Rattle.std.proofs.Common.{◌≡◌, sym, subst}
use Rattle.std.specs.Prelude.{◌↔◌, IfErr, IsSome}
use Rattle.vault_model.specs.Seats.{KeptSeat}
use Rattle.seats.specs.declared.seats.StageFault.TheVariants.{SeatExited}
use Rattle.vault.proofs.SeatReads.{seat_read}
use Rattle.vault.proofs.Seated.{on_either, same_keeps, staged_keeps}
use Rattle.vault.proofs.draft.Draft.stage.Goals as goal

pub invariant_of-self : goal.invariant_of-self
invariant_of-self c = on_either c.stage.result (λ is. staged_keeps c.self.inside.stores c.self.inside.steps.items c.self.inside.movements.items c.self.inside.keys c.self.inside.is_spoiled _ c.stage.new.self c.self.invariant is) (λ is. same_keeps c.self.inside.stores c.self.inside.steps.items c.self.inside.movements.items c.self.inside.keys c.self.inside.is_spoiled c.stage.new.self c.self.invariant is) c.stage.ensures.ok c.stage.ensures.err

pub returns-clause-exited : goal.returns-clause-exited
returns-clause-exited c = rw (← c.self.view_is) (subst (λ (s : KeptSeat). IfErr c.stage.result (λ x. x.1 ≡ SeatExited ↔ IsSome s.last)) (sym (seat_read c.self.inside.stores.seats.seats c.args.seat)) c.stage.ensures.exited)
