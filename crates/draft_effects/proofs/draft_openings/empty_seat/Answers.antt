use Rattle.std.proofs.Common.{◌++◌, ◌∷◌, [], None, ap, length, arith}
use Rattle.std.proofs.lemmas.Result.{on_ok_weaker}
use Rattle.draft_reads.specs.world_state.Worlds.{new_seat, of_own}
use Rattle.draft_reads.specs.Views.{rights_in, seats_in, staging_in}
use Rattle.draft_effects.proofs.Openings.{own_now, own_room}
use Rattle.draft_effects.proofs.draft_openings.empty_seat.Goals as goal

pub open_seat-requires-clause-room : goal.open_seat-requires-clause-room
open_seat-requires-clause-room c = rw (c.new.ensures, c.new-2.ensures) (own_room c.args.draft.now c.args.rule c.valid.ensures (omega (arith, c.made-made.ensures.few, ap length c.payments.ensures.views, c.payments.ensures.owed)))

pub returns-clause-ok : goal.returns-clause-ok
returns-clause-ok c =
    let d = c.args.draft.now in
    on_ok_weaker c.open_seat.result (λ now. own_now c.open_seat.new.draft (rights_in d) (seats_in d ++ new_seat c.args.instance (of_own c.args.rule) ∷ []) (staging_in d ++ None ∷ []) c.args.rule (rw (c.new.ensures, c.new-2.ensures) at now)) c.open_seat.ensures.ok
