use Rattle.std.proofs.Common.{map, ap, ◌∙◌}
use Rattle.share_transfers.specs.Changed.{changed_seat}
use Rattle.share_transfers.proofs.Changed.{put_down}
use Rattle.share_transfers.proofs.working_copy.WorkingCopy.put.Goals as goal

pub returns-in-Ok : goal.returns-in-Ok
returns-in-Ok c = ap (map changed_seat) c.in-Ok.ensures.entries ∙ put_down c.args.seat c.args.shares c.args.self.now.changed.entries
