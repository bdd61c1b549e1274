-- Each good effect keeps the world good, and so do effects one after another; and the world of a new host is good.
use Rattle.std.proofs.Common.{List, [], ◌∷◌}
use Rattle.world_state.specs.Good.{AreGood, IsGoodEffect, IsGoodWorld}
use Rattle.world_state.specs.Worlds.{Effect, State, after, after_all}
use Rattle.world_laws.proofs.Balanced.{balanced-after}
use Rattle.world_laws.proofs.Data.{facets-after, invitations-after, known-after, labels-after, modules-after, timed-after, timely-after}
use Rattle.world_laws.proofs.Cascades.{asked-after}
use Rattle.world_laws.proofs.PaidOut.{paid_out-after}
use Rattle.world_laws.proofs.Valued.{valued-after}
use Rattle.world_laws.proofs.Followings.{following-after}
use Rattle.world_laws.proofs.Proposed.{paired-after, proposed-after}
use Rattle.world_laws.proofs.HeldKinds.{kinds-after}
use Rattle.world_laws.proofs.Instances.{at_work-after, instances-after, placed-after}
use Rattle.world_laws.proofs.Owing.{owed-after}
use Rattle.world_laws.proofs.Rooms.{room-after, staged-after}
use Rattle.world_laws.proofs.Seated.{covered-after, seats-after}
use Rattle.world_laws.proofs.Supplies.{bounded-after, brands-after, invited-after, minted-after}

pub good-after : (w : State) (e : Effect) → IsGoodEffect w e → IsGoodWorld w → IsGoodWorld (after w e)
good-after w e can good =
    let kinds = kinds-after w e can good in
    let known = known-after w e can good in
    record {
      balanced = balanced-after w e can good;
      purse_kinds = kinds.purses;
      payment_kinds = kinds.payments;
      slot_kinds = kinds.slots;
      valued = valued-after w e can good;
      bounded = bounded-after w e can good;
      minted = minted-after w e can good;
      brands = brands-after w e can good;
      invited = invited-after w e can good;
      seats = seats-after w e can good;
      paired = paired-after w e good;
      placed = placed-after w e can good;
      at_work = at_work-after w e can good;
      proposed = proposed-after w e can good;
      covered = covered-after w e can good;
      room = room-after w e can good;
      staged = staged-after w e can good;
      owed = owed-after w e can good;
      asked = asked-after w e good;
      following = following-after w e can good;
      paid_out = paid_out-after w e can good;
      settled = known.settled;
      requests = known.requests;
      modules = modules-after w e can good.modules;
      instances = instances-after w e can good;
      invitations = invitations-after w e can good.invitations;
      facets = facets-after w e can good.facets;
      labels = labels-after w e can good.labels;
      timed = timed-after w e can good;
      timely = timely-after w e can good;
      waiting = known.waiting;
    }

pub good-after_all : (w : State) (es : List Effect) → AreGood w es → IsGoodWorld w → IsGoodWorld (after_all w es)
good-after_all w [] can good = good
good-after_all w (e ∷ es) can good = good-after_all (after w e) es can.1 (good-after w e can.0 good)
