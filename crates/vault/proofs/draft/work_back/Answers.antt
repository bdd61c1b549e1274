use Rattle.vault.proofs.Loop.{can_ungive, can_untake, moved_back, stepped_back}
use Rattle.vault.proofs.Steps.{last_first}
use Rattle.vault.proofs.draft.work_back.Goals as goal

pub ungive-parcel-requires : goal.ungive-parcel-requires
ungive-parcel-requires c = can_ungive _ _ _ _ _ _ (rw (c.in-Moves.is, c.in-Some.ensures.items, last_first) at c.requires.3)

pub untake-requires : goal.untake-requires
untake-requires c = rw c.ungive-parcel.ensures.parcel (can_untake _ _ _ _ _ _ (rw (c.in-Moves.is, c.in-Some.ensures.items, last_first) at c.requires.3) c.ungive-parcel.new.self c.ungive-parcel.ensures.half)

pub returns-in-Some : goal.returns-in-Some
returns-in-Some c = λ rooms kept steps is.
    let working = rw (c.in-Moves.is, c.in-Some.ensures.items, last_first) at is in
    moved_back rooms kept _ _ steps _ working c.ungive-parcel.new.self c.ungive-parcel.ensures.half c.untake.new.self (rw c.ungive-parcel.ensures.parcel at c.untake.ensures)

pub unopen_purse-requires : goal.unopen_purse-requires
unopen_purse-requires c = (rw c.in-OpensPurse.is at c.requires.3).can.0

pub returns-in-OpensPurse : goal.returns-in-OpensPurse
returns-in-OpensPurse c = λ rooms kept steps is.
    let working = rw c.in-OpensPurse.is at is in
    stepped_back rooms kept c.args.stores.now c.unopen_purse.new.self _ _ steps _ working c.unopen_purse.ensures working.kept_is working.can.1

pub unadd_brand-requires : goal.unadd_brand-requires
unadd_brand-requires c = (rw c.in-AddsBrand.is at c.requires.3).can.0

pub returns-in-AddsBrand : goal.returns-in-AddsBrand
returns-in-AddsBrand c = λ rooms kept steps is.
    let working = rw c.in-AddsBrand.is at is in
    stepped_back rooms kept c.args.stores.now c.unadd_brand.new.self _ _ steps _ working c.unadd_brand.ensures working.kept_is working.can.1

pub unopen_seat-requires : goal.unopen_seat-requires
unopen_seat-requires c = (rw c.in-OpensSeat.is at c.requires.3).can.0

pub returns-in-OpensSeat : goal.returns-in-OpensSeat
returns-in-OpensSeat c = λ rooms kept steps is.
    let working = rw c.in-OpensSeat.is at is in
    stepped_back rooms kept c.args.stores.now c.unopen_seat.new.self _ _ steps _ working c.unopen_seat.ensures working.kept_is working.can.1

pub unopen_slot-requires : goal.unopen_slot-requires
unopen_slot-requires c = (rw c.in-OpensSlot.is at c.requires.3).can.0

pub returns-in-OpensSlot : goal.returns-in-OpensSlot
returns-in-OpensSlot c = λ rooms kept steps is.
    let working = rw c.in-OpensSlot.is at is in
    stepped_back rooms kept c.args.stores.now c.unopen_slot.new.self _ _ steps _ working c.unopen_slot.ensures working.kept_is working.can.1

pub reopen_seat-requires : goal.reopen_seat-requires
reopen_seat-requires c = (rw c.in-ClosesSeat.is at c.requires.3).can.0

pub returns-in-ClosesSeat : goal.returns-in-ClosesSeat
returns-in-ClosesSeat c = λ rooms kept steps is.
    let working = rw c.in-ClosesSeat.is at is in
    stepped_back rooms kept c.args.stores.now c.reopen_seat.new.self _ _ steps _ working c.reopen_seat.ensures working.kept_is working.can.1
