-- What the turn of a delivery settles its promise with.
use Rattle.std.specs.Prelude.{ℕ, List, codes, unwrap_or}
use Rattle.refusals.specs.host_data.Tree.{Tree, field, field_of, fields, no_fields, null, object}
use Rattle.refusals.specs.host_data.declared.data.ObjKind.TheVariants.{Instance}
use Rattle.promise_store.specs.States.{SettlementView, ok}
use Rattle.turn_records.specs.Deliveries.{Delivery, start}
use Rattle.turn_records.specs.Endings.{settled_by}
use Rattle.turn_records.specs.Events.{Answer, given, refused, spent, threw}

-- a part of what a start answers; what is missing is null, and so is any part of what is no record
abbrev pub part : List ℕ → Tree → Tree
part name answer = unwrap_or (field_of name answer) null

abbrev pub instance_tree : ℕ → Tree
instance_tree n = object (record { kind = Instance; number = n })

-- what the promise of a start is of: the instance, and three parts of what its start answers
abbrev pub start_record : ℕ → Tree → Tree
start_record instance answer =
    let facet = codes "creatorFacet" in
    let invitation = codes "creatorInvitation" in
    let public = codes "publicFacet" in
    fields (field facet (part facet answer)
    (field invitation (part invitation answer)
    (field (codes "instance") (instance_tree instance)
    (field public (part public answer) no_fields))))

-- what is answered settles it; of a start, the record does
abbrev pub fulfilled_by : Delivery → Tree → SettlementView
fulfilled_by (start s) answer = ok (start_record s.instance answer)
fulfilled_by _ answer = ok answer

-- any other end of the turn breaks it
abbrev pub settled_after : Delivery → Answer → SettlementView
settled_after d (given answer) = fulfilled_by d answer
settled_after d (refused r) = settled_by (refused r)
settled_after d (threw t) = settled_by (threw t)
settled_after d (spent meter) = settled_by (spent meter)
