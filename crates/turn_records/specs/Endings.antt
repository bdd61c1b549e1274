-- What a turn's end brings to the promise of its delivery.
use Rattle.promise_store.specs.States.{SettlementView, broken, ok}
use Rattle.refusals.specs.Codes.{refusal_tree}
use Rattle.refusals.specs.Codes as codes
use Rattle.turn_records.specs.Events.{Answer, given, refused, threw, spent}

-- an answer settles it; a refusal, what was thrown and a spent meter break it
abbrev pub settled_by : Answer → SettlementView
settled_by (given t) = ok t
settled_by (refused r) = broken (refusal_tree r)
settled_by (threw t) = broken t
settled_by (spent meter) = broken (refusal_tree (codes.spent meter))
