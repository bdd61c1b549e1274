-- What the types of the code show of transfers.
use Rattle.std.specs.Prelude.{ℕ, not, List, filter, map, Option, option_map}
use Rattle.std.specs.Borrow.{Bor}
use Rattle.std.specs.Global.{Vec}
use Rattle.host_data.specs.Amounts.{seen}
use Rattle.host_data.specs.Tree.{Tree, is_null}
use Rattle.host_data.specs.View.{tree}
use Rattle.host_data.specs.declared.data.Data.{Data}
use Rattle.call_arguments.specs.proposals.declared.allocations.Share.{Share}
use Rattle.call_arguments.specs.proposals.declared.plans.Transfer.{Transfer}
use Rattle.call_arguments.specs.Records.{ShareData, share_data, shares_data}
use Rattle.call_arguments.specs.declared.records.GivenShare.{GivenShare}
use Rattle.rules.specs.Rearranging.{Asked, Parts, SeatShare, parts, share_for}
use Rattle.share_transfers.specs.declared.parts.GivenParts.{GivenParts}
use Rattle.share_transfers.specs.declared.shares.GivenSeatShare.{GivenSeatShare}
use Rattle.share_transfers.specs.declared.shares.GivenTransfer.{GivenTransfer}
use Rattle.share_transfers.specs.declared.values.ShareTransfer.{ShareTransfer}

-- ---- parts

abbrev pub tree_at : Bor Data → Tree
tree_at d = tree d.now

-- those that are not null
abbrev pub given_trees : List Tree → List Tree
given_trees ts = filter (λ t. not (is_null t)) ts

abbrev pub parts_view : GivenParts → Parts
parts_view g = parts (seen g.from) (seen g.to) (seen g.losses) (seen g.gains)

abbrev pub parts_views : List GivenParts → List Parts
parts_views list = map parts_view list

-- ---- shares

abbrev pub shares_view : Option (Vec GivenShare) → Option (List ShareData)
shares_view shares = option_map (λ v. shares_data v.items) shares

abbrev pub asked_view : GivenTransfer → Asked
asked_view g = record {
  from = g.from;
  to = g.to;
  losses = shares_view g.losses;
  gains = shares_view g.gains;
}

abbrev pub asked_views : List GivenTransfer → List Asked
asked_views read = map asked_view read

abbrev pub seat_share : GivenSeatShare → SeatShare
seat_share g = share_for g.seat (share_data g.share)

abbrev pub seat_shares : List GivenSeatShare → List SeatShare
seat_shares shares = map seat_share shares

abbrev pub keywords_of : List SeatShare → List (List ℕ)
keywords_of shares = map (λ s. s.share.keyword) shares

-- ---- values

abbrev pub values_view : Option (Vec Share) → Option (List Share)
values_view shares = option_map (λ v. v.items) shares

abbrev pub transfer_view : ShareTransfer → Transfer
transfer_view t = record {
  from = t.from;
  to = t.to;
  from_amounts = values_view t.losses;
  to_amounts = values_view t.gains;
}

abbrev pub transfer_views : List ShareTransfer → List Transfer
transfer_views list = map transfer_view list
