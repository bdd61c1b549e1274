-- Shares whose values may be read: each under a keyword, and of a brand of 16 bits.
use Rattle.std.specs.Prelude.{◌≡◌, All, IfSome, List, None}
use Rattle.call_arguments.specs.Records.{first_ill, keywords, shares_data}
use Rattle.call_arguments.specs.declared.records.GivenShare.{GivenShare}
use Rattle.contract_reads.specs.Brands.{HasSmallBrand}
use Rattle.share_transfers.specs.declared.shares.GivenTransfer.{GivenTransfer}

pub record AreFine (shares : List GivenShare) : Type 0 where
  pub named : first_ill (keywords (shares_data shares)) ≡ None
  pub small : All HasSmallBrand shares

pub record IsFine (t : GivenTransfer) : Type 0 where
  pub losses : IfSome t.losses (λ shares. AreFine shares.items)
  pub gains : IfSome t.gains (λ shares. AreFine shares.items)
