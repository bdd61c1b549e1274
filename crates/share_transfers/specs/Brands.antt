-- Shares of wrong brands, by the brands that an instance keeps and by what seats have.
use Rattle.std.specs.Prelude.{ℕ, ◌<◌, ◌^◌, ◌||◌, ◌++◌, Bool, List, [], ◌∷◌, if◌then◌else◌}
use Rattle.std.specs.List.{list_any}
use Rattle.rules.specs.brands.declared.issuer_record.Issuer.{Issuer}
use Rattle.call_arguments.specs.proposals.declared.allocations.Share.{Share}
use Rattle.rules.specs.Given.{is_misfit}
use Rattle.rules.specs.Rearranging.{SeatShare, is_against}
use Rattle.share_transfers.specs.declared.shares.GivenSeatShare.{GivenSeatShare}

-- a brand of 16 bits
abbrev pub HasBrand : GivenSeatShare → Type 0
HasBrand g = g.share.amount.brand < 2 ^ 16

abbrev pub is_wrong_at : List Issuer → (ℕ → List Share) → List SeatShare → SeatShare → Bool
is_wrong_at issuers had before s = is_misfit issuers (had s.seat) s.share || list_any (is_against s) before

-- the brands of shares that are misfits, or that a share before is against
abbrev pub wrong_at : List Issuer → (ℕ → List Share) → List SeatShare → List SeatShare → List ℕ
wrong_at issuers had before [] = []
wrong_at issuers had before (s ∷ ss) =
    if is_wrong_at issuers had before s then s.share.amount.brand ∷ wrong_at issuers had (before ++ s ∷ []) ss
    else wrong_at issuers had (before ++ s ∷ []) ss
