-- Shares of the brands of their keywords meet, so what a change is planned from has one brand a keyword.
use Rattle.std.proofs.Common.{◌++◌, List, [], ◌∷◌, All, Option, None, Some, IfSome, get_or, unwrap_or, sym, ap, ◌∙◌}
use Rattle.std.proofs.lemmas.List.Elements.{All-append, All-nil, All-push}
use Rattle.seats.specs.proposals.declared.allocations.Share.{Share}
use Rattle.seats.specs.proposals.declared.plans.SeatState.{SeatState}
use Rattle.rearrange.specs.Staged.{Agree, IsOfOneBrand, shares_of}
use Rattle.seat_tests.specs.Brands.{AreOfTheirBrands, HasBrands, IsOfItsBrand, brand_of, kind_of}

agree : (shares others : List Share) → AreOfTheirBrands shares → AreOfTheirBrands others → Agree shares others
agree shares others all more = λ i d h j e k same.
    let one = all j e k in
    let other = more i d h in
    record { brand = one.brand ∙ (ap brand_of same ∙ sym other.brand); kind = one.kind ∙ (ap kind_of same ∙ sym other.kind) }

none : AreOfTheirBrands []
none = All-nil IsOfItsBrand

chosen : (o : Option (List Share)) (shares : List Share) → IfSome o AreOfTheirBrands → AreOfTheirBrands shares → AreOfTheirBrands (unwrap_or o shares)
chosen None shares is others = others
chosen (Some own) shares is others = is

state_shares : (s : SeatState) → HasBrands s → AreOfTheirBrands (shares_of s)
state_shares s has =
    All-append IsOfItsBrand _ s.proposal.give
    (All-append IsOfItsBrand _ s.proposal.want
    (All-append IsOfItsBrand s.allocation (unwrap_or s.staged []) has.slots (chosen s.staged [] has.staged none))
    has.want)
    has.give

pub of_one_brand : (states : List SeatState) → All HasBrands states → All IsOfOneBrand states
of_one_brand states all = λ i d h. let shares = state_shares (get_or states i d) (all i d h) in agree _ _ shares shares

pub all_further : (states : List SeatState) (s : SeatState) → All HasBrands states → HasBrands s → All HasBrands (states ++ s ∷ [])
all_further states s all has = All-push HasBrands states s all has
