-- Parts of the table of methods of a zcf, in the table's order.
use Rattle.std.specs.Prelude.{ℕ, List, if◌then◌else◌, codes}
use Rattle.std.specs.Str.{bytes_eq}
use Rattle.host_data.specs.Tree.{Tree}
use Rattle.refusals.specs.Outcomes.{reading}
use Rattle.rules.specs.Zcf.{assert_unique_keyword, deposit_to_seat, get_asset_kind, get_brand_for_issuer, get_instance, get_invitation_issuer, get_issuer_for_brand, get_terms, get_zoe_service, make_invitation, shutdown, stop_accepting_offers, wake_at, withdraw_from_seat}
use Rattle.rules.specs.Outcomes.{Outcome}
use Rattle.rules.specs.Words.{without_method}
use Rattle.rules.specs.world_state.Worlds.{State}

-- the methods by which an instance ends
abbrev pub of_end : State → ℕ → List ℕ → List Tree → Outcome
of_end w i m args =
    if bytes_eq m (codes "stopAcceptingOffers") then stop_accepting_offers i
    else if bytes_eq m (codes "shutdown") then shutdown w i args
    else if bytes_eq m (codes "shutdownWithFailure") then shutdown w i args
    else without_method m

-- those that make invitations, or tell what the instance is, and those before them
abbrev pub of_own : State → ℕ → List ℕ → List Tree → Outcome
of_own w i m args =
    if bytes_eq m (codes "makeInvitation") then make_invitation w i args
    else if bytes_eq m (codes "getInstance") then reading (get_instance i)
    else if bytes_eq m (codes "getZoeService") then reading get_zoe_service
    else if bytes_eq m (codes "getInvitationIssuer") then reading get_invitation_issuer
    else of_end w i m args

-- those that ask for wakeups or move goods between payments and seats, and those before them
abbrev pub of_goods : State → ℕ → List ℕ → List Tree → Outcome
of_goods w i m args =
    if bytes_eq m (codes "wakeAt") then wake_at w i args
    else if bytes_eq m (codes "depositToSeat") then deposit_to_seat w i args
    else if bytes_eq m (codes "withdrawFromSeat") then withdraw_from_seat w i args
    else of_own w i m args

-- those that tell of the issuers that an instance keeps, and those before them
abbrev pub of_kept : State → ℕ → List ℕ → List Tree → Outcome
of_kept w i m args =
    if bytes_eq m (codes "getTerms") then reading (get_terms w i)
    else if bytes_eq m (codes "getBrandForIssuer") then reading (get_brand_for_issuer w i args)
    else if bytes_eq m (codes "getIssuerForBrand") then reading (get_issuer_for_brand w i args)
    else if bytes_eq m (codes "getAssetKind") then reading (get_asset_kind w args)
    else if bytes_eq m (codes "assertUniqueKeyword") then reading (assert_unique_keyword w i args)
    else of_goods w i m args
