use Rattle.std.proofs.Common.{◌≡◌, map, ◌∙◌}
use Rattle.ertp_calls.specs.host_world.Worlds.{world_of}
use Rattle.rules.specs.GivenPayments.{payment_view_of}
use Rattle.rules.specs.Lists.{least_other}
use Rattle.issuer_calls.proofs.LiveLists.{brands_same, on_ok}
use Rattle.issuer_calls.proofs.payment_lists.check_brand.Goals as goal

pub returns-clause-gives : goal.returns-clause-gives
unfolding least_other
returns-clause-gives c =
    let same : c.as_slice.result.now ≡ map (λ p. (payment_view_of (world_of c.args.world.now) p).brand) c.args.payments.now = c.as_slice.ensures.value ∙ c.in_ok-brands.ensures in
    rw same at c.check_brands.ensures.gives

pub returns-clause-of_brand : goal.returns-clause-of_brand
returns-clause-of_brand c =
    let same : c.as_slice.result.now ≡ map (λ p. (payment_view_of (world_of c.args.world.now) p).brand) c.args.payments.now = c.as_slice.ensures.value ∙ c.in_ok-brands.ensures in
    on_ok c.check_brands.result (brands_same (world_of c.args.world.now) c.args.brand c.args.payments.now) (rw same at c.check_brands.ensures.known)
