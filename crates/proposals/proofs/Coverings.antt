-- What covers a share.
use Rattle.std.proofs.Common.{◌≡◌, ◌↔◌, List, Bool, IsTrue, None, arith}
use Rattle.host_data.specs.amount_math.Content.{Content, Contains, Contains-antisym, Contains-refl, count-nothing, nothing}
use Rattle.proposals.specs.declared.allocations.Share.{Share}
use Rattle.proposals.specs.Shares.{amount_under}
use Rattle.proposals.specs.OfferSafety.{IsCovered}

-- nothing contains just nothing
nothing_within : (c : Content) → Contains c nothing
nothing_within c = record { each = λ k. omega (arith, count-nothing k) }

of_nothing : (r : Bool) (c : Content) → IsTrue r ↔ (c ≡ nothing) → IsTrue r ↔ Contains nothing c
of_nothing r c is = (λ t. rw (is.0 t) (Contains-refl nothing), λ has. is.1 (Contains-antisym c nothing (nothing_within c) has))

pub covered_without_slot : (slots : List Share) (share : Share) (r : Bool) → amount_under share.keyword slots ≡ None → IsTrue r ↔ (share.amount.value.content ≡ nothing) → IsTrue r ↔ IsCovered slots share
covered_without_slot slots share r none is = rw none (of_nothing r share.amount.value.content is)
