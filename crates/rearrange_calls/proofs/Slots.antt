-- Where there was no slot, nothing is lost, and all of the share is gained.
use Rattle.std.specs.Option.{option_map_or}
use Rattle.std.proofs.Common.{◌≡◌, List, Option, None, ap, ◌∙◌}
use Rattle.refusals.specs.amount_math.Content.{Content, difference, difference-nothing, nothing, nothing-difference}
use Rattle.refusals.specs.amount_math.declared.Amount.{Amount}
use Rattle.rearrange.specs.Moves.{gained_by, lost_by}
use Rattle.rules.specs.proposals.Shares.{amount_under}
use Rattle.rules.specs.proposals.declared.allocations.Share.{Share}

abbrev content_in : Option Amount → Content
content_in o = option_map_or (λ a. a.value.content) o nothing

pub lost_none : (before : List Share) (r : Share) → amount_under r.keyword before ≡ None → lost_by before r ≡ nothing
lost_none before r none = ap (λ o. difference (content_in o) r.amount.value.content) none ∙ nothing-difference r.amount.value.content

pub gained_none : (before : List Share) (r : Share) → amount_under r.keyword before ≡ None → gained_by before r ≡ r.amount.value.content
gained_none before r none = ap (λ o. difference r.amount.value.content (content_in o)) none ∙ difference-nothing r.amount.value.content
