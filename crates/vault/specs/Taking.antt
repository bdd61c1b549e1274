-- A part of one holder that is taken in the hand.
use Rattle.vault_model.specs.amount_math.ValueView.{ValueView}
use Rattle.vault_model.specs.amount_math.declared.Amount.{Amount}
use Rattle.vault_model.specs.rights_model.declared.Holder.{Holder}
use Rattle.vault_model.specs.rights_model.declared.Holder.TheVariants.{Hand}
use Rattle.vault_model.specs.rights_model.Table.{movement}
use Rattle.vault_model.specs.Lists.{amount_of}
use Rattle.vault.specs.Drafts.{DraftState, after}
use Rattle.vault.specs.Asked.{brand_of}

-- the part, as an amount of the holder's brand
abbrev pub part_of : DraftState → Holder → ValueView → Amount
part_of d from w = amount_of (brand_of d.now from) w

-- the draft once the part was taken in the hand
abbrev pub with_part_taken : DraftState → Holder → ValueView → DraftState
with_part_taken d from w = after d (movement (brand_of d.now from) from Hand w)
