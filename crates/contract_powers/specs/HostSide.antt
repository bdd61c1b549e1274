-- The host keeps to its side: a call of what the instance may name is answered with what it may name, and what it
-- might name it may name after it.
use Rattle.jessie_machine.specs.jessie_semantics.Keeping.{CallHas, Reference, ReplyHas, Within}
use Rattle.jessie_machine.specs.jessie_semantics.Play.{Exchange}
use Rattle.contract_powers.specs.Situations.{IsAnswered, Knows, Situation}

pub keeps_to_its_side : (s : Situation) (x : Exchange) (v : Situation) → IsAnswered s v x → CallHas (Within (Knows s)) x.call
    → ReplyHas (Within (Knows v)) x.reply × ((r : Reference) → Knows s r → Knows v r)
keeps_to_its_side s x v is known = (is.replied, is.grown)
