use Rattle.vault_model.specs.Lists.{moved, taken}
use Rattle.vault_model.specs.Tables.{hand_minus, hand_plus, no_hand}
use Rattle.vault_model.proofs.Sound.{in_and_out, plus_has, sound_alike, sound_given, sound_taken}
use Rattle.vault_model.proofs.laws.balance_is_kept.Goals as goal

pub returns : goal.returns
returns g c =
    let m = c.args.step.now in
    sound_alike (moved g.lists m) (hand_minus (hand_plus no_hand m.brand m.value.content) m.brand m.value.content) no_hand (in_and_out no_hand m.brand m.value.content)
    (sound_given (taken g.lists m.from m.brand m.value) (hand_plus no_hand m.brand m.value.content) m.brand m.value
    (sound_taken g.lists no_hand m.brand m.value c.requires.1.1 m.from c.requires.0)
    m.to c.requires.1.0 (plus_has no_hand m.brand m.value.content))
