-- What a host answers and tells has the form that is asked of rows.
use Rattle.std.proofs.Common.{◌≡◌, true, refl}
use Rattle.turn_rows.specs.Form.{IsAnswerOf, MayStand, may_call}
use Rattle.turn_rows.specs.HostForms.{IsHostAnswerOf, IsHostTickAnswer, runs_function}
use Rattle.turn_rows.specs.Form.{IsTickAnswer}
use Rattle.turn_rows.specs.Kinds as kinds
use Rattle.turn_rows.specs.Kinds.{Kind}
use Rattle.turn_rows.specs.Turns.{Answer, ok, refused, threw, spent, Event, called}

tick_answer : (a : Answer) → IsHostTickAnswer a → IsTickAnswer a
tick_answer (ok d) h = h
tick_answer (refused code shown) h = tt
tick_answer (threw d) h = absurd h
tick_answer (spent meter) h = absurd h

pub host_answer : (k : Kind) (a : Answer) → IsHostAnswerOf k a → IsAnswerOf k a
host_answer kinds.tick a h = tick_answer a h
host_answer k a h = h

function_may : (k : Kind) (a : Answer) → runs_function k a ≡ true → may_call a ≡ true
function_may k (ok d) h = refl
function_may k (refused code shown) h = refl
function_may k (threw d) h = refl
function_may k (spent meter) h = h

pub host_call : (k : Kind) (a : Answer) (e : Event) → MayStand (runs_function k a) e → MayStand (may_call a) e
host_call k a (called c) h = function_may k a h
host_call k a e h = tt
