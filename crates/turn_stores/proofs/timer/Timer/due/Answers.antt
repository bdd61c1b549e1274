use Rattle.turn_stores.proofs.Due.{rising}
use Rattle.turn_stores.proofs.timer.Timer.due.Goals as goal

pub returns-in-Some-clause-by_time : goal.returns-in-Some-clause-by_time
returns-in-Some-clause-by_time g c = rw (← c.self.view_is) (rising c.self.inside.entries.now c.keeps_order.ensures.now)

pub returns-in-None-clause-by_time : goal.returns-in-None-clause-by_time
returns-in-None-clause-by_time g c = rw (← c.self.view_is) (rising c.self.inside.entries.now c.keeps_order.ensures.now)
