use Rattle.std.proofs.Common.{refl}
use Rattle.world_state.proofs.lemmas.ListEdits.{map_push}
use Rattle.world_state.specs.vault_model.Seats.{new_kept_seat}
use Rattle.world_laws.specs.Views.{seat_of}
use Rattle.world_laws.proofs.Views.{payment_issued, seat_opened}
use Rattle.world_laws.proofs.rights_views.what_is_opened_is_in_the_world.Goals as goal

pub returns-clause-purse : goal.returns-clause-purse
returns-clause-purse c = λ s b kind. refl

pub returns-clause-brand : goal.returns-clause-brand
returns-clause-brand c = λ s kind. refl

pub returns-clause-slots : goal.returns-clause-slots
returns-clause-slots c = seat_opened

pub returns-clause-seat : goal.returns-clause-seat
returns-clause-seat c = λ s instance p. map_push seat_of s.seats (new_kept_seat instance p)

pub returns-clause-payment : goal.returns-clause-payment
returns-clause-payment c = payment_issued
