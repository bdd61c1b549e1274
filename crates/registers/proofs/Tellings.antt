-- What is told of one more event.
use Rattle.std.proofs.Common.{◌≡◌, ℕ, ◌+◌, ◌<◌, List, [], ◌∷◌, ◌++◌, length, map, take, get_or, sym, ap, ◌∙◌, append_assoc}
use Rattle.std.proofs.lemmas.List.{map-append, take_more}
use Rattle.world_state.specs.promise_store.Cascade.{settled_in}
use Rattle.world_state.specs.promise_store.States.{SettlementView}
use Rattle.world_state.specs.promise_store.declared.links.Consequence.{Consequence}
use Rattle.world_state.proofs.promise_store.Changes.{settled_in_more}
use Rattle.world_state.specs.turn_records.Deliveries.{Delivery, Notice, notify}
use Rattle.world_state.specs.turn_records.Events as told
use Rattle.registers.specs.Books.{answered_in, queued, recorded, told_of}
use Rattle.registers.proofs.Traces.{answered_in-append}

pub queued_more : (rs : List Notice) (es : List Consequence) (i : ℕ) (d : Consequence) (ds : List Delivery) → i < length es → queued rs (get_or es i d ∷ []) (queued rs (take i es) ds) ≡ queued rs (take (i + 1) es) ds
queued_more rs es i d ds h =
    append_assoc ds (map notify (answered_in rs (take i es))) (map notify (answered_in rs (get_or es i d ∷ [])))
    ∙ ap (λ (xs : List Delivery). ds ++ xs) (sym (map-append notify (answered_in rs (take i es)) (answered_in rs (get_or es i d ∷ [])))
    ∙ ap (map notify) (sym (answered_in-append rs (take i es) (get_or es i d ∷ [])) ∙ ap (answered_in rs) (sym (take_more es i d h))))

pub recorded_more : (v : SettlementView) (es : List Consequence) (i : ℕ) (d : Consequence) (log : List told.Event) → i < length es → recorded v (get_or es i d ∷ []) (recorded v (take i es) log) ≡ recorded v (take (i + 1) es) log
recorded_more v es i d log h =
    append_assoc log (map (told_of v) (settled_in (take i es))) (map (told_of v) (settled_in (get_or es i d ∷ [])))
    ∙ ap (λ (xs : List told.Event). log ++ xs) (sym (map-append (told_of v) (settled_in (take i es)) (settled_in (get_or es i d ∷ [])))
    ∙ ap (map (told_of v)) (sym (settled_in_more es i d h)))
