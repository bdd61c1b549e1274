-- What was made stays what it is, whatever an effect does.
use Rattle.std.specs.Prelude.{◌==◌, cond, slice_set}
use Rattle.std.specs.Option.{option_map}
use Rattle.std.proofs.Common.{◌≡◌, ℕ, ◌≤◌, true, false, List, [], ◌∷◌, ◌++◌, Some, None, Option, length, map, refl, ◌∙◌, ap, arith}
use Rattle.world_state.proofs.lemmas.ListEdits.{length_push, length_set}
use Rattle.world_state.specs.brands.Brands.{brand_at, no_brand}
use Rattle.world_state.specs.actors.Facets.{no_facet}
use Rattle.world_state.specs.actors.SeatPromises.{no_pair, pair_at}
use Rattle.world_state.specs.actors.Tables.{no_instance, no_module}
use Rattle.world_state.specs.turn_stores.Details.{no_details}
use Rattle.world_state.specs.holders.PaymentViews.{PaymentView, live_payment, payment_view_at, spent_payment}
use Rattle.world_state.specs.ertp_mint.Stocks.{empty_amount}
use Rattle.world_state.specs.host_data.Tree.{null}
use Rattle.world_state.specs.promise_store.States.{SettlementView, ok}
use Rattle.world_state.specs.rights_model.declared.Holder.{Holder}
use Rattle.world_state.specs.rights_model.declared.Holder.TheVariants.{Purse, Payment}
use Rattle.world_state.specs.rights_model.declared.Movement.{Movement}
use Rattle.world_state.specs.amount_math.Content.{Content}
use Rattle.world_state.specs.amount_math.ValueView.{ValueView}
use Rattle.world_state.specs.amount_math.declared.Amount.{Amount}
use Rattle.world_state.specs.turn_records.Deliveries.{Delivery, Notice}
use Rattle.world_state.specs.turn_records.Events.{Event}
use Rattle.world_state.specs.Known.{Extends, Grows, Keeps, WasLeft, WasSpent, instance_origin, seat_origin, whole}
use Rattle.world_state.specs.Promises.{CascadeStep, Flow, PromiseBook, all_stepped, asking, cascade, flowing, following, no_promise, notifies, WasSettled, resolving, resolving_to, settlement_at, settles, settling, stepped, target_of, with_promise}
use Rattle.world_state.specs.Rights.{Rights, all_moved, all_spent, given, moved, moved_together, paid, lessened_payment, raised_payment, slots_at, spent_from, taken, value_less, value_more, with_slots}
use Rattle.world_state.specs.Worlds.{Effect, State, after, burn_and_escrows, empty_slots, invitation_move, leaving_events, left_seat, next_pair, no_seat, of_host, paid_out, payouts_tree, request_of, seat_at, add_issuer, empty_payment, empty_seat, exit, halt, install, invite, keep_state, make_facet, moves, new_brand, new_purse, offer, publish, resolve, send, start, stop, when}
use Rattle.world_laws.proofs.Lists.{extends_push, extends_refl, extends_set, keeps_append, keeps_push, keeps_refl, keeps_set, keeps_trans, length_append}

-- ---- movements keep how many purses there are, and leave at least as many payments

purses_taken : (r : Rights) (h : Holder) (b : ℕ) (w : ValueView) → length (taken r h b w).purses ≡ length r.purses
purses_taken r (Purse n) b w = length_set r.purses n _
purses_taken r _ b w = refl

purses_given : (r : Rights) (h : Holder) (b : ℕ) (w : ValueView) → length (given r h b w).purses ≡ length r.purses
purses_given r (Purse n) b w = length_set r.purses n _
purses_given r _ b w = refl

purses_moved : (r : Rights) (ms : List Movement) → length (all_moved r ms).purses ≡ length r.purses
purses_moved r [] = refl
purses_moved r (m ∷ ms) = purses_moved (moved r m) ms ∙ (purses_given (taken r m.from m.brand m.value) m.to m.brand m.value ∙ purses_taken r m.from m.brand m.value)

payments_set : (ps : List PaymentView) (n : ℕ) (p : PaymentView) → length ps ≤ length (slice_set ps n p)
payments_set ps n p = omega (arith, length_set ps n p)

payments_paid : (ps : List PaymentView) (n : ℕ) (a : Amount) → length ps ≤ length (paid ps n a)
payments_paid ps n a = elim (n == length ps) as (λ t. length ps ≤ length (cond t (ps ++ live_payment a ∷ []) (slice_set ps n (raised_payment (payment_view_at ps n) a.value.content)))) [
  | true ↦ omega (arith, length_push ps (live_payment a))
  | false ↦ payments_set ps n _
]

payments_taken : (r : Rights) (h : Holder) (b : ℕ) (w : ValueView) → length r.payments ≤ length (taken r h b w).payments
payments_taken r (Payment n) b w = payments_set r.payments n _
payments_taken r _ b w = omega arith

payments_given : (r : Rights) (h : Holder) (b : ℕ) (w : ValueView) → length r.payments ≤ length (given r h b w).payments
payments_given r (Payment n) b w = payments_paid r.payments n _
payments_given r _ b w = omega arith

payments_moved : (r : Rights) (ms : List Movement) → length r.payments ≤ length (all_moved r ms).payments
payments_moved r [] = omega arith
payments_moved r (m ∷ ms) = omega (arith, payments_taken r m.from m.brand m.value, payments_given (taken r m.from m.brand m.value) m.to m.brand m.value, payments_moved (moved r m) ms)

payments_spent_from : (h : Holder) (ps : List PaymentView) → length ps ≤ length (spent_from h ps)
payments_spent_from (Payment n) ps = payments_set ps n _
payments_spent_from _ ps = omega arith

payments_spent : (ms : List Movement) (ps : List PaymentView) → length ps ≤ length (all_spent ms ps)
payments_spent [] ps = omega arith
payments_spent (m ∷ ms) ps = omega (arith, payments_spent_from m.from ps, payments_spent ms (spent_from m.from ps))

pub payments_together : (r : Rights) (ms : List Movement) → length r.payments ≤ length (moved_together r ms).payments
payments_together r ms = omega (arith, payments_moved r ms, payments_spent ms (all_moved r ms).payments)

pub purses_together : (r : Rights) (ms : List Movement) → length r.purses ≤ length (moved_together r ms).purses
purses_together r ms = omega (arith, purses_moved r ms)

-- ---- what was spent stays spent

abbrev StillSpent : List PaymentView → List PaymentView → Type 0
StillSpent ps qs = Keeps WasSpent (spent_payment 0) ps qs

spent_less : (p : PaymentView) (c : Content) → WasSpent p → WasSpent (lessened_payment p c)
spent_less p c is = ap (λ h. option_map (value_less c) h) is

spent_more : (p : PaymentView) (c : Content) → WasSpent p → WasSpent (raised_payment p c)
spent_more p c is = ap (λ h. option_map (value_more c) h) is

spent_paid : (ps : List PaymentView) (n : ℕ) (a : Amount) → StillSpent ps (paid ps n a)
spent_paid ps n a = elim (n == length ps) as (λ t. StillSpent ps (cond t (ps ++ live_payment a ∷ []) (slice_set ps n (raised_payment (payment_view_at ps n) a.value.content)))) [
  | true ↦ keeps_push WasSpent (spent_payment 0) ps (live_payment a)
  | false ↦ keeps_set WasSpent (spent_payment 0) ps n _ (spent_more (payment_view_at ps n) a.value.content)
]

spent_taken : (r : Rights) (h : Holder) (b : ℕ) (w : ValueView) → StillSpent r.payments (taken r h b w).payments
spent_taken r (Payment n) b w = keeps_set WasSpent (spent_payment 0) r.payments n _ (spent_less (payment_view_at r.payments n) w.content)
spent_taken r _ b w = keeps_refl WasSpent (spent_payment 0) r.payments

spent_given : (r : Rights) (h : Holder) (b : ℕ) (w : ValueView) → StillSpent r.payments (given r h b w).payments
spent_given r (Payment n) b w = spent_paid r.payments n _
spent_given r _ b w = keeps_refl WasSpent (spent_payment 0) r.payments

spent_moved : (r : Rights) (ms : List Movement) → StillSpent r.payments (all_moved r ms).payments
spent_moved r [] = keeps_refl WasSpent (spent_payment 0) r.payments
spent_moved r (m ∷ ms) =
    let t = taken r m.from m.brand m.value in
    let first = keeps_trans WasSpent (spent_payment 0) r.payments t.payments (moved r m).payments (payments_taken r m.from m.brand m.value) (spent_taken r m.from m.brand m.value) (spent_given t m.to m.brand m.value) in
    keeps_trans WasSpent (spent_payment 0) r.payments (moved r m).payments (all_moved r (m ∷ ms)).payments
    (omega (arith, payments_taken r m.from m.brand m.value, payments_given t m.to m.brand m.value)) first (spent_moved (moved r m) ms)

spent_still : (h : Holder) (ps : List PaymentView) → StillSpent ps (spent_from h ps)
spent_still (Payment n) ps = keeps_set WasSpent (spent_payment 0) ps n _ (λ is. refl)
spent_still _ ps = keeps_refl WasSpent (spent_payment 0) ps

spent_all : (ms : List Movement) (ps : List PaymentView) → StillSpent ps (all_spent ms ps)
spent_all [] ps = keeps_refl WasSpent (spent_payment 0) ps
spent_all (m ∷ ms) ps = keeps_trans WasSpent (spent_payment 0) ps (spent_from m.from ps) (all_spent (m ∷ ms) ps) (payments_spent_from m.from ps) (spent_still m.from ps) (spent_all ms (spent_from m.from ps))

spent_together : (r : Rights) (ms : List Movement) → StillSpent r.payments (moved_together r ms).payments
spent_together r ms = keeps_trans WasSpent (spent_payment 0) r.payments (all_moved r ms).payments _ (payments_moved r ms) (spent_moved r ms) (spent_all ms (all_moved r ms).payments)

-- ---- settling keeps how many promises there are

stepped_made : (v : SettlementView) (s : CascadeStep) (f : Flow) → length (stepped v s f).settled ≡ length f.settled
stepped_made v (settles p) f = length_set f.settled p _
stepped_made v (notifies p) f = refl

pub all_stepped_made : (v : SettlementView) (ss : List CascadeStep) (f : Flow) → length (all_stepped v ss f).settled ≡ length f.settled
all_stepped_made v [] f = refl
all_stepped_made v (s ∷ ss) f = all_stepped_made v ss (stepped v s f) ∙ stepped_made v s f

settling_made : (p : ℕ) (v : SettlementView) (b : PromiseBook) (ds : List Delivery) (log : List Event) → length (settling p v b ds log).promises.settled ≡ length b.settled
settling_made p v b ds log = all_stepped_made v (cascade (length b.settled) b.follows p) (flowing b ds log)

following_made : (s : Option SettlementView) (p q : ℕ) (b : PromiseBook) (ds : List Delivery) (log : List Event) → length (following s p q b ds log).promises.settled ≡ length b.settled
following_made (Some v) p q b ds log = settling_made p v b ds log
following_made None p q b ds log = refl

resolving_to_made : (q : Option ℕ) (p : ℕ) (v : SettlementView) (b : PromiseBook) (ds : List Delivery) (log : List Event) → length (resolving_to q p v b ds log).promises.settled ≡ length b.settled
resolving_to_made None p v b ds log = settling_made p v b ds log
resolving_to_made (Some q) p v b ds log = following_made (settlement_at b.settled q) p q b ds log

pub resolving_made : (p : ℕ) (v : SettlementView) (b : PromiseBook) (ds : List Delivery) (log : List Event) → length (resolving p v b ds log).promises.settled ≡ length b.settled
resolving_made p v b ds log = resolving_to_made (target_of v) p v b ds log

-- and keeps what is settled

abbrev pub StillSettled : List (Option SettlementView) → List (Option SettlementView) → Type 0
StillSettled ss ts = Keeps WasSettled no_promise ss ts

pub stepped_still : (v : SettlementView) (s : CascadeStep) (f : Flow) → StillSettled f.settled (stepped v s f).settled
stepped_still v (settles p) f = keeps_set WasSettled no_promise f.settled p (Some v) (λ is. refl)
stepped_still v (notifies p) f = keeps_refl WasSettled no_promise f.settled

pub all_stepped_still : (v : SettlementView) (ss : List CascadeStep) (f : Flow) → StillSettled f.settled (all_stepped v ss f).settled
all_stepped_still v [] f = keeps_refl WasSettled no_promise f.settled
all_stepped_still v (s ∷ ss) f = keeps_trans WasSettled no_promise f.settled (stepped v s f).settled (all_stepped v (s ∷ ss) f).settled (omega (arith, stepped_made v s f)) (stepped_still v s f) (all_stepped_still v ss (stepped v s f))

settling_still : (p : ℕ) (v : SettlementView) (b : PromiseBook) (ds : List Delivery) (log : List Event) → StillSettled b.settled (settling p v b ds log).promises.settled
settling_still p v b ds log = all_stepped_still v (cascade (length b.settled) b.follows p) (flowing b ds log)

following_still : (s : Option SettlementView) (p q : ℕ) (b : PromiseBook) (ds : List Delivery) (log : List Event) → StillSettled b.settled (following s p q b ds log).promises.settled
following_still (Some v) p q b ds log = settling_still p v b ds log
following_still None p q b ds log = keeps_refl WasSettled no_promise b.settled

resolving_to_still : (q : Option ℕ) (p : ℕ) (v : SettlementView) (b : PromiseBook) (ds : List Delivery) (log : List Event) → StillSettled b.settled (resolving_to q p v b ds log).promises.settled
resolving_to_still None p v b ds log = settling_still p v b ds log
resolving_to_still (Some q) p v b ds log = following_still (settlement_at b.settled q) p q b ds log

resolving_still : (p : ℕ) (v : SettlementView) (b : PromiseBook) (ds : List Delivery) (log : List Event) → StillSettled b.settled (resolving p v b ds log).promises.settled
resolving_still p v b ds log = resolving_to_still (target_of v) p v b ds log

asking_still : (s : Option SettlementView) (n : Notice) (b : PromiseBook) → StillSettled b.settled (asking s n b).settled
asking_still (Some v) n b = keeps_refl WasSettled no_promise b.settled
asking_still None n b = keeps_refl WasSettled no_promise b.settled

one_more_still : (s : Option SettlementView) (ss : List (Option SettlementView)) → StillSettled ss (ss ++ s ∷ [])
one_more_still s ss = keeps_push WasSettled no_promise ss s

two_more_still : (s t : Option SettlementView) (ss : List (Option SettlementView)) → StillSettled ss ((ss ++ s ∷ []) ++ t ∷ [])
two_more_still s t ss = keeps_trans WasSettled no_promise ss (ss ++ s ∷ []) _ (omega (arith, length_push ss s)) (one_more_still s ss) (one_more_still t (ss ++ s ∷ []))

asking_made : (s : Option SettlementView) (n : Notice) (b : PromiseBook) → length (asking s n b).settled ≡ length b.settled
asking_made (Some v) n b = refl
asking_made None n b = refl

-- ---- store by store

purses_grow : (w : State) (e : Effect) → length w.rights.purses ≤ length (after w e).rights.purses
purses_grow w (new_purse b) = omega (arith, length_push w.rights.purses (empty_amount b (brand_at w.brands b).kind))
purses_grow w (moves ms) = purses_together w.rights ms
purses_grow w (offer o) = purses_together (with_slots w.rights (empty_slots o.proposal)) (burn_and_escrows o)
purses_grow w (invite d) = purses_together w.rights (invitation_move w ∷ [])
purses_grow w _ = omega arith

payments_grow : (w : State) (e : Effect) → length w.rights.payments ≤ length (after w e).rights.payments
payments_grow w (empty_payment b) = omega (arith, length_push w.rights.payments (live_payment (empty_amount b (brand_at w.brands b).kind)))
payments_grow w (moves ms) = payments_together w.rights ms
payments_grow w (offer o) = payments_together (with_slots w.rights (empty_slots o.proposal)) (burn_and_escrows o)
payments_grow w (invite d) = payments_together w.rights (invitation_move w ∷ [])
payments_grow w (exit s cause) = omega (arith, length_append w.rights.payments (map paid_out (slots_at w.rights.slots s)))
payments_grow w _ = omega arith

brands_grow : (w : State) (e : Effect) → Extends whole no_brand w.brands (after w e).brands
brands_grow w (new_brand b maker) = extends_push whole no_brand w.brands b
brands_grow w _ = extends_refl whole no_brand w.brands

makers_grow : (w : State) (e : Effect) → Extends whole of_host w.makers (after w e).makers
makers_grow w (new_brand b maker) = extends_push whole of_host w.makers maker
makers_grow w _ = extends_refl whole of_host w.makers

seats_grow : (w : State) (e : Effect) → Extends seat_origin no_seat w.seats (after w e).seats
seats_grow w (offer o) = extends_push seat_origin no_seat w.seats _
seats_grow w (empty_seat i rule) = extends_push seat_origin no_seat w.seats _
seats_grow w (exit s cause) = extends_set seat_origin no_seat w.seats s (left_seat (seat_at w.seats s) (slots_at w.rights.slots s)) refl
seats_grow w _ = extends_refl seat_origin no_seat w.seats

pairs_grow : (w : State) (e : Effect) → Extends whole no_pair w.pairs (after w e).pairs
pairs_grow w (offer o) = extends_push whole no_pair w.pairs (next_pair w)
pairs_grow w (empty_seat i rule) = extends_push whole no_pair w.pairs (next_pair w)
pairs_grow w _ = extends_refl whole no_pair w.pairs

invitations_grow : (w : State) (e : Effect) → Extends whole no_details w.invitations (after w e).invitations
invitations_grow w (invite d) = extends_push whole no_details w.invitations d
invitations_grow w _ = extends_refl whole no_details w.invitations

installations_grow : (w : State) (e : Effect) → Extends whole no_module w.tables.installations (after w e).tables.installations
installations_grow w (install m) = extends_push whole no_module w.tables.installations m
installations_grow w _ = extends_refl whole no_module w.tables.installations

instances_grow : (w : State) (e : Effect) → Extends instance_origin no_instance w.tables.instances (after w e).tables.instances
instances_grow w (start s) = extends_push instance_origin no_instance w.tables.instances _
instances_grow w (add_issuer i issuer) = extends_set instance_origin no_instance w.tables.instances i _ refl
instances_grow w (publish i facet) = extends_set instance_origin no_instance w.tables.instances i _ refl
instances_grow w (keep_state i values) = extends_set instance_origin no_instance w.tables.instances i _ refl
instances_grow w (stop i) = extends_set instance_origin no_instance w.tables.instances i _ refl
instances_grow w (halt i) = extends_set instance_origin no_instance w.tables.instances i _ refl
instances_grow w _ = extends_refl instance_origin no_instance w.tables.instances

facets_grow : (w : State) (e : Effect) → Extends whole no_facet w.facets (after w e).facets
facets_grow w (make_facet f) = extends_push whole no_facet w.facets f
facets_grow w _ = extends_refl whole no_facet w.facets

one_more : (s : Option SettlementView) (ss : List (Option SettlementView)) → length ss ≤ length (ss ++ s ∷ [])
one_more s ss = omega (arith, length_push ss s)

promises_grow : (w : State) (e : Effect) → length w.promises.settled ≤ length (after w e).promises.settled
promises_grow w (offer o) = omega (arith, one_more None w.promises.settled, one_more None (w.promises.settled ++ None ∷ []))
promises_grow w (empty_seat i rule) = omega (arith, one_more (Some (ok null)) w.promises.settled, one_more None (w.promises.settled ++ Some (ok null) ∷ []))
promises_grow w (exit s cause) = omega (arith, resolving_made (pair_at w.pairs s).payouts (ok (payouts_tree w s)) w.promises w.waiting (w.log ++ leaving_events w s cause))
promises_grow w (resolve p v) = omega (arith, resolving_made p v w.promises w.waiting w.log)
promises_grow w (send i target method arguments) = one_more None w.promises.settled
promises_grow w (when i p function held) = omega (arith, one_more None w.promises.settled, asking_made (settlement_at w.promises.settled p) (request_of w i p function held) (with_promise None w.promises))
promises_grow w (start s) = one_more None w.promises.settled
promises_grow w _ = omega arith

settled_still : (w : State) (e : Effect) → StillSettled w.promises.settled (after w e).promises.settled
settled_still w (offer o) = two_more_still None None w.promises.settled
settled_still w (empty_seat i rule) = two_more_still (Some (ok null)) None w.promises.settled
settled_still w (exit s cause) = resolving_still (pair_at w.pairs s).payouts (ok (payouts_tree w s)) w.promises w.waiting (w.log ++ leaving_events w s cause)
settled_still w (resolve p v) = resolving_still p v w.promises w.waiting w.log
settled_still w (send i target method arguments) = one_more_still None w.promises.settled
settled_still w (when i p function held) =
    keeps_trans WasSettled no_promise w.promises.settled (w.promises.settled ++ None ∷ []) _ (one_more None w.promises.settled) (one_more_still None w.promises.settled)
    (asking_still (settlement_at w.promises.settled p) (request_of w i p function held) (with_promise None w.promises))
settled_still w (start s) = one_more_still None w.promises.settled
settled_still w _ = keeps_refl WasSettled no_promise w.promises.settled

left_still : (w : State) (e : Effect) → Keeps WasLeft no_seat w.seats (after w e).seats
left_still w (offer o) = keeps_push WasLeft no_seat w.seats _
left_still w (empty_seat i rule) = keeps_push WasLeft no_seat w.seats _
left_still w (exit s cause) = keeps_set WasLeft no_seat w.seats s (left_seat (seat_at w.seats s) (slots_at w.rights.slots s)) (λ is. refl)
left_still w _ = keeps_refl WasLeft no_seat w.seats

spent_after : (w : State) (e : Effect) → StillSpent w.rights.payments (after w e).rights.payments
spent_after w (empty_payment b) = keeps_push WasSpent (spent_payment 0) w.rights.payments _
spent_after w (moves ms) = spent_together w.rights ms
spent_after w (offer o) = spent_together (with_slots w.rights (empty_slots o.proposal)) (burn_and_escrows o)
spent_after w (invite d) = spent_together w.rights (invitation_move w ∷ [])
spent_after w (exit s cause) = keeps_append WasSpent (spent_payment 0) w.rights.payments (map paid_out (slots_at w.rights.slots s))
spent_after w _ = keeps_refl WasSpent (spent_payment 0) w.rights.payments

pub grows-after : (w : State) (e : Effect) → Grows w (after w e)
grows-after w e = record {
  brands = brands_grow w e;
  makers = makers_grow w e;
  purses = purses_grow w e;
  payments = payments_grow w e;
  seats = seats_grow w e;
  pairs = pairs_grow w e;
  invitations = invitations_grow w e;
  installations = installations_grow w e;
  instances = instances_grow w e;
  facets = facets_grow w e;
  promises = promises_grow w e;
  settled = settled_still w e;
  left = left_still w e;
  spent = spent_after w e;
}
