-- Good effects account for what changes: of who holds what, of totals, of payments.
use Rattle.std.specs.Prelude.{◌≡◌, ◌||◌, ◌<◌, ◌≤◌, ℕ, suc, Bool, true, false, List, [], ◌∷◌, ◌++◌, length, map, refl}
use Rattle.std.specs.List.{AllByRecursion}
use Rattle.std.proofs.Common.{append_assoc, inl, inr, sym, ◌∙◌, ap, subst, arith}
use Rattle.std.proofs.lemmas.List.{append-nil}
use Rattle.std.proofs.lemmas.List.Folds.{list_any-append}
use Rattle.fair_rows.specs.amount_math.Content.{Content, nothing, sum, sum-assoc, sum-comm}
use Rattle.fair_rows.specs.amount_math.Counted.{counted, counted-nothing, counted-sum}
use Rattle.delivery_laws.specs.ertp_mint.BrandSupply.{BrandSupply, new_supply}
use Rattle.delivery_laws.specs.host_data.Tree.{null}
use Rattle.delivery_laws.proofs.lemmas.ListEdits.{length_push}
use Rattle.delivery_laws.specs.holders.PaymentViews.{PaymentView, live_payment}
use Rattle.delivery_laws.specs.promise_store.States.{SettlementView}
use Rattle.delivery_laws.specs.proposals.Shares.{AreApart, AreShares}
use Rattle.delivery_laws.specs.proposals.Slots.{slots_of}
use Rattle.delivery_laws.specs.proposals.declared.allocations.Share.{Share}
use Rattle.fair_rows.specs.rights_model.Supply.{burned, minted}
use Rattle.fair_rows.specs.rights_model.Table as table
use Rattle.fair_rows.specs.rights_model.Table.{Table, table_after}
use Rattle.fair_rows.specs.rights_model.declared.Movement.{Movement}
use Rattle.fair_rows.proofs.rights_model.TableLaws.{table_after-append}
use Rattle.delivery_laws.specs.vault_model.Lists.{amount_of}
use Rattle.delivery_laws.specs.vault_model.Tables.{no_hand}
use Rattle.fair_rows.specs.Movements.{is_payment_at, names, takes_from}
use Rattle.delivery_laws.specs.turn_records.Events as events
use Rattle.delivery_laws.specs.turn_records.Events.{Event, move_in, moves_in}
use Rattle.fair_rows.specs.turn_rows.Causes.{Cause}
use Rattle.delivery_laws.proofs.world_laws.Instances.{open_made}
use Rattle.delivery_laws.proofs.world_laws.Kept.{good-after}
use Rattle.delivery_laws.proofs.world_laws.Lists.{all_append, all_map, all_read_or}
use Rattle.delivery_laws.proofs.world_laws.OfKinds.{KindsStay, SameKinds, amount_stays, of_movement, shares_stay, same_moved, same_refl, same_together, same_trans, stay_push, stay_same}
use Rattle.delivery_laws.proofs.world_laws.Supplies.{can_invite}
use Rattle.delivery_laws.specs.world_state.Good.{AreGood, AreSharesOf, AreSharesValued, AreValues, CanOffer, HasNothing, IsFresh, IsGoodEffect, IsGoodWorld, rights_for}
use Rattle.delivery_laws.specs.world_state.Rights.{CanMoveAll, Rights, all_moved, all_spent, hand_after, moved, moved_together, slots_at, with_slots}
use Rattle.delivery_laws.specs.world_state.Worlds.{Effect, IsOpen, Offering, State, after, after_all, burn_and_escrows, empty_payment, empty_seat, exit, invitation_move, invite, leaving_events, moves, moves_out, new_brand, new_purse, note_call, nothing_of, of_own, offer, offered_by, payout_moves, payouts_tree, promises_made, resolve, seat_at}
use Rattle.delivery_laws.specs.actors.SeatPromises.{pair_at}
use Rattle.delivery_laws.specs.promise_store.States.{ok}
use Rattle.delivery_laws.specs.world_laws.Tables.{table_of}
use Rattle.delivery_laws.proofs.world_laws.Agreeing.{agrees_together, can_all}
use Rattle.delivery_laws.proofs.world_laws.LeftTables.{left_is, payouts_can}
use Rattle.delivery_laws.proofs.world_laws.Openings as tables
use Rattle.delivery_laws.proofs.world_laws.Tabled.{table_agrees, table_is}
use Rattle.fair_laws.specs.Accounts.{Accounts, AreStoredEffects, IsAccounted, IsKnownEvent, IsStoredEffect, burned_of, is_taken, minted_of, out_of}
use Rattle.delivery_laws.specs.rules.Licence.{IsStored}
use Rattle.fair_laws.proofs.Moves.{all_as_many, movement_valued, moved_valued}
use Rattle.fair_laws.proofs.Offers as offers
use Rattle.fair_laws.proofs.PaymentViews.{all_more, all_named, live_of_taken, push_alike, together_taken}
use Rattle.fair_laws.proofs.Rows.{Settles, resolving_settles}
use Rattle.fair_laws.proofs.Supplies.{burned_counts, minted_counts, out_is, out_pushed, supply_pushed, where_append}

-- ---- movements made together

together : (r : Rights) (ms : List Movement) → CanMoveAll r no_hand ms → AllByRecursion (λ (m : Movement). HasNothing (all_moved r ms).payments m.from) ms → AllByRecursion (λ (m : Movement). IsFresh (length r.payments) m.to) ms → Accounts r (moved_together r ms) ms
together r ms can emptied fresh = record {
  defined = can_all r no_hand (table_of r) ms can (table_agrees r);
  table = table_is (moved_together r ms) (table_after (table_of r) ms) (agrees_together r (table_of r) ms can emptied (table_agrees r));
  out = λ b. out_is r no_hand ms can b;
  minted_is = λ b. minted_counts r no_hand ms can b;
  burned_is = λ b. burned_counts r no_hand ms can b;
  payments = omega (arith, all_more r ms, all_as_many ms (all_moved r ms).payments);
  made = λ p le. all_named r no_hand ms p can (omega (arith, le, all_as_many ms (all_moved r ms).payments));
  live = λ p is. live_of_taken r no_hand ms p can fresh is;
  taken = λ p is. together_taken r no_hand ms p can ∙ ap (λ t. takes_from p ms || t) is ∙ no_more (takes_from p ms);
  stays_taken = λ p is. together_taken r no_hand ms p can ∙ ap (λ t. takes_from p ms || t) is ∙ sure (takes_from p ms);
}
  where
    no_more : (t : Bool) → (t || false) ≡ t
    no_more true = refl
    no_more false = refl

    sure : (t : Bool) → (t || true) ≡ true
    sure true = refl
    sure false = refl

-- ---- without movements

quiet : (r s : Rights) → table_of s ≡ table_of r → ((b : ℕ) → out_of s b ≡ out_of r b) → ((b : ℕ) → minted_of s b ≡ minted_of r b) → ((b : ℕ) → burned_of s b ≡ burned_of r b) → length r.payments ≤ length s.payments → ((p : ℕ) → is_taken s.payments p ≡ is_taken r.payments p) → Accounts r s []
quiet r s same out minted_same burned_same more taken = record {
  defined = tt;
  table = same;
  out = λ b. ap (λ c. sum c nothing) (out b);
  minted_is = λ b. omega (arith, minted_same b, counted-nothing);
  burned_is = λ b. omega (arith, burned_same b, counted-nothing);
  payments = more;
  made = λ p le. refl;
  live = λ p is. refl;
  taken = λ p is. taken p ∙ is;
  stays_taken = λ p is. taken p ∙ is;
}

pub same_rights : (r : Rights) → Accounts r r []
same_rights r = quiet r r refl (λ b. refl) (λ b. refl) (λ b. refl) (omega arith) (λ p. refl)

-- ---- movements after movements

can_append : (t : Table) (ms ns : List Movement) → table.CanMoveAll t ms → table.CanMoveAll (table_after t ms) ns → table.CanMoveAll t (ms ++ ns)
can_append t [] ns a b = b
can_append t (m ∷ ms) ns a b = (a.0, can_append (table.moved t m) ms ns a.1 b)

names_append : (p : ℕ) (ms ns : List Movement) → names p (ms ++ ns) ≡ (names p ms || names p ns)
names_append p ms ns = list_any-append (λ (m : Movement). is_payment_at p m.from || is_payment_at p m.to) ms ns

takes_append : (p : ℕ) (ms ns : List Movement) → takes_from p (ms ++ ns) ≡ (takes_from p ms || takes_from p ns)
takes_append p ms ns = list_any-append (λ (m : Movement). is_payment_at p m.from) ms ns

neither : (a b : Bool) → a ≡ false → b ≡ false → (a || b) ≡ false
neither a b x y = ap (λ t. t || b) x ∙ y

pub accounts_more : (r s u : Rights) (ms ns : List Movement) → Accounts r s ms → Accounts s u ns → Accounts r u (ms ++ ns)
accounts_more r s u ms ns one more = record {
  defined = can_append (table_of r) ms ns one.defined (subst (λ t. table.CanMoveAll t ns) one.table more.defined);
  table = more.table ∙ ap (λ t. table_after t ns) one.table ∙ sym (table_after-append (table_of r) ms ns);
  out = λ b.
      ap (sum (out_of u b)) (where_append (λ m. m.to) ms ns b ∙ sum-comm (burned ms b) (burned ns b)) ∙ sym (sum-assoc (out_of u b) (burned ns b) (burned ms b))
      ∙ ap (λ c. sum c (burned ms b)) (more.out b)
      ∙ sum-assoc (out_of s b) (minted ns b) (burned ms b) ∙ ap (sum (out_of s b)) (sum-comm (minted ns b) (burned ms b)) ∙ sym (sum-assoc (out_of s b) (burned ms b) (minted ns b))
      ∙ ap (λ c. sum c (minted ns b)) (one.out b)
      ∙ sum-assoc (out_of r b) (minted ms b) (minted ns b)
      ∙ ap (sum (out_of r b)) (sym (where_append (λ m. m.from) ms ns b));
  minted_is = λ b. omega (arith, one.minted_is b, more.minted_is b, ap counted (where_append (λ m. m.from) ms ns b), counted-sum (minted ms b) (minted ns b));
  burned_is = λ b. omega (arith, one.burned_is b, more.burned_is b, ap counted (where_append (λ m. m.to) ms ns b), counted-sum (burned ms b) (burned ns b));
  payments = omega (arith, one.payments, more.payments);
  made = λ p le. names_append p ms ns ∙ neither (names p ms) (names p ns) (one.made p (omega (arith, le, more.payments))) (more.made p le);
  live = λ p is. names_append p ms ns ∙ neither (names p ms) (names p ns) (one.live p is) (more.live p (one.stays_taken p is));
  taken = λ p is. by p (takes_from p ms) (one.taken p is) ∙ sym (takes_append p ms ns);
  stays_taken = λ p is. more.stays_taken p (one.stays_taken p is);
}
  where
    by : (p : ℕ) (t : Bool) → is_taken s.payments p ≡ t → is_taken u.payments p ≡ (t || takes_from p ns)
    by p true is = more.stays_taken p is
    by p false is = more.taken p is

-- ---- events

moves_append : (xs ys : List Event) → moves_in (xs ++ ys) ≡ moves_in xs ++ moves_in ys
moves_append [] ys = refl
moves_append (x ∷ xs) ys = ap (λ l. move_in x ++ l) (moves_append xs ys) ∙ sym (append_assoc (move_in x) (moves_in xs) (moves_in ys))

moves_told : (ms : List Movement) → moves_in (map events.moved ms) ≡ ms
moves_told [] = refl
moves_told (m ∷ ms) = ap (λ l. m ∷ l) (moves_told ms)

settled_none : (ps : List (ℕ × SettlementView)) → moves_in (map (λ p. events.settled p.0 p.1) ps) ≡ []
settled_none [] = refl
settled_none (p ∷ ps) = settled_none ps

settled_known : (out : List BrandSupply) (ps : List (ℕ × SettlementView)) → AllByRecursion (IsKnownEvent out) (map (λ p. events.settled p.0 p.1) ps)
settled_known out [] = tt
settled_known out (p ∷ ps) = (tt, settled_known out ps)

event_stays : (out new : List BrandSupply) → KindsStay out new → (e : Event) → IsKnownEvent out e → IsKnownEvent new e
event_stays out new stay (events.moved m) is = record { of_kind = amount_stays out new stay (amount_of m.brand m.value) is.of_kind; value = is.value }
event_stays out new stay (events.opened o) is = record { gives = shares_stay out new stay o.proposal.give is.gives; wants = shares_stay out new stay o.proposal.want is.wants; give_valued = is.give_valued; want_valued = is.want_valued }
event_stays out new stay (events.called c) is = tt
event_stays out new stay (events.exited x) is = tt
event_stays out new stay (events.settled n s) is = tt

pub events_stay : (out new : List BrandSupply) → KindsStay out new → (es : List Event) → AllByRecursion (IsKnownEvent out) es → AllByRecursion (IsKnownEvent new) es
events_stay out new stay es all = all_map (IsKnownEvent out) (IsKnownEvent new) (event_stays out new stay) es all

moved_known : (out : List BrandSupply) (r : Rights) (hand : ℕ → Content) (ms : List Movement) → SameKinds out r.out → CanMoveAll r hand ms → AreValues r → AllByRecursion IsStored ms → AllByRecursion (IsKnownEvent out) (map events.moved ms)
moved_known out r hand [] same can v stored = tt
moved_known out r hand (m ∷ ms) same can v stored = (
  record { of_kind = of_movement out r hand m same can.0; value = movement_valued r hand m can.0 v stored.0 },
  moved_known out (moved r m) (hand_after hand m) ms (same_trans out r.out (moved r m).out same (same_moved r m)) can.1 (moved_valued r hand m can.0 v) stored.1,
)

same_turned : (a b : List BrandSupply) → SameKinds a b → SameKinds b a
same_turned a b same = record { as_many = sym same.as_many; kind = λ n. sym (same.kind n) }

-- ---- worlds

accounted_more : (v w next : State) → KindsStay w.rights.out next.rights.out → IsAccounted v w → IsAccounted w next → IsAccounted v next
accounted_more v w next stay one more = record {
  events = one.events ++ more.events;
  told = more.told ∙ ap (λ l. l ++ more.events) one.told ∙ append_assoc v.log one.events more.events;
  accounts = subst (Accounts v.rights next.rights) (sym (moves_append one.events more.events)) (accounts_more v.rights w.rights next.rights (moves_in one.events) (moves_in more.events) one.accounts more.accounts);
  known = all_append (IsKnownEvent next.rights.out) one.events more.events (events_stay w.rights.out next.rights.out stay one.events one.known) more.known;
}

module _ (w : State) where
  nothing_told : (next : State) → next.log ≡ w.log → Accounts w.rights next.rights [] → IsAccounted w next
  nothing_told next same is = record { events = []; told = same ∙ sym (append-nil w.log); accounts = is; known = tt }

  moves_accounted : (next : State) (ms : List Movement) → next.log ≡ w.log ++ map events.moved ms → next.rights ≡ moved_together w.rights ms
      → CanMoveAll w.rights no_hand ms → AllByRecursion (λ (m : Movement). HasNothing (all_moved w.rights ms).payments m.from) ms → AllByRecursion (λ (m : Movement). IsFresh (length w.rights.payments) m.to) ms → AreValues w.rights → AllByRecursion IsStored ms → IsAccounted w next
  moves_accounted next ms log rights can emptied fresh v stored = record {
    events = map events.moved ms;
    told = log;
    accounts = subst (λ r. Accounts w.rights r (moves_in (map events.moved ms))) (sym rights) (subst (Accounts w.rights (moved_together w.rights ms)) (sym (moves_told ms)) (together w.rights ms can emptied fresh));
    known = subst (λ r. AllByRecursion (IsKnownEvent r.out) (map events.moved ms)) (sym rights) (moved_known (moved_together w.rights ms).out w.rights no_hand ms (same_turned w.rights.out (all_moved w.rights ms).out (same_together w.rights ms)) can v stored);
  }

  settled_accounted : (next : State) → next.rights ≡ w.rights → Settles w.log next.log → IsAccounted w next
  settled_accounted next rights is = record {
    events = map (λ p. events.settled p.0 p.1) is.promises;
    told = is.told;
    accounts = subst (Accounts w.rights next.rights) (sym (settled_none is.promises)) (subst (λ r. Accounts w.rights r []) (sym rights) (same_rights w.rights));
    known = settled_known next.rights.out is.promises;
  }

-- ---- a seat that is left

slots_spend_none : (s n : ℕ) (rs : List Share) (ps : List PaymentView) → all_spent (payout_moves s n rs) ps ≡ ps
slots_spend_none s n [] ps = refl
slots_spend_none s n (r ∷ rs) ps = slots_spend_none s (suc n) rs ps

payouts_fresh : (made s n : ℕ) (rs : List Share) → made ≤ n → AllByRecursion (λ (m : Movement). IsFresh made m.to) (payout_moves s n rs)
payouts_fresh made s n [] le = tt
payouts_fresh made s n (r ∷ rs) le = (le, payouts_fresh made s (suc n) rs (omega arith))

payouts_empty : (ps : List PaymentView) (s n : ℕ) (rs : List Share) → AllByRecursion (λ (m : Movement). HasNothing ps m.from) (payout_moves s n rs)
payouts_empty ps s n [] = tt
payouts_empty ps s n (r ∷ rs) = (tt, payouts_empty ps s (suc n) rs)

payouts_stored : (s n : ℕ) (rs : List Share) → AllByRecursion IsStored (payout_moves s n rs)
payouts_stored s n [] = tt
payouts_stored s n (r ∷ rs) = (inl tt, payouts_stored s (suc n) rs)

module _ (w : State) (s : ℕ) (cause : Cause) (good : IsGoodWorld w) (is : IsOpen (seat_at w.seats s)) where
  abbrev slots : List Share
  slots = slots_at w.rights.slots s

  abbrev next : State
  next = after w (exit s cause)

  abbrev ms : List Movement
  ms = moves_out w s

  made : s < length w.rights.slots
  made = omega (arith, open_made w.seats s is, good.seats.slotted)

  apart : AreApart slots
  apart = (all_read_or AreShares w.rights.slots s [] good.seats.shares (record { few = omega arith; apart = tt })).apart

  can : CanMoveAll w.rights no_hand ms
  can = payouts_can w.rights s made apart (all_read_or (AreSharesOf w.rights.out) w.rights.slots s [] good.slot_kinds tt) (all_read_or AreSharesValued w.rights.slots s [] good.valued.slots tt)

  rights_are : next.rights ≡ moved_together w.rights ms
  rights_are = sym ((λ i. record (all_moved w.rights ms) { payments = slots_spend_none s (length w.rights.payments) slots (all_moved w.rights ms).payments i }) ∙ left_is w.rights s made apart)

  settled : Settles (w.log ++ leaving_events w s cause) next.log
  settled = resolving_settles (pair_at w.pairs s).payouts (ok (payouts_tree w s)) w.promises w.waiting (w.log ++ leaving_events w s cause)

  exit_accounted : IsAccounted w next
  exit_accounted =
      let settlements : List Event = map (λ p. events.settled p.0 p.1) settled.promises in
      let moved_events : List Event = map events.moved ms in
      let only : moves_in (leaving_events w s cause ++ settlements) ≡ ms =
      moves_append (leaving_events w s cause) settlements ∙ ap (λ l. l ++ moves_in settlements) (moves_told ms) ∙ ap (λ l. ms ++ l) (settled_none settled.promises) ∙ append-nil ms in
      record {
        events = leaving_events w s cause ++ settlements;
        told = settled.told ∙ append_assoc w.log (leaving_events w s cause) settlements;
        accounts = subst (Accounts w.rights next.rights) (sym only) (subst (λ r. Accounts w.rights r ms) (sym rights_are) (together w.rights ms can (payouts_empty (all_moved w.rights ms).payments s (length w.rights.payments) slots) (payouts_fresh (length w.rights.payments) s (length w.rights.payments) slots (omega arith))));
        known = (
          tt,
          all_append (IsKnownEvent next.rights.out) moved_events settlements
              (moved_known w.rights.out w.rights no_hand ms (same_refl w.rights.out) can good.valued (payouts_stored s (length w.rights.payments) slots))
              (settled_known next.rights.out settled.promises),
        );
      }

-- ---- an offer

module _ (w : State) (o : Offering) (good : IsGoodWorld w) (can : CanOffer w o) where
  abbrev opened_rights : Rights
  opened_rights = rights_for w o

  abbrev all_moves : List Movement
  all_moves = burn_and_escrows o

  opened_quietly : Accounts w.rights opened_rights []
  opened_quietly = quiet w.rights opened_rights (tables.seat_opened w.rights (slots_of o.proposal)) (λ b. refl) (λ b. refl) (λ b. refl) (omega arith) (λ p. refl)

  offer_accounted : IsAccounted w (after w (offer o))
  offer_accounted =
      let next = after w (offer o) in
      let kinds = same_turned w.rights.out next.rights.out (same_together opened_rights all_moves) in
      let stay = stay_same w.rights.out next.rights.out (same_together opened_rights all_moves) in
      record {
        events = events.opened (record { seat = length w.seats; instance = (offered_by w o).instance; proposal = o.proposal }) ∷ map events.moved all_moves;
        told = refl;
        accounts = subst (Accounts w.rights next.rights) (sym (moves_told all_moves)) (accounts_more w.rights opened_rights next.rights [] all_moves opened_quietly (together opened_rights all_moves can.moves.can can.moves.emptied can.moves.fresh));
        known = (
          record {
            gives = shares_stay w.rights.out next.rights.out stay o.proposal.give can.proposal.gives;
            wants = shares_stay w.rights.out next.rights.out stay o.proposal.want can.proposal.wants;
            give_valued = can.proposal.give_valued;
            want_valued = can.proposal.want_valued;
          },
          moved_known next.rights.out opened_rights no_hand all_moves kinds can.moves.can (offers.opened_valued w o good) (offers.offer_stored w o can),
        );
      }

-- ---- by effect

-- the kinds of brands stay
kinds_stay : (w : State) (e : Effect) → KindsStay w.rights.out (after w e).rights.out
kinds_stay w (new_brand b maker) = stay_push w.rights.out (new_supply b.kind)
kinds_stay w (moves ms) = stay_same w.rights.out (all_moved w.rights ms).out (same_together w.rights ms)
kinds_stay w (offer o) = stay_same w.rights.out (all_moved (rights_for w o) (burn_and_escrows o)).out (same_together (rights_for w o) (burn_and_escrows o))
kinds_stay w (invite d) = stay_same w.rights.out (all_moved w.rights (invitation_move w ∷ [])).out (same_together w.rights (invitation_move w ∷ []))
kinds_stay w e = stay_same w.rights.out w.rights.out (same_refl w.rights.out)

effect_accounted : (w : State) (e : Effect) → IsGoodWorld w → IsGoodEffect w e → IsStoredEffect e → IsAccounted w (after w e)
effect_accounted w (new_brand b maker) good can stored = nothing_told w (after w (new_brand b maker)) refl (quiet w.rights (after w (new_brand b maker)).rights (tables.brand_made w.rights (new_supply b.kind))
    (λ e. out_pushed w.rights.out b.kind e) (λ e. supply_pushed w.rights.out b.kind e (λ x. x.minted) refl) (λ e. supply_pushed w.rights.out b.kind e (λ x. x.burned) refl) (omega arith) (λ p. refl))
effect_accounted w (new_purse b) good can stored = nothing_told w (after w (new_purse b)) refl (quiet w.rights (after w (new_purse b)).rights (tables.purse_opened w.rights (nothing_of w b) refl) (λ e. refl) (λ e. refl) (λ e. refl) (omega arith) (λ p. refl))
effect_accounted w (empty_payment b) good can stored = nothing_told w (after w (empty_payment b)) refl (quiet w.rights (after w (empty_payment b)).rights (tables.payment_made w.rights (nothing_of w b) refl) (λ e. refl) (λ e. refl) (λ e. refl) (omega (arith, length_push w.rights.payments (live_payment (nothing_of w b)))) (push_alike w.rights.payments (nothing_of w b)))
effect_accounted w (moves ms) good can stored = moves_accounted w (after w (moves ms)) ms refl refl can.can can.emptied can.fresh good.valued stored
effect_accounted w (offer o) good can stored = offer_accounted w o good can
effect_accounted w (empty_seat i rule) good can stored = record {
  events = events.opened (record { seat = length w.seats; instance = i; proposal = of_own rule }) ∷ events.settled (promises_made w) (ok null) ∷ [];
  told = refl;
  accounts = quiet w.rights (with_slots w.rights []) (tables.seat_opened w.rights []) (λ e. refl) (λ e. refl) (λ e. refl) (omega arith) (λ p. refl);
  known = (record { gives = tt; wants = tt; give_valued = tt; want_valued = tt }, (tt, tt));
}
effect_accounted w (exit s cause) good can stored = exit_accounted w s cause good can
effect_accounted w (invite d) good can stored = moves_accounted w (after w (invite d)) (invitation_move w ∷ []) refl refl (can_invite w good can.few) (tt, tt) ((omega arith), tt) good.valued (inr tt, tt)
effect_accounted w (resolve p v) good can stored = settled_accounted w (after w (resolve p v)) refl (resolving_settles p v w.promises w.waiting w.log)
effect_accounted w (note_call c) good can stored = record { events = events.called c ∷ []; told = refl; accounts = same_rights w.rights; known = (tt, tt) }
effect_accounted w e good can stored = nothing_told w (after w e) refl (same_rights w.rights)

all_kinds_stay : (w : State) (es : List Effect) → KindsStay w.rights.out (after_all w es).rights.out
all_kinds_stay w [] = stay_same w.rights.out w.rights.out (same_refl w.rights.out)
all_kinds_stay w (e ∷ es) =
    let one = kinds_stay w e in
    let rest = all_kinds_stay (after w e) es in
    record { more = omega (arith, one.more, rest.more); kind = λ b lt. rest.kind b (omega (arith, lt, one.more)) ∙ one.kind b lt }

pub effects_accounted : (w : State) (es : List Effect) → IsGoodWorld w → AreGood w es → AreStoredEffects es → IsAccounted w (after_all w es)
effects_accounted w [] good each stored = nothing_told w w refl (same_rights w.rights)
effects_accounted w (e ∷ es) good each stored = accounted_more w (after w e) (after_all (after w e) es) (all_kinds_stay (after w e) es) (effect_accounted w e good each.0 stored.0) (effects_accounted (after w e) es (good-after w e each.0 good) each.1 stored.1)
