-- An offer is an act: its seat is opened, its invitation is burned, and just what it gives is escrowed.
use Rattle.std.specs.Prelude.{◌≡◌, ◌+◌, ◌≤◌, ◌||◌, ℕ, zero, suc, true, false, cond, List, [], ◌∷◌, ◌++◌, is_some, length, map, slice_set, refl}
use Rattle.std.specs.List.{AllByRecursion}
use Rattle.std.proofs.Common.{inl, sym, ◌∙◌, ap, subst, arith}
use Rattle.std.proofs.lemmas.List.{append-nil}
use Rattle.fair_rows.specs.amount_math.Content.{Content}
use Rattle.fair_rows.specs.amount_math.KindLaws.{nothing_is_value}
use Rattle.delivery_laws.specs.turn_stores.Elements.{element}
use Rattle.delivery_laws.proofs.lemmas.ListEdits.{read_pushed}
use Rattle.delivery_laws.specs.proposals.Slots.{emptied, in_byte_order, slots_of}
use Rattle.delivery_laws.specs.proposals.declared.allocations.Share.{Share}
use Rattle.fair_rows.specs.rights_model.Table.{table_after}
use Rattle.fair_rows.specs.rights_model.declared.Holder.{Holder}
use Rattle.fair_rows.specs.rights_model.declared.Holder.TheVariants.{Outside, Payment, Slot}
use Rattle.fair_rows.specs.rights_model.declared.Movement.{Movement}
use Rattle.delivery_laws.specs.vault_model.Lists.{amount_of, more}
use Rattle.delivery_laws.specs.vault_model.Tables.{no_hand}
use Rattle.delivery_laws.specs.turn_records.Values.{printed_value}
use Rattle.delivery_laws.specs.turn_records.Events as events
use Rattle.delivery_laws.specs.turn_records.Printed.{printed_move, printed_share, printed_shares}
use Rattle.fair_rows.specs.turn_rows.Turns as rows
use Rattle.fair_rows.specs.turn_rows.Turns.{KeywordAmount, Move, Opening, Turn}
use Rattle.fair_rows.specs.Acts as fair
use Rattle.fair_rows.specs.Acts.{offer_rows}
use Rattle.fair_rows.specs.ExitCauses.{Owners}
use Rattle.fair_rows.specs.Movements.{is_payment_at, movement_of, movements_in, names}
use Rattle.fair_rows.specs.Rows as fair_rules
use Rattle.fair_rows.specs.Rows.{FollowsKit, is_offer}
use Rattle.fair_rows.specs.Seats as told
use Rattle.fair_rows.specs.Seats.{brand_under}
use Rattle.fair_rows.proofs.Acts.{offer_is_act}
use Rattle.delivery_laws.proofs.world_laws.Lists.{all_push}
use Rattle.delivery_laws.specs.world_state.Good.{AreEscrows, AreSharesValued, AreValues, CanOffer, IsEscrow, IsGoodWorld, IsValued, rights_for}
use Rattle.delivery_laws.specs.world_state.Rights.{CanMoveAll, Rights, all_moved, given, hand_after, moved, moved_together, shares_more, slots_at, taken}
use Rattle.delivery_laws.specs.world_state.Worlds.{Offering, Seat, State, after, burn_and_escrows, empty_slots, new_seat, offer, offered_by}
use Rattle.delivery_laws.specs.world_laws.Tables.{table_of}
use Rattle.delivery_laws.proofs.world_laws.Agreeing.{agrees_together}
use Rattle.delivery_laws.proofs.world_laws.Openings as tables
use Rattle.delivery_laws.proofs.world_laws.Tabled.{table_agrees, table_is}
use Rattle.fair_laws.specs.Places.{opening_told, place_of, rows_of, seat_told, seats_from, seats_told, slot_name}
use Rattle.delivery_laws.specs.rules.Licence.{IsStore, IsStored}
use Rattle.fair_laws.specs.ShownEffects.{TellsActs}
use Rattle.fair_laws.proofs.Moves.{all_as_many, from_made, move_row, taken_as_many}
use Rattle.fair_laws.proofs.Openings.{HasItsBrand, brands_opened, one_seat_more, others_before, rows_ordered, seat_opened}
use Rattle.fair_laws.proofs.Rows.{all_values, move_rows, movements_of_rows, rows_append, rows_of_moves, table_told}
use Rattle.fair_laws.proofs.EffectSeats.{names_with, seats_counted}
use Rattle.fair_laws.proofs.Values as values

-- ---- slots that are there keep their names

-- rows with the same names are told the same
seats_alike : (q j : ℕ) (ss : List Seat) (slots : List (List Share)) (rs : List Share) → map slot_name rs ≡ map slot_name (slots_at slots j) → seats_from q ss (slice_set slots j rs) ≡ seats_from q ss slots
seats_alike q j [] slots rs same = refl
seats_alike q j (s ∷ ss) [] rs same = refl
seats_alike q zero (s ∷ ss) (x ∷ xs) rs same = ap (λ ns. record (seat_told q s x) { slots = ns } ∷ seats_from (suc q) ss xs) same
seats_alike q (suc j) (s ∷ ss) (x ∷ xs) rs same = ap (λ l. seat_told q s x ∷ l) (seats_alike (suc q) j ss xs rs same)

names_read : (slots : List (List Share)) (j : ℕ) (rs : List Share) → map slot_name rs ≡ map slot_name (slots_at slots j) → map slot_name (slots_at (slice_set slots j rs) j) ≡ map slot_name (slots_at slots j)
names_read [] j rs same = refl
names_read (x ∷ xs) zero rs same = same
names_read (x ∷ xs) (suc j) rs same = names_read xs j rs same

-- a movement of an offer: to outside, or to a slot of the seat that is there
abbrev IsKept : ℕ → Rights → Movement → Type 0
IsKept s r m = (k : List ℕ) → m.to ≡ Slot s k → is_some (brand_under k (map slot_name (slots_at r.slots s))) ≡ true

record ToSeat (s : ℕ) (m : Movement) : Type 0 where
  pub payment : ℕ
  pub from : m.from ≡ Payment payment
  pub keyword : List ℕ
  pub to : m.to ≡ Slot s keyword

record IsFilled (ss : List Seat) (s : ℕ) (old new : Rights) : Type 0 where
  pub told : seats_from 0 ss new.slots ≡ seats_from 0 ss old.slots
  pub names : map slot_name (slots_at new.slots s) ≡ map slot_name (slots_at old.slots s)
  pub payments : length new.payments ≡ length old.payments

module _ (ss : List Seat) (s : ℕ) where
  filled : (r : Rights) (m : Movement) (is : ToSeat s m) → is_some (brand_under is.keyword (map slot_name (slots_at r.slots s))) ≡ true → IsFilled ss s r (moved r m)
  filled r m is has =
      subst (λ (x : Rights). IsFilled ss s r x) (ap (λ h. given (taken r h m.brand m.value) (Slot s is.keyword) m.brand m.value) (sym is.from) ∙ ap (λ h. given (taken r m.from m.brand m.value) h m.brand m.value) (sym is.to))
      (record {
        told = seats_alike 0 s ss r.slots after_rows kept;
        names = names_read r.slots s after_rows kept;
        payments = taken_as_many r (Payment is.payment) m.brand m.value;
      })
    where
      after_rows : List Share
      after_rows = shares_more is.keyword (amount_of m.brand m.value) (slots_at r.slots s)

      kept : map slot_name after_rows ≡ map slot_name (slots_at r.slots s)
      kept =
          names_with is.keyword (λ had. more had m.value.content) (amount_of m.brand m.value) (λ a. refl) (slots_at r.slots s)
          ∙ ap (λ t. cond t (map slot_name (slots_at r.slots s)) (map slot_name (slots_at r.slots s) ++ record { keyword = is.keyword; brand = m.brand } ∷ [])) has

  abbrev AreThere : List told.SlotName → List Share → Type 0
  AreThere ns rs = AllByRecursion (λ (r : Share). is_some (brand_under r.keyword ns) ≡ true) rs

  all_filled : (r : Rights) (rs : List Share) (ms : List Movement) → AreEscrows s rs ms → AreThere (map slot_name (slots_at r.slots s)) rs → IsFilled ss s r (all_moved r ms)
  all_filled r [] [] escrows there = record { told = refl; names = refl; payments = refl }
  all_filled r [] (m ∷ ms) escrows there = absurd escrows
  all_filled r (x ∷ xs) [] escrows there = absurd escrows
  all_filled r (x ∷ xs) (m ∷ ms) escrows there =
      let one = filled r m (record { payment = escrows.0.payment; from = escrows.0.from; keyword = x.keyword; to = escrows.0.to }) there.0 in
      let rest = all_filled (moved r m) xs ms escrows.1 (subst (λ ns. AreThere ns xs) (sym one.names) there.1) in
      record { told = rest.told ∙ one.told; names = rest.names ∙ one.names; payments = rest.payments ∙ one.payments }

-- a burn leaves the slots alone
burned_slots : (r : Rights) (m : Movement) (p : ℕ) → m.from ≡ Payment p → m.to ≡ Outside → (moved r m).slots ≡ r.slots
burned_slots r m p from to = ap (λ h. (given (taken r h m.brand m.value) m.to m.brand m.value).slots) from ∙ ap (λ h. (given (taken r (Payment p) m.brand m.value) h m.brand m.value).slots) to

burned_payments : (r : Rights) (m : Movement) (p : ℕ) → m.from ≡ Payment p → m.to ≡ Outside → length (moved r m).payments ≡ length r.payments
burned_payments r m p from to =
    ap (λ h. length (given (taken r h m.brand m.value) m.to m.brand m.value).payments) from
    ∙ ap (λ h. length (given (taken r (Payment p) m.brand m.value) h m.brand m.value).payments) to
    ∙ taken_as_many r (Payment p) m.brand m.value

-- ---- escrows as rows tell them

pub escrows_told : (s : ℕ) (rs : List Share) (ms : List Movement) → AreEscrows s rs ms → fair.AreEscrows s (map printed_share rs) (map printed_move ms)
escrows_told s [] [] e = tt
escrows_told s [] (m ∷ ms) e = absurd e
escrows_told s (r ∷ rs) [] e = absurd e
escrows_told s (r ∷ rs) (m ∷ ms) e = (
  record {
    payment = e.0.payment;
    is = λ i. record { brand = e.0.brand i; from = e.0.from i; to = e.0.to i; value = printed_value (e.0.value i) };
  },
  escrows_told s rs ms e.1,
)

escrows_stored : (s : ℕ) (rs : List Share) (ms : List Movement) → AreEscrows s rs ms → AllByRecursion IsStored ms
escrows_stored s [] [] e = tt
escrows_stored s [] (m ∷ ms) e = absurd e
escrows_stored s (r ∷ rs) [] e = absurd e
escrows_stored s (r ∷ rs) (m ∷ ms) e = (inl (subst IsFrom (sym e.0.from) tt), escrows_stored s rs ms e.1)
  where
    IsFrom : Holder → Type 0
    IsFrom h = IsStore h

-- ---- payments that are named were made

module _ (r : Rights) (p : ℕ) (le : length r.payments ≤ p) where
  escrow_names : (s : ℕ) (row : Share) (m : Movement) → IsEscrow s row m → is_payment_at p m.from ≡ false → (is_payment_at p m.from || is_payment_at p m.to) ≡ false
  escrow_names s row m e none = ap (λ b. b || is_payment_at p m.to) none ∙ ap (is_payment_at p) e.to

names_first : (p : ℕ) (m : Move) (ms : List Movement) → (is_payment_at p m.from || is_payment_at p m.to) ≡ false → names p ms ≡ false → names p (movement_of m ∷ ms) ≡ false
names_first p m ms a b = ap (λ x. x || names p ms) a ∙ b

escrows_name : (r : Rights) (hand : ℕ → Content) (s p : ℕ) (rs : List Share) (ms : List Movement) → CanMoveAll r hand ms → AreEscrows s rs ms → length r.payments ≤ p → names p (map movement_of (map printed_move ms)) ≡ false
escrows_name r hand s p [] [] can e le = refl
escrows_name r hand s p [] (m ∷ ms) can e le = absurd e
escrows_name r hand s p (x ∷ xs) [] can e le = absurd e
escrows_name r hand s p (x ∷ xs) (m ∷ ms) can e le =
    names_first p (printed_move m) (map movement_of (map printed_move ms))
    (escrow_names r p le s x m e.0 (from_made r hand m.from m.brand m.value can.0.from p le))
    (escrows_name (moved r m) (hand_after hand m) s p xs ms can.1 e.1 (subst (λ n. n ≤ p) (sym as_many) le))
  where
    as_many : length (moved r m).payments ≡ length r.payments
    as_many =
        ap (λ h. length (given (taken r h m.brand m.value) m.to m.brand m.value).payments) e.0.from
        ∙ ap (λ h. length (given (taken r (Payment e.0.payment) m.brand m.value) h m.brand m.value).payments) e.0.to
        ∙ taken_as_many r (Payment e.0.payment) m.brand m.value

-- ---- the act

emptied_valued : (rs : List Share) → AreSharesValued (map emptied rs)
emptied_valued [] = tt
emptied_valued (r ∷ rs) = (nothing_is_value r.amount.value.kind, emptied_valued rs)

first_there : (ns : List told.SlotName) (rs : List Share) (rest : List KeywordAmount) → AllByRecursion (HasItsBrand ns) (map printed_share rs ++ rest) → AllByRecursion (λ (r : Share). is_some (brand_under r.keyword ns) ≡ true) rs
first_there ns [] rest all = tt
first_there ns (r ∷ rs) rest all = (ap is_some all.0, first_there ns rs rest all.1)

pub opened_valued : (w : State) (o : Offering) → IsGoodWorld w → AreValues (rights_for w o)
opened_valued w o good = record { purses = good.valued.purses; payments = good.valued.payments; slots = all_push AreSharesValued w.rights.slots (empty_slots o.proposal) good.valued.slots (emptied_valued (slots_of o.proposal)) }

pub offer_stored : (w : State) (o : Offering) → CanOffer w o → AllByRecursion IsStored (burn_and_escrows o)
offer_stored w o can = (inl (subst IsStore (sym can.burn.from) tt), escrows_stored (length w.seats) (in_byte_order o.proposal.give) o.escrows can.escrows)

module _ (owners : Owners) (t : Turn) (w : State) (o : Offering) (good : IsGoodWorld w) (can : CanOffer w o) (offers : (is_offer t ≡ true) × (FollowsKit (rows_of w.log) → ⊥)) where
  abbrev seat : ℕ
  seat = length w.seats

  abbrev new : Seat
  new = new_seat (offered_by w o).instance o.proposal

  abbrev opening : Opening
  opening = opening_told seat new

  abbrev burn : Move
  burn = printed_move o.burn

  abbrev escrows : List Move
  escrows = map printed_move o.escrows

  abbrev ms : List Movement
  ms = burn_and_escrows o

  abbrev rights : Rights
  rights = rights_for w o

  abbrev gives : List Share
  gives = in_byte_order o.proposal.give

  ordered : printed_shares o.proposal.give ≡ map printed_share gives
  ordered = rows_ordered o.proposal.give can.proposal.give.apart

  opened : told.new_seat opening ≡ seat_told seat new (empty_slots o.proposal)
  opened = seat_opened o.proposal can.proposal.fits can.proposal.give can.proposal.want seat (offered_by w o).instance

  valued : AreValues rights
  valued = opened_valued w o good

  stored : AllByRecursion IsStored ms
  stored = offer_stored w o can

  are_values : AllByRecursion (λ (m : Movement). IsValued m.value) ms
  are_values = all_values rights no_hand ms can.moves.can valued stored

  is_burn : fair_rules.IsBurn burn
  is_burn = record {
    payment = can.burn.payment;
    invitation = element o.invitation;
    brand = can.burn.brand;
    from = can.burn.from;
    to = can.burn.to;
    one = values.told_content o.burn.value are_values.0 ∙ ap (λ v. v.content) can.burn.value;
  }

  named : (p : ℕ) → length w.rights.payments ≤ p → names p (movements_in (offer_rows opening burn escrows)) ≡ false
  named p le = ap (λ l. names p (movement_of burn ∷ l)) (movements_of_rows escrows)
      ∙ names_first p burn (map movement_of escrows)
      (ap (λ b. b || is_payment_at p o.burn.to) (from_made rights no_hand o.burn.from o.burn.brand o.burn.value can.moves.can.0.from p le) ∙ ap (is_payment_at p) can.burn.to)
      (escrows_name (moved rights o.burn) (hand_after no_hand o.burn) seat p gives o.escrows can.moves.can.1 can.escrows (subst (λ n. n ≤ p) (sym (burned_payments rights o.burn can.burn.payment can.burn.from can.burn.to)) le))

  can_offer : fair.CanOffer t (rows_of w.log) (place_of w) opening burn escrows
  can_offer = record {
    opens = record {
      next = sym (seats_counted 0 w.seats w.rights.slots good.seats.slotted);
      of_brand = brands_opened o.proposal can.proposal.fits can.proposal.give can.proposal.want seat (offered_by w o).instance;
      alone = others_before 0 seat w.seats w.rights.slots (omega arith);
    };
    offers = offers.0;
    no_kit = offers.1;
    burns = is_burn;
    escrowed = subst (λ l. fair.AreEscrows seat l escrows) (sym ordered) (escrows_told seat gives o.escrows can.escrows);
    made = named;
  }

  -- the place that it leads to is that of the world after it
  table_is_so : table_after (table_of w.rights) (movements_in (offer_rows opening burn escrows)) ≡ table_of (moved_together rights ms)
  table_is_so =
      ap (λ l. table_after (table_of w.rights) (movement_of burn ∷ l)) (movements_of_rows escrows)
      ∙ table_told (table_of w.rights) ms are_values
      ∙ ap (λ u. table_after u ms) (sym (tables.seat_opened w.rights (slots_of o.proposal)))
      ∙ sym (table_is (moved_together rights ms) (table_after (table_of rights) ms) (agrees_together rights (table_of rights) ms can.moves.can can.moves.emptied (table_agrees rights)))

  new_slots : slots_at rights.slots seat ≡ empty_slots o.proposal
  new_slots = read_pushed w.rights.slots (empty_slots o.proposal) [] seat (sym good.seats.slotted)

  there : AllByRecursion (λ (r : Share). is_some (brand_under r.keyword (map slot_name (slots_at (moved rights o.burn).slots seat))) ≡ true) gives
  there =
      subst (λ ns. AllByRecursion (λ (r : Share). is_some (brand_under r.keyword ns) ≡ true) gives)
      (ap (λ (s : told.Seat). s.slots) opened ∙ ap (map slot_name) (sym new_slots) ∙ ap (λ l. map slot_name (slots_at l seat)) (sym (burned_slots rights o.burn can.burn.payment can.burn.from can.burn.to)))
      (first_there (told.new_seat opening).slots gives (printed_shares o.proposal.want) (subst (λ l. AllByRecursion (HasItsBrand (told.new_seat opening).slots) (l ++ printed_shares o.proposal.want)) ordered (brands_opened o.proposal can.proposal.fits can.proposal.give can.proposal.want seat (offered_by w o).instance)))

  filled_up : IsFilled (w.seats ++ new ∷ []) seat (moved rights o.burn) (all_moved (moved rights o.burn) o.escrows)
  filled_up = all_filled (w.seats ++ new ∷ []) seat (moved rights o.burn) gives o.escrows can.escrows there

  seats_are_so : seats_told w ++ told.new_seat opening ∷ [] ≡ seats_told (after w (offer o))
  seats_are_so =
      ap (λ x. seats_told w ++ x ∷ []) opened
      ∙ ap (λ n. seats_told w ++ seat_told n new (empty_slots o.proposal) ∷ []) (let e : seat ≡ 0 + seat = omega arith in e)
      ∙ sym (one_seat_more 0 w.seats w.rights.slots new (empty_slots o.proposal) good.seats.slotted)
      ∙ ap (seats_from 0 (w.seats ++ new ∷ [])) (sym (burned_slots rights o.burn can.burn.payment can.burn.from can.burn.to))
      ∙ sym filled_up.told

  payments_are_so : length w.rights.payments ≡ length (after w (offer o)).rights.payments
  payments_are_so = sym (all_as_many ms (all_moved rights ms).payments ∙ filled_up.payments ∙ burned_payments rights o.burn can.burn.payment can.burn.from can.burn.to)

  pub offer_tells : TellsActs owners t w (after w (offer o))
  offer_tells = record {
    acts = record { rows = offer_rows opening burn escrows; next = fair.after_offer (place_of w) opening burn escrows } ∷ [];
    are = (offer_is_act owners t (rows_of w.log) (place_of w) opening burn escrows can_offer, tt);
    told =
        rows_append w.log (events.opened (record { seat = seat; instance = (offered_by w o).instance; proposal = o.proposal }) ∷ map events.moved ms)
        ∙ ap (λ l. rows_of w.log ++ rows.opened opening ∷ l) (rows_of_moves ms ∙ sym (ap (λ l. move_row o.burn ∷ l) (move_rows o.escrows)))
        ∙ ap (λ l. rows_of w.log ++ l) (sym (append-nil (offer_rows opening burn escrows)));
    place = λ i. record { table = table_is_so i; seats = seats_are_so i; payments = payments_are_so i };
  }
