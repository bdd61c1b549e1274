-- Good effects that are shown tell acts, one after another, and lead to the place of the world after them.
use Rattle.std.specs.Prelude.{◌≡◌, ◌+◌, ◌≤◌, ℕ, List, [], ◌∷◌, ◌++◌, length, map, refl}
use Rattle.std.specs.List.{AllByRecursion}
use Rattle.std.proofs.Common.{append_assoc, inr, sym, ◌∙◌, ap, subst, arith}
use Rattle.std.proofs.lemmas.List.{append-nil}
use Rattle.delivery_laws.specs.ertp_mint.BrandSupply.{new_supply}
use Rattle.delivery_laws.proofs.lemmas.ListEdits.{length_push}
use Rattle.delivery_laws.specs.holders.PaymentViews.{live_payment}
use Rattle.delivery_laws.specs.promise_store.States.{ok}
use Rattle.delivery_laws.specs.host_data.Tree.{null}
use Rattle.delivery_laws.specs.proposals.declared.offers.Exit.{Exit}
use Rattle.fair_rows.specs.rights_model.Table.{table_after}
use Rattle.fair_rows.specs.rights_model.declared.Movement.{Movement}
use Rattle.delivery_laws.specs.vault_model.Tables.{no_hand}
use Rattle.delivery_laws.specs.turn_records.Events as events
use Rattle.delivery_laws.specs.turn_records.Events.{Event}
use Rattle.delivery_laws.specs.turn_records.Printed.{printed_call, printed_settlement}
use Rattle.fair_rows.specs.turn_rows.Turns as rows
use Rattle.fair_rows.specs.turn_rows.Turns.{Opening, Turn}
use Rattle.fair_rows.specs.Acts.{AreActs, CanOpenEmpty, IsAct, Place, place_after, rows_of_acts}
use Rattle.fair_rows.specs.ExitCauses.{Owners}
use Rattle.fair_rows.proofs.Acts.{singles_are_acts}
use Rattle.delivery_laws.proofs.world_laws.Supplies.{can_invite}
use Rattle.delivery_laws.proofs.world_laws.Kept.{good-after}
use Rattle.delivery_laws.specs.world_state.Good.{AreGood, CanMoveTogether, IsGoodEffect, IsGoodWorld}
use Rattle.delivery_laws.specs.world_state.Rights.{all_moved, moved_together}
use Rattle.delivery_laws.specs.world_state.Worlds.{Effect, Seat, State, after, after_all, empty_payment, empty_seat, exit, invitation_move, invite, moves, new_brand, new_purse, new_seat, note_call, nothing_of, of_own, offer, promises_made, resolve}
use Rattle.delivery_laws.specs.turn_stores.Details.{DetailsView}
use Rattle.delivery_laws.specs.turn_records.Events.{Call}
use Rattle.delivery_laws.specs.world_laws.Tables.{table_of}
use Rattle.delivery_laws.proofs.world_laws.Agreeing.{agrees_together}
use Rattle.delivery_laws.proofs.world_laws.Openings as tables
use Rattle.delivery_laws.proofs.world_laws.Tabled.{table_agrees, table_is}
use Rattle.fair_laws.specs.Places.{opening_told, place_of, rows_of, seat_told, seats_told}
use Rattle.delivery_laws.specs.rules.Licence.{IsStored}
use Rattle.fair_laws.specs.ShownEffects.{AreShown, IsShown, TellsActs}
use Rattle.fair_laws.proofs.Exits.{exit_tells}
use Rattle.fair_laws.proofs.Moves.{acts_lead, acts_of, acts_told, all_as_many, movement_valued, moves_are_acts, one_move}
use Rattle.fair_laws.proofs.Offers.{offer_tells}
use Rattle.fair_laws.proofs.Openings.{one_seat_more, others_before}
use Rattle.fair_laws.proofs.Rows.{Settles, acts_append, acts_place, acts_rows, resolving_settles, rows_append, rows_of_moves, settle_acts, settlements_are_acts, settlements_stay, settlements_told}
use Rattle.fair_laws.proofs.EffectSeats.{seats_counted}

-- ---- acts after acts

tells_more : (owners : Owners) (t : Turn) (v w next : State) → TellsActs owners t v w → TellsActs owners t w next → TellsActs owners t v next
tells_more owners t v w next one more = record {
  acts = one.acts ++ more.acts;
  are = acts_append owners t (rows_of v.log) (place_of v) one.acts more.acts one.are
      (subst (λ (p : Place). AreActs owners t (rows_of v.log ++ rows_of_acts one.acts) p more.acts) (sym one.place)
      (subst (λ (l : List rows.Event). AreActs owners t l (place_of w) more.acts) one.told more.are));
  told = more.told ∙ ap (λ l. l ++ rows_of_acts more.acts) one.told ∙ append_assoc (rows_of v.log) (rows_of_acts one.acts) (rows_of_acts more.acts) ∙ ap (λ l. rows_of v.log ++ l) (sym (acts_rows one.acts more.acts));
  place = acts_place (place_of v) one.acts more.acts ∙ ap (λ p. place_after p more.acts) one.place ∙ more.place;
}

-- ---- by effect

module _ (owners : Owners) (t : Turn) where
  -- nothing is told, and all that rows tell is as it was
  tells_nothing : (w next : State) → next.log ≡ w.log → place_of w ≡ place_of next → TellsActs owners t w next
  tells_nothing w next log same = record { acts = []; are = tt; told = ap rows_of log ∙ sym (append-nil (rows_of w.log)); place = same }

  -- more payments are made
  wider : (here : List rows.Event) (p q : Place) → p.table ≡ q.table → p.seats ≡ q.seats → p.payments ≤ q.payments → IsAct owners t here p [] q
  wider here p q table seats more i at = (
    tt,
    record {
      of = at.of;
      row = at.row;
      here = at.here ∙ sym (append-nil here);
      due = at.due;
      table = at.table ∙ table;
      seats = at.seats ∙ seats;
      made = λ n le. at.made n (omega (arith, le, more));
    },
  )

  module _ (w : State) where
    empty_paid : (b : ℕ) → TellsActs owners t w (after w (empty_payment b))
    empty_paid b = record {
      acts = record { rows = []; next = place_of (after w (empty_payment b)) } ∷ [];
      are = (wider (rows_of w.log) (place_of w) (place_of (after w (empty_payment b))) (sym (tables.payment_made w.rights (nothing_of w b) refl)) refl (omega (arith, length_push w.rights.payments (live_payment (nothing_of w b)))), tt);
      told = sym (append-nil (rows_of w.log));
      place = refl;
    }

    moves_tell : (ms : List Movement) → IsGoodWorld w → CanMoveTogether w.rights w.seats w.staging ms → AllByRecursion IsStored ms → TellsActs owners t w (after w (moves ms))
    moves_tell ms good can stored = record {
      acts = acts_of (table_of w.rights) w.seats w.rights ms;
      are = moves_are_acts owners t w.seats (rows_of w.log) (table_of w.rights) w.rights no_hand ms good.seats.slotted can.good stored can.can good.valued;
      told = rows_append w.log (map events.moved ms) ∙ ap (λ l. rows_of w.log ++ l) (rows_of_moves ms ∙ sym (acts_told (table_of w.rights) w.seats w.rights ms));
      place = acts_lead (table_of w.rights) w.seats w.rights ms ∙ (λ i. record {
        table = sym (table_is (moved_together w.rights ms) (table_after (table_of w.rights) ms) (agrees_together w.rights (table_of w.rights) ms can.can can.emptied (table_agrees w.rights))) i;
        seats = seats_told (after w (moves ms));
        payments = sym (all_as_many ms (all_moved w.rights ms).payments) i;
      });
    }

    invite_tells : (d : DetailsView) → IsGoodWorld w → IsGoodEffect w (invite d) → TellsActs owners t w (after w (invite d))
    invite_tells d good can =
        let m = invitation_move w in
        let may = can_invite w good can.few in
        record {
          acts = acts_of (table_of w.rights) w.seats w.rights (m ∷ []);
          are = (one_move owners t w.seats (rows_of w.log) (table_of w.rights) w.rights no_hand m good.seats.slotted (record { from = tt; to = tt }) may.0 (movement_valued w.rights no_hand m may.0 good.valued (inr tt)), tt);
          told = rows_append w.log (map events.moved (m ∷ []));
          place = λ i. record {
            table = sym (table_is (moved_together w.rights (m ∷ [])) (table_after (table_of w.rights) (m ∷ [])) (agrees_together w.rights (table_of w.rights) (m ∷ []) may (tt, tt) (table_agrees w.rights))) i;
            seats = seats_told (after w (invite d));
            payments = sym (all_as_many (m ∷ []) (all_moved w.rights (m ∷ [])).payments) i;
          };
        }

    settled_tells : (next : State) → place_of w ≡ place_of next → Settles w.log next.log → TellsActs owners t w next
    settled_tells next same is = record {
      acts = settle_acts owners t (place_of w) is.promises;
      are = settlements_are_acts owners t (place_of w) (rows_of w.log) is.promises;
      told = ap rows_of is.told ∙ rows_append w.log (map (λ p. events.settled p.0 p.1) is.promises) ∙ ap (λ l. rows_of w.log ++ l) (settlements_told owners t (place_of w) is.promises);
      place = settlements_stay owners t (place_of w) is.promises ∙ same;
    }

    call_tells : (c : Call) → IsShown owners t w (note_call c) → TellsActs owners t w (after w (note_call c))
    call_tells c read = record {
      acts = record { rows = rows.called (printed_call c) ∷ []; next = place_of w } ∷ [];
      are = ((singles_are_acts owners t (rows_of w.log) (place_of w)).call (printed_call c) read, tt);
      told = rows_append w.log (events.called c ∷ []);
      place = refl;
    }

    module _ (i : ℕ) (rule : Exit) where
      abbrev new : Seat
      new = new_seat i (of_own rule)

      abbrev opening : Opening
      opening = opening_told (length w.seats) new

      empty_tells : IsGoodWorld w → IsShown owners t w (empty_seat i rule) → TellsActs owners t w (after w (empty_seat i rule))
      empty_tells good shown =
          let next = after w (empty_seat i rule) in
          let can : CanOpenEmpty t (rows_of w.log) (place_of w) opening = record {
            opens = record {
              next = sym (seats_counted 0 w.seats w.rights.slots good.seats.slotted);
              of_brand = tt;
              alone = others_before 0 (length w.seats) w.seats w.rights.slots (omega arith);
            };
            runs = shown.0;
            empty = shown.1;
          } in
          let seats : seats_told w ++ seat_told (length w.seats) new [] ∷ [] ≡ seats_told next =
          ap (λ n. seats_told w ++ seat_told n new [] ∷ []) (let e : length w.seats ≡ 0 + length w.seats = omega arith in e) ∙ sym (one_seat_more 0 w.seats w.rights.slots new [] good.seats.slotted) in
          let leads : record (place_of w) { seats = seats_told w ++ seat_told (length w.seats) new [] ∷ [] } ≡ place_of next = λ j. record {
            table = sym (tables.seat_opened w.rights []) j;
            seats = seats j;
            payments = length w.rights.payments;
          } in
          let open_act : IsAct owners t (rows_of w.log) (place_of w) (rows.opened opening ∷ []) (place_of next) =
          subst (λ (p : Place). IsAct owners t (rows_of w.log) (place_of w) (rows.opened opening ∷ []) p) leads ((singles_are_acts owners t (rows_of w.log) (place_of w)).empty_seat opening can) in
          record {
            acts = record { rows = rows.opened opening ∷ []; next = place_of next } ∷ record { rows = rows.settled (promises_made w) (printed_settlement (ok null)) ∷ []; next = place_of next } ∷ [];
            are = (open_act, ((singles_are_acts owners t (rows_of w.log ++ rows.opened opening ∷ []) (place_of next)).settlement (promises_made w) (printed_settlement (ok null)), tt));
            told = rows_append w.log (events.opened (record { seat = length w.seats; instance = i; proposal = of_own rule }) ∷ events.settled (promises_made w) (ok null) ∷ []);
            place = refl;
          }

  pub effect_tells : (w : State) (e : Effect) → IsGoodWorld w → IsGoodEffect w e → IsShown owners t w e → TellsActs owners t w (after w e)
  effect_tells w (new_brand b maker) good can shown = tells_nothing w (after w (new_brand b maker)) refl (λ i. record { table = sym (tables.brand_made w.rights (new_supply b.kind)) i; seats = seats_told w; payments = length w.rights.payments })
  effect_tells w (new_purse b) good can shown = tells_nothing w (after w (new_purse b)) refl (λ i. record { table = sym (tables.purse_opened w.rights (nothing_of w b) refl) i; seats = seats_told w; payments = length w.rights.payments })
  effect_tells w (empty_payment b) good can shown = empty_paid w b
  effect_tells w (moves ms) good can shown = moves_tell w ms good can shown
  effect_tells w (offer o) good can shown = offer_tells owners t w o good can shown
  effect_tells w (empty_seat i rule) good can shown = empty_tells w i rule good shown
  effect_tells w (exit s cause) good can shown = exit_tells owners t w s cause good can shown
  effect_tells w (invite d) good can shown = invite_tells w d good can
  effect_tells w (resolve p v) good can shown = settled_tells w (after w (resolve p v)) refl (resolving_settles p v w.promises w.waiting w.log)
  effect_tells w (note_call c) good can shown = call_tells w c shown
  effect_tells w e good can shown = tells_nothing w (after w e) refl refl

  pub effects_tell : (w : State) (es : List Effect) → IsGoodWorld w → AreGood w es → AreShown owners t w es → TellsActs owners t w (after_all w es)
  effects_tell w [] good can shown = tells_nothing w w refl refl
  effects_tell w (e ∷ es) good can shown = tells_more owners t w (after w e) (after_all (after w e) es) (effect_tells w e good can.0 shown.0) (effects_tell (after w e) es (good-after w e can.0 good) can.1 shown.1)
