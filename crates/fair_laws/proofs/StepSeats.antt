-- What a turn's effects tell is in place, and leaves the seats of the next world, of which the open ones are covered.
use Rattle.std.specs.Prelude.{◌≡◌, ◌≤◌, ◌<◌, ◌+◌, ℕ, zero, suc, Bool, true, false, nat_lt, List, [], ◌∷◌, ◌++◌, Option, Some, None, unwrap_or, length, map, refl}
use Rattle.std.specs.List.{slice_get}
use Rattle.std.specs.Option.{option_map}
use Rattle.std.proofs.Common.{sym, ◌∙◌, ap, subst, arith}
use Rattle.std.proofs.lemmas.Bool.{ltb-false, ltb-true}
use Rattle.fair_laws.specs.Places.{place_of, rows_of, seat_told, seats_from, seats_told, slot_content}
use Rattle.fair_laws.specs.ShownEffects.{AreShown, TellsActs}
use Rattle.fair_laws.proofs.Effects.{effects_tell}
use Rattle.fair_laws.proofs.HeldEffects.{open_safe}
use Rattle.fair_laws.proofs.EffectSeats.{seat_read}
use Rattle.fair_rows.specs.Acts.{AreActs, Place, rows_of_acts}
use Rattle.fair_rows.specs.Seats as told
use Rattle.fair_rows.specs.Seats.{IsOpen, IsSafe}
use Rattle.fair_rows.specs.Steps.{ShowsRows, World}
use Rattle.fair_rows.proofs.Acts.{acts_show_rows}
use Rattle.delivery_laws.specs.proposals.declared.allocations.Share.{Share}
use Rattle.delivery_laws.specs.world_laws.Tables.{table_of}
use Rattle.fair_rows.specs.turn_rows.Turns as rows
use Rattle.fair_rows.specs.turn_rows.Turns.{Turn}
use Rattle.delivery_laws.proofs.world_laws.Kept.{good-after_all}
use Rattle.delivery_laws.specs.world_state.Good.{AreGood, IsGoodWorld}
use Rattle.delivery_laws.specs.world_state.Rights.{slots_at}
use Rattle.delivery_laws.specs.world_state.Worlds as worlds
use Rattle.delivery_laws.specs.world_state.Worlds.{Effect, Seat, State, after_all, no_seat, seat_at}
use Rattle.fair_laws.specs.Steps.{ShowsSeats, TellsLog}
use Rattle.fair_laws.specs.Views.{owners_told, world_in}

-- ---- seats by number, as rows tell them

none_past : (q n : ℕ) (ss : List Seat) (slots : List (List Share)) → length ss ≤ n → slice_get (seats_from q ss slots) n ≡ None
none_past q n [] slots le = refl
none_past q n (s ∷ ss) [] le = refl
none_past q zero (s ∷ ss) (rows ∷ rest) le = absurd (omega (arith, le))
none_past q (suc n) (s ∷ ss) (rows ∷ rest) le = none_past (suc q) n ss rest (omega (arith, le))

-- a seat that is told is one of the world's
pub record IsOf (w : State) (n : ℕ) (s : told.Seat) : Type 0 where
  pub made : n < length w.seats
  pub is : s ≡ seat_told n (seat_at w.seats n) (slots_at w.rights.slots n)

pub seat_is : (w : State) (n : ℕ) (s : told.Seat) → IsGoodWorld w → slice_get (seats_told w) n ≡ Some s → IsOf w n s
seat_is w n s good got = by (nat_lt n (length w.seats)) refl
  where
    by : (b : Bool) → nat_lt n (length w.seats) ≡ b → IsOf w n s
    by true low =
        let lt = ltb-true n (length w.seats) low in
        record {
          made = lt;
          is = ap (λ o. unwrap_or o s) (sym got ∙ seat_read 0 n w.seats w.rights.slots no_seat lt good.seats.slotted)
              ∙ ap (λ k. seat_told k (seat_at w.seats n) (slots_at w.rights.slots n)) (let e : 0 + n ≡ n = omega arith in e);
        }
    by false high = let none = none_past 0 n w.seats w.rights.slots (ltb-false n (length w.seats) high) in cc

-- one that is told open is open
open_by : (last : Option (List Share)) → option_map (map slot_content) last ≡ None → last ≡ None
open_by None e = refl
open_by (Some rows) e = cc

pub record IsOpenOf (w : State) (n : ℕ) (s : told.Seat) : Type 0 where
  pub opens : worlds.IsOpen (seat_at w.seats n)
  pub is : s ≡ seat_told n (seat_at w.seats n) (slots_at w.rights.slots n)

pub open_is : (w : State) (n : ℕ) → IsGoodWorld w → (is_open : IsOpen (seats_told w) n) → IsOpenOf w n is_open.seat
open_is w n good is_open =
    let of = seat_is w n is_open.seat good is_open.was_opened in
    record { opens = open_by (seat_at w.seats n).last (sym (ap (λ (x : told.Seat). x.last) of.is) ∙ is_open.stays); is = of.is }

-- ---- a turn

module _ (n : ℕ) (w : State) (es : List Effect) (t : Turn) (good : IsGoodWorld w) (empty : w.log ≡ []) (are : AreGood w es) (shown : AreShown (owners_told w) t w es) (tells : TellsLog (after_all w es) t) where
  abbrev u : State
  u = after_all w es

  abbrev start : World
  start = world_in n w

  abbrev next : World
  next = world_in (n + 1) u

  acts : TellsActs (owners_told w) t w u
  acts = effects_tell (owners_told w) t w es good are shown

  log_rows : rows_of w.log ≡ []
  log_rows = ap rows_of empty

  in_order : AreActs start.owners t [] (place_of w) acts.acts
  in_order = subst (λ (l : List rows.Event). AreActs start.owners t l (place_of w) acts.acts) log_rows acts.are

  all_rows : t.events ≡ rows_of_acts acts.acts
  all_rows = tells.events ∙ acts.told ∙ ap (λ l. l ++ rows_of_acts acts.acts) log_rows

  rows_shown : ShowsRows start t next
  rows_shown = acts_show_rows start next t acts.acts in_order all_rows (sym (ap (λ (p : Place). p.seats) acts.place))

  covered : (seat : ℕ) (is_open : IsOpen next.seats seat) → IsSafe next.table is_open.seat.opening
  covered seat is_open =
      let is_then = good-after_all w es are good in
      let of = open_is u seat is_then is_open in
      subst (λ (s : told.Seat). IsSafe (table_of u.rights) s.opening) (sym of.is) (open_safe u seat is_then of.opens)

  pub shows_seats : ShowsSeats start t next
  shows_seats = record { rows = rows_shown; safe = covered }
