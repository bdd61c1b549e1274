-- Steps of the seats that are kept tell what the rows tell.
use Rattle.std.proofs.Common.{◌≡◌, ◌≢◌, ℕ, zero, suc, ◌==◌, ◌||◌, Bool, true, false, cond, List, [], ◌∷◌, ◌++◌, Option, Some, None, length, map, refl, sym, ap, subst, ◌∙◌, drop, inl, inr, ◌⊎◌, arith}
use Rattle.std.specs.Prelude.{option_map, unwrap_or, if◌then◌else◌}
use Rattle.std.specs.BTreeSet.{contains}
use Rattle.std.specs.List.{AllByRecursion, slice_get}
use Rattle.std.specs.Ordering.{nat_cmp}
use Rattle.std.proofs.Math.ListN.{set}
use Rattle.std.proofs.lemmas.Bool.Decides.{nat_tests}
use Rattle.std.proofs.lemmas.Option.{slice_get-map}
use Rattle.row_records.specs.amount_math.Content.{Contains, Content}
use Rattle.row_records.specs.fair_rows.Movements.{movement_of}
use Rattle.row_records.specs.Views.{amount_view, open_view}
use Rattle.row_records.specs.declared.rows.OpenRow.{OpenRow}
use Rattle.row_records.specs.fair_rows.Rows.{ChangesNothing, Due, InTurn, IsFairOpening, IsInPlace, after_event, burn, due_after, escrow, payouts_due, slots_at, still_due}
use Rattle.row_records.specs.fair_rows.Seats.{IsCovered, IsOpen, IsSafe, Seat, SlotName, contents_of, new_seat, with_exit, with_holder, with_move}
use Rattle.row_records.specs.fair_rows.Values.{content_of}
use Rattle.row_records.specs.journal_rows.Reading.{told_after}
use Rattle.row_records.specs.rights_model.Place.{Place, place}
use Rattle.row_records.specs.rights_model.Table.{Table, holds, moved as table_moved, taken}
use Rattle.row_records.specs.rights_model.declared.Holder.{Holder}
use Rattle.row_records.specs.rights_model.declared.Holder.TheVariants.{Purse, Payment, Slot, Hand, Outside}
use Rattle.row_records.specs.rights_model.declared.Movement.{Movement}
use Rattle.row_records.specs.turn_rows.Causes.{Cause}
use Rattle.row_records.specs.turn_rows.Turns.{Event, KeywordAmount, Move, Opening, SeatExit, called, exited, moved, opened, settled}
use Rattle.row_records.specs.turn_rows.Form.{HasOpeningForm}
use Rattle.row_records.specs.turn_rows.declared.editions.Edition.{Edition}
use Rattle.row_records.proofs.journal_rows.fair_rows.Lists.{all_weaker}
use Rattle.row_records.proofs.journal_rows.fair_rows.rights_model.TableLaws.{holds-given_other, holds-taken_other}
use Rattle.told_seats.specs.DueViews.{due_view, dues_view, slot_contents}
use Rattle.told_seats.specs.SeatSteps.{Adds, Becomes, EachBecomes, Expects, Leaves, Names, NamesSlot, is_slot_of}
use Rattle.told_seats.specs.SlotViews.{slots_view}
use Rattle.told_seats.specs.ToldSeats.{AreSafe, TellsAt, TellsEach, TellsProposal, TellsSeat, TellsSeats, TellsSeatsBefore, TellsStage, cause_in, cause_of}
use Rattle.told_seats.specs.declared.dues.Due.{Due as KeptDue}
use Rattle.told_seats.specs.declared.seats.Seat.{Seat as KeptSeat}
use Rattle.told_seats.specs.declared.seats.Seats.{Seats}
use Rattle.told_seats.specs.declared.seats.Stage.{Stage}
use Rattle.told_seats.specs.declared.seats.Stage.TheVariants.{Exited, Open}

-- ---- a seat that is told

-- what is kept at a number, and what is told there
pub record ToldAs (n : ℕ) (k : KeptSeat) (told : Option Seat) : Type 0 where
  pub seat : Seat
  pub is : told ≡ Some seat
  pub tells : TellsSeat n k seat

pub record KeptAs (n : ℕ) (kept : Option KeptSeat) (s : Seat) : Type 0 where
  pub seat : KeptSeat
  pub is : kept ≡ Some seat
  pub tells : TellsSeat n seat s

pub told_as : (n : ℕ) (kept : Option KeptSeat) (told : Option Seat) (k : KeptSeat) → TellsAt n kept told → kept ≡ Some k → ToldAs n k told
told_as n kept (Some s) k t is = record { seat = s; is = refl; tells = subst (λ (o : Option KeptSeat). TellsAt n o (Some s)) is t }
told_as n kept None k t is = absurd (subst (λ (o : Option KeptSeat). TellsAt n o None) is t)

pub kept_as : (n : ℕ) (kept : Option KeptSeat) (told : Option Seat) (s : Seat) → TellsAt n kept told → told ≡ Some s → KeptAs n kept s
kept_as n (Some k) told s t is = record { seat = k; is = refl; tells = subst (λ (o : Option Seat). TellsAt n (Some k) o) is t }
kept_as n None told s t is = absurd (subst (λ (o : Option Seat). TellsAt n None o) is t)

pub told_none : (n : ℕ) (kept : Option KeptSeat) (told : Option Seat) → TellsAt n kept told → kept ≡ None → told ≡ None
told_none n kept None t is = refl
told_none n kept (Some s) t is = absurd (subst (λ (o : Option KeptSeat). TellsAt n o (Some s)) is t)

-- an open seat is kept with its proposal
pub open_stage : (stage : Stage) (s : Seat) → TellsStage stage s → (contents : List Content) → s.last ≡ Some contents → (o : s.last ≡ None) → ⊥
open_stage stage s t contents some none = cc

-- ---- one after another

-- of two lists that agree element by element
pub each_snoc : {A B : Type 0} (P : ℕ → Option A → Option B → Type 0) (xs : List A) (ys : List B) (x : A) (y : B)
    → length xs ≡ length ys → ((n : ℕ) → P n (slice_get xs n) (slice_get ys n)) → P (length xs) (Some x) (Some y) → ((n : ℕ) → P n None None)
    → (n : ℕ) → P n (slice_get (xs ++ x ∷ []) n) (slice_get (ys ++ y ∷ []) n)
each_snoc P [] [] x y e each last none zero = last
each_snoc P [] [] x y e each last none (suc n) = none (suc n)
each_snoc P [] (b ∷ ys) x y e each last none n = absurd (omega (arith, e))
each_snoc P (a ∷ xs) [] x y e each last none n = absurd (omega (arith, e))
each_snoc P (a ∷ xs) (b ∷ ys) x y e each last none zero = each zero
each_snoc P (a ∷ xs) (b ∷ ys) x y e each last none (suc n) = each_snoc (λ k. P (suc k)) xs ys x y (omega (arith, e)) (λ k. each (suc k)) last (λ k. none (suc k)) n

length-snoc : {A : Type 0} (xs : List A) (x : A) → length (xs ++ x ∷ []) ≡ suc (length xs)
length-snoc [] x = refl
length-snoc (y ∷ xs) x = ap suc (length-snoc xs x)

snoc_get : {A : Type 0} (xs : List A) (x : A) (n : ℕ) → (slice_get (xs ++ x ∷ []) n ≡ slice_get xs n) ⊎ (n ≡ length xs)
snoc_get [] x zero = inr refl
snoc_get [] x (suc n) = inl refl
snoc_get (y ∷ xs) x zero = inl refl
snoc_get (y ∷ xs) x (suc n) = elim (snoc_get xs x n) [ inl same ↦ inl same | inr last ↦ inr (ap suc last) ]

-- ---- what a movement leaves in other places

kept_apart : (t : Table) (m : Movement) (h : Holder) (b : ℕ) → h ≢ m.from → h ≢ m.to → holds (table_moved t m) h b ≡ holds t h b
kept_apart t m h b from to =
    holds-given_other (taken t m.from m.brand m.value.content) m.brand m.value.content m.to h b (λ (e : place h b ≡ place m.to m.brand). to (ap (λ (p : Place). p.0) e))
    ∙ holds-taken_other t m.brand m.value.content m.from h b (λ (e : place h b ≡ place m.from m.brand). from (ap (λ (p : Place). p.0) e))

no_slot : (n : ℕ) (keyword : List ℕ) (h : Holder) → is_slot_of n h ≡ false → Slot n keyword ≢ h
no_slot n keyword (Slot seat other) away e = let same : seat ≡ n = cc in absurd (grind (arith, nat_tests))
no_slot n keyword (Purse p) away e = absurd (cc)
no_slot n keyword (Payment p) away e = absurd (cc)
no_slot n keyword Hand away e = absurd (cc)
no_slot n keyword Outside away e = absurd (cc)

-- a seat of which it names no slot stays covered
pub safe_after : (t : Table) (m : Movement) (o : Opening) → is_slot_of o.seat m.from ≡ false → is_slot_of o.seat m.to ≡ false → IsSafe t o → IsSafe (table_moved t m) o
safe_after t m o from to safe = elim safe [ inl want ↦ inl (each o.want want) | inr give ↦ inr (each o.give give) ]
  where
    each : (amounts : List KeywordAmount) → AllByRecursion (IsCovered t o.seat) amounts → AllByRecursion (IsCovered (table_moved t m) o.seat) amounts
    each amounts all =
        all_weaker (IsCovered t o.seat) (IsCovered (table_moved t m) o.seat)
        (λ a has. subst (λ (c : Content). Contains c (content_of a.value)) (sym (kept_apart t m (Slot o.seat a.keyword) a.brand (no_slot o.seat a.keyword m.from from) (no_slot o.seat a.keyword m.to to))) has)
        amounts all

-- ---- a movement names a holder

abbrev pub named : Holder → ℕ → Seat → Seat
named h brand s = record s { slots = with_holder s.opening.seat brand h s.slots }

named_stage : (h : Holder) (brand : ℕ) (stage : Stage) (s : Seat) → TellsStage stage s → TellsStage stage (named h brand s)
named_stage h brand (Open p) s t = record { stays = t.stays; give = t.give; want = t.want; edition = t.edition; give_form = t.give_form; want_form = t.want_form }
named_stage h brand (Exited contents cause) s t = t

named_seat : (h : Holder) (brand n : ℕ) (old new : KeptSeat) (s : Seat) → TellsSeat n old s → NamesSlot h brand n old new → TellsSeat n new (named h brand s)
named_seat h brand n old new s t names = record {
  number = t.number;
  instance = t.instance ∙ sym names.instance;
  slots = ap (λ k. with_holder k brand h s.slots) t.number ∙ ap (with_holder n brand h) t.slots ∙ sym names.slots;
  stage = subst (λ (stage : Stage). TellsStage stage (named h brand s)) (sym names.stage) (named_stage h brand old.stage s t.stage);
}

named_at : (h : Holder) (brand n : ℕ) (old new : Option KeptSeat) (told : Option Seat) → TellsAt n old told → Becomes (NamesSlot h brand) n old new → TellsAt n new (option_map (named h brand) told)
named_at h brand n (Some old) (Some new) (Some s) t names = named_seat h brand n old new s t names
named_at h brand n (Some old) None (Some s) t names = absurd names
named_at h brand n (Some old) new None t names = absurd t
named_at h brand n None (Some new) told t names = absurd names
named_at h brand n None None None t names = tt
named_at h brand n None None (Some s) t names = absurd t

length-map : {A B : Type 0} (f : A → B) (xs : List A) → length (map f xs) ≡ length xs
length-map f [] = refl
length-map f (x ∷ xs) = ap suc (length-map f xs)

pub named_each : (h : Holder) (brand : ℕ) (old new : List KeptSeat) (seats : List Seat) → TellsEach old seats → EachBecomes (NamesSlot h brand) old new → TellsEach new (map (named h brand) seats)
named_each h brand old new seats t names = record {
  as_many = names.as_many ∙ t.as_many ∙ sym (length-map (named h brand) seats);
  each = λ n. subst (λ (o : Option Seat). TellsAt n (slice_get new n) o) (sym (slice_get-map (named h brand) seats n)) (named_at h brand n (slice_get old n) (slice_get new n) (slice_get seats n) (t.each n) (names.each n));
}

both_named : (m : Move) (seats : List Seat) → map (named m.to m.brand) (map (named m.from m.brand) seats) ≡ map (with_move m) seats
both_named m [] = refl
both_named m (s ∷ seats) = ap (λ ss. with_move m s ∷ ss) (both_named m seats)

-- an open seat was open, and its proposal is what it was
pub record WasOpen (seats : List Seat) (n : ℕ) (o : Opening) : Type 0 where
  pub before : IsOpen seats n
  pub same : before.seat.opening ≡ o

pub was_open : (f : Seat → Seat) → ((s : Seat) → (f s).opening ≡ s.opening) → ((s : Seat) → (f s).last ≡ None → s.last ≡ None)
    → (seats : List Seat) (n : ℕ) (is_open : IsOpen (map f seats) n) → WasOpen seats n is_open.seat.opening
was_open f opening last seats n is_open = by (slice_get seats n) refl
  where
    by : (told : Option Seat) → slice_get seats n ≡ told → WasOpen seats n is_open.seat.opening
    by (Some s) is =
        let same : Some (f s) ≡ Some is_open.seat = sym (ap (option_map f) is) ∙ sym (slice_get-map f seats n) ∙ is_open.was_opened in
        let seat : f s ≡ is_open.seat = cc in
        record {
          before = record { seat = s; was_opened = is; stays = last s (ap (λ (u : Seat). u.last) seat ∙ is_open.stays) };
          same = sym (opening s) ∙ ap (λ (u : Seat). u.opening) seat;
        }
    by None is =
        let same : None ≡ Some is_open.seat = sym (ap (option_map f) is) ∙ sym (slice_get-map f seats n) ∙ is_open.was_opened in
        absurd (cc)

neither : (a b : Bool) → (a || b) ≡ false → (a ≡ false) × (b ≡ false)
neither true b e = absurd (cc)
neither false b e = (refl, e)

next_due : (ds : List Due) → still_due ds [] ≡ drop 1 ds
next_due [] = refl
next_due (d ∷ ds) = refl

drop-map-one : {A B : Type 0} (f : A → B) (xs : List A) → drop 1 (map f xs) ≡ map f (drop 1 xs)
drop-map-one f [] = refl
drop-map-one f (x ∷ xs) = refl

-- a movement takes the first of those due, and names two holders
pub record Moves (old mid : Seats) : Type 0 where
  pub due : mid.due.items ≡ drop 1 old.due.items
  pub same : mid.seats.items ≡ old.seats.items
  pub touched : (n : ℕ) → contains nat_cmp mid.touched n ≡ contains nat_cmp old.touched n
  pub offer : mid.offer ≡ old.offer

pub moved_on : (old mid after_from new : Seats) (m : Move) → Moves old mid → Names m.from m.brand mid after_from → Names m.to m.brand after_from new
    → (i : InTurn) → TellsSeats old i → TellsSeats new (after_event i (moved m))
moved_on old mid half new m first from to i t = record {
  seats = subst (TellsEach new.seats.items) (both_named m i.now.seats)
      (named_each m.to m.brand half.seats.items new.seats.items (map (named m.from m.brand) i.now.seats) (named_each m.from m.brand mid.seats.items half.seats.items i.now.seats (subst (λ (ks : List KeptSeat). TellsEach ks i.now.seats) (sym first.same) t.seats) from.seats) to.seats);
  safe = λ n away is_open.
      let parts = neither (is_slot_of n m.to) (contains nat_cmp half.touched n) (sym (to.touched n) ∙ away) in
      let more = neither (is_slot_of n m.from) (contains nat_cmp mid.touched n) (sym (from.touched n) ∙ parts.1) in
      let was = was_open (with_move m) (λ s. refl) (λ s none. none) i.now.seats n is_open in
      let kept = kept_as n (slice_get old.seats.items n) (slice_get i.now.seats n) was.before.seat (t.seats.each n) was.before.was_opened in
      let number : was.before.seat.opening.seat ≡ n = kept.tells.number in
      let safe : IsSafe i.now.table was.before.seat.opening = t.safe n (sym (first.touched n) ∙ more.1) was.before in
      subst (λ (o : Opening). IsSafe (table_moved i.now.table (movement_of m)) o) was.same
      (safe_after i.now.table (movement_of m) was.before.seat.opening (ap (λ k. is_slot_of k m.from) number ∙ more.0) (ap (λ k. is_slot_of k m.to) number ∙ parts.0) safe);
  due = next_due i.due ∙ ap (drop 1) t.due ∙ drop-map-one due_view old.due.items ∙ ap dues_view (sym first.due ∙ sym from.due ∙ sym to.due);
  offer = t.offer ∙ sym first.offer ∙ sym from.offer ∙ sym to.offer;
}

-- ---- an exit

-- the stage tells what the slots have at the exit
abbrev pub TellsLast : Stage → List Content → Type 0
TellsLast stage contents = (s : Seat) → s.last ≡ Some contents → TellsStage stage s

exit_seat : (t : Table) (number n : ℕ) (old new : KeptSeat) (stage : Stage) (s : Seat) → TellsSeat n old s → Leaves number stage n old new
    → TellsLast stage (slot_contents t number (slots_view old.slots.items)) → (n == number) ≡ true → TellsSeat n new (record s { last = Some (contents_of t s) })
exit_seat t number n old new stage s tells leaves last same = record {
  number = tells.number;
  instance = tells.instance ∙ sym leaves.instance;
  slots = tells.slots ∙ ap slots_view (sym leaves.slots);
  stage = subst (λ (st : Stage). TellsStage st (record s { last = Some (contents_of t s) })) (sym (leaves.left same)) (last (record s { last = Some (contents_of t s) }) (ap Some here));
}
  where
    number_is : n ≡ number
    number_is = grind (arith, nat_tests)

    here : contents_of t s ≡ slot_contents t number (slots_view old.slots.items)
    here = ap (λ k. slot_contents t k s.slots) (tells.number ∙ number_is) ∙ ap (slot_contents t number) tells.slots

other_seat : (number n : ℕ) (old new : KeptSeat) (stage : Stage) (s : Seat) → TellsSeat n old s → Leaves number stage n old new → (n == number) ≡ false → TellsSeat n new s
other_seat number n old new stage s tells leaves other = record {
  number = tells.number;
  instance = tells.instance ∙ sym leaves.instance;
  slots = tells.slots ∙ ap slots_view (sym leaves.slots);
  stage = subst (λ (st : Stage). TellsStage st s) (sym (leaves.other other)) tells.stage;
}

-- the seat that exits is kept with these slots
abbrev HasSlots : ℕ → ℕ → List SlotName → Option KeptSeat → Type 0
HasSlots number n slots kept = (n == number) ≡ true → (k : KeptSeat) → kept ≡ Some k → slots_view k.slots.items ≡ slots

exit_at : (t : Table) (number n : ℕ) (slots : List SlotName) (old new : Option KeptSeat) (stage : Stage) (told : Option Seat) → TellsAt n old told → Becomes (Leaves number stage) n old new
    → TellsLast stage (slot_contents t number slots) → HasSlots number n slots old → TellsAt n new (option_map (with_exit t number) told)
exit_at t number n slots (Some old) (Some new) stage (Some s) tells leaves last has =
    subst (λ (b : Bool). TellsSeat n new (if b then record s { last = Some (contents_of t s) } else s)) (ap (λ k. k == number) (sym tells.number))
    (by (n == number) refl)
  where
    by : (b : Bool) → (n == number) ≡ b → TellsSeat n new (if b then record s { last = Some (contents_of t s) } else s)
    by true same = exit_seat t number n old new stage s tells leaves (subst (λ ss. TellsLast stage (slot_contents t number ss)) (sym (has same old refl)) last) same
    by false other = other_seat number n old new stage s tells leaves other
exit_at t number n slots (Some old) None stage (Some s) tells leaves last has = absurd leaves
exit_at t number n slots (Some old) new stage None tells leaves last has = absurd tells
exit_at t number n slots None (Some new) stage told tells leaves last has = absurd leaves
exit_at t number n slots None None stage None tells leaves last has = tt
exit_at t number n slots None None stage (Some s) tells leaves last has = absurd tells

pub exit_each : (t : Table) (number : ℕ) (slots : List SlotName) (old new : List KeptSeat) (stage : Stage) (seats : List Seat) → TellsEach old seats → EachBecomes (Leaves number stage) old new
    → TellsLast stage (slot_contents t number slots) → (k : KeptSeat) → slice_get old number ≡ Some k → slots_view k.slots.items ≡ slots → TellsEach new (map (with_exit t number) seats)
exit_each t number slots old new stage seats tells leaves last k there is = record {
  as_many = leaves.as_many ∙ tells.as_many ∙ sym (length-map (with_exit t number) seats);
  each = λ n. subst (λ (o : Option Seat). TellsAt n (slice_get new n) o) (sym (slice_get-map (with_exit t number) seats n))
      (exit_at t number n slots (slice_get old n) (slice_get new n) stage (slice_get seats n) (tells.each n) (leaves.each n) last (has n));
}
  where
    has : (n : ℕ) → HasSlots number n slots (slice_get old n)
    has n same other found =
        let number_is : n ≡ number = grind (arith, nat_tests) in
        let one : Some k ≡ Some other = sym there ∙ ap (slice_get old) (sym number_is) ∙ found in
        let seat : k ≡ other = cc in
        ap (λ (u : KeptSeat). slots_view u.slots.items) (sym seat) ∙ is

exit_opening : (t : Table) (number : ℕ) (s : Seat) → (with_exit t number s).opening ≡ s.opening
exit_opening t number s = by (s.opening.seat == number)
  where
    by : (b : Bool) → (if b then record s { last = Some (contents_of t s) } else s).opening ≡ s.opening
    by true = refl
    by false = refl

exit_open : (t : Table) (number : ℕ) (s : Seat) → (with_exit t number s).last ≡ None → s.last ≡ None
exit_open t number s = by (s.opening.seat == number)
  where
    by : (b : Bool) → (if b then record s { last = Some (contents_of t s) } else s).last ≡ None → s.last ≡ None
    by true none = absurd (cc)
    by false none = none

still_none : (due new : List Due) → due ≡ [] → still_due due new ≡ new
still_none [] new e = refl
still_none (d ∷ ds) new e = absurd (cc)

-- the seat is kept with these slots, which are paid out
pub record Exits (i : InTurn) (x : SeatExit) (old new : Seats) : Type 0 where
  pub seat : KeptSeat
  pub stage : Stage
  pub there : slice_get old.seats.items x.seat ≡ Some seat
  pub seats : EachBecomes (Leaves x.seat stage) old.seats.items new.seats.items
  pub last : TellsLast stage (slot_contents i.now.table x.seat (slots_view seat.slots.items))
  pub due : dues_view new.due.items ≡ payouts_due i.now.table x (slots_view seat.slots.items)
  pub touched : (n : ℕ) → contains nat_cmp new.touched n ≡ contains nat_cmp old.touched n
  pub offer : new.offer ≡ old.offer

none_in_place : (due : List Due) (i : InTurn) (x : SeatExit) → IsInPlace due i (exited x) → due ≡ []
none_in_place [] i x place = refl
none_in_place (d ∷ ds) i x place = absurd place

pub exited_on : (old new : Seats) (i : InTurn) (x : SeatExit) → Exits i x old new → TellsSeats old i → IsInPlace i.due i (exited x) → TellsSeats new (after_event i (exited x))
exited_on old new i x e t place = record {
  seats = exit_each i.now.table x.seat (slots_view e.seat.slots.items) old.seats.items new.seats.items e.stage i.now.seats t.seats e.seats e.last e.seat e.there refl;
  safe = λ n away is_open.
      let was = was_open (with_exit i.now.table x.seat) (exit_opening i.now.table x.seat) (exit_open i.now.table x.seat) i.now.seats n is_open in
      subst (λ (o : Opening). IsSafe i.now.table o) was.same (t.safe n (sym (e.touched n) ∙ away) was.before);
  due = still_none i.due _ (none_in_place i.due i x place) ∙ ap (payouts_due i.now.table x) slots ∙ sym e.due;
  offer = t.offer ∙ sym e.offer;
}
  where
    told : ToldAs x.seat e.seat (slice_get i.now.seats x.seat)
    told = told_as x.seat (slice_get old.seats.items x.seat) (slice_get i.now.seats x.seat) e.seat (t.seats.each x.seat) e.there

    slots : slots_at i.now.seats x.seat ≡ slots_view e.seat.slots.items
    slots = ap (λ (o : Option Seat). unwrap_or (option_map (λ s. s.slots) o) []) told.is ∙ told.tells.slots

-- ---- an opening

-- an open seat was open before, or is the last
snoc_open : (seats : List Seat) (s : Seat) (n : ℕ) (is_open : IsOpen (seats ++ s ∷ []) n) → WasOpen seats n is_open.seat.opening ⊎ (n ≡ length seats)
snoc_open seats s n is_open = by (snoc_get seats s n)
  where
    by : (slice_get (seats ++ s ∷ []) n ≡ slice_get seats n) ⊎ (n ≡ length seats) → WasOpen seats n is_open.seat.opening ⊎ (n ≡ length seats)
    by (inl same) = inl (record { before = record { seat = is_open.seat; was_opened = sym same ∙ is_open.was_opened; stays = is_open.stays }; same = refl })
    by (inr last) = inr last

opening_none : (due : List Due) (i : InTurn) (o : Opening) → IsInPlace due i (opened o) → (due ≡ []) × IsFairOpening i o
opening_none [] i o place = (refl, place)
opening_none (d ∷ ds) i o place = absurd place

pub record Opens (row : OpenRow) (old new : Seats) : Type 0 where
  pub due : dues_view new.due.items ≡ (if old.offer then burn ∷ map (escrow row.seat) (map amount_view row.give.items) else dues_view old.due.items)
  pub seat : KeptSeat
  pub seats : new.seats.items ≡ old.seats.items ++ seat ∷ []
  pub instance : seat.instance ≡ row.instance
  pub slots : slots_view seat.slots.items ≡ (new_seat (open_view row)).slots
  pub stage : seat.stage ≡ Open (record { give = row.give; want = row.want })
  pub touched : (n : ℕ) → contains nat_cmp new.touched n ≡ cond (row.seat == n) true (contains nat_cmp old.touched n)
  pub offer : new.offer ≡ old.offer

pub opened_on : (row : OpenRow) (e : Edition) (old new : Seats) (i : InTurn) → Opens row old new → HasOpeningForm e (open_view row) → TellsSeats old i
    → IsInPlace i.due i (opened (open_view row)) → TellsSeats new (after_event i (opened (open_view row)))
opened_on row e old new i opens form t place = record {
  seats = record {
    as_many = ap length opens.seats ∙ length-snoc old.seats.items opens.seat ∙ ap suc t.seats.as_many ∙ sym (length-snoc i.now.seats (new_seat (open_view row)));
    each = λ n. subst (λ (ks : List KeptSeat). TellsAt n (slice_get ks n) (slice_get (i.now.seats ++ new_seat (open_view row) ∷ []) n)) (sym opens.seats)
        (each_snoc TellsAt old.seats.items i.now.seats opens.seat (new_seat (open_view row)) t.seats.as_many t.seats.each last (λ n. tt) n);
  };
  safe = λ n away is_open. elim (snoc_open i.now.seats (new_seat (open_view row)) n is_open) [
    | inl was ↦ subst (λ (o : Opening). IsSafe i.now.table o) was.same (t.safe n (others (row.seat == n) (contains nat_cmp old.touched n) (sym (opens.touched n) ∙ away)).1 was.before)
    | inr last_one ↦ absurd (not_new n last_one (others (row.seat == n) (contains nat_cmp old.touched n) (sym (opens.touched n) ∙ away)).0)
  ];
  due = still_none i.due _ parts.0 ∙ due_is;
  offer = t.offer ∙ sym opens.offer;
}
  where
    parts : (i.due ≡ []) × IsFairOpening i (open_view row)
    parts = opening_none i.due i (open_view row) place

    number : row.seat ≡ length old.seats.items
    number = parts.1.next ∙ sym t.seats.as_many

    proposal : TellsProposal (record { give = row.give; want = row.want }) (new_seat (open_view row))
    proposal = record { stays = refl; give = refl; want = refl; edition = e; give_form = form.give.each; want_form = form.want.each }

    last : TellsSeat (length old.seats.items) opens.seat (new_seat (open_view row))
    last = record {
      number = number;
      instance = sym opens.instance;
      slots = sym opens.slots;
      stage = subst (λ (stage : Stage). TellsStage stage (new_seat (open_view row))) (sym opens.stage) proposal;
    }

    others : (b c : Bool) → cond b true c ≡ false → (b ≡ false) × (c ≡ false)
    others true c h = absurd (cc)
    others false c h = (refl, h)

    not_new : (n : ℕ) → n ≡ length i.now.seats → (row.seat == n) ≡ false → ⊥
    not_new n is other = let same : row.seat ≡ n = parts.1.next ∙ sym is in grind (arith, nat_tests)

    due_is : due_after i (opened (open_view row)) ≡ dues_view new.due.items
    due_is = ap (λ b. if b then burn ∷ map (escrow row.seat) (map amount_view row.give.items) else []) t.offer ∙ by old.offer ∙ sym opens.due
      where
        by : (b : Bool) → (if b then burn ∷ map (escrow row.seat) (map amount_view row.give.items) else []) ≡ (if b then burn ∷ map (escrow row.seat) (map amount_view row.give.items) else dues_view old.due.items)
        by true = refl
        by false = sym parts.0 ∙ t.due

-- ---- why seats exited

each_same : {A B : Type 0} (f : A → B) (P : ℕ → Option A → Option A → Type 0) → ((n : ℕ) (a b : A) → P n (Some a) (Some b) → f b ≡ f a)
    → (xs ys : List A) → length ys ≡ length xs → ((n : ℕ) → P n (slice_get xs n) (slice_get ys n)) → map f ys ≡ map f xs
each_same f P some [] [] e each = refl
each_same f P some [] (y ∷ ys) e each = absurd (omega (arith, e))
each_same f P some (x ∷ xs) [] e each = absurd (omega (arith, e))
each_same f P some (x ∷ xs) (y ∷ ys) e each =
    let first : f y ≡ f x = some 0 x y (each zero) in
    let rest : map f ys ≡ map f xs = each_same f (λ n. P (suc n)) (λ n. some (suc n)) xs ys (omega (arith, e)) (λ n. each (suc n)) in cc

each_set : {A B : Type 0} (f : A → B) (v : B) (P : ℕ → Option A → Option A → Type 0) (number : ℕ)
    → ((n : ℕ) (a b : A) → n ≡ number → P n (Some a) (Some b) → f b ≡ v) → ((n : ℕ) (a b : A) → n ≢ number → P n (Some a) (Some b) → f b ≡ f a)
    → (xs ys : List A) → length ys ≡ length xs → ((n : ℕ) → P n (slice_get xs n) (slice_get ys n)) → map f ys ≡ set (map f xs) number v
each_set f v P number left other [] [] e each = refl
each_set f v P number left other [] (y ∷ ys) e each = absurd (omega (arith, e))
each_set f v P number left other (x ∷ xs) [] e each = absurd (omega (arith, e))
each_set f v P zero left other (x ∷ xs) (y ∷ ys) e each =
    let first : f y ≡ v = left 0 x y refl (each zero) in
    let rest : map f ys ≡ map f xs = each_same f (λ n. P (suc n)) (λ n a b. other (suc n) a b (λ h. omega (arith, h))) xs ys (omega (arith, e)) (λ n. each (suc n)) in cc
each_set f v P (suc number) left other (x ∷ xs) (y ∷ ys) e each =
    let first : f y ≡ f x = other 0 x y (λ h. omega (arith, h)) (each zero) in
    let rest : map f ys ≡ set (map f xs) number v = each_set f v (λ n. P (suc n)) number (λ n a b h. left (suc n) a b (ap suc h)) (λ n a b h. other (suc n) a b (λ k. h (omega (arith, k)))) xs ys (omega (arith, e)) (λ n. each (suc n)) in cc

pub causes_named : (h : Holder) (brand : ℕ) (old new : List KeptSeat) → EachBecomes (NamesSlot h brand) old new → map cause_of new ≡ map cause_of old
causes_named h brand old new names = each_same cause_of (Becomes (NamesSlot h brand)) (λ n a b named. ap cause_in named.stage) old new names.as_many names.each

pub causes_left : (number : ℕ) (stage : Stage) (old new : List KeptSeat) → EachBecomes (Leaves number stage) old new → map cause_of new ≡ set (map cause_of old) number (cause_in stage)
causes_left number stage old new leaves =
    each_set cause_of (cause_in stage) (Becomes (Leaves number stage)) number
    (λ n a b same left. ap cause_in (left.left (grind (arith, nat_tests))))
    (λ n a b apart left. ap cause_in (left.other (grind (arith, nat_tests)))) old new leaves.as_many leaves.each

pub causes_past : (ks : List KeptSeat) (n : ℕ) (v : Option Cause) → None ≡ slice_get ks n → map cause_of ks ≡ set (map cause_of ks) n v
causes_past [] n v none = refl
causes_past (k ∷ ks) zero v none = absurd (cc)
causes_past (k ∷ ks) (suc n) v none = ap (λ cs. cause_of k ∷ cs) (causes_past ks n v none)

-- ---- an opening, in its steps

pub opens_from : (row : OpenRow) (old half mid new : Seats) → Expects (open_view row) old half → mid ≡ record half { touched = mid.touched } → ((n : ℕ) → contains nat_cmp mid.touched n ≡ cond (row.seat == n) true (contains nat_cmp half.touched n))
    → Adds row mid new → Opens row old new
opens_from row old half mid new expects same touched adds = record {
  due = ap (λ (k : Seats). dues_view k.due.items) adds.rest ∙ ap (λ (k : Seats). dues_view k.due.items) same ∙ expects.due;
  seat = adds.seat;
  seats = adds.seats ∙ ap (λ (k : Seats). k.seats.items ++ adds.seat ∷ []) (same ∙ ap (λ (k : Seats). record k { touched = mid.touched }) expects.rest);
  instance = adds.instance;
  slots = adds.slots;
  stage = adds.stage;
  touched = λ n. ap (λ (k : Seats). contains nat_cmp k.touched n) adds.rest ∙ touched n ∙ ap (λ (k : Seats). cond (row.seat == n) true (contains nat_cmp k.touched n)) expects.rest;
  offer = ap (λ (k : Seats). k.offer) adds.rest ∙ ap (λ (k : Seats). k.offer) same ∙ ap (λ (k : Seats). k.offer) expects.rest;
}

-- ---- other rows, and the turn's end

-- a row that is neither an opening, nor a movement, nor an exit
pub seats_rest : (k : Seats) (i : InTurn) (e : Event) → ChangesNothing e → i.due ≡ [] → TellsSeats k i → TellsSeats k (after_event i e)
seats_rest k i (called c) changes none t = record { seats = t.seats; safe = t.safe; due = still_none i.due [] none ∙ sym none ∙ t.due; offer = t.offer }
seats_rest k i (settled p r) changes none t = record { seats = t.seats; safe = t.safe; due = still_none i.due [] none ∙ sym none ∙ t.due; offer = t.offer }
seats_rest k i (opened o) changes none t = absurd changes
seats_rest k i (moved m) changes none t = absurd changes
seats_rest k i (exited x) changes none t = absurd changes

pub none_kept : (ds : List KeptDue) → [] ≡ dues_view ds → ds ≡ []
none_kept [] e = refl
none_kept (d ∷ ds) e = absurd (cc)

-- a turn has ended, with every open seat covered
pub seats_ended : (k : Seats) (i : InTurn) → TellsSeats k i → i.due ≡ [] → AreSafe i.now.seats i.now.table → TellsSeatsBefore k (told_after i)
seats_ended k i t none safe = record { seats = t.seats; safe = safe; none_due = none_kept k.due.items (sym none ∙ t.due) }
