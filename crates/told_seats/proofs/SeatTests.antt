-- What tests of the seats that are kept say of what rows tell.
use Rattle.std.proofs.Common.{◌≡◌, ◌≢◌, ℕ, ◌==◌, ◌||◌, Bool, true, false, List, [], ◌∷◌, Option, Some, None, length, map, refl, sym, ap, subst, ◌∙◌, inl, inr, ◌⊎◌, arith}
use Rattle.std.specs.Prelude.{option_map, ◌↔◌}
use Rattle.std.specs.Global.{Vec}
use Rattle.std.proofs.lemmas.Bool.Decides.{nat_tests}
use Rattle.std.specs.BTreeMap.{is_at}
use Rattle.std.specs.BTreeSet.{contains}
use Rattle.std.specs.List.{AllByRecursion, list_any, slice_get}
use Rattle.std.specs.Ordering.{nat_cmp}
use Rattle.row_records.specs.Views.{amount_view, open_view, payout_view}
use Rattle.row_records.specs.declared.rows.OpenRow.{OpenRow}
use Rattle.row_records.specs.turn_records.declared.events.Payout.{Payout as PayoutRow}
use Rattle.std.specs.Option.{option_map_or}
use Rattle.row_records.specs.amount_math.Content.{Content, nothing}
use Rattle.row_records.specs.fair_rows.Amounts.{moved_at_exit, content_under}
use Rattle.row_records.specs.fair_rows.ExitCauses.{first_cause}
use Rattle.row_records.specs.fair_rows.Rows.{Due, FollowsKit, InTurn, IsDueMove, IsFairExit, IsFairOpening, IsInPlace, IsOpenSlot, NamesOpenSlots}
use Rattle.row_records.specs.fair_rows.Seats.{IsCovered, IsOpen, IsSafe, Seat, brand_under}
use Rattle.row_records.specs.fair_rows.Turns.{HasFirstCause}
use Rattle.row_records.specs.rights_model.Table.{Table}
use Rattle.row_records.specs.rights_model.declared.Movement.{Movement}
use Rattle.row_records.specs.rights_model.declared.Holder.{Holder}
use Rattle.row_records.specs.rights_model.declared.Holder.TheVariants.{Slot}
use Rattle.row_records.specs.turn_rows.Form.{HasOpeningForm}
use Rattle.row_records.specs.turn_rows.Turns.{Move, Opening, SeatExit, exited, moved, opened}
use Rattle.row_records.specs.turn_rows.declared.editions.Edition.{Edition}
use Rattle.told_seats.specs.DueViews.{dues_view, due_view}
use Rattle.told_seats.specs.SeatSteps.{AreNamed, AreNew, ArePaid, HasPayouts, IsSafeAt, MayName}
use Rattle.told_seats.specs.SlotViews.{slot_view, slots_view}
use Rattle.told_seats.specs.ToldSeats.{AreSafe, TellsEach, TellsProposal, TellsSeat, TellsSeats, TellsStage}
use Rattle.told_seats.specs.declared.dues.Due.{Due as KeptDue}
use Rattle.told_seats.specs.declared.seats.Promised.{Promised}
use Rattle.told_seats.specs.declared.seats.Seat.{Seat as KeptSeat}
use Rattle.told_seats.specs.declared.seats.Seats.{Seats}
use Rattle.told_seats.specs.declared.slots.SlotName.{SlotName as KeptName}
use Rattle.told_seats.specs.declared.seats.Stage.{Stage}
use Rattle.told_seats.specs.declared.seats.Stage.TheVariants.{Exited, Open}
use Rattle.row_records.specs.turn_records.declared.events.Cause.{Cause}
use Rattle.told_seats.proofs.SlotsApart.{slots_of_brands}
use Rattle.told_seats.proofs.ToldSeats.{none_kept, told_as, told_none}

-- ---- open seats

pub record IsKeptOpen (n : ℕ) (k : KeptSeat) (p : Promised) (seats : List Seat) : Type 0 where
  pub is_open : IsOpen seats n
  pub tells : TellsSeat n k is_open.seat
  pub proposal : TellsProposal p is_open.seat

pub one_open : (seats : List Seat) (n : ℕ) (a b : IsOpen seats n) → a.seat ≡ b.seat
one_open seats n a b = let same : Some a.seat ≡ Some b.seat = sym a.was_opened ∙ b.was_opened in cc

module _ (ks : List KeptSeat) (seats : List Seat) (n : ℕ) (t : TellsEach ks seats) where
  pub none_open : slice_get ks n ≡ None → IsOpen seats n → ⊥
  none_open none is_open = let clash : None ≡ Some is_open.seat = sym (told_none n (slice_get ks n) (slice_get seats n) (t.each n) none) ∙ is_open.was_opened in absurd (cc)

  pub left_open : {k : KeptSeat} {contents : Vec Content} {cause : Cause} → Some k ≡ slice_get ks n → k.stage ≡ Exited contents cause → IsOpen seats n → ⊥
  left_open {k} {contents} {cause} there left is_open =
      let told = told_as n (slice_get ks n) (slice_get seats n) k (t.each n) (sym there) in
      let last : told.seat.last ≡ Some contents.items = subst (λ (stage : Stage). TellsStage stage told.seat) left told.tells.stage in
      let same : Some told.seat ≡ Some is_open.seat = sym told.is ∙ is_open.was_opened in
      let seat : told.seat ≡ is_open.seat = cc in
      let clash : Some contents.items ≡ None = sym last ∙ ap (λ (s : Seat). s.last) seat ∙ is_open.stays in absurd (cc)

  pub open_kept : {k : KeptSeat} {p : Promised} → Some k ≡ slice_get ks n → k.stage ≡ Open p → IsKeptOpen n k p seats
  open_kept {k} {p} there is =
      let told = told_as n (slice_get ks n) (slice_get seats n) k (t.each n) (sym there) in
      let proposal : TellsProposal p told.seat = subst (λ (stage : Stage). TellsStage stage told.seat) is told.tells.stage in
      record { is_open = record { seat = told.seat; was_opened = told.is; stays = proposal.stays }; tells = told.tells; proposal = proposal }

-- ---- slots

abbrev pub MayBe : Option ℕ → ℕ → Type 0
MayBe (Some b) brand = b ≡ brand
MayBe None brand = Unit {0}

pub open_slot : (seats : List Seat) (n : ℕ) (k : KeptSeat) (p : Promised) → IsKeptOpen n k p seats → (keyword : List ℕ) (brand : ℕ) (found : Option ℕ) → found ≡ brand_under keyword (slots_view k.slots.items)
    → MayBe found brand ↔ IsOpenSlot seats n keyword brand
open_slot seats n k p kept keyword brand found is = (
  λ may. record { is_open = kept.is_open; of_brand = λ b e. brands found may b (is ∙ sym (slots kept.is_open) ∙ e) },
  λ slot. whose found (λ b e. slot.of_brand b (slots slot.is_open ∙ sym is ∙ e)),
)
  where
    slots : (o : IsOpen seats n) → brand_under keyword o.seat.slots ≡ brand_under keyword (slots_view k.slots.items)
    slots o = ap (λ (s : Seat). brand_under keyword s.slots) (one_open seats n o kept.is_open) ∙ ap (brand_under keyword) kept.tells.slots

    brands : (found : Option ℕ) → MayBe found brand → (b : ℕ) → found ≡ Some b → b ≡ brand
    brands (Some a) may b e = let same : a ≡ b = cc in sym same ∙ may
    brands None may b e = absurd (cc)

    whose : (found : Option ℕ) → ((b : ℕ) → found ≡ Some b → b ≡ brand) → MayBe found brand
    whose (Some a) h = h a refl
    whose None h = tt

pub slot_tested : {seats : List Seat} {n : ℕ} {k : KeptSeat} {p : Promised} → IsKeptOpen n k p seats → (keyword : List ℕ) (brand found : ℕ) → Some found ≡ brand_under keyword (slots_view k.slots.items)
    → (found == brand) ≡ true ↔ IsOpenSlot seats n keyword brand
slot_tested {seats} {n} {k} {p} kept keyword brand found is =
    let slot = open_slot seats n k p kept keyword brand (Some found) is in
    (λ h. let same : found ≡ brand = grind (arith, nat_tests) in slot.0 same, λ named. let same : found ≡ brand = slot.1 named in grind (arith, nat_tests))

pub slot_free : {seats : List Seat} {n : ℕ} {k : KeptSeat} {p : Promised} → IsKeptOpen n k p seats → (keyword : List ℕ) (brand : ℕ) → None ≡ brand_under keyword (slots_view k.slots.items)
    → true ≡ true ↔ IsOpenSlot seats n keyword brand
slot_free {seats} {n} {k} {p} kept keyword brand is = let slot = open_slot seats n k p kept keyword brand None is in (λ h. slot.0 tt, λ named. refl)

-- a movement names two holders
pub names_both : (seats : List Seat) (m : Move) → (MayName seats m.from m.brand × MayName seats m.to m.brand) ↔ NamesOpenSlots seats m
names_both seats m = (λ both. record { from = both.0; to = both.1 }, λ names. (names.from, names.to))

pub is_slot_name : (seats : List Seat) (n brand : ℕ) (keyword : List ℕ) → IsOpenSlot seats n keyword brand → MayName seats (Slot n keyword) brand
is_slot_name seats n brand keyword slot seat word is = let number : n ≡ seat = cc in let words : keyword ≡ word = cc in
    subst (λ w. IsOpenSlot seats seat w brand) words (subst (λ k. IsOpenSlot seats k keyword brand) number slot)

pub name_tested : (seats : List Seat) {n : ℕ} {keyword : List ℕ} (brand : ℕ) (b : Bool) (h : Holder) → (b ≡ true ↔ IsOpenSlot seats n keyword brand) → h ≡ Slot n keyword → b ≡ true ↔ MayName seats h brand
name_tested seats {n} {keyword} brand b h tested is = (λ follow seat word same. is_slot_name seats n brand keyword (tested.0 follow) seat word (sym is ∙ same), λ may. tested.1 (may n keyword is))

-- one test after another
pub both_ways : {A B C : Type 0} → A ↔ B → B ↔ C → A ↔ C
both_ways first second = (λ a. second.0 (first.0 a), λ c. first.1 (second.1 c))

-- ---- safety

abbrev pub Covers : Table → ℕ → Promised → Type 0
Covers t n p = AllByRecursion (IsCovered t n) (map amount_view p.want.items) ⊎ AllByRecursion (IsCovered t n) (map amount_view p.give.items)

pub safe_kept : (t : Table) {seats : List Seat} {n : ℕ} {k : KeptSeat} {p : Promised} → IsKeptOpen n k p seats → Covers t n p ↔ IsSafeAt seats t n
safe_kept t {seats} {n} {k} {p} kept = (
  λ covers o. subst (λ (s : Seat). IsSafe t s.opening) (one_open seats n kept.is_open o) (forth covers),
  λ safe. back (safe kept.is_open),
)
  where
    forth : Covers t n p → IsSafe t kept.is_open.seat.opening
    forth (inl want) = inl (subst (λ m. AllByRecursion (IsCovered t m) kept.is_open.seat.opening.want) (sym kept.tells.number) (subst (AllByRecursion (IsCovered t n)) (sym kept.proposal.want) want))
    forth (inr give) = inr (subst (λ m. AllByRecursion (IsCovered t m) kept.is_open.seat.opening.give) (sym kept.tells.number) (subst (AllByRecursion (IsCovered t n)) (sym kept.proposal.give) give))

    back : IsSafe t kept.is_open.seat.opening → Covers t n p
    back (inl want) = inl (subst (AllByRecursion (IsCovered t n)) kept.proposal.want (subst (λ m. AllByRecursion (IsCovered t m) kept.is_open.seat.opening.want) kept.tells.number want))
    back (inr give) = inr (subst (AllByRecursion (IsCovered t n)) kept.proposal.give (subst (λ m. AllByRecursion (IsCovered t m) kept.is_open.seat.opening.give) kept.tells.number give))

-- ---- exits

pub none_of : (due : List Due) → (false ≡ true ↔ (due ≢ [])) → due ≡ []
none_of [] tested = refl
none_of (d ∷ ds) tested = let clash : false ≡ true = tested.1 (λ h. cc) in absurd (cc)

pub payouts_kept : (i : InTurn) (x : SeatExit) {k : KeptSeat} {p : Promised} → IsKeptOpen x.seat k p i.now.seats → ArePaid i.now.moves x.payouts (slots_view k.slots.items) ↔ HasPayouts i x
payouts_kept i x {k} {p} kept = (
  λ paid. record {
    is_open = kept.is_open;
    as_many = paid.as_many ∙ sym (ap length (slots kept.is_open));
    named = subst (AreNamed x.payouts) (sym (slots kept.is_open)) paid.named;
    fresh = paid.fresh;
  },
  λ has. record { as_many = has.as_many ∙ ap length (slots has.is_open); named = subst (AreNamed x.payouts) (slots has.is_open) has.named; fresh = has.fresh },
)
  where
    slots : (o : IsOpen i.now.seats x.seat) → o.seat.slots ≡ slots_view k.slots.items
    slots o = ap (λ (s : Seat). s.slots) (one_open i.now.seats x.seat o kept.is_open) ∙ kept.tells.slots

length-map : {A B : Type 0} (f : A → B) (xs : List A) → length (map f xs) ≡ length xs
length-map f [] = refl
length-map f (y ∷ xs) = let e = length-map f xs in omega (arith, e)

pub paid_is : (moves : List Movement) (payouts : List PayoutRow) (slots : List KeptName) → length payouts ≡ length slots → AreNamed (map payout_view payouts) (slots_view slots)
    → (b : Bool) → (b ≡ true ↔ AreNew moves (map payout_view payouts)) → b ≡ true ↔ ArePaid moves (map payout_view payouts) (slots_view slots)
paid_is moves payouts slots as_many named b new = (
  λ is. record { as_many = length-map payout_view payouts ∙ as_many ∙ sym (length-map slot_view slots); named = named; fresh = new.0 is },
  λ paid. new.1 paid.fresh,
)

pub paid_same : (moves : List Movement) (xs ys : List PayoutRow) (ss ts : List KeptName) (b : Bool) → xs ≡ ys → ss ≡ ts
    → (b ≡ true ↔ ArePaid moves (map payout_view xs) (slots_view ss)) → b ≡ true ↔ ArePaid moves (map payout_view ys) (slots_view ts)
paid_same moves xs ys ss ts b same_rows same_slots tested =
    subst (λ (rows : List PayoutRow). b ≡ true ↔ ArePaid moves (map payout_view rows) (slots_view ts)) same_rows
    (subst (λ (names : List KeptName). b ≡ true ↔ ArePaid moves (map payout_view xs) (slots_view names)) same_slots tested)

pub exit_in_place : (i : InTurn) (x : SeatExit) → i.due ≡ [] → IsFairExit i x → IsInPlace i.due i (exited x)
exit_in_place i x none fair = subst (λ due. IsInPlace due i (exited x)) (sym none) fair

pub exit_placed : (due : List Due) (i : InTurn) (x : SeatExit) → IsInPlace due i (exited x) → (due ≡ []) × IsFairExit i x
exit_placed [] i x place = (refl, place)
exit_placed (d ∷ ds) i x place = absurd place

pub exit_parts : (i : InTurn) (x : SeatExit) → HasPayouts i x → HasFirstCause i.now.seats i.before.owners i.row i.here x → IsSafeAt i.now.seats i.now.table x.seat → IsFairExit i x
exit_parts i x has caused safe =
    let same : Some caused.seat ≡ Some has.is_open.seat = sym caused.was_opened ∙ has.is_open.was_opened in
    let seat : caused.seat ≡ has.is_open.seat = cc in
    record {
      is_open = has.is_open;
      cause = subst (λ (s : Seat). first_cause i.before.owners i.row i.here s.opening.instance x.seat ≡ Some x.cause) seat caused.first;
      safe = safe has.is_open;
      as_many = has.as_many;
      named = has.named;
      fresh = has.fresh;
    }

pub exit_has : (i : InTurn) (x : SeatExit) → IsFairExit i x → HasPayouts i x
exit_has i x fair = record { is_open = fair.is_open; as_many = fair.as_many; named = fair.named; fresh = fair.fresh }

pub exit_caused : (i : InTurn) (x : SeatExit) → IsFairExit i x → HasFirstCause i.now.seats i.before.owners i.row i.here x
exit_caused i x fair = record { seat = fair.is_open.seat; was_opened = fair.is_open.was_opened; first = fair.cause }

pub exit_safe : (i : InTurn) (x : SeatExit) → IsFairExit i x → IsSafeAt i.now.seats i.now.table x.seat
exit_safe i x fair o = subst (λ (s : Seat). IsSafe i.now.table s.opening) (one_open i.now.seats x.seat fair.is_open o) fair.safe

pub exit_tested : (k : Seats) (i : InTurn) (x : SeatExit) (b : Bool) → TellsSeats k i → i.due ≡ [] → HasPayouts i x → HasFirstCause i.now.seats i.before.owners i.row i.here x
    → (b ≡ true ↔ IsSafeAt i.now.seats i.now.table x.seat) → b ≡ true ↔ IsInPlace i.due i (exited x)
exit_tested k i x b t none has caused safe = (
  λ h. exit_in_place i x none (exit_parts i x has caused (safe.0 h)),
  λ place. safe.1 (exit_safe i x (exit_placed i.due i x place).1),
)

-- ---- openings

pub record MayOpen (k : Seats) (o : Opening) (follows : Bool) : Type 0 where
  pub none : k.due.items ≡ []
  pub next : o.seat ≡ length k.seats.items
  pub by : (k.offer ≡ true) ⊎ (follows ≡ true)
  pub empty : follows ≡ true → (o.give ≡ []) × (o.want ≡ [])

pub may_open_is : (k : Seats) (i : InTurn) (e : Edition) (o : Opening) (follows : Bool) → HasOpeningForm e o → TellsSeats k i → (follows ≡ true ↔ FollowsKit i.here)
    → MayOpen k o follows ↔ IsInPlace i.due i (opened o)
may_open_is k i e o follows form t behind = (
  λ may. subst (λ due. IsInPlace due i (opened o)) (sym (t.due ∙ ap dues_view may.none))
      (record {
        next = may.next ∙ t.seats.as_many;
        of_brand = slots_of_brands e o form;
        by = elim may.by [ inl offer ↦ inl (t.offer ∙ offer) | inr follow ↦ inr (behind.0 follow) ];
        empty = λ follow. may.empty (behind.1 follow);
      }),
  λ place. let placed = parts i.due place in record {
    none = none_kept k.due.items (sym placed.0 ∙ t.due);
    next = placed.1.next ∙ sym t.seats.as_many;
    by = elim placed.1.by [ inl offer ↦ inl (sym t.offer ∙ offer) | inr follow ↦ inr (behind.1 follow) ];
    empty = λ follow. placed.1.empty (behind.0 follow);
  },
)
  where
    parts : (due : List Due) → IsInPlace due i (opened o) → (due ≡ []) × IsFairOpening i o
    parts [] place = (refl, place)
    parts (d ∷ ds) place = absurd place

-- what is left to be tested where no movement is due, and the seat is the next
module _ (k : Seats) (i : InTurn) (e : Edition) (row : OpenRow) (follows : Bool) (form : HasOpeningForm e (open_view row)) (t : TellsSeats k i) (behind : follows ≡ true ↔ FollowsKit i.here) where
  pub open_by_offer : follows ≡ false → i.due ≡ [] → row.seat ≡ length k.seats.items → k.offer ≡ true ↔ IsInPlace i.due i (opened (open_view row))
  open_by_offer away none next =
      let is = may_open_is k i e (open_view row) follows form t behind in (
        λ h. is.0 (record { none = none_kept k.due.items (sym none ∙ t.due); next = next; by = inl h; empty = λ y. let clash : true ≡ false = sym y ∙ away in absurd (cc) }),
        λ place. elim (is.1 place).by [ inl offer ↦ offer | inr follow ↦ let clash : true ≡ false = sym follow ∙ away in absurd (cc) ],
      )

-- ---- movements

pub due_in_place : (k : Seats) (i : InTurn) (d : KeptDue) (ds : List KeptDue) (m : Move) → TellsSeats k i → k.due.items ≡ d ∷ ds → IsDueMove i.now.moves (due_view d) m ↔ IsInPlace i.due i (moved m)
due_in_place k i d ds m t is = (λ move. subst (λ due. IsInPlace due i (moved m)) (sym due) move, λ place. subst (λ due. IsInPlace due i (moved m)) due place)
  where
    due : i.due ≡ due_view d ∷ dues_view ds
    due = t.due ∙ ap dues_view is

first_due : (items : List KeptDue) (d : KeptDue) → Some d ≡ slice_get items 0 → (ds : List KeptDue) × (items ≡ d ∷ ds)
first_due [] d is = absurd (cc)
first_due (e ∷ ds) d is = let same : d ≡ e = cc in (ds, ap (λ x. x ∷ ds) (sym same))

pub next_in_place : (k : Seats) (i : InTurn) (d : KeptDue) (m : Move) → TellsSeats k i → Some d ≡ slice_get k.due.items 0 → IsDueMove i.now.moves (due_view d) m ↔ IsInPlace i.due i (moved m)
next_in_place k i d m t is = let first = first_due k.due.items d is in due_in_place k i d first.0 m t first.1

no_due : (items : List KeptDue) → None ≡ slice_get items 0 → items ≡ []
no_due [] is = refl
no_due (d ∷ ds) is = absurd (cc)

pub free_in_place : (k : Seats) (i : InTurn) (m : Move) → TellsSeats k i → None ≡ slice_get k.due.items 0 → NamesOpenSlots i.now.seats m ↔ IsInPlace i.due i (moved m)
free_in_place k i m t is = names_in_place_of k i m t (no_due k.due.items is)
  where
    names_in_place_of : (k : Seats) (i : InTurn) (m : Move) → TellsSeats k i → k.due.items ≡ [] → NamesOpenSlots i.now.seats m ↔ IsInPlace i.due i (moved m)
    names_in_place_of k i m t none = (λ names. subst (λ due. IsInPlace due i (moved m)) (sym (t.due ∙ ap dues_view none)) names, λ place. subst (λ due. IsInPlace due i (moved m)) (t.due ∙ ap dues_view none) place)

-- ---- what is read of seats

abbrev last_in : List ℕ → ℕ → Option Seat → Content
last_in keyword brand told = option_map_or (λ (s : Seat). option_map_or (content_under keyword brand s.slots) s.last nothing) told nothing

module _ (ks : List KeptSeat) (seats : List Seat) (n : ℕ) (t : TellsEach ks seats) where
  pub instance_none : slice_get ks n ≡ None → None ≡ option_map (λ (s : Seat). s.opening.instance) (slice_get seats n)
  instance_none none = ap (option_map (λ (s : Seat). s.opening.instance)) (sym (told_none n (slice_get ks n) (slice_get seats n) (t.each n) none))

  pub instance_told : (k : KeptSeat) → slice_get ks n ≡ Some k → Some k.instance ≡ option_map (λ (s : Seat). s.opening.instance) (slice_get seats n)
  instance_told k there =
      let told = told_as n (slice_get ks n) (slice_get seats n) k (t.each n) there in
      ap Some (sym told.tells.instance) ∙ ap (option_map (λ (s : Seat). s.opening.instance)) (sym told.is)

  pub last_none : (keyword : List ℕ) (brand : ℕ) → slice_get ks n ≡ None → moved_at_exit seats n keyword brand ≡ nothing
  last_none keyword brand none = ap (last_in keyword brand) (told_none n (slice_get ks n) (slice_get seats n) (t.each n) none)

  pub last_open : (keyword : List ℕ) (brand : ℕ) (k : KeptSeat) (p : Promised) → slice_get ks n ≡ Some k → k.stage ≡ Open p → moved_at_exit seats n keyword brand ≡ nothing
  last_open keyword brand k p there is =
      let told = told_as n (slice_get ks n) (slice_get seats n) k (t.each n) there in
      let proposal : TellsProposal p told.seat = subst (λ (stage : Stage). TellsStage stage told.seat) is told.tells.stage in
      ap (last_in keyword brand) told.is ∙ ap (λ (o : Option (List Content)). option_map_or (content_under keyword brand told.seat.slots) o nothing) proposal.stays

  pub last_left : (keyword : List ℕ) (brand : ℕ) (k : KeptSeat) (contents : Vec Content) (cause : Cause) → slice_get ks n ≡ Some k → k.stage ≡ Exited contents cause
      → moved_at_exit seats n keyword brand ≡ content_under keyword brand (slots_view k.slots.items) contents.items
  last_left keyword brand k contents cause there is =
      let told = told_as n (slice_get ks n) (slice_get seats n) k (t.each n) there in
      let last : told.seat.last ≡ Some contents.items = subst (λ (stage : Stage). TellsStage stage told.seat) is told.tells.stage in
      ap (last_in keyword brand) told.is ∙ ap (λ (o : Option (List Content)). option_map_or (content_under keyword brand told.seat.slots) o nothing) last
      ∙ ap (λ ss. content_under keyword brand ss contents.items) told.tells.slots

-- ---- seats that were tested one after another

pub safe_more : (P : ℕ → Type 0) (n x : ℕ) (rest : List ℕ) → P x → (list_any (is_at (nat_cmp n)) (x ∷ rest) ≡ false → P n) → list_any (is_at (nat_cmp n)) rest ≡ false → P n
safe_more P n x rest here later away = by (is_at (nat_cmp n) x) refl
  where
    by : (b : Bool) → is_at (nat_cmp n) x ≡ b → P n
    by true is = let same : x ≡ n = grind (arith, nat_tests) in subst P same here
    by false is = later (ap (λ b. b || list_any (is_at (nat_cmp n)) rest) is ∙ away)

pub safe_all : (k : Seats) (i : InTurn) → TellsSeats k i → ((n : ℕ) → contains nat_cmp k.touched n ≡ true → IsSafeAt i.now.seats i.now.table n) → AreSafe i.now.seats i.now.table
safe_all k i t touched n = by (contains nat_cmp k.touched n) refl
  where
    by : (b : Bool) → contains nat_cmp k.touched n ≡ b → IsSafeAt i.now.seats i.now.table n
    by true is = touched n is
    by false is = t.safe n is
