-- The list with every kind of row is fair.
use Rattle.std.proofs.Common.{◌≡◌, ℕ, Bool, true, false, List, [], ◌∷◌, codes, drop, refl, sym, ap, subst, arith}
use Rattle.std.specs.Fmt.{digits}
use Rattle.fair_rows.specs.amount_math.declared.Kind.TheVariants.{Nat, Set}
use Rattle.fair_rows.specs.rights_model.Table.{holds}
use Rattle.fair_rows.specs.rights_model.Totals.{brands_of}
use Rattle.fair_rows.specs.rights_model.declared.Holder.TheVariants.{Hand, Outside, Payment, Purse, Slot}
use Rattle.fair_rows.specs.turn_rows.Rows.{amount_json, amounts_json}
use Rattle.fair_rows.specs.turn_rows.Kinds as kinds
use Rattle.serde_json.specs.Data as json
use Rattle.fair_rows.specs.turn_rows.Turns.{Answer, Call, Event, KeywordAmount, Move, Turn, moved, number, ok}
use Rattle.fair_rows.specs.Amounts.{IfAmount, IfOkAnswer, InRecord, IsOfExit, IsOfNamedSlot, IsOfPayment, IsOfPurse, IsOfSlot, IsPrinted}
use Rattle.fair_rows.proofs.Amounts.{if_amount}
use Rattle.fair_rows.specs.ExitCauses.{calls, name}
use Rattle.fair_rows.specs.SoFar.{SoFar, nothing_so_far}
use Rattle.fair_rows.specs.Steps.{so_far_after}
use Rattle.fair_rows.specs.Turns.{AreFair, IsFairJournal}
use Rattle.fair_samples.specs.Example.{and_turns, art, seat_read, example, goods, example_handler, nothing_of_set, example_offer, purse_read, example_start}
use Rattle.fair_samples.specs.Samples.{amount, none, object, one}
use Rattle.fair_samples.specs.Sentences.{Sentence, current_amounts, final_amounts, payment_amounts, purse_amounts, slot_amounts}
use Rattle.fair_samples.specs.Sentences.{Meets}
use Rattle.fair_samples.proofs.Together.{fair_is_each}
use Rattle.fair_samples.proofs.Held.{table_of}
use Rattle.fair_samples.proofs.InForm.{are_in_form, in_form}
use Rattle.fair_rows.specs.turn_rows.Texts.{journal_text}
use Rattle.fair_samples.proofs.AmountRows.{called_on, currents_met, finals_met, one_digit, payments_met, printed, purses_met, served_on, slots_met}
use Rattle.fair_samples.proofs.All.{all_but, tested}
use Rattle.fair_rows.specs.turn_rows.Editions.{written}

-- the sentences that speak of amounts that are answered
abbrev of_amounts : Sentence → Bool
of_amounts purse_amounts = true
of_amounts payment_amounts = true
of_amounts final_amounts = true
of_amounts current_amounts = true
of_amounts slot_amounts = true
of_amounts _ = false

all_others : all_but written of_amounts example ≡ true
unfolding digits brands_of
all_others = refl

-- ---- amounts that are answered

abbrev first_moves : List Move
first_moves = record { brand = 1; from = Purse 0; to = Payment 1; value = number 4 } ∷ record { brand = 1; from = Payment 0; to = Purse 0; value = number 10 } ∷ record { brand = 1; from = Outside; to = Payment 0; value = number 10 } ∷ []

purse_zero : (n : ℕ) → codes "purse0" ≡ name (codes "purse") n → n ≡ 0
purse_zero n is = one_digit n 0 (ap (drop 5) is)

purse_six : IsPrinted (holds (table_of first_moves) (Purse 0) 1) (number 6)
purse_six = printed (table_of first_moves) first_moves (Purse 0) 1 Nat (number 6) refl refl refl refl

purse_has : IfOkAnswer (IfAmount (IsOfPurse (table_of first_moves) 0)) (ok (amount_json 1 (number 6)))
purse_has = if_amount (IsOfPurse (table_of first_moves) 0) (holds (table_of first_moves) (Purse 0) 1) 1 (number 6) (omega arith) purse_six purse_six

met_purse_amounts : Meets written purse_amounts example
unfolding digits
met_purse_amounts = purses_met written nothing_so_far example (tt, (tt, (tt, (tt, ((λ n kind served. subst (λ m. IfOkAnswer (IfAmount (IsOfPurse (table_of first_moves) m)) (ok (amount_json 1 (number 6)))) (sym (purse_zero n (served_on (name (codes "purse") n) (codes "getCurrentAmount") purse_read served))) purse_has), (tt, (tt, (tt, (tt, (tt, (tt, (tt, (tt, (tt, (tt, (tt, (tt, (tt, (tt, (tt, (tt, (tt, (tt, (tt, (tt, (tt, (tt, (tt, tt))))))))))))))))))))))))))))

payment_four : IsPrinted (holds (table_of first_moves) (Payment 1) 1) (number 4)
payment_four = printed (table_of first_moves) first_moves (Payment 1) 1 Nat (number 4) refl refl refl refl

payment_has : IfOkAnswer (IfAmount (IsOfPayment (table_of first_moves) (one (object (codes "payment1"))))) (ok (amount_json 1 (number 4)))
unfolding digits
payment_has = if_amount (IsOfPayment (table_of first_moves) (one (object (codes "payment1")))) (holds (table_of first_moves) (Payment 1) 1) 1 (number 4) (omega arith) payment_four (record { payment = 1; more = none; named = refl; held = payment_four })

met_payment_amounts : Meets written payment_amounts example
unfolding digits
met_payment_amounts = payments_met written nothing_so_far example (tt, (tt, (tt, (tt, (tt, ((λ n kind served. payment_has), (tt, (tt, (tt, (tt, (tt, (tt, (tt, (tt, (tt, (tt, (tt, (tt, (tt, (tt, (tt, (tt, (tt, (tt, (tt, (tt, (tt, (tt, tt))))))))))))))))))))))))))))

-- ---- allocations

abbrev newest : List Move → List Event → List Move
newest ms [] = ms
newest ms (moved m ∷ es) = newest (m ∷ ms) es
newest ms (_ ∷ es) = newest ms es

abbrev newest_in : List Move → List Turn → List Move
newest_in ms [] = ms
newest_in ms (t ∷ ts) = newest_in (newest ms t.events) ts

abbrev before_handler : List Move
before_handler = newest_in [] (and_turns goods (example_start ∷ example_offer ∷ []))

abbrev at_exit : List Move
at_exit = record { brand = 1; from = Hand; to = Slot 0 (codes "Till"); value = number 4 } ∷ record { brand = 1; from = Slot 1 (codes "Price"); to = Hand; value = number 4 } ∷ record { brand = 3; from = Payment 2; to = Slot 1 (codes "Art"); value = art } ∷ before_handler

abbrev until_handler : SoFar
until_handler = so_far_after (and_turns goods (example_start ∷ example_offer ∷ [])) nothing_so_far

abbrev until_asked : SoFar
until_asked = so_far_after (and_turns goods (example_start ∷ example_offer ∷ example_handler ∷ [])) nothing_so_far

abbrev allocation : KeywordAmount → KeywordAmount → Answer
allocation a b = ok (json.object (amounts_json (a ∷ b ∷ [])))

abbrev art_row : KeywordAmount
art_row = record { keyword = codes "Art"; brand = 3; value = art }

abbrev no_art_row : KeywordAmount
no_art_row = record { keyword = codes "Art"; brand = 3; value = nothing_of_set }

art_there : IsPrinted (holds (table_of at_exit) (Slot 1 (codes "Art")) 3) art
art_there = printed (table_of at_exit) at_exit (Slot 1 (codes "Art")) 3 Set art refl refl refl refl

no_price : IsPrinted (holds (table_of at_exit) (Slot 1 (codes "Price")) 1) (number 0)
no_price = printed (table_of at_exit) at_exit (Slot 1 (codes "Price")) 1 Nat (number 0) refl refl refl refl

abbrev FinalIs : ℕ → Type 0
FinalIs n = IfOkAnswer (InRecord (λ keyword. IfAmount (IsOfExit until_asked.seats n keyword))) (allocation art_row (amount (codes "Price") 1 0))

final_has : FinalIs 1
final_has = (
  if_amount (IsOfExit until_asked.seats 1 (codes "Art")) (holds (table_of at_exit) (Slot 1 (codes "Art")) 3) 3 art (omega arith) art_there art_there,
  (if_amount (IsOfExit until_asked.seats 1 (codes "Price")) (holds (table_of at_exit) (Slot 1 (codes "Price")) 1) 1 (number 0) (omega arith) no_price no_price, tt),
)

seat_one : (n : ℕ) → codes "seat1" ≡ name (codes "seat") n → n ≡ 1
seat_one n is = one_digit n 1 (ap (drop 4) is)

zseat_one : (n : ℕ) → codes "zseat1" ≡ name (codes "zseat") n → n ≡ 1
zseat_one n is = one_digit n 1 (ap (drop 5) is)

met_final_amounts : Meets written final_amounts example
unfolding digits
met_final_amounts = finals_met written nothing_so_far example (tt, (tt, (tt, (tt, (tt, (tt, (tt, (tt, (tt, (tt, (tt, (tt, (tt, (tt, (tt, (tt, ((λ n kind served. subst FinalIs (sym (seat_one n (served_on (name (codes "seat") n) (codes "getFinalAllocation") seat_read served))) final_has), (tt, (tt, (tt, (tt, (tt, (tt, (tt, (tt, (tt, (tt, (tt, tt))))))))))))))))))))))))))))

no_art : IsPrinted (holds (table_of before_handler) (Slot 1 (codes "Art")) 3) nothing_of_set
no_art = printed (table_of before_handler) before_handler (Slot 1 (codes "Art")) 3 Set nothing_of_set refl refl refl refl

price_there : IsPrinted (holds (table_of before_handler) (Slot 1 (codes "Price")) 1) (number 4)
price_there = printed (table_of before_handler) before_handler (Slot 1 (codes "Price")) 1 Nat (number 4) refl refl refl refl

abbrev CurrentIs : ℕ → Type 0
CurrentIs n = IfOkAnswer (InRecord (λ keyword. IfAmount (IsOfSlot (table_of before_handler) n keyword))) (allocation no_art_row (amount (codes "Price") 1 4))

current_has : CurrentIs 1
current_has = (
  if_amount (IsOfSlot (table_of before_handler) 1 (codes "Art")) (holds (table_of before_handler) (Slot 1 (codes "Art")) 3) 3 nothing_of_set (omega arith) no_art no_art,
  (if_amount (IsOfSlot (table_of before_handler) 1 (codes "Price")) (holds (table_of before_handler) (Slot 1 (codes "Price")) 1) 1 (number 4) (omega arith) price_there price_there, tt),
)

abbrev current_call : Call
current_call = record { how = kinds.calls; on = codes "zseat1"; method = codes "getCurrentAllocation"; arguments = none; answer = allocation no_art_row (amount (codes "Price") 1 4) }

current_item : (n : ℕ) → calls (name (codes "zseat") n) (codes "getCurrentAllocation") current_call ≡ true → CurrentIs n
current_item n made = subst CurrentIs (sym (zseat_one n (called_on (name (codes "zseat") n) (codes "getCurrentAllocation") current_call made))) current_has

met_current_amounts : Meets written current_amounts example
unfolding digits
met_current_amounts = currents_met written nothing_so_far example (tt, ((tt, tt), ((tt, tt), ((tt, tt), (tt, (tt, (tt, (tt, (tt, (tt, ((tt, tt), ((tt, tt), ((tt, tt), ((tt, (tt, (tt, (tt, (tt, (tt, (tt, (tt, (tt, tt))))))))), ((tt, (tt, (tt, tt))), ((current_item, (tt, (tt, (tt, (tt, (tt, (tt, (tt, (tt, (tt, (tt, (tt, tt)))))))))))), (tt, ((tt, (tt, (tt, (tt, (tt, (tt, (tt, (tt, tt)))))))), ((tt, tt), ((tt, tt), ((tt, (tt, tt)), ((tt, (tt, tt)), (tt, ((tt, (tt, (tt, tt))), ((tt, (tt, (tt, tt))), ((tt, (tt, tt)), ((tt, (tt, (tt, tt))), (tt, tt))))))))))))))))))))))))))))

abbrev slot_call : Call
slot_call = record { how = kinds.calls; on = codes "zseat1"; method = codes "getAmountAllocated"; arguments = json.item (json.string (codes "Price")) (one (object (codes "brand1"))); answer = ok (amount_json 1 (number 4)) }

abbrev SlotIs : ℕ → Type 0
SlotIs n = IfOkAnswer (IfAmount (IsOfNamedSlot (table_of before_handler) n slot_call.arguments)) slot_call.answer

slot_has : SlotIs 1
slot_has =
    if_amount (IsOfNamedSlot (table_of before_handler) 1 slot_call.arguments) (holds (table_of before_handler) (Slot 1 (codes "Price")) 1) 1 (number 4) (omega arith) price_there
    (record { keyword = codes "Price"; more = one (object (codes "brand1")); named = refl; held = price_there })

slot_item : (n : ℕ) → calls (name (codes "zseat") n) (codes "getAmountAllocated") slot_call ≡ true → SlotIs n
slot_item n made = subst SlotIs (sym (zseat_one n (called_on (name (codes "zseat") n) (codes "getAmountAllocated") slot_call made))) slot_has

met_slot_amounts : Meets written slot_amounts example
unfolding digits
met_slot_amounts = slots_met written nothing_so_far example (tt, ((tt, tt), ((tt, tt), ((tt, tt), (tt, (tt, (tt, (tt, (tt, (tt, ((tt, tt), ((tt, tt), ((tt, tt), ((tt, (tt, (tt, (tt, (tt, (tt, (tt, (tt, (tt, tt))))))))), ((tt, (tt, (tt, tt))), ((tt, (slot_item, (tt, (tt, (tt, (tt, (tt, (tt, (tt, (tt, (tt, (tt, tt)))))))))))), (tt, ((tt, (tt, (tt, (tt, (tt, (tt, (tt, (tt, tt)))))))), ((tt, tt), ((tt, tt), ((tt, (tt, tt)), ((tt, (tt, tt)), (tt, ((tt, (tt, (tt, tt))), ((tt, (tt, (tt, tt))), ((tt, (tt, tt)), ((tt, (tt, (tt, tt))), (tt, tt))))))))))))))))))))))))))))

-- ---- all of them

met_each : (y : Sentence) → Meets written y example
met_each purse_amounts = met_purse_amounts
met_each payment_amounts = met_payment_amounts
met_each final_amounts = met_final_amounts
met_each current_amounts = met_current_amounts
met_each slot_amounts = met_slot_amounts
met_each y = tested written of_amounts example all_others y refl

pub example_is_fair : AreFair written example
example_is_fair = (fair_is_each written example).1 met_each

-- ---- its text

formed : are_in_form example ≡ true
unfolding digits
formed = refl

pub example_is_journal : IsFairJournal written (journal_text written example 0) example 0
example_is_journal = record { text = refl; form = in_form example 0 formed refl refl; fair = example_is_fair }
