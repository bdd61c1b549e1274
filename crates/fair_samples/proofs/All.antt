-- All sentences in a list, and what a test of each in turn gives.
use Rattle.std.proofs.Common.{◌≡◌, ◌≢◌, ℕ, zero, suc, Bool, true, false, ◌||◌, ◌==◌, List, [], ◌∷◌, Some, refl, sym, ap, subst, ◌∙◌, ne_eqb}
use Rattle.std.proofs.lemmas.Bool.{and_parts, true≢false}
use Rattle.std.specs.List.{list_all, slice_get}
use Rattle.fair_rows.specs.turn_rows.Turns.{Turn}
use Rattle.fair_rows.specs.turn_rows.declared.editions.Edition.{Edition}
use Rattle.fair_samples.specs.Sentences.{Sentence, turns_are_numbered, purse_amounts, payment_amounts, final_amounts, movements_are_defined, payments_stay_spent, values_are_of_one_kind, slots_are_of_one_brand, seats_are_in_order, offers_burn, offers_escrow, kits_are_empty, openings_are_called_for, exits_are_of_open_seats, exits_follow_their_cause, causes_are_the_first, causes_are_followed, payouts_follow, payouts_are_named, payouts_are_new, exits_are_covered, seats_stay_covered, refusals_change_nothing, slots_are_of_opened_seats, slots_are_of_no_exited_seat, payments_are_emptied, tables_balance, supplies_are_bounded, sums_are_told, current_amounts, slot_amounts, minted_totals_are_bounded}
use Rattle.fair_samples.specs.Sentences.{Meets}
use Rattle.fair_samples.proofs.Together.{same_some}
use Rattle.fair_samples.proofs.Sound.{sound}
use Rattle.fair_samples.proofs.Tests.{passes}

abbrev pub sentence_number : Sentence → ℕ
sentence_number turns_are_numbered = 0
sentence_number purse_amounts = 1
sentence_number payment_amounts = 2
sentence_number final_amounts = 3
sentence_number movements_are_defined = 4
sentence_number payments_stay_spent = 5
sentence_number values_are_of_one_kind = 6
sentence_number slots_are_of_one_brand = 7
sentence_number seats_are_in_order = 8
sentence_number offers_burn = 9
sentence_number offers_escrow = 10
sentence_number kits_are_empty = 11
sentence_number openings_are_called_for = 12
sentence_number exits_are_of_open_seats = 13
sentence_number exits_follow_their_cause = 14
sentence_number causes_are_the_first = 15
sentence_number causes_are_followed = 16
sentence_number payouts_follow = 17
sentence_number payouts_are_named = 18
sentence_number payouts_are_new = 19
sentence_number exits_are_covered = 20
sentence_number seats_stay_covered = 21
sentence_number refusals_change_nothing = 22
sentence_number slots_are_of_opened_seats = 23
sentence_number slots_are_of_no_exited_seat = 24
sentence_number payments_are_emptied = 25
sentence_number tables_balance = 26
sentence_number supplies_are_bounded = 27
sentence_number sums_are_told = 28
sentence_number current_amounts = 29
sentence_number slot_amounts = 30
sentence_number minted_totals_are_bounded = 31

abbrev pub sentences : List Sentence
sentences =
    turns_are_numbered ∷ purse_amounts ∷ payment_amounts ∷ final_amounts ∷ movements_are_defined ∷ payments_stay_spent ∷ values_are_of_one_kind ∷ slots_are_of_one_brand ∷ seats_are_in_order ∷ offers_burn ∷ offers_escrow ∷ kits_are_empty ∷ openings_are_called_for ∷ exits_are_of_open_seats ∷ exits_follow_their_cause ∷ causes_are_the_first ∷ causes_are_followed ∷ payouts_follow ∷ payouts_are_named ∷ payouts_are_new ∷ exits_are_covered ∷ seats_stay_covered ∷ refusals_change_nothing ∷ slots_are_of_opened_seats ∷ slots_are_of_no_exited_seat ∷ payments_are_emptied ∷ tables_balance ∷ supplies_are_bounded ∷ sums_are_told ∷ current_amounts ∷ slot_amounts ∷ minted_totals_are_bounded ∷ []

in_place : (y : Sentence) → slice_get sentences (sentence_number y) ≡ Some y
in_place turns_are_numbered = refl
in_place purse_amounts = refl
in_place payment_amounts = refl
in_place final_amounts = refl
in_place movements_are_defined = refl
in_place payments_stay_spent = refl
in_place values_are_of_one_kind = refl
in_place slots_are_of_one_brand = refl
in_place seats_are_in_order = refl
in_place offers_burn = refl
in_place offers_escrow = refl
in_place kits_are_empty = refl
in_place openings_are_called_for = refl
in_place exits_are_of_open_seats = refl
in_place exits_follow_their_cause = refl
in_place causes_are_the_first = refl
in_place causes_are_followed = refl
in_place payouts_follow = refl
in_place payouts_are_named = refl
in_place payouts_are_new = refl
in_place exits_are_covered = refl
in_place seats_stay_covered = refl
in_place refusals_change_nothing = refl
in_place slots_are_of_opened_seats = refl
in_place slots_are_of_no_exited_seat = refl
in_place payments_are_emptied = refl
in_place tables_balance = refl
in_place supplies_are_bounded = refl
in_place sums_are_told = refl
in_place current_amounts = refl
in_place slot_amounts = refl
in_place minted_totals_are_bounded = refl

pub same_sentence : (y x : Sentence) → sentence_number y ≡ sentence_number x → y ≡ x
same_sentence y x e = same_some y x (sym (in_place y) ∙ ap (slice_get sentences) e ∙ in_place x)

at_index : {A : Type 0} (test : A → Bool) (xs : List A) (n : ℕ) (x : A) → list_all test xs ≡ true → slice_get xs n ≡ Some x → test x ≡ true
at_index test [] n x all found = cc
at_index test (y ∷ xs) zero x all found = subst (λ z. test z ≡ true) (same_some y x found) (and_parts (test y) (list_all test xs) all).0
at_index test (y ∷ xs) (suc n) x all found = at_index test xs n x (and_parts (test y) (list_all test xs) all).1 found

pub each_of_all : (test : Sentence → Bool) → list_all test sentences ≡ true → (y : Sentence) → test y ≡ true
each_of_all test all y = at_index test sentences (sentence_number y) y all (in_place y)

abbrev pub is_sentence : Sentence → Sentence → Bool
is_sentence x y = sentence_number y == sentence_number x

-- each sentence that isn't skipped passes
abbrev pub all_but : Edition → (Sentence → Bool) → List Turn → Bool
all_but d skips ts = list_all (λ y. skips y || passes d y ts) sentences

pub behind : (a b : Bool) → (a || b) ≡ true → a ≡ false → b ≡ true
behind true b h is = absurd (true≢false is)
behind false b h is = h

pub tested : (d : Edition) (skips : Sentence → Bool) (ts : List Turn) → all_but d skips ts ≡ true → (y : Sentence) → skips y ≡ false → Meets d y ts
tested d skips ts all y kept = sound d y ts (behind (skips y) (passes d y ts) (each_of_all (λ z. skips z || passes d z ts) all y) kept)

pub other : (x y : Sentence) → y ≢ x → is_sentence x y ≡ false
other x y apart = ne_eqb (sentence_number y) (sentence_number x) (λ e. apart (same_sentence y x e))

pub others_met : (d : Edition) (x : Sentence) (ts : List Turn) → all_but d (is_sentence x) ts ≡ true → (y : Sentence) → y ≢ x → Meets d y ts
others_met d x ts all y apart = tested d (is_sentence x) ts all y (other x y apart)
