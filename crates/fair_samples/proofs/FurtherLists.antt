-- The further lists break their sentences alone.
use Rattle.std.proofs.Common.{◌≡◌, ◌≤◌, ◌^◌, ◌-◌, ℕ, Bool, true, false, List, [], ◌∷◌, length, map, is_some, codes, refl, sym, ap, subst, ◌∙◌, inr, arith}
use Rattle.std.proofs.lemmas.Bool.{and_parts, true≢false}
use Rattle.std.specs.Fmt.{digits}
use Rattle.std.specs.List.{AllByRecursion, list_all}
use Rattle.fair_rows.specs.amount_math.Content.{count, count-difference, entries, count-of_nat_unit, unit}
use Rattle.fair_rows.specs.amount_math.ValueView.{bound}
use Rattle.fair_rows.specs.amount_math.declared.Kind.{Kind}
use Rattle.fair_rows.specs.amount_math.declared.Kind.TheVariants.{Bag, Nat, Set}
use Rattle.fair_rows.specs.rights_model.Supply.{burned, is_outside, minted, supply}
use Rattle.fair_rows.specs.rights_model.Totals.{brands_of}
use Rattle.fair_rows.specs.rights_model.declared.Holder.TheVariants.{Outside, Payment, Slot}
use Rattle.fair_rows.specs.rights_model.declared.Movement.{Movement}
use Rattle.fair_rows.specs.rights_model.declared.Sum.{Sum}
use Rattle.serde_json.specs.Data as json
use Rattle.fair_rows.specs.turn_rows.Editions.{written}
use Rattle.fair_rows.specs.turn_rows.declared.editions.Edition.TheVariants.{First, Second}
use Rattle.fair_rows.specs.turn_rows.Turns.{Move, Turn, Value, counted, elements, key, number}
use Rattle.fair_rows.specs.Turns.{AreFair, IsWithin}
use Rattle.fair_rows.specs.Values.{HaveKinds, IsValueOf}
use Rattle.fair_samples.specs.Claims.{BreaksAlone}
use Rattle.fair_samples.specs.Further.{large_payments, offered_behind_kit, asked_to_exit, exit_called, fail_called, handler_threw, was_shut_down, was_shut_down_with_failure, start_threw, meter_spent, facet_spent, wanted_brand, two_brands, opened_twice, too_many_of_a_key, too_much, burned_elsewhere, gave_less, paid_less, paid_out_of_order, paid_together, refused_opening, refused_exit, told_twice, off_by_one, further}
use Rattle.fair_samples.specs.Sentences.{Meets, Sentence, causes_are_followed, kits_are_empty, offers_burn, offers_escrow, payouts_are_new, payouts_follow, refusals_change_nothing, seats_are_in_order, slots_are_of_one_brand, sums_are_told, supplies_are_bounded}
use Rattle.fair_samples.proofs.Tests.{is_nil}
use Rattle.fair_samples.proofs.Together.{fair_is_each, same_some}
use Rattle.fair_samples.proofs.Held.{held_is, moves_of}
use Rattle.fair_samples.proofs.Printed.{kind_at, of_kinds}
use Rattle.fair_samples.proofs.Sized.{count_where_is, size_where_is}
use Rattle.fair_samples.proofs.All.{all_but, is_sentence, others_met, tested}
use Rattle.fair_samples.proofs.Computed.{further_meet_others, meets_others}
use Rattle.fair_samples.proofs.Needed.{alone}
use Rattle.fair_samples.proofs.Broken.{minted_five, traded_moves}

two_is_not_one : ◌≡◌ {A = ℕ} 2 1 → ⊥
two_is_not_one e = omega (arith, e)

number_in : Value → ℕ
number_in (number n) = n
number_in (elements es) = 0

minted_told : List Sum → ℕ
minted_told [] = 0
minted_told (s ∷ ss) = s.minted

is_number : Value → Bool
is_number (number n) = true
is_number (elements es) = false

numbers_alone : (k : Kind) (n : ℕ) → IsValueOf k (number n) → k ≡ Nat
unfolding is_number
numbers_alone Nat n is = refl
numbers_alone Set n is = absurd (true≢false (ap is_number is.is))
numbers_alone Bag n is = absurd (true≢false (ap is_number is.is))

abbrev much : List Move
much = record { brand = 1; from = Outside; to = Payment 1; value = number 1 } ∷ record { brand = 1; from = Outside; to = Payment 0; value = number (2 ^ 120 - 1) } ∷ []

much_out : count (supply (moves_of much) 1) unit ≡ 2 ^ 120
much_out = count-difference (minted (moves_of much) 1) (burned (moves_of much) 1) unit ∙ omega (arith, count_where_is (λ (m : Movement). m.from) (λ (m : Move). m.from) (λ m. refl) 1 much unit, count_where_is (λ (m : Movement). m.to) (λ (m : Move). m.to) (λ m. refl) 1 much unit)

first_is_counted : Value → Bool
first_is_counted (elements (counted s n ∷ es)) = true
first_is_counted _ = false

keyed_first : (es : List (List ℕ × ℕ)) → first_is_counted (elements (map (λ (e : List ℕ × ℕ). key e.0) es)) ≡ false
unfolding first_is_counted
keyed_first [] = refl
keyed_first (e ∷ es) = refl

counts_alone : (k : Kind) → IsValueOf k (elements (counted (codes "a") 1 ∷ [])) → k ≡ Bag
unfolding first_is_counted is_number
counts_alone Bag is = refl
counts_alone Nat is = absurd (true≢false (sym (ap is_number is.is)))
counts_alone Set is = absurd (true≢false (ap first_is_counted is.is ∙ keyed_first (entries is.content)))

abbrev many_of_a_key : List Move
many_of_a_key =
    record { brand = 4; from = Outside; to = Payment 1; value = elements (counted (codes "a") 1 ∷ []) } ∷ record { brand = 4; from = Outside; to = Payment 0; value = elements (counted (codes "a") (2 ^ 63 - 1) ∷ []) } ∷ []

many_out : count (supply (moves_of many_of_a_key) 4) (codes "a") ≡ 2 ^ 63
many_out = count-difference (minted (moves_of many_of_a_key) 4) (burned (moves_of many_of_a_key) 4) (codes "a") ∙ omega (arith, count_where_is (λ (m : Movement). m.from) (λ (m : Move). m.from) (λ m. refl) 4 many_of_a_key (codes "a"), count_where_is (λ (m : Movement). m.to) (λ (m : Move). m.to) (λ m. refl) 4 many_of_a_key (codes "a"))

breaks_asked_to_exit : ¬ Meets written causes_are_followed asked_to_exit
unfolding digits
breaks_asked_to_exit h = true≢false (ap is_some (h.1.0.2 0 (record { seat = _; was_opened = refl; stays = refl })))

breaks_exit_called : ¬ Meets written causes_are_followed exit_called
unfolding digits
breaks_exit_called h = true≢false (ap is_some (h.1.0.2 0 (record { seat = _; was_opened = refl; stays = refl })))

breaks_fail_called : ¬ Meets written causes_are_followed fail_called
unfolding digits
breaks_fail_called h = true≢false (ap is_some (h.1.0.2 0 (record { seat = _; was_opened = refl; stays = refl })))

breaks_handler_threw : ¬ Meets written causes_are_followed handler_threw
unfolding digits
breaks_handler_threw h = true≢false (ap is_some (h.1.0.2 0 (record { seat = _; was_opened = refl; stays = refl })))

breaks_was_shut_down : ¬ Meets written causes_are_followed was_shut_down
unfolding digits
breaks_was_shut_down h = true≢false (ap is_some (h.1.0.2 0 (record { seat = _; was_opened = refl; stays = refl })))

breaks_was_shut_down_with_failure : ¬ Meets written causes_are_followed was_shut_down_with_failure
unfolding digits
breaks_was_shut_down_with_failure h = true≢false (ap is_some (h.1.0.2 0 (record { seat = _; was_opened = refl; stays = refl })))

breaks_start_threw : ¬ Meets written causes_are_followed start_threw
unfolding digits
breaks_start_threw h = true≢false (ap is_some (h.0.2 0 (record { seat = _; was_opened = refl; stays = refl })))

breaks_meter_spent : ¬ Meets written causes_are_followed meter_spent
unfolding digits
breaks_meter_spent h = true≢false (ap is_some (h.1.0.2 0 (record { seat = _; was_opened = refl; stays = refl })))

breaks_facet_spent : ¬ Meets written causes_are_followed facet_spent
unfolding digits
breaks_facet_spent h = true≢false (ap is_some (h.1.0.2 0 (record { seat = _; was_opened = refl; stays = refl })))

breaks_wanted_brand : ¬ Meets written slots_are_of_one_brand wanted_brand
breaks_wanted_brand h = two_is_not_one (h.1.1.1.0.1.0.0.each 0 (codes "B") (inr refl) _ refl 2 refl)

breaks_two_brands : ¬ Meets written slots_are_of_one_brand two_brands
breaks_two_brands h = two_is_not_one (sym (same_some 1 2 (h.1.1.0.1.0.1.1.0)))

breaks_opened_twice : ¬ Meets written seats_are_in_order opened_twice
breaks_opened_twice h = omega (arith, h.0.1.1.1.1.0)

breaks_too_much : ¬ Meets written supplies_are_bounded too_much
breaks_too_much h =
    let of_numbers : HaveKinds ((1, number (2 ^ 120 - 1)) ∷ (1, number 1) ∷ []) = record { kind_of = kind_at; values = of_kinds ((1, number (2 ^ 120 - 1)) ∷ (1, number 1) ∷ []) refl } in
    let b = h.0.2 of_numbers in
    let few : count (supply (moves_of much) 1) unit ≤ bound Nat = subst (λ k. count (supply (moves_of much) 1) unit ≤ bound k) (numbers_alone (b.kind_of 1) 1 b.values.1.0) ((b.fits 1).each unit) in
    omega (arith, few, much_out)

breaks_too_many_of_a_key : ¬ Meets written supplies_are_bounded too_many_of_a_key
breaks_too_many_of_a_key h =
    let of_bags : HaveKinds ((4, elements (counted (codes "a") (2 ^ 63 - 1) ∷ [])) ∷ (4, elements (counted (codes "a") 1 ∷ [])) ∷ []) = record { kind_of = kind_at; values = of_kinds ((4, elements (counted (codes "a") (2 ^ 63 - 1) ∷ [])) ∷ (4, elements (counted (codes "a") 1 ∷ [])) ∷ []) refl } in
    let b = h.0.2 of_bags in
    let few : count (supply (moves_of many_of_a_key) 4) (codes "a") ≤ bound Bag = subst (λ k. count (supply (moves_of many_of_a_key) 4) (codes "a") ≤ bound k) (counts_alone (b.kind_of 4) b.values.1.0) ((b.fits 4).each (codes "a")) in
    omega (arith, few, many_out)

breaks_burned_elsewhere : ¬ Meets written offers_burn burned_elsewhere
breaks_burned_elsewhere h = true≢false (sym (ap is_outside h.1.0.1.1.0.to))

breaks_gave_less : ¬ Meets written offers_escrow gave_less
unfolding number_in
breaks_gave_less h = omega (arith, ap (λ (m : Move). number_in m.value) h.1.1.0.1.1.1.0.is)

breaks_paid_less : ¬ Meets written payouts_follow paid_less
breaks_paid_less h =
    let p = (h.1.1.1.0.1.1.0).2 in
    omega (arith, count-of_nat_unit 3, ap (λ c. count c unit) p.whole, held_is traded_moves (Slot 0 (codes "A")) 1 unit)

breaks_paid_out_of_order : ¬ Meets written payouts_follow paid_out_of_order
breaks_paid_out_of_order h = two_is_not_one (h.1.1.1.0.1.1.0).2.brand

breaks_paid_together : ¬ Meets written payouts_are_new paid_together
unfolding digits
breaks_paid_together h = true≢false (h.1.1.1.0.1.1.1.0.0 2 refl)

breaks_refused_opening : ¬ Meets written refusals_change_nothing refused_opening
breaks_refused_opening h = h.0.1.1.0 (codes "Closed") json.no_items refl

breaks_refused_exit : ¬ Meets written refusals_change_nothing refused_exit
unfolding digits
breaks_refused_exit h = h.1.0.1.1.0 (codes "Closed") json.no_items refl

breaks_offered_behind_kit : ¬ Meets written kits_are_empty offered_behind_kit
unfolding digits
breaks_offered_behind_kit h = true≢false (ap is_nil (sym (h.1.1.0.1.1.0 (record { more = []; call = _; last = refl; instance = 0; made = refl })).0))

breaks_told_twice : ¬ Meets written sums_are_told told_twice
unfolding brands_of
breaks_told_twice h = omega (arith, ap (λ (ss : List Sum). length ss) h.0.2)

breaks_off_by_one : ¬ Meets written sums_are_told off_by_one
unfolding brands_of minted_told
breaks_off_by_one h = omega (arith, ap minted_told h.0.2, size_where_is (λ (m : Movement). m.from) (λ (m : Move). m.from) (λ m. refl) 1 minted_five refl)

-- what the tests of a list of lists tell, with what breaks each
all_alone : (ps : List (Sentence × List Turn)) → list_all (λ (p : Sentence × List Turn). meets_others p.0 p.1) ps ≡ true → AllByRecursion (λ (p : Sentence × List Turn). ¬ Meets written p.0 p.1) ps → AllByRecursion (λ (p : Sentence × List Turn). BreaksAlone written p.0 p.1) ps
all_alone [] met broken = tt
all_alone (p ∷ ps) met broken =
    let parts = and_parts (meets_others p.0 p.1) (list_all (λ (q : Sentence × List Turn). meets_others q.0 q.1) ps) met in
    (alone written p.0 p.1 (others_met written p.0 p.1 parts.0) broken.0, all_alone ps parts.1 broken.1)

pub further_alone : AllByRecursion (λ (p : Sentence × List Turn). BreaksAlone written p.0 p.1) further
further_alone = all_alone further further_meet_others (breaks_asked_to_exit, (breaks_exit_called, (breaks_fail_called, (breaks_handler_threw, (breaks_was_shut_down, (breaks_was_shut_down_with_failure, (breaks_start_threw, (breaks_meter_spent, (breaks_facet_spent, (breaks_wanted_brand, (breaks_two_brands, (breaks_opened_twice, (breaks_too_much, (breaks_too_many_of_a_key, (breaks_burned_elsewhere, (breaks_gave_less, (breaks_paid_less, (breaks_paid_out_of_order, (breaks_paid_together, (breaks_refused_opening, (breaks_refused_exit, (breaks_offered_behind_kit, (breaks_told_twice, (breaks_off_by_one, tt))))))))))))))))))))))))

-- ---- what is too much in the first edition alone

abbrev large : List Move
large = record { brand = 1; from = Outside; to = Payment 1; value = number (2 ^ 63 - 1) } ∷ record { brand = 1; from = Outside; to = Payment 0; value = number (2 ^ 63 - 1) } ∷ []

large_out : count (supply (moves_of large) 1) unit ≡ 2 ^ 64 - 2
large_out = count-difference (minted (moves_of large) 1) (burned (moves_of large) 1) unit ∙ omega (arith, count_where_is (λ (m : Movement). m.from) (λ (m : Move). m.from) (λ m. refl) 1 large unit, count_where_is (λ (m : Movement). m.to) (λ (m : Move). m.to) (λ m. refl) 1 large unit)

breaks_large_payments : ¬ Meets First supplies_are_bounded large_payments
breaks_large_payments h =
    let of_numbers : HaveKinds ((1, number (2 ^ 63 - 1)) ∷ (1, number (2 ^ 63 - 1)) ∷ []) = record { kind_of = kind_at; values = of_kinds ((1, number (2 ^ 63 - 1)) ∷ (1, number (2 ^ 63 - 1)) ∷ []) refl } in
    let b = h.1.0.2 of_numbers in
    let few = (subst (λ k. IsWithin First k (supply (moves_of large) 1)) (numbers_alone (b.kind_of 1) (2 ^ 63 - 1) b.values.0) (b.within 1)) unit in
    omega (arith, few, large_out)

large_meet_others : all_but First (is_sentence supplies_are_bounded) large_payments ≡ true
unfolding digits brands_of
large_meet_others = refl

pub large_alone : BreaksAlone First supplies_are_bounded large_payments
large_alone = alone First supplies_are_bounded large_payments (others_met First supplies_are_bounded large_payments large_meet_others) breaks_large_payments

large_meet_all : all_but Second (λ y. false) large_payments ≡ true
unfolding digits brands_of
large_meet_all = refl

pub large_fair : AreFair Second large_payments
large_fair = (fair_is_each Second large_payments).1 (λ y. tested Second (λ z. false) large_payments large_meet_all y refl)
