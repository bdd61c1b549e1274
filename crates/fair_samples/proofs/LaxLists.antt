-- The lists of turns that aren't strict are fair.
use Rattle.std.proofs.Common.{◌≡◌, ◌≢◌, ℕ, Bool, true, false, List, [], ◌∷◌, ◌++◌, codes, bytes_eq, refl, sym, ap, subst, ◌∙◌, inl, inr, eqb-true, arith}
use Rattle.std.proofs.lemmas.Bool.{cases_eq, true≢false}
use Rattle.std.specs.Fmt.{digits}
use Rattle.std.specs.List.{AllByRecursion}
use Rattle.fair_rows.specs.amount_math.Content.{count, count-nothing, unit}
use Rattle.fair_rows.specs.amount_math.declared.Kind.TheVariants.{Nat}
use Rattle.fair_rows.specs.rights_model.Table.{holds}
use Rattle.fair_rows.specs.rights_model.Totals.{brands_of}
use Rattle.fair_rows.specs.rights_model.declared.Holder.TheVariants.{Outside, Payment, Purse}
use Rattle.serde_json.specs.Data as json
use Rattle.fair_rows.specs.turn_rows.Editions.{written}
use Rattle.fair_rows.specs.turn_rows.Rows.{amount_json}
use Rattle.fair_rows.specs.turn_rows.Turns.{Answer, Call, Event, Move, Turn, called, number, ok}
use Rattle.fair_rows.specs.Amounts.{IfAmount, IfOkAnswer, IsOfPurse, IsPrinted}
use Rattle.fair_rows.proofs.Amounts.{if_amount}
use Rattle.fair_rows.specs.ExitCauses.{calls, name}
use Rattle.fair_rows.specs.SoFar.{nothing_so_far}
use Rattle.fair_rows.specs.Strict.{AreStrict}
use Rattle.fair_rows.specs.Turns.{AreFair}
use Rattle.fair_samples.specs.Claims.{IsFairAlone}
use Rattle.fair_samples.specs.Lax.{called_behind_exit, called_in_service, kit_of_another, lax, no_allocation, no_payment_amount, no_purse_amount, purse_of_two_brands, tick_refused, two_brands_read}
use Rattle.fair_samples.specs.Sentences.{Meets, Sentence, purse_amounts}
use Rattle.fair_samples.proofs.All.{all_but, is_sentence, same_sentence, tested}
use Rattle.fair_samples.proofs.AmountRows.{one_digit, printed, purses_met, served_on}
use Rattle.fair_samples.proofs.Held.{held_is, table_of}
use Rattle.fair_samples.proofs.Together.{fair_is_each}

abbrev fair_by_tests : List Turn → Bool
fair_by_tests ts = all_but written (λ y. false) ts

fair_tested : (ts : List Turn) → fair_by_tests ts ≡ true → AreFair written ts
fair_tested ts all = (fair_is_each written ts).1 (λ y. tested written (λ z. false) ts all y refl)

-- ---- answers that aren't whole

-- whether an answer is a record
tells_record : Answer → Bool
tells_record (ok (json.object ms)) = true
tells_record _ = false

no_record : (ms : json.Members) → ok json.null ≡ ok (json.object ms) → ⊥
unfolding tells_record
no_record ms e = true≢false (sym (ap tells_record e))

lax_purse : ¬ AreStrict no_purse_amount
unfolding digits
lax_purse strict = let p = strict.1.1.0.told.purse 0 refl refl in no_record _ p.amount.is

lax_payment : ¬ AreStrict no_payment_amount
unfolding digits
lax_payment strict = let p = strict.1.0.told.payment 1 refl refl in no_record _ p.amount.is

lax_allocation : ¬ AreStrict no_allocation
unfolding digits
lax_allocation strict = let p = strict.0.rows.1.1.0.0.current 0 refl in no_record _ p.allocation.is

abbrev two_brands : List Move
two_brands =
    record { brand = 2; from = Outside; to = Purse 0; value = number 7 } ∷ record { brand = 1; from = Payment 0; to = Purse 0; value = number 5 } ∷ record { brand = 1; from = Outside; to = Payment 0; value = number 5 } ∷ []

-- of whichever brand the amount is, there is another
lax_brands : ¬ AreStrict purse_of_two_brands
unfolding digits
lax_brands strict =
    let p = strict.1.1.1.0.told.purse 0 refl refl in
    elim (cases_eq p.brand 1) [
      | inl is ↦ (let none = p.alone 2 (λ e. omega (arith, e, is)) in omega (arith, held_is two_brands (Purse 0) 2 unit, ap (λ c. count c unit) none, count-nothing unit))
      | inr differs ↦ (let none = p.alone 1 (λ e. differs (sym e)) in omega (arith, held_is two_brands (Purse 0) 1 unit, ap (λ c. count c unit) none, count-nothing unit))
    ]

-- the amount is right, though
purse_zero : (n : ℕ) → codes "purse0" ≡ name (codes "purse") n → n ≡ 0
purse_zero n is = one_digit n 0 (ap (λ (s : List ℕ). behind_word s) is)
  where
    behind_word : List ℕ → List ℕ
    behind_word (a ∷ b ∷ c ∷ d ∷ e ∷ s) = s
    behind_word s = s

five_there : IsPrinted (holds (table_of two_brands) (Purse 0) 1) (number 5)
five_there = printed (table_of two_brands) two_brands (Purse 0) 1 Nat (number 5) refl refl refl refl

abbrev FiveIs : ℕ → Type 0
FiveIs n = IfOkAnswer (IfAmount (IsOfPurse (table_of two_brands) n)) (ok (amount_json 1 (number 5)))

five_has : FiveIs 0
five_has = if_amount (IsOfPurse (table_of two_brands) 0) (holds (table_of two_brands) (Purse 0) 1) 1 (number 5) (omega arith) five_there five_there

met_two_brands : Meets written purse_amounts purse_of_two_brands
unfolding digits
met_two_brands = purses_met written nothing_so_far purse_of_two_brands (tt, (tt, (tt, ((λ n kind served. subst FiveIs (sym (purse_zero n (served_on (name (codes "purse") n) (codes "getCurrentAmount") two_brands_read served))) five_has), tt))))

others_two_brands : all_but written (is_sentence purse_amounts) purse_of_two_brands ≡ true
unfolding digits brands_of
others_two_brands = refl

fair_two_brands : AreFair written purse_of_two_brands
fair_two_brands = (fair_is_each written purse_of_two_brands).1 each
  where
    by : (y : Sentence) (b : Bool) → is_sentence purse_amounts y ≡ b → Meets written y purse_of_two_brands
    by y true is = subst (λ z. Meets written z purse_of_two_brands) (sym (same_sentence y purse_amounts (eqb-true _ _ is))) met_two_brands
    by y false is = tested written (is_sentence purse_amounts) purse_of_two_brands others_two_brands y is

    each : (y : Sentence) → Meets written y purse_of_two_brands
    each y = by y (is_sentence purse_amounts y) refl

-- ---- rows

-- the last of one row is that row
last_of_one : (c d : Call) (more : List Event) → called c ∷ [] ≡ more ++ called d ∷ [] → d ≡ c
last_of_one c d [] e = cc
last_of_one c d (x ∷ []) e = absurd (cc)
last_of_one c d (x ∷ y ∷ more) e = absurd (cc)

lax_kit : ¬ AreStrict kit_of_another
unfolding digits
lax_kit strict =
    let k = strict.0.rows.1.0 refl in
    true≢false (sym (ap (λ (c : Call). calls (name (codes "zcf") 0) (codes "makeEmptySeatKit") c) (sym (last_of_one _ k.call k.more k.last)) ∙ k.made))

lax_behind_exit : ¬ AreStrict called_behind_exit
unfolding digits
lax_behind_exit strict = true≢false (sym (strict.1.0.rows.1.0.1.0 _ refl))

lax_in_service : ¬ AreStrict called_in_service
lax_in_service strict = true≢false (sym strict.0.form.calls.0)

lax_tick : ¬ AreStrict tick_refused
lax_tick strict = true≢false (ap (λ s. bytes_eq s (codes "Limit")) strict.0.form.answered)

-- ---- they are fair by their tests

fair_purse : fair_by_tests no_purse_amount ≡ true
unfolding digits brands_of
fair_purse = refl

fair_payment : fair_by_tests no_payment_amount ≡ true
unfolding digits brands_of
fair_payment = refl

fair_allocation : fair_by_tests no_allocation ≡ true
unfolding digits brands_of
fair_allocation = refl

fair_kit : fair_by_tests kit_of_another ≡ true
unfolding digits brands_of
fair_kit = refl

fair_behind_exit : fair_by_tests called_behind_exit ≡ true
unfolding digits brands_of
fair_behind_exit = refl

fair_in_service : fair_by_tests called_in_service ≡ true
unfolding digits brands_of
fair_in_service = refl

fair_tick : fair_by_tests tick_refused ≡ true
unfolding digits brands_of
fair_tick = refl

alone : (ts : List Turn) → fair_by_tests ts ≡ true → ¬ AreStrict ts → IsFairAlone ts
alone ts fair not_strict = record { fair = fair_tested ts fair; lax = not_strict }

pub lax_are_fair : AllByRecursion IsFairAlone lax
lax_are_fair = (
  alone no_purse_amount fair_purse lax_purse,
  (
    alone no_payment_amount fair_payment lax_payment,
    (
      alone no_allocation fair_allocation lax_allocation,
      (
        record { fair = fair_two_brands; lax = lax_brands },
        (
          alone kit_of_another fair_kit lax_kit,
          (
            alone called_behind_exit fair_behind_exit lax_behind_exit,
            (
              alone called_in_service fair_in_service lax_in_service,
              (alone tick_refused fair_tick lax_tick, tt),
            ),
          ),
        ),
      ),
    ),
  ),
)
