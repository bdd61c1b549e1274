-- Each list breaks its own sentence alone.
use Rattle.std.proofs.Common.{◌≡◌, ◌≢◌, ◌-◌, ℕ, Bool, true, false, cond, ◌||◌, List, [], ◌∷◌, refl, sym, ap, subst, ◌∙◌, ⊎_elim, arith, eqb-true}
use Rattle.std.proofs.lemmas.Bool.{cases_Bool, or_from}
use Rattle.std.specs.Fmt.{digits}
use Rattle.fair_rows.specs.amount_math.Content.{count, count-difference, same_content}
use Rattle.fair_rows.specs.amount_math.Totals.{total-empty}
use Rattle.fair_rows.specs.rights_model.Supply.{burned, is_store, minted, share_of, supply, total_of}
use Rattle.fair_rows.specs.rights_model.Table.{holdings, no_holdings}
use Rattle.fair_rows.specs.rights_model.Totals.{brands_of, held_over, is_payment, is_purse, is_slot, weight_of}
use Rattle.fair_rows.specs.rights_model.declared.Holder.{Holder}
use Rattle.fair_rows.specs.rights_model.declared.Holder.TheVariants.{Outside, Payment}
use Rattle.fair_rows.specs.rights_model.declared.Movement.{Movement}
use Rattle.fair_rows.proofs.rights_model.TableLaws.{same_table}
use Rattle.fair_rows.specs.turn_rows.Editions.{written}
use Rattle.fair_rows.specs.turn_rows.Turns.{Move, Turn, number}
use Rattle.fair_rows.specs.turn_rows.declared.editions.Edition.{Edition}
use Rattle.fair_samples.specs.Claims.{BreaksAlone}
use Rattle.fair_samples.specs.Samples.{sample}
use Rattle.fair_samples.specs.Sentences.{Sentence, movements_are_defined, tables_balance, sums_are_told}
use Rattle.fair_samples.specs.Sentences.{Meets}
use Rattle.fair_samples.proofs.Together.{fair_is_each}
use Rattle.fair_samples.proofs.Held.{held_is, is_at, moves_of, table_of}
use Rattle.fair_samples.proofs.Sized.{count_where_is, hand_is_empty, size_where_is}
use Rattle.fair_samples.proofs.All.{all_but, behind, each_of_all, is_sentence, other, others_met, same_sentence, tested}
use Rattle.fair_samples.proofs.Computed.{meets_others, samples_meet_others}
use Rattle.fair_samples.proofs.Broken.{breaks}

pub alone : (d : Edition) (x : Sentence) (ts : List Turn) → ((y : Sentence) → y ≢ x → Meets d y ts) → ¬ Meets d x ts → BreaksAlone d x ts
alone d x ts met broken = record { others = met; breaks = broken; unfair = λ fair. broken ((fair_is_each d ts).0 fair x) }

-- ---- a payment that was never made is burned: nothing is anywhere

abbrev burned_five : List Move
burned_five = record { brand = 1; from = Payment 0; to = Outside; value = number 5 } ∷ []

nothing_there : (p : Bool) (n : ℕ) → cond p (0 - n) 0 ≡ 0
nothing_there true n = omega arith
nothing_there false n = refl

no_table : table_of burned_five ≡ no_holdings
no_table = same_table _ _ (λ h e. same_content _ _ (λ k. held_is burned_five h e k ∙ nothing_there (is_at h e (Payment 0) 1) _ ∙ sym (held_is [] h e k)))

no_supply : (b : ℕ) (k : List ℕ) → count (supply (moves_of burned_five) b) k ≡ 0
no_supply b k = omega (arith, count-difference (minted (moves_of burned_five) b) (burned (moves_of burned_five) b) k, count_where_is (λ (m : Movement). m.from) (λ (m : Move). m.from) (λ m. refl) b burned_five k)

balance_burned : Meets written tables_balance (sample movements_are_defined)
balance_burned = (
  (
    tt,
    (tt, tt),
    record {
      stores = λ b k. ap (λ t. total_of is_store t b k) no_table ∙ total-empty (share_of is_store b k) holdings ∙ sym (no_supply b k);
      hand_empty = hand_is_empty burned_five refl;
    },
  ),
  tt,
)

no_total : (who : Holder → Bool) (b : ℕ) → 0 ≡ held_over who (table_of burned_five) b
unfolding held_over
no_total who b = sym (ap (λ t. held_over who t b) no_table ∙ total-empty (weight_of who b) holdings)

sums_burned : Meets written sums_are_told (sample movements_are_defined)
unfolding brands_of
sums_burned = (
  (
    tt,
    (tt, tt),
    λ i. record {
      brand = 1;
      minted = sym (size_where_is (λ (m : Movement). m.from) (λ (m : Move). m.from) (λ m. refl) 1 burned_five refl) i;
      burned = sym (size_where_is (λ (m : Movement). m.to) (λ (m : Move). m.to) (λ m. refl) 1 burned_five refl) i;
      purses = no_total is_purse 1 i;
      payments = no_total is_payment 1 i;
      slots = no_total is_slot 1 i;
    } ∷ [],
  ),
  tt,
)

abbrev skips : Sentence → Bool
skips y = is_sentence movements_are_defined y || (is_sentence tables_balance y || is_sentence sums_are_told y)

but_movements_are_defined : all_but written skips (sample movements_are_defined) ≡ true
unfolding digits brands_of
but_movements_are_defined = refl

met_burned : (y : Sentence) → y ≢ movements_are_defined → Meets written y (sample movements_are_defined)
met_burned y apart = ⊎_elim
    (λ is. subst (λ z. Meets written z (sample movements_are_defined)) (sym (same_sentence y tables_balance (eqb-true _ _ is))) balance_burned)
    (λ n. ⊎_elim
    (λ is. subst (λ z. Meets written z (sample movements_are_defined)) (sym (same_sentence y sums_are_told (eqb-true _ _ is))) sums_burned)
    (λ o. tested written skips (sample movements_are_defined) but_movements_are_defined y (or_from _ _ (other movements_are_defined y apart) (or_from _ _ n o)))
    (cases_Bool (is_sentence sums_are_told y)))
    (cases_Bool (is_sentence tables_balance y))

met_others : (x : Sentence) → (y : Sentence) → y ≢ x → Meets written y (sample x)
met_others x = ⊎_elim
    (λ is. subst (λ z. (y : Sentence) → y ≢ z → Meets written y (sample z)) (sym (same_sentence x movements_are_defined (eqb-true _ _ is))) met_burned)
    (λ differs. others_met written x (sample x) (behind (is_sentence movements_are_defined x) _ (each_of_all (λ z. is_sentence movements_are_defined z || meets_others z (sample z)) samples_meet_others x) differs))
    (cases_Bool (is_sentence movements_are_defined x))

pub each_alone : (x : Sentence) → BreaksAlone written x (sample x)
each_alone x = alone written x (sample x) (met_others x) (breaks x)
