-- What is done of a combination of payments makes the table and the lists of what is written.
use Rattle.std.proofs.Common.{◌≡◌, ◌≢◌, ℕ, List, [], ◌∷◌, ◌++◌, length, refl, ◌∙◌, ap, arith}
use Rattle.vault_model.specs.holders.PaymentViews.{live_payment}
use Rattle.vault_model.specs.Flows.{AreInside, IsApart, gathered}
use Rattle.vault_model.specs.Lists.{Lists, amount_of, kind_of, with_payments}
use Rattle.vault_model.specs.rights_model.declared.Holder.{Holder}
use Rattle.vault_model.specs.rights_model.declared.Holder.TheVariants.{Purse, Payment, Slot, Hand, Outside}
use Rattle.vault_model.specs.rights_model.Table.{movement, table_after}
use Rattle.vault.specs.Drafts.{DraftState, IsValid, after, table_now}
use Rattle.vault.specs.Together.{HandHoldsGiven, HandStays, after_all}
use Rattle.vault.proofs.Hands.{combined_stays}
use Rattle.vault.proofs.Tables.{after_append, combined_table}
use Rattle.vault.specs.Combinations.{AreLive, brand_of_all, combination_done, combination_written, combined_lists, next_payment, parts_at, with_spent, value_at, value_of_all}

abbrev number_of : Holder → ℕ
number_of (Payment n) = n
number_of (Purse n) = 0
number_of (Slot n k) = 0
number_of Hand = 0
number_of Outside = 0

pub other_payment : (n m : ℕ) → n ≢ m → Payment n ≢ Payment m
other_payment n m apart is = apart (ap number_of is)

inside_all : (s : Lists) (ns : List ℕ) → AreInside (parts_at s ns)
inside_all s [] = tt
inside_all s (n ∷ ns) = ((λ is. cc), inside_all s ns)

apart_hand : (s : Lists) (ns : List ℕ) → IsApart Hand (parts_at s ns)
apart_hand s [] = tt
apart_hand s (n ∷ ns) = ((λ is. cc), apart_hand s ns)

apart_next : (s : Lists) (b : ℕ) (ns : List ℕ) → AreLive s b ns → IsApart (next_payment s) (parts_at s ns)
apart_next s b [] live = tt
apart_next s b (n ∷ ns) live = (other_payment n (length s.payments) (λ is. omega (arith, is, live.0.source.made)), apart_next s b ns live.1)

pub written_table : (d : DraftState) (ns : List ℕ) → AreLive d.now (brand_of_all d.now ns) ns → IsValid (after_all d (combination_done d.now ns))
    → table_now (after_all d (combination_done d.now ns)) ≡ table_after (table_now d) (combination_written d.now ns)
written_table d ns live valid = combined_table d (brand_of_all d.now ns) (kind_of d.now (brand_of_all d.now ns)) (next_payment d.now) (parts_at d.now ns)
    (inside_all d.now ns) (apart_next d.now (brand_of_all d.now ns) ns live) (apart_hand d.now ns) valid

pub now_gathered : (d : DraftState) (b : ℕ) (s : Lists) (ns : List ℕ) → (after_all d (gathered b Hand (parts_at s ns))).now ≡ with_payments d.now (with_spent b ns d.now.payments)
now_gathered d b s [] = refl
now_gathered d b s (n ∷ ns) = now_gathered (after d (movement b (Payment n) Hand (value_at s n))) b s ns

pub combined_now : (d : DraftState) (ns : List ℕ) → (after_all d (combination_done d.now ns)).now ≡ combined_lists d.now ns
combined_now d ns =
    ap (λ (x : DraftState). x.now) (after_append d (gathered (brand_of_all d.now ns) Hand (parts_at d.now ns)) (movement (brand_of_all d.now ns) Hand (next_payment d.now) (value_of_all d.now ns) ∷ []))
    ∙ ap (λ (s : Lists). with_payments s (s.payments ++ live_payment (amount_of (brand_of_all d.now ns) (value_of_all d.now ns)) ∷ [])) (now_gathered d (brand_of_all d.now ns) d.now ns)

pub hand_stays : (d : DraftState) (ns : List ℕ) → HandHoldsGiven d → HandStays d (after_all d (combination_done d.now ns))
hand_stays d ns holds = combined_stays d (brand_of_all d.now ns) (kind_of d.now (brand_of_all d.now ns)) (next_payment d.now) (parts_at d.now ns) (apart_hand d.now ns) (λ is. cc) holds
