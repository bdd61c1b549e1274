-- What is done of a split of a payment makes the table and the lists of what is written.
use Rattle.std.proofs.Common.{◌≡◌, ℕ, suc, ◌<◌, List, [], ◌∷◌, ◌++◌, length, refl, ◌∙◌, ap, arith, append_assoc}
use Rattle.vault_model.specs.amount_math.ValueView.{ValueView}
use Rattle.vault_model.specs.holders.PaymentViews.{PaymentView, live_payment}
use Rattle.vault_model.specs.Flows.{IsApart, spread, whole_of}
use Rattle.vault_model.specs.Lists.{amount_of, kind_of, with_payments}
use Rattle.vault_model.specs.rights_model.declared.Holder.TheVariants.{Payment, Hand}
use Rattle.vault_model.specs.rights_model.Table.{movement, table_after}
use Rattle.vault.specs.Drafts.{DraftState, IsValid, after, table_now}
use Rattle.vault.specs.Together.{HandHoldsGiven, HandStays, after_all}
use Rattle.vault.proofs.Hands.{split_stays}
use Rattle.vault.proofs.Tables.{split_table}
use Rattle.vault.specs.Combinations.{brand_at}
use Rattle.vault.specs.Splits.{live_payments_of, next_parts, numbered_from, split_done, split_lists, split_written}
use Rattle.vault.proofs.Combined.{other_payment}

apart_from : (n m : ℕ) (ws : List ValueView) → n < m → IsApart (Payment n) (numbered_from m ws)
apart_from n m [] below = tt
apart_from n m (w ∷ ws) below = (other_payment m n (λ is. omega (arith, is, below)), apart_from n (suc m) ws (omega (arith, below)))

apart_hand : (m : ℕ) (ws : List ValueView) → IsApart Hand (numbered_from m ws)
apart_hand m [] = tt
apart_hand m (w ∷ ws) = ((λ is. cc), apart_hand (suc m) ws)

pub written_table : (d : DraftState) (n : ℕ) (ws : List ValueView) → n < length d.now.payments → IsValid (after_all d (split_done d.now n ws))
    → table_now (after_all d (split_done d.now n ws)) ≡ table_after (table_now d) (split_written d.now n ws)
written_table d n ws made valid = split_table d (brand_at d.now n) (kind_of d.now (brand_at d.now n)) (Payment n) (next_parts d.now ws)
    (λ is. cc) (apart_from n (length d.now.payments) ws made) (apart_hand (length d.now.payments) ws) valid

none_more : (l : List PaymentView) → l ≡ l ++ []
none_more [] = refl
none_more (p ∷ ps) = ap (λ (l : List PaymentView). p ∷ l) (none_more ps)

now_spread : (d : DraftState) (b m : ℕ) (ws : List ValueView) → (after_all d (spread b Hand (numbered_from m ws))).now ≡ with_payments d.now (d.now.payments ++ live_payments_of b ws)
now_spread d b m [] = ap (λ (l : List PaymentView). with_payments d.now l) (none_more d.now.payments)
now_spread d b m (w ∷ ws) =
    now_spread (after d (movement b Hand (Payment m) w)) b (suc m) ws
    ∙ ap (λ (l : List PaymentView). with_payments d.now l) (append_assoc d.now.payments (live_payment (amount_of b w) ∷ []) (live_payments_of b ws))

pub split_now : (d : DraftState) (n : ℕ) (ws : List ValueView) → (after_all d (split_done d.now n ws)).now ≡ split_lists d.now n ws
split_now d n ws = now_spread (after d (movement (brand_at d.now n) (Payment n) Hand (whole_of (kind_of d.now (brand_at d.now n)) (next_parts d.now ws)))) (brand_at d.now n) (length d.now.payments) ws

pub hand_stays : (d : DraftState) (n : ℕ) (ws : List ValueView) → HandHoldsGiven d → HandStays d (after_all d (split_done d.now n ws))
hand_stays d n ws holds = split_stays d (brand_at d.now n) (kind_of d.now (brand_at d.now n)) (Payment n) (next_parts d.now ws) (apart_hand (length d.now.payments) ws) (λ is. cc) holds
