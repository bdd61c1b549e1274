-- What is opened or made with nothing leaves who holds what as it was.
use Rattle.std.specs.Prelude.{◌≡◌, ◌==◌, ℕ, Bool, true, false, cond, List, [], ◌∷◌, Some, length, map, refl}
use Rattle.std.specs.Str.{bytes_eq}
use Rattle.std.proofs.Common.{inl, inr, sym, ◌∙◌, ap, arith}
use Rattle.std.proofs.lemmas.Bool.{cases_eq}
use Rattle.world_state.specs.amount_math.Content.{nothing}
use Rattle.world_state.specs.amount_math.declared.Amount.{Amount}
use Rattle.world_state.specs.ertp_mint.BrandSupply.{BrandSupply}
use Rattle.world_state.specs.ertp_mint.Stocks.{no_amount}
use Rattle.world_state.proofs.lemmas.ListEdits.{read_before, read_past, read_pushed}
use Rattle.world_state.specs.holders.PaymentViews.{PaymentView, live_payment, spent_payment}
use Rattle.world_state.specs.proposals.Shares.{amount_under}
use Rattle.world_state.specs.proposals.Slots.{emptied}
use Rattle.world_state.specs.proposals.declared.allocations.Share.{Share}
use Rattle.world_state.specs.rights_model.declared.Holder.{Holder}
use Rattle.world_state.specs.rights_model.declared.Holder.TheVariants.{Purse, Payment, Slot, Hand, Outside}
use Rattle.world_state.specs.vault_model.Tables.{in_brand, no_hand, right_in, right_on}
use Rattle.world_state.specs.Rights.{Rights, with_payment, with_purse, with_slots, with_supply}
use Rattle.world_laws.specs.Tables.{content_at, in_slot, table_of}
use Rattle.world_laws.proofs.Changes.{none_either}
use Rattle.world_laws.proofs.Tabled.{table_agrees, table_is}

-- two rights in which each holder has the same have one table
same_tables : (r s : Rights) → ((h : Holder) (e : ℕ) → content_at s no_hand h e ≡ content_at r no_hand h e) → table_of s ≡ table_of r
same_tables r s same = table_is s (table_of r) (record { each = λ h e. (table_agrees r).each h e ∙ sym (same h e) })

nothing_in : (a : Amount) (e : ℕ) → a.value.content ≡ nothing → in_brand (right_in a) e ≡ nothing
nothing_in a e none = ap (λ x. cond (a.brand == e) x nothing) none ∙ none_either (a.brand == e)

pub purse_opened : (r : Rights) (a : Amount) → a.value.content ≡ nothing → table_of (with_purse r a) ≡ table_of r
purse_opened r a none = same_tables r (with_purse r a) same
  where
    same : (h : Holder) (e : ℕ) → content_at (with_purse r a) no_hand h e ≡ content_at r no_hand h e
    same (Purse q) e = elim (cases_eq (length r.purses) q) [
      | inl at ↦ ap (λ (x : Amount). in_brand (right_in x) e) (read_pushed r.purses a no_amount q (sym at)) ∙ nothing_in a e none
          ∙ sym (ap (λ (x : Amount). in_brand (right_in x) e) (read_past r.purses no_amount q (omega (arith, at))) ∙ none_either (0 == e))
      | inr apart ↦ ap (λ (x : Amount). in_brand (right_in x) e) (read_before r.purses a no_amount q apart)
    ]
    same (Payment q) e = refl
    same (Slot s k) e = refl
    same Hand e = refl
    same Outside e = refl

pub payment_made : (r : Rights) (a : Amount) → a.value.content ≡ nothing → table_of (with_payment r a) ≡ table_of r
payment_made r a none = same_tables r (with_payment r a) same
  where
    same : (h : Holder) (e : ℕ) → content_at (with_payment r a) no_hand h e ≡ content_at r no_hand h e
    same (Payment q) e = elim (cases_eq (length r.payments) q) [
      | inl at ↦ ap (λ (x : PaymentView). in_brand (right_on x) e) (read_pushed r.payments (live_payment a) (spent_payment 0) q (sym at)) ∙ nothing_in a e none
          ∙ sym (ap (λ (x : PaymentView). in_brand (right_on x) e) (read_past r.payments (spent_payment 0) q (omega (arith, at))) ∙ none_either (0 == e))
      | inr apart ↦ ap (λ (x : PaymentView). in_brand (right_on x) e) (read_before r.payments (live_payment a) (spent_payment 0) q apart)
    ]
    same (Purse q) e = refl
    same (Slot s k) e = refl
    same Hand e = refl
    same Outside e = refl

pub brand_made : (r : Rights) (s : BrandSupply) → table_of (with_supply r s) ≡ table_of r
brand_made r s = same_tables r (with_supply r s) same
  where
    same : (h : Holder) (e : ℕ) → content_at (with_supply r s) no_hand h e ≡ content_at r no_hand h e
    same (Purse q) e = refl
    same (Payment q) e = refl
    same (Slot v k) e = refl
    same Hand e = refl
    same Outside e = refl

none_of_emptied : (k : List ℕ) (rs : List Share) (e : ℕ) → in_slot (amount_under k (map emptied rs)) e ≡ nothing
none_of_emptied k [] e = refl
none_of_emptied k (r ∷ rs) e = by (bytes_eq k r.keyword) (none_of_emptied k rs e)
  where
    by : (t : Bool) → in_slot (amount_under k (map emptied rs)) e ≡ nothing → in_slot (cond t (Some (emptied r).amount) (amount_under k (map emptied rs))) e ≡ nothing
    by true later = none_either (r.amount.brand == e)
    by false later = later

pub seat_opened : (r : Rights) (rs : List Share) → table_of (with_slots r (map emptied rs)) ≡ table_of r
seat_opened r rs = same_tables r (with_slots r (map emptied rs)) same
  where
    same : (h : Holder) (e : ℕ) → content_at (with_slots r (map emptied rs)) no_hand h e ≡ content_at r no_hand h e
    same (Slot q k) e = elim (cases_eq (length r.slots) q) [
      | inl at ↦ ap (λ x. in_slot (amount_under k x) e) (read_pushed r.slots (map emptied rs) [] q (sym at)) ∙ none_of_emptied k rs e
          ∙ sym (ap (λ x. in_slot (amount_under k x) e) (read_past r.slots [] q (omega (arith, at))))
      | inr apart ↦ ap (λ x. in_slot (amount_under k x) e) (read_before r.slots (map emptied rs) [] q apart)
    ]
    same (Purse q) e = refl
    same (Payment q) e = refl
    same Hand e = refl
    same Outside e = refl
