-- The table of rights has what is held; and it is the one table that has.
use Rattle.std.specs.Prelude.{◌≡◌, ◌+◌, ℕ, zero, suc, Bool, true, false, cond, List, [], ◌∷◌, ◌++◌, Some, map, refl}
use Rattle.std.specs.Str.{bytes_eq}
use Rattle.std.proofs.Common.{inl, inr, sym, ◌∙◌, ap, subst, arith}
use Rattle.std.proofs.lemmas.Bool.{cases_eq}
use Rattle.std.proofs.lemmas.Slice.Eq.{bytes_eq-Decides}
use Rattle.world_state.specs.amount_math.Content.{Content}
use Rattle.world_state.specs.ertp_mint.Stocks.{no_amount}
use Rattle.world_state.proofs.lemmas.ListEdits.{read_map}
use Rattle.world_state.specs.holders.PaymentViews.{spent_payment}
use Rattle.world_state.specs.proposals.Shares.{amount_under}
use Rattle.world_state.specs.proposals.declared.allocations.Share.{Share}
use Rattle.world_state.specs.rights_model.declared.Holder.{Holder}
use Rattle.world_state.specs.rights_model.declared.Holder.TheVariants.{Purse, Payment, Slot, Hand, Outside}
use Rattle.world_state.specs.rights_model.Place.{Place, place}
use Rattle.world_state.specs.rights_model.Table.{Table}
use Rattle.world_state.specs.rights_model.Tabulated.{IsCovered, at-tabulated}
use Rattle.world_state.proofs.rights_model.TableLaws.{same_table}
use Rattle.world_state.proofs.vault_model.Agreeing.{covered_left, covered_numbered, covered_right, none_covered}
use Rattle.world_state.specs.vault_model.Tables.{Right, in_brand, no_hand, right_in, right_on, slots_from}
use Rattle.world_state.specs.Rights.{Rights, slots_at}
use Rattle.world_laws.specs.Tables.{Agrees, content_at, in_slot, payment_places, purse_places, seats_from, table_of}
use Rattle.world_laws.proofs.Changes.{of_other}

module _ (f : Place → Content) where
  covered_shares : (n : ℕ) (shares : List Share) (j : List ℕ) (e : ℕ) → f (place (Slot n j) e) ≡ in_slot (amount_under j shares) e → IsCovered f (slots_from n shares) (place (Slot n j) e)
  covered_shares n [] j e is = is
  covered_shares n (r ∷ rs) j e is = by (bytes_eq j r.keyword) refl (covered_shares n rs j e) is
    where
      by : (t : Bool) → bytes_eq j r.keyword ≡ t → (f (place (Slot n j) e) ≡ in_slot (amount_under j rs) e → IsCovered f (slots_from n rs) (place (Slot n j) e))
          → f (place (Slot n j) e) ≡ in_slot (cond t (Some r.amount) (amount_under j rs)) e → IsCovered f ((Slot n r.keyword, r.amount.brand) ∷ slots_from n rs) (place (Slot n j) e)
      by true same later here = elim (cases_eq r.amount.brand e) [
        | inl at ↦ inl (ap (λ x. place (Slot n x) e) ((bytes_eq-Decides j r.keyword).0 same) ∙ ap (place (Slot n r.keyword)) (sym at))
        | inr differs ↦ inr (none_covered f (slots_from n rs) (place (Slot n j) e) (here ∙ of_other (right_in r.amount) e differs))
      ]
      by false same later here = inr (later here)

  covered_seats : (m : ℕ) (l : List (List Share)) (q v : ℕ) (j : List ℕ) (e : ℕ) → v ≡ m + q → f (place (Slot v j) e) ≡ in_slot (amount_under j (slots_at l q)) e → IsCovered f (seats_from m l) (place (Slot v j) e)
  covered_seats m [] q v j e at is = is
  covered_seats m (x ∷ xs) zero v j e at is = covered_left f (slots_from m x) (seats_from (suc m) xs) (place (Slot v j) e) (subst (λ y. IsCovered f (slots_from y x) (place (Slot v j) e)) (at ∙ (omega arith)) (covered_shares v x j e is))
  covered_seats m (x ∷ xs) (suc q) v j e at is = covered_right f (slots_from m x) (seats_from (suc m) xs) (place (Slot v j) e) (covered_seats (suc m) xs q v j e (omega (arith, at)) is)

module _ (r : Rights) where
  abbrev f : Place → Content
  f p = content_at r no_hand p.0 p.1

  abbrev first : List Place
  first = purse_places r

  abbrev second : List Place
  second = payment_places r

  abbrev both : List Place
  both = first ++ second

  abbrev third : List Place
  third = seats_from 0 r.slots

  pub table_agrees : Agrees r no_hand (table_of r)
  unfolding table_of
  table_agrees = record { each = λ h e. at-tabulated f (both ++ third) (place h e) (covered h e) }
    where
      covered : (h : Holder) (e : ℕ) → IsCovered f (both ++ third) (place h e)
      covered (Purse q) e = covered_left f both third (place (Purse q) e) (covered_left f first second (place (Purse q) e)
          (covered_numbered f Purse 0 (map right_in r.purses) q q e (right_in no_amount) refl (omega arith) (ap (λ (x : Right). in_brand x e) (sym (read_map right_in r.purses q no_amount)))))
      covered (Payment q) e = covered_left f both third (place (Payment q) e) (covered_right f first second (place (Payment q) e)
          (covered_numbered f Payment 0 (map right_on r.payments) q q e (right_on (spent_payment 0)) refl (omega arith) (ap (λ (x : Right). in_brand x e) (sym (read_map right_on r.payments q (spent_payment 0))))))
      covered (Slot v j) e = covered_right f both third (place (Slot v j) e) (covered_seats f 0 r.slots v v j e (omega arith) refl)
      covered Hand e = none_covered f (both ++ third) (place Hand e) refl
      covered Outside e = none_covered f (both ++ third) (place Outside e) refl

  -- what has what is held is the table
  pub table_is : (t : Table) → Agrees r no_hand t → table_of r ≡ t
  table_is t is = same_table (table_of r) t (λ h e. table_agrees.each h e ∙ sym (is.each h e))
