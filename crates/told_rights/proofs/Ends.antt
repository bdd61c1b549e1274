-- When a turn may end, as far as rights go, and the sums that are then due.
use Rattle.std.proofs.Common.{◌≡◌, ◌≤◌, ◌<◌, ◌==◌, ◌+◌, ◌-◌, ◌⊎◌, ◌↔◌, ℕ, Bool, true, false, Option, Some, None, List, [], ◌∷◌, ◌++◌, map, option_map, slice_get, refl, sym, ap, subst, ◌∙◌, inl, inr, arith}
use Rattle.std.specs.List.{list_any}
use Rattle.row_records.specs.amount_math.Content.{Content, count, nothing}
use Rattle.row_records.specs.amount_math.ValueView.{Fits, bound}
use Rattle.row_records.specs.amount_math.declared.Kind.{Kind}
use Rattle.row_records.specs.amount_math.declared.Kind.TheVariants.{Bag, Nat, Set}
use Rattle.row_records.specs.fair_rows.Movements.{movements_in, takes_from}
use Rattle.row_records.specs.fair_rows.Rows.{InTurn}
use Rattle.row_records.specs.fair_rows.SoFar.{sum_so_far}
use Rattle.row_records.specs.fair_rows.Turns.{IsBalanced, IsWithin, sums_due}
use Rattle.row_records.specs.rights_model.Supply.{is_store, supply, total_of}
use Rattle.row_records.specs.rights_model.Table.{holds}
use Rattle.row_records.specs.rights_model.Totals.{brands_of}
use Rattle.row_records.specs.rights_model.declared.Holder.TheVariants.{Hand, Payment}
use Rattle.row_records.specs.rights_model.declared.Sum.{Sum}
use Rattle.row_records.specs.turn_rows.Editions.{nat_end}
use Rattle.row_records.specs.turn_rows.declared.editions.Edition.{Edition}
use Rattle.row_records.specs.turn_rows.declared.editions.Edition.TheVariants.{First, Second}
use Rattle.std.proofs.lemmas.Option.{slice_get-map}
use Rattle.escrow.proofs.rights_model.SupplyLaws.{adds_up_after}
use Rattle.told_rights.specs.BrandKinds.{Allows, seen_at}
use Rattle.told_rights.specs.Rights.{AreEmptied, TellsRights}
use Rattle.told_rights.specs.Sums.{sum_at}
use Rattle.told_rights.specs.Supplies.{AreWithin, IsBounded, most_of, out_of}
use Rattle.told_rights.specs.declared.rights.Rights.{Rights}
use Rattle.told_rights.proofs.KindsTold.{each_kind, of_kinds, pick, picked}

-- ---- the bounds

fits_most : (e : Edition) (kind : Kind) (c : Content) → ((q : List ℕ) → count c q ≤ most_of e kind) → Fits kind c
fits_most First Nat c h = record { each = λ q. omega (arith, h q) }
fits_most Second Nat c h = record { each = λ q. omega (arith, h q) }
fits_most e Set c h = record { each = h }
fits_most e Bag c h = record { each = h }

within_most : (e : Edition) (kind : Kind) (c : Content) → ((q : List ℕ) → count c q ≤ most_of e kind) → IsWithin e kind c
within_most First Nat c h = λ q. omega (arith, h q)
within_most Second Nat c h = λ q. omega (arith, h q)
within_most e Set c h = tt
within_most e Bag c h = tt

most_within : (e : Edition) (kind : Kind) (c : Content) → Fits kind c → IsWithin e kind c → (q : List ℕ) → count c q ≤ most_of e kind
most_within First Nat c fits within q = omega (arith, within q)
most_within Second Nat c fits within q = omega (arith, within q)
most_within e Set c fits within q = fits.each q
most_within e Bag c fits within q = fits.each q

-- ---- the end

abbrev pub kept_kind : Rights → ℕ → Kind
kept_kind k b = pick (seen_at k.kinds b)

module _ (k : Rights) (i : InTurn) (t : TellsRights k i) where
  pub bounded : (b : ℕ) → IsBounded b (kept_kind k b) k.supplies
  bounded b = t.supplies.bounded b (kept_kind k b) (picked (seen_at k.kinds b))

  pub balanced : ((b : ℕ) → holds k.places Hand b ≡ nothing) → AreWithin (kept_kind k) k.supplies → IsBalanced k.edition i.now
  balanced empty within =
      let most = λ (b : ℕ) (q : List ℕ). subst (λ c. count c q ≤ most_of k.edition (kept_kind k b)) (t.supplies.out b) (subst (λ e. count (out_of k.supplies b) q ≤ most_of e (kept_kind k b)) t.edition (within.each b q)) in
      let hand = λ (b : ℕ). subst (λ u. holds u Hand b ≡ nothing) t.places (empty b) in
      record {
        kind_of = kept_kind k;
        values = of_kinds (kept_kind k) i.now.amounts (λ b. t.kinds.allowed b (kept_kind k b) (picked (seen_at k.kinds b)));
        adds_up = record {
          adds_up = λ b q. ap (λ u. total_of is_store u b q) t.rows.table ∙ adds_up_after i.now.moves t.rows.defined (λ e. ap (λ u. holds u Hand e) (sym t.rows.table) ∙ hand e) b q;
          hand_empty = hand;
          bounded = λ b. fits_most k.edition (kept_kind k b) (supply i.now.moves b) (most b);
        };
        within = λ b. within_most k.edition (kept_kind k b) (supply i.now.moves b) (most b);
      }

  pub hand_of : IsBalanced k.edition i.now → (b : ℕ) → holds k.places Hand b ≡ nothing
  hand_of h b = ap (λ u. holds u Hand b) t.places ∙ h.adds_up.hand_empty b

  pub bounded_by : (h : IsBalanced k.edition i.now) (b : ℕ) → IsBounded b (h.kind_of b) k.supplies
  bounded_by h b = t.supplies.bounded b (h.kind_of b) (t.kinds.only b (h.kind_of b) (each_kind h.kind_of i.now.amounts h.values b))

  pub within_of : (h : IsBalanced k.edition i.now) → AreWithin h.kind_of k.supplies
  within_of h = record { each = λ b q. subst (λ c. count c q ≤ most_of k.supplies.edition (h.kind_of b)) (sym (t.supplies.out b)) (subst (λ e. count (supply i.now.moves b) q ≤ most_of e (h.kind_of b)) (sym t.edition) (most_within k.edition (h.kind_of b) (supply i.now.moves b) (h.adds_up.bounded b) (h.within b) q)) }

  pub emptied : ((p b : ℕ) → list_any (λ n. n == p) k.payments.taken.items ≡ true → holds k.places (Payment p) b ≡ nothing) → AreEmptied i
  emptied h p b taken = ap (λ u. holds u (Payment p) b) (sym t.places) ∙ h p b (t.payments.taken p ∙ taken)

  pub emptied_of : AreEmptied i → (p b : ℕ) → list_any (λ n. n == p) k.payments.taken.items ≡ true → holds k.places (Payment p) b ≡ nothing
  emptied_of h p b taken = ap (λ u. holds u (Payment p) b) t.places ∙ h p b (sym (t.payments.taken p) ∙ taken)

  -- ---- sums

  each_sum : (o : Option ℕ) → option_map (sum_at k.sums.totals.entries) o ≡ option_map (sum_so_far i.now) o
  each_sum None = refl
  each_sum (Some b) = ap Some (t.sums.totals b)

  pub due_told : (n : ℕ) → option_map (sum_at k.sums.totals.entries) (slice_get k.sums.brands.items n) ≡ slice_get (sums_due i) n
  due_told n = ap (λ bs. option_map (sum_at k.sums.totals.entries) (slice_get bs n)) t.sums.brands ∙ each_sum (slice_get (brands_of (movements_in i.here)) n) ∙ sym (slice_get-map (sum_so_far i.now) (brands_of (movements_in i.here)) n)
