-- Where nothing was told yet, nothing is kept.
use Rattle.std.proofs.Common.{◌≡◌, ◌==◌, ◌≤◌, ℕ, false, List, [], refl, sym, ap, subst, ◌∙◌, arith}
use Rattle.std.specs.List.{list_any}
use Rattle.escrow.proofs.TableSums.{held-empty}
use Rattle.row_records.specs.amount_math.Content.{difference-nothing, nothing}
use Rattle.row_records.specs.amount_math.Counted.{counted-nothing}
use Rattle.row_records.specs.amount_math.declared.Kind.{Kind}
use Rattle.row_records.specs.fair_rows.SoFar.{nothing_so_far}
use Rattle.row_records.specs.fair_rows.Turns.{after_turn_row}
use Rattle.row_records.specs.rights_model.Table.{no_holdings}
use Rattle.row_records.specs.rights_model.Totals.{is_payment, is_purse, is_slot}
use Rattle.row_records.specs.turn_rows.Turns.{Turn}
use Rattle.told_rights.specs.BrandKinds.{Allows, seen_at}
use Rattle.told_rights.specs.Rights.{TellsRights}
use Rattle.told_rights.specs.Runs.{has_number}
use Rattle.told_rights.specs.Sums.{no_sum, sum_at}
use Rattle.told_rights.specs.Supplies.{IsBounded, out_of}
use Rattle.told_rights.specs.declared.brand_kinds.Seen.TheVariants.{Any}
use Rattle.told_rights.specs.declared.rights.Rights.{Rights}
use Rattle.told_rights.proofs.Placing.{brands_of-none}
use Rattle.told_rights.proofs.TotalsAfter.{same_sum}

pub record IsNew (k : Rights) : Type 0 where
  pub edition : k.supplies.edition ≡ k.edition
  pub places : k.places ≡ no_holdings
  pub out : (b : ℕ) → out_of k.supplies b ≡ nothing
  pub bounded : (b : ℕ) (kind : Kind) → IsBounded b kind k.supplies
  pub kinds : (b : ℕ) → seen_at k.kinds b ≡ Any
  pub totals : (b : ℕ) → sum_at k.sums.totals.entries b ≡ no_sum b
  pub brands : k.sums.brands.items ≡ []
  pub named : (p : ℕ) → has_number k.payments.named p ≡ false
  pub spent : (p : ℕ) → has_number k.payments.spent p ≡ false
  pub taken : k.payments.taken.items ≡ []

pub new_told : (k : Rights) (turn : Turn) → IsNew k → TellsRights k (after_turn_row nothing_so_far turn)
new_told k turn new = record {
  rows = record { all = refl; table = refl; defined = tt; minted = λ b. omega (arith, counted-nothing) };
  edition = new.edition;
  places = new.places;
  kinds = record { allowed = λ b kind a. tt; only = λ b kind a. subst (λ s. Allows s kind) (sym (new.kinds b)) tt };
  supplies = record { out = λ b. new.out b ∙ sym (difference-nothing nothing); bounded = λ b kind a. new.bounded b kind };
  sums = record {
    totals = λ b. new.totals b ∙ same_sum _ _ refl (sym counted-nothing) (sym counted-nothing) (sym (held-empty is_purse refl b)) (sym (held-empty is_payment refl b)) (sym (held-empty is_slot refl b));
    brands = new.brands ∙ sym brands_of-none;
  };
  payments = record { named = new.named; spent = new.spent; taken = λ p. ap (λ xs. list_any (λ n. n == p) xs) new.taken };
}
