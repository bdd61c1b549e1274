-- Shares of give and the payments that stand beside them, from a place on.
use Rattle.std.specs.Prelude.{min, nat_le}
use Rattle.std.proofs.Common.{◌≡◌, ℕ, ◌+◌, ◌<◌, ◌≤◌, Bool, true, false, List, [], ◌∷◌, ◌++◌, length, drop, get_or, None, refl, sym, ap, ◌∙◌, arith}
use Rattle.std.proofs.lemmas.Bool.{leb-true, leb-false}
use Rattle.std.proofs.lemmas.List.{append_assoc, drop_all, drop_more}
use Rattle.rules.specs.proposals.declared.allocations.Share.{Share}
use Rattle.rules.specs.rights_model.Table.{movement}
use Rattle.rules.specs.rights_model.declared.Holder.TheVariants.{Payment, Slot}
use Rattle.rules.specs.rights_model.declared.Movement.{Movement}
use Rattle.rules.specs.GivenPayments.{escrows_of, first_wrong}
use Rattle.rules.specs.world_state.Worlds.{State}

from_place : {A : Type 0} (xs : List A) (n : ℕ) (x : A) → n < length xs → x ≡ get_or xs n x → drop n xs ≡ x ∷ drop (n + 1) xs
from_place xs n x lt at = drop_more xs n x lt ∙ ap (λ y. y ∷ drop (n + 1) xs) (sym at)

one_more : {A : Type 0} (done rest more all : List A) (x : A) → done ++ rest ≡ all → rest ≡ x ∷ more → (done ++ x ∷ []) ++ more ≡ all
one_more done rest more all x before is = append_assoc done (x ∷ []) more ∙ ap (λ r. done ++ r) (sym is) ∙ before

unpaid_escrows : (seat : ℕ) (give : List Share) → escrows_of seat give [] ≡ []
unpaid_escrows seat [] = refl
unpaid_escrows seat (r ∷ rs) = refl

unpaid_wrong : (w : State) (give : List Share) → first_wrong w give [] ≡ None
unpaid_wrong w [] = refl
unpaid_wrong w (r ∷ rs) = refl

module _ (give : List Share) (ps : List ℕ) (n : ℕ) where
  -- what is said of both lists' rests is said of the empty list, where either has no more
  ended : {A : Type 0} (f : List Share → List ℕ → A) (none : A) → ((qs : List ℕ) → f [] qs ≡ none) → ((rs : List Share) → f rs [] ≡ none) → min (length give) (length ps) ≤ n → f (drop n give) (drop n ps) ≡ none
  ended f none no_shares no_payments past = by (nat_le (length give) n) refl
    where
      by : (b : Bool) → nat_le (length give) n ≡ b → f (drop n give) (drop n ps) ≡ none
      by true is = ap (λ rs. f rs (drop n ps)) (drop_all n give (leb-true (length give) n is)) ∙ no_shares (drop n ps)
      by false is = ap (λ qs. f (drop n give) qs) (drop_all n ps (omega (arith, past, leb-false (length give) n is))) ∙ no_payments (drop n give)

  pub escrows_end : (seat : ℕ) → min (length give) (length ps) ≤ n → escrows_of seat (drop n give) (drop n ps) ≡ []
  escrows_end seat past = ended (escrows_of seat) [] (λ qs. refl) (unpaid_escrows seat) past

  pub wrong_end : (w : State) → min (length give) (length ps) ≤ n → first_wrong w (drop n give) (drop n ps) ≡ None
  wrong_end w past = ended (first_wrong w) None (λ qs. refl) (unpaid_wrong w) past

  module _ (r : Share) (p : ℕ) (share_in : n < length give) (paid_in : n < length ps) (share : r ≡ get_or give n r) (paid : p ≡ get_or ps n p) where
    both : {A : Type 0} (f : List Share → List ℕ → A) → f (drop n give) (drop n ps) ≡ f (r ∷ drop (n + 1) give) (p ∷ drop (n + 1) ps)
    both f = ap (λ rs. f rs (drop n ps)) (from_place give n r share_in share) ∙ ap (f (r ∷ drop (n + 1) give)) (from_place ps n p paid_in paid)

    pub escrows_more : (seat : ℕ) (done all : List Movement) → done ++ escrows_of seat (drop n give) (drop n ps) ≡ all → (done ++ movement r.amount.brand (Payment p) (Slot seat r.keyword) r.amount.value ∷ []) ++ escrows_of seat (drop (n + 1) give) (drop (n + 1) ps) ≡ all
    escrows_more seat done all before =
        one_more done (escrows_of seat (drop n give) (drop n ps)) (escrows_of seat (drop (n + 1) give) (drop (n + 1) ps)) all
        (movement r.amount.brand (Payment p) (Slot seat r.keyword) r.amount.value) before (both (escrows_of seat))
