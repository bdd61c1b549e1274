-- What is staged, by seat.
use Rattle.std.specs.Prelude.{cond, slice_set}
use Rattle.std.specs.BTreeMap.{insert_entry, is_at}
use Rattle.std.specs.Cmp.{unsigned_tied}
use Rattle.std.specs.Map.{lookup, remove_entry}
use Rattle.std.specs.Ordering.{is_eq, match_ordering, nat_cmp}
use Rattle.std.specs.declared.cmp.Ordering.{Ordering}
use Rattle.std.specs.declared.cmp.Ordering.TheVariants.{Less, Equal, Greater}
use Rattle.std.proofs.Common.{◌≡◌, ◌≢◌, ◌==◌, ℕ, zero, suc, ◌+◌, ◌<◌, ◌≤◌, Bool, true, false, List, [], ◌∷◌, ◌++◌, None, Option, Some, length, map, refl, sym, ◌∙◌, ap, arith}
use Rattle.std.proofs.lemmas.Bool.{eq-eqb, eqb-true, ne_eqb}
use Rattle.world_laws.specs.proposals.declared.allocations.Share.{Share}
use Rattle.world_laws.specs.vault_model.Seats.{KeptSeat}
use Rattle.vault.specs.seats.Staging.{staged_at, with_staged, without_staged}
use Rattle.world_laws.specs.world_state.Worlds.{no_shares}
use Rattle.draft_reads.specs.Views.{staged_from}

-- ---- what is staged of one seat

abbrev Staging : Type 0
Staging = List (ℕ × List Share)

tied : (n q : ℕ) → n ≡ q → is_eq (nat_cmp n q) ≡ true
tied n q same = unsigned_tied n q ∙ eq-eqb n q same

untied : (n q : ℕ) → n ≢ q → is_eq (nat_cmp n q) ≡ false
untied n q apart = unsigned_tied n q ∙ ne_eqb n q apart

same_of : (n q : ℕ) → is_eq (nat_cmp n q) ≡ true → n ≡ q
same_of n q is = eqb-true n q (sym (unsigned_tied n q) ∙ is)

module _ (n : ℕ) (shares : List Share) where
  pub staged_here : (xs : Staging) → staged_at n (with_staged n shares xs) ≡ Some shares
  staged_here [] = ap (λ t. cond t (Some shares) None) (tied n n refl)
  staged_here (e ∷ es) = by (nat_cmp n e.0) refl (staged_here es)
    where
      by : (o : Ordering) → nat_cmp n e.0 ≡ o → staged_at n (with_staged n shares es) ≡ Some shares → staged_at n (match_ordering o ((n, shares) ∷ e ∷ es) ((e.0, shares) ∷ es) (e ∷ with_staged n shares es)) ≡ Some shares
      by Less is later = ap (λ t. cond t (Some shares) (staged_at n (e ∷ es))) (tied n n refl)
      by Equal is later = ap (λ t. cond t (Some shares) (staged_at n es)) (ap is_eq is)
      by Greater is later = ap (λ t. cond t (Some e.1) (staged_at n (with_staged n shares es))) (ap is_eq is) ∙ later

  pub staged_apart : (q : ℕ) → q ≢ n → (xs : Staging) → staged_at q (with_staged n shares xs) ≡ staged_at q xs
  staged_apart q apart [] = ap (λ t. cond t (Some shares) None) (untied q n apart)
  staged_apart q apart (e ∷ es) = by (nat_cmp n e.0) refl (staged_apart q apart es)
    where
      by : (o : Ordering) → nat_cmp n e.0 ≡ o → staged_at q (with_staged n shares es) ≡ staged_at q es → staged_at q (match_ordering o ((n, shares) ∷ e ∷ es) ((e.0, shares) ∷ es) (e ∷ with_staged n shares es)) ≡ staged_at q (e ∷ es)
      by Less is later = ap (λ t. cond t (Some shares) (staged_at q (e ∷ es))) (untied q n apart)
      by Equal is later =
          ap (λ t. cond t (Some shares) (staged_at q es)) other
          ∙ sym (ap (λ t. cond t (Some e.1) (staged_at q es)) other)
        where
          other : is_eq (nat_cmp q e.0) ≡ false
          other = untied q e.0 (λ same. apart (same ∙ sym (same_of n e.0 (ap is_eq is))))
      by Greater is later = ap (λ o. cond (is_eq (nat_cmp q e.0)) (Some e.1) o) later

pub let_go_apart : (n q : ℕ) → q ≢ n → (xs : Staging) → staged_at q (without_staged n xs) ≡ staged_at q xs
let_go_apart n q apart [] = refl
let_go_apart n q apart (e ∷ es) = by (is_eq (nat_cmp n e.0)) refl (let_go_apart n q apart es)
  where
    by : (t : Bool) → is_eq (nat_cmp n e.0) ≡ t → staged_at q (without_staged n es) ≡ staged_at q es → staged_at q (cond t es (e ∷ without_staged n es)) ≡ staged_at q (e ∷ es)
    by true is later = sym (ap (λ t. cond t (Some e.1) (staged_at q es)) (untied q e.0 (λ same. apart (same ∙ sym (same_of n e.0 is)))))
    by false is later = ap (λ o. cond (is_eq (nat_cmp q e.0)) (Some e.1) o) later

-- ---- what is staged of all

pub alike_from : (m : ℕ) (ss : List KeptSeat) (xs ys : Staging) → ((q : ℕ) → m ≤ q → staged_at q xs ≡ staged_at q ys) → staged_from m ss xs ≡ staged_from m ss ys
alike_from m [] xs ys alike = refl
alike_from m (s ∷ ss) xs ys alike = λ i. alike m (omega arith) i ∷ alike_from (suc m) ss xs ys (λ q le. alike q (omega (arith, le))) i

changed_from : (m n q : ℕ) (ss : List KeptSeat) (x : Option (List Share)) (xs ys : Staging) → q ≡ m + n → staged_at q ys ≡ x → ((p : ℕ) → p ≢ q → staged_at p ys ≡ staged_at p xs) → staged_from m ss ys ≡ slice_set (staged_from m ss xs) n x
changed_from m n q [] x xs ys at here apart = refl
changed_from m zero q (s ∷ ss) x xs ys at here apart = λ i. first i ∷ alike_from (suc m) ss ys xs (λ p le. apart p (λ same. absurd (omega (arith, le, same, at)))) i
  where
    first : staged_at m ys ≡ x
    first = ap (λ p. staged_at p ys) (omega (arith, at)) ∙ here
changed_from m (suc n) q (s ∷ ss) x xs ys at here apart = λ i. apart m (λ same. absurd (omega (arith, at, same))) i ∷ changed_from (suc m) n q ss x xs ys (omega (arith, at)) here apart i

-- one seat's is changed
pub staged_set : (n : ℕ) (ss : List KeptSeat) (x : Option (List Share)) (xs ys : Staging) → staged_at n ys ≡ x → ((p : ℕ) → p ≢ n → staged_at p ys ≡ staged_at p xs) → staged_from 0 ss ys ≡ slice_set (staged_from 0 ss xs) n x
staged_set n ss x xs ys here apart = changed_from 0 n n ss x xs ys (omega arith) here apart

pub staged_with : (ss : List KeptSeat) (n : ℕ) (shares : List Share) (xs : Staging) → staged_from 0 ss (with_staged n shares xs) ≡ slice_set (staged_from 0 ss xs) n (Some shares)
staged_with ss n shares xs = staged_set n ss (Some shares) xs (with_staged n shares xs) (staged_here n shares xs) (λ p apart. staged_apart n shares p apart xs)

ended_from : (m : ℕ) (ss : List KeptSeat) (xs : Staging) → staged_from m ss [] ≡ map no_shares (staged_from m ss xs)
ended_from m [] xs = refl
ended_from m (s ∷ ss) xs = ap (λ l. None ∷ l) (ended_from (suc m) ss xs)

pub staged_ended : (ss : List KeptSeat) (xs : Staging) → staged_from 0 ss [] ≡ map no_shares (staged_from 0 ss xs)
staged_ended ss xs = ended_from 0 ss xs

-- a seat more, of which this is staged
pushed_from : (m n : ℕ) (ss : List KeptSeat) (s : KeptSeat) (xs : Staging) → n ≡ m + length ss → staged_from m (ss ++ s ∷ []) xs ≡ staged_from m ss xs ++ staged_at n xs ∷ []
pushed_from m n [] s xs at = ap (λ p. staged_at p xs ∷ []) (omega (arith, at))
pushed_from m n (t ∷ ss) s xs at = ap (λ l. staged_at m xs ∷ l) (pushed_from (suc m) n ss s xs (omega (arith, at)))

pub staged_push : (ss : List KeptSeat) (s : KeptSeat) (xs : Staging) → staged_at (length ss) xs ≡ None → staged_from 0 (ss ++ s ∷ []) xs ≡ staged_from 0 ss xs ++ None ∷ []
staged_push ss s xs none = pushed_from 0 (length ss) ss s xs (omega arith) ∙ ap (λ o. staged_from 0 ss xs ++ o ∷ []) none

-- as many seats have the same staged
pub staged_long : (m : ℕ) (ss ts : List KeptSeat) (xs : Staging) → length ss ≡ length ts → staged_from m ss xs ≡ staged_from m ts xs
staged_long m [] [] xs e = refl
staged_long m [] (t ∷ ts) xs e = absurd (omega (arith, e))
staged_long m (s ∷ ss) [] xs e = absurd (omega (arith, e))
staged_long m (s ∷ ss) (t ∷ ts) xs e = ap (λ l. staged_at m xs ∷ l) (staged_long (suc m) ss ts xs (omega (arith, e)))
