-- The open seats of an instance, by number: all of them, each once; and those that are left of them when the
-- first is left.
use Rattle.std.specs.Prelude.{◌==◌, ◌&&◌, is_none}
use Rattle.std.specs.List.{AllByRecursion}
use Rattle.std.proofs.Common.{◌≡◌, ◌⊎◌, inl, inr, ℕ, zero, suc, ◌+◌, ◌<◌, Bool, true, false, List, [], ◌∷◌, Option, Some, None, if◌then◌else◌, refl, sym, ◌∙◌, ap, subst, arith}
use Rattle.std.proofs.lemmas.Bool.{cases_eq, eq-eqb, eqb-true}
use Rattle.world_laws.proofs.lemmas.ListEdits.{read_other, read_set}
use Rattle.rules.specs.proposals.declared.allocations.Share.{Share}
use Rattle.world_laws.proofs.Instances.{open_made}
use Rattle.world_laws.specs.world_state.Known.{IsSeatOf}
use Rattle.world_laws.specs.world_state.Worlds.{IsOpen, Seat, left_seat, no_seat, seat_at, seats_left}
use Rattle.rules.specs.Traces.{open_from}

abbrev pub Among : ℕ → List ℕ → Type 0
Among s [] = ⊥
Among s (n ∷ ns) = (n ≡ s) ⊎ Among s ns

abbrev pub Above : ℕ → List ℕ → Type 0
Above n ns = AllByRecursion (λ m. n < m) ns

abbrev pub Ascend : List ℕ → Type 0
Ascend [] = Unit {0}
Ascend (n ∷ ns) = Above n ns × Ascend ns

abbrev pub AreOpen : List Seat → List ℕ → Type 0
AreOpen seats ns = AllByRecursion (λ n. IsOpen (seat_at seats n)) ns

-- numbers that are those of all open seats of an instance
pub record AreAllOpen (seats : List Seat) (i : ℕ) (ns : List ℕ) : Type 0 where
  pub are_open : AreOpen seats ns
  pub apart : Ascend ns
  pub all : (s : ℕ) → IsOpen (seat_at seats s) → (seat_at seats s).instance ≡ i → Among s ns

-- ---- the open seats as they are numbered

module _ (i : ℕ) where
  chosen : (P : List ℕ → Type 0) (b : Bool) (n : ℕ) (ns : List ℕ) → (b ≡ true → P (n ∷ ns)) → P ns → P (if b then n ∷ ns else ns)
  chosen P true n ns taken rest = taken refl
  chosen P false n ns taken rest = rest

  none_there : (o : Option (List Share)) → is_none o ≡ true → o ≡ None
  none_there None is = refl
  none_there (Some x) is = cc

  both_true : (a b : Bool) → (a && b) ≡ true → b ≡ true
  both_true true b is = is
  both_true false b is = cc

  -- each has what open seats have
  each_open : (P : ℕ → Type 0) (k : ℕ) (ss : List Seat) → ((m : ℕ) → IsOpen (seat_at ss m) → P (k + m)) → AllByRecursion P (open_from k i ss)
  each_open P k [] h = tt
  each_open P k (s ∷ ss) h =
      let later : (m : ℕ) → IsOpen (seat_at ss m) → P (suc k + m) = λ m is. let e : k + suc m ≡ suc k + m = omega arith in subst P e (h (suc m) is) in
      let first : k + 0 ≡ k = omega arith in
      let rest : AllByRecursion P (open_from (suc k) i ss) = each_open P (suc k) ss later in
      chosen (AllByRecursion P) ((s.instance == i) && is_none s.last) k (open_from (suc k) i ss)
      (λ is. (subst P first (h 0 (none_there s.last (both_true (s.instance == i) (is_none s.last) is))), rest)) rest

  ascending : (k : ℕ) (ss : List Seat) → Ascend (open_from k i ss)
  ascending k [] = tt
  ascending k (s ∷ ss) =
      let rest : Ascend (open_from (suc k) i ss) = ascending (suc k) ss in
      chosen Ascend ((s.instance == i) && is_none s.last) k (open_from (suc k) i ss)
      (λ is. (each_open (λ m. k < m) (suc k) ss (λ m is_there. let lt : k < suc k + m = omega arith in lt), rest)) rest

  not_open : (n : ℕ) → IsOpen (seat_at [] n) → ⊥
  not_open n is = cc

  -- none is missing
  each_there : (k : ℕ) (ss : List Seat) (m : ℕ) → IsOpen (seat_at ss m) → (seat_at ss m).instance ≡ i → Among (k + m) (open_from k i ss)
  each_there k [] m is own = absurd (not_open m is)
  each_there k (s ∷ ss) zero is own =
      let first : k ≡ k + 0 = omega arith in
      let here : ((s.instance == i) && is_none s.last) ≡ true = ap (λ t. t && is_none s.last) (eq-eqb s.instance i own) ∙ ap is_none is in
      subst (λ t. Among (k + 0) (if t then k ∷ open_from (suc k) i ss else open_from (suc k) i ss)) (sym here) (inl first)
  each_there k (s ∷ ss) (suc m) is own =
      let e : suc k + m ≡ k + suc m = omega arith in
      let rest : Among (k + suc m) (open_from (suc k) i ss) = subst (λ q. Among q (open_from (suc k) i ss)) e (each_there (suc k) ss m is own) in
      chosen (Among (k + suc m)) ((s.instance == i) && is_none s.last) k (open_from (suc k) i ss) (λ own_open. inr rest) rest

  pub all_are_open : (seats : List Seat) → AreAllOpen seats i (open_from 0 i seats)
  all_are_open seats = record {
    are_open = each_open (λ n. IsOpen (seat_at seats n)) 0 seats (λ m is. let e : m ≡ 0 + m = omega arith in subst (λ k. IsOpen (seat_at seats k)) e is);
    apart = ascending 0 seats;
    all = λ s is own. let e : 0 + s ≡ s = omega arith in subst (λ k. Among k (open_from 0 i seats)) e (each_there 0 seats s is own);
  }

  -- each is one of the instance's
  both_first : (a b : Bool) → (a && b) ≡ true → a ≡ true
  both_first true b is = refl
  both_first false b is = cc

  each_own : (P : ℕ → Type 0) (k : ℕ) (ss : List Seat) → ((m : ℕ) → IsSeatOf ss i m → P (k + m)) → AllByRecursion P (open_from k i ss)
  each_own P k [] h = tt
  each_own P k (s ∷ ss) h =
      let later : (m : ℕ) → IsSeatOf ss i m → P (suc k + m) = λ m is. let e : k + suc m ≡ suc k + m = omega arith in subst P e (h (suc m) (record { made = omega (arith, is.made); own = is.own })) in
      let first : k + 0 ≡ k = omega arith in
      let rest : AllByRecursion P (open_from (suc k) i ss) = each_own P (suc k) ss later in
      chosen (AllByRecursion P) ((s.instance == i) && is_none s.last) k (open_from (suc k) i ss)
      (λ is. (subst P first (h 0 (record { made = omega arith; own = eqb-true s.instance i (both_first (s.instance == i) (is_none s.last) is) })), rest)) rest

  pub all_own : (seats : List Seat) → AllByRecursion (IsSeatOf seats i) (open_from 0 i seats)
  all_own seats = each_own (IsSeatOf seats i) 0 seats (λ m is. let e : m ≡ 0 + m = omega arith in subst (IsSeatOf seats i) e is)

-- ---- once the first is left

module _ (seats : List Seat) (n : ℕ) (shares : List Share) where
  still_open : (ms : List ℕ) → Above n ms → AreOpen seats ms → AreOpen (seats_left seats n shares) ms
  still_open [] above are = tt
  still_open (m ∷ ms) above are =
      (subst IsOpen (sym (read_other seats n m (left_seat (seat_at seats n) shares) no_seat (λ e. absurd (omega (arith, above.0, e))))) are.0, still_open ms above.1 are.1)

  is_left : IsOpen (seat_at seats n) → IsOpen (seat_at (seats_left seats n shares) n) → ⊥
  is_left was is =
      let at : seat_at (seats_left seats n shares) n ≡ left_seat (seat_at seats n) shares = read_set seats n (left_seat (seat_at seats n) shares) no_seat (open_made seats n was) in
      let clash : Some shares ≡ None = sym (ap (λ (q : Seat). q.last) at) ∙ is in
      cc

  pub others_are_open : (i : ℕ) (ns : List ℕ) → AreAllOpen seats i (n ∷ ns) → AreAllOpen (seats_left seats n shares) i ns
  others_are_open i ns are = record {
    are_open = still_open ns are.apart.0 are.are_open.1;
    apart = are.apart.1;
    all = λ s is own. elim (cases_eq n s) [
      | inl same ↦ absurd (is_left are.are_open.0 (subst (λ k. IsOpen (seat_at (seats_left seats n shares) k)) (sym same) is))
      | inr other ↦
          let as_it_was : seat_at (seats_left seats n shares) s ≡ seat_at seats s = read_other seats n s (left_seat (seat_at seats n) shares) no_seat other in
          by s other (are.all s (subst IsOpen as_it_was is) (ap (λ (q : Seat). q.instance) (sym as_it_was) ∙ own))
    ];
  }
    where
      by : (s : ℕ) → (n ≡ s → ⊥) → Among s (n ∷ ns) → Among s ns
      by s other (inl same) = absurd (other same)
      by s other (inr there) = there
