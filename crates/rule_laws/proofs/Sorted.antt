-- Touched seats by their numbers, the staging that is dropped, and the movements that a plan is written as.
use Rattle.std.specs.Prelude.{flat_map, map, nat_le, slice_set, sum_by}
use Rattle.std.specs.List.{AllByRecursion}
use Rattle.std.proofs.Common.{◌≡◌, ◌≢◌, ℕ, zero, suc, ◌+◌, ◌<◌, Bool, true, false, List, [], ◌∷◌, ◌++◌, length, Option, None, refl, sym, ap, ◌∙◌, arith, if◌then◌else◌}
use Rattle.std.proofs.lemmas.List.Sums.{sum_by-cons}
use Rattle.world_laws.specs.amount_math.Content.{Content}
use Rattle.rules.specs.call_arguments.Numbers.{AreApart, IsNoneOf}
use Rattle.world_laws.proofs.lemmas.ListEdits.{length_set, read_set}
use Rattle.rules.specs.rearrange.Moves.{by_number, from_hand, gained_by, gains_in, if_some, losses_in, lost_by, moves_of, placed, to_hand}
use Rattle.rules.specs.proposals.declared.allocations.Share.{Share}
use Rattle.rules.specs.proposals.declared.plans.Touched.{Touched}
use Rattle.rules.specs.rearrange.Sums.{AreConserved, shares_count}
use Rattle.world_laws.specs.rights_model.declared.Movement.{Movement}
use Rattle.rules.specs.value_tests.Tests.{is_nothing}
use Rattle.world_laws.specs.world_state.Good.{AreGood, CanMoveTogether}
use Rattle.world_laws.specs.world_state.Worlds.{State, staged_at}
use Rattle.rules.specs.States.{changing}
use Rattle.rule_laws.proofs.Carried.{carried}
use Rattle.rule_laws.proofs.Rearranged.{in_move, ins, out_move, outs, seats_of}
use Rattle.rule_laws.proofs.Shares.{part_share, some_shares}

-- ---- by number

all_placed : (P : Touched → Type 0) (t : Touched) (us : List Touched) → P t → AllByRecursion P us → AllByRecursion P (placed t us)
all_placed P t [] one all = (one, tt)
all_placed P t (u ∷ us) one all = by (nat_le t.seat u.seat) (all_placed P t us one all.1)
  where
    by : (b : Bool) → AllByRecursion P (placed t us) → AllByRecursion P (if b then t ∷ u ∷ us else u ∷ placed t us)
    by true rest = (one, all)
    by false rest = (all.0, rest)

pub all_by_number : (P : Touched → Type 0) (ts : List Touched) → AllByRecursion P ts → AllByRecursion P (by_number ts)
all_by_number P [] all = tt
all_by_number P (t ∷ ts) all = all_placed P t (by_number ts) all.0 (all_by_number P ts all.1)

none_placed : (n : ℕ) (t : Touched) (us : List Touched) → t.seat ≢ n → IsNoneOf (seats_of us) n → IsNoneOf (seats_of (placed t us)) n
none_placed n t [] other none = (other, tt)
none_placed n t (u ∷ us) other none = by (nat_le t.seat u.seat) (none_placed n t us other none.1)
  where
    by : (b : Bool) → IsNoneOf (seats_of (placed t us)) n → IsNoneOf (seats_of (if b then t ∷ u ∷ us else u ∷ placed t us)) n
    by true rest = (other, none)
    by false rest = (none.0, rest)

apart_placed : (t : Touched) (us : List Touched) → IsNoneOf (seats_of us) t.seat → AreApart (seats_of us) → AreApart (seats_of (placed t us))
apart_placed t [] none apart = (tt, tt)
apart_placed t (u ∷ us) none apart = by (nat_le t.seat u.seat) (apart_placed t us none.1 apart.1)
  where
    by : (b : Bool) → AreApart (seats_of (placed t us)) → AreApart (seats_of (if b then t ∷ u ∷ us else u ∷ placed t us))
    by true rest = (none, apart)
    by false rest = (none_placed u.seat t us (λ e. none.0 (sym e)) apart.0, rest)

none_by_number : (n : ℕ) (ts : List Touched) → IsNoneOf (seats_of ts) n → IsNoneOf (seats_of (by_number ts)) n
none_by_number n [] none = tt
none_by_number n (t ∷ ts) none = none_placed n t (by_number ts) none.0 (none_by_number n ts none.1)

pub apart_by_number : (ts : List Touched) → AreApart (seats_of ts) → AreApart (seats_of (by_number ts))
apart_by_number [] apart = tt
apart_by_number (t ∷ ts) apart = apart_placed t (by_number ts) (none_by_number t.seat ts apart.0) (apart_by_number ts apart.1)

sum_placed : (f : Touched → ℕ) (t : Touched) (us : List Touched) → sum_by f (placed t us) ≡ f t + sum_by f us
sum_placed f t [] = sum_by-cons f t []
sum_placed f t (u ∷ us) = by (nat_le t.seat u.seat) (sum_placed f t us)
  where
    by : (b : Bool) → sum_by f (placed t us) ≡ f t + sum_by f us → sum_by f (if b then t ∷ u ∷ us else u ∷ placed t us) ≡ f t + sum_by f (u ∷ us)
    by true rest = sum_by-cons f t (u ∷ us)
    by false rest = omega (arith, rest, sum_by-cons f u (placed t us), sum_by-cons f u us)

pub sum_by_number : (f : Touched → ℕ) (ts : List Touched) → sum_by f (by_number ts) ≡ sum_by f ts
sum_by_number f [] = refl
sum_by_number f (t ∷ ts) = omega (arith, sum_placed f t (by_number ts), sum_by_number f ts, sum_by-cons f t ts)

pub conserved_by_number : (ts : List Touched) → AreConserved ts → AreConserved (by_number ts)
conserved_by_number ts is = record {
  each = λ b e. sum_by_number (λ (t : Touched). shares_count b e t.before) ts ∙ is.each b e ∙ sym (sum_by_number (λ (t : Touched). shares_count b e t.after) ts);
}

-- ---- staging is dropped

abbrev pub unstaged_all : List ℕ → List (Option (List Share)) → List (Option (List Share))
unstaged_all [] staging = staging
unstaged_all (n ∷ ns) staging = unstaged_all ns (slice_set staging n None)

none_set : (staging : List (Option (List Share))) (m n : ℕ) → staged_at staging n ≡ None → staged_at (slice_set staging m None) n ≡ None
none_set [] m n is = is
none_set (x ∷ xs) zero zero is = refl
none_set (x ∷ xs) zero (suc n) is = is
none_set (x ∷ xs) (suc m) zero is = is
none_set (x ∷ xs) (suc m) (suc n) is = none_set xs m n is

none_kept : (ns : List ℕ) (staging : List (Option (List Share))) (n : ℕ) → staged_at staging n ≡ None → staged_at (unstaged_all ns staging) n ≡ None
none_kept [] staging n is = is
none_kept (m ∷ ms) staging n is = none_kept ms (slice_set staging m None) n (none_set staging m n is)

pub all_unstaged : (ts : List Touched) (staging : List (Option (List Share))) → AllByRecursion (λ (t : Touched). t.seat < length staging) ts → AllByRecursion (λ (t : Touched). staged_at (unstaged_all (seats_of ts) staging) t.seat ≡ None) ts
all_unstaged [] staging made = tt
all_unstaged (t ∷ ts) staging made = (
  none_kept (seats_of ts) (slice_set staging t.seat None) t.seat (read_set staging t.seat None None made.0),
  all_unstaged ts (slice_set staging t.seat None) (longer ts made.1),
)
  where
    longer : (us : List Touched) → AllByRecursion (λ (u : Touched). u.seat < length staging) us → AllByRecursion (λ (u : Touched). u.seat < length (slice_set staging t.seat None)) us
    longer [] all = tt
    longer (u ∷ us) all = (omega (arith, all.0, length_set staging t.seat None), longer us all.1)

pub changing_good : (ns : List ℕ) (w : State) (ms : List Movement) → CanMoveTogether w.rights w.seats (unstaged_all ns w.staging) ms → AreGood w (changing ns ms)
changing_good [] w ms can = (can, tt)
changing_good (n ∷ ns) w ms can = (tt, changing_good ns (record w { staging = slice_set w.staging n None }) ms can)

-- ---- movements

somes_out : (s : ℕ) (part : Share → Content) (rs : List Share) → flat_map (λ r. if_some (to_hand s r (part r))) rs ≡ map (out_move s) (some_shares part rs)
somes_out s part [] = refl
somes_out s part (r ∷ rs) = by (is_nothing (part r)) (somes_out s part rs)
  where
    by : (b : Bool) → flat_map (λ r. if_some (to_hand s r (part r))) rs ≡ map (out_move s) (some_shares part rs) → (if b then [] else to_hand s r (part r) ∷ []) ++ flat_map (λ r. if_some (to_hand s r (part r))) rs ≡ map (out_move s) (if b then some_shares part rs else part_share part r ∷ some_shares part rs)
    by true rest = rest
    by false rest = ap (λ l. to_hand s r (part r) ∷ l) rest

somes_in : (s : ℕ) (part : Share → Content) (rs : List Share) → flat_map (λ r. if_some (from_hand s r (part r))) rs ≡ map (in_move s) (some_shares part rs)
somes_in s part [] = refl
somes_in s part (r ∷ rs) = by (is_nothing (part r)) (somes_in s part rs)
  where
    by : (b : Bool) → flat_map (λ r. if_some (from_hand s r (part r))) rs ≡ map (in_move s) (some_shares part rs) → (if b then [] else from_hand s r (part r) ∷ []) ++ flat_map (λ r. if_some (from_hand s r (part r))) rs ≡ map (in_move s) (if b then some_shares part rs else part_share part r ∷ some_shares part rs)
    by true rest = rest
    by false rest = ap (λ l. from_hand s r (part r) ∷ l) rest

all_out : (ts : List Touched) → flat_map losses_in ts ≡ flat_map outs ts
all_out [] = refl
all_out (t ∷ ts) = ap (λ l. l ++ flat_map losses_in ts) (somes_out t.seat (lost_by t.before) t.after) ∙ ap (λ l. outs t ++ l) (all_out ts)

all_in : (ts : List Touched) → flat_map gains_in ts ≡ flat_map ins ts
all_in [] = refl
all_in (t ∷ ts) = ap (λ l. l ++ flat_map gains_in ts) (somes_in t.seat (gained_by t.before) t.after) ∙ ap (λ l. ins t ++ l) (all_in ts)

pub moves_are : (touched : List Touched) → moves_of touched ≡ carried (by_number touched)
unfolding moves_of
moves_are touched = ap (λ l. l ++ flat_map gains_in (by_number touched)) (all_out (by_number touched)) ∙ ap (λ l. flat_map outs (by_number touched) ++ l) (all_in (by_number touched))
