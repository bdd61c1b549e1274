-- The open seats of an instance are those of its seats that are open.
use Rattle.std.specs.Prelude.{◌==◌, ◌&&◌, filter, is_none}
use Rattle.std.proofs.Common.{◌≡◌, ℕ, zero, suc, ◌+◌, ◌<◌, Bool, true, false, cond, List, [], ◌∷◌, length, map, refl, sym, ap, ◌∙◌, subst, arith, ◌++◌, add-one, append_assoc, drop, drop-cons, slice_index_or}
use Rattle.std.specs.List.{AllByRecursion}
use Rattle.host_world.proofs.draft_reads.WorldLists.{seats_counted}
use Rattle.rules.specs.turn_rows.Causes.{Cause}
use Rattle.rules.specs.Traces.{open_from}
use Rattle.rules.specs.vault_model.Seats.{KeptSeat}
use Rattle.host_world.specs.world_laws.Views.{seat_of}
use Rattle.host_world.specs.seats.Seats.{SeatView}
use Rattle.host_world.specs.seats.Store.{seats_from, seats_of}
use Rattle.host_world.specs.vault.Memory.{kept_seat}
use Rattle.rules.specs.world_state.Worlds.{Effect, Seat, exit, seat_at}

-- the seats as the world has them
abbrev pub world_seats : List SeatView → List Seat
world_seats ss = map seat_of (map kept_seat ss)

abbrev pub is_open_at : List Seat → ℕ → Bool
is_open_at seats n = is_none (seat_at seats n).last

open_seats_from : (all : List Seat) (i m : ℕ) (ss : List SeatView) → ((k : ℕ) → k < length ss → seat_at all (m + k) ≡ seat_at (world_seats ss) k) → filter (is_open_at all) (seats_from m i ss) ≡ open_from m i (world_seats ss)
open_seats_from all i m [] at = refl
open_seats_from all i m (s ∷ ss) at = by (s.instance == i) (is_none s.last) here (open_seats_from all i (suc m) ss next)
  where
    here : is_open_at all m ≡ is_none s.last
    here =
        let same : m + 0 ≡ m = omega arith in
        ap (is_open_at all) (sym same) ∙ ap (λ (t : Seat). is_none t.last) (at 0 (omega arith))

    next : (k : ℕ) → k < length ss → seat_at all (suc m + k) ≡ seat_at (world_seats ss) k
    next k lt =
        let same : suc m + k ≡ m + suc k = omega arith in
        ap (seat_at all) same ∙ at (suc k) (omega (arith, lt))

    by : (b o : Bool) → is_open_at all m ≡ o
        → filter (is_open_at all) (seats_from (suc m) i ss) ≡ open_from (suc m) i (world_seats ss)
        → filter (is_open_at all) (cond b (m ∷ seats_from (suc m) i ss) (seats_from (suc m) i ss)) ≡ cond (b && o) (m ∷ open_from (suc m) i (world_seats ss)) (open_from (suc m) i (world_seats ss))
    by true true e rest = ap (λ t. cond t (m ∷ filter (is_open_at all) (seats_from (suc m) i ss)) (filter (is_open_at all) (seats_from (suc m) i ss))) e ∙ ap (λ l. m ∷ l) rest
    by true false e rest = ap (λ t. cond t (m ∷ filter (is_open_at all) (seats_from (suc m) i ss)) (filter (is_open_at all) (seats_from (suc m) i ss))) e ∙ rest
    by false o e rest = rest

pub open_seats : (ss : List SeatView) (seats : List KeptSeat) (i : ℕ) → map kept_seat ss ≡ seats → filter (is_open_at (map seat_of seats)) (seats_of i ss) ≡ open_from 0 i (map seat_of seats)
open_seats ss seats i is = subst (λ (ks : List KeptSeat). filter (is_open_at (map seat_of ks)) (seats_of i ss) ≡ open_from 0 i (map seat_of ks)) is
    (open_seats_from (world_seats ss) i 0 ss (λ k lt. let same : 0 + k ≡ k = omega arith in ap (seat_at (world_seats ss)) same))

-- ---- their numbers are of seats that were made

made_from : (i m n : ℕ) (ss : List SeatView) → m + length ss ≡ n → AllByRecursion (λ k. k < n) (seats_from m i ss)
made_from i m n [] is = tt
made_from i m n (s ∷ ss) is = by (s.instance == i) (made_from i (suc m) n ss (omega (arith, is)))
  where
    by : (b : Bool) → AllByRecursion (λ k. k < n) (seats_from (suc m) i ss) → AllByRecursion (λ k. k < n) (cond b (m ∷ seats_from (suc m) i ss) (seats_from (suc m) i ss))
    by true rest = (omega (arith, is), rest)
    by false rest = rest

number_at : (n : ℕ) (ns : List ℕ) (j : ℕ) → AllByRecursion (λ k. k < n) ns → j < length ns → slice_index_or ns j 0 < n
number_at n [] j all past = absurd (omega (arith, past))
number_at n (m ∷ ns) zero all past = all.0
number_at n (m ∷ ns) (suc j) all past = number_at n ns j all.1 (omega (arith, past))

pub number_made : (ss : List SeatView) (seats : List KeptSeat) (i j : ℕ) (ns : List ℕ) → map kept_seat ss ≡ seats → ns ≡ seats_of i ss → j < length ns → slice_index_or ns j 0 < length (map seat_of seats)
number_made ss seats i j ns is are past =
    let made : AllByRecursion (λ k. k < length ss) ns = subst (AllByRecursion (λ k. k < length ss)) (sym are) (made_from i 0 (length ss) ss (omega arith)) in
    let many : length (map seat_of seats) ≡ length ss = ap (λ (ks : List KeptSeat). length (map seat_of ks)) (sym is) ∙ seats_counted ss in
    subst (λ n. slice_index_or ns j 0 < n) (sym many) (number_at (length ss) ns j made past)

-- ---- one after another

-- seats are left with a cause
abbrev pub exits_for : Cause → List ℕ → List Effect
exits_for cause ns = map (λ n. exit n cause) ns

next_exit : (all : List Seat) (cause : Cause) (n : ℕ) (ns : List ℕ) → exits_for cause (filter (is_open_at all) (n ∷ ns)) ≡ cond (is_open_at all n) (exit n cause ∷ []) [] ++ exits_for cause (filter (is_open_at all) ns)
next_exit all cause n ns = by (is_open_at all n)
  where
    by : (b : Bool) → exits_for cause (cond b (n ∷ filter (is_open_at all) ns) (filter (is_open_at all) ns)) ≡ cond b (exit n cause ∷ []) [] ++ exits_for cause (filter (is_open_at all) ns)
    by true = refl
    by false = refl

-- what was added, with what is left to add, is all
pub one_more : (all : List Seat) (cause : Cause) (vs us es : List Effect) (ns : List ℕ) (j : ℕ) → j < length ns
    → vs ++ exits_for cause (filter (is_open_at all) (drop j ns)) ≡ es
    → us ≡ vs ++ cond (is_open_at all (slice_index_or ns j 0)) (exit (slice_index_or ns j 0) cause ∷ []) []
    → us ++ exits_for cause (filter (is_open_at all) (drop (j + 1) ns)) ≡ es
one_more all cause vs us es ns j past so_far added =
    let n = slice_index_or ns j 0 in
    let rest = exits_for cause (filter (is_open_at all) (drop (j + 1) ns)) in
    let opened : drop j ns ≡ n ∷ drop (j + 1) ns = rw (add-one) (drop-cons ns j 0 past) in
    ap (λ ws. ws ++ rest) added
    ∙ append_assoc vs (cond (is_open_at all n) (exit n cause ∷ []) []) rest
    ∙ ap (λ ws. vs ++ ws) (sym (next_exit all cause n (drop (j + 1) ns)))
    ∙ ap (λ ms. vs ++ exits_for cause (filter (is_open_at all) ms)) (sym opened)
    ∙ so_far
