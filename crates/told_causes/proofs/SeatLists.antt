-- Seats by their numbers, where one is added or each is changed.
use Rattle.std.proofs.Common.{◌≡◌, ◌≢◌, ℕ, zero, suc, true, List, [], ◌∷◌, ◌++◌, length, map, Some, refl, sym, ap, ◌∙◌, arith}
use Rattle.std.specs.List.{slice_get}
use Rattle.std.specs.Option.{option_map}
use Rattle.std.proofs.lemmas.Option.{slice_get-map}
use Rattle.row_records.specs.fair_rows.Seats.{Seat}
use Rattle.told_causes.specs.ToldCauses.{IsNumberedSeat, IsSeatOf, KeepsSeats, waits}
use Rattle.told_causes.specs.declared.standings.Standings.{Standings}

module _ {X : Type 0} where
  pub get_more : (xs : List X) (i : ℕ) (x y : X) → slice_get xs i ≡ Some x → slice_get (xs ++ y ∷ []) i ≡ Some x
  get_more [] i x y h = cc
  get_more (z ∷ xs) zero x y h = h
  get_more (z ∷ xs) (suc i) x y h = get_more xs i x y h

  pub get_last : (xs : List X) (i : ℕ) (y : X) → i ≡ length xs → slice_get (xs ++ y ∷ []) i ≡ Some y
  get_last [] zero y is = refl
  get_last [] (suc i) y is = absurd (omega arith)
  get_last (z ∷ xs) zero y is = absurd (omega arith)
  get_last (z ∷ xs) (suc i) y is = get_last xs i y (omega arith)

  pub get_before : (xs : List X) (i : ℕ) (x y : X) → slice_get (xs ++ y ∷ []) i ≡ Some x → i ≢ length xs → slice_get xs i ≡ Some x
  get_before [] zero x y h apart = absurd (apart refl)
  get_before [] (suc i) x y h apart = cc
  get_before (z ∷ xs) zero x y h apart = h
  get_before (z ∷ xs) (suc i) x y h apart = get_before xs i x y h (λ e. apart (ap suc e))

  pub get_in : {Y : Type 0} (f : X → Y) (xs : List X) (i : ℕ) (y : Y) → slice_get (map f xs) i ≡ Some y → (x : X) × (slice_get xs i ≡ Some x) × (f x ≡ y)
  get_in f [] i y h = cc
  get_in f (x ∷ xs) zero y h = (x, refl, cc)
  get_in f (x ∷ xs) (suc i) y h = get_in f xs i y h

pub length_changed : (f : Seat → Seat) (ss : List Seat) → length (map f ss) ≡ length ss
length_changed f [] = refl
length_changed f (s ∷ ss) = ap suc (length_changed f ss)

instances_same : (f : Seat → Seat) → ((s : Seat) → (f s).opening ≡ s.opening) → (ss : List Seat) → map (λ (s : Seat). s.opening.instance) (map f ss) ≡ map (λ (s : Seat). s.opening.instance) ss
instances_same f keeps [] = refl
instances_same f keeps (s ∷ ss) =
    ap (λ (n : ℕ). n ∷ map (λ (s : Seat). s.opening.instance) (map f ss)) (ap (λ o. o.instance) (keeps s)) ∙ ap (λ (ns : List ℕ). s.opening.instance ∷ ns) (instances_same f keeps ss)

-- each seat keeps its opening, and fewer wait
pub keeps_changed : (old new : Standings) (f : Seat → Seat) (seats : List Seat) → ((s : Seat) → (f s).opening ≡ s.opening) → KeepsSeats old seats → new.instances.items ≡ old.instances.items
    → ((m n : ℕ) → waits new m n ≡ true → waits old m n ≡ true) → KeepsSeats new (map f seats)
keeps_changed old new f seats keeps kept instances fewer = record { numbered = numbered; instances = instances ∙ kept.instances ∙ sym (instances_same f keeps seats); waiting = waiting }
  where
    numbered : (n : ℕ) (s : Seat) → slice_get (map f seats) n ≡ Some s → IsNumberedSeat n s
    numbered n s is =
        let was = get_in f seats n s is in
        let old_is = kept.numbered n was.0 was.1 in
        let same : was.0.opening ≡ s.opening = sym (keeps was.0) ∙ ap (λ (t : Seat). t.opening) was.2 in
        record { number = ap (λ o. o.seat) (sym same) ∙ old_is.number; below = old_is.below; instance = rw (← same) old_is.instance }

    waiting : (m n : ℕ) → waits new m n ≡ true → IsSeatOf (map f seats) m n
    waiting m n w =
        let was = kept.waiting m n (fewer m n w) in
        record {
          seat = f was.seat;
          was_opened = slice_get-map f seats n ∙ ap (option_map f) was.was_opened;
          of_instance = ap (λ o. o.instance) (keeps was.seat) ∙ was.of_instance;
        }
