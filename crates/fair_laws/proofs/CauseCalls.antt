-- A call that is answered shows the causes of the seats that it leaves, and of no other open seat.
use Rattle.std.specs.Prelude.{◌≡◌, ◌≢◌, ◌+◌, ◌^◌, ◌==◌, ◌&&◌, ◌||◌, ◌<◌, ◌++◌, ℕ, zero, suc, Bool, true, false, List, [], ◌∷◌, Option, Some, None, codes, decimal, is_none, length, map, refl, cond}
use Rattle.std.specs.Str.{bytes_eq}
use Rattle.std.specs.Str.Parse.{digits_value}
use Rattle.std.proofs.Common.{sym, ◌∙◌, ap, arith}
use Rattle.std.proofs.lemmas.Bool.{eq-eqb, ne_eqb}
use Rattle.std.proofs.lemmas.Slice.Eq.{bytes_eq-Decides}
use Rattle.delivery_laws.specs.rules.Traces.{Departure, all_halted, departure, departures_by, one_left, open_from}
use Rattle.delivery_laws.specs.turn_records.Names.{object_name}
use Rattle.fair_laws.specs.Places.{rows_of}
use Rattle.fair_laws.proofs.Rows.{rows_append}
use Rattle.fair_rows.specs.ExitCauses.{cause_by_calls, cause_if, cause_of_call, either, name, while_open}
use Rattle.delivery_laws.specs.host_data.declared.data.Obj.{Obj}
use Rattle.delivery_laws.specs.host_data.declared.data.ObjKind.{ObjKind}
use Rattle.delivery_laws.specs.host_data.declared.data.ObjKind.TheVariants as kinds
use Rattle.delivery_laws.specs.turn_records.Events as events
use Rattle.delivery_laws.specs.turn_records.Printed.{printed_call}
use Rattle.fair_rows.proofs.turn_rows.Names.{value-decimal}
use Rattle.fair_rows.specs.turn_rows.Causes as causes
use Rattle.fair_rows.specs.turn_rows.Causes.{Cause}
use Rattle.fair_rows.specs.turn_rows.Turns as rows
use Rattle.delivery_laws.specs.host_data.Tree.{Tree}
use Rattle.delivery_laws.proofs.world_laws.Lists.{all_append}
use Rattle.delivery_laws.specs.world_state.Worlds.{IsOpen, Seat, State, after, note_call, seat_at}
use Rattle.fair_laws.specs.Owed.{IsLeft, OpensBelow, Owes, Tells, answered, cause_in}
use Rattle.fair_laws.proofs.Owing.{other_number, same_number}
use Rattle.fair_laws.proofs.Exited.{left_rows}
use Rattle.fair_laws.proofs.Shown.{either_none, shown_more}

-- ---- names of numbers

numbers_apart : (k n : ℕ) → k < 2 ^ 128 → n < 2 ^ 128 → k ≢ n → bytes_eq (decimal k) (decimal n) ≡ false
numbers_apart k n k_wide n_wide apart = by (bytes_eq (decimal k) (decimal n)) refl
  where
    by : (c : Bool) → bytes_eq (decimal k) (decimal n) ≡ c → bytes_eq (decimal k) (decimal n) ≡ false
    by false is = is
    by true is = absurd (apart (sym (value-decimal k k_wide) ∙ ap (digits_value 10) ((bytes_eq-Decides (decimal k) (decimal n)).0 is) ∙ value-decimal n n_wide))

number_is : (k n : ℕ) → k < 2 ^ 128 → n < 2 ^ 128 → bytes_eq (decimal k) (decimal n) ≡ (n == k)
number_is k n k_wide n_wide = by (n == k) refl
  where
    by : (c : Bool) → (n == k) ≡ c → bytes_eq (decimal k) (decimal n) ≡ (n == k)
    by true is = (bytes_eq-Decides (decimal k) (decimal n)).1 (ap decimal (sym (same_number n k is))) ∙ sym is
    by false is = numbers_apart k n k_wide n_wide (λ e. other_number n k is (sym e)) ∙ sym is

same_tests : (k n : ℕ) → (n == k) ≡ (k == n)
same_tests k n = by (n == k) refl
  where
    by : (c : Bool) → (n == k) ≡ c → (n == k) ≡ (k == n)
    by true is = is ∙ sym (eq-eqb k n (sym (same_number n k is)))
    by false is = is ∙ sym (ne_eqb k n (λ e. other_number n k is (sym e)))

seat_named : (k n : ℕ) → k < 2 ^ 128 → n < 2 ^ 128 → bytes_eq (codes "zseat" ++ decimal k) (name (codes "zseat") n) ≡ (k == n)
seat_named k n k_wide n_wide = number_is k n k_wide n_wide ∙ same_tests k n

zcf_named : (k n : ℕ) → k < 2 ^ 128 → n < 2 ^ 128 → bytes_eq (codes "zcf" ++ decimal k) (name (codes "zcf") n) ≡ (n == k)
zcf_named k n k_wide n_wide = number_is k n k_wide n_wide

-- ---- causes that a call shows

-- by whether its target is the seat, and the zcf of its instance, and which method it is
shape : Bool → Bool → Bool → Bool → Bool → Bool → Option Cause
shape seat zcf is_exit is_fail down failing =
    either (either (cause_if (seat && is_exit) causes.exit) (cause_if (seat && is_fail) causes.fail)) (cause_if (zcf && down || zcf && failing) causes.halted)

shape_of : (o : Obj) (m : List ℕ) (args : List Tree) (answer : Tree) (i n : ℕ) →
    cause_of_call i n (printed_call (answered o m args answer))
    ≡ shape (bytes_eq (object_name o) (name (codes "zseat") n)) (bytes_eq (object_name o) (name (codes "zcf") i)) (bytes_eq m (codes "exit")) (bytes_eq m (codes "fail")) (bytes_eq m (codes "shutdown")) (bytes_eq m (codes "shutdownWithFailure"))
unfolding shape
shape_of o m args answer i n = refl

-- of another object no call shows one
none_shown : (e f s t : Bool) → shape false false e f s t ≡ None
unfolding shape
none_shown e f s t = refl

left_shown : (k n : ℕ) (e f : Bool) → cause_in n (cond e (one_left k causes.exit) (cond f (one_left k causes.fail) [])) ≡ cond e (cond (k == n) (Some causes.exit) None) (cond f (cond (k == n) (Some causes.fail) None) None)
left_shown k n true f = refl
left_shown k n false true = refl
left_shown k n false false = refl

shown_as : (q e f s t : Bool) → shape q false e f s t ≡ cond e (cond q (Some causes.exit) None) (cond f (cond q (Some causes.fail) None) None)
unfolding shape
shown_as true true f s t = refl
shown_as true false true s t = refl
shown_as true false false s t = refl
shown_as false true f s t = refl
shown_as false false true s t = refl
shown_as false false false s t = refl

seat_shown : (k n : ℕ) (e f s t : Bool) → shape (k == n) false e f s t ≡ cause_in n (cond e (one_left k causes.exit) (cond f (one_left k causes.fail) []))
seat_shown k n e f s t = shown_as (k == n) e f s t ∙ sym (left_shown k n e f)

zcf_shown : (q e f s t : Bool) → shape false q e f s t ≡ cond (s || t) (cond q (Some causes.halted) None) None
unfolding shape
zcf_shown true e f true t = refl
zcf_shown true e f false true = refl
zcf_shown true e f false false = refl
zcf_shown false e f true t = refl
zcf_shown false e f false true = refl
zcf_shown false e f false false = refl

-- ---- seats of an instance that shuts down

none_below : (k : ℕ) (ss : List Seat) (p n : ℕ) → n < p → cause_in n (map (λ seat. departure seat causes.halted) (open_from p k ss)) ≡ None
none_below k [] p n lt = refl
none_below k (s ∷ ss) p n lt = by ((s.instance == k) && is_none s.last) (none_below k ss (suc p) n (omega (arith, lt)))
  where
    others : List Departure
    others = map (λ seat. departure seat causes.halted) (open_from (suc p) k ss)

    by : (c : Bool) → cause_in n (map (λ seat. departure seat causes.halted) (open_from (suc p) k ss)) ≡ None → cause_in n (map (λ seat. departure seat causes.halted) (cond c (p ∷ open_from (suc p) k ss) (open_from (suc p) k ss))) ≡ None
    by true rest = ap (λ c. cond c (Some causes.halted) (cause_in n (map (λ seat. departure seat causes.halted) (open_from (suc p) k ss)))) (ne_eqb p n (λ e. omega (arith, lt, e))) ∙ rest
    by false rest = rest

halted_shown : (k : ℕ) (ss : List Seat) (p j n : ℕ) → p + j ≡ n → IsOpen (seat_at ss j) → cause_in n (map (λ seat. departure seat causes.halted) (open_from p k ss)) ≡ cond ((seat_at ss j).instance == k) (Some causes.halted) None
halted_shown k [] p j n is opens = cc
halted_shown k (s ∷ ss) p zero n is opens = ap (λ x. cause_in n (map (λ seat. departure seat causes.halted) (cond ((s.instance == k) && is_none x) (p ∷ open_from (suc p) k ss) (open_from (suc p) k ss)))) opens ∙ by (s.instance == k)
  where
    by : (c : Bool) → cause_in n (map (λ seat. departure seat causes.halted) (cond (c && true) (p ∷ open_from (suc p) k ss) (open_from (suc p) k ss))) ≡ cond c (Some causes.halted) None
    by true = ap (λ c. cond c (Some causes.halted) (cause_in n (map (λ seat. departure seat causes.halted) (open_from (suc p) k ss)))) (eq-eqb p n (omega (arith, is)))
    by false = none_below k ss (suc p) n (omega (arith, is))
halted_shown k (s ∷ ss) p (suc j) n is opens = by ((s.instance == k) && is_none s.last) (halted_shown k ss (suc p) j n (omega (arith, is)) opens)
  where
    by : (c : Bool) → cause_in n (map (λ seat. departure seat causes.halted) (open_from (suc p) k ss)) ≡ cond ((seat_at ss j).instance == k) (Some causes.halted) None → cause_in n (map (λ seat. departure seat causes.halted) (cond c (p ∷ open_from (suc p) k ss) (open_from (suc p) k ss))) ≡ cond ((seat_at ss j).instance == k) (Some causes.halted) None
    by true rest = ap (λ c. cond c (Some causes.halted) (cause_in n (map (λ seat. departure seat causes.halted) (open_from (suc p) k ss)))) (ne_eqb p n (λ e. omega (arith, is, e))) ∙ rest
    by false rest = rest

-- ---- what a call shows is what it leaves

module _ (w : State) (m : List ℕ) (args : List Tree) (answer : Tree) (n : ℕ) (at : IsOpen (seat_at w.seats n)) where
  abbrev here : ℕ
  here = (seat_at w.seats n).instance

  abbrev by_name : Obj → Bool → Bool → Option Cause
  by_name o seat zcf = shape seat zcf (bytes_eq m (codes "exit")) (bytes_eq m (codes "fail")) (bytes_eq m (codes "shutdown")) (bytes_eq m (codes "shutdownWithFailure"))

  -- of these names none is a seat's or a zcf's
  another : (o : Obj) → bytes_eq (object_name o) (name (codes "zseat") n) ≡ false → bytes_eq (object_name o) (name (codes "zcf") here) ≡ false → cause_of_call here n (printed_call (answered o m args answer)) ≡ None
  another o no_seat no_zcf =
      shape_of o m args answer here n
      ∙ ap (λ b. by_name o b (bytes_eq (object_name o) (name (codes "zcf") here))) no_seat
      ∙ ap (λ b. by_name o false b) no_zcf
      ∙ none_shown (bytes_eq m (codes "exit")) (bytes_eq m (codes "fail")) (bytes_eq m (codes "shutdown")) (bytes_eq m (codes "shutdownWithFailure"))

  object : ObjKind → ℕ → Obj
  object kind k = record { kind = kind; number = k }

  shows_what_it_leaves : (kind : ObjKind) (k : ℕ) → Tells w (record { kind = kind; number = k }) m → cause_of_call here n (printed_call (answered (record { kind = kind; number = k }) m args answer)) ≡ cause_in n (departures_by w (record { kind = kind; number = k }) m)
  unfolding object_name
  shows_what_it_leaves kinds.Zseat k tells =
      let o : Obj = record { kind = kinds.Zseat; number = k } in
      shape_of o m args answer here n
      ∙ ap (λ b. by_name o b false) (seat_named k n tells.number (tells.seats n at))
      ∙ seat_shown k n (bytes_eq m (codes "exit")) (bytes_eq m (codes "fail")) (bytes_eq m (codes "shutdown")) (bytes_eq m (codes "shutdownWithFailure"))
  shows_what_it_leaves kinds.Zcf k tells =
      let o : Obj = record { kind = kinds.Zcf; number = k } in
      shape_of o m args answer here n
      ∙ ap (λ b. by_name o false b) (zcf_named k here tells.number (tells.instances n at))
      ∙ zcf_shown (here == k) (bytes_eq m (codes "exit")) (bytes_eq m (codes "fail")) (bytes_eq m (codes "shutdown")) (bytes_eq m (codes "shutdownWithFailure"))
      ∙ all_left (bytes_eq m (codes "shutdown") || bytes_eq m (codes "shutdownWithFailure")) (halted_shown k w.seats 0 n n (omega arith) at)
    where
      all_left : (c : Bool) → cause_in n (all_halted w k) ≡ cond (here == k) (Some causes.halted) None → cond c (cond (here == k) (Some causes.halted) None) None ≡ cause_in n (cond c (all_halted w k) [])
      all_left true is = sym is
      all_left false is = refl
  shows_what_it_leaves kinds.Seat k tells = absurd tells.on
  shows_what_it_leaves kind k tells = another (record { kind = kind; number = k }) refl refl

pub owes_called : (w : State) (o : Obj) (m : List ℕ) (args : List Tree) (answer : Tree) → Tells w o m → Owes w [] → Owes (after w (note_call (answered o m args answer))) (departures_by w o m)
owes_called w o m args answer tells owes = record {
  shown = λ n opens.
      let i = (seat_at w.seats n).instance in
      let row = rows.called (printed_call (answered o m args answer)) in
      ap (λ l. cause_by_calls i n (while_open n l)) (rows_append w.log (events.called (answered o m args answer) ∷ []))
      ∙ shown_more i n (rows_of w.log) (row ∷ []) refl (left_rows w.seats n opens w.log owes.left)
      ∙ ap (λ x. either x (cause_by_calls i n (row ∷ []))) (owes.shown n opens)
      ∙ either_none (cause_of_call i n (printed_call (answered o m args answer)))
      ∙ shows_what_it_leaves w m args answer n opens o.kind o.number tells;
  made = tells.made;
  opened = all_append (OpensBelow (length w.seats)) w.log (events.called (answered o m args answer) ∷ []) owes.opened (tt, tt);
  left = all_append (IsLeft w.seats) w.log (events.called (answered o m args answer) ∷ []) owes.left (tt, tt);
}
