-- That the seats of each instance stay listed, and that what is staged stays that of open seats.
use Rattle.std.proofs.Common.{◌≡◌, ℕ, zero, suc, ◌+◌, ◌-◌, ◌<◌, ◌==◌, List, [], ◌∷◌, ◌++◌, length, get_or, set, take, Bool, true, false, cond, None, IsSome, Result, Ok, Err, OnOk, OnErr, refl, sym, ◌∙◌, ap, subst, arith}
use Rattle.std.specs.Result.{is_err}
use Rattle.std.proofs.lemmas.Bool.{eq-eqb, eqb-false, eqb-true}
use Rattle.std.proofs.lemmas.Grind.{get_or-set_at}
use Rattle.std.proofs.lemmas.List.{get_or-set_other, get_or-take, get_or_default, length-set, length-take, length_push, take_more}
use Rattle.std.proofs.Math.ListN.{get_or-append}
use Rattle.std.proofs.Math.Seq.{take-length}
use Rattle.ertp_mint.specs.Stocks.{most_made}
use Rattle.proposals.specs.declared.allocations.Share.{Share}
use Rattle.seats.specs.Instances.{list_at}
use Rattle.seats.proofs.Undone.{last_off}
use Rattle.seats.specs.Seats.{IsOpen, SeatView}
use Rattle.seats.specs.Staging.{staged_at}
use Rattle.seats.specs.Store.{AreListed, no_seat, seat_at, seats_from, seats_of}

-- ---- the seats of an instance

pub seats_from-set : (n instance : ℕ) (seats : List SeatView) (k : ℕ) (d s : SeatView) → s.instance ≡ (get_or seats k d).instance → seats_from n instance (set seats k s) ≡ seats_from n instance seats
seats_from-set n instance [] k d s same = refl
seats_from-set n instance (t ∷ ts) zero d s same = ap (λ i. cond (i == instance) (n ∷ seats_from (suc n) instance ts) (seats_from (suc n) instance ts)) same
seats_from-set n instance (t ∷ ts) (suc k) d s same = ap (λ xs. cond (t.instance == instance) (n ∷ xs) xs) (seats_from-set (suc n) instance ts k d s same)

-- with one more
abbrev pub with_number : Bool → ℕ → List ℕ → List ℕ
with_number b n ns = cond b (ns ++ n ∷ []) ns

with_number-cons : (b t : Bool) (m n : ℕ) (ns : List ℕ) → cond t (m ∷ with_number b n ns) (with_number b n ns) ≡ with_number b n (cond t (m ∷ ns) ns)
with_number-cons true true m n ns = refl
with_number-cons false true m n ns = refl
with_number-cons b false m n ns = refl

number_is : (n k : ℕ) → suc n + k ≡ n + suc k
number_is n k = omega arith

pub seats_from-push : (n instance : ℕ) (seats : List SeatView) (s : SeatView) → seats_from n instance (seats ++ s ∷ []) ≡ with_number (s.instance == instance) (n + length seats) (seats_from n instance seats)
seats_from-push n instance [] s = ap (λ m. with_number (s.instance == instance) m []) (no_more n)
  where
    no_more : (m : ℕ) → m ≡ m + 0
    no_more m = omega arith
seats_from-push n instance (t ∷ ts) s =
    ap (λ xs. cond (t.instance == instance) (n ∷ xs) xs) (seats_from-push (suc n) instance ts s ∙ ap (λ m. with_number (s.instance == instance) m (seats_from (suc n) instance ts)) (number_is n (length ts)))
    ∙ with_number-cons (s.instance == instance) (t.instance == instance) n (n + suc (length ts)) (seats_from (suc n) instance ts)

eqb-turned : (a b : ℕ) → (a == b) ≡ (b == a)
eqb-turned a b = by (b == a) refl
  where
    by : (t : Bool) → (b == a) ≡ t → (a == b) ≡ t
    by true e = eq-eqb a b (sym (eqb-true b a e))
    by false e = not_eqb (a == b) refl
      where
        not_eqb : (t : Bool) → (a == b) ≡ t → t ≡ false
        not_eqb true f = absurd (eqb-false b a e (sym (eqb-true a b f)))
        not_eqb false f = refl

-- ---- another seat in the place of one

opens_at : (seats : List SeatView) (n m : ℕ) (new : SeatView) → n < length seats → (IsOpen (seat_at seats n) → IsOpen new) → IsOpen (seat_at seats m) → IsOpen (seat_at (set seats n new) m)
opens_at seats n m new within opens open_now = by (m == n) refl
  where
    by : (t : Bool) → (m == n) ≡ t → IsOpen (seat_at (set seats n new) m)
    by true e =
        let same : m ≡ n = eqb-true m n e in
        subst IsOpen (sym (get_or-set_at seats n m new no_seat same within)) (opens (subst (λ (k : ℕ). IsOpen (seat_at seats k)) same open_now))
    by false e = subst IsOpen (sym (get_or-set_other seats n m new no_seat (eqb-false m n e))) open_now

pub listed-set : (seats : List SeatView) (lists : List (ℕ × List ℕ)) (staging : List (ℕ × List Share)) (n : ℕ) (old new : SeatView) → n < length seats → old ≡ get_or seats n old → new.instance ≡ old.instance → (IsOpen old → IsOpen new)
    → AreListed seats lists staging → AreListed (set seats n new) lists staging
listed-set seats lists staging n old new within is same opens listed =
    let here : seat_at seats n ≡ old = get_or_default seats n no_seat old within ∙ sym is in
    record {
      few = omega (arith, length-set seats n new, listed.few);
      listed = λ i. listed.listed i ∙ sym (seats_from-set 0 i seats n old new (same ∙ ap (λ (s : SeatView). s.instance) is));
      staged = record {
        made = λ m h. omega (arith, length-set seats n new, listed.staged.made m h);
        is_open = λ m h. opens_at seats n m new within (λ o. opens (subst IsOpen here o)) (listed.staged.is_open m h);
      };
    }

-- a seat closed: nothing is staged of it any more
pub listed-close : (seats : List SeatView) (lists : List (ℕ × List ℕ)) (before after : List (ℕ × List Share)) (n : ℕ) (old new : SeatView) → old ≡ get_or seats n old → new.instance ≡ old.instance
    → ((m : ℕ) → staged_at m after ≡ cond (n == m) None (staged_at m before)) → AreListed seats lists before → AreListed (set seats n new) lists after
listed-close seats lists before after n old new is same looks listed = record {
  few = omega (arith, length-set seats n new, listed.few);
  listed = λ i. listed.listed i ∙ sym (seats_from-set 0 i seats n old new (same ∙ ap (λ (s : SeatView). s.instance) is));
  staged = record {
    made = λ m h. omega (arith, length-set seats n new, listed.staged.made m (kept (n == m) m (subst IsSome (looks m) h)));
    is_open = λ m h. open_at m (n == m) refl (subst IsSome (looks m) h);
  };
}
  where
    kept : (t : Bool) (m : ℕ) → IsSome (cond t None (staged_at m before)) → IsSome (staged_at m before)
    kept true m h = absurd (cc)
    kept false m h = h

    open_at : (m : ℕ) (t : Bool) → (n == m) ≡ t → IsSome (cond t None (staged_at m before)) → IsOpen (seat_at (set seats n new) m)
    open_at m true e h = absurd (cc)
    open_at m false e h = subst IsOpen (sym (get_or-set_other seats n m new no_seat (λ same. eqb-false n m e (sym same)))) (listed.staged.is_open m h)

-- ---- one seat more, and one less

pub listed-push : (seats : List SeatView) (before after : List (ℕ × List ℕ)) (staging : List (ℕ × List Share)) (n : ℕ) (new : SeatView) → n ≡ length seats → length seats < most_made
    → ((i : ℕ) → list_at after i ≡ cond (i == new.instance) (list_at before i ++ n ∷ []) (list_at before i)) → AreListed seats before staging → AreListed (seats ++ new ∷ []) after staging
listed-push seats before after staging n new number room looks listed = record {
  few = omega (arith, length_push seats new, room);
  listed = λ i. looks i ∙ with_one i ∙ sym (seats_from-push 0 i seats new);
  staged = record {
    made = λ m h. omega (arith, length_push seats new, listed.staged.made m h);
    is_open = λ m h. subst IsOpen (sym (get_or-append seats (new ∷ []) no_seat m (listed.staged.made m h))) (listed.staged.is_open m h);
  };
}
  where
    no_shift : n ≡ 0 + length seats
    no_shift = omega (arith, number)

    with_one : (i : ℕ) → cond (i == new.instance) (list_at before i ++ n ∷ []) (list_at before i) ≡ with_number (new.instance == i) (0 + length seats) (seats_of i seats)
    with_one i =
        ap (λ xs. with_number (i == new.instance) n xs) (listed.listed i)
        ∙ ap (λ k. with_number (i == new.instance) k (seats_of i seats)) no_shift
        ∙ ap (λ b. with_number b (0 + length seats) (seats_of i seats)) (eqb-turned i new.instance)

pub listed-same : (seats : List SeatView) (before after : List (ℕ × List ℕ)) (staging : List (ℕ × List Share)) → ((i : ℕ) → list_at after i ≡ list_at before i) → AreListed seats before staging → AreListed seats after staging
listed-same seats before after staging same listed = record { few = listed.few; listed = λ i. same i ∙ listed.listed i; staged = listed.staged }

-- a list whose last was taken off after it was put on
pub pushed_off : (b : Bool) (ns ms os : List ℕ) (n : ℕ) → ms ≡ with_number b n ns → os ≡ cond b (take (length ms - 1) ms) ms → os ≡ ns
pushed_off b ns ms os n push pop = pop ∙ ap (λ xs. cond b (take (length xs - 1) xs) xs) push ∙ by b
  where
    by : (t : Bool) → cond t (take (length (with_number t n ns) - 1) (with_number t n ns)) (with_number t n ns) ≡ ns
    by true = last_off ns n
    by false = refl

pub listed-pop : (seats : List SeatView) (before after : List (ℕ × List ℕ)) (was now : List (ℕ × List Share)) (n instance : ℕ) → n + 1 ≡ length seats → instance ≡ (seat_at seats n).instance
    → ((i : ℕ) → list_at after i ≡ cond (i == instance) (take (length (list_at before i) - 1) (list_at before i)) (list_at before i))
    → ((m : ℕ) → staged_at m now ≡ cond (n == m) None (staged_at m was)) → AreListed seats before was → AreListed (take n seats) after now
listed-pop seats before after was now n instance last is looks staged listed = record {
  few = omega (arith, length-take n seats, listed.few);
  listed = λ i. pushed_off (i == instance) (seats_of i front) (list_at before i) (list_at after i) (0 + length front) (was_pushed i) (looks i);
  staged = record {
    made = λ m h. made_at m (n == m) refl (subst IsSome (staged m) h);
    is_open = λ m h. open_at m (n == m) refl (subst IsSome (staged m) h);
  };
}
  where
    front : List SeatView
    front = take n seats

    whole : seats ≡ front ++ seat_at seats n ∷ []
    whole = sym (take-length seats) ∙ ap (λ k. take k seats) (sym last) ∙ take_more seats n no_seat (omega (arith, last))

    was_pushed : (i : ℕ) → list_at before i ≡ with_number (i == instance) (0 + length front) (seats_of i front)
    was_pushed i = listed.listed i ∙ ap (seats_of i) whole ∙ seats_from-push 0 i front (seat_at seats n) ∙ ap (λ b. with_number b (0 + length front) (seats_of i front)) (ap (λ k. k == i) (sym is) ∙ eqb-turned instance i)

    made_within : (m : ℕ) → (n == m) ≡ false → IsSome (staged_at m was) → m < n
    made_within m e h = omega (arith, listed.staged.made m h, eqb-false n m e, last)

    made_at : (m : ℕ) (t : Bool) → (n == m) ≡ t → IsSome (cond t None (staged_at m was)) → m < length front
    made_at m true e h = absurd (cc)
    made_at m false e h = omega (arith, length-take n seats, made_within m e h, last)

    open_at : (m : ℕ) (t : Bool) → (n == m) ≡ t → IsSome (cond t None (staged_at m was)) → IsOpen (seat_at front m)
    open_at m true e h = absurd (cc)
    open_at m false e h = subst IsOpen (sym (get_or-take n seats m no_seat (made_within m e h))) (listed.staged.is_open m h)

-- what holds either way holds
pub on_both : {T E P Q R : Type 0} (r : Result T E) → (P → R) → (Q → R) → OnOk r P → OnErr r Q → R
on_both (Ok x) f g p q = f p
on_both (Err e) f g p q = g q

pub ok_of : {T E P : Type 0} (r : Result T E) → false ≡ is_err r → OnOk r P → P
ok_of (Ok x) e h = h
ok_of (Err x) e h = absurd (cc)
