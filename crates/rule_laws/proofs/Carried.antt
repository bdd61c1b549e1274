-- A rearrangement of what several seats have can be carried out.
use Rattle.std.specs.Prelude.{IsSome, flat_map, map}
use Rattle.std.specs.List.{AllByRecursion}
use Rattle.std.proofs.Common.{◌≡◌, ◌≢◌, ◌⊎◌, ℕ, ◌+◌, ◌<◌, ◌≤◌, List, [], ◌∷◌, ◌++◌, length, Option, None, inl, inr, refl, sym, ap, subst, ◌∙◌, arith}
use Rattle.std.proofs.lemmas.Bool.{cases_eq, false≢true}
use Rattle.std.proofs.lemmas.List.Sums.{sum_by-cons}
use Rattle.world_laws.specs.amount_math.Content.{Content, count, count-nothing}
use Rattle.rules.specs.call_arguments.Numbers.{AreApart, IsNoneOf}
use Rattle.world_laws.specs.ertp_mint.Stocks.{most_made}
use Rattle.world_laws.proofs.lemmas.ListEdits.{length_set, read_other, read_set}
use Rattle.rules.specs.holders.PaymentViews.{PaymentView}
use Rattle.rules.specs.rearrange.Moves.{gained_by, lost_by}
use Rattle.rules.specs.proposals.OfferSafety.{IsOfferSafe}
use Rattle.rules.specs.proposals.declared.allocations.Share.{Share}
use Rattle.rules.specs.proposals.declared.plans.Touched.{Touched}
use Rattle.rules.specs.rearrange.Sums.{AreConserved, count_after, count_before, shares_count}
use Rattle.world_laws.specs.rights_model.declared.Movement.{Movement}
use Rattle.world_laws.specs.vault_model.Tables.{no_hand}
use Rattle.world_laws.proofs.Lists as lists
use Rattle.world_laws.proofs.Lists.{all_map}
use Rattle.world_laws.specs.world_state.Good.{AreNamed, CanMoveTogether, HasNothing, IsFresh, IsGoodMove, IsKeyword, LeavesSafe, LeavesSlots, open_slots}
use Rattle.world_laws.specs.world_state.Rights.{CanMoveAll, Rights, all_moved, slots_at}
use Rattle.world_laws.specs.world_state.Worlds.{IsOpen, Seat, seat_at, staged_at}
use Rattle.rule_laws.proofs.SlotMoves.{open_slots_set}
use Rattle.rule_laws.proofs.Spending.{spent_length}
use Rattle.rule_laws.proofs.Rearranged.{AllAt, IsReady, MovesIn, after_of, all_append, all_outs, at_others, before_of, hand_all, hand_append, in_move, ins, ins_hand, ins_in, ins_out, ins_payments, ins_slots, left_of, moves_append, moves_end, out_move, outs, outs_at, outs_hand, outs_keep, outs_out, outs_payments, outs_slots, seats_of}
use Rattle.rule_laws.proofs.Shares.{gained, gained_kinds, gains, had, lost, new_safe, parts_count, share_balance, some_all, some_sum}

-- ---- how much goes to the hand, and comes from it

abbrev total_lost : ℕ → List ℕ → List Touched → ℕ
total_lost b e [] = 0
total_lost b e (t ∷ ts) = shares_count b e (lost t.before t.after) + total_lost b e ts

abbrev total_gained : ℕ → List ℕ → List Touched → ℕ
total_gained b e [] = 0
total_gained b e (t ∷ ts) = shares_count b e (gained t.before t.after) + total_gained b e ts

all_outs_hand : (ts : List Touched) (h : ℕ → Content) (b : ℕ) (e : List ℕ) → count (hand_all h (flat_map outs ts) b) e ≡ count (h b) e + total_lost b e ts
all_outs_hand [] h b e = omega arith
all_outs_hand (t ∷ ts) h b e =
    ap (λ c. count c e) (hand_append (outs t) (flat_map outs ts) h b)
    ∙ omega (arith, all_outs_hand ts (hand_all h (outs t)) b e, outs_hand t.seat h (lost t.before t.after) b e)

all_ins_hand : (ts : List Touched) (h : ℕ → Content) → ((b : ℕ) (e : List ℕ) → count (h b) e ≡ total_gained b e ts) → (b : ℕ) (e : List ℕ) → count (hand_all h (flat_map ins ts) b) e ≡ 0
all_ins_hand [] h hand b e = hand b e
all_ins_hand (t ∷ ts) h hand b e =
    ap (λ c. count c e) (hand_append (ins t) (flat_map ins ts) h b)
    ∙ all_ins_hand ts (hand_all h (ins t)) (ins_hand t.seat h (gained t.before t.after) (λ b e. total_gained b e ts) hand) b e

-- seats have of what they become what they had
abbrev pub HadAll : Touched → Type 0
HadAll t = (b : ℕ) (e : List ℕ) → parts_count (had t.before) b e t.after ≡ shares_count b e t.before

balanced : (ts : List Touched) (b : ℕ) (e : List ℕ) → AllByRecursion HadAll ts → total_gained b e ts + count_before b e ts ≡ count_after b e ts + total_lost b e ts
balanced [] b e had_all = refl
balanced (t ∷ ts) b e had_all = omega (
  arith,
  balanced ts b e had_all.1,
  had_all.0 b e,
  share_balance t.before b e t.after,
  some_sum (gained_by t.before) b e t.after,
  some_sum (lost_by t.before) b e t.after,
  sum_by-cons (λ (u : Touched). shares_count b e u.before) t ts,
  sum_by-cons (λ (u : Touched). shares_count b e u.after) t ts,
)

-- ---- what seats gain

ins_keep : (ts : List Touched) (r : Rights) (n : ℕ) → AllAt left_of r.slots ts → AreApart (seats_of ts) → IsNoneOf (seats_of ts) n → (slots_at (all_moved r (flat_map ins ts)).slots n ≡ slots_at r.slots n) × (length (all_moved r (flat_map ins ts)).slots ≡ length r.slots)
ins_keep [] r n at apart none = (refl, refl)
ins_keep (t ∷ ts) r n at apart none =
    let next = all_moved r (ins t) in
    let slots = ins_slots t.seat r (left_of t) (gained t.before t.after) at.0.0 at.0.1 in
    let rest = ins_keep ts next n (subst (λ l. AllAt left_of l ts) (sym slots) (at_others left_of r.slots t.seat (after_of t) ts apart.0 at.1)) apart.1 none.1 in
    let same = all_append (ins t) (flat_map ins ts) r in (
      ap (λ (q : Rights). slots_at q.slots n) same ∙ rest.0 ∙ ap (λ l. slots_at l n) slots ∙ read_other r.slots t.seat n (after_of t) [] none.0,
      ap (λ (q : Rights). length q.slots) same ∙ rest.1 ∙ ap (λ l. length l) slots ∙ length_set r.slots t.seat (after_of t),
    )

ins_at : (ts : List Touched) (r : Rights) → AllAt left_of r.slots ts → AreApart (seats_of ts) → AllAt after_of (all_moved r (flat_map ins ts)).slots ts
ins_at [] r at apart = tt
ins_at (t ∷ ts) r at apart =
    let next = all_moved r (ins t) in
    let slots = ins_slots t.seat r (left_of t) (gained t.before t.after) at.0.0 at.0.1 in
    let later : AllAt left_of next.slots ts = subst (λ l. AllAt left_of l ts) (sym slots) (at_others left_of r.slots t.seat (after_of t) ts apart.0 at.1) in
    let kept = ins_keep ts next t.seat later apart.1 apart.0 in
    let same = all_append (ins t) (flat_map ins ts) r in
    subst (λ (q : Rights). AllAt after_of q.slots (t ∷ ts)) (sym same) (
      (
        omega (arith, kept.1, ap (λ l. length l) slots, length_set r.slots t.seat (after_of t), at.0.0),
        kept.0 ∙ ap (λ l. slots_at l t.seat) slots ∙ read_set r.slots t.seat (after_of t) [] at.0.0,
      ),
      ins_at ts next later apart.1,
    )

all_ins : (ts : List Touched) (r : Rights) (h : ℕ → Content) → AllAt left_of r.slots ts → AreApart (seats_of ts) → AllByRecursion (IsReady r.out) ts → ((b : ℕ) (e : List ℕ) → count (h b) e ≡ total_gained b e ts) → MovesIn r h (flat_map ins ts)
all_ins [] r h at apart ready hand = tt
all_ins (t ∷ ts) r h at apart ready hand =
    let next = all_moved r (ins t) in
    let slots = ins_slots t.seat r (left_of t) (gained t.before t.after) at.0.0 at.0.1 in
    moves_append (ins t) (flat_map ins ts) r h
    (ins_in t.seat r h (left_of t) (gained t.before t.after) (λ b e. total_gained b e ts) at.0.0 at.0.1 (gains r.out t.before ready.0.kinds t.after ready.0.can) (gained_kinds r.out t.before ready.0.kinds t.after ready.0.can) hand)
    (all_ins ts next (hand_all h (ins t)) (subst (λ l. AllAt left_of l ts) (sym slots) (at_others left_of r.slots t.seat (after_of t) ts apart.0 at.1)) apart.1 (subst (λ o. AllByRecursion (IsReady o) ts) (sym (ins_out t.seat r (gained t.before t.after))) ready.1) (ins_hand t.seat h (gained t.before t.after) (λ b e. total_gained b e ts) hand))

-- ---- what stays

all_outs_out : (ts : List Touched) (r : Rights) → (all_moved r (flat_map outs ts)).out ≡ r.out
all_outs_out [] r = refl
all_outs_out (t ∷ ts) r = ap (λ (q : Rights). q.out) (all_append (outs t) (flat_map outs ts) r) ∙ all_outs_out ts (all_moved r (outs t)) ∙ outs_out t.seat r (lost t.before t.after)

all_outs_payments : (ts : List Touched) (r : Rights) → (all_moved r (flat_map outs ts)).payments ≡ r.payments
all_outs_payments [] r = refl
all_outs_payments (t ∷ ts) r = ap (λ (q : Rights). q.payments) (all_append (outs t) (flat_map outs ts) r) ∙ all_outs_payments ts (all_moved r (outs t)) ∙ outs_payments t.seat r (lost t.before t.after)

all_ins_payments : (ts : List Touched) (r : Rights) → (all_moved r (flat_map ins ts)).payments ≡ r.payments
all_ins_payments [] r = refl
all_ins_payments (t ∷ ts) r = ap (λ (q : Rights). q.payments) (all_append (ins t) (flat_map ins ts) r) ∙ all_ins_payments ts (all_moved r (ins t)) ∙ ins_payments t.seat r (gained t.before t.after)

-- ---- how many slots there are

abbrev pub total_many : (Touched → List Share) → List Touched → ℕ
total_many f [] = 0
total_many f (t ∷ ts) = length (f t) + total_many f ts

module _ (seats : List Seat) where
  abbrev AllOpen : List Touched → Type 0
  AllOpen ts = AllByRecursion (λ (t : Touched). IsOpen (seat_at seats t.seat)) ts

  outs_open : (ts : List Touched) (r : Rights) → AllOpen ts → AllAt before_of r.slots ts → AreApart (seats_of ts) → open_slots seats (all_moved r (flat_map outs ts)).slots + total_many before_of ts ≡ open_slots seats r.slots + total_many left_of ts
  outs_open [] r are at apart = refl
  outs_open (t ∷ ts) r are at apart =
      let next = all_moved r (outs t) in
      let slots = outs_slots t.seat r t.before (lost t.before t.after) at.0.0 at.0.1 in
      omega (
        arith,
        ap (λ (q : Rights). open_slots seats q.slots) (all_append (outs t) (flat_map outs ts) r),
        outs_open ts next are.1 (subst (λ l. AllAt before_of l ts) (sym slots) (at_others before_of r.slots t.seat (left_of t) ts apart.0 at.1)) apart.1,
        ap (open_slots seats) slots,
        open_slots_set seats r.slots t.seat (left_of t) are.0 at.0.0,
        ap (λ l. length l) at.0.1,
      )

  ins_open : (ts : List Touched) (r : Rights) → AllOpen ts → AllAt left_of r.slots ts → AreApart (seats_of ts) → open_slots seats (all_moved r (flat_map ins ts)).slots + total_many left_of ts ≡ open_slots seats r.slots + total_many after_of ts
  ins_open [] r are at apart = refl
  ins_open (t ∷ ts) r are at apart =
      let next = all_moved r (ins t) in
      let slots = ins_slots t.seat r (left_of t) (gained t.before t.after) at.0.0 at.0.1 in
      omega (
        arith,
        ap (λ (q : Rights). open_slots seats q.slots) (all_append (ins t) (flat_map ins ts) r),
        ins_open ts next are.1 (subst (λ l. AllAt left_of l ts) (sym slots) (at_others left_of r.slots t.seat (after_of t) ts apart.0 at.1)) apart.1,
        ap (open_slots seats) slots,
        open_slots_set seats r.slots t.seat (after_of t) are.0 at.0.0,
        ap (λ l. length l) at.0.1,
      )

-- ---- what is told of a touched seat is told of it by its number

record IsFound (P : Touched → Type 0) (q : ℕ) : Type 0 where
  one : Touched
  seat : one.seat ≡ q
  is : P one

pick : (P : Touched → Type 0) (ts : List Touched) (q : ℕ) → AllByRecursion P ts → IsNoneOf (seats_of ts) q ⊎ IsFound P q
pick P [] q all = inl tt
pick P (t ∷ ts) q all = by (cases_eq t.seat q) (pick P ts q all.1)
  where
    by : (t.seat ≡ q) ⊎ (t.seat ≢ q) → IsNoneOf (seats_of ts) q ⊎ IsFound P q → IsNoneOf (seats_of (t ∷ ts)) q ⊎ IsFound P q
    by (inl same) rest = inr (record { one = t; seat = same; is = all.0 })
    by (inr other) (inl none) = inl (other, none)
    by (inr other) (inr found) = inr found

-- ---- good movements

module _ (seats : List Seat) where
  outs_good : (s : ℕ) (shares : List Share) → IsOpen (seat_at seats s) → AreNamed shares → AllByRecursion (IsGoodMove seats) (map (out_move s) shares)
  outs_good s [] is named = tt
  outs_good s (x ∷ xs) is named = (record { brings = λ e. cc; from_named = named.0; to_named = tt; from = is; to = tt }, outs_good s xs is named.1)

  ins_good : (s : ℕ) (shares : List Share) → IsOpen (seat_at seats s) → AreNamed shares → AllByRecursion (IsGoodMove seats) (map (in_move s) shares)
  ins_good s [] is named = tt
  ins_good s (x ∷ xs) is named = (record { brings = λ e. cc; from_named = tt; to_named = named.0; from = tt; to = is }, ins_good s xs is named.1)

  all_outs_good : (ts : List Touched) → AllByRecursion (λ (t : Touched). IsOpen (seat_at seats t.seat)) ts → AllByRecursion (λ (t : Touched). AreNamed t.after) ts → AllByRecursion (IsGoodMove seats) (flat_map outs ts)
  all_outs_good [] are named = tt
  all_outs_good (t ∷ ts) are named = lists.all_append (IsGoodMove seats) (outs t) (flat_map outs ts) (outs_good t.seat (lost t.before t.after) are.0 (some_all (lost_by t.before) (λ (r : Share). IsKeyword r.keyword) (λ (r : Share). IsKeyword r.keyword) (λ r is. is) t.after named.0)) (all_outs_good ts are.1 named.1)

  all_ins_good : (ts : List Touched) → AllByRecursion (λ (t : Touched). IsOpen (seat_at seats t.seat)) ts → AllByRecursion (λ (t : Touched). AreNamed t.after) ts → AllByRecursion (IsGoodMove seats) (flat_map ins ts)
  all_ins_good [] are named = tt
  all_ins_good (t ∷ ts) are named = lists.all_append (IsGoodMove seats) (ins t) (flat_map ins ts) (ins_good t.seat (gained t.before t.after) are.0 (some_all (gained_by t.before) (λ (r : Share). IsKeyword r.keyword) (λ (r : Share). IsKeyword r.keyword) (λ r is. is) t.after named.0)) (all_ins_good ts are.1 named.1)

-- from slots and the hand alone, to slots and the hand alone
abbrev IsBetween : Movement → Type 0
IsBetween m = ((ps : List PaymentView) → HasNothing ps m.from) × ((made : ℕ) → IsFresh made m.to)

outs_between : (s : ℕ) (shares : List Share) → AllByRecursion IsBetween (map (out_move s) shares)
outs_between s [] = tt
outs_between s (x ∷ xs) = ((λ ps. tt, λ made. tt), outs_between s xs)

ins_between : (s : ℕ) (shares : List Share) → AllByRecursion IsBetween (map (in_move s) shares)
ins_between s [] = tt
ins_between s (x ∷ xs) = ((λ ps. tt, λ made. tt), ins_between s xs)

all_outs_between : (ts : List Touched) → AllByRecursion IsBetween (flat_map outs ts)
all_outs_between [] = tt
all_outs_between (t ∷ ts) = lists.all_append IsBetween (outs t) (flat_map outs ts) (outs_between t.seat (lost t.before t.after)) (all_outs_between ts)

all_ins_between : (ts : List Touched) → AllByRecursion IsBetween (flat_map ins ts)
all_ins_between [] = tt
all_ins_between (t ∷ ts) = lists.all_append IsBetween (ins t) (flat_map ins ts) (ins_between t.seat (gained t.before t.after)) (all_ins_between ts)

-- ---- all together

-- what a rearrangement needs of each touched seat
pub record IsTouch (r : Rights) (seats : List Seat) (staging : List (Option (List Share))) (t : Touched) : Type 0 where
  pub made : t.seat < length r.slots
  pub before : slots_at r.slots t.seat ≡ t.before
  pub ready : IsReady r.out t
  pub had_all : HadAll t
  pub is_open : IsOpen (seat_at seats t.seat)
  pub named : AreNamed t.after
  pub unstaged : staged_at staging t.seat ≡ None
  pub safe : IsOfferSafe (seat_at seats t.seat).proposal t.after

abbrev pub carried : List Touched → List Movement
carried ts = flat_map outs ts ++ flat_map ins ts

module _ (r : Rights) (seats : List Seat) (staging : List (Option (List Share))) (ts : List Touched) (all : AllByRecursion (IsTouch r seats staging) ts) (apart : AreApart (seats_of ts)) (conserved : AreConserved ts) where
  at_first : AllAt before_of r.slots ts
  at_first = all_map (IsTouch r seats staging) (λ (t : Touched). (t.seat < length r.slots) × (slots_at r.slots t.seat ≡ t.before)) (λ t is. (is.made, is.before)) ts all

  ready : AllByRecursion (IsReady r.out) ts
  ready = all_map (IsTouch r seats staging) (IsReady r.out) (λ t is. is.ready) ts all

  had_each : AllByRecursion HadAll ts
  had_each = all_map (IsTouch r seats staging) HadAll (λ t is. is.had_all) ts all

  open_each : AllByRecursion (λ (t : Touched). IsOpen (seat_at seats t.seat)) ts
  open_each = all_map (IsTouch r seats staging) (λ (t : Touched). IsOpen (seat_at seats t.seat)) (λ t is. is.is_open) ts all

  named_each : AllByRecursion (λ (t : Touched). AreNamed t.after) ts
  named_each = all_map (IsTouch r seats staging) (λ (t : Touched). AreNamed t.after) (λ t is. is.named) ts all

  abbrev between : Rights
  between = all_moved r (flat_map outs ts)

  abbrev in_hand : ℕ → Content
  in_hand = hand_all no_hand (flat_map outs ts)

  hand_is : (b : ℕ) (e : List ℕ) → count (in_hand b) e ≡ total_gained b e ts
  hand_is b e = omega (arith, all_outs_hand ts no_hand b e, count-nothing e, balanced ts b e had_each, conserved.each b e)

  carry_can : CanMoveAll r no_hand (carried ts)
  carry_can =
      moves_end (carried ts) r no_hand
      (moves_append (flat_map outs ts) (flat_map ins ts) r no_hand (all_outs ts r no_hand at_first apart ready)
      (all_ins ts between in_hand (outs_at ts r at_first apart) apart (subst (λ o. AllByRecursion (IsReady o) ts) (sym (all_outs_out ts r)) ready) hand_is))
      (record { each = λ b e. ap (λ c. count c e) (hand_append (flat_map outs ts) (flat_map ins ts) no_hand b) ∙ all_ins_hand ts in_hand hand_is b e })

  same : all_moved r (carried ts) ≡ all_moved between (flat_map ins ts)
  same = all_append (flat_map outs ts) (flat_map ins ts) r

  at_last : AllAt after_of (all_moved r (carried ts)).slots ts
  at_last = subst (λ (q : Rights). AllAt after_of q.slots ts) (sym same) (ins_at ts between (outs_at ts r at_first apart) apart)

  elsewhere : (q : ℕ) → IsNoneOf (seats_of ts) q → LeavesSlots r (carried ts) q
  elsewhere q none =
      ap (λ (x : Rights). slots_at x.slots q) same ∙ (ins_keep ts between q (outs_at ts r at_first apart) apart none).0 ∙ (outs_keep ts r q at_first apart none).0

  abbrev IsSafe : Touched → Type 0
  IsSafe t = IsTouch r seats staging t × ((t.seat < length (all_moved r (carried ts)).slots) × (slots_at (all_moved r (carried ts)).slots t.seat ≡ after_of t))

  both_all : (us : List Touched) → AllByRecursion (IsTouch r seats staging) us → AllAt after_of (all_moved r (carried ts)).slots us → AllByRecursion IsSafe us
  both_all [] a b = tt
  both_all (u ∷ us) a b = ((a.0, b.0), both_all us a.1 b.1)

  safe_there : (t : Touched) → IsSafe t → LeavesSafe r seats (carried ts) t.seat
  safe_there t is = subst (IsOfferSafe (seat_at seats t.seat).proposal) (sym is.1.1) (new_safe r.out t.before is.0.ready.kinds t.after is.0.ready.can (seat_at seats t.seat).proposal is.0.safe)

  not_staged : (q : ℕ) → staged_at staging q ≡ None → IsSome (staged_at staging q) → ⊥
  not_staged q none there = false≢true (subst (λ o. IsSome o) none there)

  pub carry_together : length r.payments + open_slots seats r.slots + total_many after_of ts ≤ most_made + total_many before_of ts → CanMoveTogether r seats staging (carried ts)
  carry_together room = record {
    can = carry_can;
    good = lists.all_append (IsGoodMove seats) (flat_map outs ts) (flat_map ins ts) (all_outs_good seats ts open_each named_each) (all_ins_good seats ts open_each named_each);
    emptied = all_map IsBetween (λ (m : Movement). HasNothing (all_moved r (carried ts)).payments m.from) (λ m is. is.0 (all_moved r (carried ts)).payments) (carried ts) (lists.all_append IsBetween (flat_map outs ts) (flat_map ins ts) (all_outs_between ts) (all_ins_between ts));
    fresh = all_map IsBetween (λ (m : Movement). IsFresh (length r.payments) m.to) (λ m is. is.1 (length r.payments)) (carried ts) (lists.all_append IsBetween (flat_map outs ts) (flat_map ins ts) (all_outs_between ts) (all_ins_between ts));
    apart = λ q staged. elim (pick (IsTouch r seats staging) ts q all) [
      | inl none ↦ elsewhere q none
      | inr found ↦ absurd (not_staged q (subst (λ k. staged_at staging k ≡ None) found.seat found.is.unstaged) staged)
    ];
    safe = λ q. elim (pick IsSafe ts q (both_all ts all at_last)) [
      | inl none ↦ inl (elsewhere q none)
      | inr found ↦ inr (subst (LeavesSafe r seats (carried ts)) found.seat (safe_there found.one found.is))
    ];
    room = record {
      left = omega (
        arith,
        room,
        spent_length (carried ts) (all_moved r (carried ts)).payments,
        ap (λ (x : Rights). length x.payments) same,
        ap (λ l. length l) (all_ins_payments ts between),
        ap (λ l. length l) (all_outs_payments ts r),
        ap (λ (x : Rights). open_slots seats x.slots) same,
        ins_open seats ts between open_each (outs_at ts r at_first apart) apart,
        outs_open seats ts r open_each at_first apart,
      );
    };
  }
