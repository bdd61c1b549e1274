-- Transfers worked one after the other: what agrees stays so.
use Rattle.std.proofs.Common.{◌≡◌, ℕ, zero, suc, ◌<◌, ◌==◌, List, [], ◌∷◌, ◌++◌, length, get_or, map, take, fold, flat_map, All, Bool, true, false, cond, Option, Some, None, IfSome, option_to_list, refl, sym, ap, ◌∙◌, subst, arith}
use Rattle.std.proofs.lemmas.Bool.Decides.{nat_tests}
use Rattle.std.proofs.lemmas.List.{take_all}
use Rattle.std.proofs.lemmas.List.Elements.{All-append, All-cons, All-head, All-map, All-nil, All-tail, All-take}
use Rattle.std.specs.List.{list_any}
use Rattle.std.specs.Option.{option_map_or}
use Rattle.refusals.specs.amount_math.Amount.{Meet}
use Rattle.proposals.specs.OfferSafety.{MeetSlots}
use Rattle.proposals.specs.declared.allocations.Share.{Share}
use Rattle.proposals.specs.declared.plans.SeatState.{SeatState}
use Rattle.proposals.specs.declared.plans.Transfer.{Transfer}
use Rattle.proposals.specs.Gains.{raised, with_gains}
use Rattle.proposals.specs.Losses.{lowered, without}
use Rattle.proposals.specs.ChangedShares.{further}
use Rattle.rearrange.specs.Safety.{MeetProposal}
use Rattle.rearrange.specs.Seats.{allocation_of, seats_named, seats_of, state_of}
use Rattle.rearrange.specs.Settled.{settled}
use Rattle.rearrange.specs.Staged.{Agree, AgreeWith, shares_of}
use Rattle.rearrange.specs.Transfers.{HasOneBrand, all_amounts, amounts_for, gains_of, losses_of, lowered_by, shares_at, with_shares, with_seat, worked, worked_by}
use Rattle.rearrange.specs.Working.{CanMeet, CanSettle}
use Rattle.rearrange.proofs.Agreeing.{All-further, all_give, all_left, all_right, all_slots, all_want, meet_slots, settled_agree}

same_number : (m n : ℕ) → (m == n) ≡ true → m ≡ n
same_number m n e = grind (arith, nat_tests)

itself : (n : ℕ) → (n == n) ≡ true
itself n = grind (arith, nat_tests)

-- ---- what agrees stays so

lowered_with : (shares losses : List Share) (r : Share) → AgreeWith shares r → AgreeWith (without shares losses) r
lowered_with shares losses r a = All-map (λ (x : Share). x.keyword ≡ r.keyword → Meet x.amount r.amount) (lowered losses) shares (λ i d lt same. let m : Meet (get_or shares i d).amount r.amount = a i d lt same in record { brand = m.brand; kind = m.kind })

raised_with : (shares gains : List Share) (r : Share) → AgreeWith shares r → AgreeWith gains r → AgreeWith (with_gains shares gains) r
raised_with shares gains r a b =
    All-append (λ (x : Share). x.keyword ≡ r.keyword → Meet x.amount r.amount) (map (raised gains) shares) (further shares gains)
    (All-map (λ (x : Share). x.keyword ≡ r.keyword → Meet x.amount r.amount) (raised gains) shares (λ i d lt same. let m : Meet (get_or shares i d).amount r.amount = a i d lt same in record { brand = m.brand; kind = m.kind }))
    (All-further (λ (x : Share). x.keyword ≡ r.keyword → Meet x.amount r.amount) shares gains b)

module _ (pool : List Share) (seat : ℕ) where
  lowered_by-agree : (has : ℕ → List Share) (losses : List Share) (o : Option ℕ) → Agree (has seat) pool → Agree (with_shares o (λ one. without (has one) losses) has seat) pool
  lowered_by-agree has losses None a = a
  lowered_by-agree has losses (Some one) a = by (seat == one) refl
    where
      by : (t : Bool) → (seat == one) ≡ t → Agree (cond t (without (has one) losses) (has seat)) pool
      by true e = let same : seat ≡ one = same_number seat one e in λ i d lt. lowered_with (has one) losses (get_or pool i d) (subst (λ (n : ℕ). AgreeWith (has n) (get_or pool i d)) same (a i d lt))
      by false e = a

  raised_by-agree : (has : ℕ → List Share) (gains : List Share) (o : Option ℕ) → (o ≡ Some seat → Agree gains pool) → Agree (has seat) pool → Agree (with_shares o (λ one. with_gains (has one) gains) has seat) pool
  raised_by-agree has gains None b a = a
  raised_by-agree has gains (Some one) b a = by (seat == one) refl
    where
      by : (t : Bool) → (seat == one) ≡ t → Agree (cond t (with_gains (has one) gains) (has seat)) pool
      by true e =
          let same : seat ≡ one = same_number seat one e in
          λ i d lt. raised_with (has one) gains (get_or pool i d) (subst (λ (n : ℕ). AgreeWith (has n) (get_or pool i d)) same (a i d lt)) (b (ap Some (sym same)) i d lt)
      by false e = a

  worked-agree : (has : ℕ → List Share) (ts : List Transfer) → All (λ (t : Transfer). t.to ≡ Some seat → Agree (gains_of t) pool) ts → Agree (has seat) pool → Agree (worked has ts seat) pool
  worked-agree has [] gains a = a
  worked-agree has (t ∷ ts) gains a =
      worked-agree (worked_by has t) ts (All-tail (λ (t : Transfer). t.to ≡ Some seat → Agree (gains_of t) pool) t ts gains)
      (raised_by-agree (lowered_by has t) (gains_of t) t.to (All-head (λ (t : Transfer). t.to ≡ Some seat → Agree (gains_of t) pool) t ts gains) (lowered_by-agree has (losses_of t) t.from a))

-- ---- the amounts for a seat

all_flat : {X Y : Type 0} (P : Y → Type 0) (left : (xs ys : List Y) → All P (xs ++ ys) → All P xs) (right : (xs ys : List Y) → All P (xs ++ ys) → All P ys) (f : X → List Y) (ts : List X) (i : ℕ) (d : X) → i < length ts → All P (flat_map f ts) → All P (f (get_or ts i d))
all_flat P left right f [] i d lt all = absurd (omega arith)
all_flat P left right f (t ∷ ts) zero d lt all = left (f t) (flat_map f ts) all
all_flat P left right f (t ∷ ts) (suc i) d lt all = all_flat P left right f ts i d (omega arith) (right (f t) (flat_map f ts) all)

left_of : {Y : Type 0} (P : Y → Type 0) (xs ys : List Y) → All P (xs ++ ys) → All P xs
left_of P [] ys all = All-nil P
left_of P (x ∷ xs) ys all = All-cons P x xs (All-head P x (xs ++ ys) all) (left_of P xs ys (All-tail P x (xs ++ ys) all))

right_of : {Y : Type 0} (P : Y → Type 0) (xs ys : List Y) → All P (xs ++ ys) → All P ys
right_of P [] ys all = all
right_of P (x ∷ xs) ys all = right_of P xs ys (All-tail P x (xs ++ ys) all)

own_shares : (P : Share → Type 0) (o : Option ℕ) (shares : List Share) (seat : ℕ) → o ≡ Some seat → All P (shares_at o shares seat) → All P shares
own_shares P o shares seat is all = subst (All P) (ap (λ p. shares_at p shares seat) is ∙ ap (λ t. cond t shares []) (itself seat)) all

module _ (states : List SeatState) (list : List Transfer) (seat : ℕ) (P : Share → Type 0) (all : All P (all_amounts states list seat)) where
  of_state : All P (option_map_or shares_of (state_of states seat) [])
  of_state = all_left P (option_map_or shares_of (state_of states seat) []) (flat_map (amounts_for seat) list) all

  of_transfer : (i : ℕ) (d : Transfer) → i < length list → All P (amounts_for seat (get_or list i d))
  of_transfer i d lt = all_flat P (all_left P) (all_right P) (amounts_for seat) list i d lt (all_right P (option_map_or shares_of (state_of states seat) []) (flat_map (amounts_for seat) list) all)

  losses_within : (i : ℕ) (d : Transfer) → i < length list → (get_or list i d).from ≡ Some seat → All P (losses_of (get_or list i d))
  losses_within i d lt is = own_shares P (get_or list i d).from (losses_of (get_or list i d)) seat is (all_left P (shares_at (get_or list i d).from (losses_of (get_or list i d)) seat) (shares_at (get_or list i d).to (gains_of (get_or list i d)) seat) (of_transfer i d lt))

  gains_within : (i : ℕ) (d : Transfer) → i < length list → (get_or list i d).to ≡ Some seat → All P (gains_of (get_or list i d))
  gains_within i d lt is = own_shares P (get_or list i d).to (gains_of (get_or list i d)) seat is (all_right P (shares_at (get_or list i d).from (losses_of (get_or list i d)) seat) (shares_at (get_or list i d).to (gains_of (get_or list i d)) seat) (of_transfer i d lt))

  slots_by : (o : Option SeatState) → All P (option_map_or shares_of o []) → All P (option_map_or (λ s. s.allocation) o [])
  slots_by None all = All-nil P
  slots_by (Some s) all = all_slots P s all

  slots_within : All P (allocation_of states seat)
  slots_within = slots_by (state_of states seat) of_state

module _ (states : List SeatState) (list : List Transfer) (seat : ℕ) (one : HasOneBrand states list seat) where
  with_start : Agree (allocation_of states seat) (all_amounts states list seat)
  with_start = λ i d lt. slots_within states list seat (λ (x : Share). x.keyword ≡ (get_or (all_amounts states list seat) i d).keyword → Meet x.amount (get_or (all_amounts states list seat) i d).amount) (one i d lt)

  with_gains_of : All (λ (t : Transfer). t.to ≡ Some seat → Agree (gains_of t) (all_amounts states list seat)) list
  with_gains_of = λ k e within is i d lt. gains_within states list seat (λ (x : Share). x.keyword ≡ (get_or (all_amounts states list seat) i d).keyword → Meet x.amount (get_or (all_amounts states list seat) i d).amount) (one i d lt) k e within is

  has_agrees : (n : ℕ) → Agree (worked (allocation_of states) (take n list) seat) (all_amounts states list seat)
  has_agrees n = worked-agree (all_amounts states list seat) seat (allocation_of states) (take n list) (All-take (λ (t : Transfer). t.to ≡ Some seat → Agree (gains_of t) (all_amounts states list seat)) n list with_gains_of) with_start

  pub takes_meet : (i : ℕ) (d : Transfer) → i < length list → (get_or list i d).from ≡ Some seat → MeetSlots (worked (allocation_of states) (take i list) seat) (losses_of (get_or list i d))
  takes_meet i d lt is = meet_slots _ _ (losses_within states list seat (AgreeWith (worked (allocation_of states) (take i list) seat)) (has_agrees i) i d lt is)

  pub gives_meet : (i : ℕ) (d : Transfer) → i < length list → (get_or list i d).to ≡ Some seat → MeetSlots (lowered_by (worked (allocation_of states) (take i list)) (get_or list i d) seat) (gains_of (get_or list i d))
  gives_meet i d lt is = meet_slots _ _ (gains_within states list seat (AgreeWith (lowered_by (worked (allocation_of states) (take i list)) (get_or list i d) seat)) (lowered_by-agree (all_amounts states list seat) seat (worked (allocation_of states) (take i list)) (losses_of (get_or list i d)) (get_or list i d).from (has_agrees i)) i d lt is)

  module _ (shares : List Share) (agree : Agree shares (all_amounts states list seat)) where
    settled_by : (o : Option SeatState) → All (AgreeWith (option_map_or (λ s. s.allocation) o [])) (option_map_or shares_of o []) → All (AgreeWith shares) (option_map_or shares_of o []) → IfSome o (MeetProposal (settled (option_map_or (λ s. s.allocation) o []) shares))
    settled_by None a b = tt
    settled_by (Some s) a b = record {
      want = meet_slots _ _ (settled_agree s.allocation shares s.proposal.want (all_want (AgreeWith s.allocation) s a) (all_want (AgreeWith shares) s b));
      give = meet_slots _ _ (settled_agree s.allocation shares s.proposal.give (all_give (AgreeWith s.allocation) s a) (all_give (AgreeWith shares) s b));
    }

    pub settles : CanSettle states shares seat
    settles = record {
      slots = meet_slots shares (allocation_of states seat) (slots_within states list seat (AgreeWith shares) agree);
      proposal = settled_by (state_of states seat) (of_state states list seat (AgreeWith (allocation_of states seat)) with_start) (of_state states list seat (AgreeWith shares) agree);
    }

-- ---- for each seat that is named

module _ (states : List SeatState) (list : List Transfer) (each : All (HasOneBrand states list) (seats_named list)) where
  named_by : (i : ℕ) (d : Transfer) → i < length list → All (HasOneBrand states list) (seats_of (get_or list i d))
  named_by i d lt = all_flat (HasOneBrand states list) (left_of (HasOneBrand states list)) (right_of (HasOneBrand states list)) seats_of list i d lt each

  of_some : (o : Option ℕ) (seat : ℕ) → o ≡ Some seat → All (HasOneBrand states list) (option_to_list o) → HasOneBrand states list seat
  of_some o seat is all = All-head (HasOneBrand states list) seat [] (subst (λ (p : Option ℕ). All (HasOneBrand states list) (option_to_list p)) is all)

  if_some : (o : Option ℕ) (P : ℕ → Type 0) → ((seat : ℕ) → o ≡ Some seat → P seat) → IfSome o P
  if_some None P f = tt
  if_some (Some seat) P f = f seat refl

  pub can_meet : (i : ℕ) (d : Transfer) → i < length list → CanMeet (worked (allocation_of states) (take i list)) (get_or list i d)
  can_meet i d lt = let t = get_or list i d in record {
    take = if_some t.from _ (λ seat is. takes_meet states list seat (of_some t.from seat is (left_of (HasOneBrand states list) (option_to_list t.from) (option_to_list t.to) (named_by i d lt))) i d lt is);
    give = if_some t.to _ (λ seat is. gives_meet states list seat (of_some t.to seat is (right_of (HasOneBrand states list) (option_to_list t.from) (option_to_list t.to) (named_by i d lt))) i d lt is);
  }

  pub can_settle : All (λ (seat : ℕ). CanSettle states (worked (allocation_of states) list seat) seat) (seats_named list)
  can_settle = λ k e within. let seat = get_or (seats_named list) k e in settles states list seat (each k e within) (worked (allocation_of states) list seat) (subst (λ (ts : List Transfer). Agree (worked (allocation_of states) ts seat) (all_amounts states list seat)) (take_all (length list) list (omega arith)) (has_agrees states list seat (each k e within) (length list)))

pub All-once : (P : ℕ → Type 0) (seats more : List ℕ) → All P seats → All P more → All P (fold with_seat seats more)
All-once P seats [] all more = all
All-once P seats (n ∷ ns) all more = All-once P (with_seat seats n) ns (by (list_any (λ other. other == n) seats)) (All-tail P n ns more)
  where
    by : (t : Bool) → All P (cond t seats (seats ++ n ∷ []))
    by true = all
    by false = All-append P seats (n ∷ []) all (All-cons P n [] (All-head P n ns more) (All-nil P))

-- ---- one after the other

pub worked-push : (has : ℕ → List Share) (ts : List Transfer) (t : Transfer) → worked has (ts ++ t ∷ []) ≡ worked_by (worked has ts) t
worked-push has [] t = refl
worked-push has (s ∷ ss) t = worked-push (worked_by has s) ss t
