-- Seats that are left one after another for a spent meter: what they, their promises and those who asked come to, and
-- what is told.
use Rattle.std.specs.Prelude.{cond, is_none, nat_lt, ◌==◌}
use Rattle.std.specs.List.{AllByRecursion, filter, flat_map}
use Rattle.std.proofs.Common.{◌≡◌, ◌≢◌, ◌⊎◌, inl, inr, ℕ, zero, suc, ◌+◌, ◌<◌, ◌≤◌, Bool, true, false, List, [], ◌∷◌, ◌++◌, Option, Some, None, length, map, refl, sym, ◌∙◌, ap, subst, arith, append_assoc}
use Rattle.std.proofs.lemmas.Bool.{eqb-true, le-ltb, lt-ltb, ne_eqb}
use Rattle.std.proofs.lemmas.Grind.{flat_map-append}
use Rattle.std.proofs.lemmas.List.{append-nil}
use Rattle.std.proofs.lemmas.List.Elements.{filter-append}
use Rattle.fair_laws.proofs.world_laws.Followings.{pending_payouts}
use Rattle.fair_laws.proofs.world_laws.Fronts.{front-after, good_behind}
use Rattle.fair_laws.proofs.world_laws.Instances.{open_made}
use Rattle.fair_laws.proofs.world_laws.Lists.{all_append, all_filter, all_map, length_append, length_map}
use Rattle.fair_laws.proofs.rule_laws.OpenSeats.{Above, AreAllOpen, others_are_open}
use Rattle.fair_laws.proofs.lemmas.ListEdits.{length_set, read_other, read_set}
use Rattle.fair_laws.specs.actors.SeatPromises.{pair_at}
use Rattle.fair_laws.specs.delivery_turns.Tasks.{exits_with}
use Rattle.fair_laws.specs.world_state.promise_store.States.{SettlementView, ok}
use Rattle.fair_laws.specs.world_state.promise_store.Linked.{LeadsTo}
use Rattle.fair_laws.specs.world_state.proposals.Slots.{emptied}
use Rattle.fair_laws.specs.world_state.proposals.declared.allocations.Share.{Share}
use Rattle.fair_laws.specs.world_state.rights_model.declared.Movement.{Movement}
use Rattle.fair_laws.specs.world_state.turn_records.Deliveries.{Delivery, Notice, notify}
use Rattle.fair_laws.specs.world_state.turn_records.Events as events
use Rattle.fair_laws.specs.world_state.turn_records.Events.{Event, Leaving, called, exited, move_in, moved, moves_in, opened}
use Rattle.fair_laws.specs.world_state.turn_rows.Causes as causes
use Rattle.fair_laws.specs.world_state.Good.{AreAsked, IsGoodWorld}
use Rattle.fair_laws.specs.world_state.Promises.{CascadeStep, Flow, PromiseBook, all_stepped, asks, cascade, flowing, notifies, settlement_at, settles, stepped}
use Rattle.fair_laws.specs.world_state.Rights.{slots_at}
use Rattle.fair_laws.specs.world_state.Worlds.{IsOpen, Seat, State, after, after_all, exit, in_front, left_seat, leaving_events, moves_out, no_seat, paid_out, payments_tree, payout_moves, payouts_at, payouts_from, payouts_tree, seat_at}
use Rattle.licence_laws.specs.TakenBack.{AreLeft, AreSettled, AreTold, IsNoCall, IsOneOf, IsByExit, TellsExits, exit_in, exit_told, first_payout, is_unsettled, slots_of}
use Rattle.licence_laws.proofs.Settling.{IsLed, filter_never, filter_same, filter_twice, none_asked, none_is_some, settling_settles, settling_tells}

-- ---- two settlements in turn

module _ (b c d : PromiseBook) (P Q R : ℕ → SettlementView → Type 0) (first : AreSettled b c P) (second : AreSettled c d Q)
    (parts : (q : ℕ) (u : SettlementView) → R q u → P q u ⊎ Q q u) (of_first : (q : ℕ) (u : SettlementView) → P q u → R q u) (of_second : (q : ℕ) (u : SettlementView) → Q q u → R q u) where
  -- what is settled stays so
  pub stays : (q : ℕ) (u : SettlementView) → settlement_at c.settled q ≡ Some u → settlement_at d.settled q ≡ Some u
  stays q u is = second.others q (λ x says. none_is_some u (sym (second.first q x says) ∙ is)) ∙ is

  was : (q : ℕ) (u : SettlementView) → Q q u → settlement_at b.settled q ≡ None
  was q u says = sym (first.others q (λ x said. none_is_some x (sym (second.first q u says) ∙ first.settled q x said))) ∙ second.first q u says

  pub settled_both : AreSettled b d R
  settled_both = record {
    settled = λ q u says. elim (parts q u says) [
      | inl said ↦ stays q u (first.settled q u said)
      | inr said ↦ second.settled q u said
    ];
    first = λ q u says. elim (parts q u says) [
      | inl said ↦ first.first q u said
      | inr said ↦ was q u said
    ];
    others = λ q none. second.others q (λ u says. none u (of_second q u says)) ∙ first.others q (λ u says. none u (of_first q u says));
    made = second.made ∙ first.made;
    follows = second.follows ∙ first.follows;
  }

-- ---- two lists of those who are told

map_notify : (xs ys : List Notice) → map notify (xs ++ ys) ≡ map notify xs ++ map notify ys
map_notify [] ys = refl
map_notify (x ∷ xs) ys = ap (λ ds. notify x ∷ ds) (map_notify xs ys)

module _ (b c d : PromiseBook) (xs ys zs : List Delivery) (first : AreTold b c xs ys) (second : AreTold c d ys zs)
    (stay : (q : ℕ) (u : SettlementView) → settlement_at c.settled q ≡ Some u → settlement_at d.settled q ≡ Some u) where
  -- what is unsettled in the end was before
  unsettled_before : (q : ℕ) → cond (is_unsettled c q) (is_unsettled d q) false ≡ is_unsettled d q
  unsettled_before q = by (settlement_at c.settled q) refl
    where
      by : (o : Option SettlementView) → settlement_at c.settled q ≡ o → cond (is_unsettled c q) (is_unsettled d q) false ≡ is_unsettled d q
      by None e = ap (λ (o : Option SettlementView). cond (is_none o) (is_unsettled d q) false) e
      by (Some u) e = ap (λ (o : Option SettlementView). cond (is_none o) (is_unsettled d q) false) e ∙ sym (ap is_none (stay q u e))

  -- those who asked for one promise, of those who still are to be told
  asked_for : (q : ℕ) → filter (asks q) (filter (λ n. is_unsettled c n.promise) b.requests) ≡ cond (is_unsettled c q) (filter (asks q) b.requests) []
  asked_for q = by (is_unsettled c q) refl
    where
      at : (t : Bool) → is_unsettled c q ≡ t → (n : Notice) (s : Bool) → (n.promise == q) ≡ s → cond (is_unsettled c n.promise) s false ≡ cond t s false
      at t is n true e = ap (λ k. cond (is_unsettled c k) true false) (eqb-true n.promise q e) ∙ ap (λ k. cond k true false) is
      at true is n false e = either (is_unsettled c n.promise)
        where
          either : (k : Bool) → cond k false false ≡ false
          either true = refl
          either false = refl
      at false is n false e = either (is_unsettled c n.promise)
        where
          either : (k : Bool) → cond k false false ≡ false
          either true = refl
          either false = refl

      by : (t : Bool) → is_unsettled c q ≡ t → filter (asks q) (filter (λ n. is_unsettled c n.promise) b.requests) ≡ cond t (filter (asks q) b.requests) []
      by true is = filter_twice (asks q) (λ n. is_unsettled c n.promise) (asks q) (λ n. at true is n (n.promise == q) refl) b.requests
      by false is = filter_twice (asks q) (λ n. is_unsettled c n.promise) (λ n. false) (λ n. at false is n (n.promise == q) refl) b.requests ∙ filter_never b.requests

  together : (s t : Bool) (fs : List Notice) → cond s t false ≡ t → cond s [] fs ++ cond t [] (cond s fs []) ≡ cond t [] fs
  together true true fs e = refl
  together true false fs e = refl
  together false true fs e = absurd (cc)
  together false false fs e = append-nil fs

  pub told_both : AreTold b d xs zs
  told_both = record {
    told = first.told ++ second.told;
    waiting = second.waiting
        ∙ (ap (λ l. l ++ map notify second.told) first.waiting
        ∙ (append_assoc xs (map notify first.told) (map notify second.told)
        ∙ ap (λ l. xs ++ l) (sym (map_notify first.told second.told))));
    each = λ q.
        filter-append (asks q) first.told second.told
        ∙ (ap (λ l. l ++ filter (asks q) second.told) (first.each q)
        ∙ (ap (λ l. cond (is_unsettled c q) [] (filter (asks q) b.requests) ++ l) (second.each q ∙ ap (λ l. cond (is_unsettled d q) [] l) (ap (filter (asks q)) first.left ∙ asked_for q))
        ∙ together (is_unsettled c q) (is_unsettled d q) (filter (asks q) b.requests) (unsettled_before q)));
    left = second.left
        ∙ (ap (filter (λ n. is_unsettled d n.promise)) first.left
        ∙ filter_twice (λ n. is_unsettled d n.promise) (λ n. is_unsettled c n.promise) (λ n. is_unsettled d n.promise) (λ n. unsettled_before n.promise) b.requests);
  }

-- where none is settled none is told
pub none_told : (b : PromiseBook) (ds : List Delivery) → AreAsked b → AreTold b b ds ds
none_told b ds asked = record {
  told = [];
  waiting = sym (append-nil ds);
  each = λ q. by q (settlement_at b.settled q) refl;
  left = sym (filter_same (λ n. is_unsettled b n.promise) (λ n. true) b.requests (all_map (λ n. settlement_at b.settled n.promise ≡ None) (λ n. is_unsettled b n.promise ≡ true) (λ n none. ap is_none none) b.requests asked) ∙ filter_all b.requests);
}
  where
    filter_all : (ns : List Notice) → filter (λ n. true) ns ≡ ns
    filter_all [] = refl
    filter_all (n ∷ ns) = ap (λ l. n ∷ l) (filter_all ns)

    by : (q : ℕ) (o : Option SettlementView) → settlement_at b.settled q ≡ o → [] ≡ cond (is_unsettled b q) [] (filter (asks q) b.requests)
    by q None e = sym (ap (λ (o : Option SettlementView). cond (is_none o) [] (filter (asks q) b.requests)) e)
    by q (Some u) e = sym (ap (λ (o : Option SettlementView). cond (is_none o) [] (filter (asks q) b.requests)) e ∙ none_asked b q u asked e)

-- ---- one seat is left

above_one : (n s : ℕ) (ns : List ℕ) → Above n ns → IsOneOf s ns → n < s
above_one n s [] above one = absurd one
above_one n s (m ∷ ms) above (inl e) = omega (arith, above.0, e)
above_one n s (m ∷ ms) above (inr one) = above_one n s ms above.1 one

apart_from : (n s : ℕ) → n < s → n ≢ s
apart_from n s lt e = absurd (omega (arith, lt, e))

flat_alike : {A : Type 0} (f g : ℕ → List A) (ns : List ℕ) → AllByRecursion (λ s. f s ≡ g s) ns → flat_map f ns ≡ flat_map g ns
flat_alike f g [] all = refl
flat_alike f g (n ∷ ns) all = ap (λ l. l ++ flat_map f ns) all.0 ∙ ap (λ l. g n ++ l) (flat_alike f g ns all.1)

map_alike : {A : Type 0} (f g : ℕ → A) (ns : List ℕ) → AllByRecursion (λ s. f s ≡ g s) ns → map f ns ≡ map g ns
map_alike f g [] all = refl
map_alike f g (n ∷ ns) all = ap (λ x. x ∷ map f ns) all.0 ∙ ap (λ l. g n ∷ l) (map_alike f g ns all.1)

map_paid : (xs ys : List Share) → map paid_out (xs ++ ys) ≡ map paid_out xs ++ map paid_out ys
map_paid [] ys = refl
map_paid (x ∷ xs) ys = ap (λ l. paid_out x ∷ l) (map_paid xs ys)

-- the movements of a seat's payouts
abbrev paid_of : State → List ℕ → ℕ → List Movement
paid_of w seats s = payout_moves s (first_payout w seats s) (slots_at w.rights.slots s)

-- ---- settlements as they are told

abbrev pub IsSettlement : Event → Type 0
IsSettlement (events.settled p x) = Unit {0}
IsSettlement _ = ⊥

pub settlements_quiet : (es : List Event) → AllByRecursion IsSettlement es → (flat_map exit_in es ≡ []) × (moves_in es ≡ []) × AllByRecursion IsNoCall es
settlements_quiet [] all = (refl, refl, tt)
settlements_quiet (events.settled p x ∷ es) all = let rest = settlements_quiet es all.1 in (rest.0, rest.1, (tt, rest.2))
settlements_quiet (called c ∷ es) all = absurd all.0
settlements_quiet (opened o ∷ es) all = absurd all.0
settlements_quiet (moved m ∷ es) all = absurd all.0
settlements_quiet (exited l ∷ es) all = absurd all.0

-- what steps add to the log
pub record TellsSettlements (before after : List Event) : Type 0 where
  pub added : List Event
  pub is : after ≡ before ++ added
  pub only : AllByRecursion IsSettlement added

pub steps_told : (v : SettlementView) (ss : List CascadeStep) (f : Flow) → TellsSettlements f.log (all_stepped v ss f).log
steps_told v [] f = record { added = []; is = sym (append-nil f.log); only = tt }
steps_told v (settles p ∷ ss) f =
    let rest = steps_told v ss (stepped v (settles p) f) in
    record { added = events.settled p v ∷ rest.added; is = rest.is ∙ append_assoc f.log (events.settled p v ∷ []) rest.added; only = (tt, rest.only) }
steps_told v (notifies p ∷ ss) f = steps_told v ss (stepped v (notifies p) f)

-- the world once a seat is left
abbrev pub without : State → ℕ → State
without u n = after u (exit n causes.spent)

module _ (u : State) (n : ℕ) (ns : List ℕ) (above : Above n ns) (made : n < length u.seats) (slotted : n < length u.rights.slots) where
  abbrev u1 : State
  u1 = without u n

  seat_there : seat_at u1.seats n ≡ left_seat (seat_at u.seats n) (slots_at u.rights.slots n)
  seat_there = read_set u.seats n (left_seat (seat_at u.seats n) (slots_at u.rights.slots n)) no_seat made

  seat_other : (s : ℕ) → n ≢ s → seat_at u1.seats s ≡ seat_at u.seats s
  seat_other s other = read_other u.seats n s (left_seat (seat_at u.seats n) (slots_at u.rights.slots n)) no_seat other

  slots_there : slots_at u1.rights.slots n ≡ map emptied (slots_at u.rights.slots n)
  slots_there = read_set u.rights.slots n (map emptied (slots_at u.rights.slots n)) [] slotted

  slots_other : (s : ℕ) → n ≢ s → slots_at u1.rights.slots s ≡ slots_at u.rights.slots s
  slots_other s other = read_other u.rights.slots n s (map emptied (slots_at u.rights.slots n)) [] other

  not_later : IsOneOf n ns → ⊥
  not_later one = absurd (omega (arith, above_one n n ns above one))

  later : (s : ℕ) → IsOneOf s ns → n ≢ s
  later s one = apart_from n s (above_one n s ns above one)

  slots_alike : (ms : List ℕ) → Above n ms → slots_of u1 ms ≡ slots_of u ms
  slots_alike ms higher = flat_alike (slots_at u1.rights.slots) (slots_at u.rights.slots) ms (all_map (λ m. n < m) (λ m. slots_at u1.rights.slots m ≡ slots_at u.rights.slots m) (λ m lt. slots_other m (apart_from n m lt)) ms higher)

  -- with those that are left behind it
  pub left_more : (v : State) → AreLeft u1 v ns → AreLeft u v (n ∷ ns)
  left_more v rest = record {
    left = λ s one. left_at s one;
    others = λ s none. rest.others s (λ one. none (inr one)) ∙ seat_other s (λ e. none (inl e));
    empty = λ s one. empty_at s one;
    kept = λ s none. rest.kept s (λ one. none (inr one)) ∙ slots_other s (λ e. none (inl e));
    payments = rest.payments
        ∙ (append_assoc u.rights.payments (map paid_out (slots_at u.rights.slots n)) (map paid_out (slots_of u1 ns))
        ∙ ap (λ l. u.rights.payments ++ l) (sym (map_paid (slots_at u.rights.slots n) (slots_of u1 ns)) ∙ ap (λ l. map paid_out (slots_at u.rights.slots n ++ l)) (slots_alike ns above)));
    as_many = rest.as_many ∙ length_set u.seats n (left_seat (seat_at u.seats n) (slots_at u.rights.slots n));
    slotted = rest.slotted ∙ length_set u.rights.slots n (map emptied (slots_at u.rights.slots n));
  }
    where
      left_at : (s : ℕ) → IsOneOf s (n ∷ ns) → seat_at v.seats s ≡ left_seat (seat_at u.seats s) (slots_at u.rights.slots s)
      left_at s (inl e) = subst (λ k. seat_at v.seats k ≡ left_seat (seat_at u.seats k) (slots_at u.rights.slots k)) e (rest.others n not_later ∙ seat_there)
      left_at s (inr one) =
          rest.left s one
          ∙ (ap (λ x. left_seat x (slots_at u1.rights.slots s)) (seat_other s (later s one))
          ∙ ap (λ x. left_seat (seat_at u.seats s) x) (slots_other s (later s one)))

      empty_at : (s : ℕ) → IsOneOf s (n ∷ ns) → slots_at v.rights.slots s ≡ map emptied (slots_at u.rights.slots s)
      empty_at s (inl e) = subst (λ k. slots_at v.rights.slots k ≡ map emptied (slots_at u.rights.slots k)) e (rest.kept n not_later ∙ slots_there)
      empty_at s (inr one) = rest.empty s one ∙ ap (map emptied) (slots_other s (later s one))

  -- ---- the numbers of payments

  none_before : filter (λ k. nat_lt k n) (n ∷ ns) ≡ []
  none_before =
      filter_same (λ k. nat_lt k n) (λ k. false) (n ∷ ns) (le-ltb n n (omega arith), all_map (λ m. n < m) (λ m. nat_lt m n ≡ false) (λ m lt. le-ltb m n (omega (arith, lt))) ns above)
      ∙ filter_never (n ∷ ns)

  pub first_here : first_payout u (n ∷ ns) n ≡ length u.rights.payments
  first_here = let none : length (slots_of u (filter (λ k. nat_lt k n) (n ∷ ns))) ≡ 0 = ap (λ l. length (slots_of u l)) none_before in omega (arith, none)

  pub first_later : (s : ℕ) → n < s → first_payout u (n ∷ ns) s ≡ first_payout u1 ns s
  first_later s lt =
      let before : List ℕ = filter (λ k. nat_lt k s) ns in
      let with_n : filter (λ k. nat_lt k s) (n ∷ ns) ≡ n ∷ before = ap (λ b. cond b (n ∷ before) before) (lt-ltb n s lt) in
      let left : length (slots_of u (filter (λ k. nat_lt k s) (n ∷ ns))) ≡ length (slots_at u.rights.slots n) + length (slots_of u before) =
      ap (λ l. length (slots_of u l)) with_n ∙ length_append (slots_at u.rights.slots n) (slots_of u before) in
      let same : length (slots_of u1 before) ≡ length (slots_of u before) =
      ap length (slots_alike before (all_filter (λ m. n < m) (λ k. nat_lt k s) ns above)) in
      let more : length u1.rights.payments ≡ length u.rights.payments + length (slots_at u.rights.slots n) =
      length_append u.rights.payments (map paid_out (slots_at u.rights.slots n)) ∙ ap (λ k. length u.rights.payments + k) (length_map paid_out (slots_at u.rights.slots n)) in
      omega (arith, left, same, more)

  -- ---- what payouts' promises are settled with

  pub one_paid : (q : ℕ) (x : SettlementView) → IsLed u.promises (pair_at u.pairs n).payouts (ok (payouts_tree u n)) q x → IsByExit u (n ∷ ns) q x
  one_paid q x is = record {
    seat = n;
    left = inl refl;
    leads = is.leads;
    given = is.given ∙ ap (λ k. ok (payments_tree k (slots_at u.rights.slots n))) (sym first_here);
  }

  pub others_paid : u1.promises.follows ≡ u.promises.follows → (q : ℕ) (x : SettlementView) → IsByExit u1 ns q x → IsByExit u (n ∷ ns) q x
  others_paid same q x is = record {
    seat = is.seat;
    left = inr is.left;
    leads = subst (λ fs. LeadsTo fs (pair_at u.pairs is.seat).payouts q) same is.leads;
    given = is.given
        ∙ (ap (λ k. ok (payments_tree k (slots_at u1.rights.slots is.seat))) (sym (first_later is.seat (above_one n is.seat ns above is.left)))
        ∙ ap (λ l. ok (payments_tree (first_payout u (n ∷ ns) is.seat) l)) (slots_other is.seat (later is.seat is.left)));
  }

  pub paid_parts : u1.promises.follows ≡ u.promises.follows → (q : ℕ) (x : SettlementView) → IsByExit u (n ∷ ns) q x
      → IsLed u.promises (pair_at u.pairs n).payouts (ok (payouts_tree u n)) q x ⊎ IsByExit u1 ns q x
  paid_parts same q x is = by is.left
    where
      by : IsOneOf is.seat (n ∷ ns) → IsLed u.promises (pair_at u.pairs n).payouts (ok (payouts_tree u n)) q x ⊎ IsByExit u1 ns q x
      by (inl e) = inl (record {
        leads = subst (λ s. LeadsTo u.promises.follows (pair_at u.pairs s).payouts q) (sym e) is.leads;
        given = is.given
            ∙ (ap (λ s. ok (payments_tree (first_payout u (n ∷ ns) s) (slots_at u.rights.slots s))) (sym e)
            ∙ ap (λ k. ok (payments_tree k (slots_at u.rights.slots n))) first_here);
      })
      by (inr one) = inr (record {
        seat = is.seat;
        left = one;
        leads = subst (λ fs. LeadsTo fs (pair_at u.pairs is.seat).payouts q) (sym same) is.leads;
        given = is.given
            ∙ (ap (λ k. ok (payments_tree k (slots_at u.rights.slots is.seat))) (first_later is.seat (above_one n is.seat ns above one))
            ∙ ap (λ l. ok (payments_tree (first_payout u1 ns is.seat) l)) (sym (slots_other is.seat (later is.seat one))));
      })

  -- ---- what is told

  abbrev here : List Event → List Event
  here es = leaving_events u n causes.spent ++ es

  moves_told : (ms : List Movement) → (flat_map exit_in (map moved ms) ≡ []) × (moves_in (map moved ms) ≡ ms) × AllByRecursion IsNoCall (map moved ms)
  moves_told [] = (refl, refl, tt)
  moves_told (m ∷ ms) = let rest = moves_told ms in (rest.0, ap (λ l. m ∷ l) rest.1, (tt, rest.2))

  -- the settlements that come with an exit, and the rows of those that are left behind it
  pub rows_more : (ses es : List Event) → AllByRecursion IsSettlement ses → TellsExits u1 ns es → TellsExits u (n ∷ ns) (here ses ++ es)
  rows_more ses es only rest =
      let quiet = settlements_quiet ses only in
      let moves = moves_told (moves_out u n) in
      let ex : flat_map exit_in (here ses) ≡ exit_told u (n ∷ ns) n ∷ [] =
      ap (λ l. record { seat = n; cause = causes.spent; payouts = payouts_at u n } ∷ l) (flat_map-append exit_in (map moved (moves_out u n)) ses ∙ (ap (λ l. l ++ flat_map exit_in ses) moves.0 ∙ quiet.0))
      ∙ ap (λ k. record { seat = n; cause = causes.spent; payouts = payouts_from k (slots_at u.rights.slots n) } ∷ []) (sym first_here) in
      let mv : moves_in (here ses) ≡ payout_moves n (first_payout u (n ∷ ns) n) (slots_at u.rights.slots n) =
      flat_map-append move_in (map moved (moves_out u n)) ses
      ∙ (ap (λ l. moves_in (map moved (moves_out u n)) ++ l) quiet.1
      ∙ (append-nil (moves_in (map moved (moves_out u n)))
      ∙ (moves.1 ∙ ap (λ k. payout_moves n k (slots_at u.rights.slots n)) (sym first_here)))) in
      record {
        quiet = all_append IsNoCall (here ses) es (all_append IsNoCall (leaving_events u n causes.spent) ses (tt, moves.2) quiet.2) rest.quiet;
        exits = flat_map-append exit_in (here ses) es
            ∙ (ap (λ l. l ++ flat_map exit_in es) ex
            ∙ ap (λ l. exit_told u (n ∷ ns) n ∷ l) (rest.exits ∙ map_alike (exit_told u1 ns) (exit_told u (n ∷ ns)) ns (all_map (λ m. n < m) (λ m. exit_told u1 ns m ≡ exit_told u (n ∷ ns) m) exits_alike ns above)));
        moves = flat_map-append move_in (here ses) es
            ∙ (ap (λ l. l ++ moves_in es) mv
            ∙ ap (λ l. payout_moves n (first_payout u (n ∷ ns) n) (slots_at u.rights.slots n) ++ l) (rest.moves ∙ flat_alike (paid_of u1 ns) (paid_of u (n ∷ ns)) ns (all_map (λ m. n < m) (λ m. paid_of u1 ns m ≡ paid_of u (n ∷ ns) m) moves_alike ns above)));
      }
    where
      exits_alike : (m : ℕ) → n < m → exit_told u1 ns m ≡ exit_told u (n ∷ ns) m
      exits_alike m lt =
          ap (λ k. record { seat = m; cause = causes.spent; payouts = payouts_from k (slots_at u1.rights.slots m) }) (sym (first_later m lt))
          ∙ ap (λ l. record { seat = m; cause = causes.spent; payouts = payouts_from (first_payout u (n ∷ ns) m) l }) (slots_other m (apart_from n m lt))

      moves_alike : (m : ℕ) → n < m → paid_of u1 ns m ≡ paid_of u (n ∷ ns) m
      moves_alike m lt =
          ap (λ k. payout_moves m k (slots_at u1.rights.slots m)) (sym (first_later m lt))
          ∙ ap (payout_moves m (first_payout u (n ∷ ns) m)) (slots_other m (apart_from n m lt))

-- ---- the rest of the world stays

-- what no exit and no settlement changes
pub record AreElsewhereSame (u v : State) : Type 0 where
  pub brands : v.brands ≡ u.brands
  pub makers : v.makers ≡ u.makers
  pub purses : v.rights.purses ≡ u.rights.purses
  pub out : v.rights.out ≡ u.rights.out
  pub invitations : v.invitations ≡ u.invitations
  pub facets : v.facets ≡ u.facets
  pub labels : v.labels ≡ u.labels
  pub schedule : v.schedule ≡ u.schedule
  pub tables : v.tables ≡ u.tables
  pub pairs : v.pairs ≡ u.pairs

-- ---- all are left

-- what comes of leaving these seats
pub record IsWithout (d : Delivery) (u v : State) (ns : List ℕ) : Type 0 where
  pub seats : AreLeft u v ns
  pub promises : AreSettled u.promises v.promises (IsByExit u ns)
  pub told : AreTold u.promises v.promises u.waiting v.waiting
  pub rows : List Event
  pub log : v.log ≡ u.log ++ rows
  pub tells : TellsExits u ns rows
  pub elsewhere : AreElsewhereSame u v
  pub front : IsGoodWorld (in_front d v)

none_left : (d : Delivery) (u : State) → IsGoodWorld (in_front d u) → IsWithout d u u []
none_left d u good = record {
  seats = record {
    left = λ s one. absurd one;
    others = λ s none. refl;
    empty = λ s one. absurd one;
    kept = λ s none. refl;
    payments = sym (append-nil u.rights.payments);
    as_many = refl;
    slotted = refl;
  };
  promises = record {
    settled = λ q x is. absurd is.left;
    first = λ q x is. absurd is.left;
    others = λ q none. refl;
    made = refl;
    follows = refl;
  };
  told = none_told u.promises u.waiting (good_behind u d good).asked;
  rows = [];
  log = sym (append-nil u.log);
  tells = record { quiet = tt; exits = refl; moves = refl };
  elsewhere = record { brands = refl; makers = refl; purses = refl; out = refl; invitations = refl; facets = refl; labels = refl; schedule = refl; tables = refl; pairs = refl };
  front = good;
}

more_left : (d : Delivery) (u v : State) (n : ℕ) (ns : List ℕ) → Above n ns → IsOpen (seat_at u.seats n) → IsGoodWorld (in_front d u) → IsWithout d (without u n) v ns → IsWithout d u v (n ∷ ns)
more_left d u v n ns above is_open front rest =
    let u1 = without u n in
    let good = good_behind u d front in
    let made : n < length u.seats = open_made u.seats n is_open in
    let slotted : n < length u.rights.slots = omega (arith, made, good.seats.slotted) in
    let p = (pair_at u.pairs n).payouts in
    let given = ok (payouts_tree u n) in
    let log = u.log ++ leaving_events u n causes.spent in
    let pends = pending_payouts u n is_open good in
    let first = settling_settles u.promises p given u.waiting log good.following pends in
    let one = one_paid u n ns above made slotted in
    let others = others_paid u n ns above made slotted first.follows in
    let parts = paid_parts u n ns above made slotted first.follows in
    let steps = steps_told given (cascade (length u.promises.settled) u.promises.follows p) (flowing u.promises u.waiting log) in
    record {
      seats = left_more u n ns above made slotted v rest.seats;
      promises = settled_both u.promises u1.promises v.promises (IsLed u.promises p given) (IsByExit u1 ns) (IsByExit u (n ∷ ns)) first rest.promises parts one others;
      told = told_both u.promises u1.promises v.promises u.waiting u1.waiting v.waiting
          (settling_tells u.promises p given u.waiting log good.following pends good.asked u1.waiting refl) rest.told
          (stays u.promises u1.promises v.promises (IsLed u.promises p given) (IsByExit u1 ns) (IsByExit u (n ∷ ns)) first rest.promises parts one others);
      rows = leaving_events u n causes.spent ++ (steps.added ++ rest.rows);
      log = rest.log
          ∙ (ap (λ l. l ++ rest.rows) steps.is
          ∙ (append_assoc log steps.added rest.rows
          ∙ append_assoc u.log (leaving_events u n causes.spent) (steps.added ++ rest.rows)));
      tells = subst (TellsExits u (n ∷ ns)) (append_assoc (leaving_events u n causes.spent) steps.added rest.rows) (rows_more u n ns above made slotted steps.added rest.rows steps.only rest.tells);
      elsewhere = record {
        brands = rest.elsewhere.brands;
        makers = rest.elsewhere.makers;
        purses = rest.elsewhere.purses;
        out = rest.elsewhere.out;
        invitations = rest.elsewhere.invitations;
        facets = rest.elsewhere.facets;
        labels = rest.elsewhere.labels;
        schedule = rest.elsewhere.schedule;
        tables = rest.elsewhere.tables;
        pairs = rest.elsewhere.pairs;
      };
      front = rest.front;
    }

-- the open seats of an instance are left
pub all_left : (d : Delivery) (u : State) (i : ℕ) (ns : List ℕ) → AreAllOpen u.seats i ns → IsGoodWorld (in_front d u) → IsWithout d u (after_all u (exits_with causes.spent ns)) ns
all_left d u i [] are good = none_left d u good
all_left d u i (n ∷ ns) are good =
    more_left d u (after_all (without u n) (exits_with causes.spent ns)) n ns are.apart.0 are.are_open.0 good
    (all_left d (without u n) i ns (others_are_open u.seats n (slots_at u.rights.slots n) i ns are) (front-after u d (exit n causes.spent) are.are_open.0 tt good))
