-- Transfers are read as the definition reads them, where the states are those of open seats.
use Rattle.std.specs.Prelude.{flat_map, map}
use Rattle.std.specs.List.{AllByRecursion, list_any}
use Rattle.std.specs.Option.{option_to_list}
use Rattle.std.proofs.Common.{◌≡◌, ℕ, Bool, cond, List, [], ◌∷◌, ◌++◌, Option, Some, None, Result, Ok, Err, inl, inr, refl, sym, ap, subst, ◌∙◌, ◌||◌, true, false, ◌==◌}
use Rattle.std.proofs.lemmas.Bool.{eq-eqb, eqb-true, false≢true}
use Rattle.rules.specs.call_arguments.Arguments.{object_in}
use Rattle.rules.specs.call_arguments.Numbers.{least}
use Rattle.host_data.specs.Amounts.{read_all}
use Rattle.share_transfers.proofs.rule_laws.Asked.{AreAsked, all_asked, named_in, seat_in_part, seats_are_named}
use Rattle.share_transfers.proofs.rule_laws.Rearranging.{IsStateOf, slots_there, stays_open}
use Rattle.share_transfers.proofs.rule_laws.Reallocating.{none_such_each}
use Rattle.share_transfers.proofs.rule_laws.GivenShares.{passed}
use Rattle.rules.specs.States.{allocation_of, seat_of, state_of, unstaged}
use Rattle.host_data.specs.Tree.{Tree}
use Rattle.host_data.specs.declared.data.ObjKind.TheVariants as kinds
use Rattle.rearrange.proofs.TestedConservation.{Named}
use Rattle.rearrange.specs.TestedPlans.{can_take_part}
use Rattle.rules.specs.proposals.declared.allocations.Share.{Share}
use Rattle.rules.specs.proposals.declared.plans.SeatState.{SeatState}
use Rattle.rearrange.specs.Seats as given
use Rattle.rearrange.specs.Seats.{has_exited}
use Rattle.rules.specs.call_arguments.Records.{ShareData, are_keywords}
use Rattle.refusals.proofs.Steps.{none_is}
use Rattle.refusals.specs.Codes.{bad_args, wrong_brand}
use Rattle.refusals.specs.Outcomes.{bind, none_such, wanted, ◌>>=◌, ◌>>◌}
use Rattle.refusals.specs.declared.codes.Refusal.{Refusal}
use Rattle.rules.specs.Given.{is_misfit, issuers_of}
use Rattle.rules.specs.Rearranging.{Asked, Parts, SeatShare, asked_in, gains_of, is_against, losses_of, share_for, shares_asked, shares_for, states_for, transfers_in, transfers_of, wrong_brands}
use Rattle.share_transfers.specs.Brands.{wrong_at}
use Rattle.share_transfers.specs.Reading.{share_tests, transfers_at}
use Rattle.share_transfers.specs.Views.{keywords_of}
use Rattle.rearrange_calls.proofs.SameStates.{part_same, slots_same}
use Rattle.rearrange_calls.proofs.Seated.{are_parts, seats_of}
use Rattle.rearrange_calls.specs.TransferStates.{AreStatesFor}
use Rattle.rearrange_calls.specs.Steps.{AreFromData}
use Rattle.rules.specs.world_state.Worlds.{IsOpen, State}

-- ---- states

unlike : (m n : ℕ) → (m == n) ≡ false → ¬ (m ≡ n)
unlike m n is same = absurd (false≢true (sym is ∙ eq-eqb m n same))

pub found_state : (w : State) (ns : List ℕ) (n : ℕ) → Named n ns → given.state_of (states_for w ns) n ≡ Some (unstaged (state_of w n))
unfolding state_of
found_state w [] n named = absurd named
found_state w (m ∷ ms) n named = by (m == n) refl named (found_state w ms n)
  where
    by : (b : Bool) → (m == n) ≡ b → Named n (m ∷ ms) → (Named n ms → given.state_of (states_for w ms) n ≡ Some (unstaged (state_of w n))) → cond b (Some (unstaged (state_of w m))) (given.state_of (states_for w ms) n) ≡ Some (unstaged (state_of w n))
    by true e there later = ap (λ k. Some (unstaged (state_of w k))) (eqb-true m n e)
    by false e (inl same) later = absurd (unlike m n e same)
    by false e (inr rest) later = later rest

pub state_given : (w : State) (ns : List ℕ) (n : ℕ) → Named n ns → IsStateOf w (states_for w ns) n
unfolding state_of
state_given w ns n named = record { state = unstaged (state_of w n); there = found_state w ns n named; proposal = refl; allocation = refl; is_open = refl }

each_at : (P : ℕ → Type 0) (ns : List ℕ) (n : ℕ) → AllByRecursion P ns → Named n ns → P n
each_at P [] n all named = absurd named
each_at P (m ∷ ms) n all (inl same) = subst P same all.0
each_at P (m ∷ ms) n all (inr rest) = each_at P ms n all.1 rest

module _ (w : State) (i : ℕ) (ns : List ℕ) (part : can_take_part i (states_for w ns) ns ≡ Ok tt) where
  none_exited : AllByRecursion (λ n. has_exited (states_for w ns) n ≡ false) ns
  unfolding can_take_part
  none_exited = none_such_each (has_exited (states_for w ns)) ns (none_is _ _ tt (passed _ _ part).1)

  pub open_at : (n : ℕ) → Named n ns → IsOpen (seat_of w n)
  open_at n named = stays_open w (states_for w ns) n (state_given w ns n named) (each_at (λ m. has_exited (states_for w ns) m ≡ false) ns n none_exited named)

  pub slots_at : (n : ℕ) → Named n ns → given.allocation_of (states_for w ns) n ≡ allocation_of w n
  slots_at n named = slots_there w (states_for w ns) n (state_given w ns n named) (open_at n named)

  -- ---- shares

  abbrev had : ℕ → List Share
  had = given.allocation_of (states_for w ns)

  wrong_same : (before ss : List SeatShare) → AllByRecursion (λ (s : SeatShare). Named s.seat ns) ss → wrong_brands w i before ss ≡ wrong_at (issuers_of w i) had before ss
  wrong_same before [] all = refl
  wrong_same before (s ∷ ss) all =
      ap (λ slots. cond (is_misfit (issuers_of w i) slots s.share || list_any (is_against s) before) (s.share.amount.brand ∷ wrong_brands w i (before ++ s ∷ []) ss) (wrong_brands w i (before ++ s ∷ []) ss)) (sym (slots_at s.seat all.0))
      ∙ ap (λ l. cond (is_misfit (issuers_of w i) (had s.seat) s.share || list_any (is_against s) before) (s.share.amount.brand ∷ l) l) (wrong_same (before ++ s ∷ []) ss all.1)

  -- all shares are of seats that are named
  all_append : (xs ys : List SeatShare) → AllByRecursion (λ (s : SeatShare). Named s.seat ns) xs → AllByRecursion (λ (s : SeatShare). Named s.seat ns) ys → AllByRecursion (λ (s : SeatShare). Named s.seat ns) (xs ++ ys)
  all_append [] ys one two = two
  all_append (x ∷ xs) ys one two = (one.0, all_append xs ys one.1 two)

  shares_named : (o : Option ℕ) (shares : List ShareData) → ((n : ℕ) → o ≡ Some n → Named n ns) → AllByRecursion (λ (s : SeatShare). Named s.seat ns) (shares_for o shares)
  shares_named None shares named = tt
  shares_named (Some n) shares named = each shares (named n refl)
    where
      each : (rs : List ShareData) → Named n ns → AllByRecursion (λ (s : SeatShare). Named s.seat ns) (map (share_for n) rs)
      each [] there = tt
      each (r ∷ rs) there = (there, each rs there)

  all_named : (k : ℕ) (parts : List Parts) (read : List Asked) → AreAsked w k parts read → ((n : ℕ) → Named n (flat_map named_in parts) → Named n ns) → AllByRecursion (λ (s : SeatShare). Named s.seat ns) (flat_map shares_asked read)
  all_named k [] [] asked named = tt
  all_named k [] (a ∷ rest) asked named = absurd asked
  all_named k (p ∷ ps) [] asked named = absurd asked
  all_named k (p ∷ ps) (a ∷ rest) asked named =
      all_append (shares_asked a) (flat_map shares_asked rest)
      (all_append (shares_for a.from (losses_of a)) (shares_for a.to (gains_of a))
      (shares_named a.from (losses_of a) (λ n at. named n (first (named_in p) (flat_map named_in ps) n (first (seat_in_part p.from) (seat_in_part p.to) n (in_part p.from n (sym asked.0.from ∙ at))))))
      (shares_named a.to (gains_of a) (λ n at. named n (first (named_in p) (flat_map named_in ps) n (second (seat_in_part p.from) (seat_in_part p.to) n (in_part p.to n (sym asked.0.to ∙ at)))))))
      (all_named k ps rest asked.1 (λ n there. named n (second (named_in p) (flat_map named_in ps) n there)))
    where
      first : (xs ys : List ℕ) (n : ℕ) → Named n xs → Named n (xs ++ ys)
      first [] ys n there = absurd there
      first (x ∷ xs) ys n (inl same) = inl same
      first (x ∷ xs) ys n (inr rest) = inr (first xs ys n rest)

      second : (xs ys : List ℕ) (n : ℕ) → Named n ys → Named n (xs ++ ys)
      second [] ys n there = there
      second (x ∷ xs) ys n there = inr (second xs ys n there)

      in_part : (t : Tree) (n : ℕ) → object_in kinds.Zseat t ≡ Some n → Named n (seat_in_part t)
      in_part t n at = subst (λ (o : Option ℕ). Named n (option_to_list o)) (sym at) (inl refl)

assoc : {A B C : Type 0} (r : Result A Refusal) (f : A → Result B Refusal) (g : B → Result C Refusal) → (r >>= (λ x. f x >>= g)) ≡ ((r >>= f) >>= g)
unfolding bind
assoc (Ok x) f g = refl
assoc (Err e) f g = refl

same_read : (w : State) (i : ℕ) (seats : List ℕ) (list : List Parts) → AreFromData w list → seats_of list ≡ Some seats → can_take_part i (states_for w seats) seats ≡ Ok tt → transfers_in w i list ≡ transfers_at (issuers_of w i) (given.allocation_of (states_for w seats)) list
unfolding transfers_in transfers_at share_tests wanted bind
same_read w i seats list input named part = by (read_all asked_in list) refl
  where
    by : (o : Option (List Asked)) → read_all asked_in list ≡ o → (wanted o (bad_args 1) >>= (λ read. are_keywords (keywords_of (flat_map shares_asked read)) >> (none_such (least (wrong_brands w i [] (flat_map shares_asked read))) wrong_brand >> transfers_of read))) ≡ (wanted o (bad_args 1) >>= (λ read. (are_keywords (keywords_of (flat_map shares_asked read)) >> none_such (least (wrong_at (issuers_of w i) (given.allocation_of (states_for w seats)) [] (flat_map shares_asked read))) wrong_brand) >> transfers_of read))
    by None at = refl
    by (Some read) at =
        let shares = flat_map shares_asked read in
        let all = all_named w i seats part input.caller list read (all_asked w input.caller list read (are_parts w list input) at) (λ n there. subst (Named n) (seats_are_named list seats named) there) in
        ap (λ (l : List ℕ). are_keywords (keywords_of shares) >> (none_such (least l) wrong_brand >> transfers_of read)) (wrong_same w i seats part [] shares all)
        ∙ assoc (are_keywords (keywords_of shares)) (λ _. none_such (least (wrong_at (issuers_of w i) (given.allocation_of (states_for w seats)) [] shares)) wrong_brand) (λ _. transfers_of read)

pub read_same : (w : State) (i : ℕ) (states : List SeatState) (seats : List ℕ) (list : List Parts) → AreFromData w list → seats_of list ≡ Some seats → AreStatesFor w seats states → can_take_part i states seats ≡ Ok tt → transfers_in w i list ≡ transfers_at (issuers_of w i) (given.allocation_of states) list
read_same w i states seats list input named are part =
    same_read w i seats list input named (sym (part_same states (states_for w seats) are i seats) ∙ part)
    ∙ ap (λ (has : ℕ → List Share). transfers_at (issuers_of w i) has list) (sym (slots_same states (states_for w seats) are))
