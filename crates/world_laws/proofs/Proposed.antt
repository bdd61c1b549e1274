-- Each seat keeps what it was opened for, a slot for each share of that, and what it had when it was left; its promises were made.
use Rattle.std.specs.Prelude.{IfSome, IsSomeAnd, slice_set}
use Rattle.std.specs.List.{AllByRecursion}
use Rattle.std.specs.Str.{bytes_eq}
use Rattle.std.proofs.Common.{◌≡◌, ◌≢◌, inl, inr, ℕ, ◌+◌, ◌≤◌, Bool, true, false, cond, List, [], ◌∷◌, ◌++◌, Some, None, Option, All, length, map, refl, sym, ◌∙◌, ap, subst, arith, if◌then◌else◌}
use Rattle.std.proofs.lemmas.Bool.{cases_eq}
use Rattle.std.proofs.lemmas.List.Elements.{All-head, All-tail}
use Rattle.std.proofs.lemmas.Slice.Eq.{bytes_eq-Decides}
use Rattle.world_state.proofs.lemmas.ListEdits.{length_push, length_set, read_before, read_other, read_pushed, read_set}
use Rattle.world_state.specs.amount_math.Amount.{Meet, holding}
use Rattle.world_state.specs.amount_math.Content.{nothing}
use Rattle.world_state.specs.amount_math.ValueView.{ValueView}
use Rattle.world_state.specs.amount_math.declared.Amount.{Amount}
use Rattle.world_state.specs.ertp_mint.BrandSupply.{BrandSupply, new_supply}
use Rattle.world_state.specs.actors.declared.instance_store.seat_promises.SeatPair.{SeatPair}
use Rattle.world_state.specs.host_data.Tree.{null}
use Rattle.world_state.specs.promise_store.States.{ok}
use Rattle.world_state.specs.proposals.Shares.{AreApart, AreShares, amount_under}
use Rattle.world_state.specs.proposals.Slots.{FitsSeat, emptied, in_byte_order, is_upto, placed, slots_of}
use Rattle.world_state.specs.proposals.declared.allocations.Share.{Share}
use Rattle.world_state.specs.proposals.declared.offers.Proposal.{Proposal}
use Rattle.world_state.proofs.proposals.ShareLists.{not_first, not_later}
use Rattle.world_state.specs.rights_model.declared.Holder.{Holder}
use Rattle.world_state.specs.rights_model.declared.Holder.TheVariants.{Slot}
use Rattle.world_state.specs.rights_model.declared.Movement.{Movement}
use Rattle.world_state.specs.vault_model.Lists.{amount_of, less, more}
use Rattle.world_state.specs.Good.{AreNamed, AreProposed, AreSharesOf, AreSharesValued, HasSlot, HaveSlots, IsGoodEffect, IsGoodWorld, IsLast, IsPair, IsProposal, IsSeat}
use Rattle.world_state.specs.Rights.{Rights, all_moved, given, moved, slots_at, taken, with_slots}
use Rattle.world_state.specs.Worlds.{Effect, Seat, State, after, burn_and_escrows, empty_slots, invitation_move, left_seat, new_seat, next_pair, no_seat, of_own, offered_by, promises_made, seat_at, empty_seat, exit, invite, moves, new_brand, offer}
use Rattle.world_laws.proofs.Growing.{grows-after}
use Rattle.world_laws.proofs.Instances.{open_made}
use Rattle.world_laws.proofs.Lists.{all_map, all_push, all_read_or}
use Rattle.world_laws.proofs.OfKinds.{KindsStay, shares_stay, same_together, stay_push, stay_same}
use Rattle.world_laws.proofs.SlotShares.{Carried, CarriesSlots, carried_emptied, carried_with, carries_refl, carries_set, carries_trans, has_carried, have_carried}

-- ---- what stands under a keyword of slots that a proposal opens

same_key : (a b : List ℕ) → bytes_eq a b ≡ true → a ≡ b
same_key a b e = (bytes_eq-Decides a b).0 e

-- both can't be
not_both : (q a b : List ℕ) → bytes_eq q a ≡ true → bytes_eq q b ≡ true → bytes_eq a b ≡ false → ⊥
not_both q a b e f apart = let clash : true ≡ false = sym ((bytes_eq-Decides a b).1 (sym (same_key q a e) ∙ same_key q b f)) ∙ apart in cc

under_placed : (q : List ℕ) (share : Share) (rs : List Share) → amount_under share.keyword rs ≡ None → amount_under q (placed share rs) ≡ amount_under q (share ∷ rs)
under_placed q share [] free = refl
under_placed q share (r ∷ rs) free = by (is_upto share.keyword r.keyword) (under_placed q share rs (not_later share.keyword r rs free))
  where
    turned : (b c : Bool) → bytes_eq q share.keyword ≡ b → bytes_eq q r.keyword ≡ c → cond c (Some r.amount) (cond b (Some share.amount) (amount_under q rs)) ≡ cond b (Some share.amount) (cond c (Some r.amount) (amount_under q rs))
    turned true true e f = absurd (not_both q share.keyword r.keyword e f (not_first share.keyword r rs free))
    turned true false e f = refl
    turned false true e f = refl
    turned false false e f = refl

    by : (t : Bool) → amount_under q (placed share rs) ≡ amount_under q (share ∷ rs) → amount_under q (if t then share ∷ r ∷ rs else r ∷ placed share rs) ≡ amount_under q (share ∷ r ∷ rs)
    by true e = refl
    by false e = ap (λ o. cond (bytes_eq q r.keyword) (Some r.amount) o) e ∙ turned (bytes_eq q share.keyword) (bytes_eq q r.keyword) refl refl

under_ordered : (q : List ℕ) (rs : List Share) → AreApart rs → amount_under q (in_byte_order rs) ≡ amount_under q rs
under_ordered q [] apart = refl
under_ordered q (r ∷ rs) apart =
    under_placed q r (in_byte_order rs) (under_ordered r.keyword rs apart.1 ∙ apart.0)
    ∙ ap (λ o. cond (bytes_eq q r.keyword) (Some r.amount) o) (under_ordered q rs apart.1)

-- an amount under a keyword of the first, or else of the second
abbrev pub first_of : Option Amount → Option Amount → Option Amount
first_of (Some a) o = Some a
first_of None o = o

first_cond : (b : Bool) (a : Amount) (o p : Option Amount) → cond b (Some a) (first_of o p) ≡ first_of (cond b (Some a) o) p
first_cond true a o p = refl
first_cond false a o p = refl

pub under_append : (q : List ℕ) (xs ys : List Share) → amount_under q (xs ++ ys) ≡ first_of (amount_under q xs) (amount_under q ys)
under_append q [] ys = refl
under_append q (x ∷ xs) ys = ap (λ o. cond (bytes_eq q x.keyword) (Some x.amount) o) (under_append q xs ys) ∙ first_cond (bytes_eq q x.keyword) x.amount (amount_under q xs) (amount_under q ys)

-- a share stands under its keyword
pub under_own : (rs : List Share) → AreApart rs → AllByRecursion (λ (r : Share). amount_under r.keyword rs ≡ Some r.amount) rs
under_own [] apart = tt
under_own (r ∷ rs) apart = (
  ap (λ t. cond t (Some r.amount) (amount_under r.keyword rs)) ((bytes_eq-Decides r.keyword r.keyword).1 refl),
  later rs apart.0 (under_own rs apart.1),
)
  where
    later_one : (x : Share) → amount_under x.keyword rs ≡ Some x.amount → (b : Bool) → bytes_eq x.keyword r.keyword ≡ b → cond b (Some r.amount) (amount_under x.keyword rs) ≡ Some x.amount
    later_one x e true f =
        let none : amount_under x.keyword rs ≡ None = subst (λ k. amount_under k rs ≡ None) (sym (same_key x.keyword r.keyword f)) apart.0 in
        let clash : None ≡ Some x.amount = sym none ∙ e in cc
    later_one x e false f = e

    later : (xs : List Share) → amount_under r.keyword rs ≡ None → AllByRecursion (λ (x : Share). amount_under x.keyword rs ≡ Some x.amount) xs → AllByRecursion (λ (x : Share). amount_under x.keyword (r ∷ rs) ≡ Some x.amount) xs
    later [] none all = tt
    later (x ∷ xs) none all = (later_one x all.0 (bytes_eq x.keyword r.keyword) refl, later xs none all.1)

-- a keyword of want isn't one of give
none_given : (q : List ℕ) (a : Amount) (want give : List Share) → amount_under q want ≡ Some a → All (λ (r : Share). amount_under r.keyword want ≡ None) give → amount_under q give ≡ None
none_given q a want [] e fits = refl
none_given q a want (r ∷ rs) e fits = by (bytes_eq q r.keyword) refl (none_given q a want rs e (All-tail (λ (x : Share). amount_under x.keyword want ≡ None) r rs fits))
  where
    free : amount_under r.keyword want ≡ None
    free = All-head (λ (x : Share). amount_under x.keyword want ≡ None) r rs fits

    by : (b : Bool) → bytes_eq q r.keyword ≡ b → amount_under q rs ≡ None → cond b (Some r.amount) (amount_under q rs) ≡ None
    by true f rest =
        let none : amount_under q want ≡ None = subst (λ k. amount_under k want ≡ None) (sym (same_key q r.keyword f)) free in
        let clash : None ≡ Some a = sym none ∙ e in cc
    by false f rest = rest

pub meets_by : (o : Option Amount) (a : Amount) → o ≡ Some a → IsSomeAnd o (λ x. Meet x a)
meets_by o a e = subst (λ p. IsSomeAnd p (λ x. Meet x a)) (sym e) (record { brand = refl; kind = refl })

module _ (p : Proposal) (fits : FitsSeat p) (give : AreShares p.give) (want : AreShares p.want) where
  gives_slot : (r : Share) → amount_under r.keyword p.give ≡ Some r.amount → HasSlot (slots_of p) r
  unfolding slots_of
  gives_slot r e =
      let at : amount_under r.keyword (in_byte_order p.give) ≡ Some r.amount = under_ordered r.keyword p.give give.apart ∙ e in
      meets_by (amount_under r.keyword (slots_of p)) r.amount (under_append r.keyword (in_byte_order p.give) (map emptied (in_byte_order p.want)) ∙ ap (λ o. first_of o (amount_under r.keyword (map emptied (in_byte_order p.want)))) at)

  wants_slot : (r : Share) → amount_under r.keyword p.want ≡ Some r.amount → HasSlot (slots_of p) r
  unfolding slots_of
  wants_slot r e =
      let none : amount_under r.keyword (in_byte_order p.give) ≡ None = under_ordered r.keyword p.give give.apart ∙ none_given r.keyword r.amount p.want p.give e fits.apart in
      let at : amount_under r.keyword (in_byte_order p.want) ≡ Some r.amount = under_ordered r.keyword p.want want.apart ∙ e in
      let whole : amount_under r.keyword (slots_of p) ≡ amount_under r.keyword (map emptied (in_byte_order p.want)) = under_append r.keyword (in_byte_order p.give) (map emptied (in_byte_order p.want)) ∙ ap (λ o. first_of o (amount_under r.keyword (map emptied (in_byte_order p.want)))) none in
      let had : HasSlot (in_byte_order p.want) r = meets_by (amount_under r.keyword (in_byte_order p.want)) r.amount at in
      subst (λ o. IsSomeAnd o (λ x. Meet x r.amount)) (sym whole) (has_carried (in_byte_order p.want) (map emptied (in_byte_order p.want)) r (carried_emptied r.keyword (in_byte_order p.want)) had)

  pub opened_slots : HaveSlots (empty_slots p) p
  opened_slots = record {
    give = have_carried (slots_of p) (empty_slots p) (λ q. carried_emptied q (slots_of p)) p.give (all_map (λ (r : Share). amount_under r.keyword p.give ≡ Some r.amount) (HasSlot (slots_of p)) gives_slot p.give (under_own p.give give.apart));
    want = have_carried (slots_of p) (empty_slots p) (λ q. carried_emptied q (slots_of p)) p.want (all_map (λ (r : Share). amount_under r.keyword p.want ≡ Some r.amount) (HasSlot (slots_of p)) wants_slot p.want (under_own p.want want.apart));
  }

-- ---- slots through movements

less_meets : (w : ValueView) (x : Amount) → Meet (less x w.content) x
less_meets w x = record { brand = refl; kind = refl }

more_meets : (w : ValueView) (x : Amount) → Meet (more x w.content) x
more_meets w x = record { brand = refl; kind = refl }

carries_taken : (r : Rights) (h : Holder) (b : ℕ) (w : ValueView) → CarriesSlots r.slots (taken r h b w).slots
carries_taken r (Slot s k) b w = carries_set r.slots s _ (λ q. carried_with k (λ x. less x w.content) (holding (amount_of b w) nothing) (less_meets w) q (slots_at r.slots s))
carries_taken r _ b w = carries_refl r.slots

carries_given : (r : Rights) (h : Holder) (b : ℕ) (w : ValueView) → CarriesSlots r.slots (given r h b w).slots
carries_given r (Slot s k) b w = carries_set r.slots s _ (λ q. carried_with k (λ x. more x w.content) (amount_of b w) (more_meets w) q (slots_at r.slots s))
carries_given r _ b w = carries_refl r.slots

carries_moved : (r : Rights) (ms : List Movement) → CarriesSlots r.slots (all_moved r ms).slots
carries_moved r [] = carries_refl r.slots
carries_moved r (m ∷ ms) =
    let t = taken r m.from m.brand m.value in
    carries_trans r.slots (moved r m).slots (all_moved r (m ∷ ms)).slots
    (carries_trans r.slots t.slots (moved r m).slots (carries_taken r m.from m.brand m.value) (carries_given t m.to m.brand m.value))
    (carries_moved (moved r m) ms)

-- ---- seats

have_slots_carried : (shares new : List Share) (p : Proposal) → ((q : List ℕ) → Carried (amount_under q shares) (amount_under q new)) → HaveSlots shares p → HaveSlots new p
have_slots_carried shares new p c has = record { give = have_carried shares new c p.give has.give; want = have_carried shares new c p.want has.want }

module _ (out new : List BrandSupply) (stay : KindsStay out new) where
  proposal_stays : (p : Proposal) → IsProposal out p → IsProposal new p
  proposal_stays p is = record {
    give = is.give;
    want = is.want;
    give_named = is.give_named;
    want_named = is.want_named;
    give_valued = is.give_valued;
    want_valued = is.want_valued;
    fits = is.fits;
    gives = shares_stay out new stay p.give is.gives;
    wants = shares_stay out new stay p.want is.wants;
    rule = is.rule;
  }

  last_stays : (o : Option (List Share)) (p : Proposal) → IfSome o (IsLast out p) → IfSome o (IsLast new p)
  last_stays None p is = tt
  last_stays (Some shares) p is = record { apart = is.apart; named = is.named; valued = is.valued; of_kinds = shares_stay out new stay shares is.of_kinds; slots = is.slots }

  seat_stays : (seat : Seat) (shares after_shares : List Share) → ((q : List ℕ) → Carried (amount_under q shares) (amount_under q after_shares)) → IsSeat out seat shares → IsSeat new seat after_shares
  seat_stays seat shares after_shares c is = record {
    proposal = proposal_stays seat.proposal is.proposal;
    slots = have_slots_carried shares after_shares seat.proposal c is.slots;
    last = last_stays seat.last seat.proposal is.last;
  }

  seats_stay : (seats : List Seat) (slots after_slots : List (List Share)) → CarriesSlots slots after_slots → AreProposed out seats slots → AreProposed new seats after_slots
  seats_stay seats slots after_slots c are = record { each = λ s lt. seat_stays (seat_at seats s) (slots_at slots s) (slots_at after_slots s) (c.each s) (are.each s lt) }

-- a seat more
proposed_push : (out : List BrandSupply) (seats : List Seat) (slots : List (List Share)) (new : Seat) (shares : List Share) → length slots ≡ length seats → IsSeat out new shares → AreProposed out seats slots → AreProposed out (seats ++ new ∷ []) (slots ++ shares ∷ [])
proposed_push out seats slots new shares as_many is are = record {
  each = λ s lt. elim (cases_eq (length seats) s) [
    | inl here ↦
        subst (λ (q : Seat). IsSeat out q (slots_at (slots ++ shares ∷ []) s)) (sym (read_pushed seats new no_seat s (sym here)))
        (subst (IsSeat out new) (sym (read_pushed slots shares [] s (sym here ∙ sym as_many))) is)
    | inr other ↦
        subst (λ (q : Seat). IsSeat out q (slots_at (slots ++ shares ∷ []) s)) (sym (read_before seats new no_seat s other))
        (subst (IsSeat out (seat_at seats s)) (sym (read_before slots shares [] s (λ e. other (sym as_many ∙ e)))) (are.each s (let apart : s ≢ length seats = λ e. other (sym e) in omega (arith, lt, apart, length_push seats new))))
  ];
}

no_shares_are : AreShares []
no_shares_are = record { few = omega arith; apart = tt }

pub proposed-after : (w : State) (e : Effect) → IsGoodEffect w e → IsGoodWorld w → AreProposed (after w e).rights.out (after w e).seats (after w e).rights.slots
proposed-after w (new_brand b maker) can good = seats_stay w.rights.out _ (stay_push w.rights.out (new_supply b.kind)) w.seats w.rights.slots w.rights.slots (carries_refl w.rights.slots) good.proposed
proposed-after w (moves ms) can good = seats_stay w.rights.out _ (stay_same w.rights.out _ (same_together w.rights ms)) w.seats w.rights.slots _ (carries_moved w.rights ms) good.proposed
proposed-after w (offer o) can good =
    let p = o.proposal in
    let shares = empty_slots p in
    let r = with_slots w.rights shares in
    let ms = burn_and_escrows o in
    let new = new_seat (offered_by w o).instance p in
    let is : IsSeat w.rights.out new shares = record { proposal = can.proposal; slots = opened_slots p can.proposal.fits can.proposal.give can.proposal.want; last = tt } in
    seats_stay w.rights.out _ (stay_same w.rights.out _ (same_together r ms)) (w.seats ++ new ∷ []) r.slots _ (carries_moved r ms)
    (proposed_push w.rights.out w.seats w.rights.slots new shares good.seats.slotted is good.proposed)
proposed-after w (empty_seat i rule) can good =
    proposed_push w.rights.out w.seats w.rights.slots (new_seat i (of_own rule)) [] good.seats.slotted
    (record {
      proposal = record {
        give = no_shares_are;
        want = no_shares_are;
        give_named = tt;
        want_named = tt;
        give_valued = tt;
        want_valued = tt;
        fits = record { apart = λ k d lt. absurd (omega (arith, lt)); few = omega arith };
        gives = tt;
        wants = tt;
        rule = can.timely;
      };
      slots = record { give = tt; want = tt };
      last = tt;
    })
    good.proposed
proposed-after w (exit n cause) can good =
    let shares = slots_at w.rights.slots n in
    let made = open_made w.seats n can in
    let was = good.proposed.each n made in
    let left = left_seat (seat_at w.seats n) shares in
    let slots = slice_set w.rights.slots n (map emptied shares) in
    let is : IsSeat w.rights.out left (map emptied shares) = record {
      proposal = was.proposal;
      slots = have_slots_carried shares (map emptied shares) (seat_at w.seats n).proposal (λ q. carried_emptied q shares) was.slots;
      last = record {
        apart = all_read_or AreShares w.rights.slots n [] good.seats.shares no_shares_are;
        named = all_read_or AreNamed w.rights.slots n [] good.seats.named tt;
        valued = all_read_or AreSharesValued w.rights.slots n [] good.valued.slots tt;
        of_kinds = all_read_or (AreSharesOf w.rights.out) w.rights.slots n [] good.slot_kinds tt;
        slots = was.slots;
      };
    } in
    record {
      each = λ s lt. elim (cases_eq n s) [
        | inl here ↦
            let at : IsSeat w.rights.out (seat_at (slice_set w.seats n left) n) (slots_at slots n) =
            subst (λ (q : Seat). IsSeat w.rights.out q (slots_at slots n)) (sym (read_set w.seats n left no_seat made))
            (subst (IsSeat w.rights.out left) (sym (read_set w.rights.slots n (map emptied shares) [] (omega (arith, made, good.seats.slotted)))) is) in
            subst (λ k. IsSeat w.rights.out (seat_at (slice_set w.seats n left) k) (slots_at slots k)) here at
        | inr other ↦
            subst (λ (q : Seat). IsSeat w.rights.out q (slots_at slots s)) (sym (read_other w.seats n s left no_seat other))
            (subst (IsSeat w.rights.out (seat_at w.seats s)) (sym (read_other w.rights.slots n s (map emptied shares) [] other)) (good.proposed.each s (omega (arith, lt, length_set w.seats n left))))
      ];
    }
proposed-after w (invite d) can good = seats_stay w.rights.out _ (stay_same w.rights.out _ (same_together w.rights (invitation_move w ∷ []))) w.seats w.rights.slots w.rights.slots (carries_refl w.rights.slots) good.proposed
proposed-after w _ can good = good.proposed

-- ---- its promises were made

pair_below : (m n : ℕ) → m ≤ n → (q : SeatPair) → IsPair m q → IsPair n q
pair_below m n le q is = record { results = omega (arith, is.results, le); payouts = omega (arith, is.payouts, le) }

pairs_grown : (w : State) (e : Effect) → IsGoodWorld w → AllByRecursion (IsPair (promises_made (after w e))) w.pairs
pairs_grown w e good = all_map (IsPair (promises_made w)) (IsPair (promises_made (after w e))) (pair_below (promises_made w) (promises_made (after w e)) (grows-after w e).promises) w.pairs good.paired

pub paired-after : (w : State) (e : Effect) → IsGoodWorld w → AllByRecursion (IsPair (promises_made (after w e))) (after w e).pairs
paired-after w (offer o) good =
    let ss = w.promises.settled in
    let more : promises_made (after w (offer o)) ≡ promises_made w + 2 = omega (arith, length_push ss None, length_push (ss ++ None ∷ []) None) in
    all_push (IsPair (promises_made (after w (offer o)))) w.pairs (next_pair w) (pairs_grown w (offer o) good) (record { results = omega (arith, more); payouts = omega (arith, more) })
paired-after w (empty_seat i rule) good =
    let ss = w.promises.settled in
    let more : promises_made (after w (empty_seat i rule)) ≡ promises_made w + 2 = omega (arith, length_push ss (Some (ok null)), length_push (ss ++ Some (ok null) ∷ []) None) in
    all_push (IsPair (promises_made (after w (empty_seat i rule)))) w.pairs (next_pair w) (pairs_grown w (empty_seat i rule) good) (record { results = omega (arith, more); payouts = omega (arith, more) })
paired-after w e good = pairs_grown w e good
