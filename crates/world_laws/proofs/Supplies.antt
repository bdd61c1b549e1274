-- What is out stays within its bounds, and brands and invitations stay such as they are to be.
use Rattle.std.specs.Prelude.{slice_set}
use Rattle.std.specs.List.{AllByRecursion}
use Rattle.std.specs.Ordering.{eq_by_cmp}
use Rattle.std.proofs.Common.{◌≡◌, ◌≢◌, inl, inr, ℕ, ◌+◌, ◌<◌, ◌≤◌, Bool, true, false, cond, List, [], ◌∷◌, ◌++◌, length, refl, sym, ◌∙◌, ap, subst, arith}
use Rattle.std.proofs.lemmas.Bool.{cases_eq, eq-eqb}
use Rattle.world_state.proofs.lemmas.ListEdits.{length_push, length_set, read_before, read_other, read_pushed, read_set}
use Rattle.world_state.specs.amount_math.Content.{Content, count, count-difference, count-nothing, count-one_of, count-sum, key_cmp, one_of, sum}
use Rattle.world_state.specs.amount_math.ValueView.{Fits, ValueView}
use Rattle.world_state.specs.amount_math.declared.Kind.TheVariants.{Nat, Set}
use Rattle.world_state.proofs.amount_math.Listed.{same_key}
use Rattle.world_state.proofs.amount_math.Together.{one_is_set}
use Rattle.world_state.specs.brands.Brands.{no_brand}
use Rattle.world_state.specs.brands.declared.Brand.{Brand}
use Rattle.world_state.specs.ertp_mint.BrandSupply.{BrandSupply, issued, new_supply, retired, supply_at}
use Rattle.world_state.specs.ertp_mint.Stocks.{most_made}
use Rattle.world_state.specs.turn_stores.Details.{DetailsView}
use Rattle.world_state.specs.turn_stores.Elements.{element}
use Rattle.world_state.specs.rights_model.declared.Holder.{Holder}
use Rattle.world_state.specs.rights_model.declared.Holder.TheVariants.{Purse, Payment, Slot, Hand, Outside}
use Rattle.world_state.specs.rights_model.declared.Movement.{Movement}
use Rattle.world_state.specs.vault_model.Tables.{no_hand}
use Rattle.world_state.specs.Good.{AreBrands, AreInvitations, IsGoodEffect, IsGoodMove, IsGoodWorld, IsInBounds, IsMintedInBounds}
use Rattle.world_state.specs.Rights.{CanMoveAll, CanTake, Rights, all_moved, given, hand_after, kind_at, moved, taken, with_slots, IsNextOr}
use Rattle.world_state.specs.Worlds.{Effect, Maker, Seat, State, after, burn_and_escrows, empty_slots, invitation_move, invitation_value, of_host, invite, moves, new_brand, offer}
use Rattle.world_laws.proofs.Elements.{counted-one_of, element_is_key, elements_apart, none_other}
use Rattle.world_laws.proofs.Lists.{all_push, all_read_or, all_set}
use Rattle.world_laws.proofs.OfKinds.{SameKinds, same_together}

-- ---- bounds

no_supply : IsInBounds (new_supply Nat)
no_supply = record { each = λ k. omega (arith, count-nothing k) }

bounded_taken : (r : Rights) (hand : ℕ → Content) (h : Holder) (b : ℕ) (w : ValueView) → kind_at r.out b ≡ w.kind → CanTake r hand h b w → AllByRecursion IsInBounds r.out → AllByRecursion IsInBounds (taken r h b w).out
bounded_taken r hand Outside b w kind can all = all_set IsInBounds r.out b (issued (supply_at r.out b) w.content) all (subst (λ z. Fits z (sum (supply_at r.out b).outstanding.content w.content)) (sym kind) can.fits)
bounded_taken r hand _ b w kind can all = all

bounded_given : (r : Rights) (h : Holder) (b : ℕ) (w : ValueView) → AllByRecursion IsInBounds r.out → AllByRecursion IsInBounds (given r h b w).out
bounded_given r Outside b w all =
    let was = all_read_or IsInBounds r.out b (new_supply Nat) all no_supply in
    all_set IsInBounds r.out b (retired (supply_at r.out b) w.content) all (record { each = λ k. omega (arith, was.each k, count-difference (supply_at r.out b).outstanding.content w.content k) })
bounded_given r _ b w all = all

bounded_moved : (r : Rights) (hand : ℕ → Content) (ms : List Movement) → CanMoveAll r hand ms → AllByRecursion IsInBounds r.out → AllByRecursion IsInBounds (all_moved r ms).out
bounded_moved r hand [] can all = all
bounded_moved r hand (m ∷ ms) can all =
    bounded_moved (moved r m) (hand_after hand m) ms can.1 (bounded_given (taken r m.from m.brand m.value) m.to m.brand m.value (bounded_taken r hand m.from m.brand m.value can.0.kind can.0.from all))

-- ---- what was minted

minted_taken : (r : Rights) (hand : ℕ → Content) (h : Holder) (b : ℕ) (w : ValueView) → CanTake r hand h b w → AllByRecursion IsMintedInBounds r.out → AllByRecursion IsMintedInBounds (taken r h b w).out
minted_taken r hand Outside b w can all = all_set IsMintedInBounds r.out b (issued (supply_at r.out b) w.content) all can.minted
minted_taken r hand _ b w can all = all

minted_given : (r : Rights) (h : Holder) (b : ℕ) (w : ValueView) → AllByRecursion IsMintedInBounds r.out → AllByRecursion IsMintedInBounds (given r h b w).out
minted_given r Outside b w all = all_set IsMintedInBounds r.out b (retired (supply_at r.out b) w.content) all (all_read_or IsMintedInBounds r.out b (new_supply Nat) all (omega arith))
minted_given r _ b w all = all

minted_moved : (r : Rights) (hand : ℕ → Content) (ms : List Movement) → CanMoveAll r hand ms → AllByRecursion IsMintedInBounds r.out → AllByRecursion IsMintedInBounds (all_moved r ms).out
minted_moved r hand [] can all = all
minted_moved r hand (m ∷ ms) can all =
    minted_moved (moved r m) (hand_after hand m) ms can.1 (minted_given (taken r m.from m.brand m.value) m.to m.brand m.value (minted_taken r hand m.from m.brand m.value can.0.from all))

-- ---- an invitation can be made

one_more : (out : Content) (k : List ℕ) (most : ℕ) → 1 ≤ most → count out k ≡ 0 → ((q : List ℕ) → count out q ≤ most) → (q : List ℕ) → count (sum out (one_of k)) q ≤ most
one_more out k most some new few q = omega (arith, count-sum out (one_of k) q, count-one_of k q, by_test (eq_by_cmp key_cmp q k) refl)
  where
    by_test : (b : Bool) → eq_by_cmp key_cmp q k ≡ b → count out q + cond b 1 0 ≤ most
    by_test true same = omega (arith, some, new, ap (count out) (same_key q k same))
    by_test false other = omega (arith, few q)

Fits-one_more : (out : Content) (k : List ℕ) → count out k ≡ 0 → Fits Set out → Fits Set (sum out (one_of k))
Fits-one_more out k new fits = record { each = one_more out k 1 (omega arith) new fits.each }

first_is_set : (w : State) → IsGoodWorld w → kind_at w.rights.out 0 ≡ Set
first_is_set w good = good.brands.kinds 0 ∙ good.brands.first

pub can_invite : (w : State) → IsGoodWorld w → length w.invitations < most_made → CanMoveAll w.rights no_hand (invitation_move w ∷ [])
can_invite w good few =
    let n = length w.invitations in
    let out = (supply_at w.rights.out 0).outstanding.content in
    let new : count out (element n) ≡ 0 = good.invited.made (element n) (λ i earlier same. elements_apart n i (omega (arith, earlier, few)) earlier same) in
    let was = all_read_or IsInBounds w.rights.out 0 (new_supply Nat) good.bounded no_supply in (
      record {
        brand = omega (arith, good.brands.some, good.brands.supplies);
        kind = first_is_set w good;
        from = record {
          fits = Fits-one_more out (element n) new (subst (λ z. Fits z out) (first_is_set w good) was);
          minted = omega (arith, counted-one_of (element n), good.invited.once, few);
        };
        to = subst (λ t. IsNextOr t (taken w.rights Outside 0 (invitation_value n)) (length w.rights.payments) 0 (invitation_value n)) (sym (eq-eqb (length w.rights.payments) (length w.rights.payments) refl)) (one_is_set (element n) (element_is_key (element n) n refl (omega (arith, few))));
      },
      record { each = λ b k. count-nothing k },
    )

pub bounded-after : (w : State) (e : Effect) → IsGoodEffect w e → IsGoodWorld w → AllByRecursion IsInBounds (after w e).rights.out
bounded-after w (new_brand b maker) can good = all_push IsInBounds w.rights.out (new_supply b.kind) good.bounded (record { each = λ k. omega (arith, count-nothing k) })
bounded-after w (moves ms) can good = bounded_moved w.rights no_hand ms can.can good.bounded
bounded-after w (offer o) can good = bounded_moved (with_slots w.rights (empty_slots o.proposal)) no_hand (burn_and_escrows o) can.moves.can good.bounded
bounded-after w (invite d) can good = bounded_moved w.rights no_hand (invitation_move w ∷ []) (can_invite w good can.few) good.bounded
bounded-after w _ can good = good.bounded

pub minted-after : (w : State) (e : Effect) → IsGoodEffect w e → IsGoodWorld w → AllByRecursion IsMintedInBounds (after w e).rights.out
minted-after w (new_brand b maker) can good = all_push IsMintedInBounds w.rights.out (new_supply b.kind) good.minted (omega arith)
minted-after w (moves ms) can good = minted_moved w.rights no_hand ms can.can good.minted
minted-after w (offer o) can good = minted_moved (with_slots w.rights (empty_slots o.proposal)) no_hand (burn_and_escrows o) can.moves.can good.minted
minted-after w (invite d) can good = minted_moved w.rights no_hand (invitation_move w ∷ []) (can_invite w good can.few) good.minted
minted-after w _ can good = good.minted

-- ---- brands

brands_same : (bs : List Brand) (ms : List Maker) (out new : List BrandSupply) → SameKinds out new → AreBrands bs ms out → AreBrands bs ms new
brands_same bs ms out new same is = record {
  some = is.some;
  few = is.few;
  supplies = same.as_many ∙ is.supplies;
  made_by = is.made_by;
  kinds = λ b. same.kind b ∙ is.kinds b;
  first = is.first;
  host = is.host;
}

pub brands-after : (w : State) (e : Effect) → IsGoodEffect w e → IsGoodWorld w → AreBrands (after w e).brands (after w e).makers (after w e).rights.out
brands-after w (new_brand b maker) can good =
    let is = good.brands in
    record {
      some = omega (arith, is.some, length_push w.brands b);
      few = omega (arith, can.few, length_push w.brands b);
      supplies = omega (arith, is.supplies, length_push w.brands b, length_push w.rights.out (new_supply b.kind));
      made_by = omega (arith, is.made_by, length_push w.brands b, length_push w.makers maker);
      kinds = λ n. elim (cases_eq (length w.brands) n) [
        | inl same ↦ ap (λ (s : BrandSupply). s.outstanding.kind) (read_pushed w.rights.out (new_supply b.kind) (new_supply Nat) n (sym same ∙ sym is.supplies)) ∙ sym (ap (λ (x : Brand). x.kind) (read_pushed w.brands b no_brand n (sym same)))
        | inr other ↦ ap (λ (s : BrandSupply). s.outstanding.kind) (read_before w.rights.out (new_supply b.kind) (new_supply Nat) n (λ e. other (sym is.supplies ∙ e))) ∙ (is.kinds n ∙ sym (ap (λ (x : Brand). x.kind) (read_before w.brands b no_brand n other)))
      ];
      first = ap (λ (x : Brand). x.kind) (read_before w.brands b no_brand 0 (λ (e : length w.brands ≡ 0). absurd (omega (arith, e, is.some)))) ∙ is.first;
      host = read_before w.makers maker of_host 0 (λ (e : length w.makers ≡ 0). absurd (omega (arith, e, is.some, is.made_by))) ∙ is.host;
    }
brands-after w (moves ms) can good = brands_same w.brands w.makers w.rights.out _ (same_together w.rights ms) good.brands
brands-after w (offer o) can good = brands_same w.brands w.makers w.rights.out _ (same_together (with_slots w.rights (empty_slots o.proposal)) (burn_and_escrows o)) good.brands
brands-after w (invite d) can good = brands_same w.brands w.makers w.rights.out _ (same_together w.rights (invitation_move w ∷ [])) good.brands
brands-after w _ can good = good.brands

-- ---- invitations

invited_same : (out new : List BrandSupply) (ds : List DetailsView) → supply_at new 0 ≡ supply_at out 0 → AreInvitations out ds → AreInvitations new ds
invited_same out new ds same is = record {
  once = subst (λ (s : BrandSupply). s.minted ≤ length ds) (sym same) is.once;
  made = λ k none. ap (λ (s : BrandSupply). count s.outstanding.content k) same ∙ is.made k none;
}

invited_taken : (r : Rights) (h : Holder) (b : ℕ) (w : ValueView) (ds : List DetailsView) → (h ≡ Outside → b ≢ 0) → AreInvitations r.out ds → AreInvitations (taken r h b w).out ds
invited_taken r Outside b w ds other is = invited_same r.out (taken r Outside b w).out ds (read_other r.out b 0 (issued (supply_at r.out b) w.content) (new_supply Nat) (other refl)) is
invited_taken r (Purse n) b w ds other is = is
invited_taken r (Payment n) b w ds other is = is
invited_taken r (Slot s k) b w ds other is = is
invited_taken r Hand b w ds other is = is

invited_given : (r : Rights) (h : Holder) (b : ℕ) (w : ValueView) (ds : List DetailsView) → b < length r.out → AreInvitations r.out ds → AreInvitations (given r h b w).out ds
invited_given r Outside b w ds made is = elim (cases_eq b 0) [
  | inl same ↦
      let new = retired (supply_at r.out b) w.content in
      let at : supply_at (slice_set r.out b new) 0 ≡ retired (supply_at r.out 0) w.content = subst (λ n. supply_at (slice_set r.out b new) n ≡ retired (supply_at r.out n) w.content) same (read_set r.out b new (new_supply Nat) made) in
      record {
        once = subst (λ (s : BrandSupply). s.minted ≤ length ds) (sym at) is.once;
        made = λ k none. ap (λ (s : BrandSupply). count s.outstanding.content k) at ∙ omega (arith, count-difference (supply_at r.out 0).outstanding.content w.content k, is.made k none);
      }
  | inr other ↦ invited_same r.out (given r Outside b w).out ds (read_other r.out b 0 (retired (supply_at r.out b) w.content) (new_supply Nat) other) is
]
invited_given r _ b w ds made is = is

taken_out : (r : Rights) (h : Holder) (b : ℕ) (w : ValueView) → length (taken r h b w).out ≡ length r.out
taken_out r Outside b w = length_set r.out b _
taken_out r _ b w = refl

invited_moved : (r : Rights) (hand : ℕ → Content) (seats : List Seat) (ms : List Movement) (ds : List DetailsView) → CanMoveAll r hand ms → AllByRecursion (IsGoodMove seats) ms → AreInvitations r.out ds → AreInvitations (all_moved r ms).out ds
invited_moved r hand seats [] ds can good is = is
invited_moved r hand seats (m ∷ ms) ds can good is =
    invited_moved (moved r m) (hand_after hand m) seats ms ds can.1 good.1
    (invited_given (taken r m.from m.brand m.value) m.to m.brand m.value ds (omega (arith, can.0.brand, taken_out r m.from m.brand m.value)) (invited_taken r m.from m.brand m.value ds good.0.brings is))

pub invited-after : (w : State) (e : Effect) → IsGoodEffect w e → IsGoodWorld w → AreInvitations (after w e).rights.out (after w e).invitations
invited-after w (new_brand b maker) can good = invited_same w.rights.out _ w.invitations (read_before w.rights.out (new_supply b.kind) (new_supply Nat) 0 (λ (e : length w.rights.out ≡ 0). absurd (omega (arith, e, good.brands.some, good.brands.supplies)))) good.invited
invited-after w (moves ms) can good = invited_moved w.rights no_hand w.seats ms w.invitations can.can can.good good.invited
invited-after w (offer o) can good = invited_moved (with_slots w.rights (empty_slots o.proposal)) no_hand _ (burn_and_escrows o) w.invitations can.moves.can can.moves.good good.invited
invited-after w (invite d) can good =
    let n = length w.invitations in
    let s = supply_at w.rights.out 0 in
    let more = length_push w.invitations d in
    let at : supply_at (slice_set w.rights.out 0 (issued s (one_of (element n)))) 0 ≡ issued s (one_of (element n)) = read_set w.rights.out 0 _ (new_supply Nat) (omega (arith, good.brands.some, good.brands.supplies)) in
    record {
      once = subst (λ (x : BrandSupply). x.minted ≤ length (w.invitations ++ d ∷ [])) (sym at) (omega (arith, more, good.invited.once, counted-one_of (element n)));
      made = λ k none. ap (λ (x : BrandSupply). count x.outstanding.content k) at ∙ omega (
        arith,
        count-sum s.outstanding.content (one_of (element n)) k,
        good.invited.made k (λ i lt. none i (omega (arith, lt, more))),
        none_other (element n) k (none n (omega (arith, more))),
      );
    }
invited-after w _ can good = good.invited
