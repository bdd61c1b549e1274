-- The table agrees with the rights: what movements make of the rights, they make of the table.
use Rattle.std.specs.Prelude.{◌≡◌, ◌≢◌, ◌==◌, ℕ, zero, suc, cond, List, [], ◌∷◌, Option, Some, None, IfSome, slice_index_or, slice_set, refl}
use Rattle.std.specs.List.{AllByRecursion}
use Rattle.std.proofs.Common.{inl, inr, sym, ◌∙◌, ap, subst, arith}
use Rattle.std.proofs.lemmas.Bool.{eq-eqb, ne_eqb}
use Rattle.world_state.specs.amount_math.Content.{Content, Contains, count, count-nothing, difference, nothing, same_content, sum}
use Rattle.world_state.specs.amount_math.ValueView.{ValueView}
use Rattle.world_state.specs.amount_math.declared.Amount.{Amount}
use Rattle.world_state.specs.holders.PaymentViews.{PaymentView, payment_view_at, spent_payment}
use Rattle.world_state.specs.proposals.Shares.{amount_under}
use Rattle.world_state.specs.rights_model.declared.Holder.{Holder}
use Rattle.world_state.specs.rights_model.declared.Holder.TheVariants.{Purse, Payment, Slot, Hand, Outside}
use Rattle.world_state.specs.rights_model.declared.Movement.{Movement}
use Rattle.world_state.specs.rights_model.Place.{Place, place}
use Rattle.world_state.specs.rights_model.Table as table
use Rattle.world_state.specs.rights_model.Table.{Table, holds, movement, table_after}
use Rattle.world_state.proofs.rights_model.TableLaws.{given_outside, holds-given, holds-given_other, holds-taken, holds-taken_other, same_place, taken_outside}
use Rattle.world_state.specs.vault_model.Lists.{amount_of, purse_at}
use Rattle.world_state.specs.vault_model.Tables.{content_held, hand_minus, hand_plus, in_brand, no_hand, right_in, right_on}
use Rattle.world_state.specs.Good.{HasNothing, HoldsNothing}
use Rattle.world_state.specs.Rights.{CanGive, CanMove, CanMoveAll, CanTake, HasOrOpens, IsEmptyHand, IsPaymentWith, Has, Rights, all_moved, all_spent, given, hand_after, hand_in, hand_out, moved, moved_together, slots_at, spent_from, taken}
use Rattle.world_laws.specs.Tables.{Agrees, content_at, in_slot}
use Rattle.world_laws.proofs.Changes.{Change, IsStore, given_here, given_others, of_brand, taken_here, taken_others}

store_inside : (h : Holder) → IsStore h → h ≢ Outside
store_inside (Purse n) is e = cc
store_inside (Payment n) is e = cc
store_inside (Slot s k) is e = cc
store_inside Hand is e = absurd is
store_inside Outside is e = absurd is

-- where one holder's content of one brand changes, and nothing else
module _ (F G : Holder → ℕ → Content) (h : Holder) (b : ℕ) (x : Content) (here : Change (F h) (G h) b x) (others : (g : Holder) → g ≢ h → (e : ℕ) → G g e ≡ F g e) where
  elsewhere : (g : Holder) (e : ℕ) → place g e ≢ place h b → G g e ≡ F g e
  elsewhere g e apart = elim (same_place g h b b) [
    | inl at ↦
        let same : g ≡ h = ap (λ (p : Place). p.0) at in
        subst (λ y. G y e ≡ F y e) (sym same) (here.other e (λ is. apart (ap (λ y. place y e) same ∙ ap (place h) (sym is))))
    | inr differs ↦ others g (λ same. differs (ap (λ y. place y b) same)) e
  ]

module _ (r : Rights) (hand : ℕ → Content) (t : Table) (b : ℕ) (w : ValueView) (is : Agrees r hand t) where
  abbrev c : Content
  c = w.content

  agrees_taken : (h : Holder) → IsStore h → CanTake r hand h b w → Agrees (taken r h b w) hand (table.taken t h b c)
  agrees_taken h store can = record {
    each = λ g e. elim (same_place g h e b) [
      | inl at ↦ subst (λ (p : Place). holds (table.taken t h b c) p.0 p.1 ≡ content_at (taken r h b w) hand p.0 p.1) (sym at)
          (holds-taken t b c h (store_inside h store) ∙ ap (λ x. difference x c) (is.each h b) ∙ sym (taken_here r hand b w h store can).here)
      | inr apart ↦ holds-taken_other t b c h g e apart ∙ is.each g e
          ∙ sym (elsewhere (content_at r hand) (content_at (taken r h b w) hand) h b (difference (content_at r hand h b) c) (taken_here r hand b w h store can) (taken_others r hand b w h) g e apart)
    ];
  }

  agrees_given : (h : Holder) → IsStore h → CanGive r h b w → Agrees (given r h b w) hand (table.given t h b c)
  agrees_given h store can = record {
    each = λ g e. elim (same_place g h e b) [
      | inl at ↦ subst (λ (p : Place). holds (table.given t h b c) p.0 p.1 ≡ content_at (given r h b w) hand p.0 p.1) (sym at)
          (holds-given t b c h (store_inside h store) ∙ ap (λ x. sum x c) (is.each h b) ∙ sym (given_here r hand b w h store can).here)
      | inr apart ↦ holds-given_other t b c h g e apart ∙ is.each g e
          ∙ sym (elsewhere (content_at r hand) (content_at (given r h b w) hand) h b (sum (content_at r hand h b) c) (given_here r hand b w h store can) (given_others r hand b w h) g e apart)
    ];
  }

  -- the hand with more, and with less
  other_brand : (g : Holder) (e : ℕ) → place g e ≢ place g b → b ≢ e
  other_brand g e apart same = apart (ap (place g) (sym same))

  hand_elsewhere : (f : ℕ → Content) → ((e : ℕ) → b ≢ e → f e ≡ hand e) → (g : Holder) (e : ℕ) → place g e ≢ place Hand b → content_at r f g e ≡ content_at r hand g e
  hand_elsewhere f alike Hand e apart = alike e (other_brand Hand e apart)
  hand_elsewhere f alike (Purse n) e apart = refl
  hand_elsewhere f alike (Payment n) e apart = refl
  hand_elsewhere f alike (Slot s k) e apart = refl
  hand_elsewhere f alike Outside e apart = refl

  agrees_in_hand : Agrees r (hand_plus hand b c) (table.given t Hand b c)
  agrees_in_hand = record {
    each = λ g e. elim (same_place g Hand e b) [
      | inl at ↦ subst (λ (p : Place). holds (table.given t Hand b c) p.0 p.1 ≡ content_at r (hand_plus hand b c) p.0 p.1) (sym at)
          (holds-given t b c Hand (λ x. cc) ∙ ap (λ x. sum x c) (is.each Hand b) ∙ ap (λ y. cond y (sum (hand b) c) (hand b)) (sym (eq-eqb b b refl)))
      | inr apart ↦ holds-given_other t b c Hand g e apart ∙ is.each g e
          ∙ sym (hand_elsewhere (hand_plus hand b c) (λ q differs. ap (λ y. cond y (sum (hand q) c) (hand q)) (ne_eqb b q differs)) g e apart)
    ];
  }

  agrees_from_hand : Agrees r (hand_minus hand b c) (table.taken t Hand b c)
  agrees_from_hand = record {
    each = λ g e. elim (same_place g Hand e b) [
      | inl at ↦ subst (λ (p : Place). holds (table.taken t Hand b c) p.0 p.1 ≡ content_at r (hand_minus hand b c) p.0 p.1) (sym at)
          (holds-taken t b c Hand (λ x. cc) ∙ ap (λ x. difference x c) (is.each Hand b) ∙ ap (λ y. cond y (difference (hand b) c) (hand b)) (sym (eq-eqb b b refl)))
      | inr apart ↦ holds-taken_other t b c Hand g e apart ∙ is.each g e
          ∙ sym (hand_elsewhere (hand_minus hand b c) (λ q differs. ap (λ y. cond y (difference (hand q) c) (hand q)) (ne_eqb b q differs)) g e apart)
    ];
  }

  unread : (s : Rights) → s.purses ≡ r.purses → s.payments ≡ r.payments → s.slots ≡ r.slots → (g : Holder) (e : ℕ) → content_at s hand g e ≡ content_at r hand g e
  unread s ps qs ss (Purse n) e = ap (λ l. in_brand (right_in (purse_at l n)) e) ps
  unread s ps qs ss (Payment n) e = ap (λ l. in_brand (right_on (payment_view_at l n)) e) qs
  unread s ps qs ss (Slot q k) e = ap (λ l. in_slot (amount_under k (slots_at l q)) e) ss
  unread s ps qs ss Hand e = refl
  unread s ps qs ss Outside e = refl

  pub half_out : (h : Holder) → CanTake r hand h b w → Agrees (taken r h b w) (hand_out hand h b c) (table.taken t h b c)
  half_out (Purse n) can = agrees_taken (Purse n) tt can
  half_out (Payment n) can = agrees_taken (Payment n) tt can
  half_out (Slot s k) can = agrees_taken (Slot s k) tt can
  half_out Hand can = agrees_from_hand
  half_out Outside can = record { each = λ g e. ap (λ u. holds u g e) (taken_outside t b c) ∙ is.each g e ∙ sym (unread (taken r Outside b w) refl refl refl g e) }

  pub half_in : (h : Holder) → CanGive r h b w → Agrees (given r h b w) (hand_in hand h b c) (table.given t h b c)
  half_in (Purse n) can = agrees_given (Purse n) tt can
  half_in (Payment n) can = agrees_given (Payment n) tt can
  half_in (Slot s k) can = agrees_given (Slot s k) tt can
  half_in Hand can = agrees_in_hand
  half_in Outside can = record { each = λ g e. ap (λ u. holds u g e) (given_outside t b c) ∙ is.each g e ∙ sym (unread (given r Outside b w) refl refl refl g e) }

  -- what is taken is there
  contained : (h : Holder) → CanTake r hand h b w → h ≢ Outside → Contains (content_at r hand h b) c
  contained (Purse n) can inside = subst (λ (x : Content). Contains x c) (sym (of_brand (right_in (purse_at r.purses n)) b can.has.brand)) can.has.has
  contained (Payment n) can inside = by (payment_view_at r.payments n) can.has
    where
      by : (p : PaymentView) → IsPaymentWith p (λ a. Has a b w) → Contains (in_brand (right_on p) b) c
      by p has = of_held p.held has
        where
          of_held : (o : Option ValueView) → IsPaymentWith (record { brand = p.brand; held = o }) (λ a. Has a b w) → Contains (in_brand (record { brand = p.brand; content = content_held o }) b) c
          of_held None h = absurd h
          of_held (Some v) h = subst (λ (x : Content). Contains x c) (sym (of_brand (right_in (amount_of p.brand v)) b h.brand)) h.has
  contained (Slot s k) can inside = by (amount_under k (slots_at r.slots s)) can.has
    where
      by : (o : Option Amount) → HasOrOpens o (slots_at r.slots s) b w → Contains (in_slot o b) c
      by None h = record { each = λ q. omega (arith, h.0.each q) }
      by (Some a) h = subst (λ (x : Content). Contains x c) (sym (of_brand (right_in a) b h.brand)) h.has
  contained Hand can inside = can.has
  contained Outside can inside = absurd (inside refl)

  pub can_move : (h to : Holder) → CanTake r hand h b w → table.CanMove t (movement b h to w)
  can_move h to can = record { has = λ inside. subst (λ (x : Content). Contains x c) (sym (is.each h b)) (contained h can inside) }

pub agrees_moved : (r : Rights) (hand : ℕ → Content) (t : Table) (m : Movement) → CanMove r hand m → Agrees r hand t → Agrees (moved r m) (hand_after hand m) (table.moved t m)
agrees_moved r hand t m can is =
    half_in (taken r m.from m.brand m.value) (hand_out hand m.from m.brand m.value.content) (table.taken t m.from m.brand m.value.content) m.brand m.value (half_out r hand t m.brand m.value is m.from can.from) m.to can.to

pub can_all : (r : Rights) (hand : ℕ → Content) (t : Table) (ms : List Movement) → CanMoveAll r hand ms → Agrees r hand t → table.CanMoveAll t ms
can_all r hand t [] can is = tt
can_all r hand t (m ∷ ms) can is = (can_move r hand t m.brand m.value is m.from m.to can.0.from, can_all (moved r m) (hand_after hand m) (table.moved t m) ms can.1 (agrees_moved r hand t m can.0 is))

agrees_emptied : (r : Rights) (hand : ℕ → Content) (t : Table) → IsEmptyHand hand → Agrees r hand t → Agrees r no_hand t
agrees_emptied r hand t none is = record { each = λ g e. is.each g e ∙ same g e }
  where
    same : (g : Holder) (e : ℕ) → content_at r hand g e ≡ content_at r no_hand g e
    same Hand e = same_content (hand e) nothing (λ k. none.each e k ∙ sym (count-nothing k))
    same (Purse n) e = refl
    same (Payment n) e = refl
    same (Slot s k) e = refl
    same Outside e = refl

pub agrees_all : (r : Rights) (hand : ℕ → Content) (t : Table) (ms : List Movement) → CanMoveAll r hand ms → Agrees r hand t → Agrees (all_moved r ms) no_hand (table_after t ms)
agrees_all r hand t [] can is = agrees_emptied r hand t can is
agrees_all r hand t (m ∷ ms) can is = agrees_all (moved r m) (hand_after hand m) (table.moved t m) ms can.1 (agrees_moved r hand t m can.0 is)

-- ---- what was taken from is spent

-- a property of an element that is written, and of the one that is read, is one of what is read then
read_or : {X : Type 0} (P : X → Type 0) (xs : List X) (n q : ℕ) (x d : X) → P x → P (slice_index_or xs q d) → P (slice_index_or (slice_set xs n x) q d)
read_or P [] n q x d new old = old
read_or P (y ∷ ys) zero zero x d new old = new
read_or P (y ∷ ys) zero (suc q) x d new old = old
read_or P (y ∷ ys) (suc n) zero x d new old = old
read_or P (y ∷ ys) (suc n) (suc q) x d new old = read_or P ys n q x d new old

nothing_still : (g : Holder) (ps : List PaymentView) (h : Holder) → HasNothing ps h → HasNothing (spent_from g ps) h
nothing_still (Payment n) ps (Payment q) none = read_or HoldsNothing ps n q (spent_payment (payment_view_at ps n).brand) (spent_payment 0) tt none
nothing_still (Payment n) ps (Purse q) none = tt
nothing_still (Payment n) ps (Slot s k) none = tt
nothing_still (Payment n) ps Hand none = tt
nothing_still (Payment n) ps Outside none = tt
nothing_still (Purse n) ps h none = none
nothing_still (Slot s k) ps h none = none
nothing_still Hand ps h none = none
nothing_still Outside ps h none = none

all_still : (g : Holder) (ps : List PaymentView) (ms : List Movement) → AllByRecursion (λ (m : Movement). HasNothing ps m.from) ms → AllByRecursion (λ (m : Movement). HasNothing (spent_from g ps) m.from) ms
all_still g ps [] all = tt
all_still g ps (m ∷ ms) all = (nothing_still g ps m.from all.0, all_still g ps ms all.1)

-- a payment that has nothing is the same spent
same_spent : (p : PaymentView) → HoldsNothing p → (e : ℕ) → in_brand (right_on (spent_payment p.brand)) e ≡ in_brand (right_on p) e
same_spent p none e = by p.held none
  where
    by : (o : Option ValueView) → IfSome o (λ (w : ValueView). (k : List ℕ) → count w.content k ≡ 0) → cond (p.brand == e) nothing nothing ≡ cond (p.brand == e) (content_held o) nothing
    by None h = refl
    by (Some w) h = ap (λ x. cond (p.brand == e) x nothing) (sym (same_content w.content nothing (λ k. h k ∙ sym (count-nothing k))))

-- a read of a list with an element that reads the same
read_alike : (ps : List PaymentView) (n q : ℕ) (x : PaymentView) (e : ℕ) → in_brand (right_on x) e ≡ in_brand (right_on (payment_view_at ps n)) e → in_brand (right_on (payment_view_at (slice_set ps n x) q)) e ≡ in_brand (right_on (payment_view_at ps q)) e
read_alike [] n q x e same = refl
read_alike (p ∷ ps) zero zero x e same = same
read_alike (p ∷ ps) zero (suc q) x e same = refl
read_alike (p ∷ ps) (suc n) zero x e same = refl
read_alike (p ∷ ps) (suc n) (suc q) x e same = read_alike ps n q x e same

spent_alike : (h : Holder) (ps : List PaymentView) → HasNothing ps h → (q e : ℕ) → in_brand (right_on (payment_view_at (spent_from h ps) q)) e ≡ in_brand (right_on (payment_view_at ps q)) e
spent_alike (Payment n) ps none q e = read_alike ps n q (spent_payment (payment_view_at ps n).brand) e (same_spent (payment_view_at ps n) none e)
spent_alike (Purse n) ps none q e = refl
spent_alike (Slot s k) ps none q e = refl
spent_alike Hand ps none q e = refl
spent_alike Outside ps none q e = refl

all_alike : (ms : List Movement) (ps : List PaymentView) → AllByRecursion (λ (m : Movement). HasNothing ps m.from) ms → (q e : ℕ) → in_brand (right_on (payment_view_at (all_spent ms ps) q)) e ≡ in_brand (right_on (payment_view_at ps q)) e
all_alike [] ps all q e = refl
all_alike (m ∷ ms) ps all q e = all_alike ms (spent_from m.from ps) (all_still m.from ps ms all.1) q e ∙ spent_alike m.from ps all.0 q e

pub agrees_together : (r : Rights) (t : Table) (ms : List Movement) → CanMoveAll r no_hand ms → AllByRecursion (λ (m : Movement). HasNothing (all_moved r ms).payments m.from) ms → Agrees r no_hand t → Agrees (moved_together r ms) no_hand (table_after t ms)
agrees_together r t ms can emptied is = record { each = λ g e. (agrees_all r no_hand t ms can is).each g e ∙ sym (same g e) }
  where
    same : (g : Holder) (e : ℕ) → content_at (moved_together r ms) no_hand g e ≡ content_at (all_moved r ms) no_hand g e
    same (Payment q) e = all_alike ms (all_moved r ms).payments emptied q e
    same (Purse q) e = refl
    same (Slot s k) e = refl
    same Hand e = refl
    same Outside e = refl
