-- What a half of a movement changes of what is held: of one holder one brand's content, and nothing else.
use Rattle.std.specs.Prelude.{◌≡◌, ◌≢◌, ◌==◌, ℕ, zero, suc, Bool, true, false, cond, List, [], ◌∷◌, ◌++◌, Option, Some, None, length, slice_set, refl}
use Rattle.std.specs.Option.{option_map, option_map_or}
use Rattle.std.specs.Str.{bytes_eq}
use Rattle.std.proofs.Common.{inl, inr, sym, ◌∙◌, ap, subst, arith}
use Rattle.std.proofs.lemmas.Bool.{cases_eq, eq-eqb, ne_eqb}
use Rattle.std.proofs.lemmas.Slice.Eq.{bytes_eq-Decides}
use Rattle.world_state.specs.amount_math.Amount.{holding}
use Rattle.world_state.specs.amount_math.Content.{Content, nothing, sum, difference, nothing-difference, nothing-sum}
use Rattle.world_state.specs.amount_math.ValueView.{ValueView}
use Rattle.world_state.specs.amount_math.declared.Amount.{Amount}
use Rattle.world_state.specs.ertp_mint.Stocks.{no_amount}
use Rattle.world_state.proofs.lemmas.ListEdits.{read_before, read_other, read_past, read_pushed, read_set}
use Rattle.world_state.specs.holders.PaymentViews.{PaymentView, live_payment, payment_view_at, spent_payment}
use Rattle.world_state.specs.proposals.Shares.{amount_under}
use Rattle.world_state.specs.proposals.declared.allocations.Share.{Share}
use Rattle.world_state.specs.rights_model.declared.Holder.{Holder}
use Rattle.world_state.specs.rights_model.declared.Holder.TheVariants.{Purse, Payment, Slot, Hand, Outside}
use Rattle.world_state.specs.vault_model.Lists.{amount_of, less, more, purse_at}
use Rattle.world_state.specs.vault_model.Tables.{Right, in_brand, right_in, right_on}
use Rattle.world_state.specs.Rights.{CanGive, CanTake, Has, HasOrOpens, IsNextOr, IsPaymentWith, PaymentMore, Rights, Takes, TakesOrOpens, changed_share, given, paid, lessened_payment, raised_payment, paid_payment, shares_less, shares_more, shares_with, slots_at, taken, value_less, value_more}
use Rattle.world_laws.specs.Tables.{content_at, in_slot}

-- ---- of one brand

-- of what is had of each brand, that of one brand is now this, all else as it was
pub record Change (x y : ℕ → Content) (b : ℕ) (c : Content) : Type 0 where
  pub here : y b ≡ c
  pub other : (e : ℕ) → b ≢ e → y e ≡ x e

pub of_brand : (r : Right) (b : ℕ) → r.brand ≡ b → in_brand r b ≡ r.content
of_brand r b e = ap (λ x. cond x r.content nothing) (eq-eqb r.brand b e)

pub of_other : (r : Right) (b : ℕ) → r.brand ≢ b → in_brand r b ≡ nothing
of_other r b apart = ap (λ x. cond x r.content nothing) (ne_eqb r.brand b apart)

pub none_either : (x : Bool) → cond x nothing nothing ≡ nothing
none_either true = refl
none_either false = refl

abbrev of_content : Right → Content → Right
of_content r c = record { brand = r.brand; content = c }

changed : (r : Right) (b : ℕ) (c : Content) → r.brand ≡ b → Change (in_brand r) (in_brand (of_content r c)) b c
changed r b c brand = record {
  here = of_brand (of_content r c) b brand;
  other = λ e apart. of_other (of_content r c) e (λ is. apart (sym brand ∙ is)) ∙ sym (of_other r e (λ is. apart (sym brand ∙ is)));
}

lessened : (r : Right) (b : ℕ) (c : Content) → r.brand ≡ b → Change (in_brand r) (in_brand (of_content r (difference r.content c))) b (difference (in_brand r b) c)
lessened r b c brand = subst (λ x. Change (in_brand r) (in_brand (of_content r (difference r.content c))) b (difference x c)) (sym (of_brand r b brand)) (changed r b (difference r.content c) brand)

raised : (r : Right) (b : ℕ) (c : Content) → r.brand ≡ b → Change (in_brand r) (in_brand (of_content r (sum r.content c))) b (sum (in_brand r b) c)
raised r b c brand = subst (λ x. Change (in_brand r) (in_brand (of_content r (sum r.content c))) b (sum x c)) (sym (of_brand r b brand)) (changed r b (sum r.content c) brand)

-- ---- shares under keywords

pub bytes_same : (k : List ℕ) → bytes_eq k k ≡ true
bytes_same k = (bytes_eq-Decides k k).1 refl

not_true : (t : Bool) → (t ≡ true → ⊥) → t ≡ false
not_true true never = absurd (never refl)
not_true false _ = refl

pub bytes_differ : (j k : List ℕ) → j ≢ k → bytes_eq j k ≡ false
bytes_differ j k apart = not_true (bytes_eq j k) (λ is. apart ((bytes_eq-Decides j k).0 is))

module _ (k : List ℕ) (f : Amount → Amount) (new : Amount) where
  pub under_with : (rs : List Share) → amount_under k (shares_with k f new rs) ≡ Some (option_map_or f (amount_under k rs) new)
  under_with [] = ap (λ t. cond t (Some new) None) (bytes_same k)
  under_with (r ∷ rs) = by (bytes_eq k r.keyword) refl (under_with rs)
    where
      by : (t : Bool) → bytes_eq k r.keyword ≡ t → amount_under k (shares_with k f new rs) ≡ Some (option_map_or f (amount_under k rs) new)
          → amount_under k (cond t (changed_share f r ∷ rs) (r ∷ shares_with k f new rs)) ≡ Some (option_map_or f (cond t (Some r.amount) (amount_under k rs)) new)
      by true is later = ap (λ t. cond t (Some (f r.amount)) (amount_under k rs)) is
      by false is later = ap (λ t. cond t (Some r.amount) (amount_under k (shares_with k f new rs))) is ∙ later

  pub under_other : (j : List ℕ) → j ≢ k → (rs : List Share) → amount_under j (shares_with k f new rs) ≡ amount_under j rs
  under_other j apart [] = ap (λ t. cond t (Some new) None) (bytes_differ j k apart)
  under_other j apart (r ∷ rs) = by (bytes_eq k r.keyword) refl (under_other j apart rs)
    where
      by : (t : Bool) → bytes_eq k r.keyword ≡ t → amount_under j (shares_with k f new rs) ≡ amount_under j rs
          → amount_under j (cond t (changed_share f r ∷ rs) (r ∷ shares_with k f new rs)) ≡ amount_under j (r ∷ rs)
      by true is later =
          let away : bytes_eq j r.keyword ≡ false = bytes_differ j r.keyword (λ same. apart (same ∙ sym ((bytes_eq-Decides k r.keyword).0 is))) in
          ap (λ t. cond t (Some (f r.amount)) (amount_under j rs)) away ∙ sym (ap (λ t. cond t (Some r.amount) (amount_under j rs)) away)
      by false is later = ap (λ o. cond (bytes_eq j r.keyword) (Some r.amount) o) later

slot_less : (k : List ℕ) (b : ℕ) (w : ValueView) (rs : List Share) → HasOrOpens (amount_under k rs) rs b w
    → Change (in_slot (amount_under k rs)) (in_slot (amount_under k (shares_less k (amount_of b w) rs))) b (difference (in_slot (amount_under k rs) b) w.content)
slot_less k b w rs can = subst (λ o. Change (in_slot (amount_under k rs)) (in_slot o) b (difference (in_slot (amount_under k rs) b) w.content)) (sym (under_with k (λ had. less had w.content) (holding (amount_of b w) nothing) rs)) (by (amount_under k rs) can)
  where
    by : (o : Option Amount) → HasOrOpens o rs b w → Change (in_slot o) (in_slot (Some (option_map_or (λ had. less had w.content) o (holding (amount_of b w) nothing)))) b (difference (in_slot o b) w.content)
    by None h = record {
      here = none_either (b == b) ∙ sym (nothing-difference w.content);
      other = λ e apart. none_either (b == e);
    }
    by (Some a) h = lessened (right_in a) b w.content h.brand

slot_more : (k : List ℕ) (b : ℕ) (w : ValueView) (rs : List Share) → TakesOrOpens (amount_under k rs) rs b w
    → Change (in_slot (amount_under k rs)) (in_slot (amount_under k (shares_more k (amount_of b w) rs))) b (sum (in_slot (amount_under k rs) b) w.content)
slot_more k b w rs can = subst (λ o. Change (in_slot (amount_under k rs)) (in_slot o) b (sum (in_slot (amount_under k rs) b) w.content)) (sym (under_with k (λ had. more had w.content) (amount_of b w) rs)) (by (amount_under k rs) can)
  where
    by : (o : Option Amount) → TakesOrOpens o rs b w → Change (in_slot o) (in_slot (Some (option_map_or (λ had. more had w.content) o (amount_of b w)))) b (sum (in_slot o b) w.content)
    by None h = record {
      here = of_brand (right_in (amount_of b w)) b refl ∙ sym (nothing-sum w.content);
      other = λ e apart. of_other (right_in (amount_of b w)) e apart;
    }
    by (Some a) h = raised (right_in a) b w.content h.brand

-- ---- payments

-- a payment that has this
abbrev holding_now : PaymentView → Option ValueView → PaymentView
holding_now p h = record { brand = p.brand; held = h }

payment_less : (p : PaymentView) (b : ℕ) (w : ValueView) → IsPaymentWith p (λ a. Has a b w) → Change (in_brand (right_on p)) (in_brand (right_on (lessened_payment p w.content))) b (difference (in_brand (right_on p) b) w.content)
payment_less p b w has = by p.held has
  where
    by : (h : Option ValueView) → IsPaymentWith (holding_now p h) (λ a. Has a b w) → Change (in_brand (right_on (holding_now p h))) (in_brand (right_on (holding_now p (option_map (value_less w.content) h)))) b (difference (in_brand (right_on (holding_now p h)) b) w.content)
    by None h = absurd h
    by (Some v) h = lessened (right_in (amount_of p.brand v)) b w.content h.brand

payment_more : (p : PaymentView) (b : ℕ) (w : ValueView) → IsPaymentWith p (λ a. Takes a b w) → Change (in_brand (right_on p)) (in_brand (right_on (raised_payment p w.content))) b (sum (in_brand (right_on p) b) w.content)
payment_more p b w has = by p.held has
  where
    by : (h : Option ValueView) → IsPaymentWith (holding_now p h) (λ a. Takes a b w) → Change (in_brand (right_on (holding_now p h))) (in_brand (right_on (holding_now p (option_map (value_more w.content) h)))) b (sum (in_brand (right_on (holding_now p h)) b) w.content)
    by None h = absurd h
    by (Some v) h = raised (right_in (amount_of p.brand v)) b w.content h.brand

nothing_past : (ps : List PaymentView) (n e : ℕ) → n ≡ length ps → in_brand (right_on (payment_view_at ps n)) e ≡ nothing
nothing_past ps n e at = ap (λ (p : PaymentView). in_brand (right_on p) e) (read_past ps (spent_payment 0) n (omega arith)) ∙ none_either (0 == e)

next_paid : (ps : List PaymentView) (n b : ℕ) (w : ValueView) → n ≡ length ps
    → Change (in_brand (right_on (payment_view_at ps n))) (in_brand (right_on (payment_view_at (ps ++ live_payment (amount_of b w) ∷ []) n))) b (sum (in_brand (right_on (payment_view_at ps n)) b) w.content)
next_paid ps n b w at =
    let read : payment_view_at (ps ++ live_payment (amount_of b w) ∷ []) n ≡ live_payment (amount_of b w) = read_pushed ps (live_payment (amount_of b w)) (spent_payment 0) n at in
    record {
      here = ap (λ (p : PaymentView). in_brand (right_on p) b) read ∙ of_brand (right_on (live_payment (amount_of b w))) b refl ∙ sym (nothing-sum w.content) ∙ ap (λ x. sum x w.content) (sym (nothing_past ps n b at));
      other = λ e apart. ap (λ (p : PaymentView). in_brand (right_on p) e) read ∙ of_other (right_on (live_payment (amount_of b w))) e apart ∙ sym (nothing_past ps n e at);
    }

module _ (r : Rights) (n b : ℕ) (w : ValueView) where
  abbrev old : ℕ → Content
  old = in_brand (right_on (payment_view_at r.payments n))

  abbrev total : Content
  total = sum (in_brand (right_on (payment_view_at r.payments n)) b) w.content

  abbrev next : List PaymentView
  next = r.payments ++ live_payment (amount_of b w) ∷ []

  abbrev further : List PaymentView
  further = slice_set r.payments n (paid_payment r.payments n (amount_of b w))

  paid_here : IsNextOr (n == length r.payments) r n b w → Change old (in_brand (right_on (payment_view_at (paid r.payments n (amount_of b w)) n))) b total
  paid_here can = elim (cases_eq n (length r.payments)) [
    | inl at ↦ subst (λ t. Change old (in_brand (right_on (payment_view_at (cond t next further) n))) b total) (sym (eq-eqb n (length r.payments) at)) (next_paid r.payments n b w at)
    | inr apart ↦
        let no : (n == length r.payments) ≡ false = ne_eqb n (length r.payments) apart in
        let more : PaymentMore r n b w = subst (λ t. IsNextOr t r n b w) no can in
        subst (λ t. Change old (in_brand (right_on (payment_view_at (cond t next further) n))) b total) (sym no)
        (subst (λ (p : PaymentView). Change old (in_brand (right_on p)) b total) (sym (read_set r.payments n (paid_payment r.payments n (amount_of b w)) (spent_payment 0) more.made)) (payment_more (payment_view_at r.payments n) b w more.takes))
  ]

paid_elsewhere : (ps : List PaymentView) (n q : ℕ) (a : Amount) → n ≢ q → payment_view_at (paid ps n a) q ≡ payment_view_at ps q
paid_elsewhere ps n q a apart = elim (cases_eq n (length ps)) [
  | inl at ↦ ap (λ t. payment_view_at (cond t (ps ++ live_payment a ∷ []) (slice_set ps n (paid_payment ps n a))) q) (eq-eqb n (length ps) at) ∙ read_before ps (live_payment a) (spent_payment 0) q (λ is. apart (at ∙ is))
  | inr differs ↦ ap (λ t. payment_view_at (cond t (ps ++ live_payment a ∷ []) (slice_set ps n (paid_payment ps n a))) q) (ne_eqb n (length ps) differs) ∙ read_other ps n q (paid_payment ps n a) (spent_payment 0) apart
]

-- ---- halves of movements

-- purses, payments and slots
abbrev pub IsStore : Holder → Type 0
IsStore (Purse n) = Unit {0}
IsStore (Payment n) = Unit {0}
IsStore (Slot s k) = Unit {0}
IsStore Hand = ⊥
IsStore Outside = ⊥

module _ (r : Rights) (hand : ℕ → Content) (b : ℕ) (w : ValueView) where
  pub taken_here : (h : Holder) → IsStore h → CanTake r hand h b w → Change (content_at r hand h) (content_at (taken r h b w) hand h) b (difference (content_at r hand h b) w.content)
  taken_here (Purse n) is can =
      subst (λ (a : Amount). Change (content_at r hand (Purse n)) (in_brand (right_in a)) b (difference (content_at r hand (Purse n) b) w.content)) (sym (read_set r.purses n (less (purse_at r.purses n) w.content) no_amount can.made)) (lessened (right_in (purse_at r.purses n)) b w.content can.has.brand)
  taken_here (Payment n) is can =
      subst (λ (p : PaymentView). Change (content_at r hand (Payment n)) (in_brand (right_on p)) b (difference (content_at r hand (Payment n) b) w.content)) (sym (read_set r.payments n (lessened_payment (payment_view_at r.payments n) w.content) (spent_payment 0) can.made)) (payment_less (payment_view_at r.payments n) b w can.has)
  taken_here (Slot s k) is can =
      subst (λ (rs : List Share). Change (content_at r hand (Slot s k)) (in_slot (amount_under k rs)) b (difference (content_at r hand (Slot s k) b) w.content)) (sym (read_set r.slots s (shares_less k (amount_of b w) (slots_at r.slots s)) [] can.made)) (slot_less k b w (slots_at r.slots s) can.has)
  taken_here Hand is can = absurd is
  taken_here Outside is can = absurd is

  pub given_here : (h : Holder) → IsStore h → CanGive r h b w → Change (content_at r hand h) (content_at (given r h b w) hand h) b (sum (content_at r hand h b) w.content)
  given_here (Purse n) is can =
      subst (λ (a : Amount). Change (content_at r hand (Purse n)) (in_brand (right_in a)) b (sum (content_at r hand (Purse n) b) w.content)) (sym (read_set r.purses n (more (purse_at r.purses n) w.content) no_amount can.made)) (raised (right_in (purse_at r.purses n)) b w.content can.takes.brand)
  given_here (Payment n) is can = paid_here r n b w can
  given_here (Slot s k) is can =
      subst (λ (rs : List Share). Change (content_at r hand (Slot s k)) (in_slot (amount_under k rs)) b (sum (content_at r hand (Slot s k) b) w.content)) (sym (read_set r.slots s (shares_more k (amount_of b w) (slots_at r.slots s)) [] can.made)) (slot_more k b w (slots_at r.slots s) can.takes)
  given_here Hand is can = absurd is
  given_here Outside is can = absurd is

  -- shares under another keyword, or of another seat
  slot_elsewhere : (s q : ℕ) (k j : List ℕ) (f : Amount → Amount) (new : Amount) → Slot q j ≢ Slot s k
      → amount_under j (slots_at (slice_set r.slots s (shares_with k f new (slots_at r.slots s))) q) ≡ amount_under j (slots_at r.slots q)
  slot_elsewhere s q k j f new apart = elim (cases_eq s q) [
    | inl at ↦ subst (λ y. Slot y j ≢ Slot s k → amount_under j (slots_at (slice_set r.slots s (shares_with k f new (slots_at r.slots s))) y) ≡ amount_under j (slots_at r.slots y)) at of_seat apart
    | inr differs ↦ ap (amount_under j) (read_other r.slots s q (shares_with k f new (slots_at r.slots s)) [] differs)
  ]
    where
      read_or_not : (xs : List (List Share)) (n : ℕ) (x : List Share) → amount_under j x ≡ amount_under j (slots_at xs n) → amount_under j (slots_at (slice_set xs n x) n) ≡ amount_under j (slots_at xs n)
      read_or_not [] n x is = refl
      read_or_not (y ∷ ys) zero x is = is
      read_or_not (y ∷ ys) (suc n) x is = read_or_not ys n x is

      of_seat : Slot s j ≢ Slot s k → amount_under j (slots_at (slice_set r.slots s (shares_with k f new (slots_at r.slots s))) s) ≡ amount_under j (slots_at r.slots s)
      of_seat away = read_or_not r.slots s (shares_with k f new (slots_at r.slots s)) (under_other k f new j (λ same. away (ap (Slot s) same)) (slots_at r.slots s))

  pub taken_others : (h g : Holder) → g ≢ h → (e : ℕ) → content_at (taken r h b w) hand g e ≡ content_at r hand g e
  taken_others (Purse n) (Purse q) apart e = ap (λ (a : Amount). in_brand (right_in a) e) (read_other r.purses n q (less (purse_at r.purses n) w.content) no_amount (λ is. apart (ap Purse (sym is))))
  taken_others (Payment n) (Payment q) apart e = ap (λ (p : PaymentView). in_brand (right_on p) e) (read_other r.payments n q (lessened_payment (payment_view_at r.payments n) w.content) (spent_payment 0) (λ is. apart (ap Payment (sym is))))
  taken_others (Slot s k) (Slot q j) apart e = ap (λ o. in_slot o e) (slot_elsewhere s q k j (λ had. less had w.content) (holding (amount_of b w) nothing) apart)
  taken_others (Purse n) _ apart e = refl
  taken_others (Payment n) _ apart e = refl
  taken_others (Slot s k) _ apart e = refl
  taken_others Hand g apart e = refl
  taken_others Outside (Purse q) apart e = refl
  taken_others Outside (Payment q) apart e = refl
  taken_others Outside (Slot q j) apart e = refl
  taken_others Outside Hand apart e = refl
  taken_others Outside Outside apart e = refl

  pub given_others : (h g : Holder) → g ≢ h → (e : ℕ) → content_at (given r h b w) hand g e ≡ content_at r hand g e
  given_others (Purse n) (Purse q) apart e = ap (λ (a : Amount). in_brand (right_in a) e) (read_other r.purses n q (more (purse_at r.purses n) w.content) no_amount (λ is. apart (ap Purse (sym is))))
  given_others (Payment n) (Payment q) apart e = ap (λ (p : PaymentView). in_brand (right_on p) e) (paid_elsewhere r.payments n q (amount_of b w) (λ is. apart (ap Payment (sym is))))
  given_others (Slot s k) (Slot q j) apart e = ap (λ o. in_slot o e) (slot_elsewhere s q k j (λ had. more had w.content) (amount_of b w) apart)
  given_others (Purse n) _ apart e = refl
  given_others (Payment n) _ apart e = refl
  given_others (Slot s k) _ apart e = refl
  given_others Hand g apart e = refl
  given_others Outside (Purse q) apart e = refl
  given_others Outside (Payment q) apart e = refl
  given_others Outside (Slot q j) apart e = refl
  given_others Outside Hand apart e = refl
  given_others Outside Outside apart e = refl
