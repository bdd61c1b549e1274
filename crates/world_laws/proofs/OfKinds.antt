-- Kinds stay what they are, and whatever is held is of the kind of its brand.
use Rattle.std.specs.Prelude.{◌==◌, IfSome, slice_set}
use Rattle.std.specs.List.{AllByRecursion}
use Rattle.std.specs.Option.{option_map}
use Rattle.std.specs.Str.{bytes_eq}
use Rattle.std.proofs.Common.{◌≡◌, ℕ, zero, suc, ◌<◌, ◌≤◌, Bool, true, false, List, [], ◌∷◌, ◌++◌, Some, None, Option, length, refl, sym, ◌∙◌, ap, arith, if◌then◌else◌}
use Rattle.world_state.proofs.lemmas.ListEdits.{length_push, length_set, read_before}
use Rattle.world_state.specs.amount_math.Amount.{holding}
use Rattle.world_state.specs.amount_math.Content.{Content, nothing}
use Rattle.world_state.specs.amount_math.ValueView.{ValueView}
use Rattle.world_state.specs.amount_math.declared.Amount.{Amount}
use Rattle.world_state.specs.ertp_mint.BrandSupply.{BrandSupply, issued, new_supply, retired, supply_at}
use Rattle.world_state.specs.amount_math.declared.Kind.TheVariants.{Nat}
use Rattle.world_state.specs.ertp_mint.Stocks.{no_amount}
use Rattle.world_state.specs.holders.PaymentViews.{PaymentView, live_payment, payment_view_at, spent_payment}
use Rattle.world_state.specs.proposals.declared.allocations.Share.{Share}
use Rattle.world_state.specs.rights_model.declared.Holder.{Holder}
use Rattle.world_state.specs.rights_model.declared.Holder.TheVariants.{Purse, Payment, Slot, Hand, Outside}
use Rattle.world_state.specs.rights_model.declared.Movement.{Movement}
use Rattle.world_state.specs.vault_model.Lists.{amount_of, less, more}
use Rattle.world_state.specs.Good.{AreSharesOf, IsOfKind, IsPayment}
use Rattle.world_state.specs.Rights.{CanGive, CanMove, CanMoveAll, CanTake, Rights, all_moved, all_spent, given, hand_after, kind_at, moved, moved_together, lessened_payment, raised_payment, changed_share, shares_with, slots_at, spent_from, taken, value_less, value_more}
use Rattle.world_laws.proofs.Lists.{all_map, all_push, all_read, all_read_or, all_set}

-- as many brands, of the same kinds
pub record SameKinds (out new : List BrandSupply) : Type 0 where
  pub as_many : length new ≡ length out
  pub kind : (b : ℕ) → kind_at new b ≡ kind_at out b

pub same_refl : (out : List BrandSupply) → SameKinds out out
same_refl out = record { as_many = refl; kind = λ b. refl }

pub same_trans : (a b c : List BrandSupply) → SameKinds a b → SameKinds b c → SameKinds a c
same_trans a b c f g = record { as_many = g.as_many ∙ f.as_many; kind = λ n. g.kind n ∙ f.kind n }

-- brands stay, of the same kinds
pub record KindsStay (out new : List BrandSupply) : Type 0 where
  pub more : length out ≤ length new
  pub kind : (b : ℕ) → b < length out → kind_at new b ≡ kind_at out b

pub stay_same : (out new : List BrandSupply) → SameKinds out new → KindsStay out new
stay_same out new same = record { more = omega (arith, same.as_many); kind = λ b lt. same.kind b }

pub stay_push : (out : List BrandSupply) (s : BrandSupply) → KindsStay out (out ++ s ∷ [])
stay_push out s = record {
  more = omega (arith, length_push out s);
  kind = λ b lt. ap (λ (x : BrandSupply). x.outstanding.kind) (read_before out s (new_supply Nat) b (λ (e : length out ≡ b). absurd (omega (arith, e, lt))));
}

module _ (out new : List BrandSupply) (stay : KindsStay out new) where
  pub amount_stays : (a : Amount) → IsOfKind out a → IsOfKind new a
  amount_stays a is = record { made = omega (arith, is.made, stay.more); kind = stay.kind a.brand is.made ∙ is.kind }

  pub shares_stay : (rs : List Share) → AreSharesOf out rs → AreSharesOf new rs
  shares_stay rs all = all_map (λ (x : Share). IsOfKind out x.amount) (λ (x : Share). IsOfKind new x.amount) (λ (x : Share). amount_stays x.amount) rs all

  pub payment_stays : (p : PaymentView) → IsPayment out p → IsPayment new p
  payment_stays p is = record { made = omega (arith, is.made, stay.more); kind = by p.held is.kind }
    where
      by : (h : Option ValueView) → IfSome h (λ (w : ValueView). kind_at out p.brand ≡ w.kind) → IfSome h (λ (w : ValueView). kind_at new p.brand ≡ w.kind)
      by None k = tt
      by (Some w) k = stay.kind p.brand is.made ∙ k

kind_set : (out : List BrandSupply) (b : ℕ) (x : BrandSupply) → x.outstanding.kind ≡ kind_at out b → (n : ℕ) → kind_at (slice_set out b x) n ≡ kind_at out n
kind_set [] b x same n = refl
kind_set (s ∷ ss) zero x same zero = same
kind_set (s ∷ ss) zero x same (suc n) = refl
kind_set (s ∷ ss) (suc b) x same zero = refl
kind_set (s ∷ ss) (suc b) x same (suc n) = kind_set ss b x same n

same_set : (out : List BrandSupply) (b : ℕ) (x : BrandSupply) → x.outstanding.kind ≡ kind_at out b → SameKinds out (slice_set out b x)
same_set out b x same = record { as_many = length_set out b x; kind = kind_set out b x same }

pub same_taken : (r : Rights) (h : Holder) (b : ℕ) (w : ValueView) → SameKinds r.out (taken r h b w).out
same_taken r Outside b w = same_set r.out b (issued (supply_at r.out b) w.content) refl
same_taken r _ b w = same_refl r.out

pub same_given : (r : Rights) (h : Holder) (b : ℕ) (w : ValueView) → SameKinds r.out (given r h b w).out
same_given r Outside b w = same_set r.out b (retired (supply_at r.out b) w.content) refl
same_given r _ b w = same_refl r.out

pub same_moved : (r : Rights) (m : Movement) → SameKinds r.out (moved r m).out
same_moved r m = same_trans r.out (taken r m.from m.brand m.value).out (moved r m).out (same_taken r m.from m.brand m.value) (same_given (taken r m.from m.brand m.value) m.to m.brand m.value)

pub same_together : (r : Rights) (ms : List Movement) → SameKinds r.out (all_moved r ms).out
same_together r [] = same_refl r.out
same_together r (m ∷ ms) = same_trans r.out (moved r m).out (all_moved r (m ∷ ms)).out (same_moved r m) (same_together (moved r m) ms)

-- ---- one half

-- whatever purses, payments and slots have is of the kind of its brand
pub record AreKinds (out : List BrandSupply) (r : Rights) : Type 0 where
  pub purses : AllByRecursion (IsOfKind out) r.purses
  pub payments : AllByRecursion (IsPayment out) r.payments
  pub slots : AllByRecursion (AreSharesOf out) r.slots

module _ (out : List BrandSupply) where
  less_kind : (p : PaymentView) (c : Content) → IsPayment out p → IsPayment out (lessened_payment p c)
  less_kind p c is = record { made = is.made; kind = by p.held is.kind }
    where
      by : (h : Option ValueView) → IfSome h (λ (w : ValueView). kind_at out p.brand ≡ w.kind) → IfSome (option_map (value_less c) h) (λ (w : ValueView). kind_at out p.brand ≡ w.kind)
      by None k = tt
      by (Some w) k = k

  more_kind : (p : PaymentView) (c : Content) → IsPayment out p → IsPayment out (raised_payment p c)
  more_kind p c is = record { made = is.made; kind = by p.held is.kind }
    where
      by : (h : Option ValueView) → IfSome h (λ (w : ValueView). kind_at out p.brand ≡ w.kind) → IfSome (option_map (value_more c) h) (λ (w : ValueView). kind_at out p.brand ≡ w.kind)
      by None k = tt
      by (Some w) k = k

  module _ (k : List ℕ) (change : Amount → Amount) (new : Amount) (is : IsOfKind out new) (stays : (x : Amount) → IsOfKind out x → IsOfKind out (change x)) where
    shares_with_kind : (rs : List Share) → AreSharesOf out rs → AreSharesOf out (shares_with k change new rs)
    shares_with_kind [] all = (is, tt)
    shares_with_kind (r ∷ rs) all = by (bytes_eq k r.keyword) (shares_with_kind rs all.1)
      where
        by : (b : Bool) → AreSharesOf out (shares_with k change new rs) → AreSharesOf out (if b then changed_share change r ∷ rs else r ∷ shares_with k change new rs)
        by true rest = (stays r.amount all.0, all.1)
        by false rest = (all.0, rest)

  taken_kinds : (r : Rights) (hand : ℕ → Content) (h : Holder) (b : ℕ) (w : ValueView) → IsOfKind out (amount_of b w) → CanTake r hand h b w → AreKinds out r → AreKinds out (taken r h b w)
  taken_kinds r hand (Purse n) b w of can k =
      let is = all_read (IsOfKind out) r.purses n no_amount k.purses can.made in
      record { purses = all_set (IsOfKind out) r.purses n _ k.purses (record { made = is.made; kind = is.kind }); payments = k.payments; slots = k.slots }
  taken_kinds r hand (Payment n) b w of can k = record { purses = k.purses; payments = all_set (IsPayment out) r.payments n _ k.payments (less_kind (payment_view_at r.payments n) w.content (all_read (IsPayment out) r.payments n (spent_payment 0) k.payments can.made)); slots = k.slots }
  taken_kinds r hand (Slot s q) b w of can k = record { purses = k.purses; payments = k.payments; slots = all_set (AreSharesOf out) r.slots s _ k.slots (shares_with_kind q (λ x. less x w.content) (holding (amount_of b w) nothing) (record { made = of.made; kind = of.kind }) (λ x x_is. record { made = x_is.made; kind = x_is.kind }) (slots_at r.slots s) (all_read_or (AreSharesOf out) r.slots s [] k.slots tt)) }
  taken_kinds r hand Hand b w of can k = k
  taken_kinds r hand Outside b w of can k = record { purses = k.purses; payments = k.payments; slots = k.slots }

  given_kinds : (r : Rights) (h : Holder) (b : ℕ) (w : ValueView) → IsOfKind out (amount_of b w) → CanGive r h b w → AreKinds out r → AreKinds out (given r h b w)
  given_kinds r (Purse n) b w is can k =
      let had = all_read (IsOfKind out) r.purses n no_amount k.purses can.made in
      record { purses = all_set (IsOfKind out) r.purses n _ k.purses (record { made = had.made; kind = had.kind }); payments = k.payments; slots = k.slots }
  given_kinds r (Payment n) b w is can k = record { purses = k.purses; payments = by (n == length r.payments); slots = k.slots }
    where
      none : IsPayment out (spent_payment 0)
      none = record { made = omega (arith, is.made); kind = tt }

      by : (t : Bool) → AllByRecursion (IsPayment out) (if t then r.payments ++ live_payment (amount_of b w) ∷ [] else slice_set r.payments n (raised_payment (payment_view_at r.payments n) w.content))
      by true = all_push (IsPayment out) r.payments (live_payment (amount_of b w)) k.payments (record { made = is.made; kind = is.kind })
      by false = all_set (IsPayment out) r.payments n _ k.payments (more_kind (payment_view_at r.payments n) w.content (all_read_or (IsPayment out) r.payments n (spent_payment 0) k.payments none))
  given_kinds r (Slot s q) b w is can k = record { purses = k.purses; payments = k.payments; slots = all_set (AreSharesOf out) r.slots s _ k.slots (shares_with_kind q (λ x. more x w.content) (amount_of b w) is (λ x x_is. record { made = x_is.made; kind = x_is.kind }) (slots_at r.slots s) (all_read_or (AreSharesOf out) r.slots s [] k.slots tt)) }
  given_kinds r Hand b w is can k = k
  given_kinds r Outside b w is can k = record { purses = k.purses; payments = k.payments; slots = k.slots }

  -- what a movement moves is of the kind of its brand
  pub of_movement : (r : Rights) (hand : ℕ → Content) (m : Movement) → SameKinds out r.out → CanMove r hand m → IsOfKind out (amount_of m.brand m.value)
  of_movement r hand m same can = record { made = omega (arith, can.brand, same.as_many); kind = sym (same.kind m.brand) ∙ can.kind }

  all_moved_kinds : (r : Rights) (hand : ℕ → Content) (ms : List Movement) → SameKinds out r.out → CanMoveAll r hand ms → AreKinds out r → AreKinds out (all_moved r ms)
  all_moved_kinds r hand [] same can k = k
  all_moved_kinds r hand (m ∷ ms) same can k =
      all_moved_kinds (moved r m) (hand_after hand m) ms (same_trans out r.out (moved r m).out same (same_moved r m)) can.1
      (given_kinds (taken r m.from m.brand m.value) m.to m.brand m.value (of_movement r hand m same can.0) can.0.to
      (taken_kinds r hand m.from m.brand m.value (of_movement r hand m same can.0) can.0.from k))

  spent_from_kinds : (h : Holder) (ps : List PaymentView) → 0 < length out → AllByRecursion (IsPayment out) ps → AllByRecursion (IsPayment out) (spent_from h ps)
  spent_from_kinds (Payment n) ps some all =
      let is = all_read_or (IsPayment out) ps n (spent_payment 0) all (record { made = some; kind = tt }) in
      all_set (IsPayment out) ps n (spent_payment (payment_view_at ps n).brand) all (record { made = is.made; kind = tt })
  spent_from_kinds _ ps some all = all

  spent_kinds : (ms : List Movement) (ps : List PaymentView) → 0 < length out → AllByRecursion (IsPayment out) ps → AllByRecursion (IsPayment out) (all_spent ms ps)
  spent_kinds [] ps some all = all
  spent_kinds (m ∷ ms) ps some all = spent_kinds ms (spent_from m.from ps) some (spent_from_kinds m.from ps some all)

-- ---- other brands' supplies

kinds_by : (out new : List BrandSupply) → KindsStay out new → (r : Rights) → AreKinds out r → AreKinds new r
kinds_by out new stay r k = record {
  purses = all_map (IsOfKind out) (IsOfKind new) (amount_stays out new stay) r.purses k.purses;
  payments = all_map (IsPayment out) (IsPayment new) (payment_stays out new stay) r.payments k.payments;
  slots = all_map (AreSharesOf out) (AreSharesOf new) (shares_stay out new stay) r.slots k.slots;
}

pub together_kinds : (r : Rights) (hand : ℕ → Content) (ms : List Movement) → 0 < length r.out → CanMoveAll r hand ms → AreKinds r.out r → AreKinds (all_moved r ms).out (moved_together r ms)
together_kinds r hand ms some can k =
    let end = all_moved_kinds r.out r hand ms (same_refl r.out) can k in
    kinds_by r.out (all_moved r ms).out (stay_same r.out (all_moved r ms).out (same_together r ms)) (moved_together r ms) (record { purses = end.purses; payments = spent_kinds r.out ms (all_moved r ms).payments some end.payments; slots = end.slots })
