-- What is out of a brand rises, and what a purse or a payment has falls, only by movements that the turn's rows show.
use Rattle.std.specs.Prelude.{◌≡◌, ◌⊎◌, ◌<◌, ◌≤◌, ◌++◌, ◌==◌, ℕ, zero, suc, Bool, true, false, cond, List, [], ◌∷◌, Option, Some, None, length, map, slice_index_or, slice_set}
use Rattle.std.specs.Option.{option_map}
use Rattle.std.proofs.Common.{inl, inr, ap, subst, arith}
use Rattle.std.proofs.lemmas.Bool.{cases_eq}
use Rattle.fair_laws.specs.world_state.amount_math.Content.{Content, count, count-difference, count-nothing, count-sum}
use Rattle.fair_laws.specs.world_state.amount_math.ValueView.{ValueView}
use Rattle.fair_laws.specs.world_state.amount_math.declared.Amount.{Amount}
use Rattle.fair_laws.specs.ertp_mint.BrandSupply.{BrandSupply, issued, new_supply, retired, supply_at}
use Rattle.fair_laws.specs.ertp_mint.Stocks.{no_amount}
use Rattle.fair_laws.specs.world_state.amount_math.declared.Kind.TheVariants.{Nat}
use Rattle.fair_laws.proofs.Supplies.{out_pushed}
use Rattle.fair_laws.proofs.lemmas.ListEdits.{read_before, read_other, read_past}
use Rattle.fair_laws.specs.vault_model.Lists.{amount_of, less, more, purse_at}
use Rattle.fair_laws.specs.vault_model.Tables.{content_held}
use Rattle.fair_laws.specs.world_state.holders.PaymentViews.{PaymentView, live_payment, payment_view_at, spent_payment}
use Rattle.fair_laws.specs.world_state.rights_model.declared.Holder.{Holder}
use Rattle.fair_laws.specs.world_state.rights_model.declared.Holder.TheVariants.{Purse, Payment, Slot, Hand, Outside}
use Rattle.fair_laws.specs.world_state.rights_model.declared.Movement.{Movement}
use Rattle.fair_laws.specs.world_state.turn_rows.Turns.{Turn}
use Rattle.fair_laws.specs.world_state.Rights.{Rights, all_moved, all_spent, given, lessened_payment, moved, moved_together, paid, paid_payment, raised_payment, slots_at, spent_from, taken, value_more, with_slots}
use Rattle.fair_laws.specs.world_state.Worlds.{Effect, State, after, after_all, burn_and_escrows, empty_payment, empty_slots, exit, invitation_move, invite, moves, new_brand, new_purse, nothing_of, offer, paid_out}
use Rattle.licence_laws.specs.Minting.{IsCalledForAt, ShowsMinting, ShowsWithdrawal}
use Rattle.licence_laws.specs.Spending.{IsSpentByNameAt, ShowsSpending}
use Rattle.licence_laws.proofs.Effects.{AllTakeAsShown, AreShown, TakesAsShown}

-- ---- lists of which one element is written

-- what is written is so to what stood there; so is what then stands anywhere
set_so : {X : Type 0} (R : X → X → Type 0) → ((x : X) → R x x) → (xs : List X) (n q : ℕ) (x d : X) → R (slice_index_or xs n d) x → R (slice_index_or xs q d) (slice_index_or (slice_set xs n x) q d)
set_so R same [] n q x d is = same _
set_so R same (y ∷ ys) zero zero x d is = is
set_so R same (y ∷ ys) zero (suc q) x d is = same _
set_so R same (y ∷ ys) (suc n) zero x d is = same _
set_so R same (y ∷ ys) (suc n) (suc q) x d is = set_so R same ys n q x d is

-- ---- levels

-- no more, unless something is shown
abbrev pub Unless : Type 0 → ℕ → ℕ → Type 0
Unless S low high = (low ≤ high) ⊎ S

then_unless : (S : Type 0) (a b c : ℕ) → Unless S a b → Unless S b c → Unless S a c
then_unless S a b c (inl x) (inl y) = inl (omega (arith, x, y))
then_unless S a b c (inl x) (inr shown) = inr shown
then_unless S a b c (inr shown) y = inr shown

pub shown_then : (S : Type 0) (a b : ℕ) → Unless S a b → b < a → S
shown_then S a b (inl le) more = absurd (omega (arith, le, more))
shown_then S a b (inr shown) more = shown

-- ---- what is out of a brand

module _ (t : Turn) (e : ℕ) (k : List ℕ) where
  abbrev in_supply : BrandSupply → ℕ
  in_supply x = count x.outstanding.content k

  abbrev pub out_count : Rights → ℕ
  out_count r = in_supply (supply_at r.out e)

  out_taken : (r : Rights) (h : Holder) (b : ℕ) (v : ValueView) → IsCalledForAt t h b → Unless (ShowsMinting t e) (out_count (taken r h b v)) (out_count r)
  out_taken r Outside b v shown = by (cases_eq b e)
    where
      by : (b ≡ e) ⊎ (b ≡ e → ⊥) → Unless (ShowsMinting t e) (out_count (taken r Outside b v)) (out_count r)
      by (inl at) = inr (subst (ShowsMinting t) at shown)
      by (inr apart) = inl (omega (arith, ap in_supply (read_other r.out b e (issued (supply_at r.out b) v.content) (new_supply Nat) apart)))
  out_taken r (Purse n) b v shown = inl (omega arith)
  out_taken r (Payment n) b v shown = inl (omega arith)
  out_taken r (Slot s q) b v shown = inl (omega arith)
  out_taken r Hand b v shown = inl (omega arith)

  out_given : (r : Rights) (h : Holder) (b : ℕ) (v : ValueView) → out_count (given r h b v) ≤ out_count r
  out_given r Outside b v =
      set_so {X = BrandSupply} (λ x y. in_supply y ≤ in_supply x) (λ x. omega arith) r.out b e (retired (supply_at r.out b) v.content) (new_supply Nat)
      (omega (arith, count-difference (supply_at r.out b).outstanding.content v.content k))
  out_given r (Purse n) b v = omega arith
  out_given r (Payment n) b v = omega arith
  out_given r (Slot s q) b v = omega arith
  out_given r Hand b v = omega arith

  out_moved : (r : Rights) (ms : List Movement) → AreShown t ms → Unless (ShowsMinting t e) (out_count (all_moved r ms)) (out_count r)
  out_moved r [] shown = inl (omega arith)
  out_moved r (m ∷ ms) shown =
      let half = taken r m.from m.brand m.value in
      let S = ShowsMinting t e in
      then_unless S (out_count (all_moved (moved r m) ms)) (out_count (moved r m)) (out_count r) (out_moved (moved r m) ms shown.1)
      (then_unless S (out_count (moved r m)) (out_count half) (out_count r) (inl (out_given half m.to m.brand m.value)) (out_taken r m.from m.brand m.value shown.0.0))

  out_after : (w : State) (x : Effect) → TakesAsShown t x → Unless (ShowsMinting t e) (out_count (after w x).rights) (out_count w.rights)
  out_after w (new_brand b maker) shown = inl (omega (arith, ap (λ c. count c k) (out_pushed w.rights.out b.kind e)))
  out_after w (moves ms) shown = out_moved w.rights ms shown
  out_after w (offer o) shown = out_moved (with_slots w.rights (empty_slots o.proposal)) (burn_and_escrows o) shown
  out_after w (invite d) shown = out_moved w.rights (invitation_move w ∷ []) ((shown, tt), tt)
  out_after w x shown = inl (omega arith)

  pub out_shown : (w : State) (es : List Effect) → AllTakeAsShown t es → Unless (ShowsMinting t e) (out_count (after_all w es).rights) (out_count w.rights)
  out_shown w [] all = inl (omega arith)
  out_shown w (x ∷ es) all =
      then_unless (ShowsMinting t e) (out_count (after_all (after w x) es).rights) (out_count (after w x).rights) (out_count w.rights) (out_shown (after w x) es all.1) (out_after w x all.0)

-- ---- what a purse has

module _ (t : Turn) (n : ℕ) (k : List ℕ) where
  abbrev in_amount : Amount → ℕ
  in_amount a = count a.value.content k

  abbrev pub purse_count : Rights → ℕ
  purse_count r = in_amount (purse_at r.purses n)

  purse_taken : (r : Rights) (h : Holder) (b : ℕ) (v : ValueView) → IsCalledForAt t h b → Unless (ShowsWithdrawal t n) (purse_count r) (purse_count (taken r h b v))
  purse_taken r (Purse p) b v shown = by (cases_eq p n)
    where
      by : (p ≡ n) ⊎ (p ≡ n → ⊥) → Unless (ShowsWithdrawal t n) (purse_count r) (purse_count (taken r (Purse p) b v))
      by (inl at) = inr (subst (ShowsWithdrawal t) at shown)
      by (inr apart) = inl (omega (arith, ap in_amount (read_other r.purses p n (less (purse_at r.purses p) v.content) no_amount apart)))
  purse_taken r Outside b v shown = inl (omega arith)
  purse_taken r (Payment p) b v shown = inl (omega arith)
  purse_taken r (Slot s q) b v shown = inl (omega arith)
  purse_taken r Hand b v shown = inl (omega arith)

  purse_given : (r : Rights) (h : Holder) (b : ℕ) (v : ValueView) → purse_count r ≤ purse_count (given r h b v)
  purse_given r (Purse p) b v =
      set_so {X = Amount} (λ x y. in_amount x ≤ in_amount y) (λ x. omega arith) r.purses p n (more (purse_at r.purses p) v.content) no_amount
      (omega (arith, count-sum (purse_at r.purses p).value.content v.content k))
  purse_given r Outside b v = omega arith
  purse_given r (Payment p) b v = omega arith
  purse_given r (Slot s q) b v = omega arith
  purse_given r Hand b v = omega arith

  purse_moved : (r : Rights) (ms : List Movement) → AreShown t ms → Unless (ShowsWithdrawal t n) (purse_count r) (purse_count (all_moved r ms))
  purse_moved r [] shown = inl (omega arith)
  purse_moved r (m ∷ ms) shown =
      let half = taken r m.from m.brand m.value in
      let S = ShowsWithdrawal t n in
      then_unless S (purse_count r) (purse_count (moved r m)) (purse_count (all_moved (moved r m) ms))
      (then_unless S (purse_count r) (purse_count half) (purse_count (moved r m)) (purse_taken r m.from m.brand m.value shown.0.0) (inl (purse_given half m.to m.brand m.value)))
      (purse_moved (moved r m) ms shown.1)

  -- one that is opened has nothing, as what is read where there is none
  purse_opened : (purses : List Amount) (a : Amount) → in_amount (purse_at purses n) ≤ in_amount (purse_at (purses ++ a ∷ []) n)
  purse_opened purses a = by (cases_eq (length purses) n)
    where
      by : (length purses ≡ n) ⊎ (length purses ≡ n → ⊥) → in_amount (purse_at purses n) ≤ in_amount (purse_at (purses ++ a ∷ []) n)
      by (inl at) = omega (arith, ap in_amount (read_past purses no_amount n (omega (arith, at))), count-nothing k)
      by (inr apart) = omega (arith, ap in_amount (read_before purses a no_amount n apart))

  purse_after : (w : State) (x : Effect) → TakesAsShown t x → Unless (ShowsWithdrawal t n) (purse_count w.rights) (purse_count (after w x).rights)
  purse_after w (new_purse b) shown = inl (purse_opened w.rights.purses (nothing_of w b))
  purse_after w (moves ms) shown = purse_moved w.rights ms shown
  purse_after w (offer o) shown = purse_moved (with_slots w.rights (empty_slots o.proposal)) (burn_and_escrows o) shown
  purse_after w (invite d) shown = purse_moved w.rights (invitation_move w ∷ []) ((shown, tt), tt)
  purse_after w x shown = inl (omega arith)

  pub purse_shown : (w : State) (es : List Effect) → AllTakeAsShown t es → Unless (ShowsWithdrawal t n) (purse_count w.rights) (purse_count (after_all w es).rights)
  purse_shown w [] all = inl (omega arith)
  purse_shown w (x ∷ es) all =
      then_unless (ShowsWithdrawal t n) (purse_count w.rights) (purse_count (after w x).rights) (purse_count (after_all (after w x) es).rights) (purse_after w x all.0) (purse_shown (after w x) es all.1)

-- ---- what a payment has

module _ (t : Turn) (n : ℕ) (k : List ℕ) where
  abbrev in_view : PaymentView → ℕ
  in_view p = count (content_held p.held) k

  abbrev in_list : List PaymentView → ℕ
  in_list ps = in_view (payment_view_at ps n)

  abbrev pub payment_count : Rights → ℕ
  payment_count r = in_list r.payments

  -- what more payments are made of leaves those that were there, and none had something before it was made
  nothing_less : (p : PaymentView) → in_view (spent_payment 0) ≤ in_view p
  nothing_less p = omega (arith, count-nothing k)

  made_behind : (ps qs : List PaymentView) → in_list ps ≤ in_list (ps ++ qs)
  made_behind ps qs = behind ps n
    where
      behind : (ps : List PaymentView) (q : ℕ) → in_view (payment_view_at ps q) ≤ in_view (payment_view_at (ps ++ qs) q)
      behind [] q = nothing_less (payment_view_at qs q)
      behind (p ∷ ps) zero = omega arith
      behind (p ∷ ps) (suc q) = behind ps q

  raised : (p : PaymentView) (c : Content) → in_view p ≤ in_view (raised_payment p c)
  raised p c = by p.held
    where
      by : (held : Option ValueView) → count (content_held held) k ≤ count (content_held (option_map (value_more c) held)) k
      by None = omega arith
      by (Some w) = omega (arith, count-sum w.content c k)

  payment_paid : (ps : List PaymentView) (p : ℕ) (a : Amount) → in_list ps ≤ in_list (paid ps p a)
  payment_paid ps p a = by (p == length ps)
    where
      by : (b : Bool) → in_list ps ≤ in_list (cond b (ps ++ live_payment a ∷ []) (slice_set ps p (paid_payment ps p a)))
      by true = made_behind ps (live_payment a ∷ [])
      by false = set_so {X = PaymentView} (λ x y. in_view x ≤ in_view y) (λ x. omega arith) ps p n (paid_payment ps p a) (spent_payment 0) (raised (payment_view_at ps p) a.value.content)

  payment_given : (r : Rights) (h : Holder) (b : ℕ) (v : ValueView) → payment_count r ≤ payment_count (given r h b v)
  payment_given r (Payment p) b v = payment_paid r.payments p (amount_of b v)
  payment_given r (Purse p) b v = omega arith
  payment_given r (Slot s q) b v = omega arith
  payment_given r Hand b v = omega arith
  payment_given r Outside b v = omega arith

  payment_taken : (r : Rights) (h : Holder) (b : ℕ) (v : ValueView) → IsSpentByNameAt t h → Unless (ShowsSpending t n) (payment_count r) (payment_count (taken r h b v))
  payment_taken r (Payment p) b v shown = by (cases_eq p n)
    where
      by : (p ≡ n) ⊎ (p ≡ n → ⊥) → Unless (ShowsSpending t n) (payment_count r) (payment_count (taken r (Payment p) b v))
      by (inl at) = inr (subst (ShowsSpending t) at shown)
      by (inr apart) = inl (omega (arith, ap in_view (read_other r.payments p n (lessened_payment (payment_view_at r.payments p) v.content) (spent_payment 0) apart)))
  payment_taken r (Purse p) b v shown = inl (omega arith)
  payment_taken r (Slot s q) b v shown = inl (omega arith)
  payment_taken r Hand b v shown = inl (omega arith)
  payment_taken r Outside b v shown = inl (omega arith)

  payment_moved : (r : Rights) (ms : List Movement) → AreShown t ms → Unless (ShowsSpending t n) (payment_count r) (payment_count (all_moved r ms))
  payment_moved r [] shown = inl (omega arith)
  payment_moved r (m ∷ ms) shown =
      let half = taken r m.from m.brand m.value in
      let S = ShowsSpending t n in
      then_unless S (payment_count r) (payment_count (moved r m)) (payment_count (all_moved (moved r m) ms))
      (then_unless S (payment_count r) (payment_count half) (payment_count (moved r m)) (payment_taken r m.from m.brand m.value shown.0.1) (inl (payment_given half m.to m.brand m.value)))
      (payment_moved (moved r m) ms shown.1)

  payment_spent : (h : Holder) (ps : List PaymentView) → IsSpentByNameAt t h → Unless (ShowsSpending t n) (in_list ps) (in_list (spent_from h ps))
  payment_spent (Payment p) ps shown = by (cases_eq p n)
    where
      by : (p ≡ n) ⊎ (p ≡ n → ⊥) → Unless (ShowsSpending t n) (in_list ps) (in_list (spent_from (Payment p) ps))
      by (inl at) = inr (subst (ShowsSpending t) at shown)
      by (inr apart) = inl (omega (arith, ap in_view (read_other ps p n (spent_payment (payment_view_at ps p).brand) (spent_payment 0) apart)))
  payment_spent (Purse p) ps shown = inl (omega arith)
  payment_spent (Slot s q) ps shown = inl (omega arith)
  payment_spent Hand ps shown = inl (omega arith)
  payment_spent Outside ps shown = inl (omega arith)

  payments_spent : (ms : List Movement) (ps : List PaymentView) → AreShown t ms → Unless (ShowsSpending t n) (in_list ps) (in_list (all_spent ms ps))
  payments_spent [] ps shown = inl (omega arith)
  payments_spent (m ∷ ms) ps shown =
      then_unless (ShowsSpending t n) (in_list ps) (in_list (spent_from m.from ps)) (in_list (all_spent ms (spent_from m.from ps))) (payment_spent m.from ps shown.0.1) (payments_spent ms (spent_from m.from ps) shown.1)

  payment_together : (r : Rights) (ms : List Movement) → AreShown t ms → Unless (ShowsSpending t n) (payment_count r) (payment_count (moved_together r ms))
  payment_together r ms shown =
      then_unless (ShowsSpending t n) (payment_count r) (payment_count (all_moved r ms)) (payment_count (moved_together r ms)) (payment_moved r ms shown) (payments_spent ms (all_moved r ms).payments shown)

  payment_after : (w : State) (x : Effect) → TakesAsShown t x → Unless (ShowsSpending t n) (payment_count w.rights) (payment_count (after w x).rights)
  payment_after w (empty_payment b) shown = inl (made_behind w.rights.payments (live_payment (nothing_of w b) ∷ []))
  payment_after w (moves ms) shown = payment_together w.rights ms shown
  payment_after w (offer o) shown = payment_together (with_slots w.rights (empty_slots o.proposal)) (burn_and_escrows o) shown
  payment_after w (invite d) shown = payment_together w.rights (invitation_move w ∷ []) ((shown, tt), tt)
  payment_after w (exit seat cause) shown = inl (made_behind w.rights.payments (map paid_out (slots_at w.rights.slots seat)))
  payment_after w x shown = inl (omega arith)

  pub payment_shown : (w : State) (es : List Effect) → AllTakeAsShown t es → Unless (ShowsSpending t n) (payment_count w.rights) (payment_count (after_all w es).rights)
  payment_shown w [] all = inl (omega arith)
  payment_shown w (x ∷ es) all =
      then_unless (ShowsSpending t n) (payment_count w.rights) (payment_count (after w x).rights) (payment_count (after_all (after w x) es).rights) (payment_after w x all.0) (payment_shown (after w x) es all.1)
