-- A seat that is left is its slots paid out, one after another.
use Rattle.std.specs.Prelude.{◌≡◌, ◌<◌, ℕ, suc, Bool, true, false, cond, List, [], ◌∷◌, ◌++◌, Some, None, length, map, slice_set, refl}
use Rattle.std.specs.List.{AllByRecursion}
use Rattle.std.specs.Str.{bytes_eq}
use Rattle.std.proofs.Common.{append_assoc, sym, ◌∙◌, ap, subst, arith}
use Rattle.std.proofs.lemmas.Bool.{eq-eqb}
use Rattle.std.proofs.lemmas.List.{append-nil}
use Rattle.std.proofs.lemmas.Slice.Eq.{bytes_eq-Decides}
use Rattle.world_state.specs.amount_math.Amount.{holding}
use Rattle.world_state.specs.amount_math.Content.{Content, Contains-refl, count-difference, count-nothing, difference, nothing, same_content}
use Rattle.world_state.specs.amount_math.declared.Amount.{Amount}
use Rattle.world_state.proofs.lemmas.ListEdits.{length_push, length_set, read_set, set_same, set_set}
use Rattle.world_state.specs.holders.PaymentViews.{PaymentView}
use Rattle.world_state.specs.proposals.Shares.{AreApart, amount_under, keyed_share}
use Rattle.world_state.specs.proposals.Slots.{emptied}
use Rattle.world_state.specs.proposals.declared.allocations.Share.{Share}
use Rattle.world_state.specs.rights_model.declared.Holder.TheVariants.{Payment, Slot}
use Rattle.world_state.specs.rights_model.declared.Movement.{Movement}
use Rattle.world_state.specs.rights_model.Table.{movement, table_after}
use Rattle.world_state.specs.vault_model.Lists.{less}
use Rattle.world_state.specs.vault_model.Tables.{no_hand}
use Rattle.world_state.specs.Good.{AreSharesOf, AreSharesValued, IsAmountValued, IsOfKind}
use Rattle.world_state.specs.Rights.{CanMove, CanMoveAll, HasOrOpens, IsNextOr, Rights, all_moved, changed_share, moved, paid_payment, shares_less, shares_with, slots_at, taken}
use Rattle.world_state.specs.Worlds.{paid_out, payout_moves, rights_left}
use Rattle.world_laws.specs.Tables.{Agrees, table_of}
use Rattle.world_laws.proofs.Agreeing.{agrees_all}
use Rattle.world_laws.proofs.Tabled.{table_agrees, table_is}

-- ---- keywords that stand in no share yet

bytes_same : (k : List ℕ) → bytes_eq k k ≡ true
bytes_same k = (bytes_eq-Decides k k).1 refl

other_way : (k q : List ℕ) → bytes_eq k q ≡ false → bytes_eq q k ≡ false
other_way k q e = by (bytes_eq q k) refl
  where
    by : (b : Bool) → bytes_eq q k ≡ b → b ≡ false
    by false is = refl
    by true is = let clash : true ≡ false = sym ((bytes_eq-Decides k q).1 (sym ((bytes_eq-Decides q k).0 is))) ∙ e in clash

-- the share's keyword isn't one of these
abbrev IsFree : List Share → Share → Type 0
IsFree done q = amount_under q.keyword done ≡ None

abbrev AreFree : List Share → List Share → Type 0
AreFree done rest = AllByRecursion (IsFree done) rest

free_both : (k : List ℕ) (done : List Share) (r : Share) → amount_under k done ≡ None → bytes_eq k r.keyword ≡ false → amount_under k (done ++ emptied r ∷ []) ≡ None
free_both k [] r none e = ap (λ b. cond b (Some (emptied r).amount) None) e
free_both k (x ∷ xs) r none e = by (bytes_eq k x.keyword) (free_both k xs r) none
  where
    by : (b : Bool) → (amount_under k xs ≡ None → bytes_eq k r.keyword ≡ false → amount_under k (xs ++ emptied r ∷ []) ≡ None) → cond b (Some x.amount) (amount_under k xs) ≡ None → cond b (Some x.amount) (amount_under k (xs ++ emptied r ∷ [])) ≡ None
    by true later here = here
    by false later here = later here e

free_more : (done : List Share) (r : Share) (rs : List Share) → amount_under r.keyword rs ≡ None → AreFree done rs → AreFree (done ++ emptied r ∷ []) rs
free_more done r [] none all = tt
free_more done r (q ∷ qs) none all = by (bytes_eq r.keyword q.keyword) refl none (λ here. free_more done r qs here all.1)
  where
    by : (b : Bool) → bytes_eq r.keyword q.keyword ≡ b → cond b (Some q.amount) (amount_under r.keyword qs) ≡ None → (amount_under r.keyword qs ≡ None → AreFree (done ++ emptied r ∷ []) qs) → AreFree (done ++ emptied r ∷ []) (q ∷ qs)
    by true is here later = absurd cc
    by false is here later = (free_both q.keyword done r all.0 (other_way r.keyword q.keyword is), later here)

free_of_none : (rs : List Share) → AreFree [] rs
free_of_none [] = tt
free_of_none (r ∷ rs) = (refl, free_of_none rs)

-- ---- a share among shares is emptied

nothing_left : (c : Content) → difference c c ≡ nothing
nothing_left c = same_content (difference c c) nothing (λ k. omega (arith, count-difference c c k, count-nothing k))

module _ (r : Share) (rs : List Share) where
  read_among : (done : List Share) → IsFree done r → amount_under r.keyword (done ++ r ∷ rs) ≡ Some r.amount
  read_among [] free = ap (λ b. cond b (Some r.amount) (amount_under r.keyword rs)) (bytes_same r.keyword)
  read_among (x ∷ xs) free = by (bytes_eq r.keyword x.keyword) free (read_among xs)
    where
      by : (b : Bool) → cond b (Some x.amount) (amount_under r.keyword xs) ≡ None → (amount_under r.keyword xs ≡ None → amount_under r.keyword (xs ++ r ∷ rs) ≡ Some r.amount) → cond b (Some x.amount) (amount_under r.keyword (xs ++ r ∷ rs)) ≡ Some r.amount
      by true here later = absurd cc
      by false here later = later here

  changed_among : (f : Amount → Amount) (new : Amount) (done : List Share) → IsFree done r → shares_with r.keyword f new (done ++ r ∷ rs) ≡ done ++ changed_share f r ∷ rs
  changed_among f new [] free = ap (λ b. cond b (changed_share f r ∷ rs) (r ∷ shares_with r.keyword f new rs)) (bytes_same r.keyword)
  changed_among f new (x ∷ xs) free = by (bytes_eq r.keyword x.keyword) free (changed_among f new xs)
    where
      by : (b : Bool) → cond b (Some x.amount) (amount_under r.keyword xs) ≡ None → (amount_under r.keyword xs ≡ None → shares_with r.keyword f new (xs ++ r ∷ rs) ≡ xs ++ changed_share f r ∷ rs) → cond b (changed_share f x ∷ (xs ++ r ∷ rs)) (x ∷ shares_with r.keyword f new (xs ++ r ∷ rs)) ≡ x ∷ (xs ++ changed_share f r ∷ rs)
      by true here later = absurd cc
      by false here later = ap (λ l. x ∷ l) (later here)

  emptied_among : (done : List Share) → IsFree done r → shares_less r.keyword r.amount (done ++ r ∷ rs) ≡ (done ++ emptied r ∷ []) ++ rs
  emptied_among done free =
      changed_among (λ had. less had r.amount.value.content) (holding r.amount nothing) done free
      ∙ ap (λ c. done ++ keyed_share r.keyword (holding r.amount c) ∷ rs) (nothing_left r.amount.value.content)
      ∙ sym (append_assoc done (emptied r ∷ []) rs)

-- ---- slots are paid out, one after another

abbrev paid_to : Rights → ℕ → List PaymentView → List Share → Rights
paid_to r n views shares = record r { payments = views; slots = slice_set r.slots n shares }

-- one slot goes whole to the next payment
one_out : (r : Rights) (n : ℕ) (done : List Share) (x : Share) (xs : List Share) → slots_at r.slots n ≡ done ++ x ∷ xs → IsFree done x
    → moved r (movement x.amount.brand (Slot n x.keyword) (Payment (length r.payments)) x.amount.value) ≡ paid_to r n (r.payments ++ paid_out x ∷ []) ((done ++ emptied x ∷ []) ++ xs)
one_out r n done x xs shares free = λ i. record {
  purses = r.purses;
  payments = ap (λ t. cond t (r.payments ++ paid_out x ∷ []) (slice_set r.payments (length r.payments) further)) (eq-eqb (length r.payments) (length r.payments) refl) i;
  slots = slice_set r.slots n ((ap (shares_less x.keyword x.amount) shares ∙ emptied_among x xs done free) i);
  out = r.out;
}
  where
    further : PaymentView
    further = paid_payment r.payments (length r.payments) x.amount

all_out : (r : Rights) (n p : ℕ) (done rest : List Share) → n < length r.slots → p ≡ length r.payments → slots_at r.slots n ≡ done ++ rest → AreFree done rest → AreApart rest
    → all_moved r (payout_moves n p rest) ≡ paid_to r n (r.payments ++ map paid_out rest) (done ++ map emptied rest)
all_out r n p done [] made at shares free apart = λ i. record {
  purses = r.purses;
  payments = sym (append-nil r.payments) i;
  slots = (sym (set_same r.slots n []) ∙ ap (slice_set r.slots n) shares) i;
  out = r.out;
}
all_out r n p done (x ∷ xs) made at shares free apart =
    ap (λ q. all_moved (moved r (movement x.amount.brand (Slot n x.keyword) (Payment q) x.amount.value)) (payout_moves n (suc q) xs)) at
    ∙ ap (λ y. all_moved y (payout_moves n (suc (length r.payments)) xs)) (one_out r n done x xs shares free.0)
    ∙ all_out next n (suc (length r.payments)) (done ++ emptied x ∷ []) xs
    (omega (arith, made, length_set r.slots n now))
    (omega (arith, length_push r.payments (paid_out x)))
    (read_set r.slots n now [] made)
    (free_more done x xs apart.0 free.1)
    apart.1
    ∙ (λ i. record {
      purses = r.purses;
      payments = append_assoc r.payments (paid_out x ∷ []) (map paid_out xs) i;
      slots = (set_set r.slots n now ((done ++ emptied x ∷ []) ++ map emptied xs) ∙ ap (slice_set r.slots n) (append_assoc done (emptied x ∷ []) (map emptied xs))) i;
      out = r.out;
    })
  where
    now : List Share
    now = (done ++ emptied x ∷ []) ++ xs

    next : Rights
    next = paid_to r n (r.payments ++ paid_out x ∷ []) now

pub left_is : (r : Rights) (n : ℕ) → n < length r.slots → AreApart (slots_at r.slots n) → all_moved r (payout_moves n (length r.payments) (slots_at r.slots n)) ≡ rights_left r n
left_is r n made apart = all_out r n (length r.payments) [] (slots_at r.slots n) made refl refl (free_of_none (slots_at r.slots n)) apart

-- ---- and each of them can be

can_one : (r : Rights) (n : ℕ) (done : List Share) (x : Share) (xs : List Share) → n < length r.slots → slots_at r.slots n ≡ done ++ x ∷ xs → IsFree done x → IsOfKind r.out x.amount → IsAmountValued x.amount
    → CanMove r no_hand (movement x.amount.brand (Slot n x.keyword) (Payment (length r.payments)) x.amount.value)
can_one r n done x xs made shares free of valued = record {
  brand = of.made;
  kind = of.kind;
  from = record {
    made = made;
    has = subst (λ o. HasOrOpens o (slots_at r.slots n) x.amount.brand x.amount.value) (sym (ap (amount_under x.keyword) shares ∙ read_among x xs done free)) (record { brand = refl; kind = refl; has = Contains-refl x.amount.value.content });
  };
  to = subst (λ t. IsNextOr t (taken r (Slot n x.keyword) x.amount.brand x.amount.value) (length r.payments) x.amount.brand x.amount.value) (sym (eq-eqb (length r.payments) (length r.payments) refl)) valued;
}

all_can : (r : Rights) (n p : ℕ) (done rest : List Share) → n < length r.slots → p ≡ length r.payments → slots_at r.slots n ≡ done ++ rest → AreFree done rest → AreApart rest → AreSharesOf r.out rest → AreSharesValued rest
    → CanMoveAll r no_hand (payout_moves n p rest)
all_can r n p done [] made at shares free apart of valued = record { each = λ b k. count-nothing k }
all_can r n p done (x ∷ xs) made at shares free apart of valued =
    subst (λ q. CanMoveAll r no_hand (movement x.amount.brand (Slot n x.keyword) (Payment q) x.amount.value ∷ payout_moves n (suc q) xs)) (sym at) (
      can_one r n done x xs made shares free.0 of.0 valued.0,
      subst (λ y. CanMoveAll y no_hand (payout_moves n (suc (length r.payments)) xs)) (sym (one_out r n done x xs shares free.0))
          (all_can next n (suc (length r.payments)) (done ++ emptied x ∷ []) xs
          (omega (arith, made, length_set r.slots n now))
          (omega (arith, length_push r.payments (paid_out x)))
          (read_set r.slots n now [] made)
          (free_more done x xs apart.0 free.1)
          apart.1 of.1 valued.1),
    )
  where
    now : List Share
    now = (done ++ emptied x ∷ []) ++ xs

    next : Rights
    next = paid_to r n (r.payments ++ paid_out x ∷ []) now

pub payouts_can : (r : Rights) (n : ℕ) → n < length r.slots → AreApart (slots_at r.slots n) → AreSharesOf r.out (slots_at r.slots n) → AreSharesValued (slots_at r.slots n) → CanMoveAll r no_hand (payout_moves n (length r.payments) (slots_at r.slots n))
payouts_can r n made apart of valued = all_can r n (length r.payments) [] (slots_at r.slots n) made refl refl (free_of_none (slots_at r.slots n)) apart of valued

pub table_left : (r : Rights) (n : ℕ) → n < length r.slots → AreApart (slots_at r.slots n) → AreSharesOf r.out (slots_at r.slots n) → AreSharesValued (slots_at r.slots n)
    → table_of (rights_left r n) ≡ table_after (table_of r) (payout_moves n (length r.payments) (slots_at r.slots n))
table_left r n made apart of valued =
    let ms : List Movement = payout_moves n (length r.payments) (slots_at r.slots n) in
    table_is (rights_left r n) (table_after (table_of r) ms) (subst (λ y. Agrees y no_hand (table_after (table_of r) ms)) (left_is r n made apart) (agrees_all r no_hand (table_of r) ms (payouts_can r n made apart of valued) (table_agrees r)))
