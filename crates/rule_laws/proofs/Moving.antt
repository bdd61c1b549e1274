-- Single movements between purses, payments and outside that can be made in a good world.
use Rattle.std.specs.Prelude.{IfSome, IsSomeAnd, slice_index_or, slice_set}
use Rattle.std.specs.Option.{option_map}
use Rattle.std.proofs.Common.{◌≡◌, ℕ, zero, suc, ◌+◌, ◌<◌, ◌≤◌, cond, List, [], ◌∷◌, ◌++◌, length, map, Option, Some, inl, refl, sym, ap, subst, ◌∙◌, arith, if◌then◌else◌}
use Rattle.std.proofs.lemmas.Bool.{eq-eqb}
use Rattle.world_laws.specs.amount_math.Content.{Content, Contains, count, count-difference, count-nothing, difference, nothing, sum}
use Rattle.world_laws.specs.amount_math.Counted.{counted}
use Rattle.world_laws.specs.amount_math.ValueView.{Fits, IsValue, ValueView, minted_bound}
use Rattle.world_laws.specs.amount_math.declared.Amount.{Amount}
use Rattle.world_laws.specs.host_data.Amounts.{IsValueOf}
use Rattle.world_laws.specs.ertp_mint.BrandSupply.{supply_at}
use Rattle.world_laws.specs.ertp_mint.Stocks.{most_made, no_amount}
use Rattle.world_laws.proofs.lemmas.ListEdits.{length_map, length_push, length_set, read_map, read_set}
use Rattle.rules.specs.holders.PaymentViews.{PaymentView, live_payment, payment_view_at, spent_payment}
use Rattle.world_laws.specs.vault_model.Lists.{amount_of, purse_at}
use Rattle.world_laws.specs.vault_model.Tables.{Right, all_in, content_held, in_brand, right_on}
use Rattle.world_laws.specs.rights_model.declared.Holder.TheVariants.{Purse, Payment, Outside}
use Rattle.world_laws.proofs.Lists.{all_read}
use Rattle.world_laws.specs.world_state.Good.{AreGood, IsGoodWorld, IsOfKind, IsPayment, open_slots}
use Rattle.world_laws.specs.world_state.Known.{IsMadeBy}
use Rattle.world_laws.specs.world_state.Rights.{Has, IsNextOr, PaymentTakes, Rights, kind_at, paid, lessened_payment, raised_payment, taken}
use Rattle.world_laws.specs.world_state.Worlds.{State, maker_at, of_host, of_kit}
use Rattle.rules.specs.Words.{one_move}

-- ---- the next payment

pub next_takes : (r : Rights) (b : ℕ) (v : ValueView) → IsValue v.kind v.content → PaymentTakes r (length r.payments) b v
next_takes r b v is = subst (λ t. IsNextOr t r (length r.payments) b v) (sym (eq-eqb (length r.payments) (length r.payments) refl)) is

pub paid_next : (ps : List PaymentView) (a : Amount) → length (paid ps (length ps) a) ≡ length ps + 1
paid_next ps a =
    subst (λ b. length (if b then ps ++ live_payment a ∷ [] else slice_set ps (length ps) (raised_payment (payment_view_at ps (length ps)) a.value.content)) ≡ length ps + 1)
    (sym (eq-eqb (length ps) (length ps) refl)) (length_push ps (live_payment a))

own_value : (kind : _) (v : ValueView) → IsValueOf kind v → IsValue v.kind v.content
own_value kind v is = subst (λ k. IsValue k v.content) (sym is.kind_is) is.value

-- ---- what a payment has

-- a payment is of a brand, and has this
pub record Holds (ps : List PaymentView) (p b : ℕ) (v : ValueView) : Type 0 where
  pub made : p < length ps
  pub brand : (payment_view_at ps p).brand ≡ b
  pub held : (payment_view_at ps p).held ≡ Some v

pub contains_itself : (c : Content) → Contains c c
contains_itself c = record { each = λ k. omega arith }

pub emptied_payment : (ps : List PaymentView) (p : ℕ) (v : ValueView) → p < length ps → (payment_view_at ps p).held ≡ Some v → IfSome (payment_view_at (slice_set ps p (lessened_payment (payment_view_at ps p) v.content)) p).held (λ (x : ValueView). (k : List ℕ) → count x.content k ≡ 0)
emptied_payment ps p v made held =
    subst (λ (x : PaymentView). IfSome x.held (λ (y : ValueView). (k : List ℕ) → count y.content k ≡ 0)) (sym (read_set ps p (lessened_payment (payment_view_at ps p) v.content) (spent_payment 0) made))
    (subst (λ (o : Option ValueView). IfSome (option_map (λ (x : ValueView). record { kind = x.kind; content = difference x.content v.content }) o) (λ (y : ValueView). (k : List ℕ) → count y.content k ≡ 0)) (sym held)
    (λ k. omega (arith, count-difference v.content v.content k)))

one_in_all : (l : List Right) (n : ℕ) (d : Right) (e : ℕ) (k : List ℕ) → n < length l → count (in_brand (slice_index_or l n d) e) k ≤ all_in l e k
one_in_all [] n d e k lt = absurd (omega arith)
one_in_all (r ∷ rs) zero d e k lt = omega arith
one_in_all (r ∷ rs) (suc n) d e k lt = omega (arith, one_in_all rs n d e k (omega arith))

in_own_brand : (p : PaymentView) (b : ℕ) (v : ValueView) (k : List ℕ) → p.brand ≡ b → p.held ≡ Some v → count (in_brand (right_on p) b) k ≡ count v.content k
in_own_brand p b v k brand held =
    ap (λ t. count (cond t (content_held p.held) nothing) k) (eq-eqb p.brand b brand) ∙ ap (λ o. count (content_held o) k) held

module _ (w : State) (good : IsGoodWorld w) where
  pub purse_is : (n : ℕ) → n < length w.rights.purses → IsOfKind w.rights.out (purse_at w.rights.purses n)
  purse_is n made = all_read (IsOfKind w.rights.out) w.rights.purses n no_amount good.purse_kinds made

  pub payment_view_is : (p : ℕ) → p < length w.rights.payments → IsPayment w.rights.out (payment_view_at w.rights.payments p)
  payment_view_is p made = all_read (IsPayment w.rights.out) w.rights.payments p (spent_payment 0) good.payment_kinds made

  -- what a payment has is of its brand's kind, and is out
  pub held_kind : (p b : ℕ) (v : ValueView) → Holds w.rights.payments p b v → kind_at w.rights.out b ≡ v.kind
  held_kind p b v is =
      subst (λ e. kind_at w.rights.out e ≡ v.kind) is.brand
      (subst (λ (o : Option ValueView). IfSome o (λ (x : ValueView). kind_at w.rights.out (payment_view_at w.rights.payments p).brand ≡ x.kind)) is.held (payment_view_is p is.made).kind)

  pub held_brand : (p b : ℕ) (v : ValueView) → Holds w.rights.payments p b v → b < length w.rights.out
  held_brand p b v is = subst (λ e. e < length w.rights.out) is.brand (payment_view_is p is.made).made

  pub is_out : (p b : ℕ) (v : ValueView) → Holds w.rights.payments p b v → Contains (supply_at w.rights.out b).outstanding.content v.content
  is_out p b v is = record {
    each = λ k. omega (
      arith,
      good.balanced.each b k,
      one_in_all (map right_on w.rights.payments) p (right_on (spent_payment 0)) b k (omega (arith, is.made, length_map right_on w.rights.payments)),
      ap (λ (r : Right). count (in_brand r b) k) (read_map right_on w.rights.payments p (spent_payment 0)),
      in_own_brand (payment_view_at w.rights.payments p) b v k is.brand is.held,
    );
  }

  -- from a purse to the next payment
  pub purse_to_payment : (n : ℕ) (v : ValueView) → n < length w.rights.purses → IsValueOf (purse_at w.rights.purses n).value.kind v → Contains (purse_at w.rights.purses n).value.content v.content → length w.rights.payments + open_slots w.seats w.rights.slots < most_made → AreGood w (one_move (purse_at w.rights.purses n).brand (Purse n) (Payment (length w.rights.payments)) v)
  purse_to_payment n v made value has room =
      let b = (purse_at w.rights.purses n).brand in
      let is = purse_is n made in (
        record {
          can = (
            record {
              brand = is.made;
              kind = is.kind ∙ sym value.kind_is;
              from = record { made = made; has = record { brand = refl; kind = sym value.kind_is; has = has } };
              to = next_takes (taken w.rights (Purse n) b v) b v (own_value (purse_at w.rights.purses n).value.kind v value);
            },
            record { each = λ e k. count-nothing k },
          );
          good = (record { brings = λ e z. cc; from_named = tt; to_named = tt; from = tt; to = tt }, tt);
          emptied = (tt, tt);
          fresh = (omega arith, tt);
          apart = λ s staged. refl;
          safe = λ s. inl refl;
          room = record { left = omega (arith, paid_next w.rights.payments (amount_of b v), room) };
        },
        tt,
      )

  -- from outside to the next payment, in a brand of a mint that a party has
  pub outside_to_payment : (b : ℕ) (v : ValueView) → IsMadeBy w.makers of_kit b → IsValueOf (kind_at w.rights.out b) v → Fits (kind_at w.rights.out b) (sum (supply_at w.rights.out b).outstanding.content v.content) → (supply_at w.rights.out b).minted + counted v.content ≤ minted_bound → length w.rights.payments + open_slots w.seats w.rights.slots < most_made → AreGood w (one_move b Outside (Payment (length w.rights.payments)) v)
  outside_to_payment b v by value fits minted left = (
    record {
      can = (
        record {
          brand = omega (arith, by.made, good.brands.made_by, good.brands.supplies);
          kind = sym value.kind_is;
          from = record { fits = subst (λ k. Fits k (sum (supply_at w.rights.out b).outstanding.content v.content)) (sym value.kind_is) fits; minted = minted };
          to = next_takes (taken w.rights Outside b v) b v (own_value (kind_at w.rights.out b) v value);
        },
        record { each = λ e k. count-nothing k },
      );
      good = (record { brings = λ e z. not_first z; from_named = tt; to_named = tt; from = tt; to = tt }, tt);
      emptied = (tt, tt);
      fresh = (omega arith, tt);
      apart = λ s staged. refl;
      safe = λ s. inl refl;
      room = record { left = omega (arith, paid_next w.rights.payments (amount_of b v), left) };
    },
    tt,
  )
    where
      not_first : b ≡ 0 → ⊥
      not_first z = let clash : of_kit ≡ of_host = sym by.is ∙ ap (maker_at w.makers) z ∙ good.brands.host in cc

  -- from a payment to a purse of its brand
  pub payment_to_purse : (p n : ℕ) (v : ValueView) → Holds w.rights.payments p (purse_at w.rights.purses n).brand v → n < length w.rights.purses → IsValue (purse_at w.rights.purses n).value.kind (sum (purse_at w.rights.purses n).value.content v.content) → AreGood w (one_move (purse_at w.rights.purses n).brand (Payment p) (Purse n) v)
  payment_to_purse p n v holds made value =
      let b = (purse_at w.rights.purses n).brand in
      let is = purse_is n made in
      let same : (purse_at w.rights.purses n).value.kind ≡ v.kind = sym is.kind ∙ held_kind p b v holds in (
        record {
          can = (
            record {
              brand = is.made;
              kind = held_kind p b v holds;
              from = record {
                made = holds.made;
                has = subst (λ (o : Option ValueView). IsSomeAnd o (λ x. Has (amount_of (payment_view_at w.rights.payments p).brand x) b v)) (sym holds.held) (record { brand = holds.brand; kind = refl; has = contains_itself v.content });
              };
              to = record {
                made = made;
                takes = record { brand = refl; kind = same; value = subst (λ k. IsValue k (sum (purse_at w.rights.purses n).value.content v.content)) same value };
              };
            },
            record { each = λ e k. count-nothing k },
          );
          good = (record { brings = λ e z. cc; from_named = tt; to_named = tt; from = tt; to = tt }, tt);
          emptied = (emptied_payment w.rights.payments p v holds.made holds.held, tt);
          fresh = (tt, tt);
          apart = λ s staged. refl;
          safe = λ s. inl refl;
          room = record { left = omega (arith, good.room.left, twice_set p v) };
        },
        tt,
      )
    where
      twice_set : (p : ℕ) (v : ValueView) → length (slice_set (slice_set w.rights.payments p (lessened_payment (payment_view_at w.rights.payments p) v.content)) p (spent_payment (payment_view_at (slice_set w.rights.payments p (lessened_payment (payment_view_at w.rights.payments p) v.content)) p).brand)) ≡ length w.rights.payments
      twice_set p v = length_set _ p _ ∙ length_set w.rights.payments p _

  -- from a payment to outside
  pub payment_to_outside : (p b : ℕ) (v : ValueView) → Holds w.rights.payments p b v → AreGood w (one_move b (Payment p) Outside v)
  payment_to_outside p b v holds = (
    record {
      can = (
        record {
          brand = held_brand p b v holds;
          kind = held_kind p b v holds;
          from = record {
            made = holds.made;
            has = subst (λ (o : Option ValueView). IsSomeAnd o (λ x. Has (amount_of (payment_view_at w.rights.payments p).brand x) b v)) (sym holds.held) (record { brand = holds.brand; kind = refl; has = contains_itself v.content });
          };
          to = record { has = is_out p b v holds };
        },
        record { each = λ e k. count-nothing k },
      );
      good = (record { brings = λ e z. cc; from_named = tt; to_named = tt; from = tt; to = tt }, tt);
      emptied = (emptied_payment w.rights.payments p v holds.made holds.held, tt);
      fresh = (tt, tt);
      apart = λ s staged. refl;
      safe = λ s. inl refl;
      room = record { left = omega (arith, good.room.left, length_set (slice_set w.rights.payments p (lessened_payment (payment_view_at w.rights.payments p) v.content)) p (spent_payment (payment_view_at (slice_set w.rights.payments p (lessened_payment (payment_view_at w.rights.payments p) v.content)) p).brand), length_set w.rights.payments p (lessened_payment (payment_view_at w.rights.payments p) v.content)) };
    },
    tt,
  )
