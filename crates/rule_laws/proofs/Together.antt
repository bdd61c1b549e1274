-- Payments that all go whole to one, which the first of them makes.
use Rattle.std.specs.Prelude.{IfSome, IsSomeAnd, slice_set}
use Rattle.std.specs.List.{AllByRecursion}
use Rattle.std.specs.Option.{option_map}
use Rattle.std.proofs.Common.{◌≡◌, ◌≢◌, ℕ, ◌+◌, ◌<◌, ◌≤◌, List, [], ◌∷◌, ◌++◌, length, map, Option, Some, None, inl, refl, sym, ap, subst, ◌∙◌, arith}
use Rattle.std.proofs.lemmas.Bool.{ne_eqb}
use Rattle.world_laws.specs.amount_math.Content.{Content, Contains-refl, Contains-sum, count, count-difference, count-nothing, nothing, sum, sum-assoc, sum-nothing}
use Rattle.world_laws.specs.amount_math.KindLaws.{value_of_part}
use Rattle.world_laws.specs.amount_math.ValueView.{IsValue, ValueView}
use Rattle.world_laws.specs.amount_math.declared.Kind.{Kind}
use Rattle.rules.specs.call_arguments.Numbers.{AreApart, IsNoneOf}
use Rattle.rules.specs.Licence.{AreLicensed, IsStored, NamesPayment}
use Rattle.rule_laws.proofs.Moving.{Holds, held_brand, held_kind}
use Rattle.world_laws.specs.ertp_mint.Stocks.{most_made}
use Rattle.rules.specs.Lists.{moves_to, values_of}
use Rattle.world_laws.specs.host_data.Tree.{Tree}
use Rattle.world_laws.specs.host_data.declared.data.Obj.{Obj}
use Rattle.world_laws.proofs.lemmas.ListEdits.{length_set, read_other}
use Rattle.rules.specs.holders.PaymentViews.{PaymentView, payment_view_at, spent_payment}
use Rattle.world_laws.specs.vault_model.Lists.{amount_of}
use Rattle.world_laws.specs.vault_model.Tables.{no_hand}
use Rattle.world_laws.specs.rights_model.Table.{movement}
use Rattle.world_laws.specs.rights_model.declared.Holder.TheVariants.{Payment}
use Rattle.world_laws.specs.rights_model.declared.Movement.{Movement}
use Rattle.rules.specs.GivenPayments.{LivePayment}
use Rattle.rules.specs.value_tests.Totals.{total_of}
use Rattle.world_laws.specs.world_state.Good.{AreGood, HasNothing, HoldsNothing, IsFresh, IsGoodMove, IsGoodWorld, open_slots}
use Rattle.world_laws.specs.world_state.Rights.{CanMove, CanMoveAll, Has, IsNextOr, Rights, Takes, all_moved, kind_at, moved, lessened_payment, slots_at, taken, value_less, value_more}
use Rattle.world_laws.specs.world_state.Worlds.{Seat, State, moves}
use Rattle.rule_laws.proofs.Apart.{Left, part_can}
use Rattle.rule_laws.proofs.Spending.{spent_length}
use Rattle.rule_laws.proofs.PaymentViews.{fresh_else, fresh_from, fresh_length, fresh_to, more_else, more_from, more_length, more_to, value_with}

abbrev pub numbers_of : List LivePayment → List ℕ
numbers_of gs = map (λ g. g.number) gs

-- the movement of one of them
abbrev pub move_of : ℕ → ℕ → LivePayment → Movement
move_of b n g = movement b (Payment g.number) (Payment n) g.value

-- what a payment has that gave all of a value
abbrev pub emptied_by : Rights → LivePayment → PaymentView
emptied_by r g = lessened_payment (payment_view_at r.payments g.number) g.value.content

abbrev pub HoldsIn : Rights → ℕ → LivePayment → Type 0
HoldsIn r b g = Holds r.payments g.number b g.value

-- one that was made has what came to it; those that still give to it are others, each once, and of its kind; and
-- all together is a value
pub record Gathers (r : Rights) (n b : ℕ) (kind : Kind) (c : Content) (gs : List LivePayment) : Type 0 where
  pub made : n < length r.payments
  pub brand : (payment_view_at r.payments n).brand ≡ b
  pub held : (payment_view_at r.payments n).held ≡ Some (value_with kind c)
  pub given : AllByRecursion (HoldsIn r b) gs
  pub other : AllByRecursion (λ (g : LivePayment). n ≢ g.number) gs
  pub apart : AreApart (numbers_of gs)
  pub kinds : AllByRecursion (λ (g : LivePayment). g.value.kind ≡ kind) gs
  pub whole : IsValue kind (sum c (total_of (values_of gs)))

-- ---- one payment

nothing_after : (r : Rights) (b : ℕ) (g : LivePayment) → HoldsIn r b g → HoldsNothing (emptied_by r g)
nothing_after r b g holds =
    subst (λ (o : Option ValueView). IfSome (option_map (value_less g.value.content) o) (λ (x : ValueView). (k : List ℕ) → count x.content k ≡ 0)) (sym holds.held)
    (λ k. omega (arith, count-difference g.value.content g.value.content k))

module _ (r : Rights) (n b : ℕ) (kind : Kind) (c : Content) (g : LivePayment) (gs : List LivePayment) (it : Gathers r n b kind c (g ∷ gs)) where
  back : g.number ≢ n
  back e = it.other.0 (sym e)

  more_is_value : IsValue kind (sum (sum c g.value.content) (total_of (values_of gs)))
  more_is_value = subst (λ d. IsValue kind d) (sym (sum-assoc c g.value.content (total_of (values_of gs)))) it.whole

  sum_is_value : IsValue g.value.kind (sum c g.value.content)
  sum_is_value =
      subst (λ (k : Kind). IsValue k (sum c g.value.content)) (sym it.kinds.0)
      (value_of_part kind (sum (sum c g.value.content) (total_of (values_of gs))) (sum c g.value.content) (Contains-sum (sum c g.value.content) (total_of (values_of gs))) more_is_value)

  target_takes : IsSomeAnd (payment_view_at r.payments n).held (λ x. Takes (amount_of (payment_view_at r.payments n).brand x) b g.value)
  target_takes =
      subst (λ (o : Option ValueView). IsSomeAnd o (λ x. Takes (amount_of (payment_view_at r.payments n).brand x) b g.value)) (sym it.held)
      (record { brand = it.brand; kind = sym it.kinds.0; value = sum_is_value })

  pub one_can : b < length r.out → kind_at r.out b ≡ kind → CanMove r no_hand (move_of b n g)
  one_can made same =
      let ps = slice_set r.payments g.number (emptied_by r g) in
      let size = length_set r.payments g.number (emptied_by r g) in
      record {
        brand = made;
        kind = same ∙ sym it.kinds.0;
        from = record {
          made = it.given.0.made;
          has = subst (λ (o : Option ValueView). IsSomeAnd o (λ x. Has (amount_of (payment_view_at r.payments g.number).brand x) b g.value)) (sym it.given.0.held)
              (record { brand = it.given.0.brand; kind = refl; has = Contains-refl g.value.content });
        };
        to = subst (λ t. IsNextOr t (taken r (Payment g.number) b g.value) n b g.value)
            (sym (ne_eqb n (length ps) (λ (e : n ≡ length ps). absurd (omega (arith, e, size, it.made)))))
            (record {
              made = omega (arith, size, it.made);
              takes = subst (λ (x : PaymentView). IsSomeAnd x.held (λ y. Takes (amount_of x.brand y) b g.value))
                  (sym (read_other r.payments g.number n (emptied_by r g) (spent_payment 0) back)) target_takes;
            });
      }

  still_given : (hs : List LivePayment) → AllByRecursion (HoldsIn r b) hs → AllByRecursion (λ (h : LivePayment). n ≢ h.number) hs → IsNoneOf (numbers_of hs) g.number → AllByRecursion (HoldsIn (moved r (move_of b n g)) b) hs
  still_given [] all other none = tt
  still_given (h ∷ hs) all other none =
      let same = more_else r.payments g.number n (emptied_by r g) (amount_of b g.value) it.made h.number (λ e. none.0 (sym e)) other.0 in (
        record {
          made = omega (arith, all.0.made, more_length r.payments g.number n (emptied_by r g) (amount_of b g.value) it.made);
          brand = ap (λ (x : PaymentView). x.brand) same ∙ all.0.brand;
          held = ap (λ (x : PaymentView). x.held) same ∙ all.0.held;
        },
        still_given hs all.1 other.1 none.1,
      )

  pub gathers_next : Gathers (moved r (move_of b n g)) n b kind (sum c g.value.content) gs
  gathers_next =
      let same = more_to r.payments g.number n (emptied_by r g) (amount_of b g.value) it.made back in
      record {
        made = omega (arith, it.made, more_length r.payments g.number n (emptied_by r g) (amount_of b g.value) it.made);
        brand = ap (λ (x : PaymentView). x.brand) same ∙ it.brand;
        held = ap (λ (x : PaymentView). x.held) same ∙ ap (option_map (value_more g.value.content)) it.held;
        given = still_given gs it.given.1 it.other.1 it.apart.0;
        other = it.other.1;
        apart = it.apart.1;
        kinds = it.kinds.1;
        whole = more_is_value;
      }

-- ---- all of them

can_gather : (r : Rights) (n b : ℕ) (kind : Kind) (c : Content) (gs : List LivePayment) → Gathers r n b kind c gs → b < length r.out → kind_at r.out b ≡ kind → CanMoveAll r no_hand (moves_to b n gs)
can_gather r n b kind c [] it made same = record { each = λ e k. count-nothing k }
can_gather r n b kind c (g ∷ gs) it made same = (
  one_can r n b kind c g gs it made same,
  can_gather (moved r (move_of b n g)) n b kind (sum c g.value.content) gs (gathers_next r n b kind c g gs it) made same,
)

payments_to : (r : Rights) (n b : ℕ) (gs : List LivePayment) → n < length r.payments → length (all_moved r (moves_to b n gs)).payments ≡ length r.payments
payments_to r n b [] made = refl
payments_to r n b (g ∷ gs) made =
    let one = more_length r.payments g.number n (emptied_by r g) (amount_of b g.value) made in
    payments_to (moved r (move_of b n g)) n b gs (omega (arith, made, one)) ∙ one

-- payments that don't give stay as they are
untouched : (r : Rights) (n b : ℕ) (gs : List LivePayment) (p : ℕ) → n < length r.payments → n ≢ p → IsNoneOf (numbers_of gs) p → payment_view_at (all_moved r (moves_to b n gs)).payments p ≡ payment_view_at r.payments p
untouched r n b [] p made other none = refl
untouched r n b (g ∷ gs) p made other none =
    untouched (moved r (move_of b n g)) n b gs p (omega (arith, made, more_length r.payments g.number n (emptied_by r g) (amount_of b g.value) made)) other none.1
    ∙ more_else r.payments g.number n (emptied_by r g) (amount_of b g.value) made p none.0 other

emptied_to : (r : Rights) (n b : ℕ) (kind : Kind) (c : Content) (gs : List LivePayment) → Gathers r n b kind c gs → AllByRecursion (λ (m : Movement). HasNothing (all_moved r (moves_to b n gs)).payments m.from) (moves_to b n gs)
emptied_to r n b kind c [] it = tt
emptied_to r n b kind c (g ∷ gs) it =
    let next = gathers_next r n b kind c g gs it in
    let last = untouched (moved r (move_of b n g)) n b gs g.number next.made it.other.0 it.apart.0
    ∙ more_from r.payments g.number n (emptied_by r g) (amount_of b g.value) it.made it.given.0.made it.other.0 in (
      subst HoldsNothing (sym last) (nothing_after r b g it.given.0),
      emptied_to (moved r (move_of b n g)) n b kind (sum c g.value.content) gs next,
    )

slots_to : (r : Rights) (n b : ℕ) (gs : List LivePayment) → (all_moved r (moves_to b n gs)).slots ≡ r.slots
slots_to r n b [] = refl
slots_to r n b (g ∷ gs) = slots_to (moved r (move_of b n g)) n b gs

good_to : (seats : List Seat) (n b : ℕ) (gs : List LivePayment) → AllByRecursion (IsGoodMove seats) (moves_to b n gs)
good_to seats n b [] = tt
good_to seats n b (g ∷ gs) = (record { brings = λ e z. cc; from_named = tt; to_named = tt; from = tt; to = tt }, good_to seats n b gs)

fresh_all : (made n b : ℕ) (gs : List LivePayment) → made ≤ n → AllByRecursion (λ (m : Movement). IsFresh made m.to) (moves_to b n gs)
fresh_all made n b [] le = tt
fresh_all made n b (g ∷ gs) le = (le, fresh_all made n b gs le)

-- ---- what others see of them

pub licensed_to : (w : State) (o : Obj) (m : List ℕ) (args : List Tree) (n b : ℕ) (gs : List LivePayment) → AllByRecursion (λ (g : LivePayment). NamesPayment args g.number) gs → AreLicensed w None o m args (moves_to b n gs ++ [])
licensed_to w o m args n b [] named = tt
licensed_to w o m args n b (g ∷ gs) named = (named.0, licensed_to w o m args n b gs named.1)

pub stored_to : (n b : ℕ) (gs : List LivePayment) → AllByRecursion IsStored (moves_to b n gs ++ [])
stored_to n b [] = tt
stored_to n b (g ∷ gs) = (inl tt, stored_to n b gs)

-- ---- the first, which makes the payment

module _ (r : Rights) (b : ℕ) (g : LivePayment) (gs : List LivePayment) (all : AllByRecursion (HoldsIn r b) (g ∷ gs)) (apart : AreApart (numbers_of (g ∷ gs))) where
  first_left : Left r g.number b g.value.kind (sum g.value.content nothing)
  first_left = record { made = all.0.made; brand = all.0.brand; held = all.0.held ∙ ap (λ c. Some (value_with g.value.kind c)) (sym (sum-nothing g.value.content)) }

  pub first_can : IsValue g.value.kind g.value.content → b < length r.out → kind_at r.out b ≡ g.value.kind → CanMove r no_hand (move_of b (length r.payments) g)
  first_can value made same = part_can r g.number b (length r.payments) g.value.kind g.value nothing refl first_left made same (record { kind_is = refl; value = value })

  other_given : (hs : List LivePayment) → AllByRecursion (HoldsIn r b) hs → IsNoneOf (numbers_of hs) g.number → AllByRecursion (HoldsIn (moved r (move_of b (length r.payments) g)) b) hs
  other_given [] held none = tt
  other_given (h ∷ hs) held none =
      let same = fresh_else r.payments g.number (length r.payments) (emptied_by r g) (amount_of b g.value) refl h.number held.0.made (λ e. none.0 (sym e)) in (
        record {
          made = omega (arith, held.0.made, fresh_length r.payments g.number (length r.payments) (emptied_by r g) (amount_of b g.value) refl);
          brand = ap (λ (x : PaymentView). x.brand) same ∙ held.0.brand;
          held = ap (λ (x : PaymentView). x.held) same ∙ held.0.held;
        },
        other_given hs held.1 none.1,
      )

  all_other : (hs : List LivePayment) → AllByRecursion (HoldsIn r b) hs → AllByRecursion (λ (h : LivePayment). length r.payments ≢ h.number) hs
  all_other [] held = tt
  all_other (h ∷ hs) held = (λ (e : length r.payments ≡ h.number). absurd (omega (arith, e, held.0.made)), all_other hs held.1)

  pub first_gathers : AllByRecursion (λ (h : LivePayment). h.value.kind ≡ g.value.kind) gs → IsValue g.value.kind (total_of (values_of (g ∷ gs))) → Gathers (moved r (move_of b (length r.payments) g)) (length r.payments) b g.value.kind g.value.content gs
  first_gathers kinds whole =
      let same = fresh_to r.payments g.number (length r.payments) (emptied_by r g) (amount_of b g.value) refl in
      record {
        made = omega (arith, fresh_length r.payments g.number (length r.payments) (emptied_by r g) (amount_of b g.value) refl);
        brand = ap (λ (x : PaymentView). x.brand) same;
        held = ap (λ (x : PaymentView). x.held) same;
        given = other_given gs all.1 apart.0;
        other = all_other gs all.1;
        apart = apart.1;
        kinds = kinds;
        whole = whole;
      }

-- ---- the effect

module _ (w : State) (good : IsGoodWorld w) (b : ℕ) where
  kinds_as : (kind : Kind) (gs : List LivePayment) → kind_at w.rights.out b ≡ kind → AllByRecursion (HoldsIn w.rights b) gs → AllByRecursion (λ (g : LivePayment). g.value.kind ≡ kind) gs
  kinds_as kind [] same all = tt
  kinds_as kind (g ∷ gs) same all = (sym (held_kind w good g.number b g.value all.0) ∙ same, kinds_as kind gs same all.1)

  pub gathered_length : (g : LivePayment) (gs : List LivePayment) → length (all_moved w.rights (moves_to b (length w.rights.payments) (g ∷ gs))).payments ≡ length w.rights.payments + 1
  gathered_length g gs =
      let n = length w.rights.payments in
      let one = fresh_length w.rights.payments g.number n (emptied_by w.rights g) (amount_of b g.value) refl in
      payments_to (moved w.rights (move_of b n g)) n b gs (omega (arith, one)) ∙ one

  pub gathered_can : (g : LivePayment) (gs : List LivePayment) → AllByRecursion (HoldsIn w.rights b) (g ∷ gs) → AreApart (numbers_of (g ∷ gs)) → IsValue (kind_at w.rights.out b) (total_of (values_of (g ∷ gs))) → length w.rights.payments + open_slots w.seats w.rights.slots < most_made → AreGood w (moves (moves_to b (length w.rights.payments) (g ∷ gs)) ∷ [])
  gathered_can g gs all apart whole room =
      let n = length w.rights.payments in
      let kind = g.value.kind in
      let same = held_kind w good g.number b g.value all.0 in
      let made = held_brand w good g.number b g.value all.0 in
      let value : IsValue kind (total_of (values_of (g ∷ gs))) = subst (λ (k : Kind). IsValue k (total_of (values_of (g ∷ gs)))) same whole in
      let own : IsValue kind g.value.content = value_of_part kind (total_of (values_of (g ∷ gs))) g.value.content (Contains-sum g.value.content (total_of (values_of gs))) value in
      let it = first_gathers w.rights b g gs all apart (kinds_as kind gs same all.1) value in
      let r = moved w.rights (move_of b n g) in
      let ms = moves_to b n (g ∷ gs) in
      let slots = slots_to w.rights n b (g ∷ gs) in
      let last = untouched r n b gs g.number it.made (λ (e : n ≡ g.number). absurd (omega (arith, e, all.0.made))) apart.0
      ∙ fresh_from w.rights.payments g.number n (emptied_by w.rights g) (amount_of b g.value) refl all.0.made in (
        record {
          can = (first_can w.rights b g gs all apart own made same, can_gather r n b kind g.value.content gs it made same);
          good = good_to w.seats n b (g ∷ gs);
          emptied = (subst HoldsNothing (sym last) (nothing_after w.rights b g all.0), emptied_to r n b kind g.value.content gs it);
          fresh = fresh_all n n b (g ∷ gs) (omega arith);
          apart = λ s staged. ap (λ x. slots_at x s) slots;
          safe = λ s. inl (ap (λ x. slots_at x s) slots);
          room = record { left = omega (arith, room, spent_length ms (all_moved w.rights ms).payments, gathered_length g gs, ap (open_slots w.seats) slots) };
        },
        tt,
      )
