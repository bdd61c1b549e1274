-- Rearrangements: what several seats lose goes to the hand, then what each gains comes from it.
use Rattle.std.specs.Prelude.{flat_map, map, slice_set}
use Rattle.std.specs.List.{AllByRecursion}
use Rattle.std.proofs.Common.{◌≡◌, ℕ, ◌+◌, ◌<◌, cond, List, [], ◌∷◌, ◌++◌, length, refl, sym, ap, subst, ◌∙◌, arith}
use Rattle.std.proofs.lemmas.Bool.{eq-eqb}
use Rattle.std.proofs.lemmas.List.Sums.{sum_by-cons}
use Rattle.world_laws.specs.amount_math.Content.{Content, Contains, count}
use Rattle.rules.specs.call_arguments.Numbers.{AreApart, IsNoneOf}
use Rattle.world_laws.specs.ertp_mint.BrandSupply.{BrandSupply}
use Rattle.world_laws.proofs.lemmas.ListEdits.{length_set, read_other, read_set, set_same, set_set}
use Rattle.rules.specs.proposals.Shares.{amount_under}
use Rattle.rules.specs.proposals.declared.allocations.Share.{Share}
use Rattle.rules.specs.proposals.declared.plans.Touched.{Touched}
use Rattle.rules.specs.rearrange.Sums.{share_count, shares_count}
use Rattle.world_laws.specs.rights_model.Table.{movement}
use Rattle.world_laws.specs.rights_model.declared.Holder.TheVariants.{Hand, Slot}
use Rattle.world_laws.specs.rights_model.declared.Movement.{Movement}
use Rattle.world_laws.proofs.vault_model.Sound.{minus_count, plus_count}
use Rattle.world_laws.specs.world_state.Good.{AreSharesOf, IsOfKind}
use Rattle.world_laws.specs.world_state.Rights.{CanMove, CanMoveAll, HasOrOpens, IsEmptyHand, Rights, TakesOrOpens, all_moved, hand_after, moved, shares_less, shares_more, slots_at}
use Rattle.rule_laws.proofs.SlotLists.{CanAddAll, CanTakeAll, moved_amount, with_less, with_more}
use Rattle.rule_laws.proofs.SlotMoves.{at_seat}
use Rattle.rule_laws.proofs.SeatMoves.{less_at}
use Rattle.rule_laws.proofs.Shares.{CanBecome, changed_shares, gained, loses, lost, lost_kinds}

-- ---- movements that can be made one after another, whatever is in the hand then

abbrev pub MovesIn : Rights → (ℕ → Content) → List Movement → Type 0
MovesIn r h [] = Unit {0}
MovesIn r h (m ∷ ms) = CanMove r h m × MovesIn (moved r m) (hand_after h m) ms

abbrev pub hand_all : (ℕ → Content) → List Movement → ℕ → Content
hand_all h [] = h
hand_all h (m ∷ ms) = hand_all (hand_after h m) ms

pub moves_append : (xs ys : List Movement) (r : Rights) (h : ℕ → Content) → MovesIn r h xs → MovesIn (all_moved r xs) (hand_all h xs) ys → MovesIn r h (xs ++ ys)
moves_append [] ys r h a b = b
moves_append (x ∷ xs) ys r h a b = (a.0, moves_append xs ys (moved r x) (hand_after h x) a.1 b)

pub moves_end : (ms : List Movement) (r : Rights) (h : ℕ → Content) → MovesIn r h ms → IsEmptyHand (hand_all h ms) → CanMoveAll r h ms
moves_end [] r h a empty = empty
moves_end (m ∷ ms) r h a empty = (a.0, moves_end ms (moved r m) (hand_after h m) a.1 empty)

pub all_append : (xs ys : List Movement) (r : Rights) → all_moved r (xs ++ ys) ≡ all_moved (all_moved r xs) ys
all_append [] ys r = refl
all_append (x ∷ xs) ys r = all_append xs ys (moved r x)

pub hand_append : (xs ys : List Movement) (h : ℕ → Content) (b : ℕ) → hand_all h (xs ++ ys) b ≡ hand_all (hand_all h xs) ys b
hand_append [] ys h b = refl
hand_append (x ∷ xs) ys h b = hand_append xs ys (hand_after h x) b

-- ---- one seat

abbrev pub out_move : ℕ → Share → Movement
out_move s x = movement x.amount.brand (Slot s x.keyword) Hand x.amount.value

abbrev pub in_move : ℕ → Share → Movement
in_move s x = movement x.amount.brand Hand (Slot s x.keyword) x.amount.value

module _ (s : ℕ) where
  pub outs_in : (r : Rights) (h : ℕ → Content) (cur shares : List Share) → s < length r.slots → slots_at r.slots s ≡ cur → CanTakeAll cur shares → AreSharesOf r.out shares → MovesIn r h (map (out_move s) shares)
  outs_in r h cur [] made is can kinds = tt
  outs_in r h cur (x ∷ xs) made is can kinds = (
    record {
      brand = kinds.0.made;
      kind = kinds.0.kind;
      from = record { made = made; has = subst (λ shares. HasOrOpens (amount_under x.keyword shares) shares x.amount.brand x.amount.value) (sym is) can.0 };
      to = tt;
    },
    outs_in (moved r (out_move s x)) (hand_after h (out_move s x)) (shares_less x.keyword (moved_amount x) cur) xs (omega (arith, made, length_set r.slots s (shares_less x.keyword (moved_amount x) (slots_at r.slots s)))) (less_at s r cur x made is) can.1 kinds.1,
  )

  pub outs_slots : (r : Rights) (cur shares : List Share) → s < length r.slots → slots_at r.slots s ≡ cur → (all_moved r (map (out_move s) shares)).slots ≡ slice_set r.slots s (with_less cur shares)
  outs_slots r cur [] made is = sym (ap (slice_set r.slots s) (sym is) ∙ set_same r.slots s [])
  outs_slots r cur (x ∷ xs) made is =
      let next = shares_less x.keyword (moved_amount x) (slots_at r.slots s) in
      outs_slots (moved r (out_move s x)) (shares_less x.keyword (moved_amount x) cur) xs (omega (arith, made, length_set r.slots s next)) (less_at s r cur x made is)
      ∙ set_set r.slots s next (with_less cur (x ∷ xs))

  pub outs_out : (r : Rights) (shares : List Share) → (all_moved r (map (out_move s) shares)).out ≡ r.out
  outs_out r [] = refl
  outs_out r (x ∷ xs) = outs_out (moved r (out_move s x)) xs

  pub outs_payments : (r : Rights) (shares : List Share) → (all_moved r (map (out_move s) shares)).payments ≡ r.payments
  outs_payments r [] = refl
  outs_payments r (x ∷ xs) = outs_payments (moved r (out_move s x)) xs

  pub outs_hand : (h : ℕ → Content) (shares : List Share) (b : ℕ) (e : List ℕ) → count (hand_all h (map (out_move s) shares) b) e ≡ count (h b) e + shares_count b e shares
  outs_hand h [] b e = omega arith
  outs_hand h (x ∷ xs) b e = omega (arith, outs_hand (hand_after h (out_move s x)) xs b e, plus_count h x.amount.brand x.amount.value.content b e, sum_by-cons (share_count b e) x xs)

  -- the hand has what is still to come from it, and more
  abbrev pub HandIs : (ℕ → Content) → List Share → (ℕ → List ℕ → ℕ) → Type 0
  HandIs h shares extra = (b : ℕ) (e : List ℕ) → count (h b) e ≡ shares_count b e shares + extra b e

  own_count : (x : Share) (e : List ℕ) → share_count x.amount.brand e x ≡ count x.amount.value.content e
  own_count x e = ap (λ t. cond t (count x.amount.value.content e) 0) (eq-eqb x.amount.brand x.amount.brand refl)

  hand_has : (h : ℕ → Content) (x : Share) (xs : List Share) (extra : ℕ → List ℕ → ℕ) → HandIs h (x ∷ xs) extra → Contains (h x.amount.brand) x.amount.value.content
  hand_has h x xs extra is = record { each = λ e. omega (arith, is x.amount.brand e, sum_by-cons (share_count x.amount.brand e) x xs, own_count x e) }

  hand_next : (h : ℕ → Content) (x : Share) (xs : List Share) (extra : ℕ → List ℕ → ℕ) → HandIs h (x ∷ xs) extra → HandIs (hand_after h (in_move s x)) xs extra
  hand_next h x xs extra is b e = omega (arith, is b e, sum_by-cons (share_count b e) x xs, minus_count h x.amount.brand x.amount.value.content b e (hand_has h x xs extra is))

  pub ins_in : (r : Rights) (h : ℕ → Content) (cur shares : List Share) (extra : ℕ → List ℕ → ℕ) → s < length r.slots → slots_at r.slots s ≡ cur → CanAddAll cur shares → AreSharesOf r.out shares → HandIs h shares extra → MovesIn r h (map (in_move s) shares)
  ins_in r h cur [] extra made is can kinds hand = tt
  ins_in r h cur (x ∷ xs) extra made is can kinds hand = (
    record {
      brand = kinds.0.made;
      kind = kinds.0.kind;
      from = record { has = hand_has h x xs extra hand };
      to = record { made = made; takes = subst (λ shares. TakesOrOpens (amount_under x.keyword shares) shares x.amount.brand x.amount.value) (sym is) can.0 };
    },
    ins_in (moved r (in_move s x)) (hand_after h (in_move s x)) (shares_more x.keyword (moved_amount x) cur) xs extra (omega (arith, made, length_set r.slots s (shares_more x.keyword (moved_amount x) (slots_at r.slots s)))) (at_seat s r cur x made is) can.1 kinds.1 (hand_next h x xs extra hand),
  )

  pub ins_hand : (h : ℕ → Content) (shares : List Share) (extra : ℕ → List ℕ → ℕ) → HandIs h shares extra → (b : ℕ) (e : List ℕ) → count (hand_all h (map (in_move s) shares) b) e ≡ extra b e
  ins_hand h [] extra hand b e = omega (arith, hand b e)
  ins_hand h (x ∷ xs) extra hand b e = ins_hand (hand_after h (in_move s x)) xs extra (hand_next h x xs extra hand) b e

  pub ins_slots : (r : Rights) (cur shares : List Share) → s < length r.slots → slots_at r.slots s ≡ cur → (all_moved r (map (in_move s) shares)).slots ≡ slice_set r.slots s (with_more cur shares)
  ins_slots r cur [] made is = sym (ap (slice_set r.slots s) (sym is) ∙ set_same r.slots s [])
  ins_slots r cur (x ∷ xs) made is =
      let next = shares_more x.keyword (moved_amount x) (slots_at r.slots s) in
      ins_slots (moved r (in_move s x)) (shares_more x.keyword (moved_amount x) cur) xs (omega (arith, made, length_set r.slots s next)) (at_seat s r cur x made is)
      ∙ set_set r.slots s next (with_more cur (x ∷ xs))

  pub ins_out : (r : Rights) (shares : List Share) → (all_moved r (map (in_move s) shares)).out ≡ r.out
  ins_out r [] = refl
  ins_out r (x ∷ xs) = ins_out (moved r (in_move s x)) xs

  pub ins_payments : (r : Rights) (shares : List Share) → (all_moved r (map (in_move s) shares)).payments ≡ r.payments
  ins_payments r [] = refl
  ins_payments r (x ∷ xs) = ins_payments (moved r (in_move s x)) xs

-- ---- several seats

abbrev pub seats_of : List Touched → List ℕ
seats_of ts = map (λ (t : Touched). t.seat) ts

abbrev pub outs : Touched → List Movement
outs t = map (out_move t.seat) (lost t.before t.after)

abbrev pub ins : Touched → List Movement
ins t = map (in_move t.seat) (gained t.before t.after)

-- each has these slots
abbrev pub AllAt : (Touched → List Share) → List (List Share) → List Touched → Type 0
AllAt f slots ts = AllByRecursion (λ (t : Touched). (t.seat < length slots) × (slots_at slots t.seat ≡ f t)) ts

pub at_others : (f : Touched → List Share) (slots : List (List Share)) (n : ℕ) (new : List Share) (ts : List Touched) → IsNoneOf (seats_of ts) n → AllAt f slots ts → AllAt f (slice_set slots n new) ts
at_others f slots n new [] none all = tt
at_others f slots n new (t ∷ ts) none all = (
  (omega (arith, all.0.0, length_set slots n new), read_other slots n t.seat new [] (λ e. none.0 (sym e)) ∙ all.0.1),
  at_others f slots n new ts none.1 all.1,
)

-- a seat's slots can become what they are after
pub record IsReady (out : List BrandSupply) (t : Touched) : Type 0 where
  pub kinds : AllByRecursion (λ (r : Share). IsOfKind out r.amount) t.before
  pub can : CanBecome out t.before t.after

abbrev pub left_of : Touched → List Share
left_of t = with_less t.before (lost t.before t.after)

abbrev pub before_of : Touched → List Share
before_of t = t.before

abbrev pub after_of : Touched → List Share
after_of t = changed_shares t.before t.after

pub outs_keep : (ts : List Touched) (r : Rights) (n : ℕ) → AllAt before_of r.slots ts → AreApart (seats_of ts) → IsNoneOf (seats_of ts) n → (slots_at (all_moved r (flat_map outs ts)).slots n ≡ slots_at r.slots n) × (length (all_moved r (flat_map outs ts)).slots ≡ length r.slots)
outs_keep [] r n at apart none = (refl, refl)
outs_keep (t ∷ ts) r n at apart none =
    let next = all_moved r (outs t) in
    let slots = outs_slots t.seat r t.before (lost t.before t.after) at.0.0 at.0.1 in
    let rest = outs_keep ts next n (subst (λ l. AllAt before_of l ts) (sym slots) (at_others before_of r.slots t.seat (left_of t) ts apart.0 at.1)) apart.1 none.1 in
    let same = all_append (outs t) (flat_map outs ts) r in (
      ap (λ (q : Rights). slots_at q.slots n) same ∙ rest.0 ∙ ap (λ l. slots_at l n) slots ∙ read_other r.slots t.seat n (left_of t) [] none.0,
      ap (λ (q : Rights). length q.slots) same ∙ rest.1 ∙ ap (λ l. length l) slots ∙ length_set r.slots t.seat (left_of t),
    )

pub outs_at : (ts : List Touched) (r : Rights) → AllAt before_of r.slots ts → AreApart (seats_of ts) → AllAt left_of (all_moved r (flat_map outs ts)).slots ts
outs_at [] r at apart = tt
outs_at (t ∷ ts) r at apart =
    let next = all_moved r (outs t) in
    let slots = outs_slots t.seat r t.before (lost t.before t.after) at.0.0 at.0.1 in
    let later : AllAt before_of next.slots ts = subst (λ l. AllAt before_of l ts) (sym slots) (at_others before_of r.slots t.seat (left_of t) ts apart.0 at.1) in
    let kept = outs_keep ts next t.seat later apart.1 apart.0 in
    let same = all_append (outs t) (flat_map outs ts) r in
    subst (λ (q : Rights). AllAt left_of q.slots (t ∷ ts)) (sym same) (
      (
        omega (arith, kept.1, ap (λ l. length l) slots, length_set r.slots t.seat (left_of t), at.0.0),
        kept.0 ∙ ap (λ l. slots_at l t.seat) slots ∙ read_set r.slots t.seat (left_of t) [] at.0.0,
      ),
      outs_at ts next later apart.1,
    )

pub all_outs : (ts : List Touched) (r : Rights) (h : ℕ → Content) → AllAt before_of r.slots ts → AreApart (seats_of ts) → AllByRecursion (IsReady r.out) ts → MovesIn r h (flat_map outs ts)
all_outs [] r h at apart ready = tt
all_outs (t ∷ ts) r h at apart ready =
    let next = all_moved r (outs t) in
    let slots = outs_slots t.seat r t.before (lost t.before t.after) at.0.0 at.0.1 in
    moves_append (outs t) (flat_map outs ts) r h
    (outs_in t.seat r h t.before (lost t.before t.after) at.0.0 at.0.1 (loses r.out t.before ready.0.kinds t.after ready.0.can) (lost_kinds r.out t.before ready.0.kinds t.after ready.0.can))
    (all_outs ts next (hand_all h (outs t)) (subst (λ l. AllAt before_of l ts) (sym slots) (at_others before_of r.slots t.seat (left_of t) ts apart.0 at.1)) apart.1 (subst (λ o. AllByRecursion (IsReady o) ts) (sym (outs_out t.seat r (lost t.before t.after))) ready.1))
