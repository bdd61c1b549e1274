-- What a movement, an opening and the beginning of a turn make of what is told of rights.
use Rattle.std.proofs.Common.{◌≡◌, ◌≢◌, ◌≤◌, ◌<◌, ◌==◌, ◌+◌, ◌-◌, ◌^◌, ◌⊎◌, ◌↔◌, ◌&&◌, ◌||◌, ℕ, Bool, true, false, cond, if◌then◌else◌, List, [], ◌∷◌, ◌++◌, map, refl, sym, ap, subst, ◌∙◌, inl, inr, arith, append_assoc}
use Rattle.std.proofs.lemmas.Bool.{eqb-true}
use Rattle.std.proofs.lemmas.List.{map-append}
use Rattle.std.specs.List.{list_any}
use Rattle.row_records.specs.amount_math.Content.{Contains, Content, count, count-difference, count-nothing, count-sum, difference, nothing, same_content, sum}
use Rattle.row_records.specs.amount_math.Counted.{counted as size}
use Rattle.row_records.specs.amount_math.ValueView.{minted_bound}
use Rattle.row_records.specs.amount_math.declared.Kind.{Kind}
use Rattle.row_records.specs.fair_rows.Movements.{is_payment_at, movement_of, movements_in, names, takes_from}
use Rattle.row_records.specs.fair_rows.Rows.{InTurn, IsFairMove, after_event}
use Rattle.row_records.specs.fair_rows.SoFar.{SoFar, sum_so_far, with_row}
use Rattle.row_records.specs.fair_rows.Turns.{after_turn_row}
use Rattle.row_records.specs.fair_rows.Values.{HaveKinds, IsValueOf, Named, content_of}
use Rattle.row_records.proofs.fair_rows.Lists.{all_first}
use Rattle.row_records.specs.rights_model.Supply.{burned, is_outside, minted, supply}
use Rattle.row_records.specs.rights_model.Table.{CanMove, CanMoveAll, Table, holds, moved as table_moved, no_holdings, table_after, taken}
use Rattle.row_records.specs.rights_model.Totals.{brands_of, held_over, is_payment, is_purse, is_slot, placed}
use Rattle.row_records.specs.rights_model.declared.Holder.TheVariants.{Outside}
use Rattle.row_records.specs.rights_model.declared.Movement.{Movement}
use Rattle.escrow.proofs.rights_model.TableLaws.{CanMoveAll-push, table_after-push}
use Rattle.row_records.specs.turn_rows.Turns.{KeywordAmount, Move, Opening, Turn, moved, opened}
use Rattle.told_rights.specs.BrandKinds.{Allows, Suits, seen_at}
use Rattle.told_rights.specs.Rights.{CanGive, HaveSameRights, IsMintable, IsOfRows, IsPassed, IsThere, MayMove, TellsKinds, TellsPayments, TellsRights, TellsSums, TellsSupplies, named_amounts, with_issue, with_retired}
use Rattle.told_rights.specs.Runs.{has_number}
use Rattle.told_rights.specs.Sums.{shifted, sum_at}
use Rattle.told_rights.specs.Supplies.{IsBounded, out_of}
use Rattle.told_rights.specs.declared.brand_kinds.BrandKinds.{BrandKinds}
use Rattle.told_rights.specs.declared.rights.Rights.{Rights}
use Rattle.told_rights.proofs.KindsTold.{IsOf, kinds_before, more_kinds, suits, with_kinds}
use Rattle.told_rights.proofs.Movements.{movements-push, names-push, nothing_behind, part_of, size_push, takes-both, takes-push, where_push}
use Rattle.told_rights.proofs.Placing.{brands_of-none, brands_of-push, brands_rise}
use Rattle.told_rights.proofs.Totals.{burned_few, count-le-size, few_left, held_few, portion_is}
use Rattle.told_rights.proofs.TotalsAfter.{few, minted_elsewhere, same_elsewhere, same_sum, shifted_here}

-- ---- what may be moved

neither : (a b : Bool) → a ≡ false → b ≡ false → ((a || b) || false) ≡ false
neither true b p q = p
neither false true p q = q
neither false false p q = refl

first_of : (a b : Bool) → ((a || b) || false) ≡ false → a ≡ false
first_of true b p = p
first_of false b p = refl

second_of : (a b : Bool) → ((a || b) || false) ≡ false → b ≡ false
second_of true true p = p
second_of true false p = refl
second_of false true p = p
second_of false false p = refl

module _ (k : Rights) (i : InTurn) (m : Move) (t : TellsRights k i) where
  minted_with : size (minted (i.now.moves ++ movement_of m ∷ []) m.brand) ≡ (sum_at k.sums.totals.entries m.brand).minted + cond (is_outside m.from) (size (content_of m.value)) 0
  minted_with =
      size_push (λ x. x.from) i.now.moves (movement_of m) m.brand
      ∙ ap (λ n. size (minted i.now.moves m.brand) + n) (portion_is is_outside m.from m.brand (content_of m.value))
      ∙ ap (λ s. s.minted + cond (is_outside m.from) (size (content_of m.value)) 0) (sym (t.sums.totals m.brand))

  pub passed_may : IsPassed k m → IsThere k m → MayMove i m
  passed_may p there = (
    record {
      defined = record { has = λ held. subst (λ u. Contains (holds u m.from m.brand) (content_of m.value)) t.places (there held) };
      minted = subst (λ n. n ≤ minted_bound) (sym minted_with) p.mintable;
      live = λ q spent. let s = t.payments.spent q ∙ spent in neither _ _ (p.live_from q s) (p.live_to q s);
    },
    with_kinds k.kinds i.now.amounts m.brand m.value t.kinds p.suits,
  )

  pub may_passed : MayMove i m → IsPassed k m
  may_passed may = record {
    suits = suits k.kinds i.now.amounts m.brand m.value t.kinds may.1;
    live_from = λ q spent. first_of _ _ (may.0.live q (sym (t.payments.spent q) ∙ spent));
    live_to = λ q spent. second_of _ _ (may.0.live q (sym (t.payments.spent q) ∙ spent));
    mintable = subst (λ n. n ≤ minted_bound) minted_with may.0.minted;
  }

  pub may_there : MayMove i m → IsThere k m
  may_there may held = subst (λ u. Contains (holds u m.from m.brand) (content_of m.value)) (sym t.places) (may.0.defined.has held)

  -- ---- what is moved fits

  pub part_few : (may : MayMove i m) (q : List ℕ) → count (content_of m.value) q ≤ minted_bound
  part_few may q = omega (arith, count-le-size (content_of m.value) q, few i m t.rows may.0)

  pub can_give : MayMove i m → CanGive k.places m
  can_give may held q = omega (
    arith,
    ap (λ u. count (holds (taken u m.from m.brand (content_of m.value)) m.to m.brand) q) (t.places ∙ t.rows.table),
    few_left i.now.moves t.rows.defined m.brand (movement_of m) (subst (λ u. CanMove u (movement_of m)) t.rows.table may.0.defined) m.to q held,
    t.rows.minted m.brand,
    part_few may q,
  )

  pub can_issue : MayMove i m → (q : List ℕ) → count (out_of k.supplies m.brand) q + count (content_of m.value) q < 2 ^ 128
  can_issue may q = omega (
    arith,
    ap (λ c. count c q) (t.supplies.out m.brand),
    count-difference (minted i.now.moves m.brand) (burned i.now.moves m.brand) q,
    count-le-size (minted i.now.moves m.brand) q,
    t.rows.minted m.brand,
    part_few may q,
  )

-- ---- a movement

-- what the stores' calls did
pub record IsMoved (k l : Rights) (m : Move) : Type 0 where
  pub edition : l.edition ≡ k.edition
  pub supplied : l.supplies.edition ≡ k.supplies.edition
  pub places : l.places ≡ table_moved k.places (movement_of m)
  pub out : (b : ℕ) → out_of l.supplies b ≡ with_retired m b (with_issue m b (out_of k.supplies b))
  pub bounded : (b : ℕ) (kind : Kind) → (b ≡ m.brand → IsValueOf kind m.value) → IsBounded b kind k.supplies → IsBounded b kind l.supplies
  pub kinds : (b : ℕ) (kind : Kind) → Allows (seen_at l.kinds b) kind ↔ (Allows (seen_at k.kinds b) kind × (b ≡ m.brand → IsValueOf kind m.value))
  pub totals : (b : ℕ) → sum_at l.sums.totals.entries b ≡ (if m.brand == b then shifted (sum_at k.sums.totals.entries b) m.from m.to (size (content_of m.value)) else sum_at k.sums.totals.entries b)
  pub brands : l.sums.brands.items ≡ placed m.brand k.sums.brands.items
  pub named : (p : ℕ) → has_number l.payments.named p ≡ ((is_payment_at p m.from || is_payment_at p m.to) || has_number k.payments.named p)
  pub spent : (p : ℕ) → has_number l.payments.spent p ≡ has_number k.payments.spent p
  pub taken : (p : ℕ) → list_any (λ n. n == p) l.payments.taken.items ≡ (list_any (λ n. n == p) k.payments.taken.items || is_payment_at p m.from)

-- what is out with a movement more
out_by : (a d c : Content) (x y : Bool) → ((q : List ℕ) → count d q ≤ count a q)
    → cond y (difference (cond x (sum (difference a d) c) (difference a d)) c) (cond x (sum (difference a d) c) (difference a d)) ≡ difference (sum a (cond x c nothing)) (sum d (cond y c nothing))
out_by a d c true true le = same_content _ _ (λ q. omega (arith, le q, count-difference (sum (difference a d) c) c q, count-sum (difference a d) c q, count-difference a d q, count-difference (sum a c) (sum d c) q, count-sum a c q, count-sum d c q))
out_by a d c true false le = same_content _ _ (λ q. omega (arith, le q, count-sum (difference a d) c q, count-difference a d q, count-difference (sum a c) (sum d nothing) q, count-sum a c q, count-sum d nothing q, count-nothing q))
out_by a d c false true le = same_content _ _ (λ q. omega (arith, le q, count-difference (difference a d) c q, count-difference a d q, count-difference (sum a nothing) (sum d c) q, count-sum a nothing q, count-sum d c q, count-nothing q))
out_by a d c false false le = same_content _ _ (λ q. omega (arith, le q, count-difference a d q, count-difference (sum a nothing) (sum d nothing) q, count-sum a nothing q, count-sum d nothing q, count-nothing q))

module _ (k l : Rights) (i : InTurn) (m : Move) (did : IsMoved k l m) (t : TellsRights k i) (may : MayMove i m) where
  abbrev w : Movement
  w = movement_of m

  moves_after : i.now.moves ++ w ∷ [] ≡ i.before.moves ++ movements_in (i.here ++ moved m ∷ [])
  moves_after = ap (λ ms. ms ++ w ∷ []) t.rows.all ∙ append_assoc i.before.moves (movements_in i.here) (w ∷ []) ∙ ap (λ ms. i.before.moves ++ ms) (sym (movements-push i.here (moved m)))

  minted_after : (b : ℕ) (x : Bool) → (m.brand == b) ≡ x → size (minted (i.now.moves ++ w ∷ []) b) ≤ minted_bound
  minted_after b true e = subst (λ n. size (minted (i.now.moves ++ w ∷ []) n) ≤ minted_bound) (eqb-true m.brand b e) may.0.minted
  minted_after b false e = minted_elsewhere i m t.rows may.0 b e

  rows_after : IsOfRows (after_event i (moved m))
  rows_after = record {
    all = moves_after;
    table = ap (λ u. table_moved u w) t.rows.table ∙ sym (table_after-push no_holdings i.now.moves w);
    defined = CanMoveAll-push no_holdings i.now.moves w t.rows.defined (subst (λ u. CanMove u w) t.rows.table may.0.defined);
    minted = λ b. minted_after b (m.brand == b) refl;
  }

  totals_after : (b : ℕ) (x : Bool) → (m.brand == b) ≡ x
      → cond x (shifted (sum_at k.sums.totals.entries b) m.from m.to (size (content_of m.value))) (sum_at k.sums.totals.entries b) ≡ sum_so_far (with_row i.now (moved m)) b
  totals_after b true e = subst (λ n. shifted (sum_at k.sums.totals.entries n) m.from m.to (size (content_of m.value)) ≡ sum_so_far (with_row i.now (moved m)) n) (eqb-true m.brand b e)
      (ap (λ s. shifted s m.from m.to (size (content_of m.value))) (t.sums.totals m.brand) ∙ shifted_here i m t.rows may.0)
  totals_after b false e = t.sums.totals b ∙ same_elsewhere i m t.rows may.0 b e

  out_after : (b : ℕ) → with_retired m b (with_issue m b (supply i.now.moves b)) ≡ supply (i.now.moves ++ w ∷ []) b
  out_after b =
      out_by (minted i.now.moves b) (burned i.now.moves b) (content_of m.value) (is_outside m.from && (m.brand == b)) (is_outside m.to && (m.brand == b)) (burned_few i.now.moves t.rows.defined b)
      ∙ sym (ap (λ c. difference c (burned (i.now.moves ++ w ∷ []) b)) (where_push (λ x. x.from) i.now.moves w b) ∙ ap (λ c. difference (sum (minted i.now.moves b) (part_of (λ x. x.from) w b)) c) (where_push (λ x. x.to) i.now.moves w b))

  pub moved_told : TellsRights l (after_event i (moved m))
  moved_told = record {
    rows = rows_after;
    edition = did.supplied ∙ t.edition ∙ sym did.edition;
    places = did.places ∙ ap (λ u. table_moved u w) t.places;
    kinds = more_kinds k.kinds i.now.amounts m.brand m.value t.kinds l.kinds did.kinds;
    supplies = record {
      out = λ b. did.out b ∙ ap (λ c. with_retired m b (with_issue m b c)) (t.supplies.out b) ∙ out_after b;
      bounded = λ b kind allowed. let had = (did.kinds b kind).0 allowed in did.bounded b kind had.1 (t.supplies.bounded b kind had.0);
    };
    sums = record {
      totals = λ b. did.totals b ∙ totals_after b (m.brand == b) refl;
      brands = did.brands ∙ ap (placed m.brand) t.sums.brands ∙ sym (ap brands_of (movements-push i.here (moved m)) ∙ brands_of-push (movements_in i.here) w);
    };
    payments = record {
      named = λ p. did.named p ∙ ap (λ x. (is_payment_at p m.from || is_payment_at p m.to) || x) (t.payments.named p) ∙ sym (names-push p i.now.moves w);
      spent = λ p. did.spent p ∙ t.payments.spent p;
      taken = λ p. did.taken p ∙ ap (λ x. x || is_payment_at p m.from) (t.payments.taken p) ∙ sym (ap (takes_from p) (movements-push i.here (moved m)) ∙ takes-push p (movements_in i.here) w);
    };
  }

-- ---- an opening

pub record IsOpened (k l : Rights) : Type 0 where
  pub edition : l.edition ≡ k.edition
  pub places : l.places ≡ k.places
  pub supplies : l.supplies ≡ k.supplies
  pub sums : l.sums ≡ k.sums
  pub payments : l.payments ≡ k.payments

pub amounts_opened : (s : SoFar) (o : Opening) → (s.amounts ++ named_amounts o.give) ++ named_amounts o.want ≡ (with_row s (opened o)).amounts
amounts_opened s o = append_assoc s.amounts (named_amounts o.give) (named_amounts o.want) ∙ ap (λ xs. s.amounts ++ xs) (sym (map-append (λ (a : KeywordAmount). (a.brand, a.value)) o.give o.want))

pub opened_told : (k l : Rights) (i : InTurn) (o : Opening) → IsOpened k l → TellsRights k i → TellsKinds l.kinds ((i.now.amounts ++ named_amounts o.give) ++ named_amounts o.want) → TellsRights l (after_event i (opened o))
opened_told k l i o did t kinds =
    let none : movements_in (i.here ++ opened o ∷ []) ≡ movements_in i.here = movements-push i.here (opened o) ∙ nothing_behind (movements_in i.here) in
    record {
      rows = record { all = t.rows.all ∙ ap (λ ms. i.before.moves ++ ms) (sym none); table = t.rows.table; defined = t.rows.defined; minted = t.rows.minted };
      edition = ap (λ s. s.edition) did.supplies ∙ t.edition ∙ sym did.edition;
      places = did.places ∙ t.places;
      kinds = subst (λ xs. TellsKinds l.kinds xs) (amounts_opened i.now o) kinds;
      supplies = record {
        out = λ b. ap (λ s. out_of s b) did.supplies ∙ t.supplies.out b;
        bounded = λ b kind allowed. subst (λ s. IsBounded b kind s) (sym did.supplies) (t.supplies.bounded b kind (t.kinds.only b kind
            (all_first (IsOf b kind) i.now.amounts (named_amounts o.give) (all_first (IsOf b kind) (i.now.amounts ++ named_amounts o.give) (named_amounts o.want) (kinds.allowed b kind allowed)))));
      };
      sums = record {
        totals = λ b. ap (λ s. sum_at s.totals.entries b) did.sums ∙ t.sums.totals b;
        brands = ap (λ s. s.brands.items) did.sums ∙ t.sums.brands ∙ ap brands_of (sym none);
      };
      payments = record {
        named = λ p. ap (λ s. has_number s.named p) did.payments ∙ t.payments.named p;
        spent = λ p. ap (λ s. has_number s.spent p) did.payments ∙ t.payments.spent p;
        taken = λ p. ap (λ s. list_any (λ n. n == p) s.taken.items) did.payments ∙ t.payments.taken p ∙ ap (takes_from p) (sym none);
      };
    }

-- ---- a turn begins

pub record IsBegun (k l : Rights) : Type 0 where
  pub edition : l.edition ≡ k.edition
  pub places : l.places ≡ k.places
  pub supplies : l.supplies ≡ k.supplies
  pub kinds : l.kinds ≡ k.kinds
  pub totals : (b : ℕ) → sum_at l.sums.totals.entries b ≡ sum_at k.sums.totals.entries b
  pub brands : l.sums.brands.items ≡ []
  pub named : l.payments.named ≡ k.payments.named
  pub spent : (p : ℕ) → has_number l.payments.spent p ≡ (list_any (λ n. n == p) k.payments.taken.items || has_number k.payments.spent p)
  pub taken : l.payments.taken.items ≡ []

module _ (s u : SoFar) (same : HaveSameRights s u) where
  sums_same : (b : ℕ) → sum_so_far s b ≡ sum_so_far u b
  sums_same b = same_sum _ _ refl
      (ap (λ ms. size (minted ms b)) (sym same.moves))
      (ap (λ ms. size (burned ms b)) (sym same.moves))
      (ap (λ x. held_over is_purse x b) (sym same.table))
      (ap (λ x. held_over is_payment x b) (sym same.table))
      (ap (λ x. held_over is_slot x b) (sym same.table))

pub begun_told : (k l : Rights) (i : InTurn) (s : SoFar) (turn : Turn) → IsBegun k l → TellsRights k i → HaveSameRights i.now s → TellsRights l (after_turn_row s turn)
begun_told k l i s turn did t same = record {
  rows = record {
    all = sym (nothing_behind s.moves);
    table = same.table ∙ t.rows.table ∙ ap (table_after no_holdings) (sym same.moves);
    defined = subst (CanMoveAll no_holdings) (sym same.moves) t.rows.defined;
    minted = λ b. subst (λ ms. size (minted ms b) ≤ minted_bound) (sym same.moves) (t.rows.minted b);
  };
  edition = ap (λ x. x.edition) did.supplies ∙ t.edition ∙ sym did.edition;
  places = did.places ∙ t.places ∙ sym same.table;
  kinds = subst (λ xs. TellsKinds l.kinds xs) (sym same.amounts) (subst (λ x. TellsKinds x i.now.amounts) (sym did.kinds) t.kinds);
  supplies = record {
    out = λ b. ap (λ x. out_of x b) did.supplies ∙ t.supplies.out b ∙ ap (λ ms. supply ms b) (sym same.moves);
    bounded = λ b kind allowed. subst (λ x. IsBounded b kind x) (sym did.supplies) (t.supplies.bounded b kind (subst (λ x. Allows (seen_at x b) kind) did.kinds allowed));
  };
  sums = record { totals = λ b. did.totals b ∙ t.sums.totals b ∙ sums_same i.now s same b; brands = did.brands ∙ sym brands_of-none };
  payments = record {
    named = λ p. ap (λ x. has_number x p) did.named ∙ t.payments.named p ∙ ap (names p) (sym same.moves);
    spent = λ p. did.spent p ∙ ap (λ x. x || has_number k.payments.spent p) (t.payments.taken p) ∙ ap (λ x. takes_from p (movements_in i.here) || x) (t.payments.spent p)
        ∙ sym (ap (takes_from p) (same.moves ∙ t.rows.all) ∙ takes-both p i.before.moves (movements_in i.here));
    taken = λ p. ap (λ x. list_any (λ n. n == p) x) did.taken;
  };
}
