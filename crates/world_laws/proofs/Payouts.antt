-- The record of a seat's payouts is data that can be handed out.
use Rattle.std.proofs.Common.{◌≡◌, ◌≢◌, ℕ, suc, ◌+◌, ◌<◌, ◌≤◌, Bool, true, false, cond, Option, Some, None, List, [], ◌∷◌, length, refl, sym, ◌∙◌, ap, arith, if◌then◌else◌}
use Rattle.std.specs.Cmp.Lexicographic.{slice_cmp}
use Rattle.std.specs.FinMap.{nat_cmp-IsAntisymmetric, slice_cmp-IsAntisymmetric}
use Rattle.std.specs.Ordering.{is_le, nat_cmp, ordering_reverse}
use Rattle.std.specs.Str.{bytes_eq}
use Rattle.std.specs.declared.cmp.Ordering.{Ordering}
use Rattle.std.specs.declared.cmp.Ordering.TheVariants.{Equal, Greater, Less}
use Rattle.std.proofs.lemmas.Cmp.{nat_list_cmp_total}
use Rattle.std.proofs.lemmas.Slice.Eq.{bytes_eq-Decides}
use Rattle.world_state.specs.host_data.Nodes.{AreInOrder, EachField, EachNode, FunctionIs, HasFieldsInOrder, IsShallow, NodeFact, ObjectIs}
use Rattle.world_state.specs.host_data.Tree.{Before, Tree, fields, Fields, no_fields, field}
use Rattle.world_state.specs.host_data.declared.data.ObjKind.TheVariants as kinds
use Rattle.world_state.specs.proposals.Shares.{AreApart, amount_under}
use Rattle.world_state.specs.proposals.Slots.{is_upto}
use Rattle.world_state.specs.proposals.declared.allocations.Share.{Share}
use Rattle.world_state.specs.turn_records.Printable.{HaveFieldNames}
use Rattle.world_state.specs.host_text.Words.{is_field_name, is_keyword}
use Rattle.world_state.specs.Good.{AreNamed}
use Rattle.world_state.specs.Known.{FunctionKnown, HasNames, IsHanded, ObjectKnown}
use Rattle.world_state.specs.Worlds.{State, object_tree, payout_fields, payouts_from, placed_field}

placed_each : (F : NodeFact) (n : ℕ) (name : List ℕ) (t : Tree) (fs : Fields) → EachNode F n t → EachField F n fs → EachField F n (placed_field name t fs)
placed_each F n name t no_fields one all = (one, tt)
placed_each F n name t (field next u fs) one all = by (is_upto name next) (placed_each F n name t fs one all.1)
  where
    by : (b : Bool) → EachField F n (placed_field name t fs) → EachField F n (if b then field name t (field next u fs) else field next u (placed_field name t fs))
    by true rest = (one, all)
    by false rest = (all.0, rest)

paid_each : (F : NodeFact) (n p : ℕ) (rs : List Share) → ((k : ℕ) → k < p + length rs → F n (object_tree kinds.Payment k)) → EachField F n (payout_fields (payouts_from p rs))
paid_each F n p [] h = tt
paid_each F n p (r ∷ rs) h = placed_each F n r.keyword (object_tree kinds.Payment p) (payout_fields (payouts_from (suc p) rs)) (h p (omega arith)) (paid_each F n (suc p) rs (λ k lt. h k (omega (arith, lt))))

-- ---- their order

-- none of the fields has the name
abbrev HasNoField : List ℕ → Fields → Type 0
HasNoField name no_fields = Unit {0}
HasNoField name (field next t fs) = (next ≢ name) × HasNoField name fs

no_field_placed : (name other : List ℕ) (t : Tree) (fs : Fields) → other ≢ name → HasNoField name fs → HasNoField name (placed_field other t fs)
no_field_placed name other t no_fields differs none = (differs, tt)
no_field_placed name other t (field next u fs) differs none = by (is_upto other next) (no_field_placed name other t fs differs none.1)
  where
    by : (b : Bool) → HasNoField name (placed_field other t fs) → HasNoField name (if b then field other t (field next u fs) else field next u (placed_field other t fs))
    by true rest = (differs, none)
    by false rest = (none.0, rest)

before_placed : (name other : List ℕ) (t : Tree) (fs : Fields) → slice_cmp nat_cmp name other ≡ Less → Before name fs → Before name (placed_field other t fs)
before_placed name other t no_fields less before = less
before_placed name other t (field next u fs) less before = by (is_upto other next)
  where
    by : (b : Bool) → Before name (if b then field other t (field next u fs) else field next u (placed_field other t fs))
    by true = less
    by false = before

placed_in_order : (name : List ℕ) (t : Tree) (fs : Fields) → HasNoField name fs → AreInOrder fs → AreInOrder (placed_field name t fs)
placed_in_order name t no_fields none order = (tt, tt)
placed_in_order name t (field next u fs) none order = by (slice_cmp nat_cmp name next) refl (placed_in_order name t fs none.1 order.1)
  where
    by : (o : Ordering) → slice_cmp nat_cmp name next ≡ o → AreInOrder (placed_field name t fs) → AreInOrder (if is_le o then field name t (field next u fs) else field next u (placed_field name t fs))
    by Less e rest = (e, order)
    by Equal e rest = absurd (none.0 (sym (slice_cmp-IsAntisymmetric nat_cmp-IsAntisymmetric name next e)))
    by Greater e rest = (before_placed next name t fs (nat_list_cmp_total.antisymm next name ∙ ap ordering_reverse e) order.0, rest)

skipped : {X : Type 0} (b : Bool) (x : X) (o : Option X) → cond b (Some x) o ≡ None → (b ≡ false) × (o ≡ None)
skipped true x o h = absurd (cc)
skipped false x o h = (refl, h)

other_name : (k q : List ℕ) → bytes_eq k q ≡ false → q ≢ k
other_name k q e is = let clash : true ≡ false = sym ((bytes_eq-Decides k q).1 (sym is)) ∙ e in cc

paid_none : (k : List ℕ) (p : ℕ) (rs : List Share) → amount_under k rs ≡ None → HasNoField k (payout_fields (payouts_from p rs))
paid_none k p [] none = tt
paid_none k p (r ∷ rs) none =
    let both = skipped (bytes_eq k r.keyword) r.amount (amount_under k rs) none in
    no_field_placed k r.keyword (object_tree kinds.Payment p) (payout_fields (payouts_from (suc p) rs)) (other_name k r.keyword both.0) (paid_none k (suc p) rs both.1)

paid_in_order : (p : ℕ) (rs : List Share) → AreApart rs → AreInOrder (payout_fields (payouts_from p rs))
paid_in_order p [] apart = tt
paid_in_order p (r ∷ rs) apart = placed_in_order r.keyword (object_tree kinds.Payment p) (payout_fields (payouts_from (suc p) rs)) (paid_none r.keyword (suc p) rs apart.0) (paid_in_order (suc p) rs apart.1)

keyword_named : (k : List ℕ) → is_keyword k ≡ true → is_field_name k ≡ true
keyword_named [] is = absurd (cc)
keyword_named (b ∷ bs) is = grind arith

placed_named : (name : List ℕ) (t : Tree) (fs : Fields) → is_field_name name ≡ true → HaveFieldNames fs → HaveFieldNames (placed_field name t fs)
placed_named name t no_fields one all = (one, tt)
placed_named name t (field next u fs) one all = by (is_upto name next) (placed_named name t fs one all.1)
  where
    by : (b : Bool) → HaveFieldNames (placed_field name t fs) → HaveFieldNames (if b then field name t (field next u fs) else field next u (placed_field name t fs))
    by true rest = (one, all)
    by false rest = (all.0, rest)

paid_named : (p : ℕ) (rs : List Share) → AreNamed rs → HaveFieldNames (payout_fields (payouts_from p rs))
paid_named p [] named = tt
paid_named p (r ∷ rs) named = placed_named r.keyword (object_tree kinds.Payment p) (payout_fields (payouts_from (suc p) rs)) (keyword_named r.keyword named.0) (paid_named (suc p) rs named.1)

pub payouts_handed : (w : State) (p : ℕ) (rs : List Share) → AreApart rs → AreNamed rs → p + length rs ≤ length w.rights.payments → IsHanded w (fields (payout_fields (payouts_from p rs)))
payouts_handed w p rs apart named made = record {
  objects = (tt, paid_each (ObjectIs (ObjectKnown None w)) (0 + 1) p rs (λ k lt. omega (arith, lt, made)));
  functions = (tt, paid_each (FunctionIs (FunctionKnown None w)) (0 + 1) p rs (λ k lt. tt));
  named = (paid_named p rs named, paid_each HasNames (0 + 1) p rs (λ k lt. tt));
  ordered = (paid_in_order p rs apart, paid_each HasFieldsInOrder (0 + 1) p rs (λ k lt. tt));
  shallow = (omega arith, paid_each (IsShallow 32) (0 + 1) p rs (λ k lt. tt));
}
