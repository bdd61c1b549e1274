-- Payments of just what shares say, in the order of the shares: two records under the same names.
use Rattle.std.specs.Prelude.{is_some, not, unwrap_or, ◌==◌, ◌||◌}
use Rattle.std.specs.Cmp.Lexicographic.{nat_list_cmp_total, slice_cmp}
use Rattle.std.specs.List.{AllByRecursion, filter}
use Rattle.std.specs.Ordering.{nat_cmp}
use Rattle.std.specs.Str.{bytes_eq}
use Rattle.std.specs.declared.cmp.Ordering.TheVariants.{Less}
use Rattle.std.proofs.Common.{◌≡◌, ◌⊎◌, ℕ, ◌-◌, ◌<◌, Bool, true, false, cond, List, [], ◌∷◌, length, Option, Some, None, Ok, inl, inr, refl, sym, ap, subst, ◌∙◌, arith}
use Rattle.std.proofs.lemmas.Bool.{and_parts, eqb-true, false≢true}
use Rattle.std.proofs.lemmas.Option.{same_Some}
use Rattle.std.proofs.lemmas.Slice.Eq.{bytes_eq-Decides}
use Rattle.world_laws.specs.amount_math.Content.{nothing}
use Rattle.world_laws.specs.amount_math.ValueView.{ValueView}
use Rattle.world_laws.specs.amount_math.declared.Kind.TheVariants.{Nat}
use Rattle.rules.specs.call_arguments.Amounts.{is_same}
use Rattle.rules.specs.call_arguments.Arguments.{arg, object_in}
use Rattle.rules.specs.call_arguments.Numbers.{least, least_failing, least_of}
use Rattle.rules.proofs.call_arguments.Made.{read_made}
use Rattle.rules.proofs.call_arguments.Same.{same_is}
use Rattle.world_laws.specs.host_data.Amounts.{read_all}
use Rattle.world_laws.specs.host_data.Nodes.{EachField, ObjectIs}
use Rattle.world_laws.specs.host_data.Tree as trees
use Rattle.world_laws.specs.host_data.Tree.{Fields, Tree, paired}
use Rattle.world_laws.specs.host_data.declared.data.ObjKind.TheVariants as kinds
use Rattle.rules.specs.proposals.declared.allocations.Share.{Share}
use Rattle.rules.specs.call_arguments.Records.{names, objects_under}
use Rattle.world_laws.specs.refusals.Codes.{wrong_object}
use Rattle.world_laws.proofs.refusals.Steps.{wanted_there}
use Rattle.rules.specs.GivenPayments.{first_wrong, held_by, is_live_in, payment_view_of, pays}
use Rattle.rules.specs.Proposals.{first_alone, is_among, least_alone, lesser}
use Rattle.world_laws.proofs.Lists.{all_map}
use Rattle.world_laws.specs.world_state.Good.{IsGoodWorld}
use Rattle.world_laws.specs.world_state.Known.{IsFormed, ObjectKnown}
use Rattle.world_laws.specs.world_state.Worlds.{State}
use Rattle.rules.specs.Licence.{IsObject, NamesPayment, SomeField, SomeObject}
use Rattle.rule_laws.proofs.GivenData.{data_names, payment_below, read_named}
use Rattle.rule_laws.proofs.Moving.{Holds, held_kind}
use Rattle.rule_laws.proofs.Records.{fields_each, fields_in, names_differ}
use Rattle.rule_laws.proofs.SharesRead.{IsReadShare, Rises, Rising, one_list}
use Rattle.rule_laws.proofs.SlotMoves.{Pay}

-- ---- names that stand in both lists

-- a key stands in a list
abbrev IsIn : List (List ℕ) → List ℕ → Type 0
IsIn [] k = ⊥
IsIn (q ∷ qs) k = (k ≡ q) ⊎ IsIn qs k

among_in : (ks : List (List ℕ)) (k : List ℕ) → is_among ks k ≡ true → IsIn ks k
among_in [] k is = absurd (false≢true is)
among_in (q ∷ qs) k is = by (bytes_eq k q) refl (among_in qs k) is
  where
    by : (b : Bool) → bytes_eq k q ≡ b → (is_among qs k ≡ true → IsIn qs k) → (b || is_among qs k) ≡ true → IsIn (q ∷ qs) k
    by true e later at = inl ((bytes_eq-Decides k q).0 e)
    by false e later at = inr (later at)

none_alone : (ks others : List (List ℕ)) → first_alone ks others ≡ None → AllByRecursion (IsIn others) ks
none_alone [] others none = tt
none_alone (k ∷ ks) others none = by (is_among others k) refl (none_alone ks others) none
  where
    by : (b : Bool) → is_among others k ≡ b → (first_alone ks others ≡ None → AllByRecursion (IsIn others) ks) → cond (not b) (Some k) (first_alone ks others) ≡ None → AllByRecursion (IsIn others) (k ∷ ks)
    by true e later at = (among_in others k e, later at)
    by false e later at = absurd (cc)

no_lesser : (a b : Option (List ℕ)) → lesser a b ≡ None → (a ≡ None) × (b ≡ None)
no_lesser None None e = (refl, refl)
no_lesser None (Some k) e = absurd (cc)
no_lesser (Some k) None e = absurd (cc)
no_lesser (Some k) (Some q) e = absurd (cc)

before_itself : (k : List ℕ) → slice_cmp nat_cmp k k ≡ Less → ⊥
before_itself k less = false≢true (sym (names_differ k k less) ∙ (bytes_eq-Decides k k).1 refl)

before_both : (k q : List ℕ) → slice_cmp nat_cmp k q ≡ Less → slice_cmp nat_cmp q k ≡ Less → ⊥
before_both k q a b = before_itself k (nat_list_cmp_total.trans k q k a b)

in_after : (k q : List ℕ) (qs : List (List ℕ)) → Rises q qs → IsIn qs k → slice_cmp nat_cmp q k ≡ Less
in_after k q [] rises there = absurd there
in_after k q (x ∷ xs) rises (inl e) = subst (λ y. slice_cmp nat_cmp q y ≡ Less) (sym e) rises.0
in_after k q (x ∷ xs) rises (inr there) = in_after k q xs rises.1 there

-- those behind the first are among those behind the first
in_rest : (k : List ℕ) (qs ks : List (List ℕ)) → Rises k ks → AllByRecursion (IsIn (k ∷ qs)) ks → AllByRecursion (IsIn qs) ks
in_rest k qs [] rises all = tt
in_rest k qs (x ∷ xs) rises all = (by all.0, in_rest k qs xs rises.1 all.1)
  where
    by : (x ≡ k) ⊎ IsIn qs x → IsIn qs x
    by (inl e) = absurd (before_itself k (subst (λ y. slice_cmp nat_cmp k y ≡ Less) e rises.0))
    by (inr there) = there

-- two lists in order that have the same keys are one
same_names : (ks qs : List (List ℕ)) → Rising ks → Rising qs → AllByRecursion (IsIn qs) ks → AllByRecursion (IsIn ks) qs → ks ≡ qs
same_names [] [] a b f g = refl
same_names [] (q ∷ qs) a b f g = absurd g.0
same_names (k ∷ ks) [] a b f g = absurd f.0
same_names (k ∷ ks) (q ∷ qs) a b f g = by (first f.0 g.0) (λ ks_in qs_in. same_names ks qs a.1 b.1 ks_in qs_in)
  where
    first : (k ≡ q) ⊎ IsIn qs k → (q ≡ k) ⊎ IsIn ks q → k ≡ q
    first (inl e) h = e
    first (inr there) (inl e) = sym e
    first (inr there) (inr other) = absurd (before_both k q (in_after q k ks a.0 other) (in_after k q qs b.0 there))

    by : k ≡ q → (AllByRecursion (IsIn qs) ks → AllByRecursion (IsIn ks) qs → ks ≡ qs) → k ∷ ks ≡ q ∷ qs
    by e later =
        let ks_in : AllByRecursion (IsIn qs) ks = in_rest q qs ks (subst (λ y. Rises y ks) e a.0) f.1 in
        let qs_in : AllByRecursion (IsIn ks) qs = in_rest k ks qs (subst (λ y. Rises y qs) (sym e) b.0) g.1 in
        ap (λ y. y ∷ ks) e ∙ ap (λ l. q ∷ l) (later ks_in qs_in)

pub same_where_none_alone : (ks qs : List (List ℕ)) → Rising ks → Rising qs → least_alone ks qs ≡ None → ks ≡ qs
unfolding least_alone
same_where_none_alone ks qs a b none =
    let both = no_lesser (first_alone ks qs) (first_alone qs ks) none in
    same_names ks qs a b (none_alone ks qs both.0) (none_alone qs ks both.1)

-- ---- numbers that pass a test

some_least : (n : ℕ) (o : Option ℕ) → ¬ (least_of (Some n) o ≡ None)
some_least n None is = cc
some_least n (Some m) is = cc

none_first : (b : Bool) (n : ℕ) (ns : List ℕ) → least (cond (not b) (n ∷ ns) ns) ≡ None → (b ≡ true) × (least ns ≡ None)
none_first true n ns is = (refl, is)
none_first false n ns is = absurd (some_least n (least ns) is)

pub each_passes : (passes : ℕ → Bool) (ns : List ℕ) → least_failing passes ns ≡ None → AllByRecursion (λ n. passes n ≡ true) ns
unfolding least_failing
each_passes passes [] is = tt
each_passes passes (n ∷ ns) is =
    let both = none_first (passes n) n (filter (λ m. not (passes m)) ns) is in
    (both.0, each_passes passes ns both.1)

-- ---- payments of just what shares say

paid_share : (w : State) → IsGoodWorld w → (r : Share) (p : ℕ) → IsReadShare w r → p < length w.rights.payments → is_live_in w p ≡ true → pays w r p ≡ true → Holds w.rights.payments p r.amount.brand r.amount.value
paid_share w good r p read made live pays_it =
    let both = and_parts ((payment_view_of w p).brand == r.amount.brand) (is_same (held_by w p) r.amount.value) pays_it in
    let brand = eqb-true (payment_view_of w p).brand r.amount.brand both.0 in
    by (payment_view_of w p).held refl live both.1 brand
  where
    by : (o : Option ValueView) → (payment_view_of w p).held ≡ o → is_some o ≡ true → is_same (unwrap_or o (record { kind = Nat; content = nothing })) r.amount.value ≡ true → (payment_view_of w p).brand ≡ r.amount.brand → Holds w.rights.payments p r.amount.brand r.amount.value
    by None held there same brand = absurd (false≢true there)
    by (Some v) held there same brand =
        let holds : Holds w.rights.payments p r.amount.brand v = record { made = made; brand = brand; held = held } in
        let kinds_meet : v.kind ≡ r.amount.value.kind = sym (held_kind w good p r.amount.brand v holds) ∙ good.brands.kinds r.amount.brand ∙ read.brand.kind_is in
        record { made = made; brand = brand; held = held ∙ ap Some (same_is v r.amount.value kinds_meet same) }

no_wrong : (w : State) (r : Share) (rs : List Share) (p : ℕ) (ps : List ℕ) → first_wrong w (r ∷ rs) (p ∷ ps) ≡ None → (pays w r p ≡ true) × (first_wrong w rs ps ≡ None)
no_wrong w r rs p ps none = by (pays w r p) none
  where
    by : (b : Bool) → cond b (first_wrong w rs ps) (Some (held_by w p, r.amount.value)) ≡ None → (b ≡ true) × (first_wrong w rs ps ≡ None)
    by true e = (refl, e)
    by false e = absurd (cc)

-- each share is paid by the payment of its place
pub shares_paid : (w : State) → IsGoodWorld w → (shares : List Share) (ps : List ℕ) → AllByRecursion (IsReadShare w) shares → length shares ≡ length ps → AllByRecursion (λ p. p < length w.rights.payments) ps → AllByRecursion (λ p. is_live_in w p ≡ true) ps → first_wrong w shares ps ≡ None → Pay w.rights.payments shares ps
shares_paid w good [] [] read many made live none = tt
shares_paid w good [] (p ∷ ps) read many made live none = absurd (omega (arith, many))
shares_paid w good (r ∷ rs) [] read many made live none = absurd (omega (arith, many))
shares_paid w good (r ∷ rs) (p ∷ ps) read many made live none =
    let both = no_wrong w r rs p ps none in (
      paid_share w good r p read.0 made.0 live.0 both.0,
      shares_paid w good rs ps read.1 (omega (arith, many)) made.1 live.1 both.1,
    )

-- ---- the payments that a record names

named_below : (w : State) (h : Option ℕ) (fs : Fields) (ps : List ℕ) → EachField (ObjectIs (ObjectKnown h w)) 1 fs → read_all (λ (f : List ℕ × Tree). object_in kinds.Payment f.1) (paired fs) ≡ Some ps → AllByRecursion (λ p. p < length w.rights.payments) ps × (length ps ≡ length (names (paired fs)))
named_below w h trees.no_fields ps all e = let same : [] ≡ ps = same_Some [] ps e in subst (λ l. AllByRecursion (λ p. p < length w.rights.payments) l × (length l ≡ 0)) same (tt, refl)
named_below w h (trees.field name t fs) ps all e =
    one_list {A = ℕ} (λ l. AllByRecursion (λ p. p < length w.rights.payments) l × (length l ≡ length (names (paired (trees.field name t fs))))) (object_in kinds.Payment t) (read_all (λ (f : List ℕ × Tree). object_in kinds.Payment f.1) (paired fs)) ps
    (λ p qs at rest.
    let later = named_below w h fs qs all.1 rest in
    ((read_made (ObjectKnown h w) kinds.Payment (length w.rights.payments) (payment_below w h) 1 t all.0 p at, later.0), omega (arith, later.1))) e

fields_name : (fs : Fields) (ps : List ℕ) → read_all (λ (f : List ℕ × Tree). object_in kinds.Payment f.1) (paired fs) ≡ Some ps → AllByRecursion (λ p. SomeField (IsObject kinds.Payment p) fs) ps
fields_name trees.no_fields ps e = subst (λ l. AllByRecursion (λ p. SomeField (IsObject kinds.Payment p) trees.no_fields) l) (same_Some [] ps e) tt
fields_name (trees.field name t fs) ps e =
    one_list {A = ℕ} (AllByRecursion (λ p. SomeField (IsObject kinds.Payment p) (trees.field name t fs))) (object_in kinds.Payment t) (read_all (λ (f : List ℕ × Tree). object_in kinds.Payment f.1) (paired fs)) ps
    (λ p qs at rest. (inl (data_names kinds.Payment t p at), all_map (λ q. SomeField (IsObject kinds.Payment q) fs) (λ q. SomeField (IsObject kinds.Payment q) (trees.field name t fs)) (λ q some. inr some) qs (fields_name fs qs rest))) e

some_in : (t : Tree) (p : ℕ) → SomeField (IsObject kinds.Payment p) (fields_in t) → SomeObject (IsObject kinds.Payment p) t
some_in (trees.fields fs) p some = some
some_in _ p some = absurd some

-- the payments under the names of a record were made, are named by the arguments, and are as many as the names
pub record ArePayments (w : State) (args : List Tree) (given : List (List ℕ × Tree)) (ps : List ℕ) : Type 0 where
  pub made : AllByRecursion (λ p. p < length w.rights.payments) ps
  pub named : AllByRecursion (NamesPayment args) ps
  pub many : length ps ≡ length (names given)

pub payments_under : (w : State) (h : Option ℕ) (place : ℕ) (args : List Tree) (given : List (List ℕ × Tree)) (ps : List ℕ) → IsFormed w h (arg place args) → paired (fields_in (arg place args)) ≡ given → objects_under kinds.Payment place given ≡ Ok ps → ArePayments w args given ps
unfolding objects_under
payments_under w h place args given ps formed same is =
    let t = arg place args in
    let fs = fields_in t in
    let reads : read_all (λ (f : List ℕ × Tree). object_in kinds.Payment f.1) (paired fs) ≡ Some ps =
    subst (λ l. read_all (λ (f : List ℕ × Tree). object_in kinds.Payment f.1) l ≡ Some ps) (sym same) (wanted_there (read_all (λ (f : List ℕ × Tree). object_in kinds.Payment f.1) given) (wrong_object place) ps is) in
    let below = named_below w h fs ps (fields_each (ObjectIs (ObjectKnown h w)) t formed.objects) reads in
    record {
      made = below.0;
      named = all_map (λ p. SomeField (IsObject kinds.Payment p) fs) (NamesPayment args) (λ p some. read_named args (place - 1) p (some_in t p some)) ps (fields_name fs ps reads);
      many = below.1 ∙ ap (λ l. length (names l)) same;
    }
