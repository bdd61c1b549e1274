-- The issuers that an instance is started with.
use Rattle.std.specs.Prelude.{option_and_then, option_map}
use Rattle.std.specs.List.{AllByRecursion}
use Rattle.std.proofs.Common.{◌≡◌, ℕ, ◌<◌, true, cond, List, [], ◌∷◌, length, Option, Some, None, IfOk, refl, sym, subst}
use Rattle.std.proofs.lemmas.Bool.{false≢true}
use Rattle.std.proofs.lemmas.Option.{same_Some}
use Rattle.world_laws.specs.brands.IssuerRecords.{AreApart, brand_under, issuer_of}
use Rattle.world_laws.specs.brands.declared.issuer_record.Issuer.{Issuer}
use Rattle.rules.proofs.call_arguments.Made.{read_made}
use Rattle.rules.specs.call_arguments.Arguments.{arg, is_kind, object_in}
use Rattle.world_laws.specs.host_data.Amounts.{read_all}
use Rattle.world_laws.specs.host_data.Nodes.{AreInOrder, NodeFact, ObjectIs}
use Rattle.world_laws.specs.host_data.Tree as trees
use Rattle.world_laws.specs.host_data.Tree.{Fields, Tree, paired}
use Rattle.world_laws.specs.host_data.declared.data.ObjKind.{ObjKind}
use Rattle.world_laws.specs.host_data.declared.data.ObjKind.TheVariants as kinds
use Rattle.rules.specs.call_arguments.Records.{first_ill, names}
use Rattle.world_laws.proofs.refusals.Steps.{after_none_such, after_wanted}
use Rattle.world_laws.specs.world_state.Good.{IsIssuer}
use Rattle.world_laws.specs.world_state.Known.{IsFormed, ObjectKnown, made_as}
use Rattle.world_laws.specs.world_state.Worlds.{State}
use Rattle.rule_laws.proofs.GivenData.{if_wanted}
use Rattle.rules.specs.Zoe.{issuer_in, issuers_at}
use Rattle.rule_laws.proofs.Records.{AllAfter, IsKeyed, all_after, all_keyed, all_so, fields_each, fields_in, fields_ordered, names_differ, record_is}

-- ---- each of a brand that was made, under a keyword

abbrev pub Named : State → NodeFact
Named w = ObjectIs (ObjectKnown None w)

issuer_below : (w : State) (k : ObjKind) (n : ℕ) → is_kind kinds.Issuer k ≡ true → made_as w k n → n < length w.brands
issuer_below w kinds.Issuer n is made = made
issuer_below w _ n is made = absurd (false≢true is)

issuer_is : (w : State) (f : List ℕ × Tree) (x : Issuer) → IsKeyed (Named w) f → issuer_in f ≡ Some x → IsIssuer w x
issuer_is w f x keyed is = by (object_in kinds.Issuer f.1) (read_made (ObjectKnown None w) kinds.Issuer (length w.brands) (λ o. issuer_below w o.kind o.number) 1 f.1 keyed.1) is
  where
    by : (o : Option ℕ) → ((n : ℕ) → o ≡ Some n → n < length w.brands) → option_map (λ brand. issuer_of f.0 brand) o ≡ Some x → IsIssuer w x
    by (Some b) below e = subst (IsIssuer w) (same_Some (issuer_of f.0 b) x e) (record { made = below b refl; named = keyed.0 })
    by None below e = absurd (cc)

-- ---- each under a keyword of its own

none_under : (k : List ℕ) (fs : Fields) (is : List Issuer) → AllAfter k fs → read_all issuer_in (paired fs) ≡ Some is → brand_under k is ≡ None
none_under k trees.no_fields is all e = subst (λ l. brand_under k l ≡ None) (same_Some [] is e) refl
none_under k (trees.field name t fs) is all e = by (object_in kinds.Issuer t) (read_all issuer_in (paired fs)) (λ js at. none_under k fs js all.1 at) e
  where
    by : (o : Option ℕ) (r : Option (List Issuer)) → ((js : List Issuer) → r ≡ Some js → brand_under k js ≡ None) → option_and_then (λ y. option_map (λ ys. y ∷ ys) r) (option_map (λ brand. issuer_of name brand) o) ≡ Some is → brand_under k is ≡ None
    by (Some b) (Some js) rest at =
        subst (λ l. brand_under k l ≡ None) (same_Some (issuer_of name b ∷ js) is at)
        (subst (λ t. cond t (Some b) (brand_under k js) ≡ None) (sym (names_differ k name all.0)) (rest js refl))
    by (Some b) None rest at = absurd (cc)
    by None r rest at = absurd (cc)

issuers_apart : (fs : Fields) (is : List Issuer) → AreInOrder fs → read_all issuer_in (paired fs) ≡ Some is → AreApart is
issuers_apart trees.no_fields is order e = subst AreApart (same_Some [] is e) tt
issuers_apart (trees.field name t fs) is order e =
    by (object_in kinds.Issuer t) (read_all issuer_in (paired fs)) (λ js at. (none_under name fs js (all_after name fs order.0 order.1) at, issuers_apart fs js order.1 at)) e
  where
    by : (o : Option ℕ) (r : Option (List Issuer)) → ((js : List Issuer) → r ≡ Some js → (brand_under name js ≡ None) × AreApart js) → option_and_then (λ y. option_map (λ ys. y ∷ ys) r) (option_map (λ brand. issuer_of name brand) o) ≡ Some is → AreApart is
    by (Some b) (Some js) rest at = subst AreApart (same_Some (issuer_of name b ∷ js) is at) (rest js refl)
    by (Some b) None rest at = absurd (cc)
    by None r rest at = absurd (cc)

-- ---- all of them

pub record AreGiven (w : State) (is : List Issuer) : Type 0 where
  pub each : AllByRecursion (IsIssuer w) is
  pub apart : AreApart is

module _ (w : State) (t : Tree) (formed : IsFormed w None t) where
  of_fields : (is : List Issuer) → first_ill (names (paired (fields_in t))) ≡ None → read_all issuer_in (paired (fields_in t)) ≡ Some is → AreGiven w is
  of_fields is none reads = record {
    each = all_so (IsKeyed (Named w)) (IsIssuer w) issuer_in (issuer_is w) (paired (fields_in t)) is (all_keyed (Named w) (fields_in t) (fields_each (Named w) t formed.objects) none) reads;
    apart = issuers_apart (fields_in t) is (fields_ordered t formed.ordered) reads;
  }

  of_record : (given : List (List ℕ × Tree)) (is : List Issuer) → paired (fields_in t) ≡ given → first_ill (names given) ≡ None → read_all issuer_in given ≡ Some is → AreGiven w is
  of_record given is same none reads =
      of_fields is (subst (λ fs. first_ill (names fs) ≡ None) (sym same) none) (subst (λ fs. read_all issuer_in fs ≡ Some is) (sym same) reads)

pub issuers_are : (w : State) (place : ℕ) (args : List Tree) → IsFormed w None (arg place args) → IfOk (issuers_at place args) (AreGiven w)
unfolding issuers_at
issuers_are w place args formed =
    after_wanted _ _ _ _ (λ given at. after_none_such _ _ _ _ (λ none. if_wanted _ _ _ (λ is reads.
    of_record w (arg place args) formed given is (record_is (arg place args) given at) none reads)))
