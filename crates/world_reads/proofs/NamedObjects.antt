-- The tests of objects and of functions tell what may be named.
use Rattle.std.specs.Prelude.{cond, is_some}
use Rattle.std.specs.Str.{bytes_eq}
use Rattle.std.proofs.Common.{◌≡◌, inl, inr, ℕ, ◌<◌, Bool, true, false, List, [], ◌∷◌, Option, Some, None, length, refl, sym, ap, ◌∙◌, subst, arith}
use Rattle.std.proofs.lemmas.Bool.{and_from, and_parts, cases_eq, eq-eqb, eqb-true, lt-ltb, ltb-true}
use Rattle.std.proofs.lemmas.Slice.Eq.{bytes_eq-Decides}
use Rattle.refusals.specs.amount_math.declared.Kind.{Kind}
use Rattle.refusals.specs.amount_math.declared.Kind.TheVariants.{Bag, Nat, Set}
use Rattle.rules.specs.jessie_semantics.Rules.{find_routine}
use Rattle.rules.specs.jessie_grammar.Syntax.{Routine, routines}
use Rattle.refusals.specs.host_data.declared.data.ObjKind.{ObjKind}
use Rattle.refusals.specs.host_data.declared.data.ObjKind.TheVariants as kinds
use Rattle.rules.specs.world_state.Good.{IsGoodWorld}
use Rattle.rules.specs.world_state.Known.{HasFunction, IsNamed, known_as, module_of}
use Rattle.rules.specs.world_state.Worlds.{Maker, State, maker_at, of_host, of_instance, of_kit}
use Rattle.world_reads.specs.Tests.{is_instance, is_kit, knows_object, names_function, same_kind}

kind_to : (a b : Kind) → same_kind a b ≡ true → a ≡ b
kind_to Nat Nat e = refl
kind_to Set Set e = refl
kind_to Bag Bag e = refl
kind_to a b e = cc

kind_from : (a b : Kind) → a ≡ b → same_kind a b ≡ true
kind_from Nat b e = subst (λ k. same_kind Nat k ≡ true) e refl
kind_from Set b e = subst (λ k. same_kind Set k ≡ true) e refl
kind_from Bag b e = subst (λ k. same_kind Bag k ≡ true) e refl

kit_to : (m : Maker) → is_kit m ≡ true → m ≡ of_kit
kit_to of_kit e = refl
kit_to m e = cc

instance_to : (i : ℕ) (m : Maker) → is_instance i m ≡ true → m ≡ of_instance i
instance_to i (of_instance n) e = ap of_instance (eqb-true n i e)
instance_to i m e = cc

module _ (w : State) (i : ℕ) where
  pub object_to : (k : ObjKind) (n : ℕ) → knows_object w i k n ≡ true → known_as i w k n
  object_to kinds.Ertp n e = eqb-true n 0 e
  object_to kinds.Zoe n e = eqb-true n 0 e
  object_to kinds.Timer n e = eqb-true n 0 e
  object_to (kinds.Brand kind) n e = let p = and_parts _ _ e in record { made = ltb-true _ _ p.0; kind_is = kind_to _ _ p.1 }
  object_to kinds.Issuer n e = ltb-true _ _ e
  object_to kinds.Mint n e = let p = and_parts _ _ e in record { made = ltb-true _ _ p.0; is = kit_to _ p.1 }
  object_to kinds.Purse n e = ltb-true _ _ e
  object_to kinds.Deposit n e = ltb-true _ _ e
  object_to kinds.Payment n e = ltb-true _ _ e
  object_to kinds.Installation n e = ltb-true _ _ e
  object_to kinds.Instance n e = ltb-true _ _ e
  object_to kinds.Zcf n e = eqb-true n i e
  object_to kinds.Seat n e = ltb-true _ _ e
  object_to kinds.Zseat n e = let p = and_parts _ _ e in record { made = ltb-true _ _ p.0; own = eqb-true _ _ p.1 }
  object_to kinds.Zmint n e = let p = and_parts _ _ e in record { made = ltb-true _ _ p.0; is = instance_to i _ p.1 }
  object_to kinds.Facet n e = ltb-true _ _ e
  object_to kinds.Promise n e = ltb-true _ _ e

  pub object_from : (k : ObjKind) (n : ℕ) → known_as i w k n → knows_object w i k n ≡ true
  object_from kinds.Ertp n is = eq-eqb n 0 is
  object_from kinds.Zoe n is = eq-eqb n 0 is
  object_from kinds.Timer n is = eq-eqb n 0 is
  object_from (kinds.Brand kind) n is = and_from _ _ (lt-ltb _ _ is.made) (kind_from _ _ is.kind_is)
  object_from kinds.Issuer n is = lt-ltb _ _ is
  object_from kinds.Mint n is = and_from _ _ (lt-ltb _ _ is.made) (subst (λ m. is_kit m ≡ true) (sym is.is) refl)
  object_from kinds.Purse n is = lt-ltb _ _ is
  object_from kinds.Deposit n is = lt-ltb _ _ is
  object_from kinds.Payment n is = lt-ltb _ _ is
  object_from kinds.Installation n is = lt-ltb _ _ is
  object_from kinds.Instance n is = lt-ltb _ _ is
  object_from kinds.Zcf n is = eq-eqb n i is
  object_from kinds.Seat n is = lt-ltb _ _ is
  object_from kinds.Zseat n is = and_from _ _ (lt-ltb _ _ is.made) (eq-eqb _ _ is.own)
  object_from kinds.Zmint n is = and_from _ _ (lt-ltb _ _ is.made) (subst (λ m. is_instance i m ≡ true) (sym is.is) (eq-eqb i i refl))
  object_from kinds.Facet n is = lt-ltb _ _ is
  object_from kinds.Promise n is = lt-ltb _ _ is

-- ---- functions

find_to : (f : List ℕ) (rs : List Routine) → is_some (find_routine f rs) ≡ true → IsNamed f rs
find_to f [] e = cc
find_to f (r ∷ rs) e = by (bytes_eq r.name f) refl (find_to f rs)
  where
    by : (b : Bool) → bytes_eq r.name f ≡ b → (is_some (find_routine f rs) ≡ true → IsNamed f rs) → IsNamed f (r ∷ rs)
    by true is rest = inl ((bytes_eq-Decides r.name f).0 is)
    by false is rest = inr (rest (sym (ap (λ b. is_some (cond b (Some r) (find_routine f rs))) is) ∙ e))

find_from : (f : List ℕ) (rs : List Routine) → IsNamed f rs → is_some (find_routine f rs) ≡ true
find_from f [] is = absurd is
find_from f (r ∷ rs) (inl same) = ap (λ b. is_some (cond b (Some r) (find_routine f rs))) ((bytes_eq-Decides r.name f).1 same)
find_from f (r ∷ rs) (inr is) = by (bytes_eq r.name f) (find_from f rs is)
  where
    by : (b : Bool) → is_some (find_routine f rs) ≡ true → is_some (cond b (Some r) (find_routine f rs)) ≡ true
    by true rest = refl
    by false rest = rest

pub function_to : (w : State) (i : ℕ) (f : List ℕ) → IsGoodWorld w → i < length w.tables.instances → names_function w i f ≡ true → HasFunction w.tables i f
function_to w i f good made e = record { made = made; installed = (good.instances.each i made).installed; named = find_to f (routines (module_of w.tables i)) e }

pub function_from : (w : State) (i : ℕ) (f : List ℕ) → HasFunction w.tables i f → names_function w i f ≡ true
function_from w i f is = find_from f (routines (module_of w.tables i)) is.named
