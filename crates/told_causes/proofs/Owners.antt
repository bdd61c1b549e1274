-- Facets and the instances that stand first for them.
use Rattle.std.proofs.Common.{◌≡◌, ℕ, ◌==◌, ◌<◌, inl, inr, Bool, true, false, cond, ◌||◌, List, [], ◌∷◌, ◌++◌, map, Option, Some, None, is_some, unwrap_or, refl, sym, ap, subst, ◌∙◌, arith, append-nil}
use Rattle.std.specs.BTreeMap.{get, is_at}
use Rattle.std.specs.List.{list_any}
use Rattle.std.specs.Cmp.{Equal-is}
use Rattle.std.specs.Cmp.Lexicographic.{slice_cmp}
use Rattle.std.specs.Option.{option_and_then, option_map}
use Rattle.std.specs.Ordering.{is_eq, match_ordering, nat_cmp}
use Rattle.std.specs.declared.cmp.Ordering.{Ordering}
use Rattle.std.specs.declared.cmp.Ordering.TheVariants.{Less, Equal, Greater}
use Rattle.std.specs.Str.{bytes_eq}
use Rattle.std.specs.Prelude.{IfSome, IsNone, codes}
use Rattle.std.proofs.lemmas.Map.Lookups.{exact_bytes, exact_unsigned}
use Rattle.std.proofs.lemmas.Slice.Eq.{bytes_eq-Decides}
use Rattle.serde_json.specs.Data as json
use Rattle.serde_json.specs.Find.{as_str, get as get_data, get_member}
use Rattle.row_records.specs.fair_rows.ExitCauses.{Owners, either, facets_at, facets_made, instance_of, is_far, name, object_answered, owner_in}
use Rattle.row_records.specs.host_text.Words.{is_field_name}
use Rattle.row_records.specs.turn_rows.Form.{AreFields, HasAnswerForm, HasCallForm, IsData, IsDelivered, IsMark, IsNumbered, objects_end}
use Rattle.row_records.specs.turn_rows.Kinds as kinds
use Rattle.row_records.specs.turn_rows.Kinds.{Kind}
use Rattle.row_records.specs.Views.{kind_view}
use Rattle.row_records.specs.declared.rows.Kind as code
use Rattle.row_records.specs.declared.rows.Kind.TheVariants as code_kinds
use Rattle.row_records.specs.turn_rows.Turns.{Answer, ok, refused, threw, spent, Call, called, Turn}
use Rattle.told_causes.specs.ToldFacets.{IsAdded, IsFacetOf, TellsOwners, by_instance, facet_name, first_owner, is_number, object_in, owner_name}
use Rattle.told_causes.specs.declared.facets.Facets.{Facets}
use Rattle.told_causes.proofs.Ones.{same_is}

-- ---- the object that was answered

texts : Option (List ℕ) → List (List ℕ)
texts (Some s) = s ∷ []
texts None = []

not_field : (k : List ℕ) → is_field_name k ≡ true → codes "@" ≡ k → ⊥
not_field k h same = let no : is_field_name (codes "@") ≡ true = ap is_field_name same ∙ h in cc

no_mark : (ms : json.Members) → AreFields ms → get_member (codes "@") ms ≡ None
no_mark json.no_members h = refl
no_mark (json.member k d ms) h = by (slice_cmp nat_cmp (codes "@") k) refl (no_mark ms h.2)
  where
    by : (o : Ordering) → slice_cmp nat_cmp (codes "@") k ≡ o → get_member (codes "@") ms ≡ None → match_ordering o (get_member (codes "@") ms) (Some d) (get_member (codes "@") ms) ≡ None
    by Less is rest = rest
    by Equal is rest = absurd (not_field k h.0 (exact_bytes (codes "@") k is))
    by Greater is rest = rest

one_mark : (k s : List ℕ) → cond (bytes_eq k (codes "@")) (s ∷ []) [] ≡ texts (option_and_then as_str (get_member (codes "@") (json.member k (json.string s) json.no_members)))
unfolding texts
one_mark k s = by (bytes_eq k (codes "@")) (slice_cmp nat_cmp (codes "@") k) refl refl
  where
    by : (b : Bool) (o : Ordering) → bytes_eq k (codes "@") ≡ b → slice_cmp nat_cmp (codes "@") k ≡ o
        → cond b (s ∷ []) [] ≡ texts (option_and_then as_str (match_ordering o None (Some (json.string s)) None))
    by true Less h is = absurd (let e : slice_cmp nat_cmp (codes "@") k ≡ Equal = ap (slice_cmp nat_cmp (codes "@")) ((bytes_eq-Decides k (codes "@")).0 h) in cc)
    by true Greater h is = absurd (let e : slice_cmp nat_cmp (codes "@") k ≡ Equal = ap (slice_cmp nat_cmp (codes "@")) ((bytes_eq-Decides k (codes "@")).0 h) in cc)
    by true Equal h is = refl
    by false Less h is = refl
    by false Greater h is = refl
    by false Equal h is = absurd (let e : bytes_eq k (codes "@") ≡ true = (bytes_eq-Decides k (codes "@")).1 (sym (exact_bytes (codes "@") k is)) in cc)

marked_only : (ms : json.Members) → IsMark ms → object_answered (ok (json.object ms)) ≡ texts (option_and_then as_str (get_member (codes "@") ms))
marked_only (json.member k (json.string s) json.no_members) h = one_mark k s
marked_only (json.member k (json.string s) (json.member l e ms)) h = absurd h
marked_only (json.member k json.null ms) h = absurd h
marked_only (json.member k (json.boolean b) ms) h = absurd h
marked_only (json.member k (json.number n) ms) h = absurd h
marked_only (json.member k (json.array ds) ms) h = absurd h
marked_only (json.member k (json.object ls) ms) h = absurd h
marked_only json.no_members h = absurd h

fields_only : (ms : json.Members) → AreFields ms → object_answered (ok (json.object ms)) ≡ []
fields_only (json.member k (json.string s) json.no_members) h = by (bytes_eq k (codes "@")) refl
  where
    by : (b : Bool) → bytes_eq k (codes "@") ≡ b → cond b (s ∷ []) [] ≡ []
    by true is = absurd (not_field k h.0 (sym ((bytes_eq-Decides k (codes "@")).0 is)))
    by false is = refl
fields_only (json.member k (json.string s) (json.member l e ms)) h = refl
fields_only (json.member k json.null ms) h = refl
fields_only (json.member k (json.boolean b) ms) h = refl
fields_only (json.member k (json.number n) ms) h = refl
fields_only (json.member k (json.array ds) ms) h = refl
fields_only (json.member k (json.object ls) ms) h = refl
fields_only json.no_members h = refl

answered_is : (d : json.Data) → IsData d → object_answered (ok d) ≡ texts (option_and_then as_str (get_data (codes "@") d))
unfolding texts
answered_is json.null h = refl
answered_is (json.boolean b) h = refl
answered_is (json.number n) h = refl
answered_is (json.string s) h = refl
answered_is (json.array ds) h = refl
answered_is (json.object ms) (inl mark) = marked_only ms mark
answered_is (json.object ms) (inr fields) = fields_only ms fields.0 ∙ sym (ap (λ o. texts (option_and_then as_str o)) (no_mark ms fields.0))

-- ---- names, either way round

flip : (xs ys : List ℕ) → bytes_eq xs ys ≡ bytes_eq ys xs
flip xs ys = by (bytes_eq xs ys) (bytes_eq ys xs) refl refl
  where
    by : (a b : Bool) → bytes_eq xs ys ≡ a → bytes_eq ys xs ≡ b → a ≡ b
    by true true h k = refl
    by false false h k = refl
    by true false h k = absurd (let e : bytes_eq ys xs ≡ true = (bytes_eq-Decides ys xs).1 (sym ((bytes_eq-Decides xs ys).0 h)) in cc)
    by false true h k = absurd (let e : bytes_eq xs ys ≡ true = (bytes_eq-Decides xs ys).1 (sym ((bytes_eq-Decides ys xs).0 k)) in cc)

or_false : (b : Bool) → (b || false) ≡ b
or_false true = refl
or_false false = refl

objects_only : (a : Answer) → HasAnswerForm a → object_answered a ≡ texts (object_in a)
unfolding texts
objects_only (ok d) h = answered_is d h
objects_only (refused code shown) h = refl
objects_only (threw d) h = refl
objects_only (spent meter) h = refl

module _ (c : Call) (form : HasCallForm c) where
  far_facets : is_far c.how ≡ true → facets_at (called c) ≡ texts (object_in c.answer)
  far_facets far = ap (λ (b : Bool). cond b (object_answered c.answer) []) far ∙ objects_only c.answer form.answer

  -- the object that a Far call answered
  pub facet_named : (s : List ℕ) (found : Option ℕ) → is_far c.how ≡ true → object_in c.answer ≡ Some s → ((n : ℕ) → n < objects_end → bytes_eq s (facet_name n) ≡ is_number found n) → IsFacetOf c found
  unfolding texts
  facet_named s found far at tests n low =
      ap (list_any (bytes_eq (facet_name n))) (far_facets far ∙ ap texts at) ∙ or_false (bytes_eq (facet_name n) s) ∙ flip (facet_name n) s ∙ tests n low

  pub none_named : is_far c.how ≡ true → object_in c.answer ≡ None → IsFacetOf c None
  unfolding texts
  none_named far at n low = ap (list_any (bytes_eq (facet_name n))) (far_facets far ∙ ap texts at)

  pub not_far : is_far c.how ≡ false → IsFacetOf c None
  not_far far n low = ap (list_any (bytes_eq (facet_name n))) (ap (λ (b : Bool). cond b (object_answered c.answer) []) far)

-- ---- what stands first

pub owner_first : (f : List ℕ) (os : Owners) → owner_in f os ≡ unwrap_or (first_owner f os) None
owner_first f [] = refl
owner_first f (o ∷ os) = by (bytes_eq f o.0) (owner_first f os)
  where
    by : (b : Bool) → owner_in f os ≡ unwrap_or (first_owner f os) None → cond b o.1 (owner_in f os) ≡ unwrap_or (cond b (Some o.1) (first_owner f os)) None
    by true rest = refl
    by false rest = rest

or_none : {A : Type 0} (o : Option A) → o ≡ either o None
or_none (Some x) = refl
or_none None = refl

at_number : (a n : ℕ) → is_at (nat_cmp a) n ≡ (a == n)
at_number a n = by (is_eq (nat_cmp a n)) (a == n) refl refl
  where
    there : is_eq (nat_cmp a n) ≡ true → (a == n) ≡ true
    there h = let same : a ≡ n = exact_unsigned a n ((Equal-is (nat_cmp a n)).0 h) in ap (λ (k : ℕ). k == n) same ∙ same_is n

    back : (a == n) ≡ true → is_eq (nat_cmp a n) ≡ true
    back h = grind arith

    by : (p q : Bool) → is_eq (nat_cmp a n) ≡ p → (a == n) ≡ q → p ≡ q
    by true true h k = refl
    by false false h k = refl
    by true false h k = absurd (let e : (a == n) ≡ true = there h in cc)
    by false true h k = absurd (let e : is_eq (nat_cmp a n) ≡ true = back k in cc)

first_both : (f : List ℕ) (os ps : Owners) → first_owner f (os ++ ps) ≡ either (first_owner f os) (first_owner f ps)
first_both f [] ps = refl
first_both f (o ∷ os) ps = by (bytes_eq f o.0) (first_both f os ps)
  where
    by : (b : Bool) → first_owner f (os ++ ps) ≡ either (first_owner f os) (first_owner f ps) → cond b (Some o.1) (first_owner f (os ++ ps)) ≡ either (cond b (Some o.1) (first_owner f os)) (first_owner f ps)
    by true rest = refl
    by false rest = rest

first_of_all : (f : List ℕ) (inst : Option (List ℕ)) (fs : List (List ℕ)) → first_owner f (map (λ g. (g, inst)) fs) ≡ cond (list_any (bytes_eq f) fs) (Some inst) None
first_of_all f inst [] = refl
first_of_all f inst (g ∷ fs) = by (bytes_eq f g) (first_of_all f inst fs)
  where
    by : (b : Bool) → first_owner f (map (λ g. (g, inst)) fs) ≡ cond (list_any (bytes_eq f) fs) (Some inst) None → cond b (Some inst) (first_owner f (map (λ g. (g, inst)) fs)) ≡ cond (b || list_any (bytes_eq f) fs) (Some inst) None
    by true rest = refl
    by false rest = rest

-- with what one more call answered
with_call : (c : Call) (found : Option ℕ) (inst : Option (List ℕ)) (os : Owners) → IsFacetOf c found → (n : ℕ) → n < objects_end
    → first_owner (facet_name n) (os ++ facets_made inst (called c ∷ [])) ≡ either (first_owner (facet_name n) os) (cond (is_number found n) (Some inst) None)
with_call c found inst os is n low =
    first_both (facet_name n) os (facets_made inst (called c ∷ [])) ∙ ap (either (first_owner (facet_name n) os))
    (ap (λ fs. first_owner (facet_name n) (map (λ (g : List ℕ). (g, inst)) fs)) (append-nil (facets_at (called c))) ∙ first_of_all (facet_name n) inst (facets_at (called c)) ∙ ap (λ (b : Bool). cond b (Some inst) None) (is n low))

map_either : (o p : Option (Option ℕ)) → option_map owner_name (either o p) ≡ either (option_map owner_name o) (option_map owner_name p)
map_either (Some x) p = refl
map_either None p = refl

map_if : (b : Bool) (owner : Option ℕ) → option_map owner_name (cond b (Some owner) None) ≡ cond b (Some (owner_name owner)) None
map_if true owner = refl
map_if false owner = refl

-- a facet is added, or none was answered
pub owners_added : (old new : Facets) (c : Call) (facet : ℕ) (owner : Option ℕ) (os : Owners) → IsFacetOf c (Some facet) → IsAdded old new facet owner → TellsOwners old os → TellsOwners new (os ++ facets_made (owner_name owner) (called c ∷ []))
owners_added old new c facet owner os is added told n low =
    ap (option_map owner_name) (added n) ∙ map_either (get nat_cmp old.owners n) (cond (facet == n) (Some owner) None)
    ∙ ap (λ o. either o (option_map owner_name (cond (facet == n) (Some owner) None))) (told n low) ∙ ap (either (first_owner (facet_name n) os)) (map_if (facet == n) owner)
    ∙ sym (with_call c (Some facet) (owner_name owner) os is n low)

pub owners_same : (k : Facets) (c : Call) (owner : Option ℕ) (os : Owners) → IsFacetOf c None → TellsOwners k os → TellsOwners k (os ++ facets_made (owner_name owner) (called c ∷ []))
owners_same k c owner os is told n low = told n low ∙ or_none (first_owner (facet_name n) os) ∙ sym (with_call c None (owner_name owner) os is n low)

-- ---- adding

pub added_there : (k : Facets) (facet : ℕ) (owner : Option ℕ) → is_some (get nat_cmp k.owners facet) ≡ true → IsAdded k k facet owner
added_there k facet owner there n = by (get nat_cmp k.owners n) (facet == n) refl refl
  where
    same : (facet == n) ≡ true → facet ≡ n
    same h = grind arith

    by : (o : Option (Option ℕ)) (b : Bool) → get nat_cmp k.owners n ≡ o → (facet == n) ≡ b → o ≡ either o (cond b (Some owner) None)
    by (Some x) b is h = refl
    by None false is h = refl
    by None true is h = absurd (let e : is_some (get nat_cmp k.owners n) ≡ true = ap (λ (m : ℕ). is_some (get nat_cmp k.owners m)) (sym (same h)) ∙ there in let f : is_some (get nat_cmp k.owners n) ≡ false = ap is_some is in cc)

pub added_new : (old new : Facets) (facet : ℕ) (owner : Option ℕ) → is_some (get nat_cmp old.owners facet) ≡ false → ((n : ℕ) → get nat_cmp new.owners n ≡ cond (is_at (nat_cmp facet) n) (Some owner) (get nat_cmp old.owners n)) → IsAdded old new facet owner
added_new old new facet owner none step n = step n ∙ ap (λ (b : Bool). cond b (Some owner) (get nat_cmp old.owners n)) (at_number facet n) ∙ by (get nat_cmp old.owners n) (facet == n) refl refl
  where
    same : (facet == n) ≡ true → facet ≡ n
    same h = grind arith

    by : (o : Option (Option ℕ)) (b : Bool) → get nat_cmp old.owners n ≡ o → (facet == n) ≡ b → cond b (Some owner) o ≡ either o (cond b (Some owner) None)
    by None true is h = refl
    by None false is h = refl
    by (Some x) false is h = refl
    by (Some x) true is h = absurd (let e : is_some (get nat_cmp old.owners n) ≡ false = ap (λ (m : ℕ). is_some (get nat_cmp old.owners m)) (sym (same h)) ∙ none in let f : is_some (get nat_cmp old.owners n) ≡ true = ap is_some is in cc)

-- ---- the instance of a turn

-- what is kept of a facet is its owner
pub owner_kept : (k : Facets) (facet : ℕ) (os : Owners) → facet < objects_end → TellsOwners k os → (found : Option (Option ℕ)) → get nat_cmp k.owners facet ≡ found → owner_name (unwrap_or found None) ≡ owner_in (facet_name facet) os
owner_kept k facet os low told found is = by found (ap (option_map owner_name) (sym is) ∙ told facet low) ∙ sym (owner_first (facet_name facet) os)
  where
    by : (o : Option (Option ℕ)) → option_map owner_name o ≡ first_owner (facet_name facet) os → owner_name (unwrap_or o None) ≡ unwrap_or (first_owner (facet_name facet) os) None
    by (Some x) h = ap (λ o. unwrap_or o None) h
    by None h = ap (λ o. unwrap_or o None) h

-- a turn of which `by` names the instance
pub instance_named : (os : Owners) (kind : Kind) (t : Turn) → by_instance kind ≡ true → IsDelivered kind t.by t.on t.method t.arguments → (found : Option ℕ)
    → IfSome found (λ n. t.by ≡ name (codes "instance") n) → (IsNone found → IsNumbered (codes "instance") objects_end t.by → ⊥) → owner_name found ≡ instance_of os kind t
instance_named os kind t by_it delivered found some none = number found some none ∙ sym (is kind by_it)
  where
    is : (k : Kind) → by_instance k ≡ true → instance_of os k t ≡ Some t.by
    is kinds.start h = refl
    is kinds.handler h = refl
    is kinds.wake h = refl
    is kinds.notify h = refl
    is kinds.service h = absurd (cc)
    is kinds.facet h = absurd (cc)
    is kinds.deadline h = absurd (cc)
    is kinds.tick h = absurd (cc)
    is kinds.give h = absurd (cc)
    is kinds.bad h = absurd (cc)
    is kinds.message h = absurd (cc)

    form : (k : Kind) → by_instance k ≡ true → IsDelivered k t.by t.on t.method t.arguments → IsNumbered (codes "instance") objects_end t.by
    form kinds.start h d = d.0
    form kinds.handler h d = d.0
    form kinds.wake h d = d.0
    form kinds.notify h d = d.0
    form kinds.service h d = absurd (cc h)
    form kinds.facet h d = absurd (cc h)
    form kinds.deadline h d = absurd (cc h)
    form kinds.tick h d = absurd (cc h)
    form kinds.give h d = absurd (cc h)
    form kinds.bad h d = absurd (cc h)
    form kinds.message h d = absurd (cc h)

    number : (o : Option ℕ) → IfSome o (λ n. t.by ≡ name (codes "instance") n) → (IsNone o → IsNumbered (codes "instance") objects_end t.by → ⊥) → owner_name o ≡ Some t.by
    number (Some n) h unnamed = ap Some (sym h)
    number None h unnamed = absurd (unnamed refl (form kind by_it delivered))

pub no_instance : (os : Owners) (kind : code.Kind) (t : Turn) → by_instance (kind_view kind) ≡ false → (kind ≡ code_kinds.Facet → ⊥) → None ≡ instance_of os (kind_view kind) t
no_instance os code_kinds.Service t h other = refl
no_instance os code_kinds.Facet t h other = absurd (other refl)
no_instance os code_kinds.Handler t h other = absurd (cc)
no_instance os code_kinds.Wake t h other = absurd (cc)
no_instance os code_kinds.Notify t h other = absurd (cc)
no_instance os code_kinds.Deadline t h other = refl
no_instance os code_kinds.Start t h other = absurd (cc)
no_instance os code_kinds.Tick t h other = refl
no_instance os code_kinds.Give t h other = refl
no_instance os code_kinds.Bad t h other = refl
no_instance os code_kinds.Message t h other = refl

pub facet_form : (t : Turn) (kind : code.Kind) → kind ≡ code_kinds.Facet → IsDelivered (kind_view kind) t.by t.on t.method t.arguments → IsNumbered (codes "facet") objects_end t.on
facet_form t kind is delivered = (subst (λ (k : code.Kind). IsDelivered (kind_view k) t.by t.on t.method t.arguments) is delivered).1

pub facet_instance : (os : Owners) (t : Turn) (kind : code.Kind) (o : Option (List ℕ)) → kind ≡ code_kinds.Facet → o ≡ owner_in t.on os → o ≡ instance_of os (kind_view kind) t
facet_instance os t kind o is h = subst (λ (k : code.Kind). o ≡ instance_of os (kind_view k) t) (sym is) h
