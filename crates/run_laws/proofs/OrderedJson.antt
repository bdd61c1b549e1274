-- JSON that is read from a text has its members in byte order of their names, each name once.
use Rattle.std.proofs.Common.{◌≡◌, ℕ, List, Option, Some, None, option_map, option_and_then, refl, ap, subst, ◌∙◌}
use Rattle.std.proofs.lemmas.Cmp.{nat_list_cmp_total}
use Rattle.std.specs.Cmp.Lexicographic.{slice_cmp}
use Rattle.std.specs.Ordering.{match_ordering, nat_cmp, ordering_reverse}
use Rattle.std.specs.declared.cmp.Ordering.{Ordering}
use Rattle.std.specs.declared.cmp.Ordering.TheVariants.{Equal, Greater, Less}
use Rattle.serde_json.specs.Data as json
use Rattle.json.specs.Json as text
use Rattle.json.specs.Lex.{tokens}
use Rattle.serde_json.specs.Find.{get_member}
use Rattle.serde_json.specs.Read.{max_depth, number_of, of_items, of_json, of_members, read}

pub is_some : {A : Type 0} (x y : A) → Some x ≡ Some y → x ≡ y
is_some x y h = cc

pub mapped : {A B : Type 0} (f : A → B) (o : Option A) (y : B) → option_map f o ≡ Some y → (x : A) × (o ≡ Some x) × (f x ≡ y)
mapped f None y h = absurd (cc)
mapped f (Some x) y h = (x, refl, is_some (f x) y h)

pub chained : {A B : Type 0} (f : A → Option B) (o : Option A) (y : B) → option_and_then f o ≡ Some y → (x : A) × (o ≡ Some x) × (f x ≡ Some y)
chained f None y h = absurd (cc)
chained f (Some x) y h = (x, refl, h)

-- a name stands before the first member, in byte order
abbrev pub IsBeforeMembers : List ℕ → json.Members → Type 0
IsBeforeMembers name json.no_members = Unit {0}
IsBeforeMembers name (json.member next d ms) = slice_cmp nat_cmp name next ≡ Less

abbrev mutual
  pub IsOrdered : json.Data → Type 0
  IsOrdered (json.array ds) = AreOrdered ds
  IsOrdered (json.object ms) = AreOrderedMembers ms
  IsOrdered _ = Unit {0}

  pub AreOrdered : json.Items → Type 0
  AreOrdered json.no_items = Unit {0}
  AreOrdered (json.item d ds) = IsOrdered d × AreOrdered ds

  pub AreOrderedMembers : json.Members → Type 0
  AreOrderedMembers json.no_members = Unit {0}
  AreOrderedMembers (json.member name d ms) = IsOrdered d × IsBeforeMembers name ms × AreOrderedMembers ms

later : (k l : List ℕ) → slice_cmp nat_cmp k l ≡ Greater → slice_cmp nat_cmp l k ≡ Less
later k l h = nat_list_cmp_total.antisymm l k ∙ ap ordering_reverse h

before_put : (l k : List ℕ) (d : json.Data) (ms : json.Members) → slice_cmp nat_cmp l k ≡ Less → IsBeforeMembers l ms → IsBeforeMembers l (json.put k d ms)
before_put l k d json.no_members h before = h
before_put l k d (json.member m e ms) h before = by (slice_cmp nat_cmp k m)
  where
    by : (o : Ordering) → IsBeforeMembers l (match_ordering o (json.member k d (json.member m e ms)) (json.member m d ms) (json.member m e (json.put k d ms)))
    by Less = h
    by Equal = before
    by Greater = before

ordered_put : (k : List ℕ) (d : json.Data) (ms : json.Members) → IsOrdered d → AreOrderedMembers ms → AreOrderedMembers (json.put k d ms)
ordered_put k d json.no_members o h = (o, tt, tt)
ordered_put k d (json.member l e ms) o h = by (slice_cmp nat_cmp k l) refl (ordered_put k d ms o h.2)
  where
    by : (r : Ordering) → slice_cmp nat_cmp k l ≡ r → AreOrderedMembers (json.put k d ms)
        → AreOrderedMembers (match_ordering r (json.member k d (json.member l e ms)) (json.member l d ms) (json.member l e (json.put k d ms)))
    by Less at rest = (o, at, h)
    by Equal at rest = (o, h.1, h.2)
    by Greater at rest = (h.0, before_put l k d ms (later k l at) h.1, rest)

mutual
  ordered_of : (j : text.Json) (d : json.Data) → of_json j ≡ Some d → IsOrdered d
  ordered_of text.null d h = subst IsOrdered (is_some json.null d h) tt
  ordered_of (text.boolean b) d h = subst IsOrdered (is_some (json.boolean b) d h) tt
  ordered_of (text.number s) d h = subst IsOrdered (mapped json.number (number_of s) d h).2 tt
  ordered_of (text.string s) d h = subst IsOrdered (is_some (json.string s) d h) tt
  ordered_of (text.array js) d h = let b = mapped json.array (of_items js) d h in subst IsOrdered b.2 (ordered_items js b.0 b.1)
  ordered_of (text.object ms) d h = let b = mapped json.object (of_members ms json.no_members) d h in subst IsOrdered b.2 (ordered_members ms json.no_members b.0 tt b.1)

  ordered_items : (js : text.Items) (ds : json.Items) → of_items js ≡ Some ds → AreOrdered ds
  ordered_items text.no_items ds h = subst AreOrdered (is_some json.no_items ds h) tt
  ordered_items (text.item j js) ds h =
      let a = chained (λ d. option_map (json.item d) (of_items js)) (of_json j) ds h in
      let b = mapped (json.item a.0) (of_items js) ds a.2 in
      subst AreOrdered b.2 (ordered_of j a.0 a.1, ordered_items js b.0 b.1)

  ordered_members : (js : text.Members) (found ms : json.Members) → AreOrderedMembers found → of_members js found ≡ Some ms → AreOrderedMembers ms
  ordered_members text.no_members found ms o h = subst AreOrderedMembers (is_some found ms h) o
  ordered_members (text.member k j js) found ms o h =
      let a = chained (λ d. of_members js (json.put k d found)) (of_json j) ms h in
      ordered_members js (json.put k a.0 found) ms (ordered_put k a.0 found (ordered_of j a.0 a.1) o) a.2

-- what a text is read as
pub read_is_ordered : (bytes : List ℕ) (d : json.Data) → read bytes ≡ Some d → IsOrdered d
read_is_ordered bytes d h = let a = chained of_json (option_and_then (λ p. text.if_last p.0 p.1) (text.value max_depth (tokens bytes))) d h in ordered_of a.0 d a.2

-- a member of it
pub member_is_ordered : (name : List ℕ) (ms : json.Members) (d : json.Data) → AreOrderedMembers ms → get_member name ms ≡ Some d → IsOrdered d
member_is_ordered name json.no_members d o h = absurd (cc)
member_is_ordered name (json.member l e ms) d o h = by (slice_cmp nat_cmp name l) (member_is_ordered name ms d o.2) h
  where
    by : (r : Ordering) → (get_member name ms ≡ Some d → IsOrdered d) → match_ordering r (get_member name ms) (Some e) (get_member name ms) ≡ Some d → IsOrdered d
    by Less further at = further at
    by Equal further at = subst IsOrdered (is_some e d at) o.0
    by Greater further at = further at
