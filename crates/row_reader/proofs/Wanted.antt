-- The members of an object beside the names that are wanted, and the one member of an object.
use Rattle.std.proofs.Common.{◌≡◌, ◌<◌, ◌+◌, ℕ, zero, suc, Bool, true, List, [], ◌∷◌, length, drop, get_or, map, Option, Some, None, Bor, string_bytes, refl, sym, ap, subst, ◌∙◌, arith, add-one, drop-cons}
use Rattle.std.proofs.lemmas.Slice.Eq.{bytes_eq-Decides}
use Rattle.std.specs.Str.{bytes_eq}
use Rattle.serde_json.specs.Data.{Data}
use Rattle.serde_json.specs.Data as json
use Rattle.serde_json.specs.Find.{as_object}
use Rattle.serde_json.specs.View.{members_view}
use Rattle.serde_json.proofs.Views.{Entry}
use Rattle.turn_rows.specs.Form.{names_of}
use Rattle.row_reader.proofs.Named.{object_is}
use Rattle.row_reader.specs.Members.{only_in}

-- the members have these names
abbrev pub Agree : List Entry → List (Bor (List ℕ)) → Type 0
Agree es ns = names_of (members_view es) ≡ map (λ n. n.now) ns

pub fewer : (e : Entry) (es : List Entry) (n : Bor (List ℕ)) (ns : List (Bor (List ℕ))) → Agree (e ∷ es) (n ∷ ns) → Agree es ns
fewer e es n ns h = cc

pub more : (e : Entry) (es : List Entry) (n : Bor (List ℕ)) (ns : List (Bor (List ℕ))) → string_bytes e.0 ≡ n.now → Agree es ns → Agree (e ∷ es) (n ∷ ns)
more e es n ns same h = rw (same, h) refl

pub other_name : (e : Entry) (es : List Entry) (n : Bor (List ℕ)) (ns : List (Bor (List ℕ))) → (string_bytes e.0 ≡ n.now → ⊥) → Agree (e ∷ es) (n ∷ ns) → ⊥
other_name e es n ns other h = let same : string_bytes e.0 ≡ n.now = cc in other same

pub none_left : (n : Bor (List ℕ)) (ns : List (Bor (List ℕ))) → Agree [] (n ∷ ns) → ⊥
none_left n ns h = cc

pub none_more : (es : List Entry) → Agree es [] → es ≡ []
none_more [] h = refl
none_more (e ∷ es) h = absurd (cc)

other_members : (es : List Entry) → (length es ≡ 1 → ⊥) → None ≡ only_in (json.object (members_view es))
other_members [] h = refl
other_members (e ∷ []) h = absurd (h refl)
other_members (e ∷ f ∷ es) h = refl

pub not_one : (d : Data) (es : List Entry) → Some (members_view es) ≡ as_object d → (length es ≡ 1 → ⊥) → None ≡ only_in d
not_one d es is h = rw (object_is d (members_view es) is) (other_members es h)

pub ends_early : (ns : List (Bor (List ℕ))) (i : ℕ) → i < length ns → Agree [] (drop i ns) → ⊥
ends_early [] i h a = absurd (omega (arith, h))
ends_early (n ∷ ns) zero h a = none_left n ns a
ends_early (n ∷ ns) (suc i) h a = ends_early ns i (omega (arith, h)) a

splits : (ns : List (Bor (List ℕ))) (i : ℕ) (d : Bor (List ℕ)) → i < length ns → drop i ns ≡ get_or ns i d ∷ drop (i + 1) ns
splits ns i d h = rw (add-one, drop-cons ns i d) refl

pub same_of : (b : Bool) (s t : List ℕ) → b ≡ bytes_eq s t → b ≡ true → s ≡ t
same_of b s t is holds = (bytes_eq-Decides s t).0 (sym is ∙ holds)

-- a name more agrees
pub kept : (A : Type 0) (es rest : List Entry) (e : Entry) (ns : List (Bor (List ℕ))) (i : ℕ) (d : Bor (List ℕ)) → i < length ns → es ≡ e ∷ rest → string_bytes e.0 ≡ (get_or ns i d).now
    → (A → Agree es (drop i ns)) → (Agree es (drop i ns) → A) → (A → Agree rest (drop (i + 1) ns)) × (Agree rest (drop (i + 1) ns) → A)
kept A es rest e ns i d within is same there back =
    let names : drop i ns ≡ get_or ns i d ∷ drop (i + 1) ns = splits ns i d within in (
      λ a. fewer e rest (get_or ns i d) (drop (i + 1) ns) (subst (λ (q : List Entry × List (Bor (List ℕ))). Agree q.0 q.1) (λ k. (is k, names k)) (there a)),
      λ a. back (subst (λ (q : List Entry × List (Bor (List ℕ))). Agree q.0 q.1) (λ k. (sym is k, sym names k)) (more e rest (get_or ns i d) (drop (i + 1) ns) same a)),
    )
