-- Answers that their callers may hold: single objects, amounts, records of a few objects.
use Rattle.std.specs.Str.{bytes_eq}
use Rattle.std.proofs.lemmas.Option.{same_Some}
use Rattle.std.proofs.Common.{◌≡◌, ℕ, ◌+◌, ◌<◌, Bool, true, false, cond, List, [], ◌∷◌, Option, Some, map, pos, ℤ, refl, subst, arith}
use Rattle.world_laws.specs.amount_math.Content.{Content, entries}
use Rattle.world_laws.specs.amount_math.declared.Amount.{Amount}
use Rattle.world_laws.specs.amount_math.declared.Kind.{Kind}
use Rattle.world_laws.specs.amount_math.declared.Kind.TheVariants.{Nat, Set, Bag}
use Rattle.world_laws.specs.host_data.Values.{amount_tree, content_tree, counted_tree, key_tree, value_tree}
use Rattle.world_laws.specs.host_data.Nodes.{EachField, EachItem, EachNode, FunctionIs, HasFieldsInOrder, IsShallow, NodeFact, ObjectIs}
use Rattle.world_laws.specs.host_data.Tree as trees
use Rattle.world_laws.specs.host_data.Tree.{Fields, Items, Tree}
use Rattle.world_laws.specs.host_data.View.{items_of}
use Rattle.world_laws.specs.host_data.declared.data.Obj.{Obj}
use Rattle.world_laws.specs.host_data.declared.data.ObjKind.TheVariants as kinds
use Rattle.world_laws.specs.world_state.Known.{FunctionKnown, HasNames, IsFormed, ObjectKnown}
use Rattle.world_laws.specs.world_state.Worlds.{State}

pub text_formed : (w : State) (h : Option ℕ) (t : List ℕ) → IsFormed w h (trees.text t)
text_formed w h t = record { objects = tt; functions = tt; named = tt; ordered = tt; shallow = tt }

pub null_formed : (w : State) (h : Option ℕ) → IsFormed w h trees.null
null_formed w h = record { objects = tt; functions = tt; named = tt; ordered = tt; shallow = tt }

pub boolean_formed : (w : State) (h : Option ℕ) (b : Bool) → IsFormed w h (trees.boolean b)
boolean_formed w h b = record { objects = tt; functions = tt; named = tt; ordered = tt; shallow = tt }

pub object_formed : (w : State) (h : Option ℕ) (o : Obj) → ObjectKnown h w o → IsFormed w h (trees.object o)
object_formed w h o known = record { objects = known; functions = tt; named = tt; ordered = tt; shallow = tt }

-- ---- amounts

-- a fact of numbers, of texts, and of arrays that don't lie too deep
module _ (F : NodeFact) (numbers : (n : ℕ) (z : ℤ) → F n (trees.number z)) (texts : (n : ℕ) (t : List ℕ) → F n (trees.text t)) (arrays : (n : ℕ) (ts : Items) → n < 32 → F n (trees.array ts)) where
  keys_each : (n : ℕ) (es : List (List ℕ × ℕ)) → EachItem F n (items_of (map key_tree es))
  keys_each n [] = tt
  keys_each n (e ∷ es) = (texts n e.0, keys_each n es)

  counts_each : (n : ℕ) → n < 32 → (es : List (List ℕ × ℕ)) → EachItem F n (items_of (map counted_tree es))
  counts_each n low [] = tt
  counts_each n low (e ∷ es) = ((arrays n _ low, (texts (n + 1) e.0, (numbers (n + 1) (pos e.1), tt))), counts_each n low es)

  pub content_each : (n : ℕ) → n + 1 < 32 → (kind : Kind) (c : Content) → EachNode F n (content_tree kind c)
  content_each n low Nat c = numbers n _
  content_each n low Set c = (arrays n _ (omega (arith, low)), keys_each (n + 1) (entries c))
  content_each n low Bag c = (arrays n _ (omega (arith, low)), counts_each (n + 1) low (entries c))

pub amount_formed : (w : State) (h : Option ℕ) (a : Amount) → ObjectKnown h w (record { kind = kinds.Brand a.value.kind; number = a.brand }) → IsFormed w h (amount_tree a)
unfolding amount_tree value_tree
amount_formed w h a known =
    let objects : NodeFact = ObjectIs (ObjectKnown h w) in
    let functions : NodeFact = FunctionIs (FunctionKnown h w) in
    record {
      objects = (tt, (known, (content_each objects (λ n z. tt) (λ n t. tt) (λ n ts low. tt) 1 (omega arith) a.value.kind a.value.content, tt)));
      functions = (tt, (tt, (content_each functions (λ n z. tt) (λ n t. tt) (λ n ts low. tt) 1 (omega arith) a.value.kind a.value.content, tt)));
      named = ((refl, (refl, tt)), (tt, (content_each HasNames (λ n z. tt) (λ n t. tt) (λ n ts low. tt) 1 (omega arith) a.value.kind a.value.content, tt)));
      ordered = ((refl, (tt, tt)), (tt, (content_each HasFieldsInOrder (λ n z. tt) (λ n t. tt) (λ n ts low. tt) 1 (omega arith) a.value.kind a.value.content, tt)));
      shallow = (omega arith, (tt, (content_each (IsShallow 32) (λ n z. tt) (λ n t. tt) (λ n ts low. low) 1 (omega arith) a.value.kind a.value.content, tt)));
    }

-- ---- parts

-- what holds of nodes one deeper holds of them where they lie
module _ (F : NodeFact) (lower : (n : ℕ) (t : Tree) → F (n + 1) t → F n t) where
  mutual
    pub raised : (n : ℕ) (t : Tree) → EachNode F (n + 1) t → EachNode F n t
    raised n (trees.array ts) h = (lower n _ h.0, raised_items (n + 1) ts h.1)
    raised n (trees.fields fs) h = (lower n _ h.0, raised_fields (n + 1) fs h.1)
    raised n trees.null h = lower n _ h
    raised n (trees.boolean b) h = lower n _ h
    raised n (trees.number z) h = lower n _ h
    raised n (trees.text s) h = lower n _ h
    raised n (trees.object o) h = lower n _ h
    raised n (trees.function name) h = lower n _ h

    raised_items : (n : ℕ) (ts : Items) → EachItem F (n + 1) ts → EachItem F n ts
    raised_items n trees.no_items h = tt
    raised_items n (trees.item t ts) h = (raised n t h.0, raised_items n ts h.1)

    raised_fields : (n : ℕ) (fs : Fields) → EachField F (n + 1) fs → EachField F n fs
    raised_fields n trees.no_fields h = tt
    raised_fields n (trees.field name t fs) h = (raised n t h.0, raised_fields n fs h.1)

pub got : (F : NodeFact) (n : ℕ) (name : List ℕ) (fs : Fields) (t : Tree) → EachField F n fs → trees.get name fs ≡ Some t → EachNode F n t
got F n name trees.no_fields t all is = absurd (cc)
got F n name (trees.field next u fs) t all is = by (bytes_eq next name) (got F n name fs t all.1) is
  where
    by : (b : Bool) → (trees.get name fs ≡ Some t → EachNode F n t) → cond b (Some u) (trees.get name fs) ≡ Some t → EachNode F n t
    by true later at = subst (EachNode F n) (same_Some u t at) all.0
    by false later at = later at

object_lower : (P : Obj → Type 0) (n : ℕ) (t : Tree) → ObjectIs P (n + 1) t → ObjectIs P n t
object_lower P n (trees.object o) h = h
object_lower P n _ h = tt

function_lower : (P : List ℕ → Type 0) (n : ℕ) (t : Tree) → FunctionIs P (n + 1) t → FunctionIs P n t
function_lower P n (trees.function name) h = h
function_lower P n _ h = tt

order_lower : (n : ℕ) (t : Tree) → HasFieldsInOrder (n + 1) t → HasFieldsInOrder n t
order_lower n (trees.fields fs) h = h
order_lower n _ h = tt

names_lower : (n : ℕ) (t : Tree) → HasNames (n + 1) t → HasNames n t
names_lower n (trees.fields fs) h = h
names_lower n (trees.function name) h = h
names_lower n _ h = tt

depth_lower : (d n : ℕ) (t : Tree) → IsShallow d (n + 1) t → IsShallow d n t
depth_lower d n (trees.array ts) h = omega (arith, h)
depth_lower d n (trees.fields fs) h = omega (arith, h)
depth_lower d n _ h = tt

-- a field of data that the caller may hold
pub field_formed : (w : State) (h : Option ℕ) (name : List ℕ) (t x : Tree) → IsFormed w h t → trees.field_of name t ≡ Some x → IsFormed w h x
field_formed w h name (trees.fields fs) x is at = record {
  objects = raised (ObjectIs (ObjectKnown h w)) (object_lower (ObjectKnown h w)) 0 x (got _ 1 name fs x is.objects.1 at);
  functions = raised (FunctionIs (FunctionKnown h w)) (function_lower (FunctionKnown h w)) 0 x (got _ 1 name fs x is.functions.1 at);
  named = raised HasNames names_lower 0 x (got _ 1 name fs x is.named.1 at);
  ordered = raised HasFieldsInOrder order_lower 0 x (got _ 1 name fs x is.ordered.1 at);
  shallow = raised (IsShallow 32) (depth_lower 32) 0 x (got _ 1 name fs x is.shallow.1 at);
}
field_formed w h name _ x is at = cc
