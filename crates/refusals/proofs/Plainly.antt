-- The data of what may be shown is plain, in order and shallow: once for all codes.
use Rattle.std.proofs.Common.{◌≡◌, ◌≤◌, ◌<◌, ◌+◌, ℕ, false, List, [], ◌∷◌, map, refl, arith}
use Rattle.host_data.specs.amount_math.Content.{entries}
use Rattle.host_data.specs.amount_math.ValueView.{ValueView}
use Rattle.host_data.specs.amount_math.declared.Kind.{Kind}
use Rattle.host_data.specs.amount_math.declared.Kind.TheVariants.{Nat, Set, Bag}
use Rattle.host_data.specs.Tree.{Tree, null, boolean, number, text, array, fields, object, function, Ordered, is_local, nesting}
use Rattle.host_data.specs.View.{items_of}
use Rattle.host_data.specs.Nodes.{EachNode, EachItem, Implies, HasFieldsInOrder, IsFree, IsShallow}
use Rattle.host_data.proofs.Nodes.{weaker, nested, in_order_throughout, not_local}
use Rattle.host_data.specs.Values.{content_tree, counted_tree, key_tree, value_tree}
use Rattle.refusals.specs.Codes.{Shown, shown_by, shown_tree, shown_trees, code_of, refusal_tree, told}
use Rattle.refusals.specs.Codes as codes
use Rattle.refusals.specs.Plain.{IsPlain}
use Rattle.refusals.specs.declared.codes.Refusal.{Refusal}

-- plain, in order, and above n + d
pub record IsTold (d n : ℕ) (t : Tree) : Type 0 where
  pub plain : IsPlain n t
  pub in_order : HasFieldsInOrder n t
  pub shallow : IsShallow d n t

keys_told : (d n : ℕ) (es : List (List ℕ × ℕ)) → EachItem (IsTold d) n (items_of (map key_tree es))
keys_told d n [] = tt
keys_told d n (e ∷ es) = (record { plain = tt; in_order = tt; shallow = tt }, keys_told d n es)

counts_told : (d n : ℕ) → n < d → (es : List (List ℕ × ℕ)) → EachItem (IsTold d) n (items_of (map counted_tree es))
counts_told d n low [] = tt
counts_told d n low (e ∷ es) =
    ((record { plain = tt; in_order = tt; shallow = low }, (record { plain = tt; in_order = tt; shallow = tt }, (record { plain = tt; in_order = tt; shallow = tt }, tt))), counts_told d n low es)

content_told : (d n : ℕ) (kind : Kind) (w : ValueView) → n + 2 ≤ d → EachNode (IsTold d) n (content_tree kind w.content)
content_told d n Nat w low = record { plain = tt; in_order = tt; shallow = tt }
content_told d n Set w low = (record { plain = tt; in_order = tt; shallow = omega (arith, low) }, keys_told d (n + 1) (entries w.content))
content_told d n Bag w low = (record { plain = tt; in_order = tt; shallow = omega (arith, low) }, counts_told d (n + 1) (omega (arith, low)) (entries w.content))

one_told : (d n : ℕ) (s : Shown) → n + 2 ≤ d → EachNode (IsTold d) n (shown_tree s)
unfolding value_tree
one_told d n (codes.number z) low = record { plain = tt; in_order = tt; shallow = tt }
one_told d n (codes.words t) low = record { plain = tt; in_order = tt; shallow = tt }
one_told d n (codes.worth w) low = content_told d n w.kind w low

all_told : (d n : ℕ) (ss : List Shown) → n + 2 ≤ d → EachItem (IsTold d) n (items_of (shown_trees ss))
all_told d n [] low = tt
all_told d n (s ∷ ss) low = (one_told d n s low, all_told d n ss low)

told_is : (n : ℕ) (code : List ℕ) (ss : List Shown) → EachNode (IsTold (n + 4)) n (told code ss)
told_is n code ss = (
  record { plain = tt; in_order = (refl, (tt, tt)); shallow = omega arith },
  (record { plain = tt; in_order = tt; shallow = tt }, ((record { plain = tt; in_order = tt; shallow = omega arith }, all_told (n + 4) (n + 1 + 1) ss (omega arith)), tt)),
)

refusal_told : (r : Refusal) (n : ℕ) → EachNode (IsTold (n + 4)) n (refusal_tree r)
unfolding refusal_tree
refusal_told r n = told_is n (code_of r) (shown_by r)

-- ---- what follows of it

plain_free : Implies IsPlain IsFree
plain_free n null h = tt
plain_free n (boolean b) h = tt
plain_free n (number z) h = tt
plain_free n (text t) h = tt
plain_free n (array ts) h = tt
plain_free n (fields fs) h = tt
plain_free n (object o) h = absurd h
plain_free n (function name) h = absurd h

pub plain : (r : Refusal) (n : ℕ) → EachNode IsPlain n (refusal_tree r)
plain r n = weaker (IsTold (n + 4)) IsPlain (λ m t h. h.plain) n (refusal_tree r) (refusal_told r n)

pub free : (r : Refusal) (n : ℕ) → EachNode IsFree n (refusal_tree r)
free r n = weaker IsPlain IsFree plain_free n (refusal_tree r) (plain r n)

pub in_order : (r : Refusal) (n : ℕ) → EachNode HasFieldsInOrder n (refusal_tree r)
in_order r n = weaker (IsTold (n + 4)) HasFieldsInOrder (λ m t h. h.in_order) n (refusal_tree r) (refusal_told r n)

pub shallow : (r : Refusal) (n : ℕ) → EachNode (IsShallow (n + 4)) n (refusal_tree r)
shallow r n = weaker (IsTold (n + 4)) (IsShallow (n + 4)) (λ m t h. h.shallow) n (refusal_tree r) (refusal_told r n)

pub none_local : (r : Refusal) → is_local (refusal_tree r) ≡ false
none_local r = not_local 0 (refusal_tree r) (free r 0)

pub ordered : (r : Refusal) → Ordered (refusal_tree r)
ordered r = in_order_throughout 0 (refusal_tree r) (in_order r 0)

pub nests : (r : Refusal) → nesting (refusal_tree r) ≤ 4
nests r = omega (arith, nested 4 0 (refusal_tree r) (omega arith) (shallow r 0))
