-- Objects in data of which all were made: what is read of it is one that was.
use Rattle.std.proofs.Common.{◌≡◌, ℕ, ◌<◌, Bool, true, false, Some, None, if◌then◌else◌, refl, subst}
use Rattle.std.proofs.lemmas.Option.{same_Some}
use Rattle.refusals.specs.host_data.Tree.{Tree, null, boolean, number, text, array, fields, object, function}
use Rattle.refusals.specs.host_data.declared.data.Obj.{Obj}
use Rattle.refusals.specs.host_data.declared.data.ObjKind.{ObjKind}
use Rattle.refusals.specs.host_data.Nodes.{EachNode, ObjectIs}
use Rattle.call_arguments.specs.Arguments.{IsMade, is_kind, number_of_kind, object_in}

module _ (P : Obj → Type 0) (kind : ObjKind) (made : ℕ) (below : (o : Obj) → is_kind kind o.kind ≡ true → P o → o.number < made) where
  object_made : (o : Obj) → P o → (n : ℕ) → number_of_kind kind o ≡ Some n → n < made
  object_made o is n e = by (is_kind kind o.kind) (below o) e
    where
      by : (b : Bool) → (b ≡ true → P o → o.number < made) → (if b then Some o.number else None) ≡ Some n → n < made
      by true low at = subst (λ m. m < made) (same_Some o.number n at) (low refl is)
      by false low at = absurd (cc)

  -- where each object in data has P, and the objects of the kind that have it were made, one that is read was made
  pub read_made : (m : ℕ) (t : Tree) → EachNode (ObjectIs P) m t → IsMade kind made t
  unfolding object_in
  read_made m (object o) is n e = object_made o is n e
  read_made m null is n e = absurd (cc)
  read_made m (boolean b) is n e = absurd (cc)
  read_made m (number z) is n e = absurd (cc)
  read_made m (text s) is n e = absurd (cc)
  read_made m (array ts) is n e = absurd (cc)
  read_made m (fields fs) is n e = absurd (cc)
  read_made m (function name) is n e = absurd (cc)
