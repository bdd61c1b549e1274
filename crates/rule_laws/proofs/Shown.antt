-- Terms, issuers and proposals, as they are shown: records that a caller may hold.
use Rattle.std.proofs.Common.{ℕ, ◌+◌, ◌<◌, length, Option, Some, None, codes, refl, arith}
use Rattle.world_laws.specs.brands.Brands.{brand_at}
use Rattle.world_laws.specs.host_data.Values.{object_tree}
use Rattle.world_laws.specs.host_data.Nodes.{FunctionIs, ObjectIs}
use Rattle.world_laws.proofs.host_data.Nodes.{weaker}
use Rattle.world_laws.specs.actors.Tables.{InstanceView}
use Rattle.world_laws.specs.host_data.Tree as trees
use Rattle.world_laws.specs.host_data.Tree.{Tree}
use Rattle.world_laws.specs.host_data.declared.data.Obj.{Obj}
use Rattle.world_laws.specs.host_data.declared.data.ObjKind.{ObjKind}
use Rattle.world_laws.specs.host_data.declared.data.ObjKind.TheVariants as kinds
use Rattle.rules.specs.proposals.declared.offers.Exit.{Exit}
use Rattle.rules.specs.proposals.declared.offers.Exit.TheVariants.{AfterDeadline, OnDemand, Waived}
use Rattle.rules.specs.proposals.declared.offers.Proposal.{Proposal}
use Rattle.rules.specs.Records.{brand_object, brands_tree, deadline_tree, exit_tree, issuers_tree, proposal_tree, terms_tree, with_field}
use Rattle.world_laws.specs.world_state.Good.{AreTerms, IsGoodWorld, IsInstance, IsProposal}
use Rattle.world_laws.specs.world_state.Known.{FunctionKnown, IsFormed, IsHanded, ObjectKnown, known_as, made_as}
use Rattle.world_laws.specs.world_state.Worlds.{State, placed_field}
use Rattle.rule_laws.proofs.Amounts.{allocation_formed, objects_formed}
use Rattle.rule_laws.proofs.Fields.{FormedAt, differs, formed_here, no_field_placed, none_got, placed_formed, record_formed, record_parts}

-- ---- what can be handed out can be held

known_too : (w : State) (i : ℕ) (k : ObjKind) (n : ℕ) → made_as w k n → known_as i w k n
known_too w i kinds.Zcf n made = absurd made
known_too w i kinds.Zseat n made = absurd made
known_too w i kinds.Zmint n made = absurd made
known_too w i k n made = made

object_too : (w : State) (h : Option ℕ) (o : Obj) → ObjectKnown None w o → ObjectKnown h w o
object_too w None o is = is
object_too w (Some i) o is = known_too w i o.kind o.number is

object_held : (w : State) (h : Option ℕ) (n : ℕ) (t : Tree) → ObjectIs (ObjectKnown None w) n t → ObjectIs (ObjectKnown h w) n t
object_held w h n (trees.object o) is = object_too w h o is
object_held w h n _ is = tt

function_held : (w : State) (h : Option ℕ) (n : ℕ) (t : Tree) → FunctionIs (FunctionKnown None w) n t → FunctionIs (FunctionKnown h w) n t
function_held w h n (trees.function f) is = absurd is
function_held w h n _ is = tt

pub handed_held : (w : State) (h : Option ℕ) (t : Tree) → IsHanded w t → IsFormed w h t
handed_held w h t is = record {
  objects = weaker (ObjectIs (ObjectKnown None w)) (ObjectIs (ObjectKnown h w)) (object_held w h) 0 t is.objects;
  functions = weaker (FunctionIs (FunctionKnown None w)) (FunctionIs (FunctionKnown h w)) (function_held w h) 0 t is.functions;
  named = is.named;
  ordered = is.ordered;
  shallow = is.shallow;
}

timer_known : (w : State) (h : Option ℕ) → ObjectKnown h w (record { kind = kinds.Timer; number = 0 })
timer_known w h = object_too w h (record { kind = kinds.Timer; number = 0 }) refl

-- ---- proposals

deadline_at : (w : State) (h : Option ℕ) (t : ℕ) → FormedAt w h 2 (deadline_tree t)
deadline_at w h t = record {
  objects = (tt, (tt, (timer_known w h, tt)));
  functions = (tt, (tt, (tt, tt)));
  named = ((refl, (refl, tt)), (tt, (tt, tt)));
  ordered = ((refl, (tt, tt)), (tt, (tt, tt)));
  shallow = (omega arith, (tt, (tt, tt)));
}

exit_at : (w : State) (h : Option ℕ) (rule : Exit) → FormedAt w h 1 (exit_tree rule)
exit_at w h OnDemand = record {
  objects = (tt, (tt, tt));
  functions = (tt, (tt, tt));
  named = ((refl, tt), (tt, tt));
  ordered = ((tt, tt), (tt, tt));
  shallow = (omega arith, (tt, tt));
}
exit_at w h Waived = record {
  objects = (tt, (tt, tt));
  functions = (tt, (tt, tt));
  named = ((refl, tt), (tt, tt));
  ordered = ((tt, tt), (tt, tt));
  shallow = (omega arith, (tt, tt));
}
exit_at w h (AfterDeadline t) =
    let inner = deadline_at w h t in
    record {
      objects = (tt, (inner.objects, tt));
      functions = (tt, (inner.functions, tt));
      named = ((refl, tt), (inner.named, tt));
      ordered = ((tt, tt), (inner.ordered, tt));
      shallow = (omega arith, (inner.shallow, tt));
    }

pub proposal_formed : (w : State) (h : Option ℕ) → IsGoodWorld w → (p : Proposal) → IsProposal w.rights.out p → IsFormed w h (proposal_tree p)
proposal_formed w h good p is =
    let exit = exit_at w h p.exit in
    let give = allocation_formed w h good 1 p.give (omega arith) is.give.apart is.give_named is.gives in
    let want = allocation_formed w h good 1 p.want (omega arith) is.want.apart is.want_named is.wants in
    record {
      objects = (tt, (exit.objects, (give.objects, (want.objects, tt))));
      functions = (tt, (exit.functions, (give.functions, (want.functions, tt))));
      named = ((refl, (refl, (refl, tt))), (exit.named, (give.named, (want.named, tt))));
      ordered = ((refl, (refl, (tt, tt))), (exit.ordered, (give.ordered, (want.ordered, tt))));
      shallow = (omega arith, (exit.shallow, (give.shallow, (want.shallow, tt))));
    }

-- ---- terms and issuers

object_at_depth : (w : State) (h : Option ℕ) (d : ℕ) (kind : ObjKind) (n : ℕ) → made_as w kind n → FormedAt w h d (object_tree kind n)
object_at_depth w h d kind n made = record { objects = object_too w h (record { kind = kind; number = n }) made; functions = tt; named = tt; ordered = tt; shallow = tt }

module _ (w : State) (h : Option ℕ) (good : IsGoodWorld w) where
  issuer_each : (d b : ℕ) → b < length w.brands → FormedAt w h d (object_tree kinds.Issuer b)
  issuer_each d b made = object_at_depth w h d kinds.Issuer b made

  brand_each : (d b : ℕ) → b < length w.brands → FormedAt w h d (brand_object w b)
  brand_each d b made = object_at_depth w h d (kinds.Brand (brand_at w.brands b).kind) b (record { made = made; kind_is = refl })

  pub issuers_at : (d : ℕ) (x : InstanceView) (i : ℕ) → d < 32 → IsInstance w i x → FormedAt w h d (issuers_tree x.issuers)
  issuers_at d x i low is = record_formed w h d _ low (objects_formed w h (d + 1) (λ b. object_tree kinds.Issuer b) (issuer_each (d + 1)) x.issuers is.apart.apart is.issuers)

  brands_at : (d : ℕ) (x : InstanceView) (i : ℕ) → d < 32 → IsInstance w i x → FormedAt w h d (brands_tree w x.issuers)
  brands_at d x i low is = record_formed w h d _ low (objects_formed w h (d + 1) (λ b. brand_object w b) (brand_each (d + 1)) x.issuers is.apart.apart is.issuers)

  both_fields : (x : InstanceView) (i : ℕ) (t : Tree) → IsInstance w i x → AreTerms t → IsFormed w h t → IsFormed w h (with_field (codes "brands") (brands_tree w x.issuers) (with_field (codes "issuers") (issuers_tree x.issuers) t))
  both_fields x i (trees.fields fs) is bare held =
      let issuers_none = none_got (codes "issuers") fs bare.0 in
      let brands_none = no_field_placed (codes "brands") (codes "issuers") (issuers_tree x.issuers) fs (differs (codes "issuers") (codes "brands") refl) (none_got (codes "brands") fs bare.1) in
      let with_issuers = placed_formed w h 1 (codes "issuers") (issuers_tree x.issuers) fs refl issuers_none (issuers_at 1 x i (omega arith) is) (record_parts w h fs held) in
      let with_both = placed_formed w h 1 (codes "brands") (brands_tree w x.issuers) (placed_field (codes "issuers") (issuers_tree x.issuers) fs) refl brands_none (brands_at 1 x i (omega arith) is) with_issuers in
      formed_here w h _ (record_formed w h 0 _ (omega arith) with_both)
  both_fields x i _ is bare held = absurd bare

  pub terms_formed : (x : InstanceView) (i : ℕ) → IsInstance w i x → IsFormed w h (terms_tree w x)
  terms_formed x i is = both_fields x i x.terms is is.bare (handed_held w h x.terms is.terms)
