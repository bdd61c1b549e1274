-- The rules of Zoe's service are good: what it says of invitations and of instances can be handed out, and what makes
-- installations, instances and seats is shown beside.
use Rattle.std.specs.Prelude.{◌==◌, IfSome, option_and_then, unwrap_or}
use Rattle.std.specs.Str.{bytes_eq}
use Rattle.std.proofs.Common.{◌≡◌, ℕ, zero, suc, ◌<◌, Bool, true, false, List, length, Option, Some, None, Ok, IfOk, if◌then◌else◌, codes, refl, sym, subst, arith}
use Rattle.std.proofs.lemmas.Bool.{false≢true}
use Rattle.std.proofs.lemmas.Option.{same_Some}
use Rattle.world_laws.specs.amount_math.Content.{entries}
use Rattle.world_laws.specs.amount_math.ValueView.{ValueView}
use Rattle.rules.specs.call_arguments.Arguments.{arg, is_kind, object_at, object_in}
use Rattle.rules.proofs.call_arguments.Made.{read_made}
use Rattle.world_laws.specs.actors.Tables.{InstanceView}
use Rattle.world_laws.specs.actors.declared.instance_store.instance.Standing.{Standing}
use Rattle.world_laws.specs.actors.declared.instance_store.instance.Standing.TheVariants.{Accepting, Halted, Stopped}
use Rattle.world_laws.specs.turn_stores.Details.{DetailsView, details_at, no_details}
use Rattle.world_laws.specs.turn_stores.Elements.{element}
use Rattle.world_laws.specs.host_data.Tree as trees
use Rattle.world_laws.specs.host_data.Tree.{Tree}
use Rattle.world_laws.specs.host_data.declared.data.Obj.{Obj}
use Rattle.world_laws.specs.host_data.declared.data.ObjKind.{ObjKind}
use Rattle.world_laws.specs.host_data.declared.data.ObjKind.TheVariants as kinds
use Rattle.world_laws.specs.refusals.Codes.{wrong_object}
use Rattle.world_laws.specs.refusals.Outcomes.{reading}
use Rattle.world_laws.proofs.refusals.Steps.{after_step, after_wanted, wanted_there}
use Rattle.world_laws.proofs.Lists.{all_read}
use Rattle.world_laws.specs.world_state.Good.{IsGoodWorld, IsInstance, IsInvitation}
use Rattle.world_laws.specs.world_state.Known.{IsFormed, IsHanded, ObjectKnown, made_as}
use Rattle.world_laws.specs.world_state.Worlds.{State}
use Rattle.rules.specs.Obligations.{CanCall, IsGoodOutcome}
use Rattle.rules.specs.Words.{has_halted}
use Rattle.rule_laws.proofs.Forms.{null_formed, object_formed}
use Rattle.rule_laws.proofs.GivenData.{if_wanted}
use Rattle.rule_laws.proofs.Reading.{by_method, reads}
use Rattle.rules.specs.Zoe.{ReadsModules, TextReader, get_invitation_details, get_invitation_issuer, get_issuers, get_public_facet, get_terms, instance_of, invitation_in, named_by, of_zoe, only_key}
use Rattle.rule_laws.specs.GoodServices.{IsGoodMethod, numbered}
use Rattle.rules.specs.Records.{details_tree}
use Rattle.rule_laws.proofs.Shown.{issuers_at, terms_formed}
use Rattle.rule_laws.proofs.Fields.{formed_here}
use Rattle.rules.specs.Outcomes.{Outcome}
use Rattle.rule_laws.proofs.Offers.{offer_is}
use Rattle.rule_laws.proofs.Starting.{install_is, start_is}

-- ---- objects

made_instance : (w : State) (k : ObjKind) (n : ℕ) → is_kind kinds.Instance k ≡ true → made_as w k n → n < length w.tables.instances
made_instance w kinds.Instance n is made = made
made_instance w _ n is made = absurd (false≢true is)

instance_below : (w : State) (o : Obj) → is_kind kinds.Instance o.kind ≡ true → ObjectKnown None w o → o.number < length w.tables.instances
instance_below w o is known = made_instance w o.kind o.number is known

instance_made : (w : State) (args : List Tree) (i : ℕ) → IsFormed w None (arg 1 args) → object_at kinds.Instance 1 args ≡ Ok i → i < length w.tables.instances
unfolding object_at
instance_made w args i formed is =
    read_made (ObjectKnown None w) kinds.Instance (length w.tables.instances) (instance_below w) 0 (arg 1 args) formed.objects i
    (wanted_there (object_in kinds.Instance (arg 1 args)) (wrong_object 1) i is)

-- ---- invitations

named_below : (n : ℕ) (key : List ℕ) (i : ℕ) → named_by n key ≡ Some i → i < n
named_below zero key i is = absurd (cc)
named_below (suc n) key i is = by (bytes_eq key (element n)) (named_below n key i) is
  where
    by : (b : Bool) → (named_by n key ≡ Some i → i < n) → (if b then Some n else named_by n key) ≡ Some i → i < suc n
    by true later at = subst (λ k. k < suc n) (same_Some n i at) (omega arith)
    by false later at = omega (arith, later at)

key_named : (n : ℕ) (o : Option (List ℕ)) (i : ℕ) → option_and_then (named_by n) o ≡ Some i → i < n
key_named n None i is = absurd (cc)
key_named n (Some key) i is = named_below n key i is

invitation_made : (w : State) (brand : ℕ) (v : ValueView) (i : ℕ) → invitation_in w brand v ≡ Some i → i < length w.invitations
unfolding invitation_in
invitation_made w brand v i is = by (brand == 0) is
  where
    by : (b : Bool) → (if b then option_and_then (named_by (length w.invitations)) (only_key (entries v.content)) else None) ≡ Some i → i < length w.invitations
    by true at = key_named (length w.invitations) (only_key (entries v.content)) i at
    by false at = absurd (cc)

details_formed : (w : State) (d : DetailsView) → IsInvitation w d → IsFormed w None (details_tree d)
details_formed w d is =
    let installed : d.installation < length w.tables.installations = subst (λ n. n < length w.tables.installations) (sym is.installation) is.handler.installed in
    record {
      objects = (tt, (tt, (installed, (is.handler.made, tt))));
      functions = (tt, (tt, (tt, (tt, tt))));
      named = ((refl, (refl, (refl, tt))), (tt, (tt, (tt, tt))));
      ordered = ((refl, (refl, (tt, tt))), (tt, (tt, (tt, tt))));
      shallow = (omega arith, (tt, (tt, (tt, tt))));
    }

-- ---- instances

halted_facet : (w : State) (x : InstanceView) (s : Standing) → IfSome x.public_facet (IsHanded w) → IfSome (if has_halted s then Some (unwrap_or x.public_facet trees.null) else x.public_facet) (IsHanded w)
halted_facet w x Halted handed = by x.public_facet handed
  where
    by : (o : Option Tree) → IfSome o (IsHanded w) → IsHanded w (unwrap_or o trees.null)
    by (Some t) is = is
    by None is = null_formed w None
halted_facet w x Accepting handed = handed
halted_facet w x Stopped handed = handed

module _ (w : State) (good : IsGoodWorld w) where
  instance_is : (i : ℕ) → i < length w.tables.instances → IsInstance w i (instance_of w i)
  instance_is i made = good.instances.each i made

-- ---- what Zoe tells

issuer_read : (w : State) → IsGoodWorld w → IfOk get_invitation_issuer (IsFormed w None)
unfolding get_invitation_issuer
issuer_read w good = object_formed w None _ good.brands.some

module _ (w : State) (n : ℕ) (args : List Tree) (can : CanCall w None (numbered kinds.Zoe n) args) where
  details_read : IfOk (get_invitation_details w args) (IsFormed w None)
  unfolding get_invitation_details
  details_read = after_step _ _ _ (λ p is. after_wanted _ _ _ _ (λ v held. after_wanted _ _ _ _ (λ i named.
      details_formed w (details_at w.invitations i) (all_read (IsInvitation w) w.invitations i no_details can.good.invitations (invitation_made w _ v i named)))))

  facet_read : IfOk (get_public_facet w args) (IsFormed w None)
  unfolding get_public_facet
  facet_read = after_step _ _ _ (λ i is. if_wanted _ _ _ (λ t at.
      let x = instance_of w i in
      let handed = halted_facet w x x.standing (instance_is w can.good i (instance_made w args i (can.arguments 1) is)).facet in
      subst (λ (o : Option Tree). IfSome o (IsHanded w)) at handed))

  terms_read : IfOk (get_terms w args) (IsFormed w None)
  unfolding get_terms
  terms_read = after_step _ _ _ (λ i is.
      let it = instance_is w can.good i (instance_made w args i (can.arguments 1) is) in
      terms_formed w None can.good (instance_of w i) i it)

  issuers_read : IfOk (get_issuers w args) (IsFormed w None)
  unfolding get_issuers
  issuers_read = after_step _ _ _ (λ i is.
      let it = instance_is w can.good i (instance_made w args i (can.arguments 1) is) in
      formed_here w None _ (issuers_at w None can.good 0 (instance_of w i) i (omega arith) it))

pub issuer_is : IsGoodMethod kinds.Zoe (codes "getInvitationIssuer") (λ w n args. reading get_invitation_issuer)
issuer_is w n args can = reads w None _ (codes "getInvitationIssuer") args get_invitation_issuer refl refl (issuer_read w can.good)

pub details_are : IsGoodMethod kinds.Zoe (codes "getInvitationDetails") (λ w n args. reading (get_invitation_details w args))
details_are w n args can = reads w None _ (codes "getInvitationDetails") args (get_invitation_details w args) refl refl (details_read w n args can)

pub facet_is : IsGoodMethod kinds.Zoe (codes "getPublicFacet") (λ w n args. reading (get_public_facet w args))
facet_is w n args can = reads w None _ (codes "getPublicFacet") args (get_public_facet w args) refl refl (facet_read w n args can)

pub terms_are : IsGoodMethod kinds.Zoe (codes "getTerms") (λ w n args. reading (get_terms w args))
terms_are w n args can = reads w None _ (codes "getTerms") args (get_terms w args) refl refl (terms_read w n args can)

pub issuers_are : IsGoodMethod kinds.Zoe (codes "getIssuers") (λ w n args. reading (get_issuers w args))
issuers_are w n args can = reads w None _ (codes "getIssuers") args (get_issuers w args) refl refl (issuers_read w n args can)

-- ---- the table of methods

module _ (read : TextReader) (gives : ReadsModules read) where
  module _ (w : State) (n : ℕ) (m : List ℕ) (args : List Tree) where
    pub zoe_is : CanCall w None (numbered kinds.Zoe n) args → IsGoodOutcome w None (numbered kinds.Zoe n) m args (of_zoe read w m args)
    zoe_is can =
        let P : List ℕ → Outcome → Type 0 = λ k rule. IsGoodOutcome w None (numbered kinds.Zoe n) k args rule in
        by_method P m (codes "getInvitationIssuer") _ _ (issuer_is w n args can)
        (by_method P m (codes "getInvitationDetails") _ _ (details_are w n args can)
        (by_method P m (codes "getPublicFacet") _ _ (facet_is w n args can)
        (by_method P m (codes "getTerms") _ _ (terms_are w n args can)
        (by_method P m (codes "getIssuers") _ _ (issuers_are w n args can)
        (by_method P m (codes "install") _ _ (install_is read gives w n args can)
        (by_method P m (codes "startInstance") _ _ (start_is w n args can)
        (by_method P m (codes "offer") _ _ (offer_is w n args can) tt)))))))
