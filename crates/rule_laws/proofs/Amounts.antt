-- Amounts, issuers and brands under keywords, as records that a caller may hold.
use Rattle.std.specs.List.{AllByRecursion}
use Rattle.std.proofs.Common.{◌≡◌, ℕ, ◌+◌, ◌<◌, cond, true, false, Bool, Option, Some, None, List, [], ◌∷◌, length, refl, sym, ◌∙◌, arith}
use Rattle.std.specs.Str.{bytes_eq}
use Rattle.world_laws.specs.amount_math.declared.Amount.{Amount}
use Rattle.world_laws.specs.amount_math.declared.Kind.{Kind}
use Rattle.world_laws.specs.brands.IssuerRecords.{brand_under}
use Rattle.world_laws.specs.brands.IssuerRecords as issuers
use Rattle.world_laws.specs.brands.declared.issuer_record.Issuer.{Issuer}
use Rattle.world_laws.specs.host_data.Values.{amount_tree, value_tree}
use Rattle.rule_laws.proofs.Forms.{content_each}
use Rattle.rules.specs.Records.{allocation_tree, amount_fields, object_fields}
use Rattle.world_laws.specs.host_data.Nodes.{FunctionIs, HasFieldsInOrder, IsShallow, NodeFact, ObjectIs}
use Rattle.world_laws.specs.host_data.Tree.{Tree}
use Rattle.world_laws.specs.host_data.declared.data.ObjKind.TheVariants as kinds
use Rattle.rules.specs.proposals.Shares.{AreApart, amount_under}
use Rattle.rules.specs.proposals.declared.allocations.Share.{Share}
use Rattle.world_laws.specs.world_state.Good.{AreNamed, AreSharesOf, IsGoodWorld, IsIssuer}
use Rattle.world_laws.specs.world_state.Known.{FunctionKnown, HasNames, IsBrand, ObjectKnown}
use Rattle.world_laws.specs.world_state.Worlds.{State}
use Rattle.rule_laws.proofs.Fields.{AreFormed, FormedAt, HasNoField, keyword_named, no_field_placed, no_fields_formed, other_name, placed_formed, record_formed}

skipped : {X : Type 0} (b : Bool) (x : X) (o : Option X) → cond b (Some x) o ≡ None → (b ≡ false) × (o ≡ None)
skipped true x o h = absurd (cc)
skipped false x o h = (refl, h)

-- ---- amounts

-- a brand that was made is known to anyone
pub brand_known : (w : State) (h : Option ℕ) (kind : Kind) (b : ℕ) → IsBrand w.brands kind b → ObjectKnown h w (record { kind = kinds.Brand kind; number = b })
brand_known w None kind b is = is
brand_known w (Some i) kind b is = is

amount_at : (w : State) (h : Option ℕ) (d : ℕ) (a : Amount) → d + 3 < 32 → IsBrand w.brands a.value.kind a.brand → FormedAt w h d (amount_tree a)
unfolding amount_tree value_tree
amount_at w h d a low is =
    let known = brand_known w h a.value.kind a.brand is in
    let objects : NodeFact = ObjectIs (ObjectKnown h w) in
    let functions : NodeFact = FunctionIs (FunctionKnown h w) in
    let content_low : d + 1 + 1 < 32 = omega (arith, low) in
    record {
      objects = (tt, (known, (content_each objects (λ n z. tt) (λ n t. tt) (λ n ts under. tt) (d + 1) content_low a.value.kind a.value.content, tt)));
      functions = (tt, (tt, (content_each functions (λ n z. tt) (λ n t. tt) (λ n ts under. tt) (d + 1) content_low a.value.kind a.value.content, tt)));
      named = ((refl, (refl, tt)), (tt, (content_each HasNames (λ n z. tt) (λ n t. tt) (λ n ts under. tt) (d + 1) content_low a.value.kind a.value.content, tt)));
      ordered = ((refl, (tt, tt)), (tt, (content_each HasFieldsInOrder (λ n z. tt) (λ n t. tt) (λ n ts under. tt) (d + 1) content_low a.value.kind a.value.content, tt)));
      shallow = (omega (arith, low), (tt, (content_each (IsShallow 32) (λ n z. tt) (λ n t. tt) (λ n ts under. under) (d + 1) content_low a.value.kind a.value.content, tt)));
    }

no_amount_under : (k : List ℕ) (rs : List Share) → amount_under k rs ≡ None → HasNoField k (amount_fields rs)
no_amount_under k [] none = tt
no_amount_under k (r ∷ rs) none =
    let both = skipped (bytes_eq k r.keyword) r.amount (amount_under k rs) none in
    no_field_placed k r.keyword (amount_tree r.amount) (amount_fields rs) (other_name k r.keyword both.0) (no_amount_under k rs both.1)

module _ (w : State) (h : Option ℕ) (good : IsGoodWorld w) where
  amounts_formed : (d : ℕ) (rs : List Share) → d + 3 < 32 → AreApart rs → AreNamed rs → AreSharesOf w.rights.out rs → AreFormed w h d (amount_fields rs)
  amounts_formed d [] low apart named kinds_are = no_fields_formed w h d
  amounts_formed d (r ∷ rs) low apart named kinds_are =
      let known : IsBrand w.brands r.amount.value.kind r.amount.brand = record { made = omega (arith, kinds_are.0.made, good.brands.supplies); kind_is = sym (good.brands.kinds r.amount.brand) ∙ kinds_are.0.kind } in
      placed_formed w h d r.keyword (amount_tree r.amount) (amount_fields rs) (keyword_named r.keyword named.0) (no_amount_under r.keyword rs apart.0)
      (amount_at w h d r.amount low known) (amounts_formed d rs low apart.1 named.1 kinds_are.1)

  pub allocation_formed : (d : ℕ) (rs : List Share) → d + 4 < 32 → AreApart rs → AreNamed rs → AreSharesOf w.rights.out rs → FormedAt w h d (allocation_tree rs)
  allocation_formed d rs low apart named kinds_are =
      record_formed w h d (amount_fields rs) (omega (arith, low)) (amounts_formed (d + 1) rs (omega (arith, low)) apart named kinds_are)

-- ---- issuers and brands

no_brand_under : (seen : ℕ → Tree) (k : List ℕ) (is : List Issuer) → brand_under k is ≡ None → HasNoField k (object_fields seen is)
no_brand_under seen k [] none = tt
no_brand_under seen k (i ∷ is) none =
    let both = skipped (bytes_eq k i.keyword) i.brand (brand_under k is) none in
    no_field_placed k i.keyword (seen i.brand) (object_fields seen is) (other_name k i.keyword both.0) (no_brand_under seen k is both.1)

pub objects_formed : (w : State) (h : Option ℕ) (d : ℕ) (seen : ℕ → Tree) → ((b : ℕ) → b < length w.brands → FormedAt w h d (seen b)) → (is : List Issuer) → issuers.AreApart is → AllByRecursion (IsIssuer w) is → AreFormed w h d (object_fields seen is)
objects_formed w h d seen each [] apart all = no_fields_formed w h d
objects_formed w h d seen each (i ∷ is) apart all =
    placed_formed w h d i.keyword (seen i.brand) (object_fields seen is) (keyword_named i.keyword all.0.named) (no_brand_under seen i.keyword is apart.0)
    (each i.brand all.0.made) (objects_formed w h d seen each is apart.1 all.1)
