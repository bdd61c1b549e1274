-- What a put in a map changes of instances.
use Rattle.std.proofs.Common.{◌≡◌, ℕ, ◌<◌, List, Bool, true, false, cond, eqb, Some, option_map, is_some, refl, sym, ap, ◌∙◌, arith, Vec, Global}
use Rattle.std.proofs.lemmas.Bool.{eq-eqb, eqb-true}
use Rattle.std.specs.BTreeMap.{is_at}
use Rattle.std.specs.Cmp.{unsigned_tied}
use Rattle.std.specs.Option.{option_map_or}
use Rattle.std.specs.Ordering.{nat_cmp}
use Rattle.turn_stores.specs.UndoTurns.{value_at}
use Rattle.promise_store.specs.host_data.View.{tree, trees}
use Rattle.promise_store.specs.host_data.declared.data.Data.{Data}
use Rattle.brands.specs.declared.issuer_record.Issuer.{Issuer}
use Rattle.actors.specs.Changes.{ChangesView, IsBelow, instance_view, instances_view}
use Rattle.actors.specs.Tables.{changed_at, no_instance}
use Rattle.actors.specs.declared.instance_store.instance.Instance.{Instance}
use Rattle.actors.specs.declared.instance_store.instance.Standing.{Standing}
use Rattle.actors.specs.declared.instance_store.instance.Standing.TheVariants.{Accepting}
use Rattle.actors.proofs.Numbered.{numbered_changed}

eqb_other : (a b : ℕ) → (b ≡ a → ⊥) → eqb a b ≡ false
eqb_other a b h = by (eqb a b) refl
  where
    by : (r : Bool) → eqb a b ≡ r → eqb a b ≡ false
    by true e = absurd (h (sym (eqb-true a b e)))
    by false e = e

module _ {V : Type 0} where
  -- new is old with v at n
  abbrev pub IsPut : ℕ → V → List (ℕ × V) → List (ℕ × V) → Type 0
  IsPut n v old new = (q : ℕ) → value_at nat_cmp new q ≡ cond (is_at (nat_cmp n) q) (Some v) (value_at nat_cmp old q)

  module _ (n : ℕ) (v : V) (old new : List (ℕ × V)) (put : IsPut n v old new) where
    pub put_here : value_at nat_cmp new n ≡ Some v
    put_here = put n ∙ ap (λ b. cond b (Some v) (value_at nat_cmp old n)) (unsigned_tied n n ∙ eq-eqb n n refl)

    pub put_elsewhere : (q : ℕ) → (q ≡ n → ⊥) → value_at nat_cmp new q ≡ value_at nat_cmp old q
    put_elsewhere q h = put q ∙ ap (λ b. cond b (Some v) (value_at nat_cmp old q)) (unsigned_tied n q ∙ eqb_other n q h)

    pub below_put : (k : ℕ) → n < k → IsBelow k old → IsBelow k new
    below_put k h below = λ q l. let other : q ≡ n → ⊥ = λ e. omega (arith, e, l, h) in ap is_some (put_elsewhere q other) ∙ below q l

module _ (c : ChangesView) (n : ℕ) (is : List Instance) where
  pub issuers_put : (v : List Issuer) (es : List (ℕ × List Issuer)) → IsPut n v c.issuers es
      → instances_view (record c { issuers = es }) is ≡ changed_at n (λ i. record i { issuers = v }) (instances_view c is)
  issuers_put v es put =
      numbered_changed (instance_view c) (instance_view (record c { issuers = es })) n (λ i. record i { issuers = v }) no_instance
      (λ x j. record (instance_view c n x) { issuers = option_map_or (λ y. y) (put_here n v c.issuers es put j) x.issuers })
      (λ q x h j. record (instance_view c q x) { issuers = option_map_or (λ y. y) (put_elsewhere n v c.issuers es put q h j) x.issuers })
      0 n is (omega arith)

  pub public_facet_put : (v : Data) (es : List (ℕ × Data)) → IsPut n v c.public_facets es
      → instances_view (record c { public_facets = es }) is ≡ changed_at n (λ i. record i { public_facet = Some (tree v) }) (instances_view c is)
  public_facet_put v es put =
      numbered_changed (instance_view c) (instance_view (record c { public_facets = es })) n (λ i. record i { public_facet = Some (tree v) }) no_instance
      (λ x j. record (instance_view c n x) { public_facet = option_map tree (put_here n v c.public_facets es put j) })
      (λ q x h j. record (instance_view c q x) { public_facet = option_map tree (put_elsewhere n v c.public_facets es put q h j) })
      0 n is (omega arith)

  pub standing_put : (v : Standing) (es : List (ℕ × Standing)) → IsPut n v c.standings es
      → instances_view (record c { standings = es }) is ≡ changed_at n (λ i. record i { standing = v }) (instances_view c is)
  standing_put v es put =
      numbered_changed (instance_view c) (instance_view (record c { standings = es })) n (λ i. record i { standing = v }) no_instance
      (λ x j. record (instance_view c n x) { standing = option_map_or (λ y. y) (put_here n v c.standings es put j) Accepting })
      (λ q x h j. record (instance_view c q x) { standing = option_map_or (λ y. y) (put_elsewhere n v c.standings es put q h j) Accepting })
      0 n is (omega arith)

  pub state_put : (v : Vec Data Global) (es : List (ℕ × Vec Data Global)) → IsPut n v c.states es
      → instances_view (record c { states = es }) is ≡ changed_at n (λ i. record i { state = trees v.items }) (instances_view c is)
  state_put v es put =
      numbered_changed (instance_view c) (instance_view (record c { states = es })) n (λ i. record i { state = trees v.items }) no_instance
      (λ x j. record (instance_view c n x) { state = trees (option_map_or (λ y. y) (put_here n v c.states es put j) x.state).items })
      (λ q x h j. record (instance_view c q x) { state = trees (option_map_or (λ y. y) (put_elsewhere n v c.states es put q h j) x.state).items })
      0 n is (omega arith)
