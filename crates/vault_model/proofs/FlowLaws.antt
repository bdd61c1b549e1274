-- Lists of movements with the same flows make the same table.
use Rattle.std.specs.Prelude.{◌≡◌, ◌≢◌, ℕ, ◌+◌, Bool, true, false, cond, List, [], ◌∷◌, ◌++◌, refl}
use Rattle.std.proofs.Common.{inl, inr, sym, ◌∙◌, ap, subst, arith}
use Rattle.std.specs.Ordering.{eq_by_cmp}
use Rattle.rights_model.specs.amount_math.Content.{Content, nothing, sum, difference, count, Contains, count-sum, count-difference, count-nothing, same_content}
use Rattle.rights_model.specs.amount_math.Sparse.{at-put, same_key, tied}
use Rattle.rights_model.specs.amount_math.ValueView.{ValueView}
use Rattle.rights_model.specs.amount_math.declared.Kind.{Kind}
use Rattle.rights_model.specs.declared.Holder.{Holder}
use Rattle.rights_model.specs.declared.Holder.TheVariants.{Purse, Payment, Slot, Hand, Outside}
use Rattle.rights_model.specs.declared.Movement.{Movement}
use Rattle.rights_model.specs.Place.{Place, place, place_cmp}
use Rattle.rights_model.specs.Table.{Table, holdings, holds, taken, given, moved, movement, CanMoveAll, table_after}
use Rattle.rights_model.proofs.TableLaws.{holds-given, holds-taken, holds-taken_other, holds-given_other, CanMoveAll-push, same_place, same_table}
use Rattle.vault_model.specs.Flows.{share, came, left, SameFlows, Part, gathered, spread, content_of, whole_of, combined, split_up, IsApart, AreInside}

module _ (t : Table) (b : ℕ) (c : Content) (g : Holder) (e : ℕ) (k : List ℕ) where
  more_there : (q : Place) → count (cond (eq_by_cmp place_cmp (place g e) q) (sum (holds t q.0 q.1) c) (holds t g e)) k ≡ count (holds t g e) k + cond (eq_by_cmp place_cmp (place g e) q) (count c k) 0
  more_there q = elim (eq_by_cmp place_cmp (place g e) q) as (λ x. eq_by_cmp place_cmp (place g e) q ≡ x → count (cond x (sum (holds t q.0 q.1) c) (holds t g e)) k ≡ count (holds t g e) k + cond x (count c k) 0) [
    | true ↦ λ is. count-sum (holds t q.0 q.1) c k ∙ ap (λ (p : Place). count (holds t p.0 p.1) k + count c k) (sym (same_key holdings (place g e) q is))
    | false ↦ λ is. omega arith
  ] refl

  less_there : (q : Place) → Contains (holds t q.0 q.1) c → count (cond (eq_by_cmp place_cmp (place g e) q) (difference (holds t q.0 q.1) c) (holds t g e)) k + cond (eq_by_cmp place_cmp (place g e) q) (count c k) 0 ≡ count (holds t g e) k
  less_there q has = elim (eq_by_cmp place_cmp (place g e) q) as (λ x. eq_by_cmp place_cmp (place g e) q ≡ x → count (cond x (difference (holds t q.0 q.1) c) (holds t g e)) k + cond x (count c k) 0 ≡ count (holds t g e) k) [
    | true ↦ λ is. omega (arith, count-difference (holds t q.0 q.1) c k, has.each k, ap (λ (p : Place). count (holds t p.0 p.1) k) (same_key holdings (place g e) q is))
    | false ↦ λ is. omega arith
  ] refl

  put_more : (h : Holder) → count (holds (given t h b c) g e) k ≡ count (holds t g e) k + share (place g e) k h b c
  unfolding given
  put_more Outside = omega arith
  put_more (Purse n) = ap (λ x. count x k) (at-put holdings t (Purse n, b) _ (g, e)) ∙ more_there (place (Purse n) b)
  put_more (Payment n) = ap (λ x. count x k) (at-put holdings t (Payment n, b) _ (g, e)) ∙ more_there (place (Payment n) b)
  put_more (Slot s w) = ap (λ x. count x k) (at-put holdings t (Slot s w, b) _ (g, e)) ∙ more_there (place (Slot s w) b)
  put_more Hand = ap (λ x. count x k) (at-put holdings t (Hand, b) _ (g, e)) ∙ more_there (place Hand b)

  take_less : (h : Holder) → (h ≢ Outside → Contains (holds t h b) c) → count (holds (taken t h b c) g e) k + share (place g e) k h b c ≡ count (holds t g e) k
  unfolding taken
  take_less Outside has = omega arith
  take_less (Purse n) has = ap (λ x. count x k + share (place g e) k (Purse n) b c) (at-put holdings t (Purse n, b) _ (g, e)) ∙ less_there (place (Purse n) b) (has (λ is. cc))
  take_less (Payment n) has = ap (λ x. count x k + share (place g e) k (Payment n) b c) (at-put holdings t (Payment n, b) _ (g, e)) ∙ less_there (place (Payment n) b) (has (λ is. cc))
  take_less (Slot s w) has = ap (λ x. count x k + share (place g e) k (Slot s w) b c) (at-put holdings t (Slot s w, b) _ (g, e)) ∙ less_there (place (Slot s w) b) (has (λ is. cc))
  take_less Hand has = ap (λ x. count x k + share (place g e) k Hand b c) (at-put holdings t (Hand, b) _ (g, e)) ∙ less_there (place Hand b) (has (λ is. cc))

-- what a place has after movements, and what left it, is what it had and what came
pub flows : (t : Table) (ms : List Movement) → CanMoveAll t ms → (g : Holder) (e : ℕ) (k : List ℕ) → count (holds (table_after t ms) g e) k + left (place g e) k ms ≡ count (holds t g e) k + came (place g e) k ms
flows t [] can g e k = refl
flows t (m ∷ ms) can g e k = omega (
  arith,
  flows (moved t m) ms can.1 g e k,
  put_more (taken t m.from m.brand m.value.content) m.brand m.value.content g e k m.to,
  take_less t m.brand m.value.content g e k m.from can.0.has,
)

-- two lists that can be made and have the same flows make the same table
pub same_flows : (t : Table) (ms ns : List Movement) → CanMoveAll t ms → CanMoveAll t ns → SameFlows ms ns → table_after t ms ≡ table_after t ns
same_flows t ms ns can also same = same_table _ _ (λ g e. same_content _ _ (λ k. omega (arith, flows t ms can g e k, flows t ns also g e k, same.each (place g e) k)))

-- ---- parts

one_share : (x : Bool) (c d : Content) (k : List ℕ) → cond x (count (sum c d) k) 0 ≡ cond x (count c k) 0 + cond x (count d k) 0
one_share true c d k = count-sum c d k
one_share false c d k = refl

no_share : (x : Bool) (k : List ℕ) → cond x (count nothing k) 0 ≡ 0
no_share true k = count-nothing k
no_share false k = refl

module _ (p : Place) (k : List ℕ) (b : ℕ) where
  pub share-sum : (h : Holder) (c d : Content) → share p k h b (sum c d) ≡ share p k h b c + share p k h b d
  share-sum Outside c d = refl
  share-sum (Purse n) c d = one_share _ c d k
  share-sum (Payment n) c d = one_share _ c d k
  share-sum (Slot s w) c d = one_share _ c d k
  share-sum Hand c d = one_share _ c d k

  share-nothing : (h : Holder) → share p k h b nothing ≡ 0
  share-nothing Outside = refl
  share-nothing (Purse n) = no_share _ k
  share-nothing (Payment n) = no_share _ k
  share-nothing (Slot s w) = no_share _ k
  share-nothing Hand = no_share _ k

  pub came-append : (ms ns : List Movement) → came p k (ms ++ ns) ≡ came p k ms + came p k ns
  came-append [] ns = omega arith
  came-append (m ∷ ms) ns = omega (arith, came-append ms ns)

  pub left-append : (ms ns : List Movement) → left p k (ms ++ ns) ≡ left p k ms + left p k ns
  left-append [] ns = omega arith
  left-append (m ∷ ms) ns = omega (arith, left-append ms ns)

  pub came_gathered : (to : Holder) (ps : List Part) → came p k (gathered b to ps) ≡ share p k to b (content_of ps)
  came_gathered to [] = sym (share-nothing to)
  came_gathered to (q ∷ qs) = omega (arith, came_gathered to qs, share-sum to q.1.content (content_of qs))

  pub left_gathered : (to other : Holder) (ps : List Part) → left p k (gathered b to ps) ≡ left p k (gathered b other ps)
  left_gathered to other [] = refl
  left_gathered to other (q ∷ qs) = omega (arith, left_gathered to other qs)

  pub left_spread : (from : Holder) (ps : List Part) → left p k (spread b from ps) ≡ share p k from b (content_of ps)
  left_spread from [] = sym (share-nothing from)
  left_spread from (q ∷ qs) = omega (arith, left_spread from qs, share-sum from q.1.content (content_of qs))

  pub came_spread : (from other : Holder) (ps : List Part) → came p k (spread b from ps) ≡ came p k (spread b other ps)
  came_spread from other [] = refl
  came_spread from other (q ∷ qs) = omega (arith, came_spread from other qs)

-- what is written of a combination and what is done by way of the hand have the same flows, and so has a split
pub combine_same : (b : ℕ) (kind : Kind) (to : Holder) (ps : List Part) → SameFlows (gathered b to ps) (combined b kind to ps)
combine_same b kind to ps = record {
  each = λ p k. omega (
    arith,
    came_gathered p k b to ps,
    came_gathered p k b Hand ps,
    left_gathered p k b to Hand ps,
    came-append p k b (gathered b Hand ps) (movement b Hand to (whole_of kind ps) ∷ []),
    left-append p k b (gathered b Hand ps) (movement b Hand to (whole_of kind ps) ∷ []),
  );
}

pub split_same : (b : ℕ) (kind : Kind) (from : Holder) (ps : List Part) → SameFlows (spread b from ps) (split_up b kind from ps)
split_same b kind from ps = record {
  each = λ p k. omega (
    arith,
    left_spread p k b from ps,
    left_spread p k b Hand ps,
    came_spread p k b from Hand ps,
  );
}

-- ---- where what is written can be made, so can what is done

module _ (b : ℕ) (to other : Holder) where
  -- holders that are not given to have the same
  pub record SameSources (t u : Table) : Type 0 where
    pub each : (q : Holder) → q ≢ to → q ≢ other → holds t q b ≡ holds u q b

  same_taken : (t u : Table) (n q : Holder) (c : Content) → n ≢ Outside → holds t n b ≡ holds u n b → holds t q b ≡ holds u q b → holds (taken t n b c) q b ≡ holds (taken u n b c) q b
  same_taken t u n q c inside same also = elim (same_place q n b b) [
    | inl is ↦
        ap (λ (p : Place). holds (taken t n b c) p.0 p.1) is
        ∙ holds-taken t b c n inside ∙ ap (λ x. difference x c) same ∙ sym (holds-taken u b c n inside)
        ∙ sym (ap (λ (p : Place). holds (taken u n b c) p.0 p.1) is)
    | inr apart ↦ holds-taken_other t b c n q b apart ∙ also ∙ sym (holds-taken_other u b c n q b apart)
  ]

  not_there : (q h : Holder) → q ≢ h → place q b ≢ place h b
  not_there q h differs is = differs (ap (λ (p : Place). p.0) is)

  -- whether parts can be gathered rests on their holders alone, so it matters not where they go
  pub can_elsewhere : (t u : Table) (ps : List Part) → SameSources t u → AreInside ps → IsApart to ps → IsApart other ps → CanMoveAll t (gathered b to ps) → CanMoveAll u (gathered b other ps)
  can_elsewhere t u [] same inside a o can = tt
  can_elsewhere t u (p ∷ ps) same inside a o can = (
    record { has = λ out. subst (λ (x : Content). Contains x p.1.content) (same.each p.0 a.0 o.0) (can.0.has out) },
    can_elsewhere (moved t (movement b p.0 to p.1)) (moved u (movement b p.0 other p.1)) ps (record {
      each = λ q qt qo.
          holds-given_other (taken t p.0 b p.1.content) b p.1.content to q b (not_there q to qt)
          ∙ same_taken t u p.0 q p.1.content inside.0 (same.each p.0 a.0 o.0) (same.each q qt qo)
          ∙ sym (holds-given_other (taken u p.0 b p.1.content) b p.1.content other q b (not_there q other qo));
    }) inside.1 a.1 o.1 can.1,
  )

module _ (k : List ℕ) (b : ℕ) (c : Content) where
  at_hand : share (place Hand b) k Hand b c ≡ count c k
  at_hand = ap (λ x. cond x (count c k) 0) (tied holdings (place Hand b))

  elsewhere : (h : Holder) → h ≢ Hand → (x : Bool) → eq_by_cmp place_cmp (place Hand b) (place h b) ≡ x → ◌≡◌ {A = ℕ} (cond x (count c k) 0) 0
  elsewhere h apart true is = absurd (apart (sym (ap (λ (p : Place). p.0) (same_key holdings (place Hand b) (place h b) is))))
  elsewhere h apart false is = refl

  none_at_hand : (h : Holder) → h ≢ Hand → share (place Hand b) k h b c ≡ 0
  none_at_hand Outside apart = refl
  none_at_hand (Purse n) apart = elsewhere (Purse n) apart _ refl
  none_at_hand (Payment n) apart = elsewhere (Payment n) apart _ refl
  none_at_hand (Slot s w) apart = elsewhere (Slot s w) apart _ refl
  none_at_hand Hand apart = absurd (apart refl)

left_hand : (k : List ℕ) (b : ℕ) (to : Holder) (ps : List Part) → IsApart Hand ps → left (place Hand b) k (gathered b to ps) ≡ 0
left_hand k b to [] apart = refl
left_hand k b to (p ∷ ps) apart = omega (arith, none_at_hand k b p.1.content p.0 apart.0, left_hand k b to ps apart.1)

module _ (t : Table) (b : ℕ) (kind : Kind) (to : Holder) (ps : List Part) (inside : AreInside ps) (apart : IsApart to ps) (hands : IsApart Hand ps) where
  pub combine_can : CanMoveAll t (gathered b to ps) → CanMoveAll t (combined b kind to ps)
  combine_can can =
      let can_in : CanMoveAll t (gathered b Hand ps) = can_elsewhere b to Hand t t ps (record { each = λ q qt qo. refl }) inside apart hands can in
      CanMoveAll-push t (gathered b Hand ps) (movement b Hand to (whole_of kind ps)) can_in (record {
        has = λ out. record {
          each = λ k. omega (arith, flows t (gathered b Hand ps) can_in Hand b k, came_gathered (place Hand b) k b Hand ps, at_hand k b (content_of ps), left_hand k b Hand ps hands);
        };
      })

  -- what is written and what is done make the same table
  pub combine_law : CanMoveAll t (gathered b to ps) → table_after t (gathered b to ps) ≡ table_after t (combined b kind to ps)
  combine_law can = same_flows t (gathered b to ps) (combined b kind to ps) can (combine_can can) (combine_same b kind to ps)

-- ---- a split by way of the hand

apart_there : (h : Holder) (b : ℕ) → h ≢ Hand → place Hand b ≢ place h b
apart_there h b apart is = apart (sym (ap (λ (p : Place). p.0) is))

hand_less : (t : Table) (b : ℕ) (h : Holder) (w : ValueView) → h ≢ Hand → holds (moved t (movement b Hand h w)) Hand b ≡ difference (holds t Hand b) w.content
hand_less t b h w apart = holds-given_other (taken t Hand b w.content) b w.content h Hand b (apart_there h b apart) ∙ holds-taken t b w.content Hand (λ is. cc)

-- what the hand has can be spread
spread_can : (t : Table) (b : ℕ) (ps : List Part) → IsApart Hand ps → Contains (holds t Hand b) (content_of ps) → CanMoveAll t (spread b Hand ps)
spread_can t b [] apart has = tt
spread_can t b (p ∷ ps) apart has = (
  record { has = λ inside. record { each = λ k. omega (arith, has.each k, count-sum p.1.content (content_of ps) k) } },
  spread_can (moved t (movement b Hand p.0 p.1)) b ps apart.1 (record {
    each = λ k. omega (
      arith,
      has.each k,
      count-sum p.1.content (content_of ps) k,
      ap (λ x. count x k) (hand_less t b p.0 p.1 apart.0),
      count-difference (holds t Hand b) p.1.content k,
    );
  }),
)

module _ (t : Table) (b : ℕ) (kind : Kind) (from : Holder) (ps : List Part) (hands : IsApart Hand ps) (has : Contains (holds t from b) (content_of ps)) where
  pub split_can : CanMoveAll t (split_up b kind from ps)
  split_can = (
    record { has = λ inside. has },
    spread_can (moved t (movement b from Hand (whole_of kind ps))) b ps hands (record {
      each = λ k. omega (
        arith,
        ap (λ x. count x k) (holds-given (taken t from b (content_of ps)) b (content_of ps) Hand (λ is. cc)),
        count-sum (holds (taken t from b (content_of ps)) Hand b) (content_of ps) k,
      );
    }),
  )

  -- what is written of a split and what is done make the same table
  pub split_law : CanMoveAll t (spread b from ps) → table_after t (spread b from ps) ≡ table_after t (split_up b kind from ps)
  split_law can = same_flows t (spread b from ps) (split_up b kind from ps) can split_can (split_same b kind from ps)
