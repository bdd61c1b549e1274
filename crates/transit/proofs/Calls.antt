-- The calls of the two parts: what they ask for, and what they make of the whole.
use Rattle.std.proofs.Common.{◌≡◌, ℕ, ◌+◌, ◌-◌, ◌<◌, List, [], ◌∷◌, ◌++◌, length, take, sym, ◌∙◌, ap, subst, arith}
use Rattle.std.specs.Prelude.{slice_set, ◌≤◌}
use Rattle.ertp_mint.specs.amount_math.Content.{Contains, count, count-difference, difference, difference-nothing, nothing, sum, sum-nothing}
use Rattle.ertp_mint.specs.amount_math.Counted.{counted, counted-difference, counted-nothing}
use Rattle.ertp_mint.specs.amount_math.Held.{Held, GoesIn, ComesOut, HasRoom, with_less, with_more}
use Rattle.ertp_mint.specs.amount_math.ValueView.{ValueView, Fits, keys_of, with_content}
use Rattle.ertp_mint.specs.amount_math.declared.PutFault.{PutFault}
use Rattle.ertp_mint.specs.amount_math.declared.Kind.{Kind}
use Rattle.ertp_mint.specs.amount_math.declared.Kind.TheVariants.{Nat}
use Rattle.ertp_mint.specs.BrandSupply.{BrandSupply, IsMintRefusal, MayIssue}
use Rattle.ertp_mint.specs.Circulating.{CanReturn, IsOut, CirculationView, circulation_at, new_circulation, unretired, with_forgotten, with_issued, with_retired, with_unissued, with_unretired}
use Rattle.lemmas.proofs.ListEdits.{length_set, read_set}
use Rattle.transit.specs.Transit.{AreKept, CanHold, IsInStore, IsKept, IsOnItsWay, TransitView, empty_hand, held_at, whole_of, wholes, with_hand, with_out}
use Rattle.transit.proofs.Wholes.{forgotten_circulation, held_circulation, issued_circulation, let_go_circulation, retired_circulation, unissued_circulation, unretired_circulation, wholes-kept, wholes-length, wholes-push, wholes-read, wholes-take, wholes-roomed, wholes-set_out}
use Rattle.transit.proofs.Keeping.{can_let_go, can_return, can_return_part, fits_hand, kept_forgotten, kept_held, kept_issued, kept_let_go, kept_push, kept_retired, kept_take, kept_set, kept_set_hand, kept_set_out, kept_unissued, kept_unretired, on_its_way}

-- what is worked backwards of nothing leaves all as it was
unretired_none : (s : BrandSupply) → unretired s nothing ≡ s
unretired_none s = λ i. record { outstanding = with_content s.outstanding (sum-nothing s.outstanding.content i); minted = s.minted; burned = none i }
  where
    none : s.burned - counted nothing ≡ s.burned
    none = omega (arith, counted-nothing)

module _ (out : List CirculationView) (hand : List Held) (are : AreKept out hand) where
  abbrev pub view : TransitView
  view = record { out = wholes out hand; hand = hand }

  pub made : (b : ℕ) → b < length (wholes out hand) → b < length out
  made b lt = omega (arith, lt, wholes-length out hand)

  pub made_too : (b : ℕ) → b < length (wholes out hand) → b < length hand
  made_too b lt = omega (arith, lt, wholes-length out hand, are.same)

  module _ (b : ℕ) (lt : b < length (wholes out hand)) where
    abbrev x : CirculationView
    x = circulation_at out b

    abbrev h : Held
    h = held_at hand b

    abbrev whole : CirculationView
    whole = circulation_at (wholes out hand) b

    pub reads : whole ≡ whole_of x h.value.content
    reads = wholes-read out hand b are.same (made b lt)

    pub is : IsKept x h
    is = are.each b (made b lt)

    -- a change of what is out
    changed_view : (f : CirculationView → CirculationView) → whole_of (f x) h.value.content ≡ f (whole_of x h.value.content) → (l : List CirculationView) → l ≡ slice_set out b (f x) → ◌≡◌ {A = TransitView} (record { out = wholes l hand; hand = hand }) (with_out view b (f whole))
    changed_view f eq l new = ap (λ m. record { out = m; hand = hand })
        (ap (λ m. wholes m hand) new ∙ wholes-set_out out hand b are.same (made b lt) (f x) ∙ ap (slice_set (wholes out hand) b) (eq ∙ ap f (sym reads)))

    module _ (w : ValueView) where
      whole_has : Contains whole.supply.outstanding.content (sum h.value.content w.content) → Contains x.supply.outstanding.content w.content
      whole_has has = on_its_way x h w is (subst (λ (y : CirculationView). Contains y.supply.outstanding.content (sum h.value.content w.content)) reads has)

      pub kind_there : whole.supply.outstanding.kind ≡ w.kind → x.supply.outstanding.kind ≡ w.kind
      kind_there same = ap (λ (y : CirculationView). y.supply.outstanding.kind) (sym reads) ∙ same

      -- what is on its way is out
      pub way_out : IsOnItsWay view (record { brand = b; value = w }) → IsOut x w
      way_out way = record { kind = kind_there way.kind; has = whole_has way.has }

      pub retire_keeps : IsOnItsWay view (record { brand = b; value = w }) → (l : List CirculationView) → l ≡ slice_set out b (with_retired x w.content) → AreKept l hand
      retire_keeps way l new = subst (λ m. AreKept m hand) (sym new) (kept_set_out out hand are b _ (made b lt) (kept_retired x h w is (whole_has way.has)))

      pub retire_view : IsOnItsWay view (record { brand = b; value = w }) → (l : List CirculationView) → l ≡ slice_set out b (with_retired x w.content) → ◌≡◌ {A = TransitView} (record { out = wholes l hand; hand = hand }) (with_out view b (with_retired whole w.content))
      retire_view way l new = changed_view (λ y. with_retired y w.content) (retired_circulation x h.value.content w.content is.burned is.kept (whole_has way.has)) l new

      pub unissue_keeps : IsOnItsWay view (record { brand = b; value = w }) → (l : List CirculationView) → l ≡ slice_set out b (with_unissued x w.content) → AreKept l hand
      unissue_keeps way l new = subst (λ m. AreKept m hand) (sym new) (kept_set_out out hand are b _ (made b lt) (kept_unissued x h w is (whole_has way.has)))

      pub unissue_view : IsOnItsWay view (record { brand = b; value = w }) → (l : List CirculationView) → l ≡ slice_set out b (with_unissued x w.content) → ◌≡◌ {A = TransitView} (record { out = wholes l hand; hand = hand }) (with_out view b (with_unissued whole w.content))
      unissue_view way l new = changed_view (λ y. with_unissued y w.content) (unissued_circulation x h.value.content w.content (whole_has way.has)) l new

      -- what comes back was burned beside what the hand's store has
      both_burned : CanReturn whole w → counted x.kept ≤ x.supply.burned → counted w.content + counted h.value.content ≤ x.supply.burned
      both_burned can burned =
          let kept = (subst (λ y. CanReturn y w) reads can).kept in
          omega (arith, burned, counted-difference x.kept h.value.content is.kept, counted-difference (difference x.kept h.value.content) w.content kept)

      -- a retirement worked backwards
      pub return_part : CanReturn whole w → CanReturn x w
      return_part can = can_return_part x h w is (subst (λ y. CanReturn y w) reads can)

      pub unretire_keeps : CanReturn whole w → counted x.kept ≤ x.supply.burned → (l : List CirculationView) → l ≡ slice_set out b (with_unretired x w.content) → AreKept l hand
      unretire_keeps can burned l new = subst (λ m. AreKept m hand) (sym new) (kept_set_out out hand are b _ (made b lt) (kept_unretired x h w is (subst (λ y. CanReturn y w) reads can) (both_burned can burned)))

      -- a value kept no longer
      pub forget_part : Contains whole.kept w.content → Contains x.kept w.content
      forget_part has = record { each = λ k. omega (arith, count-difference x.kept h.value.content k, (subst (λ (y : CirculationView). Contains y.kept w.content) reads has).each k) }

      pub forget_keeps : Contains whole.kept w.content → (l : List CirculationView) → l ≡ slice_set out b (with_forgotten x w.content) → AreKept l hand
      forget_keeps has l new = subst (λ m. AreKept m hand) (sym new) (kept_set_out out hand are b _ (made b lt) (kept_forgotten x h w is (subst (λ (y : CirculationView). Contains y.kept w.content) reads has)))

      pub forget_view : (l : List CirculationView) → l ≡ slice_set out b (with_forgotten x w.content) → ◌≡◌ {A = TransitView} (record { out = wholes l hand; hand = hand }) (with_out view b (with_forgotten whole w.content))
      forget_view l new = changed_view (λ y. with_forgotten y w.content) (forgotten_circulation x h.value.content w.content) l new

      pub unretire_view : (l : List CirculationView) → l ≡ slice_set out b (with_unretired x w.content) → ◌≡◌ {A = TransitView} (record { out = wholes l hand; hand = hand }) (with_out view b (with_unretired whole w.content))
      unretire_view l new = changed_view (λ y. with_unretired y w.content) (unretired_circulation x h.value.content w.content) l new

      -- what is held, and what is let go
      pub goes_in : CanHold view (record { brand = b; value = w }) → GoesIn h w
      goes_in can = record {
        kind = sym is.kind ∙ kind_there can.way.kind;
        fits = fits_hand x h w is (subst (λ (y : CirculationView). Contains y.supply.outstanding.content (sum h.value.content w.content)) reads can.way.has);
        room = subst (λ k. HasRoom k (keys_of (sum h.value.content w.content)) h.room) (sym (sym is.kind ∙ kind_there can.way.kind)) can.room;
      }

      pub hold_keeps : IsOnItsWay view (record { brand = b; value = w }) → (l : List CirculationView) (hs : List Held) → l ≡ slice_set out b (with_retired x w.content) → hs ≡ slice_set hand b (with_more h w.content) → AreKept l hs
      hold_keeps way l hs new also = subst (λ m. AreKept m hs) (sym new) (subst (λ m. AreKept (slice_set out b (with_retired x w.content)) m) (sym also)
          (kept_set out hand are b _ _ (made b lt) (kept_held x h w is (whole_has way.has))))

      pub hold_view : IsOnItsWay view (record { brand = b; value = w }) → (l : List CirculationView) (hs : List Held) → l ≡ slice_set out b (with_retired x w.content) → hs ≡ slice_set hand b (with_more h w.content) → ◌≡◌ {A = TransitView} (record { out = wholes l hs; hand = hs }) (with_hand view b (with_more h w.content))
      hold_view way l hs new also = (λ i. record { out = wholes (new i) (also i); hand = also i })
          ∙ ap (λ m. record { out = m; hand = slice_set hand b (with_more h w.content) })
          (wholes-kept out hand b are.same (made b lt) (with_retired x w.content) (with_more h w.content) (held_circulation x h.value.content w.content (whole_has way.has)))

      pub comes_out : IsInStore view b w → ComesOut h w
      comes_out there = record { kind = sym is.kind ∙ kind_there there.kind; has = there.has }

      pub go_part : IsInStore view b w → CanReturn x w
      go_part there = can_let_go x h w is (sym is.kind ∙ kind_there there.kind) there.has

      pub go_keeps : IsInStore view b w → (l : List CirculationView) (hs : List Held) → l ≡ slice_set out b (with_unretired x w.content) → hs ≡ slice_set hand b (with_less h w.content) → AreKept l hs
      go_keeps there l hs new also = subst (λ m. AreKept m hs) (sym new) (subst (λ m. AreKept (slice_set out b (with_unretired x w.content)) m) (sym also)
          (kept_set out hand are b _ _ (made b lt) (kept_let_go x h w is there.has)))

      pub go_view : IsInStore view b w → (l : List CirculationView) (hs : List Held) → l ≡ slice_set out b (with_unretired x w.content) → hs ≡ slice_set hand b (with_less h w.content) → ◌≡◌ {A = TransitView} (record { out = wholes l hs; hand = hs }) (with_hand view b (with_less h w.content))
      go_view there l hs new also = (λ i. record { out = wholes (new i) (also i); hand = also i })
          ∙ ap (λ m. record { out = m; hand = slice_set hand b (with_less h w.content) })
          (wholes-kept out hand b are.same (made b lt) (with_unretired x w.content) (with_less h w.content) (let_go_circulation x h.value.content w.content there.has))

      -- what was retired can be out again, in the new whole
      pub retire_back : IsOnItsWay view (record { brand = b; value = w }) → (l : List CirculationView) → l ≡ slice_set out b (with_retired x w.content) → CanReturn (circulation_at (wholes l hand) b) w
      retire_back way l new =
          let lt_new : b < length l = omega (arith, lt, wholes-length out hand, ap length new, length_set out b (with_retired x w.content)) in
          subst (λ z. CanReturn z w)
          (sym (wholes-read l hand b (retire_keeps way l new).same lt_new ∙ ap (λ y. whole_of y h.value.content) (ap (λ m. circulation_at m b) new ∙ read_set out b (with_retired x w.content) (new_circulation Nat) (made b lt))))
          (can_return x h w is (kind_there way.kind) (whole_has way.has))

      -- the same of the element that the code has in its hand
      pub goes_in_at : CanHold view (record { brand = b; value = w }) → (z : Held) (v : ValueView) → z ≡ h → v ≡ w → GoesIn z v
      goes_in_at can z v at same = subst (λ y. GoesIn y v) (sym at) (subst (λ u. GoesIn h u) (sym same) (goes_in can))

      pub comes_out_at : IsInStore view b w → (z : Held) → z ≡ h → ComesOut z w
      comes_out_at there z at = subst (λ y. ComesOut y w) (sym at) (comes_out there)

    -- room alone
    module _ (z : Held) (same : z.value ≡ h.value) where
      pub roomed_keeps : AreKept out (slice_set hand b z)
      roomed_keeps = kept_set_hand out hand are b z (made b lt) (record {
        kind = is.kind ∙ ap (λ (v : ValueView). v.kind) (sym same);
        burned = omega (arith, is.burned, ap (λ (v : ValueView). counted v.content) same);
        fits = subst (λ (v : ValueView). Fits x.supply.outstanding.kind (sum x.supply.outstanding.content v.content)) (sym same) is.fits;
        kept = subst (λ (v : ValueView). Contains x.kept v.content) (sym same) is.kept;
      })

      new_there : held_at (slice_set hand b z) b ≡ z
      new_there = read_set hand b z (empty_hand Nat) (made_too b lt)

      pub roomed_view : ◌≡◌ {A = TransitView} (record { out = wholes out (slice_set hand b z); hand = slice_set hand b z }) (with_hand view b (record { value = h.value; room = (held_at (slice_set hand b z) b).room }))
      roomed_view =
          ap (λ l. record { out = l; hand = slice_set hand b z }) (wholes-roomed out hand b are.same (made b lt) z (ap (λ (v : ValueView). v.content) same))
          ∙ (λ i. record { out = wholes out hand; hand = slice_set hand b (record { value = same i; room = (sym new_there i).room }) })

      pub has_room : (y : Held) → y ≡ h → (keys : ℕ) → HasRoom y.value.kind (keys_of y.value.content + keys) z.room → HasRoom whole.supply.outstanding.kind (keys_of h.value.content + keys) (held_at (slice_set hand b z) b).room
      has_room y at keys has =
          subst (λ (v : Held). HasRoom whole.supply.outstanding.kind (keys_of h.value.content + keys) v.room) (sym new_there)
          (subst (λ k. HasRoom k (keys_of h.value.content + keys) z.room) (sym (ap (λ (s : CirculationView). s.supply.outstanding.kind) reads ∙ is.kind))
          (subst (λ (v : Held). HasRoom v.value.kind (keys_of v.value.content + keys) z.room) at has))

    -- where the hand's store has nothing
    module _ (empty : h.value.content ≡ nothing) where
      same_supply : whole.supply ≡ x.supply
      same_supply = ap (λ (y : CirculationView). y.supply) reads ∙ ap (unretired x.supply) empty ∙ unretired_none x.supply

      pub out_counted : (k : List ℕ) → count x.supply.outstanding.content k ≡ count whole.supply.outstanding.content k
      out_counted k = ap (λ (s : BrandSupply). count s.outstanding.content k) (sym same_supply)

    -- an issue then
    module _ (w : ValueView) (empty : h.value.content ≡ nothing) where
      pub refused_so : (fault : PutFault) → IsMintRefusal x.supply w fault → IsMintRefusal whole.supply w fault
      refused_so fault is = subst (λ s. IsMintRefusal s w fault) (sym (same_supply empty)) is

      pub may_so : MayIssue x.supply w → MayIssue whole.supply w
      may_so may = subst (λ s. MayIssue s w) (sym (same_supply empty)) may

      pub may_there : MayIssue whole.supply w → MayIssue x.supply w
      may_there may = subst (λ s. MayIssue s w) (same_supply empty) may

      module _ (same : whole.supply.outstanding.kind ≡ w.kind) (fits : Fits w.kind (sum x.supply.outstanding.content w.content)) (l : List CirculationView) (new : l ≡ slice_set out b (with_issued x w.content)) where
        pub issue_keeps : AreKept l hand
        issue_keeps = subst (λ m. AreKept m hand) (sym new) (kept_set_out out hand are b (with_issued x w.content) (made b lt) (kept_issued x h w is empty (kind_there w same) fits))

        pub issue_view : ◌≡◌ {A = TransitView} (record { out = wholes l hand; hand = hand }) (with_out view b (with_issued whole w.content))
        issue_view = changed_view (λ y. with_issued y w.content) (issued_circulation x h.value.content w.content) l new

  -- ---- a brand more

  module _ (kind : Kind) where
    pub added_keeps : (l : List CirculationView) (hs : List Held) → l ≡ out ++ new_circulation kind ∷ [] → hs ≡ hand ++ empty_hand kind ∷ [] → AreKept l hs
    added_keeps l hs new also = subst (λ m. AreKept m hs) (sym new) (subst (λ m. AreKept (out ++ new_circulation kind ∷ []) m) (sym also) (kept_push out hand are kind))

    fresh : whole_of (new_circulation kind) nothing ≡ new_circulation kind
    fresh i = record { supply = record { outstanding = record { kind = kind; content = sum-nothing nothing i }; minted = 0; burned = none i }; kept = difference-nothing nothing i }
      where
        none : 0 - counted nothing ≡ 0
        none = omega (arith, counted-nothing)

    pub added_view : (l : List CirculationView) (hs : List Held) → l ≡ out ++ new_circulation kind ∷ [] → hs ≡ hand ++ empty_hand kind ∷ [] → ◌≡◌ {A = TransitView} (record { out = wholes l hs; hand = hs }) (record { out = wholes out hand ++ new_circulation kind ∷ []; hand = hand ++ empty_hand kind ∷ [] })
    added_view l hs new also = (λ i. record { out = wholes (new i) (also i); hand = also i })
        ∙ ap (λ m. record { out = m; hand = hand ++ empty_hand kind ∷ [] }) (wholes-push out hand (new_circulation kind) (empty_hand kind) are.same ∙ ap (λ y. wholes out hand ++ y ∷ []) fresh)

  -- ---- the last brand less

  pub long_whole : length (wholes out hand) ≡ length out
  long_whole = wholes-length out hand

  pub fresh_there : 0 < length (wholes out hand) → (circulation_at (wholes out hand) (length (wholes out hand) - 1)).supply.minted ≡ 0 → (circulation_at out (length out - 1)).supply.minted ≡ 0
  fresh_there some fresh =
      ap (λ (y : CirculationView). y.supply.minted) (sym (wholes-read out hand (length out - 1) are.same (omega (arith, some, long_whole))))
      ∙ ap (λ n. (circulation_at (wholes out hand) (n - 1)).supply.minted) (sym long_whole) ∙ fresh

  pub removed_keeps : (n : ℕ) (l : List CirculationView) (hs : List Held) → l ≡ take n out → hs ≡ take n hand → AreKept l hs
  removed_keeps n l hs new also = subst (λ m. AreKept m hs) (sym new) (subst (λ m. AreKept (take n out) m) (sym also) (kept_take out hand are n))

  pub removed_out : (n : ℕ) (l : List CirculationView) (hs : List Held) → l ≡ take n out → hs ≡ take n hand → wholes l hs ≡ take n (wholes out hand)
  removed_out n l hs new also = (λ i. wholes (new i) (also i)) ∙ wholes-take out hand n are.same

  pub last_hand : (n m : ℕ) → n ≡ m → m ≡ length hand → take (n - 1) hand ≡ take (length out - 1) hand
  last_hand n m is at = ap (λ k. take (k - 1) hand) (is ∙ at ∙ sym are.same)

  pub sym_long : length out ≡ length (wholes out hand)
  sym_long = sym long_whole

pub wholes_long : (out : List CirculationView) (hand : List Held) → AreKept out hand → length hand ≡ length (wholes out hand)
wholes_long out hand are = omega (arith, are.same, wholes-length out hand)
