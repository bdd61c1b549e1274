-- What a put in each of the maps makes of the tables, and what is read of an instance.
use Rattle.std.proofs.Common.{◌≡◌, ℕ, ◌<◌, ◌≤◌, List, [], ◌∷◌, ◌++◌, length, get_or, take, map, true, nat_lt, ◌==◌, Option, None, Some, option_map, Result, Ok, Err, OnOk, OnErr, ◌⊎◌, inl, inr, refl, sym, ap, subst, ◌∙◌, arith, Bor, Vec, Global}
use Rattle.std.proofs.lemmas.Bool.{eq-eqb}
use Rattle.std.proofs.lemmas.List.{length-map, length-take-le, map-append, take-append-le, take-map, take-take}
use Rattle.std.proofs.Math.Nat.{le_refl}
use Rattle.std.specs.declared.rc.Rc.{Rc}
use Rattle.std.specs.Option.{option_copied, option_map_or}
use Rattle.std.specs.Ordering.{nat_cmp}
use Rattle.turn_stores.specs.UndoTurns.{Turn, value_at}
use Rattle.promise_store.specs.host_data.Tree.{Tree}
use Rattle.promise_store.specs.host_data.View.{tree, trees}
use Rattle.promise_store.specs.host_data.declared.data.Data.{Data}
use Rattle.jessie_index.specs.jessie_grammar.declared.syntax.Module.{Module}
use Rattle.brands.specs.declared.issuer_record.Issuer.{Issuer}
use Rattle.actors.specs.Changes.{AreBelow, ChangesView, IsBelow, changes_at_start, changes_now, instance_view, instances_view, numbered, tables_seen}
use Rattle.actors.specs.Tables.{InstanceView, initial_state, instance_at, is_whole, module_at, new_instance, no_instance, started, with_changed}
use Rattle.jessie_index.specs.jessie_values.Literals.{constant_tree}
use Rattle.actors.specs.InstanceTurns.{back_at, instances_of, seen}
use Rattle.actors.specs.declared.instance_store.Instances.{Instances}
use Rattle.actors.specs.declared.instance_store.instance.Instance.{Instance}
use Rattle.actors.specs.declared.instance_store.instance.Standing.{Standing}
use Rattle.actors.specs.declared.instance_store.instance.Standing.TheVariants.{Accepting}
use Rattle.actors.proofs.Numbered.{length_numbered, number_at, number_reads}
use Rattle.actors.proofs.Puts.{IsPut, below_put, issuers_put, public_facet_put, standing_put, state_put}
use Rattle.actors.proofs.Steps.{instances_last, seen_back, seen_changed, seen_started}
use Rattle.actors.proofs.Wholes.{AreWhole, state_whole, whole_at, wholes_changed, wholes_last, wholes_more}

pub within_list : {A B : Type 0} (f : ℕ → A → B) (k n : ℕ) (xs : List A) → n < length (numbered f k xs) → n < length xs
within_list f k n xs h = let P : ℕ → Type 0 = λ m. n < m in subst P (length_numbered f k xs) h

-- ---- a put, or nothing

module _ {V : Type 0} (n : ℕ) (v : V) (old new : Turn ℕ V) where
  -- what a put leaves: the value is put, or all is as before
  abbrev pub IsLeft : Type 0
  IsLeft = IsPut n v old.now new.now ⊎ (new.now ≡ old.now)

  pub left_by : {A E : Type 0} (r : Result A E) → OnOk r (IsPut n v old.now new.now) → OnErr r (new ≡ old) → IsLeft
  left_by (Ok x) ok err = inl ok
  left_by (Err e) ok err = inr (ap (λ (t : Turn ℕ V). t.now) err)

  pub below_left : (k : ℕ) → n < k → IsLeft → IsBelow k old.now → IsBelow k new.now
  below_left k h (inl put) below = below_put n v old.now new.now put k h below
  below_left k h (inr same) below = subst (IsBelow k) (sym same) below

  pub below_start : (k : ℕ) → new.start ≡ old.start → IsBelow k old.start → IsBelow k new.start
  below_start k same below = subst (IsBelow k) (sym same) below

-- ---- the instances after a put in one of the maps

abbrev pub modules_of : Instances → List Module
modules_of i = map (λ m. m.value) i.installations.items

abbrev pub viewed : Instances → List InstanceView
viewed i = instances_view (changes_now i.changes) i.instances.items

module _ (old : Instances) (n : ℕ) where
  pub issuers_seen : (v : List Issuer) (t : Turn ℕ (List Issuer)) → t.start ≡ old.changes.issuers.start → IsPut n v old.changes.issuers.now t.now
      → seen old.kept_installations old.kept_instances (modules_of old) (record (changes_at_start old.changes) { issuers = t.start }) (record (changes_now old.changes) { issuers = t.now }) old.instances.items
      ≡ record (instances_of old) { now = with_changed n (λ i. record i { issuers = v }) (instances_of old).now }
  issuers_seen v t same put =
      seen_changed old.kept_installations old.kept_instances (modules_of old) (changes_at_start old.changes) (changes_now old.changes) (record (changes_at_start old.changes) { issuers = t.start })
      (record (changes_now old.changes) { issuers = t.now }) old.instances.items n (λ i. record i { issuers = v }) (λ j. record (changes_at_start old.changes) { issuers = same j })
      (issuers_put (changes_now old.changes) n old.instances.items v t.now put)

  pub public_facet_seen : (v : Data) (t : Turn ℕ Data) → t.start ≡ old.changes.public_facets.start → IsPut n v old.changes.public_facets.now t.now
      → seen old.kept_installations old.kept_instances (modules_of old) (record (changes_at_start old.changes) { public_facets = t.start }) (record (changes_now old.changes) { public_facets = t.now }) old.instances.items
      ≡ record (instances_of old) { now = with_changed n (λ i. record i { public_facet = Some (tree v) }) (instances_of old).now }
  public_facet_seen v t same put =
      seen_changed old.kept_installations old.kept_instances (modules_of old) (changes_at_start old.changes) (changes_now old.changes) (record (changes_at_start old.changes) { public_facets = t.start })
      (record (changes_now old.changes) { public_facets = t.now }) old.instances.items n (λ i. record i { public_facet = Some (tree v) }) (λ j. record (changes_at_start old.changes) { public_facets = same j })
      (public_facet_put (changes_now old.changes) n old.instances.items v t.now put)

  pub standing_seen : (v : Standing) (t : Turn ℕ Standing) → t.start ≡ old.changes.standings.start → IsPut n v old.changes.standings.now t.now
      → seen old.kept_installations old.kept_instances (modules_of old) (record (changes_at_start old.changes) { standings = t.start }) (record (changes_now old.changes) { standings = t.now }) old.instances.items
      ≡ record (instances_of old) { now = with_changed n (λ i. record i { standing = v }) (instances_of old).now }
  standing_seen v t same put =
      seen_changed old.kept_installations old.kept_instances (modules_of old) (changes_at_start old.changes) (changes_now old.changes) (record (changes_at_start old.changes) { standings = t.start })
      (record (changes_now old.changes) { standings = t.now }) old.instances.items n (λ i. record i { standing = v }) (λ j. record (changes_at_start old.changes) { standings = same j })
      (standing_put (changes_now old.changes) n old.instances.items v t.now put)

  pub state_seen : (v : Vec Data Global) (t : Turn ℕ (Vec Data Global)) → t.start ≡ old.changes.states.start → IsPut n v old.changes.states.now t.now
      → seen old.kept_installations old.kept_instances (modules_of old) (record (changes_at_start old.changes) { states = t.start }) (record (changes_now old.changes) { states = t.now }) old.instances.items
      ≡ record (instances_of old) { now = with_changed n (λ i. record i { state = trees v.items }) (instances_of old).now }
  state_seen v t same put =
      seen_changed old.kept_installations old.kept_instances (modules_of old) (changes_at_start old.changes) (changes_now old.changes) (record (changes_at_start old.changes) { states = t.start })
      (record (changes_now old.changes) { states = t.now }) old.instances.items n (λ i. record i { state = trees v.items }) (λ j. record (changes_at_start old.changes) { states = same j })
      (state_put (changes_now old.changes) n old.instances.items v t.now put)

  pub issuers_whole : (v : List Issuer) (t : Turn ℕ (List Issuer)) → IsLeft n v old.changes.issuers t → n < length (viewed old) → AreWhole (modules_of old) (viewed old)
      → AreWhole (modules_of old) (instances_view (record (changes_now old.changes) { issuers = t.now }) old.instances.items)
  issuers_whole v t (inl put) h whole =
      rw (issuers_put (changes_now old.changes) n old.instances.items v t.now put) (wholes_changed (modules_of old) (viewed old) n (λ i. record i { issuers = v }) whole h refl refl)
  issuers_whole v t (inr same) h whole =
      let P : List (ℕ × List Issuer) → Type 0 = λ es. AreWhole (modules_of old) (instances_view (record (changes_now old.changes) { issuers = es }) old.instances.items) in
      subst P (sym same) whole

  pub public_facet_whole : (v : Data) (t : Turn ℕ Data) → IsLeft n v old.changes.public_facets t → n < length (viewed old) → AreWhole (modules_of old) (viewed old)
      → AreWhole (modules_of old) (instances_view (record (changes_now old.changes) { public_facets = t.now }) old.instances.items)
  public_facet_whole v t (inl put) h whole =
      rw (public_facet_put (changes_now old.changes) n old.instances.items v t.now put) (wholes_changed (modules_of old) (viewed old) n (λ i. record i { public_facet = Some (tree v) }) whole h refl refl)
  public_facet_whole v t (inr same) h whole =
      let P : List (ℕ × Data) → Type 0 = λ es. AreWhole (modules_of old) (instances_view (record (changes_now old.changes) { public_facets = es }) old.instances.items) in
      subst P (sym same) whole

  pub standing_whole : (v : Standing) (t : Turn ℕ Standing) → IsLeft n v old.changes.standings t → n < length (viewed old) → AreWhole (modules_of old) (viewed old)
      → AreWhole (modules_of old) (instances_view (record (changes_now old.changes) { standings = t.now }) old.instances.items)
  standing_whole v t (inl put) h whole =
      rw (standing_put (changes_now old.changes) n old.instances.items v t.now put) (wholes_changed (modules_of old) (viewed old) n (λ i. record i { standing = v }) whole h refl refl)
  standing_whole v t (inr same) h whole =
      let P : List (ℕ × Standing) → Type 0 = λ es. AreWhole (modules_of old) (instances_view (record (changes_now old.changes) { standings = es }) old.instances.items) in
      subst P (sym same) whole

  pub state_whole_after : (v : Vec Data Global) (t : Turn ℕ (Vec Data Global)) → IsLeft n v old.changes.states t → n < length (viewed old) → length v.items ≡ length (instance_at (viewed old) n).state
      → AreWhole (modules_of old) (viewed old) → AreWhole (modules_of old) (instances_view (record (changes_now old.changes) { states = t.now }) old.instances.items)
  state_whole_after v t (inl put) h many whole =
      rw (state_put (changes_now old.changes) n old.instances.items v t.now put)
      (wholes_changed (modules_of old) (viewed old) n (λ i. record i { state = trees v.items }) whole h refl (length-map v.items tree ∙ many))
  state_whole_after v t (inr same) h many whole =
      let P : List (ℕ × Vec Data Global) → Type 0 = λ es. AreWhole (modules_of old) (instances_view (record (changes_now old.changes) { states = es }) old.instances.items) in
      subst P (sym same) whole

-- those at the turn's start are whole as before
module _ (old : Instances) where
  abbrev pub WholeFrom : ChangesView → Type 0
  WholeFrom begun = AreWhole (take old.kept_installations (modules_of old)) (instances_view begun (take old.kept_instances old.instances.items))

  pub issuers_begun : (es : List (ℕ × List Issuer)) → es ≡ old.changes.issuers.start → WholeFrom (changes_at_start old.changes) → WholeFrom (record (changes_at_start old.changes) { issuers = es })
  issuers_begun es same whole = let P : List (ℕ × List Issuer) → Type 0 = λ xs. WholeFrom (record (changes_at_start old.changes) { issuers = xs }) in subst P (sym same) whole

  pub public_facets_begun : (es : List (ℕ × Data)) → es ≡ old.changes.public_facets.start → WholeFrom (changes_at_start old.changes) → WholeFrom (record (changes_at_start old.changes) { public_facets = es })
  public_facets_begun es same whole = let P : List (ℕ × Data) → Type 0 = λ xs. WholeFrom (record (changes_at_start old.changes) { public_facets = xs }) in subst P (sym same) whole

  pub standings_begun : (es : List (ℕ × Standing)) → es ≡ old.changes.standings.start → WholeFrom (changes_at_start old.changes) → WholeFrom (record (changes_at_start old.changes) { standings = es })
  standings_begun es same whole = let P : List (ℕ × Standing) → Type 0 = λ xs. WholeFrom (record (changes_at_start old.changes) { standings = xs }) in subst P (sym same) whole

  pub states_begun : (es : List (ℕ × Vec Data Global)) → es ≡ old.changes.states.start → WholeFrom (changes_at_start old.changes) → WholeFrom (record (changes_at_start old.changes) { states = es })
  states_begun es same whole = let P : List (ℕ × Vec Data Global) → Type 0 = λ xs. WholeFrom (record (changes_at_start old.changes) { states = xs }) in subst P (sym same) whole

-- ---- what is read of an instance

module _ (c : ChangesView) (is : List Instance) (n : ℕ) (h : n < length (instances_view c is)) where
  here : n < length is
  here = within_list (instance_view c) 0 n is h

  -- the instance n, which was started as x
  pub view_at : (x : Instance) → x ≡ get_or is n x → instance_at (instances_view c is) n ≡ instance_view c n x
  view_at x at = number_at (instance_view c) no_instance n 0 n is x (omega arith) here at

  pub issuers_changed : (v : List Issuer) → Some v ≡ value_at nat_cmp c.issuers n → v ≡ (instance_at (instances_view c is) n).issuers
  issuers_changed v e =
      sym (number_reads (instance_view c) no_instance (λ i. i.issuers) v n 0 n is (omega arith) here (λ x. ap (λ r. option_map_or (λ y. y) r x.issuers) (sym e)))

  pub issuers_started : (x : Instance) → x ≡ get_or is n x → None ≡ value_at nat_cmp c.issuers n → x.issuers ≡ (instance_at (instances_view c is) n).issuers
  issuers_started x at e = ap (λ r. option_map_or (λ y. y) r x.issuers) e ∙ sym (ap (λ (i : InstanceView). i.issuers) (view_at x at))

  pub standing_changed : (v : Standing) → Some v ≡ value_at nat_cmp c.standings n → v ≡ (instance_at (instances_view c is) n).standing
  standing_changed v e =
      sym (number_reads (instance_view c) no_instance (λ i. i.standing) v n 0 n is (omega arith) here (λ x. ap (λ r. option_map_or (λ y. y) r Accepting) (sym e)))

  pub standing_started : None ≡ value_at nat_cmp c.standings n → Accepting ≡ (instance_at (instances_view c is) n).standing
  standing_started e =
      sym (number_reads (instance_view c) no_instance (λ i. i.standing) Accepting n 0 n is (omega arith) here (λ x. ap (λ r. option_map_or (λ y. y) r Accepting) (sym e)))

  pub state_changed : (v : Vec Data Global) → Some v ≡ value_at nat_cmp c.states n → trees v.items ≡ (instance_at (instances_view c is) n).state
  state_changed v e =
      sym (number_reads (instance_view c) no_instance (λ i. i.state) (trees v.items) n 0 n is (omega arith) here (λ x. ap (λ r. trees (option_map_or (λ y. y) r x.state).items) (sym e)))

  pub state_started : (x : Instance) → x ≡ get_or is n x → None ≡ value_at nat_cmp c.states n → trees x.state.items ≡ (instance_at (instances_view c is) n).state
  state_started x at e = ap (λ r. trees (option_map_or (λ y. y) r x.state).items) e ∙ sym (ap (λ (i : InstanceView). i.state) (view_at x at))

  copied : (r : Option (Bor Data)) → option_map (λ facet. tree facet.now) r ≡ option_map tree (option_copied r)
  copied None = refl
  copied (Some d) = refl

  pub public_facet_is : (r : Option (Bor Data)) → option_copied r ≡ value_at nat_cmp c.public_facets n → option_map (λ facet. tree facet.now) r ≡ (instance_at (instances_view c is) n).public_facet
  public_facet_is r e =
      copied r ∙ ap (option_map tree) e
      ∙ sym (number_reads (instance_view c) no_instance (λ i. i.public_facet) (option_map tree (value_at nat_cmp c.public_facets n)) n 0 n is (omega arith) here (λ x. refl))

  -- it has a value for each state variable
  pub kept_whole : (ms : List Module) (ds : List Data) → trees ds ≡ (instance_at (instances_view c is) n).state → AreWhole ms (instances_view c is)
      → length ds ≡ length (module_at ms (instance_at (instances_view c is) n).installation).variables
  kept_whole ms ds e whole = sym (length-map ds tree) ∙ ap length e ∙ state_whole ms (instance_at (instances_view c is) n) (whole_at ms (instances_view c is) n whole h)

-- ---- one more installation, one more instance, and the way back

pub below_more : (n m : ℕ) (c : ChangesView) → n ≤ m → AreBelow n c → AreBelow m c
below_more n m c h below =
    record {
      issuers = λ q l. below.issuers q (omega (arith, h, l));
      public_facets = λ q l. below.public_facets q (omega (arith, h, l));
      standings = λ q l. below.standings q (omega (arith, h, l));
      states = λ q l. below.states q (omega (arith, h, l));
    }

abbrev pub Shared : Type 0
Shared = Rc Module Global

abbrev pub shared : List Shared → List Module
shared rs = map (λ r. r.value) rs

-- the modules with one more
shared_last : (olds ms news : List Shared) (r : Shared) (m : Module) → ms ≡ olds → news ≡ ms ++ r ∷ [] → r.value ≡ m → shared news ≡ shared olds ++ m ∷ []
shared_last olds ms news r m same e is = ap shared e ∙ map-append (λ (s : Shared). s.value) ms (r ∷ []) ∙ (λ j. shared (same j) ++ is j ∷ [])

pub installed_whole : (olds ms news : List Shared) (r : Shared) (m : Module) (xs : List InstanceView) → ms ≡ olds → news ≡ ms ++ r ∷ [] → r.value ≡ m → AreWhole (shared olds) xs → AreWhole (shared news) xs
installed_whole olds ms news r m xs same e is whole = rw (shared_last olds ms news r m same e is) (wholes_more (shared olds) m xs whole)

pub installed_begun : (k : ℕ) (olds ms news : List Shared) (r : Shared) (m : Module) (xs : List InstanceView) → ms ≡ olds → news ≡ ms ++ r ∷ [] → r.value ≡ m → k ≤ length olds
    → AreWhole (take k (shared olds)) xs → AreWhole (take k (shared news)) xs
installed_begun k olds ms news r m xs same e is within whole =
    rw (shared_last olds ms news r m same e is, take-append-le k (shared olds) (m ∷ []) (rw length-map within)) whole

pub started_whole : (ms : List Module) (c : ChangesView) (olds is news : List Instance) (x : Instance) → is ≡ olds → news ≡ is ++ x ∷ [] → AreBelow (length olds) c → x.installation < length ms
    → trees x.state.items ≡ initial_state (module_at ms x.installation) → AreWhole ms (instances_view c olds) → AreWhole ms (instances_view c news)
started_whole ms c olds is news x same e below made initial whole =
    let all : news ≡ olds ++ x ∷ [] = e ∙ ap (λ (ys : List Instance). ys ++ x ∷ []) same in
    rw (all, instances_last c ms olds x below initial)
    (wholes_last ms (instances_view c olds) (new_instance x.installation x.issuers (tree x.terms) (module_at ms x.installation)) whole
    (new_whole ms x.installation x.issuers (tree x.terms) made))
  where
    new_whole : (ms : List Module) (n : ℕ) (issuers : List Issuer) (terms : Tree) → n < length ms → is_whole ms (new_instance n issuers terms (module_at ms n)) ≡ true
    new_whole ms n issuers terms made =
        let many : length (initial_state (module_at ms n)) ≡ length (module_at ms n).variables = length-map (module_at ms n).variables (λ v. constant_tree v.initial) in
        let there : nat_lt n (length ms) ≡ true = grind arith in
        let same : (length (initial_state (module_at ms n)) == length (module_at ms n).variables) ≡ true = eq-eqb _ _ many in
        rw (there, same) refl

pub started_begun : (ms : List Module) (c : ChangesView) (k : ℕ) (olds is news : List Instance) (x : Instance) → is ≡ olds → news ≡ is ++ x ∷ [] → k ≤ length olds
    → AreWhole ms (instances_view c (take k olds)) → AreWhole ms (instances_view c (take k news))
started_begun ms c k olds is news x same e within whole =
    let all : news ≡ olds ++ x ∷ [] = e ∙ ap (λ (ys : List Instance). ys ++ x ∷ []) same in
    rw (all, take-append-le k olds (x ∷ []) within) whole

pub started_seen : (j k : ℕ) (ms : List Module) (begun now : ChangesView) (olds is news : List Instance) (x : Instance) → k ≤ length olds → is ≡ olds → news ≡ is ++ x ∷ [] → AreBelow (length olds) now
    → trees x.state.items ≡ initial_state (module_at ms x.installation)
    → seen j k ms begun now news ≡ record (seen j k ms begun now olds) { now = started x.installation x.issuers (tree x.terms) (tables_seen ms now olds) }
started_seen j k ms begun now olds is news x within same e below initial =
    seen_started j k ms begun now olds news x within (e ∙ ap (λ (ys : List Instance). ys ++ x ∷ []) same) below initial

-- what is left of the tables at the turn's start is whole
pub back_whole : (j k : ℕ) (olds news : List Shared) (c d : ChangesView) (is isnews : List Instance) → news ≡ take j olds → isnews ≡ take k is → d ≡ c
    → AreWhole (take j (shared olds)) (instances_view c (take k is)) → AreWhole (shared news) (instances_view d isnews)
back_whole j k olds news c d is isnews em ei ec whole = rw (em, ei, ec, ← take-map (λ (r : Shared). r.value) j olds) whole

pub back_begun : (j k : ℕ) (olds news : List Shared) (c d : ChangesView) (is isnews : List Instance) → news ≡ take j olds → isnews ≡ take k is → d ≡ c
    → AreWhole (take j (shared olds)) (instances_view c (take k is)) → AreWhole (take j (shared news)) (instances_view d (take k isnews))
back_begun j k olds news c d is isnews em ei ec whole =
    rw (em, ei, ec, ← take-map (λ (r : Shared). r.value) j olds, take-take j j (shared olds) (le_refl j), take-take k k is (le_refl k)) whole

pub back_seen : (j k : ℕ) (olds news : List Shared) (begun now begun2 now2 : ChangesView) (is isnews : List Instance) → news ≡ take j olds → isnews ≡ take k is → begun2 ≡ begun → now2 ≡ begun
    → seen j k (shared news) begun2 now2 isnews ≡ back_at (seen j k (shared olds) begun now is)
back_seen j k olds news begun now begun2 now2 is isnews em ei eb en =
    seen_back j k (shared olds) (shared news) begun now begun2 now2 is isnews (ap shared em ∙ sym (take-map (λ (r : Shared). r.value) j olds)) ei eb en

pub cut_length : {A : Type 0} (k : ℕ) (xs ys : List A) → ys ≡ take k xs → k ≤ length xs → length ys ≡ k
cut_length k xs ys e h = ap length e ∙ length-take-le k xs h

pub back_below : (k m : ℕ) (c d : ChangesView) → d ≡ c → m ≡ k → AreBelow k c → AreBelow m d
back_below k m c d ec em below = rw (ec, em) below
