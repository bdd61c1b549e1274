-- What the calls make of the tables at the turn's start and of those of now.
use Rattle.std.proofs.Common.{◌≡◌, ℕ, ◌≤◌, List, [], ◌∷◌, ◌++◌, length, take, false, Option, None, Some, option_map, is_some, refl, ap, ◌∙◌, arith}
use Rattle.std.proofs.lemmas.List.{length-take, take-append-le, take_all}
use Rattle.std.specs.Option.{option_map_or}
use Rattle.std.specs.Ordering.{nat_cmp}
use Rattle.turn_stores.specs.UndoTurns.{value_at}
use Rattle.promise_store.specs.host_data.View.{tree, trees}
use Rattle.jessie_index.specs.jessie_grammar.declared.syntax.Module.{Module}
use Rattle.actors.specs.Changes.{AreBelow, ChangesView, instance_view, instances_view, tables_seen}
use Rattle.actors.specs.Tables.{InstanceView, changed_at, initial_state, installed, module_at, new_instance, started, with_changed}
use Rattle.actors.specs.InstanceTurns.{back_at, kept_at, seen}
use Rattle.actors.specs.declared.instance_store.instance.Instance.{Instance}
use Rattle.actors.specs.declared.instance_store.instance.Standing.TheVariants.{Accepting}
use Rattle.actors.proofs.Numbered.{numbered_last}

-- one instance is changed
pub seen_changed : (j k : ℕ) (ms : List Module) (begun now begun2 now2 : ChangesView) (is : List Instance) (n : ℕ) (change : InstanceView → InstanceView)
    → begun2 ≡ begun → instances_view now2 is ≡ changed_at n change (instances_view now is)
    → seen j k ms begun2 now2 is ≡ record (seen j k ms begun now is) { now = with_changed n change (tables_seen ms now is) }
seen_changed j k ms begun now begun2 now2 is n change same e =
    λ i. record { start = tables_seen (take j ms) (same i) (take k is); now = record { installations = ms; instances = e i } }

-- one more module is installed
pub seen_installed : (j k : ℕ) (ms news : List Module) (m : Module) (begun now : ChangesView) (is : List Instance) → j ≤ length ms → news ≡ ms ++ m ∷ []
    → seen j k news begun now is ≡ record (seen j k ms begun now is) { now = installed m (tables_seen ms now is) }
seen_installed j k ms news m begun now is within e =
    (λ i. seen j k (e i) begun now is)
    ∙ (λ i. record { start = tables_seen (take-append-le j ms (m ∷ []) within i) begun (take k is); now = tables_seen (ms ++ m ∷ []) now is })

none_is : {V : Type 0} (r : Option V) → is_some r ≡ false → r ≡ None
none_is None h = refl
none_is (Some v) h = absurd (cc)

-- what an instance is that has not changed
unchanged : (c : ChangesView) (n : ℕ) (x : Instance) → AreBelow n c
    → instance_view c n x ≡ record { installation = x.installation; issuers = x.issuers; terms = tree x.terms; public_facet = None; standing = Accepting; state = trees x.state.items }
unchanged c n x below =
    λ i. record {
      installation = x.installation;
      issuers = option_map_or (λ y. y) (none_is (value_at nat_cmp c.issuers n) (below.issuers n (omega arith)) i) x.issuers;
      terms = tree x.terms;
      public_facet = option_map tree (none_is (value_at nat_cmp c.public_facets n) (below.public_facets n (omega arith)) i);
      standing = option_map_or (λ y. y) (none_is (value_at nat_cmp c.standings n) (below.standings n (omega arith)) i) Accepting;
      state = trees (option_map_or (λ y. y) (none_is (value_at nat_cmp c.states n) (below.states n (omega arith)) i) x.state).items;
    }

-- the instances with one more, which has not changed
pub instances_last : (c : ChangesView) (ms : List Module) (is : List Instance) (x : Instance) → AreBelow (length is) c → trees x.state.items ≡ initial_state (module_at ms x.installation)
    → instances_view c (is ++ x ∷ []) ≡ instances_view c is ++ new_instance x.installation x.issuers (tree x.terms) (module_at ms x.installation) ∷ []
instances_last c ms is x below initial =
    numbered_last (instance_view c) (length is) 0 is x (omega arith)
    ∙ ap (λ (v : InstanceView). instances_view c is ++ v ∷ []) (unchanged c (length is) x below ∙ (λ i. record { installation = x.installation; issuers = x.issuers; terms = tree x.terms; public_facet = None; standing = Accepting; state = initial i }))

-- one more instance is started
pub seen_started : (j k : ℕ) (ms : List Module) (begun now : ChangesView) (is news : List Instance) (x : Instance) → k ≤ length is → news ≡ is ++ x ∷ [] → AreBelow (length is) now
    → trees x.state.items ≡ initial_state (module_at ms x.installation)
    → seen j k ms begun now news ≡ record (seen j k ms begun now is) { now = started x.installation x.issuers (tree x.terms) (tables_seen ms now is) }
seen_started j k ms begun now is news x within e below initial =
    (λ i. seen j k ms begun now (e i))
    ∙ (λ i. record { start = tables_seen (take j ms) begun (take-append-le k is (x ∷ []) within i); now = record { installations = ms; instances = instances_last now ms is x below initial i } })

short : {A : Type 0} (k : ℕ) (xs : List A) → length (take k xs) ≤ k
short k xs = rw (length-take k xs) (omega arith)

-- all is as it was at the turn's start
pub seen_back : (j k : ℕ) (ms news : List Module) (begun now begun2 now2 : ChangesView) (is isnews : List Instance) → news ≡ take j ms → isnews ≡ take k is → begun2 ≡ begun → now2 ≡ begun
    → seen j k news begun2 now2 isnews ≡ back_at (seen j k ms begun now is)
seen_back j k ms news begun now begun2 now2 is isnews em ei eb en =
    (λ i. seen j k (em i) (eb i) (en i) (ei i))
    ∙ (λ i. record { start = tables_seen (take_all j (take j ms) (short j ms) i) begun (take_all k (take k is) (short k is) i); now = tables_seen (take j ms) begun (take k is) })

-- what is now is kept
pub seen_kept : (j k : ℕ) (ms : List Module) (begun now begun2 now2 : ChangesView) (is : List Instance) → length ms ≤ j → length is ≤ k → begun2 ≡ now → now2 ≡ now
    → (l m : ℕ) → seen j k ms begun2 now2 is ≡ kept_at (seen l m ms begun now is)
seen_kept j k ms begun now begun2 now2 is all_modules all_instances eb en l m =
    (λ i. seen j k ms (eb i) (en i) is)
    ∙ (λ i. record { start = tables_seen (take_all j ms all_modules i) now (take_all k is all_instances i); now = tables_seen ms now is })
