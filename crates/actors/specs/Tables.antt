-- Installations and instances, by number (Zoe).
use Rattle.std.specs.Prelude.{◌≡◌, ◌↔◌, ℕ, Bool, ◌&&◌, ◌==◌, IsSome, nat_lt, List, [], ◌∷◌, ◌++◌, length, map, Option, None, Some, slice_index_or, slice_set}
use Rattle.std.specs.List.{list_all}
use Rattle.promise_store.specs.host_data.Tree.{Tree, null}
use Rattle.jessie_index.specs.jessie_values.Literals.{constant_tree}
use Rattle.jessie_index.specs.jessie_grammar.declared.syntax.Module.{Module}
use Rattle.brands.specs.declared.issuer_record.Issuer.{Issuer}
use Rattle.brands.specs.IssuerRecords.{brand_under, most_issuers}
use Rattle.brands.specs.declared.issuer_record.IssuerFault.{IssuerFault}
use Rattle.brands.specs.declared.issuer_record.IssuerFault.TheVariants.{KeywordTaken, Limit}
use Rattle.actors.specs.declared.instance_store.instance.Standing.{Standing}
use Rattle.actors.specs.declared.instance_store.instance.Standing.TheVariants.{Accepting, Halted, Stopped}

-- an instance: the number of its installation, its brands by keyword, its terms, the public facet once its
-- start has run, whether it accepts offers or has halted, and a value for each state variable
pub record InstanceView : Type 0 where
  pub installation : ℕ
  pub issuers : List Issuer
  pub terms : Tree
  pub public_facet : Option Tree
  pub standing : Standing
  pub state : List Tree

-- the modules of installations, and the instances
pub record Tables : Type 0 where
  pub installations : List Module
  pub instances : List InstanceView

abbrev pub most_made : ℕ
most_made = 4294967295

-- what is read where nothing was installed, and where no instance was made
abbrev pub no_module : Module
no_module = record { variables = []; functions = [] }

abbrev pub no_instance : InstanceView
no_instance = record { installation = 0; issuers = []; terms = null; public_facet = None; standing = Accepting; state = [] }

abbrev pub module_at : List Module → ℕ → Module
module_at modules n = slice_index_or modules n no_module

abbrev pub instance_at : List InstanceView → ℕ → InstanceView
instance_at instances n = slice_index_or instances n no_instance

-- what a module's state variables hold before it has run
abbrev pub initial_state : Module → List Tree
initial_state m = map (λ v. constant_tree v.initial) m.variables

-- a new instance, whose start has not run
abbrev pub new_instance : ℕ → List Issuer → Tree → Module → InstanceView
new_instance installation issuers terms m =
    record { installation = installation; issuers = issuers; terms = terms; public_facet = None; standing = Accepting; state = initial_state m }

-- what an instance is once it accepts no more offers: one that has halted has
abbrev pub stopped : Standing → Standing
stopped Halted = Halted
stopped _ = Stopped

-- the tables once a module was installed, and once an instance was started
abbrev pub installed : Module → Tables → Tables
installed m t = record t { installations = t.installations ++ m ∷ [] }

abbrev pub started : ℕ → List Issuer → Tree → Tables → Tables
started installation issuers terms t =
    record t { instances = t.instances ++ new_instance installation issuers terms (module_at t.installations installation) ∷ [] }

-- the instances with one of them changed
abbrev pub changed_at : ℕ → (InstanceView → InstanceView) → List InstanceView → List InstanceView
changed_at n change instances = slice_set instances n (change (instance_at instances n))

abbrev pub with_changed : ℕ → (InstanceView → InstanceView) → Tables → Tables
with_changed n change t = record t { instances = changed_at n change t.instances }

-- one instance with a further issuer, with the public facet that its start gave, with this standing, with
-- these state values
abbrev pub with_issuer : ℕ → Issuer → Tables → Tables
with_issuer n issuer = with_changed n (λ i. record i { issuers = i.issuers ++ issuer ∷ [] })

abbrev pub with_public_facet : ℕ → Tree → Tables → Tables
with_public_facet n facet = with_changed n (λ i. record i { public_facet = Some facet })

abbrev pub with_halted : ℕ → Tables → Tables
with_halted n = with_changed n (λ i. record i { standing = Halted })

abbrev pub with_stopped : ℕ → Tables → Tables
with_stopped n = with_changed n (λ i. record i { standing = stopped i.standing })

abbrev pub with_state : ℕ → List Tree → Tables → Tables
with_state n state = with_changed n (λ i. record i { state = state })

-- why no issuer is added under a keyword: it is there, or 64 are, or memory is short
pub record IsIssuerRefusal (keyword : List ℕ) (issuers : List Issuer) (fault : IssuerFault) : Type 0 where
  pub taken : (fault ≡ KeywordTaken) ↔ IsSome (brand_under keyword issuers)
  pub limit : (fault ≡ Limit) ↔ ((brand_under keyword issuers ≡ None) × (length issuers ≡ most_issuers))

-- its installation was made, and it has a value for each state variable of that module
abbrev pub is_whole : List Module → InstanceView → Bool
is_whole modules i = nat_lt i.installation (length modules) && (length i.state == length (module_at modules i.installation).variables)

abbrev pub are_whole : Tables → Bool
are_whole t = list_all (λ i. is_whole t.installations i) t.instances
