-- Entries, one after the other, and from the last on.
use Rattle.std.proofs.Common.{◌≡◌, ℕ, Bool, List, [], ◌∷◌, ◌++◌, reverse, Option, refl, ap, ◌∙◌}
use Rattle.std.proofs.lemmas.List.{reverse-append}
use Rattle.jessie_grammar.specs.declared.jessie_scopes.name_use.Binding.{Binding}
use Rattle.jessie_grammar.specs.declared.jessie_scopes.scopes.Entry.{Entry}
use Rattle.jessie_grammar.specs.declared.jessie_scopes.scopes.Entry.TheVariants as entry
use Rattle.jessie_grammar.specs.Scopes.{stands_in, last_of}

pub stands_more : (x : List ℕ) (found : Bool) (e : Entry) (es : List Entry) → stands_in x found (e ∷ es) ≡ stands_in x (stands_in x found (e ∷ [])) es
stands_more x found entry.Opening es = refl
stands_more x found (entry.Name y b) es = refl
stands_more x found (entry.Field y) es = refl

pub last_more : (x : List ℕ) (found : Option Binding) (e : Entry) (es : List Entry) → last_of x found (e ∷ es) ≡ last_of x (last_of x found (e ∷ [])) es
last_more x found entry.Opening es = refl
last_more x found (entry.Name y b) es = refl
last_more x found (entry.Field y) es = refl

pub pushed : (all es : List Entry) (e : Entry) → all ≡ es ++ e ∷ [] → reverse all ≡ e ∷ reverse es
pushed all es e h = ap reverse h ∙ reverse-append es (e ∷ [])
