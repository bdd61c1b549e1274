-- A host that keeps to its side is asked for nothing that it doesn't know.
use Rattle.std.proofs.Common.{◌≡◌, ℕ, List, [], ◌∷◌, ◌++◌, refl, ap, subst, ◌∙◌, length}
use Rattle.host_data.specs.Tree.{Tree, null, boolean, number, text, array, fields, object, function, Items, no_items, item, Fields, no_fields, field}
use Rattle.jessie_values.specs.jessie_grammar.Syntax.{Routine}
use Rattle.jessie_semantics.specs.Play.{Call, Exchange, Reply, given, refused, Play, Ends, Spends, Asks, Answered, after}
use Rattle.jessie_semantics.specs.Rules.{play}
use Rattle.jessie_semantics.specs.Keeping.{Known, Reference, to_object, to_function, Within, ItemsWithin, FieldsWithin, FunctionsKnown, AllHave, CallHas, RepliesHave, ReplyHas, NextHas}
use Rattle.jessie_semantics.specs.Runs.{Path, Leads}
use Rattle.jessie_semantics.specs.Hosts.{Keeps, Allowed, Granted}
use Rattle.jessie_semantics.proofs.Safe.{safe_after, play_safe}
use Rattle.jessie_semantics.proofs.Within.{closed_within}
use Rattle.jessie_semantics.proofs.Writes.{AnyName, any_names}

mutual
  more : (K L : Known) → ((o : Reference) → K o → L o) → (t : Tree) → Within K t → Within L t
  more K L f null h = tt
  more K L f (boolean b) h = tt
  more K L f (number z) h = tt
  more K L f (text t) h = tt
  more K L f (array ts) h = more_items K L f ts h
  more K L f (fields fs) h = more_fields K L f fs h
  more K L f (object o) h = f (to_object o) h
  more K L f (function x) h = f (to_function x) h

  more_items : (K L : Known) → ((o : Reference) → K o → L o) → (ts : Items) → ItemsWithin K ts → ItemsWithin L ts
  more_items K L f no_items h = tt
  more_items K L f (item t ts) h = (more K L f t h.0, more_items K L f ts h.1)

  more_fields : (K L : Known) → ((o : Reference) → K o → L o) → (fs : Fields) → FieldsWithin K fs → FieldsWithin L fs
  more_fields K L f no_fields h = tt
  more_fields K L f (field x t fs) h = (more K L f t h.0, more_fields K L f fs h.1)

all_more : (K L : Known) → ((o : Reference) → K o → L o) → (vs : List Tree) → AllHave (Within K) vs → AllHave (Within L) vs
all_more K L f [] h = tt
all_more K L f (v ∷ vs) h = (more K L f v h.0, all_more K L f vs h.1)

functions_more : (K L : Known) → ((o : Reference) → K o → L o) → (rs : List Routine) → FunctionsKnown K rs → FunctionsKnown L rs
functions_more K L f [] h = tt
functions_more K L f (r ∷ rs) h = (f (to_function r.name) h.0, functions_more K L f rs h.1)

reply_more : (K L : Known) → ((o : Reference) → K o → L o) → (r : Reply) → ReplyHas (Within K) r → ReplyHas (Within L) r
reply_more K L f (given v) h = more K L f v h
reply_more K L f (refused v) h = more K L f v h

replies_more : (K L : Known) → ((o : Reference) → K o → L o) → (rs : List Reply) → RepliesHave (Within K) rs → RepliesHave (Within L) rs
replies_more K L f [] h = tt
replies_more K L f (r ∷ rs) h = (reply_more K L f r h.0, replies_more K L f rs h.1)

replies_end : (W : Tree → Type 0) (rs : List Reply) (r : Reply) → RepliesHave W rs → ReplyHas W r → RepliesHave W (rs ++ r ∷ [])
replies_end W [] r h i = (i, tt)
replies_end W (q ∷ rs) r h i = (h.0, replies_end W rs r h.1 i)

after_more : (p : Play) (rs : List Reply) (c : Call) (go : Reply → Play) (r : Reply) → after p rs ≡ Asks c go → after p (rs ++ r ∷ []) ≡ go r
after_more p [] c go r e = ap (λ p. after p (r ∷ [])) e
after_more (Ends x s) (q ∷ rs) c go r e = cc
after_more Spends (q ∷ rs) c go r e = cc
after_more (Asks d f) (q ∷ rs) c go r e = after_more (f q) rs c go r e

module _ {W : Type 0} (step : W → Exchange → W → Type 0) (known : W → Known) (keeps : Keeps step known) (start : W) (p : Play) (N : ℕ)
    (safe : (K : Known) → ((o : Reference) → known start o → K o) → (rs : List Reply) → RepliesHave (Within K) rs → NextHas (Within K) N (after p rs)) where
  -- what is so at the end
  record Came (w : W) (v : W) (xs : List Exchange) (a : Answered step w xs v) (r : Play) : Type 0 where
    allowed : Allowed step known w xs v a
    grown : (o : Reference) → known start o → known v o
    ends : NextHas (Within (known v)) N r

  going : (xs : List Exchange) (w v : W) (q r : Play) (rs : List Reply) → after p rs ≡ q → ((o : Reference) → known start o → known w o) → RepliesHave (Within (known w)) rs
      → (a : Answered step w xs v) → Path q xs r → Came w v xs a r
  going [] w v q r rs e k h a path = record {
    allowed = tt;
    grown = subst (λ v. (o : Reference) → known start o → known v o) a k;
    ends = subst (λ v. NextHas (Within (known v)) N r) a (subst (λ q. NextHas (Within (known w)) N q) (e ∙ path) (safe (known w) k rs h));
  }
  going (x ∷ xs) w v (Ends y s) r rs e k h a path = absurd path
  going (x ∷ xs) w v Spends r rs e k h a path = absurd path
  going (x ∷ xs) w v (Asks c go) r rs e k h a path =
      let here : CallHas (Within (known w)) x.call = subst (λ c. CallHas (Within (known w)) c) path.0 (subst (λ q. NextHas (Within (known w)) N q) e (safe (known w) k rs h)) in
      let lawful = keeps w x a.0 a.1.0 here in
      let grows = lawful.1 in
      let answer = lawful.0 in
      let rest = going xs a.0 v (go x.reply) r (rs ++ x.reply ∷ []) (after_more p rs c go x.reply e) (λ o i. grows o (k o i)) (replies_end _ rs x.reply (replies_more _ _ grows rs h) answer) a.1.1 path.1 in
      record { allowed = (here, rest.allowed); grown = rest.grown; ends = rest.ends }

pub granted : {W : Type 0} (step : W → Exchange → W → Type 0) (known : W → Known) → Keeps step known → (old new : W) (rs : List Routine) (variables : List (List ℕ)) (f : List ℕ) (vs values : List Tree) (meter : ℕ) (r : Play)
    → FunctionsKnown (known old) rs → AllHave (Within (known old)) vs → AllHave (Within (known old)) values → Leads step old new (play rs variables f vs values meter) r → Granted step known old new (length variables) r
granted step known keeps old new rs variables f vs values meter r g h i l =
    let p = play rs variables f vs values meter in
    let came = going step known keeps old p (length variables)
    (λ K k answers w. safe_after (Within K) (length variables) meter 0 p answers (play_safe (Within K) (length variables) meter AnyName rs (closed_within K rs (functions_more _ K k rs g)) (any_names rs) variables f vs values (all_more _ K k vs h) (all_more _ K k values i) refl) w)
    l.since old new p r [] refl (λ o k. k) tt l.answered l.path in
    record { since = l.since; answered = l.answered; allowed = came.allowed; keeps = came.grown; ends = came.ends }
