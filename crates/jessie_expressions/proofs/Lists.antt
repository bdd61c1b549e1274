-- The items of a list, one after another; what stands between two brackets, up to the closing one;
-- and one step more, whatever stands before the steps.
use Rattle.std.proofs.Common.{◌≡◌, ℕ, suc, ◌+◌, ◌<◌, ◌≤◌, Bool, true, false, not, if◌then◌else◌, List, [], ◌∷◌, ◌++◌, length, Result, Ok, Err, refl, sym, ap, subst, ◌∙◌, arith}
use Rattle.std.proofs.lemmas.Result.{IfOk-at_ok}
use Rattle.jessie_grammar.specs.declared.jessie_lexer.token.Kind.{Kind}
use Rattle.jessie_grammar.specs.declared.jessie_lexer.token.Kind.TheVariants as k
use Rattle.jessie_grammar.specs.declared.jessie_lexer.token.Token.{Token}
use Rattle.jessie_grammar.specs.Tokens.{kind, has}
use Rattle.jessie_grammar.specs.declared.jessie_scopes.name_use.NameUse.{NameUse}
use Rattle.jessie_grammar.specs.declared.syntax.Expr.{Expr}
use Rattle.jessie_grammar.specs.declared.syntax.Access.{Access}
use Rattle.jessie_grammar.specs.declared.jessie_language.fault.ParseError.{ParseError}
use Rattle.jessie_grammar.specs.declared.jessie_language.fault.ParseError.TheVariants as errors
use Rattle.jessie_grammar.specs.Words.{Found, Accessed, more, access_more, ongoing}
use Rattle.jessie_grammar.specs.Parse.{Parser, Fault, Outcome, Fails, Gives, and_then, ◌>>=◌, ◌>>◌, pure, either, loop, symbol, opening, bracketed}
use Rattle.jessie_grammar.specs.Levels.{next_place}
use Rattle.jessie_grammar.specs.Rules as rules
use Rattle.jessie_grammar.proofs.Good.{Falls, loop_more, loop_done}
use Rattle.jessie_grammar.proofs.Reading.{Leaves, after_fails}

-- the items after the first ones
abbrev more_items : {A : Type 0} → Kind → (List NameUse → Parser (Found A)) → Found (List A) → Parser (Found (List A))
more_items close item found = loop ongoing (k.Comma ∷ []) (rules.comma_step close item) (found, true) >>= λ s. pure s.0

-- the items from a place on, behind those found before it, where an item stands there or none
abbrev pub items_from : {A : Type 0} → Kind → (List NameUse → Parser (Found A)) → Found (List A) → Bool → Parser (Found (List A))
items_from close item found true = item found.1 >>= λ a. more_items close item (more found.0 a)
items_from close item found false = pure found

-- how many items are known to follow
abbrev pub places : Bool → ℕ
places b = if b then 1 else 0

at_most_one : (b : Bool) → places b ≤ 1
at_most_one true = omega arith
at_most_one false = omega arith

same_value : {A : Type 0} (a b : A) (ts us : List Token) → pure a ts ≡ pure b us → a ≡ b
same_value a b ts us e = IfOk-at_ok (λ z. a ≡ z.0) e refl

same_left : {A : Type 0} (a b : A) (ts us : List Token) → pure a ts ≡ pure b us → ts ≡ us
same_left a b ts us e = IfOk-at_ok (λ z. ts ≡ z.1) e refl

comma_takes : (ts us : List Token) → symbol k.Comma ts ≡ Ok (tt, us) → length ts ≡ suc (length us)
unfolding symbol
comma_takes [] us e = absurd (cc)
comma_takes (t ∷ ts) us e = by (has (k.Comma ∷ []) t.kind) refl
  where
    by : (b : Bool) → has (k.Comma ∷ []) t.kind ≡ b → length (t ∷ ts) ≡ suc (length us)
    by true h = ap (λ z. suc (length z)) (same_left {A = Unit {0}} tt tt ts us cc)
    by false h = absurd (cc)

-- behind a comma: whether an item follows
abbrev behind_comma : Bool → List Token → Outcome Bool
behind_comma at_end ts = if at_end then Ok (false, ts) else Ok (true, ts)

abbrev place_by : Kind → Bool → List Token → Outcome Bool
place_by close comma ts = if comma then and_then (symbol k.Comma ts) (λ _. either (k.Comma ∷ close ∷ []) (pure false) (pure true)) else Ok (false, ts)

-- ---- a list

module _ {A : Type 0} (close : Kind) (item : List NameUse → Parser (Found A)) where
  abbrev begun : List NameUse → Bool → List Token → Outcome (Found (List A))
  begun es at_end ts = if at_end then Ok (([], es), ts) else and_then (item es ts) (λ a. more_items close item (more [] a))

  begins_by : (es : List NameUse) (ts : List Token) (b : Bool) → begun es b ts ≡ items_from close item ([], es) (not b) ts
  begins_by es ts true = refl
  begins_by es ts false = refl

  pub list_begins : (es : List NameUse) (found : List A) (ts : List Token) (at_end : Bool) → at_end ≡ has (close ∷ []) (kind ts) → found ≡ [] → rules.listed close item es ts ≡ items_from close item (found, es) (not at_end) ts
  list_begins es found ts at_end h e =
      ap (λ b. begun es b ts) (sym h) ∙ (begins_by es ts at_end ∙ ap (λ (z : List A). items_from close item (z, es) (not at_end) ts) (sym e))

  pub list_ends : (all : Outcome (Found (List A))) (f : Found (List A)) (m : Bool) (ts : List Token) → all ≡ items_from close item f m ts → m ≡ false → all ≡ Ok (f, ts)
  list_ends all f m ts e i = e ∙ ap (λ z. items_from close item f z ts) i

  one_there : (all : Outcome (Found (List A))) (f : Found (List A)) (m : Bool) (ts : List Token) → all ≡ items_from close item f m ts → m ≡ true → all ≡ and_then (item f.1 ts) (λ a. more_items close item (more f.0 a))
  one_there all f m ts e i = e ∙ ap (λ z. items_from close item f z ts) i

  pub list_fails : (all : Outcome (Found (List A))) (f : Found (List A)) (m : Bool) (ts : List Token) (r : ParseError)
      → all ≡ items_from close item f m ts → m ≡ true → Fails r (item f.1 ts) → Fails r all
  list_fails all f m ts r e i h = subst (λ o. Fails r o) (sym (one_there all f m ts e i)) (after_fails r _ _ h)

-- where what stands behind an item is no longer than what begins with it
module _ {A : Type 0} (close : Kind) (item : List NameUse → Parser (Found A)) (leaves : Leaves item) where
  abbrev steps : Found (List A) × Bool → Parser (Found (List A) × Bool)
  steps = loop ongoing (k.Comma ∷ []) (rules.comma_step close item)

  abbrev step_behind : Found (List A) → Bool → List Token → Outcome (Found (List A) × Bool)
  step_behind f at_end ts = if at_end then Ok ((f, false), ts) else and_then (item f.1 ts) (λ a. pure (more f.0 a, true))

  made_leaves : {B : Type 0} (es : List NameUse) (ts us : List Token) (f : Found A → B) (b : B) (o : Outcome (Found A)) → item es ts ≡ o → and_then o (λ a. pure (f a)) ≡ Ok (b, us) → length us ≤ length ts
  made_leaves es ts us f b (Ok x) h e = omega (arith, leaves es ts x.1 x.0 h, ap length (same_left (f x.0) b x.1 us e))
  made_leaves es ts us f b (Err x) h e = absurd (cc)

  behind_leaves : (f : Found (List A)) (t : Found (List A) × Bool) (ts us : List Token) (b : Bool) → step_behind f b ts ≡ Ok (t, us) → length us ≤ length ts
  behind_leaves f t ts us true e = omega (arith, ap length (same_left (f, false) t ts us e))
  behind_leaves f t ts us false e = made_leaves f.1 ts us (λ a. (more f.0 a, true)) t (item f.1 ts) refl e

  step_falls : (s t : Found (List A) × Bool) (ts us : List Token) (o : Outcome (Unit {0})) → symbol k.Comma ts ≡ o
      → and_then o (λ _. either (k.Comma ∷ close ∷ []) (pure (s.0, false)) (item s.0.1 >>= λ a. pure (more s.0.0 a, true))) ≡ Ok (t, us) → length us < length ts
  step_falls s t ts us (Ok x) h e = omega (arith, comma_takes ts x.1 h, behind_leaves s.0 t x.1 us (has (k.Comma ∷ close ∷ []) (kind x.1)) e)
  step_falls s t ts us (Err x) h e = absurd (cc)

  falls : Falls ongoing (k.Comma ∷ []) (rules.comma_step close item)
  falls s ts us t y e = step_falls s t ts us (symbol k.Comma ts) refl e

  -- ---- from one place to the next

  item_goes : (f : Found (List A)) (o : Outcome (Found A)) → and_then (and_then (and_then o (λ a. pure (more f.0 a, true))) steps) (λ s. pure s.0) ≡ and_then o (λ a. more_items close item (more f.0 a))
  item_goes f (Ok x) = refl
  item_goes f (Err x) = refl

  behind_goes : (f : Found (List A)) (ts : List Token) (b : Bool) → and_then (and_then (step_behind f b ts) steps) (λ s. pure s.0) ≡ and_then (behind_comma b ts) (items_from close item f)
  behind_goes f ts true = ap (λ o. and_then o (λ s. pure s.0)) (loop_done ongoing (k.Comma ∷ []) (rules.comma_step close item) falls (f, false) ts (λ m. absurd (cc)))
  behind_goes f ts false = item_goes f (item f.1 ts)

  comma_goes : (f : Found (List A)) (o : Outcome (Unit {0})) → and_then (and_then (and_then o (λ _. either (k.Comma ∷ close ∷ []) (pure (f, false)) (item f.1 >>= λ a. pure (more f.0 a, true)))) steps) (λ s. pure s.0) ≡ and_then (and_then o (λ _. either (k.Comma ∷ close ∷ []) (pure false) (pure true))) (items_from close item f)
  comma_goes f (Ok x) = behind_goes f x.1 (has (k.Comma ∷ close ∷ []) (kind x.1))
  comma_goes f (Err x) = refl

  place_goes : (f : Found (List A)) (ts : List Token) (b : Bool) → has (k.Comma ∷ []) (kind ts) ≡ b
      → more_items close item f ts ≡ and_then (place_by close b ts) (items_from close item f)
  place_goes f ts true h = ap (λ o. and_then o (λ s. pure s.0)) (loop_more ongoing (k.Comma ∷ []) (rules.comma_step close item) falls (f, true) ts refl h) ∙ comma_goes f (symbol k.Comma ts)
  place_goes f ts false h = ap (λ o. and_then o (λ s. pure s.0)) (loop_done ongoing (k.Comma ∷ []) (rules.comma_step close item) falls (f, true) ts (λ _. h))

  pub list_goes : (all : Outcome (Found (List A))) (found next : List A) (es fs : List NameUse) (a : A) (m again : Bool) (ts us vs : List Token)
      → all ≡ items_from close item (found, es) m ts → m ≡ true → item es ts ≡ Ok ((a, fs), us) → next ≡ found ++ a ∷ [] → next_place close us ≡ Ok (again, vs) → all ≡ items_from close item (next, fs) again vs
  list_goes all found next es fs a m again ts us vs e i r n p =
      one_there close item all (found, es) m ts e i
      ∙ (ap (λ o. and_then o (λ x. more_items close item (more found x))) r ∙ (place_goes (more found (a, fs)) us (has (k.Comma ∷ []) (kind us)) refl
      ∙ (ap (λ o. and_then o (items_from close item (more found (a, fs)))) p ∙ ap (λ (z : List A). items_from close item (z, fs) again vs) (sym n))))

  -- ---- its end

  behind_left : (again : Bool) (ts us : List Token) (b : Bool) → behind_comma b ts ≡ Ok (again, us) → length us + places again ≤ suc (length ts)
  behind_left again ts us true e = omega (arith, ap length (same_left false again ts us e), at_most_one again)
  behind_left again ts us false e = omega (arith, ap length (same_left true again ts us e), at_most_one again)

  comma_left : (again : Bool) (ts us : List Token) (o : Outcome (Unit {0})) → symbol k.Comma ts ≡ o → and_then o (λ _. either (k.Comma ∷ close ∷ []) (pure false) (pure true)) ≡ Ok (again, us) → length us + places again ≤ length ts
  comma_left again ts us (Ok x) h e = omega (arith, comma_takes ts x.1 h, behind_left again x.1 us (has (k.Comma ∷ close ∷ []) (kind x.1)) e)
  comma_left again ts us (Err x) h e = absurd (cc)

  place_left : (again : Bool) (ts us : List Token) (b : Bool) → place_by close b ts ≡ Ok (again, us) → length us + places again ≤ length ts
  place_left again ts us true e = comma_left again ts us (symbol k.Comma ts) refl e
  place_left again ts us false e = omega (arith, ap length (same_left false again ts us e), ap places (same_value false again ts us e))

  pub list_falls : (es : List NameUse) (a : Found A) (m again : Bool) (ts us vs : List Token) → m ≡ true → item es ts ≡ Ok (a, us) → next_place close us ≡ Ok (again, vs) → length vs + places again < length ts + places m
  list_falls es a true again ts us vs i r p = omega (arith, place_left again us vs (has (k.Comma ∷ []) (kind us)) p, leaves es ts us a r)
  list_falls es a false again ts us vs i r p = absurd (cc)

-- ---- brackets, and steps

pub gives_along : {X Y : Type 0} (view : X → Y) (r : Result X ParseError) (all o : Result Y Fault) → all ≡ o → Gives view r o → Gives view r all
gives_along view r all o e h = subst (λ z. Gives view r z) (sym e) h

pub bracketed_goes : {A : Type 0} (room : ℕ) (from to : Kind) (body : Parser A) (a : A) (ts us vs : List Token)
    → opening room from ts ≡ Ok (tt, us) → body us ≡ Ok (a, vs) → bracketed room from to body ts ≡ and_then (symbol to vs) (λ _. pure a)
unfolding bracketed
bracketed_goes room from to body a ts us vs e r = ap (λ o. and_then o (λ _. (body >>= λ x. (symbol to >> pure x)))) e ∙ ap (λ o. and_then o (λ x. (symbol to >> pure x))) r

-- the steps so far, behind what they stand behind
abbrev behind : Expr → Outcome (Found (List Access)) → Outcome Accessed
behind first (Ok x) = Ok (((first, x.0.0), x.0.1), x.1)
behind first (Err e) = Err e

accesses_on : (first : Expr) (found : List Access) (es : List NameUse) (o : Outcome (Found Access))
    → and_then o (λ x. pure (access_more ((first, found), es) x)) ≡ behind first (and_then o (λ x. pure (more found x)))
accesses_on first found es (Ok x) = refl
accesses_on first found es (Err e) = refl

pub access_reads : (first : Expr) (found next : List Access) (es fs : List NameUse) (us : List Token) (o : Outcome (Found Access))
    → and_then o (λ x. pure (more found x)) ≡ Ok ((next, fs), us) → and_then o (λ x. pure (access_more ((first, found), es) x)) ≡ Ok (((first, next), fs), us)
access_reads first found next es fs us o h = accesses_on first found es o ∙ ap (behind first) h

pub access_fails : (first : Expr) (found : List Access) (es : List NameUse) (o : Outcome (Found Access)) (r : ParseError)
    → Fails r (and_then o (λ x. pure (more found x))) → Fails r (and_then o (λ x. pure (access_more ((first, found), es) x)))
access_fails first found es o errors.NoMemory h = tt
access_fails first found es o (errors.Refused k left) h = accesses_on first found es o ∙ ap (behind first) h
