-- The rules read the grammar: expressions.
use Rattle.std.proofs.Common.{◌≡◌, ℕ, zero, suc, ◌<◌, Bool, true, ◌&&◌, List, [], ◌∷◌, ◌++◌, refl, arith, inl}
use Rattle.jessie_grammar.specs.declared.jessie_lexer.token.Kind.{Kind}
use Rattle.jessie_grammar.specs.declared.jessie_lexer.token.Kind.TheVariants as k
use Rattle.jessie_grammar.specs.declared.jessie_scopes.name_use.NameUse.{NameUse}
use Rattle.jessie_grammar.specs.declared.jessie_scopes.name_use.NameUse.TheVariants as name_use
use Rattle.jessie_grammar.specs.declared.syntax.Expr.{Expr}
use Rattle.jessie_grammar.specs.Refused.{Lang}
use Rattle.jessie_grammar.specs.Parse.{Parser, free}
use Rattle.jessie_grammar.specs.Words.{Found, Named, always, ongoing, spotted, used, also, literal_of, sign_of, operator_of, long, wide, free_words, words, literals, signs, access_begins, bare_begins, Level, table, inside, unaccessed, Chained, unchained, more, accessed, chained}
use Rattle.jessie_grammar.specs.Grammar as g
use Rattle.jessie_grammar.specs.Rules as p
use Rattle.jessie_grammar.proofs.Sets.{apart, filled, within_self, both}
use Rattle.jessie_grammar.proofs.Good.{Good, Word, Steps, one_good, pure_good, symbol_good, then_good, or_good, made_good, loop_good, bracketed_good, weaken}

-- ---- what follows what

abbrev pub ends : List Kind
ends = k.RightParen ∷ k.RightBracket ∷ k.RightBrace ∷ k.Comma ∷ k.Semicolon ∷ []

abbrev pub or_ends : List Kind
or_ends = k.Question ∷ k.Colon ∷ ends

-- what follows an operand of the last of these levels
abbrev pub closed : List Level → List Kind → List Kind
closed [] e = e
closed (v ∷ vs) e = closed vs (v.0 ++ e)

abbrev pub unary_ends : List Kind
unary_ends = closed table or_ends

abbrev pub prim_ends : List Kind
prim_ends = access_begins ++ unary_ends

abbrev pub prim_begins : List Kind
prim_begins = free_words ++ (bare_begins ++ k.LeftBrace ∷ [])

abbrev pub begins : List Kind
begins = signs ++ prim_begins

-- it's read, whatever was done before it
abbrev pub Reads : {A : Type 0} → (List NameUse → Lang A) → (List NameUse → Parser A) → List Kind → List Kind → Type 0
Reads l q b e = (es : List NameUse) → Good (l es) (q es) b e

-- what stands inside one more bracket: it's read, where a bracket may be open
abbrev pub In : ℕ → (List NameUse → Lang (Found Expr)) → (List NameUse → Parser (Found Expr)) → Type 0
In n l q = (0 < n → Reads l q begins ends) × ((es : List NameUse) → Word (l es))

pub name_good : (e : List Kind) → Good g.name p.name words e
unfolding g.name p.name
name_good e = one_good words spotted long e refl

-- ---- lists

comma_step_good : {A : Type 0} {l : List NameUse → Lang (Found A)} {q : List NameUse → Parser (Found A)} {b : List Kind} (close : Kind) (s : Found (List A) × Bool) → Reads l q b (k.Comma ∷ close ∷ []) → apart b (k.Comma ∷ close ∷ []) ≡ true
    → Good (g.comma_step l s) (p.comma_step close q s) (k.Comma ∷ []) (k.Comma ∷ close ∷ [])
comma_step_good {b = b} close s h v = let e = k.Comma ∷ close ∷ [] in then_good (symbol_good k.Comma (e ++ b)) (λ _. or_good (pure_good _ e) (made_good _ (h s.0.1)) v) (within_self (e ++ b))

pub comma_steps : {A : Type 0} {l : List NameUse → Lang (Found A)} {q : List NameUse → Parser (Found A)} {b : List Kind} (close : Kind) → Reads l q b (k.Comma ∷ close ∷ []) → apart b (k.Comma ∷ close ∷ []) ≡ true → apart (close ∷ []) (k.Comma ∷ []) ≡ true
    → Steps ongoing (g.comma_step l) (p.comma_step close q) (k.Comma ∷ []) (close ∷ [])
comma_steps close h v x = let e = k.Comma ∷ close ∷ [] in record { ends = e; each = λ s _. comma_step_good close s h v; on = within_self e; off = x; some = refl }

pub listed_good : {A : Type 0} {l : List NameUse → Lang (Found A)} {q : List NameUse → Parser (Found A)} {b : List Kind} (close : Kind) → Reads l q b (k.Comma ∷ close ∷ []) → apart b (k.Comma ∷ close ∷ []) ≡ true → apart b (close ∷ []) ≡ true → apart (close ∷ []) (k.Comma ∷ []) ≡ true
    → Reads (g.listed l) (p.listed close q) ((close ∷ []) ++ b) (close ∷ [])
listed_good close h v w x es = or_good (pure_good ([], es) (close ∷ [])) (then_good (h es) (λ a. made_good _ (loop_good (more [] a, true) (comma_steps close h v x))) (within_self (k.Comma ∷ close ∷ []))) w

pub args_good : {l : List NameUse → Lang (Found Expr)} {q : List NameUse → Parser (Found Expr)} (n : ℕ) (e : List Kind) → In n l q → Reads (g.args n l) (p.args n q) (k.LeftParen ∷ []) e
unfolding g.args p.args
args_good n e h es = bracketed_good n k.LeftParen k.RightParen e (λ i. listed_good k.RightParen (λ z. weaken begins (k.Comma ∷ k.RightParen ∷ []) (h.0 i z) refl refl) refl refl refl es) ([], ([], es), inl (refl, refl))

pub field_good : {l : List NameUse → Lang (Found Expr)} {q : List NameUse → Parser (Found Expr)} → Reads l q begins ends → Reads (g.field l) (p.field q) words (k.Comma ∷ k.RightBrace ∷ [])
unfolding g.field p.field
field_good h es =
    then_good (name_good (k.Colon ∷ k.Comma ∷ k.RightBrace ∷ []))
    (λ x. or_good (then_good (symbol_good k.Colon begins) (λ _. made_good _ (weaken begins (k.Comma ∷ k.RightBrace ∷ []) (h (also es (name_use.Field x.0 x.1))) refl refl)) refl) (pure_good _ (k.Comma ∷ k.RightBrace ∷ [])) refl) refl

-- ---- what an expression begins with

pub call_tail_good : {l : List NameUse → Lang (Found Expr)} {q : List NameUse → Parser (Found Expr)} (n : ℕ) (es : List NameUse) (x : Named) → In n l q → Good (g.call_tail n l es x) (p.call_tail n q es x) (k.LeftParen ∷ prim_ends) prim_ends
unfolding g.call_tail p.call_tail
call_tail_good n es x h = or_good (made_good _ (args_good n prim_ends h (also es (name_use.Calls x.0 x.1)))) (pure_good _ prim_ends) refl

pub named_good : {l : List NameUse → Lang (Found Expr)} {q : List NameUse → Parser (Found Expr)} (n : ℕ) → In n l q → Reads (g.named n l) (p.named n q) free_words prim_ends
unfolding g.named p.named
named_good n h es = then_good (one_good free_words spotted long (k.LeftParen ∷ prim_ends) refl) (λ x. call_tail_good n es x h) (within_self (k.LeftParen ∷ prim_ends))

pub method_call_good : {l : List NameUse → Lang (Found Expr)} {q : List NameUse → Parser (Found Expr)} (n : ℕ) (e : List Kind) → In n l q → Reads (g.method_call n l) (p.method_call n q) (k.Dot ∷ []) e
unfolding g.method_call p.method_call
method_call_good n e h es = then_good (symbol_good k.Dot words) (λ _. then_good (name_good (k.LeftParen ∷ [])) (λ x. made_good _ (args_good n e h es)) refl) refl

pub eventually_good : {l : List NameUse → Lang (Found Expr)} {q : List NameUse → Parser (Found Expr)} (n : ℕ) (e : List Kind) → In n l q → Reads (g.eventually n l) (p.eventually n q) (k.Eventually ∷ []) e
unfolding g.eventually p.eventually
eventually_good n e h es =
    then_good (symbol_good k.Eventually (k.LeftParen ∷ [])) (λ _. then_good (bracketed_good n k.LeftParen k.RightParen (k.Dot ∷ []) (λ i. weaken begins (k.RightParen ∷ []) (h.0 i es) refl refl) (h.1 es)) (λ t.
    made_good _ (method_call_good n e h t.1)) refl) refl

pub amount_good : {l : List NameUse → Lang (Found Expr)} {q : List NameUse → Parser (Found Expr)} (n : ℕ) (e : List Kind) → In n l q → Reads (g.amount n l) (p.amount n q) (k.AmountMath ∷ []) e
unfolding g.amount p.amount
amount_good n e h es = then_good (symbol_good k.AmountMath (k.Dot ∷ [])) (λ _. made_good _ (method_call_good n e h es)) refl

array_good : {l : List NameUse → Lang (Found Expr)} {q : List NameUse → Parser (Found Expr)} (n : ℕ) (e : List Kind) → In n l q → Reads (g.array n l) (p.array n q) (k.LeftBracket ∷ []) e
array_good n e h es =
    made_good _ (bracketed_good n k.LeftBracket k.RightBracket e (λ i. listed_good k.RightBracket (λ z. weaken begins (k.Comma ∷ k.RightBracket ∷ []) (h.0 i z) refl refl) refl refl refl es) ([], ([], es), inl (refl, refl)))

record_good : {l : List NameUse → Lang (Found Expr)} {q : List NameUse → Parser (Found Expr)} (n : ℕ) (e : List Kind) → In n l q → Reads (g.record_text n l) (p.record_text n q) (k.LeftBrace ∷ []) e
record_good n e h es =
    made_good _ (bracketed_good n k.LeftBrace k.RightBrace e (λ i. listed_good k.RightBrace (field_good (h.0 i)) refl refl refl (also es name_use.Opens)) ([], ([], also es name_use.Opens), inl (refl, refl)))

pub bare_good : {l : List NameUse → Lang (Found Expr)} {q : List NameUse → Parser (Found Expr)} (n : ℕ) (e : List Kind) → In n l q → Reads (g.bare n l) (p.bare n q) bare_begins e
unfolding g.bare p.bare
bare_good n e h es =
    or_good (made_good _ (one_good literals literal_of wide e refl)) (or_good (eventually_good n e h es) (or_good (amount_good n e h es)
    (or_good (bracketed_good n k.LeftParen k.RightParen e (λ i. weaken begins (k.RightParen ∷ []) (h.0 i es) refl refl) (h.1 es)) (array_good n e h es)
    refl) refl) refl) refl

pub prim_good : {l : List NameUse → Lang (Found Expr)} {q : List NameUse → Parser (Found Expr)} (n : ℕ) → In n l q → Reads (g.prim n l) (p.prim n q) prim_begins prim_ends
unfolding g.prim p.prim
prim_good n h es = or_good (named_good n h es) (or_good (bare_good n prim_ends h es) (record_good n prim_ends h es) refl) refl

pub post_access_good : {l : List NameUse → Lang (Found Expr)} {q : List NameUse → Parser (Found Expr)} (n : ℕ) → In n l q → Reads (g.post_access n l) (p.post_access n q) access_begins prim_ends
unfolding g.post_access p.post_access
post_access_good n h es =
    or_good (then_good (symbol_good k.Dot words) (λ _. then_good (name_good (k.LeftParen ∷ prim_ends)) (λ x. or_good (made_good _ (args_good n prim_ends h es)) (pure_good _ prim_ends) refl) (within_self (k.LeftParen ∷ prim_ends))) refl)
    (made_good _ (bracketed_good n k.LeftBracket k.RightBracket prim_ends (λ i. weaken begins (k.RightBracket ∷ []) (h.0 i es) refl refl) (h.1 es))) refl

pub post_accesses : {l : List NameUse → Lang (Found Expr)} {q : List NameUse → Parser (Found Expr)} (n : ℕ) → In n l q → Steps always (g.access_on n l) (p.access_on n q) access_begins unary_ends
post_accesses n h = record { ends = prim_ends; each = λ s _. made_good _ (post_access_good n h s.1); on = within_self prim_ends; off = refl; some = refl }

pub post_tail_good : {l : List NameUse → Lang (Found Expr)} {q : List NameUse → Parser (Found Expr)} (n : ℕ) (t : Found Expr) → In n l q → Good (g.post_tail n l t) (p.post_tail n q t) prim_ends unary_ends
unfolding g.post_tail p.post_tail
post_tail_good n t h = made_good accessed (loop_good (unaccessed t) (post_accesses n h))

pub unary_good : {l : List NameUse → Lang (Found Expr)} {q : List NameUse → Parser (Found Expr)} {f : List NameUse → Lang (Found Expr)} {r : List NameUse → Parser (Found Expr)} {b : List Kind} (n : ℕ) → In n l q → Reads f r b prim_ends → apart b signs ≡ true
    → Reads (g.unary n l f) (p.unary n q r) (signs ++ b) unary_ends
unfolding g.unary p.unary
unary_good n h v w es =
    or_good (then_good (one_good signs sign_of free prim_begins refl) (λ o. then_good (prim_good n h es) (λ t. made_good _ (post_tail_good n t h)) (within_self prim_ends)) (within_self prim_begins))
    (then_good (v es) (λ t. post_tail_good n t h) (within_self prim_ends)) w

-- ---- operators: one proof for the whole table

-- no operator of a level may follow it for another reason
abbrev pub fits : List Level → List Kind → Bool
fits [] e = true
fits (v ∷ vs) e = (filled v.0 && apart e v.0) && fits vs (v.0 ++ e)

filled_more : (s e : List Kind) → filled e ≡ true → filled (s ++ e) ≡ true
filled_more [] e h = h
filled_more (j ∷ s) e h = refl

op_step_good : {o : List NameUse → Lang (Found Expr)} {r : List NameUse → Parser (Found Expr)} {b : List Kind} (v : Level) (e : List Kind) (s : Chained × Bool) → filled v.0 ≡ true → Reads o r b (v.0 ++ e) → Good (g.op_step v o s) (p.op_step v r s) v.0 (v.0 ++ e)
unfolding g.op_step p.op_step
op_step_good {b = b} v e s f h = then_good (one_good v.0 operator_of free b f) (λ o. made_good _ (h s.0.1)) (within_self b)

pub op_steps : {o : List NameUse → Lang (Found Expr)} {r : List NameUse → Parser (Found Expr)} {b : List Kind} (v : Level) (e : List Kind) → filled v.0 ≡ true → filled e ≡ true → apart e v.0 ≡ true → Reads o r b (v.0 ++ e)
    → Steps ongoing (g.op_step v o) (p.op_step v r) v.0 e
op_steps v e f x w h = record { ends = v.0 ++ e; each = λ s _. op_step_good v e s f h; on = within_self (v.0 ++ e); off = w; some = x }

pub tails_good : (vs : List Level) {o : List NameUse → Lang (Found Expr)} {r : List NameUse → Parser (Found Expr)} {b : List Kind} (e : List Kind) (t : Found Expr) → fits vs e ≡ true → filled e ≡ true → Reads o r b (closed vs e)
    → Good (g.tails vs o t) (p.tails vs r t) (closed vs e) e
unfolding g.tails p.tails
tails_good [] e t w x h = pure_good t e
tails_good (v ∷ vs) e t w x h =
    let now = both (filled v.0 && apart e v.0) (fits vs (v.0 ++ e)) w in
    let two = both (filled v.0) (apart e v.0) now.0 in
    let later = λ (u : Found Expr). tails_good vs (v.0 ++ e) u now.1 (filled_more v.0 e x) h in
    then_good (later t) (λ u. made_good chained (made_good _ (loop_good (unchained u, true) (op_steps v e two.0 x two.1 (λ es. then_good (h es) later (within_self (closed vs (v.0 ++ e)))))))) (within_self (v.0 ++ e))

branches_good : {o : List NameUse → Lang (Found Expr)} {r : List NameUse → Parser (Found Expr)} {c : List Kind} → Reads o r c or_ends → Reads (g.branches o) (p.branches r) c ends
unfolding g.branches p.branches
branches_good {c = c} h es = then_good (h es) (λ u. then_good (symbol_good k.Colon c) (λ _. made_good _ (weaken c ends (h u.1) (within_self c) refl)) (within_self c)) refl

choice_good : {o : List NameUse → Lang (Found Expr)} {r : List NameUse → Parser (Found Expr)} {c : List Kind} (t : Found Expr) → Reads o r c or_ends → Good (g.choice o t) (p.choice r t) (k.Question ∷ ends) ends
unfolding g.choice p.choice
choice_good {c = c} t h = or_good (then_good (symbol_good k.Question c) (λ _. made_good _ (branches_good h t.1)) (within_self c)) (pure_good t ends) refl

pub after_good : {l : List NameUse → Lang (Found Expr)} {q : List NameUse → Parser (Found Expr)} (n : ℕ) (t : Found Expr) → In n l q → Good (g.after n l t) (p.after n q t) unary_ends ends
unfolding g.after p.after
after_good n t h =
    let other = unary_good n h (prim_good n h) refl in
    let later = λ (u : Found Expr). tails_good table or_ends u refl refl other in
    then_good (later t) (λ t. choice_good t (λ es. then_good (other es) later (within_self unary_ends))) refl

pub full_good : {l : List NameUse → Lang (Found Expr)} {q : List NameUse → Parser (Found Expr)} (n : ℕ) → In n l q → Reads (g.full n l) (p.full n q) begins ends
unfolding g.full p.full
full_good n h es = then_good (unary_good n h (prim_good n h) refl es) (λ t. after_good n t h) (within_self unary_ends)

-- ---- at any depth, where more may nest than may be open

pub in_with : (n room : ℕ) → room < suc n → ((r : ℕ) → r < n → Reads (g.expr n r) (p.expr r) begins ends) → In room (g.expr n (inside room)) (p.inner room)
unfolding g.expr p.inner
in_with zero zero h i = ((λ j es. absurd (omega arith)), λ es. (made_good (used es) (one_good free_words spotted long [] refl)).word)
in_with zero (suc r) h i = absurd (omega arith)
in_with (suc n) zero h i = ((λ j es. absurd (omega arith)), λ es. (i 0 (omega arith) es).word)
in_with (suc n) (suc r) h i = let g = i r (omega arith) in ((λ _. g), λ es. (g es).word)

pub expr_good : (n room : ℕ) → room < n → Reads (g.expr n room) (p.expr room) begins ends
unfolding g.expr p.expr p.inner
expr_good zero room h es = absurd (omega arith)
expr_good (suc n) zero h es = full_good 0 (in_with n 0 h (expr_good n)) es
expr_good (suc n) (suc r) h es = full_good (suc r) (in_with n (suc r) h (expr_good n)) es
