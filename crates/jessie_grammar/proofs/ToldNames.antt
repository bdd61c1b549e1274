-- A statement that begins with a name is read from that name on.
use Rattle.std.proofs.Common.{ℕ, List, inl, inr}
use Rattle.jessie_grammar.specs.declared.jessie_lexer.token.Kind.{Kind}
use Rattle.jessie_grammar.specs.declared.jessie_lexer.token.Kind.TheVariants as k
use Rattle.jessie_grammar.specs.declared.jessie_scopes.name_use.NameUse.{NameUse}
use Rattle.jessie_grammar.specs.declared.jessie_scopes.name_use.NameUse.TheVariants as name_use
use Rattle.jessie_grammar.specs.declared.syntax.Expr.{Expr}
use Rattle.jessie_grammar.specs.declared.syntax.Stmt.{Stmt}
use Rattle.jessie_grammar.specs.Refused.{Lang}
use Rattle.jessie_grammar.specs.Words.{Found, Named, spotted, long, also, assign_of, run_of}
use Rattle.jessie_grammar.specs.Lang.{◌>>=◌, ◌>>◌, ◌or◌, pure, one, symbol}
use Rattle.jessie_grammar.specs.Grammar as g
use Rattle.jessie_grammar.specs.BlockTurns as turn
use Rattle.jessie_grammar.proofs.ToldTurns.{Within, turn_right, turn_left, or_out, or_in, or_after, or_before, either}

before : {A B : Type 0} (l m : Lang A) (n : A → Lang B) → Within l m → Within (l >>= n) (m >>= n)
before l m n h ms b w = (w.0, w.1, w.2, w.3, h w.1 w.0 w.4, w.5)

abbrev Exprs : Type 1
Exprs = List NameUse → Lang (Found Expr)

abbrev Blocks : Type 1
Blocks = List NameUse → Lang (Found (List Stmt))

-- ";" behind an expression that is a statement
abbrev ran : Found Expr → Lang (Found Stmt)
ran t = symbol k.Semicolon >> pure (run_of t)

-- an expression that begins so, and ";"
abbrev Run : ℕ → Exprs → Lang (Found Expr) → Lang (Found Stmt)
Run r i l = (l >>= g.after r i) >>= λ t. (symbol k.Semicolon >> pure (run_of t))

runs : (r : ℕ) (i : Exprs) (l m : Lang (Found Expr)) → Within l m → Within (Run r i l) (Run r i m)
runs r i l m h = before (l >>= g.after r i) (m >>= g.after r i) ran (before l m (g.after r i) h)

run_out : (r : ℕ) (i : Exprs) (l m : Lang (Found Expr)) → Within (Run r i (l or m)) (Run r i l or Run r i m)
run_out r i l m ms t w = or_out (l >>= g.after r i) (m >>= g.after r i) ran ms t (before ((l or m) >>= g.after r i) ((l >>= g.after r i) or (m >>= g.after r i)) ran (or_out l m (g.after r i)) ms t w)

run_in : (r : ℕ) (i : Exprs) (l m : Lang (Found Expr)) → Within (Run r i l or Run r i m) (Run r i (l or m))
run_in r i l m ms t w = before ((l >>= g.after r i) or (m >>= g.after r i)) ((l or m) >>= g.after r i) ran (or_in l m (g.after r i)) ms t (or_in (l >>= g.after r i) (m >>= g.after r i) ran ms t w)

abbrev Name : List Kind → Lang Named
Name names = one names spotted long

-- an expression that is a name with what stands behind it
abbrev Led : ℕ → Exprs → List Kind → List NameUse → Lang (Found Expr)
Led r i names es = Name names >>= g.call_tail r i es

-- what follows a name in an expression statement
abbrev From : ℕ → Exprs → List NameUse → Named → Lang (Found Stmt)
From r i es x = Run r i (g.call_tail r i es x >>= g.post_tail r i)

name_out : (r : ℕ) (i : Exprs) (names : List Kind) (es : List NameUse) → Within (Run r i (Led r i names es >>= g.post_tail r i)) (Name names >>= From r i es)
name_out r i names es ms t w =
    let m = λ (x : Named). g.call_tail r i es x >>= g.post_tail r i in
    turn_right (Name names) (λ x. (m x >>= g.after r i)) ran ms t
    (before ((Name names >>= m) >>= g.after r i) (Name names >>= λ x. (m x >>= g.after r i)) ran (turn_right (Name names) m (g.after r i)) ms t
    (runs r i (Led r i names es >>= g.post_tail r i) (Name names >>= m) (turn_right (Name names) (g.call_tail r i es) (g.post_tail r i)) ms t w))

name_in : (r : ℕ) (i : Exprs) (names : List Kind) (es : List NameUse) → Within (Name names >>= From r i es) (Run r i (Led r i names es >>= g.post_tail r i))
name_in r i names es ms t w =
    let m = λ (x : Named). g.call_tail r i es x >>= g.post_tail r i in
    runs r i (Name names >>= m) (Led r i names es >>= g.post_tail r i) (turn_left (Name names) (g.call_tail r i es) (g.post_tail r i)) ms t
    (before (Name names >>= λ x. (m x >>= g.after r i)) ((Name names >>= m) >>= g.after r i) ran (turn_left (Name names) m (g.after r i)) ms t
    (turn_left (Name names) (λ x. (m x >>= g.after r i)) ran ms t w))

signed_out : (r : ℕ) (i l m : Exprs) (es : List NameUse) → Within (g.unary r i (λ z. (l z or m z)) es) ((l es >>= g.post_tail r i) or g.unary r i m es)
unfolding g.unary
signed_out r i l m es ms t (inl w) = inr (inl w)
signed_out r i l m es ms t (inr w) = by (or_out (l es) (m es) (g.post_tail r i) ms t w)
  where
    by : ((l es >>= g.post_tail r i) or (m es >>= g.post_tail r i)) ms t → ((l es >>= g.post_tail r i) or g.unary r i m es) ms t
    by (inl v) = inl v
    by (inr v) = inr (inr v)

signed_in : (r : ℕ) (i l m : Exprs) (es : List NameUse) → Within ((l es >>= g.post_tail r i) or g.unary r i m es) (g.unary r i (λ z. (l z or m z)) es)
unfolding g.unary
signed_in r i l m es ms t (inl w) = inr (or_in (l es) (m es) (g.post_tail r i) ms t (inl w))
signed_in r i l m es ms t (inr (inl w)) = inl w
signed_in r i l m es ms t (inr (inr w)) = inr (or_in (l es) (m es) (g.post_tail r i) ms t (inr w))

run_told : (r : ℕ) (i : Exprs) (names : List Kind) (es : List NameUse) → Within ((Name names >>= From r i es) or turn.bare_run r i es) (g.running r i names es)
unfolding g.running turn.bare_run
run_told r i names es ms t w =
    let l = Led r i names es >>= g.post_tail r i in
    let m = g.unary r i (g.bare r i) es in
    runs r i (l or m) (g.unary r i (λ z. (Led r i names z or g.bare r i z)) es) (signed_in r i (Led r i names) (g.bare r i) es) ms t
    (run_in r i l m ms t (either (Name names >>= From r i es) (Run r i m) (Run r i l) (Run r i m) (name_in r i names es) (λ ms t w. w) ms t w))

told_run : (r : ℕ) (i : Exprs) (names : List Kind) (es : List NameUse) → Within (g.running r i names es) ((Name names >>= From r i es) or turn.bare_run r i es)
unfolding g.running turn.bare_run
told_run r i names es ms t w =
    let l = Led r i names es >>= g.post_tail r i in
    let m = g.unary r i (g.bare r i) es in
    either (Run r i l) (Run r i m) (Name names >>= From r i es) (Run r i m) (name_out r i names es) (λ ms t w. w) ms t
    (run_out r i l m ms t (runs r i (g.unary r i (λ z. (Led r i names z or g.bare r i z)) es) (l or m) (signed_out r i (Led r i names) (g.bare r i) es) ms t w))

-- ---- a statement

abbrev Assigned : ℕ → Exprs → List NameUse → Named → Lang (Found Stmt)
Assigned r i es x = g.initializer (g.full r i) (also es (name_use.Assigns x.0 x.1)) >>= λ t. pure (assign_of x t)

pub led_told : (r : ℕ) (i : Exprs) (b : Blocks) (names : List Kind) (es : List NameUse) → Within (turn.led r i names es or turn.nameless r i b es) (g.simple r i b names es)
unfolding turn.led turn.nameless g.simple g.assigning
led_told r i b names es ms t (inl w) = by (or_after (Name names) (Assigned r i es) (From r i es) ms t w)
  where
    by : ((Name names >>= Assigned r i es) or (Name names >>= From r i es)) ms t → g.simple r i b names es ms t
    by (inl v) = inr (inl v)
    by (inr v) = inr (inr (inr (inr (inr (inr (inr (run_told r i names es ms t (inl v))))))))
led_told r i b names es ms t (inr (inl w)) = inl w
led_told r i b names es ms t (inr (inr (inl w))) = inr (inr (inl w))
led_told r i b names es ms t (inr (inr (inr (inl w)))) = inr (inr (inr (inl w)))
led_told r i b names es ms t (inr (inr (inr (inr (inl w))))) = inr (inr (inr (inr (inl w))))
led_told r i b names es ms t (inr (inr (inr (inr (inr (inl w)))))) = inr (inr (inr (inr (inr (inl w)))))
led_told r i b names es ms t (inr (inr (inr (inr (inr (inr (inl w))))))) = inr (inr (inr (inr (inr (inr (inl w))))))
led_told r i b names es ms t (inr (inr (inr (inr (inr (inr (inr w))))))) = inr (inr (inr (inr (inr (inr (inr (run_told r i names es ms t (inr w))))))))

pub told_led : (r : ℕ) (i : Exprs) (b : Blocks) (names : List Kind) (es : List NameUse) → Within (g.simple r i b names es) (turn.led r i names es or turn.nameless r i b es)
unfolding turn.led turn.nameless g.simple g.assigning
told_led r i b names es ms t (inl w) = inr (inl w)
told_led r i b names es ms t (inr (inl w)) = inl (or_before (Name names) (Assigned r i es) (From r i es) ms t (inl w))
told_led r i b names es ms t (inr (inr (inl w))) = inr (inr (inl w))
told_led r i b names es ms t (inr (inr (inr (inl w)))) = inr (inr (inr (inl w)))
told_led r i b names es ms t (inr (inr (inr (inr (inl w))))) = inr (inr (inr (inr (inl w))))
told_led r i b names es ms t (inr (inr (inr (inr (inr (inl w)))))) = inr (inr (inr (inr (inr (inl w)))))
told_led r i b names es ms t (inr (inr (inr (inr (inr (inr (inl w))))))) = inr (inr (inr (inr (inr (inr (inl w))))))
told_led r i b names es ms t (inr (inr (inr (inr (inr (inr (inr w))))))) = by (told_run r i names es ms t w)
  where
    by : ((Name names >>= From r i es) or turn.bare_run r i es) ms t → (turn.led r i names es or turn.nameless r i b es) ms t
    by (inl v) = inl (or_before (Name names) (Assigned r i es) (From r i es) ms t (inr v))
    by (inr v) = inr (inr (inr (inr (inr (inr (inr v))))))
