-- Each text comes to one answer.
use Rattle.std.proofs.Common.{◌≡◌, ℕ, ◌-◌, ◌≤◌, ◌<◌, nat_lt, Bool, true, false, if◌then◌else◌, List, [], ◌∷◌, ◌++◌, length, drop, Option, Some, None, Result, Ok, Err, refl, sym, ap, subst, ◌∙◌, arith, length-append}
use Rattle.std.specs.Prelude.{codes}
use Rattle.std.proofs.lemmas.Bool.Decides.{nat_tests}
use Rattle.jessie_grammar.specs.declared.jessie_lexer.token.Token.{Token}
use Rattle.jessie_grammar.specs.Lex.{cut}
use Rattle.jessie_grammar.specs.declared.jessie_scopes.name_use.NameUse.{NameUse}
use Rattle.jessie_grammar.specs.declared.jessie_scopes.name_use.NameFault.{NameFault}
use Rattle.jessie_grammar.specs.Scopes.{first_fault}
use Rattle.jessie_grammar.specs.declared.syntax.Module.{Module}
use Rattle.jessie_grammar.specs.declared.jessie_language.fault.Limit.{Limit}
use Rattle.jessie_grammar.specs.Words.{Found}
use Rattle.jessie_grammar.specs.Parse.{Outcome}
use Rattle.jessie_grammar.specs.Refused.{Refused}
use Rattle.jessie_grammar.specs.Grammar as grammar
use Rattle.jessie_grammar.specs.Rules as rules
use Rattle.jessie_grammar.proofs.Texts as laws
use Rattle.jessie_grammar.specs.declared.jessie_texts.refusal.ReadError.{ReadError}
use Rattle.jessie_grammar.specs.declared.jessie_texts.refusal.ReadError.TheVariants as errors
use Rattle.jessie_grammar.specs.declared.jessie_texts.refusal.TextRefusal.{TextRefusal}
use Rattle.jessie_grammar.specs.declared.jessie_texts.refusal.Refusal.TheVariants as r
use Rattle.jessie_grammar.specs.Texts.{most_bytes, most_brackets, refusal, kind_of, place_at, has_function, IsWritten, FirstRefusal, too_many_bytes, refused_token, refused_name, has_no_start, Answer, Comes}
use Rattle.jessie_grammar.specs.Answers.{place_of, by_names, by_tokens, read, EachComesToIt, ComesToNoOther, IfAnswered, Reads}

not_long : (n : ℕ) → n ≤ most_bytes → nat_lt most_bytes n ≡ false
not_long n h = grind (arith, nat_tests)

is_long : (n : ℕ) → most_bytes < n → nat_lt most_bytes n ≡ true
is_long n h = grind (arith, nat_tests)

short_text : (n : ℕ) → nat_lt most_bytes n ≡ false → n ≤ most_bytes
short_text n h = grind (arith, nat_tests)

long_text : (n : ℕ) → nat_lt most_bytes n ≡ true → most_bytes < n
long_text n h = grind (arith, nat_tests)

drop_front : (front rest : List Token) → drop (length front) (front ++ rest) ≡ rest
drop_front [] rest = refl
drop_front (t ∷ front) rest = drop_front front rest

place_is : (total left : ℕ) (ts front rest : List Token) → ts ≡ front ++ rest → left ≡ length rest → place_of total ts left ≡ place_at total rest
place_is total left ts front rest e i =
    let n : length ts - left ≡ length front = omega (arith, ap length e, length-append front rest, i) in
    ap (λ m. place_at total (drop m ts)) n ∙ (ap (λ z. place_at total (drop (length front) z)) e ∙ ap (place_at total) (drop_front front rest))

-- ---- what a reader answers is so

started : (bytes : List ℕ) (m : Module) (name_uses : List NameUse) → IsWritten bytes m name_uses → first_fault name_uses ≡ None → (b : Bool) → has_function (codes "start") m.functions ≡ b
    → Comes bytes (if b then Ok m else Err (refusal (length bytes) r.NoStart))
started bytes m name_uses w p true e = record { name_uses = name_uses; written = w; proper = p; starts = e }
started bytes m name_uses w p false e = has_no_start m name_uses w p e

named : (bytes : List ℕ) (m : Module) (name_uses : List NameUse) → IsWritten bytes m name_uses → (o : Option (ℕ × NameFault)) → first_fault name_uses ≡ o → Comes bytes (by_names (length bytes) m o)
named bytes m name_uses w None e = started bytes m name_uses w e (has_function (codes "start") m.functions) refl
named bytes m name_uses w (Some f) e = refused_name m name_uses f.0 f.1 w e

told : (bytes : List ℕ) → length bytes ≤ most_bytes → (o : Outcome (Found Module)) → rules.text most_brackets (cut bytes) ≡ o → Comes bytes (by_tokens (length bytes) (cut bytes) o)
told bytes s (Ok x) e = named bytes x.0.0 x.0.1 (record { short = s; in_grammar = (laws.reads_texts most_brackets (cut bytes) x.1 x.0 e).1 }) (first_fault x.0.1) refl
told bytes s (Err f) e =
    let v = laws.refuses_first most_brackets (cut bytes) f e in
    let P : ℕ → Type 0 = λ n. FirstRefusal bytes (refusal n (kind_of f.0)) in
    subst P (sym (place_is (length bytes) f.1 (cut bytes) v.0 v.1 v.2 v.3)) (refused_token f.0 v.0 v.1 s v.2 v.4)

by_length : (bytes : List ℕ) (b : Bool) → nat_lt most_bytes (length bytes) ≡ b
    → Comes bytes (if b then Err (refusal most_bytes r.TooLong) else by_tokens (length bytes) (cut bytes) (rules.text most_brackets (cut bytes)))
by_length bytes true e = too_many_bytes (long_text _ e)
by_length bytes false e = told bytes (short_text _ e) (rules.text most_brackets (cut bytes)) refl

pub each_comes : EachComesToIt
unfolding read
each_comes bytes = by_length bytes (nat_lt most_bytes (length bytes)) refl

-- ---- and nothing else is

short_read : (bytes : List ℕ) → length bytes ≤ most_bytes → read bytes ≡ by_tokens (length bytes) (cut bytes) (rules.text most_brackets (cut bytes))
unfolding read
short_read bytes s = rw (not_long (length bytes) s) refl

long_read : (bytes : List ℕ) → most_bytes < length bytes → read bytes ≡ Err (refusal most_bytes r.TooLong)
unfolding read
long_read bytes s = rw (is_long (length bytes) s) refl

written_read : (bytes : List ℕ) (m : Module) (name_uses : List NameUse) → IsWritten bytes m name_uses → read bytes ≡ by_names (length bytes) m (first_fault name_uses)
written_read bytes m name_uses w = short_read bytes w.short ∙ ap (by_tokens (length bytes) (cut bytes)) (laws.reads_each most_brackets (cut bytes) (m, name_uses) w.in_grammar)

token_read : (bytes : List ℕ) (limit : Option Limit) (front rest : List Token) → length bytes ≤ most_bytes → cut bytes ≡ front ++ rest → Refused (grammar.text most_brackets) front rest limit
    → read bytes ≡ Err (refusal (place_at (length bytes) rest) (kind_of limit))
token_read bytes limit front rest s e h =
    short_read bytes s
    ∙ (ap (by_tokens (length bytes) (cut bytes)) (ap (rules.text most_brackets) e ∙ laws.refused_each most_brackets front rest limit h)
    ∙ ap (λ n. Err (refusal n (kind_of limit))) (place_is (length bytes) (length rest) (cut bytes) front rest e refl))

refused_read : (bytes : List ℕ) (f : TextRefusal) → FirstRefusal bytes f → read bytes ≡ Err f
refused_read bytes _ (too_many_bytes s) = long_read bytes s
refused_read bytes _ (refused_token limit front rest s e h) = token_read bytes limit front rest s e h
refused_read bytes _ (refused_name m name_uses place fault w e) = written_read bytes m name_uses w ∙ ap (by_names (length bytes) m) e
refused_read bytes _ (has_no_start m name_uses w p e) =
    written_read bytes m name_uses w ∙ (ap (by_names (length bytes) m) p ∙ ap (λ b. (if b then Ok m else Err (refusal (length bytes) r.NoStart))) e)

pub one_answer : ComesToNoOther
one_answer bytes (Ok m) t = sym (written_read bytes m t.name_uses t.written ∙ (ap (by_names (length bytes) m) t.proper ∙ ap (λ b. (if b then Ok m else Err (refusal (length bytes) r.NoStart))) t.starts))
one_answer bytes (Err f) h = sym (refused_read bytes f h)

-- ---- what a function that reads says

pub answered : (bytes : List ℕ) (o : Result Module ReadError) → Reads o (read bytes) → IfAnswered o (λ a. Comes bytes a)
answered bytes (Ok m) e = subst (Comes bytes) (sym e) (each_comes bytes)
answered bytes (Err errors.NoMemory) e = tt
answered bytes (Err (errors.Refused f)) e = subst (Comes bytes) (sym e) (each_comes bytes)

pub answered_alone : (bytes : List ℕ) (o : Result Module ReadError) → Reads o (read bytes) → IfAnswered o (λ a. (b : Answer) → Comes bytes b → b ≡ a)
answered_alone bytes (Ok m) e = λ b h. one_answer bytes b h ∙ sym e
answered_alone bytes (Err errors.NoMemory) e = tt
answered_alone bytes (Err (errors.Refused f)) e = λ b h. one_answer bytes b h ∙ sym e
