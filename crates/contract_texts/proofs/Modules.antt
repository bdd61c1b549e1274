-- What is read of a text is a module as it is to be.
use Rattle.std.proofs.Common.{◌≡◌, ◌⊎◌, inl, inr, ℕ, zero, suc, ◌+◌, ◌<◌, Bool, true, false, ◌||◌, List, [], ◌∷◌, length, map, Ok, Err, refl, sym, subst, arith}
use Rattle.std.proofs.lemmas.Bool.Decides.{nat_tests}
use Rattle.std.proofs.lemmas.Slice.Eq.{bytes_eq-Decides}
use Rattle.std.specs.Prelude.{codes, nat_le, nat_lt, pos, neg_ℤ}
use Rattle.std.specs.List.{AllByRecursion}
use Rattle.std.specs.Str.{bytes_eq}
use Rattle.jessie_reader.specs.host_text.Words.{is_field_name}
use Rattle.rules.specs.turn_records.Printable.{IsNumber}
use Rattle.rules.specs.jessie_grammar.Grammar as grammar
use Rattle.rules.specs.jessie_grammar.Grammar.{body, braced, constant, constant_array, constant_field, constant_in, constant_record, constant_value, ending_block, function, heading, item, listed, module_text, name, variable}
use Rattle.rules.specs.jessie_grammar.Lang.{◌>>=◌, ◌>>◌, ◌or◌, pure, one, symbol, bracketed}
use Rattle.rules.specs.jessie_grammar.Refused.{Lang, clean}
use Rattle.rules.specs.jessie_grammar.Words.{Found, Named, also, always, add_function, add_variable, constant_array_of, constant_field_of, constant_record_of, declared, defined, function_of, inside, literal_by, literal_constant, literal_of, literals, most_functions, most_variables, negative_of, no_items, spotted, variable_of, wide, words}
use Rattle.rules.specs.jessie_grammar.Lex.{cut, limit}
use Rattle.rules.specs.jessie_grammar.Tokens.{has}
use Rattle.rules.specs.jessie_grammar.declared.jessie_lexer.token.Kind.{Kind}
use Rattle.rules.specs.jessie_grammar.declared.jessie_lexer.token.Kind.TheVariants as k
use Rattle.rules.specs.jessie_grammar.declared.jessie_lexer.token.Token.{Token}
use Rattle.rules.specs.jessie_grammar.declared.jessie_scopes.name_use.Binding.TheVariants as binding
use Rattle.rules.specs.jessie_grammar.declared.jessie_scopes.name_use.NameUse.{NameUse}
use Rattle.rules.specs.jessie_grammar.declared.jessie_scopes.name_use.NameUse.TheVariants as name_use
use Rattle.rules.specs.jessie_semantics.Naming.{IsFieldName, RoutinesWrite}
use Rattle.rules.proofs.jessie_grammar.Views.{fixed-Array, fixed-Literal, fixed-Record}
use Rattle.rules.specs.jessie_grammar.Syntax.{Routine, fixed_view, fixeds_view, named_fixeds_view, routine}
use Rattle.rules.specs.jessie_grammar.declared.syntax.Constant.{Constant}
use Rattle.rules.specs.jessie_grammar.declared.syntax.Constant as C
use Rattle.rules.specs.jessie_grammar.declared.syntax.Function.{Function}
use Rattle.rules.specs.jessie_grammar.declared.syntax.Literal.{Literal}
use Rattle.rules.specs.jessie_grammar.declared.syntax.Module.{Module}
use Rattle.rules.specs.jessie_grammar.declared.syntax.Stmt.{Stmt}
use Rattle.rules.specs.jessie_grammar.declared.syntax.Variable.{Variable}
use Rattle.rules.proofs.jessie_grammar.Answered.{each_comes}
use Rattle.rules.specs.jessie_grammar.Answers.{read}
use Rattle.rules.specs.jessie_grammar.Texts.{Answer, Comes, IsText, has_function, most_brackets}
use Rattle.rules.specs.jessie_values.Literals.{constant_tree}
use Rattle.rules.specs.Zoe.{ReadsModules}
use Rattle.rules.specs.world_state.Good.{IsModule}
use Rattle.rules.specs.world_state.Known.{IsNamed, IsPlain}
use Rattle.contract_texts.proofs.Constants.{AreFixed, AreNamed, IsFixed, IsLiteral, fixed_plain}
use Rattle.contract_texts.proofs.Langs.{Any, Gives, HasRoom, after_gives, any_gives, anything, bracketed_gives, clean_sound, iterate_gives, one_gives, or_gives, pure_gives, then_gives}
use Rattle.contract_texts.proofs.Lists.{Holds, IsSpotted, declared_gives, in_length, listed_gives, name_gives, push}
use Rattle.contract_texts.proofs.Tokens.{IsToken, all_tokens}
use Rattle.contract_texts.proofs.Written.{AreStmts, block_writes, body_gives, braced_gives}
use Rattle.contract_texts.specs.Reader.{reader, told}

-- ---- literals

number_fits : (n : ℕ) → nat_le n limit ≡ true → IsNumber (pos n)
number_fits n h = grind (arith, nat_tests)

negative_fits : (n : ℕ) → nat_le n limit ≡ true → IsNumber (neg_ℤ (pos n))
negative_fits zero h = omega arith
negative_fits (suc n) h = grind (arith, nat_tests)

abbrev IsConstant : ℕ → Constant → Type 0
IsConstant d c = IsFixed d (fixed_view c)

literal_constant_is : (d : ℕ) (c : Literal) → IsLiteral c → IsConstant d (C.Literal c)
literal_constant_is d c h = subst (IsFixed d) (sym (fixed-Literal c)) h

array_constant_is : (d : ℕ) (cs : List Constant) → d < 32 → AllByRecursion (IsConstant (d + 1)) cs → IsConstant d (C.Array cs)
array_constant_is d cs low h = subst (IsFixed d) (sym (fixed-Array cs)) (low, are cs h)
  where
    are : (xs : List Constant) → AllByRecursion (IsConstant (d + 1)) xs → AreFixed (d + 1) (fixeds_view xs)
    are [] h = tt
    are (x ∷ xs) h = (h.0, are xs h.1)

-- a name with a constant
abbrev IsField : ℕ → List ℕ × Constant → Type 0
IsField d m = (is_field_name m.0 ≡ true) × IsConstant d m.1

record_constant_is : (d : ℕ) (ms : List (List ℕ × Constant)) → d < 32 → AllByRecursion (IsField (d + 1)) ms → IsConstant d (C.Record ms)
record_constant_is d ms low h = subst (IsFixed d) (sym (fixed-Record ms)) (low, are ms h)
  where
    are : (xs : List (List ℕ × Constant)) → AllByRecursion (IsField (d + 1)) xs → AreNamed (d + 1) (named_fixeds_view xs)
    are [] h = tt
    are (x ∷ xs) h = (h.0.0, h.0.1, are xs h.1)

literal_by_is : (kind : Kind) (t : Token) → IsToken t → nat_le t.number limit ≡ true → IsLiteral (literal_by kind t)
literal_by_is k.Number t is fits = number_fits t.number fits
literal_by_is k.Quoted t is fits = is.utf8
literal_by_is k.True t is fits = tt
literal_by_is k.False t is fits = tt
literal_by_is _ t is fits = tt

literal_gives : Gives (one literals literal_of wide) IsLiteral
literal_gives = one_gives IsLiteral literals literal_of wide (λ t is among e. literal_by_is t.kind t is (in_length (nat_le t.number limit) _ e))

negative_gives : Gives (one (k.Number ∷ []) negative_of wide) IsLiteral
negative_gives = one_gives IsLiteral (k.Number ∷ []) negative_of wide (λ t is among e. negative_fits t.number (in_length (nat_le t.number limit) _ e))

-- ---- constants

module _ (d : ℕ) (inner : List NameUse → Lang (Found Constant)) (each : (es : List NameUse) → Gives (inner es) (Holds (IsConstant d))) where
  constant_field_gives : (es : List NameUse) → Gives (constant_field inner es) (Holds (IsField d))
  unfolding constant_field
  constant_field_gives es =
      then_gives name (λ x. symbol k.Colon >>= λ u. (inner (also es (name_use.Field x.0 x.1)) >>= λ t. pure (constant_field_of x t))) IsSpotted (Holds (IsField d)) name_gives
      (λ x is. after_gives (symbol k.Colon) (inner (also es (name_use.Field x.0 x.1)) >>= λ t. pure (constant_field_of x t)) (Holds (IsField d))
      (then_gives (inner (also es (name_use.Field x.0 x.1))) (λ t. pure (constant_field_of x t)) (Holds (IsConstant d)) (Holds (IsField d)) (each (also es (name_use.Field x.0 x.1)))
      (λ t here. pure_gives (Holds (IsField d)) (constant_field_of x t) (is, here))))

-- with room for so many brackets inside d others
abbrev Fills : ℕ → ℕ → Type 0
Fills d room = d + room ≡ 32

low_by : (d room : ℕ) → Fills d room → HasRoom room → d < 32
low_by d zero fills has = absurd has
low_by d (suc n) fills has = omega (arith, fills)

fills_inside : (d room : ℕ) → Fills d room → HasRoom room → Fills (d + 1) (inside room)
fills_inside d zero fills has = absurd has
fills_inside d (suc n) fills has = omega (arith, fills)

abbrev GivesConstants : ℕ → (List NameUse → Lang (Found Constant)) → Type 0
GivesConstants d inner = (es : List NameUse) → Gives (inner es) (Holds (IsConstant d))

array_gives : (d room : ℕ) (inner : List NameUse → Lang (Found Constant)) (es : List NameUse) → Fills d room → (HasRoom room → GivesConstants (d + 1) inner) → Gives (constant_array room inner es) (Holds (IsConstant d))
array_gives d room inner es fills each =
    let all : HasRoom room → Gives (listed inner es) (λ (ts : Found (List Constant)). (d < 32) × AllByRecursion (IsConstant (d + 1)) ts.0) =
    λ has ts a sound given. (low_by d room fills has, listed_gives (IsConstant (d + 1)) inner (each has) es ts a sound given) in
    then_gives (bracketed room k.LeftBracket k.RightBracket (listed inner es)) (λ ts. pure (constant_array_of ts)) (λ (ts : Found (List Constant)). (d < 32) × AllByRecursion (IsConstant (d + 1)) ts.0) (Holds (IsConstant d))
    (bracketed_gives room k.LeftBracket k.RightBracket (listed inner es) (λ (ts : Found (List Constant)). (d < 32) × AllByRecursion (IsConstant (d + 1)) ts.0) all)
    (λ ts is. pure_gives (Holds (IsConstant d)) (constant_array_of ts) (array_constant_is d ts.0 is.0 is.1))

record_gives : (d room : ℕ) (inner : List NameUse → Lang (Found Constant)) (es : List NameUse) → Fills d room → (HasRoom room → GivesConstants (d + 1) inner) → Gives (constant_record room inner es) (Holds (IsConstant d))
record_gives d room inner es fills each =
    let all : HasRoom room → Gives (listed (constant_field inner) (also es name_use.Opens)) (λ (ms : Found (List (List ℕ × Constant))). (d < 32) × AllByRecursion (IsField (d + 1)) ms.0) =
    λ has ts a sound given. (low_by d room fills has, listed_gives (IsField (d + 1)) (constant_field inner) (constant_field_gives (d + 1) inner (each has)) (also es name_use.Opens) ts a sound given) in
    then_gives (bracketed room k.LeftBrace k.RightBrace (listed (constant_field inner) (also es name_use.Opens))) (λ fs. pure (constant_record_of fs)) (λ (ms : Found (List (List ℕ × Constant))). (d < 32) × AllByRecursion (IsField (d + 1)) ms.0) (Holds (IsConstant d))
    (bracketed_gives room k.LeftBrace k.RightBrace (listed (constant_field inner) (also es name_use.Opens)) (λ (ms : Found (List (List ℕ × Constant))). (d < 32) × AllByRecursion (IsField (d + 1)) ms.0) all)
    (λ ms is. pure_gives (Holds (IsConstant d)) (constant_record_of ms) (record_constant_is d ms.0 is.0 is.1))

-- a literal
lone_gives : (d : ℕ) (l : Lang Literal) (es : List NameUse) → Gives l IsLiteral → Gives (l >>= λ c. pure (literal_constant es c)) (Holds (IsConstant d))
lone_gives d l es h = then_gives l (λ c. pure (literal_constant es c)) IsLiteral (Holds (IsConstant d)) h (λ c is. pure_gives (Holds (IsConstant d)) (literal_constant es c) (literal_constant_is d c is))

constant_in_gives : (d room : ℕ) (inner : List NameUse → Lang (Found Constant)) (es : List NameUse) → Fills d room → (HasRoom room → GivesConstants (d + 1) inner) → Gives (constant_in room inner es) (Holds (IsConstant d))
unfolding constant_in
constant_in_gives d room inner es fills each =
    let P : Found Constant → Type 0 = Holds (IsConstant d) in
    let lone = one literals literal_of wide >>= λ c. pure (literal_constant es c) in
    let negative = one (k.Number ∷ []) negative_of wide >>= λ c. pure (literal_constant es c) in
    or_gives P lone ((symbol k.Minus >> negative) or (constant_array room inner es or constant_record room inner es)) (lone_gives d (one literals literal_of wide) es literal_gives)
    (or_gives P (symbol k.Minus >> negative) (constant_array room inner es or constant_record room inner es) (after_gives (symbol k.Minus) negative P (lone_gives d (one (k.Number ∷ []) negative_of wide) es negative_gives))
    (or_gives P (constant_array room inner es) (constant_record room inner es) (array_gives d room inner es fills each) (record_gives d room inner es fills each)))

constant_gives : (n d room : ℕ) → Fills d room → GivesConstants d (constant n room)
unfolding constant
constant_gives zero d room fills es = lone_gives d (one literals literal_of wide) es literal_gives
constant_gives (suc n) d room fills es = constant_in_gives d room (constant n (inside room)) es fills (λ has. constant_gives n (d + 1) (inside room) (fills_inside d room fills has))

-- ---- modules

abbrev IsVariable : Variable → Type 0
IsVariable v = IsConstant 0 v.initial

abbrev IsFunction : Function → Type 0
IsFunction f = (is_field_name f.name ≡ true) × AreStmts f.body

abbrev IsRead : Found Module → Type 0
IsRead s = AllByRecursion IsVariable s.0.variables × AllByRecursion IsFunction s.0.functions

value_gives : (inner : List NameUse → Lang (Found Constant)) → GivesConstants 0 inner → GivesConstants 0 (constant_value inner)
unfolding constant_value
value_gives inner each es =
    let P : Found Constant → Type 0 = Holds (IsConstant 0) in
    after_gives (symbol k.Equals) (inner es >>= λ t. (symbol k.Semicolon >>= λ u. pure t)) P
    (then_gives (inner es) (λ t. (symbol k.Semicolon >>= λ u. pure t)) P P (each es) (λ t is. after_gives (symbol k.Semicolon) (pure t) P (pure_gives P t is)))

variable_gives : (n room : ℕ) (s : Found Module) → Fills 0 room → IsRead s → Gives (variable n room s) IsRead
unfolding variable
variable_gives n room s fills is =
    let free = nat_lt (length s.0.variables) most_variables in
    let value : Named → Lang (Found Constant) = λ x. constant_value (constant n room) (defined binding.Variable s.1 x) in
    after_gives (symbol k.Let) (one words spotted (declared free) >>= λ x. (value x >>= λ t. pure (add_variable s.0 (variable_of x.1 t)))) IsRead
    (then_gives (one words spotted (declared free)) (λ x. (value x >>= λ t. pure (add_variable s.0 (variable_of x.1 t)))) Any IsRead (anything (one words spotted (declared free)))
    (λ x any. then_gives (value x) (λ t. pure (add_variable s.0 (variable_of x.1 t))) (Holds (IsConstant 0)) IsRead (value_gives (constant n room) (constant_gives n 0 room fills) (defined binding.Variable s.1 x))
    (λ t here. pure_gives IsRead (add_variable s.0 (variable_of x.1 t)) (push IsVariable s.0.variables (variable_of x.1 t).0 is.0 here, is.1))))

heading_gives : (count : ℕ) → Gives (heading count) IsSpotted
unfolding heading
heading_gives count =
    let free = nat_lt count most_functions in
    after_gives (symbol k.Export or pure tt) (symbol k.Const >>= λ u. (one words spotted (declared free) >>= λ x. (symbol k.Equals >>= λ v. pure x))) IsSpotted
    (after_gives (symbol k.Const) (one words spotted (declared free) >>= λ x. (symbol k.Equals >>= λ v. pure x)) IsSpotted
    (then_gives (one words spotted (declared free)) (λ x. (symbol k.Equals >>= λ v. pure x)) IsSpotted IsSpotted (declared_gives free)
    (λ x is. after_gives (symbol k.Equals) (pure x) IsSpotted (pure_gives IsSpotted x is))))

ending_gives : (block : List NameUse → Lang (Found (List Stmt))) → ((es : List NameUse) → Gives (block es) (Holds AreStmts)) → (es : List NameUse) → Gives (ending_block block es) (Holds AreStmts)
unfolding ending_block
ending_gives block stmts es = after_gives _ _ (Holds AreStmts) (then_gives _ _ (Holds AreStmts) (Holds AreStmts) (stmts es) (λ b h. after_gives _ _ (Holds AreStmts) (pure_gives (Holds AreStmts) b h)))

function_gives : (n room : ℕ) (s : Found Module) → IsRead s → Gives (function n room s) IsRead
unfolding function
function_gives n room s is =
    then_gives (heading (length s.0.functions)) _ IsSpotted IsRead (heading_gives (length s.0.functions))
    (λ x named. then_gives _ _ Any IsRead (anything _)
    (λ xs any. then_gives _ _ (Holds AreStmts) IsRead (ending_gives (braced room (body n (inside room))) (braced_gives room (body n (inside room)) (body_gives n (inside room))) xs.1)
    (λ b here. pure_gives IsRead (add_function s.0 (function_of x.1 xs.0 b)) (is.0, push IsFunction s.0.functions (function_of x.1 xs.0 b).0 is.1 (named, here)))))

item_gives : (n room : ℕ) (s : Found Module) → Fills 0 room → IsRead s → Gives (item n room s) IsRead
unfolding item
item_gives n room s fills is = or_gives IsRead (variable n room s) (function n room s) (variable_gives n room s fills is) (function_gives n room s is)

module_gives : (n room : ℕ) → Fills 0 room → Gives (module_text n room) IsRead
unfolding module_text
module_gives n room fills = iterate_gives IsRead always (item n room) (λ s is. item_gives n room s fills is) no_items (tt, tt)

text_gives : (room : ℕ) → Fills 0 room → Gives (grammar.text room) IsRead
unfolding grammar.text
text_gives room fills = any_gives IsRead (λ n. module_text (n + suc room) room) (λ n. module_gives (n + suc room) room fills)

-- ---- what is read

either_is : (a b : Bool) → (a || b) ≡ true → (a ≡ true) ⊎ (b ≡ true)
either_is true b e = inl refl
either_is false b e = inr e

has_named : (x : List ℕ) (fs : List Function) → has_function x fs ≡ true → IsNamed x (map routine fs)
has_named x [] e = absurd (cc)
has_named x (f ∷ fs) e =
    elim (either_is (bytes_eq f.name x) (has_function x fs) e) [ inl here ↦ inl ((bytes_eq-Decides f.name x).0 here) | inr later ↦ inr (has_named x fs later) ]

variables_plain : (vs : List Variable) → AllByRecursion IsVariable vs → AllByRecursion IsPlain (map (λ v. constant_tree v.initial) vs)
variables_plain [] h = tt
variables_plain (v ∷ vs) h = (fixed_plain (fixed_view v.initial) h.0, variables_plain vs h.1)

functions_named : (fs : List Function) → AllByRecursion IsFunction fs → AllByRecursion (λ (r : Routine). is_field_name r.name ≡ true) (map routine fs)
functions_named [] h = tt
functions_named (f ∷ fs) h = (h.0.0, functions_named fs h.1)

functions_write : (fs : List Function) → AllByRecursion IsFunction fs → RoutinesWrite IsFieldName (map routine fs)
functions_write [] h = tt
functions_write (f ∷ fs) h = (block_writes f.body h.0.1, functions_write fs h.1)

text_is : (bytes : List ℕ) (m : Module) → IsText bytes m → IsModule m
text_is bytes m is =
    let found : IsRead (m, is.name_uses) = text_gives most_brackets refl (clean (cut bytes)) (m, is.name_uses) (clean_sound (cut bytes) (all_tokens bytes)) is.written.in_grammar in
    record {
      plain = variables_plain m.variables found.0;
      starts = has_named (codes "start") m.functions is.starts;
      named = functions_named m.functions found.1;
      writes = functions_write m.functions found.1;
    }

told_is : (bytes : List ℕ) (m : Module) (a : Answer) → Comes bytes a → told a ≡ Ok m → IsModule m
told_is bytes m (Ok x) is e = let same : x ≡ m = cc in subst IsModule same (text_is bytes x is)
told_is bytes m (Err f) is e = absurd (cc)

pub reads_modules : ReadsModules reader
unfolding reader
reads_modules = record { each = λ bytes m e. told_is bytes m (read bytes) (each_comes bytes) e }
