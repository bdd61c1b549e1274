-- What a call shows, by its words.
use Rattle.std.specs.Prelude.{IfSome, IsNone, IsTrue, codes}
use Rattle.std.proofs.Common.{◌≡◌, ℕ, ◌<◌, ◌&&◌, ◌||◌, ◌↔◌, inl, inr, Bool, true, false, List, Option, Some, None, is_some, refl, sym, ap, subst, ◌∙◌, arith}
use Rattle.std.specs.Str.{bytes_eq}
use Rattle.std.proofs.lemmas.Slice.Eq.{bytes_eq-Decides}
use Rattle.row_forms.specs.Names.{has_number}
use Rattle.row_forms.proofs.Numbered.{number_decides, words_decide}
use Rattle.row_records.specs.fair_rows.ExitCauses.{cause_if, cause_of_call, cause_of_own_call, either, is_call, is_ok, name}
use Rattle.row_records.specs.turn_rows.Causes as causes
use Rattle.row_records.specs.turn_rows.Causes.{Cause}
use Rattle.row_records.specs.turn_rows.Form.{HasCallForm, IsCalled, IsNumbered, IsObjectName, brand_words, brands_end, object_words, objects_end}
use Rattle.row_records.specs.turn_rows.Kinds as kinds
use Rattle.row_records.specs.turn_rows.Kinds.{How}
use Rattle.row_records.specs.turn_rows.Turns.{Call}
use Rattle.told_causes.specs.ToldCauses.{IsKitCall, IsShownBy, shown_of, shown_own}
use Rattle.told_causes.specs.ToldFacets.{is_number}
use Rattle.told_causes.specs.declared.standings.Shows.{Shows}
use Rattle.told_causes.specs.declared.standings.Shows.TheVariants.{Nothing}

-- ---- by tests of the words: it was answered; it is on the seat; its method is exit, or fail; it is on the instance's
-- power; its method is shutdown, or shutdownWithFailure

own_by : Bool → Bool → Bool → Bool → Option Cause
own_by x t e f = either (cause_if ((x && t) && e) causes.exit) (cause_if ((x && t) && f) causes.fail)

all_by : Bool → Bool → Bool → Bool → Bool → Bool → Bool → Option Cause
unfolding own_by
all_by x t e f u s w = either (own_by x t e f) (cause_if (((x && u) && s) || ((x && u) && w)) causes.halted)

own_none : (x t e f : Bool) → x ≡ false → own_by x t e f ≡ None
unfolding own_by
own_none true t e f h = absurd (cc)
own_none false t e f h = refl

all_none : (x t e f u s w : Bool) → x ≡ false → all_by x t e f u s w ≡ None
unfolding own_by all_by
all_none true t e f u s w h = absurd (cc)
all_none false t e f u s w h = refl

own_exit : (x t e f : Bool) → x ≡ true → e ≡ true → f ≡ false → own_by x t e f ≡ cause_if t causes.exit
unfolding own_by
own_exit true true true false h k l = refl
own_exit true false true false h k l = refl
own_exit true true true true h k l = absurd (cc l)
own_exit true false true true h k l = absurd (cc l)
own_exit true true false f h k l = absurd (cc k)
own_exit true false false f h k l = absurd (cc k)
own_exit false t e f h k l = absurd (cc h)

own_fail : (x t e f : Bool) → x ≡ true → e ≡ false → f ≡ true → own_by x t e f ≡ cause_if t causes.fail
unfolding own_by
own_fail true true false true h k l = refl
own_fail true false false true h k l = refl
own_fail true true true f h k l = absurd (cc k)
own_fail true false true f h k l = absurd (cc k)
own_fail true true false false h k l = absurd (cc l)
own_fail true false false false h k l = absurd (cc l)
own_fail false t e f h k l = absurd (cc h)

own_other : (x t e f : Bool) → e ≡ false → f ≡ false → own_by x t e f ≡ None
unfolding own_by
own_other true true false false h k = refl
own_other true false false false h k = refl
own_other false t false false h k = refl
own_other x t true f h k = absurd (cc h)
own_other x t false true h k = absurd (cc k)

all_own : (x t e f u s w : Bool) → s ≡ false → w ≡ false → all_by x t e f u s w ≡ own_by x t e f
unfolding all_by
all_own x t e f u s w h k = ap (λ (s : Bool). either (own_by x t e f) (cause_if (((x && u) && s) || ((x && u) && w)) causes.halted)) h ∙ ap (λ (w : Bool). either (own_by x t e f) (cause_if (((x && u) && false) || ((x && u) && w)) causes.halted)) k ∙ by (x && u) (own_by x t e f)
  where
    by : (b : Bool) (o : Option Cause) → either o (cause_if ((b && false) || (b && false)) causes.halted) ≡ o
    by true (Some c) = refl
    by true None = refl
    by false (Some c) = refl
    by false None = refl

all_halt : (x t e f u s w : Bool) → x ≡ true → e ≡ false → f ≡ false → (s || w) ≡ true → all_by x t e f u s w ≡ cause_if u causes.halted
unfolding all_by
all_halt x t e f u s w h k l m = ap (λ (o : Option Cause). either o (cause_if (((x && u) && s) || ((x && u) && w)) causes.halted)) (own_other x t e f k l) ∙ by x u s w h m
  where
    by : (x u s w : Bool) → x ≡ true → (s || w) ≡ true → cause_if (((x && u) && s) || ((x && u) && w)) causes.halted ≡ cause_if u causes.halted
    by true true true w h m = refl
    by true true false true h m = refl
    by true true false false h m = absurd (cc m)
    by true false s w h m = refl
    by false u s w h m = absurd (cc h)

abbrev pub was_answered : Call → Bool
was_answered c = is_call c.how && is_ok c.answer

module _ (c : Call) where
  own_is : (n : ℕ) → cause_of_own_call n c ≡ own_by (was_answered c) (bytes_eq c.on (name (codes "zseat") n)) (bytes_eq c.method (codes "exit")) (bytes_eq c.method (codes "fail"))
  unfolding own_by
  own_is n = refl

  all_is : (m n : ℕ) → cause_of_call m n c ≡ all_by (was_answered c) (bytes_eq c.on (name (codes "zseat") n)) (bytes_eq c.method (codes "exit")) (bytes_eq c.method (codes "fail")) (bytes_eq c.on (name (codes "zcf") m)) (bytes_eq c.method (codes "shutdown")) (bytes_eq c.method (codes "shutdownWithFailure"))
  unfolding own_by all_by
  all_is m n = refl

  pub unanswered : was_answered c ≡ false → IsShownBy Nothing c
  unanswered x = record {
    own = λ n low. sym (own_is n ∙ own_none (was_answered c) _ _ _ x);
    all = λ m n high low. sym (all_is m n ∙ all_none (was_answered c) _ _ _ _ _ _ x);
  }

  method_not : (w v : List ℕ) → bytes_eq c.method w ≡ true → bytes_eq w v ≡ false → bytes_eq c.method v ≡ false
  method_not w v is no_match = ap (λ (s : List ℕ). bytes_eq s v) ((bytes_eq-Decides c.method w).0 is) ∙ no_match

  pub exit_shown : (shows : Shows) (z : Option ℕ) → was_answered c ≡ true → bytes_eq c.method (codes "exit") ≡ true → ((n : ℕ) → n < objects_end → bytes_eq c.on (name (codes "zseat") n) ≡ is_number z n)
      → ((n : ℕ) → shown_own shows n ≡ cause_if (is_number z n) causes.exit) → ((m n : ℕ) → shown_of shows m n ≡ cause_if (is_number z n) causes.exit) → IsShownBy shows c
  exit_shown shows z x is tests own all = record {
    own = λ n low. own n ∙ sym (own_is n ∙ exit_is n ∙ ap (λ (b : Bool). cause_if b causes.exit) (tests n low));
    all = λ m n high low. all m n ∙ sym (all_is m n ∙ all_own (was_answered c) _ _ _ _ _ _ (method_not (codes "exit") (codes "shutdown") is refl) (method_not (codes "exit") (codes "shutdownWithFailure") is refl) ∙ exit_is n ∙ ap (λ (b : Bool). cause_if b causes.exit) (tests n low));
  }
    where
      exit_is : (n : ℕ) → own_by (was_answered c) (bytes_eq c.on (name (codes "zseat") n)) (bytes_eq c.method (codes "exit")) (bytes_eq c.method (codes "fail")) ≡ cause_if (bytes_eq c.on (name (codes "zseat") n)) causes.exit
      exit_is n = own_exit (was_answered c) (bytes_eq c.on (name (codes "zseat") n)) (bytes_eq c.method (codes "exit")) (bytes_eq c.method (codes "fail")) x is (method_not (codes "exit") (codes "fail") is refl)

  pub fail_shown : (shows : Shows) (z : Option ℕ) → was_answered c ≡ true → bytes_eq c.method (codes "fail") ≡ true → ((n : ℕ) → n < objects_end → bytes_eq c.on (name (codes "zseat") n) ≡ is_number z n)
      → ((n : ℕ) → shown_own shows n ≡ cause_if (is_number z n) causes.fail) → ((m n : ℕ) → shown_of shows m n ≡ cause_if (is_number z n) causes.fail) → IsShownBy shows c
  fail_shown shows z x is tests own all = record {
    own = λ n low. own n ∙ sym (own_is n ∙ fail_is n ∙ ap (λ (b : Bool). cause_if b causes.fail) (tests n low));
    all = λ m n high low. all m n ∙ sym (all_is m n ∙ all_own (was_answered c) _ _ _ _ _ _ (method_not (codes "fail") (codes "shutdown") is refl) (method_not (codes "fail") (codes "shutdownWithFailure") is refl) ∙ fail_is n ∙ ap (λ (b : Bool). cause_if b causes.fail) (tests n low));
  }
    where
      fail_is : (n : ℕ) → own_by (was_answered c) (bytes_eq c.on (name (codes "zseat") n)) (bytes_eq c.method (codes "exit")) (bytes_eq c.method (codes "fail")) ≡ cause_if (bytes_eq c.on (name (codes "zseat") n)) causes.fail
      fail_is n = own_fail (was_answered c) (bytes_eq c.on (name (codes "zseat") n)) (bytes_eq c.method (codes "exit")) (bytes_eq c.method (codes "fail")) x (method_not (codes "fail") (codes "exit") is refl) is

  pub halt_shown : (shows : Shows) (z : Option ℕ) → was_answered c ≡ true → bytes_eq c.method (codes "exit") ≡ false → bytes_eq c.method (codes "fail") ≡ false
      → (bytes_eq c.method (codes "shutdown") || bytes_eq c.method (codes "shutdownWithFailure")) ≡ true → ((n : ℕ) → n < objects_end → bytes_eq c.on (name (codes "zcf") n) ≡ is_number z n)
      → ((n : ℕ) → shown_own shows n ≡ None) → ((m n : ℕ) → shown_of shows m n ≡ cause_if (is_number z m) causes.halted) → IsShownBy shows c
  halt_shown shows z x no_exit no_fail is tests own all = record {
    own = λ n low. own n ∙ sym (own_is n ∙ own_other (was_answered c) _ _ _ no_exit no_fail);
    all = λ m n high low. all m n ∙ sym (all_is m n ∙ all_halt (was_answered c) _ _ _ _ _ _ x no_exit no_fail is ∙ ap (λ (b : Bool). cause_if b causes.halted) (tests m high));
  }

  pub other_shown : bytes_eq c.method (codes "exit") ≡ false → bytes_eq c.method (codes "fail") ≡ false → bytes_eq c.method (codes "shutdown") ≡ false → bytes_eq c.method (codes "shutdownWithFailure") ≡ false → IsShownBy Nothing c
  other_shown no_exit no_fail no_halt no_failure = record {
    own = λ n low. sym (own_is n ∙ own_other (was_answered c) _ _ _ no_exit no_fail);
    all = λ m n high low. sym (all_is m n ∙ all_own (was_answered c) _ _ _ _ _ _ no_halt no_failure ∙ own_other (was_answered c) _ _ _ no_exit no_fail);
  }

-- ---- makeEmptySeatKit

or_false : (b : Bool) → (b || false) ≡ true → b ≡ true
or_false true h = refl
or_false false h = absurd (cc h)

-- an object whose name is the power's word with a number has a number below its end
zcf_low : (n : ℕ) → IsObjectName (name (codes "zcf") n) → IsNumbered (codes "zcf") objects_end (name (codes "zcf") n)
zcf_low n (inl single) = absurd (cc single)
zcf_low n (inr (inl brand)) = absurd (let no = (words_decide brands_end (name (codes "zcf") n) brand_words (omega arith)).1 brand in cc no)
zcf_low n (inr (inr other)) = (number_decides objects_end (name (codes "zcf") n) (codes "zcf") (omega arith)).0 (or_false (has_number objects_end (name (codes "zcf") n) (codes "zcf")) ((words_decide objects_end (name (codes "zcf") n) object_words (omega arith)).1 other))

both : (a b : Bool) → (a && b) ≡ true → (a ≡ true) × (b ≡ true)
both true true h = (refl, refl)
both true false h = absurd (cc h)
both false b h = absurd (cc h)

calling : (h : How) → is_call h ≡ true → h ≡ kinds.calls
calling kinds.calls h = refl
calling kinds.sends h = absurd (cc h)
calling kinds.when h = absurd (cc h)
calling kinds.far h = absurd (cc h)

pub kit_is : (c : Call) (z : Option ℕ) → was_answered c ≡ true → bytes_eq c.method (codes "makeEmptySeatKit") ≡ true → IfSome z (λ n. c.on ≡ name (codes "zcf") n) → is_some z ≡ true → IsKitCall c
kit_is c (Some n) x m on h = record { instance = n; made = ap (λ (b : Bool). (b && bytes_eq c.on (name (codes "zcf") n)) && bytes_eq c.method (codes "makeEmptySeatKit")) x ∙ ap (λ (b : Bool). b && bytes_eq c.method (codes "makeEmptySeatKit")) ((bytes_eq-Decides c.on (name (codes "zcf") n)).1 on) ∙ m }
kit_is c None x m on h = absurd (cc h)

pub kit_not : (c : Call) → HasCallForm c → (z : Option ℕ) → (IsNone z → IsNumbered (codes "zcf") objects_end c.on → ⊥) → is_some z ≡ false → IsKitCall c → ⊥
kit_not c form (Some n) none h kit = cc h
kit_not c form None none h kit =
    let outer = both ((was_answered c) && bytes_eq c.on (name (codes "zcf") kit.instance)) (bytes_eq c.method (codes "makeEmptySeatKit")) kit.made in
    let inner = both (was_answered c) (bytes_eq c.on (name (codes "zcf") kit.instance)) outer.0 in
    let on : c.on ≡ name (codes "zcf") kit.instance = (bytes_eq-Decides c.on (name (codes "zcf") kit.instance)).0 inner.1 in
    let how : c.how ≡ kinds.calls = calling c.how (both (is_call c.how) (is_ok c.answer) inner.0).0 in
    let object : IsObjectName c.on = (subst (λ (h : How). IsCalled h c.on c.method c.arguments) how form.is_called).0 in
    none refl (subst (IsNumbered (codes "zcf") objects_end) (sym on) (zcf_low kit.instance (subst IsObjectName on object)))

pub kit_word : (c : Call) → bytes_eq c.method (codes "makeEmptySeatKit") ≡ false → IsKitCall c → ⊥
kit_word c m kit = let outer = both ((was_answered c) && bytes_eq c.on (name (codes "zcf") kit.instance)) (bytes_eq c.method (codes "makeEmptySeatKit")) kit.made in let yes = outer.1 in cc

pub kit_answered : (c : Call) → was_answered c ≡ false → IsKitCall c → ⊥
kit_answered c x kit =
    let outer = both ((was_answered c) && bytes_eq c.on (name (codes "zcf") kit.instance)) (bytes_eq c.method (codes "makeEmptySeatKit")) kit.made in
    let inner = both (was_answered c) (bytes_eq c.on (name (codes "zcf") kit.instance)) outer.0 in let yes = inner.0 in cc

pub kit_decides : (c : Call) → HasCallForm c → (z : Option ℕ) (b : Bool) → was_answered c ≡ true → bytes_eq c.method (codes "makeEmptySeatKit") ≡ true → IfSome z (λ n. c.on ≡ name (codes "zcf") n)
    → (IsNone z → IsNumbered (codes "zcf") objects_end c.on → ⊥) → b ≡ is_some z → IsTrue b ↔ IsKitCall c
kit_decides c form z b x m some none is = ((λ h. kit_is c z x m some (sym is ∙ h)), (λ kit. back b is kit))
  where
    back : (b : Bool) → b ≡ is_some z → IsKitCall c → IsTrue b
    back true e kit = refl
    back false e kit = absurd (kit_not c form z none (sym e) kit)
