-- A call row and its members.
use Rattle.std.proofs.Common.{◌≡◌, ◌≢◌, ℕ, List, [], ◌∷◌, Option, Some, None, codes, refl, sym, ap, subst, ◌∙◌}
use Rattle.serde_json.specs.Data as json
use Rattle.serde_json.specs.Data.{Data, Items, Members, no_members, member}
use Rattle.serde_json.specs.Find.{get, get_member}
use Rattle.turn_rows.specs.Form.{AreData, HasAnswerForm, HasCallForm, IsCallAnswer, IsCalled, names_of}
use Rattle.turn_rows.specs.Kinds as kinds
use Rattle.turn_rows.specs.Kinds.{How, how_word}
use Rattle.turn_rows.specs.ReadBack.{answer_in, how_in}
use Rattle.turn_rows.specs.Rows.{answer_json, call_row}
use Rattle.turn_rows.specs.Turns.{Answer, Call, ok, refused, spent, threw}
use Rattle.row_reader.proofs.Named.{all_members, data_same, items_same, names_in, texts_same}

-- ---- words and answers are read back

how_read : (h : How) → how_in (how_word h) ≡ h
how_read kinds.calls = refl
how_read kinds.sends = refl
how_read kinds.when = refl
how_read kinds.far = refl

pub one_how : (h g : How) → how_word h ≡ how_word g → h ≡ g
one_how h g same = sym (how_read h) ∙ ap how_in same ∙ how_read g

answer_read : (a : Answer) → answer_in (answer_json a) ≡ a
answer_read (ok d) = refl
answer_read (refused code shown) = refl
answer_read (threw d) = refl
answer_read (spent meter) = refl

pub one_answer : (a b : Answer) → answer_json a ≡ answer_json b → a ≡ b
one_answer a b same = sym (answer_read a) ∙ ap answer_in same ∙ answer_read b

-- ---- what stands in the row

abbrev pub call_names : List (List ℕ)
call_names = codes "answer" ∷ codes "args" ∷ codes "do" ∷ codes "how" ∷ codes "on" ∷ codes "row" ∷ []

pub call_named : (x : Call) (ms : Members) → call_row x ≡ json.object ms → names_of ms ≡ call_names
call_named x ms same = sym (ap names_in same)

pub call_how : (x : Call) (ms : Members) → call_row x ≡ json.object ms → get_member (codes "how") ms ≡ Some (json.string (how_word x.how))
call_how x ms same = sym (ap (get (codes "how")) same)

pub call_on : (x : Call) (ms : Members) → call_row x ≡ json.object ms → get_member (codes "on") ms ≡ Some (json.string x.on)
call_on x ms same = sym (ap (get (codes "on")) same)

pub call_method : (x : Call) (ms : Members) → call_row x ≡ json.object ms → get_member (codes "do") ms ≡ Some (json.string x.method)
call_method x ms same = sym (ap (get (codes "do")) same)

pub call_arguments : (x : Call) (ms : Members) → call_row x ≡ json.object ms → get_member (codes "args") ms ≡ Some (json.array x.arguments)
call_arguments x ms same = sym (ap (get (codes "args")) same)

pub call_answer : (x : Call) (ms : Members) → call_row x ≡ json.object ms → get_member (codes "answer") ms ≡ Some (answer_json x.answer)
call_answer x ms same = sym (ap (get (codes "answer")) same)

-- ---- what was found there

pub record AreCallParts (ms : Members) (word on method : List ℕ) (args : Items) (answer : Data) : Type 0 where
  pub has_how : get_member (codes "how") ms ≡ Some (json.string word)
  pub has_on : get_member (codes "on") ms ≡ Some (json.string on)
  pub has_method : get_member (codes "do") ms ≡ Some (json.string method)
  pub has_arguments : get_member (codes "args") ms ≡ Some (json.array args)
  pub has_answer : get_member (codes "answer") ms ≡ Some answer

pub bad_how : (ms : Members) (word on method : List ℕ) (args : Items) (answer : Data) → AreCallParts ms word on method args answer
    → ((h : How) → Unit {0} → how_word h ≢ word) → (x : Call) → HasCallForm x → call_row x ≡ json.object ms → ⊥
bad_how ms word on method args answer parts bad x form same =
    bad x.how tt (texts_same (get_member (codes "how") ms) (how_word x.how) word (call_how x ms same) parts.has_how)

pub bad_called : (ms : Members) (word on method : List ℕ) (args : Items) (answer : Data) → AreCallParts ms word on method args answer
    → (h : How) → how_word h ≡ word → (IsCalled h on method args → ⊥) → (x : Call) → HasCallForm x → call_row x ≡ json.object ms → ⊥
bad_called ms word on method args answer parts h is bad x form same =
    let how : x.how ≡ h = one_how x.how h (texts_same (get_member (codes "how") ms) (how_word x.how) word (call_how x ms same) parts.has_how ∙ sym is) in
    let target : x.on ≡ on = texts_same (get_member (codes "on") ms) x.on on (call_on x ms same) parts.has_on in
    let name : x.method ≡ method = texts_same (get_member (codes "do") ms) x.method method (call_method x ms same) parts.has_method in
    let items : x.arguments ≡ args = items_same (get_member (codes "args") ms) x.arguments args (call_arguments x ms same) parts.has_arguments in
    bad (subst (λ g. IsCalled g on method args) how (subst (λ s. IsCalled x.how s method args) target
    (subst (λ s. IsCalled x.how x.on s args) name (subst (IsCalled x.how x.on x.method) items form.is_called))))

pub bad_arguments : (ms : Members) (word on method : List ℕ) (args : Items) (answer : Data) → AreCallParts ms word on method args answer
    → (AreData args → ⊥) → (x : Call) → HasCallForm x → call_row x ≡ json.object ms → ⊥
bad_arguments ms word on method args answer parts bad x form same =
    let items : x.arguments ≡ args = items_same (get_member (codes "args") ms) x.arguments args (call_arguments x ms same) parts.has_arguments in
    bad (subst AreData items form.arguments)

pub bad_answer : (ms : Members) (word on method : List ℕ) (args : Items) (answer : Data) → AreCallParts ms word on method args answer
    → ((a : Answer) → HasAnswerForm a → answer_json a ≢ answer) → (x : Call) → HasCallForm x → call_row x ≡ json.object ms → ⊥
bad_answer ms word on method args answer parts bad x form same =
    bad x.answer form.answer (data_same (get_member (codes "answer") ms) (answer_json x.answer) answer (call_answer x ms same) parts.has_answer)

pub bad_answered : (ms : Members) (word on method : List ℕ) (args : Items) (answer : Data) → AreCallParts ms word on method args answer
    → (a : Answer) → answer_json a ≡ answer → (IsCallAnswer a → ⊥) → (x : Call) → HasCallForm x → call_row x ≡ json.object ms → ⊥
bad_answered ms word on method args answer parts a is bad x form same =
    let given : x.answer ≡ a = one_answer x.answer a (data_same (get_member (codes "answer") ms) (answer_json x.answer) answer (call_answer x ms same) parts.has_answer ∙ sym is) in
    bad (subst IsCallAnswer given form.answered)

-- the row of a call that has these parts
pub call_is : (ms : Members) (word on method : List ℕ) (args : Items) (answer : Data) → AreCallParts ms word on method args answer
    → names_of ms ≡ call_names → get_member (codes "row") ms ≡ Some (json.string (codes "call"))
    → (x : Call) → how_word x.how ≡ word → x.on ≡ on → x.method ≡ method → x.arguments ≡ args → answer_json x.answer ≡ answer
    → call_row x ≡ json.object ms
call_is ms word on method args answer parts named row x how target name items given =
    ap json.object (sym (all_members call_names
    (answer_json x.answer ∷ json.array x.arguments ∷ json.string x.method ∷ json.string (how_word x.how) ∷ json.string x.on ∷ json.string (codes "call") ∷ [])
    ms named refl (
      parts.has_answer ∙ ap Some (sym given),
      (
        parts.has_arguments ∙ ap (λ ds. Some (json.array ds)) (sym items),
        (
          parts.has_method ∙ ap (λ s. Some (json.string s)) (sym name),
          (
            parts.has_how ∙ ap (λ s. Some (json.string s)) (sym how),
            (
              parts.has_on ∙ ap (λ s. Some (json.string s)) (sym target),
              (
                row,
                tt,
              ),
            ),
          ),
        ),
      ),
    )))

-- and its form
pub call_form : (x : Call) (on method : List ℕ) (args : Items) → x.on ≡ on → x.method ≡ method → x.arguments ≡ args
    → IsCalled x.how on method args → AreData args → IsCallAnswer x.answer → HasAnswerForm x.answer → HasCallForm x
call_form x on method args target name items called all answered answer = record {
  is_called = subst (λ s. IsCalled x.how s x.method x.arguments) (sym target) (subst (λ s. IsCalled x.how on s x.arguments) (sym name) (subst (IsCalled x.how on method) (sym items) called));
  arguments = subst AreData (sym items) all;
  answered = answered;
  answer = answer;
}
