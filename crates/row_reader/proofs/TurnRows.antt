-- A turn row and its members.
use Rattle.std.proofs.Common.{◌≡◌, ◌≢◌, ◌<◌, ◌^◌, ℕ, List, [], ◌∷◌, Option, Some, None, codes, refl, sym, ap, subst, ◌∙◌}
use Rattle.serde_json.specs.Data as json
use Rattle.serde_json.specs.Data.{Data, Items, Members, no_members, member, unsigned}
use Rattle.serde_json.specs.Find.{get, get_member}
use Rattle.turn_rows.specs.Form.{AreData, HasAnswerForm, IsAnswerOf, IsDelivered, names_of}
use Rattle.turn_rows.specs.Kinds as kinds
use Rattle.turn_rows.specs.Kinds.{Kind, kind_word}
use Rattle.turn_rows.specs.ReadBack.{kind_in}
use Rattle.turn_rows.specs.Rows.{answer_json, turn_row}
use Rattle.turn_rows.specs.Turns.{Answer, Turn}
use Rattle.row_records.specs.journal_rows.Row.{IsTurnRow}
use Rattle.row_reader.proofs.CallRows.{one_answer}
use Rattle.row_reader.proofs.Named.{all_members, data_same, items_same, names_in, texts_same}

-- ---- words of kinds

kind_read : (k : Kind) → kind_in (kind_word k) ≡ k
kind_read kinds.service = refl
kind_read kinds.facet = refl
kind_read kinds.handler = refl
kind_read kinds.wake = refl
kind_read kinds.notify = refl
kind_read kinds.deadline = refl
kind_read kinds.start = refl
kind_read kinds.tick = refl
kind_read kinds.give = refl
kind_read kinds.bad = refl
kind_read kinds.message = refl

pub one_kind : (k j : Kind) → kind_word k ≡ kind_word j → k ≡ j
one_kind k j same = sym (kind_read k) ∙ ap kind_in same ∙ kind_read j

-- ---- what stands in the row

abbrev pub turn_names : List (List ℕ)
turn_names = codes "answer" ∷ codes "args" ∷ codes "by" ∷ codes "do" ∷ codes "kind" ∷ codes "n" ∷ codes "on" ∷ codes "row" ∷ []

pub turn_named : (x : Turn) (ms : Members) → turn_row x ≡ json.object ms → names_of ms ≡ turn_names
turn_named x ms same = sym (ap names_in same)

pub turn_kind : (x : Turn) (ms : Members) → turn_row x ≡ json.object ms → get_member (codes "kind") ms ≡ Some (json.string (kind_word x.kind))
turn_kind x ms same = sym (ap (get (codes "kind")) same)

pub turn_by : (x : Turn) (ms : Members) → turn_row x ≡ json.object ms → get_member (codes "by") ms ≡ Some (json.string x.by)
turn_by x ms same = sym (ap (get (codes "by")) same)

pub turn_on : (x : Turn) (ms : Members) → turn_row x ≡ json.object ms → get_member (codes "on") ms ≡ Some (json.string x.on)
turn_on x ms same = sym (ap (get (codes "on")) same)

pub turn_method : (x : Turn) (ms : Members) → turn_row x ≡ json.object ms → get_member (codes "do") ms ≡ Some (json.string x.method)
turn_method x ms same = sym (ap (get (codes "do")) same)

pub turn_arguments : (x : Turn) (ms : Members) → turn_row x ≡ json.object ms → get_member (codes "args") ms ≡ Some (json.array x.arguments)
turn_arguments x ms same = sym (ap (get (codes "args")) same)

pub turn_number : (x : Turn) (ms : Members) → turn_row x ≡ json.object ms → get_member (codes "n") ms ≡ Some (json.number (unsigned x.number))
turn_number x ms same = sym (ap (get (codes "n")) same)

pub turn_answer : (x : Turn) (ms : Members) → turn_row x ≡ json.object ms → get_member (codes "answer") ms ≡ Some (answer_json x.answer)
turn_answer x ms same = sym (ap (get (codes "answer")) same)

-- ---- what was found there

pub record AreTurnParts (ms : Members) (word by on method : List ℕ) (args : Items) (n : ℕ) (answer : Data) : Type 0 where
  pub has_kind : get_member (codes "kind") ms ≡ Some (json.string word)
  pub has_by : get_member (codes "by") ms ≡ Some (json.string by)
  pub has_on : get_member (codes "on") ms ≡ Some (json.string on)
  pub has_method : get_member (codes "do") ms ≡ Some (json.string method)
  pub has_arguments : get_member (codes "args") ms ≡ Some (json.array args)
  pub has_number : get_member (codes "n") ms ≡ Some (json.number (unsigned n))
  pub has_answer : get_member (codes "answer") ms ≡ Some answer

pub bad_kind : (ms : Members) (word by on method : List ℕ) (args : Items) (n : ℕ) (answer : Data) → AreTurnParts ms word by on method args n answer
    → ((k : Kind) → Unit {0} → kind_word k ≢ word) → (x : Turn) → IsTurnRow x → turn_row x ≡ json.object ms → ⊥
bad_kind ms word by on method args n answer parts bad x form same =
    bad x.kind tt (texts_same (get_member (codes "kind") ms) (kind_word x.kind) word (turn_kind x ms same) parts.has_kind)

pub bad_delivered : (ms : Members) (word by on method : List ℕ) (args : Items) (n : ℕ) (answer : Data) → AreTurnParts ms word by on method args n answer
    → (k : Kind) → kind_word k ≡ word → (IsDelivered k by on method args → ⊥) → (x : Turn) → IsTurnRow x → turn_row x ≡ json.object ms → ⊥
bad_delivered ms word by on method args n answer parts k is bad x form same =
    let kind : x.kind ≡ k = one_kind x.kind k (texts_same (get_member (codes "kind") ms) (kind_word x.kind) word (turn_kind x ms same) parts.has_kind ∙ sym is) in
    let caller : x.by ≡ by = texts_same (get_member (codes "by") ms) x.by by (turn_by x ms same) parts.has_by in
    let target : x.on ≡ on = texts_same (get_member (codes "on") ms) x.on on (turn_on x ms same) parts.has_on in
    let name : x.method ≡ method = texts_same (get_member (codes "do") ms) x.method method (turn_method x ms same) parts.has_method in
    let items : x.arguments ≡ args = items_same (get_member (codes "args") ms) x.arguments args (turn_arguments x ms same) parts.has_arguments in
    bad (subst (λ j. IsDelivered j by on method args) kind (subst (λ s. IsDelivered x.kind s on method args) caller
    (subst (λ s. IsDelivered x.kind x.by s method args) target (subst (λ s. IsDelivered x.kind x.by x.on s args) name
    (subst (IsDelivered x.kind x.by x.on x.method) items form.delivered)))))

pub bad_items : (ms : Members) (word by on method : List ℕ) (args : Items) (n : ℕ) (answer : Data) → AreTurnParts ms word by on method args n answer
    → (AreData args → ⊥) → (x : Turn) → IsTurnRow x → turn_row x ≡ json.object ms → ⊥
bad_items ms word by on method args n answer parts bad x form same =
    let items : x.arguments ≡ args = items_same (get_member (codes "args") ms) x.arguments args (turn_arguments x ms same) parts.has_arguments in
    bad (subst AreData items form.arguments)

pub bad_answer : (ms : Members) (word by on method : List ℕ) (args : Items) (n : ℕ) (answer : Data) → AreTurnParts ms word by on method args n answer
    → ((a : Answer) → HasAnswerForm a → answer_json a ≢ answer) → (x : Turn) → IsTurnRow x → turn_row x ≡ json.object ms → ⊥
bad_answer ms word by on method args n answer parts bad x form same =
    bad x.answer form.answer (data_same (get_member (codes "answer") ms) (answer_json x.answer) answer (turn_answer x ms same) parts.has_answer)

pub bad_answered : (ms : Members) (word by on method : List ℕ) (args : Items) (n : ℕ) (answer : Data) → AreTurnParts ms word by on method args n answer
    → (k : Kind) → kind_word k ≡ word → (a : Answer) → answer_json a ≡ answer → (IsAnswerOf k a → ⊥) → (x : Turn) → IsTurnRow x → turn_row x ≡ json.object ms → ⊥
bad_answered ms word by on method args n answer parts k is a told bad x form same =
    let kind : x.kind ≡ k = one_kind x.kind k (texts_same (get_member (codes "kind") ms) (kind_word x.kind) word (turn_kind x ms same) parts.has_kind ∙ sym is) in
    let given : x.answer ≡ a = one_answer x.answer a (data_same (get_member (codes "answer") ms) (answer_json x.answer) answer (turn_answer x ms same) parts.has_answer ∙ sym told) in
    bad (subst (λ j. IsAnswerOf j a) kind (subst (IsAnswerOf x.kind) given form.answered))

-- the row of a turn that has these parts
pub turn_is : (ms : Members) (word by on method : List ℕ) (args : Items) (n : ℕ) (answer : Data) → AreTurnParts ms word by on method args n answer
    → names_of ms ≡ turn_names → get_member (codes "row") ms ≡ Some (json.string (codes "turn"))
    → (x : Turn) → kind_word x.kind ≡ word → x.by ≡ by → x.on ≡ on → x.method ≡ method → x.arguments ≡ args → x.number ≡ n → answer_json x.answer ≡ answer
    → turn_row x ≡ json.object ms
turn_is ms word by on method args n answer parts named row x kind caller target name items number given =
    ap json.object (sym (all_members turn_names
    (answer_json x.answer ∷ json.array x.arguments ∷ json.string x.by ∷ json.string x.method ∷ json.string (kind_word x.kind) ∷ json.number (unsigned x.number) ∷ json.string x.on ∷ json.string (codes "turn") ∷ [])
    ms named refl (
      parts.has_answer ∙ ap Some (sym given),
      (
        parts.has_arguments ∙ ap (λ ds. Some (json.array ds)) (sym items),
        (
          parts.has_by ∙ ap (λ s. Some (json.string s)) (sym caller),
          (
            parts.has_method ∙ ap (λ s. Some (json.string s)) (sym name),
            (
              parts.has_kind ∙ ap (λ s. Some (json.string s)) (sym kind),
              (
                parts.has_number ∙ ap (λ m. Some (json.number (unsigned m))) (sym number),
                (
                  parts.has_on ∙ ap (λ s. Some (json.string s)) (sym target),
                  (
                    row,
                    tt,
                  ),
                ),
              ),
            ),
          ),
        ),
      ),
    )))

-- and its form
pub turn_form : (x : Turn) (by on method : List ℕ) (args : Items) → x.number < 2 ^ 64 → x.by ≡ by → x.on ≡ on → x.method ≡ method → x.arguments ≡ args
    → IsDelivered x.kind by on method args → AreData args → IsAnswerOf x.kind x.answer → HasAnswerForm x.answer → x.events ≡ [] → x.sums ≡ [] → IsTurnRow x
turn_form x by on method args small caller target name items delivered all answered answer no_events no_sums = record {
  number = small;
  delivered = subst (λ s. IsDelivered x.kind s x.on x.method x.arguments) (sym caller) (subst (λ s. IsDelivered x.kind by s x.method x.arguments) (sym target)
      (subst (λ s. IsDelivered x.kind by on s x.arguments) (sym name) (subst (IsDelivered x.kind by on method) (sym items) delivered)));
  arguments = subst AreData (sym items) all;
  answered = answered;
  answer = answer;
  no_events = no_events;
  no_sums = no_sums;
}
