-- What a turn row shows, by its kind, its answer and its words.
use Rattle.std.specs.Prelude.{codes}
use Rattle.std.proofs.Common.{◌≡◌, ℕ, ◌<◌, ◌&&◌, Bool, true, false, List, Option, Some, None, refl, sym, ap, ◌∙◌}
use Rattle.std.specs.Str.{bytes_eq}
use Rattle.serde_json.specs.Data as json
use Rattle.serde_json.specs.Data.{Items}
use Rattle.row_records.specs.Views.{kind_view}
use Rattle.row_records.specs.declared.rows.Kind as code
use Rattle.row_records.specs.declared.rows.Kind.TheVariants as code_kinds
use Rattle.row_records.specs.fair_rows.ExitCauses.{Owners, cause_by_row, cause_if, instance_of, is_of, is_ok, name, serves}
use Rattle.row_records.specs.turn_rows.Causes as causes
use Rattle.row_records.specs.turn_rows.Causes.{Cause}
use Rattle.row_records.specs.turn_rows.Form.{objects_end}
use Rattle.row_records.specs.turn_rows.Kinds.{Kind}
use Rattle.row_records.specs.turn_rows.Turns.{Answer, ok, refused, threw, spent, Turn}
use Rattle.told_causes.specs.ToldFacets.{is_number, owner_name}
use Rattle.told_causes.proofs.Named.{name_test}

and_all : (a b m z : Bool) → a ≡ true → m ≡ true → b ≡ z → ((a && b) && m) ≡ z
and_all a b m z h k l = ap (λ (a : Bool). (a && b) && m) h ∙ ap (λ (m : Bool). b && m) k ∙ by b ∙ l
  where
    by : (b : Bool) → (b && true) ≡ b
    by true = refl
    by false = refl

and_none : (a m : Bool) → m ≡ false → (a && m) ≡ false
and_none true m h = h
and_none false m h = refl

pub requested : (t : Turn) (n : ℕ) (z : Option ℕ) → is_ok t.answer ≡ true → bytes_eq t.method (codes "tryExit") ≡ true → bytes_eq t.on (name (codes "seat") n) ≡ is_number z n
    → cause_if (is_number z n) causes.asked ≡ cause_if (serves (name (codes "seat") n) (codes "tryExit") t) causes.asked
requested t n z given method on = ap (λ (b : Bool). cause_if b causes.asked) (sym (and_all (is_ok t.answer) (bytes_eq t.on (name (codes "seat") n)) (bytes_eq t.method (codes "tryExit")) (is_number z n) given method on))

pub not_requested : (t : Turn) (n : ℕ) → bytes_eq t.method (codes "tryExit") ≡ false → None ≡ cause_if (serves (name (codes "seat") n) (codes "tryExit") t) causes.asked
not_requested t n method = ap (λ (b : Bool). cause_if b causes.asked) (sym (and_none (is_ok t.answer && bytes_eq t.on (name (codes "seat") n)) (bytes_eq t.method (codes "tryExit")) method))

module _ (os : Owners) (t : Turn) (m n : ℕ) where
  pub by_deadline : (k : code.Kind) (a : Answer) → k ≡ code_kinds.Deadline → cause_by_row (kind_view k) a os t m n ≡ cause_if (bytes_eq t.on (name (codes "seat") n)) causes.deadline
  by_deadline k a is = ap (λ (k : code.Kind). cause_by_row (kind_view k) a os t m n) is

  pub by_request : (k : code.Kind) (d : json.Data) → k ≡ code_kinds.Service → cause_by_row (kind_view k) (ok d) os t m n ≡ cause_if (serves (name (codes "seat") n) (codes "tryExit") t) causes.asked
  by_request k d is = ap (λ (k : code.Kind). cause_by_row (kind_view k) (ok d) os t m n) is

  pub by_answer : (k : code.Kind) (d : json.Data) → (k ≡ code_kinds.Service → ⊥) → (k ≡ code_kinds.Deadline → ⊥) → cause_by_row (kind_view k) (ok d) os t m n ≡ None
  by_answer code_kinds.Service d h l = absurd (h refl)
  by_answer code_kinds.Facet d h l = refl
  by_answer code_kinds.Handler d h l = refl
  by_answer code_kinds.Wake d h l = refl
  by_answer code_kinds.Notify d h l = refl
  by_answer code_kinds.Deadline d h l = absurd (l refl)
  by_answer code_kinds.Start d h l = refl
  by_answer code_kinds.Tick d h l = refl
  by_answer code_kinds.Give d h l = refl
  by_answer code_kinds.Bad d h l = refl
  by_answer code_kinds.Message d h l = refl

  pub by_refusal : (k : code.Kind) (c : List ℕ) (shown : Items) → (k ≡ code_kinds.Deadline → ⊥) → cause_by_row (kind_view k) (refused c shown) os t m n ≡ None
  by_refusal code_kinds.Service c s l = refl
  by_refusal code_kinds.Facet c s l = refl
  by_refusal code_kinds.Handler c s l = refl
  by_refusal code_kinds.Wake c s l = refl
  by_refusal code_kinds.Notify c s l = refl
  by_refusal code_kinds.Deadline c s l = absurd (l refl)
  by_refusal code_kinds.Start c s l = refl
  by_refusal code_kinds.Tick c s l = refl
  by_refusal code_kinds.Give c s l = refl
  by_refusal code_kinds.Bad c s l = refl
  by_refusal code_kinds.Message c s l = refl

  pub by_handler : (k : code.Kind) (d : json.Data) → k ≡ code_kinds.Handler → cause_by_row (kind_view k) (threw d) os t m n ≡ cause_if (bytes_eq t.on (name (codes "zseat") n)) causes.threw
  by_handler k d is = ap (λ (k : code.Kind). cause_by_row (kind_view k) (threw d) os t m n) is

  pub by_throw : (k : code.Kind) (d : json.Data) → (k ≡ code_kinds.Handler → ⊥) → (k ≡ code_kinds.Start → ⊥) → (k ≡ code_kinds.Deadline → ⊥) → cause_by_row (kind_view k) (threw d) os t m n ≡ None
  by_throw code_kinds.Service d h s l = refl
  by_throw code_kinds.Facet d h s l = refl
  by_throw code_kinds.Handler d h s l = absurd (h refl)
  by_throw code_kinds.Wake d h s l = refl
  by_throw code_kinds.Notify d h s l = refl
  by_throw code_kinds.Deadline d h s l = absurd (l refl)
  by_throw code_kinds.Start d h s l = absurd (s refl)
  by_throw code_kinds.Tick d h s l = refl
  by_throw code_kinds.Give d h s l = refl
  by_throw code_kinds.Bad d h s l = refl
  by_throw code_kinds.Message d h s l = refl

  -- the instance of the turn
  module _ (instance : Option ℕ) (k : code.Kind) (kind_is : t.kind ≡ kind_view k) (is : owner_name instance ≡ instance_of os (kind_view k) t) (low : m < objects_end) where
    of_it : is_of (instance_of os t.kind t) m ≡ is_number instance m
    of_it = ap (λ (k : Kind). is_of (instance_of os k t) m) kind_is ∙ ap (λ o. is_of o m) (sym is) ∙ by instance
      where
        by : (o : Option ℕ) → is_of (owner_name o) m ≡ is_number o m
        by (Some o) = name_test (codes "instance") o m low
        by None = refl

    pub by_start : (d : json.Data) → k ≡ code_kinds.Start → cause_by_row (kind_view k) (threw d) os t m n ≡ cause_if (is_number instance m) causes.halted
    by_start d start = ap (λ (k : code.Kind). cause_by_row (kind_view k) (threw d) os t m n) start ∙ ap (λ (b : Bool). cause_if b causes.halted) of_it

    pub by_meter : (meter : ℕ) → (k ≡ code_kinds.Deadline → ⊥) → cause_by_row (kind_view k) (spent meter) os t m n ≡ cause_if (is_number instance m) causes.spent
    by_meter meter l = all k l ∙ ap (λ (b : Bool). cause_if b causes.spent) of_it
      where
        all : (k : code.Kind) → (k ≡ code_kinds.Deadline → ⊥) → cause_by_row (kind_view k) (spent meter) os t m n ≡ cause_if (is_of (instance_of os t.kind t) m) causes.spent
        all code_kinds.Service l = refl
        all code_kinds.Facet l = refl
        all code_kinds.Handler l = refl
        all code_kinds.Wake l = refl
        all code_kinds.Notify l = refl
        all code_kinds.Deadline l = absurd (l refl)
        all code_kinds.Start l = refl
        all code_kinds.Tick l = refl
        all code_kinds.Give l = refl
        all code_kinds.Bad l = refl
        all code_kinds.Message l = refl
