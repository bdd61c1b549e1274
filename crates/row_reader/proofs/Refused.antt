-- A refusal: its code and what it shows.
use Rattle.std.proofs.Common.{◌≡◌, ℕ, List, [], ◌∷◌, Option, Some, codes, refl, sym, ap, subst, ◌∙◌}
use Rattle.serde_json.specs.Data as json
use Rattle.serde_json.specs.Data.{Data, Items, Members, member, no_members}
use Rattle.serde_json.specs.Find.{get_member}
use Rattle.turn_rows.specs.Form.{AreData, HasAnswerForm, IsOneOf, names_of, refusal_codes}
use Rattle.turn_rows.specs.Rows.{answer_json, only}
use Rattle.turn_rows.specs.Turns.{Answer, refused}
use Rattle.row_reader.proofs.Named.{all_members}

abbrev pub refusal_names : List (List ℕ)
refusal_names = codes "code" ∷ codes "shown" ∷ []

-- what was read is the refusal
pub refusal_is : (v : Data) (ms : Members) (code : List ℕ) (shown : Items) → v ≡ json.object ms → names_of ms ≡ refusal_names
    → get_member (codes "code") ms ≡ Some (json.string code) → get_member (codes "shown") ms ≡ Some (json.array shown)
    → answer_json (refused code shown) ≡ only (codes "refused") v
refusal_is v ms code shown is named first second =
    let all : ms ≡ member (codes "code") (json.string code) (member (codes "shown") (json.array shown) no_members) =
    all_members refusal_names (json.string code ∷ json.array shown ∷ []) ms named refl (first, (second, tt)) in
    ap (only (codes "refused")) (sym (is ∙ ap json.object all))

-- and so are its copies
pub refusal_read : (v : Data) (ms : Members) (code own_code : List ℕ) (shown own_shown : Items) → own_code ≡ code → own_shown ≡ shown
    → v ≡ json.object ms → names_of ms ≡ refusal_names
    → get_member (codes "code") ms ≡ Some (json.string code) → get_member (codes "shown") ms ≡ Some (json.array shown)
    → IsOneOf refusal_codes code → AreData shown
    → (answer_json (refused own_code own_shown) ≡ only (codes "refused") v) × HasAnswerForm (refused own_code own_shown)
refusal_read v ms code own_code shown own_shown same_code same_shown is named first second one_of all = (
  ap (λ s. answer_json (refused s own_shown)) same_code ∙ ap (λ ds. answer_json (refused code ds)) same_shown
      ∙ refusal_is v ms code shown is named first second,
  (subst (λ s. IsOneOf refusal_codes s) (sym same_code) one_of, subst (λ ds. AreData ds) (sym same_shown) all),
)
