-- Values and amounts by the parts of their JSON.
use Rattle.std.proofs.Common.{◌≡◌, ◌<◌, ◌^◌, ℕ, Bool, true, false, List, [], ◌∷◌, Option, Some, None, length, nat_lt, refl, sym, ap, ◌∙◌}
use Rattle.std.specs.Prelude.{codes}
use Rattle.serde_json.specs.Data as json
use Rattle.serde_json.specs.Data.{Data, Items, Members, item, member, no_items, no_members}
use Rattle.serde_json.specs.Find.{as_array, as_object, get, get_member}
use Rattle.serde_json.specs.View.{items_view}
use Rattle.serde_json.specs.declared.value.Value.{Value as Read}
use Rattle.turn_rows.specs.Editions.{nat_end}
use Rattle.turn_rows.specs.Form.{AreElements, HasAmountForm, HasValueForm, brands_end, names_of}
use Rattle.turn_rows.specs.Rows.{amount_json, brand_name, element_json, elements_json, number_json, only, value_json}
use Rattle.turn_rows.specs.Turns.{Element, KeywordAmount, Value, counted, elements, key, number}
use Rattle.turn_rows.specs.declared.editions.Edition.{Edition}
use Rattle.turn_rows.specs.host_text.Words.{is_keyword}
use Rattle.row_reader.proofs.Named.{all_members, object_is}
use Rattle.row_reader.specs.Amounts.{amount_pair}

pub array_is : (d : Data) (ds : Items) → Some ds ≡ as_array d → d ≡ json.array ds
array_is json.null ds h = cc
array_is (json.boolean b) ds h = cc
array_is (json.number n) ds h = cc
array_is (json.string s) ds h = cc
array_is (json.array es) ds h = cc
array_is (json.object ms) ds h = cc

number_no_array : (n : ℕ) (b : Bool) → nat_lt n (2 ^ 63) ≡ b → as_array (number_json n) ≡ None
number_no_array n true is = rw is refl
number_no_array n false is = rw is refl

pub no_elements : (e : Edition) (v : Value) (d : Data) (ds : Items) → Some ds ≡ as_array d → ((es : List Element) → AreElements es → elements_json es ≡ ds → ⊥) → HasValueForm e v → value_json v ≡ d → ⊥
no_elements e (number n) d ds is none h same =
    let fails : as_array (number_json n) ≡ None = number_no_array n (nat_lt n (2 ^ 63)) refl in
    let holds : Some ds ≡ as_array (number_json n) = is ∙ sym (ap as_array same) in
    absurd (cc)
no_elements e (elements es) d ds is none h same =
    let holds : Some (elements_json es) ≡ Some ds = ap as_array same ∙ sym is in
    let one : elements_json es ≡ ds = cc in
    none es h one

pub no_number : (e : Edition) (v : Value) (d : Data) → None ≡ as_array d → ((n : ℕ) → n < nat_end e → number_json n ≡ d → ⊥) → HasValueForm e v → value_json v ≡ d → ⊥
no_number e (number n) d is none h same = none n h same
no_number e (elements es) d is none h same =
    let holds : Some (elements_json es) ≡ None = ap as_array same ∙ sym is in
    absurd (cc)

-- ---- amounts

pub amount_is : (k word : List ℕ) (b : ℕ) (v : Value) (d : Data) (ms : Members) (x y : Data) → k ≡ word → Some ms ≡ as_object d → names_of ms ≡ codes "brand" ∷ codes "value" ∷ []
    → Some x ≡ get_member (codes "brand") ms → Some y ≡ get_member (codes "value") ms → only (codes "@") (json.string (brand_name b)) ≡ x → value_json v ≡ y → ◌≡◌ {A = List ℕ × Data} (k, amount_json b v) (word, d)
amount_is k word b v d ms x y name is named brand value first second =
    let all : ms ≡ member (codes "brand") x (member (codes "value") y no_members) = all_members (codes "brand" ∷ codes "value" ∷ []) (x ∷ y ∷ []) ms named refl (sym brand, (sym value, tt)) in
    let whole : amount_json b v ≡ d =
    ap (λ p. json.object (member (codes "brand") p (member (codes "value") (value_json v) no_members))) first ∙ ap (λ p. json.object (member (codes "brand") x (member (codes "value") p no_members))) second
    ∙ ap json.object (sym all) ∙ sym (object_is d ms is) in
    λ i. (name i, whole i)

module _ (a : KeywordAmount) (word : List ℕ) (d : Data) (same : amount_pair a ≡ (word, d)) where
  its_json : amount_json a.brand a.value ≡ d
  its_json = ap (λ (q : List ℕ × Data). q.1) same

  pub its_word : a.keyword ≡ word
  its_word = ap (λ (q : List ℕ × Data). q.0) same

  pub no_object : None ≡ as_object d → ⊥
  no_object none = let holds : as_object (amount_json a.brand a.value) ≡ None = ap as_object its_json ∙ sym none in absurd (cc)

  module _ (ms : Members) (is : Some ms ≡ as_object d) where
    pub its_members : member (codes "brand") (only (codes "@") (json.string (brand_name a.brand))) (member (codes "value") (value_json a.value) no_members) ≡ ms
    its_members =
        let two : Some (member (codes "brand") (only (codes "@") (json.string (brand_name a.brand))) (member (codes "value") (value_json a.value) no_members)) ≡ Some ms = ap as_object its_json ∙ sym is in
        cc

    pub its_names : names_of ms ≡ codes "brand" ∷ codes "value" ∷ []
    its_names = ap names_of (sym its_members)

    pub its_brand : get_member (codes "brand") ms ≡ Some (only (codes "@") (json.string (brand_name a.brand)))
    its_brand = ap (get_member (codes "brand")) (sym its_members)

    pub its_value : get_member (codes "value") ms ≡ Some (value_json a.value)
    its_value = ap (get_member (codes "value")) (sym its_members)

    pub no_member : (o : Option Data) (n : List ℕ) (x : Data) → get_member n ms ≡ Some x → None ≡ get_member n ms → ⊥
    no_member o n x holds fails = absurd (cc)

pub member_same : (o : Option Data) (x y : Data) → o ≡ Some x → Some y ≡ o → x ≡ y
member_same o x y holds is = let one : Some x ≡ Some y = sym holds ∙ sym is in cc

pub no_names : (b : Bool) (names wanted : List (List ℕ)) → (names ≡ wanted → b ≡ true) → b ≡ false → names ≡ wanted → ⊥
no_names b names wanted back fails same = let holds : b ≡ true = back same in absurd (cc)

two_of : (ds : Items) (vs : List Read) (d e : Data) → (length vs ≡ 2 → ⊥) → item d (item e no_items) ≡ items_view vs → ⊥
two_of ds [] d e other same = cc
two_of ds (v ∷ []) d e other same = cc
two_of ds (v ∷ w ∷ []) d e other same = other refl
two_of ds (v ∷ w ∷ x ∷ vs) d e other same = cc

-- an element with a count has two items
pub two_items : (x : Element) (vs : List Read) → (length vs ≡ 2 → ⊥) → element_json x ≡ json.array (items_view vs) → ⊥
two_items (key s) vs other same = cc
two_items (counted s n) vs other same =
    let items : item (json.string s) (item (number_json n) no_items) ≡ items_view vs = cc in
    two_of no_items vs (json.string s) (number_json n) other items
