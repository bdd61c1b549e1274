-- Shares that are read of a record: each under a keyword of its own, in byte order, a value of a brand that was made.
use Rattle.std.specs.Prelude.{IfSome, find, map, not, option_and_then, option_map}
use Rattle.std.specs.Cmp.Lexicographic.{slice_cmp}
use Rattle.std.specs.List.{AllByRecursion}
use Rattle.std.specs.Ordering.{is_le, nat_cmp}
use Rattle.std.specs.declared.cmp.Ordering.TheVariants.{Less}
use Rattle.std.proofs.Common.{◌≡◌, ℕ, ◌+◌, Bool, true, false, cond, List, [], ◌∷◌, Option, Some, None, Ok, codes, refl, sym, ap, subst, ◌∙◌, arith}
use Rattle.std.proofs.lemmas.Option.{same_Some}
use Rattle.world_laws.specs.amount_math.ValueView.{IsValue, ValueView}
use Rattle.world_laws.specs.amount_math.declared.Kind.{Kind}
use Rattle.world_laws.specs.host_data.Amounts.{AmountData, amount_fields, has_two, kind_of_brand, read_all}
use Rattle.rule_laws.proofs.GivenData.{value_read}
use Rattle.world_laws.specs.host_data.Nodes.{AreInOrder, EachField, EachNode, ObjectIs}
use Rattle.world_laws.specs.host_text.Words.{is_keyword}
use Rattle.world_laws.specs.host_data.Tree as trees
use Rattle.world_laws.specs.host_data.Tree.{Fields, Tree, field_count, field_of, object_of, paired}
use Rattle.world_laws.specs.host_data.declared.data.Obj.{Obj}
use Rattle.world_laws.specs.host_data.declared.data.ObjKind.{ObjKind}
use Rattle.world_laws.specs.host_data.declared.data.ObjKind.TheVariants as kinds
use Rattle.rules.specs.proposals.Shares.{AreApart, amount_under, keyed_share}
use Rattle.rules.specs.proposals.Slots.{in_byte_order, placed}
use Rattle.rules.specs.proposals.declared.allocations.Share.{Share}
use Rattle.rules.specs.call_arguments.Records.{ShareData, first_ill, keywords, names, share_in, share_value, values_in}
use Rattle.world_laws.specs.refusals.Codes.{bad_value}
use Rattle.world_laws.specs.refusals.Outcomes.{bind, wanted}
use Rattle.world_laws.specs.vault_model.Lists.{amount_of}
use Rattle.rules.specs.Proposals.{valued, with_values}
use Rattle.world_laws.specs.world_state.Good.{AreNamed, AreSharesOf, AreSharesValued, IsGoodWorld, IsValued}
use Rattle.world_laws.specs.world_state.Known.{IsBrand, ObjectKnown}
use Rattle.world_laws.specs.world_state.Worlds.{State}
use Rattle.rule_laws.proofs.Forms.{got}
use Rattle.rule_laws.proofs.Records.{AllAfter, all_after, names_differ}

-- ---- what chains of options give

pub then_given : {A B : Type 0} (P : B → Type 0) (o : Option A) (f : A → Option B) → ((x : A) → o ≡ Some x → IfSome (f x) P) → IfSome (option_and_then f o) P
then_given P (Some x) f h = h x refl
then_given P None f h = tt

pub mapped_given : {A B : Type 0} (P : B → Type 0) (o : Option A) (f : A → B) → ((x : A) → o ≡ Some x → P (f x)) → IfSome (option_map f o) P
mapped_given P (Some x) f h = h x refl
mapped_given P None f h = tt

pub some_has : {A : Type 0} (P : A → Type 0) (o : Option A) (x : A) → o ≡ Some x → IfSome o P → P x
some_has P o x is h = subst (λ p. IfSome p P) is h

-- ---- names in order

abbrev pub Rises : List ℕ → List (List ℕ) → Type 0
Rises k ks = AllByRecursion (λ (q : List ℕ). slice_cmp nat_cmp k q ≡ Less) ks

abbrev pub Rising : List (List ℕ) → Type 0
Rising [] = Unit {0}
Rising (k ∷ ks) = Rises k ks × Rising ks

rises_after : (k : List ℕ) (fs : Fields) → AllAfter k fs → Rises k (names (paired fs))
rises_after k trees.no_fields all = tt
rises_after k (trees.field name t fs) all = (all.0, rises_after k fs all.1)

pub rising_names : (fs : Fields) → AreInOrder fs → Rising (names (paired fs))
rising_names trees.no_fields order = tt
rising_names (trees.field name t fs) order = (rises_after name fs (all_after name fs order.0 order.1), rising_names fs order.1)

abbrev pub share_names : List Share → List (List ℕ)
share_names shares = map (λ (r : Share). r.keyword) shares

none_after : (k : List ℕ) (shares : List Share) → Rises k (share_names shares) → amount_under k shares ≡ None
none_after k [] rises = refl
none_after k (r ∷ rs) rises = ap (λ b. cond b (Some r.amount) (amount_under k rs)) (names_differ k r.keyword rises.0) ∙ none_after k rs rises.1

pub rising_apart : (shares : List Share) → Rising (share_names shares) → AreApart shares
rising_apart [] rising = tt
rising_apart (r ∷ rs) rising = (none_after r.keyword rs rising.0, rising_apart rs rising.1)

placed_first : (r : Share) (rs : List Share) → Rises r.keyword (share_names rs) → placed r rs ≡ r ∷ rs
placed_first r [] rises = refl
placed_first r (x ∷ xs) rises = ap (λ o. cond (is_le o) (r ∷ x ∷ xs) (x ∷ placed r xs)) rises.0

-- shares in order stay as they are
pub rising_ordered : (shares : List Share) → Rising (share_names shares) → in_byte_order shares ≡ shares
rising_ordered [] rising = refl
rising_ordered (r ∷ rs) rising = ap (placed r) (rising_ordered rs rising.1) ∙ placed_first r rs rising.0

-- ---- keywords

is_not : (b : Bool) → not b ≡ false → b ≡ true
is_not true e = refl
is_not false e = cc

none_found : (b : Bool) (k : List ℕ) (o : Option (List ℕ)) → cond (not b) (Some k) o ≡ None → (b ≡ true) × (o ≡ None)
none_found true k o e = (refl, e)
none_found false k o e = absurd (cc)

pub all_keywords : (ks : List (List ℕ)) → first_ill ks ≡ None → AllByRecursion (λ (k : List ℕ). is_keyword k ≡ true) ks
unfolding first_ill
all_keywords [] none = tt
all_keywords (k ∷ ks) none =
    let both = none_found (is_keyword k) k (find (λ q. not (is_keyword q)) ks) none in
    (both.0, all_keywords ks both.1)

named_shares : (shares : List Share) → AllByRecursion (λ (k : List ℕ). is_keyword k ≡ true) (share_names shares) → AreNamed shares
named_shares [] all = tt
named_shares (r ∷ rs) all = (all.0, named_shares rs all.1)

-- ---- brands

brand_is : (w : State) (i : Option ℕ) (o : Obj) (kind : Kind) → ObjectKnown i w o → kind_of_brand o.kind ≡ Some kind → IsBrand w.brands kind o.number
brand_is w i o kind known is = by i o.kind known is
  where
    by : (i : Option ℕ) (k : ObjKind) → ObjectKnown i w (record { kind = k; number = o.number }) → kind_of_brand k ≡ Some kind → IsBrand w.brands kind o.number
    by None (kinds.Brand q) known e = subst (λ t. IsBrand w.brands t o.number) (same_Some q kind e) known
    by (Some n) (kinds.Brand q) known e = subst (λ t. IsBrand w.brands t o.number) (same_Some q kind e) known
    by _ _ known e = absurd (cc)

object_known : (P : Obj → Type 0) (n : ℕ) (t : Tree) (o : Obj) → EachNode (ObjectIs P) n t → object_of t ≡ Some o → P o
object_known P n (trees.object x) o all is = subst P (same_Some x o is) all
object_known P n _ o all is = absurd (cc)

field_known : (P : Obj → Type 0) (n : ℕ) (name : List ℕ) (t x : Tree) → EachNode (ObjectIs P) n t → field_of name t ≡ Some x → EachNode (ObjectIs P) (n + 1) x
field_known P n name (trees.fields fs) x all is = got (ObjectIs P) (n + 1) name fs x all.1 is
field_known P n name _ x all is = absurd (cc)

module _ (w : State) (h : Option ℕ) where
  abbrev IsBrandData : AmountData → Type 0
  IsBrandData a = IsBrand w.brands a.kind a.brand

  abbrev Knows : ℕ → Tree → Type 0
  Knows n t = EachNode (ObjectIs (ObjectKnown h w)) n t

  amount_known : (n : ℕ) (t : Tree) → Knows n t → IfSome (amount_fields t) IsBrandData
  amount_known n t known = by (has_two (field_count t))
    where
      object_given : (o : Obj) → ObjectKnown h w o → IfSome (option_and_then (λ kind. option_map (λ v. record { brand = o.number; kind = kind; value = v }) (field_of (codes "value") t)) (kind_of_brand o.kind)) IsBrandData
      object_given o is = then_given IsBrandData (kind_of_brand o.kind) _ (λ kind at. mapped_given IsBrandData (field_of (codes "value") t) _ (λ v there. brand_is w h o kind is at))

      by : (b : Bool) → IfSome (cond b (option_and_then (λ o. option_and_then (λ kind. option_map (λ v. record { brand = o.number; kind = kind; value = v }) (field_of (codes "value") t)) (kind_of_brand o.kind)) (option_and_then object_of (field_of (codes "brand") t))) None) IsBrandData
      by true =
          then_given IsBrandData (option_and_then object_of (field_of (codes "brand") t)) _ (λ o at.
          object_given o (some_has (ObjectKnown h w) (option_and_then object_of (field_of (codes "brand") t)) o at
          (then_given (ObjectKnown h w) (field_of (codes "brand") t) object_of (λ x there. in_object x (field_known (ObjectKnown h w) n (codes "brand") t x known there)))))
        where
          in_object : (x : Tree) → Knows (n + 1) x → IfSome (object_of x) (ObjectKnown h w)
          in_object x all = some_by (object_of x) (λ o is. object_known (ObjectKnown h w) (n + 1) x o all is)
            where
              some_by : (o : Option Obj) → ((x : Obj) → o ≡ Some x → ObjectKnown h w x) → IfSome o (ObjectKnown h w)
              some_by (Some x) to = to x refl
              some_by None to = tt
      by false = tt

  abbrev IsShareData : ShareData → Type 0
  IsShareData r = IsBrandData r.amount

  share_known : (f : List ℕ × Tree) → Knows 1 f.1 → IfSome (share_in f) IsShareData
  share_known f known = mapped_given IsShareData (amount_fields f.1) _ (λ a at. some_has IsBrandData (amount_fields f.1) a at (amount_known 1 f.1 known))

pub one_list : {A : Type 0} (P : List A → Type 0) (x : Option A) (os : Option (List A)) (l : List A) → ((y : A) (ys : List A) → x ≡ Some y → os ≡ Some ys → P (y ∷ ys)) → option_and_then (λ y. option_map (λ ys. y ∷ ys) os) x ≡ Some l → P l
one_list P (Some y) (Some ys) l h e = subst P (same_Some (y ∷ ys) l e) (h y ys refl refl)
one_list P (Some y) None l h e = absurd (cc)
one_list P None os l h e = absurd (cc)

module _ (w : State) (h : Option ℕ) where
  data_known : (fs : Fields) (give : List ShareData) → EachField (ObjectIs (ObjectKnown h w)) 1 fs → read_all share_in (paired fs) ≡ Some give → AllByRecursion (IsShareData w h) give
  data_known trees.no_fields give all e = subst (AllByRecursion (IsShareData w h)) (same_Some [] give e) tt
  data_known (trees.field name t fs) give all e =
      one_list {A = ShareData} (AllByRecursion (IsShareData w h)) (share_in (name, t)) (read_all share_in (paired fs)) give
      (λ r rs at rest. (some_has (IsShareData w h) (share_in (name, t)) r at (share_known w h (name, t) all.0), data_known fs rs all.1 rest)) e

same_name : (f : List ℕ × Tree) (r : ShareData) → share_in f ≡ Some r → r.keyword ≡ f.0
same_name f r is = some_has (λ (x : ShareData). x.keyword ≡ f.0) (share_in f) r is (mapped_given (λ (x : ShareData). x.keyword ≡ f.0) (amount_fields f.1) _ (λ a at. refl))

pub keywords_are : (fs : List (List ℕ × Tree)) (give : List ShareData) → read_all share_in fs ≡ Some give → keywords give ≡ names fs
keywords_are [] give e = sym (ap keywords (same_Some [] give e))
keywords_are (f ∷ fs) give e =
    one_list {A = ShareData} (λ rs. keywords rs ≡ names (f ∷ fs)) (share_in f) (read_all share_in fs) give
    (λ r rs at rest. ap (λ k. k ∷ keywords rs) (same_name f r at) ∙ ap (λ ks. f.0 ∷ ks) (keywords_are fs rs rest)) e

-- ---- values

-- a share is a value of a brand that was made
pub record IsReadShare (w : State) (r : Share) : Type 0 where
  pub brand : IsBrand w.brands r.amount.value.kind r.amount.brand
  pub value : IsValued r.amount.value

module _ (w : State) (h : Option ℕ) where
  share_read : (r : ShareData) (v : ValueView) → IsShareData w h r → share_value r ≡ Some v → IsReadShare w (keyed_share r.keyword (amount_of r.amount.brand v))
  share_read r v is at =
      let value = value_read r.amount.kind r.amount.value v at in
      record {
        brand = subst (λ k. IsBrand w.brands k r.amount.brand) (sym value.kind_is) is;
        value = subst (λ k. IsValue k v.content) (sym value.kind_is) value.value;
      }

  shares_read : (give : List ShareData) (values : List ValueView) → AllByRecursion (IsShareData w h) give → read_all share_value give ≡ Some values → AllByRecursion (IsReadShare w) (with_values give values) × (share_names (with_values give values) ≡ keywords give)
  shares_read [] values all e = (tt, refl)
  shares_read (r ∷ rs) values all e =
      one_list {A = ValueView} (λ vs. AllByRecursion (IsReadShare w) (with_values (r ∷ rs) vs) × (share_names (with_values (r ∷ rs) vs) ≡ keywords (r ∷ rs))) (share_value r) (read_all share_value rs) values
      (λ v vs at rest.
      let later = shares_read rs vs all.1 rest in
      ((share_read r v all.0 at, later.0), ap (λ ks. r.keyword ∷ ks) later.1)) e

-- ---- shares of a record

pub record AreRead (w : State) (shares : List Share) (ks : List (List ℕ)) : Type 0 where
  pub each : AllByRecursion (IsReadShare w) shares
  pub names_are : share_names shares ≡ ks
  pub rising : Rising (share_names shares)
  pub named : AreNamed shares

pub values_there : (give : List ShareData) (shares : List Share) (P : List Share → Type 0) → valued give ≡ Ok shares → ((values : List ValueView) → read_all share_value give ≡ Some values → P (with_values give values)) → P shares
unfolding valued values_in bind wanted
values_there give shares P is to = by (read_all share_value give) refl is
  where
    by : (o : Option (List ValueView)) → read_all share_value give ≡ o → bind (wanted o bad_value) (λ values. Ok (with_values give values)) ≡ Ok shares → P shares
    by (Some vs) at e = let same : with_values give vs ≡ shares = cc in subst P same (to vs at)
    by None at e = absurd (cc)

pub record_read : (w : State) (h : Option ℕ) (fs : Fields) (give : List ShareData) (shares : List Share) → EachField (ObjectIs (ObjectKnown h w)) 1 fs → AreInOrder fs → read_all share_in (paired fs) ≡ Some give → first_ill (keywords give) ≡ None → valued give ≡ Ok shares → AreRead w shares (names (paired fs))
record_read w h fs give shares known order reads none is =
    values_there give shares (λ rs. AreRead w rs (names (paired fs))) is (λ values at.
    let both = shares_read w h give values (data_known w h fs give known reads) at in
    let same = both.1 ∙ keywords_are (paired fs) give reads in
    record {
      each = both.0;
      names_are = same;
      rising = subst Rising (sym same) (rising_names fs order);
      named = named_shares (with_values give values) (subst (AllByRecursion (λ (k : List ℕ). is_keyword k ≡ true)) (sym both.1) (all_keywords (keywords give) none));
    })

-- ---- what follows

pub read_valued : (w : State) (shares : List Share) → AllByRecursion (IsReadShare w) shares → AreSharesValued shares
read_valued w [] all = tt
read_valued w (r ∷ rs) all = (all.0.value, read_valued w rs all.1)

pub read_of_kinds : (w : State) → IsGoodWorld w → (shares : List Share) → AllByRecursion (IsReadShare w) shares → AreSharesOf w.rights.out shares
read_of_kinds w good [] all = tt
read_of_kinds w good (r ∷ rs) all = (
  record {
    made = omega (arith, all.0.brand.made, good.brands.supplies);
    kind = good.brands.kinds r.amount.brand ∙ all.0.brand.kind_is;
  },
  read_of_kinds w good rs all.1,
)
