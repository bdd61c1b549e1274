-- Rows of events, sums and the close row by their members.
use Rattle.std.proofs.Common.{◌≡◌, ◌<◌, ◌^◌, ◌-◌, ◌||◌, ℕ, Bool, true, false, List, [], ◌∷◌, ◌++◌, Option, Some, None, option_and_then, refl, sym, ap, subst, ◌∙◌, arith}
use Rattle.std.proofs.lemmas.Map.Text.{is_eq-slice_cmp}
use Rattle.std.proofs.lemmas.Slice.Eq.{bytes_eq-Decides}
use Rattle.std.specs.Cmp.Lexicographic.{slice_cmp}
use Rattle.std.specs.Fmt.{decimal}
use Rattle.std.specs.List.{AllByRecursion}
use Rattle.std.specs.Ordering.{is_eq, match_ordering, nat_cmp}
use Rattle.std.specs.Prelude.{codes}
use Rattle.std.specs.Str.{bytes_eq}
use Rattle.std.specs.declared.cmp.Ordering.{Ordering}
use Rattle.std.specs.declared.cmp.Ordering.TheVariants.{Equal, Greater, Less}
use Rattle.serde_json.specs.Data as json
use Rattle.serde_json.specs.Data.{Data, Members, member, no_members}
use Rattle.serde_json.specs.Find.{as_array, as_number, as_object, as_str, as_u64, get_member}
use Rattle.turn_rows.specs.Causes.{cause_word}
use Rattle.turn_rows.specs.Editions.{version_row}
use Rattle.turn_rows.specs.Form.{HasSumForm, has_keyword, names_of}
use Rattle.turn_rows.specs.Rows.{amounts_json, brand_name, close_row, exit_row, exit_rule_json, holder_name, instance_name, move_row, open_row, payouts_json, settlement_json, settle_row, sum_row, value_json, whole}
use Rattle.turn_rows.specs.Turns.{KeywordAmount, Move, Opening, SeatExit, Settlement}
use Rattle.turn_rows.specs.declared.editions.Edition.{Edition}
use Rattle.turn_rows.specs.declared.editions.Edition.TheVariants.{First, Second}
use Rattle.turn_rows.specs.rights_model.declared.Sum.{Sum}
use Rattle.row_reader.proofs.Named.{all_members, members_found, text_found, whole_found}
use Rattle.row_reader.proofs.Numbers.{decimal_same}
use Rattle.row_reader.specs.Amounts.{AreApart}
use Rattle.row_reader.specs.Events.{sum_names, totals, totals_in}

-- ---- a row's members

pub same_members : (ns ms : Members) → json.object ns ≡ json.object ms → ns ≡ ms
same_members ns ms same = cc

pub named : (ns ms : Members) → json.object ns ≡ json.object ms → names_of ms ≡ names_of ns
named ns ms same = ap names_of (sym (same_members ns ms same))

pub got : (k : List ℕ) (ns ms : Members) → json.object ns ≡ json.object ms → get_member k ms ≡ get_member k ns
got k ns ms same = ap (get_member k) (sym (same_members ns ms same))

pub no_found : (o : Option Data) (d : Data) → None ≡ o → o ≡ Some d → ⊥
no_found o d none is = let both : None ≡ Some d = none ∙ is in cc

pub text_same : (o : Option Data) (s t : List ℕ) → Some s ≡ option_and_then as_str o → o ≡ Some (json.string t) → t ≡ s
text_same o s t found is = let both : Some s ≡ Some t = found ∙ ap (option_and_then as_str) is in cc

pub members_same : (o : Option Data) (ms ns : Members) → Some ms ≡ option_and_then as_object o → o ≡ Some (json.object ns) → ns ≡ ms
members_same o ms ns found is = let both : Some ms ≡ Some ns = found ∙ ap (option_and_then as_object) is in cc

pub data_same : (o : Option Data) (d e : Data) → Some d ≡ o → o ≡ Some e → e ≡ d
data_same o d e found is = let both : Some d ≡ Some e = found ∙ is in cc

text_got : (o : Option Data) (s t : List ℕ) → Some s ≡ option_and_then as_str o → t ≡ s → o ≡ Some (json.string t)
text_got o s t found is = text_found o s found ∙ ap (λ u. Some (json.string u)) (sym is)

members_got : (o : Option Data) (ms ns : Members) → Some ms ≡ option_and_then as_object o → ns ≡ ms → o ≡ Some (json.object ns)
members_got o ms ns found is = members_found o ms found ∙ ap (λ u. Some (json.object u)) (sym is)

data_got : (o : Option Data) (d e : Data) → Some d ≡ o → e ≡ d → o ≡ Some e
data_got o d e found is = sym found ∙ ap Some (sym is)

pub move_is : (m : Move) (ms : Members) (b f t : List ℕ) (v : Data) → names_of ms ≡ codes "brand" ∷ codes "from" ∷ codes "row" ∷ codes "to" ∷ codes "value" ∷ []
    → get_member (codes "row") ms ≡ Some (json.string (codes "move")) → Some b ≡ option_and_then as_str (get_member (codes "brand") ms) → Some f ≡ option_and_then as_str (get_member (codes "from") ms)
    → Some t ≡ option_and_then as_str (get_member (codes "to") ms) → Some v ≡ get_member (codes "value") ms → brand_name m.brand ≡ b → holder_name m.from ≡ f → holder_name m.to ≡ t → value_json m.value ≡ v
    → move_row m ≡ json.object ms
move_is m ms b f t v names row brand from to value p q r s =
    sym (ap json.object (all_members (codes "brand" ∷ codes "from" ∷ codes "row" ∷ codes "to" ∷ codes "value" ∷ [])
    (json.string (brand_name m.brand) ∷ json.string (holder_name m.from) ∷ json.string (codes "move") ∷ json.string (holder_name m.to) ∷ value_json m.value ∷ []) ms names refl
    (text_got _ b (brand_name m.brand) brand p, (text_got _ f (holder_name m.from) from q, (row, (text_got _ t (holder_name m.to) to r, (data_got _ v (value_json m.value) value s, tt)))))))

pub open_is : (o : Opening) (ms : Members) (x : Data) (g w : Members) (i : List ℕ) → names_of ms ≡ codes "exit" ∷ codes "give" ∷ codes "instance" ∷ codes "row" ∷ codes "seat" ∷ codes "want" ∷ []
    → get_member (codes "row") ms ≡ Some (json.string (codes "open")) → Some x ≡ get_member (codes "exit") ms → Some g ≡ option_and_then as_object (get_member (codes "give") ms)
    → Some i ≡ option_and_then as_str (get_member (codes "instance") ms) → Some (whole o.seat) ≡ get_member (codes "seat") ms → Some w ≡ option_and_then as_object (get_member (codes "want") ms)
    → exit_rule_json o.exit ≡ x → amounts_json o.give ≡ g → instance_name o.instance ≡ i → amounts_json o.want ≡ w → open_row o ≡ json.object ms
open_is o ms x g w i names row exit give instance seat want p q r s =
    sym (ap json.object (all_members (codes "exit" ∷ codes "give" ∷ codes "instance" ∷ codes "row" ∷ codes "seat" ∷ codes "want" ∷ [])
    (exit_rule_json o.exit ∷ json.object (amounts_json o.give) ∷ json.string (instance_name o.instance) ∷ json.string (codes "open") ∷ whole o.seat ∷ json.object (amounts_json o.want) ∷ []) ms names refl
    (data_got _ x (exit_rule_json o.exit) exit p, (members_got _ g (amounts_json o.give) give q, (text_got _ i (instance_name o.instance) instance r, (row, (sym seat, (members_got _ w (amounts_json o.want) want s, tt))))))))

pub exit_is : (x : SeatExit) (ms : Members) (w : List ℕ) (ps : Members) → names_of ms ≡ codes "cause" ∷ codes "payouts" ∷ codes "row" ∷ codes "seat" ∷ []
    → get_member (codes "row") ms ≡ Some (json.string (codes "exit")) → Some w ≡ option_and_then as_str (get_member (codes "cause") ms) → Some ps ≡ option_and_then as_object (get_member (codes "payouts") ms)
    → Some (whole x.seat) ≡ get_member (codes "seat") ms → cause_word x.cause ≡ w → payouts_json x.payouts ≡ ps → exit_row x ≡ json.object ms
exit_is x ms w ps names row cause payouts seat p q =
    sym (ap json.object (all_members (codes "cause" ∷ codes "payouts" ∷ codes "row" ∷ codes "seat" ∷ [])
    (json.string (cause_word x.cause) ∷ json.object (payouts_json x.payouts) ∷ json.string (codes "exit") ∷ whole x.seat ∷ []) ms names refl
    (text_got _ w (cause_word x.cause) cause p, (members_got _ ps (payouts_json x.payouts) payouts q, (row, (sym seat, tt))))))

pub settle_is : (n : ℕ) (s : Settlement) (ms : Members) (d : Data) → names_of ms ≡ codes "promise" ∷ codes "row" ∷ codes "to" ∷ []
    → get_member (codes "row") ms ≡ Some (json.string (codes "settle")) → Some (whole n) ≡ get_member (codes "promise") ms → Some d ≡ get_member (codes "to") ms → settlement_json s ≡ d → settle_row n s ≡ json.object ms
settle_is n s ms d names row promise to p =
    sym (ap json.object (all_members (codes "promise" ∷ codes "row" ∷ codes "to" ∷ []) (whole n ∷ json.string (codes "settle") ∷ settlement_json s ∷ []) ms names refl
    (sym promise, (row, (data_got _ d (settlement_json s) to p, tt)))))

pub close_is : (left turns : ℕ) (ms : Members) → names_of ms ≡ codes "left" ∷ codes "row" ∷ codes "turns" ∷ []
    → get_member (codes "row") ms ≡ Some (json.string (codes "close")) → Some left ≡ option_and_then as_u64 (option_and_then as_number (get_member (codes "left") ms))
    → Some turns ≡ option_and_then as_u64 (option_and_then as_number (get_member (codes "turns") ms)) → close_row left turns ≡ json.object ms
close_is left turns ms names row l t =
    sym (ap json.object (all_members (codes "left" ∷ codes "row" ∷ codes "turns" ∷ []) (whole left ∷ json.string (codes "close") ∷ whole turns ∷ []) ms names refl
    (whole_found _ left l, (row, (whole_found _ turns t, tt)))))

-- ---- no keyword stands in both

found_by : (o : Ordering) (b more : Bool) (x : Option Data) (d : Data) → is_eq o ≡ b → match_ordering o x (Some d) x ≡ None → (x ≡ None → more ≡ false) → (b || more) ≡ false
found_by Less true more x d is none rest = absurd (cc)
found_by Less false more x d is none rest = rest none
found_by Equal b more x d is none rest = absurd (cc)
found_by Greater true more x d is none rest = absurd (cc)
found_by Greater false more x d is none rest = rest none

absent : (k : List ℕ) (rows : List KeywordAmount) → get_member k (amounts_json rows) ≡ None → has_keyword k rows ≡ false
absent k [] none = refl
absent k (a ∷ rows) none = found_by (slice_cmp nat_cmp k a.keyword) (bytes_eq k a.keyword) (has_keyword k rows) (get_member k (amounts_json rows)) _ (is_eq-slice_cmp k a.keyword) none (absent k rows)

missed_by : (o : Ordering) (b more : Bool) (x : Option Data) (d : Data) → is_eq o ≡ b → (b || more) ≡ false → (more ≡ false → x ≡ None) → match_ordering o x (Some d) x ≡ None
missed_by Less true more x d is none rest = absurd (cc)
missed_by Less false more x d is none rest = rest none
missed_by Equal true more x d is none rest = absurd (cc)
missed_by Equal false more x d is none rest = absurd (cc)
missed_by Greater true more x d is none rest = absurd (cc)
missed_by Greater false more x d is none rest = rest none

missing : (k : List ℕ) (rows : List KeywordAmount) → has_keyword k rows ≡ false → get_member k (amounts_json rows) ≡ None
missing k [] none = refl
missing k (a ∷ rows) none = missed_by (slice_cmp nat_cmp k a.keyword) (bytes_eq k a.keyword) (has_keyword k rows) (get_member k (amounts_json rows)) _ (is_eq-slice_cmp k a.keyword) none (missing k rows)

here_or : (b more : Bool) (k l : List ℕ) (ms : Members) → bytes_eq k l ≡ b → (b || more) ≡ true → get_member l ms ≡ None → (more ≡ true → get_member k ms ≡ None) → get_member k ms ≡ None
here_or true more k l ms is any one rest = subst (λ n. get_member n ms ≡ None) (sym ((bytes_eq-Decides k l).0 is)) one
here_or false more k l ms is any one rest = rest any

present : (k : List ℕ) (rows : List KeywordAmount) (ms : Members) → has_keyword k rows ≡ true → AreApart (amounts_json rows) ms → get_member k ms ≡ None
present k [] ms has apart = absurd (cc)
present k (a ∷ rows) ms has apart = here_or (bytes_eq k a.keyword) (has_keyword k rows) k a.keyword ms refl has apart.0 (λ more. present k rows ms more apart.1)

pub apart_is : (give want : List KeywordAmount) (g w : Members) → amounts_json give ≡ g → amounts_json want ≡ w → AreApart g w → (k : List ℕ) → has_keyword k give ≡ true → has_keyword k want ≡ false
apart_is give want g w first second apart k has =
    absent k want (present k give (amounts_json want) has (subst (λ (q : Members × Members). AreApart q.0 q.1) (λ i. (sym first i, sym second i)) apart))

either : (b : Bool) → (b || true) ≡ true
either true = refl
either false = refl

all_apart : (give want : List KeywordAmount) → ((k : List ℕ) → has_keyword k give ≡ true → has_keyword k want ≡ false) → AreApart (amounts_json give) (amounts_json want)
all_apart [] want apart = tt
all_apart (a ∷ give) want apart =
    let here : has_keyword a.keyword (a ∷ give) ≡ true = ap (λ b. b || has_keyword a.keyword give) ((bytes_eq-Decides a.keyword a.keyword).1 refl) in
    (missing a.keyword want (apart a.keyword here), all_apart give want (λ k has. apart k (ap (λ b. bytes_eq k a.keyword || b) has ∙ either (bytes_eq k a.keyword))))

pub apart_back : (give want : List KeywordAmount) (g w : Members) → amounts_json give ≡ g → amounts_json want ≡ w → ((k : List ℕ) → has_keyword k give ≡ true → has_keyword k want ≡ false) → AreApart g w
apart_back give want g w first second apart = subst (λ (q : Members × Members). AreApart q.0 q.1) (λ i. (first i, second i)) (all_apart give want apart)

-- ---- sums

-- what stands under the names of the totals
pub totals_got : (e : Edition) (s : Sum) (ms : Members) → sum_row e s ≡ json.object ms → totals s ≡ totals_in ms
totals_got First s ms same = ap totals_in (same_members _ ms same)
totals_got Second s ms same = ap totals_in (same_members _ ms same)

pub first_sum_is : (s : Sum) (ms : Members) → names_of ms ≡ codes "brand" ∷ codes "burned" ∷ codes "minted" ∷ codes "payments" ∷ codes "purses" ∷ codes "row" ∷ codes "slots" ∷ []
    → get_member (codes "row") ms ≡ Some (json.string (codes "sum")) → totals s ≡ totals_in ms → sum_row First s ≡ json.object ms
first_sum_is s ms names row same =
    let a : Some (json.string (brand_name s.brand)) ≡ get_member (codes "brand") ms = cc in
    let b : Some (json.string (decimal s.burned)) ≡ get_member (codes "burned") ms = cc in
    let c : Some (json.string (decimal s.minted)) ≡ get_member (codes "minted") ms = cc in
    let d : Some (json.string (decimal s.payments)) ≡ get_member (codes "payments") ms = cc in
    let e : Some (json.string (decimal s.purses)) ≡ get_member (codes "purses") ms = cc in
    let f : Some (json.string (decimal s.slots)) ≡ get_member (codes "slots") ms = cc in
    sym (ap json.object (all_members (codes "brand" ∷ codes "burned" ∷ codes "minted" ∷ codes "payments" ∷ codes "purses" ∷ codes "row" ∷ codes "slots" ∷ [])
    (json.string (brand_name s.brand) ∷ json.string (decimal s.burned) ∷ json.string (decimal s.minted) ∷ json.string (decimal s.payments) ∷ json.string (decimal s.purses) ∷ json.string (codes "sum") ∷ json.string (decimal s.slots) ∷ []) ms names refl
    (sym a, (sym b, (sym c, (sym d, (sym e, (row, (sym f, tt)))))))))

pub second_sum_is : (s : Sum) (ms : Members) → names_of ms ≡ codes "brand" ∷ codes "burned" ∷ codes "minted" ∷ codes "payments" ∷ codes "purses" ∷ codes "row" ∷ codes "slots" ∷ codes "supply" ∷ []
    → get_member (codes "row") ms ≡ Some (json.string (codes "sum")) → totals s ≡ totals_in ms → Some (json.string (decimal (s.minted - s.burned))) ≡ get_member (codes "supply") ms → sum_row Second s ≡ json.object ms
second_sum_is s ms names row same supply =
    let a : Some (json.string (brand_name s.brand)) ≡ get_member (codes "brand") ms = cc in
    let b : Some (json.string (decimal s.burned)) ≡ get_member (codes "burned") ms = cc in
    let c : Some (json.string (decimal s.minted)) ≡ get_member (codes "minted") ms = cc in
    let d : Some (json.string (decimal s.payments)) ≡ get_member (codes "payments") ms = cc in
    let e : Some (json.string (decimal s.purses)) ≡ get_member (codes "purses") ms = cc in
    let f : Some (json.string (decimal s.slots)) ≡ get_member (codes "slots") ms = cc in
    sym (ap json.object (all_members (codes "brand" ∷ codes "burned" ∷ codes "minted" ∷ codes "payments" ∷ codes "purses" ∷ codes "row" ∷ codes "slots" ∷ codes "supply" ∷ [])
    (json.string (brand_name s.brand) ∷ json.string (decimal s.burned) ∷ json.string (decimal s.minted) ∷ json.string (decimal s.payments) ∷ json.string (decimal s.purses) ∷ json.string (codes "sum") ∷ json.string (decimal s.slots) ∷ json.string (decimal (s.minted - s.burned)) ∷ []) ms names refl
    (sym a, (sym b, (sym c, (sym d, (sym e, (row, (sym f, (sym supply, tt))))))))))

pub no_apart : (b : Bool) (P : Type 0) → (P → b ≡ true) → b ≡ false → P → ⊥
no_apart b P back fails h = let holds : b ≡ true = back h in absurd (cc)

-- ---- sums of either edition

pub sum_named : (e : Edition) (s : Sum) (ms : Members) → sum_row e s ≡ json.object ms → names_of ms ≡ sum_names e
sum_named First s ms same = named _ ms same
sum_named Second s ms same = named _ ms same

pub sum_first : (e : Edition) (s : Sum) (ms : Members) → e ≡ First → names_of ms ≡ sum_names e → get_member (codes "row") ms ≡ Some (json.string (codes "sum")) → totals s ≡ totals_in ms → sum_row e s ≡ json.object ms
sum_first First s ms is names row same = first_sum_is s ms names row same
sum_first Second s ms is names row same = absurd (cc)

pub sum_second : (e : Edition) (s : Sum) (ms : Members) → e ≡ Second → names_of ms ≡ sum_names e → get_member (codes "row") ms ≡ Some (json.string (codes "sum")) → totals s ≡ totals_in ms
    → (n : ℕ) → Some (json.string (decimal n)) ≡ get_member (codes "supply") ms → n ≡ s.minted - s.burned → sum_row e s ≡ json.object ms
sum_second First s ms is names row same n supply one = absurd (cc)
sum_second Second s ms is names row same n supply one = second_sum_is s ms names row same (ap (λ m. Some (json.string (decimal m))) (sym one) ∙ supply)

pub supply_got : (e : Edition) (s : Sum) (ms : Members) → e ≡ Second → sum_row e s ≡ json.object ms → Some (json.string (decimal (s.minted - s.burned))) ≡ get_member (codes "supply") ms
supply_got First s ms is same = absurd (cc)
supply_got Second s ms is same = sym (got (codes "supply") _ ms same)

-- no other supply is right
pub supply_is : (e : Edition) (x s : Sum) (ms : Members) (n : ℕ) → e ≡ Second → HasSumForm x → HasSumForm s → sum_row e x ≡ json.object ms → totals s ≡ totals_in ms → n < 2 ^ 128
    → Some (json.string (decimal n)) ≡ get_member (codes "supply") ms → n ≡ s.minted - s.burned
supply_is e x s ms n is form known same told few supply =
    let both : totals x ≡ totals s = totals_got e x ms same ∙ sym told in
    let minted : decimal x.minted ≡ decimal s.minted = cc in
    let burned : decimal x.burned ≡ decimal s.burned = cc in
    let m : x.minted ≡ s.minted = decimal_same x.minted s.minted form.minted known.minted minted in
    let b : x.burned ≡ s.burned = decimal_same x.burned s.burned form.burned known.burned burned in
    let two : Some (json.string (decimal n)) ≡ Some (json.string (decimal (x.minted - x.burned))) = supply ∙ sym (supply_got e x ms is same) in
    let texts : decimal n ≡ decimal (x.minted - x.burned) = cc in
    decimal_same n (x.minted - x.burned) few (omega (arith, form.minted)) texts ∙ (λ i. m i - b i)

-- ---- the version row

pub whole_same : (o : Option Data) (m n : ℕ) → Some m ≡ option_and_then as_u64 (option_and_then as_number o) → o ≡ Some (whole n) → m ≡ n
whole_same o m n found is = let both : Some m ≡ Some n = found ∙ ap (λ p. option_and_then as_u64 (option_and_then as_number p)) is in cc

pub version_is : (ms : Members) (n : ℕ) → names_of ms ≡ codes "row" ∷ codes "version" ∷ [] → get_member (codes "row") ms ≡ Some (json.string (codes "version"))
    → Some n ≡ option_and_then as_u64 (option_and_then as_number (get_member (codes "version") ms)) → n ≡ 2 → version_row ≡ json.object ms
version_is ms n names row found two =
    sym (ap json.object (all_members (codes "row" ∷ codes "version" ∷ []) (json.string (codes "version") ∷ whole 2 ∷ []) ms names refl (row, (whole_found _ n found ∙ ap (λ m. Some (whole m)) two, tt))))
