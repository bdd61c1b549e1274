-- Amounts that are answered, as rows print them: each as the amount itself, those of slots as a map in byte order.
use Rattle.std.specs.Prelude.{◌≡◌, ◌<◌, ◌^◌, ◌==◌, ◌&&◌, ◌++◌, ℕ, suc, Bool, true, false, cond, codes, List, [], ◌∷◌, Some, None, length, map, refl, unwrap_or, decimal, if◌then◌else◌}
use Rattle.std.specs.Cmp.Lexicographic.{slice_cmp}
use Rattle.std.specs.FinMap.{nat_cmp-IsAntisymmetric, slice_cmp-IsAntisymmetric}
use Rattle.std.specs.List.{AllByRecursion, AllZip}
use Rattle.std.specs.Ordering.{is_le, match_ordering, nat_cmp, ordering_reverse}
use Rattle.std.specs.Str.{bytes_eq}
use Rattle.std.specs.declared.cmp.Ordering.{Ordering}
use Rattle.std.specs.declared.cmp.Ordering.TheVariants.{Equal, Greater, Less}
use Rattle.std.proofs.Common.{sym, ◌∙◌, ap, subst, arith}
use Rattle.std.proofs.lemmas.Bool.{eq-eqb}
use Rattle.std.proofs.lemmas.Cmp.{nat_list_cmp_total}
use Rattle.std.proofs.lemmas.Slice.Eq.{bytes_eq-Decides}
use Rattle.fair_rows.specs.amount_math.Content.{Content}
use Rattle.fair_rows.specs.amount_math.declared.Amount.{Amount}
use Rattle.delivery_laws.specs.host_data.Values.{amount_tree}
use Rattle.delivery_laws.proofs.rule_laws.Amounts.{allocation_formed}
use Rattle.delivery_laws.proofs.rule_laws.Fields.{HasNoField, no_field_placed, other_name}
use Rattle.delivery_laws.specs.rules.Records.{allocation_tree, amount_fields}
use Rattle.delivery_laws.specs.host_data.Nodes.{AreInOrder}
use Rattle.delivery_laws.specs.turn_records.Names.{object_name}
use Rattle.delivery_laws.specs.turn_records.PrintedData.{printed, printed_fields}
use Rattle.delivery_laws.specs.turn_records.Values.{printed_value}
use Rattle.delivery_laws.proofs.turn_records.Values.{values_alike}
use Rattle.fair_laws.specs.Places.{slot_content, slot_name}
use Rattle.fair_laws.proofs.HeldEffects.{each_printed, each_under}
use Rattle.fair_laws.proofs.Openings.{rows_ordered}
use Rattle.fair_laws.proofs.Values.{printed_is}
use Rattle.fair_rows.specs.Amounts.{IfAmount, IfOkAnswer, InRecord, IsPrinted, content_under}
use Rattle.fair_rows.specs.Strict.{IsAllocation, IsAmountOf, IsSlotAmount}
use Rattle.fair_rows.specs.Strict as told
use Rattle.fair_rows.proofs.Amounts.{each_member, if_amount}
use Rattle.delivery_laws.specs.host_data.Tree.{Before, Fields, Tree, field, no_fields}
use Rattle.delivery_laws.specs.proposals.Shares.{AreApart, amount_under}
use Rattle.delivery_laws.proofs.proposals.SlotLists.{AreApart-in_byte_order}
use Rattle.delivery_laws.specs.proposals.Slots.{in_byte_order, is_upto, placed}
use Rattle.delivery_laws.specs.proposals.declared.allocations.Share.{Share}
use Rattle.fair_rows.specs.rights_model.Table.{Table, holds}
use Rattle.fair_rows.specs.rights_model.declared.Holder.{Holder}
use Rattle.serde_json.specs.Data as json
use Rattle.delivery_laws.specs.turn_records.Printed.{printed_share, printed_shares}
use Rattle.fair_rows.proofs.turn_rows.Order.{puts_amount}
use Rattle.fair_rows.specs.turn_rows.Rows.{amount_json, amounts_json}
use Rattle.fair_rows.specs.turn_rows.Turns.{KeywordAmount, ok, Value}
use Rattle.delivery_laws.proofs.world_laws.Lists.{all_map, length_map}
use Rattle.delivery_laws.specs.world_state.Good.{AreNamed, AreSharesOf, AreSharesValued, IsAmountValued, IsGoodWorld, IsOfKind}
use Rattle.delivery_laws.specs.world_state.Worlds.{State, placed_field}

-- ---- one amount

pub printed_amount : (a : Amount) → printed (amount_tree a) ≡ amount_json a.brand (printed_value a.value)
unfolding amount_tree object_name
printed_amount a = ap (λ d. json.object (json.member (codes "brand") (json.object (json.member (codes "@") (json.string (codes "brand" ++ decimal a.brand)) json.no_members)) (json.member (codes "value") d json.no_members))) (sym (values_alike a.value))

pub amount_printed : (a : Amount) → IsAmountValued a → IsPrinted a.value.content (printed_value a.value)
amount_printed a is = record { kind = a.value.kind; value = is; is = printed_is a.value.kind a.value.content }

-- a holder has the amount that is answered
pub amount_read : (t : Table) (h : Holder) (a : Amount) → IsAmountValued a → holds t h a.brand ≡ a.value.content → IsAmountOf t h a.brand (ok (printed (amount_tree a)))
amount_read t h a is held = record {
  value = printed_value a.value;
  printed = subst (λ c. IsPrinted c (printed_value a.value)) (sym held) (amount_printed a is);
  is = ap ok (printed_amount a);
}

-- ---- the fields of a record as the members of a map

unfoldable pub members_of : Fields → json.Members
members_of no_fields = json.no_members
members_of (field name t fs) = json.member name (printed t) (members_of fs)

placed_members : (k : List ℕ) (t : Tree) (fs : Fields) → HasNoField k fs → members_of (placed_field k t fs) ≡ json.put k (printed t) (members_of fs)
unfolding members_of
placed_members k t no_fields none = refl
placed_members k t (field next u fs) none = by (slice_cmp nat_cmp k next) refl (placed_members k t fs none.1)
  where
    by : (o : Ordering) → slice_cmp nat_cmp k next ≡ o → members_of (placed_field k t fs) ≡ json.put k (printed t) (members_of fs)
        → members_of (if is_le o then field k t (field next u fs) else field next u (placed_field k t fs))
        ≡ match_ordering o (json.member k (printed t) (json.member next (printed u) (members_of fs))) (json.member next (printed t) (members_of fs)) (json.member next (printed u) (json.put k (printed t) (members_of fs)))
    by Less e rest = refl
    by Equal e rest = absurd (none.0 (sym (slice_cmp-IsAntisymmetric nat_cmp-IsAntisymmetric k next e)))
    by Greater e rest = ap (json.member next (printed u)) rest

no_field_under : (k : List ℕ) (rs : List Share) → amount_under k rs ≡ None → HasNoField k (amount_fields rs)
no_field_under k [] none = tt
no_field_under k (r ∷ rs) none = by (bytes_eq k r.keyword) refl none (no_field_under k rs)
  where
    by : (b : Bool) → bytes_eq k r.keyword ≡ b → cond b (Some r.amount) (amount_under k rs) ≡ None → (amount_under k rs ≡ None → HasNoField k (amount_fields rs)) → HasNoField k (placed_field r.keyword (amount_tree r.amount) (amount_fields rs))
    by true e is rest = cc
    by false e is rest = no_field_placed k r.keyword (amount_tree r.amount) (amount_fields rs) (other_name k r.keyword e) (rest is)

amounts_members : (rs : List Share) → AreApart rs → members_of (amount_fields rs) ≡ amounts_json (printed_shares rs)
unfolding members_of
amounts_members [] a = refl
amounts_members (r ∷ rs) a =
    placed_members r.keyword (amount_tree r.amount) (amount_fields rs) (no_field_under r.keyword rs a.0)
    ∙ ap (λ d. json.put r.keyword d (members_of (amount_fields rs))) (printed_amount r.amount)
    ∙ ap (json.put r.keyword (amount_json r.amount.brand (printed_value r.amount.value))) (amounts_members rs a.1)
    ∙ sym (puts_amount (printed_share r) (printed_shares rs))

-- ---- fields in order are put one behind another

onto : json.Members → json.Members → json.Members
onto json.no_members more = more
onto (json.member k d ms) more = json.member k d (onto ms more)

abbrev AllBelow : json.Members → List ℕ → Type 0
AllBelow json.no_members k = Unit {0}
AllBelow (json.member l e ms) k = (slice_cmp nat_cmp l k ≡ Less) × AllBelow ms k

put_last : (k : List ℕ) (d : json.Data) (ms : json.Members) → AllBelow ms k → json.put k d ms ≡ onto ms (json.member k d json.no_members)
unfolding onto
put_last k d json.no_members all = refl
put_last k d (json.member l e ms) all =
    ap (λ o. match_ordering o (json.member k d (json.member l e ms)) (json.member l d ms) (json.member l e (json.put k d ms))) (nat_list_cmp_total.antisymm k l ∙ ap ordering_reverse all.0)
    ∙ ap (json.member l e) (put_last k d ms all.1)

onto_one : (ms : json.Members) (k : List ℕ) (d : json.Data) (more : json.Members) → onto (onto ms (json.member k d json.no_members)) more ≡ onto ms (json.member k d more)
unfolding onto
onto_one json.no_members k d more = refl
onto_one (json.member l e ms) k d more = ap (json.member l e) (onto_one ms k d more)

onto_none : (ms : json.Members) → onto ms json.no_members ≡ ms
unfolding onto
onto_none json.no_members = refl
onto_none (json.member l e ms) = ap (json.member l e) (onto_none ms)

below_more : (ms : json.Members) (k next : List ℕ) (d : json.Data) → AllBelow ms k → slice_cmp nat_cmp k next ≡ Less → AllBelow (onto ms (json.member k d json.no_members)) next
unfolding onto
below_more json.no_members k next d all less = (less, tt)
below_more (json.member l e ms) k next d all less = (nat_list_cmp_total.trans l k next all.0 less, below_more ms k next d all.1 less)

-- what is found is below the first of the fields
abbrev AllBefore : json.Members → Fields → Type 0
AllBefore ms no_fields = Unit {0}
AllBefore ms (field k t fs) = AllBelow ms k

before_rest : (ms : json.Members) (k : List ℕ) (d : json.Data) (fs : Fields) → AllBelow ms k → Before k fs → AllBefore (onto ms (json.member k d json.no_members)) fs
before_rest ms k d no_fields all before = tt
before_rest ms k d (field next u fs) all before = below_more ms k next d all before

fields_printed : (fs : Fields) (found : json.Members) → AreInOrder fs → AllBefore found fs → printed_fields fs found ≡ onto found (members_of fs)
unfolding members_of
fields_printed no_fields found order all = sym (onto_none found)
fields_printed (field k t fs) found order all =
    ap (printed_fields fs) (put_last k (printed t) found all)
    ∙ fields_printed fs (onto found (json.member k (printed t) json.no_members)) order.1 (before_rest found k (printed t) fs all order.0)
    ∙ onto_one found k (printed t) (members_of fs)

none_before : (fs : Fields) → AllBefore json.no_members fs
none_before no_fields = tt
none_before (field k t fs) = tt

-- a record whose fields stand in order is printed field by field
pub record_printed : (fs : Fields) → AreInOrder fs → printed_fields fs json.no_members ≡ members_of fs
unfolding onto
record_printed fs order = fields_printed fs json.no_members order (none_before fs)

-- ---- an allocation

pub allocation_printed : (w : State) (rs : List Share) → IsGoodWorld w → AreApart rs → AreNamed rs → AreSharesOf w.rights.out rs → printed (allocation_tree rs) ≡ json.object (amounts_json (printed_shares rs))
unfolding onto
allocation_printed w rs good apart named kinds =
    let formed = allocation_formed w None good 0 rs (omega arith) apart named kinds in
    ap json.object (fields_printed (amount_fields rs) json.no_members formed.ordered.0 (none_before (amount_fields rs)) ∙ amounts_members rs apart)

length_placed : (r : Share) (rs : List Share) → length (placed r rs) ≡ suc (length rs)
length_placed r [] = refl
length_placed r (x ∷ xs) = by (is_upto r.keyword x.keyword) (length_placed r xs)
  where
    by : (b : Bool) → length (placed r xs) ≡ suc (length xs) → length (if b then r ∷ x ∷ xs else x ∷ placed r xs) ≡ suc (suc (length xs))
    by true rest = refl
    by false rest = ap suc rest

length_ordered : (rs : List Share) → length (in_byte_order rs) ≡ length rs
length_ordered [] = refl
length_ordered (r ∷ rs) = length_placed r (in_byte_order rs) ∙ ap suc (length_ordered rs)

-- in byte order or not
unplaced : (P : Share → Type 0) (r : Share) (rs : List Share) → AllByRecursion P (placed r rs) → P r × AllByRecursion P rs
unplaced P r [] all = (all.0, tt)
unplaced P r (x ∷ xs) all = by (is_upto r.keyword x.keyword) all (unplaced P r xs)
  where
    by : (b : Bool) → AllByRecursion P (if b then r ∷ x ∷ xs else x ∷ placed r xs) → (AllByRecursion P (placed r xs) → P r × AllByRecursion P xs) → P r × (P x × AllByRecursion P xs)
    by true all rest = (all.0, all.1)
    by false all rest = let both = rest all.1 in (both.0, (all.0, both.1))

unordered : (P : Share → Type 0) (rs : List Share) → AllByRecursion P (in_byte_order rs) → AllByRecursion P rs
unordered P [] all = tt
unordered P (r ∷ rs) all = let both = unplaced P r (in_byte_order rs) all in (both.0, unordered P rs both.1)

-- an amount stands under its keyword among those that are printed
abbrev StandsAs : List KeywordAmount → List ℕ → Amount → Type 0
StandsAs xs k a = told.amount_under k xs ≡ Some (record { keyword = k; brand = a.brand; value = printed_value a.value })

told_under : (k : List ℕ) (rs : List Share) (a : Amount) → amount_under k rs ≡ Some a → StandsAs (map printed_share rs) k a
told_under k [] a is = cc
told_under k (r ∷ rs) a is = by (bytes_eq k r.keyword) refl is (told_under k rs a)
  where
    by : (b : Bool) → bytes_eq k r.keyword ≡ b → cond b (Some r.amount) (amount_under k rs) ≡ Some a → (amount_under k rs ≡ Some a → StandsAs (map printed_share rs) k a)
        → cond b (Some (printed_share r)) (told.amount_under k (map printed_share rs)) ≡ Some (record { keyword = k; brand = a.brand; value = printed_value a.value })
    by true e at rest =
        let same : k ≡ r.keyword = (bytes_eq-Decides k r.keyword).0 e in
        let amount : r.amount ≡ a = ap (λ o. unwrap_or o a) at in
        (λ i. Some (record { keyword = sym same i; brand = (amount i).brand; value = printed_value (amount i).value }))
    by false e at rest = rest at

each_stands : (rs : List Share) → AreApart rs → AllByRecursion (λ (r : Share). StandsAs (printed_shares rs) r.keyword r.amount) rs
each_stands rs a =
    let sorted = in_byte_order rs in
    subst (λ xs. AllByRecursion (λ (r : Share). StandsAs xs r.keyword r.amount) rs) (sym (rows_ordered rs a))
    (unordered (λ (r : Share). StandsAs (map printed_share sorted) r.keyword r.amount) rs
    (all_map (λ (r : Share). amount_under r.keyword sorted ≡ Some r.amount) (λ (r : Share). StandsAs (map printed_share sorted) r.keyword r.amount) (λ r is. told_under r.keyword sorted r.amount is) sorted (each_under sorted (AreApart-in_byte_order rs a))))

each_slot : (xs : List KeywordAmount) (rs : List Share) → AreSharesValued rs → AllByRecursion (λ (r : Share). StandsAs xs r.keyword r.amount) rs → AllZip (IsSlotAmount xs) (map slot_name rs) (map slot_content rs)
each_slot xs [] valued all = tt
each_slot xs (r ∷ rs) valued all = (record { value = printed_value r.amount.value; printed = amount_printed r.amount valued.0; is = all.0 }, each_slot xs rs valued.1 all.1)

-- what slots have, each under its keyword
pub allocation_is : (w : State) (rs : List Share) → IsGoodWorld w → AreApart rs → AreNamed rs → AreSharesOf w.rights.out rs → AreSharesValued rs → IsAllocation (map slot_name rs) (map slot_content rs) (ok (printed (allocation_tree rs)))
allocation_is w rs good apart named kinds valued = record {
  amounts = printed_shares rs;
  is = ap ok (allocation_printed w rs good apart named kinds);
  as_many = ap length (rows_ordered rs apart) ∙ length_map printed_share (in_byte_order rs) ∙ length_ordered rs ∙ sym (length_map slot_name rs);
  each = each_slot (printed_shares rs) rs valued (each_stands rs apart);
}

-- ---- each amount of an allocation

pub brand_wide : (w : State) (a : Amount) → IsGoodWorld w → IsOfKind w.rights.out a → a.brand < 2 ^ 128
brand_wide w a good of = omega (arith, of.made, good.brands.supplies, good.brands.few)

shares_if : (P : List ℕ → ℕ → Value → Type 0) (w : State) (rs : List Share) → IsGoodWorld w → AreSharesOf w.rights.out rs → AreSharesValued rs
    → AllByRecursion (λ (r : Share). P r.keyword r.amount.brand (printed_value r.amount.value)) rs
    → AllByRecursion (λ (r : Share). IfAmount (P r.keyword) (amount_json r.amount.brand (printed_value r.amount.value))) rs
shares_if P w [] good kinds valued all = tt
shares_if P w (r ∷ rs) good kinds valued all =
    (if_amount (P r.keyword) r.amount.value.content r.amount.brand (printed_value r.amount.value) (brand_wide w r.amount good kinds.0) (amount_printed r.amount valued.0) all.0, shares_if P w rs good kinds.1 valued.1 all.1)

-- what holds of each share holds of each amount that is answered
pub allocation_holds : (P : List ℕ → ℕ → Value → Type 0) (w : State) (rs : List Share) → IsGoodWorld w → AreApart rs → AreNamed rs → AreSharesOf w.rights.out rs → AreSharesValued rs
    → AllByRecursion (λ (r : Share). P r.keyword r.amount.brand (printed_value r.amount.value)) rs
    → IfOkAnswer (InRecord (λ keyword. IfAmount (P keyword))) (ok (printed (allocation_tree rs)))
allocation_holds P w rs good apart named kinds valued all =
    subst (InRecord (λ keyword. IfAmount (P keyword))) (sym (allocation_printed w rs good apart named kinds))
    (each_member P (printed_shares rs) (each_printed (λ (a : KeywordAmount). IfAmount (P a.keyword) (amount_json a.brand a.value)) rs apart (shares_if P w rs good kinds valued all)))

-- of slots by their names, and their contents, that of a keyword and its brand is what stands under it
found_under : (k : List ℕ) (rs : List Share) (a : Amount) → amount_under k rs ≡ Some a → content_under k a.brand (map slot_name rs) (map slot_content rs) ≡ a.value.content
found_under k [] a is = cc
found_under k (r ∷ rs) a is = by (bytes_eq k r.keyword) is (found_under k rs a)
  where
    by : (b : Bool) → cond b (Some r.amount) (amount_under k rs) ≡ Some a → (amount_under k rs ≡ Some a → content_under k a.brand (map slot_name rs) (map slot_content rs) ≡ a.value.content)
        → (if b && (a.brand == r.amount.brand) then r.amount.value.content else content_under k a.brand (map slot_name rs) (map slot_content rs)) ≡ a.value.content
    by true at rest =
        let amount : r.amount ≡ a = ap (λ o. unwrap_or o a) at in
        ap (λ t. if t then r.amount.value.content else content_under k a.brand (map slot_name rs) (map slot_content rs)) (eq-eqb a.brand r.amount.brand (ap (λ (x : Amount). x.brand) (sym amount)))
        ∙ ap (λ (x : Amount). x.value.content) amount
    by false at rest = rest at

all_found : (rs qs : List Share) → AllByRecursion (λ (r : Share). amount_under r.keyword rs ≡ Some r.amount) qs → AllByRecursion (λ (r : Share). content_under r.keyword r.amount.brand (map slot_name rs) (map slot_content rs) ≡ slot_content r) qs
all_found rs [] all = tt
all_found rs (q ∷ qs) all = (found_under q.keyword rs q.amount all.0, all_found rs qs all.1)

pub contents_found : (rs : List Share) → AreApart rs → AllByRecursion (λ (r : Share). content_under r.keyword r.amount.brand (map slot_name rs) (map slot_content rs) ≡ slot_content r) rs
contents_found rs a = all_found rs rs (each_under rs a)

-- printed as such
pub all_printed_as : (found : Share → Content) (rs : List Share) → AreSharesValued rs → AllByRecursion (λ (r : Share). found r ≡ slot_content r) rs → AllByRecursion (λ (r : Share). IsPrinted (found r) (printed_value r.amount.value)) rs
all_printed_as found [] valued all = tt
all_printed_as found (r ∷ rs) valued all = (subst (λ c. IsPrinted c (printed_value r.amount.value)) (sym all.0) (amount_printed r.amount valued.0), all_printed_as found rs valued.1 all.1)
