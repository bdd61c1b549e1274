-- What the readers of a contract's arguments give: seats of the instance, shares that fit, room for changes.
use Rattle.std.specs.Prelude.{IfSome, filter, map, nat_le, not, ◌==◌, ◌||◌, ◌-◌}
use Rattle.std.specs.List.{AllByRecursion}
use Rattle.std.specs.Option.{option_map_or}
use Rattle.std.specs.Str.{bytes_eq}
use Rattle.std.proofs.Common.{◌≡◌, ℕ, ◌+◌, ◌<◌, ◌≤◌, Bool, true, false, cond, List, [], ◌∷◌, length, Option, Some, None, Result, Ok, Err, IfOk, refl, sym, ap, subst, ◌∙◌, arith}
use Rattle.std.proofs.lemmas.Bool.{and_parts, eqb-true, false≢true, leb-true}
use Rattle.std.proofs.lemmas.Option.{same_Some}
use Rattle.rules.specs.proposals.Gains.{raised, with_gains}
use Rattle.rules.specs.proposals.Losses.{lowered, with_losses}
use Rattle.rules.specs.proposals.ChangedShares.{further}
use Rattle.world_laws.specs.amount_math.Content.{Contains, Content, count-nothing, nothing, sum}
use Rattle.world_laws.specs.amount_math.KindLaws.{value_of_sum}
use Rattle.world_laws.specs.amount_math.ValueView.{Fits, HasFew, IsValue, ValueView}
use Rattle.world_laws.specs.amount_math.declared.Amount.{Amount}
use Rattle.rules.specs.call_arguments.Arguments.{arg, is_kind, number_of_kind, object_at, object_in, record_at}
use Rattle.rules.specs.call_arguments.Numbers.{least, least_of}
use Rattle.world_laws.specs.host_data.Amounts.{read_all}
use Rattle.world_laws.specs.host_data.Nodes.{EachNode, ObjectIs}
use Rattle.world_laws.specs.ertp_mint.Stocks.{most_made}
use Rattle.world_laws.specs.host_data.Tree as trees
use Rattle.world_laws.specs.host_data.Tree.{Tree, paired, pairs_of}
use Rattle.world_laws.specs.host_data.declared.data.Obj.{Obj}
use Rattle.world_laws.specs.host_data.declared.data.ObjKind.{ObjKind}
use Rattle.world_laws.specs.host_data.declared.data.ObjKind.TheVariants as kinds
use Rattle.rules.specs.rearrange.Slots.{each_passes, fits_slot}
use Rattle.rules.specs.proposals.OfferSafety.{IsCovered}
use Rattle.rules.specs.proposals.Shares.{AreShares, amount_under, content_under, most_shares}
use Rattle.rules.specs.proposals.declared.allocations.Share.{Share}
use Rattle.rules.specs.call_arguments.Records.{ShareData, brands_in, first_ill, keywords, names, share_in, shares_in, amounts_under}
use Rattle.world_laws.proofs.refusals.Steps.{after_known, after_need, after_none_such, after_step, after_wanted, need_holds, ok_has, wanted_there}
use Rattle.world_laws.specs.refusals.Outcomes.{◌>>◌, bind}
use Rattle.world_laws.specs.refusals.declared.codes.Refusal.{Refusal}
use Rattle.rules.specs.Proposals.{valued, with_values}
use Rattle.rules.specs.Given.{is_other, own_seat, shares_at}
use Rattle.rules.specs.States.{allocation_of, has_room, is_open, leaves_room, seat_of, touched_seat}
use Rattle.rules.proofs.value_tests.Exact.{value_passed}
use Rattle.world_laws.proofs.Lists.{all_read, length_append, length_map}
use Rattle.world_laws.specs.world_state.Good.{AreNamed, AreSharesOf, AreSharesValued, IsAmountValued, IsGoodWorld, IsOfKind, open_slots}
use Rattle.world_laws.specs.world_state.Known.{IsFormed, IsSeatOf, ObjectKnown, known_as}
use Rattle.world_laws.specs.world_state.Rights.{kind_at}
use Rattle.world_laws.specs.world_state.Worlds.{IsOpen, State}
use Rattle.rule_laws.proofs.Records.{fields_each, fields_in, fields_ordered}
use Rattle.rule_laws.proofs.SharesRead.{AreRead, IsReadShare, record_read, values_there}
use Rattle.rule_laws.proofs.SlotLists.{CanAddTo, CanTakeFrom, fresh_in, further_many}
use Rattle.rule_laws.proofs.Read.{open_there}

pub if_given : {A : Type 0} (P : A → Type 0) (r : Result A Refusal) → ((x : A) → r ≡ Ok x → P x) → IfOk r P
if_given P (Ok x) h = h x refl
if_given P (Err e) h = tt

-- of two tests that were passed each was
pub passed : (r next : Result (Unit {0}) Refusal) → r >> next ≡ Ok tt → (r ≡ Ok tt) × (next ≡ Ok tt)
unfolding bind
passed (Ok x) next is = (refl, is)
passed (Err e) next is = absurd (cc)

-- ---- seats

seat_known : (w : State) (i : ℕ) (k : ObjKind) (n : ℕ) → is_kind kinds.Zseat k ≡ true → known_as i w k n → IsSeatOf w.seats i n
seat_known w i kinds.Zseat n is known = known
seat_known w i _ n is known = absurd (false≢true is)

object_seat : (w : State) (i : ℕ) (o : Obj) (n : ℕ) → known_as i w o.kind o.number → number_of_kind kinds.Zseat o ≡ Some n → IsSeatOf w.seats i n
object_seat w i o n known is = by (is_kind kinds.Zseat o.kind) refl is
  where
    by : (b : Bool) → is_kind kinds.Zseat o.kind ≡ b → cond b (Some o.number) None ≡ Some n → IsSeatOf w.seats i n
    by true e at = subst (IsSeatOf w.seats i) (same_Some o.number n at) (seat_known w i o.kind o.number e known)
    by false e at = absurd (cc)

pub seat_in : (w : State) (i : ℕ) (t : Tree) (n : ℕ) → EachNode (ObjectIs (ObjectKnown (Some i) w)) 0 t → object_in kinds.Zseat t ≡ Some n → IsSeatOf w.seats i n
unfolding object_in
seat_in w i (trees.object o) n known is = object_seat w i o n known is
seat_in w i trees.null n known is = absurd (cc)
seat_in w i (trees.boolean b) n known is = absurd (cc)
seat_in w i (trees.number z) n known is = absurd (cc)
seat_in w i (trees.text s) n known is = absurd (cc)
seat_in w i (trees.array ts) n known is = absurd (cc)
seat_in w i (trees.fields fs) n known is = absurd (cc)
seat_in w i (trees.function name) n known is = absurd (cc)

pub seat_given : (w : State) (i place : ℕ) (args : List Tree) (n : ℕ) → IsFormed w (Some i) (arg place args) → object_at kinds.Zseat place args ≡ Ok n → IsSeatOf w.seats i n
unfolding object_at
seat_given w i place args n formed is = seat_in w i (arg place args) n formed.objects (wanted_there (object_in kinds.Zseat (arg place args)) _ n is)

-- an open seat of the instance
pub record IsOwn (w : State) (i n : ℕ) : Type 0 where
  pub own : IsSeatOf w.seats i n
  pub is_open : IsOpen (seat_of w n)

-- a seat that is read is one of the caller's, which is open
pub own_is : (w : State) (i j place : ℕ) (args : List Tree) → IsFormed w (Some i) (arg place args) → IfOk (own_seat w j place args) (IsOwn w i)
unfolding own_seat
own_is w i j place args formed = after_step _ _ _ (λ n at. after_need _ _ _ _ (λ same. opened n at))
  where
    opened : (n : ℕ) → object_at kinds.Zseat place args ≡ Ok n → IfOk (is_open w n >> Ok n) (IsOwn w i)
    opened n at = after_known _ _ _ (λ stays. record { own = seat_given w i place args n formed at; is_open = open_there w n stays })

-- ---- shares that are read

pub pairs_are : (t : Tree) (given : List (List ℕ × Tree)) → pairs_of t ≡ Some given → paired (fields_in t) ≡ given
pairs_are (trees.fields fs) given is = same_Some (paired fs) given is
pairs_are _ given is = absurd (cc)

not_some_least : (n : ℕ) (o : Option ℕ) → least_of (Some n) o ≡ None → ⊥
not_some_least n None is = cc
not_some_least n (Some m) is = cc

none_misfits : (misfits : ShareData → Bool) (shares : List ShareData) → least (brands_in (filter misfits shares)) ≡ None → AllByRecursion (λ r. misfits r ≡ false) shares
none_misfits misfits [] is = tt
none_misfits misfits (r ∷ rs) is = by (misfits r) refl (none_misfits misfits rs) is
  where
    by : (b : Bool) → misfits r ≡ b → (least (brands_in (filter misfits rs)) ≡ None → AllByRecursion (λ x. misfits x ≡ false) rs) → least (brands_in (cond b (r ∷ filter misfits rs) (filter misfits rs))) ≡ None → AllByRecursion (λ x. misfits x ≡ false) (r ∷ rs)
    by true e later at = absurd (not_some_least r.amount.brand (least (brands_in (filter misfits rs))) at)
    by false e later at = (e, later at)

-- shares that are read, whose keywords and brands have a property
pub record AreGiven (w : State) (args : List Tree) (Q : List ℕ → ℕ → Type 0) (shares : List Share) : Type 0 where
  pub names_of : List (List ℕ)
  pub read : AreRead w shares names_of
  pub fit : AllByRecursion (λ (r : Share). Q r.keyword r.amount.brand) shares

valued_fit : (Q : List ℕ → ℕ → Type 0) (give : List ShareData) (values : List ValueView) → AllByRecursion (λ (r : ShareData). Q r.keyword r.amount.brand) give → AllByRecursion (λ (r : Share). Q r.keyword r.amount.brand) (with_values give values)
valued_fit Q [] values all = tt
valued_fit Q (r ∷ rs) [] all = tt
valued_fit Q (r ∷ rs) (v ∷ vs) all = (all.0, valued_fit Q rs vs all.1)

turned : (misfits : ShareData → Bool) (Q : List ℕ → ℕ → Type 0) → ((r : ShareData) → misfits r ≡ false → Q r.keyword r.amount.brand) → (shares : List ShareData) → AllByRecursion (λ r. misfits r ≡ false) shares → AllByRecursion (λ (r : ShareData). Q r.keyword r.amount.brand) shares
turned misfits Q to [] all = tt
turned misfits Q to (r ∷ rs) all = (to r all.0, turned misfits Q to rs all.1)

shares_in_are : (place : ℕ) (given : List (List ℕ × Tree)) → IfOk (shares_in place given) (λ shares. (read_all share_in given ≡ Some shares) × (first_ill (keywords shares) ≡ None))
unfolding shares_in amounts_under
shares_in_are place given = after_wanted _ _ _ _ (λ shares at. after_none_such _ _ _ _ (λ none. (at, none)))

pub record_at_is : (place : ℕ) (args : List Tree) (given : List (List ℕ × Tree)) → record_at place args ≡ Ok given → paired (fields_in (arg place args)) ≡ given
unfolding record_at
record_at_is place args given is = pairs_are (arg place args) given (wanted_there (pairs_of (arg place args)) _ given is)

pub shares_given : (w : State) (h : Option ℕ) (misfits : ShareData → Bool) (Q : List ℕ → ℕ → Type 0) → ((r : ShareData) → misfits r ≡ false → Q r.keyword r.amount.brand) → (place : ℕ) (args : List Tree) → IsFormed w h (arg place args) → IfOk (shares_at misfits place args) (AreGiven w args Q)
unfolding shares_at
shares_given w h misfits Q to place args formed = after_step _ _ _ (λ given at. after_step _ _ _ (λ read reads. after_none_such _ _ _ _ (λ none. if_given (AreGiven w args Q) (valued read) (λ shares is.
    let t = arg place args in
    let both = ok_has _ _ read reads (shares_in_are place given) in
    let same = record_at_is place args given at in
    let reads_all : read_all share_in (paired (fields_in t)) ≡ Some read = subst (λ fs. read_all share_in fs ≡ Some read) (sym same) both.0 in
    record {
      names_of = names (paired (fields_in t));
      read = record_read w h (fields_in t) read shares (fields_each (ObjectIs (ObjectKnown h w)) t formed.objects) (fields_ordered t formed.ordered) reads_all both.1 is;
      fit = values_there read shares (λ rs. AllByRecursion (λ (r : Share). Q r.keyword r.amount.brand) rs) is (λ values there. valued_fit Q read values (turned misfits Q to read (none_misfits misfits read none)));
    }))))

-- a share isn't of another brand than stands under its keyword
abbrev pub OfBrand : List Share → List ℕ → ℕ → Type 0
OfBrand slots k b = IfSome (amount_under k slots) (λ a. a.brand ≡ b)

is_not : (b : Bool) → not b ≡ false → b ≡ true
is_not true h = refl
is_not false h = absurd (false≢true (sym h))

pub of_slot : (slots : List Share) (r : ShareData) → is_other slots r ≡ false → OfBrand slots r.keyword r.amount.brand
of_slot slots r is = by (amount_under r.keyword slots) is
  where
    by : (o : Option Amount) → option_map_or (λ (a : Amount). not (a.brand == r.amount.brand)) o false ≡ false → IfSome o (λ a. a.brand ≡ r.amount.brand)
    by None e = tt
    by (Some a) e = eqb-true a.brand r.amount.brand (is_not (a.brand == r.amount.brand) e)

pub neither : (a b : Bool) → (a || b) ≡ false → (a ≡ false) × (b ≡ false)
neither false b e = (refl, e)
neither true b e = absurd (false≢true (sym e))

-- ---- what a seat has

pub record HasSlots (w : State) (slots : List Share) : Type 0 where
  pub shares : AreShares slots
  pub named : AreNamed slots
  pub of_kinds : AreSharesOf w.rights.out slots
  pub valued : AreSharesValued slots

pub seat_slots : (w : State) → IsGoodWorld w → (i n : ℕ) → IsSeatOf w.seats i n → HasSlots w (allocation_of w n)
seat_slots w good i n own =
    let made : n < length w.rights.slots = omega (arith, own.made, good.seats.slotted) in
    record {
      shares = all_read AreShares w.rights.slots n [] good.seats.shares made;
      named = all_read AreNamed w.rights.slots n [] good.seats.named made;
      of_kinds = all_read (AreSharesOf w.rights.out) w.rights.slots n [] good.slot_kinds made;
      valued = all_read AreSharesValued w.rights.slots n [] good.valued.slots made;
    }

-- what stands under a keyword has what all amounts have
pub under_all : (P : Amount → Type 0) (k : List ℕ) (rs : List Share) → AllByRecursion (λ (r : Share). P r.amount) rs → IfSome (amount_under k rs) P
under_all P k [] all = tt
under_all P k (r ∷ rs) all = by (bytes_eq k r.keyword) (under_all P k rs all.1)
  where
    by : (b : Bool) → IfSome (amount_under k rs) P → IfSome (cond b (Some r.amount) (amount_under k rs)) P
    by true later = all.0
    by false later = later

-- ---- shares that can be added, and that can be taken

pub same_kind : (w : State) → IsGoodWorld w → (r : Share) (a : Amount) → IsReadShare w r → IsOfKind w.rights.out a → a.brand ≡ r.amount.brand → a.value.kind ≡ r.amount.value.kind
same_kind w good r a read is same = sym is.kind ∙ ap (kind_at w.rights.out) same ∙ good.brands.kinds r.amount.brand ∙ read.brand.kind_is

abbrev content_in : Option Amount → Content
content_in o = option_map_or (λ (a : Amount). a.value.content) o nothing

module _ (w : State) (good : IsGoodWorld w) (slots : List Share) (are : HasSlots w slots) where
  adds_to : (r : Share) → IsReadShare w r → OfBrand slots r.keyword r.amount.brand → fits_slot slots r ≡ Ok tt → CanAddTo (amount_under r.keyword slots) r
  adds_to r read of fits =
      let both = value_passed r.amount.value.kind (sum (content_under r.keyword slots) r.amount.value.content) fits in
      by (amount_under r.keyword slots) (under_all (IsOfKind w.rights.out) r.keyword slots are.of_kinds) (under_all IsAmountValued r.keyword slots are.valued) of both.0 both.1
    where
      by : (o : Option Amount) → IfSome o (IsOfKind w.rights.out) → IfSome o IsAmountValued → IfSome o (λ a. a.brand ≡ r.amount.brand) → Fits r.amount.value.kind (sum (content_in o) r.amount.value.content) → HasFew r.amount.value.kind (sum (content_in o) r.amount.value.content) → CanAddTo o r
      by None kind value same fits few = read.value
      by (Some a) kind value same fits few =
          let k = same_kind w good r a read kind same in
          record { brand = same; kind = k; value = value_of_sum r.amount.value.kind a.value.content r.amount.value.content (subst (λ q. IsValue q a.value.content) k value) read.value fits few }

  pub all_add : (shares : List Share) → AllByRecursion (IsReadShare w) shares → AllByRecursion (λ (r : Share). OfBrand slots r.keyword r.amount.brand) shares → each_passes (fits_slot slots) shares ≡ Ok tt → AllByRecursion (λ (r : Share). CanAddTo (amount_under r.keyword slots) r) shares
  all_add [] read of fits = tt
  all_add (r ∷ rs) read of fits =
      let both = passed (fits_slot slots r) (each_passes (fits_slot slots) rs) fits in
      (adds_to r read.0 of.0 both.0, all_add rs read.1 of.1 both.1)

  takes_from : (r : Share) → IsReadShare w r → OfBrand slots r.keyword r.amount.brand → IsCovered slots r → CanTakeFrom (amount_under r.keyword slots) r
  takes_from r read of covers = by (amount_under r.keyword slots) (under_all (IsOfKind w.rights.out) r.keyword slots are.of_kinds) of covers
    where
      by : (o : Option Amount) → IfSome o (IsOfKind w.rights.out) → IfSome o (λ a. a.brand ≡ r.amount.brand) → Contains (option_map_or (λ (a : Amount). a.value.content) o nothing) r.amount.value.content → CanTakeFrom o r
      by None kind same has = record { each = λ k. omega (arith, has.each k, count-nothing k) }
      by (Some a) kind same has = record { brand = same; kind = same_kind w good r a read kind same; has = has }

  pub all_take : (shares : List Share) → AllByRecursion (IsReadShare w) shares → AllByRecursion (λ (r : Share). OfBrand slots r.keyword r.amount.brand) shares → AllByRecursion (IsCovered slots) shares → AllByRecursion (λ (r : Share). CanTakeFrom (amount_under r.keyword slots) r) shares
  all_take [] read of covers = tt
  all_take (r ∷ rs) read of covers = (takes_from r read.0 of.0 covers.0, all_take rs read.1 of.1 covers.1)

-- ---- room

pub record IsRoom (w : State) (before after n : ℕ) : Type 0 where
  pub few : after ≤ most_shares
  pub left : length w.rights.payments + open_slots w.seats w.rights.slots + (after - before + n) ≤ most_made

pub room_is : (w : State) (seat : ℕ) (before after : List Share) (n : ℕ) → has_room w (touched_seat seat before after ∷ []) n ≡ Ok tt → IsRoom w (length before) (length after) n
unfolding has_room leaves_room
room_is w seat before after n is =
    let both = passed _ _ is in
    record {
      few = leb-true (length after) most_shares (and_parts (nat_le (length after) most_shares) true (need_holds _ _ tt both.0)).0;
      left = omega (arith, leb-true _ most_made (need_holds _ _ tt both.1));
    }

-- ---- how many shares there are then

pub gains_many : (slots shares : List Share) → length (with_gains slots shares) ≡ length slots + fresh_in slots shares
gains_many slots shares = length_append (map (raised shares) slots) (further slots shares) ∙ omega (arith, length_map (raised shares) slots, further_many slots shares)

pub losses_many : (slots shares : List Share) → length (with_losses slots shares) ≡ length slots + fresh_in slots shares
losses_many slots shares = length_append (map (lowered shares) slots) (further slots shares) ∙ omega (arith, length_map (lowered shares) slots, further_many slots shares)
