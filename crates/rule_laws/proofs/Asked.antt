-- Transfers as they are read: the seats that they name are those that are given, and each record is one of the data.
use Rattle.std.specs.Prelude.{IfSome, filter, find, flat_map, map, not, option_and_then, option_map, unwrap_or}
use Rattle.std.specs.List.{AllByRecursion}
use Rattle.std.specs.Option.{option_to_list}
use Rattle.std.proofs.Common.{◌≡◌, ℕ, ◌+◌, Bool, true, false, cond, List, [], ◌∷◌, ◌++◌, append_assoc, Option, Some, None, Result, Ok, Err, IfOk, refl, sym, ap, subst, ◌∙◌, if◌then◌else◌}
use Rattle.std.proofs.lemmas.List.{map-append}
use Rattle.std.proofs.lemmas.Option.{same_Some}
use Rattle.world_laws.specs.amount_math.ValueView.{ValueView}
use Rattle.rules.specs.call_arguments.Arguments.{object_in}
use Rattle.world_laws.specs.host_data.Amounts.{read_all}
use Rattle.world_laws.specs.host_data.Nodes.{AreInOrder, EachField, EachItem, EachNode, HasFieldsInOrder, NodeFact, ObjectIs}
use Rattle.world_laws.specs.host_text.Words.{is_keyword}
use Rattle.world_laws.specs.host_data.Tree as trees
use Rattle.world_laws.specs.host_data.Tree.{Fields, Items, Tree, is_null, list_of, listed, paired, pairs_of}
use Rattle.world_laws.specs.host_data.declared.data.Obj.{Obj}
use Rattle.world_laws.specs.host_data.declared.data.ObjKind.TheVariants as kinds
use Rattle.rules.specs.proposals.declared.allocations.Share.{Share}
use Rattle.rules.specs.proposals.declared.plans.Transfer.{Transfer}
use Rattle.rules.specs.rearrange.Seats.{seats_named}
use Rattle.rules.specs.rearrange.Transfers as transfers
use Rattle.rules.specs.call_arguments.Records.{ShareData, first_ill, keywords, names, share_in, share_value, values_in}
use Rattle.world_laws.proofs.refusals.Steps.{after_step, ok_has}
use Rattle.world_laws.specs.refusals.Outcomes.{bind, wanted}
use Rattle.world_laws.specs.refusals.declared.codes.Refusal.{Refusal}
use Rattle.rules.specs.Proposals.{valued, with_values}
use Rattle.rules.specs.Rearranging.{Asked, Parts, asked, asked_in, gains_of, losses_of, parts_from, parts_in, share_for, shares_asked, shares_for, shares_of, shares_or_none, seat_trees, transfer_of, transfers_of, valued_or_none, where_whole, is_whole}
use Rattle.world_laws.proofs.Lists.{all_filter, all_map}
use Rattle.world_laws.specs.world_state.Known.{IsSeatOf, ObjectKnown}
use Rattle.world_laws.specs.world_state.Worlds.{State}
use Rattle.rule_laws.proofs.Records.{all_so, fields_each, fields_in}
use Rattle.rule_laws.proofs.SharesRead.{AreRead, mapped_given, one_list, record_read, rising_apart, then_given, values_there}
use Rattle.rules.specs.States.{allocation_of}
use Rattle.rule_laws.proofs.Changed.{AreFitting}
use Rattle.rule_laws.proofs.GivenShares.{pairs_are, seat_in}
use Rattle.rule_laws.proofs.Tags.{IsRight, Tag, all_first, all_from, all_second, all_tags, data_tag, share_tag, tag, tags_at, tags_of}
use Rattle.rule_laws.proofs.Working.{IsReadTransfer}
use Rattle.world_laws.specs.world_state.Good.{IsKeyword, IsOfSlot}

-- ---- objects, however deep the data lies

mutual
  pub objects_at : (P : Obj → Type 0) (d e : ℕ) (t : Tree) → EachNode (ObjectIs P) d t → EachNode (ObjectIs P) e t
  objects_at P d e (trees.array ts) h = (tt, objects_in_items P (d + 1) (e + 1) ts h.1)
  objects_at P d e (trees.fields fs) h = (tt, objects_in_fields P (d + 1) (e + 1) fs h.1)
  objects_at P d e trees.null h = tt
  objects_at P d e (trees.boolean b) h = tt
  objects_at P d e (trees.number z) h = tt
  objects_at P d e (trees.text s) h = tt
  objects_at P d e (trees.object o) h = h
  objects_at P d e (trees.function name) h = tt

  objects_in_items : (P : Obj → Type 0) (d e : ℕ) (ts : Items) → EachItem (ObjectIs P) d ts → EachItem (ObjectIs P) e ts
  objects_in_items P d e trees.no_items h = tt
  objects_in_items P d e (trees.item t ts) h = (objects_at P d e t h.0, objects_in_items P d e ts h.1)

  objects_in_fields : (P : Obj → Type 0) (d e : ℕ) (fs : Fields) → EachField (ObjectIs P) d fs → EachField (ObjectIs P) e fs
  objects_in_fields P d e trees.no_fields h = tt
  objects_in_fields P d e (trees.field name t fs) h = (objects_at P d e t h.0, objects_in_fields P d e fs h.1)

-- ---- the parts of transfers

-- what is in data is known to the instance, and its fields, where it is a record, stand in order
pub record IsPart (w : State) (i : ℕ) (t : Tree) : Type 0 where
  pub known : EachNode (ObjectIs (ObjectKnown (Some i) w)) 0 t
  pub ordered : AreInOrder (fields_in t)

pub record AreParts (w : State) (i : ℕ) (p : Parts) : Type 0 where
  pub from : IsPart w i p.from
  pub to : IsPart w i p.to
  pub losses : IsPart w i p.from_amounts
  pub gains : IsPart w i p.to_amounts

module _ (w : State) (i : ℕ) where
  abbrev Known : NodeFact
  Known = ObjectIs (ObjectKnown (Some i) w)

  order_of : (d : ℕ) (t : Tree) → EachNode HasFieldsInOrder d t → AreInOrder (fields_in t)
  order_of d (trees.fields fs) h = h.0
  order_of d trees.null h = tt
  order_of d (trees.boolean b) h = tt
  order_of d (trees.number z) h = tt
  order_of d (trees.text s) h = tt
  order_of d (trees.array ts) h = tt
  order_of d (trees.object o) h = tt
  order_of d (trees.function name) h = tt

  null_part : IsPart w i trees.null
  null_part = record { known = tt; ordered = tt }

  items_parts : (d : ℕ) (ts : Items) → EachItem Known d ts → EachItem HasFieldsInOrder d ts → AllByRecursion (IsPart w i) (listed ts)
  items_parts d trees.no_items known ordered = tt
  items_parts d (trees.item t ts) known ordered = (
    record { known = objects_at (ObjectKnown (Some i) w) d 0 t known.0; ordered = order_of d t ordered.0 },
    items_parts d ts known.1 ordered.1,
  )

  parts_of_list : (ts : List Tree) → AllByRecursion (IsPart w i) ts → IfSome (parts_from ts) (AreParts w i)
  parts_of_list [] all = tt
  parts_of_list (a ∷ []) all = tt
  parts_of_list (a ∷ b ∷ []) all = record { from = all.0; to = all.1.0; losses = null_part; gains = null_part }
  parts_of_list (a ∷ b ∷ c ∷ []) all = record { from = all.0; to = all.1.0; losses = all.1.1.0; gains = null_part }
  parts_of_list (a ∷ b ∷ c ∷ d ∷ []) all = record { from = all.0; to = all.1.0; losses = all.1.1.0; gains = all.1.1.1.0 }
  parts_of_list (a ∷ b ∷ c ∷ d ∷ e ∷ es) all = tt

  wholes : (o : Option Parts) → IfSome o (AreParts w i) → IfSome (option_and_then where_whole o) (AreParts w i)
  wholes None are = tt
  wholes (Some p) are = by (is_whole p)
    where
      by : (b : Bool) → IfSome (if b then Some p else None) (AreParts w i)
      by true = are
      by false = tt

  item_parts : (t : Tree) → EachNode Known 1 t → EachNode HasFieldsInOrder 1 t → IfSome (parts_in t) (AreParts w i)
  item_parts (trees.array ts) known ordered = wholes (parts_from (listed ts)) (parts_of_list (listed ts) (items_parts 2 ts known.1 ordered.1))
  item_parts trees.null known ordered = tt
  item_parts (trees.boolean b) known ordered = tt
  item_parts (trees.number z) known ordered = tt
  item_parts (trees.text s) known ordered = tt
  item_parts (trees.fields fs) known ordered = tt
  item_parts (trees.object o) known ordered = tt
  item_parts (trees.function name) known ordered = tt

  abbrev IsItem : Tree → Type 0
  IsItem t = EachNode Known 1 t × EachNode HasFieldsInOrder 1 t

  items_of_list : (ts : Items) → EachItem Known 1 ts → EachItem HasFieldsInOrder 1 ts → AllByRecursion IsItem (listed ts)
  items_of_list trees.no_items known ordered = tt
  items_of_list (trees.item t ts) known ordered = ((known.0, ordered.0), items_of_list ts known.1 ordered.1)

  all_items : (t : Tree) (items : List Tree) → EachNode Known 0 t → EachNode HasFieldsInOrder 0 t → list_of t ≡ Some items → AllByRecursion IsItem items
  all_items (trees.array ts) items known ordered is = subst (AllByRecursion IsItem) (same_Some (listed ts) items is) (items_of_list ts known.1 ordered.1)
  all_items trees.null items known ordered is = absurd (cc)
  all_items (trees.boolean b) items known ordered is = absurd (cc)
  all_items (trees.number z) items known ordered is = absurd (cc)
  all_items (trees.text s) items known ordered is = absurd (cc)
  all_items (trees.fields fs) items known ordered is = absurd (cc)
  all_items (trees.object o) items known ordered is = absurd (cc)
  all_items (trees.function name) items known ordered is = absurd (cc)

  -- what an option has is so
  there : {A : Type 0} (P : A → Type 0) (o : Option A) (x : A) → IfSome o P → o ≡ Some x → P x
  there P o x is at = subst (λ p. IfSome p P) at is

  pub parts_read : (t : Tree) (items : List Tree) (list : List Parts) → EachNode (ObjectIs (ObjectKnown (Some i) w)) 0 t → EachNode HasFieldsInOrder 0 t → list_of t ≡ Some items → read_all parts_in items ≡ Some list → AllByRecursion (AreParts w i) list
  parts_read t items list known ordered is reads = all_so IsItem (AreParts w i) parts_in (λ x p at is_p. there (AreParts w i) (parts_in x) p (item_parts x at.0 at.1) is_p) items list (all_items t items known ordered is) reads

-- ---- the seats

abbrev pub seat_in_part : Tree → List ℕ
seat_in_part t = option_to_list (object_in kinds.Zseat t)

abbrev pub named_in : Parts → List ℕ
named_in p = seat_in_part p.from ++ seat_in_part p.to

no_seat : (t : Tree) → is_null t ≡ true → object_in kinds.Zseat t ≡ None
unfolding object_in
no_seat trees.null is = refl
no_seat (trees.boolean b) is = absurd (cc)
no_seat (trees.number z) is = absurd (cc)
no_seat (trees.text s) is = absurd (cc)
no_seat (trees.array ts) is = absurd (cc)
no_seat (trees.fields fs) is = absurd (cc)
no_seat (trees.object o) is = absurd (cc)
no_seat (trees.function name) is = absurd (cc)

abbrev given_trees : List Tree → List Tree
given_trees ts = filter (λ t. not (is_null t)) ts

seats_collect : (ts : List Tree) (seats : List ℕ) → read_all (object_in kinds.Zseat) (given_trees ts) ≡ Some seats → flat_map seat_in_part ts ≡ seats
seats_collect [] seats is = same_Some [] seats is
seats_collect (t ∷ ts) seats is = by (is_null t) refl is (seats_collect ts)
  where
    by : (b : Bool) → is_null t ≡ b → read_all (object_in kinds.Zseat) (cond (not b) (t ∷ given_trees ts) (given_trees ts)) ≡ Some seats → ((ns : List ℕ) → read_all (object_in kinds.Zseat) (given_trees ts) ≡ Some ns → flat_map seat_in_part ts ≡ ns) → seat_in_part t ++ flat_map seat_in_part ts ≡ seats
    by true e reads later = ap (λ o. option_to_list o ++ flat_map seat_in_part ts) (no_seat t e) ∙ later seats reads
    by false e reads later =
        one_list {A = ℕ} (λ l. seat_in_part t ++ flat_map seat_in_part ts ≡ l) (object_in kinds.Zseat t) (read_all (object_in kinds.Zseat) (given_trees ts)) seats
        (λ n ns at rest. ap (λ o. option_to_list o ++ flat_map seat_in_part ts) at ∙ ap (λ l. n ∷ l) (later ns rest)) reads

parts_flat : (list : List Parts) → flat_map seat_in_part (flat_map (λ (p : Parts). p.from ∷ p.to ∷ []) list) ≡ flat_map named_in list
parts_flat [] = refl
parts_flat (p ∷ ps) =
    sym (append_assoc (seat_in_part p.from) (seat_in_part p.to) (flat_map seat_in_part (flat_map (λ (q : Parts). q.from ∷ q.to ∷ []) ps)))
    ∙ ap (λ l. named_in p ++ l) (parts_flat ps)

pub seats_are_named : (list : List Parts) (seats : List ℕ) → read_all (object_in kinds.Zseat) (seat_trees list) ≡ Some seats → flat_map named_in list ≡ seats
seats_are_named list seats is = sym (parts_flat list) ∙ seats_collect (flat_map (λ (p : Parts). p.from ∷ p.to ∷ []) list) seats is

module _ (w : State) (i : ℕ) where
  abbrev KnownAt : Tree → Type 0
  KnownAt t = EachNode (ObjectIs (ObjectKnown (Some i) w)) 0 t

  trees_known : (list : List Parts) → AllByRecursion (AreParts w i) list → AllByRecursion KnownAt (flat_map (λ (p : Parts). p.from ∷ p.to ∷ []) list)
  trees_known [] all = tt
  trees_known (p ∷ ps) all = (all.0.from.known, (all.0.to.known, trees_known ps all.1))

  pub seats_own : (list : List Parts) (seats : List ℕ) → AllByRecursion (AreParts w i) list → read_all (object_in kinds.Zseat) (seat_trees list) ≡ Some seats → AllByRecursion (IsSeatOf w.seats i) seats
  seats_own list seats all is =
      all_so KnownAt (IsSeatOf w.seats i) (object_in kinds.Zseat) (λ t n known at. seat_in w i t n known at) (seat_trees list) seats
      (all_filter KnownAt (λ t. not (is_null t)) (flat_map (λ (p : Parts). p.from ∷ p.to ∷ []) list) (trees_known list all)) is

-- ---- the records

-- shares that were read of a record of the data
pub record AreSharesOf (w : State) (i : ℕ) (shares : List ShareData) : Type 0 where
  pub of : Fields
  pub known : EachField (ObjectIs (ObjectKnown (Some i) w)) 1 of
  pub ordered : AreInOrder of
  pub reads : read_all share_in (paired of) ≡ Some shares

-- what is asked for is read of the parts of a transfer
pub record IsAsked (w : State) (i : ℕ) (p : Parts) (a : Asked) : Type 0 where
  pub from : a.from ≡ object_in kinds.Zseat p.from
  pub to : a.to ≡ object_in kinds.Zseat p.to
  pub losses : IfSome a.losses (AreSharesOf w i)
  pub gains : IfSome a.gains (AreSharesOf w i)

module _ (w : State) (i : ℕ) where
  known_fields : (t : Tree) → EachNode (ObjectIs (ObjectKnown (Some i) w)) 0 t → EachField (ObjectIs (ObjectKnown (Some i) w)) 1 (fields_in t)
  known_fields t known = fields_each (ObjectIs (ObjectKnown (Some i) w)) t known

  record_shares : (t : Tree) → IsPart w i t → IfSome (shares_of t) (AreSharesOf w i)
  record_shares t part = then_given (AreSharesOf w i) (pairs_of t) (read_all share_in) (λ fs at. some_by (read_all share_in fs) (λ shares reads. record {
    of = fields_in t;
    known = known_fields t part.known;
    ordered = part.ordered;
    reads = ap (read_all share_in) (pairs_are t fs at) ∙ reads;
  }))
    where
      some_by : (o : Option (List ShareData)) → ((shares : List ShareData) → o ≡ Some shares → AreSharesOf w i shares) → IfSome o (AreSharesOf w i)
      some_by (Some shares) to = to shares refl
      some_by None to = tt

  maybe_shares : (t : Tree) → IsPart w i t → IfSome (shares_or_none t) (λ o. IfSome o (AreSharesOf w i))
  maybe_shares t part = by (is_null t)
    where
      mapped : (o : Option (List ShareData)) → IfSome o (AreSharesOf w i) → IfSome (option_map Some o) (λ (q : Option (List ShareData)). IfSome q (AreSharesOf w i))
      mapped None is = tt
      mapped (Some shares) is = is

      by : (b : Bool) → IfSome (if b then Some None else option_map Some (shares_of t)) (λ (q : Option (List ShareData)). IfSome q (AreSharesOf w i))
      by true = tt
      by false = mapped (shares_of t) (record_shares t part)

  asked_of : (p : Parts) → AreParts w i p → IfSome (asked_in p) (IsAsked w i p)
  asked_of p are =
      then_given (IsAsked w i p) (shares_or_none p.from_amounts) _ (λ losses at.
      mapped_given (IsAsked w i p) (shares_or_none p.to_amounts) (asked p losses) (λ gains there. record {
        from = refl;
        to = refl;
        losses = has (shares_or_none p.from_amounts) losses (maybe_shares p.from_amounts are.losses) at;
        gains = has (shares_or_none p.to_amounts) gains (maybe_shares p.to_amounts are.gains) there;
      }))
    where
      has : (o : Option (Option (List ShareData))) (x : Option (List ShareData)) → IfSome o (λ q. IfSome q (AreSharesOf w i)) → o ≡ Some x → IfSome x (AreSharesOf w i)
      has o x is at = subst (λ q. IfSome q (λ r. IfSome r (AreSharesOf w i))) at is

  -- all that is asked for, one for each part
  abbrev pub AreAsked : List Parts → List Asked → Type 0
  AreAsked [] [] = Unit {0}
  AreAsked [] (a ∷ rest) = ⊥
  AreAsked (p ∷ ps) [] = ⊥
  AreAsked (p ∷ ps) (a ∷ rest) = IsAsked w i p a × AreAsked ps rest

  pub all_asked : (list : List Parts) (read : List Asked) → AllByRecursion (AreParts w i) list → read_all asked_in list ≡ Some read → AreAsked list read
  all_asked [] read are is = subst (AreAsked []) (same_Some [] read is) tt
  all_asked (p ∷ ps) read are is =
      one_list {A = Asked} (AreAsked (p ∷ ps)) (asked_in p) (read_all asked_in ps) read
      (λ a rest at later. (subst (λ o. IfSome o (IsAsked w i p)) at (asked_of p are.0), all_asked ps rest are.1 later)) is

-- ---- their values

-- a transfer whose values are read
pub record IsValued (a : Asked) (t : Transfer) : Type 0 where
  pub from : t.from ≡ a.from
  pub to : t.to ≡ a.to
  pub losses : valued_or_none a.losses ≡ Ok t.from_amounts
  pub gains : valued_or_none a.gains ≡ Ok t.to_amounts

abbrev pub AreValued : List Asked → List Transfer → Type 0
AreValued [] [] = Unit {0}
AreValued [] (t ∷ ts) = ⊥
AreValued (a ∷ rest) [] = ⊥
AreValued (a ∷ rest) (t ∷ ts) = IsValued a t × AreValued rest ts

one_valued : (a : Asked) → IfOk (transfer_of a) (IsValued a)
unfolding transfer_of
one_valued a = after_step _ _ _ (λ losses l. after_step _ _ _ (λ gains g. record { from = refl; to = refl; losses = l; gains = g }))

pub all_valued : (read : List Asked) → IfOk (transfers_of read) (AreValued read)
all_valued [] = tt
all_valued (a ∷ rest) = after_step _ _ _ (λ t one. after_step _ _ _ (λ ts others. (ok_has _ _ t one (one_valued a), ok_has _ _ ts others (all_valued rest))))

no_shares : valued [] ≡ Ok []
unfolding valued values_in bind wanted
no_shares = refl

valued_else : (o : Option (List ShareData)) (p : Option (List Share)) (d : List ShareData) (e : List Share) → valued_or_none o ≡ Ok p → valued d ≡ Ok e → valued (unwrap_or o d) ≡ Ok (unwrap_or p e)
unfolding valued_or_none bind
valued_else None p d e is default = let same : None ≡ p = cc in subst (λ q. valued d ≡ Ok (unwrap_or q e)) same default
valued_else (Some shares) p d e is default = by (valued shares) refl is
  where
    by : (r : Result (List Share) Refusal) → valued shares ≡ r → bind r (λ read. Ok (Some read)) ≡ Ok p → valued shares ≡ Ok (unwrap_or p e)
    by (Ok read) at h = let same : Some read ≡ p = cc in subst (λ q. valued shares ≡ Ok (unwrap_or q e)) same at
    by (Err r) at h = absurd (cc)

module _ (a : Asked) (t : Transfer) (is : IsValued a t) where
  pub losses_valued : valued (losses_of a) ≡ Ok (transfers.losses_of t)
  losses_valued = valued_else a.losses t.from_amounts [] [] is.losses no_shares

  pub gains_valued : valued (gains_of a) ≡ Ok (transfers.gains_of t)
  gains_valued = valued_else a.gains t.to_amounts (losses_of a) (transfers.losses_of t) is.gains losses_valued

-- ---- what they are told by

abbrev data_tags : Option ℕ → List ShareData → List Tag
data_tags o shares = map data_tag (shares_for o shares)

valued_tags : (n : ℕ) (found : List ShareData) (values : List ValueView) → read_all share_value found ≡ Some values → map (share_tag n) (with_values found values) ≡ map data_tag (map (share_for n) found)
valued_tags n [] values is = refl
valued_tags n (d ∷ ds) values is =
    one_list {A = ValueView} (λ l. map (share_tag n) (with_values (d ∷ ds) l) ≡ map data_tag (map (share_for n) (d ∷ ds))) (share_value d) (read_all share_value ds) values
    (λ v vs at rest. ap (λ l. tag n d.keyword d.amount.brand ∷ l) (valued_tags n ds vs rest)) is

same_tags : (o : Option ℕ) (found : List ShareData) (shares : List Share) → valued found ≡ Ok shares → tags_at o shares ≡ data_tags o found
same_tags None found shares is = refl
same_tags (Some n) found shares is = values_there found shares (λ rs. map (share_tag n) rs ≡ map data_tag (map (share_for n) found)) is (valued_tags n found)

transfer_tags : (a : Asked) (t : Transfer) → IsValued a t → tags_of t ≡ map data_tag (shares_asked a)
transfer_tags a t is =
    ap (λ o. tags_at o (transfers.losses_of t) ++ tags_at t.to (transfers.gains_of t)) is.from
    ∙ ap (λ o. tags_at a.from (transfers.losses_of t) ++ tags_at o (transfers.gains_of t)) is.to
    ∙ ap (λ l. l ++ tags_at a.to (transfers.gains_of t)) (same_tags a.from (losses_of a) (transfers.losses_of t) (losses_valued a t is))
    ∙ ap (λ l. data_tags a.from (losses_of a) ++ l) (same_tags a.to (gains_of a) (transfers.gains_of t) (gains_valued a t is))
    ∙ sym (map-append data_tag (shares_for a.from (losses_of a)) (shares_for a.to (gains_of a)))

pub all_tags_are : (read : List Asked) (list : List Transfer) → AreValued read list → all_tags list ≡ map data_tag (flat_map shares_asked read)
all_tags_are [] [] are = refl
all_tags_are [] (t ∷ ts) are = absurd are
all_tags_are (a ∷ rest) [] are = absurd are
all_tags_are (a ∷ rest) (t ∷ ts) are =
    ap (λ l. l ++ all_tags ts) (transfer_tags a t are.0)
    ∙ ap (λ l. map data_tag (shares_asked a) ++ l) (all_tags_are rest ts are.1)
    ∙ sym (map-append data_tag (shares_asked a) (flat_map shares_asked rest))

pub all_seats_are : (w : State) (i : ℕ) (parts : List Parts) (read : List Asked) (list : List Transfer) → AreAsked w i parts read → AreValued read list → seats_named list ≡ flat_map named_in parts
all_seats_are w i [] [] [] asked are = refl
all_seats_are w i [] [] (t ∷ ts) asked are = absurd are
all_seats_are w i [] (a ∷ rest) list asked are = absurd asked
all_seats_are w i (p ∷ ps) [] list asked are = absurd asked
all_seats_are w i (p ∷ ps) (a ∷ rest) [] asked are = absurd are
all_seats_are w i (p ∷ ps) (a ∷ rest) (t ∷ ts) asked are =
    ap (λ o. (option_to_list o ++ option_to_list t.to) ++ seats_named ts) (are.0.from ∙ asked.0.from)
    ∙ ap (λ o. (seat_in_part p.from ++ option_to_list o) ++ seats_named ts) (are.0.to ∙ asked.0.to)
    ∙ ap (λ l. named_in p ++ l) (all_seats_are w i ps rest ts asked.1 are.1)

-- ---- shares that fit their slots

no_ill : (n : ℕ) (found : List ShareData) (w : State) → AllByRecursion (IsRight w) (map data_tag (map (share_for n) found)) → first_ill (keywords found) ≡ None
unfolding first_ill
no_ill n [] w all = refl
no_ill n (d ∷ ds) w all = ap (λ b. cond (not b) (Some d.keyword) (find (λ k. not (is_keyword k)) (keywords ds))) all.0.named ∙ no_ill n ds w all.1

module _ (w : State) (i : ℕ) where
  right_fit : (n : ℕ) (found : List ShareData) (shares : List Share) → AreSharesOf w i found → valued found ≡ Ok shares → AllByRecursion (IsRight w) (map data_tag (map (share_for n) found)) → AreFitting w (allocation_of w n) shares
  right_fit n found shares are values right =
      let tags : AllByRecursion (IsRight w) (map (share_tag n) shares) = subst (AllByRecursion (IsRight w)) (sym (same_tags (Some n) found shares values)) right in
      let each = all_from (share_tag n) (IsRight w) shares tags in
      let read : AreRead w shares (names (paired are.of)) = record_read w (Some i) are.of found shares are.known are.ordered are.reads (no_ill n found w right) values in
      record {
        each = read.each;
        apart = rising_apart shares read.rising;
        named = all_map (λ (r : Share). IsRight w (share_tag n r)) (λ (r : Share). IsKeyword r.keyword) (λ r is. is.named) shares each;
        of_slots = all_map (λ (r : Share). IsRight w (share_tag n r)) (IsOfSlot (allocation_of w n)) (λ r is. is.of_slot) shares each;
      }

  fit_at : (o : Option ℕ) (found : List ShareData) (shares : List Share) → AreSharesOf w i found → valued found ≡ Ok shares → AllByRecursion (IsRight w) (data_tags o found) → IfSome o (λ n. AreFitting w (allocation_of w n) shares)
  fit_at None found shares are values right = tt
  fit_at (Some n) found shares are values right = right_fit n found shares are values right

  none_asked : AreSharesOf w i []
  none_asked = record { of = trees.no_fields; known = tt; ordered = tt; reads = refl }

  asked_or : (o : Option (List ShareData)) (d : List ShareData) → IfSome o (AreSharesOf w i) → AreSharesOf w i d → AreSharesOf w i (unwrap_or o d)
  asked_or None d is default = default
  asked_or (Some shares) d is default = is

  transfer_read : (p : Parts) (a : Asked) (t : Transfer) → IsAsked w i p a → IsValued a t → AllByRecursion (IsRight w) (map data_tag (shares_asked a)) → IsReadTransfer w t
  transfer_read p a t asked is right =
      let parted = subst (AllByRecursion (IsRight w)) (map-append data_tag (shares_for a.from (losses_of a)) (shares_for a.to (gains_of a))) right in
      let losing = data_tags a.from (losses_of a) in
      let gaining = data_tags a.to (gains_of a) in
      let losses = asked_or a.losses [] asked.losses none_asked in
      let gains = asked_or a.gains (losses_of a) asked.gains losses in
      record {
        losses = subst (λ o. IfSome o (λ n. AreFitting w (allocation_of w n) (transfers.losses_of t))) (sym is.from)
            (fit_at a.from (losses_of a) (transfers.losses_of t) losses (losses_valued a t is) (all_first (IsRight w) losing gaining parted));
        gains = subst (λ o. IfSome o (λ n. AreFitting w (allocation_of w n) (transfers.gains_of t))) (sym is.to)
            (fit_at a.to (gains_of a) (transfers.gains_of t) gains (gains_valued a t is) (all_second (IsRight w) losing gaining parted));
      }

  pub transfers_read : (parts : List Parts) (read : List Asked) (list : List Transfer) → AreAsked w i parts read → AreValued read list → AllByRecursion (IsRight w) (map data_tag (flat_map shares_asked read)) → AllByRecursion (IsReadTransfer w) list
  transfers_read [] [] [] asked are right = tt
  transfers_read [] [] (t ∷ ts) asked are right = absurd are
  transfers_read [] (a ∷ rest) list asked are right = absurd asked
  transfers_read (p ∷ ps) [] list asked are right = absurd asked
  transfers_read (p ∷ ps) (a ∷ rest) [] asked are right = absurd are
  transfers_read (p ∷ ps) (a ∷ rest) (t ∷ ts) asked are right =
      let parted = subst (AllByRecursion (IsRight w)) (map-append data_tag (shares_asked a) (flat_map shares_asked rest)) right in (
        transfer_read p a t asked.0 are.0 (all_first (IsRight w) (map data_tag (shares_asked a)) (map data_tag (flat_map shares_asked rest)) parted),
        transfers_read ps rest ts asked.1 are.1 (all_second (IsRight w) (map data_tag (shares_asked a)) (map data_tag (flat_map shares_asked rest)) parted),
      )
