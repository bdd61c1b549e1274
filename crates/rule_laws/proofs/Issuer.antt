-- The rules of issuers are good.
use Rattle.std.proofs.Common.{ℕ, List, None, IfOk, codes, inl, refl, sym, ◌∙◌, arith, ◌≡◌, suc, ◌+◌, ◌<◌, ◌≤◌, [], ◌∷◌, length, ap, subst}
use Rattle.world_laws.specs.brands.Brands.{brand_at}
use Rattle.world_laws.specs.ertp_mint.Stocks.{empty_amount, most_made}
use Rattle.world_laws.specs.host_data.Tree.{Tree}
use Rattle.world_laws.specs.host_data.declared.data.ObjKind.TheVariants as kinds
use Rattle.world_laws.proofs.lemmas.ListEdits.{length_push}
use Rattle.world_laws.proofs.refusals.Steps.{after_check, after_need, after_step, ok_has}
use Rattle.world_laws.specs.vault_model.Lists.{amount_of}
use Rattle.world_laws.specs.world_state.Known.{FunctionKnown, HasNames, IsFormed, ObjectKnown}
use Rattle.world_laws.specs.world_state.Worlds.{State, after, moves, nothing_of}
use Rattle.rules.specs.Obligations.{CanCall, IsGoodOutcome, IsRule}
use Rattle.rules.specs.Outcomes.{Outcome}
use Rattle.rule_laws.proofs.Forms.{amount_formed, boolean_formed, object_formed, text_formed}
use Rattle.rule_laws.proofs.Moving.{Holds, held_kind, payment_to_outside}
use Rattle.rule_laws.proofs.Next.{after_next_of, after_next_payment}
use Rattle.rule_laws.proofs.Reading.{by_method, reads}
use Rattle.rules.specs.Issuer.{burn, claim, combine, get_alleged_name, get_amount_of, get_asset_kind, get_brand, is_live, make_empty_purse, of_issuer, rest_of, split, split_many}
use Rattle.rule_laws.specs.GoodServices.{AreGoodRules, numbered}
use Rattle.rule_laws.proofs.GivenPayments.{IsGiven, held_value, live_is}
use Rattle.std.specs.List.{AllByRecursion}
use Rattle.world_laws.specs.amount_math.Content.{Contains, count-difference, difference, sum, sum-comm, sum-difference, sum-nothing}
use Rattle.world_laws.specs.amount_math.KindLaws.{value_of_part}
use Rattle.world_laws.specs.amount_math.ValueView.{IsValue, ValueView}
use Rattle.world_laws.specs.amount_math.declared.Kind.{Kind}
use Rattle.rules.specs.call_arguments.Arguments.{arg}
use Rattle.rules.proofs.call_arguments.Same.{same_is}
use Rattle.world_laws.specs.host_data.Amounts.{IsValueOf}
use Rattle.world_laws.specs.host_data.Values.{object_tree}
use Rattle.rules.specs.Licence.{NamesPayment}
use Rattle.rule_laws.proofs.GivenData.{amount_is}
use Rattle.world_laws.specs.host_data.Nodes.{EachItem, FunctionIs, HasFieldsInOrder, IsShallow, NodeFact, ObjectIs}
use Rattle.world_laws.specs.host_data.Tree as trees
use Rattle.world_laws.specs.host_data.View.{items_of}
use Rattle.world_laws.specs.host_data.declared.data.Obj.{Obj}
use Rattle.rules.specs.holders.PaymentViews.{live_payment}
use Rattle.rules.proofs.value_tests.Contents.{has-true}
use Rattle.rules.specs.value_tests.Totals.{total_of}
use Rattle.world_laws.specs.world_state.Good.{open_slots}
use Rattle.world_laws.specs.world_state.Rights.{all_moved, kind_at}
use Rattle.rules.specs.GivenPayments.{LivePayment}
use Rattle.rules.specs.Lists.{combined, moves_apart, moves_to, parted, payments_from, values_of}
use Rattle.rule_laws.proofs.Apart.{licensed_apart, parted_can, payments_apart, stored_apart}
use Rattle.rule_laws.proofs.Lists.{AreGiven, after_next_payments, listed_are, parts_are, sum_is, summed_value}
use Rattle.rule_laws.proofs.Spending.{spent_length}
use Rattle.rule_laws.proofs.Together.{gathered_can, gathered_length, licensed_to, stored_to}

-- ---- what an issuer tells

pub name_formed : (w : State) (n : ℕ) → IfOk (get_alleged_name w n) (IsFormed w None)
unfolding get_alleged_name
name_formed w n = text_formed w None _

pub kind_formed : (w : State) (n : ℕ) → IfOk (get_asset_kind w n) (IsFormed w None)
unfolding get_asset_kind
kind_formed w n = text_formed w None _

module _ (w : State) (n : ℕ) (args : List Tree) (can : CanCall w None (numbered kinds.Issuer n) args) where
  brand_formed : IfOk (get_brand w n) (IsFormed w None)
  unfolding get_brand
  brand_formed = object_formed w None _ (record { made = can.target; kind_is = refl })

  live_formed : IfOk (is_live w n args) (IsFormed w None)
  unfolding is_live
  live_formed = after_step _ _ _ (λ p is. boolean_formed w None _)

  purse_is_made : IsGoodOutcome w None (numbered kinds.Issuer n) (codes "makeEmptyPurse") args (make_empty_purse w n)
  unfolding make_empty_purse
  purse_is_made = after_next_of _ _ _ _ (λ few. record {
    good = (record { made = can.target; few = few }, tt);
    known = object_formed _ None _ (omega (arith, length_push w.rights.purses (empty_amount n (brand_at w.brands n).kind)));
    leaves = refl;
    opens = refl;
    licensed = tt;
    stored = tt;
    acts = (refl, tt);
    calls = omega arith;
  })

  burn_is : IsGoodOutcome w None (numbered kinds.Issuer n) (codes "burn") args (burn w n args)
  unfolding burn
  burn_is = after_step _ _ _ (λ g is. after_check _ _ _ (
      let given : IsGiven w n args g = ok_has _ _ g is (live_is w None n 1 args (can.arguments 1)) in
      record {
        good = payment_to_outside w can.good g.number n g.value given.holds;
        known = amount_formed _ None (amount_of n g.value) (record { made = can.target; kind_is = sym (can.good.brands.kinds n) ∙ held_kind w can.good g.number n g.value given.holds });
        leaves = refl;
        opens = refl;
        licensed = (given.named, tt);
        stored = (inl tt, tt);
        acts = (tt, tt);
        calls = omega arith;
      }))

-- ---- arrays of payments

made_each : (w : State) (n : ℕ) (vs : List ValueView) → n + length vs ≤ length w.rights.payments → EachItem (ObjectIs (ObjectKnown None w)) 1 (items_of (payments_from n vs))
made_each w n [] le = tt
made_each w n (v ∷ vs) le = (omega (arith, le), made_each w (suc n) vs (omega (arith, le)))

free_each : (F : NodeFact) → ((n : ℕ) (o : Obj) → F n (trees.object o)) → (n : ℕ) (vs : List ValueView) → EachItem F 1 (items_of (payments_from n vs))
free_each F objects n [] = tt
free_each F objects n (v ∷ vs) = (objects 1 _, free_each F objects (suc n) vs)

payments_formed : (w : State) (n : ℕ) (vs : List ValueView) → n + length vs ≤ length w.rights.payments → IsFormed w None (trees.array (items_of (payments_from n vs)))
payments_formed w n vs le = record {
  objects = (tt, made_each w n vs le);
  functions = (tt, free_each (FunctionIs (FunctionKnown None w)) (λ k o. tt) n vs);
  named = (tt, free_each HasNames (λ k o. tt) n vs);
  ordered = (tt, free_each HasFieldsInOrder (λ k o. tt) n vs);
  shallow = (omega arith, free_each (IsShallow 32) (λ k o. tt) n vs);
}

-- ---- one payment that is given

module _ (w : State) (n : ℕ) (args : List Tree) (can : CanCall w None (numbered kinds.Issuer n) args) where
  given_is : (g : LivePayment) → IsGiven w n args g → IsValue g.value.kind g.value.content
  given_is g given = held_value w n g.number g.value can.good.valued given.holds

  amount_read : IfOk (get_amount_of w n args) (IsFormed w None)
  unfolding get_amount_of
  amount_read = after_step _ _ _ (λ g is.
      let given : IsGiven w n args g = ok_has _ _ g is (live_is w None n 1 args (can.arguments 1)) in
      amount_formed w None (amount_of n g.value) (record { made = can.target; kind_is = sym (can.good.brands.kinds n) ∙ held_kind w can.good g.number n g.value given.holds }))

  claim_is : IsGoodOutcome w None (numbered kinds.Issuer n) (codes "claim") args (claim w n args)
  unfolding claim
  claim_is = after_step _ _ _ (λ g is. after_check _ _ _ (after_next_payment _ _ _ (λ room.
      let next = length w.rights.payments in
      let given : IsGiven w n args g = ok_has _ _ g is (live_is w None n 1 args (can.arguments 1)) in
      let ms = moves_apart n g.number next (g.value ∷ []) in
      record {
        good = parted_can w can.good g.number n g.value (g.value ∷ []) given.holds (record { kind_is = refl; value = given_is g given }, tt) (sum-nothing g.value.content) (omega (arith, room));
        known = object_formed _ None _ (omega (arith, spent_length ms (all_moved w.rights ms).payments, payments_apart w.rights g.number n next (g.value ∷ []) refl));
        leaves = refl;
        opens = refl;
        licensed = (given.named, tt);
        stored = (inl tt, tt);
        acts = (tt, tt);
        calls = omega arith;
      })))

  -- a payment that is split into parts
  parted_is : (m : List ℕ) (g : LivePayment) (vs : List ValueView) → IsGiven w n args g → AllByRecursion (IsValueOf g.value.kind) vs → total_of vs ≡ g.value.content → length w.rights.payments + open_slots w.seats w.rights.slots + length vs ≤ most_made → IsRule w None (numbered kinds.Issuer n) m args (parted n g.number (length w.rights.payments) vs).0 (parted n g.number (length w.rights.payments) vs).1
  parted_is m g vs given values whole room =
      let next = length w.rights.payments in
      let ms = moves_apart n g.number next vs in
      record {
        good = parted_can w can.good g.number n g.value vs given.holds values whole room;
        known = payments_formed (after w (moves ms)) next vs (omega (arith, spent_length ms (all_moved w.rights ms).payments, payments_apart w.rights g.number n next vs refl));
        leaves = refl;
        opens = refl;
        licensed = licensed_apart w (numbered kinds.Issuer n) m args g.number n next vs given.named;
        stored = stored_apart g.number n next vs;
        acts = (tt, tt);
        calls = omega arith;
      }

  rest_is : (g : LivePayment) (part : ValueView) → IsGiven w n args g → Contains g.value.content part.content → IsValueOf g.value.kind (rest_of g.value part)
  rest_is g part given has = record {
    kind_is = refl;
    value = value_of_part g.value.kind g.value.content (difference g.value.content part.content) (record { each = λ k. omega (arith, count-difference g.value.content part.content k) }) (given_is g given);
  }

  both_are : (g : LivePayment) (part : ValueView) → Contains g.value.content part.content → total_of (part ∷ rest_of g.value part ∷ []) ≡ g.value.content
  both_are g part has =
      ap (sum part.content) (sum-nothing (difference g.value.content part.content))
      ∙ sum-comm part.content (difference g.value.content part.content)
      ∙ sum-difference g.value.content part.content has

  split_is : IsGoodOutcome w None (numbered kinds.Issuer n) (codes "split") args (split w n args)
  unfolding split
  split_is = after_step _ _ _ (λ g is. after_step _ _ _ (λ part reads. after_need _ _ _ _ (λ enough. after_next_payments _ w 2 _ (λ room.
      let given : IsGiven w n args g = ok_has _ _ g is (live_is w None n 1 args (can.arguments 1)) in
      let value : IsValueOf g.value.kind part = ok_has _ _ part reads (amount_is n g.value.kind 2 (arg 2 args)) in
      let has = has-true g.value part enough in
      parted_is (codes "split") g (part ∷ rest_of g.value part ∷ []) given (value, (rest_is g part given has, tt)) (both_are g part has) room))))

  split_many_is : IsGoodOutcome w None (numbered kinds.Issuer n) (codes "splitMany") args (split_many w n args)
  unfolding split_many
  split_many_is = after_step _ _ _ (λ g is. after_step _ _ _ (λ items listed. after_step _ _ _ (λ vs reads. after_step _ _ _ (λ total summed. after_need _ _ _ _ (λ same. after_next_payments _ w (length vs) _ (λ room.
      let given : IsGiven w n args g = ok_has _ _ g is (live_is w None n 1 args (can.arguments 1)) in
      let values : AllByRecursion (IsValueOf g.value.kind) vs = ok_has _ _ vs reads (parts_are n g.value.kind 2 items) in
      let sums = sum_is g.value.kind vs total summed in
      let kinds_meet : g.value.kind ≡ total.kind = sym (ap (λ (v : ValueView). v.kind) sums) in
      let whole : total_of vs ≡ g.value.content = sym (ap (λ (v : ValueView). v.content) (same_is g.value total kinds_meet same ∙ sums)) in
      parted_is (codes "splitMany") g vs given values whole room))))))

  -- ---- payments that are given in a list

  holds_all : (gs : List LivePayment) → AllByRecursion (IsGiven w n args) gs → AllByRecursion (λ (g : LivePayment). Holds w.rights.payments g.number n g.value) gs
  holds_all [] all = tt
  holds_all (g ∷ gs) all = (all.0.holds, holds_all gs all.1)

  names_all : (gs : List LivePayment) → AllByRecursion (IsGiven w n args) gs → AllByRecursion (λ (g : LivePayment). NamesPayment args g.number) gs
  names_all [] all = tt
  names_all (g ∷ gs) all = (all.0.named, names_all gs all.1)

  values_all : (kind : Kind) (gs : List LivePayment) → kind_at w.rights.out n ≡ kind → AllByRecursion (IsGiven w n args) gs → AllByRecursion (IsValueOf kind) (values_of gs)
  values_all kind [] same all = tt
  values_all kind (g ∷ gs) same all =
      let own = sym (held_kind w can.good g.number n g.value all.0.holds) ∙ same in (
        record { kind_is = own; value = subst (λ (k : Kind). IsValue k g.value.content) own (given_is g all.0) },
        values_all kind gs same all.1,
      )

  combined_is : (gs : List LivePayment) → AreGiven w n args gs → IsValue (kind_at w.rights.out n) (total_of (values_of gs)) → length w.rights.payments + open_slots w.seats w.rights.slots < most_made → IsRule w None (numbered kinds.Issuer n) (codes "combine") args (object_tree kinds.Payment (length w.rights.payments)) (combined n (length w.rights.payments) gs)
  combined_is [] are value room = record {
    good = (record { made = can.target; room = room }, tt);
    known = object_formed _ None _ (omega (arith, length_push w.rights.payments (live_payment (nothing_of w n))));
    leaves = refl;
    opens = refl;
    licensed = tt;
    stored = tt;
    acts = (refl, tt);
    calls = omega arith;
  }
  combined_is (g ∷ gs) are value room =
      let next = length w.rights.payments in
      let ms = moves_to n next (g ∷ gs) in
      record {
        good = gathered_can w can.good n g gs (holds_all (g ∷ gs) are.given) are.apart value room;
        known = object_formed _ None _ (omega (arith, spent_length ms (all_moved w.rights ms).payments, gathered_length w can.good n g gs));
        leaves = refl;
        opens = refl;
        licensed = licensed_to w (numbered kinds.Issuer n) (codes "combine") args next n (g ∷ gs) (names_all (g ∷ gs) are.given);
        stored = stored_to next n (g ∷ gs);
        acts = (tt, tt);
        calls = omega arith;
      }

  combine_is : IsGoodOutcome w None (numbered kinds.Issuer n) (codes "combine") args (combine w n args)
  unfolding combine
  combine_is = after_step _ _ _ (λ gs is. after_step _ _ _ (λ total summed. after_check _ _ _ (after_next_payment _ _ _ (λ room.
      let are : AreGiven w n args gs = ok_has _ _ gs is (listed_are w n args (can.arguments 1)) in
      combined_is gs are (summed_value (kind_at w.rights.out n) (values_of gs) total (values_all (kind_at w.rights.out n) gs refl are.given) summed) room))))

-- ---- the table of methods

pub issuers_are : AreGoodRules kinds.Issuer of_issuer
issuers_are w n m args can =
    let P : List ℕ → Outcome → Type 0 = λ k rule. IsGoodOutcome w None (numbered kinds.Issuer n) k args rule in
    by_method P m (codes "getAllegedName") _ _ (reads w None _ _ args (get_alleged_name w n) refl refl (name_formed w n))
    (by_method P m (codes "getAssetKind") _ _ (reads w None _ _ args (get_asset_kind w n) refl refl (kind_formed w n))
    (by_method P m (codes "getAmountOf") _ _ (reads w None _ _ args (get_amount_of w n args) refl refl (amount_read w n args can))
    (by_method P m (codes "claim") _ _ (claim_is w n args can)
    (by_method P m (codes "combine") _ _ (combine_is w n args can)
    (by_method P m (codes "split") _ _ (split_is w n args can)
    (by_method P m (codes "splitMany") _ _ (split_many_is w n args can)
    (by_method P m (codes "getBrand") _ _ (reads w None _ _ args (get_brand w n) refl refl (brand_formed w n args can))
    (by_method P m (codes "makeEmptyPurse") _ _ (purse_is_made w n args can)
    (by_method P m (codes "isLive") _ _ (reads w None _ _ args (is_live w n args) refl refl (live_formed w n args can))
    (by_method P m (codes "burn") _ _ (burn_is w n args can) tt))))))))))
