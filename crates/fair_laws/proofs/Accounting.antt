-- What a turn's effects account for is what a step has to show of movements, totals, brands and payments.
use Rattle.std.specs.Prelude.{◌≡◌, ◌==◌, ◌||◌, ◌&&◌, ◌+◌, ◌<◌, ◌≤◌, ℕ, zero, suc, Bool, true, false, cond, List, [], ◌∷◌, ◌++◌, Option, Some, None, is_none, length, map, refl}
use Rattle.std.specs.Cmp.Lexicographic.{slice_cmp}
use Rattle.std.specs.List.{AllByRecursion, flat_map}
use Rattle.std.specs.Ordering.{match_ordering, nat_cmp}
use Rattle.std.specs.declared.cmp.Ordering.{Ordering}
use Rattle.std.specs.declared.cmp.Ordering.TheVariants.{Equal, Greater, Less}
use Rattle.std.proofs.Common.{sym, ◌∙◌, ap, subst, arith}
use Rattle.fair_rows.specs.amount_math.Content.{count-nothing, nothing, sum}
use Rattle.fair_rows.specs.amount_math.Counted.{counted as size}
use Rattle.fair_rows.specs.amount_math.ValueView.{IsValue, ValueView}
use Rattle.fair_rows.specs.amount_math.declared.Kind.TheVariants.{Nat}
use Rattle.delivery_laws.specs.brands.declared.Brand.{Brand}
use Rattle.delivery_laws.specs.turn_records.Values.{printed_value}
use Rattle.delivery_laws.specs.ertp_mint.BrandSupply.{BrandSupply, new_supply}
use Rattle.fair_laws.specs.Accounts.{AreStoredEffects, IsAccounted, IsKnownEvent, is_taken}
use Rattle.fair_laws.specs.Places.{rows_of}
use Rattle.fair_laws.proofs.Accounted.{effects_accounted}
use Rattle.fair_laws.proofs.Values.{printed_is, told_content}
use Rattle.fair_rows.specs.Movements.{is_payment_at, movement_of, movements_in, names, takes_from}
use Rattle.fair_rows.specs.SoFar.{amounts_at}
use Rattle.fair_rows.specs.Steps.{IsKnown, World}
use Rattle.fair_rows.specs.Values.{Named, value_of}
use Rattle.delivery_laws.specs.holders.PaymentViews.{PaymentView, payment_view_at}
use Rattle.delivery_laws.specs.proposals.declared.allocations.Share.{Share}
use Rattle.delivery_laws.specs.vault_model.Lists.{amount_of}
use Rattle.delivery_laws.specs.vault_model.Tables.{content_held, in_brand, right_on}
use Rattle.fair_rows.specs.rights_model.Supply.{burned, is_outside, minted}
use Rattle.fair_rows.specs.rights_model.Table.{CanMoveAll, Table, moved, table_after}
use Rattle.fair_rows.specs.rights_model.Totals.{brands_of, placed}
use Rattle.fair_rows.specs.rights_model.declared.Holder.TheVariants.{Hand, Payment}
use Rattle.fair_rows.specs.rights_model.declared.Movement.{Movement}
use Rattle.delivery_laws.specs.world_laws.Tables.{sum_of, table_of}
use Rattle.delivery_laws.proofs.world_laws.Changes.{none_either}
use Rattle.delivery_laws.proofs.world_laws.Tabled.{table_agrees}
use Rattle.delivery_laws.specs.turn_records.Events as events
use Rattle.delivery_laws.specs.turn_records.Events.{Event, moves_in}
use Rattle.delivery_laws.specs.turn_records.Printed.{printed_move, printed_share, printed_shares}
use Rattle.fair_rows.specs.turn_rows.Order.{put_amount}
use Rattle.fair_rows.specs.turn_rows.Turns.{KeywordAmount, Turn}
use Rattle.delivery_laws.proofs.world_laws.Growing.{grows-after}
use Rattle.delivery_laws.proofs.world_laws.Kept.{good-after, good-after_all}
use Rattle.delivery_laws.proofs.world_laws.Lists.{all_append, all_read_or, all_under}
use Rattle.delivery_laws.specs.world_state.Good.{AreGood, AreSharesOf, AreSharesValued, IsGoodWorld, IsInBounds, IsMintedInBounds, IsOfKind, IsValued}
use Rattle.delivery_laws.specs.world_state.Rights.{kind_at}
use Rattle.delivery_laws.specs.world_state.Worlds.{Effect, State, after, after_all}
use Rattle.fair_laws.specs.Steps.{AccountsFor, TellsLog}
use Rattle.fair_laws.specs.Views.{world_in}

-- ---- movements as rows tell them: of a value just what it holds

abbrev pub plain : Movement → Movement
plain m = record { brand = m.brand; from = m.from; to = m.to; value = record { kind = Nat; content = m.value.content } }

plain_is : (m : Movement) → IsValued m.value → movement_of (printed_move m) ≡ plain m
plain_is m is = ap (λ c. record { brand = m.brand; from = m.from; to = m.to; value = record { kind = Nat; content = c } }) (told_content m.value is)

told_plain : (out : List BrandSupply) (es : List Event) → AllByRecursion (IsKnownEvent out) es → movements_in (rows_of es) ≡ map plain (moves_in es)
told_plain out [] all = refl
told_plain out (events.moved m ∷ es) all = ap (λ x. x ∷ movements_in (rows_of es)) (plain_is m all.0.value) ∙ ap (λ l. plain m ∷ l) (told_plain out es all.1)
told_plain out (events.called c ∷ es) all = told_plain out es all.1
told_plain out (events.opened o ∷ es) all = told_plain out es all.1
told_plain out (events.exited x ∷ es) all = told_plain out es all.1
told_plain out (events.settled p s ∷ es) all = told_plain out es all.1

can_plain : (t : Table) (ms : List Movement) → CanMoveAll t ms → CanMoveAll t (map plain ms)
can_plain t [] can = tt
can_plain t (m ∷ ms) can = (record { has = can.0.has }, can_plain (moved t m) ms can.1)

table_plain : (t : Table) (ms : List Movement) → table_after t (map plain ms) ≡ table_after t ms
table_plain t [] = refl
table_plain t (m ∷ ms) = table_plain (moved t m) ms

minted_plain : (b : ℕ) (ms : List Movement) → minted (map plain ms) b ≡ minted ms b
minted_plain b [] = refl
minted_plain b (m ∷ ms) = ap (λ c. cond (is_outside m.from && (m.brand == b)) (sum m.value.content c) c) (minted_plain b ms)

burned_plain : (b : ℕ) (ms : List Movement) → burned (map plain ms) b ≡ burned ms b
burned_plain b [] = refl
burned_plain b (m ∷ ms) = ap (λ c. cond (is_outside m.to && (m.brand == b)) (sum m.value.content c) c) (burned_plain b ms)

takes_plain : (p : ℕ) (ms : List Movement) → takes_from p (map plain ms) ≡ takes_from p ms
takes_plain p [] = refl
takes_plain p (m ∷ ms) = ap (λ t. is_payment_at p m.from || t) (takes_plain p ms)

names_plain : (p : ℕ) (ms : List Movement) → names p (map plain ms) ≡ names p ms
names_plain p [] = refl
names_plain p (m ∷ ms) = ap (λ t. (is_payment_at p m.from || is_payment_at p m.to) || t) (names_plain p ms)

brands_plain : (ms : List Movement) → brands_of (map plain ms) ≡ brands_of ms
unfolding brands_of
brands_plain [] = refl
brands_plain (m ∷ ms) = ap (placed m.brand) (brands_plain ms)

-- ---- values that rows name

module _ (turns : ℕ) (v : State) where
  abbrev Knows : Named → Type 0
  Knows = IsKnown (world_in turns v)

  abbrev KnowsRow : KeywordAmount → Type 0
  KnowsRow a = Knows (a.brand, a.value)

  known_value : (b : ℕ) (w : ValueView) → IsOfKind v.rights.out (amount_of b w) → IsValued w → Knows (b, printed_value w)
  known_value b w of is = record {
    made = of.made;
    of_kind = record {
      content = w.content;
      value = subst (λ k. IsValue k w.content) (sym of.kind) is;
      is = printed_is w.kind w.content ∙ ap (λ k. value_of k w.content) (sym of.kind);
    };
  }

  all_put : (r : KeywordAmount) (us : List KeywordAmount) → KnowsRow r → AllByRecursion KnowsRow us → AllByRecursion KnowsRow (put_amount r us)
  all_put r [] one all = (one, tt)
  all_put r (u ∷ us) one all = by (slice_cmp nat_cmp r.keyword u.keyword) (all_put r us one all.1)
    where
      by : (o : Ordering) → AllByRecursion KnowsRow (put_amount r us) → AllByRecursion KnowsRow (match_ordering o (r ∷ u ∷ us) (record r { keyword = u.keyword } ∷ us) (u ∷ put_amount r us))
      by Less rest = (one, all)
      by Equal rest = (one, all.1)
      by Greater rest = (all.0, rest)

  known_rows : (rs : List Share) → AreSharesOf v.rights.out rs → AreSharesValued rs → AllByRecursion KnowsRow (printed_shares rs)
  known_rows [] of are = tt
  known_rows (r ∷ rs) of are = all_put (printed_share r) (printed_shares rs) (known_value r.amount.brand r.amount.value of.0 are.0) (known_rows rs of.1 are.1)

  known_amounts : (es : List Event) → AllByRecursion (IsKnownEvent v.rights.out) es → AllByRecursion Knows (flat_map amounts_at (rows_of es))
  known_amounts [] all = tt
  known_amounts (events.moved m ∷ es) all = (known_value m.brand m.value all.0.of_kind all.0.value, known_amounts es all.1)
  known_amounts (events.opened o ∷ es) all =
      let give = printed_shares o.proposal.give in
      let want = printed_shares o.proposal.want in
      let named = all_append KnowsRow give want (known_rows o.proposal.give all.0.gives all.0.give_valued) (known_rows o.proposal.want all.0.wants all.0.want_valued) in
      all_append Knows (map (λ (a : KeywordAmount). (a.brand, a.value)) (give ++ want)) (flat_map amounts_at (rows_of es))
      (all_under (λ (a : KeywordAmount). (a.brand, a.value)) Knows (give ++ want) named) (known_amounts es all.1)
  known_amounts (events.called c ∷ es) all = known_amounts es all.1
  known_amounts (events.exited x ∷ es) all = known_amounts es all.1
  known_amounts (events.settled p s ∷ es) all = known_amounts es all.1

-- ---- payments that were taken from

taken_has_nothing : (ps : List PaymentView) (p b : ℕ) → is_taken ps p ≡ true → in_brand (right_on (payment_view_at ps p)) b ≡ nothing
taken_has_nothing [] p b is = cc
taken_has_nothing (x ∷ xs) zero b is = by x.held is
  where
    by : (o : Option ValueView) → is_none o ≡ true → cond (x.brand == b) (content_held o) nothing ≡ nothing
    by None is = none_either (x.brand == b)
    by (Some w) is = cc
taken_has_nothing (x ∷ xs) (suc p) b is = taken_has_nothing xs p b is

-- ---- brands that were made keep their kinds

record KindsKept (v w : State) : Type 0 where
  more : length v.rights.out ≤ length w.rights.out
  same : (b : ℕ) → b < length v.rights.out → kind_at w.rights.out b ≡ kind_at v.rights.out b

kinds_kept : (w : State) (es : List Effect) → IsGoodWorld w → AreGood w es → KindsKept w (after_all w es)
kinds_kept w [] good are = record { more = omega arith; same = λ b lt. refl }
kinds_kept w (e ∷ es) good are =
    let next = after w e in
    let there = good-after w e are.0 good in
    let rest = kinds_kept next es there are.1 in
    let grown = (grows-after w e).brands in
    let wider : length w.rights.out ≤ length next.rights.out = omega (arith, good.brands.supplies, there.brands.supplies, grown.more) in
    record {
      more = omega (arith, wider, rest.more);
      same = λ b lt.
          rest.same b (omega (arith, lt, wider))
          ∙ there.brands.kinds b
          ∙ ap (λ (x : Brand). x.kind) (grown.same b (omega (arith, lt, good.brands.supplies)))
          ∙ sym (good.brands.kinds b);
    }

-- ---- a turn

module _ (n : ℕ) (w : State) (es : List Effect) (t : Turn) (good : IsGoodWorld w) (empty : w.log ≡ []) (are : AreGood w es) (stored : AreStoredEffects es) (tells : TellsLog (after_all w es) t) where
  abbrev u : State
  u = after_all w es

  abbrev next : World
  next = world_in (n + 1) u

  is : IsAccounted w u
  is = effects_accounted w es good are stored

  abbrev told : List Event
  told = is.events

  abbrev ms : List Movement
  ms = moves_in told

  good_then : IsGoodWorld u
  good_then = good-after_all w es are good

  kept : KindsKept w u
  kept = kinds_kept w es good are

  log_is : u.log ≡ told
  log_is = is.told ∙ ap (λ l. l ++ told) empty

  events_are : t.events ≡ rows_of told
  events_are = tells.events ∙ ap rows_of log_is

  moves_are : movements_in t.events ≡ map plain ms
  moves_are = ap movements_in events_are ∙ told_plain u.rights.out told is.known

  taken_now : (p : ℕ) (b : Bool) → is_taken w.rights.payments p ≡ b → takes_from p ms ≡ true → is_taken u.rights.payments p ≡ true
  taken_now p true was takes = is.accounts.stays_taken p was
  taken_now p false was takes = is.accounts.taken p was ∙ takes

  pub accounts_for : AccountsFor (world_in n w) t next
  accounts_for = record {
    defined = subst (CanMoveAll (table_of w.rights)) (sym moves_are) (can_plain (table_of w.rights) ms is.accounts.defined);
    table = is.accounts.table ∙ sym (table_plain (table_of w.rights) ms) ∙ ap (table_after (table_of w.rights)) (sym moves_are);
    hand = λ b. (table_agrees u.rights).each Hand b;
    out = λ b. ap (sum (next.out b)) (ap (λ l. burned l b) moves_are ∙ burned_plain b ms) ∙ is.accounts.out b ∙ sym (ap (sum ((world_in n w).out b)) (ap (λ l. minted l b) moves_are ∙ minted_plain b ms));
    minted_is = λ b. is.accounts.minted_is b ∙ sym (ap (λ l. (world_in n w).minted b + size l) (ap (λ l. minted l b) moves_are ∙ minted_plain b ms));
    burned_is = λ b. is.accounts.burned_is b ∙ sym (ap (λ l. (world_in n w).burned b + size l) (ap (λ l. burned l b) moves_are ∙ burned_plain b ms));
    fits = λ b. all_read_or IsInBounds u.rights.out b (new_supply Nat) good_then.bounded (record { each = λ k. omega (arith, count-nothing k) });
    minted_bounded = λ b. all_read_or IsMintedInBounds u.rights.out b (new_supply Nat) good_then.minted (omega arith);
    sums = tells.sums
        ∙ ap (λ l. map (sum_of u.rights) (brands_of (moves_in l))) log_is
        ∙ ap (map (sum_of u.rights)) (sym (ap brands_of moves_are ∙ brands_plain ms));
    brands = kept.more;
    kinds = kept.same;
    values = subst (λ l. AllByRecursion (IsKnown next) (flat_map amounts_at l)) (sym events_are) (known_amounts (n + 1) u told is.known);
    payments = is.accounts.payments;
    made = λ p le. ap (names p) moves_are ∙ names_plain p ms ∙ is.accounts.made p le;
    emptied = λ p b takes. (table_agrees u.rights).each (Payment p) b
        ∙ taken_has_nothing u.rights.payments p b (taken_now p (is_taken w.rights.payments p) refl (sym (ap (takes_from p) moves_are ∙ takes_plain p ms) ∙ takes));
    live = λ p was. ap (names p) moves_are ∙ names_plain p ms ∙ is.accounts.live p was;
    taken = λ p was. is.accounts.taken p was ∙ sym (ap (takes_from p) moves_are ∙ takes_plain p ms);
    stays_taken = is.accounts.stays_taken;
  }
