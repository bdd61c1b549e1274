-- The seats that transfers name were made, and stand with the records; and the rule is its steps.
use Rattle.std.specs.Prelude.{IsSome, ◌&&◌, filter, flat_map, not, option_and_then, option_map}
use Rattle.std.specs.List.{All, AllByRecursion}
use Rattle.std.proofs.Common.{◌≡◌, ℕ, ◌<◌, Bool, true, false, cond, List, [], ◌∷◌, Option, Some, None, Result, Ok, Err, length, refl, sym, subst, ◌∙◌, if◌then◌else◌}
use Rattle.std.proofs.lemmas.List.Elements.{All-from_recursion}
use Rattle.rules.specs.call_arguments.Arguments.{arg, list_at, object_in}
use Rattle.host_data.specs.Amounts.{read_all}
use Rattle.rules.specs.Words.{runs}
use Rattle.share_transfers.proofs.rule_laws.Asked.{AreParts, parts_read, seats_own}
use Rattle.share_transfers.specs.contract_reads.Known.{AreKnown}
use Rattle.host_data.specs.Tree.{Tree, is_null, list_of, null}
use Rattle.host_data.specs.declared.data.ObjKind.TheVariants as kinds
use Rattle.rearrange.specs.TestedPlans.{can_take_part, transfer_changes}
use Rattle.rules.specs.call_arguments.Lists.{objects_in}
use Rattle.refusals.proofs.Steps.{wanted_there}
use Rattle.refusals.specs.Codes.{bad_args}
use Rattle.refusals.specs.Outcomes.{bind, wanted, ◌>>=◌, ◌>>◌}
use Rattle.refusals.specs.declared.codes.Refusal.{Refusal}
use Rattle.rules.specs.Rearranging.{Parts, carried_out, has_gains, has_losses, is_whole, parts_from, parts_in, seat_trees, states_for, transfers_in, where_whole}
use Rattle.rules.specs.Zcf.{atomic_rearrange}
use Rattle.rules.specs.States.{has_room}
use Rattle.share_transfers.specs.Reading.{IsSeated}
use Rattle.rearrange_calls.specs.Steps.{AreFromData, carried, changed, moved, parts_at, rearranged, seats_moved, tested}
use Rattle.share_transfers.proofs.world_laws.Lists.{all_map}
use Rattle.rules.specs.world_state.Known.{IsSeatOf}
use Rattle.rules.specs.world_state.Worlds.{State}

-- ---- what is read

abbrev pub seats_of : List Parts → Option (List ℕ)
seats_of list = read_all (object_in kinds.Zseat) (seat_trees list)

pub are_parts : (w : State) (list : List Parts) (input : AreFromData w list) → AllByRecursion (AreParts w input.caller) list
are_parts w list input = parts_read w input.caller input.tree input.items list input.known.objects input.known.ordered input.listed input.reads

pub seats_made : (w : State) (list : List Parts) (seats : List ℕ) → AreFromData w list → seats_of list ≡ Some seats → All (λ n. n < length w.seats) seats
seats_made w list seats input is =
    All-from_recursion (λ n. n < length w.seats) seats
    (all_map (IsSeatOf w.seats input.caller) (λ n. n < length w.seats) (λ n own. own.made) seats (seats_own w input.caller list seats (are_parts w list input) is))

pub seats_read : (list : List Parts) (seats : List ℕ) → objects_in kinds.Zseat 1 (seat_trees list) ≡ Ok seats → seats_of list ≡ Some seats
unfolding objects_in
seats_read list seats is = wanted_there (seats_of list) _ seats is

pub from_data : (w : State) (args : List Tree) (list : List Parts) → AreKnown w args → parts_at args ≡ Ok list → AreFromData w list
unfolding parts_at list_at bind wanted
from_data w args list known is = by (list_of (arg 1 args)) refl is
  where
    by : (o : Option (List Tree)) → list_of (arg 1 args) ≡ o → (wanted o (bad_args 1) >>= (λ items. wanted (read_all parts_in items) (bad_args 1))) ≡ Ok list → AreFromData w list
    by None at e = absurd (cc)
    by (Some items) at e = record {
      caller = known.caller;
      tree = arg 1 args;
      items = items;
      known = known.each 1;
      listed = at;
      reads = wanted_there (read_all parts_in items) (bad_args 1) list e;
    }

-- ---- each is whole

whole_one : (t : Tree) (p : Parts) → parts_in t ≡ Some p → is_whole p ≡ true
whole_one t p is = by (option_and_then parts_from (list_of t)) is
  where
    checked : (q : Parts) (b : Bool) → is_whole q ≡ b → (if b then Some q else None) ≡ Some p → is_whole p ≡ true
    checked q true e at = let same : q ≡ p = cc in subst (λ r. is_whole r ≡ true) same e
    checked q false e at = absurd (cc)

    by : (o : Option Parts) → option_and_then where_whole o ≡ Some p → is_whole p ≡ true
    by None at = absurd (cc)
    by (Some q) at = checked q (is_whole q) refl at

all_whole : (ts : List Tree) (list : List Parts) → read_all parts_in ts ≡ Some list → AllByRecursion (λ p. is_whole p ≡ true) list
all_whole [] list is = let same : [] ≡ list = cc in subst (AllByRecursion (λ p. is_whole p ≡ true)) same tt
all_whole (t ∷ ts) list is = by (parts_in t) (read_all parts_in ts) refl refl (all_whole ts) is
  where
    by : (o : Option Parts) (os : Option (List Parts)) → parts_in t ≡ o → read_all parts_in ts ≡ os → ((rest : List Parts) → read_all parts_in ts ≡ Some rest → AllByRecursion (λ p. is_whole p ≡ true) rest) → option_and_then (λ y. option_map (λ ys. y ∷ ys) os) o ≡ Some list → AllByRecursion (λ p. is_whole p ≡ true) list
    by None os at_o at_os later e = absurd (cc)
    by (Some p) None at_o at_os later e = absurd (cc)
    by (Some p) (Some rest) at_o at_os later e =
        let same : p ∷ rest ≡ list = cc in
        subst (AllByRecursion (λ q. is_whole q ≡ true)) same (whole_one t p at_o, later rest at_os)

-- ---- a seat stands with each record

abbrev IsThere : Tree → Type 0
IsThere t = is_null t ≡ false → IsSome (object_in kinds.Zseat t)

abbrev given : List Tree → List Tree
given ts = filter (λ t. not (is_null t)) ts

there_in : (ts : List Tree) (seats : List ℕ) → read_all (object_in kinds.Zseat) (given ts) ≡ Some seats → AllByRecursion IsThere ts
there_in [] seats is = tt
there_in (t ∷ ts) seats is = by (is_null t) refl is (there_in ts)
  where
    read : (o : Option ℕ) (os : Option (List ℕ)) → object_in kinds.Zseat t ≡ o → read_all (object_in kinds.Zseat) (given ts) ≡ os → option_and_then (λ y. option_map (λ ys. y ∷ ys) os) o ≡ Some seats → ((ns : List ℕ) → read_all (object_in kinds.Zseat) (given ts) ≡ Some ns → AllByRecursion IsThere ts) → AllByRecursion IsThere (t ∷ ts)
    read None os at_o at_os e later = absurd (cc)
    read (Some n) None at_o at_os e later = absurd (cc)
    read (Some n) (Some ns) at_o at_os e later = ((λ _. subst (λ (o : Option ℕ). IsSome o) (sym at_o) refl), later ns at_os)

    by : (b : Bool) → is_null t ≡ b → read_all (object_in kinds.Zseat) (cond (not b) (t ∷ given ts) (given ts)) ≡ Some seats → ((ns : List ℕ) → read_all (object_in kinds.Zseat) (given ts) ≡ Some ns → AllByRecursion IsThere ts) → AllByRecursion IsThere (t ∷ ts)
    by true e reads later = ((λ other. absurd (cc)), later seats reads)
    by false e reads later = read (object_in kinds.Zseat t) (read_all (object_in kinds.Zseat) (given ts)) refl refl reads later

-- a record is there only where its seat is
with_losses : (from losses : Bool) → (if from then losses else not losses) ≡ true → losses ≡ false → from ≡ false
with_losses true losses whole there = absurd (cc)
with_losses false losses whole there = refl

with_gains : (to losses gains : Bool) → (if to then gains else not (losses && gains)) ≡ true → gains ≡ false → to ≡ false
with_gains true losses gains whole there = absurd (cc)
with_gains false losses gains whole there = refl

both : (a b c : Bool) → (a && (b && c)) ≡ true → (b ≡ true) × (c ≡ true)
both true true true is = (refl, refl)
both true true false is = absurd (cc)
both true false c is = absurd (cc)
both false b c is = absurd (cc)

seated_each : (list : List Parts) → AllByRecursion (λ p. is_whole p ≡ true) list → AllByRecursion IsThere (flat_map (λ (p : Parts). p.from ∷ p.to ∷ []) list) → AllByRecursion IsSeated list
seated_each [] whole there = tt
seated_each (p ∷ ps) whole there =
    let parts = both (not (is_null p.from && is_null p.to)) (has_losses p) (has_gains p) whole.0 in (
      record {
        from = λ is. there.0 (with_losses (is_null p.from) (is_null p.from_amounts) parts.0 is);
        to = λ is. there.1.0 (with_gains (is_null p.to) (is_null p.from_amounts) (is_null p.to_amounts) parts.1 is);
      },
      seated_each ps whole.1 there.1.1,
    )

pub parts_seated : (w : State) (list : List Parts) (seats : List ℕ) → AreFromData w list → seats_of list ≡ Some seats → AllByRecursion IsSeated list
parts_seated w list seats input is =
    seated_each list (all_whole input.items list input.reads) (there_in (flat_map (λ (p : Parts). p.from ∷ p.to ∷ []) list) seats is)

-- ---- the rule

assoc : {A B C : Type 0} (r : Result A Refusal) (f : A → Result B Refusal) (g : B → Result C Refusal) → (r >>= (λ x. f x >>= g)) ≡ ((r >>= f) >>= g)
unfolding bind
assoc (Ok x) f g = refl
assoc (Err e) f g = refl

same_after : {A B : Type 0} (r : Result A Refusal) (f g : A → Result B Refusal) → ((x : A) → f x ≡ g x) → (r >>= f) ≡ (r >>= g)
unfolding bind
same_after (Ok x) f g same = same x
same_after (Err e) f g same = refl

seats_same : (w : State) (i : ℕ) (list : List Parts) → (objects_in kinds.Zseat 1 (seat_trees list) >>= (λ seats. can_take_part i (states_for w seats) seats >> (transfers_in w i list >>= (λ ts. transfer_changes (states_for w seats) ts >>= (λ touched. has_room w touched 0 >> Ok (null, carried_out touched)))))) ≡ seats_moved w i list
unfolding seats_moved moved tested changed carried
seats_same w i list =
    same_after (objects_in kinds.Zseat 1 (seat_trees list)) _ _ (λ seats.
    same_after (can_take_part i (states_for w seats) seats) _ _ (λ _.
    assoc (transfers_in w i list) (λ ts. transfer_changes (states_for w seats) ts) (λ touched. has_room w touched 0 >> Ok (null, carried_out touched)))
    ∙ assoc (can_take_part i (states_for w seats) seats) (λ _. transfers_in w i list >>= (λ ts. transfer_changes (states_for w seats) ts)) (λ touched. has_room w touched 0 >> Ok (null, carried_out touched)))

pub share_is : (w : State) (i : ℕ) (args : List Tree) → atomic_rearrange w i args ≡ rearranged w i args
unfolding atomic_rearrange rearranged parts_at
share_is w i args =
    same_after (runs w i) _ _ (λ _.
    same_after (list_at 1 args) _ _ (λ items.
    same_after (wanted (read_all parts_in items) (bad_args 1)) _ _ (seats_same w i))
    ∙ assoc (list_at 1 args) (λ items. wanted (read_all parts_in items) (bad_args 1)) (seats_moved w i))
