-- What holds of a table's store is a fact: it has one proof at most.
use Rattle.std.specs.Prelude.{◌≡◌, ℕ, Bool, List, [], ◌∷◌, length, Option, None, is_some, true}
use Rattle.std.specs.Coded.{Coded-set, coded_bool, coded_list, coded_option, coded_ℕ, le_prop, Unit-prop}
use Rattle.std.specs.List.{AllByRecursion-prop}
use Rattle.world_state.specs.promise_store.Linked.{IsForest, IsInOrder, Linked, leader, settlement_of}
use Rattle.world_state.specs.promise_store.States.{SettlementView}
use Rattle.world_state.specs.promise_store.Turns.{Turn}
use Rattle.world_state.specs.promise_store.declared.links.Following.{Following}
use Rattle.world_state.specs.promise_store.declared.links.Outcome.{Outcome}
use Rattle.world_state.specs.turn_records.declared.deliveries.Notice as code
use Rattle.world_state.specs.turn_records.Deliveries.{Notice}
use Rattle.registers.specs.Books.{IsBooked, IsFollowerMade, IsOutcomeMade}
use Rattle.registers.specs.PromiseTables.{AreBooked, notice_views}

number_prop : (o p : Option ℕ) → IsProp (o ≡ p)
number_prop o p = Coded-set (coded_option coded_ℕ) o p

truth_prop : (a b : Bool) → IsProp (a ≡ b)
truth_prop a b = Coded-set coded_bool a b

numbers_prop : (xs ys : List ℕ) → IsProp (xs ≡ ys)
numbers_prop xs ys = Coded-set (coded_list coded_ℕ) xs ys

never_prop : IsProp ⊥
never_prop x y = absurd x

IsForest-prop : (fs : List Following) → IsProp (IsForest fs)
IsForest-prop [] = Unit-prop
IsForest-prop (f ∷ fs) = λ x y i. (
  number_prop (leader fs f.promise) None x.0 y.0 i,
  (λ l. never_prop (x.1 l) (y.1 l) i),
  IsForest-prop fs x.2 y.2 i,
)

IsInOrder-prop : (fs : List Following) (os : List Outcome) → IsProp (IsInOrder fs os)
IsInOrder-prop fs [] = Unit-prop
IsInOrder-prop fs (o ∷ os) = λ x y i. (
  number_prop (settlement_of os o.promise) None x.0 y.0 i,
  (λ q e. truth_prop (is_some (settlement_of os q)) true (x.1 q e) (y.1 q e) i),
  IsInOrder-prop fs os x.2 y.2 i,
)

IsOutcomeMade-prop : (m n : ℕ) (o : Outcome) → IsProp (IsOutcomeMade m n o)
IsOutcomeMade-prop m n o x y i = record { promise = le_prop x.promise y.promise i; settlement = le_prop x.settlement y.settlement i }

IsBooked-prop : (l : Linked) (vs : List SettlementView) (rs : List Notice) → IsProp (IsBooked l vs rs)
IsBooked-prop l vs rs x y i = record {
  forest = IsForest-prop l.follows x.forest y.forest i;
  order = IsInOrder-prop l.follows l.outcomes x.order y.order i;
  followers = AllByRecursion-prop (IsFollowerMade l.made) (λ f. le_prop) l.follows x.followers y.followers i;
  outcomes = AllByRecursion-prop (IsOutcomeMade l.made (length vs)) (IsOutcomeMade-prop l.made (length vs)) l.outcomes x.outcomes y.outcomes i;
  asked = numbers_prop _ _ x.asked y.asked i;
}

pub AreBooked-prop : (t : Turn code.Notice) → IsProp (AreBooked t)
AreBooked-prop t x y i = record {
  start = IsBooked-prop t.start.links t.start.settlements (notice_views t.start.entries) x.start y.start i;
  now = IsBooked-prop t.now.links t.now.settlements (notice_views t.now.entries) x.now y.now i;
}
