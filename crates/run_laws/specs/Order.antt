-- In which order deliveries have their turns: first in, first out.
use Rattle.std.specs.Prelude.{◌≡◌, map, List, [], ◌∷◌, ◌++◌}
use Rattle.std.specs.List.{flat_map}
use Rattle.message_lines.specs.Meanings.{Meaning, blank, delivered, run}
use Rattle.message_lines.specs.turn_records.Deliveries.{Delivery}
use Rattle.run_laws.specs.Machines.{Machine, all_brought, by_lines, delivery_of}

-- what was appended to the queue: the delivery of a line, or one that a turn brought
pub data Entry : Type 0 where
  from_line : Delivery → Entry
  from_turn : Delivery → Entry

abbrev pub delivery_in : Entry → Delivery
delivery_in (from_line d) = d
delivery_in (from_turn d) = d

abbrev pub line_in : Entry → List Delivery
line_in (from_line d) = d ∷ []
line_in (from_turn d) = []

abbrev pub brought_in : Entry → List Delivery
brought_in (from_line d) = []
brought_in (from_turn d) = d ∷ []

-- the deliveries of lines among entries, and those that turns brought, in their order
abbrev pub of_lines : List Entry → List Delivery
of_lines es = flat_map line_in es

abbrev pub of_turns : List Entry → List Delivery
of_turns es = flat_map brought_in es

-- what lines mean that is to be delivered
abbrev pub deliveries_of : List Meaning → List Delivery
deliveries_of [] = []
deliveries_of (blank ∷ ms) = deliveries_of ms
deliveries_of (delivered d ∷ ms) = d ∷ deliveries_of ms
deliveries_of (run n ∷ ms) = deliveries_of ms

module _ {S T : Type 0} (m : Machine S T) (start : S) where
  -- What was appended by the end of some of the lines stands before all that was appended later: the deliveries of
  -- these lines, and what the turns up to there brought.
  pub record IsFront (lines : List Meaning) (all : List Entry) : Type 0 where
    pub so_far : List Entry
    pub later : List Entry
    pub whole : all ≡ so_far ++ later
    pub said : of_lines so_far ≡ deliveries_of lines
    pub owed : of_turns so_far ≡ all_brought m (by_lines m start lines).turns

  -- First in, first out, from a state in which nothing waits: of all that was appended to the queue the turns are of
  -- the first entries, one for each, in their order, and the others wait. What was appended are the deliveries of the
  -- lines, in the order of these, and what the turns brought, in the order of those. Of both what was appended earlier
  -- stands before what was appended later.
  pub record AreInOrder (lines : List Meaning) : Type 0 where
    pub taken : List Entry
    pub waiting : List Entry
    pub said : of_lines (taken ++ waiting) ≡ deliveries_of lines
    pub owed : of_turns (taken ++ waiting) ≡ all_brought m (by_lines m start lines).turns
    pub turns : map (delivery_of m) (by_lines m start lines).turns ≡ map delivery_in taken
    pub left : m.waiting (by_lines m start lines).end ≡ map delivery_in waiting
    pub fronts : (first later : List Meaning) → lines ≡ first ++ later
        → IsFront first (taken ++ waiting)
