-- What the table has in the slots of a seat is what the seat has; an open seat is covered as rows tell it.
use Rattle.std.specs.Prelude.{◌≡◌, ℕ, Bool, true, false, cond, List, [], ◌∷◌, Option, Some, None, IsSomeAnd, map, refl}
use Rattle.std.specs.List.{AllByRecursion}
use Rattle.std.specs.Option.{option_map_or}
use Rattle.std.specs.Str.{bytes_eq}
use Rattle.std.proofs.Common.{inl, inr, sym, ◌∙◌, ap, subst, if◌then◌else◌}
use Rattle.std.proofs.lemmas.List.Elements.{recursion_from_All}
use Rattle.std.proofs.lemmas.Slice.Eq.{bytes_eq-Decides}
use Rattle.fair_rows.specs.amount_math.Amount.{Meet}
use Rattle.fair_rows.specs.amount_math.Content.{Contains, Content, nothing}
use Rattle.fair_rows.specs.amount_math.declared.Amount.{Amount}
use Rattle.delivery_laws.specs.proposals.OfferSafety as proposals
use Rattle.delivery_laws.specs.proposals.OfferSafety.{IsOfferSafe}
use Rattle.delivery_laws.specs.proposals.Shares.{AreApart, amount_under}
use Rattle.delivery_laws.specs.proposals.Slots.{in_byte_order, is_upto, placed}
use Rattle.delivery_laws.specs.proposals.declared.allocations.Share.{Share}
use Rattle.fair_rows.specs.rights_model.Table.{Table, holds}
use Rattle.fair_rows.specs.rights_model.declared.Holder.TheVariants.{Slot}
use Rattle.delivery_laws.specs.vault_model.Tables.{right_in}
use Rattle.delivery_laws.specs.turn_records.Values.{printed_value}
use Rattle.delivery_laws.specs.turn_records.Printed.{printed_share, printed_shares}
use Rattle.fair_rows.specs.turn_rows.Turns.{KeywordAmount}
use Rattle.fair_rows.specs.Seats.{IsCovered, IsSafe}
use Rattle.fair_rows.specs.Values.{content_of}
use Rattle.delivery_laws.proofs.world_laws.Instances.{open_made}
use Rattle.delivery_laws.specs.world_state.Good.{AreSharesValued, HasSlot, IsGoodWorld, IsSeat, IsValued}
use Rattle.delivery_laws.specs.world_state.Rights.{Rights, slots_at}
use Rattle.delivery_laws.specs.world_state.Worlds.{IsOpen, State, seat_at}
use Rattle.delivery_laws.specs.world_laws.Tables.{in_slot, table_of}
use Rattle.delivery_laws.proofs.world_laws.Changes.{bytes_same, of_brand}
use Rattle.delivery_laws.proofs.world_laws.Tabled.{table_agrees}
use Rattle.fair_laws.specs.Places.{opening_told}
use Rattle.fair_laws.proofs.Openings.{rows_ordered}
use Rattle.fair_laws.proofs.Values as values

-- what stands under a keyword has its content in the table
pub held_there : (w : Rights) (s : ℕ) (k : List ℕ) (a : Amount) → amount_under k (slots_at w.slots s) ≡ Some a → holds (table_of w) (Slot s k) a.brand ≡ a.value.content
held_there w s k a is = (table_agrees w).each (Slot s k) a.brand ∙ ap (λ o. in_slot o a.brand) is ∙ of_brand (right_in a) a.brand refl

-- ---- each row of a seat's slots

-- of rows apart each stands under its keyword
abbrev IsUnder : List Share → Share → Type 0
IsUnder rs r = amount_under r.keyword rs ≡ Some r.amount

under_more : (x : Share) (rs : List Share) (r : Share) → amount_under x.keyword rs ≡ None → IsUnder rs r → IsUnder (x ∷ rs) r
under_more x rs r none is = by (bytes_eq r.keyword x.keyword) refl
  where
    by : (t : Bool) → bytes_eq r.keyword x.keyword ≡ t → cond t (Some x.amount) (amount_under r.keyword rs) ≡ Some r.amount
    by true e = let same : r.keyword ≡ x.keyword = (bytes_eq-Decides r.keyword x.keyword).0 e in
        let clash : Some r.amount ≡ None = sym is ∙ ap (λ k. amount_under k rs) same ∙ none in absurd cc
    by false e = is

all_more : (x : Share) (rs : List Share) → amount_under x.keyword rs ≡ None → (qs : List Share) → AllByRecursion (IsUnder rs) qs → AllByRecursion (IsUnder (x ∷ rs)) qs
all_more x rs none [] all = tt
all_more x rs none (q ∷ qs) all = (under_more x rs q none all.0, all_more x rs none qs all.1)

pub each_under : (rs : List Share) → AreApart rs → AllByRecursion (IsUnder rs) rs
each_under [] a = tt
each_under (r ∷ rs) a = (ap (λ t. cond t (Some r.amount) (amount_under r.keyword rs)) (bytes_same r.keyword), all_more r rs a.0 rs (each_under rs a.1))

abbrev HoldsRow : Table → ℕ → Share → Type 0
HoldsRow t s r = holds t (Slot s r.keyword) r.amount.brand ≡ r.amount.value.content

module _ (w : Rights) (s : ℕ) where
  rows_hold : (rs : List Share) → AllByRecursion (IsUnder (slots_at w.slots s)) rs → AllByRecursion (HoldsRow (table_of w) s) rs
  rows_hold [] all = tt
  rows_hold (r ∷ rs) all = (held_there w s r.keyword r.amount all.0, rows_hold rs all.1)

pub slots_hold : (w : Rights) (s : ℕ) → AreApart (slots_at w.slots s) → AllByRecursion (HoldsRow (table_of w) s) (slots_at w.slots s)
slots_hold w s a = rows_hold w s (slots_at w.slots s) (each_under (slots_at w.slots s) a)

-- ---- covered

-- a row that is covered, of a seat with a slot for it
abbrev Covers : Table → ℕ → Share → Type 0
Covers t s r = IsCovered t s (printed_share r)

row_covered : (w : Rights) (s : ℕ) (r : Share) → HasSlot (slots_at w.slots s) r → proposals.IsCovered (slots_at w.slots s) r → IsValued r.amount.value → Covers (table_of w) s r
row_covered w s r has covered is = by (amount_under r.keyword (slots_at w.slots s)) refl has covered
  where
    by : (o : Option Amount) → amount_under r.keyword (slots_at w.slots s) ≡ o → IsSomeAnd o (λ slot. Meet slot r.amount) → Contains (option_map_or (λ (a : Amount). a.value.content) o nothing) r.amount.value.content → Covers (table_of w) s r
    by None e h c = absurd h
    by (Some a) e h c =
        subst (λ (x : Content). Contains x (content_of (printed_value r.amount.value))) (sym (ap (holds (table_of w) (Slot s r.keyword)) (sym h.brand) ∙ held_there w s r.keyword a e))
        (subst (Contains a.value.content) (sym (values.told_content r.amount.value is)) c)

rows_covered : (w : Rights) (s : ℕ) (rs : List Share) → AllByRecursion (HasSlot (slots_at w.slots s)) rs → AllByRecursion (proposals.IsCovered (slots_at w.slots s)) rs → AreSharesValued rs → AllByRecursion (Covers (table_of w) s) rs
rows_covered w s [] has covered valued = tt
rows_covered w s (r ∷ rs) has covered valued = (row_covered w s r has.0 covered.0 valued.0, rows_covered w s rs has.1 covered.1 valued.1)

-- in whatever order
all_placed : (P : Share → Type 0) (r : Share) (rs : List Share) → P r → AllByRecursion P rs → AllByRecursion P (placed r rs)
all_placed P r [] one all = (one, tt)
all_placed P r (x ∷ xs) one all = by (is_upto r.keyword x.keyword) (all_placed P r xs one all.1)
  where
    by : (t : Bool) → AllByRecursion P (placed r xs) → AllByRecursion P (if t then r ∷ x ∷ xs else x ∷ placed r xs)
    by true later = (one, all)
    by false later = (all.0, later)

all_ordered : (P : Share → Type 0) (rs : List Share) → AllByRecursion P rs → AllByRecursion P (in_byte_order rs)
all_ordered P [] all = tt
all_ordered P (r ∷ rs) all = all_placed P r (in_byte_order rs) all.0 (all_ordered P rs all.1)

all_printed : (P : KeywordAmount → Type 0) (rs : List Share) → AllByRecursion (λ (r : Share). P (printed_share r)) rs → AllByRecursion P (map printed_share rs)
all_printed P [] all = tt
all_printed P (r ∷ rs) all = (all.0, all_printed P rs all.1)

pub each_printed : (P : KeywordAmount → Type 0) (rs : List Share) → AreApart rs → AllByRecursion (λ (r : Share). P (printed_share r)) rs → AllByRecursion P (printed_shares rs)
each_printed P rs a all = subst (AllByRecursion P) (sym (rows_ordered rs a)) (all_printed P (in_byte_order rs) (all_ordered (λ (r : Share). P (printed_share r)) rs all))

pub open_safe : (w : State) (s : ℕ) → IsGoodWorld w → IsOpen (seat_at w.seats s) → IsSafe (table_of w.rights) (opening_told s (seat_at w.seats s))
open_safe w s good is = by (good.covered.each s is)
  where
    seat : IsSeat w.rights.out (seat_at w.seats s) (slots_at w.rights.slots s)
    seat = good.proposed.each s (open_made w.seats s is)

    by : IsOfferSafe (seat_at w.seats s).proposal (slots_at w.rights.slots s) → IsSafe (table_of w.rights) (opening_told s (seat_at w.seats s))
    by (inl want) = inl (each_printed (IsCovered (table_of w.rights) s) (seat_at w.seats s).proposal.want seat.proposal.want.apart
        (rows_covered w.rights s (seat_at w.seats s).proposal.want seat.slots.want (recursion_from_All (proposals.IsCovered (slots_at w.rights.slots s)) (seat_at w.seats s).proposal.want want) seat.proposal.want_valued))
    by (inr give) = inr (each_printed (IsCovered (table_of w.rights) s) (seat_at w.seats s).proposal.give seat.proposal.give.apart
        (rows_covered w.rights s (seat_at w.seats s).proposal.give seat.slots.give (recursion_from_All (proposals.IsCovered (slots_at w.rights.slots s)) (seat_at w.seats s).proposal.give give) seat.proposal.give_valued))
