use Rattle.std.proofs.Common.{◌≡◌, ◌↔◌, Bool, true, false, List, Option, Some, None, IsTrue, MatchOption, is_none, is_some, not, refl, sym, subst}
use Rattle.std.proofs.lemmas.Bool.{false≢true}
use Rattle.rearrange.specs.Parts.{AreEven, IsFirstUneven}
use Rattle.rearrange.specs.Sums.{AreConserved, all_touched}
use Rattle.rearrange.specs.declared.parts.Part.{Part}
use Rattle.rearrange.specs.declared.sums.Unkept.{Unkept}
use Rattle.rearrange.proofs.Conserved.{conserved_from}
use Rattle.rearrange.proofs.sums.are_conserved.Goals as goal

none_of : (found : Option Unkept) (none : Bool) → is_some found ≡ not none → is_none found ≡ none
none_of None true e = refl
none_of None false e = absurd (false≢true e)
none_of (Some u) true e = absurd (false≢true (sym e))
none_of (Some u) false e = refl

pub returns : goal.returns
returns c =
    let touched = all_touched c.args.states.now c.args.list.now in
    let uneven = c.in_ok-uneven.uneven in
    let first = subst (λ (ps : List Part). MatchOption uneven (AreEven ps) (IsFirstUneven ps)) c.as_slice.ensures.value c.in_ok-uneven.ensures in
    subst (λ (conserved : Bool). IsTrue conserved ↔ AreConserved touched) (none_of uneven c.is_none.result c.is_none.ensures) (conserved_from touched c.in_ok-parts.parts.items c.sort.new.parts.items c.in_ok-parts.ensures c.sort.ensures.same uneven first)
