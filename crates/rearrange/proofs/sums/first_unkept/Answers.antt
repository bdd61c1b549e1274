use Rattle.std.proofs.Common.{List, Option, MatchOption, subst}
use Rattle.std.proofs.lemmas.Result.{IfOk-weaker}
use Rattle.rearrange.specs.Parts.{AreEven, IsFirstUneven}
use Rattle.rearrange.specs.Sums.{AreConserved, IsFirstUnkept, all_touched}
use Rattle.rearrange.specs.declared.parts.Part.{Part}
use Rattle.rearrange.specs.declared.sums.Unkept.{Unkept}
use Rattle.rearrange.proofs.Conserved.{answer_from}
use Rattle.rearrange.proofs.sums.first_unkept.Goals as goal

pub returns-then-conserved : goal.returns-then-conserved
returns-then-conserved c = c.in_ok-conserved.ensures.0 c.if-conserved.true

pub returns : goal.returns
returns c =
    let touched = all_touched c.args.states.now c.args.list.now in
    IfOk-weaker c.first_uneven.result _ (λ (found : Option Unkept). MatchOption found (AreConserved touched) (IsFirstUnkept touched))
    (λ found h. answer_from touched c.in_ok-parts.parts.items c.sort.new.parts.items c.in_ok-parts.ensures c.sort.ensures.same found (subst (λ (ps : List Part). MatchOption found (AreEven ps) (IsFirstUneven ps)) c.as_slice.ensures.value h))
    c.first_uneven.ensures
