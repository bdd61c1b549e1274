use Rattle.std.proofs.Common.{◌≡◌, Result, Err, sym, ap, ◌∙◌}
use Rattle.delivery_turns.specs.Messages.{found_or_refused}
use Rattle.delivery_turns.specs.promise_store.Views.{now_of}
use Rattle.registers.specs.PromiseTables.{book_of}
use Rattle.refusals.specs.Outcomes.{Fails, Refuses}
use Rattle.refusals.specs.declared.codes.Refusal.{Refusal}
use Rattle.refusals.specs.declared.stops.Stop.{Stop}
use Rattle.refusals.specs.declared.stops.Stop.TheVariants.{NoMemory, Refused}
use Rattle.delivery_reads.proofs.PathStates.{value_is}
use Rattle.delivery_reads.specs.Reads.{read_in}
use Rattle.delivery_reads.proofs.paths.stands_at.Goals as goal

fails_with : {Y : Type 0} (stop : Stop) (r : Refusal) (read : Result Y Refusal) → Refuses stop r → read ≡ Err r → Fails stop read
fails_with NoMemory r read refuses is = tt
fails_with (Refused s) r read refuses is = is ∙ ap Err (sym refuses)

pub returns-in-Ok : goal.returns-in-Ok
returns-in-Ok c =
    value_is (now_of c.promises-store.result.now) (read_in c.args.parties.now c.args.promises.now) c.args.party.now c.args.path.now (ap (λ t. book_of t.now) c.promises-store.ensures)
    ∙ ap (found_or_refused c.args.path.now) (sym c.in-Ok.ensures)

pub returns-in-Err : goal.returns-in-Err
returns-in-Err c =
    fails_with c.refuse_path.result _ _ c.refuse_path.ensures
    (value_is (now_of c.promises-store.result.now) (read_in c.args.parties.now c.args.promises.now) c.args.party.now c.args.path.now (ap (λ t. book_of t.now) c.promises-store.ensures)
    ∙ ap (found_or_refused c.args.path.now) (sym c.in-Err.ensures))
