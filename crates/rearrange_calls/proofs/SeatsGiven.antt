-- Seats that the arguments of a contract's call are: they were made, and as many as the arguments.
use Rattle.std.specs.Prelude.{slice_index_or, IfOk, ◌-◌}
use Rattle.std.specs.List.{All}
use Rattle.std.proofs.Common.{◌≡◌, ℕ, zero, suc, ◌+◌, ◌<◌, ◌^◌, List, [], ◌∷◌, length, Ok, refl, ap, subst, ◌∙◌, arith}
use Rattle.rules.specs.call_arguments.Arguments.{IsMade}
use Rattle.share_transfers.proofs.contract_reads.KnownObjects.{seat_known}
use Rattle.share_transfers.specs.contract_reads.Known.{AreKnown}
use Rattle.host_data.specs.Tree.{Tree, null}
use Rattle.host_data.specs.View.{tree, trees}
use Rattle.host_data.specs.declared.data.Data.{Data}
use Rattle.host_data.specs.declared.data.ObjKind.TheVariants as kinds
use Rattle.rules.specs.call_arguments.Lists.{each_object}
use Rattle.refusals.proofs.Steps.{after_step, after_wanted, ok_has}
use Rattle.rules.specs.world_state.Worlds.{State}

at_tree : (ds : List Data) (k : ℕ) (d : Data) → k < length ds → slice_index_or (trees ds) k null ≡ tree (slice_index_or ds k d)
at_tree [] k d lt = absurd (omega (arith, lt))
at_tree (x ∷ xs) zero d lt = refl
at_tree (x ∷ xs) (suc k) d lt = at_tree xs k d (omega (arith, lt))

pub args_made : (w : State) (ds : List Data) → AreKnown w (trees ds) → All (λ d. IsMade kinds.Zseat (length w.seats) (tree d)) ds
args_made w ds known k d lt =
    let e : suc k - 1 ≡ k = omega arith in
    subst (IsMade kinds.Zseat (length w.seats)) (ap (λ j. slice_index_or (trees ds) j null) e ∙ at_tree ds k d lt) (seat_known w (suc k) (trees ds) known)

many_trees : (ds : List Data) → length (trees ds) ≡ length ds
many_trees [] = refl
many_trees (d ∷ ds) = ap suc (many_trees ds)

many_read : (place : ℕ) (ts : List Tree) → IfOk (each_object kinds.Zseat place ts) (λ ns. length ns ≡ length ts)
many_read place [] = refl
many_read place (t ∷ ts) = after_wanted _ _ _ _ (λ n at. after_step _ _ _ (λ ns rest. ap suc (ok_has _ _ ns rest (many_read (place + 1) ts))))

pub few_read : (ds : List Data) (ns : List ℕ) → length ds < 2 ^ 32 → each_object kinds.Zseat 1 (trees ds) ≡ Ok ns → length ns < 2 ^ 32
few_read ds ns few is = omega (arith, few, many_trees ds, ok_has _ _ ns is (many_read 1 (trees ds)))
