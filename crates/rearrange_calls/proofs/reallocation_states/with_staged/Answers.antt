use Rattle.std.specs.Map.{keys_of}
use Rattle.world_reads.specs.draft_reads.Views.{staged_from}
use Rattle.std.proofs.Common.{◌≡◌, ◌++◌, ℕ, List, length, refl, sym, ap, subst, ◌∙◌, arith}
use Rattle.world_reads.specs.host_world.Worlds.{world_of}
use Rattle.rearrange.proofs.lemmas.ListEdits.{length_map}
use Rattle.share_transfers.specs.world_laws.Views.{seat_of}
use Rattle.world_reads.specs.vault.Memory.{kept_seat}
use Rattle.rearrange_calls.specs.Among.{HaveAll}
use Rattle.rearrange_calls.proofs.ReallocationStates.{have_all}
use Rattle.rearrange_calls.proofs.reallocation_states.with_staged.Goals as goal

pub returns : goal.returns
returns c =
    let w = world_of c.args.world.now in
    let draft = c.args.world.now.draft in
    let view = c.seats.result.now in
    let ns = c.args.seats.now in
    let all : c.append.new.self.items ≡ ns ++ keys_of view.staging =
    c.in_ok-append.ensures.items
    ∙ ap (λ (l : List ℕ). l ++ c.in_ok-staged.staged.items) c.in_ok-all.ensures
    ∙ ap (λ (l : List ℕ). ns ++ l) c.in_ok-staged.ensures.seats in
    subst (λ (l : List ℕ). HaveAll w ns l) (sym all)
    (have_all w draft.now.seats view.staging ns refl (ap (staged_from 0 draft.now.seats) (sym c.seats.ensures.staging)) c.requires
    (λ n some. omega (arith, c.staged_seats.ensures.are_open.made n some, ap length c.seats.ensures.seats, length_map kept_seat view.seats, length_map seat_of draft.now.seats)))
