-- The host is a machine that keeps a queue, so its turns are in order, and it counts them.
use Rattle.std.proofs.Common.{◌≡◌, ◌+◌, ℕ, List, length, Some, refl}
use Rattle.licence_laws.specs.delivery_turns.Hosts.{HostState, Step, step_of}
use Rattle.message_lines.specs.Meanings.{Meaning}
use Rattle.licence_laws.specs.rules.Zoe.{TextReader}
use Rattle.run_laws.proofs.Appended.{stepped}
use Rattle.run_laws.proofs.MachineOrder.{KeepsQueue, TakesFront, all_counts, line_counts, lines_in_order}
use Rattle.run_laws.specs.Order.{AreInOrder}
use Rattle.run_laws.specs.Runs.{first_host, host_machine, line_run, lines_run, meanings_of}

takes_front : (read : TextReader) (s : HostState) (step : Step) → step_of read s ≡ Some step → TakesFront (host_machine read) s step
takes_front read s step made =
    let by = stepped read s step made in
    record { d = by.d; ds = by.ds; front = by.appends.front; of = by.appends.of; queue = by.appends.queue }

keeps_queue : (read : TextReader) → KeepsQueue (host_machine read)
keeps_queue read = record { arrives = λ d s. refl; steps = takes_front read }

pub runs_in_order : (read : TextReader) (meter most : ℕ) (input : List ℕ) → AreInOrder (host_machine read) (first_host meter) (meanings_of most input)
runs_in_order read meter most input = lines_in_order (host_machine read) (keeps_queue read) (first_host meter) refl (meanings_of most input)

-- ---- one turn is counted for each

pub step_count : (read : TextReader) (s : HostState) (step : Step) → step_of read s ≡ Some step → step.next.turns ≡ s.turns + 1
step_count read s step made = (stepped read s step made).appends.turns

pub line_count : (read : TextReader) (m : Meaning) (s : HostState) → (line_run read s m).end.turns ≡ s.turns + length (line_run read s m).turns
line_count read m s = line_counts (host_machine read) (λ t. t.turns) (λ d t. refl) (λ t step. step_count read t step) m s

pub lines_count : (read : TextReader) (ms : List Meaning) (s : HostState) → (lines_run read s ms).end.turns ≡ s.turns + length (lines_run read s ms).turns
lines_count read ms s = all_counts (host_machine read) (λ t. t.turns) (λ d t. refl) (λ t step. step_count read t step) ms s
