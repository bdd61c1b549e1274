use Rattle.std.proofs.Common.{List, ℕ, Some, ◌∙◌, ap, string_bytes}
use Rattle.std.specs.BTreeMap.{get_by_text}
use Rattle.ertp_mint.specs.Places.{place_in}
use Rattle.ertp_mint.proofs.Placed.{at_text, nothing_written}
use Rattle.ertp_mint.proofs.places.insert_place.Goals as goal
use Rattle.ertp_mint.proofs.places.insert_place.Goals.{in-Ok, in-Err}

pub returns-clause-same : goal.returns-clause-same
returns-clause-same c = elim c.match-insert.branch [
  | in-Ok w ↦ λ q.
      nothing_written (string_bytes c.in_ok-text.text) c.args.places.now c.insert.new.self (Some c.empty.result) w.in-Ok.ensures.updates c.empty.ensures
      (ap (λ (b : List ℕ). at_text (get_by_text c.args.places.now b)) c.in_ok-text.ensures.ok ∙ ap at_text c.requires.absent) q
  | in-Err w ↦ λ q. ap (λ es. place_in es q) w.in-Err.ensures.err
]
