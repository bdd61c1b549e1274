use Rattle.std.proofs.Common.{◌+◌, List, ℕ, ◌∙◌, ap, arith, refl, sym}
use Rattle.std.proofs.lemmas.Bool.{false≢true}
use Rattle.amount_math.specs.Content.{of_entries, sum}
use Rattle.amount_math.specs.Entries.{entry_at}
use Rattle.amount_math.specs.declared.TooMuch.{TooMuch}
use Rattle.amount_math.proofs.Listed.{read_entry}
use Rattle.ertp_mint.specs.declared.place.Place.{Place}
use Rattle.ertp_mint.specs.Places.{place_in, seen}
use Rattle.ertp_mint.proofs.Placed.{held_at, key_is_past, keys_fit, past_does_not_fit, set_refused, shows_past}
use Rattle.ertp_mint.proofs.keys_out.can_issue_keys.Goals as goal

pub first_past-requires : goal.first_past-requires
first_past-requires c = record { within = λ k. omega (arith, held_at c.args.places.now.entries k, c.requires.fits.each k, c.most_out-most.ensures) }

pub returns-in_default-clause-ok : goal.returns-in_default-clause-ok
returns-in_default-clause-ok c = λ _. keys_fit c.args.kind c.args.places.now.entries c.args.entries.now c.requires.rising c.most_out-most.result c.most_out-most.ensures c.requires.fits (c.first_past.ensures.none (rw c.in_default.is refl))

pub returns-in-Set-clause-sure : goal.returns-in-Set-clause-sure
returns-in-Set-clause-sure c =
    let past = key_is_past c.args.kind c.args.places.now.entries c.args.entries.now c.requires.rising c.most_out-most.result c.most_out-most.ensures c.requires.fits c.in-Some.at c.in-Some.ensures.found c.in-Some.ensures.before c.in-Some.ensures.past in
    λ fits. absurd (past_does_not_fit c.args.kind _ _ past fits)

pub returns-in-Set-clause-refused : goal.returns-in-Set-clause-refused
returns-in-Set-clause-refused c =
    let past = key_is_past c.args.kind c.args.places.now.entries c.args.entries.now c.requires.rising c.most_out-most.result c.most_out-most.ensures c.requires.fits c.in-Some.at c.in-Some.ensures.found c.in-Some.ensures.before c.in-Some.ensures.past in
    let read = read_entry c.args.entries.now c.in-Some.at c.index-entries-at.result c.in-Some.ensures.found c.index-entries-at.is in
    set_refused c.args.kind (sum (seen c.args.places.now.entries).out (of_entries c.args.entries.now)) c.overlap.result c.key.result.now (entry_at c.args.entries.now c.in-Some.at).0 c.in-Set.is past (c.key.ensures ∙ ap (λ (e : List ℕ × ℕ). e.0) (sym read)) c.overlap.ensures

pub overflow_add-sum : goal.overflow_add-sum
overflow_add-sum c =
    let held = ap (λ (p : Place). p.out) c.place_of-held.ensures in
    omega (arith, held, held_at c.args.places.now.entries c.as_str.result.now, c.requires.fits.each c.as_str.result.now, c.most_out-most.ensures, c.most_out-most.type_inv, c.from.ensures, c.count.type_inv)

pub returns : goal.returns
returns c =
    let past = key_is_past c.args.kind c.args.places.now.entries c.args.entries.now c.requires.rising c.most_out-most.result c.most_out-most.ensures c.requires.fits c.in-Some.at c.in-Some.ensures.found c.in-Some.ensures.before c.in-Some.ensures.past in
    let read = read_entry c.args.entries.now c.in-Some.at c.index-entries-at.result c.in-Some.ensures.found c.index-entries-at.is in
    let key = c.as_str.ensures ∙ c.key-2.ensures ∙ ap (λ (e : List ℕ × ℕ). e.0) (sym read) in
    let held = ap (λ (p : Place). p.out) (c.place_of-held.ensures ∙ ap (place_in c.args.places.now.entries) key) in
    let number = c.from.ensures ∙ c.count.ensures ∙ ap (λ (e : List ℕ × ℕ). e.1) (sym read) in
    let over : TooMuch = record { sum = c.place_of-held.result.out + c.from.result; bound = c.from-bound.result } in
    record {
      ok = λ e. absurd (false≢true e);
      sure = λ fits. absurd (past_does_not_fit c.args.kind _ _ past fits);
      refused = (
        c.in_default-kind.not-Set,
        shows_past c.args.kind c.args.places.now.entries c.args.entries.now c.requires.rising c.most_out-most.result c.most_out-most.ensures c.requires.fits c.in-Some.at over c.in-Some.ensures.found past (omega (arith, held, number)) c.from-bound.ensures,
      );
    }
