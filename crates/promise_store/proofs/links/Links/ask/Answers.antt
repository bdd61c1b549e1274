use Rattle.std.proofs.Common.{◌≡◌, ◌<◌, [], ◌∷◌, ◌++◌, length, set, take, reverse, sym, ap, ◌∙◌, subst, arith}
use Rattle.std.proofs.lemmas.List.{length-set, take-append-le, length_push, get_or_read}
use Rattle.promise_store.specs.Linked.{LinkedTurn, noted_at}
use Rattle.promise_store.specs.Nodes.{Noted, bare, node_at}
use Rattle.promise_store.specs.Kept.{AreNodes}
use Rattle.promise_store.proofs.Changes.{asked_more}
use Rattle.promise_store.proofs.links.Links.ask.Goals as goal

pub invariant_of-self-2 : goal.invariant_of-self-2
invariant_of-self-2 c =
    let was = c.self.inside in
    let inv = c.self.invariant in
    let p = c.args.promise in
    let hp : p < length was.nodes.items = subst (λ (w : LinkedTurn). p < w.now.made) (sym c.self.view_is) c.requires in
    let pushed : c.push_reserved.new.self.items ≡ was.asked.items ++ p ∷ [] = c.push_reserved.ensures.items ∙ ap (λ xs. xs ++ p ∷ []) c.reserve.ensures.items in
    let asked_len : c.len-request.result ≡ length was.asked.items = omega (arith, c.len-request.ensures, was.asked.ok.0) in
    let ex = (c.in_ok-add_request.ensures).ok
    ∙ (ap (λ (y : Noted). record y { requests = y.requests ++ c.len-request.result ∷ [] }) (get_or_read was.nodes.items p _ hp c.index_mut.ensures.value bare)
    ∙ ap (λ k. record (node_at was.nodes.items p) { requests = (node_at was.nodes.items p).requests ++ k ∷ [] }) asked_len) in
    record {
      now = subst (λ ps. AreNodes (set was.nodes.items p c.add_request.new.self) (reverse was.follows.items) ps (reverse was.outcomes.items)) (sym pushed)
          (asked_more was.nodes.items (reverse was.follows.items) was.asked.items p (reverse was.outcomes.items) _ inv.now hp ex);
      start = λ n h. ap (λ ps. noted_at (reverse (take was.start.follows was.follows.items)) ps (reverse (take was.start.outcomes was.outcomes.items)) n) (ap (take was.start.asked) pushed ∙ take-append-le was.start.asked was.asked.items (p ∷ []) inv.asked_within) ∙ inv.start n h;
      made_within = omega (arith, inv.made_within, length-set was.nodes.items p c.add_request.new.self);
      follows_within = inv.follows_within;
      asked_within = omega (arith, inv.asked_within, ap length pushed, length_push was.asked.items p);
      outcomes_within = inv.outcomes_within;
      few = omega (arith, inv.few, length-set was.nodes.items p c.add_request.new.self);
    }
