use Rattle.std.proofs.Common.{◌≡◌, ◌<◌, [], ◌∷◌, ◌++◌, length, set, take, reverse, sym, ap, ◌∙◌, subst, arith}
use Rattle.std.proofs.lemmas.List.{length-set, reverse-append, take-append-le, length_push, get_or_read}
use Rattle.promise_store.specs.declared.links.Following.{Following}
use Rattle.promise_store.specs.Linked.{LinkedTurn, LeadsTo, leader, settlement_of, noted_at}
use Rattle.promise_store.specs.Nodes.{Noted, bare}
use Rattle.promise_store.specs.Kept.{AreNodes}
use Rattle.promise_store.proofs.Changes.{followed}
use Rattle.std.proofs.Common.{Some}
use Rattle.promise_store.proofs.links.Links.follow.Goals as goal

pub invariant_of-self-2 : goal.invariant_of-self-2
invariant_of-self-2 c =
    let was = c.self.inside in
    let inv = c.self.invariant in
    let p = c.args.promise in
    let t = c.args.target in
    let f : Following = record { promise = p; target = t } in
    let v = c.self.view_is in
    let hp : p < length was.nodes.items = subst (λ (w : LinkedTurn). p < w.now.made) (sym v) c.requires.promise_made in
    let ht : t < length was.nodes.items = subst (λ (w : LinkedTurn). t < w.now.made) (sym v) c.requires.target_made in
    let pushed : c.push_reserved.new.self.items ≡ was.follows.items ++ f ∷ [] = c.push_reserved.ensures.items ∙ ap (λ xs. xs ++ f ∷ []) c.reserve.ensures.items in
    let hp2 : p < length (set was.nodes.items t c.add_follower.new.self) = omega (arith, hp, length-set was.nodes.items t c.add_follower.new.self) in
    let ex = (c.in_ok-add_follower.ensures).ok ∙ ap (λ (y : Noted). record y { followers = y.followers ++ p ∷ [] }) (get_or_read was.nodes.items t _ ht c.index_mut.ensures.value bare) in
    let ey = c.set_leader.ensures ∙ ap (λ (y : Noted). record y { leader = Some t }) (get_or_read (set was.nodes.items t c.add_follower.new.self) p _ hp2 c.index_mut-2.ensures.value bare) in
    record {
      now = subst (λ fs. AreNodes (set (set was.nodes.items t c.add_follower.new.self) p c.set_leader.new.self) fs was.asked.items (reverse was.outcomes.items)) (sym (ap reverse pushed ∙ reverse-append was.follows.items (f ∷ [])))
          (followed was.nodes.items f (reverse was.follows.items) was.asked.items (reverse was.outcomes.items) _ _ inv.now hp ht
          (ap (λ (w : LinkedTurn). leader w.now.follows p) v ∙ c.requires.free)
          (ap (λ (w : LinkedTurn). settlement_of w.now.outcomes p) v ∙ c.requires.pending)
          (λ l. c.requires.apart (subst (λ (w : LinkedTurn). LeadsTo w.now.follows p t) v l)) ex ey);
      start = λ n h. ap (λ fs. noted_at (reverse fs) (take was.start.asked was.asked.items) (reverse (take was.start.outcomes was.outcomes.items)) n) (ap (take was.start.follows) pushed ∙ take-append-le was.start.follows was.follows.items (f ∷ []) inv.follows_within) ∙ inv.start n h;
      made_within = omega (arith, inv.made_within, length-set was.nodes.items t c.add_follower.new.self, length-set (set was.nodes.items t c.add_follower.new.self) p c.set_leader.new.self);
      follows_within = omega (arith, inv.follows_within, ap length pushed, length_push was.follows.items f);
      asked_within = inv.asked_within;
      outcomes_within = inv.outcomes_within;
      few = omega (arith, inv.few, length-set was.nodes.items t c.add_follower.new.self, length-set (set was.nodes.items t c.add_follower.new.self) p c.set_leader.new.self);
    }
