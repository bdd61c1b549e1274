use Rattle.std.proofs.Common.{◌≡◌, ◌+◌, ◌<◌, ◌++◌, ◌∷◌, [], arith, ap, length, sym, ◌∙◌, subst, Some}
use Rattle.std.specs.Prelude.{count_by}
use Rattle.slab.specs.Slab.{get}
use Rattle.holders.specs.PaymentViews.{is_live}
use Rattle.holders.specs.Kept.{AreKept, held_by, keys_of, payment_views_from}
use Rattle.holders.proofs.Books.{contains_held, keys_push, last_held, number_is, unmade_kept, unmade_payments}
use Rattle.holders.proofs.payments.remove_last.Goals as goal

pub remove-entry-requires : goal.remove-entry-requires
remove-entry-requires c =
    let held = last_held c.args.live.now c.args.listed.now.items c.pop.new.self.items c.in-Some.last c.in-Some.ensures.items c.requires.last in
    contains_held (length c.pop.new.self.items) (get c.args.live.now c.in-Some.last.key) held

pub returns-clause-kept : goal.returns-clause-kept
returns-clause-kept c =
    let ls = c.pop.new.self.items in
    let held = last_held c.args.live.now c.args.listed.now.items ls c.in-Some.last c.in-Some.ensures.items c.requires.last in
    let is : get c.args.live.now c.in-Some.last.key ≡ Some c.remove-entry.result = c.remove-entry.ensures.value in
    let number = number_is (length ls) (get c.args.live.now c.in-Some.last.key) c.remove-entry.result is held in
    let kept : AreKept c.args.live.now (ls ++ c.in-Some.last ∷ []) = subst (AreKept c.args.live.now) c.in-Some.ensures.items c.requires.kept in
    unmade_kept c.args.live.now c.remove-entry.new.self ls c.in-Some.last c.remove-entry.result kept is number c.remove-entry.ensures.updates c.remove-entry.ensures.len

pub returns-clause-unmade : goal.returns-clause-unmade
returns-clause-unmade c =
    let ls = c.pop.new.self.items in
    let held = last_held c.args.live.now c.args.listed.now.items ls c.in-Some.last c.in-Some.ensures.items c.requires.last in
    let is : get c.args.live.now c.in-Some.last.key ≡ Some c.remove-entry.result = c.remove-entry.ensures.value in
    let number = number_is (length ls) (get c.args.live.now c.in-Some.last.key) c.remove-entry.result is held in
    let kept : AreKept c.args.live.now (ls ++ c.in-Some.last ∷ []) = subst (AreKept c.args.live.now) c.in-Some.ensures.items c.requires.kept in
    let after = unmade_kept c.args.live.now c.remove-entry.new.self ls c.in-Some.last c.remove-entry.result kept is number c.remove-entry.ensures.updates c.remove-entry.ensures.len in
    record {
      views = rw (c.into_parcel.ensures, c.in-Some.ensures.items) (unmade_payments c.args.live.now c.remove-entry.new.self ls c.in-Some.last c.remove-entry.result kept is number c.remove-entry.ensures.updates);
      keys = rw (c.remove-entry.ensures.key_is_next, c.in-Some.ensures.items) (keys_push ls c.in-Some.last);
      room = c.remove-entry.ensures.capacity;
      vacancy = (let room = c.remove-entry.ensures.room in let counted = after.counted in omega (arith, room, counted));
    }
