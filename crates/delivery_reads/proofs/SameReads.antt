-- Messages read of a world its labels and its promises, and nothing else.
use Rattle.std.proofs.Common.{◌≡◌, ℕ, List, Option, Some, None, refl}
use Rattle.delivery_turns.specs.Messages.{addressed, gift_of, label_is_free, resolved, resolved_all, resolved_fields, sent_to, value_at}
use Rattle.delivery_turns.specs.turn_records.Deliveries.{Send}
use Rattle.delivery_turns.specs.turn_records.Messages as parts
use Rattle.delivery_turns.specs.turn_records.Messages.{FieldParts, LineCall, LineGift, Part, Parts}
use Rattle.delivery_turns.specs.world_state.Worlds.{State}

module _ (v w : State) (labels : v.labels ≡ w.labels) (promises : v.promises ≡ w.promises) where
  value_same : (party path : List ℕ) → value_at v party path ≡ value_at w party path
  unfolding value_at
  value_same party path = rw (labels, promises) refl

  mutual
    resolved_same : (party : List ℕ) (p : Part) → resolved v party p ≡ resolved w party p
    resolved_same party parts.null = refl
    resolved_same party (parts.boolean b) = refl
    resolved_same party (parts.number z) = refl
    resolved_same party (parts.text s) = refl
    resolved_same party (parts.array ps) = rw (all_same party ps) refl
    resolved_same party (parts.fields fs) = rw (fields_same party fs) refl
    resolved_same party (parts.path p) = value_same party p

    all_same : (party : List ℕ) (ps : Parts) → resolved_all v party ps ≡ resolved_all w party ps
    all_same party parts.no_parts = refl
    all_same party (parts.part p ps) = rw (resolved_same party p, all_same party ps) refl

    fields_same : (party : List ℕ) (fs : FieldParts) → resolved_fields v party fs ≡ resolved_fields w party fs
    fields_same party parts.no_fields = refl
    fields_same party (parts.field name p fs) = rw (resolved_same party p, fields_same party fs) refl

  label_same : (party : List ℕ) (label : Option (List ℕ)) → label_is_free v party label ≡ label_is_free w party label
  label_same party None = refl
  label_same party (Some label) = rw labels refl

  pub addressed_same : (c : LineCall) → addressed v c ≡ addressed w c
  unfolding addressed
  addressed_same c = rw (label_same c.by c.label, value_same c.by c.on, all_same c.by c.arguments) refl

  pub gift_same : (g : LineGift) → gift_of v g ≡ gift_of w g
  unfolding gift_of
  gift_same g = rw (label_same g.to (Some g.label), value_same g.by g.given) refl

pub sent_same : (v w : State) → v.promises ≡ w.promises → (s : Send) → sent_to v s ≡ sent_to w s
unfolding sent_to
sent_same v w promises s = rw promises refl
