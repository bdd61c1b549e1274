-- Instances stay such as they are to be, and seats stay of instances that were made.
use Rattle.std.specs.Prelude.{slice_set}
use Rattle.std.specs.List.{AllByRecursion}
use Rattle.std.proofs.Common.{◌≡◌, ◌≢◌, inl, inr, ℕ, zero, suc, ◌<◌, Bool, true, false, cond, ap, List, [], ◌∷◌, ◌++◌, Some, None, length, refl, sym, ◌∙◌, subst, arith}
use Rattle.std.proofs.lemmas.Bool.{cases_eq}
use Rattle.world_state.proofs.lemmas.ListEdits.{length_push, length_set, read_before, read_other, read_pushed, read_set}
use Rattle.std.specs.Str.{bytes_eq}
use Rattle.world_state.specs.brands.IssuerRecords.{AreApart, AreIssuers, brand_under, most_issuers}
use Rattle.world_state.specs.brands.declared.issuer_record.Issuer.{Issuer}
use Rattle.world_laws.proofs.SlotShares.{other_way}
use Rattle.world_state.specs.actors.Tables.{InstanceView, initial_state, instance_at, module_at, new_instance, no_instance, no_module, stopped}
use Rattle.world_state.specs.actors.declared.instance_store.instance.Standing.{Standing}
use Rattle.world_state.specs.actors.declared.instance_store.instance.Standing.TheVariants.{Accepting, Halted, Stopped}
use Rattle.world_state.specs.proposals.declared.allocations.Share.{Share}
use Rattle.world_state.specs.turn_stores.Details.{no_details}
use Rattle.world_state.specs.Good.{AreAtWork, AreInstances, IsGoodEffect, IsGoodWorld, IsInstance, IsIssuer, IsInvitation, IsModule, IsPlaced, standing_of}
use Rattle.world_state.specs.Known.{IsKnownTo, IsPlain}
use Rattle.world_state.specs.Worlds.{Effect, IsOpen, Seat, State, after, left_seat, no_seat, seat_at, add_issuer, empty_seat, exit, halt, keep_state, offer, publish, start, stop}
use Rattle.world_state.specs.Rights.{slots_at}
use Rattle.world_laws.proofs.Lists.{all_map, all_push, all_read, all_set, length_map}
use Rattle.world_laws.proofs.Growing.{grows-after}
use Rattle.world_laws.proofs.Forms.{formed_grows, instance_grows, issuer_grows, issuers_all_grow, known_all_grow, plain_formed}

none_under : (k : List ℕ) (is : List Issuer) (i : Issuer) → brand_under k is ≡ None → bytes_eq k i.keyword ≡ false → brand_under k (is ++ i ∷ []) ≡ None
none_under k [] i none other = ap (λ b. cond b (Some i.brand) None) other
none_under k (x ∷ xs) i none other = by (bytes_eq k x.keyword) none (none_under k xs i)
  where
    by : (b : Bool) → cond b (Some x.brand) (brand_under k xs) ≡ None → (brand_under k xs ≡ None → bytes_eq k i.keyword ≡ false → brand_under k (xs ++ i ∷ []) ≡ None) → cond b (Some x.brand) (brand_under k (xs ++ i ∷ [])) ≡ None
    by true e to = absurd (cc)
    by false e to = to e other

issuers_apart : (is : List Issuer) (i : Issuer) → AreApart is → brand_under i.keyword is ≡ None → AreApart (is ++ i ∷ [])
issuers_apart [] i apart free = (refl, tt)
issuers_apart (x ∷ xs) i apart free = by (bytes_eq i.keyword x.keyword) refl free (issuers_apart xs i apart.1)
  where
    by : (b : Bool) → bytes_eq i.keyword x.keyword ≡ b → cond b (Some x.brand) (brand_under i.keyword xs) ≡ None → (brand_under i.keyword xs ≡ None → AreApart (xs ++ i ∷ [])) → AreApart (x ∷ xs ++ i ∷ [])
    by true e f to = absurd (cc)
    by false e f to = (none_under x.keyword xs i apart.0 (other_way i.keyword x.keyword e), to f)

issuers_push : (is : List Issuer) (i : Issuer) → AreIssuers is → brand_under i.keyword is ≡ None → length is < most_issuers → AreIssuers (is ++ i ∷ [])
issuers_push is i are free few = record { few = omega (arith, few, length_push is i); apart = issuers_apart is i are.apart free }

instances_set : (v : State) (xs : List InstanceView) (i : ℕ) (x : InstanceView) → AreInstances v xs → IsInstance v i x → AreInstances v (slice_set xs i x)
instances_set v xs i x was is = record {
  each = λ n lt. elim (cases_eq i n) [
    | inl same ↦ subst (λ k. IsInstance v k (instance_at (slice_set xs i x) k)) same (subst (IsInstance v i) (sym (read_set xs i x no_instance (omega (arith, lt, same, length_set xs i x)))) is)
    | inr other ↦ subst (IsInstance v n) (sym (read_other xs i n x no_instance other)) (was.each n (omega (arith, lt, length_set xs i x)))
  ];
}

instances_push : (v : State) (xs : List InstanceView) (x : InstanceView) → AreInstances v xs → IsInstance v (length xs) x → AreInstances v (xs ++ x ∷ [])
instances_push v xs x was is = record {
  each = λ n lt. elim (cases_eq (length xs) n) [
    | inl same ↦ subst (λ k. IsInstance v k (instance_at (xs ++ x ∷ []) k)) same (subst (IsInstance v (length xs)) (sym (read_pushed xs x no_instance (length xs) refl)) is)
    | inr other ↦ subst (IsInstance v n) (sym (read_before xs x no_instance n other)) (was.each n (let apart : n ≢ length xs = λ e. other (sym e) in omega (arith, lt, length_push xs x, apart)))
  ];
}

instances_grown : (w : State) (e : Effect) → IsGoodWorld w → AreInstances (after w e) w.tables.instances
instances_grown w e good = record { each = λ n lt. instance_grows w (after w e) (grows-after w e) n (instance_at w.tables.instances n) (good.instances.each n lt) }

-- an instance of those there were
was_one : (w : State) (e : Effect) → IsGoodWorld w → (i : ℕ) → i < length w.tables.instances → IsInstance (after w e) i (instance_at w.tables.instances i)
was_one w e good i lt = (instances_grown w e good).each i lt

pub instances-after : (w : State) (e : Effect) → IsGoodEffect w e → IsGoodWorld w → AreInstances (after w e) (after w e).tables.instances
instances-after w (start s) can good =
    let v = after w (start s) in
    let g = grows-after w (start s) in
    let m = module_at w.tables.installations s.installation in
    instances_push v w.tables.instances (new_instance s.installation s.issuers s.terms m) (instances_grown w (start s) good) (record {
      installed = can.installed;
      issuers = issuers_all_grow w v g s.issuers can.issuers;
      apart = can.apart;
      terms = formed_grows w v g None s.terms can.terms;
      bare = can.bare;
      facet = tt;
      whole = length_map _ m.variables;
      state = all_map IsPlain (IsKnownTo v (length w.tables.instances)) (plain_formed v (Some (length w.tables.instances))) (initial_state m) (all_read IsModule w.tables.installations s.installation no_module good.modules can.installed).plain;
    })
instances-after w (add_issuer i issuer) can good =
    let v = after w (add_issuer i issuer) in
    let x = was_one w (add_issuer i issuer) good i can.made in
    instances_set v w.tables.instances i _ (instances_grown w (add_issuer i issuer) good) (record {
      installed = x.installed;
      issuers = all_push (IsIssuer v) (instance_at w.tables.instances i).issuers issuer x.issuers (issuer_grows w v (grows-after w (add_issuer i issuer)) issuer can.issuer_is);
      apart = issuers_push (instance_at w.tables.instances i).issuers issuer x.apart can.free can.few;
      terms = x.terms;
      bare = x.bare;
      facet = x.facet;
      whole = x.whole;
      state = x.state;
    })
instances-after w (publish i facet) can good =
    let v = after w (publish i facet) in
    let x = was_one w (publish i facet) good i can.made in
    instances_set v w.tables.instances i _ (instances_grown w (publish i facet) good) (record {
      installed = x.installed;
      issuers = x.issuers;
      apart = x.apart;
      terms = x.terms;
      bare = x.bare;
      facet = formed_grows w v (grows-after w (publish i facet)) None facet can.handed;
      whole = x.whole;
      state = x.state;
    })
instances-after w (keep_state i values) can good =
    let v = after w (keep_state i values) in
    let x = was_one w (keep_state i values) good i can.made in
    instances_set v w.tables.instances i _ (instances_grown w (keep_state i values) good) (record {
      installed = x.installed;
      issuers = x.issuers;
      apart = x.apart;
      terms = x.terms;
      bare = x.bare;
      facet = x.facet;
      whole = can.as_many ∙ x.whole;
      state = known_all_grow w v (grows-after w (keep_state i values)) i values can.known;
    })
instances-after w (stop i) can good =
    let x = was_one w (stop i) good i can in
    instances_set (after w (stop i)) w.tables.instances i _ (instances_grown w (stop i) good) (record { installed = x.installed; issuers = x.issuers; apart = x.apart; terms = x.terms; bare = x.bare; facet = x.facet; whole = x.whole; state = x.state })
instances-after w (halt i) can good =
    let x = was_one w (halt i) good i can.made in
    instances_set (after w (halt i)) w.tables.instances i _ (instances_grown w (halt i) good) (record { installed = x.installed; issuers = x.issuers; apart = x.apart; terms = x.terms; bare = x.bare; facet = x.facet; whole = x.whole; state = x.state })
instances-after w e can good = instances_grown w e good

-- ---- seats

pub open_made : (seats : List Seat) (n : ℕ) → IsOpen (seat_at seats n) → n < length seats
open_made [] n is = cc
open_made (s ∷ ss) zero is = omega arith
open_made (s ∷ ss) (suc n) is = let lt : n < length ss = open_made ss n is in omega arith

placed_grown : (w : State) (e : Effect) → IsGoodWorld w → AllByRecursion (IsPlaced (after w e)) w.seats
placed_grown w e good = all_map (IsPlaced w) (IsPlaced (after w e)) (λ s is. omega (arith, is, (grows-after w e).instances.more)) w.seats good.placed

pub placed-after : (w : State) (e : Effect) → IsGoodEffect w e → IsGoodWorld w → AllByRecursion (IsPlaced (after w e)) (after w e).seats
placed-after w (offer o) can good =
    let is = all_read (IsInvitation w) w.invitations o.invitation no_details good.invitations can.invited in
    all_push (IsPlaced (after w (offer o))) w.seats _ (placed_grown w (offer o) good) is.handler.made
placed-after w (empty_seat i rule) can good = all_push (IsPlaced (after w (empty_seat i rule))) w.seats _ (placed_grown w (empty_seat i rule) good) can.made
placed-after w (exit s cause) can good =
    let v = after w (exit s cause) in
    let was = placed_grown w (exit s cause) good in
    all_set (IsPlaced v) w.seats s (left_seat (seat_at w.seats s) (slots_at w.rights.slots s)) was (all_read (IsPlaced v) w.seats s no_seat was (open_made w.seats s can))
placed-after w e can good = placed_grown w e good

-- ---- an instance that has halted has no open seat

standing_kept : (xs : List InstanceView) (i : ℕ) (x : InstanceView) → (x.standing ≡ Halted → (instance_at xs i).standing ≡ Halted) → (n : ℕ) → standing_of (slice_set xs i x) n ≡ Halted → standing_of xs n ≡ Halted
standing_kept [] i x to n is = is
standing_kept (y ∷ ys) zero x to zero is = to is
standing_kept (y ∷ ys) zero x to (suc n) is = is
standing_kept (y ∷ ys) (suc i) x to zero is = is
standing_kept (y ∷ ys) (suc i) x to (suc n) is = standing_kept ys i x to n is

at_work_set : (seats : List Seat) (xs : List InstanceView) (i : ℕ) (x : InstanceView) → (x.standing ≡ Halted → (instance_at xs i).standing ≡ Halted) → AreAtWork seats xs → AreAtWork seats (slice_set xs i x)
at_work_set seats xs i x to are = record { each = λ s is halted. are.each s is (standing_kept xs i x to (seat_at seats s).instance halted) }

not_stopped : (s : Standing) → stopped s ≡ Halted → s ≡ Halted
not_stopped Accepting e = cc
not_stopped Stopped e = cc
not_stopped Halted e = refl

at_work_push : (seats : List Seat) (xs : List InstanceView) (x : InstanceView) → x.standing ≡ Accepting → AreAtWork seats xs → AreAtWork seats (xs ++ x ∷ [])
at_work_push seats xs x new are = record { each = λ s is halted. are.each s is (by xs (seat_at seats s).instance halted) }
  where
    none_halted : x.standing ≡ Halted → ⊥
    none_halted e = let clash : Accepting ≡ Halted = sym new ∙ e in cc

    by : (xs : List InstanceView) (n : ℕ) → standing_of (xs ++ x ∷ []) n ≡ Halted → standing_of xs n ≡ Halted
    by [] zero e = absurd (none_halted e)
    by [] (suc n) e = e
    by (y ∷ ys) zero e = e
    by (y ∷ ys) (suc n) e = by ys n e

at_work_open : (seats : List Seat) (new : Seat) (xs : List InstanceView) → standing_of xs new.instance ≢ Halted → AreAtWork seats xs → AreAtWork (seats ++ new ∷ []) xs
at_work_open seats new xs works are = record { each = by seats are.each }
  where
    by : (ss : List Seat) → ((s : ℕ) → IsOpen (seat_at ss s) → standing_of xs (seat_at ss s).instance ≢ Halted) → (s : ℕ) → IsOpen (seat_at (ss ++ new ∷ []) s) → standing_of xs (seat_at (ss ++ new ∷ []) s).instance ≢ Halted
    by [] all zero is = works
    by [] all (suc s) is = all (suc s) is
    by (q ∷ qs) all zero is = all zero is
    by (q ∷ qs) all (suc s) is = by qs (λ t. all (suc t)) s is

at_work_left : (seats : List Seat) (n : ℕ) (shares : List Share) (xs : List InstanceView) → AreAtWork seats xs → AreAtWork (slice_set seats n (left_seat (seat_at seats n) shares)) xs
at_work_left seats n shares xs are = record { each = by seats n are.each }
  where
    by : (ss : List Seat) (n : ℕ) → ((s : ℕ) → IsOpen (seat_at ss s) → standing_of xs (seat_at ss s).instance ≢ Halted) → (s : ℕ) → IsOpen (seat_at (slice_set ss n (left_seat (seat_at ss n) shares)) s) → standing_of xs (seat_at (slice_set ss n (left_seat (seat_at ss n) shares)) s).instance ≢ Halted
    by [] n all s is = all s is
    by (q ∷ qs) zero all zero is = absurd (cc)
    by (q ∷ qs) zero all (suc s) is = all (suc s) is
    by (q ∷ qs) (suc n) all zero is = all zero is
    by (q ∷ qs) (suc n) all (suc s) is = by qs n (λ t. all (suc t)) s is

halting : (seats : List Seat) (xs : List InstanceView) (i : ℕ) (x : InstanceView) → ((s : ℕ) → IsOpen (seat_at seats s) → (seat_at seats s).instance ≢ i) → AreAtWork seats xs → AreAtWork seats (slice_set xs i x)
halting seats xs i x left are = record {
  each = λ s is halted. are.each s is (ap (λ (y : InstanceView). y.standing) (sym (read_other xs i (seat_at seats s).instance x no_instance (λ e. left s is (sym e)))) ∙ halted);
}

pub at_work-after : (w : State) (e : Effect) → IsGoodEffect w e → IsGoodWorld w → AreAtWork (after w e).seats (after w e).tables.instances
at_work-after w (offer o) can good = at_work_open w.seats _ w.tables.instances can.at_work good.at_work
at_work-after w (empty_seat i rule) can good = at_work_open w.seats _ w.tables.instances can.at_work good.at_work
at_work-after w (exit n cause) can good = at_work_left w.seats n (slots_at w.rights.slots n) w.tables.instances good.at_work
at_work-after w (start s) can good = at_work_push w.seats w.tables.instances _ refl good.at_work
at_work-after w (add_issuer i issuer) can good = at_work_set w.seats w.tables.instances i _ (λ e. e) good.at_work
at_work-after w (publish i facet) can good = at_work_set w.seats w.tables.instances i _ (λ e. e) good.at_work
at_work-after w (keep_state i values) can good = at_work_set w.seats w.tables.instances i _ (λ e. e) good.at_work
at_work-after w (stop i) can good = at_work_set w.seats w.tables.instances i _ (not_stopped (instance_at w.tables.instances i).standing) good.at_work
at_work-after w (halt i) can good = halting w.seats w.tables.instances i _ can.left good.at_work
at_work-after w _ can good = good.at_work
