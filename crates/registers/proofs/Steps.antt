-- A store's calls make of its book what the world's definitions say.
use Rattle.std.specs.Prelude.{◌==◌, if◌then◌else◌, cond, is_none, option_map}
use Rattle.std.specs.List.{filter}
use Rattle.std.proofs.Common.{◌≡◌, inl, inr, ℕ, ◌+◌, ◌<◌, ◌≤◌, Bool, true, false, List, [], ◌∷◌, ◌++◌, length, map, Option, Some, None, IsSome, is_some, Result, Ok, Err, IfOk, OnOk, OnErr, ◌↔◌, refl, sym, ◌∙◌, ap, subst, arith}
use Rattle.std.proofs.lemmas.Bool.{cases_lt}
use Rattle.std.proofs.lemmas.List.{map-append}
use Rattle.std.proofs.lemmas.List.Elements.{filter-append}
use Rattle.world_state.proofs.lemmas.ListEdits.{length_push, read_past, read_pushed}
use Rattle.world_state.specs.host_data.Tree.{Tree, null}
use Rattle.world_state.specs.promise_store.Cascade.{Settles, none, first, notified, notifications, settled_in}
use Rattle.world_state.specs.promise_store.Linked.{LeadsTo, Linked, asking, followers, following, leader, requests_from, settlement_of, settling, here}
use Rattle.world_state.specs.promise_store.States as states
use Rattle.world_state.specs.promise_store.States.{SettlementView, StateView, broken, is_final, ok, pending, settlement_at as with_number, settlement_view, state_of}
use Rattle.world_state.specs.promise_store.Turns.{AreSettledWith, ComesOfFollowing, EventsOfFollowing, Store, Turn, links_following, state_at, changed, one_made, with_following, with_request, with_settled}
use Rattle.world_state.specs.promise_store.declared.links.Consequence.{Consequence}
use Rattle.world_state.specs.promise_store.declared.settlement.Settlement.{Settlement}
use Rattle.world_state.specs.promise_store.declared.store.FollowFault.{FollowFault}
use Rattle.world_state.specs.promise_store.declared.store.FollowFault.TheVariants as faults
use Rattle.world_state.proofs.promise_store.Changes.{leader_here}
use Rattle.world_state.specs.turn_records.Views.{notice_view}
use Rattle.world_state.specs.turn_records.declared.deliveries.Notice as code
use Rattle.world_state.specs.turn_records.Deliveries.{Delivery, Notice}
use Rattle.world_state.specs.turn_records.Events as events
use Rattle.world_state.specs.Promises as world
use Rattle.world_state.specs.Promises.{IsPending, PromiseBook, Resolved, settlement_at, target_of}
use Rattle.registers.specs.Books.{AreRequestsIn, IsBooked, is_asking, settled_with}
use Rattle.registers.specs.PromiseTables.{AreBooked, IsStoreBooked, beside, book_of, has_settled, notice_views, told_after, waits_after}
use Rattle.registers.proofs.Lists.{length_listed, read_listed}
use Rattle.registers.proofs.Kept.{booked_asking, more_is, booked_following, booked_settled}
use Rattle.registers.proofs.Resolved.{numbered, same_before, settling_is}

-- ---- what a promise is

pub settlement_is : (s : Store code.Notice) (p : ℕ) → p < s.links.made → settlement_at (book_of s).settled p ≡ settled_with s.links.outcomes s.settlements p
settlement_is s p lt = read_listed (settled_with s.links.outcomes s.settlements) s.links.made p (Some (broken null)) lt

pub state_is : (s : Store code.Notice) (p : ℕ) → p < s.links.made → state_at s p ≡ world.state_of (book_of s) p
state_is s p lt = by (settlement_of s.links.outcomes p) (leader s.links.follows p) ∙ ap (λ (o : Option SettlementView). world.state_by o (leader s.links.follows p)) (sym (settlement_is s p lt))
  where
    by : (k q : Option ℕ) → state_of s.settlements k q ≡ world.state_by (option_map (with_number s.settlements) k) q
    by (Some k) q = refl
    by None (Some q) = refl
    by None None = refl

pub pending_made : (s : Store code.Notice) (p : ℕ) → IsPending (book_of s) p → p < s.links.made
pending_made s p b = elim (cases_lt p s.links.made) [
  | inl lt ↦ lt
  | inr past ↦
      let absent : settlement_at (book_of s).settled p ≡ Some (broken null) = read_past (book_of s).settled (Some (broken null)) p (omega (arith, past, length_listed (settled_with s.links.outcomes s.settlements) s.links.made)) in
      absurd (two (broken null) (sym absent ∙ b.unsettled))
]
  where
    two : (v : SettlementView) → Some v ≡ None → ⊥
    two v e = grind arith

mapped_none : {A B : Type 0} (f : A → B) (o : Option A) → option_map f o ≡ None → o ≡ None
mapped_none f None e = refl
mapped_none f (Some a) e = absurd (let two : Some (f a) ≡ None = e in grind arith)

pub pending_free : (s : Store code.Notice) (p : ℕ) → IsPending (book_of s) p → settlement_of s.links.outcomes p ≡ None
pending_free s p b = mapped_none (with_number s.settlements) (settlement_of s.links.outcomes p) (sym (settlement_is s p (pending_made s p b)) ∙ b.unsettled)

pub pending_is : (s : Store code.Notice) (p : ℕ) → IsPending (book_of s) p → state_at s p ≡ pending
pending_is s p b = ap (λ (k : Option ℕ). state_of s.settlements k (leader s.links.follows p)) (pending_free s p b) ∙ ap (λ (q : Option ℕ). state_of s.settlements None q) b.alone

pub final_is : (v : SettlementView) → target_of v ≡ None → is_final v ≡ true
final_is (ok t) e = by t e
  where
    by : (t : Tree) → target_of (ok t) ≡ None → is_final (ok t) ≡ true
    by t e = grind arith
final_is (broken t) e = refl

-- ---- the requests that are answered are there

requests_there : (k n p : ℕ) (asked : List ℕ) → k + length asked ≤ n → AreRequestsIn n (map (notified p) (requests_from k asked p))
requests_there k n p [] le = tt
requests_there k n p (q ∷ asked) le =
    let ih = requests_there (k + 1) n p asked (omega (arith, le)) in
    elim (q == p) as (λ b. AreRequestsIn n (map (notified p) (if b then k ∷ requests_from (k + 1) asked p else requests_from (k + 1) asked p))) [
      | true ↦ (omega (arith, le), ih)
      | false ↦ ih
    ]

in_append : (n : ℕ) (es fs : List Consequence) → AreRequestsIn n es → AreRequestsIn n fs → AreRequestsIn n (es ++ fs)
in_append n [] fs a b = b
in_append n (e ∷ es) fs a b = (a.0, in_append n es fs a.1 b)

pub requests_in : (l : Linked) (qs : List ℕ) (es : List Consequence) → Settles l qs es → AreRequestsIn (length l.asked) es
requests_in l _ _ none = tt
requests_in l _ _ (first q qs below rest es sb sr e) =
    subst (AreRequestsIn (length l.asked)) (sym e) (
      tt,
      in_append (length l.asked) (below ++ notifications l q) rest
          (in_append (length l.asked) below (notifications l q) (requests_in l (followers l.follows q) below sb) (requests_there 0 (length l.asked) q l.asked (omega arith)))
          (requests_in l qs rest sr),
    )

-- ---- a promise is settled

length_mapped : {A B : Type 0} (f : A → B) (xs : List A) → length (map f xs) ≡ length xs
length_mapped f [] = refl
length_mapped f (x ∷ xs) = omega (arith, length_mapped f xs)

pub entries_there : (s : Store code.Notice) → IsStoreBooked s → length s.entries ≡ length s.links.asked
entries_there s b =
    let all : length (map (λ (r : Notice). r.promise) (notice_views s.entries)) ≡ length s.links.asked = ap length b.asked in
    omega (arith, all, length_mapped (λ (r : Notice). r.promise) (notice_views s.entries), length_mapped notice_view s.entries)

module _ (s : Store code.Notice) (b : IsStoreBooked s) (p : ℕ) (is : IsPending (book_of s) p) (es : List Consequence) (comes : Settles s.links (p ∷ []) es) where
  pub booked_with : (v : Settlement) → IsStoreBooked (with_settled es v s)
  booked_with v =
      let more = length_push s.settlements (settlement_view v) in
      booked_settled s.links s.settlements (s.settlements ++ settlement_view v ∷ []) (notice_views s.entries) (length s.settlements) p es b
      (pending_made s p is) is.alone (pending_free s p is) comes (omega (arith, more)) (omega (arith, more))

  pub settled_now : (v : Settlement) (ds : List Delivery) (log : List events.Event) → state_at (with_settled es v s) p ≡ states.settled (settlement_view v)
      → beside (book_of (with_settled es v s)) (waits_after (state_at (with_settled es v s) p) (notice_views s.entries) es ds) (told_after (state_at (with_settled es v s) p) es log)
      ≡ world.settling p (settlement_view v) (book_of s) ds log
  settled_now v ds log at =
      let r = settling_is s.links s.settlements (s.settlements ++ settlement_view v ∷ []) (notice_views s.entries) b (length s.settlements) p (settlement_view v) es
      (pending_made s p is) is.alone (pending_free s p is) comes
      (read_pushed s.settlements (settlement_view v) (broken null) (length s.settlements) refl)
      (λ q. same_before s.settlements (settlement_view v) s.links.made q s.links.outcomes b.outcomes) ds log in
      ap (λ (x : StateView). beside (book_of (with_settled es v s)) (waits_after x (notice_views s.entries) es ds) (told_after x es log)) at
      ∙ (λ i. record { promises = r.promises i; waiting = r.waiting i; log = r.log i })

-- ---- what is told, once a store's promises are settled

pub told_together : {V E : Type 0} (r : Result V E) (b : PromiseBook) (ds es : List Delivery) (log logs : List events.Event) (x : Resolved) → OnOk r (ds ≡ es) → OnOk r (log ≡ logs)
    → beside b es logs ≡ x → OnOk r (beside b ds log ≡ x)
told_together (Ok v) b ds es log logs x waits told is = (λ i. beside b (waits i) (told i)) ∙ is
told_together (Err e) b ds es log logs x waits told is = tt

-- the store after, by what it became
module _ (s n : Store code.Notice) (b : IsStoreBooked s) (p : ℕ) (is : IsPending (book_of s) p) (es : List Consequence) (ds : List Delivery) (log : List events.Event) where
  pub settled_told : (v : Settlement) → Settles s.links (p ∷ []) es → n ≡ with_settled es v s → AreSettledWith (states.settled (settlement_view v)) p s n
      → beside (book_of n) (waits_after (state_at n p) (notice_views n.entries) es ds) (told_after (state_at n p) es log) ≡ world.settling p (settlement_view v) (book_of s) ds log
  settled_told v comes e known =
      ap (λ (x : Store code.Notice). beside (book_of x) (waits_after (state_at x p) (notice_views x.entries) es ds) (told_after (state_at x p) es log)) e
      ∙ settled_now s b p is es comes v ds log (ap (λ (x : Store code.Notice). state_at x p) (sym e) ∙ known.leading p here)

  pub followed_told : (t : ℕ) → t < s.links.made → ComesOfFollowing s.links p t es → n ≡ with_following p t es s
      → (IsSome (settlement_of s.links.outcomes t) → AreSettledWith (state_at s t) p s n)
      → beside (book_of n) (waits_after (state_at n p) (notice_views n.entries) es ds) (told_after (state_at n p) es log)
      ≡ world.following (settlement_at (book_of s).settled t) p t (book_of s) ds log
  followed_told t made comes e known = by (settlement_of s.links.outcomes t) refl
    where
      by : (k : Option ℕ) → settlement_of s.links.outcomes t ≡ k
          → beside (book_of n) (waits_after (state_at n p) (notice_views n.entries) es ds) (told_after (state_at n p) es log)
          ≡ world.following (settlement_at (book_of s).settled t) p t (book_of s) ds log
      by None free =
          let links : n ≡ record s { links = following p t s.links } = e ∙ ap (λ (k : Option ℕ). record s { links = links_following k p t es s.links }) free in
          let state : state_at n p ≡ states.follows t =
          ap (λ (x : Store code.Notice). state_at x p) links
          ∙ (ap (λ (k : Option ℕ). state_of s.settlements k (leader (record { promise = p; target = t } ∷ s.links.follows) p)) (pending_free s p is)
          ∙ ap (λ (q : Option ℕ). state_of s.settlements None q) (leader_here (record { promise = p; target = t }) s.links.follows)) in
          let pends : settlement_at (book_of s).settled t ≡ None = settlement_is s t made ∙ ap (option_map (with_number s.settlements)) free in
          ap (λ (x : StateView). beside (book_of n) (waits_after x (notice_views n.entries) es ds) (told_after x es log)) state
          ∙ (ap (λ (x : Store code.Notice). beside (book_of x) ds log) links
          ∙ sym (ap (λ (o : Option SettlementView). world.following o p t (book_of s) ds log) pends))
      by (Some k) was =
          let v : SettlementView = with_number s.settlements k in
          let links : n ≡ record s { links = settling k (settled_in es) s.links } = e ∙ ap (λ (k : Option ℕ). record s { links = links_following k p t es s.links }) was in
          let there : state_at s t ≡ states.settled v = ap (λ (k : Option ℕ). state_of s.settlements k (leader s.links.follows t)) was in
          let state : state_at n p ≡ states.settled v = (known (ap is_some was)).leading p here ∙ there in
          let settled : settlement_at (book_of s).settled t ≡ Some v = settlement_is s t made ∙ ap (option_map (with_number s.settlements)) was in
          let settles : Settles s.links (p ∷ []) es = subst (λ (k : Option ℕ). EventsOfFollowing k s.links p es) was comes in
          let r = settling_is s.links s.settlements s.settlements (notice_views s.entries) b k p v es (pending_made s p is) is.alone (pending_free s p is) settles refl (λ q. refl) ds log in
          ap (λ (x : StateView). beside (book_of n) (waits_after x (notice_views n.entries) es ds) (told_after x es log)) state
          ∙ (ap (λ (x : Store code.Notice). beside (book_of x) (waits_after (states.settled v) (notice_views x.entries) es ds) (told_after (states.settled v) es log)) links
          ∙ ((λ i. record { promises = r.promises i; waiting = r.waiting i; log = r.log i })
          ∙ sym (ap (λ (o : Option SettlementView). world.following o p t (book_of s) ds log) settled)))

  pub booked_followed : (t : ℕ) → (LeadsTo s.links.follows p t → ⊥) → ComesOfFollowing s.links p t es → n ≡ with_following p t es s → IsStoreBooked n
  booked_followed t apart comes e = by (settlement_of s.links.outcomes t) refl
    where
      by : (k : Option ℕ) → settlement_of s.links.outcomes t ≡ k → IsStoreBooked n
      by None free =
          let links : n ≡ record s { links = following p t s.links } = e ∙ ap (λ (k : Option ℕ). record s { links = links_following k p t es s.links }) free in
          subst IsStoreBooked (sym links) (booked_following s.links s.settlements (notice_views s.entries) p t b (pending_made s p is) is.alone (pending_free s p is) apart)
      by (Some k) was =
          let links : n ≡ record s { links = settling k (settled_in es) s.links } = e ∙ ap (λ (k : Option ℕ). record s { links = links_following k p t es s.links }) was in
          let settles : Settles s.links (p ∷ []) es = subst (λ (k : Option ℕ). EventsOfFollowing k s.links p es) was comes in
          subst IsStoreBooked (sym links) (booked_settled s.links s.settlements s.settlements (notice_views s.entries) k p es b (pending_made s p is) is.alone (pending_free s p is) settles
          (numbered s.links.made (length s.settlements) t k s.links.outcomes b.outcomes was) (omega arith))

  pub requests_followed : (t : ℕ) → ComesOfFollowing s.links p t es → AreRequestsIn (length s.entries) es
  requests_followed t comes = by (settlement_of s.links.outcomes t) comes
    where
      by : (k : Option ℕ) → EventsOfFollowing k s.links p es → AreRequestsIn (length s.entries) es
      by None e = subst (AreRequestsIn (length s.entries)) (sym e) tt
      by (Some k) c = subst (λ (n : ℕ). AreRequestsIn n es) (sym (entries_there s b)) (requests_in s.links (p ∷ []) es c)

-- ---- a table's store is kept, whatever a call came to

pub kept_settled : {V E : Type 0} (items : V → List Consequence) (r : Result V E) (old new : Turn code.Notice) (p : ℕ) (v : Settlement) → AreBooked old → IsPending (book_of old.now) p
    → IfOk r (λ x. Settles old.now.links (p ∷ []) (items x)) → IfOk r (λ x. new ≡ changed (with_settled (items x) v) old) → OnErr r (new ≡ old) → AreBooked new
kept_settled items (Ok x) old new p v b is comes done err = subst AreBooked (sym done) record { start = b.start; now = booked_with old.now b.now p is (items x) comes v }
kept_settled items (Err e) old new p v b is comes done err = subst AreBooked (sym err) b

pub kept_followed : {V : Type 0} (items : V → List Consequence) (r : Result V FollowFault) (old new : Turn code.Notice) (p t : ℕ) → AreBooked old → IsPending (book_of old.now) p
    → ((r ≡ Err (faults.PromiseCycle p)) ↔ LeadsTo old.now.links.follows p t)
    → IfOk r (λ x. ComesOfFollowing old.now.links p t (items x)) → IfOk r (λ x. new ≡ changed (with_following p t (items x)) old) → OnErr r (new ≡ old) → AreBooked new
kept_followed items (Ok x) old new p t b is cycle comes done err =
    let no : LeadsTo old.now.links.follows p t → ⊥ = λ l. let two : Ok x ≡ Err (faults.PromiseCycle p) = cycle.1 l in grind arith in
    subst AreBooked (sym done) record { start = b.start; now = booked_followed old.now (with_following p t (items x) old.now) b.now p is (items x) [] [] t no comes refl }
kept_followed items (Err e) old new p t b is cycle comes done err = subst AreBooked (sym err) b

pub made_more : {E : Type 0} (r : Result ℕ E) (old new : Turn code.Notice) → AreBooked old → OnOk r (new ≡ changed one_made old) → OnOk r (book_of new.now ≡ world.with_promise None (book_of old.now))
made_more (Ok n) old new b done =
    ap (λ (t : Turn code.Notice). book_of t.now) done
    ∙ (λ i. record { settled = more_is old.now.links old.now.settlements (notice_views old.now.entries) b.now i; follows = old.now.links.follows; requests = (book_of old.now).requests })
made_more (Err e) old new b done = tt

-- ---- one more asks to be told

length_asked : (s : Store code.Notice) (p : ℕ) (r : code.Notice) → IsStoreBooked s → r.promise ≡ p → IsStoreBooked (with_request p r s)
length_asked s p r b e = subst (λ rs. IsBooked (asking p s.links) s.settlements rs) (sym (map-append notice_view s.entries (r ∷ [])))
    (booked_asking s.links s.settlements (notice_views s.entries) p (notice_view r) b e)

pub kept_asked : {V E : Type 0} (r : Result V E) (old new : Turn code.Notice) (p : ℕ) (n : code.Notice) → AreBooked old → n.promise ≡ p → OnOk r (new ≡ changed (with_request p n) old) → OnErr r (new ≡ old) → AreBooked new
kept_asked (Ok x) old new p n b e done err = subst AreBooked (sym done) record { start = b.start; now = length_asked old.now p n b.now e }
kept_asked (Err x) old new p n b e done err = subst AreBooked (sym err) b

-- where the promise isn't settled, the request is kept
pub asked_is : (s : Store code.Notice) (n : code.Notice) → n.promise < s.links.made → settlement_of s.links.outcomes n.promise ≡ None
    → book_of (with_request n.promise n s) ≡ world.asking (settlement_at (book_of s).settled n.promise) (notice_view n) (book_of s)
asked_is s n lt free =
    let pends : settlement_at (book_of s).settled n.promise ≡ None = settlement_is s n.promise lt ∙ ap (option_map (with_number s.settlements)) free in
    let asks : is_asking s.links.outcomes (notice_view n) ≡ true = ap is_none free in
    let kept : filter (is_asking s.links.outcomes) (notice_views (s.entries ++ n ∷ [])) ≡ filter (is_asking s.links.outcomes) (notice_views s.entries) ++ notice_view n ∷ [] =
    ap (filter (is_asking s.links.outcomes)) (map-append notice_view s.entries (n ∷ []))
    ∙ (filter-append (is_asking s.links.outcomes) (notice_views s.entries) (notice_view n ∷ [])
    ∙ ap (λ (b : Bool). filter (is_asking s.links.outcomes) (notice_views s.entries) ++ cond b (notice_view n ∷ []) []) asks) in
    (λ i. record { settled = (book_of s).settled; follows = s.links.follows; requests = kept i })
    ∙ sym (ap (λ (o : Option SettlementView). world.asking o (notice_view n) (book_of s)) pends)

-- a promise's state tells whether it is settled
pub settled_is : (s : Store code.Notice) (p : ℕ) → p < s.links.made → is_some (settlement_at (book_of s).settled p) ≡ has_settled (state_at s p)
settled_is s p lt = ap is_some (settlement_is s p lt) ∙ by (settlement_of s.links.outcomes p) (leader s.links.follows p)
  where
    by : (k q : Option ℕ) → is_some (option_map (with_number s.settlements) k) ≡ has_settled (state_of s.settlements k q)
    by (Some k) q = refl
    by None (Some q) = refl
    by None None = refl

pub unsettled_is : (s : Store code.Notice) (p : ℕ) → p < s.links.made → is_some (settlement_at (book_of s).settled p) ≡ false → settlement_of s.links.outcomes p ≡ None
unsettled_is s p lt e = by (settlement_of s.links.outcomes p) (ap is_some (sym (settlement_is s p lt)) ∙ e)
  where
    by : (k : Option ℕ) → is_some (option_map (with_number s.settlements) k) ≡ false → k ≡ None
    by None e = refl
    by (Some k) e = absurd (let two : true ≡ false = e in grind arith)

-- a table's promises are counted by its book
pub made_is : (s : Store code.Notice) → length (book_of s).settled ≡ s.links.made
made_is s = length_listed (settled_with s.links.outcomes s.settlements) s.links.made

pub made_in : (s : Store code.Notice) (p : ℕ) → p < length (book_of s).settled → p < s.links.made
made_in s p lt = subst (λ (n : ℕ). p < n) (made_is s) lt
