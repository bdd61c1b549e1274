-- What holds of the world between effects, part by part, each over the stores that it reads: rights add up, open seats are
-- covered, who waits for a promise is told, promises are owed once, all that is held was made. And what each effect needs.
use Rattle.std.specs.Prelude.{◌≡◌, ◌≢◌, ◌⊎◌, ℕ, ◌+◌, ◌<◌, ◌≤◌, ◌==◌, ◌&&◌, if◌then◌else◌}
use Rattle.std.specs.Prelude.{Bool, true, false, codes, List, [], ◌∷◌, ◌++◌, length}
use Rattle.std.specs.Prelude.{Option, Some, None, IfSome, IsSome, IsSomeAnd, is_none}
use Rattle.std.specs.List.{AllByRecursion}
use Rattle.vault_model.specs.amount_math.Amount.{Meet}
use Rattle.vault_model.specs.amount_math.Content.{count}
use Rattle.vault_model.specs.amount_math.ValueView.{Fits, IsValue, ValueView, minted_bound}
use Rattle.vault_model.specs.amount_math.declared.Amount.{Amount}
use Rattle.vault_model.specs.amount_math.declared.Kind.TheVariants.{Set}
use Rattle.actors.specs.Labels.{Bound, bound_to}
use Rattle.actors.specs.brands.Brands.{brand_at, most_brands}
use Rattle.actors.specs.brands.IssuerRecords.{AreIssuers, brand_under, most_issuers}
use Rattle.actors.specs.brands.declared.Brand.{Brand}
use Rattle.actors.specs.brands.declared.issuer_record.Issuer.{Issuer}
use Rattle.vault_model.specs.ertp_mint.BrandSupply.{BrandSupply, supply_at}
use Rattle.vault_model.specs.ertp_mint.Stocks.{most_made}
use Rattle.vault_model.specs.host_text.Words.{is_field_name, is_keyword}
use Rattle.actors.specs.Facets.{FacetView}
use Rattle.actors.specs.SeatPromises.{pair_at}
use Rattle.actors.specs.Tables.{InstanceView, initial_state, instance_at, module_at}
use Rattle.actors.specs.declared.instance_store.instance.Standing.{Standing}
use Rattle.actors.specs.declared.instance_store.instance.Standing.TheVariants.{Halted}
use Rattle.actors.specs.declared.instance_store.seat_promises.SeatPair.{SeatPair}
use Rattle.actors.specs.turn_stores.Details.{DetailsView}
use Rattle.actors.specs.turn_stores.Elements.{element}
use Rattle.actors.specs.jessie_semantics.Naming.{IsFieldName, RoutinesWrite}
use Rattle.actors.specs.jessie_grammar.Syntax.{Routine, routines}
use Rattle.vault_model.specs.host_data.Tree.{Tree, fields, get, object}
use Rattle.vault_model.specs.host_data.declared.data.Obj.{Obj}
use Rattle.actors.specs.jessie_grammar.declared.syntax.Module.{Module}
use Rattle.vault_model.specs.holders.PaymentViews.{PaymentView, payment_view_at}
use Rattle.turn_records.specs.promise_store.Linked.{IsForest, LeadsTo, leader}
use Rattle.turn_records.specs.promise_store.States.{SettlementView, broken, ok}
use Rattle.turn_records.specs.promise_store.declared.links.Following.{Following}
use Rattle.vault_model.specs.proposals.OfferSafety.{IsOfferSafe}
use Rattle.vault_model.specs.proposals.Shares.{AreShares, amount_under}
use Rattle.vault_model.specs.proposals.Slots.{FitsSeat, in_byte_order}
use Rattle.vault_model.specs.proposals.declared.allocations.Share.{Share}
use Rattle.vault_model.specs.proposals.declared.offers.Exit.{Exit}
use Rattle.vault_model.specs.proposals.declared.offers.Exit.TheVariants.{AfterDeadline, OnDemand, Waived}
use Rattle.vault_model.specs.proposals.declared.offers.Proposal.{Proposal}
use Rattle.vault_model.specs.rights_model.declared.Holder.{Holder}
use Rattle.vault_model.specs.rights_model.declared.Holder.TheVariants.{Purse, Payment, Slot, Hand, Outside}
use Rattle.vault_model.specs.rights_model.declared.Movement.{Movement}
use Rattle.vault_model.specs.Tables.{no_hand}
use Rattle.actors.specs.turn_stores.Schedules.{Schedule}
use Rattle.turn_records.specs.Deliveries.{Delivery, Notice, Offer, Send, Start, Wakeup, promise_of}
use Rattle.turn_records.specs.Deliveries.{bad, call, deadline, give, notify, tick}
use Rattle.turn_records.specs.Deliveries.{offer as offers, send as sends, start as starts}
use Rattle.turn_records.specs.Deliveries.{wake as wakes}
use Rattle.turn_records.specs.turn_rows.Form.{times_end}
use Rattle.world_state.specs.Known.{HasFunction, IsHanded, IsKnownTo, IsNamed, IsPlain, IsSeatOf}
use Rattle.world_state.specs.Lines.{IsFormedCall, IsFormedGift}
use Rattle.world_state.specs.Promises.{IsPending, PromiseBook, WasSettled, settlement_at, target_of}
use Rattle.world_state.specs.Rights.{CanMoveAll, Rights, all_moved, held_of, kind_at}
use Rattle.world_state.specs.Rights.{moved_together, slots_at, with_slots}
use Rattle.world_state.specs.Worlds.{Effect, Maker, Offering, Seat, Starting, State, after}
use Rattle.world_state.specs.Worlds.{of_host, of_instance, of_kit, maker_at, new_seat}
use Rattle.world_state.specs.Worlds.{IsOpen, seat_at, staged_at, burn_and_escrows, empty_slots}
use Rattle.world_state.specs.Worlds.{invitation_value, offered_by, payments_tree, promises_made}
use Rattle.world_state.specs.Worlds.{add_issuer, arrive, bind_label, empty_payment, empty_seat}
use Rattle.world_state.specs.Worlds.{end_staging, exit, halt, install, invite, keep_state}
use Rattle.world_state.specs.Worlds.{moves, new_brand, new_purse, note_call, offer}
use Rattle.world_state.specs.Worlds.{publish, resolve, send, set_time, stage, start, stop, unstage}
use Rattle.world_state.specs.Worlds.{make_facet, wake, when}

-- ---- rights

-- all that is held is what is out
pub record IsBalanced (r : Rights) : Type 0 where
  pub each : (b : ℕ) (k : List ℕ)
      → held_of r b k ≡ count (supply_at r.out b).outstanding.content k

-- an amount of a brand that was made, of its kind
pub record IsOfKind (out : List BrandSupply) (a : Amount) : Type 0 where
  pub made : a.brand < length out
  pub kind : kind_at out a.brand ≡ a.value.kind

-- a payment of a brand that was made; what it has is of its kind
pub record IsPayment (out : List BrandSupply) (p : PaymentView) : Type 0 where
  pub made : p.brand < length out
  pub kind : IfSome p.held (λ w. kind_at out p.brand ≡ w.kind)

abbrev pub AreSharesOf : List BrandSupply → List Share → Type 0
AreSharesOf out shares = AllByRecursion (λ (r : Share). IsOfKind out r.amount) shares

-- amounts are values of their kind
abbrev pub IsValued : ValueView → Type 0
IsValued w = IsValue w.kind w.content

abbrev pub IsAmountValued : Amount → Type 0
IsAmountValued a = IsValued a.value

abbrev pub IsPaymentValued : PaymentView → Type 0
IsPaymentValued p = IfSome p.held IsValued

abbrev pub AreSharesValued : List Share → Type 0
AreSharesValued shares = AllByRecursion (λ (r : Share). IsAmountValued r.amount) shares

-- and so is what purses, payments and slots have
pub record AreValues (r : Rights) : Type 0 where
  pub purses : AllByRecursion IsAmountValued r.purses
  pub payments : AllByRecursion IsPaymentValued r.payments
  pub slots : AllByRecursion AreSharesValued r.slots

-- there is no more out of a brand than its kind lets there be
abbrev pub IsInBounds : BrandSupply → Type 0
IsInBounds s = Fits s.outstanding.kind s.outstanding.content

-- no more was ever minted of a brand than may be
abbrev pub IsMintedInBounds : BrandSupply → Type 0
IsMintedInBounds s = s.minted ≤ minted_bound

-- brand 0 is that of invitations; each brand has a supply of its kind, and one that made it
pub record AreBrands (bs : List Brand) (makers : List Maker) (out : List BrandSupply) : Type 0 where
  pub some : 0 < length bs
  pub few : length bs ≤ most_brands
  pub supplies : length out ≡ length bs
  pub made_by : length makers ≡ length bs
  pub kinds : (b : ℕ) → kind_at out b ≡ (brand_at bs b).kind
  pub first : (brand_at bs 0).kind ≡ Set
  pub host : maker_at makers 0 ≡ of_host

-- a key isn't the element of an invitation that was made
abbrev pub IsOfNone : List DetailsView → List ℕ → Type 0
IsOfNone ds k = (n : ℕ) → n < length ds → k ≢ element n

-- nothing is out of brand 0 but elements of invitations that were made; no more were ever issued
pub record AreInvitations (out : List BrandSupply) (ds : List DetailsView) : Type 0 where
  pub once : (supply_at out 0).minted ≤ length ds
  pub made : (k : List ℕ) → IsOfNone ds k
      → count (supply_at out 0).outstanding.content k ≡ 0

-- ---- seats

-- how many slots there are in open seats, each of which will be a payment
abbrev pub slots_in : Seat → List Share → ℕ
slots_in seat shares = if is_none seat.last then length shares else 0

abbrev pub open_slots : List Seat → List (List Share) → ℕ
open_slots [] slots = 0
open_slots (s ∷ ss) [] = 0
open_slots (s ∷ ss) (shares ∷ rest) = slots_in s shares + open_slots ss rest

pub record HasRoom (ps : List PaymentView) (slots : List (List Share)) (seats : List Seat) : Type 0 where
  pub left : length ps + open_slots seats slots ≤ most_made

-- what an open seat has covers what it wants, or what it gave
pub record AreCovered (slots : List (List Share)) (seats : List Seat) : Type 0 where
  pub each : (s : ℕ) → IsOpen (seat_at seats s)
      → IsOfferSafe (seat_at seats s).proposal (slots_at slots s)

-- shares stand under keywords
abbrev pub IsKeyword : List ℕ → Type 0
IsKeyword k = is_keyword k ≡ true

abbrev pub AreNamed : List Share → Type 0
AreNamed shares = AllByRecursion (λ (r : Share). IsKeyword r.keyword) shares

-- each seat has its slots, under keywords of their own, two promises, and a place for its staging
pub record AreSeats (seats : List Seat) (slots : List (List Share)) (pairs : List SeatPair)
    (staging : List (Option (List Share))) : Type 0 where
  pub staged : length staging ≡ length seats
  pub slotted : length slots ≡ length seats
  pub paired : length pairs ≡ length seats
  pub shares : AllByRecursion AreShares slots
  pub named : AllByRecursion AreNamed slots

-- both of its promises were made
pub record IsPair (made : ℕ) (pair : SeatPair) : Type 0 where
  pub results : pair.«result» < made
  pub payouts : pair.payouts < made

-- it is of an instance that was made
abbrev pub IsPlaced : State → Seat → Type 0
IsPlaced w seat = seat.instance < length w.tables.instances

-- an instance that has halted has no open seat
abbrev pub standing_of : List InstanceView → ℕ → Standing
standing_of xs i = (instance_at xs i).standing

pub record AreAtWork (seats : List Seat) (xs : List InstanceView) : Type 0 where
  pub each : (s : ℕ) → IsOpen (seat_at seats s) → standing_of xs (seat_at seats s).instance ≢ Halted

-- a deadline is such as lines can set the time to
abbrev pub IsRule : Exit → Type 0
IsRule (AfterDeadline t) = t < times_end
IsRule OnDemand = Unit {0}
IsRule Waived = Unit {0}

-- what is proposed: keywords of their own, amounts of brands that were made
pub record IsProposal (out : List BrandSupply) (p : Proposal) : Type 0 where
  pub give : AreShares p.give
  pub want : AreShares p.want
  pub give_named : AreNamed p.give
  pub want_named : AreNamed p.want
  pub give_valued : AreSharesValued p.give
  pub want_valued : AreSharesValued p.want
  pub fits : FitsSeat p
  pub gives : AreSharesOf out p.give
  pub wants : AreSharesOf out p.want
  pub rule : IsRule p.exit

-- a share has a slot under its keyword, of its brand and kind
abbrev pub HasSlot : List Share → Share → Type 0
HasSlot slots share = IsSomeAnd (amount_under share.keyword slots) (λ slot. Meet slot share.amount)

-- and so has each share of a proposal
pub record HaveSlots (slots : List Share) (p : Proposal) : Type 0 where
  pub give : AllByRecursion (HasSlot slots) p.give
  pub want : AllByRecursion (HasSlot slots) p.want

-- what a seat had when it was left
pub record IsLast (out : List BrandSupply) (p : Proposal) (shares : List Share) : Type 0 where
  pub apart : AreShares shares
  pub named : AreNamed shares
  pub valued : AreSharesValued shares
  pub of_kinds : AreSharesOf out shares
  pub slots : HaveSlots shares p

-- what a seat was opened for, and what it has or had
pub record IsSeat (out : List BrandSupply) (seat : Seat) (shares : List Share) : Type 0 where
  pub proposal : IsProposal out seat.proposal
  pub slots : HaveSlots shares seat.proposal
  pub last : IfSome seat.last (IsLast out seat.proposal)

pub record AreProposed (out : List BrandSupply) (seats : List Seat)
    (slots : List (List Share)) : Type 0 where
  pub each : (s : ℕ) → s < length seats → IsSeat out (seat_at seats s) (slots_at slots s)

-- what is staged of an open seat: keywords of their own, amounts of brands that were made, where
-- there is a slot of its brand
abbrev pub IsOfSlot : List Share → Share → Type 0
IsOfSlot slots share = IfSome (amount_under share.keyword slots) (λ a. a.brand ≡ share.amount.brand)

pub record IsStaged (out : List BrandSupply) (seat : Seat) (slots shares : List Share) : Type 0 where
  pub is_open : IsOpen seat
  pub apart : AreShares shares
  pub named : AreNamed shares
  pub valued : AreSharesValued shares
  pub of_kinds : AreSharesOf out shares
  pub of_slots : AllByRecursion (IsOfSlot slots) shares

pub record AreStaged (out : List BrandSupply) (seats : List Seat) (slots : List (List Share))
    (staging : List (Option (List Share))) : Type 0 where
  pub each : (s : ℕ) (shares : List Share) → staged_at staging s ≡ Some shares
      → IsStaged out (seat_at seats s) (slots_at slots s) shares

-- ---- promises that are owed

abbrev pub one_if : Bool → ℕ
one_if b = if b then 1 else 0

abbrev pub is_for : Option ℕ → ℕ → Bool
is_for None p = false
is_for (Some q) p = q == p

-- to open seats for their payouts, by what waits to be delivered, and to those who are to be told
abbrev pub owes_payouts : Seat → SeatPair → ℕ → Bool
owes_payouts s q p = is_none s.last && (q.payouts == p)

abbrev pub owed_payouts : List Seat → List SeatPair → ℕ → ℕ
owed_payouts [] pairs p = 0
owed_payouts (s ∷ ss) [] p = 0
owed_payouts (s ∷ ss) (q ∷ qs) p = one_if (owes_payouts s q p) + owed_payouts ss qs p

abbrev pub owed_answers : List Delivery → ℕ → ℕ
owed_answers [] p = 0
owed_answers (d ∷ ds) p = one_if (is_for (promise_of d) p) + owed_answers ds p

abbrev pub owed_notices : List Notice → ℕ → ℕ
owed_notices [] p = 0
owed_notices (n ∷ ns) p = one_if (n.answer == p) + owed_notices ns p

abbrev pub owes : List Seat → List SeatPair → List Delivery → PromiseBook → ℕ → ℕ
owes seats pairs waiting book p =
    owed_payouts seats pairs p + owed_answers waiting p + owed_notices book.requests p

-- what is owed is owed once, and is pending, and follows none; what follows another was made
pub record AreOwed (seats : List Seat) (pairs : List SeatPair) (waiting : List Delivery)
    (book : PromiseBook) : Type 0 where
  pub made : AllByRecursion (λ (f : Following). f.promise < length book.settled) book.follows
  pub once : (p : ℕ) → owes seats pairs waiting book p ≤ 1
  pub pending : (p : ℕ) → 0 < owes seats pairs waiting book p → IsPending book p

-- who is to be told of a promise still is while it isn't settled
abbrev pub AreAsked : PromiseBook → Type 0
AreAsked book =
    AllByRecursion (λ (n : Notice). settlement_at book.settled n.promise ≡ None) book.requests

-- what follows another was made, as that was; none leads to itself; and what follows a promise that
-- isn't settled isn't settled
pub record IsFollowing (made : ℕ) (f : Following) : Type 0 where
  pub promise : f.promise < made
  pub target : f.target < made

pub record AreFollowing (book : PromiseBook) : Type 0 where
  pub forest : IsForest book.follows
  pub made : AllByRecursion (IsFollowing (length book.settled)) book.follows
  pub unsettled : (p q : ℕ) → leader book.follows p ≡ Some q
      → settlement_at book.settled q ≡ None → settlement_at book.settled p ≡ None

-- the promise of a seat's payouts is settled with the record of its payments, one under each
-- keyword of what it had
pub record IsPaidOut (settled : List (Option SettlementView)) (pair : SeatPair)
    (shares : List Share) : Type 0 where
  pub first : ℕ
  pub given : settlement_at settled pair.payouts ≡ Some (ok (payments_tree first shares))

-- a seat that was left was paid out
pub record ArePaidOut (seats : List Seat) (pairs : List SeatPair)
    (settled : List (Option SettlementView)) : Type 0 where
  pub each : (s : ℕ) (shares : List Share) → s < length seats → (seat_at seats s).last ≡ Some shares
      → IsPaidOut settled (pair_at pairs s) shares

-- ---- data and functions that the world holds

-- what a promise is settled with ends it, and can be handed out
abbrev pub IsSettling : State → SettlementView → Type 0
IsSettling w (ok t) = IsHanded w t
IsSettling w (broken t) = IsHanded w t

pub record IsFinal (w : State) (v : SettlementView) : Type 0 where
  pub ends : target_of v ≡ None
  pub handed : IsSettling w v

abbrev pub IsSettled : State → Option SettlementView → Type 0
IsSettled w s = IfSome s (IsFinal w)

-- its installation is that of its instance
pub record IsInvitation (w : State) (d : DetailsView) : Type 0 where
  pub handler : HasFunction w.tables d.instance d.handler
  pub installation : d.installation ≡ (instance_at w.tables.instances d.instance).installation
  pub held : IsKnownTo w d.instance d.held

-- an issuer of a brand that was made, under a keyword
pub record IsIssuer (w : State) (i : Issuer) : Type 0 where
  pub made : i.brand < length w.brands
  pub named : IsKeyword i.keyword

-- terms are a record without the fields that the host adds to them
abbrev pub AreTerms : Tree → Type 0
AreTerms (fields fs) = (get (codes "issuers") fs ≡ None) × (get (codes "brands") fs ≡ None)
AreTerms _ = ⊥

-- the n-th instance
pub record IsInstance (w : State) (n : ℕ) (x : InstanceView) : Type 0 where
  pub installed : x.installation < length w.tables.installations
  pub issuers : AllByRecursion (IsIssuer w) x.issuers
  pub apart : AreIssuers x.issuers
  pub terms : IsHanded w x.terms
  pub bare : AreTerms x.terms
  pub facet : IfSome x.public_facet (IsHanded w)
  pub whole : length x.state ≡ length (module_at w.tables.installations x.installation).variables
  pub state : AllByRecursion (IsKnownTo w n) x.state

pub record AreInstances (w : State) (xs : List InstanceView) : Type 0 where
  pub each : (n : ℕ) → n < length xs → IsInstance w n (instance_at xs n)

-- a module as a text is read: what its state variables begin with is data that a text may write;
-- its functions have names of their form, and one of them is its start; and so have the fields of
-- the records that they write
pub record IsModule (m : Module) : Type 0 where
  pub plain : AllByRecursion IsPlain (initial_state m)
  pub starts : IsNamed (codes "start") (routines m)
  pub named : AllByRecursion (λ (r : Routine). is_field_name r.name ≡ true) (routines m)
  pub writes : RoutinesWrite IsFieldName (routines m)

abbrev pub IsMethod : State → ℕ → List ℕ × List ℕ → Type 0
IsMethod w i m = HasFunction w.tables i m.1

pub record IsFacet (w : State) (f : FacetView) : Type 0 where
  pub made : f.instance < length w.tables.instances
  pub methods : AllByRecursion (IsMethod w f.instance) f.methods
  pub held : IsKnownTo w f.instance f.held

abbrev pub IsLabel : State → Bound → Type 0
IsLabel w b = IsHanded w b.value

pub record IsWakeup (w : State) (d : Wakeup) : Type 0 where
  pub function : HasFunction w.tables d.instance d.function
  pub held : IsKnownTo w d.instance d.held

pub record IsNotice (w : State) (n : Notice) : Type 0 where
  pub promise : n.promise < length w.promises.settled
  pub function : HasFunction w.tables n.instance n.function
  pub held : IsKnownTo w n.instance n.held

-- its promise is settled
pub record IsNews (w : State) (n : Notice) : Type 0 where
  pub notice : IsNotice w n
  pub settled : WasSettled (settlement_at w.promises.settled n.promise)

pub record IsStart (w : State) (s : Start) : Type 0 where
  pub made : s.instance < length w.tables.instances
  pub arguments : IsHanded w s.private_arguments

-- its seat was opened for it, whose result it settles
pub record IsOfferCall (w : State) (o : Offer) : Type 0 where
  pub seat : IsSeatOf w.seats o.instance o.seat
  pub paired : o.seat < length w.pairs
  pub promise : o.promise ≡ (pair_at w.pairs o.seat).«result»
  pub function : HasFunction w.tables o.instance o.function
  pub arguments : IsHanded w o.offer_arguments
  pub held : IsKnownTo w o.instance o.held

pub record IsSend (w : State) (s : Send) : Type 0 where
  pub made : s.instance < length w.tables.instances
  pub target : IsHanded w (object s.target)
  pub arguments : AllByRecursion (IsHanded w) s.arguments

-- what waits is due
abbrev pub IsDue : State → Delivery → Type 0
IsDue w (call c) = IsFormedCall c
IsDue w (give g) = IsFormedGift g
IsDue w (tick t) = t < times_end
IsDue w (bad r) = Unit {0}
IsDue w (sends s) = IsSend w s
IsDue w (starts s) = IsStart w s
IsDue w (offers o) = IsOfferCall w o
IsDue w (wakes d) = IsWakeup w d
IsDue w (notify n) = IsNews w n
IsDue w (deadline seat) = seat < length w.seats

-- what waits for a time is due then: a wakeup, or a deadline
abbrev pub IsTimed : State → Delivery → Type 0
IsTimed w (wakes d) = IsWakeup w d
IsTimed w (deadline seat) = seat < length w.seats
IsTimed w _ = ⊥

abbrev pub IsTimedEntry : State → ℕ × Delivery → Type 0
IsTimedEntry w e = IsTimed w e.1

-- the time, and each time that something waits for, is such as lines can set it to
pub record IsTimely (s : Schedule Delivery) : Type 0 where
  pub time : s.time < times_end
  pub waiting : AllByRecursion (λ (e : ℕ × Delivery). e.0 < times_end) s.waiting

-- ---- the world

pub record IsGoodWorld (w : State) : Type 0 where
  pub balanced : IsBalanced w.rights
  pub purse_kinds : AllByRecursion (IsOfKind w.rights.out) w.rights.purses
  pub payment_kinds : AllByRecursion (IsPayment w.rights.out) w.rights.payments
  pub slot_kinds : AllByRecursion (AreSharesOf w.rights.out) w.rights.slots
  pub valued : AreValues w.rights
  pub bounded : AllByRecursion IsInBounds w.rights.out
  pub minted : AllByRecursion IsMintedInBounds w.rights.out
  pub brands : AreBrands w.brands w.makers w.rights.out
  pub invited : AreInvitations w.rights.out w.invitations
  pub seats : AreSeats w.seats w.rights.slots w.pairs w.staging
  pub paired : AllByRecursion (IsPair (promises_made w)) w.pairs
  pub placed : AllByRecursion (IsPlaced w) w.seats
  pub at_work : AreAtWork w.seats w.tables.instances
  pub proposed : AreProposed w.rights.out w.seats w.rights.slots
  pub covered : AreCovered w.rights.slots w.seats
  pub room : HasRoom w.rights.payments w.rights.slots w.seats
  pub staged : AreStaged w.rights.out w.seats w.rights.slots w.staging
  pub owed : AreOwed w.seats w.pairs w.waiting w.promises
  pub asked : AreAsked w.promises
  pub following : AreFollowing w.promises
  pub paid_out : ArePaidOut w.seats w.pairs w.promises.settled
  pub settled : AllByRecursion (IsSettled w) w.promises.settled
  pub requests : AllByRecursion (IsNotice w) w.promises.requests
  pub modules : AllByRecursion IsModule w.tables.installations
  pub instances : AreInstances w w.tables.instances
  pub invitations : AllByRecursion (IsInvitation w) w.invitations
  pub facets : AllByRecursion (IsFacet w) w.facets
  pub labels : AllByRecursion (IsLabel w) w.labels
  pub timed : AllByRecursion (IsTimedEntry w) w.schedule.waiting
  pub timely : IsTimely w.schedule
  pub waiting : AllByRecursion (IsDue w) w.waiting

-- ---- what each effect needs

abbrev pub IsMaker : State → Maker → Type 0
IsMaker w of_host = ⊥
IsMaker w of_kit = Unit {0}
IsMaker w (of_instance i) = i < length w.tables.instances

pub record CanMakeBrand (w : State) (maker : Maker) : Type 0 where
  pub few : length w.brands < most_brands
  pub made : IsMaker w maker

pub record CanOpenPurse (w : State) (b : ℕ) : Type 0 where
  pub made : b < length w.brands
  pub few : length w.rights.purses < most_made

pub record CanMakeEmpty (w : State) (b : ℕ) : Type 0 where
  pub made : b < length w.brands
  pub room : length w.rights.payments + open_slots w.seats w.rights.slots < most_made

-- a movement doesn't bring invitations; where it names a slot, its seat is open
abbrev pub BringsNoInvitation : Movement → Type 0
BringsNoInvitation m = m.from ≡ Outside → m.brand ≢ 0

abbrev pub IsAtOpen : List Seat → Holder → Type 0
IsAtOpen seats (Slot s k) = IsOpen (seat_at seats s)
IsAtOpen seats (Purse n) = Unit {0}
IsAtOpen seats (Payment n) = Unit {0}
IsAtOpen seats Hand = Unit {0}
IsAtOpen seats Outside = Unit {0}

-- a slot is named by a keyword
abbrev pub IsNamedHolder : Holder → Type 0
IsNamedHolder (Slot s k) = IsKeyword k
IsNamedHolder (Purse n) = Unit {0}
IsNamedHolder (Payment n) = Unit {0}
IsNamedHolder Hand = Unit {0}
IsNamedHolder Outside = Unit {0}

pub record IsGoodMove (seats : List Seat) (m : Movement) : Type 0 where
  pub brings : BringsNoInvitation m
  pub from_named : IsNamedHolder m.from
  pub to_named : IsNamedHolder m.to
  pub from : IsAtOpen seats m.from
  pub to : IsAtOpen seats m.to

-- a payment that was taken from has nothing left
abbrev pub HoldsNothing : PaymentView → Type 0
HoldsNothing p = IfSome p.held (λ (w : ValueView). (k : List ℕ) → count w.content k ≡ 0)

abbrev pub HasNothing : List PaymentView → Holder → Type 0
HasNothing ps (Payment n) = HoldsNothing (payment_view_at ps n)
HasNothing ps (Purse n) = Unit {0}
HasNothing ps (Slot s k) = Unit {0}
HasNothing ps Hand = Unit {0}
HasNothing ps Outside = Unit {0}

-- a payment that is given to is made by that
abbrev pub IsFresh : ℕ → Holder → Type 0
IsFresh made (Payment n) = made ≤ n
IsFresh made (Purse n) = Unit {0}
IsFresh made (Slot s k) = Unit {0}
IsFresh made Hand = Unit {0}
IsFresh made Outside = Unit {0}

-- movements leave a seat's slots as they are
abbrev pub LeavesSlots : Rights → List Movement → ℕ → Type 0
LeavesSlots r ms s = slots_at (moved_together r ms).slots s ≡ slots_at r.slots s

-- what they leave in its slots is offer safe
abbrev pub LeavesSafe : Rights → List Seat → List Movement → ℕ → Type 0
LeavesSafe r seats ms s =
    IsOfferSafe (seat_at seats s).proposal (slots_at (moved_together r ms).slots s)

-- movements can be made together: each in order; nothing is left in the hand, or in a payment
-- that was taken from; what is given to a payment makes it; the slots of a seat of which
-- something is staged stay as they are; each open seat is covered, and can be paid out
pub record CanMoveTogether (r : Rights) (seats : List Seat) (staging : List (Option (List Share)))
    (ms : List Movement) : Type 0 where
  pub can : CanMoveAll r no_hand ms
  pub good : AllByRecursion (IsGoodMove seats) ms
  pub emptied : AllByRecursion (λ (m : Movement). HasNothing (all_moved r ms).payments m.from) ms
  pub fresh : AllByRecursion (λ (m : Movement). IsFresh (length r.payments) m.to) ms
  pub apart : (s : ℕ) → IsSome (staged_at staging s) → LeavesSlots r ms s
  pub safe : (s : ℕ) → LeavesSlots r ms s ⊎ LeavesSafe r seats ms s
  pub room : HasRoom (moved_together r ms).payments (moved_together r ms).slots seats

-- the payment of an invitation is burned, whole
pub record IsBurn (invitation : ℕ) (m : Movement) : Type 0 where
  pub payment : ℕ
  pub brand : m.brand ≡ 0
  pub from : m.from ≡ Payment payment
  pub to : m.to ≡ Outside
  pub value : m.value ≡ invitation_value invitation

pub record IsEscrow (seat : ℕ) (share : Share) (m : Movement) : Type 0 where
  pub payment : ℕ
  pub brand : m.brand ≡ share.amount.brand
  pub from : m.from ≡ Payment payment
  pub to : m.to ≡ Slot seat share.keyword
  pub value : m.value ≡ share.amount.value

-- each slot of give gets its amount, in order
abbrev pub AreEscrows : ℕ → List Share → List Movement → Type 0
AreEscrows seat [] [] = Unit {0}
AreEscrows seat (r ∷ rs) (m ∷ ms) = IsEscrow seat r m × AreEscrows seat rs ms
AreEscrows seat _ _ = ⊥

-- no two movements take from the same
abbrev pub TakeApart : List Movement → Type 0
TakeApart [] = Unit {0}
TakeApart (m ∷ ms) = AllByRecursion (λ (n : Movement). n.from ≢ m.from) ms × TakeApart ms

-- an instance has not halted
abbrev pub IsAtWork : State → ℕ → Type 0
IsAtWork w i = standing_of w.tables.instances i ≢ Halted

abbrev pub with_next_seat : State → ℕ → Proposal → List Seat
with_next_seat w instance p = w.seats ++ new_seat instance p ∷ []

-- the slots of a new seat, and the seats with it
abbrev pub rights_for : State → Offering → Rights
rights_for w o = with_slots w.rights (empty_slots o.proposal)

abbrev pub seats_for : State → Offering → List Seat
seats_for w o = with_next_seat w (offered_by w o).instance o.proposal

pub record CanOffer (w : State) (o : Offering) : Type 0 where
  pub invited : o.invitation < length w.invitations
  pub at_work : IsAtWork w (offered_by w o).instance
  pub proposal : IsProposal w.rights.out o.proposal
  pub burn : IsBurn o.invitation o.burn
  pub escrows : AreEscrows (length w.seats) (in_byte_order o.proposal.give) o.escrows
  pub payments : TakeApart (burn_and_escrows o)
  pub moves : CanMoveTogether (rights_for w o) (seats_for w o) w.staging (burn_and_escrows o)
  pub safe : IsOfferSafe o.proposal (slots_at (after w (offer o)).rights.slots (length w.seats))
  pub arguments : IsHanded w o.arguments
  pub seats : length w.seats < most_made
  pub promises : promises_made w + 2 ≤ most_made

pub record CanOpenSeat (w : State) (i : ℕ) (rule : Exit) : Type 0 where
  pub made : i < length w.tables.instances
  pub at_work : IsAtWork w i
  pub timely : IsRule rule
  pub seats : length w.seats < most_made
  pub promises : promises_made w + 2 ≤ most_made

pub record CanInvite (w : State) (d : DetailsView) : Type 0 where
  pub details : IsInvitation w d
  pub few : length w.invitations < most_made
  pub room : length w.rights.payments + open_slots w.seats w.rights.slots < most_made

-- a promise is pending, and owed to none; what it is resolved to can be handed out, and doesn't
-- lead back to it
pub record CanResolve (w : State) (p : ℕ) (v : SettlementView) : Type 0 where
  pub pending : IsPending w.promises p
  pub free : owes w.seats w.pairs w.waiting w.promises p ≡ 0
  pub handed : IsSettling w v
  pub straight : (q : ℕ) → target_of v ≡ Some q → LeadsTo w.promises.follows p q → ⊥

pub record CanSend (w : State) (i : ℕ) (to : Obj) (args : List Tree) : Type 0 where
  pub made : i < length w.tables.instances
  pub target : IsHanded w (object to)
  pub arguments : AllByRecursion (IsHanded w) args
  pub room : promises_made w < most_made

pub record CanAsk (w : State) (i p : ℕ) (f : List ℕ) (t : Tree) : Type 0 where
  pub made : p < promises_made w
  pub function : HasFunction w.tables i f
  pub held : IsKnownTo w i t
  pub room : promises_made w < most_made

pub record CanWake (w : State) (t : ℕ) (d : Wakeup) : Type 0 where
  pub wakeup : IsWakeup w d
  pub timely : t < times_end

-- the time doesn't go back
pub record CanSetTime (s : Schedule Delivery) (t : ℕ) : Type 0 where
  pub later : s.time ≤ t
  pub timely : t < times_end

abbrev pub IsLine : Delivery → Type 0
IsLine (call c) = IsFormedCall c
IsLine (give g) = IsFormedGift g
IsLine (tick t) = t < times_end
IsLine (bad r) = Unit {0}
IsLine _ = ⊥

pub record CanInstall (w : State) (m : Module) : Type 0 where
  pub «module» : IsModule m
  pub room : length w.tables.installations < most_made

pub record CanStart (w : State) (s : Starting) : Type 0 where
  pub installed : s.installation < length w.tables.installations
  pub issuers : AllByRecursion (IsIssuer w) s.issuers
  pub apart : AreIssuers s.issuers
  pub terms : IsHanded w s.terms
  pub bare : AreTerms s.terms
  pub arguments : IsHanded w s.private_arguments
  pub instances : length w.tables.instances < most_made
  pub promises : promises_made w < most_made

pub record CanAddIssuer (w : State) (i : ℕ) (issuer : Issuer) : Type 0 where
  pub made : i < length w.tables.instances
  pub issuer_is : IsIssuer w issuer
  pub free : brand_under issuer.keyword (instance_at w.tables.instances i).issuers ≡ None
  pub few : length (instance_at w.tables.instances i).issuers < most_issuers

pub record CanPublish (w : State) (i : ℕ) (facet : Tree) : Type 0 where
  pub made : i < length w.tables.instances
  pub handed : IsHanded w facet

pub record CanKeep (w : State) (i : ℕ) (values : List Tree) : Type 0 where
  pub made : i < length w.tables.instances
  pub as_many : length values ≡ length (instance_at w.tables.instances i).state
  pub known : AllByRecursion (IsKnownTo w i) values

-- none of its seats is open
pub record CanHalt (w : State) (i : ℕ) : Type 0 where
  pub made : i < length w.tables.instances
  pub left : (s : ℕ) → IsOpen (seat_at w.seats s) → (seat_at w.seats s).instance ≢ i

pub record CanMakeFacet (w : State) (f : FacetView) : Type 0 where
  pub facet : IsFacet w f
  pub room : length w.facets < most_made

pub record CanBind (w : State) (party label : List ℕ) (value : Tree) : Type 0 where
  pub free : bound_to w.labels party label ≡ None
  pub handed : IsHanded w value

abbrev pub IsGoodEffect : State → Effect → Type 0
IsGoodEffect w (new_brand b maker) = CanMakeBrand w maker
IsGoodEffect w (new_purse b) = CanOpenPurse w b
IsGoodEffect w (empty_payment b) = CanMakeEmpty w b
IsGoodEffect w (moves ms) = CanMoveTogether w.rights w.seats w.staging ms
IsGoodEffect w (stage s shares) =
    IsStaged w.rights.out (seat_at w.seats s) (slots_at w.rights.slots s) shares
IsGoodEffect w (unstage s) = Unit {0}
IsGoodEffect w end_staging = Unit {0}
IsGoodEffect w (offer o) = CanOffer w o
IsGoodEffect w (empty_seat i rule) = CanOpenSeat w i rule
IsGoodEffect w (exit s cause) = IsOpen (seat_at w.seats s)
IsGoodEffect w (invite d) = CanInvite w d
IsGoodEffect w (resolve p v) = CanResolve w p v
IsGoodEffect w (send i target method arguments) = CanSend w i target arguments
IsGoodEffect w (when i p function held) = CanAsk w i p function held
IsGoodEffect w (wake t d) = CanWake w t d
IsGoodEffect w (set_time t) = CanSetTime w.schedule t
IsGoodEffect w (arrive d) = IsLine d
IsGoodEffect w (install m) = CanInstall w m
IsGoodEffect w (start s) = CanStart w s
IsGoodEffect w (add_issuer i issuer) = CanAddIssuer w i issuer
IsGoodEffect w (publish i facet) = CanPublish w i facet
IsGoodEffect w (keep_state i values) = CanKeep w i values
IsGoodEffect w (stop i) = i < length w.tables.instances
IsGoodEffect w (halt i) = CanHalt w i
IsGoodEffect w (make_facet f) = CanMakeFacet w f
IsGoodEffect w (bind_label party label value) = CanBind w party label value
IsGoodEffect w (note_call c) = Unit {0}

abbrev pub AreGood : State → List Effect → Type 0
AreGood w [] = Unit {0}
AreGood w (e ∷ es) = IsGoodEffect w e × AreGood (after w e) es

-- ---- a turn's own promise

-- an effect doesn't resolve the promise that a delivery settles when its turn is over
abbrev pub LeavesAnswer : Delivery → Effect → Type 0
LeavesAnswer d (resolve p v) = promise_of d ≢ Some p
LeavesAnswer d _ = Unit {0}

-- a promise that is the turn's alone: it is pending, and owed to none else
pub record IsInHand (w : State) (p : ℕ) : Type 0 where
  pub pending : IsPending w.promises p
  pub free : owes w.seats w.pairs w.waiting w.promises p ≡ 0
