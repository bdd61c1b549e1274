-- The texts of the samples, line by line.
use Rattle.std.specs.Prelude.{ℕ, List, [], ◌∷◌, ◌++◌, codes}
use Rattle.std.specs.List.{flat_map}
use Rattle.sample_contracts.specs.declared.samples.Sample.{Sample}
use Rattle.sample_contracts.specs.declared.samples.Sample.TheVariants.{Swap, Auction, Call, Pool}

-- each line with its line feed
abbrev pub lines : List (List ℕ) → List ℕ
lines = flat_map (λ line. line ++ 10 ∷ [])

-- two parties trade; the first gets an invitation to hand on
abbrev pub swap_text : List ℕ
swap_text = lines (
    codes "let z = null; let first = null;" ∷
    codes "const second = (seat, args, data) => {" ∷
    codes "  z.atomicRearrange([[first, seat, first.getProposal().give], [seat, first, first.getProposal().want]]);" ∷
    codes "  first.exit(); seat.exit(); return 'done';" ∷
    codes "};" ∷
    codes "const open = (seat, args, data) => { first = seat; return z.makeInvitation(second, 'match', null); };" ∷
    codes "const start = (zcf, priv) => { z = zcf; return { creatorInvitation: zcf.makeInvitation(open, 'first', null) }; };" ∷ [])

-- bids are taken until the seller closes
abbrev pub auction_text : List ℕ
auction_text = lines (
    codes "let z = null; let sell = null; let bids = [];" ∷
    codes "const bid = (seat, args, data) => { bids = push(bids, seat); return 'bid'; };" ∷
    codes "const close = (data) => {" ∷
    codes "  const ask = sell.getProposal().want.Ask;" ∷
    codes "  let best = null; let top = ask.value - 1n; let pay = ask.value;" ∷
    codes "  for (const s of bids) { if (!s.hasExited()) {" ∷
    codes "    const v = s.getProposal().give.Bid.value;" ∷
    codes "    if (v > top) { if (best !== null) { pay = top; } top = v; best = s; } else if (v > pay) { pay = v; }" ∷
    codes "  } }" ∷
    codes "  if (best !== null) {" ∷
    codes "    const cost = AmountMath.make(ask.brand, pay);" ∷
    codes "    z.atomicRearrange([[sell, best, sell.getProposal().give], [best, sell, { Bid: cost }, { Ask: cost }]]);" ∷
    codes "  }" ∷
    codes "  sell.exit();" ∷
    codes "  for (const s of bids) { if (!s.hasExited()) { s.exit(); } }" ∷
    codes "  return 'closed';" ∷
    codes "};" ∷
    codes "const invite = (data) => { return z.makeInvitation(bid, 'bid', null); };" ∷
    codes "const open = (seat, args, data) => { sell = seat; return Far('auction', { invite: invite, close: close }, null); };" ∷
    codes "const start = (zcf, priv) => { z = zcf; return { creatorInvitation: zcf.makeInvitation(open, 'first', null) }; };" ∷ [])

-- a swap whose first offer has a deadline
abbrev pub call_text : List ℕ
call_text = lines (
    codes "let z = null; let first = null;" ∷
    codes "const second = (seat, args, data) => {" ∷
    codes "  z.atomicRearrange([[first, seat, first.getProposal().give], [seat, first, first.getProposal().want]]);" ∷
    codes "  first.exit(); seat.exit(); return 'done';" ∷
    codes "};" ∷
    codes "const open = (seat, args, data) => { const t = seat.getProposal().exit.afterDeadline.deadline; first = seat; return z.makeInvitation(second, 'match', null); };" ∷
    codes "const start = (zcf, priv) => { z = zcf; return { creatorInvitation: zcf.makeInvitation(open, 'first', null) }; };" ∷ [])

-- a pool of two brands, with a fee
abbrev pub pool_text : List ℕ
pool_text = lines (
    codes "let z = null; let pool = null;" ∷
    codes "const add = (seat, args, data) => { z.atomicRearrange([[seat, pool, seat.getProposal().give]]); seat.exit(); return 'added'; };" ∷
    codes "const swap = (seat, args, data) => {" ∷
    codes "  const g = seat.getProposal().give.In; const o = seat.getProposal().want.Out;" ∷
    codes "  const x = pool.getAmountAllocated('X', g.brand).value; const y = pool.getAmountAllocated('Y', o.brand).value;" ∷
    codes "  const i = g.value * 9970n;" ∷
    codes "  const out = AmountMath.make(o.brand, i * y / (x * 10000n + i));" ∷
    codes "  z.atomicRearrange([[seat, pool, { In: g }, { X: g }], [pool, seat, { Y: out }, { Out: out }]]);" ∷
    codes "  seat.exit(); return out;" ∷
    codes "};" ∷
    codes "const offers_add = (data) => { return z.makeInvitation(add, 'add', null); };" ∷
    codes "const offers_swap = (data) => { return z.makeInvitation(swap, 'swap', null); };" ∷
    codes "const start = (zcf, priv) => {" ∷
    codes "  z = zcf; pool = zcf.makeEmptySeatKit(null).zcfSeat;" ∷
    codes "  return { publicFacet: Far('pool', { add: offers_add, swap: offers_swap }, null) };" ∷
    codes "};" ∷ [])

abbrev pub text_of : Sample → List ℕ
text_of Swap = swap_text
text_of Auction = auction_text
text_of Call = call_text
text_of Pool = pool_text
