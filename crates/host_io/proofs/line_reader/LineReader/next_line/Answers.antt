use Rattle.std.proofs.Common.{◌≡◌, ℕ, ◌+◌, ◌≤◌, ◌<◌, ◌++◌, false, length, take, sym, ap, subst, ◌∙◌, arith, append-nil, true≢false}
use Rattle.host_io.specs.LineReads.{IsOpen, LinesHeld, held_in, is_past, needs_nothing, text_length}
use Rattle.host_io.proofs.LineReads.{feeds_more, given_line, held_few, held_fits, held_grows, holds_most, last_few, last_gives, line_fits, line_within, needs_read, open_all, open_append, read_gives, smaller, whole_line}
use Rattle.host_io.proofs.line_reader.LineReader.next_line.Goals as goal

-- ---- a whole line is held

pub give-requires-clause-within : goal.give-requires-clause-within
give-requires-clause-within g c =
    let feedless : IsOpen c.loop-self.self.begun = subst IsOpen (ap (λ (r : LinesHeld). r.begun) c.self.view_is) c.self.invariant.0 in
    let rest : c.rest-rest.result.now ≡ c.loop-self.self.rest = c.rest-rest.ensures.bytes ∙ ap (λ (r : LinesHeld). r.rest) c.self.view_is in
    let past : is_past c.args.limit c.loop-self.self.given (held_in c.loop-self.self) ≡ false = sym c.is_past.ensures ∙ c.if-is_past.false in
    let text : c.text_length-text.result ≡ text_length c.loop-self.self.rest = c.text_length-text.ensures ∙ ap text_length rest in
    let len = ap length rest in
    let there : text_length c.loop-self.self.rest < length c.loop-self.self.rest = omega (arith, text, len, c.if-text-rest.true) in
    let fits = line_fits c.args.limit c.loop-self.self.given c.loop-self.self.begun c.loop-self.self.rest feedless past there in
    omega (arith, fits, text)

pub returns-then-text-rest-clause-few : goal.returns-then-text-rest-clause-few
returns-then-text-rest-clause-few g c =
    let feedless : IsOpen c.loop-self.self.begun = subst IsOpen (ap (λ (r : LinesHeld). r.begun) c.self.view_is) c.self.invariant.0 in
    let rest : c.rest-rest.result.now ≡ c.loop-self.self.rest = c.rest-rest.ensures.bytes ∙ ap (λ (r : LinesHeld). r.rest) c.self.view_is in
    let past : is_past c.args.limit c.loop-self.self.given (held_in c.loop-self.self) ≡ false = sym c.is_past.ensures ∙ c.if-is_past.false in
    let text : c.text_length-text.result ≡ text_length c.loop-self.self.rest = c.text_length-text.ensures ∙ ap text_length rest in
    let len = ap length rest in
    let there : text_length c.loop-self.self.rest < length c.loop-self.self.rest = omega (arith, text, len, c.if-text-rest.true) in
    let fits = line_fits c.args.limit c.loop-self.self.given c.loop-self.self.begun c.loop-self.self.rest feedless past there in
    let given = ap (λ (r : LinesHeld). r.given) c.in_ok-give.ensures.ok in
    omega (arith, fits, text, given)

pub returns-then-text-rest-clause-gives : goal.returns-then-text-rest-clause-gives
returns-then-text-rest-clause-gives g c =
    let feedless : IsOpen c.loop-self.self.begun = subst IsOpen (ap (λ (r : LinesHeld). r.begun) c.self.view_is) c.self.invariant.0 in
    let rest : c.rest-rest.result.now ≡ c.loop-self.self.rest = c.rest-rest.ensures.bytes ∙ ap (λ (r : LinesHeld). r.rest) c.self.view_is in
    let past : is_past c.args.limit c.loop-self.self.given (held_in c.loop-self.self) ≡ false = sym c.is_past.ensures ∙ c.if-is_past.false in
    let text : c.text_length-text.result ≡ text_length c.loop-self.self.rest = c.text_length-text.ensures ∙ ap text_length rest in
    let len = ap length rest in
    let there : text_length c.loop-self.self.rest < length c.loop-self.self.rest = omega (arith, text, len, c.if-text-rest.true) in
    let whole = whole_line _ _ feedless there in
    let is : c.in_ok-give.field-0.items ≡ c.loop-self.self.begun ++ take (text_length c.loop-self.self.rest + 1) c.loop-self.self.rest =
    c.in_ok-give.ensures.line ∙ ap (λ (n : ℕ). c.loop-self.self.begun ++ take (n + 1) c.loop-self.self.rest) text in
    given_line _ _ _ (record { text = whole.text; is = is ∙ whole.is; feedless = whole.feedless })

pub returns-then-text-rest-clause-limits : goal.returns-then-text-rest-clause-limits
returns-then-text-rest-clause-limits g c =
    let feedless : IsOpen c.loop-self.self.begun = subst IsOpen (ap (λ (r : LinesHeld). r.begun) c.self.view_is) c.self.invariant.0 in
    let rest : c.rest-rest.result.now ≡ c.loop-self.self.rest = c.rest-rest.ensures.bytes ∙ ap (λ (r : LinesHeld). r.rest) c.self.view_is in
    let past : is_past c.args.limit c.loop-self.self.given (held_in c.loop-self.self) ≡ false = sym c.is_past.ensures ∙ c.if-is_past.false in
    let text : c.text_length-text.result ≡ text_length c.loop-self.self.rest = c.text_length-text.ensures ∙ ap text_length rest in
    let len = ap length rest in
    let there : text_length c.loop-self.self.rest < length c.loop-self.self.rest = omega (arith, text, len, c.if-text-rest.true) in
    let is : c.in_ok-give.field-0.items ≡ c.loop-self.self.begun ++ take (text_length c.loop-self.self.rest + 1) c.loop-self.self.rest =
    c.in_ok-give.ensures.line ∙ ap (λ (n : ℕ). c.loop-self.self.begun ++ take (n + 1) c.loop-self.self.rest) text in
    let within = line_within c.args.limit c.loop-self.self.given c.loop-self.self.begun c.loop-self.self.rest feedless past there in
    ap (λ (n : ℕ). is_past c.args.limit n c.in_ok-give.field-0.items) (sym c.loop-self.invariant.given) ∙ ap (is_past c.args.limit c.loop-self.self.given) is ∙ within

-- ---- none is, and the source is at its end

pub give_last-requires-clause-feedless : goal.give_last-requires-clause-feedless
give_last-requires-clause-feedless g c =
    let feedless : IsOpen c.loop-self.self.begun = subst IsOpen (ap (λ (r : LinesHeld). r.begun) c.self.view_is) c.self.invariant.0 in
    let rest : c.rest-rest.result.now ≡ c.loop-self.self.rest = c.rest-rest.ensures.bytes ∙ ap (λ (r : LinesHeld). r.rest) c.self.view_is in
    let past : is_past c.args.limit c.loop-self.self.given (held_in c.loop-self.self) ≡ false = sym c.is_past.ensures ∙ c.if-is_past.false in
    let text : c.text_length-text.result ≡ text_length c.loop-self.self.rest = c.text_length-text.ensures ∙ ap text_length rest in
    let len = ap length rest in
    let all : length c.loop-self.self.rest ≤ text_length c.loop-self.self.rest = omega (arith, text, len, c.if-text-rest.false) in
    let feedless_rest : IsOpen c.loop-self.self.rest = open_all _ all in
    feedless_rest

pub give_last-requires-clause-within : goal.give_last-requires-clause-within
give_last-requires-clause-within g c =
    let feedless : IsOpen c.loop-self.self.begun = subst IsOpen (ap (λ (r : LinesHeld). r.begun) c.self.view_is) c.self.invariant.0 in
    let rest : c.rest-rest.result.now ≡ c.loop-self.self.rest = c.rest-rest.ensures.bytes ∙ ap (λ (r : LinesHeld). r.rest) c.self.view_is in
    let past : is_past c.args.limit c.loop-self.self.given (held_in c.loop-self.self) ≡ false = sym c.is_past.ensures ∙ c.if-is_past.false in
    let text : c.text_length-text.result ≡ text_length c.loop-self.self.rest = c.text_length-text.ensures ∙ ap text_length rest in
    let len = ap length rest in
    let all : length c.loop-self.self.rest ≤ text_length c.loop-self.self.rest = omega (arith, text, len, c.if-text-rest.false) in
    let feedless_rest : IsOpen c.loop-self.self.rest = open_all _ all in
    held_fits c.args.limit c.loop-self.self.given c.loop-self.self.begun c.loop-self.self.rest feedless past all

pub returns-then-self-clause-gives : goal.returns-then-self-clause-gives
returns-then-self-clause-gives g c =
    let feedless : IsOpen c.loop-self.self.begun = subst IsOpen (ap (λ (r : LinesHeld). r.begun) c.self.view_is) c.self.invariant.0 in
    let rest : c.rest-rest.result.now ≡ c.loop-self.self.rest = c.rest-rest.ensures.bytes ∙ ap (λ (r : LinesHeld). r.rest) c.self.view_is in
    let past : is_past c.args.limit c.loop-self.self.given (held_in c.loop-self.self) ≡ false = sym c.is_past.ensures ∙ c.if-is_past.false in
    let text : c.text_length-text.result ≡ text_length c.loop-self.self.rest = c.text_length-text.ensures ∙ ap text_length rest in
    let len = ap length rest in
    let all : length c.loop-self.self.rest ≤ text_length c.loop-self.self.rest = omega (arith, text, len, c.if-text-rest.false) in
    let feedless_rest : IsOpen c.loop-self.self.rest = open_all _ all in
    last_gives _ c.loop-self.self _ _ _ c.give_last.ensures.bytes c.give_last.ensures.some c.give_last.ensures.ok c.give_last.ensures.memory (open_append c.loop-self.self.begun c.loop-self.self.rest feedless feedless_rest) (c.loop-self.invariant.at_end (sym (ap (λ (r : LinesHeld). r.ended) c.self.view_is) ∙ c.if-self.true))

pub returns-then-self-clause-few : goal.returns-then-self-clause-few
returns-then-self-clause-few g c =
    let feedless : IsOpen c.loop-self.self.begun = subst IsOpen (ap (λ (r : LinesHeld). r.begun) c.self.view_is) c.self.invariant.0 in
    let rest : c.rest-rest.result.now ≡ c.loop-self.self.rest = c.rest-rest.ensures.bytes ∙ ap (λ (r : LinesHeld). r.rest) c.self.view_is in
    let past : is_past c.args.limit c.loop-self.self.given (held_in c.loop-self.self) ≡ false = sym c.is_past.ensures ∙ c.if-is_past.false in
    let text : c.text_length-text.result ≡ text_length c.loop-self.self.rest = c.text_length-text.ensures ∙ ap text_length rest in
    let len = ap length rest in
    let all : length c.loop-self.self.rest ≤ text_length c.loop-self.self.rest = omega (arith, text, len, c.if-text-rest.false) in
    let feedless_rest : IsOpen c.loop-self.self.rest = open_all _ all in
    last_few _ c.loop-self.self c.give_last.new.self c.give_last.ensures.ok c.give_last.ensures.err
    (held_fits c.args.limit c.loop-self.self.given c.loop-self.self.begun c.loop-self.self.rest feedless past all)

-- ---- none is, and there may be more

pub take_rest-requires-clause-feedless : goal.take_rest-requires-clause-feedless
take_rest-requires-clause-feedless g c =
    let feedless : IsOpen c.loop-self.self.begun = subst IsOpen (ap (λ (r : LinesHeld). r.begun) c.self.view_is) c.self.invariant.0 in
    let rest : c.rest-rest.result.now ≡ c.loop-self.self.rest = c.rest-rest.ensures.bytes ∙ ap (λ (r : LinesHeld). r.rest) c.self.view_is in
    let past : is_past c.args.limit c.loop-self.self.given (held_in c.loop-self.self) ≡ false = sym c.is_past.ensures ∙ c.if-is_past.false in
    let text : c.text_length-text.result ≡ text_length c.loop-self.self.rest = c.text_length-text.ensures ∙ ap text_length rest in
    let len = ap length rest in
    let all : length c.loop-self.self.rest ≤ text_length c.loop-self.self.rest = omega (arith, text, len, c.if-text-rest.false) in
    let feedless_rest : IsOpen c.loop-self.self.rest = open_all _ all in
    feedless_rest

pub take_rest-requires-clause-few : goal.take_rest-requires-clause-few
take_rest-requires-clause-few g c =
    let feedless : IsOpen c.loop-self.self.begun = subst IsOpen (ap (λ (r : LinesHeld). r.begun) c.self.view_is) c.self.invariant.0 in
    let rest : c.rest-rest.result.now ≡ c.loop-self.self.rest = c.rest-rest.ensures.bytes ∙ ap (λ (r : LinesHeld). r.rest) c.self.view_is in
    let past : is_past c.args.limit c.loop-self.self.given (held_in c.loop-self.self) ≡ false = sym c.is_past.ensures ∙ c.if-is_past.false in
    let text : c.text_length-text.result ≡ text_length c.loop-self.self.rest = c.text_length-text.ensures ∙ ap text_length rest in
    let len = ap length rest in
    let all : length c.loop-self.self.rest ≤ text_length c.loop-self.self.rest = omega (arith, text, len, c.if-text-rest.false) in
    let feedless_rest : IsOpen c.loop-self.self.rest = open_all _ all in
    let few = held_few c.args.limit c.loop-self.self.given c.loop-self.self.begun c.loop-self.self.rest feedless past all in
    let most = c.requires.limit in
    omega (arith, few, most)

pub loop-self-smaller : goal.loop-self-smaller
loop-self-smaller g c =
    let feedless : IsOpen c.loop-self.self.begun = subst IsOpen (ap (λ (r : LinesHeld). r.begun) c.self.view_is) c.self.invariant.0 in
    let rest : c.rest-rest.result.now ≡ c.loop-self.self.rest = c.rest-rest.ensures.bytes ∙ ap (λ (r : LinesHeld). r.rest) c.self.view_is in
    let past : is_past c.args.limit c.loop-self.self.given (held_in c.loop-self.self) ≡ false = sym c.is_past.ensures ∙ c.if-is_past.false in
    let text : c.text_length-text.result ≡ text_length c.loop-self.self.rest = c.text_length-text.ensures ∙ ap text_length rest in
    let len = ap length rest in
    let all : length c.loop-self.self.rest ≤ text_length c.loop-self.self.rest = omega (arith, text, len, c.if-text-rest.false) in
    let feedless_rest : IsOpen c.loop-self.self.rest = open_all _ all in
    let few = held_few c.args.limit c.loop-self.self.given c.loop-self.self.begun c.loop-self.self.rest feedless past all in
    let grows = held_grows c.loop-self.self c.take_rest.new.self c.read.new.self c.in_ok-take_rest.ensures.ok c.in_ok-read.ensures.same.0 in
    let ended : c.loop-self.self.ended ≡ false = sym (ap (λ (r : LinesHeld). r.ended) c.self.view_is) ∙ c.if-self.false in
    smaller c.args.limit c.loop-self.self c.read.new.self grows ended few c.in_ok-read.ensures.ended c.in_ok-read.ensures.more

pub loop-self-preserved : goal.loop-self-preserved
loop-self-preserved g c =
    let feedless : IsOpen c.loop-self.self.begun = subst IsOpen (ap (λ (r : LinesHeld). r.begun) c.self.view_is) c.self.invariant.0 in
    let rest : c.rest-rest.result.now ≡ c.loop-self.self.rest = c.rest-rest.ensures.bytes ∙ ap (λ (r : LinesHeld). r.rest) c.self.view_is in
    let past : is_past c.args.limit c.loop-self.self.given (held_in c.loop-self.self) ≡ false = sym c.is_past.ensures ∙ c.if-is_past.false in
    let text : c.text_length-text.result ≡ text_length c.loop-self.self.rest = c.text_length-text.ensures ∙ ap text_length rest in
    let len = ap length rest in
    let all : length c.loop-self.self.rest ≤ text_length c.loop-self.self.rest = omega (arith, text, len, c.if-text-rest.false) in
    let feedless_rest : IsOpen c.loop-self.self.rest = open_all _ all in
    let few = held_few c.args.limit c.loop-self.self.given c.loop-self.self.begun c.loop-self.self.rest feedless past all in
    let grows = held_grows c.loop-self.self c.take_rest.new.self c.read.new.self c.in_ok-take_rest.ensures.ok c.in_ok-read.ensures.same.0 in
    let ended : c.loop-self.self.ended ≡ false = sym (ap (λ (r : LinesHeld). r.ended) c.self.view_is) ∙ c.if-self.false in
    let needs = needs_read c.args.limit c.loop-self.self (open_append c.loop-self.self.begun c.loop-self.self.rest feedless feedless_rest) past ended in
    record {
      fed = feeds_more (g.S.Source.left c.args.source.now) (g.S.Source.left c.loop-self.source) (g.S.Source.left c.read.new.source) (held_in c.args.self.now) (held_in c.loop-self.self) c.read.new.self.rest (held_in c.read.new.self)
          c.loop-self.invariant.fed c.in_ok-read.ensures.bytes grows;
      given = c.in_ok-read.ensures.same.1 ∙ ap (λ (r : LinesHeld). r.given) c.in_ok-take_rest.ensures.ok ∙ c.loop-self.invariant.given;
      quiet = c.in_ok-read.ensures.cause.quiet ∙ c.loop-self.invariant.quiet;
      at_end = λ e. c.in_ok-read.ensures.at_end (c.in_ok-read.ensures.ended e);
      idle = λ e. absurd (true≢false (sym e ∙ ap (needs_nothing c.args.limit) (sym (c.loop-self.invariant.idle e).1) ∙ needs));
      holds = holds_most c.args.limit c.args.self.now c.loop-self.self c.read.new.self grows few c.in_ok-read.ensures.most;
    }

pub returns-in_err-read-clause-idle : goal.returns-in_err-read-clause-idle
returns-in_err-read-clause-idle g c =
    let feedless : IsOpen c.loop-self.self.begun = subst IsOpen (ap (λ (r : LinesHeld). r.begun) c.self.view_is) c.self.invariant.0 in
    let rest : c.rest-rest.result.now ≡ c.loop-self.self.rest = c.rest-rest.ensures.bytes ∙ ap (λ (r : LinesHeld). r.rest) c.self.view_is in
    let past : is_past c.args.limit c.loop-self.self.given (held_in c.loop-self.self) ≡ false = sym c.is_past.ensures ∙ c.if-is_past.false in
    let text : c.text_length-text.result ≡ text_length c.loop-self.self.rest = c.text_length-text.ensures ∙ ap text_length rest in
    let len = ap length rest in
    let all : length c.loop-self.self.rest ≤ text_length c.loop-self.self.rest = omega (arith, text, len, c.if-text-rest.false) in
    let feedless_rest : IsOpen c.loop-self.self.rest = open_all _ all in
    let ended : c.loop-self.self.ended ≡ false = sym (ap (λ (r : LinesHeld). r.ended) c.self.view_is) ∙ c.if-self.false in
    let needs = needs_read c.args.limit c.loop-self.self (open_append c.loop-self.self.begun c.loop-self.self.rest feedless feedless_rest) past ended in
    λ e. absurd (true≢false (sym e ∙ ap (needs_nothing c.args.limit) (sym (c.loop-self.invariant.idle e).1) ∙ needs))

pub returns-in_err-read-clause-gives : goal.returns-in_err-read-clause-gives
returns-in_err-read-clause-gives g c =
    let feedless : IsOpen c.loop-self.self.begun = subst IsOpen (ap (λ (r : LinesHeld). r.begun) c.self.view_is) c.self.invariant.0 in
    let rest : c.rest-rest.result.now ≡ c.loop-self.self.rest = c.rest-rest.ensures.bytes ∙ ap (λ (r : LinesHeld). r.rest) c.self.view_is in
    let past : is_past c.args.limit c.loop-self.self.given (held_in c.loop-self.self) ≡ false = sym c.is_past.ensures ∙ c.if-is_past.false in
    let text : c.text_length-text.result ≡ text_length c.loop-self.self.rest = c.text_length-text.ensures ∙ ap text_length rest in
    let len = ap length rest in
    let all : length c.loop-self.self.rest ≤ text_length c.loop-self.self.rest = omega (arith, text, len, c.if-text-rest.false) in
    let feedless_rest : IsOpen c.loop-self.self.rest = open_all _ all in
    let kept : held_in c.read.new.self ≡ c.loop-self.self.begun ++ c.loop-self.self.rest =
    ap held_in c.in_err-read.ensures.err.1 ∙ ap held_in c.in_ok-take_rest.ensures.ok ∙ append-nil _ in
    read_gives _ _ _ c.from_residual-in_err-read.ensures.0 (subst IsOpen (sym kept) (open_append c.loop-self.self.begun c.loop-self.self.rest feedless feedless_rest))
