use Rattle.std.proofs.Common.{refl, ap, Err}
use Rattle.top_call.proofs.TurnTexts.{limit_past}
use Rattle.top_call.proofs.top.run_on.Goals as goal

pub returns-in-Ok-clause-says : goal.returns-in-Ok-clause-says
returns-in-Ok-clause-says g c = record {
  completes = record {
    journal = c.in-Ok.ensures.ok;
    fair = c.in-Ok.ensures.fair;
    short = c.in-Ok.ensures.short;
    within = record { bytes = c.requires.short; turns = c.in-Ok.ensures.few };
  };
  quiet = record { source = refl; sink = c.in-Ok.ensures.quiet (λ e. cc e) };
}

pub returns-in-Err-Failed-clause-says : goal.returns-in-Err-Failed-clause-says
returns-in-Err-Failed-clause-says g c =
    let failed = ap Err c.in-Err-Failed.field-0-is in
    record {
      breaks_off = record { front = c.in-Err-Failed.ensures.failed failed; bytes = c.requires.short };
      source = refl;
      sink = c.in-Err-Failed.ensures.cause failed;
    }

pub returns-in-Err-TurnLimit-clause-says : goal.returns-in-Err-TurnLimit-clause-says
returns-in-Err-TurnLimit-clause-says g c =
    let turns = c.in-Err-TurnLimit.ensures.limit (ap Err c.in-Err-TurnLimit.field-0-is) in
    record {
      stops = record { turns = turns; past = record { bytes = c.requires.short; turns = limit_past _ _ _ turns } };
      quiet = record { source = refl; sink = c.in-Err-TurnLimit.ensures.quiet (λ e. cc (c.in-Err-TurnLimit.field-0-is, e)) };
    }

pub returns-in-Err-NoMemory-clause-says : goal.returns-in-Err-NoMemory-clause-says
returns-in-Err-NoMemory-clause-says g c = record {
  turns = c.in-Err-NoMemory.ensures.memory (ap Err c.in-Err-NoMemory.field-0-is);
  quiet = record { source = refl; sink = c.in-Err-NoMemory.ensures.quiet (λ e. cc (c.in-Err-NoMemory.field-0-is, e)) };
}
