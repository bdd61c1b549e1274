use Rattle.escrow_calls.proofs.zmint.of_zmint.Goals as goal

pub returns-in-getIssuerRecord : goal.returns-in-getIssuerRecord
returns-in-getIssuerRecord c = rw c.in-getIssuerRecord.is (c.outcome_of_reading.ensures _ c.get_issuer_record.ensures)
