use Rattle.host_text.proofs.Decimal.{number_in-signed_decimal}
use Rattle.host_text.proofs.number.write_number.Goals as goal

pub returns-clause-read_back : goal.returns-clause-read_back
returns-clause-read_back c = number_in-signed_decimal c.args.number c.ranges.number
