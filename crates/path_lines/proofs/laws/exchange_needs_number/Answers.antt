use Rattle.path_lines.proofs.Walking.Bringing.{exchange_needs_number}
use Rattle.path_lines.proofs.laws.exchange_needs_number.Goals as goal

pub returns : goal.returns
returns c = exchange_needs_number
