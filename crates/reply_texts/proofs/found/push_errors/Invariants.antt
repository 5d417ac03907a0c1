use Rattle.std.proofs.Common.{◌≡◌, ◌++◌, take, flat_map}
use Rattle.reply_texts.specs.Found.{error_line}
use Rattle.reply_texts.proofs.found.push_errors.Given as goal

abbrev pub invariant-loop-error : goal.invariant-loop-error
invariant-loop-error l = l.out.items ≡ l.fn.out.items ++ flat_map error_line (take l.error-index l.errors)
