use Rattle.std.proofs.Common.{ap, sym, List, ℕ}
use Rattle.span_text.proofs.Offsets.{stops_leaves, stops_within}
use Rattle.scene_host.specs.Lines.{NamedLine}
use Rattle.scene_host.proofs.NamedLines.{named_err, named_ok}
use Rattle.scene_host.proofs.named_line.read_named.Goals as goal

pub overflow_sub-result : goal.overflow_sub-result
overflow_sub-result c = stops_within NamedLine c.args.line.now _ (named_err c.args.line.now _ c.in-Err.ensures.gives)

pub returns-in-Ok-clause-sound : goal.returns-in-Ok-clause-sound
returns-in-Ok-clause-sound c = (named_ok c.args.line.now _ c.in-Ok.ensures.gives).0

pub returns-in-Ok-clause-one : goal.returns-in-Ok-clause-one
returns-in-Ok-clause-one c = λ name rest h.
    let same = (named_ok c.args.line.now _ c.in-Ok.ensures.gives).1 (name, rest) h in
    (sym (ap (λ (p : List ℕ × List ℕ). p.0) same), sym (ap (λ (p : List ℕ × List ℕ). p.1) same))

pub returns-in-Err-clause-offset : goal.returns-in-Err-clause-offset
returns-in-Err-clause-offset c = stops_leaves NamedLine c.args.line.now _ (named_err c.args.line.now _ c.in-Err.ensures.gives)
