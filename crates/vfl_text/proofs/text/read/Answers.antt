use Rattle.std.proofs.Common.{sym}
use Rattle.span_text.proofs.Offsets.{stops_within, stops_leaves}
use Rattle.vfl_text.specs.Grammar.{FormatText}
use Rattle.vfl_text.proofs.FormatReads.{format_ok, format_err}
use Rattle.vfl_text.proofs.WritableTexts.{format_writable}
use Rattle.vfl_text.proofs.text.read.Goals as goal

pub overflow_sub-result : goal.overflow_sub-result
overflow_sub-result c = stops_within FormatText c.args.text.now _ (format_err _ _ _ _ c.as_bytes.ensures.value c.in-Err-Left.field-0-is c.in-Err-Left.ensures)

pub returns-in-Ok-clause-sound : goal.returns-in-Ok-clause-sound
returns-in-Ok-clause-sound c = (format_ok _ _ _ c.as_bytes.ensures.value c.in-Ok.ensures).0

pub returns-in-Ok-clause-complete : goal.returns-in-Ok-clause-complete
returns-in-Ok-clause-complete c = λ m h. sym ((format_ok _ _ _ c.as_bytes.ensures.value c.in-Ok.ensures).1 m h)

pub returns-in-Err-Left-clause-complete : goal.returns-in-Err-Left-clause-complete
returns-in-Err-Left-clause-complete c = λ m h. absurd ((format_err _ _ _ _ c.as_bytes.ensures.value c.in-Err-Left.field-0-is c.in-Err-Left.ensures).outside m h)

pub returns-in-Err-Left-clause-stops : goal.returns-in-Err-Left-clause-stops
returns-in-Err-Left-clause-stops c = stops_leaves FormatText c.args.text.now _ (format_err _ _ _ _ c.as_bytes.ensures.value c.in-Err-Left.field-0-is c.in-Err-Left.ensures)

pub returns-in-Ok-clause-writable : goal.returns-in-Ok-clause-writable
returns-in-Ok-clause-writable c = format_writable c.args.text.now _ (format_ok _ _ _ c.as_bytes.ensures.value c.in-Ok.ensures).0
