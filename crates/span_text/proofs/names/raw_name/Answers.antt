use Rattle.std.proofs.lemmas.Str.{IsUtf8-from_ascii}
use Rattle.span_text.proofs.TextCuts.Ascii.{name_ascii}
use Rattle.span_text.proofs.names.raw_name.Goals as goal

pub unreachable-requires : goal.unreachable-requires
unreachable-requires c = c.in-Err.ensures.cases.0 (IsUtf8-from_ascii _ (name_ascii _ _ _ c.in_ok-name.ensures.gives))
