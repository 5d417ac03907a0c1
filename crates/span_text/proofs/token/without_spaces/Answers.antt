use Rattle.span_text.proofs.TextCuts.TokenCuts.{spaces_utf8}
use Rattle.std.proofs.Common.{subst, sym}
use Rattle.std.specs.Str.{IsUtf8}
use Rattle.span_text.proofs.token.without_spaces.Goals as goal

pub unreachable-requires : goal.unreachable-requires
unreachable-requires c = c.in-Err.ensures.cases.0 (subst IsUtf8 (sym c.skip-rest.ensures.is) (spaces_utf8 _ c.as_bytes.ensures.utf8))
