use Rattle.std.proofs.Common.{◌≡◌, refl, ap}
use Rattle.script_text.specs.declared.words.AttrWord.TheVariants as word
use Rattle.format_compile.specs.FormatParts.{Span, parts}
use Rattle.format_compile.proofs.laws.some_courses.Goals as goal

pub returns : goal.returns
unfolding parts
returns c = record {
  near_ltr = refl;
  near_rtl = refl;
  between_ltr = refl;
  between_rtl = refl;
  far_ltr = refl;
  far_rtl = refl;
  down = refl;
  whole = refl;
  apart = λ e. let edges : word.Right ≡ word.Left = ap (λ (s : Span). s.plus.word) e in cc;
}
