-- What reading a text says of it, by the answer.
use Rattle.std.proofs.Common.{◌≡◌, ℕ, List, Ok, Err, subst}
use Rattle.span_text.specs.Language.{Stops}
use Rattle.span_text.specs.declared.stop.PartStop.{PartStop}
use Rattle.span_text.specs.declared.stop.PartStop.TheVariants.{Left}
use Rattle.span_text.specs.GivesOrMemory.{LeavesOrMemory}
use Rattle.span_text.proofs.Offsets.{answers_ok, answers_err}
use Rattle.vfl_text.specs.Formats.{FormatMeaning}
use Rattle.vfl_text.specs.Grammar.{FormatText}
use Rattle.vfl_text.specs.Reading.{format_at}
use Rattle.vfl_text.proofs.FormatLemmas.{format_answers}

pub format_ok : (s t : List ℕ) (v : FormatMeaning) → t ≡ s → format_at t ≡ Ok v → FormatText s v × ((w : FormatMeaning) → FormatText s w → w ≡ v)
format_ok s t v same e = answers_ok FormatText s (format_at s) v (format_answers s) (subst (λ (x : List ℕ). format_at x ≡ Ok v) same e)

pub format_err : (s t : List ℕ) (e : PartStop) (m : ℕ) → t ≡ s → e ≡ Left m → LeavesOrMemory e (format_at t) → Stops FormatText s m
format_err s t e m same is h = answers_err FormatText s (format_at s) m (format_answers s) (subst (λ (x : List ℕ). format_at x ≡ Err m) same (subst (λ (x : PartStop). LeavesOrMemory x (format_at t)) is h))
