-- The lines of a host have their readers.
use Rattle.std.proofs.Common.{◌≡◌, ℕ, List, [], Ok, Err, Bool, cond, refl}
use Rattle.std.specs.Prelude.{codes}
use Rattle.span_text.specs.Classes.{is_space}
use Rattle.span_text.specs.Language.{Rel, End, Lit, Or, Answers, Stops}
use Rattle.span_text.specs.Reading.{◌>>=◌, end_at, lit_at, starts}
use Rattle.span_text.specs.Tokens.{Name, name_at}
use Rattle.span_text.proofs.Offsets.{answers_err, answers_ok}
use Rattle.span_text.proofs.PieceLemmas.{Lives, begins, end_answers, lit_answers, or_answers}
use Rattle.span_text.proofs.TokensLemmas.{blanks_answers, end_lives, end_never, lit_lives, lit_only, name_answers, name_lives, right_lives}
use Rattle.scene_host.specs.Lines.{IsQuiet, NamedLine, QuietLine, Remains, is_hash, named_line_at, quiet_at}

remains_lives : {A : Type 0} (c : ℕ → Bool) (f : List ℕ → A) → Lives c (Remains f)
remains_lives c f = record { text = []; value = f []; apart = tt; bytes = tt; reads = refl }

remains_answers : {A : Type 0} (f : List ℕ → A) (s : List ℕ) → Answers (Remains f) s (Ok (f s))
remains_answers f s = (refl, λ w k. k)

-- what stands behind a name
abbrev After : List ℕ → Rel (List ℕ × List ℕ)
After n = Lit (codes ":") (Remains (λ t. (n, t)))

after_lives : (n : List ℕ) → Lives is_space (After n)
after_lives n = lit_lives is_space 58 [] refl refl (begins (remains_lives is_space (λ t. (n, t))))

after_answers : (n s : List ℕ) → Answers (After n) s (lit_at (codes ":") s >>= λ t. Ok (n, t))
after_answers n s = lit_answers (Remains (λ t. (n, t))) (λ t. Ok (n, t)) (begins (remains_lives is_space (λ t. (n, t)))) (codes ":") s refl (λ t h. remains_answers (λ u. (n, u)) t)

-- what is read of the line is all that it says
pub named_answers : (s : List ℕ) → Answers NamedLine s (named_line_at s)
unfolding named_line_at
named_answers s = blanks_answers (Name After) (λ t. name_at t >>= λ r. lit_at (codes ":") r.1 >>= λ u. Ok (r.0, u)) (name_lives is_space refl after_lives) s
    (λ t i. name_answers After (λ n u. lit_at (codes ":") u >>= λ w. Ok (n, w)) after_lives t (λ n u h. after_answers n u))

-- ---- lines that get no answer

abbrev Comment : Rel (Unit {0})
Comment = Lit (codes "#") (Remains (λ t. tt))

comment_answers : (s : List ℕ) → Answers Comment s (lit_at (codes "#") s >>= λ t. Ok tt)
comment_answers s = lit_answers (Remains (λ t. tt)) (λ t. Ok tt) (begins (remains_lives is_space (λ t. tt))) (codes "#") s refl (λ t h. remains_answers (λ u. tt) t)

either_lives : Lives is_space (Or Comment (End tt))
either_lives = right_lives is_space Comment (end_lives is_space tt)

quiet_answers : (s : List ℕ) → Answers QuietLine s (quiet_at s)
unfolding quiet_at
quiet_answers s = blanks_answers (Or Comment (End tt)) (λ t. cond (starts is_hash t) (lit_at (codes "#") t >>= λ u. Ok tt) (end_at t >>= λ u. Ok tt)) either_lives s
    (λ t i. or_answers is_hash Comment (End tt) (lit_at (codes "#") t >>= λ u. Ok tt) (end_at t >>= λ u. Ok tt) (lit_only (Remains (λ u. tt)) is_hash 35 [] refl) (end_never is_hash tt) (begins either_lives) t (comment_answers t) (end_answers tt t))

pub quiet_yes : (s : List ℕ) → quiet_at s ≡ Ok tt → IsQuiet s
quiet_yes s e = (answers_ok QuietLine s (quiet_at s) tt (quiet_answers s) e).0

pub quiet_no : (s : List ℕ) (m : ℕ) → quiet_at s ≡ Err m → IsQuiet s → ⊥
quiet_no s m e h = (answers_err QuietLine s (quiet_at s) m (quiet_answers s) e).outside tt h

-- ---- lines for a name

pub named_ok : (s : List ℕ) (v : List ℕ × List ℕ) → named_line_at s ≡ Ok v → NamedLine s v × ((w : List ℕ × List ℕ) → NamedLine s w → w ≡ v)
named_ok s v e = answers_ok NamedLine s (named_line_at s) v (named_answers s) e

pub named_err : (s : List ℕ) (m : ℕ) → named_line_at s ≡ Err m → Stops NamedLine s m
named_err s m e = answers_err NamedLine s (named_line_at s) m (named_answers s) e
