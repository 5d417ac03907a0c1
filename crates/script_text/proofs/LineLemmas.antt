-- A line has its reader, whatever table of first words the grammar has.
use Rattle.std.proofs.Common.{◌≡◌, ℕ, true, false, List, [], length, Some, None, Result, Ok, Err, ◌⊎◌, inl, inr, ◌-◌, refl, sym, ◌∙◌, arith}
use Rattle.std.specs.Prelude.{codes}
use Rattle.span_text.specs.Language.{Rel, End, Lit, Or, Words, Begins, Stops, LeavesAt, Answers}
use Rattle.span_text.specs.Classes.{is_space}
use Rattle.span_text.specs.Reading.{◌>>=◌}
use Rattle.span_text.specs.Tokens.{Word, Sign, Name, Number, skip}
use Rattle.span_text.proofs.PieceLemmas.{Lives, begins, end_answers, lit_answers, or_answers}
use Rattle.span_text.proofs.TokensLemmas.{end_lives, name_lives, number_lives, whole_lives, right_lives, blanks_answers, lit_only, end_never, or_never, table_inside, table_apart, table_outside, words_lives, words_only, words_never}
use Rattle.span_text.proofs.Offsets.{answers_ok, answers_err, stops_leaves}
use Rattle.script_text.specs.Meaning.{Change, Said}
use Rattle.script_text.specs.Meaning as mean
use Rattle.script_text.specs.Grammar.{decimal, does_change, does_plain, is_any, Apart, ChangeText, PlainText, Any, Follows, LineOf, Line, words_of, change_words, changing_words, plain_words, new_change_words, new_plain_words}
use Rattle.script_text.specs.LineReading.{is_hash, apart_at, change_at, plain_at, changing_at, follows_at, said_at, content_at, line_at}
use Rattle.script_text.specs.declared.words.ChangeWord.{ChangeWord}
use Rattle.script_text.specs.declared.words.ChangeWord.TheVariants as change
use Rattle.script_text.specs.declared.words.PlainWord.{PlainWord}
use Rattle.script_text.specs.declared.words.PlainWord.TheVariants as plain
use Rattle.script_text.specs.declared.words.FirstWord.{FirstWord}
use Rattle.script_text.specs.declared.words.FirstWord.TheVariants as first
use Rattle.script_text.specs.declared.words.Version.{Version}
use Rattle.script_text.specs.declared.words.Version.TheVariants as version
use Rattle.script_text.proofs.SizeLemmas.{direction_lives, direction_answers, size_lives, size_answers}
use Rattle.script_text.proofs.Tables.{IsTable, table_answers}
use Rattle.script_text.proofs.ArgumentLemmas.{bare_answers, window_answers, budget_answers, named_answers, view_answers, metric_answers, sweep_lives, sweep_answers}
use Rattle.script_text.proofs.FormatLemmas.{made_lives, made_answers, vfl_lives, vfl_answers}
use Rattle.script_text.proofs.ConstraintLemmas.{linear_lives, constrain_answers}
use Rattle.script_text.proofs.TreeLemmas.{rest_lives, tree_answers, apart_lives, apart_answers, as_line}
use Rattle.script_text.proofs.SuggestionLemmas.{suggest_lives, suggest_answers, release_lives, release_answers}

-- a table of first words: each begins neither with a space nor with #
pub record AreCommands (words : List (List ℕ × FirstWord)) : Type 0 where
  pub table : IsTable words
  pub inside : table_inside is_any words ≡ true
  pub no_hash : table_apart is_hash words ≡ true

all_commands : (v : Version) → AreCommands (words_of v)
unfolding change_words plain_words new_change_words new_plain_words
all_commands version.One = record { table = record { full = refl; free = refl; bytes = refl }; inside = refl; no_hash = refl }
all_commands version.Two = record { table = record { full = refl; free = refl; bytes = refl }; inside = refl; no_hash = refl }

change_lives : (len : ℕ) (k : ChangeWord) → Lives is_space (ChangeText len k)
change_lives len change.View = name_lives is_space refl (λ n. right_lives is_space (Word (codes "in") (Name (λ p. End (mean.Views (mean.View n (Some p)))))) (end_lives is_space (mean.Views (mean.View n None))))
change_lives len change.Tree = rest_lives (λ t. mean.Views (mean.Tree t (len - length t)))
change_lives len change.Metric = name_lives is_space refl (λ n. right_lives is_space (Sign 45 (Number (λ v. End (mean.Update (mean.Metric n (decimal true v)))))) (number_lives is_space refl (λ v. end_lives is_space (mean.Update (mean.Metric n (decimal false v))))))
change_lives len change.Window = number_lives is_space refl (λ w. number_lives is_space refl (λ h. end_lives is_space (mean.Update (mean.Window (decimal false w) (decimal false h)))))
change_lives len change.Vfl = vfl_lives len
change_lives len change.Constrain = name_lives is_space refl linear_lives
change_lives len change.Suggest = suggest_lives len
change_lives len change.Size = size_lives len
change_lives len change.Drop = name_lives is_space refl (λ n. end_lives is_space (mean.Leave (mean.Drop n)))
change_lives len change.Remove = name_lives is_space refl (λ n. end_lives is_space (mean.Leave (mean.Remove n)))
change_lives len change.Release = release_lives len
change_lives len change.Unsize = name_lives is_space refl (λ n. end_lives is_space (mean.Leave (mean.Unsize n)))
change_lives len change.Direction = direction_lives len
change_lives len change.Keep = name_lives is_space refl (λ n. end_lives is_space (mean.Keep n))

plain_lives : (k : PlainWord) → Lives is_space (PlainText k)
plain_lives plain.Undo = end_lives is_space mean.Undo
plain_lives plain.Budget = whole_lives is_space refl (λ n. end_lives is_space (mean.Budget n))
plain_lives plain.Frames = end_lives is_space mean.Frames
plain_lives plain.Rows = end_lives is_space mean.Rows
plain_lives plain.Diagnose = end_lives is_space mean.Diagnose
plain_lives plain.Certify = end_lives is_space mean.Certify
plain_lives plain.Sweep = sweep_lives

change_answers : (len : ℕ) (k : ChangeWord) (s : List ℕ) → Answers (ChangeText len k) s (change_at len k s)
change_answers len change.View s = view_answers len s
change_answers len change.Tree s = tree_answers len s
change_answers len change.Metric s = metric_answers len s
change_answers len change.Window s = window_answers len s
change_answers len change.Vfl s = vfl_answers len s
change_answers len change.Constrain s = constrain_answers len s
change_answers len change.Suggest s = suggest_answers len s
change_answers len change.Size s = size_answers len s
change_answers len change.Drop s = named_answers (λ n. mean.Leave (mean.Drop n)) s
change_answers len change.Remove s = named_answers (λ n. mean.Leave (mean.Remove n)) s
change_answers len change.Release s = release_answers len s
change_answers len change.Unsize s = named_answers (λ n. mean.Leave (mean.Unsize n)) s
change_answers len change.Direction s = direction_answers len s
change_answers len change.Keep s = named_answers mean.Keep s

plain_answers : (k : PlainWord) (s : List ℕ) → Answers (PlainText k) s (plain_at k s)
plain_answers plain.Undo s = bare_answers mean.Undo s
plain_answers plain.Budget s = budget_answers s
plain_answers plain.Frames s = bare_answers mean.Frames s
plain_answers plain.Rows s = bare_answers mean.Rows s
plain_answers plain.Diagnose s = bare_answers mean.Diagnose s
plain_answers plain.Certify s = bare_answers mean.Certify s
plain_answers plain.Sweep s = sweep_answers s

-- ---- what follows the first word

changing_table : IsTable changing_words
unfolding change_words new_change_words
changing_table = record { full = refl; free = refl; bytes = refl }

changing_outside : table_outside is_space changing_words ≡ true
unfolding change_words new_change_words
changing_outside = refl

abbrev Changing : ℕ → Rel Change
Changing len = Words changing_words (λ k. Apart (ChangeText len k))

change_begins : (len : ℕ) (k : ChangeWord) → Begins (Apart (ChangeText len k)) []
change_begins len k = begins (apart_lives (change_lives len k))

changing_lives : (len : ℕ) → Lives is_space (Changing len)
changing_lives len = words_lives (λ k. Apart (ChangeText len k)) is_space changing_words changing_outside changing_table.bytes (change_begins len)

changing_answers : (len : ℕ) (s : List ℕ) → Answers (Changing len) s (changing_at len s)
unfolding changing_at
changing_answers len s = table_answers (λ k. Apart (ChangeText len k)) (λ k t. apart_at t >>= change_at len k) (change_begins len) s
    (λ k t h. apart_answers (ChangeText len k) (change_at len k) (change_lives len k) t (λ u i. change_answers len k u)) changing_words changing_table

follows_lives : (len : ℕ) (w : FirstWord) → Lives is_space (Follows len w)
follows_lives len (first.Change k) = made_lives does_change is_space (change_lives len k)
follows_lives len (first.Plain k) = made_lives does_plain is_space (plain_lives k)
follows_lives len first.Why = made_lives mean.Why is_space (changing_lives len)

follows_answers : (len : ℕ) (w : FirstWord) (s : List ℕ) → Answers (Follows len w) s (follows_at len w s)
follows_answers len (first.Change k) s = made_answers does_change (ChangeText len k) s (change_at len k s) (change_answers len k s)
follows_answers len (first.Plain k) s = made_answers does_plain (PlainText k) s (plain_at k s) (plain_answers k s)
follows_answers len first.Why s = made_answers mean.Why (Changing len) s (changing_at len s) (changing_answers len s)

-- ---- lines

any_answers : {A : Type 0} (a : A) (s : List ℕ) → Answers (Any a) s (Ok a)
any_answers a s = (refl, λ w h. h)

module _ (words : List (List ℕ × FirstWord)) (are : AreCommands words) where
  abbrev Saying : ℕ → Rel Said
  Saying len = Words words (λ w. Apart (Follows len w))

  said_answers : (len : ℕ) (s : List ℕ) → Answers (Saying len) s (said_at words len s)
  unfolding said_at
  said_answers len s = table_answers (λ w. Apart (Follows len w)) (λ w t. apart_at t >>= follows_at len w) (λ w. begins (apart_lives (follows_lives len w))) s
      (λ w t h. apart_answers (Follows len w) (follows_at len w) (follows_lives len w) t (λ u i. follows_answers len w u)) words are.table

  content_lives : (len : ℕ) → Lives is_space (Or (Saying len) (End mean.Nothing))
  content_lives len = right_lives is_space (Saying len) (end_lives is_space mean.Nothing)

  content_answers : (len : ℕ) (s : List ℕ) → Answers (Or (Lit (codes "#") (Any mean.Nothing)) (Or (Saying len) (End mean.Nothing))) s (content_at words len s)
  unfolding content_at
  content_answers len s = or_answers is_hash (Lit (codes "#") (Any mean.Nothing)) (Or (Saying len) (End mean.Nothing)) _ _
      (lit_only _ is_hash 35 [] refl) (or_never is_hash (Saying len) (End mean.Nothing) (words_never (λ w. Apart (Follows len w)) is_hash words are.no_hash) (end_never is_hash mean.Nothing))
      (begins (right_lives is_space (Lit (codes "#") (Any mean.Nothing)) (content_lives len))) s
      (lit_answers (Any mean.Nothing) (λ _. Ok mean.Nothing) ([], mean.Nothing, tt, refl) (codes "#") s refl (λ t h. any_answers mean.Nothing t))
      (or_answers is_any (Saying len) (End mean.Nothing) _ _ (words_only (λ w. Apart (Follows len w)) is_any words are.inside) (end_never is_any mean.Nothing) (begins (content_lives len)) s
      (said_answers len s) (end_answers mean.Nothing s))

  of_answers : (len : ℕ) (s : List ℕ) → Answers (LineOf words len) s (content_at words len (skip s))
  of_answers len s = blanks_answers (Or (Lit (codes "#") (Any mean.Nothing)) (Or (Saying len) (End mean.Nothing))) (content_at words len)
      (right_lives is_space (Lit (codes "#") (Any mean.Nothing)) (content_lives len)) s (λ t i. content_answers len t)

  pub line_answers : (s : List ℕ) → Answers (Line words) s (line_at words s)
  unfolding line_at
  line_answers s = as_line words s (content_at words (length s) (skip s)) (of_answers (length s) s)

-- what a reader's answer says of the line, by its case
pub line_ok : (version : Version) (s : List ℕ) (v : Said) → line_at (words_of version) s ≡ Ok v → Line (words_of version) s v × ((w : Said) → Line (words_of version) s w → w ≡ v)
line_ok version s v e = answers_ok (Line (words_of version)) s (line_at (words_of version) s) v (line_answers (words_of version) (all_commands version) s) e

pub line_err : (version : Version) (s : List ℕ) (m : ℕ) → line_at (words_of version) s ≡ Err m → Stops (Line (words_of version)) s m
line_err version s m e = answers_err (Line (words_of version)) s (line_at (words_of version) s) m (line_answers (words_of version) (all_commands version) s) e

pub one_reading : (version : Version) (s : List ℕ) (v w : Said) → Line (words_of version) s v → Line (words_of version) s w → v ≡ w
one_reading version s v w h i = one_reading_by (line_at (words_of version) s) (line_answers (words_of version) (all_commands version) s)
  where
    one_reading_by : (r : Result Said ℕ) → Answers (Line (words_of version)) s r → v ≡ w
    one_reading_by (Ok x) a = a.1 v h ∙ sym (a.1 w i)
    one_reading_by (Err m) a = absurd (a.outside v h)

pub one_offset : (version : Version) (s : List ℕ) (m n : ℕ) → LeavesAt (Line (words_of version)) s m → LeavesAt (Line (words_of version)) s n → m ≡ n
one_offset version s m n h i = omega (arith, h.longest n i.within i.begins, i.longest m h.within h.begins)

pub reads_or_leaves : (version : Version) (s : List ℕ) → ((m : Said) × Line (words_of version) s m) ⊎ ((at : ℕ) × LeavesAt (Line (words_of version)) s at)
reads_or_leaves version s = reads_or_leaves_by (line_at (words_of version) s) (line_answers (words_of version) (all_commands version) s)
  where
    reads_or_leaves_by : (r : Result Said ℕ) → Answers (Line (words_of version)) s r → ((m : Said) × Line (words_of version) s m) ⊎ ((at : ℕ) × LeavesAt (Line (words_of version)) s at)
    reads_or_leaves_by (Ok x) a = inl (x, a.0)
    reads_or_leaves_by (Err m) a = inr (length s - m, stops_leaves (Line (words_of version)) s m a)
