-- The lines of the two versions: a line of version 1 is one of version 2, and the same are blank or comments.
use Rattle.std.proofs.Common.{ℕ, Bool, true, false, List, [], ◌∷◌, ◌++◌, length, map, ap, inl, inr, true≢false}
use Rattle.span_text.specs.Language.{Rel, Words}
use Rattle.script_text.specs.Grammar.{Apart, Follows, Line, change_words, command_words, new_change_words, new_plain_words, plain_first, plain_words, words_of}
use Rattle.script_text.specs.Meaning.{Said}
use Rattle.script_text.specs.Meaning as mean
use Rattle.script_text.specs.declared.words.ChangeWord.{ChangeWord}
use Rattle.script_text.specs.declared.words.FirstWord.{FirstWord}
use Rattle.script_text.specs.declared.words.FirstWord.TheVariants as first
use Rattle.script_text.specs.declared.words.PlainWord.{PlainWord}
use Rattle.script_text.specs.declared.words.Version.{Version}
use Rattle.script_text.specs.declared.words.Version.TheVariants as version

-- ---- tables of words

module _ {A : Type 0} (F : FirstWord → Rel A) (s : List ℕ) (v : A) where
  -- a text of a table is one of a longer table
  longer_plain : (ws more : List (List ℕ × PlainWord)) → Words (map plain_first ws) F s v → Words (map plain_first (ws ++ more)) F s v
  longer_plain [] more h = absurd h
  longer_plain (w ∷ ws) more (inl h) = inl h
  longer_plain (w ∷ ws) more (inr h) = inr (longer_plain ws more h)

  behind : (front : List (List ℕ × ChangeWord)) (others : List (List ℕ × PlainWord)) → Words (map plain_first others) F s v → Words (command_words front others) F s v
  behind [] others h = h
  behind (w ∷ ws) others h = inr (behind ws others h)

  longer : (changes more : List (List ℕ × ChangeWord)) (others rest : List (List ℕ × PlainWord)) → Words (command_words changes others) F s v → Words (command_words (changes ++ more) (others ++ rest)) F s v
  longer [] more others rest h = behind more (others ++ rest) (longer_plain others rest h)
  longer (w ∷ ws) more others rest (inl h) = inl h
  longer (w ∷ ws) more others rest (inr h) = inr (longer ws more others rest h)

-- ---- blank lines and comments

abbrev is_blank : Said → Bool
is_blank mean.Nothing = true
is_blank _ = false

-- what follows a first word says something
follows_says : (len : ℕ) (w : FirstWord) (s : List ℕ) → Follows len w s mean.Nothing → ⊥
follows_says len (first.Change k) s (m, h, e) = true≢false (ap is_blank e)
follows_says len (first.Plain k) s (m, h, e) = true≢false (ap is_blank e)
follows_says len first.Why s (m, h, e) = true≢false (ap is_blank e)

apart_says : (len : ℕ) (w : FirstWord) (s : List ℕ) → Apart (Follows len w) s mean.Nothing → ⊥
apart_says len w s (start, (x, t, is, all, ends, h)) = follows_says len w t h

words_say : (ws : List (List ℕ × FirstWord)) (len : ℕ) (s : List ℕ) → Words ws (λ w. Apart (Follows len w)) s mean.Nothing → ⊥
words_say [] len s h = h
words_say (w ∷ ws) len s (inl (t, is, h)) = apart_says len w.1 t h
words_say (w ∷ ws) len s (inr h) = words_say ws len s h

-- a line of version 1 says the same in each version
pub line_later : (v : Version) (line : List ℕ) (said : Said) → Line (words_of version.One) line said → Line (words_of v) line said
unfolding Line
line_later version.One line said h = h
line_later version.Two line said (x, t, is, spaces, start, inl comment) = (x, t, is, spaces, start, inl comment)
line_later version.Two line said (x, t, is, spaces, start, inr (inl command)) =
    (x, t, is, spaces, start, inr (inl (inr (longer (λ w. Apart (Follows (length line) w)) t said change_words new_change_words plain_words new_plain_words command))))
line_later version.Two line said (x, t, is, spaces, start, inr (inr blank)) = (x, t, is, spaces, start, inr (inr blank))

-- a line that is blank or a comment in one version is so in version 1
pub blank_before : (v : Version) (line : List ℕ) → Line (words_of v) line mean.Nothing → Line (words_of version.One) line mean.Nothing
unfolding Line
blank_before v line (x, t, is, spaces, start, inl comment) = (x, t, is, spaces, start, inl comment)
blank_before v line (x, t, is, spaces, start, inr (inl command)) = absurd (words_say (words_of v) (length line) t command)
blank_before v line (x, t, is, spaces, start, inr (inr blank)) = (x, t, is, spaces, start, inr (inr blank))
