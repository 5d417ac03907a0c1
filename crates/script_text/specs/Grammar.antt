-- The lines of a script, by the cases of their grammar. The text after a construct is its last argument.
use Rattle.std.specs.Prelude.{◌≡◌, ℕ, ◌-◌, Bool, true, false, not, List, [], ◌∷◌, ◌++◌, length, Option, Some}
use Rattle.std.specs.Prelude.{None, codes, pos, map, Result}
use Rattle.span_text.specs.Bytes.{at_sign, minus, plus, star}
use Rattle.span_text.specs.Classes.{is_space}
use Rattle.span_text.specs.Language.{Rel, End, Lit, One, Not, Or, Words}
use Rattle.span_text.specs.Loops.{Loop}
use Rattle.span_text.specs.Tokens.{Blanks, Tail, Word, Sign, Name, RawName, Number, Whole, Ratio}
use Rattle.span_text.specs.Objects.{Meant}
use Rattle.span_text.specs.Objects as object
use Rattle.span_text.specs.declared.limits.TheConstants.{UNIT}
use Rattle.frac_core.specs.Fraction.{Fraction}
use Rattle.vfl_text.specs.Grammar.{FormatText, relations}
use Rattle.script_text.specs.Fractions.{lowest}
use Rattle.script_text.specs.Meaning.{Operand, Term, Linear, Change, Plain, Said}
use Rattle.script_text.specs.Meaning as mean
use Rattle.script_text.specs.declared.words.ChangeWord.{ChangeWord}
use Rattle.script_text.specs.declared.words.ChangeWord.TheVariants as change
use Rattle.script_text.specs.declared.words.PlainWord.{PlainWord}
use Rattle.script_text.specs.declared.words.PlainWord.TheVariants as plain
use Rattle.script_text.specs.declared.words.FirstWord.{FirstWord}
use Rattle.script_text.specs.declared.words.FirstWord.TheVariants as first
use Rattle.script_text.specs.declared.words.Align.{Align}
use Rattle.script_text.specs.declared.words.Align.TheVariants as align
use Rattle.script_text.specs.declared.words.AttrWord.{AttrWord}
use Rattle.script_text.specs.declared.words.AttrWord.TheVariants as attr
use Rattle.script_text.specs.declared.words.Direction.{Direction}
use Rattle.script_text.specs.declared.words.Direction.TheVariants as direction
use Rattle.script_text.specs.declared.words.Version.{Version}
use Rattle.script_text.specs.declared.words.Version.TheVariants as version
use Rattle.span_text.specs.Reading.{either, read_word}
use Rattle.problem_core.specs.declared.parts.Rel as parts

-- the words of changes, in both versions
unfoldable pub change_words : List (List ℕ × ChangeWord)
change_words = (codes "view", change.View) ∷ (codes "tree", change.Tree) ∷ (codes "drop", change.Drop)
    ∷ (codes "metric", change.Metric) ∷ (codes "window", change.Window) ∷ (codes "vfl", change.Vfl)
    ∷ (codes "constrain", change.Constrain) ∷ (codes "remove", change.Remove)
    ∷ (codes "suggest", change.Suggest) ∷ (codes "release", change.Release) ∷ []

-- the words of the other commands, in both versions
unfoldable pub plain_words : List (List ℕ × PlainWord)
plain_words = (codes "undo", plain.Undo) ∷ (codes "budget", plain.Budget) ∷ (codes "frames", plain.Frames)
    ∷ (codes "rows", plain.Rows) ∷ (codes "diagnose", plain.Diagnose) ∷ (codes "certify", plain.Certify) ∷ []

-- the words of changes that only version 2 has
unfoldable pub new_change_words : List (List ℕ × ChangeWord)
new_change_words = (codes "direction", change.Direction) ∷ (codes "size", change.Size)
    ∷ (codes "unsize", change.Unsize) ∷ (codes "keep", change.Keep) ∷ []

-- the word of the other command that only version 2 has
unfoldable pub new_plain_words : List (List ℕ × PlainWord)
new_plain_words = (codes "sweep", plain.Sweep) ∷ []

-- the words of all changes of version 2
abbrev pub changing_words : List (List ℕ × ChangeWord)
changing_words = change_words ++ new_change_words

-- the words of all other commands of version 2
abbrev pub all_plain_words : List (List ℕ × PlainWord)
all_plain_words = plain_words ++ new_plain_words

-- a change's word as the first of a line
abbrev pub change_first : List ℕ × ChangeWord → List ℕ × FirstWord
change_first w = (w.0, first.Change w.1)

-- the word of another command as the first of a line
abbrev pub plain_first : List ℕ × PlainWord → List ℕ × FirstWord
plain_first w = (w.0, first.Plain w.1)

-- the words of these commands as the first of a line
abbrev pub command_words : List (List ℕ × ChangeWord) → List (List ℕ × PlainWord) → List (List ℕ × FirstWord)
command_words changes others = map change_first changes ++ map plain_first others

-- the first words of lines in this version: in version 2 `why`, and those of its commands
abbrev pub words_of : Version → List (List ℕ × FirstWord)
words_of version.One = command_words change_words plain_words
words_of version.Two = (codes "why", first.Why) ∷ command_words changing_words all_plain_words

-- each word is tried before r
abbrev pub over : {K : Type 0} → List (List ℕ × K) → List ℕ → Result (K × List ℕ) ℕ → Result (K × List ℕ) ℕ
over [] s r = r
over (w ∷ ws) s r = either (read_word w.0 w.1 s) (over ws s r)

-- the directions as they are written
unfoldable pub directions : List (List ℕ × Direction)
directions = (codes "ltr", direction.Ltr) ∷ (codes "rtl", direction.Rtl) ∷ []

-- the alignments as they are written
unfoldable pub alignments : List (List ℕ × Align)
alignments = (codes "left", align.Left) ∷ (codes "right", align.Right) ∷ (codes "top", align.Top)
    ∷ (codes "bottom", align.Bottom) ∷ (codes "centerX", align.CenterX) ∷ (codes "centerY", align.CenterY)
    ∷ []

-- the attributes as they are written
unfoldable pub attributes : List (List ℕ × AttrWord)
attributes = (codes "left", attr.Left) ∷ (codes "top", attr.Top) ∷ (codes "width", attr.Width)
    ∷ (codes "height", attr.Height) ∷ (codes "right", attr.Right) ∷ (codes "bottom", attr.Bottom)
    ∷ (codes "centerX", attr.CenterX) ∷ (codes "centerY", attr.CenterY) ∷ (codes "leading", attr.Leading)
    ∷ (codes "trailing", attr.Trailing) ∷ []

-- an attribute as it is written
abbrev pub word_text : AttrWord → List ℕ
word_text attr.Left = codes "left"
word_text attr.Top = codes "top"
word_text attr.Width = codes "width"
word_text attr.Height = codes "height"
word_text attr.Right = codes "right"
word_text attr.Bottom = codes "bottom"
word_text attr.CenterX = codes "centerX"
word_text attr.CenterY = codes "centerY"
word_text attr.Leading = codes "leading"
word_text attr.Trailing = codes "trailing"

-- thousandths as a fraction
abbrev pub decimal : Bool → ℕ → Fraction
decimal is_negative n = lowest is_negative n UNIT

-- a name, a point and an attribute, with no space between them
abbrev pub Attribute : {A : Type 0} → (List ℕ → AttrWord → Rel A) → Rel A
Attribute F = RawName (λ n. Lit (codes ".") (Words attributes (λ w. Tail (F n w))))

-- an attribute of a view, or the name of a metric
abbrev pub Variable : {A : Type 0} → (Operand → Rel A) → Rel A
Variable F = Or (Attribute (λ n w. F (mean.Attr n w))) (Name (λ n. F (mean.Metric n)))

-- so many times the operand
abbrev pub times : Fraction → Operand → Term
times by of = record { by = by; of = of }

-- a multiplied variable, a variable, or a number
abbrev pub TermText : {A : Type 0} → Bool → (Term → Rel A) → Rel A
TermText is_negative F = Or (Variable (λ o. F (times (lowest is_negative 1 1) o)))
    (Or (Number (λ n. Or (Sign star (Variable (λ o. F (times (decimal is_negative n) o))))
    (F (times (decimal is_negative n) mean.One))))
    (Ratio (λ p q. Sign star (Variable (λ o. F (times (lowest is_negative p q) o))))))

-- after some terms
abbrev pub Behind : {A : Type 0} → (List Term → Rel A) → (List Term → Rel A) → List Term → Rel A
Behind F G terms = Or (Sign plus (TermText false (λ t. G (terms ++ t ∷ []))))
    (Or (Sign minus (TermText true (λ t. G (terms ++ t ∷ [])))) (F terms))

-- terms with + and - between them, and perhaps - in front
abbrev pub Expression : {A : Type 0} → (List Term → Rel A) → Rel A
Expression F = Or (Sign minus (TermText true (λ t. Loop (Behind F) (t ∷ []))))
    (TermText false (λ t. Loop (Behind F) (t ∷ [])))

-- a relation, and the blanks after it
abbrev pub Relation : {A : Type 0} → (parts.Rel → Rel A) → Rel A
Relation F = Words relations (λ r. Blanks (F r))

-- the text of a priority: a name or a number
abbrev pub Ranked : {A : Type 0} → (Option Meant → Rel A) → Rel A
Ranked F = Or (Name (λ n. F (Some (object.Name n)))) (Number (λ n. F (Some (object.Number (pos n)))))

-- `@` and a name or a number, or no priority
abbrev pub Priority : {A : Type 0} → (Option Meant → Rel A) → Rel A
Priority F = Or (Sign at_sign (Ranked F)) (F None)

-- this word and a priority, or neither
abbrev pub Pull : {A : Type 0} → List ℕ → (Option Meant → Rel A) → Rel A
Pull w F = Or (Word w (Ranked F)) (F None)

-- `weight` and a whole number, or the weight 1
abbrev pub Weight : {A : Type 0} → (ℕ → Rel A) → Rel A
Weight F = Or (Word (codes "weight") (Whole (λ n. F n))) (F 1)

-- the line of these two sides, this relation, this priority and this weight
abbrev pub linear : List Term → parts.Rel → List Term → Option Meant → ℕ → Linear
linear l r e p w = record { left = l; rel = r; right = e; priority = p; weight = w }

-- two expressions with a relation between them, and perhaps a priority and a weight
abbrev pub LinearText : (Linear → Rel Change) → Rel Change
LinearText F = Expression (λ l. Relation (λ r. Expression (λ e.
    Priority (λ p. Weight (λ w. F (linear l r e p w))))))

-- a value, and perhaps a priority
abbrev pub Suggestion : List ℕ → AttrWord → Bool → Rel Change
Suggestion n w is_negative = Number (λ v. Priority (λ p.
    End (mean.Update (mean.Suggest n w (decimal is_negative v) p))))

-- a text of F, whose value is made of F's value
abbrev pub Made : {M A : Type 0} → (M → A) → Rel M → Rel A
Made {M} f F s v = (m : M) × F s m × (v ≡ f m)

-- a format of this group with this alignment
abbrev pub FormatLine : List ℕ → Option Align → Rel Change
FormatLine n a = Made (λ f. mean.Update (mean.Vfl n a f)) FormatText

-- any byte
abbrev pub is_any : ℕ → Bool
is_any b = true

-- all that follows, at least one byte
abbrev pub Rest : {A : Type 0} → (List ℕ → A) → Rel A
Rest f = One is_any (λ b t v. v ≡ f (b ∷ t))

-- The text after the word of a change in a line of this length. The text of a tree runs to the line's end.
abbrev pub ChangeText : ℕ → ChangeWord → Rel Change
ChangeText len change.View = Name (λ n. Or (Word (codes "in")
    (Name (λ p. End (mean.Views (mean.View n (Some p)))))) (End (mean.Views (mean.View n None))))
ChangeText len change.Tree = Rest (λ t. mean.Views (mean.Tree t (len - length t)))
ChangeText len change.Metric = Name (λ n. Or
    (Sign minus (Number (λ v. End (mean.Update (mean.Metric n (decimal true v))))))
    (Number (λ v. End (mean.Update (mean.Metric n (decimal false v))))))
ChangeText len change.Window = Number (λ w. Number (λ h.
    End (mean.Update (mean.Window (decimal false w) (decimal false h)))))
ChangeText len change.Vfl = Name (λ n. Or (Word (codes "align")
    (Words alignments (λ a. Tail (FormatLine n (Some a))))) (FormatLine n None))
ChangeText len change.Constrain = Name (λ n. LinearText (λ l. End (mean.Update (mean.Constrain n l))))
ChangeText len change.Suggest = Attribute (λ n w.
    Or (Sign minus (Suggestion n w true)) (Suggestion n w false))
ChangeText len change.Size = Name (λ n. Number (λ w. Number (λ h. Pull (codes "hug") (λ p.
    Pull (codes "resist") (λ q.
    End (mean.Update (mean.Size n (decimal false w) (decimal false h) p q)))))))
ChangeText len change.Drop = Name (λ n. End (mean.Leave (mean.Drop n)))
ChangeText len change.Remove = Name (λ n. End (mean.Leave (mean.Remove n)))
ChangeText len change.Release = Attribute (λ n w. End (mean.Leave (mean.Release n w)))
ChangeText len change.Unsize = Name (λ n. End (mean.Leave (mean.Unsize n)))
ChangeText len change.Direction = Words directions (λ d. Tail (End (mean.Turn d)))
ChangeText len change.Keep = Name (λ n. End (mean.Keep n))

-- the text after the word of another command
abbrev pub PlainText : PlainWord → Rel Plain
PlainText plain.Undo = End mean.Undo
PlainText plain.Budget = Whole (λ n. End (mean.Budget n))
PlainText plain.Frames = End mean.Frames
PlainText plain.Rows = End mean.Rows
PlainText plain.Diagnose = End mean.Diagnose
PlainText plain.Certify = End mean.Certify
PlainText plain.Sweep = Word (codes "width") (Number (λ a. Number (λ b.
    End (mean.Sweep (decimal false a) (decimal false b)))))

-- whatever follows
abbrev pub Any : {A : Type 0} → A → Rel A
Any a s v = v ≡ a

-- a byte other than a space or a tab
abbrev pub is_no_space : ℕ → Bool
is_no_space b = not (is_space b)

-- After the first word: if more follows, a space is before it.
abbrev pub Apart : {A : Type 0} → Rel A → Rel A
Apart F = Not is_no_space (Blanks F)

-- a line asks for this change
abbrev pub does_change : Change → Said
does_change c = mean.Does (mean.Changes c)

-- a line is this other command
abbrev pub does_plain : Plain → Said
does_plain c = mean.Does (mean.Other c)

-- The text after the first word of a line of this length. After `why` there is a change.
abbrev pub Follows : ℕ → FirstWord → Rel Said
Follows len (first.Change k) = Made does_change (ChangeText len k)
Follows len (first.Plain k) = Made does_plain (PlainText k)
Follows len first.Why = Made mean.Why (Words changing_words (λ k. Apart (ChangeText len k)))

-- a line of this length: a comment, one whose first word is one of these, or a blank line
abbrev pub LineOf : List (List ℕ × FirstWord) → ℕ → Rel Said
LineOf words len = Blanks (Or (Lit (codes "#") (Any mean.Nothing))
    (Or (Words words (λ w. Apart (Follows len w))) (End mean.Nothing)))

-- a line and its meaning
unfoldable pub Line : List (List ℕ × FirstWord) → Rel Said
Line words line = LineOf words (length line) line

-- the line with which a script of version 2 begins: the words `layout` and `2`
unfoldable pub VersionLine : Rel (Unit {0})
VersionLine = Blanks (Lit (codes "layout") (Apart (Lit (codes "2") (Tail (End tt)))))
