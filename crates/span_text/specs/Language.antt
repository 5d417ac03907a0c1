-- Languages with values: which whole texts have which reading.
use Rattle.span_text.specs.Classes.{is_byte}
use Rattle.std.specs.Prelude.{◌≡◌, ℕ, ◌≤◌, Bool, true, false, ◌&&◌, List, [], ◌∷◌, ◌++◌, length, take, Result}
use Rattle.std.specs.Prelude.{Ok, Err, ◌⊎◌}

-- a relation between a whole text and what it means
abbrev pub Rel : Type 0 → Type 1
Rel A = List ℕ → A → Type 0

-- each byte is in the class
abbrev pub AllIn : (ℕ → Bool) → List ℕ → Type 0
AllIn c [] = Unit {0}
AllIn c (b ∷ x) = (c b ≡ true) × AllIn c x

-- each number is a byte's, as a test
abbrev pub are_bytes : List ℕ → Bool
are_bytes [] = true
are_bytes (b ∷ x) = is_byte b && are_bytes x

-- the same of a table's words
abbrev pub are_words : {K : Type 0} → List (List ℕ × K) → Bool
are_words [] = true
are_words (w ∷ ws) = are_bytes w.0 && are_words ws

-- the text is empty, or its first byte is outside the class
abbrev pub NotStart : (ℕ → Bool) → List ℕ → Type 0
NotStart c [] = Unit {0}
NotStart c (b ∷ x) = c b ≡ false

-- nothing more, with this value
abbrev pub End : {A : Type 0} → A → Rel A
End a s v = (s ≡ []) × (v ≡ a)

-- these bytes, and then a text of F
abbrev pub Lit : {A : Type 0} → List ℕ → Rel A → Rel A
Lit w F s v = (t : List ℕ) × (s ≡ w ++ t) × F t v

-- a byte of the class, and then a text of F at that byte
abbrev pub One : {A : Type 0} → (ℕ → Bool) → (ℕ → Rel A) → Rel A
One c F s v = (b : ℕ) × (t : List ℕ) × (s ≡ b ∷ t) × (c b ≡ true) × F b t v

-- bytes of the class, as many as stand there, and then a text of F at those
abbrev pub Run : {A : Type 0} → (ℕ → Bool) → (List ℕ → Rel A) → Rel A
Run c F s v = (x : List ℕ) × (t : List ℕ) × (s ≡ x ++ t) × AllIn c x × NotStart c t × F x t v

-- a text of F that doesn't begin with a byte of the class
abbrev pub Not : {A : Type 0} → (ℕ → Bool) → Rel A → Rel A
Not c F s v = NotStart c s × F s v

-- a text of F, or one of G
abbrev pub Or : {A : Type 0} → Rel A → Rel A → Rel A
Or F G s v = F s v ⊎ G s v

-- at most n bytes of the class, as many as stand there, and then a text of F at those
abbrev pub Few : {A : Type 0} → (ℕ → Bool) → ℕ → (List ℕ → Rel A) → Rel A
Few c n F s v = (x : List ℕ) × (t : List ℕ) × (s ≡ x ++ t) × AllIn c x × (length x ≤ n) × NotStart c t
    × F x t v

-- one of these words, each with its meaning, and then a text of F at that meaning
abbrev pub Words : {K A : Type 0} → List (List ℕ × K) → (K → Rel A) → Rel A
Words [] F s v = ⊥
Words (w ∷ ws) F s v = Lit w.0 (F w.1) s v ⊎ Words ws F s v

-- bytes that follow make this a text of R
abbrev pub Begins : {A : Type 0} → Rel A → List ℕ → Type 0
Begins {A} R p = (y : List ℕ) × (v : A) × AllIn is_byte y × R (p ++ y) v

-- The text isn't of R, and its longest front with which some text of R begins is followed by this many bytes.
pub record Stops {A : Type 0} (R : Rel A) (s : List ℕ) (m : ℕ) : Type 0 where
  pub outside : (v : A) → R s v → ⊥
  pub front : List ℕ
  pub left : List ℕ
  pub parts : s ≡ front ++ left
  pub count : length left ≡ m
  pub begins : Begins R front
  pub longest : (p q : List ℕ) → s ≡ p ++ q → Begins R p → m ≤ length q

-- The text's one reading, or where the text leaves R.
abbrev pub Answers : {A : Type 0} → Rel A → List ℕ → Result A ℕ → Type 0
Answers {A} R s (Ok v) = R s v × ((w : A) → R s w → w ≡ v)
Answers R s (Err m) = Stops R s m

-- The text isn't of R, and this is the length of its longest front with which some text of R begins.
pub record LeavesAt {A : Type 0} (R : Rel A) (s : List ℕ) (at : ℕ) : Type 0 where
  pub outside : (v : A) → R s v → ⊥
  pub within : at ≤ length s
  pub begins : Begins R (take at s)
  pub longest : (n : ℕ) → n ≤ length s → Begins R (take n s) → n ≤ at

-- a text of F, where the fact holds
abbrev pub Where : {A : Type 0} → Type 0 → Rel A → Rel A
Where P F s v = P × F s v
