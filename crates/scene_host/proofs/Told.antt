-- What is told under a name.
use Rattle.std.proofs.Common.{◌≡◌, ◌∙◌, ℕ, Bool, true, false, ◌==◌, cond, List, [], ◌∷◌, ◌++◌, drop, length, refl, sym, ap, inl, inr, append_assoc, append-nil}
use Rattle.std.proofs.lemmas.Bool.{eq-eqb}
use Rattle.line_by_line.specs.Answers.{AreWholeLines}
use Rattle.scene_host.specs.Hosts.{mark_of}
use Rattle.scene_host.specs.Laws.{behind_mark, behind_marks, has_mark, told_under}
use Rattle.scene_host.specs.Marks.{marked, marked_from}

-- no line has nothing behind a mark
pub none_behind : (mark : List ℕ) → behind_mark mark [] ≡ []
none_behind [] = refl
none_behind (m ∷ ms) = refl

module _ (mark : List ℕ) where
  -- a text is told line by line
  split : (line x u : List ℕ) → behind_marks mark line (x ++ (10 ∷ u)) ≡ behind_marks mark line (x ++ 10 ∷ []) ++ behind_marks mark [] u
  split line [] u =
      let last : List ℕ = behind_mark mark (line ++ 10 ∷ []) in
      let all : last ++ behind_mark mark [] ≡ last = ap (λ (t : List ℕ). last ++ t) (none_behind mark) ∙ append-nil last in
      sym (ap (λ (t : List ℕ). t ++ behind_marks mark [] u) all)
  split line (b ∷ x) u = by (b == 10) (split [] x u) (split (line ++ b ∷ []) x u)
    where
      by : (ends : Bool) → behind_marks mark [] (x ++ (10 ∷ u)) ≡ behind_marks mark [] (x ++ 10 ∷ []) ++ behind_marks mark [] u
          → behind_marks mark (line ++ b ∷ []) (x ++ (10 ∷ u)) ≡ behind_marks mark (line ++ b ∷ []) (x ++ 10 ∷ []) ++ behind_marks mark [] u
          → cond ends (behind_mark mark (line ++ b ∷ []) ++ behind_marks mark [] (x ++ (10 ∷ u))) (behind_marks mark (line ++ b ∷ []) (x ++ (10 ∷ u)))
          ≡ cond ends (behind_mark mark (line ++ b ∷ []) ++ behind_marks mark [] (x ++ 10 ∷ [])) (behind_marks mark (line ++ b ∷ []) (x ++ 10 ∷ [])) ++ behind_marks mark [] u
      by true anew on =
          let this : List ℕ = behind_mark mark (line ++ b ∷ []) in
          ap (λ (t : List ℕ). this ++ t) anew ∙ sym (append_assoc this (behind_marks mark [] (x ++ 10 ∷ [])) (behind_marks mark [] u))
      by false anew on = on

-- behind whole lines it goes on
pub told_more : (name t u : List ℕ) → AreWholeLines t → told_under name (t ++ u) ≡ told_under name t ++ told_under name u
told_more name t u whole = elim whole [
  | inl none ↦ rw none (ap (λ (x : List ℕ). x ++ told_under name u) (sym (none_behind (mark_of name))))
  | inr (front, is) ↦ rw is (ap (told_under name) (append_assoc front (10 ∷ []) u) ∙ split (mark_of name) [] front u)
]

-- ---- marked texts

-- no byte is the end of a line
abbrev pub NoEnd : List ℕ → Type 0
NoEnd [] = Unit {0}
NoEnd (b ∷ bs) = ((b == 10) ≡ false) × NoEnd bs

-- bytes without an end are in the line
pub walk : (mark line m u : List ℕ) → NoEnd m → behind_marks mark line (m ++ u) ≡ behind_marks mark (line ++ m) u
walk mark line [] u none = ap (λ (l : List ℕ). behind_marks mark l u) (sym (append-nil line))
walk mark line (b ∷ m) u (goes_on, none) =
    rw goes_on (walk mark (line ++ b ∷ []) m u none ∙ ap (λ (l : List ℕ). behind_marks mark l u) (append_assoc line (b ∷ []) m))

same_byte : (m : ℕ) → (m == m) ≡ true
same_byte m = eq-eqb m m refl

-- a line with the mark has it
has_own : (mark t : List ℕ) → has_mark mark (mark ++ t) ≡ true
has_own [] t = refl
has_own (m ∷ ms) t = rw (same_byte m) (has_own ms t)

behind_own : (mark t : List ℕ) → behind_mark mark (mark ++ t) ≡ t
behind_own mark t = rw (has_own mark t) (drop-own mark)
  where
    drop-own : (ms : List ℕ) → drop (length ms) (ms ++ t) ≡ t
    drop-own [] = refl
    drop-own (m ∷ ms) = drop-own ms

module _ (mark : List ℕ) (none : NoEnd mark) where
  -- in front of the first byte stands the mark
  pub in_front : (c : ℕ) (r : List ℕ) → marked_from mark true (c ∷ r) ≡ mark ++ marked_from mark false (c ∷ r)
  in_front c r = append_assoc mark (c ∷ []) (marked_from mark (c == 10) r)

  begins : (c : ℕ) (r : List ℕ) → behind_marks mark (mark ++ []) (marked_from mark false (c ∷ r)) ≡ c ∷ r → behind_marks mark [] (marked_from mark true (c ∷ r)) ≡ c ∷ r
  begins c r on =
      ap (behind_marks mark []) (in_front c r) ∙ walk mark [] mark (marked_from mark false (c ∷ r)) none
      ∙ ap (λ (l : List ℕ). behind_marks mark l (marked_from mark false (c ∷ r))) (sym (append-nil mark)) ∙ on

  begins-front : (front : List ℕ) → behind_marks mark (mark ++ []) (marked_from mark false (front ++ 10 ∷ [])) ≡ front ++ 10 ∷ [] → behind_marks mark [] (marked_from mark true (front ++ 10 ∷ [])) ≡ front ++ 10 ∷ []
  begins-front [] on = begins 10 [] on
  begins-front (b ∷ front) on = begins b (front ++ 10 ∷ []) on

  -- behind the mark stands the line
  goes : (front seen : List ℕ) → behind_marks mark (mark ++ seen) (marked_from mark false (front ++ 10 ∷ [])) ≡ seen ++ (front ++ 10 ∷ [])
  goes [] seen =
      let this : behind_mark mark ((mark ++ seen) ++ 10 ∷ []) ≡ seen ++ 10 ∷ [] = ap (behind_mark mark) (append_assoc mark seen (10 ∷ [])) ∙ behind_own mark (seen ++ 10 ∷ []) in
      ap (λ (t : List ℕ). behind_mark mark ((mark ++ seen) ++ 10 ∷ []) ++ t) (none_behind mark) ∙ append-nil (behind_mark mark ((mark ++ seen) ++ 10 ∷ [])) ∙ this
  goes (b ∷ front) seen = by (b == 10) (begins-front front (goes front [])) (goes front (seen ++ b ∷ []))
    where
      rest : List ℕ
      rest = front ++ 10 ∷ []

      line_is : (mark ++ seen) ++ b ∷ [] ≡ mark ++ (seen ++ b ∷ [])
      line_is = append_assoc mark seen (b ∷ [])

      by : (ends : Bool) → behind_marks mark [] (marked_from mark true rest) ≡ rest
          → behind_marks mark (mark ++ (seen ++ b ∷ [])) (marked_from mark false rest) ≡ (seen ++ b ∷ []) ++ rest
          → cond ends (behind_mark mark ((mark ++ seen) ++ b ∷ []) ++ behind_marks mark [] (marked_from mark ends rest)) (behind_marks mark ((mark ++ seen) ++ b ∷ []) (marked_from mark ends rest))
          ≡ seen ++ (b ∷ rest)
      by true anew on =
          ap (λ (t : List ℕ). behind_mark mark t ++ behind_marks mark [] (marked_from mark true rest)) line_is
          ∙ ap (λ (t : List ℕ). t ++ behind_marks mark [] (marked_from mark true rest)) (behind_own mark (seen ++ b ∷ []))
          ∙ ap (λ (t : List ℕ). (seen ++ b ∷ []) ++ t) anew ∙ append_assoc seen (b ∷ []) rest
      by false anew on = ap (λ (l : List ℕ). behind_marks mark l (marked_from mark false rest)) line_is ∙ on ∙ append_assoc seen (b ∷ []) rest

  -- a text of whole lines is told by its mark
  pub marked-told : (text : List ℕ) → AreWholeLines text → behind_marks mark [] (marked mark text) ≡ text
  marked-told text whole = elim whole [
    | inl is ↦ rw is (none_behind mark)
    | inr (front, is) ↦ rw is (begins-front front (goes front []))
  ]
