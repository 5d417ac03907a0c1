-- Stretches in the order of a slide, and by rising constant.
use Rattle.std.proofs.Common.{◌≡◌, ◌∙◌, ℕ, Bool, true, false, List, [], ◌∷◌, ◌++◌, refl, sym, ap, subst}
use Rattle.std.specs.List.{AllByRecursion as Each}
use Rattle.frac_core.specs.Fraction.{Fraction}
use Rattle.problem_core.specs.Layout.{Problem}
use Rattle.cert_core.specs.declared.by.By.{By}
use Rattle.sweep_laws.specs.Stretches.{AreRight, Clash, Cover, IsPieceOf, IsRightConflict, IsRightPiece, Piece, Stretch, end_of, no_piece_first, start_of}
use Rattle.sweep_run.specs.Slides.{CoverTo, clash_between, piece_between, rising}
use Rattle.sweep_run.proofs.Between.{IsRightBetween}

-- ---- one more

pub rising_more : (ss : List Stretch) (s : Stretch) → rising false (ss ++ s ∷ []) ≡ s ∷ rising false ss
rising_more [] s = refl
rising_more (t ∷ ss) s = ap (λ (xs : List Stretch). xs ++ t ∷ []) (rising_more ss s)

-- from the one constant to the other, by the way's direction
abbrev pub IsFromTo : Bool → Fraction → Fraction → Stretch → Type 0
IsFromTo true b c s = (start_of s ≡ b) × (end_of s ≡ c)
IsFromTo false b c s = (start_of s ≡ c) × (end_of s ≡ b)

pub piece_from_to : (up : Bool) (b c : Fraction) (at_b at_c : List (ℕ × Fraction)) → IsFromTo up b c (piece_between up b c at_b at_c)
piece_from_to true b c at_b at_c = (refl, refl)
piece_from_to false b c at_b at_c = (refl, refl)

pub clash_from_to : (up : Bool) (b c : Fraction) (by : List By) → IsFromTo up b c (clash_between up b c by)
clash_from_to true b c by = (refl, refl)
clash_from_to false b c by = (refl, refl)

cover-last : (a b c : Fraction) (s : Stretch) (ss : List Stretch) (t : Stretch) → Cover a b (s ∷ ss) → start_of t ≡ b → end_of t ≡ c → Cover a c (s ∷ ss ++ t ∷ [])
cover-last a b c s [] t (start, end) from to = (start, (from ∙ sym end, to))
cover-last a b c s (u ∷ ss) t (start, rest) from to = (start, cover-last (end_of s) b c u ss t rest from to)

cover-first : (a b c : Fraction) (xs : List Stretch) (t : Stretch) → Cover b a xs → start_of t ≡ c → end_of t ≡ b → Cover c a (t ∷ xs)
cover-first a b c [] t none from to = absurd none
cover-first a b c (x ∷ xs) t covers from to = (from, subst (λ (f : Fraction). Cover f a (x ∷ xs)) (sym to) covers)

pub cover_more : (up : Bool) (a b c : Fraction) (ss : List Stretch) (t : Stretch) → CoverTo up a b ss → IsFromTo up b c t → CoverTo up a c (ss ++ t ∷ [])
cover_more true a b c [] t same (from, to) = (from ∙ sym same, to)
cover_more false a b c [] t same (from, to) = (from, to ∙ sym same)
cover_more true a b c (s ∷ ss) t covers (from, to) = cover-last a b c s ss t covers from to
cover_more false a b c (s ∷ ss) t covers (from, to) = subst (Cover c a) (sym (rising_more (s ∷ ss) t)) (cover-first a b c (rising false (s ∷ ss)) t covers from to)

-- ---- pieces

each-more : (P : Stretch → Type 0) (ss : List Stretch) (s : Stretch) → Each P ss → P s → Each P (ss ++ s ∷ [])
each-more P [] s h own = (own, tt)
each-more P (t ∷ ss) s h own = (h.0, each-more P ss s h.1 own)

pub pieces_rising : (P : Stretch → Type 0) (ss : List Stretch) → Each P ss → Each P (rising false ss)
pieces_rising P [] h = tt
pieces_rising P (s ∷ ss) h = each-more P (rising false ss) s (pieces_rising P ss h.1) h.0

-- of pieces it doesn't matter whether the first start counts
pub counts_either : (p : Problem) (row : ℕ) (c d : Bool) (ss : List Stretch) → Each IsPieceOf ss → AreRight p row c ss → AreRight p row d ss
counts_either p row c d [] are h = tt
counts_either p row c d (Piece from to low high ∷ ss) are h = h
counts_either p row c d (Clash from to by ∷ ss) are h = absurd are.0

right-last : (p : Problem) (row : ℕ) (counts : Bool) (ss : List Stretch) (a b : Fraction) (low high : List (ℕ × Fraction)) → Each IsPieceOf ss → AreRight p row counts ss → IsRightPiece p row a b low high → AreRight p row counts (ss ++ Piece a b low high ∷ [])
right-last p row counts [] a b low high are h own = (own, tt)
right-last p row counts (Piece from to l k ∷ ss) a b low high are h own = (h.0, right-last p row false ss a b low high are.1 h.1 own)
right-last p row counts (Clash from to by ∷ ss) a b low high are h own = absurd are.0

-- a right piece more
pub right_piece_more : (p : Problem) (row : ℕ) (up : Bool) (ss : List Stretch) (a b : Fraction) (at_a at_b : List (ℕ × Fraction)) → Each IsPieceOf ss → AreRight p row true (rising up ss) → IsRightBetween p row up a b at_a at_b
    → AreRight p row true (rising up (ss ++ piece_between up a b at_a at_b ∷ []))
right_piece_more p row true ss a b at_a at_b are h own = right-last p row true ss a b at_a at_b are h own
right_piece_more p row false ss a b at_a at_b are h own =
    subst (AreRight p row true) (sym (rising_more ss (Piece b a at_b at_a))) (own, counts_either p row true false (rising false ss) (pieces_rising IsPieceOf ss are) h)

pub is_piece : (up : Bool) (a b : Fraction) (at_a at_b : List (ℕ × Fraction)) → IsPieceOf (piece_between up a b at_a at_b)
is_piece true a b at_a at_b = tt
is_piece false a b at_a at_b = tt

-- ---- a conflict behind them

clash-last : (p : Problem) (row : ℕ) (counts : Bool) (s : Stretch) (ss : List Stretch) (a b : Fraction) (by : List By) → Each IsPieceOf (s ∷ ss) → AreRight p row counts (s ∷ ss) → IsRightConflict p row a b false true by → AreRight p row counts (s ∷ ss ++ Clash a b by ∷ [])
clash-last p row counts (Clash from to k) ss a b by are h own = absurd are.0
clash-last p row counts (Piece from to l k) [] a b by are h own = (h.0, (own, tt))
clash-last p row counts (Piece from to l k) (t ∷ ss) a b by are h own = (h.0, clash-last p row false t ss a b by are.1 h.1 own)

no-clash-first : (xs : List Stretch) (s : Stretch) → Each IsPieceOf xs → IsPieceOf s → no_piece_first (xs ++ s ∷ []) ≡ false
no-clash-first [] (Piece from to l k) are own = refl
no-clash-first [] (Clash from to by) are own = absurd own
no-clash-first (Piece from to l k ∷ xs) s are own = refl
no-clash-first (Clash from to by ∷ xs) s are own = absurd are.0

-- the conflict from the one constant to the other refutes all but the first of these
abbrev pub IsRightClash : Problem → ℕ → Bool → Fraction → Fraction → List By → Type 0
IsRightClash p row true a b by = IsRightConflict p row a b false true by
IsRightClash p row false a b by = IsRightConflict p row b a true false by

pub right_clash_more : (p : Problem) (row : ℕ) (up : Bool) (s : Stretch) (ss : List Stretch) (a b : Fraction) (by : List By) → Each IsPieceOf (s ∷ ss) → AreRight p row true (rising up (s ∷ ss)) → IsRightClash p row up a b by
    → AreRight p row true (rising up (s ∷ ss ++ clash_between up a b by ∷ []))
right_clash_more p row true s ss a b by are h own = clash-last p row true s ss a b by are h own
right_clash_more p row false s ss a b by are h own =
    subst (AreRight p row true) (sym (rising_more (s ∷ ss) (Clash b a by))) (
      subst (λ (last : Bool). IsRightConflict p row b a true last by) (sym (no-clash-first (rising false ss) s (pieces_rising IsPieceOf ss are.1) are.0)) own,
      h,
    )
