-- Stretches that are right, one behind the other.
use Rattle.std.proofs.Common.{ℕ, Bool, true, false, ◌&&◌, List, [], ◌∷◌, ◌++◌, sym, subst, append_assoc, Some}
use Rattle.frac_core.specs.Fraction.{Fraction}
use Rattle.frac_core.proofs.Bools.{true-not-false}
use Rattle.problem_core.specs.Layout.{Problem}
use Rattle.cert_core.specs.declared.by.By.{By}
use Rattle.sweep_laws.specs.Stretches.{AreRight, Clash, IsRightConflict, IsRightPiece, Piece, Stretch, no_piece_first}
use Rattle.sweep_param.specs.Joining.{lone_of}
use Rattle.sweep_run.specs.Slides.{led_by, rising}

abbrev Values : Type 0
Values = List (ℕ × Fraction)

-- behind a piece a conflict's start needn't count
first-any : (p : Problem) (row : ℕ) (f t : Fraction) (first last : Bool) (by : List By) → IsRightConflict p row f t true last by → IsRightConflict p row f t first last by
first-any p row f t first last by h = record {
  upwards = h.upwards;
  each = λ w low within. h.each w low (record { lower = within.lower; upper = within.upper; not_first = λ e. absurd (true-not-false e); not_last = within.not_last });
}

pub right-any : (p : Problem) (row : ℕ) (xs : List Stretch) → AreRight p row true xs → AreRight p row false xs
right-any p row [] h = tt
right-any p row (Piece f t ls hs ∷ xs) h = h
right-any p row (Clash f t by ∷ xs) h = (first-any p row f t false (no_piece_first xs) by h.0, h.1)

-- another piece, and what is behind it
pub right-swapped : (p : Problem) (row : ℕ) (counts : Bool) (xs : List Stretch) (f t g u : Fraction) (ls hs ks js : Values) (more rest : List Stretch) → AreRight p row counts (xs ++ (Piece f t ls hs ∷ more))
    → IsRightPiece p row g u ks js → AreRight p row false rest → AreRight p row counts (xs ++ (Piece g u ks js ∷ rest))
right-swapped p row counts [] f t g u ls hs ks js more rest h piece behind = (piece, behind)
right-swapped p row counts (Piece a b vs ws ∷ xs) f t g u ls hs ks js more rest h piece behind = (h.0, right-swapped p row false xs f t g u ls hs ks js more rest h.1 piece behind)
right-swapped p row counts (Clash a b by ∷ []) f t g u ls hs ks js more rest h piece behind = (h.0, (piece, behind))
right-swapped p row counts (Clash a b by ∷ Piece c d vs ws ∷ xs) f t g u ls hs ks js more rest h piece behind =
    (h.0, right-swapped p row true (Piece c d vs ws ∷ xs) f t g u ls hs ks js more rest h.1 piece behind)
right-swapped p row counts (Clash a b by ∷ Clash c d by2 ∷ xs) f t g u ls hs ks js more rest h piece behind =
    (h.0, right-swapped p row true (Clash c d by2 ∷ xs) f t g u ls hs ks js more rest h.1 piece behind)

-- the piece there is right
pub the-piece : (p : Problem) (row : ℕ) (counts : Bool) (xs : List Stretch) (f t : Fraction) (ls hs : Values) (more : List Stretch) → AreRight p row counts (xs ++ (Piece f t ls hs ∷ more)) → IsRightPiece p row f t ls hs
the-piece p row counts [] f t ls hs more h = h.0
the-piece p row counts (Piece a b vs ws ∷ xs) f t ls hs more h = the-piece p row false xs f t ls hs more h.1
the-piece p row counts (Clash a b by ∷ xs) f t ls hs more h = the-piece p row true xs f t ls hs more h.1

-- both slides' stretches, where there are values on both sides
pub both-right : (p : Problem) (row : ℕ) (w z : Fraction) (v u : Values) (down up : List Stretch) → AreRight p row true (rising false (led_by false w (Some v) down)) → AreRight p row true (led_by true z (Some u) up)
    → AreRight p row true (rising false down ++ (lone_of (no_piece_first down && no_piece_first up) (Some (w, v)) (Some (z, u)) ++ up))
both-right p row w z v u [] [] hd hu = hd
both-right p row w z v u [] (Piece f t ls hs ∷ up) hd hu = hu
both-right p row w z v u [] (Clash f t by ∷ up) hd hu = (hd.0, hu.1)
both-right p row w z v u (Piece a b ks js ∷ down) [] hd hu =
    subst (AreRight p row true) (sym (append_assoc (rising false down) (Piece a b ks js ∷ []) []))
    (right-swapped p row true (rising false down) a b a b ks js ks js [] [] hd (the-piece p row true (rising false down) a b ks js [] hd) tt)
both-right p row w z v u (Piece a b ks js ∷ down) (Piece f t ls hs ∷ up) hd hu =
    subst (AreRight p row true) (sym (append_assoc (rising false down) (Piece a b ks js ∷ []) (Piece f t ls hs ∷ up)))
    (right-swapped p row true (rising false down) a b a b ks js ks js [] (Piece f t ls hs ∷ up) hd (the-piece p row true (rising false down) a b ks js [] hd) hu)
both-right p row w z v u (Piece a b ks js ∷ down) (Clash f t by ∷ up) hd hu =
    subst (AreRight p row true) (sym (append_assoc (rising false down) (Piece a b ks js ∷ []) (Clash f t by ∷ up)))
    (right-swapped p row true (rising false down) a b a b ks js ks js [] (Clash f t by ∷ up) hd (the-piece p row true (rising false down) a b ks js [] hd) hu.1)
both-right p row w z v u (Clash a b by ∷ down) [] hd hu = hd
both-right p row w z v u (Clash a b by ∷ down) (Piece f t ls hs ∷ up) hd hu =
    right-swapped p row true (rising false (Clash a b by ∷ down)) w w f t v v ls hs [] up hd hu.0 hu.1
both-right p row w z v u (Clash a b by ∷ down) (Clash f t by2 ∷ up) hd hu =
    right-swapped p row true (rising false (Clash a b by ∷ down)) w w w w v v v v [] (Clash f t by2 ∷ up) hd (the-piece p row true (rising false (Clash a b by ∷ down)) w w v v [] hd) hu.1
