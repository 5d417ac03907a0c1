-- The multipliers of the required level, and what they refute.
use Rattle.std.proofs.Common.{◌≡◌, ◌∙◌, inl, inr, ℕ, zero, suc, ◌<◌, ◌≤◌, List, [], ◌∷◌, ◌++◌, map, length, get_or, ℤ, pos, ◌*ℤ◌, ◌≤ℤ◌, unsigned_abs, refl, sym, ap, subst, arith, All, Any}
use Rattle.std.proofs.lemmas.Bool.{cases_lt}
use Rattle.std.proofs.lemmas.List.Elements.{recursion_from_All, All-from_recursion}
use Rattle.frac_core.specs.Fraction.{IsFitting}
use Rattle.frac_core.specs.declared.frac.TheConstants.{PART_BOUND}
use Rattle.problem_core.specs.declared.parts.Mark.{Mark}
use Rattle.problem_core.specs.declared.parts.RowName.{RowName}
use Rattle.problem_core.specs.declared.parts.RowName.TheVariants.{Held}
use Rattle.problem_core.specs.declared.parts.Level.{Level}
use Rattle.problem_core.specs.declared.parts.Level.TheVariants.{Priority}
use Rattle.problem_core.specs.declared.stops.What.TheVariants.{Level as LevelOf}
use Rattle.problem_core.specs.Layout.{Line, Problem, Row, line_of_row, lines}
use Rattle.problem_core.specs.Certificates.{IsRefutation}
use Rattle.problem_core.specs.Corners.{AreMultipliersAt, column}
use Rattle.problem_core.specs.Levels.{CostsAbove, IsLevelWriting}
use Rattle.problem_core.specs.Changes.Paths.{NoNegativeRequired}
use Rattle.problem_core.proofs.Forms.{each-both, each-impl}
use Rattle.corner_laws.proofs.Swaps.ColumnsStay.{sums-AreMultipliersAt, together}
use Rattle.corner_laws.proofs.LevelCosts.Equal.{numbers_are_equal, writing-sum as writing-IsLevelSum}
use Rattle.corner_laws.proofs.LevelCosts.LevelExists.{level_writing_exists}
use Rattle.corner_laws.proofs.PathEnds.Refuting.{cost_refutes}
use Rattle.corner_view.specs.Seen.{HasNumbers, IsKeptCorner, IsNamed}
use Rattle.corner_ends.specs.Shares.{AreRequiredTimes}
use Rattle.corner_ends.proofs.Fronts.{level_0}
use Rattle.corner_ends.proofs.Signs.{columns_alike}
use Rattle.frac_core.proofs.Numbers.{up-carried as up-from}

-- ---- rows and their lines

-- a row is among the rows
pub row_among : (rows : List Row) (i : ℕ) (r : Row) → i < length rows → r ≡ get_or rows i r → Any (λ s. s.id ≡ r.id) rows
row_among rows i r within is = (i, r, within, sym is, refl)

row-line : (rows : List Row) (ls : List Line) (i : ℕ) (x : Row) (id : ℕ) → i < length rows → get_or rows i x ≡ x → x.id ≡ id → Any (λ l. l.name ≡ Held id) (map line_of_row rows ++ ls)
row-line [] ls i x id within is e = absurd (omega (arith, within))
row-line (r ∷ rows) ls zero x id within is e = (0, line_of_row r, omega arith, refl, ap (λ (s : Row). Held s.id) is ∙ ap (λ (n : ℕ). Held n) e)
row-line (r ∷ rows) ls (suc i) x id within is e =
    let t = row-line rows ls i x id (omega (arith, within)) is e in
    (suc t.0, t.1, (let less = t.2 in omega (arith, less)), t.3, t.4)

-- a row of the problem has a line there
pub row_named : (p : Problem) (id n : ℕ) → Any (λ r. r.id ≡ id) p.rows → n ≡ id → IsNamed p (Held n)
row_named p id n (i, x, within, is, e) same = row-line p.rows _ i x n within is (e ∙ sym same)

pub at-name : (P : RowName → Type 0) (ls : List Line) (name : RowName) → All (λ l. P l.name) ls → Any (λ l. l.name ≡ name) ls → P name
at-name P ls name all (i, x, within, is, e) = subst P (ap (λ (l : Line). l.name) is ∙ e) (all i x within)

-- ---- the multiplier of a row

abbrev Alike : (RowName → ℤ) → (RowName → ℤ) → RowName → Type 0
Alike t u name = t name ≡ u name

times-same : (p : Problem) (at : List Mark) (s t : ℕ) (y z : RowName → ℤ) (r q : ℕ → ℤ) (name : RowName) → IsKeptCorner p at → IsLevelWriting p at 0 s y r → IsLevelWriting p at 0 t z q → IsNamed p name → y name ≡ z name
times-same p at s t y z r q name kept v w named =
    at-name (Alike y z) (lines p) name (λ i d within. ((numbers_are_equal p at 0 s t y z r q kept.whole kept.rays v w).1 i d within).0) named

abbrev IsRequiredTimes : Problem → List Mark → RowName → ℤ → Type 0
IsRequiredTimes p at name z = (scale : ℕ) × (times : RowName → ℤ) × (reduced : ℕ → ℤ) × IsLevelWriting p at 0 scale times reduced × (z ≡ times name)

first-level : (p : Problem) (at : List Mark) (name : RowName) (z : ℤ) → HasNumbers p at (Priority 1000) (λ scale times reduced. z ≡ times name) → IsRequiredTimes p at name z
first-level p at name z (k, there, (scale, times, reduced, w, e)) =
    (scale, times, reduced, subst (λ (n : ℕ). IsLevelWriting p at n scale times reduced) (level_0 p k there) w, e)

pub times_at_first : (p : Problem) (at : List Mark) (level : Level) (name : RowName) (z : ℤ) → level ≡ Priority 1000 → HasNumbers p at level (λ scale times reduced. z ≡ times name) → IsRequiredTimes p at name z
times_at_first p at level name z e h = first-level p at name z (subst (λ (l : Level). HasNumbers p at l (λ scale times reduced. z ≡ times name)) e h)

-- all writings of the level have this one
pub times_are : (p : Problem) (at : List Mark) (id n : ℕ) (z : ℤ) (y : ℕ → ℤ) → IsKeptCorner p at → Any (λ r. r.id ≡ id) p.rows → n ≡ id → IsRequiredTimes p at (Held n) z → AreRequiredTimes p at y → z ≡ y id
times_are p at id n z y kept row same (s, t, r, w, e) are =
    e ∙ times-same p at s are.scale t are.times r are.reduced (Held n) kept w are.writing (row_named p id n row same)
    ∙ ap (λ (k : ℕ). are.times (Held k)) same ∙ sym (are.are id)

-- each quantity of the corner fits, and so do the level's multipliers
pub times_fit : (p : Problem) (at : List Mark) (id n : ℕ) (z : ℤ) → IsKeptCorner p at → Any (λ r. r.id ≡ id) p.rows → n ≡ id → IsRequiredTimes p at (Held n) z → IsFitting z
times_fit p at id n z kept row same (s, t, r, w, e) =
    elim (cases_lt (unsigned_abs z) PART_BOUND) [
      | inl less ↦ less
      | inr more ↦ absurd (kept.fits (LevelOf (Priority 1000)) (
        0,
        omega arith,
        λ scale times reduced value v cost fitting whole.
            let own : IsFitting (times (Held n)) = at-name (λ name. IsFitting (times name)) (lines p) (Held n) fitting.times_fit (row_named p id n row same) in
            let fits : IsFitting z = subst IsFitting (sym (e ∙ times-same p at s scale t times r reduced (Held n) kept w v (row_named p id n row same))) own in
            omega (arith, more, fits),
      ))
    ]

-- ---- what they refute

-- the level has multipliers
pub times_exist : (p : Problem) (at : List Mark) → IsKeptCorner p at → (y : ℕ → ℤ) × AreRequiredTimes p at y
times_exist p at kept =
    let w = level_writing_exists p at 0 kept.whole kept.corner kept.rays in
    ((λ id. w.1 (Held id)), record { scale = w.0; times = w.1; reduced = w.2; writing = w.3; are = λ id. refl })

-- where no column of the level is negative, and the required rows cost
pub required_refuted : (p : Problem) (at : List Mark) → IsKeptCorner p at → CostsAbove p at 0 → NoNegativeRequired p at → (y : ℕ → ℤ) × AreRequiredTimes p at y × IsRefutation p y
required_refuted p at kept above (q, is, up) =
    let ws = λ (k : ℕ). level_writing_exists p at k kept.whole kept.corner kept.rays in
    let m = together (λ k. (ws k).0) (λ k. (ws k).1) in
    let are : AreMultipliersAt p at m = sums-AreMultipliersAt p at (λ k. (ws k).0) (λ k. (ws k).1) (λ k. (ws k).2) (λ k. writing-IsLevelSum p at k (ws k).0 (ws k).1 (ws k).2 (ws k).3) in (
      (λ id. (ws 0).1 (Held id)),
      record { scale = (ws 0).0; times = (ws 0).1; reduced = (ws 0).2; writing = (ws 0).3; are = λ id. refl },
      cost_refutes p at m kept.whole are
          (λ side. All-from_recursion (λ l. pos 0 ≤ℤ column m side l 0) (lines p)
          (each-impl (λ l. (pos (q.scale 0) *ℤ column m side l 0 ≡ pos (m.scale 0) *ℤ column q side l 0) × (pos 0 ≤ℤ column q side l 0)) _ (lines p)
          (λ l h. up-from (q.scale 0) (m.scale 0) (column q side l 0) (column m side l 0) (is.scales 0) h.0 h.1)
          (each-both _ _ (lines p) (columns_alike p at q m side 0 kept.whole kept.rays is are) (recursion_from_All _ (lines p) (up side)))))
          above,
    )

-- ---- lists and results

pub same_within : {X : Type 0} (xs ys : List X) (i : ℕ) → xs ≡ ys → i < length xs → i < length ys
same_within xs ys i e h = subst (λ (zs : List _). i < length zs) e h

pub same_past : {X : Type 0} (xs ys : List X) (i : ℕ) → xs ≡ ys → length xs ≤ i → length ys ≤ i
same_past xs ys i e h = subst (λ (zs : List _). length zs ≤ i) e h

pub same_item : {X : Type 0} (xs ys : List X) (i : ℕ) (x : X) → xs ≡ ys → x ≡ get_or xs i x → x ≡ get_or ys i x
same_item xs ys i x e h = subst (λ (zs : List _). x ≡ get_or zs i x) e h
