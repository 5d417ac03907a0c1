-- A conflict refutes each problem that is seen alike and whose required rows cost at the same marks.
use Rattle.std.proofs.Common.{◌≡◌, ◌≢◌, ◌∙◌, ◌⊎◌, inl, inr, ℕ, zero, suc, ◌+◌, ◌*◌, ◌≤◌, ◌<◌, ◌++◌, List, [], ◌∷◌, map, get_or, ℤ, pos, negsuc, ◌*ℤ◌, ◌<ℤ◌, ◌≤ℤ◌, mul-pos, unsigned_abs, refl, sym, ap, ap₂, subst, arith, All, Any}
use Rattle.std.specs.Int.{◌∣◌}
use Rattle.std.specs.List.{AllByRecursion as Each}
use Rattle.std.proofs.lemmas.List.Elements.{recursion_from_All, All-from_recursion}
use Rattle.frac_core.proofs.Integers.{mul_positive, positive_from}
use Rattle.frac_core.proofs.Lists.{each-from_map, each-onto_map}
use Rattle.frac_core.proofs.Numbers.{up-carried as up-from}
use Rattle.problem_core.specs.declared.parts.Mark.{Mark}
use Rattle.problem_core.specs.declared.parts.RowName.TheVariants.{Held, Stay as StayOf}
use Rattle.problem_core.specs.declared.parts.Side.{Side}
use Rattle.problem_core.specs.declared.parts.Side.TheVariants.{Under, Over}
use Rattle.problem_core.specs.declared.parts.Stay.{Stay}
use Rattle.problem_core.specs.Layout.{IsProblem, Line, Problem, Row, common, line_of_row, line_of_stay, lines, rank_level, stay_lines}
use Rattle.problem_core.specs.Kept.{IsRow, IsWhole}
use Rattle.problem_core.specs.Certificates.{IsRefutation, Multipliers, constant}
use Rattle.problem_core.specs.Corners.{AreMultipliersAt, column, one_column}
use Rattle.problem_core.specs.Levels.{CostsAbove, cost_at, scales}
use Rattle.problem_core.specs.Changes.Paths.{NoNegativeRequired}
use Rattle.problem_core.proofs.Corners.Conflicts.{end-IsRefutation}
use Rattle.problem_core.proofs.Forms.{each-both, each-impl, product-positive}
use Rattle.cert_core.specs.declared.by.By.{By}
use Rattle.cert_core.specs.Claims.{times_of}
use Rattle.cert_core.specs.Stops.{IsShownConflict}
use Rattle.corner_laws.proofs.Swaps.ColumnsStay.{sums-AreMultipliersAt, together}
use Rattle.corner_laws.proofs.LevelCosts.Equal.{writing-sum as writing-IsLevelSum}
use Rattle.corner_laws.proofs.LevelCosts.LevelExists.{level_writing_exists}
use Rattle.corner_laws.proofs.PathEnds.Refuting.{constant_there}
use Rattle.corner_laws.proofs.ZeroColumns.{scales-above}
use Rattle.corner_lines.specs.Fronts.{constantless}
use Rattle.corner_lines.specs.Shifts.{AreSeenAlike}
use Rattle.corner_view.specs.Seen.{IsKeptCorner}
use Rattle.corner_view.proofs.Seen.SeenColumns.{multipliers_seen}
use Rattle.corner_view.proofs.Seen.SeenLines.{each_seen}
use Rattle.corner_ends.specs.Shares.{AreRequiredTimes, AreShares, IsDivisor, IsGreatest}
use Rattle.corner_ends.proofs.ShownTimes.{shown_conflict}
use Rattle.corner_ends.proofs.Signs.{columns_alike}

-- ---- the rows of problems that are seen alike

abbrev pair : ℕ → ℕ → ℕ × ℕ
pair a b = (a, b)

-- the row's number and its level
abbrev key : Row → ℕ × ℕ
key r = pair r.id (rank_level r.rank)

no-row : (A : Type 0) (attr id : ℕ) (l m : Line) (ls ms : List Line) → l ∷ ls ≡ m ∷ ms → l.name ≡ StayOf attr → m.name ≡ Held id → A
no-row A attr id l m ls ms e stay held = cc

same-keys : (xs ys : List Row) (n : ℕ) (ss ts : List Stay) → map constantless (map line_of_row xs ++ stay_lines n ss) ≡ map constantless (map line_of_row ys ++ stay_lines n ts) → map key xs ≡ map key ys
same-keys [] [] n ss ts e = refl
same-keys [] (y ∷ ys) n [] ts e = cc
same-keys [] (y ∷ ys) n (s ∷ ss) ts e =
    no-row (map key [] ≡ map key (y ∷ ys)) s.attr y.id (constantless (line_of_stay n s)) (constantless (line_of_row y)) (map constantless (stay_lines (n + 1) ss)) (map constantless (map line_of_row ys ++ stay_lines n ts)) e refl refl
same-keys (x ∷ xs) [] n ss [] e = cc
same-keys (x ∷ xs) [] n ss (t ∷ ts) e =
    no-row (map key (x ∷ xs) ≡ map key []) t.attr x.id (constantless (line_of_stay n t)) (constantless (line_of_row x)) (map constantless (stay_lines (n + 1) ts)) (map constantless (map line_of_row xs ++ stay_lines n ss)) (sym e) refl refl
same-keys (x ∷ xs) (y ∷ ys) n ss ts e =
    ap₂ (λ (k : ℕ × ℕ) (ks : List (ℕ × ℕ)). k ∷ ks)
    (key-of (constantless (line_of_row x)) (constantless (line_of_row y)) (map constantless (map line_of_row xs ++ stay_lines n ss)) (map constantless (map line_of_row ys ++ stay_lines n ts)) e x.id y.id refl refl)
    (same-keys xs ys n ss ts (tail-of (constantless (line_of_row x)) (constantless (line_of_row y)) (map constantless (map line_of_row xs ++ stay_lines n ss)) (map constantless (map line_of_row ys ++ stay_lines n ts)) e))
  where
    held-id : (a b : ℕ) → Held a ≡ Held b → a ≡ b
    held-id a b e = cc

    head-of : (l m : Line) (ls ms : List Line) → l ∷ ls ≡ m ∷ ms → l ≡ m
    head-of l m ls ms e = cc

    tail-of : (l m : Line) (ls ms : List Line) → l ∷ ls ≡ m ∷ ms → ls ≡ ms
    tail-of l m ls ms e = cc

    key-of : (l m : Line) (ls ms : List Line) → l ∷ ls ≡ m ∷ ms → (a b : ℕ) → l.name ≡ Held a → m.name ≡ Held b → pair a l.level ≡ pair b m.level
    key-of l m ls ms e a b s t =
        ap₂ pair (held-id a b (sym s ∙ ap (λ (k : Line). k.name) (head-of l m ls ms e) ∙ t)) (ap (λ (k : Line). k.level) (head-of l m ls ms e))

key-each : (P : ℕ × ℕ → Type 0) (xs ys : List Row) → map key xs ≡ map key ys → All (λ r. P (key r)) xs → All (λ r. P (key r)) ys
key-each P xs ys same h =
    All-from_recursion (λ r. P (key r)) ys
    (each-from_map P key ys (subst (Each P) same (each-onto_map P key xs (recursion_from_All (λ r. P (key r)) xs h))))

map-any : (P : ℕ × ℕ → Type 0) (xs : List Row) → Any P (map key xs) → Any (λ r. P (key r)) xs
map-any P [] (n, k, lt, e, h) = absurd (omega (arith, lt))
map-any P (x ∷ xs) (zero, k, lt, e, h) = (0, x, omega arith, refl, subst P (sym e) h)
map-any P (x ∷ xs) (suc n, k, lt, e, h) = let i = map-any P xs (n, k, omega (arith, lt), e, h) in (suc i.0, i.1, omega (arith, i.2), i.3, i.4)

any-map : (P : ℕ × ℕ → Type 0) (xs : List Row) → Any (λ r. P (key r)) xs → Any P (map key xs)
any-map P [] (n, x, lt, e, h) = absurd (omega (arith, lt))
any-map P (r ∷ xs) (zero, x, lt, e, h) = (0, key r, omega arith, refl, subst (λ (s : Row). P (key s)) (sym e) h)
any-map P (r ∷ xs) (suc n, x, lt, e, h) = let i = any-map P xs (n, x, omega (arith, lt), e, h) in (suc i.0, i.1, omega (arith, i.2), i.3, i.4)

key-any : (P : ℕ × ℕ → Type 0) (xs ys : List Row) → map key xs ≡ map key ys → Any (λ r. P (key r)) xs → Any (λ r. P (key r)) ys
key-any P xs ys same h = map-any P ys (subst (Any P) same (any-map P xs h))

first-level : (rank : ℕ) → rank ≤ 1000 → rank_level rank ≡ 0 → rank ≡ 1000
first-level rank low e = omega (arith, low, e)

first-rank : (rank : ℕ) → rank ≡ 1000 → rank_level rank ≡ 0
first-rank rank e = omega (arith, e)

-- what holds of the number of each required row
required-each : (Q : ℕ → Type 0) (xs ys : List Row) → All (λ r. r.rank ≤ 1000) xs → map key xs ≡ map key ys → All (λ r. r.rank ≡ 1000 → Q r.id) xs → All (λ r. r.rank ≡ 1000 → Q r.id) ys
required-each Q xs ys rows same h = λ k d within rank.
    key-each (λ u. u.1 ≡ 0 → Q u.0) xs ys same (λ i x less first. h i x less (first-level (get_or xs i x).rank (rows i x less) first)) k d within (first-rank (get_or ys k d).rank rank)

required-any : (Q : ℕ → Type 0) (xs ys : List Row) → All (λ r. r.rank ≤ 1000) ys → map key xs ≡ map key ys → Any (λ r. (r.rank ≡ 1000) × Q r.id) xs → Any (λ r. (r.rank ≡ 1000) × Q r.id) ys
required-any Q xs ys rows same (n, x, within, is, h) =
    let t = key-any (λ u. (u.1 ≡ 0) × Q u.0) xs ys same (n, x, within, is, (first-rank x.rank h.0, h.1)) in
    (t.0, t.1, t.2, t.3, (first-level t.1.rank (subst (λ (r : Row). r.rank ≤ 1000) t.3 (rows t.0 t.1 t.2)) t.4.0, t.4.1))

-- ---- shares there

ranks : (rows : List Row) → All IsRow rows → All (λ r. r.rank ≤ 1000) rows
ranks rows h k d within = (h k d within).rank

module _ (p q : Problem) (whole : IsWhole p) (there : All (λ r. r.rank ≤ 1000) q.rows) (same : AreSeenAlike p q) where
  keys : map key p.rows ≡ map key q.rows
  keys = same-keys p.rows q.rows 1001 p.stays q.stays same

  shares-seen : (y : ℕ → ℤ) (g : ℕ) (by : List By) → AreShares y g p.rows by → AreShares y g q.rows by
  shares-seen y g by are = record {
    named = λ k d within. required-any (λ id. (get_or by k d).row ≡ Held id) p.rows q.rows there keys (are.named k d within);
    nonzero = are.nonzero;
    rising = are.rising;
    times = required-each (λ id. pos g *ℤ times_of by (Held id) ≡ y id) p.rows q.rows (ranks p.rows whole.rows) keys are.times;
    absent = λ id h. are.absent id (key-each (λ u. u.0 ≢ id) q.rows p.rows (sym keys) h);
    kept = are.kept;
  }

  divisors-seen : (k : ℕ) (y : ℕ → ℤ) → All (IsDivisor k y) p.rows → All (IsDivisor k y) q.rows
  divisors-seen k y h = required-each (λ id. k ∣ unsigned_abs (y id)) p.rows q.rows (ranks p.rows whole.rows) keys h

  divisors-back : (k : ℕ) (y : ℕ → ℤ) → All (IsDivisor k y) q.rows → All (IsDivisor k y) p.rows
  divisors-back k y h = required-each (λ id. k ∣ unsigned_abs (y id)) q.rows p.rows there (sym keys) h

  lowest-seen : (g : ℕ) (y : ℕ → ℤ) → All (IsDivisor 0 y) p.rows ⊎ IsGreatest g y p.rows → All (IsDivisor 0 y) q.rows ⊎ IsGreatest g y q.rows
  lowest-seen g y (inl none) = inl (divisors-seen 0 y none)
  lowest-seen g y (inr greatest) = inr (λ k each. greatest k (divisors-back k y each))

  pub shown_there : (y : ℕ → ℤ) (g : ℕ) (by : List By) → IsRefutation q y → 0 < g → All (IsDivisor 0 y) p.rows ⊎ IsGreatest g y p.rows → AreShares y g p.rows by → IsShownConflict q by
  shown_there y g by refuted above lowest are = shown_conflict q y g by refuted above (lowest-seen g y lowest) (shares-seen y g by are)

-- ---- the refutation there

columns-seen : (p q : Problem) (m : Multipliers) → AreSeenAlike p q → ((side : Side) → All (λ l. pos 0 ≤ℤ column m side l 0) (lines p)) → (side : Side) → All (λ l. pos 0 ≤ℤ column m side l 0) (lines q)
columns-seen p q m same up Under = each_seen (λ l. pos 0 ≤ℤ column m Under l 0) p q same (up Under)
columns-seen p q m same up Over = each_seen (λ l. pos 0 ≤ℤ column m Over l 0) p q same (up Over)

above-from : (one : ℤ) (z : ℤ) (k : ℕ) → 0 < k → pos 0 <ℤ one → pos 0 <ℤ (pos k *ℤ (one *ℤ z)) → pos 0 <ℤ z
above-from (pos n) z k above h e = positive_from n z (positive_from k (pos n *ℤ z) e)
above-from (negsuc n) z k above h e = absurd h.lt

-- where the required rows cost, these multipliers refute them, whatever the constants' parts are
costs-refute : (q : Problem) (at : List Mark) (m : Multipliers) → IsProblem q → All (λ r. r.rank ≤ 1000) q.rows → AreMultipliersAt q at m → ((side : Side) → All (λ l. pos 0 ≤ℤ column m side l 0) (lines q)) → CostsAbove q at 0 → IsRefutation q (λ id. m.times 0 (Held id))
costs-refute q at m problem ranked is columns (x, stands, cost) =
    let commons : 0 < common (lines q) = product-positive (λ (l : Line). l.scale * l.den) (lines q) (each-impl (λ l. (0 < l.scale) × (0 < l.den)) (λ l. 0 < l.scale * l.den) (lines q) (λ l h. mul-pos h.0 h.1) (recursion_from_All _ (lines q) problem)) in
    let up : pos 0 <ℤ (pos (common (lines q)) *ℤ (pos (m.scale 0) *ℤ cost_at q 0 x.num)) = mul_positive (common (lines q)) _ commons (mul_positive (m.scale 0) _ (is.scales 0) cost) in
    end-IsRefutation q problem ranked m (is.cancel 0) (columns Under) (columns Over)
    (above-from (x.num one_column) (constant m (lines q) 0) (scales q) (scales-above q problem) x.positive (subst (λ (z : ℤ). pos 0 <ℤ z) (constant_there q at m x 0 problem is stands) up))

-- the multipliers refute each such problem
pub refuted_elsewhere : (p : Problem) (at : List Mark) → IsKeptCorner p at → NoNegativeRequired p at
    → (y : ℕ → ℤ) × AreRequiredTimes p at y × ((q : Problem) → IsProblem q → All (λ r. r.rank ≤ 1000) q.rows → AreSeenAlike p q → CostsAbove q at 0 → IsRefutation q y)
refuted_elsewhere p at kept (q, is, up) =
    let ws = λ (k : ℕ). level_writing_exists p at k kept.whole kept.corner kept.rays in
    let m = together (λ k. (ws k).0) (λ k. (ws k).1) in
    let are : AreMultipliersAt p at m = sums-AreMultipliersAt p at (λ k. (ws k).0) (λ k. (ws k).1) (λ k. (ws k).2) (λ k. writing-IsLevelSum p at k (ws k).0 (ws k).1 (ws k).2 (ws k).3) in
    let low : (side : Side) → All (λ l. pos 0 ≤ℤ column m side l 0) (lines p) = λ side. All-from_recursion (λ l. pos 0 ≤ℤ column m side l 0) (lines p)
    (each-impl (λ l. (pos (q.scale 0) *ℤ column m side l 0 ≡ pos (m.scale 0) *ℤ column q side l 0) × (pos 0 ≤ℤ column q side l 0)) _ (lines p)
    (λ l h. up-from (q.scale 0) (m.scale 0) (column q side l 0) (column m side l 0) (is.scales 0) h.0 h.1)
    (each-both _ _ (lines p) (columns_alike p at q m side 0 kept.whole kept.rays is are) (recursion_from_All _ (lines p) (up side)))) in (
      (λ id. (ws 0).1 (Held id)),
      record { scale = (ws 0).0; times = (ws 0).1; reduced = (ws 0).2; writing = (ws 0).3; are = λ id. refl },
      λ other problem ranked same above. costs-refute other at m problem ranked (multipliers_seen p other at m same are) (columns-seen p other m same low) above,
    )
