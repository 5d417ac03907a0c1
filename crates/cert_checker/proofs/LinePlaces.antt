-- The lines at their places: rows first, then stays.
use Rattle.std.proofs.Common.{◌≡◌, ℕ, zero, suc, ◌+◌, ◌-◌, ◌<◌, ◌≤◌, List, [], ◌∷◌, ◌++◌, map, length, get_or, pos, refl, ap, ◌∙◌, arith, zero-add}
use Rattle.problem_core.specs.declared.parts.Stay.{Stay}
use Rattle.problem_core.specs.Layout.{Row, Line, Problem, lines, line_of_row, line_of_stay, stay_lines}
use Rattle.cert_checker.specs.LineSums.{form_at, line_count}

pub row-at : {X : Type 0} (f : Line → X) (rows : List Row) (ys : List Line) (k : ℕ) (d : Row) (e : X) → k < length rows → get_or (map f (map line_of_row rows ++ ys)) k e ≡ f (line_of_row (get_or rows k d))
row-at f [] ys k d e l = absurd (omega arith)
row-at f (r ∷ rows) ys zero d e l = refl
row-at f (r ∷ rows) ys (suc k) d e l = row-at f rows ys k d e (omega arith)

past-rows : {X : Type 0} (f : Line → X) (rows : List Row) (ys : List Line) (k : ℕ) (e : X) → get_or (map f (map line_of_row rows ++ ys)) (length rows + k) e ≡ get_or (map f ys) k e
past-rows f [] ys k e = ap (λ (n : ℕ). get_or (map f ys) n e) (zero-add k)
past-rows f (r ∷ rows) ys k e =
    ap (λ (n : ℕ). get_or (map f (map line_of_row (r ∷ rows) ++ ys)) n e) (let q : length (r ∷ rows) + k ≡ suc (length rows + k) = omega arith in q) ∙ past-rows f rows ys k e

stay-from : {X : Type 0} (f : Line → X) (base : ℕ) (stays : List Stay) (k : ℕ) (d : Stay) (e : X) → k < length stays → get_or (map f (stay_lines base stays)) k e ≡ f (line_of_stay (base + k) (get_or stays k d))
stay-from f base [] k d e l = absurd (omega arith)
stay-from f base (s ∷ stays) zero d e l = ap (λ (n : ℕ). f (line_of_stay n s)) (let q : base ≡ base + 0 = omega arith in q)
stay-from f base (s ∷ stays) (suc k) d e l =
    stay-from f (base + 1) stays k d e (omega arith) ∙ ap (λ (n : ℕ). f (line_of_stay n (get_or stays k d))) (let q : base + 1 + k ≡ base + suc k = omega arith in q)

pub stay-at : {X : Type 0} (f : Line → X) (p : Problem) (k : ℕ) (d : Stay) (e : X) → k < length p.stays → get_or (map f (lines p)) (length p.rows + k) e ≡ f (line_of_stay (1001 + k) (get_or p.stays k d))
stay-at f p k d e l = past-rows f p.rows (stay_lines 1001 p.stays) k e ∙ stay-from f 1001 p.stays k d e l

pub form-row : (p : Problem) (k : ℕ) (d : Row) → k < length p.rows → form_at p k ≡ (get_or p.rows k d).terms
form-row p k d l = row-at (λ l. l.form) p.rows (stay_lines 1001 p.stays) k d [] l

pub form-stay : (p : Problem) (k : ℕ) (d : Stay) → length p.rows ≤ k → k < line_count p → form_at p k ≡ record { attr = (get_or p.stays (k - length p.rows) d).attr; by = pos 1 } ∷ []
form-stay p k d l m =
    ap (form_at p) (let q : k ≡ length p.rows + (k - length p.rows) = omega arith in q) ∙ stay-at (λ l. l.form) p (k - length p.rows) d [] (omega arith)
