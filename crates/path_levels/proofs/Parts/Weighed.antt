-- The lines of a problem where those of a level from a place on have no weight.
use Rattle.std.proofs.Common.{◌≡◌, ◌≢◌, ◌∙◌, ℕ, zero, suc, ◌+◌, ◌-◌, ◌<◌, ◌≤◌, ◌++◌, Bool, true, false, cond, nat_eq, List, [], ◌∷◌, map, length, take, get_or, refl, sym, ap, ap₂, arith, inl, inr, eq-eqb, ne_eqb}
use Rattle.std.specs.List.{AllByRecursion as Each, filter}
use Rattle.problem_core.specs.declared.parts.RowName.{RowName}
use Rattle.problem_core.specs.declared.parts.Side.TheVariants.{Under}
use Rattle.problem_core.specs.Corners.{place_of}
use Rattle.problem_core.specs.Layout.{Line, Row, line_of_row}
use Rattle.problem_core.specs.Certificates.{weight_at}
use Rattle.problem_core.specs.Unfit.{lightened, without_weight}
use Rattle.corner_laws.proofs.LinePlaces.{AllApart, AreApart, IsSmallLine}
use Rattle.corner_lines.specs.Levels.LevelJoins.{AreLinesBefore, weightless}
use Rattle.corner_lines.proofs.LevelRows.LevelJoins.{weightless-none}

pub weighed : (level n : ℕ) → List Line → List Line
weighed level n [] = []
weighed level zero (l ∷ ls) = cond (nat_eq l.level level) (weightless l) l ∷ weighed level zero ls
weighed level (suc n) (l ∷ ls) = l ∷ weighed level n ls

abbrev pub level_lines : (level n : ℕ) → List Line → ℕ
level_lines level n ls = length (filter (λ l. nat_eq l.level level) (take n ls))

-- ---- the same as the level's first rows

cond-same : (b : Bool) (x y : Line) → b ≡ false → cond b x y ≡ y
cond-same b x y e = ap (λ (b : Bool). cond b x y) e

others-stay : (level n : ℕ) (ls : List Line) → Each (λ l. nat_eq l.level level ≡ false) ls → weighed level n ls ≡ ls
unfolding weighed
others-stay level n [] h = refl
others-stay level zero (l ∷ ls) h = ap₂ ◌∷◌ (cond-same (nat_eq l.level level) (weightless l) l h.0) (others-stay level zero ls h.1)
others-stay level (suc n) (l ∷ ls) h = ap (λ (xs : List Line). l ∷ xs) (others-stay level n ls h.1)

first-row : (b : Bool) (r : Row) (xs ys : List Row) (sl rest : List Line) → map line_of_row xs ++ sl ≡ rest → map line_of_row ys ++ sl ≡ rest → map line_of_row (cond b (without_weight r ∷ xs) (r ∷ ys)) ++ sl ≡ cond b (weightless (line_of_row r)) (line_of_row r) ∷ rest
first-row true r xs ys sl rest e f = ap (λ (zs : List Line). weightless (line_of_row r) ∷ zs) e
first-row false r xs ys sl rest e f = ap (λ (zs : List Line). line_of_row r ∷ zs) f

later-row : (b : Bool) (level : ℕ) (r : Row) (rows : List Row) (l : Line) (ls : List Line) (sl rest : List Line) → map line_of_row (lightened level (length ls) rows) ++ sl ≡ rest
    → map line_of_row (cond b (cond (nat_eq (length (cond b (l ∷ ls) ls)) 0) (without_weight r) r ∷ lightened level (length (cond b (l ∷ ls) ls) - 1) rows) (r ∷ lightened level (length (cond b (l ∷ ls) ls)) rows)) ++ sl ≡ line_of_row r ∷ rest
later-row true level r rows l ls sl rest e =
    ap (λ (b : Bool). line_of_row (cond b (without_weight r) r) ∷ (map line_of_row (lightened level (suc (length ls) - 1) rows) ++ sl)) (ne_eqb (suc (length ls)) 0 (not-none (length ls)))
    ∙ ap (λ (zs : List Line). line_of_row r ∷ zs) (ap (λ (n : ℕ). map line_of_row (lightened level n rows) ++ sl) (one-less (length ls)) ∙ e)
  where
    one-less : (n : ℕ) → suc n - 1 ≡ n
    one-less n = omega arith

    not-none : (n : ℕ) → suc n ≢ 0
    not-none n e = absurd (omega (arith, e))
later-row false level r rows l ls sl rest e = ap (λ (zs : List Line). line_of_row r ∷ zs) e

pub first_are_weighed : (level n : ℕ) (rows : List Row) (sl : List Line) → Each (λ l. nat_eq l.level level ≡ false) sl → (j : ℕ) → j ≡ level_lines level n (map line_of_row rows ++ sl)
    → map line_of_row (lightened level j rows) ++ sl ≡ weighed level n (map line_of_row rows ++ sl)
unfolding weighed
first_are_weighed level n [] sl h j e = sym (others-stay level n sl h)
first_are_weighed level zero (r ∷ rows) sl h j e =
    ap (λ (j : ℕ). map line_of_row (lightened level j (r ∷ rows)) ++ sl) e
    ∙ first-row (nat_eq (1000 - r.rank) level) r (lightened level 0 rows) (lightened level 0 rows) sl (weighed level zero (map line_of_row rows ++ sl)) (first_are_weighed level zero rows sl h 0 refl) (first_are_weighed level zero rows sl h 0 refl)
first_are_weighed level (suc n) (r ∷ rows) sl h j e =
    ap (λ (j : ℕ). map line_of_row (lightened level j (r ∷ rows)) ++ sl) e
    ∙ later-row (nat_eq (1000 - r.rank) level) level r rows (line_of_row r) (filter (λ l. nat_eq l.level level) (take n (map line_of_row rows ++ sl))) sl (weighed level n (map line_of_row rows ++ sl))
    (first_are_weighed level n rows sl h (level_lines level n (map line_of_row rows ++ sl)) refl)

-- ---- what is seen of each

cond-name : (b : Bool) (l : Line) → (cond b (weightless l) l).name ≡ l.name
cond-name true l = refl
cond-name false l = refl

cond-level : (b : Bool) (l : Line) → (cond b (weightless l) l).level ≡ l.level
cond-level true l = refl
cond-level false l = refl

light-small : (l : Line) → IsSmallLine l → IsSmallLine (weightless l)
light-small l h = record { under = h.under; over = h.over; sides = h.sides }

cond-apart : (b c : Bool) (k l : Line) → AreApart k l → AreApart (cond b (weightless k) k) (cond c (weightless l) l)
cond-apart true true k l a = record { first = light-small k a.first; second = light-small l a.second; under_under = a.under_under; under_over = a.under_over; over_under = a.over_under; over_over = a.over_over }
cond-apart true false k l a = record { first = light-small k a.first; second = a.second; under_under = a.under_under; under_over = a.under_over; over_under = a.over_under; over_over = a.over_over }
cond-apart false true k l a = record { first = a.first; second = light-small l a.second; under_under = a.under_under; under_over = a.under_over; over_under = a.over_under; over_over = a.over_over }
cond-apart false false k l a = a

each-apart : (level n : ℕ) (b : Bool) (k : Line) (ls : List Line) → Each (AreApart k) ls → Each (AreApart (cond b (weightless k) k)) (weighed level n ls)
unfolding weighed
each-apart level n b k [] h = tt
each-apart level zero b k (l ∷ ls) h = (cond-apart b (nat_eq l.level level) k l h.0, each-apart level zero b k ls h.1)
each-apart level (suc n) b k (l ∷ ls) h = (cond-apart b false k l h.0, each-apart level n b k ls h.1)

pub weighed_apart : (level n : ℕ) (ls : List Line) → AllApart ls → AllApart (weighed level n ls)
unfolding weighed
weighed_apart level n [] h = tt
weighed_apart level zero (l ∷ ls) h = (each-apart level zero (nat_eq l.level level) l ls h.0, weighed_apart level zero ls h.1)
weighed_apart level (suc n) (l ∷ ls) h = (each-apart level n false l ls h.0, weighed_apart level n ls h.1)

pub weighed_length : (level n : ℕ) (ls : List Line) → length (weighed level n ls) ≡ length ls
unfolding weighed
weighed_length level n [] = refl
weighed_length level zero (l ∷ ls) = ap suc (weighed_length level zero ls)
weighed_length level (suc n) (l ∷ ls) = ap suc (weighed_length level n ls)

pub weighed_name : (level n k : ℕ) (ls : List Line) (d : Line) → (get_or (weighed level n ls) k d).name ≡ (get_or ls k d).name
unfolding weighed
weighed_name level n k [] d = refl
weighed_name level zero zero (l ∷ ls) d = cond-name (nat_eq l.level level) l
weighed_name level zero (suc k) (l ∷ ls) d = weighed_name level zero k ls d
weighed_name level (suc n) zero (l ∷ ls) d = refl
weighed_name level (suc n) (suc k) (l ∷ ls) d = weighed_name level n k ls d

pub weighed_level : (level n k : ℕ) (ls : List Line) (d : Line) → (get_or (weighed level n ls) k d).level ≡ (get_or ls k d).level
unfolding weighed
weighed_level level n k [] d = refl
weighed_level level zero zero (l ∷ ls) d = cond-level (nat_eq l.level level) l
weighed_level level zero (suc k) (l ∷ ls) d = weighed_level level zero k ls d
weighed_level level (suc n) zero (l ∷ ls) d = refl
weighed_level level (suc n) (suc k) (l ∷ ls) d = weighed_level level n k ls d

-- the first ones are as they were
pub weighed_first : (level n k : ℕ) (ls : List Line) (d : Line) → k < n → get_or (weighed level n ls) k d ≡ get_or ls k d
unfolding weighed
weighed_first level n k [] d h = refl
weighed_first level zero k (l ∷ ls) d h = absurd (omega (arith, h))
weighed_first level (suc n) zero (l ∷ ls) d h = refl
weighed_first level (suc n) (suc k) (l ∷ ls) d h = weighed_first level n k ls d (omega (arith, h))

none-there : (level : ℕ) (l : Line) → weight_at (cond (nat_eq l.level level) (weightless l) l) level ≡ 0
none-there level l = by-test (nat_eq l.level level) refl
  where
    other : (b : Bool) (w : ℕ) → b ≡ false → cond b w 0 ≡ 0
    other b w e = ap (λ (b : Bool). cond b w 0) e

    by-test : (b : Bool) → nat_eq l.level level ≡ b → weight_at (cond b (weightless l) l) level ≡ 0
    by-test true e = weightless-none level l
    by-test false e = other (nat_eq l.level level) l.weight e

-- the others have no weight at the level
pub weighed_later : (level n k : ℕ) (ls : List Line) (d : Line) → n ≤ k → k < length ls → weight_at (get_or (weighed level n ls) k d) level ≡ 0
unfolding weighed
weighed_later level n k [] d h within = absurd (omega (arith, within))
weighed_later level zero zero (l ∷ ls) d h within = none-there level l
weighed_later level zero (suc k) (l ∷ ls) d h within = weighed_later level zero k ls d (omega arith) (omega (arith, within))
weighed_later level (suc n) zero (l ∷ ls) d h within = absurd (omega (arith, h))
weighed_later level (suc n) (suc k) (l ∷ ls) d h within = weighed_later level n k ls d (omega (arith, h)) (omega (arith, within))

-- ---- one line more

cond-other : (b : Bool) (name : RowName) (l : Line) → l.name ≢ name → (cond b (weightless l) l).name ≢ name
cond-other true name l h = h
cond-other false name l h = h

same-before : (level : ℕ) (k : Line) (ls : List Line) → Each (AreApart k) ls → AreLinesBefore k.name (weighed level zero ls) (weighed level zero ls)
unfolding weighed
same-before level k [] h = tt
same-before level k (l ∷ ls) h = (inl (refl, cond-other (nat_eq l.level level) k.name l (λ e. h.0.under_under (ap (λ n. place_of n Under) (sym e)))), same-before level k ls h.1)

there-apart : (k : Line) (n : ℕ) (ls : List Line) (d : Line) → Each (AreApart k) ls → n < length ls → k.name ≢ (get_or ls n d).name
there-apart k n [] d h within = absurd (omega (arith, within))
there-apart k zero (l ∷ ls) d h within = λ e. h.0.under_under (ap (λ n. place_of n Under) e)
there-apart k (suc n) (l ∷ ls) d h within = there-apart k n ls d h.1 (omega (arith, within))

pub weighed_before : (level n : ℕ) (ls : List Line) (d : Line) → AllApart ls → n < length ls → (get_or ls n d).level ≡ level → AreLinesBefore (get_or ls n d).name (weighed level n ls) (weighed level (suc n) ls)
unfolding weighed
weighed_before level n [] d apart within here = absurd (omega (arith, within))
weighed_before level zero (l ∷ ls) d apart within here = (inr (ap (λ (b : Bool). cond b (weightless l) l) (eq-eqb l.level level here), refl), same-before level l ls apart.0)
weighed_before level (suc n) (l ∷ ls) d apart within here = (inl (refl, there-apart l n ls d apart.0 (omega (arith, within))), weighed_before level n ls d apart.1 (omega (arith, within)) here)

-- and how many the level has then
pub level_lines_more : (level n : ℕ) (ls : List Line) (d : Line) → n < length ls → (get_or ls n d).level ≡ level → level_lines level (suc n) ls ≡ level_lines level n ls + 1
level_lines_more level n [] d within here = absurd (omega (arith, within))
level_lines_more level zero (l ∷ ls) d within here = ap (λ (b : Bool). length (cond {A = List Line} b (l ∷ []) [])) (eq-eqb l.level level here)
level_lines_more level (suc n) (l ∷ ls) d within here =
    by-test (nat_eq l.level level) (filter (λ l. nat_eq l.level level) (take (suc n) ls)) (filter (λ l. nat_eq l.level level) (take n ls)) (level_lines_more level n ls d (omega (arith, within)) here)
  where
    by-test : (b : Bool) (xs ys : List Line) → length xs ≡ length ys + 1 → length (cond b (l ∷ xs) xs) ≡ length (cond b (l ∷ ys) ys) + 1
    by-test true xs ys e = omega (arith, e)
    by-test false xs ys e = e
