-- Where a level's scale is below 2^30 and its outside lines' numbers are below 2^41, all its numbers fit.
use Rattle.std.proofs.Common.{◌≡◌, ◌∙◌, ℕ, ◌+◌, ◌*◌, ◌^◌, ◌/◌, ◌<◌, ◌≤◌, List, [], ◌∷◌, map, ℤ, pos, negsuc, ◌+ℤ◌, ◌-ℤ◌, neg_ℤ, unsigned_abs, sym, ap, subst, arith, inl, inr, All}
use Rattle.std.specs.List.{AllByRecursion as Each}
use Rattle.std.proofs.lemmas.Bool.{cases_eq, cases_Bool}
use Rattle.std.proofs.lemmas.List.Elements.{All-from_recursion, recursion_from_All}
use Rattle.std.proofs.Math.Nat.{div-le_self, mul-le-mul_left}
use borrow.Author.Differences.{ints}
use Rattle.frac_core.specs.Fraction.{IsFitting}
use Rattle.frac_core.proofs.Signs.{unsigned_abs-neg}
use Rattle.problem_core.specs.declared.parts.Mark.{Mark}
use Rattle.problem_core.specs.declared.parts.Rel.{Rel}
use Rattle.problem_core.specs.declared.parts.Rel.TheVariants.{Eq, Le, Ge}
use Rattle.problem_core.specs.declared.parts.Side.TheVariants.{Under, Over}
use Rattle.problem_core.specs.declared.parts.RowName.{RowName}
use Rattle.problem_core.specs.declared.parts.Stay.{Stay}
use Rattle.problem_core.specs.Layout.{Line, Problem, Row, line_of_row, lines, stay_lines}
use Rattle.problem_core.specs.Kept.{IsRow, IsWhole}
use Rattle.problem_core.specs.Certificates.{under_weight, over_weight, weight_at}
use Rattle.problem_core.specs.Corners.{IsIn, place_of}
use Rattle.problem_core.proofs.Corners.CornerFacts.{is_place}
use Rattle.problem_core.proofs.Forms.{each-impl, each-both}
use Rattle.problem_core.specs.Levels.{AreFitting}
use Rattle.corner_laws.specs.Units.{IsLevelRow, IsReducedBy, over_share, under_share}
use Rattle.corner_laws.proofs.Counting.{IsIn-from_is_place}
use Rattle.corner_laws.proofs.LevelCosts.LevelSizes.{level_fits}
use Rattle.corner_laws.proofs.ZeroColumns.{not-in}
use Rattle.frac_core.proofs.Lists.{each-joined}
use Rattle.problem_core.proofs.Lines.{weight-none as no_weight, own-weight as own_weight}

-- ---- weights

rows-light : (rows : List Row) → Each IsRow rows → Each (λ l. l.weight ≤ 1000) (map line_of_row rows)
rows-light [] h = tt
rows-light (r ∷ rows) h = (h.0.weight.1, rows-light rows h.1)

stays-light : (b : ℕ) (stays : List Stay) → Each (λ l. l.weight ≤ 1000) (stay_lines b stays)
stays-light b [] = tt
stays-light b (s ∷ stays) = (omega arith, stays-light (b + 1) stays)

pub lines_light : (p : Problem) → IsWhole p → Each (λ l. l.weight ≤ 1000) (lines p)
lines_light p whole = each-joined (λ l. l.weight ≤ 1000) (map line_of_row p.rows) (stay_lines 1001 p.stays) (rows-light p.rows (recursion_from_All _ p.rows whole.rows)) (stays-light 1001 p.stays)

light-there : (l : Line) (level : ℕ) → l.weight ≤ 1000 → weight_at l level ≤ 1000
light-there l level h = elim (cases_eq l.level level) [
  | inl e ↦ subst (λ (w : ℕ). w ≤ 1000) (sym (own_weight l level e)) h
  | inr ne ↦ subst (λ (w : ℕ). w ≤ 1000) (sym (no_weight l level ne)) (omega arith)
]

-- ---- shares

under-most : (rel : Rel) (q : ℕ) → under_weight rel q ≤ q
under-most Eq q = omega arith
under-most Ge q = omega arith
under-most Le q = omega arith

over-most : (rel : Rel) (q : ℕ) → over_weight rel q ≤ q
over-most Eq q = omega arith
over-most Ge q = omega arith
over-most Le q = omega arith

small-share : (own unit w k u : ℕ) → own * unit < 2 ^ 30 → w ≤ 1000 → u ≤ unit * w / k → own * u < 2 ^ 40
small-share own unit w k u scale light most =
    let a : u ≤ unit * w = let h = div-le_self (unit * w) k in omega (arith, most, h) in
    let b : own * u ≤ own * (unit * w) = mul-le-mul_left own a in
    let c : own * unit * w ≤ own * unit * 1000 = mul-le-mul_left (own * unit) light in
    let d : own * (unit * w) ≡ own * unit * w = omega arith in
    omega (arith, b, c, d, scale)

-- ---- sizes

less-size : (a : ℕ) (y : ℤ) → a < 2 ^ 40 → unsigned_abs y < 2 ^ 41 → unsigned_abs (pos a -ℤ y) < 2 ^ 42
less-size a (pos n) h k = omega (arith, ints)
less-size a (negsuc n) h k = omega (arith, ints)

more-size : (a : ℕ) (y : ℤ) → a < 2 ^ 40 → unsigned_abs y < 2 ^ 41 → unsigned_abs (pos a +ℤ y) < 2 ^ 42
more-size a (pos n) h k = omega (arith, ints)
more-size a (negsuc n) h k = omega (arith, ints)

up-size : (a : ℕ) (y : ℤ) → y ≡ pos a → a < 2 ^ 40 → unsigned_abs y < 2 ^ 41
up-size a y e h = subst (λ (n : ℕ). n < 2 ^ 41) (sym (ap unsigned_abs e)) (omega (arith, h))

down-size : (a : ℕ) (y : ℤ) → y ≡ neg_ℤ (pos a) → a < 2 ^ 40 → unsigned_abs y < 2 ^ 41
down-size a y e h = subst (λ (n : ℕ). n < 2 ^ 41) (sym (ap unsigned_abs e ∙ unsigned_abs-neg a)) (omega (arith, h))

by-size : (at : List Mark) (by : RowName → ℤ) (l : Line) (u o : ℕ) → u < 2 ^ 40 → o < 2 ^ 40 → (IsIn (place_of l.name Under) at → by l.name ≡ pos u) → (IsIn (place_of l.name Over) at → by l.name ≡ neg_ℤ (pos o))
    → ((IsIn (place_of l.name Under) at → ⊥) → (IsIn (place_of l.name Over) at → ⊥) → unsigned_abs (by l.name) < 2 ^ 41) → unsigned_abs (by l.name) < 2 ^ 41
by-size at by l u o su so under over outside =
    elim (cases_Bool (is_place at (place_of l.name Under))) [
      | inl i ↦ up-size u (by l.name) (under (IsIn-from_is_place (place_of l.name Under) at i)) su
      | inr a ↦ elim (cases_Bool (is_place at (place_of l.name Over))) [
        | inl i ↦ down-size o (by l.name) (over (IsIn-from_is_place (place_of l.name Over) at i)) so
        | inr b ↦ outside (not-in at (place_of l.name Under) a) (not-in at (place_of l.name Over) b)
      ]
    ]

wider : (n : ℕ) → n < 2 ^ 41 → n < 2 ^ 42
wider n h = omega (arith, h)

-- ---- all lines

-- a level's numbers fit where these are small
pub small_level_fits : (p : Problem) (at : List Mark) (level unit own : ℕ) (by : RowName → ℤ) (reduced : ℕ → ℤ) → IsWhole p → IsLevelRow p at level unit own by → IsReducedBy p level unit own by reduced → own * unit < 2 ^ 30
    → All (λ l. (IsIn (place_of l.name Under) at → ⊥) → (IsIn (place_of l.name Over) at → ⊥) → unsigned_abs (by l.name) < 2 ^ 41) (lines p) → AreFitting p (own * unit) by reduced
small_level_fits p at level unit own by reduced whole row left scale small =
    let shares : Each (λ l. (own * under_share unit level l < 2 ^ 40) × (own * over_share unit level l < 2 ^ 40)) (lines p) =
    each-impl (λ l. l.weight ≤ 1000) _ (lines p)
    (λ l h. (small-share own unit (weight_at l level) l.scale (under_share unit level l) scale (light-there l level h) (under-most l.rel (unit * weight_at l level / l.scale)), small-share own unit (weight_at l level) l.scale (over_share unit level l) scale (light-there l level h) (over-most l.rel (unit * weight_at l level / l.scale))))
    (lines_light p whole) in
    let sizes : Each (λ l. ((own * under_share unit level l < 2 ^ 40) × (own * over_share unit level l < 2 ^ 40)) × (unsigned_abs (by l.name) < 2 ^ 41)) (lines p) =
    each-impl (λ l. ((own * under_share unit level l < 2 ^ 40) × (own * over_share unit level l < 2 ^ 40)) × (((IsIn (place_of l.name Under) at → by l.name ≡ pos (own * under_share unit level l)) × (IsIn (place_of l.name Over) at → by l.name ≡ neg_ℤ (pos (own * over_share unit level l)))) × ((IsIn (place_of l.name Under) at → ⊥) → (IsIn (place_of l.name Over) at → ⊥) → unsigned_abs (by l.name) < 2 ^ 41))) _ (lines p)
    (λ l h. (h.0, by-size at by l (own * under_share unit level l) (own * over_share unit level l) h.0.0 h.0.1 h.1.0.0 h.1.0.1 h.1.1))
    (each-both _ _ (lines p) shares (each-both _ _ (lines p) (each-both _ _ (lines p) (recursion_from_All _ (lines p) row.under) (recursion_from_All _ (lines p) row.over)) (recursion_from_All _ (lines p) small))) in
    level_fits p at level unit own by reduced row left
    (record {
      scale_fits = omega (arith, scale);
      outside_fit = All-from_recursion (λ l. (IsIn (place_of l.name Under) at → ⊥) → (IsIn (place_of l.name Over) at → ⊥) → IsFitting (by l.name)) (lines p) (each-impl (λ l. ((own * under_share unit level l < 2 ^ 40) × (own * over_share unit level l < 2 ^ 40)) × (unsigned_abs (by l.name) < 2 ^ 41)) _ (lines p) (λ l h u o. wider (unsigned_abs (by l.name)) h.1) sizes);
      own_fit = All-from_recursion (λ l. l.level ≡ level → IsFitting (reduced (place_of l.name Under)) × IsFitting (reduced (place_of l.name Over))) (lines p)
          (each-impl (λ l. (((own * under_share unit level l < 2 ^ 40) × (own * over_share unit level l < 2 ^ 40)) × (unsigned_abs (by l.name) < 2 ^ 41)) × ((reduced (place_of l.name Under) ≡ pos (own * under_share unit level l) -ℤ by l.name) × (reduced (place_of l.name Over) ≡ pos (own * over_share unit level l) +ℤ by l.name))) _ (lines p)
          (λ l h e. (
            subst (λ (z : ℤ). IsFitting z) (sym h.1.0) (less-size (own * under_share unit level l) (by l.name) h.0.0.0 h.0.1),
            subst (λ (z : ℤ). IsFitting z) (sym h.1.1) (more-size (own * over_share unit level l) (by l.name) h.0.0.1 h.0.1),
          ))
          (each-both _ _ (lines p) sizes (each-both _ _ (lines p) (recursion_from_All _ (lines p) left.under) (recursion_from_All _ (lines p) left.over))));
    })
