-- A line more of a level, by what is kept of it.
use Rattle.std.proofs.Common.{◌≡◌, ◌⊎◌, ◌∙◌, ℕ, suc, ◌+◌, ◌*◌, ◌<◌, ◌≤◌, ◌^◌, cond, nat_eq, List, [], ◌∷◌, map, length, get_or, ℤ, pos, ◌*ℤ◌, ◌<ℤ◌, neg_ℤ, unsigned_abs, refl, sym, ap, ap₂, subst, arith, inl, inr, All, Some, None}
use Rattle.std.specs.declared.option.Option.{Option}
use Rattle.std.proofs.lemmas.Bool.{cases_eq, cases_lt}
use Rattle.std.proofs.lemmas.List.{get_or_default, length-map}
use Rattle.std.proofs.Math.ListN.{get_or-map}
use Rattle.frac_core.specs.Fraction.{Fraction, IsFitting}
use Rattle.problem_core.specs.declared.parts.Mark.{Mark}
use Rattle.problem_core.specs.declared.parts.RowName.{RowName}
use Rattle.problem_core.specs.declared.parts.Side.TheVariants.{Under, Over}
use Rattle.problem_core.specs.Layout.{Line, Problem, coefficient, lines, stay_lines}
use Rattle.problem_core.specs.Certificates.{weight_at}
use Rattle.problem_core.specs.Corners.{place_of}
use Rattle.problem_core.proofs.Forms.{sum-cong}
use Rattle.corner_laws.proofs.LinePlaces.{lines_apart}
use Rattle.corner_laws.proofs.WrittenValues.{nothing_outside}
use Rattle.corner_lines.specs.LineEquations.{IsOutsideLine}
use Rattle.corner_lines.specs.Levels.LevelRows.{IsPivot, line_numbers}
use Rattle.corner_lines.specs.Levels.LevelJoins.{AreLinesBefore}
use Rattle.corner_lines.specs.Levels.LevelFits.{IsFittingRow, IsLevelThere}
use Rattle.corner_lines.proofs.Costs.LevelFits.{unfit_row_has_no_writing}
use Rattle.corner_lines.proofs.LevelRows.LevelSound.{first-seen, first_rows_are_sound, same-stands, seen-same, seen-sym}
use Rattle.path_lines.specs.declared.table.Inside.{Inside}
use Rattle.path_lines.specs.Tables.{IsLineAt, IsSized, IsThere, line_count, name_at, numbers_of}
use Rattle.path_lines.proofs.Exchanges.Exchanging.{one_side}
use Rattle.path_lines.proofs.Places.{any_line, mark_is_there, name_there, names_differ}
use Rattle.path_levels.specs.declared.outline.Outline.{Outline}
use Rattle.path_levels.specs.declared.outline.LevelFacts.{LevelFacts}
use Rattle.path_levels.specs.declared.outline.LineFacts.{LineFacts}
use Rattle.path_levels.specs.declared.sums.LevelSum.{LevelSum}
use Rattle.path_levels.specs.Outlines.{AreLevelFacts, IsOutline, number_at}
use Rattle.path_levels.specs.declared.joins.Draft.{Draft}
use Rattle.path_levels.specs.Joins.{HasNoDraft, IsDraft, IsFittingTo}
use Rattle.path_levels.specs.Parts.{IsPartKept, IsPartSum, IsPartUnfit, level_there, part}
use Rattle.path_levels.specs.Rows.{level_place}
use Rattle.path_levels.proofs.Joining.Drafts.{draft_there, no_draft}
use Rattle.path_levels.proofs.Joining.FittingRows.{AreLevelLines, IsSeen, lines_fit, row_fits}
use Rattle.path_levels.proofs.Joining.LineJoins.{IsCostOf, IsInsideLine, IsJoiningLine, IsLineJoin}
use Rattle.path_levels.proofs.Joining.LineLists.{HasZeros}
use Rattle.path_levels.proofs.Joining.JoinShares.{risen_small, unit_bound}
use Rattle.path_levels.proofs.Parts.PartJoins.{part_deviation, part_names, part_pivot}
use Rattle.path_levels.proofs.Parts.PartLines.{cost_of_facts, facts_at, part_apart, part_before, part_lines}
use Rattle.path_levels.proofs.Parts.Weighed.{weighed_first, weighed_later, weighed_length, weighed_level, weighed_name}
use Rattle.path_levels.proofs.Exchanges.MultipleFacts.{any_level}
use Rattle.corner_lines.proofs.LevelRows.Units.{positive_is}
use Rattle.frac_core.proofs.Numbers.{zero-or-not as zero_or, pos-product-up as product_some}
use Rattle.frac_core.proofs.Divisors.{size_above as some_above}

-- ---- the lines of a part by their places

pub part_count : (p : Problem) (level upto : ℕ) → level ≤ 1000 → length (lines (part p level upto)) ≡ line_count p
part_count p level upto h = ap length (part_lines p level upto h) ∙ weighed_length level upto (lines p)

part_name : (p : Problem) (level upto k : ℕ) (d : Line) → level ≤ 1000 → (get_or (lines (part p level upto)) k d).name ≡ (get_or (lines p) k d).name
part_name p level upto k d h = ap (λ (ls : List Line). (get_or ls k d).name) (part_lines p level upto h) ∙ weighed_name level upto k (lines p) d

part_level : (p : Problem) (level upto k : ℕ) (d : Line) → level ≤ 1000 → (get_or (lines (part p level upto)) k d).level ≡ (get_or (lines p) k d).level
part_level p level upto k d h = ap (λ (ls : List Line). (get_or ls k d).level) (part_lines p level upto h) ∙ weighed_level level upto k (lines p) d

part_first : (p : Problem) (level upto k : ℕ) (d : Line) → level ≤ 1000 → k < upto → get_or (lines (part p level upto)) k d ≡ get_or (lines p) k d
part_first p level upto k d h less = ap (λ (ls : List Line). get_or ls k d) (part_lines p level upto h) ∙ weighed_first level upto k (lines p) d less

part_later : (p : Problem) (level upto k : ℕ) (d : Line) → level ≤ 1000 → upto ≤ k → k < line_count p → weight_at (get_or (lines (part p level upto)) k d) level ≡ 0
part_later p level upto k d h from within = ap (λ (ls : List Line). weight_at (get_or ls k d) level) (part_lines p level upto h) ∙ weighed_later level upto k (lines p) d from within

-- ---- numbers by names

by_names : List RowName → List ℤ → RowName → ℤ
by_names [] zs n = pos 0
by_names (m ∷ ms) [] n = pos 0
by_names (m ∷ ms) (z ∷ zs) n = cond (nat_eq (place_of m Under) (place_of n Under)) z (by_names ms zs n)

names_numbers : (ls : List Line) (zs : List ℤ) (n : RowName) → by_names (map (λ l. l.name) ls) zs n ≡ numbers_of ls zs n
unfolding by_names
names_numbers [] zs n = refl
names_numbers (l ∷ ls) [] n = refl
names_numbers (l ∷ ls) (z ∷ zs) n = ap (λ (y : ℤ). cond (nat_eq (place_of l.name Under) (place_of n Under)) z y) (names_numbers ls zs n)

pub part_numbers : (p : Problem) (level upto : ℕ) (zs : List ℤ) (n : RowName) → numbers_of (lines (part p level upto)) zs n ≡ numbers_of (lines p) zs n
part_numbers p level upto zs n =
    sym (names_numbers (lines (part p level upto)) zs n)
    ∙ ap (λ (ms : List RowName). by_names ms zs n) (seen-same (λ l. l.name) (λ r. refl) level (level_place p level upto) p.rows (stay_lines 1001 p.stays)) ∙ names_numbers (lines p) zs n

-- ---- an inside line

pivot_same : (q : Problem) (at : List Mark) (n m : RowName) (size : ℕ) (f g : RowName → ℤ) → ((k : RowName) → f k ≡ g k) → IsPivot q at n m size f → IsPivot q at n m size g
pivot_same q at n m size f g same is = record {
  size_positive = is.size_positive;
  cancel = λ v. sum-cong (λ l. g l.name *ℤ coefficient v l.form) (λ l. f l.name *ℤ coefficient v l.form) (lines q) (λ l. ap (λ (z : ℤ). z *ℤ coefficient v l.form) (sym (same l.name))) ∙ is.cancel v;
  enter_is = sym (same n) ∙ is.enter_is;
  inside_zero = λ side i d within inside other. sym (same (get_or (lines q) i d).name) ∙ is.inside_zero side i d within inside other;
}

inside_line : (p : Problem) (at : List Mark) (level upto : ℕ) (name : RowName) (inside : Inside) → IsThere p at → level ≤ 1000 → IsLineAt p at name (Some inside) → IsInsideLine (part p level upto) at name inside
inside_line p at level upto name inside there held is =
    let equation = is.1.equation in
    record {
      within = is.0;
      no_other = λ other i. one_side p at name other inside.side there i is.0;
      sized = subst (λ (n : ℕ). IsSized n inside.sum) (sym (part_count p level upto held)) is.1.sized;
      line_is = pivot_same (part p level upto) at name name (unsigned_abs inside.sum.own) (line_numbers name (unsigned_abs inside.sum.own) (numbers_of (lines p) inside.sum.by.items))
          (line_numbers name (unsigned_abs inside.sum.own) (numbers_of (lines (part p level upto)) inside.sum.by.items))
          (λ n. ap (λ (z : ℤ). cond (nat_eq (place_of n Under) (place_of name Under)) (neg_ℤ (pos (unsigned_abs inside.sum.own))) z) (sym (part_numbers p level upto inside.sum.by.items n)))
          (part_pivot p at level upto name inside.side (unsigned_abs inside.sum.own) (numbers_of (lines p) inside.sum.by.items) inside.sum.value.num inside.sum.value.den there.whole there.corner is.0 equation);
      zeros = part_names (λ n. IsOutsideLine at n ⊎ (numbers_of (lines (part p level upto)) inside.sum.by.items n ≡ pos 0)) p level upto
          (λ i d within. elim (zero_or (numbers_of (lines p) inside.sum.by.items (get_or (lines p) i d).name)) [
            | inl none ↦ inr (part_numbers p level upto inside.sum.by.items (get_or (lines p) i d).name ∙ none)
            | inr some ↦ inl (equation.outside i d within some)
          ]);
      value_den = equation.den_positive;
      deviation_is = part_deviation p at level upto name (unsigned_abs inside.sum.own) (numbers_of (lines p) inside.sum.by.items) inside.sum.value.num inside.sum.value.den there.whole there.corner equation;
    }

joining_line : (p : Problem) (at : List Mark) (level upto : ℕ) (name : RowName) (kept : Option Inside) → IsThere p at → level ≤ 1000 → IsLineAt p at name kept → IsJoiningLine (part p level upto) at name kept
joining_line p at level upto name None there held is = is
joining_line p at level upto name (Some inside) there held is = inside_line p at level upto name inside there held is

seen_line : (p : Problem) (at : List Mark) (name : RowName) (kept : Option Inside) → IsThere p at → IsLineAt p at name kept → IsSeen at name kept
seen_line p at name None there is = is
seen_line p at name (Some inside) there is = (is.0, λ other i. one_side p at name other inside.side there i is.0)

-- ---- places of levels

number_there : (levels : List LevelFacts) (k : ℕ) → k < length levels → number_at levels k ≡ (get_or levels k any_level).number
number_there levels k within =
    get_or_default (map (λ (f : LevelFacts). f.number) levels) k 0 any_level.number (omega (arith, within, length-map levels (λ (f : LevelFacts). f.number)))
    ∙ get_or-map (λ (f : LevelFacts). f.number) levels k any_level

one_place : (p : Problem) (levels : List LevelFacts) (a b : ℕ) → AreLevelFacts p levels → a < length levels → b < length levels → number_at levels a ≡ number_at levels b → a ≡ b
one_place p levels a b are here there same =
    let numbers : (get_or levels a any_level).number ≡ (get_or levels b any_level).number = sym (number_there levels a here) ∙ same ∙ number_there levels b there in
    elim (cases_lt a b) [
      | inl less ↦ let h : (get_or levels a any_level).number < (get_or levels b any_level).number = are.rising a b any_level less there in absurd (omega (arith, h, numbers))
      | inr from ↦
          elim (cases_lt b a) [
            | inl more ↦ let h : (get_or levels b any_level).number < (get_or levels a any_level).number = are.rising b a any_level more here in absurd (omega (arith, h, numbers))
            | inr not_more ↦ omega (arith, from, not_more)
          ]
    ]

-- a line of the level among the first ones
line_of_part : (p : Problem) (outline : Outline) (place upto k : ℕ) (l : Line) (f : LineFacts) → IsOutline p outline → number_at outline.levels.items place ≤ 1000 → k < upto → k < line_count p → (get_or outline.lines.items k f).level ≡ place
    → ((get_or (lines (part p (number_at outline.levels.items place) upto)) k l).level ≡ number_at outline.levels.items place) × IsCostOf (get_or (lines (part p (number_at outline.levels.items place) upto)) k l) (get_or outline.lines.items k f)
line_of_part p outline place upto k l f is held less within here =
    let facts = facts_at outline.levels.items (lines p) outline.lines.items k l f is.lines_are within in (
      part_level p (number_at outline.levels.items place) upto k l held ∙ sym facts.number ∙ ap (number_at outline.levels.items) here,
      subst (λ (m : Line). IsCostOf m (get_or outline.lines.items k f)) (sym (part_first p (number_at outline.levels.items place) upto k l held less)) (cost_of_facts outline.levels.items (get_or (lines p) k l) (get_or outline.lines.items k f) facts),
    )

pub level_lines_are : (p : Problem) (at : List Mark) (outline : Outline) (place upto : ℕ) (kept : List (Option Inside)) → upto ≤ line_count p → IsPartKept p at outline place upto kept
    → AreLevelLines (part p (number_at outline.levels.items place) upto) at (number_at outline.levels.items place) outline kept place upto
level_lines_are p at outline place upto kept long is = record {
  within = λ k less. omega (arith, less, long, part_count p (number_at outline.levels.items place) upto is.held);
  there = λ k l f d less here.
      let within : k < line_count p = omega (arith, less, long) in
      let own = line_of_part p outline place upto k l f is.outline_is is.held less within here in (
        own.0,
        record {
          cost = own.1;
          seen = subst (λ (n : RowName). IsSeen at n (get_or kept k d)) (sym (part_name p (number_at outline.levels.items place) upto k l is.held ∙ name_there p k l within))
              (seen_line p at (name_at p k) (get_or kept k d) is.there (is.each k d f less within here));
        },
      );
  back = λ k l f within here.
      let inside : k < line_count p = omega (arith, within, part_count p (number_at outline.levels.items place) upto is.held) in
      elim (cases_lt k upto) [
        | inl less ↦
            let facts = facts_at outline.levels.items (lines p) outline.lines.items k l f is.outline_is.lines_are inside in
            inl (less, one_place p outline.levels.items (get_or outline.lines.items k f).level place is.outline_is.levels_are facts.level is.within (facts.number ∙ sym (part_level p (number_at outline.levels.items place) upto k l is.held) ∙ here))
        | inr from ↦ inr (part_later p (number_at outline.levels.items place) upto k l is.held (omega (arith, from)) inside)
      ];
}

-- ---- the line joins

pub line_join : (p : Problem) (at : List Mark) (outline : Outline) (place k : ℕ) (kept : List (Option Inside)) (old : LevelSum) (f : LineFacts) (d : Option Inside) → k < line_count p → (get_or outline.lines.items k f).level ≡ place
    → IsPartKept p at outline place (k + 1) kept → IsPartSum p at outline place k old
    → IsLineJoin (part p (number_at outline.levels.items place) k) (part p (number_at outline.levels.items place) (k + 1)) at (number_at outline.levels.items place) (name_at p k) old (get_or outline.lines.items k f) (get_or kept k d)
line_join p at outline place k kept old f d within here is before =
    let less : k < k + 1 = omega arith in
    let next : suc k ≡ k + 1 = omega arith in
    let first = first_rows_are_sound p at (number_at outline.levels.items place) (level_place p (number_at outline.levels.items place) k) is.there.whole is.there.corner is.there.rays in
    let second = first_rows_are_sound p at (number_at outline.levels.items place) (level_place p (number_at outline.levels.items place) (k + 1)) is.there.whole is.there.corner is.there.rays in
    let count : length (lines (part p (number_at outline.levels.items place) (k + 1))) ≡ line_count p = part_count p (number_at outline.levels.items place) (k + 1) is.held in
    let long : k < length (lines (part p (number_at outline.levels.items place) (k + 1))) = omega (arith, within, count) in
    let facts = facts_at outline.levels.items (lines p) outline.lines.items k any_line f is.outline_is.lines_are within in
    let own : (get_or (lines p) k any_line).level ≡ number_at outline.levels.items place = sym facts.number ∙ ap (number_at outline.levels.items) here in
    record {
      sound_before = first.0;
      corner_before = first.1;
      sound = second.0;
      corner = second.1;
      rays = second.2;
      apart = part_apart p (number_at outline.levels.items place) (k + 1) is.held (lines_apart p is.there.whole);
      before = subst (λ (n : RowName). AreLinesBefore n (lines (part p (number_at outline.levels.items place) k)) (lines (part p (number_at outline.levels.items place) (k + 1)))) (name_there p k any_line within)
          (subst (λ (n : ℕ). AreLinesBefore (get_or (lines p) k any_line).name (lines (part p (number_at outline.levels.items place) k)) (lines (part p (number_at outline.levels.items place) n))) next
          (part_before p (number_at outline.levels.items place) k any_line is.held (lines_apart p is.there.whole) within own));
      named = (
        k,
        get_or (lines (part p (number_at outline.levels.items place) (k + 1))) k any_line,
        long,
        get_or_default (lines (part p (number_at outline.levels.items place) (k + 1))) k (get_or (lines (part p (number_at outline.levels.items place) (k + 1))) k any_line) any_line long,
        part_name p (number_at outline.levels.items place) (k + 1) k any_line is.held ∙ name_there p k any_line within,
      );
      facts_are = λ i e inside same.
          elim (cases_eq i k) [
            | inl on ↦
                subst (λ (n : ℕ). ((get_or (lines (part p (number_at outline.levels.items place) (k + 1))) n e).level ≡ number_at outline.levels.items place) × IsCostOf (get_or (lines (part p (number_at outline.levels.items place) (k + 1))) n e) (get_or outline.lines.items k f)) (sym on)
                (line_of_part p outline place (k + 1) k e f is.outline_is is.held less within here)
            | inr off ↦
                let there : i < line_count p = omega (arith, inside, count) in
                absurd (names_differ p i k is.there.whole there within off (sym (name_there p i e there) ∙ sym (part_name p (number_at outline.levels.items place) (k + 1) i e is.held) ∙ same))
          ];
      old_is = before;
      line_is = joining_line p at (number_at outline.levels.items place) (k + 1) (name_at p k) (get_or kept k d) is.there is.held (is.each k d f less within here);
      same_stands = λ x stands.
          same-stands p (part p (number_at outline.levels.items place) (k + 1)) at x (first-seen p (number_at outline.levels.items place) (level_place p (number_at outline.levels.items place) (k + 1)))
          (same-stands (part p (number_at outline.levels.items place) k) p at x (seen-sym p (part p (number_at outline.levels.items place) k) (first-seen p (number_at outline.levels.items place) (level_place p (number_at outline.levels.items place) k))) stands);
      zero_outside = λ x stands out.
          let whole = same-stands (part p (number_at outline.levels.items place) k) p at x (seen-sym p (part p (number_at outline.levels.items place) k) (first-seen p (number_at outline.levels.items place) (level_place p (number_at outline.levels.items place) k))) stands in
          (nothing_outside p at x (place_of (name_at p k) Under) whole (mark_is_there p k Under within) out.under, nothing_outside p at x (place_of (name_at p k) Over) whole (mark_is_there p k Over within) out.over);
    }

-- ---- what becomes of its row

-- the row is as the draft
pub record IsDrafted (draft : Draft) (next : LevelSum) : Type 0 where
  pub unit : next.unit ≡ draft.unit
  pub own : next.own ≡ draft.own
  pub by : next.by.items ≡ draft.by.items
  pub cost : next.cost ≡ draft.cost

moved : (P : ℤ → ℤ → List ℤ → Fraction → Type 0) (draft : Draft) (next : LevelSum) → IsDrafted draft next → P draft.unit draft.own draft.by.items draft.cost → P next.unit next.own next.by.items next.cost
moved P draft next is h =
    subst (λ (z : ℤ). P z next.own next.by.items next.cost) (sym is.unit)
    (subst (λ (z : ℤ). P draft.unit z next.by.items next.cost) (sym is.own)
    (subst (λ (zs : List ℤ). P draft.unit draft.own zs next.cost) (sym is.by)
    (subst (λ (v : Fraction). P draft.unit draft.own draft.by.items v) (sym is.cost) h)))

unit_some : (old : LevelSum) (f : LineFacts) (kept : Option Inside) (draft : Draft) → pos 0 <ℤ old.unit → IsDraft old f kept draft → pos 0 <ℤ draft.unit
unit_some old f kept draft h is = subst (λ (z : ℤ). pos 0 <ℤ z) (sym is.unit_is) (product_some is.times (unsigned_abs old.unit) is.rise.above (some_above old.unit h))

scale_is : (draft : Draft) → pos 0 <ℤ draft.own → pos 0 <ℤ draft.unit → draft.own *ℤ draft.unit ≡ pos (unsigned_abs draft.own * unsigned_abs draft.unit)
scale_is draft h k = ap₂ ◌*ℤ◌ (positive_is draft.own h) (positive_is draft.unit k)

row_drafted : (p : Problem) (at : List Mark) (outline : Outline) (place k : ℕ) (kept : List (Option Inside)) (old : LevelSum) (draft : Draft) (next : LevelSum) (f : LineFacts) (d : Option Inside) → k < line_count p → (get_or outline.lines.items k f).level ≡ place
    → IsPartKept p at outline place (k + 1) kept → IsPartSum p at outline place k old → IsDraft old (get_or outline.lines.items k f) (get_or kept k d) draft → IsFittingTo outline kept place (k + 1) draft → IsDrafted draft next
    → IsPartSum p at outline place (k + 1) next
row_drafted p at outline place k kept old draft next f d within here is before made fit same =
    let join = line_join p at outline place k kept old f d within here is before in
    let there = draft_there (part p (number_at outline.levels.items place) k) (part p (number_at outline.levels.items place) (k + 1)) at (number_at outline.levels.items place) (name_at p k) old (get_or outline.lines.items k f) (get_or kept k d) draft join made in
    let unit : pos 0 <ℤ draft.unit = unit_some old (get_or outline.lines.items k f) (get_or kept k d) draft before.sized.unit_above made in
    let row = row_fits (part p (number_at outline.levels.items place) (k + 1)) at (number_at outline.levels.items place) outline kept place (k + 1) draft f 0 (level_lines_are p at outline place (k + 1) kept (omega (arith, within)) is) join.apart there.count made.fits.1 (scale_is draft made.above unit) fit in
    record {
      sized = record {
        count_is = ap length same.by ∙ there.count;
        unit_above = subst (λ (z : ℤ). pos 0 <ℤ z) (sym same.unit) unit;
        own_above = subst (λ (z : ℤ). pos 0 <ℤ z) (sym same.own) made.above;
        scale = moved (λ unit own by cost. IsFitting (own *ℤ unit)) draft next same fit.0;
        fits = subst (λ (zs : List ℤ). All IsFitting zs) (sym same.by) made.fits.1;
      };
      there = moved (λ unit own by cost. IsLevelThere (part p (number_at outline.levels.items place) (k + 1)) at (number_at outline.levels.items place) (unsigned_abs unit) (unsigned_abs own) (numbers_of (lines (part p (number_at outline.levels.items place) (k + 1))) by) cost) draft next same there.there;
      fitting = moved (λ unit own by cost. IsFittingRow (part p (number_at outline.levels.items place) (k + 1)) at (number_at outline.levels.items place) (unsigned_abs unit) (unsigned_abs own) (numbers_of (lines (part p (number_at outline.levels.items place) (k + 1))) by)) draft next same row;
      inside = subst (λ (zs : List ℤ). HasZeros at (lines (part p (number_at outline.levels.items place) (k + 1))) zs) (sym same.by) there.zeros;
    }

row_unfit : (p : Problem) (at : List Mark) (outline : Outline) (place k : ℕ) (kept : List (Option Inside)) (old : LevelSum) (draft : Draft) (f : LineFacts) (d : Option Inside) → k < line_count p → (get_or outline.lines.items k f).level ≡ place
    → IsPartKept p at outline place (k + 1) kept → IsPartSum p at outline place k old → IsDraft old (get_or outline.lines.items k f) (get_or kept k d) draft → (IsFittingTo outline kept place (k + 1) draft → ⊥)
    → IsPartUnfit p at outline place (k + 1)
row_unfit p at outline place k kept old draft f d within here is before made never =
    let join = line_join p at outline place k kept old f d within here is before in
    let there = draft_there (part p (number_at outline.levels.items place) k) (part p (number_at outline.levels.items place) (k + 1)) at (number_at outline.levels.items place) (name_at p k) old (get_or outline.lines.items k f) (get_or kept k d) draft join made in
    let unit : pos 0 <ℤ draft.unit = unit_some old (get_or outline.lines.items k f) (get_or kept k d) draft before.sized.unit_above made in
    unfit_row_has_no_writing (part p (number_at outline.levels.items place) (k + 1)) at (number_at outline.levels.items place) (unsigned_abs draft.unit) (unsigned_abs draft.own) (numbers_of (lines (part p (number_at outline.levels.items place) (k + 1))) draft.by.items) draft.cost there.there
    (λ row cost. never (lines_fit (part p (number_at outline.levels.items place) (k + 1)) at (number_at outline.levels.items place) outline kept place (k + 1) draft any_line (level_lines_are p at outline place (k + 1) kept (omega (arith, within)) is) join.apart there.count (scale_is draft made.above unit) row))

-- ---- as the line and its sum are read

-- the line and what is kept of it are those at the place
pub record IsRead (outline : Outline) (kept : List (Option Inside)) (k : ℕ) (line : LineFacts) (inside : Option Inside) : Type 0 where
  pub within : k < length kept
  pub count : length kept ≡ length outline.lines.items
  pub line_is : line ≡ get_or outline.lines.items k line
  pub inside_is : inside ≡ get_or kept k inside

read_level : (outline : Outline) (kept : List (Option Inside)) (k place : ℕ) (line : LineFacts) (inside : Option Inside) → IsRead outline kept k line inside → level_there outline k ≡ place → (get_or outline.lines.items k line).level ≡ place
read_level outline kept k place line inside is e =
    sym (get_or-map (λ (g : LineFacts). g.level) outline.lines.items k line)
    ∙ get_or_default (map (λ (g : LineFacts). g.level) outline.lines.items) k line.level 0 (omega (arith, is.within, is.count, length-map outline.lines.items (λ (g : LineFacts). g.level))) ∙ e

pub read_row : (p : Problem) (at : List Mark) (outline : Outline) (place k : ℕ) (kept : List (Option Inside)) (old : LevelSum) (draft : Draft) (next : LevelSum) (line : LineFacts) (inside : Option Inside) → IsRead outline kept k line inside → IsDraft old line inside draft
    → IsFittingTo outline kept line.level (k + 1) draft → IsDrafted draft next → level_there outline k ≡ place → IsPartKept p at outline place (k + 1) kept → IsPartSum p at outline place k old → IsPartSum p at outline place (k + 1) next
read_row p at outline place k kept old draft next line inside read made fit same e is before =
    let here = read_level outline kept k place line inside read e in
    row_drafted p at outline place k kept old draft next line inside (omega (arith, read.within, is.count)) here is before
    (subst (λ (x : LineFacts). IsDraft old x (get_or kept k inside) draft) read.line_is (subst (λ (x : Option Inside). IsDraft old line x draft) read.inside_is made))
    (subst (λ (n : ℕ). IsFittingTo outline kept n (k + 1) draft) (ap (λ (x : LineFacts). x.level) read.line_is ∙ here) fit) same

pub read_unfit : (p : Problem) (at : List Mark) (outline : Outline) (place k : ℕ) (kept : List (Option Inside)) (old : LevelSum) (draft : Draft) (line : LineFacts) (inside : Option Inside) → IsRead outline kept k line inside → IsDraft old line inside draft
    → (IsFittingTo outline kept line.level (k + 1) draft → ⊥) → level_there outline k ≡ place → IsPartKept p at outline place (k + 1) kept → IsPartSum p at outline place k old → IsPartUnfit p at outline place (k + 1)
read_unfit p at outline place k kept old draft line inside read made never e is before =
    let here = read_level outline kept k place line inside read e in
    row_unfit p at outline place k kept old draft line inside (omega (arith, read.within, is.count)) here is before
    (subst (λ (x : LineFacts). IsDraft old x (get_or kept k inside) draft) read.line_is (subst (λ (x : Option Inside). IsDraft old line x draft) read.inside_is made))
    (λ fit. never (subst (λ (n : ℕ). IsFittingTo outline kept n (k + 1) draft) (sym (ap (λ (x : LineFacts). x.level) read.line_is ∙ here)) fit))

pub read_no_draft : (p : Problem) (at : List Mark) (outline : Outline) (place k : ℕ) (kept : List (Option Inside)) (old : LevelSum) (line : LineFacts) (inside : Option Inside) → IsRead outline kept k line inside → HasNoDraft old line inside
    → level_there outline k ≡ place → IsPartKept p at outline place (k + 1) kept → IsPartSum p at outline place k old → IsPartUnfit p at outline place (k + 1)
read_no_draft p at outline place k kept old line inside read none e is before =
    no_draft (part p (number_at outline.levels.items place) k) (part p (number_at outline.levels.items place) (k + 1)) at (number_at outline.levels.items place) (name_at p k) old (get_or outline.lines.items k line) (get_or kept k inside)
    (line_join p at outline place k kept old line inside (omega (arith, read.within, is.count)) (read_level outline kept k place line inside read e) is before)
    (subst (λ (x : LineFacts). HasNoDraft old x (get_or kept k inside)) read.line_is (subst (λ (x : Option Inside). HasNoDraft old line x) read.inside_is none))

-- ---- the size of its unit

pub unit_small : (old : LevelSum) (f : LineFacts) (kept : Option Inside) (draft : Draft) → pos 0 <ℤ old.own → IsFitting (old.own *ℤ old.unit) → IsDraft old f kept draft → unsigned_abs draft.unit < 2 ^ 72
unit_small old f kept draft h scale is =
    subst (λ (z : ℤ). unsigned_abs z < 2 ^ 72) (sym is.unit_is) (risen_small (pos is.times) (pos (unsigned_abs old.unit)) is.rise.small (unit_bound old.own old.unit (2 ^ 42) h scale))
