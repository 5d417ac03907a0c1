-- What a line counts, by what is kept of it.
use Rattle.std.proofs.Common.{◌≡◌, ◌≢◌, ◌∙◌, ℕ, ◌*◌, ◌/◌, ◌<◌, List, [], ◌∷◌, length, ℤ, pos, ◌+ℤ◌, ◌-ℤ◌, neg_ℤ, unsigned_abs, refl, sym, ap, ap₂, arith, inl, inr}
use Rattle.std.proofs.lemmas.Bool.{cases_eq}
use Rattle.problem_core.specs.declared.parts.Rel.{Rel}
use Rattle.problem_core.specs.declared.parts.Rel.TheVariants.{Eq, Le, Ge}
use Rattle.problem_core.specs.declared.parts.Side.{Side}
use Rattle.problem_core.specs.declared.parts.Side.TheVariants.{Under, Over}
use Rattle.problem_core.specs.Layout.{Line, Problem}
use Rattle.problem_core.specs.Certificates.{over_weight, under_weight, weight_at}
use Rattle.corner_laws.specs.Units.{over_share, under_share}
use Rattle.corner_lines.specs.Levels.LevelRows.{inside_number, reduced_number}
use Rattle.path_levels.specs.declared.outline.LineFacts.{LineFacts}
use Rattle.path_levels.specs.declared.outline.LevelFacts.{LevelFacts}
use Rattle.path_levels.specs.declared.sums.LevelSum.{LevelSum}
use Rattle.path_levels.specs.Outlines.{AreFactsOf, AreLevelFacts, IsFactsOf, number_at}
use Rattle.path_levels.specs.Shares.{reduced_of, share_at, stood_of, weight_on}
use Rattle.path_levels.proofs.Counting.ShareFacts.{share_here, share_none}
use Rattle.problem_core.proofs.Lines.{own-weight as own_weight, weight-none as no_weight}
use Rattle.path_levels.proofs.Joining.JoinRows.{zero-over as zero_over}
use Rattle.path_levels.proofs.Parts.RowsLoop.{one-place as one_level}

-- ---- what it counts

abbrev line_share : Side → ℕ → ℕ → Line → ℕ
line_share Under unit level l = under_share unit level l
line_share Over unit level l = over_share unit level l

under_times : (r : Rel) (u w s : ℕ) → u * under_weight r w / s ≡ under_weight r (u * w / s)
under_times Eq u w s = refl
under_times Ge u w s = refl
under_times Le u w s = zero_over u s

over_times : (r : Rel) (u w s : ℕ) → u * over_weight r w / s ≡ over_weight r (u * w / s)
over_times Eq u w s = refl
over_times Le u w s = refl
over_times Ge u w s = zero_over u s

under_none : (r : Rel) (u s w : ℕ) → w ≡ 0 → under_weight r (u * w / s) ≡ 0
under_none Eq u s w e = ap (λ (n : ℕ). u * n / s) e ∙ zero_over u s
under_none Ge u s w e = ap (λ (n : ℕ). u * n / s) e ∙ zero_over u s
under_none Le u s w e = refl

over_none : (r : Rel) (u s w : ℕ) → w ≡ 0 → over_weight r (u * w / s) ≡ 0
over_none Eq u s w e = ap (λ (n : ℕ). u * n / s) e ∙ zero_over u s
over_none Le u s w e = ap (λ (n : ℕ). u * n / s) e ∙ zero_over u s
over_none Ge u s w e = refl

share_own : (side : Side) (levels : List LevelFacts) (l : Line) (f : LineFacts) (unit : ℤ) (level : ℕ) → IsFactsOf levels l f → l.level ≡ level → unsigned_abs unit * unsigned_abs (weight_on side f) / unsigned_abs f.scale ≡ line_share side (unsigned_abs unit) level l
share_own Under levels l f unit level is e =
    ap₂ (λ (w s : ℕ). unsigned_abs unit * w / s) (ap unsigned_abs is.under) (ap unsigned_abs is.scale)
    ∙ under_times l.rel (unsigned_abs unit) l.weight l.scale ∙ ap (λ (w : ℕ). under_weight l.rel (unsigned_abs unit * w / l.scale)) (sym (own_weight l level e))
share_own Over levels l f unit level is e =
    ap₂ (λ (w s : ℕ). unsigned_abs unit * w / s) (ap unsigned_abs is.over) (ap unsigned_abs is.scale)
    ∙ over_times l.rel (unsigned_abs unit) l.weight l.scale ∙ ap (λ (w : ℕ). over_weight l.rel (unsigned_abs unit * w / l.scale)) (sym (own_weight l level e))

share_other : (side : Side) (unit level : ℕ) (l : Line) → l.level ≢ level → line_share side unit level l ≡ 0
share_other Under unit level l ne = under_none l.rel unit l.scale (weight_at l level) (no_weight l level ne)
share_other Over unit level l ne = over_none l.rel unit l.scale (weight_at l level) (no_weight l level ne)

pub own_level : (p : Problem) (levels : List LevelFacts) (place : ℕ) (l : Line) (f : LineFacts) (d : LevelFacts) → AreLevelFacts p levels → place < length levels → IsFactsOf levels l f → l.level ≡ number_at levels place → f.level ≡ place
own_level p levels place l f d are within is e = one_level p levels f.level place d are is.level within (is.number ∙ e)

pub level_own : (levels : List LevelFacts) (place : ℕ) (l : Line) (f : LineFacts) → IsFactsOf levels l f → f.level ≡ place → l.level ≡ number_at levels place
level_own levels place l f is e = sym is.number ∙ ap (number_at levels) e

share_line : (side : Side) (p : Problem) (levels : List LevelFacts) (place : ℕ) (l : Line) (f : LineFacts) (d : LevelFacts) (unit : ℤ) → AreLevelFacts p levels → place < length levels → IsFactsOf levels l f
    → share_at f side place unit ≡ line_share side (unsigned_abs unit) (number_at levels place) l
share_line side p levels place l f d unit are within is =
    elim (cases_eq f.level place) [
      | inl e ↦ share_here f side place unit e ∙ share_own side levels l f unit (number_at levels place) is (level_own levels place l f is e)
      | inr ne ↦ share_none f side place unit ne ∙ sym (share_other side (unsigned_abs unit) (number_at levels place) l (λ e. ne (own_level p levels place l f d are within is e)))
    ]

pub stood_line : (side : Side) (p : Problem) (levels : List LevelFacts) (place : ℕ) (l : Line) (f : LineFacts) (d : LevelFacts) (sum : LevelSum) → AreLevelFacts p levels → place < length levels → IsFactsOf levels l f
    → stood_of f side place sum ≡ inside_number side (number_at levels place) (unsigned_abs sum.unit) (unsigned_abs sum.own) l
stood_line Under p levels place l f d sum are within is = ap (λ (n : ℕ). pos (unsigned_abs sum.own * n)) (share_line Under p levels place l f d sum.unit are within is)
stood_line Over p levels place l f d sum are within is = ap (λ (n : ℕ). neg_ℤ (pos (unsigned_abs sum.own * n))) (share_line Over p levels place l f d sum.unit are within is)

pub reduced_line : (side : Side) (p : Problem) (levels : List LevelFacts) (place : ℕ) (l : Line) (f : LineFacts) (d : LevelFacts) (sum : LevelSum) (y : ℤ) → AreLevelFacts p levels → place < length levels → IsFactsOf levels l f
    → reduced_of f side place sum y ≡ reduced_number side (number_at levels place) (unsigned_abs sum.unit) (unsigned_abs sum.own) y l
reduced_line Under p levels place l f d sum y are within is = ap (λ (n : ℕ). pos (unsigned_abs sum.own * n) -ℤ y) (share_line Under p levels place l f d sum.unit are within is)
reduced_line Over p levels place l f d sum y are within is = ap (λ (n : ℕ). pos (unsigned_abs sum.own * n) +ℤ y) (share_line Over p levels place l f d sum.unit are within is)

-- ---- lines and facts

pub facts_count : (levels : List LevelFacts) (ls : List Line) (facts : List LineFacts) → AreFactsOf levels ls facts → length facts ≡ length ls
facts_count levels [] [] are = refl
facts_count levels [] (f ∷ facts) are = absurd are
facts_count levels (l ∷ ls) [] are = absurd are
facts_count levels (l ∷ ls) (f ∷ facts) are = let h = facts_count levels ls facts are.1 in omega (arith, h)
