-- The names and numbers of lines by their places.
use Rattle.std.proofs.Common.{◌≡◌, ◌≢◌, ◌∙◌, ℕ, ◌<◌, List, [], map, length, get_or, ℤ, pos, sym, ap, subst, arith, inl, inr, Contains}
use Rattle.std.proofs.lemmas.Bool.{cases_lt}
use Rattle.std.proofs.lemmas.List.Elements.{All-from_recursion}
use Rattle.std.proofs.Math.ListN.{get_or-map}
use Rattle.std.proofs.lemmas.List.{get_or_default, length-map}
use Rattle.problem_core.specs.declared.parts.Rel.TheVariants.{Eq}
use Rattle.problem_core.specs.declared.parts.Side.{Side}
use Rattle.problem_core.specs.declared.parts.Stay.{Stay}
use Rattle.problem_core.specs.declared.parts.RowName.{RowName}
use Rattle.problem_core.specs.declared.parts.RowName.TheVariants.{Held}
use Rattle.problem_core.specs.Layout.{Line, Problem, lines}
use Rattle.problem_core.specs.Kept.{IsWhole}
use Rattle.problem_core.specs.Corners.{marks_of, place, place_of}
use Rattle.corner_laws.proofs.LinePlaces.{lines_apart}
use Rattle.corner_lines.proofs.Lines.LineWritings.{Named, named-mark, own-named}
use Rattle.path_lines.specs.Numbers.{number_at}
use Rattle.path_lines.specs.Tables.{line_count, name_at, numbers_of}
use Rattle.path_lines.proofs.Exchanges.EnteringLine.{at_place, name_apart}

abbrev pub any_stay : Stay
any_stay = record { attr = 0; target = record { num = pos 0; den = 1 } }

abbrev pub any_line : Line
any_line = record { name = Held 0; level = 0; weight = 0; rel = Eq; scale = 1; num = pos 0; den = 1; form = [] }

pub name_there : (p : Problem) (k : ℕ) (d : Line) → k < line_count p → (get_or (lines p) k d).name ≡ name_at p k
name_there p k d within =
    sym (get_or-map (λ (l : Line). l.name) (lines p) k d)
    ∙ get_or_default (map (λ (l : Line). l.name) (lines p)) k d.name (Held 0) (omega (arith, within, length-map (lines p) (λ (l : Line). l.name)))

pub number_there : (p : Problem) (by : List ℤ) (k : ℕ) → IsWhole p → length by ≡ line_count p → k < line_count p → numbers_of (lines p) by (name_at p k) ≡ number_at by k
number_there p by k whole count within =
    ap (numbers_of (lines p) by) (sym (name_there p k any_line within)) ∙ at_place (lines p) by k any_line (lines_apart p whole) count within

pub names_differ : (p : Problem) (k e : ℕ) → IsWhole p → k < line_count p → e < line_count p → k ≢ e → name_at p k ≢ name_at p e
names_differ p k e whole here there ne =
    λ same. elim (cases_lt k e) [
      | inl before ↦ name_apart (lines p) k e any_line (lines_apart p whole) before there (name_there p k any_line here ∙ same ∙ sym (name_there p e any_line there))
      | inr from ↦
          elim (cases_lt e k) [
            | inl after ↦ name_apart (lines p) e k any_line (lines_apart p whole) after here (name_there p e any_line there ∙ sym same ∙ sym (name_there p k any_line here))
            | inr not_after ↦ ne (omega (arith, from, not_after))
          ]
    ]

pub name_is_named : (p : Problem) (k : ℕ) → k < line_count p → Named (name_at p k) (lines p)
name_is_named p k within =
    subst (λ (n : RowName). Named n (lines p)) (name_there p k any_line within)
    (All-from_recursion (λ l. Named l.name (lines p)) (lines p) (own-named (lines p)) k any_line within)

pub mark_is_there : (p : Problem) (k : ℕ) (side : Side) → k < line_count p → Contains (map place (marks_of (lines p))) (place_of (name_at p k) side)
mark_is_there p k side within = named-mark p (name_at p k) side (name_is_named p k within)
