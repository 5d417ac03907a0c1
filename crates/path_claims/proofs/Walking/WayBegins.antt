-- Where the way to a path's first corner begins, and how it goes on.
use Rattle.std.proofs.Common.{◌≡◌, ◌≢◌, ◌∙◌, ◌↔◌, ℕ, zero, suc, ◌+◌, ◌<◌, ◌++◌, List, [], ◌∷◌, length, map, take, drop, get_or, pos, All, refl, sym, subst, subst₂, arith, inl, inr, Option, None, Some, length-append}
use Rattle.std.proofs.lemmas.Bool.{cases_eq}
use Rattle.std.proofs.lemmas.List.{get_or_append_left, get_or_push}
use Rattle.problem_core.specs.declared.parts.Mark.{Mark}
use Rattle.problem_core.specs.declared.parts.RowName.{RowName}
use Rattle.problem_core.specs.declared.parts.RowName.TheVariants.{Held, Stay as StayOf}
use Rattle.problem_core.specs.declared.parts.Side.{Side}
use Rattle.problem_core.specs.declared.parts.Rel.TheVariants.{Eq}
use Rattle.problem_core.specs.declared.parts.Side.TheVariants.{Under, Over}
use Rattle.problem_core.specs.declared.parts.Stay.{Stay}
use Rattle.problem_core.specs.Layout.{Problem, Row, lines}
use Rattle.problem_core.specs.Corners.{IsCorner, IsIn, place, place_of}
use Rattle.problem_core.specs.Unfit.{over_mark}
use Rattle.cert_core.specs.Paths.{Path}
use Rattle.path_lines.specs.Route.{over_marks}
use Rattle.path_lines.specs.Tables.{name_at, names_of}
use Rattle.path_claims.specs.Ways.{AreFirstSides}
use Rattle.path_lines.proofs.Walking.FirstLines.{over_in, row_name, stay_name, stay_outside}
use Rattle.path_claims.proofs.MarkSides.TakenMarks.{no_line}
use Rattle.path_lines.proofs.MarkSides.Walks.{split_there}
use Rattle.problem_core.proofs.Sides.{none-not-some as none_some, some-same as some_same}

-- ---- the over marks by lines

pub one_side_more : (p : Problem) (n : ℕ) (sides : List (Option Side)) (o : Option Side) → AreFirstSides p n sides → ((side : Side) → (o ≡ Some side) ↔ IsIn (place_of (name_at p n) side) (over_marks p)) → AreFirstSides p (n + 1) (sides ++ o ∷ [])
one_side_more p n sides o is here = record {
  count = let l = length-append sides (o ∷ []) in omega (arith, l, is.count);
  each = λ k side less.
      elim (cases_eq k n) [
        | inl e ↦ subst₂ (λ (m : ℕ) (x : Option Side). (x ≡ Some side) ↔ IsIn (place_of (name_at p m) side) (over_marks p)) (sym e) (sym (get_or_push sides o None k (is.count ∙ sym e))) (here side)
        | inr ne ↦ subst (λ (x : Option Side). (x ≡ Some side) ↔ IsIn (place_of (name_at p k) side) (over_marks p)) (sym (get_or_append_left sides (o ∷ []) None k (omega (arith, less, ne, is.count)))) (is.each k side (omega (arith, less, ne)))
      ];
}

under_not_in : (rows : List Row) (id : ℕ) → IsIn (place_of (Held id) Under) (map (λ (r : Row). over_mark r.id) rows) → ⊥
under_not_in [] id (k, within, is) = absurd (omega (arith, within))
under_not_in (x ∷ rows) id (zero, within, is) = absurd (omega (arith, is))
under_not_in (x ∷ rows) id (suc k, within, is) = under_not_in rows id (k, omega (arith, within), is)

over_is_under : (a b : Side) → a ≡ Over → b ≡ Under → a ≡ b → ⊥
over_is_under a b x y e = subst is_over (sym x ∙ e ∙ y) tt
  where
    is_over : Side → Type 0
    is_over Under = ⊥
    is_over Over = Unit {0}

pub held_over : (p : Problem) (k : ℕ) (r : Row) (side : Side) → k < length p.rows → (Some Over ≡ Some side) ↔ IsIn (place_of (name_at p k) side) (over_marks p)
held_over p k r side within =
    let name : name_at p k ≡ Held (get_or p.rows k r).id = row_name p k r within in
    subst (λ (n : RowName). (Some Over ≡ Some side) ↔ IsIn (place_of n side) (over_marks p)) (sym name) (which side)
  where
    which : (side : Side) → (Some Over ≡ Some side) ↔ IsIn (place_of (Held (get_or p.rows k r).id) side) (over_marks p)
    which Under = (λ e. absurd (over_is_under Over Under refl refl (some_same Over Under e)), λ i. absurd (under_not_in p.rows (get_or p.rows k r).id i))
    which Over = (λ e. over_in p k r within, λ i. refl)

pub stay_none : (p : Problem) (i : ℕ) (s : Stay) (side : Side) → i < length p.stays → (None ≡ Some side) ↔ IsIn (place_of (name_at p (length p.rows + i)) side) (over_marks p)
stay_none p i s side within = (
  λ e. absurd (none_some side e),
  λ i_in. absurd (out side (subst (λ (n : RowName). IsIn (place_of n side) (over_marks p)) (stay_name p i s within) i_in)),
)
  where
    out : (side : Side) → IsIn (place_of (StayOf (get_or p.stays i s).attr) side) (over_marks p) → ⊥
    out Under = (stay_outside p (get_or p.stays i s).attr).under
    out Over = (stay_outside p (get_or p.stays i s).attr).over

-- ---- the next mark

pub mark_in : (at : List Mark) (k : ℕ) (d : Mark) → k < length at → IsIn (place (get_or at k d)) at
mark_in [] k d within = absurd (omega (arith, within))
mark_in (x ∷ at) zero d within = (0, omega arith, refl)
mark_in (x ∷ at) (suc k) d within = let i = mark_in at k d (omega (arith, within)) in (suc i.0, omega (arith, i.1), i.2)

pub any_row : Row
any_row = record { id = 0; rank = 0; weight = 0; rel = Eq; scale = 1; constant = record { num = pos 0; den = 1 }; terms = [] }

pub no_spot : (p : Problem) (path : Path) (items : List Mark) (names : List RowName) (i : ℕ) (d : Mark) → items ≡ path.corner → names ≡ names_of p → i < length items → All (λ n. n ≢ (get_or items i d).row) names → IsCorner p path.corner → ⊥
no_spot p path items names i d same named within none corner =
    let here : i < length path.corner = subst (λ (ms : List Mark). i < length ms) same within in
    no_line p names (take i path.corner) (drop (i + 1) path.corner) (get_or path.corner i d) named (subst (λ (ms : List Mark). All (λ n. n ≢ (get_or ms i d).row) names) same none)
    (subst (IsCorner p) (split_there path.corner i d here) corner)
