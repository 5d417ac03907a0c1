-- The corners of a path are different exactly where their marks by lines are.
use Rattle.std.proofs.Common.{◌≡◌, ◌≢◌, ◌∙◌, ◌↔◌, ◌⊎◌, ℕ, ◌<◌, List, [], ◌∷◌, map, set, get_or, length, refl, sym, ap, subst, arith, inl, inr, Option, None, Some, All, Any, length-set, get_or-set_same, get_or-set_other, ext_get_or}
use Rattle.std.specs.Prelude.{slice_index_or}
use Rattle.std.specs.List.{AllByRecursion as Each}
use Rattle.std.proofs.lemmas.Bool.{cases_eq}
use Rattle.std.proofs.lemmas.List.Elements.{All-from_recursion, recursion_from_All}
use Rattle.std.proofs.lemmas.List.Kept.{AllPairs-cons}
use Rattle.problem_core.specs.declared.parts.Mark.{Mark}
use Rattle.problem_core.specs.declared.parts.RowName.{RowName}
use Rattle.problem_core.specs.declared.parts.Side.{Side}
use Rattle.problem_core.specs.declared.parts.Side.TheVariants.{Under, Over}
use Rattle.problem_core.specs.Layout.{Problem}
use Rattle.problem_core.specs.Kept.{IsWhole}
use Rattle.problem_core.specs.Changes.Begins.{AreExchanges}
use Rattle.problem_core.specs.Corners.{ArePairwiseDifferent, IsCorner, IsExchange, IsIn, SameMarks, corners, exchanged, place, place_of}
use Rattle.problem_core.proofs.Forms.{each-impl}
use Rattle.corner_laws.proofs.Counting.{head_pairs}
use Rattle.corner_laws.proofs.Exchanged.{exchanged_in}
use Rattle.corner_laws.proofs.ZeroColumns.{all-marks}
use Rattle.corner_lines.proofs.LevelRows.LevelExchanges.{by-sides}
use Rattle.path_lines.specs.declared.spots.Step.{Step}
use Rattle.path_lines.specs.Tables.{AreSides, line_count, name_at, swap_of}
use Rattle.path_lines.specs.Sides.{ApartBySides, ComesTwice, IsWithin, moved_sides, walk}
use Rattle.path_lines.proofs.Walking.Bringing.{one_mark_of_line}
use Rattle.path_lines.proofs.Places.{names_differ}
use Rattle.path_lines.proofs.Arithmetic.ValueSigns.{inside_place}
use Rattle.frac_core.proofs.Lists.{any-later as any_later, any-cases as any_case, any-here as any_here, pairs-rest as tail_pairs}
use Rattle.problem_core.proofs.Sides.{none-not-some as none_some, some-same as some_same}
use Rattle.corner_laws.proofs.RunSteps.RunPaths.{contains_in as goes_over}
use Rattle.problem_core.proofs.Marks.{entered-in as enter_in, kept-in as kept_in}

pub one_side : (p : Problem) (at : List Mark) (name : RowName) (a b : Side) → IsWhole p → IsCorner p at → IsIn (place_of name a) at → IsIn (place_of name b) at → a ≡ b
one_side p at name Under Under whole corner x y = refl
one_side p at name Under Over whole corner x y = absurd (one_mark_of_line p at name whole corner x y)
one_side p at name Over Under whole corner x y = absurd (one_mark_of_line p at name whole corner y x)
one_side p at name Over Over whole corner x y = refl

-- ---- an exchange

abbrev IsSideOf : Problem → List Mark → ℕ → Option Side → Type 0
IsSideOf p at k o = (side : Side) → (o ≡ Some side) ↔ IsIn (place_of (name_at p k) side) at

at_enter : (p : Problem) (at : List Mark) (step : Step) → IsWhole p → IsExchange p at (swap_of p step) → IsSideOf p (exchanged (swap_of p step) at) step.enter.at (Some step.enter.side)
at_enter p at step whole ex side = (
  λ e. subst (λ (s : Side). IsIn (place_of (name_at p step.enter.at) s) (exchanged (swap_of p step) at)) (some_same step.enter.side side e) (enter_in (swap_of p step) at ex.leaves),
  λ i. ap Some (one_side p (exchanged (swap_of p step) at) (name_at p step.enter.at) step.enter.side side whole ex.corner (enter_in (swap_of p step) at ex.leaves) i),
)

at_leave : (p : Problem) (at : List Mark) (step : Step) → IsWhole p → IsCorner p at → IsWithin (line_count p) step → step.leave.at ≢ step.enter.at → IsExchange p at (swap_of p step) → IsSideOf p (exchanged (swap_of p step) at) step.leave.at None
at_leave p at step whole corner within other ex side = (
  λ e. absurd (none_some side e),
  λ i. absurd
      (elim (exchanged_in (swap_of p step) at (place_of (name_at p step.leave.at) side) i) [
        | inl same ↦ names_differ p step.leave.at step.enter.at whole within.1 within.0 other (by-sides (name_at p step.leave.at) (name_at p step.enter.at) side step.enter.side same).0
        | inr was ↦ was.1 (ap (λ (s : Side). place_of (name_at p step.leave.at) s) (one_side p at (name_at p step.leave.at) side step.leave.side whole corner was.0 ex.leaves))
      ]),
)

elsewhere : (p : Problem) (at : List Mark) (step : Step) (k : ℕ) (o : Option Side) → IsWhole p → IsWithin (line_count p) step → k < line_count p → k ≢ step.enter.at → k ≢ step.leave.at → IsSideOf p at k o → IsSideOf p (exchanged (swap_of p step) at) k o
elsewhere p at step k o whole within here not_enter not_leave is side = (
  λ e. kept_in (swap_of p step) at (place_of (name_at p k) side) ((is side).0 e) (λ same. names_differ p k step.leave.at whole here within.1 not_leave (by-sides (name_at p k) (name_at p step.leave.at) side step.leave.side same).0),
  λ i. elim (exchanged_in (swap_of p step) at (place_of (name_at p k) side) i) [
    | inl same ↦ absurd (names_differ p k step.enter.at whole here within.0 not_enter (by-sides (name_at p k) (name_at p step.enter.at) side step.enter.side same).0)
    | inr was ↦ (is side).1 was.0
  ],
)

pub moved_are_sides : (p : Problem) (at : List Mark) (sides : List (Option Side)) (step : Step) → IsWhole p → IsCorner p at → IsWithin (line_count p) step → IsExchange p at (swap_of p step) → AreSides p at sides → AreSides p (exchanged (swap_of p step) at) (moved_sides step sides)
moved_are_sides p at sides step whole corner within ex are =
    let first : length (set sides step.leave.at None) ≡ length sides = length-set sides step.leave.at None in
    record {
      count = length-set (set sides step.leave.at None) step.enter.at (Some step.enter.side) ∙ first ∙ are.count;
      each = λ k side here.
          elim (cases_eq k step.enter.at) [
            | inl e ↦
                subst (λ (j : ℕ). IsSideOf p (exchanged (swap_of p step) at) j (slice_index_or (moved_sides step sides) j None)) (sym e)
                (subst (λ (o : Option Side). IsSideOf p (exchanged (swap_of p step) at) step.enter.at o)
                (sym (get_or-set_same (set sides step.leave.at None) step.enter.at (Some step.enter.side) None (omega (arith, within.0, first, are.count))))
                (at_enter p at step whole ex)) side
            | inr not_enter ↦
                subst (λ (o : Option Side). IsSideOf p (exchanged (swap_of p step) at) k o) (sym (get_or-set_other (set sides step.leave.at None) step.enter.at k (Some step.enter.side) None not_enter))
                (elim (cases_eq k step.leave.at) [
                  | inl e ↦
                      subst (λ (j : ℕ). IsSideOf p (exchanged (swap_of p step) at) j (get_or (set sides step.leave.at None) j None)) (sym e)
                      (subst (λ (o : Option Side). IsSideOf p (exchanged (swap_of p step) at) step.leave.at o) (sym (get_or-set_same sides step.leave.at None None (omega (arith, within.1, are.count))))
                      (at_leave p at step whole corner within (λ same. not_enter (e ∙ same)) ex))
                  | inr not_leave ↦
                      subst (λ (o : Option Side). IsSideOf p (exchanged (swap_of p step) at) k o) (sym (get_or-set_other sides step.leave.at k None None not_leave))
                      (elsewhere p at step k (get_or sides k None) whole within here not_enter not_leave (λ s. are.each k s here))
                ]) side
          ];
    }

-- ---- the same marks

one_way : (p : Problem) (a b : List Mark) (x y : List (Option Side)) → IsCorner p a → AreSides p a x → AreSides p b y → x ≡ y → All (λ m. IsIn (place m) b) a
one_way p a b x y corner first second same =
    All-from_recursion (λ m. IsIn (place m) b) a
    (each-impl (λ m. IsIn (place m) a) (λ m. IsIn (place m) b) a
    (λ m i.
    let k : (k : ℕ) × (k < line_count p) × (name_at p k ≡ m.row) = inside_place p a m corner i in
    let here : IsIn (place_of (name_at p k.0) m.side) a = subst (λ (n : RowName). IsIn (place_of n m.side) a) (sym k.2) i in
    let side : slice_index_or y k.0 None ≡ Some m.side = ap (λ (z : List (Option Side)). slice_index_or z k.0 None) (sym same) ∙ (first.each k.0 m.side k.1).1 here in
    subst (λ (n : RowName). IsIn (place_of n m.side) b) k.2 ((second.each k.0 m.side k.1).0 side))
    (all-marks a))

pub same_from_sides : (p : Problem) (a b : List Mark) (x y : List (Option Side)) → IsCorner p a → IsCorner p b → AreSides p a x → AreSides p b y → x ≡ y → SameMarks a b
same_from_sides p a b x y one two first second same = (one_way p a b x y one first second same, one_way p b a y x two second first (sym same))

same_option : (x y : Option Side) → ((s : Side) → x ≡ Some s → y ≡ Some s) → ((s : Side) → y ≡ Some s → x ≡ Some s) → x ≡ y
same_option None None f g = refl
same_option None (Some t) f g = absurd (none_some t (g t refl))
same_option (Some s) y f g = sym (f s refl)

pub sides_from_same : (p : Problem) (a b : List Mark) (x y : List (Option Side)) → AreSides p a x → AreSides p b y → SameMarks a b → x ≡ y
sides_from_same p a b x y first second same =
    ext_get_or None x y (first.count ∙ sym second.count)
    (λ k within.
    let here : k < line_count p = omega (arith, within, first.count) in
    same_option (get_or x k None) (get_or y k None)
    (λ s e. (second.each k s here).1 (goes_over a b (place_of (name_at p k) s) same.0 ((first.each k s here).0 e)))
    (λ s e. (first.each k s here).1 (goes_over b a (place_of (name_at p k) s) same.1 ((second.each k s here).0 e))))

-- ---- along the path

-- the corners from here on are other ones than the first exactly where the sides are
far : (p : Problem) (first at : List Mark) (x sides : List (Option Side)) (steps : List Step) → IsWhole p → AreSides p first x → IsCorner p at → AreSides p at sides → Each (IsWithin (line_count p)) steps → AreExchanges p at (map (swap_of p) steps)
    → (sides ≡ x → ⊥) → (Any (λ next. next ≡ x) (walk sides steps) → ⊥) → Each (λ c. SameMarks first c → ⊥) (corners at (map (swap_of p) steps))
far p first at x sides [] whole first_are corner are within ex here later = ((λ same. here (sym (sides_from_same p first at x sides first_are are same))), tt)
far p first at x sides (s ∷ steps) whole first_are corner are within ex here later = (
  (λ same. here (sym (sides_from_same p first at x sides first_are are same))),
  far p first (exchanged (swap_of p s) at) x (moved_sides s sides) steps whole first_are ex.0.corner (moved_are_sides p at sides s whole corner within.0 ex.0 are) within.1 ex.1
      (λ e. later (any_here (λ next. next ≡ x) (moved_sides s sides) (walk (moved_sides s sides) steps) e))
      (λ any. later (any_later (λ next. next ≡ x) (moved_sides s sides) (walk (moved_sides s sides) steps) any)),
)

near : (p : Problem) (first at : List Mark) (x sides : List (Option Side)) (steps : List Step) → IsWhole p → IsCorner p first → AreSides p first x → IsCorner p at → AreSides p at sides → Each (IsWithin (line_count p)) steps → AreExchanges p at (map (swap_of p) steps)
    → Each (λ c. SameMarks first c → ⊥) (corners at (map (swap_of p) steps)) → (sides ≡ x) ⊎ Any (λ next. next ≡ x) (walk sides steps) → ⊥
near p first at x sides [] whole begin first_are corner are within ex apart (inl e) = apart.0 (same_from_sides p first at x sides begin corner first_are are (sym e))
near p first at x sides [] whole begin first_are corner are within ex apart (inr any) = absurd (omega (arith, any.2))
near p first at x sides (s ∷ steps) whole begin first_are corner are within ex apart (inl e) = apart.0 (same_from_sides p first at x sides begin corner first_are are (sym e))
near p first at x sides (s ∷ steps) whole begin first_are corner are within ex apart (inr any) =
    near p first (exchanged (swap_of p s) at) x (moved_sides s sides) steps whole begin first_are ex.0.corner (moved_are_sides p at sides s whole corner within.0 ex.0 are) within.1 ex.1 apart.1
    (any_case (λ next. next ≡ x) (moved_sides s sides) (walk (moved_sides s sides) steps) any)

to_apart : (p : Problem) (at : List Mark) (sides : List (Option Side)) (steps : List Step) → IsWhole p → IsCorner p at → AreSides p at sides → Each (IsWithin (line_count p)) steps → AreExchanges p at (map (swap_of p) steps) → (ComesTwice sides steps → ⊥)
    → ArePairwiseDifferent (corners at (map (swap_of p) steps))
to_apart p at sides [] whole corner are within ex none = λ i j d before inside. absurd (omega (arith, before, inside))
to_apart p at sides (s ∷ steps) whole corner are within ex none =
    let next : AreSides p (exchanged (swap_of p s) at) (moved_sides s sides) = moved_are_sides p at sides s whole corner within.0 ex.0 are in
    AllPairs-cons (λ (a b : List Mark). SameMarks a b → ⊥) at (corners (exchanged (swap_of p s) at) (map (swap_of p) steps))
    (All-from_recursion (λ c. SameMarks at c → ⊥) (corners (exchanged (swap_of p s) at) (map (swap_of p) steps))
    (far p at (exchanged (swap_of p s) at) sides (moved_sides s sides) steps whole are ex.0.corner next within.1 ex.1
    (λ e. none (inl (any_here (λ (z : List (Option Side)). z ≡ sides) (moved_sides s sides) (walk (moved_sides s sides) steps) e)))
    (λ any. none (inl (any_later (λ (z : List (Option Side)). z ≡ sides) (moved_sides s sides) (walk (moved_sides s sides) steps) any)))))
    (to_apart p (exchanged (swap_of p s) at) (moved_sides s sides) steps whole ex.0.corner next within.1 ex.1 (λ t. none (inr t)))

from_apart : (p : Problem) (at : List Mark) (sides : List (Option Side)) (steps : List Step) → IsWhole p → IsCorner p at → AreSides p at sides → Each (IsWithin (line_count p)) steps → AreExchanges p at (map (swap_of p) steps)
    → ArePairwiseDifferent (corners at (map (swap_of p) steps)) → ComesTwice sides steps → ⊥
from_apart p at sides [] whole corner are within ex apart twice = twice
from_apart p at sides (s ∷ steps) whole corner are within ex apart (inl any) =
    near p at (exchanged (swap_of p s) at) sides (moved_sides s sides) steps whole corner are ex.0.corner (moved_are_sides p at sides s whole corner within.0 ex.0 are) within.1 ex.1
    (recursion_from_All (λ c. SameMarks at c → ⊥) (corners (exchanged (swap_of p s) at) (map (swap_of p) steps)) (head_pairs (λ (a b : List Mark). SameMarks a b → ⊥) at (corners (exchanged (swap_of p s) at) (map (swap_of p) steps)) apart))
    (any_case (λ (z : List (Option Side)). z ≡ sides) (moved_sides s sides) (walk (moved_sides s sides) steps) any)
from_apart p at sides (s ∷ steps) whole corner are within ex apart (inr twice) =
    from_apart p (exchanged (swap_of p s) at) (moved_sides s sides) steps whole ex.0.corner (moved_are_sides p at sides s whole corner within.0 ex.0 are) within.1 ex.1
    (tail_pairs (λ (a b : List Mark). SameMarks a b → ⊥) at (corners (exchanged (swap_of p s) at) (map (swap_of p) steps)) apart) twice

pub apart_by_sides : ApartBySides
apart_by_sides p at sides steps whole corner are within ex = (
  to_apart p at sides steps whole corner are (recursion_from_All (IsWithin (line_count p)) steps within) ex,
  from_apart p at sides steps whole corner are (recursion_from_All (IsWithin (line_count p)) steps within) ex,
)
