-- What two writings of a level have in common.
use Rattle.std.proofs.Common.{ℕ, List, ℤ, Bool, false, pos, true, ◌≤ℤ◌}
use Rattle.problem_core.specs.declared.parts.Mark.{Mark}
use Rattle.problem_core.specs.declared.parts.Term.{Term}
use Rattle.problem_core.specs.Layout.{Problem}
use Rattle.problem_core.specs.Corners.{IsWritingOf, IsIn, SameMarks, NoNegativeColumn, NoNegativeValue, attr_column, place}
use Rattle.problem_core.specs.Levels.{HasNoLevelWriting}
use Rattle.corner_laws.proofs.RunSteps.RunPaths.{contains_in, same_stands}
use Rattle.problem_core.specs.declared.stops.What.TheVariants.{Attr as AttrOf, Level as LevelOf, Mark as MarkOf}
use Rattle.problem_core.specs.Unfit.{HasNoWriting, IsUnfitWhat}
use Rattle.problem_core.specs.Changes.Paths.{IsSound}
use Rattle.problem_core.specs.declared.stops.What.{What}
use Rattle.corner_laws.proofs.WrittenValues.{contains_each}
use Rattle.std.proofs.lemmas.List.Elements.{recursion_from_All}
use Rattle.problem_core.proofs.Marks.{same-multipliers as same_multipliers}

pub same-writing : (p : Problem) (a b : List Mark) (quantity : (ℕ → ℤ) → ℤ) (scale : ℕ) (form : List Term) (num : ℤ) (den : ℕ) → ((v : ℕ) → IsIn v b → IsIn v a) → IsWritingOf p a quantity scale form num den → IsWritingOf p b quantity scale form num den
same-writing p a b quantity scale form num den back h = record {
  scale_positive = h.scale_positive;
  den_positive = h.den_positive;
  outside = λ v some. ((h.outside v some).0, λ i. (h.outside v some).1 (back v i));
  holds = h.holds;
  lowest = h.lowest;
}

pub unfit-level : (p : Problem) (a b : List Mark) (k : ℕ) → SameMarks a b → HasNoLevelWriting p a k → HasNoLevelWriting p b k
unfit-level p a b k same h scale times reduced value w cost =
    h scale times reduced value
    (record { scale_positive = w.scale_positive; cancel = w.cancel; columns = w.columns; inside_zero = λ side i d within here. w.inside_zero side i d within (contains_in a b _ same.0 here); lowest = w.lowest })
    (cost.0, same_stands p a b cost.0 (λ v i. contains_in b a v same.1 i) cost.1, cost.2)

-- ---- what does not fit

pub unfit_writing : (p : Problem) (a b : List Mark) (quantity : (ℕ → ℤ) → ℤ) → SameMarks a b → HasNoWriting p a quantity → HasNoWriting p b quantity
unfit_writing p a b quantity same h scale form value w = h scale form value (same-writing p b a quantity scale form value.num value.den (λ v i. contains_in a b v same.0 i) w)

pub what_same : (p : Problem) (a b : List Mark) (what : What) → SameMarks a b → IsUnfitWhat p a what → IsUnfitWhat p b what
what_same p a b (AttrOf attr) same h = (h.0, unfit_writing p a b (λ x. x (attr_column attr)) same h.1)
what_same p a b (MarkOf m) same h = (contains_in a b (place m) same.0 h.0, unfit_writing p a b (λ x. x (place m)) same h.1)
what_same p a b (LevelOf level) same h = (h.0, h.1, unfit-level p a b h.0 same h.2)

-- ---- what is judged at a corner

pub values_same : (p : Problem) (a b : List Mark) → SameMarks a b → NoNegativeValue p a → NoNegativeValue p b
values_same p a b same (x, stands, up) = (
  x,
  same_stands p b a x (λ v i. contains_in a b v same.0 i) stands,
  λ i d within. contains_each (λ c. pos 0 ≤ℤ x.num c) a _ (recursion_from_All (λ m. pos 0 ≤ℤ x.num (place m)) a up) (same.1 i d within),
)

pub columns_same : (p : Problem) (a b : List Mark) → SameMarks a b → NoNegativeColumn p a → NoNegativeColumn p b
columns_same p a b same (m, is, up) = (m, same_multipliers p b a m (λ v i. contains_in b a v same.1 i) is, up)

pub sound_same : (dual : Bool) (p : Problem) (a b : List Mark) → SameMarks a b → IsSound dual p a → IsSound dual p b
sound_same true p a b same h = columns_same p a b same h
sound_same false p a b same h = values_same p a b same h
