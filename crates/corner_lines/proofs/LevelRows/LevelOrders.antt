-- The order of a corner's marks is free.
use Rattle.std.proofs.Common.{◌≡◌, ℕ, ◌*◌, List, ℤ, pos, neg_ℤ, unsigned_abs, All}
use Rattle.std.specs.Int.{◌∣◌}
use Rattle.std.proofs.lemmas.List.Elements.{All-from_recursion, recursion_from_All}
use Rattle.frac_core.specs.Fraction.{Fraction}
use Rattle.problem_core.specs.declared.parts.Mark.{Mark}
use Rattle.problem_core.specs.declared.parts.Side.TheVariants.{Under, Over}
use Rattle.problem_core.specs.declared.parts.RowName.{RowName}
use Rattle.problem_core.specs.Layout.{Problem, lines}
use Rattle.problem_core.specs.Corners.{IsIn, Point, StandsAt, marks_of, place, place_of}
use Rattle.problem_core.specs.Levels.{IsCostAt, IsLevelWriting}
use Rattle.problem_core.proofs.Forms.{each-impl}
use Rattle.corner_laws.specs.Units.{over_share, under_share}
use Rattle.corner_laws.proofs.WrittenValues.{contains_each}
use Rattle.corner_lines.specs.LineEquations.{IsOutsideLine}
use Rattle.corner_lines.specs.Levels.LevelRows.{HasLevelRow}
use Rattle.corner_lines.specs.Levels.LevelCosts.{OrderIsFree}

-- each mark of the one is in the other
abbrev AreIn : List Mark → List Mark → Type 0
AreIn a b = (c : ℕ) → IsIn c a → IsIn c b

are-in : (a b : List Mark) → All (λ m. IsIn (place m) b) a → AreIn a b
are-in a b h c i = contains_each (λ c. IsIn c b) a c (recursion_from_All (λ m. IsIn (place m) b) a h) i

out-of : (a b : List Mark) (name : RowName) → AreIn a b → IsOutsideLine b name → IsOutsideLine a name
out-of a b name f out = record { under = λ i. out.under (f (place_of name Under) i); over = λ i. out.over (f (place_of name Over) i) }

row-there : (p : Problem) (a b : List Mark) (level unit own : ℕ) (number : RowName → ℤ) → AreIn a b → AreIn b a → HasLevelRow p a level unit own number → HasLevelRow p b level unit own number
row-there p a b level unit own number to from h = record {
  by = h.by;
  row = record {
    own_positive = h.row.own_positive;
    cancel = h.row.cancel;
    under = All-from_recursion (λ l. IsIn (place_of l.name Under) b → h.by l.name ≡ pos (own * under_share unit level l)) (lines p) (each-impl (λ l. IsIn (place_of l.name Under) a → h.by l.name ≡ pos (own * under_share unit level l)) _ (lines p) (λ l k i. k (from (place_of l.name Under) i)) (recursion_from_All _ (lines p) h.row.under));
    over = All-from_recursion (λ l. IsIn (place_of l.name Over) b → h.by l.name ≡ neg_ℤ (pos (own * over_share unit level l))) (lines p) (each-impl (λ l. IsIn (place_of l.name Over) a → h.by l.name ≡ neg_ℤ (pos (own * over_share unit level l))) _ (lines p) (λ l k i. k (from (place_of l.name Over) i)) (recursion_from_All _ (lines p) h.row.over));
    lowest = λ k d each.
        h.row.lowest k d
        (All-from_recursion (λ l. (IsIn (place_of l.name Under) a → ⊥) → (IsIn (place_of l.name Over) a → ⊥) → k ∣ unsigned_abs (h.by l.name)) (lines p)
        (each-impl (λ l. (IsIn (place_of l.name Under) b → ⊥) → (IsIn (place_of l.name Over) b → ⊥) → k ∣ unsigned_abs (h.by l.name)) _ (lines p)
        (λ l e u o. e (λ i. u (from (place_of l.name Under) i)) (λ i. o (from (place_of l.name Over) i))) (recursion_from_All _ (lines p) each)));
  };
  outside = All-from_recursion (λ l. IsOutsideLine b l.name → h.by l.name ≡ number l.name) (lines p) (each-impl (λ l. IsOutsideLine a l.name → h.by l.name ≡ number l.name) _ (lines p) (λ l k out. k (out-of a b l.name to out)) (recursion_from_All _ (lines p) h.outside));
}

stands-there : (p : Problem) (a b : List Mark) (x : Point) → AreIn a b → StandsAt p a x → StandsAt p b x
stands-there p a b x to h = (
  h.0,
  All-from_recursion (λ m. (IsIn (place m) b → ⊥) → x.num (place m) ≡ pos 0) (marks_of (lines p)) (each-impl (λ m. (IsIn (place m) a → ⊥) → x.num (place m) ≡ pos 0) _ (marks_of (lines p)) (λ m k out. k (λ i. out (to (place m) i))) (recursion_from_All _ (marks_of (lines p)) h.1)),
)

cost-there : (p : Problem) (a b : List Mark) (level : ℕ) (cost : Fraction) → AreIn a b → IsCostAt p a level cost → IsCostAt p b level cost
cost-there p a b level cost to (x, here, e) = (x, stands-there p a b x to here, e)

writing-there : (p : Problem) (a b : List Mark) (level scale : ℕ) (times : RowName → ℤ) (reduced : ℕ → ℤ) → AreIn b a → IsLevelWriting p a level scale times reduced → IsLevelWriting p b level scale times reduced
writing-there p a b level scale times reduced from w = record {
  scale_positive = w.scale_positive;
  cancel = w.cancel;
  columns = w.columns;
  inside_zero = λ side.
      All-from_recursion (λ l. IsIn (place_of l.name side) b → reduced (place_of l.name side) ≡ pos 0) (lines p)
      (each-impl (λ l. IsIn (place_of l.name side) a → reduced (place_of l.name side) ≡ pos 0) _ (lines p) (λ l k i. k (from (place_of l.name side) i)) (recursion_from_All _ (lines p) (w.inside_zero side)));
  lowest = w.lowest;
}

pub order_is_free : OrderIsFree
order_is_free p a b level unit own number same =
    let to : AreIn a b = are-in a b same.0 in
    let from : AreIn b a = are-in b a same.1 in (
      λ h. row-there p a b level unit own number to from h,
      λ cost c. cost-there p a b level cost to c,
      λ none scale times reduced value w c fit kept. none scale times reduced value (writing-there p b a level scale times reduced to w) (cost-there p b a level value from c) fit kept,
    )
