-- What the outside marks cost with which an inside one grows.
use Rattle.std.proofs.Common.{◌≡◌, ◌≢◌, ◌∙◌, inl, inr, ℕ, zero, suc, ◌<◌, List, [], ◌∷◌, length, slice_index_or, refl, sym, subst, arith, ℤ, pos, negsuc, neg_ℤ, ◌*ℤ◌, ◌<ℤ◌}
use borrow.Author.Differences.{ints}
use Rattle.row_core.specs.Rows.{IsKeptRow, IsRising, Term, coefficient}
use Rattle.row_core.proofs.Places.{coefficient_at}
use Rattle.version_lists.specs.Lists.{HasColumn}
use Rattle.version_lists.proofs.Indexing.{number_at_column}
use Rattle.problem_core.specs.declared.parts.Level.{Level}
use Rattle.problem_core.specs.declared.parts.Mark.{Mark}
use Rattle.problem_core.specs.declared.parts.RowName.{RowName}
use Rattle.problem_core.specs.declared.parts.Side.{Side}
use Rattle.problem_core.specs.declared.parts.Side.TheVariants.{Under, Over}
use Rattle.problem_core.specs.declared.stops.What.TheVariants.{Mark as MarkOf}
use Rattle.problem_core.specs.Corners.{IsIn, place}
use Rattle.corner_lines.specs.LineEquations.{sign_of}
use Rattle.corner_view.specs.Growing.{AreGrowersDear}
use Rattle.corner_writings.specs.Growing.{growing_side, IsRowDear}
use Rattle.corner_table.specs.Kept.{IsKept}
use Rattle.corner_table.specs.Reads.LevelNumbers.{IsSlotOfLine, reduced_at}
use Rattle.corner_table.specs.Tables.{Lists, entry, level_slot, line_slot, marks_at, problem_of, row_at}
use Rattle.corner_view.specs.Seen.{IsLevelOf, IsNamed, IsOutside}
use Rattle.corner_writings.proofs.Readings.EntryFacts.{entry_named, entry_outside, entry_slot, entry_there, owned_named, row_in, row_kept, slot_in}
use Rattle.corner_writings.proofs.LevelFacts.LevelReadFacts.{named_line_slot}
use Rattle.corner_writings.proofs.LevelFacts.LevelWrittenFacts.{has_reduced}
use Rattle.corner_view.proofs.Facts.{mark_named, named_in}
use Rattle.corner_table.proofs.Readings.WritingFacts.{in_mark, lines_apart, other_what}

-- ---- one entry

grows_up : (z : ℤ) (side : Side) → z ≢ pos 0 → pos 0 <ℤ neg_ℤ (z *ℤ (sign_of (growing_side z side) *ℤ sign_of side))
grows_up (pos zero) side ne = absurd (ne refl)
grows_up (pos (suc n)) Under ne = omega (arith, ints)
grows_up (pos (suc n)) Over ne = omega (arith, ints)
grows_up (negsuc n) Under ne = omega (arith, ints)
grows_up (negsuc n) Over ne = omega (arith, ints)

record HasPlace (c : ℕ) (row : List Term) : Type 0 where
  pub at : ℕ
  pub within : at < length row
  pub is : (d : Term) → (slice_index_or row at d).col ≡ c

has_place : (c : ℕ) (row : List Term) → HasColumn c row → HasPlace c row
has_place c [] has = absurd has
has_place c (e ∷ row) (inl same) = record { at = 0; within = omega arith; is = λ d. same }
has_place c (e ∷ row) (inr has) = let r = has_place c row has in record { at = suc r.at; within = (let less = r.within in omega (arith, less)); is = r.is }

dear_at : (t : Lists) (w : ℕ) (side : Side) (l c : ℕ) (row : List Term) → IsRising row → HasColumn c row → c ≢ w → IsRowDear t w side l row → pos 0 <ℤ reduced_at t l c (growing_side (coefficient c row) side)
dear_at t w side l c row rising has ne dear =
    let p = has_place c row has in
    let d : Term = record { col = 0; by = pos 0 } in
    let e : Term = slice_index_or row p.at d in
    subst (λ (v : ℕ). pos 0 <ℤ reduced_at t l v (growing_side (coefficient v row) side)) (p.is d)
    (subst (λ (z : ℤ). pos 0 <ℤ reduced_at t l e.col (growing_side z side)) (sym (coefficient_at row p.at d rising p.within))
    (dear p.at d p.within (λ q. ne (sym (p.is d) ∙ q))))

-- ---- all of them

pub growers_dear : (t : Lists) (m : Mark) (level : Level) (l : ℕ) → IsKept t → IsIn (place m) (marks_at t) → IsLevelOf (problem_of t) level → l ≡ level_slot t level → IsRowDear t (slot_in t m) m.side l (row_in t m) → AreGrowersDear (problem_of t) (marks_at t) m level
growers_dear t m level l kept inside of slot dear name got =
    let has = entry_there t m name kept inside got in
    let c : ℕ = line_slot t name in
    let h = entry_slot t m c kept inside has in
    let named = entry_named t m name got in
    let same : h.name ≡ name = lines_apart t h.name name kept.slots h.named named (sym h.slot_is) in
    let row = row_kept t m kept inside in
    let side : Side = growing_side (entry t (slot_in t m) c) m.side in
    let k : Mark = record { row = name; side = side } in
    let out : IsOutside (problem_of t) (marks_at t) k = subst (λ (n : RowName). IsOutside (problem_of t) (marks_at t) (record { row = n; side = side })) same (entry_outside t m c h side) in
    let column : HasColumn c (row_in t m) = (number_at_column c (row_in t m) row).0 h.some in
    record {
      side = side;
      grows = (
        neg_ℤ (entry t (slot_in t m) c *ℤ (sign_of side *ℤ sign_of m.side)),
        other_what t (MarkOf m) k kept (place m, (inside, refl)) out (λ e. got.other (sym e)),
        grows_up (entry t (slot_in t m) c) m.side h.some,
      );
      cost = reduced_at t (level_slot t level) c side;
      reduced = has_reduced t level k kept of (named_in (problem_of t) name side named);
      above =
          subst (λ (v : ℕ). pos 0 <ℤ reduced_at t v c side) slot
          (dear_at t (slot_in t m) m.side l c (row_in t m) row.lowest.rising column (λ e. got.other (sym (lines_apart t m.row name kept.slots (mark_row_named t m kept inside) named e))) dear);
    }
  where
    mark_row_named : (t : Lists) (m : Mark) → IsKept t → IsIn (place m) (marks_at t) → IsNamed (problem_of t) m.row
    mark_row_named t m kept inside = mark_named (problem_of t) m (in_mark t m kept inside)

-- ---- what is asked of an entry

pub entry_line : (t : Lists) (w : ℕ) (row : List Term) (i : ℕ) (e : Term) → IsKept t → IsKeptRow row → row_at t w ≡ row → slice_index_or row i e ≡ e → i < length row → e.col ≢ w → IsSlotOfLine t e.col
entry_line t w row i e kept is same at within ne =
    let by : coefficient e.col row ≡ e.by = subst (λ (x : Term). coefficient x.col row ≡ x.by) at (coefficient_at row i e is.lowest.rising within) in
    let some : entry t w e.col ≢ pos 0 = subst (λ (r : List Term). coefficient e.col r ≢ pos 0) (sym same) (λ z. number_some row i e is at within (sym by ∙ z)) in
    let out = kept.outside w e.col some ne in
    let owned = owned_named t e.col out.2.0 kept out.0 out.2.1 in
    subst (λ v. IsSlotOfLine t v) owned.1 (named_line_slot t out.2.0 owned.0)
  where
    number_some : (row : List Term) (i : ℕ) (e : Term) → IsKeptRow row → slice_index_or row i e ≡ e → i < length row → e.by ≢ pos 0
    number_some row i e is at within = subst (λ (x : Term). x.by ≢ pos 0) at (is.lowest.nonzero i e within)
