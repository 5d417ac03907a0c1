-- Rows that join one after another.
use Rattle.std.proofs.Common.{◌≡◌, ◌∙◌, ℕ, ◌+◌, ◌<◌, ◌≤◌, ◌++◌, List, length, take, drop, get_or, sym, ap, subst, arith}
use Rattle.std.proofs.lemmas.List.{get_or-take, length-take-le}
use Rattle.std.proofs.lemmas.List.Elements.{All-take}
use Rattle.std.proofs.Math.Seq.{take-add}
use Rattle.problem_core.specs.declared.parts.Stay.{Stay}
use Rattle.problem_core.specs.Layout.{IsCovered, Problem, Row}
use Rattle.problem_core.specs.Kept.{IsRow, IsWhole}
use Rattle.corner_laws.specs.Lifts.{with_rows}
use Rattle.layout_solver.specs.Starts.{as_problem}

-- the problem of the first rows is whole
pub first_whole : (rows : List Row) (stays : List Stay) (n : ℕ) → n ≤ length rows → IsWhole (as_problem rows stays) → IsWhole (as_problem (take n rows) stays)
first_whole rows stays n most whole = record {
  rows = All-take IsRow n rows whole.rows;
  stays = whole.stays;
  rising = λ i j d less within.
      let last : j < n = (let long = length-take-le n rows most in omega (arith, within, long)) in
      subst (λ (r : Row). r.id < (get_or (take n rows) j d).id) (sym (get_or-take n rows i d (omega (arith, less, last))))
      (subst (λ (s : Row). (get_or rows i d).id < s.id) (sym (get_or-take n rows j d last)) (whole.rising i j d less (omega (arith, last, most))));
  apart = whole.apart;
  covered = All-take (IsCovered stays) n rows whole.covered;
  row_count = (let long = length-take-le n rows most in let few = whole.row_count in omega (arith, long, most, few));
  stay_count = whole.stay_count;
}

-- the next row joins the first ones
pub next_rows : (p : Problem) (rows : List Row) (i : ℕ) → p.rows ≡ take i rows → with_rows (take 1 (drop i rows)) p ≡ as_problem (take (i + 1) rows) p.stays
next_rows p rows i e = ap (λ (rs : List Row). as_problem rs p.stays) (ap (λ (rs : List Row). rs ++ take 1 (drop i rows)) e ∙ sym (take-add i 1 rows))

pub next_whole : (p : Problem) (rows : List Row) (i : ℕ) → p.rows ≡ take i rows → i < length rows → IsWhole (as_problem rows p.stays) → IsWhole (with_rows (take 1 (drop i rows)) p)
next_whole p rows i e within whole = subst IsWhole (sym (next_rows p rows i e)) (first_whole rows p.stays (i + 1) (omega (arith, within)) whole)
