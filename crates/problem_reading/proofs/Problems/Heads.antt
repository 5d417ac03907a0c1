-- What stands before the terms of a row.
use Rattle.std.proofs.Common.{◌≡◌, ◌++◌, map, refl, arith}
use Rattle.problem_core.specs.Kept.{IsRow}
use Rattle.problem_core.specs.Layout.{Row}
use Rattle.problem_reading.specs.declared.problem.row_lines.Head.{Head}
use Rattle.problem_reading.specs.RowParts.{head_words, IsHead}
use Rattle.claim_writing.specs.Lines.{row_words, term_word}

pub head_of : Row → Head
head_of r = record { id = r.id; rank = r.rank; weight = r.weight; rel = r.rel; scale = r.scale; constant = r.constant }

pub head_is : (r : Row) → IsRow r → IsHead (head_of r)
unfolding head_of
head_is r is = record {
  number = is.number;
  rank = is.rank;
  weight_above = omega (arith, is.weight.0);
  weight = is.weight.1;
  scale_above = omega (arith, is.scale.0);
  scale = is.scale.1;
  constant = is.constant;
}

pub words_in_two : (r : Row) → row_words r ≡ head_words (head_of r) ++ map term_word r.terms
unfolding head_of
words_in_two r = refl
