-- What the fields of rows and problems stand for.
use Rattle.std.specs.Prelude.{nat_abs}
use Rattle.problem_core.specs.declared.row.Row.TheInside.{Inside}
use Rattle.problem_core.specs.declared.problem.Problem.TheInside.{Inside as ProblemInside}
use Rattle.problem_core.specs.Layout.{Row, Problem}

-- the row that a row's fields stand for
abbrev pub row_of : Inside → Row
row_of r = record {
  id = r.id;
  rank = r.rank;
  weight = r.weight;
  rel = r.rel;
  scale = nat_abs r.scale;
  constant = r.constant;
  terms = r.terms.items;
}

-- the problem that a problem's fields stand for
abbrev pub problem_of : ProblemInside → Problem
problem_of p = record { rows = p.rows.items; stays = p.stays.items }
