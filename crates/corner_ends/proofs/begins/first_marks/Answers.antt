use Rattle.std.proofs.Common.{rules, ◌≡◌, ◌++◌, [], map}
use Rattle.problem_core.specs.declared.parts.RowName.TheVariants.{Held}
use Rattle.corner_ends.specs.Among.{lines_among}
use Rattle.corner_ends.proofs.FirstMarks.{all_among}
use Rattle.corner_ends.proofs.begins.first_marks.Goals as goal

pub returns : goal.returns
returns g c = λ first run ordered.
    let rows : c.push_rows.new.out.items ≡ [] ++ lines_among first (map (λ r. Held r.id) c.args.c.now.problem.rows) = search rules in
    all_among c.args.c.now.problem first c.push_rows.new.out.items c.push_stays.new.out.items rows (c.in_ok-push_stays.ensures first run) ordered
