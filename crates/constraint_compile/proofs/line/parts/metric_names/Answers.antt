use Rattle.std.proofs.Common.{◌≡◌, false, map, rules}
use Rattle.std.specs.String.{string_bytes}
use Rattle.compile_parts.specs.Addends.{addends_view}
use Rattle.compile_parts.specs.Keeps.{any_names_metric}
use Rattle.constraint_compile.proofs.Lines.{no_names, all_names}
use Rattle.constraint_compile.proofs.line.parts.metric_names.Goals as goal

pub returns-then-not-any_names_metric : goal.returns-then-not-any_names_metric
returns-then-not-any_names_metric c =
    let no : any_names_metric (addends_view c.args.added.now) ≡ false = search rules in
    rw c.new.ensures.items (no_names (addends_view c.args.added.now) no)

pub returns : goal.returns
returns c = all_names (addends_view c.args.added.now) (map string_bytes c.in_ok-names.names.items) c.in_ok-names.ensures
