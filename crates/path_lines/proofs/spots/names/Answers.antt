use Rattle.std.proofs.Common.{◌≡◌, ◌∙◌, ◌++◌, ℕ, ◌+◌, List, [], ◌∷◌, map, take, length, arith, refl, ap, take_all}
use Rattle.problem_core.specs.declared.parts.RowName.{RowName}
use Rattle.problem_core.specs.declared.parts.RowName.TheVariants.{Held, Stay as StayOf}
use Rattle.problem_core.specs.declared.parts.Stay.{Stay}
use Rattle.problem_core.specs.Layout.{Line, Row, line_of_row, stay_lines}
use Rattle.path_lines.proofs.spots.names.Goals as goal

stay_names : (level : ℕ) (ss : List Stay) → map (λ (s : Stay). StayOf s.attr) ss ≡ map (λ (l : Line). l.name) (stay_lines level ss)
stay_names level [] = refl
stay_names level (s ∷ ss) = ap (λ (ns : List RowName). StayOf s.attr ∷ ns) (stay_names (level + 1) ss)

line_names : (rows : List Row) (level : ℕ) (ss : List Stay) → map (λ (r : Row). Held r.id) rows ++ map (λ (s : Stay). StayOf s.attr) ss ≡ map (λ (l : Line). l.name) (map line_of_row rows ++ stay_lines level ss)
line_names [] level ss = stay_names level ss
line_names (r ∷ rows) level ss = ap (λ (ns : List RowName). Held r.id ∷ ns) (line_names rows level ss)

pub returns : goal.returns
returns c =
    let count : length c.stays-s-items.result.now ≡ length c.args.p.now.stays = ap (λ (z : List Stay). length z) c.stays-s-items.ensures in
    let all : take c.loop-s.s-index c.args.p.now.stays ≡ c.args.p.now.stays = take_all c.loop-s.s-index c.args.p.now.stays (omega (arith, c.loop-s-test.false, count)) in
    c.loop-s.invariant ∙ ap (λ (ss : List Stay). map (λ (r : Row). Held r.id) c.args.p.now.rows ++ map (λ (s : Stay). StayOf s.attr) ss) all ∙ line_names c.args.p.now.rows 1001 c.args.p.now.stays
