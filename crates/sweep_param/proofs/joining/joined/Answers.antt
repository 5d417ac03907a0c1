use Rattle.std.proofs.Common.{◌≡◌, ◌∙◌, ℕ, ◌++◌, Bool, false, ◌&&◌, List, Option, ap, ap₂, sym, subst}
use Rattle.frac_core.specs.Fraction.{Fraction}
use Rattle.sweep_laws.specs.Stretches.{IsSweep, Stretch, no_piece_first}
use Rattle.sweep_run.specs.Slides.{rising}
use Rattle.sweep_run.specs.Told.{stretches_of}
use Rattle.sweep_run.specs.declared.stretches.Stretch as declared
use Rattle.sweep_param.specs.Joining.{behind, lone_of, values_at}
use Rattle.sweep_param.proofs.Joined.{joined_of, joined_sweep, put_all}
use Rattle.sweep_param.proofs.joining.joined.Goals as goal

pub returns : goal.returns
returns c = λ p r range slides.
    let down = c.args.slides.down in
    let up = c.args.slides.up in
    let one : stretches_of c.put_down.new.out.items ≡ rising false (behind down) =
    c.in_ok-put_down.ensures.stretches ∙ ap (λ (xs : List declared.Stretch). stretches_of xs ++ rising false (behind down)) c.new-out.ensures.items in
    let two : stretches_of c.put_lone.new.out.items ≡ stretches_of c.put_down.new.out.items ++ lone_of (no_piece_first (behind down) && no_piece_first (behind up)) (values_at down) (values_at up) =
    c.in_ok-put_lone.ensures.put
    ∙ ap₂ (λ (b : Bool) (v : Option (Fraction × List (ℕ × Fraction))). stretches_of c.put_down.new.out.items ++ lone_of b v (values_at up)) c.lack_pieces-lacks_piece.ensures c.in_ok-put_down.ensures.values in
    let three : stretches_of c.put_up.new.out.items ≡ stretches_of c.put_lone.new.out.items ++ behind up =
    c.in_ok-put_up.ensures ∙ ap (λ (xs : List Stretch). stretches_of c.put_lone.new.out.items ++ xs) c.in_ok-put_lone.ensures.behind in
    let is : stretches_of c.put_up.new.out.items ≡ joined_of down up =
    put_all (stretches_of c.put_down.new.out.items) (stretches_of c.put_lone.new.out.items) (stretches_of c.put_up.new.out.items) (rising false (behind down))
    (lone_of (no_piece_first (behind down) && no_piece_first (behind up)) (values_at down) (values_at up)) (behind up) one two three in
    subst (IsSweep p r.row r.from r.to) (sym is) (joined_sweep p r c.args.slides slides c.requires.some)
