use Rattle.std.proofs.Common.{◌≡◌, inl, inr, sym, subst, IfSome}
use Rattle.std.proofs.lemmas.Result.{err_from_is_err_and}
use Rattle.problem_core.specs.Layout.{Problem}
use Rattle.sweep_laws.specs.Fractions.{IsNoMore}
use Rattle.sweep_run.specs.Ways.{IsWayOf}
use Rattle.sweep_param.specs.Joining.{IsDownwards, IsSlidOn, IsUpwards}
use Rattle.sweep_param.proofs.Rewinding.{same_problem}
use Rattle.sweep_param.proofs.Ways.{down_way, is_on, near_fits, none_on, slid_on, up_way}
use Rattle.sweep_param.proofs.sweeps.both.Goals as goal

pub way_up-requires-clause-fits : goal.way_up-requires-clause-fits
way_up-requires-clause-fits g c = let r = c.args.range.now in near_fits c.args.c.now.problem r.row r.present r.to c.requires.range.held c.requires.range.near.1

pub slid-requires-clause-way : goal.slid-requires-clause-way
slid-requires-clause-way g c = up_way c.args.c.now.problem c.args.range.now c.way_up.result c.requires.range c.way_up.ensures.0

pub returns-in_err-up-clause-stop : goal.returns-in_err-up-clause-stop
returns-in_err-up-clause-stop g c =
    let e = err_from_is_err_and c.from_residual.result c.from_residual.ensures.1 in
    let w = c.in_err-up.ensures.stop in
    rw (e.1, e.2) (inr (inl (w.0, is_on (IsUpwards c.args.range.now) c.way_up.result w.0 w.1 c.way_up.ensures.0, w.2)))

pub way_down-requires-clause-fits : goal.way_down-requires-clause-fits
way_down-requires-clause-fits g c = let r = c.args.range.now in near_fits c.args.c.now.problem r.row r.present r.from c.requires.range.held c.requires.range.near.0

pub slid-requires-2-clause-way : goal.slid-requires-2-clause-way
slid-requires-2-clause-way g c =
    subst (λ (q : Problem). IfSome c.way_down.result (IsWayOf q)) (sym (same_problem c.args.c.now c.slid.new.c c.rewind.new.self c.requires.marked c.slid.ensures.before c.rewind.ensures))
    (down_way c.args.c.now.problem c.args.range.now c.way_down.result c.requires.range c.way_down.ensures.0)

pub returns-clause-slides : goal.returns-clause-slides
returns-clause-slides g c =
    let r = c.args.range.now in
    let same : c.rewind.new.self.problem ≡ c.args.c.now.problem = same_problem c.args.c.now c.slid.new.c c.rewind.new.self c.requires.marked c.slid.ensures.before c.rewind.ensures in
    record {
      up = slid_on c.args.c.now.problem (IsUpwards r) c.way_up.result c.in_ok-up.up c.way_up.ensures.0 c.in_ok-up.ensures.some;
      no_up = none_on (IsNoMore r.to r.present) c.way_up.result c.in_ok-up.up c.way_up.ensures.1 c.in_ok-up.ensures.none;
      down = subst (λ (q : Problem). IfSome c.in_ok-down.down (IsSlidOn q (IsDownwards r))) same
          (slid_on c.rewind.new.self.problem (IsDownwards r) c.way_down.result c.in_ok-down.down c.way_down.ensures.0 c.in_ok-down.ensures.some);
      no_down = none_on (IsNoMore r.present r.from) c.way_down.result c.in_ok-down.down c.way_down.ensures.1 c.in_ok-down.ensures.none;
    }
