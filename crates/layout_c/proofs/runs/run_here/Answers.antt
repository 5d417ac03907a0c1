use Rattle.std.proofs.Common.{rules, ℕ, List, Some, inl, inr, refl, sym, subst, length, take, ◌≡◌}
use Rattle.edge_io.specs.Outside.{outside}
use Rattle.layout_c.specs.Runs.{IsFaultless}
use Rattle.layout_c.proofs.runs.run_here.Goals as goal

pub returns-then-out-text-clause-ended : goal.returns-then-out-text-clause-ended
returns-then-out-text-clause-ended c =
    let from = c.new-source.result in let to = c.in_ok-sink.sink in let source = c.run_script-status.new.source in let sink = c.run_script-status.new.sink in
    inr (
      refl,
      refl,
      sink.held,
      c.run_script-status.result,
      (
        outside (Some from.left) from.faults (Some to.held) to.faults,
        outside (Some source.left) source.faults (Some sink.held) sink.faults,
        c.run_script-status.ensures.ends,
        search rules,
        search rules,
        search rules,
        search rules,
        refl,
      ),
      search rules,
    )

pub returns-clause-ended : goal.returns-clause-ended
returns-clause-ended c =
    let from = c.new-source.result in let to = c.in_ok-sink.sink in let source = c.run_script-status.new.source in let sink = c.run_script-status.new.sink in
    let written : take c.put_front.result c.put_front.new.out ≡ c.bytes-text.result.now = search rules in
    inl (
      (
        outside (Some from.left) from.faults (Some to.held) to.faults,
        outside (Some source.left) source.faults (Some sink.held) sink.faults,
        c.run_script-status.ensures.ends,
        search rules,
        search rules,
        search rules,
        search rules,
        search rules,
      ),
      subst (λ (text : List ℕ). IsFaultless (length c.args.out.now) text c.run_script-status.result) (sym written) (c.if-not-is_faultless.ensures refl),
    )
