use Rattle.std.proofs.Common.{List, ℕ, subst}
use Rattle.edge_io.specs.Outside.{HasFront}
use Rattle.layout_cli.proofs.hosting.HostTalkAnswerer.answer.Goals as goal

pub returns-in_err-put_all-clause-front : goal.returns-in_err-put_all-clause-front
returns-in_err-put_all-clause-front g c =
    λ is line given. (
      c.say.new.self.text.items,
      c.in_ok-good.good,
      c.say.new.self,
      c.in_ok-good.ensures line given,
      subst (λ (text : List ℕ). HasFront (g.K.Sink.held c.args.sink.now) (g.K.Sink.held c.put_all.new.sink) text) c.deref.ensures.value c.in_err-put_all.ensures.err,
    )
