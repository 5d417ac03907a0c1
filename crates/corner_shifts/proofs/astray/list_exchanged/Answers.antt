use Rattle.corner_shifts.proofs.astray.list_exchanged.Goals as goal

pub returns-in-Ok : goal.returns-in-Ok
returns-in-Ok c = λ known.
    let moved = c.list_astray.ensures known in record {
      moved = record {
        known = moved.known;
        keeps = λ v has. c.in-Ok.ensures.keeps v (moved.keeps v has);
        has = λ w some stay. c.in-Ok.ensures.keeps w (moved.has w some stay);
      };
      own = c.in-Ok.ensures.has;
    }
