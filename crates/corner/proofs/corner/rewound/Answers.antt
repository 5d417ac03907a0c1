use Rattle.std.proofs.Common.{map, ap}
use Rattle.corner_table.specs.Invariants.{names_of}
use Rattle.corner_table.specs.Tables.{lists_of, scene_at}
use Rattle.corner.proofs.corner.rewound.Goals as goal

pub returns-clause-rewound : goal.returns-clause-rewound
returns-clause-rewound c =
    let now = c.take_back.ensures.now in
    record {
      before = ap (map scene_at) c.take_back.ensures.before;
      scene = (map scene_at now.0, ap (map scene_at) now.1);
      candidates = ap (names_of (lists_of c.take_back.new.table)) c.take_back.ensures.listed;
    }
