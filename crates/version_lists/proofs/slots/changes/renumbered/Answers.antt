use Rattle.std.proofs.Common.{sym, subst, List}
use Rattle.version_lists.specs.declared.slots.Numbered.{Numbered}
use Rattle.version_lists.specs.Numbers.{by_number, AreRenumbered, IsRising}
use Rattle.version_lists.proofs.Edits.{rewound_from, with_items}
use Rattle.version_lists.proofs.Packs.{placed_renumbered, placed_rising}
use Rattle.version_lists.proofs.slots.changes.renumbered.Goals as goal

pub returns-in-Err-clause-rising : goal.returns-in-Err-clause-rising
returns-in-Err-clause-rising c =
    rewound_from c.args.kept.now c.pack_all.new.kept c.rewind.new.self c.requires.rising c.pack_all.ensures.before c.rewind.ensures.items c.rewind.ensures.before

pub returns-in-Ok-clause-rising : goal.returns-in-Ok-clause-rising
returns-in-Ok-clause-rising c =
    with_items c.args.kept.now c.pack_all.new.kept c.requires.rising
    (subst IsRising (sym c.in-Ok.ensures.ok) (placed_rising c.args.places.now c.args.kept.now.items c.requires.rising.now)) c.pack_all.ensures.before

pub returns-in-Ok-clause-renumbered : goal.returns-in-Ok-clause-renumbered
returns-in-Ok-clause-renumbered c =
    subst (λ (l : List Numbered). AreRenumbered c.args.places.now (by_number c.args.kept.now.items) (by_number l)) (sym c.in-Ok.ensures.ok)
    (placed_renumbered c.args.places.now c.args.kept.now.items c.requires.none c.requires.rising.now)
