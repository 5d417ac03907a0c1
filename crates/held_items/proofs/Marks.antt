-- What is held, with the versions before: after a mark, and once a mark is taken back.
use Rattle.std.proofs.Common.{◌≡◌, ◌∙◌, ◌≤◌, List, [], ◌∷◌, take, length, sym, ap, arith}
use Rattle.version_lists.specs.Versions.{Versions}
use Rattle.version_lists.specs.declared.versions.TheConstants.{VERSION_LIMIT}
use Rattle.held_items.specs.declared.item.Item as declared
use Rattle.held_items.specs.declared.limits.TheConstants.{EARLIER}
use Rattle.std.proofs.lemmas.List.{take_all}

-- a mark forgets none of so few
pub marked-all : (before marked : List (List declared.Item)) (now : List declared.Item)
    → length before ≤ EARLIER → marked ≡ take VERSION_LIMIT (now ∷ before) → marked ≡ now ∷ before
marked-all before marked now few is = is ∙ take_all VERSION_LIMIT (now ∷ before) (omega (arith, few))

abbrev versions_of : List (List declared.Item) → Versions declared.Item
versions_of [] = record { items = []; before = [] }
versions_of (items ∷ before) = record { items = items; before = before }

pub refused-items : (old new : Versions declared.Item) (before : List (List declared.Item)) → before ≡ old.items ∷ old.before → before ≡ new.items ∷ new.before → new ≡ old
refused-items old new before are_old are_new = ap versions_of (sym are_new ∙ are_old)
