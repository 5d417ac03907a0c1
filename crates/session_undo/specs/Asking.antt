-- What a change asks of the scene.
use Rattle.std.specs.Prelude.{◌≡◌}
use Rattle.scenes.specs.Drafts.{MayTake, drafted, kind_of}
use Rattle.scenes.specs.Scene.{Scene}
use Rattle.scenes.specs.declared.scene.draft.Draft.{Draft}
use Rattle.script_text.specs.Meaning.{Change}
use Rattle.session_undo.specs.Machine.{Tried, kind_for}
use Rattle.session_undo.specs.Replies.{Done, Reply}
use Rattle.session_undo.specs.State.{State}

-- what comes of a draft is that it is this scene
abbrev pub AsksFor : Scene → Scene → Reply → State → Type 0
AsksFor scene draft reply new = draft ≡ scene

-- no cause is against a change, and this is what it asks of the scene (a cause would make the reply a refusal,
-- and `Done` is none)
pub record IsDraft (old : State) (c : Change) (d : Draft) : Type 0 where
  pub asks : Tried old c (AsksFor (drafted old.scene d)) Done old
  pub may : MayTake old.scene d
  pub kind_is : kind_of d ≡ kind_for c
