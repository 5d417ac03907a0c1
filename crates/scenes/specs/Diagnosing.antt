-- What is found of a scene and shown of its values, and why its probes stop.
use Rattle.std.specs.Prelude.{◌≡◌, ℕ, List}
use Rattle.cert_core.specs.Claims.{BestLevel}
use Rattle.certificates.specs.Accepted.{IsCertified}
use Rattle.certificates.specs.OwnLevels.{IsOwnBest}
use Rattle.layout_solver.specs.Begins.{IsReached}
use Rattle.layout_solver.specs.Layouts.{Layout}
use Rattle.diagnosis.specs.Diagnoses.{AreFindings, Findings}
use Rattle.diagnosis.specs.Probes.{IsStopAt}
use Rattle.diagnosis.specs.declared.probing.DiagnoseStop.{DiagnoseStop}
use Rattle.scenes.specs.Scene.{Scene, problem_of}

-- the layout has the scene's problem, values and corner
pub record IsLayoutOf (scene : Scene) (l : Layout) : Type 0 where
  pub problem : l.problem ≡ problem_of scene
  pub values : l.values ≡ scene.values
  pub corner : l.corner ≡ scene.corner

-- they are all that the scene lacks and leaves open
abbrev pub AreFindingsOf : Scene → Findings → Type 0
AreFindingsOf scene f = AreFindings (problem_of scene) scene.values f

-- a probe of this attribute stops so
abbrev pub IsProbedStop : Scene → ℕ → ℕ → DiagnoseStop → Type 0
IsProbedStop scene budget attr stop = (l : Layout) × IsLayoutOf scene l × IsStopAt l budget attr stop

-- The levels certify the scene's values. They are the own ones of its corner, where these stand: the
-- strongest first, none twice and none without need, each with the multipliers of its lines in their order,
-- none 0, in lowest terms.
pub record IsCertificateOf (scene : Scene) (levels : List BestLevel) : Type 0 where
  pub certified : IsCertified (problem_of scene) scene.values levels
  pub reached : IsReached (problem_of scene) scene.corner scene.values
  pub own : IsOwnBest (problem_of scene) scene.corner levels
