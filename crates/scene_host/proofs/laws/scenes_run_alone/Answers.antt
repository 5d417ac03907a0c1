use Rattle.scene_host.proofs.Alone.{runs-alone}
use Rattle.scene_host.proofs.laws.scenes_run_alone.Goals as goal

pub returns : goal.returns
returns g c = λ maker. runs-alone g.M.Made.Scene.answers (g.M.Maker.first maker)
