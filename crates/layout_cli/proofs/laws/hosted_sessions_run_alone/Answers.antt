use Rattle.scene_host.proofs.Alone.{runs-alone}
use Rattle.layout_cli.specs.Hosted.{IsNewTalk}
use Rattle.layout_cli.specs.Machine.{Talks}
use Rattle.layout_cli.proofs.WholeLines.{says_whole}
use Rattle.layout_cli.proofs.laws.hosted_sessions_run_alone.Goals as goal

pub returns : goal.returns
returns c = runs-alone Talks IsNewTalk says_whole
