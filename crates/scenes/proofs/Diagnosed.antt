-- What is found of a scene, from what is found of its layout.
use Rattle.std.proofs.Common.{ℕ, ◌^◌, ◌<◌, List, length, get_or, refl, arith}
use Rattle.std.specs.Prelude.{IfOk, IfErr}
use Rattle.std.specs.declared.result.Result.{Result}
use Rattle.std.specs.declared.result.Result.TheVariants.{Ok, Err}
use Rattle.std.proofs.lemmas.List.{get_or_default}
use Rattle.std.proofs.lemmas.List.Elements.{All-weaker}
use Rattle.std.proofs.lemmas.Result.{IfErr-weaker}
use Rattle.view_tree.specs.Views.{ViewTree}
use Rattle.problem_core.specs.Layout.{Row}
use Rattle.version_lists.specs.declared.versions.TheConstants.{VERSION_LIMIT}
use Rattle.compile_parts.specs.Meaning.{MetricList}
use Rattle.layout_solver.specs.Layouts.{IsKeptLayout, Layout}
use Rattle.diagnosis.specs.Diagnoses.{AreFindings, findings_of}
use Rattle.diagnosis.specs.Probes.{CanProbeAll, IsStopAt}
use Rattle.diagnosis.specs.declared.diagnosing.Diagnosis.{Diagnosis}
use Rattle.diagnosis.specs.declared.probing.Stopped.{Stopped}
use Rattle.frac_core.specs.declared.memory.OutOfMemory.{OutOfMemory}
use Rattle.cert_core.specs.Claims.{BestLevel}
use Rattle.certificates.specs.Accepted.{IsCertified}
use Rattle.certificates.specs.OwnLevels.{IsOwnBest}
use Rattle.scenes.specs.Diagnosing.{AreFindingsOf, IsCertificateOf, IsProbedStop}
use Rattle.held_items.specs.Items.{Item}
use Rattle.scenes.specs.Kept.{IsKept, scene_at}
use Rattle.scenes.proofs.Engines.Reached.{reached}
use Rattle.scenes.specs.declared.scene.past.Setting.{Setting}

pub can-probe : (tree : ViewTree) (metrics : MetricList) (held : List Item) (setting : Setting) (l : Layout) → IsKept (scene_at tree metrics held setting l) → length l.earlier < VERSION_LIMIT → CanProbeAll l
can-probe tree metrics held setting l kept room k d within = record {
  held = (k, get_or l.problem.stays k d, within, get_or_default l.problem.stays k (get_or l.problem.stays k d) d within, refl);
  few = omega (arith, kept.counted.few);
  numbers = All-weaker (λ (r : Row). r.id < setting.next_row) (λ (r : Row). r.id < 2 ^ 31) (λ r h. omega (arith, h, kept.top)) l.problem.rows kept.counted.below;
  ranks = kept.counted.ranks;
  room = room;
}

module _ (tree : ViewTree) (metrics : MetricList) (held : List Item) (setting : Setting) (l : Layout) where
  pub found-scene : (r : Result Diagnosis Stopped) → IfOk r (λ d. AreFindings l.problem l.values (findings_of d)) → IfOk r (λ d. AreFindingsOf (scene_at tree metrics held setting l) (findings_of d))
  found-scene r h = h

  pub stop-scene : (budget : ℕ) (r : Result Diagnosis Stopped) → IfErr r (λ s. IsStopAt l budget s.attr s.stop) → IfErr r (λ s. IsProbedStop (scene_at tree metrics held setting l) budget s.attr s.stop)
  stop-scene budget r h = IfErr-weaker r (λ s. IsStopAt l budget s.attr s.stop) (λ s. IsProbedStop (scene_at tree metrics held setting l) budget s.attr s.stop) (λ s is. (l, record { problem = refl; values = refl; corner = refl }, is)) h

  pub certificate-scene : (r : Result (List BestLevel) OutOfMemory) → IsKeptLayout l → IfOk r (IsOwnBest l.problem l.corner) → IfOk r (IsCertified l.problem l.values) → IfOk r (IsCertificateOf (scene_at tree metrics held setting l))
  certificate-scene (Ok levels) kept own certified = record { certified = certified; reached = reached l kept; own = own }
  certificate-scene (Err e) kept own certified = tt
