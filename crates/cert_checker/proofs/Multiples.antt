-- The constants of the rows at places.
use Rattle.std.proofs.Common.{◌≡◌, ℕ, ◌<◌, length, get_or}
use Rattle.std.proofs.lemmas.List.{get_or-map}
use Rattle.problem_core.specs.Layout.{Row, Problem}
use Rattle.cert_checker.specs.Required.{id_at}

pub id-at : (p : Problem) (k : ℕ) (d : Row) → k < length p.rows → id_at p k ≡ (get_or p.rows k d).id
id-at p k d l = get_or-map (λ (r : Row). r.id) p.rows k d 0 l
