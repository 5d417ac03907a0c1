use Rattle.std.proofs.Common.{◌∙◌, ◌+◌, ◌-◌, ◌<◌, ℕ, length, sym, ap, arith}
use Rattle.std.proofs.lemmas.Option.{get_or_from_slice_get, slice_get_within}
use Rattle.diagnosis.proofs.Probes.ProbeWhole.{next_is}
use Rattle.diagnosis.proofs.probing.next_number.Goals as goal

pub returns-in-Some : goal.returns-in-Some
returns-in-Some c =
    let within : length c.args.rows.now - 1 < length c.args.rows.now = slice_get_within c.args.rows.now (length c.args.rows.now - 1) c.in-Some.row.now (sym c.in-Some.ensures.value) in
    ap (λ (n : ℕ). n + 1) c.id.ensures
    ∙ sym (next_is c.args.rows.now c.in-Some.row.now (omega (arith, within)) (get_or_from_slice_get c.args.rows.now (length c.args.rows.now - 1) c.in-Some.row.now c.in-Some.row.now (sym c.in-Some.ensures.value)))
