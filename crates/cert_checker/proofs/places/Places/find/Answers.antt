use Rattle.std.proofs.Common.{◌∙◌, sym}
use Rattle.cert_checker.proofs.Indexes.{looked-some, looked-none, stay-looked, stay-absent}
use Rattle.cert_checker.proofs.places.Places.find.Goals as goal

pub returns-in_err-place-in-Stay-clause-none : goal.returns-in_err-place-in-Stay-clause-none
returns-in_err-place-in-Stay-clause-none c =
    let absent = stay-absent c.args.p.now c.in-Stay.attr c.args.self.now.stays c.requires.stays (sym c.in_err-place-in-Stay.was ∙ c.copied-in-Stay.ensures ∙ c.get-in-Stay.ensures.value) in
    rw (c.from_residual.ensures, c.in-Stay.is) absent

pub returns-in-Held-clause-some : goal.returns-in-Held-clause-some
returns-in-Held-clause-some c =
    rw c.in-Held.is (looked-some c.args.p.now c.in-Held.id c.args.self.now.rows c.copied.result c.requires.rows (c.copied.ensures ∙ c.get.ensures.value))

pub returns-in-Held-clause-none : goal.returns-in-Held-clause-none
returns-in-Held-clause-none c =
    rw c.in-Held.is (looked-none c.args.p.now c.in-Held.id c.args.self.now.rows c.copied.result c.requires.rows (c.copied.ensures ∙ c.get.ensures.value))

pub returns-in_ok-place-in-Stay-clause-some : goal.returns-in_ok-place-in-Stay-clause-some
returns-in_ok-place-in-Stay-clause-some c =
    rw (c.rows.ensures, c.in-Stay.is)
    (stay-looked c.args.p.now c.in-Stay.attr c.in_ok-place-in-Stay.place c.args.self.now.stays c.requires.stays (sym c.in_ok-place-in-Stay.was ∙ c.copied-in-Stay.ensures ∙ c.get-in-Stay.ensures.value))
