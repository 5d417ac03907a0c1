use Rattle.corner_lines.proofs.equations.unfit_from_value.Goals as goal

pub returns : goal.returns
returns c = λ p own by num den h low part value r ratio fits each kept. h value kept.lowest ratio kept.fits
