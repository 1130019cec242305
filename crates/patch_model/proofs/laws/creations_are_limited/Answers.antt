use Rattle.patch_model.proofs.laws.creations_are_limited.Goals as goal

pub returns : goal.returns
returns c = λ blocks block start all bytes after. (λ l. (l.known, l.some, l.fits, l.made, l.numbers_left, l.room), λ h. record { known = h.0; some = h.1; fits = h.2; made = h.3; numbers_left = h.4; room = h.5 })
