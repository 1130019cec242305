use Rattle.std.proofs.Common.{◌≡◌, ◌∙◌, ◌+◌, ◌<◌, ◌≤◌, ℕ, List, true, false, Some, None, length, refl, sym, subst}
use Rattle.std.proofs.lemmas.Result.{IfOk-from_err}
use Rattle.patch_cache.specs.Creating.{why_not_created}
use Rattle.patch_cache.specs.Paging.{if_resident}
use Rattle.patch_cache.specs.Refusals.{create_cause}
use Rattle.patch_cache.proofs.Absent.{alone, whole_alone}
use Rattle.patch_cache.proofs.Creations.{found, lacks_memory}
use Rattle.patch_cache.proofs.Stepping.{on_err}
use Rattle.patch_cache.proofs.caches.Cache.create_owned.Goals as goal

pub returns-in-Some-clause-cause : goal.returns-in-Some-clause-cause
returns-in-Some-clause-cause g c = λ run at.
    let a = c.args in
    let Told : List ℕ → List ℕ → Type 0 = λ bytes after. Some (create_cause c.in-Some.refusal) ≡ if_resident a.self.now a.block (why_not_created run a.block a.start bytes after) in
    let told = subst (λ bytes. Told bytes a.after) c.as_slice.ensures (subst (Told c.as_slice.result.now) c.lend.ensures (c.in-Some.ensures.cause true run at)) in
    found _ (create_cause c.in-Some.refusal) (told ∙ whole_alone a.self.now run a.block _ at)

pub returns-in-Some-clause-cause_paged : goal.returns-in-Some-clause-cause_paged
returns-in-Some-clause-cause_paged g c = λ run at.
    let a = c.args in
    let Told : List ℕ → List ℕ → Type 0 = λ bytes after. Some (create_cause c.in-Some.refusal) ≡ if_resident a.self.now a.block (why_not_created run a.block a.start bytes after) in
    let told = subst (λ bytes. Told bytes a.after) c.as_slice.ensures (subst (Told c.as_slice.result.now) c.lend.ensures (c.in-Some.ensures.cause false run at)) in
    found _ (create_cause c.in-Some.refusal) told

pub returns-in-Some-clause-made : goal.returns-in-Some-clause-made
returns-in-Some-clause-made g c = λ run at. tt

pub returns-in-Some-clause-trace : goal.returns-in-Some-clause-trace
returns-in-Some-clause-trace g c = tt

pub returns-in-Some-clause-refused : goal.returns-in-Some-clause-refused
returns-in-Some-clause-refused g c = refl

pub returns-in_err-make-in-None-clause-made : goal.returns-in_err-make-in-None-clause-made
returns-in_err-make-in-None-clause-made g c = λ run at. IfOk-from_err c.from_residual.result _ c.from_residual.ensures.0

pub returns-in_err-make-in-None-clause-made_paged : goal.returns-in_err-make-in-None-clause-made_paged
returns-in_err-make-in-None-clause-made_paged g c = λ run at. IfOk-from_err c.from_residual.result _ c.from_residual.ensures.0

pub returns-in_err-make-in-None-clause-cause : goal.returns-in_err-make-in-None-clause-cause
returns-in_err-make-in-None-clause-cause g c = λ run at.
    let a = c.args in
    let May : List ℕ → List ℕ → Type 0 = λ bytes after. None ≡ if_resident a.self.now a.block (why_not_created run a.block a.start bytes after) in
    let may = subst (λ bytes. May bytes a.after) c.as_slice.ensures (subst (May c.as_slice.result.now) c.lend.ensures (c.in-None.ensures.cause true run at)) in
    lacks_memory _ c.from_residual.result (may ∙ whole_alone a.self.now run a.block _ at) c.from_residual.ensures.1

pub returns-in_err-make-in-None-clause-cause_paged : goal.returns-in_err-make-in-None-clause-cause_paged
returns-in_err-make-in-None-clause-cause_paged g c = λ run at.
    let a = c.args in
    let May : List ℕ → List ℕ → Type 0 = λ bytes after. None ≡ if_resident a.self.now a.block (why_not_created run a.block a.start bytes after) in
    let may = subst (λ bytes. May bytes a.after) c.as_slice.ensures (subst (May c.as_slice.result.now) c.lend.ensures (c.in-None.ensures.cause false run at)) in
    lacks_memory _ c.from_residual.result may c.from_residual.ensures.1

pub returns-in_err-make-in-None-clause-trace : goal.returns-in_err-make-in-None-clause-trace
returns-in_err-make-in-None-clause-trace g c = IfOk-from_err c.from_residual.result _ c.from_residual.ensures.0

pub returns-in_err-make-in-None-clause-refused : goal.returns-in_err-make-in-None-clause-refused
returns-in_err-make-in-None-clause-refused g c = on_err _ c.in_err-make-in-None.ensures.refused

pub returns-in_ok-make-in-None-clause-made : goal.returns-in_ok-make-in-None-clause-made
returns-in_ok-make-in-None-clause-made g c = λ run at.
    let a = c.args in
    let May : List ℕ → List ℕ → Type 0 = λ bytes after. None ≡ if_resident a.self.now a.block (why_not_created run a.block a.start bytes after) in
    let may = subst (λ bytes. May bytes a.after) c.as_slice.ensures (subst (May c.as_slice.result.now) c.lend.ensures (c.in-None.ensures.cause true run at)) in
    c.in_ok-make-in-None.ensures.made true run at (sym (may ∙ alone a.self.now a.block _ (c.in-None.ensures.resident refl)))

pub returns-in_ok-make-in-None-clause-made_paged : goal.returns-in_ok-make-in-None-clause-made_paged
returns-in_ok-make-in-None-clause-made_paged g c = λ run at.
    let a = c.args in
    let May : List ℕ → List ℕ → Type 0 = λ bytes after. None ≡ if_resident a.self.now a.block (why_not_created run a.block a.start bytes after) in
    let may = subst (λ bytes. May bytes a.after) c.as_slice.ensures (subst (May c.as_slice.result.now) c.lend.ensures (c.in-None.ensures.cause false run at)) in
    c.in_ok-make-in-None.ensures.made false run at (sym (may ∙ alone a.self.now a.block _ (c.in-None.ensures.resident refl)))

pub returns-in_ok-make-in-None-clause-cause : goal.returns-in_ok-make-in-None-clause-cause
returns-in_ok-make-in-None-clause-cause g c = λ run at. tt

pub returns-in_ok-make-in-None-clause-trace : goal.returns-in_ok-make-in-None-clause-trace
returns-in_ok-make-in-None-clause-trace g c = c.in_ok-make-in-None.ensures.trace

pub returns-in_ok-make-in-None-clause-refused : goal.returns-in_ok-make-in-None-clause-refused
returns-in_ok-make-in-None-clause-refused g c = tt

pub make-requires-clause-resident : goal.make-requires-clause-resident
make-requires-clause-resident g c = c.in-None.ensures.resident refl

pub make-requires-clause-some : goal.make-requires-clause-some
make-requires-clause-some g c = subst (λ (bytes : List ℕ). 0 < length bytes) c.as_slice.ensures (c.in-None.ensures.some refl)

pub make-requires-clause-fits : goal.make-requires-clause-fits
make-requires-clause-fits g c = subst (λ (bytes : List ℕ). c.args.start + length bytes ≤ 4096) c.as_slice.ensures (c.in-None.ensures.fits refl)

pub make-requires-clause-numbers_left : goal.make-requires-clause-numbers_left
make-requires-clause-numbers_left g c = c.in-None.ensures.numbers_left refl

pub make-requires-clause-live_left : goal.make-requires-clause-live_left
make-requires-clause-live_left g c = c.in-None.ensures.live_left refl
