use Rattle.std.proofs.Common.{◌≡◌, ◌∙◌, ◌<◌, ℕ, List, [], Result, Ok, Err, true, false, length, sym, ap, subst, arith}
use Rattle.std.specs.Prelude.{IfErr, OnOk, Some}
use Rattle.patch_model.specs.Execution.{Execution}
use Rattle.patch_cache.specs.Contents.{Contents, is_resident}
use Rattle.patch_cache.specs.Meaning.{IsPagedCacheOf, ShowsBy}
use Rattle.patch_cache.specs.Viewing.{seen_by, block_of, IsViewOf, HasTakenBy}
use Rattle.patch_cache.proofs.Absent.{alone}
use Rattle.patch_cache.proofs.Residency.{resident_within}
use Rattle.patch_cache.proofs.Showing.{none_yet}
use Rattle.patch_cache.specs.declared.views.CacheView.{CacheView}
use Rattle.patch_engine.specs.Refusals.{without_cause}
use Rattle.patch_engine.specs.Showing.{IsShownWithout, HasShown, why_not_shown_so, why_not_without}
use Rattle.patch_engine.specs.declared.engines.Engine.{Engine}
use Rattle.patch_engine.specs.declared.refusals.WithoutRefusal.{WithoutRefusal}
use Rattle.patch_engine.proofs.engines.Engine.without.Goals as goal

-- what is shown of a block, by either name of it
shown_at : (run : Execution) (block : ℕ) (patches : List ℕ) (start : ℕ) (bytes : List ℕ) (r : Result (Unit {0}) WithoutRefusal) → HasShown run block patches start bytes r
    → OnOk r (IsShownWithout run block patches start bytes)
shown_at run block patches start bytes (Ok x) h = h
shown_at run block patches start bytes (Err e) h = tt

refused_at : (c : Contents) (run : Execution) (block : ℕ) (patches : List ℕ) (start : ℕ) (bytes before : List ℕ) (r : Result (Unit {0}) WithoutRefusal) → is_resident c block ≡ true
    → length bytes ≡ length before → HasShown run block patches start bytes r
    → IfErr r (λ refusal. why_not_without c run block patches start (length before) ≡ Some (without_cause refusal))
refused_at c run block patches start bytes before (Ok x) there long h = tt
refused_at c run block patches start bytes before (Err e) there long h =
    alone c block (why_not_shown_so run block patches start (length before)) there ∙ ap (why_not_shown_so run block patches start) (sym long) ∙ h

-- a view that was just lent has nothing taken back
lent : {A : Type 0} (c : Contents) (view : CacheView A) (block : ℕ) (run : Execution) → IsPagedCacheOf c run → seen_by view ≡ c → block_of view ≡ block → HasTakenBy false view [] run
lent c view block run at same is =
    let here : ShowsBy false c block [] run = none_yet false c block run at in
    let seen : ShowsBy false (seen_by view) block [] run = subst (λ (v : Contents). ShowsBy false v block [] run) (sym same) here in
    subst (λ b. ShowsBy false (seen_by view) b [] run) (sym is) seen

-- and it shows its block
told : {A : Type 0} (c : Contents) (view : CacheView A) (block : ℕ) (run : Execution) (patches : List ℕ) (start : ℕ) (bytes : List ℕ) (r : Result (Unit {0}) WithoutRefusal)
    → IsPagedCacheOf c run → is_resident c block ≡ true → block_of view ≡ block → (block_of view < length run.first → HasShown run (block_of view) patches start bytes r)
    → HasShown run block patches start bytes r
told c view block run patches start bytes r at there is shown =
    let within = resident_within c block there in
    let count = at.count in
    let known : block < length run.first = omega (arith, within, count) in
    let there : block_of view < length run.first = subst (λ b. b < length run.first) (sym is) known in
    subst (λ b. HasShown run b patches start bytes r) is (shown there)

pub returns-in-Ok-clause-bytes : goal.returns-in-Ok-clause-bytes
returns-in-Ok-clause-bytes g c = λ run at.
    let old = c.args.self.now.cache in
    let begun = lent old c.in-Ok.view c.args.block run at.cache_is c.in-Ok.ensures.same c.in-Ok.ensures.block in
    shown_at run c.args.block c.args.patches.now c.args.start c.show-shown.new.into c.show-shown.result
    (told old c.in-Ok.view c.args.block run c.args.patches.now c.args.start c.show-shown.new.into c.show-shown.result at.cache_is c.in-Ok.ensures.view.resident c.in-Ok.ensures.block
    (c.show-shown.ensures.shown run begun))

pub returns-in-Ok-clause-cause : goal.returns-in-Ok-clause-cause
returns-in-Ok-clause-cause g c = λ run at.
    let old = c.args.self.now.cache in
    let begun = lent old c.in-Ok.view c.args.block run at.cache_is c.in-Ok.ensures.same c.in-Ok.ensures.block in
    refused_at old run c.args.block c.args.patches.now c.args.start c.show-shown.new.into c.args.into.now c.show-shown.result c.in-Ok.ensures.view.resident c.show-shown.ensures.room
    (told old c.in-Ok.view c.args.block run c.args.patches.now c.args.start c.show-shown.new.into c.show-shown.result at.cache_is c.in-Ok.ensures.view.resident c.in-Ok.ensures.block
    (c.show-shown.ensures.shown run begun))

pub returns-in-Ok-clause-same : goal.returns-in-Ok-clause-same
returns-in-Ok-clause-same g c = λ run at.
    let old = c.args.self.now.cache in
    let view = c.show-shown.new.view in
    let stands = c.show-shown.ensures.stands run (lent old c.in-Ok.view c.args.block run at.cache_is c.in-Ok.ensures.same c.in-Ok.ensures.block) in
    let taken : HasTakenBy false view stands.0 run = subst (λ b. ShowsBy false (seen_by view) b stands.0 run) (sym c.show-shown.ensures.same_block) stands.1 in
    let begun : IsViewOf old (block_of c.in-Ok.view) (seen_by c.in-Ok.view) = subst (λ b. IsViewOf old b (seen_by c.in-Ok.view)) (sym c.in-Ok.ensures.block) c.in-Ok.ensures.view in
    let left : IsViewOf old (block_of view) (seen_by view) = subst (λ b. IsViewOf old b (seen_by view)) (sym c.show-shown.ensures.same_block) (c.show-shown.ensures.view old begun) in
    let name = sym c.in-Ok.ensures.same_reference ∙ sym c.show-shown.ensures.same_reference in
    ap (λ (v : Contents). let e : Engine g.row.A.Denot = record c.args.self.now { cache = v } in e) (c.self-1.given.1 name ∙ c.restore.ensures.as_before_paged run stands.0 old taken at.cache_is left)
