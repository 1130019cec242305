use Rattle.std.proofs.Common.{◌≡◌, None, ap, subst, sym}
use Rattle.std.specs.Prelude.{◌==◌}
use Rattle.std.specs.List.{list_any}
use Rattle.patch_model.specs.Refusing.{why_not_sent}
use Rattle.patch_model.specs.State.{entries_of}
use Rattle.patch_cache.specs.Contents.{Contents}
use Rattle.patch_cache.specs.Meaning.{IsCacheOf, IsPagedCacheOf}
use Rattle.patch_cache.proofs.Refusing.{something}
use Rattle.patch_cache.proofs.Shut.{told, least_is_ready, some_is_found}
use Rattle.patch_cache.proofs.caches.Cache.next_ready.Goals as goal

pub returns-clause-answer : goal.returns-clause-answer
returns-clause-answer g c = λ run at.
    let seen = subst (λ (v : Contents). IsCacheOf v run) (sym c.self.view_is) at in
    least_is_ready c.patches_are_placed.ensures.known c.patches_are_placed.ensures.flying c.flights_are_single.ensures.holds run c.next_open.result at.legal
    (λ n. c.ready_is_largest.ensures.largest (entries_of run) n (c.ready_is_largest.ensures.made run))
    (λ n may. ((c.pairs_merge.ensures.sent run n).0 may).0)
    (told c.paths_form_no_ring.ensures.back run c.self.inside.graph 0 c.next_open.result at.legal seen.graph c.next_open.ensures.answer)

pub returns-clause-some : goal.returns-clause-some
returns-clause-some g c = λ run e at flights inside memory.
    let seen = subst (λ (v : Contents). IsCacheOf v run) (sym c.self.view_is) at in
    let some = c.some_is_ready.ensures run e at.legal flights inside memory in
    let may : why_not_sent run some.0 ≡ None = something run some.0 some.1 (ap (list_any (λ f. f.0 == some.0)) flights) some.2 in
    some_is_found run some.0 c.next_open.result
    (least_is_ready c.patches_are_placed.ensures.known c.patches_are_placed.ensures.flying c.flights_are_single.ensures.holds run c.next_open.result at.legal
    (λ n. c.ready_is_largest.ensures.largest (entries_of run) n (c.ready_is_largest.ensures.made run))
    (λ n this. ((c.pairs_merge.ensures.sent run n).0 this).0)
    (told c.paths_form_no_ring.ensures.back run c.self.inside.graph 0 c.next_open.result at.legal seen.graph c.next_open.ensures.answer)) may

pub returns-clause-paged : goal.returns-clause-paged
returns-clause-paged g c = λ run at.
    let seen = subst (λ (v : Contents). IsPagedCacheOf v run) (sym c.self.view_is) at in
    least_is_ready c.patches_are_placed.ensures.known c.patches_are_placed.ensures.flying c.flights_are_single.ensures.holds run c.next_open.result at.legal
    (λ n. c.ready_is_largest.ensures.largest (entries_of run) n (c.ready_is_largest.ensures.made run))
    (λ n may. ((c.pairs_merge.ensures.sent run n).0 may).0)
    (told c.paths_form_no_ring.ensures.back run c.self.inside.graph 0 c.next_open.result at.legal seen.graph c.next_open.ensures.answer)

pub returns-clause-some_paged : goal.returns-clause-some_paged
returns-clause-some_paged g c = λ run e at flights inside memory.
    let seen = subst (λ (v : Contents). IsPagedCacheOf v run) (sym c.self.view_is) at in
    let some = c.some_is_ready.ensures run e at.legal flights inside memory in
    let may : why_not_sent run some.0 ≡ None = something run some.0 some.1 (ap (list_any (λ f. f.0 == some.0)) flights) some.2 in
    some_is_found run some.0 c.next_open.result
    (least_is_ready c.patches_are_placed.ensures.known c.patches_are_placed.ensures.flying c.flights_are_single.ensures.holds run c.next_open.result at.legal
    (λ n. c.ready_is_largest.ensures.largest (entries_of run) n (c.ready_is_largest.ensures.made run))
    (λ n this. ((c.pairs_merge.ensures.sent run n).0 this).0)
    (told c.paths_form_no_ring.ensures.back run c.self.inside.graph 0 c.next_open.result at.legal seen.graph c.next_open.ensures.answer)) may
