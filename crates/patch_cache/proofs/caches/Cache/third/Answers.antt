use Rattle.std.proofs.Common.{List, sym, subst}
use Rattle.patch_model.specs.Entry.{Entry}
use Rattle.patch_model.specs.State.{entries_of}
use Rattle.patch_graph.specs.Meaning.{IsGraphOf}
use Rattle.patch_graph.specs.Between.{HasNoRing}
use Rattle.patch_cache.specs.Contents.{Contents}
use Rattle.patch_cache.specs.Meaning.{IsCacheBy}
use Rattle.patch_cache.proofs.Mergers.{two_from, live_class, least_third, either_way}
use Rattle.patch_cache.proofs.caches.Cache.third.Goals as goal

pub returns-in-Some-clause-answer : goal.returns-in-Some-clause-answer
returns-in-Some-clause-answer g c = λ whole run at why.
    let all : List Entry = entries_of run in
    let seen = subst (λ (s : Contents). IsCacheBy whole s run) (sym c.self.view_is) at in
    let holds = at.graph in
    let two = two_from all c.args.a c.args.b why in
    let ring : HasNoRing all = λ x y apart to back. c.paths_form_no_ring.ensures.back run x y at.legal to back in
    let found = c.in-Some.ensures.answer all _ _ seen.graph ring (live_class all c.args.a holds.orderly holds.numbered two.memory_a) (live_class all c.args.b holds.orderly holds.numbered two.memory_b) in
    least_third all c.args.a c.args.b c.in-Some.name ring two.two found

pub returns-in-None-clause-answer : goal.returns-in-None-clause-answer
returns-in-None-clause-answer g c = λ whole run at why.
    let all : List Entry = entries_of run in
    let seen = subst (λ (s : Contents). IsCacheBy whole s run) (sym c.self.view_is) at in
    let holds = at.graph in
    let two = two_from all c.args.a c.args.b why in
    let ring : HasNoRing all = λ x y apart to back. c.paths_form_no_ring.ensures.back run x y at.legal to back in
    let live_a = live_class all c.args.a holds.orderly holds.numbered two.memory_a in
    let live_b = live_class all c.args.b holds.orderly holds.numbered two.memory_b in
    let none = c.in-None.ensures.answer all _ _ seen.graph ring live_a live_b in
    let still : IsGraphOf c.between.new.self all = subst (λ s. IsGraphOf s all) (sym c.in-None.ensures.same) seen.graph in
    either_way all c.args.a c.args.b c.between-in-None.result none (c.between-in-None.ensures.answer all _ _ still ring live_b live_a)
