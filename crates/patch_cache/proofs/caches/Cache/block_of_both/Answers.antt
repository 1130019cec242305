use Rattle.std.proofs.Common.{◌≡◌, ◌∙◌, ◌<◌, ℕ, true, List, length, sym, ap, subst, arith}
use Rattle.patch_model.specs.Entry.{Entry}
use Rattle.patch_model.specs.State.{entries_of}
use Rattle.patch_model.specs.Member.{Contains-from_In}
use Rattle.patch_cache.specs.Contents.{Contents}
use Rattle.patch_cache.specs.Meaning.{IsCacheBy}
use Rattle.patch_cache.specs.Merging.{why_apart}
use Rattle.patch_model.specs.Entry.{is_memory, marks_memory}
use Rattle.patch_cache.proofs.Clean.{none_in_memory}
use Rattle.patch_cache.proofs.Residency.{not_there}
use Rattle.patch_cache.proofs.Mergers.{SpansAreWhole, shown_apart, known, only_second}
use Rattle.patch_cache.proofs.caches.Cache.block_of_both.Goals as goal

pub returns-in_default-in_memory-clause-answer : goal.returns-in_default-in_memory-clause-answer
returns-in_default-in_memory-clause-answer g c = λ whole run at.
    let all : List Entry = entries_of run in
    let holds = at.graph in
    let seen = subst (λ (s : Contents). IsCacheBy whole s run) (sym c.self.view_is) at in
    let made : c.made-made.result ≡ length all = c.made-made.ensures ∙ seen.graph.made in
    let is_b : c.b.inside.0 ≡ c.args.b = c.b.view_is in
    let less : c.b.inside.0 < c.made-made.result = c.if-b-made.false in
    only_second all c.args.a c.args.b c.in-Some.first holds.orderly holds.numbered (c.in-Some.ensures all holds) (omega (arith, made, is_b, less)) (c.in_default-in_memory.ensures all holds)

pub returns-in-Some-pair_refusal-clause-answer : goal.returns-in-Some-pair_refusal-clause-answer
returns-in-Some-pair_refusal-clause-answer g c = λ whole run at.
    let all : List Entry = entries_of run in
    let holds = at.graph in
    let spans : SpansAreWhole all = λ e e2 h h2. c.spans_are_whole.ensures.near run e e2 h h2 at.legal in
    shown_apart all c.args.a c.args.b c.in-Some.first c.in-Some-in_memory.second spans holds.orderly holds.numbered (c.in-Some.ensures all holds) (c.in-Some-in_memory.ensures all holds)
    ∙ sym {b = why_apart c.args.a c.in-Some.first c.args.b c.in-Some-in_memory.second} c.in-Some-pair_refusal.ensures

pub returns-then-not-contains-clause-answer : goal.returns-then-not-contains-clause-answer
returns-then-not-contains-clause-answer g c = λ whole run at.
    let all : List Entry = entries_of run in
    let shown = (c.in-Some.ensures all at.graph).shown in
    let placed = c.patches_are_placed.ensures.known run shown.patch at.legal (Contains-from_In all shown.patch shown.inside) in
    let block : shown.patch.patch.block ≡ c.in-Some.first.block = shown.block in
    let is : c.first.inside.0.1.0.0 ≡ c.in-Some.first.block = ap (λ x. x.block) c.first.view_is in
    let absent = not_there c.args.self.now _ _ _ _ _ _ c.in-Some.first.block c.self.view_is is (sym c.contains.ensures ∙ c.if-not-contains.true) in
    let memory : is_memory shown.patch ≡ true = ap marks_memory (shown.mark ∙ (c.in-Some.ensures all at.graph).memory) in
    absurd (none_in_memory run c.in-Some.first.block shown.patch (at.absent c.in-Some.first.block (subst (λ (n : ℕ). n < length run.first) block placed) absent) shown.inside block memory)

pub returns-clause-answer : goal.returns-clause-answer
returns-clause-answer g c = λ whole run at.
    let all : List Entry = entries_of run in
    let holds = at.graph in
    let spans : SpansAreWhole all = λ e e2 h h2. c.spans_are_whole.ensures.near run e e2 h h2 at.legal in
    let none =
    shown_apart all c.args.a c.args.b c.in-Some.first c.in-Some-in_memory.second spans holds.orderly holds.numbered (c.in-Some.ensures all holds) (c.in-Some-in_memory.ensures all holds)
    ∙ sym {b = why_apart c.args.a c.in-Some.first c.args.b c.in-Some-in_memory.second} c.in_default-pair_refusal.ensures in
    (none, sym (known all c.args.a c.in-Some.first holds.orderly holds.numbered (c.in-Some.ensures all holds)).block)
