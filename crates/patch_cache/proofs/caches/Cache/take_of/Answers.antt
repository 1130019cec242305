use Rattle.std.proofs.Common.{◌≡◌, ◌∙◌, refl, ℕ, List, true, false, Result, Ok, Err, sym, ap, subst, Some}
use Rattle.std.specs.Result.{IsErr, IsErrAnd, IsOk, MatchResult, OnErr}
use denote.Enum.Bare.{sameb}
use Rattle.patch_model.specs.declared.refusals.Refusal.{Refusal}
use Rattle.patch_model.specs.declared.patches.Mark.{Mark}
use Rattle.patch_model.specs.declared.patches.Mark.TheVariants.{Memory, Flight, Durable}
use Rattle.patch_model.specs.contracts.patches.Mark.{the_type}
use Rattle.patch_model.specs.Entry.{marks_durable}
use Rattle.patch_model.specs.State.{entries_of}
use Rattle.patch_model.specs.History.{history_of}
use Rattle.patch_graph.specs.Meaning.{HasMark}
use Rattle.patch_cache.specs.Contents.{Contents}
use Rattle.patch_cache.specs.Meaning.{ShowsBy}
use Rattle.patch_stacks.specs.Refusal.{take_cause as view_take_cause}
use Rattle.patch_cache.specs.Refusals.{take_cause}
use Rattle.patch_cache.specs.Viewing.{with_move}
use Rattle.patch_cache.specs.declared.asks.Move.TheVariants.{Take}
use Rattle.patch_cache.specs.declared.refusals.TakeRefusal.{TakeRefusal}
use Rattle.patch_cache.proofs.Showing.{unmade_stays, durable_stays, durable_is_left, not_made, started, taken, take_is_refused, as_was, only_one, still_a_view, its_own_view}
use Rattle.patch_cache.proofs.Residency.{row_stands, still_sound}
use Rattle.patch_cache.proofs.caches.Cache.take_of.Goals as goal

durable : (m : Mark) → true ≡ sameb the_type m Durable → m ≡ Durable
durable Memory e = absurd (cc)
durable Flight e = absurd (cc)
durable Durable e = refl

not_durable : (m : Mark) → false ≡ sameb the_type m Durable → marks_durable m ≡ false
not_durable Memory e = refl
not_durable Flight e = refl
not_durable Durable e = absurd (cc)

-- the refusal of the block's own take, as the cache gives it
told : {X : Type 0} → (r : Result X TakeRefusal) (P : X → Type 0) (answer : Result (List ℕ) Refusal) (cause : Refusal) → IsErrAnd r (λ e. take_cause e ≡ cause) → answer ≡ Err cause
    → MatchResult r P (λ refusal. answer ≡ Err (take_cause refusal))
told (Ok x) P answer cause is gives = absurd is
told (Err e) P answer cause is gives = gives ∙ ap Err (sym is)

same : {X : Type 0} → (r : Result X TakeRefusal) (P : Type 0) → P → OnErr r P
same (Ok x) P p = tt
same (Err e) P p = p

-- the refusal is one of the block's own take
refused : {X : Type 0} → (r : Result X TakeRefusal) (P : Type 0) → IsErr r → (false ≡ true → P) × (P → false ≡ true) → (IsOk r → P) × (P → IsOk r)
refused (Ok x) P is tells = absurd (cc)
refused (Err e) P is tells = tells

pub returns-in_default-clause-accepted : goal.returns-in_default-clause-accepted
returns-in_default-clause-accepted g c = λ whole run names at.
    let there = subst (λ (v : Contents). ShowsBy whole v c.args.block names run) (sym c.self.view_is) at in
    ((λ no. absurd (cc)), λ may. absurd (not_made whole c.args.self.now c.args.block c.args.no names run at (c.in_default.ensures (entries_of run) there.graph) may))

pub returns-then-eq-clause-accepted : goal.returns-then-eq-clause-accepted
returns-then-eq-clause-accepted g c = λ whole run names at.
    let there = subst (λ (v : Contents). ShowsBy whole v c.args.block names run) (sym c.self.view_is) at in
    let mark : HasMark (entries_of run) c.args.no Durable = subst (HasMark (entries_of run) c.args.no) (durable c.in-Some.mark c.if-eq.ensures) (c.in-Some.ensures (entries_of run) there.graph) in
    ((λ no. absurd (cc)), λ may. absurd (durable_is_left whole c.args.self.now c.args.block c.args.no names run at mark may))

pub returns-in_err-take-clause-accepted : goal.returns-in_err-take-clause-accepted
returns-in_err-take-clause-accepted g c = λ whole run names at.
    let before = started _ _ _ _ _ _ _ c.args.block _ c.self.view_is c.block.view_is (c.row_mut.ensures.value ∙ ap (λ r. Some r) (sym c.behind-self.view_is)) whole names run at in
    refused c.from_residual.result _ c.from_residual.ensures.0 (c.in_err-take.ensures.accepted (history_of run c.args.block) names before)

pub returns-clause-accepted : goal.returns-clause-accepted
returns-clause-accepted g c = λ whole run names at.
    let before = started _ _ _ _ _ _ _ c.args.block _ c.self.view_is c.block.view_is (c.row_mut.ensures.value ∙ ap (λ r. Some r) (sym c.behind-self.view_is)) whole names run at in
    c.in_ok-take.ensures.accepted (history_of run c.args.block) names before

pub returns-in_default-clause-answer : goal.returns-in_default-clause-answer
returns-in_default-clause-answer g c = λ whole run names at.
    let there = subst (λ (v : Contents). ShowsBy whole v c.args.block names run) (sym c.self.view_is) at in
    unmade_stays c.args.block c.args.no names run (c.in_default.ensures (entries_of run) there.graph)

pub returns-then-eq-clause-answer : goal.returns-then-eq-clause-answer
returns-then-eq-clause-answer g c = λ whole run names at.
    let there = subst (λ (v : Contents). ShowsBy whole v c.args.block names run) (sym c.self.view_is) at in
    let mark : HasMark (entries_of run) c.args.no Durable = subst (HasMark (entries_of run) c.args.no) (durable c.in-Some.mark c.if-eq.ensures) (c.in-Some.ensures (entries_of run) there.graph) in
    durable_stays whole c.args.self.now c.args.block c.args.no names run at mark

pub returns-in_err-take-clause-answer : goal.returns-in_err-take-clause-answer
returns-in_err-take-clause-answer g c = λ whole run names at.
    let there = subst (λ (v : Contents). ShowsBy whole v c.args.block names run) (sym c.self.view_is) at in
    told c.from_residual.result _ (with_move run c.args.block names (Take c.args.no)) (view_take_cause c.in_err-take.field-0.0) c.from_residual.ensures.1
    (take_is_refused _ _ _ _ _ _ _ c.args.block _ c.self.view_is c.block.view_is (c.row_mut.ensures.value ∙ ap (λ r. Some r) (sym c.behind-self.view_is)) whole c.args.no names run c.in-Some.mark c.in_err-take.field-0.0
    at (not_durable c.in-Some.mark c.if-eq.ensures) (c.in-Some.ensures (entries_of run) there.graph) c.in_err-take.ensures.answer)

pub returns-in_err-take-clause-refused : goal.returns-in_err-take-clause-refused
returns-in_err-take-clause-refused g c =
    same c.from_residual.result _ (as_was _ _ _ _ _ _ _ c.args.block _ c.self.view_is c.block.view_is (c.row_mut.ensures.value ∙ ap (λ r. Some r) (sym c.behind-self.view_is)) c.take.new.self c.in_err-take.ensures.refused)

pub returns-clause-answer : goal.returns-clause-answer
returns-clause-answer g c = λ whole run names at.
    let there = subst (λ (v : Contents). ShowsBy whole v c.args.block names run) (sym c.self.view_is) at in
    taken _ _ _ _ _ _ _ c.args.block _ c.self.view_is c.block.view_is (c.row_mut.ensures.value ∙ ap (λ r. Some r) (sym c.behind-self.view_is)) whole c.args.no c.take.new.self names run c.in-Some.mark
    at (not_durable c.in-Some.mark c.if-eq.ensures) (c.in-Some.ensures (entries_of run) there.graph) c.in_ok-take.ensures.answer

pub returns-in_err-take-clause-view : goal.returns-in_err-take-clause-view
returns-in_err-take-clause-view g c = λ before as_view.
    still_a_view _ _ _ _ _ _ _ c.args.block _ c.self.view_is c.block.view_is (c.row_mut.ensures.value ∙ ap (λ r. Some r) (sym c.behind-self.view_is)) before c.take.new.self c.in_err-take.ensures.outline as_view

pub returns-clause-view : goal.returns-clause-view
returns-clause-view g c = λ before as_view.
    still_a_view _ _ _ _ _ _ _ c.args.block _ c.self.view_is c.block.view_is (c.row_mut.ensures.value ∙ ap (λ r. Some r) (sym c.behind-self.view_is)) before c.take.new.self c.in_ok-take.ensures.outline as_view

pub returns-in_err-take-clause-others : goal.returns-in_err-take-clause-others
returns-in_err-take-clause-others g c =
    only_one _ _ _ _ _ _ _ c.args.block _ c.self.view_is c.block.view_is (c.row_mut.ensures.value ∙ ap (λ r. Some r) (sym c.behind-self.view_is)) c.take.new.self

pub returns-clause-others : goal.returns-clause-others
returns-clause-others g c =
    only_one _ _ _ _ _ _ _ c.args.block _ c.self.view_is c.block.view_is (c.row_mut.ensures.value ∙ ap (λ r. Some r) (sym c.behind-self.view_is)) c.take.new.self

pub row_mut-requires : goal.row_mut-requires
row_mut-requires g c = row_stands c.args.self.now _ _ _ _ _ _ c.args.block c.self.view_is c.block.view_is c.requires

pub invariant_of-self : goal.invariant_of-self
invariant_of-self g c =
    let sound = still_sound c.self.inside.rows.items c.block.inside.0 c.self.inside.under_way _ c.take.new.self (c.row_mut.ensures.value ∙ ap (λ r. Some r) (sym c.behind-self.view_is)) c.self.invariant.0 c.self.invariant.1 in
    (sound.0, sound.1, c.self.invariant.2)

pub invariant_of-self-2 : goal.invariant_of-self-2
invariant_of-self-2 g c =
    let sound = still_sound c.self.inside.rows.items c.block.inside.0 c.self.inside.under_way _ c.take.new.self (c.row_mut.ensures.value ∙ ap (λ r. Some r) (sym c.behind-self.view_is)) c.self.invariant.0 c.self.invariant.1 in
    (sound.0, sound.1, c.self.invariant.2)

pub returns-in_default-clause-others : goal.returns-in_default-clause-others
returns-in_default-clause-others g c = (its_own_view c.args.self.now c.args.block c.requires).others

pub returns-in_default-clause-view : goal.returns-in_default-clause-view
returns-in_default-clause-view g c = λ before as_view. as_view

pub returns-in_default-clause-refused : goal.returns-in_default-clause-refused
returns-in_default-clause-refused g c = refl

pub returns-then-eq-clause-others : goal.returns-then-eq-clause-others
returns-then-eq-clause-others g c = (its_own_view c.args.self.now c.args.block c.requires).others

pub returns-then-eq-clause-view : goal.returns-then-eq-clause-view
returns-then-eq-clause-view g c = λ before as_view. as_view

pub returns-then-eq-clause-refused : goal.returns-then-eq-clause-refused
returns-then-eq-clause-refused g c = refl
