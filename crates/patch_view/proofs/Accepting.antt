-- A class may be taken, or put back, just where no cause of a refusal holds.
use Rattle.std.proofs.Common.{◌≡◌, ℕ, ◌∙◌, true, false, not, inl, inr, Bool, List, [], ◌∷◌, Option, Some, None, refl, sym, subst, Result, Ok, Err, ◌↔◌, IsOk}
use Rattle.std.specs.Prelude.{find, cond, ◌==◌, ◌&&◌}
use Rattle.std.proofs.lemmas.Bool.{cases_Bool, cases_eq, and_parts, and_from, eqb-true, eq-eqb, not_from_false}
use Rattle.std.proofs.lemmas.Option.{none-some}
use Rattle.patch_model.specs.Link.{Link-from}
use Rattle.patch_model.specs.declared.refusals.Refusal.{Refusal}
use Rattle.patch_model.specs.declared.patches.Mark.{Mark}
use Rattle.patch_model.specs.declared.patches.Mark.TheVariants.{Memory, Flight, Durable}
use Rattle.patch_model.specs.declared.refusals.RefusalKind.TheVariants as kind
use Rattle.patch_model.specs.Entry.{Entry, is_live, is_flight, is_among, is_undoable, marks_memory, marks_flight, marks_durable}
use Rattle.patch_model.specs.Dependency.{class_depends}
use Rattle.patch_model.specs.Member.{In, In-from_Contains, list_any-from}
use Rattle.patch_model.specs.History.{History, HoldsDependents, Back, moved}
use Rattle.patch_model.specs.Refusing.{bare, least, applied_dependents, taken_dependencies, hindered_by, why_class_not_taken}
use Rattle.patch_stacks.specs.declared.refusals.TakeRefusal.{TakeRefusal}
use Rattle.patch_stacks.specs.declared.refusals.PutBackRefusal.{PutBackRefusal}
use Rattle.patch_stacks.specs.State.{Block}
use Rattle.patch_view.specs.History.{IsCoherent}
use Rattle.patch_view.specs.Meaning.{IsBlockOf}
use Rattle.patch_view.specs.Answers.{IsPatch, MayTake, MayPutBack, IsTakeAnswer, IsPutBackAnswer}
use Rattle.patch_view.specs.Laws.{TakenWithoutCause, PutBackWithoutCause}
use Rattle.patch_view.proofs.Steps.{among-filter, among-left}
use Rattle.patch_view.proofs.Finding.{find_in}
use Rattle.patch_view.proofs.Causes.{take_done, back_done, is_applied, is_taken_one}
use Rattle.patch_view.proofs.Lawful.{uppermost_may_be_taken}

-- Causes that don't hold.

passed : (b : Bool) (cause : Refusal) (rest : Option Refusal) → cond b (Some cause) rest ≡ None → (b ≡ false) × (rest ≡ None)
passed true cause rest e = absurd (cc)
passed false cause rest e = (refl, e)

unhindered : (ns : List ℕ) → hindered_by kind.DependentApplied (least ns) ≡ None → ns ≡ []
unhindered [] e = refl
unhindered (n ∷ ns) e = absurd (cc)

unhindered_back : (ns : List ℕ) → hindered_by kind.DependencyTaken (least ns) ≡ None → ns ≡ []
unhindered_back [] e = refl
unhindered_back (n ∷ ns) e = absurd (cc)

in_memory : (m : Mark) → not (marks_durable m) ≡ true → marks_flight m ≡ false → marks_memory m ≡ true
in_memory Memory live still = refl
in_memory Flight live still = absurd (cc)
in_memory Durable live still = absurd (cc)

-- Takes.

may_be_taken : (h : History) (names : List ℕ) (number : ℕ) (e : Entry) → IsCoherent h → HoldsDependents h names → IsPatch h number e → is_live e ≡ true
    → why_class_not_taken h names e ≡ None → MayTake h names number
may_be_taken h names number e r holds is live why =
    let a = passed (is_flight e) _ _ why in
    let b = passed e.hard _ _ a.1 in
    let c = passed (is_among names e.class) _ _ b.1 in
    let none : applied_dependents h names e.class ≡ [] = unhindered (applied_dependents h names e.class) c.1 in
    let undoable : is_undoable e ≡ true = and_from _ _ (in_memory e.mark live a.0) (not_from_false _ b.0) in
    record {
      patch = e;
      named = is;
      undoable = undoable;
      applied = c.0;
      holds = uppermost_may_be_taken h names e r holds is.is_in undoable (λ f g in_f in_g live_f same apart goes. elim (cases_Bool (is_among names f.class)) [
        | inl t ↦ t
        | inr u ↦
            let on : class_depends h.entries f.class e.class ≡ true = subst (λ (n : ℕ). class_depends h.entries f.class n ≡ true) same
            (Link-from h.entries f g in_f in_g (λ eq. apart (eq ∙ same)) goes) in
            let i : In (applied_dependents h names e.class) f.class = is_applied h names e.class f.class (record {
              live = list_any-from (λ x. x.class == f.class && is_live x) h.entries f in_f (and_from _ _ (eq-eqb f.class f.class refl) live_f);
              depends = on;
              applied = u;
            }) in
            absurd (subst (λ (ns : List ℕ). In ns f.class) none i)
      ]);
    }

take_found : (h : History) (names : List ℕ) (number : ℕ) (o : Option Entry) → find (λ e. e.patch.no == number && is_live e) h.entries ≡ o → IsCoherent h
    → HoldsDependents h names → ◌≡◌ {A = Option Refusal} (elim o [ None ↦ Some (bare kind.Unknown) | Some e ↦ why_class_not_taken h names e ]) None
    → MayTake h names number
take_found h names number None at r holds why = absurd (cc)
take_found h names number (Some e) at r holds why =
    let f = find_in (λ e. e.patch.no == number && is_live e) h.entries e at in
    let p = and_parts (e.patch.no == number) (is_live e) f.1 in
    may_be_taken h names number e r holds (record { is_in = f.0; number = eqb-true _ _ p.0 }) p.1 why

pub taken_without_cause : TakenWithoutCause
taken_without_cause h names number r holds = (
  λ why. take_found h names number (find (λ e. e.patch.no == number && is_live e) h.entries) refl r holds why,
  λ may. take_done h names number may.patch r may.named may.undoable may.applied may.holds,
)

pub take_accepted : (b new : Block) (taken : List ℕ) (h : History) (number : ℕ) (result : Result (Unit {0}) TakeRefusal) → IsBlockOf b taken h
    → IsTakeAnswer h taken number new result → IsOk result ↔ MayTake h taken number
take_accepted b new taken h number (Ok done) r t = ((λ is. (taken_without_cause h taken number r.coherent r.holds).0 t.none), (λ may. refl))
take_accepted b new taken h number (Err refusal) r why =
    ((λ is. absurd (cc)), (λ may. absurd (none-some _ (sym ((taken_without_cause h taken number r.coherent r.holds).1 may) ∙ why))))

-- Puts back.

left_holds : (h : History) (names : List ℕ) (c : ℕ) → HoldsDependents h names → taken_dependencies h names c ≡ [] → HoldsDependents h (moved names (Back c))
left_holds h names c holds none = record {
  undoable = λ n t. holds.undoable n (among-left n c names t).0;
  dependents = λ e f i j live goes t.
      let left = among-left f.class c names t in
      let over : is_among names e.class ≡ true = holds.dependents e f i j live goes left.0 in
      elim (cases_eq e.class c) [
        | inl at ↦
            let on : class_depends h.entries c f.class ≡ true = subst (λ (n : ℕ). class_depends h.entries n f.class ≡ true) at
            (Link-from h.entries e f (In-from_Contains _ _ i) (In-from_Contains _ _ j) (λ eq. left.1 (sym eq ∙ at)) goes) in
            absurd (subst (λ (ns : List ℕ). In ns f.class) none (is_taken_one h names c f.class (record { depends = on; is_taken = left.0 })))
        | inr apart ↦ among-filter e.class c names apart ∙ over
      ];
}

back_found : (h : History) (names : List ℕ) (number : ℕ) (o : Option Entry) → find (λ e. e.patch.no == number && is_among names e.class) h.entries ≡ o
    → HoldsDependents h names
    → ◌≡◌ {A = Option Refusal} (elim o [ None ↦ Some (bare kind.NotTaken) | Some e ↦ hindered_by kind.DependencyTaken (least (taken_dependencies h names e.class)) ]) None
    → MayPutBack h names number
back_found h names number None at holds why = absurd (cc)
back_found h names number (Some e) at holds why =
    let f = find_in (λ e. e.patch.no == number && is_among names e.class) h.entries e at in
    let p = and_parts (e.patch.no == number) (is_among names e.class) f.1 in
    record {
      patch = e;
      named = record { is_in = f.0; number = eqb-true _ _ p.0 };
      is_taken = p.1;
      holds = left_holds h names e.class holds (unhindered_back (taken_dependencies h names e.class) why);
    }

pub put_back_without_cause : PutBackWithoutCause
put_back_without_cause h names number r holds = (
  λ why. back_found h names number (find (λ e. e.patch.no == number && is_among names e.class) h.entries) refl holds why,
  λ may. back_done h names number may.patch r holds may.named may.is_taken may.holds,
)

pub put_back_accepted : (b new : Block) (taken : List ℕ) (h : History) (number : ℕ) (result : Result (Unit {0}) PutBackRefusal) → IsBlockOf b taken h
    → IsPutBackAnswer h taken number new result → IsOk result ↔ MayPutBack h taken number
put_back_accepted b new taken h number (Ok done) r t = ((λ is. (put_back_without_cause h taken number r.coherent r.holds).0 t.none), (λ may. refl))
put_back_accepted b new taken h number (Err refusal) r why =
    ((λ is. absurd (cc)), (λ may. absurd (none-some _ (sym ((put_back_without_cause h taken number r.coherent r.holds).1 may) ∙ why))))
