-- The cause that the definitions give against a take, or a put back, of a patch of the block.
use Rattle.std.proofs.Common.{◌≡◌, ℕ, ◌≤◌, ◌∙◌, true, false, not, inl, inr, Bool, List, ◌∷◌, Some, None, refl, sym, ap, subst, map, filter}
use Rattle.std.specs.Prelude.{find, ◌==◌, ◌&&◌, ◌||◌, ◌≢◌}
use Rattle.std.specs.List.{list_any}
use Rattle.std.proofs.lemmas.Bool.{and_parts, and_from, or_cases, both_ways, eqb-true, eq-eqb, not_from_false, not-true, false_from_ne_true}
use Rattle.patch_model.specs.Link.{Link-at}
use Rattle.patch_model.specs.Marked.{memory_live, flight_live}
use Rattle.patch_model.specs.declared.patches.Mark.{Mark}
use Rattle.patch_model.specs.declared.patches.Mark.TheVariants.{Memory, Flight, Durable}
use Rattle.patch_model.specs.declared.refusals.RefusalKind.TheVariants as kind
use Rattle.patch_model.specs.Entry.{Entry, is_live, is_flight, is_memory, is_among, is_undoable, marks_memory, marks_flight, marks_durable}
use Rattle.patch_model.specs.Dependency.{class_depends, has_live}
use Rattle.patch_model.specs.Member.{In, In-from_Contains, Contains-from_In, In-filter, filter-In, list_any-at, list_any-from, In-map, map-In, among-In, In-among}
use Rattle.patch_model.specs.History.{History, HoldsDependents, Back, moved}
use Rattle.patch_model.specs.Refusing.{least, applied_dependents, taken_dependencies, hindered_by, why_class_not_taken, why_not_taken, why_not_put_back, class_named}
use Rattle.patch_stacks.specs.declared.refusals.TakeRefusal.TheVariants.{Unknown, InFlight, Hard, AlreadyTaken, DependentApplied}
use Rattle.patch_stacks.specs.declared.refusals.PutBackRefusal.TheVariants.{NotTaken, DependencyTaken}
use Rattle.patch_view.specs.History.{IsCoherent}
use Rattle.patch_view.specs.Answers.{IsPatch}
use Rattle.patch_stacks.specs.Refusal.{take_cause, put_back_cause}
use Rattle.patch_view.proofs.Finding.{find_is, find_none, least_is, least_of_none}
use Rattle.patch_view.proofs.Steps.{among-filter, among-filtered}

-- Marks.

not_flight : (m : Mark) → marks_memory m ≡ true → marks_flight m ≡ false
not_flight Memory t = refl
not_flight Flight t = absurd (cc)
not_flight Durable t = absurd (cc)

-- Patches by their numbers.

numbered : (h : History) (number : ℕ) (e f : Entry) → IsCoherent h → IsPatch h number e → In h.entries f → f.patch.no ≡ number → f ≡ e
numbered h number e f r p in_f is = r.numbers f e in_f p.is_in (is ∙ sym p.number)

found_one : (h : History) (number : ℕ) (e : Entry) (p : Entry → Bool) → IsCoherent h → IsPatch h number e → p e ≡ true
    → find (λ f. f.patch.no == number && p f) h.entries ≡ Some e
found_one h number e p r is t =
    find_is (λ f. f.patch.no == number && p f) h.entries e is.is_in (and_from _ _ (eq-eqb _ _ is.number) t)
    (λ f in_f u. numbered h number e f r is in_f (eqb-true _ _ (and_parts (f.patch.no == number) (p f) u).0))

pub class_is : (h : History) (number : ℕ) (e : Entry) → IsCoherent h → IsPatch h number e → class_named h number ≡ e.class
class_is h number e r is =
    let f : find (λ f. f.patch.no == number) h.entries ≡ Some e =
    find_is (λ f. f.patch.no == number) h.entries e is.is_in (eq-eqb _ _ is.number) (λ f in_f u. numbered h number e f r is in_f (eqb-true _ _ u)) in
    rw (f, class_named) refl

-- Those that stand in the way of a take.

-- n names another live class of the block, which depends directly on the class c and isn't taken
pub record IsAppliedDependent (h : History) (taken : List ℕ) (c n : ℕ) : Type 0 where
  pub live : has_live h.entries n ≡ true
  pub depends : class_depends h.entries n c ≡ true
  pub applied : is_among taken n ≡ false

not_same : (m n : ℕ) → not (m == n) ≡ true → m ≢ n
not_same m n t e = both_ways _ (not-true _ t) (eq-eqb _ _ e)

-- what depends on another class is not that class
pub depends-another : (h : History) (a c : ℕ) → class_depends h.entries a c ≡ true → a ≢ c
depends-another h a c t = not_same a c (and_parts _ _ t).0

applied_is : (h : History) (taken : List ℕ) (c n : ℕ) → In (applied_dependents h taken c) n → IsAppliedDependent h taken c n
applied_is h taken c n i =
    let p = filter-In (λ n. class_depends h.entries n c && not (is_among taken n)) (map (λ e. e.class) (filter is_live h.entries)) n i in
    let q = map-In (λ e. e.class) (filter is_live h.entries) n p.0 in
    let r = filter-In is_live h.entries q.0 q.1 in
    let d = and_parts (class_depends h.entries n c) (not (is_among taken n)) p.1 in
    record {
      live = list_any-from (λ e. e.class == n && is_live e) h.entries q.0 r.0 (and_from _ _ (eq-eqb _ _ q.2) r.1);
      depends = d.0;
      applied = not-true _ d.1;
    }

pub is_applied : (h : History) (taken : List ℕ) (c n : ℕ) → IsAppliedDependent h taken c n → In (applied_dependents h taken c) n
is_applied h taken c n d =
    let g = list_any-at (λ e. e.class == n && is_live e) h.entries d.live in
    let p = and_parts (g.0.class == n) (is_live g.0) g.2 in
    let i : In (map (λ e. e.class) (filter is_live h.entries)) n =
    subst (In (map (λ e. e.class) (filter is_live h.entries))) (eqb-true _ _ p.0) (In-map (λ e. e.class) (filter is_live h.entries) g.0 (In-filter is_live h.entries g.0 g.1 p.1)) in
    In-filter (λ n. class_depends h.entries n c && not (is_among taken n)) (map (λ e. e.class) (filter is_live h.entries)) n i
    (and_from _ _ d.depends (not_from_false _ d.applied))

none_applied : (h : History) (taken : List ℕ) (c n : ℕ) → IsCoherent h → HoldsDependents h (c ∷ taken) → IsAppliedDependent h taken c n → ⊥
none_applied h taken c n r s d =
    let k = Link-at h.entries n c d.depends in
    let g = list_any-at (λ e. e.class == n && is_live e) h.entries d.live in
    let p = and_parts (g.0.class == n) (is_live g.0) g.2 in
    let same = r.one_mark g.0 k.from g.1 k.in_from (eqb-true _ _ p.0 ∙ sym k.name_from) in
    let live : is_live k.from ≡ true = ap (λ m. not (marks_durable m)) (sym same.0) ∙ p.1 in
    let inside : is_among (c ∷ taken) k.to.class ≡ true = ap (is_among (c ∷ taken)) k.name_to ∙ ap (λ z. z || is_among taken c) (eq-eqb c c refl) in
    let t : is_among (c ∷ taken) n ≡ true = ap (is_among (c ∷ taken)) (sym k.name_from)
    ∙ s.dependents k.from k.to (Contains-from_In h.entries k.from k.in_from) (Contains-from_In h.entries k.to k.in_to) live k.depends inside in
    elim (or_cases (c == n) (is_among taken n) t) [
      | inl u ↦ depends-another h n c d.depends (sym (eqb-true _ _ u))
      | inr u ↦ both_ways _ d.applied u
    ]

-- Takes.

why_class : (h : History) (taken : List ℕ) (number : ℕ) (e : Entry) → IsCoherent h → IsPatch h number e → is_live e ≡ true
    → why_not_taken h taken number ≡ why_class_not_taken h taken e
why_class h taken number e r is live = let f = found_one h number e is_live r is live in rw (f, why_not_taken) refl

pub take_done : (h : History) (taken : List ℕ) (number : ℕ) (e : Entry) → IsCoherent h → IsPatch h number e → is_undoable e ≡ true → is_among taken e.class ≡ false
    → HoldsDependents h (e.class ∷ taken) → why_not_taken h taken number ≡ None
take_done h taken number e r is undoable applied holds =
    let p = and_parts (is_memory e) (not e.hard) undoable in
    let none : least (applied_dependents h taken e.class) ≡ None =
    least_of_none _ (λ m i. none_applied h taken e.class m r holds (applied_is h taken e.class m i)) in
    why_class h taken number e r is (memory_live e.mark p.0) ∙ rw (not_flight e.mark p.0, not-true _ p.1, applied, none) refl

pub is_unknown : (h : History) (taken : List ℕ) (number : ℕ) → list_any (λ e. e.patch.no == number && is_live e) h.entries ≡ false
    → why_not_taken h taken number ≡ Some (take_cause Unknown)
is_unknown h taken number why =
    let none : find (λ e. e.patch.no == number && is_live e) h.entries ≡ None =
    find_none _ h.entries (λ e in_e. false_from_ne_true _ (λ t.
    both_ways _ why (list_any-from (λ e. e.patch.no == number && is_live e) h.entries e in_e t))) in
    rw (none, why_not_taken) refl

pub is_in_flight : (h : History) (taken : List ℕ) (number : ℕ) (e : Entry) → IsCoherent h → IsPatch h number e → is_flight e ≡ true
    → why_not_taken h taken number ≡ Some (take_cause InFlight)
is_in_flight h taken number e r is flight = why_class h taken number e r is (flight_live e.mark flight) ∙ rw flight refl

pub is_hard : (h : History) (taken : List ℕ) (number : ℕ) (e : Entry) → IsCoherent h → IsPatch h number e → is_memory e ≡ true → e.hard ≡ true
    → why_not_taken h taken number ≡ Some (take_cause Hard)
is_hard h taken number e r is memory hard =
    why_class h taken number e r is (memory_live e.mark memory) ∙ rw (not_flight e.mark memory, hard) refl

pub is_taken : (h : History) (taken : List ℕ) (number : ℕ) (e : Entry) → IsCoherent h → IsPatch h number e → is_undoable e ≡ true → is_among taken e.class ≡ true
    → why_not_taken h taken number ≡ Some (take_cause AlreadyTaken)
is_taken h taken number e r is undoable t =
    let p = and_parts (is_memory e) (not e.hard) undoable in
    why_class h taken number e r is (memory_live e.mark p.0) ∙ rw (not_flight e.mark p.0, not-true _ p.1, t) refl

pub is_depended_on : (h : History) (taken : List ℕ) (number n : ℕ) (e : Entry) → IsCoherent h → IsPatch h number e → is_undoable e ≡ true → is_among taken e.class ≡ false
    → IsAppliedDependent h taken e.class n → ((m : ℕ) → IsAppliedDependent h taken e.class m → n ≤ m)
    → why_not_taken h taken number ≡ Some (take_cause (DependentApplied n))
is_depended_on h taken number n e r is undoable applied d low =
    let p = and_parts (is_memory e) (not e.hard) undoable in
    let one : least (applied_dependents h taken e.class) ≡ Some n =
    least_is _ n (is_applied h taken e.class n d) (λ m i. low m (applied_is h taken e.class m i)) in
    why_class h taken number e r is (memory_live e.mark p.0) ∙ rw (not_flight e.mark p.0, not-true _ p.1, applied, one) refl

-- Puts back.

-- n names another class of the block, on which the class c depends directly and which is taken
pub record IsTakenDependency (h : History) (taken : List ℕ) (c n : ℕ) : Type 0 where
  pub depends : class_depends h.entries c n ≡ true
  pub is_taken : is_among taken n ≡ true

taken_is : (h : History) (taken : List ℕ) (c n : ℕ) → In (taken_dependencies h taken c) n → IsTakenDependency h taken c n
taken_is h taken c n i = let p = filter-In (λ n. class_depends h.entries c n) taken n i in record { depends = p.1; is_taken = In-among taken n p.0 }

pub is_taken_one : (h : History) (taken : List ℕ) (c n : ℕ) → IsTakenDependency h taken c n → In (taken_dependencies h taken c) n
is_taken_one h taken c n d = In-filter (λ n. class_depends h.entries c n) taken n (among-In taken n d.is_taken) d.depends

-- a taken class is live
taken_live : (h : History) (taken : List ℕ) (e : Entry) → IsCoherent h → HoldsDependents h taken → In h.entries e → is_among taken e.class ≡ true → is_live e ≡ true
taken_live h taken e r s in_e t =
    let u = s.undoable e.class t in
    let same = r.one_mark u.0 e (In-from_Contains h.entries u.0 u.1) in_e u.2 in
    let p = and_parts (is_memory u.0) (not u.0.hard) u.3 in
    ap (λ m. not (marks_durable m)) (sym same.0) ∙ memory_live u.0.mark p.0

none_taken : (h : History) (taken : List ℕ) (c n : ℕ) → IsCoherent h → HoldsDependents h taken → HoldsDependents h (moved taken (Back c)) → is_among taken c ≡ true
    → IsTakenDependency h taken c n → ⊥
none_taken h taken c n r old s t d =
    let k = Link-at h.entries c n d.depends in
    let live : is_live k.from ≡ true = taken_live h taken k.from r old k.in_from (ap (is_among taken) k.name_from ∙ t) in
    let apart : n ≢ c = (λ q. depends-another h c n d.depends (sym q)) in
    let inside : is_among (moved taken (Back c)) k.to.class ≡ true = ap (is_among (moved taken (Back c))) k.name_to ∙ among-filter n c taken apart ∙ d.is_taken in
    both_ways _ (among-filtered c taken) (ap (is_among (moved taken (Back c))) (sym k.name_from)
    ∙ s.dependents k.from k.to (Contains-from_In h.entries k.from k.in_from) (Contains-from_In h.entries k.to k.in_to) live k.depends inside)

why_back : (h : History) (taken : List ℕ) (number : ℕ) (e : Entry) → IsCoherent h → IsPatch h number e → is_among taken e.class ≡ true
    → why_not_put_back h taken number ≡ hindered_by kind.DependencyTaken (least (taken_dependencies h taken e.class))
why_back h taken number e r is t = let f = found_one h number e (λ e. is_among taken e.class) r is t in rw (f, why_not_put_back) refl

pub back_done : (h : History) (taken : List ℕ) (number : ℕ) (e : Entry) → IsCoherent h → HoldsDependents h taken → IsPatch h number e → is_among taken e.class ≡ true
    → HoldsDependents h (moved taken (Back e.class)) → why_not_put_back h taken number ≡ None
back_done h taken number e r old is t holds =
    let none : least (taken_dependencies h taken e.class) ≡ None =
    least_of_none _ (λ m i. none_taken h taken e.class m r old holds t (taken_is h taken e.class m i)) in
    why_back h taken number e r is t ∙ rw none refl

pub is_not_taken : (h : History) (taken : List ℕ) (number : ℕ) → ((e : Entry) → IsPatch h number e → is_among taken e.class ≡ false)
    → why_not_put_back h taken number ≡ Some (put_back_cause NotTaken)
is_not_taken h taken number why =
    let none : find (λ e. e.patch.no == number && is_among taken e.class) h.entries ≡ None =
    find_none _ h.entries (λ e in_e. false_from_ne_true _ (λ t.
    let p = and_parts (e.patch.no == number) (is_among taken e.class) t in
    both_ways _ (why e (record { is_in = in_e; number = eqb-true _ _ p.0 })) p.1)) in
    rw (none, why_not_put_back) refl

pub is_dependent : (h : History) (taken : List ℕ) (number n : ℕ) (e : Entry) → IsCoherent h → IsPatch h number e → is_among taken e.class ≡ true
    → IsTakenDependency h taken e.class n → ((m : ℕ) → IsTakenDependency h taken e.class m → n ≤ m)
    → why_not_put_back h taken number ≡ Some (put_back_cause (DependencyTaken n))
is_dependent h taken number n e r is t d low =
    let one : least (taken_dependencies h taken e.class) ≡ Some n =
    least_is _ n (is_taken_one h taken e.class n d) (λ m i. low m (taken_is h taken e.class m i)) in
    why_back h taken number e r is t ∙ rw one refl
