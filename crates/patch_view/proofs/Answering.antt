-- What the calls of a view answer.
use Rattle.std.proofs.Common.{◌≡◌, ℕ, ◌<◌, ◌≤◌, ◌∙◌, true, false, not, List, ◌∷◌, length, refl, sym, ap, subst}
use Rattle.std.specs.Prelude.{◌==◌, ◌&&◌, ◌≢◌, Some, None}
use Rattle.std.specs.List.{list_any}
use Rattle.std.proofs.lemmas.Bool.{and_parts, and_from, both_ways, eqb-true, eq-eqb, not_from_false, not-true, true_from_ne_false, false_from_ne_true}
use Rattle.std.proofs.lemmas.List.Quantifiers.{position-Some}
use Rattle.patch_model.specs.declared.patches.Mark.{Mark}
use Rattle.patch_model.specs.declared.patches.Mark.TheVariants.{Memory, Flight, Durable}
use Rattle.patch_model.specs.Entry.{Entry, is_durable, is_memory, is_among, marks_memory, marks_durable, marks_flight, is_undoable, is_live}
use Rattle.patch_model.specs.Dependency.{class_depends}
use Rattle.patch_model.specs.Member.{list_any-at, list_any-from}
use Rattle.patch_model.specs.History.{History, moved, Back}
use Rattle.patch_model.specs.Refusing.{why_not_taken, why_not_put_back}
use Rattle.patch_records.specs.declared.classes.Turn.TheVariants.{Take, PutBack}
use Rattle.patch_view.proofs.Sets.{upper}
use Rattle.patch_view.proofs.Resting.{linked_as, follows-apart}
use Rattle.patch_stacks.specs.State.{Block, class_at, follows, hinders, place_of, IsLeast, exchanged_at}
use Rattle.patch_records.specs.Records.{no_class, may_be_taken}
use Rattle.patch_view.specs.Meaning.{IsBlockOf}
use Rattle.patch_view.specs.Answers.{IsPatch, IsTaken, IsPutBack}
use Rattle.patch_stacks.specs.Refusal.{take_cause, put_back_cause}
use Rattle.patch_view.proofs.Causes.{IsAppliedDependent, IsTakenDependency, depends-another, class_is, take_done, back_done, is_unknown, is_in_flight, is_hard, is_taken, is_depended_on, is_not_taken, is_dependent}
use Rattle.patch_stacks.specs.declared.refusals.TakeRefusal.TheVariants.{Unknown, InFlight, Hard, AlreadyTaken, DependentApplied}
use Rattle.patch_stacks.specs.declared.refusals.PutBackRefusal.TheVariants.{NotTaken, DependencyTaken}
use Rattle.patch_view.proofs.Chain.{undoable-not_durable}
use Rattle.patch_view.proofs.Steps.{record_of, taking, putting_back}
use Rattle.patch_view.proofs.Exchange.{exchanged-represents, take-exchange, back-exchange}
use Rattle.patch_stacks.proofs.ClassPlaces.{position-None}

-- what is known of the patch whose class stands at a place
pub record IsAt (b : Block) (taken : List ℕ) (h : History) (number at : ℕ) : Type 0 where
  pub within : at < length b.classes
  pub patch : Entry
  pub named : IsPatch h number patch
  pub class : patch.class ≡ (class_at b at).name
  pub live : is_durable patch ≡ false
  pub memory : is_memory patch ≡ not (class_at b at).flying
  pub hard : patch.hard ≡ (class_at b at).hard
  pub flag : (class_at b at).taken ≡ is_among taken patch.class

pub found : (b : Block) (taken : List ℕ) (h : History) (number at : ℕ) → IsBlockOf b taken h → place_of b number ≡ Some at → IsAt b taken h number at
found b taken h number at r e =
    let p = position-Some _ b.classes at no_class e in
    let c = r.classes at p.0 in
    let q = list_any-at _ h.entries (sym (c.members number) ∙ p.1) in
    let both = and_parts _ _ q.2 in
    let same : q.0.class ≡ (class_at b at).name = eqb-true _ _ both.1 in
    let m = c.marked q.0 q.1 same in
    record {
      within = p.0;
      patch = q.0;
      named = record { is_in = q.1; number = eqb-true _ _ both.0 };
      class = same;
      live = m.0;
      memory = m.1;
      hard = m.2;
      flag = c.flag ∙ ap (is_among taken) (sym same);
    }

-- the live patch of a number has a place
pub no_place : (b : Block) (taken : List ℕ) (h : History) (number : ℕ) → IsBlockOf b taken h → place_of b number ≡ None
    → (e : Entry) → IsPatch h number e → is_durable e ≡ true
no_place b taken h number r none e is = true_from_ne_false _ (λ low.
    let j = record_of b taken h e r is.is_in low in
    let off = position-None (λ c. is_among c.members number) b.classes j.0 no_class none j.1 in
    let on : list_any (λ f. f.patch.no == number && f.class == (class_at b j.0).name) h.entries ≡ true =
    list_any-from (λ f. f.patch.no == number && f.class == (class_at b j.0).name) h.entries e is.is_in (and_from _ _ (eq-eqb _ _ is.number) (eq-eqb _ _ (sym j.2))) in
    both_ways _ off ((r.classes j.0 j.1).members number ∙ on))

pub why_unknown : (b : Block) (taken : List ℕ) (h : History) (number : ℕ) → IsBlockOf b taken h → place_of b number ≡ None
    → why_not_taken h taken number ≡ Some (take_cause Unknown)
why_unknown b taken h number r none = is_unknown h taken number (false_from_ne_true _ (λ t.
    let q = list_any-at _ h.entries t in
    let both = and_parts _ _ q.2 in
    both_ways _ (not-true _ both.1) (no_place b taken h number r none q.0 (record { is_in = q.1; number = eqb-true _ _ both.0 }))))

neither : (m : Mark) → marks_durable m ≡ false → marks_memory m ≡ false → marks_flight m ≡ true
neither Memory low u = absurd (cc)
neither Flight low u = refl
neither Durable low u = absurd (cc)

pub why_in_flight : (b : Block) (taken : List ℕ) (h : History) (number at : ℕ) → IsBlockOf b taken h → place_of b number ≡ Some at
    → (class_at b at).flying ≡ true → why_not_taken h taken number ≡ Some (take_cause InFlight)
why_in_flight b taken h number at r e flying =
    let f = found b taken h number at r e in
    is_in_flight h taken number f.patch r.coherent f.named (neither f.patch.mark f.live (f.memory ∙ ap not flying))

pub why_hard : (b : Block) (taken : List ℕ) (h : History) (number at : ℕ) → IsBlockOf b taken h → place_of b number ≡ Some at
    → (class_at b at).flying ≡ false → (class_at b at).hard ≡ true → why_not_taken h taken number ≡ Some (take_cause Hard)
why_hard b taken h number at r e low hard =
    let f = found b taken h number at r e in
    is_hard h taken number f.patch r.coherent f.named (f.memory ∙ ap not low) (f.hard ∙ hard)

undoable-from : (b : Block) (taken : List ℕ) (h : History) (number at : ℕ) → (f : IsAt b taken h number at) → (class_at b at).flying ≡ false
    → (class_at b at).hard ≡ false → is_undoable f.patch ≡ true
undoable-from b taken h number at f low soft = and_from _ _ (f.memory ∙ ap not low) (not_from_false _ (f.hard ∙ soft))

pub why_taken : (b : Block) (taken : List ℕ) (h : History) (number at : ℕ) → IsBlockOf b taken h → place_of b number ≡ Some at
    → (class_at b at).flying ≡ false → (class_at b at).hard ≡ false → (class_at b at).taken ≡ true → why_not_taken h taken number ≡ Some (take_cause AlreadyTaken)
why_taken b taken h number at r e low soft was =
    let f = found b taken h number at r e in
    is_taken h taken number f.patch r.coherent f.named (undoable-from b taken h number at f low soft) (sym f.flag ∙ was)

-- a class's record is that of a live class of the block
live-name : (b : Block) (taken : List ℕ) (h : History) (k : ℕ) → IsBlockOf b taken h → k < length b.classes
    → list_any (λ e. e.class == (class_at b k).name && is_live e) h.entries ≡ true
live-name b taken h k r within =
    let c = r.classes k within in
    let q = list_any-at _ h.entries c.known in
    let m = c.marked q.0 q.1 (eqb-true _ _ q.2) in
    list_any-from (λ e. e.class == (class_at b k).name && is_live e) h.entries q.0 q.1 (and_from _ _ q.2 (not_from_false _ m.0))

hinders-dependent : (b : Block) (taken : List ℕ) (h : History) (at k : ℕ) → IsBlockOf b taken h → at < length b.classes → k < length b.classes
    → hinders Take b at k ≡ true → IsAppliedDependent h taken (class_at b at).name (class_at b k).name
hinders-dependent b taken h at k r within w_k t =
    let p = and_parts (not (class_at b k).taken) (follows b k at) t in
    record {
      live = live-name b taken h k r w_k;
      depends = sym (linked_as r k at w_k within (follows-apart r k at w_k within p.1)) ∙ p.1;
      applied = sym (r.classes k w_k).flag ∙ not-true _ p.0;
    }

dependent-hinders : (b : Block) (taken : List ℕ) (h : History) (at m : ℕ) → IsBlockOf b taken h → at < length b.classes
    → IsAppliedDependent h taken (class_at b at).name m
    → (k : ℕ) × (k < length b.classes) × ((class_at b k).name ≡ m) × (hinders Take b at k ≡ true)
dependent-hinders b taken h at m r within d =
    let q = list_any-at _ h.entries d.live in
    let both = and_parts _ _ q.2 in
    let j = record_of b taken h q.0 r q.1 (not-true _ both.1) in
    let name : (class_at b j.0).name ≡ m = j.2 ∙ eqb-true _ _ both.0 in
    let apart : (class_at b j.0).name ≢ (class_at b at).name = (λ e. depends-another h m (class_at b at).name d.depends (sym name ∙ e)) in
    let off : (class_at b j.0).taken ≡ false = (r.classes j.0 j.1).flag ∙ ap (is_among taken) name ∙ d.applied in
    let goes : follows b j.0 at ≡ true =
    linked_as r j.0 at j.1 within apart ∙ ap (λ n. class_depends h.entries n (class_at b at).name) name ∙ d.depends in
    (j.0, j.1, name, and_from _ _ (not_from_false _ off) goes)

pub why_dependent : (b : Block) (taken : List ℕ) (h : History) (number at n : ℕ) → IsBlockOf b taken h → place_of b number ≡ Some at
    → (class_at b at).flying ≡ false → (class_at b at).hard ≡ false → (class_at b at).taken ≡ false
    → IsLeast (hinders Take b at) b (Some n) → why_not_taken h taken number ≡ Some (take_cause (DependentApplied n))
why_dependent b taken h number at n r e low soft off least =
    let f = found b taken h number at r e in
    let first = least.0 in
    is_depended_on h taken number n f.patch r.coherent f.named (undoable-from b taken h number at f low soft) (sym f.flag ∙ off)
    (subst (λ c. IsAppliedDependent h taken c n) (sym f.class) (subst (λ m. IsAppliedDependent h taken (class_at b at).name m) first.3
    (hinders-dependent b taken h at first.0 r f.within first.1 first.2)))
    (λ m d.
    let k = dependent-hinders b taken h at m r f.within (subst (λ c. IsAppliedDependent h taken c m) f.class d) in
    subst (λ q. n ≤ q) k.2 (least.1 k.0 k.1 k.3))

pub takes : (b : Block) (taken : List ℕ) (h : History) (number at : ℕ) → IsBlockOf b taken h → place_of b number ≡ Some at
    → (class_at b at).flying ≡ false → (class_at b at).hard ≡ false → (class_at b at).taken ≡ false
    → IsLeast (hinders Take b at) b None → IsTaken h taken number (exchanged_at b at Take)
takes b taken h number at r e low soft off none =
    let f = found b taken h number at r e in
    let may : may_be_taken (class_at b at) ≡ true = and_from _ _ (not_from_false _ low) (not_from_false _ soft) in
    let step = taking b taken h at r f.within may off none in
    let now : IsBlockOf (exchanged_at b at Take) (f.patch.class ∷ taken) h =
    subst (λ c. IsBlockOf (exchanged_at b at Take) (c ∷ taken) h) (sym f.class)
    (exchanged-represents b taken ((class_at b at).name ∷ taken) h at Take r f.within may (take-exchange h (class_at b at).name taken ((class_at b at).name ∷ taken) r.coherent step)) in
    record {
      none = take_done h taken number f.patch r.coherent f.named (undoable-from b taken h number at f low soft) (sym f.flag ∙ off) now.holds;
      represents = subst (λ (c : ℕ). IsBlockOf (exchanged_at b at Take) (c ∷ taken) h) (sym (class_is h number f.patch r.coherent f.named)) now;
    }

pub why_nowhere : (b : Block) (taken : List ℕ) (h : History) (number : ℕ) → IsBlockOf b taken h → place_of b number ≡ None
    → why_not_put_back h taken number ≡ Some (put_back_cause NotTaken)
why_nowhere b taken h number r none = is_not_taken h taken number (λ e is. false_from_ne_true _ (λ t.
    both_ways _ (undoable-not_durable e ((upper r).undoable e is.is_in t)) (no_place b taken h number r none e is)))

pub why_applied : (b : Block) (taken : List ℕ) (h : History) (number at : ℕ) → IsBlockOf b taken h → place_of b number ≡ Some at
    → (class_at b at).taken ≡ false → why_not_put_back h taken number ≡ Some (put_back_cause NotTaken)
why_applied b taken h number at r e off = is_not_taken h taken number (λ g is.
    let f = found b taken h number at r e in
    let same : f.patch ≡ g = r.coherent.numbers f.patch g f.named.is_in is.is_in (f.named.number ∙ sym is.number) in
    ap (λ z. is_among taken z.class) (sym same) ∙ sym f.flag ∙ off)

hinders-dependency : (b : Block) (taken : List ℕ) (h : History) (at k : ℕ) → IsBlockOf b taken h → at < length b.classes → k < length b.classes
    → hinders PutBack b at k ≡ true → IsTakenDependency h taken (class_at b at).name (class_at b k).name
hinders-dependency b taken h at k r within w_k t =
    let p = and_parts (class_at b k).taken (follows b at k) t in
    record {
      depends = sym (linked_as r at k within w_k (follows-apart r at k within w_k p.1)) ∙ p.1;
      is_taken = sym (r.classes k w_k).flag ∙ p.0;
    }

dependency-hinders : (b : Block) (taken : List ℕ) (h : History) (at m : ℕ) → IsBlockOf b taken h → at < length b.classes
    → IsTakenDependency h taken (class_at b at).name m
    → (k : ℕ) × (k < length b.classes) × ((class_at b k).name ≡ m) × (hinders PutBack b at k ≡ true)
dependency-hinders b taken h at m r within d =
    let q = list_any-at _ h.entries ((upper r).known m d.is_taken) in
    let of_m : q.0.class ≡ m = eqb-true _ _ q.2 in
    let low : is_durable q.0 ≡ false = undoable-not_durable q.0 ((upper r).undoable q.0 q.1 (ap (is_among taken) of_m ∙ d.is_taken)) in
    let j = record_of b taken h q.0 r q.1 low in
    let name : (class_at b j.0).name ≡ m = j.2 ∙ of_m in
    let apart : (class_at b j.0).name ≢ (class_at b at).name = (λ e. depends-another h (class_at b at).name m d.depends (sym e ∙ name)) in
    let on : (class_at b j.0).taken ≡ true = (r.classes j.0 j.1).flag ∙ ap (is_among taken) name ∙ d.is_taken in
    let goes : follows b at j.0 ≡ true =
    linked_as r at j.0 within j.1 (λ e. apart (sym e)) ∙ ap (λ n. class_depends h.entries (class_at b at).name n) name ∙ d.depends in
    (j.0, j.1, name, and_from _ _ on goes)

pub why_dependency : (b : Block) (taken : List ℕ) (h : History) (number at n : ℕ) → IsBlockOf b taken h → place_of b number ≡ Some at
    → (class_at b at).taken ≡ true
    → IsLeast (hinders PutBack b at) b (Some n) → why_not_put_back h taken number ≡ Some (put_back_cause (DependencyTaken n))
why_dependency b taken h number at n r e on least =
    let f = found b taken h number at r e in
    let first = least.0 in
    is_dependent h taken number n f.patch r.coherent f.named (sym f.flag ∙ on)
    (subst (λ c. IsTakenDependency h taken c n) (sym f.class) (subst (λ m. IsTakenDependency h taken (class_at b at).name m) first.3
    (hinders-dependency b taken h at first.0 r f.within first.1 first.2)))
    (λ m d.
    let k = dependency-hinders b taken h at m r f.within (subst (λ c. IsTakenDependency h taken c m) f.class d) in
    subst (λ q. n ≤ q) k.2 (least.1 k.0 k.1 k.3))

pub puts_back : (b : Block) (taken : List ℕ) (h : History) (number at : ℕ) → IsBlockOf b taken h → place_of b number ≡ Some at
    → (class_at b at).taken ≡ true
    → IsLeast (hinders PutBack b at) b None → IsPutBack h taken number (exchanged_at b at PutBack)
puts_back b taken h number at r e on none =
    let f = found b taken h number at r e in
    let c = r.classes at f.within in
    let step = putting_back b taken h at r f.within on none in
    let undoable : is_undoable f.patch ≡ true = (upper r).undoable f.patch f.named.is_in (sym f.flag ∙ on) in
    let may : may_be_taken (class_at b at) ≡ true =
    ap (λ z. z && not (class_at b at).hard) (sym f.memory) ∙ ap (λ z. is_memory f.patch && not z) (sym f.hard) ∙ undoable in
    let now : IsBlockOf (exchanged_at b at PutBack) (moved taken (Back f.patch.class)) h =
    subst (λ c. IsBlockOf (exchanged_at b at PutBack) (moved taken (Back c)) h) (sym f.class)
    (exchanged-represents b taken (moved taken (Back (class_at b at).name)) h at PutBack r f.within may (back-exchange h (class_at b at).name (moved taken (Back (class_at b at).name)) taken r.coherent step)) in
    record {
      none = back_done h taken number f.patch r.coherent r.holds f.named (sym f.flag ∙ on) now.holds;
      represents = subst (λ (c : ℕ). IsBlockOf (exchanged_at b at PutBack) (moved taken (Back c)) h) (sym (class_is h number f.patch r.coherent f.named)) now;
    }
