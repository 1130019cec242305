-- What a view accepts is a permitted order, and each permitted order is accepted.
use Rattle.std.proofs.Common.{◌≡◌, ℕ, ◌∙◌, inl, inr, Bool, true, false, not, Option, Some, None, Result, Ok, List, [], ◌∷◌, map, fold, refl, sym, ap, subst, arith}
use Rattle.std.specs.Prelude.{find, slice_get, cond, ◌==◌, ◌&&◌, if◌then◌else◌}
use Rattle.std.proofs.lemmas.Bool.{cases_Bool, and_parts, both_ways, eqb-true, eq-eqb}
use Rattle.patch_model.specs.declared.refusals.Refusal.{Refusal}
use Rattle.patch_model.specs.declared.patches.Mark.{Mark}
use Rattle.patch_model.specs.declared.patches.Mark.TheVariants.{Memory, Flight, Durable}
use Rattle.patch_model.specs.declared.refusals.RefusalKind.TheVariants as kind
use Rattle.patch_model.specs.Entry.{Entry, is_durable, is_memory, is_among, is_undoable, marks_memory, marks_durable}
use Rattle.patch_model.specs.Execution.{Execution}
use Rattle.patch_model.specs.State.{entries_of}
use Rattle.patch_model.specs.Orderly.{IsOrderly, IsNumbered, IsOrderlyBlock}
use Rattle.patch_model.specs.Member.{In, In-from_Contains, Contains-from_In}
use Rattle.patch_model.specs.History.{History, HoldsDependents, moved, IsPermitted, history_of, Back}
use Rattle.patch_model.specs.Refusing.{bare, why_not_taken, why_not_put_back, class_named}
use Rattle.patch_view.specs.History.{IsCoherent}
use Rattle.patch_view.specs.Answers.{IsPatch}
use Rattle.patch_view.specs.Laws.{TakenWithoutCause, PutBackWithoutCause, NumberNamesClass}
use Rattle.patch_cache.specs.Viewing.{why_not_taken_of, names_unless, with_move, with_moves, go_on}
use Rattle.patch_cache.specs.Promise.{class_move}
use Rattle.patch_cache.specs.declared.asks.Move.{Move as PatchMove}
use Rattle.patch_cache.specs.declared.asks.Move.TheVariants as patch
use Rattle.patch_cache.proofs.Showing.{at_its_place, in_all}

-- What is found.

find_in : {X : Type 0} → (p : X → Bool) (xs : List X) (x : X) → find p xs ≡ Some x → In xs x × (p x ≡ true)
find_in p [] x e = absurd (cc)
find_in p (y ∷ ys) x e = elim (cases_Bool (p y)) [
  | inl t ↦ let same : y ≡ x = let two : Some y ≡ Some x = rw t at e in cc in (inl same, ap p (sym same) ∙ t)
  | inr f ↦ let r = find_in p ys x (rw f at e) in (inr r.0, r.1)
]

find_not : {X : Type 0} → (p : X → Bool) (xs : List X) (x : X) → find p xs ≡ None → In xs x → p x ≡ false
find_not p [] x e i = absurd i
find_not p (y ∷ ys) x e i = elim (cases_Bool (p y)) [
  | inl t ↦ let some : Some y ≡ None = rw t at e in absurd (cc)
  | inr f ↦ elim i [ inl same ↦ ap p (sym same) ∙ f | inr g ↦ find_not p ys x (rw f at e) g ]
]

-- Causes that don't hold.

passed : (b : Bool) (cause : Refusal) (rest : Option Refusal) → cond b (Some cause) rest ≡ None → (b ≡ false) × (rest ≡ None)
passed true cause rest e = absurd (cc)
passed false cause rest e = (refl, e)

of_block : (o : Option Entry) (w : Option Refusal) → ◌≡◌ {A = Option Refusal} (elim o [ None ↦ Some (bare kind.Unknown) | Some e ↦ if is_durable e then Some (bare kind.Durable) else w ]) None → w ≡ None
of_block None w e = absurd (cc)
of_block (Some x) w e = (passed (is_durable x) (bare kind.Durable) w e).1

not_durable : (m : Mark) → marks_memory m ≡ true → marks_durable m ≡ false
not_durable Memory t = refl
not_durable Flight t = absurd (cc)
not_durable Durable t = absurd (cc)

-- What is accepted is permitted.

module _ (run : Execution) (block : ℕ) (all : IsOrderly (entries_of run)) (numbered : IsNumbered (entries_of run)) (whole : IsOrderlyBlock (history_of run block) block)
    (r : IsCoherent (history_of run block)) (takes : TakenWithoutCause) (backs : PutBackWithoutCause) (named : NumberNamesClass) where
  abbrev pub h : History
  h = history_of run block

  take_permitted : (names : List ℕ) (number : ℕ) → HoldsDependents h names → why_not_taken_of run block names number ≡ None
      → (is_among names (class_named h number) ≡ false) × HoldsDependents h (class_named h number ∷ names)
  take_permitted names number holds why =
      let here : why_not_taken h names number ≡ None = of_block (slice_get (entries_of run) number) (why_not_taken h names number) why in
      let may = (takes h names number r holds).0 here in
      rw (named h number may.patch r may.named) (may.applied, may.holds)

  back_permitted : (names : List ℕ) (number : ℕ) → HoldsDependents h names → why_not_put_back h names number ≡ None
      → (is_among names (class_named h number) ≡ true) × HoldsDependents h (moved names (Back (class_named h number)))
  back_permitted names number holds why =
      let may = (backs h names number r holds).0 why in
      rw (named h number may.patch r may.named) (may.is_taken, may.holds)

  -- the rest of the moves is gone through where the first is accepted
  went_on : (o : Option Refusal) (now names : List ℕ) (f : List ℕ → Result (List ℕ) Refusal) → go_on (names_unless o now) f ≡ Ok names → (o ≡ None) × (f now ≡ Ok names)
  went_on None now names f e = (refl, e)
  went_on (Some cause) now names f e = absurd (cc)

  pub accepted : (names left : List ℕ) (moves : List PatchMove) → HoldsDependents h names → with_moves run block names moves ≡ Ok left
      → IsPermitted h names (map (class_move h) moves) × (fold moved names (map (class_move h) moves) ≡ left)
  accepted names left [] holds e = (tt, let same : names ≡ left = cc in same)
  accepted names left (patch.Take number ∷ moves) holds e =
      let on = went_on (why_not_taken_of run block names number) _ left _ e in
      let p = take_permitted names number holds on.0 in
      let rest = accepted (class_named h number ∷ names) left moves p.1 on.1 in
      ((p.0, p.1, rest.0), rest.1)
  accepted names left (patch.Back number ∷ moves) holds e =
      let on = went_on (why_not_put_back h names number) _ left _ e in
      let p = back_permitted names number holds on.0 in
      let rest = accepted (moved names (Back (class_named h number))) left moves p.1 on.1 in
      ((p.0, p.1, rest.0), rest.1)

  -- What is permitted is accepted.

  -- a number whose class has a patch of the block is that of one of its patches
  named_of : (number : ℕ) (o : Option Entry) (x : Entry) → find (λ e. e.patch.no == number) h.entries ≡ o → In h.entries x
      → x.class ≡ (elim o [ None ↦ number | Some e ↦ e.class ]) → (e : Entry) × IsPatch h number e × (e.class ≡ x.class)
  named_of number (Some e) x at in_x is =
      let f = find_in (λ e. e.patch.no == number) h.entries e at in
      (e, record { is_in = f.0; number = eqb-true _ _ f.1 }, sym is)
  named_of number None x at in_x is =
      let own = whole.orderly.own x (Contains-from_In h.entries x in_x) in
      let in_own : In h.entries own.0 = In-from_Contains _ _ own.1.inside in
      absurd (both_ways _ (find_not (λ e. e.patch.no == number) h.entries own.0 at in_own) (eq-eqb own.0.patch.no number (own.1.number ∙ is)))

  named_patch : (names : List ℕ) (number : ℕ) → HoldsDependents h names → is_among names (class_named h number) ≡ true
      → (e : Entry) × IsPatch h number e × (e.class ≡ class_named h number) × (is_undoable e ≡ true)
  named_patch names number holds t =
      let x = holds.undoable (class_named h number) t in
      let in_x : In h.entries x.0 = In-from_Contains _ _ x.1 in
      let e = named_of number (find (λ e. e.patch.no == number) h.entries) x.0 refl in_x x.2 in
      let alike = r.one_mark x.0 e.0 in_x e.1.is_in (sym e.2) in
      (e.0, e.1, e.2 ∙ x.2, subst (λ (m : Mark). (marks_memory m && not e.0.hard) ≡ true) alike.0 (subst (λ (b : Bool). (marks_memory x.0.mark && not b) ≡ true) alike.1 x.3))

  at_number : (number : ℕ) (e : Entry) → IsPatch h number e → slice_get (entries_of run) number ≡ Some e
  at_number number e is =
      let i : In (entries_of run) e = in_all (entries_of run) h block e refl is.is_in in
      at_its_place (entries_of run) 0 number e all.rising (λ x j. omega arith) (λ x j. let b = numbered.below x (Contains-from_In (entries_of run) x j) in omega arith) i (let n = is.number in omega arith)

  take_accepted : (names : List ℕ) (number : ℕ) → HoldsDependents h names → is_among names (class_named h number) ≡ false
      → HoldsDependents h (class_named h number ∷ names) → why_not_taken_of run block names number ≡ None
  take_accepted names number old applied holds =
      let e = named_patch (class_named h number ∷ names) number holds (rw (eq-eqb (class_named h number) (class_named h number) refl) refl) in
      let p = and_parts (is_memory e.0) (not e.0.hard) e.3 in
      let at : slice_get (entries_of run) number ≡ Some e.0 = at_number number e.0 e.1 in
      let live : is_durable e.0 ≡ false = not_durable e.0.mark p.0 in
      let here : why_not_taken h names number ≡ None = (takes h names number r old).1 (record {
        patch = e.0;
        named = e.1;
        undoable = e.3;
        applied = ap (is_among names) e.2 ∙ applied;
        holds = subst (λ (c : ℕ). HoldsDependents h (c ∷ names)) (sym e.2) holds;
      }) in
      rw (at, live, why_not_taken_of) here

  back_accepted : (names : List ℕ) (number : ℕ) → HoldsDependents h names → is_among names (class_named h number) ≡ true → HoldsDependents h (moved names (Back (class_named h number)))
      → why_not_put_back h names number ≡ None
  back_accepted names number old t holds =
      let e = named_patch names number old t in
      (backs h names number r old).1 (record {
        patch = e.0;
        named = e.1;
        is_taken = ap (is_among names) e.2 ∙ t;
        holds = subst (λ (c : ℕ). HoldsDependents h (moved names (Back c))) (sym e.2) holds;
      })

  pub permitted_ones : (names : List ℕ) (moves : List PatchMove) → HoldsDependents h names → IsPermitted h names (map (class_move h) moves)
      → with_moves run block names moves ≡ Ok (fold moved names (map (class_move h) moves))
  permitted_ones names [] holds p = refl
  permitted_ones names (patch.Take number ∷ moves) holds p =
      let none : why_not_taken_of run block names number ≡ None = take_accepted names number holds p.0 p.1 in
      rw (none, with_move) (permitted_ones (class_named h number ∷ names) moves p.1 p.2)
  permitted_ones names (patch.Back number ∷ moves) holds p =
      let none : why_not_put_back h names number ≡ None = back_accepted names number holds p.0 p.1 in
      rw (none, with_move) (permitted_ones (moved names (Back (class_named h number))) moves p.1 p.2)
