-- At each byte the patches that a set holding its dependents takes are the last ones.
use Rattle.std.proofs.Common.{◌≡◌, ℕ, ◌<◌, ◌∙◌, inl, inr, true, List, refl, sym, arith}
use Rattle.std.specs.Prelude.{◌==◌, not, IsTrue, Contains}
use Rattle.std.proofs.lemmas.Bool.{cases_Bool, and_parts}
use Rattle.std.proofs.lemmas.Bool.Decides.{nat_tests}
use Rattle.patch_model.specs.Execution.{Execution}
use Rattle.patch_model.specs.Entry.{Entry, is_memory, is_durable, is_among}
use Rattle.patch_model.specs.State.{entries_of}
use Rattle.patch_model.specs.History.{HoldsDependents, history_of}
use Rattle.patch_model.specs.Legal.{IsLegal}
use Rattle.patch_model.specs.Orderly.{MeetAt}
use Rattle.patch_model.specs.Member.{In, In-from_Contains, In-filter, filter-In, Contains-from_In}
use Rattle.patch_model.proofs.Crashes.{not_both}
use Rattle.patch_model.proofs.Marks.{IsSettled-run}
use Rattle.patch_model.proofs.Rings.{same_name, meet-depends, marks_at_byte}

module _ (run : Execution) (block : ℕ) (names : List ℕ) (legal : IsLegal run) (holds : HoldsDependents (history_of run block) names) where
  -- a patch of a taken class is in memory, and of the block
  taken_memory : (e : Entry) → In (entries_of run) e → is_among names e.class ≡ true → (is_memory e ≡ true) × (e.patch.block ≡ block)
  taken_memory e i h =
      let x = holds.undoable e.class h in
      let p = filter-In (λ e. e.patch.block == block) (entries_of run) x.0 (In-from_Contains _ x.0 x.1) in
      let a = (IsSettled-run run legal).classes.alike e x.0 i p.0 (sym x.2) in
      let at : x.0.patch.block ≡ block = grind (arith, nat_tests, p.1) in
      (rw a.mark (and_parts (is_memory x.0) (not x.0.hard) x.3).0, a.block ∙ at)

  here : (e : Entry) → In (entries_of run) e → e.patch.block ≡ block → Contains (history_of run block).entries e
  here e i at = Contains-from_In _ e (In-filter (λ e. e.patch.block == block) (entries_of run) e i (same_name e.patch.block block at))

pub taken_are_last : (run : Execution) (block : ℕ) (names : List ℕ) (place : ℕ) (e f : Entry) → IsLegal run → HoldsDependents (history_of run block) names
    → MeetAt (entries_of run) place e f → e.patch.no < f.patch.no → IsTrue (is_among names e.class) → IsTrue (is_among names f.class)
taken_are_last run block names place e f legal holds m less h =
    let i = In-from_Contains _ e m.in_e in let j = In-from_Contains _ f m.in_f in
    let t = taken_memory run block names legal holds e i h in
    let under = marks_at_byte run place e f legal m less in
    elim (cases_Bool (is_durable f)) [
      | inl done ↦ absurd (not_both e.mark t.0 (under.durable done))
      | inr live ↦ holds.dependents f e (here run block names legal holds f j (sym m.block ∙ t.1)) (here run block names legal holds e i t.1)
          (let still : not (is_durable f) ≡ true = rw live refl in still) (meet-depends e f place m.block m.covers_e m.covers_f less) h
    ]

pub taken_in_memory : (run : Execution) (block : ℕ) (names : List ℕ) (e : Entry) → IsLegal run → HoldsDependents (history_of run block) names → Contains (entries_of run) e
    → IsTrue (is_among names e.class) → IsTrue (is_memory e) × (e.patch.block ≡ block)
taken_in_memory run block names e legal holds i h = taken_memory run block names legal holds e (In-from_Contains _ e i) h
