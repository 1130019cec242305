-- What a send leaves behind of a block.
use Rattle.std.proofs.Common.{◌≡◌, ℕ, zero, suc, ◌∙◌, true, false, not, inl, inr, Bool, List, length, map, sym, ap, subst}
use Rattle.std.specs.Prelude.{◌==◌, ◌&&◌, filter}
use Rattle.std.proofs.lemmas.Bool.{cases_Bool, false_from_ne_true, and_parts, and_from, both_ways, eqb-true, not-true, not_from_false}
use Rattle.patch_model.specs.Marked.{memory_live}
use Rattle.patch_model.specs.Entry.{Entry, is_among, is_live, is_memory, is_undoable, in_memory_of, marks_memory}
use Rattle.patch_model.specs.Dependency.{depends_directly}
use Rattle.patch_model.specs.Execution.{Execution, extended}
use Rattle.patch_model.specs.Step.{Send}
use Rattle.patch_model.specs.Ready.{has, ready, struck, may_stay}
use Rattle.patch_model.specs.State.{sent, entries_of}
use Rattle.patch_model.specs.Member.{In, In-from_Contains, Contains-from_In, In-filter, filter-In, list_any-at, In-map, map-In}
use Rattle.patch_model.specs.History.{History, HoldsDependents, history_of, without, image}
use Rattle.patch_model.specs.Orderly.{left_behind}
use Rattle.patch_view.specs.History.{IsCoherent, undoable_classes}
use Rattle.patch_view.specs.Laws.{SendLeavesTheImage}
use Rattle.patch_view.proofs.Together.{sent-marking, sent-in, sent-out}
use Rattle.patch_view.proofs.Same.{map-among, among-map, image_is_without}

struck-in : (n : ℕ) (stays : List Entry → Entry → Bool) (set : List Entry) (e : Entry) → In (struck n stays set) e → In set e
struck-in zero stays set e i = i
struck-in (suc n) stays set e i = (filter-In (stays set) set e (struck-in n stays (filter (stays set) set) e i)).0

module _ (run : Execution) (block : ℕ) (o : IsCoherent (history_of run block)) (holds : HoldsDependents (history_of run block) (left_behind (entries_of run) block)) where
  abbrev all : List Entry
  all = entries_of run

  abbrev set : List Entry
  set = ready (entries_of run) block

  abbrev before : History
  before = history_of run block

  abbrev behind : History
  behind = record (history_of run block) { entries = map (sent (ready (entries_of run) block)) (history_of run block).entries }

  -- a patch of the block that is sent was in memory
  was-memory : (e : Entry) → In before.entries e → has set e ≡ true → is_memory e ≡ true
  was-memory e i t =
      let q = list_any-at (λ f. f.patch.no == e.patch.no) set t in
      let p = filter-In (in_memory_of block) all q.0 (struck-in (length all) (may_stay all) (filter (in_memory_of block) all) q.0 q.1) in
      let both = and_parts (is_memory q.0) (q.0.patch.block == block) p.1 in
      let here : In before.entries q.0 = In-filter (λ f. f.patch.block == block) all q.0 p.0 both.1 in
      ap is_memory (o.numbers e q.0 i here (sym (eqb-true _ _ q.2))) ∙ both.0

  was-live : (e : Entry) → In before.entries e → is_live (sent set e) ≡ true → is_live e ≡ true
  was-live e i live = elim (cases_Bool (has set e)) [
    | inl t ↦ memory_live e.mark (was-memory e i t)
    | inr t ↦ ap is_live (sym (sent-out set e t)) ∙ live
  ]

  -- what is still in memory wasn't sent
  not_sent : (e : Entry) → is_memory (sent set e) ≡ true → has set e ≡ false
  not_sent e m = false_from_ne_true _ (λ t. both_ways _ (ap marks_memory (sent-in set e t)) m)

  is-left : (e : Entry) → In before.entries e → is_memory e ≡ true → has set e ≡ false → is_among (left_behind all block) e.class ≡ true
  is-left e i m off =
      let p = filter-In (λ f. f.patch.block == block) all e i in
      among-map (filter (λ f. in_memory_of block f && not (has set f)) all) e
      (In-filter (λ f. in_memory_of block f && not (has set f)) all e p.0 (and_from _ _ (and_from _ _ m p.1) (not_from_false _ off)))

  is-soft : (e : Entry) → In before.entries e → is_among (left_behind all block) e.class ≡ true → is_undoable e ≡ true
  is-soft e i t =
      let q = holds.undoable e.class t in
      let m = o.one_mark e q.0 i (In-from_Contains before.entries q.0 q.1) (sym q.2) in
      ap (λ z. marks_memory z && not e.hard) m.0 ∙ ap (λ z. marks_memory q.0.mark && not z) m.1 ∙ q.3

  -- a class that is left behind may be taken
  is-named : (c : ℕ) → is_among (left_behind all block) c ≡ true → is_among (undoable_classes behind) c ≡ true
  is-named c t =
      let q = map-among (filter (λ f. in_memory_of block f && not (has set f)) all) c t in
      let p = filter-In (λ f. in_memory_of block f && not (has set f)) all q.0 q.1 in
      let a = and_parts (in_memory_of block q.0) (not (has set q.0)) p.1 in
      let b = and_parts (is_memory q.0) (q.0.patch.block == block) a.0 in
      let i : In before.entries q.0 = In-filter (λ f. f.patch.block == block) all q.0 p.0 b.1 in
      let off : has set q.0 ≡ false = not-true _ a.1 in
      let j : In behind.entries q.0 = subst (λ e. In behind.entries e) (sent-out set q.0 off) (In-map (sent set) before.entries q.0 i) in
      let soft : is_undoable q.0 ≡ true = is-soft q.0 i (is-left q.0 i b.0 off) in
      ap (is_among (undoable_classes behind)) (sym q.2) ∙ among-map (filter is_undoable behind.entries) q.0 (In-filter is_undoable behind.entries q.0 j soft)

  -- and one that may be taken was left behind
  named-is : (c : ℕ) → is_among (undoable_classes behind) c ≡ true → is_among (left_behind all block) c ≡ true
  named-is c t =
      let q = map-among (filter is_undoable behind.entries) c t in
      let p = filter-In is_undoable behind.entries q.0 q.1 in
      let x = map-In (sent set) before.entries q.0 p.0 in
      let m : is_memory (sent set x.0) ≡ true = ap is_memory x.2 ∙ (and_parts _ _ p.1).0 in
      let off = not_sent x.0 m in
      let same : x.0 ≡ q.0 = sym (sent-out set x.0 off) ∙ x.2 in
      ap (is_among (left_behind all block)) (sym q.2 ∙ ap (λ e. e.class) (sym same)) ∙ is-left x.0 x.1 (ap is_memory (sym (sent-out set x.0 off)) ∙ m) off

  pub left-holds : HoldsDependents behind (undoable_classes behind)
  left-holds = record {
    undoable = λ c t. let q = map-among (filter is_undoable behind.entries) c t in
        let p = filter-In is_undoable behind.entries q.0 q.1 in
        (q.0, Contains-from_In behind.entries q.0 p.0, q.2, p.1);
    dependents = λ e f ce cf live goes t.
        let x = map-In (sent set) before.entries e (In-from_Contains behind.entries e ce) in
        let y = map-In (sent set) before.entries f (In-from_Contains behind.entries f cf) in
        let went : depends_directly x.0.patch y.0.patch ≡ true =
        ap (λ z. depends_directly z y.0.patch) (sym ((sent-marking set).patch x.0) ∙ ap (λ k. k.patch) x.2)
        ∙ ap (λ z. depends_directly e.patch z) (sym ((sent-marking set).patch y.0) ∙ ap (λ k. k.patch) y.2) ∙ goes in
        let class_e : x.0.class ≡ e.class = sym ((sent-marking set).class x.0) ∙ ap (λ k. k.class) x.2 in
        let class_f : y.0.class ≡ f.class = sym ((sent-marking set).class y.0) ∙ ap (λ k. k.class) y.2 in
        let low : is_live x.0 ≡ true = was-live x.0 x.1 (ap is_live x.2 ∙ live) in
        is-named e.class (ap (is_among (left_behind all block)) (sym class_e)
        ∙ holds.dependents x.0 y.0 (Contains-from_In before.entries x.0 x.1) (Contains-from_In before.entries y.0 y.1) low went
        (ap (is_among (left_behind all block)) class_f ∙ named-is f.class t));
  }

  pub left-soft : (e : Entry) → In behind.entries e → is_memory e ≡ true → is_undoable e ≡ true
  left-soft e i m =
      let x = map-In (sent set) before.entries e i in
      let still : is_memory (sent set x.0) ≡ true = ap is_memory x.2 ∙ m in
      let off = not_sent x.0 still in
      let same : x.0 ≡ e = sym (sent-out set x.0 off) ∙ x.2 in
      ap is_undoable (sym same) ∙ is-soft x.0 x.1 (is-left x.0 x.1 (ap is_memory same ∙ m) off)

pub send_leaves_the_image : ((run : Execution) (block other : ℕ)
    → (history_of (extended run (Send block)) other).entries ≡ map (sent (ready (entries_of run) block)) (history_of run other).entries)
    → SendLeavesTheImage
send_leaves_the_image sends run block o after holds =
    let is : history_of (extended run (Send block)) block ≡ record (history_of run block) { entries = map (sent (ready (entries_of run) block)) (history_of run block).entries } =
    ap (λ es. let h : History = record (history_of run block) { entries = es } in h) (sends run block block) in
    let coherent : IsCoherent (record (history_of run block) { entries = map (sent (ready (entries_of run) block)) (history_of run block).entries }) =
    subst (λ h. IsCoherent h) is after in
    subst (λ h. HoldsDependents h (undoable_classes h) × (without h (undoable_classes h) ≡ image h)) (sym is)
    (left-holds run block o holds, image_is_without _ coherent (left-soft run block o holds))
