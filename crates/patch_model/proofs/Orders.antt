-- The patches of a legal execution are orderly, and so are those of each of its blocks.
use Rattle.std.proofs.Common.{◌≡◌, ◌≢◌, ℕ, zero, suc, ◌+◌, ◌<◌, ◌∙◌, inl, inr, true, List, [], ◌∷◌, length, refl, sym, arith, subst}
use Rattle.std.specs.Prelude.{◌==◌, ◌&&◌, not, IsTrue, Contains, slice_index_or}
use Rattle.std.specs.List.{AllByRecursion}
use Rattle.std.proofs.lemmas.Bool.{and_parts, and_from}
use Rattle.std.proofs.lemmas.Bool.Decides.{nat_tests}
use Rattle.std.proofs.lemmas.List.Elements.{recursion_from_All}
use Rattle.patch_model.specs.Link.{Link-at, Link-from}
use Rattle.patch_model.specs.Marked.{memory_live}
use Rattle.patch_model.specs.Entries.{rising-filter}
use Rattle.patch_model.specs.declared.blocks.TheConstants.{BLOCK}
use Rattle.patch_model.specs.Execution.{Execution}
use Rattle.patch_model.specs.Entry.{Entry, is_memory, is_live, is_undoable}
use Rattle.patch_model.specs.Dependency.{class_depends, Path, LiesBetween, has_live}
use Rattle.patch_model.specs.State.{class_of, entries_of}
use Rattle.patch_model.specs.Legal.{IsLegal, IsLegalMerge, is_undoable_at, block_of_patch}
use Rattle.patch_model.specs.History.{of_block, history_of}
use Rattle.patch_model.specs.Orderly.{IsOrderly, IsNumbered, IsOrderlyBlock, MayJoin}
use Rattle.patch_model.specs.Member.{In, In-from_Contains, Contains-from_In, In-filter, filter-In, list_any-from}
use Rattle.patch_model.proofs.Numbering.{Numbered, Numbered-run, AreApart-run}
use Rattle.patch_model.proofs.Crashes.{Numbered-below}
use Rattle.patch_model.proofs.Classes.{at_number}
use Rattle.patch_model.proofs.Rising.{rising-from_Numbered}
use Rattle.patch_model.proofs.Marks.{marks_closed, IsSettled-run}
use Rattle.patch_model.proofs.Rings.{members_alike, same_name, apart_in, Path-map, live_paths}
use Rattle.patch_model.proofs.Spans.{least_name, own_name, touch-at, touch-from}
use Rattle.patch_model.proofs.Sizes.{AreFew-run}

pub orderly_run : (run : Execution) → IsLegal run → IsOrderly (entries_of run)
orderly_run run legal = record {
  rising = rising-from_Numbered 0 (entries_of run) (Numbered-run run);
  apart = λ e f i j. AreApart-run run e f (In-from_Contains _ e i) (In-from_Contains _ f j);
  filled = λ e i. ((AreFew-run run legal).sized e (In-from_Contains _ e i)).filled;
  fits = λ e i. ((AreFew-run run legal).sized e (In-from_Contains _ e i)).fits;
  earlier = λ e n i. (IsSettled-run run legal).ordered.earlier e (In-from_Contains _ e i) n;
  alike = λ e f. members_alike run e f legal;
  least = λ e. least_name run e legal;
  own = λ e. own_name run e legal;
  under = λ e f. marks_closed run e f legal;
}

numbered_made : (k n : ℕ) (es : List Entry) → Numbered k es → n < length es → (e : Entry) × In es e × (e.patch.no ≡ k + n)
numbered_made k n [] h less = absurd (omega arith)
numbered_made k zero (x ∷ xs) h less = (x, inl refl, (let at : x.patch.no ≡ k = h.0 in omega arith))
numbered_made k (suc n) (x ∷ xs) h less = let r = numbered_made (k + 1) n xs h.1 (omega arith) in let at : r.0.patch.no ≡ k + 1 + n = r.2 in (r.0, inr r.1, omega arith)

pub numbered_run : (run : Execution) → IsNumbered (entries_of run)
numbered_run run = record {
  below = λ e i. (let less : e.patch.no < 0 + length (entries_of run) = Numbered-below 0 (entries_of run) (Numbered-run run) e (In-from_Contains _ e i) in omega arith);
  made = λ n less. let r = numbered_made 0 n (entries_of run) (Numbered-run run) less in
      (r.0, Contains-from_In _ r.0 r.1, (let at : r.0.patch.no ≡ 0 + n = r.2 in omega arith));
}

-- what is of the block, and among its patches
pub of_block-In : (block : ℕ) (all : List Entry) (e : Entry) → Contains (of_block block all) e → In all e × (e.patch.block ≡ block)
of_block-In block all e i = let r = filter-In (λ e. e.patch.block == block) all e (In-from_Contains _ e i) in (r.0, grind (arith, nat_tests, r.1))

pub In-of_block : (block : ℕ) (all : List Entry) (e : Entry) → In all e → e.patch.block ≡ block → Contains (of_block block all) e
In-of_block block all e i here = Contains-from_In _ e (In-filter (λ e. e.patch.block == block) all e i (same_name e.patch.block block here))

orderly-of_block : (block : ℕ) (all : List Entry) → IsOrderly all → IsOrderly (of_block block all)
orderly-of_block block all o = record {
  rising = rising-filter (λ e. e.patch.block == block) all o.rising;
  apart = λ e f i j. o.apart e f (wide e i) (wide f j);
  filled = λ e i. o.filled e (wide e i);
  fits = λ e i. o.fits e (wide e i);
  earlier = λ e n i. o.earlier e n (wide e i);
  alike = λ e f i j. o.alike e f (wide e i) (wide f j);
  least = λ e i. o.least e (wide e i);
  own = λ e i.
      let r = o.own e (wide e i) in
      let like = o.alike r.0 e r.1.inside (wide e i) r.1.name in
      (r.0, record { inside = In-of_block block all r.0 (In-from_Contains _ r.0 r.1.inside) (like.block ∙ (of_block-In block all e i).1); name = r.1.name; number = r.1.number });
  under = λ e f i j. o.under e f (wide e i) (wide f j);
}
  where
    wide : (e : Entry) → Contains (of_block block all) e → Contains all e
    wide e i = Contains-from_In all e (of_block-In block all e i).0

long_at : (blocks : List (List ℕ)) (k : ℕ) → AllByRecursion (λ b. length b ≡ BLOCK) blocks → k < length blocks → length (slice_index_or blocks k []) ≡ BLOCK
long_at [] k h less = absurd (omega arith)
long_at (b ∷ bs) zero h less = h.0
long_at (b ∷ bs) (suc k) h less = long_at bs k h.1 (omega arith)

pub orderly_block : (run : Execution) (block : ℕ) → IsLegal run → block < length run.first → IsOrderlyBlock (history_of run block) block
orderly_block run block legal there = record {
  long = long_at run.first block (recursion_from_All (λ b. length b ≡ BLOCK) run.first legal.blocks) there;
  here = λ e i. (of_block-In block (entries_of run) e i).1;
  orderly = orderly-of_block block (entries_of run) (orderly_run run legal);
}

-- a legal merge's classes, among the patches of their block
module _ (run : Execution) (a b : ℕ) (legal : IsLegal run) (m : IsLegalMerge (entries_of run) a b) where
  -- a member of the class of a patch that may be taken back
  pub member : (n : ℕ) → IsTrue (is_undoable_at (entries_of run) n) → (e : Entry) → In (entries_of run) e → e.class ≡ class_of (entries_of run) n
      → (is_undoable e ≡ true) × (e.patch.block ≡ block_of_patch (entries_of run) n)
  member n h e i same =
      let x = at_number 0 (entries_of run) n is_undoable h in
      let name : class_of (entries_of run) n ≡ x.0.class = rw (x.2, class_of) refl in
      let block : block_of_patch (entries_of run) n ≡ x.0.patch.block = rw (x.2, block_of_patch) refl in
      let p = and_parts (is_memory x.0) (not x.0.hard) x.3 in
      let like = (IsSettled-run run legal).classes.alike e x.0 i x.1 (same ∙ name) in
      let memory : is_memory e ≡ true = rw like.mark p.0 in
      let soft : not e.hard ≡ true = rw like.hard p.1 in (and_from (is_memory e) (not e.hard) memory soft, like.block ∙ sym block)

  abbrev here : List Entry
  here = of_block (block_of_patch (entries_of run) a) (entries_of run)

  links : (c d : ℕ) → class_depends here c d ≡ true → class_depends (entries_of run) c d ≡ true
  links c d h =
      let l = Link-at here c d h in
      let i = of_block-In (block_of_patch (entries_of run) a) (entries_of run) l.from (Contains-from_In _ l.from l.in_from) in
      let j = of_block-In (block_of_patch (entries_of run) a) (entries_of run) l.to (Contains-from_In _ l.to l.in_to) in
      subst (λ n. class_depends (entries_of run) n d ≡ true) l.name_from (subst (λ n. class_depends (entries_of run) l.from.class n ≡ true) l.name_to
      (Link-from (entries_of run) l.from l.to i.0 j.0 (apart_in h l) l.depends))

  widen : {c d : ℕ} → Path here c d → Path (entries_of run) c d
  widen p = Path-map here (entries_of run) links p

  -- the class of such a patch is live
  live_at : (n : ℕ) → IsTrue (is_undoable_at (entries_of run) n) → has_live (entries_of run) (class_of (entries_of run) n) ≡ true
  live_at n h =
      let x = at_number 0 (entries_of run) n is_undoable h in
      let name : class_of (entries_of run) n ≡ x.0.class = rw (x.2, class_of) refl in
      list_any-from (λ e. (e.class == class_of (entries_of run) n) && is_live e) (entries_of run) x.0 x.1
      (and_from _ _ (same_name x.0.class (class_of (entries_of run) n) (sym name)) (memory_live x.0.mark (and_parts (is_memory x.0) (not x.0.hard) x.3).0))

  between : (n k c : ℕ) → IsTrue (is_undoable_at (entries_of run) k) → c ≢ class_of (entries_of run) n → c ≢ class_of (entries_of run) k
      → Path here (class_of (entries_of run) n) c → Path here c (class_of (entries_of run) k)
      → LiesBetween (entries_of run) (class_of (entries_of run) n) (class_of (entries_of run) k) c
  between n k c h ne ne2 p q = record {
    live = live_paths run c (class_of (entries_of run) k) legal (widen q) (live_at k h);
    not_first = ne;
    not_last = ne2;
    from = widen p;
    to = widen q;
  }

  pub may_join : MayJoin here (class_of (entries_of run) a) (class_of (entries_of run) b)
  may_join = record {
    two = m.two;
    undoable = λ e i k. let j = of_block-In (block_of_patch (entries_of run) a) (entries_of run) e i in elim k [
      | inl same ↦ (member a m.undoable_a e j.0 same).0
      | inr same ↦ (member b m.undoable_b e j.0 same).0
    ];
    near = (let t = touch-at (entries_of run) (class_of (entries_of run) a) (class_of (entries_of run) b) m.near in
        let x : t.0.patch.block ≡ block_of_patch (entries_of run) a = (member a m.undoable_a t.0 t.2 t.4).1 in
        let y : t.1.patch.block ≡ block_of_patch (entries_of run) b = (member b m.undoable_b t.1 t.3 t.5).1 in
        let in_x = In-from_Contains _ t.0 (In-of_block (block_of_patch (entries_of run) a) (entries_of run) t.0 t.2 x) in
        let in_y = In-from_Contains _ t.1 (In-of_block (block_of_patch (entries_of run) a) (entries_of run) t.1 t.3 (y ∙ sym m.one_block)) in
        touch-from here (class_of (entries_of run) a) (class_of (entries_of run) b) t.0 t.1 in_x in_y t.4 t.5 t.6 t.7);
    none_between = λ c ne ne2 k. elim k [
      | inl p ↦ m.none_between c (inl (between a b c m.undoable_b ne ne2 p.0 p.1))
      | inr p ↦ m.none_between c (inr (between b a c m.undoable_a ne2 ne p.0 p.1))
    ];
  }
