-- What holds its dependents, and the test of it.
use Rattle.std.proofs.Common.{◌≡◌, ℕ, true, List, arith}
use Rattle.std.specs.Prelude.{◌==◌, ◌&&◌, ◌||◌, not, Bool}
use Rattle.std.specs.List.{list_any, list_all}
use Rattle.std.proofs.lemmas.Bool.{and_parts, and_from}
use Rattle.std.proofs.lemmas.Bool.Decides.{nat_tests}
use Rattle.patch_model.specs.Entry.{Entry, is_live, is_undoable, is_among}
use Rattle.patch_model.specs.Dependency.{depends_directly}
use Rattle.patch_model.specs.History.{History, HoldsDependents, holds_dependents}
use Rattle.patch_model.specs.Member.{In-from_Contains, Contains-from_In, list_all-at, list_all-from, list_any-at, list_any-from, among-In, In-among}
use Rattle.patch_model.proofs.Striking.{implied, from_cases}

module _ (h : History) (names : List ℕ) where
  -- the class has an undoable patch
  abbrev undoable_test : ℕ → Bool
  undoable_test c = list_any (λ e. e.class == c && is_undoable e) h.entries

  -- where e is live and depends directly on f, whose class is taken, the class of e is taken
  abbrev follows_test : Entry → Entry → Bool
  follows_test e f = not (is_live e && depends_directly e.patch f.patch && is_among names f.class) || is_among names e.class

  pub holding-from_test : holds_dependents h names ≡ true → HoldsDependents h names
  holding-from_test t =
      let both = and_parts (list_all undoable_test names) (list_all (λ e. list_all (λ f. follows_test e f) h.entries) h.entries) t in
      record {
        undoable = λ c i.
            let u = list_all-at undoable_test names c both.0 (among-In names c i) in
            let e = list_any-at (λ e. e.class == c && is_undoable e) h.entries u in
            let p = and_parts (e.0.class == c) (is_undoable e.0) e.2 in
            (e.0, Contains-from_In _ e.0 e.1, grind (arith, nat_tests, p.0), p.1);
        dependents = λ e f i j live d k.
            let u = list_all-at (λ e. list_all (λ f. follows_test e f) h.entries) h.entries e both.1 (In-from_Contains _ e i) in
            let v = list_all-at (λ f. follows_test e f) h.entries f u (In-from_Contains _ f j) in
            implied (is_live e && depends_directly e.patch f.patch && is_among names f.class) (is_among names e.class) v (and_from _ _ (and_from _ _ live d) k);
      }

  pub test-from_holding : HoldsDependents h names → holds_dependents h names ≡ true
  test-from_holding holds = and_from _ _
      (list_all-from undoable_test names (λ c i.
      let e = holds.undoable c (In-among names c i) in
      list_any-from (λ e. e.class == c && is_undoable e) h.entries e.0 (In-from_Contains _ e.0 e.1) (and_from _ _ (let same : (e.0.class == c) ≡ true = grind (arith, nat_tests, e.2) in same) e.3)))
      (list_all-from (λ e. list_all (λ f. follows_test e f) h.entries) h.entries (λ e i. list_all-from (λ f. follows_test e f) h.entries (λ f j. from_cases _ _ (λ t.
      let p = and_parts (is_live e && depends_directly e.patch f.patch) (is_among names f.class) t in
      let q = and_parts (is_live e) (depends_directly e.patch f.patch) p.0 in
      holds.dependents e f (Contains-from_In _ e i) (Contains-from_In _ f j) q.0 q.1 p.1))))
