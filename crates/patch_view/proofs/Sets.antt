-- Sets of classes that hold their dependents, and which classes depend on which.
use Rattle.std.proofs.Common.{◌≡◌, ℕ, ◌<◌, ◌∙◌, true, false, not, Bool, List, length, sym, ap, [], arith}
use Rattle.std.specs.Prelude.{◌==◌, ◌&&◌, ◌≢◌}
use Rattle.std.specs.List.{list_any}
use Rattle.std.proofs.lemmas.Bool.{eqb-true, eq-eqb, ne_eqb, not_from_false, not-true, and_right}
use Rattle.patch_model.specs.Link.{some_depends}
use Rattle.patch_model.specs.Entry.{Entry, is_durable, is_among, is_undoable, marks_memory}
use Rattle.patch_model.specs.Dependency.{depends_directly, class_depends}
use Rattle.patch_model.specs.Member.{In, In-from_Contains, Contains-from_In, list_any-at, list_any-from}
use Rattle.patch_model.specs.History.{History, HoldsDependents}
use Rattle.patch_view.specs.History.{IsCoherent}
use Rattle.patch_stacks.specs.State.{Block, class_at}
use Rattle.patch_view.specs.Meaning.{IsBlockOf}

-- whole undoable classes, in which stands each class that isn't durable and depends directly on one of them
pub record IsUpper (h : History) (names : List ℕ) : Type 0 where
  pub known : (n : ℕ) → is_among names n ≡ true → list_any (λ e. e.class == n) h.entries ≡ true
  pub undoable : (e : Entry) → In h.entries e → is_among names e.class ≡ true → is_undoable e ≡ true
  pub dependents : (e f : Entry) → In h.entries e → In h.entries f → depends_directly e.patch f.patch ≡ true → is_durable e ≡ false
      → is_among names f.class ≡ true → is_among names e.class ≡ true

pub upper-from : (h : History) (names : List ℕ) → IsCoherent h → HoldsDependents h names → IsUpper h names
upper-from h names o s = record {
  known = λ n t. let q = s.undoable n t in list_any-from (λ e. e.class == n) h.entries q.0 (In-from_Contains h.entries q.0 q.1) (eq-eqb _ _ q.2);
  undoable = λ e i t. let q = s.undoable e.class t in
      let m = o.one_mark e q.0 i (In-from_Contains h.entries q.0 q.1) (sym q.2) in
      ap (λ z. marks_memory z && not e.hard) m.0 ∙ ap (λ z. marks_memory q.0.mark && not z) m.1 ∙ q.3;
  dependents = λ e f i j d low t. s.dependents e f (Contains-from_In h.entries e i) (Contains-from_In h.entries f j) (not_from_false _ low) d t;
}

pub holds-from : (h : History) (names : List ℕ) → IsUpper h names → HoldsDependents h names
holds-from h names u = record {
  undoable = λ c t. let q = list_any-at (λ e. e.class == c) h.entries (u.known c t) in
      let is : q.0.class ≡ c = eqb-true _ _ q.2 in
      (q.0, Contains-from_In h.entries q.0 q.1, is, u.undoable q.0 q.1 (ap (is_among names) is ∙ t));
  dependents = λ e f i j low d t. u.dependents e f (In-from_Contains h.entries e i) (In-from_Contains h.entries f j) d (not-true _ low) t;
}

pub upper : {b : Block} {taken : List ℕ} {h : History} → IsBlockOf b taken h → IsUpper h taken
upper {b} {taken} {h} r = upper-from h taken r.coherent r.holds

-- a patch of the class a depends directly on one of the class c
abbrev pub class_depends_on : History → ℕ → ℕ → Bool
class_depends_on h a c = some_depends h.entries a c

pub class_depends-apart : (h : History) (a c : ℕ) → a ≢ c → class_depends h.entries a c ≡ class_depends_on h a c
class_depends-apart h a c apart = ap (λ z. not z && class_depends_on h a c) (ne_eqb a c apart)

pub ordered_on : {b : Block} {taken : List ℕ} {h : History} → IsBlockOf b taken h → (i j : ℕ) → i < j → j < length b.classes
    → class_depends_on h (class_at b i).name (class_at b j).name ≡ false
ordered_on {b} {taken} {h} r i j less w =
    sym (class_depends-apart h (class_at b i).name (class_at b j).name (λ q. let e : i ≡ j = r.distinct i j (omega arith) w q in absurd (omega arith)))
    ∙ r.ordered i j less w

pub never-from : (h : History) (a c : ℕ) → class_depends_on h a c ≡ false → class_depends h.entries a c ≡ false
never-from h a c f = and_right (not (a == c)) _ f

pub none-held : (h : History) → HoldsDependents h []
none-held h = record { undoable = λ c t. absurd (cc); dependents = λ e f i j low d t. absurd (cc) }
