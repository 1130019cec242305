-- One history and one set of taken classes leave one value of each outline.
use Rattle.std.proofs.Common.{◌≡◌, ℕ, zero, suc, ◌+◌, ◌-◌, ◌<◌, ◌∙◌, true, not, Bool, inl, inr, List, [], ◌∷◌, length, map, get_or, refl, sym, ap, arith}
use Rattle.std.specs.Prelude.{◌==◌, ◌&&◌, filter, slice_index_or, if◌then◌else◌}
use Rattle.std.proofs.lemmas.Bool.{cases_Bool, and_parts, or_cases, or_left, or_right, eqb-true, eq-eqb}
use Rattle.std.proofs.lemmas.List.{ext_get_or}
use Rattle.std.specs.Cmp.{both_ways as same_bool}
use Rattle.patch_model.specs.Pile.{pile}
use Rattle.patch_model.specs.Entry.{Entry, is_among, is_undoable, is_memory, marks_memory}
use Rattle.patch_model.specs.Member.{In, In-filter, filter-In}
use Rattle.patch_model.specs.History.{History, without}
use Rattle.patch_view.specs.History.{IsCoherent, below, top, undoable_classes}
use Rattle.patch_records.specs.Records.{Class, no_class, spans, may_be_taken, outline_of}
use Rattle.patch_stacks.specs.State.{Block, class_at}
use Rattle.patch_view.specs.Meaning.{IsClassOf}
use Rattle.patch_view.specs.Laws.{NameTheSame, OneValue, ImageIsWithout}
use Rattle.patch_records.proofs.Bytes.{spans-from}

pub filter-same : {X : Type 0} (p q : X → Bool) (xs : List X) → ((x : X) → In xs x → p x ≡ q x) → filter p xs ≡ filter q xs
filter-same p q [] same = refl
filter-same p q (x ∷ xs) same =
    let e : p x ≡ q x = same x (inl refl) in
    let rest = filter-same p q xs (λ y i. same y (inr i)) in
    elim (cases_Bool (q x)) [ inl t ↦ rw (e, t) (ap (λ ys. x ∷ ys) rest) | inr t ↦ rw (e, t) rest ]

-- sets of the same names leave the same bytes
pub same_names_same_bytes : (h : History) (names others : List ℕ) → NameTheSame names others → without h names ≡ without h others
same_names_same_bytes h names others same =
    ap (λ es. pile h.first (map (λ e. e.patch) es)) (filter-same (λ e. not (is_among names e.class)) (λ e. not (is_among others e.class)) h.entries (λ e i. ap not (same e.class)))

-- records of classes that differ in nothing of their outlines
same_class : (h : History) (names others : List ℕ) (c d : Class) → IsClassOf h names c → IsClassOf h others d → NameTheSame names others → outline_of c ≡ outline_of d → c ≡ d
same_class h names others c d r s same is =
    let name : c.name ≡ d.name = ap (λ k. k.name) is in
    let start : c.start ≡ d.start = ap (λ k. k.start) is in
    let stop : c.stop ≡ d.stop = ap (λ k. k.stop) is in
    let flag : c.taken ≡ d.taken = r.flag ∙ ap (is_among names) name ∙ same d.name ∙ sym s.flag in
    let may : may_be_taken c ≡ may_be_taken d = ap may_be_taken is in
    let saved : c.saved ≡ d.saved = elim (cases_Bool (may_be_taken d)) [
      | inr off ↦ r.no_saved (may ∙ off) ∙ sym (s.no_saved off)
      | inl on ↦
          let long_c : c.start + length c.saved ≡ c.stop = r.long (may ∙ on) in
          let long_d : d.start + length d.saved ≡ d.stop = s.long on in
          ext_get_or 0 c.saved d.saved (omega arith) (λ i w.
          let here : c.start + i - c.start ≡ i = omega arith in
          let there : d.start + i - d.start ≡ i = omega arith in
          let on_c : spans c (c.start + i) ≡ true = spans-from c (c.start + i) (omega arith) (omega arith) in
          let on_d : spans d (d.start + i) ≡ true = spans-from d (d.start + i) (omega arith) (omega arith) in
          ap (λ k. get_or c.saved k 0) (sym here) ∙ r.saved (may ∙ on) (c.start + i) on_c
          ∙ ap (λ t. if t then top h c.name (c.start + i) else below h c.name (c.start + i)) flag
          ∙ ap (λ n. if d.taken then top h n (c.start + i) else below h n (c.start + i)) name
          ∙ ap (λ x. if d.taken then top h d.name (x + i) else below h d.name (x + i)) start
          ∙ sym (s.saved on (d.start + i) on_d) ∙ ap (λ k. get_or d.saved k 0) there)
    ] in
    ap (λ k. let m : Class = record k { saved = c.saved; taken = c.taken } in m) is
    ∙ ap (λ l. let m : Class = record d { saved = l; taken = c.taken } in m) saved
    ∙ ap (λ t. let m : Class = record d { taken = t } in m) flag

length-map : {X Y : Type 0} (f : X → Y) (xs ys : List X) → map f xs ≡ map f ys → length xs ≡ length ys
length-map f [] [] e = refl
length-map f [] (y ∷ ys) e = absurd (cc)
length-map f (x ∷ xs) [] e = absurd (cc)
length-map f (x ∷ xs) (y ∷ ys) e = ap suc (length-map f xs ys (cc))

bare-at : (cs ds : List Class) (i : ℕ) → map outline_of cs ≡ map outline_of ds → i < length cs → outline_of (slice_index_or cs i no_class) ≡ outline_of (slice_index_or ds i no_class)
bare-at [] ds i e w = absurd (omega arith)
bare-at (c ∷ cs) [] i e w = absurd (cc)
bare-at (c ∷ cs) (d ∷ ds) zero e w = cc
bare-at (c ∷ cs) (d ∷ ds) (suc i) e w = bare-at cs ds i (cc) (omega arith)

pub one_value : OneValue
one_value h names others a b r s same is =
    let long : length a.classes ≡ length b.classes = length-map outline_of a.classes b.classes is in
    let bytes : a.bytes ≡ b.bytes = r.bytes ∙ same_names_same_bytes h names others same ∙ sym s.bytes in
    let classes : a.classes ≡ b.classes = ext_get_or no_class a.classes b.classes long (λ i w.
    same_class h names others (class_at a i) (class_at b i) (r.classes i w) (s.classes i (omega arith)) same (bare-at a.classes b.classes i is w)) in
    ap (λ z. let m : Block = record { bytes = z; classes = a.classes } in m) bytes ∙ ap (λ cs. let m : Block = record { bytes = b.bytes; classes = cs } in m) classes

pub among-map : (es : List Entry) (e : Entry) → In es e → is_among (map (λ g. g.class) es) e.class ≡ true
among-map [] e i = absurd i
among-map (g ∷ es) e (inl same) = or_left _ (is_among (map (λ k. k.class) es) e.class) (eq-eqb _ _ (ap (λ k. k.class) same))
among-map (g ∷ es) e (inr i) = or_right (g.class == e.class) _ (among-map es e i)

pub map-among : (es : List Entry) (n : ℕ) → is_among (map (λ g. g.class) es) n ≡ true → (e : Entry) × In es e × (e.class ≡ n)
map-among [] n t = absurd (cc)
map-among (g ∷ es) n t = elim (or_cases (g.class == n) (is_among (map (λ k. k.class) es) n) t) [
  | inl u ↦ (g, inl refl, eqb-true _ _ u)
  | inr u ↦ let q = map-among es n u in (q.0, inr q.1, q.2)
]

-- which classes are undoable ones of the block
pub among-undoable : (h : History) (e : Entry) → IsCoherent h → In h.entries e → is_among (undoable_classes h) e.class ≡ is_undoable e
among-undoable h e o i = same_bool _ _
    (λ t. let q = map-among (filter is_undoable h.entries) e.class t in
    let p = filter-In is_undoable h.entries q.0 q.1 in
    let m = o.one_mark e q.0 i p.0 (sym q.2) in
    ap (λ z. marks_memory z && not e.hard) m.0 ∙ ap (λ z. marks_memory q.0.mark && not z) m.1 ∙ p.1)
    (λ t. among-map (filter is_undoable h.entries) e (In-filter is_undoable h.entries e i t))

pub image_is_without : ImageIsWithout
image_is_without h o soft =
    ap (λ es. pile h.first (map (λ e. e.patch) es)) (filter-same (λ e. not (is_among (undoable_classes h) e.class)) (λ e. not (is_memory e)) h.entries
    (λ e i. ap not (among-undoable h e o i ∙ same_bool (is_undoable e) (is_memory e) (λ t. (and_parts _ _ t).0) (soft e i))))
