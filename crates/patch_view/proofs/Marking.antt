-- A class put in flight, and one made durable.
use Rattle.std.proofs.Common.{◌≡◌, ℕ, ◌+◌, ◌-◌, ◌<◌, ◌≤◌, ◌∙◌, true, false, not, inl, inr, Bool, List, [], ◌∷◌, length, map, get_or, refl, sym, ap, arith, subst, get_or-set_same, get_or-set_other}
use Rattle.std.specs.Prelude.{◌==◌, ◌&&◌, ◌||◌, ◌≢◌, nat_lt, filter, Some, None}
use Rattle.std.specs.List.{list_any, list_all}
use Rattle.std.proofs.lemmas.Bool.{cases_Bool, cases_eq, both_ways, eq-eqb, ne_eqb, cond-false}
use Rattle.std.proofs.lemmas.List.{length-set}
use Rattle.std.proofs.lemmas.List.Edits.{length-remove}
use Rattle.patch_model.specs.Marked.{memory-not_durable}
use Rattle.patch_model.specs.declared.patches.Mark.{Mark}
use Rattle.patch_model.specs.declared.patches.Mark.TheVariants.{Memory, Flight, Durable}
use Rattle.patch_model.specs.Pile.{end, covers, pile}
use Rattle.patch_model.specs.Entry.{Entry, is_durable, is_memory, is_among, marks_memory, marks_durable, marks_flight}
use Rattle.patch_model.specs.Dependency.{depends_directly}
use Rattle.patch_model.specs.Member.{In, map-In}
use Rattle.patch_model.specs.History.{History, without}
use Rattle.patch_view.proofs.Sets.{class_depends_on, none-held, never-from, ordered_on}
use Rattle.patch_view.specs.History.{IsCoherent, MayLand, re_marked, with_mark, class_covers, class_names, comes_before, below, top}
use Rattle.patch_records.specs.Records.{Class, no_class, may_be_taken, departed}
use Rattle.patch_stacks.specs.State.{Block, class_at, place_of, departed_at, landed_at}
use Rattle.patch_view.proofs.Naming.{like_named}
use Rattle.patch_stacks.proofs.ClassFields.{names-set}
use Rattle.patch_view.specs.Meaning.{IsClassOf, IsBlockOf}
use Rattle.patch_view.specs.Answers.{IsPatch}
use Rattle.patch_view.proofs.Steps.{record_of}
use Rattle.patch_view.proofs.Answering.{found, no_place}
use Rattle.patch_stacks.proofs.ClassPlaces.{at_stood, stood, stood_is}
use Rattle.patch_stacks.proofs.ClassFields.{named-remove}

-- a change of patches that leaves all but the marks
pub record IsMarking (f : Entry → Entry) : Type 0 where
  pub patch : (e : Entry) → (f e).patch ≡ e.patch
  pub class : (e : Entry) → (f e).class ≡ e.class
  pub hard : (e : Entry) → (f e).hard ≡ e.hard

abbrev pub changed : (Entry → Entry) → History → History
changed f h = record h { entries = map f h.entries }

pub any-map : {X Y : Type 0} (f : X → Y) (p : Y → Bool) (q : X → Bool) (xs : List X) → ((x : X) → p (f x) ≡ q x) → list_any p (map f xs) ≡ list_any q xs
any-map f p q [] same = refl
any-map f p q (x ∷ xs) same = let e : p (f x) ≡ q x = same x in let r = any-map f p q xs same in rw (e, r) refl

pub all-map : {X Y : Type 0} (f : X → Y) (p : Y → Bool) (q : X → Bool) (xs : List X) → ((x : X) → p (f x) ≡ q x) → list_all p (map f xs) ≡ list_all q xs
all-map f p q [] same = refl
all-map f p q (x ∷ xs) same = let e : p (f x) ≡ q x = same x in let r = all-map f p q xs same in rw (e, r) refl

-- the patches that pass are the same
pub kept-patches : (f : Entry → Entry) (k l : Entry → Bool) (es : List Entry) → ((e : Entry) → (f e).patch ≡ e.patch) → ((e : Entry) → k (f e) ≡ l e)
    → map (λ e. e.patch) (filter k (map f es)) ≡ map (λ e. e.patch) (filter l es)
kept-patches f k l [] m same = refl
kept-patches f k l (e ∷ es) m same = let s : k (f e) ≡ l e = same e in let r = kept-patches f k l es m same in let p : (f e).patch ≡ e.patch = m e in
    elim (cases_Bool (l e)) [
      | inl u ↦ rw (s, u) (ap (λ q. q ∷ map (λ g. g.patch) (filter k (map f es))) p ∙ ap (λ z. e.patch ∷ z) r)
      | inr u ↦ rw (s, u) r
    ]

pub kept-map : (f : Entry → Entry) (k l : Entry → Bool) (es : List Entry) → IsMarking f → ((e : Entry) → k (f e) ≡ l e)
    → map (λ e. e.patch) (filter k (map f es)) ≡ map (λ e. e.patch) (filter l es)
kept-map f k l es m same = kept-patches f k l es m.patch same

pub covers-changed : (f : Entry → Entry) (h : History) (c x : ℕ) → IsMarking f → class_covers (changed f h) c x ≡ class_covers h c x
covers-changed f h c x m = any-map f (λ e. e.class == c && covers e.patch x) (λ e. e.class == c && covers e.patch x) h.entries
    (λ e. let a : (f e).class ≡ e.class = m.class e in let b : (f e).patch ≡ e.patch = m.patch e in
    ap (λ z. z == c && covers (f e).patch x) a ∙ ap (λ z. e.class == c && covers z x) b)

pub depends-changed : (f : Entry → Entry) (h : History) (a c : ℕ) → IsMarking f → class_depends_on (changed f h) a c ≡ class_depends_on h a c
depends-changed f h a c m = any-map f (λ e. e.class == a && list_any (λ g. g.class == c && depends_directly e.patch g.patch) (map f h.entries))
    (λ e. e.class == a && list_any (λ g. g.class == c && depends_directly e.patch g.patch) h.entries) h.entries
    (λ e. ap (λ z. z == a && list_any (λ g. g.class == c && depends_directly (f e).patch g.patch) (map f h.entries)) (m.class e)
    ∙ ap (λ z. e.class == a && z) (any-map f (λ g. g.class == c && depends_directly (f e).patch g.patch) (λ g. g.class == c && depends_directly e.patch g.patch) h.entries
    (λ g. ap (λ z. z == c && depends_directly (f e).patch (f g).patch) (m.class g)
    ∙ ap (λ z. g.class == c && depends_directly z (f g).patch) (m.patch e)
    ∙ ap (λ z. g.class == c && depends_directly e.patch z) (m.patch g))))

pub below-changed : (f : Entry → Entry) (h : History) (c x : ℕ) → IsMarking f → below (changed f h) c x ≡ below h c x
below-changed f h c x m = ap (λ ps. get_or (pile h.first ps) x 0) (kept-map f (comes_before (changed f h) c x) (comes_before h c x) h.entries m
    (λ e. all-map f (λ g. not (g.class == c && covers g.patch x) || nat_lt (f e).patch.no g.patch.no) (λ g. not (g.class == c && covers g.patch x) || nat_lt e.patch.no g.patch.no) h.entries
    (λ g. ap (λ z. not (z == c && covers (f g).patch x) || nat_lt (f e).patch.no (f g).patch.no) (m.class g)
    ∙ ap (λ z. not (g.class == c && covers z x) || nat_lt (f e).patch.no z.no) (m.patch g)
    ∙ ap (λ z. not (g.class == c && covers g.patch x) || nat_lt z.no g.patch.no) (m.patch e))))

pub without-changed : (f : Entry → Entry) (h : History) → IsMarking f → without (changed f h) [] ≡ without h []
without-changed f h m = ap (λ ps. pile h.first ps) (kept-map f (λ e. not (is_among [] e.class)) (λ e. not (is_among [] e.class)) h.entries m (λ e. refl))

-- what the marks are afterwards
pub record AreMarks (f : Entry → Entry) (h : History) : Type 0 where
  pub one_mark : (e g : Entry) → In h.entries e → In h.entries g → e.class ≡ g.class → (f e).mark ≡ (f g).mark
  pub durable_first : (e g : Entry) → In h.entries e → In h.entries g → depends_directly e.patch g.patch ≡ true → is_durable (f e) ≡ true → is_memory (f g) ≡ false

pub orderly-changed : (f : Entry → Entry) (h : History) → IsMarking f → AreMarks f h → IsCoherent h → IsCoherent (changed f h)
orderly-changed f h m marks o = record {
  long = o.long;
  fits = λ y i. let r = map-In f h.entries y i in let p : r.0.patch ≡ y.patch = sym (m.patch r.0) ∙ ap (λ z. z.patch) r.2 in
      subst (λ z. end z ≤ 4096) p (o.fits r.0 r.1);
  some = λ y i. let r = map-In f h.entries y i in let p : r.0.patch ≡ y.patch = sym (m.patch r.0) ∙ ap (λ z. z.patch) r.2 in
      subst (λ z. 0 < length z.bytes) p (o.some r.0 r.1);
  one_block = λ y z i j. let r = map-In f h.entries y i in let s = map-In f h.entries z j in
      ap (λ k. k.block) (ap (λ k. k.patch) (sym r.2) ∙ m.patch r.0) ∙ o.one_block r.0 s.0 r.1 s.1 ∙ ap (λ k. k.block) (sym (m.patch s.0) ∙ ap (λ k. k.patch) s.2);
  numbers = λ y z i j same. let r = map-In f h.entries y i in let s = map-In f h.entries z j in
      let one : r.0 ≡ s.0 = o.numbers r.0 s.0 r.1 s.1 (ap (λ k. k.no) (sym (m.patch r.0) ∙ ap (λ k. k.patch) r.2) ∙ same ∙ ap (λ k. k.no) (ap (λ k. k.patch) (sym s.2) ∙ m.patch s.0)) in
      sym r.2 ∙ ap f one ∙ s.2;
  named_earlier = λ y n i t. let r = map-In f h.entries y i in let p : y.patch ≡ r.0.patch = ap (λ z. z.patch) (sym r.2) ∙ m.patch r.0 in
      subst (λ z. n < z.no) (sym p) (o.named_earlier r.0 n r.1 (ap (λ z. is_among z.after n) (sym p) ∙ t));
  class_first = λ y i. let r = map-In f h.entries y i in
      let p : y.patch ≡ r.0.patch = ap (λ z. z.patch) (sym r.2) ∙ m.patch r.0 in
      let q : y.class ≡ r.0.class = ap (λ z. z.class) (sym r.2) ∙ m.class r.0 in
      subst (λ n. n ≤ y.patch.no) (sym q) (subst (λ z. r.0.class ≤ z.no) (sym p) (o.class_first r.0 r.1));
  one_mark = λ y z i j same. let r = map-In f h.entries y i in let s = map-In f h.entries z j in
      let c : r.0.class ≡ s.0.class = sym (m.class r.0) ∙ ap (λ k. k.class) r.2 ∙ same ∙ ap (λ k. k.class) (sym s.2) ∙ m.class s.0 in (
        ap (λ k. k.mark) (sym r.2) ∙ marks.one_mark r.0 s.0 r.1 s.1 c ∙ ap (λ k. k.mark) s.2,
        ap (λ k. k.hard) (sym r.2) ∙ m.hard r.0 ∙ (o.one_mark r.0 s.0 r.1 s.1 c).1 ∙ sym (m.hard s.0) ∙ ap (λ k. k.hard) s.2,
      );
  durable_first = λ y z i j d t. let r = map-In f h.entries y i in let s = map-In f h.entries z j in
      let goes : depends_directly r.0.patch s.0.patch ≡ true =
      ap (λ k. depends_directly k s.0.patch) (sym (m.patch r.0) ∙ ap (λ k. k.patch) r.2) ∙ ap (λ k. depends_directly y.patch k) (sym (m.patch s.0) ∙ ap (λ k. k.patch) s.2) ∙ d in
      ap is_memory (sym s.2) ∙ marks.durable_first r.0 s.0 r.1 s.1 goes (ap is_durable r.2 ∙ t);
}

-- what a class names doesn't change
pub names-changed : (f : Entry → Entry) (h : History) → IsMarking f → (c n : ℕ) → class_names (changed f h) c n ≡ class_names h c n
names-changed f h m c n = any-map f (λ e. e.class == c && is_among e.patch.after n) (λ e. e.class == c && is_among e.patch.after n) h.entries
    (λ e. ap (λ z. z == c && is_among (f e).patch.after n) (m.class e) ∙ ap (λ z. e.class == c && is_among z.after n) (m.patch e))

-- a class's record, with other marks
pub re-class : (f : Entry → Entry) (h : History) (c : Class) (flying : Bool) (saved : List ℕ) → IsMarking f → IsClassOf h [] c
    → ((e : Entry) → In h.entries e → e.class ≡ c.name → (is_durable (f e) ≡ false) × (is_memory (f e) ≡ not flying))
    → (let d : Class = record c { flying = flying; saved = saved } in
    (may_be_taken d ≡ true → (saved ≡ c.saved) × (flying ≡ c.flying)) × (may_be_taken d ≡ false → saved ≡ []))
    → IsClassOf (changed f h) [] (record c { flying = flying; saved = saved })
re-class f h c flying saved m r marks keeps = record {
  known = any-map f (λ e. e.class == c.name) (λ e. e.class == c.name) h.entries (λ e. ap (λ z. z == c.name) (m.class e)) ∙ r.known;
  named_by_member = r.named_by_member;
  members = λ n. r.members n ∙ sym (any-map f (λ e. e.patch.no == n && e.class == c.name) (λ e. e.patch.no == n && e.class == c.name) h.entries
      (λ e. ap (λ z. z.no == n && (f e).class == c.name) (m.patch e) ∙ ap (λ z. e.patch.no == n && z == c.name) (m.class e)));
  after = λ n t. names-changed f h m c.name n ∙ r.after n t;
  marked = λ y i of. let q = map-In f h.entries y i in
      let is : q.0.class ≡ c.name = sym (m.class q.0) ∙ ap (λ z. z.class) q.2 ∙ of in
      let new = marks q.0 q.1 is in
      (ap is_durable (sym q.2) ∙ new.0, ap is_memory (sym q.2) ∙ new.1, ap (λ z. z.hard) (sym q.2) ∙ m.hard q.0 ∙ (r.marked q.0 q.1 is).2);
  span = λ x. r.span x ∙ sym (covers-changed f h c.name x m);
  flag = r.flag;
  some = r.some;
  fits = r.fits;
  long = λ t. let k = keeps.0 t in ap (λ z. c.start + length z) k.0 ∙ r.long (ap (λ z. not z && not c.hard) (sym k.1) ∙ t);
  no_saved = keeps.1;
  saved = λ t x on. let k = keeps.0 t in
      let off : c.taken ≡ false = r.flag in
      let old = r.saved (ap (λ z. not z && not c.hard) (sym k.1) ∙ t) x on in
      ap (λ z. get_or z (x - c.start) 0) k.0 ∙ old ∙ cond-false c.taken (top h c.name x) (below h c.name x) off
      ∙ sym (below-changed f h c.name x m) ∙ sym (cond-false c.taken (top (changed f h) c.name x) (below (changed f h) c.name x) off);
}

pub is_marking : (m : Mark) (c : ℕ) → IsMarking (re_marked m c)
is_marking m c = record {
  patch = λ e. elim (cases_Bool (e.class == c)) [ inl t ↦ rw t refl | inr t ↦ rw t refl ];
  class = λ e. elim (cases_Bool (e.class == c)) [ inl t ↦ rw t refl | inr t ↦ rw t refl ];
  hard = λ e. elim (cases_Bool (e.class == c)) [ inl t ↦ rw t refl | inr t ↦ rw t refl ];
}

pub marked-in : (m : Mark) (c : ℕ) (e : Entry) → e.class ≡ c → (re_marked m c e).mark ≡ m
marked-in m c e is = let t : (e.class == c) ≡ true = eq-eqb _ _ is in rw t refl

pub marked-out : (m : Mark) (c : ℕ) (e : Entry) → e.class ≢ c → re_marked m c e ≡ e
marked-out m c e not_c = let t : (e.class == c) ≡ false = ne_eqb _ _ not_c in rw t refl

one_mark-marked : (m : Mark) (c : ℕ) (h : History) → IsCoherent h → (e g : Entry) → In h.entries e → In h.entries g → e.class ≡ g.class
    → (re_marked m c e).mark ≡ (re_marked m c g).mark
one_mark-marked m c h o e g i j same = elim (cases_eq e.class c) [
  | inl is ↦ marked-in m c e is ∙ sym (marked-in m c g (sym same ∙ is))
  | inr out ↦ ap (λ z. z.mark) (marked-out m c e out) ∙ (o.one_mark e g i j same).0 ∙ sym (ap (λ z. z.mark) (marked-out m c g (λ q. out (same ∙ q))))
]

flown-marks : (c : ℕ) (h : History) → IsCoherent h → AreMarks (re_marked Flight c) h
flown-marks c h o = record {
  one_mark = one_mark-marked Flight c h o;
  durable_first = λ e g i j d t. elim (cases_eq e.class c) [
    | inl is ↦ absurd (both_ways _ (ap marks_durable (marked-in Flight c e is)) t)
    | inr out ↦ elim (cases_eq g.class c) [
      | inl is ↦ ap marks_memory (marked-in Flight c g is)
      | inr away ↦ ap is_memory (marked-out Flight c g away) ∙ o.durable_first e g i j d (ap is_durable (sym (marked-out Flight c e out)) ∙ t)
    ]
  ];
}

landed-marks : (c : ℕ) (h : History) → IsCoherent h → MayLand h c → AreMarks (re_marked Durable c) h
landed-marks c h o may = record {
  one_mark = one_mark-marked Durable c h o;
  durable_first = λ e g i j d t. elim (cases_eq g.class c) [
    | inl is ↦ ap marks_memory (marked-in Durable c g is)
    | inr away ↦ ap is_memory (marked-out Durable c g away) ∙ (elim (cases_eq e.class c) [
      | inl is ↦ may.first e g i j is d
      | inr out ↦ o.durable_first e g i j d (ap is_durable (sym (marked-out Durable c e out)) ∙ t)
    ])
  ];
}

-- another class's record doesn't change
other-class : (m : Mark) (n : ℕ) (h : History) (c : Class) → IsClassOf h [] c → c.name ≢ n → IsClassOf (with_mark h m n) [] c
other-class m n h c r apart = re-class (re_marked m n) h c c.flying c.saved (is_marking m n) r
    (λ e i is. let out = marked-out m n e (λ q. apart (sym is ∙ q)) in let old = r.marked e i is in (ap is_durable out ∙ old.0, ap is_memory out ∙ old.1))
    ((λ t. (refl, refl)), r.no_saved)

flown-class : (h : History) (c : Class) → IsClassOf h [] c → IsClassOf (with_mark h Flight c.name) [] (departed c)
flown-class h c r = re-class (re_marked Flight c.name) h c true [] (is_marking Flight c.name) r
    (λ e i is. (ap marks_durable (marked-in Flight c.name e is), ap marks_memory (marked-in Flight c.name e is)))
    ((λ t. absurd (cc)), λ t. refl)

-- what is at a place of the block with one class in flight
kept-flown : {X : Type 0} (F : Class → X) (b : Block) (at i : ℕ) → at < length b.classes → F (departed (class_at b at)) ≡ F (class_at b at)
    → F (class_at (departed_at b at) i) ≡ F (class_at b i)
kept-flown F b at i within same = elim (cases_eq i at) [
  | inl e ↦ rw e (ap F (get_or-set_same b.classes at (departed (class_at b at)) no_class within) ∙ same)
  | inr ne ↦ ap F (get_or-set_other b.classes at i (departed (class_at b at)) no_class ne)
]

pub departs : (b : Block) (h : History) (at : ℕ) → IsBlockOf b [] h → at < length b.classes
    → IsBlockOf (departed_at b at) [] (with_mark h Flight (class_at b at).name)
departs b h at r within =
    let n : ℕ = (class_at b at).name in
    let H : History = with_mark h Flight (class_at b at).name in
    let m = is_marking Flight (class_at b at).name in
    let same_length : length (departed_at b at).classes ≡ length b.classes = length-set b.classes at (departed (class_at b at)) in
    let name-kept : (i : ℕ) → (class_at (departed_at b at) i).name ≡ (class_at b i).name = (λ i. kept-flown (λ c. c.name) b at i within refl) in
    record {
      coherent = orderly-changed (re_marked Flight (class_at b at).name) h m (flown-marks (class_at b at).name h r.coherent) r.coherent;
      holds = none-held (with_mark h Flight (class_at b at).name);
      bytes = r.bytes ∙ sym (without-changed (re_marked Flight (class_at b at).name) h m);
      classes = λ i h_i. elim (cases_eq i at) [
        | inl e ↦ rw (e, get_or-set_same b.classes at (departed (class_at b at)) no_class within) (flown-class h (class_at b at) (r.classes at within))
        | inr ne ↦ let w : i < length b.classes = rw same_length at h_i in
            rw (get_or-set_other b.classes at i (departed (class_at b at)) no_class ne)
            (other-class Flight (class_at b at).name h (class_at b i) (r.classes i w) (λ q. ne (r.distinct i at w within q)))
      ];
      complete = λ y i low. let q = map-In (re_marked Flight (class_at b at).name) h.entries y i in
          names-set b.classes at y.class (departed (class_at b at)) within refl
          ∙ ap (λ k. list_any (λ d. d.name == k) b.classes) (ap (λ z. z.class) (sym q.2) ∙ m.class q.0)
          ∙ (elim (cases_eq q.0.class (class_at b at).name) [
            | inl is ↦ r.complete q.0 q.1 ((r.classes at within).marked q.0 q.1 is).0
            | inr out ↦ r.complete q.0 q.1 (ap is_durable (sym (marked-out Flight (class_at b at).name q.0 out) ∙ q.2) ∙ low)
          ]);
      distinct = λ i j h_i h_j same. r.distinct i j (rw same_length at h_i) (rw same_length at h_j) (sym (name-kept i) ∙ same ∙ name-kept j);
      named = like_named b (departed_at b at) h H (λ i h_i. (i, rw same_length at h_i, name-kept i, kept-flown (λ c. c.members) b at i within refl, kept-flown (λ c. c.after) b at i within refl))
          (names-changed (re_marked Flight (class_at b at).name) h m) r.named;
      ordered = λ i j less h_j.
          let w_j : j < length b.classes = rw same_length at h_j in
          never-from (with_mark h Flight (class_at b at).name) _ _
          (ap (λ k. class_depends_on (with_mark h Flight (class_at b at).name) k (class_at (departed_at b at) j).name) (name-kept i)
          ∙ ap (λ k. class_depends_on (with_mark h Flight (class_at b at).name) (class_at b i).name k) (name-kept j)
          ∙ depends-changed (re_marked Flight (class_at b at).name) h (class_at b i).name (class_at b j).name m
          ∙ ordered_on r i j less w_j);
    }

pub lands : (b : Block) (h : History) (at : ℕ) → IsBlockOf b [] h → at < length b.classes → MayLand h (class_at b at).name
    → IsBlockOf (landed_at b at) [] (with_mark h Durable (class_at b at).name)
lands b h at r within may =
    let m = is_marking Durable (class_at b at).name in
    let l = length-remove b.classes at within in
    let at_ : (i : ℕ) → class_at (landed_at b at) i ≡ class_at b (stood at i) = (λ i. at_stood b.classes at i within) in
    let w : (i : ℕ) → i < length (landed_at b at).classes → stood at i < length b.classes = (λ i h_i. elim (stood_is at i) [ inl s ↦ omega arith | inr s ↦ omega arith ]) in
    let away : (i : ℕ) → stood at i ≢ at = (λ i q. elim (stood_is at i) [ inl s ↦ omega arith | inr s ↦ omega arith ]) in
    record {
      coherent = orderly-changed (re_marked Durable (class_at b at).name) h m (landed-marks (class_at b at).name h r.coherent may) r.coherent;
      holds = none-held (with_mark h Durable (class_at b at).name);
      bytes = r.bytes ∙ sym (without-changed (re_marked Durable (class_at b at).name) h m);
      classes = λ i h_i. rw (at_ i) (other-class Durable (class_at b at).name h (class_at b (stood at i)) (r.classes (stood at i) (w i h_i))
          (λ q. away i (r.distinct (stood at i) at (w i h_i) within q)));
      complete = λ y i low. let q = map-In (re_marked Durable (class_at b at).name) h.entries y i in
          let out : q.0.class ≢ (class_at b at).name = (λ is. both_ways _ low (ap is_durable (sym q.2) ∙ ap marks_durable (marked-in Durable (class_at b at).name q.0 is))) in
          let k = record_of b [] h q.0 r q.1 (ap is_durable (sym (marked-out Durable (class_at b at).name q.0 out) ∙ q.2) ∙ low) in
          let ne : k.0 ≢ at = (λ z. out (sym k.2 ∙ ap (λ n. (class_at b n).name) z)) in
          named-remove b.classes at y.class k.0 within k.1 ne (k.2 ∙ sym (m.class q.0) ∙ ap (λ z. z.class) q.2);
      distinct = λ i j h_i h_j same.
          let e : stood at i ≡ stood at j = r.distinct (stood at i) (stood at j) (w i h_i) (w j h_j) (ap (λ c. c.name) (sym (at_ i)) ∙ same ∙ ap (λ c. c.name) (at_ j)) in
          elim (stood_is at i) [ inl s ↦ elim (stood_is at j) [ inl t ↦ omega arith | inr t ↦ omega arith ] | inr s ↦ elim (stood_is at j) [ inl t ↦ omega arith | inr t ↦ omega arith ] ];
      named = like_named b (landed_at b at) h (with_mark h Durable (class_at b at).name)
          (λ i h_i. (stood at i, w i h_i, ap (λ c. c.name) (at_ i), ap (λ c. c.members) (at_ i), ap (λ c. c.after) (at_ i)))
          (names-changed (re_marked Durable (class_at b at).name) h m) r.named;
      ordered = λ i j less h_j.
          let h_i : i < length (landed_at b at).classes = omega arith in
          let lt : stood at i < stood at j = elim (stood_is at i) [
            | inl s ↦ elim (stood_is at j) [ inl t ↦ omega arith | inr t ↦ omega arith ]
            | inr s ↦ elim (stood_is at j) [ inl t ↦ omega arith | inr t ↦ omega arith ]
          ] in
          rw (at_ i, at_ j) (never-from (with_mark h Durable (class_at b at).name) _ _
          (depends-changed (re_marked Durable (class_at b at).name) h (class_at b (stood at i)).name (class_at b (stood at j)).name m
          ∙ ordered_on r (stood at i) (stood at j) lt (w j h_j)));
    }

pub named_place : (b : Block) (h : History) (number at : ℕ) (e : Entry) → IsBlockOf b [] h → place_of b number ≡ Some at → IsPatch h number e
    → (at < length b.classes) × ((class_at b at).name ≡ e.class)
named_place b h number at e r is p =
    let f = found b [] h number at r is in
    (f.within, sym f.class ∙ ap (λ z. z.class) (r.coherent.numbers f.patch e f.named.is_in p.is_in (f.named.number ∙ sym p.number)))

pub departs_named : (b : Block) (h : History) (number at : ℕ) (e : Entry) → IsBlockOf b [] h → place_of b number ≡ Some at → IsPatch h number e
    → IsBlockOf (departed_at b at) [] (with_mark h Flight e.class)
departs_named b h number at e r is p = let q = named_place b h number at e r is p in
    subst (λ n. IsBlockOf (departed_at b at) [] (with_mark h Flight n)) q.1 (departs b h at r q.0)

pub lands_named : (b : Block) (h : History) (number at : ℕ) (e : Entry) → IsBlockOf b [] h → place_of b number ≡ Some at → IsPatch h number e → MayLand h e.class
    → IsBlockOf (landed_at b at) [] (with_mark h Durable e.class)
lands_named b h number at e r is p may = let q = named_place b h number at e r is p in
    subst (λ n. IsBlockOf (landed_at b at) [] (with_mark h Durable n)) q.1 (lands b h at r q.0 (subst (λ n. MayLand h n) (sym q.1) may))

flight-not_durable : (m : Mark) → marks_flight m ≡ true → marks_durable m ≡ false
flight-not_durable Memory u = refl
flight-not_durable Flight u = refl
flight-not_durable Durable u = absurd (cc)

pub placed_memory : (b : Block) (h : History) (number : ℕ) (e : Entry) → IsBlockOf b [] h → place_of b number ≡ None → IsPatch h number e → is_memory e ≡ true → ⊥
placed_memory b h number e r none p m = both_ways _ (memory-not_durable e.mark m) (no_place b [] h number r none e p)

pub placed_flight : (b : Block) (h : History) (number : ℕ) (e : Entry) → IsBlockOf b [] h → place_of b number ≡ None → IsPatch h number e → MayLand h e.class → ⊥
placed_flight b h number e r none p m = both_ways _ (flight-not_durable e.mark (m.flying e p.is_in refl)) (no_place b [] h number r none e p)
