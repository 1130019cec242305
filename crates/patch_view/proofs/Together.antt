-- Classes put in flight together, and those in flight made durable.
use Rattle.std.proofs.Common.{◌≡◌, ◌≢◌, ℕ, ◌<◌, ◌∙◌, true, false, not, inl, inr, List, [], length, filter, get_or, set, refl, sym, ap, arith, subst, Bool}
use Rattle.std.specs.Prelude.{◌==◌, ◌&&◌}
use Rattle.std.specs.List.{list_any, All, AllPairs}
use Rattle.std.proofs.lemmas.Bool.{cases_Bool, cases_eq, cases_lt, both_ways, eq-eqb}
use Rattle.std.proofs.lemmas.List.{length-map, get_or-map, get_or_default}
use Rattle.std.proofs.lemmas.List.Elements.{All-filter, filter_passes, Contains-get_or}
use Rattle.std.proofs.lemmas.List.Kept.{AllPairs-filter}
use Rattle.patch_model.specs.Marked.{memory-not_durable}
use Rattle.patch_model.specs.declared.patches.Mark.{Mark}
use Rattle.patch_model.specs.declared.patches.Mark.TheVariants.{Memory, Flight, Durable}
use Rattle.patch_model.specs.Entry.{Entry, is_durable, is_memory, is_flight, is_among, marks_memory, marks_durable, marks_flight}
use Rattle.patch_model.specs.Member.{In, In-from_Contains, Contains-from_In, In-filter, filter-In, list_any-from, map-In}
use Rattle.patch_model.specs.History.{History}
use Rattle.patch_model.specs.Orderly.{IsOrderlyBlock}
use Rattle.patch_model.specs.Ready.{has}
use Rattle.patch_model.specs.State.{sent, landed}
use Rattle.patch_view.specs.History.{IsCoherent, MayDepart}
use Rattle.patch_records.specs.Records.{Class, no_class, departed_among}
use Rattle.patch_stacks.specs.State.{Block, class_at, with_departed, with_landed}
use Rattle.patch_view.specs.Meaning.{IsClassOf, IsBlockOf}
use Rattle.patch_view.proofs.Sets.{class_depends_on, none-held, never-from, ordered_on}
use Rattle.patch_view.proofs.Steps.{record_of}
use Rattle.patch_view.proofs.Lawful.{flight_may_land}
use Rattle.patch_view.proofs.Marking.{IsMarking, AreMarks, changed, any-map, depends-changed, without-changed, orderly-changed, names-changed, re-class}
use Rattle.patch_view.proofs.Naming.{like_named}
use Rattle.patch_stacks.proofs.Departed.{same-name}

-- Put in flight.

pub sent-marking : (set : List Entry) → IsMarking (sent set)
sent-marking set = record {
  patch = λ e. elim (cases_Bool (has set e)) [ inl t ↦ rw t refl | inr t ↦ rw t refl ];
  class = λ e. elim (cases_Bool (has set e)) [ inl t ↦ rw t refl | inr t ↦ rw t refl ];
  hard = λ e. elim (cases_Bool (has set e)) [ inl t ↦ rw t refl | inr t ↦ rw t refl ];
}

pub sent-in : (set : List Entry) (e : Entry) → has set e ≡ true → (sent set e).mark ≡ Flight
sent-in set e t = rw t refl

pub sent-out : (set : List Entry) (e : Entry) → has set e ≡ false → sent set e ≡ e
sent-out set e t = rw t refl

sent-marks : (h : History) (numbers : List ℕ) (set : List Entry) → IsCoherent h → MayDepart h numbers set → AreMarks (sent set) h
sent-marks h numbers set o may = record {
  one_mark = λ e g i j same.
      let alike : has set g ≡ has set e = sym (may.named g j) ∙ ap (is_among numbers) (sym same) ∙ may.named e i in
      elim (cases_Bool (has set e)) [
        | inl t ↦ sent-in set e t ∙ sym (sent-in set g (alike ∙ t))
        | inr t ↦ ap (λ z. z.mark) (sent-out set e t) ∙ (o.one_mark e g i j same).0 ∙ sym (ap (λ z. z.mark) (sent-out set g (alike ∙ t)))
      ];
  durable_first = λ e g i j d t. elim (cases_Bool (has set e)) [
    | inl u ↦ absurd (both_ways _ (ap marks_durable (sent-in set e u)) t)
    | inr u ↦ elim (cases_Bool (has set g)) [
      | inl v ↦ ap marks_memory (sent-in set g v)
      | inr v ↦ ap is_memory (sent-out set g v) ∙ o.durable_first e g i j d (ap is_durable (sym (sent-out set e u)) ∙ t)
    ]
  ];
}

departed-class : (h : History) (numbers : List ℕ) (set : List Entry) (c : Class) → MayDepart h numbers set → IsClassOf h [] c
    → IsClassOf (changed (sent set) h) [] (departed_among numbers c)
departed-class h numbers set c may r = elim (cases_Bool (is_among numbers c.name)) [
  | inl t ↦ rw t (re-class (sent set) h c true [] (sent-marking set) r
      (λ e i is. let on : has set e ≡ true = sym (may.named e i) ∙ ap (is_among numbers) is ∙ t in
      (ap marks_durable (sent-in set e on), ap marks_memory (sent-in set e on)))
      ((λ u. absurd (cc)), λ u. refl))
  | inr t ↦ rw t (re-class (sent set) h c c.flying c.saved (sent-marking set) r
      (λ e i is. let out = sent-out set e (sym (may.named e i) ∙ ap (is_among numbers) is ∙ t) in
      let old = r.marked e i is in (ap is_durable out ∙ old.0, ap is_memory out ∙ old.1))
      ((λ u. (refl, refl)), r.no_saved))
]

same-members : (numbers : List ℕ) (c : Class) → (departed_among numbers c).members ≡ c.members
same-members numbers c = elim (cases_Bool (is_among numbers c.name)) [ inl t ↦ rw t refl | inr t ↦ rw t refl ]

same-after : (numbers : List ℕ) (c : Class) → (departed_among numbers c).after ≡ c.after
same-after numbers c = elim (cases_Bool (is_among numbers c.name)) [ inl t ↦ rw t refl | inr t ↦ rw t refl ]

pub departs_together : (b : Block) (h : History) (numbers : List ℕ) (set : List Entry) → IsBlockOf b [] h → MayDepart h numbers set
    → IsBlockOf (with_departed b numbers) [] (changed (sent set) h)
departs_together b h numbers set r may =
    let m = sent-marking set in
    let H : History = changed (sent set) h in
    let new : Block = with_departed b numbers in
    let long : length new.classes ≡ length b.classes = length-map b.classes (departed_among numbers) in
    let at_ : (i : ℕ) → i < length b.classes → class_at new i ≡ departed_among numbers (class_at b i) =
    (λ i w. get_or-map (departed_among numbers) b.classes i no_class no_class w) in
    let name_ : (i : ℕ) → i < length b.classes → (class_at new i).name ≡ (class_at b i).name = (λ i w. ap (λ c. c.name) (at_ i w) ∙ same-name numbers (class_at b i)) in
    record {
      coherent = orderly-changed (sent set) h m (sent-marks h numbers set r.coherent may) r.coherent;
      holds = none-held H;
      bytes = r.bytes ∙ sym (without-changed (sent set) h m);
      classes = λ i h_i. let w : i < length b.classes = rw long at h_i in
          subst (IsClassOf H []) (sym (at_ i w)) (departed-class h numbers set (class_at b i) may (r.classes i w));
      complete = λ y i low. let q = map-In (sent set) h.entries y i in
          let live : is_durable q.0 ≡ false = elim (cases_Bool (has set q.0)) [
            | inl t ↦ memory-not_durable q.0.mark (may.memory q.0 q.1 t)
            | inr t ↦ ap is_durable (sym (sent-out set q.0 t) ∙ q.2) ∙ low
          ] in
          any-map (departed_among numbers) (λ c. c.name == y.class) (λ c. c.name == y.class) b.classes (λ c. ap (λ n. n == y.class) (same-name numbers c))
          ∙ ap (λ k. list_any (λ c. c.name == k) b.classes) (ap (λ z. z.class) (sym q.2) ∙ m.class q.0)
          ∙ r.complete q.0 q.1 live;
      distinct = λ i j h_i h_j same.
          let w_i : i < length b.classes = rw long at h_i in
          let w_j : j < length b.classes = rw long at h_j in
          r.distinct i j w_i w_j (sym (name_ i w_i) ∙ same ∙ name_ j w_j);
      named = like_named b new h H (λ i h_i. let w : i < length b.classes = rw long at h_i in
          (i, w, name_ i w, ap (λ c. c.members) (at_ i w) ∙ same-members numbers (class_at b i), ap (λ c. c.after) (at_ i w) ∙ same-after numbers (class_at b i)))
          (names-changed (sent set) h m) r.named;
      ordered = λ i j less h_j.
          let w_j : j < length b.classes = rw long at h_j in
          let w_i : i < length b.classes = omega arith in
          never-from H _ _
          (ap (λ k. class_depends_on H k (class_at new j).name) (name_ i w_i)
          ∙ ap (λ k. class_depends_on H (class_at b i).name k) (name_ j w_j)
          ∙ depends-changed (sent set) h (class_at b i).name (class_at b j).name m
          ∙ ordered_on r i j less w_j);
    }

-- Made durable.

landed-marking : (block : ℕ) → IsMarking (landed block)
landed-marking block = record {
  patch = λ e. elim (cases_Bool (is_flight e && e.patch.block == block)) [ inl t ↦ rw t refl | inr t ↦ rw t refl ];
  class = λ e. elim (cases_Bool (is_flight e && e.patch.block == block)) [ inl t ↦ rw t refl | inr t ↦ rw t refl ];
  hard = λ e. elim (cases_Bool (is_flight e && e.patch.block == block)) [ inl t ↦ rw t refl | inr t ↦ rw t refl ];
}

landed-in : (block : ℕ) (e : Entry) → e.patch.block ≡ block → is_flight e ≡ true → (landed block e).mark ≡ Durable
landed-in block e here t = let on : (e.patch.block == block) ≡ true = eq-eqb _ _ here in rw (t, on) refl

landed-out : (block : ℕ) (e : Entry) → is_flight e ≡ false → landed block e ≡ e
landed-out block e t = rw t refl

in_block : (h : History) (block : ℕ) → IsOrderlyBlock h block → (e : Entry) → In h.entries e → e.patch.block ≡ block
in_block h block o e i = o.here e (Contains-from_In h.entries e i)

landed-marks : (h : History) (block : ℕ) → IsCoherent h → IsOrderlyBlock h block → AreMarks (landed block) h
landed-marks h block k o = record {
  one_mark = λ e g i j same.
      let one : e.mark ≡ g.mark = (k.one_mark e g i j same).0 in
      elim (cases_Bool (is_flight e)) [
        | inl t ↦ landed-in block e (in_block h block o e i) t ∙ sym (landed-in block g (in_block h block o g j) (ap marks_flight (sym one) ∙ t))
        | inr t ↦ ap (λ z. z.mark) (landed-out block e t) ∙ one ∙ sym (ap (λ z. z.mark) (landed-out block g (ap marks_flight (sym one) ∙ t)))
      ];
  durable_first = λ e g i j d t. elim (cases_Bool (is_flight g)) [
    | inl u ↦ ap marks_memory (landed-in block g (in_block h block o g j) u)
    | inr u ↦ ap is_memory (landed-out block g u) ∙ (elim (cases_Bool (is_flight e)) [
      | inl v ↦ (flight_may_land h block e o i v).first e g i j refl d
      | inr v ↦ k.durable_first e g i j d (ap is_durable (sym (landed-out block e v)) ∙ t)
    ])
  ];
}

memory-not_flight : (m : Mark) → marks_memory m ≡ true → marks_flight m ≡ false
memory-not_flight Memory t = refl
memory-not_flight Flight t = absurd (cc)
memory-not_flight Durable t = absurd (cc)

only-memory : (m : Mark) → marks_durable m ≡ false → marks_flight m ≡ false → marks_memory m ≡ true
only-memory Memory d f = refl
only-memory Flight d f = absurd (cc)
only-memory Durable d f = absurd (cc)

unflown-class : (h : History) (block : ℕ) (c : Class) → not c.flying ≡ true → IsClassOf h [] c → IsClassOf (changed (landed block) h) [] c
unflown-class h block c on r = re-class (landed block) h c c.flying c.saved (landed-marking block) r
    (λ e i is. let old = r.marked e i is in
    let out = landed-out block e (memory-not_flight e.mark (old.1 ∙ on)) in (ap is_durable out ∙ old.0, ap is_memory out ∙ old.1))
    ((λ t. (refl, refl)), r.no_saved)

pub lands_together : (b : Block) (h : History) (block : ℕ) → IsBlockOf b [] h → IsOrderlyBlock h block
    → IsBlockOf (with_landed b) [] (changed (landed block) h)
lands_together b h block r o =
    let m = landed-marking block in
    let H : History = changed (landed block) h in
    let stays : Class → Bool = λ c. not c.flying in
    let same_ : (i : ℕ) (d : Class) → i < length b.classes → get_or b.classes i d ≡ class_at b i = (λ i d w. get_or_default b.classes i d no_class w) in
    let each : All (IsClassOf h []) b.classes = (λ i d w. subst (IsClassOf h []) (sym (same_ i d w)) (r.classes i w)) in
    let apart : AllPairs (λ c d. c.name ≢ d.name) b.classes = (λ i j d less w q.
    let w_i : i < length b.classes = omega arith in
    let e : i ≡ j = r.distinct i j w_i w (ap (λ c. c.name) (sym (same_ i d w_i)) ∙ q ∙ ap (λ c. c.name) (same_ j d w)) in omega arith) in
    let order : AllPairs (λ c d. class_depends_on h c.name d.name ≡ false) b.classes = (λ i j d less w.
    let w_i : i < length b.classes = omega arith in
    ap (λ c. class_depends_on h c.name (get_or b.classes j d).name) (same_ i d w_i) ∙ ap (λ c. class_depends_on h (class_at b i).name c.name) (same_ j d w) ∙ ordered_on r i j less w) in
    record {
      coherent = orderly-changed (landed block) h m (landed-marks h block r.coherent o) r.coherent;
      holds = none-held H;
      bytes = r.bytes ∙ sym (without-changed (landed block) h m);
      classes = λ i w. unflown-class h block (class_at (with_landed b) i) (filter_passes stays b.classes i no_class w)
          (All-filter stays (IsClassOf h []) b.classes each i no_class w);
      complete = λ y i low. let q = map-In (landed block) h.entries y i in
          let out : is_flight q.0 ≡ false = elim (cases_Bool (is_flight q.0)) [
            | inl t ↦ absurd (both_ways _ low (ap is_durable (sym q.2) ∙ ap marks_durable (landed-in block q.0 (in_block h block o q.0 q.1) t)))
            | inr t ↦ t
          ] in
          let live : is_durable q.0 ≡ false = ap is_durable (sym (landed-out block q.0 out) ∙ q.2) ∙ low in
          let k = record_of b [] h q.0 r q.1 live in
          let memory : is_memory q.0 ≡ not (class_at b k.0).flying = ((r.classes k.0 k.1).marked q.0 q.1 (sym k.2)).1 in
          let inside : In b.classes (class_at b k.0) = In-from_Contains b.classes (class_at b k.0) (Contains-get_or b.classes k.0 no_class k.1) in
          list_any-from (λ c. c.name == y.class) (filter stays b.classes) (class_at b k.0)
          (In-filter stays b.classes (class_at b k.0) inside (sym memory ∙ only-memory q.0.mark live out))
          (eq-eqb _ _ (k.2 ∙ sym (m.class q.0) ∙ ap (λ z. z.class) q.2));
      distinct = λ i j h_i h_j same.
          let pairs = AllPairs-filter (λ c d. c.name ≢ d.name) stays b.classes apart in
          elim (cases_eq i j) [
            | inl e ↦ e
            | inr ne ↦ elim (cases_lt i j) [
              | inl less ↦ absurd (pairs i j no_class less h_j same)
              | inr more ↦ absurd (pairs j i no_class (omega arith) h_i (sym same))
            ]
          ];
      named = like_named b (with_landed b) h H (λ i w.
          let c : Class = class_at (with_landed b) i in
          let inside = filter-In stays b.classes c (In-from_Contains (filter stays b.classes) c (Contains-get_or (filter stays b.classes) i no_class w)) in
          let k = Contains-from_In b.classes c inside.0 in
          let same : c ≡ class_at b k.0 = sym (get_or_default b.classes k.0 no_class c k.1 ∙ k.2) in
          (k.0, k.1, ap (λ d. d.name) same, ap (λ d. d.members) same, ap (λ d. d.after) same)) (names-changed (landed block) h m) r.named;
      ordered = λ i j less h_j. never-from H _ _
          (depends-changed (landed block) h (class_at (with_landed b) i).name (class_at (with_landed b) j).name m
          ∙ AllPairs-filter (λ c d. class_depends_on h c.name d.name ≡ false) stays b.classes order i j no_class less h_j);
    }
