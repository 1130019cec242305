-- Paths of dependencies between classes form no ring.
use Rattle.std.proofs.Common.{◌≡◌, ◌≢◌, ℕ, ◌+◌, ◌<◌, ◌≤◌, ◌⊎◌, ◌∙◌, inl, inr, true, false, List, [], ◌∷◌, ◌++◌, length, map, refl, sym, ap, arith, subst}
use Rattle.std.specs.Prelude.{nat_lt, nat_le, ◌==◌, ◌&&◌, ◌||◌, not, min, max, if◌then◌else◌, IsTrue, Contains}
use Rattle.std.specs.List.{list_any}
use Rattle.std.proofs.lemmas.Bool.{cases_Bool, and_parts, and_from, or_cases}
use Rattle.std.proofs.lemmas.Bool.Decides.{nat_tests}
use Rattle.patch_model.specs.Link.{Link, Link-at, Link-from, depends-apart}
use Rattle.patch_model.specs.Marked.{memory_live}
use Rattle.patch_model.specs.Step.{Step, Create, Merge, Send, Complete}
use Rattle.patch_model.specs.Pile.{end, covers}
use Rattle.patch_model.specs.Execution.{Execution}
use Rattle.patch_model.specs.Entry.{Entry, is_memory, is_durable, is_undoable, is_live}
use Rattle.patch_model.specs.Dependency.{shares_byte, depends_directly, Path, one, onward, class_depends, has_live}
use Rattle.patch_model.specs.Ready.{ready}
use Rattle.patch_model.specs.State.{State, fresh, joined, sent, landed, class_of, after_step, after_steps, at_first, entries_of}
use Rattle.patch_model.specs.Legal.{IsLegal, IsLegalStep, AreLegal, IsLegalMerge, is_undoable_at}
use Rattle.patch_model.specs.Orderly.{MeetAt, IsClassUnder, IsUnder, IsLike}
use Rattle.patch_model.specs.Member.{In, In-from_Contains, list_any-at, list_any-from, map-In}
use Rattle.patch_model.specs.Unchanged.{class-landed, class-sent, patch-joined, patch-landed, patch-sent}
use Rattle.patch_model.proofs.Numbering.{Numbered}
use Rattle.patch_model.proofs.Crashes.{IsOrdered, In-push, Numbered-below, depends-earlier}
use Rattle.patch_model.proofs.Classes.{AreClasses, at_number}
use Rattle.patch_model.proofs.Marks.{marks_closed, never, IsSettled, IsSettled-after_step, IsSettled-run, settled_first}
use Rattle.patch_model.proofs.Striking.{or_last}

pub same_name : (a b : ℕ) → a ≡ b → (a == b) ≡ true
same_name a b e = grind (arith, nat_tests)

pub other_name : (a b : ℕ) → a ≢ b → not (a == b) ≡ true
other_name a b ne = grind (arith, nat_tests)

pub other_from_test : (a b : ℕ) → not (a == b) ≡ true → a ≢ b
other_from_test a b h e = grind (arith, nat_tests)

-- the two patches of a link are of different classes
pub apart_in : {all : List Entry} {a b : ℕ} → class_depends all a b ≡ true → (l : Link all a b) → l.from.class ≢ l.to.class
apart_in h l e = depends-apart _ _ _ h (sym l.name_from ∙ e ∙ l.name_to)

pub Path-append : {all : List Entry} {a b c : ℕ} → Path all a b → Path all b c → Path all a c
Path-append (one h) q = onward h q
Path-append (onward h p) q = onward h (Path-append p q)

-- each link of the one is a link of the other
pub Path-map : (all other : List Entry) → ((a b : ℕ) → class_depends all a b ≡ true → class_depends other a b ≡ true) → {a b : ℕ} → Path all a b → Path other a b
Path-map all other f (one h) = one (f _ _ h)
Path-map all other f (onward h p) = onward (f _ _ h) (Path-map all other f p)

pub Path-first : {all : List Entry} {a b : ℕ} → Path all a b → (c : ℕ) × (class_depends all a c ≡ true)
Path-first (one {b = b} h) = (b, h)
Path-first (onward {b = b} h p) = (b, h)

-- no class has a path to itself
abbrev pub HasNoRing : List Entry → Type 0
HasNoRing all = (a : ℕ) → Path all a a → ⊥

-- a ring leads through another class
ring_parts : {all : List Entry} {a : ℕ} → Path all a a → (b : ℕ) × (a ≢ b) × Path all a b × Path all b a
ring_parts {all} {a} (one h) = absurd (depends-apart all a a h refl)
ring_parts {all} {a} (onward {b = b} h p) = (b, depends-apart all a b h, one h, p)

-- a change that leaves patches and classes leaves rings as they are
keeps-rings : (g : Entry → Entry) (all : List Entry) → ((e : Entry) → (g e).patch ≡ e.patch) → ((e : Entry) → (g e).class ≡ e.class) → HasNoRing all → HasNoRing (map g all)
keeps-rings g all patch class free = λ a p. free a (Path-map (map g all) all links p)
  where
    links : (a b : ℕ) → class_depends (map g all) a b ≡ true → class_depends all a b ≡ true
    links a b h =
        let l = Link-at (map g all) a b h in
        let r = map-In g all l.from l.in_from in let s = map-In g all l.to l.in_to in
        let p : r.0.patch ≡ l.from.patch = sym (patch r.0) ∙ ap (λ x. x.patch) r.2 in
        let q : s.0.patch ≡ l.to.patch = sym (patch s.0) ∙ ap (λ x. x.patch) s.2 in
        let c : r.0.class ≡ a = sym (class r.0) ∙ ap (λ x. x.class) r.2 ∙ l.name_from in
        let d : s.0.class ≡ b = sym (class s.0) ∙ ap (λ x. x.class) s.2 ∙ l.name_to in
        subst (λ n. class_depends all n b ≡ true) c (subst (λ n. class_depends all r.0.class n ≡ true) d
        (Link-from all r.0 s.0 r.1 s.1 (λ e. depends-apart (map g all) a b h (sym c ∙ e ∙ d)) (subst (λ x. depends_directly x s.0.patch ≡ true) (sym p) (subst (λ x. depends_directly l.from.patch x ≡ true) (sym q) l.depends))))

-- A new patch: nothing depends on it.
module _ (es : List Entry) (new : Entry) (n : Numbered 0 es) (o : IsOrdered (es ++ new ∷ [])) (c : AreClasses es) (at : new.patch.no ≡ length es) (own : new.class ≡ length es) where
  number_below : (e : Entry) → In (es ++ new ∷ []) e → e.patch.no ≤ length es
  number_below e i = elim (In-push es new e i) [
    | inl g ↦ let below : e.patch.no < 0 + length es = Numbered-below 0 es n e g in omega arith
    | inr same ↦ let eq : new.patch.no ≡ e.patch.no = ap (λ x. x.patch.no) same in omega arith
  ]

  -- the far end of a direct dependency is older
  link_to : (a b : ℕ) (l : Link (es ++ new ∷ []) a b) → In es l.to
  link_to a b l = elim (In-push es new l.to l.in_to) [
    | inl g ↦ g
    | inr same ↦
        let eq : new.patch.no ≡ l.to.patch.no = ap (λ x. x.patch.no) same in
        let early : l.to.patch.no < l.from.patch.no = depends-earlier l.from l.to (o.earlier l.from l.in_from) l.depends in
        let low : l.from.patch.no ≤ length es = number_below l.from l.in_from in absurd (omega arith)
  ]

  target_below : (a b : ℕ) → class_depends (es ++ new ∷ []) a b ≡ true → b < length es
  target_below a b h =
      let l = Link-at (es ++ new ∷ []) a b h in
      let i = link_to a b l in
      let low : l.to.patch.no < 0 + length es = Numbered-below 0 es n l.to i in
      let name : l.to.class ≤ l.to.patch.no = c.named l.to i in
      let eq : l.to.class ≡ b = l.name_to in omega arith

  source_old : (a b : ℕ) → a < length es → class_depends (es ++ new ∷ []) a b ≡ true → class_depends es a b ≡ true
  source_old a b less h =
      let l = Link-at (es ++ new ∷ []) a b h in
      let i = link_to a b l in
      elim (In-push es new l.from l.in_from) [
        | inl g ↦ subst (λ m. class_depends es m b ≡ true) l.name_from (subst (λ m. class_depends es l.from.class m ≡ true) l.name_to (Link-from es l.from l.to g i (apart_in h l) l.depends))
        | inr same ↦ let eq : new.class ≡ l.from.class = ap (λ x. x.class) same in let eq2 : l.from.class ≡ a = l.name_from in absurd (omega arith)
      ]

  path_below : {a b : ℕ} → Path (es ++ new ∷ []) a b → b < length es
  path_below (one h) = target_below _ _ h
  path_below (onward h p) = path_below p

  path_old : {a b : ℕ} → a < length es → Path (es ++ new ∷ []) a b → Path es a b
  path_old less (one h) = one (source_old _ _ less h)
  path_old less (onward h p) = onward (source_old _ _ less h) (path_old (target_below _ _ h) p)

  HasNoRing-push : HasNoRing es → HasNoRing (es ++ new ∷ [])
  HasNoRing-push free = λ a p. free a (path_old (path_below p) p)

not_live : (x : Entry) → is_live x ≡ true → is_durable x ≡ true → ⊥
not_live x h d = let bad : false ≡ true = rw d at h in never bad

-- with a durable class each class at the end of a path from it is durable
module _ (all : List Entry) (o : IsOrdered all) (c : AreClasses all) where
  durable-alike : (e f : Entry) → In all e → In all f → e.class ≡ f.class → is_durable e ≡ true → is_durable f ≡ true
  durable-alike e f i j same h = rw (sym (c.alike e f i j same).mark) h

  pub durable_along : {a b : ℕ} → Path all a b → (e : Entry) → In all e → e.class ≡ a → is_durable e ≡ true → (f : Entry) × In all f × (f.class ≡ b) × (is_durable f ≡ true)
  durable_along (one h) e i at d =
      let l = Link-at all _ _ h in
      (l.to, l.in_to, l.name_to, (o.met l.from l.to l.in_from l.in_to l.depends).durable (durable-alike e l.from i l.in_from (at ∙ sym l.name_from) d))
  durable_along (onward h p) e i at d =
      let l = Link-at all _ _ h in
      durable_along p l.to l.in_to l.name_to ((o.met l.from l.to l.in_from l.in_to l.depends).durable (durable-alike e l.from i l.in_from (at ∙ sym l.name_from) d))

  -- what has a path to a class in memory is live
  live_before : {a b : ℕ} → Path all a b → (x : Entry) → In all x → x.class ≡ b → is_live x ≡ true → list_any (λ e. (e.class == a) && is_live e) all ≡ true
  live_before {a} {b} p x i at m =
      let first = Path-first p in
      let l = Link-at all a first.0 first.1 in
      elim (cases_Bool (is_durable l.from)) [
        | inl u ↦ let f = durable_along p l.from l.in_from l.name_from u in
            let done : is_durable x ≡ true = durable-alike f.0 x f.1 i (f.2 ∙ sym at) f.3 in absurd (not_live x m done)
        | inr u ↦ list_any-from (λ e. (e.class == a) && is_live e) all l.from l.in_from (and_from _ _ (same_name l.from.class a l.name_from) (rw u refl))
      ]

-- the name that a class has once a and b are joined
abbrev pub renamed : ℕ → ℕ → ℕ → ℕ
renamed a b n = if (n == a) || (n == b) then min a b else n

pub class-joined : (a b : ℕ) (e : Entry) → (joined a b e).class ≡ renamed a b e.class
class-joined a b e = elim (cases_Bool ((e.class == a) || (e.class == b))) [ inl u ↦ rw u refl | inr u ↦ rw u refl ]

-- one of the two
abbrev pub Either : ℕ → ℕ → ℕ → Type 0
Either a b n = (n ≡ a) ⊎ (n ≡ b)

pub either_test : (a b n : ℕ) → ((n == a) || (n == b)) ≡ true → Either a b n
either_test a b n t = elim (or_cases (n == a) (n == b) t) [ inl u ↦ inl (grind (arith, nat_tests)) | inr u ↦ inr (grind (arith, nat_tests)) ]

pub neither : (a b n : ℕ) → ((n == a) || (n == b)) ≡ false → Either a b n → ⊥
neither a b n t (inl e) = grind (arith, nat_tests)
neither a b n t (inr e) = grind (arith, nat_tests)

pub renamed_same : (a b x y : ℕ) → renamed a b x ≡ renamed a b y → (x ≡ y) ⊎ (Either a b x × Either a b y)
renamed_same a b x y = elim (cases_Bool ((x == a) || (x == b))) [
  | inl u ↦ elim (cases_Bool ((y == a) || (y == b))) [
    | inl v ↦ λ e. inr (either_test a b x u, either_test a b y v)
    | inr v ↦ rw (u, v) (λ e. absurd (let bad : ⊥ = grind (arith, nat_tests) in bad))
  ]
  | inr u ↦ elim (cases_Bool ((y == a) || (y == b))) [
    | inl v ↦ rw (u, v) (λ e. absurd (let bad : ⊥ = grind (arith, nat_tests) in bad))
    | inr v ↦ rw (u, v) (λ e. inl e)
  ]
]

both_renamed : (a b x y : ℕ) → ((x == a) || (x == b)) ≡ true → ((y == a) || (y == b)) ≡ true → renamed a b x ≡ renamed a b y
both_renamed a b x y u v = rw (u, v) refl

-- Two classes joined that have no third one between them.
module _ (all : List Entry) (a b : ℕ) (free : HasNoRing all) (closed : (z s t : ℕ) → (Either a b z → ⊥) → Either a b s → Either a b t → Path all t z → Path all z s → ⊥) where
  abbrev Out : ℕ → Type 0
  Out z = (s : ℕ) × Either a b s × Path all z s

  abbrev Into : ℕ → Type 0
  Into z = (t : ℕ) × Either a b t × Path all t z

  -- a path once they are one: through neither, or through both
  abbrev Way : ℕ → ℕ → Type 0
  Way x y = Path all x y ⊎ ((Either a b x ⊎ Out x) × (Either a b y ⊎ Into y))

  out_before : (x y : ℕ) → Path all x y → Either a b y ⊎ Out y → Either a b x ⊎ Out x
  out_before x y p (inl e) = inr (y, e, p)
  out_before x y p (inr o) = inr (o.0, o.1, Path-append p o.2)

  into_behind : (x y : ℕ) → Path all x y → Either a b x ⊎ Into x → Either a b y ⊎ Into y
  into_behind x y p (inl e) = inr (x, e, p)
  into_behind x y p (inr o) = inr (o.0, o.1, Path-append o.2 p)

  way_on : (x y z : ℕ) → Way x y → Way y z → Way x z
  way_on x y z (inl p) (inl q) = inl (Path-append p q)
  way_on x y z (inl p) (inr q) = inr (out_before x y p q.0, q.1)
  way_on x y z (inr p) (inl q) = inr (p.0, into_behind y z q p.1)
  way_on x y z (inr p) (inr q) = inr (p.0, q.1)

  -- a link, from and to whatever then has the same name
  way_link : (x y x0 y0 : ℕ) → class_depends all x0 y0 ≡ true → renamed a b x ≡ renamed a b x0 → renamed a b y ≡ renamed a b y0 → Way x y
  way_link x y x0 y0 h ex ey = elim (renamed_same a b x x0 ex) [
    | inl same ↦ let h' : class_depends all x y0 ≡ true = subst (λ n. class_depends all n y0 ≡ true) (sym same) h in elim (renamed_same a b y y0 ey) [
      | inl same2 ↦ inl (one (subst (λ n. class_depends all x n ≡ true) (sym same2) h'))
      | inr k ↦ inr (inr (y0, k.1, one h'), inl k.0)
    ]
    | inr j ↦ elim (renamed_same a b y y0 ey) [
      | inl same2 ↦ inr (inl j.0, inr (x0, j.1, one (subst (λ n. class_depends all x0 n ≡ true) (sym same2) h)))
      | inr k ↦ inr (inl j.0, inl k.0)
    ]
  ]

  -- a link among the joined classes is one between classes that then have these names
  link_beneath : (p q : ℕ) → class_depends (map (joined a b) all) p q ≡ true
      → (x : ℕ) × (y : ℕ) × (renamed a b x ≡ p) × (renamed a b y ≡ q) × (class_depends all x y ≡ true)
  link_beneath p q h =
      let l = Link-at (map (joined a b) all) p q h in
      let r = map-In (joined a b) all l.from l.in_from in let s = map-In (joined a b) all l.to l.in_to in
      let pr : r.0.patch ≡ l.from.patch = sym (patch-joined a b r.0) ∙ ap (λ x. x.patch) r.2 in
      let ps : s.0.patch ≡ l.to.patch = sym (patch-joined a b s.0) ∙ ap (λ x. x.patch) s.2 in
      let nr : renamed a b r.0.class ≡ p = sym (class-joined a b r.0) ∙ ap (λ x. x.class) r.2 ∙ l.name_from in
      let ns : renamed a b s.0.class ≡ q = sym (class-joined a b s.0) ∙ ap (λ x. x.class) s.2 ∙ l.name_to in (
        r.0.class,
        s.0.class,
        nr,
        ns,
        Link-from all r.0 s.0 r.1 s.1 (λ e. depends-apart (map (joined a b) all) p q h (sym nr ∙ ap (renamed a b) e ∙ ns)) (subst (λ x. depends_directly x s.0.patch ≡ true) (sym pr) (subst (λ x. depends_directly l.from.patch x ≡ true) (sym ps) l.depends)),
      )

  way_beneath : {p q : ℕ} → Path (map (joined a b) all) p q → (x y : ℕ) → renamed a b x ≡ p → renamed a b y ≡ q → Way x y
  way_beneath (one h) x y ex ey =
      let l = link_beneath _ _ h in
      way_link x y l.0 l.1 l.4 (ex ∙ sym l.2) (ey ∙ sym l.3)
  way_beneath (onward h p) x y ex ey =
      let l = link_beneath _ _ h in
      way_on x l.1 y (way_link x l.1 l.0 l.1 l.4 (ex ∙ sym l.2) refl) (way_beneath p l.1 y l.3 ey)

  apart_from : (z : ℕ) → (Either a b z → ⊥) → Either a b z ⊎ Out z → Either a b z ⊎ Into z → ⊥
  apart_from z out (inl e) i = out e
  apart_from z out (inr o) (inl e) = out e
  apart_from z out (inr o) (inr i) = closed z o.0 i.0 out o.1 i.1 i.2 o.2

  no_round : (x y : ℕ) → renamed a b x ≢ renamed a b y → Either a b x ⊎ Out x → Either a b x ⊎ Into x → Either a b y ⊎ Out y → Either a b y ⊎ Into y → ⊥
  no_round x y ne ox ix oy iy = elim (cases_Bool ((x == a) || (x == b))) [
    | inl u ↦ elim (cases_Bool ((y == a) || (y == b))) [
      | inl v ↦ ne (both_renamed a b x y u v)
      | inr v ↦ apart_from y (neither a b y v) oy iy
    ]
    | inr u ↦ apart_from x (neither a b x u) ox ix
  ]

  round : (x y : ℕ) → renamed a b x ≢ renamed a b y → Way x y → Way y x → ⊥
  round x y ne (inl p) (inl q) = free x (Path-append p q)
  round x y ne (inl p) (inr q) = no_round x y ne (out_before x y p q.0) q.1 q.0 (into_behind x y p q.1)
  round x y ne (inr p) (inl q) = no_round x y ne p.0 (into_behind y x q p.1) (out_before y x q p.0) p.1
  round x y ne (inr p) (inr q) = no_round x y ne p.0 q.1 q.0 p.1

  pub HasNoRing-joined : HasNoRing (map (joined a b) all)
  HasNoRing-joined = λ p ring.
      let r = ring_parts ring in
      let f = Path-first r.2 in let x = link_beneath p f.0 f.1 in
      let g = Path-first r.3 in let y = link_beneath r.0 g.0 g.1 in
      round x.0 y.0 (λ e. r.1 (sym x.2 ∙ e ∙ y.2)) (way_beneath r.2 x.0 y.0 x.2 y.2) (way_beneath r.3 y.0 x.0 y.2 x.2)

-- a legal merge leaves no third class between
module _ (all : List Entry) (a b : ℕ) (o : IsOrdered all) (c : AreClasses all) (free : HasNoRing all) (legal : IsLegalMerge all a b) where
  in_memory_at : (n : ℕ) → IsTrue (is_undoable_at all n) → (x : Entry) × In all x × (x.class ≡ class_of all n) × (is_memory x ≡ true)
  in_memory_at n h =
      let x = at_number 0 all n is_undoable h in
      let name : class_of all n ≡ x.0.class = rw (x.2, class_of) refl in
      (x.0, x.1, sym name, (and_parts (is_memory x.0) (not x.0.hard) x.3).0)

  none_closed : (z s t : ℕ) → (Either (class_of all a) (class_of all b) z → ⊥) → Either (class_of all a) (class_of all b) s → Either (class_of all a) (class_of all b) t
      → Path all t z → Path all z s → ⊥
  none_closed z s t out (inl es) (inl et) p q = free t (Path-append p (subst (λ n. Path all z n) (es ∙ sym et) q))
  none_closed z s t out (inr es) (inr et) p q = free t (Path-append p (subst (λ n. Path all z n) (es ∙ sym et) q))
  none_closed z s t out (inr es) (inl et) p q =
      let x = in_memory_at b legal.undoable_b in
      legal.none_between z (inl (record {
        live = live_before all o c q x.0 x.1 (x.2 ∙ sym es) (memory_live x.0.mark x.3);
        not_first = λ e. out (inl e);
        not_last = λ e. out (inr e);
        from = subst (λ n. Path all n z) et p;
        to = subst (λ n. Path all z n) es q;
      }))
  none_closed z s t out (inl es) (inr et) p q =
      let x = in_memory_at a legal.undoable_a in
      legal.none_between z (inr (record {
        live = live_before all o c q x.0 x.1 (x.2 ∙ sym es) (memory_live x.0.mark x.3);
        not_first = λ e. out (inr e);
        not_last = λ e. out (inl e);
        from = subst (λ n. Path all n z) et p;
        to = subst (λ n. Path all z n) es q;
      }))

  HasNoRing-merged : HasNoRing (map (joined (class_of all a) (class_of all b)) all)
  HasNoRing-merged = HasNoRing-joined all (class_of all a) (class_of all b) free none_closed

HasNoRing-after_step : (blocks : ℕ) (st : State) (step : Step) → IsLegalStep blocks st step → IsSettled blocks st → HasNoRing st.entries → HasNoRing (after_step st step).entries
HasNoRing-after_step blocks st (Create block begin bytes after undo) legal s free =
    let new : Entry = fresh st.entries (record { no = length st.entries; block = block; start = begin; bytes = bytes; after = after; undo = undo }) in
    HasNoRing-push st.entries new s.numbered (IsSettled-after_step blocks st (Create block begin bytes after undo) legal s).ordered s.classes refl refl free
HasNoRing-after_step blocks st (Merge a b) legal s free = HasNoRing-merged st.entries a b s.ordered s.classes free legal
HasNoRing-after_step blocks st (Send block) legal s free = keeps-rings (sent (ready st.entries block)) st.entries (patch-sent _) (class-sent _) free
HasNoRing-after_step blocks st (Complete block) legal s free = keeps-rings (landed block) st.entries (patch-landed block) (class-landed block) free

HasNoRing-after_steps : (blocks : ℕ) (st : State) (steps : List Step) → AreLegal blocks st steps → IsSettled blocks st → HasNoRing st.entries → HasNoRing (after_steps st steps).entries
HasNoRing-after_steps blocks st [] legal s free = free
HasNoRing-after_steps blocks st (x ∷ xs) legal s free =
    HasNoRing-after_steps blocks (after_step st x) xs legal.1 (IsSettled-after_step blocks st x legal.0 s) (HasNoRing-after_step blocks st x legal.0 s free)

none_at_first : {a b : ℕ} → Path [] a b → ⊥
none_at_first {a} {b} (one h) = never (and_parts (not (a == b)) false h).1
none_at_first (onward h p) = none_at_first p

pub no_ring : (run : Execution) → IsLegal run → HasNoRing (entries_of run)
no_ring run legal = HasNoRing-after_steps (length run.first) at_first run.steps legal.steps (settled_first (length run.first)) (λ a p. none_at_first p)

-- what a path leads from to a live class is live
pub live_paths : (run : Execution) (a b : ℕ) → IsLegal run → Path (entries_of run) a b → IsTrue (has_live (entries_of run) b) → IsTrue (has_live (entries_of run) a)
live_paths run a b legal p h =
    let s = IsSettled-run run legal in
    let x = list_any-at (λ e. (e.class == b) && is_live e) (entries_of run) h in
    let q = and_parts (x.0.class == b) (is_live x.0) x.2 in
    live_before (entries_of run) s.ordered s.classes p x.0 x.1 (grind (arith, nat_tests, q.0)) q.1

-- Patches that change one byte.
pub meet-depends : (e f : Entry) (place : ℕ) → e.patch.block ≡ f.patch.block → covers e.patch place ≡ true → covers f.patch place ≡ true → e.patch.no < f.patch.no
    → depends_directly f.patch e.patch ≡ true
meet-depends e f place block c d less =
    let p = and_parts (nat_le e.patch.start place) (nat_lt place (end e.patch)) c in
    let q = and_parts (nat_le f.patch.start place) (nat_lt place (end f.patch)) d in
    let over : nat_lt (max f.patch.start e.patch.start) (min (end f.patch) (end e.patch)) ≡ true = grind (arith, nat_tests, p.0, p.1, q.0, q.1) in
    let shared : shares_byte f.patch e.patch ≡ true = and_from _ _ (same_name f.patch.block e.patch.block (sym block)) over in
    or_last _ _ (and_from _ _ (grind (arith, nat_tests)) shared)

pub classes_under : (run : Execution) (place : ℕ) (e f : Entry) → IsLegal run → MeetAt (entries_of run) place e f → e.patch.no < f.patch.no → e.class ≢ f.class → IsClassUnder (entries_of run) e f
classes_under run place e f legal m less ne =
    let d = Link-from (entries_of run) f e (In-from_Contains _ f m.in_f) (In-from_Contains _ e m.in_e) (λ x. ne (sym x)) (meet-depends e f place m.block m.covers_e m.covers_f less) in
    record { depends = d; never_back = λ p. no_ring run legal e.class (Path-append p (one d)) }

pub classes_neighbours : (run : Execution) (place : ℕ) (e f g : Entry) → IsLegal run → MeetAt (entries_of run) place e f → MeetAt (entries_of run) place f g
    → e.patch.no < f.patch.no → f.patch.no < g.patch.no → e.class ≡ g.class → f.class ≡ e.class
classes_neighbours run place e f g legal m k less more same = elim (cases_Bool (f.class == e.class)) [
  | inl u ↦ grind (arith, nat_tests)
  | inr u ↦
      let other : f.class ≢ e.class = λ x. (let bad : ⊥ = grind (arith, nat_tests) in bad) in
      let d = Link-from (entries_of run) f e (In-from_Contains _ f m.in_f) (In-from_Contains _ e m.in_e) other (meet-depends e f place m.block m.covers_e m.covers_f less) in
      let h = Link-from (entries_of run) g f (In-from_Contains _ g k.in_f) (In-from_Contains _ f k.in_e) (λ x. other (sym x ∙ sym same)) (meet-depends f g place k.block k.covers_e k.covers_f more) in
      absurd (no_ring run legal f.class (Path-append (one d) (one (subst (λ n. class_depends (entries_of run) n f.class ≡ true) (sym same) h))))
]

-- at a byte the durable ones come first, then those in flight, then the hard ones in memory
pub marks_at_byte : (run : Execution) (place : ℕ) (e f : Entry) → IsLegal run → MeetAt (entries_of run) place e f → e.patch.no < f.patch.no → IsUnder f e
marks_at_byte run place e f legal m less = marks_closed run f e legal m.in_f m.in_e (meet-depends e f place m.block m.covers_e m.covers_f less)

pub members_alike : (run : Execution) (e f : Entry) → IsLegal run → Contains (entries_of run) e → Contains (entries_of run) f → e.class ≡ f.class → IsLike e f
members_alike run e f legal i j same =
    let a = (IsSettled-run run legal).classes.alike e f (In-from_Contains _ e i) (In-from_Contains _ f j) same in record { mark = a.mark; block = a.block; hard = a.hard }
