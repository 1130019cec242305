-- One more patch.
use Rattle.std.proofs.Common.{◌≡◌, ℕ, ◌+◌, ◌-◌, ◌<◌, ◌≤◌, ◌⊎◌, ◌∙◌, true, false, not, inl, inr, Bool, List, [], ◌∷◌, ◌++◌, length, map, take, drop, get_or, refl, sym, ap, arith, subst}
use Rattle.std.specs.Prelude.{◌==◌, ◌&&◌, ◌||◌, ◌≢◌, nat_lt, filter, slice_index_or, slice_range}
use Rattle.std.specs.List.{list_any, list_all}
use Rattle.std.proofs.lemmas.Bool.{cases_Bool, cases_lt, and_parts, and_left, and_right, and_from, or_left, or_right, or_cases, eqb-true, eq-eqb, ne_eqb, ltb-true, not_from_false, not-true, not-false, cond-false, false_from_ne_true}
use Rattle.std.proofs.lemmas.List.{get_or_append_left, get_or_push, length_push, places}
use Rattle.std.proofs.lemmas.List.Folds.{list_any-append}
use Rattle.std.specs.Cmp.{both_ways as same_bool}
use Rattle.patch_model.specs.Marked.{memory-not_durable}
use Rattle.patch_model.specs.Pile.{end, covers, lay, pile}
use Rattle.patch_model.specs.Dependency.{shares_byte, depends_directly}
use Rattle.patch_model.specs.Entry.{Entry, is_durable, is_memory, is_among}
use Rattle.patch_model.specs.Member.{In, list_any-at, list_any-from}
use Rattle.patch_model.specs.History.{History, without}
use Rattle.patch_view.proofs.Sets.{class_depends_on, none-held, never-from, ordered_on}
use Rattle.patch_view.specs.History.{IsCoherent, IsNext, laid, class_covers, class_names, comes_before, below}
use Rattle.patch_records.specs.Records.{Class, no_class}
use Rattle.patch_stacks.specs.State.{Block, class_at, new_class, with_laid, KeepsNames}
use Rattle.patch_view.specs.Meaning.{IsClassOf, NamesLive, IsBlockOf}
use Rattle.patch_model.specs.Laying.{covers-from}
use Rattle.patch_view.proofs.Chain.{same_byte, covering, before-at, before-from, length-by}
use Rattle.patch_records.proofs.Bytes.{range-at}

pub In-left : {X : Type 0} → (xs ys : List X) (x : X) → In xs x → In (xs ++ ys) x
In-left [] ys x i = absurd i
In-left (y ∷ xs) ys x (inl e) = inl e
In-left (y ∷ xs) ys x (inr i) = inr (In-left xs ys x i)

pub In-last : {X : Type 0} → (xs : List X) (x : X) → In (xs ++ x ∷ []) x
In-last [] x = inl refl
In-last (y ∷ xs) x = inr (In-last xs x)

pub In-push : {X : Type 0} → (xs : List X) (y x : X) → In (xs ++ y ∷ []) x → In xs x ⊎ (y ≡ x)
In-push [] y x (inl e) = inr e
In-push [] y x (inr i) = absurd i
In-push (z ∷ xs) y x (inl e) = inl (inl e)
In-push (z ∷ xs) y x (inr i) = elim (In-push xs y x i) [ inl j ↦ inl (inr j) | inr e ↦ inr e ]

pub any-push : {X : Type 0} (p : X → Bool) (xs : List X) (y : X) → p y ≡ false → list_any p (xs ++ y ∷ []) ≡ list_any p xs
any-push p [] y off = rw off refl
any-push p (x ∷ xs) y off = ap (λ z. p x || z) (any-push p xs y off)

pub all-push : {X : Type 0} (p : X → Bool) (xs : List X) (y : X) → p y ≡ true → list_all p (xs ++ y ∷ []) ≡ list_all p xs
all-push p [] y on = rw on refl
all-push p (x ∷ xs) y on = ap (λ z. p x && z) (all-push p xs y on)

pub any-same : {X : Type 0} (p q : X → Bool) (xs : List X) → ((x : X) → p x ≡ q x) → list_any p xs ≡ list_any q xs
any-same p q [] same = refl
any-same p q (x ∷ xs) same = let e : p x ≡ q x = same x in let r = any-same p q xs same in rw (e, r) refl

pub pile-out : (a : List ℕ) (es : List Entry) (e : Entry) (k : Entry → Bool) → k e ≡ false
    → pile a (map (λ g. g.patch) (filter k (es ++ e ∷ []))) ≡ pile a (map (λ g. g.patch) (filter k es))
pile-out a [] e k off = rw off refl
pile-out a (g ∷ es) e k off = elim (cases_Bool (k g)) [ inl u ↦ rw u (pile-out (lay a g.patch) es e k off) | inr u ↦ rw u (pile-out a es e k off) ]

pub pile-in : (a : List ℕ) (es : List Entry) (e : Entry) (k : Entry → Bool) → k e ≡ true
    → pile a (map (λ g. g.patch) (filter k (es ++ e ∷ []))) ≡ lay (pile a (map (λ g. g.patch) (filter k es))) e.patch
pile-in a [] e k on = rw on refl
pile-in a (g ∷ es) e k on = elim (cases_Bool (k g)) [ inl u ↦ rw u (pile-in (lay a g.patch) es e k on) | inr u ↦ rw u (pile-in a es e k on) ]

-- what covers a byte of the new history, in a class other than the new one
pub covers-laid : (h : History) (e : Entry) (c x : ℕ) → e.class ≢ c → class_covers (laid h e) c x ≡ class_covers h c x
covers-laid h e c x apart = any-push (λ f. f.class == c && covers f.patch x) h.entries e (and_left _ (covers e.patch x) (ne_eqb _ _ apart))

-- the byte under a class doesn't change
pub below-laid : (h : History) (e : Entry) (c x : ℕ) → IsCoherent h → IsNext h e → e.class ≢ c → class_covers h c x ≡ true
    → below (laid h e) c x ≡ below h c x
below-laid h e c x o next apart on =
    let r = covering h c x on in
    let off : comes_before (laid h e) c x e ≡ false = false_from_ne_true _ (λ t.
    let newer : r.0.patch.no < e.patch.no = next.newest r.0 r.1 in
    let older : e.patch.no < r.0.patch.no = before-at (laid h e) c x e r.0 t (In-left h.entries (e ∷ []) r.0 r.1) r.2 r.3 in omega arith) in
    ap (λ z. get_or z x 0) (pile-out h.first h.entries e (comes_before (laid h e) c x) off)
    ∙ same_byte h (comes_before (laid h e) c x) (comes_before h c x) x o (λ g i on_g.
    all-push (λ f. not (f.class == c && covers f.patch x) || nat_lt g.patch.no f.patch.no) h.entries e
    (or_left _ (nat_lt g.patch.no e.patch.no) (not_from_false _ (and_left _ (covers e.patch x) (ne_eqb _ _ apart)))))

-- the byte under the new class is the block's
pub below-new : (h : History) (e : Entry) (x : ℕ) → IsCoherent h → IsNext h e → e.class ≡ e.patch.no → covers e.patch x ≡ true
    → below (laid h e) e.class x ≡ get_or (without h []) x 0
below-new h e x o next own on =
    let off : comes_before (laid h e) e.class x e ≡ false = false_from_ne_true _ (λ t.
    let older : e.patch.no < e.patch.no = before-at (laid h e) e.class x e e t (In-last h.entries e) refl on in omega arith) in
    ap (λ z. get_or z x 0) (pile-out h.first h.entries e (comes_before (laid h e) e.class x) off)
    ∙ same_byte h (comes_before (laid h e) e.class x) _ x o (λ g i on_g.
    before-from (laid h e) e.class x g (λ f j is on_f. elim (In-push h.entries e f j) [
      | inr same ↦ subst (λ z. g.patch.no < z.patch.no) same (next.newest g i)
      | inl old ↦ let low : f.class ≤ f.patch.no = next.coherent.class_first f (In-left h.entries (e ∷ []) f old) in
          let newer : f.patch.no < e.patch.no = next.newest f old in absurd (omega arith)
    ]))

-- the name of a class of the old history is not the new number
pub name-older : (h : History) (e : Entry) (c : ℕ) → IsNext h e → list_any (λ f. f.class == c) h.entries ≡ true → c < e.patch.no
name-older h e c next known =
    let q = list_any-at _ h.entries known in
    let is : q.0.class ≡ c = eqb-true _ _ q.2 in
    let low : q.0.class ≤ q.0.patch.no = next.coherent.class_first q.0 (In-left h.entries (e ∷ []) q.0 q.1) in
    let newer : q.0.patch.no < e.patch.no = next.newest q.0 q.1 in omega arith

-- what an old class names doesn't change
names-laid : (h : History) (e : Entry) (c n : ℕ) → e.class ≢ c → class_names (laid h e) c n ≡ class_names h c n
names-laid h e c n apart = any-push (λ f. f.class == c && is_among f.patch.after n) h.entries e (and_left _ (is_among e.patch.after n) (ne_eqb _ _ apart))

-- an old class's record
pub old-class : (h : History) (e : Entry) (c : Class) → IsCoherent h → IsNext h e → e.class ≡ e.patch.no → IsClassOf h [] c → IsClassOf (laid h e) [] c
old-class h e c o next own r =
    let older : c.name < e.patch.no = name-older h e c.name next r.known in
    let apart : e.class ≢ c.name = (λ q. absurd (omega arith)) in
    record {
      known = any-push (λ f. f.class == c.name) h.entries e (ne_eqb _ _ apart) ∙ r.known;
      named_by_member = r.named_by_member;
      members = λ n. r.members n ∙ sym (any-push (λ f. f.patch.no == n && f.class == c.name) h.entries e (and_right (e.patch.no == n) _ (ne_eqb _ _ apart)));
      after = λ n t. names-laid h e c.name n apart ∙ r.after n t;
      marked = λ f i is. elim (In-push h.entries e f i) [ inl old ↦ r.marked f old is | inr same ↦ absurd (apart (ap (λ z. z.class) same ∙ is)) ];
      span = λ x. r.span x ∙ sym (covers-laid h e c.name x apart);
      flag = r.flag;
      some = r.some;
      fits = r.fits;
      long = r.long;
      no_saved = r.no_saved;
      saved = λ m x on. let off : c.taken ≡ false = r.flag in
          let old = r.saved m x on in
          rw off ((rw off at old) ∙ sym (below-laid h e c.name x o next apart (sym (r.span x) ∙ on)));
    }

memory-live : (e : Entry) → is_memory e ≡ true → is_durable e ≡ false
memory-live e m = memory-not_durable e.mark m

one-among : (m n : ℕ) → is_among (m ∷ []) n ≡ true → (m == n) ≡ true
one-among m n t = elim (or_cases (m == n) false t) [ inl u ↦ u | inr u ↦ absurd (cc) ]

-- no patch of the old history is in the new class
not_new : (h : History) (e f : Entry) → IsNext h e → e.class ≡ e.patch.no → In h.entries f → f.class ≢ e.class
not_new h e f next own i same =
    let low : f.class ≤ f.patch.no = next.coherent.class_first f (In-left h.entries (e ∷ []) f i) in
    let newer : f.patch.no < e.patch.no = next.newest f i in absurd (omega arith)

in_new : (h : History) (e f : Entry) → IsNext h e → e.class ≡ e.patch.no → In (laid h e).entries f → f.class ≡ e.class → e ≡ f
in_new h e f next own i is = elim (In-push h.entries e f i) [ inl old ↦ absurd (not_new h e f next own old is) | inr same ↦ same ]

-- the bytes of the new class are those of the patch
covers-new : (h : History) (e : Entry) (x : ℕ) → IsNext h e → e.class ≡ e.patch.no → class_covers (laid h e) e.patch.no x ≡ covers e.patch x
covers-new h e x next own = same_bool _ _
    (λ t. let q = list_any-at _ (laid h e).entries t in
    let p = and_parts _ _ q.2 in
    let same : e ≡ q.0 = in_new h e q.0 next own q.1 (eqb-true _ _ p.0 ∙ sym own) in
    subst (λ z. covers z.patch x ≡ true) (sym same) p.1)
    (λ t. list_any-from (λ f. f.class == e.patch.no && covers f.patch x) (laid h e).entries e (In-last h.entries e) (and_from _ _ (eq-eqb _ _ own) t))

-- the new class's record
pub own-class : (b : Block) (h : History) (e : Entry) → IsBlockOf b [] h → IsNext h e → e.class ≡ e.patch.no → is_memory e ≡ true
    → (all : List ℕ) → KeepsNames b e.patch.after all
    → (c : Class) → c ≡ new_class b e.patch.no e.patch.start e.patch.bytes all e.hard → IsClassOf (laid h e) [] c
own-class b h e r next own memory all names c is =
    let last = In-last h.entries e in
    let fits : end e.patch ≤ 4096 = next.coherent.fits e last in
    let some : 0 < length e.patch.bytes = next.coherent.some e last in
    let size : length b.bytes ≡ 4096 = ap length r.bytes ∙ length-by h (λ f. not (is_among [] f.class)) r.coherent in
    rw is (record {
      known = list_any-from (λ f. f.class == e.patch.no) (laid h e).entries e last (eq-eqb _ _ own);
      named_by_member = or_left _ false (eq-eqb e.patch.no e.patch.no refl);
      members = λ n. same_bool _ _
          (λ t. let q : e.patch.no ≡ n = eqb-true _ _ (one-among e.patch.no n t) in
          list_any-from (λ f. f.patch.no == n && f.class == e.patch.no) (laid h e).entries e last (and_from _ _ (eq-eqb _ _ q) (eq-eqb _ _ own)))
          (λ t. let q = list_any-at _ (laid h e).entries t in
          let p = and_parts _ _ q.2 in
          let same : e ≡ q.0 = in_new h e q.0 next own q.1 (eqb-true _ _ p.1 ∙ sym own) in
          or_left _ false (eq-eqb _ _ (ap (λ z. z.patch.no) same ∙ eqb-true _ _ p.0)));
      after = λ n t. list_any-from (λ f. f.class == e.patch.no && is_among f.patch.after n) (laid h e).entries e last (and_from _ _ (eq-eqb _ _ own) (names.from n t));
      marked = λ f i of. let same : e ≡ f = in_new h e f next own i (of ∙ sym own) in
          subst (λ z. (is_durable z ≡ false) × (is_memory z ≡ true) × (z.hard ≡ e.hard)) same (memory-live e memory, memory, refl);
      span = λ x. sym (covers-new h e x next own);
      flag = refl;
      some = omega arith;
      fits = fits;
      long = λ m. let soft : e.hard ≡ false = not-true _ m in
          let l : length (slice_range b.bytes e.patch.start (e.patch.start + length e.patch.bytes)) ≡ length e.patch.bytes = grind (arith, places) in
          rw soft (ap (λ n. e.patch.start + n) l);
      no_saved = λ m. let hard : e.hard ≡ true = not-false _ m in rw hard refl;
      saved = λ m x on. let soft : e.hard ≡ false = not-true _ m in
          let p : (e.patch.start ≤ x) × (x < end e.patch) = covers-from e.patch x on in
          ap (λ z. get_or z (x - e.patch.start) 0) (cond-false e.hard [] (slice_range b.bytes e.patch.start (end e.patch)) soft)
          ∙ range-at b.bytes e.patch.start (end e.patch) x p.0 p.1 (omega arith) ∙ ap (λ z. get_or z x 0) r.bytes
          ∙ sym (below-new h e x r.coherent next own on) ∙ ap (λ n. below (laid h e) n x) own;
    })

-- which of the old classes depend on which
depends-old : (h : History) (e : Entry) (a c : ℕ) → e.class ≢ a → e.class ≢ c → class_depends_on (laid h e) a c ≡ class_depends_on h a c
depends-old h e a c not_a not_c =
    any-push (λ g. g.class == a && list_any (λ f. f.class == c && depends_directly g.patch f.patch) (laid h e).entries) h.entries e
    (and_left _ (list_any (λ f. f.class == c && depends_directly e.patch f.patch) (laid h e).entries) (ne_eqb _ _ not_a))
    ∙ any-same (λ g. g.class == a && list_any (λ f. f.class == c && depends_directly g.patch f.patch) (laid h e).entries)
    (λ g. g.class == a && list_any (λ f. f.class == c && depends_directly g.patch f.patch) h.entries) h.entries
    (λ g. ap (λ z. g.class == a && z) (any-push (λ f. f.class == c && depends_directly g.patch f.patch) h.entries e
    (and_left _ (depends_directly g.patch e.patch) (ne_eqb _ _ not_c))))

-- no old class depends on the new one
depends-on_new : (h : History) (e : Entry) (a : ℕ) → IsNext h e → e.class ≡ e.patch.no → e.class ≢ a → class_depends_on (laid h e) a e.patch.no ≡ false
depends-on_new h e a next own not_a = false_from_ne_true (class_depends_on (laid h e) a e.patch.no) (λ t.
    let q = list_any-at (λ g. g.class == a && list_any (λ f. f.class == e.patch.no && depends_directly g.patch f.patch) (laid h e).entries) (laid h e).entries t in
    let p = and_parts (q.0.class == a) (list_any (λ f. f.class == e.patch.no && depends_directly q.0.patch f.patch) (laid h e).entries) q.2 in
    let s = list_any-at (λ f. f.class == e.patch.no && depends_directly q.0.patch f.patch) (laid h e).entries p.1 in
    let u = and_parts _ _ s.2 in
    let new : e ≡ s.0 = in_new h e s.0 next own s.1 (eqb-true _ _ u.0 ∙ sym own) in
    elim (In-push h.entries e q.0 q.1) [
      | inr same ↦ not_a (ap (λ z. z.class) same ∙ eqb-true _ _ p.0)
      | inl old ↦
          let newer : q.0.patch.no < e.patch.no = next.newest q.0 old in
          let goes : depends_directly q.0.patch e.patch ≡ true = subst (λ z. depends_directly q.0.patch z.patch ≡ true) (sym new) u.1 in
          elim (or_cases (is_among q.0.patch.after e.patch.no) (nat_lt e.patch.no q.0.patch.no && shares_byte q.0.patch e.patch) goes) [
            | inl v ↦ let w : e.patch.no < q.0.patch.no = next.coherent.named_earlier q.0 e.patch.no q.1 v in omega arith
            | inr v ↦ let w : e.patch.no < q.0.patch.no = ltb-true _ _ (and_parts (nat_lt e.patch.no q.0.patch.no) (shares_byte q.0.patch e.patch) v).0 in omega arith
          ]
    ])

-- what is at a place of a list with one more class
at_old : (cs : List Class) (c : Class) (i : ℕ) → i < length cs → slice_index_or (cs ++ c ∷ []) i no_class ≡ slice_index_or cs i no_class
at_old cs c i h = get_or_append_left cs (c ∷ []) no_class i h

at_new : (cs : List Class) (c : Class) (i : ℕ) → i ≡ length cs → slice_index_or (cs ++ c ∷ []) i no_class ≡ c
at_new cs c i e = get_or_push cs c no_class i (sym e)

which : (cs : List Class) (c : Class) (i : ℕ) → i < length (cs ++ c ∷ []) → (i < length cs) ⊎ (i ≡ length cs)
which cs c i h = let l = length_push cs c in elim (cases_lt i (length cs)) [ inl w ↦ inl w | inr p ↦ inr (omega arith) ]

-- what the new class names, its patch names
new-names : (h : History) (e : Entry) (n : ℕ) → IsNext h e → e.class ≡ e.patch.no → class_names (laid h e) e.patch.no n ≡ true → is_among e.patch.after n ≡ true
new-names h e n next own t =
    let q = list_any-at (λ f. f.class == e.patch.no && is_among f.patch.after n) (laid h e).entries t in
    let p = and_parts (q.0.class == e.patch.no) (is_among q.0.patch.after n) q.2 in
    let new : e ≡ q.0 = in_new h e q.0 next own q.1 (eqb-true _ _ p.0 ∙ sym own) in
    ap (λ f. is_among f.patch.after n) new ∙ p.1

-- no class names the new patch
never-named : (h : History) (e : Entry) (c n : ℕ) → IsNext h e → n ≡ e.patch.no → class_names (laid h e) c n ≡ true → ⊥
never-named h e c n next is t =
    let q = list_any-at (λ f. f.class == c && is_among f.patch.after n) (laid h e).entries t in
    let p = and_parts (q.0.class == c) (is_among q.0.patch.after n) q.2 in
    let later : n < q.0.patch.no = next.coherent.named_earlier q.0 n q.1 p.1 in
    elim (In-push h.entries e q.0 q.1) [
      | inl old ↦ let newer : q.0.patch.no < e.patch.no = next.newest q.0 old in absurd (omega arith)
      | inr same ↦ let one : e.patch.no ≡ q.0.patch.no = ap (λ z. z.patch.no) same in absurd (omega arith)
    ]

-- the records know what they have to of the numbers
lays-named : (b : Block) (h : History) (e : Entry) (c : Class) → IsBlockOf b [] h → IsNext h e → e.class ≡ e.patch.no → KeepsNames b e.patch.after c.after
    → c.name ≡ e.patch.no → c.members ≡ e.patch.no ∷ [] → (new : Block) → new.classes ≡ b.classes ++ c ∷ [] → NamesLive new (laid h e)
lays-named b h e c r next own names name members new is i j n h_i h_j on goes =
    let w_i : i < length (b.classes ++ c ∷ []) = rw is at h_i in
    let w_j : j < length (b.classes ++ c ∷ []) = rw is at h_j in
    let here : (k : ℕ) → k ≡ length b.classes → class_at new k ≡ c = (λ k q. ap (λ cs. slice_index_or cs k no_class) is ∙ at_new b.classes c k q) in
    let there : (k : ℕ) → k < length b.classes → class_at new k ≡ class_at b k = (λ k w. ap (λ cs. slice_index_or cs k no_class) is ∙ at_old b.classes c k w) in
    elim (which b.classes c j w_j) [
      | inr new_j ↦
          let one : is_among (e.patch.no ∷ []) n ≡ true = ap (λ ms. is_among ms n) (sym members) ∙ ap (λ d. is_among d.members n) (sym (here j new_j)) ∙ on in
          absurd (never-named h e (class_at new i).name n next (sym (eqb-true _ _ (one-among e.patch.no n one))) goes)
      | inl old_j ↦
          let member : is_among (class_at b j).members n ≡ true = ap (λ d. is_among d.members n) (sym (there j old_j)) ∙ on in
          elim (which b.classes c i w_i) [
            | inl old_i ↦
                let older : (class_at b i).name < e.patch.no = name-older h e (class_at b i).name next (r.classes i old_i).known in
                let apart : e.class ≢ (class_at b i).name = (λ q. absurd (omega arith)) in
                ap (λ d. is_among d.after n) (there i old_i) ∙ r.named i j n old_i old_j member
                (sym (names-laid h e (class_at b i).name n apart) ∙ ap (λ d. class_names (laid h e) d.name n) (sym (there i old_i)) ∙ goes)
            | inr new_i ↦
                ap (λ d. is_among d.after n) (here i new_i) ∙ names.live j n member
                (new-names h e n next own (ap (λ (k : ℕ). class_names (laid h e) k n) (sym name) ∙ ap (λ d. class_names (laid h e) d.name n) (sym (here i new_i)) ∙ goes))
          ]
    ]

pub lays : (b : Block) (h : History) (e : Entry) → IsBlockOf b [] h → IsNext h e → e.class ≡ e.patch.no → is_memory e ≡ true
    → (all : List ℕ) → KeepsNames b e.patch.after all
    → IsBlockOf (with_laid b e.patch.no e.patch.start e.patch.bytes all e.hard) [] (laid h e)
lays b h e r next own memory all names =
    let c : Class = new_class b e.patch.no e.patch.start e.patch.bytes all e.hard in
    let apart : (i : ℕ) → i < length b.classes → e.class ≢ (class_at b i).name = (λ i w q.
    let older : (class_at b i).name < e.patch.no = name-older h e (class_at b i).name next (r.classes i w).known in absurd (omega arith)) in
    let older : (i : ℕ) → i < length b.classes → (class_at b i).name < e.patch.no = (λ i w. name-older h e (class_at b i).name next (r.classes i w).known) in
    record {
      coherent = next.coherent;
      holds = none-held (laid h e);
      bytes = ap (λ z. take e.patch.start z ++ e.patch.bytes ++ drop (end e.patch) z) r.bytes
          ∙ sym (pile-in h.first h.entries e (λ f. not (is_among [] f.class)) refl);
      classes = λ i lt. elim (which b.classes c i lt) [
        | inl w ↦ rw (at_old b.classes c i w) (old-class h e (class_at b i) r.coherent next own (r.classes i w))
        | inr w ↦ own-class b h e r next own memory all names _ (at_new b.classes c i w)
      ];
      complete = λ f i low. list_any-append (λ d. d.name == f.class) b.classes (c ∷ []) ∙ (elim (In-push h.entries e f i) [
        | inl old ↦ or_left _ _ (r.complete f old low)
        | inr same ↦ or_right (list_any (λ d. d.name == f.class) b.classes) _ (or_left _ false (eq-eqb _ _ (sym own ∙ ap (λ z. z.class) same)))
      ]);
      distinct = λ i j h_i h_j same. elim (which b.classes c i h_i) [
        | inl w ↦ elim (which b.classes c j h_j) [
          | inl v ↦ r.distinct i j w v (sym (ap (λ z. z.name) (at_old b.classes c i w)) ∙ same ∙ ap (λ z. z.name) (at_old b.classes c j v))
          | inr v ↦ absurd (apart i w (own ∙ sym (sym (ap (λ z. z.name) (at_old b.classes c i w)) ∙ same ∙ ap (λ z. z.name) (at_new b.classes c j v))))
        ]
        | inr w ↦ elim (which b.classes c j h_j) [
          | inl v ↦ absurd (apart j v (own ∙ (sym (ap (λ z. z.name) (at_new b.classes c i w)) ∙ same ∙ ap (λ z. z.name) (at_old b.classes c j v))))
          | inr v ↦ w ∙ sym v
        ]
      ];
      named = lays-named b h e c r next own names refl refl (with_laid b e.patch.no e.patch.start e.patch.bytes all e.hard) refl;
      ordered = λ i j less h_j. elim (which b.classes c j h_j) [
        | inl v ↦ let w : i < length b.classes = omega arith in rw (at_old b.classes c i w, at_old b.classes c j v)
            (never-from (laid h e) _ _ (depends-old h e (class_at b i).name (class_at b j).name (apart i w) (apart j v) ∙ ordered_on r i j less v))
        | inr v ↦ let w : i < length b.classes = omega arith in rw (at_old b.classes c i w, at_new b.classes c j v)
            (never-from (laid h e) (class_at b i).name e.patch.no (depends-on_new h e (class_at b i).name next own (apart i w)))
      ];
    }
