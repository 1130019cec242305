-- Spans of a skyline, and one more laid over them.
use Rattle.std.proofs.Common.{◌≡◌, ◌≢◌, ℕ, zero, suc, ◌+◌, ◌-◌, ◌<◌, ◌≤◌, ◌⊎◌, ◌∙◌, inl, inr, true, false, List, [], ◌∷◌, ◌++◌, length, max, take, drop, refl, sym, ap, subst, arith, Option, Some, None}
use Rattle.std.specs.Prelude.{nat_le, nat_lt, slice_index_or, slice_set}
use Rattle.std.specs.List.{AllWithin, insert, slice_range, remove_range}
use Rattle.std.specs.List.Sorted.{IsPartitionedBy, IsPartitionPoint}
use Rattle.std.proofs.Math.Seq.{drop-cons}
use Rattle.std.proofs.lemmas.Bool.{cases_Bool, cases_eq, cases_lt, and_parts, and_from, lt-ltb, le-leb, ltb-true, leb-true, false_from_ne_true, both_ways}
use Rattle.std.proofs.lemmas.List.{take-append-drop, take-set, take_more, take_more_set, drop-set, drop-set-lt, get_or-set_other, get_or_default, length-set, length-append, length-take-le}
use Rattle.std.proofs.lemmas.List.Edits.{insert-append_right}
use Rattle.std.proofs.lemmas.Grind.{get_or-set_at}
use Rattle.patch_model.specs.Member.{In}
use Rattle.patch_skyline.specs.declared.skylines.Span.{Span}
use Rattle.patch_skyline.specs.Skyline.{has_byte, top_at, AreApart, IsCutAt, IsLaid, IsTopWithin, AreTops}

-- Members of lists that are put together.

In-left : {X : Type 0} → (xs ys : List X) (x : X) → In xs x → In (xs ++ ys) x
In-left [] ys x i = absurd i
In-left (y ∷ xs) ys x (inl e) = inl e
In-left (y ∷ xs) ys x (inr i) = inr (In-left xs ys x i)

In-right : {X : Type 0} → (xs ys : List X) (x : X) → In ys x → In (xs ++ ys) x
In-right [] ys x i = i
In-right (y ∷ xs) ys x i = inr (In-right xs ys x i)

In-parts : {X : Type 0} → (xs ys : List X) (x : X) → In (xs ++ ys) x → In xs x ⊎ In ys x
In-parts [] ys x i = inr i
In-parts (y ∷ xs) ys x (inl e) = inl (inl e)
In-parts (y ∷ xs) ys x (inr i) = elim (In-parts xs ys x i) [ inl j ↦ inl (inr j) | inr j ↦ inr j ]

-- The bytes of one span.

has-byte : (s : Span) (x : ℕ) → s.start ≤ x → x < s.stop → has_byte s x ≡ true
has-byte s x low high = and_from _ _ (le-leb s.start x low) (lt-ltb x s.stop high)

byte-of : (s : Span) (x : ℕ) → has_byte s x ≡ true → (s.start ≤ x) × (x < s.stop)
byte-of s x t = let p = and_parts (nat_le s.start x) (nat_lt x s.stop) t in (leb-true s.start x p.0, ltb-true x s.stop p.1)

no-byte : (s : Span) (x : ℕ) → (s.stop ≤ x) ⊎ (x < s.start) → has_byte s x ≡ false
no-byte s x off = false_from_ne_true _ (λ t. let p = byte-of s x t in let a = p.0 in let b = p.1 in elim off [ inl h ↦ omega arith | inr h ↦ omega arith ])

-- Who wrote a byte last, in a list and its parts.

none-at : (ss : List Span) (x : ℕ) → ((s : Span) → In ss s → has_byte s x ≡ false) → top_at ss x ≡ None
none-at [] x off = refl
none-at (s ∷ ss) x off = let h = off s (inl refl) in rw h (none-at ss x (λ t i. off t (inr i)))

top-behind : (front rear : List Span) (x : ℕ) → ((s : Span) → In front s → has_byte s x ≡ false) → top_at (front ++ rear) x ≡ top_at rear x
top-behind [] rear x off = refl
top-behind (s ∷ front) rear x off = let h = off s (inl refl) in rw h (top-behind front rear x (λ t i. off t (inr i)))

top-before : (front rear : List Span) (x : ℕ) → ((s : Span) → In rear s → has_byte s x ≡ false) → top_at (front ++ rear) x ≡ top_at front x
top-before [] rear x off = none-at rear x off
top-before (s ∷ front) rear x off = elim (cases_Bool (has_byte s x)) [ inl t ↦ rw t refl | inr t ↦ rw t (top-before front rear x off) ]

-- the two lists agree where what stands before them does
top-after : (front rear cs : List Span) (x : ℕ) → top_at rear x ≡ top_at cs x → top_at (front ++ rear) x ≡ top_at (front ++ cs) x
top-after [] rear cs x same = same
top-after (s ∷ front) rear cs x same = elim (cases_Bool (has_byte s x)) [ inl t ↦ rw t refl | inr t ↦ rw t (top-after front rear cs x same) ]

-- the span that shows a byte
top-in : (ss : List Span) (x n : ℕ) → top_at ss x ≡ Some n → (s : Span) × In ss s × (has_byte s x ≡ true) × (s.no ≡ n)
top-in [] x n at = absurd (cc)
top-in (s ∷ ss) x n at = elim (cases_Bool (has_byte s x)) [
  | inl t ↦ (s, inl refl, t, let h : ◌≡◌ {A = Option ℕ} (Some s.no) (Some n) = rw t at at in cc)
  | inr t ↦ let r = top-in ss x n (rw t at at) in (r.0, inr r.1, r.2, r.3)
]

apart-each : (ss : List Span) → AreApart ss → (s : Span) → In ss s → s.start < s.stop
apart-each [] a s i = absurd i
apart-each (t ∷ ss) a s (inl e) = subst (λ z. z.start < z.stop) e a.0
apart-each (t ∷ ss) a s (inr i) = apart-each ss a.2 s i

top-of : (ss : List Span) → AreApart ss → (s : Span) (x : ℕ) → In ss s → has_byte s x ≡ true → top_at ss x ≡ Some s.no
top-of [] a s x i t = absurd i
top-of (u ∷ ss) a s x (inl e) t = let h : has_byte u x ≡ true = ap (λ z. has_byte z x) e ∙ t in rw h (ap (λ z. Some z.no) e)
top-of (u ∷ ss) a s x (inr i) t =
    let p = (byte-of s x t).0 in
    let q = a.1 s i in
    let h = no-byte u x (inl (omega (arith, p, q))) in
    rw h (top-of ss a.2 s x i t)

-- Parts of spans that are apart.

apart-first : (front rear : List Span) → AreApart (front ++ rear) → AreApart front
apart-first [] rear a = tt
apart-first (s ∷ front) rear a = (a.0, (λ t i. a.1 t (In-left front rear t i)), apart-first front rear a.2)

apart-last : (front rear : List Span) → AreApart (front ++ rear) → AreApart rear
apart-last [] rear a = a
apart-last (s ∷ front) rear a = apart-last front rear a.2

apart-cross : (front rear : List Span) → AreApart (front ++ rear) → (s t : Span) → In front s → In rear t → s.stop ≤ t.start
apart-cross [] rear a s t i j = absurd i
apart-cross (u ∷ front) rear a s t (inl e) j = subst (λ z. z.stop ≤ t.start) e (a.1 t (In-right front rear t j))
apart-cross (u ∷ front) rear a s t (inr i) j = apart-cross front rear a.2 s t i j

apart-join : (front rear : List Span) → AreApart front → AreApart rear → ((s t : Span) → In front s → In rear t → s.stop ≤ t.start) → AreApart (front ++ rear)
apart-join [] rear a b c = b
apart-join (s ∷ front) rear a b c = (
  a.0,
  (λ t i. elim (In-parts front rear t i) [ inl j ↦ a.1 t j | inr j ↦ c s t (inl refl) j ]),
  apart-join front rear a.2 b (λ u t i j. c u t (inr i) j),
)

-- Places in them.

index-in : (ss : List Span) (k : ℕ) (d : Span) → k < length ss → In ss (slice_index_or ss k d)
index-in [] k d h = absurd (omega arith)
index-in (s ∷ ss) zero d h = inl refl
index-in (s ∷ ss) (suc k) d h = inr (index-in ss k d (omega arith))

in-index : (ss : List Span) (s : Span) → In ss s → (k : ℕ) × (k < length ss) × ((d : Span) → slice_index_or ss k d ≡ s)
in-index [] s i = absurd i
in-index (t ∷ ss) s (inl e) = (0, omega arith, λ d. e)
in-index (t ∷ ss) s (inr i) = let r = in-index ss s i in let h = r.1 in (suc r.0, omega (arith, h), r.2)

pub starts-rise : (ss : List Span) → AreApart ss → (i j : ℕ) (d : Span) → i ≤ j → j < length ss → (slice_index_or ss i d).start ≤ (slice_index_or ss j d).start
starts-rise [] a i j d low h = absurd (omega arith)
starts-rise (s ∷ ss) a zero zero d low h = omega arith
starts-rise (s ∷ ss) a zero (suc j) d low h = let p = a.0 in let q = a.1 (slice_index_or ss j d) (index-in ss j d (omega arith)) in omega (arith, p, q)
starts-rise (s ∷ ss) a (suc i) zero d low h = absurd (omega arith)
starts-rise (s ∷ ss) a (suc i) (suc j) d low h = starts-rise ss a.2 i j d (omega arith) (omega arith)

pub stops-rise : (ss : List Span) → AreApart ss → (i j : ℕ) (d : Span) → i ≤ j → j < length ss → (slice_index_or ss i d).stop ≤ (slice_index_or ss j d).stop
stops-rise [] a i j d low h = absurd (omega arith)
stops-rise (s ∷ ss) a zero zero d low h = omega arith
stops-rise (s ∷ ss) a zero (suc j) d low h =
    let i = index-in ss j d (omega arith) in
    let p = apart-each ss a.2 (slice_index_or ss j d) i in
    let q = a.1 (slice_index_or ss j d) i in
    omega (arith, p, q)
stops-rise (s ∷ ss) a (suc i) zero d low h = absurd (omega arith)
stops-rise (s ∷ ss) a (suc i) (suc j) d low h = stops-rise ss a.2 i j d (omega arith) (omega arith)

-- each ends before a later one begins
stops-before : (ss : List Span) → AreApart ss → (i j : ℕ) (d : Span) → i < j → j < length ss → (slice_index_or ss i d).stop ≤ (slice_index_or ss j d).start
stops-before [] a i j d low h = absurd (omega arith)
stops-before (s ∷ ss) a i zero d low h = absurd (omega arith)
stops-before (s ∷ ss) a zero (suc j) d low h = a.1 (slice_index_or ss j d) (index-in ss j d (omega arith))
stops-before (s ∷ ss) a (suc i) (suc j) d low h = stops-before ss a.2 i j d (omega arith) (omega arith)

pub parted-starts : (ss : List Span) (at : ℕ) → AreApart ss → IsPartitionedBy (λ s. nat_lt s.start at) ss
parted-starts ss at a i j d low within t =
    let r = starts-rise ss a i j d low within in
    let h = ltb-true (slice_index_or ss j d).start at t in
    lt-ltb (slice_index_or ss i d).start at (omega (arith, r, h))

pub parted-stops : (ss : List Span) (at : ℕ) → AreApart ss → IsPartitionedBy (λ s. nat_le s.stop at) ss
parted-stops ss at a i j d low within t =
    let r = stops-rise ss a i j d low within in
    let h = leb-true (slice_index_or ss j d).stop at t in
    le-leb (slice_index_or ss i d).stop at (omega (arith, r, h))

before-all : (P : Span → Type 0) (ss : List Span) (i : ℕ) → AllWithin P ss 0 i → (s : Span) → In (take i ss) s → P s
before-all P ss zero a s h = absurd h
before-all P [] (suc i) a s h = absurd h
before-all P (t ∷ ss) (suc i) a s (inl e) = subst P e (a 0 s (omega arith) (omega arith))
before-all P (t ∷ ss) (suc i) a s (inr h) = before-all P ss i (λ k d low high. a (suc k) d (omega arith) (omega arith)) s h

behind-all : (P : Span → Type 0) (ss : List Span) (i : ℕ) → AllWithin P ss i (length ss) → (s : Span) → In (drop i ss) s → P s
behind-all P [] zero a s h = absurd h
behind-all P [] (suc i) a s h = absurd h
behind-all P (t ∷ ss) zero a s (inl e) = subst P e (a 0 s (omega arith) (omega arith))
behind-all P (t ∷ ss) zero a s (inr h) = behind-all P ss zero (λ k d low high. a (suc k) d (omega arith) (omega arith)) s h
behind-all P (t ∷ ss) (suc i) a s h = behind-all P ss i (λ k d low high. a (suc k) d (omega arith) (omega arith)) s h

-- so many of the spans begin before the byte, or end before it
abbrev pub Begun : List Span → ℕ → ℕ → Type 0
Begun ss at i = IsPartitionPoint (λ s. s.start < at) (λ s. at ≤ s.start) ss i

abbrev pub Ended : List Span → ℕ → ℕ → Type 0
Ended ss at i = IsPartitionPoint (λ s. s.stop ≤ at) (λ s. at < s.stop) ss i

begun-before : (ss : List Span) (at i : ℕ) → Begun ss at i → (s : Span) → In (take i ss) s → s.start < at
begun-before ss at i p = before-all (λ s. s.start < at) ss i p.0

begun-behind : (ss : List Span) (at i : ℕ) → Begun ss at i → (s : Span) → In (drop i ss) s → at ≤ s.start
begun-behind ss at i p = behind-all (λ s. at ≤ s.start) ss i p.1

pub begun-by : (ss : List Span) (at i : ℕ) → IsPartitionPoint (λ s. nat_lt s.start at ≡ true) (λ s. nat_lt s.start at ≡ false) ss i → Begun ss at i
begun-by ss at i p = (
  (λ k d low h. ltb-true (slice_index_or ss k d).start at (p.0 k d low h)),
  (λ k d low h. elim (cases_lt (slice_index_or ss k d).start at) [ inl l ↦ absurd (both_ways _ (p.1 k d low h) (lt-ltb (slice_index_or ss k d).start at l)) | inr l ↦ l ]),
)

pub ended-by : (ss : List Span) (at i : ℕ) → IsPartitionPoint (λ s. nat_le s.stop at ≡ true) (λ s. nat_le s.stop at ≡ false) ss i → Ended ss at i
ended-by ss at i p = (
  (λ k d low h. leb-true (slice_index_or ss k d).stop at (p.0 k d low h)),
  (λ k d low h. elim (cases_lt at (slice_index_or ss k d).stop) [ inl l ↦ l | inr l ↦ absurd (both_ways _ (p.1 k d low h) (le-leb (slice_index_or ss k d).stop at l)) ]),
)

-- where the last one does, all do
all-begun : (ss : List Span) (at : ℕ) → AreApart ss → ((n : ℕ) → n + 1 ≡ length ss → (d : Span) → (slice_index_or ss n d).start < at) → (k : ℕ) (d : Span) → k < length ss → (slice_index_or ss k d).start < at
all-begun [] at a last k d h = absurd (omega arith)
all-begun (s ∷ []) at a last zero d h = last 0 (omega arith) d
all-begun (s ∷ []) at a last (suc k) d h = absurd (omega arith)
all-begun (s ∷ t ∷ ss) at a last zero d h =
    let low = a.0 in
    let next = a.1 t (inl refl) in
    let high = all-begun (t ∷ ss) at a.2 (λ n e. last (suc n) (omega (arith, e))) zero d (omega arith) in
    omega (arith, low, next, high)
all-begun (s ∷ t ∷ ss) at a last (suc k) d h = all-begun (t ∷ ss) at a.2 (λ n e. last (suc n) (omega (arith, e))) k d (omega arith)

all-ended : (ss : List Span) (at : ℕ) → AreApart ss → ((n : ℕ) → n + 1 ≡ length ss → (d : Span) → (slice_index_or ss n d).stop ≤ at) → (k : ℕ) (d : Span) → k < length ss → (slice_index_or ss k d).stop ≤ at
all-ended [] at a last k d h = absurd (omega arith)
all-ended (s ∷ []) at a last zero d h = last 0 (omega arith) d
all-ended (s ∷ []) at a last (suc k) d h = absurd (omega arith)
all-ended (s ∷ t ∷ ss) at a last zero d h =
    let next = a.1 t (inl refl) in
    let low = a.2.0 in
    let high = all-ended (t ∷ ss) at a.2 (λ n e. last (suc n) (omega (arith, e))) zero d (omega arith) in
    omega (arith, low, next, high)
all-ended (s ∷ t ∷ ss) at a last (suc k) d h = all-ended (t ∷ ss) at a.2 (λ n e. last (suc n) (omega (arith, e))) k d (omega arith)

pub begun-all : (ss : List Span) (at : ℕ) → AreApart ss → ((n : ℕ) → n + 1 ≡ length ss → (d : Span) → (slice_index_or ss n d).start < at) → Begun ss at (length ss)
begun-all ss at a last = ((λ k d low h. all-begun ss at a last k d h), (λ k d low h. absurd (omega (arith, low, h))))

pub ended-all : (ss : List Span) (at : ℕ) → AreApart ss → ((n : ℕ) → n + 1 ≡ length ss → (d : Span) → (slice_index_or ss n d).stop ≤ at) → Ended ss at (length ss)
ended-all ss at a last = ((λ k d low h. all-ended ss at a last k d h), (λ k d low h. absurd (omega (arith, low, h))))

-- where the last one alone ends behind the byte
pub ended-last : (ss : List Span) (at : ℕ) → AreApart ss → 0 < length ss → ((d : Span) → ((slice_index_or ss (length ss - 1) d).start ≤ at) × (at < (slice_index_or ss (length ss - 1) d).stop))
    → Ended ss at (length ss - 1)
ended-last ss at a some last = (
  (λ k d low h. let p = stops-before ss a k (length ss - 1) d h (omega arith) in let l = (last d).0 in omega (arith, p, l)),
  (λ k d low h. let e : length ss - 1 ≡ k = omega (arith, low, h) in subst (λ m. at < (slice_index_or ss m d).stop) e (last d).1),
)

-- where one doesn't, none behind it does
pub begun-until : (ss : List Span) (at i : ℕ) (e : Span) → AreApart ss → AllWithin (λ s. s.start < at) ss 0 i → i < length ss → at ≤ (slice_index_or ss i e).start → Begun ss at i
begun-until ss at i e a all within high = (
  all,
  (λ k d low h. let r = starts-rise ss a i k d low h in let f = subst (λ z. at ≤ z.start) (get_or_default ss i e d within) high in omega (arith, r, f)),
)

-- Where a span is laid over a part of another.

-- the list at a place
split-at : (ss : List Span) (i : ℕ) (d : Span) → i < length ss → ss ≡ take i ss ++ slice_index_or ss i d ∷ drop (i + 1) ss
split-at ss i d h =
    let next : suc i ≡ i + 1 = omega arith in
    sym (take-append-drop i ss) ∙ ap (λ z. take i ss ++ z) (drop-cons ss i d h) ∙ ap (λ n. take i ss ++ slice_index_or ss i d ∷ drop n ss) next

append-one : (front : List Span) (s : Span) (rear : List Span) → (front ++ s ∷ []) ++ rear ≡ front ++ s ∷ rear
append-one [] s rear = refl
append-one (t ∷ front) s rear = ap (λ z. t ∷ z) (append-one front s rear)

-- one span takes the place of another
set-at : (ss : List Span) (i : ℕ) (s : Span) → i < length ss → slice_set ss i s ≡ take i ss ++ s ∷ drop (i + 1) ss
set-at ss i s h = sym (take-append-drop i (slice_set ss i s)) ∙ ap (λ z. z ++ drop i (slice_set ss i s)) (take-set ss i s) ∙ ap (λ z. take i ss ++ z) (drop-set ss i s h)

each-at : (ss : List Span) → AreApart ss → (k : ℕ) (d : Span) → k < length ss → (slice_index_or ss k d).start < (slice_index_or ss k d).stop
each-at ss a k d h = apart-each ss a (slice_index_or ss k d) (index-in ss k d h)

-- a span that is laid over the others takes its bytes from another
pub record IsTrimmed (old new : List Span) (top : Span) (at : ℕ) : Type 0 where
  pub beside : (x : ℕ) → has_byte top x ≡ false → top_at new x ≡ top_at old x
  pub apart : AreApart new
  pub cut : IsCutAt at new

-- from one that begins before it
trims-stop : (front rear : List Span) (s top : Span) → AreApart (front ++ s ∷ rear) → s.start < top.start → top.start < s.stop → s.stop ≤ top.stop
    → IsTrimmed (front ++ s ∷ rear) (front ++ record s { stop = top.start } ∷ rear) top top.start
trims-stop front rear s top a low high within = record {
  beside = λ x t. top-after front (record s { stop = top.start } ∷ rear) (s ∷ rear) x (same x t);
  apart = apart-join front (record s { stop = top.start } ∷ rear) (apart-first front (s ∷ rear) a)
      (low, (λ t i. let q = b.1 t i in omega (arith, q, high)), b.2)
      (λ u t i j. elim j [
        | inl e ↦ subst (λ z. u.stop ≤ z.start) e (apart-cross front (s ∷ rear) a u s i (inl refl))
        | inr k ↦ apart-cross front (s ∷ rear) a u t i (inr k)
      ]);
  cut = λ t i. elim (In-parts front (record s { stop = top.start } ∷ rear) t i) [
    | inl j ↦ let c = apart-cross front (s ∷ rear) a t s j (inl refl) in inl (omega (arith, c, low))
    | inr j ↦ elim j [
      | inl e ↦ inl (subst (λ z. z.stop ≤ top.start) e (omega arith))
      | inr k ↦ let q = b.1 t k in inr (omega (arith, q, high))
    ]
  ];
}
  where
    b : AreApart (s ∷ rear)
    b = apart-last front (s ∷ rear) a

    same : (x : ℕ) → has_byte top x ≡ false → top_at (record s { stop = top.start } ∷ rear) x ≡ top_at (s ∷ rear) x
    same x t = elim (cases_Bool (has_byte s x)) [
      | inl u ↦
          let p = (byte-of s x u).0 in let q = (byte-of s x u).1 in
          elim (cases_lt x top.start) [
            | inl l ↦ let h = has-byte (record s { stop = top.start }) x p l in rw (h, u) refl
            | inr l ↦ absurd (both_ways _ t (has-byte top x l (omega (arith, q, within))))
          ]
      | inr u ↦
          let h : has_byte (record s { stop = top.start }) x ≡ false = false_from_ne_true _ (λ v. let p = byte-of (record s { stop = top.start }) x v in let y = p.0 in let z = p.1 in both_ways _ u (has-byte s x y (omega (arith, z, high)))) in
          rw (h, u) refl
    ]

-- from one that ends behind it
trims-start : (front rear : List Span) (s top : Span) → AreApart (front ++ s ∷ rear) → top.start ≤ s.start → s.start < top.stop → top.stop < s.stop
    → IsTrimmed (front ++ s ∷ rear) (front ++ record s { start = top.stop } ∷ rear) top top.stop
trims-start front rear s top a within low high = record {
  beside = λ x t. top-after front (record s { start = top.stop } ∷ rear) (s ∷ rear) x (same x t);
  apart = apart-join front (record s { start = top.stop } ∷ rear) (apart-first front (s ∷ rear) a)
      (high, b.1, b.2)
      (λ u t i j. let c = apart-cross front (s ∷ rear) a u s i (inl refl) in elim j [
        | inl e ↦ subst (λ z. u.stop ≤ z.start) e (omega (arith, c, low))
        | inr k ↦ apart-cross front (s ∷ rear) a u t i (inr k)
      ]);
  cut = λ t i. elim (In-parts front (record s { start = top.stop } ∷ rear) t i) [
    | inl j ↦ let c = apart-cross front (s ∷ rear) a t s j (inl refl) in inl (omega (arith, c, low))
    | inr j ↦ elim j [
      | inl e ↦ inr (subst (λ z. top.stop ≤ z.start) e (omega arith))
      | inr k ↦ let q = b.1 t k in inr (omega (arith, q, high))
    ]
  ];
}
  where
    b : AreApart (s ∷ rear)
    b = apart-last front (s ∷ rear) a

    same : (x : ℕ) → has_byte top x ≡ false → top_at (record s { start = top.stop } ∷ rear) x ≡ top_at (s ∷ rear) x
    same x t = elim (cases_Bool (has_byte s x)) [
      | inl u ↦
          let p = (byte-of s x u).0 in let q = (byte-of s x u).1 in
          elim (cases_lt x top.stop) [
            | inl l ↦ absurd (both_ways _ t (has-byte top x (omega (arith, p, within)) l))
            | inr l ↦ let h = has-byte (record s { start = top.stop }) x l q in rw (h, u) refl
          ]
      | inr u ↦
          let h : has_byte (record s { start = top.stop }) x ≡ false = false_from_ne_true _ (λ v. let p = byte-of (record s { start = top.stop }) x v in let y = p.0 in let z = p.1 in both_ways _ u (has-byte s x (omega (arith, y, low)) z)) in
          rw (h, u) refl
    ]

-- where no span lies across the beginning of the one that is laid, none does afterwards
keeps-start : (front rear : List Span) (s top : Span) → top.start < top.stop → IsCutAt top.start (front ++ s ∷ rear) → IsCutAt top.start (front ++ record s { start = top.stop } ∷ rear)
keeps-start front rear s top some k t i = elim (In-parts front (record s { start = top.stop } ∷ rear) t i) [
  | inl j ↦ k t (In-left front (s ∷ rear) t j)
  | inr j ↦ elim j [
    | inl e ↦ inr (subst (λ z. top.start ≤ z.start) e (omega arith))
    | inr l ↦ k t (In-right front (s ∷ rear) t (inr l))
  ]
]

-- the list with the span at a place in its parts
whole-at : (ss : List Span) (i : ℕ) (s : Span) → i < length ss → s ≡ slice_index_or ss i s → ss ≡ take i ss ++ s ∷ drop (i + 1) ss
whole-at ss i s h is = split-at ss i s h ∙ ap (λ z. take i ss ++ z ∷ drop (i + 1) ss) (sym is)

-- the first one that isn't behind it begins before it
pub stop-trimmed : (ss : List Span) (top s : Span) (i : ℕ) → AreApart ss → i < length ss → s ≡ slice_index_or ss i s → Ended ss top.start i → s.start < top.start → s.stop ≤ top.stop
    → IsTrimmed ss (slice_set ss i (record s { stop = top.start })) top top.start
stop-trimmed ss top s i a h is p low within =
    let whole = whole-at ss i s h is in
    let high : top.start < s.stop = subst (λ z. top.start < z.stop) (sym is) (p.1 i s (omega arith) h) in
    subst (λ z. IsTrimmed z (slice_set ss i (record s { stop = top.start })) top top.start) (sym whole)
    (subst (λ z. IsTrimmed (take i ss ++ s ∷ drop (i + 1) ss) z top top.start) (sym (set-at ss i (record s { stop = top.start }) h))
    (trims-stop (take i ss) (drop (i + 1) ss) s top (subst AreApart whole a) low high within))

-- the last one that isn't before it ends behind it
start-parts : (ss : List Span) (top s : Span) (i : ℕ) → i < length ss → s ≡ slice_index_or ss i s → IsCutAt top.start ss → Begun ss top.stop (i + 1) → top.start < top.stop → top.stop < s.stop
    → (top.start ≤ s.start) × (s.start < top.stop)
start-parts ss top s i h is c p some high = (
  (elim (c s (subst (λ z. In ss z) (sym is) (index-in ss i s h))) [ inl l ↦ absurd (omega (arith, l, some, high)) | inr l ↦ l ]),
  subst (λ z. z.start < top.stop) (sym is) (p.0 i s (omega arith) (omega arith)),
)

start-trimmed : (ss : List Span) (top s : Span) (i : ℕ) → AreApart ss → i < length ss → s ≡ slice_index_or ss i s → IsCutAt top.start ss → Begun ss top.stop (i + 1) → top.start < top.stop → top.stop < s.stop
    → IsTrimmed ss (slice_set ss i (record s { start = top.stop })) top top.stop
start-trimmed ss top s i a h is c p some high =
    let whole = whole-at ss i s h is in
    let parts = start-parts ss top s i h is c p some high in
    subst (λ z. IsTrimmed z (slice_set ss i (record s { start = top.stop })) top top.stop) (sym whole)
    (subst (λ z. IsTrimmed (take i ss ++ s ∷ drop (i + 1) ss) z top top.stop) (sym (set-at ss i (record s { start = top.stop }) h))
    (trims-start (take i ss) (drop (i + 1) ss) s top (subst AreApart whole a) parts.0 parts.1 high))

start-kept : (ss : List Span) (top s : Span) (i : ℕ) → i < length ss → s ≡ slice_index_or ss i s → IsCutAt top.start ss → top.start < top.stop → IsCutAt top.start (slice_set ss i (record s { start = top.stop }))
start-kept ss top s i h is c some =
    subst (IsCutAt top.start) (sym (set-at ss i (record s { start = top.stop }) h))
    (keeps-start (take i ss) (drop (i + 1) ss) s top some (subst (IsCutAt top.start) (whole-at ss i s h is) c))

pub trimmed-start : (ss : List Span) (top s : Span) (last : ℕ) → AreApart ss → last ≢ 0 → last ≤ length ss → s ≡ slice_index_or ss (last - 1) s → IsCutAt top.start ss → Begun ss top.stop last → top.start < top.stop
    → top.stop < s.stop → IsTrimmed ss (slice_set ss (last - 1) (record s { start = top.stop })) top top.stop
trimmed-start ss top s last a more within is c p some high =
    let e : last ≡ last - 1 + 1 = omega arith in
    start-trimmed ss top s (last - 1) a (omega arith) is c (subst (Begun ss top.stop) e p) some high

pub kept-start : (ss : List Span) (top s : Span) (last : ℕ) → last ≢ 0 → last ≤ length ss → s ≡ slice_index_or ss (last - 1) s → IsCutAt top.start ss → top.start < top.stop
    → IsCutAt top.start (slice_set ss (last - 1) (record s { start = top.stop }))
kept-start ss top s last more within is c some = start-kept ss top s (last - 1) (omega arith) is c some

-- How many of the spans begin before either end of the one that is laid, then.

pub stop-begun : (ss : List Span) (top s : Span) (i : ℕ) → AreApart ss → i < length ss → s ≡ slice_index_or ss i s → Ended ss top.start i → s.start < top.start
    → Begun (slice_set ss i (record s { stop = top.start })) top.start (i + 1)
stop-begun ss top s i a h is p low = (
  (λ k d from to. elim (cases_lt k i) [
    | inl l ↦
        let e = get_or-set_other ss i k (record s { stop = top.start }) d (λ same. absurd (omega (arith, same, l))) in
        let f = p.0 k d from l in
        let g = each-at ss a k d (omega (arith, l, h)) in
        subst (λ z. z.start < top.start) (sym e) (omega (arith, f, g))
    | inr l ↦
        let e = get_or-set_at ss i k (record s { stop = top.start }) d (omega (arith, l, to)) h in
        subst (λ z. z.start < top.start) (sym e) low
  ]),
  (λ k d from to.
      let within : k < length ss = subst (λ n. k < n) (length-set ss i (record s { stop = top.start })) to in
      let e = get_or-set_other ss i k (record s { stop = top.start }) d (λ same. absurd (omega (arith, same, from))) in
      let f = p.1 i d (omega arith) h in
      let g = stops-before ss a i k d (omega (arith, from)) within in
      subst (λ z. top.start ≤ z.start) (sym e) (omega (arith, f, g))),
)

-- the first one that isn't behind it begins where it does, or later
pub begun-ended : (ss : List Span) (top s : Span) (i : ℕ) → AreApart ss → i < length ss → s ≡ slice_index_or ss i s → Ended ss top.start i → top.start ≤ s.start → Begun ss top.start i
begun-ended ss top s i a h is p low = (
  (λ k d from to. let f = p.0 k d from to in let g = each-at ss a k d (omega (arith, to, h)) in omega (arith, f, g)),
  (λ k d from to. let f = starts-rise ss a i k s from to in let g = subst (λ z. top.start ≤ z.start) is low in
      subst (λ z. top.start ≤ z.start) (get_or_default ss k s d to) (omega (arith, f, g))),
)

pub cut-ended : (ss : List Span) (top : Span) (i : ℕ) → Ended ss top.start i → Begun ss top.start i → IsCutAt top.start ss
cut-ended ss top i p q t j = elim (In-parts (take i ss) (drop i ss) t (subst (λ z. In z t) (sym (take-append-drop i ss)) j)) [
  | inl k ↦ inl (before-all (λ s. s.stop ≤ top.start) ss i p.0 t k)
  | inr k ↦ inr (begun-behind ss top.start i q t k)
]

-- those that begin before its first byte do so still
start-begun : (ss : List Span) (top s : Span) (i low : ℕ) → i < length ss → s ≡ slice_index_or ss i s → top.start ≤ s.start → top.start < top.stop → Begun ss top.start low
    → Begun (slice_set ss i (record s { start = top.stop })) top.start low
start-begun ss top s i low h is within some p = (
  (λ k d from to.
      let f = p.0 k d from to in
      let e = get_or-set_other ss i k (record s { start = top.stop }) d
      (λ same. let g = subst (λ z. top.start ≤ z.start) (is ∙ get_or_default ss i s d h ∙ ap (λ n. slice_index_or ss n d) (sym same)) within in absurd (omega (arith, f, g))) in
      subst (λ z. z.start < top.start) (sym e) f),
  (λ k d from to.
      let inside : k < length ss = subst (λ n. k < n) (length-set ss i (record s { start = top.stop })) to in
      elim (cases_eq k i) [
        | inl same ↦ subst (λ z. top.start ≤ z.start) (sym (get_or-set_at ss i k (record s { start = top.stop }) d same h)) (omega arith)
        | inr other ↦ subst (λ z. top.start ≤ z.start) (sym (get_or-set_other ss i k (record s { start = top.stop }) d other)) (p.1 k d from inside)
      ]),
)

pub begun-start : (ss : List Span) (top s : Span) (last low : ℕ) → last ≢ 0 → last ≤ length ss → s ≡ slice_index_or ss (last - 1) s → IsCutAt top.start ss → Begun ss top.stop last → top.start < top.stop
    → top.stop < s.stop → Begun ss top.start low → Begun (slice_set ss (last - 1) (record s { start = top.stop })) top.start low
begun-start ss top s last low more within is c p some high q =
    let e : last ≡ last - 1 + 1 = omega arith in
    start-begun ss top s (last - 1) low (omega arith) is (start-parts ss top s (last - 1) (omega arith) is c (subst (Begun ss top.stop) e p) some high).0 some q

-- Where no span lies across a byte's beginning.

-- the last one that begins before it ends before it, too
cut-not : (ss : List Span) (at i : ℕ) (s d : Span) → AreApart ss → Begun ss at (i + 1) → i < length ss → slice_index_or ss i d ≡ s → s.stop ≤ at → IsCutAt at ss
cut-not ss at i s d a p h is high t j =
    let low : s.start < at = subst (λ z. z.start < at) is (p.0 i d (omega arith) (omega arith)) in
    let whole : ss ≡ take i ss ++ s ∷ drop (i + 1) ss = split-at ss i d h ∙ ap (λ z. take i ss ++ z ∷ drop (i + 1) ss) is in
    elim (In-parts (take i ss) (s ∷ drop (i + 1) ss) t (subst (λ z. In z t) whole j)) [
      | inl k ↦ let c = apart-cross (take i ss) (s ∷ drop (i + 1) ss) (subst AreApart whole a) t s k (inl refl) in inl (omega (arith, c, low))
      | inr k ↦ elim k [
        | inl e ↦ inl (subst (λ z. z.stop ≤ at) e high)
        | inr l ↦ inr (begun-behind ss at (i + 1) p t l)
      ]
    ]

pub cut-not-behind : (ss : List Span) (at behind : ℕ) (s : Span) → AreApart ss → Begun ss at behind → behind ≢ 0 → behind ≤ length ss → s ≡ slice_index_or ss (behind - 1) s → s.stop ≤ at → IsCutAt at ss
cut-not-behind ss at behind s a p some within is low =
    let e : behind ≡ behind - 1 + 1 = omega arith in
    cut-not ss at (behind - 1) s s a (subst (Begun ss at) e p) (omega arith) (sym is) low

-- or there is none
cut-none : (ss : List Span) (at : ℕ) → Begun ss at 0 → IsCutAt at ss
cut-none ss at p t i = inr (begun-behind ss at 0 p t i)

pub cut-none-behind : (ss : List Span) (at behind : ℕ) → Begun ss at behind → behind ≡ 0 → IsCutAt at ss
cut-none-behind ss at behind p none = cut-none ss at (subst (Begun ss at) none p)

-- A span in the place of those that it covers.

pub record IsCovered (old new : List Span) (top : Span) : Type 0 where
  pub laid : IsLaid old new top
  pub apart : AreApart new

-- between those that end before it and those that begin behind it
laid-between : (ss : List Span) (top : Span) (first last : ℕ) → AreApart ss → top.start < top.stop
    → ((s : Span) → In (take first ss) s → s.stop ≤ top.start) → ((s : Span) → In (drop first ss) s → top.start ≤ s.start)
    → ((s : Span) → In (take last ss) s → s.stop ≤ top.stop) → ((s : Span) → In (drop last ss) s → top.stop ≤ s.start)
    → IsCovered ss (take first ss ++ top ∷ drop last ss) top
laid-between ss top first last a some ends from ends-last behind = record {
  laid = record {
    here = λ x t. let b = byte-of top x t in let low = b.0 in
        top-behind (take first ss) (top ∷ drop last ss) x (λ s i. let e = ends s i in no-byte s x (inl (omega (arith, e, low)))) ∙ (rw t refl);
    beside = λ x t. elim (cases_lt x top.start) [
      | inl l ↦
          top-before (take first ss) (top ∷ drop last ss) x (λ s i. elim i [
            | inl e ↦ subst (λ z. has_byte z x ≡ false) e t
            | inr j ↦ let b = behind s j in no-byte s x (inr (omega (arith, b, l, some)))
          ])
          ∙ sym (ap (λ z. top_at z x) (sym (take-append-drop first ss)) ∙ top-before (take first ss) (drop first ss) x (λ s i. let b = from s i in no-byte s x (inr (omega (arith, b, l)))))
      | inr l ↦
          let high : top.stop ≤ x = elim (cases_lt x top.stop) [ inl h ↦ absurd (both_ways _ t (has-byte top x l h)) | inr h ↦ h ] in
          top-behind (take first ss) (top ∷ drop last ss) x (λ s i. let e = ends s i in no-byte s x (inl (omega (arith, e, l)))) ∙ (rw t refl)
          ∙ sym (ap (λ z. top_at z x) (sym (take-append-drop last ss)) ∙ top-behind (take last ss) (drop last ss) x (λ s i. let e = ends-last s i in no-byte s x (inl (omega (arith, e, high)))))
    ];
  };
  apart = apart-join (take first ss) (top ∷ drop last ss) (apart-first (take first ss) (drop first ss) (subst AreApart (sym (take-append-drop first ss)) a))
      (some, behind, apart-last (take last ss) (drop last ss) (subst AreApart (sym (take-append-drop last ss)) a))
      (λ s t i j. let e = ends s i in elim j [
        | inl k ↦ subst (λ z. s.stop ≤ z.start) k e
        | inr k ↦ let b = behind t k in omega (arith, e, b, some)
      ]);
}

covered : (ss : List Span) (top : Span) (first last : ℕ) → AreApart ss → IsCutAt top.start ss → IsCutAt top.stop ss → top.start < top.stop
    → Begun ss top.start first → Begun ss top.stop last → IsCovered ss (take first ss ++ top ∷ drop last ss) top
covered ss top first last a cut_start cut_stop some p q = laid-between ss top first last a some ends (begun-behind ss top.start first p) ends-last (begun-behind ss top.stop last q)
  where
    in-first : (i : ℕ) (s : Span) → In (take i ss) s → In ss s
    in-first i s j = subst (λ z. In z s) (take-append-drop i ss) (In-left (take i ss) (drop i ss) s j)

    ends : (s : Span) → In (take first ss) s → s.stop ≤ top.start
    ends s i = let l = begun-before ss top.start first p s i in elim (cut_start s (in-first first s i)) [ inl h ↦ h | inr h ↦ absurd (omega (arith, l, h)) ]

    ends-last : (s : Span) → In (take last ss) s → s.stop ≤ top.stop
    ends-last s i = let l = begun-before ss top.stop last q s i in elim (cut_stop s (in-first last s i)) [ inl h ↦ h | inr h ↦ absurd (omega (arith, l, h)) ]

-- what is left of one that it lies within, before it and behind it
splits : (front rear : List Span) (s top : Span) → AreApart (front ++ s ∷ rear) → s.start < top.start → top.start < top.stop → top.stop < s.stop
    → IsCovered (front ++ s ∷ rear) (front ++ record s { stop = top.start } ∷ top ∷ record s { start = top.stop } ∷ rear) top
splits front rear s top a low some high = record {
  laid = record {
    here = λ x t. let p = (byte-of top x t).0 in
        top-behind front (record s { stop = top.start } ∷ top ∷ record s { start = top.stop } ∷ rear) x (λ u i. let c = apart-cross front (s ∷ rear) a u s i (inl refl) in no-byte u x (inl (omega (arith, c, low, p))))
        ∙ (let h = no-byte (record s { stop = top.start }) x (inl p) in rw (h, t) refl);
    beside = λ x t. top-after front (record s { stop = top.start } ∷ top ∷ record s { start = top.stop } ∷ rear) (s ∷ rear) x (sides x t);
  };
  apart = apart-join front (record s { stop = top.start } ∷ top ∷ record s { start = top.stop } ∷ rear) (apart-first front (s ∷ rear) a) (
    low,
    (λ t i. elim i [
      | inl e ↦ subst (λ z. top.start ≤ z.start) e (omega arith)
      | inr j ↦ elim j [
        | inl e ↦ subst (λ z. top.start ≤ z.start) e (omega arith)
        | inr k ↦ let q = b.1 t k in omega (arith, q, some, high)
      ]
    ]),
    (some, (λ t i. elim i [ inl e ↦ subst (λ z. top.stop ≤ z.start) e (omega arith) | inr k ↦ let q = b.1 t k in omega (arith, q, high) ]), (high, b.1, b.2)),
  )
      (λ u t i j. let c = apart-cross front (s ∷ rear) a u s i (inl refl) in elim j [
        | inl e ↦ subst (λ z. u.stop ≤ z.start) e c
        | inr k ↦ elim k [
          | inl e ↦ subst (λ z. u.stop ≤ z.start) e (omega (arith, c, low))
          | inr l ↦ elim l [
            | inl e ↦ subst (λ z. u.stop ≤ z.start) e (omega (arith, c, low, some))
            | inr m ↦ apart-cross front (s ∷ rear) a u t i (inr m)
          ]
        ]
      ]);
}
  where
    b : AreApart (s ∷ rear)
    b = apart-last front (s ∷ rear) a

    sides : (x : ℕ) → has_byte top x ≡ false → top_at (record s { stop = top.start } ∷ top ∷ record s { start = top.stop } ∷ rear) x ≡ top_at (s ∷ rear) x
    sides x t = elim (cases_Bool (has_byte s x)) [
      | inl u ↦
          let p = (byte-of s x u).0 in let q = (byte-of s x u).1 in
          elim (cases_lt x top.start) [
            | inl l ↦ let h = has-byte (record s { stop = top.start }) x p l in rw (h, u) refl
            | inr l ↦
                let end : top.stop ≤ x = elim (cases_lt x top.stop) [ inl m ↦ absurd (both_ways _ t (has-byte top x l m)) | inr m ↦ m ] in
                let h = no-byte (record s { stop = top.start }) x (inl l) in
                let k = has-byte (record s { start = top.stop }) x end q in
                rw (h, t, k, u) refl
          ]
      | inr u ↦
          let h : has_byte (record s { stop = top.start }) x ≡ false = false_from_ne_true _ (λ v. let p = byte-of (record s { stop = top.start }) x v in let y = p.0 in let z = p.1 in both_ways _ u (has-byte s x y (omega (arith, z, some, high)))) in
          let k : has_byte (record s { start = top.stop }) x ≡ false = false_from_ne_true _ (λ v. let p = byte-of (record s { start = top.stop }) x v in let y = p.0 in let z = p.1 in both_ways _ u (has-byte s x (omega (arith, y, low, some)) z)) in
          rw (h, t, k, u) refl
    ]

-- two spans are put in behind one that takes another's place
two-in : (ss : List Span) (i : ℕ) (l m r : Span) → i < length ss → insert (insert (slice_set ss i l) (i + 1) r) (i + 1) m ≡ take i ss ++ l ∷ m ∷ r ∷ drop (i + 1) ss
two-in ss i l m r h =
    let front : List Span = take (i + 1) (slice_set ss i l) in
    let rear : List Span = drop (i + 1) (slice_set ss i l) in
    let long : length front ≡ i + 1 = ap length (take_more_set ss i l h) ∙ length-append (take i ss) (l ∷ []) ∙ ap (λ n. n + 1) (length-take-le i ss (omega arith)) in
    let none : i + 1 - (i + 1) ≡ 0 = omega arith in
    insert-append_right front (r ∷ rear) (i + 1) (i + 1) m long (omega arith)
    ∙ ap (λ n. front ++ insert (r ∷ rear) n m) none
    ∙ ap (λ z. z ++ m ∷ r ∷ rear) (take_more_set ss i l h)
    ∙ append-one (take i ss) l (m ∷ r ∷ rear)
    ∙ ap (λ z. take i ss ++ l ∷ m ∷ r ∷ z) (drop-set-lt (i + 1) ss i l (omega arith))

pub split-at-place : (ss new : List Span) (top s : Span) (i : ℕ) → AreApart ss → i < length ss → s ≡ slice_index_or ss i s → s.start < top.start → top.start < top.stop → top.stop < s.stop
    → new ≡ insert (insert (slice_set ss i (record s { stop = top.start })) (i + 1) (record s { start = top.stop })) (i + 1) top → IsCovered ss new top
split-at-place ss new top s i a h is low some high now =
    let whole = whole-at ss i s h is in
    subst (λ z. IsCovered z new top) (sym whole)
    (subst (λ z. IsCovered (take i ss ++ s ∷ drop (i + 1) ss) z top) (sym (now ∙ two-in ss i (record s { stop = top.start }) top (record s { start = top.stop }) h))
    (splits (take i ss) (drop (i + 1) ss) s top (subst AreApart whole a) low some high))

-- the span at a place, and those behind it
drop-at : (ss : List Span) (i : ℕ) (d : Span) → i < length ss → drop i ss ≡ slice_index_or ss i d ∷ drop (i + 1) ss
drop-at ss i d h = let next : suc i ≡ i + 1 = omega arith in drop-cons ss i d h ∙ ap (λ n. slice_index_or ss i d ∷ drop n ss) next

drop-none : (ss : List Span) (i : ℕ) → length ss ≤ i → drop i ss ≡ []
drop-none [] zero h = refl
drop-none [] (suc i) h = refl
drop-none (s ∷ ss) zero h = absurd (omega arith)
drop-none (s ∷ ss) (suc i) h = drop-none ss i (omega arith)

-- those from a place on begin where the first of them does, or later
from-first : (s : Span) (ss : List Span) → AreApart (s ∷ ss) → (t : Span) → In (s ∷ ss) t → s.start ≤ t.start
from-first s ss a t (inl e) = subst (λ z. s.start ≤ z.start) e (omega arith)
from-first s ss a t (inr i) = let low = a.0 in let high = a.1 t i in omega (arith, low, high)

apart-from : (ss : List Span) (i : ℕ) → AreApart ss → AreApart (drop i ss)
apart-from ss i a = apart-last (take i ss) (drop i ss) (subst AreApart (sym (take-append-drop i ss)) a)

-- where there is a gap, it is put there
pub laid-free : (ss : List Span) (top : Span) (i : ℕ) → AreApart ss → top.start < top.stop → Ended ss top.start i
    → ((d : Span) → i < length ss → top.stop ≤ (slice_index_or ss i d).start) → IsCovered ss (insert ss i top) top
laid-free ss top i a some p free = laid-between ss top i i a some ends (λ s j. let b = behind s j in omega (arith, b, some)) (λ s j. let e = ends s j in omega (arith, e, some)) behind
  where
    ends : (s : Span) → In (take i ss) s → s.stop ≤ top.start
    ends = before-all (λ s. s.stop ≤ top.start) ss i p.0

    behind : (s : Span) → In (drop i ss) s → top.stop ≤ s.start
    behind s j = elim (cases_lt i (length ss)) [
      | inl h ↦
          let e = drop-at ss i top h in
          let b = from-first (slice_index_or ss i top) (drop (i + 1) ss) (subst AreApart e (apart-from ss i a)) s (subst (λ z. In z s) e j) in
          let f = free top h in
          omega (arith, b, f)
      | inr h ↦ absurd (subst (λ z. In z s) (drop-none ss i h) j)
    ]

-- one that has just its bytes gives it its place
pub laid-same : (ss : List Span) (top s : Span) (i : ℕ) → AreApart ss → top.start < top.stop → Ended ss top.start i → i < length ss → slice_index_or ss i s ≡ s
    → s.start ≡ top.start → s.stop ≡ top.stop → IsCovered ss (slice_set ss i top) top
laid-same ss top s i a some p within is low high = subst (λ z. IsCovered ss z top) (sym now) (laid-between ss top i (i + 1) a some ends from ends-last behind)
  where
    now : slice_set ss i top ≡ take i ss ++ top ∷ drop (i + 1) ss
    now = set-at ss i top within

    whole : drop i ss ≡ s ∷ drop (i + 1) ss
    whole = drop-at ss i s within ∙ ap (λ z. z ∷ drop (i + 1) ss) is

    apart : AreApart (s ∷ drop (i + 1) ss)
    apart = subst AreApart whole (apart-from ss i a)

    ends : (t : Span) → In (take i ss) t → t.stop ≤ top.start
    ends = before-all (λ t. t.stop ≤ top.start) ss i p.0

    from : (t : Span) → In (drop i ss) t → top.start ≤ t.start
    from t j = let b = from-first s (drop (i + 1) ss) apart t (subst (λ z. In z t) whole j) in omega (arith, b, low)

    ends-last : (t : Span) → In (take (i + 1) ss) t → t.stop ≤ top.stop
    ends-last t j = elim (In-parts (take i ss) (s ∷ []) t (subst (λ z. In z t) (take_more ss i s within ∙ ap (λ z. take i ss ++ z ∷ []) is) j)) [
      | inl k ↦ let e = ends t k in omega (arith, e, some)
      | inr k ↦ elim k [ inl e ↦ subst (λ z. z.stop ≤ top.stop) e (omega (arith, high)) | inr n ↦ absurd n ]
    ]

    behind : (t : Span) → In (drop (i + 1) ss) t → top.stop ≤ t.start
    behind t j = let b = apart.1 t j in omega (arith, b, high)

-- the one place isn't behind the other
pub in-order : (ss : List Span) (a b i j : ℕ) → a < b → i ≤ length ss → Begun ss a i → Begun ss b j → i ≤ j
in-order ss a b i j less within p q = elim (cases_lt j i) [
  | inr h ↦ h
  | inl h ↦
      let x : Span = record { start = 0; stop = 0; no = 0 } in
      let low = p.0 j x (omega arith) h in
      let high = q.1 j x (omega arith) (omega (arith, h, within)) in
      absurd (omega (arith, low, high, less))
]

pub covers-none : (ss : List Span) (top : Span) (first last : ℕ) → AreApart ss → IsCutAt top.start ss → IsCutAt top.stop ss → top.start < top.stop
    → Begun ss top.start first → Begun ss top.stop last → first ≡ last → IsCovered ss (insert ss first top) top
covers-none ss top first last a cut_start cut_stop some p q same =
    subst (λ n. IsCovered ss (take first ss ++ top ∷ drop n ss) top) (sym same) (covered ss top first last a cut_start cut_stop some p q)

pub covers-one : (ss : List Span) (top : Span) (first last : ℕ) → AreApart ss → IsCutAt top.start ss → IsCutAt top.stop ss → top.start < top.stop
    → Begun ss top.start first → Begun ss top.stop last → first < length ss → last ≡ first + 1 → IsCovered ss (slice_set ss first top) top
covers-one ss top first last a cut_start cut_stop some p q within next =
    let now : slice_set ss first top ≡ take first ss ++ top ∷ drop last ss = set-at ss first top within ∙ ap (λ n. take first ss ++ top ∷ drop n ss) (sym next) in
    subst (λ z. IsCovered ss z top) (sym now) (covered ss top first last a cut_start cut_stop some p q)

pub covers-many : (ss : List Span) (top : Span) (first last : ℕ) → AreApart ss → IsCutAt top.start ss → IsCutAt top.stop ss → top.start < top.stop
    → Begun ss top.start first → Begun ss top.stop last → first < length ss → first + 1 < last → IsCovered ss (remove_range (slice_set ss first top) (first + 1) last) top
covers-many ss top first last a cut_start cut_stop some p q within more =
    let now : remove_range (slice_set ss first top) (first + 1) last ≡ take first ss ++ top ∷ drop last ss =
    ap (λ z. z ++ drop last (slice_set ss first top)) (take_more_set ss first top within)
    ∙ ap (λ z. (take first ss ++ top ∷ []) ++ z) (drop-set-lt last ss first top (omega arith))
    ∙ append-one (take first ss) top (drop last ss) in
    subst (λ z. IsCovered ss z top) (sym now) (covered ss top first last a cut_start cut_stop some p q)

-- Which spans have a byte between two places.

in-between : (ss : List Span) (i n k : ℕ) (d : Span) → i ≤ k → k < i + n → k < length ss → In (take n (drop i ss)) (slice_index_or ss k d)
in-between [] i n k d low high within = absurd (omega arith)
in-between (s ∷ ss) zero zero k d low high within = absurd (omega arith)
in-between (s ∷ ss) zero (suc n) zero d low high within = inl refl
in-between (s ∷ ss) zero (suc n) (suc k) d low high within = inr (in-between ss zero n k d (omega arith) (omega arith) (omega arith))
in-between (s ∷ ss) (suc i) n zero d low high within = absurd (omega arith)
in-between (s ∷ ss) (suc i) n (suc k) d low high within = in-between ss i n k d (omega arith) (omega arith) (omega arith)

record IsAt (ss : List Span) (i n : ℕ) (s : Span) : Type 0 where
  pub k : ℕ
  pub low : i ≤ k
  pub high : k < i + n
  pub within : k < length ss
  pub is : (d : Span) → slice_index_or ss k d ≡ s

at-between : (ss : List Span) (i n : ℕ) (s : Span) → In (take n (drop i ss)) s → IsAt ss i n s
at-between [] zero zero s h = absurd h
at-between [] zero (suc n) s h = absurd h
at-between [] (suc i) zero s h = absurd h
at-between [] (suc i) (suc n) s h = absurd h
at-between (t ∷ ss) zero zero s h = absurd h
at-between (t ∷ ss) zero (suc n) s (inl e) = record { k = 0; low = omega arith; high = omega arith; within = omega arith; is = λ d. e }
at-between (t ∷ ss) zero (suc n) s (inr h) =
    let r = at-between ss zero n s h in let a = r.high in let b = r.within in
    record { k = suc r.k; low = omega arith; high = omega (arith, a); within = omega (arith, b); is = r.is }
at-between (t ∷ ss) (suc i) n s h =
    let r = at-between ss i n s h in let a = r.high in let b = r.within in let c = r.low in
    record { k = suc r.k; low = omega (arith, c); high = omega (arith, a); within = omega (arith, b); is = r.is }

record IsShown (ss : List Span) (first last n : ℕ) : Type 0 where
  pub s : Span
  pub number : s.no ≡ n
  pub k : ℕ
  pub low : first ≤ k
  pub high : k < last
  pub within : k < length ss
  pub is : (d : Span) → slice_index_or ss k d ≡ s

shown-at : (ss : List Span) (start stop first last n : ℕ) → Ended ss start first → Begun ss stop last → IsTopWithin ss start stop n → IsShown ss first last n
shown-at ss start stop first last n p q w =
    let t = top-in ss w.0 n w.3 in
    let b = byte-of t.0 w.0 t.2 in
    let b1 = b.0 in let b2 = b.1 in let w1 = w.1 in let w2 = w.2 in
    let k = in-index ss t.0 t.1 in
    record {
      s = t.0;
      number = t.3;
      k = k.0;
      low = elim (cases_lt k.0 first) [ inr h ↦ h | inl h ↦ let e = subst (λ z. z.stop ≤ start) (k.2 t.0) (p.0 k.0 t.0 (omega arith) h) in absurd (omega (arith, e, b2, w1)) ];
      high = elim (cases_lt k.0 last) [ inl h ↦ h | inr h ↦ let e = subst (λ z. stop ≤ z.start) (k.2 t.0) (q.1 k.0 t.0 h k.1) in absurd (omega (arith, e, b1, w2)) ];
      within = k.1;
      is = k.2;
    }

pub tops-some : (ss : List Span) (start stop first last : ℕ) → AreApart ss → start < stop → Ended ss start first → Begun ss stop last → first < last → AreTops ss start stop (slice_range ss first last)
tops-some ss start stop first last a wide p q some = record {
  each = λ n w.
      let r = shown-at ss start stop first last n p q w in
      let low = r.low in let high = r.high in
      (r.s, subst (λ z. In (slice_range ss first last) z) (r.is r.s) (in-between ss first (last - first) r.k r.s low (omega (arith, low, high, some)) r.within), r.number);
  only = λ s i.
      let r = at-between ss first (last - first) s i in
      let low = r.low in let high = r.high in
      let after : start < s.stop = subst (λ z. start < z.stop) (r.is s) (p.1 r.k s low r.within) in
      let before : s.start < stop = subst (λ z. z.start < stop) (r.is s) (q.0 r.k s (omega arith) (omega (arith, high, low, some))) in
      let inside = subst (λ z. In ss z) (r.is s) (index-in ss r.k s r.within) in
      let full = apart-each ss a s inside in
      (max s.start start, omega arith, omega (arith, before, wide), top-of ss a s (max s.start start) inside (has-byte s (max s.start start) (omega arith) (omega (arith, full, after))));
}

pub tops-none : (ss : List Span) (start stop first last : ℕ) → Ended ss start first → Begun ss stop last → last ≤ first → AreTops ss start stop []
tops-none ss start stop first last p q none = record {
  each = λ n w. let r = shown-at ss start stop first last n p q w in let low = r.low in let high = r.high in absurd (omega (arith, low, high, none));
  only = λ s i. absurd i;
}

pub no-tops : (start stop : ℕ) → AreTops [] start stop []
no-tops start stop = record { each = λ n w. absurd (let e = w.3 in cc); only = λ s i. absurd i }
