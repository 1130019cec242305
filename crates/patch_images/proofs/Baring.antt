-- A block's bytes without the classes that may be taken, as the classes change.
use Rattle.std.proofs.Common.{◌≡◌, ◌≢◌, ℕ, zero, suc, ◌+◌, ◌-◌, ◌<◌, ◌≤◌, ◌⊎◌, ◌∙◌, true, false, not, inl, inr, List, [], ◌∷◌, ◌++◌, length, filter, drop, get_or, set, get_or-set_same, get_or-set_other, refl, sym, ap, subst, arith, Bool, Option, Some}
use Rattle.std.specs.Prelude.{slice_range, if◌then◌else◌}
use Rattle.std.specs.List.{remove}
use Rattle.std.proofs.lemmas.Bool.{cases_Bool, cases_eq, cases_lt, both_ways, and_from, not-true, lt-ltb}
use Rattle.std.proofs.lemmas.List.{length-set, ext_get_or, drop_more, get_or_default}
use Rattle.std.proofs.lemmas.List.Edits.{length-between}
use Rattle.patch_records.specs.Records.{Class, no_class, is_takeable, departed, saves_any, saved_end}
use Rattle.patch_records.specs.Exchanges.{uncovered, laid_on, laid_over}
use Rattle.patch_images.specs.declared.gaps.Gap.{Gap}
use Rattle.patch_images.specs.Images.{Image, bared, IsTrimmed, KnownImage, IsForgotten, StaysIf, IsDrawnOf, KeepsSpan, IsAlone, IsAloneBelow, IsApartAt}
use Rattle.patch_records.proofs.Bytes.{laid-inside, range-at, length-laid_over, outside-low, put_back}

abbrev pub stays : Class → Bool
stays c = not c.flying

uncovers : (c : Class) (m : List ℕ) → is_takeable c ≡ true → uncovered c m ≡ laid_on c m
uncovers c m t = rw t refl

uncovers-not : (c : Class) (m : List ℕ) → is_takeable c ≡ false → uncovered c m ≡ m
uncovers-not c m f = rw f refl

-- what is in flight may not be taken
pub flies : (c : Class) → c.flying ≡ true → is_takeable c ≡ false
flies c on = rw on refl

-- one more of the last ones
pub bared-next : (cs : List Class) (bytes copy : List ℕ) (n at : ℕ) (c : Class) → n < length cs → at ≡ length cs - 1 - n → c ≡ get_or cs at c
    → copy ≡ bared (drop (length cs - n) cs) bytes → uncovered c copy ≡ bared (drop (length cs - (n + 1)) cs) bytes
bared-next cs bytes copy n at c w is here e =
    let next : at + 1 ≡ length cs - n = omega arith in
    let now : at ≡ length cs - (n + 1) = omega arith in
    ap (uncovered c) e
    ∙ ap (λ (d : Class). uncovered d (bared (drop (length cs - n) cs) bytes)) here
    ∙ ap (λ (k : ℕ). uncovered (get_or cs at c) (bared (drop k cs) bytes)) (sym next)
    ∙ ap (λ ds. bared ds bytes) (sym (drop_more cs at c (omega arith)))
    ∙ ap (λ (k : ℕ). bared (drop k cs) bytes) now

pub bared-append : (cs : List Class) (c : Class) (m : List ℕ) → bared (cs ++ c ∷ []) m ≡ bared cs (uncovered c m)
bared-append [] c m = refl
bared-append (d ∷ cs) c m = ap (uncovered d) (bared-append cs c m)

-- a class more, of which the bytes beneath are kept
pub laid_image : (old new : Option Image) (cs : List Class) (c : Class) (bytes over : List ℕ) (start : ℕ) → start + length over ≤ length bytes
    → c.start ≡ start → c.saved ≡ slice_range bytes start (start + length over) → is_takeable c ≡ true → StaysIf true old new → KnownImage old cs bytes
    → KnownImage new (cs ++ c ∷ []) (laid_over start over bytes)
laid_image old new cs c bytes over start fits starts saves soft stay known m is on =
    let was = known m (stay m is on).1 on in
    was ∙ ap (bared cs) (sym (uncovers c (laid_over start over bytes) soft
    ∙ ap (λ (z : ℕ). laid_over z c.saved (laid_over start over bytes)) starts
    ∙ ap (λ s. laid_over start s (laid_over start over bytes)) saves
    ∙ put_back bytes over start fits)) ∙ sym (bared-append cs c (laid_over start over bytes))

-- a class more that may be hard: then nothing is known
pub put_over_image : (old new : Option Image) (cs : List Class) (c : Class) (bytes over : List ℕ) (start : ℕ) (hard : Bool) → start + length over ≤ length bytes
    → c.start ≡ start → c.saved ≡ (if hard then [] else slice_range bytes start (start + length over)) → is_takeable c ≡ not hard
    → StaysIf (not hard) old new → KnownImage old cs bytes → KnownImage new (cs ++ c ∷ []) (laid_over start over bytes)
put_over_image old new cs c bytes over start hard fits starts saves soft next known m is on =
    let s = next m is on in
    let off : hard ≡ false = not-true hard s.0 in
    laid_image old old cs c bytes over start fits starts (saves ∙ ap (λ (b : Bool). if b then [] else slice_range bytes start (start + length over)) off) (soft ∙ s.0) (λ _ was _. (refl, was)) known m s.1 on

-- nothing is known of what is forgotten
pub no_image : {X : Type 0} (image : Option Image) (m : Image) → IsForgotten image → image ≡ Some m → m.known ≡ true → X
no_image image m f is on = absurd (both_ways _ (f m is) on)

-- those in flight gone
bared-filter : (cs : List Class) (bytes : List ℕ) → bared (filter stays cs) bytes ≡ bared cs bytes
bared-filter [] bytes = refl
bared-filter (c ∷ cs) bytes = elim (cases_Bool c.flying) [
  | inl on ↦
      let off : stays c ≡ false = ap not on in
      let e : filter stays (c ∷ cs) ≡ filter stays cs = rw off refl in
      ap (λ ds. bared ds bytes) e ∙ bared-filter cs bytes ∙ sym (uncovers-not c (bared cs bytes) (flies c on))
  | inr off ↦
      let on : stays c ≡ true = ap not off in
      let e : filter stays (c ∷ cs) ≡ c ∷ filter stays cs = rw on refl in
      ap (λ ds. bared ds bytes) e ∙ ap (uncovered c) (bared-filter cs bytes)
]

pub filtered_image : (image : Option Image) (cs : List Class) (bytes : List ℕ) → KnownImage image cs bytes → KnownImage image (filter stays cs) bytes
filtered_image image cs bytes k m is on = k m is on ∙ sym (bared-filter cs bytes)

-- one gone that may not be taken
bared-remove : (cs : List Class) (at : ℕ) (bytes : List ℕ) → at < length cs → is_takeable (get_or cs at no_class) ≡ false → bared (remove cs at) bytes ≡ bared cs bytes
bared-remove [] at bytes w off = absurd (omega arith)
bared-remove (c ∷ cs) zero bytes w off = sym (uncovers-not c (bared cs bytes) off)
bared-remove (c ∷ cs) (suc at) bytes w off = ap (uncovered c) (bared-remove cs at bytes (omega arith) off)

pub removed_image : (old new : Option Image) (cs : List Class) (at : ℕ) (bytes : List ℕ) (takeable : Bool) → at < length cs → takeable ≡ is_takeable (get_or cs at no_class)
    → StaysIf (not takeable) old new → KnownImage old cs bytes → KnownImage new (remove cs at) bytes
removed_image old new cs at bytes takeable w same stay k m is on =
    let s = stay m is on in
    let off : is_takeable (get_or cs at no_class) ≡ false = sym same ∙ not-true _ s.0 in
    k m s.1 on ∙ sym (bared-remove cs at bytes w off)

-- One departs that shares no byte with another that may be taken.

saves_byte : Class → ℕ → Type 0
saves_byte c x = (c.start ≤ x) × (x < saved_end c)

-- what a class that saved no such byte leaves there
kept-byte : (c : Class) (m : List ℕ) (x : ℕ) → saved_end c ≤ length m → (is_takeable c ≡ true → (x < c.start) ⊎ (saved_end c ≤ x)) → get_or (uncovered c m) x 0 ≡ get_or m x 0
kept-byte c m x fits off = elim (cases_Bool (is_takeable c)) [
  | inl t ↦ ap (λ bs. get_or bs x 0) (uncovers c m t) ∙ outside-low c.saved m c.start x fits (off t)
  | inr f ↦ ap (λ bs. get_or bs x 0) (uncovers-not c m f)
]

-- a class's byte depends on no other
same-byte : (c : Class) (m n : List ℕ) (x : ℕ) → saved_end c ≤ length m → saved_end c ≤ length n → get_or m x 0 ≡ get_or n x 0 → get_or (uncovered c m) x 0 ≡ get_or (uncovered c n) x 0
same-byte c m n x fits fits_too same = elim (cases_Bool (is_takeable c)) [
  | inl t ↦ ap (λ bs. get_or bs x 0) (uncovers c m t) ∙ by (cases_lt x c.start) ∙ sym (ap (λ bs. get_or bs x 0) (uncovers c n t))
  | inr f ↦ ap (λ bs. get_or bs x 0) (uncovers-not c m f) ∙ same ∙ sym (ap (λ bs. get_or bs x 0) (uncovers-not c n f))
]
  where
    beside : (x < c.start) ⊎ (saved_end c ≤ x) → get_or (laid_on c m) x 0 ≡ get_or (laid_on c n) x 0
    beside off = outside-low c.saved m c.start x fits off ∙ same ∙ sym (outside-low c.saved n c.start x fits_too off)

    by : (x < c.start) ⊎ (c.start ≤ x) → get_or (laid_on c m) x 0 ≡ get_or (laid_on c n) x 0
    by (inl before) = beside (inl before)
    by (inr from) = elim (cases_lt x (saved_end c)) [
      | inl to ↦ laid-inside m c.saved c.start x from to fits ∙ sym (laid-inside n c.saved c.start x from to fits_too)
      | inr behind ↦ beside (inr behind)
    ]

-- each class saved bytes of the block
abbrev Fit : List Class → ℕ → Type 0
Fit cs n = (k : ℕ) → k < length cs → saved_end (get_or cs k no_class) ≤ n

length-uncovered : (c : Class) (m : List ℕ) → saved_end c ≤ length m → length (uncovered c m) ≡ length m
length-uncovered c m fits = elim (cases_Bool (is_takeable c)) [
  | inl t ↦ ap length (uncovers c m t) ∙ length-laid_over c.start c.saved m fits
  | inr f ↦ ap length (uncovers-not c m f)
]

length-bared : (cs : List Class) (bytes : List ℕ) → Fit cs (length bytes) → length (bared cs bytes) ≡ length bytes
length-bared [] bytes fit = refl
length-bared (c ∷ cs) bytes fit =
    let r = length-bared cs bytes (λ k w. fit (suc k) (omega arith)) in
    let f = fit 0 (omega arith) in
    length-uncovered c (bared cs bytes) (omega (arith, f)) ∙ r

-- where no class saved the byte
bared-out : (cs : List Class) (bytes : List ℕ) (x : ℕ) → Fit cs (length bytes)
    → ((k : ℕ) → k < length cs → is_takeable (get_or cs k no_class) ≡ true → (x < (get_or cs k no_class).start) ⊎ (saved_end (get_or cs k no_class) ≤ x))
    → get_or (bared cs bytes) x 0 ≡ get_or bytes x 0
bared-out [] bytes x fit off = refl
bared-out (c ∷ cs) bytes x fit off =
    let r = length-bared cs bytes (λ k w. fit (suc k) (omega arith)) in
    let f = fit 0 (omega arith) in
    kept-byte c (bared cs bytes) x (omega (arith, f)) (off 0 (omega arith))
    ∙ bared-out cs bytes x (λ k w. fit (suc k) (omega arith)) (λ k w. off (suc k) (omega arith))

fit-departed : (cs : List Class) (at n : ℕ) → Fit cs n → Fit (set cs at (departed (get_or cs at no_class))) n
fit-departed cs at n fit k w =
    let l = length-set cs at (departed (get_or cs at no_class)) in
    elim (cases_eq k at) [
      | inl e ↦
          let f = fit k (omega arith) in
          let here : get_or (set cs at (departed (get_or cs at no_class))) k no_class ≡ departed (get_or cs k no_class) =
          ap (λ (z : ℕ). get_or (set cs at (departed (get_or cs at no_class))) z no_class) e
          ∙ get_or-set_same cs at (departed (get_or cs at no_class)) no_class (omega arith) ∙ ap (λ (z : ℕ). departed (get_or cs z no_class)) (sym e) in
          subst (λ c. saved_end c ≤ n) (sym here) (omega (arith, f))
      | inr ne ↦ subst (λ c. saved_end c ≤ n) (sym (get_or-set_other cs at k (departed (get_or cs at no_class)) no_class ne)) (fit k (omega arith))
    ]

-- beside the bytes of the class that departs
bared-beside : (cs : List Class) (at : ℕ) (bytes : List ℕ) (x : ℕ) → at < length cs → Fit cs (length bytes)
    → (x < (get_or cs at no_class).start) ⊎ (saved_end (get_or cs at no_class) ≤ x)
    → get_or (bared (set cs at (departed (get_or cs at no_class))) bytes) x 0 ≡ get_or (bared cs bytes) x 0
bared-beside [] at bytes x w fit off = absurd (omega arith)
bared-beside (c ∷ cs) zero bytes x w fit off =
    let r = length-bared cs bytes (λ k v. fit (suc k) (omega arith)) in
    let f = fit 0 (omega arith) in
    sym (kept-byte c (bared cs bytes) x (omega (arith, f)) (λ t. off))
bared-beside (c ∷ cs) (suc at) bytes x w fit off =
    let rest : Fit cs (length bytes) = (λ k v. fit (suc k) (omega arith)) in
    let r = length-bared cs bytes rest in
    let s = length-bared (set cs at (departed (get_or cs at no_class))) bytes (fit-departed cs at (length bytes) rest) in
    let f = fit 0 (omega arith) in
    same-byte c (bared (set cs at (departed (get_or cs at no_class))) bytes) (bared cs bytes) x (omega (arith, f)) (omega (arith, f))
    (bared-beside cs at bytes x (omega arith) rest off)

-- no other saved a byte of it
apart-byte : (c d : Class) (x : ℕ) → d.start ≤ x → x < saved_end d → saves_any c d.start (saved_end d) ≡ false → (x < c.start) ⊎ (saved_end c ≤ x)
apart-byte c d x from to off = elim (cases_lt x c.start) [
  | inl before ↦ inl before
  | inr on ↦ elim (cases_lt x (saved_end c)) [
    | inl within ↦ absurd (both_ways _ off (and_from _ _ (lt-ltb c.start (saved_end d) (omega arith)) (lt-ltb d.start (saved_end c) (omega arith))))
    | inr behind ↦ inr behind
  ]
]

away : (cs : List Class) (at x : ℕ) → at < length cs → IsAlone cs at → (get_or cs at no_class).start ≤ x → x < saved_end (get_or cs at no_class)
    → (k : ℕ) → k < length (set cs at (departed (get_or cs at no_class))) → is_takeable (get_or (set cs at (departed (get_or cs at no_class))) k no_class) ≡ true
    → (x < (get_or (set cs at (departed (get_or cs at no_class))) k no_class).start) ⊎ (saved_end (get_or (set cs at (departed (get_or cs at no_class))) k no_class) ≤ x)
away cs at x w a from to k v t =
    let l = length-set cs at (departed (get_or cs at no_class)) in
    elim (cases_eq k at) [
      | inl e ↦
          let here : get_or (set cs at (departed (get_or cs at no_class))) k no_class ≡ departed (get_or cs at no_class) =
          ap (λ (z : ℕ). get_or (set cs at (departed (get_or cs at no_class))) z no_class) e
          ∙ get_or-set_same cs at (departed (get_or cs at no_class)) no_class w in
          absurd (both_ways _ (flies (departed (get_or cs at no_class)) refl) (ap is_takeable (sym here) ∙ t))
      | inr ne ↦
          let there = get_or-set_other cs at k (departed (get_or cs at no_class)) no_class ne in
          subst (λ c. (x < c.start) ⊎ (saved_end c ≤ x)) (sym there)
          (apart-byte (get_or cs k no_class) (get_or cs at no_class) x from to ((a.others k (omega arith)).apart ne (ap is_takeable (sym there) ∙ t)))
    ]

departed-bared : (cs : List Class) (at : ℕ) (bytes : List ℕ) → at < length cs → length bytes ≡ 4096 → IsAlone cs at
    → laid_over (get_or cs at no_class).start (slice_range bytes (get_or cs at no_class).start (saved_end (get_or cs at no_class))) (bared cs bytes)
    ≡ bared (set cs at (departed (get_or cs at no_class))) bytes
departed-bared cs at bytes w long a =
    ext_get_or 0 (laid_over start (slice_range bytes start stop) (bared cs bytes)) (bared (set cs at (departed (get_or cs at no_class))) bytes)
    (length-laid_over start (slice_range bytes start stop) (bared cs bytes) (omega (arith, width, all, inside)) ∙ all ∙ sym now) (λ x v. by x (cases_lt x start))
  where
    start : ℕ
    start = (get_or cs at no_class).start

    stop : ℕ
    stop = saved_end (get_or cs at no_class)

    fit : Fit cs (length bytes)
    fit k v = let f = (a.others k v).fits in omega (arith, f, long)

    inside : saved_end (get_or cs at no_class) ≤ length bytes
    inside = fit at w

    all : length (bared cs bytes) ≡ length bytes
    all = length-bared cs bytes fit

    now : length (bared (set cs at (departed (get_or cs at no_class))) bytes) ≡ length bytes
    now = length-bared (set cs at (departed (get_or cs at no_class))) bytes (fit-departed cs at (length bytes) fit)

    width : (get_or cs at no_class).start + length (slice_range bytes (get_or cs at no_class).start (saved_end (get_or cs at no_class))) ≡ saved_end (get_or cs at no_class)
    width = let l = length-between bytes (get_or cs at no_class).start (saved_end (get_or cs at no_class)) inside in omega (arith, l)

    beside : (x : ℕ) → (x < (get_or cs at no_class).start) ⊎ (saved_end (get_or cs at no_class) ≤ x)
        → get_or (laid_over start (slice_range bytes start stop) (bared cs bytes)) x 0 ≡ get_or (bared (set cs at (departed (get_or cs at no_class))) bytes) x 0
    beside x off =
        outside-low (slice_range bytes start stop) (bared cs bytes) start x (omega (arith, width, all, inside))
        (elim off [ inl before ↦ inl before | inr behind ↦ inr (omega (arith, width)) ])
        ∙ sym (bared-beside cs at bytes x w fit off)

    by : (x : ℕ) → (x < start) ⊎ (start ≤ x)
        → get_or (laid_over start (slice_range bytes start stop) (bared cs bytes)) x 0 ≡ get_or (bared (set cs at (departed (get_or cs at no_class))) bytes) x 0
    by x (inl before) = beside x (inl before)
    by x (inr from) = elim (cases_lt x stop) [
      | inl to ↦
          laid-inside (bared cs bytes) (slice_range bytes start stop) start x from (omega (arith, width)) (omega (arith, width, all, inside))
          ∙ range-at bytes start stop x from to inside
          ∙ sym (bared-out (set cs at (departed (get_or cs at no_class))) bytes x (fit-departed cs at (length bytes) fit) (λ k v t. away cs at x w a from to k v t))
      | inr behind ↦ beside x (inr behind)
    ]

pub departed_image : (old new : Option Image) (cs : List Class) (c : Class) (at start stop : ℕ) (bytes : List ℕ) (gap : Option Gap) → at < length cs → length bytes ≡ 4096
    → start ≡ (get_or cs at no_class).start → stop ≡ saved_end (get_or cs at no_class) → c ≡ departed (get_or cs at no_class)
    → ((g : Gap) → gap ≡ Some g → IsAlone cs at) → KeepsSpan gap bytes start stop old new → KnownImage old cs bytes → KnownImage new (set cs at c) bytes
departed_image old new cs c at start stop bytes gap w long starts stops is a keeps k m now on =
    let s = keeps m now on in
    let h = s.1 in
    let was = k h.before h.was h.known in
    h.is ∙ ap (laid_over start (slice_range bytes start stop)) was
    ∙ ap (λ (z : ℕ). laid_over z (slice_range bytes z stop) (bared cs bytes)) starts
    ∙ ap (λ (z : ℕ). laid_over (get_or cs at no_class).start (slice_range bytes (get_or cs at no_class).start z) (bared cs bytes)) stops
    ∙ departed-bared cs at bytes w long (a m.gap s.0) ∙ ap (λ d. bared (set cs at d) bytes) (sym is)

-- drawn where it wasn't known
pub drawn_image : (old new : Option Image) (cs : List Class) (bytes : List ℕ) → IsDrawnOf cs bytes old new → KnownImage old cs bytes → KnownImage new cs bytes
drawn_image old new cs bytes d k m is on = elim (d m is on) [ inl was ↦ k m was on | inr e ↦ e.0 ]

-- what is at a place, whatever stands for none
pub class_is : (cs : List Class) (at : ℕ) (c : Class) → at < length cs → c ≡ get_or cs at c → c ≡ get_or cs at no_class
class_is cs at c w is = is ∙ get_or_default cs at c no_class w

-- with another gap
pub trimmed_image : (old new : Option Image) (cs : List Class) (bytes : List ℕ) (from to : ℕ) → IsTrimmed from to old new → KnownImage old cs bytes → KnownImage new cs bytes
trimmed_image old new cs bytes from to t k m is on = let b = t m is on in b.bytes ∙ k b.before b.was b.known

pub next_alone : (cs : List Class) (at n : ℕ) → IsAloneBelow cs at n → IsApartAt cs at n → IsAloneBelow cs at (n + 1)
next_alone cs at n a p k w = elim (cases_eq k n) [
  | inl e ↦ subst (λ (z : ℕ). IsApartAt cs at z) (sym e) p
  | inr ne ↦ a k (omega arith)
]

-- what tells that a class isn't in the way
pub apart_unless : (cs : List Class) (at k start stop : ℕ) (c : Class) → c ≡ get_or cs k no_class → start ≡ (get_or cs at no_class).start → stop ≡ saved_end (get_or cs at no_class)
    → saved_end c ≤ 4096 → (k ≢ at → is_takeable c ≡ true → saves_any c start stop ≡ false) → IsApartAt cs at k
apart_unless cs at k start stop c is starts stops fits apart = record {
  fits = subst (λ d. saved_end d ≤ 4096) is fits;
  apart = λ ne t.
      ap (λ d. saves_any d (get_or cs at no_class).start (saved_end (get_or cs at no_class))) (sym is)
      ∙ ap (λ (z : ℕ). saves_any c z (saved_end (get_or cs at no_class))) (sym starts) ∙ ap (λ (z : ℕ). saves_any c start z) (sym stops)
      ∙ apart ne (ap is_takeable is ∙ t);
}
