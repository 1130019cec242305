-- Numbers that pass a test, in rising order.
use Rattle.std.proofs.Common.{◌≡◌, ◌≢◌, ℕ, zero, suc, ◌+◌, ◌<◌, ◌≤◌, ◌∙◌, inl, inr, Bool, true, false, List, [], ◌∷◌, ◌++◌, append-nil, length, get_or, refl, sym, ap, subst, arith}
use Rattle.std.specs.Prelude.{◌==◌, ◌&&◌, ◌||◌, not, nat_lt, filter}
use Rattle.std.specs.List.{insert, remove, range_with_len}
use Rattle.std.specs.List.Sorted.{IsPartitionPoint, IsPartitionedBy}
use Rattle.std.proofs.lemmas.Bool.{cases_Bool, cases_order, cases_eq}
use Rattle.std.proofs.lemmas.Bool.Decides.{nat_tests}
use Rattle.std.proofs.lemmas.List.Elements.{filter-append}
use Rattle.patch_plans.specs.Empties.{passing, AreSome}
use Rattle.patch_extent.proofs.Making.{range_more}

-- those from a number on, so many of them looked at
abbrev among : (ℕ → Bool) → (a n : ℕ) → List ℕ
among test a n = filter test (range_with_len a n)

abbrev pub but : (ℕ → Bool) → ℕ → ℕ → Bool
but test extent e = test e && not (e == extent)

abbrev pub with : (ℕ → Bool) → ℕ → ℕ → Bool
with test extent e = test e || (e == extent)

-- tests that can't be told apart
pub alike : (p q : ℕ → Bool) (a n : ℕ) → ((e : ℕ) → a ≤ e → e < a + n → p e ≡ q e) → among p a n ≡ among q a n
alike p q a zero same = refl
alike p q a (suc n) same =
    let here : p a ≡ q a = same a (omega arith) (omega arith) in
    let rest = alike p q (a + 1) n (λ e low high. same e (omega (arith, low)) (omega (arith, high))) in
    elim (cases_Bool (q a)) [
      | inl u ↦ rw (here ∙ u, u) (ap (λ xs. a ∷ xs) rest)
      | inr u ↦ rw (here ∙ u, u) rest
    ]

record IsAmong (test : ℕ → Bool) (a n x : ℕ) : Type 0 where
  pub low : a ≤ x
  pub high : x < a + n
  pub passes : test x ≡ true

behind : (test : ℕ → Bool) (a n x : ℕ) → IsAmong test (a + 1) n x → IsAmong test a (suc n) x
behind test a n x is =
    let low = is.low in
    let high = is.high in
    record { low = omega (arith, low); high = omega (arith, high); passes = is.passes }

each : (test : ℕ → Bool) (a n k d : ℕ) → k < length (among test a n) → IsAmong test a n (get_or (among test a n) k d)
each test a zero k d less = absurd (omega (arith, less))
each test a (suc n) zero d less = elim (cases_Bool (test a)) [
  | inl u ↦ rw u (record { low = omega arith; high = omega arith; passes = u })
  | inr u ↦ rw u (behind test a n (get_or (among test (a + 1) n) 0 d) (each test (a + 1) n 0 d (rw u at less)))
]
each test a (suc n) (suc k) d less = elim (cases_Bool (test a)) [
  | inl u ↦
      let inside : suc k < length (a ∷ among test (a + 1) n) = rw u at less in
      rw u (behind test a n (get_or (among test (a + 1) n) k d) (each test (a + 1) n k d (omega (arith, inside))))
  | inr u ↦ rw u (behind test a n (get_or (among test (a + 1) n) (suc k) d) (each test (a + 1) n (suc k) d (rw u at less)))
]

rises : (test : ℕ → Bool) (a n i j d : ℕ) → i < j → j < length (among test a n) → get_or (among test a n) i d < get_or (among test a n) j d
rises test a zero i j d less within = absurd (omega (arith, within))
rises test a (suc n) i zero d less within = absurd (omega (arith, less))
rises test a (suc n) zero (suc j) d less within = elim (cases_Bool (test a)) [
  | inl u ↦
      let inside : suc j < length (a ∷ among test (a + 1) n) = rw u at within in
      let low = (each test (a + 1) n j d (omega (arith, inside))).low in
      rw u (omega (arith, low))
  | inr u ↦ rw u (rises test (a + 1) n zero (suc j) d less (rw u at within))
]
rises test a (suc n) (suc i) (suc j) d less within = elim (cases_Bool (test a)) [
  | inl u ↦
      let inside : suc j < length (a ∷ among test (a + 1) n) = rw u at within in
      rw u (rises test (a + 1) n i j d (omega (arith, less)) (omega (arith, inside)))
  | inr u ↦ rw u (rises test (a + 1) n (suc i) (suc j) d less (rw u at within))
]

-- Where a number stands among them, or would.

abbrev pub Point : List ℕ → (extent at : ℕ) → Type 0
Point xs extent at = IsPartitionPoint (λ e. e < extent) (λ e. extent ≤ e) xs at

abbrev pub stands : List ℕ → (extent at : ℕ) → Bool
stands xs extent at = nat_lt at (length xs) && (get_or xs at 0 == extent)

parted_among : (test : ℕ → Bool) (count extent : ℕ) → IsPartitionedBy (λ e. nat_lt e extent) (passing test count)
parted_among test count extent i j d low within is = elim (cases_eq i j) [
  | inl same ↦ ap (λ k. nat_lt (get_or (passing test count) k d) extent) same ∙ is
  | inr other ↦
      let up = rises test 0 count i j d (omega (arith, low, other)) within in
      grind (arith, nat_tests, up, is)
]

pub parted : (xs : List ℕ) (test : ℕ → Bool) (count extent : ℕ) → xs ≡ passing test count → IsPartitionedBy (λ e. nat_lt e extent) xs
parted xs test count extent is = subst (IsPartitionedBy (λ e. nat_lt e extent)) (sym is) (parted_among test count extent)

both : (a b : Bool) → (a && b) ≡ true → (a ≡ true) × (b ≡ true)
both true b is = (refl, is)
both false b is = absurd (let g : false ≡ true = is in cc)

found : (xs : List ℕ) (extent at : ℕ) → stands xs extent at ≡ true → (at < length xs) × (get_or xs at 0 ≡ extent)
found xs extent at is =
    let two = both (nat_lt at (length xs)) (get_or xs at 0 == extent) is in
    let less = two.0 in
    let same = two.1 in
    (grind (arith, nat_tests, less), grind (arith, nat_tests, same))

-- where it doesn't stand there it stands nowhere
other_there : (xs : List ℕ) (extent at : ℕ) → stands xs extent at ≡ false → at < length xs → get_or xs at 0 ≢ extent
other_there xs extent at off less same =
    let inside : nat_lt at (length xs) ≡ true = grind (arith, nat_tests, less) in
    let here : (get_or xs at 0 == extent) ≡ true = grind (arith, nat_tests, same) in
    let on : stands xs extent at ≡ true = rw (inside, here) refl in
    let no : false ≡ true = sym off ∙ on in
    cc

nowhere : (test : ℕ → Bool) (count extent at : ℕ) → Point (passing test count) extent at → stands (passing test count) extent at ≡ false
    → (k : ℕ) → k < length (passing test count) → get_or (passing test count) k 0 ≢ extent
nowhere test count extent at point off k less same = elim (cases_order k at) [
  | inl here ↦ other_there (passing test count) extent at off (omega (arith, here, less)) (ap (λ i. get_or (passing test count) i 0) (sym here) ∙ same)
  | inr (inl under) ↦ let low = point.0 k 0 (omega arith) under in omega (arith, low, same)
  | inr (inr over) ↦
      let up = rises test 0 count at k 0 over less in
      let low = point.1 at 0 (omega arith) (omega (arith, over, less)) in
      omega (arith, up, low, same)
]

fails_at : (test : ℕ → Bool) (a n extent : ℕ) → a ≤ extent → extent < a + n → ((k : ℕ) → k < length (among test a n) → get_or (among test a n) k 0 ≢ extent)
    → test extent ≡ false
fails_at test a zero extent low high none = absurd (omega (arith, low, high))
fails_at test a (suc n) extent low high none = elim (cases_Bool (test a)) [
  | inl u ↦
      let first : a ≢ extent = (rw u at none) 0 (omega arith) in
      fails_at test (a + 1) n extent (omega (arith, low, first)) (omega (arith, high)) (λ k less. (rw u at none) (suc k) (omega (arith, less)))
  | inr u ↦ elim (cases_eq a extent) [
    | inl same ↦ ap test (sym same) ∙ u
    | inr other ↦ fails_at test (a + 1) n extent (omega (arith, low, other)) (omega (arith, high)) (rw u at none)
  ]
]

fails : (xs : List ℕ) (test : ℕ → Bool) (count extent at : ℕ) → xs ≡ passing test count → Point xs extent at → stands xs extent at ≡ false → extent < count
    → test extent ≡ false
fails xs test count extent at is point off high =
    fails_at test 0 count extent (omega arith) (omega (arith, high))
    (nowhere test count extent at (subst (λ ys. Point ys extent at) is point) (subst (λ ys. stands ys extent at ≡ false) is off))

-- One is taken out.

same_number : (a b : ℕ) → a ≡ b → (a == b) ≡ true
same_number a b is = grind (arith, nat_tests, is)

other_number : (a b : ℕ) → a ≢ b → (a == b) ≡ false
other_number a b is = grind (arith, nat_tests, is)

but_other : (test : ℕ → Bool) (extent e : ℕ) → e ≢ extent → test e ≡ but test extent e
but_other test extent e other = (let off = other_number e extent other in elim (cases_Bool (test e)) [
  | inl u ↦ rw (u, off) refl
  | inr u ↦ rw u refl
])

take_at : (test : ℕ → Bool) (a n extent at : ℕ) → at < length (among test a n) → get_or (among test a n) at 0 ≡ extent
    → remove (among test a n) at ≡ among (but test extent) a n
take_at test a zero extent at less is = absurd (omega (arith, less))
take_at test a (suc n) extent zero less is = elim (cases_Bool (test a)) [
  | inl u ↦
      let same : a ≡ extent = rw u at is in
      let on = same_number a extent same in
      rw (u, on) (alike test (but test extent) (a + 1) n (λ e low high. but_other test extent e (λ one. omega (arith, one, same, low))))
  | inr u ↦ rw u (take_at test (a + 1) n extent 0 (rw u at less) (rw u at is))
]
take_at test a (suc n) extent (suc at) less is = elim (cases_Bool (test a)) [
  | inl u ↦
      let inside : suc at < length (a ∷ among test (a + 1) n) = rw u at less in
      let there : get_or (among test (a + 1) n) at 0 ≡ extent = rw u at is in
      let low = (each test (a + 1) n at 0 (omega (arith, inside))).low in
      let off = other_number a extent (λ one. omega (arith, one, there, low)) in
      rw (u, off) (ap (λ xs. a ∷ xs) (take_at test (a + 1) n extent at (omega (arith, inside)) there))
  | inr u ↦ rw u (take_at test (a + 1) n extent (suc at) (rw u at less) (rw u at is))
]

pub taken : (xs : List ℕ) (test : ℕ → Bool) (count extent at : ℕ) → xs ≡ passing test count → stands xs extent at ≡ true
    → remove xs at ≡ passing (but test extent) count
taken xs test count extent at is on =
    let there = found (passing test count) extent at (subst (λ ys. stands ys extent at ≡ true) is on) in
    ap (λ ys. remove ys at) is ∙ take_at test 0 count extent at there.0 there.1

pub stays : (xs : List ℕ) (test : ℕ → Bool) (count extent at : ℕ) → xs ≡ passing test count → Point xs extent at → stands xs extent at ≡ false
    → xs ≡ passing (but test extent) count
stays xs test count extent at is point off =
    is ∙ alike test (but test extent) 0 count (λ e low high. elim (cases_eq e extent) [
      | inl same ↦
          let none : test e ≡ false = ap test same ∙ fails xs test count extent at is point off (omega (arith, same, high)) in
          rw none refl
      | inr other ↦ but_other test extent e other
    ])

-- One is put in.

with_other : (test : ℕ → Bool) (extent e : ℕ) → e ≢ extent → test e ≡ with test extent e
with_other test extent e other = (let off = other_number e extent other in elim (cases_Bool (test e)) [
  | inl u ↦ rw u refl
  | inr u ↦ rw (u, off) refl
])

put_at : (test : ℕ → Bool) (a n extent at : ℕ) → a ≤ extent → extent < a + n → test extent ≡ false → at ≤ length (among test a n) → Point (among test a n) extent at
    → insert (among test a n) at extent ≡ among (with test extent) a n
put_at test a zero extent at low high off within point = absurd (omega (arith, low, high))
put_at test a (suc n) extent zero low high off within point = elim (cases_Bool (test a)) [
  | inl u ↦
      let first : extent ≤ a = (rw u at point.1) 0 0 (omega arith) (omega arith) in
      let same : a ≡ extent = omega (arith, first, low) in
      absurd (let g : true ≡ false = sym u ∙ ap test same ∙ off in cc)
  | inr u ↦ elim (cases_eq a extent) [
    | inl same ↦
        let on = same_number a extent same in
        rw (u, on) (ap (λ x. x ∷ among test (a + 1) n) (sym same)
        ∙ ap (λ xs. a ∷ xs) (alike test (with test extent) (a + 1) n (λ e low high. with_other test extent e (λ one. omega (arith, one, same, low)))))
    | inr other ↦
        let no = other_number a extent other in
        rw (u, no) (put_at test (a + 1) n extent 0 (omega (arith, low, other)) (omega (arith, high)) off (omega arith) (rw u at point))
  ]
]
put_at test a (suc n) extent (suc at) low high off within point = elim (cases_Bool (test a)) [
  | inl u ↦
      let inside : suc at ≤ length (a ∷ among test (a + 1) n) = rw u at within in
      let p : Point (a ∷ among test (a + 1) n) extent (suc at) = rw u at point in
      let first : a < extent = p.0 0 0 (omega arith) (omega arith) in
      rw u (ap (λ xs. a ∷ xs) (put_at test (a + 1) n extent at (omega (arith, first)) (omega (arith, high)) off (omega (arith, inside))
      (λ k d under less. p.0 (suc k) d (omega arith) (omega (arith, less)), λ k d over less. p.1 (suc k) d (omega (arith, over)) (omega (arith, less)))))
  | inr u ↦ elim (cases_eq a extent) [
    | inl same ↦
        let inside : suc at ≤ length (among test (a + 1) n) = rw u at within in
        let p : Point (among test (a + 1) n) extent (suc at) = rw u at point in
        let first = p.0 0 0 (omega arith) (omega arith) in
        let low = (each test (a + 1) n 0 0 (omega (arith, inside))).low in
        absurd (omega (arith, first, low, same))
    | inr other ↦
        let no = other_number a extent other in
        rw (u, no) (put_at test (a + 1) n extent (suc at) (omega (arith, low, other)) (omega (arith, high)) off (rw u at within) (rw u at point))
  ]
]

pub put_in : (xs : List ℕ) (test : ℕ → Bool) (count extent at : ℕ) → extent < count → xs ≡ passing test count → at ≤ length xs → Point xs extent at
    → stands xs extent at ≡ false → insert xs at extent ≡ passing (with test extent) count
put_in xs test count extent at high is within point off =
    ap (λ ys. insert ys at extent) is
    ∙ put_at test 0 count extent at (omega arith) (omega (arith, high)) (fails xs test count extent at is point off high)
    (subst (λ ys. at ≤ length ys) is within) (subst (λ ys. Point ys extent at) is point)

pub there_already : (xs : List ℕ) (test : ℕ → Bool) (count extent at : ℕ) → xs ≡ passing test count → stands xs extent at ≡ true
    → xs ≡ passing (with test extent) count
there_already xs test count extent at is on =
    let there = found (passing test count) extent at (subst (λ ys. stands ys extent at ≡ true) is on) in
    let passes : test extent ≡ true = ap test (sym there.1) ∙ (each test 0 count at 0 there.0).passes in
    is ∙ alike test (with test extent) 0 count (λ e low high. elim (cases_eq e extent) [
      | inl same ↦ let on : test e ≡ true = ap test same ∙ passes in rw on refl
      | inr other ↦ with_other test extent e other
    ])

-- There is room for it.

few : (test : ℕ → Bool) (a n : ℕ) → length (among test a n) ≤ n
few test a zero = omega arith
few test a (suc n) = (let rest = few test (a + 1) n in elim (cases_Bool (test a)) [
  | inl u ↦ rw u (omega (arith, rest))
  | inr u ↦ rw u (omega (arith, rest))
])

fewer : (test : ℕ → Bool) (a n extent : ℕ) → a ≤ extent → extent < a + n → test extent ≡ false → length (among test a n) < n
fewer test a zero extent low high off = absurd (omega (arith, low, high))
fewer test a (suc n) extent low high off = elim (cases_Bool (test a)) [
  | inl u ↦ elim (cases_eq a extent) [
    | inl same ↦ absurd (let g : true ≡ false = sym u ∙ ap test same ∙ off in cc)
    | inr other ↦ let rest = fewer test (a + 1) n extent (omega (arith, low, other)) (omega (arith, high)) off in rw u (omega (arith, rest))
  ]
  | inr u ↦ let rest = few test (a + 1) n in rw u (omega (arith, rest))
]

pub room : (xs : List ℕ) (extent at : ℕ) → AreSome extent xs → Point xs extent at → stands xs extent at ≡ false → length xs < 254
room xs extent at some point off =
    let less = fewer some.test 0 some.count extent (omega arith) (let high = some.below in omega (arith, high))
    (fails xs some.test some.count extent at some.numbers_are point off some.below) in
    let long = ap length some.numbers_are in
    let most = some.few in
    omega (arith, less, long, most)

pub point_of : (xs : List ℕ) (extent at : ℕ) → IsPartitionPoint (λ e. nat_lt e extent ≡ true) (λ e. nat_lt e extent ≡ false) xs at → Point xs extent at
point_of xs extent at p = (
  λ k d low less. let h = p.0 k d low less in grind (arith, nat_tests, h),
  λ k d low less. let h = p.1 k d low less in grind (arith, nat_tests, h),
)

-- One more is looked at.

looked : (test : ℕ → Bool) (n : ℕ) → passing test (n + 1) ≡ passing test n ++ filter test (n ∷ [])
looked test n =
    let e : n + 1 ≡ suc n = omega arith in
    ap (passing test) e ∙ ap (filter test) (range_more 0 n) ∙ filter-append test (range_with_len 0 n) ((0 + n) ∷ [])
    ∙ ap (λ k. passing test n ++ filter test (k ∷ [])) (let z : 0 + n ≡ n = omega arith in z)

pub one_passes : (test : ℕ → Bool) (n : ℕ) → test n ≡ true → passing test n ++ n ∷ [] ≡ passing test (n + 1)
one_passes test n on = sym (looked test n ∙ rw on refl)

pub one_fails : (test : ℕ → Bool) (n : ℕ) → test n ≡ false → passing test n ≡ passing test (n + 1)
one_fails test n off = sym (looked test n ∙ rw off (append-nil (passing test n)))
