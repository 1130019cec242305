-- Lists of entries in the order of their numbers, and which patches are among some: the lemmas of several crates' proofs.
use Rattle.std.proofs.Common.{◌≡◌, ◌<◌, ◌∙◌, inl, inr, Bool, true, List, [], ◌∷◌, refl, sym, ap, arith, subst}
use Rattle.std.proofs.lemmas.Bool.{cases_Bool}
use Rattle.std.proofs.lemmas.Bool.Decides.{nat_tests}
use Rattle.std.specs.Prelude.{◌==◌}
use Rattle.std.specs.List.{AllByRecursion, filter}
use Rattle.patch_model.specs.Entry.{Entry}
use Rattle.patch_model.specs.Member.{In, filter-In, list_any-at, list_any-from}
use Rattle.patch_model.specs.Ready.{IsRising, has}

-- each patch has a number of its own
abbrev pub AreApart : List Entry → Type 0
AreApart all = (e f : Entry) → In all e → In all f → e.patch.no ≡ f.patch.no → e ≡ f

pub has-In : (all set : List Entry) (e : Entry) → AreApart all → ((f : Entry) → In set f → In all f) → In all e → has set e ≡ true → In set e
has-In all set e apart inside h t =
    let r = list_any-at (λ f. f.patch.no == e.patch.no) set t in
    let same : r.0.patch.no ≡ e.patch.no = grind (arith, nat_tests, r.2) in
    subst (λ x. In set x) (apart r.0 e (inside r.0 r.1) h same) r.1

pub In-has : (set : List Entry) (e : Entry) → In set e → has set e ≡ true
In-has set e h = list_any-from (λ f. f.patch.no == e.patch.no) set e h (grind (arith, nat_tests))

pub all-In : (P : Entry → Type 0) (es : List Entry) → AllByRecursion P es → (e : Entry) → In es e → P e
all-In P [] h e i = absurd i
all-In P (x ∷ xs) h e (inl same) = subst P same h.0
all-In P (x ∷ xs) h e (inr i) = all-In P xs h.1 e i

pub all-from_In : (P : Entry → Type 0) (es : List Entry) → ((e : Entry) → In es e → P e) → AllByRecursion P es
all-from_In P [] h = tt
all-from_In P (x ∷ xs) h = (h x (inl refl), all-from_In P xs (λ e i. h e (inr i)))

pub rising-filter : (p : Entry → Bool) (es : List Entry) → IsRising es → IsRising (filter p es)
rising-filter p [] h = tt
rising-filter p (x ∷ xs) h = elim (cases_Bool (p x)) [
  | inl u ↦ rw u (all-from_In (λ f. x.patch.no < f.patch.no) (filter p xs) (λ f i. all-In (λ f. x.patch.no < f.patch.no) xs h.0 f (filter-In p xs f i).0), rising-filter p xs h.1)
  | inr u ↦ rw u (rising-filter p xs h.1)
]

-- a member of the rest is above the first
above_first : (x : Entry) (xs : List Entry) → IsRising (x ∷ xs) → (e : Entry) → In xs e → x.patch.no < e.patch.no
above_first x xs h e i = all-In (λ f. x.patch.no < f.patch.no) xs h.0 e i

-- patches in the order of their numbers have numbers of their own
pub rising-apart : (es : List Entry) → IsRising es → AreApart es
rising-apart [] h e f i j same = absurd i
rising-apart (x ∷ xs) h e f (inl i) (inl j) same = sym i ∙ j
rising-apart (x ∷ xs) h e f (inl i) (inr j) same = let at : x.patch.no ≡ e.patch.no = ap (λ y. y.patch.no) i in let above = above_first x xs h f j in absurd (omega arith)
rising-apart (x ∷ xs) h e f (inr i) (inl j) same = let at : x.patch.no ≡ f.patch.no = ap (λ y. y.patch.no) j in let above = above_first x xs h e i in absurd (omega arith)
rising-apart (x ∷ xs) h e f (inr i) (inr j) same = rising-apart xs h.1 e f i j same

first_same : (x y : Entry) (xs ys : List Entry) → IsRising (x ∷ xs) → IsRising (y ∷ ys) → In (y ∷ ys) x → In (x ∷ xs) y → x ≡ y
first_same x y xs ys h g (inl e) j = sym e
first_same x y xs ys h g (inr i) (inl e) = e
first_same x y xs ys h g (inr i) (inr j) =
    let a : y.patch.no < x.patch.no = above_first y ys g x i in let b : x.patch.no < y.patch.no = above_first x xs h y j in absurd (omega arith)

rest_In : (x y : Entry) (xs ys : List Entry) → IsRising (x ∷ xs) → x ≡ y → (e : Entry) → In xs e → In (y ∷ ys) e → In ys e
rest_In x y xs ys h same e i (inr j) = j
rest_In x y xs ys h same e i (inl eq) =
    let a : x.patch.no < e.patch.no = above_first x xs h e i in let b : x.patch.no ≡ e.patch.no = ap (λ z. z.patch.no) (same ∙ eq) in absurd (omega arith)

-- two rising lists of the same patches are one
pub rising_same : (xs ys : List Entry) → IsRising xs → IsRising ys → ((e : Entry) → In xs e → In ys e) → ((e : Entry) → In ys e → In xs e) → xs ≡ ys
rising_same [] [] h g f k = refl
rising_same [] (y ∷ ys) h g f k = absurd (k y (inl refl))
rising_same (x ∷ xs) [] h g f k = absurd (f x (inl refl))
rising_same (x ∷ xs) (y ∷ ys) h g f k =
    let same : x ≡ y = first_same x y xs ys h g (f x (inl refl)) (k y (inl refl)) in
    let rest : xs ≡ ys = rising_same xs ys h.1 g.1 (λ e i. rest_In x y xs ys h same e i (f e (inr i))) (λ e i. rest_In y x ys xs g (sym same) e i (k e (inr i))) in
    ap (λ z. z ∷ xs) same ∙ ap (λ zs. y ∷ zs) rest
