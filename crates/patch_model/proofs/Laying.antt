-- Piles of patches, byte by byte.
use Rattle.std.proofs.Common.{◌≡◌, ℕ, ◌+◌, ◌-◌, ◌<◌, ◌≤◌, ◌∙◌, false, inl, inr, List, [], ◌∷◌, ◌++◌, length, get_or, refl, sym, ap, arith, subst, true}
use Rattle.std.proofs.lemmas.List.{places, same_lists}
use Rattle.std.proofs.lemmas.Bool.Decides.{nat_tests}
use Rattle.std.proofs.lemmas.Bool.{cases_Bool, and_parts, and_from}
use Rattle.std.specs.Prelude.{IsTrue, IsFalse, nat_le, nat_lt, ◌&&◌, ◌==◌, min, max}
use Rattle.std.proofs.lemmas.List.Sums.{fold-append}
use Rattle.std.specs.List.{AllByRecursion}
use Rattle.patch_model.specs.Patch.{Patch}
use Rattle.patch_model.specs.Pile.{end, lay, pile, covers}
use Rattle.patch_model.specs.Piles.{Fit, IsApart, NeighboursCommute, MayComeLast, UncoveredByte, CoveredByte, under, TakenBack, RearrangedAlike, unchanged, exchange}
use Rattle.patch_model.specs.Dependency.{shares_byte}
use Rattle.patch_model.specs.Laying.{length-lay, lay-uncovered, lay-covered, covers-from, covers-to}

pub fits-lay : (b : List ℕ) (p q : Patch) → end p ≤ length b → end q ≤ length b → end q ≤ length (lay b p)
fits-lay b p q fits_p fits_q = rw (length-lay b p fits_p) fits_q

-- a byte of two patches that share none, laid either way
lay-lay : (b : List ℕ) (p q : Patch) (k d : ℕ) → end p ≤ length b → end q ≤ length b → IsApart p q
    → get_or (lay (lay b p) q) k d ≡ get_or (lay (lay b q) p) k d
lay-lay b p q k d fits_p fits_q apart =
    let in_p = fits-lay b q p fits_q fits_p in
    let in_q = fits-lay b p q fits_p fits_q in
    elim (cases_Bool (covers p k)) [
      | inl on ↦ let off = apart k on in
          lay-uncovered (lay b p) q k d in_q off ∙ lay-covered b p k d fits_p on ∙ sym (lay-covered (lay b q) p k d in_p on)
      | inr off_p ↦ elim (cases_Bool (covers q k)) [
        | inl on ↦ lay-covered (lay b p) q k d in_q on ∙ sym (lay-covered b q k d fits_q on) ∙ sym (lay-uncovered (lay b q) p k d in_p off_p)
        | inr off_q ↦ lay-uncovered (lay b p) q k d in_q off_q ∙ lay-uncovered b p k d fits_p off_p
            ∙ sym (lay-uncovered b q k d fits_q off_q) ∙ sym (lay-uncovered (lay b q) p k d in_p off_p)
      ]
    ]

pub lay_comm : (b : List ℕ) (p q : Patch) → end p ≤ length b → end q ≤ length b → IsApart p q
    → lay (lay b p) q ≡ lay (lay b q) p
lay_comm b p q fits_p fits_q apart =
    let in_p = fits-lay b q p fits_q fits_p in
    let in_q = fits-lay b p q fits_p fits_q in
    same_lists _ _ (length-lay (lay b p) q in_q ∙ length-lay b p fits_p ∙ sym (length-lay (lay b q) p in_p ∙ length-lay b q fits_q))
    (λ k d h. lay-lay b p q k d fits_p fits_q apart)

-- the patches fit in a block of another's length
pub Fit-along : (m n : ℕ) (ps : List Patch) → m ≡ n → Fit m ps → Fit n ps
Fit-along m n ps e h = rw e at h

pub length-pile : (b : List ℕ) (ps : List Patch) → Fit (length b) ps → length (pile b ps) ≡ length b
length-pile b [] fit = refl
length-pile b (p ∷ ps) fit =
    length-pile (lay b p) ps (Fit-along _ _ ps (sym (length-lay b p fit.0)) fit.1) ∙ length-lay b p fit.0

pub Fit-left : (n : ℕ) (xs ys : List Patch) → Fit n (xs ++ ys) → Fit n xs
Fit-left n [] ys fit = tt
Fit-left n (x ∷ xs) ys fit = (fit.0, Fit-left n xs ys fit.1)

pub Fit-right : (n : ℕ) (xs ys : List Patch) → Fit n (xs ++ ys) → Fit n ys
Fit-right n [] ys fit = fit
Fit-right n (x ∷ xs) ys fit = Fit-right n xs ys fit.1

-- the rest of the patches fit in the pile of the first ones
pub Fit-pile : (b : List ℕ) (xs ys : List Patch) → Fit (length b) (xs ++ ys) → Fit (length (pile b xs)) ys
Fit-pile b xs ys fit =
    Fit-along _ _ ys (sym (length-pile b xs (Fit-left _ xs ys fit))) (Fit-right _ xs ys fit)

pub neighbours_commute : NeighboursCommute
neighbours_commute b xs p q ys fit apart =
    let fits = Fit-pile b xs (p ∷ q ∷ ys) fit in
    fold-append lay b xs (p ∷ q ∷ ys) ∙ ap (λ c. pile c ys) (lay_comm (pile b xs) p q fits.0 fits.1.0 apart) ∙ sym (fold-append lay b xs (q ∷ p ∷ ys))

last_over : (b : List ℕ) (p : Patch) (ys : List Patch) → end p ≤ length b → Fit (length b) ys → AllByRecursion (IsApart p) ys
    → pile (lay b p) ys ≡ lay (pile b ys) p
last_over b p [] fits fit apart = refl
last_over b p (y ∷ ys) fits fit apart =
    ap (λ c. pile c ys) (lay_comm b p y fits fit.0 apart.0)
    ∙ last_over (lay b y) p ys (fits-lay b y p fit.0 fits) (Fit-along _ _ ys (sym (length-lay b y fit.0)) fit.1) apart.1

pub may_come_last : MayComeLast
may_come_last b xs p ys fit apart =
    let fits = Fit-pile b xs (p ∷ ys) fit in
    fold-append lay b xs (p ∷ ys) ∙ last_over (pile b xs) p ys fits.0 fits.1 apart
    ∙ sym (fold-append lay b (xs ++ ys) (p ∷ []) ∙ ap (λ c. lay c p) (fold-append lay b xs ys))

pub uncovered_byte : UncoveredByte
uncovered_byte b [] k fit off = refl
uncovered_byte b (p ∷ ps) k fit off =
    uncovered_byte (lay b p) ps k (Fit-along _ _ ps (sym (length-lay b p fit.0)) fit.1) off.1 ∙ lay-uncovered b p k 0 fit.0 off.0

pub covered_byte : CoveredByte
covered_byte b xs p ys k fit on off =
    let fits = Fit-pile b xs (p ∷ ys) fit in
    ap (λ c. get_or c k 0) (fold-append lay b xs (p ∷ ys))
    ∙ uncovered_byte (lay (pile b xs) p) ys k (Fit-along _ _ ys (sym (length-lay (pile b xs) p fits.0)) fits.1) off
    ∙ lay-covered (pile b xs) p k 0 fits.0 on

-- a byte that later patches don't cover, at any default
pile-off : (b : List ℕ) (ps : List Patch) (k d : ℕ) → Fit (length b) ps → AllByRecursion (λ p. IsFalse (covers p k)) ps → get_or (pile b ps) k d ≡ get_or b k d
pile-off b [] k d fit off = refl
pile-off b (p ∷ ps) k d fit off =
    pile-off (lay b p) ps k d (Fit-along _ _ ps (sym (length-lay b p fit.0)) fit.1) off.1 ∙ lay-uncovered b p k d fit.0 off.0

off-from_apart : (p : Patch) (ps : List Patch) (k : ℕ) → AllByRecursion (IsApart p) ps → IsTrue (covers p k) → AllByRecursion (λ q. IsFalse (covers q k)) ps
off-from_apart p [] k apart on = tt
off-from_apart p (q ∷ qs) k apart on = (apart.0 k on, off-from_apart p qs k apart.1 on)

length-under : (b : List ℕ) (p : Patch) → end p ≤ length b → length (under b p) ≡ length p.bytes
length-under b p fits = grind (arith, places)

under-at : (b : List ℕ) (p : Patch) (k d : ℕ) → end p ≤ length b → p.start ≤ k → k < end p → get_or (under b p) (k - p.start) d ≡ get_or b k d
under-at b p k d fits from to = grind (arith, places)

-- what was under a patch, laid over it again
lay-under : (b c : List ℕ) (p : Patch) → end p ≤ length b → end p ≤ length c
    → ((k d : ℕ) → IsTrue (covers p k) → get_or c k d ≡ get_or b k d)
    → lay (lay c p) (record p { bytes = under b p }) ≡ c
lay-under b c p fits_b fits_c same =
    let q : Patch = record p { bytes = under b p } in
    let long : length (under b p) ≡ length p.bytes = length-under b p fits_b in
    let fits : end q ≤ length (lay c p) = rw (length-lay c p fits_c) (omega (arith, long)) in
    same_lists _ _ (length-lay (lay c p) q fits ∙ length-lay c p fits_c) (λ k d h.
    elim (cases_Bool (covers p k)) [
      | inl on ↦ let both = covers-from p k on in
          let on_q : IsTrue (covers q k) = covers-to q k both.0 (omega (arith, long)) in
          lay-covered (lay c p) q k d fits on_q ∙ under-at b p k d fits_b both.0 both.1 ∙ sym (same k d on)
      | inr off ↦ let off_q : IsFalse (covers q k) = subst (λ n. (nat_le p.start k && nat_lt k (p.start + n)) ≡ false) (sym long) off in
          lay-uncovered (lay c p) q k d fits off_q ∙ lay-uncovered c p k d fits_c off
    ])

pub taken_back : TakenBack
taken_back b xs p ys fit apart =
    let fits = Fit-pile b xs (p ∷ ys) fit in
    let c = pile b (xs ++ ys) in
    let is_c : pile b (xs ++ ys) ≡ pile (pile b xs) ys = fold-append lay b xs ys in
    let last : pile b (xs ++ p ∷ ys) ≡ lay (pile b (xs ++ ys)) p =
    may_come_last b xs p ys fit apart ∙ fold-append lay b (xs ++ ys) (p ∷ []) in
    let long : length (pile b (xs ++ ys)) ≡ length (pile b xs) = ap length is_c ∙ length-pile (pile b xs) ys fits.1 in
    let fits_p : end p ≤ length (pile b xs) = fits.0 in
    let fits_c : end p ≤ length (pile b (xs ++ ys)) = omega arith in
    ap (λ z. lay z (record p { bytes = under (pile b xs) p })) last
    ∙ lay-under (pile b xs) (pile b (xs ++ ys)) p fits_p fits_c
    (λ k d on. ap (λ z. get_or z k d) is_c ∙ pile-off (pile b xs) ys k d fits.1 (off-from_apart p ys k apart on))

Fit-exchange : (n : ℕ) (xs : List Patch) (p q : Patch) (ys : List Patch) → Fit n (xs ++ p ∷ q ∷ ys) → Fit n (xs ++ q ∷ p ∷ ys)
Fit-exchange n [] p q ys fit = (fit.1.0, (fit.0, fit.1.1))
Fit-exchange n (x ∷ xs) p q ys fit = (fit.0, Fit-exchange n xs p q ys fit.1)

pub rearranged_alike : RearrangedAlike
rearranged_alike b xs ys fit unchanged = refl
rearranged_alike b xs ys fit (exchange before p q later apart rest) =
    neighbours_commute b before p q later fit apart
    ∙ rearranged_alike b (before ++ q ∷ p ∷ later) ys (Fit-exchange (length b) before p q later fit) rest

-- two patches share a byte where some place is in both spans
pub shared_place : (p q : Patch) → IsTrue (shares_byte p q) → (p.block ≡ q.block) × ((place : ℕ) × IsTrue (covers p place) × IsTrue (covers q place))
shared_place p q h =
    let both = and_parts (p.block == q.block) (nat_lt (max p.start q.start) (min (end p) (end q))) h in
    let less : max p.start q.start < min (end p) (end q) = grind (arith, nat_tests, both.1) in
    let place : ℕ = max p.start q.start in
    (grind (arith, nat_tests, both.0), (place, covers-to p place (omega arith) (omega arith), covers-to q place (omega arith) (omega arith)))

pub place_shared : (p q : Patch) (place : ℕ) → p.block ≡ q.block → IsTrue (covers p place) → IsTrue (covers q place) → IsTrue (shares_byte p q)
place_shared p q place block on_p on_q =
    let a = covers-from p place on_p in
    let b = covers-from q place on_q in
    let less : max p.start q.start < min (end p) (end q) = omega arith in
    and_from _ _ (let same : (p.block == q.block) ≡ true = grind (arith, nat_tests) in same) (let t : nat_lt (max p.start q.start) (min (end p) (end q)) ≡ true = grind (arith, nat_tests) in t)
