-- How a number goes into the groups of a writer.
use Rattle.std.proofs.Common.{◌≡◌, ◌≢◌, ℕ, zero, suc, ◌+◌, ◌<◌, ◌≤◌, ◌∙◌, inl, inr, true, false, List, [], ◌∷◌, ◌++◌, length, filter, refl, sym, ap, subst, arith, get_or, length-set}
use Rattle.std.specs.Prelude.{◌==◌}
use Rattle.std.proofs.lemmas.Bool.{cases_Bool, eq-eqb}
use Rattle.patch_model.specs.Member.{In, In-from_Contains, Contains-from_In, In-filter}
use Rattle.patch_plans.specs.Groups.{Group, AreApart, entered}
use Rattle.patch_group.specs.declared.records.Record.{Record}
use Rattle.patch_group.specs.Records.{names_of, HasRoomAt, HaveRoom}
use Rattle.patch_plans.specs.Members.{append-In, In-map}

pub names_of-mine : (es : List (ℕ × ℕ)) (writer : ℕ) (e : ℕ × ℕ) → (e.0 == writer) ≡ true → names_of (es ++ e ∷ []) writer ≡ names_of es writer ++ e.1 ∷ []
names_of-mine [] writer e t = rw t refl
names_of-mine (x ∷ es) writer e t = elim (cases_Bool (x.0 == writer)) [
  | inl u ↦ rw u (ap (λ ns. x.1 ∷ ns) (names_of-mine es writer e t))
  | inr u ↦ rw u (names_of-mine es writer e t)
]

pub names_of-other : (es : List (ℕ × ℕ)) (writer : ℕ) (e : ℕ × ℕ) → (e.0 == writer) ≡ false → names_of (es ++ e ∷ []) writer ≡ names_of es writer
names_of-other [] writer e t = rw t refl
names_of-other (x ∷ es) writer e t = elim (cases_Bool (x.0 == writer)) [
  | inl u ↦ rw u (ap (λ ns. x.1 ∷ ns) (names_of-other es writer e t))
  | inr u ↦ rw u (names_of-other es writer e t)
]

pub entered-push : (gs : List Group) (names : List ℕ) (k n : ℕ) → entered gs (names ++ k ∷ []) n ≡ entered (entered gs names n) (k ∷ []) n
entered-push gs [] k n = refl
entered-push gs (x ∷ names) k n = entered-push _ names k n

pub room_none : {A : Type 0} → (records : List (Record A)) → HaveRoom records []
room_none records k c = absurd (In-from_Contains [] k c)

pub room_more : {A : Type 0} → (old new : List (Record A)) (names : List ℕ) (k : ℕ) → HaveRoom old names → ((j : ℕ) → HasRoomAt old j → HasRoomAt new j) → HasRoomAt new k → HaveRoom new (names ++ k ∷ [])
room_more old new names k have others here j c = elim (append-In names (k ∷ []) j (In-from_Contains _ j c)) [
  | inl i ↦ others j (have j (Contains-from_In names j i))
  | inr i ↦ elim i [ inl e ↦ subst (λ m. HasRoomAt new m) e here | inr none ↦ absurd none ]
]

-- each engagement of the writer from this one on is of a group with room
abbrev pub RoomFrom : {A : Type 0} → List (Record A) → List (ℕ × ℕ) → ℕ → ℕ → Type 0
RoomFrom records es writer i = (j : ℕ) (d : ℕ × ℕ) → i ≤ j → j < length es → (get_or es j d).0 ≡ writer → HasRoomAt records (get_or es j d).1

same_default : (xs : List (ℕ × ℕ)) (i : ℕ) (d e : ℕ × ℕ) → i < length xs → get_or xs i d ≡ get_or xs i e
same_default [] i d e l = absurd (omega (arith, l))
same_default (x ∷ xs) zero d e l = refl
same_default (x ∷ xs) (suc i) d e l = same_default xs i d e (omega (arith, l))

pub room_from : {A : Type 0} → (records : List (Record A)) (es : List (ℕ × ℕ)) (writer : ℕ) → HaveRoom records (names_of es writer) → RoomFrom records es writer 0
room_from records es writer have j d le l mine =
    let x = get_or es j d in
    let i : In es x = In-from_Contains es x (j, l, same_default es j x d l) in
    have x.1 (Contains-from_In _ x.1 (In-map (λ e. e.1) (filter (λ e. e.0 == writer) es) x (In-filter (λ e. e.0 == writer) es x i (eq-eqb _ _ mine))))

pub room_after : {A : Type 0} → (old new : List (Record A)) (es : List (ℕ × ℕ)) (writer i : ℕ) (d : ℕ × ℕ) → AreApart es → (get_or es i d).0 ≡ writer
    → RoomFrom old es writer i → ((k : ℕ) → k ≢ (get_or es i d).1 → HasRoomAt old k → HasRoomAt new k) → RoomFrom new es writer (i + 1)
room_after old new es writer i d apart mine room others j f le l its =
    others (get_or es j f).1
    (λ same. let a : get_or es j f ≡ get_or es j d = same_default es j f d l in
    apart i j d (omega (arith, le)) l (pair_same (get_or es i d) (get_or es j d) (mine ∙ sym its ∙ ap (λ x. x.0) a) (sym same ∙ ap (λ x. x.1) a)))
    (room j f (omega (arith, le)) l its)
  where
    pair_same : (x y : ℕ × ℕ) → x.0 ≡ y.0 → x.1 ≡ y.1 → x ≡ y
    pair_same x y a b = ap (λ k. let p : ℕ × ℕ = (k, x.1) in p) a ∙ ap (λ k. let p : ℕ × ℕ = (y.0, k) in p) b

pub room_still : {A : Type 0} → (records : List (Record A)) (es : List (ℕ × ℕ)) (writer i : ℕ) → RoomFrom records es writer i → RoomFrom records es writer (i + 1)
room_still records es writer i room j d le l mine = room j d (omega (arith, le)) l mine

pub length-entered : (gs : List Group) (names : List ℕ) (n : ℕ) → length (entered gs names n) ≡ length gs
length-entered gs [] n = refl
length-entered gs (k ∷ names) n = length-entered _ names n ∙ length-set gs k _
