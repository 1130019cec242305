-- Classes put in flight one after another, each found by its name.
use Rattle.std.proofs.Common.{◌≡◌, ◌≢◌, ℕ, ◌+◌, ◌<◌, ◌∙◌, true, false, inl, inr, List, [], ◌∷◌, ◌++◌, length, map, take, drop, get_or, set, get_or-set_same, get_or-set_other, refl, sym, ap, subst, arith}
use Rattle.std.specs.Prelude.{◌==◌, ◌||◌}
use Rattle.std.proofs.lemmas.Bool.{cases_Bool, cases_eq, cases_lt, both_ways, eq-eqb, eqb-true, false_from_ne_true, or_cases, or_left, or_right}
use Rattle.std.proofs.lemmas.List.{length-map, length-set, get_or-map, get_or_past, ext_get_or, take_more, take-append-drop}
use Rattle.std.proofs.lemmas.List.Folds.{list_any-append}
use Rattle.patch_model.specs.Entry.{is_among}
use Rattle.patch_records.specs.Records.{Class, no_class, departed, departed_among}
use Rattle.patch_stacks.specs.State.{Block, class_at, departed_at, HasDeparted, AreDeparting, with_departed, IsOnlyNamed}
use Rattle.patch_stacks.proofs.Departed.{same-name}

-- the numbers are among these and one more
among_more : (numbers : List ℕ) (n x : ℕ) → is_among (numbers ++ n ∷ []) x ≡ (is_among numbers x || is_among (n ∷ []) x)
among_more numbers n x = list_any-append (λ m. m == x) numbers (n ∷ [])

departs-in : (numbers : List ℕ) (c : Class) → is_among numbers c.name ≡ true → departed_among numbers c ≡ departed c
departs-in numbers c t = rw t refl

departs-out : (numbers : List ℕ) (c : Class) → is_among numbers c.name ≡ false → departed_among numbers c ≡ c
departs-out numbers c t = rw t refl

-- in flight already, where it is named
departs-again : (numbers : List ℕ) (c : Class) → departed (departed_among numbers c) ≡ departed c
departs-again numbers c = elim (cases_Bool (is_among numbers c.name)) [
  | inl t ↦ ap departed (departs-in numbers c t)
  | inr f ↦ ap departed (departs-out numbers c f)
]

named_last : (numbers : List ℕ) (c : Class) (n : ℕ) → c.name ≡ n → departed_among (numbers ++ n ∷ []) c ≡ departed c
named_last numbers c n is = departs-in (numbers ++ n ∷ []) c
    (among_more numbers n c.name ∙ or_right (is_among numbers c.name) _ (or_left (n == c.name) false (eq-eqb _ _ (sym is))))

not_last : (n x : ℕ) → x ≢ n → is_among (n ∷ []) x ≡ false
not_last n x ne = false_from_ne_true _ (λ t. elim (or_cases (n == x) false t) [ inl e ↦ ne (sym (eqb-true _ _ e)) | inr e ↦ absurd (cc) ])

named_else : (numbers : List ℕ) (c : Class) (n : ℕ) → c.name ≢ n → departed_among (numbers ++ n ∷ []) c ≡ departed_among numbers c
named_else numbers c n ne = elim (cases_Bool (is_among numbers c.name)) [
  | inl t ↦ departs-in (numbers ++ n ∷ []) c (among_more numbers n c.name ∙ or_left _ (is_among (n ∷ []) c.name) t) ∙ sym (departs-in numbers c t)
  | inr f ↦
      let off : is_among (numbers ++ n ∷ []) c.name ≡ false = false_from_ne_true _ (λ t.
      elim (or_cases (is_among numbers c.name) (is_among (n ∷ []) c.name) (sym (among_more numbers n c.name) ∙ t)) [
        | inl u ↦ both_ways _ f u
        | inr u ↦ both_ways _ (not_last n c.name ne) u
      ]) in
      departs-out (numbers ++ n ∷ []) c off ∙ sym (departs-out numbers c f)
]

-- one more name, whose class is the only one
pub one_departed : (b : Block) (numbers : List ℕ) (n at : ℕ) → IsOnlyNamed (with_departed b numbers) n at
    → departed_at (with_departed b numbers) at ≡ with_departed b (numbers ++ n ∷ [])
one_departed b numbers n at one =
    let f = departed_among numbers in
    let l = length-map b.classes f in
    let m = length-map b.classes (departed_among (numbers ++ n ∷ [])) in
    let s = length-set (map f b.classes) at (departed (get_or (map f b.classes) at no_class)) in
    let was : (i : ℕ) → i < length b.classes → get_or (map f b.classes) i no_class ≡ f (class_at b i) =
    (λ i w. get_or-map f b.classes i no_class no_class w) in
    let w : at < length b.classes = omega (arith, one.within) in
    ap (λ cs. let d : Block = record { bytes = b.bytes; classes = cs } in d)
    (ext_get_or no_class (set (map f b.classes) at (departed (get_or (map f b.classes) at no_class))) (map (departed_among (numbers ++ n ∷ [])) b.classes) (s ∙ l ∙ sym m) (λ i v.
    let v_i : i < length b.classes = omega arith in
    let now = get_or-map (departed_among (numbers ++ n ∷ [])) b.classes i no_class no_class v_i in
    elim (cases_eq i at) [
      | inl e ↦
          let name : (class_at b at).name ≡ n = sym (same-name numbers (class_at b at)) ∙ ap (λ c. c.name) (sym (was at w)) ∙ one.named in
          subst (λ (k : ℕ). get_or (set (map f b.classes) at (departed (get_or (map f b.classes) at no_class))) k no_class
          ≡ get_or (map (departed_among (numbers ++ n ∷ [])) b.classes) k no_class) (sym e)
          (get_or-set_same (map f b.classes) at (departed (get_or (map f b.classes) at no_class)) no_class one.within
          ∙ ap departed (was at w) ∙ departs-again numbers (class_at b at) ∙ sym (named_last numbers (class_at b at) n name)
          ∙ sym (get_or-map (departed_among (numbers ++ n ∷ [])) b.classes at no_class no_class w))
      | inr ne ↦
          let name : (class_at b i).name ≢ n = (λ is. ne (one.only i (omega arith) (ap (λ c. c.name) (was i v_i) ∙ same-name numbers (class_at b i) ∙ is))) in
          get_or-set_other (map f b.classes) at i (departed (get_or (map f b.classes) at no_class)) no_class ne
          ∙ was i v_i ∙ sym (named_else numbers (class_at b i) n name) ∙ sym now
    ]))

pub none_departed : (b : Block) → b ≡ with_departed b []
none_departed b = ap (λ cs. let d : Block = record { bytes = b.bytes; classes = cs } in d) (sym (same b.classes))
  where
    same : (cs : List Class) → map (departed_among []) cs ≡ cs
    same [] = refl
    same (c ∷ cs) = ap (λ ds. c ∷ ds) (same cs)

pub next_departed : (b now : Block) (numbers : List ℕ) (k n at : ℕ) → k < length numbers → n ≡ get_or numbers k n
    → now ≡ with_departed b (take k numbers) → IsOnlyNamed now n at → departed_at now at ≡ with_departed b (take (k + 1) numbers)
next_departed b now numbers k n at w is e one =
    ap (λ z. departed_at z at) e ∙ one_departed b (take k numbers) n at (subst (λ z. IsOnlyNamed z n at) e one)
    ∙ ap (with_departed b) (ap (λ (z : ℕ). take k numbers ++ z ∷ []) is ∙ sym (take_more numbers k n w))

-- all depart after the first of them
map_twice : (first all : List ℕ) (cs : List Class) → ((x : ℕ) → is_among first x ≡ true → is_among all x ≡ true)
    → map (departed_among all) (map (departed_among first) cs) ≡ map (departed_among all) cs
map_twice first all [] inside = refl
map_twice first all (c ∷ cs) inside =
    let here : departed_among all (departed_among first c) ≡ departed_among all c = elim (cases_Bool (is_among first c.name)) [
      | inl t ↦
          let on = inside c.name t in
          ap (departed_among all) (departs-in first c t) ∙ departs-in all (departed c) on ∙ sym (departs-in all c on)
      | inr f ↦ ap (departed_among all) (departs-out first c f)
    ] in
    ap (λ d. d ∷ map (departed_among all) (map (departed_among first) cs)) here ∙ ap (λ ds. departed_among all c ∷ ds) (map_twice first all cs inside)

among_front : (k : ℕ) (numbers : List ℕ) (x : ℕ) → is_among (take k numbers) x ≡ true → is_among numbers x ≡ true
among_front k numbers x t =
    ap (λ ns. is_among ns x) (sym (take-append-drop k numbers)) ∙ list_any-append (λ m. m == x) (take k numbers) (drop k numbers) ∙ or_left _ (is_among (drop k numbers) x) t

front_departed : (b : Block) (numbers : List ℕ) (k : ℕ) → HasDeparted numbers b (with_departed b (take k numbers))
front_departed b numbers k = record {
  bytes = refl;
  long = length-map b.classes (departed_among (take k numbers));
  each = λ i. elim (cases_lt i (length b.classes)) [
    | inl w ↦
        let is = get_or-map (departed_among (take k numbers)) b.classes i no_class no_class w in
        elim (cases_Bool (is_among (take k numbers) (class_at b i).name)) [
          | inl t ↦ inr (among_front k numbers (class_at b i).name t, is ∙ departs-in (take k numbers) (class_at b i) t)
          | inr f ↦ inl (is ∙ departs-out (take k numbers) (class_at b i) f)
        ]
    | inr past ↦
        let l = length-map b.classes (departed_among (take k numbers)) in
        inl (get_or_past (map (departed_among (take k numbers)) b.classes) i no_class (omega arith) ∙ sym (get_or_past b.classes i no_class past))
  ];
}

-- after so many of the names
pub some_departing : (b now : Block) (names : List ℕ) (k : ℕ) → now ≡ with_departed b (take k names) → AreDeparting names b false now
some_departing b now names k e = subst (λ z. AreDeparting names b false z) (sym e) (record {
  done = λ t. absurd (cc);
  left = ap (λ cs. let d : Block = record { bytes = b.bytes; classes = cs } in d) (map_twice (take k names) names b.classes (among_front k names));
  named = front_departed b names k;
})

-- after all of them
pub all_departing : (b now : Block) (names : List ℕ) (k : ℕ) → take k names ≡ names → now ≡ with_departed b (take k names) → AreDeparting names b true now
all_departing b now names k all e =
    let a = some_departing b now names k e in
    record { done = λ t. e ∙ ap (with_departed b) all; left = a.left; named = a.named }
