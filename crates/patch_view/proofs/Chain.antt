-- At each byte the classes lie one over another: what a set of the uppermost ones leaves there.
use Rattle.std.proofs.Common.{◌≡◌, ℕ, ◌+◌, ◌-◌, ◌<◌, ◌≤◌, ◌⊎◌, ◌∙◌, true, false, not, inl, inr, Bool, List, [], ◌∷◌, ◌++◌, take, drop, length, map, get_or, refl, sym, ap, arith, subst, min, max}
use Rattle.std.specs.Prelude.{◌==◌, ◌&&◌, ◌||◌, ◌≢◌, nat_lt, filter}
use Rattle.std.proofs.lemmas.Bool.{cases_Bool, and_parts, and_from, or_left, or_right, both_ways, eqb-true, eq-eqb, ne_eqb, ltb-true, lt-ltb, not_from_false, cases_eq, cases_lt, cases_order, false_from_ne_true}
use Rattle.std.proofs.lemmas.List.{places, ext_get_or}
use Rattle.patch_model.specs.Marked.{memory-not_durable}
use Rattle.patch_model.specs.Pile.{end, covers, lay, pile}
use Rattle.patch_model.specs.Dependency.{depends_directly}
use Rattle.patch_model.specs.Entry.{Entry, is_durable, is_memory, is_among, is_undoable}
use Rattle.patch_model.specs.Member.{In, list_any-at, list_any-from, list_all-at, list_all-from}
use Rattle.patch_model.specs.History.{History, pile_of, without}
use Rattle.patch_view.proofs.Sets.{IsUpper}
use Rattle.patch_view.specs.History.{IsCoherent, class_covers, comes_before, top, below}
use Rattle.patch_model.specs.Laying.{length-lay, lay-covered, lay-uncovered, covers-from}
use Rattle.patch_records.proofs.Bytes.{laid-before, laid-behind, laid-inside}

-- two sets that agree on the patches of a byte leave the same there
pub pile-agree : (es : List Entry) (a b : List ℕ) (k l : Entry → Bool) (x n : ℕ) → length a ≡ n → length b ≡ n
    → ((e : Entry) → In es e → end e.patch ≤ n)
    → ((e : Entry) → In es e → covers e.patch x ≡ true → k e ≡ l e)
    → get_or a x 0 ≡ get_or b x 0
    → get_or (pile a (map (λ e. e.patch) (filter k es))) x 0 ≡ get_or (pile b (map (λ e. e.patch) (filter l es))) x 0
pile-agree [] a b k l x n la lb fits agree same = same
pile-agree (e ∷ es) a b k l x n la lb fits agree same =
    let fit : end e.patch ≤ n = fits e (inl refl) in
    let fa : end e.patch ≤ length a = rw la fit in
    let fb : end e.patch ≤ length b = rw lb fit in
    let rest = λ (g : Entry) (i : In es g). fits g (inr i) in
    let agreeing = λ (g : Entry) (i : In es g). agree g (inr i) in
    let ma : length (lay a e.patch) ≡ n = length-lay a e.patch fa ∙ la in
    let mb : length (lay b e.patch) ≡ n = length-lay b e.patch fb ∙ lb in
    elim (cases_Bool (covers e.patch x)) [
      | inl on ↦ elim (cases_Bool (k e)) [
        | inl u ↦ let v : l e ≡ true = sym (agree e (inl refl) on) ∙ u in
            rw (u, v) (pile-agree es (lay a e.patch) (lay b e.patch) k l x n ma mb rest agreeing
            (lay-covered a e.patch x 0 fa on ∙ sym (lay-covered b e.patch x 0 fb on)))
        | inr u ↦ let v : l e ≡ false = sym (agree e (inl refl) on) ∙ u in
            rw (u, v) (pile-agree es a b k l x n la lb rest agreeing same)
      ]
      | inr off ↦
          let sa : get_or (lay a e.patch) x 0 ≡ get_or a x 0 = lay-uncovered a e.patch x 0 fa off in
          let sb : get_or (lay b e.patch) x 0 ≡ get_or b x 0 = lay-uncovered b e.patch x 0 fb off in
          elim (cases_Bool (k e)) [
            | inl u ↦ elim (cases_Bool (l e)) [
              | inl v ↦ rw (u, v) (pile-agree es (lay a e.patch) (lay b e.patch) k l x n ma mb rest agreeing (sa ∙ same ∙ sym sb))
              | inr v ↦ rw (u, v) (pile-agree es (lay a e.patch) b k l x n ma lb rest agreeing (sa ∙ same))
            ]
            | inr u ↦ elim (cases_Bool (l e)) [
              | inl v ↦ rw (u, v) (pile-agree es a (lay b e.patch) k l x n la mb rest agreeing (same ∙ sym sb))
              | inr v ↦ rw (u, v) (pile-agree es a b k l x n la lb rest agreeing same)
            ]
          ]
    ]

pub length-pile_of : (es : List Entry) (a : List ℕ) (k : Entry → Bool) (n : ℕ) → length a ≡ n → ((e : Entry) → In es e → end e.patch ≤ n)
    → length (pile a (map (λ e. e.patch) (filter k es))) ≡ n
length-pile_of [] a k n la fits = la
length-pile_of (e ∷ es) a k n la fits =
    let fit : end e.patch ≤ n = fits e (inl refl) in
    let fa : end e.patch ≤ length a = rw la fit in
    elim (cases_Bool (k e)) [
      | inl u ↦ rw u (length-pile_of es (lay a e.patch) k n (length-lay a e.patch fa ∙ la) (λ g i. fits g (inr i)))
      | inr u ↦ rw u (length-pile_of es a k n la (λ g i. fits g (inr i)))
    ]

pub length-by : (h : History) (k : Entry → Bool) → IsCoherent h → length (pile_of h k) ≡ 4096
length-by h k o = length-pile_of h.entries h.first k 4096 o.long o.fits

pub same_byte : (h : History) (k l : Entry → Bool) (x : ℕ) → IsCoherent h → ((e : Entry) → In h.entries e → covers e.patch x ≡ true → k e ≡ l e)
    → get_or (pile_of h k) x 0 ≡ get_or (pile_of h l) x 0
same_byte h k l x o agree = pile-agree h.entries h.first h.first k l x 4096 o.long o.long o.fits agree refl

-- the one set is the other with the class c
pub record IsStep (h : History) (c : ℕ) (less more : List ℕ) : Type 0 where
  pub less_holds : IsUpper h less
  pub more_holds : IsUpper h more
  pub out : is_among less c ≡ false
  pub inside : is_among more c ≡ true
  pub others : (n : ℕ) → n ≢ c → is_among more n ≡ is_among less n

-- two patches of one byte: the later depends directly on the earlier
pub later_depends : (h : History) (e f : Entry) (x : ℕ) → IsCoherent h → In h.entries e → In h.entries f
    → covers e.patch x ≡ true → covers f.patch x ≡ true → f.patch.no < e.patch.no → depends_directly e.patch f.patch ≡ true
later_depends h e f x o i j on_e on_f less =
    let a : (e.patch.start ≤ x) × (x < end e.patch) = covers-from e.patch x on_e in
    let b : (f.patch.start ≤ x) × (x < end f.patch) = covers-from f.patch x on_f in
    or_right (is_among e.patch.after f.patch.no) _ (and_from _ _ (lt-ltb _ _ less)
    (and_from _ _ (eq-eqb _ _ (o.one_block e f i j)) (lt-ltb (max e.patch.start f.patch.start) (min (end e.patch) (end f.patch)) (omega arith))))

pub undoable-not_durable : (e : Entry) → is_undoable e ≡ true → is_durable e ≡ false
undoable-not_durable e u = memory-not_durable e.mark (and_parts _ _ u).0

-- a class that covers the byte has a patch there
pub covering : (h : History) (c x : ℕ) → class_covers h c x ≡ true → (f : Entry) × In h.entries f × (f.class ≡ c) × (covers f.patch x ≡ true)
covering h c x on = let r = list_any-at _ h.entries on in let p = and_parts _ _ r.2 in (r.0, r.1, eqb-true _ _ p.0, p.1)

pub before-at : (h : History) (c x : ℕ) (e f : Entry) → comes_before h c x e ≡ true → In h.entries f → f.class ≡ c → covers f.patch x ≡ true
    → e.patch.no < f.patch.no
before-at h c x e f t j is_c on =
    let p = list_all-at _ h.entries f t j in
    let u : (f.class == c && covers f.patch x) ≡ true = and_from _ _ (eq-eqb _ _ is_c) on in
    ltb-true _ _ (rw u at p)

pub before-from : (h : History) (c x : ℕ) (e : Entry) → ((f : Entry) → In h.entries f → f.class ≡ c → covers f.patch x ≡ true → e.patch.no < f.patch.no)
    → comes_before h c x e ≡ true
before-from h c x e all = list_all-from (λ f. not (f.class == c && covers f.patch x) || nat_lt e.patch.no f.patch.no) h.entries (λ f j.
    elim (cases_Bool (f.class == c && covers f.patch x)) [
      | inl v ↦ let p : ((f.class == c) ≡ true) × (covers f.patch x ≡ true) = and_parts _ _ v in
          or_right (not (f.class == c && covers f.patch x)) _ (lt-ltb _ _ (all f j (eqb-true _ _ p.0) p.1))
      | inr v ↦ or_left _ (nat_lt e.patch.no f.patch.no) (not_from_false _ v)
    ])

-- what is in the larger set and covers the byte was made no earlier than the class
not_under : (h : History) (c : ℕ) (less more : List ℕ) (x : ℕ) (e f : Entry) → IsCoherent h → IsStep h c less more
    → In h.entries e → In h.entries f → covers e.patch x ≡ true → covers f.patch x ≡ true
    → is_among more e.class ≡ true → f.class ≡ c → e.patch.no < f.patch.no → e.class ≢ c → ⊥
not_under h c less more x e f o step i j on_e on_f u is_c before not_c =
    let in_f : is_among more f.class ≡ true = rw is_c step.inside in
    let low : is_durable f ≡ false = undoable-not_durable f (step.more_holds.undoable f j in_f) in
    let d : depends_directly f.patch e.patch ≡ true = later_depends h f e x o j i on_f on_e before in
    let in_e : is_among less e.class ≡ true = sym (step.others e.class not_c) ∙ u in
    both_ways _ step.out (subst (λ n. is_among less n ≡ true) is_c (step.less_holds.dependents f e j i d low in_e))

-- what covers the byte and was made later than a patch of the class is in the larger set
above : (h : History) (c : ℕ) (less more : List ℕ) (x : ℕ) (e f : Entry) → IsCoherent h → IsStep h c less more
    → In h.entries e → In h.entries f → covers e.patch x ≡ true → covers f.patch x ≡ true
    → f.class ≡ c → f.patch.no < e.patch.no → is_among more e.class ≡ true
above h c less more x e f o step i j on_e on_f is_c later =
    let in_f : is_among more f.class ≡ true = rw is_c step.inside in
    let low : is_memory f ≡ true = (and_parts _ _ (step.more_holds.undoable f j in_f)).0 in
    let d : depends_directly e.patch f.patch ≡ true = later_depends h e f x o i j on_e on_f later in
    let high : is_durable e ≡ false = false_from_ne_true _ (λ t. both_ways _ (o.durable_first e f i j d t) low) in
    step.more_holds.dependents e f i j d high in_f

-- the patches that the larger set leaves at a byte of the class are those made before it
pub below_kept : (h : History) (c : ℕ) (less more : List ℕ) (x : ℕ) (e : Entry) → IsCoherent h → IsStep h c less more
    → class_covers h c x ≡ true → In h.entries e → covers e.patch x ≡ true
    → not (is_among more e.class) ≡ comes_before h c x e
below_kept h c less more x e o step on i on_e =
    elim (cases_Bool (is_among more e.class)) [
      | inl u ↦ rw u (sym (false_from_ne_true _ (λ t.
          elim (cases_eq e.class c) [
            | inl is_c ↦ let bad : e.patch.no < e.patch.no = before-at h c x e e t i is_c on_e in omega arith
            | inr not_c ↦
                let r : (f : Entry) × In h.entries f × (f.class ≡ c) × (covers f.patch x ≡ true) = covering h c x on in
                let before : e.patch.no < r.0.patch.no = before-at h c x e r.0 t r.1 r.2 r.3 in
                not_under h c less more x e r.0 o step i r.1 on_e r.3 u r.2 before not_c
          ])))
      | inr u ↦ rw u (sym (before-from h c x e (λ f j is_c on_f. elim (cases_order e.patch.no f.patch.no) [
        | inl same ↦ absurd (let t : e.class ≡ f.class = ap (λ g. g.class) (o.numbers e f i j same) in
            both_ways _ u (subst (λ n. is_among more n ≡ true) (sym (t ∙ is_c)) step.inside))
        | inr either ↦ elim either [
          | inl less' ↦ less'
          | inr more' ↦ absurd (both_ways _ u (above h c less more x e f o step i j on_e on_f is_c more'))
        ]
      ])))
    ]

-- the patches that the smaller set leaves there are those and the class's
pub top_kept : (h : History) (c : ℕ) (less more : List ℕ) (x : ℕ) (e : Entry) → IsCoherent h → IsStep h c less more
    → class_covers h c x ≡ true → In h.entries e → covers e.patch x ≡ true
    → not (is_among less e.class) ≡ (e.class == c || comes_before h c x e)
top_kept h c less more x e o step on i on_e =
    elim (cases_eq e.class c) [
      | inl is_c ↦ let out : is_among less e.class ≡ false = rw is_c step.out in
          let t : (e.class == c) ≡ true = eq-eqb _ _ is_c in
          rw (out, t) refl
      | inr not_c ↦ let t : (e.class == c) ≡ false = ne_eqb _ _ not_c in
          rw t (ap not (sym (step.others e.class not_c)) ∙ below_kept h c less more x e o step on i on_e)
    ]

-- with the larger set taken back a byte of the class is the one under it
pub below-without : (h : History) (c : ℕ) (less more : List ℕ) (x : ℕ) → IsCoherent h → IsStep h c less more
    → class_covers h c x ≡ true → get_or (without h more) x 0 ≡ below h c x
below-without h c less more x o step on = same_byte h _ _ x o (λ e i on_e. below_kept h c less more x e o step on i on_e)

pub top-without : (h : History) (c : ℕ) (less more : List ℕ) (x : ℕ) → IsCoherent h → IsStep h c less more
    → class_covers h c x ≡ true → get_or (without h less) x 0 ≡ top h c x
top-without h c less more x o step on = same_byte h _ _ x o (λ e i on_e. top_kept h c less more x e o step on i on_e)

-- elsewhere the two sets leave the same
pub off-without : (h : History) (c : ℕ) (less more : List ℕ) (x : ℕ) → IsCoherent h → IsStep h c less more
    → class_covers h c x ≡ false → get_or (without h more) x 0 ≡ get_or (without h less) x 0
off-without h c less more x o step off = same_byte h _ _ x o (λ e i on_e. elim (cases_eq e.class c) [
  | inl is_c ↦ absurd (both_ways _ off (list_any-from _ h.entries e i (and_from _ _ (eq-eqb _ _ is_c) on_e)))
  | inr not_c ↦ ap not (step.others e.class not_c)
])

-- One class exchanged: bytes that are what the one set leaves, with the other set's laid on the class's span, are what that leaves.
pub exchanged-bytes : (h : History) (c : ℕ) (k l : Entry → Bool) (start stop : ℕ) (bytes saved : List ℕ) → IsCoherent h
    → bytes ≡ pile_of h k → start + length saved ≡ stop → stop ≤ 4096
    → ((x : ℕ) → start ≤ x → x < stop → get_or saved (x - start) 0 ≡ get_or (pile_of h l) x 0)
    → ((x : ℕ) → (x < start) ⊎ (stop ≤ x) → get_or (pile_of h k) x 0 ≡ get_or (pile_of h l) x 0)
    → take start bytes ++ saved ++ drop (start + length saved) bytes ≡ pile_of h l
exchanged-bytes h c k l start stop bytes saved o is long fits inside outside =
    let m : length bytes ≡ 4096 = ap length is ∙ length-by h k o in
    let n : length (pile_of h l) ≡ 4096 = length-by h l o in
    let laid : length (take start bytes ++ saved ++ drop (start + length saved) bytes) ≡ 4096 = grind (arith, places) in
    ext_get_or 0 _ _ (laid ∙ sym n) (λ x _. elim (cases_lt x start) [
      | inl before ↦ laid-before bytes saved start x before (omega arith) ∙ ap (λ z. get_or z x 0) is ∙ outside x (inl before)
      | inr from ↦ elim (cases_lt x stop) [
        | inl to ↦ laid-inside bytes saved start x from (omega arith) (omega arith) ∙ inside x from to
        | inr behind ↦ laid-behind bytes saved start x (omega arith) (omega arith) ∙ ap (λ z. get_or z x 0) is ∙ outside x (inr behind)
      ]
    ])
