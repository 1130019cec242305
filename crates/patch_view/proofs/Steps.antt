-- Which sets a take and a put back lead to.
use Rattle.std.proofs.Common.{◌≡◌, ℕ, suc, ◌<◌, ◌∙◌, true, false, not, inl, inr, List, [], ◌∷◌, length, refl, sym, ap, arith, subst}
use Rattle.std.specs.Prelude.{◌==◌, ◌&&◌, ◌||◌, ◌≢◌, filter, slice_index_or}
use Rattle.std.specs.List.{list_any}
use Rattle.std.proofs.lemmas.Bool.{cases_Bool, and_from, or_cases, or_left, or_right, both_ways, eqb-true, eq-eqb, ne_eqb, cases_eq, not_from_false, true_from_ne_false}
use Rattle.patch_model.specs.Link.{some-Link}
use Rattle.patch_model.specs.Entry.{Entry, is_durable, is_among}
use Rattle.patch_model.specs.Dependency.{depends_directly}
use Rattle.patch_model.specs.Member.{In}
use Rattle.patch_model.specs.History.{History}
use Rattle.patch_records.specs.declared.classes.Turn.TheVariants.{Take, PutBack}
use Rattle.patch_view.proofs.Sets.{upper, class_depends_on}
use Rattle.patch_view.proofs.Resting.{linked}
use Rattle.patch_records.specs.Records.{Class, no_class, may_be_taken}
use Rattle.patch_stacks.specs.State.{Block, class_at, follows, hinders}
use Rattle.patch_view.specs.Meaning.{IsBlockOf}
use Rattle.patch_view.proofs.Chain.{IsStep, undoable-not_durable}

-- the place of the record of a name
pub record_named : (cs : List Class) (n : ℕ) → list_any (λ c. c.name == n) cs ≡ true
    → (j : ℕ) × (j < length cs) × ((slice_index_or cs j no_class).name ≡ n)
record_named [] n t = absurd (cc)
record_named (c ∷ cs) n t = elim (cases_Bool (c.name == n)) [
  | inl u ↦ (0, omega arith, eqb-true _ _ u)
  | inr u ↦ let r = record_named cs n (rw u at t) in (suc r.0, omega arith, r.2)
]

pub depends-from : (h : History) (e f : Entry) → In h.entries e → In h.entries f → depends_directly e.patch f.patch ≡ true
    → class_depends_on h e.class f.class ≡ true
depends-from h e f i j d = some-Link h.entries e.class f.class e f i j refl refl d

-- each of these is one of the block's live classes: its record
pub record_of : (b : Block) (taken : List ℕ) (h : History) (e : Entry) → IsBlockOf b taken h → In h.entries e → is_durable e ≡ false
    → (j : ℕ) × (j < length b.classes) × ((class_at b j).name ≡ e.class)
record_of b taken h e r i low = record_named b.classes e.class (r.complete e i low)

-- taking the class of a record that nothing keeps from it
pub taking : (b : Block) (taken : List ℕ) (h : History) (at : ℕ) → IsBlockOf b taken h → at < length b.classes
    → may_be_taken (class_at b at) ≡ true → (class_at b at).taken ≡ false
    → ((k : ℕ) → k < length b.classes → hinders Take b at k ≡ false)
    → IsStep h (class_at b at).name taken ((class_at b at).name ∷ taken)
taking b taken h at r within may out none =
    let c = r.classes at within in
    record {
      less_holds = upper r;
      more_holds = record {
        known = λ n t. elim (or_cases ((class_at b at).name == n) (is_among taken n) t) [
          | inl u ↦ subst (λ m. list_any (λ e. e.class == m) h.entries ≡ true) (eqb-true _ _ u) c.known
          | inr u ↦ (upper r).known n u
        ];
        undoable = λ e i t. elim (or_cases ((class_at b at).name == e.class) (is_among taken e.class) t) [
          | inl u ↦ let m = c.marked e i (sym (eqb-true _ _ u)) in
              ap (λ z. z && not e.hard) m.1 ∙ ap (λ z. not (class_at b at).flying && not z) m.2 ∙ may
          | inr u ↦ (upper r).undoable e i u
        ];
        dependents = λ e f i j d low t. elim (or_cases ((class_at b at).name == f.class) (is_among taken f.class) t) [
          | inr u ↦ or_right ((class_at b at).name == e.class) _ ((upper r).dependents e f i j d low u)
          | inl u ↦ elim (cases_eq (class_at b at).name e.class) [
            | inl same ↦ or_left _ (is_among taken e.class) (eq-eqb _ _ same)
            | inr other ↦ or_right ((class_at b at).name == e.class) _ (
                let k : (k : ℕ) × (k < length b.classes) × ((class_at b k).name ≡ e.class) = record_of b taken h e r i low in
                let is_f : (class_at b at).name ≡ f.class = eqb-true _ _ u in
                let apart : (class_at b k.0).name ≢ (class_at b at).name = (λ q. other (sym q ∙ k.2)) in
                let on : class_depends_on h (class_at b k.0).name (class_at b at).name ≡ true = rw (k.2, is_f) (depends-from h e f i j d) in
                let goes : follows b k.0 at ≡ true = linked r k.0 at k.1 within apart ∙ on in
                let flag : (class_at b k.0).taken ≡ is_among taken e.class = (r.classes k.0 k.1).flag ∙ ap (is_among taken) k.2 in
                sym flag ∙ true_from_ne_false _ (λ off. both_ways _ (none k.0 k.1) (and_from _ _ (not_from_false _ off) goes)))
          ]
        ];
      };
      out = sym c.flag ∙ out;
      inside = or_left _ (is_among taken (class_at b at).name) (eq-eqb (class_at b at).name (class_at b at).name refl);
      others = λ n apart. ap (λ t. t || is_among taken n) (ne_eqb _ _ (λ q. apart (sym q)));
    }

pub among-filter : (n c : ℕ) (xs : List ℕ) → n ≢ c → is_among (filter (λ m. not (m == c)) xs) n ≡ is_among xs n
among-filter n c [] apart = refl
among-filter n c (x ∷ xs) apart = elim (cases_eq x c) [
  | inl e ↦ let t : (x == c) ≡ true = eq-eqb _ _ e in
      let u : (x == n) ≡ false = ne_eqb _ _ (λ q. apart (sym q ∙ e)) in
      rw (t, u) (among-filter n c xs apart)
  | inr e ↦ let t : (x == c) ≡ false = ne_eqb _ _ e in rw t (ap (λ z. (x == n) || z) (among-filter n c xs apart))
]

pub among-filtered : (c : ℕ) (xs : List ℕ) → is_among (filter (λ m. not (m == c)) xs) c ≡ false
among-filtered c [] = refl
among-filtered c (x ∷ xs) = elim (cases_Bool (x == c)) [
  | inl t ↦ rw t (among-filtered c xs)
  | inr t ↦ rw (t, t) (among-filtered c xs)
]

-- what is left among the names is another one that was among them
pub among-left : (n c : ℕ) (xs : List ℕ) → is_among (filter (λ m. not (m == c)) xs) n ≡ true → (is_among xs n ≡ true) × (n ≢ c)
among-left n c xs t =
    let apart : n ≢ c = (λ q. both_ways _ (among-filtered c xs) (subst (λ m. is_among (filter (λ k. not (k == c)) xs) m ≡ true) q t)) in
    (sym (among-filter n c xs apart) ∙ t, apart)

-- putting back the class of a record that nothing keeps from it
pub putting_back : (b : Block) (taken : List ℕ) (h : History) (at : ℕ) → IsBlockOf b taken h → at < length b.classes
    → (class_at b at).taken ≡ true
    → ((k : ℕ) → k < length b.classes → hinders PutBack b at k ≡ false)
    → IsStep h (class_at b at).name (filter (λ n. not (n == (class_at b at).name)) taken) taken
putting_back b taken h at r within in_it none =
    let c = r.classes at within in
    record {
      more_holds = upper r;
      less_holds = record {
        known = λ n t. (upper r).known n (among-left n (class_at b at).name taken t).0;
        undoable = λ e i t. (upper r).undoable e i (among-left e.class (class_at b at).name taken t).0;
        dependents = λ e f i j d low t.
            let u = among-left f.class (class_at b at).name taken t in
            let v : is_among taken e.class ≡ true = (upper r).dependents e f i j d low u.0 in
            elim (cases_eq e.class (class_at b at).name) [
              | inr apart ↦ among-filter e.class (class_at b at).name taken apart ∙ v
              | inl same ↦ absurd (
                  let k : (k : ℕ) × (k < length b.classes) × ((class_at b k).name ≡ f.class) =
                  record_of b taken h f r j (undoable-not_durable f ((upper r).undoable f j u.0)) in
                  let apart : (class_at b at).name ≢ (class_at b k.0).name = (λ q. u.1 (sym k.2 ∙ sym q)) in
                  let on : class_depends_on h (class_at b at).name (class_at b k.0).name ≡ true =
                  subst (λ n. class_depends_on h n (class_at b k.0).name ≡ true) same
                  (subst (λ n. class_depends_on h e.class n ≡ true) (sym k.2) (depends-from h e f i j d)) in
                  let goes : follows b at k.0 ≡ true = linked r at k.0 within k.1 apart ∙ on in
                  let flag : (class_at b k.0).taken ≡ true = (r.classes k.0 k.1).flag ∙ ap (is_among taken) k.2 ∙ u.0 in
                  both_ways _ (none k.0 k.1) (and_from _ _ flag goes))
            ];
      };
      out = among-filtered (class_at b at).name taken;
      inside = sym c.flag ∙ in_it;
      others = λ n apart. sym (among-filter n (class_at b at).name taken apart);
    }
