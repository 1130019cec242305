-- Putting every class back, the lowest place first.
use Rattle.std.proofs.Common.{◌≡◌, ℕ, zero, suc, ◌<◌, ◌≤◌, ◌∙◌, true, false, not, inl, inr, List, [], ◌∷◌, length, refl, sym, ap, arith, subst, get_or-set_same, get_or-set_other}
use Rattle.std.specs.Prelude.{◌&&◌, ◌||◌, ◌≢◌}
use Rattle.std.proofs.lemmas.Bool.{cases_Bool, cases_lt, le-ltb, and_left, and_right, or_left, both_ways, eqb-true, eq-eqb, false_from_ne_true}
use Rattle.patch_model.specs.Entry.{is_durable, is_memory, is_among, is_undoable}
use Rattle.patch_model.specs.Member.{list_any-at}
use Rattle.patch_model.specs.History.{History, moved, Back}
use Rattle.patch_records.specs.declared.classes.Turn.TheVariants.{PutBack}
use Rattle.patch_view.proofs.Sets.{upper, none-held}
use Rattle.patch_view.specs.History.{unpatched}
use Rattle.patch_records.specs.Records.{no_class, may_be_taken, meets, names}
use Rattle.patch_stacks.specs.State.{Block, class_at, follows, hinders, exchanged_at, restored_to}
use Rattle.patch_records.specs.Exchanges.{exchanged_with}
use Rattle.patch_view.specs.Meaning.{IsBlockOf}
use Rattle.patch_view.proofs.Chain.{undoable-not_durable}
use Rattle.patch_view.proofs.Steps.{record_of, putting_back}
use Rattle.patch_view.proofs.Exchange.{exchanged-represents, back-exchange}
use Rattle.patch_stacks.proofs.Outlines.{length-restored_to}

-- a class that is taken may be taken
pub taken-may : (b : Block) (taken : List ℕ) (h : History) (at : ℕ) → IsBlockOf b taken h → at < length b.classes
    → (class_at b at).taken ≡ true → may_be_taken (class_at b at) ≡ true
taken-may b taken h at r within on =
    let c = r.classes at within in
    let q = list_any-at _ h.entries c.known in
    let same : q.0.class ≡ (class_at b at).name = eqb-true _ _ q.2 in
    let m = c.marked q.0 q.1 same in
    let undoable : is_undoable q.0 ≡ true = (upper r).undoable q.0 q.1 (ap (is_among taken) same ∙ sym c.flag ∙ on) in
    ap (λ z. z && not (class_at b at).hard) (sym m.1) ∙ ap (λ z. is_memory q.0 && not z) (sym m.2) ∙ undoable

pub record IsRestoredTo (n : ℕ) (b : Block) (h : History) : Type 0 where
  pub taken : List ℕ
  pub represents : IsBlockOf b taken h
  pub applied : (i : ℕ) → i < n → (class_at b i).taken ≡ false

-- nothing keeps the lowest class that is taken from going back
lowest-free : (b : Block) (taken : List ℕ) (h : History) (n : ℕ) → IsBlockOf b taken h → n < length b.classes
    → ((i : ℕ) → i < n → (class_at b i).taken ≡ false)
    → (k : ℕ) → k < length b.classes → hinders PutBack b n k ≡ false
lowest-free b taken h n r within applied k w_k = elim (cases_lt k n) [
  | inl before ↦ and_left _ (follows b n k) (applied k before)
  | inr from ↦ and_right (class_at b k).taken _ (and_left _ (meets (class_at b n) (class_at b k) || names (class_at b n) (class_at b k)) (le-ltb k n from))
]

restore_step : (n : ℕ) (b : Block) (h : History) → n < length b.classes → IsRestoredTo n b h → (class_at b n).taken ≡ true
    → IsRestoredTo (suc n) (exchanged_at b n PutBack) h
restore_step n b h within r on =
    let may = taken-may b r.taken h n r.represents within on in
    let step = putting_back b r.taken h n r.represents within on (lowest-free b r.taken h n r.represents within r.applied) in
    record {
      taken = moved r.taken (Back (class_at b n).name);
      represents = exchanged-represents b r.taken (moved r.taken (Back (class_at b n).name)) h n PutBack r.represents within may
          (back-exchange h (class_at b n).name (moved r.taken (Back (class_at b n).name)) r.taken r.represents.coherent step);
      applied = λ i lt. elim (cases_lt i n) [
        | inl before ↦ let ne : i ≢ n = omega arith in
            ap (λ c. c.taken) (get_or-set_other b.classes n i (exchanged_with (class_at b n) b.bytes PutBack) no_class ne) ∙ r.applied i before
        | inr here ↦ let e : i ≡ n = omega arith in
            rw e (ap (λ c. c.taken) (get_or-set_same b.classes n (exchanged_with (class_at b n) b.bytes PutBack) no_class within))
      ];
    }

keep_step : (n : ℕ) (b : Block) (h : History) → IsRestoredTo n b h → (class_at b n).taken ≡ false → IsRestoredTo (suc n) b h
keep_step n b h r off = record {
  taken = r.taken;
  represents = r.represents;
  applied = λ i lt. elim (cases_lt i n) [ inl before ↦ r.applied i before | inr here ↦ let e : i ≡ n = omega arith in rw e off ];
}

pub restored-represents : (n : ℕ) (b : Block) (taken : List ℕ) (h : History) → IsBlockOf b taken h → n ≤ length b.classes
    → IsRestoredTo n (restored_to n b) h
restored-represents zero b taken h r fits = record { taken = taken; represents = r; applied = λ i lt. absurd (omega arith) }
restored-represents (suc n) b taken h r fits =
    let before = restored-represents n b taken h r (omega arith) in
    let l = length-restored_to n b in
    elim (cases_Bool (class_at (restored_to n b) n).taken) [
      | inl on ↦ rw on (restore_step n (restored_to n b) h (omega arith) before on)
      | inr off ↦ rw off (keep_step n (restored_to n b) h before off)
    ]

none-among : (xs : List ℕ) → ((n : ℕ) → is_among xs n ≡ false) → xs ≡ []
none-among [] f = refl
none-among (x ∷ xs) f = absurd (both_ways _ (f x) (or_left _ (is_among xs x) (eq-eqb x x refl)))

pub all_restored : (b : Block) (taken : List ℕ) (h : History) → IsBlockOf b taken h → IsBlockOf (restored_to (length b.classes) b) [] h
all_restored b taken h r =
    let s = restored-represents (length b.classes) b taken h r (omega arith) in
    let l = length-restored_to (length b.classes) b in
    let nil : s.taken ≡ [] = none-among s.taken (λ n. false_from_ne_true _ (λ t.
    let q = list_any-at _ h.entries ((upper s.represents).known n t) in
    let of_n : q.0.class ≡ n = eqb-true _ _ q.2 in
    let low : is_durable q.0 ≡ false = undoable-not_durable q.0 ((upper s.represents).undoable q.0 q.1 (ap (is_among s.taken) of_n ∙ t)) in
    let j = record_of (restored_to (length b.classes) b) s.taken h q.0 s.represents q.1 low in
    let before : j.0 < length b.classes = rw l at j.1 in
    let off : (class_at (restored_to (length b.classes) b) j.0).taken ≡ false = s.applied j.0 before in
    let flag = (s.represents.classes j.0 j.1).flag in
    both_ways _ off (flag ∙ ap (is_among s.taken) (j.2 ∙ of_n) ∙ t))) in
    subst (λ t. IsBlockOf (restored_to (length b.classes) b) t h) nil s.represents

-- a block of these bytes with no patches
pub opens : (first : List ℕ) → length first ≡ 4096 → IsBlockOf (record { bytes = first; classes = [] }) [] (unpatched first)
opens first long = record {
  coherent = record {
    long = long;
    fits = λ e i. absurd i;
    some = λ e i. absurd i;
    one_block = λ e f i j. absurd i;
    numbers = λ e f i j. absurd i;
    named_earlier = λ e n i. absurd i;
    class_first = λ e i. absurd i;
    one_mark = λ e f i j. absurd i;
    durable_first = λ e f i j. absurd i;
  };
  holds = none-held (unpatched first);
  bytes = refl;
  classes = λ i lt. absurd (omega arith);
  complete = λ e i. absurd i;
  distinct = λ i j lt. absurd (omega arith);
  ordered = λ i j less lt. absurd (omega arith);
  named = λ i j n lt. absurd (omega arith);
}
