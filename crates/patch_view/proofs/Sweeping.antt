-- Every class taken that may be, the highest place first.
use Rattle.std.proofs.Common.{◌≡◌, ℕ, zero, suc, ◌-◌, ◌<◌, ◌≤◌, ◌∙◌, true, false, not, inl, inr, List, ◌∷◌, length, refl, sym, ap, arith, subst, get_or-set_same, get_or-set_other}
use Rattle.std.specs.Prelude.{◌&&◌, ◌||◌, filter, nat_lt}
use Rattle.std.proofs.lemmas.Bool.{cases_Bool, le-ltb, cases_eq, cases_order, and_parts, and_from, both_ways, not_from_false, not-true, false_from_ne_true, true_from_ne_false}
use Rattle.std.proofs.lemmas.List.{length-set}
use Rattle.std.specs.Cmp.{both_ways as same_bool}
use Rattle.patch_model.specs.Link.{Link-at}
use Rattle.patch_model.specs.Entry.{Entry, is_durable, is_memory, is_among, is_undoable}
use Rattle.patch_model.specs.Member.{In, In-from_Contains, Contains-from_In, filter-In}
use Rattle.patch_model.specs.History.{History, HoldsDependents}
use Rattle.patch_records.specs.declared.classes.Turn.TheVariants.{Take}
use Rattle.patch_view.specs.History.{undoable_classes}
use Rattle.patch_stacks.specs.State.{Block, class_at, follows, hinders, exchanged_at, swept_to}
use Rattle.patch_records.specs.Records.{no_class, may_be_taken, is_takeable, meets, names}
use Rattle.patch_records.specs.Exchanges.{exchanged_with}
use Rattle.patch_view.specs.Meaning.{IsBlockOf}
use Rattle.patch_view.specs.Laws.{NameTheSame}
use Rattle.patch_view.proofs.Chain.{undoable-not_durable}
use Rattle.patch_view.proofs.Steps.{record_of, taking}
use Rattle.patch_view.proofs.Exchange.{exchanged-represents, take-exchange, others-kept}
use Rattle.patch_view.proofs.Resting.{linked_as, follows-apart}
use Rattle.patch_view.proofs.Same.{same_names_same_bytes, among-undoable, map-among}
use Rattle.patch_stacks.proofs.Outlines.{length-swept_to}

-- the same records, with the same classes under another list
pub renamed : (b : Block) (names others : List ℕ) (h : History) → IsBlockOf b names h → NameTheSame names others → IsBlockOf b others h
renamed b names others h r same = record {
  coherent = r.coherent;
  holds = record {
    undoable = λ c t. r.holds.undoable c (same c ∙ t);
    dependents = λ e f i j live d t. sym (same e.class) ∙ r.holds.dependents e f i j live d (same f.class ∙ t);
  };
  bytes = r.bytes ∙ same_names_same_bytes h names others same;
  classes = λ i w. others-kept h names others (class_at b i) (r.classes i w) (same (class_at b i).name);
  complete = r.complete;
  distinct = r.distinct;
  ordered = r.ordered;
  named = r.named;
}

-- the records of classes from the place n on that may be taken are taken
pub record IsSweptTo (n : ℕ) (b : Block) (h : History) : Type 0 where
  pub taken : List ℕ
  pub represents : IsBlockOf b taken h
  pub swept : (i : ℕ) → n ≤ i → i < length b.classes → may_be_taken (class_at b i) ≡ true → (class_at b i).taken ≡ true

-- a record whose class has an undoable patch
soft_record : (b : Block) (taken : List ℕ) (h : History) (k : ℕ) (e : Entry) → IsBlockOf b taken h → k < length b.classes → In h.entries e
    → e.class ≡ (class_at b k).name → is_undoable e ≡ true → may_be_taken (class_at b k) ≡ true
soft_record b taken h k e r w i is soft =
    let m = (r.classes k w).marked e i is in
    ap (λ z. z && not (class_at b k).hard) (sym m.1) ∙ ap (λ z. is_memory e && not z) (sym m.2) ∙ soft

record_soft : (b : Block) (taken : List ℕ) (h : History) (k : ℕ) (e : Entry) → IsBlockOf b taken h → k < length b.classes → In h.entries e
    → e.class ≡ (class_at b k).name → may_be_taken (class_at b k) ≡ true → is_undoable e ≡ true
record_soft b taken h k e r w i is may =
    let m = (r.classes k w).marked e i is in
    ap (λ z. z && not e.hard) m.1 ∙ ap (λ z. not (class_at b k).flying && not z) m.2 ∙ may

-- nothing keeps the highest class that is left from being taken
highest-free : (n : ℕ) (b : Block) (h : History) → n < length b.classes → HoldsDependents h (undoable_classes h) → (s : IsSweptTo (suc n) b h)
    → may_be_taken (class_at b n) ≡ true
    → (k : ℕ) → k < length b.classes → hinders Take b n k ≡ false
highest-free n b h within holds s may k w_k = false_from_ne_true _ (λ t.
    let r = s.represents in
    let p = and_parts (not (class_at b k).taken) (follows b k n) t in
    let apart = follows-apart r k n w_k within p.1 in
    elim (cases_order k n) [
      | inl same ↦ apart (ap (λ i. (class_at b i).name) same)
      | inr o ↦ elim o [
        | inl before ↦ both_ways _ (le-ltb n k (omega arith)) (and_parts (nat_lt n k) (meets (class_at b k) (class_at b n) || names (class_at b k) (class_at b n)) p.1).0
        | inr behind ↦
            let d = Link-at h.entries (class_at b k).name (class_at b n).name (sym (linked_as r k n w_k within apart) ∙ p.1) in
            let soft_f = record_soft b s.taken h n d.to r within d.in_to d.name_to may in
            let inside : is_among (undoable_classes h) d.to.class ≡ true = among-undoable h d.to r.coherent d.in_to ∙ soft_f in
            let low : is_durable d.from ≡ false = ((r.classes k w_k).marked d.from d.in_from d.name_from).0 in
            let also = holds.dependents d.from d.to (Contains-from_In h.entries d.from d.in_from) (Contains-from_In h.entries d.to d.in_to) (not_from_false _ low) d.depends inside in
            let soft_e : is_undoable d.from ≡ true = sym (among-undoable h d.from r.coherent d.in_from) ∙ also in
            both_ways _ (not-true _ p.0) (s.swept k behind w_k (soft_record b s.taken h k d.from r w_k d.in_from d.name_from soft_e))
      ]
    ])

sweep_step : (n : ℕ) (b : Block) (h : History) → n < length b.classes → HoldsDependents h (undoable_classes h) → IsSweptTo (suc n) b h
    → is_takeable (class_at b n) ≡ true → IsSweptTo n (exchanged_at b n Take) h
sweep_step n b h within holds s left =
    let p = and_parts (may_be_taken (class_at b n)) (not (class_at b n).taken) left in
    let step = taking b s.taken h n s.represents within p.0 (not-true _ p.1) (highest-free n b h within holds s p.0) in
    let l = length-set b.classes n (exchanged_with (class_at b n) b.bytes Take) in
    record {
      taken = (class_at b n).name ∷ s.taken;
      represents = exchanged-represents b s.taken ((class_at b n).name ∷ s.taken) h n Take s.represents within p.0
          (take-exchange h (class_at b n).name s.taken ((class_at b n).name ∷ s.taken) s.represents.coherent step);
      swept = λ i from w may. elim (cases_eq i n) [
        | inl e ↦ rw (e, get_or-set_same b.classes n (exchanged_with (class_at b n) b.bytes Take) no_class within) refl
        | inr ne ↦
            let same : class_at (exchanged_at b n Take) i ≡ class_at b i = get_or-set_other b.classes n i (exchanged_with (class_at b n) b.bytes Take) no_class ne in
            ap (λ c. c.taken) same ∙ s.swept i (omega arith) (omega arith) (ap may_be_taken (sym same) ∙ may)
      ];
    }

skip_step : (n : ℕ) (b : Block) (h : History) → IsSweptTo (suc n) b h → is_takeable (class_at b n) ≡ false → IsSweptTo n b h
skip_step n b h s off = record {
  taken = s.taken;
  represents = s.represents;
  swept = λ i from w may. elim (cases_eq i n) [
    | inl e ↦ true_from_ne_false _ (λ out.
        let may_n : may_be_taken (class_at b n) ≡ true = ap (λ k. may_be_taken (class_at b k)) (sym e) ∙ may in
        both_ways _ off (and_from _ _ may_n (not_from_false _ (ap (λ k. (class_at b k).taken) (sym e) ∙ out))))
    | inr ne ↦ s.swept i (omega arith) w may
  ];
}

swept-represents : (n : ℕ) (b : Block) (taken : List ℕ) (h : History) → IsBlockOf b taken h → HoldsDependents h (undoable_classes h) → n ≤ length b.classes
    → IsSweptTo (length b.classes - n) (swept_to n b) h
swept-represents zero b taken h r holds fits = record { taken = taken; represents = r; swept = λ i from w. absurd (omega arith) }
swept-represents (suc n) b taken h r holds fits =
    let at = length b.classes - suc n in
    let next : length b.classes - n ≡ suc (length b.classes - suc n) = omega arith in
    let before : IsSweptTo (suc (length b.classes - suc n)) (swept_to n b) h =
    subst (λ k. IsSweptTo k (swept_to n b) h) next (swept-represents n b taken h r holds (omega arith)) in
    let l = length-swept_to n b in
    elim (cases_Bool (is_takeable (class_at (swept_to n b) (length b.classes - suc n)))) [
      | inl on ↦ rw on (sweep_step (length b.classes - suc n) (swept_to n b) h (omega arith) holds before on)
      | inr off ↦ rw off (skip_step (length b.classes - suc n) (swept_to n b) h before off)
    ]

-- what is taken when all places have been passed
all-named : (b : Block) (h : History) → (s : IsSweptTo 0 b h) → NameTheSame s.taken (undoable_classes h)
all-named b h s n = same_bool _ _
    (λ t. let q = s.represents.holds.undoable n t in
    let i = In-from_Contains h.entries q.0 q.1 in
    ap (is_among (undoable_classes h)) (sym q.2) ∙ among-undoable h q.0 s.represents.coherent i ∙ q.3)
    (λ t. let q = map-among (filter is_undoable h.entries) n t in
    let p = filter-In is_undoable h.entries q.0 q.1 in
    let j = record_of b s.taken h q.0 s.represents p.0 (undoable-not_durable q.0 p.1) in
    let on = s.swept j.0 (omega arith) j.1 (soft_record b s.taken h j.0 q.0 s.represents j.1 p.0 (sym j.2) p.1) in
    ap (is_among s.taken) (sym q.2 ∙ sym j.2) ∙ sym (s.represents.classes j.0 j.1).flag ∙ on)

pub all_swept : (b : Block) (taken : List ℕ) (h : History) → IsBlockOf b taken h → HoldsDependents h (undoable_classes h)
    → IsBlockOf (swept_to (length b.classes) b) (undoable_classes h) h
all_swept b taken h r holds =
    let none : length b.classes - length b.classes ≡ 0 = omega arith in
    let s : IsSweptTo 0 (swept_to (length b.classes) b) h =
    subst (λ k. IsSweptTo k (swept_to (length b.classes) b) h) none (swept-represents (length b.classes) b taken h r holds (omega arith)) in
    renamed (swept_to (length b.classes) b) s.taken (undoable_classes h) h s.represents (all-named (swept_to (length b.classes) b) h s)
