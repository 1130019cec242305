-- Striking marks out.
use Rattle.std.proofs.Common.{slice_index_or, ◌≡◌, ℕ, zero, suc, ◌+◌, ◌<◌, ◌≤◌, ◌∙◌, inl, inr, Bool, true, false, not, cond, List, [], ◌∷◌, length, refl, sym, ap, arith, subst, Some, None, set}
use Rattle.std.specs.Prelude.{◌==◌, ◌≢◌, slice_set}
use Rattle.std.specs.Option.{option_map_or}
use Rattle.std.specs.List.{list_all}
use Rattle.std.proofs.lemmas.Bool.{false_from_ne_true, eqb-true, cases_Bool, cases_eq, cases_lt, and_parts, and_from, both_ways, not-true, eq-eqb}
use Rattle.std.proofs.lemmas.List.{get_or-set_same, get_or-set_other, length-set}
use Rattle.std.proofs.lemmas.List.Sums.{sum_by-set}
use Rattle.patch_model.specs.Member.{In, list_all-at, list_all-from, list_any-from}
use Rattle.patch_links.specs.State.{Class, Slots, Numbers, find, class_at, leads, leads_at}
use Rattle.patch_graph.specs.Marks.{is_marked, AreClear, HoldsMarked, marked_count}
use Rattle.patch_links.specs.Ready.{is_candidate, is_met, is_met_at, picks, AreMet, IsWithin, IsStruck, Escapes, out, on, IsLargestMet}
use Rattle.patch_graph.specs.State.{KeysFit}
use Rattle.patch_graph.specs.Ready.{is_unmet, AreFirstKeys, HoldsKeys, KeepsMet, KeepsStruck, IsRound}
use Rattle.patch_graph.proofs.Places.{place-of, at-place}

-- so far, the marks are taken off
pub record IsPartCleared (keys : List ℕ) (old new : List Bool) (upto : ℕ) : Type 0 where
  pub off : (i : ℕ) → i < upto → is_marked new (slice_index_or keys i 0) ≡ false
  pub inside : (key : ℕ) → is_marked new key ≡ true → is_marked old key ≡ true
  pub long : length new ≡ length old

-- so far, the keys of the block's classes in memory are marked
pub record IsPartPicked (slots : Slots) (block : ℕ) (keys : List ℕ) (old new : List Bool) (upto : ℕ) : Type 0 where
  pub sound : (key : ℕ) → is_marked new key ≡ true → picks slots block key ≡ true
  pub complete : (i : ℕ) → i < upto → picks slots block (slice_index_or keys i 0) ≡ true → is_marked new (slice_index_or keys i 0) ≡ true
  pub long : length new ≡ length old

-- a round that has come so far
pub record IsPartRound (slots : Slots) (numbers : Numbers) (keys : List ℕ) (old new : List Bool) (changed : Bool) (upto : ℕ) : Type 0 where
  pub inside : IsWithin (is_marked new) (is_marked old)
  pub keeps : KeepsMet slots numbers (is_marked old) (is_marked new)
  pub struck : KeepsStruck slots numbers (is_marked old) (is_marked new)
  pub long : length new ≡ length old
  pub no_more : marked_count new ≤ marked_count old
  pub fewer : changed ≡ true → marked_count new < marked_count old
  pub same : changed ≡ false → new ≡ old
  pub met : changed ≡ false → (i : ℕ) → i < upto → is_unmet slots numbers (is_marked old) (slice_index_or keys i 0) ≡ false

pub past-marks : (marks : List Bool) (key : ℕ) → length marks ≤ key → is_marked marks key ≡ false
past-marks [] key h = refl
past-marks (m ∷ ms) zero h = absurd (omega arith)
past-marks (m ∷ ms) (suc key) h = past-marks ms key (omega arith)

pub marked_below : (marks : List Bool) (key : ℕ) → is_marked marks key ≡ true → key < length marks
marked_below marks key t = elim (cases_lt key (length marks)) [ inl h ↦ h | inr h ↦ absurd (both_ways _ (past-marks marks key h) t) ]

met_at-more : (numbers : Numbers) (s t : ℕ → Bool) (n : ℕ) → IsWithin s t → is_met_at numbers s n ≡ true → is_met_at numbers t n ≡ true
met_at-more numbers s t n within = elim (find numbers n) as (λ o. option_map_or s o true ≡ true → option_map_or t o true ≡ true) [
  | Some k ↦ λ h. within k h
  | None ↦ λ h. refl
]

pub met-more : (numbers : Numbers) (s t : ℕ → Bool) (c : Class) → IsWithin s t → is_met numbers s c ≡ true → is_met numbers t c ≡ true
met-more numbers s t c within h = list_all-from (is_met_at numbers t) c.after (λ n i.
    met_at-more numbers s t n within (list_all-at (is_met_at numbers s) c.after n h i))

struck-at : (marks : List Bool) (key other : ℕ) → other ≢ key → is_marked (slice_set marks key false) other ≡ is_marked marks other
struck-at marks key other h = get_or-set_other marks key other false false h

struck-off : (marks : List Bool) (key : ℕ) → key < length marks → is_marked (slice_set marks key false) key ≡ false
struck-off marks key h = get_or-set_same marks key false false h

struck-inside : (marks : List Bool) (key : ℕ) → key < length marks → IsWithin (is_marked (slice_set marks key false)) (is_marked marks)
struck-inside marks key h other t = elim (cases_eq other key) [
  | inl e ↦ absurd (both_ways _ (struck-off marks key h) (subst (λ k. is_marked (slice_set marks key false) k ≡ true) e t))
  | inr d ↦ sym (struck-at marks key other d) ∙ t
]

class_of-unmet : (slots : Slots) (numbers : Numbers) (s : ℕ → Bool) (key : ℕ) → is_unmet slots numbers s key ≡ true
    → (c : Class) × (class_at slots key ≡ Some c) × (s key ≡ true) × (is_met numbers s c ≡ false)
class_of-unmet slots numbers s key h =
    let p = and_parts (s key) _ h in
    elim (class_at slots key) as (λ o. option_map_or (λ c. not (is_met numbers s c)) o false ≡ true → (c : Class) × (o ≡ Some c) × (s key ≡ true) × (is_met numbers s c ≡ false)) [
      | Some c ↦ λ t. (c, refl, p.0, not-true _ t)
      | None ↦ λ t. absurd (cc)
    ] p.1

met-from : (slots : Slots) (numbers : Numbers) (s : ℕ → Bool) (key : ℕ) (c : Class) → is_unmet slots numbers s key ≡ false → class_at slots key ≡ Some c → s key ≡ true → is_met numbers s c ≡ true
met-from slots numbers s key c u at t = elim (cases_Bool (is_met numbers s c)) [
  | inl m ↦ m
  | inr m ↦
      let v : is_unmet slots numbers s key ≡ true = and_from (s key) _ t (ap (λ o. option_map_or (λ c. not (is_met numbers s c)) o false) at ∙ ap not m) in
      absurd (both_ways _ u v)
]

struck-keeps : (slots : Slots) (numbers : Numbers) (marks : List Bool) (key : ℕ) → is_unmet slots numbers (is_marked marks) key ≡ true
    → KeepsMet slots numbers (is_marked marks) (is_marked (slice_set marks key false))
struck-keeps slots numbers marks key unmet other met within k t = elim (cases_eq k key) [
  | inl e ↦
      let r = class_of-unmet slots numbers (is_marked marks) key unmet in
      let there : is_met numbers other r.0 ≡ true = met key r.0 r.1 (subst (λ j. other j ≡ true) e t) in
      absurd (both_ways _ r.3 (met-more numbers other (is_marked marks) r.0 within there))
  | inr d ↦ struck-at marks key k d ∙ within k t
]

struck-count : (marks : List Bool) (key : ℕ) → is_marked marks key ≡ true → marked_count (slice_set marks key false) < marked_count marks
struck-count marks key t =
    let e = sum_by-set {X = Bool} (λ b. cond b 1 0) marks key false false (marked_below marks key t) in
    let f : Bool → ℕ = λ b. cond b 1 0 in
    let one : ◌≡◌ {A = ℕ} (cond (is_marked marks key) 1 0) 1 = ap f t in
    omega (arith, e, one)

list_all-false : {X : Type 0} → (p : X → Bool) (xs : List X) → list_all p xs ≡ false → (x : X) × In xs x × (p x ≡ false)
list_all-false p [] t = absurd (cc)
list_all-false p (x ∷ xs) t = elim (cases_Bool (p x)) [
  | inr u ↦ (x, inl refl, u)
  | inl u ↦ let r = list_all-false p xs (rw u at t) in (r.0, inr r.1, r.2)
]

-- the class that keeps another from being met
unmet-at : (numbers : Numbers) (set : ℕ → Bool) (n : ℕ) → is_met_at numbers set n ≡ false → (j : ℕ) × (leads_at numbers j n ≡ true) × (set j ≡ false)
unmet-at numbers set n = elim (find numbers n) as (λ o. option_map_or set o true ≡ false → (j : ℕ) × (option_map_or (λ k. k == j) o false ≡ true) × (set j ≡ false)) [
  | Some k ↦ λ t. (k, eq-eqb k k refl, t)
  | None ↦ λ t. absurd (cc)
]

struck-more : (slots : Slots) (numbers : Numbers) (start : ℕ → Bool) (marks : List Bool) (key : ℕ) → is_unmet slots numbers (is_marked marks) key ≡ true
    → IsWithin (is_marked marks) start → IsStruck slots numbers start (is_marked marks) → IsStruck slots numbers start (is_marked (slice_set marks key false))
struck-more slots numbers start marks key unmet within h k t u = elim (cases_eq k key) [
  | inr d ↦ h k t (sym (struck-at marks key k d) ∙ u)
  | inl e ↦
      let c = class_of-unmet slots numbers (is_marked marks) key unmet in
      let n = list_all-false (is_met_at numbers (is_marked marks)) c.0.after c.3 in
      let j = unmet-at numbers (is_marked marks) n.0 n.2 in
      let led : leads numbers c.0 j.0 ≡ true = list_any-from (leads_at numbers j.0) c.0.after n.0 n.1 j.1 in
      let at : class_at slots k ≡ Some c.0 = ap (class_at slots) e ∙ c.1 in
      elim (cases_Bool (start j.0)) [
        | inl v ↦ on c.0 at led (h j.0 v j.2)
        | inr v ↦ out c.0 at led v
      ]
]

pub part-none : (slots : Slots) (numbers : Numbers) (keys : List ℕ) (marks : List Bool) → IsPartRound slots numbers keys marks marks false 0
part-none slots numbers keys marks = record {
  inside = λ k t. t;
  keeps = λ other met within. within;
  struck = λ start within h. h;
  long = refl;
  no_more = omega arith;
  fewer = λ e. absurd (cc);
  same = λ e. refl;
  met = λ e k h. absurd (omega arith);
}

-- where one is struck out
pub part-struck : (slots : Slots) (numbers : Numbers) (keys : List ℕ) (old new : List Bool) (changed : Bool) (upto key : ℕ)
    → IsPartRound slots numbers keys old new changed upto → is_unmet slots numbers (is_marked new) key ≡ true
    → IsPartRound slots numbers keys old (slice_set new key false) true (upto + 1)
part-struck slots numbers keys old new changed upto key r unmet =
    let c = class_of-unmet slots numbers (is_marked new) key unmet in
    let below = marked_below new key c.2 in
    let less = struck-count new key c.2 in
    let most = r.no_more in
    record {
      inside = λ k t. r.inside k (struck-inside new key below k t);
      keeps = λ other met within. struck-keeps slots numbers new key unmet other met (r.keeps other met within);
      struck = λ start within h. struck-more slots numbers start new key unmet (λ k t. within k (r.inside k t)) (r.struck start within h);
      long = length-set new key false ∙ r.long;
      no_more = omega arith;
      fewer = λ e. omega arith;
      same = λ e. absurd (cc);
      met = λ e. absurd (cc);
    }

-- where the class at the key stays
pub part-kept : (slots : Slots) (numbers : Numbers) (keys : List ℕ) (old new : List Bool) (changed : Bool) (upto key : ℕ)
    → slice_index_or keys upto 0 ≡ key → IsPartRound slots numbers keys old new changed upto → is_unmet slots numbers (is_marked new) key ≡ false
    → IsPartRound slots numbers keys old new changed (upto + 1)
part-kept slots numbers keys old new changed upto key here r unmet = record {
  inside = r.inside;
  keeps = r.keeps;
  struck = r.struck;
  long = r.long;
  no_more = r.no_more;
  fewer = r.fewer;
  same = r.same;
  met = λ e i h. elim (cases_lt i upto) [
    | inl b ↦ r.met e i b
    | inr b ↦ let at : i ≡ upto = omega arith in
        subst (λ j. is_unmet slots numbers (is_marked old) j ≡ false) (sym (ap (λ j. slice_index_or keys j 0) at ∙ here)) (subst (λ m. is_unmet slots numbers (is_marked m) key ≡ false) (r.same e) unmet)
  ];
}

pub round-at : (slots : Slots) (numbers : Numbers) (keys : List ℕ) (old new : List Bool) (changed : Bool) (upto : ℕ)
    → length keys ≡ upto → HoldsMarked old keys → IsPartRound slots numbers keys old new changed upto → IsRound slots numbers old new changed
round-at slots numbers keys old new changed upto all held r = record {
  inside = r.inside;
  keeps = r.keeps;
  struck = r.struck;
  long = r.long;
  fewer = r.fewer;
  same = r.same;
  met = λ e key c at t.
      let i = place-of keys key (held key (r.inside key t)) in
      let b = i.1 in
      let u = subst (λ j. is_unmet slots numbers (is_marked old) j ≡ false) i.2 (r.met e i.0 (omega arith)) in
      let m = met-from slots numbers (is_marked old) key c u at (subst (λ m. is_marked m key ≡ true) (r.same e) t) in
      subst (λ m. is_met numbers (is_marked m) c ≡ true) (sym (r.same e)) m;
}

-- rounds in a row
pub record IsSettling (slots : Slots) (numbers : Numbers) (old new : List Bool) (changed : Bool) : Type 0 where
  pub inside : IsWithin (is_marked new) (is_marked old)
  pub keeps : KeepsMet slots numbers (is_marked old) (is_marked new)
  pub struck : KeepsStruck slots numbers (is_marked old) (is_marked new)
  pub met : changed ≡ false → AreMet slots numbers (is_marked new)
  pub long : length new ≡ length old

pub settling-more : (slots : Slots) (numbers : Numbers) (old mid new : List Bool) (changed again : Bool)
    → IsSettling slots numbers old mid changed → IsRound slots numbers mid new again → IsSettling slots numbers old new again
settling-more slots numbers old mid new changed again s r = record {
  inside = λ k t. s.inside k (r.inside k t);
  keeps = λ other met within. r.keeps other met (s.keeps other met within);
  struck = λ start within h. r.struck start (λ k t. within k (s.inside k t)) (s.struck start within h);
  met = r.met;
  long = r.long ∙ s.long;
}

pub settled : (slots : Slots) (numbers : Numbers) (old new : List Bool) → IsSettling slots numbers old new false
    → IsLargestMet slots numbers (is_marked old) (is_marked new)
settled slots numbers old new s = record {
  inside = s.inside;
  met = s.met refl;
  escapes = s.struck (is_marked old) (λ k t. t) (λ k t u. absurd (both_ways _ u t));
  largest = λ other within met. s.keeps other met within;
}

class-picked : (slots : Slots) (block key : ℕ) → picks slots block key ≡ true → (c : Class) × (class_at slots key ≡ Some c) × (c.block ≡ block)
class-picked slots block key = elim (class_at slots key) as (λ o. option_map_or (is_candidate block) o false ≡ true → (c : Class) × (o ≡ Some c) × (c.block ≡ block)) [
  | Some c ↦ λ t. (c, refl, eqb-true c.block block (and_parts _ _ t).1)
  | None ↦ λ t. absurd (cc)
]

-- the first marks
pub picked-none : (slots : Slots) (block : ℕ) (keys : List ℕ) (marks : List Bool) → AreClear marks → IsPartPicked slots block keys marks marks 0
picked-none slots block keys marks clear = record { sound = λ key t. absurd (both_ways _ (clear key) t); complete = λ i h. absurd (omega arith); long = refl }

pub picked-one : (slots : Slots) (block : ℕ) (keys : List ℕ) (old new : List Bool) (upto key : ℕ) → KeysFit slots (length old) → slice_index_or keys upto 0 ≡ key
    → picks slots block key ≡ true → IsPartPicked slots block keys old new upto → IsPartPicked slots block keys old (slice_set new key true) (upto + 1)
picked-one slots block keys old new upto key fit here t p =
    let c = class-picked slots block key t in
    let low = fit key c.0 c.1 in
    let long = p.long in
    let on : is_marked (slice_set new key true) key ≡ true = get_or-set_same new key true false (omega arith) in
    record {
      sound = λ k u. elim (cases_eq k key) [ inl e ↦ ap (picks slots block) e ∙ t | inr d ↦ p.sound k (sym (get_or-set_other new key k true false d) ∙ u) ];
      complete = λ i h u. elim (cases_eq (slice_index_or keys i 0) key) [
        | inl e ↦ ap (is_marked (slice_set new key true)) e ∙ on
        | inr d ↦ get_or-set_other new key (slice_index_or keys i 0) true false d ∙ p.complete i (elim (cases_eq i upto) [ inl s ↦ absurd (d (ap (λ j. slice_index_or keys j 0) s ∙ here)) | inr s ↦ omega arith ]) u
      ];
      long = length-set new key true ∙ p.long;
    }

pub picked-not : (slots : Slots) (block : ℕ) (keys : List ℕ) (old new : List Bool) (upto key : ℕ) → slice_index_or keys upto 0 ≡ key
    → picks slots block key ≡ false → IsPartPicked slots block keys old new upto → IsPartPicked slots block keys old new (upto + 1)
picked-not slots block keys old new upto key here t p = record {
  sound = p.sound;
  complete = λ i h u. elim (cases_eq i upto) [ inl s ↦ absurd (both_ways _ (ap (picks slots block) (ap (λ j. slice_index_or keys j 0) s ∙ here) ∙ t) u) | inr s ↦ p.complete i (omega arith) u ];
  long = p.long;
}

pub picked-all : (slots : Slots) (block : ℕ) (keys : List ℕ) (old new : List Bool) (upto : ℕ) → length keys ≡ upto → HoldsKeys slots block keys
    → IsPartPicked slots block keys old new upto → (key : ℕ) → is_marked new key ≡ picks slots block key
picked-all slots block keys old new upto all held p key = elim (cases_Bool (picks slots block key)) [
  | inl t ↦
      let c = class-picked slots block key t in
      let i = place-of keys key (held key c.0 c.1 c.2) in
      let b = i.1 in
      sym (ap (is_marked new) i.2) ∙ p.complete i.0 (omega arith) (ap (picks slots block) i.2 ∙ t) ∙ sym t
  | inr t ↦ false_from_ne_true _ (λ u. both_ways _ t (p.sound key u)) ∙ sym t
]

pub picked-held : (slots : Slots) (block : ℕ) (keys : List ℕ) (set : ℕ → Bool) → HoldsKeys slots block keys → IsWithin set (picks slots block) → (key : ℕ) → set key ≡ true → In keys key
picked-held slots block keys set held within key t = let c = class-picked slots block key (within key t) in held key c.0 c.1 c.2

-- all keys are listed, so those of a block's classes are among them
pub first-held : (slots : Slots) (block : ℕ) (keys : List ℕ) → AreFirstKeys keys → KeysFit slots (length keys) → HoldsKeys slots block keys
first-held slots block keys first fit key c at of = at-place keys key key (fit key c at) (first key (fit key c at))

-- so far, they are listed
pub record ArePartListed (old new : List ℕ) (upto : ℕ) : Type 0 where
  pub done : (key : ℕ) → key < upto → slice_index_or new key 0 ≡ key
  pub long : length new ≡ length old

pub listed-none : (keys : List ℕ) → ArePartListed keys keys 0
listed-none keys = record { done = λ key h. absurd (omega arith); long = refl }

pub listed-one : (old new : List ℕ) (upto : ℕ) → upto < length old → ArePartListed old new upto → ArePartListed old (slice_set new upto upto) (upto + 1)
listed-one old new upto low p =
    let long = p.long in
    record {
      done = λ key h. elim (cases_eq key upto) [
        | inl e ↦ ap (λ k. slice_index_or (slice_set new upto upto) k 0) e ∙ get_or-set_same new upto upto 0 (omega arith) ∙ sym e
        | inr d ↦ get_or-set_other new upto key upto 0 d ∙ p.done key (omega arith)
      ];
      long = length-set new upto upto ∙ p.long;
    }

-- taking marks off
off-now : (marks : List Bool) (key : ℕ) → is_marked (slice_set marks key false) key ≡ false
off-now marks key = elim (cases_lt key (length marks)) [
  | inl h ↦ struck-off marks key h
  | inr h ↦ past-marks (slice_set marks key false) key (let l = length-set marks key false in omega arith)
]

pub cleared-none : (keys : List ℕ) (marks : List Bool) → IsPartCleared keys marks marks 0
cleared-none keys marks = record { off = λ i h. absurd (omega arith); inside = λ key t. t; long = refl }

pub cleared-one : (keys : List ℕ) (old new : List Bool) (upto key : ℕ) → slice_index_or keys upto 0 ≡ key → IsPartCleared keys old new upto → IsPartCleared keys old (slice_set new key false) (upto + 1)
cleared-one keys old new upto key here p = record {
  off = λ i h. elim (cases_eq (slice_index_or keys i 0) key) [
    | inl e ↦ ap (is_marked (slice_set new key false)) e ∙ off-now new key
    | inr d ↦ struck-at new key (slice_index_or keys i 0) d ∙ p.off i (elim (cases_eq i upto) [ inl s ↦ absurd (d (ap (λ j. slice_index_or keys j 0) s ∙ here)) | inr s ↦ omega arith ])
  ];
  inside = λ k t. elim (cases_eq k key) [ inl e ↦ absurd (both_ways _ (ap (is_marked (slice_set new key false)) e ∙ off-now new key) t) | inr d ↦ p.inside k (sym (struck-at new key k d) ∙ t) ];
  long = length-set new key false ∙ p.long;
}

pub cleared-all : (keys : List ℕ) (old new : List Bool) (upto : ℕ) → length keys ≡ upto → HoldsMarked old keys → IsPartCleared keys old new upto → AreClear new
cleared-all keys old new upto all held p key = false_from_ne_true _ (λ t.
    let i = place-of keys key (held key (p.inside key t)) in
    let b = i.1 in
    both_ways _ (sym (ap (is_marked new) i.2) ∙ p.off i.0 (omega arith)) t)

pub settling-none : (slots : Slots) (numbers : Numbers) (marks : List Bool) → IsSettling slots numbers marks marks true
settling-none slots numbers marks = record { inside = λ k t. t; keeps = λ other met within. within; struck = λ start within h. h; met = λ e. absurd (cc); long = refl }

escapes-from : (slots : Slots) (numbers : Numbers) (s within : ℕ → Bool) → ((key : ℕ) → s key ≡ within key) → (k : ℕ) → Escapes slots numbers s k → Escapes slots numbers within k
escapes-from slots numbers s within same k (out {j = j} c at t u) = out c at t (sym (same j) ∙ u)
escapes-from slots numbers s within same k (on {j = j} c at t e) = on c at t (escapes-from slots numbers s within same j e)

pub largest-from : (slots : Slots) (numbers : Numbers) (s within set : ℕ → Bool) → ((key : ℕ) → s key ≡ within key)
    → IsLargestMet slots numbers s set → IsLargestMet slots numbers within set
largest-from slots numbers s within set same r = record {
  inside = λ key t. sym (same key) ∙ r.inside key t;
  met = r.met;
  escapes = λ key t u. escapes-from slots numbers s within same key (r.escapes key (same key ∙ t) u);
  largest = λ other inside met. r.largest other (λ key t. same key ∙ inside key t) met;
}
