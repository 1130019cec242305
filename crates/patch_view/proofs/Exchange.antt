-- One class exchanged.
use Rattle.std.proofs.Common.{◌≡◌, ℕ, ◌+◌, ◌<◌, ◌≤◌, ◌∙◌, true, false, inl, inr, Bool, List, length, get_or, refl, sym, ap, arith, get_or-set_same, get_or-set_other}
use Rattle.std.specs.Prelude.{◌≢◌, slice_range, if◌then◌else◌}
use Rattle.std.proofs.lemmas.Bool.{both_ways, cases_eq}
use Rattle.std.proofs.lemmas.List.{length-set, places}
use Rattle.patch_model.specs.Entry.{is_among}
use Rattle.patch_model.specs.History.{History, without}
use Rattle.patch_records.specs.declared.classes.Turn.{Turn}
use Rattle.patch_view.proofs.Sets.{IsUpper, holds-from}
use Rattle.patch_model.specs.Dependency.{class_depends}
use Rattle.patch_view.specs.History.{IsCoherent, class_covers, top, below}
use Rattle.patch_records.specs.Records.{Class, no_class, spans, may_be_taken}
use Rattle.patch_stacks.specs.State.{Block, class_at, exchanged_at}
use Rattle.patch_records.specs.Exchanges.{exchanged_with, leaves_taken}
use Rattle.patch_view.proofs.Naming.{like_named}
use Rattle.patch_view.specs.Meaning.{IsClassOf, IsBlockOf}
use Rattle.patch_view.proofs.Chain.{IsStep, below-without, top-without, off-without, exchanged-bytes, length-by}
use Rattle.patch_records.proofs.Bytes.{range-at, spans-from, spans-at, spans-not}
use Rattle.patch_stacks.proofs.ClassFields.{kept-at, name-kept, names-set}

-- what an exchange of the class c does, from one set to another: the bytes that it saves and those that it gives
pub record IsExchange (h : History) (c : ℕ) (from to : List ℕ) (mark : Bool) : Type 0 where
  pub holds : IsUpper h to
  pub saves : (x : ℕ) → class_covers h c x ≡ true → get_or (without h from) x 0 ≡ (if mark then top h c x else below h c x)
  pub gives : (x : ℕ) → class_covers h c x ≡ true → get_or (without h to) x 0 ≡ (if is_among from c then top h c x else below h c x)
  pub off : (x : ℕ) → class_covers h c x ≡ false → get_or (without h from) x 0 ≡ get_or (without h to) x 0
  pub flag : mark ≡ is_among to c
  pub others : (n : ℕ) → n ≢ c → is_among from n ≡ is_among to n

pub take-exchange : (h : History) (c : ℕ) (less more : List ℕ) → IsCoherent h → IsStep h c less more → IsExchange h c less more true
take-exchange h c less more o step = record {
  holds = step.more_holds;
  saves = λ x on. top-without h c less more x o step on;
  gives = λ x on. let out = step.out in rw out (below-without h c less more x o step on);
  off = λ x off. sym (off-without h c less more x o step off);
  flag = sym step.inside;
  others = λ n apart. sym (step.others n apart);
}

pub back-exchange : (h : History) (c : ℕ) (less more : List ℕ) → IsCoherent h → IsStep h c less more → IsExchange h c more less false
back-exchange h c less more o step = record {
  holds = step.less_holds;
  saves = λ x on. below-without h c less more x o step on;
  gives = λ x on. let inside = step.inside in rw inside (top-without h c less more x o step on);
  off = λ x off. off-without h c less more x o step off;
  flag = sym step.out;
  others = λ n apart. step.others n apart;
}

-- the others' records with a set that differs at the exchanged class alone
pub others-kept : (h : History) (from to : List ℕ) (c : Class) → IsClassOf h from c → is_among from c.name ≡ is_among to c.name → IsClassOf h to c
others-kept h from to c r same = record {
  known = r.known;
  named_by_member = r.named_by_member;
  members = r.members;
  after = r.after;
  marked = r.marked;
  span = r.span;
  flag = r.flag ∙ same;
  some = r.some;
  fits = r.fits;
  long = r.long;
  no_saved = r.no_saved;
  saved = r.saved;
}

-- the exchanged class's record
own-kept : (h : History) (from to : List ℕ) (turn : Turn) (bytes : List ℕ) (c : Class) → IsClassOf h from c → IsExchange h c.name from to (leaves_taken turn)
    → bytes ≡ without h from → length bytes ≡ 4096 → may_be_taken c ≡ true → IsClassOf h to (exchanged_with c bytes turn)
own-kept h from to turn bytes c r step is size may =
    let long : c.start + length c.saved ≡ c.stop = r.long may in
    let fits : c.stop ≤ 4096 = r.fits in
    record {
      known = r.known;
      named_by_member = r.named_by_member;
      members = r.members;
      after = r.after;
      marked = r.marked;
      span = r.span;
      flag = step.flag;
      some = r.some;
      fits = r.fits;
      long = λ m. let l : length (slice_range bytes c.start (c.start + length c.saved)) ≡ length c.saved = grind (arith, places) in ap (λ n. c.start + n) l ∙ long;
      no_saved = λ m. absurd (both_ways _ m may);
      saved = λ m x on. let p = spans-at c x on in
          range-at bytes c.start (c.start + length c.saved) x p.0 (omega arith) (omega arith)
          ∙ ap (λ z. get_or z x 0) is ∙ step.saves x (sym (r.span x) ∙ on);
    }

-- one class exchanged: bytes and records are those of the other set
pub exchanged-represents : (b : Block) (from to : List ℕ) (h : History) (at : ℕ) (turn : Turn) → IsBlockOf b from h → at < length b.classes
    → may_be_taken (class_at b at) ≡ true → IsExchange h (class_at b at).name from to (leaves_taken turn)
    → IsBlockOf (exchanged_at b at turn) to h
exchanged-represents b from to h at turn r within may step =
    let c = r.classes at within in
    let size : length b.bytes ≡ 4096 = ap length r.bytes ∙ length-by h _ r.coherent in
    let same_length : length (exchanged_at b at turn).classes ≡ length b.classes = length-set b.classes at _ in
    record {
      coherent = r.coherent;
      holds = holds-from h to step.holds;
      bytes = exchanged-bytes h (class_at b at).name _ _ (class_at b at).start (class_at b at).stop b.bytes (class_at b at).saved r.coherent r.bytes (c.long may) c.fits
          (λ x f t. let on : spans (class_at b at) x ≡ true = spans-from (class_at b at) x f t in
          let flag = c.flag in
          c.saved may x on ∙ rw flag (sym (step.gives x (sym (c.span x) ∙ on))))
          (λ x away. step.off x (sym (c.span x) ∙ spans-not (class_at b at) x away));
      classes = λ i h_i. elim (cases_eq i at) [
        | inl e ↦ rw (e, get_or-set_same b.classes at (exchanged_with (class_at b at) b.bytes turn) no_class within)
            (own-kept h from to turn b.bytes (class_at b at) c step r.bytes size may)
        | inr ne ↦ rw (get_or-set_other b.classes at i (exchanged_with (class_at b at) b.bytes turn) no_class ne)
            (let w : i < length b.classes = rw same_length at h_i in
            others-kept h from to (class_at b i) (r.classes i w) (step.others (class_at b i).name (λ q. ne (r.distinct i at w within q))))
      ];
      complete = λ e i low. names-set b.classes at e.class (exchanged_with (class_at b at) b.bytes turn) within refl ∙ r.complete e i low;
      distinct = λ i j h_i h_j same. r.distinct i j (rw same_length at h_i) (rw same_length at h_j)
          (sym (name-kept b at i turn within) ∙ same ∙ name-kept b at j turn within);
      named = like_named b (exchanged_at b at turn) h h (λ i h_i. (
        i,
        rw same_length at h_i,
        kept-at (λ c. c.name) b at i turn within refl,
        kept-at (λ c. c.members) b at i turn within refl,
        kept-at (λ c. c.after) b at i turn within refl,
      )) (λ c n. refl) r.named;
      ordered = λ i j less h_j.
          ap (λ n. class_depends h.entries n (class_at (exchanged_at b at turn) j).name) (name-kept b at i turn within)
          ∙ ap (λ n. class_depends h.entries (class_at b i).name n) (name-kept b at j turn within)
          ∙ r.ordered i j less (rw same_length at h_j);
    }
