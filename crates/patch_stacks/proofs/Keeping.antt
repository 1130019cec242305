-- What is kept of numbers in runs: number by number, or member by member.
use Rattle.std.proofs.Common.{◌≡◌, ℕ, ◌+◌, ◌<◌, ◌≤◌, ◌⊎◌, ◌∙◌, true, false, inl, inr, List, [], ◌∷◌, ◌++◌, length, get_or, take, sym, ap, subst, arith, append-nil, append_assoc}
use Rattle.std.proofs.lemmas.Bool.{both_ways, or_cases, or_left, or_right, cases_eq}
use Rattle.std.proofs.lemmas.List.{take_more}
use Rattle.patch_model.specs.Entry.{is_among}
use Rattle.patch_model.specs.declared.runs.Run.{Run}
use Rattle.patch_records.specs.Records.{Class}
use Rattle.patch_stacks.specs.State.{Block, class_at, KeepsNames}
use Rattle.patch_numbers.specs.Runs.{LieWithin}
use Rattle.patch_stacks.specs.Names.{KeepsMore, TakesMembers}
use Rattle.patch_stacks.proofs.Apart.{member_inside}
use Rattle.patch_stacks.proofs.Naming.{pushed-cases, pushed-old, pushed-new, keeps_none, keeps_more, keeps_less}

-- Number by number.

pub none_more : (b : Block) (kept : List ℕ) → KeepsMore b [] kept kept
none_more b kept = record { on = λ before k. subst (λ ns. KeepsNames b ns kept) (sym (append-nil before)) k }

pub then_more : (b : Block) (xs ys old mid new : List ℕ) → KeepsMore b xs old mid → KeepsMore b ys mid new → KeepsMore b (xs ++ ys) old new
then_more b xs ys old mid new first second =
    record { on = λ before k. subst (λ ns. KeepsNames b ns new) (append_assoc before xs ys) (second.on (before ++ xs) (first.on before k)) }

-- a number that may be a member, and one that isn't
pub one_more : (b : Block) (kept new : List ℕ) (x : ℕ) → new ≡ kept ++ x ∷ [] → KeepsMore b (x ∷ []) kept new
one_more b kept new x is = record { on = λ before k. subst (λ ns. KeepsNames b (before ++ x ∷ []) ns) (sym is) (keeps_more b before kept x k) }

pub one_less : (b : Block) (kept : List ℕ) (x : ℕ) → ((i : ℕ) → is_among (class_at b i).members x ≡ false) → KeepsMore b (x ∷ []) kept kept
one_less b kept x none = record { on = λ before k. keeps_less b before kept x k none }

pub all_more : (b : Block) (named kept : List ℕ) → KeepsMore b named [] kept → KeepsNames b named kept
all_more b named kept k = k.on [] (keeps_none b)

-- Member by member.

pub none_taken : (named old : List ℕ) → TakesMembers [] named old old
none_taken named old = record {
  from = λ n t. or_left _ (is_among named n) t;
  kept = λ n t. t;
  all = λ n m t. absurd (cc);
}

pub one_taken : (members named old mid new : List ℕ) (x : ℕ) → new ≡ mid ++ x ∷ [] → is_among named x ≡ true → TakesMembers members named old mid
    → TakesMembers (members ++ x ∷ []) named old new
one_taken members named old mid new x is on k = subst (λ ns. TakesMembers (members ++ x ∷ []) named old ns) (sym is) (record {
  from = λ n t. elim (pushed-cases mid x n t) [
    | inl before ↦ k.from n before
    | inr e ↦ or_right (is_among old n) _ (ap (is_among named) (sym e) ∙ on)
  ];
  kept = λ n t. pushed-old mid x n (k.kept n t);
  all = λ n m t. elim (pushed-cases members x n m) [ inl before ↦ pushed-old mid x n (k.all n before t) | inr e ↦ pushed-new mid x n e ];
})

pub one_left : (members named old new : List ℕ) (x : ℕ) → is_among named x ≡ false → TakesMembers members named old new → TakesMembers (members ++ x ∷ []) named old new
one_left members named old new x off k = record {
  from = k.from;
  kept = k.kept;
  all = λ n m t. elim (pushed-cases members x n m) [ inl before ↦ k.all n before t | inr e ↦ absurd (both_ways _ off (ap (is_among named) e ∙ t)) ];
}

-- one more of the members, taken or not
pub next_taken : (members named old mid new : List ℕ) (i x : ℕ) → i < length members → x ≡ get_or members i x → TakesMembers (take i members) named old mid
    → ((is_among named x ≡ true) × (new ≡ mid ++ x ∷ [])) ⊎ ((is_among named x ≡ false) × (new ≡ mid)) → TakesMembers (take (i + 1) members) named old new
next_taken members named old mid new i x within is before now =
    subst (λ ms. TakesMembers ms named old new) (sym (take_more members i x within ∙ ap (λ (k : ℕ). take i members ++ k ∷ []) (sym is))) (elim now [
      | inl on ↦ one_taken (take i members) named old mid new x on.1 on.0 before
      | inr off ↦ one_left (take i members) named old new x off.0 (subst (λ ns. TakesMembers (take i members) named old ns) (sym off.1) before)
    ])

-- none of the members is among those that are named
none_among_taken : (members named old : List ℕ) → ((n : ℕ) → is_among members n ≡ true → is_among named n ≡ true → ⊥) → TakesMembers members named old old
none_among_taken members named old none = record {
  from = λ n t. or_left _ (is_among named n) t;
  kept = λ n t. t;
  all = λ n m t. absurd (none n m t);
}

-- all members lie below those that are named
pub below_taken : (members named old : List ℕ) (around : Run) (highest : ℕ) → ((n : ℕ) → is_among members n ≡ true → n ≤ highest) → LieWithin around named
    → highest < around.first → TakesMembers members named old old
below_taken members named old around highest high within below =
    none_among_taken members named old (λ n m t. let w = within n t in let h = high n m in omega (arith, w.0, h, below))

-- or above them
pub above_taken : (members named old : List ℕ) (around : Run) (lowest : ℕ) → ((n : ℕ) → is_among members n ≡ true → lowest ≤ n) → LieWithin around named
    → around.last < lowest → TakesMembers members named old old
above_taken members named old around lowest low within above =
    none_among_taken members named old (λ n m t. let w = within n t in let l = low n m in omega (arith, w.1, l, above))

-- of the first classes all members were taken that are named
pub record KeepsUpto (b : Block) (named : List ℕ) (count : ℕ) (kept : List ℕ) : Type 0 where
  pub from : (n : ℕ) → is_among kept n ≡ true → is_among named n ≡ true
  pub live : (i n : ℕ) → i < count → is_among (class_at b i).members n ≡ true → is_among named n ≡ true → is_among kept n ≡ true

pub upto_none : (b : Block) (named : List ℕ) → KeepsUpto b named 0 []
upto_none b named = record { from = λ n t. absurd (cc); live = λ i n w m t. absurd (omega (arith, w)) }

pub upto_next : (b : Block) (named : List ℕ) (at : ℕ) (c : Class) (old new : List ℕ) → c ≡ class_at b at → KeepsUpto b named at old → TakesMembers c.members named old new
    → KeepsUpto b named (at + 1) new
upto_next b named at c old new here k took = record {
  from = λ n t. elim (or_cases (is_among old n) (is_among named n) (took.from n t)) [ inl before ↦ k.from n before | inr on ↦ on ];
  live = λ i n w m t. elim (cases_eq i at) [
    | inl e ↦ took.all n (ap (λ k. is_among k.members n) here ∙ sym (ap (λ (z : ℕ). is_among (class_at b z).members n) e) ∙ m) t
    | inr ne ↦ took.kept n (k.live i n (omega (arith, w, ne)) m t)
  ];
}

pub upto_all : (b : Block) (named : List ℕ) (count : ℕ) (kept : List ℕ) → length b.classes ≤ count → KeepsUpto b named count kept → KeepsNames b named kept
upto_all b named count kept over k = record {
  from = k.from;
  live = λ i n m t. let w = member_inside b.classes i n m in k.live i n (omega (arith, w, over)) m t;
}
