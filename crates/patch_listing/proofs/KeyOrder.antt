-- The order of keys.
use Rattle.std.proofs.Common.{◌≡◌, ℕ, ◌<◌, ◌∙◌, ◌++◌, inl, inr, true, false, List, [], ◌∷◌, refl, sym, ap, subst, arith}
use Rattle.std.specs.Prelude.{not}
use Rattle.std.specs.Cmp.Lexicographic.{slice_cmp}
use Rattle.std.specs.Cmp.{nat_cmp_is}
use Rattle.std.specs.Ordering.{nat_cmp, is_lt, ordering_then, ordering_reverse}
use Rattle.std.specs.declared.cmp.Ordering.{Ordering}
use Rattle.std.specs.declared.cmp.Ordering.TheVariants.{Less, Equal, Greater}
use Rattle.std.proofs.lemmas.Bool.{cases_Bool, cases_lt}
use Rattle.std.proofs.lemmas.Cmp.{nat_list_cmp_total, tied_itself}
use Rattle.std.proofs.lemmas.Map.Lookups.{exact_bytes}
use Rattle.patch_index.specs.Keys.{is_key_before}

is_less : (o : Ordering) → is_lt o ≡ true → o ≡ Less
is_less Less e = refl
is_less Equal e = absurd (cc)
is_less Greater e = absurd (cc)

back : (one other : List ℕ) (o : Ordering) → slice_cmp nat_cmp one other ≡ o → slice_cmp nat_cmp other one ≡ ordering_reverse o
back one other o is = nat_list_cmp_total.antisymm other one ∙ ap ordering_reverse is

-- what doesn't come before another comes behind it or is the same
or_same : (P : Type 0) (one other : List ℕ) (o : Ordering) → slice_cmp nat_cmp one other ≡ o → is_key_before one other ≡ false
    → (one ≡ other → P) → (is_key_before other one ≡ true → P) → P
or_same P one other Less is not_before same behind = absurd (let e : is_key_before one other ≡ true = ap is_lt is in cc)
or_same P one other Equal is not_before same behind = same (exact_bytes one other is)
or_same P one other Greater is not_before same behind = behind (ap is_lt (back one other Greater is))

pub before_both : (one mid other : List ℕ) → is_key_before one mid ≡ true → is_key_before mid other ≡ true → is_key_before one other ≡ true
before_both one mid other first second =
    ap is_lt (nat_list_cmp_total.trans one mid other (is_less (slice_cmp nat_cmp one mid) first) (is_less (slice_cmp nat_cmp mid other) second))

pub before_itself : (key : List ℕ) → is_key_before key key ≡ false
before_itself key = ap is_lt (tied_itself nat_list_cmp_total key)

-- one that comes before a bound comes before what doesn't
pub before_past : (one bound other : List ℕ) → is_key_before one bound ≡ true → is_key_before other bound ≡ false → is_key_before one other ≡ true
before_past one bound other before past =
    or_same (is_key_before one other ≡ true) other bound (slice_cmp nat_cmp other bound) refl past
    (λ same. subst (λ key. is_key_before one key ≡ true) (sym same) before) (λ behind. before_both one bound other before behind)

-- what doesn't come before another doesn't come before what that doesn't come before
pub past_both : (one mid other : List ℕ) → is_key_before one mid ≡ false → is_key_before mid other ≡ false → is_key_before one other ≡ false
past_both one mid other first second = elim (cases_Bool (is_key_before one other)) [
  | inl before ↦ absurd (let e : is_key_before one mid ≡ true = before_past one other mid before second in cc)
  | inr past ↦ past
]

-- two of which neither comes before the other are the same
pub same_key : (one other : List ℕ) → is_key_before one other ≡ false → is_key_before other one ≡ false → one ≡ other
same_key one other not_before not_behind =
    or_same (one ≡ other) one other (slice_cmp nat_cmp one other) refl not_before (λ same. same) (λ behind. absurd (cc))

pub not_behind : (one other : List ℕ) → is_key_before one other ≡ true → is_key_before other one ≡ false
not_behind one other before = elim (cases_Bool (is_key_before other one)) [
  | inl behind ↦ absurd (let e : is_key_before one one ≡ true = before_both one other one before behind in let f = before_itself one in cc)
  | inr not ↦ not
]

-- A key with a byte of zero more comes right behind it: just those come before that which don't come behind the key.

same_first : (x y : ℕ) (xs ys : List ℕ) → x ≡ y → slice_cmp nat_cmp (x ∷ xs) (y ∷ ys) ≡ slice_cmp nat_cmp xs ys
same_first x y xs ys same = ap (λ o. ordering_then o (slice_cmp nat_cmp xs ys)) (sym (nat_cmp_is x y Equal same))

less_first : (x y : ℕ) (xs ys : List ℕ) → x < y → slice_cmp nat_cmp (x ∷ xs) (y ∷ ys) ≡ Less
less_first x y xs ys less = ap (λ o. ordering_then o (slice_cmp nat_cmp xs ys)) (sym (nat_cmp_is x y Less less))

more_first : (x y : ℕ) (xs ys : List ℕ) → y < x → slice_cmp nat_cmp (x ∷ xs) (y ∷ ys) ≡ Greater
more_first x y xs ys more = ap (λ o. ordering_then o (slice_cmp nat_cmp xs ys)) (sym (nat_cmp_is x y Greater more))

none_before_empty : (key : List ℕ) → is_key_before key [] ≡ false
none_before_empty [] = refl
none_before_empty (x ∷ xs) = refl

pub right_behind : (key other : List ℕ) → is_key_before other (key ++ 0 ∷ []) ≡ not (is_key_before key other)
right_behind [] [] = refl
right_behind [] (y ∷ ys) = elim (cases_lt 0 y) [
  | inl more ↦ ap is_lt (more_first y 0 ys [] more)
  | inr none ↦ ap is_lt (same_first y 0 ys [] (omega arith)) ∙ none_before_empty ys
]
right_behind (x ∷ xs) [] = refl
right_behind (x ∷ xs) (y ∷ ys) = elim (cases_lt x y) [
  | inl less ↦ ap is_lt (more_first y x ys (xs ++ 0 ∷ []) less) ∙ sym (ap (λ o. not (is_lt o)) (less_first x y xs ys less))
  | inr over ↦ elim (cases_lt y x) [
    | inl more ↦ ap is_lt (less_first y x ys (xs ++ 0 ∷ []) more) ∙ sym (ap (λ o. not (is_lt o)) (more_first x y xs ys more))
    | inr under ↦
        ap is_lt (same_first y x ys (xs ++ 0 ∷ []) (omega arith)) ∙ right_behind xs ys ∙ sym (ap (λ o. not (is_lt o)) (same_first x y xs ys (omega arith)))
  ]
]
